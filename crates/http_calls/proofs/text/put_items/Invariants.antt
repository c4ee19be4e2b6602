use Rattle.std.proofs.Common.{◌≡◌, ◌++◌, drop}
use Rattle.action_fields.specs.Tokens.{items_outline_tokens}
use Rattle.http_calls.specs.Answers.{entries_items}
use Rattle.http_calls.proofs.text.put_items.Given as goal

abbrev pub invariant-loop-entry : goal.invariant-loop-entry
invariant-loop-entry l =
    (l.out.before ≡ l.initial.out.before)
    × (l.out.tokens ++ items_outline_tokens (entries_items (drop l.entry-index l.entries)) ≡ l.initial.out.tokens ++ items_outline_tokens (entries_items l.entries))
