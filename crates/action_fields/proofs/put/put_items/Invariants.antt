use Rattle.std.proofs.Common.{◌≡◌, ◌++◌, drop}
use Rattle.action_fields.specs.Canonical.{texts_items}
use Rattle.action_fields.specs.Tokens.{items_outline_tokens}
use Rattle.action_fields.proofs.put.put_items.Given as goal

abbrev pub invariant-loop-name : goal.invariant-loop-name
invariant-loop-name l =
    (l.out.before ≡ l.initial.out.before)
    × (l.out.tokens ++ items_outline_tokens (texts_items (drop l.name-index l.names)) ≡ l.initial.out.tokens ++ items_outline_tokens (texts_items l.names))
