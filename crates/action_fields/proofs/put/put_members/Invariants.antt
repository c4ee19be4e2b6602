use Rattle.std.proofs.Common.{◌≡◌, ◌++◌, drop}
use Rattle.action_fields.specs.Canonical.{pairs_members}
use Rattle.action_fields.specs.Tokens.{members_outline_tokens}
use Rattle.action_fields.proofs.put.put_members.Given as goal

abbrev pub invariant-loop-pair : goal.invariant-loop-pair
invariant-loop-pair l =
    (l.out.before ≡ l.initial.out.before)
    × (l.out.tokens ++ members_outline_tokens (pairs_members (drop l.pair-index l.pairs)) ≡ l.initial.out.tokens ++ members_outline_tokens (pairs_members l.pairs))
