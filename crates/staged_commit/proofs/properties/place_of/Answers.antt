use Rattle.std.proofs.Common.{Bor, length, unwrap_or, ap, ◌∙◌}
use Rattle.action_fields.specs.Types.{Pair}
use Rattle.staged_commit.specs.Places.{is_not_before}
use Rattle.staged_commit.proofs.InOrder.{place-of-first}
use Rattle.staged_commit.proofs.properties.place_of.Goals as goal

pub returns : goal.returns
returns c =
    c.unwrap_or.ensures ∙ ap (λ o. unwrap_or o (length c.args.list.now)) c.first_not_before.ensures
    ∙ place-of-first (λ (p : Bor Pair). is_not_before c.args.name.now p.now.0) c.args.list.now
