use Rattle.std.proofs.Common.{Bor, List, ℕ, length, unwrap_or, ap, ◌∙◌}
use Rattle.staged_commit.specs.Places.{is_not_before}
use Rattle.staged_commit.proofs.InOrder.{place-of-first}
use Rattle.staged_commit.proofs.features.place_of.Goals as goal

pub returns : goal.returns
returns c =
    c.unwrap_or.ensures ∙ ap (λ o. unwrap_or o (length c.args.list.now)) c.first_not_before.ensures
    ∙ place-of-first (λ (n : Bor (List ℕ)). is_not_before c.args.name.now n.now) c.args.list.now
