use Rattle.std.proofs.Common.{Bor, length, unwrap_or, ap, ◌∙◌}
use Rattle.action_types.specs.declared.actions.Add.{Add}
use Rattle.action_types.specs.Files.{file_of_add}
use Rattle.staged_commit.specs.Adds.{is_after}
use Rattle.staged_commit.proofs.InOrder.{place-of-first}
use Rattle.staged_commit.proofs.append.place_of.Goals as goal

pub returns : goal.returns
returns c =
    c.unwrap_or.ensures ∙ ap (λ o. unwrap_or o (length c.args.list.now)) c.first_after.ensures
    ∙ place-of-first (λ (a : Bor Add). is_after (file_of_add c.args.add.now) a.now) c.args.list.now
