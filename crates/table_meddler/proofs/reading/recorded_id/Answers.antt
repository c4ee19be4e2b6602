use Rattle.std.proofs.Common.{◌∙◌, ap, arith}
use Rattle.std.proofs.lemmas.List.{get_or_read}
use Rattle.commit_catalog.specs.declared.Ratified.{Ratified}
use Rattle.table_model.specs.Learning.{no_ratified}
use Rattle.table_meddler.proofs.ReadWorlds.{handed, staged_within, staged_id, commits_shown}
use Rattle.table_meddler.proofs.reading.recorded_id.Goals as goal

pub index-requires : goal.index-requires
index-requires g c =
    let h = staged_within c.args.world.now c.in_ok-commits.commits c.args.version c.requires.consistent c.in_ok-commits.ensures.turn.0 c.requires.ratified c.if-version-commits.false in
    omega (arith, h, c.in_ok-commits.commits.staged.ok.0)

pub returns-clause-id : goal.returns-clause-id
returns-clause-id g c =
    ap (λ (r : Ratified). r.id) (get_or_read c.in_ok-commits.commits.staged.items _ _ (staged_within c.args.world.now c.in_ok-commits.commits c.args.version c.requires.consistent c.in_ok-commits.ensures.turn.0 c.requires.ratified c.if-version-commits.false) c.index.ensures no_ratified)
    ∙ staged_id c.args.world.now c.in_ok-commits.commits c.args.version c.requires.consistent c.in_ok-commits.ensures.turn.0 c.requires.ratified c.if-version-commits.false

pub returns-in_err-commits-clause-fault : goal.returns-in_err-commits-clause-fault
returns-in_err-commits-clause-fault g c = handed c.from_residual.result c.in_err-commits.field-0.0 _ c.from_residual.ensures.1 (commits_shown _ _ c.in_err-commits.field-0.0 c.in_err-commits.ensures.turn)
