use Rattle.std.proofs.Common.{◌∙◌, ap}
use Rattle.table_meddler.specs.Judging.{items_of}
use Rattle.table_meddler.proofs.ReadWorlds.{handed, if_ok, published_commit, staged_found, if_err, shown_later, read_trans}
use Rattle.table_meddler.proofs.reading.commit_bytes.Goals as goal

pub returns-in-Some-clause-bytes : goal.returns-in-Some-clause-bytes
returns-in-Some-clause-bytes g c = λ t. published_commit c.args.world.now c.args.version c.in-Some.bytes.items c.requires.ratified (c.in_ok-bytes.ensures.file t ∙ ap items_of c.in-Some.is)

pub returns-in-Some-2-clause-bytes : goal.returns-in-Some-2-clause-bytes
returns-in-Some-2-clause-bytes g c =
    if_ok c.file-in-Some-2.result _ _ (λ found h. staged_found c.args.world.now c.file.new.world c.recorded_id.new.world c.args.version c.in-Some-2.id found c.requires.consistent c.requires.ratified c.in_ok-bytes.ensures.read c.in_ok-id.ensures.read
    (λ t. c.in_ok-bytes.ensures.file t ∙ ap items_of c.in-None.is) (rw c.in-Some-2.is at c.in_ok-id.ensures.id) h) c.file-in-Some-2.ensures.file

pub returns-in_err-id-clause-fault : goal.returns-in_err-id-clause-fault
returns-in_err-id-clause-fault g c =
    handed c.from_residual-in_err-id.result c.in_err-id.field-0.0 _ c.from_residual-in_err-id.ensures.1 (shown_later _ _ _ c.in_err-id.field-0.0 c.in_ok-bytes.ensures.read.tally c.in_err-id.ensures.fault)

pub returns-in-Some-2-clause-fault : goal.returns-in-Some-2-clause-fault
returns-in-Some-2-clause-fault g c =
    let both = read_trans _ _ _ c.in_ok-bytes.ensures.read c.in_ok-id.ensures.read in
    if_err c.file-in-Some-2.result _ _ (λ e h. shown_later _ _ _ e both.tally h) c.file-in-Some-2.ensures.fault
