use Rattle.std.proofs.Common.{◌++◌, ◌∙◌}
use Rattle.action_types.specs.Files.{offset_text}
use Rattle.reconcile.proofs.Ids.{whole_id, prefix_not, prefix_then}
use Rattle.reconcile.proofs.by_file.is_id.Goals as goal

pub returns-in-Some : goal.returns-in-Some
returns-in-Some c =
    prefix_then c.args.vector.now.storage (c.args.vector.now.locator ++ offset_text c.args.vector.now.offset) c.args.id.now c.as_bytes-storage.result.now c.as_bytes-text.result.now
    c.in-Some.place.now c.is_place.result
    (c.as_bytes-storage.ensures.value ∙ c.as_str.ensures) c.as_bytes-text.ensures.value c.in-Some.ensures.cases.0 c.in-Some.ensures.cases.1 c.is_place.ensures
    ∙ whole_id c.args.vector.now c.args.id.now

pub returns-in-None : goal.returns-in-None
returns-in-None c =
    prefix_not c.args.vector.now.storage (c.args.vector.now.locator ++ offset_text c.args.vector.now.offset) c.args.id.now c.as_bytes-storage.result.now c.as_bytes-text.result.now
    (c.as_bytes-storage.ensures.value ∙ c.as_str.ensures) c.as_bytes-text.ensures.value c.in-None.ensures.cases
    ∙ whole_id c.args.vector.now c.args.id.now
