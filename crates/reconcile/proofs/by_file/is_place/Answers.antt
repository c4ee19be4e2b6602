use Rattle.std.proofs.Common.{◌∙◌, refl}
use Rattle.action_types.specs.Files.{offset_text}
use Rattle.reconcile.proofs.Ids.{prefix_not, prefix_then}
use Rattle.reconcile.proofs.by_file.is_place.Goals as goal

pub returns-in-Some : goal.returns-in-Some
returns-in-Some c =
    prefix_then c.args.vector.now.locator (offset_text c.args.vector.now.offset) c.args.text.now c.as_bytes-locator.result.now c.args.text.now c.in-Some.rest.now c.is_offset.result
    (c.as_bytes-locator.ensures.value ∙ c.as_str.ensures) refl c.in-Some.ensures.cases.0 c.in-Some.ensures.cases.1 c.is_offset.ensures

pub returns-in-None : goal.returns-in-None
returns-in-None c =
    prefix_not c.args.vector.now.locator (offset_text c.args.vector.now.offset) c.args.text.now c.as_bytes-locator.result.now c.args.text.now
    (c.as_bytes-locator.ensures.value ∙ c.as_str.ensures) refl c.in-None.ensures.cases
