use Rattle.std.proofs.Common.{◌∙◌, ap, sym}
use Rattle.std.specs.Prelude.{bytes_eq}
use Rattle.action_types.specs.Files.{offset_text}
use Rattle.reconcile.proofs.Ids.{empty_is}
use Rattle.reconcile.proofs.by_file.is_offset.Goals as goal

pub returns-in-None : goal.returns-in-None
returns-in-None c =
    c.is_empty.ensures ∙ empty_is c.args.text.now ∙ ap (λ o. bytes_eq (offset_text o) c.args.text.now) (sym c.in-None.is)
