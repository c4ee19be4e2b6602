use Rattle.std.proofs.Common.{subst, sym, ap, ◌∙◌}
use Rattle.log_names.specs.declared.LogName.{LogName}
use Rattle.log_names.specs.Texts.{IsNameOf}
use Rattle.log_names.specs.Reading.{name_of}
use Rattle.log_names.proofs.Names.{name_of-meaning}
use Rattle.log_names.proofs.LogName.parse.Goals as goal

pub returns-clause-meaning : goal.returns-clause-meaning
returns-clause-meaning c =
    let P : LogName → Type 0 = IsNameOf c.args.text.now in
    subst P (sym (c.parse_bytes.ensures ∙ ap name_of c.as_bytes.ensures.value)) (name_of-meaning c.args.text.now)
