use Rattle.log_names.proofs.Names.{only_name, name_of-in_range, form_short}
use Rattle.log_names.proofs.laws.one_name.Goals as goal

pub returns : goal.returns
returns c = record { only = only_name; in_range = name_of-in_range; short = form_short }
