use Rattle.log_names.proofs.Names.{name_of-text, text-name_of, same_name}
use Rattle.log_names.proofs.laws.one_to_one.Goals as goal

pub returns : goal.returns
returns c = record { of_text = name_of-text; text_of = text-name_of; same = same_name }
