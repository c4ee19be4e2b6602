use Rattle.std.proofs.Common.{append_assoc}
use Rattle.log_names.specs.Texts.{checkpoint_text}
use Rattle.log_names.proofs.writing.checkpoint.Goals as goal

pub returns : goal.returns
unfolding checkpoint_text
returns c = rw (c.put-2.ensures, c.put_id.ensures, c.put.ensures, c.put_version.ensures, c.empty-text.ensures) (simp append_assoc)
