use Rattle.log_names.proofs.Forms.{published_is_not_staged, published_is_not_checkpoint, staged_is_not_checkpoint}
use Rattle.log_names.proofs.laws.kinds_differ.Goals as goal

pub returns : goal.returns
returns c = record {
  published_staged = published_is_not_staged;
  published_checkpoint = published_is_not_checkpoint;
  staged_checkpoint = staged_is_not_checkpoint;
}
