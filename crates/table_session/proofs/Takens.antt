-- The names that replies tell as taken are those of the answers that they tell.
use Rattle.std.proofs.Common.{◌≡◌, [], refl, Result, Ok, Err, ℕ}
use Rattle.table_model.specs.declared.snapshot.Snapshot.{Snapshot}
use Rattle.snapshot_load.specs.declared.errors.LoadError.{LoadError}
use Rattle.snapshot_load.specs.declared.errors.LoadError.TheVariants as load
use Rattle.writer_txn.specs.declared.answers.Written.{Written}
use Rattle.writer_txn.specs.declared.answers.Written.TheVariants as written
use Rattle.writer_txn.specs.declared.errors.WriteError.{WriteError}
use Rattle.writer_txn.specs.declared.errors.WriteError.TheVariants as failed
use Rattle.writer_txn.specs.Named.{taken_names}
use Rattle.session_lines.specs.declared.fault.BadLine.{BadLine}
use Rattle.session_lines.specs.declared.fault.BadLine.TheVariants as bad
use Rattle.table_session.specs.Naming.{named_by}
use Rattle.table_session.specs.Replying.{loaded_reply, refusal_reply, written_reply}

pub takens_written : (r : Result Written WriteError) → taken_names r ≡ (named_by (written_reply r)).takens
takens_written (Ok (written.Committed version base time)) = refl
takens_written (Ok answer) = refl
takens_written (Err (failed.Taken base version id)) = refl
takens_written (Err e) = refl

pub takens_loaded : (r : Result Snapshot LoadError) → [] ≡ (named_by (loaded_reply r)).takens
takens_loaded (Ok s) = refl
takens_loaded (Err load.Memory) = refl
takens_loaded (Err e) = refl

pub takens_refused : (at : ℕ) (b : BadLine) → [] ≡ (named_by (refusal_reply at b)).takens
takens_refused at bad.Memory = refl
takens_refused at b = refl
