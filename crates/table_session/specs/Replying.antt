-- The replies that tell the answers of the calls.
use Rattle.std.specs.Prelude.{ℕ, Result, Ok, Err}
use Rattle.table_model.specs.declared.snapshot.Snapshot.{Snapshot}
use Rattle.snapshot_load.specs.declared.errors.LoadError.{LoadError}
use Rattle.snapshot_load.specs.declared.errors.LoadError.TheVariants as load
use Rattle.writer_txn.specs.declared.answers.Written.{Written}
use Rattle.writer_txn.specs.declared.answers.Written.TheVariants as written
use Rattle.writer_txn.specs.declared.errors.WriteError.{WriteError}
use Rattle.writer_txn.specs.declared.errors.WriteError.TheVariants as failed
use Rattle.session_lines.specs.declared.fault.BadLine.{BadLine}
use Rattle.session_lines.specs.declared.fault.BadLine.TheVariants as bad
use Rattle.session_lines.specs.declared.fault.LineWhy.TheVariants as why
use Rattle.session_lines.specs.declared.reply.Reply.{Reply}
use Rattle.session_lines.specs.declared.reply.Reply.TheVariants as reply

-- to the line of this number, of which no request was read
abbrev pub refusal_reply : ℕ → BadLine → Reply
refusal_reply at bad.Utf8 = reply.BadLine at why.Utf8
refusal_reply at bad.NotJson = reply.BadLine at why.NotJson
refusal_reply at bad.NotObject = reply.BadLine at why.NotObject
refusal_reply at bad.Op = reply.BadLine at why.Op
refusal_reply at (bad.Field field) = reply.BadLine at (why.Field field)
refusal_reply at bad.Memory = reply.Memory

-- to a load of the last version; the errors of other loads don't come
abbrev pub loaded_reply : Result Snapshot LoadError → Reply
loaded_reply (Ok s) = reply.Loaded s
loaded_reply (Err load.NoTable) = reply.NoTable
loaded_reply (Err (load.AfterLatest version latest)) = reply.Memory
loaded_reply (Err (load.BeforeFirst first latest)) = reply.Memory
loaded_reply (Err (load.Fault at)) = reply.Fault at
loaded_reply (Err load.Memory) = reply.Memory

-- to a create or a write
abbrev pub written_reply : Result Written WriteError → Reply
written_reply (Ok (written.Committed version base time)) = reply.Committed base time version
written_reply (Ok (written.Already recorded latest)) = reply.Already latest recorded
written_reply (Err failed.NoTable) = reply.NoTable
written_reply (Err (failed.Exists latest)) = reply.Exists latest
written_reply (Err (failed.Broken base why)) = reply.Broken base why
written_reply (Err (failed.Conflict base winner rule key vector latest)) = reply.Conflict base key latest rule vector winner
written_reply (Err (failed.Contended attempts latest)) = reply.Contended attempts latest
written_reply (Err (failed.Full latest)) = reply.Full latest
written_reply (Err (failed.TimeEnd base last)) = reply.TimeEnd base last
written_reply (Err (failed.TooLarge base bytes)) = reply.TooLarge base bytes
written_reply (Err (failed.Taken base version id)) = reply.Taken base id version
written_reply (Err (failed.Fault at)) = reply.Fault at
written_reply (Err failed.Memory) = reply.Memory
