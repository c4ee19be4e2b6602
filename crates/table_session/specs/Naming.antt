-- What a reply names.
use Rattle.std.specs.Prelude.{◌+◌, true, [], ◌∷◌, Some}
use Rattle.log_names.specs.declared.LogName.TheVariants as name
use Rattle.answer_names.specs.Names.{Names, nothing, all_versions, on_base}
use Rattle.session_lines.specs.declared.reply.Reply.{Reply}
use Rattle.session_lines.specs.declared.reply.Reply.TheVariants as reply

abbrev pub named_by : Reply → Names
named_by (reply.Committed base time version) = record (all_versions (version + 1)) { base = base; versions = version ∷ [] }
named_by (reply.Already latest recorded) = all_versions (latest + 1)
named_by (reply.Loaded s) = all_versions (s.latest + 1)
named_by reply.NoTable = all_versions 0
named_by (reply.Exists latest) = all_versions (latest + 1)
named_by (reply.Broken base why) = on_base base
named_by (reply.Conflict base key latest rule vector winner) = record (all_versions (latest + 1)) { base = Some base; contested = true }
named_by (reply.Contended attempts latest) = record (all_versions (latest + 1)) { contested = true; tries = attempts }
named_by (reply.Full latest) = all_versions (latest + 1)
named_by (reply.TimeEnd base last) = on_base (Some base)
named_by (reply.TooLarge base bytes) = on_base base
named_by (reply.Taken base id version) = record (on_base base) { takens = name.Staged version id ∷ [] }
named_by (reply.Fault at) = record nothing { spots = at ∷ [] }
named_by reply.Memory = nothing
named_by (reply.BadLine at why) = nothing
