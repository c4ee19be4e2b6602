-- What is known after a turn, as a function of what was known, the call, its answer and the world afterwards.
use Rattle.std.specs.Prelude.{◌+◌, ◌==◌, ◌&&◌, ℕ, List, [], ◌∷◌, ◌++◌, max, cond, nat_lt, length, filter_map, Result, Ok, Err, Option, Some, None, Vec}
use Rattle.std.specs.declared.alloc.Global.{Global}
use Rattle.log_names.specs.declared.LogName.{LogName}
use Rattle.log_names.specs.declared.LogName.TheVariants as name
use Rattle.commit_catalog.specs.declared.Commits.{Commits}
use Rattle.commit_catalog.specs.declared.Ratify.{Ratify}
use Rattle.commit_catalog.specs.declared.Ratify.TheVariants as ratify
use Rattle.object_store.specs.declared.store.Put.{Put}
use Rattle.object_store.specs.declared.store.Bytes.{Bytes}
use Rattle.object_store.specs.declared.store.Bytes.TheVariants as bytes
use Rattle.object_store.specs.declared.store.Gone.{Gone}
use Rattle.table_model.specs.declared.answers.StepFault.{StepFault}
use Rattle.table_model.specs.declared.answers.StepFault.TheVariants.{Fault, Memory}
use Rattle.table_model.specs.declared.answers.Looked.{Looked}
use Rattle.table_model.specs.declared.answers.Staged.{Staged}
use Rattle.table_model.specs.declared.answers.Staged.TheVariants as staged
use Rattle.table_model.specs.declared.known.Refusal.TheVariants as refusal
use Rattle.table_model.specs.Log.{Commit, commit_at}
use Rattle.table_model.specs.World.{WorldData, log_of}
use Rattle.table_model.specs.Knowledge.{Knowledge}
use Rattle.table_model.specs.Conditions.{triple}
use Rattle.table_model.specs.Learning.{fault_noted, mark_of, kept_after, tries_after}

abbrev pub fault_learned : Knowledge → StepFault → Knowledge
fault_learned k Memory = k
fault_learned k (Fault at) = fault_noted at k

abbrev pub commits_learned : Knowledge → Result Commits StepFault → WorldData → Knowledge
commits_learned k (Ok c) x = record k { seen = log_of x; published = max k.published c.reported; reported = c.reported; heard = k.heard ++ c.reported ∷ []; asks = k.asks + 1 }
commits_learned k (Err e) x = k

abbrev pub lookup_learned : Knowledge → Result Looked StepFault → WorldData → Knowledge
lookup_learned k (Ok a) x = record k { seen = log_of x; asks = k.asks + 1 }
lookup_learned k (Err e) x = k

-- one more than the greatest version of a published name, or 0
abbrev pub above_published : LogName → ℕ → ℕ
above_published (name.Published version) n = max (version + 1) n
above_published (name.Staged version id) n = n
above_published (name.Checkpoint version id) n = n
above_published (name.Parquet version) n = n
above_published name.Other n = n

abbrev pub shown_in : List LogName → ℕ
shown_in [] = 0
shown_in (n ∷ ns) = above_published n (shown_in ns)

abbrev pub list_learned : Knowledge → Result (Vec LogName Global) StepFault → Knowledge
list_learned k (Ok names) = record k { listed = names.items; published = max k.published (shown_in names.items); marks = k.marks ++ filter_map mark_of names.items; lists = k.lists + 1 }
list_learned k (Err e) = fault_learned k e

abbrev pub published_by : LogName → ℕ → ℕ
published_by (name.Published version) n = max n (version + 1)
published_by (name.Staged version id) n = n
published_by (name.Checkpoint version id) n = n
published_by (name.Parquet version) n = n
published_by name.Other n = n

-- a ratified version whose staged file is gone is published
abbrev pub published_where_gone : LogName → List Commit → ℕ → ℕ
published_where_gone (name.Published version) seen n = n
published_where_gone (name.Staged version id) seen n = cond (nat_lt version (length seen) && (id == (commit_at seen version).id)) (max n (version + 1)) n
published_where_gone (name.Checkpoint version id) seen n = n
published_where_gone (name.Parquet version) seen n = n
published_where_gone name.Other seen n = n

abbrev pub get_learned : LogName → Knowledge → Result Bytes StepFault → Knowledge
get_learned n k (Ok (bytes.Whole b)) = record (kept_after n b.items k) { published = published_by n k.published; gets = k.gets + 1 }
get_learned n k (Ok bytes.Absent) = record k { published = published_where_gone n k.seen k.published; absents = k.absents ++ n ∷ []; gets = k.gets + 1 }
get_learned n k (Err e) = fault_learned k e

abbrev pub stage_learned : ℕ → ℕ → List ℕ → Knowledge → Result Staged StepFault → Knowledge
stage_learned version id text k (Ok staged.Done) = record k { kept = k.kept ++ triple version id text ∷ []; put = k.put ++ name.Staged version id ∷ [] }
stage_learned version id text k (Ok staged.Taken) = record k { takens = k.takens ++ name.Staged version id ∷ [] }
stage_learned version id text k (Err Memory) = k
stage_learned version id text k (Err (Fault at)) = record (fault_noted at k) { put = k.put ++ name.Staged version id ∷ [] }

abbrev pub ratify_learned : ℕ → Knowledge → Result Ratify StepFault → WorldData → Knowledge
ratify_learned version k (Ok ratify.Done) x = record k { seen = log_of x; mine = k.mine ++ version ∷ [] }
ratify_learned version k (Ok (ratify.Lost latest)) x = record k { seen = log_of x; tries = tries_after k version refusal.Lost }
ratify_learned version k (Ok (ratify.Full latest)) x = record k { seen = log_of x }
ratify_learned version k (Ok (ratify.Backlog latest reported)) x =
    record k { seen = log_of x; published = max k.published reported; reported = reported; tries = tries_after k version refusal.Backlog }
ratify_learned version k (Err e) x = k

abbrev pub publish_learned : ℕ → Knowledge → Result Put StepFault → Knowledge
publish_learned version k (Ok answer) = record k { published = max k.published (version + 1) }
publish_learned version k (Err e) = fault_learned k e

abbrev pub report_learned : Knowledge → Result ℕ StepFault → Knowledge
report_learned k (Ok answer) = record k { published = max k.published answer; reported = answer }
report_learned k (Err e) = k

abbrev pub clear_learned : ℕ → ℕ → Knowledge → Result Gone StepFault → Knowledge
clear_learned version id k (Ok answer) = record k { cleared = k.cleared ++ record { name = name.Staged version id; answer = answer } ∷ [] }
clear_learned version id k (Err e) = fault_learned k e
