-- What a note changes of what is known but for the log that was seen, by the answer of the turn.
use Rattle.std.specs.Prelude.{◌+◌, ◌==◌, ◌&&◌, ℕ, Bool, List, [], ◌∷◌, ◌++◌, max, cond, nat_lt, length, false, Result, Ok, Err}
use Rattle.log_names.specs.declared.LogName.{LogName}
use Rattle.log_names.specs.declared.LogName.TheVariants as name
use Rattle.commit_catalog.specs.declared.Ratify.{Ratify}
use Rattle.commit_catalog.specs.declared.Ratify.TheVariants as ratify
use Rattle.object_store.specs.declared.store.Bytes.{Bytes}
use Rattle.object_store.specs.declared.store.Bytes.TheVariants as bytes
use Rattle.table_model.specs.declared.answers.StepFault.{StepFault}
use Rattle.table_model.specs.declared.known.Refusal.{Refusal}
use Rattle.table_model.specs.declared.known.Refusal.TheVariants as refusal
use Rattle.table_model.specs.declared.known.Try.{Try}
use Rattle.table_model.specs.Log.{Commit, commit_at}
use Rattle.table_model.specs.Knowledge.{Knowledge}
use Rattle.table_model.specs.Learning.{kept_after}
use Rattle.table_model.specs.Learned.{published_by, fault_learned}

abbrev pub commits_noted : ℕ → Knowledge → Knowledge
commits_noted reported k = record k { published = max k.published reported; reported = reported; heard = k.heard ++ reported ∷ []; asks = k.asks + 1 }

abbrev pub lookup_noted : Knowledge → Knowledge
lookup_noted k = record k { asks = k.asks + 1 }

abbrev pub report_noted : ℕ → Knowledge → Knowledge
report_noted answer k = record k { published = max k.published answer; reported = answer }

-- whether a staged name is that of a commit that was seen
abbrev pub is_seen_name : LogName → List Commit → Bool
is_seen_name (name.Published version) seen = false
is_seen_name (name.Staged version id) seen = nat_lt version (length seen) && (id == (commit_at seen version).id)
is_seen_name (name.Checkpoint version id) seen = false
is_seen_name (name.Parquet version) seen = false
is_seen_name name.Other seen = false

abbrev pub published_gone : LogName → Bool → ℕ → ℕ
published_gone (name.Published version) is_seen n = n
published_gone (name.Staged version id) is_seen n = cond is_seen (max n (version + 1)) n
published_gone (name.Checkpoint version id) is_seen n = n
published_gone (name.Parquet version) is_seen n = n
published_gone name.Other is_seen n = n

abbrev pub get_noted : LogName → Bool → Knowledge → Result Bytes StepFault → Knowledge
get_noted n is_seen k (Ok (bytes.Whole b)) = record (kept_after n b.items k) { published = published_by n k.published; gets = k.gets + 1 }
get_noted n is_seen k (Ok bytes.Absent) = record k { published = published_gone n is_seen k.published; absents = k.absents ++ n ∷ []; gets = k.gets + 1 }
get_noted n is_seen k (Err e) = fault_learned k e

-- a refused try at the version right after all that was seen
abbrev pub tried : ℕ → ℕ → Refusal → List Try
tried version seen answer = cond (version == seen) (record { version = version; answer = answer } ∷ []) []

abbrev pub ratify_noted : ℕ → ℕ → Ratify → Knowledge → Knowledge
ratify_noted version seen ratify.Done k = record k { mine = k.mine ++ version ∷ [] }
ratify_noted version seen (ratify.Lost latest) k = record k { tries = k.tries ++ tried version seen refusal.Lost }
ratify_noted version seen (ratify.Full latest) k = k
ratify_noted version seen (ratify.Backlog latest reported) k =
    record k { published = max k.published reported; reported = reported; tries = k.tries ++ tried version seen refusal.Backlog }
