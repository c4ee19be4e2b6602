-- A world and what its one caller knows of it.
use Rattle.std.specs.Prelude.{◌≡◌, ◌<◌, ◌≤◌, ◌+◌, ℕ, List, length, Contains, IsTrue, All}
use Rattle.log_names.specs.declared.LogName.{LogName}
use Rattle.log_names.specs.declared.LogName.TheVariants as name
use Rattle.commit_catalog.specs.declared.Entry.{Entry}
use Rattle.object_store.specs.Files.{Files}
use Rattle.table_model.specs.Files.{stands_at}
use Rattle.table_model.specs.World.{WorldData, log_of, entry_at}
use Rattle.table_model.specs.declared.known.Try.{Try}
use Rattle.table_model.specs.declared.known.Refusal.TheVariants as refusal
use Rattle.table_model.specs.Knowledge.{Knowledge, Triple, StartsWith}
use Rattle.table_model.specs.Conditions.{triple}
use Rattle.table_model.specs.Outcome.{Outcome}
use Rattle.table_model.specs.After.{IsAfter}

pub record Alone : Type 0 where
  pub world : WorldData
  pub known : Knowledge

-- it has seen the whole log, and each commit is its own
pub record HasAll (a : Alone) : Type 0 where
  pub seen : a.known.seen ≡ log_of a.world
  pub mine : length a.known.mine ≡ length a.world.records

-- Each staged file that stands, each that is known, each ratified one and each that was found taken bears a name that the caller may have put.
pub record IsPut (files : Files) (records : List Entry) (puts : List LogName) (kept : List Triple) (takens : List LogName) : Type 0 where
  pub staged : (version id : ℕ) → IsTrue (stands_at files (name.Staged version id)) → Contains puts (name.Staged version id)
  pub known : (version id : ℕ) (bytes : List ℕ) → Contains kept (triple version id bytes) → Contains puts (name.Staged version id)
  pub ratified : (version : ℕ) → version < length records → Contains puts (name.Staged version (entry_at records version).id)
  pub taken : (version id : ℕ) → Contains takens (name.Staged version id) → Contains puts (name.Staged version id)

abbrev pub HasPutAll : Alone → Type 0
HasPutAll a = IsPut a.world.files a.world.records a.known.put a.known.kept a.known.takens

-- a try that was refused between two worlds since as many commits were unpublished as may be
pub record MeetsLimit (w x : WorldData) (t : Try) : Type 0 where
  pub answer : t.answer ≡ refusal.Backlog
  pub allowed : t.version < w.limits.versions
  pub least : w.reported + w.limits.unpublished ≤ t.version
  pub most : t.version ≤ x.reported + w.limits.unpublished

-- no try was lost: each that was refused met the limit of unpublished commits
pub record LosesNone (w x : WorldData) (k m : Knowledge) : Type 0 where
  pub gained : StartsWith m.tries k.tries
  pub all : All (MeetsLimit w x) gained.rest

-- What one turn of it leads to besides.
pub record LoneOutcome (w x : WorldData) (k m : Knowledge) : Type 0 where
  pub turn : Outcome w x k m
  -- who had seen the whole log has seen it still, and lost no try; each new commit is the caller's own
  pub seen : k.seen ≡ log_of w → m.seen ≡ log_of x
  pub tries : k.seen ≡ log_of w → LosesNone w x k m
  pub all : length x.records + length k.mine ≡ length w.records + length m.mine
  -- all faults of the store were met by the caller
  pub met : m.faults + w.tally ≡ k.faults + x.tally

-- After any work of it: what every caller may count on, and since nobody else acts, who had seen all has seen all and lost
-- no try; all faults of the store were met by the caller; and what was put by the caller alone is so still, where the store
-- tells what it holds.
pub record IsAloneAfter (a b : Alone) : Type 0 where
  pub after : IsAfter a.world a.known b.world b.known
  pub all : HasAll a → HasAll b
  pub tries : HasAll a → LosesNone a.world b.world a.known b.known
  pub met : b.known.faults + a.world.tally ≡ a.known.faults + b.world.tally
  pub puts : IsTrue a.world.tells → HasPutAll a → HasPutAll b
