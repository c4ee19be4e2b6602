-- What one caller knows of the table.
use Rattle.std.specs.Prelude.{◌≡◌, ◌<◌, ◌≤◌, ◌++◌, ℕ, Bool, List, [], length, IsTrue, Option, None, Some, IfSome, All}
use Rattle.std.specs.List.{AllPairs}
use Rattle.log_names.specs.declared.LogName.{LogName}
use Rattle.commit_catalog.specs.declared.Limits.{Limits}
use Rattle.object_store.specs.declared.store.Gone.{Gone}
use Rattle.table_model.specs.declared.answers.Spot.{Spot}
use Rattle.table_model.specs.declared.known.Mark.{Mark}
use Rattle.table_model.specs.declared.known.Clearing.{Clearing}
use Rattle.table_model.specs.declared.known.Try.{Try}
use Rattle.table_model.specs.Log.{Commit, IsSound}

-- a staged file: its version, its id and its bytes
pub record Triple : Type 0 where
  pub version : ℕ
  pub id : ℕ
  pub bytes : List ℕ

-- what does not change: the limits of the table, and whether its store tells what it holds
pub record Terms : Type 0 where
  pub limits : Limits
  pub tells : Bool

pub record Knowledge : Type 0 where
  pub terms : Option Terms
  -- the log as it was last seen, the versions that were ratified for this caller, and the greatest length that it was told
  pub seen : List Commit
  pub mine : List ℕ
  pub told : ℕ
  -- so many versions are published, so many reported
  pub published : ℕ
  pub reported : ℕ
  -- staged files and checkpoints that stand, and the last listing
  pub kept : List Triple
  pub marks : List Mark
  pub listed : List LogName
  -- lists that only grow: clear turns, names that were taken, absent, put; spots of faults; refused tries; reported numbers heard
  pub cleared : List Clearing
  pub takens : List LogName
  pub absents : List LogName
  pub put : List LogName
  pub failed : List Spot
  pub tries : List Try
  pub heard : List ℕ
  -- counts that never fall: of turns that read the catalogue, listed, read a file, looked at the length; and of faults
  pub asks : ℕ
  pub lists : ℕ
  pub gets : ℕ
  pub looks : ℕ
  pub faults : ℕ

-- nothing is known
abbrev pub newcomer : Knowledge
newcomer = record {
  terms = None;
  seen = [];
  mine = [];
  told = 0;
  published = 0;
  reported = 0;
  kept = [];
  marks = [];
  listed = [];
  cleared = [];
  takens = [];
  absents = [];
  put = [];
  failed = [];
  tries = [];
  heard = [];
  asks = 0;
  lists = 0;
  gets = 0;
  looks = 0;
  faults = 0;
}

-- nothing but the terms
abbrev pub at_start : Terms → Knowledge
at_start terms = record newcomer { terms = Some terms }

-- the terms say that the store tells what it holds
abbrev pub IsTelling : Option Terms → Type 0
IsTelling None = ⊥
IsTelling (Some t) = IsTrue t.tells

pub record IsValid (k : Knowledge) : Type 0 where
  pub sound : IsTelling k.terms → IsSound k.seen
  pub versions : IfSome k.terms (λ t. length k.seen ≤ t.limits.versions)
  pub mine : All (λ version. version < length k.seen) k.mine
  pub reported : k.reported ≤ k.published
  pub marks : IsTelling k.terms → All (λ m. m.version < k.published) k.marks

-- a list and what was gained behind it
pub record StartsWith {A : Type 0} (longer front : List A) : Type 0 where
  pub rest : List A
  pub is : longer ≡ front ++ rest

-- each version is above those before it
abbrev pub IsRising : List ℕ → Type 0
IsRising versions = AllPairs (λ earlier later. earlier < later) versions

-- all that never falls; the caller's own versions rise
pub record IsGrown (k m : Knowledge) : Type 0 where
  pub terms : m.terms ≡ k.terms
  pub seen : StartsWith m.seen k.seen
  pub mine : StartsWith m.mine k.mine
  pub rising : IsRising k.mine → IsRising m.mine
  pub told : k.told ≤ m.told
  pub published : k.published ≤ m.published
  pub reported : k.reported ≤ m.reported
  pub kept : StartsWith m.kept k.kept
  pub marks : StartsWith m.marks k.marks
  pub cleared : StartsWith m.cleared k.cleared
  pub takens : StartsWith m.takens k.takens
  pub absents : StartsWith m.absents k.absents
  pub put : StartsWith m.put k.put
  pub failed : StartsWith m.failed k.failed
  pub tries : StartsWith m.tries k.tries
  pub heard : StartsWith m.heard k.heard
  pub asks : k.asks ≤ m.asks
  pub lists : k.lists ≤ m.lists
  pub gets : k.gets ≤ m.gets
  pub looks : k.looks ≤ m.looks
  pub faults : k.faults ≤ m.faults
