-- What each call of a store answers and changes. `tells` says whether the store's type tells what it holds. What a
-- store that does not tell is said to hold never changes, so that only facts on contents depend on it.
use Rattle.std.specs.Prelude.{◌≡◌, ℕ, ◌+◌, ◌^◌, ◌<◌, Bool, cond, IsTrue, IsSome, List, None, Some, Result, Ok, Err, ◌⊎◌}
use Rattle.object_store.specs.Files.{Files, file_of, with_file, without_file, names_of, put_whole}
use Rattle.object_store.specs.declared.store.Put.{Put}
use Rattle.object_store.specs.declared.store.Put.TheVariants as put
use Rattle.object_store.specs.declared.store.Bytes.{Bytes}
use Rattle.object_store.specs.declared.store.Bytes.TheVariants as bytes
use Rattle.object_store.specs.declared.store.Gone.{Gone}
use Rattle.object_store.specs.declared.store.Gone.TheVariants as gone
use Rattle.object_store.specs.declared.store.StoreError.{StoreError}
use Rattle.object_store.specs.declared.store.StoreError.TheVariants.{Failed, Memory}

-- the files that the store is said to hold after a change
abbrev pub told : Bool → Files → Files → Files
told tells before after = cond tells after before

-- a failed call changed nothing, or was done whole
abbrev pub HalfDone : Bool → Files → Files → Files → Type 0
HalfDone tells before whole after = (after ≡ before) ⊎ (after ≡ told tells before whole)

-- the name did not stand, and stands now with these bytes
pub record PutsFile (tells : Bool) (before : Files) (name bytes : List ℕ) (after : Files) : Type 0 where
  pub absent : IsTrue tells → file_of before name ≡ None
  pub files : after ≡ told tells before (with_file before name bytes)

-- the name stands, and nothing changes
pub record StandsAlready (tells : Bool) (before : Files) (name : List ℕ) (after : Files) : Type 0 where
  pub there : IsTrue tells → IsSome (file_of before name)
  pub files : after ≡ before

-- the name stood, and stands no more
pub record RemovesFile (tells : Bool) (before : Files) (name : List ℕ) (after : Files) : Type 0 where
  pub there : IsTrue tells → IsSome (file_of before name)
  pub files : after ≡ told tells before (without_file before name)

-- the name does not stand, and nothing changes
pub record IsAbsent (tells : Bool) (before : Files) (name : List ℕ) (after : Files) : Type 0 where
  pub absent : IsTrue tells → file_of before name ≡ None
  pub files : after ≡ before

-- putting a new file
abbrev pub PutAnswers : Bool → Files → List ℕ → List ℕ → Result Put StoreError → Files → Type 0
PutAnswers tells before name bytes (Ok put.Done) after = PutsFile tells before name bytes after
PutAnswers tells before name bytes (Ok put.There) after = StandsAlready tells before name after
PutAnswers tells before name bytes (Err Failed) after = HalfDone tells before (put_whole before name bytes) after
PutAnswers tells before name bytes (Err Memory) after = after ≡ before

-- reading a file; nothing changes
abbrev pub GetAnswers : Bool → Files → List ℕ → Result Bytes StoreError → Type 0
GetAnswers tells files name (Ok (bytes.Whole content)) = IsTrue tells → file_of files name ≡ Some content.items
GetAnswers tells files name (Ok bytes.Absent) = IsTrue tells → file_of files name ≡ None
GetAnswers tells files name (Err e) = Unit {0}

-- listing the names; nothing changes
abbrev pub ListAnswers : Bool → Files → List (List ℕ) → Type 0
ListAnswers tells files names = IsTrue tells → names ≡ names_of files

-- removing a file
abbrev pub DeleteAnswers : Bool → Files → List ℕ → Result Gone StoreError → Files → Type 0
DeleteAnswers tells before name (Ok gone.Done) after = RemovesFile tells before name after
DeleteAnswers tells before name (Ok gone.Absent) after = IsAbsent tells before name after
DeleteAnswers tells before name (Err Failed) after = HalfDone tells before (without_file before name) after
DeleteAnswers tells before name (Err Memory) after = after ≡ before

-- the count of faults over a call: it rises by one where the call failed, and stays else
abbrev pub CountsFault : {A : Type 0} → ℕ → Result A StoreError → ℕ → Type 0
CountsFault before (Ok answer) after = after ≡ before
CountsFault before (Err Failed) after = (after ≡ before + 1) × (after < 2 ^ 64)
CountsFault before (Err Memory) after = after ≡ before

-- a count of 64 bits that stands at its last value
abbrev pub IsLast : ℕ → Type 0
IsLast count = count + 1 ≡ 2 ^ 64
