-- The store in memory: which of its calls fail, and what each call answers and leaves.
use Rattle.std.specs.Prelude.{◌≡◌, ℕ, ◌+◌, ◌-◌, ◌^◌, ◌<◌, min, cond, IsSome, List, Option, None, Some, Result, Ok, Err, ◌==◌, find}
use Rattle.object_store.specs.Files.{Files, file_of, with_file, without_file, names_of, put_whole}
use Rattle.object_store.specs.Telling.{IsLast}
use Rattle.object_store.specs.declared.store.Put.{Put}
use Rattle.object_store.specs.declared.store.Put.TheVariants as put
use Rattle.object_store.specs.declared.store.Bytes.{Bytes}
use Rattle.object_store.specs.declared.store.Bytes.TheVariants as bytes
use Rattle.object_store.specs.declared.store.Gone.{Gone}
use Rattle.object_store.specs.declared.store.Gone.TheVariants as gone
use Rattle.object_store.specs.declared.store.StoreError.{StoreError}
use Rattle.object_store.specs.declared.store.StoreError.TheVariants.{Failed, Memory}
use Rattle.object_store.specs.declared.plan.Fail.{Fail}

-- A store in memory: its files, the calls that are to fail, the number of calls made and that of faults.
pub record MemData : Type 0 where
  pub files : Files
  pub fails : List Fail
  pub calls : ℕ
  pub faults : ℕ

-- the failure listed for the next call. Calls are numbered from 1, up to the last number of 64 bits
abbrev pub next_fail : List Fail → ℕ → Option Fail
next_fail fails calls = cond (calls + 1 == 2 ^ 64) None (find (λ f. f.call == calls + 1) fails)

-- the number of calls after one more
abbrev pub one_more : ℕ → ℕ
one_more calls = min (calls + 1) (2 ^ 64 - 1)

-- the count of faults can rise, and the next call is not to fail: it leaves these files
pub record Passes (m : MemData) (whole : Files) (n : MemData) : Type 0 where
  pub counted : m.faults + 1 < 2 ^ 64
  pub free : next_fail m.fails m.calls ≡ None
  pub after : n ≡ record m { files = whole; calls = one_more m.calls }

-- the count can rise, and the next call is to fail: it leaves the files as they were, or as the whole call leaves them
pub record Fails (m : MemData) (whole : Files) (n : MemData) : Type 0 where
  pub counted : m.faults + 1 < 2 ^ 64
  pub fail : Fail
  pub listed : next_fail m.fails m.calls ≡ Some fail
  pub after : n ≡ record m { files = cond fail.took whole m.files; calls = one_more m.calls; faults = m.faults + 1 }

-- putting a new file
abbrev pub MemPuts : MemData → List ℕ → List ℕ → Result Put StoreError → MemData → Type 0
MemPuts m name bytes (Ok put.Done) n = (file_of m.files name ≡ None) × Passes m (with_file m.files name bytes) n
MemPuts m name bytes (Ok put.There) n = IsSome (file_of m.files name) × Passes m m.files n
MemPuts m name bytes (Err Failed) n = Fails m (put_whole m.files name bytes) n
MemPuts m name bytes (Err Memory) n = n ≡ m

-- reading a file
abbrev pub MemGets : MemData → List ℕ → Result Bytes StoreError → MemData → Type 0
MemGets m name (Ok (bytes.Whole content)) n = (file_of m.files name ≡ Some content.items) × Passes m m.files n
MemGets m name (Ok bytes.Absent) n = (file_of m.files name ≡ None) × Passes m m.files n
MemGets m name (Err Failed) n = Fails m m.files n
MemGets m name (Err Memory) n = n ≡ m

-- listing the names
abbrev pub MemLists : MemData → List (List ℕ) → MemData → Type 0
MemLists m names n = (names ≡ names_of m.files) × Passes m m.files n

abbrev pub MemListFails : MemData → StoreError → MemData → Type 0
MemListFails m Failed n = Fails m m.files n
MemListFails m Memory n = n ≡ m

-- removing a file. It takes no memory, and is refused for want of it only where the count of faults can't rise
abbrev pub MemDeletes : MemData → List ℕ → Result Gone StoreError → MemData → Type 0
MemDeletes m name (Ok gone.Done) n = IsSome (file_of m.files name) × Passes m (without_file m.files name) n
MemDeletes m name (Ok gone.Absent) n = (file_of m.files name ≡ None) × Passes m m.files n
MemDeletes m name (Err Failed) n = Fails m (without_file m.files name) n
MemDeletes m name (Err Memory) n = IsLast m.faults × (n ≡ m)
