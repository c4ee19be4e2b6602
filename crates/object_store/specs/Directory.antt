-- A store over a directory: what it asks of the disk, and what it answers by what the disk answered.
--     Call                                   one call of the disk, with its answer
--     Runs                                   calls made one after another
--     LinkRuns, PutRuns, DeleteRuns, ListRuns, ListFails     the calls of the disk in one call of the store, by what these came to
--     listed                                 the names of the folder among these, each once, in the order of their bytes
--     DirPuts, DirGets, DirLists, DirListFails, DirDeletes     one call of the store, exactly
use Rattle.std.specs.Prelude.{◌≡◌, ℕ, ◌+◌, ◌^◌, ◌<◌, Bool, true, false, cond, is_some, ◌⊎◌, List, [], ◌∷◌, Some, None, Result, Ok, Err}
use Rattle.object_store.specs.Files.{Files, no_files, with_file, names_of}
use Rattle.object_store.specs.FolderNames.{folder_of}
use Rattle.object_store.specs.InMemory.{one_more}
use Rattle.object_store.specs.Telling.{IsLast}
use Rattle.object_store.specs.declared.disk.DiskFault.{DiskFault}
use Rattle.object_store.specs.declared.disk.Folder.{Folder}
use Rattle.object_store.specs.declared.disk.Made.{Made}
use Rattle.object_store.specs.declared.disk.Made.TheVariants as made
use Rattle.object_store.specs.declared.store.Put.{Put}
use Rattle.object_store.specs.declared.store.Put.TheVariants as put
use Rattle.object_store.specs.declared.store.Bytes.{Bytes}
use Rattle.object_store.specs.declared.store.Gone.{Gone}
use Rattle.object_store.specs.declared.store.Gone.TheVariants as gone
use Rattle.object_store.specs.declared.store.StoreError.{StoreError}
use Rattle.object_store.specs.declared.store.StoreError.TheVariants.{Failed, Memory}

-- One call of the disk, with its answer. A first name is that of a number in a folder; a name is relative to the folder of the log.
pub data Call : Type 0 where
  -- a file of these bytes was made under a first name
  makes : Folder → ℕ → List ℕ → Made → Call
  -- the file under a first name got a name of its own
  links : Folder → ℕ → List ℕ → Result Put DiskFault → Call
  -- a first name was removed, or was not
  drops : Folder → ℕ → Bool → Call
  -- a folder was synced, or was not
  syncs : Folder → Bool → Call
  -- a file was read
  reads : Folder → List ℕ → Result Bytes StoreError → Call
  -- a name was removed
  removes : Folder → List ℕ → Result Gone DiskFault → Call
  -- all names of files were told
  lists : Result (List (List ℕ)) StoreError → Call

-- these calls, one after another, led from one disk to the other
abbrev pub Runs : {D : Type 0} → (D → Call → D → Type 0) → D → List Call → D → Type 0
Runs did old [] new = new ≡ old
Runs did old (call ∷ calls) new = (next : _) × did old call next × Runs did next calls new

-- a file that stands whole under its first name: it got its own name, the first one went, and a new name was synced
abbrev pub LinkRuns : {D : Type 0} → (D → Call → D → Type 0) → D → Folder → ℕ → List ℕ → Result Put DiskFault → D → Type 0
LinkRuns did old folder n name (Ok put.Done) new = Runs did old (links folder n name (Ok put.Done) ∷ drops folder n true ∷ syncs folder true ∷ []) new
LinkRuns did old folder n name (Ok put.There) new = Runs did old (links folder n name (Ok put.There) ∷ drops folder n true ∷ []) new
LinkRuns did old folder n name (Err fault) new =
    ((gone : Bool) × Runs did old (links folder n name (Err fault) ∷ drops folder n gone ∷ []) new)
    ⊎ (((answer : Put) × Runs did old (links folder n name (Ok answer) ∷ drops folder n false ∷ []) new)
    ⊎ Runs did old (links folder n name (Ok put.Done) ∷ drops folder n true ∷ syncs folder false ∷ []) new)

-- the file was made whole, and then linked
pub record MadeAndLinked {D : Type 0} (did : D → Call → D → Type 0) (old : D) (folder : Folder) (n : ℕ) (name bytes : List ℕ) (result : Result Put DiskFault) (new : D) : Type 0 where
  pub next : D
  pub whole : did old (makes folder n bytes made.Whole) next
  pub linked : LinkRuns did next folder n name result new

-- no file was made, or one that was not written whole and whose first name was removed then
abbrev pub Unmade : {D : Type 0} → (D → Call → D → Type 0) → D → Folder → ℕ → List ℕ → D → Type 0
Unmade did old folder n bytes new =
    Runs did old (makes folder n bytes made.Failed ∷ []) new
    ⊎ ((gone : Bool) × Runs did old (makes folder n bytes made.Part ∷ drops folder n gone ∷ []) new)

-- putting a new file
abbrev pub PutRuns : {D : Type 0} → (D → Call → D → Type 0) → D → Folder → ℕ → List ℕ → List ℕ → Result Put DiskFault → D → Type 0
PutRuns did old folder n name bytes (Ok answer) new = MadeAndLinked did old folder n name bytes (Ok answer) new
PutRuns did old folder n name bytes (Err fault) new = Unmade did old folder n bytes new ⊎ MadeAndLinked did old folder n name bytes (Err fault) new

-- removing a file: a name that went was synced
abbrev pub DeleteRuns : {D : Type 0} → (D → Call → D → Type 0) → D → Folder → List ℕ → Result Gone DiskFault → D → Type 0
DeleteRuns did old folder name (Ok gone.Done) new = Runs did old (removes folder name (Ok gone.Done) ∷ syncs folder true ∷ []) new
DeleteRuns did old folder name (Ok gone.Absent) new = Runs did old (removes folder name (Ok gone.Absent) ∷ []) new
DeleteRuns did old folder name (Err fault) new =
    Runs did old (removes folder name (Err fault) ∷ []) new
    ⊎ Runs did old (removes folder name (Ok gone.Done) ∷ syncs folder false ∷ []) new

-- the names of the folder among these, as a set
abbrev pub listed_files : List (List ℕ) → Files
listed_files [] = no_files
listed_files (name ∷ names) = cond (is_some (folder_of name)) (with_file (listed_files names) name []) (listed_files names)

-- each once, in the order of their bytes
abbrev pub listed : List (List ℕ) → List (List ℕ)
listed names = names_of (listed_files names)

-- listing: of all names that the disk told, those of the folder
abbrev pub ListRuns : {D : Type 0} → (D → Call → D → Type 0) → D → List (List ℕ) → D → Type 0
ListRuns did old names new = (all : List (List ℕ)) × did old (lists (Ok all)) new × (names ≡ listed all)

-- the disk failed; or memory ran out, in the disk or for the names that it told
abbrev pub ListFails : {D : Type 0} → (D → Call → D → Type 0) → D → StoreError → D → Type 0
ListFails did old Failed new = did old (lists (Err Failed)) new
ListFails did old Memory new = did old (lists (Err Memory)) new ⊎ ((all : List (List ℕ)) × did old (lists (Ok all)) new)

-- A store over a directory: the disk, the number of the next first name, and the number of calls that failed.
pub record DirData (D : Type 0) : Type 0 where
  pub disk : D
  pub next : ℕ
  pub faults : ℕ

-- the count of faults over a call that was made
abbrev pub faults_after : {A : Type 0} → Result A StoreError → ℕ → ℕ
faults_after (Ok answer) faults = faults
faults_after (Err Failed) faults = faults + 1
faults_after (Err Memory) faults = faults

-- what the calls of the disk came to is answered
abbrev pub answered : {A : Type 0} → Result A DiskFault → Result A StoreError
answered (Ok answer) = Ok answer
answered (Err fault) = Err Failed

-- the count can rise, and the name is that of a file of this folder
pub record Admits {D : Type 0} (s : DirData D) (name : List ℕ) (folder : Folder) : Type 0 where
  pub counted : s.faults + 1 < 2 ^ 64
  pub inside : folder_of name ≡ Some folder

-- the name is that of no file of the folder: a fault, and the disk is not asked
pub record Refuses {D : Type 0} (s : DirData D) (name : List ℕ) (t : DirData D) : Type 0 where
  pub counted : s.faults + 1 < 2 ^ 64
  pub outside : folder_of name ≡ None
  pub after : t ≡ record s { faults = s.faults + 1 }

-- the call was refused before the disk was asked: the name is none, or the count of faults stands at its last value
abbrev pub Bars : {D : Type 0} → DirData D → List ℕ → StoreError → DirData D → Type 0
Bars s name Failed t = Refuses s name t
Bars s name Memory t = IsLast s.faults × (t ≡ s)

abbrev pub Barred : {A D : Type 0} → DirData D → List ℕ → Result A StoreError → DirData D → Type 0
Barred s name (Ok answer) t = ⊥
Barred s name (Err e) t = Bars s name e t

-- putting a new file
pub record DirPut {D : Type 0} (did : D → Call → D → Type 0) (s : DirData D) (name bytes : List ℕ) (result : Result Put StoreError) (t : DirData D) : Type 0 where
  pub folder : Folder
  pub admits : Admits s name folder
  pub answer : Result Put DiskFault
  pub runs : PutRuns did s.disk folder s.next name bytes answer t.disk
  pub result_is : result ≡ answered answer
  pub next : t.next ≡ one_more s.next
  pub faults : t.faults ≡ faults_after result s.faults

abbrev pub DirPuts : {D : Type 0} → (D → Call → D → Type 0) → DirData D → List ℕ → List ℕ → Result Put StoreError → DirData D → Type 0
DirPuts did s name bytes result t = Barred s name result t ⊎ DirPut did s name bytes result t

-- reading a file: what the disk answered is answered
pub record DirGet {D : Type 0} (did : D → Call → D → Type 0) (s : DirData D) (name : List ℕ) (result : Result Bytes StoreError) (t : DirData D) : Type 0 where
  pub folder : Folder
  pub admits : Admits s name folder
  pub asked : did s.disk (reads folder name result) t.disk
  pub next : t.next ≡ s.next
  pub faults : t.faults ≡ faults_after result s.faults

abbrev pub DirGets : {D : Type 0} → (D → Call → D → Type 0) → DirData D → List ℕ → Result Bytes StoreError → DirData D → Type 0
DirGets did s name result t = Barred s name result t ⊎ DirGet did s name result t

-- removing a file
pub record DirDelete {D : Type 0} (did : D → Call → D → Type 0) (s : DirData D) (name : List ℕ) (result : Result Gone StoreError) (t : DirData D) : Type 0 where
  pub folder : Folder
  pub admits : Admits s name folder
  pub answer : Result Gone DiskFault
  pub runs : DeleteRuns did s.disk folder name answer t.disk
  pub result_is : result ≡ answered answer
  pub next : t.next ≡ s.next
  pub faults : t.faults ≡ faults_after result s.faults

abbrev pub DirDeletes : {D : Type 0} → (D → Call → D → Type 0) → DirData D → List ℕ → Result Gone StoreError → DirData D → Type 0
DirDeletes did s name result t = Barred s name result t ⊎ DirDelete did s name result t

-- listing the names
pub record DirLists {D : Type 0} (did : D → Call → D → Type 0) (s : DirData D) (names : List (List ℕ)) (t : DirData D) : Type 0 where
  pub counted : s.faults + 1 < 2 ^ 64
  pub runs : ListRuns did s.disk names t.disk
  pub next : t.next ≡ s.next
  pub faults : t.faults ≡ s.faults

pub record DirListsNot {D : Type 0} (did : D → Call → D → Type 0) (s : DirData D) (e : StoreError) (faults : ℕ) (t : DirData D) : Type 0 where
  pub counted : s.faults + 1 < 2 ^ 64
  pub runs : ListFails did s.disk e t.disk
  pub next : t.next ≡ s.next
  pub count : t.faults ≡ faults

abbrev pub DirListFails : {D : Type 0} → (D → Call → D → Type 0) → DirData D → StoreError → DirData D → Type 0
DirListFails did s Failed t = DirListsNot did s Failed (s.faults + 1) t
DirListFails did s Memory t = (IsLast s.faults × (t ≡ s)) ⊎ DirListsNot did s Memory s.faults t
