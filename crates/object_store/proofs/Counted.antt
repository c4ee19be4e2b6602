-- What each call of a store over a directory says of its count of faults, and of the files that it does not tell.
use Rattle.std.proofs.Common.{◌≡◌, ℕ, ◌+◌, ◌<◌, ◌^◌, inl, inr, List, false, refl, sym, subst, ap, arith}
use Rattle.std.specs.Prelude.{Result, Ok, Err, MatchResult}
use Rattle.object_store.specs.Directory.{Call, DirData, Admits, Barred, PutRuns, faults_after, DirPuts, DirGets, DirDeletes, DirLists, DirListFails}
use Rattle.object_store.specs.Files.{no_files}
use Rattle.object_store.specs.InMemory.{one_more}
use Rattle.object_store.specs.declared.disk.DiskFault.{DiskFault}
use Rattle.object_store.specs.declared.disk.Folder.{Folder}
use Rattle.object_store.specs.Telling.{CountsFault, IsLast, PutAnswers, GetAnswers, DeleteAnswers}
use Rattle.object_store.specs.declared.store.Put.{Put}
use Rattle.object_store.specs.declared.store.Put.TheVariants as put
use Rattle.object_store.specs.declared.store.Bytes.{Bytes}
use Rattle.object_store.specs.declared.store.Bytes.TheVariants as bytes
use Rattle.object_store.specs.declared.store.Gone.{Gone}
use Rattle.object_store.specs.declared.store.Gone.TheVariants as gone
use Rattle.object_store.specs.declared.store.StoreError.{StoreError}
use Rattle.object_store.specs.declared.store.StoreError.TheVariants.{Failed, Memory}

after_counts : {A : Type 0} (r : Result A StoreError) (before after : ℕ) → before + 1 < 2 ^ 64 → after ≡ faults_after r before → CountsFault before r after
after_counts (Ok answer) before after fits e = e
after_counts (Err Failed) before after fits e = (e, omega (arith, e, fits))
after_counts (Err Memory) before after fits e = e

barred_counts : {A D : Type 0} (s : DirData D) (name : List ℕ) (r : Result A StoreError) (t : DirData D) → Barred s name r t → CountsFault s.faults r t.faults
barred_counts s name (Ok answer) t b = absurd b
barred_counts s name (Err Failed) t b =
    let rises : t.faults ≡ s.faults + 1 = ap (λ d. d.faults) b.after in
    let fits : s.faults + 1 < 2 ^ 64 = b.counted in
    (rises, omega (arith, rises, fits))
barred_counts s name (Err Memory) t b = ap (λ d. d.faults) b.1

barred_last : {A D : Type 0} (s : DirData D) (name : List ℕ) (r : Result A StoreError) (t : DirData D) → Barred s name r t → IsLast s.faults → r ≡ Err Memory
barred_last s name (Ok answer) t b last = absurd b
barred_last s name (Err Failed) t b last = let fits : s.faults + 1 < 2 ^ 64 = b.counted in absurd (omega (arith, fits, last))
barred_last s name (Err Memory) t b last = refl

not_last : {A : Type 0} (n : ℕ) (r : Result A StoreError) → n + 1 < 2 ^ 64 → IsLast n → r ≡ Err Memory
not_last n r fits last = absurd (omega (arith, fits, last))

pub put_counts : {D : Type 0} (did : D → Call → D → Type 0) (s : DirData D) (name bytes : List ℕ) (r : Result Put StoreError) (t : DirData D) → DirPuts did s name bytes r t → CountsFault s.faults r t.faults
put_counts did s name bytes r t h = elim h [
  | inl b ↦ barred_counts s name r t b
  | inr p ↦ after_counts r s.faults t.faults p.admits.counted p.faults
]

pub put_last : {D : Type 0} (did : D → Call → D → Type 0) (s : DirData D) (name bytes : List ℕ) (r : Result Put StoreError) (t : DirData D) → DirPuts did s name bytes r t → IsLast s.faults → r ≡ Err Memory
put_last did s name bytes r t h last = elim h [
  | inl b ↦ barred_last s name r t b last
  | inr p ↦ not_last s.faults r p.admits.counted last
]

pub get_counts : {D : Type 0} (did : D → Call → D → Type 0) (s : DirData D) (name : List ℕ) (r : Result Bytes StoreError) (t : DirData D) → DirGets did s name r t → CountsFault s.faults r t.faults
get_counts did s name r t h = elim h [
  | inl b ↦ barred_counts s name r t b
  | inr p ↦ after_counts r s.faults t.faults p.admits.counted p.faults
]

pub get_last : {D : Type 0} (did : D → Call → D → Type 0) (s : DirData D) (name : List ℕ) (r : Result Bytes StoreError) (t : DirData D) → DirGets did s name r t → IsLast s.faults → r ≡ Err Memory
get_last did s name r t h last = elim h [
  | inl b ↦ barred_last s name r t b last
  | inr p ↦ not_last s.faults r p.admits.counted last
]

pub delete_counts : {D : Type 0} (did : D → Call → D → Type 0) (s : DirData D) (name : List ℕ) (r : Result Gone StoreError) (t : DirData D) → DirDeletes did s name r t → CountsFault s.faults r t.faults
delete_counts did s name r t h = elim h [
  | inl b ↦ barred_counts s name r t b
  | inr p ↦ after_counts r s.faults t.faults p.admits.counted p.faults
]

pub delete_last : {D : Type 0} (did : D → Call → D → Type 0) (s : DirData D) (name : List ℕ) (r : Result Gone StoreError) (t : DirData D) → DirDeletes did s name r t → IsLast s.faults → r ≡ Err Memory
delete_last did s name r t h last = elim h [
  | inl b ↦ barred_last s name r t b last
  | inr p ↦ not_last s.faults r p.admits.counted last
]

pub list_counts : {A D : Type 0} (did : D → Call → D → Type 0) (items : A → List (List ℕ)) (s : DirData D) (r : Result A StoreError) (t : DirData D) → MatchResult r (λ names. DirLists did s (items names) t) (λ e. DirListFails did s e t) → CountsFault s.faults r t.faults
list_counts did items s (Ok names) t h = h.faults
list_counts did items s (Err Failed) t h =
    let rises : t.faults ≡ s.faults + 1 = h.count in
    let fits : s.faults + 1 < 2 ^ 64 = h.counted in
    (rises, omega (arith, rises, fits))
list_counts did items s (Err Memory) t h = elim h [
  | inl same ↦ ap (λ d. d.faults) same.1
  | inr m ↦ m.count
]

pub list_last : {A D : Type 0} (did : D → Call → D → Type 0) (items : A → List (List ℕ)) (s : DirData D) (r : Result A StoreError) (t : DirData D) → MatchResult r (λ names. DirLists did s (items names) t) (λ e. DirListFails did s e t) → IsLast s.faults → r ≡ Err Memory
list_last did items s (Ok names) t h last = not_last s.faults (Ok names) h.counted last
list_last did items s (Err Failed) t h last = not_last s.faults (Err Failed) h.counted last
list_last did items s (Err Memory) t h last = refl

-- ---- a put that fails

abbrev dir_of : {D : Type 0} → D → ℕ → ℕ → DirData D
dir_of d n f = record { disk = d; next = n; faults = f }

put_failed : {D : Type 0} (did : D → Call → D → Type 0) (d : D) (n f : ℕ) (name content : List ℕ) (folder : Folder) (fault : DiskFault) (d' : D)
    → Admits (dir_of d n f) name folder → PutRuns did d folder n name content (Err fault) d' → DirPuts did (dir_of d n f) name content (Err Failed) (dir_of d' (one_more n) (f + 1))
put_failed did d n f name content folder fault d' admits runs =
    inr (record { folder = folder; admits = admits; answer = Err fault; runs = runs; result_is = refl; next = refl; faults = refl })

pub put_fails : {D : Type 0} (did : D → Call → D → Type 0) (s : DirData D) (d : D) (n f : ℕ) (name content : List ℕ) (folder : Folder) (fault : DiskFault) (d' : D) (m : ℕ) (e : StoreError) (t : DirData D)
    → dir_of d n f ≡ s → Admits s name folder → PutRuns did d folder n name content (Err fault) d' → m ≡ one_more n → e ≡ Failed → t ≡ dir_of d' m (f + 1)
    → DirPuts did s name content (Err e) t
put_fails {D} did s d n f name content folder fault d' m e t is admits runs number failed after =
    let A : DirData D → Type 0 = λ x. Admits x name folder in
    let S : DirData D → Type 0 = λ x. DirPuts did x name content (Err e) t in
    let E : StoreError → Type 0 = λ x. DirPuts did (dir_of d n f) name content (Err x) t in
    let T : DirData D → Type 0 = λ x. DirPuts did (dir_of d n f) name content (Err Failed) x in
    let N : ℕ → Type 0 = λ x. DirPuts did (dir_of d n f) name content (Err Failed) (dir_of d' x (f + 1)) in
    let whole : DirPuts did (dir_of d n f) name content (Err Failed) (dir_of d' (one_more n) (f + 1)) =
    put_failed did d n f name content folder fault d' (subst A (sym is) admits) runs
    in
    subst S is (subst E (sym failed) (subst T (sym after) (subst N (sym number) whole)))

-- ---- a store that does not tell

pub untold_put : (name content : List ℕ) (r : Result Put StoreError) → PutAnswers false no_files name content r no_files
untold_put name content (Ok put.Done) = record { absent = λ tells. cc; files = refl }
untold_put name content (Ok put.There) = record { there = λ tells. cc; files = refl }
untold_put name content (Err Failed) = inl refl
untold_put name content (Err Memory) = refl

pub untold_get : (name : List ℕ) (r : Result Bytes StoreError) → GetAnswers false no_files name r
untold_get name (Ok (bytes.Whole content)) = λ tells. cc
untold_get name (Ok bytes.Absent) = λ tells. cc
untold_get name (Err e) = tt

pub untold_delete : (name : List ℕ) (r : Result Gone StoreError) → DeleteAnswers false no_files name r no_files
untold_delete name (Ok gone.Done) = record { there = λ tells. cc; files = refl }
untold_delete name (Ok gone.Absent) = record { absent = λ tells. cc; files = refl }
untold_delete name (Err Failed) = inl refl
untold_delete name (Err Memory) = refl
