-- What each call of a store in memory says of its count of faults.
use Rattle.std.proofs.Common.{◌≡◌, ℕ, ◌+◌, ◌<◌, ◌^◌, List, refl, ap, arith}
use Rattle.std.specs.Prelude.{Result, Ok, Err}
use Rattle.object_store.specs.Files.{Files}
use Rattle.object_store.specs.Telling.{CountsFault, IsLast}
use Rattle.object_store.specs.InMemory.{MemData, Passes, Fails, MemPuts, MemGets, MemDeletes}
use Rattle.object_store.specs.declared.store.Put.{Put}
use Rattle.object_store.specs.declared.store.Put.TheVariants as put
use Rattle.object_store.specs.declared.store.Bytes.{Bytes}
use Rattle.object_store.specs.declared.store.Bytes.TheVariants as bytes
use Rattle.object_store.specs.declared.store.Gone.{Gone}
use Rattle.object_store.specs.declared.store.Gone.TheVariants as gone
use Rattle.object_store.specs.declared.store.StoreError.{StoreError}
use Rattle.object_store.specs.declared.store.StoreError.TheVariants.{Failed, Memory}

same_count : (m : MemData) (whole : Files) (n : MemData) → Passes m whole n → n.faults ≡ m.faults
same_count m whole n p = ap (λ (d : MemData). d.faults) p.after

one_fault : (m : MemData) (whole : Files) (n : MemData) → Fails m whole n → (n.faults ≡ m.faults + 1) × (n.faults < 2 ^ 64)
one_fault m whole n f =
    let rises : n.faults ≡ m.faults + 1 = ap (λ (d : MemData). d.faults) f.after in
    let fits : m.faults + 1 < 2 ^ 64 = f.counted in
    (rises, omega arith)

unchanged : (m n : MemData) → n ≡ m → n.faults ≡ m.faults
unchanged m n e = ap (λ (d : MemData). d.faults) e

pub put_counts : (m : MemData) (name bytes : List ℕ) (r : Result Put StoreError) (n : MemData) → MemPuts m name bytes r n → CountsFault m.faults r n.faults
put_counts m name bytes (Ok put.Done) n h = same_count m _ n h.1
put_counts m name bytes (Ok put.There) n h = same_count m _ n h.1
put_counts m name bytes (Err Failed) n h = one_fault m _ n h
put_counts m name bytes (Err Memory) n h = unchanged m n h

pub put_last : (m : MemData) (name bytes : List ℕ) (r : Result Put StoreError) (n : MemData) → MemPuts m name bytes r n → IsLast m.faults → r ≡ Err Memory
put_last m name bytes (Ok put.Done) n h last = let fits : m.faults + 1 < 2 ^ 64 = h.1.counted in absurd (omega arith)
put_last m name bytes (Ok put.There) n h last = let fits : m.faults + 1 < 2 ^ 64 = h.1.counted in absurd (omega arith)
put_last m name bytes (Err Failed) n h last = let fits : m.faults + 1 < 2 ^ 64 = h.counted in absurd (omega arith)
put_last m name bytes (Err Memory) n h last = refl

pub get_counts : (m : MemData) (name : List ℕ) (r : Result Bytes StoreError) (n : MemData) → MemGets m name r n → CountsFault m.faults r n.faults
get_counts m name (Ok (bytes.Whole content)) n h = same_count m _ n h.1
get_counts m name (Ok bytes.Absent) n h = same_count m _ n h.1
get_counts m name (Err Failed) n h = one_fault m _ n h
get_counts m name (Err Memory) n h = unchanged m n h

pub get_last : (m : MemData) (name : List ℕ) (r : Result Bytes StoreError) (n : MemData) → MemGets m name r n → IsLast m.faults → r ≡ Err Memory
get_last m name (Ok (bytes.Whole content)) n h last = let fits : m.faults + 1 < 2 ^ 64 = h.1.counted in absurd (omega arith)
get_last m name (Ok bytes.Absent) n h last = let fits : m.faults + 1 < 2 ^ 64 = h.1.counted in absurd (omega arith)
get_last m name (Err Failed) n h last = let fits : m.faults + 1 < 2 ^ 64 = h.counted in absurd (omega arith)
get_last m name (Err Memory) n h last = refl

pub delete_counts : (m : MemData) (name : List ℕ) (r : Result Gone StoreError) (n : MemData) → MemDeletes m name r n → CountsFault m.faults r n.faults
delete_counts m name (Ok gone.Done) n h = same_count m _ n h.1
delete_counts m name (Ok gone.Absent) n h = same_count m _ n h.1
delete_counts m name (Err Failed) n h = one_fault m _ n h
delete_counts m name (Err Memory) n h = unchanged m n h.1

pub delete_last : (m : MemData) (name : List ℕ) (r : Result Gone StoreError) (n : MemData) → MemDeletes m name r n → IsLast m.faults → r ≡ Err Memory
delete_last m name (Ok gone.Done) n h last = let fits : m.faults + 1 < 2 ^ 64 = h.1.counted in absurd (omega arith)
delete_last m name (Ok gone.Absent) n h last = let fits : m.faults + 1 < 2 ^ 64 = h.1.counted in absurd (omega arith)
delete_last m name (Err Failed) n h last = let fits : m.faults + 1 < 2 ^ 64 = h.counted in absurd (omega arith)
delete_last m name (Err Memory) n h last = refl
