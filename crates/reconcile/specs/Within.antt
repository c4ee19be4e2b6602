-- Whether one map tells all that another tells: steps between the contracts.
use Rattle.std.specs.Prelude.{◌≡◌, ℕ, List, Option, Some, option_and_then}
use Rattle.std.specs.declared.cmp.Ordering.{Ordering}
use Rattle.std.specs.FinMap as fin
use Rattle.action_types.specs.Files.{name_cmp}
use Rattle.reconcile.specs.ByFile.{Marked, look}

-- what the first map tells of a key, the second tells
abbrev pub IsWithin : {K V : Type 0} {R : K → K → Ordering} → fin.FinMap R V → fin.FinMap R V → Type 0
IsWithin {K} {V} {R} m n = (k : K) (v : V) → fin.get m k ≡ Some v → fin.get n k ≡ Some v

-- the same, where the second map may be none at all
abbrev pub IsAmong : {V : Type 0} → fin.FinMap name_cmp V → Option (fin.FinMap name_cmp V) → Type 0
IsAmong {V} m other = (k : List ℕ) (v : V) → fin.get m k ≡ Some v → option_and_then (λ n. fin.get n k) other ≡ Some v

-- the same, of ids under paths
abbrev pub IsMarkedWithin : {V : Type 0} → Marked V → Marked V → Type 0
IsMarkedWithin {V} m n = (q i : List ℕ) (v : V) → look m q i ≡ Some v → look n q i ≡ Some v
