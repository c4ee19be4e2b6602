-- A map laid over an older one, and keys taken away: steps between the contracts.
use Rattle.std.specs.Prelude.{◌≡◌, ℕ, ◌&&◌, List, None, is_some, if◌then◌else◌}
use Rattle.std.specs.declared.cmp.Ordering.{Ordering}
use Rattle.std.specs.Ordering.{eq_by_cmp}
use Rattle.std.specs.FinMap as fin
use Rattle.action_types.specs.Files.{name_cmp}
use Rattle.reconcile.specs.ByFile.{Marked, look}
use Rattle.reconcile.specs.Replay.{or_else}

-- what the newer map tells, and the older one where it tells nothing
abbrev pub LaysOver : {K V : Type 0} {R : K → K → Ordering} → fin.FinMap R V → fin.FinMap R V → fin.FinMap R V → Type 0
LaysOver {K} {V} {R} old newer new = (k : K) → fin.get new k ≡ or_else (fin.get newer k) (fin.get old k)

-- without the keys of another map
abbrev pub Strikes : {K V W : Type 0} {R : K → K → Ordering} → fin.FinMap R V → fin.FinMap R W → fin.FinMap R V → Type 0
Strikes {K} {V} {W} {R} old keys new = (k : K) → fin.get new k ≡ (if is_some (fin.get keys k) then None else fin.get old k)

-- ---- ids under paths

abbrev pub LaysMarked : {V : Type 0} → Marked V → Marked V → Marked V → Type 0
LaysMarked old newer new = (q i : List ℕ) → look new q i ≡ or_else (look newer q i) (look old q i)

abbrev pub LaysIds : {V : Type 0} → Marked V → List ℕ → fin.FinMap name_cmp V → Marked V → Type 0
LaysIds old path newer new =
    (q i : List ℕ) → look new q i ≡ or_else (if eq_by_cmp name_cmp q path then fin.get newer i else None) (look old q i)

abbrev pub StrikesMarked : {V W : Type 0} → Marked V → Marked W → Marked V → Type 0
StrikesMarked old others new = (q i : List ℕ) → look new q i ≡ (if is_some (look others q i) then None else look old q i)

abbrev pub StrikesIds : {V W : Type 0} → Marked V → List ℕ → fin.FinMap name_cmp W → Marked V → Type 0
StrikesIds old path ids new =
    (q i : List ℕ) → look new q i ≡ (if eq_by_cmp name_cmp q path && is_some (fin.get ids i) then None else look old q i)
