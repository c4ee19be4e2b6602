-- Lists in an order; what stands alike in the order stays as it stood.
--     placed order x xs      the list with one more, before the first that is not below it
--     sorted order xs        the list in the order
--     are_apart same xs      no two are the same
use Rattle.std.specs.Prelude.{List, [], ◌∷◌, Bool, true, if◌then◌else◌, ◌&&◌, not}
use Rattle.std.specs.List.{list_any}
use Rattle.std.specs.declared.cmp.Ordering.{Ordering}
use Rattle.std.specs.Ordering.{is_lt}

abbrev pub placed : {X : Type 0} → (X → X → Ordering) → X → List X → List X
placed order x [] = x ∷ []
placed order x (y ∷ ys) = if is_lt (order y x) then y ∷ placed order x ys else x ∷ y ∷ ys

abbrev pub sorted : {X : Type 0} → (X → X → Ordering) → List X → List X
sorted order [] = []
sorted order (x ∷ xs) = placed order x (sorted order xs)

abbrev pub are_apart : {X : Type 0} → (X → X → Bool) → List X → Bool
are_apart same [] = true
are_apart same (x ∷ xs) = not (list_any (same x) xs) && are_apart same xs
