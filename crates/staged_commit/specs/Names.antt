-- Names and pairs in byte order.
--     with_name name names     the names with one more in its place; they stay as they are where it is there
--     in_order names           the names in byte order, each once
--     with_pair pair pairs     the pairs with one more in its place; they stay as they are where its name is there
--     value_of name pairs      the value of the first pair of a name, if there is one
--     last_value_of name pairs the value of the last pair of a name, if there is one
use Rattle.std.specs.Prelude.{◌≡◌, ℕ, List, [], ◌∷◌, map, Option, Some, None, bytes_eq, if◌then◌else◌}
use Rattle.std.specs.List.Sorted.{IsStrictlySortedBy}
use Rattle.std.specs.Ordering.{match_ordering}
use Rattle.action_fields.specs.Types.{Pair}
use Rattle.reconcile.specs.Keys.{name_cmp}
use Rattle.reconcile.specs.Replay.{or_else}
use Rattle.table_rules.specs.Texts.{names_have}

abbrev pub with_name : List ℕ → List (List ℕ) → List (List ℕ)
with_name name [] = name ∷ []
with_name name (n ∷ ns) = match_ordering (name_cmp name n) (name ∷ n ∷ ns) (n ∷ ns) (n ∷ with_name name ns)

abbrev pub in_order : List (List ℕ) → List (List ℕ)
in_order [] = []
in_order (n ∷ ns) = with_name n (in_order ns)

abbrev pub with_pair : Pair → List Pair → List Pair
with_pair p [] = p ∷ []
with_pair p (q ∷ qs) = match_ordering (name_cmp p.0 q.0) (p ∷ q ∷ qs) (q ∷ qs) (q ∷ with_pair p qs)

-- each of these names stands once, in byte order, and no other name
pub record HasEachOnce (names list : List (List ℕ)) : Type 0 where
  pub rising : IsStrictlySortedBy name_cmp list
  pub same : (name : List ℕ) → names_have list name ≡ names_have names name

abbrev pub value_of : List ℕ → List Pair → Option (Option (List ℕ))
value_of name [] = None
value_of name (p ∷ ps) = if bytes_eq p.0 name then Some p.1 else value_of name ps

abbrev pub last_value_of : List ℕ → List Pair → Option (Option (List ℕ))
last_value_of name [] = None
last_value_of name (p ∷ ps) = or_else (last_value_of name ps) (value_of name (p ∷ []))

abbrev pub AreInOrder : List Pair → Type 0
AreInOrder pairs = IsStrictlySortedBy name_cmp (map (λ p. p.0) pairs)

-- each given pair is there, the last of those of one name, and the old pairs of other names
pub record HasPut (given old new : List Pair) : Type 0 where
  pub values : (name : List ℕ) → value_of name new ≡ or_else (last_value_of name given) (value_of name old)
  pub order : AreInOrder old → AreInOrder new
