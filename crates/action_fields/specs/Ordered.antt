-- A value whose objects have their names in byte order, each once. A value that was read is such a one.
use Rattle.std.specs.Prelude.{ℕ, ◌&&◌, Bool, true, List, [], ◌∷◌}
use Rattle.std.specs.Cmp.Lexicographic.{slice_cmp}
use Rattle.std.specs.List.{list_all}
use Rattle.std.specs.Ordering.{nat_cmp, is_lt}
use Rattle.serde_json.specs.Data.{Data, null, boolean, number, string, array, object, Items, no_items, item, Members, no_members, member}

abbrev pub names_of : Members → List (List ℕ)
names_of no_members = []
names_of (member k d ms) = k ∷ names_of ms

abbrev pub is_below : List ℕ → List ℕ → Bool
is_below k l = is_lt (slice_cmp nat_cmp k l)

-- each name is below all later ones
abbrev pub are_rising : List (List ℕ) → Bool
are_rising [] = true
are_rising (k ∷ ks) = list_all (is_below k) ks && are_rising ks

abbrev mutual
  pub is_ordered : Data → Bool
  is_ordered null = true
  is_ordered (boolean b) = true
  is_ordered (number n) = true
  is_ordered (string s) = true
  is_ordered (array ds) = items_are_ordered ds
  is_ordered (object ms) = are_rising (names_of ms) && members_are_ordered ms

  pub items_are_ordered : Items → Bool
  items_are_ordered no_items = true
  items_are_ordered (item d ds) = is_ordered d && items_are_ordered ds

  pub members_are_ordered : Members → Bool
  members_are_ordered no_members = true
  members_are_ordered (member k d ms) = is_ordered d && members_are_ordered ms
