-- A value that was read has its objects' names in order.
use Rattle.std.proofs.Common.{◌≡◌, ℕ, List, true, Option, Some, None, option_map, option_and_then, IfSome, refl}
use Rattle.std.proofs.lemmas.Bool.{and_from}
use Rattle.json.specs.Lex.{tokens}
use Rattle.json.specs.Json as json
use Rattle.serde_json.specs.Data.{Data, number, array, object, Items, item, Members, no_members, put}
use Rattle.serde_json.specs.Read.{number_of, of_json, of_items, of_members, max_depth, read}
use Rattle.action_fields.specs.Ordered.{names_of, are_rising, is_ordered, items_are_ordered, members_are_ordered}
use Rattle.action_fields.proofs.Rising.{rising-put, ordered-put}

Holds-map : {A B : Type 0} (P : A → Type 0) (Q : B → Type 0) (h : A → B) → ((a : A) → P a → Q (h a)) → (o : Option A) → IfSome o P → IfSome (option_map h o) Q
Holds-map P Q h k None x = tt
Holds-map P Q h k (Some a) x = k a x

Holds-and_then : {A B : Type 0} (P : A → Type 0) (Q : B → Type 0) (h : A → Option B) → ((a : A) → P a → IfSome (h a) Q) → (o : Option A) → IfSome o P → IfSome (option_and_then h o) Q
Holds-and_then P Q h k None x = tt
Holds-and_then P Q h k (Some a) x = k a x

Holds-any : {A : Type 0} (o : Option A) → IfSome o (λ a. Unit {0})
Holds-any None = tt
Holds-any (Some a) = tt

abbrev Ordered : Data → Type 0
Ordered d = is_ordered d ≡ true

abbrev ItemsOrdered : Items → Type 0
ItemsOrdered ds = items_are_ordered ds ≡ true

abbrev MembersOrdered : Members → Type 0
MembersOrdered ms = (are_rising (names_of ms) ≡ true) × (members_are_ordered ms ≡ true)

mutual
  ordered-of_json : (j : json.Json) → IfSome (of_json j) Ordered
  ordered-of_json json.null = refl
  ordered-of_json (json.boolean b) = refl
  ordered-of_json (json.number s) = Holds-map (λ n. Unit {0}) Ordered number (λ n x. refl) (number_of s) (Holds-any (number_of s))
  ordered-of_json (json.string s) = refl
  ordered-of_json (json.array js) = Holds-map ItemsOrdered Ordered array (λ ds x. x) (of_items js) (ordered-of_items js)
  ordered-of_json (json.object ms) = Holds-map MembersOrdered Ordered object (λ found x. and_from (are_rising (names_of found)) (members_are_ordered found) x.0 x.1) (of_members ms no_members) (ordered-of_members ms no_members (refl, refl))

  ordered-of_items : (js : json.Items) → IfSome (of_items js) ItemsOrdered
  ordered-of_items json.no_items = refl
  ordered-of_items (json.item j js) =
      Holds-and_then Ordered ItemsOrdered (λ d. option_map (item d) (of_items js))
      (λ d x. Holds-map ItemsOrdered ItemsOrdered (item d) (λ ds y. and_from (is_ordered d) (items_are_ordered ds) x y) (of_items js) (ordered-of_items js)) (of_json j) (ordered-of_json j)

  ordered-of_members : (ms : json.Members) (found : Members) → MembersOrdered found → IfSome (of_members ms found) MembersOrdered
  ordered-of_members json.no_members found h = h
  ordered-of_members (json.member k j ms) found h =
      Holds-and_then Ordered MembersOrdered (λ d. of_members ms (put k d found))
      (λ d x. ordered-of_members ms (put k d found) (rising-put k d found h.0, ordered-put k d found x h.1)) (of_json j) (ordered-of_json j)

pub ordered-read : (text : List ℕ) → IfSome (read text) Ordered
ordered-read text = Holds-and_then (λ j. Unit {0}) Ordered of_json (λ j x. ordered-of_json j) (option_and_then (λ p. json.if_last p.0 p.1) (json.value max_depth (tokens text))) (Holds-any _)
