-- The grammar's lists of items and members, a turn at a time, as data.
--     item_turn, member_turn         a turn that reads one more
--     item_refused, member_refused   a turn whose value is none
--     key_refused                    a turn without a name
--     items_end, members_end         the turn that ends the list
use Rattle.std.proofs.Common.{◌≡◌, ℕ, zero, suc, ◌-◌, ◌<◌, ◌≤◌, List, [], ◌∷◌, ◌++◌, length, Option, Some, None, option_map, option_and_then, refl, ap, ◌∙◌}
use Rattle.json.specs.Token.{Token}
use Rattle.json.specs.Json as json
use Rattle.json.specs.Json.{Parse, parse_map, after_end_array, read_key, items_step, items, members, if_last}
use Rattle.json.proofs.Grammar as grammar
use Rattle.serde_json.specs.Data.{Data, array, object, Items, no_items, item, Members, no_members, put}
use Rattle.serde_json.specs.Read.{of_json, of_items, of_members, converted}
use Rattle.json_tree.specs.View.{view, items_view}
use Rattle.json_tree.specs.declared.tree.Tree.{Tree}

-- what was read, and the tokens behind it
abbrev Found : Type 0 → Type 0
Found A = Option (A × List Token)

abbrev or_else : {A : Type 0} → A → Option A → A
or_else other None = other
or_else other (Some a) = a

same_rest : {A B : Type 0} (a : A) (r s : List Token) (x : Option B) (b : B) → option_map {U = B × List Token} (λ y. (y, r)) x ≡ Some (b, s) → (r ≡ s) × (x ≡ Some b)
same_rest a r s None b e = absurd (cc)
same_rest a r s (Some y) b e = let both = ap (or_else (y, r)) e in (ap (λ p. p.1) both, ap (λ p. Some p.0) both)

none_of : {B : Type 0} (r : List Token) (x : Option B) → option_map {U = B × List Token} (λ y. (y, r)) x ≡ None → x ≡ None
none_of r None e = refl
none_of r (Some y) e = absurd (cc)

-- what was read before it became data
read_first : {A B : Type 0} (f : A → Option B) (o : Found A) (b : B) (r : List Token) → converted f o ≡ Some (b, r) → (a : A) × (o ≡ Some (a, r)) × (f a ≡ Some b)
read_first f None b r e = absurd (cc)
read_first f (Some p) b r e = let both = same_rest p.0 p.1 r (f p.0) b e in (p.0, ap (λ s. Some (p.0, s)) both.0, both.1)

mapped : {A B : Type 0} (g : A → B) (r : List Token) (x : Option A) → option_map (λ b. (b, r)) (option_map g x) ≡ parse_map g (option_map (λ a. (a, r)) x)
mapped g r None = refl
mapped g r (Some a) = refl

pub converted-array : (o : Found json.Items) → converted of_json (parse_map json.array o) ≡ parse_map array (converted of_items o)
converted-array None = refl
converted-array (Some p) = mapped array p.1 (of_items p.0)

pub converted-object : (o : Found json.Members) → converted of_json (parse_map json.object o) ≡ parse_map object (converted (λ ms. of_members ms no_members) o)
converted-object None = refl
converted-object (Some p) = mapped object p.1 (of_members p.0 no_members)

item_first : (j : json.Json) (d : Data) → of_json j ≡ Some d → (o : Found json.Items) → converted of_items (parse_map (json.item j) o) ≡ parse_map (item d) (converted of_items o)
item_first j d e None = refl
item_first j d e (Some p) = rw e (mapped (item d) p.1 (of_items p.0))

item_none : (j : json.Json) → of_json j ≡ None → (o : Found json.Items) → converted of_items (parse_map (json.item j) o) ≡ None
item_none j e None = refl
item_none j e (Some p) = rw e

member_first : (k : List ℕ) (j : json.Json) (d : Data) (before : Members) → of_json j ≡ Some d → (o : Found json.Members)
    → converted (λ ms. of_members ms before) (parse_map (json.member k j) o) ≡ converted (λ ms. of_members ms (put k d before)) o
member_first k j d before e None = refl
member_first k j d before e (Some p) = rw e

member_none : (k : List ℕ) (j : json.Json) (before : Members) → of_json j ≡ None → (o : Found json.Members) → converted (λ ms. of_members ms before) (parse_map (json.member k j) o) ≡ None
member_none k j before e None = refl
member_none k j before e (Some p) = rw e

module _ (p : Parse json.Json) where
  pub item_turn : (n : ℕ) (ts r : List Token) (d : Data) → 0 < n → after_end_array ts ≡ None → converted of_json (p ts) ≡ Some (d, r)
      → converted of_items (items p n ts) ≡ parse_map (item d) (converted of_items (items p (n - 1) r))
  item_turn n ts r d some going e = let j = read_first of_json (p ts) d r e in ap (converted of_items) (grammar.items_more p n ts r j.0 some going j.1) ∙ item_first j.0 d j.2 _

  item_missing : (more : Parse json.Items) (o : Found json.Json) → converted of_json o ≡ None → converted of_items (option_and_then (λ q. parse_map (json.item q.0) (more q.1)) o) ≡ None
  item_missing more None e = refl
  item_missing more (Some q) e = item_none q.0 (none_of q.1 (of_json q.0) e) (more q.1)

  pub item_refused : (n : ℕ) (ts : List Token) → after_end_array ts ≡ None → converted of_json (p ts) ≡ None → converted of_items (items p n ts) ≡ None
  unfolding items
  item_refused zero ts going e = refl
  item_refused (suc n) ts going e = ap (λ o. converted of_items (items_step p (items p n) ts o)) going ∙ item_missing (items p n) (p ts) e

  pub items_end : (n : ℕ) (ts r : List Token) → length ts ≤ n → after_end_array ts ≡ Some r → converted of_items (items p n ts) ≡ Some (no_items, r)
  items_end n ts r enough e = ap (converted of_items) (grammar.items_end p n ts r enough e)

  module _ (before : Members) where
    pub member_turn : (n : ℕ) (k : List ℕ) (ts s r : List Token) (d : Data) → 0 < n → read_key ts ≡ Some (Some k, s) → converted of_json (p s) ≡ Some (d, r)
        → converted (λ ms. of_members ms before) (members p n ts) ≡ converted (λ ms. of_members ms (put k d before)) (members p (n - 1) r)
    member_turn n k ts s r d some key e =
        let j = read_first of_json (p s) d r e in
        ap (converted (λ ms. of_members ms before)) (grammar.members_more p n k ts s r j.0 some key j.1) ∙ member_first k j.0 d before j.2 _

    member_missing : (k : List ℕ) (more : Parse json.Members) (o : Found json.Json) → converted of_json o ≡ None
        → converted (λ ms. of_members ms before) (option_and_then (λ q. parse_map (json.member k q.0) (more q.1)) o) ≡ None
    member_missing k more None e = refl
    member_missing k more (Some q) e = member_none k q.0 before (none_of q.1 (of_json q.0) e) (more q.1)

    pub member_refused : (n : ℕ) (k : List ℕ) (ts s : List Token) → read_key ts ≡ Some (Some k, s) → converted of_json (p s) ≡ None → converted (λ ms. of_members ms before) (members p n ts) ≡ None
    unfolding members
    member_refused zero k ts s key e = refl
    member_refused (suc n) k ts s key e = rw key (member_missing k (members p n) (p s) e)

    pub key_refused : (n : ℕ) (ts : List Token) → read_key ts ≡ None → converted (λ ms. of_members ms before) (members p n ts) ≡ None
    key_refused n ts e = ap (converted (λ ms. of_members ms before)) (grammar.members_no_key p n ts e)

    pub members_end : (n : ℕ) (ts r : List Token) → length ts ≤ n → read_key ts ≡ Some (None, r) → converted (λ ms. of_members ms before) (members p n ts) ≡ Some (before, r)
    members_end n ts r enough e = ap (converted (λ ms. of_members ms before)) (grammar.members_end p n ts r enough e)

-- the items found so far stand before those to come
abbrev pub items_before : List Tree → Items → Items
items_before [] rest = rest
items_before (t ∷ ts) rest = item (view t) (items_before ts rest)

pub items_before-no_items : (ts : List Tree) → items_before ts no_items ≡ items_view ts
items_before-no_items [] = refl
items_before-no_items (t ∷ ts) = ap (item (view t)) (items_before-no_items ts)

items_before-push : (ts : List Tree) (t : Tree) (rest : Items) → items_before ts (item (view t) rest) ≡ items_before (ts ++ t ∷ []) rest
items_before-push [] t rest = refl
items_before-push (u ∷ ts) t rest = ap (item (view u)) (items_before-push ts t rest)

pub one_more_item : (ts : List Tree) (t : Tree) (r : Found Items) → parse_map (items_before ts) (parse_map (item (view t)) r) ≡ parse_map (items_before (ts ++ t ∷ [])) r
one_more_item ts t None = refl
one_more_item ts t (Some p) = ap (λ ds. Some (ds, p.1)) (items_before-push ts t p.0)

pub none_before : (r : Found Items) → r ≡ parse_map (λ a. a) r
none_before None = refl
none_before (Some p) = refl

-- the whole text

abbrev whole : Found json.Json → Option Data
whole o = option_and_then of_json (option_and_then (λ p. if_last p.0 p.1) o)

pub whole_read : (o : Found json.Json) (d : Data) → converted of_json o ≡ Some (d, []) → whole o ≡ Some d
whole_read o d e = let j = read_first of_json o d [] e in ap whole j.1 ∙ j.2

pub whole_and_more : (o : Found json.Json) (d : Data) (t : Token) (r : List Token) → converted of_json o ≡ Some (d, t ∷ r) → whole o ≡ None
whole_and_more o d t r e = ap whole (read_first of_json o d (t ∷ r) e).1

pub whole_refused : (o : Found json.Json) → converted of_json o ≡ None → whole o ≡ None
whole_refused None e = refl
whole_refused (Some (j, [])) e = none_of [] (of_json j) e
whole_refused (Some (j, t ∷ r)) e = refl
