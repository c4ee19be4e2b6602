-- Lists that are read value by value: what was found stands before what is still to be read.
use Rattle.std.proofs.Common.{◌≡◌, ℕ, ◌+◌, ◌<◌, List, [], ◌∷◌, ◌++◌, length, get_or, drop, Bool, Option, Some, None, option_map, option_and_then, refl, sym, ap, ◌∙◌, append_assoc, drop-cons, add-one, suc}
use Rattle.serde_json.specs.Find.{as_str}
use Rattle.json_tree.specs.View.{view, items_view, members_view}
use Rattle.json_tree.specs.declared.tree.Tree.{Tree}
use Rattle.json_tree.proofs.Entries.{Entry}
use Rattle.action_fields.specs.Types.{Pair, texts_in, pairs_in, value_in}

-- what was found, and behind it what is left
abbrev pub behind : {A : Type 0} → List A → Option (List A) → Option (List A)
behind done left = option_map (λ rest. done ++ rest) left

pub behind-nil : {A : Type 0} (left : Option (List A)) → behind [] left ≡ left
behind-nil None = refl
behind-nil (Some rest) = refl

behind-one : {A : Type 0} (done : List A) (a : A) (left : Option (List A)) → behind done (option_map (λ rest. a ∷ rest) left) ≡ behind (done ++ a ∷ []) left
behind-one done a None = refl
behind-one done a (Some rest) = ap Some (sym (append_assoc done (a ∷ []) rest))

at_item : (vs : List Tree) (i : ℕ) (v : Tree) → i < length vs → v ≡ get_or vs i v → drop i vs ≡ v ∷ drop (i + 1) vs
at_item vs i v h e = rw add-one (drop-cons vs i v h ∙ ap (λ w. w ∷ drop (suc i) vs) (sym e))

pub texts-more : (done : List (List ℕ)) (vs : List Tree) (i : ℕ) (v : Tree) (s : List ℕ) → i < length vs → v ≡ get_or vs i v → as_str (view v) ≡ Some s
    → behind done (texts_in (items_view (drop i vs))) ≡ behind (done ++ s ∷ []) (texts_in (items_view (drop (i + 1) vs)))
texts-more done vs i v s h e is =
    ap (λ rest. behind done (texts_in (items_view rest))) (at_item vs i v h e)
    ∙ ap (λ o. behind done (option_and_then (λ t. option_map (λ rest. t ∷ rest) (texts_in (items_view (drop (i + 1) vs)))) o)) is
    ∙ behind-one done s _

pub texts-none : (done : List (List ℕ)) (vs : List Tree) (i : ℕ) (v : Tree) → i < length vs → v ≡ get_or vs i v → as_str (view v) ≡ None
    → behind done (texts_in (items_view (drop i vs))) ≡ None
texts-none done vs i v h e is =
    ap (λ rest. behind done (texts_in (items_view rest))) (at_item vs i v h e)
    ∙ ap (λ o. behind done (option_and_then (λ t. option_map (λ rest. t ∷ rest) (texts_in (items_view (drop (i + 1) vs)))) o)) is

pub values-more : (nulls : Bool) (done : List Pair) (e : Entry) (es all : List Entry) (v : Option (List ℕ)) → all ≡ e ∷ es → value_in nulls (view e.1) ≡ Some v
    → behind done (pairs_in nulls (members_view all)) ≡ behind (done ++ (e.0.now, v) ∷ []) (pairs_in nulls (members_view es))
values-more nulls done e es all v cut is =
    ap (λ rest. behind done (pairs_in nulls (members_view rest))) cut
    ∙ ap (λ o. behind done (option_and_then (λ w. option_map (λ rest. (e.0.now, w) ∷ rest) (pairs_in nulls (members_view es))) o)) is
    ∙ behind-one done (e.0.now, v) _

pub values-none : (nulls : Bool) (done : List Pair) (e : Entry) (es all : List Entry) → all ≡ e ∷ es → value_in nulls (view e.1) ≡ None
    → behind done (pairs_in nulls (members_view all)) ≡ None
values-none nulls done e es all cut is =
    ap (λ rest. behind done (pairs_in nulls (members_view rest))) cut
    ∙ ap (λ o. behind done (option_and_then (λ w. option_map (λ rest. (e.0.now, w) ∷ rest) (pairs_in nulls (members_view es))) o)) is
