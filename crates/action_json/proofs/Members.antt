-- The one member of an object, by the entries of its map; and small facts on tests.
use Rattle.std.proofs.Common.{◌≡◌, ◌≢◌, ℕ, List, [], ◌∷◌, length, Bool, true, false, cond, ◌||◌, Some, None, is_some, refl, ap, arith}
use Rattle.std.specs.List.{slice_get}
use Rattle.json_tree.specs.View.{view, members_view}
use Rattle.json_tree.proofs.Entries.{Entry}
use Rattle.action_json.specs.Commit.{if_some}
use Rattle.action_json.specs.Lines.{member_of}

pub member_of-many : (es : List Entry) → length es ≢ 1 → member_of (members_view es) ≡ None
member_of-many [] h = refl
member_of-many (e ∷ []) h = absurd (h refl)
member_of-many (e ∷ f ∷ es) h = refl

pub member_of-one : (es : List Entry) (e : Entry) → length es ≡ 1 → slice_get es 0 ≡ Some e → member_of (members_view es) ≡ Some (e.0.now, view e.1)
member_of-one [] e h is = absurd (omega arith)
member_of-one (x ∷ []) e h is = let same : x ≡ e = cc in ap (λ y. Some (y.0.now, view y.1)) same
member_of-one (x ∷ y ∷ es) e h is = absurd (omega arith)

pub cond-or : (b x : Bool) → cond b true x ≡ x || b
cond-or true true = refl
cond-or true false = refl
cond-or false true = refl
cond-or false false = refl

pub is_some_if_some : (b : Bool) (key : List ℕ) → is_some (if_some b key) ≡ b
is_some_if_some true key = refl
is_some_if_some false key = refl
