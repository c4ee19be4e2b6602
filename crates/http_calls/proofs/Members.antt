-- The number of members of an object is that of the entries of its map.
use Rattle.std.proofs.Common.{◌≡◌, suc, List, [], ◌∷◌, length, refl, ap, add-one}
use Rattle.json_tree.specs.View.{members_view}
use Rattle.json_tree.proofs.Entries.{Entry}
use Rattle.http_calls.specs.Bodies.{count_of}

pub count_of-entries : (es : List Entry) → count_of (members_view es) ≡ length es
count_of-entries [] = refl
count_of-entries (e ∷ es) = rw add-one (ap suc (count_of-entries es))
