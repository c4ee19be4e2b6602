-- How the values of one header name are told.
use Rattle.std.specs.Prelude.{ℕ, ◌≡◌, ◌≤◌, List, [], ◌∷◌, length}
use Rattle.http_wire.specs.declared.head.Values.{Values}
use Rattle.http_wire.specs.declared.head.Values.TheVariants as values

abbrev pub AreValues : Values → List (List ℕ) → Type 0
AreValues values.None vs = vs ≡ []
AreValues (values.One v) vs = vs ≡ v.now ∷ []
AreValues values.Many vs = 2 ≤ length vs
