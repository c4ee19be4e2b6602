-- The bytes of a unique id, read one by one out of the parts that it is made of.
use Rattle.std.specs.Prelude.{◌≡◌, ℕ, List, [], ◌∷◌, ◌++◌, Option, Some, None, MatchOption}
use Rattle.action_types.specs.declared.files.IdBytes.{IdBytes}

-- the bytes that are left
abbrev pub bytes_left : IdBytes → List ℕ
bytes_left id = id.storage.now ++ (id.locator.now ++ (id.mark.now ++ id.offset.now))

-- the first byte was taken off, or there was none
abbrev pub TakesFirst : Option ℕ → List ℕ → List ℕ → Type 0
TakesFirst first before after = MatchOption first ((before ≡ []) × (after ≡ [])) (λ byte. before ≡ byte ∷ after)
