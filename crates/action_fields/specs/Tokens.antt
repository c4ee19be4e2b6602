-- What a writer of tokens has written.
use Rattle.std.specs.Prelude.{◌≡◌, ℕ, List, [], ◌∷◌, ◌++◌, Option, Some, None, Result, OnOk}
use Rattle.json.specs.Token.{Token}
use Rattle.json.specs.Written.{Written}
use Rattle.json.specs.Tree.{json_tokens, items_tokens, members_tokens}
use Rattle.serde_json.specs.Data.{Data, Items, Members}
use Rattle.serde_json.specs.Written.{outline, items_outline, members_outline}
use Rattle.action_fields.specs.Canonical.{Fields}

-- the tokens are appended; on a refusal perhaps a part of them, and what stood before the writer is kept
pub record Puts {E : Type 0} (r : Result (Unit {0}) E) (old new : Written) (ts : List Token) : Type 0 where
  pub ok : OnOk r (new.tokens ≡ old.tokens ++ ts)
  pub before : new.before ≡ old.before

abbrev pub data_tokens : Data → List Token
data_tokens d = json_tokens (outline d)

-- with the closing bracket
abbrev pub items_outline_tokens : Items → List Token
items_outline_tokens ds = items_tokens (items_outline ds)

abbrev pub members_outline_tokens : Members → List Token
members_outline_tokens ms = members_tokens (members_outline ms)

-- a member, or nothing where its value is absent
unfoldable pub field_tokens : List ℕ → Option Data → List Token
field_tokens name None = []
field_tokens name (Some d) = Token.key name ∷ data_tokens d

abbrev pub fields_tokens : Fields → List Token
fields_tokens [] = []
fields_tokens (f ∷ fs) = field_tokens f.0 f.1 ++ fields_tokens fs
