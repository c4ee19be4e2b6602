-- Digests of what the actions name: actions that name the same have the same digest.
use Rattle.std.specs.Prelude.{ℕ, ◌*◌, ◌/◌, ◌%◌, ◌^◌, ◌==◌, List, [], Option, None, Some, length, map, fold, drop, bit_xor}
use Rattle.std.specs.Int.{w64, from_le_bytes}
use Rattle.std.specs.Simd.{first_chunks}
use Rattle.std.specs.List.{IsDistinct}
use Rattle.action_types.specs.declared.actions.Action.{Action}
use Rattle.action_types.specs.declared.actions.Action.TheVariants as action
use Rattle.action_types.specs.Files.{File, file_of_add, file_of_remove}

-- one round of FNV-1a
abbrev pub fnv_step : ℕ → ℕ → ℕ
fnv_step hash b = (bit_xor hash b * 0x100000001b3) % 2 ^ 64

-- the round of eight bytes: the high half of the product is put into its low half too, so that each bit of them reaches low bits later
abbrev pub word_step : ℕ → List ℕ → ℕ
word_step hash word =
    let product : ℕ = (bit_xor hash (from_le_bytes w64 word) * 0x9e3779b97f4a7c15) % 2 ^ 64 in
    bit_xor product (product / 2 ^ 32)

-- the rounds of more bytes: one for each eight of them, and one for each byte that is left
unfoldable pub digested : ℕ → List ℕ → ℕ
digested hash bytes =
    let words : ℕ = length bytes / 8 in
    fold fnv_step (fold word_step hash (first_chunks 8 words bytes)) (drop (words * 8) bytes)

-- the digest of a byte for what the key is of, and then of the key
unfoldable pub digest : ℕ → List ℕ → ℕ
digest tag key = digested (fnv_step 0xcbf29ce484222325 tag) key

-- those of a path and, where there is a vector, of a byte that no text has and of the unique id
unfoldable pub vector_digest : ℕ → Option (List ℕ) → ℕ
vector_digest hash None = hash
vector_digest hash (Some id) = digested (fnv_step hash 255) id

unfoldable pub file_digest : File → ℕ
file_digest file = vector_digest (digest 5 file.path) file.id

-- the digest of what an action names: itself, where its kind stands once, an application, a domain or a file
unfoldable pub digest_of : Action → ℕ
digest_of (action.Info a) = digest 1 []
digest_of (action.Protocol a) = digest 2 []
digest_of (action.Meta a) = digest 3 []
digest_of (action.Txn a) = digest 4 a.app
digest_of (action.Domain a) = digest 6 a.domain
digest_of (action.Remove a) = file_digest (file_of_remove a)
digest_of (action.Add a) = file_digest (file_of_add a)

-- no two actions have the same digest
abbrev pub HasDistinctDigests : List Action → Type 0
HasDistinctDigests actions = IsDistinct ◌==◌ (map digest_of actions)
