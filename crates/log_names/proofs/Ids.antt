-- The UUID text of an id, and what is read of it.
use Rattle.std.proofs.Common.{◌≡◌, ℕ, zero, suc, ◌^◌, ◌<◌, List, length, Bool, true, false, ◌&&◌, nat_lt, if◌then◌else◌, Option, Some, None, option_and_then, All, inl, arith, refl, sym, ap, ◌∙◌}
use Rattle.std.proofs.lemmas.Bool.{ltb-true, lt-ltb}
use Rattle.std.proofs.lemmas.Slice.Eq.{bytes_eq-Decides}
use Rattle.std.specs.Int.{to_be_bytes, from_be_bytes, bytes_high_first, byte_at, w128}
use Rattle.std.specs.Str.{bytes_eq}
use Rattle.uuid.proofs.OrderLemmas.{from_be_bytes-to_be_bytes_16}
use Rattle.uuid.proofs.RoundTrips.{parses_hyphenated}
use Rattle.uuid.proofs.TextLemmas.{by_index_length}
use Rattle.uuid.specs.Text.{hyphenated_text, lower, parsed}
use Rattle.log_names.specs.Texts.{uuid_text}
use Rattle.log_names.specs.Reading.{same_id, id_in}

pub length-uuid_text : (id : ℕ) → length (uuid_text id) ≡ 36
unfolding uuid_text
length-uuid_text id = by_index_length 36 _

byte_small : (k n : ℕ) → byte_at k n < 256
byte_small zero n = omega arith
byte_small (suc k) n = omega arith

bytes_small : (k n : ℕ) → All (λ b. b < 256) (bytes_high_first k n)
bytes_small zero n i d within = absurd (omega arith)
bytes_small (suc k) n zero d within = byte_small k n
bytes_small (suc k) n (suc i) d within = bytes_small k n i d (omega arith)

pub same_true : (bs : List ℕ) → bytes_eq bs bs ≡ true
same_true bs = (bytes_eq-Decides bs bs).1 refl

pub same_id-text : (bs : List ℕ) (id : ℕ) → id < 2 ^ 128 → bytes_eq (uuid_text id) bs ≡ true → same_id bs id ≡ Some id
same_id-text bs id small same =
    let fits : nat_lt id (2 ^ 128) ≡ true = lt-ltb _ _ small in
    rw (fits, same) refl

and_false : (a b : Bool) → b ≡ false → (a && b) ≡ false
and_false true b e = e
and_false false b e = refl

pub same_id-other : (bs : List ℕ) (id : ℕ) → bytes_eq (uuid_text id) bs ≡ false → same_id bs id ≡ None
same_id-other bs id other = rw (and_false (nat_lt id (2 ^ 128)) (bytes_eq (uuid_text id) bs) other) refl

-- the UUID text of an id is read as the id
pub id_in-text : (id : ℕ) → id < 2 ^ 128 → id_in (uuid_text id) ≡ Some id
unfolding id_in uuid_text
id_in-text id small =
    let xs = to_be_bytes w128 id in
    let text = hyphenated_text lower xs in
    let read : Some xs ≡ parsed text = parses_hyphenated lower xs (inl refl) refl (bytes_small 16 id) in
    ap (option_and_then (λ bytes. same_id text (from_be_bytes w128 bytes))) (sym read)
    ∙ ap (same_id text) (from_be_bytes-to_be_bytes_16 id small)
    ∙ same_id-text text id small (same_true text)

-- what a test lets through
pub passed : (t : Bool) (m n : ℕ) → (if t then Some m else None) ≡ Some n → (t ≡ true) × (m ≡ n)
passed true m n e = (refl, (cc))
passed false m n e = cc

pub first_true : (a b : Bool) → (a && b) ≡ true → a ≡ true
first_true true b e = refl
first_true false b e = cc

pub second_true : (a b : Bool) → (a && b) ≡ true → b ≡ true
second_true true b e = e
second_true false b e = cc

same_id-gives : (bs : List ℕ) (m id : ℕ) → same_id bs m ≡ Some id → (id < 2 ^ 128) × (bs ≡ uuid_text id)
same_id-gives bs m id e =
    let both = passed (nat_lt m (2 ^ 128) && bytes_eq (uuid_text m) bs) m id e in
    let small : m < 2 ^ 128 = ltb-true _ _ (first_true _ _ both.0) in
    let same : uuid_text m ≡ bs = (bytes_eq-Decides (uuid_text m) bs).0 (second_true _ _ both.0) in
    rw (← both.1) (small, sym same)

from_parsed : (o : Option (List ℕ)) (bs : List ℕ) (id : ℕ) → option_and_then (λ bytes. same_id bs (from_be_bytes w128 bytes)) o ≡ Some id
    → (id < 2 ^ 128) × (bs ≡ uuid_text id)
from_parsed None bs id e = cc
from_parsed (Some bytes) bs id e = same_id-gives bs (from_be_bytes w128 bytes) id e

-- only its own text is read as an id
pub id_in-gives : (bs : List ℕ) (id : ℕ) → id_in bs ≡ Some id → (id < 2 ^ 128) × (bs ≡ uuid_text id)
unfolding id_in
id_in-gives bs id e = from_parsed (parsed bs) bs id e

none_parsed : (o : Option (List ℕ)) (bs : List ℕ) → ((bytes : List ℕ) → o ≡ Some bytes → ⊥)
    → option_and_then (λ bytes. same_id bs (from_be_bytes w128 bytes)) o ≡ None
none_parsed None bs none = refl
none_parsed (Some bytes) bs none = absurd (none bytes refl)

-- a text that is no UUID in any form is no id
pub id_in-unparsed : (bs : List ℕ) → ((bytes : List ℕ) → parsed bs ≡ Some bytes → ⊥) → id_in bs ≡ None
unfolding id_in
id_in-unparsed bs none = none_parsed (parsed bs) bs none

-- a UUID in some form is an id where its own text stands there
pub id_in-parsed : (bs bytes : List ℕ) → Some bytes ≡ parsed bs → id_in bs ≡ same_id bs (from_be_bytes w128 bytes)
unfolding id_in
id_in-parsed bs bytes e = ap (option_and_then (λ xs. same_id bs (from_be_bytes w128 xs))) (sym e)
