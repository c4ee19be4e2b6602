-- Each text of a form is read as its name, and only such texts are.
use Rattle.std.proofs.Common.{◌≡◌, ℕ, zero, suc, ◌+◌, ◌^◌, ◌<◌, ◌≤◌, ◌==◌, ◌⊎◌, List, [], ◌∷◌, ◌++◌, length, length-append, append_assoc, take, drop, Bool, true, false, ◌&&◌, nat_lt, if◌then◌else◌, Option, Some, None, inl, inr, arith, refl, sym, ap, ◌∙◌, codes}
use Rattle.std.proofs.lemmas.Bool.{ltb-true, lt-ltb, eqb-true, eq-eqb}
use Rattle.std.proofs.lemmas.List.{take_at, drop_at, take_all, take-append-drop, drop-drop, length-drop, length-take-le}
use Rattle.std.proofs.lemmas.Slice.Eq.{bytes_eq-Decides}
use Rattle.std.specs.Char.{is_ascii_digit}
use Rattle.std.specs.List.{list_all}
use Rattle.std.specs.Str.{bytes_eq}
use Rattle.log_names.specs.declared.LogName.{LogName}
use Rattle.log_names.specs.declared.LogName.TheVariants.{Published, Staged, Checkpoint, Parquet, Other}
use Rattle.log_names.specs.Texts.{digits, version_text, uuid_text, published_text, staged_text, checkpoint_text, whole_parquet_text, parquet_text, part_parquet_text, HasForm}
use Rattle.log_names.specs.Reading.{decimal_value, number_in, version_in, id_in, with_version, with_id, stands_at, is_part_at, published_in, staged_in, checkpoint_in, whole_parquet_in, parquet_in, part_parquet_in, name_of}
use Rattle.log_names.proofs.Digits.{length-digits, digits_are_digits, decimal_value-digits, digits-decimal_value, decimal_value-short}
use Rattle.log_names.proofs.Ids.{length-uuid_text, id_in-text, id_in-gives, passed, first_true, second_true, same_true}

pub length-version_text : (version : ℕ) → length (version_text version) ≡ 20
unfolding version_text
length-version_text version = length-digits 20 version

-- the lengths of texts that are written part by part
pub ruleset text_lengths = (length-append, length-version_text, length-uuid_text, append_assoc)

-- ---- numbers

number_in-digits : (width limit n : ℕ) → n < 10 ^ width → n < limit → number_in width limit (digits width n) ≡ Some n
unfolding number_in
number_in-digits width limit n short small =
    let long : (length (digits width n) == width) ≡ true = eq-eqb _ _ (length-digits width n) in
    let value = decimal_value-digits width n short in
    let fits : nat_lt (decimal_value (digits width n)) limit ≡ true = lt-ltb _ _ (rw value small) in
    rw (long, digits_are_digits width n, fits, value) refl

number_in-gives : (width limit : ℕ) (bs : List ℕ) (n : ℕ) → number_in width limit bs ≡ Some n → (n < limit) × (bs ≡ digits width n)
unfolding number_in
number_in-gives width limit bs n e =
    let tests = passed ((length bs == width) && list_all is_ascii_digit bs && nat_lt (decimal_value bs) limit) (decimal_value bs) n e in
    let front = first_true _ _ tests.0 in
    let long : length bs ≡ width = eqb-true _ _ (first_true _ _ front) in
    let small : decimal_value bs < limit = ltb-true _ _ (second_true _ _ tests.0) in
    rw (← tests.1) (small, sym (digits-decimal_value width bs long (second_true _ _ front)))

pub version_in-text : (version : ℕ) → version < 2 ^ 64 → version_in (version_text version) ≡ Some version
unfolding version_in version_text
version_in-text version small = number_in-digits 20 (2 ^ 64) version (omega arith) small

pub version_in-gives : (bs : List ℕ) (version : ℕ) → version_in bs ≡ Some version → (version < 2 ^ 64) × (bs ≡ version_text version)
unfolding version_in version_text
version_in-gives bs version e = number_in-gives 20 (2 ^ 64) bs version e

-- ---- parts of a text

-- a part at a seam, and what follows it
seam : (from len : ℕ) (part rest bs : List ℕ) → drop from bs ≡ part ++ rest → length part ≡ len
    → (take len (drop from bs) ≡ part) × (drop (from + len) bs ≡ rest)
seam from len part rest bs e long =
    (ap (take len) e ∙ take_at part rest len long, sym (drop-drop len from bs) ∙ ap (drop len) e ∙ drop_at part rest len long)

-- a text cut at an index
cut : (from len : ℕ) (part rest bs : List ℕ) → take len (drop from bs) ≡ part → drop (from + len) bs ≡ rest → drop from bs ≡ part ++ rest
cut from len part rest bs e r =
    sym (take-append-drop len (drop from bs)) ∙ ap (λ (l : List ℕ). l ++ drop len (drop from bs)) e
    ∙ ap (λ (l : List ℕ). part ++ l) (drop-drop len from bs ∙ r)

-- the last part of a text
ends : (from len : ℕ) (part bs : List ℕ) → length bs ≡ from + len → take len (drop from bs) ≡ part → drop from bs ≡ part
ends from len part bs long e = sym (take_all len (drop from bs) (omega (arith, length-drop from bs))) ∙ e

stands : (from len : ℕ) (part bs : List ℕ) → take len (drop from bs) ≡ part → bytes_eq (take len (drop from bs)) part ≡ true
stands from len part bs e = (bytes_eq-Decides (take len (drop from bs)) part).1 e

stood : (from len : ℕ) (part bs : List ℕ) → bytes_eq (take len (drop from bs)) part ≡ true → take len (drop from bs) ≡ part
stood from len part bs e = (bytes_eq-Decides (take len (drop from bs)) part).0 e

-- ---- what a reading gives

-- the text has the form of the name, or the name is of no form
abbrev pub FitsOr : List ℕ → LogName → Type 0
FitsOr bs n = HasForm bs n ⊎ (n ≡ Other)

if_framed : (t : Bool) (n : LogName) (bs : List ℕ) → (t ≡ true → FitsOr bs n) → FitsOr bs (if t then n else Other)
if_framed true n bs fits = fits refl
if_framed false n bs fits = inr refl

if_version : (name : ℕ → LogName) (o : Option ℕ) (bs : List ℕ) → ((version : ℕ) → o ≡ Some version → HasForm bs (name version))
    → FitsOr bs (with_version name o)
if_version name None bs fits = inr refl
if_version name (Some version) bs fits = inl (fits version refl)

if_id : (name : ℕ → ℕ → LogName) (o p : Option ℕ) (bs : List ℕ)
    → ((version id : ℕ) → o ≡ Some version → p ≡ Some id → HasForm bs (name version id))
    → FitsOr bs (with_id name o p)
if_id name None p bs fits = inr refl
if_id name (Some version) None bs fits = inr refl
if_id name (Some version) (Some id) bs fits = inl (fits version id refl refl)

-- ---- published commits

name_of-25 : (bs : List ℕ) → length bs ≡ 25 → name_of bs ≡ published_in bs
unfolding name_of
name_of-25 bs long = rw long refl

pub reads_published : (bs : List ℕ) (version : ℕ) → version < 2 ^ 64 → bs ≡ published_text version → name_of bs ≡ Published version
unfolding published_text published_in
reads_published bs version small e =
    let long : length bs ≡ 25 = ap length e ∙ length-append (version_text version) (codes ".json") ∙ ap (λ n. n + 5) (length-version_text version) in
    let front = seam 0 20 (version_text version) (codes ".json") bs e (length-version_text version) in
    let ending : take 5 (drop 20 bs) ≡ codes ".json" = ap (take 5) front.1 in
    let read : version_in (take 20 bs) ≡ Some version = ap version_in front.0 ∙ version_in-text version small in
    name_of-25 bs long ∙ rw (stands 20 5 (codes ".json") bs ending, read) refl

pub published_fits : (bs : List ℕ) → length bs ≡ 25 → FitsOr bs (published_in bs)
unfolding published_text published_in
published_fits bs long =
    if_framed (stands_at 20 (codes ".json") bs) (with_version Published (version_in (take 20 bs))) bs
    (λ framed. if_version Published (version_in (take 20 bs)) bs
    (λ version read.
    let got = version_in-gives (take 20 bs) version read in
    let ending = ends 20 5 (codes ".json") bs long (stood 20 5 (codes ".json") bs framed) in
    (got.0, cut 0 20 (version_text version) (codes ".json") bs got.1 ending)))

-- ---- staged commits

name_of-78 : (bs : List ℕ) → length bs ≡ 78 → name_of bs ≡ staged_in bs
unfolding name_of
name_of-78 bs long = rw long refl

pub length-staged_text : (version id : ℕ) → length (staged_text version id) ≡ 78
unfolding staged_text
length-staged_text version id =
    simp length-append (omega (arith, length-version_text version, length-uuid_text id))

pub reads_staged : (bs : List ℕ) (version id : ℕ) → version < 2 ^ 64 → id < 2 ^ 128 → bs ≡ staged_text version id → name_of bs ≡ Staged version id
unfolding staged_text staged_in
reads_staged bs version id small fits e =
    let long : length bs ≡ 78 = ap length e ∙ length-staged_text version id in
    let folder = seam 0 16 (codes "_staged_commits/") _ bs e refl in
    let digits = seam 16 20 (version_text version) _ bs folder.1 (length-version_text version) in
    let dot = seam 36 1 (codes ".") _ bs digits.1 refl in
    let uuid = seam 37 36 (uuid_text id) _ bs dot.1 (length-uuid_text id) in
    let ending : take 5 (drop 73 bs) ≡ codes ".json" = ap (take 5) uuid.1 in
    let read : version_in (take 20 (drop 16 bs)) ≡ Some version = ap version_in digits.0 ∙ version_in-text version small in
    let known : id_in (take 36 (drop 37 bs)) ≡ Some id = ap id_in uuid.0 ∙ id_in-text id fits in
    name_of-78 bs long
    ∙ rw (stands 0 16 (codes "_staged_commits/") bs folder.0, stands 36 1 (codes ".") bs dot.0, stands 73 5 (codes ".json") bs ending, read, known) refl

pub staged_fits : (bs : List ℕ) → length bs ≡ 78 → FitsOr bs (staged_in bs)
unfolding staged_text staged_in
staged_fits bs long =
    if_framed (stands_at 0 (codes "_staged_commits/") bs && stands_at 36 (codes ".") bs && stands_at 73 (codes ".json") bs)
    (with_id Staged (version_in (take 20 (drop 16 bs))) (id_in (take 36 (drop 37 bs)))) bs
    (λ framed. if_id Staged (version_in (take 20 (drop 16 bs))) (id_in (take 36 (drop 37 bs))) bs
    (λ version id read known.
    let number = version_in-gives (take 20 (drop 16 bs)) version read in
    let uuid = id_in-gives (take 36 (drop 37 bs)) id known in
    let front = first_true _ _ framed in
    let folder = stood 0 16 (codes "_staged_commits/") bs (first_true _ _ front) in
    let dot = stood 36 1 (codes ".") bs (second_true _ _ front) in
    let ending = ends 73 5 (codes ".json") bs long (stood 73 5 (codes ".json") bs (second_true _ _ framed)) in (
      number.0,
      uuid.0,
      cut 0 16 (codes "_staged_commits/") _ bs folder
          (cut 16 20 (version_text version) _ bs number.1
          (cut 36 1 (codes ".") _ bs dot
          (cut 37 36 (uuid_text id) _ bs uuid.1 ending))),
    )))

-- ---- checkpoints

name_of-73 : (bs : List ℕ) → length bs ≡ 73 → name_of bs ≡ checkpoint_in bs
unfolding name_of
name_of-73 bs long = rw long refl

pub length-checkpoint_text : (version id : ℕ) → length (checkpoint_text version id) ≡ 73
unfolding checkpoint_text
length-checkpoint_text version id =
    simp length-append (omega (arith, length-version_text version, length-uuid_text id))

pub reads_checkpoint : (bs : List ℕ) (version id : ℕ) → version < 2 ^ 64 → id < 2 ^ 128 → bs ≡ checkpoint_text version id → name_of bs ≡ Checkpoint version id
unfolding checkpoint_text checkpoint_in
reads_checkpoint bs version id small fits e =
    let long : length bs ≡ 73 = ap length e ∙ length-checkpoint_text version id in
    let digits = seam 0 20 (version_text version) _ bs e (length-version_text version) in
    let kind = seam 20 12 (codes ".checkpoint.") _ bs digits.1 refl in
    let uuid = seam 32 36 (uuid_text id) _ bs kind.1 (length-uuid_text id) in
    let ending : take 5 (drop 68 bs) ≡ codes ".json" = ap (take 5) uuid.1 in
    let read : version_in (take 20 bs) ≡ Some version = ap version_in digits.0 ∙ version_in-text version small in
    let known : id_in (take 36 (drop 32 bs)) ≡ Some id = ap id_in uuid.0 ∙ id_in-text id fits in
    name_of-73 bs long
    ∙ rw (stands 20 12 (codes ".checkpoint.") bs kind.0, stands 68 5 (codes ".json") bs ending, read, known) refl

pub checkpoint_fits : (bs : List ℕ) → length bs ≡ 73 → FitsOr bs (checkpoint_in bs)
unfolding checkpoint_text checkpoint_in
checkpoint_fits bs long =
    if_framed (stands_at 20 (codes ".checkpoint.") bs && stands_at 68 (codes ".json") bs)
    (with_id Checkpoint (version_in (take 20 bs)) (id_in (take 36 (drop 32 bs)))) bs
    (λ framed. if_id Checkpoint (version_in (take 20 bs)) (id_in (take 36 (drop 32 bs))) bs
    (λ version id read known.
    let number = version_in-gives (take 20 bs) version read in
    let uuid = id_in-gives (take 36 (drop 32 bs)) id known in
    let kind = stood 20 12 (codes ".checkpoint.") bs (first_true _ _ framed) in
    let ending = ends 68 5 (codes ".json") bs long (stood 68 5 (codes ".json") bs (second_true _ _ framed)) in (
      number.0,
      uuid.0,
      cut 0 20 (version_text version) _ bs number.1
          (cut 20 12 (codes ".checkpoint.") _ bs kind
          (cut 32 36 (uuid_text id) _ bs uuid.1 ending)),
    )))

-- ---- Parquet checkpoints

name_of-39 : (bs : List ℕ) → length bs ≡ 39 → name_of bs ≡ whole_parquet_in bs
unfolding name_of
name_of-39 bs long = rw long refl

pub reads_whole_parquet : (bs : List ℕ) (version : ℕ) → version < 2 ^ 64 → bs ≡ whole_parquet_text version → name_of bs ≡ Parquet version
unfolding whole_parquet_text whole_parquet_in
reads_whole_parquet bs version small e =
    let long : length bs ≡ 39 =
    ap length e ∙ length-append (version_text version) (codes ".checkpoint.parquet") ∙ ap (λ n. n + 19) (length-version_text version) in
    let front = seam 0 20 (version_text version) (codes ".checkpoint.parquet") bs e (length-version_text version) in
    let ending : take 19 (drop 20 bs) ≡ codes ".checkpoint.parquet" = ap (take 19) front.1 in
    let read : version_in (take 20 bs) ≡ Some version = ap version_in front.0 ∙ version_in-text version small in
    name_of-39 bs long ∙ rw (stands 20 19 (codes ".checkpoint.parquet") bs ending, read) refl

pub whole_parquet_fits : (bs : List ℕ) → length bs ≡ 39 → FitsOr bs (whole_parquet_in bs)
unfolding whole_parquet_text whole_parquet_in
whole_parquet_fits bs long =
    if_framed (stands_at 20 (codes ".checkpoint.parquet") bs) (with_version Parquet (version_in (take 20 bs))) bs
    (λ framed. if_version Parquet (version_in (take 20 bs)) bs
    (λ version read.
    let got = version_in-gives (take 20 bs) version read in
    let ending = ends 20 19 (codes ".checkpoint.parquet") bs long (stood 20 19 (codes ".checkpoint.parquet") bs framed) in
    (got.0, inl (cut 0 20 (version_text version) (codes ".checkpoint.parquet") bs got.1 ending))))

name_of-76 : (bs : List ℕ) → length bs ≡ 76 → name_of bs ≡ parquet_in bs
unfolding name_of
name_of-76 bs long = rw long refl

pub length-parquet_text : (version id : ℕ) → length (parquet_text version id) ≡ 76
unfolding parquet_text
length-parquet_text version id =
    simp length-append (omega (arith, length-version_text version, length-uuid_text id))

pub reads_parquet : (bs : List ℕ) (version id : ℕ) → version < 2 ^ 64 → id < 2 ^ 128 → bs ≡ parquet_text version id → name_of bs ≡ Parquet version
unfolding parquet_text parquet_in
reads_parquet bs version id small fits e =
    let long : length bs ≡ 76 = ap length e ∙ length-parquet_text version id in
    let digits = seam 0 20 (version_text version) _ bs e (length-version_text version) in
    let kind = seam 20 12 (codes ".checkpoint.") _ bs digits.1 refl in
    let uuid = seam 32 36 (uuid_text id) _ bs kind.1 (length-uuid_text id) in
    let ending : take 8 (drop 68 bs) ≡ codes ".parquet" = ap (take 8) uuid.1 in
    let read : version_in (take 20 bs) ≡ Some version = ap version_in digits.0 ∙ version_in-text version small in
    let known : id_in (take 36 (drop 32 bs)) ≡ Some id = ap id_in uuid.0 ∙ id_in-text id fits in
    name_of-76 bs long
    ∙ rw (stands 20 12 (codes ".checkpoint.") bs kind.0, stands 68 8 (codes ".parquet") bs ending, read, known) refl

pub parquet_fits : (bs : List ℕ) → length bs ≡ 76 → FitsOr bs (parquet_in bs)
unfolding parquet_text parquet_in
parquet_fits bs long =
    if_framed (stands_at 20 (codes ".checkpoint.") bs && stands_at 68 (codes ".parquet") bs)
    (with_id (λ version _. Parquet version) (version_in (take 20 bs)) (id_in (take 36 (drop 32 bs)))) bs
    (λ framed. if_id (λ version _. Parquet version) (version_in (take 20 bs)) (id_in (take 36 (drop 32 bs))) bs
    (λ version id read known.
    let number = version_in-gives (take 20 bs) version read in
    let uuid = id_in-gives (take 36 (drop 32 bs)) id known in
    let kind = stood 20 12 (codes ".checkpoint.") bs (first_true _ _ framed) in
    let ending = ends 68 8 (codes ".parquet") bs long (stood 68 8 (codes ".parquet") bs (second_true _ _ framed)) in (
      number.0,
      inr (inl (
        id,
        uuid.0,
        cut 0 20 (version_text version) _ bs number.1
            (cut 20 12 (codes ".checkpoint.") _ bs kind
            (cut 32 36 (uuid_text id) _ bs uuid.1 ending)),
      )),
    )))

name_of-61 : (bs : List ℕ) → length bs ≡ 61 → name_of bs ≡ part_parquet_in bs
unfolding name_of
name_of-61 bs long = rw long refl

pub length-part_parquet_text : (version part parts : ℕ) → length (part_parquet_text version part parts) ≡ 61
unfolding part_parquet_text
length-part_parquet_text version part parts =
    simp length-append (omega (arith, length-version_text version, length-digits 10 part, length-digits 10 parts))

part_at : (from n : ℕ) (bs : List ℕ) → take 10 (drop from bs) ≡ digits 10 n → is_part_at from bs ≡ true
part_at from n bs e = ap (list_all is_ascii_digit) e ∙ digits_are_digits 10 n

part_of : (from : ℕ) (bs : List ℕ) → from + 10 ≤ length bs → is_part_at from bs ≡ true
    → (decimal_value (take 10 (drop from bs)) < 10 ^ 10) × (take 10 (drop from bs) ≡ digits 10 (decimal_value (take 10 (drop from bs))))
part_of from bs room all =
    let part = take 10 (drop from bs) in
    let long : length part ≡ 10 = length-take-le 10 (drop from bs) (omega (arith, length-drop from bs)) in
    (decimal_value-short 10 part long all, sym (digits-decimal_value 10 part long all))

pub reads_part_parquet : (bs : List ℕ) (version part parts : ℕ) → version < 2 ^ 64 → bs ≡ part_parquet_text version part parts
    → name_of bs ≡ Parquet version
unfolding part_parquet_text part_parquet_in
reads_part_parquet bs version part parts small e =
    let long : length bs ≡ 61 = ap length e ∙ length-part_parquet_text version part parts in
    let number = seam 0 20 (version_text version) _ bs e (length-version_text version) in
    let kind = seam 20 12 (codes ".checkpoint.") _ bs number.1 refl in
    let first = seam 32 10 (digits 10 part) _ bs kind.1 (length-digits 10 part) in
    let dot = seam 42 1 (codes ".") _ bs first.1 refl in
    let second = seam 43 10 (digits 10 parts) _ bs dot.1 (length-digits 10 parts) in
    let ending : take 8 (drop 53 bs) ≡ codes ".parquet" = ap (take 8) second.1 in
    let read : version_in (take 20 bs) ≡ Some version = ap version_in number.0 ∙ version_in-text version small in
    name_of-61 bs long
    ∙ rw (
      stands 20 12 (codes ".checkpoint.") bs kind.0,
      stands 42 1 (codes ".") bs dot.0,
      stands 53 8 (codes ".parquet") bs ending,
      part_at 32 part bs first.0,
      part_at 43 parts bs second.0,
      read,
    ) refl

pub part_parquet_fits : (bs : List ℕ) → length bs ≡ 61 → FitsOr bs (part_parquet_in bs)
unfolding part_parquet_text part_parquet_in
part_parquet_fits bs long =
    if_framed (stands_at 20 (codes ".checkpoint.") bs && stands_at 42 (codes ".") bs && stands_at 53 (codes ".parquet") bs && is_part_at 32 bs && is_part_at 43 bs)
    (with_version Parquet (version_in (take 20 bs))) bs
    (λ framed. if_version Parquet (version_in (take 20 bs)) bs
    (λ version read.
    let number = version_in-gives (take 20 bs) version read in
    let four = first_true _ _ framed in
    let three = first_true _ _ four in
    let two = first_true _ _ three in
    let kind = stood 20 12 (codes ".checkpoint.") bs (first_true _ _ two) in
    let dot = stood 42 1 (codes ".") bs (second_true _ _ two) in
    let ending = ends 53 8 (codes ".parquet") bs long (stood 53 8 (codes ".parquet") bs (second_true _ _ three)) in
    let part = part_of 32 bs (omega arith) (second_true _ _ four) in
    let parts = part_of 43 bs (omega arith) (second_true _ _ framed) in (
      number.0,
      inr (inr (
        decimal_value (take 10 (drop 32 bs)),
        decimal_value (take 10 (drop 43 bs)),
        part.0,
        parts.0,
        cut 0 20 (version_text version) _ bs number.1
            (cut 20 12 (codes ".checkpoint.") _ bs kind
            (cut 32 10 (digits 10 (decimal_value (take 10 (drop 32 bs)))) _ bs part.1
            (cut 42 1 (codes ".") _ bs dot
            (cut 43 10 (digits 10 (decimal_value (take 10 (drop 43 bs)))) _ bs parts.1 ending)))),
      )),
    )))

-- ---- the forms by their lengths

pub length-published_text : (version : ℕ) → length (published_text version) ≡ 25
unfolding published_text
length-published_text version =
    length-append (version_text version) (codes ".json") ∙ ap (λ n. n + 5) (length-version_text version)

pub length-whole_parquet_text : (version : ℕ) → length (whole_parquet_text version) ≡ 39
unfolding whole_parquet_text
length-whole_parquet_text version =
    length-append (version_text version) (codes ".checkpoint.parquet") ∙ ap (λ n. n + 19) (length-version_text version)

pub published_is_not_staged : (v w u : ℕ) → published_text v ≡ staged_text w u → ⊥
published_is_not_staged v w u e = omega (arith, ap length e, length-published_text v, length-staged_text w u)

pub published_is_not_checkpoint : (v w u : ℕ) → published_text v ≡ checkpoint_text w u → ⊥
published_is_not_checkpoint v w u e = omega (arith, ap length e, length-published_text v, length-checkpoint_text w u)

pub staged_is_not_checkpoint : (v u w x : ℕ) → staged_text v u ≡ checkpoint_text w x → ⊥
staged_is_not_checkpoint v u w x e = omega (arith, ap length e, length-staged_text v u, length-checkpoint_text w x)
