-- The text of an id has 36 bytes, none of which is escaped, so texts of commits that differ in their ids are of one length.
use Rattle.std.proofs.Common.{◌≡◌, ℕ, zero, suc, ◌+◌, ◌-◌, ◌<◌, ◌≤◌, ◌≢◌, ℤ, List, [], ◌∷◌, ◌++◌, length, nat_lt, Bool, true, false, cond, flat_map, codes, Option, Some, None, if◌then◌else◌, refl, sym, ap, ◌∙◌, arith, length-append}
use Rattle.std.proofs.lemmas.Bool.Decides.{nat_tests}
use Rattle.std.proofs.lemmas.List.Concat.{flat_map-append}
use Rattle.std.specs.Int.{to_be_bytes, w128}
use Rattle.uuid.specs.Text.{by_index, digit_place, hex_digit, hyphen, hyphenated_text, is_hyphen_place, lower, nibble}
use Rattle.json.specs.Print.{escape, escape_byte, quoted}
use Rattle.serde_json.specs.Written.{compact_text}
use Rattle.text_lines.specs.Lines.{with_lf}
use Rattle.action_types.specs.declared.actions.Action.{Action}
use Rattle.action_types.specs.declared.actions.Action.TheVariants as action
use Rattle.action_types.specs.declared.actions.Meta.{Meta}
use Rattle.action_fields.specs.Canonical.{canonical_line, integer_data}
use Rattle.action_json.specs.Commit.{canonical_text}
use Rattle.conflict_rules.specs.declared.intent.Intent.{Intent}
use Rattle.log_names.specs.Texts.{uuid_text}
use Rattle.staged_commit.specs.Composed.{composed_create, info_for}
use Rattle.staged_commit.specs.Writes.{composed_write}
use Rattle.staged_commit.specs.declared.create.Create.{Create}

-- ---- the text of an id

-- a digit or a hyphen stands for itself
unescaped : (c : ℕ) → 35 ≤ c → c ≢ 92 → length (escape_byte c) ≡ 1
unfolding escape_byte
unescaped c h k = grind (arith, nat_tests)

digit-low : (d : ℕ) → 35 ≤ hex_digit lower d
digit-low d = grind (arith, nat_tests)

digit-other : (d : ℕ) → hex_digit lower d ≢ 92
digit-other d = grind (arith, nat_tests)

place-length : (b : Bool) (d : ℕ) → length (escape_byte (if b then hyphen else hex_digit lower d)) ≡ 1
unfolding escape_byte
place-length true d = refl
place-length false d = unescaped (hex_digit lower d) (digit-low d) (digit-other d)

escaped-length : (n : ℕ) (f : ℕ → ℕ) → ((k : ℕ) → length (escape_byte (f k)) ≡ 1) → length (escape (by_index n f)) ≡ n
unfolding by_index
escaped-length zero f h = refl
escaped-length (suc n) f h =
    let joined : escape (by_index n f ++ f n ∷ []) ≡ escape (by_index n f) ++ (escape_byte (f n) ++ []) = flat_map-append escape_byte (by_index n f) (f n ∷ []) in
    ap length joined ∙ (simp length-append (omega (arith, escaped-length n f h, h n)))

id-length : (id : ℕ) → length (quoted (uuid_text id)) ≡ 38
unfolding uuid_text
id-length id =
    let inner : length (escape (uuid_text id)) ≡ 36 =
    escaped-length 36 (λ k. if is_hyphen_place k then hyphen else hex_digit lower (nibble (to_be_bytes w128 id) (digit_place k)))
    (λ k. place-length (is_hyphen_place k) (nibble (to_be_bytes w128 id) (digit_place k))) in
    simp length-append (omega (arith, inner))

-- ---- lengths of joined texts

right : (xs ys zs : List ℕ) → length ys ≡ length zs → length (xs ++ ys) ≡ length (xs ++ zs)
right xs ys zs h = length-append xs ys ∙ ap (λ n. length xs + n) h ∙ sym (length-append xs zs)

left : (xs ys zs : List ℕ) → length xs ≡ length ys → length (xs ++ zs) ≡ length (ys ++ zs)
left xs ys zs h = length-append xs zs ∙ ap (λ n. n + length zs) h ∙ sym (length-append ys zs)

-- a line of a commitInfo with this text of its id
info_line : ℤ → List ℕ → List ℕ
info_line time text =
    123 ∷ (quoted (codes "commitInfo") ++ 58 ∷ ((123 ∷ (quoted (codes "inCommitTimestamp") ++ 58 ∷ (compact_text (integer_data time)
    ++ (44 ∷ (quoted (codes "txnId") ++ 58 ∷ (text ++ 125 ∷ [])))))) ++ 125 ∷ []))

same-line : (time : ℤ) (text other : List ℕ) → length text ≡ length other → length (info_line time text) ≡ length (info_line time other)
unfolding info_line
same-line time text other h = simp length-append (omega (arith, h))

line-is : (id : ℕ) (time : ℤ) → canonical_line (action.Info (info_for id time)) ≡ info_line time (quoted (uuid_text id))
unfolding info_line canonical_line
line-is id time = refl

info-length : (id other : ℕ) (time : ℤ) → length (canonical_line (action.Info (info_for id time))) ≡ length (canonical_line (action.Info (info_for other time)))
info-length id other time =
    ap length (line-is id time) ∙ same-line time (quoted (uuid_text id)) (quoted (uuid_text other)) (id-length id ∙ sym (id-length other)) ∙ ap length (sym (line-is other time))

-- ---- commits

text-length : (id other : ℕ) (time : ℤ) (more : List Action) → length (canonical_text (action.Info (info_for id time) ∷ more)) ≡ length (canonical_text (action.Info (info_for other time) ∷ more))
unfolding canonical_text
text-length id other time more =
    left (with_lf (canonical_line (action.Info (info_for id time)))) (with_lf (canonical_line (action.Info (info_for other time)))) (flat_map (λ a. with_lf (canonical_line a)) more)
    (left (canonical_line (action.Info (info_for id time))) (canonical_line (action.Info (info_for other time))) (10 ∷ []) (info-length id other time))

pub write-length : (old : Option Meta) (intent : Intent) (id other : ℕ) (time : ℤ) → length (canonical_text (composed_write old intent id time)) ≡ length (canonical_text (composed_write old intent other time))
unfolding composed_write
write-length old intent id other time = text-length id other time _

pub create-length : (create : Create) (id other : ℕ) (time : ℤ) → length (canonical_text (composed_create create id time)) ≡ length (canonical_text (composed_create create other time))
unfolding composed_create
create-length create id other time = text-length id other time _
