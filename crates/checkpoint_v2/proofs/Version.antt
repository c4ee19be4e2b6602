-- The line of a version: its tokens, and that it is read.
use Rattle.std.proofs.Common.{◌≡◌, ◌≢◌, ℕ, ◌<◌, ◌^◌, List, [], ◌∷◌, ◌++◌, codes, true, false, Result, Ok, Some, refl, sym, ap, ◌∙◌, append_assoc, append-nil, arith}
use Rattle.std.specs.Str.{is_utf8}
use Rattle.std.proofs.lemmas.List.Elements.{All-append, All-cons, All-nil}
use Rattle.json.specs.Print.{quoted}
use Rattle.json.specs.Token.{Token}
use Rattle.json.specs.Written.{Written, Writes}
use Rattle.json.proofs.Printed.Decimals.{IsNumber-decimal}
use Rattle.serde_json.specs.Data.{Data, unsigned, number, object, no_members, member}
use Rattle.serde_json.specs.Read.{read}
use Rattle.serde_json.specs.Written.{compact_text}
use Rattle.serde_json.proofs.Numbers.{number_of-decimal}
use Rattle.text_lines.specs.Lines.{HasNoLf, is_blank}
use Rattle.action_fields.specs.Tokens.{Puts, data_tokens, field_tokens}
use Rattle.action_fields.specs.Checkpoints.{version_of}
use Rattle.action_fields.specs.Bodies.{required}
use Rattle.action_fields.specs.Kinds.{kind_named}
use Rattle.action_fields.proofs.Again.{IsSound, read-compact_text}
use Rattle.action_fields.proofs.OneLine.{one_line-decimal, one_line-quoted}
use Rattle.action_fields.proofs.Tokens.{object_puts}
use Rattle.action_json.specs.CheckpointLines.{checkpoint_member, checkpoint_text, checkpoint_line_of}
use Rattle.action_json.specs.declared.checkpoint_line.CheckpointLine.TheVariants as says
use Rattle.checkpoint_v2.specs.Canonical.{metadata_data, version_data, version_line}

-- an object with one member
pub wrapped : {E : Type 0} (r : Result (Unit {0}) E) (old begun keyed mid new : Written) (k : List ℕ) (d : Data)
    → begun.tokens ≡ old.tokens ++ Token.begin_object ∷ [] → begun.before ≡ old.before → keyed.tokens ≡ begun.tokens ++ Token.key k ∷ [] → keyed.before ≡ begun.before
    → mid.tokens ≡ keyed.tokens ++ data_tokens d → mid.before ≡ keyed.before → Writes r mid new Token.end_object → Puts r old new (data_tokens (object (member k d no_members)))
unfolding field_tokens
wrapped r old begun keyed mid new k d begins kept key same_key body same_body w =
    object_puts r old begun mid new ((k, Some d) ∷ []) begins kept
    (body ∙ ap (λ l. l ++ data_tokens d) key ∙ append_assoc begun.tokens (Token.key k ∷ []) (data_tokens d) ∙ ap (λ l. begun.tokens ++ l) (sym (append-nil (Token.key k ∷ data_tokens d))))
    (same_body ∙ same_key) w

-- ---- the line is read

sound : (version : ℕ) → version < 2 ^ 64 → IsSound (version_data version)
sound version h = (refl, ((refl, ((IsNumber-decimal version h, number_of-decimal version h, one_line-decimal version h), tt)), tt))

read-version : (version : ℕ) → version < 2 ^ 64 → read (version_line version) ≡ Some (version_data version)
unfolding version_line
read-version version h = read-compact_text (version_data version) (sound version h) (omega arith)

abbrev P : ℕ → Type 0
P b = b ≢ 10

one_line-member : (k : List ℕ) (d : Data) → HasNoLf (compact_text d) → HasNoLf (compact_text (object (member k d no_members)))
one_line-member k d h =
    let end = All-cons P 125 [] (λ z. absurd (omega arith)) (All-nil P) in
    All-cons P 123 (quoted k ++ 58 ∷ (compact_text d ++ 125 ∷ [])) (λ z. absurd (omega arith))
    (All-append P (quoted k) (58 ∷ (compact_text d ++ 125 ∷ [])) (one_line-quoted k)
    (All-cons P 58 (compact_text d ++ 125 ∷ []) (λ z. absurd (omega arith)) (All-append P (compact_text d) (125 ∷ []) h end)))

-- it has no LF
pub one_line-version : (version : ℕ) → version < 2 ^ 64 → HasNoLf (version_line version)
unfolding version_line
one_line-version version h =
    one_line-member (codes "checkpointMetadata") (metadata_data version) (one_line-member (codes "version") (number (unsigned version)) (one_line-decimal version h))

not_blank : (version : ℕ) → is_blank (version_line version) ≡ false
unfolding version_line
not_blank version = refl

-- it says the version
pub line-version : (version : ℕ) → version < 2 ^ 64 → is_utf8 (version_line version) ≡ true → checkpoint_line_of (version_line version) ≡ Ok (says.Version version)
unfolding checkpoint_line_of checkpoint_text checkpoint_member version_of required kind_named
line-version version h utf8 = rw (not_blank version, utf8) (rw (read-version version h) refl)
