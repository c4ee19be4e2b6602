-- The tokens of a body are those of its fields, one after another.
use Rattle.std.proofs.Common.{◌≡◌, List, [], ◌∷◌, ◌++◌, Some, None, refl, sym, ap, ap₂, ◌∙◌, append_assoc, append-nil, Ok, Err, OnOk, true}
use Rattle.std.specs.Str.{is_utf8}
use Rattle.json.specs.Print.{print}
use Rattle.json.specs.Token.{Token}
use Rattle.serde_json.specs.Written.{compact_text}
use Rattle.serde_json.proofs.Texts.{print-outline}
use Rattle.serde_json.specs.Data.{Data, object}
use Rattle.action_fields.specs.Canonical.{Fields, with_field, with_fields}
use Rattle.action_fields.specs.Tokens.{Puts, data_tokens, members_outline_tokens, field_tokens, fields_tokens}
use Rattle.std.specs.Prelude.{ℕ, Option, Result}
use Rattle.std.proofs.lemmas.Result.{on_ok_weaker}
use Rattle.json.specs.Written.{Written, Writes}

-- a field goes before what follows
one_field : (name : List ℕ) (o : Option Data) (fs : Fields) → members_outline_tokens (with_field name o (with_fields fs)) ≡ field_tokens name o ++ members_outline_tokens (with_fields fs)
unfolding field_tokens
one_field name None fs = refl
one_field name (Some d) fs = refl

pub members_tokens-with_fields : (fs : Fields) → members_outline_tokens (with_fields fs) ≡ fields_tokens fs ++ Token.end_object ∷ []
members_tokens-with_fields [] = refl
members_tokens-with_fields (f ∷ fs) =
    one_field f.0 f.1 fs ∙ ap (λ ts. field_tokens f.0 f.1 ++ ts) (members_tokens-with_fields fs) ∙ sym (append_assoc (field_tokens f.0 f.1) (fields_tokens fs) _)

-- what joins the tokens of several calls
pub ruleset token_laws = (append_assoc, append-nil, members_tokens-with_fields)

-- a call after others that went well
pub puts_then : {E : Type 0} (r : Result (Unit {0}) E) (old mid new : Written) (ts us all : List Token)
    → mid.tokens ≡ old.tokens ++ ts → mid.before ≡ old.before → Puts r mid new us → all ≡ ts ++ us → Puts r old new all
puts_then r old mid new ts us all went kept p is = record {
  ok = on_ok_weaker r (λ (e : new.tokens ≡ mid.tokens ++ us). e ∙ ap (λ l. l ++ us) went ∙ append_assoc old.tokens ts us ∙ ap (λ l. old.tokens ++ l) (sym is)) p.ok;
  before = p.before ∙ kept;
}

-- the fields of an object between its braces
pub object_puts : {E : Type 0} (r : Result (Unit {0}) E) (old begun mid new : Written) (fs : Fields)
    → begun.tokens ≡ old.tokens ++ Token.begin_object ∷ [] → begun.before ≡ old.before → mid.tokens ≡ begun.tokens ++ fields_tokens fs → mid.before ≡ begun.before
    → Writes r mid new Token.end_object → Puts r old new (data_tokens (object (with_fields fs)))
object_puts r old begun mid new fs begins kept went same w =
    let front : mid.tokens ≡ (old.tokens ++ Token.begin_object ∷ []) ++ fields_tokens fs = went ∙ ap (λ l. l ++ fields_tokens fs) begins in
    let whole : (mid.tokens ++ Token.end_object ∷ []) ≡ old.tokens ++ Token.begin_object ∷ members_outline_tokens (with_fields fs) =
    ap (λ l. l ++ Token.end_object ∷ []) front ∙ append_assoc (old.tokens ++ Token.begin_object ∷ []) (fields_tokens fs) (Token.end_object ∷ [])
    ∙ append_assoc old.tokens (Token.begin_object ∷ []) (fields_tokens fs ++ Token.end_object ∷ [])
    ∙ ap (λ l. old.tokens ++ Token.begin_object ∷ l) (sym (members_tokens-with_fields fs)) in
    record {
      ok = on_ok_weaker r (λ (e : new.tokens ≡ mid.tokens ++ Token.end_object ∷ []). e ∙ whole) w.ok;
      before = w.room.0 ∙ same ∙ kept;
    }

-- a value that was put into a new writer is its compact text behind what stood there
pub printed : {E : Type 0} (r : Result (Unit {0}) E) (old new : Written) (d : Data) (bytes : List ℕ)
    → old.tokens ≡ [] → Puts r old new (data_tokens d) → OnOk r (bytes ≡ new.before ++ print new.tokens) → OnOk r (bytes ≡ old.before ++ compact_text d)
printed (Ok u) old new d bytes empty p is =
    is ∙ ap₂ (λ (a b : List ℕ). a ++ b) p.before (ap print (p.ok ∙ ap (λ l. l ++ data_tokens d) empty) ∙ print-outline d)
printed (Err e) old new d bytes empty p is = tt

-- and it is UTF-8
pub printed_utf8 : {E : Type 0} (r : Result (Unit {0}) E) (old new : Written) (d : Data)
    → old.tokens ≡ [] → Puts r old new (data_tokens d) → OnOk r (is_utf8 (print new.tokens) ≡ true) → OnOk r (is_utf8 (compact_text d) ≡ true)
printed_utf8 (Ok u) old new d empty p is = ap is_utf8 (sym (print-outline d) ∙ sym (ap print (p.ok ∙ ap (λ l. l ++ data_tokens d) empty))) ∙ is
printed_utf8 (Err e) old new d empty p is = tt
