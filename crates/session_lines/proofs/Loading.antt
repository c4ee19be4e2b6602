-- The text of an object by its members, one after another.
use Rattle.std.proofs.Common.{◌≡◌, ℕ, List, [], ◌∷◌, ◌++◌, Bool, true, Option, Some, None, refl, sym, ap, ap₂, ◌∙◌, append_assoc, append-nil, Ok, Err, OnOk, Result}
use Rattle.json.specs.Print.{print, print_from, quoted}
use Rattle.json.specs.Token.{Token}
use Rattle.json.specs.Written.{Written}
use Rattle.serde_json.specs.Data.{Data, object, Items, item}
use Rattle.serde_json.specs.Written.{comma_if, compact_text, items_text, members_text}
use Rattle.serde_json.proofs.Texts.{print-outline}
use Rattle.action_fields.specs.Canonical.{Fields, with_field, with_fields}
use Rattle.action_fields.specs.Tokens.{Puts, data_tokens, field_tokens}
use Rattle.session_lines.specs.Loaded.{early_text, first_members, later_members, member_text, name_text}

-- a key and its value, written by themselves
pub print-member : (name : List ℕ) (d : Data) → print (field_tokens name (Some d)) ≡ quoted name ++ 58 ∷ compact_text d
unfolding field_tokens print_from
print-member name d = append_assoc (quoted name) (58 ∷ []) (print (data_tokens d)) ∙ ap (λ l. quoted name ++ 58 ∷ l) (print-outline d)

pub print-key : (name : List ℕ) → print (Token.key name ∷ []) ≡ quoted name ++ 58 ∷ []
unfolding print_from
print-key name = append-nil (quoted name ++ 58 ∷ [])

named : (name : List ℕ) (rest : List ℕ) → name_text name ++ rest ≡ 44 ∷ (quoted name ++ 58 ∷ rest)
unfolding name_text
named name rest = ap (λ l. 44 ∷ l) (append_assoc (quoted name) (58 ∷ []) rest)

one-member : (name : List ℕ) (o : Option Data) (fs : Fields) (rest : List ℕ)
    → members_text true (with_fields fs) ≡ later_members fs ++ rest → members_text true (with_field name o (with_fields fs)) ≡ (member_text name o ++ later_members fs) ++ rest
unfolding member_text
one-member name None fs rest e = e
one-member name (Some d) fs rest e =
    ap (λ l. 44 ∷ (quoted name ++ 58 ∷ (compact_text d ++ l))) e
    ∙ sym (append_assoc (name_text name ++ compact_text d) (later_members fs) rest
    ∙ append_assoc (name_text name) (compact_text d) (later_members fs ++ rest)
    ∙ named name (compact_text d ++ (later_members fs ++ rest)))

pub members-later : (fs : Fields) → members_text true (with_fields fs) ≡ later_members fs ++ 125 ∷ []
members-later [] = refl
members-later (f ∷ fs) = one-member f.0 f.1 fs (125 ∷ []) (members-later fs)

later-append : (fs gs : Fields) → later_members (fs ++ gs) ≡ later_members fs ++ later_members gs
later-append [] gs = refl
later-append (f ∷ fs) gs =
    ap (λ l. member_text f.0 f.1 ++ l) (later-append fs gs) ∙ sym (append_assoc (member_text f.0 f.1) (later_members fs) (later_members gs))

-- a member and all that follows it in an object
tail-text : (name : List ℕ) (d : Data) (fs gs : Fields)
    → quoted name ++ 58 ∷ (compact_text d ++ members_text true (with_fields (fs ++ gs)))
    ≡ (quoted name ++ 58 ∷ compact_text d) ++ (later_members fs ++ (later_members gs ++ 125 ∷ []))
tail-text name d fs gs =
    ap (λ l. quoted name ++ 58 ∷ (compact_text d ++ l)) (members-later (fs ++ gs) ∙ ap (λ l. l ++ 125 ∷ []) (later-append fs gs) ∙ append_assoc (later_members fs) (later_members gs) (125 ∷ []))
    ∙ sym (append_assoc (quoted name) (58 ∷ compact_text d) (later_members fs ++ (later_members gs ++ 125 ∷ [])))

grouped : (front : List ℕ) (fs gs : Fields)
    → front ++ (later_members fs ++ (later_members gs ++ 125 ∷ [])) ≡ ((front ++ later_members fs) ++ later_members gs) ++ 125 ∷ []
grouped front fs gs =
    sym (append_assoc (front ++ later_members fs) (later_members gs) (125 ∷ []) ∙ append_assoc front (later_members fs) (later_members gs ++ 125 ∷ []))

early-text : (name : List ℕ) (d : Data) (rest : List ℕ) → (quoted name ++ 58 ∷ (compact_text d ++ 44 ∷ [])) ++ rest ≡ quoted name ++ 58 ∷ (compact_text d ++ 44 ∷ rest)
early-text name d rest =
    append_assoc (quoted name) (58 ∷ (compact_text d ++ 44 ∷ [])) rest ∙ ap (λ l. quoted name ++ 58 ∷ l) (append_assoc (compact_text d) (44 ∷ []) rest)

-- an object by a member that may be absent and the first one that is there, two parts of later ones, and the closing brace
pub object-text : (early : List ℕ) (o : Option Data) (name : List ℕ) (d : Data) (fs gs : Fields)
    → compact_text (object (with_fields ((early, o) ∷ (name, Some d) ∷ (fs ++ gs)))) ≡ ((first_members early o name d ++ later_members fs) ++ later_members gs) ++ 125 ∷ []
unfolding first_members early_text
object-text early None name d fs gs =
    ap (λ l. 123 ∷ l) (tail-text name d fs gs) ∙ grouped (123 ∷ (quoted name ++ 58 ∷ compact_text d)) fs gs
object-text early (Some e) name d fs gs =
    let front = quoted early ++ 58 ∷ (compact_text e ++ 44 ∷ []) in
    let here = quoted name ++ 58 ∷ compact_text d in
    let rest = later_members fs ++ (later_members gs ++ 125 ∷ []) in
    ap (λ t. 123 ∷ (quoted early ++ 58 ∷ (compact_text e ++ 44 ∷ t))) (tail-text name d fs gs)
    ∙ ap (λ l. 123 ∷ l) (sym (early-text early e (here ++ rest)) ∙ sym (append_assoc front here rest))
    ∙ grouped (123 ∷ (front ++ here)) fs gs

-- one more body in an array
pub item-more : (out : List ℕ) (later : Bool) (d : Data) (ds : Items) → (out ++ (comma_if later ++ compact_text d)) ++ items_text true ds ≡ out ++ items_text later (item d ds)
item-more out later d ds =
    append_assoc out (comma_if later ++ compact_text d) (items_text true ds) ∙ ap (λ l. out ++ l) (append_assoc (comma_if later) (compact_text d) (items_text true ds))

-- a member that was written into a new writer, behind a comma
pub pushed-member : {E : Type 0} (r : Result (Unit {0}) E) (old : List ℕ) (before new : Written) (name : List ℕ) (d : Data) (bytes : List ℕ)
    → before.tokens ≡ [] → before.before ≡ old ++ 44 ∷ [] → Puts r before new (field_tokens name (Some d)) → OnOk r (bytes ≡ new.before ++ print new.tokens)
    → OnOk r (bytes ≡ old ++ member_text name (Some d))
unfolding member_text
pushed-member (Ok u) old before new name d bytes none starts p is =
    is
    ∙ ap₂ (λ (a b : List ℕ). a ++ b) (p.before ∙ starts) (ap print (p.ok ∙ ap (λ l. l ++ field_tokens name (Some d)) none) ∙ print-member name d)
    ∙ append_assoc old (44 ∷ []) (quoted name ++ 58 ∷ compact_text d)
    ∙ ap (λ l. old ++ l) (sym (named name (compact_text d)))
pushed-member (Err e) old before new name d bytes none starts p is = tt

-- a key that was written into a new writer
pub pushed-key : (old : List ℕ) (before new : Written) (name : List ℕ) (bytes : List ℕ)
    → before.tokens ≡ [] → before.before ≡ old → new.tokens ≡ before.tokens ++ Token.key name ∷ [] → new.before ≡ before.before → bytes ≡ new.before ++ print new.tokens
    → bytes ≡ old ++ (quoted name ++ 58 ∷ [])
pushed-key old before new name bytes none starts ok kept is =
    is ∙ ap₂ (λ (a b : List ℕ). a ++ b) (kept ∙ starts) (ap print (ok ∙ ap (λ l. l ++ Token.key name ∷ []) none) ∙ print-key name)
