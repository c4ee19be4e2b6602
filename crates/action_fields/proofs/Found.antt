-- A field of a canonical body is found under its name.
use Rattle.std.proofs.Common.{◌≡◌, ℕ, ℤ, pos, negsuc, ◌^◌, ◌<◌, List, [], ◌∷◌, Bool, true, false, not, int_lt, Option, Some, None, is_some, option_map, option_and_then, IfSome, Ok, Ordering, Less, Equal, Greater, nat_cmp, refl, sym, ap, ◌∙◌, arith, lt-ltb}
use Rattle.std.proofs.lemmas.Bool.{and_parts}
use Rattle.std.specs.Cmp.Lexicographic.{slice_cmp}
use Rattle.std.specs.List.{list_all}
use Rattle.std.specs.Ordering.{match_ordering}
use Rattle.serde_json.specs.Data.{Data, string, object, Members}
use Rattle.serde_json.specs.Find.{get_member, as_null}
use Rattle.action_types.specs.declared.actions.Format.{Format}
use Rattle.action_fields.specs.Bodies.{required, optional, or_empty, if_given}
use Rattle.action_fields.specs.Canonical.{Fields, with_field, with_fields, integer_data, texts_items, names_data, value_data, pairs_members, pairs_data, format_data}
use Rattle.action_fields.specs.Fits.{Fits}
use Rattle.action_fields.specs.Types.{Pair, unless_null, given, integer, if_from_zero, from_zero, texts_in, names, value_in, pairs_in, pairs, format, path}
use Rattle.action_fields.specs.Valid.{is_from_zero, is_not_empty}

-- ---- look-ups

abbrev or_later : Option Data → Option Data → Option Data
or_later o None = o
or_later None (Some d) = Some d
or_later (Some e) (Some d) = Some e

-- the value of the first field of this name that is there
abbrev pub look : List ℕ → Fields → Option Data
look k [] = None
look k (f ∷ fs) = match_ordering (slice_cmp nat_cmp k f.0) (look k fs) (or_later f.1 (look k fs)) (look k fs)

or_later-none : (o : Option Data) → or_later None o ≡ o
or_later-none None = refl
or_later-none (Some d) = refl

or_later-some : (d : Data) (o : Option Data) → or_later (Some d) o ≡ Some d
or_later-some d None = refl
or_later-some d (Some e) = refl

skipped : (o : Ordering) (x : Option Data) → x ≡ match_ordering o x (or_later None x) x
skipped Less x = refl
skipped Equal x = sym (or_later-none x)
skipped Greater x = refl

get_member-with_field : (k name : List ℕ) (o : Option Data) (ms : Members) (found : Option Data) → get_member k ms ≡ found
    → get_member k (with_field name o ms) ≡ match_ordering (slice_cmp nat_cmp k name) found (or_later o found) found
get_member-with_field k name None ms found e = e ∙ skipped (slice_cmp nat_cmp k name) found
get_member-with_field k name (Some d) ms found e =
    ap (λ x. match_ordering (slice_cmp nat_cmp k name) x (Some d) x) e ∙ ap (λ x. match_ordering (slice_cmp nat_cmp k name) found x found) (sym (or_later-some d found))

pub get_member-with_fields : (k : List ℕ) (fs : Fields) → get_member k (with_fields fs) ≡ look k fs
get_member-with_fields k [] = refl
get_member-with_fields k (f ∷ fs) = get_member-with_field k f.0 f.1 (with_fields fs) (look k fs) (get_member-with_fields k fs)

given-with_fields : (k : List ℕ) (fs : Fields) (o : Option Data) → look k fs ≡ o → given k (object (with_fields fs)) ≡ unless_null o
given-with_fields k fs o e = ap unless_null (get_member-with_fields k fs ∙ e)

pub required_found : {A : Type 0} (type : Data → Option A) (f : List ℕ) (fs : Fields) (d : Data) (a : A) → look f fs ≡ Some d → is_some (as_null d) ≡ false → type d ≡ Some a → required type f (object (with_fields fs)) ≡ Ok a
unfolding required
required_found type f fs d a e some reads = rw (given-with_fields f fs (Some d) e, some, reads) refl

pub optional_found : {A : Type 0} (type : Data → Option A) (f : List ℕ) (fs : Fields) (o : Option Data) (a : Option A) → look f fs ≡ o → if_given type f (unless_null o) ≡ Ok a → optional type f (object (with_fields fs)) ≡ Ok a
unfolding optional
optional_found type f fs o a e reads = ap (if_given type f) (given-with_fields f fs o e) ∙ reads

-- a value that is made of what is there, and read back
pub given_made : {W : Type 0} (type : Data → Option W) (f : List ℕ) (make : W → Data) (o : Option W) → ((w : W) → is_some (as_null (make w)) ≡ false) → IfSome o (λ w. type (make w) ≡ Some w) → if_given type f (unless_null (option_map make o)) ≡ Ok o
given_made type f make None some reads = refl
given_made type f make (Some w) some reads = rw (some w, reads) refl

-- ---- types

pub integer-again : (z : ℤ) → Fits z → integer (integer_data z) ≡ Some z
integer-again (pos n) h = let small : n < 2 ^ 63 = omega arith in rw (lt-ltb n (2 ^ 63) small) refl
integer-again (negsuc n) h = refl

not_true : (b : Bool) → not b ≡ true → b ≡ false
not_true true h = absurd (cc)
not_true false h = refl

if_from_zero-again : (z : ℤ) → is_from_zero z ≡ true → if_from_zero z ≡ Some z
if_from_zero-again z h = rw (not_true (int_lt z (pos 0)) h) refl

pub from_zero-again : (z : ℤ) → Fits z → is_from_zero z ≡ true → from_zero (integer_data z) ≡ Some z
from_zero-again z fits h = ap (option_and_then if_from_zero) (integer-again z fits) ∙ if_from_zero-again z h

pub path-again : (s : List ℕ) → is_not_empty s ≡ true → path (string s) ≡ Some s
path-again [] h = absurd (cc)
path-again (b ∷ bs) h = refl

texts_in-again : (ss : List (List ℕ)) → texts_in (texts_items ss) ≡ Some ss
texts_in-again [] = refl
texts_in-again (s ∷ ss) = ap (option_map (λ rest. s ∷ rest)) (texts_in-again ss)

pub names-again : (ss : List (List ℕ)) → names (names_data ss) ≡ Some ss
names-again ss = texts_in-again ss

value_in-again : (v : Option (List ℕ)) → value_in true (value_data v) ≡ Some v
value_in-again None = refl
value_in-again (Some s) = refl

text_in-again : (v : Option (List ℕ)) → is_some v ≡ true → value_in false (value_data v) ≡ Some v
text_in-again None h = absurd (cc)
text_in-again (Some s) h = refl

pairs_in-more : (nulls : Bool) (p : Pair) (ps : List Pair) → value_in nulls (value_data p.1) ≡ Some p.1 → pairs_in nulls (pairs_members ps) ≡ Some ps → pairs_in nulls (pairs_members (p ∷ ps)) ≡ Some (p ∷ ps)
pairs_in-more nulls p ps here later = rw (here, later) refl

pub pairs-again : (ps : List Pair) → pairs true (pairs_data ps) ≡ Some ps
pairs-again [] = refl
pairs-again (p ∷ ps) = pairs_in-more true p ps (value_in-again p.1) (pairs-again ps)

pub texts-again : (ps : List Pair) → list_all (λ (p : Pair). is_some p.1) ps ≡ true → pairs false (pairs_data ps) ≡ Some ps
texts-again [] h = refl
texts-again (p ∷ ps) h =
    let parts = and_parts (is_some p.1) (list_all (λ (q : Pair). is_some q.1) ps) h in
    pairs_in-more false p ps (text_in-again p.1 parts.0) (texts-again ps parts.1)

pub or_empty_found : (f : List ℕ) (fs : Fields) (ps : List Pair) → look f fs ≡ Some (pairs_data ps) → pairs false (pairs_data ps) ≡ Some ps → or_empty f (object (with_fields fs)) ≡ Ok ps
unfolding or_empty
or_empty_found f fs ps e reads = rw (optional_found (pairs false) f fs (Some (pairs_data ps)) (Some ps) e (rw reads refl)) refl

pub format-again : (w : Format) → list_all (λ (p : Pair). is_some p.1) w.options ≡ true → format (format_data w) ≡ Some w
format-again w h = rw (texts-again w.options h) refl
