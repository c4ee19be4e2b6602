-- What a line says: the same wherever it stands unless it is a flaw, valid fields, and an Info where it is the first.
use Rattle.std.proofs.Common.{◌≡◌, ℕ, List, [], ◌∷◌, Bool, true, false, not, ◌&&◌, codes, bytes_eq, Option, Some, None, IfSome, Result, Ok, Err, IfOk, if◌then◌else◌, refl, sym, ap, ◌∙◌, subst}
use Rattle.std.specs.Prelude.{⊤}
use Rattle.std.specs.Str.{is_utf8}
use Rattle.std.proofs.lemmas.Bool.{and_parts}
use Rattle.std.proofs.lemmas.Slice.Eq.{bytes_eq-Decides}
use Rattle.text_lines.specs.Lines.{is_blank}
use Rattle.serde_json.specs.Data.{Data, null, boolean, number, string, array, object, no_members, member}
use Rattle.serde_json.specs.Read.{read}
use Rattle.action_types.specs.declared.actions.Action.{Action}
use Rattle.action_types.specs.declared.actions.Action.TheVariants as action
use Rattle.action_fields.specs.declared.kind.Kind.{Kind}
use Rattle.action_fields.specs.declared.kind.Kind.TheVariants as kind
use Rattle.action_fields.specs.Bodies.{body_of}
use Rattle.action_fields.specs.Canonical.{kind_of}
use Rattle.action_fields.specs.Gives.{◌>>=◌}
use Rattle.action_fields.specs.Kinds.{kind_named}
use Rattle.action_fields.specs.Ordered.{are_rising, is_ordered}
use Rattle.action_fields.specs.Valid.{has_valid_fields}
use Rattle.action_fields.proofs.Accepted.{kind-body_of_info, valid-body_of}
use Rattle.action_fields.proofs.Reading.{ordered-read}
use Rattle.action_json.specs.Commit.{is_info}
use Rattle.action_json.specs.Lines.{or_why, only_member, commit_kind, said_of, body_line, member_line, text_line, line_of}
use Rattle.action_json.specs.declared.line.Line.{Line}
use Rattle.action_json.specs.declared.line.Line.TheVariants.{Blank, Unread, Says}
use Rattle.action_json.specs.declared.fault.Why.{Why}
use Rattle.action_json.specs.declared.fault.Why.TheVariants as why

-- ---- the same wherever it stands

abbrev pub Same : Result Line Why → Result Line Why → Type 0
Same (Ok v) s = s ≡ Ok v
Same (Err w) s = ⊤

same_itself : (r : Result Line Why) → Same r r
same_itself (Ok v) = refl
same_itself (Err w) = tt

same_if : (b : Bool) (x y z w : Result Line Why) → Same x z → Same y w → Same (if b then x else y) (if b then z else w)
same_if true x y z w h k = h
same_if false x y z w h k = k

same_unless : (b : Bool) (w : Why) (r : Result Line Why) → Same (if b then Err w else r) r
same_unless true w r = tt
same_unless false w r = same_itself r

same_bind : {A : Type 0} (r : Result A Why) (f g : A → Result Line Why) → ((a : A) → Same (f a) (g a)) → Same (r >>= f) (r >>= g)
same_bind (Ok a) f g k = k a
same_bind (Err w) f g k = tt

same_member : (first : Bool) (name : List ℕ) (body : Data) → Same (member_line first name body) (member_line false name body)
unfolding member_line
same_member true name body = same_unless (not (bytes_eq name (codes "commitInfo"))) why.InfoNotFirst (body_line (commit_kind name) body)
same_member false name body = same_itself (body_line (commit_kind name) body)

abbrev data_line : Bool → Data → Result Line Why
data_line first d = or_why why.NotOneMember (only_member d) >>= (λ m. member_line first m.0 m.1)

same_data : (first : Bool) (d : Data) → Same (data_line first d) (data_line false d)
same_data first d = same_bind (or_why why.NotOneMember (only_member d)) (λ m. member_line first m.0 m.1) (λ m. member_line false m.0 m.1) (λ m. same_member first m.0 m.1)

same_text : (first : Bool) (l : List ℕ) → Same (text_line first l) (text_line false l)
unfolding text_line
same_text first l = same_bind (or_why why.NotJson (read l)) (data_line first) (data_line false) (same_data first)

pub same_line : (first : Bool) (l : List ℕ) → Same (line_of first l) (line_of false l)
unfolding line_of
same_line first l =
    same_if (is_blank l) (Ok Blank) (if is_utf8 l then text_line first l else Err why.Utf8) (Ok Blank) (if is_utf8 l then text_line false l else Err why.Utf8) refl
    (same_if (is_utf8 l) (text_line first l) (Err why.Utf8) (text_line false l) (Err why.Utf8) (same_text first l) tt)

pub blank_line : (first : Bool) (l : List ℕ) → is_blank l ≡ true → line_of first l ≡ Ok Blank
unfolding line_of
blank_line first l e = rw e refl

-- ---- the first line that is not blank

-- it says an Info, or has a flaw
abbrev pub Speaks : Result Line Why → Type 0
Speaks (Ok Blank) = ⊥
Speaks (Ok Unread) = ⊥
Speaks (Ok (Says a)) = is_info a ≡ true
Speaks (Err w) = ⊤

is_info-kind : (a : Action) → kind_of a ≡ kind.Info → is_info a ≡ true
is_info-kind (action.Info a) e = refl
is_info-kind (action.Protocol a) e = absurd (cc)
is_info-kind (action.Meta a) e = absurd (cc)
is_info-kind (action.Txn a) e = absurd (cc)
is_info-kind (action.Domain a) e = absurd (cc)
is_info-kind (action.Remove a) e = absurd (cc)
is_info-kind (action.Add a) e = absurd (cc)

speaks_body : (r : Result Action (List ℕ)) → IfOk r (λ a. kind_of a ≡ kind.Info) → Speaks (said_of kind.Info r)
speaks_body (Ok a) h = is_info-kind a h
speaks_body (Err f) h = tt

info_named : commit_kind (codes "commitInfo") ≡ Some kind.Info
unfolding kind_named
info_named = refl

speaks_unless : (b : Bool) (name : List ℕ) (body : Data) → bytes_eq name (codes "commitInfo") ≡ b → Speaks (if not b then Err why.InfoNotFirst else body_line (commit_kind name) body)
speaks_unless false name body e = tt
speaks_unless true name body e =
    let is : name ≡ codes "commitInfo" = (bytes_eq-Decides name (codes "commitInfo")).0 e in
    let known : commit_kind name ≡ Some kind.Info = ap commit_kind is ∙ info_named in
    subst (λ (o : Option Kind). Speaks (body_line o body)) (sym known) (speaks_body (body_of kind.Info body) (kind-body_of_info body))

speaks_member : (name : List ℕ) (body : Data) → Speaks (member_line true name body)
unfolding member_line
speaks_member name body = speaks_unless (bytes_eq name (codes "commitInfo")) name body refl

speaks_bind : {A : Type 0} (r : Result A Why) (f : A → Result Line Why) → ((a : A) → Speaks (f a)) → Speaks (r >>= f)
speaks_bind (Ok a) f k = k a
speaks_bind (Err w) f k = tt

speaks_text : (l : List ℕ) → Speaks (text_line true l)
unfolding text_line
speaks_text l = speaks_bind (or_why why.NotJson (read l)) (data_line true) (λ d. speaks_bind (or_why why.NotOneMember (only_member d)) (λ m. member_line true m.0 m.1) (λ m. speaks_member m.0 m.1))

speaks_if : (b : Bool) (r : Result Line Why) → Speaks r → Speaks (if b then r else Err why.Utf8)
speaks_if true r h = h
speaks_if false r h = tt

pub speaks_line : (l : List ℕ) → is_blank l ≡ false → Speaks (line_of true l)
unfolding line_of
speaks_line l e = rw e (speaks_if (is_utf8 l) (text_line true l) (speaks_text l))

-- ---- valid fields

abbrev pub SaysValid : Result Line Why → Type 0
SaysValid (Ok Blank) = ⊤
SaysValid (Ok Unread) = ⊤
SaysValid (Ok (Says a)) = has_valid_fields a ≡ true
SaysValid (Err w) = ⊤

valid_said : (k : Kind) (r : Result Action (List ℕ)) → IfOk r (λ a. has_valid_fields a ≡ true) → SaysValid (said_of k r)
valid_said k (Ok a) h = h
valid_said k (Err f) h = tt

valid_body : (o : Option Kind) (body : Data) → is_ordered body ≡ true → SaysValid (body_line o body)
valid_body None body h = tt
valid_body (Some k) body h = valid_said k (body_of k body) (valid-body_of k body h)

valid_unless : (b : Bool) (w : Why) (r : Result Line Why) → SaysValid r → SaysValid (if b then Err w else r)
valid_unless true w r h = tt
valid_unless false w r h = h

valid_member : (first : Bool) (name : List ℕ) (body : Data) → is_ordered body ≡ true → SaysValid (member_line first name body)
unfolding member_line
valid_member first name body h = valid_unless (first && not (bytes_eq name (codes "commitInfo"))) why.InfoNotFirst (body_line (commit_kind name) body) (valid_body (commit_kind name) body h)

valid_option : {A : Type 0} (P : A → Type 0) (w : Why) (o : Option A) (f : A → Result Line Why) → ((a : A) → P a → SaysValid (f a)) → IfSome o P → SaysValid (or_why w o >>= f)
valid_option P w None f k h = tt
valid_option P w (Some a) f k h = k a h

ordered-only_member : (d : Data) → is_ordered d ≡ true → IfSome (only_member d) (λ m. is_ordered m.1 ≡ true)
ordered-only_member null h = tt
ordered-only_member (boolean b) h = tt
ordered-only_member (number n) h = tt
ordered-only_member (string s) h = tt
ordered-only_member (array ds) h = tt
ordered-only_member (object no_members) h = tt
ordered-only_member (object (member k d no_members)) h =
    (and_parts (is_ordered d) true (and_parts (are_rising (k ∷ [])) (is_ordered d && true) h).1).0
ordered-only_member (object (member k d (member l e ms))) h = tt

valid_text : (first : Bool) (l : List ℕ) → SaysValid (text_line first l)
unfolding text_line
valid_text first l =
    valid_option (λ d. is_ordered d ≡ true) why.NotJson (read l) (data_line first)
    (λ d h. valid_option (λ m. is_ordered m.1 ≡ true) why.NotOneMember (only_member d) (λ m. member_line first m.0 m.1) (λ m k. valid_member first m.0 m.1 k) (ordered-only_member d h)) (ordered-read l)

valid_if : (b : Bool) (x y : Result Line Why) → SaysValid x → SaysValid y → SaysValid (if b then x else y)
valid_if true x y h k = h
valid_if false x y h k = k

pub valid_line : (first : Bool) (l : List ℕ) → SaysValid (line_of first l)
unfolding line_of
valid_line first l =
    valid_if (is_blank l) (Ok Blank) (if is_utf8 l then text_line first l else Err why.Utf8) tt (valid_if (is_utf8 l) (text_line first l) (Err why.Utf8) (valid_text first l) tt)
