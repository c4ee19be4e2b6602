-- A request that was read can be composed.
use Rattle.std.proofs.Common.{◌≡◌, ℕ, List, [], ◌∷◌, Bool, true, false, Option, Some, None, IfSome, IfOk, option_map, option_and_then, codes, Result, Ok, Err, if◌then◌else◌, unwrap_or, is_some, refl, subst}
use Rattle.std.specs.Ordering.{nat_cmp, match_ordering}
use Rattle.std.specs.declared.cmp.Ordering.{Ordering}
use Rattle.std.specs.declared.cmp.Ordering.TheVariants.{Less, Equal, Greater}
use Rattle.std.specs.Cmp.Lexicographic.{slice_cmp}
use Rattle.std.specs.Str.{is_utf8}
use Rattle.std.specs.List.{list_all}
use Rattle.std.proofs.lemmas.Bool.{and_parts, and_from}
use Rattle.serde_json.specs.Data.{Data, null, boolean, number, string, array, object, Items, no_items, item, Members, no_members, member}
use Rattle.serde_json.specs.Find.{as_null, as_object, get, get_member}
use Rattle.serde_json.specs.Read.{read}
use Rattle.action_types.specs.declared.actions.Action.{Action}
use Rattle.action_types.specs.declared.actions.Action.TheVariants as action
use Rattle.action_types.specs.declared.actions.Add.{Add}
use Rattle.action_fields.specs.Bodies.{body_of, if_given, optional, or_fault, required}
use Rattle.action_fields.specs.Gives.{◌>>=◌, Gives}
use Rattle.action_fields.specs.Ordered.{is_ordered, items_are_ordered, members_are_ordered, are_rising, names_of}
use Rattle.action_fields.specs.Types.{from_zero, given, path, unless_null}
use Rattle.action_fields.specs.Valid.{has_valid_fields}
use Rattle.action_fields.specs.declared.kind.Kind.TheVariants as kind
use Rattle.action_fields.proofs.Accepted.{valid-body_of}
use Rattle.action_fields.proofs.Reading.{ordered-read}
use Rattle.session_lines.specs.declared.fault.BadLine.{BadLine}
use Rattle.session_lines.specs.Faults.{told}
use Rattle.session_lines.specs.Members.{adds_in, as_add, files, files_or_none, if_own_files, other_member, schema}
use Rattle.staged_commit.specs.Adds.{have_own_files}
use Rattle.session_lines.specs.Requests.{IsRequest, create_of, members_say, op_in, op_request, or_field, or_why, request_of, text_request, unless_other, value_request, write_of}
use Rattle.session_lines.specs.declared.op.Op.{Op}
use Rattle.session_lines.specs.declared.op.Op.TheVariants as op
use Rattle.session_lines.specs.declared.fault.LineWhy.{LineWhy}
use Rattle.session_lines.specs.declared.fault.LineWhy.TheVariants as why
use Rattle.session_lines.specs.declared.request.Request.{Request}

-- ---- steps

bind-ok : {A B F : Type 0} (P : A → Type 0) (Q : B → Type 0) (f : A → Result B F) → ((a : A) → P a → IfOk (f a) Q) → (r : Result A F) → IfOk r P → IfOk (r >>= f) Q
bind-ok P Q f k (Ok a) h = k a h
bind-ok P Q f k (Err e) h = tt

any-ok : {A F : Type 0} (r : Result A F) → IfOk r (λ a. Unit {0})
any-ok (Ok a) = tt
any-ok (Err e) = tt

why-ok : {A : Type 0} (P : A → Type 0) (w : LineWhy) (o : Option A) → IfSome o P → IfOk (or_why w o) P
why-ok P w None h = tt
why-ok P w (Some a) h = h

any-some : {A : Type 0} (o : Option A) → IfSome o (λ a. Unit {0})
any-some None = tt
any-some (Some a) = tt

-- ---- files

abbrev is_good : Add → Bool
is_good a = has_valid_fields (action.Add a)

abbrev IsGood : Add → Type 0
IsGood a = is_good a ≡ true

abbrev AreGood : List Add → Type 0
AreGood adds = list_all is_good adds ≡ true

as_add-good : (r : Result Action (List ℕ)) → IfOk r (λ a. has_valid_fields a ≡ true) → IfSome (as_add r) IsGood
as_add-good (Ok (action.Info a)) h = tt
as_add-good (Ok (action.Protocol a)) h = tt
as_add-good (Ok (action.Meta a)) h = tt
as_add-good (Ok (action.Txn a)) h = tt
as_add-good (Ok (action.Domain a)) h = tt
as_add-good (Ok (action.Remove a)) h = tt
as_add-good (Ok (action.Add a)) h = h
as_add-good (Err f) h = tt

then-good : (o : Option Add) (rest : Option (List Add)) → IfSome o IsGood → IfSome rest AreGood → IfSome (option_and_then (λ a. option_map (λ more. a ∷ more) rest) o) AreGood
then-good None rest h k = tt
then-good (Some a) None h k = tt
then-good (Some a) (Some more) h k = and_from (is_good a) (list_all is_good more) h k

adds_in-good : (ds : Items) → items_are_ordered ds ≡ true → IfSome (adds_in ds) AreGood
adds_in-good no_items h = refl
adds_in-good (item d ds) h =
    then-good (as_add (body_of kind.Add d)) (adds_in ds)
    (as_add-good (body_of kind.Add d) (valid-body_of kind.Add d (and_parts (is_ordered d) (items_are_ordered ds) h).0))
    (adds_in-good ds (and_parts (is_ordered d) (items_are_ordered ds) h).1)

record Good (adds : List Add) : Type 0 where
  pub fields : AreGood adds
  pub files : have_own_files adds ≡ true

own-good : (adds : List Add) (b : Bool) → have_own_files adds ≡ b → AreGood adds → IfSome (if b then Some adds else None) Good
own-good adds true e h = record { fields = h; files = e }
own-good adds false e h = tt

each-good : (o : Option (List Add)) → IfSome o AreGood → IfSome (option_and_then if_own_files o) Good
each-good None h = tt
each-good (Some adds) h = own-good adds (have_own_files adds) refl h

files-good : (d : Data) → is_ordered d ≡ true → IfSome (files d) Good
files-good null h = tt
files-good (boolean b) h = tt
files-good (number n) h = tt
files-good (string s) h = tt
files-good (array ds) h = each-good (adds_in ds) (adds_in-good ds h)
files-good (object ms) h = tt

-- ---- members of an object in order

chosen-ordered : (o : Ordering) (x : Option Data) (d : Data) → IfSome x (λ e. is_ordered e ≡ true) → is_ordered d ≡ true
    → IfSome (match_ordering o x (Some d) x) (λ e. is_ordered e ≡ true)
chosen-ordered Less x d h k = h
chosen-ordered Equal x d h k = k
chosen-ordered Greater x d h k = h

member-ordered : (f : List ℕ) (ms : Members) → members_are_ordered ms ≡ true → IfSome (get_member f ms) (λ d. is_ordered d ≡ true)
member-ordered f no_members h = tt
member-ordered f (member k d ms) h =
    chosen-ordered (slice_cmp nat_cmp f k) (get_member f ms) d
    (member-ordered f ms (and_parts (is_ordered d) (members_are_ordered ms) h).1) (and_parts (is_ordered d) (members_are_ordered ms) h).0

get-ordered : (f : List ℕ) (d : Data) → is_ordered d ≡ true → IfSome (get f d) (λ e. is_ordered e ≡ true)
get-ordered f null h = tt
get-ordered f (boolean b) h = tt
get-ordered f (number n) h = tt
get-ordered f (string s) h = tt
get-ordered f (array ds) h = tt
get-ordered f (object ms) h = member-ordered f ms (and_parts (are_rising (names_of ms)) (members_are_ordered ms) h).1

unless-kept : (b : Bool) (d : Data) → is_ordered d ≡ true → IfSome (if b then None else Some d) (λ e. is_ordered e ≡ true)
unless-kept true d h = tt
unless-kept false d h = h

given-kept : (o : Option Data) → IfSome o (λ e. is_ordered e ≡ true) → IfSome (unless_null o) (λ e. is_ordered e ≡ true)
given-kept None h = tt
given-kept (Some d) h = unless-kept (is_some (as_null d)) d h

-- ---- requests

fault-good : (f : List ℕ) (o : Option (List Add)) → IfSome o Good → IfOk (or_fault f (option_map Some o)) (λ found. Good (unwrap_or found []))
fault-good f None h = tt
fault-good f (Some adds) h = h

no_files : Good []
unfolding have_own_files
no_files = record { fields = refl; files = refl }

given-good : (f : List ℕ) (o : Option Data) → IfSome o (λ e. is_ordered e ≡ true) → IfOk (if_given files f o) (λ found. Good (unwrap_or found []))
given-good f None h = no_files
given-good f (Some d) h = fault-good f (files d) (files-good d h)

files_or_none-good : (f : List ℕ) (d : Data) → is_ordered d ≡ true → IfOk (files_or_none f d) Good
unfolding files_or_none optional
files_or_none-good f d h =
    bind-ok (λ found. Good (unwrap_or found [])) Good (λ found. Ok (unwrap_or found [])) (λ found k. k) (if_given files f (given f d))
    (given-good f (given f d) (given-kept (get f d) (get-ordered f d h)))

write_of-good : (d : Data) → is_ordered d ≡ true → IfOk (write_of d) IsRequest
unfolding write_of
write_of-good d h =
    bind-ok Good IsRequest _
    (λ adds k. bind-ok (λ a. Unit {0}) IsRequest _
    (λ app u. bind-ok (λ a. Unit {0}) IsRequest _
    (λ n v. record { reads = refl; removes = refl; domains = refl; change = refl; fields = k.fields; files = k.files })
    (required from_zero (codes "number") d) (any-ok _))
    (required path (codes "app") d) (any-ok _))
    (files_or_none (codes "adds") d) (files_or_none-good (codes "adds") d h)

create_of-good : (d : Data) → IfOk (create_of d) IsRequest
unfolding create_of
create_of-good d =
    bind-ok (λ a. Unit {0}) IsRequest _
    (λ id u. bind-ok (λ a. Unit {0}) IsRequest _ (λ s v. record { configuration = refl; features = refl }) (required schema (codes "schema") d) (any-ok _))
    (required path (codes "id") d) (any-ok _)

say-good : (o : Op) (d : Data) → is_ordered d ≡ true → IfOk (members_say o d) IsRequest
say-good op.Create d h = create_of-good d
say-good op.Load d h = tt
say-good op.Write d h = write_of-good d h

field-good : (r : Result Request (List ℕ)) → IfOk r IsRequest → IfOk (or_field r) IsRequest
field-good (Ok a) h = h
field-good (Err f) h = tt

other-good : (o : Option (List ℕ)) (r : Result Request LineWhy) → IfOk r IsRequest → IfOk (unless_other o r) IsRequest
other-good None r h = h
other-good (Some f) r h = tt

op_request-good : (o : Op) (ms : Members) (d : Data) → is_ordered d ≡ true → IfOk (op_request o ms d) IsRequest
unfolding op_request
op_request-good o ms d h = other-good (other_member o ms) (or_field (members_say o d)) (field-good (members_say o d) (say-good o d h))

value_request-good : (d : Data) → is_ordered d ≡ true → IfOk (value_request d) IsRequest
unfolding value_request
value_request-good d h =
    bind-ok (λ a. Unit {0}) IsRequest _
    (λ ms u. bind-ok (λ a. Unit {0}) IsRequest _ (λ o v. op_request-good o ms d h) (or_why why.Op (op_in d)) (any-ok _))
    (or_why why.NotObject (as_object d)) (any-ok _)

text_request-good : (line : List ℕ) → IfOk (text_request line) IsRequest
unfolding text_request
text_request-good line =
    bind-ok (λ d. is_ordered d ≡ true) IsRequest value_request (λ d h. value_request-good d h)
    (or_why why.NotJson (read line)) (why-ok (λ d. is_ordered d ≡ true) why.NotJson (read line) (ordered-read line))

either-good : (b : Bool) (r : Result Request LineWhy) → IfOk r IsRequest → IfOk (if b then r else Err why.Utf8) IsRequest
either-good true r h = h
either-good false r h = tt

-- what is read of a line can be composed
pub request_of-good : (line : List ℕ) → IfOk (request_of line) IsRequest
unfolding request_of
request_of-good line = either-good (is_utf8 line) (text_request line) (text_request-good line)

pub valid-if-read : (line : List ℕ) (r : Result Request BadLine) → Gives told (λ (x : Request). x) r (request_of line) → IfOk r IsRequest
valid-if-read line (Ok request) h = let P : Result Request LineWhy → Type 0 = λ o. IfOk o IsRequest in subst P h (request_of-good line)
valid-if-read line (Err e) h = tt
