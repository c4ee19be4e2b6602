-- An action that was read has valid fields.
use Rattle.std.proofs.Common.{◌≡◌, ℕ, ℤ, pos, int_lt, List, [], ◌∷◌, Bool, true, false, not, ◌&&◌, codes, map, Option, Some, None, is_some, option_map, option_and_then, unwrap_or, IfSome, Result, Ok, Err, IfOk, if◌then◌else◌, Ordering, Less, Equal, Greater, nat_cmp, refl, ap, ◌∙◌}
use Rattle.std.specs.Prelude.{⊤}
use Rattle.std.proofs.lemmas.Bool.{and_parts, and_from}
use Rattle.std.specs.Cmp.Lexicographic.{slice_cmp}
use Rattle.std.specs.List.{list_all}
use Rattle.std.specs.Option.{option_map_or}
use Rattle.std.specs.Ordering.{match_ordering}
use Rattle.std.specs.Result.{result_ok}
use Rattle.serde_json.specs.Data.{Data, null, boolean, number, string, array, object, Members, no_members, member}
use Rattle.serde_json.specs.Find.{get, get_member, as_null, as_str, as_object}
use Rattle.action_types.specs.declared.actions.Action.{Action}
use Rattle.action_types.specs.declared.actions.Action.TheVariants as action
use Rattle.action_types.specs.declared.actions.Format.{Format}
use Rattle.action_types.specs.declared.actions.Vector.{Vector}
use Rattle.action_fields.specs.declared.kind.Kind.{Kind}
use Rattle.action_fields.specs.declared.kind.Kind.TheVariants as kind
use Rattle.action_fields.specs.Bodies.{or_fault, required, optional, or_empty, if_given, vector_of, vector, info, protocol, meta, txn, domain, remove, add, fields_of, body_of}
use Rattle.action_fields.specs.Canonical.{kind_of}
use Rattle.action_fields.specs.Gives.{◌>>=◌}
use Rattle.action_fields.specs.Ordered.{names_of, is_below, are_rising, is_ordered, members_are_ordered}
use Rattle.action_fields.specs.Types.{Pair, unless_null, given, text, integer, if_from_zero, from_zero, flag, path, if_not_empty, names, value_in, pairs_in, pairs, options, format}
use Rattle.action_fields.specs.Valid.{is_from_zero, is_not_empty, are_in_order, are_texts, is_valid_vector, has_valid_fields}

-- ---- what a result holds

record Keeps {A F : Type 0} (Q : A → Type 0) (r : Result A F) : Type 0 where
  kept : IfOk r Q

then_keeps : {A B F : Type 0} {Q : B → Type 0} {r : Result A F} {f : A → Result B F} (P : A → Type 0) → Keeps P r → ((x : A) → P x → Keeps Q (f x)) → Keeps Q (r >>= f)
then_keeps {r = Ok x} P h k = k x h.kept
then_keeps {r = Err e} P h k = record { kept = tt }

then_any : {A B F : Type 0} {Q : B → Type 0} (r : Result A F) {f : A → Result B F} → ((x : A) → Keeps Q (f x)) → Keeps Q (r >>= f)
then_any (Ok x) k = k x
then_any (Err e) k = record { kept = tt }

done : {A F : Type 0} {Q : A → Type 0} (a : A) → Q a → Keeps {F = F} Q (Ok a)
done a h = record { kept = h }

-- ---- what an option holds

abbrev Has : {A : Type 0} → (A → Type 0) → Option A → Type 0
Has P o = IfSome o P

Has-map : {A B : Type 0} (P : A → Type 0) (Q : B → Type 0) (h : A → B) → ((a : A) → P a → Q (h a)) → (o : Option A) → Has P o → Has Q (option_map h o)
Has-map P Q h k None x = tt
Has-map P Q h k (Some a) x = k a x

Has-and_then : {A B : Type 0} (P : A → Type 0) (Q : B → Type 0) (h : A → Option B) → ((a : A) → P a → Has Q (h a)) → (o : Option A) → Has P o → Has Q (option_and_then h o)
Has-and_then P Q h k None x = tt
Has-and_then P Q h k (Some a) x = k a x

Has-any : {A : Type 0} (o : Option A) → Has (λ a. ⊤) o
Has-any None = tt
Has-any (Some a) = tt

Has-weaker : {A : Type 0} (P Q : A → Type 0) → ((a : A) → P a → Q a) → (o : Option A) → Has P o → Has Q o
Has-weaker P Q k None x = tt
Has-weaker P Q k (Some a) x = k a x

-- ---- fields of a value in order

abbrev Ordered : Data → Type 0
Ordered d = is_ordered d ≡ true

found_at : (o : Ordering) (e : Data) (rest : Option Data) → Ordered e → Has Ordered rest → Has Ordered (match_ordering o rest (Some e) rest)
found_at Less e rest h later = later
found_at Equal e rest h later = h
found_at Greater e rest h later = later

ordered-get_member : (k : List ℕ) (ms : Members) → members_are_ordered ms ≡ true → Has Ordered (get_member k ms)
ordered-get_member k no_members h = tt
ordered-get_member k (member l e ms) h =
    let p = and_parts (is_ordered e) (members_are_ordered ms) h in
    found_at (slice_cmp nat_cmp k l) e (get_member k ms) p.0 (ordered-get_member k ms p.1)

ordered-get : (k : List ℕ) (d : Data) → Ordered d → Has Ordered (get k d)
ordered-get k null h = tt
ordered-get k (boolean b) h = tt
ordered-get k (number n) h = tt
ordered-get k (string s) h = tt
ordered-get k (array ds) h = tt
ordered-get k (object ms) h = ordered-get_member k ms (and_parts (are_rising (names_of ms)) (members_are_ordered ms) h).1

not_null : (b : Bool) (d : Data) → Ordered d → Has Ordered (if b then None else Some d)
not_null true d h = tt
not_null false d h = h

ordered-unless_null : (o : Option Data) → Has Ordered o → Has Ordered (unless_null o)
ordered-unless_null None h = tt
ordered-unless_null (Some d) h = not_null (is_some (as_null d)) d h

ordered-given : (k : List ℕ) (d : Data) → Ordered d → Has Ordered (given k d)
ordered-given k d h = ordered-unless_null (get k d) (ordered-get k d h)

-- a required field has what its type gives
or_fault-keeps : {A : Type 0} (Q : A → Type 0) (f : List ℕ) (o : Option A) → Has Q o → Keeps Q (or_fault f o)
or_fault-keeps Q f None h = record { kept = tt }
or_fault-keeps Q f (Some a) h = record { kept = h }

required-keeps : {A : Type 0} (type : Data → Option A) (Q : A → Type 0) → ((d : Data) → Ordered d → Has Q (type d)) → (f : List ℕ) (body : Data) → Ordered body → Keeps Q (required type f body)
unfolding required
required-keeps type Q k f body h = or_fault-keeps Q f (option_and_then type (given f body)) (Has-and_then Ordered Q type k (given f body) (ordered-given f body h))

abbrev Optional : {A : Type 0} → (A → Type 0) → Option A → Type 0
Optional Q o = Has Q o

some_keeps : {A : Type 0} (Q : A → Type 0) (f : List ℕ) (o : Option A) → Has Q o → Keeps (Optional Q) (or_fault f (option_map Some o))
some_keeps Q f None h = record { kept = tt }
some_keeps Q f (Some a) h = record { kept = h }

given-keeps : {A : Type 0} (type : Data → Option A) (Q : A → Type 0) → ((d : Data) → Ordered d → Has Q (type d)) → (f : List ℕ) (o : Option Data) → Has Ordered o → Keeps (Optional Q) (if_given type f o)
given-keeps type Q k f None h = record { kept = tt }
given-keeps type Q k f (Some d) h = some_keeps Q f (type d) (k d h)

optional-keeps : {A : Type 0} (type : Data → Option A) (Q : A → Type 0) → ((d : Data) → Ordered d → Has Q (type d)) → (f : List ℕ) (body : Data) → Ordered body → Keeps (Optional Q) (optional type f body)
unfolding optional
optional-keeps type Q k f body h = given-keeps type Q k f (given f body) (ordered-given f body h)

-- ---- what the types give

abbrev FromZero : ℤ → Type 0
FromZero z = is_from_zero z ≡ true

abbrev NotEmpty : List ℕ → Type 0
NotEmpty s = is_not_empty s ≡ true

abbrev InOrder : List Pair → Type 0
InOrder ps = are_in_order ps ≡ true

abbrev Texts : List Pair → Type 0
Texts ps = are_texts ps ≡ true

abbrev if_below : Bool → ℤ → Option ℤ
if_below b z = if b then None else Some z

from_zero_at : (b : Bool) (z : ℤ) → int_lt z (pos 0) ≡ b → Has FromZero (if_below b z)
from_zero_at true z e = tt
from_zero_at false z e = ap not e

from_zero_gives : (d : Data) → Has FromZero (from_zero d)
from_zero_gives d = Has-and_then (λ z. ⊤) FromZero if_from_zero (λ z x. from_zero_at (int_lt z (pos 0)) z refl) (integer d) (Has-any (integer d))

not_empty_at : (s : List ℕ) → Has NotEmpty (if_not_empty s)
not_empty_at [] = tt
not_empty_at (b ∷ bs) = refl

path_gives : (d : Data) → Has NotEmpty (path d)
path_gives d = Has-and_then (λ s. ⊤) NotEmpty if_not_empty (λ s x. not_empty_at s) (as_str d) (Has-any (as_str d))

-- the names of the pairs are those of the members, and where no null may stand each has a text
record Read (nulls : Bool) (ms : Members) (ps : List Pair) : Type 0 where
  same : map (λ p. p.0) ps ≡ names_of ms
  texts : nulls ≡ false → list_all (λ p. is_some p.1) ps ≡ true

value_at : (nulls : Bool) (is_null : Bool) (o : Option (List ℕ)) → Has (λ v. nulls ≡ false → is_some v ≡ true) (if is_null then (if nulls then Some None else None) else option_map Some o)
value_at true true o = λ e. absurd (cc)
value_at false true o = tt
value_at nulls false None = tt
value_at nulls false (Some s) = λ e. refl

pairs_in_gives : (nulls : Bool) (ms : Members) → Has (Read nulls ms) (pairs_in nulls ms)
pairs_in_gives nulls no_members = record { same = refl; texts = λ e. refl }
pairs_in_gives nulls (member k d ms) =
    Has-and_then (λ v. nulls ≡ false → is_some v ≡ true) (Read nulls (member k d ms)) (λ v. option_map (λ rest. (k, v) ∷ rest) (pairs_in nulls ms))
    (λ v t. Has-map (Read nulls ms) (Read nulls (member k d ms)) (λ rest. (k, v) ∷ rest)
    (λ rest r. record { same = ap (λ ns. k ∷ ns) r.same; texts = λ e. and_from (is_some v) (list_all (λ (p : Pair). is_some p.1) rest) (t e) (r.texts e) })
    (pairs_in nulls ms) (pairs_in_gives nulls ms))
    (value_in nulls d) (value_at nulls (is_some (as_null d)) (as_str d))

in_order-rising : (ps : List Pair) → are_rising (map (λ (p : Pair). p.0) ps) ≡ true → are_in_order ps ≡ true
in_order-rising [] h = refl
in_order-rising (p ∷ []) h = refl
in_order-rising (p ∷ q ∷ ps) h =
    let both = and_parts (is_below p.0 q.0 && list_all (is_below p.0) (map (λ (r : Pair). r.0) ps)) (are_rising (map (λ (r : Pair). r.0) (q ∷ ps))) h in
    and_from (is_below p.0 q.0) (are_in_order (q ∷ ps)) (and_parts (is_below p.0 q.0) (list_all (is_below p.0) (map (λ (r : Pair). r.0) ps)) both.0).0 (in_order-rising (q ∷ ps) both.1)

read_in_order : (nulls : Bool) (ms : Members) (ps : List Pair) → Ordered (object ms) → Read nulls ms ps → InOrder ps
read_in_order nulls ms ps h r =
    in_order-rising ps (ap are_rising r.same ∙ (and_parts (are_rising (names_of ms)) (members_are_ordered ms) h).0)

pairs_gives : (nulls : Bool) (d : Data) → Ordered d → Has InOrder (pairs nulls d)
pairs_gives nulls null h = tt
pairs_gives nulls (boolean b) h = tt
pairs_gives nulls (number n) h = tt
pairs_gives nulls (string s) h = tt
pairs_gives nulls (array ds) h = tt
pairs_gives nulls (object ms) h = Has-weaker (Read nulls ms) InOrder (λ ps r. read_in_order nulls ms ps h r) (pairs_in nulls ms) (pairs_in_gives nulls ms)

texts_gives : (d : Data) → Ordered d → Has Texts (pairs false d)
texts_gives null h = tt
texts_gives (boolean b) h = tt
texts_gives (number n) h = tt
texts_gives (string s) h = tt
texts_gives (array ds) h = tt
texts_gives (object ms) h =
    Has-weaker (Read false ms) Texts (λ ps r. and_from (are_in_order ps) (list_all (λ (p : Pair). is_some p.1) ps) (read_in_order false ms ps h r) (r.texts refl)) (pairs_in false ms) (pairs_in_gives false ms)

options_gives : (o : Option Data) → Has Ordered o → Has Texts (options o)
options_gives None h = refl
options_gives (Some d) h = texts_gives d h

abbrev TextOptions : Format → Type 0
TextOptions w = Texts w.options

format_gives : (d : Data) → Ordered d → Has TextOptions (format d)
format_gives d h =
    let found = given (codes "options") d in
    Has-and_then (λ p. ⊤) TextOptions (λ p. option_map (λ ps. record { provider = p; options = ps }) (options found))
    (λ p x. Has-map Texts TextOptions (λ ps. record { provider = p; options = ps }) (λ ps t. t) (options found) (options_gives found (ordered-given (codes "options") d h)))
    (option_and_then text (given (codes "provider") d)) (Has-any _)

texts_or_empty : (o : Option (List Pair)) → Has Texts o → Texts (unwrap_or o [])
texts_or_empty None h = refl
texts_or_empty (Some ps) h = h

or_empty-keeps : (f : List ℕ) (body : Data) → Ordered body → Keeps Texts (or_empty f body)
unfolding or_empty
or_empty-keeps f body h = then_keeps (Optional Texts) (optional-keeps (pairs false) Texts texts_gives f body h) (λ o t. done (unwrap_or o []) (texts_or_empty o t))

-- ---- options in `has_valid_fields`

all_or : {W : Type 0} (test : W → Bool) (o : Option W) → Has (λ w. test w ≡ true) o → option_map_or test o true ≡ true
all_or test None h = refl
all_or test (Some w) h = h

-- ---- deletion vectors

abbrev ValidVector : Vector → Type 0
ValidVector w = is_valid_vector w ≡ true

ok_keeps : {A F : Type 0} (Q : A → Type 0) (r : Result A F) → Keeps Q r → Has Q (result_ok r)
ok_keeps Q (Ok a) h = h.kept
ok_keeps Q (Err e) h = tt

vector_of-keeps : (d : Data) → Ordered d → Keeps ValidVector (vector_of d)
unfolding vector_of
vector_of-keeps d h =
    then_keeps FromZero (required-keeps from_zero FromZero (λ e x. from_zero_gives e) (codes "cardinality") d h) (λ cardinality c.
    then_keeps (Optional FromZero) (optional-keeps from_zero FromZero (λ e x. from_zero_gives e) (codes "offset") d h) (λ offset o.
    then_any (required text (codes "pathOrInlineDv") d) (λ locator.
    then_keeps FromZero (required-keeps from_zero FromZero (λ e x. from_zero_gives e) (codes "sizeInBytes") d h) (λ size s.
    then_any (required text (codes "storageType") d) (λ storage.
    let found : Vector = record { storage = storage; locator = locator; offset = offset; size = size; cardinality = cardinality } in
    done found
    (and_from (is_from_zero cardinality && option_map_or is_from_zero offset true) (is_from_zero size)
    (and_from (is_from_zero cardinality) (option_map_or is_from_zero offset true) c (all_or is_from_zero offset o)) s))))))

vector_gives : (d : Data) → Ordered d → Has ValidVector (vector d)
vector_gives d h = ok_keeps ValidVector (vector_of d) (vector_of-keeps d h)

-- ---- bodies

abbrev Valid : Action → Type 0
Valid a = has_valid_fields a ≡ true

info-keeps : (body : Data) → Ordered body → Keeps Valid (info body)
unfolding info has_valid_fields
info-keeps body h =
    then_keeps FromZero (required-keeps from_zero FromZero (λ d x. from_zero_gives d) (codes "inCommitTimestamp") body h) (λ time t.
    then_any (optional text (codes "txnId") body) (λ txn_id. done (action.Info (record { time = time; txn_id = txn_id })) t))

protocol-keeps : (body : Data) → Ordered body → Keeps Valid (protocol body)
unfolding protocol has_valid_fields
protocol-keeps body h = then_any (required integer (codes "minReaderVersion") body) (λ reader. then_any (required integer (codes "minWriterVersion") body) (λ writer. then_any (optional names (codes "readerFeatures") body) (λ readers. then_any (optional names (codes "writerFeatures") body) (λ writers. done (action.Protocol (record { reader = reader; writer = writer; reader_features = readers; writer_features = writers })) refl))))

meta-keeps : (body : Data) → Ordered body → Keeps Valid (meta body)
unfolding meta has_valid_fields
meta-keeps body h =
    then_keeps Texts (or_empty-keeps (codes "configuration") body h) (λ configuration t.
    then_any (optional integer (codes "createdTime") body) (λ created.
    then_any (optional text (codes "description") body) (λ description.
    then_keeps TextOptions (required-keeps format TextOptions format_gives (codes "format") body h) (λ found u.
    then_any (required text (codes "id") body) (λ id.
    then_any (optional text (codes "name") body) (λ name.
    then_any (required names (codes "partitionColumns") body) (λ columns.
    then_any (required text (codes "schemaString") body) (λ schema.
    done (action.Meta (record { configuration = configuration; created = created; description = description; format = found; id = id; name = name; columns = columns; schema = schema }))
    (and_from (are_texts configuration) (are_texts found.options) t u)))))))))

txn-keeps : (body : Data) → Ordered body → Keeps Valid (txn body)
unfolding txn has_valid_fields
txn-keeps body h = then_any (required text (codes "appId") body) (λ app. then_any (optional integer (codes "lastUpdated") body) (λ updated. then_any (required integer (codes "version") body) (λ version. done (action.Txn (record { app = app; updated = updated; number = version })) refl)))

domain-keeps : (body : Data) → Ordered body → Keeps Valid (domain body)
unfolding domain has_valid_fields
domain-keeps body h =
    then_any (required text (codes "configuration") body) (λ configuration.
    then_keeps NotEmpty (required-keeps path NotEmpty (λ d x. path_gives d) (codes "domain") body h) (λ name n.
    then_any (required flag (codes "removed") body) (λ removed.
    done (action.Domain (record { configuration = configuration; domain = name; removed = removed })) n)))

remove-keeps : (body : Data) → Ordered body → Keeps Valid (remove body)
unfolding remove has_valid_fields
remove-keeps body h =
    then_any (required flag (codes "dataChange") body) (λ change.
    then_any (optional integer (codes "deletionTimestamp") body) (λ deleted.
    then_keeps (Optional ValidVector) (optional-keeps vector ValidVector vector_gives (codes "deletionVector") body h) (λ found g.
    then_any (optional flag (codes "extendedFileMetadata") body) (λ extended.
    then_keeps (Optional InOrder) (optional-keeps (pairs true) InOrder (pairs_gives true) (codes "partitionValues") body h) (λ values v.
    then_keeps NotEmpty (required-keeps path NotEmpty (λ d x. path_gives d) (codes "path") body h) (λ file p.
    then_keeps (Optional FromZero) (optional-keeps from_zero FromZero (λ d x. from_zero_gives d) (codes "size") body h) (λ size s.
    done (action.Remove (record { change = change; deleted = deleted; extended = extended; values = values; path = file; size = size; vector = found }))
    (and_from (option_map_or are_in_order values true && is_not_empty file && option_map_or is_from_zero size true) (option_map_or is_valid_vector found true)
    (and_from (option_map_or are_in_order values true && is_not_empty file) (option_map_or is_from_zero size true)
    (and_from (option_map_or are_in_order values true) (is_not_empty file) (all_or are_in_order values v) p) (all_or is_from_zero size s)) (all_or is_valid_vector found g)))))))))

add-keeps : (body : Data) → Ordered body → Keeps Valid (add body)
unfolding add has_valid_fields
add-keeps body h =
    then_any (required flag (codes "dataChange") body) (λ change.
    then_keeps (Optional ValidVector) (optional-keeps vector ValidVector vector_gives (codes "deletionVector") body h) (λ found g.
    then_any (required integer (codes "modificationTime") body) (λ modified.
    then_keeps InOrder (required-keeps (pairs true) InOrder (pairs_gives true) (codes "partitionValues") body h) (λ values v.
    then_keeps NotEmpty (required-keeps path NotEmpty (λ d x. path_gives d) (codes "path") body h) (λ file p.
    then_keeps FromZero (required-keeps from_zero FromZero (λ d x. from_zero_gives d) (codes "size") body h) (λ size s.
    then_any (optional text (codes "stats") body) (λ stats.
    then_keeps (Optional InOrder) (optional-keeps (pairs true) InOrder (pairs_gives true) (codes "tags") body h) (λ tags t.
    done (action.Add (record { change = change; modified = modified; values = values; path = file; size = size; stats = stats; tags = tags; vector = found }))
    (and_from (are_in_order values && is_not_empty file && is_from_zero size && option_map_or are_in_order tags true) (option_map_or is_valid_vector found true)
    (and_from (are_in_order values && is_not_empty file && is_from_zero size) (option_map_or are_in_order tags true)
    (and_from (are_in_order values && is_not_empty file) (is_from_zero size) (and_from (are_in_order values) (is_not_empty file) v p) s) (all_or are_in_order tags t)) (all_or is_valid_vector found g))))))))))

fields-keep : (k : Kind) (body : Data) → Ordered body → Keeps Valid (fields_of k body)
fields-keep kind.Info body h = info-keeps body h
fields-keep kind.Protocol body h = protocol-keeps body h
fields-keep kind.Meta body h = meta-keeps body h
fields-keep kind.Txn body h = txn-keeps body h
fields-keep kind.Domain body h = domain-keeps body h
fields-keep kind.Remove body h = remove-keeps body h
fields-keep kind.Add body h = add-keeps body h
fields-keep kind.CheckpointMetadata body h = record { kept = tt }
fields-keep kind.Sidecar body h = record { kept = tt }

if_object : (b : Bool) (r : Result Action (List ℕ)) → Keeps Valid r → Keeps Valid (if b then r else Err [])
if_object true r h = h
if_object false r h = record { kept = tt }

pub valid-body_of : (k : Kind) (body : Data) → is_ordered body ≡ true → IfOk (body_of k body) (λ a. has_valid_fields a ≡ true)
unfolding body_of
valid-body_of k body h = (if_object (is_some (as_object body)) (fields_of k body) (fields-keep k body h)).kept

-- ---- the kind of an action that is read

abbrev OfKind : Kind → Action → Type 0
OfKind k a = kind_of a ≡ k

info-kind : (body : Data) → Keeps (OfKind kind.Info) (info body)
unfolding info
info-kind body = then_any (required from_zero (codes "inCommitTimestamp") body) (λ time. then_any (optional text (codes "txnId") body) (λ txn_id. done (action.Info (record { time = time; txn_id = txn_id })) refl))

if_info : (b : Bool) (r : Result Action (List ℕ)) → Keeps (OfKind kind.Info) r → Keeps (OfKind kind.Info) (if b then r else Err [])
if_info true r h = h
if_info false r h = record { kept = tt }

pub kind-body_of_info : (body : Data) → IfOk (body_of kind.Info body) (λ a. kind_of a ≡ kind.Info)
unfolding body_of
kind-body_of_info body = (if_info (is_some (as_object body)) (info body) (info-kind body)).kept
