-- What a create and an append compose is a commit.
use Rattle.std.proofs.Common.{◌≡◌, ℕ, ℤ, pos, ◌≤ℤ◌, int_lt, not, arith, List, [], ◌∷◌, ◌++◌, map, Bool, true, false, ◌&&◌, Some, is_some, codes, refl, sym, ap, ap₂, subst, append_assoc}
use Rattle.std.specs.List.{AllByRecursion, list_all, list_any}
use Rattle.std.specs.List.Sorted.{IsStrictlySortedBy}
use Rattle.std.specs.declared.cmp.Ordering.TheVariants.{Less}
use Rattle.std.proofs.lemmas.Bool.{and_from, and_parts, or_from}
use Rattle.std.proofs.lemmas.Int.{ints}
use Rattle.action_types.specs.declared.actions.Action.{Action}
use Rattle.action_types.specs.declared.actions.Action.TheVariants as action
use Rattle.action_types.specs.declared.actions.Add.{Add}
use Rattle.action_types.specs.declared.actions.Info.{Info}
use Rattle.action_types.specs.declared.actions.Protocol.{Protocol}
use Rattle.action_types.specs.declared.actions.Meta.{Meta}
use Rattle.action_types.specs.declared.actions.Txn.{Txn}
use Rattle.action_types.specs.Files.{File, file_cmp, file_of_add, same_file}
use Rattle.action_fields.specs.Valid.{are_texts, has_valid_fields, is_from_zero, is_valid_meta}
use Rattle.table_rules.specs.Broken.{timestamps_property}
use Rattle.conflict_rules.specs.declared.intent.Intent.{Intent}
use Rattle.staged_commit.specs.Adds.{adds_in_order}
use Rattle.staged_commit.specs.Composed.{IsAppend, IsCreate, composed_append, composed_create, info_for, meta_for, protocol_for, txn_for}
use Rattle.staged_commit.specs.Names.{with_pair}
use Rattle.staged_commit.specs.declared.create.Create.{Create}
use Rattle.action_json.specs.Commit.{IsCommit, are_new, double_of, if_some, mentions}
use Rattle.staged_commit.proofs.InOrder.{Rising, all-in-order, apart, rising-in-order}

tested : (now : ℤ) (t : Bool) → int_lt now (pos 0) ≡ t → pos 0 ≤ℤ now → not (int_lt now (pos 0)) ≡ true
tested now true e h = absurd (omega (arith, ints))
tested now false e h = ap not e

pub from_zero : (now : ℤ) → pos 0 ≤ℤ now → is_from_zero now ≡ true
from_zero now h = tested now (int_lt now (pos 0)) refl h

-- a commitInfo, a protocol and a metaData with valid fields
pub three : (i : Info) (p : Protocol) (m : Meta) → is_from_zero i.time ≡ true → is_valid_meta m ≡ true
    → IsCommit (action.Info i ∷ action.Protocol p ∷ action.Meta m ∷ [])
unfolding has_valid_fields double_of
three i p m h k = record {
  begins = refl;
  new = ap₂ (λ (a b : Bool). (a && true) && ((true && true) && ((b && true) && true))) h k;
}

valid-meta : (create : Create) (now : ℤ) → IsCreate create → is_valid_meta (meta_for create now) ≡ true
valid-meta create now v = ap (λ ps. are_texts (with_pair (timestamps_property, Some (codes "true")) ps) && true) v.configuration

pub composed-commit : (create : Create) (id : ℕ) (now : ℤ) → pos 0 ≤ℤ now → IsCreate create → IsCommit (composed_create create id now)
unfolding composed_create
composed-commit create id now h v = three (info_for id now) (protocol_for create.features) (meta_for create now) (from_zero now h) (valid-meta create now v)

-- ---- appends

-- the file of an add is none of those before it, where they rise
between : (f : File) (front : List Add) (a : Add) (more : List Add) → AllByRecursion (λ q. file_cmp f q ≡ Less) (map file_of_add (front ++ a ∷ more))
    → file_cmp f (file_of_add a) ≡ Less
between f [] a more h = h.0
between f (b ∷ front) a more h = between f front a more h.1

unmentioned : (done : List Add) (a : Add) (more : List Add) → Rising (done ++ a ∷ more) → list_any (mentions (file_of_add a)) (map action.Add done) ≡ false
unfolding IsStrictlySortedBy
unmentioned [] a more r = refl
unmentioned (d ∷ done) a more r =
    or_from (same_file (file_of_add d) (file_of_add a)) (list_any (mentions (file_of_add a)) (map action.Add done))
    (apart (file_of_add d) (file_of_add a) (between (file_of_add d) done a more r.0)) (unmentioned done a more r.1)

push-add : (done : List Add) (a : Add) → map action.Add (done ++ a ∷ []) ≡ map action.Add done ++ action.Add a ∷ []
push-add [] a = refl
push-add (d ∷ done) a = ap (λ l. action.Add d ∷ l) (push-add done a)

-- adds with valid fields that rise, after a commitInfo and a txn
adds-stand : (i : Info) (t : Txn) (done more : List Add) → Rising (done ++ more) → list_all (λ a. has_valid_fields (action.Add a)) more ≡ true
    → are_new (action.Info i ∷ action.Txn t ∷ map action.Add done) (map action.Add more) ≡ true
unfolding double_of
adds-stand i t done [] r v = refl
adds-stand i t done (a ∷ more) r v =
    let valid = and_parts (has_valid_fields (action.Add a)) (list_all (λ b. has_valid_fields (action.Add b)) more) v in
    let single : not (is_some (if_some (list_any (mentions (file_of_add a)) (map action.Add done)) a.path)) ≡ true =
    ap (λ b. not (is_some (if_some b a.path))) (unmentioned done a more r) in
    let rest : are_new (action.Info i ∷ action.Txn t ∷ map action.Add (done ++ a ∷ [])) (map action.Add more) ≡ true =
    adds-stand i t (done ++ a ∷ []) more (subst Rising (sym (append_assoc done (a ∷ []) more)) r) valid.1 in
    let P : List Action → Type 0 = λ l. are_new (action.Info i ∷ action.Txn t ∷ l) (map action.Add more) ≡ true in
    and_from _ _ (and_from (has_valid_fields (action.Add a)) _ valid.0 single) (subst P (push-add done a) rest)

append-of : (i : Info) (t : Txn) (adds : List Add) → is_from_zero i.time ≡ true → are_new (action.Info i ∷ action.Txn t ∷ []) (map action.Add adds) ≡ true
    → IsCommit (action.Info i ∷ action.Txn t ∷ map action.Add adds)
unfolding has_valid_fields double_of
append-of i t adds h k = record { begins = refl; new = ap₂ (λ (a b : Bool). (a && true) && ((true && true) && b)) h k }

-- what an append composes is a commit
pub append-commit : (intent : Intent) (id : ℕ) (time : ℤ) → pos 0 ≤ℤ time → IsAppend intent → IsCommit (composed_append intent id time)
unfolding composed_append
append-commit intent id time h v =
    append-of (info_for id time) (txn_for intent) (adds_in_order intent.adds) (from_zero time h)
    (adds-stand (info_for id time) (txn_for intent) [] (adds_in_order intent.adds) (rising-in-order intent.adds v.files)
    (all-in-order (λ a. has_valid_fields (action.Add a)) intent.adds v.fields))
