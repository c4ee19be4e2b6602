-- No line of a checkpoint says a time.
use Rattle.std.proofs.Common.{◌≡◌, ℕ, List, [], ◌∷◌, ◌++◌, Bool, true, false, codes, Option, Some, None, is_some, Result, Ok, Err, IfOk, if◌then◌else◌, refl}
use Rattle.std.specs.Prelude.{⊤}
use Rattle.std.specs.Str.{is_utf8}
use Rattle.text_lines.specs.Lines.{is_blank}
use Rattle.serde_json.specs.Data.{Data}
use Rattle.serde_json.specs.Find.{as_object}
use Rattle.serde_json.specs.Read.{read}
use Rattle.action_types.specs.declared.actions.Action.{Action}
use Rattle.action_fields.specs.Bodies.{required, optional, or_empty, vector, protocol, meta, txn, domain, remove, add, fields_of, body_of}
use Rattle.action_fields.specs.Checkpoints.{version_of, sidecar_of}
use Rattle.action_fields.specs.Gives.{◌>>=◌}
use Rattle.action_fields.specs.Kinds.{kind_named}
use Rattle.action_fields.specs.Types.{text, integer, from_zero, flag, path, names, pairs, format}
use Rattle.action_fields.specs.declared.kind.Kind.{Kind}
use Rattle.action_fields.specs.declared.kind.Kind.TheVariants as kind
use Rattle.action_json.specs.CheckpointLines.{is_removed, action_said, version_said, sidecar_said, of_kind, checkpoint_member, checkpoint_text, checkpoint_line_of}
use Rattle.action_json.specs.Lines.{or_why, only_member}
use Rattle.action_json.specs.declared.checkpoint_line.CheckpointLine.{CheckpointLine}
use Rattle.action_json.specs.declared.checkpoint_line.CheckpointLine.TheVariants as says
use Rattle.action_json.specs.declared.fault.Why.{Why}
use Rattle.action_json.specs.declared.fault.Why.TheVariants as why
use Rattle.reconcile.specs.Replay.{last_said, time_said}
use Rattle.checkpoint_v2.specs.Text.{action_in, actions_in}

-- the action that is read, if one is, says no time
record Timeless {F : Type 0} (r : Result Action F) : Type 0 where
  kept : IfOk r (λ a. time_said a ≡ None)

then_any : {A F : Type 0} (r : Result A F) {f : A → Result Action F} → ((x : A) → Timeless (f x)) → Timeless (r >>= f)
then_any (Ok x) k = k x
then_any (Err e) k = record { kept = tt }

done : {F : Type 0} (a : Action) → time_said a ≡ None → Timeless {F = F} (Ok a)
done a h = record { kept = h }

protocol-timeless : (body : Data) → Timeless (protocol body)
unfolding protocol
protocol-timeless body =
    then_any (required integer (codes "minReaderVersion") body) (λ a.
    then_any (required integer (codes "minWriterVersion") body) (λ b.
    then_any (optional names (codes "readerFeatures") body) (λ c.
    then_any (optional names (codes "writerFeatures") body) (λ d. record { kept = refl }))))

meta-timeless : (body : Data) → Timeless (meta body)
unfolding meta
meta-timeless body =
    then_any (or_empty (codes "configuration") body) (λ a.
    then_any (optional integer (codes "createdTime") body) (λ b.
    then_any (optional text (codes "description") body) (λ c.
    then_any (required format (codes "format") body) (λ d.
    then_any (required text (codes "id") body) (λ e.
    then_any (optional text (codes "name") body) (λ f.
    then_any (required names (codes "partitionColumns") body) (λ g.
    then_any (required text (codes "schemaString") body) (λ h. record { kept = refl }))))))))

txn-timeless : (body : Data) → Timeless (txn body)
unfolding txn
txn-timeless body =
    then_any (required text (codes "appId") body) (λ a.
    then_any (optional integer (codes "lastUpdated") body) (λ b.
    then_any (required integer (codes "version") body) (λ c. record { kept = refl })))

domain-timeless : (body : Data) → Timeless (domain body)
unfolding domain
domain-timeless body =
    then_any (required text (codes "configuration") body) (λ a.
    then_any (required path (codes "domain") body) (λ b.
    then_any (required flag (codes "removed") body) (λ c. record { kept = refl })))

remove-timeless : (body : Data) → Timeless (remove body)
unfolding remove
remove-timeless body =
    then_any (required flag (codes "dataChange") body) (λ a.
    then_any (optional integer (codes "deletionTimestamp") body) (λ b.
    then_any (optional vector (codes "deletionVector") body) (λ c.
    then_any (optional flag (codes "extendedFileMetadata") body) (λ d.
    then_any (optional (pairs true) (codes "partitionValues") body) (λ e.
    then_any (required path (codes "path") body) (λ f.
    then_any (optional from_zero (codes "size") body) (λ g. record { kept = refl })))))))

add-timeless : (body : Data) → Timeless (add body)
unfolding add
add-timeless body =
    then_any (required flag (codes "dataChange") body) (λ a.
    then_any (optional vector (codes "deletionVector") body) (λ b.
    then_any (required integer (codes "modificationTime") body) (λ c.
    then_any (required (pairs true) (codes "partitionValues") body) (λ d.
    then_any (required path (codes "path") body) (λ e.
    then_any (required from_zero (codes "size") body) (λ f.
    then_any (optional text (codes "stats") body) (λ g.
    then_any (optional (pairs true) (codes "tags") body) (λ h. record { kept = refl }))))))))

if_object : (b : Bool) (r : Result Action (List ℕ)) → Timeless r → Timeless (if b then r else Err [])
if_object true r h = h
if_object false r h = record { kept = tt }

body-timeless : (k : Kind) (body : Data) → Timeless (fields_of k body) → Timeless (body_of k body)
unfolding body_of
body-timeless k body h = if_object (is_some (as_object body)) (fields_of k body) h

-- ---- lines

abbrev SaysNoTime : Result CheckpointLine Why → Type 0
SaysNoTime (Ok says.Blank) = ⊤
SaysNoTime (Ok says.Unread) = ⊤
SaysNoTime (Ok (says.Says a)) = time_said a ≡ None
SaysNoTime (Ok (says.Version v)) = ⊤
SaysNoTime (Ok says.Sidecar) = ⊤
SaysNoTime (Err w) = ⊤

unless-timeless : (a : Action) (b : Bool) → time_said a ≡ None → SaysNoTime (if b then Err (why.Field kind.Domain (codes "removed")) else Ok (says.Says a))
unless-timeless a true h = tt
unless-timeless a false h = h

said-timeless : (k : Kind) (r : Result Action (List ℕ)) → Timeless r → SaysNoTime (action_said k r)
said-timeless k (Ok a) h = unless-timeless a (is_removed a) h.kept
said-timeless k (Err f) h = tt

version-timeless : (r : Result ℕ (List ℕ)) → SaysNoTime (version_said r)
version-timeless (Ok v) = tt
version-timeless (Err f) = tt

sidecar-timeless : (r : Result (Unit {0}) (List ℕ)) → SaysNoTime (sidecar_said r)
sidecar-timeless (Ok u) = tt
sidecar-timeless (Err f) = tt

kind-timeless : (o : Option Kind) (body : Data) → SaysNoTime (of_kind o body)
kind-timeless None body = tt
kind-timeless (Some kind.Info) body = tt
kind-timeless (Some kind.Protocol) body = said-timeless kind.Protocol (body_of kind.Protocol body) (body-timeless kind.Protocol body (protocol-timeless body))
kind-timeless (Some kind.Meta) body = said-timeless kind.Meta (body_of kind.Meta body) (body-timeless kind.Meta body (meta-timeless body))
kind-timeless (Some kind.Txn) body = said-timeless kind.Txn (body_of kind.Txn body) (body-timeless kind.Txn body (txn-timeless body))
kind-timeless (Some kind.Domain) body = said-timeless kind.Domain (body_of kind.Domain body) (body-timeless kind.Domain body (domain-timeless body))
kind-timeless (Some kind.Remove) body = said-timeless kind.Remove (body_of kind.Remove body) (body-timeless kind.Remove body (remove-timeless body))
kind-timeless (Some kind.Add) body = said-timeless kind.Add (body_of kind.Add body) (body-timeless kind.Add body (add-timeless body))
kind-timeless (Some kind.CheckpointMetadata) body = version-timeless (version_of body)
kind-timeless (Some kind.Sidecar) body = sidecar-timeless (sidecar_of body)

member-timeless : (name : List ℕ) (body : Data) → SaysNoTime (checkpoint_member name body)
unfolding checkpoint_member
member-timeless name body = kind-timeless (kind_named name) body

timeless_bind : {A : Type 0} (r : Result A Why) (f : A → Result CheckpointLine Why) → ((a : A) → SaysNoTime (f a)) → SaysNoTime (r >>= f)
timeless_bind (Ok a) f k = k a
timeless_bind (Err w) f k = tt

abbrev data_line : Data → Result CheckpointLine Why
data_line d = or_why why.NotOneMember (only_member d) >>= (λ m. checkpoint_member m.0 m.1)

text-timeless : (l : List ℕ) → SaysNoTime (checkpoint_text l)
unfolding checkpoint_text
text-timeless l =
    timeless_bind (or_why why.NotJson (read l)) data_line
    (λ d. timeless_bind (or_why why.NotOneMember (only_member d)) (λ m. checkpoint_member m.0 m.1) (λ m. member-timeless m.0 m.1))

timeless_if : (b : Bool) (r s : Result CheckpointLine Why) → SaysNoTime r → SaysNoTime s → SaysNoTime (if b then r else s)
timeless_if true r s h k = h
timeless_if false r s h k = k

line-timeless : (l : List ℕ) → SaysNoTime (checkpoint_line_of l)
unfolding checkpoint_line_of
line-timeless l =
    timeless_if (is_blank l) (Ok says.Blank) (if is_utf8 l then checkpoint_text l else Err why.Utf8) tt
    (timeless_if (is_utf8 l) (checkpoint_text l) (Err why.Utf8) (text-timeless l) tt)

no_time_before : (r : Result CheckpointLine Why) (rest : List Action) → SaysNoTime r → last_said time_said rest ≡ None → last_said time_said (action_in r ++ rest) ≡ None
no_time_before (Ok says.Blank) rest h e = e
no_time_before (Ok says.Unread) rest h e = e
no_time_before (Ok (says.Says a)) rest h e = rw (e, h) refl
no_time_before (Ok (says.Version v)) rest h e = e
no_time_before (Ok says.Sidecar) rest h e = e
no_time_before (Err w) rest h e = e

-- the actions of lines say no time
pub no_time : (lines : List (List ℕ)) → last_said time_said (actions_in lines) ≡ None
no_time [] = refl
no_time (l ∷ ls) = no_time_before (checkpoint_line_of l) (actions_in ls) (line-timeless l) (no_time ls)
