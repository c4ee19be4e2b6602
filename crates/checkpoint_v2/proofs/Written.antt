-- The canonical text of a state is a checkpoint of every log whose table the state has.
use Rattle.std.proofs.Common.{◌≡◌, ℕ, ◌<◌, ◌^◌, List, [], ◌∷◌, ◌++◌, map, true, false, codes, Option, Some, None, IfSome, is_some, Result, Ok, Err, IfOk, OnOk, if◌then◌else◌, refl, sym, ap, ◌∙◌, subst}
use Rattle.std.specs.List.{AllByRecursion, list_any}
use Rattle.std.specs.Str.{is_utf8}
use Rattle.text_lines.specs.Lines.{cut, is_blank}
use Rattle.text_lines.proofs.Cutting.{cut-line_end, cut-nil}
use Rattle.action_types.specs.declared.actions.Action.{Action}
use Rattle.action_types.specs.declared.actions.Action.TheVariants as action
use Rattle.action_types.specs.declared.actions.Protocol.{Protocol}
use Rattle.action_types.specs.declared.actions.Meta.{Meta}
use Rattle.action_types.specs.declared.actions.Txn.{Txn}
use Rattle.action_fields.specs.Canonical.{kind_of, body_data, canonical_line}
use Rattle.action_fields.specs.Fits.{HasFittingFields}
use Rattle.action_fields.specs.Kinds.{kind_name, kind_named}
use Rattle.action_fields.specs.Valid.{has_valid_fields}
use Rattle.action_fields.specs.declared.kind.Kind.{Kind}
use Rattle.action_fields.specs.declared.kind.Kind.TheVariants as kind
use Rattle.action_fields.proofs.Bodies.{body_of-body_data}
use Rattle.action_fields.proofs.Lines.{read-canonical_line, one_line-canonical_line}
use Rattle.action_json.specs.CheckpointLines.{is_removed, unless_removed, action_said, checkpoint_member, checkpoint_text, checkpoint_line_of}
use Rattle.action_json.specs.Commit.{IsWritten, AreWritten, canonical_text, is_info, is_protocol, is_meta}
use Rattle.action_json.specs.declared.checkpoint_line.CheckpointLine.TheVariants as says
use Rattle.action_json.specs.declared.fault.Why.TheVariants as why
use Rattle.reconcile.specs.Keys.{key_of, key_of_remove, key_cmp, name_cmp}
use Rattle.reconcile.specs.Replay.{Log, live_at, gone_at, domain_at}
use Rattle.reconcile.specs.Standing.{HasTableOf, protocol_in, meta_in, txns_in, domains_in, tombstones_in, files_in}
use Rattle.reconcile.specs.declared.state.State.{State}
use Rattle.checkpoint_v2.specs.Canonical.{version_line, protocol_action, meta_action, table_actions, canonical_checkpoint, HasProtocolAndMeta, HasValidFields}
use Rattle.checkpoint_v2.specs.Table.{IsCheckpointOf}
use Rattle.checkpoint_v2.specs.Text.{action_in, version_in, is_plain, actions_in, versions_in, IsCheckpointText}
use Rattle.checkpoint_v2.proofs.Kept.{live_kept, gone_kept, domain_at-kept, meta_of_log-kept}
use Rattle.checkpoint_v2.proofs.Once.{all_weaker, all_made, all_both, told_each}
use Rattle.checkpoint_v2.proofs.Tables.{files_equiv, names_equiv, files-lists, tombstones-lists, domains-lists, table-actions, apart-actions}
use Rattle.checkpoint_v2.proofs.Version.{one_line-version, line-version}

-- ---- the line of an action is read

-- an action that a line of a checkpoint can say
record IsEntry (a : Action) : Type 0 where
  valid : has_valid_fields a ≡ true
  kept : is_removed a ≡ false
  info : is_info a ≡ false

not_removed : (a : Action) → is_removed a ≡ false → unless_removed a ≡ Ok (says.Says a)
not_removed a h = ap (λ b. if b then Err (why.Field kind.Domain (codes "removed")) else Ok (says.Says a)) h

said : (k : Kind) (a : Action) (r : Result Action (List ℕ)) → IsEntry a → r ≡ Ok a → action_said k r ≡ Ok (says.Says a)
said k a r e is = ap (action_said k) is ∙ not_removed a e.kept

member-entry : (a : Action) → IsEntry a → HasFittingFields a → checkpoint_member (kind_name (kind_of a)) (body_data true a) ≡ Ok (says.Says a)
unfolding checkpoint_member kind_named
member-entry (action.Info a) e fits = let no : true ≡ false = e.info in absurd (cc)
member-entry (action.Protocol a) e fits = said kind.Protocol (action.Protocol a) _ e (body_of-body_data (action.Protocol a) e.valid fits)
member-entry (action.Meta a) e fits = said kind.Meta (action.Meta a) _ e (body_of-body_data (action.Meta a) e.valid fits)
member-entry (action.Txn a) e fits = said kind.Txn (action.Txn a) _ e (body_of-body_data (action.Txn a) e.valid fits)
member-entry (action.Domain a) e fits = said kind.Domain (action.Domain a) _ e (body_of-body_data (action.Domain a) e.valid fits)
member-entry (action.Remove a) e fits = said kind.Remove (action.Remove a) _ e (body_of-body_data (action.Remove a) e.valid fits)
member-entry (action.Add a) e fits = said kind.Add (action.Add a) _ e (body_of-body_data (action.Add a) e.valid fits)

not_blank : (a : Action) → is_blank (canonical_line a) ≡ false
unfolding canonical_line
not_blank a = refl

text-entry : (a : Action) → IsEntry a → IsWritten a → checkpoint_text (canonical_line a) ≡ Ok (says.Says a)
unfolding checkpoint_text
text-entry a e w = rw (read-canonical_line a e.valid w.fits) (member-entry a e w.fits)

line-entry : (a : Action) → IsEntry a → IsWritten a → checkpoint_line_of (canonical_line a) ≡ Ok (says.Says a)
unfolding checkpoint_line_of
line-entry a e w = rw (not_blank a, w.utf8) (text-entry a e w)

-- ---- the lines of the actions

record Said (lines : List (List ℕ)) (actions : List Action) : Type 0 where
  plain : AllByRecursion (λ l. is_plain (checkpoint_line_of l) ≡ true) lines
  versions : versions_in lines ≡ []
  all : actions_in lines ≡ actions

lines-said : (actions : List Action) → AllByRecursion IsEntry actions → AreWritten actions → Said (map canonical_line actions) actions
lines-said [] e w = record { plain = tt; versions = refl; all = refl }
lines-said (a ∷ actions) e w =
    let here = line-entry a e.0 w.0 in
    let rest = lines-said actions e.1 w.1 in
    record {
      plain = (ap is_plain here, rest.plain);
      versions = ap (λ r. version_in r ++ versions_in (map canonical_line actions)) here ∙ rest.versions;
      all = ap (λ r. action_in r ++ actions_in (map canonical_line actions)) here ∙ ap (λ l. a ∷ l) rest.all;
    }

cut-actions : (actions : List Action) → AllByRecursion IsEntry actions → AreWritten actions → cut (canonical_text actions) ≡ map canonical_line actions
unfolding canonical_text
cut-actions [] e w = cut-nil
cut-actions (a ∷ actions) e w =
    cut-line_end (canonical_line a) (canonical_text actions) (one_line-canonical_line a e.0.valid w.0.fits) ∙ ap (λ ls. canonical_line a ∷ ls) (cut-actions actions e.1 w.1)

cut-checkpoint : (version : ℕ) (s : State) → version < 2 ^ 64 → AllByRecursion IsEntry (table_actions s) → AreWritten (table_actions s)
    → cut (canonical_checkpoint version s) ≡ version_line version ∷ map canonical_line (table_actions s)
unfolding canonical_checkpoint
cut-checkpoint version s range e w =
    cut-line_end (version_line version) (canonical_text (table_actions s)) (one_line-version version range) ∙ ap (λ ls. version_line version ∷ ls) (cut-actions (table_actions s) e w)

-- ---- each action of the state can be said

if_told : {X : Type 0} (P : X → Type 0) (o : Option X) (x : X) → IfSome o P → o ≡ Some x → P x
if_told P None x h e = absurd (cc)
if_told P (Some y) x h e = let same : y ≡ x = cc in subst P same h

entry_protocol : (o : Option Protocol) → AllByRecursion IsEntry (protocol_action o)
unfolding has_valid_fields
entry_protocol None = tt
entry_protocol (Some p) = (record { valid = refl; kept = refl; info = refl }, tt)

entry_meta : (o : Option Meta) → IfSome o (λ m. has_valid_fields (action.Meta m) ≡ true) → AllByRecursion IsEntry (meta_action o)
entry_meta None h = tt
entry_meta (Some m) h = (record { valid = h; kept = refl; info = refl }, tt)

each_txn : (ts : List Txn) → AllByRecursion (λ t. IsEntry (action.Txn t)) ts
unfolding has_valid_fields
each_txn [] = tt
each_txn (t ∷ ts) = (record { valid = refl; kept = refl; info = refl }, each_txn ts)

entry_txns : (s : State) → AllByRecursion IsEntry (map action.Txn (txns_in s))
entry_txns s = all_made IsEntry action.Txn (txns_in s) (each_txn (txns_in s))

entry_domains : (s : State) (log : Log) → HasTableOf s log → HasValidFields log → AllByRecursion IsEntry (map action.Domain (domains_in s))
entry_domains s log h valid =
    all_made IsEntry action.Domain (domains_in s)
    (all_weaker (λ d. domain_at d.domain log ≡ Some d) (λ d. IsEntry (action.Domain d))
    (λ d e. let k = if_told (λ x. (x.removed ≡ false) × (has_valid_fields (action.Domain x) ≡ true)) (domain_at d.domain log) d (domain_at-kept log d.domain valid) e in
    record { valid = k.1; kept = k.0; info = refl })
    (domains_in s) (told_each name_cmp names_equiv (λ d. d.domain) (domains_in s) (λ name. domain_at name log) (domains-lists s log h)))

entry_tombstones : (s : State) (log : Log) → HasTableOf s log → HasValidFields log → AllByRecursion IsEntry (map action.Remove (tombstones_in s))
entry_tombstones s log h valid =
    all_made IsEntry action.Remove (tombstones_in s)
    (all_weaker (λ r. gone_at (key_of_remove r) log ≡ Some r) (λ r. IsEntry (action.Remove r))
    (λ r e. let k = if_told (λ x. (x.change ≡ false) × (has_valid_fields (action.Remove x) ≡ true)) (gone_at (key_of_remove r) log) r (gone_kept log (key_of_remove r) valid) e in
    record { valid = k.1; kept = refl; info = refl })
    (tombstones_in s) (told_each key_cmp files_equiv key_of_remove (tombstones_in s) (λ key. gone_at key log) (tombstones-lists s log h)))

entry_files : (s : State) (log : Log) → HasTableOf s log → HasValidFields log → AllByRecursion IsEntry (map action.Add (files_in s))
entry_files s log h valid =
    all_made IsEntry action.Add (files_in s)
    (all_weaker (λ a. live_at (key_of a) log ≡ Some a) (λ a. IsEntry (action.Add a))
    (λ a e. let k = if_told (λ x. (x.change ≡ false) × (has_valid_fields (action.Add x) ≡ true)) (live_at (key_of a) log) a (live_kept log (key_of a) valid) e in
    record { valid = k.1; kept = refl; info = refl })
    (files_in s) (told_each key_cmp files_equiv key_of (files_in s) (λ key. live_at key log) (files-lists s log h)))

entries : (s : State) (log : Log) → HasTableOf s log → HasValidFields log → AllByRecursion IsEntry (table_actions s)
entries s log h valid =
    let meta : IfSome (meta_in s) (λ m. has_valid_fields (action.Meta m) ≡ true)
    = subst (λ o. IfSome o (λ m. has_valid_fields (action.Meta m) ≡ true)) (sym h.meta) (meta_of_log-kept log valid) in
    let files = all_both IsEntry (map action.Remove (tombstones_in s)) (map action.Add (files_in s)) (entry_tombstones s log h valid) (entry_files s log h valid) in
    let domains = all_both IsEntry (map action.Domain (domains_in s)) (map action.Remove (tombstones_in s) ++ map action.Add (files_in s)) (entry_domains s log h valid) files in
    let txns = all_both IsEntry (map action.Txn (txns_in s)) (map action.Domain (domains_in s) ++ (map action.Remove (tombstones_in s) ++ map action.Add (files_in s))) (entry_txns s) domains in
    all_both IsEntry (protocol_action (protocol_in s)) _ (entry_protocol (protocol_in s)) (all_both IsEntry (meta_action (meta_in s)) _ (entry_meta (meta_in s) meta) txns)

-- ---- a protocol and a metaData are among them

has_protocol : (o : Option Protocol) (rest : List Action) → is_some o ≡ true → list_any is_protocol (protocol_action o ++ rest) ≡ true
has_protocol None rest h = absurd (cc)
has_protocol (Some p) rest h = refl

has_meta : (o : Option Protocol) (p : Option Meta) (rest : List Action) → is_some p ≡ true → list_any is_meta (protocol_action o ++ (meta_action p ++ rest)) ≡ true
has_meta None None rest h = absurd (cc)
has_meta None (Some m) rest h = refl
has_meta (Some p) None rest h = absurd (cc)
has_meta (Some p) (Some m) rest h = refl

-- ---- the whole text

text-checkpoint : (version : ℕ) (s : State) (log : Log) → version < 2 ^ 64 → HasProtocolAndMeta s → HasTableOf s log → HasValidFields log
    → is_utf8 (version_line version) ≡ true → AreWritten (table_actions s) → IsCheckpointText (canonical_checkpoint version s) version (table_actions s)
text-checkpoint version s log range has h valid utf8 w =
    let e = entries s log h valid in
    let lines = cut-checkpoint version s range e w in
    let first = line-version version range utf8 in
    let rest = lines-said (table_actions s) e w in
    record {
      plain = subst (AllByRecursion (λ l. is_plain (checkpoint_line_of l) ≡ true)) (sym lines) (ap is_plain first, rest.plain);
      of_version = ap versions_in lines ∙ ap (λ r. version_in r ++ versions_in (map canonical_line (table_actions s))) first ∙ ap (λ l. version ∷ l) rest.versions;
      all = sym (ap actions_in lines ∙ ap (λ r. action_in r ++ actions_in (map canonical_line (table_actions s))) first ∙ rest.all);
      apart = apart-actions s log h;
      protocol = has_protocol (protocol_in s) _ has.protocol;
      meta = has_meta (protocol_in s) (meta_in s) _ has.meta;
    }

pub of_logs_written : {X E : Type 0} (items : X → List ℕ) (version : ℕ) (s : State) (r : Result X E) → version < 2 ^ 64 → HasProtocolAndMeta s
    → IfOk r (λ v. items v ≡ canonical_checkpoint version s) → OnOk r (is_utf8 (version_line version) ≡ true) → OnOk r (AreWritten (table_actions s))
    → (log : Log) → HasTableOf s log → HasValidFields log → IfOk r (λ v. IsCheckpointOf (items v) version log)
of_logs_written items version s (Ok v) range has is utf8 w log h valid =
    subst (λ bytes. IsCheckpointOf bytes version log) (sym is)
    (record { actions = table_actions s; text = text-checkpoint version s log range has h valid utf8 w; table = table-actions s log h valid })
of_logs_written items version s (Err e) range has is utf8 w log h valid = tt
