-- Which rules an append breaks: its application's number, the protocol, the metadata and its adds alone decide that, so it breaks
-- none after more commits where these have nothing of the protocol, of the metadata and of the application.
use Rattle.std.proofs.Common.{◌≡◌, ℕ, ◌+◌, ℤ, ◌<ℤ◌, int_lt, List, [], ◌∷◌, ◌++◌, map, codes, Bool, true, false, ◌&&◌, ◌||◌, cond, bytes_eq, Option, Some, None, IfSome, is_none, option_map, option_and_then, if◌then◌else◌, refl, sym, ap, ap₂, ◌∙◌, subst, arith}
use Rattle.std.specs.Int.{int_max}
use Rattle.std.specs.List.{cons_option, filter_map, list_any}
use Rattle.std.specs.Prelude.{◌+ℤ◌, pos}
use Rattle.std.proofs.lemmas.Bool.{or_parts}
use Rattle.std.proofs.lemmas.Int.{ints}
use Rattle.std.proofs.lemmas.Slice.Eq.{bytes_eq-Decides}
use Rattle.std.specs.Ordering.{is_eq}
use Rattle.std.specs.declared.cmp.Ordering.{Ordering}
use Rattle.std.specs.declared.cmp.Ordering.TheVariants.{Less, Equal, Greater}
use Rattle.action_types.specs.declared.actions.Action.{Action}
use Rattle.action_types.specs.declared.actions.Action.TheVariants as action
use Rattle.action_types.specs.declared.actions.Add.{Add}
use Rattle.action_types.specs.declared.actions.Info.{Info}
use Rattle.action_types.specs.declared.actions.Meta.{Meta}
use Rattle.action_types.specs.declared.actions.Protocol.{Protocol}
use Rattle.action_types.specs.declared.actions.Txn.{Txn}
use Rattle.action_types.specs.Files.{File}
use Rattle.commit_timestamps.specs.Times.{end_of_time, next_time}
use Rattle.conflict_rules.specs.Conflict.{Said, at_key, by_domain, by_metadata, by_protocol, by_transaction, conflict_with, conflicts_of_files, conflicts_of_table, first_conflict, first_of, is_meta, is_protocol, is_txn_of, live_files}
use Rattle.conflict_rules.specs.declared.clash.Rule.TheVariants as rule
use Rattle.conflict_rules.specs.declared.intent.Intent.{Intent}
use Rattle.least_names.specs.Least.{least, least_file}
use Rattle.reconcile.specs.Keys.{name_cmp}
use Rattle.reconcile.specs.Replay.{Log, in_log, last_said, meta_of_log, meta_said, or_else, protocol_of_log, protocol_said, time_said, txn_at, txn_said}
use Rattle.reconcile.proofs.Last.{last_said-append, or_else-none}
use Rattle.reconcile.proofs.Named.{exact_names}
use Rattle.table_rules.specs.Broken.{Before, after, append_only, at_file, broken_by, broken_contents, broken_files, broken_metadata, broken_start, changing_file, domain_named, feature, invariants, is_append_only, late_app, late_for, new_meta, new_protocol, no_info, no_meta, not_after, not_live, not_live_file, number_at, other_columns, partition, property, recorded, txn_not_after, untold_domain, untold_vector, with_invariants, without_timestamps, writers_have}
use Rattle.table_rules.specs.Features.{faulty_feature}
use Rattle.table_rules.specs.declared.broken.Broken.{Broken}
use Rattle.table_rules.specs.declared.broken.Broken.TheVariants as broken
use Rattle.staged_commit.specs.Adds.{adds_in_order}
use Rattle.staged_commit.specs.Composed.{composed_append, composed_create, info_for, txn_for}
use Rattle.staged_commit.specs.Rules.{broken_but_time, broken_but_time_and_number, without_numbers, without_time}
use Rattle.staged_commit.specs.declared.create.Create.{Create}

-- ---- adds say nothing but of files

silent : {B : Type 0} (says : Action → Option B) → ((a : Add) → says (action.Add a) ≡ None) → (adds : List Add) → last_said says (map action.Add adds) ≡ None
silent says h [] = refl
silent says h (a ∷ more) = ap₂ or_else (silent says h more) (h a)

unnamed : {B : Type 0} (names : Action → Option B) → ((a : Add) → names (action.Add a) ≡ None) → (adds : List Add) → filter_map names (map action.Add adds) ≡ []
unnamed names h [] = refl
unnamed names h (a ∷ more) = ap₂ cons_option (h a) (unnamed names h more)

-- the actions of an append, with any commitInfo
abbrev append : Info → Txn → List Add → List Action
append i t adds = action.Info i ∷ action.Txn t ∷ map action.Add adds

two-more : {B : Type 0} (o a b : Option B) → o ≡ None → or_else (or_else o a) b ≡ or_else a b
two-more o a b h = ap (λ x. or_else (or_else x a) b) h

no-protocol : (i : Info) (t : Txn) (adds : List Add) → last_said protocol_said (append i t adds) ≡ None
no-protocol i t adds = two-more _ None None (silent protocol_said (λ a. refl) adds)

no-metadata : (i : Info) (t : Txn) (adds : List Add) → last_said meta_said (append i t adds) ≡ None
no-metadata i t adds = two-more _ None None (silent meta_said (λ a. refl) adds)

its-time : (i : Info) (t : Txn) (adds : List Add) → last_said time_said (append i t adds) ≡ Some i.time
its-time i t adds = two-more _ None (Some i.time) (silent time_said (λ a. refl) adds)

-- ---- each rule at an append

no_table : Option Meta → Option Broken
no_table meta = if is_none meta then Some broken.NoMeta else None

late : List ℕ → ℤ → Option ℤ → Option Broken
late app number None = None
late app number (Some last) = if int_lt last number then None else Some (broken.TxnNotAfter app last)

-- what the protocol and the metadata allow of adds
abbrev append_contents : Option Protocol → Option Meta → List Add → Option Broken
append_contents protocol meta adds = or_else (partition meta (map action.Add adds)) (untold_vector protocol (map action.Add adds))

-- the first rule but the one on time
append_broken : Option Protocol → Option Meta → Option ℤ → Txn → List Add → Option Broken
append_broken protocol meta number t adds =
    or_else (no_table meta) (or_else (late t.app t.number number) (append_contents protocol meta adds))

both-missing : (b : Bool) (p : Option Protocol) (m : Option Meta) → p ≡ None
    → (if b && (is_none p || is_none m) then Some broken.NoMeta else None) ≡ (if b then Some broken.NoMeta else None)
both-missing true p m h = ap (λ o. if is_none o || is_none m then Some broken.NoMeta else None) h
both-missing false p m h = refl

late-there : (number : List ℕ → Option ℤ) (app : List ℕ) (last : ℤ) (b : Bool) → number app ≡ Some last
    → option_and_then (recorded number) (least (cons_option (if b then None else Some app) [])) ≡ (if b then None else Some (broken.TxnNotAfter app last))
late-there number app last true h = refl
late-there number app last false h = ap (option_map (broken.TxnNotAfter app)) h

late-at : (number : List ℕ → Option ℤ) (t : Txn) (n : Option ℤ) → number t.app ≡ n
    → option_and_then (recorded number) (least (cons_option (late_for t.app t.number n) [])) ≡ late t.app t.number n
unfolding late
late-at number t None h = refl
late-at number t (Some last) h = late-there number t.app last (int_lt last t.number) h

columns-none : (old new : Option Meta) → new ≡ None → other_columns old new ≡ None
columns-none None new h = refl
columns-none (Some old) new h = ap (other_columns (Some old)) h

unless-files : (b : Bool) (files : List File) → files ≡ [] → (if b then option_map (at_file broken.AppendOnly) (least_file files) else None) ≡ None
unless-files true files h = ap (λ l. option_map (at_file broken.AppendOnly) (least_file l)) h
unless-files false files h = refl

unless-names : (b : Bool) (names : List (List ℕ)) → names ≡ [] → (if b then None else option_map broken.Domain (least names)) ≡ None
unless-names true names h = refl
unless-names false names h = ap (λ l. option_map broken.Domain (least l)) h

pass : (a b : Option Broken) → a ≡ None → or_else a b ≡ b
pass a b h = ap (λ o. or_else o b) h

module _ (table : Before) (i : Info) (t : Txn) (adds : List Add) where
  start : table.time ≡ None → broken_start table (append i t adds) ≡ no_table table.meta
  unfolding no_table
  start timeless =
      ap₂ or_else
      (both-missing (is_none table.meta) (last_said protocol_said (append i t adds)) (last_said meta_said (append i t adds)) (no-protocol i t adds))
      (ap (λ o. not_after o (last_said time_said (append i t adds))) timeless)
      ∙ or_else-none (no_table table.meta)

  metadata : broken_metadata table (append i t adds) ≡ None
  metadata =
      pass (feature (append i t adds)) _ (ap (λ o. option_map broken.Feature (option_and_then faulty_feature o)) (no-protocol i t adds))
      ∙ pass (property (append i t adds)) _ (ap (option_and_then without_timestamps) (no-metadata i t adds))
      ∙ pass (invariants (append i t adds)) _ (ap (option_and_then with_invariants) (no-metadata i t adds))
      ∙ columns-none table.meta (last_said meta_said (append i t adds)) (no-metadata i t adds)

  numbers : txn_not_after table.number (append i t adds) ≡ late t.app t.number (table.number t.app)
  numbers =
      ap (λ l. option_and_then (recorded table.number) (least (cons_option (late_for t.app t.number (table.number t.app)) l)))
      (unnamed (late_app table.number) (λ a. refl) adds)
      ∙ late-at table.number t (table.number t.app) refl

  contents : (protocol : Option Protocol) (meta : Option Meta) → broken_contents protocol meta (append i t adds) ≡ append_contents protocol meta adds
  contents protocol meta =
      pass (append_only protocol meta (append i t adds)) _
      (unless-files (is_append_only protocol meta) (filter_map changing_file (append i t adds)) (unnamed changing_file (λ a. refl) adds))
      ∙ ap (λ o. or_else (partition meta (append i t adds)) (or_else (untold_vector protocol (append i t adds)) o))
      (unless-names (writers_have (codes "domainMetadata") protocol) (filter_map domain_named (append i t adds)) (unnamed domain_named (λ a. refl) adds))
      ∙ ap (or_else (partition meta (append i t adds))) (or_else-none (untold_vector protocol (append i t adds)))

  files : broken_files table (append i t adds) ≡ or_else (late t.app t.number (table.number t.app)) (append_contents table.protocol table.meta adds)
  files =
      ap₂ or_else numbers
      (pass (not_live table.live (append i t adds)) _ (ap (λ l. option_map (at_file broken.NotLive) (least_file l)) (unnamed (not_live_file table.live) (λ a. refl) adds))
      ∙ contents (new_protocol table.protocol (append i t adds)) (new_meta table.meta (append i t adds))
      ∙ ap₂ (λ p m. append_contents (or_else p table.protocol) (or_else m table.meta) adds) (no-protocol i t adds) (no-metadata i t adds))

  breaks : table.time ≡ None → broken_by table (append i t adds) ≡ append_broken table.protocol table.meta (table.number t.app) t adds
  unfolding append_broken
  breaks timeless = ap₂ or_else (start timeless) (pass (broken_metadata table (append i t adds)) _ metadata ∙ files)

lt-true : (a b : ℤ) → a <ℤ b → (t : Bool) → int_lt a b ≡ t → t ≡ true
lt-true a b h true e = refl
lt-true a b h false e = absurd (omega (arith, ints))

-- ---- an append to a table

module _ (intent : Intent) where
  by-time : (table : Before) (id : ℕ) (time : ℤ)
      → broken_by (without_time table) (composed_append intent id time) ≡ append_broken table.protocol table.meta (table.number intent.app) (txn_for intent) (adds_in_order intent.adds)
  unfolding composed_append
  by-time table id time = breaks (without_time table) (info_for id time) (txn_for intent) (adds_in_order intent.adds) refl

  by-both : (table : Before) (id : ℕ) (time : ℤ)
      → broken_by (without_numbers (without_time table)) (composed_append intent id time) ≡ append_broken table.protocol table.meta None (txn_for intent) (adds_in_order intent.adds)
  unfolding composed_append
  by-both table id time = breaks (without_numbers (without_time table)) (info_for id time) (txn_for intent) (adds_in_order intent.adds) refl

  -- the time of the commit is the one that it was composed at
  pub append-time : (id : ℕ) (time : ℤ) → last_said time_said (composed_append intent id time) ≡ Some time
  unfolding composed_append
  append-time id time = its-time (info_for id time) (txn_for intent) (adds_in_order intent.adds)

  -- but for the rule on time, an append breaks the same rule after two logs that agree on the protocol, on the metadata and on its
  -- application's number
  pub same-rules : (a b : Log) (id id' : ℕ) (time time' : ℤ) → protocol_of_log a ≡ protocol_of_log b → meta_of_log a ≡ meta_of_log b
      → number_at intent.app a ≡ number_at intent.app b → broken_but_time a (composed_append intent id time) ≡ broken_but_time b (composed_append intent id' time')
  same-rules a b id id' time time' p m n =
      by-time (after a) id time
      ∙ ap₂ (λ meta number. append_broken (protocol_of_log a) meta number (txn_for intent) (adds_in_order intent.adds)) m n
      ∙ ap (λ protocol. append_broken protocol (meta_of_log b) (number_at intent.app b) (txn_for intent) (adds_in_order intent.adds)) p
      ∙ sym (by-time (after b) id' time')

  -- its id and its time do not matter
  pub same-at-any-time : (table : Before) (id id' : ℕ) (time time' : ℤ)
      → broken_by (without_time table) (composed_append intent id time) ≡ broken_by (without_time table) (composed_append intent id' time')
  same-at-any-time table id id' time time' = by-time table id time ∙ sym (by-time table id' time')

  -- but for the rules on time and numbers, the protocol and the metadata alone matter
  pub same-rules-of-table : (a b : Log) (id id' : ℕ) (time time' : ℤ) → protocol_of_log a ≡ protocol_of_log b → meta_of_log a ≡ meta_of_log b
      → broken_but_time_and_number a (composed_append intent id time) ≡ broken_but_time_and_number b (composed_append intent id' time')
  same-rules-of-table a b id id' time time' p m =
      by-both (after a) id time
      ∙ ap₂ (λ protocol meta. append_broken protocol meta None (txn_for intent) (adds_in_order intent.adds)) p m
      ∙ sym (by-both (after b) id' time')

  not-late : (n : Option ℤ) → IfSome n (λ last. last <ℤ intent.number) → late intent.app intent.number n ≡ None
  unfolding late
  not-late None h = refl
  not-late (Some last) h = ap (λ b. if b then None else Some (broken.TxnNotAfter intent.app last)) (lt-true last intent.number h (int_lt last intent.number) refl)

  -- where its number is above the recorded one, the rule on numbers does not matter
  pub same-above-number : (log : Log) (id : ℕ) (time : ℤ) → IfSome (number_at intent.app log) (λ last. last <ℤ intent.number)
      → broken_but_time log (composed_append intent id time) ≡ broken_but_time_and_number log (composed_append intent id time)
  unfolding append_broken late
  same-above-number log id time h =
      by-time (after log) id time
      ∙ ap (λ o. or_else (no_table (meta_of_log log)) (or_else o (append_contents (protocol_of_log log) (meta_of_log log) (adds_in_order intent.adds))))
      (not-late (number_at intent.app log) h)
      ∙ sym (by-both (after log) id time)

-- the time of a composed create is the one that it was composed at
pub create-time : (create : Create) (id : ℕ) (time : ℤ) → last_said time_said (composed_create create id time) ≡ Some time
unfolding composed_create
create-time create id time = refl

-- ---- at the next time the rule on time does not matter

later : (last now : ℤ) (b : Bool) → int_lt (last +ℤ pos 1) now ≡ b → last <ℤ cond b now (last +ℤ pos 1)
later last now true e = omega (arith, ints)
later last now false e = omega (arith, ints)

is-next : (last now time : ℤ) (b : Bool) → (if b then Some (int_max now (last +ℤ pos 1)) else None) ≡ Some time → last <ℤ time
is-next last now time true h =
    let same : int_max now (last +ℤ pos 1) ≡ time = cc in
    subst (λ (t : ℤ). last <ℤ t) same (later last now (int_lt (last +ℤ pos 1) now) refl)
is-next last now time false h = cc

pub on-time : (last : Option ℤ) (now time : ℤ) → next_time last now ≡ Some time → not_after last (Some time) ≡ None
on-time None now time h = refl
on-time (Some last) now time h =
    ap (λ b. if b then None else Some (broken.TimeNotAfter last)) (lt-true last time (is-next last now time (int_lt last end_of_time) h) (int_lt last time) refl)

-- the rule on time does not matter where it is not broken
no-time-rule : (table : Before) (last time : Option ℤ) (actions : List Action) → last_said time_said actions ≡ time → not_after last time ≡ None
    → broken_by (record table { time = last }) actions ≡ broken_by (without_time table) actions
no-time-rule table last time actions said h =
    ap (λ o. or_else (or_else (no_info actions) (or_else (no_meta table.meta actions) o)) (or_else (broken_metadata table actions) (broken_files table actions)))
    (ap (not_after last) said ∙ h)

pub same-at-next-time : (table : Before) (actions : List Action) (now time : ℤ) → next_time table.time now ≡ Some time → last_said time_said actions ≡ Some time
    → broken_by table actions ≡ broken_by (without_time table) actions
same-at-next-time table actions now time h said = no-time-rule table table.time (Some time) actions said (on-time table.time now time h)

pub same-after-earlier : (table : Before) (actions : List Action) (earlier time : ℤ) → earlier <ℤ time → last_said time_said actions ≡ Some time
    → broken_by (record table { time = Some earlier }) actions ≡ broken_by (without_time table) actions
same-after-earlier table actions earlier time h said =
    no-time-rule table (Some earlier) (Some time) actions said
    (ap (λ b. if b then None else Some (broken.TimeNotAfter earlier)) (lt-true earlier time h (int_lt earlier time) refl))

-- ---- commits without conflict leave the metadata, the protocol and the application's number

quiet : {B : Type 0} (test : Action → Bool) (says : Action → Option B) → ((a : Action) → test a ≡ false → says a ≡ None)
    → (actions : List Action) → list_any test actions ≡ false → last_said says actions ≡ None
quiet test says h [] e = refl
quiet test says h (a ∷ more) e =
    let parts = or_parts (test a) (list_any test more) e in ap₂ or_else (quiet test says h more parts.1) (h a parts.0)

named-none : (b : Bool) (s : Said) → (if b then Some s else None) ≡ None → b ≡ false
named-none true s e = cc
named-none false s e = refl

or-none : {B : Type 0} (a b : Option B) → or_else a b ≡ None → (a ≡ None) × (b ≡ None)
or-none None b h = (refl, h)
or-none (Some x) b h = cc

map-none : {A B : Type 0} (f : A → B) (o : Option A) → option_map f o ≡ None → o ≡ None
map-none f None h = refl
map-none f (Some a) h = cc

no-protocol-in : (a : Action) → is_protocol a ≡ false → protocol_said a ≡ None
no-protocol-in (action.Info a) h = refl
no-protocol-in (action.Protocol a) h = cc
no-protocol-in (action.Meta a) h = refl
no-protocol-in (action.Txn a) h = refl
no-protocol-in (action.Domain a) h = refl
no-protocol-in (action.Remove a) h = refl
no-protocol-in (action.Add a) h = refl

no-meta-in : (a : Action) → is_meta a ≡ false → meta_said a ≡ None
no-meta-in (action.Info a) h = refl
no-meta-in (action.Protocol a) h = refl
no-meta-in (action.Meta a) h = cc
no-meta-in (action.Txn a) h = refl
no-meta-in (action.Domain a) h = refl
no-meta-in (action.Remove a) h = refl
no-meta-in (action.Add a) h = refl

other-app : (app : List ℕ) (t : Txn) (o : Ordering) → name_cmp app t.app ≡ o → bytes_eq t.app app ≡ false → (if is_eq o then Some t else None) ≡ None
other-app app t Less e h = refl
other-app app t Equal e h = let same = (bytes_eq-Decides t.app app).1 (sym (exact_names app t.app e)) in cc
other-app app t Greater e h = refl

no-txn-in : (app : List ℕ) (a : Action) → is_txn_of app a ≡ false → txn_said app a ≡ None
no-txn-in app (action.Info a) h = refl
no-txn-in app (action.Protocol a) h = refl
no-txn-in app (action.Meta a) h = refl
no-txn-in app (action.Txn t) h = other-app app t (name_cmp app t.app) refl h
no-txn-in app (action.Domain a) h = refl
no-txn-in app (action.Remove a) h = refl
no-txn-in app (action.Add a) h = refl

-- what a winner without conflict does not say
record Leaves (intent : Intent) (winner : List Action) : Type 0 where
  protocol : last_said protocol_said winner ≡ None
  meta : last_said meta_said winner ≡ None
  txn : last_said (txn_said intent.app) winner ≡ None

leaves : (intent : Intent) (base : Log) (winner : List Action) → conflict_with intent base winner ≡ None → Leaves intent winner
leaves intent base winner h =
    let table = (or-none (conflicts_of_table intent winner) (or_else (conflicts_of_files intent (live_files base) winner) (by_domain intent.domains winner)) h).0 in
    let first = or-none (by_protocol winner) (or_else (by_metadata winner) (by_transaction intent.app winner)) table in
    let second = or-none (by_metadata winner) (by_transaction intent.app winner) first.1 in
    record {
      protocol = quiet is_protocol protocol_said no-protocol-in winner (named-none (list_any is_protocol winner) (at_key rule.Protocol []) first.0);
      meta = quiet is_meta meta_said no-meta-in winner (named-none (list_any is_meta winner) (at_key rule.Metadata []) second.0);
      txn = quiet (is_txn_of intent.app) (txn_said intent.app) (no-txn-in intent.app) winner (named-none (list_any (is_txn_of intent.app) winner) (at_key rule.Transaction intent.app) second.1);
    }

-- ..  nor do all the winners
unsaid : {B : Type 0} (says : Action → Option B) (conflict : List Action → Option Said) → ((w : List Action) → conflict w ≡ None → last_said says w ≡ None)
    → (v : ℕ) (winners : Log) → first_of conflict v winners ≡ None → in_log says winners ≡ None
unsaid says conflict k v [] h = refl
unsaid says conflict k v (w ∷ ws) h =
    let parts = or-none (option_map (λ clash. (v, clash)) (conflict w)) (first_of conflict (v + 1) ws) h in
    ap₂ or_else (unsaid says conflict k (v + 1) ws parts.1) (k w (map-none (λ clash. (v, clash)) (conflict w) parts.0))

stays : {B : Type 0} (says : Action → Option B) (log winners : Log) → in_log says winners ≡ None → in_log says (log ++ winners) ≡ in_log says log
stays says log winners h = last_said-append (last_said says) log winners ∙ ap (λ o. or_else o (in_log says log)) h

module _ (intent : Intent) (base : Log) (version : ℕ) (log winners : Log) (clear : first_conflict intent base version winners ≡ None) where
  pub same-protocol : protocol_of_log (log ++ winners) ≡ protocol_of_log log
  unfolding protocol_of_log
  same-protocol = stays protocol_said log winners (unsaid protocol_said (conflict_with intent base) (λ w h. (leaves intent base w h).protocol) version winners clear)

  pub same-meta : meta_of_log (log ++ winners) ≡ meta_of_log log
  unfolding meta_of_log
  same-meta = stays meta_said log winners (unsaid meta_said (conflict_with intent base) (λ w h. (leaves intent base w h).meta) version winners clear)

  pub same-number : number_at intent.app (log ++ winners) ≡ number_at intent.app log
  unfolding txn_at
  same-number =
      ap (option_map (λ (t : Txn). t.number))
      (stays (txn_said intent.app) log winners (unsaid (txn_said intent.app) (conflict_with intent base) (λ w h. (leaves intent base w h).txn) version winners clear))

  -- so an append breaks the same rule after them, but for the one on time
  pub same-after-winners : (id id' : ℕ) (time time' : ℤ)
      → broken_but_time (log ++ winners) (composed_append intent id time) ≡ broken_but_time log (composed_append intent id' time')
  same-after-winners id id' time time' = same-rules intent (log ++ winners) log id id' time time' same-protocol same-meta same-number
