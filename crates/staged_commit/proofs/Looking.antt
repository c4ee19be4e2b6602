-- What the rules look at of a write is the same under every id, at every time and under every number, so they judge it alike.
use Rattle.std.proofs.Common.{◌≡◌, ℕ, ℤ, List, [], ◌∷◌, ◌++◌, map, Bool, true, false, ◌&&◌, ◌||◌, if◌then◌else◌, codes, Option, Some, None, is_none, option_map, option_and_then, filter_map, refl, sym, ap, ap₂, ◌∙◌}
use Rattle.std.specs.List.{cons_option}
use Rattle.std.proofs.lemmas.List.Elements.{filter_map-append}
use Rattle.action_types.specs.declared.actions.Action.{Action}
use Rattle.action_types.specs.declared.actions.Action.TheVariants as action
use Rattle.action_types.specs.declared.actions.Add.{Add}
use Rattle.action_types.specs.declared.actions.Domain.{Domain}
use Rattle.action_types.specs.declared.actions.Info.{Info}
use Rattle.action_types.specs.declared.actions.Meta.{Meta}
use Rattle.action_types.specs.declared.actions.Protocol.{Protocol}
use Rattle.action_types.specs.Files.{File}
use Rattle.action_types.specs.declared.actions.Remove.{Remove}
use Rattle.action_types.specs.declared.actions.Txn.{Txn}
use Rattle.conflict_rules.specs.declared.intent.Change.{Change}
use Rattle.conflict_rules.specs.declared.intent.Intent.{Intent}
use Rattle.reconcile.specs.Replay.{last_said, meta_said, or_else, protocol_said, time_said}
use Rattle.reconcile.proofs.Last.{last_said-append, or_else-none}
use Rattle.table_rules.specs.Broken.{Before, at_file, broken_by, broken_contents, broken_files, broken_metadata, broken_start, changing_file, columns, columns_of, domain_named, feature, invariants, is_append_only, late_app, late_for, marked_file, new_meta, new_protocol, no_meta, not_after, not_live, not_live_file, other_columns, other_partition, property, readers_have, recorded, txn_not_after, with_invariants, without_timestamps, writers_have}
use Rattle.table_rules.specs.Features.{faulty_feature}
use Rattle.table_rules.specs.declared.broken.Broken.TheVariants as broken
use Rattle.table_rules.specs.declared.broken.Broken.{Broken}
use Rattle.least_names.specs.Least.{least, least_file}
use Rattle.staged_commit.specs.Changes.{changes_of, metas_from, metas_of, protocols_of}
use Rattle.staged_commit.specs.Composed.{info_for, txn_for}
use Rattle.staged_commit.specs.Rules.{without_numbers, without_time}
use Rattle.staged_commit.specs.Sorting.{sorted}
use Rattle.staged_commit.specs.WriteAnswers.{BreaksFirst, write_on}
use Rattle.staged_commit.specs.Writes.{adds_cmp, composed_write, contents_of, domains_cmp, front_of, removes_cmp, with_time}

-- ---- what looks neither at a txn nor at the time of a remove

pub record IsBlind {B : Type 0} (look : Action → Option B) : Type 0 where
  pub txn : (t : Txn) → look (action.Txn t) ≡ None
  pub remove : (time : ℤ) (r : Remove) → look (action.Remove (with_time time r)) ≡ look (action.Remove r)

-- the contents with removes as they are given
unfoldable pub bare_contents : Intent → List Action
bare_contents intent =
    map action.Domain (sorted domains_cmp intent.domains)
    ++ (map action.Remove (sorted removes_cmp intent.removes) ++ map action.Add (sorted adds_cmp intent.adds))

-- and what a change composes before them
unfoldable pub bare : Option Meta → Intent → List Action
bare old intent = changes_of intent.change old ++ bare_contents intent

module _ {B : Type 0} (look : Action → Option B) (blind : IsBlind look) where
  filter-removes : (time : ℤ) (rs : List Remove) → filter_map look (map (λ r. action.Remove (with_time time r)) rs) ≡ filter_map look (map action.Remove rs)
  filter-removes time [] = refl
  filter-removes time (r ∷ rs) = ap₂ cons_option (blind.remove time r) (filter-removes time rs)

  filter-contents : (intent : Intent) (time : ℤ) → filter_map look (contents_of intent time) ≡ filter_map look (bare_contents intent)
  unfolding bare_contents
  filter-contents intent time =
      let domains = map action.Domain (sorted domains_cmp intent.domains) in
      let adds = map action.Add (sorted adds_cmp intent.adds) in
      let timed = map (λ r. action.Remove (with_time time r)) (sorted removes_cmp intent.removes) in
      let removes = map action.Remove (sorted removes_cmp intent.removes) in
      let inner : filter_map look (timed ++ adds) ≡ filter_map look (removes ++ adds) =
      filter_map-append look timed adds ∙ ap (λ l. l ++ filter_map look adds) (filter-removes time (sorted removes_cmp intent.removes)) ∙ sym (filter_map-append look removes adds) in
      filter_map-append look domains (timed ++ adds) ∙ ap (λ l. filter_map look domains ++ l) inner ∙ sym (filter_map-append look domains (removes ++ adds))

  -- without a txn
  pub filter-unnumbered : (old : Option Meta) (intent : Intent) (time : ℤ) → filter_map look (changes_of intent.change old ++ contents_of intent time) ≡ filter_map look (bare old intent)
  unfolding bare
  filter-unnumbered old intent time =
      let changes = changes_of intent.change old in
      filter_map-append look changes (contents_of intent time) ∙ ap (λ l. filter_map look changes ++ l) (filter-contents intent time)
      ∙ sym (filter_map-append look changes (bare_contents intent))

  -- and with one
  pub filter-numbered : (old : Option Meta) (intent : Intent) (t : Txn) (time : ℤ) → filter_map look (changes_of intent.change old ++ action.Txn t ∷ contents_of intent time) ≡ filter_map look (bare old intent)
  unfolding bare
  filter-numbered old intent t time =
      let changes = changes_of intent.change old in
      filter_map-append look changes (action.Txn t ∷ contents_of intent time)
      ∙ ap (λ l. filter_map look changes ++ l) (ap (λ o. cons_option o (filter_map look (contents_of intent time))) (blind.txn t) ∙ filter-contents intent time)
      ∙ sym (filter_map-append look changes (bare_contents intent))

  -- the same of what is said last
  last-removes : (time : ℤ) (rs : List Remove) → last_said look (map (λ r. action.Remove (with_time time r)) rs) ≡ last_said look (map action.Remove rs)
  last-removes time [] = refl
  last-removes time (r ∷ rs) = ap₂ or_else (last-removes time rs) (blind.remove time r)

  last-contents : (intent : Intent) (time : ℤ) → last_said look (contents_of intent time) ≡ last_said look (bare_contents intent)
  unfolding bare_contents
  last-contents intent time =
      let domains = map action.Domain (sorted domains_cmp intent.domains) in
      let adds = map action.Add (sorted adds_cmp intent.adds) in
      let timed = map (λ r. action.Remove (with_time time r)) (sorted removes_cmp intent.removes) in
      let removes = map action.Remove (sorted removes_cmp intent.removes) in
      let inner : last_said look (timed ++ adds) ≡ last_said look (removes ++ adds) =
      last_said-append look timed adds ∙ ap (λ o. or_else (last_said look adds) o) (last-removes time (sorted removes_cmp intent.removes)) ∙ sym (last_said-append look removes adds) in
      last_said-append look domains (timed ++ adds) ∙ ap (λ o. or_else o (last_said look domains)) inner ∙ sym (last_said-append look domains (removes ++ adds))

  pub last-unnumbered : (old : Option Meta) (intent : Intent) (time : ℤ) → last_said look (changes_of intent.change old ++ contents_of intent time) ≡ last_said look (bare old intent)
  unfolding bare
  last-unnumbered old intent time =
      let changes = changes_of intent.change old in
      last_said-append look changes (contents_of intent time) ∙ ap (λ o. or_else o (last_said look changes)) (last-contents intent time)
      ∙ sym (last_said-append look changes (bare_contents intent))

  pub last-numbered : (old : Option Meta) (intent : Intent) (t : Txn) (time : ℤ) → last_said look (changes_of intent.change old ++ action.Txn t ∷ contents_of intent time) ≡ last_said look (bare old intent)
  unfolding bare
  last-numbered old intent t time =
      let changes = changes_of intent.change old in
      let there : or_else (last_said look (contents_of intent time)) (look (action.Txn t)) ≡ last_said look (bare_contents intent) =
      ap (or_else (last_said look (contents_of intent time))) (blind.txn t) ∙ or_else-none (last_said look (contents_of intent time)) ∙ last-contents intent time in
      last_said-append look changes (action.Txn t ∷ contents_of intent time) ∙ ap (λ o. or_else o (last_said look changes)) there
      ∙ sym (last_said-append look changes (bare_contents intent))

-- ---- the rules

-- two lists of actions are alike to the rules
pub record LooksAs (actions others : List Action) : Type 0 where
  pub protocol : last_said protocol_said actions ≡ last_said protocol_said others
  pub meta : last_said meta_said actions ≡ last_said meta_said others
  pub removed : (live : File → Option Add) → filter_map (not_live_file live) actions ≡ filter_map (not_live_file live) others
  pub changing : filter_map changing_file actions ≡ filter_map changing_file others
  pub partitioned : (names : List (List ℕ)) → filter_map (other_partition names) actions ≡ filter_map (other_partition names) others
  pub marked : filter_map marked_file actions ≡ filter_map marked_file others
  pub domains : filter_map domain_named actions ≡ filter_map domain_named others

pub unnumbered-looks : (old : Option Meta) (intent : Intent) (time : ℤ) → LooksAs (changes_of intent.change old ++ contents_of intent time) (bare old intent)
unnumbered-looks old intent time = record {
  protocol = last-unnumbered protocol_said (record { txn = λ t. refl; remove = λ u r. refl }) old intent time;
  meta = last-unnumbered meta_said (record { txn = λ t. refl; remove = λ u r. refl }) old intent time;
  removed = λ live. filter-unnumbered (not_live_file live) (record { txn = λ t. refl; remove = λ u r. refl }) old intent time;
  changing = filter-unnumbered changing_file (record { txn = λ t. refl; remove = λ u r. refl }) old intent time;
  partitioned = λ names. filter-unnumbered (other_partition names) (record { txn = λ t. refl; remove = λ u r. refl }) old intent time;
  marked = filter-unnumbered marked_file (record { txn = λ t. refl; remove = λ u r. refl }) old intent time;
  domains = filter-unnumbered domain_named (record { txn = λ t. refl; remove = λ u r. refl }) old intent time;
}

pub numbered-looks : (old : Option Meta) (intent : Intent) (t : Txn) (time : ℤ) → LooksAs (changes_of intent.change old ++ action.Txn t ∷ contents_of intent time) (bare old intent)
numbered-looks old intent t time = record {
  protocol = last-numbered protocol_said (record { txn = λ t. refl; remove = λ u r. refl }) old intent t time;
  meta = last-numbered meta_said (record { txn = λ t. refl; remove = λ u r. refl }) old intent t time;
  removed = λ live. filter-numbered (not_live_file live) (record { txn = λ t. refl; remove = λ u r. refl }) old intent t time;
  changing = filter-numbered changing_file (record { txn = λ t. refl; remove = λ u r. refl }) old intent t time;
  partitioned = λ names. filter-numbered (other_partition names) (record { txn = λ t. refl; remove = λ u r. refl }) old intent t time;
  marked = filter-numbered marked_file (record { txn = λ t. refl; remove = λ u r. refl }) old intent t time;
  domains = filter-numbered domain_named (record { txn = λ t. refl; remove = λ u r. refl }) old intent t time;
}

-- the first rule but those on time and number, by what the rules look at
unfoldable pub judged : Option Meta → Option Protocol → (File → Option Add) → List Action → Option Broken
judged old protocol live looked =
    or_else (no_meta old looked)
    (or_else (or_else (feature looked) (or_else (property looked) (or_else (invariants looked) (columns old looked))))
    (or_else (not_live live looked) (broken_contents (new_protocol protocol looked) (new_meta old looked) looked)))

module _ (table : Before) (i : Info) (more looked : List Action) (looks : LooksAs more looked) where
  protocol-is : last_said protocol_said (action.Info i ∷ more) ≡ last_said protocol_said looked
  protocol-is = or_else-none (last_said protocol_said more) ∙ looks.protocol

  meta-is : last_said meta_said (action.Info i ∷ more) ≡ last_said meta_said looked
  meta-is = or_else-none (last_said meta_said more) ∙ looks.meta

  start-is : not_after table.time (last_said time_said (action.Info i ∷ more)) ≡ None → broken_start table (action.Info i ∷ more) ≡ no_meta table.meta looked
  start-is later =
      ap₂ or_else (ap₂ (λ p m. if is_none table.meta && (is_none p || is_none m) then Some broken.NoMeta else None) protocol-is meta-is) later
      ∙ or_else-none (no_meta table.meta looked)

  metadata-is : broken_metadata table (action.Info i ∷ more) ≡ broken_metadata table looked
  metadata-is =
      ap₂
      (λ p m. or_else (option_map broken.Feature (option_and_then faulty_feature p))
      (or_else (option_and_then without_timestamps m) (or_else (option_and_then with_invariants m) (other_columns table.meta m))))
      protocol-is meta-is

  contents-are : (p : Option Protocol) (m : Option Meta) → broken_contents p m (action.Info i ∷ more) ≡ broken_contents p m looked
  contents-are p m =
      ap₂ or_else (ap (λ l. if is_append_only p m then option_map (at_file broken.AppendOnly) (least_file l) else None) looks.changing)
      (ap₂ or_else (ap (λ l. option_map (at_file broken.Partition) (least_file l)) (looks.partitioned (columns_of m)))
      (ap₂ or_else (ap (λ l. if readers_have (codes "deletionVectors") p then None else option_map (at_file broken.Vector) (least_file l)) looks.marked)
      (ap (λ l. if writers_have (codes "domainMetadata") p then None else option_map broken.Domain (least l)) looks.domains)))

  files-are : txn_not_after table.number (action.Info i ∷ more) ≡ None
      → broken_files table (action.Info i ∷ more)
      ≡ or_else (not_live table.live looked) (broken_contents (new_protocol table.protocol looked) (new_meta table.meta looked) looked)
  files-are late =
      ap₂ or_else late
      (ap₂ or_else (ap (λ l. option_map (at_file broken.NotLive) (least_file l)) (looks.removed table.live))
      (contents-are (new_protocol table.protocol (action.Info i ∷ more)) (new_meta table.meta (action.Info i ∷ more))
      ∙ ap₂ (λ p m. broken_contents (or_else p table.protocol) (or_else m table.meta) looked) protocol-is meta-is))

  pub rules-are : not_after table.time (last_said time_said (action.Info i ∷ more)) ≡ None → txn_not_after table.number (action.Info i ∷ more) ≡ None
      → broken_by table (action.Info i ∷ more) ≡ judged table.meta table.protocol table.live looked
  unfolding judged
  rules-are later late = ap₂ or_else (start-is later) (ap₂ or_else metadata-is (files-are late))

-- ---- what sees nothing but a commitInfo or a txn

pub record SeesNone {B : Type 0} (look : Action → Option B) : Type 0 where
  protocol : (p : Protocol) → look (action.Protocol p) ≡ None
  meta : (m : Meta) → look (action.Meta m) ≡ None
  domain : (d : Domain) → look (action.Domain d) ≡ None
  remove : (r : Remove) → look (action.Remove r) ≡ None
  add : (a : Add) → look (action.Add a) ≡ None

none-in : {X B : Type 0} (look : Action → Option B) (f : X → Action) → ((x : X) → look (f x) ≡ None) → (xs : List X) → filter_map look (map f xs) ≡ []
none-in look f h [] = refl
none-in look f h (x ∷ xs) = ap₂ cons_option (h x) (none-in look f h xs)

none-both : {B : Type 0} (look : Action → Option B) (xs ys : List Action) → filter_map look xs ≡ [] → filter_map look ys ≡ [] → filter_map look (xs ++ ys) ≡ []
none-both look xs ys h k = filter_map-append look xs ys ∙ ap₂ (λ us vs. us ++ vs) h k

none-said : {B : Type 0} (o : Option B) (ys : List B) (l : Option B) → cons_option o ys ≡ [] → (ys ≡ [] → l ≡ None) → or_else l o ≡ None
none-said None ys l h more = ap (λ x. or_else x None) (more h)
none-said (Some b) ys l h more = cc

none-last : {B : Type 0} (look : Action → Option B) (xs : List Action) → filter_map look xs ≡ [] → last_said look xs ≡ None
none-last look [] h = refl
none-last look (x ∷ xs) h = none-said (look x) (filter_map look xs) (last_said look xs) h (none-last look xs)

module _ {B : Type 0} (look : Action → Option B) (none : SeesNone look) where
  none-protocols : (features : Option (List (List ℕ))) → filter_map look (protocols_of features) ≡ []
  none-protocols None = refl
  none-protocols (Some features) = ap (λ o. cons_option o []) (none.protocol _)

  none-metas : (b : Bool) (change : Change) (old : Option Meta) → filter_map look (if b then metas_from change old else []) ≡ []
  none-metas true change None = refl
  none-metas true change (Some m) = ap (λ o. cons_option o []) (none.meta _)
  none-metas false change old = refl

  none-changes : (change : Option Change) (old : Option Meta) → filter_map look (changes_of change old) ≡ []
  none-changes None old = refl
  none-changes (Some change) old = none-both look (protocols_of change.features) (metas_of change old) (none-protocols change.features) (none-metas _ change old)

  none-contents : (intent : Intent) (time : ℤ) → filter_map look (contents_of intent time) ≡ []
  none-contents intent time =
      none-both look (map action.Domain (sorted domains_cmp intent.domains)) _ (none-in look action.Domain none.domain (sorted domains_cmp intent.domains))
      (none-both look (map (λ r. action.Remove (with_time time r)) (sorted removes_cmp intent.removes)) _
      (none-in look (λ r. action.Remove (with_time time r)) (λ r. none.remove (with_time time r)) (sorted removes_cmp intent.removes))
      (none-in look action.Add none.add (sorted adds_cmp intent.adds)))

  none-unnumbered : (old : Option Meta) (intent : Intent) (time : ℤ) → filter_map look (changes_of intent.change old ++ contents_of intent time) ≡ []
  none-unnumbered old intent time = none-both look (changes_of intent.change old) (contents_of intent time) (none-changes intent.change old) (none-contents intent time)

time-sees : SeesNone time_said
time-sees = record { protocol = λ p. refl; meta = λ m. refl; domain = λ d. refl; remove = λ r. refl; add = λ a. refl }

late-sees : (number : List ℕ → Option ℤ) → SeesNone (late_app number)
late-sees number = record { protocol = λ p. refl; meta = λ m. refl; domain = λ d. refl; remove = λ r. refl; add = λ a. refl }

no-late : (a : Action) → late_app (λ app. None) a ≡ None
no-late (action.Info a) = refl
no-late (action.Protocol a) = refl
no-late (action.Meta a) = refl
no-late (action.Txn a) = refl
no-late (action.Domain a) = refl
no-late (action.Remove a) = refl
no-late (action.Add a) = refl

none-late : (actions : List Action) → filter_map (late_app (λ app. None)) actions ≡ []
none-late [] = refl
none-late (a ∷ more) = ap₂ cons_option (no-late a) (none-late more)

-- ---- a write

-- at whatever time, under whatever id
pub write-judged : (table : Before) (intent : Intent) (id : ℕ) (time : ℤ)
    → broken_by (without_numbers (without_time table)) (write_on table intent id time) ≡ judged table.meta table.protocol table.live (bare table.meta intent)
unfolding composed_write judged
write-judged table intent id time =
    rules-are (without_numbers (without_time table)) (info_for id time) (changes_of intent.change table.meta ++ action.Txn (txn_for intent) ∷ contents_of intent time)
    (bare table.meta intent) (numbered-looks table.meta intent (txn_for intent) time) refl
    (ap (λ l. option_and_then (recorded (λ app. None)) (least l)) (none-late (front_of table.meta intent id time ++ action.Txn (txn_for intent) ∷ contents_of intent time)))

module _ (table : Before) (intent : Intent) (id : ℕ) (time : ℤ) (last : Option ℤ) (later : not_after last (Some time) ≡ None) where
  unnumbered-time : last_said time_said (front_of table.meta intent id time ++ contents_of intent time) ≡ Some time
  unnumbered-time =
      ap (λ o. or_else o (Some time))
      (none-last time_said (changes_of intent.change table.meta ++ contents_of intent time) (none-unnumbered time_said time-sees table.meta intent time))

  -- without its txn, at a time after the last one
  unnumbered-judged : broken_by (record table { time = last }) (front_of table.meta intent id time ++ contents_of intent time) ≡ judged table.meta table.protocol table.live (bare table.meta intent)
  unfolding judged
  unnumbered-judged =
      rules-are (record table { time = last }) (info_for id time) (changes_of intent.change table.meta ++ contents_of intent time)
      (bare table.meta intent) (unnumbered-looks table.meta intent time) (ap (not_after last) unnumbered-time ∙ later)
      (ap (λ l. option_and_then (recorded table.number) (least l)) (none-unnumbered (late_app table.number) (late-sees table.number) table.meta intent time))

  -- so what a check of that tells holds of the write
  pub breaks-first : (found : Option Broken) → broken_by (record table { time = last }) (front_of table.meta intent id time ++ contents_of intent time) ≡ found → BreaksFirst table intent found
  breaks-first found h = λ id' time'. write-judged table intent id' time' ∙ sym unnumbered-judged ∙ h

-- with a number after the recorded one of its application, at the next time, it breaks no rule at all
module _ (table : Before) (intent : Intent) (id : ℕ) (time : ℤ) (later : not_after table.time (Some time) ≡ None)
    (after_number : late_for intent.app intent.number (table.number intent.app) ≡ None) where
  numbered-time : last_said time_said (write_on table intent id time) ≡ Some time
  unfolding composed_write
  numbered-time =
      ap (λ o. or_else o (Some time))
      (none-last time_said (changes_of intent.change table.meta ++ action.Txn (txn_for intent) ∷ contents_of intent time)
      (none-both time_said (changes_of intent.change table.meta) (action.Txn (txn_for intent) ∷ contents_of intent time)
      (none-changes time_said time-sees intent.change table.meta) (none-contents time_said time-sees intent time)))

  numbered-late : filter_map (late_app table.number) (write_on table intent id time) ≡ []
  unfolding composed_write
  numbered-late =
      none-both (late_app table.number) (changes_of intent.change table.meta) (action.Txn (txn_for intent) ∷ contents_of intent time)
      (none-changes (late_app table.number) (late-sees table.number) intent.change table.meta)
      (ap₂ cons_option after_number (none-contents (late_app table.number) (late-sees table.number) intent time))

  pub numbered-judged : broken_by table (write_on table intent id time) ≡ judged table.meta table.protocol table.live (bare table.meta intent)
  unfolding composed_write judged
  numbered-judged =
      rules-are table (info_for id time) (changes_of intent.change table.meta ++ action.Txn (txn_for intent) ∷ contents_of intent time)
      (bare table.meta intent) (numbered-looks table.meta intent (txn_for intent) time) (ap (not_after table.time) numbered-time ∙ later)
      (ap (λ l. option_and_then (recorded table.number) (least l)) numbered-late)
