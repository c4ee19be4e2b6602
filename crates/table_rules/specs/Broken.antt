-- The first rule that a next commit breaks.
use Rattle.std.specs.Prelude.{◌≡◌, Result, Ok, Err, ℕ, ℤ, List, [], ◌∷◌, ◌&&◌, ◌||◌, Bool, false, Option, Some, None, if◌then◌else◌, codes, option_and_then, option_map, is_none, is_some, int_lt}
use Rattle.std.specs.List.{filter_map}
use Rattle.std.specs.Str.{bytes_eq}
use Rattle.std.specs.Cmp.Lexicographic.{pointwise}
use Rattle.action_types.specs.declared.actions.Action.{Action}
use Rattle.action_types.specs.declared.actions.Action.TheVariants as action
use Rattle.action_types.specs.declared.actions.Add.{Add}
use Rattle.action_types.specs.declared.actions.Meta.{Meta}
use Rattle.action_types.specs.declared.actions.Protocol.{Protocol}
use Rattle.action_types.specs.declared.actions.Txn.{Txn}
use Rattle.action_types.specs.Files.{File, file_of_add, file_of_remove}
use Rattle.least_names.specs.Least.{least, least_file}
use Rattle.reconcile.specs.Replay.{Log, or_else, last_said, live_at, txn_at, protocol_of_log, meta_of_log, time_of_log, protocol_said, meta_said, time_said}
use Rattle.table_rules.specs.Texts.{names_have, listed, pairs_are_of, pairs_have, contains_text}
use Rattle.table_rules.specs.Features.{faulty_feature}
use Rattle.table_rules.specs.declared.broken.Broken.{Broken}
use Rattle.table_rules.specs.declared.broken.Broken.TheVariants as broken

-- what the rules look at of the table before the commit
pub record Before : Type 0 where
  pub live : File → Option Add
  pub number : List ℕ → Option ℤ
  pub protocol : Option Protocol
  pub meta : Option Meta
  pub time : Option ℤ

-- the number of an application's last txn
abbrev pub number_at : List ℕ → Log → Option ℤ
number_at app log = option_map (λ (t : Txn). t.number) (txn_at app log)

-- the table after a list of commits
abbrev pub after : Log → Before
after log = record {
  live = λ file. live_at file log;
  number = λ app. number_at app log;
  protocol = protocol_of_log log;
  meta = meta_of_log log;
  time = time_of_log log;
}

-- the protocol and the metadata with the commit: its own, else those before it
abbrev pub new_protocol : Option Protocol → List Action → Option Protocol
new_protocol old actions = or_else (last_said protocol_said actions) old

abbrev pub new_meta : Option Meta → List Action → Option Meta
new_meta old actions = or_else (last_said meta_said actions) old

-- ---- the rules, each with its answer where it is broken

-- the first action is no commitInfo
abbrev pub no_info : List Action → Option Broken
no_info (action.Info i ∷ _) = None
no_info _ = Some broken.NoInfo

-- there is no table yet, and the commit lacks a protocol or a metaData
abbrev pub no_meta : Option Meta → List Action → Option Broken
no_meta old actions =
    if is_none old && (is_none (last_said protocol_said actions) || is_none (last_said meta_said actions))
    then Some broken.NoMeta
    else None

-- the commit's time is not after the last one
abbrev pub not_after : Option ℤ → Option ℤ → Option Broken
not_after None _ = None
not_after (Some last) None = None
not_after (Some last) (Some time) = if int_lt last time then None else Some (broken.TimeNotAfter last)

abbrev pub time_not_after : Option ℤ → List Action → Option Broken
time_not_after last actions = not_after last (last_said time_said actions)

-- the commit's protocol breaks a rule of features
abbrev pub feature : List Action → Option Broken
feature actions = option_map broken.Feature (option_and_then faulty_feature (last_said protocol_said actions))

-- the commit's metaData does not turn in-commit timestamps on
abbrev pub timestamps_property : List ℕ
timestamps_property = codes "delta.enableInCommitTimestamps"

abbrev pub without_timestamps : Meta → Option Broken
without_timestamps m =
    if pairs_have m.configuration timestamps_property (codes "true") then None else Some (broken.Property timestamps_property)

abbrev pub property : List Action → Option Broken
property actions = option_and_then without_timestamps (last_said meta_said actions)

-- the schema of the commit's metaData speaks of invariants
abbrev pub with_invariants : Meta → Option Broken
with_invariants m = if contains_text (codes "delta.invariants") m.schema then Some broken.Invariants else None

abbrev pub invariants : List Action → Option Broken
invariants actions = option_and_then with_invariants (last_said meta_said actions)

-- the commit's metaData has other partition columns than the table
abbrev pub same_columns : Meta → Meta → Bool
same_columns old new = pointwise bytes_eq new.columns old.columns

abbrev pub other_columns : Option Meta → Option Meta → Option Broken
other_columns None _ = None
other_columns (Some old) None = None
other_columns (Some old) (Some new) = if same_columns old new then None else Some broken.Columns

abbrev pub columns : Option Meta → List Action → Option Broken
columns old actions = other_columns old (last_said meta_said actions)

-- a txn's number is not after the recorded one of its application
abbrev pub late_for : List ℕ → ℤ → Option ℤ → Option (List ℕ)
late_for app number None = None
late_for app number (Some recorded) = if int_lt recorded number then None else Some app

abbrev pub late_app : (List ℕ → Option ℤ) → Action → Option (List ℕ)
late_app number (action.Txn t) = late_for t.app t.number (number t.app)
late_app number _ = None

abbrev pub recorded : (List ℕ → Option ℤ) → List ℕ → Option Broken
recorded number app = option_map (broken.TxnNotAfter app) (number app)

abbrev pub txn_not_after : (List ℕ → Option ℤ) → List Action → Option Broken
txn_not_after number actions = option_and_then (recorded number) (least (filter_map (late_app number) actions))

-- what names a file: its path, and the unique id of its deletion vector, where it has one
abbrev pub at_file : (List ℕ → Option (List ℕ) → Broken) → File → Broken
at_file rule file = rule file.path file.id

-- a removed file is not live
abbrev pub not_live_file : (File → Option Add) → Action → Option File
not_live_file live (action.Remove r) = if is_none (live (file_of_remove r)) then Some (file_of_remove r) else None
not_live_file live _ = None

abbrev pub not_live : (File → Option Add) → List Action → Option Broken
not_live live actions = option_map (at_file broken.NotLive) (least_file (filter_map (not_live_file live) actions))

-- a feature that readers, or writers, are told of
abbrev pub readers_have : List ℕ → Option Protocol → Bool
readers_have name None = false
readers_have name (Some p) = names_have (listed p.reader_features) name

abbrev pub writers_have : List ℕ → Option Protocol → Bool
writers_have name None = false
writers_have name (Some p) = names_have (listed p.writer_features) name

abbrev pub has_property : List ℕ → Option Meta → Bool
has_property name None = false
has_property name (Some m) = pairs_have m.configuration name (codes "true")

-- the table is append-only with the commit, and a remove changes data
abbrev pub is_append_only : Option Protocol → Option Meta → Bool
is_append_only protocol meta = writers_have (codes "appendOnly") protocol && has_property (codes "delta.appendOnly") meta

abbrev pub changing_file : Action → Option File
changing_file (action.Remove r) = if r.change then Some (file_of_remove r) else None
changing_file _ = None

abbrev pub append_only : Option Protocol → Option Meta → List Action → Option Broken
append_only protocol meta actions =
    if is_append_only protocol meta then option_map (at_file broken.AppendOnly) (least_file (filter_map changing_file actions)) else None

-- the names of an add's partition values are not exactly the new partition columns
abbrev pub columns_of : Option Meta → List (List ℕ)
columns_of None = []
columns_of (Some m) = m.columns

abbrev pub other_partition : List (List ℕ) → Action → Option File
other_partition columns (action.Add a) = if pairs_are_of a.values columns then None else Some (file_of_add a)
other_partition columns _ = None

abbrev pub partition : Option Meta → List Action → Option Broken
partition meta actions = option_map (at_file broken.Partition) (least_file (filter_map (other_partition (columns_of meta)) actions))

-- an added file has a deletion vector, of which the new protocol does not tell readers
abbrev pub marked_file : Action → Option File
marked_file (action.Add a) = if is_some a.vector then Some (file_of_add a) else None
marked_file _ = None

abbrev pub untold_vector : Option Protocol → List Action → Option Broken
untold_vector protocol actions =
    if readers_have (codes "deletionVectors") protocol then None else option_map (at_file broken.Vector) (least_file (filter_map marked_file actions))

-- the commit has metadata of a domain, of which the new protocol does not tell writers
abbrev pub domain_named : Action → Option (List ℕ)
domain_named (action.Domain d) = Some d.domain
domain_named _ = None

abbrev pub untold_domain : Option Protocol → List Action → Option Broken
untold_domain protocol actions =
    if writers_have (codes "domainMetadata") protocol then None else option_map broken.Domain (least (filter_map domain_named actions))

-- ---- the first broken rule, in their order

abbrev pub broken_start : Before → List Action → Option Broken
broken_start table actions =
    or_else (no_info actions) (or_else (no_meta table.meta actions) (time_not_after table.time actions))

abbrev pub broken_metadata : Before → List Action → Option Broken
broken_metadata table actions =
    or_else (feature actions) (or_else (property actions) (or_else (invariants actions) (columns table.meta actions)))

-- those on what the new protocol and the new metadata allow
abbrev pub broken_contents : Option Protocol → Option Meta → List Action → Option Broken
broken_contents protocol meta actions =
    or_else (append_only protocol meta actions)
    (or_else (partition meta actions)
    (or_else (untold_vector protocol actions)
    (untold_domain protocol actions)))

abbrev pub broken_files : Before → List Action → Option Broken
broken_files table actions =
    or_else (txn_not_after table.number actions)
    (or_else (not_live table.live actions)
    (broken_contents (new_protocol table.protocol actions) (new_meta table.meta actions) actions))

abbrev pub broken_by : Before → List Action → Option Broken
broken_by table actions =
    or_else (broken_start table actions) (or_else (broken_metadata table actions) (broken_files table actions))

-- the first rule that a commit breaks as the next one of a log, if it breaks any
abbrev pub first_broken : Log → List Action → Option Broken
first_broken log actions = broken_by (after log) actions

-- ---- what a check tells

-- the rule that an error names; want of memory names none
abbrev pub told : Broken → Option Broken
told broken.Memory = None
told b = Some b

abbrev pub TellsOf : Option Broken → Option Broken → Type 0
TellsOf None found = Unit {0}
TellsOf (Some b) found = found ≡ Some b

-- a check passes exactly where no rule is broken, and names the first one that is
abbrev pub Tells : Result Unit Broken → Option Broken → Type 0
Tells (Ok _) found = found ≡ None
Tells (Err b) found = TellsOf (told b) found
