-- The conflict of an intended write with a commit that was ratified before it (after the conflicts that
-- Delta documents for concurrent writes; their order, levels and keys are this project's).
use Rattle.std.specs.Prelude.{◌≡◌, ℕ, ◌+◌, List, [], ◌∷◌, ◌++◌, ◌&&◌, ◌||◌, Bool, true, false, Option, Some, None, if◌then◌else◌, option_map, is_some, length, All, map, Vec}
use Rattle.std.specs.List.{list_any, filter_map}
use Rattle.std.specs.Str.{bytes_eq}
use Rattle.action_types.specs.declared.actions.Action.{Action}
use Rattle.action_types.specs.declared.actions.Action.TheVariants as action
use Rattle.action_types.specs.declared.actions.Add.{Add}
use Rattle.action_types.specs.declared.actions.Domain.{Domain}
use Rattle.action_types.specs.declared.actions.Remove.{Remove}
use Rattle.action_types.specs.Files.{File, file_of_add, file_of_remove, same_file, id_of}
use Rattle.least_names.specs.Least.{least, least_file}
use Rattle.reconcile.specs.Replay.{Log, or_else, live_at}
use Rattle.conflict_rules.specs.declared.intent.Intent.{Intent}
use Rattle.conflict_rules.specs.declared.intent.Level.{Level}
use Rattle.conflict_rules.specs.declared.intent.Level.TheVariants.{Serializable, WriteSerializable}
use Rattle.conflict_rules.specs.declared.intent.Reads.{Reads}
use Rattle.conflict_rules.specs.declared.intent.Reads.TheVariants as reads
use Rattle.conflict_rules.specs.declared.clash.Rule.{Rule}
use Rattle.conflict_rules.specs.declared.clash.Rule.TheVariants as rule
use Rattle.conflict_rules.specs.declared.clash.Clash.{Clash}
use Rattle.conflict_rules.specs.declared.clash.Lowest.{Lowest}
use Rattle.std.specs.declared.alloc.Global.{Global}

-- a rule, the key at which it holds (an application, a path, a domain, or the empty text), and the unique id where the key is a file with
-- a deletion vector
abbrev pub Said : Type 0
Said = Rule × List ℕ × Option (List ℕ)

abbrev pub said : Clash → Said
said clash = (clash.rule, clash.key.now, id_of clash.vector)

abbrev pub at_key : Rule → List ℕ → Said
at_key named key = (named, key, None)

abbrev pub at_file : Rule → File → Said
at_file named file = (named, file.path, file.id)

-- ---- the winner changes the protocol, or the metadata

abbrev pub is_protocol : Action → Bool
is_protocol (action.Protocol p) = true
is_protocol _ = false

abbrev pub by_protocol : List Action → Option Said
by_protocol winner = if list_any is_protocol winner then Some (at_key rule.Protocol []) else None

abbrev pub is_meta : Action → Bool
is_meta (action.Meta m) = true
is_meta _ = false

abbrev pub by_metadata : List Action → Option Said
by_metadata winner = if list_any is_meta winner then Some (at_key rule.Metadata []) else None

-- ---- the winner is of the same application

abbrev pub is_txn_of : List ℕ → Action → Bool
is_txn_of app (action.Txn t) = bytes_eq t.app app
is_txn_of app _ = false

abbrev pub by_transaction : List ℕ → List Action → Option Said
by_transaction app winner = if list_any (is_txn_of app) winner then Some (at_key rule.Transaction app) else None

-- ---- the winner removes a file that the intent removes

abbrev pub is_removed : List Remove → File → Bool
is_removed removes file = list_any (λ own. same_file file (file_of_remove own)) removes

abbrev pub removed_twice : List Remove → Action → Option File
removed_twice removes (action.Remove r) = if is_removed removes (file_of_remove r) then Some (file_of_remove r) else None
removed_twice removes _ = None

abbrev pub by_delete_delete : List Remove → List Action → Option Said
by_delete_delete removes winner = option_map (at_file rule.DeleteDelete) (least_file (filter_map (removed_twice removes) winner))

-- ---- the winner removes a file that the intent read: one of a path that it read, under any deletion vector, or, where it read all, one that
-- is live at the base

abbrev pub is_read : Reads → (File → Option Add) → Remove → Bool
is_read reads.None live r = false
is_read reads.All live r = is_some (live (file_of_remove r))
is_read (reads.Paths paths) live r = list_any (λ path. bytes_eq path r.path) paths

abbrev pub read_file : Reads → (File → Option Add) → Action → Option File
read_file read live (action.Remove r) = if is_read read live r then Some (file_of_remove r) else None
read_file read live _ = None

abbrev pub by_delete_read : Reads → (File → Option Add) → List Action → Option Said
by_delete_read read live winner = option_map (at_file rule.DeleteRead) (least_file (filter_map (read_file read live) winner))

-- ---- the winner adds data to a table that the intent read whole

abbrev pub is_remove : Action → Bool
is_remove (action.Remove r) = true
is_remove _ = false

abbrev pub reads_all : Reads → Bool
reads_all reads.All = true
reads_all _ = false

abbrev pub is_serializable : Level → Bool
is_serializable Serializable = true
is_serializable WriteSerializable = false

abbrev pub minds_appends : Level → Reads → List Action → Bool
minds_appends level read winner = reads_all read && (is_serializable level || list_any is_remove winner)

abbrev pub new_file : Action → Option File
new_file (action.Add a) = if a.change then Some (file_of_add a) else None
new_file _ = None

abbrev pub by_append : Level → Reads → List Action → Option Said
by_append level read winner =
    if minds_appends level read winner then option_map (at_file rule.Append) (least_file (filter_map new_file winner)) else None

-- ---- the winner has metadata of a domain of which the intent has some

abbrev pub has_domain : List Domain → List ℕ → Bool
has_domain domains name = list_any (λ own. bytes_eq own.domain name) domains

abbrev pub domain_twice : List Domain → Action → Option (List ℕ)
domain_twice domains (action.Domain d) = if has_domain domains d.domain then Some d.domain else None
domain_twice domains _ = None

abbrev pub by_domain : List Domain → List Action → Option Said
by_domain domains winner = option_map (at_key rule.Domain) (least (filter_map (domain_twice domains) winner))

-- ---- the first rule that holds, in their order

-- what the winner says of the table and of applications
abbrev pub conflicts_of_table : Intent → List Action → Option Said
conflicts_of_table intent winner =
    or_else (by_protocol winner) (or_else (by_metadata winner) (by_transaction intent.app winner))

-- what it does to files, against the live files of the base
abbrev pub conflicts_of_reads : Intent → (File → Option Add) → List Action → Option Said
conflicts_of_reads intent live winner =
    or_else (by_delete_read intent.reads live winner) (by_append intent.level intent.reads winner)

abbrev pub conflicts_of_files : Intent → (File → Option Add) → List Action → Option Said
conflicts_of_files intent live winner =
    or_else (by_delete_delete intent.removes winner) (conflicts_of_reads intent live winner)

abbrev pub conflict_by : Intent → (File → Option Add) → List Action → Option Said
conflict_by intent live winner =
    or_else (conflicts_of_table intent winner) (or_else (conflicts_of_files intent live winner) (by_domain intent.domains winner))

abbrev pub live_files : Log → File → Option Add
live_files base file = live_at file base

-- the conflict of an intent with one winner, where the base is a list of commits
abbrev pub conflict_with : Intent → Log → List Action → Option Said
conflict_with intent base winner = conflict_by intent (live_files base) winner

-- the first of the winners, the commits from this version on, that conflicts
abbrev pub first_of : (List Action → Option Said) → ℕ → Log → Option (ℕ × Said)
first_of conflict version [] = None
first_of conflict version (winner ∷ winners) =
    or_else (option_map (λ clash. (version, clash)) (conflict winner)) (first_of conflict (version + 1) winners)

-- the first conflict of an intent with the winners: the lowest version that conflicts, and its conflict
abbrev pub first_conflict : Intent → Log → ℕ → Log → Option (ℕ × Said)
first_conflict intent base version winners = first_of (conflict_with intent base) version winners

-- a winner that conflicts, and none before it does
pub record IsLowest (conflict : List Action → Option Said) (version : ℕ) (winners : Log) (found : ℕ × Said) : Type 0 where
  pub front : Log
  pub winner : List Action
  pub back : Log
  pub place : winners ≡ front ++ winner ∷ back
  pub named : found.0 ≡ version + length front
  pub clashes : conflict winner ≡ Some found.1
  pub none_before : All (λ other. conflict other ≡ None) front

-- the place of a winner, with the conflict
abbrev pub placed : Lowest → ℕ × Said
placed lowest = (lowest.place, said lowest.clash)

-- the winners as lists of actions
abbrev pub commits_of : List (Vec Action Global) → Log
commits_of winners = map (λ winner. winner.items) winners
