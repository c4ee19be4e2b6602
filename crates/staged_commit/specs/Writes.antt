-- What a write composes, at a time and under the id of the staged commit (Delta protocol, "Actions"): the commitInfo, the protocol and the
-- metaData of a change, the txn, domains by name, removes by file, adds by file.
use Rattle.std.specs.Prelude.{◌≡◌, ℕ, ℤ, not, true, Bool, List, [], ◌∷◌, ◌++◌, map, Option, Some, None}
use Rattle.std.specs.List.{list_all, list_any}
use Rattle.std.specs.List.Sorted.{IsPermutation, IsStrictlySortedBy}
use Rattle.std.specs.Str.{bytes_eq}
use Rattle.std.specs.Option.{option_map_or}
use Rattle.std.specs.declared.cmp.Ordering.{Ordering}
use Rattle.action_types.specs.declared.actions.Action.{Action}
use Rattle.action_types.specs.declared.actions.Action.TheVariants as action
use Rattle.action_types.specs.declared.actions.Add.{Add}
use Rattle.action_types.specs.declared.actions.Domain.{Domain}
use Rattle.action_types.specs.declared.actions.Meta.{Meta}
use Rattle.action_types.specs.declared.actions.Remove.{Remove}
use Rattle.action_types.specs.Files.{file_cmp, file_of_add, file_of_remove, name_cmp, same_file}
use Rattle.action_fields.specs.Types.{Pair}
use Rattle.action_fields.specs.Valid.{are_texts, has_valid_fields, is_valid_meta}
use Rattle.conflict_rules.specs.declared.intent.Change.{Change}
use Rattle.conflict_rules.specs.declared.intent.Intent.{Intent}
use Rattle.reconcile.specs.Replay.{or_else}
use Rattle.staged_commit.specs.Changes.{changes_of, given_pairs}
use Rattle.staged_commit.specs.Composed.{info_for, txn_for}
use Rattle.staged_commit.specs.Sorting.{are_apart, sorted}

-- ---- the orders

abbrev pub adds_cmp : Add → Add → Ordering
adds_cmp a b = file_cmp (file_of_add a) (file_of_add b)

abbrev pub removes_cmp : Remove → Remove → Ordering
removes_cmp a b = file_cmp (file_of_remove a) (file_of_remove b)

abbrev pub domains_cmp : Domain → Domain → Ordering
domains_cmp a b = name_cmp a.domain b.domain

-- ---- the actions

-- a remove that does not say when it was made is made now
abbrev pub with_time : ℤ → Remove → Remove
with_time time remove = record remove { deleted = or_else remove.deleted (Some time) }

-- the domains and the files
abbrev pub contents_of : Intent → ℤ → List Action
contents_of intent time =
    map action.Domain (sorted domains_cmp intent.domains)
    ++ (map (λ r. action.Remove (with_time time r)) (sorted removes_cmp intent.removes) ++ map action.Add (sorted adds_cmp intent.adds))

-- the commitInfo, and the protocol and the metaData of a change
abbrev pub front_of : Option Meta → Intent → ℕ → ℤ → List Action
front_of old intent id time = action.Info (info_for id time) ∷ changes_of intent.change old

-- a write to a table that has this metadata
unfoldable pub composed_write : Option Meta → Intent → ℕ → ℤ → List Action
composed_write old intent id time = front_of old intent id time ++ action.Txn (txn_for intent) ∷ contents_of intent time

-- ---- what a request may ask for

abbrev pub properties_of : Option Change → List Pair
properties_of None = []
properties_of (Some change) = given_pairs change.configuration

abbrev pub same_add : Add → Add → Bool
same_add a b = same_file (file_of_add a) (file_of_add b)

abbrev pub same_remove : Remove → Remove → Bool
same_remove a b = same_file (file_of_remove a) (file_of_remove b)

abbrev pub same_domain : Domain → Domain → Bool
same_domain a b = bytes_eq a.domain b.domain

abbrev pub removes_have : List Remove → Add → Bool
removes_have removes a = list_any (λ r. same_file (file_of_remove r) (file_of_add a)) removes

-- Each action has fields that a commit may have. No file stands twice among the removes, none twice among the adds, and none that is
-- removed is added; no domain stands twice. The properties of the change are texts in byte order of their names.
pub record IsWriteRequest (intent : Intent) : Type 0 where
  pub valid_adds : list_all (λ a. has_valid_fields (action.Add a)) intent.adds ≡ true
  pub valid_removes : list_all (λ r. has_valid_fields (action.Remove r)) intent.removes ≡ true
  pub valid_domains : list_all (λ d. has_valid_fields (action.Domain d)) intent.domains ≡ true
  pub own_adds : are_apart same_add intent.adds ≡ true
  pub own_removes : are_apart same_remove intent.removes ≡ true
  pub not_removed : list_all (λ a. not (removes_have intent.removes a)) intent.adds ≡ true
  pub own_domains : are_apart same_domain intent.domains ≡ true
  pub properties : are_texts (properties_of intent.change) ≡ true

-- metadata that a commit may have, if there is any
abbrev pub has_valid_meta : Option Meta → Bool
has_valid_meta old = option_map_or is_valid_meta old true

-- what is composed is a commit: a request, of a table whose metadata a commit may have
pub record IsReadable (old : Option Meta) (intent : Intent) : Type 0 where
  pub request : IsWriteRequest intent
  pub meta : has_valid_meta old ≡ true

-- the same list, and each element is below the next
pub record IsInOrderBy {X : Type 0} (order : X → X → Ordering) (given list : List X) : Type 0 where
  pub same : IsPermutation given list
  pub rising : IsStrictlySortedBy order list

pub record HasContentsInOrder (intent : Intent) : Type 0 where
  pub domains : IsInOrderBy domains_cmp intent.domains (sorted domains_cmp intent.domains)
  pub removes : IsInOrderBy removes_cmp intent.removes (sorted removes_cmp intent.removes)
  pub adds : IsInOrderBy adds_cmp intent.adds (sorted adds_cmp intent.adds)
