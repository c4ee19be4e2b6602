-- What the keys of a reading know of the actions so far.
use Rattle.std.specs.Prelude.{◌≡◌, ℕ, Bool, List, Option}
use Rattle.std.specs.declared.cmp.Ordering.{Ordering}
use Rattle.std.specs.Ordering.{nat_cmp, ordering_then}
use Rattle.std.specs.Cmp.Lexicographic.{slice_cmp}
use Rattle.std.specs.Option.{option_cmp}
use Rattle.std.specs.List.{list_any}
use Rattle.std.specs.BTreeSet.{BTreeSet, contains, contains_text}
use Rattle.action_types.specs.Files.{File}
use Rattle.action_types.specs.declared.actions.Action.{Action}
use Rattle.action_json.specs.Commit.{mentions, is_of_app, is_of_domain, is_info, is_protocol, is_meta}
use Rattle.action_json.specs.declared.keys.Keys.{Keys}

-- a path, and the unique id of a deletion vector or none, as they are noted
abbrev pub Noted : Type 0
Noted = List ℕ × Option (List ℕ)

abbrev pub noted_cmp : Noted → Noted → Ordering
noted_cmp x y = ordering_then (slice_cmp nat_cmp x.0 y.0) (option_cmp (slice_cmp nat_cmp) x.1 y.1)

-- whether the set has the file
abbrev pub contains_file : BTreeSet Noted → File → Bool
contains_file files file = contains noted_cmp files (file.path, file.id)

pub record Knows (keys : Keys) (done : List Action) : Type 0 where
  pub info : keys.info ≡ list_any is_info done
  pub protocol : keys.protocol ≡ list_any is_protocol done
  pub meta : keys.meta ≡ list_any is_meta done
  pub apps : (q : List ℕ) → contains_text keys.apps q ≡ list_any (is_of_app q) done
  pub domains : (q : List ℕ) → contains_text keys.domains q ≡ list_any (is_of_domain q) done
  pub files : (q : File) → contains_file keys.files q ≡ list_any (mentions q) done
