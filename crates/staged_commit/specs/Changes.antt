-- What a change composes (Delta protocol, "Change Metadata" and "Protocol Evolution"): a protocol from the features that it has, and from
-- nothing else, and a metaData, the table's with what the change gives in the place of the old.
use Rattle.std.specs.Prelude.{ℕ, List, [], ◌∷◌, ◌++◌, fold, Option, Some, None, is_some, Bool, ◌||◌, if◌then◌else◌}
use Rattle.std.specs.Ordering.{match_ordering}
use Rattle.action_types.specs.declared.actions.Action.{Action}
use Rattle.action_types.specs.declared.actions.Action.TheVariants as action
use Rattle.action_types.specs.declared.actions.Meta.{Meta}
use Rattle.action_types.specs.Files.{name_cmp}
use Rattle.action_fields.specs.Types.{Pair}
use Rattle.conflict_rules.specs.declared.intent.Change.{Change}
use Rattle.reconcile.specs.Replay.{or_else}
use Rattle.staged_commit.specs.Composed.{protocol_for}

-- ---- pairs

-- pairs in byte order of their names, with one more in its place, or in the place of the old one of its name
abbrev pub put_pair : Pair → List Pair → List Pair
put_pair p [] = p ∷ []
put_pair p (q ∷ qs) = match_ordering (name_cmp p.0 q.0) (p ∷ q ∷ qs) (p ∷ qs) (q ∷ put_pair p qs)

-- with each of these
abbrev pub put_pairs : List Pair → List Pair → List Pair
put_pairs given old = fold (λ pairs p. put_pair p pairs) old given

abbrev pub given_pairs : Option (List Pair) → List Pair
given_pairs None = []
given_pairs (Some ps) = ps

-- ---- the protocol

-- none where the change has no features
abbrev pub protocols_of : Option (List (List ℕ)) → List Action
protocols_of None = []
protocols_of (Some features) = action.Protocol (protocol_for (Some features)) ∷ []

-- ---- the metaData

abbrev pub text_or : Option (List ℕ) → List ℕ → List ℕ
text_or None old = old
text_or (Some new) old = new

abbrev pub changed_meta : Change → Meta → Meta
changed_meta change old = record old {
  configuration = put_pairs (given_pairs change.configuration) old.configuration;
  description = or_else change.description old.description;
  name = or_else change.name old.name;
  schema = text_or change.schema old.schema;
}

-- the change has a member besides features; a configuration without pairs is one
abbrev pub changes_meta : Change → Bool
changes_meta change = is_some change.name || is_some change.description || is_some change.schema || is_some change.configuration

abbrev pub metas_from : Change → Option Meta → List Action
metas_from change None = []
metas_from change (Some old) = action.Meta (changed_meta change old) ∷ []

abbrev pub metas_of : Change → Option Meta → List Action
metas_of change old = if changes_meta change then metas_from change old else []

-- ---- both

abbrev pub changes_of : Option Change → Option Meta → List Action
changes_of None old = []
changes_of (Some change) old = protocols_of change.features ++ metas_of change old
