-- Which actions have fields that a reader accepts: no number below 0 where there may be none, no empty path, no domain without a name,
-- names of pairs in order.
use Rattle.std.specs.Prelude.{ℕ, ℤ, pos, int_lt, ◌&&◌, Bool, true, false, not, List, [], ◌∷◌, is_some}
use Rattle.std.specs.Cmp.Lexicographic.{slice_cmp}
use Rattle.std.specs.List.{list_all}
use Rattle.std.specs.Option.{option_map_or}
use Rattle.std.specs.Ordering.{nat_cmp, is_lt}
use Rattle.action_types.specs.declared.actions.Action.{Action}
use Rattle.action_types.specs.declared.actions.Action.TheVariants as action
use Rattle.action_types.specs.declared.actions.Meta.{Meta}
use Rattle.action_types.specs.declared.actions.Domain.{Domain}
use Rattle.action_types.specs.declared.actions.Vector.{Vector}
use Rattle.action_types.specs.declared.actions.Remove.{Remove}
use Rattle.action_types.specs.declared.actions.Add.{Add}
use Rattle.action_fields.specs.Types.{Pair}

abbrev pub is_from_zero : ℤ → Bool
is_from_zero z = not (int_lt z (pos 0))

abbrev pub is_not_empty : List ℕ → Bool
is_not_empty [] = false
is_not_empty (b ∷ bs) = true

-- each name is below the next in byte order, so each stands once
abbrev pub are_in_order : List Pair → Bool
are_in_order [] = true
are_in_order (p ∷ []) = true
are_in_order (p ∷ q ∷ ps) = is_lt (slice_cmp nat_cmp p.0 q.0) && are_in_order (q ∷ ps)

-- in order, and none has a null
abbrev pub are_texts : List Pair → Bool
are_texts ps = are_in_order ps && list_all (λ p. is_some p.1) ps

abbrev pub is_valid_meta : Meta → Bool
is_valid_meta a = are_texts a.configuration && are_texts a.format.options

abbrev pub is_valid_vector : Vector → Bool
is_valid_vector v = is_from_zero v.cardinality && option_map_or is_from_zero v.offset true && is_from_zero v.size

abbrev pub is_valid_domain : Domain → Bool
is_valid_domain a = is_not_empty a.domain

abbrev pub is_valid_remove : Remove → Bool
is_valid_remove a =
    option_map_or are_in_order a.values true && is_not_empty a.path && option_map_or is_from_zero a.size true && option_map_or is_valid_vector a.vector true

abbrev pub is_valid_add : Add → Bool
is_valid_add a =
    are_in_order a.values && is_not_empty a.path && is_from_zero a.size && option_map_or are_in_order a.tags true && option_map_or is_valid_vector a.vector true

unfoldable pub has_valid_fields : Action → Bool
has_valid_fields (action.Info a) = is_from_zero a.time
has_valid_fields (action.Protocol a) = true
has_valid_fields (action.Meta a) = is_valid_meta a
has_valid_fields (action.Txn a) = true
has_valid_fields (action.Domain a) = is_valid_domain a
has_valid_fields (action.Remove a) = is_valid_remove a
has_valid_fields (action.Add a) = is_valid_add a
