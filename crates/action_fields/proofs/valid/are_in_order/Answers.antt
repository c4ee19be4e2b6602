use Rattle.std.proofs.Common.{◌≡◌, ◌<◌, List, [], ◌∷◌, length, true, refl, sym, ◌∙◌, arith}
use Rattle.action_fields.specs.Types.{Pair}
use Rattle.action_fields.specs.Valid.{are_in_order}
use Rattle.action_fields.proofs.valid.are_in_order.Goals as goal

-- fewer than two pairs are in order
short : (ps : List Pair) → length ps < 2 → are_in_order ps ≡ true
short [] h = refl
short (p ∷ []) h = refl
short (p ∷ q ∷ ps) h = absurd (omega arith)

pub returns : goal.returns
returns c = sym (short c.loop-rest.rest.now c.in_default.len_below) ∙ c.loop-rest.invariant
