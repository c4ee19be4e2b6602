-- The end of the lines.
use Rattle.std.proofs.Common.{◌≡◌, ℕ, List, [], ◌∷◌, length, ap, arith}
use Rattle.std.specs.Prelude.{Option}
use Rattle.text_lines.specs.Lines.{cut}
use Rattle.text_lines.proofs.Cutting.{cut-nil}
use Rattle.action_types.specs.declared.actions.Action.{Action}
use Rattle.checkpoint_v2.specs.Outcome.{checked, outcome_from}

-- where nothing is left, what was found is looked at
pub outcome_from-empty : (wanted n : ℕ) (version : Option ℕ) (done : List Action) (rest : List ℕ) → length rest ≡ 0 → outcome_from wanted n version done (cut rest) ≡ checked wanted version done
unfolding outcome_from
outcome_from-empty wanted n version done [] none = ap (outcome_from wanted n version done) cut-nil
outcome_from-empty wanted n version done (b ∷ l) none = absurd (omega arith)
