-- What a reading that has come to a line still gives, and the call's answer beside the reading.
use Rattle.std.specs.Prelude.{◌≡◌, ℕ, List, [], ◌∷◌, Result, Ok, Err}
use Rattle.action_types.specs.declared.actions.Action.{Action}
use Rattle.action_fields.specs.Gives.{Fails}
use Rattle.reconcile.specs.Standing.{StandsFor}
use Rattle.reconcile.specs.declared.state.State.{State}
use Rattle.checkpoint_v2.specs.Outcome.{Read, outcome_from, told}
use Rattle.checkpoint_v2.specs.declared.fault.BadCheckpoint.{BadCheckpoint}
use Rattle.checkpoint_v2.specs.declared.reading.Reading.{Reading}

abbrev pub left : ℕ → Reading → List (List ℕ) → Read
left wanted r lines = outcome_from wanted r.number r.version r.actions.items lines

-- the state stands for the actions that are read, as one commit; or the fault is theirs
abbrev pub Reads : Result State BadCheckpoint → Read → Type 0
Reads (Ok s) read = (actions : List Action) × (read ≡ Ok actions) × StandsFor s (actions ∷ [])
Reads (Err e) read = Fails (told e) read
