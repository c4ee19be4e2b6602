-- What a reading that has come to a line still gives.
use Rattle.std.specs.Prelude.{ℕ, List, Result}
use Rattle.action_types.specs.declared.actions.Action.{Action}
use Rattle.action_json.specs.Commit.{Flaw, outcome_from}
use Rattle.action_json.specs.declared.reading.Reading.{Reading}

abbrev pub left : Reading → List (List ℕ) → Result (List Action) Flaw
left r lines = outcome_from r.number r.actions.items lines
