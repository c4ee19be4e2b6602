use Rattle.std.proofs.Common.{◌≡◌, [], take, drop}
use Rattle.action_json.specs.Commit.{are_new}
use Rattle.action_json.proofs.valid.are_new.Given as goal

abbrev pub invariant-loop-i : goal.invariant-loop-i
invariant-loop-i l = are_new (take l.i l.actions) (drop l.i l.actions) ≡ are_new [] l.actions
