-- The versions stay as many, and fewer answers are left each time.
use Rattle.std.proofs.Common.{◌≡◌}
use Rattle.replay_tests.proofs.times.search.Given as goal

abbrev pub invariant-loop-version : goal.invariant-loop-version
invariant-loop-version l = l.halving.versions ≡ l.len

abbrev pub decreases-loop-version : goal.decreases-loop-version
decreases-loop-version l = l.halving.left
