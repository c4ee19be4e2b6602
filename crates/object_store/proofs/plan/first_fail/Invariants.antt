use Rattle.std.proofs.Common.{◌≡◌, drop, find, ◌==◌}
use Rattle.object_store.proofs.plan.first_fail.Given as goal

abbrev pub invariant-loop-fail : goal.invariant-loop-fail
invariant-loop-fail l = find (λ f. f.call == l.call) (drop l.fail-index l.fails) ≡ find (λ f. f.call == l.call) l.fails
