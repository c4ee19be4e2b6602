use Rattle.std.proofs.Common.{◌≡◌}
use Rattle.std.specs.Prelude.{Some}
use Rattle.std.specs.FinMap as fin
use Rattle.reconcile.specs.Named.{named}
use Rattle.reconcile.specs.Within.{IsWithin}
use Rattle.reconcile.proofs.Within.{Left}
use Rattle.reconcile.proofs.by_name.ByName.is_within.Given as goal

-- the entries that are left decide whether the other map has all
abbrev pub invariant-loop-name : goal.invariant-loop-name
invariant-loop-name g l = Left (IsWithin l.self l.other) (λ q x. fin.get l.other q ≡ Some x) (named l.name-iterator)
