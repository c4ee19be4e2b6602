use Rattle.std.proofs.Common.{◌∙◌, ap, refl}
use Rattle.std.specs.FinMap as fin
use Rattle.reconcile.specs.Replay.{or_else}
use Rattle.reconcile.proofs.newest.under_names.Goals as goal

pub returns : goal.returns
returns c = record {
  txn_over = c.in_ok-lay.ensures;
  domain_over = λ name. c.in_ok-lay-2.ensures name ∙ ap (or_else (fin.get c.args.domains name)) (c.strike.ensures name);
  rest = refl;
}
