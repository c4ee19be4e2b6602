use Rattle.std.proofs.Common.{sym, subst}
use Rattle.std.specs.Bool.{Decides}
use Rattle.std.specs.Option.{option_copied}
use Rattle.reconcile.specs.Within.{IsAmong}
use Rattle.reconcile.proofs.Within.{told_as, among_none}
use Rattle.reconcile.proofs.by_name.ByName.is_among.Goals as goal

pub returns-in-None : goal.returns-in-None
returns-in-None g c =
    subst (λ o. Decides c.is_within-in-None-2.result (IsAmong c.args.self.now (option_copied o))) (sym c.in-None.is)
    (told_as c.is_within-in-None-2.result c.is_within-in-None-2.ensures (among_none c.args.self.now c.new.result c.new.ensures))
