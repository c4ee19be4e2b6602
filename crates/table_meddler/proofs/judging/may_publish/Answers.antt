use Rattle.table_meddler.proofs.ReadWorlds.{if_err, shown_later}
use Rattle.table_meddler.proofs.judging.may_publish.Goals as goal

pub returns-clause-fault : goal.returns-clause-fault
returns-clause-fault g c = if_err c.are_published.result _ _ (λ e h. shown_later _ _ _ e c.in_ok-ratified.ensures.read.tally h) c.are_published.ensures.fault
