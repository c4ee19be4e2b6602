use Rattle.table_session.proofs.NextLine.{hears_next}
use Rattle.table_session.proofs.hearing.hear.Goals as goal

pub returns-clause-heard : goal.returns-clause-heard
returns-clause-heard g c = λ bytes handed h. rw c.asked_of.ensures (hears_next _ _ _ _ _ bytes handed _ c.next.result _ h c.next.ensures.next)
