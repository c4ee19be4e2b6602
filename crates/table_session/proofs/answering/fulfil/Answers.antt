use Rattle.std.proofs.Common.{◌∙◌, ap, Ok}
use Rattle.table_session.proofs.Rights.{load_right}
use Rattle.table_session.proofs.Writings.{create_right, write_right}
use Rattle.table_model.specs.Knowledge.{Knowledge}
use Rattle.writer_txn.proofs.Naming.{apart_none, apart_at}
use Rattle.table_session.proofs.Takens.{takens_written, takens_loaded}
use Rattle.table_session.proofs.answering.fulfil.Goals as goal

pub returns-in-Create-clause-right : goal.returns-in-Create-clause-right
returns-in-Create-clause-right g c = λ line e.
    rw c.written.ensures (create_right _ _ _ c.in-Create.what c.create.result line _ _ c.create.ensures.stands c.create.ensures.now c.create.ensures.grows c.create.ensures.counts (e ∙ ap Ok c.in-Create.is))

pub returns-in-Write-clause-right : goal.returns-in-Write-clause-right
returns-in-Write-clause-right g c = λ line e.
    rw c.written-in-Write.ensures (write_right _ _ _ c.in-Write.intent c.write.result line _ _ c.write.ensures.stands c.write.ensures.now c.write.ensures.grows c.write.ensures.counts (e ∙ ap Ok c.in-Write.is))

pub returns-in-Load-clause-right : goal.returns-in-Load-clause-right
returns-in-Load-clause-right g c = λ line e.
    rw c.loaded.ensures (load_right _ _ _ c.load.result line _ _ c.load.ensures.loaded c.load.ensures.newest c.load.ensures.cause c.load.ensures.asked c.load.ensures.turns c.load.ensures.grows c.load.ensures.counts (e ∙ ap Ok c.in-Load.is))

pub returns-in-Create-clause-names : goal.returns-in-Create-clause-names
returns-in-Create-clause-names g c = λ t. rw c.written.ensures (apart_at _ _ _ _ _ _ _ (takens_written c.create.result) (c.create.ensures.names t))

pub returns-in-Write-clause-names : goal.returns-in-Write-clause-names
returns-in-Write-clause-names g c = λ t. rw c.written-in-Write.ensures (apart_at _ _ _ _ _ _ _ (takens_written c.write.result) (c.write.ensures.names t))

pub returns-in-Load-clause-names : goal.returns-in-Load-clause-names
returns-in-Load-clause-names g c = λ t.
    rw c.loaded.ensures (apart_at _ _ _ _ _ _ _ (takens_loaded c.load.result) (apart_none _ _ _ _ (ap (λ (x : Knowledge). x.put) c.load.ensures.turns.same) t))
