use Rattle.std.proofs.Common.{ℕ, List, subst}
use Rattle.table_model.specs.Turns.{PublishTurn}
use Rattle.table_meddler.specs.Others.{IsCommitOf}
use Rattle.table_meddler.specs.declared.foreign.Turn.TheVariants as turn
use Rattle.table_meddler.proofs.ReadWorlds.{leads_read, leads_trans}
use Rattle.table_meddler.proofs.Made.{refused_read, meets_made, commit_on, publish_ready, leads_publish}
use Rattle.table_meddler.proofs.making.publish.Goals as goal

pub publish-requires : goal.publish-requires
publish-requires g c = publish_ready _ _ c.args.version _ c.in-Ok-true.ensures.read (c.in-Ok-true.ensures.ratified c.in-Ok-true.field-0-test) (λ t. (c.in-Ok-true.ensures.tests t).0 c.in-Ok-true.field-0-test)

pub returns-clause-meets : goal.returns-clause-meets
returns-clause-meets g c =
    let P : List ℕ → Type 0 = λ t. PublishTurn c.args.version t c.may_publish.new.world c.publish.result c.publish.new.self in
    let Q : List ℕ → Type 0 = λ t. IsCommitOf c.may_publish.new.world c.args.version t in
    let turned = subst P c.as_slice-text.ensures.value c.publish.ensures.turn in
    meets_made (turn.Publish c.args.version c.args.bytes.now) _ c.publish.result _ _ c.made.ensures
    (λ answered. record { tested = c.may_publish.new.world; read = c.in-Ok-true.ensures.read; allowed = λ t. subst Q c.as_slice-text.ensures.value (commit_on _ _ c.args.version _ c.in-Ok-true.ensures.read ((c.in-Ok-true.ensures.tests t).0 c.in-Ok-true.field-0-test)); made = (c.publish.result, answered, turned) })
    (refused_read (λ r. PublishTurn c.args.version c.args.bytes.now.items c.may_publish.new.world r c.publish.new.self) _ _ _ _ (λ e. e) turned c.in-Ok-true.ensures.read c.publish.ensures.consistent)

pub returns-clause-leads : goal.returns-clause-leads
returns-clause-leads g c = leads_trans _ _ _ (leads_read _ _ c.in-Ok-true.ensures.read) (leads_publish c.args.version _ _ _ c.publish.result c.in-Ok-true.ensures.read.consistent c.ranges.version.fits (publish_ready _ _ c.args.version _ c.in-Ok-true.ensures.read (c.in-Ok-true.ensures.ratified c.in-Ok-true.field-0-test) (λ t. (c.in-Ok-true.ensures.tests t).0 c.in-Ok-true.field-0-test)) c.publish.ensures.turn c.publish.ensures.consistent)
