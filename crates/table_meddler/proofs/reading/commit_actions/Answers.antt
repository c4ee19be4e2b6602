use Rattle.std.proofs.Common.{◌∙◌}
use Rattle.table_meddler.proofs.ReadWorlds.{if_ok, actions_found, if_err, memory_shown}
use Rattle.table_meddler.proofs.reading.commit_actions.Goals as goal

pub returns-clause-actions : goal.returns-clause-actions
returns-clause-actions g c =
    let bytes = rw c.in-Some.is at c.in_ok-bytes.ensures.bytes in
    if_ok c.actions_in.result _ _ (λ found h t. actions_found c.args.world.now c.args.version c.as_slice.result.now found c.requires.consistent c.requires.ratified (c.as_slice.ensures.value ∙ bytes t) h t) c.actions_in.ensures.actions

pub returns-clause-fault : goal.returns-clause-fault
returns-clause-fault g c = if_err c.actions_in.result _ _ (λ e h. memory_shown _ _ e h) c.actions_in.ensures.memory
