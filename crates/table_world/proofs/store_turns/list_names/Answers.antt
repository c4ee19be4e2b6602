use Rattle.std.proofs.Common.{◌∙◌}
use Rattle.table_world.proofs.StoreTurns.{list_answer}
use Rattle.table_world.proofs.store_turns.list_names.Goals as goal

pub returns-clause-turn : goal.returns-clause-turn
returns-clause-turn g c = λ cat first le.
    list_answer cat _ _ _ _ first _ c.as_slice.result.now c.log_names_of.result (λ tells. c.as_slice.ensures.value ∙ c.in-Ok.ensures.told tells)
    c.log_names_of.ensures c.in-Ok.ensures.files c.in-Ok.ensures.counts
