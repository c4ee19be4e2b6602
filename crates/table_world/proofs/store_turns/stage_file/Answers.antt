use Rattle.std.proofs.Common.{refl}
use Rattle.table_world.proofs.StoreTurns.{text_of, put_done, put_there, put_failed}
use Rattle.table_world.proofs.store_turns.stage_file.Goals as goal
use Rattle.std.proofs.Common.{inl}

pub returns-in-Ok-Done-clause-turn : goal.returns-in-Ok-Done-clause-turn
returns-in-Ok-Done-clause-turn g c = λ cat first le free.
    let put = put_done cat _ _ _ _ first _ _ _ _ (text_of _ c.text.result c.unwrap-text.result c.as_str.result.now c.text.ensures.value c.text.ensures.reads_back c.unwrap-text.ensures c.as_str.ensures.value) (rw c.in-Ok-Done.field-0-is at c.in-Ok-Done.ensures.told) c.in-Ok-Done.ensures.counts in
    record { absent = put.absent; unratified = free; done = put.done }

pub returns-in-Ok-There-clause-turn : goal.returns-in-Ok-There-clause-turn
returns-in-Ok-There-clause-turn g c = λ cat first le free.
    let there = put_there cat _ _ _ _ first _ _ _ (text_of _ c.text.result c.unwrap-text.result c.as_str.result.now c.text.ensures.value c.text.ensures.reads_back c.unwrap-text.ensures c.as_str.ensures.value) (rw c.in-Ok-There.field-0-is at c.in-Ok-There.ensures.told) c.in-Ok-There.ensures.counts in
    record { taken = λ tells. inl (there.there tells); same = there.same }

pub returns-in-Err-Failed-clause-turn : goal.returns-in-Err-Failed-clause-turn
returns-in-Err-Failed-clause-turn g c = λ cat first le free. (
  refl,
  record {
    unratified = free;
    doubt = put_failed cat _ _ _ _ first _ _ _ _ (text_of _ c.text.result c.unwrap-text.result c.as_str.result.now c.text.ensures.value c.text.ensures.reads_back c.unwrap-text.ensures c.as_str.ensures.value) le (rw c.in-Err-Failed.field-0-is at c.in-Err-Failed.ensures.told) (rw c.in-Err-Failed.field-0-is at c.in-Err-Failed.ensures.counts).0;
  },
)
