use Rattle.std.proofs.Common.{refl}
use Rattle.table_world.proofs.StoreTurns.{text_of, clear_answer, delete_failed}
use Rattle.table_world.proofs.store_turns.clear_file.Goals as goal

pub returns-in-Ok-clause-turn : goal.returns-in-Ok-clause-turn
returns-in-Ok-clause-turn g c = λ cat first le.
    clear_answer cat _ _ _ _ first _ _ _ _ _ (text_of _ c.text.result c.unwrap-text.result c.as_str.result.now c.text.ensures.value c.text.ensures.reads_back c.unwrap-text.ensures c.as_str.ensures.value) c.in-Ok.ensures.told c.in-Ok.ensures.counts

pub returns-in-Err-Failed-clause-turn : goal.returns-in-Err-Failed-clause-turn
returns-in-Err-Failed-clause-turn g c = λ cat first le.
    (refl, delete_failed cat _ _ _ _ first _ _ _ (text_of _ c.text.result c.unwrap-text.result c.as_str.result.now c.text.ensures.value c.text.ensures.reads_back c.unwrap-text.ensures c.as_str.ensures.value) le (rw c.in-Err-Failed.field-0-is at c.in-Err-Failed.ensures.told) (rw c.in-Err-Failed.field-0-is at c.in-Err-Failed.ensures.counts).0)
