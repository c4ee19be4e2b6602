use Rattle.std.proofs.Common.{arith, refl}
use Rattle.table_meddler.proofs.ReadWorlds.{if_ok, read_refl, published_below}
use Rattle.table_meddler.proofs.reading.are_published.Goals as goal

pub returns-then-count-eq0-clause-read : goal.returns-then-count-eq0-clause-read
returns-then-count-eq0-clause-read g c = read_refl _ c.requires.consistent

pub returns-then-count-eq0-clause-tests : goal.returns-then-count-eq0-clause-tests
returns-then-count-eq0-clause-tests g c = λ t. (λ yes version less. absurd (omega (arith, c.if-count-eq0.true)), λ all. refl)

pub returns-clause-tests : goal.returns-clause-tests
returns-clause-tests g c = if_ok c.is_published.result _ _ (λ answer h. published_below _ c.args.count answer c.requires.consistent (omega (arith, c.if-count-eq0.false)) h) c.is_published.ensures.stands
