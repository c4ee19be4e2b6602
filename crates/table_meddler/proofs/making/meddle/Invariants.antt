use Rattle.std.proofs.Common.{drop}
use Rattle.table_model.specs.World.{WorldData}
use Rattle.table_meddler.specs.Others.{AreMade, AreCutShort}
use Rattle.table_meddler.specs.Among.{LeadsTo}
use Rattle.table_meddler.proofs.making.meddle.Given as goal

abbrev pub invariant-loop-foreign : goal.invariant-loop-foreign
invariant-loop-foreign g l = record {
  leads : LeadsTo l.fn.world l.world;
  made : (x : WorldData) → AreMade (drop l.foreign-index l.turns) l.number l.world x → AreMade l.turns l.number l.fn.world x;
  cut : (x : WorldData) → AreCutShort (drop l.foreign-index l.turns) l.number l.world x → AreCutShort l.turns l.number l.fn.world x;
}
