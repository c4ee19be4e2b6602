-- Answers one after another, from what was known before the first to what is known after the last.
use Rattle.std.specs.Prelude.{◌≡◌, Bool, List, [], ◌∷◌}
use Rattle.table_model.specs.Knowledge.{Knowledge, IsGrown}
use Rattle.answer_names.specs.Names.{Answer}
use Rattle.answer_names.specs.Gaining.{Gains}

pub record Follows (tells : Bool) (k : Knowledge) (x : Answer) : Type 0 where
  pub grows : IsGrown k x.after
  pub gains : Gains tells x.names k x.after

-- between two requests nothing changes
abbrev pub Chain : Bool → Knowledge → List Answer → Knowledge → Type 0
Chain tells k [] m = m ≡ k
Chain tells k (x ∷ xs) m = Follows tells k x × Chain tells x.after xs m
