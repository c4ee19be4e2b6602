-- The replies of a session, from what the caller knew before it to what it knew after it.
use Rattle.std.specs.Prelude.{◌≡◌, Bool, List, [], ◌∷◌}
use Rattle.table_model.specs.Knowledge.{Knowledge, IsGrown}
use Rattle.answer_names.specs.Gaining.{Gains}
use Rattle.table_session.specs.Moments.{Moment}
use Rattle.table_session.specs.Naming.{named_by}
use Rattle.table_session.specs.Owning.{Own}

pub record IsRight (tells : Bool) (k : Knowledge) (x : Moment) : Type 0 where
  pub grows : IsGrown k x.after
  pub own : Own tells k x
  pub gains : Gains tells (named_by x.reply) k x.after

-- between two requests nothing changes
abbrev pub Run : Bool → Knowledge → List Moment → Knowledge → Type 0
Run tells k [] m = m ≡ k
Run tells k (x ∷ xs) m = IsRight tells k x × Run tells x.after xs m
