-- What the replies of a session say together: k was known before it, m after it.
use Rattle.std.specs.Prelude.{Bool, List, All}
use Rattle.table_model.specs.Knowledge.{Knowledge}
use Rattle.answer_names.specs.Together.{Together}
use Rattle.table_session.specs.Moments.{Moment, names_in}
use Rattle.table_session.specs.Standing.{Stands}

pub record Told (tells : Bool) (k : Knowledge) (moments : List Moment) (m : Knowledge) : Type 0 where
  -- each reply is right of the commits as they were seen last
  pub stands : All (λ x. Stands tells x m.seen) moments
  -- what the replies name is right together
  pub together : Together tells k (names_in moments) m
