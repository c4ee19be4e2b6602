-- What the replies of a session say of a log that begins with what was seen.
use Rattle.std.specs.Prelude.{Bool, List, length, All}
use Rattle.table_model.specs.Log.{Commit}
use Rattle.answer_names.specs.Together.{AreWithin}
use Rattle.table_session.specs.Moments.{Moment, names_in}
use Rattle.table_session.specs.Standing.{Stands}

-- each reply is right of the log; fronts never fall, and none is above its length
pub record ToldOver (tells : Bool) (moments : List Moment) (log : List Commit) : Type 0 where
  pub stands : All (λ x. Stands tells x log) moments
  pub fronts : AreWithin (names_in moments) (length log)
