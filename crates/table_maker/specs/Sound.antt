-- What is true of every script.
use Rattle.std.specs.Prelude.{ℕ, ◌≡◌, ◌≢◌, ◌+◌, List, [], ◌∷◌, ◌++◌, Some}
use Rattle.std.specs.List.{All}
use Rattle.table_maker.specs.Requests.{last_write, write_count}
use Rattle.table_maker.specs.declared.request.Write.TheVariants.{Add, Remove}
use Rattle.table_maker.specs.declared.request.Request.{Request}
use Rattle.table_maker.specs.declared.request.Request.TheVariants.{New, Again, Publish}

-- an earlier request adds the file, and none after that removes it
pub record IsAdded (before : List Request) (file : ℕ) : Type 0 where
  pub earlier : List Request
  pub size : ℕ
  pub number : ℕ
  pub later : List Request
  pub split : before ≡ earlier ++ New (Add file size number) ∷ later
  pub kept : All (λ r. (n : ℕ) → r ≢ New (Remove file n)) later

-- A request fits what stands before it: the new writes have the numbers 1, 2, 3 and so on, a remove names a file that was added
-- and not removed since, and what is asked for again is the last write.
abbrev pub Fits : List Request → Request → Type 0
Fits before (New (Add file size number)) = number ≡ write_count before + 1
Fits before (New (Remove file number)) = (number ≡ write_count before + 1) × IsAdded before file
Fits before (Again write) = last_write before ≡ Some write
Fits before Publish = Unit {0}

-- each request fits what stands before it
abbrev pub IsSoundAfter : List Request → List Request → Type 0
IsSoundAfter before [] = Unit {0}
IsSoundAfter before (r ∷ rs) = Fits before r × IsSoundAfter (before ++ r ∷ []) rs
