-- A search for the version at a time, which asks for the times of single versions.
use Rattle.std.specs.Prelude.{ℕ, ◌≡◌, ℤ, List, length, Option, Some}
use Rattle.std.specs.List.{All, slice_get}
use Rattle.commit_timestamps.specs.Times.{IsRising}

pub record Search : Type 0 where
  -- how many versions there are, from 0 up
  pub versions : ℕ
  -- the time whose version is looked for, in milliseconds
  pub time : ℤ
  -- the answers that the result rests on: versions, each with its time
  pub answers : List (ℕ × ℤ)
  -- the version whose time is asked for now; none once the result is known
  pub asks : Option ℕ
  -- at most so many answers are still asked for
  pub left : ℕ

-- the version v has the time t
abbrev pub HasTime : List ℤ → ℕ → ℤ → Type 0
HasTime times v t = slice_get times v ≡ Some t

-- The times may be those of the table that is searched: there are as many as versions, they rise, and they agree with the answers.
pub record Agrees (search : Search) (times : List ℤ) : Type 0 where
  pub versions : length times ≡ search.versions
  pub rising : IsRising times
  pub answers : All (λ (a : ℕ × ℤ). HasTime times a.0 a.1) search.answers
