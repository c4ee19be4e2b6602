-- In-commit timestamps, as the Delta protocol has them: every commit has a time, in milliseconds since 1970, and the times of a
-- table rise from version to version. So the list of the times of a table has the time of version v at place v.
use Rattle.std.specs.Prelude.{ℕ, suc, ◌<◌, ◌-◌, ◌^◌, ℤ, pos, ◌+ℤ◌, ◌≤ℤ◌, ◌<ℤ◌, int_lt, int_le, List, [], ◌∷◌, length, Option, Some, None, if◌then◌else◌, slice_index_or}
use Rattle.std.specs.List.{AllPairs, All}
use Rattle.std.specs.Int.{int_max}
use Rattle.std.specs.Option.{option_map, MatchOption}

-- the last instant that a time of 64 bits can name
abbrev pub end_of_time : ℤ
end_of_time = pos (2 ^ 63 - 1)

-- The time of the next commit: the larger of the clock's reading and one after the last commit's time. The first commit has the
-- clock's reading. After a commit at the end of time there is none.
abbrev pub next_time : Option ℤ → ℤ → Option ℤ
next_time None now = Some now
next_time (Some last) now = if int_lt last end_of_time then Some (int_max now (last +ℤ pos 1)) else None

-- each time is before every later one
abbrev pub IsRising : List ℤ → Type 0
IsRising times = AllPairs (λ earlier later. earlier <ℤ later) times

-- the first value, and where there is none the second
abbrev pub or_else : Option ℕ → Option ℕ → Option ℕ
or_else None other = other
or_else (Some v) other = Some v

-- the version at a time: the greatest version whose time is at most that, if any
abbrev pub version_at : List ℤ → ℤ → Option ℕ
version_at [] t = None
version_at (x ∷ xs) t = or_else (option_map suc (version_at xs t)) (if int_le x t then Some 0 else None)

-- v is the greatest version whose time is at most t
pub record IsLatestAt (times : List ℤ) (t : ℤ) (v : ℕ) : Type 0 where
  pub is_version : v < length times
  pub at_most : (d : ℤ) → slice_index_or times v d ≤ℤ t
  pub later_are_after : (w : ℕ) (d : ℤ) → v < w → w < length times → t <ℤ slice_index_or times w d

-- what `version_at` means: the greatest version whose time is at most t, and none exactly where every time is after t
abbrev pub IsVersionAt : List ℤ → ℤ → Option ℕ → Type 0
IsVersionAt times t found = MatchOption found (All (λ x. t <ℤ x) times) (IsLatestAt times t)
