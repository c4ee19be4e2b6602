-- What contracts see of a `Halving`.
use Rattle.std.specs.Prelude.{ℕ, ◌+◌, ◌-◌, ◌/◌, ◌≤◌, ℤ, ◌≤ℤ◌, ◌<ℤ◌, List, [], ◌∷◌, ◌++◌, Option, Some, None, if◌then◌else◌, nat_lt}
use Rattle.std.specs.Option.{MatchOption}
use Rattle.commit_timestamps.specs.Search.{Search}
use Rattle.commit_timestamps.specs.Digits.{binary_digits}
use Rattle.commit_timestamps.specs.declared.halving.Answer.{Answer}
use Rattle.commit_timestamps.specs.declared.halving.Halving.TheInside.{Inside}

-- the least version that may still be after the time
abbrev pub low : Option Answer → ℕ
low None = 0
low (Some a) = a.version + 1

-- the least version that is known to be after the time, or the number of versions
abbrev pub high : ℕ → Option Answer → ℕ
high versions None = versions
high versions (Some a) = a.version

-- the version in the middle of those from l up and below h
abbrev pub middle : ℕ → ℕ → Option ℕ
middle l h = if nat_lt l h then Some (l + (h - l) / 2) else None

abbrev pub told : Option Answer → List (ℕ × ℤ)
told None = []
told (Some a) = (a.version, a.time) ∷ []

abbrev pub search_of : Inside → Search
search_of a = record {
  versions = a.len;
  time = a.time;
  answers = told a.before ++ told a.after;
  asks = middle (low a.before) (high a.len a.after);
  left = binary_digits (high a.len a.after - low a.before);
}

-- the answers stand on their sides of the time, in order, and below the number of versions
pub record IsNarrowed (a : Inside) : Type 0 where
  pub ordered : low a.before ≤ high a.len a.after
  pub within : high a.len a.after ≤ a.len
  pub is_before : MatchOption a.before (Unit {0}) (λ b. b.time ≤ℤ a.time)
  pub is_after : MatchOption a.after (Unit {0}) (λ b. a.time <ℤ b.time)
