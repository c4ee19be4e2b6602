-- The catalogue as plain data, and how its records are read as ratified versions.
use Rattle.std.specs.Prelude.{ℕ, ◌+◌, ◌^◌, ◌<◌, ◌≤◌, List, [], ◌∷◌, length, drop, slice_get, Option, option_map}
use Rattle.commit_catalog.specs.declared.Limits.{Limits}
use Rattle.commit_catalog.specs.declared.Entry.{Entry}
use Rattle.commit_catalog.specs.declared.Ratified.{Ratified}

-- A catalogue: the ratified commits in the order of their versions, from version 0; the number of versions
-- whose publication was reported; the limits; and how many records it holds without taking memory.
pub record CatalogData : Type 0 where
  pub records : List Entry
  pub reported : ℕ
  pub limits : Limits
  pub room : ℕ

-- each limit lets at least one pass
pub record AreLimits (limits : Limits) : Type 0 where
  pub versions : 1 ≤ limits.versions
  pub unpublished : 1 ≤ limits.unpublished
  pub attempts : 1 ≤ limits.attempts
  pub bytes : 1 ≤ limits.bytes

-- what is true of every catalogue
pub record IsWithinLimits (c : CatalogData) : Type 0 where
  pub limits : AreLimits c.limits
  pub reported : c.reported ≤ length c.records
  pub versions : length c.records ≤ c.limits.versions
  pub unpublished : length c.records ≤ c.reported + c.limits.unpublished
  pub count : length c.records < 2 ^ 64

-- the record of a version
abbrev pub ratified : ℕ → Entry → Ratified
ratified version e = record { version = version; id = e.id; time = e.time }

-- the ratified version of that number, if there is one
abbrev pub ratified_at : List Entry → ℕ → Option Ratified
ratified_at records version = option_map (ratified version) (slice_get records version)

-- the records as ratified versions, of which the first has this number
abbrev pub ratified_from : ℕ → List Entry → List Ratified
ratified_from version [] = []
ratified_from version (e ∷ es) = ratified version e ∷ ratified_from (version + 1) es

-- the ratified versions that are not yet reported as published
abbrev pub staged_of : List Entry → ℕ → List Ratified
staged_of records reported = ratified_from reported (drop reported records)
