-- The published files that a listing shows.
use Rattle.std.proofs.Common.{zero, suc, ◌≡◌, ◌<◌, ◌≤◌, ◌+◌, ℕ, List, length, get_or, ◌∙◌, arith, below_more}
use Rattle.std.specs.Prelude.{Contains}
use Rattle.table_model.specs.Learning.{ShowsPublished}
use Rattle.std.proofs.lemmas.List.{get_or_default}
use Rattle.log_names.specs.declared.LogName.{LogName}
use Rattle.log_names.specs.declared.LogName.TheVariants as name

-- one published file more
pub shown_more : (names : List LogName) (index count : ℕ) (d : LogName) → index < length names → get_or names index d ≡ name.Published count
    → ((version : ℕ) → version < count → Contains names (name.Published version))
    → (version : ℕ) → version < count + 1 → Contains names (name.Published version)
shown_more names index count d less found shown =
    below_more (λ (v : ℕ). Contains names (name.Published v)) count shown
    (index, less, get_or_default names index (name.Published count) d less ∙ found)

-- the published files that the listing shows are known to be published
pub listed_published : (names : List LogName) (shown published count : ℕ) → ShowsPublished names shown → shown ≤ published
    → ((version : ℕ) → version < count → Contains names (name.Published version)) → count ≤ published
listed_published names shown published zero shows known listed = omega arith
listed_published names shown published (suc count) shows known listed =
    let below : count < shown = (shows count).0 (listed count (omega arith)) in omega arith
