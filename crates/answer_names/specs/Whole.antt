-- Answers of which the last may not have been written whole.
use Rattle.std.specs.Prelude.{◌≤◌, ◌+◌, List, length, All}
use Rattle.answer_names.specs.Names.{Names}
use Rattle.answer_names.specs.Together.{versions_in, FrontsWithin}

-- At most one was not written whole, so at most one version was ratified without its answer; that version is above all that the answers
-- that were written speak of.
pub record IsWhole (answers said unsaid : List Names) : Type 0 where
  pub few : length unsaid ≤ 1
  pub least : length (versions_in said) ≤ length (versions_in answers)
  pub most : length (versions_in answers) ≤ length (versions_in said) + 1
  pub above : All (λ version. FrontsWithin version said) (versions_in unsaid)
