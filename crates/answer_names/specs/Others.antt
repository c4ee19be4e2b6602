-- What no answer tells where nobody else ratifies, or stages.
use Rattle.std.specs.Prelude.{◌≡◌, [], IsFalse}
use Rattle.answer_names.specs.Names.{Names}

-- it tells of no version that another ratified between the load of a write and its ratification
abbrev pub IsUncontested : Names → Type 0
IsUncontested a = IsFalse a.contested

-- it tells of no file that stood under the name of a commit that was to be staged
abbrev pub IsUntaken : Names → Type 0
IsUntaken a = a.takens ≡ []
