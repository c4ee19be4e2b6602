-- What a commit text is, by its lines and those before them.
use Rattle.std.specs.Prelude.{◌≡◌, ℕ, ◌+◌, List, [], ◌∷◌, ◌++◌, flat_map, length, Option, Some, None, option_map, Result, Ok, Err, ⊤}
use Rattle.std.specs.List.{list_all}
use Rattle.text_lines.specs.Lines.{cut, is_blank}
use Rattle.action_types.specs.declared.actions.Action.{Action}
use Rattle.action_fields.specs.Canonical.{kind_of}
use Rattle.action_json.specs.Lines.{line_of}
use Rattle.action_json.specs.declared.line.Line.{Line}
use Rattle.action_json.specs.declared.line.Line.TheVariants.{Blank, Unread, Says}
use Rattle.action_json.specs.Commit.{double_of}
use Rattle.action_json.specs.declared.fault.Why.{Why}
use Rattle.action_json.specs.declared.fault.Why.TheVariants as why
use Rattle.std.specs.Prelude.{false}

abbrev pub said : Result Line Why → List Action
said (Ok Blank) = []
said (Ok Unread) = []
said (Ok (Says a)) = a ∷ []
said (Err w) = []

-- the actions of lines that have no flaw
abbrev pub actions_in : List (List ℕ) → List Action
actions_in lines = flat_map (λ l. said (line_of false l)) lines

-- the actions that the lines of the bytes say
abbrev pub actions_of : List ℕ → List Action
actions_of bytes = actions_in (cut bytes)

abbrev pub flaw_in : List Action → Result Line Why → Option Why
flaw_in before (Ok Blank) = None
flaw_in before (Ok Unread) = None
flaw_in before (Ok (Says a)) = option_map (λ key. why.Double (kind_of a) key) (double_of before a)
flaw_in before (Err w) = Some w

-- what is wrong with a line after the lines before it, which have no flaw
unfoldable pub flaw_after : List (List ℕ) → List ℕ → Option Why
flaw_after before l = flaw_in (actions_in before) (line_of (list_all is_blank before) l)

-- after these lines no later one has a flaw
unfoldable pub Faultless : List (List ℕ) → List (List ℕ) → Type 0
Faultless before [] = ⊤
Faultless before (l ∷ ls) = (flaw_after before l ≡ None) × Faultless (before ++ l ∷ []) ls

-- the bytes are a commit text of these actions
pub record IsCommitText (bytes : List ℕ) (actions : List Action) : Type 0 where
  pub faultless : Faultless [] (cut bytes)
  pub all : actions ≡ actions_of bytes

-- line n, from 1, is the first that has a flaw, and w is its first flaw
pub record IsFirstFlaw (bytes : List ℕ) (n : ℕ) (w : Why) : Type 0 where
  pub before : List (List ℕ)
  pub line : List ℕ
  pub after : List (List ℕ)
  pub lines : cut bytes ≡ before ++ line ∷ after
  pub number : n ≡ length before + 1
  pub faultless : Faultless [] before
  pub flaw : flaw_after before line ≡ Some w
