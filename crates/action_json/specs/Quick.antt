-- What the lines of a commit say where none has a flaw, but perhaps a double.
use Rattle.std.specs.Prelude.{◌≡◌, ℕ, List, [], ◌∷◌, ◌++◌, map, Option, Some, None, Result, Ok, Err}
use Rattle.action_types.specs.declared.actions.Action.{Action}
use Rattle.action_json.specs.Lines.{line_of}
use Rattle.action_json.specs.Commit.{is_nil}
use Rattle.action_json.specs.Digests.{digest_of}
use Rattle.action_json.specs.declared.line.Line.{Line}
use Rattle.action_json.specs.declared.line.Line.TheVariants.{Blank, Unread, Says}
use Rattle.action_json.specs.declared.fault.Why.{Why}
use Rattle.action_json.specs.declared.quick.Quick.{Quick}

-- a line after the actions `done`
abbrev pub said_after : List Action → (List Action → Option (List Action)) → Result Line Why → Option (List Action)
said_after done rest (Ok Blank) = rest done
said_after done rest (Ok Unread) = rest done
said_after done rest (Ok (Says a)) = rest (done ++ a ∷ [])
said_after done rest (Err w) = None

-- the actions `done` and those of the lines after them; none where a line has a flaw of its own
unfoldable pub said_from : List Action → List (List ℕ) → Option (List Action)
said_from done [] = Some done
said_from done (l ∷ ls) = said_after done (λ more. said_from more ls) (line_of (is_nil done) l)

-- what a quick reading that has come to a line still gives
abbrev pub quick_left : Quick → List (List ℕ) → Option (List Action)
quick_left q lines = said_from q.actions.items lines

-- each action has its digest
abbrev pub IsDigested : Quick → Type 0
IsDigested q = q.digests.items ≡ map digest_of q.actions.items
