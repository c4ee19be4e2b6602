-- The reading of a checkpoint's bytes, line by line, with the fault that is told.
use Rattle.std.specs.Prelude.{ℕ, ◌+◌, ◌==◌, Bool, ◌&&◌, List, [], ◌∷◌, ◌++◌, is_some, Option, Some, None, Result, Ok, Err, if◌then◌else◌}
use Rattle.std.specs.List.{list_any}
use Rattle.text_lines.specs.Lines.{cut}
use Rattle.action_types.specs.declared.actions.Action.{Action}
use Rattle.action_fields.specs.Canonical.{kind_of}
use Rattle.action_fields.specs.declared.kind.Kind.{Kind}
use Rattle.action_fields.specs.declared.kind.Kind.TheVariants as kind
use Rattle.action_json.specs.CheckpointLines.{checkpoint_line_of}
use Rattle.action_json.specs.Commit.{double_of, if_some, is_protocol, is_meta}
use Rattle.action_json.specs.declared.checkpoint_line.CheckpointLine.{CheckpointLine}
use Rattle.action_json.specs.declared.checkpoint_line.CheckpointLine.TheVariants as says
use Rattle.action_json.specs.declared.fault.Why.{Why}
use Rattle.action_json.specs.declared.fault.Why.TheVariants as why
use Rattle.checkpoint_v2.specs.declared.fault.BadCheckpoint.{BadCheckpoint}
use Rattle.checkpoint_v2.specs.declared.fault.BadCheckpoint.TheVariants as bad

-- the fault that an error tells; none for want of memory
abbrev pub told : BadCheckpoint → Option BadCheckpoint
told (bad.Line n w) = Some (bad.Line n w)
told (bad.Sidecar n) = Some (bad.Sidecar n)
told bad.NoMetadata = Some bad.NoMetadata
told (bad.WrongVersion v) = Some (bad.WrongVersion v)
told bad.NoState = Some bad.NoState
told bad.Memory = None

abbrev pub Read : Type 0
Read = Result (List Action) BadCheckpoint

abbrev pub unless_double : ℕ → Kind → Option (List ℕ) → Read → Read
unless_double n k None rest = rest
unless_double n k (Some key) rest = Err (bad.Line n (why.Double k key))

-- line n, after a version and the actions `done`
abbrev pub after_line : ℕ → Option ℕ → List Action → (Option ℕ → List Action → Read) → Result CheckpointLine Why → Read
after_line n version done rest (Ok says.Blank) = rest version done
after_line n version done rest (Ok says.Unread) = rest version done
after_line n version done rest (Ok (says.Says a)) = unless_double n (kind_of a) (double_of done a) (rest version (done ++ a ∷ []))
after_line n version done rest (Ok (says.Version v)) = unless_double n kind.CheckpointMetadata (if_some (is_some version) []) (rest (Some v) done)
after_line n version done rest (Ok says.Sidecar) = Err (bad.Sidecar n)
after_line n version done rest (Err w) = Err (bad.Line n w)

-- a protocol and a metaData are among them
abbrev pub has_state : List Action → Bool
has_state actions = list_any is_protocol actions && list_any is_meta actions

-- all lines were read: the version that was found, if one was, and the actions
abbrev pub checked : ℕ → Option ℕ → List Action → Read
checked wanted None done = Err bad.NoMetadata
checked wanted (Some v) done = if v == wanted then (if has_state done then Ok done else Err bad.NoState) else Err (bad.WrongVersion v)

-- lines from number n on, after a version and the actions `done`
unfoldable pub outcome_from : ℕ → ℕ → Option ℕ → List Action → List (List ℕ) → Read
outcome_from wanted n version done [] = checked wanted version done
outcome_from wanted n version done (l ∷ ls) = after_line n version done (λ v more. outcome_from wanted (n + 1) v more ls) (checkpoint_line_of l)

-- the actions of the checkpoint of the wanted version, or the fault
unfoldable pub outcome : ℕ → List ℕ → Read
outcome wanted bytes = outcome_from wanted 1 None [] (cut bytes)
