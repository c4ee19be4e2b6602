-- Why bytes are no checkpoint text of a version: the fault that is told of them.
use Rattle.std.specs.Prelude.{◌≡◌, ◌≢◌, ℕ, ◌+◌, false, length, List, [], ◌∷◌, ◌++◌, Option, Some, None, option_map, Result, Ok, Err, ⊤}
use Rattle.text_lines.specs.Lines.{cut}
use Rattle.action_fields.specs.Canonical.{kind_of}
use Rattle.action_fields.specs.declared.kind.Kind.TheVariants as kind
use Rattle.action_json.specs.CheckpointLines.{checkpoint_line_of}
use Rattle.action_json.specs.Commit.{double_of}
use Rattle.action_json.specs.declared.checkpoint_line.CheckpointLine.{CheckpointLine}
use Rattle.action_json.specs.declared.checkpoint_line.CheckpointLine.TheVariants as says
use Rattle.action_json.specs.declared.fault.Why.{Why}
use Rattle.action_json.specs.declared.fault.Why.TheVariants as why
use Rattle.checkpoint_v2.specs.Outcome.{has_state}
use Rattle.checkpoint_v2.specs.Text.{actions_in, actions_of, versions_in, versions_of}
use Rattle.checkpoint_v2.specs.declared.fault.BadCheckpoint.{BadCheckpoint}
use Rattle.checkpoint_v2.specs.declared.fault.BadCheckpoint.TheVariants as bad

-- a second checkpointMetadata is a double with the empty key
abbrev pub second_version : ℕ → List ℕ → Option BadCheckpoint
second_version n [] = None
second_version n (v ∷ vs) = Some (bad.Line n (why.Double kind.CheckpointMetadata []))

-- what is wrong with line n after the lines before it
abbrev pub fault_in : ℕ → List (List ℕ) → Result CheckpointLine Why → Option BadCheckpoint
fault_in n before (Ok says.Blank) = None
fault_in n before (Ok says.Unread) = None
fault_in n before (Ok (says.Says a)) = option_map (λ key. bad.Line n (why.Double (kind_of a) key)) (double_of (actions_in before) a)
fault_in n before (Ok (says.Version v)) = second_version n (versions_in before)
fault_in n before (Ok says.Sidecar) = Some (bad.Sidecar n)
fault_in n before (Err w) = Some (bad.Line n w)

-- what is wrong with a line, whose number counts those before it
unfoldable pub fault_after : List (List ℕ) → List ℕ → Option BadCheckpoint
fault_after before l = fault_in (length before + 1) before (checkpoint_line_of l)

-- after these lines no later one has a fault
unfoldable pub Faultless : List (List ℕ) → List (List ℕ) → Type 0
Faultless before [] = ⊤
Faultless before (l ∷ ls) = (fault_after before l ≡ None) × Faultless (before ++ l ∷ []) ls

-- a line of the bytes has this fault, and none before it has one
pub record IsFirstFault (bytes : List ℕ) (fault : BadCheckpoint) : Type 0 where
  pub before : List (List ℕ)
  pub line : List ℕ
  pub after : List (List ℕ)
  pub lines : cut bytes ≡ before ++ line ∷ after
  pub faultless : Faultless [] before
  pub is : fault_after before line ≡ Some fault

-- the fault of bytes that are no checkpoint text of the wanted version: that of the first faulty line; and where no line has one, that
-- no version is said, or another one, or that there is no protocol or no metaData
abbrev pub IsRefusedFor : ℕ → List ℕ → BadCheckpoint → Type 0
IsRefusedFor wanted bytes (bad.Line n w) = IsFirstFault bytes (bad.Line n w)
IsRefusedFor wanted bytes (bad.Sidecar n) = IsFirstFault bytes (bad.Sidecar n)
IsRefusedFor wanted bytes bad.NoMetadata = Faultless [] (cut bytes) × (versions_of bytes ≡ [])
IsRefusedFor wanted bytes (bad.WrongVersion v) = Faultless [] (cut bytes) × (versions_of bytes ≡ v ∷ []) × (v ≢ wanted)
IsRefusedFor wanted bytes bad.NoState = Faultless [] (cut bytes) × (versions_of bytes ≡ wanted ∷ []) × (has_state (actions_of bytes) ≡ false)
IsRefusedFor wanted bytes bad.Memory = ⊥
