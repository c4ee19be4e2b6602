-- What composing a write answers, by what the rules look at of the table, and so after a log.
use Rattle.std.specs.Prelude.{◌≡◌, ℕ, ℤ, ◌<◌, ◌≤◌, List, length, Option, Some, None, Result, Ok, Err, ⊤}
use Rattle.action_types.specs.declared.actions.Action.{Action}
use Rattle.action_json.specs.Commit.{canonical_text}
use Rattle.commit_timestamps.specs.Times.{end_of_time, next_time}
use Rattle.conflict_rules.specs.declared.intent.Intent.{Intent}
use Rattle.reconcile.specs.Replay.{Log}
use Rattle.table_rules.specs.Broken.{Before, after, broken_by}
use Rattle.table_rules.specs.declared.broken.Broken.{Broken}
use Rattle.staged_commit.specs.Rules.{without_numbers, without_time}
use Rattle.staged_commit.specs.Writes.{composed_write}
use Rattle.staged_commit.specs.declared.commit.Composed.{Composed}
use Rattle.staged_commit.specs.declared.fault.ComposeError.{ComposeError}
use Rattle.staged_commit.specs.declared.fault.ComposeError.TheVariants as fault

-- ---- actions at a time

-- these actions at this time, and their canonical text, which is within the limit
pub record IsText (actions : List Action) (time : ℤ) (limit : ℕ) (made : Composed) : Type 0 where
  pub actions_are : made.actions.items ≡ actions
  pub time_is : made.time ≡ time
  pub text : made.bytes.items ≡ canonical_text actions
  pub within : length made.bytes.items ≤ limit

-- they break no rule besides
pub record IsTextOn (table : Before) (actions : List Action) (time : ℤ) (limit : ℕ) (made : Composed) : Type 0 where
  pub rules : broken_by table actions ≡ None
  pub made_of : IsText actions time limit made

-- ---- a write

-- what the write composes
abbrev pub write_on : Before → Intent → ℕ → ℤ → List Action
write_on table intent id time = composed_write table.meta intent id time

-- the first rule that it breaks, but for those on its time and on its number: under every id and at every time the same
abbrev pub BreaksFirst : Before → Intent → Option Broken → Type 0
BreaksFirst table intent found =
    (id : ℕ) (time : ℤ) → broken_by (without_numbers (without_time table)) (write_on table intent id time) ≡ found

-- what a check of the rules says of it
abbrev pub JudgesWrite : Before → Intent → ComposeError → Type 0
JudgesWrite table intent (fault.Broken b) = BreaksFirst table intent (Some b)
JudgesWrite table intent (fault.TimeEnd last) = ⊥
JudgesWrite table intent (fault.TooLarge bytes) = ⊥
JudgesWrite table intent fault.Memory = ⊤

-- ---- at a time

-- these are its actions, and it breaks no rule
pub record IsComposedAt (table : Before) (intent : Intent) (id : ℕ) (time : ℤ) (actions : List Action) : Type 0 where
  pub rules : BreaksFirst table intent None
  pub actions_are : actions ≡ write_on table intent id time

-- it breaks none, and its canonical text is within the limit
pub record IsWrittenAt (table : Before) (intent : Intent) (id : ℕ) (time : ℤ) (limit : ℕ) (made : Composed) : Type 0 where
  pub rules : BreaksFirst table intent None
  pub made_of : IsText (write_on table intent id time) time limit made

-- it breaks none, and its canonical text is longer than the limit
pub record IsLongAt (table : Before) (intent : Intent) (id : ℕ) (time : ℤ) (limit bytes : ℕ) : Type 0 where
  pub rules : BreaksFirst table intent None
  pub bytes_are : bytes ≡ length (canonical_text (write_on table intent id time))
  pub above : limit < bytes

abbrev pub RefusesAt : Before → Intent → ℕ → ℤ → ℕ → ComposeError → Type 0
RefusesAt table intent id time limit (fault.Broken b) = BreaksFirst table intent (Some b)
RefusesAt table intent id time limit (fault.TimeEnd last) = ⊥
RefusesAt table intent id time limit (fault.TooLarge bytes) = IsLongAt table intent id time limit bytes
RefusesAt table intent id time limit fault.Memory = ⊤

-- ---- at the next time

-- it breaks none, and at the next time its canonical text is within the limit
pub record IsWriteOn (table : Before) (intent : Intent) (id : ℕ) (now : ℤ) (limit : ℕ) (made : Composed) : Type 0 where
  pub next : next_time table.time now ≡ Some made.time
  pub written : IsWrittenAt table intent id made.time limit made

-- it breaks none, and there is no next time
pub record IsAtEndOn (table : Before) (intent : Intent) (last : ℤ) : Type 0 where
  pub rules : BreaksFirst table intent None
  pub last_time : table.time ≡ Some last
  pub at_the_end : last ≡ end_of_time

-- it breaks none, and at the next time its canonical text is longer than the limit
pub record IsTooLongOn (table : Before) (intent : Intent) (id : ℕ) (now : ℤ) (limit bytes : ℕ) : Type 0 where
  pub time : ℤ
  pub next : next_time table.time now ≡ Some time
  pub long : IsLongAt table intent id time limit bytes

-- what composing answers exactly; want of memory says nothing
abbrev pub Composes : Before → Intent → ℕ → ℤ → ℕ → Result Composed ComposeError → Type 0
Composes table intent id now limit (Ok made) = IsWriteOn table intent id now limit made
Composes table intent id now limit (Err (fault.Broken b)) = BreaksFirst table intent (Some b)
Composes table intent id now limit (Err (fault.TimeEnd last)) = IsAtEndOn table intent last
Composes table intent id now limit (Err (fault.TooLarge bytes)) = IsTooLongOn table intent id now limit bytes
Composes table intent id now limit (Err fault.Memory) = ⊤

-- ---- after further commits

-- after a log the write breaks no rule but for those on its time and on its number
abbrev pub KeepsRulesAfter : Log → Intent → Type 0
KeepsRulesAfter log intent = BreaksFirst (after log) intent None
