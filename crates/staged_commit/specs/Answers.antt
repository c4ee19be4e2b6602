-- What a call that composes answers, by what the rules look at of the table, and so after a log.
use Rattle.std.specs.Prelude.{◌≡◌, ℕ, ℤ, ◌<◌, ◌≤◌, List, length, Option, Some, None, Result, Ok, Err, ⊤}
use Rattle.action_types.specs.declared.actions.Action.{Action}
use Rattle.action_json.specs.Commit.{canonical_text, outcome}
use Rattle.commit_timestamps.specs.Times.{end_of_time, next_time}
use Rattle.conflict_rules.specs.declared.intent.Intent.{Intent}
use Rattle.reconcile.specs.Replay.{Log}
use Rattle.table_rules.specs.Broken.{Before, after, broken_by}
use Rattle.table_rules.specs.declared.broken.Broken.{Broken}
use Rattle.staged_commit.specs.Composed.{composed_append}
use Rattle.staged_commit.specs.Rules.{without_time}
use Rattle.staged_commit.specs.declared.commit.Composed.{Composed}
use Rattle.staged_commit.specs.declared.fault.ComposeError.{ComposeError}
use Rattle.staged_commit.specs.declared.fault.ComposeError.TheVariants as fault

-- ---- actions at a time

-- these actions at this time, and their canonical text, which is read back and is within the limit
pub record IsWritten (actions : List Action) (time : ℤ) (limit : ℕ) (made : Composed) : Type 0 where
  pub actions_are : made.actions.items ≡ actions
  pub time_is : made.time ≡ time
  pub text : made.bytes.items ≡ canonical_text actions
  pub reads_back : outcome made.bytes.items ≡ Ok actions
  pub within : length made.bytes.items ≤ limit

-- the text is longer than the limit
pub record IsLong (actions : List Action) (limit bytes : ℕ) : Type 0 where
  pub bytes_are : bytes ≡ length (canonical_text actions)
  pub above : limit < bytes

-- what an error of writing says
abbrev pub IsUnwritten : List Action → ℕ → ComposeError → Type 0
IsUnwritten actions limit (fault.Broken b) = ⊥
IsUnwritten actions limit (fault.TimeEnd last) = ⊥
IsUnwritten actions limit (fault.TooLarge bytes) = IsLong actions limit bytes
IsUnwritten actions limit fault.Memory = ⊤

-- what a check of rules says: it passes exactly where none is broken, and names the first one that is
abbrev pub IsJudged : Result Unit ComposeError → Option Broken → Type 0
IsJudged (Ok _) found = found ≡ None
IsJudged (Err (fault.Broken b)) found = found ≡ Some b
IsJudged (Err (fault.TimeEnd last)) found = ⊥
IsJudged (Err (fault.TooLarge bytes)) found = ⊥
IsJudged (Err fault.Memory) found = ⊤

-- ---- actions at a time, as the next commit

-- these actions at this time, which break no rule after the log, and their canonical text, which is read back and is within the limit
pub record IsComposedOn (table : Before) (actions : List Action) (time : ℤ) (limit : ℕ) (made : Composed) : Type 0 where
  pub actions_are : made.actions.items ≡ actions
  pub time_is : made.time ≡ time
  pub text : made.bytes.items ≡ canonical_text actions
  pub reads_back : outcome made.bytes.items ≡ Ok actions
  pub rules : broken_by table actions ≡ None
  pub within : length made.bytes.items ≤ limit

abbrev pub IsComposed : Log → List Action → ℤ → ℕ → Composed → Type 0
IsComposed log = IsComposedOn (after log)

-- no rule is broken, and the text is longer than the limit
pub record IsTooLargeOn (table : Before) (actions : List Action) (limit bytes : ℕ) : Type 0 where
  pub rules : broken_by table actions ≡ None
  pub bytes_are : bytes ≡ length (canonical_text actions)
  pub above : limit < bytes

abbrev pub IsTooLarge : Log → List Action → ℕ → ℕ → Type 0
IsTooLarge log = IsTooLargeOn (after log)

-- what an error says of them; there is no last time to come after
abbrev pub IsRefusedOn : Before → List Action → ℕ → ComposeError → Type 0
IsRefusedOn table actions limit (fault.Broken b) = broken_by table actions ≡ Some b
IsRefusedOn table actions limit (fault.TimeEnd last) = ⊥
IsRefusedOn table actions limit (fault.TooLarge bytes) = IsTooLargeOn table actions limit bytes
IsRefusedOn table actions limit fault.Memory = ⊤

abbrev pub IsRefused : Log → List Action → ℕ → ComposeError → Type 0
IsRefused log = IsRefusedOn (after log)

-- ---- an append, under an id and at a reading of the clock

-- the commit of the append, at the next time
pub record IsAppendedOn (table : Before) (intent : Intent) (id : ℕ) (now : ℤ) (limit : ℕ) (made : Composed) : Type 0 where
  pub next : next_time table.time now ≡ Some made.time
  pub composed : IsComposedOn table (composed_append intent id made.time) made.time limit made

abbrev pub IsAppended : Log → Intent → ℕ → ℤ → ℕ → Composed → Type 0
IsAppended log = IsAppendedOn (after log)

-- at no time does the commit break a rule but the one on its time
abbrev pub KeepsRules : Before → Intent → ℕ → Type 0
KeepsRules table intent id = (time : ℤ) → broken_by (without_time table) (composed_append intent id time) ≡ None

-- there is no next time, and no other rule is broken
pub record IsTimeEndOn (table : Before) (intent : Intent) (id : ℕ) (last : ℤ) : Type 0 where
  pub rules : KeepsRules table intent id
  pub last_time : table.time ≡ Some last
  pub at_the_end : last ≡ end_of_time

abbrev pub IsTimeEnd : Log → Intent → ℕ → ℤ → Type 0
IsTimeEnd log = IsTimeEndOn (after log)

-- at the next time no rule is broken, and the text is longer than the limit
pub record IsTooLargeNextOn (table : Before) (intent : Intent) (id : ℕ) (now : ℤ) (limit bytes : ℕ) : Type 0 where
  pub time : ℤ
  pub next : next_time table.time now ≡ Some time
  pub large : IsTooLargeOn table (composed_append intent id time) limit bytes

abbrev pub IsTooLargeNext : Log → Intent → ℕ → ℤ → ℕ → ℕ → Type 0
IsTooLargeNext log = IsTooLargeNextOn (after log)

-- what an error says of it; a broken rule is one at every time
abbrev pub IsAppendRefusedOn : Before → Intent → ℕ → ℤ → ℕ → ComposeError → Type 0
IsAppendRefusedOn table intent id now limit (fault.Broken b) = (time : ℤ) → broken_by (without_time table) (composed_append intent id time) ≡ Some b
IsAppendRefusedOn table intent id now limit (fault.TimeEnd last) = IsTimeEndOn table intent id last
IsAppendRefusedOn table intent id now limit (fault.TooLarge bytes) = IsTooLargeNextOn table intent id now limit bytes
IsAppendRefusedOn table intent id now limit fault.Memory = ⊤

abbrev pub IsAppendRefused : Log → Intent → ℕ → ℤ → ℕ → ComposeError → Type 0
IsAppendRefused log = IsAppendRefusedOn (after log)

-- what an error says of the limits, whatever the log
abbrev pub HasPassed : ℕ → ComposeError → Type 0
HasPassed limit (fault.Broken b) = ⊤
HasPassed limit (fault.TimeEnd last) = last ≡ end_of_time
HasPassed limit (fault.TooLarge bytes) = limit < bytes
HasPassed limit fault.Memory = ⊤
