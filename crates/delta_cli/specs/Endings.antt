-- How a run ends, and by what.
use Rattle.std.specs.Prelude.{◌≡◌, ◌<◌, ◌⊎◌, ℕ, Bool, IsTrue, List, codes, ⊤}
use Rattle.lake_io.specs.declared.answers.End.{End}
use Rattle.lake_io.specs.declared.answers.End.TheVariants as end
use Rattle.table_model.specs.Knowledge.{Knowledge}
use Rattle.table_model.specs.World.{WorldData}
use Rattle.delta_cli.specs.declared.endings.Ended.{Ended}
use Rattle.delta_cli.specs.declared.endings.Ended.TheVariants as ended
use Rattle.delta_cli.specs.declared.endings.Status.{Status}
use Rattle.delta_cli.specs.declared.endings.Status.TheVariants as status

-- the exit status of the program
abbrev pub code_of : Status → ℕ
code_of status.Done = 0
code_of status.Usage = 1
code_of status.Memory = 2
code_of status.ReadFault = 3
code_of status.WriteFault = 4
code_of status.StoreFault = 5
code_of status.NotEmpty = 6
code_of status.TooMuch = 8

-- what a status says in words
abbrev pub meaning_of : Status → List ℕ
meaning_of status.Done = codes "done"
meaning_of status.Usage = codes "usage"
meaning_of status.Memory = codes "want of memory"
meaning_of status.ReadFault = codes "read fault"
meaning_of status.WriteFault = codes "write fault"
meaning_of status.StoreFault = codes "store fault"
meaning_of status.NotEmpty = codes "folder not empty"
meaning_of status.TooMuch = codes "too much input"

-- the ends of a session that a status names; two come before there is one
abbrev pub IsStatusOf : End → Status → Type 0
IsStatusOf e status.Done = e ≡ end.Done
IsStatusOf e status.Usage = ⊥
IsStatusOf e status.Memory = (e ≡ end.Done) ⊎ (e ≡ end.Memory)
IsStatusOf e status.ReadFault = e ≡ end.ReadFault
IsStatusOf e status.WriteFault = e ≡ end.WriteFault
IsStatusOf e status.StoreFault = e ≡ end.Done
IsStatusOf e status.NotEmpty = ⊥
IsStatusOf e status.TooMuch = e ≡ end.TooMuch

-- a caller's faults rose, or its store does not tell what it holds
abbrev pub HasFailed : Bool → Knowledge → Knowledge → Type 0
HasFailed tells k m = (k.faults < m.faults) ⊎ (¬ (IsTrue tells))

-- want of memory and a fault of the sink may leave the last reply unwritten
abbrev pub IsCutShort : Status → Type 0
IsCutShort status.Done = ⊥
IsCutShort status.Usage = ⊥
IsCutShort status.Memory = ⊤
IsCutShort status.ReadFault = ⊥
IsCutShort status.WriteFault = ⊤
IsCutShort status.StoreFault = ⊥
IsCutShort status.NotEmpty = ⊥
IsCutShort status.TooMuch = ⊥

-- no fault of the store was met in the drain: it got through, or memory ran out
abbrev pub DrainsWithoutFault : Status → Type 0
DrainsWithoutFault status.Done = ⊤
DrainsWithoutFault status.Usage = ⊥
DrainsWithoutFault status.Memory = ⊤
DrainsWithoutFault status.ReadFault = ⊥
DrainsWithoutFault status.WriteFault = ⊥
DrainsWithoutFault status.StoreFault = ⊥
DrainsWithoutFault status.NotEmpty = ⊥
DrainsWithoutFault status.TooMuch = ⊥

abbrev pub status_in : {S : Type 0} → Ended S → Status
status_in (ended.NotRun st back) = st
status_in (ended.Ran st world) = st

-- what is said where no session was begun, and what is said where one was
abbrev pub MatchEnded : {S : Type 0} → Ended S → (Status → S → Type 0) → (Status → WorldData → Type 0) → Type 0
MatchEnded (ended.NotRun st back) P Q = P st back
MatchEnded (ended.Ran st world) P Q = Q st world
