-- A reply that was not written whole.
use Rattle.std.specs.Prelude.{◌≡◌, Bool, ℕ, List}
use Rattle.lake_io.specs.Told.{WritesSome}
use Rattle.lake_io.specs.declared.answers.End.{End}
use Rattle.lake_io.specs.declared.answers.End.TheVariants as end
use Rattle.table_session.specs.declared.speaking.Unsaid.{Unsaid}
use Rattle.table_session.specs.declared.speaking.Unsaid.TheVariants as unsaid

-- the sink lacks some of the text, or has nothing of it
abbrev pub SaidShort : Bool → List ℕ → List ℕ → Unsaid → List ℕ → Type 0
SaidShort tells written text unsaid.Fault written' = WritesSome tells written text written'
SaidShort tells written text unsaid.Memory written' = written' ≡ written

-- how the session ends then
abbrev pub end_of : Unsaid → End
end_of unsaid.Fault = end.WriteFault
end_of unsaid.Memory = end.Memory
