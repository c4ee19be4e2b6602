-- What is read of a world to judge the turns of other callers.
use Rattle.std.specs.Prelude.{◌↔◌, ◌<◌, ℕ, List, Bool, IsTrue, Option, Vec, option_map}
use Rattle.std.specs.declared.alloc.Global.{Global}
use Rattle.table_model.specs.declared.answers.StepFault.{StepFault}
use Rattle.table_model.specs.declared.answers.StepFault.TheVariants.{Fault, Memory}

-- a test is exact where the store tells what it holds
abbrev pub Tests : Bool → Bool → Type 0 → Type 0
Tests tells answer P = IsTrue tells → IsTrue answer ↔ P

abbrev pub items_of : Option (Vec ℕ Global) → Option (List ℕ)
items_of found = option_map (λ (v : Vec ℕ Global). v.items) found

-- a fault of the store shows in its count
abbrev pub ShowsIn : ℕ → ℕ → StepFault → Type 0
ShowsIn before now (Fault at) = before < now
ShowsIn before now Memory = Unit {0}
