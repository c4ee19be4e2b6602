-- The integers of an action lie within 64 bits. The code's types see to it; a clause ranges over all integers.
use Rattle.std.specs.Prelude.{ℤ, Option, IfSome, FitsSigned, ⊤}
use Rattle.std.specs.Int.{w64}
use Rattle.action_types.specs.declared.actions.Action.{Action}
use Rattle.action_types.specs.declared.actions.Action.TheVariants as action
use Rattle.action_types.specs.declared.actions.Vector.{Vector}

abbrev pub Fits : ℤ → Type 0
Fits z = FitsSigned w64 z

abbrev pub FitsIfGiven : Option ℤ → Type 0
FitsIfGiven o = IfSome o Fits

abbrev pub VectorFits : Vector → Type 0
VectorFits v = Fits v.cardinality × FitsIfGiven v.offset × Fits v.size

abbrev pub VectorFitsIfGiven : Option Vector → Type 0
VectorFitsIfGiven o = IfSome o VectorFits

abbrev pub HasFittingFields : Action → Type 0
HasFittingFields (action.Info a) = Fits a.time
HasFittingFields (action.Protocol a) = Fits a.reader × Fits a.writer
HasFittingFields (action.Meta a) = FitsIfGiven a.created
HasFittingFields (action.Txn a) = FitsIfGiven a.updated × Fits a.number
HasFittingFields (action.Domain a) = ⊤
HasFittingFields (action.Remove a) = FitsIfGiven a.deleted × FitsIfGiven a.size × VectorFitsIfGiven a.vector
HasFittingFields (action.Add a) = Fits a.modified × Fits a.size × VectorFitsIfGiven a.vector
