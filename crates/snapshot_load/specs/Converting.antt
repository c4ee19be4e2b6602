-- A refused turn as the error of a load.
use Rattle.table_model.specs.declared.answers.StepFault.{StepFault}
use Rattle.table_model.specs.declared.answers.StepFault.TheVariants as step
use Rattle.snapshot_load.specs.declared.errors.LoadError.{LoadError}
use Rattle.snapshot_load.specs.declared.errors.LoadError.TheVariants as load

abbrev pub of_fault : StepFault → LoadError
of_fault (step.Fault at) = load.Fault at
of_fault step.Memory = load.Memory
