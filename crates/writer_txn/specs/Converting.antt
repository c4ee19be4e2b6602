-- A refused turn, and a refused load of the last version, as the error of a write.
use Rattle.table_model.specs.declared.answers.StepFault.{StepFault}
use Rattle.table_model.specs.declared.answers.StepFault.TheVariants as step
use Rattle.snapshot_load.specs.declared.errors.LoadError.{LoadError}
use Rattle.snapshot_load.specs.declared.errors.LoadError.TheVariants as load
use Rattle.writer_txn.specs.declared.errors.WriteError.{WriteError}
use Rattle.writer_txn.specs.declared.errors.WriteError.TheVariants as failed

abbrev pub of_fault : StepFault → WriteError
of_fault (step.Fault at) = failed.Fault at
of_fault step.Memory = failed.Memory

abbrev pub of_load : LoadError → WriteError
of_load load.NoTable = failed.NoTable
of_load (load.AfterLatest version latest) = failed.Memory
of_load (load.BeforeFirst first latest) = failed.Memory
of_load (load.Fault at) = failed.Fault at
of_load load.Memory = failed.Memory
