-- A refused turn as the error of a publishing.
use Rattle.table_model.specs.declared.answers.StepFault.{StepFault}
use Rattle.table_model.specs.declared.answers.StepFault.TheVariants as step
use Rattle.publisher.specs.declared.answers.PublishError.{PublishError}
use Rattle.publisher.specs.declared.answers.PublishError.TheVariants as publish

abbrev pub of_fault : StepFault → PublishError
of_fault (step.Fault at) = publish.Fault at
of_fault step.Memory = publish.Memory
