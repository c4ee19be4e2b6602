use Rattle.checkpoint_v2.proofs.Answered.{of_logs_given, fault_given, refused_given, time_given}
use Rattle.checkpoint_v2.proofs.reading.read_checkpoint.Goals as goal

pub returns-clause-of_logs : goal.returns-clause-of_logs
returns-clause-of_logs c = of_logs_given c.args.version c.args.bytes.now c.read_state.result c.read_state.ensures

pub returns-clause-fault : goal.returns-clause-fault
returns-clause-fault c = fault_given c.args.version c.args.bytes.now c.read_state.result c.read_state.ensures

pub returns-clause-refused : goal.returns-clause-refused
returns-clause-refused c = refused_given c.args.version c.args.bytes.now c.read_state.result c.read_state.ensures

pub returns-clause-time : goal.returns-clause-time
returns-clause-time c = time_given c.args.version c.args.bytes.now c.read_state.result c.read_state.ensures
