use Rattle.action_json.proofs.Files.{double-removed, double-added}
use Rattle.action_json.proofs.keys.Keys.add.Goals as goal

pub returns-in-Remove-clause-double : goal.returns-in-Remove-clause-double
returns-in-Remove-clause-double c = double-removed c.note_file.result c.args.self.now c.in-Remove.remove c.args.action.now c.in-Remove.is c.note_file.ensures.double

pub returns-in-Add-clause-double : goal.returns-in-Add-clause-double
returns-in-Add-clause-double c = double-added c.note_file-in-Add.result c.args.self.now c.in-Add.add c.args.action.now c.in-Add.is c.note_file-in-Add.ensures.double
