use Rattle.session_lines.proofs.text.put_bad_line.Goals as goal

pub returns-in-NotJson : goal.returns-in-NotJson
returns-in-NotJson c = rw c.in-NotJson.is c.put_reason-in-NotJson.ensures
