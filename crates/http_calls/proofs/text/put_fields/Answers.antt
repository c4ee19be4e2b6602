use Rattle.http_calls.proofs.text.put_fields.Goals as goal

pub returns-in-Differs : goal.returns-in-Differs
returns-in-Differs c = rw c.in-Differs.is c.put_error-in-Differs.ensures
