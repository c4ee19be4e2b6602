use Rattle.std.proofs.Common.{OnOk, Ok, Err, Result, ◌≡◌, true, List, ℕ}
use Rattle.std.specs.Str.{is_utf8}
use Rattle.std.specs.Prelude.{IsUtf8}
use Rattle.json.specs.Print.{print}
use Rattle.std.proofs.lemmas.Str.{is_utf8-from_IsUtf8}
use Rattle.action_fields.proofs.write.finished.Goals as goal

-- the test of a text that is UTF-8
tested : {E : Type 0} (r : Result (Unit {0}) E) (bs : List ℕ) → IsUtf8 bs → OnOk r (is_utf8 bs ≡ true)
tested (Ok u) bs h = is_utf8-from_IsUtf8 bs h
tested (Err e) bs h = tt

pub returns-clause-utf8 : goal.returns-clause-utf8
returns-clause-utf8 c = tested c.args.done (print c.args.writer.tokens) c.into_inner-bytes.ensures.utf8
