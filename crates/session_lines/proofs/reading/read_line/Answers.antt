use Rattle.std.proofs.Common.{◌≡◌, true, false, refl}
use Rattle.std.specs.Str.{is_utf8}
use Rattle.std.proofs.lemmas.Str.{IsUtf8-from_is_utf8, is_utf8-from_IsUtf8}
use Rattle.std.proofs.lemmas.Bool.{false_from_ne_true}
use Rattle.session_lines.specs.Requests.{request_of}
use Rattle.session_lines.proofs.reading.read_line.Goals as goal

pub returns-in-Ok : goal.returns-in-Ok
unfolding request_of
returns-in-Ok c = let utf8 : is_utf8 c.args.line.now ≡ true = is_utf8-from_IsUtf8 _ c.in-Ok.ensures.cases.1 in
    rw utf8 (rw (← c.in-Ok.ensures.cases.0) c.read_text.ensures)

pub returns-in-Err : goal.returns-in-Err
unfolding request_of
returns-in-Err c = let utf8 : is_utf8 c.args.line.now ≡ false = false_from_ne_true _ (λ e. c.in-Err.ensures.cases.0 (IsUtf8-from_is_utf8 _ e)) in
    rw utf8 refl
