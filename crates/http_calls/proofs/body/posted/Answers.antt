use Rattle.std.proofs.Common.{◌≡◌, true, false, refl}
use Rattle.std.specs.Str.{is_utf8}
use Rattle.std.proofs.lemmas.Str.{IsUtf8-from_is_utf8, is_utf8-from_IsUtf8}
use Rattle.std.proofs.lemmas.Bool.{false_from_ne_true}
use Rattle.http_calls.specs.Bodies.{posted}
use Rattle.http_calls.proofs.body.posted.Goals as goal

pub returns-in-Ok : goal.returns-in-Ok
unfolding posted
returns-in-Ok c = let utf8 : is_utf8 c.args.body.now ≡ true = is_utf8-from_IsUtf8 _ c.in-Ok.ensures.cases.1 in
    rw utf8 (rw (← c.in-Ok.ensures.cases.0) c.posted_text.ensures)

pub returns-in-Err : goal.returns-in-Err
unfolding posted
returns-in-Err c = let utf8 : is_utf8 c.args.body.now ≡ false = false_from_ne_true _ (λ e. c.in-Err.ensures.cases.0 (IsUtf8-from_is_utf8 _ e)) in
    rw utf8 refl
