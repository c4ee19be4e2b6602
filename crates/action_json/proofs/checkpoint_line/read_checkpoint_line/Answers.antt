use Rattle.std.proofs.Common.{◌≡◌, true, false, sym, refl}
use Rattle.std.specs.Str.{is_utf8}
use Rattle.std.proofs.lemmas.Str.{IsUtf8-from_is_utf8, is_utf8-from_IsUtf8}
use Rattle.std.proofs.lemmas.Bool.{false_from_ne_true}
use Rattle.text_lines.specs.Lines.{is_blank}
use Rattle.action_json.specs.CheckpointLines.{checkpoint_line_of}
use Rattle.action_json.proofs.checkpoint_line.read_checkpoint_line.Goals as goal

pub returns-in-Ok : goal.returns-in-Ok
unfolding checkpoint_line_of
returns-in-Ok c = let utf8 : is_utf8 c.args.line.now ≡ true = is_utf8-from_IsUtf8 _ c.in-Ok.ensures.cases.1 in let said : is_blank c.args.line.now ≡ false = sym c.if-is_blank.ensures in
    rw (utf8, said) (rw (← c.in-Ok.ensures.cases.0) c.read_text.ensures)

pub returns-in-Err : goal.returns-in-Err
unfolding checkpoint_line_of
returns-in-Err c = let utf8 : is_utf8 c.args.line.now ≡ false = false_from_ne_true _ (λ e. c.in-Err.ensures.cases.0 (IsUtf8-from_is_utf8 _ e)) in let said : is_blank c.args.line.now ≡ false = sym c.if-is_blank.ensures in
    rw (utf8, said) refl
