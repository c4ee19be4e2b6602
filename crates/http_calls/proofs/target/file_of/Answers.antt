use Rattle.std.proofs.Common.{◌≡◌, true, false, refl, ap, ◌∙◌}
use Rattle.std.specs.Str.{is_utf8}
use Rattle.std.proofs.lemmas.Str.{IsUtf8-from_is_utf8, is_utf8-from_IsUtf8}
use Rattle.std.proofs.lemmas.Bool.{false_from_ne_true}
use Rattle.log_names.specs.Reading.{name_of}
use Rattle.http_calls.specs.Targets.{file_of, named_file}
use Rattle.http_calls.proofs.target.file_of.Goals as goal

pub returns-in-Ok : goal.returns-in-Ok
unfolding file_of
returns-in-Ok c = let utf8 : is_utf8 c.args.bytes.now ≡ true = is_utf8-from_IsUtf8 _ c.in-Ok.ensures.cases.1 in
    rw utf8 (c.named_file.ensures ∙ ap named_file (c.parse.ensures.value ∙ ap name_of c.in-Ok.ensures.cases.0))

pub returns-in-Err : goal.returns-in-Err
unfolding file_of
returns-in-Err c = let utf8 : is_utf8 c.args.bytes.now ≡ false = false_from_ne_true _ (λ e. c.in-Err.ensures.cases.0 (IsUtf8-from_is_utf8 _ e)) in
    rw utf8 refl
