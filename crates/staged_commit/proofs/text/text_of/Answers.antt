use Rattle.std.proofs.Common.{◌≡◌, ◌+◌, ◌++◌, [], ◌∷◌, take, refl, sym, ap, ◌∙◌}
use Rattle.std.proofs.lemmas.List.{take_more}
use Rattle.action_fields.specs.Canonical.{canonical_line}
use Rattle.action_json.proofs.Answered.{canonical_text-nil, line_more, written_more}
use Rattle.staged_commit.proofs.text.text_of.Goals as goal

pub loop-action-init : goal.loop-action-init
loop-action-init c = record { text = c.new-text.ensures.items ∙ sym canonical_text-nil; written = tt }

pub loop-action-preserved : goal.loop-action-preserved
loop-action-preserved c =
    let a = c.action-item.result in
    let more : take (c.loop-action.action-index + 1) c.args.actions.now ≡ take c.loop-action.action-index c.args.actions.now ++ a ∷ [] =
    take_more c.args.actions.now c.loop-action.action-index a c.loop-action-test.true ∙ ap (λ b. take c.loop-action.action-index c.args.actions.now ++ b ∷ []) (sym c.action-item.is) in
    record {
      text = c.in_ok-push.ensures.items ∙ ap (λ t. t ++ 10 ∷ []) c.in_ok-push_line.ensures.ok
          ∙ line_more c.args.actions.now c.loop-action.action-index a c.loop-action.text.items (canonical_line a) more c.loop-action.invariant.text refl;
      written = written_more c.args.actions.now c.loop-action.action-index a more c.loop-action.invariant.written (record { fits = c.in_ok-push_line.ensures.fits; utf8 = c.in_ok-push_line.ensures.utf8 });
    }
