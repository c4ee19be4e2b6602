use Rattle.std.proofs.Common.{◌++◌, ◌∙◌, ap}
use Rattle.action_types.specs.declared.actions.Action.TheVariants as action
use Rattle.checkpoint_v2.proofs.Pushing.{pushes_made}
use Rattle.checkpoint_v2.proofs.writing.push_remove.Goals as goal

pub returns : goal.returns
returns c =
    pushes_made tt c.args.text.now.items c.extend_from_slice.new.self.items c.clear.new.self.items c.push_remove_line.new.out.items c.push.new.self.items (action.Remove c.args.remove.now)
    c.clear.ensures.items c.in_ok-push_remove_line.ensures.ok c.in_ok-push.ensures.items (c.in_ok-extend_from_slice.ensures.items ∙ ap (λ l. c.args.text.now.items ++ l) c.as_slice.ensures.value)
    (record { fits = c.in_ok-push_remove_line.ensures.fits; utf8 = c.in_ok-push_remove_line.ensures.utf8 })
