use Rattle.checkpoint_v2.proofs.Pushing.{pushes_line}
use Rattle.checkpoint_v2.proofs.writing.push_action.Goals as goal

pub returns : goal.returns
returns c =
    pushes_line tt c.args.text.now.items c.push_line.new.out.items c.push.new.self.items c.args.action.now c.in_ok-push_line.ensures.ok c.in_ok-push.ensures.items
    (record { fits = c.in_ok-push_line.ensures.fits; utf8 = c.in_ok-push_line.ensures.utf8 })
