use Rattle.std.proofs.Common.{Ok, subst}
use Rattle.std.specs.declared.alloc.AllocError.{AllocError}
use Rattle.checkpoint_v2.specs.Canonical.{Pushes, meta_action}
use Rattle.checkpoint_v2.proofs.Pushing.{pushes_none}
use Rattle.checkpoint_v2.proofs.writing.push_meta.Goals as goal

pub returns-in-None : goal.returns-in-None
returns-in-None c =
    subst (λ o. Pushes {T = Unit {0}} {E = AllocError} (Ok tt) c.args.text.now.items c.args.text.now.items (meta_action o)) c.in-None.ensures (pushes_none tt c.args.text.now.items)
