use Rattle.reconcile.proofs.Under.{both_ok, under_all}
use Rattle.reconcile.proofs.newest.under_files.Goals as goal

pub returns : goal.returns
returns c = both_ok c.under_gone.result
    (λ s put rest. under_all c.args.base c.in_ok-state.state c.in_ok-state-2.state s c.args.live c.args.gone c.in_ok-state.ensures.live c.in_ok-state.ensures.gone c.in_ok-state.ensures.rest
    c.in_ok-state-2.ensures.live c.in_ok-state-2.ensures.rest put rest)
    c.under_gone.ensures.gone c.under_gone.ensures.rest
