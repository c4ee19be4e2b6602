use Rattle.reconcile.proofs.Laying.{lays_more, lays_all}
use Rattle.reconcile.proofs.by_file.lay_marked.Goals as goal

pub loop-path-preserved : goal.loop-path-preserved
loop-path-preserved g c =
    lays_more c.args.marked.now c.args.newer c.loop-path.left c.pop.new.self c.loop-path.marked c.lay_ids.new.marked c.in-Some.path c.in-Some.files
    c.loop-path.invariant c.in-Some.ensures.some c.in-Some.ensures.rest c.in_ok-lay_ids.ensures

pub returns : goal.returns
returns g c = lays_all c.args.marked.now c.args.newer c.loop-path.left c.loop-path.marked c.loop-path.invariant c.in_default.ensures.none
