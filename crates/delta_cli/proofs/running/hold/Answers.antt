use Rattle.std.proofs.Common.{arith}
use Rattle.table_session.specs.Views.{source_view, sink_view, clock_view, ids_view}
use Rattle.delta_cli.proofs.Holding.{held_by}
use Rattle.delta_cli.proofs.running.hold.Goals as goal

pub returns-clause-run : goal.returns-clause-run
returns-clause-run g c =
    held_by _ c.args.world.files c.args.world.first g.S.Store.tells c.args.world c.into_world.result c.new-solo.result c.session-end.new.caller c.settle-status.new.caller
    (source_view g.I.Source.tells (g.I.Source.taken c.args.source.now) (g.I.Source.left c.args.source.now) (g.I.Source.taken c.session-end.new.source) (g.I.Source.left c.session-end.new.source))
    (sink_view g.O.Sink.tells (g.O.Sink.written c.args.sink.now) (g.O.Sink.written c.session-end.new.sink))
    (clock_view g.C.Clock.fixed (g.C.Clock.reading c.args.clock.now))
    (ids_view (g.U.Ids.differ c.args.ids.now) (g.U.Ids.given c.args.ids.now) (g.U.Ids.differ c.session-end.new.ids) (g.U.Ids.given c.session-end.new.ids))
    c.session-end.result c.settle-status.result
    c.new-solo.ensures.world c.new-solo.ensures.nothing c.into_world.ensures.world c.requires c.session-end.ensures.session
    c.session-end.ensures.after c.settle-status.ensures.after c.settle-status.ensures.log (omega arith) (omega arith) c.settle-status.ensures.end c.settle-status.ensures.cause c.settle-status.ensures.quiet c.settle-status.ensures.settled
    c.into_world.ensures.consistent
