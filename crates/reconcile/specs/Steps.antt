-- What one action makes of a state: a step between the contracts, and no part of what a state means.
use Rattle.std.specs.Prelude.{ℤ, false, Option, Some, if◌then◌else◌}
use Rattle.std.specs.FinMap as fin
use Rattle.action_types.specs.declared.actions.Action.{Action}
use Rattle.action_types.specs.declared.actions.Action.TheVariants as action
use Rattle.reconcile.specs.Keys.{key_of, key_of_remove}
use Rattle.reconcile.specs.declared.state.State.{State}

abbrev pub timed : State → Option ℤ → State
timed s time = record s { time = time }

-- without what the action puts an end to
abbrev pub cleared : State → Action → State
cleared s (action.Domain domain) = record s { domains = (if domain.removed then fin.remove s.domains domain.domain else s.domains) }
cleared s (action.Remove remove) = record s { live = fin.remove s.live (key_of_remove remove) }
cleared s (action.Add add) = record s { gone = fin.remove s.gone (key_of add) }
cleared s _ = s

-- with what the action says of what it names
abbrev pub holding : State → Action → State
holding s (action.Info info) = timed s (Some info.time)
holding s (action.Protocol protocol) = record s { protocol = Some protocol }
holding s (action.Meta meta) = record s { meta = Some meta }
holding s (action.Txn txn) = record s { txns = fin.insert s.txns txn.app txn }
holding s (action.Domain domain) = record s { domains = (if domain.removed then s.domains else fin.insert s.domains domain.domain domain) }
holding s (action.Remove remove) = record s { gone = fin.insert s.gone (key_of_remove remove) (record remove { change = false }) }
holding s (action.Add add) = record s { live = fin.insert s.live (key_of add) (record add { change = false }) }

abbrev pub after : State → Action → State
after s a = holding (cleared s a) a
