-- The rules of a next commit of a table, but for those that ask that something be after what the table has.
use Rattle.std.specs.Prelude.{List, Option, None}
use Rattle.action_types.specs.declared.actions.Action.{Action}
use Rattle.reconcile.specs.Replay.{Log}
use Rattle.table_rules.specs.Broken.{Before, after, broken_by}
use Rattle.table_rules.specs.declared.broken.Broken.{Broken}

-- the table without its last time, so that each time is after it
abbrev pub without_time : Before → Before
without_time table = record table { time = None }

-- and without the numbers of its applications, so that each number is after them
abbrev pub without_numbers : Before → Before
without_numbers table = record table { number = λ app. None }

-- the first rule that a commit breaks after a log, but for the one on its time
abbrev pub broken_but_time : Log → List Action → Option Broken
broken_but_time log actions = broken_by (without_time (after log)) actions

-- but for those on its time and on the numbers of its txns
abbrev pub broken_but_time_and_number : Log → List Action → Option Broken
broken_but_time_and_number log actions = broken_by (without_numbers (without_time (after log))) actions
