use Rattle.std.proofs.Common.{rules, ◌<◌, arith, length}
use Rattle.table_model.proofs.Growing.{grows_trans}
use Rattle.std.specs.Prelude.{true}
use Rattle.publisher.specs.Causes.{ClearCause}
use Rattle.publisher.specs.Converting.{of_fault}
use Rattle.publisher.proofs.Causing.{table_cause, turn_refused, seen_more}
use Rattle.publisher.proofs.Removing.{clear_all_tells, list_refused}
use Rattle.publisher.proofs.Counting.{has_cleared}
use Rattle.publisher.proofs.Asking.{whatever, clear_cause, clear_memory_cause, clear_asks, fault_asks}
use Rattle.publisher.proofs.clearing.clear_all.Goals as goal

pub returns-in_err-names-clause-cause : goal.returns-in_err-names-clause-cause
returns-in_err-names-clause-cause g c =
    let some : 0 < length (g.T.Steps.known c.list.new.self).seen =
    let more = seen_more _ _ c.in_err-names.ensures.grows in omega (arith, more, c.in_ok-commits.ensures.learns.count, c.if-commits-eq0.false) in
    let i : ClearCause (of_fault c.in_err-names.field-0.0) (g.T.Steps.known c.args.caller.now) (g.T.Steps.known c.list.new.self) =
    clear_cause _ _ _ (table_cause true _ _ _ _ c.in_ok-commits.ensures.grows some (turn_refused _ _ _ _ _ c.in_err-names.ensures.learns)) in
    search rules

pub returns-in_err-cleared-clause-cause : goal.returns-in_err-cleared-clause-cause
returns-in_err-cleared-clause-cause g c =
    let some : 0 < length (g.T.Steps.known c.clear_listed.new.caller).seen =
    let more = seen_more _ _ c.in_ok-names.ensures.grows in
    let most = seen_more _ _ c.in_err-cleared.ensures.grows in
    omega (arith, more, most, c.in_ok-commits.ensures.learns.count, c.if-commits-eq0.false) in
    let i : ClearCause c.in_err-cleared.field-0.0 (g.T.Steps.known c.args.caller.now) (g.T.Steps.known c.clear_listed.new.caller) =
    clear_cause _ _ _ (table_cause true _ _ _ _ (grows_trans _ _ _ c.in_ok-commits.ensures.grows c.in_ok-names.ensures.grows) some c.in_err-cleared.ensures.cause) in
    search rules

pub returns-in_err-cleared-clause-after : goal.returns-in_err-cleared-clause-after
returns-in_err-cleared-clause-after g c =
    g.met.T.Steps.after_both _ _ _ (g.met.T.Steps.after_both _ _ _ c.in_ok-commits.ensures.after c.in_ok-names.ensures.after) c.in_err-cleared.ensures.after

pub returns-clause-after : goal.returns-clause-after
returns-clause-after g c =
    g.met.T.Steps.after_both _ _ _ (g.met.T.Steps.after_both _ _ _ c.in_ok-commits.ensures.after c.in_ok-names.ensures.after) c.in_ok-cleared.ensures.after

pub returns-clause-world : goal.returns-clause-world
returns-clause-world g c =
    clear_all_tells c.in_ok-commits.commits c.in_ok-names.names c.as_slice.result.now _ _ _ _ _ c.in_ok-commits.ensures.told c.as_slice.ensures.value c.in_ok-commits.ensures.turn
    c.in_ok-names.ensures.turn c.in_ok-cleared.ensures.world c.in_ok-cleared.ensures.gone

pub returns-in_err-names-clause-world : goal.returns-in_err-names-clause-world
returns-in_err-names-clause-world g c =
    list_refused c.from_residual-in_err-names.result c.in_ok-commits.commits c.in_err-names.field-0.0 _ _ _ _ c.in_ok-commits.ensures.told c.from_residual-in_err-names.ensures.0
    c.in_ok-commits.ensures.turn c.in_err-names.ensures.turn

pub returns-clause-cleared : goal.returns-clause-cleared
returns-clause-cleared g c =
    has_cleared c.in_ok-commits.commits c.in_ok-names.names.items c.as_slice.result.now _ _ _ _ _ _ c.in_ok-commits.ensures.learns c.in_ok-names.ensures.learns
    c.as_slice.ensures.value c.in_ok-cleared.ensures.turns c.in_ok-cleared.ensures.cleared c.if-commits-eq0.false

pub returns-in_err-commits-clause-cause : goal.returns-in_err-commits-clause-cause
returns-in_err-commits-clause-cause g c =
    let i : ClearCause (of_fault c.in_err-commits.field-0.0) (g.T.Steps.known c.args.caller.now) (g.T.Steps.known c.commits.new.self) =
    clear_memory_cause _ _ _ c.in_err-commits.ensures.learns in
    search rules

pub returns-in_err-names-clause-asked : goal.returns-in_err-names-clause-asked
returns-in_err-names-clause-asked g c = whatever _ _ (fault_asks _ _ _ _ _ _ _ c.in_ok-commits.ensures.learns c.in_err-names.ensures.learns)

pub returns-in_err-cleared-clause-asked : goal.returns-in_err-cleared-clause-asked
returns-in_err-cleared-clause-asked g c =
    whatever _ _ (clear_asks _ _ _ _ _ _ _ c.in_ok-commits.ensures.learns c.in_ok-names.ensures.learns c.in_err-cleared.ensures.turns)

pub returns-clause-asked : goal.returns-clause-asked
returns-clause-asked g c = clear_asks _ _ _ _ _ _ _ c.in_ok-commits.ensures.learns c.in_ok-names.ensures.learns c.in_ok-cleared.ensures.turns
