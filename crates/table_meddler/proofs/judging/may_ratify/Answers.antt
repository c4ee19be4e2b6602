use Rattle.std.proofs.Common.{◌≡◌, ◌∙◌, ap, sym, rules}
use mir.Syntax.{w64}
use mir.Val.{of_z, to_z}
use Rattle.std.proofs.lemmas.Int.{to_z-of_z}
use Rattle.action_json.specs.Text.{actions_of}
use Rattle.table_model.specs.Log.{history}
use Rattle.table_model.specs.World.{log_of}
use Rattle.table_meddler.specs.Judging.{items_of}
use Rattle.table_meddler.proofs.ReadWorlds.{handed, if_ok, read_tells, if_err, memory_shown, shown_later}
use Rattle.table_meddler.proofs.Judged.{tests_not, not_timed, timed_as, text_as, state_on, next_by_rules}
use Rattle.table_meddler.proofs.judging.may_ratify.Goals as goal

pub returns-then-branch-clause-tests : goal.returns-then-branch-clause-tests
returns-then-branch-clause-tests g c =
    let w = c.args.world.now in
    let read = rw c.in-Some-2.is at c.in_ok-actions.ensures.actions in
    let timed = timed_as c.in-Some.bytes.items c.as_slice.result.now c.as_slice-2.result.now c.in-Some-2.actions.items _ c.as_slice.ensures.value read.1 c.as_slice-2.ensures.value c.in_ok-time_of.ensures.time in
    tests_not w.tells _ (λ t. not_timed w c.args.version c.args.id c.args.time c.in-Some.bytes.items (c.in_ok-bytes.ensures.file t ∙ ap items_of c.in-Some.is) (λ e. c.if-branch.true (ap (of_z w64) (e ∙ sym timed))))

pub returns-clause-next : goal.returns-clause-next
returns-clause-next g c = if_ok c.keeps_rules.result _ _ (λ answer h yes. c.if-version-count.false ∙ c.count.ensures.value) c.keeps_rules.ensures.kept

pub returns-clause-tests : goal.returns-clause-tests
returns-clause-tests g c =
    let w = c.args.world.now in
    let read = rw c.in-Some-2.is at c.in_ok-actions.ensures.actions in
    let timed = timed_as c.in-Some.bytes.items c.as_slice.result.now c.as_slice-2.result.now c.in-Some-2.actions.items _ c.as_slice.ensures.value read.1 c.as_slice-2.ensures.value c.in_ok-time_of.ensures.time in
    let mine : to_z w64 (of_z w64 c.args.time) ≡ c.args.time = to_z-of_z w64 c.args.time c.ranges.time in
    let its : to_z w64 (of_z w64 c.in_ok-time_of.field-0) ≡ c.in_ok-time_of.field-0 = to_z-of_z w64 c.in_ok-time_of.field-0 (search rules) in
    let same : c.args.time ≡ c.in_ok-time_of.field-0 = sym mine ∙ ap (to_z w64) c.if-branch.false ∙ its in
    let stands = rw c.in-Some-3.is at c.in_ok-state.ensures.state in
    if_ok c.keeps_rules.result _ _ (λ answer h t. next_by_rules w c.args.version c.args.id c.args.time c.in-Some.bytes.items c.as_slice-3.result.now answer
    (c.if-version-count.false ∙ c.count.ensures.value)
    (c.in_ok-bytes.ensures.file t ∙ ap items_of c.in-Some.is)
    (text_as c.in-Some.bytes.items c.as_slice.result.now c.as_slice.ensures.value read.0)
    (c.as_slice-3.ensures.value ∙ read.1 ∙ ap actions_of c.as_slice.ensures.value)
    (same ∙ timed)
    (h (history (log_of w)) (state_on c.in-Some-3.state w c.file.new.world c.in_ok-bytes.ensures.read (stands (read_tells w c.file.new.world c.in_ok-bytes.ensures.read ∙ t))))) c.keeps_rules.ensures.kept

pub returns-in_err-actions-clause-fault : goal.returns-in_err-actions-clause-fault
returns-in_err-actions-clause-fault g c =
    handed c.from_residual-in_err-actions.result c.in_err-actions.field-0.0 _ c.from_residual-in_err-actions.ensures.1 (memory_shown _ _ c.in_err-actions.field-0.0 c.in_err-actions.ensures.memory)

pub returns-in_err-time_of-clause-fault : goal.returns-in_err-time_of-clause-fault
returns-in_err-time_of-clause-fault g c =
    handed c.from_residual-in_err-time_of.result c.in_err-time_of.field-0.0 _ c.from_residual-in_err-time_of.ensures.1 (memory_shown _ _ c.in_err-time_of.field-0.0 c.in_err-time_of.ensures.memory)

pub returns-in_err-state-clause-fault : goal.returns-in_err-state-clause-fault
returns-in_err-state-clause-fault g c =
    handed c.from_residual-in_err-state.result c.in_err-state.field-0.0 _ c.from_residual-in_err-state.ensures.1 (shown_later _ _ _ c.in_err-state.field-0.0 c.in_ok-bytes.ensures.read.tally c.in_err-state.ensures.fault)

pub returns-clause-fault : goal.returns-clause-fault
returns-clause-fault g c = if_err c.keeps_rules.result _ _ (λ e h. memory_shown _ _ e h) c.keeps_rules.ensures.memory
