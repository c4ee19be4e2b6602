use Rattle.std.proofs.Common.{◌≡◌, pos, List, Some, subst, ap, ◌∙◌, w64}
use Rattle.std.proofs.lemmas.Int.{to_z-of_z}
use Rattle.action_types.specs.declared.actions.Action.{Action}
use Rattle.reconcile.specs.Steps.{timed}
use Rattle.reconcile.specs.declared.state.State.{State}
use Rattle.table_rules.specs.Broken.{Tells, broken_by}
use Rattle.table_rules.specs.Seen.{seen}
use Rattle.staged_commit.specs.Composed.{composed_append}
use Rattle.staged_commit.proofs.Appends.{append-time, same-after-earlier}
use Rattle.staged_commit.proofs.append.check_at_the_end.Goals as goal

pub returns : goal.returns
returns c =
    let made : c.in_ok-actions.actions.items ≡ composed_append c.args.intent.now c.args.id c.args.last =
    c.in_ok-actions.ensures ∙ ap (composed_append c.args.intent.now c.args.id) (to_z-of_z w64 c.args.last c.ranges.last) in
    let P : List Action → Type 0 = λ l. Tells c.check_next.result (broken_by (seen c.with_time-earlier.result) l) in
    let Q : State → Type 0 = λ s. Tells c.check_next.result (broken_by (seen s) (composed_append c.args.intent.now c.args.id c.args.last)) in
    let early : c.with_time-earlier.result ≡ timed c.args.state.now (Some (pos 0)) = c.with_time-earlier.ensures ∙ ap (λ s. timed s (Some (pos 0))) c.in_ok-copy.ensures in
    let told = subst Q early (subst P (c.deref.ensures.value ∙ made) c.check_next.ensures.in_state) in
    let same = same-after-earlier (seen c.args.state.now) (composed_append c.args.intent.now c.args.id c.args.last) (pos 0) c.args.last c.requires (append-time c.args.intent.now c.args.id c.args.last) in
    rw (← same) (c.judged.ensures _ told)
