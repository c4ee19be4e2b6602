use Rattle.std.proofs.Common.{◌≡◌, ◌++◌, pos, List, Some, refl, subst, ap, ap₂, ◌∙◌, w64}
use Rattle.std.proofs.lemmas.Int.{to_z-of_z}
use Rattle.action_types.specs.declared.actions.Action.{Action}
use Rattle.reconcile.specs.Standing.{meta_in}
use Rattle.reconcile.specs.Steps.{timed}
use Rattle.reconcile.specs.declared.state.State.{State}
use Rattle.table_rules.specs.Broken.{broken_by}
use Rattle.table_rules.specs.Seen.{seen}
use Rattle.staged_commit.specs.Answers.{IsJudged}
use Rattle.staged_commit.specs.Writes.{contents_of, front_of}
use Rattle.staged_commit.proofs.Composing.{judged-err, judged-ok, later-than}
use Rattle.staged_commit.proofs.Looking.{breaks-first}
use Rattle.staged_commit.proofs.write.check_at_the_end.Goals as goal

pub returns : goal.returns
returns c =
    let same = to_z-of_z w64 c.args.last c.ranges.last in
    let state = c.args.state.now in
    let intent = c.args.intent.now in
    let front : c.in_ok-front.front.items ≡ front_of (meta_in state) intent c.args.id c.args.last =
    c.in_ok-front.ensures ∙ ap₂ (λ m t. front_of m intent c.args.id t) c.meta.ensures same in
    let all : c.in_ok-actions.actions.items ≡ front_of (meta_in state) intent c.args.id c.args.last ++ contents_of intent c.args.last =
    c.in_ok-actions.ensures ∙ ap₂ (λ f t. f ++ contents_of intent t) front same in
    let early : c.with_time-earlier.result ≡ timed state (Some (pos 0)) = c.with_time-earlier.ensures ∙ ap (λ s. timed s (Some (pos 0))) c.in_ok-copy.ensures in
    let found = broken_by (seen (timed state (Some (pos 0)))) (front_of (meta_in state) intent c.args.id c.args.last ++ contents_of intent c.args.last) in
    let first = breaks-first (seen state) intent c.args.id c.args.last (Some (pos 0)) (later-than (pos 0) c.args.last c.requires) found refl in
    let P : List Action → Type 0 = λ l. IsJudged c.checked.result (broken_by (seen c.with_time-earlier.result) l) in
    let Q : State → Type 0 = λ s. IsJudged c.checked.result (broken_by (seen s) (front_of (meta_in state) intent c.args.id c.args.last ++ contents_of intent c.args.last)) in
    let told = subst Q early (subst P (c.deref.ensures.value ∙ all) c.checked.ensures) in
    record {
      ok = judged-ok (seen state) intent found c.checked.result first told;
      err = judged-err (seen state) intent found c.checked.result first told;
    }
