use Rattle.std.proofs.Common.{◌≡◌, ◌++◌, ℤ, List, Option, None, Some, Err, length, length-append, insert, arith, sym, subst, ap, ap₂, ◌∙◌, w64}
use Rattle.std.proofs.lemmas.Int.{to_z-of_z}
use Rattle.std.proofs.lemmas.Result.{err_from_is_err_and}
use Rattle.action_types.specs.declared.actions.Action.{Action}
use Rattle.action_types.specs.declared.actions.Action.TheVariants as action
use Rattle.reconcile.specs.Standing.{meta_in, time_in}
use Rattle.table_rules.specs.Broken.{broken_by}
use Rattle.table_rules.specs.Seen.{seen}
use Rattle.staged_commit.specs.Answers.{IsJudged}
use Rattle.staged_commit.specs.Composed.{txn_for}
use Rattle.staged_commit.specs.WriteAnswers.{BreaksFirst}
use Rattle.table_rules.specs.declared.broken.Broken.{Broken}
use Rattle.staged_commit.specs.Writes.{composed_write, contents_of, front_of}
use Rattle.staged_commit.proofs.Composing.{insert-between, judges}
use Rattle.staged_commit.proofs.Looking.{breaks-first}
use Rattle.staged_commit.proofs.write.actions_at.Goals as goal

pub numbered-requires : goal.numbered-requires
numbered-requires c =
    let same = to_z-of_z w64 c.args.time c.ranges.time in
    let long = ap length (c.in_ok-actions.ensures ∙ ap (λ t. c.in_ok-front.front.items ++ contents_of c.args.intent.now t) same) in
    let joined = length-append c.in_ok-front.front.items (contents_of c.args.intent.now c.args.time) in
    omega (arith, long, joined, c.len-place.ensures, c.in_ok-front.front.ok.0)

pub returns-in_err-checked-clause-err : goal.returns-in_err-checked-clause-err
returns-in_err-checked-clause-err c =
    let same = to_z-of_z w64 c.args.time c.ranges.time in
    let state = c.args.state.now in
    let intent = c.args.intent.now in
    let e = c.in_err-checked.field-0.0 in
    let front : c.in_ok-front.front.items ≡ front_of (meta_in state) intent c.args.id c.args.time =
    c.in_ok-front.ensures ∙ ap₂ (λ m t. front_of m intent c.args.id t) c.meta.ensures same in
    let all : c.in_ok-actions.actions.items ≡ front_of (meta_in state) intent c.args.id c.args.time ++ contents_of intent c.args.time =
    c.in_ok-actions.ensures ∙ ap₂ (λ f t. f ++ contents_of intent t) front same in
    let found = broken_by (seen state) c.in_ok-actions.actions.items in
    let first = breaks-first (seen state) intent c.args.id c.args.time (time_in state) c.requires found (ap (broken_by (seen state)) (sym all)) in
    let P : List Action → Type 0 = λ l. IsJudged (Err e) (broken_by (seen state) l) in
    let p = err_from_is_err_and c.from_residual-in_err-checked.result c.from_residual-in_err-checked.ensures.1 in
    rw (p.1, p.2) (judges (seen state) intent found e first (subst P c.deref.ensures.value c.in_err-checked.ensures))

pub returns-clause-ok : goal.returns-clause-ok
unfolding composed_write
returns-clause-ok c =
    let same = to_z-of_z w64 c.args.time c.ranges.time in
    let state = c.args.state.now in
    let intent = c.args.intent.now in
    let x = action.Txn (txn_for intent) in
    let front : c.in_ok-front.front.items ≡ front_of (meta_in state) intent c.args.id c.args.time =
    c.in_ok-front.ensures ∙ ap₂ (λ m t. front_of m intent c.args.id t) c.meta.ensures same in
    let all : c.in_ok-actions.actions.items ≡ front_of (meta_in state) intent c.args.id c.args.time ++ contents_of intent c.args.time =
    c.in_ok-actions.ensures ∙ ap₂ (λ f t. f ++ contents_of intent t) front same in
    let found = broken_by (seen state) c.in_ok-actions.actions.items in
    let first = breaks-first (seen state) intent c.args.id c.args.time (time_in state) c.requires found (ap (broken_by (seen state)) (sym all)) in
    let P : List Action → Type 0 = λ l. broken_by (seen state) l ≡ None in
    let none : found ≡ None = subst P c.deref.ensures.value c.in_ok-checked.ensures in
    let B : Option Broken → Type 0 = λ o. BreaksFirst (seen state) intent o in
    record {
      rules = subst B none first;
      actions_are = c.in_ok-numbered.ensures ∙ ap₂ (λ l n. insert l n x) all (c.len-place.ensures ∙ c.in_ok-front.front.ok.0 ∙ ap length front)
          ∙ insert-between (front_of (meta_in state) intent c.args.id c.args.time) (contents_of intent c.args.time) x;
    }
