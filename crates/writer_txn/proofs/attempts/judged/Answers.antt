use Rattle.std.proofs.Common.{rules, arith, ◌≡◌, ◌∙◌, ◌+◌, ◌++◌, ◌<◌, length, ap, refl, sym, subst, ℕ, ℤ, List, w64, Fits}
use Rattle.std.proofs.lemmas.Int.{to_z-of_z}
use Rattle.std.specs.Prelude.{Option, Some, None, option_map, Vec}
use Rattle.std.specs.declared.alloc.Global.{Global}
use Rattle.action_types.specs.declared.actions.Action.{Action}
use Rattle.action_types.specs.Files.{id_of}
use Rattle.reconcile.specs.Standing.{StandsFor, live_in}
use Rattle.conflict_rules.specs.Conflict.{placed, first_of, conflict_by, commits_of}
use Rattle.writer_txn.specs.Writing.{IsAlready, IsConflict}
use Rattle.writer_txn.proofs.Judgements.{caught_front, caught_already, caught_conflict, memory_stands, place_within}
use Rattle.writer_txn.proofs.attempts.judged.Goals as goal

pub overflow_add-result-in-Some-lowest : goal.overflow_add-result-in-Some-lowest
overflow_add-result-in-Some-lowest c =
    let found : Some (placed c.in-Some-lowest.lowest) ≡ first_of (conflict_by c.args.what.now (live_in c.args.front.state)) 0 (commits_of c.args.winners.commits.items) =
    sym (ap (option_map placed) c.in-Some-lowest.is) ∙ c.first_conflict_of-lowest.ensures.in_state
    ∙ ap (λ (vs : List (Vec Action Global)). first_of (conflict_by c.args.what.now (live_in c.args.front.state)) 0 (commits_of vs)) c.as_slice.ensures.value in
    let within : c.in-Some-lowest.lowest.place < length c.args.winners.commits.items =
    place_within (conflict_by c.args.what.now (live_in c.args.front.state)) c.args.winners.commits.items (placed c.in-Some-lowest.lowest) (sym found) in
    let fits : Fits w64 c.args.winners.latest = search rules in
    omega (arith, within, fits, c.requires.count)

pub returns-in-Some-clause-stands : goal.returns-in-Some-clause-stands
returns-in-Some-clause-stands c = λ tells log reading last front won.
    subst (λ (n : ℤ). IsAlready tells c.args.what.now n c.args.winners.latest log) (sym (to_z-of_z w64 c.in-Some.recorded (search rules)))
    (caught_already tells _ _ _ c.in_ok-state.state log _ front won
    (λ l h. subst (λ (vs : List (Vec Action Global)). StandsFor c.in_ok-state.state (l ++ commits_of vs)) c.as_slice-2.ensures.value (c.in_ok-state.ensures l h))
    c.in-Some.ensures)

pub returns-in_err-key-in-Some-lowest-clause-stands : goal.returns-in_err-key-in-Some-lowest-clause-stands
returns-in_err-key-in-Some-lowest-clause-stands c = λ tells log reading last front won.
    memory_stands tells _ c.from_residual-in_err-key-in-Some-lowest.result reading last log c.from_residual-in_err-key-in-Some-lowest.ensures.1

pub returns-in_err-vector-in-Some-lowest-clause-stands : goal.returns-in_err-vector-in-Some-lowest-clause-stands
returns-in_err-vector-in-Some-lowest-clause-stands c = λ tells log reading last front won.
    memory_stands tells _ c.from_residual-in_err-vector-in-Some-lowest.result reading last log c.from_residual-in_err-vector-in-Some-lowest.ensures.1

pub returns-in-Some-lowest-clause-stands : goal.returns-in-Some-lowest-clause-stands
returns-in-Some-lowest-clause-stands c = λ tells log reading last front won.
    let found : Some (placed c.in-Some-lowest.lowest) ≡ first_of (conflict_by c.args.what.now (live_in c.args.front.state)) 0 (commits_of c.args.winners.commits.items) =
    sym (ap (option_map placed) c.in-Some-lowest.is) ∙ c.first_conflict_of-lowest.ensures.in_state
    ∙ ap (λ (vs : List (Vec Action Global)). first_of (conflict_by c.args.what.now (live_in c.args.front.state)) 0 (commits_of vs)) c.as_slice.ensures.value in
    let named = c.in-Some-lowest.lowest in
    let K : List ℕ → Type 0 = λ key.
    IsConflict tells c.args.what.now c.args.front.base (c.args.front.latest + 1 + named.place) named.clash.rule key (id_of named.clash.vector) c.args.winners.latest log in
    let V : Option (List ℕ) → Type 0 = λ vector.
    IsConflict tells c.args.what.now c.args.front.base (c.args.front.latest + 1 + named.place) named.clash.rule c.in_ok-key-in-Some-lowest.key vector c.args.winners.latest log in
    subst V (sym c.in_ok-vector-in-Some-lowest.ensures)
    (subst K (sym c.in_ok-key-in-Some-lowest.ensures)
    (caught_conflict tells _ _ _ c.in_ok-state.state log named.place _ _ _ _ c.requires.append.reads front won found
    (λ l h. subst (λ (vs : List (Vec Action Global)). StandsFor c.in_ok-state.state (l ++ commits_of vs)) c.as_slice-2.ensures.value (c.in_ok-state.ensures l h))
    c.in_default.ensures refl))

pub returns-clause-stands : goal.returns-clause-stands
returns-clause-stands c = λ tells log reading last front won.
    let found : None ≡ first_of (conflict_by c.args.what.now (live_in c.args.front.state)) 0 (commits_of c.args.winners.commits.items) =
    sym (ap (option_map placed) c.in-None.is) ∙ c.first_conflict_of-lowest.ensures.in_state
    ∙ ap (λ (vs : List (Vec Action Global)). first_of (conflict_by c.args.what.now (live_in c.args.front.state)) 0 (commits_of vs)) c.as_slice.ensures.value in
    caught_front tells _ _ _ c.in_ok-state.state log c.requires.append.reads front won found
    (λ l h. subst (λ (vs : List (Vec Action Global)). StandsFor c.in_ok-state.state (l ++ commits_of vs)) c.as_slice-2.ensures.value (c.in_ok-state.ensures l h))
    c.in_default.ensures
