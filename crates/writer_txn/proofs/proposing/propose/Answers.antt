use Rattle.std.proofs.Common.{rules, ◌≡◌, ◌∙◌, ap, sym, subst, ℕ, ℤ, List}
use Rattle.std.specs.Int.{w64}
use Rattle.std.proofs.lemmas.Int.{to_z-of_z}
use Rattle.table_model.specs.Conditions.{MayRatify}
use Rattle.writer_txn.specs.Counting.{CountsStop}
use Rattle.writer_txn.specs.Proposing.{staged_noted, HasStopped}
use Rattle.writer_txn.proofs.Proposals.{may_ratify, ratified, full, stage_stopped}
use Rattle.std.specs.Prelude.{Err, []}
use Rattle.log_names.specs.declared.LogName.TheVariants as name
use Rattle.table_model.specs.Knowledge.{Knowledge}
use Rattle.writer_txn.proofs.Faults.{memory_counts, putting_counts, stop_later}
use Rattle.writer_txn.proofs.Naming.{puts_none, puts_one, puts_kept, stage_puts, ratify_puts}
use Rattle.writer_txn.proofs.proposing.propose.Goals as goal

pub returns-in_err-stage-clause-proposed : goal.returns-in_err-stage-clause-proposed
returns-in_err-stage-clause-proposed g c =
    let h : HasStopped c.in_err-stage.field-0.0 (g.T.Steps.known c.args.caller.now) (g.T.Steps.known c.stage.new.self) =
    stage_stopped c.args.version c.args.id _ _ _ c.in_err-stage.ensures.learns in
    search rules

pub ratify-requires : goal.ratify-requires
ratify-requires g c =
    let staged : g.T.Steps.known c.stage.new.self ≡ staged_noted c.args.version c.args.id c.args.commit.now.bytes.items (g.T.Steps.known c.args.caller.now) =
    (rw c.in-Done.is at c.in_ok-stage.ensures.learns)
    ∙ ap (λ (bytes : List ℕ). staged_noted c.args.version c.args.id bytes (g.T.Steps.known c.args.caller.now)) c.as_slice.ensures.value in
    subst (λ (t : ℤ). MayRatify g.T.Steps.tells (g.T.Steps.known c.stage.new.self) c.args.version c.args.id t)
    (sym (to_z-of_z w64 c.args.commit.now.time (search rules)))
    (may_ratify _ _ _ _ _ _ _ c.requires.next staged c.requires.commit c.requires.timed)

pub returns-in-Done-2-clause-proposed : goal.returns-in-Done-2-clause-proposed
returns-in-Done-2-clause-proposed g c =
    let staged : g.T.Steps.known c.stage.new.self ≡ staged_noted c.args.version c.args.id c.args.commit.now.bytes.items (g.T.Steps.known c.args.caller.now) =
    (rw c.in-Done.is at c.in_ok-stage.ensures.learns)
    ∙ ap (λ (bytes : List ℕ). staged_noted c.args.version c.args.id bytes (g.T.Steps.known c.args.caller.now)) c.as_slice.ensures.value in
    ratified _ _ _ _ _ _ _ staged (rw c.in-Done-2.is at c.in_ok-ratify.ensures.learns)

pub returns-in-Full-clause-proposed : goal.returns-in-Full-clause-proposed
returns-in-Full-clause-proposed g c =
    let staged : g.T.Steps.known c.stage.new.self ≡ staged_noted c.args.version c.args.id c.args.commit.now.bytes.items (g.T.Steps.known c.args.caller.now) =
    (rw c.in-Done.is at c.in_ok-stage.ensures.learns)
    ∙ ap (λ (bytes : List ℕ). staged_noted c.args.version c.args.id bytes (g.T.Steps.known c.args.caller.now)) c.as_slice.ensures.value in
    full _ _ _ _ _ _ _ c.requires.next staged (rw c.in-Full.is at c.in_ok-ratify.ensures.learns)

pub returns-in_err-stage-clause-puts : goal.returns-in_err-stage-clause-puts
returns-in_err-stage-clause-puts g c = stage_puts c.args.version c.args.id [] _ (Err c.in_err-stage.field-0.0) _ c.in_err-stage.ensures.learns

pub returns-in-Taken-clause-puts : goal.returns-in-Taken-clause-puts
returns-in-Taken-clause-puts g c = puts_none _ _ _ (ap (λ (x : Knowledge). x.put) (rw c.in-Taken.is at c.in_ok-stage.ensures.learns))

pub returns-in_err-ratify-clause-puts : goal.returns-in_err-ratify-clause-puts
returns-in_err-ratify-clause-puts g c =
    let staged = puts_one (name.Staged c.args.version c.args.id) (g.T.Steps.known c.args.caller.now) (g.T.Steps.known c.stage.new.self) (ap (λ (x : Knowledge). x.put) (rw c.in-Done.is at c.in_ok-stage.ensures.learns)) in
    puts_kept _ _ _ _ staged (ratify_puts g.T.Steps.tells c.args.version c.args.id _ (Err c.in_err-ratify.field-0.0) _ c.in_err-ratify.ensures.learns)

pub returns-in-Done-2-clause-puts : goal.returns-in-Done-2-clause-puts
returns-in-Done-2-clause-puts g c =
    let staged = puts_one (name.Staged c.args.version c.args.id) (g.T.Steps.known c.args.caller.now) (g.T.Steps.known c.stage.new.self) (ap (λ (x : Knowledge). x.put) (rw c.in-Done.is at c.in_ok-stage.ensures.learns)) in
    let learnt = rw c.in-Done-2.is at c.in_ok-ratify.ensures.learns in
    puts_kept _ _ _ _ staged (ap (λ (x : Knowledge). x.put) learnt.same)

pub returns-in-Lost-clause-puts : goal.returns-in-Lost-clause-puts
returns-in-Lost-clause-puts g c =
    let staged = puts_one (name.Staged c.args.version c.args.id) (g.T.Steps.known c.args.caller.now) (g.T.Steps.known c.stage.new.self) (ap (λ (x : Knowledge). x.put) (rw c.in-Done.is at c.in_ok-stage.ensures.learns)) in
    let learnt = rw c.in-Lost.is at c.in_ok-ratify.ensures.learns in
    puts_kept _ _ _ _ staged (ap (λ (x : Knowledge). x.put) learnt.same)

pub returns-in-Full-clause-puts : goal.returns-in-Full-clause-puts
returns-in-Full-clause-puts g c =
    let staged = puts_one (name.Staged c.args.version c.args.id) (g.T.Steps.known c.args.caller.now) (g.T.Steps.known c.stage.new.self) (ap (λ (x : Knowledge). x.put) (rw c.in-Done.is at c.in_ok-stage.ensures.learns)) in
    let learnt = rw c.in-Full.is at c.in_ok-ratify.ensures.learns in
    puts_kept _ _ _ _ staged (ap (λ (x : Knowledge). x.put) learnt.same)

pub returns-in_err-stage-clause-counts : goal.returns-in_err-stage-clause-counts
returns-in_err-stage-clause-counts g c =
    let i : CountsStop (g.T.Steps.known c.args.caller.now) c.in_err-stage.field-0.0 (g.T.Steps.known c.stage.new.self) =
    putting_counts (name.Staged c.args.version c.args.id) _ c.in_err-stage.field-0.0 _ c.in_err-stage.ensures.learns in
    search rules

pub returns-in-Taken-clause-counts : goal.returns-in-Taken-clause-counts
returns-in-Taken-clause-counts g c = ap (λ (x : Knowledge). x.faults) (rw c.in-Taken.is at c.in_ok-stage.ensures.learns)

pub returns-in_err-ratify-clause-counts : goal.returns-in_err-ratify-clause-counts
returns-in_err-ratify-clause-counts g c =
    let staged : (g.T.Steps.known c.stage.new.self).faults ≡ (g.T.Steps.known c.args.caller.now).faults = ap (λ (x : Knowledge). x.faults) (rw c.in-Done.is at c.in_ok-stage.ensures.learns) in
    let i : CountsStop (g.T.Steps.known c.args.caller.now) c.in_err-ratify.field-0.0 (g.T.Steps.known c.ratify.new.self) =
    stop_later c.in_err-ratify.field-0.0 (g.T.Steps.known c.args.caller.now) (g.T.Steps.known c.stage.new.self) _ staged
    (memory_counts _ c.in_err-ratify.field-0.0 _ c.in_err-ratify.ensures.learns) in
    search rules

pub returns-in-Done-2-clause-counts : goal.returns-in-Done-2-clause-counts
returns-in-Done-2-clause-counts g c =
    let staged : (g.T.Steps.known c.stage.new.self).faults ≡ (g.T.Steps.known c.args.caller.now).faults = ap (λ (x : Knowledge). x.faults) (rw c.in-Done.is at c.in_ok-stage.ensures.learns) in
    let learnt = rw c.in-Done-2.is at c.in_ok-ratify.ensures.learns in
    ap (λ (x : Knowledge). x.faults) learnt.same ∙ staged

pub returns-in-Lost-clause-counts : goal.returns-in-Lost-clause-counts
returns-in-Lost-clause-counts g c =
    let staged : (g.T.Steps.known c.stage.new.self).faults ≡ (g.T.Steps.known c.args.caller.now).faults = ap (λ (x : Knowledge). x.faults) (rw c.in-Done.is at c.in_ok-stage.ensures.learns) in
    let learnt = rw c.in-Lost.is at c.in_ok-ratify.ensures.learns in
    ap (λ (x : Knowledge). x.faults) learnt.same ∙ staged

pub returns-in-Full-clause-counts : goal.returns-in-Full-clause-counts
returns-in-Full-clause-counts g c =
    let staged : (g.T.Steps.known c.stage.new.self).faults ≡ (g.T.Steps.known c.args.caller.now).faults = ap (λ (x : Knowledge). x.faults) (rw c.in-Done.is at c.in_ok-stage.ensures.learns) in
    let learnt = rw c.in-Full.is at c.in_ok-ratify.ensures.learns in
    ap (λ (x : Knowledge). x.faults) learnt.same ∙ staged
