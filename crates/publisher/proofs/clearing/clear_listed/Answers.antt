use Rattle.std.proofs.Common.{rules, refl, arith, true, ◌∙◌}
use Rattle.table_model.proofs.Growing.{grows_refl, grows_trans}
use Rattle.publisher.specs.Causes.{TurnCause, CountsError}
use Rattle.publisher.proofs.Causing.{cause_later}
use Rattle.publisher.proofs.Faults.{error_counts}
use Rattle.publisher.proofs.Counting.{names_none, names_more, names_skip, names_all, not_clearable, only_trans}
use Rattle.publisher.proofs.Removing.{clears_start, clears_more, cleared_skip, cleared_more, cleared_none}
use Rattle.publisher.proofs.clearing.clear_listed.Goals as goal

pub loop-listed-init : goal.loop-listed-init
loop-listed-init g c = record {
  small = omega arith;
  turns = record { same = refl };
  grows = grows_refl _;
  valid = c.requires.valid;
  after = g.met.T.Steps.after_same _;
  faults = refl;
  cleared = names_none _ _;
  world = clears_start _ _;
  gone = cleared_none _ c.args.names.now _;
}

pub loop-listed-preserved-in_default : goal.loop-listed-preserved-in_default
loop-listed-preserved-in_default g c = record {
  small = omega (arith, c.loop-listed.invariant.small);
  turns = c.loop-listed.invariant.turns;
  grows = c.loop-listed.invariant.grows;
  valid = c.loop-listed.invariant.valid;
  after = c.loop-listed.invariant.after;
  faults = c.loop-listed.invariant.faults;
  cleared = names_skip _ _ _ _ _ _ _ c.loop-listed-test.true c.in_default.ensures c.loop-listed.invariant.cleared;
  world = c.loop-listed.invariant.world;
  gone = cleared_skip _ _ _ _ _ c.loop-listed-test.true (λ version id below is. not_clearable _ version id _ c.in_default.ensures below is) c.loop-listed.invariant.gone;
}

pub returns-in_err-cleared-clause-cause : goal.returns-in_err-cleared-clause-cause
returns-in_err-cleared-clause-cause g c =
    let i : TurnCause true c.in_err-cleared.field-0.0 (g.T.Steps.known c.args.caller.now) (g.T.Steps.known c.clear_file.new.caller) =
    cause_later _ _ _ _ _ c.loop-listed.invariant.grows c.in_err-cleared.ensures.cause in
    search rules

pub returns-in_err-cleared-clause-world : goal.returns-in_err-cleared-clause-world
returns-in_err-cleared-clause-world g c =
    clears_more c.in-Some.version c.args.reported _ _ _ c.in-Some.ensures.1 c.loop-listed.invariant.world c.in_err-cleared.ensures.world

pub loop-listed-preserved : goal.loop-listed-preserved
loop-listed-preserved g c = record {
  small = omega (arith, c.loop-listed.invariant.small, c.in_ok-cleared.ensures.small);
  turns = only_trans _ _ _ c.loop-listed.invariant.turns c.in_ok-cleared.ensures.turns;
  grows = grows_trans _ _ _ c.loop-listed.invariant.grows c.in_ok-cleared.ensures.grows;
  valid = c.in_ok-cleared.ensures.valid;
  after = g.met.T.Steps.after_both _ _ _ c.loop-listed.invariant.after c.in_ok-cleared.ensures.after;
  faults = c.in_ok-cleared.ensures.counts ∙ c.loop-listed.invariant.faults;
  cleared = names_more _ _ _ _ _ _ _ _ _ _ _ c.loop-listed-test.true c.in-Some.ensures.0 c.in-Some.ensures.1 c.loop-listed.invariant.cleared c.in_ok-cleared.ensures.cleared;
  world = clears_more c.in-Some.version c.args.reported _ _ _ c.in-Some.ensures.1 c.loop-listed.invariant.world c.in_ok-cleared.ensures.world;
  gone =
      cleared_more _ _ _ _ c.in-Some.version c.in-Some.id _ _ c.loop-listed-test.true c.in-Some.ensures.0 c.loop-listed.invariant.gone c.in_ok-cleared.ensures.world
      c.in_ok-cleared.ensures.gone;
}

pub returns-clause-cleared : goal.returns-clause-cleared
returns-clause-cleared g c = names_all _ _ _ _ _ _ c.loop-listed-test.false c.loop-listed.invariant.cleared

pub returns-in_err-cleared-clause-counts : goal.returns-in_err-cleared-clause-counts
returns-in_err-cleared-clause-counts g c =
    let i : CountsError true (g.T.Steps.known c.args.caller.now) c.in_err-cleared.field-0.0 (g.T.Steps.known c.clear_file.new.caller) =
    error_counts _ _ (g.T.Steps.known c.args.caller.now) (g.T.Steps.known c.loop-listed.caller) _ c.loop-listed.invariant.faults c.in_err-cleared.ensures.counts in
    search rules
