use Rattle.std.proofs.Common.{refl, rules, ◌≡◌, ◌<◌, ◌+◌, ◌-◌, ◌*◌, ℕ, length, arith, ◌∙◌, ap, sym, subst}
use Rattle.table_model.proofs.Growing.{grows_refl, grows_trans}
use Rattle.snapshot_load.specs.Causes.{ReadCause, CountsError}
use Rattle.snapshot_load.proofs.Causing.{cause_later}
use Rattle.snapshot_load.proofs.Faults.{error_counts}
use Rattle.snapshot_load.proofs.Keeping.{reads_up}
use Rattle.snapshot_load.proofs.Replaying.{reads_none, reads_more, reads_at, catalogue_kept, sound_kept, seen_same}
use Rattle.snapshot_load.proofs.TextsRead.{replay_more, replay_same, replay_at}
use Rattle.snapshot_load.proofs.loads.replay.Goals as goal

pub version_actions-requires-clause-place : goal.version_actions-requires-clause-place
version_actions-requires-clause-place g c =
    c.place_of.ensures g.T.Steps.tells _
    (catalogue_kept _ _ _ _ c.loop-version.invariant.reads c.loop-version.invariant.grows.published c.requires.catalogue)
    (λ t. omega (arith, c.requires.listed t, c.loop-version.invariant.grows.published))

pub returns-in_err-actions-clause-cause : goal.returns-in_err-actions-clause-cause
returns-in_err-actions-clause-cause g c =
    let i : ReadCause g.T.Steps.tells c.in_err-actions.field-0.0 (g.T.Steps.known c.args.caller.now) (g.T.Steps.known c.version_actions.new.caller) =
    cause_later _ _ _ _ _ c.loop-version.invariant.grows c.in_err-actions.ensures.cause in
    search rules

pub loop-version-preserved : goal.loop-version-preserved
loop-version-preserved g c =
    let now = catalogue_kept _ _ _ _ c.loop-version.invariant.reads c.loop-version.invariant.grows.published c.requires.catalogue in
    record {
      from = omega (arith, c.loop-version.invariant.from);
      reads = reads_at (2 * (c.loop-version.version - c.args.from) + 2) _ _ _ (omega (arith, c.loop-version.invariant.from)) (reads_more _ 2 _ _ _ c.loop-version.invariant.reads c.in_ok-actions.ensures.reads);
      grows = grows_trans _ _ _ c.loop-version.invariant.grows c.in_ok-actions.ensures.grows;
      valid = c.in_ok-actions.ensures.valid;
      after = g.met.T.Steps.after_both _ _ _ c.loop-version.invariant.after c.in_ok-actions.ensures.after;
      faults = c.in_ok-actions.ensures.counts ∙ c.loop-version.invariant.faults;
      state =
          let same = seen_same _ _ _ c.in_ok-actions.ensures.reads in
          let less = subst (λ n. c.loop-version.version < n) (ap length (sym same)) (omega (arith, c.loop-version-test.true, now.count, c.requires.end)) in
          replay_more _ _ _ _ _ _ less c.in_ok-actions.ensures.read c.in_ok-state.ensures.stands (replay_same _ _ _ _ _ same c.loop-version.invariant.state);
    }

pub returns-clause-state : goal.returns-clause-state
returns-clause-state g c =
    replay_at _ _ _ _ _ (omega (arith, c.loop-version-test.false, c.loop-version.auto.version-end, c.requires.from)) c.loop-version.invariant.state

pub version_actions-requires-clause-sound : goal.version_actions-requires-clause-sound
version_actions-requires-clause-sound g c = sound_kept _ _ _ _ c.loop-version.invariant.reads c.requires.sound

pub loop-version-init : goal.loop-version-init
loop-version-init g c = record {
  from = search rules;
  reads = reads_up 0 _ _ _ (omega arith) (reads_none _);
  grows = grows_refl _;
  valid = c.requires.valid;
  after = g.met.T.Steps.after_same _;
  faults = refl;
  state = c.requires.base;
}

pub returns-clause-reads : goal.returns-clause-reads
returns-clause-reads g c =
    reads_up (2 * (c.loop-version.version - c.args.from)) _ _ _ (omega (arith, c.loop-version.auto.version-end, c.requires.from)) c.loop-version.invariant.reads

pub returns-in_err-actions-clause-reads : goal.returns-in_err-actions-clause-reads
returns-in_err-actions-clause-reads g c =
    reads_up (2 * (c.loop-version.version - c.args.from) + 2) _ _ _ (omega (arith, c.loop-version-test.true, c.loop-version.auto.version-end, c.loop-version.invariant.from, c.requires.from))
    (reads_more _ 2 _ _ _ c.loop-version.invariant.reads c.in_err-actions.ensures.reads)

pub returns-in_err-state-clause-reads : goal.returns-in_err-state-clause-reads
returns-in_err-state-clause-reads g c =
    reads_up (2 * (c.loop-version.version - c.args.from) + 2) _ _ _ (omega (arith, c.loop-version-test.true, c.loop-version.auto.version-end, c.loop-version.invariant.from, c.requires.from))
    (reads_more _ 2 _ _ _ c.loop-version.invariant.reads c.in_ok-actions.ensures.reads)

pub returns-in_err-actions-clause-counts : goal.returns-in_err-actions-clause-counts
returns-in_err-actions-clause-counts g c =
    let i : CountsError g.T.Steps.tells (g.T.Steps.known c.args.caller.now) c.in_err-actions.field-0.0 (g.T.Steps.known c.version_actions.new.caller) =
    error_counts _ _ (g.T.Steps.known c.args.caller.now) (g.T.Steps.known c.loop-version.caller) _ c.loop-version.invariant.faults c.in_err-actions.ensures.counts in
    search rules

pub returns-in_err-state-clause-grows : goal.returns-in_err-state-clause-grows
returns-in_err-state-clause-grows g c = grows_trans _ _ _ c.loop-version.invariant.grows c.in_ok-actions.ensures.grows

pub returns-in_err-state-clause-after : goal.returns-in_err-state-clause-after
returns-in_err-state-clause-after g c = g.met.T.Steps.after_both _ _ _ c.loop-version.invariant.after c.in_ok-actions.ensures.after
