use Rattle.std.proofs.Common.{refl, rules, ◌≡◌, ◌<◌, ◌+◌, ◌-◌, ◌*◌, ℕ, [], length, arith, ◌∙◌, ap, sym, subst}
use Rattle.std.specs.Int.{w64}
use Rattle.std.proofs.lemmas.Int.{to_z-of_z}
use Rattle.table_model.proofs.Growing.{grows_refl, grows_trans}
use Rattle.snapshot_load.specs.Causes.{ReadCause, CountsError}
use Rattle.snapshot_load.proofs.Causing.{cause_later}
use Rattle.snapshot_load.proofs.Faults.{error_counts}
use Rattle.snapshot_load.proofs.Keeping.{reads_up}
use Rattle.snapshot_load.proofs.Replaying.{reads_none, reads_more, reads_at, catalogue_kept, sound_kept, seen_same}
use Rattle.snapshot_load.proofs.TextsRead.{times_read_none, times_read_more, times_read_same, times_read_at}
use Rattle.snapshot_load.proofs.past.times_from.Goals as goal

pub version_time-requires-clause-place : goal.version_time-requires-clause-place
version_time-requires-clause-place g c =
    c.place_of.ensures g.T.Steps.tells _
    (catalogue_kept _ _ _ _ c.loop-version.invariant.reads c.loop-version.invariant.grows.published c.requires.catalogue)
    (λ t. omega (arith, c.requires.listed t, c.loop-version.invariant.grows.published))

pub returns-in_err-time-clause-cause : goal.returns-in_err-time-clause-cause
returns-in_err-time-clause-cause g c =
    let i : ReadCause g.T.Steps.tells c.in_err-time.field-0.0 (g.T.Steps.known c.args.caller.now) (g.T.Steps.known c.version_time.new.caller) =
    cause_later _ _ _ _ _ c.loop-version.invariant.grows c.in_err-time.ensures.cause in
    search rules

pub loop-version-preserved : goal.loop-version-preserved
loop-version-preserved g c =
    let now = catalogue_kept _ _ _ _ c.loop-version.invariant.reads c.loop-version.invariant.grows.published c.requires.catalogue in
    record {
      from = omega (arith, c.loop-version.invariant.from);
      reads = reads_at (2 * (c.loop-version.version - c.args.from) + 2) _ _ _ (omega (arith, c.loop-version.invariant.from)) (reads_more _ 2 _ _ _ c.loop-version.invariant.reads c.in_ok-time.ensures.reads);
      grows = grows_trans _ _ _ c.loop-version.invariant.grows c.in_ok-time.ensures.grows;
      valid = c.in_ok-time.ensures.valid;
      after = g.met.T.Steps.after_both _ _ _ c.loop-version.invariant.after c.in_ok-time.ensures.after;
      faults = c.in_ok-time.ensures.counts ∙ c.loop-version.invariant.faults;
      times =
          let same = seen_same _ _ _ c.in_ok-time.ensures.reads in
          let less = subst (λ n. c.loop-version.version < n) (ap length (sym same)) (omega (arith, c.loop-version-test.true, now.count, c.requires.end)) in
          rw (c.in_ok-push.ensures.items, to_z-of_z w64 c.in_ok-time.time (search rules))
          (times_read_more _ _ _ _ _ _ c.loop-version.invariant.from less c.in_ok-time.ensures.time (times_read_same _ _ _ _ _ _ same c.loop-version.invariant.times));
    }

pub returns-clause-times : goal.returns-clause-times
returns-clause-times g c =
    times_read_at _ _ _ _ _ _ (omega (arith, c.loop-version-test.false, c.loop-version.auto.version-end, c.requires.from)) c.loop-version.invariant.times

pub version_time-requires-clause-sound : goal.version_time-requires-clause-sound
version_time-requires-clause-sound g c = sound_kept _ _ _ _ c.loop-version.invariant.reads c.requires.sound

pub loop-version-init : goal.loop-version-init
loop-version-init g c = record {
  from = search rules;
  reads = reads_up 0 _ _ _ (omega arith) (reads_none _);
  grows = grows_refl _;
  valid = c.requires.valid;
  after = g.met.T.Steps.after_same _;
  faults = refl;
  times = (let e : c.new-times.result.items ≡ [] = search rules in rw e (times_read_none _ _ _ _ (omega arith)));
}

pub returns-clause-reads : goal.returns-clause-reads
returns-clause-reads g c =
    reads_up (2 * (c.loop-version.version - c.args.from)) _ _ _ (omega (arith, c.loop-version.auto.version-end, c.requires.from)) c.loop-version.invariant.reads

pub returns-in_err-time-clause-reads : goal.returns-in_err-time-clause-reads
returns-in_err-time-clause-reads g c =
    reads_up (2 * (c.loop-version.version - c.args.from) + 2) _ _ _ (omega (arith, c.loop-version-test.true, c.loop-version.auto.version-end, c.loop-version.invariant.from, c.requires.from))
    (reads_more _ 2 _ _ _ c.loop-version.invariant.reads c.in_err-time.ensures.reads)

pub returns-in_err-push-clause-reads : goal.returns-in_err-push-clause-reads
returns-in_err-push-clause-reads g c =
    reads_up (2 * (c.loop-version.version - c.args.from) + 2) _ _ _ (omega (arith, c.loop-version-test.true, c.loop-version.auto.version-end, c.loop-version.invariant.from, c.requires.from))
    (reads_more _ 2 _ _ _ c.loop-version.invariant.reads c.in_ok-time.ensures.reads)

pub returns-in_err-time-clause-counts : goal.returns-in_err-time-clause-counts
returns-in_err-time-clause-counts g c =
    let i : CountsError g.T.Steps.tells (g.T.Steps.known c.args.caller.now) c.in_err-time.field-0.0 (g.T.Steps.known c.version_time.new.caller) =
    error_counts _ _ (g.T.Steps.known c.args.caller.now) (g.T.Steps.known c.loop-version.caller) _ c.loop-version.invariant.faults c.in_err-time.ensures.counts in
    search rules

pub returns-in_err-push-clause-grows : goal.returns-in_err-push-clause-grows
returns-in_err-push-clause-grows g c = grows_trans _ _ _ c.loop-version.invariant.grows c.in_ok-time.ensures.grows

pub returns-in_err-push-clause-after : goal.returns-in_err-push-clause-after
returns-in_err-push-clause-after g c = g.met.T.Steps.after_both _ _ _ c.loop-version.invariant.after c.in_ok-time.ensures.after

pub returns-in_err-time-clause-grows : goal.returns-in_err-time-clause-grows
returns-in_err-time-clause-grows g c = grows_trans _ _ _ c.loop-version.invariant.grows c.in_err-time.ensures.grows
