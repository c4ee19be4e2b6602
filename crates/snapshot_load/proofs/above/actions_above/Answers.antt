use Rattle.std.proofs.Common.{refl, rules, ◌+◌, ◌*◌, vec_len, arith, ◌∙◌}
use Rattle.table_model.proofs.Growing.{grows_refl, grows_trans}
use Rattle.snapshot_load.specs.Causes.{ReadCause, CountsError}
use Rattle.snapshot_load.proofs.Causing.{cause_later}
use Rattle.snapshot_load.proofs.Faults.{error_counts}
use Rattle.snapshot_load.proofs.Keeping.{reads_up}
use Rattle.snapshot_load.proofs.Replaying.{reads_none, reads_more, reads_version, catalogue_kept, winners_step, winners_all, sound_kept, seen_same}
use Rattle.snapshot_load.proofs.TextsRead.{actions_read_none, actions_read_more}
use Rattle.snapshot_load.proofs.above.actions_above.Goals as goal

pub version_actions-requires-clause-place : goal.version_actions-requires-clause-place
version_actions-requires-clause-place g c =
    c.place_of.ensures g.T.Steps.tells _
    (catalogue_kept _ _ _ _ c.loop-version.invariant.reads c.loop-version.invariant.grows.published c.requires.catalogue)
    (λ t. omega arith)

pub returns-in_err-actions-clause-cause : goal.returns-in_err-actions-clause-cause
returns-in_err-actions-clause-cause g c =
    let i : ReadCause g.T.Steps.tells c.in_err-actions.field-0.0 (g.T.Steps.known c.args.caller.now) (g.T.Steps.known c.version_actions.new.caller) =
    cause_later _ _ _ _ _ c.loop-version.invariant.grows c.in_err-actions.ensures.cause in
    search rules

pub loop-version-preserved : goal.loop-version-preserved
loop-version-preserved g c =
    let now = catalogue_kept _ _ _ _ c.loop-version.invariant.reads c.loop-version.invariant.grows.published c.requires.catalogue in
    record {
      reads = rw c.in_ok-push.ensures.len (reads_version _ _ _ _ c.loop-version.invariant.reads c.in_ok-actions.ensures.reads);
      grows = grows_trans _ _ _ c.loop-version.invariant.grows c.in_ok-actions.ensures.grows;
      valid = c.in_ok-actions.ensures.valid;
      after = g.met.T.Steps.after_both _ _ _ c.loop-version.invariant.after c.in_ok-actions.ensures.after;
      faults = c.in_ok-actions.ensures.counts ∙ c.loop-version.invariant.faults;
      count = omega (arith, c.loop-version.invariant.count, c.in_ok-push.ensures.len);
      actions =
          λ t. rw (c.in_ok-push.ensures.items, c.in_ok-push.ensures.len)
          (winners_step _ _ _ _ _ _ _ c.loop-version.invariant.count c.in_ok-actions.ensures.reads (omega (arith, c.loop-version-test.true, now.count))
          (c.in_ok-actions.ensures.actions t) (c.loop-version.invariant.actions t));
      read =
          rw (c.in_ok-push.ensures.items, c.in_ok-push.ensures.len)
          (actions_read_more _ _ _ _ _ _ _ _ (seen_same _ _ _ c.in_ok-actions.ensures.reads) c.loop-version.invariant.count (omega (arith, c.loop-version-test.true, now.count))
          c.in_ok-actions.ensures.read c.loop-version.invariant.read);
    }

pub returns-clause-actions : goal.returns-clause-actions
returns-clause-actions g c = λ t.
    let now = catalogue_kept _ _ _ _ c.loop-version.invariant.reads c.loop-version.invariant.grows.published c.requires.catalogue in
    c.loop-version.invariant.actions t ∙ winners_all (g.T.Steps.known c.loop-version.caller).seen (c.args.after + 1) (vec_len c.loop-version.winners) (omega (arith, c.loop-version.invariant.count, c.loop-version-test.false, now.count))

pub version_actions-requires-clause-sound : goal.version_actions-requires-clause-sound
version_actions-requires-clause-sound g c = sound_kept _ _ _ _ c.loop-version.invariant.reads c.requires.sound

pub returns-in_err-actions-clause-reads : goal.returns-in_err-actions-clause-reads
returns-in_err-actions-clause-reads g c =
    reads_up (2 * vec_len c.loop-version.winners + 2) _ _ _ (omega (arith, c.loop-version-test.true, c.loop-version.auto.version-end, c.loop-version.invariant.count))
    (reads_more _ 2 _ _ _ c.loop-version.invariant.reads c.in_err-actions.ensures.reads)

pub returns-in_err-push-clause-reads : goal.returns-in_err-push-clause-reads
returns-in_err-push-clause-reads g c =
    reads_up (2 * vec_len c.loop-version.winners + 2) _ _ _ (omega (arith, c.loop-version-test.true, c.loop-version.auto.version-end, c.loop-version.invariant.count))
    (reads_more _ 2 _ _ _ c.loop-version.invariant.reads c.in_ok-actions.ensures.reads)

pub loop-version-init : goal.loop-version-init
loop-version-init g c = record {
  reads = reads_up 0 _ _ _ (omega arith) (reads_none _);
  grows = grows_refl _;
  valid = c.requires.valid;
  after = g.met.T.Steps.after_same _;
  faults = refl;
  count = search rules;
  actions = search rules;
  read = actions_read_none _ _ _ _ _ (search rules) (search rules);
}

pub returns-in_err-actions-clause-counts : goal.returns-in_err-actions-clause-counts
returns-in_err-actions-clause-counts g c =
    let i : CountsError g.T.Steps.tells (g.T.Steps.known c.args.caller.now) c.in_err-actions.field-0.0 (g.T.Steps.known c.version_actions.new.caller) =
    error_counts _ _ (g.T.Steps.known c.args.caller.now) (g.T.Steps.known c.loop-version.caller) _ c.loop-version.invariant.faults c.in_err-actions.ensures.counts in
    search rules

pub returns-in_err-push-clause-grows : goal.returns-in_err-push-clause-grows
returns-in_err-push-clause-grows g c = grows_trans _ _ _ c.loop-version.invariant.grows c.in_ok-actions.ensures.grows

pub returns-in_err-actions-clause-grows : goal.returns-in_err-actions-clause-grows
returns-in_err-actions-clause-grows g c = grows_trans _ _ _ c.loop-version.invariant.grows c.in_err-actions.ensures.grows
