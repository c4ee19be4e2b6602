use Rattle.std.proofs.Common.{arith, rules, refl, ◌∙◌}
use Rattle.table_model.proofs.Growing.{grows_refl, grows_trans}
use Rattle.publisher.specs.Causes.{TurnCause, CountsError}
use Rattle.publisher.proofs.Causing.{cause_later}
use Rattle.publisher.proofs.Faults.{error_counts}
use Rattle.publisher.proofs.Copying.{copies_version, copies_within, copies_keep}
use Rattle.publisher.proofs.Telling.{refused_tells, more_tells, start_tells}
use Rattle.publisher.proofs.Keeping.{keeps_none}
use Rattle.publisher.proofs.publishing.publish_from.Goals as goal

pub returns-in_err-publish_version-clause-cause : goal.returns-in_err-publish_version-clause-cause
returns-in_err-publish_version-clause-cause g c =
    let i : TurnCause g.T.Steps.tells c.in_err-publish_version.field-0.0 (g.T.Steps.known c.args.caller.now) (g.T.Steps.known c.publish_version.new.caller) =
    cause_later _ _ _ _ _ c.loop-version.invariant.grows c.in_err-publish_version.ensures.cause in
    search rules

pub returns-in_err-publish_version-clause-world : goal.returns-in_err-publish_version-clause-world
returns-in_err-publish_version-clause-world g c =
    refused_tells c.args.commits.now c.loop-version.version c.staged_id.result _ _ _ c.requires.told c.loop-version.auto.version c.loop-version-test.true
    c.staged_id.ensures c.loop-version.invariant.world c.in_err-publish_version.ensures.world

pub loop-version-preserved : goal.loop-version-preserved
loop-version-preserved g c = record {
  turns = copies_version c.args.commits.now.reported c.loop-version.version _ _ _ c.loop-version.auto.version c.loop-version.invariant.turns c.in_ok-publish_version.ensures.turns;
  kept = copies_keep _ _ _ _ c.loop-version.invariant.turns c.loop-version.invariant.kept c.in_ok-publish_version.ensures.kept;
  grows = grows_trans _ _ _ c.loop-version.invariant.grows c.in_ok-publish_version.ensures.grows;
  valid = c.in_ok-publish_version.ensures.valid;
  after = g.met.T.Steps.after_both _ _ _ c.loop-version.invariant.after c.in_ok-publish_version.ensures.after;
  faults = c.in_ok-publish_version.ensures.counts ∙ c.loop-version.invariant.faults;
  published = omega (arith, c.in_ok-publish_version.ensures.published);
  world =
      more_tells c.args.commits.now c.loop-version.version c.staged_id.result _ _ _ c.requires.told c.loop-version.auto.version c.loop-version-test.true
      c.staged_id.ensures c.loop-version.invariant.world c.in_ok-publish_version.ensures.world c.in_ok-publish_version.ensures.there;
}

pub returns-in_err-publish_version-clause-counts : goal.returns-in_err-publish_version-clause-counts
returns-in_err-publish_version-clause-counts g c =
    let i : CountsError g.T.Steps.tells (g.T.Steps.known c.args.caller.now) c.in_err-publish_version.field-0.0 (g.T.Steps.known c.publish_version.new.caller) =
    error_counts _ _ (g.T.Steps.known c.args.caller.now) (g.T.Steps.known c.loop-version.caller) _ c.loop-version.invariant.faults c.in_err-publish_version.ensures.counts in
    search rules

pub loop-version-init : goal.loop-version-init
loop-version-init g c = record {
  turns = record { same = refl; gets = omega arith };
  kept = keeps_none _ _ _ refl;
  grows = grows_refl _;
  valid = c.requires.valid;
  after = g.met.T.Steps.after_same _;
  faults = refl;
  published = c.requires.catalogue.published;
  world = start_tells c.args.commits.now _ c.requires.told;
}

pub returns-in_err-publish_version-clause-turns : goal.returns-in_err-publish_version-clause-turns
returns-in_err-publish_version-clause-turns g c =
    copies_within _ _ _ _ (let i = c.loop-version-test.true in omega (arith, i))
    (copies_version c.args.commits.now.reported c.loop-version.version _ _ _ c.loop-version.auto.version c.loop-version.invariant.turns c.in_err-publish_version.ensures.turns)

pub returns-in_err-publish_version-clause-kept : goal.returns-in_err-publish_version-clause-kept
returns-in_err-publish_version-clause-kept g c =
    copies_keep _ _ _ _ c.loop-version.invariant.turns c.loop-version.invariant.kept c.in_err-publish_version.ensures.kept
