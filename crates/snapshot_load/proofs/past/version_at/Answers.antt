use Rattle.std.proofs.Common.{refl, rules, ◌≡◌, ◌<◌, ◌+◌, ◌-◌, ◌*◌, ℕ, ℤ, List, length, arith, ◌∙◌, ap, sym, subst}
use Rattle.std.specs.Int.{w64}
use Rattle.std.proofs.lemmas.Int.{to_z-of_z}
use Rattle.std.specs.Prelude.{IfSome}
use Rattle.std.proofs.lemmas.List.{length-map}
use Rattle.commit_timestamps.specs.Digits.{binary_digits}
use Rattle.commit_timestamps.specs.Search.{Agrees, HasTime}
use Rattle.table_model.specs.Log.{Commit, commit_time}
use Rattle.snapshot_load.specs.Texts.{times_of}
use Rattle.snapshot_load.proofs.Rising.{times_rise}
use Rattle.snapshot_load.proofs.TextsRead.{has_time_read, agrees_more, version_within}
use Rattle.table_model.proofs.Growing.{grows_refl, grows_trans}
use Rattle.snapshot_load.specs.Causes.{ReadCause, CountsError}
use Rattle.snapshot_load.proofs.Causing.{cause_later}
use Rattle.snapshot_load.proofs.Faults.{error_counts}
use Rattle.snapshot_load.proofs.Keeping.{reads_up}
use Rattle.snapshot_load.proofs.Replaying.{reads_none, reads_more, reads_at, catalogue_kept, sound_kept, seen_same}
use Rattle.snapshot_load.proofs.past.version_at.Goals as goal

pub version_time-requires-clause-place : goal.version_time-requires-clause-place
version_time-requires-clause-place g c =
    c.place_of.ensures g.T.Steps.tells _
    (catalogue_kept _ _ _ _ c.loop-version.invariant.reads c.loop-version.invariant.grows.published c.requires.catalogue)
    (λ t. omega (arith, c.requires.listed t, c.loop-version.invariant.grows.published))

pub returns-in_err-found-clause-cause : goal.returns-in_err-found-clause-cause
returns-in_err-found-clause-cause g c =
    let i : ReadCause g.T.Steps.tells c.in_err-found.field-0.0 (g.T.Steps.known c.args.caller.now) (g.T.Steps.known c.version_time.new.caller) =
    cause_later _ _ _ _ _ c.loop-version.invariant.grows c.in_err-found.ensures.cause in
    search rules

pub version_time-requires-clause-sound : goal.version_time-requires-clause-sound
version_time-requires-clause-sound g c = sound_kept _ _ _ _ c.loop-version.invariant.reads c.requires.sound

pub returns-in_err-found-clause-counts : goal.returns-in_err-found-clause-counts
returns-in_err-found-clause-counts g c =
    let i : CountsError g.T.Steps.tells (g.T.Steps.known c.args.caller.now) c.in_err-found.field-0.0 (g.T.Steps.known c.version_time.new.caller) =
    error_counts _ _ (g.T.Steps.known c.args.caller.now) (g.T.Steps.known c.loop-version.caller) _ c.loop-version.invariant.faults c.in_err-found.ensures.counts in
    search rules

pub returns-in_err-found-clause-grows : goal.returns-in_err-found-clause-grows
returns-in_err-found-clause-grows g c = grows_trans _ _ _ c.loop-version.invariant.grows c.in_err-found.ensures.grows

pub loop-version-init : goal.loop-version-init
loop-version-init g c = record {
  left = (let e = c.new-search.ensures.left in omega (arith, e));
  versions = c.new-search.ensures.versions;
  time = c.new-search.ensures.time;
  reads = reads_up 0 _ _ _ (omega arith) (reads_none _);
  grows = grows_refl _;
  valid = c.requires.valid;
  after = g.met.T.Steps.after_same _;
  faults = refl;
  agrees =
      λ t. c.new-search.ensures.agrees (times_of (g.T.Steps.known c.args.caller.now).seen)
      (length-map (g.T.Steps.known c.args.caller.now).seen (λ (d : Commit). commit_time d.bytes) ∙ sym c.requires.catalogue.count)
      (times_rise (g.T.Steps.known c.args.caller.now).seen (c.requires.sound t));
}

pub loop-version-preserved : goal.loop-version-preserved
loop-version-preserved g c =
    let now = catalogue_kept _ _ _ _ c.loop-version.invariant.reads c.loop-version.invariant.grows.published c.requires.catalogue in
    let fewer = c.answer.ensures.fewer in
    let left = c.loop-version.invariant.left in
    let same = seen_same _ _ _ c.in_ok-found.ensures.reads in
    record {
      left = omega (arith, fewer, left);
      versions = c.answer.ensures.versions ∙ c.loop-version.invariant.versions;
      time = c.answer.ensures.time ∙ c.loop-version.invariant.time;
      reads =
          reads_up (2 * (binary_digits c.args.commits.now.count - c.loop-version.search.left) + 2) _ _ _ (omega (arith, fewer, left))
          (reads_more _ 2 _ _ _ c.loop-version.invariant.reads c.in_ok-found.ensures.reads);
      grows = grows_trans _ _ _ c.loop-version.invariant.grows c.in_ok-found.ensures.grows;
      valid = c.in_ok-found.ensures.valid;
      after = g.met.T.Steps.after_both _ _ _ c.loop-version.invariant.after c.in_ok-found.ensures.after;
      faults = c.in_ok-found.ensures.counts ∙ c.loop-version.invariant.faults;
      agrees =
          λ t.
          let less : c.in-Some.version < length (g.T.Steps.known c.version_time.new.caller).seen =
          (let v = c.in-Some.ensures.is_version in let n = c.loop-version.invariant.versions in let e = ap length same in omega (arith, v, n, e, now.count)) in
          let read = subst (λ (z : ℤ). HasTime (times_of (g.T.Steps.known c.version_time.new.caller).seen) c.in-Some.version z) (sym (to_z-of_z w64 c.in_ok-found.found (search rules))) (has_time_read _ _ _ _ less c.in_ok-found.ensures.time t) in
          agrees_more _ _ _ c.in-Some.version _ c.in-Some.ensures.asks c.answer.ensures.agrees
          (subst (λ (l : List Commit). Agrees c.loop-version.search (times_of l)) (sym same) (c.loop-version.invariant.agrees t)) read;
    }

pub returns-in_err-found-clause-reads : goal.returns-in_err-found-clause-reads
returns-in_err-found-clause-reads g c =
    let left = c.loop-version.invariant.left in
    let some = c.in-Some.ensures.left in
    reads_up (2 * (binary_digits c.args.commits.now.count - c.loop-version.search.left) + 2) _ _ _ (omega (arith, left, some))
    (reads_more _ 2 _ _ _ c.loop-version.invariant.reads c.in_err-found.ensures.reads)

pub returns-clause-at : goal.returns-clause-at
returns-clause-at g c = λ t.
    let is = c.result.ensures.greatest _ (c.loop-version.invariant.agrees t) in
    let now = catalogue_kept _ _ _ _ c.loop-version.invariant.reads c.loop-version.invariant.grows.published c.requires.catalogue in
    let length_is : length (times_of (g.T.Steps.known c.loop-version.caller).seen) ≡ c.args.commits.now.count =
    length-map (g.T.Steps.known c.loop-version.caller).seen (λ (d : Commit). commit_time d.bytes) ∙ sym now.count in
    let within = subst (λ (n : ℕ). IfSome c.result.result (λ v. v < n)) length_is (version_within _ _ c.result.result is) in
    let back = c.one_of.ensures.same within in
    let asked : c.loop-version.search.time ≡ c.args.time = c.loop-version.invariant.time ∙ to_z-of_z w64 c.args.time (search rules) in
    rw (back, sym asked) is
