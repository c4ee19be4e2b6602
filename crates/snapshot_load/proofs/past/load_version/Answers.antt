use Rattle.std.proofs.Common.{rules, ◌≡◌, ◌≤◌, ◌*◌, ◌<◌, ◌∙◌, ℕ, arith, length, subst, sym, ap}
use Rattle.std.specs.Prelude.{Contains}
use Rattle.log_names.specs.declared.LogName.TheVariants as name
use Rattle.snapshot_load.specs.Causes.{VersionCause}
use Rattle.snapshot_load.specs.Converting.{of_fault}
use Rattle.snapshot_load.proofs.Causing.{version_unasked, answer_version, version_cause, read_refused, seen_more}
use Rattle.snapshot_load.proofs.Keeping.{loads_refused, loads_asked, loads_listed, loads_unlisted, loads_read}
use Rattle.snapshot_load.proofs.Replaying.{seen_same}
use Rattle.snapshot_load.proofs.Listing.{listed_published}
use Rattle.table_model.proofs.Growing.{grows_trans}
use Rattle.table_model.specs.Knowledge.{Knowledge}
use Rattle.snapshot_load.proofs.Faults.{answer_counts}
use Rattle.snapshot_load.proofs.TextsRead.{replay_none}
use Rattle.snapshot_load.proofs.Loaded.{unless_memory, asked_now, asked_listed, asked_read, asked_faults, listed_faults}
use Rattle.snapshot_load.proofs.past.load_version.Goals as goal

pub returns-in_err-commits-clause-cause : goal.returns-in_err-commits-clause-cause
returns-in_err-commits-clause-cause g c =
    let i : VersionCause g.T.Steps.tells c.args.version (of_fault c.in_err-commits.field-0.0) (g.T.Steps.known c.args.caller.now) (g.T.Steps.known c.commits.new.self) =
    version_unasked g.T.Steps.tells c.args.version (g.T.Steps.known c.args.caller.now) c.in_err-commits.field-0.0 (g.T.Steps.known c.commits.new.self) c.in_err-commits.ensures.learns in
    search rules

pub returns-in_err-names-clause-cause : goal.returns-in_err-names-clause-cause
returns-in_err-names-clause-cause g c =
    let some : c.args.version < length (g.T.Steps.known c.list.new.self).seen =
    let more = seen_more _ _ c.in_err-names.ensures.grows in omega (arith, more, c.in_ok-commits.ensures.learns.count, c.if-version-latest.false, c.if-commits-eq0.false) in
    let i : VersionCause g.T.Steps.tells c.args.version (of_fault c.in_err-names.field-0.0) (g.T.Steps.known c.args.caller.now) (g.T.Steps.known c.list.new.self) =
    version_cause _ _ _ _ _ _ c.in_ok-commits.ensures.grows some (read_refused _ _ _ _ _ c.in_err-names.ensures.learns) in
    search rules

pub snapshot_from-requires-clause-listed : goal.snapshot_from-requires-clause-listed
snapshot_from-requires-clause-listed g c = λ t.
    let shows = c.in_ok-names.ensures.learns in
    listed_published c.in_ok-names.names.items _ _ _ (shows.shows t) shows.published (subst (λ xs. (v : ℕ) → v < c.leading_published-listed.result → Contains xs (name.Published v)) c.as_slice.ensures.value c.leading_published-listed.ensures)

pub snapshot_from-requires-clause-base : goal.snapshot_from-requires-clause-base
snapshot_from-requires-clause-base g c = replay_none _ _ _ c.empty.ensures

pub returns-clause-cause : goal.returns-clause-cause
returns-clause-cause g c =
    let more = seen_more _ _ c.in_ok-names.ensures.grows in
    let most = seen_more _ _ c.snapshot_from.ensures.grows in
    answer_version _ _ _ _ _ _ (grows_trans _ _ _ c.in_ok-commits.ensures.grows c.in_ok-names.ensures.grows)
    (omega (arith, more, most, c.in_ok-commits.ensures.learns.count, c.if-version-latest.false, c.if-commits-eq0.false)) c.snapshot_from.ensures.cause

pub returns-clause-counts : goal.returns-clause-counts
returns-clause-counts g c =
    let none : (g.T.Steps.known c.list.new.self).faults ≡ (g.T.Steps.known c.args.caller.now).faults =
    listed_faults _ _ _ _ c.in_ok-names.ensures.learns ∙ asked_faults _ _ _ _ c.in_ok-commits.ensures.learns in
    answer_counts _ _ (g.T.Steps.known c.args.caller.now) (g.T.Steps.known c.list.new.self) _ none c.snapshot_from.ensures.counts

pub returns-clause-asked : goal.returns-clause-asked
returns-clause-asked g c =
    unless_memory _
    (asked_read _ _ _ _ (asked_listed _ _ _ _ _ (asked_now _ _ _ _ c.in_ok-commits.ensures.learns) c.in_ok-names.ensures.learns) c.snapshot_from.ensures.reads)

pub returns-clause-grows : goal.returns-clause-grows
returns-clause-grows g c = grows_trans _ _ _ (grows_trans _ _ _ c.in_ok-commits.ensures.grows c.in_ok-names.ensures.grows) c.snapshot_from.ensures.grows

pub returns-clause-after : goal.returns-clause-after
returns-clause-after g c =
    g.met.T.Steps.after_both _ _ _ (g.met.T.Steps.after_both _ _ _ c.in_ok-commits.ensures.after c.in_ok-names.ensures.after) c.snapshot_from.ensures.after

pub returns-in_err-commits-clause-turns : goal.returns-in_err-commits-clause-turns
returns-in_err-commits-clause-turns g c = loads_refused 1 _ _ c.in_err-commits.field-0.0 _ c.in_err-commits.ensures.learns

pub returns-then-commits-eq0-clause-turns : goal.returns-then-commits-eq0-clause-turns
returns-then-commits-eq0-clause-turns g c = loads_asked _ 1 _ _ _ _ c.in_ok-commits.ensures.learns

pub returns-in_err-names-clause-turns : goal.returns-in_err-names-clause-turns
returns-in_err-names-clause-turns g c = loads_unlisted _ _ _ _ c.in_err-names.field-0.0 _ (loads_asked _ 0 0 _ _ _ c.in_ok-commits.ensures.learns) c.in_err-names.ensures.learns

pub returns-clause-turns : goal.returns-clause-turns
returns-clause-turns g c =
    let listed = loads_listed _ 0 _ _ _ _ (loads_asked _ 0 0 _ _ _ c.in_ok-commits.ensures.learns) c.in_ok-names.ensures.learns in
    loads_read 1 _ _ _ _ _ listed c.snapshot_from.ensures.reads (omega arith)

pub returns-then-version-latest-clause-turns : goal.returns-then-version-latest-clause-turns
returns-then-version-latest-clause-turns g c = loads_asked _ 1 _ _ _ _ c.in_ok-commits.ensures.learns
