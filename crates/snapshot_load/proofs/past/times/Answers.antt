use Rattle.std.proofs.Common.{rules, refl, ◌≡◌, ◌≤◌, ◌*◌, ◌<◌, ◌∙◌, ℕ, arith, length, subst, sym, ap}
use Rattle.std.specs.Prelude.{Contains}
use Rattle.log_names.specs.declared.LogName.TheVariants as name
use Rattle.snapshot_load.specs.Causes.{VersionCause}
use Rattle.snapshot_load.specs.Converting.{of_fault}
use Rattle.snapshot_load.proofs.Causing.{version_unasked, answer_version, version_cause, read_refused, seen_more}
use Rattle.snapshot_load.proofs.Keeping.{loads_refused, loads_asked, loads_listed, loads_unlisted, loads_read}
use Rattle.snapshot_load.proofs.Replaying.{seen_same}
use Rattle.snapshot_load.proofs.Listing.{listed_published}
use Rattle.table_model.proofs.Growing.{grows_trans}
use Rattle.table_model.specs.Knowledge.{Knowledge}
use Rattle.snapshot_load.proofs.Faults.{answer_counts}
use Rattle.snapshot_load.proofs.TextsRead.{are_times, times_counted}
use Rattle.snapshot_load.proofs.Loaded.{unless_memory, asked_now, asked_listed, asked_read, asked_faults, listed_faults}
use Rattle.snapshot_load.proofs.past.times.Goals as goal

pub returns-in_err-commits-clause-cause : goal.returns-in_err-commits-clause-cause
returns-in_err-commits-clause-cause g c =
    let i : VersionCause g.T.Steps.tells c.args.from (of_fault c.in_err-commits.field-0.0) (g.T.Steps.known c.args.caller.now) (g.T.Steps.known c.commits.new.self) =
    version_unasked g.T.Steps.tells c.args.from (g.T.Steps.known c.args.caller.now) c.in_err-commits.field-0.0 (g.T.Steps.known c.commits.new.self) c.in_err-commits.ensures.learns in
    search rules

pub returns-in_err-names-clause-cause : goal.returns-in_err-names-clause-cause
returns-in_err-names-clause-cause g c =
    let some : c.args.from < length (g.T.Steps.known c.list.new.self).seen =
    let more = seen_more _ _ c.in_err-names.ensures.grows in omega (arith, more, c.in_ok-commits.ensures.learns.count, c.if-from-latest.false, c.if-commits-eq0.false) in
    let i : VersionCause g.T.Steps.tells c.args.from (of_fault c.in_err-names.field-0.0) (g.T.Steps.known c.args.caller.now) (g.T.Steps.known c.list.new.self) =
    version_cause _ _ _ _ _ _ c.in_ok-commits.ensures.grows some (read_refused _ _ _ _ _ c.in_err-names.ensures.learns) in
    search rules

pub times_from-requires-clause-listed : goal.times_from-requires-clause-listed
times_from-requires-clause-listed g c = λ t.
    let shows = c.in_ok-names.ensures.learns in
    listed_published c.in_ok-names.names.items _ _ _ (shows.shows t) shows.published (subst (λ xs. (v : ℕ) → v < c.leading_published-listed.result → Contains xs (name.Published v)) c.as_slice.ensures.value c.leading_published-listed.ensures)

pub returns-in_err-times-clause-cause : goal.returns-in_err-times-clause-cause
returns-in_err-times-clause-cause g c =
    let more = seen_more _ _ c.in_ok-names.ensures.grows in
    let most = seen_more _ _ c.in_err-times.ensures.grows in
    let some : c.args.from < length (g.T.Steps.known c.times_from.new.caller).seen =
    omega (arith, more, most, c.in_ok-commits.ensures.learns.count, c.if-from-latest.false, c.if-commits-eq0.false) in
    let i : VersionCause g.T.Steps.tells c.args.from c.in_err-times.field-0.0 (g.T.Steps.known c.args.caller.now) (g.T.Steps.known c.times_from.new.caller) =
    version_cause _ _ _ _ _ _ (grows_trans _ _ _ c.in_ok-commits.ensures.grows c.in_ok-names.ensures.grows) some c.in_err-times.ensures.cause in
    search rules

pub returns-in_err-times-clause-after : goal.returns-in_err-times-clause-after
returns-in_err-times-clause-after g c =
    g.met.T.Steps.after_both _ _ _ (g.met.T.Steps.after_both _ _ _ c.in_ok-commits.ensures.after c.in_ok-names.ensures.after) c.in_err-times.ensures.after

pub returns-clause-after : goal.returns-clause-after
returns-clause-after g c =
    g.met.T.Steps.after_both _ _ _ (g.met.T.Steps.after_both _ _ _ c.in_ok-commits.ensures.after c.in_ok-names.ensures.after) c.in_ok-times.ensures.after

pub returns-in_err-commits-clause-turns : goal.returns-in_err-commits-clause-turns
returns-in_err-commits-clause-turns g c = loads_refused 1 _ _ c.in_err-commits.field-0.0 _ c.in_err-commits.ensures.learns

pub returns-then-commits-eq0-clause-turns : goal.returns-then-commits-eq0-clause-turns
returns-then-commits-eq0-clause-turns g c = loads_asked _ 1 _ _ _ _ c.in_ok-commits.ensures.learns

pub returns-in_err-names-clause-turns : goal.returns-in_err-names-clause-turns
returns-in_err-names-clause-turns g c = loads_unlisted _ _ _ _ c.in_err-names.field-0.0 _ (loads_asked _ 0 0 _ _ _ c.in_ok-commits.ensures.learns) c.in_err-names.ensures.learns

pub returns-in_err-times-clause-turns : goal.returns-in_err-times-clause-turns
returns-in_err-times-clause-turns g c =
    let listed = loads_listed _ 0 _ _ _ _ (loads_asked _ 0 0 _ _ _ c.in_ok-commits.ensures.learns) c.in_ok-names.ensures.learns in
    let count = c.in_ok-commits.ensures.learns.count in
    let same = ap (λ (k : Knowledge). length k.seen) c.in_ok-names.ensures.learns.same in
    let seen = ap length (seen_same _ _ _ c.in_err-times.ensures.reads) in
    let total : c.in_ok-commits.commits.count ≡ length (g.T.Steps.known c.times_from.new.caller).seen = count ∙ sym same ∙ sym seen in
    loads_read 1 _ _ _ _ _ listed c.in_err-times.ensures.reads (omega (arith, total, c.end_of_times-end.ensures, c.if-from-latest.false, c.if-commits-eq0.false))

pub returns-clause-turns : goal.returns-clause-turns
returns-clause-turns g c =
    let listed = loads_listed _ 0 _ _ _ _ (loads_asked _ 0 0 _ _ _ c.in_ok-commits.ensures.learns) c.in_ok-names.ensures.learns in
    let count = c.in_ok-commits.ensures.learns.count in
    let same = ap (λ (k : Knowledge). length k.seen) c.in_ok-names.ensures.learns.same in
    let seen = ap length (seen_same _ _ _ c.in_ok-times.ensures.reads) in
    let total : c.in_ok-commits.commits.count ≡ length (g.T.Steps.known c.times_from.new.caller).seen = count ∙ sym same ∙ sym seen in
    loads_read 1 _ _ _ _ _ listed c.in_ok-times.ensures.reads (omega (arith, total, c.end_of_times-end.ensures, c.if-from-latest.false, c.if-commits-eq0.false))

pub returns-clause-times : goal.returns-clause-times
returns-clause-times g c =
    let count = c.in_ok-commits.ensures.learns.count in
    let same = ap (λ (k : Knowledge). length k.seen) c.in_ok-names.ensures.learns.same in
    let seen = ap length (seen_same _ _ _ c.in_ok-times.ensures.reads) in
    let total : c.in_ok-commits.commits.count ≡ length (g.T.Steps.known c.times_from.new.caller).seen = count ∙ sym same ∙ sym seen in
    are_times _ _ c.args.from _ _ (omega (arith, total, c.if-commits-eq0.false)) refl
    (omega (arith, total, c.end_of_times-end.ensures, c.if-from-latest.false, c.if-commits-eq0.false)) c.in_ok-times.ensures.times

pub returns-clause-read : goal.returns-clause-read
returns-clause-read g c = times_counted _ _ _ _ _ c.in_ok-times.ensures.times

pub returns-then-from-latest-clause-turns : goal.returns-then-from-latest-clause-turns
returns-then-from-latest-clause-turns g c = loads_asked _ 1 _ _ _ _ c.in_ok-commits.ensures.learns
