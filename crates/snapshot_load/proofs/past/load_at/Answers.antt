use Rattle.std.proofs.Common.{rules, ◌≡◌, ◌≤◌, ◌*◌, ◌<◌, ◌∙◌, ℕ, arith, length, subst, sym, ap}
use Rattle.std.specs.Prelude.{Contains, List, IsTrue, ℤ}
use Rattle.std.specs.Int.{w64}
use Rattle.std.proofs.lemmas.Int.{to_z-of_z}
use Rattle.commit_timestamps.specs.Digits.{binary_digits}
use Rattle.commit_timestamps.specs.Times.{IsVersionAt}
use Rattle.table_model.specs.Log.{Commit}
use Rattle.snapshot_load.specs.Texts.{times_of}
use Rattle.log_names.specs.declared.LogName.TheVariants as name
use Rattle.snapshot_load.specs.Causes.{TimeCause}
use Rattle.snapshot_load.specs.Converting.{of_fault}
use Rattle.snapshot_load.proofs.Causing.{read_refused, seen_more}
use Rattle.snapshot_load.proofs.Keeping.{loads_refused, loads_asked, loads_listed, loads_unlisted, loads_read}
use Rattle.snapshot_load.proofs.Replaying.{seen_same, reads_more}
use Rattle.snapshot_load.proofs.Listing.{listed_published}
use Rattle.table_model.proofs.Growing.{grows_trans}
use Rattle.table_model.specs.Knowledge.{Knowledge}
use Rattle.snapshot_load.proofs.Faults.{answer_counts}
use Rattle.snapshot_load.proofs.Timing.{answer_time, time_read, time_unasked, version_found}
use Rattle.snapshot_load.proofs.Loaded.{unless_memory, asked_now, asked_listed, asked_read, asked_faults, listed_faults}
use Rattle.snapshot_load.proofs.past.load_at.Goals as goal

pub returns-in_err-commits-clause-cause : goal.returns-in_err-commits-clause-cause
returns-in_err-commits-clause-cause g c =
    let i : TimeCause g.T.Steps.tells c.args.time (of_fault c.in_err-commits.field-0.0) (g.T.Steps.known c.args.caller.now) (g.T.Steps.known c.commits.new.self) =
    time_unasked g.T.Steps.tells c.args.time (g.T.Steps.known c.args.caller.now) c.in_err-commits.field-0.0 (g.T.Steps.known c.commits.new.self) c.in_err-commits.ensures.learns in
    search rules

pub returns-in_err-names-clause-cause : goal.returns-in_err-names-clause-cause
returns-in_err-names-clause-cause g c =
    let some : 0 < length (g.T.Steps.known c.list.new.self).seen =
    let more = seen_more _ _ c.in_err-names.ensures.grows in omega (arith, more, c.in_ok-commits.ensures.learns.count, c.if-commits-eq0.false) in
    let i : TimeCause g.T.Steps.tells c.args.time (of_fault c.in_err-names.field-0.0) (g.T.Steps.known c.args.caller.now) (g.T.Steps.known c.list.new.self) =
    time_read _ _ _ _ _ _ c.in_ok-commits.ensures.grows some (read_refused _ _ _ _ _ c.in_err-names.ensures.learns) in
    search rules

pub returns-in_err-found-clause-cause : goal.returns-in_err-found-clause-cause
returns-in_err-found-clause-cause g c =
    let some : 0 < length (g.T.Steps.known c.version_at.new.caller).seen =
    let more = seen_more _ _ c.in_ok-names.ensures.grows in
    let most = seen_more _ _ c.in_err-found.ensures.grows in
    omega (arith, more, most, c.in_ok-commits.ensures.learns.count, c.if-commits-eq0.false) in
    let i : TimeCause g.T.Steps.tells c.args.time c.in_err-found.field-0.0 (g.T.Steps.known c.args.caller.now) (g.T.Steps.known c.version_at.new.caller) =
    time_read _ _ _ _ _ _ (grows_trans _ _ _ c.in_ok-commits.ensures.grows c.in_ok-names.ensures.grows) some c.in_err-found.ensures.cause in
    search rules

pub version_at-requires-clause-listed : goal.version_at-requires-clause-listed
version_at-requires-clause-listed g c = λ t.
    let shows = c.in_ok-names.ensures.learns in
    listed_published c.in_ok-names.names.items _ _ _ (shows.shows t) shows.published (subst (λ xs. (v : ℕ) → v < c.leading_published-listed.result → Contains xs (name.Published v)) c.as_slice.ensures.value c.leading_published-listed.ensures)

pub returns-in_err-commits-clause-turns : goal.returns-in_err-commits-clause-turns
returns-in_err-commits-clause-turns g c = loads_refused 1 _ _ c.in_err-commits.field-0.0 _ c.in_err-commits.ensures.learns

pub returns-then-commits-eq0-clause-turns : goal.returns-then-commits-eq0-clause-turns
returns-then-commits-eq0-clause-turns g c = loads_asked _ 1 _ _ _ _ c.in_ok-commits.ensures.learns

pub returns-in_err-names-clause-turns : goal.returns-in_err-names-clause-turns
returns-in_err-names-clause-turns g c = loads_unlisted _ _ _ _ c.in_err-names.field-0.0 _ (loads_asked _ 0 0 _ _ _ c.in_ok-commits.ensures.learns) c.in_err-names.ensures.learns

pub returns-in_err-found-clause-turns : goal.returns-in_err-found-clause-turns
returns-in_err-found-clause-turns g c =
    let listed = loads_listed _ 0 _ _ _ _ (loads_asked _ 0 0 _ _ _ c.in_ok-commits.ensures.learns) c.in_ok-names.ensures.learns in
    let count = c.in_ok-commits.ensures.learns.count in
    let same = ap (λ (k : Knowledge). length k.seen) c.in_ok-names.ensures.learns.same in
    let seen = ap length (seen_same _ _ _ c.in_err-found.ensures.reads) in
    let total : c.in_ok-commits.commits.count ≡ length (g.T.Steps.known c.version_at.new.caller).seen = count ∙ sym same ∙ sym seen in
    let digits = ap binary_digits total in
    loads_read 1 _ _ _ _ _ listed c.in_err-found.ensures.reads (omega (arith, digits))

pub load_found-requires-clause-listed : goal.load_found-requires-clause-listed
load_found-requires-clause-listed g c = λ t.
    let shows = c.in_ok-names.ensures.learns in
    let now = listed_published c.in_ok-names.names.items _ _ _ (shows.shows t) shows.published (subst (λ xs. (v : ℕ) → v < c.leading_published-listed.result → Contains xs (name.Published v)) c.as_slice.ensures.value c.leading_published-listed.ensures) in
    let later = c.in_ok-found.ensures.grows.published in
    omega (arith, now, later)

pub returns-clause-version : goal.returns-clause-version
returns-clause-version g c =
    let same = seen_same _ _ _ c.load_found.ensures.reads in
    let at : IsTrue g.T.Steps.tells → IsVersionAt (times_of (g.T.Steps.known c.load_found.new.caller).seen) c.args.time c.in_ok-found.found =
    λ t. subst (λ (l : List Commit). IsVersionAt (times_of l) c.args.time c.in_ok-found.found) (sym same)
    (subst (λ (z : ℤ). IsVersionAt (times_of (g.T.Steps.known c.version_at.new.caller).seen) z c.in_ok-found.found) (to_z-of_z w64 c.args.time (search rules)) (c.in_ok-found.ensures.at t)) in
    version_found _ _ _ _ _ at
    c.load_found.ensures.version

pub returns-clause-cause : goal.returns-clause-cause
returns-clause-cause g c =
    let same = seen_same _ _ _ c.load_found.ensures.reads in
    let more = seen_more _ _ c.in_ok-names.ensures.grows in
    let most = seen_more _ _ c.in_ok-found.ensures.grows in
    let last = seen_more _ _ c.load_found.ensures.grows in
    let at : IsTrue g.T.Steps.tells → IsVersionAt (times_of (g.T.Steps.known c.load_found.new.caller).seen) c.args.time c.in_ok-found.found =
    λ t. subst (λ (l : List Commit). IsVersionAt (times_of l) c.args.time c.in_ok-found.found) (sym same)
    (subst (λ (z : ℤ). IsVersionAt (times_of (g.T.Steps.known c.version_at.new.caller).seen) z c.in_ok-found.found) (to_z-of_z w64 c.args.time (search rules)) (c.in_ok-found.ensures.at t)) in
    answer_time _ _ _ _ _ _ _
    (grows_trans _ _ _ (grows_trans _ _ _ c.in_ok-commits.ensures.grows c.in_ok-names.ensures.grows) c.in_ok-found.ensures.grows)
    (omega (arith, more, most, last, c.in_ok-commits.ensures.learns.count, c.if-commits-eq0.false))
    at
    c.load_found.ensures.cause

pub returns-clause-counts : goal.returns-clause-counts
returns-clause-counts g c =
    let none : (g.T.Steps.known c.version_at.new.caller).faults ≡ (g.T.Steps.known c.args.caller.now).faults =
    c.in_ok-found.ensures.counts ∙ listed_faults _ _ _ _ c.in_ok-names.ensures.learns ∙ asked_faults _ _ _ _ c.in_ok-commits.ensures.learns in
    answer_counts _ _ (g.T.Steps.known c.args.caller.now) (g.T.Steps.known c.version_at.new.caller) _ none c.load_found.ensures.counts

pub returns-clause-asked : goal.returns-clause-asked
returns-clause-asked g c =
    unless_memory _
    (asked_read _ _ _ _ (asked_read _ _ _ _ (asked_listed _ _ _ _ _ (asked_now _ _ _ _ c.in_ok-commits.ensures.learns) c.in_ok-names.ensures.learns) c.in_ok-found.ensures.reads) c.load_found.ensures.reads)

pub returns-clause-grows : goal.returns-clause-grows
returns-clause-grows g c =
    grows_trans _ _ _ (grows_trans _ _ _ (grows_trans _ _ _ c.in_ok-commits.ensures.grows c.in_ok-names.ensures.grows) c.in_ok-found.ensures.grows) c.load_found.ensures.grows

pub returns-clause-after : goal.returns-clause-after
returns-clause-after g c =
    g.met.T.Steps.after_both _ _ _ (g.met.T.Steps.after_both _ _ _ (g.met.T.Steps.after_both _ _ _ c.in_ok-commits.ensures.after c.in_ok-names.ensures.after) c.in_ok-found.ensures.after) c.load_found.ensures.after

pub returns-in_err-found-clause-after : goal.returns-in_err-found-clause-after
returns-in_err-found-clause-after g c =
    g.met.T.Steps.after_both _ _ _ (g.met.T.Steps.after_both _ _ _ c.in_ok-commits.ensures.after c.in_ok-names.ensures.after) c.in_err-found.ensures.after

pub returns-clause-turns : goal.returns-clause-turns
returns-clause-turns g c =
    let listed = loads_listed _ 0 _ _ _ _ (loads_asked _ 0 0 _ _ _ c.in_ok-commits.ensures.learns) c.in_ok-names.ensures.learns in
    let count = c.in_ok-commits.ensures.learns.count in
    let same = ap (λ (k : Knowledge). length k.seen) c.in_ok-names.ensures.learns.same in
    let seen = ap length (seen_same _ _ _ c.in_ok-found.ensures.reads) in
    let last = ap length (seen_same _ _ _ c.load_found.ensures.reads) in
    let total : c.in_ok-commits.commits.count ≡ length (g.T.Steps.known c.load_found.new.caller).seen = count ∙ sym same ∙ sym seen ∙ sym last in
    let digits = ap binary_digits total in
    loads_read 1 _ _ _ _ _ listed (reads_more _ _ _ _ _ c.in_ok-found.ensures.reads c.load_found.ensures.reads) (omega (arith, digits))
