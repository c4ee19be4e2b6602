use Rattle.std.proofs.Common.{rules, ◌<◌, ap, arith, length}
use Rattle.table_model.specs.Knowledge.{Knowledge}
use Rattle.table_model.proofs.Growing.{grows_trans}
use Rattle.publisher.specs.Causes.{PublishCause}
use Rattle.publisher.specs.Worlds.{PublishesAll}
use Rattle.publisher.proofs.Causing.{table_cause, seen_more}
use Rattle.publisher.proofs.Reporting.{told_consistent, commits_told, commits_then, report_tells}
use Rattle.publisher.specs.Converting.{of_fault}
use Rattle.publisher.proofs.Asking.{memory_cause, report_cause}
use Rattle.publisher.proofs.Keeping.{keeps_none, keeps_then, commits_keep, memory_kept}
use Rattle.publisher.proofs.publishing.publish_all.Goals as goal

pub returns-in_err-publish_from-clause-cause : goal.returns-in_err-publish_from-clause-cause
returns-in_err-publish_from-clause-cause g c =
    let some : 0 < length (g.T.Steps.known c.publish_from.new.caller).seen =
    let more = seen_more _ _ c.in_err-publish_from.ensures.grows in omega (arith, more, c.in_ok-commits.ensures.learns.count, c.if-commits-eq0.false) in
    let i : PublishCause g.T.Steps.tells c.in_err-publish_from.field-0.0 (g.T.Steps.known c.args.caller.now) (g.T.Steps.known c.publish_from.new.caller) =
    table_cause _ _ _ _ _ c.in_ok-commits.ensures.grows some c.in_err-publish_from.ensures.cause in
    search rules

pub returns-in_err-report-clause-grows : goal.returns-in_err-report-clause-grows
returns-in_err-report-clause-grows g c =
    grows_trans _ _ _ (grows_trans _ _ _ c.in_ok-commits.ensures.grows c.in_ok-publish_from.ensures.grows) c.in_err-report.ensures.grows

pub returns-in_err-report-clause-after : goal.returns-in_err-report-clause-after
returns-in_err-report-clause-after g c =
    g.met.T.Steps.after_both _ _ _ (g.met.T.Steps.after_both _ _ _ c.in_ok-commits.ensures.after c.in_ok-publish_from.ensures.after) c.in_err-report.ensures.after

pub returns-clause-after : goal.returns-clause-after
returns-clause-after g c =
    g.met.T.Steps.after_both _ _ _ (g.met.T.Steps.after_both _ _ _ c.in_ok-commits.ensures.after c.in_ok-publish_from.ensures.after) c.in_ok-report.ensures.after

pub returns-clause-world : goal.returns-clause-world
returns-clause-world g c =
    commits_then PublishesAll c.in_ok-commits.commits _ _ _ c.in_ok-commits.ensures.turn
    (report_tells c.in_ok-commits.commits c.in_ok-report.field-0 _ _ _ (told_consistent _ _ c.in_ok-commits.ensures.told) (commits_told c.in_ok-commits.commits _ _ c.in_ok-commits.ensures.turn) c.in_ok-commits.ensures.learns.within
    c.in_ok-publish_from.ensures.told c.in_ok-report.ensures.turn)

pub returns-in_err-commits-clause-cause : goal.returns-in_err-commits-clause-cause
returns-in_err-commits-clause-cause g c =
    let i : PublishCause g.T.Steps.tells (of_fault c.in_err-commits.field-0.0) (g.T.Steps.known c.args.caller.now) (g.T.Steps.known c.commits.new.self) =
    memory_cause _ _ _ _ c.in_err-commits.ensures.learns in
    search rules

pub returns-in_err-report-clause-cause : goal.returns-in_err-report-clause-cause
returns-in_err-report-clause-cause g c =
    let some : 0 < length (g.T.Steps.known c.report.new.self).seen =
    let more = seen_more _ _ c.in_ok-publish_from.ensures.grows in
    let most = seen_more _ _ c.in_err-report.ensures.grows in
    omega (arith, more, most, c.in_ok-commits.ensures.learns.count, c.if-commits-eq0.false) in
    let i : PublishCause g.T.Steps.tells (of_fault c.in_err-report.field-0.0) (g.T.Steps.known c.args.caller.now) (g.T.Steps.known c.report.new.self) =
    report_cause _ _ _ _ _ some c.in_err-report.ensures.learns in
    search rules

pub returns-in_err-commits-clause-kept : goal.returns-in_err-commits-clause-kept
returns-in_err-commits-clause-kept g c = keeps_none _ _ _ (memory_kept _ _ _ c.in_err-commits.ensures.learns)

pub returns-then-commits-eq0-clause-kept : goal.returns-then-commits-eq0-clause-kept
returns-then-commits-eq0-clause-kept g c = keeps_none _ _ _ (ap (λ (x : Knowledge). x.kept) c.in_ok-commits.ensures.learns.same)

pub returns-in_err-publish_from-clause-kept : goal.returns-in_err-publish_from-clause-kept
returns-in_err-publish_from-clause-kept g c =
    commits_keep _ _ _ _ _ c.in_ok-commits.ensures.learns c.in_err-publish_from.ensures.grows c.in_err-publish_from.ensures.kept

pub returns-in_err-report-clause-kept : goal.returns-in_err-report-clause-kept
returns-in_err-report-clause-kept g c =
    keeps_then _ _ _ _ _ (seen_more _ _ c.in_err-report.ensures.grows)
    (commits_keep _ _ _ _ _ c.in_ok-commits.ensures.learns c.in_ok-publish_from.ensures.grows c.in_ok-publish_from.ensures.kept)
    (memory_kept _ _ _ c.in_err-report.ensures.learns)

pub returns-clause-kept : goal.returns-clause-kept
returns-clause-kept g c =
    keeps_then _ _ _ _ _ (seen_more _ _ c.in_ok-report.ensures.grows)
    (commits_keep _ _ _ _ _ c.in_ok-commits.ensures.learns c.in_ok-publish_from.ensures.grows c.in_ok-publish_from.ensures.kept)
    (ap (λ (x : Knowledge). x.kept) c.in_ok-report.ensures.learns.same)
