use Rattle.std.proofs.Common.{◌≡◌, ◌-◌, ◌∙◌, ap, sym, length, arith}
use Rattle.snapshot_load.specs.Snapshots.{version_upto}
use Rattle.snapshot_load.proofs.Causing.{answer_later}
use Rattle.snapshot_load.proofs.Keeping.{loads_refused, loads_asked, loads_read}
use Rattle.snapshot_load.proofs.Replaying.{seen_same}
use Rattle.snapshot_load.proofs.TextsRead.{replay_later}
use Rattle.snapshot_load.proofs.kept.refresh.Goals as goal

pub returns-in_err-commits-clause-turns : goal.returns-in_err-commits-clause-turns
returns-in_err-commits-clause-turns g c = loads_refused 0 _ _ c.in_err-commits.field-0.0 _ c.in_err-commits.ensures.learns

pub snapshot_from-requires-clause-base : goal.snapshot_from-requires-clause-base
snapshot_from-requires-clause-base g c =
    let within = c.requires.version in
    replay_later _ _ _ _ _ (omega (arith, within)) c.in_ok-commits.ensures.grows.seen c.requires.replay

pub returns-clause-cause : goal.returns-clause-cause
returns-clause-cause g c = answer_later _ _ _ _ _ c.in_ok-commits.ensures.grows c.snapshot_from.ensures.cause

pub returns-clause-turns : goal.returns-clause-turns
returns-clause-turns g c =
    let count = c.in_ok-commits.ensures.learns.count in
    let seen = ap length (seen_same _ _ _ c.snapshot_from.ensures.reads) in
    let same : c.in_ok-commits.commits.count ≡ length (g.T.Steps.known c.snapshot_from.new.caller).seen = count ∙ sym seen in
    let at : c.last_wanted-version.result ≡ version_upto c.args.kept.version c.args.last (length (g.T.Steps.known c.snapshot_from.new.caller).seen - 1) =
    c.last_wanted-version.ensures ∙ ap (λ n. version_upto c.args.kept.version c.args.last (n - 1)) same in
    loads_read 0 _ _ _ _ _ (loads_asked _ 0 0 _ _ _ c.in_ok-commits.ensures.learns) c.snapshot_from.ensures.reads (omega (arith, at))
