use Rattle.reconcile.proofs.Plainly.{live_at-plain, gone_at-plain, live_at-marked, gone_at-marked, domain_at-none}
use Rattle.reconcile.proofs.laws.paths_are_files.Goals as goal

pub returns : goal.returns
returns c = record { live = live_at-plain; gone = gone_at-plain; no_other_live = live_at-marked; no_other_gone = gone_at-marked; no_domain = domain_at-none }
