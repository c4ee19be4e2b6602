use Rattle.std.proofs.Common.{◌≡◌, ◌++◌, drop}
use Rattle.commit_catalog.specs.Records.{ratified_from, staged_of}
use Rattle.commit_catalog.proofs.Catalog.commits.Given as goal

abbrev pub invariant-loop-version : goal.invariant-loop-version
invariant-loop-version l = l.staged.items ++ ratified_from l.version (drop l.version l.self.records) ≡ staged_of l.self.records l.self.reported
