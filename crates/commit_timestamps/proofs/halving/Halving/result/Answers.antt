-- With no version asked for, the answer before the time is for the version that is looked for.
use Rattle.std.proofs.Common.{◌≡◌, ℕ, Option, sym, subst, rules}
use Rattle.std.specs.Option.{option_map}
use Rattle.commit_timestamps.specs.Times.{IsVersionAt, version_at}
use Rattle.commit_timestamps.proofs.Narrowing.{result_is}
use Rattle.commit_timestamps.proofs.Versions.{IsVersionAt-unique, IsVersionAt-version_at}
use Rattle.commit_timestamps.proofs.halving.Halving.result.Goals as goal

pub returns-clause-greatest : goal.returns-clause-greatest
returns-clause-greatest c = λ times agrees.
    let same : c.map.result ≡ option_map (λ b. b.version) c.self.inside.before = search rules in
    subst (λ (o : Option ℕ). IsVersionAt times c.args.self.now.time o) (sym same)
    (result_is c.self.inside _ c.self.view_is c.self.invariant c.requires times agrees)

pub returns-clause-value : goal.returns-clause-value
returns-clause-value c = λ times agrees.
    IsVersionAt-unique times c.args.self.now.time c.map.result (version_at times c.args.self.now.time)
    (returns-clause-greatest c times agrees) (IsVersionAt-version_at times c.args.self.now.time)
