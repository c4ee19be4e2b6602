use Rattle.std.proofs.Common.{rules, ◌∙◌, arith, ap, pos, ℤ, Option}
use Rattle.std.specs.Int.{w64}
use Rattle.std.specs.Prelude.{unwrap_or}
use Rattle.std.proofs.lemmas.Int.{to_z-of_z}
use Rattle.snapshot_load.proofs.Loaded.{is_snapshot}
use Rattle.snapshot_load.proofs.loads.snapshot_from.Goals as goal

pub returns-clause-snapshot : goal.returns-clause-snapshot
returns-clause-snapshot g c =
    is_snapshot _ c.in_ok-state.state _ c.args.commits.now _ _ _ c.args.version c.requires.catalogue.count c.in_ok-state.ensures.reads c.requires.ratified c.in_ok-state.ensures.state
    (to_z-of_z w64 c.unwrap_or-time.result (search rules) ∙ c.unwrap_or-time.ensures ∙ ap (λ (o : Option ℤ). unwrap_or o (pos 0)) c.time.ensures)

pub returns-clause-read : goal.returns-clause-read
returns-clause-read g c = record {
  replay = c.in_ok-state.ensures.state;
  time = to_z-of_z w64 c.unwrap_or-time.result (search rules) ∙ c.unwrap_or-time.ensures ∙ ap (λ (o : Option ℤ). unwrap_or o (pos 0)) c.time.ensures;
}
