use Rattle.std.proofs.Common.{rules, ◌∙◌, ap, pos, ℤ, Option}
use Rattle.std.specs.Int.{w64}
use Rattle.std.specs.Prelude.{unwrap_or}
use Rattle.std.proofs.lemmas.Int.{to_z-of_z}
use Rattle.reconcile.specs.Replay.{last_said, time_said}
use Rattle.snapshot_load.proofs.Rising.{commit_time_is}
use Rattle.snapshot_load.proofs.reading.version_time.Goals as goal

pub returns-clause-time : goal.returns-clause-time
returns-clause-time g c =
    let read = c.in_ok-actions.ensures.read in
    record {
      text = read.text;
      commit = read.commit;
      known = read.known;
      time_is =
          to_z-of_z w64 c.unwrap_or.result (search rules) ∙ c.unwrap_or.ensures
          ∙ ap (λ (o : Option ℤ). unwrap_or o (pos 0)) (c.own_time.ensures ∙ ap (last_said time_said) c.as_slice.ensures.value)
          ∙ commit_time_is read.text c.in_ok-actions.actions.items read.actions_are;
    }
