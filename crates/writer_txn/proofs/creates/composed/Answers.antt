use Rattle.std.proofs.Common.{◌≡◌, refl, subst, ℤ, []}
use Rattle.std.specs.Int.{w64}
use Rattle.std.proofs.lemmas.Int.{to_z-of_z}
use Rattle.std.specs.Prelude.{Some}
use Rattle.table_rules.specs.Broken.{first_broken}
use Rattle.staged_commit.specs.Answers.{IsComposed}
use Rattle.staged_commit.specs.Composed.{composed_create}
use Rattle.writer_txn.proofs.creates.composed.Goals as goal

pub returns-in-Ok-clause-ok : goal.returns-in-Ok-clause-ok
returns-in-Ok-clause-ok c =
    subst (λ (now : ℤ). IsComposed [] (composed_create c.args.what.now c.args.id now) now c.args.limit c.in-Ok.commit)
    (to_z-of_z w64 c.args.now c.ranges.now) c.in-Ok.ensures.ok

pub returns-in-Err-Broken-clause-err : goal.returns-in-Err-Broken-clause-err
returns-in-Err-Broken-clause-err c =
    let h = rw c.in-Err-Broken.field-0-is at c.in-Err-Broken.ensures.err in
    record {
      base_is = refl;
      rule =
          subst (λ (now : ℤ). first_broken [] (composed_create c.args.what.now c.args.id now) ≡ Some c.in-Err-Broken.why)
          (to_z-of_z w64 c.args.now c.ranges.now) h;
    }
