use Rattle.std.proofs.Common.{not, sym, ap, ◌∙◌}
use Rattle.staged_commit.specs.Adds.{have_own_files}
use Rattle.session_lines.proofs.Steps.{holds-more, is-known, new-again, new-more}
use Rattle.session_lines.proofs.files.have_own_files.Goals as goal

pub returns-then-not-is_new : goal.returns-then-not-is_new
unfolding have_own_files
returns-then-not-is_new c =
    let known = is-known c.loop-add.names c.in_ok-name.name c.args.adds.now c.loop-add.add-index c.add-item.result c.in_ok-is_new.is_new c.in_ok-name.ensures c.loop-add.invariant.1 c.in_ok-is_new.ensures.added in
    sym (new-again c.args.adds.now c.loop-add.add-index c.add-item.result c.loop-add-test.true c.add-item.is (known ∙ ap not c.if-not-is_new.true)) ∙ c.loop-add.invariant.0

pub loop-add-preserved : goal.loop-add-preserved
loop-add-preserved c =
    let known = is-known c.loop-add.names c.in_ok-name.name c.args.adds.now c.loop-add.add-index c.add-item.result c.in_ok-is_new.is_new c.in_ok-name.ensures c.loop-add.invariant.1 c.in_ok-is_new.ensures.added in (
      sym (new-more c.args.adds.now c.loop-add.add-index c.add-item.result c.loop-add-test.true c.add-item.is (known ∙ ap not c.if-not-is_new.false)) ∙ c.loop-add.invariant.0,
      holds-more c.loop-add.names c.insert.new.self c.in_ok-name.name c.args.adds.now c.loop-add.add-index c.add-item.result c.loop-add-test.true c.add-item.is c.in_ok-name.ensures c.in_ok-is_new.ensures.updates c.loop-add.invariant.1,
    )
