use Rattle.std.proofs.Common.{◌∙◌, ap, sym}
use Rattle.std.specs.FinMap as fin
use Rattle.std.specs.Prelude.{bytes_eq}
use Rattle.action_types.specs.Files.{name_cmp, unique_id}
use Rattle.reconcile.specs.Named.{named}
use Rattle.reconcile.proofs.Ids.{name_found, name_passed, no_name}
use Rattle.reconcile.proofs.by_file.of_vector.Goals as goal

pub loop-id-init : goal.loop-id-init
loop-id-init g c =
    ap (λ es. fin.find name_cmp (unique_id c.args.vector.now) (named es)) c.into_iter-id-iterator.ensures.into_iter_gives
    ∙ ap (fin.find name_cmp (unique_id c.args.vector.now)) c.entries-id-items.ensures
    ∙ sym (fin.get-entries c.args.files.now (unique_id c.args.vector.now))

pub returns-then-is_id : goal.returns-then-is_id
returns-then-is_id g c =
    name_found (unique_id c.args.vector.now) c.loop-id.id-iterator c.next.new.self (c.in-Some.id.now, c.in-Some.value.now) c.in-Some.ensures.steps
    (ap (bytes_eq (unique_id c.args.vector.now)) (sym c.as_str.ensures.value) ∙ sym c.is_id.ensures ∙ c.if-is_id.true)
    ∙ c.loop-id.invariant

pub loop-id-preserved : goal.loop-id-preserved
loop-id-preserved g c =
    name_passed (unique_id c.args.vector.now) c.loop-id.id-iterator c.next.new.self (c.in-Some.id.now, c.in-Some.value.now) c.in-Some.ensures.steps
    (ap (bytes_eq (unique_id c.args.vector.now)) (sym c.as_str.ensures.value) ∙ sym c.is_id.ensures ∙ c.if-is_id.false)
    ∙ c.loop-id.invariant

pub returns : goal.returns
returns g c = no_name (unique_id c.args.vector.now) c.loop-id.id-iterator c.in-None.ensures.steps.0 ∙ c.loop-id.invariant
