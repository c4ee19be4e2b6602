use Rattle.std.proofs.Common.{◌∙◌, ap, sym, subst, refl, string_bytes}
use Rattle.std.specs.FinMap as fin
use Rattle.reconcile.specs.Named.{named}
use Rattle.reconcile.specs.Within.{IsAmong, IsMarkedWithin}
use Rattle.reconcile.proofs.Within.{Left, left_start, left_more, left_one, left_end, by_path, from_paths, failed}
use Rattle.reconcile.proofs.by_file.is_marked_within.Goals as goal

pub loop-path-init : goal.loop-path-init
loop-path-init g c =
    left_start (IsMarkedWithin c.args.marked.now c.args.others.now) (λ q x. IsAmong x (fin.get c.args.others.now q)) c.args.marked.now (named c.into_iter-path-iterator.result)
    (ap named c.into_iter-path-iterator.ensures.into_iter_gives ∙ c.entries-path-items.ensures) (by_path c.args.marked.now c.args.others.now) (from_paths c.args.marked.now c.args.others.now)

pub loop-path-preserved : goal.loop-path-preserved
loop-path-preserved g c =
    left_more (IsMarkedWithin c.args.marked.now c.args.others.now) (λ q x. IsAmong x (fin.get c.args.others.now q)) (string_bytes c.in-Some.path.now) c.in-Some.files.now (named c.next.new.self)
    (subst (λ es. Left (IsMarkedWithin c.args.marked.now c.args.others.now) (λ q x. IsAmong x (fin.get c.args.others.now q)) (named es)) c.in-Some.ensures.steps c.loop-path.invariant)
    (subst (IsAmong c.in-Some.files.now) (c.get.ensures ∙ ap (fin.get c.args.others.now) c.as_str.ensures.value) (c.is_among.ensures.0 c.if-not-is_among.false))

pub returns-then-not-is_among : goal.returns-then-not-is_among
returns-then-not-is_among g c =
    failed c.is_among.result c.if-not-is_among.true c.is_among.ensures.1
    (λ w. subst (IsAmong c.in-Some.files.now) (sym (c.get.ensures ∙ ap (fin.get c.args.others.now) c.as_str.ensures.value))
    (left_one (IsMarkedWithin c.args.marked.now c.args.others.now) (λ q x. IsAmong x (fin.get c.args.others.now q)) (string_bytes c.in-Some.path.now) c.in-Some.files.now (named c.next.new.self)
    (subst (λ es. Left (IsMarkedWithin c.args.marked.now c.args.others.now) (λ q x. IsAmong x (fin.get c.args.others.now q)) (named es)) c.in-Some.ensures.steps c.loop-path.invariant) w))

pub returns : goal.returns
returns g c = (
  (λ t. left_end (IsMarkedWithin c.args.marked.now c.args.others.now) (λ q x. IsAmong x (fin.get c.args.others.now q)) (named c.loop-path.path-iterator) c.loop-path.invariant
      (ap named c.in-None.ensures.steps.0)),
  (λ w. refl),
)
