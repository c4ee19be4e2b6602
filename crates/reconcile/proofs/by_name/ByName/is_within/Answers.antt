use Rattle.std.proofs.Common.{◌≡◌, ◌∙◌, ap, sym, subst, refl, string_bytes}
use Rattle.std.specs.Prelude.{Some}
use Rattle.std.specs.FinMap as fin
use Rattle.reconcile.specs.Named.{named}
use Rattle.reconcile.specs.Within.{IsWithin}
use Rattle.reconcile.proofs.Within.{Left, left_start, left_more, left_one, left_end, failed}
use Rattle.reconcile.proofs.by_name.ByName.is_within.Goals as goal

pub loop-name-init : goal.loop-name-init
loop-name-init g c =
    left_start (IsWithin c.args.self.now c.args.other.now) (λ q x. fin.get c.args.other.now q ≡ Some x) c.args.self.now (named c.into_iter-name-iterator.result)
    (ap named c.into_iter-name-iterator.ensures.into_iter_gives ∙ c.entries-name-items.ensures) (λ w. w) (λ w. w)

pub loop-name-preserved : goal.loop-name-preserved
loop-name-preserved g c =
    left_more (IsWithin c.args.self.now c.args.other.now) (λ q x. fin.get c.args.other.now q ≡ Some x) (string_bytes c.in-Some.name.now) c.in-Some.value.now (named c.next.new.self)
    (subst (λ es. Left (IsWithin c.args.self.now c.args.other.now) (λ q x. fin.get c.args.other.now q ≡ Some x) (named es)) c.in-Some.ensures.steps c.loop-name.invariant)
    (ap (fin.get c.args.other.now) (sym c.as_str.ensures.value) ∙ sym c.get.ensures ∙ c.is_told.ensures.0 c.if-not-is_told.false)

pub returns-then-not-is_told : goal.returns-then-not-is_told
returns-then-not-is_told g c =
    failed c.is_told.result c.if-not-is_told.true c.is_told.ensures.1
    (λ w. c.get.ensures ∙ ap (fin.get c.args.other.now) c.as_str.ensures.value
    ∙ left_one (IsWithin c.args.self.now c.args.other.now) (λ q x. fin.get c.args.other.now q ≡ Some x) (string_bytes c.in-Some.name.now) c.in-Some.value.now (named c.next.new.self)
    (subst (λ es. Left (IsWithin c.args.self.now c.args.other.now) (λ q x. fin.get c.args.other.now q ≡ Some x) (named es)) c.in-Some.ensures.steps c.loop-name.invariant) w)

pub returns : goal.returns
returns g c = (
  (λ t. left_end (IsWithin c.args.self.now c.args.other.now) (λ q x. fin.get c.args.other.now q ≡ Some x) (named c.loop-name.name-iterator) c.loop-name.invariant
      (ap named c.in-None.ensures.steps.0)),
  (λ w. refl),
)
