-- The loop begins with the create line, makes one request more at each turn, and the load ends the script.
use Rattle.std.proofs.Common.{◌≡◌, ℕ, ◌∙◌, ap, subst, arith}
use Rattle.std.specs.String.{string_bytes}
use Rattle.table_maker.proofs.Loop.{IsMade, made_none, made_more, made_all}
use Rattle.table_maker.proofs.Soundness.{IsSoundAfter-requests}
use Rattle.table_maker.proofs.writing.script.Goals as goal

pub loop-k-init : goal.loop-k-init
loop-k-init c =
    made_none c.args.number c.new-maker.result _ (c.in_ok-text.ensures.ok ∙ c.text.ensures) c.new-maker.ensures c.requires.number

pub loop-k-preserved : goal.loop-k-preserved
loop-k-preserved c =
    made_more c.args.number c.loop-k.k _ _ c.loop-k.maker _ c.loop-k.state _ c.choose-request.result c.loop-k.invariant
    c.step-state.ensures.next c.step-state.ensures.small c.choose-request.ensures c.in_ok-push_request.ensures c.in_ok-take.ensures

pub returns-clause-text : goal.returns-clause-text
returns-clause-text c =
    let all : c.loop-k.k ≡ c.args.count = omega arith in
    ap (λ v. v.items) c.into_bytes.ensures.value
    ∙ made_all c.args.number c.args.count _ _ c.loop-k.maker c.loop-k.state
    (subst (λ (n : ℕ). IsMade c.args.number n (string_bytes c.loop-k.text) c.loop-k.maker c.loop-k.state) all c.loop-k.invariant)
    c.in_ok-push_part.ensures

pub returns-clause-sound : goal.returns-clause-sound
returns-clause-sound c = IsSoundAfter-requests c.args.number c.args.count
