use Rattle.std.proofs.Common.{Bor, ◌≡◌, ◌++◌, [], ◌∷◌, map, ap, ap₂, ◌∙◌, w64}
use Rattle.std.proofs.lemmas.Int.{to_z-of_z}
use Rattle.std.proofs.lemmas.Result.{IfOk-weaker}
use Rattle.action_types.specs.declared.actions.Action.TheVariants as action
use Rattle.action_types.specs.declared.actions.Add.{Add}
use Rattle.staged_commit.specs.Adds.{adds_in_order}
use Rattle.staged_commit.specs.Composed.{composed_append, info_for, txn_for}
use Rattle.staged_commit.proofs.InOrder.{map-of}
use Rattle.staged_commit.proofs.append.actions_of.Goals as goal

pub returns : goal.returns
unfolding composed_append
returns c =
    let now : Bor Add → Add = λ a. a.now in
    let info = c.in_ok-info.ensures ∙ ap (info_for c.args.id) (to_z-of_z w64 c.args.time c.ranges.time) in
    let front : c.push-2.new.self.items ≡ action.Info (info_for c.args.id c.args.time) ∷ action.Txn (txn_for c.args.intent.now) ∷ [] =
    c.in_ok-push-2.ensures.items
    ∙ ap (λ l. l ++ action.Txn c.in_ok-txn.txn ∷ []) (c.in_ok-push.ensures.items ∙ ap (λ l. l ++ action.Info c.in_ok-info.info ∷ []) c.new-actions.ensures.items)
    ∙ ap₂ (λ i t. action.Info i ∷ action.Txn t ∷ []) info c.in_ok-txn.ensures in
    let adds : map (λ (a : Bor Add). action.Add a.now) c.deref.result.now ≡ map action.Add (adds_in_order c.args.intent.now.adds) =
    map-of now c.deref.result.now ∙ ap (map action.Add) (ap (map now) c.deref.ensures.value ∙ c.in_ok-in_order.ensures ∙ ap adds_in_order c.as_slice.ensures) in
    IfOk-weaker c.pushed.result _ _ (λ v h. h ∙ ap₂ (λ f l. f ++ l) front adds) c.pushed.ensures
