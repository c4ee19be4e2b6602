use Rattle.std.proofs.Common.{Bor, ◌≡◌, ◌+◌, ◌-◌, ◌<◌, ℕ, List, [], ◌∷◌, length, map, drop, sym, ap, ap₂, ◌∙◌, arith}
use Rattle.std.proofs.lemmas.List.{drop_more}
use Rattle.staged_commit.specs.Names.{in_order, with_name}
use Rattle.staged_commit.proofs.Putting.{drop-all}
use Rattle.staged_commit.proofs.features.in_order.Goals as goal

pub loop-left-init : goal.loop-left-init
loop-left-init c =
    let f : Bor (List ℕ) → List ℕ = λ n. n.now in
    record {
      within = omega arith;
      done = ap (map f) c.new-list.ensures.items ∙ ap in_order (sym (drop-all c.args.names.now));
    }

pub loop-left-preserved : goal.loop-left-preserved
loop-left-preserved c =
    let names = c.args.names.now in
    let left = c.loop-left.left in
    let x = c.index-names-left.result in
    let less : left - 1 < length names = omega (arith, c.loop-left.invariant.within, c.loop-left-test.true) in
    let back : left - 1 + 1 ≡ left = omega (arith, c.loop-left-test.true) in
    let cut : drop (left - 1) names ≡ x ∷ drop left names =
    drop_more names (left - 1) x less ∙ ap₂ (λ a n. a ∷ drop n names) (sym c.index-names-left.is) back in
    record {
      within = omega (arith, c.loop-left.invariant.within);
      done = c.in_ok-put_name.ensures ∙ ap (with_name x) c.loop-left.invariant.done ∙ ap in_order (sym cut);
    }
