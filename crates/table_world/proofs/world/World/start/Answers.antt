use Rattle.std.proofs.Common.{ap, sym, ◌∙◌, subst}
use Rattle.table_model.specs.World.{WorldData}
use Rattle.table_model.specs.Consistency.{IsConsistent}
use Rattle.table_world.specs.Worlds.{first_log_name}
use Rattle.table_world.proofs.Fresh.{fresh_is, fresh_consistent, same_count}
use Rattle.table_world.proofs.world.World.start.Goals as goal

pub invariant_of-result : goal.invariant_of-result
invariant_of-result g c =
    let is = fresh_is c.new-catalog.result c.args.limits (g.S.Store.files c.args.store) (g.S.Store.files c.list.new.self) (g.S.Store.faults c.list.new.self) (g.S.Store.faults c.of-first.result.value) (g.S.Store.faults c.args.store)
    g.S.Store.tells c.new-catalog.ensures.empty c.in-Ok.ensures.files c.in-Ok.ensures.counts (ap g.S.Store.faults c.of-first.ensures) in
    let P : WorldData → Type 0 = IsConsistent in (
      subst P (sym is) (fresh_consistent c.args.limits (g.S.Store.files c.args.store) (g.S.Store.faults c.args.store) g.S.Store.tells c.requires
          (λ tells. sym (c.in_default.ensures ∙ ap first_log_name (c.as_slice.ensures.value ∙ c.in-Ok.ensures.told tells)))),
      same_count _ _ _ c.in-Ok.ensures.counts (ap g.S.Store.faults c.of-first.ensures),
    )

pub returns-clause-ok : goal.returns-clause-ok
returns-clause-ok g c =
    let is = fresh_is c.new-catalog.result c.args.limits (g.S.Store.files c.args.store) (g.S.Store.files c.list.new.self) (g.S.Store.faults c.list.new.self) (g.S.Store.faults c.of-first.result.value) (g.S.Store.faults c.args.store)
    g.S.Store.tells c.new-catalog.ensures.empty c.in-Ok.ensures.files c.in-Ok.ensures.counts (ap g.S.Store.faults c.of-first.ensures) in
    let P : WorldData → Type 0 = IsConsistent in
    record {
      is = is;
      consistent = subst P (sym is) (fresh_consistent c.args.limits (g.S.Store.files c.args.store) (g.S.Store.faults c.args.store) g.S.Store.tells c.requires
          (λ tells. sym (c.in_default.ensures ∙ ap first_log_name (c.as_slice.ensures.value ∙ c.in-Ok.ensures.told tells))));
      empty = λ tells. sym (c.in_default.ensures ∙ ap first_log_name (c.as_slice.ensures.value ∙ c.in-Ok.ensures.told tells));
    }
