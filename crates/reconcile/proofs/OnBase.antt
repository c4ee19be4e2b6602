-- Commits on top of a base make one state, in one step or in several.
use Rattle.std.proofs.Common.{◌≡◌, [], ◌++◌, refl, ap, sym, ◌∙◌}
use Rattle.std.specs.Prelude.{Option, Some, None}
use Rattle.std.specs.Cmp.Lexicographic.{nat_list_cmp_total}
use Rattle.std.specs.FinMap as fin
use Rattle.action_types.specs.Files.{file_cmp_total}
use Rattle.reconcile.specs.Replay.{Log, or_else, last_said, mention, as_added, as_removed, in_log, txn_said, domain_said, present, protocol_said, meta_said, time_said, last_commit}
use Rattle.reconcile.specs.Standing.{live_in, gone_in, txn_in, domain_in, protocol_in, meta_in, time_in}
use Rattle.reconcile.specs.Newest.{told, IsAfter}
use Rattle.reconcile.specs.declared.state.State.{State}
use Rattle.reconcile.proofs.Files.{exact_files}
use Rattle.reconcile.proofs.Named.{exact_names}
use Rattle.reconcile.proofs.Last.{or_else_assoc, last_said-append}

pub one_after : (s t base : State) (newer : Log) → IsAfter s base newer → IsAfter t base newer → s ≡ t
one_after s t base newer h g =
    let live = fin.same_map file_cmp_total exact_files s.live t.live (λ q. h.live q ∙ sym (g.live q)) in
    let gone = fin.same_map file_cmp_total exact_files s.gone t.gone (λ q. h.gone q ∙ sym (g.gone q)) in
    let txns = fin.same_map nat_list_cmp_total exact_names s.txns t.txns (λ q. h.txn q ∙ sym (g.txn q)) in
    let domains = fin.same_map nat_list_cmp_total exact_names s.domains t.domains (λ q. h.domain q ∙ sym (g.domain q)) in
    λ i. record {
      live = live i;
      gone = gone i;
      txns = txns i;
      domains = domains i;
      protocol = (h.protocol ∙ sym g.protocol) i;
      meta = (h.meta ∙ sym g.meta) i;
      time = (h.time ∙ sym g.time) i;
    }

pub after_none : (base : State) → IsAfter base base []
after_none base = record { live = λ _. refl; gone = λ _. refl; txn = λ _. refl; domain = λ _. refl; protocol = refl; meta = refl; time = refl }

told_twice : {A B : Type 0} (says : A → Option B) (new old : Option A) (base : Option B) → told says new (told says old base) ≡ told says (or_else new old) base
told_twice says None old base = refl
told_twice says (Some new) old base = refl

pub after_steps : (s t base : State) (older newer : Log) → IsAfter t base older → IsAfter s t newer → IsAfter s base (older ++ newer)
after_steps s t base older newer h g = record {
  live = λ key. g.live key ∙ ap (told as_added (in_log (mention key) newer)) (h.live key)
      ∙ told_twice as_added (in_log (mention key) newer) (in_log (mention key) older) (live_in base key)
      ∙ ap (λ o. told as_added o (live_in base key)) (sym (last_said-append (last_said (mention key)) older newer));
  gone = λ key. g.gone key ∙ ap (told as_removed (in_log (mention key) newer)) (h.gone key)
      ∙ told_twice as_removed (in_log (mention key) newer) (in_log (mention key) older) (gone_in base key)
      ∙ ap (λ o. told as_removed o (gone_in base key)) (sym (last_said-append (last_said (mention key)) older newer));
  txn = λ app. g.txn app ∙ ap (or_else (in_log (txn_said app) newer)) (h.txn app)
      ∙ sym (or_else_assoc (in_log (txn_said app) newer) (in_log (txn_said app) older) (txn_in base app))
      ∙ ap (λ o. or_else o (txn_in base app)) (sym (last_said-append (last_said (txn_said app)) older newer));
  domain = λ name. g.domain name ∙ ap (told present (in_log (domain_said name) newer)) (h.domain name)
      ∙ told_twice present (in_log (domain_said name) newer) (in_log (domain_said name) older) (domain_in base name)
      ∙ ap (λ o. told present o (domain_in base name)) (sym (last_said-append (last_said (domain_said name)) older newer));
  protocol = g.protocol ∙ ap (or_else (in_log protocol_said newer)) h.protocol
      ∙ sym (or_else_assoc (in_log protocol_said newer) (in_log protocol_said older) (protocol_in base))
      ∙ ap (λ o. or_else o (protocol_in base)) (sym (last_said-append (last_said protocol_said) older newer));
  meta = g.meta ∙ ap (or_else (in_log meta_said newer)) h.meta
      ∙ sym (or_else_assoc (in_log meta_said newer) (in_log meta_said older) (meta_in base))
      ∙ ap (λ o. or_else o (meta_in base)) (sym (last_said-append (last_said meta_said) older newer));
  time = g.time ∙ ap (told (last_said time_said) (last_commit newer)) h.time
      ∙ told_twice (last_said time_said) (last_commit newer) (last_commit older) (time_in base)
      ∙ ap (λ o. told (last_said time_said) o (time_in base)) (sym (last_said-append Some older newer));
}
