-- A base under what newer commits decide, put together from its parts.
use Rattle.std.proofs.Common.{◌≡◌, cond, ap, sym, ◌∙◌}
use Rattle.std.specs.Prelude.{None, is_some, Result, Ok, Err, IfOk}
use Rattle.std.specs.FinMap as fin
use Rattle.action_types.specs.declared.actions.Add.{Add}
use Rattle.action_types.specs.declared.actions.Remove.{Remove}
use Rattle.reconcile.specs.Keys.{key_cmp}
use Rattle.reconcile.specs.Replay.{or_else}
use Rattle.reconcile.specs.Laying.{LaysOver, Strikes}
use Rattle.reconcile.specs.StepsBack.{IsOver}
use Rattle.reconcile.specs.Under.{IsUnderFiles, IsUnderNames}
use Rattle.reconcile.specs.declared.state.State.{State}
use Rattle.reconcile.specs.declared.newest.NewestFirst.{NewestFirst}

-- what follows of two facts on the result, where there is one
pub both_ok : {A E : Type 0} {P Q R : A → Type 0} (r : Result A E) → ((a : A) → P a → Q a → R a) → IfOk r P → IfOk r Q → IfOk r R
both_ok (Ok a) f p q = f a p q
both_ok (Err e) f p q = tt

pub under_all : (base cut laid s : State) (live : fin.FinMap key_cmp Add) (gone : fin.FinMap key_cmp Remove)
    → Strikes base.live gone cut.live → Strikes base.gone live cut.gone → cut ≡ record base { live = cut.live; gone = cut.gone }
    → LaysOver cut.live live laid.live → laid ≡ record cut { live = laid.live }
    → LaysOver laid.gone gone s.gone → s ≡ record laid { gone = s.gone }
    → IsUnderFiles s base live gone
under_all base cut laid s live gone cut_live cut_gone cut_rest laid_live laid_rest s_gone s_rest = record {
  live_over = λ key. ap {A = State} (λ x. fin.get x.live key) s_rest ∙ laid_live key ∙ ap (or_else (fin.get live key)) (cut_live key);
  gone_over = λ key. s_gone key ∙ ap (or_else (fin.get gone key)) (ap {A = State} (λ x. fin.get x.gone key) laid_rest ∙ cut_gone key);
  rest = s_rest
      ∙ ap {A = State} (λ x. record x { gone = s.gone }) laid_rest
      ∙ ap {A = State} (λ x. record x { live = laid.live; gone = s.gone }) cut_rest
      ∙ ap (λ l. record base { live = l; gone = s.gone }) (sym (ap {A = State} (λ x. x.live) s_rest));
}

-- what is decided, laid on a base part by part
pub over_all : (base filed named s : State) (n : NewestFirst)
    → IsUnderFiles filed base n.newer.live n.newer.gone
    → IsUnderNames named filed n.newer.txns n.newer.domains n.dropped
    → s ≡ record named { protocol = or_else n.newer.protocol named.protocol; meta = or_else n.newer.meta named.meta; time = cond n.begun n.newer.time named.time }
    → IsOver s base n
over_all base filed named s n files names rest = record {
  live = λ key. ap {A = State} (λ x. fin.get x.live key) (rest ∙ ap {A = State} others names.rest) ∙ files.live_over key;
  gone = λ key. ap {A = State} (λ x. fin.get x.gone key) (rest ∙ ap {A = State} others names.rest) ∙ files.gone_over key;
  txn = λ app. ap {A = State} (λ x. fin.get x.txns app) rest ∙ names.txn_over app
      ∙ ap {A = State} (λ x. or_else (fin.get n.newer.txns app) (fin.get x.txns app)) files.rest;
  domain = λ name. ap {A = State} (λ x. fin.get x.domains name) rest ∙ names.domain_over name
      ∙ ap {A = State} (λ x. or_else (fin.get n.newer.domains name) (cond (is_some (fin.get n.dropped name)) None (fin.get x.domains name))) files.rest;
  protocol = ap {A = State} (λ x. x.protocol) rest
      ∙ ap {A = State} (λ x. or_else n.newer.protocol x.protocol) (names.rest ∙ ap {A = State} named_again files.rest);
  meta = ap {A = State} (λ x. x.meta) rest
      ∙ ap {A = State} (λ x. or_else n.newer.meta x.meta) (names.rest ∙ ap {A = State} named_again files.rest);
  time = ap {A = State} (λ x. x.time) rest
      ∙ ap {A = State} (λ x. cond n.begun n.newer.time x.time) (names.rest ∙ ap {A = State} named_again files.rest);
}
  where
    others : State → State
    others x = record x { protocol = or_else n.newer.protocol x.protocol; meta = or_else n.newer.meta x.meta; time = cond n.begun n.newer.time x.time }

    named_again : State → State
    named_again x = record x { txns = named.txns; domains = named.domains }
