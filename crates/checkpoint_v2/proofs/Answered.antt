-- What the calls' clauses say of their results.
use Rattle.std.proofs.Common.{◌≡◌, ◌↔◌, ℕ, List, [], ◌∷◌, Option, Some, None, Result, Ok, Err, IfOk, IfErr, sym, ap, ◌∙◌, subst}
use Rattle.std.specs.Prelude.{⊤, MatchOption}
use Rattle.std.proofs.lemmas.Result.{MatchResult-at_ok, MatchResult-at_err}
use Rattle.text_lines.specs.Lines.{cut}
use Rattle.action_types.specs.declared.actions.Action.{Action}
use Rattle.reconcile.specs.Replay.{Log, last_said, time_said, time_of_log}
use Rattle.reconcile.specs.Standing.{HasTableOf, time_in}
use Rattle.reconcile.specs.declared.state.State.{State}
use Rattle.checkpoint_v2.specs.Left.{Reads}
use Rattle.checkpoint_v2.specs.Outcome.{Read, told, outcome}
use Rattle.checkpoint_v2.specs.Refused.{IsRefusedFor}
use Rattle.checkpoint_v2.specs.Table.{HasSameTable, IsCheckpointOf}
use Rattle.checkpoint_v2.specs.Text.{IsCheckpointText}
use Rattle.checkpoint_v2.specs.declared.fault.BadCheckpoint.{BadCheckpoint}
use Rattle.checkpoint_v2.specs.declared.fault.BadCheckpoint.TheVariants as bad
use Rattle.checkpoint_v2.proofs.Sound.{told_outcome, one_reading, not_both}
use Rattle.checkpoint_v2.proofs.Timeless.{no_time}

-- ---- the table of a state and of a log

pub table_moved : (s : State) (one other : Log) → HasTableOf s one → HasSameTable one other → HasTableOf s other
table_moved s one other h t = record {
  live = λ key. h.live key ∙ t.live key;
  gone = λ key. h.gone key ∙ t.gone key;
  txn = λ app. h.txn app ∙ t.txn app;
  domain = λ name. h.domain name ∙ t.domain name;
  protocol = h.protocol ∙ t.protocol;
  meta = h.meta ∙ t.meta;
}

pub same_tables : (s : State) (one other : Log) → HasTableOf s one → HasTableOf s other → HasSameTable one other
same_tables s one other h g = record {
  live = λ key. sym (h.live key) ∙ g.live key;
  gone = λ key. sym (h.gone key) ∙ g.gone key;
  txn = λ app. sym (h.txn app) ∙ g.txn app;
  domain = λ name. sym (h.domain name) ∙ g.domain name;
  protocol = sym h.protocol ∙ g.protocol;
  meta = sym h.meta ∙ g.meta;
}

-- ---- reading

pub text_read : (wanted : ℕ) (bytes : List ℕ) (actions : List Action) → outcome wanted bytes ≡ Ok actions → IsCheckpointText bytes wanted actions
text_read wanted bytes actions e = MatchResult-at_ok (IsCheckpointText bytes wanted) (IsRefusedFor wanted bytes) actions e (told_outcome wanted bytes)

same_actions : (r : Read) (xs ys : List Action) → r ≡ Ok xs → r ≡ Ok ys → ys ≡ xs
same_actions r xs ys e f = let both : Ok ys ≡ Ok xs = sym f ∙ e in cc

module _ (wanted : ℕ) (bytes : List ℕ) where
  pub of_logs_given : (r : Result State BadCheckpoint) → Reads r (outcome wanted bytes) → IfOk r (λ s. (log : Log) → IsCheckpointOf bytes wanted log ↔ HasTableOf s log)
  of_logs_given (Ok s) h = λ log. (
    λ x. table_moved s (h.0 ∷ []) log h.2.table
        (subst (λ (actions : List Action). HasSameTable (actions ∷ []) log) (same_actions (outcome wanted bytes) h.0 x.actions h.1 (one_reading wanted bytes x.actions x.text)) x.table),
    λ t. record { actions = h.0; text = text_read wanted bytes h.0 h.1; table = same_tables s (h.0 ∷ []) log h.2.table t },
  )
  of_logs_given (Err e) h = tt

  at_fault : (e : BadCheckpoint) → outcome wanted bytes ≡ Err e → IsRefusedFor wanted bytes e
  at_fault e h = MatchResult-at_err (IsCheckpointText bytes wanted) (IsRefusedFor wanted bytes) e h (told_outcome wanted bytes)

  pub fault_given : (r : Result State BadCheckpoint) → Reads r (outcome wanted bytes) → IfErr r (λ e. MatchOption (told e) ⊤ (IsRefusedFor wanted bytes))
  fault_given (Ok s) h = tt
  fault_given (Err (bad.Line n w)) h = at_fault (bad.Line n w) h
  fault_given (Err (bad.Sidecar n)) h = at_fault (bad.Sidecar n) h
  fault_given (Err bad.NoMetadata) h = at_fault bad.NoMetadata h
  fault_given (Err (bad.WrongVersion v)) h = at_fault (bad.WrongVersion v) h
  fault_given (Err bad.NoState) h = at_fault bad.NoState h
  fault_given (Err bad.Memory) h = tt

  refused_at : (o : Option BadCheckpoint) → MatchOption o ⊤ (IsRefusedFor wanted bytes) → MatchOption o ⊤ (λ f. (log : Log) → IsCheckpointOf bytes wanted log → ⊥)
  refused_at None h = tt
  refused_at (Some f) h = λ log x. not_both wanted bytes x.actions f x.text h

  pub refused_given : (r : Result State BadCheckpoint) → Reads r (outcome wanted bytes) → IfErr r (λ e. MatchOption (told e) ⊤ (λ f. (log : Log) → IsCheckpointOf bytes wanted log → ⊥))
  refused_given (Ok s) h = tt
  refused_given (Err e) h = refused_at (told e) (fault_given (Err e) h)

  pub time_given : (r : Result State BadCheckpoint) → Reads r (outcome wanted bytes) → IfOk r (λ s. time_in s ≡ None)
  unfolding time_of_log
  time_given (Ok s) h = h.2.time ∙ ap (last_said time_said) (text_read wanted bytes h.0 h.1).all ∙ no_time (cut bytes)
  time_given (Err e) h = tt
