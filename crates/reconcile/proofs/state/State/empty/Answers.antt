use Rattle.std.proofs.Common.{refl, ◌∙◌, ap}
use Rattle.std.specs.FinMap as fin
use Rattle.reconcile.specs.Keys.{key_cmp, name_cmp}
use Rattle.reconcile.specs.Replay.{live_at, gone_at, txn_at, domain_at, protocol_of_log, meta_of_log, time_of_log}
use Rattle.reconcile.proofs.state.State.empty.Goals as goal

pub returns : goal.returns
unfolding live_at gone_at txn_at domain_at protocol_of_log meta_of_log time_of_log
returns c = record {
  table = record {
    live = λ key. ap (λ m. fin.get m key) c.new.ensures ∙ fin.get-empty key_cmp key;
    gone = λ key. ap (λ m. fin.get m key) c.new-2.ensures ∙ fin.get-empty key_cmp key;
    txn = λ app. ap (λ m. fin.get m app) c.new-3.ensures ∙ fin.get-empty name_cmp app;
    domain = λ name. ap (λ m. fin.get m name) c.new-4.ensures ∙ fin.get-empty name_cmp name;
    protocol = refl;
    meta = refl;
  };
  time = refl;
}
