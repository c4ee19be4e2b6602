-- Commits on top of a base: what one commit makes of it, and what the result stands for where the base stands for a log.
use Rattle.std.proofs.Common.{◌≡◌, ℕ, ℤ, Bool, true, false, cond, List, [], ◌∷◌, ◌++◌, refl, ap, sym, subst, ◌∙◌}
use Rattle.std.specs.Prelude.{Option, Some, None, option_and_then, fold, Result, Ok, Err, IfOk}
use Rattle.std.specs.FinMap as fin
use Rattle.std.specs.Cmp.Lexicographic.{nat_list_cmp_total}
use Rattle.action_types.specs.declared.actions.Action.{Action}
use Rattle.action_types.specs.declared.actions.Action.TheVariants as act
use Rattle.action_types.specs.declared.actions.Txn.{Txn}
use Rattle.action_types.specs.declared.actions.Domain.{Domain}
use Rattle.action_types.specs.declared.actions.Protocol.{Protocol}
use Rattle.action_types.specs.declared.actions.Meta.{Meta}
use Rattle.action_types.specs.Files.{name_cmp, file_cmp_total}
use Rattle.reconcile.specs.Keys.{Key, key_of, key_of_remove, same_key, same_name, same_app}
use Rattle.reconcile.specs.Replay.{Log, or_else, last_said, in_log, Mention, added, removed, mention, as_added, as_removed, live_at, gone_at, txn_said, txn_at, domain_said, present, domain_at, protocol_said, protocol_of_log, meta_said, meta_of_log, time_said, last_commit, time_of_log}
use Rattle.reconcile.specs.Standing.{live_in, gone_in, txn_in, domain_in, protocol_in, meta_in, time_in, HasTableOf, StandsFor}
use Rattle.reconcile.specs.Newest.{told, IsAfter}
use Rattle.reconcile.specs.Steps.{after, timed}
use Rattle.reconcile.specs.declared.state.State.{State}
use Rattle.reconcile.proofs.Last.{or_else-none, or_else_assoc, newer, last_said-append}

-- the look-ups of a state, by what was last said of each key and by a base
record Told (s base : State) (file : Key → Option Mention) (txns : List ℕ → Option Txn) (domains : List ℕ → Option Domain) (p : Option Protocol) (m : Option Meta) : Type 0 where
  live : (key : Key) → live_in s key ≡ told as_added (file key) (live_in base key)
  gone : (key : Key) → gone_in s key ≡ told as_removed (file key) (gone_in base key)
  txn : (app : List ℕ) → txn_in s app ≡ or_else (txns app) (txn_in base app)
  domain : (name : List ℕ) → domain_in s name ≡ told present (domains name) (domain_in base name)
  protocol : protocol_in s ≡ or_else p (protocol_in base)
  meta : meta_in s ≡ or_else m (meta_in base)

-- where a newer mention is of the key asked, it decides
decided : {A B : Type 0} (f : A → Option B) (here : Bool) (new : A) (old : Option A) (base : Option B)
    → cond here (f new) (told f old base) ≡ told f (or_else (cond here (Some new) None) old) base
decided f true new old base = refl
decided f false new old base = refl

domain-after : (m : fin.FinMap name_cmp Domain) (domain : Domain) (removed : Bool) → domain.removed ≡ removed → (name : List ℕ) (old : Option Domain) (base : Option Domain)
    → fin.get m name ≡ told present old base
    → fin.get (cond removed (cond removed (fin.remove m domain.domain) m) (fin.insert (cond removed (fin.remove m domain.domain) m) domain.domain domain)) name
    ≡ told present (or_else (cond (same_name name domain.domain) (Some domain) None) old) base
domain-after m domain true e name old base h =
    fin.get-remove nat_list_cmp_total m domain.domain name
    ∙ (λ i. cond (same_name name domain.domain) (cond (sym e i) None (Some domain)) (h i))
    ∙ decided present (same_name name domain.domain) domain old base
domain-after m domain false e name old base h =
    fin.get-insert nat_list_cmp_total m domain.domain domain name
    ∙ (λ i. cond (same_name name domain.domain) (cond (sym e i) None (Some domain)) (h i))
    ∙ decided present (same_name name domain.domain) domain old base

Told-after : (s base : State) (a : Action) (file : Key → Option Mention) (txns : List ℕ → Option Txn) (domains : List ℕ → Option Domain) (p : Option Protocol) (m : Option Meta)
    → Told s base file txns domains p m
    → Told (after s a) base (λ key. or_else (mention key a) (file key)) (λ app. or_else (txn_said app a) (txns app)) (λ name. or_else (domain_said name a) (domains name))
    (or_else (protocol_said a) p) (or_else (meta_said a) m)
Told-after s base (act.Info info) file txns domains p m h = record { live = h.live; gone = h.gone; txn = h.txn; domain = h.domain; protocol = h.protocol; meta = h.meta }
Told-after s base (act.Protocol protocol) file txns domains p m h = record { live = h.live; gone = h.gone; txn = h.txn; domain = h.domain; protocol = refl; meta = h.meta }
Told-after s base (act.Meta meta) file txns domains p m h = record { live = h.live; gone = h.gone; txn = h.txn; domain = h.domain; protocol = h.protocol; meta = refl }
Told-after s base (act.Txn txn) file txns domains p m h = record {
  live = h.live;
  gone = h.gone;
  txn = λ app. fin.get-insert nat_list_cmp_total s.txns txn.app txn app ∙ ap (cond (same_app app txn.app) (Some txn)) (h.txn app)
      ∙ newer (same_app app txn.app) txn (or_else (txns app) (txn_in base app))
      ∙ sym (or_else_assoc (cond (same_app app txn.app) (Some txn) None) (txns app) (txn_in base app));
  domain = h.domain;
  protocol = h.protocol;
  meta = h.meta;
}
Told-after s base (act.Domain domain) file txns domains p m h = record {
  live = h.live;
  gone = h.gone;
  txn = h.txn;
  domain = λ name. domain-after s.domains domain domain.removed refl name (domains name) (domain_in base name) (h.domain name);
  protocol = h.protocol;
  meta = h.meta;
}
Told-after s base (act.Remove remove) file txns domains p m h =
    let kept = record remove { change = false } in
    let here : Key → Bool = λ key. same_key key (key_of_remove remove) in
    record {
      live = λ key. fin.get-remove file_cmp_total s.live (key_of_remove remove) key ∙ ap (cond (here key) None) (h.live key)
          ∙ decided as_added (here key) (removed kept) (file key) (live_in base key);
      gone = λ key. fin.get-insert file_cmp_total s.gone (key_of_remove remove) kept key ∙ ap (cond (here key) (Some kept)) (h.gone key)
          ∙ decided as_removed (here key) (removed kept) (file key) (gone_in base key);
      txn = h.txn;
      domain = h.domain;
      protocol = h.protocol;
      meta = h.meta;
    }
Told-after s base (act.Add add) file txns domains p m h =
    let kept = record add { change = false } in
    let here : Key → Bool = λ key. same_key key (key_of add) in
    record {
      live = λ key. fin.get-insert file_cmp_total s.live (key_of add) kept key ∙ ap (cond (here key) (Some kept)) (h.live key)
          ∙ decided as_added (here key) (added kept) (file key) (live_in base key);
      gone = λ key. fin.get-remove file_cmp_total s.gone (key_of add) key ∙ ap (cond (here key) None) (h.gone key)
          ∙ decided as_removed (here key) (added kept) (file key) (gone_in base key);
      txn = h.txn;
      domain = h.domain;
      protocol = h.protocol;
      meta = h.meta;
    }

Told-same : (s base : State) (file file' : Key → Option Mention) (txns txns' : List ℕ → Option Txn) (domains domains' : List ℕ → Option Domain) (p p' : Option Protocol) (m m' : Option Meta)
    → ((key : Key) → file key ≡ file' key) → ((app : List ℕ) → txns app ≡ txns' app) → ((name : List ℕ) → domains name ≡ domains' name) → p ≡ p' → m ≡ m'
    → Told s base file txns domains p m → Told s base file' txns' domains' p' m'
Told-same s base file file' txns txns' domains domains' p p' m m' e f d g i h = record {
  live = λ key. h.live key ∙ ap (λ o. told as_added o (live_in base key)) (e key);
  gone = λ key. h.gone key ∙ ap (λ o. told as_removed o (gone_in base key)) (e key);
  txn = λ app. h.txn app ∙ ap (λ o. or_else o (txn_in base app)) (f app);
  domain = λ name. h.domain name ∙ ap (λ o. told present o (domain_in base name)) (d name);
  protocol = h.protocol ∙ ap (λ o. or_else o (protocol_in base)) g;
  meta = h.meta ∙ ap (λ o. or_else o (meta_in base)) i;
}

Told-fold : (actions : List Action) (s base : State) (file : Key → Option Mention) (txns : List ℕ → Option Txn) (domains : List ℕ → Option Domain) (p : Option Protocol) (m : Option Meta)
    → Told s base file txns domains p m
    → Told (fold after s actions) base (λ key. or_else (last_said (mention key) actions) (file key)) (λ app. or_else (last_said (txn_said app) actions) (txns app))
    (λ name. or_else (last_said (domain_said name) actions) (domains name)) (or_else (last_said protocol_said actions) p) (or_else (last_said meta_said actions) m)
Told-fold [] s base file txns domains p m h = record { live = h.live; gone = h.gone; txn = h.txn; domain = h.domain; protocol = h.protocol; meta = h.meta }
Told-fold (a ∷ actions) s base file txns domains p m h =
    Told-same (fold after (after s a) actions) base _ _ _ _ _ _ _ _ _ _
    (λ key. sym (or_else_assoc (last_said (mention key) actions) (mention key a) (file key)))
    (λ app. sym (or_else_assoc (last_said (txn_said app) actions) (txn_said app a) (txns app)))
    (λ name. sym (or_else_assoc (last_said (domain_said name) actions) (domain_said name a) (domains name)))
    (sym (or_else_assoc (last_said protocol_said actions) (protocol_said a) p))
    (sym (or_else_assoc (last_said meta_said actions) (meta_said a) m))
    (Told-fold actions (after s a) base (λ key. or_else (mention key a) (file key)) (λ app. or_else (txn_said app a) (txns app)) (λ name. or_else (domain_said name a) (domains name))
    (or_else (protocol_said a) p) (or_else (meta_said a) m)
    (Told-after s base a file txns domains p m h))

time-after : (s : State) (a : Action) → time_in (after s a) ≡ or_else (time_said a) (time_in s)
time-after s (act.Info info) = refl
time-after s (act.Protocol protocol) = refl
time-after s (act.Meta meta) = refl
time-after s (act.Txn txn) = refl
time-after s (act.Domain domain) = refl
time-after s (act.Remove remove) = refl
time-after s (act.Add add) = refl

time-fold : (actions : List Action) (s : State) → time_in (fold after s actions) ≡ or_else (last_said time_said actions) (time_in s)
time-fold [] s = refl
time-fold (a ∷ actions) s =
    time-fold actions (after s a) ∙ ap (or_else (last_said time_said actions)) (time-after s a)
    ∙ sym (or_else_assoc (last_said time_said actions) (time_said a) (time_in s))

-- one commit on top of a base
IsAfter-one : (base : State) (commit : List Action) → IsAfter (fold after (timed base None) commit) base (commit ∷ [])
IsAfter-one base commit =
    let start : Told (timed base None) base (λ _. None) (λ _. None) (λ _. None) None None
    = record { live = λ _. refl; gone = λ _. refl; txn = λ _. refl; domain = λ _. refl; protocol = refl; meta = refl } in
    let end = Told-fold commit (timed base None) base (λ _. None) (λ _. None) (λ _. None) None None start in
    record {
      live = λ key. end.live key ∙ ap (λ o. told as_added o (live_in base key)) (or_else-none (last_said (mention key) commit));
      gone = λ key. end.gone key ∙ ap (λ o. told as_removed o (gone_in base key)) (or_else-none (last_said (mention key) commit));
      txn = λ app. end.txn app ∙ ap (λ o. or_else o (txn_in base app)) (or_else-none (last_said (txn_said app) commit));
      domain = λ name. end.domain name ∙ ap (λ o. told present o (domain_in base name)) (or_else-none (last_said (domain_said name) commit));
      protocol = end.protocol ∙ ap (λ o. or_else o (protocol_in base)) (or_else-none (last_said protocol_said commit));
      meta = end.meta ∙ ap (λ o. or_else o (meta_in base)) (or_else-none (last_said meta_said commit));
      time = time-fold commit (timed base None) ∙ or_else-none (last_said time_said commit);
    }

-- what `apply` makes of a base
pub applied : {E : Type 0} (r : Result State E) (base untimed : State) (commit : List Action) → untimed ≡ timed base None → IfOk r (λ n. n ≡ fold after untimed commit)
    → IfOk r (λ n. IsAfter n base (commit ∷ []))
applied (Ok n) base untimed commit start made =
    subst (λ n. IsAfter n base (commit ∷ [])) (sym (made ∙ ap (λ u. fold after u commit) start)) (IsAfter-one base commit)
applied (Err e) base untimed commit start made = tt

-- ---- commits on top of a base that stands for a log

on_log : {A B : Type 0} (f : A → Option B) (new old : Option A) → told f new (option_and_then f old) ≡ option_and_then f (or_else new old)
on_log f None old = refl
on_log f (Some new) old = refl

in_log-append : {B : Type 0} (says : Action → Option B) (log new : Log) → in_log says (log ++ new) ≡ or_else (in_log says new) (in_log says log)
in_log-append says log new = last_said-append (last_said says) log new

pub HasTableOf-after : (s base : State) (log new : Log) → HasTableOf base log → IsAfter s base new → HasTableOf s (log ++ new)
unfolding live_at gone_at txn_at domain_at protocol_of_log meta_of_log
HasTableOf-after s base log new h a = record {
  live = λ key. a.live key ∙ ap (told as_added (in_log (mention key) new)) (h.live key) ∙ on_log as_added (in_log (mention key) new) (in_log (mention key) log)
      ∙ ap (option_and_then as_added) (sym (in_log-append (mention key) log new));
  gone = λ key. a.gone key ∙ ap (told as_removed (in_log (mention key) new)) (h.gone key) ∙ on_log as_removed (in_log (mention key) new) (in_log (mention key) log)
      ∙ ap (option_and_then as_removed) (sym (in_log-append (mention key) log new));
  txn = λ app. a.txn app ∙ ap (or_else (in_log (txn_said app) new)) (h.txn app) ∙ sym (in_log-append (txn_said app) log new);
  domain = λ name. a.domain name ∙ ap (told present (in_log (domain_said name) new)) (h.domain name) ∙ on_log present (in_log (domain_said name) new) (in_log (domain_said name) log)
      ∙ ap (option_and_then present) (sym (in_log-append (domain_said name) log new));
  protocol = a.protocol ∙ ap (or_else (in_log protocol_said new)) h.protocol ∙ sym (in_log-append protocol_said log new);
  meta = a.meta ∙ ap (or_else (in_log meta_said new)) h.meta ∙ sym (in_log-append meta_said log new);
}

pub StandsFor-after : (s base : State) (log new : Log) → StandsFor base log → IsAfter s base new → StandsFor s (log ++ new)
unfolding time_of_log
StandsFor-after s base log new h a = record {
  table = HasTableOf-after s base log new h.table a;
  time = a.time ∙ ap (told (last_said time_said) (last_commit new)) h.time ∙ on_log (last_said time_said) (last_commit new) (last_commit log)
      ∙ ap (option_and_then (last_said time_said)) (sym (last_said-append Some log new));
}

latest : (o : Option (List Action)) (commit : List Action) (base : Option ℤ) (old : Option (List Action))
    → told (last_said time_said) (or_else o (Some commit)) base ≡ option_and_then (last_said time_said) (or_else (or_else o (Some commit)) old)
latest None commit base old = refl
latest (Some newest) commit base old = refl

pub StandsFor-commits : (s base : State) (log : Log) (commit : List Action) (new : Log) → HasTableOf base log → IsAfter s base (commit ∷ new) → StandsFor s (log ++ commit ∷ new)
unfolding time_of_log
StandsFor-commits s base log commit new h a = record {
  table = HasTableOf-after s base log (commit ∷ new) h a;
  time = a.time ∙ latest (last_commit new) commit (time_in base) (last_commit log)
      ∙ ap (option_and_then (last_said time_said)) (sym (last_said-append Some log (commit ∷ new)));
}

-- what follows of the result, where there is one
pub if_ok : {A E : Type 0} {P Q : A → Type 0} (r : Result A E) → ((a : A) → P a → Q a) → IfOk r P → IfOk r Q
if_ok (Ok a) f h = f a h
if_ok (Err e) f h = tt
