-- Commits that are read from the newest one back: what they decide after one more, and what they make of a base.
use Rattle.std.proofs.Common.{◌≡◌, ℕ, ℤ, Bool, true, false, ◌||◌, cond, List, [], ◌∷◌, ◌++◌, refl, ap, sym, subst, ◌∙◌}
use Rattle.std.specs.Prelude.{Option, Some, None, is_some, option_and_then, Result, Ok, Err, IfOk}
use Rattle.std.specs.FinMap as fin
use Rattle.std.specs.Cmp.Lexicographic.{nat_list_cmp_total}
use Rattle.action_types.specs.declared.actions.Action.{Action}
use Rattle.action_types.specs.declared.actions.Action.TheVariants as act
use Rattle.action_types.specs.declared.actions.Info.{Info}
use Rattle.action_types.specs.declared.actions.Add.{Add}
use Rattle.action_types.specs.declared.actions.Remove.{Remove}
use Rattle.action_types.specs.declared.actions.Txn.{Txn}
use Rattle.action_types.specs.declared.actions.Domain.{Domain}
use Rattle.action_types.specs.declared.actions.Protocol.{Protocol}
use Rattle.action_types.specs.declared.actions.Meta.{Meta}
use Rattle.action_types.specs.Files.{name_cmp, file_cmp, file_cmp_total}
use Rattle.reconcile.specs.Keys.{Key, key_of, key_of_remove, same_key, same_name, same_app}
use Rattle.reconcile.specs.Replay.{Log, or_else, last_said, in_log, Mention, added, removed, mention, as_added, as_removed, live_at, gone_at, txn_said, txn_at, domain_said, present, domain_at, protocol_said, protocol_of_log, meta_said, meta_of_log, time_said, last_commit, time_of_log}
use Rattle.reconcile.specs.Standing.{live_in, gone_in, txn_in, domain_in, protocol_in, meta_in, time_in}
use Rattle.reconcile.specs.Newest.{told, IsAfter}
use Rattle.reconcile.specs.Newer.{is_removal, is_dropped_in, Newer}
use Rattle.reconcile.specs.StepsBack.{is_file_decided, is_domain_decided, is_decided, settled, before, all_before, older, IsOver}
use Rattle.reconcile.specs.declared.state.State.{State}
use Rattle.reconcile.specs.declared.newest.NewestFirst.{NewestFirst}
use Rattle.reconcile.proofs.Files.{exact_files}
use Rattle.reconcile.proofs.InOrder.{equal}
use Rattle.reconcile.proofs.Named.{exact_names}
use Rattle.reconcile.proofs.Last.{or_else-none, or_else_assoc}

-- what is decided, by what was last said of each key; `started` says whether the time is
record Knows (n : NewestFirst) (file : Key → Option Mention) (txns : List ℕ → Option Txn) (domains : List ℕ → Option Domain) (p : Option Protocol) (m : Option Meta) (t : Option ℤ) (started : Bool) : Type 0 where
  live : (key : Key) → live_in n.newer key ≡ option_and_then as_added (file key)
  gone : (key : Key) → gone_in n.newer key ≡ option_and_then as_removed (file key)
  txn : (app : List ℕ) → txn_in n.newer app ≡ txns app
  domain : (name : List ℕ) → domain_in n.newer name ≡ option_and_then present (domains name)
  dropped : (name : List ℕ) → is_dropped_in n name ≡ is_removal (domains name)
  protocol : protocol_in n.newer ≡ p
  meta : meta_in n.newer ≡ m
  time : time_in n.newer ≡ t
  begun : n.begun ≡ started

-- an older mention counts where there is no newer one
unsaid : {A : Type 0} (o : Option A) → o ≡ or_else o None
unsaid o = sym (or_else-none o)

-- where a newer mention decides the key, an older one changes nothing
passed : {A : Type 0} (o : Option A) (here : Bool) (old : A) → (here ≡ true → is_some o ≡ true) → o ≡ or_else o (cond here (Some old) None)
passed None true old h = let e : false ≡ true = h refl in cc
passed None false old h = refl
passed (Some x) here old h = refl

-- and where none does, it counts
counted : {A B : Type 0} (f : A → Option B) (o : Option A) (here : Bool) (old : A) → (here ≡ true → is_some o ≡ false)
    → cond here (f old) (option_and_then f o) ≡ option_and_then f (or_else o (cond here (Some old) None))
counted f None true old h = refl
counted f None false old h = refl
counted f (Some x) true old h = let e : true ≡ false = h refl in cc
counted f (Some x) false old h = refl

-- a mention of which f says nothing
silent : {A B : Type 0} (f : A → Option B) (o : Option A) (here : Bool) (old : A) → f old ≡ None
    → option_and_then f o ≡ option_and_then f (or_else o (cond here (Some old) None))
silent f None true old e = sym e
silent f None false old e = refl
silent f (Some x) here old e = refl

counted_one : {A : Type 0} (o : Option A) (here : Bool) (old : A) → (here ≡ true → is_some o ≡ false) → cond here (Some old) o ≡ or_else o (cond here (Some old) None)
counted_one None true old h = refl
counted_one None false old h = refl
counted_one (Some x) true old h = let e : true ≡ false = h refl in cc
counted_one (Some x) false old h = refl

at_key : {A : Type 0} (f : Key → Option A) (k : Key) (b : Bool) → is_some (f k) ≡ b → (key : Key) → same_key key k ≡ true → is_some (f key) ≡ b
at_key f k b e key same = ap (λ q. is_some (f q)) (exact_files key k (equal (file_cmp key k) same)) ∙ e

at_name : {A : Type 0} (f : List ℕ → Option A) (k : List ℕ) (b : Bool) → is_some (f k) ≡ b → (name : List ℕ) → same_name name k ≡ true → is_some (f name) ≡ b
at_name f k b e name same = ap (λ q. is_some (f q)) (exact_names name k (equal (name_cmp name k) same)) ∙ e

by_mention : (o : Option Mention) → (is_some (option_and_then as_added o) || is_some (option_and_then as_removed o)) ≡ is_some o
by_mention None = refl
by_mention (Some (added add)) = refl
by_mention (Some (removed remove)) = refl

either : (b : Bool) (d : Domain) → (is_some (cond b None (Some d)) || b) ≡ true
either true d = refl
either false d = refl

by_domain : (o : Option Domain) → (is_some (option_and_then present o) || is_removal o) ≡ is_some o
by_domain None = refl
by_domain (Some d) = either d.removed d

-- a removed domain among those that were dropped
dropped_one : (o : Option Domain) (here : Bool) (d : Domain) (x : Option (Unit {0})) → is_some x ≡ is_removal o → (here ≡ true → is_some o ≡ false) → d.removed ≡ true
    → is_some (cond here (Some tt) x) ≡ is_removal (or_else o (cond here (Some d) None))
dropped_one None true d x h apart e = sym e
dropped_one None false d x h apart e = h
dropped_one (Some y) true d x h apart e = let k : true ≡ false = apart refl in cc
dropped_one (Some y) false d x h apart e = h

not_dropped : (o : Option Domain) (here : Bool) (d : Domain) (x : Bool) → x ≡ is_removal o → d.removed ≡ false
    → x ≡ is_removal (or_else o (cond here (Some d) None))
not_dropped None true d x h e = h ∙ sym e
not_dropped None false d x h e = h
not_dropped (Some y) here d x h e = h

-- the time of a commit, from its last action on
abbrev earlier : Bool → Option ℤ → Option ℤ → Option ℤ
earlier started t said = cond started t (or_else t said)

no_time : (started : Bool) (t : Option ℤ) → t ≡ earlier started t None
no_time true t = refl
no_time false t = unsaid t

timed_already : (started : Bool) (t : Option ℤ) (time : ℤ) → (started || is_some t) ≡ true → t ≡ earlier started t (Some time)
timed_already true t time e = refl
timed_already false None time e = cc
timed_already false (Some x) time e = refl

timed_now : (started : Bool) (t : Option ℤ) (time : ℤ) → (started || is_some t) ≡ false → Some time ≡ earlier started t (Some time)
timed_now true t time e = cc
timed_now false None time e = refl
timed_now false (Some x) time e = cc

-- the same, of answers that are the same
Knows-same : (n : NewestFirst) (file file' : Key → Option Mention) (txns txns' : List ℕ → Option Txn) (domains domains' : List ℕ → Option Domain) (p p' : Option Protocol) (m m' : Option Meta)
    (t t' : Option ℤ) (started : Bool)
    → ((key : Key) → file key ≡ file' key) → ((app : List ℕ) → txns app ≡ txns' app) → ((name : List ℕ) → domains name ≡ domains' name) → p ≡ p' → m ≡ m' → t ≡ t'
    → Knows n file txns domains p m t started → Knows n file' txns' domains' p' m' t' started
Knows-same n file file' txns txns' domains domains' p p' m m' t t' started e f d g i j h = record {
  live = λ key. h.live key ∙ ap (option_and_then as_added) (e key);
  gone = λ key. h.gone key ∙ ap (option_and_then as_removed) (e key);
  txn = λ app. h.txn app ∙ f app;
  domain = λ name. h.domain name ∙ ap (option_and_then present) (d name);
  dropped = λ name. h.dropped name ∙ ap is_removal (d name);
  protocol = h.protocol ∙ g;
  meta = h.meta ∙ i;
  time = h.time ∙ j;
  begun = h.begun;
}

module _ (n : NewestFirst) (file : Key → Option Mention) (txns : List ℕ → Option Txn) (domains : List ℕ → Option Domain) (p : Option Protocol) (m : Option Meta) (t : Option ℤ) (started : Bool)
    (h : Knows n file txns domains p m t started) where
  -- what is known with one more action
  abbrev KnowsBefore : NewestFirst → Action → Type 0
  KnowsBefore k a =
      Knows k (λ key. or_else (file key) (mention key a)) (λ app. or_else (txns app) (txn_said app a)) (λ name. or_else (domains name) (domain_said name a))
      (or_else p (protocol_said a)) (or_else m (meta_said a)) (earlier started t (time_said a)) started

  is_file : (k : Key) → is_file_decided n k ≡ is_some (file k)
  is_file k = (λ i. is_some (h.live k i) || is_some (h.gone k i)) ∙ by_mention (file k)

  is_domain : (k : List ℕ) → is_domain_decided n k ≡ is_some (domains k)
  is_domain k = (λ i. is_some (h.domain k i) || h.dropped k i) ∙ by_domain (domains k)

  unsaid_file : (key : Key) → file key ≡ or_else (file key) None
  unsaid_file key = unsaid (file key)

  unsaid_txn : (app : List ℕ) → txns app ≡ or_else (txns app) None
  unsaid_txn app = unsaid (txns app)

  unsaid_domain : (name : List ℕ) → domains name ≡ or_else (domains name) None
  unsaid_domain name = unsaid (domains name)

  before-time : (a : Info) (b : Bool) → is_decided n (act.Info a) ≡ b → KnowsBefore (cond b n (settled n (act.Info a))) (act.Info a)
  before-time a true e =
      Knows-same n file _ txns _ domains _ p _ m _ t _ started unsaid_file unsaid_txn unsaid_domain (unsaid p) (unsaid m)
      (timed_already started t a.time ((λ i. sym h.begun i || is_some (sym h.time i)) ∙ e)) h
  before-time a false e =
      Knows-same (settled n (act.Info a)) file _ txns _ domains _ p _ m _ (Some a.time) _ started unsaid_file unsaid_txn unsaid_domain (unsaid p) (unsaid m)
      (timed_now started t a.time ((λ i. sym h.begun i || is_some (sym h.time i)) ∙ e))
      (record { live = h.live; gone = h.gone; txn = h.txn; domain = h.domain; dropped = h.dropped; protocol = h.protocol; meta = h.meta; time = refl; begun = h.begun })

  first_said : {A : Type 0} (o : Option A) (a : A) → is_some o ≡ true → o ≡ or_else o (Some a)
  first_said None a e = cc
  first_said (Some x) a e = refl

  now_said : {A : Type 0} (o : Option A) (a : A) → is_some o ≡ false → Some a ≡ or_else o (Some a)
  now_said None a e = refl
  now_said (Some x) a e = cc

  before-protocol : (a : Protocol) (b : Bool) → is_decided n (act.Protocol a) ≡ b → KnowsBefore (cond b n (settled n (act.Protocol a))) (act.Protocol a)
  before-protocol a true e =
      Knows-same n file _ txns _ domains _ p _ m _ t _ started unsaid_file unsaid_txn unsaid_domain
      (first_said p a (ap is_some (sym h.protocol) ∙ e)) (unsaid m) (no_time started t) h
  before-protocol a false e =
      Knows-same (settled n (act.Protocol a)) file _ txns _ domains _ (Some a) _ m _ t _ started unsaid_file unsaid_txn unsaid_domain
      (now_said p a (ap is_some (sym h.protocol) ∙ e)) (unsaid m) (no_time started t)
      (record { live = h.live; gone = h.gone; txn = h.txn; domain = h.domain; dropped = h.dropped; protocol = refl; meta = h.meta; time = h.time; begun = h.begun })

  before-meta : (a : Meta) (b : Bool) → is_decided n (act.Meta a) ≡ b → KnowsBefore (cond b n (settled n (act.Meta a))) (act.Meta a)
  before-meta a true e =
      Knows-same n file _ txns _ domains _ p _ m _ t _ started unsaid_file unsaid_txn unsaid_domain
      (unsaid p) (first_said m a (ap is_some (sym h.meta) ∙ e)) (no_time started t) h
  before-meta a false e =
      Knows-same (settled n (act.Meta a)) file _ txns _ domains _ p _ (Some a) _ t _ started unsaid_file unsaid_txn unsaid_domain
      (unsaid p) (now_said m a (ap is_some (sym h.meta) ∙ e)) (no_time started t)
      (record { live = h.live; gone = h.gone; txn = h.txn; domain = h.domain; dropped = h.dropped; protocol = h.protocol; meta = refl; time = h.time; begun = h.begun })

  before-txn : (a : Txn) (b : Bool) → is_decided n (act.Txn a) ≡ b → KnowsBefore (cond b n (settled n (act.Txn a))) (act.Txn a)
  before-txn a true e =
      Knows-same n file _ txns _ domains _ p _ m _ t _ started unsaid_file
      (λ app. passed (txns app) (same_app app a.app) a (at_name txns a.app true (ap is_some (sym (h.txn a.app)) ∙ e) app))
      unsaid_domain (unsaid p) (unsaid m) (no_time started t) h
  before-txn a false e =
      Knows-same (settled n (act.Txn a)) file _ (λ app. cond (same_app app a.app) (Some a) (txns app)) _ domains _ p _ m _ t _ started unsaid_file
      (λ app. counted_one (txns app) (same_app app a.app) a (at_name txns a.app false (ap is_some (sym (h.txn a.app)) ∙ e) app))
      unsaid_domain (unsaid p) (unsaid m) (no_time started t)
      (record {
        live = h.live;
        gone = h.gone;
        txn = λ app. fin.get-insert nat_list_cmp_total n.newer.txns a.app a app ∙ ap (cond (same_app app a.app) (Some a)) (h.txn app);
        domain = h.domain;
        dropped = h.dropped;
        protocol = h.protocol;
        meta = h.meta;
        time = h.time;
        begun = h.begun;
      })

  before-domain-new : (a : Domain) (removed : Bool) → a.removed ≡ removed → is_domain_decided n a.domain ≡ false
      → KnowsBefore (record n { newer = record n.newer { domains = cond removed n.newer.domains (fin.insert n.newer.domains a.domain a) }; dropped = cond removed (fin.insert n.dropped a.domain tt) n.dropped }) (act.Domain a)
  before-domain-new a true r e =
      let apart = at_name domains a.domain false (sym (is_domain a.domain) ∙ e) in
      record {
        live = λ key. h.live key ∙ ap (option_and_then as_added) (unsaid_file key);
        gone = λ key. h.gone key ∙ ap (option_and_then as_removed) (unsaid_file key);
        txn = λ app. h.txn app ∙ unsaid_txn app;
        domain = λ name. h.domain name ∙ silent present (domains name) (same_name name a.domain) a (ap (λ b. cond b None (Some a)) r);
        dropped = λ name. ap is_some (fin.get-insert nat_list_cmp_total n.dropped a.domain tt name)
            ∙ dropped_one (domains name) (same_name name a.domain) a (fin.get n.dropped name) (h.dropped name) (apart name) r;
        protocol = h.protocol ∙ unsaid p;
        meta = h.meta ∙ unsaid m;
        time = h.time ∙ no_time started t;
        begun = h.begun;
      }
  before-domain-new a false r e =
      let apart = at_name domains a.domain false (sym (is_domain a.domain) ∙ e) in
      record {
        live = λ key. h.live key ∙ ap (option_and_then as_added) (unsaid_file key);
        gone = λ key. h.gone key ∙ ap (option_and_then as_removed) (unsaid_file key);
        txn = λ app. h.txn app ∙ unsaid_txn app;
        domain = λ name. fin.get-insert nat_list_cmp_total n.newer.domains a.domain a name
            ∙ (λ i. cond (same_name name a.domain) (cond (sym r i) None (Some a)) (h.domain name i))
            ∙ counted present (domains name) (same_name name a.domain) a (apart name);
        dropped = λ name. not_dropped (domains name) (same_name name a.domain) a (is_dropped_in n name) (h.dropped name) r;
        protocol = h.protocol ∙ unsaid p;
        meta = h.meta ∙ unsaid m;
        time = h.time ∙ no_time started t;
        begun = h.begun;
      }

  before-domain : (a : Domain) (b : Bool) → is_decided n (act.Domain a) ≡ b → KnowsBefore (cond b n (settled n (act.Domain a))) (act.Domain a)
  before-domain a true e =
      Knows-same n file _ txns _ domains _ p _ m _ t _ started unsaid_file unsaid_txn
      (λ name. passed (domains name) (same_name name a.domain) a (at_name domains a.domain true (sym (is_domain a.domain) ∙ e) name))
      (unsaid p) (unsaid m) (no_time started t) h
  before-domain a false e = before-domain-new a a.removed refl e

  before-remove : (a : Remove) (b : Bool) → is_decided n (act.Remove a) ≡ b → KnowsBefore (cond b n (settled n (act.Remove a))) (act.Remove a)
  before-remove a true e =
      Knows-same n file _ txns _ domains _ p _ m _ t _ started
      (λ key. passed (file key) (same_key key (key_of_remove a)) (removed (record a { change = false })) (at_key file (key_of_remove a) true (sym (is_file (key_of_remove a)) ∙ e) key))
      unsaid_txn unsaid_domain (unsaid p) (unsaid m) (no_time started t) h
  before-remove a false e =
      let kept = record a { change = false } in
      let apart = at_key file (key_of_remove a) false (sym (is_file (key_of_remove a)) ∙ e) in
      record {
        live = λ key. h.live key ∙ silent as_added (file key) (same_key key (key_of_remove a)) (removed kept) refl;
        gone = λ key. fin.get-insert file_cmp_total n.newer.gone (key_of_remove a) kept key ∙ ap (cond (same_key key (key_of_remove a)) (Some kept)) (h.gone key)
            ∙ counted as_removed (file key) (same_key key (key_of_remove a)) (removed kept) (apart key);
        txn = λ app. h.txn app ∙ unsaid_txn app;
        domain = λ name. h.domain name ∙ ap (option_and_then present) (unsaid_domain name);
        dropped = λ name. h.dropped name ∙ ap is_removal (unsaid_domain name);
        protocol = h.protocol ∙ unsaid p;
        meta = h.meta ∙ unsaid m;
        time = h.time ∙ no_time started t;
        begun = h.begun;
      }

  before-add : (a : Add) (b : Bool) → is_decided n (act.Add a) ≡ b → KnowsBefore (cond b n (settled n (act.Add a))) (act.Add a)
  before-add a true e =
      Knows-same n file _ txns _ domains _ p _ m _ t _ started
      (λ key. passed (file key) (same_key key (key_of a)) (added (record a { change = false })) (at_key file (key_of a) true (sym (is_file (key_of a)) ∙ e) key))
      unsaid_txn unsaid_domain (unsaid p) (unsaid m) (no_time started t) h
  before-add a false e =
      let kept = record a { change = false } in
      let apart = at_key file (key_of a) false (sym (is_file (key_of a)) ∙ e) in
      record {
        live = λ key. fin.get-insert file_cmp_total n.newer.live (key_of a) kept key ∙ ap (cond (same_key key (key_of a)) (Some kept)) (h.live key)
            ∙ counted as_added (file key) (same_key key (key_of a)) (added kept) (apart key);
        gone = λ key. h.gone key ∙ silent as_removed (file key) (same_key key (key_of a)) (added kept) refl;
        txn = λ app. h.txn app ∙ unsaid_txn app;
        domain = λ name. h.domain name ∙ ap (option_and_then present) (unsaid_domain name);
        dropped = λ name. h.dropped name ∙ ap is_removal (unsaid_domain name);
        protocol = h.protocol ∙ unsaid p;
        meta = h.meta ∙ unsaid m;
        time = h.time ∙ no_time started t;
        begun = h.begun;
      }

  Knows-before : (a : Action) → KnowsBefore (before n a) a
  Knows-before (act.Info a) = before-time a (is_decided n (act.Info a)) refl
  Knows-before (act.Protocol a) = before-protocol a (is_decided n (act.Protocol a)) refl
  Knows-before (act.Meta a) = before-meta a (is_decided n (act.Meta a)) refl
  Knows-before (act.Txn a) = before-txn a (is_decided n (act.Txn a)) refl
  Knows-before (act.Domain a) = before-domain a (is_decided n (act.Domain a)) refl
  Knows-before (act.Remove a) = before-remove a (is_decided n (act.Remove a)) refl
  Knows-before (act.Add a) = before-add a (is_decided n (act.Add a)) refl

earlier_twice : (started : Bool) (t a b : Option ℤ) → earlier started (earlier started t a) b ≡ earlier started t (or_else a b)
earlier_twice true t a b = refl
earlier_twice false t a b = or_else_assoc t a b

Knows-all : (commit : List Action) (n : NewestFirst) (file : Key → Option Mention) (txns : List ℕ → Option Txn) (domains : List ℕ → Option Domain) (p : Option Protocol) (m : Option Meta) (t : Option ℤ) (started : Bool)
    → Knows n file txns domains p m t started
    → Knows (all_before n commit) (λ key. or_else (file key) (last_said (mention key) commit)) (λ app. or_else (txns app) (last_said (txn_said app) commit))
    (λ name. or_else (domains name) (last_said (domain_said name) commit)) (or_else p (last_said protocol_said commit)) (or_else m (last_said meta_said commit))
    (earlier started t (last_said time_said commit)) started
Knows-all [] n file txns domains p m t started h =
    Knows-same n file _ txns _ domains _ p _ m _ t _ started (λ key. unsaid (file key)) (λ app. unsaid (txns app)) (λ name. unsaid (domains name)) (unsaid p) (unsaid m) (no_time started t) h
Knows-all (a ∷ rest) n file txns domains p m t started h =
    Knows-same (before (all_before n rest) a) _ _ _ _ _ _ _ _ _ _ _ _ started
    (λ key. or_else_assoc (file key) (last_said (mention key) rest) (mention key a))
    (λ app. or_else_assoc (txns app) (last_said (txn_said app) rest) (txn_said app a))
    (λ name. or_else_assoc (domains name) (last_said (domain_said name) rest) (domain_said name a))
    (or_else_assoc p (last_said protocol_said rest) (protocol_said a))
    (or_else_assoc m (last_said meta_said rest) (meta_said a))
    (earlier_twice started t (last_said time_said rest) (time_said a))
    (Knows-before (all_before n rest) (λ key. or_else (file key) (last_said (mention key) rest)) (λ app. or_else (txns app) (last_said (txn_said app) rest))
    (λ name. or_else (domains name) (last_said (domain_said name) rest)) (or_else p (last_said protocol_said rest)) (or_else m (last_said meta_said rest))
    (earlier started t (last_said time_said rest)) started (Knows-all rest n file txns domains p m t started h) a)

newest_time : (o : Option (List Action)) (commit : List Action)
    → earlier (is_some o) (option_and_then (last_said time_said) o) (last_said time_said commit) ≡ option_and_then (last_said time_said) (or_else o (Some commit))
newest_time None commit = refl
newest_time (Some newest) commit = refl

is_begun : (o : Option (List Action)) (commit : List Action) → true ≡ is_some (or_else o (Some commit))
is_begun None commit = refl
is_begun (Some newest) commit = refl

pub Newer-older : (n : NewestFirst) (commit : List Action) (log : Log) → Newer n log → Newer (older n commit) (commit ∷ log)
unfolding live_at gone_at txn_at domain_at protocol_of_log meta_of_log time_of_log
Newer-older n commit log h =
    let start : Knows n (λ key. in_log (mention key) log) (λ app. in_log (txn_said app) log) (λ name. in_log (domain_said name) log) (in_log protocol_said log) (in_log meta_said log)
    (option_and_then (last_said time_said) (last_commit log)) (is_some (last_commit log))
    = record {
      live = h.stands.table.live;
      gone = h.stands.table.gone;
      txn = h.stands.table.txn;
      domain = h.stands.table.domain;
      dropped = h.dropped;
      protocol = h.stands.table.protocol;
      meta = h.stands.table.meta;
      time = h.stands.time;
      begun = h.begun;
    } in
    let end = Knows-all commit n (λ key. in_log (mention key) log) (λ app. in_log (txn_said app) log) (λ name. in_log (domain_said name) log) (in_log protocol_said log) (in_log meta_said log)
    (option_and_then (last_said time_said) (last_commit log)) (is_some (last_commit log)) start in
    record {
      stands = record {
        table = record { live = end.live; gone = end.gone; txn = end.txn; domain = end.domain; protocol = end.protocol; meta = end.meta };
        time = end.time ∙ newest_time (last_commit log) commit;
      };
      dropped = end.dropped;
      begun = is_begun (last_commit log) commit;
    }

-- what `older` makes of what is decided
pub read : {E : Type 0} (r : Result NewestFirst E) (n : NewestFirst) (commit : List Action) → IfOk r (λ k. k ≡ older n commit)
    → (log : Log) → Newer n log → IfOk r (λ k. Newer k (commit ∷ log))
read (Ok k) n commit made log h = subst (λ k. Newer k (commit ∷ log)) (sym made) (Newer-older n commit log h)
read (Err e) n commit made log h = tt

-- ---- what is decided on a base

live_over : (o : Option Mention) (base : Option Add) → or_else (option_and_then as_added o) (cond (is_some (option_and_then as_removed o)) None base) ≡ told as_added o base
live_over None base = refl
live_over (Some (added add)) base = refl
live_over (Some (removed remove)) base = refl

gone_over : (o : Option Mention) (base : Option Remove) → or_else (option_and_then as_removed o) (cond (is_some (option_and_then as_added o)) None base) ≡ told as_removed o base
gone_over None base = refl
gone_over (Some (added add)) base = refl
gone_over (Some (removed remove)) base = refl

present_over : (removed : Bool) (d : Domain) (base : Option Domain) → or_else (cond removed None (Some d)) (cond removed None base) ≡ cond removed None (Some d)
present_over true d base = refl
present_over false d base = refl

domain_over : (o : Option Domain) (base : Option Domain) → or_else (option_and_then present o) (cond (is_removal o) None base) ≡ told present o base
domain_over None base = refl
domain_over (Some d) base = present_over d.removed d base

time_over : (o : Option (List Action)) (base : Option ℤ) → cond (is_some o) (option_and_then (last_said time_said) o) base ≡ told (last_said time_said) o base
time_over None base = refl
time_over (Some newest) base = refl

pub IsAfter-over : (s base : State) (n : NewestFirst) (log : Log) → Newer n log → IsOver s base n → IsAfter s base log
unfolding live_at gone_at txn_at domain_at protocol_of_log meta_of_log time_of_log
IsAfter-over s base n log h o = record {
  live = λ key. o.live key ∙ (λ i. or_else (h.stands.table.live key i) (cond (is_some (h.stands.table.gone key i)) None (live_in base key)))
      ∙ live_over (in_log (mention key) log) (live_in base key);
  gone = λ key. o.gone key ∙ (λ i. or_else (h.stands.table.gone key i) (cond (is_some (h.stands.table.live key i)) None (gone_in base key)))
      ∙ gone_over (in_log (mention key) log) (gone_in base key);
  txn = λ app. o.txn app ∙ ap (λ t. or_else t (txn_in base app)) (h.stands.table.txn app);
  domain = λ name. o.domain name ∙ (λ i. or_else (h.stands.table.domain name i) (cond (h.dropped name i) None (domain_in base name)))
      ∙ domain_over (in_log (domain_said name) log) (domain_in base name);
  protocol = o.protocol ∙ ap (λ t. or_else t (protocol_in base)) h.stands.table.protocol;
  meta = o.meta ∙ ap (λ t. or_else t (meta_in base)) h.stands.table.meta;
  time = o.time ∙ (λ i. cond (h.begun i) (h.stands.time i) (time_in base)) ∙ time_over (last_commit log) (time_in base);
}

-- the last action of a commit that is left
pub last_left : (n : NewestFirst) (rest : List Action) (a : Action) → all_before n (rest ++ a ∷ []) ≡ all_before (before n a) rest
last_left n [] a = refl
last_left n (x ∷ rest) a = ap (λ k. before k x) (last_left n rest a)
