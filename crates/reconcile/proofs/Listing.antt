-- The walks of a log list its replay, and those of a state that stands for it are the same lists.
use Rattle.std.proofs.Common.{◌≡◌, ℕ, Bool, true, false, cond, List, refl, ap, sym, ◌∙◌}
use Rattle.std.specs.Prelude.{Option, Some, None, option_and_then, IfSome}
use Rattle.std.specs.Cmp.Lexicographic.{nat_list_cmp_total}
use Rattle.std.specs.List.{filter_map, flat_map, list_any}
use Rattle.std.specs.FinMap as fin
use Rattle.action_types.specs.declared.actions.Action.{Action}
use Rattle.action_types.specs.declared.actions.Action.TheVariants as act
use Rattle.action_types.specs.declared.actions.Add.{Add}
use Rattle.action_types.specs.declared.actions.Remove.{Remove}
use Rattle.action_types.specs.declared.actions.Txn.{Txn}
use Rattle.action_types.specs.declared.actions.Domain.{Domain}
use Rattle.action_types.specs.Files.{file_cmp_total}
use Rattle.reconcile.specs.Keys.{Key, key_of, key_of_remove, key_cmp, same_key, name_cmp, same_name, same_app}
use Rattle.reconcile.specs.Replay.{Log, last_said, in_log, Mention, added, removed, mention, as_added, as_removed, live_at, gone_at, txn_said, txn_at, domain_said, present, domain_at}
use Rattle.reconcile.specs.Standing.{HasTableOf, StandsFor, files_in, tombstones_in, txns_in, domains_in}
use Rattle.reconcile.specs.Walks.{Lists, file_named, app_named, domain_named, files_of, tombstones_of, txns_of, domains_of}
use Rattle.reconcile.specs.declared.state.State.{State}
use Rattle.reconcile.proofs.Files.{exact_files}
use Rattle.reconcile.proofs.Named.{exact_names}
use Rattle.reconcile.proofs.InOrder.{hits, log_none, said_so, equal, values-in_order, Lists-in_order}

-- only equal keys name one file
exact_keys : fin.IsAntisymmetric key_cmp
exact_keys = exact_files

-- ---- an action that does not name a key says nothing of it

silent_file : (key : Key) (a : Action) → hits (same_key key) (file_named a) ≡ false → mention key a ≡ None
silent_file key (act.Info info) e = refl
silent_file key (act.Protocol protocol) e = refl
silent_file key (act.Meta meta) e = refl
silent_file key (act.Txn txn) e = refl
silent_file key (act.Domain domain) e = refl
silent_file key (act.Remove remove) e = ap (λ b. cond b (Some (removed (record remove { change = false }))) None) e
silent_file key (act.Add add) e = ap (λ b. cond b (Some (added (record add { change = false }))) None) e

silent_app : (app : List ℕ) (a : Action) → hits (same_app app) (app_named a) ≡ false → txn_said app a ≡ None
silent_app app (act.Info info) e = refl
silent_app app (act.Protocol protocol) e = refl
silent_app app (act.Meta meta) e = refl
silent_app app (act.Txn txn) e = ap (λ b. cond b (Some txn) None) e
silent_app app (act.Domain domain) e = refl
silent_app app (act.Remove remove) e = refl
silent_app app (act.Add add) e = refl

silent_domain : (name : List ℕ) (a : Action) → hits (same_name name) (domain_named a) ≡ false → domain_said name a ≡ None
silent_domain name (act.Info info) e = refl
silent_domain name (act.Protocol protocol) e = refl
silent_domain name (act.Meta meta) e = refl
silent_domain name (act.Txn txn) e = refl
silent_domain name (act.Domain domain) e = ap (λ b. cond b (Some domain) None) e
silent_domain name (act.Remove remove) e = refl
silent_domain name (act.Add add) e = refl

unnamed_file : (log : Log) (key : Key) → list_any (same_key key) (flat_map (filter_map file_named) log) ≡ false → in_log (mention key) log ≡ None
unnamed_file log key e = log_none (same_key key) file_named (mention key) (silent_file key) log e

unnamed_live : (log : Log) (key : Key) → list_any (same_key key) (flat_map (filter_map file_named) log) ≡ false → live_at key log ≡ None
unfolding live_at
unnamed_live log key e = ap (option_and_then as_added) (unnamed_file log key e)

unnamed_gone : (log : Log) (key : Key) → list_any (same_key key) (flat_map (filter_map file_named) log) ≡ false → gone_at key log ≡ None
unfolding gone_at
unnamed_gone log key e = ap (option_and_then as_removed) (unnamed_file log key e)

unnamed_txn : (log : Log) (app : List ℕ) → list_any (same_app app) (flat_map (filter_map app_named) log) ≡ false → txn_at app log ≡ None
unfolding txn_at
unnamed_txn log app e = log_none (same_app app) app_named (txn_said app) (silent_app app) log e

unnamed_domain : (log : Log) (name : List ℕ) → list_any (same_name name) (flat_map (filter_map domain_named) log) ≡ false → domain_at name log ≡ None
unfolding domain_at
unnamed_domain log name e = ap (option_and_then present) (log_none (same_name name) domain_named (domain_said name) (silent_domain name) log e)

-- ---- what is said of a key has that key

abbrev IsOf : Key → Mention → Type 0
IsOf key (added add) = key_of add ≡ key
IsOf key (removed remove) = key_of_remove remove ≡ key

of_key : (key : Key) (b : Bool) (k : Key) (m : Mention) → same_key key k ≡ b → (k ≡ key → IsOf key m) → IfSome (cond b (Some m) None) (IsOf key)
of_key key true k m e is = is (sym (exact_keys key k (equal (key_cmp key k) e)))
of_key key false k m e is = tt

mention_own : (key : Key) (a : Action) → IfSome (mention key a) (IsOf key)
mention_own key (act.Info info) = tt
mention_own key (act.Protocol protocol) = tt
mention_own key (act.Meta meta) = tt
mention_own key (act.Txn txn) = tt
mention_own key (act.Domain domain) = tt
mention_own key (act.Remove remove) = of_key key (same_key key (key_of_remove remove)) (key_of_remove remove) (removed (record remove { change = false })) refl (λ e. e)
mention_own key (act.Add add) = of_key key (same_key key (key_of add)) (key_of add) (added (record add { change = false })) refl (λ e. e)

of_app : (app : List ℕ) (b : Bool) (txn : Txn) → same_app app txn.app ≡ b → IfSome (cond b (Some txn) None) (λ t. t.app ≡ app)
of_app app true txn e = sym (exact_names app txn.app (equal (name_cmp app txn.app) e))
of_app app false txn e = tt

txn_own : (app : List ℕ) (a : Action) → IfSome (txn_said app a) (λ t. t.app ≡ app)
txn_own app (act.Info info) = tt
txn_own app (act.Protocol protocol) = tt
txn_own app (act.Meta meta) = tt
txn_own app (act.Txn txn) = of_app app (same_app app txn.app) txn refl
txn_own app (act.Domain domain) = tt
txn_own app (act.Remove remove) = tt
txn_own app (act.Add add) = tt

log_own : (key : Key) (log : Log) → IfSome (in_log (mention key) log) (IsOf key)
log_own key log = said_so (IsOf key) (last_said (mention key)) (λ c. said_so (IsOf key) (mention key) (mention_own key) c) log

live_own : (key : Key) (o : Option Mention) (add : Add) → IfSome o (IsOf key) → option_and_then as_added o ≡ Some add → key_of add ≡ key
live_own key None add h e = cc
live_own key (Some (added a)) add h e = let same : a ≡ add = cc in ap key_of (sym same) ∙ h
live_own key (Some (removed r)) add h e = cc

gone_own : (key : Key) (o : Option Mention) (remove : Remove) → IfSome o (IsOf key) → option_and_then as_removed o ≡ Some remove → key_of_remove remove ≡ key
gone_own key None remove h e = cc
gone_own key (Some (added a)) remove h e = cc
gone_own key (Some (removed r)) remove h e = let same : r ≡ remove = cc in ap key_of_remove (sym same) ∙ h

pub live_at-key : (log : Log) (key : Key) (add : Add) → live_at key log ≡ Some add → key_of add ≡ key
unfolding live_at
live_at-key log key add e = live_own key (in_log (mention key) log) add (log_own key log) e

pub gone_at-key : (log : Log) (key : Key) (remove : Remove) → gone_at key log ≡ Some remove → key_of_remove remove ≡ key
unfolding gone_at
gone_at-key log key remove e = gone_own key (in_log (mention key) log) remove (log_own key log) e

txn_is : (app : List ℕ) (o : Option Txn) (txn : Txn) → IfSome o (λ t. t.app ≡ app) → o ≡ Some txn → txn.app ≡ app
txn_is app None txn h e = cc
txn_is app (Some t) txn h e = let same : t ≡ txn = cc in ap (λ t. t.app) (sym same) ∙ h

pub txn_at-key : (log : Log) (app : List ℕ) (txn : Txn) → txn_at app log ≡ Some txn → txn.app ≡ app
unfolding txn_at
txn_at-key log app txn e = txn_is app (in_log (txn_said app) log) txn (said_so (λ t. t.app ≡ app) (last_said (txn_said app)) (λ c. said_so (λ t. t.app ≡ app) (txn_said app) (txn_own app) c) log) e

of_domain : (name : List ℕ) (b : Bool) (domain : Domain) → same_name name domain.domain ≡ b → IfSome (cond b (Some domain) None) (λ d. d.domain ≡ name)
of_domain name true domain e = sym (exact_names name domain.domain (equal (name_cmp name domain.domain) e))
of_domain name false domain e = tt

domain_own : (name : List ℕ) (a : Action) → IfSome (domain_said name a) (λ d. d.domain ≡ name)
domain_own name (act.Info info) = tt
domain_own name (act.Protocol protocol) = tt
domain_own name (act.Meta meta) = tt
domain_own name (act.Txn txn) = tt
domain_own name (act.Domain domain) = of_domain name (same_name name domain.domain) domain refl
domain_own name (act.Remove remove) = tt
domain_own name (act.Add add) = tt

there : (removed : Bool) (d domain : Domain) → cond removed None (Some d) ≡ Some domain → d ≡ domain
there true d domain e = cc
there false d domain e = cc

domain_is : (name : List ℕ) (o : Option Domain) (domain : Domain) → IfSome o (λ d. d.domain ≡ name) → option_and_then present o ≡ Some domain → domain.domain ≡ name
domain_is name None domain h e = cc
domain_is name (Some d) domain h e = ap (λ d. d.domain) (sym (there d.removed d domain e)) ∙ h

pub domain_at-key : (log : Log) (name : List ℕ) (domain : Domain) → domain_at name log ≡ Some domain → domain.domain ≡ name
unfolding domain_at
domain_at-key log name domain e =
    domain_is name (in_log (domain_said name) log) domain
    (said_so (λ d. d.domain ≡ name) (last_said (domain_said name)) (λ c. said_so (λ d. d.domain ≡ name) (domain_said name) (domain_own name) c) log) e

-- ---- the walks

pub files_of-lists : (log : Log) → Lists key_cmp key_of (files_of log) (λ key. live_at key log)
unfolding files_of
files_of-lists log = Lists-in_order file_cmp_total exact_keys key_of (λ key. live_at key log) (flat_map (filter_map file_named) log) (unnamed_live log) (live_at-key log)

pub tombstones_of-lists : (log : Log) → Lists key_cmp key_of_remove (tombstones_of log) (λ key. gone_at key log)
unfolding tombstones_of
tombstones_of-lists log = Lists-in_order file_cmp_total exact_keys key_of_remove (λ key. gone_at key log) (flat_map (filter_map file_named) log) (unnamed_gone log) (gone_at-key log)

pub txns_of-lists : (log : Log) → Lists name_cmp (λ t. t.app) (txns_of log) (λ app. txn_at app log)
unfolding txns_of
txns_of-lists log = Lists-in_order nat_list_cmp_total exact_names (λ t. t.app) (λ app. txn_at app log) (flat_map (filter_map app_named) log) (unnamed_txn log) (txn_at-key log)

pub domains_of-lists : (log : Log) → Lists name_cmp (λ d. d.domain) (domains_of log) (λ name. domain_at name log)
unfolding domains_of
domains_of-lists log =
    Lists-in_order nat_list_cmp_total exact_names (λ d. d.domain) (λ name. domain_at name log) (flat_map (filter_map domain_named) log) (unnamed_domain log) (domain_at-key log)

pub files_in-log : (s : State) (log : Log) → HasTableOf s log → files_in s ≡ files_of log
unfolding files_of
files_in-log s log h = values-in_order file_cmp_total exact_keys (λ key. live_at key log) (flat_map (filter_map file_named) log) (unnamed_live log) s.live h.live

pub tombstones_in-log : (s : State) (log : Log) → HasTableOf s log → tombstones_in s ≡ tombstones_of log
unfolding tombstones_of
tombstones_in-log s log h = values-in_order file_cmp_total exact_keys (λ key. gone_at key log) (flat_map (filter_map file_named) log) (unnamed_gone log) s.gone h.gone

pub txns_in-log : (s : State) (log : Log) → HasTableOf s log → txns_in s ≡ txns_of log
unfolding txns_of
txns_in-log s log h = values-in_order nat_list_cmp_total exact_names (λ app. txn_at app log) (flat_map (filter_map app_named) log) (unnamed_txn log) s.txns h.txn

pub domains_in-log : (s : State) (log : Log) → HasTableOf s log → domains_in s ≡ domains_of log
unfolding domains_of
domains_in-log s log h =
    values-in_order nat_list_cmp_total exact_names (λ name. domain_at name log) (flat_map (filter_map domain_named) log) (unnamed_domain log) s.domains h.domain

-- ---- one state

pub one_state : (s t : State) (log : Log) → StandsFor s log → StandsFor t log → s ≡ t
one_state s t log h g =
    let live = fin.same_map file_cmp_total exact_keys s.live t.live (λ q. h.table.live q ∙ sym (g.table.live q)) in
    let gone = fin.same_map file_cmp_total exact_keys s.gone t.gone (λ q. h.table.gone q ∙ sym (g.table.gone q)) in
    let txns = fin.same_map nat_list_cmp_total exact_names s.txns t.txns (λ q. h.table.txn q ∙ sym (g.table.txn q)) in
    let domains = fin.same_map nat_list_cmp_total exact_names s.domains t.domains (λ q. h.table.domain q ∙ sym (g.table.domain q)) in
    λ i. record {
      live = live i;
      gone = gone i;
      txns = txns i;
      domains = domains i;
      protocol = (h.table.protocol ∙ sym g.table.protocol) i;
      meta = (h.table.meta ∙ sym g.table.meta) i;
      time = (h.time ∙ sym g.time) i;
    }
