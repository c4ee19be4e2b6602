-- The actions of a state that has the table of a log have this table, as one commit, and no doubles.
use Rattle.std.proofs.Common.{◌≡◌, ℕ, ◌+◌, ◌≤◌, List, [], ◌∷◌, ◌++◌, map, Bool, true, false, cond, bytes_eq, Option, Some, None, IfSome, is_some, option_map, option_and_then, refl, sym, ap, ◌∙◌, subst, arith}
use Rattle.std.specs.Prelude.{⊤}
use Rattle.std.specs.List.{count_by, find}
use Rattle.std.specs.Cmp.{IsEquivalence}
use Rattle.std.specs.Cmp.Lexicographic.{nat_list_cmp_total}
use Rattle.std.proofs.lemmas.Cmp.{eq_by_cmp_equiv}
use Rattle.std.proofs.lemmas.Map.Text.{is_eq-slice_cmp}
use Rattle.action_types.specs.declared.actions.Action.{Action}
use Rattle.action_types.specs.declared.actions.Action.TheVariants as action
use Rattle.action_types.specs.declared.actions.Add.{Add}
use Rattle.action_types.specs.declared.actions.Remove.{Remove}
use Rattle.action_types.specs.declared.actions.Domain.{Domain}
use Rattle.action_types.specs.declared.actions.Protocol.{Protocol}
use Rattle.action_types.specs.declared.actions.Meta.{Meta}
use Rattle.action_types.specs.Files.{File, file_cmp_total, file_of_add, file_of_remove, same_file, name_cmp}
use Rattle.action_json.specs.Commit.{mentions, is_of_app, is_of_domain, is_info, is_protocol, is_meta}
use Rattle.reconcile.specs.Keys.{Key, key_of, key_of_remove, key_cmp, same_key, same_name, same_app}
use Rattle.reconcile.specs.Replay.{Log, or_else, last_said, in_log, Mention, added, removed, mention, as_added, as_removed, live_at, gone_at, txn_said, txn_at, domain_said, present, domain_at, protocol_said, protocol_of_log, meta_said, meta_of_log}
use Rattle.reconcile.specs.Standing.{HasTableOf, protocol_in, meta_in, txns_in, domains_in, tombstones_in, files_in}
use Rattle.reconcile.specs.Walks.{Lists}
use Rattle.reconcile.specs.declared.state.State.{State}
use Rattle.reconcile.proofs.Last.{or_else-none, last_said-append}
use Rattle.reconcile.proofs.Listing.{files_of-lists, tombstones_of-lists, txns_of-lists, domains_of-lists, files_in-log, tombstones_in-log, txns_in-log, domains_in-log}
use Rattle.checkpoint_v2.specs.Canonical.{protocol_action, meta_action, table_actions, HasValidFields}
use Rattle.checkpoint_v2.specs.Table.{HasSameTable}
use Rattle.checkpoint_v2.specs.Text.{HasNoDoubles}
use Rattle.checkpoint_v2.proofs.Counts.{one, count-append}
use Rattle.checkpoint_v2.proofs.Kept.{live_kept, gone_kept}
use Rattle.checkpoint_v2.proofs.Once.{last_made, last_silent, count_made, count_silent, count_alike, last_once, count_once, sorted_once}

-- ---- the lists of a state

pub files_equiv : IsEquivalence same_key
files_equiv = eq_by_cmp_equiv file_cmp_total

pub names_equiv : IsEquivalence same_name
names_equiv = eq_by_cmp_equiv nat_list_cmp_total

pub files-lists : (s : State) (log : Log) → HasTableOf s log → Lists key_cmp key_of (files_in s) (λ key. live_at key log)
files-lists s log h = subst (λ l. Lists key_cmp key_of l (λ key. live_at key log)) (sym (files_in-log s log h)) (files_of-lists log)

pub tombstones-lists : (s : State) (log : Log) → HasTableOf s log → Lists key_cmp key_of_remove (tombstones_in s) (λ key. gone_at key log)
tombstones-lists s log h = subst (λ l. Lists key_cmp key_of_remove l (λ key. gone_at key log)) (sym (tombstones_in-log s log h)) (tombstones_of-lists log)

pub txns-lists : (s : State) (log : Log) → HasTableOf s log → Lists name_cmp (λ t. t.app) (txns_in s) (λ app. txn_at app log)
txns-lists s log h = subst (λ l. Lists name_cmp (λ t. t.app) l (λ app. txn_at app log)) (sym (txns_in-log s log h)) (txns_of-lists log)

pub domains-lists : (s : State) (log : Log) → HasTableOf s log → Lists name_cmp (λ d. d.domain) (domains_in s) (λ name. domain_at name log)
domains-lists s log h = subst (λ l. Lists name_cmp (λ d. d.domain) l (λ name. domain_at name log)) (sym (domains_in-log s log h)) (domains_of-lists log)

-- ---- what the actions say, kind by kind

abbrev six : {B : Type 0} → Option B → Option B → Option B → Option B → Option B → Option B → Option B
six files tombstones domains txns meta protocol = or_else (or_else (or_else (or_else (or_else files tombstones) domains) txns) meta) protocol

last_table : {B : Type 0} (says : Action → Option B) (s : State)
    → last_said says (table_actions s)
    ≡ six (last_said says (map action.Add (files_in s))) (last_said says (map action.Remove (tombstones_in s))) (last_said says (map action.Domain (domains_in s)))
    (last_said says (map action.Txn (txns_in s))) (last_said says (meta_action (meta_in s))) (last_said says (protocol_action (protocol_in s)))
last_table says s =
    let files = map action.Add (files_in s) in
    let tombstones = map action.Remove (tombstones_in s) in
    let domains = map action.Domain (domains_in s) in
    let txns = map action.Txn (txns_in s) in
    let meta = meta_action (meta_in s) in
    let protocol = protocol_action (protocol_in s) in
    last_said-append says protocol (meta ++ (txns ++ (domains ++ (tombstones ++ files))))
    ∙ ap (λ o. or_else o (last_said says protocol)) (last_said-append says meta (txns ++ (domains ++ (tombstones ++ files)))
    ∙ ap (λ o. or_else o (last_said says meta)) (last_said-append says txns (domains ++ (tombstones ++ files))
    ∙ ap (λ o. or_else o (last_said says txns)) (last_said-append says domains (tombstones ++ files)
    ∙ ap (λ o. or_else o (last_said says domains)) (last_said-append says tombstones files))))

all_six : {B : Type 0} {f f' r r' d d' t t' m m' p p' : Option B} → f ≡ f' → r ≡ r' → d ≡ d' → t ≡ t' → m ≡ m' → p ≡ p' → six f r d t m p ≡ six f' r' d' t' m' p'
all_six f r d t m p = λ i. six (f i) (r i) (d i) (t i) (m i) (p i)

no_protocol : {B : Type 0} (says : Action → Option B) → ((p : Protocol) → says (action.Protocol p) ≡ None) → (o : Option Protocol) → last_said says (protocol_action o) ≡ None
no_protocol says k None = refl
no_protocol says k (Some p) = k p

no_meta : {B : Type 0} (says : Action → Option B) → ((m : Meta) → says (action.Meta m) ≡ None) → (o : Option Meta) → last_said says (meta_action o) ≡ None
no_meta says k None = refl
no_meta says k (Some m) = k m

-- ---- files

made_added : (o : Option Add) → IfSome o (λ add. (add.change ≡ false) × ⊤) → option_map (λ add. added (record add { change = false })) o ≡ option_map added o
made_added None h = refl
made_added (Some a) h = ap (λ b. Some (added (record a { change = b }))) (sym h.0)

made_removed : (o : Option Remove) → IfSome o (λ remove. (remove.change ≡ false) × ⊤) → option_map (λ remove. removed (record remove { change = false })) o ≡ option_map removed o
made_removed None h = refl
made_removed (Some a) h = ap (λ b. Some (removed (record a { change = b }))) (sym h.0)

forget : {X : Type 0} (P Q : X → Type 0) (o : Option X) → IfSome o (λ x. P x × Q x) → IfSome o (λ x. P x × ⊤)
forget P Q None h = tt
forget P Q (Some x) h = (h.0, tt)

said_added : (s : State) (log : Log) (key : Key) → HasTableOf s log → HasValidFields log → last_said (mention key) (map action.Add (files_in s)) ≡ option_map added (live_at key log)
said_added s log key h valid =
    let l = files-lists s log h in
    last_made (mention key) action.Add (files_in s)
    ∙ last_once (λ add. same_key key (key_of add)) (λ add. added (record add { change = false })) (files_in s) (sorted_once key_cmp files_equiv key_of key (files_in s) l.rising)
    ∙ ap (option_map (λ add. added (record add { change = false }))) (l.tells key)
    ∙ made_added (live_at key log) (forget (λ add. add.change ≡ false) _ (live_at key log) (live_kept log key valid))

said_removed : (s : State) (log : Log) (key : Key) → HasTableOf s log → HasValidFields log → last_said (mention key) (map action.Remove (tombstones_in s)) ≡ option_map removed (gone_at key log)
said_removed s log key h valid =
    let l = tombstones-lists s log h in
    last_made (mention key) action.Remove (tombstones_in s)
    ∙ last_once (λ remove. same_key key (key_of_remove remove)) (λ remove. removed (record remove { change = false })) (tombstones_in s) (sorted_once key_cmp files_equiv key_of_remove key (tombstones_in s) l.rising)
    ∙ ap (option_map (λ remove. removed (record remove { change = false }))) (l.tells key)
    ∙ made_removed (gone_at key log) (forget (λ remove. remove.change ≡ false) _ (gone_at key log) (gone_kept log key valid))

put_together : (o : Option Mention) → six (option_map added (option_and_then as_added o)) (option_map removed (option_and_then as_removed o)) None None None None ≡ o
put_together None = refl
put_together (Some (added a)) = refl
put_together (Some (removed r)) = refl

-- the actions mention a file as the log does
said_file : (s : State) (log : Log) (key : Key) → HasTableOf s log → HasValidFields log → last_said (mention key) (table_actions s) ≡ in_log (mention key) log
unfolding live_at gone_at
said_file s log key h valid =
    last_table (mention key) s
    ∙ all_six (said_added s log key h valid) (said_removed s log key h valid) (last_silent (mention key) action.Domain (λ d. refl) (domains_in s)) (last_silent (mention key) action.Txn (λ t. refl) (txns_in s))
    (no_meta (mention key) (λ m. refl) (meta_in s)) (no_protocol (mention key) (λ p. refl) (protocol_in s))
    ∙ put_together (in_log (mention key) log)

-- ---- applications and domains

itself : {X : Type 0} (o : Option X) → option_map (λ x. x) o ≡ o
itself None = refl
itself (Some x) = refl

only_txns : {B : Type 0} (o : Option B) → six None None None o None None ≡ o
only_txns o = or_else-none (or_else o None) ∙ or_else-none o

only_domains : {B : Type 0} (o : Option B) → six None None o None None None ≡ o
only_domains o = or_else-none (or_else (or_else o None) None) ∙ or_else-none (or_else o None) ∙ or_else-none o

only_meta : {B : Type 0} (o : Option B) → six None None None None o None ≡ o
only_meta o = or_else-none o

said_txn : (s : State) (log : Log) (app : List ℕ) → HasTableOf s log → last_said (txn_said app) (table_actions s) ≡ txn_at app log
said_txn s log app h =
    let l = txns-lists s log h in
    let own : last_said (txn_said app) (map action.Txn (txns_in s)) ≡ txn_at app log =
    last_made (txn_said app) action.Txn (txns_in s)
    ∙ last_once (λ t. same_app app t.app) (λ t. t) (txns_in s) (sorted_once name_cmp names_equiv (λ t. t.app) app (txns_in s) l.rising)
    ∙ itself (find (λ t. same_app app t.app) (txns_in s)) ∙ l.tells app in
    last_table (txn_said app) s
    ∙ all_six (last_silent (txn_said app) action.Add (λ a. refl) (files_in s)) (last_silent (txn_said app) action.Remove (λ r. refl) (tombstones_in s)) (last_silent (txn_said app) action.Domain (λ d. refl) (domains_in s)) own
    (no_meta (txn_said app) (λ m. refl) (meta_in s)) (no_protocol (txn_said app) (λ p. refl) (protocol_in s))
    ∙ only_txns (txn_at app log)

said_domain : (s : State) (log : Log) (name : List ℕ) → HasTableOf s log → last_said (domain_said name) (table_actions s) ≡ domain_at name log
said_domain s log name h =
    let l = domains-lists s log h in
    let own : last_said (domain_said name) (map action.Domain (domains_in s)) ≡ domain_at name log =
    last_made (domain_said name) action.Domain (domains_in s)
    ∙ last_once (λ d. same_name name d.domain) (λ d. d) (domains_in s) (sorted_once name_cmp names_equiv (λ d. d.domain) name (domains_in s) l.rising)
    ∙ itself (find (λ d. same_name name d.domain) (domains_in s)) ∙ l.tells name in
    last_table (domain_said name) s
    ∙ all_six (last_silent (domain_said name) action.Add (λ a. refl) (files_in s)) (last_silent (domain_said name) action.Remove (λ r. refl) (tombstones_in s)) own (last_silent (domain_said name) action.Txn (λ t. refl) (txns_in s))
    (no_meta (domain_said name) (λ m. refl) (meta_in s)) (no_protocol (domain_said name) (λ p. refl) (protocol_in s))
    ∙ only_domains (domain_at name log)

there_twice : (d : Domain) (b : Bool) → d.removed ≡ b → option_and_then present (cond b None (Some d)) ≡ cond b None (Some d)
there_twice d true e = refl
there_twice d false e = ap (λ b. cond b None (Some d)) e

present_twice : (o : Option Domain) → option_and_then present (option_and_then present o) ≡ option_and_then present o
present_twice None = refl
present_twice (Some d) = there_twice d d.removed refl

-- ---- protocol and metadata

own_protocol : (o : Option Protocol) → last_said protocol_said (protocol_action o) ≡ o
own_protocol None = refl
own_protocol (Some p) = refl

own_meta : (o : Option Meta) → last_said meta_said (meta_action o) ≡ o
own_meta None = refl
own_meta (Some m) = refl

said_protocol : (s : State) → last_said protocol_said (table_actions s) ≡ protocol_in s
said_protocol s =
    last_table protocol_said s
    ∙ all_six (last_silent protocol_said action.Add (λ a. refl) (files_in s)) (last_silent protocol_said action.Remove (λ r. refl) (tombstones_in s)) (last_silent protocol_said action.Domain (λ d. refl) (domains_in s))
    (last_silent protocol_said action.Txn (λ t. refl) (txns_in s)) (no_meta protocol_said (λ m. refl) (meta_in s)) (own_protocol (protocol_in s))

said_meta : (s : State) → last_said meta_said (table_actions s) ≡ meta_in s
said_meta s =
    last_table meta_said s
    ∙ all_six (last_silent meta_said action.Add (λ a. refl) (files_in s)) (last_silent meta_said action.Remove (λ r. refl) (tombstones_in s)) (last_silent meta_said action.Domain (λ d. refl) (domains_in s))
    (last_silent meta_said action.Txn (λ t. refl) (txns_in s)) (own_meta (meta_in s)) (no_protocol meta_said (λ p. refl) (protocol_in s))
    ∙ only_meta (meta_in s)

-- ---- the table

pub table-actions : (s : State) (log : Log) → HasTableOf s log → HasValidFields log → HasSameTable (table_actions s ∷ []) log
unfolding live_at gone_at txn_at domain_at protocol_of_log meta_of_log
table-actions s log h valid = record {
  live = λ key. ap (option_and_then as_added) (said_file s log key h valid);
  gone = λ key. ap (option_and_then as_removed) (said_file s log key h valid);
  txn = λ app. said_txn s log app h;
  domain = λ name. ap (option_and_then present) (said_domain s log name h) ∙ present_twice (in_log (domain_said name) log);
  protocol = said_protocol s ∙ h.protocol;
  meta = said_meta s ∙ h.meta;
}

-- ---- no doubles

count_table : (test : Action → Bool) (s : State)
    → count_by test (table_actions s)
    ≡ count_by test (protocol_action (protocol_in s)) + (count_by test (meta_action (meta_in s)) + (count_by test (map action.Txn (txns_in s)) + (count_by test (map action.Domain (domains_in s))
    + (count_by test (map action.Remove (tombstones_in s)) + count_by test (map action.Add (files_in s))))))
count_table test s =
    let files = map action.Add (files_in s) in
    let tombstones = map action.Remove (tombstones_in s) in
    let domains = map action.Domain (domains_in s) in
    let txns = map action.Txn (txns_in s) in
    let meta = meta_action (meta_in s) in
    let protocol = protocol_action (protocol_in s) in
    let a : count_by test (protocol ++ (meta ++ (txns ++ (domains ++ (tombstones ++ files))))) ≡ count_by test protocol + count_by test (meta ++ (txns ++ (domains ++ (tombstones ++ files))))
    = count-append test protocol (meta ++ (txns ++ (domains ++ (tombstones ++ files)))) in
    let b : count_by test (meta ++ (txns ++ (domains ++ (tombstones ++ files)))) ≡ count_by test meta + count_by test (txns ++ (domains ++ (tombstones ++ files)))
    = count-append test meta (txns ++ (domains ++ (tombstones ++ files))) in
    let c : count_by test (txns ++ (domains ++ (tombstones ++ files))) ≡ count_by test txns + count_by test (domains ++ (tombstones ++ files)) = count-append test txns (domains ++ (tombstones ++ files)) in
    let d : count_by test (domains ++ (tombstones ++ files)) ≡ count_by test domains + count_by test (tombstones ++ files) = count-append test domains (tombstones ++ files) in
    let e : count_by test (tombstones ++ files) ≡ count_by test tombstones + count_by test files = count-append test tombstones files in
    omega arith

none_protocol : (test : Action → Bool) → ((p : Protocol) → test (action.Protocol p) ≡ false) → (o : Option Protocol) → count_by test (protocol_action o) ≡ 0
none_protocol test k None = refl
none_protocol test k (Some p) = count_silent test action.Protocol k (p ∷ [])

none_meta : (test : Action → Bool) → ((m : Meta) → test (action.Meta m) ≡ false) → (o : Option Meta) → count_by test (meta_action o) ≡ 0
none_meta test k None = refl
none_meta test k (Some m) = count_silent test action.Meta k (m ∷ [])

one_protocol : (o : Option Protocol) → count_by is_protocol (protocol_action o) ≤ 1
one_protocol None = omega arith
one_protocol (Some p) = omega arith

one_meta : (o : Option Meta) → count_by is_meta (meta_action o) ≤ 1
one_meta None = omega arith
one_meta (Some m) = omega arith

at_most : (b : Bool) → one b ≤ 1
at_most true = omega arith
at_most false = omega arith

count_added : (s : State) (log : Log) (file : File) → HasTableOf s log → count_by (mentions file) (map action.Add (files_in s)) ≡ one (is_some (live_at file log))
count_added s log file h =
    let l = files-lists s log h in
    count_made (mentions file) action.Add (files_in s)
    ∙ count_alike (λ add. same_file (file_of_add add) file) (λ add. same_key file (key_of add)) (λ add. files_equiv.symm (file_of_add add) file) (files_in s)
    ∙ count_once (λ add. same_key file (key_of add)) (files_in s) (sorted_once key_cmp files_equiv key_of file (files_in s) l.rising)
    ∙ ap (λ o. one (is_some o)) (l.tells file)

count_removed : (s : State) (log : Log) (file : File) → HasTableOf s log → count_by (mentions file) (map action.Remove (tombstones_in s)) ≡ one (is_some (gone_at file log))
count_removed s log file h =
    let l = tombstones-lists s log h in
    count_made (mentions file) action.Remove (tombstones_in s)
    ∙ count_alike (λ remove. same_file (file_of_remove remove) file) (λ remove. same_key file (key_of_remove remove)) (λ remove. files_equiv.symm (file_of_remove remove) file) (tombstones_in s)
    ∙ count_once (λ remove. same_key file (key_of_remove remove)) (tombstones_in s) (sorted_once key_cmp files_equiv key_of_remove file (tombstones_in s) l.rising)
    ∙ ap (λ o. one (is_some o)) (l.tells file)

not_both : (o : Option Mention) → one (is_some (option_and_then as_removed o)) + one (is_some (option_and_then as_added o)) ≤ 1
not_both None = omega arith
not_both (Some (added a)) = omega arith
not_both (Some (removed r)) = omega arith

live_or_gone : (log : Log) (file : File) → one (is_some (gone_at file log)) + one (is_some (live_at file log)) ≤ 1
unfolding live_at gone_at
live_or_gone log file = not_both (in_log (mention file) log)

pub same_bytes : (x y : List ℕ) → bytes_eq x y ≡ same_name y x
same_bytes x y = sym (is_eq-slice_cmp x y) ∙ names_equiv.symm x y

count_txn : (s : State) (log : Log) (app : List ℕ) → HasTableOf s log → count_by (is_of_app app) (map action.Txn (txns_in s)) ≤ 1
count_txn s log app h =
    let l = txns-lists s log h in
    let e : count_by (is_of_app app) (map action.Txn (txns_in s)) ≡ one (is_some (find (λ t. same_app app t.app) (txns_in s))) =
    count_made (is_of_app app) action.Txn (txns_in s)
    ∙ count_alike (λ t. bytes_eq t.app app) (λ t. same_app app t.app) (λ t. same_bytes t.app app) (txns_in s)
    ∙ count_once (λ t. same_app app t.app) (txns_in s) (sorted_once name_cmp names_equiv (λ t. t.app) app (txns_in s) l.rising) in
    let most = at_most (is_some (find (λ t. same_app app t.app) (txns_in s))) in
    omega arith

count_domain : (s : State) (log : Log) (name : List ℕ) → HasTableOf s log → count_by (is_of_domain name) (map action.Domain (domains_in s)) ≤ 1
count_domain s log name h =
    let l = domains-lists s log h in
    let e : count_by (is_of_domain name) (map action.Domain (domains_in s)) ≡ one (is_some (find (λ d. same_name name d.domain) (domains_in s))) =
    count_made (is_of_domain name) action.Domain (domains_in s)
    ∙ count_alike (λ d. bytes_eq d.domain name) (λ d. same_name name d.domain) (λ d. same_bytes d.domain name) (domains_in s)
    ∙ count_once (λ d. same_name name d.domain) (domains_in s) (sorted_once name_cmp names_equiv (λ d. d.domain) name (domains_in s) l.rising) in
    let most = at_most (is_some (find (λ d. same_name name d.domain) (domains_in s))) in
    omega arith

one_file : (s : State) (log : Log) (file : File) → HasTableOf s log → count_by (mentions file) (table_actions s) ≤ 1
one_file s log file h =
    let all = count_table (mentions file) s in
    let p = none_protocol (mentions file) (λ x. refl) (protocol_in s) in
    let m = none_meta (mentions file) (λ x. refl) (meta_in s) in
    let t = count_silent (mentions file) action.Txn (λ x. refl) (txns_in s) in
    let d = count_silent (mentions file) action.Domain (λ x. refl) (domains_in s) in
    let r = count_removed s log file h in
    let a = count_added s log file h in
    let most = live_or_gone log file in
    omega arith

one_app : (s : State) (log : Log) (app : List ℕ) → HasTableOf s log → count_by (is_of_app app) (table_actions s) ≤ 1
one_app s log app h =
    let all = count_table (is_of_app app) s in
    let p = none_protocol (is_of_app app) (λ x. refl) (protocol_in s) in
    let m = none_meta (is_of_app app) (λ x. refl) (meta_in s) in
    let t = count_txn s log app h in
    let d = count_silent (is_of_app app) action.Domain (λ x. refl) (domains_in s) in
    let r = count_silent (is_of_app app) action.Remove (λ x. refl) (tombstones_in s) in
    let a = count_silent (is_of_app app) action.Add (λ x. refl) (files_in s) in
    omega arith

one_domain : (s : State) (log : Log) (name : List ℕ) → HasTableOf s log → count_by (is_of_domain name) (table_actions s) ≤ 1
one_domain s log name h =
    let all = count_table (is_of_domain name) s in
    let p = none_protocol (is_of_domain name) (λ x. refl) (protocol_in s) in
    let m = none_meta (is_of_domain name) (λ x. refl) (meta_in s) in
    let t = count_silent (is_of_domain name) action.Txn (λ x. refl) (txns_in s) in
    let d = count_domain s log name h in
    let r = count_silent (is_of_domain name) action.Remove (λ x. refl) (tombstones_in s) in
    let a = count_silent (is_of_domain name) action.Add (λ x. refl) (files_in s) in
    omega arith

once_protocol : (s : State) → count_by is_protocol (table_actions s) ≤ 1
once_protocol s =
    let all = count_table is_protocol s in
    let p = one_protocol (protocol_in s) in
    let m = none_meta is_protocol (λ x. refl) (meta_in s) in
    let t = count_silent is_protocol action.Txn (λ x. refl) (txns_in s) in
    let d = count_silent is_protocol action.Domain (λ x. refl) (domains_in s) in
    let r = count_silent is_protocol action.Remove (λ x. refl) (tombstones_in s) in
    let a = count_silent is_protocol action.Add (λ x. refl) (files_in s) in
    omega arith

once_meta : (s : State) → count_by is_meta (table_actions s) ≤ 1
once_meta s =
    let all = count_table is_meta s in
    let p = none_protocol is_meta (λ x. refl) (protocol_in s) in
    let m = one_meta (meta_in s) in
    let t = count_silent is_meta action.Txn (λ x. refl) (txns_in s) in
    let d = count_silent is_meta action.Domain (λ x. refl) (domains_in s) in
    let r = count_silent is_meta action.Remove (λ x. refl) (tombstones_in s) in
    let a = count_silent is_meta action.Add (λ x. refl) (files_in s) in
    omega arith

no_info : (s : State) → count_by is_info (table_actions s) ≤ 1
no_info s =
    let all = count_table is_info s in
    let p = none_protocol is_info (λ x. refl) (protocol_in s) in
    let m = none_meta is_info (λ x. refl) (meta_in s) in
    let t = count_silent is_info action.Txn (λ x. refl) (txns_in s) in
    let d = count_silent is_info action.Domain (λ x. refl) (domains_in s) in
    let r = count_silent is_info action.Remove (λ x. refl) (tombstones_in s) in
    let a = count_silent is_info action.Add (λ x. refl) (files_in s) in
    omega arith

pub apart-actions : (s : State) (log : Log) → HasTableOf s log → HasNoDoubles (table_actions s)
apart-actions s log h = record {
  file = λ file. one_file s log file h;
  app = λ app. one_app s log app h;
  domain = λ name. one_domain s log name h;
  protocol = once_protocol s;
  meta = once_meta s;
  info = no_info s;
}
