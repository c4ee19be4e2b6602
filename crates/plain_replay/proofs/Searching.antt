-- A search from the end finds what was said last.
use Rattle.std.proofs.Common.{◌≡◌, ℕ, ◌-◌, Bool, true, false, cond, List, [], ◌∷◌, ◌++◌, length, refl, ap, sym, ◌∙◌, arith, Bor}
use Rattle.std.specs.Prelude.{Option, Some, None, option_map, option_and_then, is_some, IfSome, IsSome, slice_get}
use Rattle.std.specs.Option.{option_copied}
use Rattle.std.specs.declared.alloc.Global.{Global}
use Rattle.std.specs.declared.vec.Vec.{Vec}
use Rattle.action_types.specs.declared.actions.Action.{Action}
use Rattle.action_types.specs.declared.actions.Action.TheVariants as act
use Rattle.action_types.specs.Files.{file_of_key}
use Rattle.reconcile.specs.Keys.{Key, key_of, key_of_remove, same_key, same_name, same_app}
use Rattle.reconcile.specs.Replay.{Log, or_else, last_said, in_log, last_commit, added, removed, mention, as_added, as_removed, live_at, gone_at, txn_said, txn_at, domain_said, present, domain_at, protocol_said, protocol_of_log, meta_said, meta_of_log, time_said, time_of_log}
use Rattle.plain_replay.specs.Plain.{answers, add_of, remove_of, number_of, domain_of, kept, kept_tombstone, log_of}
use Rattle.plain_replay.specs.declared.plain.Asked.{Asked}
use Rattle.plain_replay.specs.declared.plain.Asked.TheVariants as asked
use Rattle.reconcile.proofs.Last.{last_said-append}
use Rattle.reconcile.proofs.InOrder.{said_so}

-- ---- one element from the end

pub said_here : {A B : Type 0} (says : A → Option B) (xs : List A) (x : A) (b : B) → says x ≡ Some b → last_said says (xs ++ x ∷ []) ≡ Some b
said_here says xs x b e = last_said-append says xs (x ∷ []) ∙ ap (λ o. or_else o (last_said says xs)) e

pub said_before : {A B : Type 0} (says : A → Option B) (xs : List A) (x : A) → says x ≡ None → last_said says (xs ++ x ∷ []) ≡ last_said says xs
said_before says xs x e = last_said-append says xs (x ∷ []) ∙ ap (λ o. or_else o (last_said says xs)) e

pub log_of-push : (commits : List (Vec Action Global)) (commit : Vec Action Global) → log_of (commits ++ commit ∷ []) ≡ log_of commits ++ commit.items ∷ []
log_of-push [] commit = refl
log_of-push (c ∷ commits) commit = ap (λ log. c.items ∷ log) (log_of-push commits commit)

abbrev pub passes : Asked → Action → Option Action
passes asked a = cond (answers asked a) (Some a) None

pub action_found : (asked : Asked) (all rest before : List Action) (a : Action) → last_said (passes asked) all ≡ last_said (passes asked) rest
    → rest ≡ before ++ a ∷ [] → answers asked a ≡ true → Some a ≡ last_said (passes asked) all
action_found asked all rest before a so_far split is =
    sym (so_far ∙ ap (last_said (passes asked)) split ∙ said_here (passes asked) before a a (ap (λ b. cond b (Some a) None) is))

pub action_passed : (asked : Asked) (all rest before : List Action) (a : Action) → last_said (passes asked) all ≡ last_said (passes asked) rest
    → rest ≡ before ++ a ∷ [] → answers asked a ≡ false → last_said (passes asked) all ≡ last_said (passes asked) before
action_passed asked all rest before a so_far split is =
    so_far ∙ ap (last_said (passes asked)) split ∙ said_before (passes asked) before a (ap (λ b. cond b (Some a) None) is)

some_of : {A : Type 0} (o p q : Option A) → is_some o ≡ true → o ≡ p → or_else p q ≡ o
some_of None p q e f = cc
some_of (Some a) p q e f = ap (λ o. or_else o q) (sym f)

none_left : {A : Type 0} (o p q : Option A) → is_some o ≡ false → o ≡ p → or_else p q ≡ q
none_left None p q e f = ap (λ o. or_else o q) (sym f)
none_left (Some a) p q e f = cc

pub commit_found : (asked : Asked) (all rest before : List (Vec Action Global)) (c : Vec Action Global) (found : Option Action)
    → in_log (passes asked) (log_of all) ≡ in_log (passes asked) (log_of rest) → rest ≡ before ++ c ∷ [] → found ≡ last_said (passes asked) c.items
    → is_some found ≡ true → found ≡ in_log (passes asked) (log_of all)
commit_found asked all rest before c found so_far split here is =
    sym (so_far ∙ ap (λ cs. in_log (passes asked) (log_of cs)) split ∙ ap (in_log (passes asked)) (log_of-push before c)
    ∙ last_said-append (last_said (passes asked)) (log_of before) (c.items ∷ [])
    ∙ some_of found (last_said (passes asked) c.items) (in_log (passes asked) (log_of before)) is here)

pub commit_passed : (asked : Asked) (all rest before : List (Vec Action Global)) (c : Vec Action Global) (found : Option Action)
    → in_log (passes asked) (log_of all) ≡ in_log (passes asked) (log_of rest) → rest ≡ before ++ c ∷ [] → found ≡ last_said (passes asked) c.items
    → is_some found ≡ false → in_log (passes asked) (log_of all) ≡ in_log (passes asked) (log_of before)
commit_passed asked all rest before c found so_far split here is =
    so_far ∙ ap (λ cs. in_log (passes asked) (log_of cs)) split ∙ ap (in_log (passes asked)) (log_of-push before c)
    ∙ last_said-append (last_said (passes asked)) (log_of before) (c.items ∷ [])
    ∙ none_left found (last_said (passes asked) c.items) (in_log (passes asked) (log_of before)) is here

pub is_some-copied : (o : Option (Bor Action)) → is_some (option_copied o) ≡ is_some o
is_some-copied None = refl
is_some-copied (Some a) = refl

-- ---- the last action that answers says it

none_of : {A : Type 0} (o : Option A) → is_some o ≡ false → o ≡ None
none_of None e = refl
none_of (Some a) e = cc

some_first : {A : Type 0} (o p : Option A) → is_some o ≡ true → or_else o p ≡ o
some_first None p e = cc
some_first (Some a) p e = refl

is_some-cond : {A : Type 0} (b : Bool) (a : A) → is_some (cond b (Some a) None) ≡ b
is_some-cond true a = refl
is_some-cond false a = refl

module _ {B : Type 0} (says : Action → Option B) (test : Action → Bool) (agree : (a : Action) → is_some (says a) ≡ test a) where
  abbrev passing : Action → Option Action
  passing a = cond (test a) (Some a) None

  says_by : (a : Action) (b : Bool) → test a ≡ b → says a ≡ option_and_then says (cond b (Some a) None)
  says_by a true e = refl
  says_by a false e = none_of (says a) (agree a ∙ e)

  some_by : (a : Action) (b : Bool) → test a ≡ b → IfSome (cond b (Some a) None) (λ x. IsSome (says x))
  some_by a true e = agree a ∙ e
  some_by a false e = tt

  pub passing_says : (a : Action) → IfSome (passing a) (λ x. IsSome (says x))
  passing_says a = some_by a (test a) refl

  split : (p q : Option Action) → IfSome p (λ x. IsSome (says x)) → or_else (option_and_then says p) (option_and_then says q) ≡ option_and_then says (or_else p q)
  split None q h = refl
  split (Some x) q h = some_first (says x) (option_and_then says q) h

  pub last_said-passing : (xs : List Action) → last_said says xs ≡ option_and_then says (last_said passing xs)
  last_said-passing [] = refl
  last_said-passing (x ∷ xs) =
      (λ i. or_else (last_said-passing xs i) (says_by x (test x) refl i)) ∙ split (last_said passing xs) (passing x) (said_so (λ x. IsSome (says x)) passing passing_says xs)

  pub in_log-passing : (log : Log) → in_log says log ≡ option_and_then says (in_log passing log)
  in_log-passing [] = refl
  in_log-passing (c ∷ log) =
      (λ i. or_else (in_log-passing log i) (last_said-passing c i))
      ∙ split (in_log passing log) (last_said passing c) (said_so (λ x. IsSome (says x)) (last_said passing) (λ c. said_so (λ x. IsSome (says x)) passing passing_says c) log)

  pub found_says : (log : Log) → IfSome (in_log passing log) (λ x. IsSome (says x))
  found_says log = said_so (λ x. IsSome (says x)) (last_said passing) (λ c. said_so (λ x. IsSome (says x)) passing passing_says c) log

-- ---- each look-up

file_agrees : (key : _) (a : Action) → is_some (mention (file_of_key key) a) ≡ answers (asked.File key) a
file_agrees key (act.Info info) = refl
file_agrees key (act.Protocol protocol) = refl
file_agrees key (act.Meta meta) = refl
file_agrees key (act.Txn txn) = refl
file_agrees key (act.Domain domain) = refl
file_agrees key (act.Remove remove) = is_some-cond (same_key (file_of_key key) (key_of_remove remove)) (removed (kept_tombstone remove))
file_agrees key (act.Add add) = is_some-cond (same_key (file_of_key key) (key_of add)) (added (kept add))

app_agrees : (app : _) (a : Action) → is_some (txn_said app.now a) ≡ answers (asked.App app) a
app_agrees app (act.Info info) = refl
app_agrees app (act.Protocol protocol) = refl
app_agrees app (act.Meta meta) = refl
app_agrees app (act.Txn txn) = is_some-cond (same_app app.now txn.app) txn
app_agrees app (act.Domain domain) = refl
app_agrees app (act.Remove remove) = refl
app_agrees app (act.Add add) = refl

domain_agrees : (name : _) (a : Action) → is_some (domain_said name.now a) ≡ answers (asked.Domain name) a
domain_agrees name (act.Info info) = refl
domain_agrees name (act.Protocol protocol) = refl
domain_agrees name (act.Meta meta) = refl
domain_agrees name (act.Txn txn) = refl
domain_agrees name (act.Domain domain) = is_some-cond (same_name name.now domain.domain) domain
domain_agrees name (act.Remove remove) = refl
domain_agrees name (act.Add add) = refl

protocol_agrees : (a : Action) → is_some (protocol_said a) ≡ answers asked.Protocol a
protocol_agrees (act.Info info) = refl
protocol_agrees (act.Protocol protocol) = refl
protocol_agrees (act.Meta meta) = refl
protocol_agrees (act.Txn txn) = refl
protocol_agrees (act.Domain domain) = refl
protocol_agrees (act.Remove remove) = refl
protocol_agrees (act.Add add) = refl

meta_agrees : (a : Action) → is_some (meta_said a) ≡ answers asked.Meta a
meta_agrees (act.Info info) = refl
meta_agrees (act.Protocol protocol) = refl
meta_agrees (act.Meta meta) = refl
meta_agrees (act.Txn txn) = refl
meta_agrees (act.Domain domain) = refl
meta_agrees (act.Remove remove) = refl
meta_agrees (act.Add add) = refl

time_agrees : (a : Action) → is_some (time_said a) ≡ answers asked.Time a
time_agrees (act.Info info) = refl
time_agrees (act.Protocol protocol) = refl
time_agrees (act.Meta meta) = refl
time_agrees (act.Txn txn) = refl
time_agrees (act.Domain domain) = refl
time_agrees (act.Remove remove) = refl
time_agrees (act.Add add) = refl

taken : {A : Type 0} (b : Bool) (a : A) → is_some (cond b (Some a) None) ≡ true → Some a ≡ cond b (Some a) None
taken true a e = refl
taken false a e = cc

either_none : {A B : Type 0} (f : A → Option B) (b : Bool) (a : A) → f a ≡ None → None ≡ option_and_then f (cond b (Some a) None)
either_none f true a e = sym e
either_none f false a e = refl

live_found : (key : Key) (found : Option Action) → IfSome found (λ a. IsSome (mention key a))
    → option_map kept (option_and_then add_of found) ≡ option_and_then as_added (option_and_then (mention key) found)
live_found key None h = refl
live_found key (Some (act.Info info)) h = refl
live_found key (Some (act.Protocol protocol)) h = refl
live_found key (Some (act.Meta meta)) h = refl
live_found key (Some (act.Txn txn)) h = refl
live_found key (Some (act.Domain domain)) h = refl
live_found key (Some (act.Remove remove)) h = either_none as_added (same_key key (key_of_remove remove)) (removed (kept_tombstone remove)) refl
live_found key (Some (act.Add add)) h = ap (option_and_then as_added) (taken (same_key key (key_of add)) (added (kept add)) h)

gone_found : (key : Key) (found : Option Action) → IfSome found (λ a. IsSome (mention key a))
    → option_map kept_tombstone (option_and_then remove_of found) ≡ option_and_then as_removed (option_and_then (mention key) found)
gone_found key None h = refl
gone_found key (Some (act.Info info)) h = refl
gone_found key (Some (act.Protocol protocol)) h = refl
gone_found key (Some (act.Meta meta)) h = refl
gone_found key (Some (act.Txn txn)) h = refl
gone_found key (Some (act.Domain domain)) h = refl
gone_found key (Some (act.Remove remove)) h = ap (option_and_then as_removed) (taken (same_key key (key_of_remove remove)) (removed (kept_tombstone remove)) h)
gone_found key (Some (act.Add add)) h = either_none as_removed (same_key key (key_of add)) (added (kept add)) refl

number_found : (app : List ℕ) (found : Option Action) → IfSome found (λ a. IsSome (txn_said app a))
    → option_and_then number_of found ≡ option_map (λ t. t.number) (option_and_then (txn_said app) found)
number_found app None h = refl
number_found app (Some (act.Info info)) h = refl
number_found app (Some (act.Protocol protocol)) h = refl
number_found app (Some (act.Meta meta)) h = refl
number_found app (Some (act.Txn txn)) h = ap (option_map (λ t. t.number)) (taken (same_app app txn.app) txn h)
number_found app (Some (act.Domain domain)) h = refl
number_found app (Some (act.Remove remove)) h = refl
number_found app (Some (act.Add add)) h = refl

domain_found : (name : List ℕ) (found : Option Action) → IfSome found (λ a. IsSome (domain_said name a))
    → option_and_then domain_of found ≡ option_and_then (domain_said name) found
domain_found name None h = refl
domain_found name (Some (act.Info info)) h = refl
domain_found name (Some (act.Protocol protocol)) h = refl
domain_found name (Some (act.Meta meta)) h = refl
domain_found name (Some (act.Txn txn)) h = refl
domain_found name (Some (act.Domain domain)) h = taken (same_name name domain.domain) domain h
domain_found name (Some (act.Remove remove)) h = refl
domain_found name (Some (act.Add add)) h = refl

pub live_searched : (key : _) (log : Log) (found : Option Action) → found ≡ in_log (λ a. cond (answers (asked.File key) a) (Some a) None) log
    → option_map kept (option_and_then add_of found) ≡ live_at (file_of_key key) log
unfolding live_at
live_searched key log found e =
    ap (λ f. option_map kept (option_and_then add_of f)) e
    ∙ live_found (file_of_key key) (in_log (λ a. cond (answers (asked.File key) a) (Some a) None) log) (found_says (mention (file_of_key key)) (answers (asked.File key)) (file_agrees key) log)
    ∙ ap (option_and_then as_added) (sym (in_log-passing (mention (file_of_key key)) (answers (asked.File key)) (file_agrees key) log))

pub gone_searched : (key : _) (log : Log) (found : Option Action) → found ≡ in_log (λ a. cond (answers (asked.File key) a) (Some a) None) log
    → option_map kept_tombstone (option_and_then remove_of found) ≡ gone_at (file_of_key key) log
unfolding gone_at
gone_searched key log found e =
    ap (λ f. option_map kept_tombstone (option_and_then remove_of f)) e
    ∙ gone_found (file_of_key key) (in_log (λ a. cond (answers (asked.File key) a) (Some a) None) log) (found_says (mention (file_of_key key)) (answers (asked.File key)) (file_agrees key) log)
    ∙ ap (option_and_then as_removed) (sym (in_log-passing (mention (file_of_key key)) (answers (asked.File key)) (file_agrees key) log))

pub number_searched : (app : _) (log : Log) (found : Option Action) → found ≡ in_log (λ a. cond (answers (asked.App app) a) (Some a) None) log
    → option_and_then number_of found ≡ option_map (λ t. t.number) (txn_at app.now log)
unfolding txn_at
number_searched app log found e =
    ap (option_and_then number_of) e
    ∙ number_found app.now (in_log (λ a. cond (answers (asked.App app) a) (Some a) None) log) (found_says (txn_said app.now) (answers (asked.App app)) (app_agrees app) log)
    ∙ ap (option_map (λ t. t.number)) (sym (in_log-passing (txn_said app.now) (answers (asked.App app)) (app_agrees app) log))

pub domain_searched : (name : _) (log : Log) (found : Option Action) → found ≡ in_log (λ a. cond (answers (asked.Domain name) a) (Some a) None) log
    → option_and_then present (option_and_then domain_of found) ≡ domain_at name.now log
unfolding domain_at
domain_searched name log found e =
    ap (λ f. option_and_then present (option_and_then domain_of f)) e
    ∙ ap (option_and_then present)
    (domain_found name.now (in_log (λ a. cond (answers (asked.Domain name) a) (Some a) None) log) (found_says (domain_said name.now) (answers (asked.Domain name)) (domain_agrees name) log)
    ∙ sym (in_log-passing (domain_said name.now) (answers (asked.Domain name)) (domain_agrees name) log))

pub protocol_searched : (log : Log) (found : Option Action) → found ≡ in_log (λ a. cond (answers asked.Protocol a) (Some a) None) log
    → option_and_then protocol_said found ≡ protocol_of_log log
unfolding protocol_of_log
protocol_searched log found e = ap (option_and_then protocol_said) e ∙ sym (in_log-passing protocol_said (answers asked.Protocol) protocol_agrees log)

pub meta_searched : (log : Log) (found : Option Action) → found ≡ in_log (λ a. cond (answers asked.Meta a) (Some a) None) log
    → option_and_then meta_said found ≡ meta_of_log log
unfolding meta_of_log
meta_searched log found e = ap (option_and_then meta_said) e ∙ sym (in_log-passing meta_said (answers asked.Meta) meta_agrees log)

-- ---- the time of the last commit

is_some-last : {A : Type 0} (x : A) (xs : List A) → is_some (last_said Some (x ∷ xs)) ≡ true
is_some-last x [] = refl
is_some-last x (y ∷ ys) = ap is_some (some_first (last_said Some (y ∷ ys)) (Some x) (is_some-last y ys)) ∙ is_some-last y ys

last_at : {A : Type 0} (x : A) (xs : List A) → last_said Some (x ∷ xs) ≡ slice_get (x ∷ xs) (length xs)
last_at x [] = refl
last_at x (y ∷ ys) = some_first (last_said Some (y ∷ ys)) (Some x) (is_some-last y ys) ∙ last_at y ys

pub last_said-slice_get : {A : Type 0} (xs : List A) → last_said Some xs ≡ slice_get xs (length xs - 1)
last_said-slice_get [] = refl
last_said-slice_get (x ∷ xs) = let less : length xs ≡ length (x ∷ xs) - 1 = omega arith in last_at x xs ∙ ap (slice_get (x ∷ xs)) less

last_commit-log_of : (commits : List (Vec Action Global)) → last_commit (log_of commits) ≡ option_map (λ c. c.items) (last_said Some commits)
last_commit-log_of [] = refl
last_commit-log_of (c ∷ commits) = ap (λ o. or_else o (Some c.items)) (last_commit-log_of commits) ∙ map-or_else (last_said Some commits) c
  where
    map-or_else : (o : Option (Vec Action Global)) (c : Vec Action Global) → or_else (option_map (λ c. c.items) o) (Some c.items) ≡ option_map (λ c. c.items) (or_else o (Some c))
    map-or_else None c = refl
    map-or_else (Some d) c = refl

pub time_searched : (commits : List (Vec Action Global)) (last : Option (Vec Action Global)) → last ≡ slice_get commits (length commits - 1)
    → time_of_log (log_of commits) ≡ option_and_then (λ c. option_and_then time_said (last_said (λ a. cond (answers asked.Time a) (Some a) None) c.items)) last
unfolding time_of_log
time_searched commits last e =
    ap (option_and_then (last_said time_said)) (last_commit-log_of commits ∙ ap (option_map (λ c. c.items)) (last_said-slice_get commits ∙ sym e)) ∙ inside last
  where
    inside : (last : Option (Vec Action Global)) → option_and_then (last_said time_said) (option_map (λ c. c.items) last)
        ≡ option_and_then (λ c. option_and_then time_said (last_said (λ a. cond (answers asked.Time a) (Some a) None) c.items)) last
    inside None = refl
    inside (Some c) = last_said-passing time_said (answers asked.Time) time_agrees c.items
