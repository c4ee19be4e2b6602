-- The order of the lines of a checkpoint does not matter.
use Rattle.std.proofs.Common.{◌≡◌, ℕ, ◌+◌, ◌≤◌, ◌==◌, List, [], ◌∷◌, Bool, true, false, cond, ◌||◌, Option, Some, None, IfSome, is_some, option_and_then, Result, Ok, Err, refl, sym, ap, ◌∙◌, subst, arith, eqb-true}
use Rattle.std.specs.Prelude.{flat_map}
use Rattle.std.specs.List.{All, AllByRecursion, count_by, sum_by, list_any}
use Rattle.std.specs.List.Sorted.{IsPermutation}
use Rattle.std.proofs.lemmas.Bool.{eq-eqb}
use Rattle.std.proofs.lemmas.List.Elements.{All-nil, All-cons, All-head, All-tail}
use Rattle.std.proofs.lemmas.List.Sorted.{All-permutation, sum_by-IsPermutation}
use Rattle.std.proofs.lemmas.List.Sums.{sum_by-cons}
use Rattle.text_lines.specs.Lines.{cut}
use Rattle.action_types.specs.declared.actions.Action.{Action}
use Rattle.action_types.specs.declared.actions.Action.TheVariants as action
use Rattle.action_types.specs.Files.{file_of_add, file_of_remove}
use Rattle.action_json.specs.CheckpointLines.{checkpoint_line_of}
use Rattle.action_json.specs.Commit.{mentions, is_of_app, is_of_domain, is_info, is_protocol, is_meta}
use Rattle.action_json.specs.declared.checkpoint_line.CheckpointLine.{CheckpointLine}
use Rattle.action_json.specs.declared.checkpoint_line.CheckpointLine.TheVariants as says
use Rattle.action_json.specs.declared.fault.Why.{Why}
use Rattle.reconcile.specs.Keys.{Key, key_of, key_of_remove, same_key, same_name, same_app}
use Rattle.reconcile.specs.Replay.{Log, or_else, last_said, added, removed, mention, as_added, as_removed, live_at, gone_at, txn_said, txn_at, domain_said, present, domain_at, protocol_said, protocol_of_log, meta_said, meta_of_log}
use Rattle.reconcile.proofs.Last.{or_else-none, last_said-append}
use Rattle.checkpoint_v2.specs.Table.{HasSameTable, IsCheckpointOf}
use Rattle.checkpoint_v2.specs.Text.{action_in, version_in, is_plain, actions_in, versions_in, HasNoDoubles}
use Rattle.checkpoint_v2.proofs.Counts.{one, count-cons, count-append, count-none}
use Rattle.checkpoint_v2.proofs.Kept.{said_kept}
use Rattle.checkpoint_v2.proofs.Once.{count_alike}
use Rattle.checkpoint_v2.proofs.Tables.{files_equiv, same_bytes}

-- ---- counts in another order

count_flat : {X A : Type 0} (test : A → Bool) (f : X → List A) (xs : List X) → count_by test (flat_map f xs) ≡ sum_by (λ x. count_by test (f x)) xs
count_flat test f [] = refl
count_flat test f (x ∷ xs) =
    count-append test (f x) (flat_map f xs) ∙ ap (λ n. count_by test (f x) + n) (count_flat test f xs) ∙ sym (sum_by-cons (λ y. count_by test (f y)) x xs)

count_moved : {X A : Type 0} (test : A → Bool) (f : X → List A) (xs ys : List X) → IsPermutation xs ys → count_by test (flat_map f ys) ≡ count_by test (flat_map f xs)
count_moved test f xs ys p = count_flat test f ys ∙ sum_by-IsPermutation (λ x. count_by test (f x)) xs ys p ∙ sym (count_flat test f xs)

some_step : (b c : Bool) (n : ℕ) → (c ≡ true → 1 ≤ n) → (b || c) ≡ true → 1 ≤ one b + n
some_step true c n k h = omega arith
some_step false c n k h = let some : 1 ≤ n = k h in omega arith

some_count : {X : Type 0} (test : X → Bool) (xs : List X) → list_any test xs ≡ true → 1 ≤ count_by test xs
some_count test [] h = absurd (cc)
some_count test (x ∷ xs) h = subst (λ (n : ℕ). 1 ≤ n) (sym (count-cons test x xs)) (some_step (test x) (list_any test xs) (count_by test xs) (some_count test xs) h)

any_at : {X : Type 0} (test : X → Bool) (xs : List X) (b : Bool) → list_any test xs ≡ b → 1 ≤ count_by test xs → b ≡ true
any_at test xs true e h = refl
any_at test xs false e h = let none : count_by test xs ≡ 0 = count-none test xs e in absurd (omega arith)

any_moved : {X A : Type 0} (test : A → Bool) (f : X → List A) (xs ys : List X) → IsPermutation xs ys → list_any test (flat_map f xs) ≡ true → list_any test (flat_map f ys) ≡ true
any_moved test f xs ys p h =
    any_at test (flat_map f ys) (list_any test (flat_map f ys)) refl (subst (λ (n : ℕ). 1 ≤ n) (sym (count_moved test f xs ys p)) (some_count test (flat_map f xs) h))

-- ---- each line in another order

all_of : {X : Type 0} (P : X → Type 0) (xs : List X) → AllByRecursion P xs → All P xs
all_of P [] h = All-nil P
all_of P (x ∷ xs) h = All-cons P x xs h.0 (all_of P xs h.1)

by_recursion : {X : Type 0} (P : X → Type 0) (xs : List X) → All P xs → AllByRecursion P xs
by_recursion P [] h = tt
by_recursion P (x ∷ xs) h = (All-head P x xs h, by_recursion P xs (All-tail P x xs h))

all_moved : {X : Type 0} (P : X → Type 0) (xs ys : List X) → IsPermutation xs ys → AllByRecursion P xs → AllByRecursion P ys
all_moved P xs ys p h = by_recursion P ys (All-permutation P xs ys p (all_of P xs h))

-- ---- the one version

one_true : (b : Bool) (n : ℕ) → one b + n ≡ 1 → n ≡ 0 → b ≡ true
one_true true n h e = refl
one_true false n h e = absurd (omega arith)

abbrev any : ℕ → Bool
any v = true

only : (vs : List ℕ) (w : ℕ) → count_by any vs ≡ 1 → count_by (λ v. v == w) vs ≡ 1 → vs ≡ w ∷ []
only [] w h e = absurd (omega arith)
only (v ∷ []) w h e = ap (λ n. n ∷ []) (eqb-true v w (one_true (v == w) 0 (sym (count-cons (λ n. n == w) v []) ∙ e) refl))
only (v ∷ u ∷ vs) w h e =
    let first : count_by any (v ∷ u ∷ vs) ≡ 1 + count_by any (u ∷ vs) = count-cons any v (u ∷ vs) in
    let second : count_by any (u ∷ vs) ≡ 1 + count_by any vs = count-cons any u vs in
    absurd (omega arith)

itself : (w : ℕ) → count_by (λ v. v == w) (w ∷ []) ≡ 1
itself w = count-cons (λ v. v == w) w [] ∙ ap (λ b. one b + 0) (eq-eqb w w refl)

versions_moved : (xs ys : List (List ℕ)) (version : ℕ) → IsPermutation xs ys → versions_in xs ≡ version ∷ [] → versions_in ys ≡ version ∷ []
versions_moved xs ys version p h =
    let f : List ℕ → List ℕ = λ l. version_in (checkpoint_line_of l) in
    only (versions_in ys) version
    (count_moved any f xs ys p ∙ ap (count_by any) h ∙ count-cons any version [])
    (count_moved (λ v. v == version) f xs ys p ∙ ap (count_by (λ v. v == version)) h ∙ itself version)

-- ---- what is said last, where at most one says something

abbrev speaks : {X B : Type 0} → (X → Option B) → X → Bool
speaks says x = is_some (says x)

quiet : {B : Type 0} (later here : Option B) (n : ℕ) → one (is_some here) + n ≡ 0 → (n ≡ 0 → later ≡ None) → or_else later here ≡ None
quiet later None n h k = let none : n ≡ 0 = omega arith in or_else-none later ∙ k none
quiet later (Some b) n h k = absurd (omega arith)

last_silent : {X B : Type 0} (says : X → Option B) (xs : List X) → count_by (speaks says) xs ≡ 0 → last_said says xs ≡ None
last_silent says [] h = refl
last_silent says (x ∷ xs) h = quiet (last_said says xs) (says x) (count_by (speaks says) xs) (sym (count-cons (speaks says) x xs) ∙ h) (last_silent says xs)

-- where n of the others speak, and at most one in all
alone : {B : Type 0} (later here : Option B) (n : ℕ) (b : B) → one (is_some here) + n ≤ 1 → (n ≡ 0 → later ≡ None) → or_else later here ≡ Some b → IfSome here (λ c. c ≡ b)
alone later None n b h k e = tt
alone later (Some c) n b h k e =
    let none : n ≡ 0 = omega arith in
    let is : Some c ≡ Some b = ap (λ o. or_else o (Some c)) (sym (k none)) ∙ e in
    let same : c ≡ b = cc in same

or_here : {B : Type 0} (later here : Option B) (n : ℕ) (b : B) (P : Type 0) → one (is_some here) + n ≤ 1 → or_else later here ≡ Some b → (later ≡ Some b → P) → (n ≡ 0 → P) → P
or_here None None n b P h e k l = absurd (cc)
or_here None (Some c) n b P h e k l = let none : n ≡ 0 = omega arith in l none
or_here (Some d) here n b P h e k l = k e

-- all that speak say the same
nothing : {B : Type 0} (here : Option B) (b : B) (n : ℕ) → one (is_some here) + n ≡ 0 → IfSome here (λ c. c ≡ b)
nothing None b n h = tt
nothing (Some c) b n h = absurd (omega arith)

silent_all : {X B : Type 0} (says : X → Option B) (xs : List X) (b : B) → count_by (speaks says) xs ≡ 0 → AllByRecursion (λ x. IfSome (says x) (λ c. c ≡ b)) xs
silent_all says [] b h = tt
silent_all says (x ∷ xs) b h =
    let all : one (speaks says x) + count_by (speaks says) xs ≡ 0 = sym (count-cons (speaks says) x xs) ∙ h in
    let none : count_by (speaks says) xs ≡ 0 = omega arith in
    (nothing (says x) b (count_by (speaks says) xs) all, silent_all says xs b none)

said_alike : {X B : Type 0} (says : X → Option B) (xs : List X) (b : B) → count_by (speaks says) xs ≤ 1 → last_said says xs ≡ Some b → AllByRecursion (λ x. IfSome (says x) (λ c. c ≡ b)) xs
said_alike says [] b h e = tt
said_alike says (x ∷ xs) b h e =
    let most : one (speaks says x) + count_by (speaks says) xs ≤ 1 = subst (λ (n : ℕ). n ≤ 1) (count-cons (speaks says) x xs) h in
    let fewer : count_by (speaks says) xs ≤ 1 = omega arith in (
      alone (last_said says xs) (says x) (count_by (speaks says) xs) b most (last_silent says xs) e,
      or_here (last_said says xs) (says x) (count_by (speaks says) xs) b (AllByRecursion (λ y. IfSome (says y) (λ c. c ≡ b)) xs) most e (said_alike says xs b fewer) (silent_all says xs b),
    )

-- one of them speaks, and all that speak say the same
told_alike : {X B : Type 0} (says : X → Option B) (ys : List X) (b : B) (o : Option B) → last_said says ys ≡ o → IfSome o (λ c. c ≡ b) → (o ≡ None → count_by (speaks says) ys ≡ 0) → 1 ≤ count_by (speaks says) ys → o ≡ Some b
told_alike says ys b None e h k some = let none : count_by (speaks says) ys ≡ 0 = k refl in absurd (omega arith)
told_alike says ys b (Some c) e h k some = ap Some h

none_step : {B : Type 0} (later here : Option B) (n : ℕ) → or_else later here ≡ None → (later ≡ None → n ≡ 0) → one (is_some here) + n ≡ 0
none_step None None n e k = let none : n ≡ 0 = k refl in omega arith
none_step None (Some c) n e k = absurd (cc)
none_step (Some d) here n e k = absurd (cc)

none_speaks : {X B : Type 0} (says : X → Option B) (xs : List X) → last_said says xs ≡ None → count_by (speaks says) xs ≡ 0
none_speaks says [] e = refl
none_speaks says (x ∷ xs) e = count-cons (speaks says) x xs ∙ none_step (last_said says xs) (says x) (count_by (speaks says) xs) e (none_speaks says xs)

speaks_step : {B : Type 0} (later here : Option B) (n : ℕ) (b : B) → or_else later here ≡ Some b → (later ≡ Some b → 1 ≤ n) → 1 ≤ one (is_some here) + n
speaks_step None None n b e k = absurd (cc)
speaks_step None (Some c) n b e k = omega arith
speaks_step (Some d) here n b e k = let some : 1 ≤ n = k e in omega arith

one_speaks : {X B : Type 0} (says : X → Option B) (xs : List X) (b : B) → last_said says xs ≡ Some b → 1 ≤ count_by (speaks says) xs
one_speaks says [] b e = absurd (cc)
one_speaks says (x ∷ xs) b e = subst (λ (n : ℕ). 1 ≤ n) (sym (count-cons (speaks says) x xs)) (speaks_step (last_said says xs) (says x) (count_by (speaks says) xs) b e (one_speaks says xs b))

last_at : {X B : Type 0} (says : X → Option B) (xs ys : List X) (o : Option B) → IsPermutation xs ys → count_by (speaks says) xs ≤ 1 → last_said says xs ≡ o → last_said says ys ≡ o
last_at says xs ys None p h e =
    last_silent says ys (sum_by-IsPermutation (λ x. one (speaks says x)) xs ys p ∙ none_speaks says xs e)
last_at says xs ys (Some b) p h e =
    let alike = all_moved (λ x. IfSome (says x) (λ c. c ≡ b)) xs ys p (said_alike says xs b h e) in
    let some : 1 ≤ count_by (speaks says) ys = subst (λ (n : ℕ). 1 ≤ n) (sym (sum_by-IsPermutation (λ x. one (speaks says x)) xs ys p)) (one_speaks says xs b e) in
    told_alike says ys b (last_said says ys) refl (said_kept (λ c. c ≡ b) (λ y. IfSome (says y) (λ c. c ≡ b)) says (λ y k. k) ys alike) (none_speaks says ys) some

-- what is said last is the same in another order
last_moved : {X B : Type 0} (says : X → Option B) (xs ys : List X) → IsPermutation xs ys → count_by (speaks says) xs ≤ 1 → last_said says ys ≡ last_said says xs
last_moved says xs ys p h = last_at says xs ys (last_said says xs) p h refl

-- ---- what lines say last

abbrev action_at : List ℕ → List Action
action_at l = action_in (checkpoint_line_of l)

last_flat : {X A B : Type 0} (says : A → Option B) (f : X → List A) (xs : List X) → last_said says (flat_map f xs) ≡ last_said (λ x. last_said says (f x)) xs
last_flat says f [] = refl
last_flat says f (x ∷ xs) = last_said-append says (f x) (flat_map f xs) ∙ ap (λ o. or_else o (last_said says (f x))) (last_flat says f xs)

-- a line says one action at most
line_speaks : {B : Type 0} (tells : Action → Option B) (r : Result CheckpointLine Why) → one (is_some (last_said tells (action_in r))) ≡ count_by (speaks tells) (action_in r)
line_speaks tells (Ok says.Blank) = refl
line_speaks tells (Ok says.Unread) = refl
line_speaks tells (Ok (says.Says a)) = sym (count-cons (speaks tells) a [] ∙ (omega arith))
line_speaks tells (Ok (says.Version v)) = refl
line_speaks tells (Ok says.Sidecar) = refl
line_speaks tells (Err w) = refl

lines_speak : {B : Type 0} (tells : Action → Option B) (ls : List (List ℕ)) → count_by (speaks (λ l. last_said tells (action_at l))) ls ≡ count_by (speaks tells) (actions_in ls)
lines_speak tells [] = refl
lines_speak tells (l ∷ ls) =
    let head : one (is_some (last_said tells (action_at l))) ≡ count_by (speaks tells) (action_at l) = line_speaks tells (checkpoint_line_of l) in
    let tail : count_by (speaks (λ k. last_said tells (action_at k))) ls ≡ count_by (speaks tells) (actions_in ls) = lines_speak tells ls in
    count-cons (speaks (λ k. last_said tells (action_at k))) l ls ∙ (omega arith) ∙ sym (count-append (speaks tells) (action_at l) (actions_in ls))

actions_moved : {B : Type 0} (tells : Action → Option B) (test : Action → Bool) → ((a : Action) → is_some (tells a) ≡ test a) → (xs ys : List (List ℕ)) → IsPermutation xs ys
    → count_by test (actions_in xs) ≤ 1 → last_said tells (actions_in ys) ≡ last_said tells (actions_in xs)
actions_moved tells test same xs ys p h =
    let most : count_by (speaks (λ l. last_said tells (action_at l))) xs ≤ 1
    = subst (λ (n : ℕ). n ≤ 1) (sym (lines_speak tells xs ∙ count_alike (speaks tells) test same (actions_in xs))) h in
    last_flat tells action_at ys ∙ last_moved (λ l. last_said tells (action_at l)) xs ys p most ∙ sym (last_flat tells action_at xs)

-- ---- which actions say something

if_some : {B : Type 0} (b : Bool) (x : B) → is_some (cond b (Some x) None) ≡ b
if_some true x = refl
if_some false x = refl

of_file : (key : Key) (a : Action) → is_some (mention key a) ≡ mentions key a
of_file key (action.Info a) = refl
of_file key (action.Protocol a) = refl
of_file key (action.Meta a) = refl
of_file key (action.Txn a) = refl
of_file key (action.Domain a) = refl
of_file key (action.Remove a) = if_some (same_key key (key_of_remove a)) (removed (record a { change = false })) ∙ files_equiv.symm key (file_of_remove a)
of_file key (action.Add a) = if_some (same_key key (key_of a)) (added (record a { change = false })) ∙ files_equiv.symm key (file_of_add a)

of_app : (app : List ℕ) (a : Action) → is_some (txn_said app a) ≡ is_of_app app a
of_app app (action.Info a) = refl
of_app app (action.Protocol a) = refl
of_app app (action.Meta a) = refl
of_app app (action.Txn a) = if_some (same_app app a.app) a ∙ sym (same_bytes a.app app)
of_app app (action.Domain a) = refl
of_app app (action.Remove a) = refl
of_app app (action.Add a) = refl

of_domain : (name : List ℕ) (a : Action) → is_some (domain_said name a) ≡ is_of_domain name a
of_domain name (action.Info a) = refl
of_domain name (action.Protocol a) = refl
of_domain name (action.Meta a) = refl
of_domain name (action.Txn a) = refl
of_domain name (action.Domain a) = if_some (same_name name a.domain) a ∙ sym (same_bytes a.domain name)
of_domain name (action.Remove a) = refl
of_domain name (action.Add a) = refl

of_protocol : (a : Action) → is_some (protocol_said a) ≡ is_protocol a
of_protocol (action.Info a) = refl
of_protocol (action.Protocol a) = refl
of_protocol (action.Meta a) = refl
of_protocol (action.Txn a) = refl
of_protocol (action.Domain a) = refl
of_protocol (action.Remove a) = refl
of_protocol (action.Add a) = refl

of_meta : (a : Action) → is_some (meta_said a) ≡ is_meta a
of_meta (action.Info a) = refl
of_meta (action.Protocol a) = refl
of_meta (action.Meta a) = refl
of_meta (action.Txn a) = refl
of_meta (action.Domain a) = refl
of_meta (action.Remove a) = refl
of_meta (action.Add a) = refl

-- ---- the whole

apart_moved : (xs ys : List (List ℕ)) → IsPermutation xs ys → HasNoDoubles (actions_in xs) → HasNoDoubles (actions_in ys)
apart_moved xs ys p h =
    let moved : (test : Action → Bool) → count_by test (actions_in xs) ≤ 1 → count_by test (actions_in ys) ≤ 1
    = λ test most. subst (λ (n : ℕ). n ≤ 1) (sym (count_moved test action_at xs ys p)) most in
    record {
      file = λ file. moved (mentions file) (h.file file);
      app = λ app. moved (is_of_app app) (h.app app);
      domain = λ domain. moved (is_of_domain domain) (h.domain domain);
      protocol = moved is_protocol h.protocol;
      meta = moved is_meta h.meta;
      info = moved is_info h.info;
    }

table_moved : (xs ys : List (List ℕ)) → IsPermutation xs ys → HasNoDoubles (actions_in xs) → HasSameTable (actions_in ys ∷ []) (actions_in xs ∷ [])
unfolding live_at gone_at txn_at domain_at protocol_of_log meta_of_log
table_moved xs ys p h = record {
  live = λ key. ap (option_and_then as_added) (actions_moved (mention key) (mentions key) (of_file key) xs ys p (h.file key));
  gone = λ key. ap (option_and_then as_removed) (actions_moved (mention key) (mentions key) (of_file key) xs ys p (h.file key));
  txn = λ app. actions_moved (txn_said app) (is_of_app app) (of_app app) xs ys p (h.app app);
  domain = λ name. ap (option_and_then present) (actions_moved (domain_said name) (is_of_domain name) (of_domain name) xs ys p (h.domain name));
  protocol = actions_moved protocol_said is_protocol of_protocol xs ys p h.protocol;
  meta = actions_moved meta_said is_meta of_meta xs ys p h.meta;
}

tables_follow : (a b c : Log) → HasSameTable a b → HasSameTable b c → HasSameTable a c
tables_follow a b c h k = record {
  live = λ key. h.live key ∙ k.live key;
  gone = λ key. h.gone key ∙ k.gone key;
  txn = λ app. h.txn app ∙ k.txn app;
  domain = λ name. h.domain name ∙ k.domain name;
  protocol = h.protocol ∙ k.protocol;
  meta = h.meta ∙ k.meta;
}

tables_back : (a b : Log) → HasSameTable a b → HasSameTable b a
tables_back a b h = record {
  live = λ key. sym (h.live key);
  gone = λ key. sym (h.gone key);
  txn = λ app. sym (h.txn app);
  domain = λ name. sym (h.domain name);
  protocol = sym h.protocol;
  meta = sym h.meta;
}

pub checkpoint_moved : (bytes other : List ℕ) (version : ℕ) (log : Log) → IsPermutation (cut bytes) (cut other) → IsCheckpointOf bytes version log → IsCheckpointOf other version log
checkpoint_moved bytes other version log p x =
    let t = x.text in
    let apart : HasNoDoubles (actions_in (cut bytes)) = subst HasNoDoubles t.all t.apart in
    record {
      actions = actions_in (cut other);
      text = record {
        plain = all_moved (λ l. is_plain (checkpoint_line_of l) ≡ true) (cut bytes) (cut other) p t.plain;
        of_version = versions_moved (cut bytes) (cut other) version p t.of_version;
        all = refl;
        apart = apart_moved (cut bytes) (cut other) p apart;
        protocol = any_moved is_protocol action_at (cut bytes) (cut other) p (ap (list_any is_protocol) (sym t.all) ∙ t.protocol);
        meta = any_moved is_meta action_at (cut bytes) (cut other) p (ap (list_any is_meta) (sym t.all) ∙ t.meta);
      };
      table = tables_follow (actions_in (cut other) ∷ []) (actions_in (cut bytes) ∷ []) log (table_moved (cut bytes) (cut other) p apart)
          (subst (λ (actions : List Action). HasSameTable (actions ∷ []) log) t.all x.table);
    }

pub one_table : (bytes : List ℕ) (version : ℕ) (log other : Log) → IsCheckpointOf bytes version log → IsCheckpointOf bytes version other → HasSameTable log other
one_table bytes version log other x y =
    let same : x.actions ≡ y.actions = x.text.all ∙ sym y.text.all in
    tables_follow log (x.actions ∷ []) other (tables_back (x.actions ∷ []) log x.table)
    (subst (λ (actions : List Action). HasSameTable (actions ∷ []) other) (sym same) y.table)
