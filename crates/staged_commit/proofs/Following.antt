-- After further commits of which none conflicts with a write, it breaks no rule that it did not break before: the protocol and the metadata
-- stay, and each file that it removes is still live.
use Rattle.std.proofs.Common.{◌≡◌, ℕ, ◌+◌, ℤ, List, [], ◌∷◌, ◌++◌, map, Bool, true, false, ◌||◌, cond, Option, Some, None, IfSome, is_some, is_none, option_map, option_and_then, filter_map, if◌then◌else◌, refl, sym, ap, ap₂, ◌∙◌, subst}
use Rattle.std.specs.Prelude.{⊤}
use Rattle.std.specs.List.{AllByRecursion, cons_option, list_any}
use Rattle.std.proofs.lemmas.Cmp.{tied_itself}
use Rattle.std.specs.Ordering.{is_eq}
use Rattle.action_types.specs.declared.actions.Action.{Action}
use Rattle.action_types.specs.declared.actions.Action.TheVariants as action
use Rattle.action_types.specs.declared.actions.Add.{Add}
use Rattle.action_types.specs.declared.actions.Meta.{Meta}
use Rattle.action_types.specs.declared.actions.Protocol.{Protocol}
use Rattle.action_types.specs.declared.actions.Remove.{Remove}
use Rattle.action_types.specs.Files.{File, file_cmp, file_cmp_total, file_of_add, file_of_remove, same_file}
use Rattle.action_json.proofs.Files.{one_file}
use Rattle.conflict_rules.specs.Conflict.{Said, at_file, by_delete_delete, by_domain, conflict_with, conflicts_of_files, conflicts_of_reads, conflicts_of_table, first_conflict, first_of, is_removed, live_files, removed_twice}
use Rattle.conflict_rules.specs.declared.clash.Rule.TheVariants as rule
use Rattle.conflict_rules.specs.declared.intent.Change.{Change}
use Rattle.conflict_rules.specs.declared.intent.Intent.{Intent}
use Rattle.least_names.specs.Least.{IsLeast, least_file}
use Rattle.least_names.proofs.LeastLemmas.{least-IsLeast}
use Rattle.std.specs.Option.{MatchOption}
use Rattle.reconcile.specs.Replay.{Log, Mention, added, as_added, in_log, last_said, live_at, mention, or_else, removed}
use Rattle.reconcile.proofs.Last.{last_said-append}
use Rattle.table_rules.specs.Broken.{after, at_file as broken_at, broken_by, broken_contents, columns, feature, invariants, new_meta, new_protocol, no_meta, not_live, not_live_file, property}
use Rattle.table_rules.specs.declared.broken.Broken.{Broken}
use Rattle.table_rules.specs.declared.broken.Broken.TheVariants as broken
use Rattle.staged_commit.specs.Changes.{changes_of, metas_from, metas_of, protocols_of}
use Rattle.staged_commit.specs.Sorting.{sorted}
use Rattle.staged_commit.specs.WriteAnswers.{BreaksFirst, KeepsRulesAfter, write_on}
use Rattle.staged_commit.specs.Writes.{adds_cmp, domains_cmp, removes_cmp}
use Rattle.staged_commit.proofs.Appends.{same-meta, same-protocol}
use Rattle.staged_commit.proofs.Looking.{bare, bare_contents, judged, write-judged}
use Rattle.staged_commit.proofs.Orders.{removes_total}
use Rattle.staged_commit.proofs.Sorts.{all-sorted}

none-of : {B : Type 0} (a b : Option B) → or_else a b ≡ None → (a ≡ None) × (b ≡ None)
none-of None b h = (refl, h)
none-of (Some x) b h = cc

unmapped : {A B : Type 0} (f : A → B) (o : Option A) → option_map f o ≡ None → o ≡ None
unmapped f None h = refl
unmapped f (Some a) h = cc

no-least : (files : List File) → least_file files ≡ None → files ≡ []
no-least files h = subst (λ o. MatchOption o (files ≡ []) (λ one. IsLeast file_cmp files one)) h (least-IsLeast file_cmp_total files)

unsaid-head : {B : Type 0} (o : Option B) (ys : List B) → cons_option o ys ≡ [] → (o ≡ None) × (ys ≡ [])
unsaid-head None ys h = (refl, h)
unsaid-head (Some b) ys h = cc

-- ---- a file that a write removes stays live

-- nothing is said of a file, or that it is added
abbrev IsKept : Option Mention → Type 0
IsKept o = IfSome o (λ m. is_some (as_added m) ≡ true)

kept-both : (later earlier : Option Mention) → IsKept later → IsKept earlier → IsKept (or_else later earlier)
kept-both None earlier h k = k
kept-both (Some m) earlier h k = h

module _ (removes : List Remove) (f : File) (own : is_removed removes f ≡ true) where
  kept-add : (b : Bool) (a : Add) → IsKept (if b then Some (added (record a { change = false })) else None)
  kept-add true a = refl
  kept-add false a = tt

  other-file : (b : Bool) (r : Remove) → is_removed removes (file_of_remove r) ≡ false → same_file f (file_of_remove r) ≡ b → b ≡ false
  other-file true r h e =
      let same : f ≡ file_of_remove r = one_file f (file_of_remove r) e in
      let there : is_removed removes (file_of_remove r) ≡ true = subst (λ (g : File). is_removed removes g ≡ true) same own in cc
  other-file false r h e = refl

  not-own : (b : Bool) (file : File) → (if b then Some file else None) ≡ None → b ≡ false
  not-own true file h = cc
  not-own false file h = refl

  kept-remove : (b : Bool) (r : Remove) → b ≡ false → IsKept (if b then Some (removed (record r { change = false })) else None)
  kept-remove true r h = cc
  kept-remove false r h = tt

  kept-action : (a : Action) → removed_twice removes a ≡ None → IsKept (mention f a)
  kept-action (action.Info a) h = tt
  kept-action (action.Protocol a) h = tt
  kept-action (action.Meta a) h = tt
  kept-action (action.Txn a) h = tt
  kept-action (action.Domain a) h = tt
  kept-action (action.Remove r) h =
      kept-remove (same_file f (file_of_remove r)) r
      (other-file (same_file f (file_of_remove r)) r (not-own (is_removed removes (file_of_remove r)) (file_of_remove r) h) refl)
  kept-action (action.Add a) h = kept-add (same_file f (file_of_add a)) a

  kept-winner : (winner : List Action) → filter_map (removed_twice removes) winner ≡ [] → IsKept (last_said (mention f) winner)
  kept-winner [] h = tt
  kept-winner (a ∷ more) h =
      let parts = unsaid-head (removed_twice removes a) (filter_map (removed_twice removes) more) h in
      kept-both (last_said (mention f) more) (mention f a) (kept-winner more parts.1) (kept-action a parts.0)

  kept-winners : (conflict : List Action → Option Said) → ((w : List Action) → conflict w ≡ None → filter_map (removed_twice removes) w ≡ [])
      → (v : ℕ) (winners : Log) → first_of conflict v winners ≡ None → IsKept (in_log (mention f) winners)
  kept-winners conflict k v [] h = tt
  kept-winners conflict k v (w ∷ ws) h =
      let parts = none-of (option_map (λ clash. (v, clash)) (conflict w)) (first_of conflict (v + 1) ws) h in
      kept-both (in_log (mention f) ws) (last_said (mention f) w) (kept-winners conflict k (v + 1) ws parts.1)
      (kept-winner w (k w (unmapped (λ clash. (v, clash)) (conflict w) parts.0)))

still-live : (later earlier : Option Mention) → IsKept later → is_none (option_and_then as_added earlier) ≡ false → is_none (option_and_then as_added (or_else later earlier)) ≡ false
still-live None earlier h k = k
still-live (Some (added a)) earlier h k = refl
still-live (Some (removed r)) earlier h k = cc

unremoved : (intent : Intent) (base : Log) (winner : List Action) → conflict_with intent base winner ≡ None → filter_map (removed_twice intent.removes) winner ≡ []
unremoved intent base winner h =
    let files = (none-of (conflicts_of_files intent (live_files base) winner) (by_domain intent.domains winner)
    (none-of (conflicts_of_table intent winner) (or_else (conflicts_of_files intent (live_files base) winner) (by_domain intent.domains winner)) h).1).0 in
    let twice = (none-of (by_delete_delete intent.removes winner) (conflicts_of_reads intent (live_files base) winner) files).0 in
    no-least (filter_map (removed_twice intent.removes) winner)
    (unmapped (at_file rule.DeleteDelete) (least_file (filter_map (removed_twice intent.removes) winner)) twice)

-- ---- the removes of a write

-- a remove is one of the write's
abbrev IsOwn : List Remove → Action → Type 0
IsOwn removes (action.Info a) = ⊤
IsOwn removes (action.Protocol a) = ⊤
IsOwn removes (action.Meta a) = ⊤
IsOwn removes (action.Txn a) = ⊤
IsOwn removes (action.Domain a) = ⊤
IsOwn removes (action.Remove r) = is_removed removes (file_of_remove r) ≡ true
IsOwn removes (action.Add a) = ⊤

all-both : {X : Type 0} (P : X → Type 0) (xs ys : List X) → AllByRecursion P xs → AllByRecursion P ys → AllByRecursion P (xs ++ ys)
all-both P [] ys h k = k
all-both P (x ∷ xs) ys h k = (h.0, all-both P xs ys h.1 k)

all-map : {X Y : Type 0} (P : Y → Type 0) (f : X → Y) (xs : List X) → AllByRecursion (λ x. P (f x)) xs → AllByRecursion P (map f xs)
all-map P f [] h = tt
all-map P f (x ∷ xs) h = (h.0, all-map P f xs h.1)

all-any : {X Y : Type 0} (P : Y → Type 0) (f : X → Y) → ((x : X) → P (f x)) → (xs : List X) → AllByRecursion P (map f xs)
all-any P f h [] = tt
all-any P f h (x ∷ xs) = (h x, all-any P f h xs)

or-left : (a b : Bool) → a ≡ true → (a || b) ≡ true
or-left true b h = refl
or-left false b h = cc

or-right : (a b : Bool) → b ≡ true → (a || b) ≡ true
or-right true b h = refl
or-right false b h = h

all-own : (all rest : List Remove) → ((f : File) → is_removed rest f ≡ true → is_removed all f ≡ true) → AllByRecursion (λ r. is_removed all (file_of_remove r) ≡ true) rest
all-own all [] h = tt
all-own all (r ∷ rest) h =
    let f = file_of_remove r in (
      h f (or-left (same_file f f) (is_removed rest f) (ap is_eq (tied_itself file_cmp_total f))),
      all-own all rest (λ g k. h g (or-right (same_file g f) (is_removed rest g) k)),
    )

own-sorted : (intent : Intent) → AllByRecursion (λ r. is_removed intent.removes (file_of_remove r) ≡ true) (sorted removes_cmp intent.removes)
own-sorted intent =
    all-sorted removes_cmp removes_total (λ r. is_removed intent.removes (file_of_remove r) ≡ true) intent.removes
    (all-own intent.removes intent.removes (λ f k. k))

module _ (removes : List Remove) where
  own-protocols : (features : Option (List (List ℕ))) → AllByRecursion (IsOwn removes) (protocols_of features)
  own-protocols None = tt
  own-protocols (Some features) = (tt, tt)

  own-metas : (b : Bool) (change : Change) (old : Option Meta) → AllByRecursion (IsOwn removes) (if b then metas_from change old else [])
  own-metas true change None = tt
  own-metas true change (Some m) = (tt, tt)
  own-metas false change old = tt

  own-changes : (change : Option Change) (old : Option Meta) → AllByRecursion (IsOwn removes) (changes_of change old)
  own-changes None old = tt
  own-changes (Some change) old = all-both (IsOwn removes) (protocols_of change.features) (metas_of change old) (own-protocols change.features) (own-metas _ change old)

own-bare : (old : Option Meta) (intent : Intent) → AllByRecursion (IsOwn intent.removes) (bare old intent)
unfolding bare bare_contents
own-bare old intent =
    all-both (IsOwn intent.removes) (changes_of intent.change old) _ (own-changes intent.removes intent.change old)
    (all-both (IsOwn intent.removes) (map action.Domain (sorted domains_cmp intent.domains)) _
    (all-any (IsOwn intent.removes) action.Domain (λ d. tt) (sorted domains_cmp intent.domains))
    (all-both (IsOwn intent.removes) (map action.Remove (sorted removes_cmp intent.removes)) _
    (all-map (IsOwn intent.removes) action.Remove (sorted removes_cmp intent.removes) (own-sorted intent))
    (all-any (IsOwn intent.removes) action.Add (λ a. tt) (sorted adds_cmp intent.adds))))

-- ---- the rule on removes

live-there : (b : Bool) (f : File) → (if b then Some f else None) ≡ None → b ≡ false
live-there true f h = cc
live-there false f h = refl

module _ (removes : List Remove) (live later : File → Option Add) (stays : (f : File) → is_removed removes f ≡ true → is_none (live f) ≡ false → is_none (later f) ≡ false) where
  still-action : (a : Action) → IsOwn removes a → not_live_file live a ≡ None → not_live_file later a ≡ None
  still-action (action.Info a) own h = refl
  still-action (action.Protocol a) own h = refl
  still-action (action.Meta a) own h = refl
  still-action (action.Txn a) own h = refl
  still-action (action.Domain a) own h = refl
  still-action (action.Remove r) own h =
      ap (λ b. if b then Some (file_of_remove r) else None) (stays (file_of_remove r) own (live-there (is_none (live (file_of_remove r))) (file_of_remove r) h))
  still-action (action.Add a) own h = refl

  still-all : (actions : List Action) → AllByRecursion (IsOwn removes) actions → filter_map (not_live_file live) actions ≡ [] → filter_map (not_live_file later) actions ≡ []
  still-all [] own h = refl
  still-all (a ∷ more) own h =
      let parts = unsaid-head (not_live_file live a) (filter_map (not_live_file live) more) h in
      ap₂ cons_option (still-action a own.0 parts.0) (still-all more own.1 parts.1)

  still-not-live : (actions : List Action) → AllByRecursion (IsOwn removes) actions → not_live live actions ≡ None → not_live later actions ≡ None
  still-not-live actions own h =
      ap (λ l. option_map (broken_at broken.NotLive) (least_file l))
      (still-all actions own
      (no-least (filter_map (not_live_file live) actions) (unmapped (broken_at broken.NotLive) (least_file (filter_map (not_live_file live) actions)) h)))

-- the rules by what is looked at, where another set of files is live
judged-still : (old : Option Meta) (protocol : Option Protocol) (live later : File → Option Add) (looked : List Action)
    → (not_live live looked ≡ None → not_live later looked ≡ None) → judged old protocol live looked ≡ None → judged old protocol later looked ≡ None
unfolding judged
judged-still old protocol live later looked still h =
    let a = none-of (no_meta old looked) _ h in
    let b = none-of (or_else (feature looked) (or_else (property looked) (or_else (invariants looked) (columns old looked)))) _ a.1 in
    let c = none-of (not_live live looked) (broken_contents (new_protocol protocol looked) (new_meta old looked) looked) b.1 in
    ap₂ or_else a.0 (ap₂ or_else b.0 (ap₂ or_else (still c.0) c.1))

module _ (intent : Intent) (base log winners : Log) (version : ℕ) (clear : first_conflict intent base version winners ≡ None) where
  live-stays : (f : File) → is_removed intent.removes f ≡ true → is_none (live_at f log) ≡ false → is_none (live_at f (log ++ winners)) ≡ false
  unfolding live_at
  live-stays f own h =
      let kept = kept-winners intent.removes f own (conflict_with intent base) (unremoved intent base) version winners clear in
      let joined : in_log (mention f) (log ++ winners) ≡ or_else (in_log (mention f) winners) (in_log (mention f) log) = last_said-append (last_said (mention f)) log winners in
      ap (λ o. is_none (option_and_then as_added o)) joined ∙ still-live (in_log (mention f) winners) (in_log (mention f) log) kept h

  pub write-stays : KeepsRulesAfter log intent → KeepsRulesAfter (log ++ winners) intent
  write-stays keeps id time =
      let first : judged (after log).meta (after log).protocol (after log).live (bare (after log).meta intent) ≡ None = sym (write-judged (after log) intent id time) ∙ keeps id time in
      let later = judged-still (after log).meta (after log).protocol (after log).live (after (log ++ winners)).live (bare (after log).meta intent)
      (still-not-live intent.removes (after log).live (after (log ++ winners)).live live-stays (bare (after log).meta intent) (own-bare (after log).meta intent)) first in
      let meta : (after (log ++ winners)).meta ≡ (after log).meta = same-meta intent base version log winners clear in
      let protocol : (after (log ++ winners)).protocol ≡ (after log).protocol = same-protocol intent base version log winners clear in
      write-judged (after (log ++ winners)) intent id time
      ∙ ap₂ (λ m p. judged m p (after (log ++ winners)).live (bare m intent)) meta protocol ∙ later
