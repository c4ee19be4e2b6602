-- What the replay of a log with valid fields says has valid fields, no `dataChange`, and is no domain that is removed.
use Rattle.std.proofs.Common.{◌≡◌, ℕ, List, [], ◌∷◌, Bool, true, false, cond, Option, Some, None, IfSome, option_and_then, refl}
use Rattle.std.specs.List.{AllByRecursion}
use Rattle.action_types.specs.declared.actions.Action.{Action}
use Rattle.action_types.specs.declared.actions.Action.TheVariants as action
use Rattle.action_types.specs.declared.actions.Domain.{Domain}
use Rattle.action_fields.specs.Valid.{has_valid_fields}
use Rattle.reconcile.specs.Keys.{Key, key_of, key_of_remove, same_key, same_name}
use Rattle.reconcile.specs.Replay.{Log, or_else, last_said, in_log, Mention, added, removed, mention, as_added, as_removed, live_at, gone_at, domain_said, present, domain_at, meta_said, meta_of_log}
use Rattle.checkpoint_v2.specs.Canonical.{HasValidFields}

either : {B : Type 0} (P : B → Type 0) (a b : Option B) → IfSome a P → IfSome b P → IfSome (or_else a b) P
either P None b h k = k
either P (Some x) b h k = h

pub said_kept : {A B : Type 0} (P : B → Type 0) (Q : A → Type 0) (says : A → Option B) → ((a : A) → Q a → IfSome (says a) P) → (xs : List A) → AllByRecursion Q xs → IfSome (last_said says xs) P
said_kept P Q says k [] h = tt
said_kept P Q says k (x ∷ xs) h = either P (last_said says xs) (says x) (said_kept P Q says k xs h.1) (k x h.0)

abbrev IsValid : Action → Type 0
IsValid a = has_valid_fields a ≡ true

log_kept : {B : Type 0} (P : B → Type 0) (says : Action → Option B) → ((a : Action) → IsValid a → IfSome (says a) P) → (log : Log) → HasValidFields log → IfSome (in_log says log) P
log_kept P says k log h = said_kept P (AllByRecursion IsValid) (last_said says) (λ c v. said_kept P IsValid says k c v) log h

if_said : {B : Type 0} (P : B → Type 0) (b : Bool) (x : B) → P x → IfSome (cond b (Some x) None) P
if_said P true x h = h
if_said P false x h = tt

-- ---- files

abbrev IsKept : Mention → Type 0
IsKept (added add) = (add.change ≡ false) × IsValid (action.Add add)
IsKept (removed remove) = (remove.change ≡ false) × IsValid (action.Remove remove)

mention_kept : (key : Key) (a : Action) → IsValid a → IfSome (mention key a) IsKept
unfolding has_valid_fields
mention_kept key (action.Info a) h = tt
mention_kept key (action.Protocol a) h = tt
mention_kept key (action.Meta a) h = tt
mention_kept key (action.Txn a) h = tt
mention_kept key (action.Domain a) h = tt
mention_kept key (action.Remove a) h = if_said IsKept (same_key key (key_of_remove a)) (removed (record a { change = false })) (refl, h)
mention_kept key (action.Add a) h = if_said IsKept (same_key key (key_of a)) (added (record a { change = false })) (refl, h)

added_kept : (o : Option Mention) → IfSome o IsKept → IfSome (option_and_then as_added o) (λ add. (add.change ≡ false) × IsValid (action.Add add))
added_kept None h = tt
added_kept (Some (added a)) h = h
added_kept (Some (removed r)) h = tt

removed_kept : (o : Option Mention) → IfSome o IsKept → IfSome (option_and_then as_removed o) (λ remove. (remove.change ≡ false) × IsValid (action.Remove remove))
removed_kept None h = tt
removed_kept (Some (added a)) h = tt
removed_kept (Some (removed r)) h = h

pub live_kept : (log : Log) (key : Key) → HasValidFields log → IfSome (live_at key log) (λ add. (add.change ≡ false) × (has_valid_fields (action.Add add) ≡ true))
unfolding live_at
live_kept log key h = added_kept (in_log (mention key) log) (log_kept IsKept (mention key) (mention_kept key) log h)

pub gone_kept : (log : Log) (key : Key) → HasValidFields log → IfSome (gone_at key log) (λ remove. (remove.change ≡ false) × (has_valid_fields (action.Remove remove) ≡ true))
unfolding gone_at
gone_kept log key h = removed_kept (in_log (mention key) log) (log_kept IsKept (mention key) (mention_kept key) log h)

-- ---- domains and metadata

domain_kept : (name : List ℕ) (a : Action) → IsValid a → IfSome (domain_said name a) (λ d. IsValid (action.Domain d))
domain_kept name (action.Info a) h = tt
domain_kept name (action.Protocol a) h = tt
domain_kept name (action.Meta a) h = tt
domain_kept name (action.Txn a) h = tt
domain_kept name (action.Domain a) h = if_said (λ d. IsValid (action.Domain d)) (same_name name a.domain) a h
domain_kept name (action.Remove a) h = tt
domain_kept name (action.Add a) h = tt

there : (d : Domain) (b : Bool) → d.removed ≡ b → IsValid (action.Domain d) → IfSome (cond b None (Some d)) (λ x. (x.removed ≡ false) × IsValid (action.Domain x))
there d true e h = tt
there d false e h = (e, h)

present_kept : (o : Option Domain) → IfSome o (λ d. IsValid (action.Domain d)) → IfSome (option_and_then present o) (λ d. (d.removed ≡ false) × IsValid (action.Domain d))
present_kept None h = tt
present_kept (Some d) h = there d d.removed refl h

pub domain_at-kept : (log : Log) (name : List ℕ) → HasValidFields log → IfSome (domain_at name log) (λ d. (d.removed ≡ false) × (has_valid_fields (action.Domain d) ≡ true))
unfolding domain_at
domain_at-kept log name h = present_kept (in_log (domain_said name) log) (log_kept (λ d. IsValid (action.Domain d)) (domain_said name) (domain_kept name) log h)

meta_kept : (a : Action) → IsValid a → IfSome (meta_said a) (λ m. IsValid (action.Meta m))
meta_kept (action.Info a) h = tt
meta_kept (action.Protocol a) h = tt
meta_kept (action.Meta a) h = h
meta_kept (action.Txn a) h = tt
meta_kept (action.Domain a) h = tt
meta_kept (action.Remove a) h = tt
meta_kept (action.Add a) h = tt

pub meta_of_log-kept : (log : Log) → HasValidFields log → IfSome (meta_of_log log) (λ m. has_valid_fields (action.Meta m) ≡ true)
unfolding meta_of_log
meta_of_log-kept log h = log_kept (λ m. IsValid (action.Meta m)) meta_said meta_kept log h
