-- The replay of commits without deletion vectors and domains, by path.
use Rattle.std.proofs.Common.{◌≡◌, ℕ, false, cond, List, [], ◌∷◌, refl, ap, ◌∙◌}
use Rattle.std.specs.Prelude.{Option, Some, None, option_and_then}
use Rattle.std.specs.List.{AllByRecursion}
use Rattle.action_types.specs.declared.actions.Action.{Action}
use Rattle.action_types.specs.declared.actions.Action.TheVariants as act
use Rattle.action_types.specs.declared.actions.Vector.{Vector}
use Rattle.action_types.specs.Files.{same_file, file}
use Rattle.reconcile.specs.ByFile.{plain_file, marked_file}
use Rattle.reconcile.specs.Keys.{same_name}
use Rattle.reconcile.specs.Paths.{IsPlain, IsPlainLog, path_mention, live_path, gone_path}
use Rattle.reconcile.specs.Replay.{Log, or_else, last_said, in_log, added, removed, mention, as_added, as_removed, live_at, gone_at, domain_said, present, domain_at}
use Rattle.reconcile.proofs.Files.{same_plain, marked_plain}

said_same : {A B : Type 0} (P : A → Type 0) (f g : A → Option B) → ((a : A) → P a → f a ≡ g a) → (xs : List A) → AllByRecursion P xs → last_said f xs ≡ last_said g xs
said_same P f g same [] h = refl
said_same P f g same (x ∷ xs) h = λ i. or_else (said_same P f g same xs h.1 i) (same x h.0 i)

log_same : {B : Type 0} (f g : Action → Option B) → ((a : Action) → IsPlain a → f a ≡ g a) → (log : Log) → IsPlainLog log → in_log f log ≡ in_log g log
log_same f g same log h = said_same (AllByRecursion IsPlain) (last_said f) (last_said g) (λ c p. said_same IsPlain f g same c p) log h

unsaid : {A B : Type 0} (f : A → Option B) → ((a : A) → f a ≡ None) → (xs : List A) → last_said f xs ≡ None
unsaid f none [] = refl
unsaid f none (x ∷ xs) = λ i. or_else (unsaid f none xs i) (none x i)

silent : {B : Type 0} (f : Action → Option B) → ((a : Action) → IsPlain a → f a ≡ None) → (log : Log) → IsPlainLog log → in_log f log ≡ None
silent {B} f none log h =
    let nothing : Action → Option B = λ a. None in
    log_same f nothing none log h ∙ unsaid (last_said nothing) (λ c. unsaid nothing (λ a. refl) c) log

plain_said : (path q : List ℕ) (vector : Option Vector) → vector ≡ None → same_file (plain_file path) (file q vector) ≡ same_name path q
plain_said path q vector e = ap (λ v. same_file (plain_file path) (file q v)) e ∙ same_plain path q

marked_said : (path id q : List ℕ) (vector : Option Vector) → vector ≡ None → same_file (marked_file path id) (file q vector) ≡ false
marked_said path id q vector e = ap (λ v. same_file (marked_file path id) (file q v)) e ∙ marked_plain path id q

mention-plain : (path : List ℕ) (a : Action) → IsPlain a → mention (plain_file path) a ≡ path_mention path a
mention-plain path (act.Info info) h = refl
mention-plain path (act.Protocol protocol) h = refl
mention-plain path (act.Meta meta) h = refl
mention-plain path (act.Txn txn) h = refl
mention-plain path (act.Domain domain) h = refl
mention-plain path (act.Remove remove) h = ap (λ b. cond b (Some (removed (record remove { change = false }))) None) (plain_said path remove.path remove.vector h)
mention-plain path (act.Add add) h = ap (λ b. cond b (Some (added (record add { change = false }))) None) (plain_said path add.path add.vector h)

mention-marked : (path id : List ℕ) (a : Action) → IsPlain a → mention (marked_file path id) a ≡ None
mention-marked path id (act.Info info) h = refl
mention-marked path id (act.Protocol protocol) h = refl
mention-marked path id (act.Meta meta) h = refl
mention-marked path id (act.Txn txn) h = refl
mention-marked path id (act.Domain domain) h = refl
mention-marked path id (act.Remove remove) h = ap (λ b. cond b (Some (removed (record remove { change = false }))) None) (marked_said path id remove.path remove.vector h)
mention-marked path id (act.Add add) h = ap (λ b. cond b (Some (added (record add { change = false }))) None) (marked_said path id add.path add.vector h)

no_domain_said : (name : List ℕ) (a : Action) → IsPlain a → domain_said name a ≡ None
no_domain_said name (act.Info info) h = refl
no_domain_said name (act.Protocol protocol) h = refl
no_domain_said name (act.Meta meta) h = refl
no_domain_said name (act.Txn txn) h = refl
no_domain_said name (act.Domain domain) h = absurd h
no_domain_said name (act.Remove remove) h = refl
no_domain_said name (act.Add add) h = refl

pub live_at-plain : (log : Log) → IsPlainLog log → (path : List ℕ) → live_at (plain_file path) log ≡ live_path path log
unfolding live_at live_path
live_at-plain log h path = ap (option_and_then as_added) (log_same (mention (plain_file path)) (path_mention path) (mention-plain path) log h)

pub gone_at-plain : (log : Log) → IsPlainLog log → (path : List ℕ) → gone_at (plain_file path) log ≡ gone_path path log
unfolding gone_at gone_path
gone_at-plain log h path = ap (option_and_then as_removed) (log_same (mention (plain_file path)) (path_mention path) (mention-plain path) log h)

pub live_at-marked : (log : Log) → IsPlainLog log → (path id : List ℕ) → live_at (marked_file path id) log ≡ None
unfolding live_at
live_at-marked log h path id = ap (option_and_then as_added) (silent (mention (marked_file path id)) (mention-marked path id) log h)

pub gone_at-marked : (log : Log) → IsPlainLog log → (path id : List ℕ) → gone_at (marked_file path id) log ≡ None
unfolding gone_at
gone_at-marked log h path id = ap (option_and_then as_removed) (silent (mention (marked_file path id)) (mention-marked path id) log h)

pub domain_at-none : (log : Log) → IsPlainLog log → (name : List ℕ) → domain_at name log ≡ None
unfolding domain_at
domain_at-none log h name = ap (option_and_then present) (silent (domain_said name) (no_domain_said name) log h)
