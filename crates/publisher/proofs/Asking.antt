-- The catalogue turn of a publishing or a clearing, what was heard, and causes of refusals.
use Rattle.std.proofs.Common.{◌≡◌, ◌<◌, ℕ, Bool, true, List, [], ◌∷◌, ◌++◌, length, inl, inr, refl, sym, ◌∙◌, ap, arith, append_assoc}
use Rattle.std.specs.Prelude.{Result, Ok, Err}
use Rattle.commit_catalog.specs.declared.Commits.{Commits}
use Rattle.table_model.specs.declared.answers.Spot.{Spot}
use Rattle.table_model.specs.declared.answers.StepFault.{StepFault}
use Rattle.table_model.specs.declared.answers.StepFault.TheVariants as step
use Rattle.table_model.specs.Knowledge.{Knowledge}
use Rattle.table_model.specs.Learning.{IsFaultAt, IsOnlyMemory, CommitsLearnt, ListLearnt}
use Rattle.log_names.specs.declared.LogName.{LogName}
use Rattle.publisher.specs.declared.answers.PublishError.{PublishError}
use Rattle.publisher.specs.declared.answers.PublishError.TheVariants.{NoTable, Fault, Memory}
use Rattle.publisher.specs.Causes.{UnlessMemory, PublishCause, ClearCause}
use Rattle.publisher.specs.Converting.{of_fault}
use Rattle.publisher.specs.Publishing.{HasAsked, AsksToPublish, AsksTwice, OnlyClears}

pub whatever : {A : Type 0} (r : Result A PublishError) (P : Type 0) → P → UnlessMemory r P
whatever (Ok answer) P p = p
whatever (Err NoTable) P p = p
whatever (Err (Fault at)) P p = p
whatever (Err Memory) P p = tt

-- refused turns of the catalogue
pub memory_cause : (tells : Bool) (k : Knowledge) (f : StepFault) (m : Knowledge) → IsOnlyMemory k f m → PublishCause tells (of_fault f) k m
memory_cause tells k (step.Fault at) m h = absurd h
memory_cause tells k step.Memory m h = let e = ap (λ (x : Knowledge). x.asks) h in λ more. absurd (omega (arith, e, more))

pub report_cause : (tells : Bool) (j k : Knowledge) (f : StepFault) (m : Knowledge) → 0 < length m.seen → IsOnlyMemory k f m → PublishCause tells (of_fault f) j m
report_cause tells j k (step.Fault at) m some h = absurd h
report_cause tells j k step.Memory m some h = λ more. some

-- a clearing fails as over a store that tells

pub clear_cause : (e : PublishError) (k m : Knowledge) → PublishCause true e k m → ClearCause e k m
clear_cause NoTable k m h = h
clear_cause (Fault at) k m (inl h, some) = (h, some)
clear_cause (Fault at) k m (inr h, some) = absurd (h.untold refl)
clear_cause Memory k m h = h

-- the catalogue turn of a clearing, and then turns that read no catalogue
asked_then : (tells : Bool) (c : Commits) (j k m : Knowledge) → CommitsLearnt tells j c k → m.asks ≡ k.asks → m.heard ≡ k.heard → m.seen ≡ k.seen
    → m.reported ≡ k.reported → HasAsked m.reported j m
asked_then tells c j k m a asks heard seen reported =
    let asks_k = ap (λ (x : Knowledge). x.asks) a.same in
    let reported_k : m.reported ≡ c.reported = reported ∙ ap (λ (x : Knowledge). x.reported) a.same in
    let same : length m.seen ≡ length k.seen = ap length seen in
    record {
      asks = omega (arith, asks, asks_k);
      heard = heard ∙ ap (λ (x : Knowledge). x.heard) a.same ∙ ap (λ (n : ℕ). j.heard ++ n ∷ []) (sym reported_k);
      told = omega (arith, a.sees.told, same);
    }

pub clear_asks : (tells : Bool) (c : Commits) (names : List LogName) (j k l m : Knowledge) → CommitsLearnt tells j c k → ListLearnt tells k names l → OnlyClears l m
    → HasAsked m.reported j m
clear_asks tells c names j k l m a b o =
    asked_then tells c j k m a (ap (λ (x : Knowledge). x.asks) o.same ∙ ap (λ (x : Knowledge). x.asks) b.same)
    (ap (λ (x : Knowledge). x.heard) o.same ∙ ap (λ (x : Knowledge). x.heard) b.same)
    (ap (λ (x : Knowledge). x.seen) o.same ∙ ap (λ (x : Knowledge). x.seen) b.same)
    (ap (λ (x : Knowledge). x.reported) o.same ∙ ap (λ (x : Knowledge). x.reported) b.same)

pub fault_asks : (tells : Bool) (c : Commits) (at : Spot) (j k : Knowledge) (f : StepFault) (m : Knowledge) → CommitsLearnt tells j c k → IsFaultAt at k f m
    → HasAsked m.reported j m
fault_asks tells c at j k (step.Fault found) m a h =
    asked_then tells c j k m a (ap (λ (x : Knowledge). x.asks) h.1) (ap (λ (x : Knowledge). x.heard) h.1) (ap (λ (x : Knowledge). x.seen) h.1)
    (ap (λ (x : Knowledge). x.reported) h.1)
fault_asks tells c at j k step.Memory m a h =
    asked_then tells c j k m a (ap (λ (x : Knowledge). x.asks) h) (ap (λ (x : Knowledge). x.heard) h) (ap (λ (x : Knowledge). x.seen) h)
    (ap (λ (x : Knowledge). x.reported) h)

pub clear_memory_cause : (k : Knowledge) (f : StepFault) (m : Knowledge) → IsOnlyMemory k f m → ClearCause (of_fault f) k m
clear_memory_cause k (step.Fault at) m h = absurd h
clear_memory_cause k step.Memory m h = let e = ap (λ (x : Knowledge). x.asks) h in λ more. absurd (omega (arith, e, more))

-- a publishing, and then a clearing
pub asks_twice : (j k m : Knowledge) → AsksToPublish j k → HasAsked m.reported k m → AsksTwice j m
asks_twice j k m a h =
    let first = a.asked.asks in
    let second = h.asks in
    record {
      first = a.number;
      asks = omega (arith, first, second);
      heard =
          h.heard ∙ ap (λ (ns : List ℕ). ns ++ m.reported ∷ []) a.asked.heard
          ∙ append_assoc j.heard (a.number ∷ []) (m.reported ∷ []);
    }

pub none_seen : {A : Type 0} (xs : List A) (P : Type 0) → xs ≡ [] → 0 < length xs → P
none_seen xs P none some = let e = ap length none in absurd (omega (arith, e, some))
