-- A commit is staged for the next version and handed to the catalogue.
use Rattle.std.proofs.Common.{◌≡◌, ◌<◌, ◌≤◌, ◌+◌, ℕ, ℤ, Bool, true, IsTrue, cond, List, [], ◌∷◌, ◌++◌, length, take, refl, sym, ◌∙◌, ap, subst, arith, length-append, append-nil}
use Rattle.std.specs.Prelude.{Contains, IfSome, IsSomeAnd, Option, Some, None, ◌==◌}
use Rattle.std.proofs.lemmas.List.{take_all, nil_from_length}
use Rattle.std.proofs.lemmas.Bool.Decides.{nat_tests}
use Rattle.std.proofs.lemmas.List.Elements.{Contains-push}
use Rattle.log_names.specs.declared.LogName.TheVariants as name
use Rattle.table_model.specs.declared.answers.Spot.{Spot}
use Rattle.table_model.specs.declared.answers.StepFault.{StepFault}
use Rattle.table_model.specs.declared.answers.StepFault.TheVariants as step
use Rattle.table_model.specs.declared.known.Refusal.TheVariants as refusal
use Rattle.table_model.specs.Log.{Commit, IsNextCommit, commit_time}
use Rattle.table_model.specs.Knowledge.{Knowledge, Terms, StartsWith}
use Rattle.table_model.specs.Conditions.{MayRatify, triple}
use Rattle.table_model.specs.Learning.{IsFaultPutting, IsOnlyMemory, fault_noted, RatifiedLearnt, LostLearnt, FullLearnt, BacklogLearnt}
use Rattle.writer_txn.specs.Proposing.{HasRoom, HasStopped, IsRatified, HasLost, IsRefusedFull, staged_noted}

-- a proposal may be ratified once it is staged
pub may_ratify : (tells : Bool) (version id : ℕ) (bytes : List ℕ) (time : ℤ) (k m : Knowledge) → version ≡ length k.seen → m ≡ staged_noted version id bytes k
    → (IsTrue tells → IsNextCommit k.seen bytes) → (IsTrue tells → time ≡ commit_time bytes) → MayRatify tells m version id time
may_ratify tells version id bytes time k m at e next timed =
    let P : List Commit → Type 0 = λ log. IsNextCommit log bytes in
    let all : take version k.seen ≡ k.seen = take_all version k.seen (omega (arith, at)) in
    let now : MayRatify tells (staged_noted version id bytes k) version id time = record {
      bytes = bytes;
      kept = Contains-push k.kept (triple version id bytes);
      below = omega (arith, at);
      next = λ t. subst P (sym all) (next t);
      timed = timed;
    } in
    subst (λ (x : Knowledge). MayRatify tells x version id time) (sym e) now

ratified_at : (tells : Bool) (version id : ℕ) (bytes : List ℕ) (k m : Knowledge) → RatifiedLearnt tells (staged_noted version id bytes k) version id m → IsRatified tells version id bytes k m
ratified_at tells version id bytes k m h = record {
  same = h.same;
  text = h.commit.text;
  seen = h.commit.is;
  text_is = λ t. sym (h.commit.known t bytes (Contains-push k.kept (triple version id bytes)));
}

pub ratified : (tells : Bool) (version id : ℕ) (bytes : List ℕ) (k j m : Knowledge) → j ≡ staged_noted version id bytes k → RatifiedLearnt tells j version id m
    → IsRatified tells version id bytes k m
ratified tells version id bytes k j m e h = ratified_at tells version id bytes k m (subst (λ (x : Knowledge). RatifiedLearnt tells x version id m) e h)

same_number : (a b : ℕ) → a ≡ b → (a == b) ≡ true
same_number a b e = grind (arith, nat_tests)

lost_at : (version id latest : ℕ) (bytes : List ℕ) (k m : Knowledge) → version ≡ length k.seen → LostLearnt (staged_noted version id bytes k) version latest m → HasLost version id latest bytes k m
lost_at version id latest bytes k m at h = record {
  same =
      h.same
      ∙ ap (λ (b : Bool). let y : Knowledge = record (staged_noted version id bytes k) { seen = m.seen; tries = k.tries ++ cond b (record { version = version; answer = refusal.Lost } ∷ []) [] } in y) (same_number version (length k.seen) at);
  last = h.last;
  later = h.below;
}

pub lost : (version id latest : ℕ) (bytes : List ℕ) (k j m : Knowledge) → version ≡ length k.seen → j ≡ staged_noted version id bytes k → LostLearnt j version latest m
    → HasLost version id latest bytes k m
lost version id latest bytes k j m at e h = lost_at version id latest bytes k m at (subst (λ (x : Knowledge). LostLearnt x version latest m) e h)

-- what is as long as its front is its front
pub same_front : {A : Type 0} (longer front : List A) → StartsWith longer front → length longer ≡ length front → longer ≡ front
same_front longer front s e =
    let f = length-append front s.rest in
    let g = ap length s.is in
    s.is ∙ ap (λ r. front ++ r) (nil_from_length s.rest (omega (arith, e, f, g))) ∙ append-nil front

same_limit : (terms : Option Terms) (n version : ℕ) → n ≡ version → IfSome terms (λ t. n ≡ t.limits.versions) → IfSome terms (λ t. version ≡ t.limits.versions)
same_limit None n version e h = h
same_limit (Some t) n version e h = sym e ∙ h

full_at : (version id latest : ℕ) (bytes : List ℕ) (k m : Knowledge) → version ≡ length k.seen → FullLearnt (staged_noted version id bytes k) version latest m → IsRefusedFull version id latest bytes k m
full_at version id latest bytes k m at h =
    let same : m.seen ≡ k.seen = same_front m.seen k.seen h.sees.front (sym h.next ∙ at) in
    record {
      same = h.same ∙ ap (λ (seen : List Commit). let y : Knowledge = record (staged_noted version id bytes k) { seen = seen } in y) same;
      last = h.last ∙ ap length same;
      limit = same_limit k.terms (length m.seen) version (sym h.next) h.limit;
    }

pub full : (version id latest : ℕ) (bytes : List ℕ) (k j m : Knowledge) → version ≡ length k.seen → j ≡ staged_noted version id bytes k → FullLearnt j version latest m
    → IsRefusedFull version id latest bytes k m
full version id latest bytes k j m at e h = full_at version id latest bytes k m at (subst (λ (x : Knowledge). FullLearnt x version latest m) e h)

-- the backlog is not at its limit
no_backlog_at : (terms : Option Terms) (version n reported : ℕ) → version ≡ n → IsSomeAnd terms (λ t. t.limits.unpublished ≤ version → t.limits.versions ≤ version)
    → IfSome terms (λ t. (n < t.limits.versions) × (n ≡ reported + t.limits.unpublished)) → ⊥
no_backlog_at None version n reported e room h = room
no_backlog_at (Some t) version n reported e room h =
    let below = h.0 in
    let at = h.1 in
    let full : t.limits.versions ≤ version = room (omega (arith, e, at)) in
    omega (arith, e, full, below)

pub no_backlog : (version id latest reported : ℕ) (bytes : List ℕ) (k j m : Knowledge) → HasRoom version k.terms → j ≡ staged_noted version id bytes k
    → BacklogLearnt j version latest reported m → ⊥
no_backlog version id latest reported bytes k j m room e h =
    let last = h.last in
    let next = h.next in
    no_backlog_at k.terms version (length m.seen) reported next (room (omega (arith, last, next)))
    (subst (λ (o : Option Terms). IfSome o (λ t. (length m.seen < t.limits.versions) × (length m.seen ≡ reported + t.limits.unpublished))) (ap (λ (x : Knowledge). x.terms) e) h.limit)

contains_one : (at : Spot) → Contains (at ∷ []) at
contains_one at = (0, omega arith, refl)

put_failed : (at : Spot) (version id : ℕ) (k m : Knowledge) → m ≡ record (fault_noted at k) { put = k.put ++ name.Staged version id ∷ [] } → HasStopped (step.Fault at) k m
put_failed at version id k m e =
    let y : Knowledge = record (fault_noted at k) { put = k.put ++ name.Staged version id ∷ [] } in
    let now : HasStopped (step.Fault at) k y = record {
      cause = record { rose = omega arith; gained = record { rest = at ∷ []; is = refl }; noted = contains_one at };
      mine = refl;
    } in
    subst (λ (x : Knowledge). HasStopped (step.Fault at) k x) (sym e) now

-- the staging was refused
pub stage_stopped : (version id : ℕ) (k : Knowledge) (f : StepFault) (m : Knowledge) → IsFaultPutting (name.Staged version id) k f m → HasStopped f k m
stage_stopped version id k (step.Fault at) m h = put_failed at version id k m h.1
stage_stopped version id k step.Memory m h = record { cause = tt; mine = ap (λ (x : Knowledge). x.mine) h }

-- the ratification was refused for want of memory
pub ratify_stopped : (version id : ℕ) (bytes : List ℕ) (k j : Knowledge) (f : StepFault) (m : Knowledge) → j ≡ staged_noted version id bytes k → IsOnlyMemory j f m → HasStopped f k m
ratify_stopped version id bytes k j (step.Fault at) m e h = absurd h
ratify_stopped version id bytes k j step.Memory m e h = record { cause = tt; mine = ap (λ (x : Knowledge). x.mine) (h ∙ e) }
