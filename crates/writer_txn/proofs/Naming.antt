-- The ids of the names that a write puts or finds taken.
use Rattle.std.proofs.Common.{◌≡◌, ◌⊎◌, inl, inr, ℕ, ℤ, Bool, IsTrue, List, [], ◌∷◌, ◌++◌, refl, sym, ◌∙◌, ap, subst, arith, append_assoc, append-nil, Result, Ok, Err}
use Rattle.std.specs.Prelude.{Contains, IsErrAnd}
use Rattle.std.proofs.lemmas.List.Elements.{Contains-push, Contains-push_cases, Contains-append_left, Contains-append_cases}
use Rattle.lake_io.specs.GivenIds.{GivesNew}
use Rattle.log_names.specs.declared.LogName.{LogName}
use Rattle.log_names.specs.declared.LogName.TheVariants as name
use Rattle.commit_catalog.specs.declared.Ratify.{Ratify}
use Rattle.commit_catalog.specs.declared.Ratify.TheVariants as ratify
use Rattle.staged_commit.specs.declared.fault.ComposeError.{ComposeError}
use Rattle.staged_commit.specs.declared.fault.ComposeError.TheVariants as fault
use Rattle.table_model.specs.declared.answers.Staged.{Staged}
use Rattle.table_model.specs.declared.answers.Staged.TheVariants as staged
use Rattle.table_model.specs.declared.answers.StepFault.{StepFault}
use Rattle.table_model.specs.declared.answers.StepFault.TheVariants as step
use Rattle.table_model.specs.Knowledge.{Knowledge, StartsWith}
use Rattle.table_model.specs.Learning.{IsOnlyMemory, LearnsStage, LearnsRatify}
use Rattle.snapshot_load.specs.declared.errors.LoadError.{LoadError}
use Rattle.snapshot_load.specs.declared.errors.LoadError.TheVariants as load
use Rattle.writer_txn.specs.declared.attempts.Outcome.{Outcome}
use Rattle.writer_txn.specs.declared.errors.WriteError.{WriteError}
use Rattle.writer_txn.specs.declared.errors.WriteError.TheVariants as failed
use Rattle.writer_txn.specs.Converting.{of_fault, of_load}
use Rattle.writer_txn.specs.Refusing.{CreateRefused, of_compose}
use Rattle.staged_commit.specs.declared.create.Create.{Create}
use Rattle.writer_txn.specs.Judging.{CaughtNow}
use Rattle.writer_txn.specs.Proposing.{PutsOnly}
use Rattle.writer_txn.specs.Named.{IsNewId, NamesApart, names_taken, taken_names}

-- ---- lists that grow

none_in : {A : Type 0} (a : A) → Contains [] a → ⊥
none_in a h = (let less = h.1 in absurd (omega (arith, less)))

in_longer : {A : Type 0} (longer front : List A) (a : A) → StartsWith longer front → Contains front a → Contains longer a
in_longer {A} longer front a s h = let P : List A → Type 0 = λ l. Contains l a in subst P (sym s.is) (Contains-append_left front s.rest a h)

abbrev starts_both : {A : Type 0} (a b c : List A) → StartsWith b a → StartsWith c b → StartsWith c a
starts_both {A} a b c g h = record { rest = g.rest ++ h.rest; is = h.is ∙ ap (λ (l : List A). l ++ h.rest) g.is ∙ append_assoc a g.rest h.rest }

abbrev starts_same : {A : Type 0} (a b : List A) → b ≡ a → StartsWith b a
starts_same a b e = record { rest = []; is = e ∙ sym (append-nil a) }

-- ---- ids

earlier_id : (a b c : List ℕ) (id : ℕ) → StartsWith c b → IsNewId a b id → IsNewId a c id
earlier_id a b c id s h = record { fresh = h.fresh; now = in_longer c b id s h.now }

later_id : (a b c : List ℕ) (id : ℕ) → StartsWith b a → IsNewId b c id → IsNewId a c id
later_id a b c id s h = record { fresh = λ old. h.fresh (in_longer b a id s old); now = h.now }

given_id : (differ : Bool) (given : List ℕ) (id : ℕ) (given' : List ℕ) → GivesNew differ given id given' → IsNewId given given' id
given_id differ given id given' h = record {
  fresh = h.fresh;
  now = let P : List ℕ → Type 0 = λ l. Contains l id in subst P (sym h.added) (Contains-push given id);
}

-- ---- names

abbrev id_of : LogName → ℕ
id_of (name.Published version) = 0
id_of (name.Staged version id) = id
id_of (name.Checkpoint version id) = 0
id_of (name.Parquet version) = 0
id_of name.Other = 0

same_id : (version id v i : ℕ) → name.Staged v i ≡ name.Staged version id → id ≡ i
same_id version id v i e = sym (ap id_of e)

alone_in : (n x : LogName) → Contains (n ∷ []) x → x ≡ n
alone_in n x h = elim (Contains-push_cases [] n x h) [ inl none ↦ absurd (none_in x none) | inr e ↦ sym e ]

-- ---- what was put

pub puts_none : (n : LogName) (k m : Knowledge) → m.put ≡ k.put → PutsOnly n k m
puts_none n k m e = record { put = starts_same k.put m.put e; only = λ x h. absurd (none_in x h) }

pub puts_one : (n : LogName) (k m : Knowledge) → m.put ≡ k.put ++ n ∷ [] → PutsOnly n k m
puts_one n k m e = record { put = record { rest = n ∷ []; is = e }; only = λ x h. alone_in n x h }

-- the staging of a name puts that name alone
pub stage_puts : (version id : ℕ) (text : List ℕ) (k : Knowledge) (r : Result Staged StepFault) (m : Knowledge) → LearnsStage version id text k r m → PutsOnly (name.Staged version id) k m
stage_puts version id text k (Ok staged.Done) m h = puts_one (name.Staged version id) k m (ap (λ (x : Knowledge). x.put) h)
stage_puts version id text k (Ok staged.Taken) m h = puts_none (name.Staged version id) k m (ap (λ (x : Knowledge). x.put) h)
stage_puts version id text k (Err (step.Fault at)) m h = puts_one (name.Staged version id) k m (ap (λ (x : Knowledge). x.put) h.1)
stage_puts version id text k (Err step.Memory) m h = puts_none (name.Staged version id) k m (ap (λ (x : Knowledge). x.put) h)

-- a ratification puts none
pub ratify_puts : (tells : Bool) (version id : ℕ) (k : Knowledge) (r : Result Ratify StepFault) (m : Knowledge) → LearnsRatify tells version id k r m → m.put ≡ k.put
ratify_puts tells version id k (Ok ratify.Done) m h = ap (λ (x : Knowledge). x.put) h.same
ratify_puts tells version id k (Ok (ratify.Lost latest)) m h = ap (λ (x : Knowledge). x.put) h.same
ratify_puts tells version id k (Ok (ratify.Full latest)) m h = ap (λ (x : Knowledge). x.put) h.same
ratify_puts tells version id k (Ok (ratify.Backlog latest reported)) m h = ap (λ (x : Knowledge). x.put) h.same
ratify_puts tells version id k (Err (step.Fault at)) m h = absurd h
ratify_puts tells version id k (Err step.Memory) m h = ap (λ (x : Knowledge). x.put) h

pub puts_kept : (n : LogName) (k j m : Knowledge) → PutsOnly n k j → m.put ≡ j.put → PutsOnly n k m
puts_kept n k j m p e = record { put = record { rest = p.put.rest; is = e ∙ p.put.is }; only = p.only }

-- ---- names apart

-- no id was given, and nothing was put
pub apart_none : (differ : Bool) (given : List ℕ) (k m : Knowledge) → m.put ≡ k.put → IsTrue differ → NamesApart differ given given [] k m
apart_none differ given k m e t = record {
  before = t;
  ids = starts_same given given refl;
  put = starts_same k.put m.put e;
  put_new = λ version id h. absurd (none_in (name.Staged version id) h);
  taken_new = λ version id h. absurd (none_in (name.Staged version id) h);
  apart = λ version id h. absurd (none_in (name.Staged version id) h);
}

-- one id was given, and its name may have been put
pub apart_put : (differ : Bool) (given : List ℕ) (version id : ℕ) (given' : List ℕ) (k m : Knowledge) → GivesNew differ given id given' → PutsOnly (name.Staged version id) k m
    → NamesApart differ given given' [] k m
apart_put differ given version id given' k m h p = record {
  before = h.before;
  ids = record { rest = id ∷ []; is = h.added };
  put = p.put;
  put_new = λ v i c. subst (λ (n : ℕ). IsNewId given given' n) (same_id version id v i (p.only (name.Staged v i) c)) (given_id differ given id given' h);
  taken_new = λ v i c. absurd (none_in (name.Staged v i) c);
  apart = λ v i c. absurd (none_in (name.Staged v i) c);
}

-- one id was given, and its name was found taken
pub apart_taken : (differ : Bool) (given : List ℕ) (version id : ℕ) (given' : List ℕ) (k m : Knowledge) → GivesNew differ given id given' → m.put ≡ k.put
    → NamesApart differ given given' (name.Staged version id ∷ []) k m
apart_taken differ given version id given' k m h e = record {
  before = h.before;
  ids = record { rest = id ∷ []; is = h.added };
  put = starts_same k.put m.put e;
  put_new = λ v i c. absurd (none_in (name.Staged v i) c);
  taken_new = λ v i c. subst (λ (n : ℕ). IsNewId given given' n) (same_id version id v i (alone_in (name.Staged version id) (name.Staged v i) c)) (given_id differ given id given' h);
  apart = λ v i c c'. none_in (name.Staged v i) c';
}

-- what was found taken later was not put before, for its id had not been given; and what was put later was not found taken before
apart_cases : (differ differ' : Bool) (a b c : List ℕ) (early late : List LogName) (k j m : Knowledge) (version id : ℕ)
    → (g : NamesApart differ a b early k j) → (h : NamesApart differ' b c late j m)
    → Contains early (name.Staged version id) ⊎ Contains late (name.Staged version id)
    → Contains g.put.rest (name.Staged version id) ⊎ Contains h.put.rest (name.Staged version id) → ⊥
apart_cases differ differ' a b c early late k j m version id g h (inl t) (inl p) = g.apart version id t p
apart_cases differ differ' a b c early late k j m version id g h (inl t) (inr p) = (let old = g.taken_new version id t in let new = h.put_new version id p in new.fresh old.now)
apart_cases differ differ' a b c early late k j m version id g h (inr t) (inl p) = (let old = g.put_new version id p in let new = h.taken_new version id t in new.fresh old.now)
apart_cases differ differ' a b c early late k j m version id g h (inr t) (inr p) = h.apart version id t p

new_of : (a b c : List ℕ) (id : ℕ) → StartsWith b a → StartsWith c b → IsNewId a b id ⊎ IsNewId b c id → IsNewId a c id
new_of a b c id g h (inl e) = earlier_id a b c id h e
new_of a b c id g h (inr l) = later_id a b c id g l

pub apart_both : (differ differ' : Bool) (a b c : List ℕ) (early late : List LogName) (k j m : Knowledge) → NamesApart differ a b early k j → NamesApart differ' b c late j m
    → NamesApart differ a c (early ++ late) k m
apart_both differ differ' a b c early late k j m g h = record {
  before = g.before;
  ids = starts_both a b c g.ids h.ids;
  put = starts_both k.put j.put m.put g.put h.put;
  put_new = λ version id p.
      (let cases : IsNewId a b id ⊎ IsNewId b c id =
      elim (Contains-append_cases g.put.rest h.put.rest (name.Staged version id) p) [ inl e ↦ inl (g.put_new version id e) | inr l ↦ inr (h.put_new version id l) ] in
      new_of a b c id g.ids h.ids cases);
  taken_new = λ version id t.
      (let cases : IsNewId a b id ⊎ IsNewId b c id =
      elim (Contains-append_cases early late (name.Staged version id) t) [ inl e ↦ inl (g.taken_new version id e) | inr l ↦ inr (h.taken_new version id l) ] in
      new_of a b c id g.ids h.ids cases);
  apart = λ version id t p.
      apart_cases differ differ' a b c early late k j m version id g h (Contains-append_cases early late (name.Staged version id) t)
      (Contains-append_cases g.put.rest h.put.rest (name.Staged version id) p);
}

-- more was put before by nobody
pub apart_since : (differ : Bool) (given given' : List ℕ) (takens : List LogName) (k j m : Knowledge) → j.put ≡ k.put → NamesApart differ given given' takens j m
    → NamesApart differ given given' takens k m
apart_since differ given given' takens k j m e h = record {
  before = h.before;
  ids = h.ids;
  put = record { rest = h.put.rest; is = h.put.is ∙ ap (λ (l : List LogName). l ++ h.put.rest) e };
  put_new = h.put_new;
  taken_new = h.taken_new;
  apart = h.apart;
}

pub apart_at : (differ : Bool) (given given' : List ℕ) (takens named : List LogName) (k m : Knowledge) → takens ≡ named → NamesApart differ given given' takens k m
    → NamesApart differ given given' named k m
apart_at differ given given' takens named k m e h = subst (λ (l : List LogName). NamesApart differ given given' l k m) e h

-- a turn that is refused for want of memory alone puts nothing
pub refused_puts : (k : Knowledge) (f : StepFault) (m : Knowledge) → IsOnlyMemory k f m → m.put ≡ k.put
refused_puts k (step.Fault at) m h = absurd h
refused_puts k step.Memory m h = ap (λ (x : Knowledge). x.put) h

-- the answer of a `?` tells the name that its error tells
pub apart_err : {A : Type 0} (differ : Bool) (given given' : List ℕ) (r : Result A WriteError) (e : WriteError) (k m : Knowledge) → IsErrAnd r (λ x. x ≡ e)
    → NamesApart differ given given' (names_taken e) k m → NamesApart differ given given' (taken_names r) k m
apart_err differ given given' (Ok a) e k m h n = absurd h
apart_err differ given given' (Err x) e k m h n = subst (λ (y : WriteError). NamesApart differ given given' (names_taken y) k m) (sym h) n

-- ---- answers that name nothing that was found taken

pub names_of_fault : (f : StepFault) → [] ≡ names_taken (of_fault f)
names_of_fault (step.Fault at) = refl
names_of_fault step.Memory = refl

pub names_of_load : (e : LoadError) → [] ≡ names_taken (of_load e)
names_of_load load.NoTable = refl
names_of_load (load.AfterLatest version latest) = refl
names_of_load (load.BeforeFirst first latest) = refl
names_of_load (load.Fault at) = refl
names_of_load load.Memory = refl

pub names_of_compose : (base : ℕ) (e : ComposeError) → [] ≡ names_taken (of_compose base e)
names_of_compose base (fault.Broken why) = refl
names_of_compose base (fault.TimeEnd last) = refl
names_of_compose base (fault.TooLarge bytes) = refl
names_of_compose base fault.Memory = refl

pub names_of_caught : (tells : Bool) (base : ℕ) (r : Result Outcome WriteError) (k m : Knowledge) → CaughtNow tells base r k m → [] ≡ taken_names r
names_of_caught tells base (Ok answer) k m h = refl
names_of_caught tells base (Err failed.NoTable) k m h = refl
names_of_caught tells base (Err (failed.Exists l)) k m h = refl
names_of_caught tells base (Err (failed.Broken b why)) k m h = refl
names_of_caught tells base (Err (failed.Conflict b winner rule key vector l)) k m h = refl
names_of_caught tells base (Err (failed.Contended attempts l)) k m h = refl
names_of_caught tells base (Err (failed.Full l)) k m h = refl
names_of_caught tells base (Err (failed.TimeEnd b end)) k m h = refl
names_of_caught tells base (Err (failed.TooLarge b bytes)) k m h = refl
names_of_caught tells base (Err (failed.Taken b version id)) k m h = absurd h
names_of_caught tells base (Err (failed.Fault at)) k m h = refl
names_of_caught tells base (Err failed.Memory) k m h = refl

pub names_of_create : (create : Create) (id : ℕ) (now : ℤ) (limit : ℕ) (e : WriteError) → CreateRefused create id now limit e → [] ≡ names_taken e
names_of_create create id now limit failed.NoTable h = absurd h
names_of_create create id now limit (failed.Exists latest) h = absurd h
names_of_create create id now limit (failed.Broken base why) h = refl
names_of_create create id now limit (failed.Conflict base winner rule key vector latest) h = absurd h
names_of_create create id now limit (failed.Contended attempts latest) h = absurd h
names_of_create create id now limit (failed.Full latest) h = absurd h
names_of_create create id now limit (failed.TimeEnd base end) h = absurd h
names_of_create create id now limit (failed.TooLarge base bytes) h = refl
names_of_create create id now limit (failed.Taken base version taken) h = absurd h
names_of_create create id now limit (failed.Fault at) h = absurd h
names_of_create create id now limit failed.Memory h = refl
