-- The making of a table: what is known after its catalogue turn, and after its commit was proposed.
use Rattle.std.proofs.Common.{◌≡◌, ◌<◌, ◌≤◌, ◌+◌, ◌-◌, inl, ℕ, ℤ, pos, Bool, List, [], ◌∷◌, ◌++◌, length, refl, sym, ◌∙◌, ap, subst, arith, length-append, append-nil}
use Rattle.std.specs.Prelude.{IfSome, Option, Some, None, Result, Ok, Err, MatchResult, unwrap_or}
use Rattle.std.proofs.lemmas.List.{nil_from_length}
use Rattle.log_names.specs.declared.LogName.TheVariants as name
use Rattle.commit_catalog.specs.declared.Commits.{Commits}
use Rattle.commit_catalog.specs.declared.Limits.{Limits}
use Rattle.action_types.specs.declared.actions.Action.{Action}
use Rattle.action_json.specs.Commit.{canonical_text, outcome, Flaw}
use Rattle.action_json.specs.Text.{IsCommitText, IsFirstFlaw, actions_of}
use Rattle.action_json.proofs.Sound.{told_outcome}
use Rattle.reconcile.specs.Replay.{Log, last_said, time_said, time_of_log}
use Rattle.table_rules.specs.Broken.{first_broken}
use Rattle.staged_commit.specs.declared.create.Create.{Create}
use Rattle.staged_commit.specs.declared.commit.Composed.{Composed}
use Rattle.staged_commit.specs.Composed.{composed_create}
use Rattle.staged_commit.specs.Answers.{IsComposed}
use Rattle.table_model.specs.declared.answers.StepFault.{StepFault}
use Rattle.table_model.specs.declared.answers.StepFault.TheVariants as step
use Rattle.table_model.specs.Log.{Commit, commit_at, commit_time, history, IsNextCommit}
use Rattle.table_model.specs.Knowledge.{Knowledge, Terms, IsGrown}
use Rattle.table_model.specs.Learning.{CommitsLearnt}
use Rattle.snapshot_load.proofs.Causing.{failed_later}
use Rattle.writer_txn.specs.declared.errors.WriteError.{WriteError}
use Rattle.writer_txn.specs.declared.errors.WriteError.TheVariants as failed
use Rattle.writer_txn.specs.Converting.{of_fault}
use Rattle.writer_txn.specs.Creating.{CreateStands, IsFirstCommit}
use Rattle.writer_txn.specs.Refusing.{CreateRefused}
use Rattle.writer_txn.specs.Moments.{IsFront, IsCommitted, NamesLatest, FindsNone, StopsAt, IsTaken, WrittenNow}
use Rattle.writer_txn.specs.Proposing.{IsRatified, HasLost, IsRefusedFull, HasStopped}

-- what was told and seen is within the log of the catalogue turn
asked_front : (tells : Bool) (c : Commits) (k m : Knowledge) → CommitsLearnt tells k c m → IsFront (length m.seen) k m
asked_front tells c k m h =
    let starts = h.sees.front in
    let e = ap length starts.is in
    let f = length-append k.seen starts.rest in
    record {
      seen = omega (arith, e, f);
      told = h.sees.told;
      within = omega arith;
      asked = (let g = ap (λ (x : Knowledge). x.asks) h.same in omega (arith, g));
    }

front_at : (n p : ℕ) (k m : Knowledge) → n ≡ p → IsFront n k m → IsFront p k m
front_at n p k m e h = subst (λ (x : ℕ). IsFront x k m) e h

-- a catalogue turn that finds no commit
pub found_none : (tells : Bool) (c : Commits) (k m : Knowledge) → CommitsLearnt tells k c m → c.count ≡ 0 → FindsNone k m
found_none tells c k m h none =
    let empty : length m.seen ≡ 0 = sym h.count ∙ none in
    record {
      front_is = front_at (length m.seen) 0 k m empty (asked_front tells c k m h);
      none = nil_from_length m.seen empty;
      mine = ap (λ (x : Knowledge). x.mine) h.same;
      tries = ap (λ (x : Knowledge). x.tries) h.same;
    }

-- a catalogue turn that finds commits
pub found_some : (tells : Bool) (c : Commits) (k m : Knowledge) → CommitsLearnt tells k c m → 0 < c.count → NamesLatest (c.count - 1) k m
found_some tells c k m h some =
    let last : c.count - 1 + 1 ≡ length m.seen = (let e = h.count in omega (arith, e, some)) in
    record {
      front_is = front_at (length m.seen) (c.count - 1 + 1) k m (sym last) (asked_front tells c k m h);
      last = last;
      mine = ap (λ (x : Knowledge). x.mine) h.same;
    }

-- the front 0 stays one
none_later : (k j m : Knowledge) → FindsNone k j → j.asks ≤ m.asks → IsFront 0 k m
none_later k j m h more = record {
  seen = h.front_is.seen;
  told = h.front_is.told;
  within = omega arith;
  asked = (let a = h.front_is.asked in omega (arith, a, more));
}

-- the composed commit is refused
pub refused_stands : (tells : Bool) (create : Create) (id : ℕ) (now : ℤ) (limit : ℕ) (log : List Commit) (e : WriteError) → CreateRefused create id now limit e
    → CreateStands tells create (Err e) now id log
refused_stands tells create id now limit log failed.NoTable h = h
refused_stands tells create id now limit log (failed.Exists latest) h = absurd h
refused_stands tells create id now limit log (failed.Broken base why) h = h
refused_stands tells create id now limit log (failed.Conflict base winner rule key vector latest) h = h
refused_stands tells create id now limit log (failed.Contended attempts latest) h = h
refused_stands tells create id now limit log (failed.Full latest) h = h
refused_stands tells create id now limit log (failed.TimeEnd base end) h = h
refused_stands tells create id now limit log (failed.TooLarge base bytes) h = h.long
refused_stands tells create id now limit log (failed.Taken base version last) h = absurd h
refused_stands tells create id now limit log (failed.Fault at) h = tt
refused_stands tells create id now limit log failed.Memory h = tt

stops_at : (base : Option ℕ) (k m : Knowledge) → base ≡ None → FindsNone k m → StopsAt base k m
stops_at base k m e h = subst (λ (b : Option ℕ). StopsAt b k m) (sym e) h

over_limit : (terms : Option Terms) (limits : Limits) (tells : Bool) (bytes : ℕ) → terms ≡ Some (record { limits = limits; tells = tells }) → limits.bytes < bytes
    → IfSome terms (λ t. t.limits.bytes < bytes)
over_limit terms limits tells bytes e above = subst (λ (o : Option Terms). IfSome o (λ t. t.limits.bytes < bytes)) (sym e) above

pub refused_now : (tells : Bool) (create : Create) (id : ℕ) (now : ℤ) (limits : Limits) (k m : Knowledge) (e : WriteError) → FindsNone k m
    → m.terms ≡ Some (record { limits = limits; tells = tells }) → CreateRefused create id now limits.bytes e → WrittenNow tells (Err e) k m
refused_now tells create id now limits k m failed.NoTable none terms h = none
refused_now tells create id now limits k m (failed.Exists latest) none terms h = absurd h
refused_now tells create id now limits k m (failed.Broken base why) none terms h = stops_at base k m h.base_is none
refused_now tells create id now limits k m (failed.Conflict base winner rule key vector latest) none terms h = absurd h
refused_now tells create id now limits k m (failed.Contended attempts latest) none terms h = absurd h
refused_now tells create id now limits k m (failed.Full latest) none terms h = absurd h
refused_now tells create id now limits k m (failed.TimeEnd base end) none terms h = absurd h
refused_now tells create id now limits k m (failed.TooLarge base bytes) none terms h = record {
  from = stops_at base k m h.long.base_is none;
  limit = over_limit m.terms limits tells bytes terms h.above;
}
refused_now tells create id now limits k m (failed.Taken base version last) none terms h = absurd h
refused_now tells create id now limits k m (failed.Fault at) none terms h = absurd h
refused_now tells create id now limits k m failed.Memory none terms h = none.mine

-- the commit was ratified
pub committed_stands : (tells : Bool) (create : Create) (id : ℕ) (now : ℤ) (limit : ℕ) (c : Composed) (j m : Knowledge) → j.seen ≡ []
    → IsComposed [] (composed_create create id now) now limit c → IsRatified tells 0 id c.bytes.items j m
    → IsFirstCommit tells create 0 None c.time now id m.seen
committed_stands tells create id now limit c j m none made h =
    let first : m.seen ≡ record { id = id; bytes = h.text } ∷ [] = h.seen ∙ ap (λ (l : List Commit). l ++ record { id = id; bytes = h.text } ∷ []) none in
    record {
      version_is = refl;
      base_is = refl;
      time_is = made.time_is;
      ratified = (let e = ap length first in omega (arith, e));
      id = ap (λ (l : List Commit). (commit_at l 0).id) first;
      text =
          λ t. ap (λ (l : List Commit). (commit_at l 0).bytes) first ∙ h.text_is t ∙ made.text
          ∙ ap (λ (time : ℤ). canonical_text (composed_create create id time)) (sym made.time_is);
    }

pub committed_now : (tells : Bool) (id : ℕ) (bytes : List ℕ) (k j m : Knowledge) → FindsNone k j → IsRatified tells 0 id bytes j m → IsCommitted 0 0 k m
committed_now tells id bytes k j m none h =
    let first : m.seen ≡ record { id = id; bytes = h.text } ∷ [] = h.seen ∙ ap (λ (l : List Commit). l ++ record { id = id; bytes = h.text } ∷ []) none.none in
    let asks : m.asks ≡ j.asks = ap (λ (x : Knowledge). x.asks) h.same in
    record {
      front_is = none_later k j m none (omega (arith, asks));
      began = record {
        tries = record { rest = []; is = ap (λ (x : Knowledge). x.tries) h.same ∙ none.tries ∙ sym (append-nil k.tries) };
        first = refl;
      };
      last = (let e = ap length first in omega (arith, e));
      mine = ap (λ (x : Knowledge). x.mine) h.same ∙ ap (λ (l : List ℕ). l ++ 0 ∷ []) none.mine;
    }

-- another first commit was ratified
pub lost_now : (id latest : ℕ) (bytes : List ℕ) (k j m : Knowledge) → FindsNone k j → HasLost 0 id latest bytes j m → NamesLatest latest k m
lost_now id latest bytes k j m none h =
    let asks : m.asks ≡ j.asks = ap (λ (x : Knowledge). x.asks) h.same in
    let last = h.last in
    let seen = none.front_is.seen in
    let told = none.front_is.told in
    let asked = none.front_is.asked in
    record {
      front_is = record { seen = omega (arith, seen); told = omega (arith, told); within = omega (arith, last); asked = omega (arith, asks, asked) };
      last = last;
      mine = ap (λ (x : Knowledge). x.mine) h.same ∙ none.mine;
    }

-- of a table without commits no version is the last one
pub not_full : (id latest : ℕ) (bytes : List ℕ) (j m : Knowledge) → j.seen ≡ [] → IsRefusedFull 0 id latest bytes j m → ⊥
not_full id latest bytes j m none h = (let e = ap length none in let last = h.last in omega (arith, e, last))

none_kept : (k j m : Knowledge) → FindsNone k j → m.seen ≡ j.seen → m.mine ≡ j.mine → m.tries ≡ j.tries → m.asks ≡ j.asks → FindsNone k m
none_kept k j m h seen mine tries asks = record {
  front_is = none_later k j m h (omega (arith, asks));
  none = seen ∙ h.none;
  mine = mine ∙ h.mine;
  tries = tries ∙ h.tries;
}

-- the name was taken
pub taken_now : (tells : Bool) (c : Commits) (id : ℕ) (k j m : Knowledge) → CommitsLearnt tells k c j → FindsNone k j
    → m ≡ record j { takens = j.takens ++ name.Staged 0 id ∷ [] } → IsTaken None 0 id k m
taken_now tells c id k j m asked none e =
    let stays : FindsNone k m =
    none_kept k j m none (ap (λ (x : Knowledge). x.seen) e) (ap (λ (x : Knowledge). x.mine) e) (ap (λ (x : Knowledge). x.tries) e) (ap (λ (x : Knowledge). x.asks) e) in
    record {
      from = stays;
      next = sym (ap length stays.none);
      takens = record {
        rest = name.Staged 0 id ∷ [];
        is =
            ap (λ (x : Knowledge). x.takens) e
            ∙ ap (λ (x : Knowledge). x.takens ++ name.Staged 0 id ∷ []) asked.same;
      };
      noted = (0, omega arith, refl);
      put = record {
        rest = [];
        is = ap (λ (x : Knowledge). x.put) e ∙ ap (λ (x : Knowledge). x.put) asked.same ∙ sym (append-nil k.put);
      };
      foreign = λ h. (let less = h.1 in absurd (omega (arith, less)));
      kept = record {
        rest = [];
        is = ap (λ (x : Knowledge). x.kept) e ∙ ap (λ (x : Knowledge). x.kept) asked.same ∙ sym (append-nil k.kept);
      };
      unlearnt = λ bytes h. (let less = h.1 in absurd (omega (arith, less)));
    }

-- the proposal was refused
pub stopped_now : (tells : Bool) (k j : Knowledge) (f : StepFault) (m : Knowledge) → IsGrown k j → j.mine ≡ k.mine → HasStopped f j m → WrittenNow tells (Err (of_fault f)) k m
stopped_now tells k j (step.Fault at) m g mine h = record { cause = inl (failed_later at k j m g h.cause); mine = h.mine ∙ mine }
stopped_now tells k j step.Memory m g mine h = h.mine ∙ mine

-- ---- what is asked of a first commit

read_back : (bytes : List ℕ) (actions : List Action) → outcome bytes ≡ Ok actions → IsCommitText bytes actions
read_back bytes actions e =
    subst (λ (r : Result (List Action) Flaw). MatchResult r (IsCommitText bytes) (λ f. IsFirstFlaw bytes f.0 f.1)) e (told_outcome bytes)

-- the composed commit is the next one of this log
pub is_next : (log : List Commit) (table : Log) (actions : List Action) (time : ℤ) (limit : ℕ) (c : Composed) → history log ≡ table → IsComposed table actions time limit c
    → IsNextCommit log c.bytes.items
is_next log table actions time limit c same made =
    let text : IsCommitText c.bytes.items actions = read_back c.bytes.items actions made.reads_back in
    let all : actions ≡ actions_of c.bytes.items = text.all in
    record {
      text = subst (λ (said : List Action). IsCommitText c.bytes.items said) all text;
      rules =
          ap (λ (said : List Action). first_broken (history log) said) (sym all)
          ∙ ap (λ (l : Log). first_broken l actions) same ∙ made.rules;
    }

-- and its time is that of its commitInfo
pub is_timed : (table : Log) (actions : List Action) (time : ℤ) (limit : ℕ) (c : Composed) → last_said time_said actions ≡ Some time → IsComposed table actions time limit c
    → c.time ≡ commit_time c.bytes.items
unfolding commit_time time_of_log
is_timed table actions time limit c says made =
    let text : IsCommitText c.bytes.items actions = read_back c.bytes.items actions made.reads_back in
    made.time_is ∙ ap (λ (o : Option ℤ). unwrap_or o (pos 0)) (sym says ∙ ap (last_said time_said) text.all)
