-- A write from attempt to attempt: what is known between them, and what each answer says.
use Rattle.std.proofs.Common.{◌≡◌, ◌<◌, ◌≤◌, ◌+◌, ◌⊎◌, inl, inr, ℕ, ℤ, Bool, IsTrue, List, [], ◌∷◌, ◌++◌, length, take, refl, sym, ◌∙◌, ap, subst, arith, length-append, append_assoc}
use Rattle.std.specs.Prelude.{Option, Some, IfSome, IsSomeAnd, Contains, Result, Ok, Err}
use Rattle.std.specs.List.{All}
use Rattle.std.proofs.lemmas.List.Elements.{Contains-push, Contains-push_cases, All-push, All-contains}
use Rattle.std.proofs.lemmas.List.Quantifiers.{all_pairs_push}
use Rattle.log_names.specs.declared.LogName.{LogName}
use Rattle.log_names.specs.declared.LogName.TheVariants as name
use Rattle.commit_catalog.specs.declared.Limits.{Limits}
use Rattle.reconcile.specs.Replay.{Log, time_of_log, meta_of_log, protocol_of_log}
use Rattle.reconcile.specs.Standing.{StandsFor}
use Rattle.table_rules.specs.Broken.{after}
use Rattle.commit_timestamps.specs.Times.{next_time}
use Rattle.conflict_rules.specs.declared.intent.Intent.{Intent}
use Rattle.staged_commit.specs.declared.commit.Composed.{Composed}
use Rattle.staged_commit.specs.declared.fault.ComposeError.{ComposeError}
use Rattle.staged_commit.specs.declared.fault.ComposeError.TheVariants as fault
use Rattle.staged_commit.specs.Composed.{composed_append}
use Rattle.staged_commit.specs.Rules.{broken_but_time, broken_but_time_and_number}
use Rattle.staged_commit.specs.Answers.{IsAppended, IsAppendRefused, HasPassed}
use Rattle.staged_commit.proofs.Appends.{append-time, same-above-number, same-rules-of-table, same-at-next-time, same-meta, same-protocol}
use Rattle.table_model.specs.declared.answers.StepFault.{StepFault}
use Rattle.table_model.specs.declared.answers.StepFault.TheVariants as step
use Rattle.table_model.specs.declared.known.Try.{Try}
use Rattle.table_model.specs.declared.known.Refusal.TheVariants as refusal
use Rattle.table_model.specs.Log.{Commit, commit_at, no_commit, history, IsNextCommit, commit_time}
use Rattle.table_model.specs.Knowledge.{Knowledge, Terms, IsGrown, Triple}
use Rattle.table_model.specs.Conditions.{triple}
use Rattle.table_model.proofs.Growing.{grows_trans, grows_refl}
use Rattle.table_model.specs.declared.answers.Spot.{Spot}
use Rattle.snapshot_load.specs.Causes.{FaultCause}
use Rattle.snapshot_load.specs.Reading.{KeepsBelow}
use Rattle.snapshot_load.proofs.Causing.{failed_later}
use Rattle.snapshot_load.proofs.Keeping.{keeps_one, keeps_both}
use Rattle.std.proofs.Math.Seq.{get_or-append_seam}
use Rattle.writer_txn.specs.declared.attempts.Front.{Front}
use Rattle.writer_txn.specs.declared.attempts.Outcome.{Outcome}
use Rattle.writer_txn.specs.declared.attempts.Outcome.TheVariants as outcome
use Rattle.writer_txn.specs.declared.answers.Written.TheVariants as written
use Rattle.writer_txn.specs.declared.errors.WriteError.{WriteError}
use Rattle.writer_txn.specs.declared.errors.WriteError.TheVariants as failed
use Rattle.writer_txn.specs.Converting.{of_fault}
use Rattle.writer_txn.specs.Refusing.{of_compose}
use Rattle.writer_txn.specs.Fronts.{before, above, IsNewer}
use Rattle.writer_txn.specs.Writing.{WriteStands, IsLaterCommit, IsNewerAt}
use Rattle.writer_txn.specs.Moments.{IsFront, IsFirstFront, first_tried, IsCommitted, NamesLatest, NamesBase, ConflictsNow, IsContended, IsFull, IsTaken, WrittenNow}
use Rattle.writer_txn.specs.Proposing.{HasRoom, IsRatified, HasLost, IsRefusedFull, HasStopped}
use Rattle.writer_txn.specs.Judging.{CaughtNow, LeavesOwn}
use Rattle.writer_txn.specs.Trying.{IsFrontOf, IsUnderway, GoesOn, AttemptNow}
use Rattle.writer_txn.proofs.Lasting.{front_kept, length_kept, clash_longer}
use Rattle.writer_txn.proofs.Judgements.{front_parts, all_before}
use Rattle.writer_txn.proofs.FirstCommits.{is_next, is_timed}

-- ---- the front of the table

-- no metaData came above the base
meta_at_base : (tells : Bool) (intent : Intent) (f : Front) (log : List Commit) → IsFrontOf tells intent f log → IsTrue tells
    → meta_of_log (before (f.latest + 1) log) ≡ meta_of_log (before (f.base + 1) log)
meta_at_base tells intent f log h t =
    let base = h.base in
    let within = h.within in
    ap meta_of_log (front_parts log f.base (f.latest + 1) (omega (arith, base)) (omega (arith, within)))
    ∙ same-meta intent (before (f.base + 1) log) (f.base + 1) (before (f.base + 1) log) (above f.base (f.latest + 1) log) (h.conflicts t)

-- nor did a protocol
protocol_at_base : (tells : Bool) (intent : Intent) (f : Front) (log : List Commit) → IsFrontOf tells intent f log → IsTrue tells
    → protocol_of_log (before (f.latest + 1) log) ≡ protocol_of_log (before (f.base + 1) log)
protocol_at_base tells intent f log h t =
    let base = h.base in
    let within = h.within in
    ap protocol_of_log (front_parts log f.base (f.latest + 1) (omega (arith, base)) (omega (arith, within)))
    ∙ same-protocol intent (before (f.base + 1) log) (f.base + 1) (before (f.base + 1) log) (above f.base (f.latest + 1) log) (h.conflicts t)

-- the rules against the base are those against the last version, but for the time
rules_at_base : (tells : Bool) (intent : Intent) (f : Front) (log : List Commit) (id id' : ℕ) (time time' : ℤ) → IsFrontOf tells intent f log → IsTrue tells
    → broken_but_time_and_number (before (f.base + 1) log) (composed_append intent id' time') ≡ broken_but_time (before (f.latest + 1) log) (composed_append intent id time)
rules_at_base tells intent f log id id' time time' h t =
    same-rules-of-table intent (before (f.base + 1) log) (before (f.latest + 1) log) id' id time' time (sym (protocol_at_base tells intent f log h t))
    (sym (meta_at_base tells intent f log h t))
    ∙ sym (same-above-number intent (before (f.latest + 1) log) id time (h.number t))

base_newer : (tells : Bool) (intent : Intent) (f : Front) (log : List Commit) → IsFrontOf tells intent f log → IsNewerAt tells intent f.base log
base_newer tells intent f log h = record { ratified = (let b = h.base in let w = h.within in omega (arith, b, w)); number = h.number_at_base }

-- the commit is not composed
pub refused_write : (tells : Bool) (intent : Intent) (f : Front) (id : ℕ) (now : ℤ) (limit : ℕ) (log : List Commit) (e : ComposeError) → IsFrontOf tells intent f log
    → HasPassed limit e → ((l : Log) → StandsFor f.state l → IsAppendRefused l intent id now limit e)
    → WriteStands tells intent (Err (of_compose f.base e)) now id log
refused_write tells intent f id now limit log (fault.Broken why) h passed says = record {
  newer = base_newer tells intent f log h;
  rule = λ t id' time'. rules_at_base tells intent f log id id' now time' h t ∙ says (before (f.latest + 1) log) (h.state t) now;
}
refused_write tells intent f id now limit log (fault.TimeEnd end) h passed says =
    let base = h.base in
    let within = h.within in
    record {
      newer = base_newer tells intent f log h;
      end_is = passed;
      version = f.latest + 1;
      from = omega (arith, base);
      within = omega (arith, within);
      time = λ t. (let s = says (before (f.latest + 1) log) (h.state t) in s.last_time);
    }
refused_write tells intent f id now limit log (fault.TooLarge bytes) h passed says =
    let base = h.base in
    let within = h.within in
    record {
      newer = base_newer tells intent f log h;
      version = f.latest + 1;
      from = omega (arith, base);
      within = omega (arith, within);
      text = λ t. (let s = says (before (f.latest + 1) log) (h.state t) in record { time = s.time; next = s.next; bytes_are = s.large.bytes_are });
    }
refused_write tells intent f id now limit log fault.Memory h passed says = tt

above_limit : (terms : Option Terms) (limits : Limits) (tells : Bool) (bytes : ℕ) → terms ≡ Some (record { limits = limits; tells = tells }) → limits.bytes < bytes
    → IfSome terms (λ t. t.limits.bytes < bytes)
above_limit terms limits tells bytes e more = subst (λ (o : Option Terms). IfSome o (λ t. t.limits.bytes < bytes)) (sym e) more

base_now : (base tried : ℕ) (k m : Knowledge) → IsUnderway base tried k m → NamesBase base k m
base_now base tried k m u = record { front_is = u.front_is; began = record { tries = u.tries; first = u.first }; mine = u.mine }

pub refused_write_now : (tells : Bool) (base tried : ℕ) (limits : Limits) (k m : Knowledge) (e : ComposeError) → IsUnderway base tried k m
    → m.terms ≡ Some (record { limits = limits; tells = tells }) → HasPassed limits.bytes e → WrittenNow tells (Err (of_compose base e)) k m
refused_write_now tells base tried limits k m (fault.Broken why) u terms passed = base_now base tried k m u
refused_write_now tells base tried limits k m (fault.TimeEnd end) u terms passed = base_now base tried k m u
refused_write_now tells base tried limits k m (fault.TooLarge bytes) u terms passed =
    record { from = base_now base tried k m u; limit = above_limit m.terms limits tells bytes terms passed }
refused_write_now tells base tried limits k m fault.Memory u terms passed = u.mine

-- ---- the proposal

-- the composed commit is the next one
pub append_next : (tells : Bool) (intent : Intent) (f : Front) (id : ℕ) (now : ℤ) (limit : ℕ) (c : Composed) (log : List Commit) → IsFrontOf tells intent f log
    → f.latest + 1 ≡ length log → ((l : Log) → StandsFor f.state l → IsAppended l intent id now limit c) → IsTrue tells → IsNextCommit log c.bytes.items
append_next tells intent f id now limit c log h newest made t =
    let m = made (before (f.latest + 1) log) (h.state t) in
    is_next log (before (f.latest + 1) log) (composed_append intent id c.time) c.time limit c (sym (all_before log f.latest newest)) m.composed

pub append_timed : (tells : Bool) (intent : Intent) (f : Front) (id : ℕ) (now : ℤ) (limit : ℕ) (c : Composed) (log : List Commit) → IsFrontOf tells intent f log
    → ((l : Log) → StandsFor f.state l → IsAppended l intent id now limit c) → IsTrue tells → c.time ≡ commit_time c.bytes.items
append_timed tells intent f id now limit c log h made t =
    let m = made (before (f.latest + 1) log) (h.state t) in
    is_timed (before (f.latest + 1) log) (composed_append intent id c.time) c.time limit c (append-time intent id c.time) m.composed

pub room_for : (terms : Option Terms) (limits : Limits) (tells : Bool) (version : ℕ) → terms ≡ Some (record { limits = limits; tells = tells }) → limits.versions ≤ limits.unpublished
    → HasRoom version terms
room_for terms limits tells version e roomy = λ later.
    subst (λ (o : Option Terms). IsSomeAnd o (λ t. t.limits.unpublished ≤ version → t.limits.versions ≤ version)) (sym e) (λ less. omega (arith, roomy, less))

-- the version of a commit behind a log
last_commit : (log longer : List Commit) (c : Commit) (version : ℕ) → version ≡ length log → longer ≡ log ++ c ∷ [] → commit_at longer version ≡ c
last_commit log longer c version at e =
    ap (λ (l : List Commit). commit_at l version) e ∙ ap (λ (v : ℕ). commit_at (log ++ c ∷ []) v) at ∙ get_or-append_seam log c [] no_commit

-- the commit is ratified
pub written_stands : (tells : Bool) (intent : Intent) (f : Front) (id : ℕ) (now : ℤ) (limit : ℕ) (c : Composed) (k m : Knowledge) → IsFrontOf tells intent f k.seen
    → f.latest + 1 ≡ length k.seen → IsGrown k m → ((l : Log) → StandsFor f.state l → IsAppended l intent id now limit c)
    → IsRatified tells (f.latest + 1) id c.bytes.items k m
    → IsLaterCommit tells intent (f.latest + 1) f.base c.time now id m.seen
written_stands tells intent f id now limit c k m h newest g made done =
    let version : ℕ = f.latest + 1 in
    let table : Log = before version k.seen in
    let base = h.base in
    let within = h.within in
    let total : length m.seen ≡ length k.seen + 1 = ap length done.seen ∙ length-append k.seen (record { id = id; bytes = done.text } ∷ []) in
    let own : commit_at m.seen version ≡ record { id = id; bytes = done.text } = last_commit k.seen m.seen (record { id = id; bytes = done.text }) version newest done.seen in
    let front : take version m.seen ≡ take version k.seen = front_kept k.seen m.seen version g.seen (omega (arith, newest)) in
    let low : take (f.base + 1) m.seen ≡ take (f.base + 1) k.seen = front_kept k.seen m.seen (f.base + 1) g.seen (omega (arith, base, within)) in
    record {
      ratified = omega (arith, newest, total);
      from = omega (arith, base);
      id = ap (λ (x : Commit). x.id) own;
      text = λ t. ap (λ (x : Commit). x.bytes) own ∙ done.text_is t ∙ (let a = made table (h.state t) in a.composed.text);
      next = λ t. ap (λ (l : List Commit). next_time (time_of_log (history l)) now) front ∙ (let a = made table (h.state t) in a.next);
      number = λ t. (let P : List Commit → Type 0 = λ l. IsNewer intent (history l) in subst P (sym front) (h.number t));
      rules =
          λ t. (let a = made table (h.state t) in
          ap (λ (l : List Commit). broken_but_time_and_number (history l) (composed_append intent id c.time)) low
          ∙ rules_at_base tells intent f k.seen id id c.time c.time h t
          ∙ sym (same-at-next-time (after table) (composed_append intent id c.time) now c.time a.next (append-time intent id c.time)) ∙ a.composed.rules);
      conflicts = λ t. clash_longer intent f.base version k.seen m.seen g.seen (omega (arith, base, within)) (omega (arith, newest)) ∙ h.conflicts t;
    }

front_later : (front : ℕ) (k j m : Knowledge) → IsFront front k j → IsGrown j m → IsFront front k m
front_later front k j m h g = record {
  seen = h.seen;
  told = h.told;
  within = (let w = h.within in let l = length_kept j.seen m.seen g.seen in omega (arith, w, l));
  asked = (let a = h.asked in let b = g.asks in omega (arith, a, b));
}

-- a front that is as long as what is seen
latest_front : (base latest : ℕ) (k m : Knowledge) → IsFront (base + 1) k m → base + 1 ≤ length m.seen → latest + 1 ≡ length m.seen → IsFront (latest + 1) k m
latest_front base latest k m h less e =
    let seen = h.seen in
    let told = h.told in
    record { seen = omega (arith, seen, less, e); told = omega (arith, told, less, e); within = omega (arith, e); asked = h.asked }

-- the latest version is named
pub latest_now : (base tried latest : ℕ) (k j m : Knowledge) → IsUnderway base tried k j → IsGrown j m → m.mine ≡ j.mine → latest + 1 ≡ length m.seen → NamesLatest latest k m
latest_now base tried latest k j m u g mine e =
    let front : IsFront (base + 1) k m = front_later (base + 1) k j m u.front_is g in
    record { front_is = latest_front base latest k m front front.within e; last = e; mine = mine ∙ u.mine }

-- where the tries stay, so does the first of them
began_later : (base tried next : ℕ) (k j m : Knowledge) → IsUnderway base tried k j → m.tries ≡ j.tries → next ≡ length j.seen → IsFirstFront (base + 1) next k m
began_later base tried next k j m u same at = record {
  tries = record { rest = u.tries.rest; is = same ∙ u.tries.is };
  first = ap (λ (n : ℕ). first_tried u.tries.rest n) at ∙ u.first;
}

first_pushed : (tries : List Try) (t : Try) (n : ℕ) → first_tried (tries ++ t ∷ []) n ≡ first_tried tries t.version
first_pushed [] t n = refl
first_pushed (a ∷ tries) t n = refl

pub written_now : (tells : Bool) (base tried version id : ℕ) (bytes : List ℕ) (k j m : Knowledge) → IsUnderway base tried k j → IsGrown j m → version ≡ length j.seen
    → IsRatified tells version id bytes j m → IsCommitted (base + 1) version k m
written_now tells base tried version id bytes k j m u g at done = record {
  front_is = front_later (base + 1) k j m u.front_is g;
  began = began_later base tried version k j m u (ap (λ (x : Knowledge). x.tries) done.same) at;
  last = (let total : length m.seen ≡ length j.seen + 1 = ap length done.seen ∙ length-append j.seen (record { id = id; bytes = done.text } ∷ []) in omega (arith, at, total));
  mine = ap (λ (x : Knowledge). x.mine) done.same ∙ ap (λ (l : List ℕ). l ++ version ∷ []) u.mine;
}

full_limit : (terms later : Option Terms) (latest version : ℕ) → later ≡ terms → version ≡ latest + 1 → IfSome terms (λ t. version ≡ t.limits.versions) → IfSome later (λ t. latest + 1 ≡ t.limits.versions)
full_limit terms later latest version e at h =
    subst (λ (o : Option Terms). IfSome o (λ t. latest + 1 ≡ t.limits.versions)) (sym e) (subst (λ (n : ℕ). IfSome terms (λ t. n ≡ t.limits.versions)) at h)

-- the table is full
pub full_now : (base tried version id latest : ℕ) (bytes : List ℕ) (k j m : Knowledge) → IsUnderway base tried k j → IsGrown j m → version ≡ length j.seen
    → IsRefusedFull version id latest bytes j m → IsFull latest k m
full_now base tried version id latest bytes k j m u g at full =
    let seen : m.seen ≡ j.seen = ap (λ (x : Knowledge). x.seen) full.same in
    let last = full.last in
    record {
      to = latest_now base tried latest k j m u g (ap (λ (x : Knowledge). x.mine) full.same) (last ∙ sym (ap length seen));
      limit = full_limit j.terms m.terms latest version g.terms (at ∙ sym last) full.limit;
    }

-- the name was taken
pub name_taken : (base tried version id : ℕ) (k j m : Knowledge) → IsUnderway base tried k j → IsGrown j m → version ≡ length j.seen
    → m ≡ record j { takens = j.takens ++ name.Staged version id ∷ [] } → IsTaken (Some base) version id k m
name_taken base tried version id k j m u g at e =
    let seen : m.seen ≡ j.seen = ap (λ (x : Knowledge). x.seen) e in
    record {
      from = record {
        front_is = front_later (base + 1) k j m u.front_is g;
        began = began_later base tried (length m.seen) k j m u (ap (λ (x : Knowledge). x.tries) e) (ap length seen);
        mine = ap (λ (x : Knowledge). x.mine) e ∙ u.mine;
      };
      next = at ∙ sym (ap length seen);
      takens = record {
        rest = u.grows.takens.rest ++ name.Staged version id ∷ [];
        is =
            ap (λ (x : Knowledge). x.takens) e ∙ ap (λ (l : List LogName). l ++ name.Staged version id ∷ []) u.grows.takens.is
            ∙ append_assoc k.takens u.grows.takens.rest (name.Staged version id ∷ []);
      };
      noted = Contains-push u.grows.takens.rest (name.Staged version id);
      put = record { rest = u.put.rest; is = ap (λ (x : Knowledge). x.put) e ∙ u.put.is };
      foreign = λ h. (let below = u.put_below version id h in absurd (omega (arith, at, below)));
      kept = record { rest = u.kept.kept.rest; is = ap (λ (x : Knowledge). x.kept) e ∙ u.kept.kept.is };
      unlearnt = λ bytes h.
          (let below : version < length j.seen = All-contains (λ (t : Triple). t.version < length j.seen) u.kept.kept.rest (triple version id bytes) u.kept.below h in
          absurd (omega (arith, at, below)));
    }

-- the proposal was refused
pub attempt_stopped : (tells : Bool) (base tried : ℕ) (k j : Knowledge) (f : StepFault) (m : Knowledge) → IsUnderway base tried k j → HasStopped f j m
    → WrittenNow tells (Err (of_fault f)) k m
attempt_stopped tells base tried k j (step.Fault at) m u h = record { cause = inl (failed_later at k j m u.grows h.cause); mine = h.mine ∙ u.mine }
attempt_stopped tells base tried k j step.Memory m u h = h.mine ∙ u.mine

-- ---- from one attempt to the next

pushed_try : (tries : List Try) (t : Try) (bound later : ℕ) → t.version ≡ bound → bound < later → All (λ x. x.version < bound) tries → All (λ x. x.version < later) (tries ++ t ∷ [])
pushed_try tries t bound later at less below =
    All-push (λ x. x.version < later) tries t (λ k d within. (let h = below k d within in omega (arith, h, less))) (omega (arith, at, less))

abbrev version_of : LogName → ℕ
version_of (name.Published version) = version
version_of (name.Staged version id) = version
version_of (name.Checkpoint version id) = version
version_of (name.Parquet version) = version
version_of name.Other = 0

pushed_name_at : (names : List LogName) (version id v i bound later : ℕ) → version ≡ bound → bound < later
    → ((w n : ℕ) → Contains names (name.Staged w n) → w < bound) → Contains names (name.Staged v i) ⊎ (name.Staged version id ≡ name.Staged v i) → v < later
pushed_name_at names version id v i bound later at less below (inl h) = (let b = below v i h in omega (arith, b, less))
pushed_name_at names version id v i bound later at less below (inr e) = (let same : version ≡ v = ap version_of e in omega (arith, same, at, less))

pushed_name : (names : List LogName) (version id v i bound later : ℕ) → version ≡ bound → bound < later
    → ((w n : ℕ) → Contains names (name.Staged w n) → w < bound) → Contains (names ++ name.Staged version id ∷ []) (name.Staged v i) → v < later
pushed_name names version id v i bound later at less below h =
    pushed_name_at names version id v i bound later at less below (Contains-push_cases names (name.Staged version id) (name.Staged v i) h)

-- the file that was staged, and those that were read since
lost_kept : (version id latest : ℕ) (bytes : List ℕ) (k j p m : Knowledge) → KeepsBelow (length j.seen) k j → version ≡ length j.seen → HasLost version id latest bytes j p
    → KeepsBelow (length m.seen) p m → length j.seen < length m.seen → KeepsBelow (length m.seen) k m
lost_kept version id latest bytes k j p m before at lost since longer =
    let staged : KeepsBelow (length m.seen) j p = keeps_one (length m.seen) version id bytes j p (omega (arith, at, longer)) (ap (λ (x : Knowledge). x.kept) lost.same) in
    keeps_both (length m.seen) (length m.seen) k p m (omega arith) (keeps_both (length j.seen) (length m.seen) k j p (omega (arith, longer)) before staged) since

-- a refused try more
lost_tries : (base tried version id latest : ℕ) (bytes : List ℕ) (k j p m : Knowledge) → IsUnderway base tried k j → IsGrown j m → version ≡ length j.seen
    → HasLost version id latest bytes j p → LeavesOwn p m → length j.seen < length m.seen → IsUnderway base (tried + 1) k m
lost_tries base tried version id latest bytes k j p m u g at lost own longer =
    let t : Try = record { version = version; answer = refusal.Lost } in
    record {
      grows = grows_trans k j m u.grows g;
      front_is = front_later (base + 1) k j m u.front_is g;
      mine = own.mine ∙ ap (λ (x : Knowledge). x.mine) lost.same ∙ u.mine;
      tries = record {
        rest = u.tries.rest ++ t ∷ [];
        is =
            own.tries ∙ ap (λ (x : Knowledge). x.tries) lost.same ∙ ap (λ (l : List Try). l ++ t ∷ []) u.tries.is
            ∙ append_assoc k.tries u.tries.rest (t ∷ []);
      };
      count = length-append u.tries.rest (t ∷ []) ∙ ap (λ (n : ℕ). n + 1) u.count;
      first = first_pushed u.tries.rest t (length m.seen) ∙ ap (λ (n : ℕ). first_tried u.tries.rest n) at ∙ u.first;
      rising = all_pairs_push (λ earlier later. earlier.version < later.version) u.tries.rest t u.rising
          (λ i d within. (let h = u.tries_below i d within in omega (arith, h, at)));
      tries_below = pushed_try u.tries.rest t (length j.seen) (length m.seen) at longer u.tries_below;
      put = record {
        rest = u.put.rest ++ name.Staged version id ∷ [];
        is =
            own.put ∙ ap (λ (x : Knowledge). x.put) lost.same ∙ ap (λ (l : List LogName). l ++ name.Staged version id ∷ []) u.put.is
            ∙ append_assoc k.put u.put.rest (name.Staged version id ∷ []);
      };
      put_below = λ v i h. pushed_name u.put.rest version id v i (length j.seen) (length m.seen) at longer u.put_below h;
      kept = lost_kept version id latest bytes k j p m u.kept at lost own.kept longer;
    }

cause_since : (tells : Bool) (at : Spot) (k p m : Knowledge) → IsGrown k p → FaultCause tells at p m → FaultCause tells at k m
cause_since tells at k p m g (inl h) = inl (failed_later at k p m g h)
cause_since tells at k p m g (inr h) = inr h

-- what the commits that were read make of it
pub caught_attempt : (tells : Bool) (base tried version id latest : ℕ) (bytes : List ℕ) (k j p m : Knowledge) (r : Result Outcome WriteError) → IsUnderway base tried k j
    → IsGrown j p → IsGrown p m → version ≡ length j.seen → HasLost version id latest bytes j p → LeavesOwn p m → CaughtNow tells base r p m
    → AttemptNow tells base tried r k m
caught_attempt tells base tried version id latest bytes k j p m (Ok (outcome.Answered (written.Committed v b time))) u g h at lost own caught = absurd caught
caught_attempt tells base tried version id latest bytes k j p m (Ok (outcome.Answered (written.Already recorded l))) u g h at lost own caught =
    latest_now base tried l k j m u (grows_trans j p m g h) (own.mine ∙ ap (λ (x : Knowledge). x.mine) lost.same) caught
caught_attempt tells base tried version id latest bytes k j p m (Ok (outcome.Lost front)) u g h at lost own caught =
    let longer : length j.seen < length m.seen = (let a = lost.last in let b = lost.later in let c = length_kept p.seen m.seen h.seen in omega (arith, a, b, c, at)) in
    let next : IsUnderway base (tried + 1) k m = lost_tries base tried version id latest bytes k j p m u (grows_trans j p m g h) at lost own longer in
    record {
      base_is = caught.base_is;
      newest = caught.newest;
      underway = next;
    }
caught_attempt tells base tried version id latest bytes k j p m (Err failed.NoTable) u g h at lost own caught = absurd caught
caught_attempt tells base tried version id latest bytes k j p m (Err (failed.Exists l)) u g h at lost own caught = absurd caught
caught_attempt tells base tried version id latest bytes k j p m (Err (failed.Broken b why)) u g h at lost own caught = absurd caught
caught_attempt tells base tried version id latest bytes k j p m (Err (failed.Conflict b winner rule key vector l)) u g h at lost own caught =
    let mine : m.mine ≡ j.mine = own.mine ∙ ap (λ (x : Knowledge). x.mine) lost.same in
    let all : IsGrown j m = grows_trans j p m g h in
    let longer : length j.seen < length m.seen = (let a = lost.last in let b = lost.later in let c = length_kept p.seen m.seen h.seen in omega (arith, a, b, c, at)) in
    let next : IsUnderway base (tried + 1) k m = lost_tries base tried version id latest bytes k j p m u all at lost own longer in
    subst (λ (n : ℕ). ConflictsNow n l k m) (sym caught.base_is)
    (let now : ConflictsNow base l k m = record {
      from = base_now base (tried + 1) k m next;
      to = latest_now base tried l k j m u all mine caught.newest;
    } in now)
caught_attempt tells base tried version id latest bytes k j p m (Err (failed.Contended attempts l)) u g h at lost own caught = absurd caught
caught_attempt tells base tried version id latest bytes k j p m (Err (failed.Full l)) u g h at lost own caught = absurd caught
caught_attempt tells base tried version id latest bytes k j p m (Err (failed.TimeEnd b end)) u g h at lost own caught = absurd caught
caught_attempt tells base tried version id latest bytes k j p m (Err (failed.TooLarge b length)) u g h at lost own caught = absurd caught
caught_attempt tells base tried version id latest bytes k j p m (Err (failed.Taken b v i)) u g h at lost own caught = absurd caught
caught_attempt tells base tried version id latest bytes k j p m (Err (failed.Fault spot)) u g h at lost own caught =
    record { cause = cause_since tells spot k p m (grows_trans k j p u.grows g) caught; mine = own.mine ∙ ap (λ (x : Knowledge). x.mine) lost.same ∙ u.mine }
caught_attempt tells base tried version id latest bytes k j p m (Err failed.Memory) u g h at lost own caught =
    own.mine ∙ ap (λ (x : Knowledge). x.mine) lost.same ∙ u.mine

-- ---- the ends

-- as many tries were refused as the limit says
pub contended_now : (base tried attempts : ℕ) (limits : Limits) (tells : Bool) (f : Front) (k m : Knowledge) → GoesOn base tried f k m
    → m.terms ≡ Some (record { limits = limits; tells = tells }) → tried ≡ limits.attempts → IsContended limits.attempts f.latest k m
contended_now base tried attempts limits tells f k m h terms all = record {
  to = latest_now base tried f.latest k m m h.underway (grows_refl m) refl h.newest;
  limit = subst (λ (o : Option Terms). IfSome o (λ t. limits.attempts ≡ t.limits.attempts)) (sym terms) refl;
  tries = h.underway.tries;
  count = h.underway.count ∙ all;
  rising = h.underway.rising;
}

-- the front of an attempt has the base of the write
pub next_attempt : (base tried : ℕ) (f : Front) (k m : Knowledge) → GoesOn base tried f k m → IsUnderway f.base tried k m
next_attempt base tried f k m h = subst (λ (b : ℕ). IsUnderway b tried k m) (sym h.base_is) h.underway

pub same_base : (base tried : ℕ) (f g : Front) (k m : Knowledge) → f.base ≡ base → GoesOn f.base tried g k m → GoesOn base tried g k m
same_base base tried f g k m e h = subst (λ (b : ℕ). GoesOn b tried g k m) e h

pub first_attempt : (f : Front) (k m : Knowledge) → f.latest + 1 ≡ length m.seen → IsUnderway f.base 0 k m → GoesOn f.base 0 f k m
first_attempt f k m newest u = record { base_is = refl; newest = newest; underway = u }

pub front_number : (tells : Bool) (intent : Intent) (f : Front) (log : List Commit) → IsFrontOf tells intent f log → IsNewerAt tells intent f.latest log
front_number tells intent f log h = record { ratified = h.within; number = h.number }
