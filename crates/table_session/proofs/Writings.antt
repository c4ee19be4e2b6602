-- The replies to a create and to a write are right.
use Rattle.std.proofs.Common.{◌≡◌, ◌≤◌, ◌<◌, ◌+◌, ℕ, ℤ, Bool, true, List, [], ◌∷◌, ◌++◌, length, refl, sym, ◌∙◌, ap, subst, length-append, append-nil, arith, inl, inr, Option, Some, None, Result, Ok, Err}
use Rattle.std.specs.Prelude.{Contains, IfSome, IsSomeAnd}
use Rattle.std.proofs.lemmas.List.Elements.{All-nil, All-cons, Contains-append_right}
use Rattle.text_lines.specs.Lines.{Numbered}
use Rattle.conflict_rules.specs.declared.intent.Intent.{Intent}
use Rattle.staged_commit.specs.declared.create.Create.{Create}
use Rattle.table_model.specs.Log.{Commit}
use Rattle.table_model.specs.Knowledge.{Knowledge, Terms, IsGrown}
use Rattle.log_names.specs.declared.LogName.{LogName}
use Rattle.log_names.specs.declared.LogName.TheVariants as name
use Rattle.writer_txn.specs.declared.answers.Written.{Written}
use Rattle.writer_txn.specs.declared.answers.Written.TheVariants as written
use Rattle.writer_txn.specs.declared.errors.WriteError.{WriteError}
use Rattle.writer_txn.specs.declared.errors.WriteError.TheVariants as failed
use Rattle.writer_txn.specs.Creating.{CreateStands}
use Rattle.writer_txn.specs.Writing.{WriteStands}
use Rattle.writer_txn.specs.Moments as now
use Rattle.writer_txn.specs.Counting.{CountsFaults}
use Rattle.writer_txn.specs.Moments.{WrittenNow, StopsAt, NamesLatest, ConflictsNow, IsContended, IsTaken}
use Rattle.session_lines.specs.declared.request.Request.TheVariants as request
use Rattle.answer_names.specs.Names.{Names, all_versions, after_base, on_base}
use Rattle.answer_names.specs.Gaining.{known_length, one_for, IsFront, IsStagedName, Gains}
use Rattle.answer_names.proofs.Chains.{length_longer}
use Rattle.answer_names.proofs.Gained.{IsFrontOf, gains_lost, gains_quiet, gains_nothing, one_of_none, times_longer, times_gained}
use Rattle.table_session.specs.Moments.{moment}
use Rattle.table_session.specs.Asking.{asked_by}
use Rattle.table_session.specs.Naming.{named_by}
use Rattle.table_session.specs.Replying.{written_reply}
use Rattle.table_session.specs.Running.{IsRight}
use Rattle.table_session.proofs.Gained.{fault_gains}
use Rattle.table_session.proofs.Rights.{right_for}

-- ---- what a reply owes to its moment

-- the latest version, and the base that it names besides
latest_front : (a : Names) (latest : ℕ) (k m : Knowledge) → a.front ≡ Some (latest + 1) → a.versions ≡ [] → IfSome a.base (λ b. known_length k ≤ b + 1) → NamesLatest latest k m → IsFrontOf a k m
latest_front a latest k m front versions base n = record {
  front = let P : Option ℕ → Type 0 = λ o. IfSome o (λ n. IsFront a n k m) in
      subst P (sym front) (record { from = omega (arith, n.front_is.seen, n.front_is.told, ap length versions); to = n.front_is.within });
  newest = λ _. let P : Option ℕ → Type 0 = λ o. IfSome o (λ n. n ≡ length m.seen) in subst P (sym front) n.last;
  base = base;
  asked = let P : Option ℕ → Type 0 = λ o. k.asks + one_for o ≤ m.asks in subst P (sym front) (omega (arith, n.front_is.asked));
  mine = n.mine ∙ sym (append-nil k.mine) ∙ ap (λ vs. k.mine ++ vs) (sym versions);
  one = one_of_none a versions;
}

latest_gains : (tells : Bool) (latest : ℕ) (k m : Knowledge) → IsGrown k m → NamesLatest latest k m → m.faults ≡ k.faults → Gains tells (all_versions (latest + 1)) k m
latest_gains tells latest k m g n counts =
    let a : Names = all_versions (latest + 1) in
    gains_quiet tells a k m g (latest_front a latest k m refl refl tt n) counts refl refl refl refl

base_mine : (base : Option ℕ) (k m : Knowledge) → StopsAt base k m → m.mine ≡ k.mine
base_mine None k m s = s.mine
base_mine (Some b) k m s = s.mine

base_front : (base : Option ℕ) (k m : Knowledge) → StopsAt base k m → now.IsFront (after_base base) k m
base_front None k m s = s.front_is
base_front (Some b) k m s = s.front_is

base_from : (base : Option ℕ) (k m : Knowledge) → now.IsFront (after_base base) k m → IfSome base (λ b. known_length k ≤ b + 1)
base_from None k m f = tt
base_from (Some b) k m f = omega (arith, f.seen, f.told)

base_fronts : (base : Option ℕ) (takens : List LogName) (k m : Knowledge) → StopsAt base k m → IsFrontOf (record (on_base base) { takens = takens }) k m
base_fronts base takens k m s =
    let f = base_front base k m s in
    record {
      front = record { from = omega (arith, f.seen, f.told); to = f.within };
      newest = λ is. cc;
      base = base_from base k m f;
      asked = omega (arith, f.asked);
      mine = base_mine base k m s ∙ sym (append-nil k.mine);
      one = one_of_none (record (on_base base) { takens = takens }) refl;
    }

base_gains : (tells : Bool) (base : Option ℕ) (k m : Knowledge) → IsGrown k m → StopsAt base k m → m.faults ≡ k.faults → Gains tells (on_base base) k m
base_gains tells base k m g s counts = gains_quiet tells (on_base base) k m g (base_fronts base [] k m s) counts refl refl refl refl

committed_gains : (tells : Bool) (base : Option ℕ) (version : ℕ) (k m : Knowledge) → IsGrown k m → after_base base ≤ version → now.IsCommitted (now.front_above base) version k m → m.faults ≡ k.faults
    → Gains tells (record (all_versions (version + 1)) { base = base; versions = version ∷ [] }) k m
committed_gains tells base version k m g a w counts = gains_quiet tells (record (all_versions (version + 1)) { base = base; versions = version ∷ [] }) k m g (record {
  front = record { from = omega (arith, w.front_is.seen, w.front_is.told, a); to = omega (arith, w.last) };
  newest = λ _. w.last;
  base = base_from base k m w.front_is;
  asked = omega (arith, w.front_is.asked);
  mine = w.mine;
  one = record {
    few = omega arith;
    last = All-cons (λ v. Some (version + 1) ≡ Some (v + 1)) version [] refl (All-nil (λ (v : ℕ). Some (version + 1) ≡ Some (v + 1)));
  };
}) counts refl refl refl refl

none_gains : (tells : Bool) (k m : Knowledge) → IsGrown k m → now.FindsNone k m → m.faults ≡ k.faults → Gains tells (all_versions 0) k m
none_gains tells k m g w counts = gains_quiet tells (all_versions 0) k m g (record {
  front = record { from = omega (arith, w.front_is.seen, w.front_is.told); to = omega arith };
  newest = λ _. sym (ap length w.none);
  base = tt;
  asked = omega (arith, w.front_is.asked);
  mine = w.mine ∙ sym (append-nil k.mine);
  one = one_of_none (all_versions 0) refl;
}) counts refl refl refl refl

conflict_gains : (tells : Bool) (base latest : ℕ) (k m : Knowledge) → IsGrown k m → base < latest → ConflictsNow base latest k m → m.faults ≡ k.faults
    → Gains tells (record (all_versions (latest + 1)) { base = Some base; contested = true }) k m
conflict_gains tells base latest k m g later w counts =
    let a : Names = record (all_versions (latest + 1)) { base = Some base; contested = true } in
    gains_lost tells a k m g (latest_front a latest k m refl refl (omega (arith, w.from.front_is.seen, w.from.front_is.told)) w.to) counts refl refl
    (omega (arith, length_longer k.tries m.tries g.tries))
    (λ contested allowed. inr (omega (arith, w.from.front_is.seen, later, w.to.last)))

-- as many tries as the limit of attempts
some_tries : (o : Option Terms) (tried : ℕ) → IfSome o (λ t. tried ≡ t.limits.attempts) → IsSomeAnd o (λ t. 1 ≤ t.limits.attempts) → 0 < tried
some_tries None tried limit allowed = absurd allowed
some_tries (Some t) tried limit allowed = omega (arith, limit, allowed)

contended_gains : (tells : Bool) (attempts latest : ℕ) (k m : Knowledge) → IsGrown k m → IsContended attempts latest k m → m.faults ≡ k.faults
    → Gains tells (record (all_versions (latest + 1)) { contested = true; tries = attempts }) k m
contended_gains tells attempts latest k m g w counts =
    let a : Names = record (all_versions (latest + 1)) { contested = true; tries = attempts } in
    gains_lost tells a k m g (latest_front a latest k m refl refl tt w.to) counts refl refl
    (omega (arith, ap length w.tries.is, length-append k.tries w.tries.rest, w.count))
    (λ contested allowed. inl (some_tries m.terms attempts w.limit allowed))

taken_gains : (tells : Bool) (base : Option ℕ) (version id : ℕ) (k m : Knowledge) → IsGrown k m → IsTaken base version id k m → m.faults ≡ k.faults
    → Gains tells (record (on_base base) { takens = name.Staged version id ∷ [] }) k m
taken_gains tells base version id k m g w counts =
    let n = name.Staged version id in
    let f = base_fronts base (n ∷ []) k m w.from in
    let P : List LogName → Type 0 = λ ns. Contains ns n in
    let found : Contains m.takens n = subst P (sym w.takens.is) (Contains-append_right k.takens w.takens.rest n w.noted) in
    record {
      front = f.front;
      newest = f.newest;
      base = f.base;
      asked = f.asked;
      mine = f.mine;
      one = f.one;
      others = λ contested. cc;
      faults = λ t. omega (arith, g.faults);
      no_other = omega (arith, counts);
      failed = λ t test. omega (arith, times_longer test k.failed m.failed g.failed);
      takens = λ test. times_gained test n k.takens m.takens w.takens w.noted;
      noted = All-cons (Contains m.takens) n [] found (All-nil (Contains m.takens));
      staged = All-cons IsStagedName n [] (record { version = version; id = id; is = refl }) (All-nil IsStagedName);
      tries = omega (arith, length_longer k.tries m.tries g.tries);
    }

-- a new version is not below the front of its base; a conflict has versions above its base
abbrev IsAbove : Result Written WriteError → Type 0
IsAbove (Ok (written.Committed version base time)) = after_base base ≤ version
IsAbove (Ok (written.Already recorded latest)) = Unit {0}
IsAbove (Err (failed.Conflict base winner rule key vector latest)) = base < latest
IsAbove (Err e) = Unit {0}

pub written_gains : (tells : Bool) (answer : Result Written WriteError) (k m : Knowledge) → IsGrown k m → IsAbove answer → WrittenNow tells answer k m → CountsFaults tells k answer m → Gains tells (named_by (written_reply answer)) k m
written_gains tells (Ok (written.Committed version base time)) k m g a w counts = committed_gains tells base version k m g a w counts
written_gains tells (Ok (written.Already recorded latest)) k m g a w counts = latest_gains tells latest k m g w counts
written_gains tells (Err failed.NoTable) k m g a w counts = none_gains tells k m g w counts
written_gains tells (Err (failed.Exists latest)) k m g a w counts = latest_gains tells latest k m g w counts
written_gains tells (Err (failed.Broken base why)) k m g a w counts = base_gains tells base k m g w counts
written_gains tells (Err (failed.Conflict base winner rule key vector latest)) k m g a w counts = conflict_gains tells base latest k m g a w counts
written_gains tells (Err (failed.Contended attempts latest)) k m g a w counts = contended_gains tells attempts latest k m g w counts
written_gains tells (Err (failed.Full latest)) k m g a w counts = latest_gains tells latest k m g w.to counts
written_gains tells (Err (failed.TimeEnd base last)) k m g a w counts = base_gains tells (Some base) k m g w counts
written_gains tells (Err (failed.TooLarge base bytes)) k m g a w counts = base_gains tells base k m g w.from counts
written_gains tells (Err (failed.Taken base version id)) k m g a w counts = taken_gains tells base version id k m g w counts
written_gains tells (Err (failed.Fault at)) k m g a w counts = fault_gains tells at k m g w.cause counts w.mine
written_gains tells (Err failed.Memory) k m g a w counts = gains_nothing tells k m g w counts

-- ---- the replies

create_above : (tells : Bool) (what : Create) (answer : Result Written WriteError) (reading : ℤ) (last : ℕ) (log : List Commit) → CreateStands tells what answer reading last log → IsAbove answer
create_above tells what (Ok (written.Committed version base time)) reading last log h = omega (arith, ap after_base h.base_is)
create_above tells what (Ok (written.Already recorded latest)) reading last log h = tt
create_above tells what (Err (failed.Conflict base winner rule key vector latest)) reading last log h = absurd h
create_above tells what (Err e) reading last log h = tt

pub create_right : (tells : Bool) (k m : Knowledge) (what : Create) (answer : Result Written WriteError) (line : Numbered) (reading : ℤ) (last : ℕ)
    → CreateStands tells what answer reading last m.seen → WrittenNow tells answer k m → IsGrown k m → CountsFaults tells k answer m
    → asked_by line ≡ Ok (request.Create what) → IsRight tells k (moment line (written_reply answer) m reading last)
create_right tells k m what answer line reading last stands own g counts e =
    right_for tells k (moment line (written_reply answer) m reading last) (Ok (request.Create what)) e g
    (record { answer = answer; is = refl; stands = stands; now = own })
    (written_gains tells answer k m g (create_above tells what answer reading last m.seen stands) own counts)

write_above : (tells : Bool) (intent : Intent) (answer : Result Written WriteError) (reading : ℤ) (last : ℕ) (log : List Commit) → WriteStands tells intent answer reading last log → IsAbove answer
write_above tells intent (Ok (written.Committed version None time)) reading last log h = absurd h
write_above tells intent (Ok (written.Committed version (Some base) time)) reading last log h = omega (arith, h.from)
write_above tells intent (Ok (written.Already recorded latest)) reading last log h = tt
write_above tells intent (Err (failed.Conflict base winner rule key vector latest)) reading last log h = omega (arith, h.from, h.to)
write_above tells intent (Err e) reading last log h = tt

pub write_right : (tells : Bool) (k m : Knowledge) (intent : Intent) (answer : Result Written WriteError) (line : Numbered) (reading : ℤ) (last : ℕ)
    → WriteStands tells intent answer reading last m.seen → WrittenNow tells answer k m → IsGrown k m → CountsFaults tells k answer m
    → asked_by line ≡ Ok (request.Write intent) → IsRight tells k (moment line (written_reply answer) m reading last)
write_right tells k m intent answer line reading last stands own g counts e =
    right_for tells k (moment line (written_reply answer) m reading last) (Ok (request.Write intent)) e g
    (record { answer = answer; is = refl; stands = stands; now = own })
    (written_gains tells answer k m g (write_above tells intent answer reading last m.seen stands) own counts)
