-- Turns of a world that is told, one after the other.
use Rattle.std.proofs.Common.{zero, suc, ◌≡◌, ◌<◌, ◌≤◌, ◌+◌, ◌-◌, ◌^◌, drop, below_more, inl, inr, ℕ, Bool, true, false, cond, IsTrue, List, [], ◌∷◌, ◌++◌, length, refl, sym, ◌∙◌, ap, subst, arith, Option, Some, None, unwrap_or, length-append, append-nil}
use Rattle.std.proofs.lemmas.List.{get_or-drop, length-drop}
use Rattle.std.specs.Prelude.{Result, Ok, Err, IfSome, is_some, Vec, slice_index_or}
use Rattle.std.specs.declared.alloc.Global.{Global}
use Rattle.log_names.specs.declared.LogName.{LogName}
use Rattle.log_names.specs.declared.LogName.TheVariants as name
use Rattle.log_names.specs.Texts.{published_text}
use Rattle.commit_catalog.specs.declared.Commits.{Commits}
use Rattle.commit_catalog.specs.declared.Entry.{Entry}
use Rattle.commit_catalog.specs.declared.Ratified.{Ratified}
use Rattle.commit_catalog.specs.Records.{ratified_from}
use Rattle.commit_catalog.specs.Ratifying.{TellsCommits}
use Rattle.table_model.specs.Learning.{no_ratified}
use Rattle.object_store.specs.declared.store.Put.{Put}
use Rattle.object_store.specs.declared.store.Put.TheVariants as put
use Rattle.object_store.specs.declared.store.Bytes.{Bytes}
use Rattle.object_store.specs.declared.store.Bytes.TheVariants as bytes
use Rattle.table_model.specs.declared.answers.StepFault.{StepFault}
use Rattle.table_model.specs.declared.answers.StepFault.TheVariants as step
use Rattle.table_model.specs.Files.{file_at, put_at}
use Rattle.table_model.specs.Log.{Commit}
use Rattle.table_model.specs.World.{WorldData, stands, log_of, entry_at, no_entry, file_of_version, either_file, told_put}
use Rattle.table_model.specs.Consistency.{IsConsistent}
use Rattle.table_model.specs.Knowledge.{newcomer}
use Rattle.table_model.specs.Turns.{TellsTurn, GetTurn, PublishTurn}
use Rattle.table_model.proofs.FileLaws.{fits_published, file_at-put_at}
use Rattle.table_model.proofs.Worlds.{consistent_tally, is_there}
use Rattle.table_model.proofs.Knowing.{log_commit, length-log_of}
use Rattle.table_model.proofs.Changing.{Change, change-publish, IsDueText}
use Rattle.publisher.specs.Worlds.{SameButTally, IsKept, SameCatalogue, IsNextToPublish, PublishesVersion, PublishesUpTo, IsThere, AsCommitsTell}

-- one turn after the other
pub tells_both : (R S T : WorldData → WorldData → Type 0) (o p q : Option WorldData) → ((w x y : WorldData) → R w x → S x y → T w y)
    → TellsTurn R o p → TellsTurn S p q → TellsTurn T o q
tells_both R S T None p q h e f = let P : Option WorldData → Type 0 = λ p. TellsTurn S p q in subst P e f
tells_both R S T (Some w) None q h e f = absurd e
tells_both R S T (Some w) (Some x) None h e f = absurd f
tells_both R S T (Some w) (Some x) (Some y) h e f = h w x y e f

-- a turn by what it is
pub tells_as : (R S : WorldData → WorldData → Type 0) (o p : Option WorldData) → ((w x : WorldData) → R w x → S w x) → TellsTurn R o p → TellsTurn S o p
tells_as R S None p h e = e
tells_as R S (Some w) None h e = e
tells_as R S (Some w) (Some x) h e = h w x e

-- what holds after a turn
pub tells_after : (R : WorldData → WorldData → Type 0) (P : WorldData → Type 0) (o p : Option WorldData) → ((w x : WorldData) → R w x → P x) → TellsTurn R o p → IfSome p P
tells_after R P None p h e = let Q : Option WorldData → Type 0 = λ p. IfSome p P in subst Q (sym e) tt
tells_after R P (Some w) None h e = absurd e
tells_after R P (Some w) (Some x) h e = h w x e

-- reading

pub same_world : (w : WorldData) → SameButTally w w
same_world w = refl

pub get_same : (n : LogName) (w x : WorldData) (r : Result Bytes StepFault) → GetTurn n w r x → SameButTally w x
get_same n w x (Ok b) t = let P : WorldData → Type 0 = SameButTally w in subst P (sym t.same) refl
get_same n w x (Err step.Memory) t = let P : WorldData → Type 0 = SameButTally w in subst P (sym t) refl
get_same n w x (Err (step.Fault at)) t = t.1.same

-- a file that was read stands
pub get_there : (n : LogName) (w x : WorldData) (b : Vec ℕ Global) → GetTurn n w (Ok (bytes.Whole b)) x → IsTrue x.tells → IsTrue (stands x n)
get_there n w x b t =
    let P : WorldData → Type 0 = λ y. IsTrue y.tells → IsTrue (stands y n) in
    subst P (sym t.same) (λ tells. is_there _ b.items (t.is tells))

pub catalogue_tally : (w x : WorldData) → SameButTally w x → SameCatalogue w x
catalogue_tally w x e = record {
  records = ap (λ (y : WorldData). y.records) e;
  reported = ap (λ (y : WorldData). y.reported) e;
  tells = ap (λ (y : WorldData). y.tells) e;
}

pub kept_refl : (w : WorldData) → IsConsistent w → IsKept w w
kept_refl w c = record { consistent = c; log = refl; published = λ version there. there }

pub kept_tally : (w x : WorldData) → SameButTally w x → IsConsistent w → IsKept w x
kept_tally w x e c =
    let P : WorldData → Type 0 = λ y. IsKept w y in
    subst P (sym e) (record { consistent = consistent_tally w x.tally c; log = refl; published = λ version there. there })

pub reads_version : (version id : ℕ) (w x : WorldData) → SameButTally w x → PublishesVersion version id w x
reads_version version id w x e = record { same = catalogue_tally w x e; kept = λ next. kept_tally w x e next.consistent }

pub kept_trans : (w x y : WorldData) → IsKept w x → IsKept x y → IsKept w y
kept_trans w x y p q = record {
  consistent = q.consistent;
  log = q.log ∙ p.log;
  published = λ version there. q.published version (p.published version there);
}

pub catalogue_trans : (w x y : WorldData) → SameCatalogue w x → SameCatalogue x y → SameCatalogue w y
catalogue_trans w x y p q = record { records = q.records ∙ p.records; reported = q.reported ∙ p.reported; tells = q.tells ∙ p.tells }

-- publishing

empty_rest : {A : Type 0} (xs : List A) → length xs ≡ 0 → xs ≡ []
empty_rest [] e = refl
empty_rest (x ∷ xs) e = absurd (omega arith)

-- a change of the files alone keeps the log
pub change_kept : (w y : WorldData) → Change w y → IsKept w y
change_kept w y c = record {
  consistent = c.consistent;
  log =
      (let before = length-log_of w in
      let after = length-log_of y in
      let all = ap length c.later.log.is in
      let parts = length-append (log_of w) c.later.log.rest in
      let records = ap length c.records in
      let none : length c.later.log.rest ≡ 0 = omega (arith, before, after, all, parts, records) in
      c.later.log.is ∙ ap (λ rest. log_of w ++ rest) (empty_rest c.later.log.rest none) ∙ append-nil (log_of w));
  published = c.later.published;
}

is_absent : (o : Option (List ℕ)) → is_some o ≡ false → o ≡ None
is_absent None e = refl
is_absent (Some b) e = cc

-- the staged file of a version that is not published has the bytes of its commit
staged_due : (w : WorldData) (version id : ℕ) (text : List ℕ) → IsNextToPublish version id w → IsTrue w.tells
    → stands w (name.Published version) ≡ false → file_at w.files (name.Staged version id) ≡ Some text → IsDueText w newcomer version text
staged_due w version id text next tells absent there =
    let under : (entry_at w.records version).id ≡ id = sym next.under in
    let first : file_at w.files (name.Published version) ≡ None = is_absent _ absent in
    let second : file_at w.files (name.Staged version (entry_at w.records version).id) ≡ Some text =
    ap (λ (i : ℕ). file_at w.files (name.Staged version i)) under ∙ there in
    let whole : file_of_version w.files version (entry_at w.records version).id ≡ Some text =
    ap (λ o. either_file o (file_at w.files (name.Staged version (entry_at w.records version).id))) first ∙ second in
    record {
      far = next.ratified;
      is = sym (ap (λ (c : Commit). c.bytes) (log_commit w version next.ratified) ∙ ap (λ (o : Option (List ℕ)). unwrap_or o []) whole);
      below = next.below tells;
    }

put_kept : (w : WorldData) (version id : ℕ) (text : List ℕ) → version < 2 ^ 64 → (IsTrue w.tells → file_at w.files (name.Staged version id) ≡ Some text)
    → (IsTrue w.tells → stands w (name.Published version) ≡ false) → IsNextToPublish version id w → IsKept w (told_put w (name.Published version) text)
put_kept w version id text small there absent next =
    change_kept w _ (change-publish w newcomer version text next.consistent small absent (λ tells. staged_due w version id text next tells (absent tells) (there tells)))

-- the world after a failed put
doubt_kept : (w y : WorldData) (version id : ℕ) (text : List ℕ) (b : Bool) → stands w (name.Published version) ≡ b → version < 2 ^ 64
    → (IsTrue w.tells → file_at w.files (name.Staged version id) ≡ Some text)
    → y ≡ record (cond b w (told_put w (name.Published version) text)) { tally = y.tally } → PublishesVersion version id w y
doubt_kept w y version id text true e small there is = reads_version version id w y is
doubt_kept w y version id text false e small there is =
    let z : WorldData = told_put w (name.Published version) text in
    let P : WorldData → Type 0 = λ v. PublishesVersion version id w v in
    subst P (sym is) (record {
      same = record { records = refl; reported = refl; tells = refl };
      kept = λ next. kept_trans w z _ (put_kept w version id text small there (λ tells. e) next) (kept_tally z _ refl (put_kept w version id text small there (λ tells. e) next).consistent);
    })

pub publish_turn : (version id : ℕ) (text : List ℕ) (w y : WorldData) (r : Result Put StepFault) → version < 2 ^ 64
    → (IsTrue w.tells → file_at w.files (name.Staged version id) ≡ Some text) → PublishTurn version text w r y → PublishesVersion version id w y
publish_turn version id text w y (Ok put.Done) small there t =
    let P : WorldData → Type 0 = λ v. PublishesVersion version id w v in
    subst P (sym t.done) (record { same = record { records = refl; reported = refl; tells = refl }; kept = put_kept w version id text small there t.absent })
publish_turn version id text w y (Ok put.There) small there t =
    let P : WorldData → Type 0 = λ v. PublishesVersion version id w v in subst P (sym t.same) (reads_version version id w w refl)
publish_turn version id text w y (Err step.Memory) small there t =
    let P : WorldData → Type 0 = λ v. PublishesVersion version id w v in subst P (sym t) (reads_version version id w w refl)
publish_turn version id text w y (Err (step.Fault at)) small there t =
    elim t.1.files [ inl before ↦ reads_version version id w y before | inr done ↦ doubt_kept w y version id text _ refl small there done ]

-- the staged file was read, and then published
pub copied : (version id : ℕ) (b : Vec ℕ Global) (w x y : WorldData) (r : Result Put StepFault) → version < 2 ^ 64
    → GetTurn (name.Staged version id) w (Ok (bytes.Whole b)) x → PublishTurn version b.items x r y → PublishesVersion version id w y
copied version id b w x y r small t u =
    let P : WorldData → Type 0 = λ v. PublishTurn version b.items v r y in
    publish_turn version id b.items w y r small t.is (subst P t.same u)

pub put_there : (version : ℕ) (text : List ℕ) (w y : WorldData) (a : Put) → version < 2 ^ 64 → PublishTurn version text w (Ok a) y
    → IsTrue y.tells → IsTrue (stands y (name.Published version))
put_there version text w y put.Done small t =
    let P : WorldData → Type 0 = λ v. IsTrue v.tells → IsTrue (stands v (name.Published version)) in
    subst P (sym t.done) (λ tells.
    let same : cond w.tells (put_at w.files (name.Published version) text) w.files ≡ put_at w.files (name.Published version) text =
    ap (λ (b : Bool). cond b (put_at w.files (name.Published version) text) w.files) tells in
    let here : file_at (cond w.tells (put_at w.files (name.Published version) text) w.files) (name.Published version) ≡ Some text =
    ap (λ files. file_at files (name.Published version)) same ∙ file_at-put_at w.files (name.Published version) (published_text version) text (fits_published version small) refl in
    is_there _ text here)
put_there version text w y put.There small t =
    let P : WorldData → Type 0 = λ v. IsTrue v.tells → IsTrue (stands v (name.Published version)) in subst P (sym t.same) t.there

tally_trans : (w x y : WorldData) → SameButTally w x → SameButTally x y → SameButTally w y
tally_trans w x y e f = f ∙ ap (λ (v : WorldData). let u : WorldData = record v { tally = y.tally } in u) e

pub copied_tells : (version id : ℕ) (b : Vec ℕ Global) (text : List ℕ) (r : Result Put StepFault) (o p q : Option WorldData) → version < 2 ^ 64
    → text ≡ b.items → TellsTurn (λ w x. GetTurn (name.Staged version id) w (Ok (bytes.Whole b)) x) o p
    → TellsTurn (λ w x. PublishTurn version text w r x) p q → TellsTurn (PublishesVersion version id) o q
copied_tells version id b text r o p q small e t u =
    let P : List ℕ → Type 0 = λ bs. TellsTurn (λ w x. PublishTurn version bs w r x) p q in
    tells_both _ _ _ o p q (λ w x y f h. copied version id b w x y r small f h) t (subst P e u)

pub found_tells : (version id : ℕ) (n : LogName) (r : Result Bytes StepFault) (o p q : Option WorldData) → TellsTurn (λ w x. GetTurn n w r x) o p
    → TellsTurn SameButTally p q → TellsTurn (PublishesVersion version id) o q
found_tells version id n r o p q t u =
    tells_both _ _ _ o p q (λ w x y f h. reads_version version id w y (tally_trans w x y (get_same n w x r f) h)) t u

pub got_tells : (version id : ℕ) (n : LogName) (r : Result Bytes StepFault) (o p : Option WorldData) → TellsTurn (λ w x. GetTurn n w r x) o p
    → TellsTurn (PublishesVersion version id) o p
got_tells version id n r o p t = tells_as _ _ o p (λ w x f. reads_version version id w x (get_same n w x r f)) t

pub put_there_tells : (version : ℕ) (text : List ℕ) (a : Put) (o p : Option WorldData) → version < 2 ^ 64
    → TellsTurn (λ w x. PublishTurn version text w (Ok a) x) o p → IsThere (name.Published version) p
put_there_tells version text a o p small t = tells_after _ _ o p (λ w x f. put_there version text w x a small f) t

-- version after version

-- the staged versions that the catalogue tells have the ids of its records
ratified_at : (from : ℕ) (es : List Entry) (i : ℕ) → i < length es → (slice_index_or (ratified_from from es) i no_ratified).id ≡ (entry_at es i).id
ratified_at from [] i less = absurd (omega arith)
ratified_at from (e ∷ es) zero less = refl
ratified_at from (e ∷ es) (suc i) less = ratified_at (from + 1) es i (omega arith)

pub told_id : (c : Commits) (w : WorldData) (version id : ℕ) → TellsCommits w.records w.reported c → c.reported ≤ version → version < c.count
    → id ≡ (slice_index_or c.staged.items (version - c.reported) no_ratified).id → id ≡ (entry_at w.records version).id
told_id c w version id t from less e =
    let n : ℕ = version - w.reported in
    let same : version - c.reported ≡ n = ap (λ (x : ℕ). version - x) t.reported in
    let place : w.reported + n ≡ version = omega (arith, t.reported) in
    let inside : n < length (drop w.reported w.records) = let l = length-drop w.reported w.records in omega (arith, l, t.count, t.reported) in
    e ∙ ap (λ (x : ℕ). (slice_index_or c.staged.items x no_ratified).id) same
    ∙ ap (λ (xs : List Ratified). (slice_index_or xs n no_ratified).id) t.staged
    ∙ ratified_at w.reported (drop w.reported w.records) n inside
    ∙ ap (λ (x : Entry). x.id) (get_or-drop w.reported w.records n no_entry)
    ∙ ap (λ (x : ℕ). (entry_at w.records x).id) place

pub up_to_reported : (c : Commits) (w : WorldData) → TellsCommits w.records w.reported c → PublishesUpTo c.reported w w
up_to_reported c w t = record {
  same = record { records = refl; reported = refl; tells = refl };
  kept = kept_refl w;
  published = λ con tells version less. (con.filed tells).reported version (omega (arith, t.reported));
}

pub up_to_none : (count : ℕ) (w x : WorldData) → PublishesUpTo count w x → PublishesUpTo 0 w x
up_to_none count w x p = record { same = p.same; kept = p.kept; published = λ con tells version less. absurd (omega arith) }

-- a version more, which is published at last or was refused
pub up_to_version : (version id : ℕ) (w x y : WorldData) → version < length w.records → id ≡ (entry_at w.records version).id
    → PublishesUpTo version w x → PublishesVersion version id x y → IsConsistent w → IsKept x y
up_to_version version id w x y less under p q con = q.kept (record {
  consistent = (p.kept con).consistent;
  ratified = (let e = ap length p.same.records in omega (arith, e));
  below = p.published con;
  under = under ∙ ap (λ (es : List Entry). (entry_at es version).id) (sym p.same.records);
})

pub up_to_more : (version id : ℕ) (w x y : WorldData) → version < length w.records → id ≡ (entry_at w.records version).id
    → PublishesUpTo version w x → PublishesVersion version id x y → (IsTrue y.tells → IsTrue (stands y (name.Published version)))
    → PublishesUpTo (version + 1) w y
up_to_more version id w x y less under p q there = record {
  same = catalogue_trans w x y p.same q.same;
  kept = λ con. kept_trans w x y (p.kept con) (up_to_version version id w x y less under p q con);
  published = λ con tells. below_more (λ (v : ℕ). IsTrue (stands y (name.Published v))) version
      (λ v below. (up_to_version version id w x y less under p q con).published v (p.published con (sym q.same.tells ∙ tells) v below))
      (there tells);
}

pub up_to_refused : (version id : ℕ) (w x y : WorldData) → version < length w.records → id ≡ (entry_at w.records version).id
    → PublishesUpTo version w x → PublishesVersion version id x y → PublishesUpTo 0 w y
up_to_refused version id w x y less under p q = record {
  same = catalogue_trans w x y p.same q.same;
  kept = λ con. kept_trans w x y (p.kept con) (up_to_version version id w x y less under p q con);
  published = λ con tells v below. absurd (omega arith);
}

-- the same over worlds that may not be told
pub refused_tells : (c : Commits) (version id : ℕ) (o p q : Option WorldData) → AsCommitsTell c o → c.reported ≤ version → version < c.count
    → id ≡ (slice_index_or c.staged.items (version - c.reported) no_ratified).id
    → TellsTurn (PublishesUpTo version) o p → TellsTurn (PublishesVersion version id) p q → TellsTurn (PublishesUpTo 0) o q
refused_tells c version id None p q t from less e f h = (let P : Option WorldData → Type 0 = λ r. TellsTurn (PublishesVersion version id) r q in subst P f h)
refused_tells c version id (Some w) None q t from less e f h = absurd f
refused_tells c version id (Some w) (Some x) None t from less e f h = absurd h
refused_tells c version id (Some w) (Some x) (Some y) t from less e f h =
    up_to_refused version id w x y (omega (arith, t.count)) (told_id c w version id t from less e) f h

pub more_tells : (c : Commits) (version id : ℕ) (o p q : Option WorldData) → AsCommitsTell c o → c.reported ≤ version → version < c.count
    → id ≡ (slice_index_or c.staged.items (version - c.reported) no_ratified).id
    → TellsTurn (PublishesUpTo version) o p → TellsTurn (PublishesVersion version id) p q → IsThere (name.Published version) q
    → TellsTurn (PublishesUpTo (version + 1)) o q
more_tells c version id None p q t from less e f h there = (let P : Option WorldData → Type 0 = λ r. TellsTurn (PublishesVersion version id) r q in subst P f h)
more_tells c version id (Some w) None q t from less e f h there = absurd f
more_tells c version id (Some w) (Some x) None t from less e f h there = absurd h
more_tells c version id (Some w) (Some x) (Some y) t from less e f h there =
    up_to_more version id w x y (omega (arith, t.count)) (told_id c w version id t from less e) f h there

pub start_tells : (c : Commits) (o : Option WorldData) → AsCommitsTell c o → TellsTurn (PublishesUpTo c.reported) o o
start_tells c None t = refl
start_tells c (Some w) t = up_to_reported c w t

pub none_tells : (count : ℕ) (o p : Option WorldData) → TellsTurn (PublishesUpTo count) o p → TellsTurn (PublishesUpTo 0) o p
none_tells count o p f = tells_as (PublishesUpTo count) (PublishesUpTo 0) o p (λ w x a. up_to_none count w x a) f
