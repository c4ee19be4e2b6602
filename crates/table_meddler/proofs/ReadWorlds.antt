-- Reading of a world, and what the files say that were read.
use Rattle.std.proofs.Common.{◌≡◌, ◌<◌, ◌≤◌, ◌+◌, ◌-◌, ◌⊎◌, inl, inr, ℕ, Bool, true, false, List, [], ◌∷◌, ◌++◌, length, take, refl, sym, ◌∙◌, ap, subst, arith, Option, Some, None, IsTrue, unwrap_or}
use Rattle.std.specs.Result.{IsErrAnd}
use Rattle.std.specs.Prelude.{IfOk, IfErr, Result, Ok, Err, Vec, MatchOption, is_some, slice_index_or}
use Rattle.std.specs.declared.alloc.Global.{Global}
use Rattle.std.proofs.lemmas.List.{take_more, take_all, map-append}
use Rattle.log_names.specs.declared.LogName.{LogName}
use Rattle.log_names.specs.declared.LogName.TheVariants as name
use Rattle.commit_catalog.specs.declared.Commits.{Commits}
use Rattle.commit_catalog.specs.declared.Entry.{Entry}
use Rattle.commit_catalog.specs.Ratifying.{TellsCommits}
use Rattle.object_store.specs.declared.store.Bytes.{Bytes}
use Rattle.action_types.specs.declared.actions.Action.{Action}
use Rattle.action_json.specs.Text.{IsCommitText, actions_of}
use Rattle.reconcile.specs.declared.State.{State}
use Rattle.reconcile.specs.Standing.{StandsFor}
use Rattle.table_model.specs.declared.answers.StepFault.{StepFault}
use Rattle.table_model.specs.declared.answers.StepFault.TheVariants.{Fault, Memory}
use Rattle.table_model.specs.Log.{Commit, commit_at, no_commit, history}
use Rattle.table_model.specs.Files.{file_at}
use Rattle.table_model.specs.World.{WorldData, stands, log_of, entry_at, either_file, file_of_version}
use Rattle.table_model.specs.Consistency.{IsConsistent}
use Rattle.table_model.specs.Knowledge.{newcomer}
use Rattle.table_model.specs.Holding.{IsLater}
use Rattle.table_model.specs.Learning.{no_ratified, CommitsLearnt}
use Rattle.table_model.specs.Learned.{commits_learned}
use Rattle.table_model.specs.Turns.{CommitsTurn, GetTurn, IsFailed}
use Rattle.table_model.proofs.Asking.{learns-commits}
use Rattle.table_model.proofs.Growing.{le_trans}
use Rattle.table_model.proofs.Worlds.{later_refl, later_trans, later_tally, below_or_above, holds-newcomer}
use Rattle.table_model.proofs.Knowing.{log_commit, commit_file, length-log_of}
use Rattle.table_meddler.specs.Others.{IsRead, ArePublished}
use Rattle.table_meddler.specs.Judging.{Tests, ShowsIn, items_of}
use Rattle.table_meddler.specs.Among.{LeadsTo}

-- what follows of an answer that is Ok
pub if_ok : {A E : Type 0} (r : Result A E) (P Q : A → Type 0) → ((a : A) → P a → Q a) → IfOk r P → IfOk r Q
if_ok (Ok a) P Q more h = more a h
if_ok (Err e) P Q more h = tt

pub if_err : {A E : Type 0} (r : Result A E) (P Q : E → Type 0) → ((e : E) → P e → Q e) → IfErr r P → IfErr r Q
if_err (Ok a) P Q more h = tt
if_err (Err e) P Q more h = more e h

-- an error that is handed on
pub handed : {A E : Type 0} (r : Result A E) (e : E) (P : E → Type 0) → IsErrAnd r (λ x. x ≡ e) → P e → IfErr r P
handed (Ok a) e P h p = tt
handed (Err x) e P h p = subst P (sym h) p

pub read_same : (w x : WorldData) → x ≡ w → IsConsistent x → IsRead w x
read_same w x e c = record {
  tally = let f = ap (λ (z : WorldData). z.tally) e in omega (arith, f);
  same = e ∙ ap (λ (n : ℕ). let z : WorldData = record w { tally = n } in z) (sym (ap (λ (z : WorldData). z.tally) e));
  consistent = c;
}

pub read_refl : (w : WorldData) → IsConsistent w → IsRead w w
read_refl w c = read_same w w refl c

pub read_trans : (w x y : WorldData) → IsRead w x → IsRead x y → IsRead w y
read_trans w x y p q = record {
  tally = le_trans _ _ _ p.tally q.tally;
  same = q.same ∙ ap (λ (z : WorldData). let u : WorldData = record z { tally = y.tally } in u) p.same;
  consistent = q.consistent;
}

read_failed : (w x : WorldData) → IsFailed w x → IsConsistent x → IsRead w x
read_failed w x f c = record { tally = let r = f.rose in omega arith; same = f.same; consistent = c }

pub get_read : (n : LogName) (w x : WorldData) (r : Result Bytes StepFault) → IsConsistent x → GetTurn n w r x → IsRead w x
get_read n w x (Ok b) c t = read_same w x t.same c
get_read n w x (Err Memory) c t = read_same w x t c
get_read n w x (Err (Fault at)) c t = read_failed w x t.1 c

pub commits_read : (w x : WorldData) (r : Result Commits StepFault) → IsConsistent x → CommitsTurn w r x → IsRead w x
commits_read w x (Ok a) c t = read_same w x t.1 c
commits_read w x (Err Memory) c t = read_same w x t c
commits_read w x (Err (Fault at)) c t = absurd t

-- a fault that a reading meets shows in the store's count

pub get_shown : (n : LogName) (w x : WorldData) (e : StepFault) → GetTurn n w (Err e) x → ShowsIn w.tally x.tally e
get_shown n w x (Fault at) t = let r = t.1.rose in omega (arith, r)
get_shown n w x Memory t = tt

pub commits_shown : (w x : WorldData) (e : StepFault) → CommitsTurn w (Err e) x → ShowsIn w.tally x.tally e
commits_shown w x (Fault at) t = absurd t
commits_shown w x Memory t = tt

pub shown_later : (before between now : ℕ) (e : StepFault) → before ≤ between → ShowsIn between now e → ShowsIn before now e
shown_later before between now (Fault at) le h = omega arith
shown_later before between now Memory le h = tt

pub memory_shown : (before now : ℕ) (e : StepFault) → e ≡ Memory → ShowsIn before now e
memory_shown before now e is = subst (ShowsIn before now) (sym is) tt

pub read_files : (w x : WorldData) → IsRead w x → (n : LogName) → file_at x.files n ≡ file_at w.files n
read_files w x r n = ap (λ (z : WorldData). file_at z.files n) r.same

pub read_records : (w x : WorldData) → IsRead w x → x.records ≡ w.records
read_records w x r = ap (λ (z : WorldData). z.records) r.same

pub read_count : (w x : WorldData) → IsRead w x → length x.records ≡ length w.records
read_count w x r = ap (λ (es : List Entry). length es) (read_records w x r)

pub read_log : (w x : WorldData) → IsRead w x → log_of x ≡ log_of w
read_log w x r = ap (λ (z : WorldData). log_of z) r.same

pub read_tells : (w x : WorldData) → IsRead w x → x.tells ≡ w.tells
read_tells w x r = ap (λ (z : WorldData). z.tells) r.same

pub leads_read : (w x : WorldData) → IsRead w x → LeadsTo w x
leads_read w x r = record {
  later = let P : WorldData → Type 0 = λ z. IsLater w z in subst P (sym r.same) (later_tally w x.tally r.tally);
  consistent = r.consistent;
}

pub leads_refl : (w : WorldData) → IsConsistent w → LeadsTo w w
leads_refl w c = record { later = later_refl w; consistent = c }

pub leads_trans : (w x y : WorldData) → LeadsTo w x → LeadsTo x y → LeadsTo w y
leads_trans w x y p q = record { later = later_trans w x y p.later q.later; consistent = q.consistent }

pub some_items : (o : Option (Vec ℕ Global)) → is_some (items_of o) ≡ is_some o
some_items None = refl
some_items (Some v) = refl

-- published files

pub published_none : (w : WorldData) → ArePublished w 0
published_none w = λ version less. absurd (omega arith)

last_or_below : (w : WorldData) (count version : ℕ) → IsConsistent w → IsTrue w.tells → 0 < count → IsTrue (stands w (name.Published (count - 1)))
    → version < count → (version < count - 1) ⊎ (count - 1 ≤ version) → IsTrue (stands w (name.Published version))
last_or_below w count version c t some there less (inl below) = (c.filed t).leading (count - 1) version there below
last_or_below w count version c t some there less (inr last) =
    let e : count - 1 ≡ version = omega arith in
    subst (λ (v : ℕ). IsTrue (stands w (name.Published v))) e there

-- where the last one stands, all of them stand
pub published_below : (w : WorldData) (count : ℕ) (answer : Bool) → IsConsistent w → 0 < count
    → (IsTrue w.tells → stands w (name.Published (count - 1)) ≡ answer) → Tests w.tells answer (ArePublished w count)
published_below w count answer c some e = λ t. (
  λ yes version less. last_or_below w count version c t some (e t ∙ yes) less (below_or_above version (count - 1)),
  λ all. sym (e t) ∙ all (count - 1) (omega arith),
)

-- the record of a version that the catalogue tells of
learnt : (w : WorldData) (c : Commits) → IsConsistent w → TellsCommits w.records w.reported c → CommitsLearnt w.tells newcomer c (commits_learned newcomer (Ok c) w)
learnt w c con t = learns-commits w w newcomer (Ok c) con (holds-newcomer w) (t, refl)

pub staged_within : (w : WorldData) (c : Commits) (version : ℕ) → IsConsistent w → TellsCommits w.records w.reported c → version < length w.records → c.reported ≤ version
    → version - c.reported < length c.staged.items
staged_within w c version con t less above =
    let l = learnt w c con t in
    let e = l.staged_length in
    let f = t.count in
    omega arith

pub staged_id : (w : WorldData) (c : Commits) (version : ℕ) → IsConsistent w → TellsCommits w.records w.reported c → version < length w.records → c.reported ≤ version
    → (slice_index_or c.staged.items (version - c.reported) no_ratified).id ≡ (entry_at w.records version).id
staged_id w c version con t less above =
    let l = learnt w c con t in
    let at : c.reported + (version - c.reported) ≡ version = omega arith in
    (l.staged (version - c.reported) (staged_within w c version con t less above)).id_is
    ∙ ap (λ (v : ℕ). (commit_at (log_of w) v).id) at
    ∙ ap (λ (d : Commit). d.id) (log_commit w version less)

-- the commit of a version, by its files
pub published_commit : (w : WorldData) (version : ℕ) (bytes : List ℕ) → version < length w.records → file_at w.files (name.Published version) ≡ Some bytes
    → bytes ≡ (commit_at (log_of w) version).bytes
published_commit w version bytes less e =
    let id = (entry_at w.records version).id in
    sym (ap (λ (d : Commit). d.bytes) (log_commit w version less)
    ∙ ap (λ (o : Option (List ℕ)). unwrap_or (either_file o (file_at w.files (name.Staged version id))) []) e)

given : (found : Option (Vec ℕ Global)) (bytes : List ℕ) → items_of found ≡ Some bytes → MatchOption found ⊥ (λ v. v.items ≡ bytes)
given None bytes e = cc
given (Some v) bytes e = cc

pub staged_commit : (w : WorldData) (version id : ℕ) (found : Option (Vec ℕ Global)) → IsConsistent w → IsTrue w.tells → version < length w.records
    → file_at w.files (name.Published version) ≡ None → id ≡ (entry_at w.records version).id → file_at w.files (name.Staged version id) ≡ items_of found
    → MatchOption found ⊥ (λ v. v.items ≡ (commit_at (log_of w) version).bytes)
staged_commit w version id found c t less gone e there =
    let whole : file_of_version w.files version (entry_at w.records version).id ≡ Some (commit_at (log_of w) version).bytes = commit_file w (c.filed t) version less in
    let first : file_of_version w.files version (entry_at w.records version).id ≡ file_at w.files (name.Staged version (entry_at w.records version).id) =
    ap (λ (o : Option (List ℕ)). either_file o (file_at w.files (name.Staged version (entry_at w.records version).id))) gone in
    given found _ (sym there ∙ ap (λ (i : ℕ). file_at w.files (name.Staged version i)) e ∙ sym first ∙ whole)

-- the same, where files and the catalogue were read meanwhile
pub staged_found : (w x y : WorldData) (version id : ℕ) (found : Option (Vec ℕ Global)) → IsConsistent w → version < length w.records → IsRead w x → IsRead x y
    → (IsTrue w.tells → file_at w.files (name.Published version) ≡ None) → id ≡ (entry_at x.records version).id
    → (IsTrue y.tells → file_at y.files (name.Staged version id) ≡ items_of found) → IsTrue w.tells
    → MatchOption found ⊥ (λ v. v.items ≡ (commit_at (log_of w) version).bytes)
staged_found w x y version id found c less r s gone e there t =
    let both : IsRead w y = read_trans w x y r s in
    let recorded : id ≡ (entry_at w.records version).id = e ∙ ap (λ (es : List Entry). (entry_at es version).id) (read_records w x r) in
    staged_commit w version id found c t less (gone t) recorded (sym (read_files w y both (name.Staged version id)) ∙ there (read_tells w y both ∙ t))

-- the actions of the bytes of a version
pub actions_found : (w : WorldData) (version : ℕ) (bytes : List ℕ) (found : Option (Vec Action Global)) → IsConsistent w → version < length w.records
    → bytes ≡ (commit_at (log_of w) version).bytes
    → MatchOption found (¬ (IsCommitText bytes (actions_of bytes))) (λ v. IsCommitText bytes (actions_of bytes) × (v.items ≡ actions_of bytes)) → IsTrue w.tells
    → MatchOption found ⊥ (λ v. v.items ≡ actions_of (commit_at (log_of w) version).bytes)
actions_found w version bytes None c less e h t =
    let far : version < length (log_of w) = let f = length-log_of w in omega (arith, f, less) in
    let text : IsCommitText (commit_at (log_of w) version).bytes (actions_of (commit_at (log_of w) version).bytes) = ((c.filed t).sound version far).text in
    h (subst (λ (b : List ℕ). IsCommitText b (actions_of b)) (sym e) text)
actions_found w version bytes (Some v) c less e h t = h.1 ∙ ap actions_of e

-- a reported version has its published file
pub reported_there : (w : WorldData) (version : ℕ) → IsConsistent w → IsTrue w.tells → version < w.reported → file_at w.files (name.Published version) ≡ None → ⊥
reported_there w version c t less gone = let there : is_some (file_at w.files (name.Published version)) ≡ true = (c.filed t).reported version less in let e : false ≡ true = sym (ap is_some gone) ∙ there in cc

-- the state after one version more
pub replayed : (s : State) (log : List Commit) (version : ℕ) (actions : List Action) → version < length log
    → actions ≡ actions_of (commit_at log version).bytes → StandsFor s (history (take version log) ++ actions ∷ [])
    → StandsFor s (history (take (version + 1) log))
replayed s log version actions less is stands =
    let more : history (take (version + 1) log) ≡ history (take version log) ++ actions_of (commit_at log version).bytes ∷ [] =
    ap history (take_more log version no_commit less) ∙ map-append _ (take version log) (commit_at log version ∷ []) in
    let same : history (take (version + 1) log) ≡ history (take version log) ++ actions ∷ [] =
    more ∙ ap (λ (a : List Action). history (take version log) ++ a ∷ []) (sym is) in
    subst (StandsFor s) (sym same) stands

pub replay_step : (s : State) (w x : WorldData) (version : ℕ) (actions : List Action) → IsRead w x → version < length w.records
    → (IsTrue x.tells → actions ≡ actions_of (commit_at (log_of x) version).bytes)
    → (IsTrue w.tells → StandsFor s (history (take version (log_of w)) ++ actions ∷ [])) → IsTrue w.tells
    → StandsFor s (history (take (version + 1) (log_of w)))
replay_step s w x version actions r less is stands t =
    replayed s (log_of w) version actions (let e = length-log_of w in omega (arith, e, less))
    (is (read_tells w x r ∙ t) ∙ ap (λ (l : List Commit). actions_of (commit_at l version).bytes) (read_log w x r)) (stands t)

pub replayed_all : (s : State) (log : List Commit) (count : ℕ) → length log ≤ count → StandsFor s (history (take count log)) → StandsFor s (history log)
replayed_all s log count all stands = subst (λ (l : List Commit). StandsFor s (history l)) (take_all count log all) stands
