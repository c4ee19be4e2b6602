-- A new file, or a file less: the log stays, and the world stays consistent.
use Rattle.std.proofs.Common.{◌≡◌, ◌≢◌, ◌<◌, ◌≤◌, ◌+◌, ◌^◌, ◌⊎◌, inl, inr, ℕ, zero, suc, Bool, true, false, cond, List, [], ◌∷◌, ◌++◌, length, take, drop, refl, sym, ◌∙◌, ap, subst, arith, rules, Option, Some, None, IsTrue, length-append, append-nil, max, unwrap_or}
use Rattle.std.specs.Prelude.{All, Contains, IfSome, is_some, Result, Ok, Err, ℤ, slice_index_or}
use Rattle.std.proofs.lemmas.List.Elements.{All-weaker, All-push, All-append, All-contains, Contains-push}
use Rattle.std.proofs.lemmas.Bool.Decides.{eqb_tells}
use Rattle.log_names.specs.declared.LogName.{LogName}
use Rattle.log_names.specs.declared.LogName.TheVariants as name
use Rattle.log_names.specs.Texts.{name_text, published_text, staged_text, checkpoint_text}
use Rattle.commit_catalog.specs.declared.Entry.{Entry}
use Rattle.object_store.specs.Files.{Files}
use Rattle.table_model.specs.declared.answers.Spot.{Spot}
use Rattle.table_model.specs.declared.known.Mark.{Mark}
use Rattle.table_model.specs.Log.{Commit, commit_at, commit_time, no_commit, IsNextCommit, IsSound}
use Rattle.table_model.specs.Files.{fits, file_at, put_at, drop_at, stands_at}
use Rattle.table_model.specs.World.{WorldData, stands, log_of, entry_at, no_entry, commit_of, commits_from, file_of_version, either_file, told_put, told_drop}
use Rattle.table_model.specs.Consistency.{IsSized, IsFiled, IsConsistent}
use Rattle.table_model.specs.Turns.{IsInDoubt, IsRatifiedUnder, after_put}
use Rattle.table_model.specs.Knowledge.{Knowledge, Terms, Triple, StartsWith, IsGrown}
use Rattle.table_model.specs.Holding.{HoldsIn, IsLater, IsKeptIn, terms_of}
use Rattle.table_model.specs.Conditions.{triple, MayRatify, MayPublish, MayReport, MayClear}
use Rattle.table_model.specs.Learning.{fault_noted}
use Rattle.table_model.specs.Outcome.{Outcome}
use Rattle.table_model.proofs.FileLaws.{fits_published, fits_staged, file_at-put_at, file_at-put_at_other, file_at-drop_at, file_at-drop_at_other}
use Rattle.table_model.proofs.Growing.{starts_refl, starts_more, starts_trans, le_refl, le_trans, grows_refl}
use Rattle.table_model.proofs.Logs.{commits_from-same, commits_from-append}
use Rattle.table_model.proofs.Worlds.{later_refl, later_trans, later_tally, consistent_tally, holds_later, below_or_above, bytes_of, is_there}
use Rattle.table_model.proofs.Knowing.{seen_length, length-log_of, seen_commit, all_seen, log_commit, commit_file}
use Rattle.table_model.proofs.Outcomes.{outcome-quiet, outcome-refused, outcome-failed, below_max, marks_more, mine_more}

-- the world after a change of its files alone
pub record Change (w y : WorldData) : Type 0 where
  pub later : IsLater w y
  pub consistent : IsConsistent y
  pub tally : y.tally ≡ w.tally
  pub records : y.records ≡ w.records

pub change-none : (w : WorldData) → IsConsistent w → Change w w
change-none w con = record { later = later_refl w; consistent = con; tally = refl; records = refl }

pub same_or_other : (a b : ℕ) → (a ≡ b) ⊎ (a ≢ b)
same_or_other a b = elim (eqb_tells a b) [ inl same ↦ inl same.1 | inr other ↦ inr other.1 ]

abbrev with_files : WorldData → Files → WorldData
with_files w files = record w { files = files }

-- the file of each ratified version is what it was
abbrev SameVersions : WorldData → Files → Type 0
SameVersions w files = (version : ℕ) → version < length w.records
    → file_of_version files version (entry_at w.records version).id ≡ file_of_version w.files version (entry_at w.records version).id

same_log : (w : WorldData) (files : Files) → SameVersions w files → log_of (with_files w files) ≡ log_of w
same_log w files h = commits_from-same w.files files 0 w.records (λ i less.
    let P : ℕ → Type 0 = λ n. file_of_version files n (entry_at w.records i).id ≡ file_of_version w.files n (entry_at w.records i).id in
    subst P (let e : i ≡ 0 + i = omega arith in e) (h i less))

-- what has to be shown of the new files
record Changes (w : WorldData) (files : Files) : Type 0 where
  versions : SameVersions w files
  published : (version : ℕ) → IsTrue (stands w (name.Published version)) → IsTrue (stands_at files (name.Published version))
  ratified : (version : ℕ) → IsTrue (stands_at files (name.Published version)) → version < length w.records
  leading : (version below : ℕ) → IsTrue (stands_at files (name.Published version)) → below < version → IsTrue (stands_at files (name.Published below))
  equal : (version : ℕ) (published_bytes staged_bytes : List ℕ) → version < length w.records
      → file_at files (name.Published version) ≡ Some published_bytes
      → file_at files (name.Staged version (entry_at w.records version).id) ≡ Some staged_bytes → published_bytes ≡ staged_bytes
  checkpoints : (version id : ℕ) → file_at files (name.Checkpoint version id) ≡ file_at w.files (name.Checkpoint version id)
  staged : (version id : ℕ) (bytes : List ℕ) → length w.records ≤ version
      → file_at w.files (name.Staged version id) ≡ Some bytes → file_at files (name.Staged version id) ≡ Some bytes

changes_filed : (w : WorldData) (files : Files) → IsFiled w → Changes w files → IsFiled (with_files w files)
changes_filed w files f c =
    let log : log_of (with_files w files) ≡ log_of w = same_log w files c.versions in
    record {
      ratified = c.ratified;
      leading = c.leading;
      reported = λ version less. c.published version (f.reported version less);
      kept = λ version less. (let P : Option (List ℕ) → Type 0 = λ o. IsTrue (is_some o) in subst P (sym (c.versions version less)) (f.kept version less));
      equal = c.equal;
      sound = subst IsSound (sym log) f.sound;
      times = λ version less. f.times version less ∙ ap (λ (l : List Commit). commit_time (commit_at l version).bytes) (sym log);
      checkpoints = λ version id there. (let P : Option (List ℕ) → Type 0 = λ o. IsTrue (is_some o) in
          c.published version (f.checkpoints version id (subst P (c.checkpoints version id) there)));
    }

changes_later : (w : WorldData) (files : Files) → Changes w files → IsLater w (with_files w files)
changes_later w files c = record {
  limits = refl;
  tells = refl;
  first = refl;
  log = (let P : List Commit → Type 0 = λ l. StartsWith l (log_of w) in subst P (sym (same_log w files c.versions)) (starts_refl (log_of w)));
  records = le_refl _;
  reported = le_refl _;
  tally = le_refl _;
  published = c.published;
  checkpoints = λ version id bytes there. c.checkpoints version id ∙ there;
  staged = c.staged;
}

changed : (w : WorldData) (files : Files) → IsConsistent w → w.tells ≡ true → Changes w files → Change w (with_files w files)
changed w files con tells c = record {
  later = changes_later w files c;
  consistent = record {
    sized = record { bounds = con.sized.bounds; reported = con.sized.reported; versions = con.sized.versions; unpublished = con.sized.unpublished };
    filed = λ t. changes_filed w files (con.filed tells) c;
  };
  tally = refl;
  records = refl;
}

-- a store that does not tell is said to hold what it held
told_case : (w : WorldData) (files : Files) (t : Bool) → w.tells ≡ t → IsConsistent w → (w.tells ≡ true → Changes w files)
    → Change w (record w { files = cond w.tells files w.files })
told_case w files true e con c =
    let same : record w { files = cond w.tells files w.files } ≡ with_files w files = ap (λ (b : Bool). let y : WorldData = record w { files = cond b files w.files } in y) e in
    let P : WorldData → Type 0 = λ y. Change w y in
    subst P (sym same) (changed w files con e (c e))
told_case w files false e con c =
    let same : record w { files = cond w.tells files w.files } ≡ w = ap (λ (b : Bool). let y : WorldData = record w { files = cond b files w.files } in y) e in
    let P : WorldData → Type 0 = λ y. Change w y in
    subst P (sym same) (change-none w con)

-- staging

not_there : (o : Option (List ℕ)) (bytes : List ℕ) → is_some o ≡ false → o ≡ Some bytes → ⊥
not_there o bytes e f = let k : true ≡ false = ap is_some (sym f) ∙ e in cc

staged_same : (a b c d : ℕ) → name.Staged a b ≡ name.Staged c d → (a ≡ c) × (b ≡ d)
staged_same a b c d e = (cc, cc)

both_files : (a b c d : Option (List ℕ)) → a ≡ c → b ≡ d → either_file a b ≡ either_file c d
both_files a b c d e f = ap (λ o. either_file o b) e ∙ ap (λ o. either_file c o) f

ratified_there : (w : WorldData) (v version id : ℕ) → v < length w.records → (v ≡ version) × ((entry_at w.records v).id ≡ id) → IsRatifiedUnder w version id
ratified_there w v version id less e =
    (omega (arith, e.0), ap (λ n. (entry_at w.records n).id) (sym e.0) ∙ e.1)

same_file : (w : WorldData) (v i version id : ℕ) (bytes : List ℕ) → (v ≡ version) × (i ≡ id) → file_at w.files (name.Staged v i) ≡ Some bytes → file_at w.files (name.Staged version id) ≡ Some bytes
same_file w v i version id bytes e there =
    ap (λ n. file_at w.files (name.Staged n id)) (sym e.0) ∙ ap (λ n. file_at w.files (name.Staged v n)) (sym e.1) ∙ there

stage_changes : (w : WorldData) (version id : ℕ) (text : List ℕ) → IsFiled w → version < 2 ^ 64 → id < 2 ^ 128
    → stands w (name.Staged version id) ≡ false → ¬ (IsRatifiedUnder w version id) → Changes w (put_at w.files (name.Staged version id) text)
stage_changes w version id text f small tiny absent unratified =
    let n : LogName = name.Staged version id in
    let fit : fits n ≡ true = fits_staged version id small tiny in
    let pub_same : (v : ℕ) → file_at (put_at w.files n text) (name.Published v) ≡ file_at w.files (name.Published v) =
    λ v. file_at-put_at_other w.files n (name.Published v) text fit (λ e. cc) in
    let entry_same : (v : ℕ) → v < length w.records → file_at (put_at w.files n text) (name.Staged v (entry_at w.records v).id) ≡ file_at w.files (name.Staged v (entry_at w.records v).id) =
    λ v less. file_at-put_at_other w.files n _ text fit (λ e. unratified (ratified_there w v version id less (staged_same _ _ _ _ e))) in
    let P : Option (List ℕ) → Type 0 = λ o. IsTrue (is_some o) in
    record {
      versions = λ v less. both_files _ _ _ _ (pub_same v) (entry_same v less);
      published = λ v there. subst P (sym (pub_same v)) there;
      ratified = λ v there. f.ratified v (subst P (pub_same v) there);
      leading = λ v u there less. subst P (sym (pub_same u)) (f.leading v u (subst P (pub_same v) there) less);
      equal = λ v p s less e g. f.equal v p s less (sym (pub_same v) ∙ e) (sym (entry_same v less) ∙ g);
      checkpoints = λ v i. file_at-put_at_other w.files n _ text fit (λ e. cc);
      staged = λ v i bytes above there. file_at-put_at_other w.files n _ text fit (λ e. not_there _ bytes absent (same_file w v i version id bytes (staged_same _ _ _ _ e) there)) ∙ there;
    }

pub change-stage : (w : WorldData) (version id : ℕ) (text : List ℕ) → IsConsistent w → version < 2 ^ 64 → id < 2 ^ 128
    → (IsTrue w.tells → stands w (name.Staged version id) ≡ false) → ¬ (IsRatifiedUnder w version id) → Change w (told_put w (name.Staged version id) text)
change-stage w version id text con small tiny absent unratified =
    told_case w _ _ refl con (λ tells. stage_changes w version id text (con.filed tells) small tiny (absent tells) unratified)

-- publishing

pub record IsDueText (w : WorldData) (k : Knowledge) (version : ℕ) (text : List ℕ) : Type 0 where
  pub far : version < length w.records
  pub is : text ≡ (commit_at (log_of w) version).bytes
  pub below : (v : ℕ) → v < version → IsTrue (stands w (name.Published v))

published_there : (files : Files) (version v : ℕ) (text : List ℕ) → v ≡ version → file_at files (name.Published version) ≡ Some text → IsTrue (stands_at files (name.Published v))
published_there files version v text e here = is_there _ text (ap (λ n. file_at files (name.Published n)) e ∙ here)

publish_keeps : (files : Files) (w : WorldData) (version : ℕ) (text : List ℕ) (v : ℕ) → file_at files (name.Published version) ≡ Some text
    → ((u : ℕ) → u ≢ version → file_at files (name.Published u) ≡ file_at w.files (name.Published u))
    → IsTrue (stands w (name.Published v)) → (v ≡ version) ⊎ (v ≢ version) → IsTrue (stands_at files (name.Published v))
publish_keeps files w version text v here other there (inl same) = published_there files version v text same here
publish_keeps files w version text v here other there (inr differ) =
    let P : Option (List ℕ) → Type 0 = λ o. IsTrue (is_some o) in subst P (sym (other v differ)) there

publish_versions : (w : WorldData) (files : Files) (version : ℕ) (text : List ℕ) (v : ℕ) → file_at files (name.Published version) ≡ Some text
    → file_of_version w.files version (entry_at w.records version).id ≡ Some text
    → ((u : ℕ) → u ≢ version → file_at files (name.Published u) ≡ file_at w.files (name.Published u))
    → ((u i : ℕ) → file_at files (name.Staged u i) ≡ file_at w.files (name.Staged u i))
    → (v ≡ version) ⊎ (v ≢ version)
    → file_of_version files v (entry_at w.records v).id ≡ file_of_version w.files v (entry_at w.records v).id
publish_versions w files version text v here whole other staged_file (inl same) =
    let P : ℕ → Type 0 = λ n. file_of_version files n (entry_at w.records n).id ≡ file_of_version w.files n (entry_at w.records n).id in
    subst P (sym same) (ap (λ o. either_file o (file_at files (name.Staged version (entry_at w.records version).id))) here ∙ sym whole)
publish_versions w files version text v here whole other staged_file (inr differ) = both_files _ _ _ _ (other v differ) (staged_file v _)

publish_ratified : (w : WorldData) (files : Files) (version v : ℕ) → IsFiled w → version < length w.records
    → ((u : ℕ) → u ≢ version → file_at files (name.Published u) ≡ file_at w.files (name.Published u))
    → IsTrue (stands_at files (name.Published v)) → (v ≡ version) ⊎ (v ≢ version) → v < length w.records
publish_ratified w files version v f far other there (inl same) = omega arith
publish_ratified w files version v f far other there (inr differ) =
    let P : Option (List ℕ) → Type 0 = λ o. IsTrue (is_some o) in f.ratified v (subst P (other v differ) there)

publish_leading : (w : WorldData) (k : Knowledge) (files : Files) (version : ℕ) (text : List ℕ) (v u : ℕ) → IsFiled w → IsDueText w k version text
    → file_at files (name.Published version) ≡ Some text
    → ((n : ℕ) → n ≢ version → file_at files (name.Published n) ≡ file_at w.files (name.Published n))
    → ((n : ℕ) → IsTrue (stands w (name.Published n)) → IsTrue (stands_at files (name.Published n)))
    → IsTrue (stands_at files (name.Published v)) → u < v → (v ≡ version) ⊎ (v ≢ version) → (u ≡ version) ⊎ (u ≢ version) → IsTrue (stands_at files (name.Published u))
publish_leading w k files version text v u f due here other keeps there less (inl same) again = keeps u (due.below u (omega arith))
publish_leading w k files version text v u f due here other keeps there less (inr differ) again =
    let P : Option (List ℕ) → Type 0 = λ o. IsTrue (is_some o) in keeps u (f.leading v u (subst P (other v differ) there) less)

else_staged : (o p : Option (List ℕ)) (text s : List ℕ) → is_some o ≡ false → either_file o p ≡ Some text → p ≡ Some s → text ≡ s
else_staged None p text s absent e g = cc
else_staged (Some b) p text s absent e g = cc

publish_equal : (w : WorldData) (files : Files) (version : ℕ) (text : List ℕ) (v : ℕ) (p s : List ℕ) → IsFiled w
    → stands w (name.Published version) ≡ false → file_of_version w.files version (entry_at w.records version).id ≡ Some text
    → file_at files (name.Published version) ≡ Some text
    → ((u : ℕ) → u ≢ version → file_at files (name.Published u) ≡ file_at w.files (name.Published u))
    → ((u i : ℕ) → file_at files (name.Staged u i) ≡ file_at w.files (name.Staged u i))
    → v < length w.records → file_at files (name.Published v) ≡ Some p → file_at files (name.Staged v (entry_at w.records v).id) ≡ Some s
    → (v ≡ version) ⊎ (v ≢ version) → p ≡ s
publish_equal w files version text v p s f absent whole here other staged_file less e g (inl same) =
    let at_version : file_at files (name.Published version) ≡ Some p = ap (λ n. file_at files (name.Published n)) (sym same) ∙ e in
    let first : text ≡ p = cc in
    let P : ℕ → Type 0 = λ n. file_at files (name.Staged n (entry_at w.records n).id) ≡ Some s in
    let second : file_at w.files (name.Staged version (entry_at w.records version).id) ≡ Some s = sym (staged_file version _) ∙ subst P same g in
    sym first ∙ else_staged _ _ text s absent whole second
publish_equal w files version text v p s f absent whole here other staged_file less e g (inr differ) =
    f.equal v p s less (sym (other v differ) ∙ e) (sym (staged_file v _) ∙ g)

publish_changes : (w : WorldData) (k : Knowledge) (version : ℕ) (text : List ℕ) → IsFiled w → version < 2 ^ 64
    → stands w (name.Published version) ≡ false → IsDueText w k version text → Changes w (put_at w.files (name.Published version) text)
publish_changes w k version text f small absent due =
    let n : LogName = name.Published version in
    let fit : fits n ≡ true = fits_published version small in
    let files : Files = put_at w.files n text in
    let here : file_at files n ≡ Some text = file_at-put_at w.files n (published_text version) text fit refl in
    let other : (v : ℕ) → v ≢ version → file_at files (name.Published v) ≡ file_at w.files (name.Published v) =
    λ v differ. file_at-put_at_other w.files n _ text fit (λ e. differ (cc)) in
    let staged_file : (v i : ℕ) → file_at files (name.Staged v i) ≡ file_at w.files (name.Staged v i) =
    λ v i. file_at-put_at_other w.files n _ text fit (λ e. cc) in
    let whole : file_of_version w.files version (entry_at w.records version).id ≡ Some text =
    commit_file w f version due.far ∙ ap Some (sym due.is) in
    let P : Option (List ℕ) → Type 0 = λ o. IsTrue (is_some o) in
    let keeps : (v : ℕ) → IsTrue (stands w (name.Published v)) → IsTrue (stands_at files (name.Published v)) =
    λ v there. publish_keeps files w version text v here other there (same_or_other v version) in
    record {
      versions = λ v less. publish_versions w files version text v here whole other staged_file (same_or_other v version);
      published = keeps;
      ratified = λ v there. publish_ratified w files version v f due.far other there (same_or_other v version);
      leading = λ v u there less. publish_leading w k files version text v u f due here other keeps there less (same_or_other v version) (same_or_other u version);
      equal = λ v p s less e g. publish_equal w files version text v p s f absent whole here other staged_file less e g (same_or_other v version);
      checkpoints = λ v i. file_at-put_at_other w.files n _ text fit (λ e. cc);
      staged = λ v i bytes above there. staged_file v i ∙ there;
    }

pub change-publish : (w : WorldData) (k : Knowledge) (version : ℕ) (text : List ℕ) → IsConsistent w → version < 2 ^ 64
    → (IsTrue w.tells → stands w (name.Published version) ≡ false) → (IsTrue w.tells → IsDueText w k version text) → Change w (told_put w (name.Published version) text)
change-publish w k version text con small absent due =
    told_case w _ _ refl con (λ tells. publish_changes w k version text (con.filed tells) small (absent tells) (due tells))

-- clearing

first_stands : (o p q : Option (List ℕ)) → IsTrue (is_some o) → either_file o p ≡ either_file o q
first_stands None p q h = cc
first_stands (Some b) p q h = refl

clear_versions : (w : WorldData) (files : Files) (version v : ℕ) → IsFiled w → version < w.reported
    → ((u : ℕ) → file_at files (name.Published u) ≡ file_at w.files (name.Published u))
    → ((u i : ℕ) → u ≢ version → file_at files (name.Staged u i) ≡ file_at w.files (name.Staged u i))
    → (v ≡ version) ⊎ (v ≢ version)
    → file_of_version files v (entry_at w.records v).id ≡ file_of_version w.files v (entry_at w.records v).id
clear_versions w files version v f reported pub_same elsewhere (inl same) =
    ap (λ o. either_file o (file_at files (name.Staged v (entry_at w.records v).id))) (pub_same v)
    ∙ first_stands _ _ _ (f.reported v (omega arith))
clear_versions w files version v f reported pub_same elsewhere (inr differ) = both_files _ _ _ _ (pub_same v) (elsewhere v _ differ)

clear_stood : (w : WorldData) (files : Files) (version id v : ℕ) (s : List ℕ) → file_at files (name.Staged version id) ≡ None
    → ((i : ℕ) → i ≢ id → file_at files (name.Staged version i) ≡ file_at w.files (name.Staged version i))
    → ((u i : ℕ) → u ≢ version → file_at files (name.Staged u i) ≡ file_at w.files (name.Staged u i))
    → file_at files (name.Staged v (entry_at w.records v).id) ≡ Some s
    → (v ≡ version) ⊎ (v ≢ version) → ((entry_at w.records v).id ≡ id) ⊎ ((entry_at w.records v).id ≢ id)
    → file_at w.files (name.Staged v (entry_at w.records v).id) ≡ Some s
clear_stood w files version id v s gone beside elsewhere g (inl same) (inl same_id) =
    let P : ℕ → ℕ → Type 0 = λ n i. file_at files (name.Staged n i) ≡ Some s in
    let there : file_at files (name.Staged version id) ≡ Some s = subst (λ n. P n id) same (subst (λ i. P v i) same_id g) in
    let k : None ≡ Some s = sym gone ∙ there in cc
clear_stood w files version id v s gone beside elsewhere g (inl same) (inr other_id) =
    let P : ℕ → Type 0 = λ n. file_at files (name.Staged n (entry_at w.records v).id) ≡ Some s in
    let Q : ℕ → Type 0 = λ n. file_at w.files (name.Staged n (entry_at w.records v).id) ≡ Some s in
    subst Q (sym same) (sym (beside _ other_id) ∙ subst P same g)
clear_stood w files version id v s gone beside elsewhere g (inr differ) either = sym (elsewhere v _ differ) ∙ g

above_itself : (n v version : ℕ) → n ≤ v → v ≡ version → version < n → ⊥
above_itself n v version above e far = omega arith

clear_changes : (w : WorldData) (version id : ℕ) → IsFiled w → version < 2 ^ 64 → id < 2 ^ 128 → version < w.reported → version < length w.records
    → Changes w (drop_at w.files (name.Staged version id))
clear_changes w version id f small tiny reported far =
    let n : LogName = name.Staged version id in
    let fit : fits n ≡ true = fits_staged version id small tiny in
    let files : Files = drop_at w.files n in
    let pub_same : (v : ℕ) → file_at files (name.Published v) ≡ file_at w.files (name.Published v) =
    λ v. file_at-drop_at_other w.files n _ fit (λ e. cc) in
    let elsewhere : (v i : ℕ) → v ≢ version → file_at files (name.Staged v i) ≡ file_at w.files (name.Staged v i) =
    λ v i differ. file_at-drop_at_other w.files n _ fit (λ e. differ (staged_same _ _ _ _ e).0) in
    let gone : file_at files n ≡ None = file_at-drop_at w.files n (staged_text version id) refl in
    let P : Option (List ℕ) → Type 0 = λ o. IsTrue (is_some o) in
    record {
      versions = λ v less. clear_versions w files version v f reported pub_same elsewhere (same_or_other v version);
      published = λ v there. subst P (sym (pub_same v)) there;
      ratified = λ v there. f.ratified v (subst P (pub_same v) there);
      leading = λ v u there less. subst P (sym (pub_same u)) (f.leading v u (subst P (pub_same v) there) less);
      equal = λ v p s less e g. f.equal v p s less (sym (pub_same v) ∙ e)
          (clear_stood w files version id v s gone (λ i differ. file_at-drop_at_other w.files n _ fit (λ e. differ (staged_same _ _ _ _ e).1)) elsewhere g (same_or_other v version) (same_or_other (entry_at w.records v).id id));
      checkpoints = λ v i. file_at-drop_at_other w.files n _ fit (λ e. cc);
      staged = λ v i bytes above there. elsewhere v i (λ e. above_itself (length w.records) v version above e far) ∙ there;
    }

pub change-clear : (w : WorldData) (version id : ℕ) → IsConsistent w → version < 2 ^ 64 → id < 2 ^ 128 → version < w.reported
    → Change w (told_drop w (name.Staged version id))
change-clear w version id con small tiny reported =
    told_case w _ _ refl con (λ tells. clear_changes w version id (con.filed tells) small tiny reported (let s = con.sized.reported in omega arith))
