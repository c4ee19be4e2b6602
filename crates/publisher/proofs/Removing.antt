-- Staged files that are cleared, in a world that is told.
use Rattle.std.proofs.Common.{zero, suc, ◌≡◌, ◌≢◌, ◌<◌, ◌+◌, ◌^◌, ◌⊎◌, inl, inr, ℕ, Bool, true, false, cond, IsTrue, List, [], ◌∷◌, length, take, get_or, refl, sym, ◌∙◌, ap, subst, arith, Option, Some, None}
use Rattle.std.specs.Prelude.{Result, Ok, Err, Contains, is_some, Vec, IsErr, IfSome}
use Rattle.std.specs.declared.alloc.Global.{Global}
use Rattle.std.proofs.lemmas.List.{take_more, take_all}
use Rattle.std.proofs.lemmas.List.Elements.{Contains-append_cases}
use Rattle.log_names.specs.declared.LogName.{LogName}
use Rattle.log_names.specs.declared.LogName.TheVariants as name
use Rattle.log_names.specs.Texts.{staged_text}
use Rattle.commit_catalog.specs.declared.Commits.{Commits}
use Rattle.object_store.specs.Files.{Files}
use Rattle.object_store.specs.declared.store.Gone.{Gone}
use Rattle.object_store.specs.declared.store.Gone.TheVariants as gone
use Rattle.table_model.specs.declared.answers.StepFault.{StepFault}
use Rattle.table_model.specs.declared.answers.StepFault.TheVariants as step
use Rattle.table_model.specs.Files.{file_at, drop_at, stands_at}
use Rattle.table_model.specs.World.{WorldData, stands, told_drop}
use Rattle.commit_catalog.specs.Ratifying.{TellsCommits}
use Rattle.table_model.specs.Consistency.{IsConsistent}
use Rattle.table_model.specs.Knowledge.{Knowledge}
use Rattle.table_model.specs.Holding.{HoldsInTold}
use Rattle.table_model.specs.Turns.{TellsTurn, ClearTurn, CommitsTurn, ListTurn, Lists, listing}
use Rattle.table_model.proofs.FileLaws.{fits_staged, file_at-drop_at, file_at-drop_at_other}
use Rattle.table_model.proofs.Listing.{stands-listing}
use Rattle.table_model.proofs.Changing.{same_or_other, change-clear}
use Rattle.publisher.specs.declared.answers.PublishError.{PublishError}
use Rattle.publisher.specs.declared.answers.PublishError.TheVariants as publish
use Rattle.publisher.specs.Worlds.{KeepsLog, ClearTurns, ClearsAll, Clears, IsGone, AreCleared, SameButTally, AsCommitsTell}
use Rattle.publisher.proofs.Reporting.{keeps_kept, keeps_same, told_consistent, tells_from, commits_same, commits_before, commits_told, commits_then}
use Rattle.publisher.proofs.Telling.{tells_both, tells_as, tells_after, kept_tally, kept_trans, catalogue_tally, catalogue_trans, change_kept}

-- no staged file comes by a removal
gone_not : (files : Files) (n : LogName) → file_at files n ≡ None → IsTrue (stands_at files n) → ⊥
gone_not files n e h = let k : false ≡ true = sym (ap is_some e) ∙ h in cc

drop_fewer_at : (files : Files) (version id v i : ℕ) → version < 2 ^ 64 → id < 2 ^ 128 → (v ≡ version) ⊎ (v ≢ version) → (i ≡ id) ⊎ (i ≢ id)
    → IsTrue (stands_at (drop_at files (name.Staged version id)) (name.Staged v i)) → IsTrue (stands_at files (name.Staged v i))
drop_fewer_at files version id v i small tiny (inl same) (inl same_id) h =
    let n : name.Staged v i ≡ name.Staged version id = cc in
    let P : LogName → Type 0 = λ m. IsTrue (stands_at (drop_at files (name.Staged version id)) m) in
    absurd (gone_not (drop_at files (name.Staged version id)) (name.Staged version id)
    (file_at-drop_at files (name.Staged version id) (staged_text version id) refl) (subst P n h))
drop_fewer_at files version id v i small tiny (inl same) (inr other) h =
    let P : Option (List ℕ) → Type 0 = λ o. IsTrue (is_some o) in
    subst P (file_at-drop_at_other files (name.Staged version id) (name.Staged v i) (fits_staged version id small tiny) (λ e. other (cc))) h
drop_fewer_at files version id v i small tiny (inr other) either h =
    let P : Option (List ℕ) → Type 0 = λ o. IsTrue (is_some o) in
    subst P (file_at-drop_at_other files (name.Staged version id) (name.Staged v i) (fits_staged version id small tiny) (λ e. other (cc))) h

told_fewer : (w : WorldData) (version id v i : ℕ) (b : Bool) → w.tells ≡ b → version < 2 ^ 64 → id < 2 ^ 128
    → IsTrue (stands_at (cond w.tells (drop_at w.files (name.Staged version id)) w.files) (name.Staged v i)) → IsTrue (stands w (name.Staged v i))
told_fewer w version id v i true e small tiny h =
    let P : Bool → Type 0 = λ b. IsTrue (stands_at (cond b (drop_at w.files (name.Staged version id)) w.files) (name.Staged v i)) in
    drop_fewer_at w.files version id v i small tiny (same_or_other v version) (same_or_other i id) (subst P e h)
told_fewer w version id v i false e small tiny h =
    let P : Bool → Type 0 = λ b. IsTrue (stands_at (cond b (drop_at w.files (name.Staged version id)) w.files) (name.Staged v i)) in subst P e h

pub clears_tally : (reported : ℕ) (w x : WorldData) → SameButTally w x → Clears reported w x
clears_tally reported w x e = record {
  same = catalogue_tally w x e;
  kept = λ con less. kept_tally w x e con;
  fewer = (let P : WorldData → Type 0 = λ y. (version id : ℕ) → IsTrue (stands y (name.Staged version id)) → IsTrue (stands w (name.Staged version id)) in subst P (sym e) (λ version id there. there));
}

clears_drop : (w : WorldData) (version id : ℕ) → version < 2 ^ 64 → id < 2 ^ 128 → Clears (version + 1) w (told_drop w (name.Staged version id))
clears_drop w version id small tiny = record {
  same = record { records = refl; reported = refl; tells = refl };
  kept = λ con less. change_kept w _ (change-clear w version id con small tiny (omega arith));
  fewer = λ v i there. told_fewer w version id v i w.tells refl small tiny there;
}

pub clears_trans : (reported : ℕ) (w x y : WorldData) → Clears reported w x → Clears reported x y → Clears reported w y
clears_trans reported w x y p q = record {
  same = catalogue_trans w x y p.same q.same;
  kept = λ con less. kept_trans w x y (p.kept con less) (q.kept (p.kept con less).consistent (omega (arith, less, p.same.reported)));
  fewer = λ version id there. p.fewer version id (q.fewer version id there);
}

clears_weaker : (version reported : ℕ) (w x : WorldData) → version < reported → Clears (version + 1) w x → Clears reported w x
clears_weaker version reported w x below p = record { same = p.same; kept = λ con less. p.kept con (omega arith); fewer = p.fewer }

clear_turn : (version id : ℕ) (w x : WorldData) (r : Result Gone StepFault) → version < 2 ^ 64 → id < 2 ^ 128 → ClearTurn version id w r x → Clears (version + 1) w x
clear_turn version id w x (Ok gone.Done) small tiny t =
    let P : WorldData → Type 0 = λ y. Clears (version + 1) w y in subst P (sym t.done) (clears_drop w version id small tiny)
clear_turn version id w x (Ok gone.Absent) small tiny t =
    let P : WorldData → Type 0 = λ y. Clears (version + 1) w y in subst P (sym t.same) (clears_tally (version + 1) w w refl)
clear_turn version id w x (Err step.Memory) small tiny t =
    let P : WorldData → Type 0 = λ y. Clears (version + 1) w y in subst P (sym t) (clears_tally (version + 1) w w refl)
clear_turn version id w x (Err (step.Fault at)) small tiny t =
    elim t.1.files [
      | inl before ↦ clears_tally (version + 1) w x before
      | inr done ↦ clears_trans (version + 1) w (told_drop w (name.Staged version id)) x (clears_drop w version id small tiny) (clears_tally (version + 1) (told_drop w (name.Staged version id)) x done)
    ]

pub clear_tells : (version id : ℕ) (r : Result Gone StepFault) (o p : Option WorldData) → version < 2 ^ 64 → id < 2 ^ 128
    → TellsTurn (λ w x. ClearTurn version id w r x) o p → TellsTurn (Clears (version + 1)) o p
clear_tells version id r o p small tiny t = tells_as (λ w x. ClearTurn version id w r x) (Clears (version + 1)) o p (λ w x u. clear_turn version id w x r small tiny u) t

gone_turn : (version id : ℕ) (w x : WorldData) (a : Gone) → ClearTurn version id w (Ok a) x → IsTrue x.tells → stands x (name.Staged version id) ≡ false
gone_turn version id w x gone.Done t =
    let P : WorldData → Type 0 = λ y. IsTrue y.tells → stands y (name.Staged version id) ≡ false in
    subst P (sym t.done) (λ tells.
    ap (λ (b : Bool). stands_at (cond b (drop_at w.files (name.Staged version id)) w.files) (name.Staged version id)) tells
    ∙ ap is_some (file_at-drop_at w.files (name.Staged version id) (staged_text version id) refl))
gone_turn version id w x gone.Absent t =
    let P : WorldData → Type 0 = λ y. IsTrue y.tells → stands y (name.Staged version id) ≡ false in subst P (sym t.same) t.absent

pub gone_tells : (version id : ℕ) (a : Gone) (o p : Option WorldData) → TellsTurn (λ w x. ClearTurn version id w (Ok a) x) o p → IsGone (name.Staged version id) p
gone_tells version id a o p t = tells_after (λ w x. ClearTurn version id w (Ok a) x) _ o p (λ w x u. gone_turn version id w x a u) t

-- name after name

pub clears_start : (reported : ℕ) (o : Option WorldData) → TellsTurn (Clears reported) o o
clears_start reported None = refl
clears_start reported (Some w) = clears_tally reported w w refl

pub clears_more : (version reported : ℕ) (o p q : Option WorldData) → version < reported → TellsTurn (Clears reported) o p → TellsTurn (Clears (version + 1)) p q
    → TellsTurn (Clears reported) o q
clears_more version reported o p q below t u =
    tells_both (Clears reported) (Clears (version + 1)) (Clears reported) o p q (λ w x y a b. clears_trans reported w x y a (clears_weaker version reported x y below b)) t u

not_standing : (b c : Bool) → (IsTrue b → IsTrue c) → c ≡ false → b ≡ false
not_standing true c h e = let k : true ≡ false = sym (h refl) ∙ e in cc
not_standing false c h e = refl

same_element : (names : List LogName) (i : ℕ) (d n : LogName) → Contains (get_or names i d ∷ []) n → n ≡ get_or names i d
same_element names i d n (zero, less, e) = sym e
same_element names i d n (suc k, less, e) = absurd (omega arith)

-- one name more: it may not be cleared
pub cleared_skip : (reported i : ℕ) (names : List LogName) (d : LogName) (o : Option WorldData) → i < length names
    → ((version id : ℕ) → version < reported → get_or names i d ≡ name.Staged version id → ⊥)
    → AreCleared reported i names o → AreCleared reported (i + 1) names o
cleared_skip reported i names d None less not h = tt
cleared_skip reported i names d (Some x) less not h = λ tells version id below there.
    let P : List LogName → Type 0 = λ ns. Contains ns (name.Staged version id) in
    elim (Contains-append_cases (take i names) (get_or names i d ∷ []) (name.Staged version id) (subst P (take_more names i d less) there)) [
      | inl before ↦ h tells version id below before
      | inr here ↦ absurd (not version id below (sym (same_element names i d _ here)))
    ]

-- one name more: its file was cleared
pub cleared_more : (reported i : ℕ) (names : List LogName) (d : LogName) (version id : ℕ) (p q : Option WorldData) → i < length names
    → get_or names i d ≡ name.Staged version id → AreCleared reported i names p → TellsTurn (Clears (version + 1)) p q → IsGone (name.Staged version id) q
    → AreCleared reported (i + 1) names q
cleared_more reported i names d version id p None less is h t gone_now = tt
cleared_more reported i names d version id None (Some y) less is h t gone_now = let k : Some y ≡ None = t in cc
cleared_more reported i names d version id (Some x) (Some y) less is h t gone_now = λ tells v j below there.
    let P : List LogName → Type 0 = λ ns. Contains ns (name.Staged v j) in
    elim (Contains-append_cases (take i names) (get_or names i d ∷ []) (name.Staged v j) (subst P (take_more names i d less) there)) [
      | inl before ↦ not_standing (stands y (name.Staged v j)) (stands x (name.Staged v j)) (t.fewer v j) (h (sym t.same.tells ∙ tells) v j below before)
      | inr here ↦
          let same : name.Staged v j ≡ name.Staged version id = same_element names i d _ here ∙ is in
          ap (λ n. stands y n) same ∙ gone_now tells
    ]

pub cleared_none : (reported : ℕ) (names : List LogName) (o : Option WorldData) → AreCleared reported 0 names o
cleared_none reported names None = tt
cleared_none reported names (Some x) = λ tells version id below (k, less, e). absurd (omega arith)

none_left : (b : Bool) → (IsTrue b → b ≡ false) → b ≡ false
none_left true h = h refl
none_left false h = refl

-- the listing shows every staged file that stands, and those of reported versions were cleared
cleared_world : (c : Commits) (names : List LogName) (w x y z : WorldData) → IsConsistent w → CommitsTurn w (Ok c) x → Lists x names y → Clears c.reported y z
    → (IsTrue z.tells → (version id : ℕ) → version < c.reported → Contains (take (length names) names) (name.Staged version id) → stands z (name.Staged version id) ≡ false)
    → ClearsAll w z
cleared_world c names w x y z con t u p q =
    let xw : x ≡ w = t.1 in
    let yx : y ≡ x = u.same in
    let yw : y ≡ w = yx ∙ xw in
    let P : WorldData → Type 0 = λ v. Clears c.reported v z in
    let from : Clears c.reported w z = subst P yw p in
    let same : c.reported ≡ w.reported = t.0.reported in
    let Q : WorldData → Type 0 = λ v. IsTrue v.tells → names ≡ listing v.files in
    let listed : IsTrue w.tells → names ≡ listing w.files = subst Q xw u.names_are in
    record {
      keeps = keeps_kept w z from.same (from.kept con (omega arith));
      reported = from.same.reported;
      cleared = λ tells version id below. none_left (stands z (name.Staged version id)) (λ there.
          let stood : stands w (name.Staged version id) ≡ true = from.fewer version id there in
          let shown : Contains (listing w.files) (name.Staged version id) = stands-listing w.files (name.Staged version id) (staged_text version id) refl refl stood in
          let R : List LogName → Type 0 = λ ns. Contains ns (name.Staged version id) in
          let found : Contains (take (length names) names) (name.Staged version id) =
          subst R (sym (take_all (length names) names (omega arith))) (subst R (sym (listed tells)) shown) in
          q (from.same.tells ∙ tells) version id (omega arith) found);
    }

clear_tells_case : (c : Commits) (names : List LogName) (o p q r : Option WorldData) → IfSome o IsConsistent → TellsTurn (λ w x. CommitsTurn w (Ok c) x) o p
    → TellsTurn (λ w x. Lists w names x) p q → TellsTurn (Clears c.reported) q r → AreCleared c.reported (length names) names r → TellsTurn ClearsAll o r
clear_tells_case c names None p q r con t u v h =
    let P : Option WorldData → Type 0 = λ s. TellsTurn (λ w x. Lists w names x) s q in
    let Q : Option WorldData → Type 0 = λ s. TellsTurn (Clears c.reported) s r in
    subst Q (subst P t u) v
clear_tells_case c names (Some w) None q r con t u v h = absurd t
clear_tells_case c names (Some w) (Some x) None r con t u v h = absurd u
clear_tells_case c names (Some w) (Some x) (Some y) None con t u v h = absurd v
clear_tells_case c names (Some w) (Some x) (Some y) (Some z) con t u v h = cleared_world c names w x y z con t u v h

pub clear_all_tells : (c : Commits) (names : Vec LogName Global) (ns : List LogName) (o p q r : Option WorldData) (k : Knowledge) → HoldsInTold p k → ns ≡ names.items
    → TellsTurn (λ w x. CommitsTurn w (Ok c) x) o p → TellsTurn (λ w x. ListTurn w (Ok names) x) p q → TellsTurn (Clears c.reported) q r
    → AreCleared c.reported (length ns) ns r → TellsTurn ClearsAll o r
clear_all_tells c names ns o p q r k told e t u v h =
    let P : List LogName → Type 0 = λ xs. AreCleared c.reported (length xs) xs r in
    clear_tells_case c names.items o p q r (commits_before (Ok c) o p k t told) t u v (subst P e h)

-- refusals

err_turns : {A : Type 0} (r : Result A PublishError) (w x : WorldData) → IsErr r → KeepsLog w x → ClearTurns r w x
err_turns (Ok a) w x h k = let no_error : false ≡ true = h in cc
err_turns (Err publish.NoTable) w x h k = k
err_turns (Err (publish.Fault at)) w x h k = k
err_turns (Err publish.Memory) w x h k = k

-- nothing was done but the catalogue turn
pub clear_nothing : {A : Type 0} (r : Result A PublishError) (a : Result Commits StepFault) (o p : Option WorldData) → IsErr r
    → TellsTurn (λ w x. CommitsTurn w a x) o p → TellsTurn (ClearTurns r) o p
clear_nothing r a o p h t = tells_as (λ w x. CommitsTurn w a x) (ClearTurns r) o p (λ w x u. err_turns r w x h (keeps_same w x (commits_same a w x u))) t

-- the folder could not be listed
list_keeps : (f : StepFault) (w x : WorldData) → IsConsistent w → ListTurn w (Err f) x → KeepsLog w x
list_keeps step.Memory w x con t = keeps_same w x t
list_keeps (step.Fault at) w x con t = keeps_kept w x (catalogue_tally w x t.1.same) (kept_tally w x t.1.same con)

pub list_refused : {A : Type 0} (r : Result A PublishError) (c : Commits) (f : StepFault) (o p q : Option WorldData) (k : Knowledge) → HoldsInTold p k → IsErr r
    → TellsTurn (λ w x. CommitsTurn w (Ok c) x) o p → TellsTurn (λ w x. ListTurn w (Err f) x) p q → TellsTurn (ClearTurns r) o q
list_refused r c f o p q k told h t u =
    commits_then (ClearTurns r) c o p q t
    (tells_from IsConsistent (λ w x. ListTurn w (Err f) x) (ClearTurns r) p q (told_consistent p k told) (λ w x con b. err_turns r w x h (list_keeps f w x con b)) u)

-- a file could not be cleared
both_known : (c : Commits) (o : Option WorldData) (k : Knowledge) → HoldsInTold o k → AsCommitsTell c o → IfSome o (λ w. IsConsistent w × TellsCommits w.records w.reported c)
both_known c None k h t = tt
both_known c (Some w) k h t = (h.0, t)

pub clear_refused : {A : Type 0} (r : Result A PublishError) (c : Commits) (names : Vec LogName Global) (o p q s : Option WorldData) (k : Knowledge) → HoldsInTold p k → IsErr r
    → TellsTurn (λ w x. CommitsTurn w (Ok c) x) o p → TellsTurn (λ w x. ListTurn w (Ok names) x) p q → TellsTurn (Clears c.reported) q s → TellsTurn (ClearTurns r) o s
clear_refused r c names o p q s k told h t u v =
    let both : TellsTurn (Clears c.reported) p s =
    tells_both (λ w x. ListTurn w (Ok names) x) (Clears c.reported) (Clears c.reported) p q s
    (λ w x y a b. let P : WorldData → Type 0 = λ z. Clears c.reported z y in subst P a.same b) u v in
    commits_then (ClearTurns r) c o p s t
    (tells_from (λ w. IsConsistent w × TellsCommits w.records w.reported c) (Clears c.reported) (ClearTurns r) p s (both_known c p k told (commits_told c o p t))
    (λ w x known b. err_turns r w x h (keeps_kept w x b.same (b.kept known.0 (omega (arith, known.1.reported))))) both)
