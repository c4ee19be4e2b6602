-- Each name that stands staged, each that is known, each ratified and each found taken is among those that the caller may have put: after
-- each turn, where it was so before.
use Rattle.std.proofs.Common.{◌≡◌, ◌≢◌, ◌<◌, ◌≤◌, ◌+◌, ◌^◌, ◌⊎◌, inl, inr, ℕ, Bool, true, false, cond, List, [], ◌∷◌, ◌++◌, length, refl, sym, ◌∙◌, ap, subst, arith, Option, Some, None, IsTrue, length-append}
use Rattle.std.specs.Prelude.{Contains, is_some, Result, Ok, Err, ℤ, Vec}
use Rattle.std.specs.declared.alloc.Global.{Global}
use Rattle.std.proofs.Math.ListN.{get_or-append}
use Rattle.std.proofs.Math.Seq.{get_or-append_seam}
use Rattle.std.proofs.lemmas.List.Elements.{Contains-append_left, Contains-push, Contains-push_cases}
use Rattle.log_names.specs.declared.LogName.{LogName}
use Rattle.log_names.specs.declared.LogName.TheVariants as name
use Rattle.log_names.specs.Texts.{name_text, staged_text}
use Rattle.commit_catalog.specs.declared.Commits.{Commits}
use Rattle.commit_catalog.specs.declared.Entry.{Entry}
use Rattle.commit_catalog.specs.declared.Ratify.{Ratify}
use Rattle.commit_catalog.specs.declared.Ratify.TheVariants as ratify
use Rattle.object_store.specs.Files.{Files}
use Rattle.object_store.specs.declared.store.Put.{Put}
use Rattle.object_store.specs.declared.store.Put.TheVariants as put
use Rattle.object_store.specs.declared.store.Bytes.{Bytes}
use Rattle.object_store.specs.declared.store.Bytes.TheVariants as bytes
use Rattle.object_store.specs.declared.store.Gone.{Gone}
use Rattle.object_store.specs.declared.store.Gone.TheVariants as gone
use Rattle.table_model.specs.declared.answers.Spot.{Spot}
use Rattle.table_model.specs.declared.answers.Looked.{Looked}
use Rattle.table_model.specs.declared.answers.Staged.{Staged}
use Rattle.table_model.specs.declared.answers.Staged.TheVariants as staged
use Rattle.table_model.specs.declared.answers.StepFault.{StepFault}
use Rattle.table_model.specs.declared.answers.StepFault.TheVariants.{Fault, Memory}
use Rattle.table_model.specs.Files.{fits, file_at, put_at, drop_at, stands_at}
use Rattle.table_model.specs.World.{WorldData, stands, entry_at, no_entry, told_put, told_drop}
use Rattle.table_model.specs.Turns.{IsFailed, IsInDoubt, IsRatifiedUnder, after_put, CommitsTurn, LookupTurn, ListTurn, GetTurn, StageTurn, RatifyTurn, PublishTurn, ReportTurn, ClearTurn}
use Rattle.table_model.specs.Knowledge.{Knowledge, Triple}
use Rattle.table_model.specs.Holding.{HoldsIn}
use Rattle.table_model.specs.Conditions.{triple, MayRatify}
use Rattle.table_model.specs.Learning.{fault_noted, kept_after}
use Rattle.table_model.specs.Learned.{commits_learned, lookup_learned, list_learned, get_learned, stage_learned, ratify_learned, publish_learned, report_learned, clear_learned}
use Rattle.table_model.specs.Alone.{Alone, IsPut, HasPutAll}
use Rattle.table_model.proofs.FileLaws.{fits_published, fits_staged, file_at-put_at_other, file_at-drop_at, file_at-drop_at_other}
use Rattle.table_model.proofs.Worlds.{below_or_above}
use Rattle.table_model.proofs.Knowing.{seen_length}
use Rattle.table_model.proofs.Changing.{same_or_other}

abbrev pub alone : WorldData → Knowledge → Alone
alone w k = record { world = w; known = k }

abbrev Lists : Type 0
Lists = List LogName

-- one more name that was put
put_more : (files : Files) (records : List Entry) (puts : Lists) (kept : List Triple) (takens : Lists) (n : LogName) → IsPut files records puts kept takens
    → IsPut files records (puts ++ n ∷ []) kept takens
put_more files records puts kept takens n p = record {
  staged = λ version id there. Contains-append_left puts (n ∷ []) (name.Staged version id) (p.staged version id there);
  known = λ version id text there. Contains-append_left puts (n ∷ []) (name.Staged version id) (p.known version id text there);
  ratified = λ version less. Contains-append_left puts (n ∷ []) (name.Staged version (entry_at records version).id) (p.ratified version less);
  taken = λ version id there. Contains-append_left puts (n ∷ []) (name.Staged version id) (p.taken version id there);
}

-- one more file that is known
known_more : (files : Files) (records : List Entry) (puts : Lists) (kept : List Triple) (takens : Lists) (version id : ℕ) (text : List ℕ) → Contains puts (name.Staged version id)
    → IsPut files records puts kept takens → IsPut files records puts (kept ++ triple version id text ∷ []) takens
known_more files records puts kept takens version id text c p = record {
  staged = p.staged;
  known = λ v i b there. elim (Contains-push_cases kept (triple version id text) (triple v i b) there) [
    | inl old ↦ p.known v i b old
    | inr new ↦
        let same : name.Staged version id ≡ name.Staged v i = ap (λ (t : Triple). name.Staged t.version t.id) new in
        subst (Contains puts) same c
  ];
  ratified = p.ratified;
  taken = p.taken;
}

-- one more name that was found taken
taken_more : (files : Files) (records : List Entry) (puts : Lists) (kept : List Triple) (takens : Lists) (version id : ℕ) → Contains puts (name.Staged version id)
    → IsPut files records puts kept takens → IsPut files records puts kept (takens ++ name.Staged version id ∷ [])
taken_more files records puts kept takens version id c p = record {
  staged = p.staged;
  known = p.known;
  ratified = p.ratified;
  taken = λ v i there. elim (Contains-push_cases takens (name.Staged version id) (name.Staged v i) there) [
    | inl old ↦ p.taken v i old
    | inr new ↦ subst (Contains puts) new c
  ];
}

-- files of which each that stands staged stood before, or was put
files_moved : (files new : Files) (records : List Entry) (puts : Lists) (kept : List Triple) (takens : Lists)
    → ((version id : ℕ) → IsTrue (stands_at new (name.Staged version id)) → IsTrue (stands_at files (name.Staged version id)) ⊎ Contains puts (name.Staged version id))
    → IsPut files records puts kept takens → IsPut new records puts kept takens
files_moved files new records puts kept takens h p = record {
  staged = λ version id there. elim (h version id there) [ inl old ↦ p.staged version id old | inr new ↦ new ];
  known = p.known;
  ratified = p.ratified;
  taken = p.taken;
}

same_stands : (files new : Files) (n : LogName) → file_at new n ≡ file_at files n → IsTrue (stands_at new n) → IsTrue (stands_at files n)
same_stands files new n e there = let P : Option (List ℕ) → Type 0 = λ o. IsTrue (is_some o) in subst P e there

-- a file that was put, and one that was dropped
staged_put : (files : Files) (version id : ℕ) (text : List ℕ) (v i : ℕ) → version < 2 ^ 64 → id < 2 ^ 128
    → IsTrue (stands_at (put_at files (name.Staged version id) text) (name.Staged v i)) → IsTrue (stands_at files (name.Staged v i)) ⊎ (name.Staged version id ≡ name.Staged v i)
staged_put files version id text v i small tiny there =
    let n : LogName = name.Staged version id in
    let other : name.Staged v i ≢ n → IsTrue (stands_at files (name.Staged v i)) =
    λ differ. same_stands files (put_at files n text) (name.Staged v i) (file_at-put_at_other files n (name.Staged v i) text (fits_staged version id small tiny) differ) there in
    elim (same_or_other version v) [
      | inl e ↦ elim (same_or_other id i) [
        | inl f ↦ inr (ap (λ a. name.Staged a id) e ∙ ap (λ a. name.Staged v a) f)
        | inr f ↦ inl (other (λ g. f (sym (let h : i ≡ id = cc in h))))
      ]
      | inr e ↦ inl (other (λ g. e (sym (let h : v ≡ version = cc in h))))
    ]

published_put : (files : Files) (version : ℕ) (text : List ℕ) (v i : ℕ) → version < 2 ^ 64
    → IsTrue (stands_at (put_at files (name.Published version) text) (name.Staged v i)) → IsTrue (stands_at files (name.Staged v i))
published_put files version text v i small there =
    let n : LogName = name.Published version in
    same_stands files (put_at files n text) (name.Staged v i) (file_at-put_at_other files n (name.Staged v i) text (fits_published version small) (λ g. cc)) there

not_none : (o : Option (List ℕ)) → o ≡ None → IsTrue (is_some o) → ⊥
not_none o e there = let P : Option (List ℕ) → Type 0 = λ q. IsTrue (is_some q) in let h : false ≡ true = subst P e there in cc

staged_dropped : (files : Files) (version id : ℕ) (v i : ℕ) → version < 2 ^ 64 → id < 2 ^ 128
    → IsTrue (stands_at (drop_at files (name.Staged version id)) (name.Staged v i)) → IsTrue (stands_at files (name.Staged v i))
staged_dropped files version id v i small tiny there =
    let n : LogName = name.Staged version id in
    let other : name.Staged v i ≢ n → IsTrue (stands_at files (name.Staged v i)) =
    λ differ. same_stands files (drop_at files n) (name.Staged v i) (file_at-drop_at_other files n (name.Staged v i) (fits_staged version id small tiny) differ) there in
    elim (same_or_other version v) [
      | inl e ↦ elim (same_or_other id i) [
        | inl f ↦
            let same : n ≡ name.Staged v i = ap (λ a. name.Staged a id) e ∙ ap (λ a. name.Staged v a) f in
            let P : LogName → Type 0 = λ q. IsTrue (stands_at (drop_at files n) q) in
            absurd (not_none (file_at (drop_at files n) n) (file_at-drop_at files n (staged_text version id) refl) (subst P (sym same) there))
        | inr f ↦ other (λ g. f (sym (let h : i ≡ id = cc in h)))
      ]
      | inr e ↦ other (λ g. e (sym (let h : v ≡ version = cc in h)))
    ]

-- the worlds after a file was put, or dropped
world_staged : (w : WorldData) (puts : Lists) (kept : List Triple) (takens : Lists) (version id : ℕ) (text : List ℕ) → IsTrue w.tells → version < 2 ^ 64 → id < 2 ^ 128
    → Contains puts (name.Staged version id) → IsPut w.files w.records puts kept takens
    → IsPut (told_put w (name.Staged version id) text).files w.records puts kept takens
world_staged w puts kept takens version id text tells small tiny c p =
    let new : Files = put_at w.files (name.Staged version id) text in
    let P : Bool → Type 0 = λ b. IsPut (cond b new w.files) w.records puts kept takens in
    subst P (sym tells) (files_moved w.files new w.records puts kept takens (λ v i there. elim (staged_put w.files version id text v i small tiny there) [
      | inl old ↦ inl old
      | inr same ↦ inr (subst (Contains puts) same c)
    ]) p)

world_published : (w : WorldData) (puts : Lists) (kept : List Triple) (takens : Lists) (version : ℕ) (text : List ℕ) → IsTrue w.tells → version < 2 ^ 64
    → IsPut w.files w.records puts kept takens → IsPut (told_put w (name.Published version) text).files w.records puts kept takens
world_published w puts kept takens version text tells small p =
    let new : Files = put_at w.files (name.Published version) text in
    let P : Bool → Type 0 = λ b. IsPut (cond b new w.files) w.records puts kept takens in
    subst P (sym tells) (files_moved w.files new w.records puts kept takens (λ v i there. inl (published_put w.files version text v i small there)) p)

world_dropped : (w : WorldData) (puts : Lists) (kept : List Triple) (takens : Lists) (version id : ℕ) → IsTrue w.tells → version < 2 ^ 64 → id < 2 ^ 128
    → IsPut w.files w.records puts kept takens → IsPut (told_drop w (name.Staged version id)).files w.records puts kept takens
world_dropped w puts kept takens version id tells small tiny p =
    let new : Files = drop_at w.files (name.Staged version id) in
    let P : Bool → Type 0 = λ b. IsPut (cond b new w.files) w.records puts kept takens in
    subst P (sym tells) (files_moved w.files new w.records puts kept takens (λ v i there. inl (staged_dropped w.files version id v i small tiny there)) p)

-- a store that failed, and one that may have done the call
put_failed : (w x : WorldData) (k : Knowledge) (at : Spot) → IsFailed w x → HasPutAll (alone w k) → HasPutAll (alone x (fault_noted at k))
put_failed w x k at f p = let P : WorldData → Type 0 = λ y. HasPutAll (alone y (fault_noted at k)) in subst P (sym f.same) p

put_doubt : (w done x : WorldData) (m : Knowledge) → IsInDoubt w done x → HasPutAll (alone w m) → HasPutAll (alone done m) → HasPutAll (alone x m)
put_doubt w done x m d p q =
    let P : WorldData → Type 0 = λ y. HasPutAll (alone y m) in
    elim d.files [ inl same ↦ subst P (sym same) p | inr so ↦ subst P (sym so) q ]

-- a file that is put only where it does not stand
put_case : (w y : WorldData) (m : Knowledge) (b : Bool) → HasPutAll (alone w m) → HasPutAll (alone y m) → HasPutAll (alone (cond b w y) m)
put_case w y m true p q = p
put_case w y m false p q = q

-- ---- the turns

pub puts-commits : (w x : WorldData) (k : Knowledge) (c : Commits) → CommitsTurn w (Ok c) x → HasPutAll (alone w k) → HasPutAll (alone x (commits_learned k (Ok c) x))
puts-commits w x k c t p = let P : WorldData → Type 0 = λ y. HasPutAll (alone y (commits_learned k (Ok c) y)) in subst P (sym t.1) p

pub puts-lookup : (version : ℕ) (w x : WorldData) (k : Knowledge) (a : Looked) → LookupTurn version w (Ok a) x → HasPutAll (alone w k) → HasPutAll (alone x (lookup_learned k (Ok a) x))
puts-lookup version w x k a t p = let P : WorldData → Type 0 = λ y. HasPutAll (alone y (lookup_learned k (Ok a) y)) in subst P (sym t.same) p

pub puts-list : (w x : WorldData) (k : Knowledge) (r : Result (Vec LogName Global) StepFault) → ListTurn w r x → HasPutAll (alone w k) → HasPutAll (alone x (list_learned k r))
puts-list w x k (Ok names) t p = let P : WorldData → Type 0 = λ y. HasPutAll (alone y (list_learned k (Ok names))) in subst P (sym t.same) p
puts-list w x k (Err Memory) t p = let P : WorldData → Type 0 = λ y. HasPutAll (alone y k) in subst P (sym t) p
puts-list w x k (Err (Fault at)) t p = put_failed w x k at t.1 p

get_known : (n : LogName) (w : WorldData) (k : Knowledge) (text : List ℕ) → IsTrue (stands w n) → HasPutAll (alone w k) → HasPutAll (alone w (kept_after n text k))
get_known (name.Published v) w k text there p = p
get_known (name.Staged v i) w k text there p = known_more w.files w.records k.put k.kept k.takens v i text (p.staged v i there) p
get_known (name.Checkpoint v i) w k text there p = p
get_known (name.Parquet v) w k text there p = p
get_known name.Other w k text there p = p

pub puts-get : (n : LogName) (w x : WorldData) (k : Knowledge) (r : Result Bytes StepFault) → IsTrue w.tells → GetTurn n w r x → HasPutAll (alone w k) → HasPutAll (alone x (get_learned n k r))
puts-get n w x k (Ok (bytes.Whole b)) tells t p =
    let P : WorldData → Type 0 = λ y. HasPutAll (alone y (get_learned n k (Ok (bytes.Whole b)))) in
    let Q : Option (List ℕ) → Type 0 = λ o. IsTrue (is_some o) in
    subst P (sym t.same) (get_known n w k b.items (subst Q (sym (t.is tells)) refl) p)
puts-get n w x k (Ok bytes.Absent) tells t p = let P : WorldData → Type 0 = λ y. HasPutAll (alone y (get_learned n k (Ok bytes.Absent))) in subst P (sym t.same) p
puts-get n w x k (Err Memory) tells t p = let P : WorldData → Type 0 = λ y. HasPutAll (alone y k) in subst P (sym t) p
puts-get n w x k (Err (Fault at)) tells t p = put_failed w x k at t.1 p

taken_put : (w : WorldData) (k : Knowledge) (version id : ℕ) → IsTrue (stands w (name.Staged version id)) ⊎ IsRatifiedUnder w version id → HasPutAll (alone w k) → Contains k.put (name.Staged version id)
taken_put w k version id (inl there) p = p.staged version id there
taken_put w k version id (inr under) p = subst (λ i. Contains k.put (name.Staged version i)) under.1 (p.ratified version under.0)

pub puts-stage : (version id : ℕ) (text : List ℕ) (w x : WorldData) (k : Knowledge) (r : Result Staged StepFault) → IsTrue w.tells → version < 2 ^ 64 → id < 2 ^ 128
    → StageTurn version id text w r x → HasPutAll (alone w k) → HasPutAll (alone x (stage_learned version id text k r))
puts-stage version id text w x k (Ok staged.Done) tells small tiny t p =
    let n : LogName = name.Staged version id in
    let P : WorldData → Type 0 = λ y. HasPutAll (alone y (stage_learned version id text k (Ok staged.Done))) in
    let c : Contains (k.put ++ n ∷ []) n = Contains-push k.put n in
    let q = put_more w.files w.records k.put k.kept k.takens n p in
    subst P (sym t.done)
    (world_staged w (k.put ++ n ∷ []) (k.kept ++ triple version id text ∷ []) k.takens version id text tells small tiny c
    (known_more w.files w.records (k.put ++ n ∷ []) k.kept k.takens version id text c q))
puts-stage version id text w x k (Ok staged.Taken) tells small tiny t p =
    let P : WorldData → Type 0 = λ y. HasPutAll (alone y (stage_learned version id text k (Ok staged.Taken))) in
    subst P (sym t.same) (taken_more w.files w.records k.put k.kept k.takens version id (taken_put w k version id (t.taken tells) p) p)
puts-stage version id text w x k (Err Memory) tells small tiny t p = let P : WorldData → Type 0 = λ y. HasPutAll (alone y k) in subst P (sym t) p
puts-stage version id text w x k (Err (Fault at)) tells small tiny t p =
    let n : LogName = name.Staged version id in
    let m : Knowledge = stage_learned version id text k (Err (Fault at)) in
    let q : HasPutAll (alone w m) = put_more w.files w.records k.put k.kept k.takens n p in
    let done : HasPutAll (alone (told_put w n text) m) = world_staged w (k.put ++ n ∷ []) k.kept k.takens version id text tells small tiny (Contains-push k.put n) q in
    put_doubt w (after_put w n text) x m t.1.doubt q (put_case w (told_put w n text) m (stands w n) q done)

-- a commit more, of a staged file that is known
ratified_more : (w : WorldData) (k : Knowledge) (version id : ℕ) (time : ℤ) (text : List ℕ) → version ≡ length w.records → Contains k.kept (triple version id text) → HasPutAll (alone w k)
    → IsPut w.files (w.records ++ (record { id = id; time = time }) ∷ []) k.put k.kept k.takens
ratified_more w k version id time text last kept p =
    let e : Entry = record { id = id; time = time } in
    let more : List Entry = w.records ++ e ∷ [] in
    record {
      staged = p.staged;
      known = p.known;
      ratified = λ v less. elim (below_or_above v (length w.records)) [
        | inl below ↦
            let same : entry_at more v ≡ entry_at w.records v = get_or-append w.records (e ∷ []) no_entry v below in
            subst (λ (f : Entry). Contains k.put (name.Staged v f.id)) (sym same) (p.ratified v below)
        | inr above ↦
            let long : length more ≡ length w.records + 1 = length-append w.records (e ∷ []) in
            let is : version ≡ v = omega (arith, last, above, less, long) in
            let new : entry_at more (length w.records) ≡ e = get_or-append_seam w.records e [] no_entry in
            let at : entry_at more v ≡ e = ap (λ n. entry_at more n) (sym is ∙ last) ∙ new in
            let put : Contains k.put (name.Staged v id) = subst (λ n. Contains k.put (name.Staged n id)) is (p.known version id text kept) in
            subst (λ (f : Entry). Contains k.put (name.Staged v f.id)) (sym at) put
      ];
      taken = p.taken;
    }

pub puts-ratify : (version id : ℕ) (time : ℤ) (w x : WorldData) (k : Knowledge) (a : Ratify) → HoldsIn w k → MayRatify w.tells k version id time
    → RatifyTurn version id time w (Ok a) x → HasPutAll (alone w k) → HasPutAll (alone x (ratify_learned version k (Ok a) x))
puts-ratify version id time w x k ratify.Done h may t p =
    let P : WorldData → Type 0 = λ y. HasPutAll (alone y (ratify_learned version k (Ok ratify.Done) y)) in
    let last : version ≡ length w.records = omega (arith, may.below, seen_length w k h, t.answer.next) in
    subst P (sym t.after) (ratified_more w k version id time may.bytes last may.kept p)
puts-ratify version id time w x k (ratify.Lost latest) h may t p =
    let P : WorldData → Type 0 = λ y. HasPutAll (alone y (ratify_learned version k (Ok (ratify.Lost latest)) y)) in subst P (sym t.after) p
puts-ratify version id time w x k (ratify.Full latest) h may t p =
    let P : WorldData → Type 0 = λ y. HasPutAll (alone y (ratify_learned version k (Ok (ratify.Full latest)) y)) in subst P (sym t.after) p
puts-ratify version id time w x k (ratify.Backlog latest reported) h may t p =
    let P : WorldData → Type 0 = λ y. HasPutAll (alone y (ratify_learned version k (Ok (ratify.Backlog latest reported)) y)) in subst P (sym t.after) p

pub puts-publish : (version : ℕ) (text : List ℕ) (w x : WorldData) (k : Knowledge) (r : Result Put StepFault) → IsTrue w.tells → version < 2 ^ 64
    → PublishTurn version text w r x → HasPutAll (alone w k) → HasPutAll (alone x (publish_learned version k r))
puts-publish version text w x k (Ok put.Done) tells small t p =
    let P : WorldData → Type 0 = λ y. HasPutAll (alone y (publish_learned version k (Ok put.Done))) in
    subst P (sym t.done) (world_published w k.put k.kept k.takens version text tells small p)
puts-publish version text w x k (Ok put.There) tells small t p =
    let P : WorldData → Type 0 = λ y. HasPutAll (alone y (publish_learned version k (Ok put.There))) in subst P (sym t.same) p
puts-publish version text w x k (Err Memory) tells small t p = let P : WorldData → Type 0 = λ y. HasPutAll (alone y k) in subst P (sym t) p
puts-publish version text w x k (Err (Fault at)) tells small t p =
    let n : LogName = name.Published version in
    let m : Knowledge = fault_noted at k in
    let done : HasPutAll (alone (told_put w n text) m) = world_published w k.put k.kept k.takens version text tells small p in
    put_doubt w (after_put w n text) x m t.1 p (put_case w (told_put w n text) m (stands w n) p done)

pub puts-report : (count : ℕ) (w x : WorldData) (k : Knowledge) (answer : ℕ) → ReportTurn count w (Ok answer) x → HasPutAll (alone w k) → HasPutAll (alone x (report_learned k (Ok answer)))
puts-report count w x k answer t p = let P : WorldData → Type 0 = λ y. HasPutAll (alone y (report_learned k (Ok answer))) in subst P (sym t.after) p

pub puts-clear : (version id : ℕ) (w x : WorldData) (k : Knowledge) (r : Result Gone StepFault) → IsTrue w.tells → version < 2 ^ 64 → id < 2 ^ 128
    → ClearTurn version id w r x → HasPutAll (alone w k) → HasPutAll (alone x (clear_learned version id k r))
puts-clear version id w x k (Ok gone.Done) tells small tiny t p =
    let P : WorldData → Type 0 = λ y. HasPutAll (alone y (clear_learned version id k (Ok gone.Done))) in
    subst P (sym t.done) (world_dropped w k.put k.kept k.takens version id tells small tiny p)
puts-clear version id w x k (Ok gone.Absent) tells small tiny t p =
    let P : WorldData → Type 0 = λ y. HasPutAll (alone y (clear_learned version id k (Ok gone.Absent))) in subst P (sym t.same) p
puts-clear version id w x k (Err Memory) tells small tiny t p = let P : WorldData → Type 0 = λ y. HasPutAll (alone y k) in subst P (sym t) p
puts-clear version id w x k (Err (Fault at)) tells small tiny t p =
    let m : Knowledge = fault_noted at k in
    put_doubt w (told_drop w (name.Staged version id)) x m t.1 p (world_dropped w k.put k.kept k.takens version id tells small tiny p)
