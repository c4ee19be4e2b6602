-- What the store did, as a turn of the world.
use Rattle.std.proofs.Common.{◌≡◌, ◌≤◌, ◌+◌, ◌-◌, inl, inr, ℕ, Bool, true, false, cond, List, refl, sym, ◌∙◌, ap, subst, arith, Option, Some, None, IsTrue, filter, map}
use Rattle.std.specs.Prelude.{is_some, IsSome, Result, Ok, Err, IfSome, Vec, MatchResult}
use Rattle.std.specs.declared.alloc.Global.{Global}
use Rattle.log_names.specs.declared.LogName.{LogName}
use Rattle.log_names.specs.declared.LogName.TheVariants as name
use Rattle.log_names.specs.Texts.{name_text}
use Rattle.log_names.specs.Reading.{name_of}
use Rattle.commit_catalog.specs.Records.{CatalogData}
use Rattle.object_store.specs.Files.{Files, file_of, with_file, without_file, names_of, put_whole, stands as text_stands}
use Rattle.object_store.specs.Telling.{PutsFile, StandsAlready, RemovesFile, IsAbsent, HalfDone, GetAnswers, PutAnswers, DeleteAnswers}
use Rattle.object_store.specs.declared.store.Bytes.{Bytes}
use Rattle.object_store.specs.declared.store.Bytes.TheVariants as bytes
use Rattle.object_store.specs.declared.store.Put.{Put}
use Rattle.object_store.specs.declared.store.Put.TheVariants as put
use Rattle.object_store.specs.declared.store.Gone.{Gone}
use Rattle.object_store.specs.declared.store.Gone.TheVariants as gone
use Rattle.table_model.specs.declared.answers.StepFault.{StepFault}
use Rattle.table_model.specs.declared.answers.StepFault.TheVariants.{Fault, Memory}
use Rattle.table_model.specs.Files.{fits, put_at, stands_at}
use Rattle.table_model.specs.World.{WorldData, stands, told_put, told_drop}
use Rattle.table_model.specs.Turns.{IsFailed, IsInDoubt, Lists, Finds, PutsNew, FindsThere, Deletes, FindsAbsent, found_of, GetTurn, ListTurn, PublishTurn, ClearTurn, after_put, is_log_name}
use Rattle.table_model.proofs.FileLaws.{file_at-text, put_at-text, drop_at-text}
use Rattle.table_model.proofs.Listing.{fits-name_of, listing-names_of}
use Rattle.table_world.specs.Worlds.{world_of}

-- the world after: the same catalogue, other files and another count
abbrev after : CatalogData → Files → ℕ → ℕ → Bool → WorldData
after c files count first tells = world_of c files count first tells

same_world : (c : CatalogData) (files new : Files) (count now first : ℕ) (tells : Bool) → new ≡ files → now ≡ count
    → world_of c new now first tells ≡ world_of c files count first tells
same_world c files new count now first tells e f =
    ap (λ (x : Files). world_of c x now first tells) e ∙ ap (λ (n : ℕ). world_of c files n first tells) f

rose : (count now first : ℕ) → first ≤ count → now ≡ count + 1 → now - first ≡ count - first + 1
rose count now first le less = omega arith

pub read_failed : (c : CatalogData) (files new : Files) (count now first : ℕ) (tells : Bool) → first ≤ count → new ≡ files → now ≡ count + 1
    → IsFailed (world_of c files count first tells) (world_of c new now first tells)
read_failed c files new count now first tells le e less = record {
  rose = rose count now first le less;
  same = ap (λ (x : Files). world_of c x now first tells) e;
}

-- a name and its text
pub record IsTextOf (n : LogName) (text : List ℕ) : Type 0 where
  pub is : name_text n ≡ Some text
  pub fit : fits n ≡ true

-- what `text` and `unwrap` gave
pub text_of : (n : LogName) (r : Option (List ℕ)) (t text : List ℕ) → r ≡ name_text n → IfSome r (λ x. name_of x ≡ n) → r ≡ Some t → text ≡ t → IsTextOf n text
text_of n r t text e back unwrapped same =
    let P : Option (List ℕ) → Type 0 = λ o. IfSome o (λ x. name_of x ≡ n) in
    record {
      is = sym e ∙ unwrapped ∙ ap Some (sym same);
      fit = fits-name_of n t (subst P unwrapped back);
    }

pub found : (c : CatalogData) (files new : Files) (count now first : ℕ) (tells : Bool) (n : LogName) (text : List ℕ) (o : Option (List ℕ))
    → IsTextOf n text → (IsTrue tells → file_of files text ≡ o) → new ≡ files → now ≡ count
    → Finds (world_of c files count first tells) n o (world_of c new now first tells)
found c files new count now first tells n text o t h e f = record {
  is = λ telling. file_at-text files n text t.fit t.is ∙ h telling;
  same = same_world c files new count now first tells e f;
}

pub listed : (c : CatalogData) (files new : Files) (count now first : ℕ) (tells : Bool) (texts : List (List ℕ)) (names : List LogName)
    → (IsTrue tells → texts ≡ names_of files) → names ≡ filter is_log_name (map name_of texts) → new ≡ files → now ≡ count
    → Lists (world_of c files count first tells) names (world_of c new now first tells)
listed c files new count now first tells texts names h g e f = record {
  names_are = λ telling. g ∙ ap (λ ts. filter is_log_name (map name_of ts)) (h telling) ∙ sym (listing-names_of files);
  same = same_world c files new count now first tells e f;
}

absent_at : (files : Files) (n : LogName) (text : List ℕ) → IsTextOf n text → file_of files text ≡ None → stands_at files n ≡ false
absent_at files n text t h = ap is_some (file_at-text files n text t.fit t.is ∙ h)

there_some : (o : Option (List ℕ)) → IsSome o → is_some o ≡ true
there_some None h = cc
there_some (Some b) h = refl

there_at : (files : Files) (n : LogName) (text : List ℕ) → IsTextOf n text → IsSome (file_of files text) → stands_at files n ≡ true
there_at files n text t h = ap is_some (file_at-text files n text t.fit t.is) ∙ there_some _ h

put_world : (c : CatalogData) (files new : Files) (count now first : ℕ) (tells : Bool) (n : LogName) (text bytes : List ℕ) → IsTextOf n text
    → new ≡ cond tells (with_file files text bytes) files → now ≡ count
    → world_of c new now first tells ≡ told_put (world_of c files count first tells) n bytes
put_world c files new count now first tells n text bytes t e f =
    same_world c (cond tells (with_file files text bytes) files) new count now first tells e f
    ∙ ap (λ (x : Files). world_of c (cond tells x files) count first tells) (sym (put_at-text files n text bytes t.is))

pub put_done : (c : CatalogData) (files new : Files) (count now first : ℕ) (tells : Bool) (n : LogName) (text bytes : List ℕ) → IsTextOf n text
    → PutsFile tells files text bytes new → now ≡ count → PutsNew (world_of c files count first tells) n bytes (world_of c new now first tells)
put_done c files new count now first tells n text bytes t h f = record {
  absent = λ telling. absent_at files n text t (h.absent telling);
  done = put_world c files new count now first tells n text bytes t h.files f;
}

pub put_there : (c : CatalogData) (files new : Files) (count now first : ℕ) (tells : Bool) (n : LogName) (text : List ℕ) → IsTextOf n text
    → StandsAlready tells files text new → now ≡ count → FindsThere (world_of c files count first tells) n (world_of c new now first tells)
put_there c files new count now first tells n text t h f = record {
  there = λ telling. there_at files n text t (h.there telling);
  same = same_world c files new count now first tells h.files f;
}

by_cases : (t b : Bool) (files more : Files) → cond t (cond b files more) files ≡ cond b files (cond t more files)
by_cases true b files more = refl
by_cases false true files more = refl
by_cases false false files more = refl

in_record : (b : Bool) (w : WorldData) (files : Files) (n : ℕ) → record (cond b w (record w { files = files })) { tally = n } ≡ record w { files = cond b w.files files; tally = n }
in_record true w files n = refl
in_record false w files n = refl

pub put_failed : (c : CatalogData) (files new : Files) (count now first : ℕ) (tells : Bool) (n : LogName) (text bytes : List ℕ) → IsTextOf n text
    → first ≤ count → HalfDone tells files (put_whole files text bytes) new → now ≡ count + 1
    → IsInDoubt (world_of c files count first tells) (after_put (world_of c files count first tells) n bytes) (world_of c new now first tells)
put_failed c files new count now first tells n text bytes t le h less = record {
  rose = rose count now first le less;
  files = elim h [
    | inl same ↦ inl (ap (λ (x : Files). world_of c x now first tells) same)
    | inr done ↦ inr (
        let w : WorldData = world_of c files count first tells in
        let test : text_stands files text ≡ stands w n = ap is_some (sym (file_at-text files n text t.fit t.is)) in
        let put : with_file files text bytes ≡ put_at files n bytes = sym (put_at-text files n text bytes t.is) in
        let is : new ≡ cond (stands w n) files (cond tells (put_at files n bytes) files) =
        done ∙ by_cases tells (text_stands files text) files (with_file files text bytes)
        ∙ ap (λ (b : Bool). cond b files (cond tells (with_file files text bytes) files)) test
        ∙ ap (λ (x : Files). cond (stands w n) files (cond tells x files)) put in
        ap (λ (x : Files). world_of c x now first tells) is
        ∙ sym (in_record (stands w n) w (cond tells (put_at files n bytes) files) (now - first)))
  ];
}

drop_world : (c : CatalogData) (files new : Files) (count now first : ℕ) (tells : Bool) (n : LogName) (text : List ℕ) → IsTextOf n text
    → new ≡ cond tells (without_file files text) files → now ≡ count
    → world_of c new now first tells ≡ told_drop (world_of c files count first tells) n
drop_world c files new count now first tells n text t e f =
    same_world c (cond tells (without_file files text) files) new count now first tells e f
    ∙ ap (λ (x : Files). world_of c (cond tells x files) count first tells) (sym (drop_at-text files n text t.is))

pub delete_done : (c : CatalogData) (files new : Files) (count now first : ℕ) (tells : Bool) (n : LogName) (text : List ℕ) → IsTextOf n text
    → RemovesFile tells files text new → now ≡ count → Deletes (world_of c files count first tells) n (world_of c new now first tells)
delete_done c files new count now first tells n text t h f = record {
  stood = λ telling. there_at files n text t (h.there telling);
  done = drop_world c files new count now first tells n text t h.files f;
}

pub delete_absent : (c : CatalogData) (files new : Files) (count now first : ℕ) (tells : Bool) (n : LogName) (text : List ℕ) → IsTextOf n text
    → IsAbsent tells files text new → now ≡ count → FindsAbsent (world_of c files count first tells) n (world_of c new now first tells)
delete_absent c files new count now first tells n text t h f = record {
  absent = λ telling. absent_at files n text t (h.absent telling);
  same = same_world c files new count now first tells h.files f;
}

pub delete_failed : (c : CatalogData) (files new : Files) (count now first : ℕ) (tells : Bool) (n : LogName) (text : List ℕ) → IsTextOf n text
    → first ≤ count → HalfDone tells files (without_file files text) new → now ≡ count + 1
    → IsInDoubt (world_of c files count first tells) (told_drop (world_of c files count first tells) n) (world_of c new now first tells)
delete_failed c files new count now first tells n text t le h less = record {
  rose = rose count now first le less;
  files = elim h [
    | inl same ↦ inl (ap (λ (x : Files). world_of c x now first tells) same)
    | inr done ↦ inr (ap (λ (x : Files). world_of c x now first tells)
        (done ∙ ap (λ (x : Files). cond tells x files) (sym (drop_at-text files n text t.is))))
  ];
}

-- the answers of the store

got : (tells : Bool) (files : Files) (text : List ℕ) (b : Bytes) → GetAnswers tells files text (Ok b) → IsTrue tells → file_of files text ≡ found_of b
got tells files text (bytes.Whole b) h = h
got tells files text bytes.Absent h = h

pub get_answer : (c : CatalogData) (files new : Files) (count now first : ℕ) (tells : Bool) (n : LogName) (text : List ℕ) (b : Bytes) → IsTextOf n text
    → GetAnswers tells files text (Ok b) → new ≡ files → now ≡ count → GetTurn n (world_of c files count first tells) (Ok b) (world_of c new now first tells)
get_answer c files new count now first tells n text b t h e f = found c files new count now first tells n text (found_of b) t (got tells files text b h) e f

pub publish_answer : (c : CatalogData) (files new : Files) (count now first : ℕ) (tells : Bool) (version : ℕ) (text bytes : List ℕ) (a : Put) → IsTextOf (name.Published version) text
    → PutAnswers tells files text bytes (Ok a) new → now ≡ count → PublishTurn version bytes (world_of c files count first tells) (Ok a) (world_of c new now first tells)
publish_answer c files new count now first tells version text b put.Done t h f = put_done c files new count now first tells (name.Published version) text b t h f
publish_answer c files new count now first tells version text b put.There t h f = put_there c files new count now first tells (name.Published version) text t h f

pub clear_answer : (c : CatalogData) (files new : Files) (count now first : ℕ) (tells : Bool) (version id : ℕ) (text : List ℕ) (a : Gone) → IsTextOf (name.Staged version id) text
    → DeleteAnswers tells files text (Ok a) new → now ≡ count → ClearTurn version id (world_of c files count first tells) (Ok a) (world_of c new now first tells)
clear_answer c files new count now first tells version id text gone.Done t h f = delete_done c files new count now first tells (name.Staged version id) text t h f
clear_answer c files new count now first tells version id text gone.Absent t h f = delete_absent c files new count now first tells (name.Staged version id) text t h f

pub list_answer : (c : CatalogData) (files new : Files) (count now first : ℕ) (tells : Bool) (texts : List (List ℕ)) (r : Result (Vec LogName Global) StepFault)
    → (IsTrue tells → texts ≡ names_of files) → MatchResult r (λ names. names.items ≡ filter is_log_name (map name_of texts)) (λ e. e ≡ Memory)
    → new ≡ files → now ≡ count → ListTurn (world_of c files count first tells) r (world_of c new now first tells)
list_answer c files new count now first tells texts (Ok names) h g e f = listed c files new count now first tells texts names.items h g e f
list_answer c files new count now first tells texts (Err Memory) h g e f = same_world c files new count now first tells e f
list_answer c files new count now first tells texts (Err (Fault at)) h g e f = cc
