-- The names that are listed are those that stand.
use Rattle.std.proofs.Common.{◌≡◌, ◌≢◌, ◌<◌, ◌≤◌, ◌+◌, ◌^◌, ◌⊎◌, inl, inr, ℕ, zero, suc, Bool, true, false, cond, List, [], ◌∷◌, length, refl, sym, ◌∙◌, ap, subst, arith, rules, Option, Some, None, IsTrue, map, filter, max}
use Rattle.std.specs.Prelude.{Contains, All, slice_index_or, filter_map, is_some, option_and_then, if◌then◌else◌}
use Rattle.log_names.specs.declared.LogName.{LogName}
use Rattle.log_names.specs.declared.LogName.TheVariants as name
use Rattle.log_names.specs.Texts.{name_text, InRange, published_text}
use Rattle.log_names.specs.Reading.{name_of}
use Rattle.log_names.proofs.Names.{name_of-text, text-name_of, name_of-in_range}
use Rattle.object_store.specs.Files.{Files, file_of, names_of, stands as text_stands}
use Rattle.object_store.proofs.FileLaws.{names_of-Decides}
use Rattle.table_model.specs.Files.{fits, file_at, stands_at}
use Rattle.table_model.specs.Turns.{listing, is_log_name}
use Rattle.table_model.specs.Learned.{shown_in, above_published}
use Rattle.table_model.proofs.FileLaws.{in_range}
use Rattle.table_model.proofs.Worlds.{below_or_above}
use Rattle.std.proofs.lemmas.Bool.{lt-ltb}

-- an element, by recursion
abbrev pub In : {A : Type 0} → List A → A → Type 0
In [] x = ⊥
In (y ∷ ys) x = (y ≡ x) ⊎ In ys x

pub in-Contains : {A : Type 0} (xs : List A) (x : A) → Contains xs x → In xs x
in-Contains [] x (k, less, e) = absurd (omega arith)
in-Contains (y ∷ ys) x (zero, less, e) = inl e
in-Contains (y ∷ ys) x (suc k, less, e) = inr (in-Contains ys x (k, omega arith, e))

later_place : {A : Type 0} (y : A) (ys : List A) (x : A) → Contains ys x → Contains (y ∷ ys) x
later_place y ys x (k, less, e) = (suc k, omega arith, e)

pub Contains-in : {A : Type 0} (xs : List A) (x : A) → In xs x → Contains xs x
Contains-in [] x h = absurd h
Contains-in (y ∷ ys) x (inl e) = (0, omega arith, e)
Contains-in (y ∷ ys) x (inr h) = later_place y ys x (Contains-in ys x h)

abbrev Source : List (List ℕ) → LogName → Type 0
Source texts n = (text : List ℕ) × (In texts text) × (name_of text ≡ n) × (is_log_name n ≡ true)

more_source : (t : List ℕ) (ts : List (List ℕ)) (n : LogName) → Source ts n → Source (t ∷ ts) n
more_source t ts n (text, there, e, log) = (text, inr there, e, log)

-- a name that was kept, and whence it came
from_filter : (t : List ℕ) (ts : List (List ℕ)) (n : LogName) (b : Bool) → is_log_name (name_of t) ≡ b
    → (In (filter is_log_name (map name_of ts)) n → Source ts n)
    → In (cond b (name_of t ∷ filter is_log_name (map name_of ts)) (filter is_log_name (map name_of ts))) n → Source (t ∷ ts) n
from_filter t ts n true e rest (inl here) = (t, inl refl, here, sym (ap is_log_name here) ∙ e)
from_filter t ts n true e rest (inr there) = more_source t ts n (rest there)
from_filter t ts n false e rest there = more_source t ts n (rest there)

listed_source : (ts : List (List ℕ)) (n : LogName) → In (filter is_log_name (map name_of ts)) n → Source ts n
listed_source [] n h = absurd h
listed_source (t ∷ ts) n h = from_filter t ts n (is_log_name (name_of t)) refl (listed_source ts n) h

-- a text that is a name of the log is kept
kept_filter : (x : LogName) (xs : List LogName) (n : LogName) (b : Bool) → is_log_name x ≡ b → In xs n → In (cond b (x ∷ xs) xs) n
kept_filter x xs n true e h = inr h
kept_filter x xs n false e h = h

first_kept : (x : LogName) (xs : List LogName) (n : LogName) (b : Bool) → is_log_name x ≡ b → x ≡ n → is_log_name n ≡ true → In (cond b (x ∷ xs) xs) n
first_kept x xs n true e same log = inl same
first_kept x xs n false e same log = let k : false ≡ true = sym e ∙ ap is_log_name same ∙ log in cc

source_listed : (ts : List (List ℕ)) (text : List ℕ) (n : LogName) → In ts text → name_of text ≡ n → is_log_name n ≡ true
    → In (filter is_log_name (map name_of ts)) n
source_listed [] text n h e log = absurd h
source_listed (t ∷ ts) text n (inl same) e log =
    first_kept (name_of t) (filter is_log_name (map name_of ts)) n _ refl (ap name_of same ∙ e) log
source_listed (t ∷ ts) text n (inr there) e log =
    kept_filter (name_of t) (filter is_log_name (map name_of ts)) n _ refl (source_listed ts text n there e log)

-- the range of a name passes the test
pub fits_of : (n : LogName) → InRange n → fits n ≡ true
fits_of (name.Published version) h = lt-ltb _ _ h
fits_of (name.Staged version id) h = rw (lt-ltb version (2 ^ 64) h.0, lt-ltb id (2 ^ 128) h.1) refl
fits_of (name.Checkpoint version id) h = rw (lt-ltb version (2 ^ 64) h.0, lt-ltb id (2 ^ 128) h.1) refl
fits_of (name.Parquet version) h = lt-ltb _ _ h
fits_of name.Other h = refl

there_by_text : (files : Files) (n : LogName) (t : List ℕ) → fits n ≡ true → name_text n ≡ Some t → is_some (file_of files t) ≡ true → stands_at files n ≡ true
unfolding file_at
there_by_text files n t f e h = rw (f, e) h

text_by_there : (files : Files) (n : LogName) (t : List ℕ) (b : Bool) → fits n ≡ b → name_text n ≡ Some t → stands_at files n ≡ true
    → (fits n ≡ true) × (is_some (file_of files t) ≡ true)
unfolding file_at
text_by_there files n t false f e h = let k : false ≡ true = rw f at h in cc
text_by_there files n t true f e h = (f, rw (f, e) at h)

-- a name that is listed stands
pub listing-stands : (files : Files) (n : LogName) (t : List ℕ) → name_text n ≡ Some t → Contains (listing files) n → stands_at files n ≡ true
unfolding listing
listing-stands files n t e h =
    let s = listed_source (names_of files) n (in-Contains _ n h) in
    let same : s.0 ≡ t = text-name_of s.0 t (ap name_text s.2 ∙ e) in
    let P : LogName → Type 0 = InRange in
    let range : InRange n = subst P s.2 (name_of-in_range s.0) in
    let there : is_some (file_of files s.0) ≡ true = (names_of-Decides files s.0).1 (Contains-in _ s.0 s.1) in
    let Q : List ℕ → Type 0 = λ text. is_some (file_of files text) ≡ true in
    there_by_text files n t (fits_of n range) e (subst Q same there)

-- a name that stands is listed
pub stands-listing : (files : Files) (n : LogName) (t : List ℕ) → name_text n ≡ Some t → is_log_name n ≡ true → stands_at files n ≡ true → Contains (listing files) n
unfolding listing
stands-listing files n t e log h =
    let p = text_by_there files n t _ refl e h in
    Contains-in _ n (source_listed (names_of files) t n (in-Contains _ t ((names_of-Decides files t).0 p.1)) (name_of-text n t (in_range n p.0) e) log)

-- the greatest published version that is listed
above_head : (n : LogName) (v m : ℕ) → v < m → v < above_published n m
above_head (name.Published version) v m h = omega arith
above_head (name.Staged version id) v m h = h
above_head (name.Checkpoint version id) v m h = h
above_head (name.Parquet version) v m h = h
above_head name.Other v m h = h

head_above : (n : LogName) (v m : ℕ) → n ≡ name.Published v → v < above_published n m
head_above n v m e = let P : LogName → Type 0 = λ x. v < above_published x m in subst P (sym e) (omega arith)

pub shown_above : (names : List LogName) (v : ℕ) → In names (name.Published v) → v < shown_in names
shown_above [] v h = absurd h
shown_above (n ∷ ns) v (inl e) = head_above n v (shown_in ns) e
shown_above (n ∷ ns) v (inr h) = above_head n v (shown_in ns) (shown_above ns v h)

abbrev Above : List LogName → ℕ → Type 0
Above names v = (u : ℕ) × (In names (name.Published u)) × (v ≤ u)

above_more : (n : LogName) (ns : List LogName) (v : ℕ) → Above ns v → Above (n ∷ ns) v
above_more n ns v (u, there, le) = (u, inr there, le)

above_here : (n : LogName) (ns : List LogName) (v : ℕ) → (v < shown_in ns → Above ns v) → v < above_published n (shown_in ns) → Above (n ∷ ns) v
above_here (name.Published version) ns v rest h =
    elim (below_or_above v (shown_in ns)) [
      | inl below ↦ above_more _ ns v (rest below)
      | inr above ↦ (version, inl refl, omega arith)
    ]
above_here (name.Staged version id) ns v rest h = above_more _ ns v (rest h)
above_here (name.Checkpoint version id) ns v rest h = above_more _ ns v (rest h)
above_here (name.Parquet version) ns v rest h = above_more _ ns v (rest h)
above_here name.Other ns v rest h = above_more _ ns v (rest h)

pub shown_below : (names : List LogName) (v : ℕ) → v < shown_in names → Above names v
shown_below [] v h = absurd (omega arith)
shown_below (n ∷ ns) v h = above_here n ns v (shown_below ns v) h

-- a name that its text is read as fits
pub fits-name_of : (n : LogName) (text : List ℕ) → name_of text ≡ n → fits n ≡ true
fits-name_of n text e = let P : LogName → Type 0 = InRange in fits_of n (subst P e (name_of-in_range text))

pub listing-names_of : (files : Files) → listing files ≡ filter is_log_name (map name_of (names_of files))
unfolding listing
listing-names_of files = refl

-- a name that stands has its text among the names of the folder
pub listed_text : (files : Files) (n : LogName) (t : List ℕ) → name_text n ≡ Some t → stands_at files n ≡ true → (In (names_of files) t) × (name_of t ≡ n)
listed_text files n t e h =
    let p = text_by_there files n t _ refl e h in
    (in-Contains _ t ((names_of-Decides files t).0 p.1), name_of-text n t (in_range n p.0) e)
