-- What stands after a file was put or deleted, by the names of the log.
use Rattle.std.proofs.Common.{◌≡◌, ◌≢◌, ◌<◌, ◌^◌, ◌&&◌, ℕ, Bool, true, false, cond, List, Option, Some, None, refl, sym, ◌∙◌, ap, subst, rules, arith}
use Rattle.std.specs.Prelude.{option_and_then, if◌then◌else◌, is_some, nat_lt}
use Rattle.std.proofs.lemmas.Bool.{ltb-true, lt-ltb}
use Rattle.log_names.specs.declared.LogName.{LogName}
use Rattle.log_names.specs.declared.LogName.TheVariants.{Published, Staged, Checkpoint, Parquet, Other}
use Rattle.log_names.specs.Texts.{name_text, InRange}
use Rattle.log_names.proofs.Names.{same_name}
use Rattle.object_store.specs.Files.{Files, file_of, with_file, without_file}
use Rattle.object_store.proofs.FileLaws.{file_of-with_file_same, file_of-with_file_other, file_of-without_file_same, file_of-without_file_other}
use Rattle.table_model.specs.Files.{fits, file_at, put_at, put_text, drop_at, drop_text}

pub both_true : (a b : Bool) → (a && b) ≡ true → (a ≡ true) × (b ≡ true)
both_true true b h = (refl, h)
both_true false b h = cc

-- the test of a range, and the range
pub in_range : (n : LogName) → fits n ≡ true → InRange n
in_range (Published version) h = ltb-true _ _ h
in_range (Staged version id) h = let p = both_true _ _ h in (ltb-true _ _ p.0, ltb-true _ _ p.1)
in_range (Checkpoint version id) h = let p = both_true _ _ h in (ltb-true _ _ p.0, ltb-true _ _ p.1)
in_range (Parquet version) h = ltb-true _ _ h
in_range Other h = tt

pub fits_published : (version : ℕ) → version < 2 ^ 64 → fits (Published version) ≡ true
fits_published version h = lt-ltb _ _ h

pub fits_staged : (version id : ℕ) → version < 2 ^ 64 → id < 2 ^ 128 → fits (Staged version id) ≡ true
fits_staged version id h g = rw (lt-ltb version (2 ^ 64) h, lt-ltb id (2 ^ 128) g) refl

pub file_at-put_at : (files : Files) (n : LogName) (text bytes : List ℕ) → fits n ≡ true → name_text n ≡ Some text
    → file_at (put_at files n bytes) n ≡ Some bytes
unfolding file_at put_at
file_at-put_at files n text bytes f t = rw (f, t) (file_of-with_file_same files text bytes)

put_other : (files : Files) (n q : LogName) (bytes : List ℕ) (b : Bool) (o p : Option (List ℕ))
    → fits n ≡ true → q ≢ n → fits q ≡ b → name_text q ≡ o → name_text n ≡ p
    → file_at (put_at files n bytes) q ≡ file_at files q
unfolding file_at put_at
put_other files n q bytes false o p f differ b t s = rw b refl
put_other files n q bytes true None p f differ b t s = rw (b, t) refl
put_other files n q bytes true (Some x) None f differ b t s = rw s refl
put_other files n q bytes true (Some x) (Some y) f differ b t s =
    rw (b, t, s) (file_of-with_file_other files y bytes x (λ e. differ (same_name q n x (in_range q b) (in_range n f) t (s ∙ ap Some (sym e)))))

pub file_at-put_at_other : (files : Files) (n q : LogName) (bytes : List ℕ) → fits n ≡ true → q ≢ n
    → file_at (put_at files n bytes) q ≡ file_at files q
file_at-put_at_other files n q bytes f differ = put_other files n q bytes _ _ _ f differ refl refl refl

drop_case : (files : Files) (n : LogName) (text : List ℕ) (b : Bool) → fits n ≡ b → name_text n ≡ Some text → file_at (drop_at files n) n ≡ None
unfolding file_at drop_at
drop_case files n text false f t = rw f refl
drop_case files n text true f t = rw (f, t) (file_of-without_file_same files text)

pub file_at-drop_at : (files : Files) (n : LogName) (text : List ℕ) → name_text n ≡ Some text
    → file_at (drop_at files n) n ≡ None
file_at-drop_at files n text t = drop_case files n text (fits n) refl t

drop_other : (files : Files) (n q : LogName) (b : Bool) (o p : Option (List ℕ))
    → fits n ≡ true → q ≢ n → fits q ≡ b → name_text q ≡ o → name_text n ≡ p
    → file_at (drop_at files n) q ≡ file_at files q
unfolding file_at drop_at
drop_other files n q false o p f differ b t s = rw b refl
drop_other files n q true None p f differ b t s = rw (b, t) refl
drop_other files n q true (Some x) None f differ b t s = rw s refl
drop_other files n q true (Some x) (Some y) f differ b t s =
    rw (b, t, s) (file_of-without_file_other files y x (λ e. differ (same_name q n x (in_range q b) (in_range n f) t (s ∙ ap Some (sym e)))))

pub file_at-drop_at_other : (files : Files) (n q : LogName) → fits n ≡ true → q ≢ n
    → file_at (drop_at files n) q ≡ file_at files q
file_at-drop_at_other files n q f differ = drop_other files n q _ _ _ f differ refl refl refl

-- by the text of a name
pub file_at-text : (files : Files) (n : LogName) (text : List ℕ) → fits n ≡ true → name_text n ≡ Some text → file_at files n ≡ file_of files text
unfolding file_at
file_at-text files n text f t = rw (f, t) refl

pub put_at-text : (files : Files) (n : LogName) (text bytes : List ℕ) → name_text n ≡ Some text → put_at files n bytes ≡ with_file files text bytes
unfolding put_at
put_at-text files n text bytes t = rw t refl

pub drop_at-text : (files : Files) (n : LogName) (text : List ℕ) → name_text n ≡ Some text → drop_at files n ≡ without_file files text
unfolding drop_at
drop_at-text files n text t = rw t refl
