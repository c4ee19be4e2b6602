-- Names and their texts, one to one.
use Rattle.std.proofs.Common.{◌≡◌, ℕ, ◌^◌, ◌<◌, ◌≤◌, ◌==◌, List, length, Bool, true, false, if◌then◌else◌, Some, None, inl, inr, arith, refl, sym, ap, subst, ◌∙◌}
use Rattle.std.proofs.lemmas.Bool.{eqb-true}
use Rattle.log_names.specs.declared.LogName.{LogName}
use Rattle.log_names.specs.declared.LogName.TheVariants.{Published, Staged, Checkpoint, Parquet, Other}
use Rattle.log_names.specs.Texts.{HasForm, IsNameOf, IsParquetText, name_text, InRange}
use Rattle.log_names.specs.Reading.{published_in, staged_in, checkpoint_in, whole_parquet_in, parquet_in, part_parquet_in, name_of}
use Rattle.log_names.proofs.Forms.{FitsOr, reads_published, reads_staged, reads_checkpoint, reads_whole_parquet, reads_parquet, reads_part_parquet, published_fits, staged_fits, checkpoint_fits, whole_parquet_fits, parquet_fits, part_parquet_fits, length-published_text, length-staged_text, length-checkpoint_text, length-whole_parquet_text, length-parquet_text, length-part_parquet_text}

reads_any_parquet : (bs : List ℕ) (version : ℕ) → version < 2 ^ 64 → IsParquetText bs version → name_of bs ≡ Parquet version
reads_any_parquet bs version small (inl whole) = reads_whole_parquet bs version small whole
reads_any_parquet bs version small (inr (inl (id, fits, e))) = reads_parquet bs version id small fits e
reads_any_parquet bs version small (inr (inr (part, parts, _, _, e))) = reads_part_parquet bs version part parts small e

-- a text of a name's form is read as the name
pub name_of-form : (bs : List ℕ) (n : LogName) → HasForm bs n → name_of bs ≡ n
name_of-form bs (Published version) h = reads_published bs version h.0 h.1
name_of-form bs (Staged version id) h = reads_staged bs version id h.0 h.1 h.2
name_of-form bs (Checkpoint version id) h = reads_checkpoint bs version id h.0 h.1 h.2
name_of-form bs (Parquet version) h = reads_any_parquet bs version h.0 h.1
name_of-form bs Other h = absurd h

by_length : (t : Bool) (bs : List ℕ) (n m : LogName) → (t ≡ true → FitsOr bs n) → FitsOr bs m → FitsOr bs (if t then n else m)
by_length true bs n m fits other = fits refl
by_length false bs n m fits other = other

name_fits : (bs : List ℕ) → FitsOr bs (name_of bs)
unfolding name_of
name_fits bs =
    by_length (length bs == 25) bs (published_in bs) _ (λ t. published_fits bs (eqb-true _ _ t))
    (by_length (length bs == 78) bs (staged_in bs) _ (λ t. staged_fits bs (eqb-true _ _ t))
    (by_length (length bs == 73) bs (checkpoint_in bs) _ (λ t. checkpoint_fits bs (eqb-true _ _ t))
    (by_length (length bs == 39) bs (whole_parquet_in bs) _ (λ t. whole_parquet_fits bs (eqb-true _ _ t))
    (by_length (length bs == 76) bs (parquet_in bs) _ (λ t. parquet_fits bs (eqb-true _ _ t))
    (by_length (length bs == 61) bs (part_parquet_in bs) Other (λ t. part_parquet_fits bs (eqb-true _ _ t)) (inr refl))))))

other_has_none : (bs : List ℕ) → name_of bs ≡ Other → (m : LogName) → HasForm bs m → ⊥
other_has_none bs e m h = let P : LogName → Type 0 = λ n. HasForm bs n in subst P (sym (name_of-form bs m h) ∙ e) h

settled : (bs : List ℕ) → FitsOr bs (name_of bs) → IsNameOf bs (name_of bs)
settled bs (inl form) = inl form
settled bs (inr other) = inr (other, other_has_none bs other)

-- what a text is read as is its name
pub name_of-meaning : (bs : List ℕ) → IsNameOf bs (name_of bs)
name_of-meaning bs = settled bs (name_fits bs)

form_of_text : (n : LogName) (bs : List ℕ) → InRange n → name_text n ≡ Some bs → HasForm bs n
form_of_text (Published version) bs small e = (small, (cc))
form_of_text (Staged version id) bs small e = (small.0, small.1, (cc))
form_of_text (Checkpoint version id) bs small e = (small.0, small.1, (cc))
form_of_text (Parquet version) bs small e = cc
form_of_text Other bs small e = cc

-- the text of a name is read as the name
pub name_of-text : (n : LogName) (bs : List ℕ) → InRange n → name_text n ≡ Some bs → name_of bs ≡ n
name_of-text n bs small e = name_of-form bs n (form_of_text n bs small e)

text_of_form : (n : LogName) (bs text : List ℕ) → name_text n ≡ Some text → HasForm bs n → bs ≡ text
text_of_form (Published version) bs text e h = h.1 ∙ (cc)
text_of_form (Staged version id) bs text e h = h.2 ∙ (cc)
text_of_form (Checkpoint version id) bs text e h = h.2 ∙ (cc)
text_of_form (Parquet version) bs text e h = cc
text_of_form Other bs text e h = cc

-- a text that is read as a name with a text is that text
pub text-name_of : (bs text : List ℕ) → name_text (name_of bs) ≡ Some text → bs ≡ text
text-name_of bs text e =
    elim (name_of-meaning bs) [
      | inl form ↦ text_of_form (name_of bs) bs text e form
      | inr none ↦ let missing : None ≡ Some text = sym (ap name_text none.0) ∙ e in cc
    ]

-- two names of one text are equal
pub same_name : (a b : LogName) (bs : List ℕ) → InRange a → InRange b → name_text a ≡ Some bs → name_text b ≡ Some bs → a ≡ b
same_name a b bs small_a small_b e f = sym (name_of-text a bs small_a e) ∙ name_of-text b bs small_b f

in_range_of_form : (n : LogName) (bs : List ℕ) → HasForm bs n → InRange n
in_range_of_form (Published version) bs h = h.0
in_range_of_form (Staged version id) bs h = (h.0, h.1)
in_range_of_form (Checkpoint version id) bs h = (h.0, h.1)
in_range_of_form (Parquet version) bs h = h.0
in_range_of_form Other bs h = tt

-- the numbers of a name that was read fit their types
pub name_of-in_range : (bs : List ℕ) → InRange (name_of bs)
name_of-in_range bs =
    elim (name_of-meaning bs) [
      | inl form ↦ in_range_of_form (name_of bs) bs form
      | inr none ↦ let P : LogName → Type 0 = InRange in subst P (sym none.0) tt
    ]

parquet_short : (bs : List ℕ) (version : ℕ) → IsParquetText bs version → length bs ≤ 78
parquet_short bs version (inl whole) = omega (arith, ap length whole, length-whole_parquet_text version)
parquet_short bs version (inr (inl (id, _, e))) = omega (arith, ap length e, length-parquet_text version id)
parquet_short bs version (inr (inr (part, parts, _, _, e))) = omega (arith, ap length e, length-part_parquet_text version part parts)

-- no form has more than 78 bytes
pub form_short : (bs : List ℕ) (n : LogName) → HasForm bs n → length bs ≤ 78
form_short bs (Published version) h = omega (arith, ap length h.1, length-published_text version)
form_short bs (Staged version id) h = omega (arith, ap length h.2, length-staged_text version id)
form_short bs (Checkpoint version id) h = omega (arith, ap length h.2, length-checkpoint_text version id)
form_short bs (Parquet version) h = parquet_short bs version h.1
form_short bs Other h = absurd h

-- a text has one name
pub only_name : (bs : List ℕ) (n : LogName) → IsNameOf bs n → name_of bs ≡ n
only_name bs n (inl form) = name_of-form bs n form
only_name bs n (inr none) =
    elim (name_fits bs) [
      | inl form ↦ absurd (none.1 (name_of bs) form)
      | inr other ↦ other ∙ sym none.0
    ]
