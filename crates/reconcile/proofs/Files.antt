-- Files in their order.
use Rattle.std.proofs.Common.{◌≡◌, ℕ, Bool, true, false, ◌&&◌, List, refl, ap, sym, ◌∙◌}
use Rattle.std.specs.Prelude.{Option, Some, None}
use Rattle.std.specs.declared.cmp.Ordering.{Ordering}
use Rattle.std.specs.declared.cmp.Ordering.TheVariants.{Less, Equal, Greater}
use Rattle.std.specs.Ordering.{eq_by_cmp, is_gt, ordering_then}
use Rattle.std.specs.Cmp.{tied_then, tied_itself}
use Rattle.std.specs.Cmp.Lexicographic.{nat_list_cmp_total}
use Rattle.std.specs.FinMap as fin
use Rattle.action_types.specs.Files.{File, name_cmp, id_cmp, file_cmp, same_file}
use Rattle.reconcile.specs.ByFile.{plain_file, marked_file}
use Rattle.reconcile.proofs.Named.{exact_names}

tied_both : (a b : Ordering) → ordering_then a b ≡ Equal → (a ≡ Equal) × (b ≡ Equal)
tied_both Less b e = cc
tied_both Equal b e = (refl, e)
tied_both Greater b e = cc

exact_ids : (a b : Option (List ℕ)) → id_cmp a b ≡ Equal → a ≡ b
exact_ids None None e = refl
exact_ids None (Some y) e = cc
exact_ids (Some x) None e = cc
exact_ids (Some x) (Some y) e = ap (λ id. Some id) (exact_names x y e)

-- only equal files tie
pub exact_files : fin.IsAntisymmetric file_cmp
unfolding file_cmp
exact_files f g e =
    let tied = tied_both (name_cmp f.path g.path) (id_cmp f.id g.id) e in
    λ i. record { path = exact_names f.path g.path tied.0 i; id = exact_ids f.id g.id tied.1 i }

-- two files are one where their paths are and their ids are
pub same_file-parts : (f g : File) → same_file f g ≡ (eq_by_cmp name_cmp f.path g.path && eq_by_cmp id_cmp f.id g.id)
unfolding file_cmp
same_file-parts f g = sym (tied_then (name_cmp f.path g.path) (id_cmp f.id g.id))

and_true : (b : Bool) → (b && true) ≡ b
and_true true = refl
and_true false = refl

and_false : (b : Bool) → (b && false) ≡ false
and_false true = refl
and_false false = refl

pub same_plain : (p q : List ℕ) → same_file (plain_file p) (plain_file q) ≡ eq_by_cmp name_cmp p q
same_plain p q = same_file-parts (plain_file p) (plain_file q) ∙ and_true (eq_by_cmp name_cmp p q)

pub plain_marked : (p q id : List ℕ) → same_file (plain_file p) (marked_file q id) ≡ false
plain_marked p q id = same_file-parts (plain_file p) (marked_file q id) ∙ and_false (eq_by_cmp name_cmp p q)

pub marked_plain : (p id q : List ℕ) → same_file (marked_file p id) (plain_file q) ≡ false
marked_plain p id q = same_file-parts (marked_file p id) (plain_file q) ∙ and_false (eq_by_cmp name_cmp p q)

pub same_marked : (p i q j : List ℕ) → same_file (marked_file p i) (marked_file q j) ≡ (eq_by_cmp name_cmp p q && eq_by_cmp name_cmp i j)
same_marked p i q j = same_file-parts (marked_file p i) (marked_file q j)

-- ---- which stands first

pub path_first : (f g : File) → name_cmp f.path g.path ≡ Less → file_cmp f g ≡ Less
unfolding file_cmp
path_first f g e = ap (λ o. ordering_then o (id_cmp f.id g.id)) e

pub id_first : (path i j : List ℕ) → name_cmp i j ≡ Less → file_cmp (marked_file path i) (marked_file path j) ≡ Less
unfolding file_cmp
id_first path i j e = ap (λ o. ordering_then o (name_cmp i j)) (tied_itself nat_list_cmp_total path) ∙ e

then_less : (o : Ordering) → is_gt o ≡ false → ordering_then o Less ≡ Less
then_less Less e = refl
then_less Equal e = refl
then_less Greater e = cc

pub plain_first : (p q id : List ℕ) → is_gt (name_cmp p q) ≡ false → file_cmp (plain_file p) (marked_file q id) ≡ Less
unfolding file_cmp
plain_first p q id e = then_less (name_cmp p q) e

upto_below : (o : Ordering) (a q x : List ℕ) → name_cmp a q ≡ o → is_gt o ≡ false → name_cmp q x ≡ Less → name_cmp a x ≡ Less
upto_below Less a q x e n l = nat_list_cmp_total.trans a q x e l
upto_below Equal a q x e n l = nat_list_cmp_total.congr a q x e ∙ l
upto_below Greater a q x e n l = cc

-- a name that is not above one is below what that one is below
pub below_on : (a q x : List ℕ) → is_gt (name_cmp a q) ≡ false → name_cmp q x ≡ Less → name_cmp a x ≡ Less
below_on a q x n l = upto_below (name_cmp a q) a q x refl n l
