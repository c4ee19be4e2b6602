-- A change of one of the two maps of files, as a change of the map by file.
use Rattle.std.proofs.Common.{◌≡◌, ℕ, Bool, true, false, ◌&&◌, cond, List, refl, ap, sym, ◌∙◌}
use Rattle.std.specs.Prelude.{Option, Some, None, option_and_then, Result, Ok, Err, OnOk}
use Rattle.std.specs.Ordering.{eq_by_cmp, is_eq}
use Rattle.std.specs.Cmp.{tied_itself}
use Rattle.std.specs.Cmp.Lexicographic.{nat_list_cmp_total}
use Rattle.std.specs.FinMap as fin
use Rattle.action_types.specs.Files.{File, name_cmp, file_cmp, file_cmp_total, same_file}
use Rattle.reconcile.specs.ByFile.{plain_file, marked_file, Marked, look, or_empty, PutsBack, ChangesAt, by_file}
use Rattle.reconcile.proofs.InOrder.{equal}
use Rattle.reconcile.proofs.Named.{exact_names}
use Rattle.reconcile.proofs.Files.{exact_files, same_plain, plain_marked, marked_plain, same_marked}
use Rattle.reconcile.proofs.InFileOrder.{get-by_file}

-- what follows where a call succeeded
pub on_ok : {A E : Type 0} {P Q : Type 0} (r : Result A E) → (P → Q) → OnOk r P → OnOk r Q
on_ok (Ok a) f h = f h
on_ok (Err e) f h = tt

pub tied : (path : List ℕ) → eq_by_cmp name_cmp path path ≡ true
tied path = ap is_eq (tied_itself nat_list_cmp_total path)

module _ {V : Type 0} where
  -- two maps by file are equal where they tell the same of each path and id
  same_files : (m n : fin.FinMap file_cmp V) → ((path : List ℕ) (id : Option (List ℕ)) → fin.get m (record { path = path; id = id }) ≡ fin.get n (record { path = path; id = id })) → m ≡ n
  same_files m n h = fin.same_map file_cmp_total exact_files m n (λ f. h f.path f.id)

  abbrev no_files : fin.FinMap file_cmp V
  no_files = fin.empty

  abbrev no_names : fin.FinMap name_cmp V
  no_names = fin.empty

  abbrev no_marked : Marked V
  no_marked = fin.empty

  none_told : (path : List ℕ) (id : Option (List ℕ)) → fin.get (by_file no_names no_marked) (record { path = path; id = id }) ≡ fin.get no_files (record { path = path; id = id })
  none_told path None = get-by_file no_names no_marked path None ∙ fin.get-empty name_cmp path ∙ sym (fin.get-empty file_cmp (plain_file path))
  none_told path (Some id) =
      get-by_file no_names no_marked path (Some id) ∙ ap (option_and_then (λ n. fin.get n id)) (fin.get-empty name_cmp path)
      ∙ sym (fin.get-empty file_cmp (marked_file path id))

  pub by_file-none : by_file {V = V} fin.empty fin.empty ≡ fin.empty
  by_file-none = same_files (by_file no_names no_marked) no_files none_told

  -- ---- files without a vector

  plain_changed : (old new : fin.FinMap name_cmp V) (marked : Marked V) (n : fin.FinMap file_cmp V) (path : List ℕ) (w : Option V)
      → ((q : List ℕ) → fin.get new q ≡ cond (eq_by_cmp name_cmp q path) w (fin.get old q))
      → ((f : File) → fin.get n f ≡ cond (same_file f (plain_file path)) w (fin.get (by_file old marked) f))
      → by_file new marked ≡ n
  plain_changed old new marked n path w h g = same_files (by_file new marked) n each
    where
      each : (q : List ℕ) (id : Option (List ℕ)) → fin.get (by_file new marked) (record { path = q; id = id }) ≡ fin.get n (record { path = q; id = id })
      each q None =
          get-by_file new marked q None ∙ h q
          ∙ sym (g (plain_file q) ∙ (λ i. cond (same_plain q path i) w (get-by_file old marked q None i)))
      each q (Some id) =
          get-by_file new marked q (Some id)
          ∙ sym (g (marked_file q id) ∙ (λ i. cond (marked_plain q id path i) w (get-by_file old marked q (Some id) i)))

  pub by_file-insert_plain : (old new : fin.FinMap name_cmp V) (marked : Marked V) (path : List ℕ) (v : V) → new ≡ fin.insert old path v
      → by_file new marked ≡ fin.insert (by_file old marked) (plain_file path) v
  by_file-insert_plain old new marked path v e =
      plain_changed old new marked (fin.insert (by_file old marked) (plain_file path) v) path (Some v)
      (λ q. ap (λ m. fin.get m q) e ∙ fin.get-insert nat_list_cmp_total old path v q)
      (fin.get-insert file_cmp_total (by_file old marked) (plain_file path) v)

  pub by_file-remove_plain : (old new : fin.FinMap name_cmp V) (marked : Marked V) (path : List ℕ) → new ≡ fin.remove old path
      → by_file new marked ≡ fin.remove (by_file old marked) (plain_file path)
  by_file-remove_plain old new marked path e =
      plain_changed old new marked (fin.remove (by_file old marked) (plain_file path)) path None
      (λ q. ap (λ m. fin.get m q) e ∙ fin.get-remove nat_list_cmp_total old path q)
      (fin.get-remove file_cmp_total (by_file old marked) (plain_file path))

  -- ---- files with a vector

  marked_changed : (plain : fin.FinMap name_cmp V) (old new : Marked V) (n : fin.FinMap file_cmp V) (path id : List ℕ) (w : Option V)
      → ChangesAt old new path id w
      → ((f : File) → fin.get n f ≡ cond (same_file f (marked_file path id)) w (fin.get (by_file plain old) f))
      → by_file plain new ≡ n
  marked_changed plain old new n path id w h g = same_files (by_file plain new) n each
    where
      each : (q : List ℕ) (i : Option (List ℕ)) → fin.get (by_file plain new) (record { path = q; id = i }) ≡ fin.get n (record { path = q; id = i })
      each q None =
          get-by_file plain new q None
          ∙ sym (g (plain_file q) ∙ (λ i. cond (plain_marked q path id i) w (get-by_file plain old q None i)))
      each q (Some i) =
          get-by_file plain new q (Some i) ∙ h q i
          ∙ sym (g (marked_file q i) ∙ (λ k. cond (same_marked q i path id k) w (get-by_file plain old q (Some i) k)))

  pub by_file-insert_marked : (plain : fin.FinMap name_cmp V) (old new : Marked V) (path id : List ℕ) (v : V) → ChangesAt old new path id (Some v)
      → by_file plain new ≡ fin.insert (by_file plain old) (marked_file path id) v
  by_file-insert_marked plain old new path id v h =
      marked_changed plain old new (fin.insert (by_file plain old) (marked_file path id) v) path id (Some v) h (fin.get-insert file_cmp_total (by_file plain old) (marked_file path id) v)

  pub by_file-remove_marked : (plain : fin.FinMap name_cmp V) (old new : Marked V) (path id : List ℕ) → ChangesAt old new path id None
      → by_file plain new ≡ fin.remove (by_file plain old) (marked_file path id)
  by_file-remove_marked plain old new path id h =
      marked_changed plain old new (fin.remove (by_file plain old) (marked_file path id)) path id None h (fin.get-remove file_cmp_total (by_file plain old) (marked_file path id))

  -- ---- one path taken out and put back

  pub get-or_empty : (o : Option (fin.FinMap name_cmp V)) (i : List ℕ) → fin.get (or_empty o) i ≡ option_and_then (λ n. fin.get n i) o
  get-or_empty None i = fin.get-empty name_cmp i
  get-or_empty (Some n) i = refl

  pub PutsBack-insert : (old new : Marked V) (path : List ℕ) (files : fin.FinMap name_cmp V) → new ≡ fin.insert old path files → PutsBack old new path files
  PutsBack-insert old new path files e none q i =
      ap (option_and_then (λ n. fin.get n i)) (ap (λ m. fin.get m q) e ∙ fin.get-insert nat_list_cmp_total old path files q)
      ∙ inside (eq_by_cmp name_cmp q path)
    where
      inside : (b : Bool) → option_and_then (λ n. fin.get n i) (cond b (Some files) (fin.get old q)) ≡ cond b (fin.get files i) (look old q i)
      inside true = refl
      inside false = refl

  pub PutsBack-empty : (old new : Marked V) (path : List ℕ) (files : fin.FinMap name_cmp V) → files ≡ fin.empty → new ≡ old → PutsBack old new path files
  PutsBack-empty old new path files e same none q i = ap (λ m. look m q i) same ∙ inside (eq_by_cmp name_cmp q path) refl
    where
      inside : (b : Bool) → eq_by_cmp name_cmp q path ≡ b → look old q i ≡ cond b (fin.get files i) (look old q i)
      inside true t =
          ap (λ p. look old p i) (exact_names q path (equal (name_cmp q path) t)) ∙ ap (option_and_then (λ n. fin.get n i)) none
          ∙ sym (ap (λ n. fin.get n i) e ∙ fin.get-empty name_cmp i)
      inside false t = refl

  changes : (old taken new : Marked V) (path id : List ℕ) (w : Option V) (files : fin.FinMap name_cmp V)
      → taken ≡ fin.remove old path
      → ((i : List ℕ) → fin.get files i ≡ cond (eq_by_cmp name_cmp i id) w (fin.get (or_empty (fin.get old path)) i))
      → PutsBack taken new path files → ChangesAt old new path id w
  changes old taken new path id w files e h back q i = back none q i ∙ inside (eq_by_cmp name_cmp q path) refl
    where
      at_path : (q : List ℕ) → fin.get taken q ≡ cond (eq_by_cmp name_cmp q path) None (fin.get old q)
      at_path q = ap (λ m. fin.get m q) e ∙ fin.get-remove nat_list_cmp_total old path q

      none : fin.get taken path ≡ None
      none = at_path path ∙ ap (λ b. cond b None (fin.get old path)) (tied path)

      inside : (b : Bool) → eq_by_cmp name_cmp q path ≡ b → cond b (fin.get files i) (look taken q i) ≡ cond (b && eq_by_cmp name_cmp i id) w (look old q i)
      inside true t =
          h i ∙ ap (cond (eq_by_cmp name_cmp i id) w)
          (get-or_empty (fin.get old path) i ∙ ap (λ p. look old p i) (sym (exact_names q path (equal (name_cmp q path) t))))
      inside false t = ap (option_and_then (λ n. fin.get n i)) (at_path q ∙ ap (λ b. cond b None (fin.get old q)) t)

  pub ChangesAt-put : (old taken new : Marked V) (path id : List ℕ) (v : V) (found files : fin.FinMap name_cmp V)
      → found ≡ or_empty (fin.get old path) → taken ≡ fin.remove old path → files ≡ fin.insert found id v → new ≡ fin.insert taken path files
      → ChangesAt old new path id (Some v)
  ChangesAt-put old taken new path id v found files f t i p =
      changes old taken new path id (Some v) files t
      (λ j. ap (λ n. fin.get n j) (i ∙ ap (λ n. fin.insert n id v) f) ∙ fin.get-insert nat_list_cmp_total (or_empty (fin.get old path)) id v j)
      (PutsBack-insert taken new path files p)

  pub ChangesAt-strike : (old taken new : Marked V) (path id : List ℕ) (found files : fin.FinMap name_cmp V)
      → found ≡ or_empty (fin.get old path) → taken ≡ fin.remove old path → files ≡ fin.remove found id → PutsBack taken new path files
      → ChangesAt old new path id None
  ChangesAt-strike old taken new path id found files f t i p =
      changes old taken new path id None files t
      (λ j. ap (λ n. fin.get n j) (i ∙ ap (λ n. fin.remove n id) f) ∙ fin.get-remove nat_list_cmp_total (or_empty (fin.get old path)) id j)
      p
