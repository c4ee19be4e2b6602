-- Maps that tell all that others tell.
use Rattle.std.proofs.Common.{◌≡◌, ℕ, Bool, true, false, cond, List, [], ◌∷◌, refl, ap, sym, subst, ◌∙◌}
use Rattle.std.specs.Prelude.{Option, Some, None, option_and_then, ◌↔◌}
use Rattle.std.specs.Bool.{Decides}
use Rattle.std.specs.declared.cmp.Ordering.{Ordering}
use Rattle.std.specs.Ordering.{eq_by_cmp}
use Rattle.std.specs.Cmp.{IsTotalOrder}
use Rattle.std.specs.Cmp.Lexicographic.{nat_list_cmp_total}
use lib.Dec.{T}
use Rattle.std.specs.FinMap as fin
use Rattle.action_types.specs.Files.{name_cmp, file_cmp, file_cmp_total}
use Rattle.reconcile.specs.ByFile.{plain_file, marked_file, Marked, look, by_file}
use Rattle.reconcile.specs.Within.{IsWithin, IsAmong, IsMarkedWithin}
use Rattle.reconcile.proofs.ByFile.{tied}
use Rattle.reconcile.proofs.Files.{exact_files}
use Rattle.reconcile.proofs.InFileOrder.{get-by_file}
use Rattle.reconcile.proofs.InOrder.{equal}
use Rattle.reconcile.proofs.Laying.{no_more, sorted_rest}
use Rattle.reconcile.proofs.Named.{exact_names}

-- ---- maps that tell all of each other are equal

none_some : {A : Type 0} (v : A) → None ≡ Some v → ⊥
none_some v e = cc

alike : {A : Type 0} (a b : Option A) → ((v : A) → a ≡ Some v → b ≡ Some v) → ((v : A) → b ≡ Some v → a ≡ Some v) → a ≡ b
alike (Some v) b f g = sym (f v refl)
alike None (Some v) f g = g v refl
alike None None f g = refl

module _ {K V : Type 0} {R : K → K → Ordering} (total : IsTotalOrder R) (exact : fin.IsAntisymmetric R) where
  equal_maps : (m n : fin.FinMap R V) → IsWithin m n → IsWithin n m → m ≡ n
  equal_maps m n f g = fin.same_map total exact m n (λ k. alike (fin.get m k) (fin.get n k) (f k) (g k))

within_itself : {K V : Type 0} {R : K → K → Ordering} (m n : fin.FinMap R V) → m ≡ n → IsWithin m n
within_itself m n e = λ k v h. ap (λ x. fin.get x k) (sym e) ∙ h

pub same_names : {V : Type 0} (m n : fin.FinMap name_cmp V) → (IsWithin m n × IsWithin n m) ↔ (m ≡ n)
same_names m n = ((λ h. equal_maps nat_list_cmp_total exact_names m n h.0 h.1), (λ e. (within_itself m n e, within_itself n m (sym e))))

pub same_files_map : {V : Type 0} (m n : fin.FinMap file_cmp V) → (IsWithin m n × IsWithin n m) ↔ (m ≡ n)
same_files_map m n = ((λ h. equal_maps file_cmp_total exact_files m n h.0 h.1), (λ e. (within_itself m n e, within_itself n m (sym e))))

-- ---- entries that are left

module _ {W : Type 0} where
  abbrev pub AllFound : (List ℕ → W → Type 0) → List (List ℕ × W) → Type 0
  AllFound P es = (q : List ℕ) (x : W) → fin.find name_cmp q es ≡ Some x → P q x

  -- the goal is that all entries meet P, and those that are left decide it
  pub record Left (Goal : Type 0) (P : List ℕ → W → Type 0) (rest : List (List ℕ × W)) : Type 0 where
    pub goes : Goal → AllFound P rest
    pub comes : AllFound P rest → Goal
    pub sorted : T (fin.is_sorted name_cmp rest)

  pub left_start : (Goal : Type 0) (P : List ℕ → W → Type 0) (m : fin.FinMap name_cmp W) (rest : List (List ℕ × W)) → rest ≡ fin.entries m
      → (Goal → (q : List ℕ) (x : W) → fin.get m q ≡ Some x → P q x) → (((q : List ℕ) (x : W) → fin.get m q ≡ Some x → P q x) → Goal)
      → Left Goal P rest
  left_start Goal P m rest e to from = record {
    goes = λ g q x h. to g q x (fin.get-entries m q ∙ ap (fin.find name_cmp q) (sym e) ∙ h);
    comes = λ f. from (λ q x h. f q x (ap (fin.find name_cmp q) e ∙ sym (fin.get-entries m q) ∙ h));
    sorted = subst (λ es. T (fin.is_sorted name_cmp es)) (sym e) (fin.entries_sorted m);
  }

  some_same : (a b : W) → Some a ≡ Some b → a ≡ b
  some_same a b e = cc

  found_more : (P : List ℕ → W → Type 0) (p : List ℕ) (w : W) (rest : List (List ℕ × W)) → P p w → AllFound P rest → AllFound P ((p, w) ∷ rest)
  found_more P p w rest one f q x = inside (eq_by_cmp name_cmp q p) refl
    where
      inside : (b : Bool) → eq_by_cmp name_cmp q p ≡ b → cond b (Some w) (fin.find name_cmp q rest) ≡ Some x → P q x
      inside true t h = subst (λ k. P k x) (sym (exact_names q p (equal (name_cmp q p) t))) (subst (P p) (some_same w x h) one)
      inside false t h = f q x h

  found_less : (P : List ℕ → W → Type 0) (p : List ℕ) (w : W) (rest : List (List ℕ × W)) → T (fin.is_sorted name_cmp ((p, w) ∷ rest)) → AllFound P ((p, w) ∷ rest) → AllFound P rest
  found_less P p w rest s f q x h = inside (eq_by_cmp name_cmp q p) refl
    where
      inside : (b : Bool) → eq_by_cmp name_cmp q p ≡ b → P q x
      inside true t =
          absurd (none_some x (sym (no_more p w rest s) ∙ ap (λ k. fin.find name_cmp k rest) (sym (exact_names q p (equal (name_cmp q p) t))) ∙ h))
      inside false t = f q x (ap (λ b. cond b (Some w) (fin.find name_cmp q rest)) t ∙ h)

  pub left_more : (Goal : Type 0) (P : List ℕ → W → Type 0) (p : List ℕ) (w : W) (rest : List (List ℕ × W)) → Left Goal P ((p, w) ∷ rest) → P p w → Left Goal P rest
  left_more Goal P p w rest l one = record {
    goes = λ g. found_less P p w rest l.sorted (l.goes g);
    comes = λ f. l.comes (found_more P p w rest one f);
    sorted = sorted_rest p w rest l.sorted;
  }

  pub left_one : (Goal : Type 0) (P : List ℕ → W → Type 0) (p : List ℕ) (w : W) (rest : List (List ℕ × W)) → Left Goal P ((p, w) ∷ rest) → Goal → P p w
  left_one Goal P p w rest l g = l.goes g p w (ap (λ b. cond b (Some w) (fin.find name_cmp p rest)) (tied p))

  pub left_end : (Goal : Type 0) (P : List ℕ → W → Type 0) (rest : List (List ℕ × W)) → Left Goal P rest → rest ≡ [] → Goal
  left_end Goal P rest l e = l.comes (λ q x h. absurd (none_some x (ap (fin.find name_cmp q) (sym e) ∙ h)))

-- ---- files

module _ {V : Type 0} where
  pub among_none : (m n : fin.FinMap name_cmp V) → n ≡ fin.empty → IsWithin m n ↔ IsAmong m None
  among_none m n e = (
    (λ h k v f. sym (ap (λ x. fin.get x k) e ∙ fin.get-empty name_cmp k) ∙ h k v f),
    (λ h k v f. ap (λ x. fin.get x k) e ∙ fin.get-empty name_cmp k ∙ h k v f),
  )

  looked : (o : Option (fin.FinMap name_cmp V)) (i : List ℕ) (v : V) → option_and_then (λ n. fin.get n i) o ≡ Some v
      → (P : Type 0) → ((n : fin.FinMap name_cmp V) → o ≡ Some n → fin.get n i ≡ Some v → P) → P
  looked None i v e P f = absurd (none_some v e)
  looked (Some n) i v e P f = f n refl e

  -- path by path
  pub by_path : (m n : Marked V) → IsMarkedWithin m n → (q : List ℕ) (x : fin.FinMap name_cmp V) → fin.get m q ≡ Some x → IsAmong x (fin.get n q)
  by_path m n h q x e k v f = h q k v (ap (option_and_then (λ y. fin.get y k)) e ∙ f)

  pub from_paths : (m n : Marked V) → ((q : List ℕ) (x : fin.FinMap name_cmp V) → fin.get m q ≡ Some x → IsAmong x (fin.get n q)) → IsMarkedWithin m n
  from_paths m n h q i v f = looked (fin.get m q) i v f (look n q i ≡ Some v) (λ x e g. h q x e i v g)

  pub files_within : (p p' : fin.FinMap name_cmp V) (m m' : Marked V) → (IsWithin p p' × IsMarkedWithin m m') ↔ IsWithin (by_file p m) (by_file p' m')
  files_within p p' m m' = (to, from)
    where
      each : IsWithin p p' → IsMarkedWithin m m' → (path : List ℕ) (id : Option (List ℕ)) (v : V)
          → fin.get (by_file p m) (record { path = path; id = id }) ≡ Some v → fin.get (by_file p' m') (record { path = path; id = id }) ≡ Some v
      each f g path None v e = get-by_file p' m' path None ∙ f path v (sym (get-by_file p m path None) ∙ e)
      each f g path (Some id) v e = get-by_file p' m' path (Some id) ∙ g path id v (sym (get-by_file p m path (Some id)) ∙ e)

      to : IsWithin p p' × IsMarkedWithin m m' → IsWithin (by_file p m) (by_file p' m')
      to h = λ f v e. each h.0 h.1 f.path f.id v e

      from : IsWithin (by_file p m) (by_file p' m') → IsWithin p p' × IsMarkedWithin m m'
      from h = (
        (λ q v e. sym (get-by_file p' m' q None) ∙ h (plain_file q) v (get-by_file p m q None ∙ e)),
        (λ q i v e. sym (get-by_file p' m' q (Some i)) ∙ h (marked_file q i) v (get-by_file p m q (Some i) ∙ e)),
      )

-- ---- a test that failed

never : false ≡ true → ⊥
never e = cc

pub failed : {P Q : Type 0} (r : Bool) → r ≡ false → (Q → r ≡ true) → (P → Q) → (false ≡ true → P) × (P → false ≡ true)
failed r e told f = ((λ t. absurd (never t)), (λ p. sym e ∙ told (f p)))

-- ---- two tests, one after the other

-- the first held, and the second says the rest
pub both_told : {P Q S : Type 0} (r s : Bool) → r ≡ true → Decides r P → Decides s Q → (P × Q) ↔ S → Decides s S
both_told r s e p q same = ((λ t. same.0 (p.0 e, q.0 t)), (λ x. q.1 ((same.1 x).1)))

-- the first failed
pub one_failed : {P Q S : Type 0} (r : Bool) → r ≡ false → Decides r P → (P × Q) ↔ S → Decides r S
one_failed r e p same = ((λ t. absurd (never (sym e ∙ t))), (λ x. p.1 ((same.1 x).0)))

pub told_as : {P Q : Type 0} (r : Bool) → Decides r P → P ↔ Q → Decides r Q
told_as r p same = ((λ t. same.0 (p.0 t)), (λ x. p.1 (same.1 x)))

pub seen : {K V : Type 0} {R : K → K → Ordering} (r : Bool) (a a' b b' : fin.FinMap R V) → a ≡ a' → b ≡ b' → Decides r (IsWithin a b) → Decides r (IsWithin a' b')
seen r a a' b b' e f d = subst (λ y. Decides r (IsWithin a' y)) f (subst (λ x. Decides r (IsWithin x b)) e d)
