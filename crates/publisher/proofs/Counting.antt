-- The clear turns of a list of names.
use Rattle.std.proofs.Common.{◌≡◌, ◌<◌, ◌≤◌, ◌+◌, ◌-◌, ℕ, Bool, true, false, cond, List, [], ◌∷◌, ◌++◌, length, take, get_or, refl, sym, ◌∙◌, ap, subst, arith, append_assoc, append-nil}
use Rattle.std.specs.Prelude.{filter}
use Rattle.std.proofs.lemmas.List.{take_more, map-append, take_all}
use Rattle.std.proofs.lemmas.Bool.{lt-ltb}
use Rattle.log_names.specs.declared.LogName.{LogName}
use Rattle.log_names.specs.declared.LogName.TheVariants as name
use Rattle.object_store.specs.declared.store.Gone.{Gone}
use Rattle.object_store.specs.declared.store.Gone.TheVariants as gone
use Rattle.table_model.specs.declared.known.Clearing.{Clearing}
use Rattle.table_model.specs.Knowledge.{Knowledge}
use Rattle.commit_catalog.specs.declared.Commits.{Commits}
use Rattle.table_model.specs.Learning.{CommitsLearnt, ListLearnt}
use Rattle.publisher.specs.Publishing.{gone_one, gone_in, is_clearable, ClearsFile, ClearsNames, OnlyClears, HasCleared}

gone_more : (a : Gone) (n m : ℕ) → gone_one a (n + m) ≡ gone_one a n + m
gone_more gone.Done n m = omega arith
gone_more gone.Absent n m = refl

gone_in-append : (xs ys : List Clearing) → gone_in (xs ++ ys) ≡ gone_in xs + gone_in ys
gone_in-append [] ys = omega arith
gone_in-append (x ∷ xs) ys = ap (gone_one x.answer) (gone_in-append xs ys) ∙ gone_more x.answer (gone_in xs) (gone_in ys)

filter_append : (p : LogName → Bool) (xs ys : List LogName) → filter p (xs ++ ys) ≡ filter p xs ++ filter p ys
filter_append p [] ys = refl
filter_append p (x ∷ xs) ys = filter_cons p x xs ys (p x) (filter_append p xs ys)
  where
    filter_cons : (p : LogName → Bool) (x : LogName) (xs ys : List LogName) (b : Bool) → filter p (xs ++ ys) ≡ filter p xs ++ filter p ys
        → cond b (x ∷ filter p (xs ++ ys)) (filter p (xs ++ ys)) ≡ cond b (x ∷ filter p xs) (filter p xs) ++ filter p ys
    filter_cons p x xs ys true e = ap (λ zs. x ∷ zs) e
    filter_cons p x xs ys false e = e

-- at the start nothing was cleared
pub names_none : (reported : ℕ) (k : Knowledge) → ClearsNames reported [] 0 k k
names_none reported k = record { gained = record { rest = []; is = sym (append-nil k.cleared) }; names = refl; count_is = refl }

-- one name more, which may not be cleared
pub names_skip : (reported i n : ℕ) (names : List LogName) (d : LogName) (k m : Knowledge) → i < length names
    → is_clearable reported (get_or names i d) ≡ false → ClearsNames reported (take i names) n k m → ClearsNames reported (take (i + 1) names) n k m
names_skip reported i n names d k m less not h =
    let last : filter (is_clearable reported) (get_or names i d ∷ []) ≡ [] = ap (λ (b : Bool). let xs : List LogName = cond b (get_or names i d ∷ []) [] in xs) not in
    record {
      gained = h.gained;
      names =
          h.names ∙ sym (append-nil (filter (is_clearable reported) (take i names)))
          ∙ ap (λ ys. filter (is_clearable reported) (take i names) ++ ys) (sym last)
          ∙ sym (filter_append (is_clearable reported) (take i names) (get_or names i d ∷ []))
          ∙ ap (filter (is_clearable reported)) (sym (take_more names i d less));
      count_is = h.count_is;
    }

-- one name more, whose file was cleared
pub names_more : (reported i n p version id : ℕ) (names : List LogName) (d : LogName) (j k m : Knowledge) → i < length names
    → get_or names i d ≡ name.Staged version id → version < reported → ClearsNames reported (take i names) n j k → ClearsFile version id p k m
    → ClearsNames reported (take (i + 1) names) (n + p) j m
names_more reported i n p version id names d j k m less is below h c =
    let one : Clearing = record { name = name.Staged version id; answer = c.answer } in
    let yes : is_clearable reported (get_or names i d) ≡ true = ap (is_clearable reported) is ∙ lt-ltb version reported below in
    let last : filter (is_clearable reported) (get_or names i d ∷ []) ≡ name.Staged version id ∷ [] =
    ap (λ (b : Bool). let xs : List LogName = cond b (get_or names i d ∷ []) [] in xs) yes ∙ ap (λ (x : LogName). let xs : List LogName = x ∷ [] in xs) is in
    record {
      gained = record {
        rest = h.gained.rest ++ one ∷ [];
        is = ap (λ (x : Knowledge). x.cleared) c.same ∙ ap (λ xs. xs ++ one ∷ []) h.gained.is ∙ append_assoc j.cleared h.gained.rest (one ∷ []);
      };
      names =
          map-append (λ (x : Clearing). x.name) h.gained.rest (one ∷ [])
          ∙ ap (λ xs. xs ++ name.Staged version id ∷ []) h.names
          ∙ ap (λ ys. filter (is_clearable reported) (take i names) ++ ys) (sym last)
          ∙ sym (filter_append (is_clearable reported) (take i names) (get_or names i d ∷ []))
          ∙ ap (filter (is_clearable reported)) (sym (take_more names i d less));
      count_is = (let e = gone_in-append h.gained.rest (one ∷ []) in omega (arith, h.count_is, c.count_is, e));
    }

pub names_all : (reported i n : ℕ) (names : List LogName) (k m : Knowledge) → length names ≤ i → ClearsNames reported (take i names) n k m → ClearsNames reported names n k m
names_all reported i n names k m all h = subst (λ (ns : List LogName). ClearsNames reported ns n k m) (take_all i names all) h

-- a staged name of a reported version may be cleared
pub not_clearable : (reported version id : ℕ) (n : LogName) → is_clearable reported n ≡ false → version < reported → n ≡ name.Staged version id → ⊥
not_clearable reported version id n kept below is =
    let k : true ≡ false = sym (ap (is_clearable reported) is ∙ lt-ltb version reported below) ∙ kept in cc

pub only_trans : (j k m : Knowledge) → OnlyClears j k → OnlyClears k m → OnlyClears j m
only_trans j k m g h = record {
  same = h.same ∙ ap (λ (x : Knowledge). let y : Knowledge = record x { cleared = m.cleared; failed = m.failed; faults = m.faults } in y) g.same;
}

-- the catalogue turn, the listing, and the clear turns
pub has_cleared : (c : Commits) (names ns : List LogName) (n : ℕ) (tells : Bool) (j k l m : Knowledge) → CommitsLearnt tells j c k → ListLearnt tells k names l
    → ns ≡ names → OnlyClears l m → ClearsNames c.reported ns n l m → (c.count ≡ 0 → ⊥) → HasCleared (record { cleared = n; latest = c.count - 1 }) j m
has_cleared c names ns n tells j k l m a b is only h some =
    let seen : m.seen ≡ k.seen = ap (λ (x : Knowledge). x.seen) only.same ∙ ap (λ (x : Knowledge). x.seen) b.same in
    let total : c.count ≡ length m.seen = a.count ∙ sym (ap length seen) in
    let before : l.cleared ≡ j.cleared = ap (λ (x : Knowledge). x.cleared) b.same ∙ ap (λ (x : Knowledge). x.cleared) a.same in
    let reported : m.reported ≡ c.reported =
    ap (λ (x : Knowledge). x.reported) only.same ∙ ap (λ (x : Knowledge). x.reported) b.same ∙ ap (λ (x : Knowledge). x.reported) a.same in
    let listed : m.listed ≡ ns = ap (λ (x : Knowledge). x.listed) only.same ∙ ap (λ (x : Knowledge). x.listed) b.same ∙ sym is in
    let lists : m.lists ≡ j.lists + 1 =
    ap (λ (x : Knowledge). x.lists) only.same ∙ ap (λ (x : Knowledge). x.lists) b.same ∙ ap (λ (x : Knowledge). x.lists + 1) a.same in
    record {
      latest = omega (arith, total, some);
      lists = lists;
      gained = record { rest = h.gained.rest; is = h.gained.is ∙ ap (λ xs. xs ++ h.gained.rest) before };
      names = h.names ∙ ap (λ (r : ℕ). filter (is_clearable r) ns) (sym reported) ∙ ap (filter (is_clearable m.reported)) (sym listed);
      count = h.count_is;
    }
