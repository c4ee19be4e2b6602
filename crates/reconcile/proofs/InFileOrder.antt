-- Files in their order, against the two maps that they are kept in.
use Rattle.std.proofs.Common.{◌≡◌, ℕ, Bool, true, false, ◌&&◌, cond, List, [], ◌∷◌, ◌++◌, map, refl, ap, sym, ◌∙◌}
use Rattle.std.specs.Prelude.{Option, Some, None, option_and_then}
use Rattle.std.specs.declared.cmp.Ordering.TheVariants.{Less}
use Rattle.std.specs.Ordering.{eq_by_cmp, is_lt, is_gt}
use Rattle.std.specs.Cmp.Lexicographic.{nat_list_cmp_total}
use Rattle.std.specs.List.{AllByRecursion}
use Rattle.std.specs.FinMap as fin
use Rattle.std.specs.FinMap.Entries.{below_all}
use lib.Dec.{T}
use Rattle.action_types.specs.Files.{File, name_cmp, file_cmp, file_cmp_total}
use Rattle.reconcile.specs.ByFile.{plain_file, marked_file, Marked, look, plain_entries, marked_entries, up_to, above, in_file_order, by_file}
use Rattle.reconcile.specs.Replay.{or_else}
use Rattle.reconcile.proofs.Last.{or_else-none}
use Rattle.reconcile.proofs.InOrder.{equal}
use Rattle.reconcile.proofs.Named.{exact_names}
use Rattle.reconcile.proofs.Files.{exact_files, same_plain, plain_marked, marked_plain, same_marked, path_first, id_first, plain_first, below_on}
use Rattle.reconcile.proofs.Sorted.{both, first, second, less, so_less, not_greater, find-both, none_above, below_both, sorted_both, so_above}

none_both : {A : Type 0} (b : Bool) (o : Option A) → o ≡ cond b o o
none_both true o = refl
none_both false o = refl

nested : {A : Type 0} (a b : Bool) (x : Option A) (y : Option A) → cond (a && b) x (cond a y None) ≡ cond a (cond b x y) None
nested true b x y = refl
nested false b x y = refl

below_part : {W : Type 0} (x q : List ℕ) (es : List (List ℕ × W)) → T (below_all name_cmp x es) → T (below_all name_cmp x (up_to q es)) × T (below_all name_cmp x (above q es))
below_part x q [] h = (tt, tt)
below_part x q (e ∷ es) h =
    let here = first (is_lt (name_cmp x e.0)) (below_all name_cmp x es) h in
    let there = below_part x q es (second (is_lt (name_cmp x e.0)) (below_all name_cmp x es) h) in
    elim (is_gt (name_cmp e.0 q)) as (λ b. T (below_all name_cmp x (cond b [] (e ∷ up_to q es))) × T (below_all name_cmp x (cond b (e ∷ es) (above q es)))) [
      | true ↦ (tt, h)
      | false ↦ (both (is_lt (name_cmp x e.0)) (below_all name_cmp x (up_to q es)) here there.0, there.1)
    ]

below_chain : {W : Type 0} (a q : List ℕ) (es : List (List ℕ × W)) → is_gt (name_cmp a q) ≡ false → T (below_all name_cmp q es) → T (below_all name_cmp a es)
below_chain a q [] n h = tt
below_chain a q (e ∷ es) n h =
    both (is_lt (name_cmp a e.0)) (below_all name_cmp a es)
    (so_less (name_cmp a e.0) (below_on a q e.0 n (less (name_cmp q e.0) (first (is_lt (name_cmp q e.0)) (below_all name_cmp q es) h))))
    (below_chain a q es n (second (is_lt (name_cmp q e.0)) (below_all name_cmp q es) h))

module _ {V : Type 0} where
  -- ---- look-ups

  find-plain : (path : List ℕ) (es : List (List ℕ × V)) → fin.find file_cmp (plain_file path) (plain_entries es) ≡ fin.find name_cmp path es
  find-plain path [] = refl
  find-plain path (e ∷ es) = λ i. cond (same_plain path e.0 i) (Some e.1) (find-plain path es i)

  no_marked : (path id : List ℕ) (es : List (List ℕ × V)) → fin.find file_cmp (marked_file path id) (plain_entries es) ≡ None
  no_marked path id [] = refl
  no_marked path id (e ∷ es) = ap (λ b. cond b (Some e.1) (fin.find file_cmp (marked_file path id) (plain_entries es))) (marked_plain path id e.0) ∙ no_marked path id es

  no_plain : (path q : List ℕ) (es : List (List ℕ × V)) → fin.find file_cmp (plain_file path) (marked_entries q es) ≡ None
  no_plain path q [] = refl
  no_plain path q (e ∷ es) = ap (λ b. cond b (Some e.1) (fin.find file_cmp (plain_file path) (marked_entries q es))) (plain_marked path q e.0) ∙ no_plain path q es

  find-marked : (path id q : List ℕ) (es : List (List ℕ × V))
      → fin.find file_cmp (marked_file path id) (marked_entries q es) ≡ cond (eq_by_cmp name_cmp path q) (fin.find name_cmp id es) None
  find-marked path id q [] = none_both (eq_by_cmp name_cmp path q) None
  find-marked path id q (e ∷ es) =
      (λ i. cond (same_marked path id q e.0 i) (Some e.1) (find-marked path id q es i))
      ∙ nested (eq_by_cmp name_cmp path q) (eq_by_cmp name_cmp id e.0) (Some e.1) (fin.find name_cmp id es)

  parted : (q : List ℕ) (es : List (List ℕ × V)) → up_to q es ++ above q es ≡ es
  parted q [] = refl
  parted q (e ∷ es) = elim (is_gt (name_cmp e.0 q)) as (λ b. cond b [] (e ∷ up_to q es) ++ cond b (e ∷ es) (above q es) ≡ e ∷ es) [ true ↦ refl | false ↦ ap (λ xs. e ∷ xs) (parted q es) ]

  abbrev rest_after : List (List ℕ × V) → List ℕ × fin.FinMap name_cmp V → List (List ℕ × fin.FinMap name_cmp V) → List (File × V)
  rest_after ps m ms = marked_entries m.0 (fin.entries m.1) ++ in_file_order (above m.0 ps) ms

  find-plain-in_order : (path : List ℕ) (ps : List (List ℕ × V)) (ms : List (List ℕ × fin.FinMap name_cmp V))
      → fin.find file_cmp (plain_file path) (in_file_order ps ms) ≡ fin.find name_cmp path ps
  find-plain-in_order path ps [] = find-plain path ps
  find-plain-in_order path ps (m ∷ ms) =
      let f = plain_file path in
      let behind : fin.find file_cmp f (rest_after ps m ms) ≡ fin.find name_cmp path (above m.0 ps) =
      find-both file_cmp f (marked_entries m.0 (fin.entries m.1)) (in_file_order (above m.0 ps) ms)
      ∙ ap (λ o. or_else o (fin.find file_cmp f (in_file_order (above m.0 ps) ms))) (no_plain path m.0 (fin.entries m.1))
      ∙ find-plain-in_order path (above m.0 ps) ms in
      find-both file_cmp f (plain_entries (up_to m.0 ps)) (rest_after ps m ms)
      ∙ (λ i. or_else (find-plain path (up_to m.0 ps) i) (behind i))
      ∙ sym (find-both name_cmp path (up_to m.0 ps) (above m.0 ps))
      ∙ ap (fin.find name_cmp path) (parted m.0 ps)

  -- the value of an id in the first map of a path that has it
  abbrev look_on : List ℕ → List ℕ → List (List ℕ × fin.FinMap name_cmp V) → Option V
  look_on path id [] = None
  look_on path id (m ∷ ms) = or_else (cond (eq_by_cmp name_cmp path m.0) (fin.find name_cmp id (fin.entries m.1)) None) (look_on path id ms)

  find-marked-in_order : (path id : List ℕ) (ps : List (List ℕ × V)) (ms : List (List ℕ × fin.FinMap name_cmp V))
      → fin.find file_cmp (marked_file path id) (in_file_order ps ms) ≡ look_on path id ms
  find-marked-in_order path id ps [] = no_marked path id ps
  find-marked-in_order path id ps (m ∷ ms) =
      let f = marked_file path id in
      find-both file_cmp f (plain_entries (up_to m.0 ps)) (rest_after ps m ms)
      ∙ ap (λ o. or_else o (fin.find file_cmp f (rest_after ps m ms))) (no_marked path id (up_to m.0 ps))
      ∙ find-both file_cmp f (marked_entries m.0 (fin.entries m.1)) (in_file_order (above m.0 ps) ms)
      ∙ (λ i. or_else (find-marked path id m.0 (fin.entries m.1) i) (find-marked-in_order path id (above m.0 ps) ms i))

  look_on-cons : (path id : List ℕ) (m : List ℕ × fin.FinMap name_cmp V) (ms : List (List ℕ × fin.FinMap name_cmp V)) (b : Bool)
      → eq_by_cmp name_cmp path m.0 ≡ b → T (below_all name_cmp m.0 ms)
      → look_on path id ms ≡ option_and_then (λ n. fin.get n id) (fin.find name_cmp path ms)
      → or_else (cond b (fin.find name_cmp id (fin.entries m.1)) None) (look_on path id ms) ≡ option_and_then (λ n. fin.get n id) (cond b (Some m.1) (fin.find name_cmp path ms))
  look_on-cons path id m ms true e h same =
      let gone : fin.find name_cmp path ms ≡ None = ap (λ p. fin.find name_cmp p ms) (exact_names path m.0 (equal (name_cmp path m.0) e)) ∙ none_above name_cmp m.0 ms h in
      ap (or_else (fin.find name_cmp id (fin.entries m.1))) (same ∙ ap (option_and_then (λ n. fin.get n id)) gone)
      ∙ or_else-none (fin.find name_cmp id (fin.entries m.1)) ∙ sym (fin.get-entries m.1 id)
  look_on-cons path id m ms false e h same = same

  look_on-sorted : (path id : List ℕ) (ms : List (List ℕ × fin.FinMap name_cmp V)) → T (fin.is_sorted name_cmp ms)
      → look_on path id ms ≡ option_and_then (λ n. fin.get n id) (fin.find name_cmp path ms)
  look_on-sorted path id [] h = refl
  look_on-sorted path id (m ∷ ms) h =
      look_on-cons path id m ms (eq_by_cmp name_cmp path m.0) refl (first (below_all name_cmp m.0 ms) (fin.is_sorted name_cmp ms) h)
      (look_on-sorted path id ms (second (below_all name_cmp m.0 ms) (fin.is_sorted name_cmp ms) h))

  -- what the two maps tell of a file
  abbrev pub told : fin.FinMap name_cmp V → Marked V → List ℕ → Option (List ℕ) → Option V
  told plain marked path None = fin.get plain path
  told plain marked path (Some id) = look marked path id

  pub get-by_file : (plain : fin.FinMap name_cmp V) (marked : Marked V) (path : List ℕ) (id : Option (List ℕ))
      → fin.get (by_file plain marked) (record { path = path; id = id }) ≡ told plain marked path id
  get-by_file plain marked path None =
      fin.get-from_entries file_cmp_total (in_file_order (fin.entries plain) (fin.entries marked)) (plain_file path)
      ∙ find-plain-in_order path (fin.entries plain) (fin.entries marked) ∙ sym (fin.get-entries plain path)
  get-by_file plain marked path (Some id) =
      fin.get-from_entries file_cmp_total (in_file_order (fin.entries plain) (fin.entries marked)) (marked_file path id)
      ∙ find-marked-in_order path id (fin.entries plain) (fin.entries marked)
      ∙ look_on-sorted path id (fin.entries marked) (fin.entries_sorted marked)
      ∙ ap (option_and_then (λ n. fin.get n id)) (sym (fin.get-entries marked path))

  -- ---- the order

  sorted_part : (q : List ℕ) (es : List (List ℕ × V)) → T (fin.is_sorted name_cmp es) → T (fin.is_sorted name_cmp (up_to q es)) × T (fin.is_sorted name_cmp (above q es))
  sorted_part q [] h = (tt, tt)
  sorted_part q (e ∷ es) h =
      let below = below_part e.0 q es (first (below_all name_cmp e.0 es) (fin.is_sorted name_cmp es) h) in
      let there = sorted_part q es (second (below_all name_cmp e.0 es) (fin.is_sorted name_cmp es) h) in
      elim (is_gt (name_cmp e.0 q)) as (λ b. T (fin.is_sorted name_cmp (cond b [] (e ∷ up_to q es))) × T (fin.is_sorted name_cmp (cond b (e ∷ es) (above q es)))) [
        | true ↦ (tt, h)
        | false ↦ (both (below_all name_cmp e.0 (up_to q es)) (fin.is_sorted name_cmp (up_to q es)) below.0 there.0, there.1)
      ]

  above_later : (q : List ℕ) (es : List (List ℕ × V)) → T (fin.is_sorted name_cmp es) → T (below_all name_cmp q (above q es))
  above_later q [] h = tt
  above_later q (e ∷ es) h =
      let rest = above_later q es (second (below_all name_cmp e.0 es) (fin.is_sorted name_cmp es) h) in
      elim (is_gt (name_cmp e.0 q)) as (λ b. is_gt (name_cmp e.0 q) ≡ b → T (below_all name_cmp q (cond b (e ∷ es) (above q es)))) [
        | true ↦ λ t.
            let over : name_cmp q e.0 ≡ Less = so_above name_cmp nat_list_cmp_total e.0 q t in
            both (is_lt (name_cmp q e.0)) (below_all name_cmp q es) (so_less (name_cmp q e.0) over)
            (below_chain q e.0 es (not_greater (name_cmp q e.0) over) (first (below_all name_cmp e.0 es) (fin.is_sorted name_cmp es) h))
        | false ↦ λ t. rest
      ] refl

  plain_later : (f : File) (es : List (List ℕ × V)) → T (below_all name_cmp f.path es) → T (below_all file_cmp f (plain_entries es))
  plain_later f [] h = tt
  plain_later f (e ∷ es) h =
      both (is_lt (file_cmp f (plain_file e.0))) (below_all file_cmp f (plain_entries es))
      (so_less (file_cmp f (plain_file e.0)) (path_first f (plain_file e.0) (less (name_cmp f.path e.0) (first (is_lt (name_cmp f.path e.0)) (below_all name_cmp f.path es) h))))
      (plain_later f es (second (is_lt (name_cmp f.path e.0)) (below_all name_cmp f.path es) h))

  marked_later : (f : File) (q : List ℕ) (es : List (List ℕ × V)) → ((id : List ℕ) → file_cmp f (marked_file q id) ≡ Less) → T (below_all file_cmp f (marked_entries q es))
  marked_later f q [] h = tt
  marked_later f q (e ∷ es) h =
      both (is_lt (file_cmp f (marked_file q e.0))) (below_all file_cmp f (marked_entries q es)) (so_less (file_cmp f (marked_file q e.0)) (h e.0)) (marked_later f q es h)

  order_later : (f : File) (ps : List (List ℕ × V)) (ms : List (List ℕ × fin.FinMap name_cmp V)) → T (below_all name_cmp f.path ps) → T (below_all name_cmp f.path ms)
      → T (below_all file_cmp f (in_file_order ps ms))
  order_later f ps [] h g = plain_later f ps h
  order_later f ps (m ∷ ms) h g =
      let part = below_part f.path m.0 ps h in
      let here = less (name_cmp f.path m.0) (first (is_lt (name_cmp f.path m.0)) (below_all name_cmp f.path ms) g) in
      below_both file_cmp f (plain_entries (up_to m.0 ps)) (rest_after ps m ms) (plain_later f (up_to m.0 ps) part.0)
      (below_both file_cmp f (marked_entries m.0 (fin.entries m.1)) (in_file_order (above m.0 ps) ms)
      (marked_later f m.0 (fin.entries m.1) (λ id. path_first f (marked_file m.0 id) here))
      (order_later f (above m.0 ps) ms part.1 (second (is_lt (name_cmp f.path m.0)) (below_all name_cmp f.path ms) g)))

  plain_sorted : (es : List (List ℕ × V)) → T (fin.is_sorted name_cmp es) → T (fin.is_sorted file_cmp (plain_entries es))
  plain_sorted [] h = tt
  plain_sorted (e ∷ es) h =
      both (below_all file_cmp (plain_file e.0) (plain_entries es)) (fin.is_sorted file_cmp (plain_entries es))
      (plain_later (plain_file e.0) es (first (below_all name_cmp e.0 es) (fin.is_sorted name_cmp es) h))
      (plain_sorted es (second (below_all name_cmp e.0 es) (fin.is_sorted name_cmp es) h))

  ids_later : (q i : List ℕ) (es : List (List ℕ × V)) → T (below_all name_cmp i es) → T (below_all file_cmp (marked_file q i) (marked_entries q es))
  ids_later q i [] h = tt
  ids_later q i (e ∷ es) h =
      both (is_lt (file_cmp (marked_file q i) (marked_file q e.0))) (below_all file_cmp (marked_file q i) (marked_entries q es))
      (so_less (file_cmp (marked_file q i) (marked_file q e.0)) (id_first q i e.0 (less (name_cmp i e.0) (first (is_lt (name_cmp i e.0)) (below_all name_cmp i es) h))))
      (ids_later q i es (second (is_lt (name_cmp i e.0)) (below_all name_cmp i es) h))

  marked_sorted : (q : List ℕ) (es : List (List ℕ × V)) → T (fin.is_sorted name_cmp es) → T (fin.is_sorted file_cmp (marked_entries q es))
  marked_sorted q [] h = tt
  marked_sorted q (e ∷ es) h =
      both (below_all file_cmp (marked_file q e.0) (marked_entries q es)) (fin.is_sorted file_cmp (marked_entries q es))
      (ids_later q e.0 es (first (below_all name_cmp e.0 es) (fin.is_sorted name_cmp es) h))
      (marked_sorted q es (second (below_all name_cmp e.0 es) (fin.is_sorted name_cmp es) h))

  -- the files with vectors of a path stand before those of later paths
  marked_before : (q : List ℕ) (es : List (List ℕ × V)) (ys : List (File × V)) → ((id : List ℕ) → T (below_all file_cmp (marked_file q id) ys))
      → AllByRecursion (λ e. T (below_all file_cmp e.0 ys)) (marked_entries q es)
  marked_before q [] ys h = tt
  marked_before q (e ∷ es) ys h = (h e.0, marked_before q es ys h)

  -- the files without vectors up to a path stand before its files with vectors
  plain_before : (ps : List (List ℕ × V)) (m : List ℕ × fin.FinMap name_cmp V) (ms : List (List ℕ × fin.FinMap name_cmp V))
      → T (fin.is_sorted name_cmp ps) → T (below_all name_cmp m.0 ms)
      → AllByRecursion (λ e. T (below_all file_cmp e.0 (rest_after ps m ms))) (plain_entries (up_to m.0 ps))
  plain_before [] m ms h g = tt
  plain_before (p ∷ ps) m ms h g =
      let low = first (below_all name_cmp p.0 ps) (fin.is_sorted name_cmp ps) h in
      let there = plain_before ps m ms (second (below_all name_cmp p.0 ps) (fin.is_sorted name_cmp ps) h) g in
      elim (is_gt (name_cmp p.0 m.0)) as (λ b. is_gt (name_cmp p.0 m.0) ≡ b
      → AllByRecursion (λ e. T (below_all file_cmp e.0 (marked_entries m.0 (fin.entries m.1) ++ in_file_order (cond b (p ∷ ps) (above m.0 ps)) ms))) (plain_entries (cond b [] (p ∷ up_to m.0 ps)))) [
        | true ↦ λ t. tt
        | false ↦ λ t. (
          below_both file_cmp (plain_file p.0) (marked_entries m.0 (fin.entries m.1)) (in_file_order (above m.0 ps) ms)
              (marked_later (plain_file p.0) m.0 (fin.entries m.1) (λ id. plain_first p.0 m.0 id t))
              (order_later (plain_file p.0) (above m.0 ps) ms (below_part p.0 m.0 ps low).1 (below_chain p.0 m.0 ms t g)),
          there,
        )
      ] refl

  in_file_order-sorted : (ps : List (List ℕ × V)) (ms : List (List ℕ × fin.FinMap name_cmp V)) → T (fin.is_sorted name_cmp ps) → T (fin.is_sorted name_cmp ms)
      → T (fin.is_sorted file_cmp (in_file_order ps ms))
  in_file_order-sorted ps [] h g = plain_sorted ps h
  in_file_order-sorted ps (m ∷ ms) h g =
      let later = first (below_all name_cmp m.0 ms) (fin.is_sorted name_cmp ms) g in
      let part = sorted_part m.0 ps h in
      sorted_both file_cmp (plain_entries (up_to m.0 ps)) (rest_after ps m ms) (plain_sorted (up_to m.0 ps) part.0)
      (sorted_both file_cmp (marked_entries m.0 (fin.entries m.1)) (in_file_order (above m.0 ps) ms)
      (marked_sorted m.0 (fin.entries m.1) (fin.entries_sorted m.1))
      (in_file_order-sorted (above m.0 ps) ms part.1 (second (below_all name_cmp m.0 ms) (fin.is_sorted name_cmp ms) g))
      (marked_before m.0 (fin.entries m.1) (in_file_order (above m.0 ps) ms) (λ id. order_later (marked_file m.0 id) (above m.0 ps) ms (above_later m.0 ps h) later)))
      (plain_before ps m ms h later)

  pub values-by_file : (plain : fin.FinMap name_cmp V) (marked : Marked V) → fin.values (by_file plain marked) ≡ map (λ e. e.1) (in_file_order (fin.entries plain) (fin.entries marked))
  values-by_file plain marked =
      let es = in_file_order (fin.entries plain) (fin.entries marked) in
      let sorted = in_file_order-sorted (fin.entries plain) (fin.entries marked) (fin.entries_sorted plain) (fin.entries_sorted marked) in
      let same = fin.same_map file_cmp_total exact_files (by_file plain marked) (fin.from_sorted es)
      (λ q. fin.get-from_entries file_cmp_total es q ∙ sym (fin.get-from_sorted file_cmp es q sorted)) in
      ap fin.values same ∙ ap (map (λ e. e.1)) (fin.entries-from_sorted file_cmp es sorted)
