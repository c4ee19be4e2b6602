-- Values of files, kept by path where a file has no deletion vector, and else by the unique ids of the vectors under their path: the map by
-- file that they are seen as, and the files in their order.
use Rattle.std.specs.Prelude.{◌≡◌, ℕ, ◌&&◌, List, [], ◌∷◌, ◌++◌, map, Option, Some, None, option_and_then, if◌then◌else◌, refl}
use Rattle.std.specs.Coded.{Coded, code_by, coded×, coded_ℕ, coded_list, coded_option}
use Rattle.std.specs.Ordering.{is_gt, eq_by_cmp}
use Rattle.std.specs.FinMap as fin
use Rattle.action_types.specs.Files.{File, name_cmp, file_cmp}

abbrev pub file_code : Coded File
file_code =
    code_by (List ℕ × Option (List ℕ)) (coded× (coded_list coded_ℕ) (coded_option (coded_list coded_ℕ))) (λ f. (f.path, f.id)) (λ p. record { path = p.0; id = p.1 }) (λ _. refl)

-- the file of a path without a vector
abbrev pub plain_file : List ℕ → File
plain_file path = record { path = path; id = None }

-- the file of a path with a vector of this unique id
abbrev pub marked_file : List ℕ → List ℕ → File
marked_file path id = record { path = path; id = Some id }

-- values by id, under paths
abbrev pub Marked : Type 0 → Type 0
Marked V = fin.FinMap name_cmp (fin.FinMap name_cmp V)

-- the value of an id under a path
abbrev pub look : {V : Type 0} → Marked V → List ℕ → List ℕ → Option V
look m path id = option_and_then (λ n. fin.get n id) (fin.get m path)

abbrev pub plain_entries : {V : Type 0} → List (List ℕ × V) → List (File × V)
plain_entries es = map (λ e. (plain_file e.0, e.1)) es

abbrev pub marked_entries : {V : Type 0} → List ℕ → List (List ℕ × V) → List (File × V)
marked_entries path es = map (λ e. (marked_file path e.0, e.1)) es

-- the entries at the front whose names are not above a name, and those from the first on that is
abbrev pub up_to : {V : Type 0} → List ℕ → List (List ℕ × V) → List (List ℕ × V)
up_to name [] = []
up_to name (e ∷ es) = if is_gt (name_cmp e.0 name) then [] else e ∷ up_to name es

abbrev pub above : {V : Type 0} → List ℕ → List (List ℕ × V) → List (List ℕ × V)
above name [] = []
above name (e ∷ es) = if is_gt (name_cmp e.0 name) then e ∷ es else above name es

-- the files in their order: by path, and under one path the one without a vector first
abbrev pub in_file_order : {V : Type 0} → List (List ℕ × V) → List (List ℕ × fin.FinMap name_cmp V) → List (File × V)
in_file_order ps [] = plain_entries ps
in_file_order ps (m ∷ ms) = plain_entries (up_to m.0 ps) ++ (marked_entries m.0 (fin.entries m.1) ++ in_file_order (above m.0 ps) ms)

abbrev pub by_file : {V : Type 0} → fin.FinMap name_cmp V → Marked V → fin.FinMap file_cmp V
by_file plain marked = fin.from_entries (in_file_order (fin.entries plain) (fin.entries marked))

-- ---- steps between the contracts

abbrev pub or_empty : {V : Type 0} → Option (fin.FinMap name_cmp V) → fin.FinMap name_cmp V
or_empty None = fin.empty
or_empty (Some n) = n

-- the values of one path are these, and the others are as they were, where the path had none
abbrev pub PutsBack : {V : Type 0} → Marked V → Marked V → List ℕ → fin.FinMap name_cmp V → Type 0
PutsBack old new path files =
    fin.get old path ≡ None → (q i : List ℕ) → look new q i ≡ (if eq_by_cmp name_cmp q path then fin.get files i else look old q i)

-- what is told of one id under one path is this, and all else is as it was
abbrev pub ChangesAt : {V : Type 0} → Marked V → Marked V → List ℕ → List ℕ → Option V → Type 0
ChangesAt old new path id told =
    (q i : List ℕ) → look new q i ≡ (if eq_by_cmp name_cmp q path && eq_by_cmp name_cmp i id then told else look old q i)
