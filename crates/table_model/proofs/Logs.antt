-- The log of a world, commit by commit.
use Rattle.std.proofs.Common.{◌≡◌, ◌<◌, ◌≤◌, ◌+◌, ℕ, zero, suc, List, [], ◌∷◌, ◌++◌, length, take, refl, sym, ◌∙◌, ap, subst, arith, rules, add_assoc, add-zero, get_or, Option, Some, None, unwrap_or}
use Rattle.std.specs.Prelude.{slice_index_or}
use Rattle.commit_catalog.specs.declared.Entry.{Entry}
use Rattle.object_store.specs.Files.{Files}
use Rattle.table_model.specs.Log.{Commit, commit_at, no_commit}
use Rattle.table_model.specs.World.{entry_at, commit_of, commits_from, file_of_version}

pub length-commits_from : (files : Files) (version : ℕ) (es : List Entry) → length (commits_from files version es) ≡ length es
unfolding commits_from
length-commits_from files version [] = refl
length-commits_from files version (e ∷ es) = ap suc (length-commits_from files (version + 1) es)

pub commits_from-append : (files : Files) (version : ℕ) (es more : List Entry)
    → commits_from files version (es ++ more) ≡ commits_from files version es ++ commits_from files (version + length es) more
unfolding commits_from
commits_from-append files version [] more = ap (λ n. commits_from files n more) (sym (add-zero version))
commits_from-append files version (e ∷ es) more =
    ap (λ cs. commit_of files version e ∷ cs) (commits_from-append files (version + 1) es more
    ∙ ap (λ n. commits_from files (version + 1) es ++ commits_from files n more) (let e : version + 1 + length es ≡ version + suc (length es) = omega arith in e))

pub commit_at-commits_from : (files : Files) (version : ℕ) (es : List Entry) (i : ℕ) → i < length es
    → commit_at (commits_from files version es) i ≡ commit_of files (version + i) (entry_at es i)
unfolding commits_from
commit_at-commits_from files version [] i h = absurd (omega arith)
commit_at-commits_from files version (e ∷ es) zero h = ap (λ n. commit_of files n e) (sym (add-zero version))
commit_at-commits_from files version (e ∷ es) (suc i) h =
    commit_at-commits_from files (version + 1) es i (omega arith)
    ∙ ap (λ n. commit_of files n (entry_at es i)) (let e : version + 1 + i ≡ version + suc i = omega arith in e)

-- two stores with the same file for each ratified version have the same log
pub commits_from-same : (files later : Files) (version : ℕ) (es : List Entry)
    → ((i : ℕ) → i < length es → file_of_version later (version + i) (entry_at es i).id ≡ file_of_version files (version + i) (entry_at es i).id)
    → commits_from later version es ≡ commits_from files version es
unfolding commits_from
commits_from-same files later version [] h = refl
commits_from-same files later version (e ∷ es) h =
    let head : file_of_version later version e.id ≡ file_of_version files version e.id =
    subst (λ n. file_of_version later n e.id ≡ file_of_version files n e.id) (add-zero version) (h 0 (omega arith)) in
    let first : commit_of later version e ≡ commit_of files version e =
    ap (λ (o : Option (List ℕ)). let c : Commit = record { id = e.id; bytes = unwrap_or o [] } in c) head in
    let rest : commits_from later (version + 1) es ≡ commits_from files (version + 1) es =
    commits_from-same files later (version + 1) es
    (λ i less. subst (λ n. file_of_version later n (entry_at es i).id ≡ file_of_version files n (entry_at es i).id)
    (let s : version + suc i ≡ version + 1 + i = omega arith in s) (h (suc i) (omega arith))) in
    cc
