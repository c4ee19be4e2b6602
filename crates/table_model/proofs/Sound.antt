-- Sound logs, shorter and longer.
use Rattle.std.proofs.Common.{◌≡◌, ◌<◌, ◌≤◌, ◌+◌, ◌⊎◌, inl, inr, ℕ, zero, suc, List, [], ◌∷◌, ◌++◌, length, take, refl, sym, ◌∙◌, ap, subst, arith, rules, length-append}
use Rattle.std.specs.Prelude.{slice_index_or}
use Rattle.std.proofs.lemmas.List.{take-append-le, take_all}
use Rattle.std.proofs.Math.ListN.{get_or-append}
use Rattle.std.proofs.Math.Seq.{get_or-append_seam, take-append_seam}
use Rattle.table_model.specs.Log.{Commit, commit_at, no_commit, IsNextCommit, IsSound}
use Rattle.table_model.specs.Knowledge.{StartsWith}

-- a number below the next one is below, or is the last
pub last_or_below : (n v : ℕ) → v < n + 1 → (v < n) ⊎ (v ≡ n)
last_or_below zero zero h = inr refl
last_or_below zero (suc v) h = absurd (omega arith)
last_or_below (suc n) zero h = inl (omega arith)
last_or_below (suc n) (suc v) h = elim (last_or_below n v (omega arith)) [ inl below ↦ inl (omega arith) | inr last ↦ inr (ap suc last) ]

-- of the empty log nothing is asked
pub sound-nil : IsSound []
sound-nil version less = absurd (omega arith)

-- what begins a sound log is sound
pub sound-front : (front rest : List Commit) → IsSound (front ++ rest) → IsSound front
sound-front front rest s version less =
    let far : version < length (front ++ rest) = omega (arith, length-append front rest) in
    let short : version ≤ length front = omega arith in
    let next : IsNextCommit (take version (front ++ rest)) (commit_at (front ++ rest) version).bytes = s version far in
    let P : List Commit → Commit → Type 0 = λ log c. IsNextCommit log c.bytes in
    subst (λ log. P log (commit_at front version)) (take-append-le version front rest short)
    (subst (λ c. P (take version (front ++ rest)) c) (get_or-append front rest no_commit version less) next)

pub sound-starts : (log front : List Commit) → StartsWith log front → IsSound log → IsSound front
sound-starts log front starts s = sound-front front starts.rest (subst IsSound starts.is s)

push_below : (log : List Commit) (c : Commit) → IsSound log → (version : ℕ) → version < length log
    → IsNextCommit (take version (log ++ c ∷ [])) (commit_at (log ++ c ∷ []) version).bytes
push_below log c s version below =
    let short : version ≤ length log = omega arith in
    let P : List Commit → Commit → Type 0 = λ front d. IsNextCommit front d.bytes in
    subst (λ front. P front (commit_at (log ++ c ∷ []) version)) (sym (take-append-le version log (c ∷ []) short))
    (subst (λ d. P (take version log) d) (sym (get_or-append log (c ∷ []) no_commit version below)) (s version below))

push_last : (log : List Commit) (c : Commit) → IsNextCommit log c.bytes
    → IsNextCommit (take (length log) (log ++ c ∷ [])) (commit_at (log ++ c ∷ []) (length log)).bytes
push_last log c next =
    let P : List Commit → Commit → Type 0 = λ front d. IsNextCommit front d.bytes in
    subst (λ front. P front (commit_at (log ++ c ∷ []) (length log))) (sym (take-append_seam log (c ∷ [])))
    (subst (λ d. P log d) (sym (get_or-append_seam log c [] no_commit)) next)

push_at : (log : List Commit) (c : Commit) → IsSound log → IsNextCommit log c.bytes → (version : ℕ) → (version < length log) ⊎ (version ≡ length log)
    → IsNextCommit (take version (log ++ c ∷ [])) (commit_at (log ++ c ∷ []) version).bytes
push_at log c s next version (inl below) = push_below log c s version below
push_at log c s next version (inr last) =
    let P : ℕ → Type 0 = λ v. IsNextCommit (take v (log ++ c ∷ [])) (commit_at (log ++ c ∷ []) v).bytes in
    subst P (sym last) (push_last log c next)

-- a sound log and its next commit
pub sound-push : (log : List Commit) (c : Commit) → IsSound log → IsNextCommit log c.bytes → IsSound (log ++ c ∷ [])
sound-push log c s next version less = push_at log c s next version (last_or_below (length log) version (omega (arith, length-append log (c ∷ []))))
