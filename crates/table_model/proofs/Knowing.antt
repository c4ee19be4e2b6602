-- What knowledge that holds says of the log of its world.
use Rattle.std.proofs.Common.{◌≡◌, ◌<◌, ◌≤◌, ◌+◌, ◌⊎◌, inl, inr, ℕ, zero, suc, Bool, true, false, List, [], ◌∷◌, ◌++◌, length, take, refl, sym, ◌∙◌, ap, subst, arith, rules, Option, Some, None, IsTrue, length-append, append-nil, unwrap_or}
use Rattle.std.specs.Prelude.{All, IfSome, is_some, slice_index_or}
use Rattle.std.proofs.Math.ListN.{get_or-append}
use Rattle.std.proofs.lemmas.List.{take_all}
use Rattle.log_names.specs.declared.LogName.TheVariants as name
use Rattle.table_model.specs.Files.{file_at}
use Rattle.table_model.specs.Log.{Commit, commit_at, no_commit, IsSound}
use Rattle.table_model.specs.World.{WorldData, stands, log_of, entry_at, commit_of, file_of_version}
use Rattle.table_model.specs.Consistency.{IsSized, IsFiled, IsConsistent}
use Rattle.table_model.specs.Knowledge.{Knowledge, Terms, Triple, StartsWith, IsValid, IsTelling}
use Rattle.table_model.specs.Holding.{HoldsIn, IsLater, IsKeptIn, terms_of}
use Rattle.table_model.proofs.Growing.{starts_refl, starts_trans, le_refl, le_trans}
use Rattle.table_model.proofs.Logs.{length-commits_from, commit_at-commits_from}
use Rattle.table_model.proofs.Sound.{sound-starts}
use Rattle.table_model.proofs.Worlds.{bytes_of}

pub length-log_of : (w : WorldData) → length (log_of w) ≡ length w.records
length-log_of w = length-commits_from w.files 0 w.records

starts_length : {A : Type 0} (longer front : List A) → StartsWith longer front → length front ≤ length longer
starts_length longer front s = let e = ap length s.is in let f = length-append front s.rest in omega (arith, e, f)

pub seen_length : (w : WorldData) (k : Knowledge) → HoldsIn w k → length k.seen ≤ length w.records
seen_length w k h = let e = length-log_of w in let f = starts_length (log_of w) k.seen h.seen in omega (arith, e, f)

-- a commit that was seen is the log's
pub seen_commit : (w : WorldData) (k : Knowledge) → HoldsIn w k → (version : ℕ) → version < length k.seen
    → commit_at k.seen version ≡ commit_at (log_of w) version
seen_commit w k h version less =
    sym (get_or-append k.seen h.seen.rest no_commit version less) ∙ sym (ap (λ log. commit_at log version) h.seen.is)

empty_rest : {A : Type 0} (xs : List A) → length xs ≡ 0 → xs ≡ []
empty_rest [] e = refl
empty_rest (x ∷ xs) e = absurd (omega arith)

-- a front as long as the whole is the whole
pub whole_front : (longer front : List Commit) → StartsWith longer front → length longer ≡ length front → longer ≡ front
whole_front longer front s e =
    let f = ap length s.is in
    let g = length-append front s.rest in
    let gone : s.rest ≡ [] = empty_rest s.rest (omega (arith, e, f, g)) in
    s.is ∙ ap (λ r. front ++ r) gone ∙ append-nil front

-- who has seen as many commits as there are has seen the log
pub all_seen : (w : WorldData) (k : Knowledge) → HoldsIn w k → length w.records ≤ length k.seen → k.seen ≡ log_of w
all_seen w k h enough =
    let e = length-log_of w in
    let f = ap length h.seen.is in
    let g = length-append k.seen h.seen.rest in
    let none : length h.seen.rest ≡ 0 = omega (arith, e, f, g) in
    let gone : h.seen.rest ≡ [] = empty_rest h.seen.rest none in
    sym (append-nil k.seen) ∙ sym (ap (λ r. k.seen ++ r) gone) ∙ sym h.seen.is

-- the commit of a ratified version, by its record
pub log_commit : (w : WorldData) (version : ℕ) → version < length w.records
    → commit_at (log_of w) version ≡ commit_of w.files version (entry_at w.records version)
log_commit w version less =
    commit_at-commits_from w.files 0 w.records version less ∙ ap (λ n. commit_of w.files n (entry_at w.records version)) (let e : 0 + version ≡ version = omega arith in e)

-- the file of a ratified version has the commit's bytes
pub commit_file : (w : WorldData) → IsFiled w → (version : ℕ) → version < length w.records
    → file_of_version w.files version (entry_at w.records version).id ≡ Some (commit_at (log_of w) version).bytes
commit_file w f version less =
    let b = bytes_of _ (f.kept version less) in
    let same : (commit_at (log_of w) version).bytes ≡ b.0 = ap (λ (c : Commit). c.bytes) (log_commit w version less) ∙ ap (λ (o : Option (List ℕ)). unwrap_or o []) b.1 in
    b.1 ∙ ap Some (sym same)

telling : (o : Option Terms) (w : WorldData) → IfSome o (λ t. t ≡ terms_of w) → IsTelling o → IsTrue w.tells
telling None w e h = absurd h
telling (Some t) w e h = sym (ap (λ (u : Terms). u.tells) e) ∙ h

limited : (o : Option Terms) (w : WorldData) (n : ℕ) → IfSome o (λ t. t ≡ terms_of w) → n ≤ w.limits.versions → IfSome o (λ t. n ≤ t.limits.versions)
limited None w n e h = tt
limited (Some t) w n e h = let P : Terms → Type 0 = λ u. n ≤ u.limits.versions in subst P (sym e) h

-- knowledge that holds in a consistent world is valid
pub valid_of : (w : WorldData) (k : Knowledge) → IsConsistent w → HoldsIn w k → IsValid k
valid_of w k c h = record {
  sound = λ t. sound-starts (log_of w) k.seen h.seen (c.filed (telling k.terms w h.terms t)).sound;
  versions = limited k.terms w (length k.seen) h.terms (le_trans _ _ _ (seen_length w k h) c.sized.versions);
  mine = h.mine;
  reported = h.within;
  marks = λ t. h.marks (telling k.terms w h.terms t);
}
