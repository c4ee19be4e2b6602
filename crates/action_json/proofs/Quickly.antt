-- Where the lines say actions of distinct digests, these are the outcome.
use Rattle.std.proofs.Common.{◌≡◌, ℕ, ◌+◌, ◌==◌, List, [], ◌∷◌, ◌++◌, length, map, Bool, true, false, Some, None, Result, Ok, Err, refl, ap, subst, arith}
use Rattle.std.specs.List.{IsDistinct, AllByRecursion, list_any}
use Rattle.std.proofs.lemmas.Bool.{eqb-false, false_from_ne_true}
use Rattle.std.proofs.lemmas.List.{map-append}
use Rattle.std.proofs.lemmas.Slice.Eq.{bytes_eq-Decides}
use Rattle.text_lines.specs.Lines.{cut}
use Rattle.text_lines.proofs.Cutting.{cut-nil}
use Rattle.action_types.specs.declared.actions.Action.{Action}
use Rattle.action_types.specs.declared.actions.Action.TheVariants as action
use Rattle.action_types.specs.Files.{File, file_of_add, file_of_remove}
use Rattle.action_json.specs.Lines.{line_of}
use Rattle.action_json.specs.Commit.{mentions, is_of_app, is_of_domain, is_info, is_protocol, is_meta, double_of, is_nil, after_line, outcome_from, outcome}
use Rattle.action_json.specs.Digests.{digest, file_digest, digest_of, HasDistinctDigests}
use Rattle.action_json.specs.Quick.{said_after, said_from}
use Rattle.action_json.specs.declared.line.Line.{Line}
use Rattle.action_json.specs.declared.line.Line.TheVariants.{Blank, Unread, Says}
use Rattle.action_json.specs.declared.fault.Why.{Why}
use Rattle.action_json.proofs.Files.{one_file}

-- ---- an action whose digest no other has is no double

info_digest : (b : Action) → is_info b ≡ true → digest_of b ≡ digest 1 []
unfolding digest_of
info_digest (action.Info a) h = refl
info_digest (action.Protocol a) h = absurd (cc)
info_digest (action.Meta a) h = absurd (cc)
info_digest (action.Txn a) h = absurd (cc)
info_digest (action.Domain a) h = absurd (cc)
info_digest (action.Remove a) h = absurd (cc)
info_digest (action.Add a) h = absurd (cc)

protocol_digest : (b : Action) → is_protocol b ≡ true → digest_of b ≡ digest 2 []
unfolding digest_of
protocol_digest (action.Info a) h = absurd (cc)
protocol_digest (action.Protocol a) h = refl
protocol_digest (action.Meta a) h = absurd (cc)
protocol_digest (action.Txn a) h = absurd (cc)
protocol_digest (action.Domain a) h = absurd (cc)
protocol_digest (action.Remove a) h = absurd (cc)
protocol_digest (action.Add a) h = absurd (cc)

meta_digest : (b : Action) → is_meta b ≡ true → digest_of b ≡ digest 3 []
unfolding digest_of
meta_digest (action.Info a) h = absurd (cc)
meta_digest (action.Protocol a) h = absurd (cc)
meta_digest (action.Meta a) h = refl
meta_digest (action.Txn a) h = absurd (cc)
meta_digest (action.Domain a) h = absurd (cc)
meta_digest (action.Remove a) h = absurd (cc)
meta_digest (action.Add a) h = absurd (cc)

app_digest : (app : List ℕ) (b : Action) → is_of_app app b ≡ true → digest_of b ≡ digest 4 app
unfolding digest_of
app_digest app (action.Info a) h = absurd (cc)
app_digest app (action.Protocol a) h = absurd (cc)
app_digest app (action.Meta a) h = absurd (cc)
app_digest app (action.Txn a) h = ap (digest 4) ((bytes_eq-Decides a.app app).0 h)
app_digest app (action.Domain a) h = absurd (cc)
app_digest app (action.Remove a) h = absurd (cc)
app_digest app (action.Add a) h = absurd (cc)

domain_digest : (domain : List ℕ) (b : Action) → is_of_domain domain b ≡ true → digest_of b ≡ digest 6 domain
unfolding digest_of
domain_digest domain (action.Info a) h = absurd (cc)
domain_digest domain (action.Protocol a) h = absurd (cc)
domain_digest domain (action.Meta a) h = absurd (cc)
domain_digest domain (action.Txn a) h = absurd (cc)
domain_digest domain (action.Domain a) h = ap (digest 6) ((bytes_eq-Decides a.domain domain).0 h)
domain_digest domain (action.Remove a) h = absurd (cc)
domain_digest domain (action.Add a) h = absurd (cc)

file_digest-mentions : (file : File) (b : Action) → mentions file b ≡ true → digest_of b ≡ file_digest file
unfolding digest_of
file_digest-mentions file (action.Info a) h = absurd (cc)
file_digest-mentions file (action.Protocol a) h = absurd (cc)
file_digest-mentions file (action.Meta a) h = absurd (cc)
file_digest-mentions file (action.Txn a) h = absurd (cc)
file_digest-mentions file (action.Domain a) h = absurd (cc)
file_digest-mentions file (action.Remove a) h = ap file_digest (one_file (file_of_remove a) file h)
file_digest-mentions file (action.Add a) h = ap file_digest (one_file (file_of_add a) file h)

-- this digest is not among those of the actions
abbrev pub IsNew : ℕ → List ℕ → Type 0
IsNew d digests = AllByRecursion (λ e. (e == d) ≡ false) digests

none_passes : (test : Action → Bool) (d : ℕ) → ((b : Action) → test b ≡ true → digest_of b ≡ d) → (done : List Action) → IsNew d (map digest_of done) → list_any test done ≡ false
none_passes test d same [] new = refl
none_passes test d same (b ∷ done) new =
    let fails : test b ≡ false = false_from_ne_true (test b) (λ e. eqb-false (digest_of b) d new.0 (same b e)) in
    rw fails (none_passes test d same done new.1)

pub no_double : (done : List Action) (a : Action) → IsNew (digest_of a) (map digest_of done) → double_of done a ≡ None
unfolding double_of digest_of
no_double done (action.Info a) new = rw (none_passes is_info (digest 1 []) info_digest done new) refl
no_double done (action.Protocol a) new = rw (none_passes is_protocol (digest 2 []) protocol_digest done new) refl
no_double done (action.Meta a) new = rw (none_passes is_meta (digest 3 []) meta_digest done new) refl
no_double done (action.Txn a) new = rw (none_passes (is_of_app a.app) (digest 4 a.app) (app_digest a.app) done new) refl
no_double done (action.Domain a) new = rw (none_passes (is_of_domain a.domain) (digest 6 a.domain) (domain_digest a.domain) done new) refl
no_double done (action.Remove a) new = rw (none_passes (mentions (file_of_remove a)) (file_digest (file_of_remove a)) (file_digest-mentions (file_of_remove a)) done new) refl
no_double done (action.Add a) new = rw (none_passes (mentions (file_of_add a)) (file_digest (file_of_add a)) (file_digest-mentions (file_of_add a)) done new) refl

-- ---- the actions before others

front_and_last : (P : ℕ → Type 0) (xs : List ℕ) (d : ℕ) → AllByRecursion P (xs ++ d ∷ []) → AllByRecursion P xs × P d
front_and_last P [] d h = (tt, h.0)
front_and_last P (x ∷ xs) d h = let rest = front_and_last P xs d h.1 in ((h.0, rest.0), rest.1)

pub last_is_new : (xs : List ℕ) (d : ℕ) → IsDistinct ◌==◌ (xs ++ d ∷ []) → IsNew d xs × IsDistinct ◌==◌ xs
unfolding IsDistinct
last_is_new [] d h = (tt, tt)
last_is_new (x ∷ xs) d h =
    let here = front_and_last (λ y. (x == y) ≡ false) xs d h.0 in
    let rest = last_is_new xs d h.1 in
    ((here.1, rest.0), (here.0, rest.1))

pub action_is_new : (done : List Action) (a : Action) → HasDistinctDigests (done ++ a ∷ []) → IsNew (digest_of a) (map digest_of done) × HasDistinctDigests done
action_is_new done a h = last_is_new (map digest_of done) (digest_of a) (subst (IsDistinct ◌==◌) (map-append digest_of done (a ∷ [])) h)

-- the actions before the last lines, where those lines leave all actions with distinct digests
abbrev LeavesDistinct : List (List ℕ) → List Action → List Action → Type 0
LeavesDistinct ls all done = said_from done ls ≡ Some all → HasDistinctDigests done

distinct_before_line : (done : List Action) (r : Result Line Why) (ls : List (List ℕ)) (all : List Action) → said_after done (λ more. said_from more ls) r ≡ Some all
    → ((more : List Action) → LeavesDistinct ls all more) → HasDistinctDigests done
distinct_before_line done (Ok Blank) ls all e later = later done e
distinct_before_line done (Ok Unread) ls all e later = later done e
distinct_before_line done (Ok (Says a)) ls all e later = (action_is_new done a (later (done ++ a ∷ []) e)).1
distinct_before_line done (Err w) ls all e later = absurd (cc)

distinct_before : (done : List Action) (ls : List (List ℕ)) (all : List Action) → HasDistinctDigests all → LeavesDistinct ls all done
unfolding said_from
distinct_before done [] all h e = let same : all ≡ done = cc in subst (λ (l : List Action). HasDistinctDigests l) same h
distinct_before done (l ∷ ls) all h e = distinct_before_line done (line_of (is_nil done) l) ls all e (λ more. distinct_before more ls all h)

-- ---- the outcome

outcome_line : (n : ℕ) (done : List Action) (r : Result Line Why) (ls : List (List ℕ)) (all : List Action) → HasDistinctDigests all → said_after done (λ more. said_from more ls) r ≡ Some all
    → ((more : List Action) → said_from more ls ≡ Some all → outcome_from (n + 1) more ls ≡ Ok all) → after_line n done (λ more. outcome_from (n + 1) more ls) r ≡ Ok all
outcome_line n done (Ok Blank) ls all h e later = later done e
outcome_line n done (Ok Unread) ls all h e later = later done e
outcome_line n done (Ok (Says a)) ls all h e later =
    let none : double_of done a ≡ None = no_double done a (action_is_new done a (distinct_before (done ++ a ∷ []) ls all h e)).0 in
    rw none (later (done ++ a ∷ []) e)
outcome_line n done (Err w) ls all h e later = absurd (cc)

outcome_said : (n : ℕ) (done : List Action) (ls : List (List ℕ)) (all : List Action) → HasDistinctDigests all → said_from done ls ≡ Some all → outcome_from n done ls ≡ Ok all
unfolding said_from outcome_from
outcome_said n done [] all h e = let same : done ≡ all = cc in ap Ok same
outcome_said n done (l ∷ ls) all h e = outcome_line n done (line_of (is_nil done) l) ls all h e (λ more f. outcome_said (n + 1) more ls all h f)

pub quick_outcome : (bytes : List ℕ) (all : List Action) → said_from [] (cut bytes) ≡ Some all → HasDistinctDigests all → outcome bytes ≡ Ok all
unfolding outcome
quick_outcome bytes all e h = outcome_said 1 [] (cut bytes) all h e

-- where nothing is left, what was found is said
pub said_from-empty : (done : List Action) (rest : List ℕ) → length rest ≡ 0 → said_from done (cut rest) ≡ Some done
unfolding said_from
said_from-empty done [] none = ap (said_from done) cut-nil
said_from-empty done (b ∷ l) none = absurd (omega arith)
