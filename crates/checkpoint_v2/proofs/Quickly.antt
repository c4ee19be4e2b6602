-- Where the lines say actions of distinct digests, the reading goes to its end.
use Rattle.std.proofs.Common.{◌≡◌, ℕ, ◌+◌, List, [], ◌∷◌, ◌++◌, length, is_some, Option, Some, None, Result, Ok, Err, ap, subst, arith, if◌then◌else◌}
use Rattle.text_lines.specs.Lines.{cut}
use Rattle.text_lines.proofs.Cutting.{cut-nil}
use Rattle.action_types.specs.declared.actions.Action.{Action}
use Rattle.action_fields.specs.declared.kind.Kind.TheVariants as kind
use Rattle.action_json.specs.CheckpointLines.{checkpoint_line_of}
use Rattle.action_json.specs.Commit.{double_of, if_some}
use Rattle.action_json.specs.Digests.{HasDistinctDigests}
use Rattle.action_json.specs.declared.checkpoint_line.CheckpointLine.{CheckpointLine}
use Rattle.action_json.specs.declared.checkpoint_line.CheckpointLine.TheVariants as says
use Rattle.action_json.specs.declared.fault.Why.{Why}
use Rattle.action_json.proofs.Quickly.{no_double, action_is_new}
use Rattle.checkpoint_v2.specs.Outcome.{unless_double, after_line, checked, outcome_from, outcome}
use Rattle.checkpoint_v2.specs.Quick.{Found, said_after, said_from}

-- the actions before the last lines, where those lines leave all actions with distinct digests
abbrev LeavesDistinct : List (List ℕ) → Found → Option ℕ → List Action → Type 0
LeavesDistinct ls all version done = said_from version done ls ≡ Some all → HasDistinctDigests done

before_version : (version : Option ℕ) (v : ℕ) (done : List Action) (rest : Option ℕ → List Action → Option Found) (all : Found)
    → (if is_some version then None else rest (Some v) done) ≡ Some all → (rest (Some v) done ≡ Some all → HasDistinctDigests done) → HasDistinctDigests done
before_version None v done rest all e later = later e
before_version (Some w) v done rest all e later = absurd (cc)

distinct_before_line : (version : Option ℕ) (done : List Action) (r : Result CheckpointLine Why) (ls : List (List ℕ)) (all : Found)
    → said_after version done (λ v more. said_from v more ls) r ≡ Some all → ((v : Option ℕ) (more : List Action) → LeavesDistinct ls all v more) → HasDistinctDigests done
distinct_before_line version done (Ok says.Blank) ls all e later = later version done e
distinct_before_line version done (Ok says.Unread) ls all e later = later version done e
distinct_before_line version done (Ok (says.Says a)) ls all e later = (action_is_new done a (later version (done ++ a ∷ []) e)).1
distinct_before_line version done (Ok (says.Version v)) ls all e later = before_version version v done (λ w more. said_from w more ls) all e (later (Some v) done)
distinct_before_line version done (Ok says.Sidecar) ls all e later = absurd (cc)
distinct_before_line version done (Err w) ls all e later = absurd (cc)

distinct_before : (version : Option ℕ) (done : List Action) (ls : List (List ℕ)) (all : Found) → HasDistinctDigests all.actions → LeavesDistinct ls all version done
unfolding said_from
distinct_before version done [] all h e =
    let same : all ≡ record { version = version; actions = done } = cc in subst (λ (f : Found). HasDistinctDigests f.actions) same h
distinct_before version done (l ∷ ls) all h e = distinct_before_line version done (checkpoint_line_of l) ls all e (λ v more. distinct_before v more ls all h)

-- ---- the outcome

first_version : (wanted n : ℕ) (version : Option ℕ) (v : ℕ) (done : List Action) (ls : List (List ℕ)) (all : Found)
    → (if is_some version then None else said_from (Some v) done ls) ≡ Some all → (said_from (Some v) done ls ≡ Some all → outcome_from wanted (n + 1) (Some v) done ls ≡ checked wanted all.version all.actions)
    → unless_double n kind.CheckpointMetadata (if_some (is_some version) []) (outcome_from wanted (n + 1) (Some v) done ls) ≡ checked wanted all.version all.actions
first_version wanted n None v done ls all e later = later e
first_version wanted n (Some w) v done ls all e later = absurd (cc)

outcome_line : (wanted n : ℕ) (version : Option ℕ) (done : List Action) (r : Result CheckpointLine Why) (ls : List (List ℕ)) (all : Found) → HasDistinctDigests all.actions
    → said_after version done (λ v more. said_from v more ls) r ≡ Some all
    → ((v : Option ℕ) (more : List Action) → said_from v more ls ≡ Some all → outcome_from wanted (n + 1) v more ls ≡ checked wanted all.version all.actions)
    → after_line n version done (λ v more. outcome_from wanted (n + 1) v more ls) r ≡ checked wanted all.version all.actions
outcome_line wanted n version done (Ok says.Blank) ls all h e later = later version done e
outcome_line wanted n version done (Ok says.Unread) ls all h e later = later version done e
outcome_line wanted n version done (Ok (says.Says a)) ls all h e later =
    let none : double_of done a ≡ None = no_double done a (action_is_new done a (distinct_before version (done ++ a ∷ []) ls all h e)).0 in
    rw none (later version (done ++ a ∷ []) e)
outcome_line wanted n version done (Ok (says.Version v)) ls all h e later = first_version wanted n version v done ls all e (later (Some v) done)
outcome_line wanted n version done (Ok says.Sidecar) ls all h e later = absurd (cc)
outcome_line wanted n version done (Err w) ls all h e later = absurd (cc)

outcome_said : (wanted n : ℕ) (version : Option ℕ) (done : List Action) (ls : List (List ℕ)) (all : Found) → HasDistinctDigests all.actions → said_from version done ls ≡ Some all
    → outcome_from wanted n version done ls ≡ checked wanted all.version all.actions
unfolding said_from outcome_from
outcome_said wanted n version done [] all h e = let same : record { version = version; actions = done } ≡ all = cc in ap (λ (f : Found). checked wanted f.version f.actions) same
outcome_said wanted n version done (l ∷ ls) all h e = outcome_line wanted n version done (checkpoint_line_of l) ls all h e (λ v more f. outcome_said wanted (n + 1) v more ls all h f)

pub quick_outcome : (wanted : ℕ) (bytes : List ℕ) (all : Found) → said_from None [] (cut bytes) ≡ Some all → HasDistinctDigests all.actions → outcome wanted bytes ≡ checked wanted all.version all.actions
unfolding outcome
quick_outcome wanted bytes all e h = outcome_said wanted 1 None [] (cut bytes) all h e

-- where nothing is left, what was found is said
pub said_from-empty : (version : Option ℕ) (done : List Action) (rest : List ℕ) → length rest ≡ 0 → said_from version done (cut rest) ≡ Some (record { version = version; actions = done })
unfolding said_from
said_from-empty version done [] none = ap (said_from version done) cut-nil
said_from-empty version done (b ∷ l) none = absurd (omega arith)
