-- The reading line by line gives a checkpoint text of its actions, or the fault of bytes that are none.
use Rattle.std.proofs.Common.{◌≡◌, ◌==◌, ℕ, ◌+◌, List, [], ◌∷◌, ◌++◌, length, Bool, true, false, Option, Some, None, option_map, Result, Ok, Err, MatchResult, refl, sym, ap, ◌∙◌, subst, append_assoc, append-nil, length-append, eqb-true, if◌then◌else◌}
use Rattle.std.specs.List.{AllByRecursion, list_any}
use Rattle.std.proofs.lemmas.Bool.{and_parts, eqb-false}
use Rattle.std.proofs.lemmas.Grind.{flat_map-append}
use Rattle.text_lines.specs.Lines.{cut}
use Rattle.action_types.specs.declared.actions.Action.{Action}
use Rattle.action_fields.specs.Canonical.{kind_of}
use Rattle.action_fields.specs.declared.kind.Kind.TheVariants as kind
use Rattle.action_json.specs.CheckpointLines.{checkpoint_line_of}
use Rattle.action_json.specs.Commit.{double_of, is_protocol, is_meta}
use Rattle.action_json.specs.declared.checkpoint_line.CheckpointLine.{CheckpointLine}
use Rattle.action_json.specs.declared.checkpoint_line.CheckpointLine.TheVariants as says
use Rattle.action_json.specs.declared.fault.Why.{Why}
use Rattle.action_json.specs.declared.fault.Why.TheVariants as why
use Rattle.checkpoint_v2.specs.Outcome.{Read, unless_double, after_line, has_state, checked, outcome_from, outcome}
use Rattle.checkpoint_v2.specs.Refused.{second_version, fault_in, fault_after, Faultless, IsFirstFault, IsRefusedFor}
use Rattle.checkpoint_v2.specs.Text.{action_in, version_in, is_plain, actions_in, versions_in, actions_of, versions_of, HasNoDoubles, IsCheckpointText}
use Rattle.checkpoint_v2.specs.declared.fault.BadCheckpoint.{BadCheckpoint}
use Rattle.checkpoint_v2.specs.declared.fault.BadCheckpoint.TheVariants as bad
use Rattle.checkpoint_v2.proofs.Counts.{HasNoDoubles-nil, HasNoDoubles-push, no_double-before}

-- ---- lines and one more

abbrev IsPlain : List ℕ → Type 0
IsPlain l = is_plain (checkpoint_line_of l) ≡ true

actions_push : (before : List (List ℕ)) (l : List ℕ) → actions_in (before ++ l ∷ []) ≡ actions_in before ++ action_in (checkpoint_line_of l)
actions_push before l =
    flat_map-append (λ k. action_in (checkpoint_line_of k)) before (l ∷ []) ∙ ap (λ r. actions_in before ++ r) (append-nil (action_in (checkpoint_line_of l)))

versions_push : (before : List (List ℕ)) (l : List ℕ) → versions_in (before ++ l ∷ []) ≡ versions_in before ++ version_in (checkpoint_line_of l)
versions_push before l =
    flat_map-append (λ k. version_in (checkpoint_line_of k)) before (l ∷ []) ∙ ap (λ r. versions_in before ++ r) (append-nil (version_in (checkpoint_line_of l)))

length_push : (before : List (List ℕ)) (l : List ℕ) → length (before ++ l ∷ []) ≡ length before + 1
length_push before l = length-append before (l ∷ [])

pub all_push : {X : Type 0} (P : X → Type 0) (xs : List X) (x : X) → AllByRecursion P xs → P x → AllByRecursion P (xs ++ x ∷ [])
all_push P [] x h p = (p, tt)
all_push P (y ∷ xs) x h p = (h.0, all_push P xs x h.1 p)

pub all_at : {X : Type 0} (P : X → Type 0) (xs : List X) (x : X) (ys : List X) → AllByRecursion P (xs ++ x ∷ ys) → P x
all_at P [] x ys h = h.0
all_at P (y ∷ xs) x ys h = all_at P xs x ys h.1

faultless_push : (b xs : List (List ℕ)) (l : List ℕ) → Faultless b xs → fault_after (b ++ xs) l ≡ None → Faultless b (xs ++ l ∷ [])
unfolding Faultless
faultless_push b [] l h e = (ap (λ c. fault_after c l) (sym (append-nil b)) ∙ e, tt)
faultless_push b (x ∷ xs) l h e = (h.0, faultless_push (b ++ x ∷ []) xs l h.1 (ap (λ c. fault_after c l) (append_assoc b (x ∷ []) xs) ∙ e))

fault_is : (before : List (List ℕ)) (l : List ℕ) (r : Result CheckpointLine Why) → checkpoint_line_of l ≡ r → fault_after before l ≡ fault_in (length before + 1) before r
unfolding fault_after
fault_is before l r e = ap (fault_in (length before + 1) before) e

-- lines without a fault: none is a sidecar, and their actions have no doubles
record Clean (before : List (List ℕ)) : Type 0 where
  faultless : Faultless [] before
  plain : AllByRecursion IsPlain before
  apart : HasNoDoubles (actions_in before)

nothing_before : Clean []
unfolding Faultless
nothing_before = record { faultless = tt; plain = tt; apart = HasNoDoubles-nil }

clean_push : (before : List (List ℕ)) (l : List ℕ) (r : Result CheckpointLine Why) → checkpoint_line_of l ≡ r → Clean before → is_plain r ≡ true
    → fault_in (length before + 1) before r ≡ None → HasNoDoubles (actions_in before ++ action_in r) → Clean (before ++ l ∷ [])
clean_push before l r e h plain none apart = record {
  faultless = faultless_push [] before l h.faultless (fault_is before l r e ∙ none);
  plain = all_push IsPlain before l h.plain (ap is_plain e ∙ plain);
  apart = subst HasNoDoubles (sym (actions_push before l ∙ ap (λ s. actions_in before ++ action_in s) e)) apart;
}

-- ---- what is told

abbrev listed : Option ℕ → List ℕ
listed None = []
listed (Some v) = v ∷ []

abbrev Told : ℕ → List ℕ → Read → Type 0
Told wanted bytes r = MatchResult r (IsCheckpointText bytes wanted) (IsRefusedFor wanted bytes)

here : (bytes : List ℕ) (before : List (List ℕ)) (l : List ℕ) (ls : List (List ℕ)) (fault : BadCheckpoint)
    → cut bytes ≡ before ++ l ∷ ls → Clean before → fault_after before l ≡ Some fault → IsFirstFault bytes fault
here bytes before l ls fault e h f = record { before = before; line = l; after = ls; lines = e; faultless = h.faultless; is = f }

-- ---- after the last line

told_state : (wanted : ℕ) (bytes : List ℕ) (b : Bool) → has_state (actions_of bytes) ≡ b → Clean (cut bytes) → versions_of bytes ≡ wanted ∷ []
    → Told wanted bytes (if b then Ok (actions_of bytes) else Err bad.NoState)
told_state wanted bytes true e h v =
    let both = and_parts (list_any is_protocol (actions_of bytes)) (list_any is_meta (actions_of bytes)) e in
    record { plain = h.plain; of_version = v; all = refl; apart = h.apart; protocol = both.0; meta = both.1 }
told_state wanted bytes false e h v = (h.faultless, v, e)

told_version : (wanted : ℕ) (bytes : List ℕ) (v : ℕ) (b : Bool) → (v == wanted) ≡ b → Clean (cut bytes) → versions_of bytes ≡ v ∷ []
    → Told wanted bytes (if b then (if has_state (actions_of bytes) then Ok (actions_of bytes) else Err bad.NoState) else Err (bad.WrongVersion v))
told_version wanted bytes v true e h is =
    told_state wanted bytes (has_state (actions_of bytes)) refl h (is ∙ ap (λ n. n ∷ []) (eqb-true v wanted e))
told_version wanted bytes v false e h is = (h.faultless, is, eqb-false v wanted e)

told_end : (wanted : ℕ) (bytes : List ℕ) (version : Option ℕ) → Clean (cut bytes) → versions_of bytes ≡ listed version → Told wanted bytes (checked wanted version (actions_of bytes))
told_end wanted bytes None h is = (h.faultless, is)
told_end wanted bytes (Some v) h is = told_version wanted bytes v (v == wanted) refl h is

-- ---- line by line

-- the lines after this one
abbrev Later : ℕ → List ℕ → List (List ℕ) → List ℕ → List (List ℕ) → Type 0
Later wanted bytes before l ls =
    (version : Option ℕ) → Clean (before ++ l ∷ []) → versions_in (before ++ l ∷ []) ≡ listed version
    → Told wanted bytes (outcome_from wanted (length (before ++ l ∷ []) + 1) version (actions_in (before ++ l ∷ [])) ls)

moved : (wanted : ℕ) (bytes : List ℕ) (ls : List (List ℕ)) (version : Option ℕ) (m n : ℕ) (d e : List Action) → m ≡ n → d ≡ e
    → Told wanted bytes (outcome_from wanted m version d ls) → Told wanted bytes (outcome_from wanted n version e ls)
moved wanted bytes ls version m n d e same_number same_actions h =
    subst (λ (k : ℕ). Told wanted bytes (outcome_from wanted k version e ls)) same_number (subst (λ (k : List Action). Told wanted bytes (outcome_from wanted m version k ls)) same_actions h)

-- after a line that has no fault
goes_on : (wanted : ℕ) (bytes : List ℕ) (before : List (List ℕ)) (l : List ℕ) (ls : List (List ℕ)) (r : Result CheckpointLine Why) (version : Option ℕ) (done : List Action)
    → checkpoint_line_of l ≡ r → Clean before → is_plain r ≡ true → fault_in (length before + 1) before r ≡ None
    → HasNoDoubles (actions_in before ++ action_in r) → actions_in before ++ action_in r ≡ done → versions_in before ++ version_in r ≡ listed version
    → Later wanted bytes before l ls → Told wanted bytes (outcome_from wanted (length before + 1 + 1) version done ls)
goes_on wanted bytes before l ls r version done e h plain none apart is of_version later =
    moved wanted bytes ls version (length (before ++ l ∷ []) + 1) (length before + 1 + 1) (actions_in (before ++ l ∷ [])) done
    (ap (λ n. n + 1) (length_push before l))
    (actions_push before l ∙ ap (λ s. actions_in before ++ action_in s) e ∙ is)
    (later version (clean_push before l r e h plain none apart) (versions_push before l ∙ ap (λ s. versions_in before ++ version_in s) e ∙ of_version))

says_nothing : (wanted : ℕ) (bytes : List ℕ) (before : List (List ℕ)) (l : List ℕ) (ls : List (List ℕ)) (r : Result CheckpointLine Why) (version : Option ℕ)
    → checkpoint_line_of l ≡ r → Clean before → versions_in before ≡ listed version → is_plain r ≡ true → fault_in (length before + 1) before r ≡ None
    → action_in r ≡ [] → version_in r ≡ [] → Later wanted bytes before l ls → Told wanted bytes (outcome_from wanted (length before + 1 + 1) version (actions_in before) ls)
says_nothing wanted bytes before l ls r version e h is plain none no_action no_version later =
    let same : actions_in before ++ action_in r ≡ actions_in before = ap (λ s. actions_in before ++ s) no_action ∙ append-nil (actions_in before) in
    goes_on wanted bytes before l ls r version (actions_in before) e h plain none (subst HasNoDoubles (sym same) h.apart) same
    (ap (λ s. versions_in before ++ s) no_version ∙ append-nil (versions_in before) ∙ is) later

told_action : (wanted : ℕ) (bytes : List ℕ) (before : List (List ℕ)) (l : List ℕ) (ls : List (List ℕ)) (a : Action) (version : Option ℕ) (o : Option (List ℕ))
    → cut bytes ≡ before ++ l ∷ ls → checkpoint_line_of l ≡ Ok (says.Says a) → Clean before → versions_in before ≡ listed version → double_of (actions_in before) a ≡ o
    → Later wanted bytes before l ls
    → Told wanted bytes (unless_double (length before + 1) (kind_of a) o (outcome_from wanted (length before + 1 + 1) version (actions_in before ++ a ∷ []) ls))
told_action wanted bytes before l ls a version None lines e h is none later =
    goes_on wanted bytes before l ls (Ok (says.Says a)) version (actions_in before ++ a ∷ []) e h refl
    (ap (option_map (λ key. bad.Line (length before + 1) (why.Double (kind_of a) key))) none)
    (HasNoDoubles-push (actions_in before) a h.apart none) refl (append-nil (versions_in before) ∙ is) later
told_action wanted bytes before l ls a version (Some key) lines e h is some later =
    here bytes before l ls (bad.Line (length before + 1) (why.Double (kind_of a) key)) lines h
    (fault_is before l (Ok (says.Says a)) e ∙ ap (option_map (λ k. bad.Line (length before + 1) (why.Double (kind_of a) k))) some)

told_first : (wanted : ℕ) (bytes : List ℕ) (before : List (List ℕ)) (l : List ℕ) (ls : List (List ℕ)) (v : ℕ) (version : Option ℕ)
    → cut bytes ≡ before ++ l ∷ ls → checkpoint_line_of l ≡ Ok (says.Version v) → Clean before → versions_in before ≡ listed version
    → Later wanted bytes before l ls
    → Told wanted bytes (after_line (length before + 1) version (actions_in before) (λ w more. outcome_from wanted (length before + 1 + 1) w more ls) (Ok (says.Version v)))
told_first wanted bytes before l ls v None lines e h is later =
    let same : actions_in before ++ [] ≡ actions_in before = append-nil (actions_in before) in
    goes_on wanted bytes before l ls (Ok (says.Version v)) (Some v) (actions_in before) e h refl (ap (second_version (length before + 1)) is)
    (subst HasNoDoubles (sym same) h.apart) same (ap (λ s. s ++ v ∷ []) is) later
told_first wanted bytes before l ls v (Some w) lines e h is later =
    here bytes before l ls (bad.Line (length before + 1) (why.Double kind.CheckpointMetadata [])) lines h
    (fault_is before l (Ok (says.Version v)) e ∙ ap (second_version (length before + 1)) is)

told_line : (wanted : ℕ) (bytes : List ℕ) (before : List (List ℕ)) (l : List ℕ) (ls : List (List ℕ)) (version : Option ℕ) (r : Result CheckpointLine Why)
    → cut bytes ≡ before ++ l ∷ ls → checkpoint_line_of l ≡ r → Clean before → versions_in before ≡ listed version → Later wanted bytes before l ls
    → Told wanted bytes (after_line (length before + 1) version (actions_in before) (λ w more. outcome_from wanted (length before + 1 + 1) w more ls) r)
told_line wanted bytes before l ls version (Ok says.Blank) lines e h is later = says_nothing wanted bytes before l ls (Ok says.Blank) version e h is refl refl refl refl later
told_line wanted bytes before l ls version (Ok says.Unread) lines e h is later = says_nothing wanted bytes before l ls (Ok says.Unread) version e h is refl refl refl refl later
told_line wanted bytes before l ls version (Ok (says.Says a)) lines e h is later = told_action wanted bytes before l ls a version (double_of (actions_in before) a) lines e h is refl later
told_line wanted bytes before l ls version (Ok (says.Version v)) lines e h is later = told_first wanted bytes before l ls v version lines e h is later
told_line wanted bytes before l ls version (Ok says.Sidecar) lines e h is later = here bytes before l ls (bad.Sidecar (length before + 1)) lines h (fault_is before l (Ok says.Sidecar) e)
told_line wanted bytes before l ls version (Err w) lines e h is later = here bytes before l ls (bad.Line (length before + 1) w) lines h (fault_is before l (Err w) e)

told_from : (wanted : ℕ) (bytes : List ℕ) (before ls : List (List ℕ)) (version : Option ℕ) → cut bytes ≡ before ++ ls → Clean before → versions_in before ≡ listed version
    → Told wanted bytes (outcome_from wanted (length before + 1) version (actions_in before) ls)
unfolding outcome_from
told_from wanted bytes before [] version lines h is =
    let whole : cut bytes ≡ before = lines ∙ append-nil before in
    subst (λ (ls : List (List ℕ)). Told wanted bytes (checked wanted version (actions_in ls))) whole
    (told_end wanted bytes version (subst Clean (sym whole) h) (ap versions_in whole ∙ is))
told_from wanted bytes before (l ∷ ls) version lines h is =
    told_line wanted bytes before l ls version (checkpoint_line_of l) lines refl h is
    (λ v clean found. told_from wanted bytes (before ++ l ∷ []) ls v (lines ∙ sym (append_assoc before (l ∷ []) ls)) clean found)

pub told_outcome : (wanted : ℕ) (bytes : List ℕ) → MatchResult (outcome wanted bytes) (IsCheckpointText bytes wanted) (IsRefusedFor wanted bytes)
unfolding outcome
told_outcome wanted bytes = told_from wanted bytes [] (cut bytes) None refl nothing_before refl

-- ---- a checkpoint text has no fault, and one reading

alone : (xs : List ℕ) (v : ℕ) (rest : List ℕ) (w : ℕ) → xs ++ v ∷ rest ≡ w ∷ [] → xs ≡ []
alone [] v rest w e = refl
alone (x ∷ []) v rest w e = absurd (cc)
alone (x ∷ y ∷ xs) v rest w e = absurd (cc)

no_fault_in : (n : ℕ) (before : List (List ℕ)) (l : List ℕ) (after : List (List ℕ)) (r : Result CheckpointLine Why) (version : ℕ)
    → is_plain r ≡ true → HasNoDoubles (actions_in before ++ (action_in r ++ actions_in after)) → versions_in before ++ (version_in r ++ versions_in after) ≡ version ∷ []
    → fault_in n before r ≡ None
no_fault_in n before l after (Ok says.Blank) version plain apart found = refl
no_fault_in n before l after (Ok says.Unread) version plain apart found = refl
no_fault_in n before l after (Ok (says.Says a)) version plain apart found =
    ap (option_map (λ key. bad.Line n (why.Double (kind_of a) key))) (no_double-before (actions_in before) a (actions_in after) apart)
no_fault_in n before l after (Ok (says.Version v)) version plain apart found = ap (second_version n) (alone (versions_in before) v (versions_in after) version found)
no_fault_in n before l after (Ok says.Sidecar) version plain apart found = absurd (cc)
no_fault_in n before l after (Err w) version plain apart found = absurd (cc)

not_first : (bytes : List ℕ) (version : ℕ) (actions : List Action) (fault : BadCheckpoint) → IsCheckpointText bytes version actions → IsFirstFault bytes fault → ⊥
not_first bytes version actions fault t f =
    let plain : IsPlain f.line = all_at IsPlain f.before f.line f.after (subst (AllByRecursion IsPlain) f.lines t.plain) in
    let said : actions ≡ actions_in f.before ++ (action_in (checkpoint_line_of f.line) ++ actions_in f.after)
    = t.all ∙ ap actions_in f.lines ∙ flat_map-append (λ k. action_in (checkpoint_line_of k)) f.before (f.line ∷ f.after) in
    let found : versions_in f.before ++ (version_in (checkpoint_line_of f.line) ++ versions_in f.after) ≡ version ∷ []
    = sym (ap versions_in f.lines ∙ flat_map-append (λ k. version_in (checkpoint_line_of k)) f.before (f.line ∷ f.after)) ∙ t.of_version in
    let none : fault_after f.before f.line ≡ None = fault_is f.before f.line (checkpoint_line_of f.line) refl
    ∙ no_fault_in (length f.before + 1) f.before f.line f.after (checkpoint_line_of f.line) version plain (subst HasNoDoubles said t.apart) found in
    let no : Some fault ≡ None = sym f.is ∙ none in
    cc

-- bytes that are refused are no checkpoint text of the wanted version
pub not_both : (wanted : ℕ) (bytes : List ℕ) (actions : List Action) (fault : BadCheckpoint) → IsCheckpointText bytes wanted actions → IsRefusedFor wanted bytes fault → ⊥
not_both wanted bytes actions (bad.Line n w) t f = not_first bytes wanted actions (bad.Line n w) t f
not_both wanted bytes actions (bad.Sidecar n) t f = not_first bytes wanted actions (bad.Sidecar n) t f
not_both wanted bytes actions bad.NoMetadata t f = let no : [] ≡ wanted ∷ [] = sym f.1 ∙ t.of_version in cc
not_both wanted bytes actions (bad.WrongVersion v) t f = let same : v ∷ [] ≡ wanted ∷ [] = sym f.1 ∙ t.of_version in let is : v ≡ wanted = cc in f.2 is
not_both wanted bytes actions bad.NoState t f =
    let some : has_state (actions_of bytes) ≡ true = sym (ap has_state t.all) ∙ rw (t.protocol, t.meta) refl in
    let no : false ≡ true = sym f.2 ∙ some in
    cc
not_both wanted bytes actions bad.Memory t f = f

read_once : (wanted : ℕ) (bytes : List ℕ) (actions : List Action) (r : Read) → Told wanted bytes r → IsCheckpointText bytes wanted actions → r ≡ Ok actions
read_once wanted bytes actions (Ok found) h t = ap Ok (h.all ∙ sym t.all)
read_once wanted bytes actions (Err f) h t = absurd (not_both wanted bytes actions f t h)

pub one_reading : (wanted : ℕ) (bytes : List ℕ) (actions : List Action) → IsCheckpointText bytes wanted actions → outcome wanted bytes ≡ Ok actions
one_reading wanted bytes actions t = read_once wanted bytes actions (outcome wanted bytes) (told_outcome wanted bytes) t
