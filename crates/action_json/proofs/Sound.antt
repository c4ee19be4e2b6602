-- The reading line by line is the relation over the lines and what stands before them.
use Rattle.std.proofs.Common.{◌≡◌, ℕ, ◌+◌, List, [], ◌∷◌, ◌++◌, length, Bool, true, false, Option, Some, None, option_map, Result, Ok, Err, MatchResult, refl, sym, ap, ◌∙◌, subst, append_assoc, append-nil, length-append}
use Rattle.std.proofs.lemmas.Grind.{flat_map-append}
use Rattle.std.proofs.lemmas.List.Folds.{list_all-append}
use Rattle.std.specs.List.{list_all}
use Rattle.text_lines.specs.Lines.{cut, is_blank}
use Rattle.action_types.specs.declared.actions.Action.{Action}
use Rattle.action_fields.specs.Canonical.{kind_of}
use Rattle.action_json.specs.Commit.{Flaw, double_of, is_nil, unless_double, after_line, outcome_from, outcome}
use Rattle.action_json.specs.Lines.{line_of}
use Rattle.action_json.specs.Text.{said, actions_in, flaw_in, flaw_after, Faultless, IsCommitText, IsFirstFlaw}
use Rattle.action_json.specs.declared.line.Line.{Line}
use Rattle.action_json.specs.declared.line.Line.TheVariants.{Blank, Unread, Says}
use Rattle.action_json.specs.declared.fault.Why.{Why}
use Rattle.action_json.specs.declared.fault.Why.TheVariants as why
use Rattle.action_json.proofs.Said.{Same, same_line, blank_line, Speaks, speaks_line}

actions_push : (before : List (List ℕ)) (l : List ℕ) → actions_in (before ++ l ∷ []) ≡ actions_in before ++ said (line_of false l)
actions_push before l = flat_map-append (λ k. said (line_of false k)) before (l ∷ []) ∙ ap (λ r. actions_in before ++ r) (append-nil (said (line_of false l)))

length_push : (before : List (List ℕ)) (l : List ℕ) → length (before ++ l ∷ []) ≡ length before + 1
length_push before l = length-append before (l ∷ [])

-- one more line without a flaw
faultless_push : (b xs : List (List ℕ)) (l : List ℕ) → Faultless b xs → flaw_after (b ++ xs) l ≡ None → Faultless b (xs ++ l ∷ [])
unfolding Faultless
faultless_push b [] l h e = (ap (λ c. flaw_after c l) (sym (append-nil b)) ∙ e, tt)
faultless_push b (x ∷ xs) l h e = (h.0, faultless_push (b ++ x ∷ []) xs l h.1 (ap (λ c. flaw_after c l) (append_assoc b (x ∷ []) xs) ∙ e))

-- a line of lines without a flaw
faultless_at : (b xs : List (List ℕ)) (l : List ℕ) (ys : List (List ℕ)) → Faultless b (xs ++ l ∷ ys) → flaw_after (b ++ xs) l ≡ None
unfolding Faultless
faultless_at b [] l ys h = ap (λ c. flaw_after c l) (append-nil b) ∙ h.0
faultless_at b (x ∷ xs) l ys h = ap (λ c. flaw_after c l) (sym (append_assoc b (x ∷ []) xs)) ∙ faultless_at (b ++ x ∷ []) xs l ys h.1

-- ---- no action stands before a line exactly where the lines before it are blank

says_one : (done : List Action) (rest : List Action) (r s : Result Line Why) → Speaks r → Same r s → flaw_in done r ≡ None → is_nil (said s ++ rest) ≡ false
says_one done rest (Ok Blank) s h same e = absurd h
says_one done rest (Ok Unread) s h same e = absurd h
says_one done rest (Ok (Says a)) s h same e = rw same refl
says_one done rest (Err w) s h same e = absurd (cc)

first_agrees_at : (b : Bool) (before : List (List ℕ)) (l : List ℕ) (ls : List (List ℕ)) → list_all is_blank before ≡ true → is_blank l ≡ b → Faultless before (l ∷ ls)
    → (list_all is_blank (before ++ l ∷ []) ≡ true → Faultless (before ++ l ∷ []) ls → is_nil (actions_in ls) ≡ list_all is_blank ls)
    → is_nil (actions_in (l ∷ ls)) ≡ list_all is_blank (l ∷ ls)
unfolding Faultless flaw_after
first_agrees_at true before l ls blank e h later =
    let more : list_all is_blank (before ++ l ∷ []) ≡ true = list_all-append is_blank before (l ∷ []) ∙ rw (blank, e) refl in
    rw (blank_line false l e, e) (later more h.1)
first_agrees_at false before l ls blank e h later =
    let clean : flaw_in (actions_in before) (line_of true l) ≡ None = ap (λ f. flaw_in (actions_in before) (line_of f l)) (sym blank) ∙ h.0 in
    says_one (actions_in before) (actions_in ls) (line_of true l) (line_of false l) (speaks_line l e) (same_line true l) clean ∙ rw e refl

first_agrees : (before ls : List (List ℕ)) → list_all is_blank before ≡ true → Faultless before ls → is_nil (actions_in ls) ≡ list_all is_blank ls
first_agrees before [] blank h = refl
first_agrees before (l ∷ ls) blank h = first_agrees_at (is_blank l) before l ls blank refl h (first_agrees (before ++ l ∷ []) ls)

-- ---- the law

abbrev Told : List ℕ → Result (List Action) Flaw → Type 0
Told bytes r = MatchResult r (IsCommitText bytes) (λ f. IsFirstFlaw bytes f.0 f.1)

moved : (bytes : List ℕ) (ls : List (List ℕ)) (m n : ℕ) (d e : List Action) → m ≡ n → d ≡ e → Told bytes (outcome_from m d ls) → Told bytes (outcome_from n e ls)
moved bytes ls m n d e same_number same_actions h = subst (λ (k : ℕ). Told bytes (outcome_from k e ls)) same_number (subst (λ (k : List Action). Told bytes (outcome_from m k ls)) same_actions h)

here : (bytes : List ℕ) (before : List (List ℕ)) (l : List ℕ) (ls : List (List ℕ)) (w : Why) → cut bytes ≡ before ++ l ∷ ls → Faultless [] before → flaw_after before l ≡ Some w → IsFirstFlaw bytes (length before + 1) w
here bytes before l ls w e h f = record { before = before; line = l; after = ls; lines = e; number = refl; faultless = h; flaw = f }

-- the rest of the lines after this one
abbrev Later : List ℕ → List (List ℕ) → List ℕ → List (List ℕ) → Type 0
Later bytes before l ls = Faultless [] (before ++ l ∷ []) → Told bytes (outcome_from (length (before ++ l ∷ []) + 1) (actions_in (before ++ l ∷ [])) ls)

nothing_said : (bytes : List ℕ) (before : List (List ℕ)) (l : List ℕ) (ls : List (List ℕ)) → said (line_of false l) ≡ [] → Faultless [] before → flaw_after before l ≡ None → Later bytes before l ls
    → Told bytes (outcome_from (length before + 1 + 1) (actions_in before) ls)
nothing_said bytes before l ls none h clean later =
    moved bytes ls (length (before ++ l ∷ []) + 1) (length before + 1 + 1) (actions_in (before ++ l ∷ [])) (actions_in before) (ap (λ n. n + 1) (length_push before l))
    (actions_push before l ∙ ap (λ r. actions_in before ++ r) none ∙ append-nil (actions_in before)) (later (faultless_push [] before l h clean))

action_said : (bytes : List ℕ) (before : List (List ℕ)) (l : List ℕ) (ls : List (List ℕ)) (a : Action) → said (line_of false l) ≡ a ∷ [] → Faultless [] before → flaw_after before l ≡ None → Later bytes before l ls
    → Told bytes (outcome_from (length before + 1 + 1) (actions_in before ++ a ∷ []) ls)
action_said bytes before l ls a one h clean later =
    moved bytes ls (length (before ++ l ∷ []) + 1) (length before + 1 + 1) (actions_in (before ++ l ∷ [])) (actions_in before ++ a ∷ []) (ap (λ n. n + 1) (length_push before l))
    (actions_push before l ∙ ap (λ r. actions_in before ++ r) one) (later (faultless_push [] before l h clean))

told_double : (bytes : List ℕ) (before : List (List ℕ)) (l : List ℕ) (ls : List (List ℕ)) (a : Action) (o : Option (List ℕ)) (rest : Result (List Action) Flaw)
    → cut bytes ≡ before ++ l ∷ ls → Faultless [] before → flaw_after before l ≡ option_map (λ key. why.Double (kind_of a) key) o → (o ≡ None → Told bytes rest) → Told bytes (unless_double (length before + 1) a o rest)
told_double bytes before l ls a None rest e h f k = k refl
told_double bytes before l ls a (Some key) rest e h f k = here bytes before l ls (why.Double (kind_of a) key) e h f

told_line : (bytes : List ℕ) (before : List (List ℕ)) (l : List ℕ) (ls : List (List ℕ)) (r : Result Line Why)
    → cut bytes ≡ before ++ l ∷ ls → Faultless [] before → flaw_after before l ≡ flaw_in (actions_in before) r → Same r (line_of false l) → Later bytes before l ls
    → Told bytes (after_line (length before + 1) (actions_in before) (λ more. outcome_from (length before + 1 + 1) more ls) r)
told_line bytes before l ls (Ok Blank) e h f same later = nothing_said bytes before l ls (ap said same) h f later
told_line bytes before l ls (Ok Unread) e h f same later = nothing_said bytes before l ls (ap said same) h f later
told_line bytes before l ls (Ok (Says a)) e h f same later =
    told_double bytes before l ls a (double_of (actions_in before) a) (outcome_from (length before + 1 + 1) (actions_in before ++ a ∷ []) ls) e h f
    (λ none. action_said bytes before l ls a (ap said same) h (f ∙ ap (option_map (λ key. why.Double (kind_of a) key)) none) later)
told_line bytes before l ls (Err w) e h f same later = here bytes before l ls w e h f

flaw_at : (before : List (List ℕ)) (l : List ℕ) → Faultless [] before → flaw_after before l ≡ flaw_in (actions_in before) (line_of (is_nil (actions_in before)) l)
unfolding flaw_after
flaw_at before l h = ap (λ f. flaw_in (actions_in before) (line_of f l)) (sym (first_agrees [] before refl h))

told_from : (bytes : List ℕ) (before ls : List (List ℕ)) → cut bytes ≡ before ++ ls → Faultless [] before → Told bytes (outcome_from (length before + 1) (actions_in before) ls)
unfolding outcome_from
told_from bytes before [] e h =
    let whole : before ≡ cut bytes = sym (e ∙ append-nil before) in
    record { faultless = subst (λ (ls : List (List ℕ)). Faultless [] ls) whole h; all = ap actions_in whole }
told_from bytes before (l ∷ ls) e h =
    told_line bytes before l ls (line_of (is_nil (actions_in before)) l) e h (flaw_at before l h) (same_line (is_nil (actions_in before)) l)
    (told_from bytes (before ++ l ∷ []) ls (e ∙ sym (append_assoc before (l ∷ []) ls)))

nothing_before : Faultless [] []
unfolding Faultless
nothing_before = tt

pub told_outcome : (bytes : List ℕ) → MatchResult (outcome bytes) (IsCommitText bytes) (λ f. IsFirstFlaw bytes f.0 f.1)
unfolding outcome
told_outcome bytes = told_from bytes [] (cut bytes) refl nothing_before

-- ---- bytes with a flaw are no commit text, and a commit text has one reading

pub not_both : (bytes : List ℕ) (actions : List Action) (n : ℕ) (w : Why) → IsCommitText bytes actions → IsFirstFlaw bytes n w → ⊥
not_both bytes actions n w t f =
    let clean : flaw_after f.before f.line ≡ None = faultless_at [] f.before f.line f.after (subst (λ (ls : List (List ℕ)). Faultless [] ls) f.lines t.faultless) in
    let none : Some w ≡ None = sym f.flaw ∙ clean in
    cc

read_once : (bytes : List ℕ) (actions : List Action) (r : Result (List Action) Flaw) → Told bytes r → IsCommitText bytes actions → r ≡ Ok actions
read_once bytes actions (Ok found) h t = ap Ok (h.all ∙ sym t.all)
read_once bytes actions (Err f) h t = absurd (not_both bytes actions f.0 f.1 t h)

pub one_reading : (bytes : List ℕ) (actions : List Action) → IsCommitText bytes actions → outcome bytes ≡ Ok actions
one_reading bytes actions t = read_once bytes actions (outcome bytes) (told_outcome bytes) t
