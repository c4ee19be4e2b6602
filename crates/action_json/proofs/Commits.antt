-- What is read is a commit.
use Rattle.std.proofs.Common.{◌≡◌, ℕ, ◌+◌, List, [], ◌∷◌, ◌++◌, Bool, true, false, not, ◌&&◌, Option, Some, None, is_some, Result, Ok, Err, IfOk, refl, sym, ap, ◌∙◌, subst, append_assoc, append-nil}
use Rattle.std.specs.Prelude.{⊤}
use Rattle.std.proofs.lemmas.Bool.{and_from}
use Rattle.std.proofs.lemmas.Result.{IfOk-weaker}
use Rattle.text_lines.specs.Lines.{cut, is_blank}
use Rattle.action_types.specs.declared.actions.Action.{Action}
use Rattle.action_fields.specs.Valid.{has_valid_fields}
use Rattle.action_json.specs.Commit.{Flaw, double_of, is_nil, is_info, unless_double, after_line, outcome_from, outcome, begins_with_info, are_new, IsCommit}
use Rattle.action_json.specs.Lines.{line_of}
use Rattle.action_json.specs.declared.line.Line.{Line}
use Rattle.action_json.specs.declared.line.Line.TheVariants.{Blank, Unread, Says}
use Rattle.action_json.specs.declared.fault.Why.{Why}
use Rattle.action_json.proofs.Said.{blank_line, Speaks, speaks_line, SaysValid, valid_line}

-- all is done and new actions after it
record Extends (done all : List Action) : Type 0 where
  more : List Action
  is : all ≡ done ++ more
  new : are_new done more ≡ true
  begins : is_nil done ≡ true → begins_with_info more ≡ true

one_more : (done all : List Action) (a : Action) → has_valid_fields a ≡ true → double_of done a ≡ None → (is_nil done ≡ true → is_info a ≡ true) → Extends (done ++ a ∷ []) all → Extends done all
one_more done all a valid none info x = record {
  more = a ∷ x.more;
  is = x.is ∙ append_assoc done (a ∷ []) x.more;
  new = and_from (has_valid_fields a && not (is_some (double_of done a))) (are_new (done ++ a ∷ []) x.more) (and_from (has_valid_fields a) (not (is_some (double_of done a))) valid (ap (λ o. not (is_some o)) none)) x.new;
  begins = info;
}

-- the first line that says an action says an Info
abbrev SaysInfo : Result Line Why → Type 0
SaysInfo (Ok Blank) = ⊤
SaysInfo (Ok Unread) = ⊤
SaysInfo (Ok (Says a)) = is_info a ≡ true
SaysInfo (Err w) = ⊤

info_spoken : (r : Result Line Why) → Speaks r → SaysInfo r
info_spoken (Ok Blank) h = tt
info_spoken (Ok Unread) h = tt
info_spoken (Ok (Says a)) h = h
info_spoken (Err w) h = tt

info_at : (b : Bool) (l : List ℕ) → is_blank l ≡ b → SaysInfo (line_of true l)
info_at true l e = subst SaysInfo (sym (blank_line true l e)) tt
info_at false l e = info_spoken (line_of true l) (speaks_line l e)

info_first : (first : Bool) (l : List ℕ) → first ≡ true → SaysInfo (line_of first l)
info_first first l e = subst (λ (f : Bool). SaysInfo (line_of f l)) (sym e) (info_at (is_blank l) l refl)

extends_unless : (n : ℕ) (done : List Action) (a : Action) (o : Option (List ℕ)) (rest : Result (List Action) Flaw) → (o ≡ None → IfOk rest (Extends done)) → IfOk (unless_double n a o rest) (Extends done)
extends_unless n done a None rest k = k refl
extends_unless n done a (Some key) rest k = tt

extends_line : (n : ℕ) (done : List Action) (k : List Action → Result (List Action) Flaw) (r : Result Line Why)
    → SaysValid r → (is_nil done ≡ true → SaysInfo r) → ((now : List Action) → IfOk (k now) (Extends now)) → IfOk (after_line n done k r) (Extends done)
extends_line n done k (Ok Blank) valid info later = later done
extends_line n done k (Ok Unread) valid info later = later done
extends_line n done k (Ok (Says a)) valid info later =
    extends_unless n done a (double_of done a) (k (done ++ a ∷ []))
    (λ none. IfOk-weaker (k (done ++ a ∷ [])) (Extends (done ++ a ∷ [])) (Extends done) (λ all x. one_more done all a valid none info x) (later (done ++ a ∷ [])))
extends_line n done k (Err w) valid info later = tt

extends_from : (n : ℕ) (done : List Action) (ls : List (List ℕ)) → IfOk (outcome_from n done ls) (Extends done)
unfolding outcome_from
extends_from n done [] = record { more = []; is = sym (append-nil done); new = refl; begins = λ e. refl }
extends_from n done (l ∷ ls) =
    extends_line n done (λ more. outcome_from (n + 1) more ls) (line_of (is_nil done) l) (valid_line (is_nil done) l) (info_first (is_nil done) l) (λ now. extends_from (n + 1) now ls)

whole : (all : List Action) → Extends [] all → IsCommit all
whole all x = subst IsCommit (sym x.is) (record { begins = x.begins refl; new = x.new })

pub commit-outcome : (bytes : List ℕ) → IfOk (outcome bytes) IsCommit
unfolding outcome
commit-outcome bytes = IfOk-weaker (outcome_from 1 [] (cut bytes)) (Extends []) IsCommit whole (extends_from 1 [] (cut bytes))
