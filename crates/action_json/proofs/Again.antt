-- The canonical text of a commit is read as its actions.
use Rattle.std.proofs.Common.{◌≡◌, ℕ, ◌+◌, List, [], ◌∷◌, ◌++◌, Bool, true, false, not, ◌&&◌, map, Option, Some, None, is_some, Ok, refl, sym, ap, ◌∙◌, append_assoc, append-nil}
use Rattle.std.proofs.lemmas.Bool.{and_parts}
use Rattle.text_lines.specs.Lines.{cut, is_blank}
use Rattle.text_lines.proofs.Cutting.{cut-line_end, cut-nil}
use Rattle.serde_json.specs.Data.{Data}
use Rattle.action_types.specs.declared.actions.Action.{Action}
use Rattle.action_types.specs.declared.actions.Action.TheVariants as action
use Rattle.action_fields.specs.Canonical.{kind_of, body_data, canonical_line}
use Rattle.action_fields.specs.Kinds.{kind_name, kind_named}
use Rattle.action_fields.specs.Valid.{has_valid_fields}
use Rattle.action_fields.proofs.Bodies.{body_of-body_data}
use Rattle.action_fields.proofs.Lines.{read-canonical_line, one_line-canonical_line}
use Rattle.action_json.specs.Commit.{double_of, is_nil, is_info, outcome_from, outcome, canonical_text, begins_with_info, are_new, IsCommit, IsWritten, AreWritten}
use Rattle.action_json.specs.Lines.{said_of, body_line, member_line, text_line, line_of}
use Rattle.action_json.specs.declared.line.Line.TheVariants.{Says}

member_line-kind : (first : Bool) (a : Action) (body : Data) → (first ≡ true → is_info a ≡ true) → member_line first (kind_name (kind_of a)) body ≡ body_line (Some (kind_of a)) body
unfolding member_line kind_named
member_line-kind true (action.Info a) body h = refl
member_line-kind true (action.Protocol a) body h = let no = h refl in absurd (cc)
member_line-kind true (action.Meta a) body h = let no = h refl in absurd (cc)
member_line-kind true (action.Txn a) body h = let no = h refl in absurd (cc)
member_line-kind true (action.Domain a) body h = let no = h refl in absurd (cc)
member_line-kind true (action.Remove a) body h = let no = h refl in absurd (cc)
member_line-kind true (action.Add a) body h = let no = h refl in absurd (cc)
member_line-kind false (action.Info a) body h = refl
member_line-kind false (action.Protocol a) body h = refl
member_line-kind false (action.Meta a) body h = refl
member_line-kind false (action.Txn a) body h = refl
member_line-kind false (action.Domain a) body h = refl
member_line-kind false (action.Remove a) body h = refl
member_line-kind false (action.Add a) body h = refl

not_blank : (a : Action) → is_blank (canonical_line a) ≡ false
unfolding canonical_line
not_blank a = refl

text_line-canonical : (first : Bool) (a : Action) → has_valid_fields a ≡ true → IsWritten a → (first ≡ true → is_info a ≡ true) → text_line first (canonical_line a) ≡ Ok (Says a)
unfolding text_line
text_line-canonical first a valid w h =
    rw (read-canonical_line a valid w.fits) (member_line-kind first a (body_data true a) h ∙ ap (said_of (kind_of a)) (body_of-body_data a valid w.fits))

line_of-canonical : (first : Bool) (a : Action) → has_valid_fields a ≡ true → IsWritten a → (first ≡ true → is_info a ≡ true) → line_of first (canonical_line a) ≡ Ok (Says a)
unfolding line_of
line_of-canonical first a valid w h = rw (not_blank a, w.utf8) (text_line-canonical first a valid w h)

no_double : (o : Option (List ℕ)) → not (is_some o) ≡ true → o ≡ None
no_double None h = refl
no_double (Some key) h = absurd (cc)

not_nil : (done : List Action) (a : Action) (P : Type 0) → is_nil (done ++ a ∷ []) ≡ true → P
not_nil [] a P h = absurd (cc)
not_nil (b ∷ done) a P h = absurd (cc)

outcome_from-canonical : (n : ℕ) (done more : List Action) → are_new done more ≡ true → AreWritten more → (is_nil done ≡ true → begins_with_info more ≡ true) → outcome_from n done (map canonical_line more) ≡ Ok (done ++ more)
unfolding outcome_from
outcome_from-canonical n done [] new w begins = ap Ok (sym (append-nil done))
outcome_from-canonical n done (a ∷ more) new w begins =
    let parts = and_parts (has_valid_fields a && not (is_some (double_of done a))) (are_new (done ++ a ∷ []) more) new in
    let here = and_parts (has_valid_fields a) (not (is_some (double_of done a))) parts.0 in
    let said : line_of (is_nil done) (canonical_line a) ≡ Ok (Says a) = line_of-canonical (is_nil done) a here.0 w.0 begins in
    let none : double_of done a ≡ None = no_double (double_of done a) here.1 in
    rw (said, none) (outcome_from-canonical (n + 1) (done ++ a ∷ []) more parts.1 w.1 (not_nil done a (begins_with_info more ≡ true)) ∙ ap Ok (append_assoc done (a ∷ []) more))

cut-canonical_text : (done more : List Action) → are_new done more ≡ true → AreWritten more → cut (canonical_text more) ≡ map canonical_line more
unfolding canonical_text
cut-canonical_text done [] new w = cut-nil
cut-canonical_text done (a ∷ more) new w =
    let parts = and_parts (has_valid_fields a && not (is_some (double_of done a))) (are_new (done ++ a ∷ []) more) new in
    let valid = (and_parts (has_valid_fields a) (not (is_some (double_of done a))) parts.0).0 in
    cut-line_end (canonical_line a) (canonical_text more) (one_line-canonical_line a valid w.0.fits) ∙ ap (λ ls. canonical_line a ∷ ls) (cut-canonical_text (done ++ a ∷ []) more parts.1 w.1)

pub outcome-canonical_text : (actions : List Action) → IsCommit actions → AreWritten actions → outcome (canonical_text actions) ≡ Ok actions
unfolding outcome
outcome-canonical_text actions c w =
    ap (outcome_from 1 []) (cut-canonical_text [] actions c.new w) ∙ outcome_from-canonical 1 [] actions c.new w (λ e. c.begins)
