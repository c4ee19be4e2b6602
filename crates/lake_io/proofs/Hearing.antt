-- A loop over `Lines::next`: what each answer leaves of `Heard`, the caller's invariant.
use Rattle.std.proofs.Common.{◌≡◌, ◌<◌, ◌+◌, inl, inr, ℕ, Bool, List, [], ◌∷◌, ◌++◌, length, refl, ap, sym, ◌∙◌, subst, append_assoc, append-nil, length-append, arith, ◌≤◌, Option, Some, None, Result, Ok, Err}
use Rattle.text_lines.specs.Lines.{HasNoLf, cut, ended_lines}
use Rattle.text_lines.proofs.Cutting.{cut-line, cut-last, cut-nil, ended-line, ended-last}
use Rattle.lake_io.specs.Told.{Takes, told}
use Rattle.lake_io.proofs.Telling.{told-nil}
pub use Rattle.lake_io.specs.Reading.{HeardAll, HeardFirst}
use Rattle.lake_io.specs.Reading.{Answers, At, at_start, Ends, Hands, Heard, HeardAfter, HeardLine, InputEnds, input_limit, line_limit, LineEnds, Loses, Next, Stops}
use Rattle.lake_io.specs.declared.reader.Line.{Line}
use Rattle.lake_io.specs.declared.reader.LineError.{LineError}
use Rattle.lake_io.specs.declared.reader.LineError.TheVariants as error
use Rattle.lake_io.specs.declared.reader.InputState.{InputState}
use Rattle.lake_io.specs.declared.reader.InputState.TheVariants as state

-- before the first call
pub heard_start : (tells : Bool) (left : List ℕ) → Heard tells left [] [] at_start
heard_start tells left = record {
  cut_is = λ more h. refl;
  ended_is = λ o more. refl;
  number_is = refl;
  read_is = refl;
  whole = λ e. cc;
  going = inl refl;
}

-- the bytes of a call between those before and those after
among : (f : List ℕ → List (List ℕ)) (bytes new more : List ℕ) → f ((bytes ++ new) ++ more) ≡ f (bytes ++ (new ++ more))
among f bytes new more = ap f (append_assoc bytes new more)

one_more : (handed : List (List ℕ)) (text : List ℕ) (ls : List (List ℕ)) → handed ++ (text ∷ ls) ≡ (handed ++ text ∷ []) ++ ls
one_more handed text ls = sym (append_assoc handed (text ∷ []) ls)

-- one line more, where an LF ended it
line_more : (f : List ℕ → List (List ℕ)) (bytes new more pending text rest : List ℕ) (handed : List (List ℕ)) → ((l r : List ℕ) → HasNoLf l → f (l ++ 10 ∷ r) ≡ l ∷ f r) → f (bytes ++ (new ++ more)) ≡ handed ++ f (pending ++ (new ++ more)) → pending ++ new ≡ text ++ 10 ∷ rest → HasNoLf text → f ((bytes ++ new) ++ more) ≡ (handed ++ text ∷ []) ++ f (rest ++ more)
line_more f bytes new more pending text rest handed law before split no_lf =
    let whole : pending ++ (new ++ more) ≡ text ++ 10 ∷ (rest ++ more) =
    sym (append_assoc pending new more) ∙ (ap (λ xs. xs ++ more) split ∙ append_assoc text (10 ∷ rest) more)
    in
    among f bytes new more ∙ (before ∙ (ap (λ xs. handed ++ f xs) whole ∙ (ap (λ ls. handed ++ ls) (law text (rest ++ more) no_lf) ∙ one_more handed text (f (rest ++ more)))))

cut-some : (text : List ℕ) → 0 < length text → HasNoLf text → cut text ≡ text ∷ []
cut-some [] h n = absurd (omega arith)
cut-some (b ∷ l) h n = cut-last b l n

-- the last line, which the input ended
last_more : (bytes new pending text : List ℕ) (handed : List (List ℕ)) → cut (bytes ++ (new ++ [])) ≡ handed ++ cut (pending ++ (new ++ [])) → pending ++ new ≡ text → 0 < length text → HasNoLf text → cut ((bytes ++ new) ++ []) ≡ (handed ++ text ∷ []) ++ cut ([] ++ [])
last_more bytes new pending text handed before all some no_lf =
    let whole : pending ++ (new ++ []) ≡ text = ap (λ xs. pending ++ xs) (append-nil new) ∙ all in
    among cut bytes new [] ∙ (before ∙ (ap (λ xs. handed ++ cut xs) whole ∙ (ap (λ ls. handed ++ ls) (cut-some text some no_lf) ∙ (sym (append-nil (handed ++ text ∷ [])) ∙ ap (λ ls. (handed ++ text ∷ []) ++ ls) (sym cut-nil)))))

length_more : (handed : List (List ℕ)) (text : List ℕ) → length (handed ++ text ∷ []) ≡ length handed + 1
length_more handed text = length-append handed (text ∷ [])

heard_lf : (tells : Bool) (left left' bytes new text : List ℕ) (handed : List (List ℕ)) (at at' : At) → Heard tells left bytes handed at → HasNoLf text → at.state ≡ state.Open → LineEnds at new text at' → Heard tells left' (bytes ++ new) (handed ++ text ∷ []) at'
heard_lf tells left left' bytes new text handed at at' h no_lf o e =
    let made : Heard tells left' (bytes ++ new) (handed ++ text ∷ []) (record { number = at.number + 1; read = at.read + length new; pending = e.rest; state = state.Open }) = record {
      cut_is = λ more _. line_more cut bytes new more at.pending text e.rest handed cut-line (h.cut_is (new ++ more) (λ z. cc)) e.split no_lf;
      ended_is = λ _ more. line_more ended_lines bytes new more at.pending text e.rest handed ended-line (h.ended_is o (new ++ more)) e.split no_lf;
      number_is = ap (λ n. n + 1) h.number_is ∙ sym (length_more handed text);
      read_is = ap (λ n. n + length new) h.read_is ∙ sym (length-append bytes new);
      whole = λ z. cc;
      going = inl refl;
    }
    in
    let P : At → Type 0 = λ a. Heard tells left' (bytes ++ new) (handed ++ text ∷ []) a in subst P (sym e.is) made

heard_end : (tells : Bool) (left left' bytes new text : List ℕ) (handed : List (List ℕ)) (at at' : At) → Heard tells left bytes handed at → HasNoLf text → at.state ≡ state.Open → InputEnds tells left' at new text at' → Heard tells left' (bytes ++ new) (handed ++ text ∷ []) at'
heard_end tells left left' bytes new text handed at at' h no_lf o e =
    let made : Heard tells left' (bytes ++ new) (handed ++ text ∷ []) (record { number = at.number + 1; read = at.read + length new; pending = []; state = state.Ended }) = record {
      cut_is = λ more none. rw (none refl) (last_more bytes new at.pending text handed (h.cut_is (new ++ []) (λ z. cc)) e.all e.some no_lf);
      ended_is = λ z. cc;
      number_is = ap (λ n. n + 1) h.number_is ∙ sym (length_more handed text);
      read_is = ap (λ n. n + length new) h.read_is ∙ sym (length-append bytes new);
      whole = λ _. e.whole;
      going = inr refl;
    }
    in
    let P : At → Type 0 = λ a. Heard tells left' (bytes ++ new) (handed ++ text ∷ []) a in subst P (sym e.is) made

-- one line more was handed, or passed over as too long
pub heard_line : (tells : Bool) (left left' bytes new text : List ℕ) (handed : List (List ℕ)) (at at' : At) → Heard tells left bytes handed at → Hands tells left' at new text at' → Heard tells left' (bytes ++ new) (handed ++ text ∷ []) at'
heard_line tells left left' bytes new text handed at at' h n =
    elim n.ends [
      | inl e ↦ heard_lf tells left left' bytes new text handed at at' h n.no_lf n.open_was e
      | inr e ↦ heard_end tells left left' bytes new text handed at at' h n.no_lf n.open_was e
    ]

no_new : (pending new : List ℕ) → pending ++ new ≡ [] → new ≡ []
no_new [] new e = e
no_new (b ∷ p) new e = cc

pub heard_none : (tells : Bool) (taken taken' left left' bytes new : List ℕ) (handed : List (List ℕ)) (at at' : At) → Heard tells left bytes handed at → Takes tells taken left new taken' left' → Ends tells left' at new at' → HeardAll tells left' (bytes ++ new) handed
heard_none tells taken taken' left left' bytes new handed at at' h t e =
    let z : new ≡ [] = no_new at.pending new e.none in
    let p : at.pending ++ [] ≡ [] = rw z at e.none in
    let same : left' ≡ left = sym (t.left_is ∙ ap (λ xs. xs ++ left') (ap (told tells) z ∙ told-nil tells)) in
    record {
      lines = ap (λ xs. cut (bytes ++ xs)) z ∙ (h.cut_is [] (λ _. refl) ∙ (ap (λ xs. handed ++ cut xs) p ∙ (ap (λ ls. handed ++ ls) cut-nil ∙ append-nil handed)));
      whole = λ w. elim e.was [ inl o ↦ e.whole o w | inr o ↦ same ∙ h.whole o w ];
    }

-- where reading stopped, the lines that an LF ends were handed
pub heard_stopped : (tells : Bool) (left bytes new : List ℕ) (handed : List (List ℕ)) (at at' : At) (state' : InputState) → (state' ≡ state.Open → ⊥) → (state' ≡ state.Ended → ⊥) → Heard tells left bytes handed at → Stops at new state' at' → ended_lines (bytes ++ new) ≡ handed
heard_stopped tells left bytes new handed at at' state' not_open not_ended h s =
    elim h.going [
      | inl o ↦ h.ended_is o new ∙ (ap (λ ls. handed ++ ls) (ended-last (at.pending ++ new) s.no_lf) ∙ append-nil handed)
      | inr o ↦ elim s.was [ inl q ↦ cc | inr q ↦ absurd (not_ended (sym q ∙ o)) ]
    ]

-- whatever comes of what was taken last, the handed lines are the first
pub heard_lost : (tells : Bool) (left bytes new : List ℕ) (handed : List (List ℕ)) (at at' : At) → Heard tells left bytes handed at → Loses at new at' → HeardFirst (bytes ++ new) handed
heard_lost tells left bytes new handed at at' h l =
    record { others = cut (at.pending ++ new); is = h.cut_is new (λ z. elim l.was [ inl q ↦ cc | inr q ↦ cc ]) }

pub heard_first : (tells : Bool) (left bytes : List ℕ) (handed : List (List ℕ)) (at : At) → Heard tells left bytes handed at → HeardFirst bytes handed
heard_first tells left bytes handed at h =
    record { others = cut (at.pending ++ []); is = ap cut (sym (append-nil bytes)) ∙ h.cut_is [] (λ _. refl) }

heard_text : (tells : Bool) (left left' bytes new : List ℕ) (handed : List (List ℕ)) (number : ℕ) (text : List ℕ) (at at' : At) → Heard tells left bytes handed at → number ≡ at.number + 1 → Hands tells left' at new text at' → HeardLine tells left' (bytes ++ new) handed number text at'
heard_text tells left left' bytes new handed number text at at' h e n = record {
  number_is = e ∙ ap (λ k. k + 1) h.number_is;
  heard = heard_line tells left left' bytes new text handed at at' h n;
}

-- after any answer
heard_answer : (tells : Bool) (taken taken' left left' bytes new : List ℕ) (handed : List (List ℕ)) (at : At) (result : Result (Option Line) LineError) (at' : At) → Heard tells left bytes handed at → Takes tells taken left new taken' left' → Answers tells left' at new result at' → HeardAfter tells left' (bytes ++ new) handed result at'
heard_answer tells taken taken' left left' bytes new handed at (Ok None) at' h t a =
    heard_none tells taken taken' left left' bytes new handed at at' h t a
heard_answer tells taken taken' left left' bytes new handed at (Ok (Some line)) at' h t a =
    let items : line.text.items ≡ a.text = a.handed.1 in
    let P : List ℕ → Type 0 = λ xs. HeardLine tells left' (bytes ++ new) handed line.number xs at' × (length xs ≤ line_limit) in
    subst P (sym items) (heard_text tells left left' bytes new handed line.number a.text at at' h a.handed.0 a.hands, a.handed.2)
heard_answer tells taken taken' left left' bytes new handed at (Err error.ReadFault) at' h t a =
    heard_stopped tells left bytes new handed at at' state.Failed (λ e. cc) (λ e. cc) h a.0
heard_answer tells taken taken' left left' bytes new handed at (Err (error.TooLong n)) at' h t a = record {
  text = a.text;
  long = a.handed.1;
  line = heard_text tells left left' bytes new handed n a.text at at' h a.handed.0 a.hands;
}
heard_answer tells taken taken' left left' bytes new handed at (Err error.TooMuch) at' h t a =
    let count : length (bytes ++ new) ≡ input_limit = omega (arith, length-append bytes new, h.read_is, a.1) in
    (heard_stopped tells left bytes new handed at at' state.Full (λ e. cc) (λ e. cc) h a.0, count)
heard_answer tells taken taken' left left' bytes new handed at (Err error.Memory) at' h t a =
    heard_lost tells left bytes new handed at at' h a

pub heard_next : (tells : Bool) (taken taken' left left' bytes : List ℕ) (handed : List (List ℕ)) (at : At) (result : Result (Option Line) LineError) (at' : At) → Heard tells left bytes handed at → (n : Next tells taken left taken' left' at result at') → HeardAfter tells left' (bytes ++ n.bytes) handed result at'
heard_next tells taken taken' left left' bytes handed at result at' h n =
    heard_answer tells taken taken' left left' bytes n.bytes handed at result at' h n.takes n.answers
