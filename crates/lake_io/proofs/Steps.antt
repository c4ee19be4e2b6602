-- One call of `next`, put together from its steps.
use Rattle.std.proofs.Common.{◌≡◌, ◌<◌, ◌≢◌, ◌+◌, take, ◌⊎◌, inl, inr, ℕ, Bool, true, false, List, [], ◌∷◌, ◌++◌, length, ap, sym, ◌∙◌, subst, append_assoc, append-nil, length-append, arith, Option, Some, None, Result, Ok, Err}
use Rattle.std.proofs.lemmas.List.Elements.{All-take}
use Rattle.std.proofs.Math.Seq.{take-append_seam}
use Rattle.text_lines.specs.Lines.{HasNoLf}
use Rattle.lake_io.specs.Told.{Takes}
use Rattle.lake_io.specs.Reading.{Answers, At, Ends, Handed, Hands, HandsLine, Next, input_limit}
use Rattle.lake_io.specs.Parts.{DoneLine, DoneNone, Fills, FillsNone, FillsSome, InLine, IsPart, Moves, MovesAll, MovesLine}
use Rattle.lake_io.specs.declared.reader.InputState.{InputState}
use Rattle.lake_io.specs.declared.reader.InputState.TheVariants as state
use Rattle.lake_io.specs.declared.reader.Line.{Line}
use Rattle.lake_io.specs.declared.reader.LineError.{LineError}
use Rattle.lake_io.specs.declared.reader.LineError.TheVariants as error
use Rattle.lake_io.specs.declared.reader.Part.{Part}
use Rattle.lake_io.proofs.Telling.{takes_both}

abbrev place : ℕ → ℕ → List ℕ → InputState → At
place number read pending st = record { number = number; read = read; pending = pending; state = st }

-- a line and its answer are what the answer says
answers_line : (tells : Bool) (left' : List ℕ) (at : At) (bytes text : List ℕ) (n : ℕ) (result : Result (Option Line) LineError) (at' : At) → Handed n text result → HandsLine tells left' at bytes result at' → Answers tells left' at bytes result at'
answers_line tells left' at bytes text n (Ok None) at' h a = absurd h
answers_line tells left' at bytes text n (Ok (Some line)) at' h a = a
answers_line tells left' at bytes text n (Err error.ReadFault) at' h a = absurd h
answers_line tells left' at bytes text n (Err (error.TooLong k)) at' h a = a
answers_line tells left' at bytes text n (Err error.TooMuch) at' h a = absurd h
answers_line tells left' at bytes text n (Err error.Memory) at' h a = absurd h

-- the rest of the line and its LF were pending
line_whole : (tells : Bool) (t l t' l' : List ℕ) (at at' at'' : At) (part part' : Part) (result : Result (Option Line) LineError) → at.state ≡ state.Open → (i : InLine tells t l at t' l' at' part) → MovesLine at' i.text at'' part' → ((text : List ℕ) → IsPart part' text → Handed at''.number text result) → Next tells t l t' l' at result at''
line_whole tells t l t' l' at at' at'' part part' result o i m handed =
    let text : List ℕ = i.text ++ m.front in
    let f : At → At = λ a. place (a.number + 1) a.read m.rest a.state in
    let is : at'' ≡ place (at.number + 1) (at.read + length i.bytes) m.rest state.Open = m.is ∙ ap f i.is in
    let split : at.pending ++ i.bytes ≡ text ++ 10 ∷ m.rest =
    i.split ∙ (ap (λ xs. i.text ++ xs) m.split ∙ sym (append_assoc i.text m.front (10 ∷ m.rest)))
    in
    let P : ℕ → Type 0 = λ n. Handed n text result in
    let given : Handed (at.number + 1) text result = subst P (ap (λ (a : At). a.number) is) (handed text m.part) in
    let hands : Hands tells l' at i.bytes text at'' = record {
      open_was = o;
      no_lf = m.part.no_lf;
      ends = inl (record { rest = m.rest; split = split; is = is });
    }
    in
    record {
      bytes = i.bytes;
      takes = i.takes;
      asked = i.asked;
      answers = answers_line tells l' at i.bytes text (at.number + 1) result at'' given (record { text = text; handed = given; hands = hands });
    }

pub exit_line : (tells : Bool) (t l t' l' : List ℕ) (at at' at'' : At) (part part' : Part) (found : Bool) (result : Result (Option Line) LineError) → at.state ≡ state.Open → InLine tells t l at t' l' at' part → found ≡ true → ((text : List ℕ) → IsPart part text → Moves at' text found at'' part') → ((text : List ℕ) → IsPart part' text → Handed at''.number text result) → Next tells t l t' l' at result at''
exit_line tells t l t' l' at at' at'' part part' found result o i e moves handed =
    let m : Moves at' i.text true at'' part' = rw e at (moves i.text i.part_is) in
    line_whole tells t l t' l' at at' at'' part part' result o i m handed

-- a text without LF has none in its front
no_lf_before : (front rest whole : List ℕ) → front ++ rest ≡ whole → HasNoLf whole → HasNoLf front
no_lf_before front rest whole e h =
    let P : List ℕ → Type 0 = λ xs. HasNoLf xs in
    let all : HasNoLf (take (length front) (front ++ rest)) = All-take (λ x. x ≢ 10) (length front) (front ++ rest) (subst P (sym e) h) in
    subst P (take-append_seam front rest) all

-- no LF was pending, and the source gave more
more_line : (tells : Bool) (t l t' l' t'' l'' : List ℕ) (at at' mid at'' : At) (part part' : Part) → (i : InLine tells t l at t' l' at' part) → MovesAll at' i.text mid part' → FillsSome tells t' l' mid t'' l'' at'' → InLine tells t l at t'' l'' at'' part'
more_line tells t l t' l' t'' l'' at at' mid at'' part part' i m f =
    let g : At → At = λ a. place a.number a.read [] a.state in
    let h : At → At = λ a. place a.number (a.read + length f.bytes) f.bytes a.state in
    let is : at'' ≡ place at.number (at.read + length i.bytes + length f.bytes) f.bytes state.Open = f.is ∙ ap h (m.is ∙ ap g i.is) in
    let pending : at''.pending ≡ f.bytes = ap (λ (a : At). a.pending) is in
    let count : at.read + length i.bytes + length f.bytes ≡ at.read + length (i.bytes ++ f.bytes) = omega (arith, length-append i.bytes f.bytes) in
    record {
      bytes = i.bytes ++ f.bytes;
      text = i.text ++ at'.pending;
      takes = takes_both tells t l i.bytes t' l' f.bytes t'' l'' i.takes f.takes;
      asked = inr (no_lf_before at.pending i.bytes (i.text ++ at'.pending) i.split m.part.no_lf);
      split = sym (append_assoc at.pending i.bytes f.bytes) ∙ (ap (λ xs. xs ++ f.bytes) i.split ∙ ap (λ xs. (i.text ++ at'.pending) ++ xs) (sym pending));
      is = is ∙ (ap (λ n. place at.number n f.bytes state.Open) count ∙ ap (λ xs. place at.number (at.read + length (i.bytes ++ f.bytes)) xs state.Open) (sym pending));
      part_is = m.part;
    }

pub step_more : (tells : Bool) (t l t' l' t'' l'' : List ℕ) (at at' mid at'' : At) (part part' : Part) (found more : Bool) → InLine tells t l at t' l' at' part → found ≡ false → ((text : List ℕ) → IsPart part text → Moves at' text found mid part') → more ≡ true → Fills tells t' l' mid (Ok more) t'' l'' at'' → InLine tells t l at t'' l'' at'' part'
step_more tells t l t' l' t'' l'' at at' mid at'' part part' found more i e moves d fills =
    let m : Moves at' i.text false mid part' = rw e at (moves i.text i.part_is) in
    let f : Fills tells t' l' mid (Ok true) t'' l'' at'' = rw d at fills in
    more_line tells t l t' l' t'' l'' at at' mid at'' part part' i m f

-- no LF was pending, and the source has ended
last_line : (tells : Bool) (t l t' l' t'' l'' : List ℕ) (at at' mid end at'' : At) (part part' : Part) (result : Result (Option Line) LineError) → at.state ≡ state.Open → (i : InLine tells t l at t' l' at' part) → (m : MovesAll at' i.text mid part') → FillsNone tells t' l' mid t'' l'' end → (DoneNone end (i.text ++ at'.pending) result at'' ⊎ DoneLine end (i.text ++ at'.pending) result at'') → Next tells t l t'' l'' at result at''
last_line tells t l t' l' t'' l'' at at' mid end at'' part part' result o i m f done =
    let text : List ℕ = i.text ++ at'.pending in
    let g : At → At = λ a. place a.number a.read [] a.state in
    let ended : end ≡ place at.number (at.read + length i.bytes) [] state.Open = f.is ∙ (m.is ∙ ap g i.is) in
    let both : Takes tells t l (i.bytes ++ []) t'' l'' = takes_both tells t l i.bytes t' l' [] t'' l'' i.takes f.takes in
    let takes : Takes tells t l i.bytes t'' l'' = rw (append-nil i.bytes) at both in
    let read : mid.read ≡ at.read + length i.bytes = ap (λ (a : At). a.read) (m.is ∙ ap g i.is) in
    let room : at.read + length i.bytes < input_limit = omega (arith, read, f.room) in
    elim done [
      | inl d ↦
          (let h : At → At = λ a. place a.number a.read [] state.Ended in
          let ends : Ends tells l'' at i.bytes at'' = record {
            was = inl o;
            none = i.split ∙ d.none;
            whole = λ _. f.whole;
            room = room;
            is = d.is ∙ ap h ended;
          }
          in
          record { bytes = i.bytes; takes = takes; asked = i.asked; answers = rw (d.result_is) ends })
      | inr d ↦
          (let h : At → At = λ a. place (a.number + 1) a.read [] state.Ended in
          let P : ℕ → Type 0 = λ n. Handed (n + 1) text result in
          let given : Handed (at.number + 1) text result = subst P (ap (λ (a : At). a.number) ended) d.handed in
          let hands : Hands tells l'' at i.bytes text at'' = record {
            open_was = o;
            no_lf = m.part.no_lf;
            ends = inr (record { some = d.some; all = i.split; whole = f.whole; room = room; is = d.is ∙ ap h ended });
          }
          in
          record {
            bytes = i.bytes;
            takes = takes;
            asked = i.asked;
            answers = answers_line tells l'' at i.bytes text (at.number + 1) result at'' given (record { text = text; handed = given; hands = hands });
          })
    ]

pub exit_end : (tells : Bool) (t l t' l' t'' l'' : List ℕ) (at at' mid end at'' : At) (part part' : Part) (found more : Bool) (result : Result (Option Line) LineError) → at.state ≡ state.Open → InLine tells t l at t' l' at' part → found ≡ false → ((text : List ℕ) → IsPart part text → Moves at' text found mid part') → more ≡ false → Fills tells t' l' mid (Ok more) t'' l'' end → ((text : List ℕ) → IsPart part' text → DoneNone end text result at'' ⊎ DoneLine end text result at'') → Next tells t l t'' l'' at result at''
exit_end tells t l t' l' t'' l'' at at' mid end at'' part part' found more result o i e moves d fills done =
    let m : Moves at' i.text false mid part' = rw e at (moves i.text i.part_is) in
    let f : Fills tells t' l' mid (Ok false) t'' l'' end = rw d at fills in
    last_line tells t l t' l' t'' l'' at at' mid end at'' part part' result o i m f (done (i.text ++ at'.pending) m.part)
