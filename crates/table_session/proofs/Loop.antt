-- The turns of the loop, from the clauses of the calls in it.
use Rattle.std.proofs.Common.{◌≡◌, ◌+◌, ◌≤◌, ℕ, ℤ, Bool, true, false, IsTrue, List, ◌++◌, length, refl, sym, ◌∙◌, ap, arith, Result, Ok, Err}
use Rattle.text_lines.specs.Lines.{Numbered, numbered}
use Rattle.lake_io.specs.Causes.{Rose}
use Rattle.lake_io.specs.Told.{told}
use Rattle.lake_io.specs.Reading.{At, Heard}
use Rattle.lake_io.specs.declared.answers.End.{End}
use Rattle.lake_io.specs.declared.answers.End.TheVariants as end
use Rattle.session_lines.specs.declared.reply.Reply.{Reply}
use Rattle.session_lines.specs.Replies.{reply_text_of}
use Rattle.table_model.specs.Knowledge.{Knowledge, IsGrown}
use Rattle.table_model.proofs.Growing.{grows_trans}
use Rattle.table_session.specs.Moments.{moment}
use Rattle.writer_txn.specs.Named.{NamesApart}
use Rattle.table_session.specs.Naming.{named_by}
use Rattle.table_session.specs.Asking.{gets_reply}
use Rattle.table_session.specs.Running.{IsRight}
use Rattle.table_session.specs.Hearing.{IsAskedIn, HearsEnd, Hears}
use Rattle.table_session.specs.declared.speaking.Unsaid.{Unsaid}
use Rattle.table_session.specs.declared.speaking.Unsaid.TheVariants as unsaid
use Rattle.table_session.specs.Speaking.{SaidShort, end_of}
use Rattle.table_session.specs.Sessions.{IsCaused, SessionOf}
use Rattle.table_session.specs.Views.{source_view, sink_view, clock_view, ids_view}
use Rattle.table_session.specs.declared.hearing.Asked.{Asked}
use Rattle.table_session.proofs.Chains.{run_grows}
use Rattle.table_session.proofs.Turns.{Before, Talking, talking_passed, talking_said}
use Rattle.table_session.proofs.Ends.{ends_heard, ends_short}

-- the clause of one call that hears the next line
abbrev pub HearsAny : Bool → List ℕ → List ℕ → At → Result Asked End → List ℕ → List ℕ → At → Type 0
HearsAny tells taken left at result taken' left' at' =
    (bytes : List ℕ) (handed : List (List ℕ)) → Heard tells left bytes handed at → Hears tells taken left bytes handed result taken' left' at'

pub known_grows : (tells fixed in_tells out_tells : Bool) (b : Before) (k : Knowledge) (reading : ℤ) (differ : Bool) (given taken left written : List ℕ) (at : At)
    → Talking tells fixed in_tells out_tells b k reading differ given taken left written at → IsGrown b.known k
known_grows tells fixed in_tells out_tells b k reading differ given taken left written at t = run_grows tells b.known k t.moments t.run

module _ (tells fixed in_tells out_tells : Bool) (b : Before) (k : Knowledge) (reading : ℤ) (differ : Bool) (given taken left written : List ℕ) (at : At)
    (t : Talking tells fixed in_tells out_tells b k reading differ given taken left written at) (taken' left' : List ℕ) (at' : At) where
  pub turn_ended : (ended : End) → HearsAny in_tells taken left at (Err ended) taken' left' at'
      → SessionOf tells b.known k (source_view in_tells b.taken b.left taken' left') (sink_view out_tells b.written written) (clock_view fixed b.reading)
      (ids_view b.differ b.given differ given) ended
  turn_ended ended hears = ends_heard tells fixed in_tells out_tells b k reading differ given taken left taken' left' written at ended t (hears t.bytes t.handed t.heard)

  pub turn_passed : (a : Asked) (gets : Bool) → HearsAny in_tells taken left at (Ok a) taken' left' at' → ((line : Numbered) → IsAskedIn line a → gets ≡ gets_reply line) → gets ≡ false
      → Talking tells fixed in_tells out_tells b k reading differ given taken' left' written at'
  turn_passed a gets hears is none =
      let h = hears t.bytes t.handed t.heard in
      talking_passed tells fixed in_tells out_tells b k reading differ given taken left taken' left' written at at' a t h (sym (is (numbered (length t.handed + 1) h.text) h.line) ∙ none)

  module _ (a : Asked) (gets : Bool) (hears : HearsAny in_tells taken left at (Ok a) taken' left' at') (is : (line : Numbered) → IsAskedIn line a → gets ≡ gets_reply line) (some : gets ≡ true)
      (reply : Reply) (after : Knowledge) (reading' : ℤ) (last : ℕ) (right : (line : Numbered) → IsAskedIn line a → IsRight tells k (moment line reply after reading' last))
      (steady : IsTrue fixed → reading' ≡ reading)
      (differ' : Bool) (given' : List ℕ) (names : IsTrue differ' → NamesApart differ given given' (named_by reply).takens k after) where
    pub turn_said : (written' : List ℕ) → written' ≡ written ++ told out_tells (reply_text_of reply) → Talking tells fixed in_tells out_tells b after reading' differ' given' taken' left' written' at'
    turn_said written' put =
        let h = hears t.bytes t.handed t.heard in
        let line = numbered (length t.handed + 1) h.text in
        talking_said tells fixed in_tells out_tells b k reading differ given taken left taken' left' written at at' a t h (sym (is line h.line) ∙ some)
        (moment line reply after reading' last) refl (right line h.line) steady differ' given' names (reply_text_of reply) written' refl put

    pub turn_short : (written' : List ℕ) (why : Unsaid) → SaidShort out_tells written (reply_text_of reply) why written'
        → SessionOf tells b.known after (source_view in_tells b.taken b.left taken' left') (sink_view out_tells b.written written') (clock_view fixed b.reading)
        (ids_view b.differ b.given differ' given') (end_of why)
    turn_short written' why put =
        let h = hears t.bytes t.handed t.heard in
        let line = numbered (length t.handed + 1) h.text in
        ends_short tells fixed in_tells out_tells b k reading differ given taken left taken' left' written at at' a t h (sym (is line h.line) ∙ some)
        (moment line reply after reading' last) refl (right line h.line) steady differ' given' names (reply_text_of reply) written' why refl put

    pub grows_now : IsGrown k after
    grows_now = let h = hears t.bytes t.handed t.heard in (right (numbered (length t.handed + 1) h.text) h.line).grows

    pub grows_after : IsGrown b.known after
    grows_after = grows_trans b.known k after (known_grows tells fixed in_tells out_tells b k reading differ given taken left written at t) grows_now

-- a fault of the sink does not come of hearing
not_of_sink : (tells : Bool) (taken left bytes taken' left' : List ℕ) (handed : List (List ℕ)) (ended : End) → HearsEnd tells taken left bytes handed ended taken' left' → ended ≡ end.WriteFault → ⊥
not_of_sink tells taken left bytes taken' left' handed end.Done h e = cc
not_of_sink tells taken left bytes taken' left' handed end.ReadFault h e = cc
not_of_sink tells taken left bytes taken' left' handed end.TooMuch h e = cc
not_of_sink tells taken left bytes taken' left' handed end.WriteFault h e = h.heard
not_of_sink tells taken left bytes taken' left' handed end.Memory h e = cc

pub no_fault_of_sink : (tells : Bool) (taken left bytes taken' left' : List ℕ) (handed : List (List ℕ)) (ended : End) (at at' : At) (before now : ℕ)
    → Heard tells left bytes handed at → HearsAny tells taken left at (Err ended) taken' left' at' → before ≤ now → IsCaused (ended ≡ end.WriteFault) before now
no_fault_of_sink tells taken left bytes taken' left' handed ended at at' before now heard hears later =
    record { later = later; rose = λ e. absurd (not_of_sink tells taken left bytes taken' left' handed ended (hears bytes handed heard) e) }

-- a session ends by a fault of the sink only where the reply was not written for it
unsaid_fault : (why : Unsaid) → end_of why ≡ end.WriteFault → why ≡ unsaid.Fault
unsaid_fault unsaid.Fault e = refl
unsaid_fault unsaid.Memory e = cc

abbrev failed : Unsaid → Result (Unit {0}) Unsaid
failed why = Err why

rose_since : (first before now : ℕ) → first ≤ before → Rose before now → Rose first now
rose_since first before now h r = grind arith

pub unsaid_caused : (why : Unsaid) (ended : End) (first before now : ℕ) → ended ≡ end_of why → first ≤ before → IsCaused (failed why ≡ failed unsaid.Fault) before now
    → IsCaused (ended ≡ end.WriteFault) first now
unsaid_caused why ended first before now is least h = record {
  later = omega (arith, least, h.later);
  rose = λ e. rose_since first before now least (h.rose (ap failed (unsaid_fault why (sym is ∙ e))));
}
