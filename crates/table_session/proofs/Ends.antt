-- How a session ends, from what was heard and said until then.
use Rattle.std.proofs.Common.{◌≡◌, ◌+◌, ℕ, ℤ, Bool, true, IsTrue, List, [], ◌∷◌, ◌++◌, length, filter, refl, sym, ◌∙◌, ap, subst, append_assoc, append-nil, arith}
use Rattle.std.proofs.lemmas.List.Elements.{filter-append}
use Rattle.text_lines.specs.Lines.{Numbered, numbered, numbered_from, cut}
use Rattle.text_lines.proofs.Numbering.{numbered-append}
use Rattle.lake_io.specs.Told.{told}
use Rattle.lake_io.specs.Reading.{At, HeardFirst}
use Rattle.lake_io.specs.declared.answers.End.{End}
use Rattle.lake_io.specs.declared.answers.End.TheVariants as end
use Rattle.lake_io.proofs.Telling.{told-append, takes_both}
use Rattle.lake_io.proofs.Hearing.{heard_first}
use Rattle.session_lines.specs.Replies.{reply_text_of}
use Rattle.table_model.specs.Knowledge.{Knowledge}
use Rattle.table_session.specs.Moments.{Moment, lines_of, texts_of}
use Rattle.table_session.specs.Asking.{gets_reply, lines_asking}
use Rattle.table_session.specs.Running.{IsRight}
use Rattle.table_session.specs.Hearing.{HearsLine, HearsEnd, HeardEnd}
use Rattle.table_session.specs.declared.speaking.Unsaid.{Unsaid}
use Rattle.table_session.specs.declared.speaking.Unsaid.TheVariants as unsaid
use Rattle.table_session.specs.Speaking.{SaidShort, end_of}
use Rattle.table_session.specs.Sessions.{IsFirstOf, HeardMost, WroteAll, WroteShort, WroteSome, Wrote, Session, SessionOf}
use Rattle.table_session.specs.Sessions as sessions
use Rattle.table_session.specs.Views.{source_view, sink_view, clock_view, ids_view}
use Rattle.table_session.specs.declared.hearing.Asked.{Asked}
use Rattle.table_session.proofs.Chains.{run_told}
use Rattle.writer_txn.specs.Named.{NamesApart}
use Rattle.table_session.specs.Naming.{named_by}
use Rattle.table_session.proofs.Turns.{Before, Talking, run_more, lines_said, readings_more, names_more}

-- the first lines have the first of the lines that ask
first_asking : (read : List ℕ) (handed : List (List ℕ)) → HeardFirst read handed → IsFirstOf (lines_asking handed) (lines_asking (cut read))
first_asking read handed h = record {
  others = filter gets_reply (numbered_from (1 + length handed) h.others);
  is = ap lines_asking h.is ∙ ap (filter gets_reply) (numbered-append 1 handed h.others) ∙ filter-append gets_reply (numbered_from 1 handed) (numbered_from (1 + length handed) h.others);
}

heard_end : (tells : Bool) (left read : List ℕ) (handed : List (List ℕ)) (ended : End) → HeardEnd tells left read handed ended → sessions.Heard read (lines_asking handed) ended
heard_end tells left read handed end.Done h = ap lines_asking (sym h.lines)
heard_end tells left read handed end.ReadFault h = ap lines_asking (sym h)
heard_end tells left read handed end.TooMuch h = record { all = ap lines_asking (sym h.0); most = h.1 }
heard_end tells left read handed end.WriteFault h = absurd h
heard_end tells left read handed end.Memory h = first_asking read handed h

nothing_left : (tells : Bool) (left read : List ℕ) (handed : List (List ℕ)) (ended : End) → HeardEnd tells left read handed ended → ended ≡ end.Done → IsTrue tells → left ≡ []
nothing_left tells left read handed end.Done h e t = h.whole t
nothing_left tells left read handed end.ReadFault h e t = cc
nothing_left tells left read handed end.TooMuch h e t = cc
nothing_left tells left read handed end.WriteFault h e t = absurd h
nothing_left tells left read handed end.Memory h e t = cc

wrote_all : (tells : Bool) (left read : List ℕ) (handed : List (List ℕ)) (ended : End) (said : List Moment) → HeardEnd tells left read handed ended → Wrote (texts_of said) said [] ended
wrote_all tells left read handed end.Done said h = record { none = refl; is = refl }
wrote_all tells left read handed end.ReadFault said h = record { none = refl; is = refl }
wrote_all tells left read handed end.TooMuch said h = record { none = refl; is = refl }
wrote_all tells left read handed end.WriteFault said h = absurd h
wrote_all tells left read handed end.Memory said h = record { one = omega arith; is = refl }

-- no further line
pub ends_heard : (tells fixed in_tells out_tells : Bool) (b : Before) (k : Knowledge) (reading : ℤ) (differ : Bool) (given taken left taken' left' written : List ℕ) (at : At) (ended : End)
    → (t : Talking tells fixed in_tells out_tells b k reading differ given taken left written at) → HearsEnd in_tells taken left t.bytes t.handed ended taken' left'
    → SessionOf tells b.known k (source_view in_tells b.taken b.left taken' left') (sink_view out_tells b.written written) (clock_view fixed b.reading)
    (ids_view b.differ b.given differ given) ended
ends_heard tells fixed in_tells out_tells b k reading differ given taken left taken' left' written at ended t h = record {
  read = t.bytes ++ h.new;
  wrote = texts_of t.moments;
  session = record {
    moments = t.moments;
    run = t.run;
    told = run_told tells b.known k t.moments t.run;
    heard = let P : List Numbered → Type 0 = λ ls. sessions.Heard (t.bytes ++ h.new) ls ended in subst P (sym t.lines) (heard_end in_tells left' (t.bytes ++ h.new) t.handed ended h.heard);
    said = t.moments;
    unsaid = [];
    all = sym (append-nil t.moments);
    wrote_is = wrote_all in_tells left' (t.bytes ++ h.new) t.handed ended t.moments h.heard;
  };
  reads = takes_both in_tells b.taken b.left t.bytes taken left h.new taken' left' t.source h.takes;
  writes = t.sink;
  readings = t.readings;
  names = t.names;
  whole = nothing_left in_tells left' (t.bytes ++ h.new) t.handed ended h.heard;
}

-- memory ran out between two lines
pub ends_between : (tells fixed in_tells out_tells : Bool) (b : Before) (k : Knowledge) (reading : ℤ) (differ : Bool) (given taken left written : List ℕ) (at : At)
    → Talking tells fixed in_tells out_tells b k reading differ given taken left written at
    → SessionOf tells b.known k (source_view in_tells b.taken b.left taken left) (sink_view out_tells b.written written) (clock_view fixed b.reading)
    (ids_view b.differ b.given differ given) end.Memory
ends_between tells fixed in_tells out_tells b k reading differ given taken left written at t = record {
  read = t.bytes;
  wrote = texts_of t.moments;
  session = record {
    moments = t.moments;
    run = t.run;
    told = run_told tells b.known k t.moments t.run;
    heard = let P : List Numbered → Type 0 = λ ls. sessions.Heard t.bytes ls end.Memory in subst P (sym t.lines) (first_asking t.bytes t.handed (heard_first in_tells left t.bytes t.handed at t.heard));
    said = t.moments;
    unsaid = [];
    all = sym (append-nil t.moments);
    wrote_is = record { one = omega arith; is = refl };
  };
  reads = t.source;
  writes = t.sink;
  readings = t.readings;
  names = t.names;
  whole = λ e w. cc;
}

part_more : (tells : Bool) (start before after part texts : List ℕ) → before ≡ start ++ told tells texts → after ≡ before ++ told tells part → after ≡ start ++ told tells (texts ++ part)
part_more tells start before after part texts e f =
    f ∙ ap (λ bs. bs ++ told tells part) e ∙ append_assoc start (told tells texts) (told tells part) ∙ ap (λ bs. start ++ bs) (sym (told-append tells texts part))

-- what was written, where the last reply was not written whole
record Short (tells : Bool) (start written' : List ℕ) (said : List Moment) (x : Moment) (why : Unsaid) : Type 0 where
  wrote : List ℕ
  wrote_is : Wrote wrote said (x ∷ []) (end_of why)
  sink : written' ≡ start ++ told tells wrote

short : (tells : Bool) (start written written' text : List ℕ) (said : List Moment) (x : Moment) (why : Unsaid) → text ≡ reply_text_of x.reply
    → written ≡ start ++ told tells (texts_of said) → SaidShort tells written text why written' → Short tells start written' said x why
short tells start written written' text said x unsaid.Fault is e s = record {
  wrote = texts_of said ++ s.part;
  wrote_is = record { last = x; one = refl; part = s.part; lacking = s.lacking; some = s.some; text = sym is ∙ s.all; is = refl };
  sink = part_more tells start written written' s.part (texts_of said) e s.is;
}
short tells start written written' text said x unsaid.Memory is e s = record {
  wrote = texts_of said;
  wrote_is = record { one = omega arith; is = refl };
  sink = s ∙ e;
}

first_heard : (read : List ℕ) (lines : List Numbered) (why : Unsaid) → IsFirstOf lines (lines_asking (cut read)) → sessions.Heard read lines (end_of why)
first_heard read lines unsaid.Fault f = f
first_heard read lines unsaid.Memory f = f

not_done : (why : Unsaid) → end_of why ≡ end.Done → ⊥
not_done unsaid.Fault e = cc
not_done unsaid.Memory e = cc

-- the reply to a line was not written whole
pub ends_short : (tells fixed in_tells out_tells : Bool) (b : Before) (k : Knowledge) (reading : ℤ) (differ : Bool) (given taken left taken' left' written : List ℕ) (at at' : At) (a : Asked)
    → (t : Talking tells fixed in_tells out_tells b k reading differ given taken left written at) → (h : HearsLine in_tells taken left t.bytes t.handed a taken' left' at')
    → gets_reply (numbered (length t.handed + 1) h.text) ≡ true
    → (x : Moment) → x.line ≡ numbered (length t.handed + 1) h.text → IsRight tells k x → (IsTrue fixed → x.reading ≡ reading)
    → (differ' : Bool) (given' : List ℕ) → (IsTrue differ' → NamesApart differ given given' (named_by x.reply).takens k x.after)
    → (text written' : List ℕ) (why : Unsaid) → text ≡ reply_text_of x.reply → SaidShort out_tells written text why written'
    → SessionOf tells b.known x.after (source_view in_tells b.taken b.left taken' left') (sink_view out_tells b.written written') (clock_view fixed b.reading)
    (ids_view b.differ b.given differ' given') (end_of why)
ends_short tells fixed in_tells out_tells b k reading differ given taken left taken' left' written at at' a t h said x line right steady differ' given' names text written' why is put =
    let s = short out_tells b.written written written' text t.moments x why is t.sink put in
    let run = run_more tells b.known k t.moments x t.run right in
    record {
      read = t.bytes ++ h.new;
      wrote = s.wrote;
      session = record {
        moments = t.moments ++ x ∷ [];
        run = run;
        told = run_told tells b.known x.after (t.moments ++ x ∷ []) run;
        heard = first_heard (t.bytes ++ h.new) (lines_of (t.moments ++ x ∷ [])) why
            (let P : List Numbered → Type 0 = λ ls. IsFirstOf ls (lines_asking (cut (t.bytes ++ h.new))) in
            subst P (sym (lines_said t.handed h.text t.moments x t.lines line said))
            (first_asking (t.bytes ++ h.new) (t.handed ++ h.text ∷ []) (heard_first in_tells left' (t.bytes ++ h.new) (t.handed ++ h.text ∷ []) at' h.heard)));
        said = t.moments;
        unsaid = x ∷ [];
        all = refl;
        wrote_is = s.wrote_is;
      };
      reads = takes_both in_tells b.taken b.left t.bytes taken left h.new taken' left' t.source h.takes;
      writes = s.sink;
      readings = λ f. readings_more b.reading t.moments x (t.readings f) (steady f ∙ t.steady f);
      names = names_more b.differ differ differ' b.given given given' b.known k t.moments x t.names names;
      whole = λ e w. absurd (not_done why e);
    }
