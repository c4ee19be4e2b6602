-- A session in its course: what was heard and said so far, and one line more.
use Rattle.std.proofs.Common.{◌≡◌, ◌+◌, ℕ, ℤ, Bool, true, false, IsTrue, List, [], ◌∷◌, ◌++◌, length, filter, refl, sym, ◌∙◌, ap, subst, append_assoc, append-nil, arith, cond}
use Rattle.std.specs.Prelude.{All}
use Rattle.std.proofs.lemmas.List.{map-append}
use Rattle.std.proofs.lemmas.List.Elements.{All-nil, All-cons, All-append, filter-append}
use Rattle.std.proofs.lemmas.List.Concat.{flat_map-append}
use Rattle.text_lines.specs.Lines.{numbered, numbered_from}
use Rattle.text_lines.proofs.Numbering.{numbered-nil, numbered-line, numbered-append}
use Rattle.lake_io.specs.Told.{Takes, told}
use Rattle.lake_io.specs.Reading.{At, at_start, Heard}
use Rattle.lake_io.proofs.Telling.{told-append, told-nil, takes_none, takes_both}
use Rattle.lake_io.proofs.Hearing.{heard_start}
use Rattle.session_lines.specs.Replies.{reply_text_of}
use Rattle.table_model.specs.Knowledge.{Knowledge}
use Rattle.writer_txn.specs.Named.{NamesApart}
use Rattle.writer_txn.proofs.Naming.{apart_none, apart_both, apart_at}
use Rattle.answer_names.specs.Names.{Names}
use Rattle.answer_names.specs.Together.{takens_in}
use Rattle.table_session.specs.Moments.{Moment, lines_of, texts_of, names_in}
use Rattle.table_session.specs.Asking.{gets_reply, lines_asking}
use Rattle.table_session.specs.Naming.{named_by}
use Rattle.table_session.specs.Running.{IsRight, Run}
use Rattle.table_session.specs.Hearing.{HearsLine}
use Rattle.table_session.specs.declared.hearing.Asked.{Asked}
use Rattle.table_session.proofs.Wholes.{names_joined}

-- what the caller knew before the session, the clock's reading and the ids given then; what was told of source and sink then
pub record Before : Type 0 where
  pub known : Knowledge
  pub reading : ℤ
  pub differ : Bool
  pub given : List ℕ
  pub taken : List ℕ
  pub left : List ℕ
  pub written : List ℕ

abbrev pub before : Knowledge → ℤ → Bool → List ℕ → List ℕ → List ℕ → List ℕ → Before
before known reading differ given taken left written =
    record { known = known; reading = reading; differ = differ; given = given; taken = taken; left = left; written = written }

pub record Talking (tells fixed in_tells out_tells : Bool) (b : Before) (k : Knowledge) (reading : ℤ) (differ : Bool) (given taken left written : List ℕ) (at : At) : Type 0 where
  pub bytes : List ℕ
  pub handed : List (List ℕ)
  pub source : Takes in_tells b.taken b.left bytes taken left
  pub heard : Heard in_tells left bytes handed at
  pub moments : List Moment
  pub run : Run tells b.known moments k
  pub lines : lines_of moments ≡ lines_asking handed
  pub sink : written ≡ b.written ++ told out_tells (texts_of moments)
  pub readings : IsTrue fixed → All (λ x. x.reading ≡ b.reading) moments
  pub steady : IsTrue fixed → reading ≡ b.reading
  pub names : IsTrue differ → NamesApart b.differ b.given given (takens_in (names_in moments)) b.known k

-- ---- the lines that ask, with one line more

numbered_one : (handed : List (List ℕ)) (text : List ℕ) → numbered_from 1 (handed ++ text ∷ []) ≡ numbered_from 1 handed ++ numbered (length handed + 1) text ∷ []
numbered_one handed text =
    numbered-append 1 handed (text ∷ [])
    ∙ ap (λ ls. numbered_from 1 handed ++ ls) (numbered-line (1 + length handed) text [] ∙ ap (λ ls. numbered (1 + length handed) text ∷ ls) (numbered-nil (1 + length handed + 1)))
    ∙ ap (λ n. numbered_from 1 handed ++ numbered n text ∷ []) (let e : 1 + length handed ≡ length handed + 1 = omega arith in e)

asking_one : (handed : List (List ℕ)) (text : List ℕ) → lines_asking (handed ++ text ∷ []) ≡ lines_asking handed ++ filter gets_reply (numbered (length handed + 1) text ∷ [])
asking_one handed text = ap (filter gets_reply) (numbered_one handed text) ∙ filter-append gets_reply (numbered_from 1 handed) (numbered (length handed + 1) text ∷ [])

asking_said : (handed : List (List ℕ)) (text : List ℕ) → gets_reply (numbered (length handed + 1) text) ≡ true
    → lines_asking (handed ++ text ∷ []) ≡ lines_asking handed ++ numbered (length handed + 1) text ∷ []
asking_said handed text e =
    asking_one handed text ∙ ap (λ (b : Bool). lines_asking handed ++ cond b (numbered (length handed + 1) text ∷ []) []) e

asking_passed : (handed : List (List ℕ)) (text : List ℕ) → gets_reply (numbered (length handed + 1) text) ≡ false → lines_asking (handed ++ text ∷ []) ≡ lines_asking handed
asking_passed handed text e =
    asking_one handed text ∙ ap (λ (b : Bool). lines_asking handed ++ cond b (numbered (length handed + 1) text ∷ []) []) e ∙ append-nil (lines_asking handed)

-- ---- one moment more

pub run_more : (tells : Bool) (k l : Knowledge) (xs : List Moment) (x : Moment) → Run tells k xs l → IsRight tells l x → Run tells k (xs ++ x ∷ []) x.after
run_more tells k l [] x r h = (subst (λ n. IsRight tells n x) r h, refl)
run_more tells k l (y ∷ ys) x r h = (r.0, run_more tells y.after l ys x r.1 h)

lines_more : (xs : List Moment) (x : Moment) → lines_of (xs ++ x ∷ []) ≡ lines_of xs ++ x.line ∷ []
lines_more xs x = map-append (λ (y : Moment). y.line) xs (x ∷ [])

texts_more : (xs : List Moment) (x : Moment) → texts_of (xs ++ x ∷ []) ≡ texts_of xs ++ reply_text_of x.reply
texts_more xs x = flat_map-append (λ (y : Moment). reply_text_of y.reply) xs (x ∷ []) ∙ ap (λ t. texts_of xs ++ t) (append-nil (reply_text_of x.reply))

written_more : (tells : Bool) (start before after text : List ℕ) (xs : List Moment) (x : Moment) → text ≡ reply_text_of x.reply
    → before ≡ start ++ told tells (texts_of xs) → after ≡ before ++ told tells text → after ≡ start ++ told tells (texts_of (xs ++ x ∷ []))
written_more tells start before after text xs x is e f =
    f
    ∙ ap (λ bs. bs ++ told tells text) e
    ∙ append_assoc start (told tells (texts_of xs)) (told tells text)
    ∙ ap (λ bs. start ++ bs) (sym (told-append tells (texts_of xs) text) ∙ ap (told tells) (ap (λ t. texts_of xs ++ t) is ∙ sym (texts_more xs x)))

pub readings_more : (reading : ℤ) (xs : List Moment) (x : Moment) → All (λ y. y.reading ≡ reading) xs → x.reading ≡ reading → All (λ y. y.reading ≡ reading) (xs ++ x ∷ [])
readings_more reading xs x h e = All-append (λ (y : Moment). y.reading ≡ reading) xs (x ∷ []) h (All-cons (λ (y : Moment). y.reading ≡ reading) x [] e (All-nil (λ (y : Moment). y.reading ≡ reading)))

pub lines_said : (handed : List (List ℕ)) (text : List ℕ) (xs : List Moment) (x : Moment) → lines_of xs ≡ lines_asking handed → x.line ≡ numbered (length handed + 1) text
    → gets_reply (numbered (length handed + 1) text) ≡ true → lines_of (xs ++ x ∷ []) ≡ lines_asking (handed ++ text ∷ [])
lines_said handed text xs x e line said =
    lines_more xs x ∙ ap (λ l. lines_of xs ++ l ∷ []) line ∙ ap (λ ls. ls ++ numbered (length handed + 1) text ∷ []) e ∙ sym (asking_said handed text said)

takens_more : (xs : List Moment) (x : Moment) → takens_in (names_in (xs ++ x ∷ [])) ≡ takens_in (names_in xs) ++ (named_by x.reply).takens
takens_more xs x =
    ap takens_in (names_joined xs (x ∷ []))
    ∙ flat_map-append (λ (a : Names). a.takens) (names_in xs) (names_in (x ∷ []))
    ∙ ap (λ t. takens_in (names_in xs) ++ t) (append-nil (named_by x.reply).takens)

pub names_more : (differ0 differ differ' : Bool) (given0 given given' : List ℕ) (k0 k : Knowledge) (xs : List Moment) (x : Moment)
    → (IsTrue differ → NamesApart differ0 given0 given (takens_in (names_in xs)) k0 k) → (IsTrue differ' → NamesApart differ given given' (named_by x.reply).takens k x.after)
    → IsTrue differ' → NamesApart differ0 given0 given' (takens_in (names_in (xs ++ x ∷ []))) k0 x.after
names_more differ0 differ differ' given0 given given' k0 k xs x before now t =
    let late = now t in
    apart_at differ0 given0 given' (takens_in (names_in xs) ++ (named_by x.reply).takens) (takens_in (names_in (xs ++ x ∷ []))) k0 x.after (sym (takens_more xs x))
    (apart_both differ0 differ given0 given given' (takens_in (names_in xs)) (named_by x.reply).takens k0 k x.after (before late.before) late)

-- ---- the turns of a session

pub talking_start : (tells fixed in_tells out_tells : Bool) (b : Before) → Talking tells fixed in_tells out_tells b b.known b.reading b.differ b.given b.taken b.left b.written at_start
talking_start tells fixed in_tells out_tells b = record {
  bytes = [];
  handed = [];
  source = takes_none in_tells b.taken b.left;
  heard = heard_start in_tells b.left;
  moments = [];
  run = refl;
  lines = ap (filter gets_reply) (sym (numbered-nil 1));
  sink = sym (ap (λ bs. b.written ++ bs) (told-nil out_tells) ∙ append-nil b.written);
  readings = λ _. All-nil (λ (y : Moment). y.reading ≡ b.reading);
  steady = λ _. refl;
  names = λ t. apart_none b.differ b.given b.known b.known refl t;
}

-- a line that gets no reply
pub talking_passed : (tells fixed in_tells out_tells : Bool) (b : Before) (k : Knowledge) (reading : ℤ) (differ : Bool) (given taken left taken' left' written : List ℕ) (at at' : At) (a : Asked)
    → (t : Talking tells fixed in_tells out_tells b k reading differ given taken left written at) → (h : HearsLine in_tells taken left t.bytes t.handed a taken' left' at')
    → gets_reply (numbered (length t.handed + 1) h.text) ≡ false
    → Talking tells fixed in_tells out_tells b k reading differ given taken' left' written at'
talking_passed tells fixed in_tells out_tells b k reading differ given taken left taken' left' written at at' a t h passed = record {
  bytes = t.bytes ++ h.new;
  handed = t.handed ++ h.text ∷ [];
  source = takes_both in_tells b.taken b.left t.bytes taken left h.new taken' left' t.source h.takes;
  heard = h.heard;
  moments = t.moments;
  run = t.run;
  lines = t.lines ∙ sym (asking_passed t.handed h.text passed);
  sink = t.sink;
  readings = t.readings;
  steady = t.steady;
  names = t.names;
}

-- a line, its right reply, and the reply's text
pub talking_said : (tells fixed in_tells out_tells : Bool) (b : Before) (k : Knowledge) (reading : ℤ) (differ : Bool) (given taken left taken' left' written : List ℕ) (at at' : At) (a : Asked)
    → (t : Talking tells fixed in_tells out_tells b k reading differ given taken left written at) → (h : HearsLine in_tells taken left t.bytes t.handed a taken' left' at')
    → gets_reply (numbered (length t.handed + 1) h.text) ≡ true
    → (x : Moment) → x.line ≡ numbered (length t.handed + 1) h.text → IsRight tells k x → (IsTrue fixed → x.reading ≡ reading)
    → (differ' : Bool) (given' : List ℕ) → (IsTrue differ' → NamesApart differ given given' (named_by x.reply).takens k x.after)
    → (text written' : List ℕ) → text ≡ reply_text_of x.reply → written' ≡ written ++ told out_tells text
    → Talking tells fixed in_tells out_tells b x.after x.reading differ' given' taken' left' written' at'
talking_said tells fixed in_tells out_tells b k reading differ given taken left taken' left' written at at' a t h said x line right steady differ' given' names text written' is put = record {
  bytes = t.bytes ++ h.new;
  handed = t.handed ++ h.text ∷ [];
  source = takes_both in_tells b.taken b.left t.bytes taken left h.new taken' left' t.source h.takes;
  heard = h.heard;
  moments = t.moments ++ x ∷ [];
  run = run_more tells b.known k t.moments x t.run right;
  lines = lines_said t.handed h.text t.moments x t.lines line said;
  sink = written_more out_tells b.written written written' text t.moments x is t.sink put;
  readings = λ f. readings_more b.reading t.moments x (t.readings f) (steady f ∙ t.steady f);
  steady = λ f. steady f ∙ t.steady f;
  names = names_more b.differ differ differ' b.given given given' b.known k t.moments x t.names names;
}
