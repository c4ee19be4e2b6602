-- What an open reader has taken from its source so far.
use Rattle.std.proofs.Common.{◌≡◌, ℕ, ◌+◌, ◌≤◌, Bool, true, false, List, [], ◌++◌, length, Option, Some, None, Ok, Err, refl, sym, ◌∙◌, ap, subst, arith, append_assoc, append-nil, length-append, inl, inr}
use Rattle.lake_io.specs.Told.{Takes, told}
use Rattle.http_wire.specs.Connection.{WireAt, Asked, stopped, Next, NextBy}
use Rattle.http_wire.specs.declared.wire.WireState.{WireState}
use Rattle.http_wire.specs.declared.wire.WireState.TheVariants as state
use Rattle.http_wire.specs.Found.{GivesRequest}
use Rattle.http_wire.specs.Filling.{TakesNext, TakesNone, TakesFront, Fills, FillsSome, FoundNone, Asks}
use Rattle.http_wire.specs.Requests.{IsUnfinished, IsRefused, IsRequest}
use Rattle.httparse.specs.Grammar.{print_request}
use Rattle.http_wire.proofs.Cutting.{rest_is_short}
use Rattle.http_wire.specs.declared.request.Request.{Request}
use Rattle.http_wire.specs.declared.request.WireError.{WireError}
use Rattle.http_wire.specs.declared.request.WireError.TheVariants as error

told_nil : (tells : Bool) → told tells [] ≡ []
told_nil true = refl
told_nil false = refl

pub told_append : (tells : Bool) (a b : List ℕ) → told tells (a ++ b) ≡ told tells a ++ told tells b
told_append true a b = refl
told_append false a b = refl

Takes-none : (tells : Bool) (taken left : List ℕ) → Takes tells taken left [] taken left
Takes-none tells taken left =
    record {
      left_is = sym (ap (λ (t : List ℕ). t ++ left) (told_nil tells));
      taken_is = sym (ap (λ (t : List ℕ). taken ++ t) (told_nil tells) ∙ append-nil taken);
    }

Takes-both : (tells : Bool) (taken left a taken' left' b taken'' left'' : List ℕ) → Takes tells taken left a taken' left'
    → Takes tells taken' left' b taken'' left'' → Takes tells taken left (a ++ b) taken'' left''
Takes-both tells taken left a taken' left' b taken'' left'' p q =
    record {
      left_is =
          p.left_is ∙ ap (λ (t : List ℕ). told tells a ++ t) q.left_is ∙ sym (append_assoc (told tells a) (told tells b) left'')
          ∙ ap (λ (t : List ℕ). t ++ left'') (sym (told_append tells a b));
      taken_is =
          q.taken_is ∙ ap (λ (t : List ℕ). t ++ told tells b) p.taken_is ∙ append_assoc taken (told tells a) (told tells b)
          ∙ ap (λ (t : List ℕ). taken ++ t) (sym (told_append tells a b));
    }

-- the reader after it took some bytes
abbrev took : WireAt → List ℕ → WireAt
took at bytes = record { read = at.read + length bytes; pending = at.pending ++ bytes; state = at.state }

took_same : (at : WireAt) (read : ℕ) (pending : List ℕ) → read ≡ at.read → pending ≡ at.pending
    → at ≡ record { read = read; pending = pending; state = at.state }
took_same at read pending r p =
    let mk : ℕ → List ℕ → WireAt = λ (n : ℕ) (t : List ℕ). record { read = n; pending = t; state = at.state } in
    ap (λ (n : ℕ). mk n at.pending) (sym r) ∙ ap (λ (t : List ℕ). mk read t) (sym p)

took_none : (at : WireAt) → at ≡ took at []
took_none at = took_same at (at.read + 0) (at.pending ++ []) (omega arith) (append-nil at.pending)

took_both : (at : WireAt) (a b : List ℕ) → took (took at a) b ≡ took at (a ++ b)
took_both at a b =
    let mk : ℕ → List ℕ → WireAt = λ (n : ℕ) (t : List ℕ). record { read = n; pending = t; state = at.state } in
    let r : at.read + length a + length b ≡ at.read + length (a ++ b) = omega (arith, length-append a b) in
    ap (λ (n : ℕ). mk n ((at.pending ++ a) ++ b)) r ∙ ap (λ (t : List ℕ). mk (at.read + length (a ++ b)) t) (append_assoc at.pending a b)

-- so many bytes were taken since the reader stood at `at`, and all of them are pending
pub record HasRead (tells : Bool) (limit : ℕ) (taken left : List ℕ) (at : WireAt) (taken' left' : List ℕ) (at' : WireAt) : Type 0 where
  pub bytes : List ℕ
  pub takes : Takes tells taken left bytes taken' left'
  pub asked : Asked limit at.pending bytes
  pub is : at' ≡ took at bytes

-- a piece more, which was asked for where there was less than a request
asked_more : (limit : ℕ) (at : WireAt) (bytes : List ℕ) (at' : WireAt) (piece : List ℕ) → at' ≡ took at bytes → IsUnfinished limit at'.pending → length piece ≤ 65536
    → Asked limit at.pending (bytes ++ piece)
asked_more limit at bytes at' piece is unfinished small =
    inr (record {
      front = bytes;
      piece = piece;
      split = refl;
      small = small;
      unfinished = subst (λ (w : WireAt). IsUnfinished limit w.pending) is unfinished;
    })

-- no bytes more
read_same : (tells : Bool) (limit : ℕ) (taken left : List ℕ) (at : WireAt) (taken' left' : List ℕ) (at' : WireAt) (taken'' left'' : List ℕ) (at'' : WireAt)
    → HasRead tells limit taken left at taken' left' at' → Takes tells taken' left' [] taken'' left'' → at'' ≡ at' → HasRead tells limit taken left at taken'' left'' at''
read_same tells limit taken left at taken' left' at' taken'' left'' at'' has takes is =
    record {
      bytes = has.bytes;
      takes = subst (λ (t : List ℕ). Takes tells taken left t taken'' left'') (append-nil has.bytes)
          (Takes-both tells taken left has.bytes taken' left' [] taken'' left'' has.takes takes);
      asked = has.asked;
      is = is ∙ has.is;
    }

-- the bytes that are pending where all that was taken is
unfinished_all : (limit : ℕ) (at : WireAt) (bytes : List ℕ) (at' : WireAt) → at' ≡ took at bytes → IsUnfinished limit at'.pending
    → IsUnfinished limit (at.pending ++ bytes)
unfinished_all limit at bytes at' is h = subst (λ (w : WireAt). IsUnfinished limit w.pending) is h

read_is : (at : WireAt) (bytes : List ℕ) (at' : WireAt) → at' ≡ took at bytes → at'.read ≡ at.read + length bytes
read_is at bytes at' is = ap (λ (w : WireAt). w.read) is

-- a front that is refused, or want of memory there
pub asks_front : (tells : Bool) (taken left : List ℕ) (at : WireAt) (taken' left' : List ℕ) (at' : WireAt) (limit : ℕ) (e : WireError) (at'' : WireAt)
    → HasRead tells limit taken left at taken' left' at' → TakesFront limit at' (Err e) at'' → Asks tells taken left taken' left' limit at (Err e) at''
asks_front tells taken left at taken' left' at' limit (error.Refuse status) at'' has front =
    record {
      bytes = has.bytes;
      takes = has.takes;
      asked = has.asked;
      finds = record {
        refused = subst (λ (w : WireAt). IsRefused limit w.pending status) has.is front.refused;
        read_is = read_is at has.bytes at'' (front.is ∙ has.is);
      };
    }
asks_front tells taken left at taken' left' at' limit error.Cut at'' has front = absurd front
asks_front tells taken left at taken' left' at' limit error.ReadFault at'' has front = absurd front
asks_front tells taken left at taken' left' at' limit error.TooMuch at'' has front = absurd front
asks_front tells taken left at taken' left' at' limit error.Memory at'' has front =
    record { bytes = has.bytes; takes = has.takes; asked = has.asked; finds = read_is at has.bytes at'' (front ∙ has.is) }

none_left : (limit : ℕ) (at : WireAt) (bytes : List ℕ) (at' : WireAt) → at' ≡ took at bytes → IsUnfinished limit at'.pending → FoundNone limit at bytes at'
none_left limit at bytes at' is h = record { unfinished = unfinished_all limit at bytes at' is h; read_is = read_is at bytes at' is }

-- the source gives no more, or memory runs out for what it gave
asks_fill : (tells : Bool) (taken left : List ℕ) (at : WireAt) (taken' left' : List ℕ) (at' : WireAt) (limit : ℕ) (e : WireError)
    (taken'' left'' : List ℕ) (at'' : WireAt)
    → HasRead tells limit taken left at taken' left' at' → IsUnfinished limit at'.pending → Fills tells taken' left' at' (Err e) taken'' left'' at''
    → Asks tells taken left taken'' left'' limit at (Err e) at''
unfolding read_same
asks_fill tells taken left at taken' left' at' limit (error.Refuse status) taken'' left'' at'' has h fills = absurd fills
asks_fill tells taken left at taken' left' at' limit error.Cut taken'' left'' at'' has h fills = absurd fills
asks_fill tells taken left at taken' left' at' limit error.ReadFault taken'' left'' at'' has h (fills, room) =
    let all = read_same tells limit taken left at taken' left' at' taken'' left'' at'' has fills.takes fills.is in
    let size : at'.read ≡ at.read + length has.bytes = read_is at has.bytes at' has.is in
    record {
      bytes = has.bytes;
      takes = all.takes;
      asked = has.asked;
      finds = (none_left limit at has.bytes at'' (fills.is ∙ has.is) (subst (λ (w : WireAt). IsUnfinished limit w.pending) (sym fills.is) h), omega arith);
    }
asks_fill tells taken left at taken' left' at' limit error.TooMuch taken'' left'' at'' has h (fills, full) =
    let all = read_same tells limit taken left at taken' left' at' taken'' left'' at'' has fills.takes fills.is in
    let size : at'.read ≡ at.read + length has.bytes = read_is at has.bytes at' has.is in
    record {
      bytes = has.bytes;
      takes = all.takes;
      asked = has.asked;
      finds = (none_left limit at has.bytes at'' (fills.is ∙ has.is) (subst (λ (w : WireAt). IsUnfinished limit w.pending) (sym fills.is) h), omega arith);
    }
asks_fill tells taken left at taken' left' at' limit error.Memory taken'' left'' at'' has h fills =
    let size : at'.read ≡ at.read + length has.bytes = read_is at has.bytes at' has.is in
    record {
      bytes = has.bytes ++ fills.bytes;
      takes = Takes-both tells taken left has.bytes taken' left' fills.bytes taken'' left'' has.takes fills.takes;
      asked = asked_more limit at has.bytes at' fills.bytes has.is h fills.piece;
      finds = omega (arith, fills.read_is, length-append has.bytes fills.bytes);
    }

-- where no request was taken
front_none : (limit : ℕ) (at : WireAt) (found : Option Request) (at' : WireAt) → ((r : Request) → found ≡ Some r → ⊥) → TakesFront limit at (Ok found) at'
    → TakesNone limit at at'
front_none limit at None at' not front = front
front_none limit at (Some r) at' not front = absurd (not r refl)

-- a turn in which no request was taken
read_turn : (tells : Bool) (limit : ℕ) (taken left : List ℕ) (at : WireAt) (taken' left' : List ℕ) (at' : WireAt) (found : Option Request) (front : WireAt)
    → HasRead tells limit taken left at taken' left' at' → ((r : Request) → found ≡ Some r → ⊥) → TakesFront limit at' (Ok found) front
    → HasRead tells limit taken left at taken' left' front × IsUnfinished limit front.pending
read_turn tells limit taken left at taken' left' at' found front has not takes =
    let none : TakesNone limit at' front = front_none limit at' found front not takes in (
      record { bytes = has.bytes; takes = has.takes; asked = has.asked; is = none.is ∙ has.is },
      subst (λ (w : WireAt). IsUnfinished limit w.pending) (sym none.is) none.unfinished,
    )

-- the two steps of one turn, where the second ends it by an error
pub asks_turn : (tells : Bool) (taken left : List ℕ) (at : WireAt) (taken' left' : List ℕ) (at' : WireAt) (limit : ℕ) (found : Option Request) (front : WireAt)
    (e : WireError) (taken'' left'' : List ℕ) (at'' : WireAt)
    → HasRead tells limit taken left at taken' left' at' → ((r : Request) → found ≡ Some r → ⊥) → TakesFront limit at' (Ok found) front
    → Fills tells taken' left' front (Err e) taken'' left'' at'' → Asks tells taken left taken'' left'' limit at (Err e) at''
asks_turn tells taken left at taken' left' at' limit found front e taken'' left'' at'' has not takes fills =
    let turn = read_turn tells limit taken left at taken' left' at' found front has not takes in
    asks_fill tells taken left at taken' left' front limit e taken'' left'' at'' turn.0 turn.1 fills

-- the two steps of one turn, where the source gave a piece
pub read_more : (tells : Bool) (taken left : List ℕ) (at : WireAt) (taken' left' : List ℕ) (at' : WireAt) (limit : ℕ) (found : Option Request) (front : WireAt)
    (more : Bool) (taken'' left'' : List ℕ) (at'' : WireAt)
    → HasRead tells limit taken left at taken' left' at' → ((r : Request) → found ≡ Some r → ⊥) → TakesFront limit at' (Ok found) front
    → more ≡ true → Fills tells taken' left' front (Ok more) taken'' left'' at'' → HasRead tells limit taken left at taken'' left'' at''
read_more tells taken left at taken' left' at' limit found front more taken'' left'' at'' has not takes e fills =
    let turn = read_turn tells limit taken left at taken' left' at' found front has not takes in
    let some : FillsSome tells taken' left' front taken'' left'' at'' = rw e at fills in
    record {
      bytes = turn.0.bytes ++ some.bytes;
      takes = Takes-both tells taken left turn.0.bytes taken' left' some.bytes taken'' left'' turn.0.takes some.takes;
      asked = asked_more limit at turn.0.bytes front some.bytes turn.0.is turn.1 some.piece;
      is = some.is ∙ (ap (λ (w : WireAt). took w some.bytes) turn.0.is ∙ took_both at turn.0.bytes some.bytes);
    }

pub next_by : (s : WireState) (P : Type 0) → P → NextBy s P
next_by state.Open P p = p
next_by state.Ended P p = tt
next_by (state.Stopped e) P p = tt

-- a reader that is closed by an error
pub next_err : (tells : Bool) (taken left taken' left' : List ℕ) (limit : ℕ) (at : WireAt) (e : WireError) (at' at'' : WireAt)
    → Asks tells taken left taken' left' limit at (Err e) at' → at'' ≡ stopped at'.read e → Next tells taken left taken' left' limit at (Err e) at''
next_err tells taken left taken' left' limit at (error.Refuse status) at' at'' asks is =
    record {
      bytes = asks.bytes;
      takes = asks.takes;
      asked = asks.asked;
      answers = record { refused = asks.finds.refused; is = is ∙ ap (λ (n : ℕ). stopped n (error.Refuse status)) asks.finds.read_is };
    }
next_err tells taken left taken' left' limit at error.Cut at' at'' asks is =
    record {
      bytes = asks.bytes;
      takes = asks.takes;
      asked = asks.asked;
      answers = record {
        some = asks.finds.some;
        unfinished = asks.finds.unfinished;
        whole = asks.finds.whole;
        room = asks.finds.room;
        is = is ∙ ap (λ (n : ℕ). stopped n error.Cut) asks.finds.read_is;
      };
    }
next_err tells taken left taken' left' limit at error.ReadFault at' at'' asks is =
    record {
      bytes = asks.bytes;
      takes = asks.takes;
      asked = asks.asked;
      answers = (record { unfinished = asks.finds.0.unfinished; is = is ∙ ap (λ (n : ℕ). stopped n error.ReadFault) asks.finds.0.read_is }, asks.finds.1);
    }
next_err tells taken left taken' left' limit at error.TooMuch at' at'' asks is =
    record {
      bytes = asks.bytes;
      takes = asks.takes;
      asked = asks.asked;
      answers = (record { unfinished = asks.finds.0.unfinished; is = is ∙ ap (λ (n : ℕ). stopped n error.TooMuch) asks.finds.0.read_is }, asks.finds.1);
    }
next_err tells taken left taken' left' limit at error.Memory at' at'' asks is =
    record { bytes = asks.bytes; takes = asks.takes; asked = asks.asked; answers = is ∙ ap (λ (n : ℕ). stopped n error.Memory) asks.finds }

-- ---- what stays pending

held_rest : (limit : ℕ) (at : WireAt) (bytes rest : List ℕ) (request : Request) → Asked limit at.pending bytes → GivesRequest limit (at.pending ++ bytes) request rest
    → length at.pending ≤ 65536 → length rest ≤ 65536
held_rest limit at bytes rest request (inl none) gives small =
    let size : length (at.pending ++ bytes) ≡ length (print_request gives.h ++ (request.body.items ++ rest)) = ap length gives.is_request.head.reads.1 in
    let no_bytes : length bytes ≡ 0 = ap length none in
    omega (arith, length-append at.pending bytes, length-append (print_request gives.h) (request.body.items ++ rest), length-append request.body.items rest)
held_rest limit at bytes rest request (inr last) gives small =
    let split : at.pending ++ bytes ≡ (at.pending ++ last.front) ++ last.piece =
    ap (λ (t : List ℕ). at.pending ++ t) last.split ∙ sym (append_assoc at.pending last.front last.piece) in
    let short : length rest ≤ length last.piece =
    rest_is_short limit (at.pending ++ last.front) last.piece gives.h request.body.items rest last.unfinished
    (subst (λ (t : List ℕ). IsRequest limit t gives.h request.body.items rest) split gives.is_request) in
    omega (arith, last.small)

-- what stays pending behind a request is no more than a piece
pub held_next : (tells : Bool) (limit : ℕ) (taken left : List ℕ) (at : WireAt) (taken' left' : List ℕ) (at' : WireAt) (request : Request) (at'' : WireAt)
    → HasRead tells limit taken left at taken' left' at' → TakesNext limit at' request at'' → length at.pending ≤ 65536 → length at''.pending ≤ 65536
held_next tells limit taken left at taken' left' at' request at'' has next small =
    subst (λ (w : WireAt). length w.pending ≤ 65536) (sym next.is)
    (held_rest limit at has.bytes next.rest request has.asked
    (subst (λ (w : WireAt). GivesRequest limit w.pending request next.rest) has.is next.gives) small)
