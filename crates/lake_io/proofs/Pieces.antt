-- A list that is given, or taken, in pieces.
use Rattle.std.proofs.Common.{◌≡◌, ◌≤◌, ◌+◌, ℕ, true, List, ◌++◌, length, take, drop, ap, sym, ◌∙◌, arith, length-append, length-drop}
use Rattle.std.proofs.lemmas.List.{take-append-le, take_all, take-append-drop, drop-drop, length-take-le}
use Rattle.std.proofs.Math.Seq.{take-add}
use Rattle.std.proofs.Math.ListN.{drop_of_length-le}
use Rattle.lake_io.specs.Told.{Reads, Takes}

-- a buffer whose front is the piece has the piece at its front
front-take : (n : ℕ) (piece front rest : List ℕ) → front ≡ take n piece → n ≤ length piece → take n (front ++ rest) ≡ take n piece
front-take n piece front rest e h =
    let l : length front ≡ n = ap length e ∙ length-take-le n piece h in
    take-append-le n front rest (omega arith) ∙ (take_all n front (omega arith) ∙ e)

pub mem-takes : (bytes : List ℕ) (at n : ℕ) (piece : List ℕ) → piece ≡ take n (drop at bytes) → Takes true (take at bytes) (drop at bytes) piece (take (at + n) bytes) (drop (at + n) bytes)
mem-takes bytes at n piece e = record {
  left_is = sym (take-append-drop n (drop at bytes)) ∙ (ap (λ xs. xs ++ drop n (drop at bytes)) (sym e) ∙ ap (λ xs. piece ++ xs) (drop-drop n at bytes));
  taken_is = take-add at n bytes ∙ ap (λ xs. take at bytes ++ xs) (sym e);
}

-- a read that gives the next n bytes
pub mem-reads : (bytes into front : List ℕ) (at n : ℕ) → at + n ≤ length bytes → n ≤ length into → front ≡ take n (drop at bytes) → (n ≡ 0 → length bytes ≤ at) → Reads true (take at bytes) (drop at bytes) (front ++ drop n into) n (take (at + n) bytes) (drop (at + n) bytes)
mem-reads bytes into front at n within room e none =
    let l : n ≤ length (drop at bytes) = omega (arith, length-drop at bytes) in
    let k : length front ≡ n = ap length e ∙ length-take-le n (drop at bytes) l in
    record {
      room = omega (arith, length-append front (drop n into));
      takes = mem-takes bytes at n (take n (front ++ drop n into)) (front-take n (drop at bytes) front (drop n into) e l);
      end_is = λ z _. drop_of_length-le bytes (none z);
    }
