-- The steps of a reader of lines: what is pending goes over to a line, and the source fills the piece again.
use Rattle.std.proofs.Common.{◌≡◌, ◌≤◌, ◌<◌, ◌+◌, ◌-◌, ℕ, Bool, List, ◌++◌, length, take, drop, refl, ap, sym, ◌∙◌, subst, length-take, arith}
use Rattle.std.proofs.lemmas.List.{drop-take, drop-drop, take-take, length-take-le}
use Rattle.lake_io.specs.Parts.{FillsSome, IsFirstLf, IsPart, MovesLine}
use Rattle.lake_io.specs.Reading.{At, input_limit}
use Rattle.lake_io.specs.Told.{Reads, Takes}
use Rattle.lake_io.specs.declared.reader.InputState.{InputState}
use Rattle.lake_io.specs.declared.reader.Part.{Part}

rest_pending : (piece : List ℕ) (start end n : ℕ) → start + n ≤ end → drop n (take (end - start) (drop start piece)) ≡ take (end - (start + n)) (drop (start + n) piece)
rest_pending piece start end n h =
    let e : end - start ≡ n + (end - (start + n)) = omega arith in
    ap (λ k. drop n (take k (drop start piece))) e ∙ (drop-take n (end - (start + n)) (drop start piece) ∙ ap (take (end - (start + n))) (drop-drop n start piece))

pub moves_line : (piece bytes text : List ℕ) (start end i read number : ℕ) (st : InputState) (part : Part) → bytes ≡ take (end - start) (drop start piece) → start ≤ end → IsFirstLf bytes i → IsPart part (text ++ take i bytes) → MovesLine (record { number = number; read = read; pending = take (end - start) (drop start piece); state = st }) text (record { number = number + 1; read = read; pending = take (end - (start + (i + 1))) (drop (start + (i + 1)) piece); state = st }) part
moves_line piece bytes text start end i read number st part e order first p =
    let long : length bytes ≤ end - start = omega (arith, ap length e, length-take (end - start) (drop start piece)) in
    let within : start + (i + 1) ≤ end = omega (arith, first.room) in
    let rest : drop (i + 1) bytes ≡ take (end - (start + (i + 1))) (drop (start + (i + 1)) piece) =
    ap (drop (i + 1)) e ∙ rest_pending piece start end (i + 1) within
    in
    record {
      front = take i bytes;
      rest = drop (i + 1) bytes;
      split = sym e ∙ first.split;
      is = let f : List ℕ → At = λ xs. record { number = number + 1; read = read; pending = xs; state = st } in ap f (sym rest);
      part = p;
    }

filled : (number read n : ℕ) (xs piece : List ℕ) (st : InputState) → xs ≡ take n piece → n ≡ length xs → let a : At = record { number = number; read = read + n; pending = take (n - 0) (drop 0 piece); state = st } in let b : At = record { number = number; read = read + length xs; pending = xs; state = st } in a ≡ b
filled number read n xs piece st e l =
    let f : ℕ → List ℕ → At = λ k ys. record { number = number; read = read + k; pending = ys; state = st } in
    let p : take (n - 0) (drop 0 piece) ≡ xs = ap (λ k. take k piece) (omega arith) ∙ sym e in
    ap (λ k. f k (take (n - 0) (drop 0 piece))) l ∙ ap (f (length xs)) p

-- the piece is filled from its front
pub fills_some : (tells : Bool) (taken left taken' left' piece pending : List ℕ) (room n number read : ℕ) (st : InputState) → Reads tells taken left (take room piece) n taken' left' → room ≤ length piece → 0 < n → read + room ≤ input_limit → FillsSome tells taken left (record { number = number; read = read; pending = pending; state = st }) taken' left' (record { number = number; read = read + n; pending = take (n - 0) (drop 0 piece); state = st })
fills_some tells taken left taken' left' piece pending room n number read st r fits some limit =
    let k : n ≤ room = omega (arith, r.room, length-take room piece) in
    let front : take n (take room piece) ≡ take n piece = take-take n room piece k in
    let len : length (take n piece) ≡ n = length-take-le n piece (omega arith) in
    record {
      bytes = take n piece;
      some = omega arith;
      takes = let P : List ℕ → Type 0 = λ xs. Takes tells taken left xs taken' left' in subst P front r.takes;
      limit = omega arith;
      is = filled number read n (take n piece) piece st refl (sym len);
    }
