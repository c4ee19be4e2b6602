use Rattle.std.proofs.Common.{◌≡◌, ◌≤◌, ◌<◌, ◌+◌, ◌-◌, List, ℕ, subst, take, drop, length, vec_len, arith}
use Rattle.lake_io.specs.Reading.{At, input_limit}
use Rattle.lake_io.specs.Parts.{FillsSome}
use Rattle.lake_io.proofs.Moving.{fills_some}
use Rattle.lake_io.proofs.reader.Lines.fill.Goals as goal

pub returns-in-Ok-clause-fills : goal.returns-in-Ok-clause-fills
returns-in-Ok-clause-fills g c =
    let n : ℕ = c.in-Ok.n in
    let room : ℕ = c.piece_size-room.result in
    let piece : List ℕ = c.read_piece.new.piece.items in
    let read : ℕ = c.self.inside.read in
    let after : At = record {
      number = c.self.inside.number;
      read = read + n;
      pending = take (n - 0) (drop 0 piece);
      state = c.self.inside.state;
    }
    in
    let P : At → Type 0 = λ at. FillsSome g.S.Source.tells (g.S.Source.taken c.args.source.now) (g.S.Source.left c.args.source.now) at (g.S.Source.taken c.read_piece.new.source) (g.S.Source.left c.read_piece.new.source) after in
    let some : 0 < n = omega (arith, c.in-Ok.n-test.1) in
    let len : vec_len c.read_piece.new.piece ≡ length piece = c.read_piece.new.piece.ok.0 in
    let fits : room ≤ length piece = omega (arith, c.in-Ok.ensures.len, c.self.invariant.size) in
    let limit : read + room ≤ input_limit = omega (arith, c.piece_size-room.ensures, c.self.invariant.limit) in
    subst P c.self.view_is
    (fills_some g.S.Source.tells _ _ _ _ piece _ room n c.self.inside.number read c.self.inside.state c.in-Ok.ensures.gives fits some limit)
