use Rattle.std.proofs.Common.{◌+◌, ◌-◌, List, ℕ, ap, subst, take, drop}
use Rattle.lake_io.specs.Reading.{At}
use Rattle.lake_io.specs.Parts.{MovesLine}
use Rattle.lake_io.proofs.Moving.{moves_line}
use Rattle.lake_io.proofs.reader.Lines.take_part.Goals as goal

pub returns-in_ok-add-in-Some-clause-ok : goal.returns-in_ok-add-in-Some-clause-ok
returns-in_ok-add-in-Some-clause-ok c =
    let start : ℕ = c.self.inside.at in
    let end : ℕ = c.self.inside.end in
    let i : ℕ = c.in-Some.i in
    let pending : List ℕ → List ℕ = λ xs. take (end - start) (drop start xs) in
    let piece : List ℕ = c.self.inside.piece.items in
    let bytes : List ℕ = pending c.deref.result.now in
    let after : At = record {
      number = c.self.inside.number + 1;
      read = c.self.inside.read;
      pending = take (end - (start + (i + 1))) (drop (start + (i + 1)) piece);
      state = c.self.inside.state;
    }
    in
    λ text part.
    let P : At → Type 0 = λ at. MovesLine at text after c.add.new.self in
    subst P c.self.view_is
    (moves_line piece bytes text start end i c.self.inside.read c.self.inside.number c.self.inside.state c.add.new.self (ap pending c.deref.ensures.value) c.self.invariant.begins c.in-Some.ensures (c.in_ok-add-in-Some.ensures text part c.in-Some.ensures.no_lf))
