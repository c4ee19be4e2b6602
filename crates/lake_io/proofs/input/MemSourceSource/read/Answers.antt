use Rattle.std.proofs.Common.{◌≡◌, ◌+◌, ◌-◌, ◌≤◌, ◌<◌, ℕ, true, List, ◌++◌, length, take, drop, ap, ◌∙◌, subst, arith, length-drop, vec_len}
use Rattle.std.proofs.lemmas.List.{take_rest}
use Rattle.lake_io.specs.Memory.{SourceData}
use Rattle.lake_io.specs.Told.{Reads}
use Rattle.lake_io.proofs.Pieces.{mem-reads}
use Rattle.lake_io.proofs.input.MemSourceSource.read.Goals as goal

pub returns-clause-gives : goal.returns-clause-gives
returns-clause-gives c =
    let items : List ℕ = c.self.inside.bytes.items in
    let at : ℕ = c.self.inside.at in
    let n : ℕ = c.least-n.result in
    let into : List ℕ = c.args.into.now in
    let front : List ℕ = c.copy_from_slice.new.self in
    let left : take (length c.deref.result.now - at) (drop at c.deref.result.now) ≡ drop at items =
    ap (λ (xs : List ℕ). take (length xs - at) (drop at xs)) c.deref.ensures.value ∙ take_rest items at
    in
    let e : front ≡ take n (drop at items) = c.copy_from_slice.ensures.after ∙ ap (take n) left in
    let long : length (take (length c.deref.result.now - at) (drop at c.deref.result.now)) ≡ length items - at = ap length left ∙ length-drop at items in
    let len : vec_len c.self.inside.bytes ≡ length items = c.self.inside.bytes.ok.0 in
    let some : 0 < c.self.inside.piece = c.self.invariant.1 in
    let within : at ≤ vec_len c.self.inside.bytes = c.self.invariant.0 in
    let room : 0 < length into = c.requires in
    let P : SourceData → Type 0 = λ s. Reads true s.taken s.left (front ++ drop n into) n (take (at + n) items) (drop (at + n) items) in
    subst P c.self.view_is
    (mem-reads items into front at n (omega arith) (omega arith) e (λ z. omega arith))
