-- That a ratification has one answer only.
use Rattle.std.proofs.Common.{◌≡◌, ℕ, arith, ap}
use Rattle.commit_catalog.specs.declared.Ratify.TheVariants.{Done, Lost, Full, Backlog}
use Rattle.commit_catalog.specs.Ratifying.{HasOneAnswer}

pub one_answer : HasOneAnswer
one_answer limits count published version (Lost x) (Lost y) p q = ap (λ (n : ℕ). Lost n) (omega arith)
one_answer limits count published version (Full x) (Full y) p q = ap (λ (n : ℕ). Full n) (omega arith)
one_answer limits count published version (Backlog x r) (Backlog y s) p q =
    let same_latest : x ≡ y = omega arith in
    let same_reported : r ≡ s = omega arith in
    cc
one_answer limits count published version Done Done p q = cc
one_answer limits count published version (Lost x) (Full y) p q = absurd (omega arith)
one_answer limits count published version (Lost x) (Backlog y s) p q = absurd (omega arith)
one_answer limits count published version (Lost x) Done p q = absurd (omega arith)
one_answer limits count published version (Full x) (Lost y) p q = absurd (omega arith)
one_answer limits count published version (Full x) (Backlog y s) p q = absurd (omega arith)
one_answer limits count published version (Full x) Done p q = absurd (omega arith)
one_answer limits count published version (Backlog x r) (Lost y) p q = absurd (omega arith)
one_answer limits count published version (Backlog x r) (Full y) p q = absurd (omega arith)
one_answer limits count published version (Backlog x r) Done p q = absurd (omega arith)
one_answer limits count published version Done (Lost y) p q = absurd (omega arith)
one_answer limits count published version Done (Full y) p q = absurd (omega arith)
one_answer limits count published version Done (Backlog y s) p q = absurd (omega arith)
