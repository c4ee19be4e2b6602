use Rattle.std.proofs.Common.{◌∙◌, ◌++◌, map, length, ap, sym, arith}
use Rattle.reconcile.specs.ByFile.{in_file_order}
use Rattle.reconcile.specs.Left.{given_left, files_left}
use Rattle.reconcile.proofs.Walking.{files_left-opened, fewer_marked, files_left-plain, along}
use Rattle.reconcile.proofs.merge.FilesLeft.next.Goals as goal

pub returns-in-Some : goal.returns-in-Some
returns-in-Some g c =
    sym c.loop-value.invariant
    ∙ ap (λ vs. vs ++ map (λ e. e.1) (in_file_order c.loop-value.self.plain c.loop-value.self.marked)) c.in-Some.ensures

pub returns-then-not-is_marked_next : goal.returns-then-not-is_marked_next
returns-then-not-is_marked_next g c =
    let plain = c.loop-value.self.plain in
    let marked = c.loop-value.self.marked in
    let given = given_left c.next_given.new.given in
    along c.take.result _ (files_left given plain marked) (files_left given c.take.new.self marked)
    (sym c.loop-value.invariant ∙ (λ i. files_left ((c.in_default.ensures.0 ∙ sym c.in_default.ensures.1) i) plain marked))
    (files_left-plain given plain c.take.new.self marked c.take.result c.in_default.ensures.1 (sym c.if-not-is_marked_next.ensures) c.take.ensures.value c.take.ensures.rest)

pub loop-value-smaller : goal.loop-value-smaller
loop-value-smaller g c =
    let few = fewer_marked c.loop-value.self.plain c.loop-value.self.marked (sym c.if-not-is_marked_next.ensures) in
    let same = ap length c.open_marked.ensures.marked in
    omega arith

pub loop-value-preserved : goal.loop-value-preserved
loop-value-preserved g c =
    let plain = c.loop-value.self.plain in
    let marked = c.loop-value.self.marked in
    (λ i. files_left (c.open_marked.ensures.given i) (c.open_marked.ensures.plain i) (c.open_marked.ensures.marked i))
    ∙ sym (files_left-opened (given_left c.next_given.new.given) plain marked c.in_default.ensures.1 (sym c.if-not-is_marked_next.ensures))
    ∙ (λ i. files_left ((c.in_default.ensures.1 ∙ sym c.in_default.ensures.0) i) plain marked)
    ∙ c.loop-value.invariant
