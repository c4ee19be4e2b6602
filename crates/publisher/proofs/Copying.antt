-- Publishing version after version: what stays.
use Rattle.std.proofs.Common.{◌≡◌, ◌≤◌, ◌+◌, ◌-◌, ◌*◌, ℕ, ◌∙◌, ap, subst, arith, length}
use Rattle.table_model.specs.Knowledge.{Knowledge}
use Rattle.publisher.specs.Publishing.{OnlyCopies, KeepsBelow}
use Rattle.publisher.proofs.Keeping.{keeps_both}

copies_more : (n p : ℕ) (j k m : Knowledge) → OnlyCopies n j k → OnlyCopies p k m → OnlyCopies (n + p) j m
copies_more n p j k m g h = record {
  same = h.same ∙ ap (λ (x : Knowledge). let y : Knowledge = record x { published = m.published; kept = m.kept; absents = m.absents; gets = m.gets; failed = m.failed; faults = m.faults } in y) g.same;
  gets = omega (arith, g.gets, h.gets);
}

-- one version more
pub copies_version : (from version : ℕ) (j k m : Knowledge) → from ≤ version → OnlyCopies (2 * (version - from)) j k → OnlyCopies 2 k m → OnlyCopies (2 * (version + 1 - from)) j m
copies_version from version j k m less g h =
    subst (λ (x : ℕ). OnlyCopies x j m) (let e : 2 * (version - from) + 2 ≡ 2 * (version + 1 - from) = omega (arith, less) in e)
    (copies_more (2 * (version - from)) 2 j k m g h)

-- at most as many
pub copies_within : (n p : ℕ) (j k : Knowledge) → n ≤ p → OnlyCopies n j k → OnlyCopies p j k
copies_within n p j k less g = record { same = g.same; gets = omega (arith, g.gets, less) }

-- and which staged files became known
pub copies_keep : (n : ℕ) (j k m : Knowledge) → OnlyCopies n j k → KeepsBelow (length j.seen) j k → KeepsBelow (length k.seen) k m → KeepsBelow (length j.seen) j m
copies_keep n j k m g h i =
    let seen : length k.seen ≡ length j.seen = ap (λ (x : Knowledge). length x.seen) g.same in
    keeps_both (length j.seen) (length j.seen) j k m (omega arith) h (subst (λ (count : ℕ). KeepsBelow count k m) seen i)
