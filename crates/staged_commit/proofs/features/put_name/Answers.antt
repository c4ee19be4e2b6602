use Rattle.std.proofs.Common.{Bor, Bool, ◌≡◌, ◌≤◌, List, ℕ, length, map, true, false, ap, ap₂, sym, ◌∙◌, insert, not, arith}
use Rattle.std.specs.List.{position_or_len}
use Rattle.std.proofs.lemmas.List.Sums.{prefix_len-le-length}
use Rattle.staged_commit.specs.Places.{is_not_before, stands_at}
use Rattle.staged_commit.proofs.Putting.{leave-name, put-name}
use Rattle.staged_commit.proofs.features.put_name.Goals as goal

pub insert-requires : goal.insert-requires
insert-requires c =
    let p : Bor (List ℕ) → Bool = λ n. is_not_before c.args.name.now n.now in
    let within : position_or_len p c.as_slice.result.now ≤ length c.as_slice.result.now = prefix_len-le-length (λ x. not (p x)) c.as_slice.result.now in
    omega (arith, within, c.place_of-place.ensures, c.as_slice.ensures.len)

pub returns-then-stands_at : goal.returns-then-stands_at
returns-then-stands_at c =
    let f : Bor (List ℕ) → List ℕ = λ n. n.now in
    let p : Bor (List ℕ) → Bool = λ n. is_not_before c.args.name.now n.now in
    let ys = c.args.list.now.items in
    let place : c.place_of-place.result ≡ position_or_len p ys = c.place_of-place.ensures ∙ ap (position_or_len p) c.as_slice.ensures.value in
    let there : stands_at c.args.name.now (map f ys) (position_or_len p ys) ≡ true =
    ap₂ (λ l n. stands_at c.args.name.now (map f l) n) (sym c.as_slice-2.ensures.value) (sym place) ∙ sym c.stands_at.ensures ∙ c.if-stands_at.true in
    leave-name f c.args.name ys there

pub returns : goal.returns
returns c =
    let f : Bor (List ℕ) → List ℕ = λ n. n.now in
    let p : Bor (List ℕ) → Bool = λ n. is_not_before c.args.name.now n.now in
    let ys = c.args.list.now.items in
    let place : c.place_of-place.result ≡ position_or_len p ys = c.place_of-place.ensures ∙ ap (position_or_len p) c.as_slice.ensures.value in
    let absent : stands_at c.args.name.now (map f ys) (position_or_len p ys) ≡ false =
    ap₂ (λ l n. stands_at c.args.name.now (map f l) n) (sym c.as_slice-2.ensures.value) (sym place) ∙ sym c.stands_at.ensures ∙ c.if-stands_at.false in
    ap (map f) c.in_ok-insert.ensures.items ∙ ap (λ n. map f (insert ys n c.args.name)) place ∙ put-name f c.args.name ys absent
