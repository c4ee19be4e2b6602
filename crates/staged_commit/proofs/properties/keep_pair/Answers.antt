use Rattle.std.proofs.Common.{Bor, Bool, ◌≡◌, ◌≤◌, length, map, true, false, ap, ap₂, sym, ◌∙◌, insert, not, arith}
use Rattle.std.specs.List.{position_or_len}
use Rattle.std.proofs.lemmas.List.Sums.{prefix_len-le-length}
use Rattle.action_fields.specs.Types.{Pair}
use Rattle.staged_commit.specs.Places.{is_not_before, pair_stands_at}
use Rattle.staged_commit.proofs.Putting.{keep-new, keep-old}
use Rattle.staged_commit.proofs.properties.keep_pair.Goals as goal

pub insert-requires : goal.insert-requires
insert-requires c =
    let p : Bor Pair → Bool = λ q. is_not_before c.args.pair.now.0 q.now.0 in
    let within : position_or_len p c.as_slice.result.now ≤ length c.as_slice.result.now = prefix_len-le-length (λ x. not (p x)) c.as_slice.result.now in
    omega (arith, within, c.place_of-place.ensures, c.as_slice.ensures.len)

pub returns : goal.returns
returns c =
    let f : Bor Pair → Pair = λ q. q.now in
    let p : Bor Pair → Bool = λ q. is_not_before c.args.pair.now.0 q.now.0 in
    let ys = c.args.list.now.items in
    let place : c.place_of-place.result ≡ position_or_len p ys = c.place_of-place.ensures ∙ ap (position_or_len p) c.as_slice.ensures.value in
    let absent : pair_stands_at c.args.pair.now.0 (map f ys) (position_or_len p ys) ≡ false =
    ap₂ (λ l n. pair_stands_at c.args.pair.now.0 (map f l) n) (sym c.as_slice-2.ensures.value) (sym place) ∙ sym c.stands_at.ensures ∙ c.if-stands_at.false in
    ap (map f) c.in_ok-insert.ensures.items ∙ ap (λ n. map f (insert ys n c.args.pair)) place ∙ keep-new f c.args.pair ys absent

pub returns-then-stands_at : goal.returns-then-stands_at
returns-then-stands_at c =
    let f : Bor Pair → Pair = λ q. q.now in
    let p : Bor Pair → Bool = λ q. is_not_before c.args.pair.now.0 q.now.0 in
    let ys = c.args.list.now.items in
    let place : c.place_of-place.result ≡ position_or_len p ys = c.place_of-place.ensures ∙ ap (position_or_len p) c.as_slice.ensures.value in
    let there : pair_stands_at c.args.pair.now.0 (map f ys) (position_or_len p ys) ≡ true =
    ap₂ (λ l n. pair_stands_at c.args.pair.now.0 (map f l) n) (sym c.as_slice-2.ensures.value) (sym place) ∙ sym c.stands_at.ensures ∙ c.if-stands_at.true in
    keep-old f c.args.pair ys there
