use Rattle.std.proofs.Common.{Bor, Bool, ◌≤◌, ◌∙◌, length, map, not, ap, arith}
use Rattle.std.specs.List.{insert, position_or_len}
use Rattle.std.proofs.lemmas.List.Sums.{prefix_len-le-length}
use Rattle.action_types.specs.declared.actions.Add.{Add}
use Rattle.action_types.specs.Files.{file_of_add}
use Rattle.staged_commit.specs.Adds.{is_after}
use Rattle.staged_commit.proofs.InOrder.{put-with_add}
use Rattle.staged_commit.proofs.append.put.Goals as goal

pub insert-requires : goal.insert-requires
insert-requires c =
    let p : Bor Add → Bool = λ a. is_after (file_of_add c.args.add.now) a.now in
    let within : position_or_len p c.as_slice.result.now ≤ length c.as_slice.result.now = prefix_len-le-length (λ x. not (p x)) c.as_slice.result.now in
    omega (arith, within, c.place_of.ensures, c.as_slice.ensures.len)

pub returns : goal.returns
returns c =
    let now : Bor Add → Add = λ a. a.now in
    let place = c.place_of.ensures ∙ ap (position_or_len (λ (a : Bor Add). is_after (file_of_add c.args.add.now) a.now)) c.as_slice.ensures.value in
    ap (map now) c.in_ok-insert.ensures.items ∙ ap (λ n. map now (insert c.args.list.now.items n c.args.add)) place ∙ put-with_add now c.args.add c.args.list.now.items
