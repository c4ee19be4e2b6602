use Rattle.std.proofs.Common.{ℕ, nat_eq, sym, ap, ◌∙◌}
use Rattle.http_calls.specs.Bodies.{counts, has_members}
use Rattle.http_calls.proofs.Members.{count_of-entries}
use Rattle.http_calls.proofs.body.has_members.Goals as goal

pub returns-in-Some : goal.returns-in-Some
unfolding has_members
returns-in-Some c =
    ap (λ (n : ℕ). nat_eq n c.args.count) (c.len.ensures.len ∙ sym (count_of-entries c.in-Some.members.now.entries))
    ∙ ap (counts c.args.count) c.in-Some.ensures
