use Rattle.std.proofs.Common.{◌≡◌, ◌≢◌, length, sym, ap, ◌∙◌, option_and_then}
use Rattle.action_json.specs.Lines.{member_of}
use Rattle.action_json.proofs.Members.{member_of-many, member_of-one}
use Rattle.action_json.proofs.line.only_member.Goals as goal

pub returns-then-len-ne1 : goal.returns-then-len-ne1
returns-then-len-ne1 c =
    let many : length c.in_ok-members.members.now.entries ≢ 1 = λ e. c.if-len-ne1.true (c.len.ensures.len ∙ e) in
    sym (ap (option_and_then member_of) (sym c.in_ok-members.ensures) ∙ member_of-many _ many)

pub returns : goal.returns
returns c =
    let one : length c.in_ok-members.members.now.entries ≡ 1 = sym c.len.ensures.len ∙ c.if-len-ne1.false in
    sym (ap (option_and_then member_of) (sym c.in_ok-members.ensures) ∙ member_of-one _ (c.in_ok-name.name.now, c.in_ok-name.body.now) one c.in_ok-name.ensures.first)
