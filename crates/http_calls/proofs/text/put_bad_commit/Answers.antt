use Rattle.std.proofs.Common.{List, [], codes, ap, ◌++◌, append-nil, refl}
use Rattle.json.specs.Token.{Token}
use Rattle.action_fields.specs.Tokens.{field_tokens}
use Rattle.action_fields.proofs.Tokens.{puts_then}
use Rattle.http_calls.specs.Answers.{counted, said}
use Rattle.http_calls.proofs.text.put_bad_commit.Goals as goal

pub returns : goal.returns
returns c =
    let error : List Token = field_tokens (codes "error") (said (codes "badCommit")) in
    let line : List Token = field_tokens (codes "line") (counted c.args.line) in
    let why : List Token = field_tokens (codes "why") (said c.args.why.now) in
    let rest = puts_then c.put_text-2.result c.put_text.new.out c.put_count.new.out c.put_text-2.new.out line why (line ++ why)
    c.in_ok-put_count.ensures.ok c.in_ok-put_count.ensures.before c.put_text-2.ensures refl in
    puts_then c.put_text-2.result c.args.out.now c.put_text.new.out c.put_text-2.new.out error (line ++ why) (error ++ (line ++ (why ++ [])))
    c.in_ok-put_text.ensures.ok c.in_ok-put_text.ensures.before rest (ap (λ l. error ++ (line ++ l)) (append-nil why))
