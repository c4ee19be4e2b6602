-- The head is written, and then the body.
use Rattle.std.proofs.Common.{◌≡◌, ℕ, List, [], ◌++◌, length, ◌∙◌, ap, subst}
use Rattle.std.proofs.lemmas.Result.{err_from_is_err_and}
use Rattle.lake_io.specs.Told.{WritesSome, told}
use Rattle.http_wire.specs.Responses.{status_line, header_lines, head_end}
use Rattle.http_wire.proofs.Putting.{three, puts_first, puts_second}
use Rattle.http_wire.proofs.response.put_response.Goals as goal

pub returns-in_err-put_all-clause-puts : goal.returns-in_err-put_all-clause-puts
returns-in_err-put_all-clause-puts g c =
    let p = err_from_is_err_and c.from_residual.result c.from_residual.ensures.1 in
    let head : List ℕ = status_line c.args.status ++ header_lines c.args.json (length c.args.body.now) ++ head_end c.args.close in
    let head_is : c.as_bytes.result.now ≡ head =
    c.as_bytes.ensures.value ∙ c.as_str.ensures.value
    ∙ three [] _ _ _ _ _ _ (c.push_status_line.ensures.bytes ∙ ap (λ (t : List ℕ). t ++ status_line c.args.status) c.new-head.ensures)
    c.push_header_lines.ensures.bytes (c.push_str.ensures.bytes ∙ ap (λ (t : List ℕ). c.push_header_lines.new.head.bytes ++ t) c.end_of.ensures.text) in
    rw p.1
    (puts_first g.O.Sink.tells _ head c.args.body.now _ (subst (λ (h : List ℕ). WritesSome g.O.Sink.tells (g.O.Sink.written c.args.sink.now) h (g.O.Sink.written c.put_all.new.sink)) head_is c.in_err-put_all.ensures.puts))

pub returns-clause-puts : goal.returns-clause-puts
returns-clause-puts g c =
    let head : List ℕ = status_line c.args.status ++ header_lines c.args.json (length c.args.body.now) ++ head_end c.args.close in
    let head_is : c.as_bytes.result.now ≡ head =
    c.as_bytes.ensures.value ∙ c.as_str.ensures.value
    ∙ three [] _ _ _ _ _ _ (c.push_status_line.ensures.bytes ∙ ap (λ (t : List ℕ). t ++ status_line c.args.status) c.new-head.ensures)
    c.push_header_lines.ensures.bytes (c.push_str.ensures.bytes ∙ ap (λ (t : List ℕ). c.push_header_lines.new.head.bytes ++ t) c.end_of.ensures.text) in
    puts_second g.O.Sink.tells _ head c.args.body.now _ _ c.put_all-2.result
    (c.in_ok-put_all.ensures.puts ∙ ap (λ (h : List ℕ). g.O.Sink.written c.args.sink.now ++ told g.O.Sink.tells h) head_is) c.put_all-2.ensures.puts
