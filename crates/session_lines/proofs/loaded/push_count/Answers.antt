use Rattle.std.proofs.Common.{◌≡◌, ◌++◌, ◌∷◌, [], Ok}
use Rattle.session_lines.specs.Replies.{count_data}
use Rattle.session_lines.proofs.Loading.{pushed-member}
use Rattle.session_lines.proofs.loaded.push_count.Goals as goal

pub returns : goal.returns
returns c =
    let starts : c.new-writer.result.before ≡ c.args.out.now.items ++ 44 ∷ [] = cc (c.new-writer.ensures.before, c.replace.ensures.value, c.in_ok-push.ensures.items) in
    pushed-member (Ok c.in_ok-put_count.field-0) c.args.out.now.items c.new-writer.result c.put_count.new.out c.args.name.now (count_data c.args.count) c.into_inner.result.items
    c.new-writer.ensures.tokens starts c.in_ok-put_count.ensures c.into_inner.ensures.items
