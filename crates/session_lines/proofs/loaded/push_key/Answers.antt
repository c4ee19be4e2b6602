use Rattle.std.proofs.Common.{◌≡◌}
use Rattle.session_lines.proofs.Loading.{pushed-key}
use Rattle.session_lines.proofs.loaded.push_key.Goals as goal

pub returns : goal.returns
returns c =
    let starts : c.new-writer.result.before ≡ c.args.out.now.items = cc (c.new-writer.ensures.before, c.replace.ensures.value) in
    pushed-key c.args.out.now.items c.new-writer.result c.key.new.self c.args.name.now c.into_inner.result.items
    c.new-writer.ensures.tokens starts c.in_ok-key.ensures.ok c.in_ok-key.ensures.room.0 c.into_inner.ensures.items
