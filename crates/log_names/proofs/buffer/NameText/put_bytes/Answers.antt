use Rattle.std.proofs.Common.{◌≡◌, ◌+◌, ◌≤◌, length, take, arith}
use Rattle.std.proofs.lemmas.List.{length-take-le}
use Rattle.std.proofs.lemmas.Str.{IsUtf8-append}
use Rattle.log_names.proofs.buffer.NameText.put_bytes.Goals as goal

pub invariant_of-self : goal.invariant_of-self
invariant_of-self c =
    let within : c.self.inside.len ≤ length c.self.inside.bytes = omega arith in
    let long : length (take c.self.inside.len c.self.inside.bytes) ≡ c.self.inside.len = length-take-le c.self.inside.len c.self.inside.bytes within in
    let room : length (take c.self.inside.len c.self.inside.bytes) + length c.args.part.now ≤ 78 = rw (← c.self.view_is) at c.requires.room in
    (omega (arith, long, room), rw c.write_at.ensures (IsUtf8-append _ _ c.self.invariant.1 c.requires.text))
