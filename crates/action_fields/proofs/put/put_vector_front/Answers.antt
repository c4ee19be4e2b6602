use Rattle.std.proofs.Common.{append-nil, rules, arith, to_z-of_z}
use Rattle.action_fields.proofs.Tokens.{puts_then}
use Rattle.action_fields.proofs.put.put_vector_front.Goals as goal

pub returns-clause-puts : goal.returns-clause-puts
returns-clause-puts c =
    puts_then c.put_optional_integer.result c.args.out.now c.put_integer.new.out c.put_optional_integer.new.out _ _ _ c.in_ok-put_integer.ensures.puts.ok c.put_integer.ensures.puts.before
    c.put_optional_integer.ensures.puts (simp append-nil (first_of (search rules, grind (arith, to_z-of_z))))
