use Rattle.std.proofs.Common.{◌≤◌, length, arith, eqb-true}
use Rattle.action_json.proofs.Cuts.{no_lf_before, cut_at, cut_whole}
use Rattle.action_json.proofs.reading.first_line.Goals as goal

pub returns-in-None-clause-cut : goal.returns-in-None-clause-cut
returns-in-None-clause-cut c = cut_whole c.args.text.now c.requires (no_lf_before c.args.text.now (length c.args.text.now) (omega arith) (λ k h. c.in-None.ensures k (omega arith) h))

pub returns-in-Some-clause-cut : goal.returns-in-Some-clause-cut
returns-in-Some-clause-cut c =
    let within : c.in-Some.end ≤ length c.args.text.now = omega (arith, c.in-Some.ensures.0.high) in
    cut_at c.args.text.now c.in-Some.end c.in-Some.ensures.0.high (eqb-true _ _ c.in-Some.ensures.1) (no_lf_before c.args.text.now c.in-Some.end within (λ k h. c.in-Some.ensures.0.before k (omega arith) h))
