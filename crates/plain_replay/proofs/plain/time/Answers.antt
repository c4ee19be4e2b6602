use Rattle.std.proofs.Common.{◌∙◌, ap, sym}
use Rattle.std.specs.Prelude.{Some, None, option_and_then}
use Rattle.reconcile.specs.Replay.{last_said, time_said}
use Rattle.plain_replay.specs.declared.plain.Asked.TheVariants as asked
use Rattle.plain_replay.proofs.Searching.{passes, time_searched}
use Rattle.plain_replay.proofs.plain.time.Goals as goal

pub returns-in-Some : goal.returns-in-Some
returns-in-Some c =
    c.as_time.ensures ∙ ap (option_and_then time_said) (c.last_in.ensures ∙ ap (last_said (passes asked.Time)) c.as_slice.ensures.value)
    ∙ sym (time_searched c.args.commits.now (Some c.in-Some.commit.now) c.in-Some.ensures.value)

pub returns-in-None : goal.returns-in-None
returns-in-None c = sym (time_searched c.args.commits.now None c.in-None.ensures.value)
