use Rattle.std.proofs.Common.{ap}
use Rattle.reconcile.specs.declared.state.State.{State}
use Rattle.reconcile.proofs.Listing.{one_state}
use Rattle.session_lines.specs.declared.reply.Reply.TheVariants as reply
use Rattle.session_lines.specs.Replies.{reply_text_of}
use Rattle.table_session.proofs.laws.loaded_replies_of_a_log_have_one_text.Goals as goal

pub returns : goal.returns
returns c = λ s t u log h g. ap (λ (v : State). reply_text_of (reply.Loaded (record s { state = v }))) (one_state t u log h g)
