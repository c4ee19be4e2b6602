-- A session is a list of moments: a line that asks for something, the reply to it, and what stood after it.
use Rattle.std.specs.Prelude.{ℕ, ℤ, List, map, flat_map}
use Rattle.text_lines.specs.Lines.{Numbered}
use Rattle.session_lines.specs.declared.reply.Reply.{Reply}
use Rattle.session_lines.specs.Replies.{reply_text_of}
use Rattle.table_model.specs.Knowledge.{Knowledge}
use Rattle.answer_names.specs.Names.{Names, Answer, answer, names_of}
use Rattle.table_session.specs.Naming.{named_by}

pub record Moment : Type 0 where
  pub line : Numbered
  pub reply : Reply
  -- what the caller knew, the clock's last reading and the last id that was given
  pub after : Knowledge
  pub reading : ℤ
  pub last : ℕ

abbrev pub lines_of : List Moment → List Numbered
lines_of moments = map (λ x. x.line) moments

-- the texts of the replies, one after another
abbrev pub texts_of : List Moment → List ℕ
texts_of moments = flat_map (λ x. reply_text_of x.reply) moments

-- the replies by what they name
abbrev pub answers_of : List Moment → List Answer
answers_of moments = map (λ x. answer (named_by x.reply) x.after) moments

abbrev pub names_in : List Moment → List Names
names_in moments = names_of (answers_of moments)

abbrev pub moment : Numbered → Reply → Knowledge → ℤ → ℕ → Moment
moment line reply after reading last = record { line = line; reply = reply; after = after; reading = reading; last = last }
