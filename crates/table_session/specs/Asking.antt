-- The lines of an input that get a reply, and what each asks for.
use Rattle.std.specs.Prelude.{ℕ, ◌&&◌, Bool, not, nat_le, List, length, filter, if◌then◌else◌, Result, Err}
use Rattle.text_lines.specs.Lines.{Numbered, numbered_from, is_blank}
use Rattle.lake_io.specs.Reading.{line_limit}
use Rattle.session_lines.specs.declared.request.Request.{Request}
use Rattle.session_lines.specs.declared.fault.LineWhy.{LineWhy}
use Rattle.session_lines.specs.declared.fault.LineWhy.TheVariants as why
use Rattle.session_lines.specs.Requests.{request_of}

abbrev pub is_within_limit : List ℕ → Bool
is_within_limit text = nat_le (length text) line_limit

-- a line is passed over where it is white space alone and no longer than a line may be
abbrev pub gets_reply : Numbered → Bool
gets_reply line = not (is_within_limit line.text && is_blank line.text)

-- the lines that get a reply; all lines are counted, from 1
abbrev pub lines_asking : List (List ℕ) → List Numbered
lines_asking lines = filter gets_reply (numbered_from 1 lines)

-- what a line asks for, or the first reason why it is no request
abbrev pub asked_by : Numbered → Result Request LineWhy
asked_by line = if is_within_limit line.text then request_of line.text else Err why.TooLong
