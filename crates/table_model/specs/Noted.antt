-- What the notes of a caller say that it knows.
use Rattle.std.specs.Prelude.{ℕ, List, [], ◌∷◌, ◌++◌, take, Some}
use Rattle.table_model.specs.World.{WorldData, log_of}
use Rattle.table_model.specs.Knowledge.{Knowledge, newcomer}
use Rattle.table_model.specs.Holding.{terms_of}
use Rattle.table_model.specs.Learned.{list_learned, stage_learned, publish_learned, clear_learned}
use Rattle.table_model.specs.Noting.{commits_noted, lookup_noted, get_noted, ratify_noted, report_noted}
use Rattle.table_model.specs.Sharing.{split_known, both_known}
use Rattle.table_model.specs.declared.text.Text.{Text, End, Longer'}
use Rattle.table_model.specs.declared.told.Told.{Told}
use Rattle.table_model.specs.declared.told.Told as told
use Rattle.table_model.specs.declared.notes.Notes.{Notes}

abbrev pub bytes_of : Text → List ℕ
bytes_of End = []
bytes_of (Longer' m front last) = bytes_of front ++ last.value ∷ []

-- turn by turn, all but the terms and what was seen
abbrev pub noted_of : Told → Knowledge
noted_of told.Nothing = newcomer
noted_of (told.Commits' m past reported) = commits_noted reported (noted_of past)
noted_of (told.Looked' m past) = lookup_noted (noted_of past)
noted_of (told.Listed' m past answer) = list_learned (noted_of past) answer.value
noted_of (told.Got' m past name answer is_seen) = get_noted name is_seen (noted_of past) answer.value
noted_of (told.Staged' m past version id text answer) = stage_learned version id (bytes_of text) (noted_of past) answer
noted_of (told.Ratified' m past version seen answer) = ratify_noted version seen answer (noted_of past)
noted_of (told.Published' m past version answer) = publish_learned version (noted_of past) answer
noted_of (told.Reported' m past answer) = report_noted answer (noted_of past)
noted_of (told.Cleared' m past version id answer) = clear_learned version id (noted_of past) answer
noted_of (told.Split' m past) = split_known (noted_of past)
noted_of (told.Joined' m past n other) = both_known (noted_of past) (noted_of other)

abbrev pub noted : Notes → Knowledge
noted n = noted_of n.told

-- what the caller knows in a world: the seen commits are the front of its log
abbrev pub known_with : Knowledge → ℕ → WorldData → Knowledge
known_with k seen w = record k { terms = Some (terms_of w); seen = take seen (log_of w) }

abbrev pub known_of : WorldData → Notes → Knowledge
known_of w n = known_with (noted n) n.seen w
