-- The requests of a script, each by what was asked for before it.
use Rattle.std.specs.Prelude.{ℕ, zero, suc, ◌+◌, ◌%◌, ◌==◌, nat_lt, Bool, true, false, not, List, [], ◌∷◌, ◌++◌, Option, Some, None, if◌then◌else◌}
use Rattle.std.specs.List.{filter, fold, count_by}
use Rattle.table_maker.specs.Draws.{state_after, next_state, drawn}
use Rattle.table_maker.specs.declared.request.Write.{Write}
use Rattle.table_maker.specs.declared.request.Write.TheVariants.{Add, Remove}
use Rattle.table_maker.specs.declared.request.Request.{Request}
use Rattle.table_maker.specs.declared.request.Request.TheVariants.{New, Again, Publish}

-- the live files after one request more: an add makes its file live, and a remove ends that
abbrev pub with_request : List ℕ → Request → List ℕ
with_request files (New (Add file size number)) = files ++ file ∷ []
with_request files (New (Remove file number)) = filter (λ f. not (f == file)) files
with_request files (Again write) = files
with_request files Publish = files

-- the live files after some requests, in the order of adding
abbrev pub live_files : List Request → List ℕ
live_files before = fold with_request [] before

abbrev pub write_after : Option Write → Request → Option Write
write_after last (New write) = Some write
write_after last (Again write) = Some write
write_after last Publish = last

-- the last write that was asked for, new or again
abbrev pub last_write : List Request → Option Write
last_write before = fold write_after None before

abbrev pub is_new : Request → Bool
is_new (New write) = true
is_new (Again write) = false
is_new Publish = false

-- how many writes were asked for, each counted once
abbrev pub write_count : List Request → ℕ
write_count before = count_by is_new before

-- a remove of the live file that was added first, or, where no file is live, another request
abbrev pub remove_first : List ℕ → ℕ → Request → Request
remove_first [] number other = other
remove_first (file ∷ files) number other = New (Remove file number)

-- the last write again, or, where there is none, another request
abbrev pub again : Option Write → Request → Request
again None other = other
again (Some write) other = Again write

-- The k-th request after some others, by the draw d: of eight draws five add the file k, one removes, one asks again, one publishes.
abbrev pub request_by : ℕ → List Request → Request → Request
request_by c before add =
    if nat_lt c 5 then add
    else (if c == 5 then remove_first (live_files before) (write_count before + 1) add
    else (if c == 6 then again (last_write before) add else Publish))

abbrev pub next_request : List Request → ℕ → ℕ → Request
next_request before k d = request_by (d % 8) before (New (Add k d (write_count before + 1)))

-- the first requests of the script of a number, each by its own draw
unfoldable pub requests : ℕ → ℕ → List Request
requests number zero = []
requests number (suc k) =
    let before = requests number k in before ++ next_request before (k + 1) (drawn (next_state (state_after number k))) ∷ []
