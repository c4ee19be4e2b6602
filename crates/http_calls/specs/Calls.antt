-- The call that a request asks for, or the first reason why it asks for none.
use Rattle.std.specs.Prelude.{ℕ, List, Option, Some, None, Result, Ok, Err, bytes_eq, if◌then◌else◌}
use Rattle.percent_encoding.specs.Percent.{percent_decode}
use Rattle.action_fields.specs.Gives.{◌>>=◌}
use Rattle.http_wire.specs.declared.request.Request.{Request}
use Rattle.http_calls.specs.Bodies.{posted}
use Rattle.http_calls.specs.Targets.{Target, asked_by, target_of}
use Rattle.http_calls.specs.declared.call.BadCall.{BadCall}
use Rattle.http_calls.specs.declared.call.BadCall.TheVariants as bad
use Rattle.http_calls.specs.declared.call.Call.{Call}
use Rattle.http_calls.specs.declared.call.Call.TheVariants as call
use Rattle.http_calls.specs.declared.call.Refusal.{Refusal}
use Rattle.http_calls.specs.declared.call.Refusal.TheVariants as refusal
use Rattle.http_calls.specs.declared.target.Asked.{Asked}
use Rattle.http_calls.specs.declared.target.Asked.TheVariants as asked

-- the reason that an error names; none for want of memory
abbrev pub told : BadCall → Option Refusal
told (bad.Refused why) = Some why
told bad.Memory = None

abbrev pub or_refusal : {A : Type 0} → Refusal → Option A → Result A Refusal
or_refusal why None = Err why
or_refusal why (Some a) = Ok a

abbrev pub call_with : Asked → List ℕ → Result Call Refusal
call_with asked.Commits body = Ok call.Commits
call_with asked.Post body = or_refusal refusal.Body (posted body)
call_with (asked.Stage version id) body = Ok (call.Stage version id body)
call_with (asked.Publish version) body = Ok (call.Publish version body)
call_with (asked.Get name) body = Ok (call.Get name)

-- the segment of the table is decoded before it is compared
unfoldable pub in_table : List ℕ → List ℕ → Asked → List ℕ → Result Call Refusal
in_table table id asked body =
    if bytes_eq (percent_decode id) table then call_with asked body else Err refusal.Table

unfoldable pub at_target : List ℕ → Target → List ℕ → List ℕ → Result Call Refusal
at_target table target method body = do
  asked ← or_refusal refusal.Method (asked_by target.place method)
  in_table table target.id asked body

-- the server has one table, of this name
unfoldable pub call_of : List ℕ → Request → Result Call Refusal
call_of table request = do
  target ← or_refusal refusal.Target (target_of request.target)
  at_target table target request.method request.body.items
