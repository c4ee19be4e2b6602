-- The reading of a commit's bytes, line by line, with the first fault that is met; and which lists of actions are commits.
use Rattle.std.specs.Prelude.{◌≡◌, ℕ, ◌+◌, Bool, true, false, List, [], ◌∷◌, ◌++◌, ◌&&◌, not, is_some, bytes_eq, flat_map, Option, Some, None, Result, Ok, Err, if◌then◌else◌}
use Rattle.std.specs.List.{AllByRecursion, list_any}
use Rattle.std.specs.Str.{is_utf8}
use Rattle.std.specs.Result.{result_ok, result_err}
use Rattle.text_lines.specs.Lines.{cut, with_lf}
use Rattle.action_types.specs.declared.actions.Action.{Action}
use Rattle.action_types.specs.declared.actions.Action.TheVariants as action
use Rattle.action_types.specs.Files.{File, file_of_add, file_of_remove, same_file}
use Rattle.action_fields.specs.Canonical.{kind_of, canonical_line}
use Rattle.action_fields.specs.Fits.{HasFittingFields}
use Rattle.action_fields.specs.Valid.{has_valid_fields}
use Rattle.action_json.specs.Lines.{line_of}
use Rattle.action_json.specs.declared.line.Line.{Line}
use Rattle.action_json.specs.declared.line.Line.TheVariants.{Blank, Unread, Says}
use Rattle.action_json.specs.declared.fault.BadCommit.{BadCommit}
use Rattle.action_json.specs.declared.fault.BadCommit.TheVariants as bad
use Rattle.action_json.specs.declared.fault.BadLine.{BadLine}
use Rattle.action_json.specs.declared.fault.BadLine.TheVariants as bad_line
use Rattle.action_json.specs.declared.fault.Why.{Why}
use Rattle.action_json.specs.declared.fault.Why.TheVariants as why

-- ---- doubles

-- the action adds or removes this file
abbrev pub mentions : File → Action → Bool
mentions file (action.Info a) = false
mentions file (action.Protocol a) = false
mentions file (action.Meta a) = false
mentions file (action.Txn a) = false
mentions file (action.Domain a) = false
mentions file (action.Remove a) = same_file (file_of_remove a) file
mentions file (action.Add a) = same_file (file_of_add a) file

-- it is a txn of this application
abbrev pub is_of_app : List ℕ → Action → Bool
is_of_app app (action.Info a) = false
is_of_app app (action.Protocol a) = false
is_of_app app (action.Meta a) = false
is_of_app app (action.Txn a) = bytes_eq a.app app
is_of_app app (action.Domain a) = false
is_of_app app (action.Remove a) = false
is_of_app app (action.Add a) = false

-- it is a domainMetadata of this domain
abbrev pub is_of_domain : List ℕ → Action → Bool
is_of_domain domain (action.Info a) = false
is_of_domain domain (action.Protocol a) = false
is_of_domain domain (action.Meta a) = false
is_of_domain domain (action.Txn a) = false
is_of_domain domain (action.Domain a) = bytes_eq a.domain domain
is_of_domain domain (action.Remove a) = false
is_of_domain domain (action.Add a) = false

abbrev pub is_info : Action → Bool
is_info (action.Info a) = true
is_info (action.Protocol a) = false
is_info (action.Meta a) = false
is_info (action.Txn a) = false
is_info (action.Domain a) = false
is_info (action.Remove a) = false
is_info (action.Add a) = false

abbrev pub is_protocol : Action → Bool
is_protocol (action.Info a) = false
is_protocol (action.Protocol a) = true
is_protocol (action.Meta a) = false
is_protocol (action.Txn a) = false
is_protocol (action.Domain a) = false
is_protocol (action.Remove a) = false
is_protocol (action.Add a) = false

abbrev pub is_meta : Action → Bool
is_meta (action.Info a) = false
is_meta (action.Protocol a) = false
is_meta (action.Meta a) = true
is_meta (action.Txn a) = false
is_meta (action.Domain a) = false
is_meta (action.Remove a) = false
is_meta (action.Add a) = false

abbrev pub if_some : Bool → List ℕ → Option (List ℕ)
if_some found key = if found then Some key else None

-- the key that the action has in common with one before it: the path of a file, an application, a domain, or the empty key for the
-- kinds that stand once
unfoldable pub double_of : List Action → Action → Option (List ℕ)
double_of before (action.Info a) = if_some (list_any is_info before) []
double_of before (action.Protocol a) = if_some (list_any is_protocol before) []
double_of before (action.Meta a) = if_some (list_any is_meta before) []
double_of before (action.Txn a) = if_some (list_any (is_of_app a.app) before) a.app
double_of before (action.Domain a) = if_some (list_any (is_of_domain a.domain) before) a.domain
double_of before (action.Remove a) = if_some (list_any (mentions (file_of_remove a)) before) a.path
double_of before (action.Add a) = if_some (list_any (mentions (file_of_add a)) before) a.path

-- ---- reading

-- the number of a faulty line, from 1, and why it is
abbrev pub Flaw : Type 0
Flaw = ℕ × Why

abbrev pub told : BadCommit → Option Flaw
told (bad.At n w) = Some (n, w)
told bad.Memory = None

abbrev pub line_told : BadLine → Option Why
line_told (bad_line.Because w) = Some w
line_told bad_line.Memory = None

abbrev pub is_nil : List Action → Bool
is_nil [] = true
is_nil (a ∷ as') = false

abbrev pub unless_double : ℕ → Action → Option (List ℕ) → Result (List Action) Flaw → Result (List Action) Flaw
unless_double n a None rest = rest
unless_double n a (Some key) rest = Err (n, why.Double (kind_of a) key)

-- line n after the actions `done`
abbrev pub after_line : ℕ → List Action → (List Action → Result (List Action) Flaw) → Result Line Why → Result (List Action) Flaw
after_line n done rest (Ok Blank) = rest done
after_line n done rest (Ok Unread) = rest done
after_line n done rest (Ok (Says a)) = unless_double n a (double_of done a) (rest (done ++ a ∷ []))
after_line n done rest (Err w) = Err (n, w)

-- lines from number n on, after the actions `done`; a line before which no action stands is the first that is not blank
unfoldable pub outcome_from : ℕ → List Action → List (List ℕ) → Result (List Action) Flaw
outcome_from n done [] = Ok done
outcome_from n done (l ∷ ls) = after_line n done (λ more. outcome_from (n + 1) more ls) (line_of (is_nil done) l)

-- the actions of a commit's bytes, or their first flaw
unfoldable pub outcome : List ℕ → Result (List Action) Flaw
outcome bytes = outcome_from 1 [] (cut bytes)

abbrev pub commit_of : List ℕ → Option (List Action)
commit_of bytes = result_ok (outcome bytes)

abbrev pub first_flaw : List ℕ → Option Flaw
first_flaw bytes = result_err (outcome bytes)

-- ---- writing

-- each action is one line, ended by LF
unfoldable pub canonical_text : List Action → List ℕ
canonical_text actions = flat_map (λ a. with_lf (canonical_line a)) actions

-- ---- what a commit is

abbrev pub begins_with_info : List Action → Bool
begins_with_info [] = true
begins_with_info (a ∷ more) = is_info a

-- each has valid fields and nothing in common with those before it
abbrev pub are_new : List Action → List Action → Bool
are_new before [] = true
are_new before (a ∷ more) = has_valid_fields a && not (is_some (double_of before a)) && are_new (before ++ a ∷ []) more

-- the list is empty or begins with a commitInfo; no file is mentioned twice, no application twice, no domain twice, and no protocol,
-- metaData or commitInfo stands twice; each field is one that is read
pub record IsCommit (actions : List Action) : Type 0 where
  pub begins : begins_with_info actions ≡ true
  pub new : are_new [] actions ≡ true

-- what the code's types see to: integers of 64 bits, and texts that are UTF-8
pub record IsWritten (a : Action) : Type 0 where
  pub fits : HasFittingFields a
  pub utf8 : is_utf8 (canonical_line a) ≡ true

abbrev pub AreWritten : List Action → Type 0
AreWritten = AllByRecursion IsWritten
