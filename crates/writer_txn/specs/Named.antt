-- What the ids that a call was given are to the staged names that it put or found taken.
use Rattle.std.specs.Prelude.{ℕ, Bool, IsTrue, List, [], ◌∷◌, Contains, Result, Ok, Err}
use Rattle.log_names.specs.declared.LogName.{LogName}
use Rattle.log_names.specs.declared.LogName.TheVariants as name
use Rattle.table_model.specs.Knowledge.{Knowledge, StartsWith}
use Rattle.writer_txn.specs.declared.errors.WriteError.{WriteError}
use Rattle.writer_txn.specs.declared.errors.WriteError.TheVariants as failed

-- the id was given since, and not before
pub record IsNewId (given given' : List ℕ) (id : ℕ) : Type 0 where
  pub fresh : ¬ (Contains given id)
  pub now : Contains given' id

-- Of ids that are all told to differ after a call: they were so before it, and those that it was given stand behind those given before. Each
-- staged name that it put or found taken has an id of its own, and none that it found taken is one that it put.
pub record NamesApart (differ : Bool) (given given' : List ℕ) (takens : List LogName) (k m : Knowledge) : Type 0 where
  pub before : IsTrue differ
  pub ids : StartsWith given' given
  pub put : StartsWith m.put k.put
  pub put_new : (version id : ℕ) → Contains put.rest (name.Staged version id) → IsNewId given given' id
  pub taken_new : (version id : ℕ) → Contains takens (name.Staged version id) → IsNewId given given' id
  pub apart : (version id : ℕ) → Contains takens (name.Staged version id) → ¬ (Contains put.rest (name.Staged version id))

-- the name of the staged commit that was found taken
abbrev pub names_taken : WriteError → List LogName
names_taken failed.NoTable = []
names_taken (failed.Exists latest) = []
names_taken (failed.Broken base why) = []
names_taken (failed.Conflict base winner rule key vector latest) = []
names_taken (failed.Contended attempts latest) = []
names_taken (failed.Full latest) = []
names_taken (failed.TimeEnd base end) = []
names_taken (failed.TooLarge base bytes) = []
names_taken (failed.Taken base version id) = name.Staged version id ∷ []
names_taken (failed.Fault at) = []
names_taken failed.Memory = []

abbrev pub taken_names : {A : Type 0} → Result A WriteError → List LogName
taken_names (Ok answer) = []
taken_names (Err e) = names_taken e
