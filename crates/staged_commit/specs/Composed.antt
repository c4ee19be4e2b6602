-- The actions that a create and an append compose, at a time and under the id of the staged commit (Delta protocol, "Commit
-- Provenance Information", "Protocol Evolution", "Change Metadata", "Transaction Identifiers" and "Add File and Remove File"; which
-- features a table has is this project's profile).
use Rattle.std.specs.Prelude.{◌≡◌, ℕ, ℤ, pos, true, List, [], ◌∷◌, codes, filter, map, Option, Some, None}
use Rattle.std.specs.List.{list_all}
use Rattle.action_types.specs.declared.actions.Action.{Action}
use Rattle.action_types.specs.declared.actions.Action.TheVariants as action
use Rattle.action_types.specs.declared.actions.Info.{Info}
use Rattle.action_types.specs.declared.actions.Protocol.{Protocol}
use Rattle.action_types.specs.declared.actions.Format.{Format}
use Rattle.action_types.specs.declared.actions.Meta.{Meta}
use Rattle.action_types.specs.declared.actions.Txn.{Txn}
use Rattle.action_fields.specs.Valid.{has_valid_fields}
use Rattle.conflict_rules.specs.declared.intent.Intent.{Intent}
use Rattle.conflict_rules.specs.declared.intent.Reads.TheVariants as reads
use Rattle.log_names.specs.Texts.{uuid_text}
use Rattle.table_rules.specs.Texts.{names_have}
use Rattle.table_rules.specs.Features.{shared_features}
use Rattle.table_rules.specs.Broken.{timestamps_property}
use Rattle.staged_commit.specs.Adds.{adds_in_order, have_own_files}
use Rattle.staged_commit.specs.Names.{with_name, in_order, with_pair}
use Rattle.staged_commit.specs.declared.create.Create.{Create}

-- the features that a request asks for, and those of checkpoints where it asks for none
abbrev pub asked_features : Option (List (List ℕ)) → List (List ℕ)
asked_features None = codes "v2Checkpoint" ∷ codes "vacuumProtocolCheck" ∷ []
asked_features (Some names) = names

-- with those that every table has, in byte order, each once
abbrev pub features_for : Option (List (List ℕ)) → List (List ℕ)
features_for asked = with_name (codes "catalogManaged") (with_name (codes "inCommitTimestamp") (in_order (asked_features asked)))

-- the protocol of table features; a reader is told of those that readers have to know
abbrev pub protocol_for : Option (List (List ℕ)) → Protocol
protocol_for asked = record {
  reader = pos 3;
  writer = pos 7;
  reader_features = Some (filter (names_have shared_features) (features_for asked));
  writer_features = Some (features_for asked);
}

-- the commitInfo of a composed commit
abbrev pub info_for : ℕ → ℤ → Info
info_for id time = record { time = time; txn_id = Some (uuid_text id) }

-- the encoding of the data files
abbrev pub parquet_format : Format
parquet_format = record { provider = codes "parquet"; options = [] }

abbrev pub meta_for : Create → ℤ → Meta
meta_for create time = record {
  configuration = with_pair (timestamps_property, Some (codes "true")) create.configuration;
  created = Some time;
  description = create.description;
  format = parquet_format;
  id = create.id;
  name = create.name;
  columns = create.partition;
  schema = create.schema;
}

unfoldable pub composed_create : Create → ℕ → ℤ → List Action
composed_create create id time =
    action.Info (info_for id time) ∷ action.Protocol (protocol_for create.features) ∷ action.Meta (meta_for create time) ∷ []

-- a create that names no features and no configuration: others are not composed yet
pub record IsCreate (create : Create) : Type 0 where
  pub configuration : create.configuration ≡ []
  pub features : create.features ≡ None

-- the txn of a write, which does not say when it was made
abbrev pub txn_for : Intent → Txn
txn_for intent = record { app = intent.app; updated = None; number = intent.number }

-- what an append composes is the same after every log
unfoldable pub composed_append : Intent → ℕ → ℤ → List Action
composed_append intent id time =
    action.Info (info_for id time) ∷ action.Txn (txn_for intent) ∷ map action.Add (adds_in_order intent.adds)

-- A write that has read nothing, removes nothing, changes no metadata and no domain, of files whose fields a commit may have and
-- of which none stands twice. Other writes are not composed yet.
pub record IsAppend (intent : Intent) : Type 0 where
  pub reads : intent.reads ≡ reads.None
  pub removes : intent.removes ≡ []
  pub domains : intent.domains ≡ []
  pub change : intent.change ≡ None
  pub fields : list_all (λ a. has_valid_fields (action.Add a)) intent.adds ≡ true
  pub files : have_own_files intent.adds ≡ true
