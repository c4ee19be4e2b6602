-- The canonical body of an action with valid fields is read as that action: a line for each field.
use Rattle.std.proofs.Common.{◌≡◌, ℕ, ℤ, List, Bool, true, ◌&&◌, codes, Option, Some, None, is_some, option_map, IfSome, Ok, refl, ap}
use Rattle.std.proofs.lemmas.Bool.{and_parts}
use Rattle.std.specs.List.{list_all}
use Rattle.std.specs.Option.{option_map_or}
use Rattle.std.specs.Result.{result_ok}
use Rattle.serde_json.specs.Data.{boolean, string, object}
use Rattle.action_types.specs.declared.actions.Action.{Action}
use Rattle.action_types.specs.declared.actions.Action.TheVariants as action
use Rattle.action_types.specs.declared.actions.Info.{Info}
use Rattle.action_types.specs.declared.actions.Protocol.{Protocol}
use Rattle.action_types.specs.declared.actions.Meta.{Meta}
use Rattle.action_types.specs.declared.actions.Txn.{Txn}
use Rattle.action_types.specs.declared.actions.Domain.{Domain}
use Rattle.action_types.specs.declared.actions.Vector.{Vector}
use Rattle.action_types.specs.declared.actions.Remove.{Remove}
use Rattle.action_types.specs.declared.actions.Add.{Add}
use Rattle.action_fields.specs.Bodies.{vector_of, vector, info, protocol, meta, txn, domain, remove, add, body_of, if_given}
use Rattle.action_fields.specs.Canonical.{with_fields, integer_data, names_data, pairs_data, format_data, vector_fields, vector_data, info_fields, protocol_fields, meta_fields, txn_fields, domain_fields, remove_fields, add_fields, body_data, kind_of}
use Rattle.action_fields.specs.Fits.{Fits, FitsIfGiven, VectorFits, VectorFitsIfGiven, HasFittingFields}
use Rattle.action_fields.specs.Types.{Pair, unless_null, text, integer, from_zero, flag, path, names, pairs, format}
use Rattle.action_fields.specs.Valid.{is_from_zero, is_not_empty, are_in_order, are_texts, is_valid_meta, is_valid_vector, is_valid_domain, is_valid_remove, is_valid_add, has_valid_fields}
use Rattle.action_fields.proofs.Found.{required_found, optional_found, or_empty_found, given_made, integer-again, from_zero-again, path-again, names-again, pairs-again, texts-again, format-again}

-- ---- optional values

if_all : {W : Type 0} (P : W → Type 0) (o : Option W) → ((w : W) → P w) → IfSome o P
if_all P None h = tt
if_all P (Some w) h = h w

given_text : (f : List ℕ) (o : Option (List ℕ)) → if_given text f (unless_null (option_map string o)) ≡ Ok o
given_text f o = given_made text f string o (λ w. refl) (if_all (λ w. text (string w) ≡ Some w) o (λ w. refl))

given_flag : (f : List ℕ) (o : Option Bool) → if_given flag f (unless_null (option_map boolean o)) ≡ Ok o
given_flag f o = given_made flag f boolean o (λ w. refl) (if_all (λ w. flag (boolean w) ≡ Some w) o (λ w. refl))

given_names : (f : List ℕ) (o : Option (List (List ℕ))) → if_given names f (unless_null (option_map names_data o)) ≡ Ok o
given_names f o = given_made names f names_data o (λ w. refl) (if_all (λ w. names (names_data w) ≡ Some w) o names-again)

given_pairs : (f : List ℕ) (o : Option (List Pair)) → if_given (pairs true) f (unless_null (option_map pairs_data o)) ≡ Ok o
given_pairs f o = given_made (pairs true) f pairs_data o (λ w. refl) (if_all (λ w. pairs true (pairs_data w) ≡ Some w) o pairs-again)

if_integer : (o : Option ℤ) → FitsIfGiven o → IfSome o (λ z. integer (integer_data z) ≡ Some z)
if_integer None h = tt
if_integer (Some z) h = integer-again z h

given_integer : (f : List ℕ) (o : Option ℤ) → FitsIfGiven o → if_given integer f (unless_null (option_map integer_data o)) ≡ Ok o
given_integer f o h = given_made integer f integer_data o (λ w. refl) (if_integer o h)

if_from_zero_given : (o : Option ℤ) → FitsIfGiven o → option_map_or is_from_zero o true ≡ true → IfSome o (λ z. from_zero (integer_data z) ≡ Some z)
if_from_zero_given None h k = tt
if_from_zero_given (Some z) h k = from_zero-again z h k

given_from_zero : (f : List ℕ) (o : Option ℤ) → FitsIfGiven o → option_map_or is_from_zero o true ≡ true → if_given from_zero f (unless_null (option_map integer_data o)) ≡ Ok o
given_from_zero f o h k = given_made from_zero f integer_data o (λ w. refl) (if_from_zero_given o h k)

-- ---- deletion vectors

vector_of-again : (w : Vector) → VectorFits w → is_valid_vector w ≡ true → vector_of (vector_data w) ≡ Ok w
unfolding vector_of
vector_of-again w fits valid =
    let fs = vector_fields w in
    let both = and_parts (is_from_zero w.cardinality && option_map_or is_from_zero w.offset true) (is_from_zero w.size) valid in
    let front = and_parts (is_from_zero w.cardinality) (option_map_or is_from_zero w.offset true) both.0 in
    rw (
      required_found from_zero (codes "cardinality") fs (integer_data w.cardinality) w.cardinality refl refl (from_zero-again w.cardinality fits.0 front.0),
      optional_found from_zero (codes "offset") fs (option_map integer_data w.offset) w.offset refl (given_from_zero (codes "offset") w.offset fits.1 front.1),
      required_found text (codes "pathOrInlineDv") fs (string w.locator) w.locator refl refl refl,
      required_found from_zero (codes "sizeInBytes") fs (integer_data w.size) w.size refl refl (from_zero-again w.size fits.2 both.1),
      required_found text (codes "storageType") fs (string w.storage) w.storage refl refl refl,
    ) refl

if_vector : (o : Option Vector) → VectorFitsIfGiven o → option_map_or is_valid_vector o true ≡ true → IfSome o (λ w. vector (vector_data w) ≡ Some w)
if_vector None fits valid = tt
if_vector (Some w) fits valid = ap result_ok (vector_of-again w fits valid)

given_vector : (f : List ℕ) (o : Option Vector) → VectorFitsIfGiven o → option_map_or is_valid_vector o true ≡ true → if_given vector f (unless_null (option_map vector_data o)) ≡ Ok o
given_vector f o fits valid = given_made vector f vector_data o (λ w. refl) (if_vector o fits valid)

-- ---- bodies

info-again : (w : Info) → Fits w.time → is_from_zero w.time ≡ true → info (object (with_fields (info_fields w))) ≡ Ok (action.Info w)
unfolding info
info-again w fits zero =
    let fs = info_fields w in
    rw (
      required_found from_zero (codes "inCommitTimestamp") fs (integer_data w.time) w.time refl refl (from_zero-again w.time fits zero),
      optional_found text (codes "txnId") fs (option_map string w.txn_id) w.txn_id refl (given_text (codes "txnId") w.txn_id),
    ) refl

protocol-again : (w : Protocol) → Fits w.reader → Fits w.writer → protocol (object (with_fields (protocol_fields w))) ≡ Ok (action.Protocol w)
unfolding protocol
protocol-again w reader writer =
    let fs = protocol_fields w in
    rw (
      required_found integer (codes "minReaderVersion") fs (integer_data w.reader) w.reader refl refl (integer-again w.reader reader),
      required_found integer (codes "minWriterVersion") fs (integer_data w.writer) w.writer refl refl (integer-again w.writer writer),
      optional_found names (codes "readerFeatures") fs (option_map names_data w.reader_features) w.reader_features refl (given_names (codes "readerFeatures") w.reader_features),
      optional_found names (codes "writerFeatures") fs (option_map names_data w.writer_features) w.writer_features refl (given_names (codes "writerFeatures") w.writer_features),
    ) refl

meta-again : (w : Meta) → FitsIfGiven w.created → is_valid_meta w ≡ true → meta (object (with_fields (meta_fields w))) ≡ Ok (action.Meta w)
unfolding meta
meta-again w created valid =
    let fs = meta_fields w in
    let both = and_parts (are_texts w.configuration) (are_texts w.format.options) valid in
    let configuration = (and_parts (are_in_order w.configuration) (list_all (λ (p : Pair). is_some p.1) w.configuration) both.0).1 in
    let options = (and_parts (are_in_order w.format.options) (list_all (λ (p : Pair). is_some p.1) w.format.options) both.1).1 in
    rw (
      or_empty_found (codes "configuration") fs w.configuration refl (texts-again w.configuration configuration),
      optional_found integer (codes "createdTime") fs (option_map integer_data w.created) w.created refl (given_integer (codes "createdTime") w.created created),
      optional_found text (codes "description") fs (option_map string w.description) w.description refl (given_text (codes "description") w.description),
      required_found format (codes "format") fs (format_data w.format) w.format refl refl (format-again w.format options),
      required_found text (codes "id") fs (string w.id) w.id refl refl refl,
      optional_found text (codes "name") fs (option_map string w.name) w.name refl (given_text (codes "name") w.name),
      required_found names (codes "partitionColumns") fs (names_data w.columns) w.columns refl refl (names-again w.columns),
      required_found text (codes "schemaString") fs (string w.schema) w.schema refl refl refl,
    ) refl

txn-again : (w : Txn) → FitsIfGiven w.updated → Fits w.number → txn (object (with_fields (txn_fields w))) ≡ Ok (action.Txn w)
unfolding txn
txn-again w updated number =
    let fs = txn_fields w in
    rw (
      required_found text (codes "appId") fs (string w.app) w.app refl refl refl,
      optional_found integer (codes "lastUpdated") fs (option_map integer_data w.updated) w.updated refl (given_integer (codes "lastUpdated") w.updated updated),
      required_found integer (codes "version") fs (integer_data w.number) w.number refl refl (integer-again w.number number),
    ) refl

domain-again : (w : Domain) → is_valid_domain w ≡ true → domain (object (with_fields (domain_fields w))) ≡ Ok (action.Domain w)
unfolding domain
domain-again w valid =
    let fs = domain_fields w in
    rw (
      required_found text (codes "configuration") fs (string w.configuration) w.configuration refl refl refl,
      required_found path (codes "domain") fs (string w.domain) w.domain refl refl (path-again w.domain valid),
      required_found flag (codes "removed") fs (boolean w.removed) w.removed refl refl refl,
    ) refl

remove-again : (w : Remove) → FitsIfGiven w.deleted → FitsIfGiven w.size → VectorFitsIfGiven w.vector → is_valid_remove w ≡ true → remove (object (with_fields (remove_fields true w))) ≡ Ok (action.Remove w)
unfolding remove
remove-again w deleted size fits valid =
    let fs = remove_fields true w in
    let parts = and_parts (option_map_or are_in_order w.values true && is_not_empty w.path && option_map_or is_from_zero w.size true) (option_map_or is_valid_vector w.vector true) valid in
    let front = and_parts (option_map_or are_in_order w.values true && is_not_empty w.path) (option_map_or is_from_zero w.size true) parts.0 in
    let file = (and_parts (option_map_or are_in_order w.values true) (is_not_empty w.path) front.0).1 in
    rw (
      required_found flag (codes "dataChange") fs (boolean w.change) w.change refl refl refl,
      optional_found integer (codes "deletionTimestamp") fs (option_map integer_data w.deleted) w.deleted refl (given_integer (codes "deletionTimestamp") w.deleted deleted),
      optional_found vector (codes "deletionVector") fs (option_map vector_data w.vector) w.vector refl (given_vector (codes "deletionVector") w.vector fits parts.1),
      optional_found flag (codes "extendedFileMetadata") fs (option_map boolean w.extended) w.extended refl (given_flag (codes "extendedFileMetadata") w.extended),
      optional_found (pairs true) (codes "partitionValues") fs (option_map pairs_data w.values) w.values refl (given_pairs (codes "partitionValues") w.values),
      required_found path (codes "path") fs (string w.path) w.path refl refl (path-again w.path file),
      optional_found from_zero (codes "size") fs (option_map integer_data w.size) w.size refl (given_from_zero (codes "size") w.size size front.1),
    ) refl

add-again : (w : Add) → Fits w.modified → Fits w.size → VectorFitsIfGiven w.vector → is_valid_add w ≡ true → add (object (with_fields (add_fields true w))) ≡ Ok (action.Add w)
unfolding add
add-again w modified size fits valid =
    let fs = add_fields true w in
    let parts = and_parts (are_in_order w.values && is_not_empty w.path && is_from_zero w.size && option_map_or are_in_order w.tags true) (option_map_or is_valid_vector w.vector true) valid in
    let front = and_parts (are_in_order w.values && is_not_empty w.path && is_from_zero w.size) (option_map_or are_in_order w.tags true) parts.0 in
    let middle = and_parts (are_in_order w.values && is_not_empty w.path) (is_from_zero w.size) front.0 in
    let file = (and_parts (are_in_order w.values) (is_not_empty w.path) middle.0).1 in
    rw (
      required_found flag (codes "dataChange") fs (boolean w.change) w.change refl refl refl,
      optional_found vector (codes "deletionVector") fs (option_map vector_data w.vector) w.vector refl (given_vector (codes "deletionVector") w.vector fits parts.1),
      required_found integer (codes "modificationTime") fs (integer_data w.modified) w.modified refl refl (integer-again w.modified modified),
      required_found (pairs true) (codes "partitionValues") fs (pairs_data w.values) w.values refl refl (pairs-again w.values),
      required_found path (codes "path") fs (string w.path) w.path refl refl (path-again w.path file),
      required_found from_zero (codes "size") fs (integer_data w.size) w.size refl refl (from_zero-again w.size size middle.1),
      optional_found text (codes "stats") fs (option_map string w.stats) w.stats refl (given_text (codes "stats") w.stats),
      optional_found (pairs true) (codes "tags") fs (option_map pairs_data w.tags) w.tags refl (given_pairs (codes "tags") w.tags),
    ) refl

pub body_of-body_data : (a : Action) → has_valid_fields a ≡ true → HasFittingFields a → body_of (kind_of a) (body_data true a) ≡ Ok a
unfolding body_of has_valid_fields
body_of-body_data (action.Info w) valid fits = info-again w fits valid
body_of-body_data (action.Protocol w) valid fits = protocol-again w fits.0 fits.1
body_of-body_data (action.Meta w) valid fits = meta-again w fits valid
body_of-body_data (action.Txn w) valid fits = txn-again w fits.0 fits.1
body_of-body_data (action.Domain w) valid fits = domain-again w valid
body_of-body_data (action.Remove w) valid fits = remove-again w fits.0 fits.1 fits.2 valid
body_of-body_data (action.Add w) valid fits = add-again w fits.0 fits.1 fits.2 valid
