-- The features that a table's protocol has to list, and those that it may list (Delta protocol, "Table
-- Features"; which are needed, and in which list each stands, is this project's profile).
use Rattle.std.specs.Prelude.{ℕ, pos, List, [], ◌∷◌, ◌||◌, not, Bool, Option, Some, None, if◌then◌else◌, codes, find}
use Rattle.std.specs.Bool.{beq}
use Rattle.std.specs.Ordering.{int_eq}
use Rattle.action_types.specs.declared.actions.Protocol.{Protocol}
use Rattle.reconcile.specs.Replay.{or_else}
use Rattle.table_rules.specs.Texts.{names_have, listed}

-- the features of readers and writers
abbrev pub shared_features : List (List ℕ)
shared_features = codes "catalogManaged" ∷ codes "deletionVectors" ∷ codes "v2Checkpoint" ∷ codes "vacuumProtocolCheck" ∷ []

-- those of writers alone
abbrev pub writer_features : List (List ℕ)
writer_features = codes "inCommitTimestamp" ∷ codes "appendOnly" ∷ codes "invariants" ∷ codes "domainMetadata" ∷ []

-- those that every table has
abbrev pub needed_features : List (List ℕ)
needed_features = codes "catalogManaged" ∷ codes "inCommitTimestamp" ∷ []

-- the name of a version that is not the one that table features need
abbrev pub wrong_reader : Protocol → Option (List ℕ)
wrong_reader p = if int_eq p.reader (pos 3) then None else Some (codes "minReaderVersion")

abbrev pub wrong_writer : Protocol → Option (List ℕ)
wrong_writer p = if int_eq p.writer (pos 7) then None else Some (codes "minWriterVersion")

-- the first feature of a list that is not known there
abbrev pub unknown_reader : Protocol → Option (List ℕ)
unknown_reader p = find (λ name. not (names_have shared_features name)) (listed p.reader_features)

abbrev pub unknown_writer : Protocol → Option (List ℕ)
unknown_writer p =
    find (λ name. not (names_have shared_features name || names_have writer_features name)) (listed p.writer_features)

-- the first shared feature that stands in one list and not in the other
abbrev pub in_one_list : Protocol → List ℕ → Bool
in_one_list p name = not (beq (names_have (listed p.reader_features) name) (names_have (listed p.writer_features) name))

abbrev pub one_sided : Protocol → Option (List ℕ)
one_sided p = find (in_one_list p) shared_features

-- the first needed feature that writers are not told of
abbrev pub missing : Protocol → Option (List ℕ)
missing p = find (λ name. not (names_have (listed p.writer_features) name)) needed_features

-- the first of these, in this order
abbrev pub faulty_feature : Protocol → Option (List ℕ)
faulty_feature p =
    or_else (wrong_reader p) (or_else (wrong_writer p) (or_else (unknown_reader p) (or_else (unknown_writer p) (or_else (one_sided p) (missing p)))))
