-- The bodies of the two kinds of lines that checkpoints alone have (Delta protocol, "Checkpoint Metadata", "Sidecar File Information").
use Rattle.std.specs.Prelude.{ℕ, List, [], codes, Option, is_some, option_and_then, Result, Ok, Err, if◌then◌else◌}
use Rattle.serde_json.specs.Data.{Data}
use Rattle.serde_json.specs.Find.{as_number, as_object, as_u64}
use Rattle.action_fields.specs.Bodies.{required}

-- an integer from 0 below 2 ^ 64
abbrev pub natural : Data → Option ℕ
natural d = option_and_then as_u64 (as_number d)

-- the version that the body of a checkpointMetadata says, or its faulty field; a body that is no object is the fault with the empty name
unfoldable pub version_of : Data → Result ℕ (List ℕ)
version_of body = if is_some (as_object body) then required natural (codes "version") body else Err []

-- the body of a sidecar is an object, whose fields are not looked at; any other is the fault with the empty name
unfoldable pub sidecar_of : Data → Result (Unit {0}) (List ℕ)
sidecar_of body = if is_some (as_object body) then Ok tt else Err []
