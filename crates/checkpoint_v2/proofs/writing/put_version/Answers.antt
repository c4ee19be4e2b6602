use Rattle.std.proofs.Common.{codes}
use Rattle.checkpoint_v2.specs.Canonical.{metadata_data}
use Rattle.checkpoint_v2.proofs.Version.{wrapped}
use Rattle.checkpoint_v2.proofs.writing.put_version.Goals as goal

pub returns : goal.returns
returns c =
    wrapped c.end_object.result c.args.out.now c.begin_object.new.self c.key.new.self c.put_metadata.new.out c.end_object.new.self (codes "checkpointMetadata") (metadata_data c.args.version)
    c.in_ok-begin_object.ensures.ok c.begin_object.ensures.room.0 c.in_ok-key.ensures.ok c.key.ensures.room.0 c.in_ok-put_metadata.ensures.ok c.put_metadata.ensures.before c.end_object.ensures
