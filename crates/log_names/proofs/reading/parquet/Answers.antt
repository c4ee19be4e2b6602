use Rattle.std.proofs.Common.{◌≤◌, length, arith}
use Rattle.std.proofs.lemmas.List.{length-take-le}
use Rattle.log_names.proofs.reading.parquet.Goals as goal

pub slice_bounds-version_in-end : goal.slice_bounds-version_in-end
slice_bounds-version_in-end c =
    let within : 20 ≤ length c.args.bytes.now = omega (arith, c.requires) in
    omega (arith, length-take-le 20 c.args.bytes.now within)
