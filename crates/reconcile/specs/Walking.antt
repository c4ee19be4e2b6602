-- What a walk over files has left.
use Rattle.std.specs.Prelude.{List}
use Rattle.reconcile.specs.Left.{given_left, files_left}
use Rattle.reconcile.specs.declared.merge.FilesLeft.{FilesLeft}

abbrev pub left : {V : Type 0} → FilesLeft V → List V
left walk = files_left (given_left walk.given) walk.plain walk.marked
