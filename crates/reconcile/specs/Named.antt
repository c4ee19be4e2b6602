-- What a tree with texts as keys is seen as: a finite map from their bytes.
use Rattle.std.specs.Prelude.{ℕ, List, map, string_bytes}
use Rattle.std.specs.FinMap as fin
use Rattle.std.specs.declared.string.String.{String}
use Rattle.std.specs.declared.alloc.Global.{Global}
use Rattle.std.specs.BTreeMap.{BTreeMap}
use Rattle.action_types.specs.Files.{name_cmp}

abbrev pub named : {V : Type 0} → List (String Global × V) → List (List ℕ × V)
named es = map (λ e. (string_bytes e.0, e.1)) es

abbrev pub by_bytes : {V : Type 0} → BTreeMap (String Global) V → fin.FinMap name_cmp V
by_bytes tree = fin.from_entries (named tree.entries)
