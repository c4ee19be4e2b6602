-- The files of a store: a finite map from names, as texts, to contents.
use Rattle.std.specs.Prelude.{ℕ, List, Option, Bool, cond, is_some}
use Rattle.std.specs.Ordering.{nat_cmp}
use Rattle.std.specs.Cmp.Lexicographic.{slice_cmp}
use Rattle.std.specs.Coded.{Coded, coded_list, coded_ℕ}
use Rattle.std.specs.FinMap as fin

-- names in the order of their bytes, each with its bytes
abbrev pub Files : Type 0
Files = fin.FinMap (slice_cmp nat_cmp) (List ℕ)

abbrev pub files_code : Coded Files
files_code = fin.code (coded_list coded_ℕ) (coded_list coded_ℕ)

abbrev pub no_files : Files
no_files = fin.empty

-- the bytes of the file of that name, if it stands
abbrev pub file_of : Files → List ℕ → Option (List ℕ)
file_of files name = fin.get files name

abbrev pub stands : Files → List ℕ → Bool
stands files name = is_some (file_of files name)

abbrev pub with_file : Files → List ℕ → List ℕ → Files
with_file files name bytes = fin.insert files name bytes

abbrev pub without_file : Files → List ℕ → Files
without_file files name = fin.remove files name

-- the names that stand, each once, in the order of their bytes
abbrev pub names_of : Files → List (List ℕ)
names_of files = fin.keys files

-- the files once a new file was put whole: no file that stands is overwritten
abbrev pub put_whole : Files → List ℕ → List ℕ → Files
put_whole files name bytes = cond (stands files name) files (with_file files name bytes)
