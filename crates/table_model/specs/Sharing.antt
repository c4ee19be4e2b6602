-- What is known by a caller that was split off another one, and by two callers together.
use Rattle.std.specs.Prelude.{ℕ, List, ◌++◌, max, cond, nat_lt, length}
use Rattle.table_model.specs.Knowledge.{Knowledge, newcomer}

-- of the table all that the other one knows; it has done nothing and counted nothing itself
abbrev pub split_known : Knowledge → Knowledge
split_known k = record newcomer {
  terms = k.terms;
  seen = k.seen;
  told = k.told;
  published = k.published;
  reported = k.reported;
  kept = k.kept;
  marks = k.marks;
}

abbrev pub longer : {A : Type 0} → List A → List A → List A
longer xs ys = cond (nat_lt (length xs) (length ys)) ys xs

-- of the table all that one of them knows, and the commits of both; the counts and the other lists are the first one's
abbrev pub both_known : Knowledge → Knowledge → Knowledge
both_known k m = record k {
  seen = longer k.seen m.seen;
  mine = k.mine ++ m.mine;
  told = max k.told m.told;
  published = max k.published m.published;
  reported = max k.reported m.reported;
  kept = k.kept ++ m.kept;
  marks = k.marks ++ m.marks;
}
