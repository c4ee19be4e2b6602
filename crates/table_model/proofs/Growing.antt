-- What grows, grows along.
use Rattle.std.proofs.Common.{◌≡◌, ◌<◌, ◌≤◌, ◌+◌, ℕ, List, [], ◌∷◌, ◌++◌, length, refl, sym, ◌∙◌, ap, subst, append_assoc, append-nil, arith, rules}
use Rattle.table_model.specs.Knowledge.{Knowledge, StartsWith, IsGrown}

pub starts_refl : {A : Type 0} (xs : List A) → StartsWith xs xs
starts_refl xs = record { rest = []; is = sym (append-nil xs) }

pub starts_more : {A : Type 0} (xs ys : List A) → StartsWith (xs ++ ys) xs
starts_more xs ys = record { rest = ys; is = refl }

pub starts_trans : {A : Type 0} {xs ys zs : List A} → StartsWith ys xs → StartsWith zs ys → StartsWith zs xs
starts_trans {xs = xs} p q = record { rest = p.rest ++ q.rest; is = q.is ∙ ap (λ t. t ++ q.rest) p.is ∙ append_assoc xs p.rest q.rest }

pub le_refl : (n : ℕ) → n ≤ n
le_refl n = omega arith

pub le_trans : (a b c : ℕ) → a ≤ b → b ≤ c → a ≤ c
le_trans a b c p q = omega arith

pub grows_refl : (k : Knowledge) → IsGrown k k
grows_refl k = record {
  terms = refl;
  seen = starts_refl _;
  mine = starts_refl _;
  rising = λ r. r;
  told = le_refl _;
  published = le_refl _;
  reported = le_refl _;
  kept = starts_refl _;
  marks = starts_refl _;
  cleared = starts_refl _;
  takens = starts_refl _;
  absents = starts_refl _;
  put = starts_refl _;
  failed = starts_refl _;
  tries = starts_refl _;
  heard = starts_refl _;
  asks = le_refl _;
  lists = le_refl _;
  gets = le_refl _;
  looks = le_refl _;
  faults = le_refl _;
}

pub grows_trans : (j k m : Knowledge) → IsGrown j k → IsGrown k m → IsGrown j m
grows_trans j k m p q = record {
  terms = q.terms ∙ p.terms;
  seen = starts_trans p.seen q.seen;
  mine = starts_trans p.mine q.mine;
  rising = λ r. q.rising (p.rising r);
  told = le_trans _ _ _ p.told q.told;
  published = le_trans _ _ _ p.published q.published;
  reported = le_trans _ _ _ p.reported q.reported;
  kept = starts_trans p.kept q.kept;
  marks = starts_trans p.marks q.marks;
  cleared = starts_trans p.cleared q.cleared;
  takens = starts_trans p.takens q.takens;
  absents = starts_trans p.absents q.absents;
  put = starts_trans p.put q.put;
  failed = starts_trans p.failed q.failed;
  tries = starts_trans p.tries q.tries;
  heard = starts_trans p.heard q.heard;
  asks = le_trans _ _ _ p.asks q.asks;
  lists = le_trans _ _ _ p.lists q.lists;
  gets = le_trans _ _ _ p.gets q.gets;
  looks = le_trans _ _ _ p.looks q.looks;
  faults = le_trans _ _ _ p.faults q.faults;
}
