-- Later worlds, and knowledge that stays true in them.
use Rattle.std.proofs.Common.{◌≡◌, ◌<◌, ◌≤◌, ◌+◌, ◌⊎◌, inl, inr, ℕ, zero, suc, Bool, true, false, List, [], ◌∷◌, ◌++◌, length, refl, sym, ◌∙◌, ap, subst, arith, rules, Option, Some, None, IsTrue, length-append, append-nil}
use Rattle.std.specs.Prelude.{All, IfSome, is_some}
use Rattle.log_names.specs.declared.LogName.{LogName}
use Rattle.log_names.specs.declared.LogName.TheVariants as name
use Rattle.table_model.specs.Files.{file_at}
use Rattle.table_model.specs.Log.{Commit}
use Rattle.table_model.specs.World.{WorldData, stands, log_of}
use Rattle.table_model.specs.Consistency.{IsSized, IsFiled, IsConsistent}
use Rattle.std.proofs.lemmas.List.Elements.{All-weaker}
use Rattle.table_model.specs.declared.known.Mark.{Mark}
use Rattle.table_model.specs.Knowledge.{Knowledge, Terms, Triple, StartsWith, newcomer, at_start}
use Rattle.table_model.specs.Holding.{HoldsIn, IsLater, GainsOwn, IsKeptIn, terms_of}
use Rattle.table_model.proofs.Growing.{starts_refl, starts_trans, le_refl, le_trans}

pub later_refl : (w : WorldData) → IsLater w w
later_refl w = record {
  limits = refl;
  tells = refl;
  first = refl;
  log = starts_refl _;
  records = le_refl _;
  reported = le_refl _;
  tally = le_refl _;
  published = λ version h. h;
  checkpoints = λ version id bytes h. h;
  staged = λ version id bytes above h. h;
}

pub later_trans : (w x y : WorldData) → IsLater w x → IsLater x y → IsLater w y
later_trans w x y p q = record {
  limits = q.limits ∙ p.limits;
  tells = q.tells ∙ p.tells;
  first = q.first ∙ p.first;
  log = starts_trans p.log q.log;
  records = le_trans _ _ _ p.records q.records;
  reported = le_trans _ _ _ p.reported q.reported;
  tally = le_trans _ _ _ p.tally q.tally;
  published = λ version h. q.published version (p.published version h);
  checkpoints = λ version id bytes h. q.checkpoints version id bytes (p.checkpoints version id bytes h);
  staged = λ version id bytes above h. q.staged version id bytes above (p.staged version id bytes (le_trans _ _ _ q.records above) h);
}

-- the count of faults alone rose
pub later_tally : (w : WorldData) (n : ℕ) → w.tally ≤ n → IsLater w (record w { tally = n })
later_tally w n rose = record {
  limits = refl;
  tells = refl;
  first = refl;
  log = starts_refl _;
  records = le_refl _;
  reported = le_refl _;
  tally = rose;
  published = λ version h. h;
  checkpoints = λ version id bytes h. h;
  staged = λ version id bytes above h. h;
}

sized_tally : (w : WorldData) (n : ℕ) → IsSized w → IsSized (record w { tally = n })
sized_tally w n s = record { bounds = s.bounds; reported = s.reported; versions = s.versions; unpublished = s.unpublished }

filed_tally : (w : WorldData) (n : ℕ) → IsFiled w → IsFiled (record w { tally = n })
filed_tally w n f = record {
  ratified = f.ratified;
  leading = f.leading;
  reported = f.reported;
  kept = f.kept;
  equal = f.equal;
  sound = f.sound;
  times = f.times;
  checkpoints = f.checkpoints;
}

pub consistent_tally : (w : WorldData) (n : ℕ) → IsConsistent w → IsConsistent (record w { tally = n })
consistent_tally w n c = record { sized = sized_tally w n c.sized; filed = λ tells. filed_tally w n (c.filed tells) }

-- no version became the caller's own
pub same_own : (w x : WorldData) (k m : Knowledge) → m.mine ≡ k.mine → GainsOwn w x k m
same_own w x k m e = record { gained = record { rest = []; is = e ∙ sym (append-nil k.mine) }; new = λ n d less. absurd (omega arith) }

-- a file that stands has bytes
pub bytes_of : (o : Option (List ℕ)) → IsTrue (is_some o) → (bytes : List ℕ) × (o ≡ Some bytes)
bytes_of None h = cc
bytes_of (Some bytes) h = (bytes, refl)

pub is_there : (o : Option (List ℕ)) (bytes : List ℕ) → o ≡ Some bytes → IsTrue (is_some o)
is_there o bytes e = ap is_some e

later_terms : (o : Option Terms) (t u : Terms) → t ≡ u → IfSome o (λ x. x ≡ t) → IfSome o (λ x. x ≡ u)
later_terms None t u e h = h
later_terms (Some x) t u e h = h ∙ e

same_terms : (w x : WorldData) → IsLater w x → terms_of w ≡ terms_of x
same_terms w x later =
    let limits = later.limits in
    let tells = later.tells in
    cc

pub below_or_above : (a b : ℕ) → (a < b) ⊎ (b ≤ a)
below_or_above a zero = inr (omega arith)
below_or_above zero (suc b) = inl (omega arith)
below_or_above (suc a) (suc b) = elim (below_or_above a b) [ inl below ↦ inl (omega arith) | inr above ↦ inr (omega arith) ]

kept_where : (w x : WorldData) → IsLater w x → (t : Triple) → file_at w.files (name.Staged t.version t.id) ≡ Some t.bytes
    → (t.version < length x.records) ⊎ (length x.records ≤ t.version) → IsKeptIn x t
kept_where w x later t there (inl below) = inl below
kept_where w x later t there (inr above) = inr (later.staged t.version t.id t.bytes above there)

kept_later : (w x : WorldData) → IsLater w x → (t : Triple) → IsKeptIn w t → IsKeptIn x t
kept_later w x later t (inl below) = inl (le_trans _ _ _ below later.records)
kept_later w x later t (inr there) = kept_where w x later t there (below_or_above t.version (length x.records))

marked_later : (w x : WorldData) → IsLater w x → (version id : ℕ) → IsTrue (stands w (name.Checkpoint version id)) → IsTrue (stands x (name.Checkpoint version id))
marked_later w x later version id h =
    let b = bytes_of _ h in
    is_there _ b.0 (later.checkpoints version id b.0 b.1)

-- what held stays held
pub holds_later : (w x : WorldData) (k : Knowledge) → HoldsIn w k → IsLater w x → HoldsIn x k
holds_later w x k h later = record {
  terms = later_terms k.terms (terms_of w) (terms_of x) (same_terms w x later) h.terms;
  seen = starts_trans h.seen later.log;
  mine = h.mine;
  told = le_trans _ _ _ h.told later.records;
  reported = le_trans _ _ _ h.reported later.reported;
  within = h.within;
  published = λ tells version less. later.published version (h.published (sym later.tells ∙ tells) version less);
  kept = λ tells. All-weaker (IsKeptIn w) (IsKeptIn x) (kept_later w x later) k.kept (h.kept (sym later.tells ∙ tells));
  marks = λ tells. h.marks (sym later.tells ∙ tells);
  marked = λ tells. All-weaker (λ (m : Mark). IsTrue (stands w (name.Checkpoint m.version m.id))) (λ (m : Mark). IsTrue (stands x (name.Checkpoint m.version m.id)))
      (λ m there. marked_later w x later m.version m.id there) k.marks (h.marked (sym later.tells ∙ tells));
  faults = le_trans _ _ _ h.faults later.tally;
}

-- nothing known holds in every world
pub holds-newcomer : (w : WorldData) → HoldsIn w newcomer
holds-newcomer w = record {
  terms = tt;
  seen = record { rest = log_of w; is = refl };
  mine = λ n d less. absurd (omega arith);
  told = omega arith;
  reported = omega arith;
  within = omega arith;
  published = λ tells version less. absurd (omega arith);
  kept = λ tells n d less. absurd (omega arith);
  marks = λ tells n d less. absurd (omega arith);
  marked = λ tells n d less. absurd (omega arith);
  faults = omega arith;
}

-- nothing known but the terms
pub holds-at_start : (w : WorldData) → HoldsIn w (at_start (terms_of w))
holds-at_start w = record {
  terms = refl;
  seen = record { rest = log_of w; is = refl };
  mine = λ n d less. absurd (omega arith);
  told = omega arith;
  reported = omega arith;
  within = omega arith;
  published = λ tells version less. absurd (omega arith);
  kept = λ tells n d less. absurd (omega arith);
  marks = λ tells n d less. absurd (omega arith);
  marked = λ tells n d less. absurd (omega arith);
  faults = omega arith;
}
