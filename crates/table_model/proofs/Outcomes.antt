-- What a turn leads to: the later consistent world, and the knowledge that holds in it.
use Rattle.std.proofs.Common.{◌≡◌, ◌<◌, ◌≤◌, ◌+◌, ◌⊎◌, inl, inr, ℕ, zero, suc, Bool, true, false, cond, List, [], ◌∷◌, ◌++◌, length, take, refl, sym, ◌∙◌, ap, subst, arith, rules, Option, Some, None, IsTrue, length-append, append-nil, max}
use Rattle.std.specs.Prelude.{All, IfSome, is_some, Result, Ok, Err, ℤ}
use Rattle.std.proofs.lemmas.List.Elements.{All-weaker, All-push}
use Rattle.commit_catalog.specs.declared.Entry.{Entry}
use Rattle.table_model.specs.Log.{Commit, commit_at}
use Rattle.table_model.specs.World.{WorldData, stands, log_of}
use Rattle.table_model.specs.Consistency.{IsSized, IsFiled, IsConsistent}
use Rattle.table_model.specs.Knowledge.{Knowledge, Terms, Triple, StartsWith, IsGrown}
use Rattle.table_model.specs.Holding.{HoldsIn, IsLater, IsKeptIn, terms_of}
use Rattle.table_model.specs.Alone.{LosesNone, LoneOutcome}
use Rattle.table_model.specs.declared.known.Mark.{Mark}
use Rattle.table_model.specs.declared.answers.Spot.{Spot}
use Rattle.table_model.specs.Learning.{fault_noted}
use Rattle.table_model.proofs.Growing.{starts_refl, starts_more, starts_trans, le_refl, le_trans, grows_refl}
use Rattle.table_model.proofs.Worlds.{same_own, later_refl, later_trans, later_tally, consistent_tally, holds_later, below_or_above}
use Rattle.table_model.proofs.Knowing.{seen_length, length-log_of, whole_front}

-- no try was refused
pub none_lost : (w x : WorldData) (k m : Knowledge) → m.tries ≡ k.tries → LosesNone w x k m
none_lost w x k m e = record { gained = record { rest = []; is = e ∙ sym (append-nil k.tries) }; all = λ n d less. absurd (omega arith) }

-- nothing was done, and what is known holds
pub outcome-still : (w : WorldData) (k m : Knowledge) → IsConsistent w → HoldsIn w m → IsGrown k m → m.mine ≡ k.mine → m.faults ≡ k.faults
    → (k.seen ≡ log_of w → m.seen ≡ log_of w) → (k.seen ≡ log_of w → LosesNone w w k m) → LoneOutcome w w k m
outcome-still w k m c h g mine faults seen tries = record {
  turn = record {
    later = later_refl w;
    consistent = c;
    holds = h;
    grown = g;
    own = same_own w w k m mine;
    faults = omega (arith, faults);
  };
  seen = seen;
  tries = tries;
  all = ap (λ (vs : List ℕ). length w.records + length vs) (sym mine);
  met = omega (arith, faults);
}

-- the same, where no try was refused
pub outcome-quiet : (w : WorldData) (k m : Knowledge) → IsConsistent w → HoldsIn w m → IsGrown k m → m.mine ≡ k.mine → m.faults ≡ k.faults
    → (k.seen ≡ log_of w → m.seen ≡ log_of w) → m.tries ≡ k.tries → LoneOutcome w w k m
outcome-quiet w k m c h g mine faults seen tries = outcome-still w k m c h g mine faults seen (λ e. none_lost w w k m tries)

-- want of memory
pub outcome-refused : (w : WorldData) (k : Knowledge) → IsConsistent w → HoldsIn w k → LoneOutcome w w k k
outcome-refused w k c h = outcome-quiet w k k c h (grows_refl k) refl refl (λ e. e) refl

noted-holds : (x : WorldData) (k : Knowledge) (at : Spot) → HoldsIn x k → k.faults + 1 ≤ x.tally → HoldsIn x (fault_noted at k)
noted-holds x k at h room = record {
  terms = h.terms;
  seen = h.seen;
  mine = h.mine;
  told = h.told;
  reported = h.reported;
  within = h.within;
  published = h.published;
  kept = h.kept;
  marks = h.marks;
  marked = h.marked;
  faults = room;
}

pub noted-grown : (k : Knowledge) (at : Spot) → IsGrown k (fault_noted at k)
noted-grown k at = record {
  terms = refl;
  seen = starts_refl _;
  mine = starts_refl _;
  rising = λ r. r;
  told = le_refl _;
  published = le_refl _;
  reported = le_refl _;
  kept = starts_refl _;
  marks = starts_refl _;
  cleared = starts_refl _;
  takens = starts_refl _;
  absents = starts_refl _;
  put = starts_refl _;
  failed = starts_more _ _;
  tries = starts_refl _;
  heard = starts_refl _;
  asks = le_refl _;
  lists = le_refl _;
  gets = le_refl _;
  looks = le_refl _;
  faults = omega arith;
}

-- a later world with as many commits has the same log
pub same_log_of : (w x : WorldData) → IsLater w x → x.records ≡ w.records → log_of x ≡ log_of w
same_log_of w x later records =
    let long : length (log_of x) ≡ length (log_of w) = length-log_of x ∙ ap (λ (es : List Entry). length es) records ∙ sym (length-log_of w) in
    whole_front (log_of x) (log_of w) later.log long

-- the store failed: its count rose by one, and the world is what it was or what the call would have made of it
pub outcome-failed : (w x : WorldData) (n : ℕ) (k : Knowledge) (at : Spot) → IsConsistent x → HoldsIn w k → IsLater w x
    → x.tally ≡ w.tally → x.records ≡ w.records → n ≡ w.tally + 1 → LoneOutcome w (record x { tally = n }) k (fault_noted at k)
outcome-failed w x n k at c h later same records rose =
    let z : WorldData = record x { tally = n } in
    let last : IsLater w z = later_trans w x z later (later_tally x n (omega arith)) in
    record {
      turn = record {
        later = last;
        consistent = consistent_tally x n c;
        holds = noted-holds z k at (holds_later w z k h last) (let f = h.faults in omega arith);
        grown = noted-grown k at;
        own = same_own w z k (fault_noted at k) refl;
        faults = omega arith;
      };
      seen = λ e. e ∙ sym (same_log_of w x later records);
      tries = λ e. none_lost w z k (fault_noted at k) refl;
      all = ap (λ (es : List Entry). length es + length k.mine) records;
      met = omega arith;
    }

-- a number below the larger of two
pub below_max : (v a b : ℕ) → v < max a b → (v < a) ⊎ (v < b)
below_max v a b h = elim (below_or_above v a) [ inl below ↦ inl below | inr above ↦ inr (omega arith) ]

pub marks_more : (n p : ℕ) (ms : List Mark) → n ≤ p → All (λ (m : Mark). m.version < n) ms → All (λ (m : Mark). m.version < p) ms
marks_more n p ms more h = All-weaker (λ (m : Mark). m.version < n) (λ (m : Mark). m.version < p) (λ m less. le_trans _ _ _ less more) ms h

pub mine_more : (n p : ℕ) (vs : List ℕ) → n ≤ p → All (λ v. v < n) vs → All (λ v. v < p) vs
mine_more n p vs more h = All-weaker (λ v. v < n) (λ v. v < p) (λ v less. le_trans _ _ _ less more) vs h
