-- What holds after any work of a caller, and after any work of the one caller of a world.
use Rattle.std.proofs.Common.{◌≡◌, ◌<◌, ◌≤◌, ◌+◌, ◌++◌, ◌∙◌, ℕ, List, length, refl, sym, ap, subst, append_assoc, arith, IsTrue}
use Rattle.std.specs.Prelude.{All}
use Rattle.std.proofs.lemmas.List.Elements.{All-weaker, All-append}
use Rattle.commit_catalog.specs.declared.Limits.{Limits}
use Rattle.table_model.specs.declared.known.Try.{Try}
use Rattle.table_model.specs.World.{WorldData, log_of}
use Rattle.table_model.specs.Consistency.{IsConsistent}
use Rattle.table_model.specs.Knowledge.{Knowledge, StartsWith}
use Rattle.table_model.specs.Holding.{IsLater, GainsOwn}
use Rattle.table_model.specs.After.{IsAfter}
use Rattle.table_model.specs.Alone.{Alone, HasAll, HasPutAll, MeetsLimit, LosesNone, LoneOutcome, IsAloneAfter}
use Rattle.table_model.proofs.Growing.{le_trans, le_refl, grows_refl, grows_trans}
use Rattle.table_model.proofs.Worlds.{same_own, later_refl, later_trans, holds_later}
use Rattle.table_model.proofs.Outcomes.{none_lost}

-- what was gained, and then what was gained behind it
abbrev gained_both : {A : Type 0} (xs ys zs : List A) → StartsWith ys xs → StartsWith zs ys → StartsWith zs xs
gained_both xs ys zs p q = record { rest = p.rest ++ q.rest; is = q.is ∙ ap (λ l. l ++ q.rest) p.is ∙ append_assoc xs p.rest q.rest }

-- any caller

own_trans : (w x y : WorldData) (j k m : Knowledge) → length w.records ≤ length x.records → length x.records ≤ length y.records → GainsOwn w x j k → GainsOwn x y k m → GainsOwn w y j m
own_trans w x y j k m first second p q =
    let P : ℕ → Type 0 = λ v. (length w.records ≤ v) × (v < length y.records) in
    record {
      gained = gained_both j.mine k.mine m.mine p.gained q.gained;
      new = All-append P p.gained.rest q.gained.rest
          (All-weaker (λ v. (length w.records ≤ v) × (v < length x.records)) P (λ v h. (h.0, le_trans _ _ _ h.1 second)) p.gained.rest p.new)
          (All-weaker (λ v. (length x.records ≤ v) × (v < length y.records)) P (λ v h. (le_trans _ _ _ first h.0, h.1)) q.gained.rest q.new);
    }

pub after_refl : (w : WorldData) (k : Knowledge) → IsAfter w k w k
after_refl w k = record {
  later = later_refl w;
  consistent = λ c. c;
  holds = λ c h. h;
  grown = grows_refl k;
  own = same_own w w k k refl;
  faults = le_refl _;
}

pub after_trans : (w x y : WorldData) (j k m : Knowledge) → IsAfter w j x k → IsAfter x k y m → IsAfter w j y m
after_trans w x y j k m p q = record {
  later = later_trans w x y p.later q.later;
  consistent = λ c. q.consistent (p.consistent c);
  holds = λ c h. q.holds (p.consistent c) (p.holds c h);
  grown = grows_trans j k m p.grown q.grown;
  own = own_trans w x y j k m p.later.records q.later.records p.own q.own;
  faults = omega (arith, p.faults, q.faults);
}

-- turns of others alone, to a later consistent world
pub after_others : (w x : WorldData) (k : Knowledge) → IsLater w x → IsConsistent x → IsAfter w k x k
after_others w x k later c = record {
  later = later;
  consistent = λ before. c;
  holds = λ before h. holds_later w x k h later;
  grown = grows_refl k;
  own = same_own w x k k refl;
  faults = omega (arith, later.tally);
}

-- the one caller of a world

met_later : (w x y : WorldData) (t : Try) → IsLater x y → MeetsLimit w x t → MeetsLimit w y t
met_later w x y t second h = record { answer = h.answer; allowed = h.allowed; least = h.least; most = omega (arith, h.most, second.reported) }

limit_later : (w x y : WorldData) (t : Try) → IsLater w x → MeetsLimit x y t → MeetsLimit w y t
limit_later w x y t first h =
    let P : Limits → Type 0 = λ l. (t.version < l.versions) × (x.reported + l.unpublished ≤ t.version) × (t.version ≤ y.reported + l.unpublished) in
    let at = subst P first.limits (h.allowed, h.least, h.most) in
    record { answer = h.answer; allowed = at.0; least = omega (arith, at.1, first.reported); most = at.2 }

lost_trans : (w x y : WorldData) (j k m : Knowledge) → IsLater w x → IsLater x y → LosesNone w x j k → LosesNone x y k m → LosesNone w y j m
lost_trans w x y j k m first second p q = record {
  gained = gained_both j.tries k.tries m.tries p.gained q.gained;
  all = All-append (MeetsLimit w y) p.gained.rest q.gained.rest
      (All-weaker (MeetsLimit w x) (MeetsLimit w y) (λ t h. met_later w x y t second h) p.gained.rest p.all)
      (All-weaker (MeetsLimit x y) (MeetsLimit w y) (λ t h. limit_later w x y t first h) q.gained.rest q.all);
}

pub alone_refl : (a : Alone) → IsAloneAfter a a
alone_refl a = record { after = after_refl a.world a.known; all = λ h. h; tries = λ h. none_lost a.world a.world a.known a.known refl; met = refl; puts = λ tells p. p }

pub alone_trans : (a b c : Alone) → IsAloneAfter a b → IsAloneAfter b c → IsAloneAfter a c
alone_trans a b c p q = record {
  after = after_trans a.world b.world c.world a.known b.known c.known p.after q.after;
  all = λ h. q.all (p.all h);
  tries = λ h. lost_trans a.world b.world c.world a.known b.known c.known p.after.later q.after.later (p.tries h) (q.tries (p.all h));
  met = omega (arith, p.met, q.met);
  puts = λ tells h. q.puts (p.after.later.tells ∙ tells) (p.puts tells h);
}

abbrev alone : WorldData → Knowledge → Alone
alone w k = record { world = w; known = k }

all_after : (w x : WorldData) (k m : Knowledge) → LoneOutcome w x k m → HasAll (alone w k) → HasAll (alone x m)
all_after w x k m o h = record {
  seen = o.seen h.seen;
  mine = omega (arith, o.all, h.mine);
}

pub after_outcome : (w x : WorldData) (k m : Knowledge) → LoneOutcome w x k m → (IsTrue w.tells → HasPutAll (alone w k) → HasPutAll (alone x m))
    → IsAloneAfter (record { world = w; known = k }) (record { world = x; known = m })
after_outcome w x k m o puts = record {
  after = record {
    later = o.turn.later;
    consistent = λ before. o.turn.consistent;
    holds = λ before h. o.turn.holds;
    grown = o.turn.grown;
    own = o.turn.own;
    faults = o.turn.faults;
  };
  all = all_after w x k m o;
  tries = λ h. o.tries h.seen;
  met = o.met;
  puts = puts;
}
