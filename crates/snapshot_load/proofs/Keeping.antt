-- The staged files that became known in the turns of a load.
use Rattle.std.proofs.Common.{◌≡◌, ◌<◌, ◌≤◌, ◌+◌, ◌*◌, ℕ, Bool, List, [], ◌∷◌, ◌++◌, length, refl, sym, ◌∙◌, ap, subst, arith, append_assoc, append-nil}
use Rattle.std.specs.Prelude.{All}
use Rattle.std.proofs.lemmas.List.Elements.{All-nil, All-push, All-append}
use Rattle.log_names.specs.declared.LogName.{LogName}
use Rattle.log_names.specs.declared.LogName.TheVariants as name
use Rattle.table_model.specs.declared.answers.Spot.{Spot}
use Rattle.table_model.specs.declared.answers.StepFault.{StepFault}
use Rattle.table_model.specs.declared.answers.StepFault.TheVariants as step
use Rattle.table_model.specs.Knowledge.{Knowledge, Triple}
use Rattle.table_model.specs.Conditions.{triple}
use Rattle.table_model.specs.Learning.{IsFaultAt, IsOnlyMemory, WholeLearnt, AbsentLearnt, CommitsLearnt, ListLearnt}
use Rattle.commit_catalog.specs.declared.Commits.{Commits}
use Rattle.snapshot_load.specs.Reading.{KeepsBelow, OnlyReads, OnlyLoads}

pub keeps_none : (count : ℕ) (k m : Knowledge) → m.kept ≡ k.kept → KeepsBelow count k m
keeps_none count k m e = record { kept = record { rest = []; is = e ∙ sym (append-nil k.kept) }; below = All-nil (λ t. t.version < count) }

pub keeps_one : (count version id : ℕ) (text : List ℕ) (k m : Knowledge) → version < count → m.kept ≡ k.kept ++ triple version id text ∷ [] → KeepsBelow count k m
keeps_one count version id text k m less e =
    record { kept = record { rest = triple version id text ∷ []; is = e }; below = All-push (λ t. t.version < count) [] (triple version id text) (All-nil (λ t. t.version < count)) less }

pub keeps_both : (n count : ℕ) (j k m : Knowledge) → n ≤ count → KeepsBelow n j k → KeepsBelow count k m → KeepsBelow count j m
keeps_both n count j k m less g h = record {
  kept = record {
    rest = g.kept.rest ++ h.kept.rest;
    is = h.kept.is ∙ ap (λ (l : List Triple). l ++ h.kept.rest) g.kept.is ∙ append_assoc j.kept g.kept.rest h.kept.rest;
  };
  below = All-append (λ t. t.version < count) g.kept.rest h.kept.rest (λ i d within. (let b = g.below i d within in omega (arith, b, less))) h.below;
}

-- what one turn that reads a file leaves

abbrev only_read : Knowledge → Knowledge → Knowledge
only_read k x = record k { published = x.published; kept = x.kept; absents = x.absents; gets = x.gets; failed = x.failed; faults = x.faults }

pub reads_published : (tells : Bool) (version : ℕ) (text : List ℕ) (k m : Knowledge) → WholeLearnt tells (name.Published version) text k m → OnlyReads 1 k m
reads_published tells version text k m h = record {
  same = h.same ∙ ap (only_read k) (sym h.same);
  gets = (let e = ap (λ (x : Knowledge). x.gets) h.same in omega (arith, e));
  kept = keeps_none (length k.seen) k m (ap (λ (x : Knowledge). x.kept) h.same);
}

pub reads_staged : (tells : Bool) (version id : ℕ) (text : List ℕ) (k m : Knowledge) → version < length k.seen → WholeLearnt tells (name.Staged version id) text k m → OnlyReads 1 k m
reads_staged tells version id text k m less h = record {
  same = h.same ∙ ap (only_read k) (sym h.same);
  gets = (let e = ap (λ (x : Knowledge). x.gets) h.same in omega (arith, e));
  kept = keeps_one (length k.seen) version id text k m less (ap (λ (x : Knowledge). x.kept) h.same);
}

pub reads_absent : (tells : Bool) (n : LogName) (k m : Knowledge) → AbsentLearnt tells n k m → OnlyReads 1 k m
reads_absent tells n k m h = record {
  same = h.same ∙ ap (only_read k) (sym h.same);
  gets = (let e = ap (λ (x : Knowledge). x.gets) h.same in omega (arith, e));
  kept = keeps_none (length k.seen) k m (ap (λ (x : Knowledge). x.kept) h.same);
}

pub reads_fault : (at : Spot) (k : Knowledge) (f : StepFault) (m : Knowledge) → IsFaultAt at k f m → OnlyReads 1 k m
reads_fault at k (step.Fault found) m h = record {
  same = h.1 ∙ ap (only_read k) (sym h.1);
  gets = (let e = ap (λ (x : Knowledge). x.gets) h.1 in omega (arith, e));
  kept = keeps_none (length k.seen) k m (ap (λ (x : Knowledge). x.kept) h.1);
}
reads_fault at k step.Memory m h = record {
  same = h ∙ ap (only_read k) (sym h);
  gets = (let e = ap (λ (x : Knowledge). x.gets) h in omega (arith, e));
  kept = keeps_none (length k.seen) k m (ap (λ (x : Knowledge). x.kept) h);
}

pub reads_up : (n p : ℕ) (k m : Knowledge) → n ≤ p → OnlyReads n k m → OnlyReads p k m
reads_up n p k m less h = record { same = h.same; gets = (let g = h.gets in omega (arith, g, less)); kept = h.kept }

-- what the turns of a load leave

abbrev only_loaded : Knowledge → Knowledge → Knowledge
only_loaded k x = record k {
  seen = x.seen;
  published = x.published;
  reported = x.reported;
  kept = x.kept;
  marks = x.marks;
  listed = x.listed;
  absents = x.absents;
  failed = x.failed;
  heard = x.heard;
  asks = x.asks;
  lists = x.lists;
  gets = x.gets;
  faults = x.faults;
}

pub loads_none : (lists versions : ℕ) (k m : Knowledge) → m ≡ k → OnlyLoads lists versions k m
loads_none lists versions k m e = record {
  same = e ∙ ap (only_loaded k) (sym e);
  asks = (let n = ap (λ (x : Knowledge). x.asks) e in omega (arith, n));
  lists_most = (let n = ap (λ (x : Knowledge). x.lists) e in omega (arith, n));
  gets = (let n = ap (λ (x : Knowledge). x.gets) e in omega (arith, n));
  kept = keeps_none (length m.seen) k m (ap (λ (x : Knowledge). x.kept) e);
}

pub loads_refused : (lists versions : ℕ) (k : Knowledge) (f : StepFault) (m : Knowledge) → IsOnlyMemory k f m → OnlyLoads lists versions k m
loads_refused lists versions k (step.Fault at) m h = absurd h
loads_refused lists versions k step.Memory m h = loads_none lists versions k m h

pub loads_asked : (tells : Bool) (lists versions : ℕ) (k : Knowledge) (c : Commits) (m : Knowledge) → CommitsLearnt tells k c m → OnlyLoads lists versions k m
loads_asked tells lists versions k c m h = record {
  same = h.same ∙ ap (only_loaded k) (sym h.same);
  asks = (let n = ap (λ (x : Knowledge). x.asks) h.same in omega (arith, n));
  lists_most = (let n = ap (λ (x : Knowledge). x.lists) h.same in omega (arith, n));
  gets = (let n = ap (λ (x : Knowledge). x.gets) h.same in omega (arith, n));
  kept = keeps_none (length m.seen) k m (ap (λ (x : Knowledge). x.kept) h.same);
}

-- after the catalogue turn: the listing, and the reading of files

loads_then : (versions : ℕ) (k j m : Knowledge) → OnlyLoads 0 0 k j → m ≡ only_loaded j m → m.asks ≡ j.asks → m.lists ≤ j.lists + 1 → m.gets ≡ j.gets → m.kept ≡ j.kept → m.seen ≡ j.seen
    → OnlyLoads 1 versions k m
loads_then versions k j m h same asks lists gets kept seen =
    let asked = h.asks in
    let listed = h.lists_most in
    let got = h.gets in
    record {
      same = same ∙ ap (λ (x : Knowledge). only_loaded x m) h.same;
      asks = omega (arith, asked, asks);
      lists_most = omega (arith, listed, lists);
      gets = omega (arith, got, gets);
      kept =
          let count : length j.seen ≡ length m.seen = ap length (sym seen) in
          keeps_both (length m.seen) (length m.seen) k j m (omega arith) (subst (λ (n : ℕ). KeepsBelow n k j) count h.kept) (keeps_none (length m.seen) j m kept);
    }

pub loads_listed : (tells : Bool) (versions : ℕ) (k j : Knowledge) (names : List LogName) (m : Knowledge) → OnlyLoads 0 0 k j → ListLearnt tells j names m → OnlyLoads 1 versions k m
loads_listed tells versions k j names m h l =
    loads_then versions k j m h (l.same ∙ ap (only_loaded j) (sym l.same)) (ap (λ (x : Knowledge). x.asks) l.same)
    (let n = ap (λ (x : Knowledge). x.lists) l.same in omega (arith, n)) (ap (λ (x : Knowledge). x.gets) l.same) (ap (λ (x : Knowledge). x.kept) l.same) (ap (λ (x : Knowledge). x.seen) l.same)

pub loads_unlisted : (at : Spot) (versions : ℕ) (k j : Knowledge) (f : StepFault) (m : Knowledge) → OnlyLoads 0 0 k j → IsFaultAt at j f m → OnlyLoads 1 versions k m
loads_unlisted at versions k j (step.Fault found) m h l =
    loads_then versions k j m h (l.1 ∙ ap (only_loaded j) (sym l.1)) (ap (λ (x : Knowledge). x.asks) l.1)
    (let n = ap (λ (x : Knowledge). x.lists) l.1 in omega (arith, n)) (ap (λ (x : Knowledge). x.gets) l.1) (ap (λ (x : Knowledge). x.kept) l.1) (ap (λ (x : Knowledge). x.seen) l.1)
loads_unlisted at versions k j step.Memory m h l =
    loads_then versions k j m h (l ∙ ap (only_loaded j) (sym l)) (ap (λ (x : Knowledge). x.asks) l)
    (let n = ap (λ (x : Knowledge). x.lists) l in omega (arith, n)) (ap (λ (x : Knowledge). x.gets) l) (ap (λ (x : Knowledge). x.kept) l) (ap (λ (x : Knowledge). x.seen) l)

pub loads_read : (lists versions reads : ℕ) (k j m : Knowledge) → OnlyLoads lists 0 k j → OnlyReads reads j m → reads ≤ 2 * versions → OnlyLoads lists versions k m
loads_read lists versions reads k j m h r less =
    let e : m ≡ only_read j m = r.same in
    let asks = ap (λ (x : Knowledge). x.asks) e in
    let listed = ap (λ (x : Knowledge). x.lists) e in
    let seen : m.seen ≡ j.seen = ap (λ (x : Knowledge). x.seen) e in
    let asked = h.asks in
    let listed_most = h.lists_most in
    let got = h.gets in
    let gets = r.gets in
    record {
      same = e ∙ ap (λ (x : Knowledge). only_read x m) h.same ∙ ap (only_loaded k) (sym e);
      asks = omega (arith, asked, asks);
      lists_most = omega (arith, listed_most, listed);
      gets = omega (arith, got, gets, less);
      kept =
          let count : length j.seen ≡ length m.seen = ap length (sym seen) in
          keeps_both (length j.seen) (length m.seen) k j m (omega (arith, count)) h.kept (subst (λ (n : ℕ). KeepsBelow n j m) count r.kept);
    }
