-- The staged files that became known in the turns of a publishing.
use Rattle.std.proofs.Common.{◌≡◌, ◌<◌, ◌≤◌, ℕ, Bool, List, [], ◌∷◌, ◌++◌, length, refl, sym, ◌∙◌, ap, subst, arith, append_assoc, append-nil}
use Rattle.std.specs.Prelude.{Ok}
use Rattle.std.proofs.lemmas.List.Elements.{All-nil, All-push, All-append}
use Rattle.log_names.specs.declared.LogName.TheVariants as name
use Rattle.object_store.specs.declared.store.Bytes.{Bytes}
use Rattle.object_store.specs.declared.store.Bytes.TheVariants as bytes
use Rattle.table_model.specs.declared.answers.Spot.{Spot}
use Rattle.table_model.specs.declared.answers.StepFault.{StepFault}
use Rattle.table_model.specs.declared.answers.StepFault.TheVariants as step
use Rattle.table_model.specs.Knowledge.{Knowledge, Triple, IsGrown}
use Rattle.table_model.specs.Conditions.{triple}
use Rattle.table_model.specs.Learning.{IsFaultAt, IsOnlyMemory, LearnsGet, CommitsLearnt}
use Rattle.commit_catalog.specs.declared.Commits.{Commits}
use Rattle.publisher.specs.Publishing.{KeepsBelow}
use Rattle.publisher.proofs.Causing.{seen_more}

pub keeps_none : (count : ℕ) (k m : Knowledge) → m.kept ≡ k.kept → KeepsBelow count k m
keeps_none count k m e = record { kept = record { rest = []; is = e ∙ sym (append-nil k.kept) }; below = All-nil (λ t. t.version < count) }

keeps_one : (count version id : ℕ) (text : List ℕ) (k m : Knowledge) → version < count → m.kept ≡ k.kept ++ triple version id text ∷ [] → KeepsBelow count k m
keeps_one count version id text k m less e =
    record { kept = record { rest = triple version id text ∷ []; is = e }; below = All-push (λ t. t.version < count) [] (triple version id text) (All-nil (λ t. t.version < count)) less }

pub keeps_both : (n count : ℕ) (j k m : Knowledge) → n ≤ count → KeepsBelow n j k → KeepsBelow count k m → KeepsBelow count j m
keeps_both n count j k m less g h = record {
  kept = record {
    rest = g.kept.rest ++ h.kept.rest;
    is = h.kept.is ∙ ap (λ (l : List Triple). l ++ h.kept.rest) g.kept.is ∙ append_assoc j.kept g.kept.rest h.kept.rest;
  };
  below = All-append (λ t. t.version < count) g.kept.rest h.kept.rest (λ i d within. (let b = g.below i d within in omega (arith, b, less))) h.below;
}

-- a turn more, which keeps no file
pub keeps_then : (n count : ℕ) (j k m : Knowledge) → n ≤ count → KeepsBelow n j k → m.kept ≡ k.kept → KeepsBelow count j m
keeps_then n count j k m less h e = keeps_both n count j k m less h (keeps_none count k m e)

pub fault_kept : (at : Spot) (k : Knowledge) (f : StepFault) (m : Knowledge) → IsFaultAt at k f m → m.kept ≡ k.kept
fault_kept at k (step.Fault found) m h = ap (λ (x : Knowledge). x.kept) h.1
fault_kept at k step.Memory m h = ap (λ (x : Knowledge). x.kept) h

pub memory_kept : (k : Knowledge) (f : StepFault) (m : Knowledge) → IsOnlyMemory k f m → m.kept ≡ k.kept
memory_kept k (step.Fault found) m h = absurd h
memory_kept k step.Memory m h = ap (λ (x : Knowledge). x.kept) h

-- a file was read, or found absent

pub published_keeps : (count version : ℕ) (tells : Bool) (k : Knowledge) (b : Bytes) (m : Knowledge) → LearnsGet tells (name.Published version) k (Ok b) m → KeepsBelow count k m
published_keeps count version tells k bytes.Absent m h = keeps_none count k m (ap (λ (x : Knowledge). x.kept) h.same)
published_keeps count version tells k (bytes.Whole b) m h = keeps_none count k m (ap (λ (x : Knowledge). x.kept) h.same)

pub staged_keeps : (count version id : ℕ) (tells : Bool) (k : Knowledge) (b : Bytes) (m : Knowledge) → version < count
    → LearnsGet tells (name.Staged version id) k (Ok b) m → KeepsBelow count k m
staged_keeps count version id tells k bytes.Absent m less h = keeps_none count k m (ap (λ (x : Knowledge). x.kept) h.same)
staged_keeps count version id tells k (bytes.Whole b) m less h = keeps_one count version id b.items k m less (ap (λ (x : Knowledge). x.kept) h.same)

staged_seen : (version id : ℕ) (tells : Bool) (k : Knowledge) (b : Bytes) (m : Knowledge) → LearnsGet tells (name.Staged version id) k (Ok b) m → m.seen ≡ k.seen
staged_seen version id tells k bytes.Absent m h = ap (λ (x : Knowledge). x.seen) h.same
staged_seen version id tells k (bytes.Whole b) m h = ap (λ (x : Knowledge). x.seen) h.same

-- the staged file, and then the published one
pub staged_then : (version id : ℕ) (tells : Bool) (j : Knowledge) (b : Bytes) (k m : Knowledge) → version < length j.seen
    → LearnsGet tells (name.Staged version id) j (Ok b) k → KeepsBelow (length k.seen) k m → KeepsBelow (length j.seen) j m
staged_then version id tells j b k m less h g =
    keeps_both (length j.seen) (length j.seen) j k m (omega arith) (staged_keeps (length j.seen) version id tells j b k less h)
    (subst (λ (n : ℕ). KeepsBelow n k m) (ap length (staged_seen version id tells j b k h)) g)

-- the catalogue turn, and then the copies
pub commits_keep : (tells : Bool) (c : Commits) (j k m : Knowledge) → CommitsLearnt tells j c k → IsGrown k m → KeepsBelow (length k.seen) k m → KeepsBelow (length m.seen) j m
commits_keep tells c j k m a g h =
    keeps_both 0 (length m.seen) j k m (omega arith) (keeps_none 0 j k (ap (λ (x : Knowledge). x.kept) a.same))
    (keeps_then (length k.seen) (length m.seen) k m m (seen_more k m g) h refl)
