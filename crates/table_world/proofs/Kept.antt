-- Each turn keeps the world consistent.
use Rattle.std.proofs.Common.{◌≡◌, ◌<◌, ◌≤◌, ◌^◌, ℕ, List, length, sym, ◌∙◌, ap, subst, arith}
use Rattle.std.specs.Prelude.{Result, ℤ, Vec}
use Rattle.std.specs.declared.alloc.Global.{Global}
use Rattle.std.proofs.Common.{Bool, true, false, max}
use Rattle.log_names.specs.declared.LogName.{LogName}
use Rattle.commit_catalog.specs.Records.{CatalogData}
use Rattle.commit_catalog.specs.declared.Limits.{Limits}
use Rattle.commit_catalog.specs.declared.Entry.{Entry}
use Rattle.commit_catalog.specs.Ratifying.{RatifyAnswers, records_after}
use Rattle.object_store.specs.Files.{Files}
use Rattle.table_world.specs.Worlds.{world_of}
use Rattle.commit_catalog.specs.declared.Ratify.{Ratify}
use Rattle.object_store.specs.declared.store.Bytes.{Bytes}
use Rattle.object_store.specs.declared.store.Put.{Put}
use Rattle.object_store.specs.declared.store.Gone.{Gone}
use Rattle.table_model.specs.declared.answers.StepFault.{StepFault}
use Rattle.table_model.specs.declared.answers.Staged.{Staged}
use Rattle.table_model.specs.World.{WorldData}
use Rattle.table_model.specs.Consistency.{IsConsistent}
use Rattle.table_model.specs.Turns.{ListTurn, GetTurn, StageTurn, RatifyTurn, PublishTurn, ReportTurn, ClearTurn, Ratifies, Reports}
use Rattle.table_model.specs.Knowledge.{Knowledge, newcomer}
use Rattle.table_model.specs.Holding.{HoldsIn}
use Rattle.table_model.specs.Conditions.{MayRatify, MayPublish, MayReport, MayClear}
use Rattle.table_model.proofs.Worlds.{holds-newcomer}
use Rattle.table_model.proofs.Knowing.{seen_length}
use Rattle.table_model.proofs.Reading.{outcome-list, outcome-get}
use Rattle.table_model.proofs.Ratifying.{outcome-ratify}
use Rattle.table_model.proofs.Calls.{outcome-stage, outcome-publish, outcome-report, outcome-clear}

pub kept_list : (w x : WorldData) (r : Result (Vec LogName Global) StepFault) → IsConsistent w → ListTurn w r x → IsConsistent x
kept_list w x r c t = (outcome-list w x newcomer r c (holds-newcomer w) t).turn.consistent

pub kept_get : (n : LogName) (w x : WorldData) (r : Result Bytes StepFault) → IsConsistent w → GetTurn n w r x → IsConsistent x
kept_get n w x r c t = (outcome-get n w x newcomer r c (holds-newcomer w) t).turn.consistent

pub kept_stage : (version id : ℕ) (text : List ℕ) (w x : WorldData) (r : Result Staged StepFault) → IsConsistent w → version < 2 ^ 64 → id < 2 ^ 128
    → StageTurn version id text w r x → IsConsistent x
kept_stage version id text w x r c small tiny t = (outcome-stage version id text w x newcomer r c (holds-newcomer w) small tiny t).turn.consistent

abbrev pub Ratifiable : ℕ → ℕ → ℤ → WorldData → Type 0
Ratifiable version id time w = (k : Knowledge) × HoldsIn w k × MayRatify w.tells k version id time

abbrev pub Publishable : ℕ → List ℕ → WorldData → Type 0
Publishable version text w = (k : Knowledge) × HoldsIn w k × MayPublish w.tells k version text

abbrev pub Reportable : ℕ → WorldData → Type 0
Reportable count w = (k : Knowledge) × HoldsIn w k × MayReport k count

abbrev pub Clearable : ℕ → WorldData → Type 0
Clearable version w = (k : Knowledge) × HoldsIn w k × MayClear k version

pub kept_ratify : (version id : ℕ) (time : ℤ) (w x : WorldData) (r : Result Ratify StepFault) → IsConsistent w → Ratifiable version id time w
    → RatifyTurn version id time w r x → IsConsistent x
kept_ratify version id time w x r c m t = (outcome-ratify version id time w x m.0 r c m.1 m.2 t).turn.consistent

pub kept_publish : (version : ℕ) (text : List ℕ) (w x : WorldData) (r : Result Put StepFault) → IsConsistent w → version < 2 ^ 64 → Publishable version text w
    → PublishTurn version text w r x → IsConsistent x
kept_publish version text w x r c small m t = (outcome-publish version text w x m.0 r c m.1 small m.2 t).turn.consistent

pub kept_report : (count : ℕ) (w x : WorldData) (r : Result ℕ StepFault) → IsConsistent w → Reportable count w → ReportTurn count w r x → IsConsistent x
kept_report count w x r c m t = (outcome-report count w x m.0 r c m.1 m.2 t).turn.consistent

pub kept_clear : (version id : ℕ) (w x : WorldData) (r : Result Gone StepFault) → IsConsistent w → version < 2 ^ 64 → id < 2 ^ 128 → Clearable version w
    → ClearTurn version id w r x → IsConsistent x
kept_clear version id w x r c small tiny m t = (outcome-clear version id w x m.0 r c m.1 small tiny m.2 t).turn.consistent

-- the version of a ratification is at most the number of commits
pub ratifiable_below : (version id : ℕ) (time : ℤ) (w : WorldData) → Ratifiable version id time w → version ≤ length w.records
ratifiable_below version id time w m = let s = seen_length w m.0 m.1 in let b = m.2.below in omega arith

pub reportable_below : (count : ℕ) (w : WorldData) → Reportable count w → count ≤ length w.records
reportable_below count w m = let s = seen_length w m.0 m.1 in let b = m.2.known in omega arith

-- what the catalogue did, as a turn
pub catalog_ratified : (c d e : CatalogData) (files : Files) (count first : ℕ) (tells : Bool) (version id : ℕ) (time : ℤ) (a : Ratify)
    → d ≡ record c { room = d.room } → RatifyAnswers d.limits (length d.records) d.reported version a
    → e ≡ record d { records = records_after a d.records id time; room = e.room }
    → Ratifies (world_of c files count first tells) version id time a (world_of e files count first tells)
catalog_ratified c d e files count first tells version id time a same answer after =
    let limits : d.limits ≡ c.limits = ap (λ (x : CatalogData). x.limits) same in
    let records : d.records ≡ c.records = ap (λ (x : CatalogData). x.records) same in
    let reported : d.reported ≡ c.reported = ap (λ (x : CatalogData). x.reported) same in
    let P : Limits → List Entry → ℕ → Type 0 = λ l r n. RatifyAnswers l (length r) n version a in
    record {
      answer = subst (λ l. P l c.records c.reported) limits (subst (λ r. P d.limits r c.reported) records (subst (λ n. P d.limits d.records n) reported answer));
      after = ap (λ (x : CatalogData). world_of x files count first tells) after
          ∙ ap (λ (x : CatalogData). let w : WorldData = record (world_of x files count first tells) { records = records_after a x.records id time } in w) same;
    }

pub catalog_reported : (c d : CatalogData) (files : Files) (count first : ℕ) (tells : Bool) (n answer : ℕ)
    → answer ≡ max c.reported n → d ≡ record c { reported = answer } → Reports (world_of c files count first tells) n answer (world_of d files count first tells)
catalog_reported c d files count first tells n answer e same = record {
  larger = e;
  after = ap (λ (x : CatalogData). world_of x files count first tells) same;
}

pub not_recorded : (b : Bool) (P : Type 0) → b ≡ false → (P → b ≡ true) → ¬ P
not_recorded b P e h = λ p. let k : false ≡ true = sym e ∙ h p in cc

pub below_records : (d c : CatalogData) (version n : ℕ) → d ≡ record c { room = d.room } → version ≤ length c.records → version ≤ length d.records
below_records d c version n same le = let e = ap (λ (x : CatalogData). length x.records) same in omega (arith, e, le)
