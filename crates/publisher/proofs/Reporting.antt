-- All versions published and reported, in a world that is told.
use Rattle.std.proofs.Common.{◌≡◌, ◌≤◌, ℕ, Bool, length, refl, sym, ◌∙◌, ap, subst, arith, Option, Some, None, max}
use Rattle.std.specs.Result.{IsErrAnd}
use Rattle.std.specs.Prelude.{Result, Ok, Err, IfSome}
use Rattle.commit_catalog.specs.declared.Commits.{Commits}
use Rattle.commit_catalog.specs.Ratifying.{TellsCommits}
use Rattle.table_model.specs.World.{WorldData}
use Rattle.table_model.specs.Consistency.{IsConsistent}
use Rattle.table_model.specs.declared.answers.StepFault.{StepFault}
use Rattle.table_model.specs.declared.answers.StepFault.TheVariants as step
use Rattle.table_model.specs.Knowledge.{Knowledge}
use Rattle.table_model.specs.Holding.{HoldsInTold}
use Rattle.table_model.specs.Turns.{TellsTurn, CommitsTurn, ReportTurn}
use Rattle.publisher.specs.declared.answers.PublishError.{PublishError}
use Rattle.publisher.specs.declared.answers.PublishError.TheVariants as publish
use Rattle.publisher.specs.Causes.{TurnCause}
use Rattle.publisher.specs.Converting.{of_fault}
use Rattle.publisher.specs.Worlds.{KeepsLog, PublishesAll, PublishTurns, PublishesUpTo, ArePublished, AsCommitsTell, SameCatalogue, IsKept}
use Rattle.publisher.proofs.Telling.{tells_both, tells_as, tells_after}

pub keeps_refl : (w : WorldData) → KeepsLog w w
keeps_refl w = record { records = refl; tells = refl; log = refl }

pub keeps_same : (w x : WorldData) → x ≡ w → KeepsLog w x
keeps_same w x e = let P : WorldData → Type 0 = λ y. KeepsLog w y in subst P (sym e) (keeps_refl w)

pub keeps_trans : (w x y : WorldData) → KeepsLog w x → KeepsLog x y → KeepsLog w y
keeps_trans w x y p q = record { records = q.records ∙ p.records; tells = q.tells ∙ p.tells; log = q.log ∙ p.log }

pub keeps_kept : (w x : WorldData) → SameCatalogue w x → IsKept w x → KeepsLog w x
keeps_kept w x s k = record { records = s.records; tells = s.tells; log = k.log }

-- a world that is told is consistent
pub told_consistent : (o : Option WorldData) (k : Knowledge) → HoldsInTold o k → IfSome o IsConsistent
told_consistent None k h = tt
told_consistent (Some w) k h = h.0

-- a turn from a world of which something is known
pub tells_from : (Q : WorldData → Type 0) (R S : WorldData → WorldData → Type 0) (o p : Option WorldData) → IfSome o Q → ((w x : WorldData) → Q w → R w x → S w x)
    → TellsTurn R o p → TellsTurn S o p
tells_from Q R S None p q h e = e
tells_from Q R S (Some w) None q h e = e
tells_from Q R S (Some w) (Some x) q h e = h w x q e

-- the catalogue turn leaves the world as it is
pub commits_same : (r : Result Commits StepFault) (w x : WorldData) → CommitsTurn w r x → x ≡ w
commits_same (Ok c) w x t = t.1
commits_same (Err step.Memory) w x t = t
commits_same (Err (step.Fault at)) w x t = absurd t

pub commits_before : (r : Result Commits StepFault) (o p : Option WorldData) (k : Knowledge) → TellsTurn (λ w x. CommitsTurn w r x) o p → HoldsInTold p k → IfSome o IsConsistent
commits_before r None p k t h = tt
commits_before r (Some w) None k t h = absurd t
commits_before r (Some w) (Some x) k t h = subst IsConsistent (commits_same r w x t) h.0

-- the catalogue turn
commits_tell : (c : Commits) (w x : WorldData) → CommitsTurn w (Ok c) x → TellsCommits x.records x.reported c
commits_tell c w x t = let P : WorldData → Type 0 = λ y. TellsCommits y.records y.reported c in subst P (sym t.1) t.0

pub commits_told : (c : Commits) (o p : Option WorldData) → TellsTurn (λ w x. CommitsTurn w (Ok c) x) o p → AsCommitsTell c p
commits_told c o p t = tells_after (λ w x. CommitsTurn w (Ok c) x) _ o p (commits_tell c) t

-- the catalogue turn leaves the world
pub commits_then : (R : WorldData → WorldData → Type 0) (c : Commits) (o p q : Option WorldData) → TellsTurn (λ w x. CommitsTurn w (Ok c) x) o p
    → TellsTurn R p q → TellsTurn R o q
commits_then R c o p q t u = tells_both (λ w x. CommitsTurn w (Ok c) x) R R o p q (λ w x y a b. let P : WorldData → Type 0 = λ z. R z y in subst P a.1 b) t u

-- the number of published versions was reported
report_turn : (c : Commits) (n : ℕ) (w x y : WorldData) → IsConsistent w → TellsCommits w.records w.reported c → c.reported ≤ c.count → PublishesUpTo c.count w x
    → ReportTurn c.count x (Ok n) y → PublishesAll w y
report_turn c n w x y con t within p r =
    let records : length x.records ≡ c.count = ap length p.same.records ∙ sym t.count in
    let all : n ≡ c.count = omega (arith, r.larger, p.same.reported, t.reported) in
    let is : y ≡ record x { reported = max x.reported c.count } = r.after ∙ ap (λ (m : ℕ). let z : WorldData = record x { reported = m } in z) r.larger in
    let P : WorldData → Type 0 = λ z. KeepsLog w z in
    let Q : WorldData → Type 0 = λ z. ArePublished (length z.records) z in
    let keeps : KeepsLog w (record x { reported = max x.reported c.count }) = record {
      records = p.same.records;
      tells = p.same.tells;
      log = (p.kept con).log;
    } in
    record {
      keeps = subst P (sym is) keeps;
      reported = ap (λ (z : WorldData). z.reported) r.after ∙ all ∙ sym records ∙ sym (ap (λ (z : WorldData). length z.records) r.after);
      published = subst Q (sym is) (λ tells version less. p.published con tells version (omega (arith, less, records)));
    }

pub report_tells : (c : Commits) (n : ℕ) (o p q : Option WorldData) → IfSome o IsConsistent → AsCommitsTell c o → c.reported ≤ c.count
    → TellsTurn (PublishesUpTo c.count) o p → TellsTurn (λ w x. ReportTurn c.count w (Ok n) x) p q → TellsTurn PublishesAll o q
report_tells c n None p q con t within u v = let P : Option WorldData → Type 0 = λ r. TellsTurn (λ w x. ReportTurn c.count w (Ok n) x) r q in subst P u v
report_tells c n (Some w) None q con t within u v = absurd u
report_tells c n (Some w) (Some x) None con t within u v = absurd v
report_tells c n (Some w) (Some x) (Some y) con t within u v = report_turn c n w x y con t within u v

-- refusals

not_no_table : (f : StepFault) → of_fault f ≡ publish.NoTable → ⊥
not_no_table (step.Fault at) e = cc
not_no_table step.Memory e = cc

cause_not : (e : PublishError) (tells : Bool) (k m : Knowledge) → TurnCause tells e k m → e ≡ publish.NoTable → ⊥
cause_not e tells k m cause is = let P : PublishError → Type 0 = λ d. TurnCause tells d k m in subst P is cause

err_publishes : {A : Type 0} (r : Result A PublishError) (e : PublishError) (w x : WorldData) → IsErrAnd r (λ d. d ≡ e) → (e ≡ publish.NoTable → ⊥) → KeepsLog w x → PublishTurns r w x
err_publishes (Ok a) e w x h other k = absurd h
err_publishes (Err publish.NoTable) e w x h other k = absurd (other (sym h))
err_publishes (Err (publish.Fault at)) e w x h other k = k
err_publishes (Err publish.Memory) e w x h other k = k

pub publish_unasked : {A : Type 0} (r : Result A PublishError) (f : StepFault) (o p : Option WorldData) → IsErrAnd r (λ d. d ≡ of_fault f)
    → TellsTurn (λ w x. CommitsTurn w (Err f) x) o p → TellsTurn (PublishTurns r) o p
publish_unasked r f o p because t =
    tells_as (λ w x. CommitsTurn w (Err f) x) (PublishTurns r) o p
    (λ w x u. err_publishes r (of_fault f) w x because (not_no_table f) (keeps_same w x (commits_same (Err f) w x u))) t

none_world : (c : Commits) (w x : WorldData) → IsConsistent w → c.count ≡ 0 → CommitsTurn w (Ok c) x → PublishesAll w x × (length x.records ≡ 0)
none_world c w x con zero_count u =
    let P : WorldData → Type 0 = λ y. PublishesAll w y × (length y.records ≡ 0) in
    let none : length w.records ≡ 0 = sym u.0.count ∙ zero_count in
    subst P (sym u.1) (record { keeps = keeps_refl w; reported = omega (arith, con.sized.reported, none); published = λ tells version less. absurd (omega (arith, less, none)) }, none)

pub publish_none : {A : Type 0} (r : Result A PublishError) (c : Commits) (o p : Option WorldData) (k : Knowledge) → r ≡ Err publish.NoTable → c.count ≡ 0
    → TellsTurn (λ w x. CommitsTurn w (Ok c) x) o p → HoldsInTold p k → TellsTurn (PublishTurns r) o p
publish_none r c o p k is zero_count t h =
    tells_from IsConsistent (λ w x. CommitsTurn w (Ok c) x) (PublishTurns r) o p (commits_before (Ok c) o p k t h)
    (λ w x con u. let P : Result _ PublishError → Type 0 = λ s. PublishTurns s w x in subst P (sym is) (none_world c w x con zero_count u)) t

pub publish_refused : {A : Type 0} (r : Result A PublishError) (e : PublishError) (tells : Bool) (j k m : Knowledge) (c : Commits) (o p q : Option WorldData) → IsErrAnd r (λ d. d ≡ e)
    → TurnCause tells e k m → TellsTurn (λ w x. CommitsTurn w (Ok c) x) o p → HoldsInTold p j → TellsTurn (PublishesUpTo 0) p q → TellsTurn (PublishTurns r) o q
publish_refused r e tells j k m c o p q because cause t h v =
    commits_then (PublishTurns r) c o p q t
    (tells_from IsConsistent (PublishesUpTo 0) (PublishTurns r) p q (told_consistent p j h)
    (λ w x con u. err_publishes r e w x because (cause_not e tells k m cause) (keeps_kept w x u.same (u.kept con))) v)

report_same : (count : ℕ) (f : StepFault) (x y : WorldData) → ReportTurn count x (Err f) y → y ≡ x
report_same count step.Memory x y t = t
report_same count (step.Fault at) x y t = absurd t

pub report_refused : {A : Type 0} (r : Result A PublishError) (f : StepFault) (count : ℕ) (j : Knowledge) (c : Commits) (o p q s : Option WorldData) → IsErrAnd r (λ d. d ≡ of_fault f)
    → TellsTurn (λ w x. CommitsTurn w (Ok c) x) o p → HoldsInTold p j → TellsTurn (PublishesUpTo 0) p q → TellsTurn (λ w x. ReportTurn count w (Err f) x) q s
    → TellsTurn (PublishTurns r) o s
report_refused r f count j c o p q s because t h v z =
    let both : TellsTurn (PublishesUpTo 0) p s =
    tells_both (PublishesUpTo 0) (λ w x. ReportTurn count w (Err f) x) (PublishesUpTo 0) p q s
    (λ w x y a b. let P : WorldData → Type 0 = λ v. PublishesUpTo 0 w v in subst P (sym (report_same count f x y b)) a) v z in
    commits_then (PublishTurns r) c o p s t
    (tells_from IsConsistent (PublishesUpTo 0) (PublishTurns r) p s (told_consistent p j h)
    (λ w x con u. err_publishes r (of_fault f) w x because (not_no_table f) (keeps_kept w x u.same (u.kept con))) both)
