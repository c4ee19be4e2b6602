-- From a session over a new table, and the drain after it, to what a run leaves.
use Rattle.std.proofs.Common.{◌≡◌, ◌<◌, ◌≤◌, ◌+◌, ◌⊎◌, inl, inr, ℕ, Bool, IsTrue, List, [], ◌∷◌, ◌++◌, length, refl, sym, ◌∙◌, ap, subst, append-nil, length-append, arith}
use Rattle.std.proofs.lemmas.List.Concat.{flat_map-append}
use Rattle.commit_catalog.specs.declared.Limits.{Limits}
use Rattle.lake_io.specs.declared.answers.End.{End}
use Rattle.lake_io.specs.declared.answers.End.TheVariants as end
use Rattle.object_store.specs.Files.{Files}
use Rattle.table_model.specs.Log.{Commit}
use Rattle.table_model.specs.World.{WorldData, log_of, commits_from}
use Rattle.table_model.specs.Consistency.{IsConsistent}
use Rattle.table_model.specs.Knowledge.{Knowledge, StartsWith, Terms, at_start}
use Rattle.table_model.specs.Holding.{terms_of, IsLater}
use Rattle.table_model.specs.declared.known.Try.{Try}
use Rattle.std.specs.Prelude.{All}
use Rattle.table_model.specs.Alone.{Alone, HasAll, HasPutAll, MeetsLimit, IsAloneAfter}
use Rattle.table_model.proofs.Knowing.{length-log_of}
use Rattle.table_model.proofs.Growing.{starts_refl}
use Rattle.answer_names.specs.Names.{Names}
use Rattle.answer_names.specs.Together.{versions_in, faults_in}
use Rattle.answer_names.specs.Whole.{IsWhole}
use Rattle.table_session.proofs.Wholes.{told_over, session_whole, names_joined}
use Rattle.table_session.proofs.Others.{run_uncontested, run_all_untaken}
use Rattle.table_world.specs.Worlds.{fresh_world}
use Rattle.table_world.specs.Starting.{IsFresh}
use Rattle.table_world.proofs.Fresh.{fresh_put}
use Rattle.publisher.specs.Worlds.{IsSettled, KeepsLog}
use Rattle.table_session.specs.Moments.{Moment, names_in}
use Rattle.table_session.specs.Sessions.{SessionOf, Wrote}
use Rattle.table_session.specs.Views.{SourceView, SinkView, ClockView, IdsView}
use Rattle.delta_cli.specs.Endings.{IsStatusOf, IsCutShort, HasFailed, DrainsWithoutFault}
use Rattle.delta_cli.specs.Runs.{CountsCommits, HasRun}
use Rattle.delta_cli.specs.declared.endings.Status.{Status}
use Rattle.delta_cli.specs.declared.endings.Status.TheVariants as status

-- a caller who knows nothing of a world without commits has seen them all
new_has_all : (limits : Limits) (files : Files) (first : ℕ) (tells : Bool) → HasAll (record { world = fresh_world limits files first tells; known = at_start (terms_of (fresh_world limits files first tells)) })
unfolding commits_from
new_has_all limits files first tells = record { seen = refl; mine = refl }

lacks_none : (unsaid : List Moment) → unsaid ≡ [] → length (versions_in (names_in unsaid)) ≡ 0
lacks_none unsaid e = ap (λ xs. length (versions_in (names_in xs))) e

-- where a reply is lacking, the sink failed or memory ran out
lacking_by : (wrote : List ℕ) (said unsaid : List Moment) (e : End) → Wrote wrote said unsaid e → 0 < length (versions_in (names_in unsaid)) → (e ≡ end.WriteFault) ⊎ (e ≡ end.Memory)
lacking_by wrote said unsaid end.Done h some = absurd (omega (arith, some, lacks_none unsaid h.none))
lacking_by wrote said unsaid end.ReadFault h some = absurd (omega (arith, some, lacks_none unsaid h.none))
lacking_by wrote said unsaid end.WriteFault h some = inl refl
lacking_by wrote said unsaid end.TooMuch h some = absurd (omega (arith, some, lacks_none unsaid h.none))
lacking_by wrote said unsaid end.Memory h some = inr refl

cut_short : (e : End) (st : Status) → IsStatusOf e st → (e ≡ end.WriteFault) ⊎ (e ≡ end.Memory) → IsCutShort st
cut_short e status.Done s (inl h) = cc
cut_short e status.Done s (inr h) = cc
cut_short e status.Usage s h = s
cut_short e status.Memory s h = tt
cut_short e status.ReadFault s (inl h) = cc
cut_short e status.ReadFault s (inr h) = cc
cut_short e status.WriteFault s h = tt
cut_short e status.StoreFault s (inl h) = cc
cut_short e status.StoreFault s (inr h) = cc
cut_short e status.NotEmpty s h = s
cut_short e status.TooMuch s (inl h) = cc
cut_short e status.TooMuch s (inr h) = cc

versions_joined : (moments said unsaid : List Moment) → moments ≡ said ++ unsaid → length (versions_in (names_in said)) + length (versions_in (names_in unsaid)) ≡ length (versions_in (names_in moments))
versions_joined moments said unsaid is =
    sym
    (ap (λ xs. length (versions_in xs)) (ap names_in is ∙ names_joined said unsaid)
    ∙ ap length (flat_map-append (λ (a : Names). a.versions) (names_in said) (names_in unsaid))
    ∙ length-append (versions_in (names_in said)) (versions_in (names_in unsaid)))

counts_commits : (wrote : List ℕ) (moments said unsaid : List Moment) (e : End) (st : Status) (log : ℕ) → moments ≡ said ++ unsaid → IsWhole (names_in moments) (names_in said) (names_in unsaid)
    → Wrote wrote said unsaid e → IsStatusOf e st → length (versions_in (names_in moments)) ≡ log → CountsCommits (length (versions_in (names_in said))) (length (versions_in (names_in unsaid))) log st
counts_commits wrote moments said unsaid e st log is whole w s all =
    let joined : length (versions_in (names_in said)) + length (versions_in (names_in unsaid)) ≡ length (versions_in (names_in moments)) = versions_joined moments said unsaid is in
    record {
      all = joined ∙ all;
      most = omega (arith, joined, whole.most);
      cut = λ some. cut_short e st s (lacking_by wrote said unsaid e w some);
    }

terms_same : (w x : WorldData) → IsLater w x → terms_of x ≡ terms_of w
terms_same w x h = ap (λ (limits : Limits). let t : Terms = record { limits = limits; tells = x.tells } in t) h.limits ∙ ap (λ (tells : Bool). let t : Terms = record { limits = w.limits; tells = tells } in t) h.tells

-- a fault of the session is one of the store
rose_in_session : (w0 w1 : WorldData) (t : Terms) (k1 : Knowledge) (n : ℕ) → w0.tally ≡ 0
    → IsAloneAfter (record { world = w0; known = at_start t }) (record { world = w1; known = k1 }) → 0 < n → 0 + n ≤ k1.faults → 0 < w1.tally
rose_in_session w0 w1 t k1 n none first some faults =
    let rose : 0 < k1.faults = omega (arith, some, faults) in
    omega (arith, rose, none, first.met)

-- where the session met none, the store's count stayed
silent_session : (w0 w1 : WorldData) (t : Terms) (k1 : Knowledge) (n : ℕ) → w0.tally ≡ 0
    → IsAloneAfter (record { world = w0; known = at_start t }) (record { world = w1; known = k1 }) → k1.faults ≤ 0 + n → n ≡ 0 → w1.tally ≡ 0
silent_session w0 w1 t k1 n none first most nil = omega (arith, most, nil, none, first.met)

drain_failed : (tells : Bool) (w1 w2 : WorldData) (k1 k2 : Knowledge) → IsAloneAfter (record { world = w1; known = k1 }) (record { world = w2; known = k2 })
    → HasFailed tells k1 k2 → (w1.tally < w2.tally) ⊎ (¬ (IsTrue tells))
drain_failed tells w1 w2 k1 k2 after (inl rose) = inl (omega (arith, rose, after.met))
drain_failed tells w1 w2 k1 k2 after (inr untold) = inr untold

-- where as many commits may be unpublished as there may be versions, no try meets the limit
none_met : (w x : WorldData) (ts : List Try) → w.limits.versions ≤ w.limits.unpublished → All (MeetsLimit w x) ts → ts ≡ []
none_met w x [] roomy all = refl
none_met w x (t ∷ ts) roomy all = let met : MeetsLimit w x t = all 0 t (omega arith) in absurd (omega (arith, met.allowed, met.least, roomy))

held : (limits : Limits) (files : Files) (before : ℕ) (tells : Bool) (w0 w1 w2 : WorldData) (k1 k2 : Knowledge) (source : SourceView) (sink : SinkView) (clock : ClockView) (ids : IdsView) (e : End) (st : Status)
    → IsFresh limits files before tells w0
    → SessionOf tells (at_start (terms_of w0)) k1 source sink clock ids e
    → IsAloneAfter (record { world = w0; known = at_start (terms_of w0) }) (record { world = w1; known = k1 })
    → IsAloneAfter (record { world = w1; known = k1 }) (record { world = w2; known = k2 })
    → KeepsLog w1 w2
    → limits.versions ≤ limits.unpublished → 1 ≤ limits.attempts
    → IsStatusOf e st → (st ≡ status.StoreFault → HasFailed tells k1 k2) → (DrainsWithoutFault st → k2.faults ≡ k1.faults) → (st ≡ status.Done → IsSettled w2) → IsConsistent w2
    → HasRun limits tells files before source sink clock ids st w2
held limits files before tells w0 w1 w2 k1 k2 source sink clock ids e st fresh session first second keeps roomy least ends failed same settled consistent =
    let start : HasAll (record { world = w0; known = at_start (terms_of w0) }) =
    subst (λ (w : WorldData). HasAll (record { world = w; known = at_start (terms_of w) })) (sym fresh.is) (new_has_all limits files before tells) in
    let all : HasAll (record { world = w1; known = k1 }) = first.all start in
    let is_limits : w2.limits ≡ limits = second.after.later.limits ∙ first.after.later.limits ∙ ap (λ (w : WorldData). w.limits) fresh.is in
    let none : w0.tally ≡ 0 = ap (λ (w : WorldData). w.tally) fresh.is in
    let terms : terms_of w2 ≡ terms_of w0 = terms_same w1 w2 second.after.later ∙ terms_same w0 w1 first.after.later in
    let there : SessionOf tells (at_start (terms_of w2)) k1 source sink clock ids e =
    subst (λ (t : Terms). SessionOf tells (at_start t) k1 source sink clock ids e) (sym terms) session in
    let log : log_of w2 ≡ log_of w1 = keeps.log in
    let count : length (versions_in (names_in there.session.moments)) ≡ length (log_of w2) =
    sym (ap length there.session.told.together.mine) ∙ all.mine ∙ sym (length-log_of w1) ∙ sym (ap length log) in
    record {
      empty = fresh.empty;
      limits_are = is_limits;
      consistent = consistent;
      first = second.after.later.first ∙ first.after.later.first ∙ ap (λ (w : WorldData). w.first) fresh.is;
      ended = e;
      known = k1;
      seen = all.seen ∙ sym log;
      session = there;
      status_is = ends;
      alone = run_uncontested tells (at_start (terms_of w2)) k1 (terms_of w2) there.session.moments there.session.run refl
          (let P : Limits → Type 0 = λ l. 1 ≤ l.attempts in subst P (sym is_limits) least)
          (let lost = first.tries start in lost.gained.is
          ∙ none_met w0 w1 lost.gained.rest (let P : Limits → Type 0 = λ l. l.versions ≤ l.unpublished in subst P (sym (ap (λ (w : WorldData). w.limits) fresh.is)) roomy) lost.all)
          (omega (arith, ap length (all.seen ∙ sym log), count));
      untaken = λ t differs.
          let begun : HasPutAll (record { world = w0; known = at_start (terms_of w0) }) =
          subst (λ (w : WorldData). HasPutAll (record { world = w; known = at_start (terms_of w) })) (sym fresh.is) (fresh_put limits files before tells (fresh.empty t)) in
          let puts : HasPutAll (record { world = w1; known = k1 }) = first.puts (ap (λ (w : WorldData). w.tells) fresh.is ∙ t) begun in
          run_all_untaken tells (at_start (terms_of w2)) k1 there.session.moments ids.differ ids.given ids.given' there.session.run refl puts.taken (there.names differs);
      told = told_over tells (at_start (terms_of w2)) k1 there.session.moments (log_of w2) (subst (λ (log : List Commit). StartsWith log k1.seen) (all.seen ∙ sym log) (starts_refl k1.seen)) there.session.told;
      commits = counts_commits there.wrote there.session.moments there.session.said there.session.unsaid e st (length (log_of w2)) there.session.all
          (session_whole tells there.read there.wrote (at_start (terms_of w2)) k1 e there.session) there.session.wrote_is ends count;
      faults = λ t some. rose_in_session w0 w1 (terms_of w0) k1 (faults_in (names_in there.session.moments)) none first some (there.session.told.together.faults t);
      silent = silent_session w0 w1 (terms_of w0) k1 (faults_in (names_in there.session.moments)) none first there.session.told.together.no_other;
      rise = w1.tally;
      later = second.after.later.tally;
      drain = λ is. drain_failed tells w1 w2 k1 k2 second (failed is);
      quiet = λ drains. omega (arith, same drains, second.met);
      settled = settled;
    }

-- the same, where the caller is seen with its world
pub held_by : (limits : Limits) (files : Files) (before : ℕ) (tells : Bool) (w0 w2 : WorldData) (a0 a1 a2 : Alone) (source : SourceView) (sink : SinkView) (clock : ClockView) (ids : IdsView) (e : End) (st : Status)
    → a0.world ≡ w0 → a0.known ≡ at_start (terms_of w0) → w2 ≡ a2.world
    → IsFresh limits files before tells w0
    → SessionOf tells a0.known a1.known source sink clock ids e
    → IsAloneAfter a0 a1 → IsAloneAfter a1 a2 → KeepsLog a1.world a2.world
    → limits.versions ≤ limits.unpublished → 1 ≤ limits.attempts
    → IsStatusOf e st → (st ≡ status.StoreFault → HasFailed tells a1.known a2.known) → (DrainsWithoutFault st → a2.known.faults ≡ a1.known.faults) → (st ≡ status.Done → IsSettled a2.world) → IsConsistent w2
    → HasRun limits tells files before source sink clock ids st w2
held_by limits files before tells w0 w2 a0 a1 a2 source sink clock ids e st world_is known_is last_is fresh session first second keeps roomy least ends failed same settled consistent =
    let start : a0 ≡ record { world = w0; known = at_start (terms_of w0) } =
    ap (λ (w : WorldData). let a : Alone = record { world = w; known = a0.known } in a) world_is ∙ ap (λ (k : Knowledge). let a : Alone = record { world = w0; known = k } in a) known_is in
    subst (λ (w : WorldData). HasRun limits tells files before source sink clock ids st w) (sym last_is)
    (held limits files before tells w0 a1.world a2.world a1.known a2.known source sink clock ids e st fresh
    (subst (λ (k : Knowledge). SessionOf tells k a1.known source sink clock ids e) known_is session)
    (subst (λ (a : Alone). IsAloneAfter a a1) start first) second keeps roomy least ends failed same settled (subst IsConsistent last_is consistent))
