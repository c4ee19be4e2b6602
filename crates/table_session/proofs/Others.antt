-- Where each new version is the session's own and no try was lost, no reply tells of a conflict, nor that others were first; where each name that
-- was found taken was put by the caller, and none in this session, no reply tells of a name that was taken.
use Rattle.std.proofs.Common.{◌≡◌, ◌≤◌, ◌+◌, ℕ, Bool, List, [], ◌++◌, length, ◌∙◌, ap, subst, Some}
use Rattle.std.specs.Prelude.{All, Contains}
use Rattle.log_names.specs.declared.LogName.TheVariants as name
use Rattle.table_model.specs.Knowledge.{Knowledge, Terms}
use Rattle.writer_txn.specs.Named.{NamesApart}
use Rattle.answer_names.specs.Together.{versions_in, takens_in}
use Rattle.answer_names.specs.Others.{IsUncontested, IsUntaken}
use Rattle.answer_names.proofs.Others.{chain_uncontested, chain_untaken}
use Rattle.table_session.specs.Moments.{Moment, answers_of, names_in}
use Rattle.table_session.specs.Running.{Run}
use Rattle.table_session.proofs.Chains.{run_chain}

pub run_uncontested : (tells : Bool) (k m : Knowledge) (t : Terms) (xs : List Moment) → Run tells k xs m → k.terms ≡ Some t → 1 ≤ t.limits.attempts → m.tries ≡ k.tries
    → length m.seen ≡ length k.seen + length (versions_in (names_in xs)) → All IsUncontested (names_in xs)
run_uncontested tells k m t xs r e least tries own = chain_uncontested tells k m t (answers_of xs) (run_chain tells k m xs r) e least tries own

pub run_untaken : (tells : Bool) (k m : Knowledge) (xs : List Moment) → Run tells k xs m
    → ((version id : ℕ) → Contains m.takens (name.Staged version id) → Contains m.put (name.Staged version id))
    → ((version id : ℕ) → Contains (takens_in (names_in xs)) (name.Staged version id) → ¬ (Contains m.put (name.Staged version id)))
    → All IsUntaken (names_in xs)
run_untaken tells k m xs r puts apart = chain_untaken tells k m (answers_of xs) (run_chain tells k m xs r) puts apart

-- the same of a session before which nothing was put, where the ids are all told to differ
pub run_all_untaken : (tells : Bool) (k m : Knowledge) (xs : List Moment) (differ : Bool) (given given' : List ℕ) → Run tells k xs m → k.put ≡ []
    → ((version id : ℕ) → Contains m.takens (name.Staged version id) → Contains m.put (name.Staged version id))
    → NamesApart differ given given' (takens_in (names_in xs)) k m → All IsUntaken (names_in xs)
run_all_untaken tells k m xs differ given given' r none puts apart =
    let all : m.put ≡ apart.put.rest = apart.put.is ∙ ap (λ ns. ns ++ apart.put.rest) none in
    run_untaken tells k m xs r puts (λ version id c put. apart.apart version id c (subst (λ ns. Contains ns (name.Staged version id)) all put))
