use Rattle.std.proofs.Common.{◌∙◌, ap, sym, subst, refl, ℕ, List}
use Rattle.action_fields.specs.Gives.{Fails}
use Rattle.session_lines.specs.Faults.{told}
use Rattle.session_lines.specs.Requests.{request_of}
use Rattle.table_session.specs.Hearing.{IsRead, IsLong}
use Rattle.table_session.proofs.Rights.{asked_within, long_right, refusal_right}
use Rattle.writer_txn.proofs.Naming.{apart_none, apart_at}
use Rattle.table_session.proofs.Takens.{takens_refused}
use Rattle.table_session.proofs.answering.answer.Goals as goal

pub returns-in-Ok-clause-right : goal.returns-in-Ok-clause-right
returns-in-Ok-clause-right g c = λ line i.
    let r : IsRead line c.in-Line.line = rw c.in-Line.is at i in
    c.fulfil.ensures.right line (asked_within line r.short ∙ ap request_of (sym r.text ∙ sym c.deref.ensures.value) ∙ c.in-Ok.ensures.exact)

pub returns-in-Err-clause-right : goal.returns-in-Err-clause-right
returns-in-Err-clause-right g c = λ line i.
    let r : IsRead line c.in-Line.line = rw c.in-Line.is at i in
    let P : List ℕ → Type 0 = λ text. Fails (told c.in-Err.bad) (request_of text) in
    rw c.refusal.ensures (refusal_right _ _ line c.in-Line.line.number c.in-Err.bad _ _ r.number r.short (subst P (c.deref.ensures.value ∙ r.text) c.in-Err.ensures.exact))

pub returns-in-TooLong-clause-right : goal.returns-in-TooLong-clause-right
returns-in-TooLong-clause-right g c = λ line i.
    let l : IsLong line c.in-TooLong.at = rw c.in-TooLong.is at i in
    long_right _ _ line c.in-TooLong.at _ _ l.number l.long

pub returns-in-Ok-clause-names : goal.returns-in-Ok-clause-names
returns-in-Ok-clause-names g c = c.fulfil.ensures.names

pub returns-in-Err-clause-names : goal.returns-in-Err-clause-names
returns-in-Err-clause-names g c = λ t. rw c.refusal.ensures (apart_at _ _ _ _ _ _ _ (takens_refused c.in-Line.line.number c.in-Err.bad) (apart_none _ _ _ _ refl t))

pub returns-in-TooLong-clause-names : goal.returns-in-TooLong-clause-names
returns-in-TooLong-clause-names g c = λ t. apart_none _ _ _ _ refl t
