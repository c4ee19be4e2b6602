-- What a reply of a fault owes to its moment.
use Rattle.std.proofs.Common.{◌≡◌, ◌≤◌, ◌+◌, Bool, IsTrue, arith, inl, inr}
use Rattle.table_model.specs.declared.answers.Spot.{Spot}
use Rattle.table_model.specs.Knowledge.{Knowledge, IsGrown}
use Rattle.snapshot_load.specs.Causes.{FailedAt, FaultCause, CountsFault}
use Rattle.session_lines.specs.declared.reply.Reply.TheVariants as reply
use Rattle.answer_names.specs.Gaining.{Gains}
use Rattle.answer_names.proofs.Gained.{times_gained, gains_fault}
use Rattle.table_session.specs.Naming.{named_by}

failed_at : (tells : Bool) (at : Spot) (k m : Knowledge) → FaultCause tells at k m → IsTrue tells → FailedAt at k m
failed_at tells at k m cause t = elim cause [ inl f ↦ f | inr u ↦ absurd (u.untold t) ]

one_at_most : (tells : Bool) (k m : Knowledge) → CountsFault tells k m → m.faults ≤ k.faults + 1
one_at_most tells k m counts = elim counts [ inl one ↦ omega (arith, one) | inr none ↦ omega (arith, none.1) ]

-- a fault of the store
pub fault_gains : (tells : Bool) (at : Spot) (k m : Knowledge) → IsGrown k m → FaultCause tells at k m → CountsFault tells k m → m.mine ≡ k.mine → Gains tells (named_by (reply.Fault at)) k m
fault_gains tells at k m g cause counts mine =
    gains_fault tells at k m g mine (one_at_most tells k m counts)
    (λ t. (failed_at tells at k m cause t).rose)
    (λ t test. let f = failed_at tells at k m cause t in times_gained test at k.failed m.failed f.gained f.noted)
