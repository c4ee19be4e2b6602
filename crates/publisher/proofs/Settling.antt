-- A drained table, in a world that is told.
use Rattle.std.proofs.Common.{◌≡◌, length, sym, ◌∙◌, ap, subst, arith, Option, Some, None}
use Rattle.std.specs.Prelude.{IfSome}
use Rattle.table_model.specs.World.{WorldData}
use Rattle.table_model.specs.Turns.{TellsTurn}
use Rattle.publisher.specs.Worlds.{IsSettled, KeepsLog, PublishesAll, ClearsAll}
use Rattle.publisher.proofs.Telling.{tells_both, tells_after}
use Rattle.publisher.proofs.Reporting.{keeps_trans}

-- all was published and reported, and then cleared
settled_world : (w x y : WorldData) → PublishesAll w x → ClearsAll x y → IsSettled y
settled_world w x y p c = record {
  reported = c.reported ∙ p.reported ∙ sym (ap length c.keeps.records);
  cleared = λ tells version id below. c.cleared (sym c.keeps.tells ∙ tells) version id (let e = ap length c.keeps.records in omega (arith, e, p.reported, below));
}

pub settled_tells : (o p q : Option WorldData) → TellsTurn PublishesAll o p → TellsTurn ClearsAll p q → IfSome q IsSettled
settled_tells None p q t u = let P : Option WorldData → Type 0 = λ s. TellsTurn ClearsAll s q in let e : q ≡ None = subst P t u in let Q : Option WorldData → Type 0 = λ s. IfSome s IsSettled in subst Q (sym e) tt
settled_tells (Some w) None q t u = absurd t
settled_tells (Some w) (Some x) None t u = tt
settled_tells (Some w) (Some x) (Some y) t u = settled_world w x y t u

-- an empty table
empty_world : (w x : WorldData) → PublishesAll w x × (length x.records ≡ 0) → IsSettled x
empty_world w x p = record { reported = p.0.reported; cleared = λ tells version id below. absurd (omega (arith, p.1)) }

pub empty_tells : (o p : Option WorldData) → TellsTurn (λ w x. PublishesAll w x × (length x.records ≡ 0)) o p → IfSome p IsSettled
empty_tells o p t = tells_after (λ w x. PublishesAll w x × (length x.records ≡ 0)) IsSettled o p empty_world t

pub log_tells : (o p q : Option WorldData) → TellsTurn PublishesAll o p → TellsTurn KeepsLog p q → TellsTurn KeepsLog o q
log_tells o p q t u = tells_both PublishesAll KeepsLog KeepsLog o p q (λ w x y a b. keeps_trans w x y a.keeps b) t u

pub cleared_tells : (o p q : Option WorldData) → TellsTurn PublishesAll o p → TellsTurn ClearsAll p q → TellsTurn KeepsLog o q
cleared_tells o p q t u = tells_both PublishesAll ClearsAll KeepsLog o p q (λ w x y a b. keeps_trans w x y a.keeps b.keeps) t u
