-- What holds after any work holds after more of it.
use Rattle.table_model.proofs.Lasting.{after_refl, after_trans}
use Rattle.table_meddler.specs.Among.{Among, IsAmongAfter}

pub among_refl : (a : Among) → IsAmongAfter a a
among_refl a = after_refl a.world a.known

pub among_trans : (a b c : Among) → IsAmongAfter a b → IsAmongAfter b c → IsAmongAfter a c
among_trans a b c p q = after_trans a.world b.world c.world a.known b.known c.known p q
