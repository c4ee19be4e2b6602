use Rattle.table_rules.proofs.Order.{Tells-rest}
use Rattle.table_rules.proofs.next.check_files.Goals as goal

pub returns : goal.returns
returns c =
    Tells-rest _ _ _ c.in_ok-check_txns.ensures
    (Tells-rest _ _ _ c.in_ok-check_removes.ensures
    (rw (c.new_protocol-protocol.ensures, c.new_meta.ensures) at c.check_contents.ensures))
