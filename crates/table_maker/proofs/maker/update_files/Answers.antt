-- `retain` leaves the files that are not removed.
use Rattle.std.proofs.Common.{rules, ℕ, ◌==◌, not}
use Rattle.std.proofs.lemmas.Fn.{filter_same}
use Rattle.table_maker.proofs.maker.update_files.Goals as goal

pub returns-in-Remove : goal.returns-in-Remove
returns-in-Remove c =
    rw c.in-Remove.is
    (filter_same _ (λ (f : ℕ). not (f == c.in-Remove.file)) _ (λ x b f' k. search rules) c.args.live.now.items c.retain.new.self.items c.retain.ensures.filtered)
