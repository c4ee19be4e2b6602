use Rattle.std.proofs.Common.{◌≡◌, ◌≤◌, List, ℕ, length, sym, ◌∙◌, subst}
use Rattle.table_world.proofs.Fresh.{log_name_short}
use Rattle.table_world.proofs.world.least_log_name.Goals as goal

pub new-requires : goal.new-requires
new-requires c =
    let same : c.as_str.result.now ≡ c.as_str-in_default.result.now = c.as_str.ensures ∙ sym c.as_str-in_default.ensures in
    let P : List ℕ → Type 0 = λ text. length text ≤ 78 in
    subst P same (log_name_short c.as_str.result.now (λ e. c.in_default.not-Other (c.parse.ensures.value ∙ e)))
