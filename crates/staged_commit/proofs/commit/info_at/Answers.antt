use Rattle.std.proofs.Common.{ℕ, ℤ, List, Some, ap, ap₂, ◌∙◌, w64}
use Rattle.std.proofs.lemmas.Int.{to_z-of_z}
use Rattle.uuid.specs.Text.{hyphenated_text, lower}
use Rattle.action_types.specs.declared.actions.Info.{Info}
use Rattle.log_names.specs.Texts.{uuid_text}
use Rattle.staged_commit.proofs.commit.info_at.Goals as goal

info : ℤ → List ℕ → Info
info t s = record { time = t; txn_id = Some s }

pub returns : goal.returns
unfolding uuid_text info
returns c =
    ap₂ info (to_z-of_z w64 c.args.time c.ranges.time)
    (c.in_ok-txn_id.ensures ∙ c.encode_lower.ensures.text ∙ ap (hyphenated_text lower) (c.hyphenated.ensures ∙ c.from_u128.ensures))
