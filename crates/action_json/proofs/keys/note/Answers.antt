use Rattle.std.proofs.Common.{◌||◌, bytes_eq, string_bytes, ap, ◌∙◌}
use Rattle.std.specs.BTreeSet.{contains_text}
use Rattle.std.proofs.lemmas.Map.Text.{btree_set_updates_text}
use Rattle.action_json.proofs.Members.{cond-or}
use Rattle.action_json.proofs.keys.note.Goals as goal

pub returns-then-branch-clause-noted : goal.returns-then-branch-clause-noted
returns-then-branch-clause-noted c = λ q.
    btree_set_updates_text (string_bytes c.in_ok-from_str.field-0) c.args.keys.now c.insert.new.self _ c.in_ok-insert.ensures.updates q
    ∙ cond-or (bytes_eq (string_bytes c.in_ok-from_str.field-0) q) (contains_text c.args.keys.now q)
    ∙ ap (λ k. contains_text c.args.keys.now q || bytes_eq k q) (c.in_ok-from_str.ensures.ok ∙ c.as_str.ensures)
