use Rattle.std.proofs.Common.{◌≡◌, take}
use Rattle.action_json.specs.Commit.{AreWritten, canonical_text}
use Rattle.staged_commit.proofs.text.text_of.Given as goal

abbrev pub invariant-loop-action : goal.invariant-loop-action
invariant-loop-action l = record {
  text : l.text.items ≡ canonical_text (take l.action-index l.actions);
  written : AreWritten (take l.action-index l.actions);
}
