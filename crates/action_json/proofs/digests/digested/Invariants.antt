use Rattle.std.proofs.Common.{◌≡◌, take, fold}
use Rattle.action_json.specs.Digests.{fnv_step, word_step}
use Rattle.action_json.proofs.digests.digested.Given as goal

abbrev pub invariant-loop-word : goal.invariant-loop-word
invariant-loop-word l = l.hash ≡ fold word_step l.initial.hash (take l.word-index l.words)

abbrev pub invariant-loop-byte : goal.invariant-loop-byte
invariant-loop-byte l = l.hash ≡ fold fnv_step l.initial.hash (take l.byte-index l.rest)
