use Rattle.std.proofs.Common.{◌++◌, Ok, ap, ◌∙◌}
use Rattle.std.specs.declared.alloc.AllocError.{AllocError}
use Rattle.std.proofs.lemmas.Str.{is_utf8-from_IsUtf8}
use Rattle.serde_json.specs.Written.{compact_text}
use Rattle.action_fields.proofs.Tokens.{printed, printed_utf8}
use Rattle.checkpoint_v2.specs.Canonical.{version_data, version_line}
use Rattle.checkpoint_v2.proofs.writing.version_text.Goals as goal

pub returns-clause-text : goal.returns-clause-text
unfolding version_line
returns-clause-text c =
    printed {E = AllocError} (Ok c.in_ok-put_version.field-0) c.new-writer.result c.put_version.new.out (version_data c.args.version) c.into_inner.result.items
    c.new-writer.ensures.tokens c.in_ok-put_version.ensures c.into_inner.ensures.items
    ∙ ap (λ l. l ++ compact_text (version_data c.args.version)) (c.new-writer.ensures.before ∙ c.new.ensures.items)

pub returns-clause-utf8 : goal.returns-clause-utf8
unfolding version_line
returns-clause-utf8 c =
    printed_utf8 {E = AllocError} (Ok c.in_ok-put_version.field-0) c.new-writer.result c.put_version.new.out (version_data c.args.version)
    c.new-writer.ensures.tokens c.in_ok-put_version.ensures (is_utf8-from_IsUtf8 _ c.into_inner.ensures.utf8)
