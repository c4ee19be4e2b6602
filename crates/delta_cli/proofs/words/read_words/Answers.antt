use Rattle.std.proofs.Common.{◌≡◌, sym, ◌∙◌, codes}
use Rattle.std.proofs.lemmas.Slice.Eq.{bytes_eq-Decides}
use Rattle.delta_cli.proofs.Wording.{one_word}
use Rattle.delta_cli.proofs.words.read_words.Goals as goal

pub returns-in-len1 : goal.returns-in-len1
returns-in-len1 c =
    let same : c.as_str.result.now ≡ codes "run" = (bytes_eq-Decides c.as_str.result.now (codes "run")).0 (sym c.eq.ensures ∙ c.if-eq.true) in
    one_word c.args.words.now c.word-item.result (codes "run") c.in-len1.len_at_least c.in-len1.len_below c.word-item.is (sym c.as_str.ensures.value ∙ same)
