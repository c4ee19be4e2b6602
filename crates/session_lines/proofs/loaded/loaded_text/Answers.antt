use Rattle.std.proofs.Common.{◌++◌, ◌∷◌, [], ℤ, List, ℕ, codes, ap, ap₂, sym, ◌∙◌, w64}
use Rattle.std.proofs.lemmas.Int.{to_z-of_z}
use Rattle.session_lines.specs.Loaded.{first_members, later_members}
use Rattle.session_lines.specs.Replies.{domains_data, end_fields, files_data, table_fields}
use Rattle.session_lines.proofs.Loading.{object-text}
use Rattle.session_lines.proofs.loaded.loaded_text.Goals as goal

pub returns : goal.returns
returns c =
    c.in_ok-push.ensures.items
    ∙ ap (λ l. l ++ 125 ∷ [])
    (c.in_ok-push_end.ensures
    ∙ ap₂ (λ (a : List ℕ) (z : ℤ). a ++ later_members (end_fields c.args.state.now z c.args.version))
    (c.in_ok-push_table.ensures
    ∙ ap (λ a. a ++ later_members (table_fields c.args.latest c.args.state.now))
    (c.in_ok-push_first.ensures ∙ ap (λ a. a ++ first_members (codes "domains") (domains_data c.args.state.now) (codes "files") (files_data c.args.state.now)) c.new-out.ensures.items))
    (to_z-of_z w64 c.args.time c.ranges.time))
    ∙ sym (object-text (codes "domains") (domains_data c.args.state.now) (codes "files") (files_data c.args.state.now) (table_fields c.args.latest c.args.state.now) (end_fields c.args.state.now c.args.time c.args.version))
