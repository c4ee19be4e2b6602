use Rattle.std.proofs.Common.{◌≡◌, option_map, ap, ◌∙◌, rules}
use Rattle.json_tree.specs.View.{view}
use Rattle.json_tree.proofs.Entries.{view-lookup, view_of_ref}
use Rattle.json_tree.proofs.tree.member.Goals as goal

pub returns : goal.returns
returns c = view_of_ref c.get.result ∙ ap (option_map view) c.get.ensures.value ∙ view-lookup c.args.name.now c.args.members.now.entries
