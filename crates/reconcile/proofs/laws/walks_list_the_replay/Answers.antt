use Rattle.reconcile.proofs.Listing.{files_of-lists, tombstones_of-lists, txns_of-lists, domains_of-lists}
use Rattle.reconcile.proofs.laws.walks_list_the_replay.Goals as goal

pub returns : goal.returns
returns c = record { files = files_of-lists; tombstones = tombstones_of-lists; txns = txns_of-lists; domains = domains_of-lists }
