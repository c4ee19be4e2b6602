use Rattle.snapshot_load.proofs.past.load_found.Goals as goal

pub version_time-requires-clause-place : goal.version_time-requires-clause-place
version_time-requires-clause-place g c = c.place_of.ensures g.T.Steps.tells _ c.requires.catalogue c.requires.listed
