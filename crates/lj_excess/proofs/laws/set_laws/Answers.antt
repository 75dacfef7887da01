use Rattle.lj_excess.proofs.laws.set_laws.Goals as goal

pub returns : goal.returns
returns c = record { ranks = c.rank_law.ensures; subsets = c.subset_law.ensures }
