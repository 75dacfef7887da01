use Rattle.lj_rank.proofs.ranks.+seek_among.Given as goal

abbrev pub decreases-seek_among : goal.decreases-seek_among
decreases-seek_among l = l.n
