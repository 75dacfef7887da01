use Rattle.lj_verify.proofs.strings.+mark_by_string.Given as goal

abbrev pub decreases-mark_by_string : goal.decreases-mark_by_string
decreases-mark_by_string l = l.n
