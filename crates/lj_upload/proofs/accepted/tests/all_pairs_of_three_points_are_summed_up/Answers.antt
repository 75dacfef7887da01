use Rattle.lj_upload.proofs.accepted.tests.all_pairs_of_three_points_are_summed_up.Goals as goal

pub of-design-requires : goal.of-design-requires
of-design-requires g c = rw (c.in_ok-blocks.ensures.items, c.pair.ensures, c.pair-2.ensures, c.pair-3.ensures)
    (c.all_cover.ensures.covers 3 2)
