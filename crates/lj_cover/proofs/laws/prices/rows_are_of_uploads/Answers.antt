use Rattle.lj_cover.proofs.RowsOfUploads.{counts_are_projected, places_ascend, rows_are_of_uploads, rows_are_one}
use Rattle.lj_cover.proofs.RowsOfUploads.{rows_of_more}
use Rattle.lj_cover.proofs.laws.prices.rows_are_of_uploads.Goals as goal

pub returns-clause-rows : goal.returns-clause-rows
returns-clause-rows c = rows_are_of_uploads

pub returns-clause-places : goal.returns-clause-places
returns-clause-places c = places_ascend

pub returns-clause-counts : goal.returns-clause-counts
returns-clause-counts c = counts_are_projected

pub returns-clause-more : goal.returns-clause-more
returns-clause-more c = rows_of_more

pub returns-clause-one : goal.returns-clause-one
returns-clause-one c = rows_are_one
