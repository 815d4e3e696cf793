use Rattle.refusal_places.proofs.PlaceRowsCompute.{place_rows}
use Rattle.refusal_places.proofs.QuotedRowsCompute.{quoted_rows}
use Rattle.refusal_places.proofs.TokenRowsCompute.{misfit_rows, own_rows}
use Rattle.refusal_places.proofs.places_compute.Goals as goal

pub returns-clause-lines : goal.returns-clause-lines
returns-clause-lines c = place_rows

pub returns-clause-misfits : goal.returns-clause-misfits
returns-clause-misfits c = misfit_rows

pub returns-clause-own : goal.returns-clause-own
returns-clause-own c = own_rows

pub returns-clause-quoted : goal.returns-clause-quoted
returns-clause-quoted c = quoted_rows
