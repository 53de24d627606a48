-- `Tableau::start` meets its contract. Assumes nothing.
use Rattle.tableau.proofs.Tableau.start.Goals as goal

pub returns : goal.returns
returns c = record { size = c.start.ensures.0; after = rw c.start.ensures.0 c.start.ensures.1 }
