-- Every starred example of document 01 holds of the definitions: one table, one proof. Assumes nothing.
use mathlib.Core.Path.{refl}
use Rattle.pauli.specs.Texts.{listed}
use Rattle.records.specs.Record.{low_first, joined, rows_text, trailer, record_with}
use Rattle.run.specs.Run.{run_circuit, run_of}
use Rattle.starred.specs.Table.{AllHold, table}

pub starred_hold : AllHold table
unfolding listed low_first joined rows_text trailer record_with run_circuit run_of
starred_hold = (refl, (refl, (refl, (refl, (refl, (refl, (refl, (refl, (refl, (refl, (refl, (refl, (refl, (refl, tt))))))))))))))
