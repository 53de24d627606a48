-- `measure_fixed::parities` meets its contract: each line doubles the number of bits whose parity a bit has. Assumes nothing.
use Rattle.measure_fixed.proofs.Shifts.{window_one, window_more, window_all}
use Rattle.measure_fixed.proofs.parities.Goals as goal

pub returns : goal.returns
returns c =
    let z = c.args.z in
    window_all _ z (window_more 32 _ z (window_more 16 _ z (window_more 8 _ z (window_more 4 _ z (window_more 2 _ z (window_more 1 z z (window_one z)))))))
