-- Two answers that the promise allows for one text and one readout are equal. Assumes nothing.
use mathlib.Core.List.{List}
use mathlib.Core.Path.{◌≡◌, refl, sym, ◌∙◌, ap}
use Prim.Native.Nat.{ℕ}
use Rattle.answers.specs.Refusals.{number_of, place_of}
use Rattle.answers.proofs.Known.{one_refusal}
use Rattle.half.proofs.Laws.{tied_one}
use Rattle.probability.specs.declared.Chance.{Chance}
use Rattle.std.specs.Prelude.{Result, Ok, Err}
use Rattle.answers.specs.declared.Refusal.{Refusal}
use Rattle.probability.specs.declared.Chance.TheVariants as chance
use Rattle.probability.specs.Probability.{probability_of, told_chance, DoubleOf, Tells}

told_one : (r s : Result Chance Refusal) → told_chance r ≡ told_chance s → DoubleOf r → DoubleOf s → r ≡ s
told_one (Ok (chance.Possible l)) (Ok (chance.Possible m)) e a b =
    let k : m.k ≡ l.k = cc in
    ap (λ c. Ok (chance.Possible c)) (tied_one l.k l m (record { same = refl; halved = a }) (record { same = k; halved = b }))
told_one (Ok (chance.Possible l)) (Ok (chance.Impossible line)) e a b = cc
told_one (Ok (chance.Possible l)) (Err q) e a b = cc
told_one (Ok (chance.Impossible line)) (Ok (chance.Possible m)) e a b = cc
told_one (Ok (chance.Impossible line)) (Ok (chance.Impossible other)) e a b = let k : line ≡ other = cc in ap (λ l. Ok (chance.Impossible l)) k
told_one (Ok (chance.Impossible line)) (Err q) e a b = cc
told_one (Err r) (Ok (chance.Possible m)) e a b = cc
told_one (Err r) (Ok (chance.Impossible line)) e a b = cc
told_one (Err r) (Err q) e a b =
    let x : number_of r ≡ number_of q = cc in
    let y : place_of r ≡ place_of q = cc in
    ap Err (one_refusal r q x y)

pub chance_one : (text stated : List ℕ) (r s : Result Chance Refusal) → Tells (probability_of text stated) r → Tells (probability_of text stated) s → r ≡ s
chance_one text stated r s a b = told_one r s (a.told ∙ sym b.told) a.double b.double
