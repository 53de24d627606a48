-- The possible readouts of a circuit all have one k, there are 2 to the k of them, and the coin strings of length k give each of them once. Assumes nothing.
use mathlib.Core.Path.{◌≡◌, refl, sym, ◌∙◌, ap}
use mathlib.Core.Bool.{Bool, false}
use mathlib.Core.List.{List, [], ◌++◌, map}
use Prim.Native.Nat.{ℕ, ◌+◌, ◌<◌}
use native.Mathlib.Omega.{arith}
use lib.ListN.{length, get_or, replicate, length-append, length-map, length-replicate}
use Rattle.answers.specs.Verdict.{accepted}
use Rattle.clifford.specs.Run.{State, coin, begin, run}
use Rattle.circuit.specs.Text.{Circuit, count_measured}
use Rattle.tally.specs.Tally.{one_if}
use Rattle.readouts.specs.Readouts.{possible}
use Rattle.readouts.specs.Coins.{readout_of, Gives, IsPossible, strings, given, PlaceOf, EachOnce, ListedByCoins}
use Rattle.readouts.proofs.Given.{coins_for, as_bytes, none_over, given_by, given_with, own_coins}
use Rattle.readouts.proofs.Accepted.{enough, Ends, ends_once, both_end}
use Rattle.readouts.proofs.Strings.{get_d_mapped, strings_many, string_long, string_once, string_place}

module _ (c : Circuit) where
  -- the coins of a possible readout and j more: these are left
  abbrev spared : ℕ → List Bool → List ℕ
  spared j r = map one_if (coins_for c r ++ replicate j false)

  spared_long : (k j : ℕ) (r : List Bool) → IsPossible c k r → length (spared j r) ≡ k + j
  spared_long k j r p =
      let e = length-map (coins_for c r ++ replicate j false) one_if in
      omega (arith, e, length-append (coins_for c r) (replicate j false), length-replicate j false, (given_with c k r p).many)

  spare : (k j : ℕ) (r : List Bool) → IsPossible c k r → Ends c (spared j r) j
  spare k j r p =
      let w = given_with c k r p in
      let g = w.gives (spared j r) (replicate j false) (as_bytes (coins_for c r ++ replicate j false)) in
      let t = ap length (given_by c (spared j r) r g).taken in
      record {
        state = g.state;
        ran = g.ran;
        left_is = omega (arith, t, length-append (coins_for c r) (map coin g.state.coins), length-map g.state.coins coin, length-map (spared j r) coin, spared_long k j r p, w.many);
      }

  one_k : (k m : ℕ) (r s : List Bool) → IsPossible c k r → IsPossible c m s → m ≡ k
  one_k k m r s p q =
      let x = spare k m r p in
      let y = both_end c (spared m r) (spared k s) (omega (arith, spared_long k m r p, spared_long m k s q)) x.state x.ran in
      sym x.left_is ∙ ends_once c (spared k s) (length x.state.coins) k y (spare m k s q)

  gives_given : (s r : List Bool) → Gives c (map one_if s) r → given c s ≡ r
  gives_given s r g = rw (g.ran, given) g.values

  -- from one possible readout, all
  module _ (k : ℕ) (r : List Bool) (p : IsPossible c k r) where
    string_gives : (s : List Bool) → length s ≡ k → Gives c (map one_if s) (given c s)
    string_gives s l =
        let g = own_coins c k r p in
        let e = both_end c (map one_if (coins_for c r)) (map one_if s) (length-map s one_if ∙ l ∙ sym (given_with c k r p).many ∙ sym (length-map (coins_for c r) one_if)) g.state g.ran in
        record { state = e.state; ran = e.ran; values = rw (e.ran, given) refl }

    string_possible : (s : List Bool) → length s ≡ k → IsPossible c k (given c s)
    string_possible s l =
        let g = given_by c (map one_if s) (given c s) (string_gives s l) in
        record { long = g.long; is = g.weighs ∙ ap possible (one_k k (length (coins_for c (given c s))) r (given c s) p (record { long = g.long; is = g.weighs })) }

    string_back : (s : List Bool) → length s ≡ k → s ≡ coins_for c (given c s)
    string_back s l =
        let g = string_gives s l in
        let w = given_with c k (given c s) (string_possible s l) in
        none_over s (coins_for c (given c s)) (map coin g.state.coins) (sym (as_bytes s) ∙ (given_by c (map one_if s) (given c s) g).taken) (l ∙ sym w.many)

    below : (i : ℕ) → i < length (map (given c) (strings k)) → i < length (strings k)
    below i h = rw (length-map (strings k) (given c)) at h

    listed_at : (i : ℕ) → i < length (map (given c) (strings k)) → get_or (map (given c) (strings k)) i [] ≡ given c (get_or (strings k) i [])
    listed_at i h = get_d_mapped (given c) (strings k) i [] [] (below i h)

    each_once : EachOnce (IsPossible c k) (map (given c) (strings k))
    each_once = record { there = there; only = only; once = once }
      where
        there : (s : List Bool) → IsPossible c k s → PlaceOf (map (given c) (strings k)) [] s
        there s q = go (rw (given_with c k s q).many at (string_place (coins_for c s)))
          where
            go : PlaceOf (strings k) [] (coins_for c s) → PlaceOf (map (given c) (strings k)) [] s
            go w =
                let h : w.place < length (map (given c) (strings k)) = rw (length-map (strings k) (given c)) w.within in
                record { place = w.place; within = h; is = listed_at w.place h ∙ ap (given c) w.is ∙ gives_given (coins_for c s) s (own_coins c k s q) }

        only : (i : ℕ) → i < length (map (given c) (strings k)) → IsPossible c k (get_or (map (given c) (strings k)) i [])
        only i h = rw (listed_at i h) (string_possible (get_or (strings k) i []) (string_long k i (below i h)))

        once : (i j : ℕ) → i < length (map (given c) (strings k)) → j < length (map (given c) (strings k)) → get_or (map (given c) (strings k)) i [] ≡ get_or (map (given c) (strings k)) j [] → i ≡ j
        once i j h l e =
            let same : given c (get_or (strings k) i []) ≡ given c (get_or (strings k) j []) = sym (listed_at i h) ∙ e ∙ listed_at j l in
            string_once k i j (below i h) (below j l)
            (string_back (get_or (strings k) i []) (string_long k i (below i h)) ∙ ap (coins_for c) same ∙ sym (string_back (get_or (strings k) j []) (string_long k j (below j l))))

pub listed_by_coins : (c : Circuit) → ListedByCoins c
listed_by_coins c = go (enough c.qubits 2 c.ops (begin c.qubits coins) (omega (arith, length-replicate {A = ℕ} (count_measured c.ops) 0)))
  where
    coins : List ℕ
    coins = replicate (count_measured c.ops) 0

    listed : (k : ℕ) (r : List Bool) → IsPossible c k r → ListedByCoins c
    listed k r p = record { k = k; one_k = λ m s q. one_k c k m r s p q; many = length-map (strings k) (given c) ∙ strings_many k; each = each_once c k r p }

    go : (e : State) × (run c.qubits 2 c.ops (begin c.qubits coins) ≡ accepted e) → ListedByCoins c
    go w =
        let r = readout_of w.0.outcomes in
        let g = given_by c coins r (record { state = w.0; ran = w.1; values = refl }) in
        listed (length (coins_for c r)) r (record { long = g.long; is = g.weighs })
