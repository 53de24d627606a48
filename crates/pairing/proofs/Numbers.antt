-- The number that each of a record's 2n rows has among the packed rows, and its partner's. Assumes nothing.
use mathlib.Core.Path.{◌≡◌, refl, sym, ◌∙◌, ap}
use mathlib.Core.Bool.{Bool, true, false, cond}
use Prim.Native.Nat.{ℕ, ◌+◌, ◌-◌, ◌*◌, ◌/◌, ◌%◌, ◌≤◌, ◌<◌}
use native.Mathlib.Decide.{dec_lt}
use native.Mathlib.Omega.{arith}
use lib.Dec.{eqb, ltb}
use borrow.Author.Tests.{lt-ltb, le-ltb, eq-eqb, ne_eqb, eqb-true, eqb-false}
use Rattle.limits.specs.Limits.{most_qubits}
use Rattle.packing.specs.View.{row_count}
use Rattle.read_rows.specs.Parts.Loading.{in_record}
use Rattle.pairing.specs.Parts.Partners.{partner}

-- the number of row i of the 2n
abbrev pub number : ℕ → ℕ → ℕ
number n i = cond (ltb i n) i (most_qubits + (i - n))

pub number_low : (n i : ℕ) → i < n → number n i ≡ i
number_low n i h = rw (lt-ltb i n h)

pub number_high : (n i : ℕ) → n ≤ i → number n i ≡ most_qubits + (i - n)
number_high n i h = rw (le-ltb i n h)

pub partner_low : (n i : ℕ) → i < n → partner n i ≡ most_qubits + i
partner_low n i h = rw (lt-ltb i n h)

pub partner_high : (n i : ℕ) → n ≤ i → partner n i ≡ i - n
partner_high n i h = rw (le-ltb i n h)

-- tests of numbers that say the same
alike : (a b c d : ℕ) → (a ≡ b → c ≡ d) → (c ≡ d → a ≡ b) → eqb a b ≡ eqb c d
alike a b c d f g = go (eqb a b) refl
  where
    go : (t : Bool) → eqb a b ≡ t → t ≡ eqb c d
    go true e = sym (eq-eqb c d (f (eqb-true a b e)))
    go false e = sym (ne_eqb c d (λ u. eqb-false a b e (g u)))

module _ (n : ℕ) (most : n ≤ most_qubits) where
  -- a number and a partner's number, where the row stands among the first n and where behind them
  record Placed (i s p : ℕ) : Type 0 where
    pub low : i < n → (s ≡ i) × (p ≡ most_qubits + i)
    pub high : n ≤ i → (s ≡ most_qubits + (i - n)) × (p ≡ i - n)

  placed : (i : ℕ) → Placed i (number n i) (partner n i)
  placed i = record { low = λ h. (number_low n i h, partner_low n i h); high = λ h. (number_high n i h, partner_high n i h) }

  pub number_row : (i : ℕ) → i < n + n → (number n i < row_count) × (number n i % most_qubits < n)
  number_row i h = go (dec_lt i n)
    where
      go : Dec (i < n) → (number n i < row_count) × (number n i % most_qubits < n)
      go (yes l) = let e = number_low n i l in (omega arith, omega arith)
      go (no l) = let e = number_high n i (omega arith) in (omega arith, omega arith)

  pub partner_row : (i : ℕ) → i < n + n → partner n i % most_qubits < n
  partner_row i h = go (dec_lt i n)
    where
      go : Dec (i < n) → partner n i % most_qubits < n
      go (yes l) = let e = partner_low n i l in omega arith
      go (no l) = let e = partner_high n i (omega arith) in omega arith

  -- each packed row that is one of the n of its kind is one of the 2n
  pub numbered_row : (s : ℕ) → s < row_count → s % most_qubits < n → (in_record n s < n + n) × (number n (in_record n s) ≡ s)
  numbered_row s h l = go (dec_lt s most_qubits)
    where
      go : Dec (s < most_qubits) → (in_record n s < n + n) × (number n (in_record n s) ≡ s)
      go (yes m) =
          let q : s / most_qubits ≡ 0 = omega arith in
          let z : n * (s / most_qubits) ≡ n * 0 = ap (λ (k : ℕ). n * k) q in
          let e : in_record n s ≡ s = omega arith in
          (omega arith, number_low n (in_record n s) (omega arith) ∙ e)
      go (no m) =
          let q : s / most_qubits ≡ 1 = omega arith in
          let z : n * (s / most_qubits) ≡ n * 1 = ap (λ (k : ℕ). n * k) q in
          let e : in_record n s ≡ n + (s - most_qubits) = omega arith in
          (omega arith, number_high n (in_record n s) (omega arith) ∙ omega arith)

  pub in_order : (i : ℕ) → i < n + n → in_record n (number n i) ≡ i
  in_order i h = go (dec_lt i n)
    where
      go : Dec (i < n) → in_record n (number n i) ≡ i
      go (yes l) =
          let e = number_low n i l in
          let q : number n i / most_qubits ≡ 0 = omega arith in
          let z : n * (number n i / most_qubits) ≡ n * 0 = ap (λ (k : ℕ). n * k) q in
          omega arith
      go (no l) =
          let e = number_high n i (omega arith) in
          let q : number n i / most_qubits ≡ 1 = omega arith in
          let z : n * (number n i / most_qubits) ≡ n * 1 = ap (λ (k : ℕ). n * k) q in
          omega arith

  -- no row is its own partner, a partner's partner is the row itself, and of two rows the upper is the lower's partner where it stands n behind it
  pub own_partner : (i : ℕ) → eqb (number n i) (partner n i) ≡ false
  own_partner i = ne_eqb _ _ (λ e. go e (dec_lt i n))
    where
      go : number n i ≡ partner n i → Dec (i < n) → ⊥
      go e (yes l) = let p = (placed i).low l in absurd (omega (arith, p.0, p.1))
      go e (no l) = let p = (placed i).high (omega arith) in absurd (omega (arith, p.0, p.1))

  swap : (i j : ℕ) → i < n + n → j < n + n → number n i ≡ partner n j → number n j ≡ partner n i
  swap i j h k e = go (dec_lt i n) (dec_lt j n)
    where
      go : Dec (i < n) → Dec (j < n) → number n j ≡ partner n i
      go (yes l) (yes m) = let p = (placed i).low l in let q = (placed j).low m in absurd (omega (arith, p.0, q.1))
      go (yes l) (no m) = let p = (placed i).low l in let q = (placed j).high (omega arith) in omega (arith, p.0, p.1, q.0, q.1)
      go (no l) (yes m) = let p = (placed i).high (omega arith) in let q = (placed j).low m in omega (arith, p.0, p.1, q.0, q.1)
      go (no l) (no m) = let p = (placed i).high (omega arith) in let q = (placed j).high (omega arith) in absurd (omega (arith, p.0, q.1))

  pub partners_swap : (i j : ℕ) → i < n + n → j < n + n → eqb (number n i) (partner n j) ≡ eqb (number n j) (partner n i)
  partners_swap i j h k = alike _ _ _ _ (swap i j h k) (swap j i k h)

  pub upper_partner : (i j : ℕ) → i < j → j < n + n → eqb (number n j) (partner n i) ≡ eqb j (n + i)
  upper_partner i j h l = alike _ _ _ _ there back
    where
      there : number n j ≡ partner n i → j ≡ n + i
      there e = go (dec_lt i n) (dec_lt j n)
        where
          go : Dec (i < n) → Dec (j < n) → j ≡ n + i
          go (yes a) (yes b) = let p = (placed i).low a in let q = (placed j).low b in absurd (omega (arith, p.1, q.0))
          go (yes a) (no b) = let p = (placed i).low a in let q = (placed j).high (omega arith) in omega (arith, p.1, q.0)
          go (no a) b = let p = (placed i).high (omega arith) in let q = (placed j).high (omega arith) in absurd (omega (arith, p.1, q.0))

      back : j ≡ n + i → number n j ≡ partner n i
      back e = let p = (placed i).low (omega arith) in let q = (placed j).high (omega arith) in omega (arith, p.1, q.0)
