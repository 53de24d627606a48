-- The sums of two columns, one after another: what a letter tells of the packed rows, and a table that gets one sum more, or the four of one more letter. Assumes nothing.
use mathlib.Core.Path.{◌≡◌, sym, ap, ap₂, ◌∙◌}
use mathlib.Core.Bool.{Bool}
use mathlib.Core.List.{List}
use Prim.Native.Nat.{ℕ, ◌+◌, ◌*◌, ◌/◌, ◌%◌, ◌≤◌, ◌<◌}
use native.Mathlib.Decide.{dec_lt}
use native.Mathlib.Omega.{arith}
use mathlib.Core.Logic.{◌≢◌}
use lib.ListN.{length, set, length-set}
use lib.Seq.{get_or-set_same, get_or-set_other}
use Rattle.groups.specs.declared.Group.{Group}
use Rattle.groups.specs.Parts.Rows.{row_bit}
use Rattle.pauli.specs.Letters.{Letter, ◌⊕◌, letter, differ}
use Rattle.packing.specs.View.{row_count, letter_at}
use Rattle.groups.specs.Parts.Rows.{All}
use Rattle.words.proofs.BitLaws.{bit-zero}
use Rattle.column_sums.specs.Parts.Sums.{sum_count, no_rows, told_at, letter_numbered, tells, Summed}

-- the letter of number 0 is I, which differs from none
pub none_differs : (l : Letter) (b : Bool) → differ (letter_numbered 0) l ⊕ b ≡ b
none_differs l b = ap (λ (a : Letter). differ a l ⊕ b) (ap₂ letter (bit-zero 0) (bit-zero 1))

-- one group of some is another
pub told_here : (t : List Group) (k : ℕ) (g : Group) → k < length t → (s : ℕ) → told_at (set t k g) k s ≡ row_bit g s
told_here t k g h s = ap (λ (r : Group). row_bit r s) (get_or-set_same t k g no_rows h)

pub told_other : (t : List Group) (i k : ℕ) (g : Group) → k ≢ i → (s : ℕ) → told_at (set t i g) k s ≡ told_at t k s
told_other t i k g h s = ap (λ (r : Group). row_bit r s) (get_or-set_other t i k g no_rows h)

pub sums_none : (w : List ℕ) (half : ℕ) (t : List Group) → length t ≡ sum_count → Summed w half 0 t
sums_none w half t l = record { size = l; sums = λ k s h. absurd (omega arith) }

pub sums_more : {w : List ℕ} {half : ℕ} (m : ℕ) {t : List Group} (g : Group) → m < sum_count → Summed w half m t → All (λ s. row_bit g s ≡ tells w half m s) → Summed w half (m + 1) (set t m g)
sums_more {w} {half} m {t} g below a e = record { size = length-set t m g ∙ a.size; sums = λ k s h l. go k s h l (dec_lt k m) }
  where
    go : (k s : ℕ) → k < m + 1 → s < row_count → Dec (k < m) → told_at (set t m g) k s ≡ tells w half k s
    go k s h l (yes b) = told_other t m k g (λ q. omega arith) s ∙ a.sums k s b l
    go k s h l (no b) =
        let i : k ≡ m = omega arith in
        ap (λ (n : ℕ). told_at (set t m g) n s) i ∙ told_here t m g (omega (arith, a.size)) s ∙ e s l ∙ ap (λ (n : ℕ). tells w half n s) (sym i)

module _ (w : List ℕ) (half j e : ℕ) (el : e < 4) where
  -- what the sum of the letters of numbers q and e tells of row s
  abbrev pub two : ℕ → ℕ → Bool
  two q s = differ (letter_numbered q) (letter_at w s j) ⊕ differ (letter_numbered e) (letter_at w s (half + j))

  two_tell : (q s : ℕ) → q < 4 → two q s ≡ tells w half (16 * j + 4 * e + q) s
  two_tell q s ql =
      let m = 16 * j + 4 * e + q in
      let a : q ≡ m % 4 = omega arith in
      let h : m / 4 ≡ 4 * j + e = omega arith in
      let g : e ≡ (4 * j + e) % 4 = omega arith in
      let b : e ≡ m / 4 % 4 = g ∙ ap (λ (n : ℕ). n % 4) (sym h) in
      let d : j ≡ m / 16 = omega arith in
      ap₂ ◌⊕◌
      (ap₂ (λ (k i : ℕ). differ (letter_numbered k) (letter_at w s i)) a d)
      (ap₂ (λ (k i : ℕ). differ (letter_numbered k) (letter_at w s (half + i))) b d)

  next : (q o : ℕ) {t : List Group} (g : Group) → q < 4 → o ≡ 16 * j + 4 * e + q → o < sum_count → Summed w half o t → All (λ s. row_bit g s ≡ two q s) → Summed w half (o + 1) (set t o g)
  next q o {t} g ql i h a b = sums_more o g h a (λ s l. b s l ∙ two_tell q s ql ∙ ap (λ (m : ℕ). tells w half m s) (sym i))

  -- the four sums of the letter of number e on the second qubit
  pub four_more : {t : List Group} (g0 g1 g2 g3 : Group) → 16 * j + 4 * e + 4 ≤ sum_count → Summed w half (16 * j + 4 * e) t
      → All (λ s. row_bit g0 s ≡ two 0 s) → All (λ s. row_bit g1 s ≡ two 1 s) → All (λ s. row_bit g2 s ≡ two 2 s) → All (λ s. row_bit g3 s ≡ two 3 s)
      → let o = 16 * j + 4 * e in Summed w half (16 * j + 4 * (e + 1)) (set (set (set (set t o g0) (o + 1) g1) (o + 2) g2) (o + 3) g3)
  four_more {t} g0 g1 g2 g3 h a b0 b1 b2 b3 =
      let o = 16 * j + 4 * e in
      let k1 : o + 1 + 1 ≡ o + 2 = omega arith in
      let k2 : o + 2 + 1 ≡ o + 3 = omega arith in
      let k3 : o + 3 + 1 ≡ 16 * j + 4 * (e + 1) = omega arith in
      let t1 = set t o g0 in
      let t2 = set t1 (o + 1) g1 in
      let t3 = set t2 (o + 2) g2 in
      let a1 : Summed w half (o + 1) t1 = next 0 o g0 (omega arith) (omega arith) (omega arith) a b0 in
      let a2 : Summed w half (o + 1 + 1) t2 = next 1 (o + 1) g1 (omega arith) (omega arith) (omega arith) a1 b1 in
      let a3 : Summed w half (o + 2 + 1) t3 = next 2 (o + 2) g2 (omega arith) (omega arith) (omega arith) (rw k1 at a2) b2 in
      let a4 : Summed w half (o + 3 + 1) (set t3 (o + 3) g3) = next 3 (o + 3) g3 (omega arith) (omega arith) (omega arith) (rw k2 at a3) b3 in
      rw k3 at a4
