-- What the sums that a row picks tell of it: the two halves of its letters, put together. Assumes nothing.
use mathlib.Core.Path.{◌≡◌, refl, sym, ◌∙◌, ap, ap₂}
use mathlib.Core.Bool.{Bool, true, false, cond}
use mathlib.Core.List.{List}
use Prim.Native.Nat.{ℕ, suc, ◌+◌, ◌*◌, ◌/◌, ◌%◌, ◌≤◌, ◌<◌}
use native.Mathlib.Decide.{dec_lt}
use native.Mathlib.Omega.{arith}
use lib.ListN.{length, get_or, set, length-set}
use Rattle.limits.specs.Limits.{most_qubits}
use Rattle.pauli.specs.Letters.{Letter, ◌⊕◌, letter, differ, x, z}
use Rattle.pauli.specs.Rows.{odd_number, anticommute}
use Rattle.pauli.specs.Texts.{letter_of}
use Rattle.pauli.proofs.LetterLaws.{xor_adds, letter_bits, differ-none}
use Rattle.pauli.proofs.RowLaws.{odd_split}
use Rattle.pauli.proofs.Sums.{sum-cong, sum-plus}
use Rattle.words.specs.Bit.{bit}
use Rattle.packing.specs.View.{row_count, letter_at, Holds}
use Rattle.groups.specs.declared.Group.{Group}
use Rattle.groups.specs.Parts.Rows.{row_bit, All}
use Rattle.read_rows.specs.Parts.Loading.{column_of}
use Rattle.column_sums.specs.Parts.Sums.{told_at, spelled_number, letter_numbered, tells, Summed, Picks, Against}
use Rattle.column_sums.proofs.Tables.{told_here, told_other}
use Rattle.column_sums.proofs.Picking.{number_small}

-- ---- sums over two halves

odd_halves : (f : ℕ → Bool) (half : ℕ) → odd_number (λ j. f j ⊕ f (half + j)) half ≡ odd_number f (half + half)
odd_halves f half = sum-plus xor_adds f (λ j. f (half + j)) half ∙ sym (odd_split f half half)

-- the last place of an odd number of letters is taken together with one behind them, which tells nothing
odd_padded : (f : ℕ → Bool) (n half : ℕ) → n ≤ half + half → half + half ≤ n + 1 → (n < half + half → f n ≡ false) → odd_number f (half + half) ≡ odd_number f n
odd_padded f n half a b h = go (dec_lt n (half + half))
  where
    go : Dec (n < half + half) → odd_number f (half + half) ≡ odd_number f n
    go (yes l) =
        let e : half + half ≡ suc n = omega arith in
        ap (odd_number f) e ∙ ap (λ (b : Bool). odd_number f n ⊕ b) (h l) ∙ xor_adds.right (odd_number f n)
    go (no l) =
        let e : half + half ≡ n = omega arith in
        ap (odd_number f) e

-- ---- one sum

letter_numbered_spelled : (b : ℕ) → letter_numbered (spelled_number b) ≡ letter_of b
unfolding bit
letter_numbered_spelled b = go (x (letter_of b)) (z (letter_of b)) ∙ letter_bits (letter_of b)
  where
    go : (p q : Bool) → letter_numbered (cond p 1 0 + 2 * cond q 1 0) ≡ letter p q
    go true true = refl
    go true false = refl
    go false true = refl
    go false false = refl

tells_letters : (w : List ℕ) (half j a b s : ℕ) → tells w half (16 * j + spelled_number a + 4 * spelled_number b) s ≡ differ (letter_of a) (letter_at w s j) ⊕ differ (letter_of b) (letter_at w s (half + j))
tells_letters w half j a b s =
    let p = spelled_number a in
    let q = spelled_number b in
    let k : (16 * j + p + 4 * q) / 16 ≡ j = omega (arith, number_small a, number_small b) in
    let low : (16 * j + p + 4 * q) % 4 ≡ p = omega (arith, number_small a, number_small b) in
    let rest : (16 * j + p + 4 * q) / 4 ≡ 4 * j + q = omega (arith, number_small a, number_small b) in
    let last : (4 * j + q) % 4 ≡ q = omega (arith, number_small b) in
    let high : (16 * j + p + 4 * q) / 4 % 4 ≡ q = ap (λ (e : ℕ). e % 4) rest ∙ last in
    ap₂ ◌⊕◌ (ap₂ (λ (e i : ℕ). differ (letter_numbered e) (letter_at w s i)) low k ∙ ap (λ (l : Letter). differ l (letter_at w s j)) (letter_numbered_spelled a))
    (ap₂ (λ (e i : ℕ). differ (letter_numbered e) (letter_at w s (half + i))) high k ∙ ap (λ (l : Letter). differ l (letter_at w s (half + j))) (letter_numbered_spelled b))

-- ---- a row

module _ (letters : List ℕ) (n half : ℕ) (w : List ℕ) (t : List Group) (p : List ℕ) (enough : n ≤ half + half) (close : half + half ≤ n + 1) (most : n ≤ most_qubits) (h : Holds n w)
    (a : Summed w half (16 * half) t) (b : Picks letters half p) where
  abbrev spelled : ℕ → Letter
  spelled j = letter_of (get_or letters j 0)

  picked_sum : (j s : ℕ) → j < half → s < row_count → told_at t (16 * j + get_or p j 0) s ≡ differ (spelled j) (letter_at w s j) ⊕ differ (spelled (half + j)) (letter_at w s (half + j))
  picked_sum j s l m =
      let u = get_or letters j 0 in
      let v = get_or letters (half + j) 0 in
      let k = 16 * j + spelled_number u + 4 * spelled_number v in
      let e : 16 * j + get_or p j 0 ≡ k = omega (arith, b.places j l) in
      ap (λ (o : ℕ). told_at t o s) e ∙ a.sums k s (omega (arith, number_small u, number_small v)) m ∙ tells_letters w half j u v s

  pub picked_row : (s : ℕ) → s < row_count → odd_number (λ j. told_at t (16 * j + get_or p j 0) s) half ≡ anticommute n spelled (letter_at w s)
  picked_row s m =
      let f : ℕ → Bool = λ j. differ (spelled j) (letter_at w s j) in
      sum-cong xor_adds _ _ half (λ j l. picked_sum j s l m) ∙ odd_halves f half
      ∙ odd_padded f n half enough close (λ l. ap (differ (spelled n)) (h.letters s n m (omega arith) (omega arith)) ∙ differ-none (spelled n))

-- ---- all rows

pub against_none : (texts : List ℕ) (n : ℕ) (w : List ℕ) (found : List Group) → length found ≡ row_count → Against texts n w 0 found
against_none texts n w found l = record { size = l; bits = λ i s h m. absurd (omega arith) }

pub against_more : (texts : List ℕ) (n : ℕ) (w : List ℕ) (i : ℕ) (found : List Group) (g : Group) (letters : List ℕ) → i < row_count → Against texts n w i found
    → ((j : ℕ) → j < n → letter_of (get_or letters j 0) ≡ column_of texts n j i) → All (λ s. row_bit g s ≡ anticommute n (λ j. letter_of (get_or letters j 0)) (letter_at w s))
    → Against texts n w (i + 1) (set found i g)
against_more texts n w i found g letters h a e c = record { size = length-set found i g ∙ a.size; bits = λ k s l m. go k s l m (dec_lt k i) }
  where
    go : (k s : ℕ) → k < i + 1 → s < row_count → Dec (k < i) → told_at (set found i g) k s ≡ anticommute n (λ j. column_of texts n j k) (letter_at w s)
    go k s l m (yes u) = told_other found i k g (λ q. omega arith) s ∙ a.bits k s u m
    go k s l m (no u) =
        let q : k ≡ i = omega arith in
        ap (λ (o : ℕ). told_at (set found i g) o s) q ∙ told_here found i g (omega (arith, a.size)) s ∙ c s m
        ∙ sum-cong xor_adds _ _ n (λ j b. ap (λ (r : Letter). differ r (letter_at w s j)) (e j b ∙ ap (column_of texts n j) (sym q)))
