-- The letters of one qubit that are replaced, by the two groups of words that hold them. Assumes nothing.
use mathlib.Core.Path.{◌≡◌, sym, ap, ◌∙◌}
use mathlib.Core.Bool.{Bool, ◌&&◌, cond}
use mathlib.Core.List.{List}
use Prim.Native.Nat.{ℕ, ◌+◌, ◌*◌, ◌/◌, ◌%◌, ◌<◌}
use native.Mathlib.Omega.{arith}
use lib.Bits.{bit_and}
use lib.Dec.{eqb}
use Rattle.std.proofs.lemmas.Bool.Decides.{nat_tests}
use lib.ListN.{get_or, set}
use Rattle.limits.specs.Limits.{most_qubits}
use Rattle.words.specs.Bit.{bit}
use Rattle.words.proofs.BitLaws.{bit-and}
use Rattle.pauli.specs.Letters.{Letter, letter}
use Rattle.packing.specs.View.{row_count, Words, bit_at}
use Rattle.packing.specs.Parts.Changes.{Changed}
use Rattle.packing.proofs.Groups.{changed_one, elsewhere, new_letter}
use Rattle.multiply_rows.specs.Parts.Steps.{Lettered, erased}

pub lettered : {j : ℕ} {f g : ℕ → Bool} {w v w' : List ℕ} (l : ℕ → Letter) → j < most_qubits → Changed (8 * j) f w v → Changed (8 * j + 4) g v w'
    → ((s : ℕ) → s < row_count → letter (f s) (g s) ≡ l s) → Lettered j l w w'
lettered {j} l jl c d e = record {
  words = d.words;
  letters = λ s h. new_letter j jl c d s h ∙ e s h;
  before = λ k h. d.before k (omega arith) ∙ c.before k h;
  behind = λ k h. d.behind k (omega arith) ∙ c.behind k (omega arith);
}

-- word g of both groups, but for what `own` has not
module _ (w : List ℕ) (lw : Words w) (j : ℕ) (jl : j < most_qubits) (g : ℕ) (gl : g < 4) (own : ℕ) where
  abbrev cut : List ℕ → ℕ → ℕ
  cut v o = bit_and (get_or v (o + g) 0) own

  abbrev first : List ℕ
  first = set w (8 * j + g) (cut w (8 * j))

  c : Changed (8 * j) (λ s. cond (eqb (s / 64) g) (bit (s % 64) (cut w (8 * j))) (bit_at w (8 * j) s)) w first
  c = changed_one w lw (8 * j) (omega arith) g gl (cut w (8 * j))

  d : Changed (8 * j + 4) (λ s. cond (eqb (s / 64) g) (bit (s % 64) (cut first (8 * j + 4))) (bit_at first (8 * j + 4) s)) first (set first (8 * j + 4 + g) (cut first (8 * j + 4)))
  d = changed_one first c.words (8 * j + 4) (omega arith) g gl (cut first (8 * j + 4))

  -- the z words before the cut
  uncut : (s : ℕ) → s < row_count → bit_at first (8 * j + 4) s ≡ bit_at w (8 * j + 4) s
  uncut s l = elsewhere c (8 * j + 4) s l (λ b. omega arith) (λ b. omega arith)

  -- a bit of the word that is cut
  cut_bit : (v : List ℕ) (o s : ℕ) → s / 64 ≡ g → bit (s % 64) (cut v o) ≡ (bit_at v o s && bit (s % 64) own)
  cut_bit v o s e = bit-and (s % 64) (get_or v (o + g) 0) own ∙ ap (λ (t : ℕ). bit (s % 64) (get_or v (o + t) 0) && bit (s % 64) own) (sym e)

  pub erased_by : Lettered j (erased j g own w) w (set first (8 * j + 4 + g) (cut first (8 * j + 4)))
  erased_by = lettered (erased j g own w) jl c d (λ s l. grind (arith, nat_tests, cut_bit w (8 * j) s, cut_bit first (8 * j + 4) s, uncut s l))
