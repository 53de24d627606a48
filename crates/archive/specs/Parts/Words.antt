-- Packed words compared bit by bit: of two words, and of the stabilizers in two groups of words. Assumes nothing.
use Rattle.std.specs.Prelude.{Bool, List, ℕ, ◌+◌}
use Rattle.limits.specs.Limits.{most_qubits}
use Rattle.words.specs.Bit.{bit}
use Rattle.packing.specs.View.{bit_at}
use Rattle.archive.specs.Same.{all_of, equal_bits}

abbrev pub equal_words : ℕ → ℕ → Bool
equal_words a b = all_of (λ k. equal_bits (bit k a) (bit k b)) 64

-- all stabilizers have equal bits in the words from o on
abbrev pub equal_groups : List ℕ → List ℕ → ℕ → Bool
equal_groups v w o = all_of (λ i. equal_bits (bit_at v o (most_qubits + i)) (bit_at w o (most_qubits + i))) most_qubits
