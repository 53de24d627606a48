-- With room for the longest row a product is never refused with 8. Assumes nothing.
use mathlib.Core.Path.{◌≡◌, ap}
use mathlib.Core.Bool.{not}
use mathlib.Core.List.{List}
use Prim.Native.Nat.{ℕ, ◌+◌, ◌-◌, ◌≤◌}
use native.Mathlib.Omega.{arith}
use lib.ListN.{length}
use Rattle.answers.specs.Verdict.{accepted, refused, then, within}
use Rattle.std.proofs.lemmas.Bool.Decides.{nat_tests}
use Rattle.answers.proofs.Accepting.{same_accepted, unless_passed, unless_at_passed}
use Rattle.answers.proofs.Numbered.{RefusedBy, by_unless, by_unless_at, Not8, room_enough}
use Rattle.pauli.specs.Rows.{Row, anticommute, times_row}
use Rattle.pauli.specs.Texts.{letter_byte, row_text, spelled}
use Rattle.pauli.proofs.Listed.{length-listed}
use Rattle.product.specs.Product.{longest_row, lengths_fit, first_bad_of_two, product_of}

text_length : (n : ℕ) (r : Row) → length (row_text n r) ≡ 1 + n
text_length n r = omega (arith, length-listed (λ j. letter_byte (r.letters j)) n)

pub product-has_room : (first second : List ℕ) (room : ℕ) → longest_row ≤ room → (place : ℕ) → then (product_of first second) (within room) ≡ refused 8 place → ⊥
product-has_room first second room h = room_enough (product_of first second) room numbered fits
  where
    numbered : RefusedBy Not8 (product_of first second)
    numbered =
        by_unless Not8 (lengths_fit first second) 13 0 _ (λ e. omega arith)
        (by_unless_at Not8 10 (first_bad_of_two first second) _ (λ e. omega arith)
        (by_unless Not8 (not (anticommute (length first - 1) (spelled first).letters (spelled second).letters)) 12 0 _ (λ e. omega arith) tt))

    fits : (bytes : List ℕ) → product_of first second ≡ accepted bytes → length bytes ≤ room
    fits bytes e =
        let a = unless_passed (lengths_fit first second) 13 0 _ bytes e in
        let b = unless_at_passed 10 (first_bad_of_two first second) _ bytes a.1 in
        let c = unless_passed (not (anticommute (length first - 1) (spelled first).letters (spelled second).letters)) 12 0 _ bytes b.1 in
        let q = same_accepted _ bytes c.1 in
        let l : length first ≤ longest_row = grind (arith, nat_tests, a.0) in
        omega (arith, ap length q, text_length (length first - 1) (times_row (length first - 1) (spelled first) (spelled second)), h)
