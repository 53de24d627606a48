-- Laws of a list that a function gives, and of row texts. Assumes nothing.
use mathlib.Core.Path.{◌≡◌, refl, ap, ap₂}
use mathlib.Core.List.{◌∷◌}
use Prim.Native.Nat.{ℕ, zero, suc, ◌<◌}
use native.Mathlib.Nat.{le_of_suc-le-suc}
use native.Mathlib.Omega.{arith}
use lib.ListN.{length, get_or}
use Rattle.pauli.specs.Texts.{listed}

module _ {A : Type 0} where
  pub length-listed : (f : ℕ → A) (n : ℕ) → length (listed f n) ≡ n
  unfolding listed
  length-listed f zero = refl
  length-listed f (suc n) = ap suc (length-listed (λ k. f (suc k)) n)

  pub get_d_listed : (f : ℕ → A) (n i : ℕ) (d : A) → i < n → get_or (listed f n) i d ≡ f i
  unfolding listed
  get_d_listed f zero i d h = absurd (omega arith)
  get_d_listed f (suc n) zero d h = refl
  get_d_listed f (suc n) (suc i) d h = get_d_listed (λ k. f (suc k)) n i d (le_of_suc-le-suc h)

  pub listed_ext : (f g : ℕ → A) (n : ℕ) → ((i : ℕ) → i < n → f i ≡ g i) → listed f n ≡ listed g n
  unfolding listed
  listed_ext f g zero h = refl
  listed_ext f g (suc n) h = ap₂ ◌∷◌ (h zero (omega arith)) (listed_ext (λ k. f (suc k)) (λ k. g (suc k)) n (λ i l. h (suc i) (omega arith)))
