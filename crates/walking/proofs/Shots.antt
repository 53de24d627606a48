-- What a measurement's parts give together: the row that makes it random, and the coin it takes. Assumes nothing.
use mathlib.Core.Path.{◌≡◌, refl, sym, ◌∙◌, ap}
use mathlib.Core.Bool.{Bool, true, false, ◌&&◌}
use mathlib.Core.List.{List}
use Rattle.std.specs.Prelude.{None, Some}
use Prim.Native.Nat.{ℕ, suc, ◌≤◌, ◌<◌}
use lib.ListN.{length, get_or, drop, drop_of_length-le}
use lib.Seq.{drop-cons}
use Rattle.clifford.specs.Tableau.{Rows}
use Rattle.clifford.specs.Measurement.{random_row, collapsed, fixed_value}
use Rattle.clifford.specs.Run.{coin, afterwards}
use Rattle.walking.specs.Parts.Walk.{following, flipped, Fixed, Random, Dry}

-- what follows a measurement is X where it resets and the outcome is 1
resets_by : (reset outcome : Bool) (a : ℕ) (t : Rows) → flipped a (reset && outcome) t ≡ afterwards (following reset) a outcome t
resets_by true outcome a t = refl
resets_by false outcome a t = refl

module _ (n a : ℕ) (t : Rows) (coins : List ℕ) (used : ℕ) where
  pub was_fixed : (reset value : Bool) (t' : Rows) → None ≡ random_row n a t → value ≡ fixed_value n a t → t' ≡ flipped a (reset && value) t → Fixed n (following reset) a t value t'
  was_fixed reset value t' e v w = record { kind = sym e; is = v; after = w ∙ resets_by reset value a t }

  pub was_dry : (p : ℕ) → Some p ≡ random_row n a t → length coins ≤ used → Dry n a t (drop used coins)
  was_dry p e h = record { row = p; kind = sym e; none_left = drop_of_length-le coins h }

  pub was_random : (reset : Bool) (p : ℕ) (value : Bool) (u t' : Rows) → Some p ≡ random_row n a t → used < length coins → value ≡ coin (get_or coins used 0) → u ≡ collapsed n a p value t
      → t' ≡ flipped a (reset && value) u → Random n (following reset) a t (drop used coins) value t'
  was_random reset p value u t' e h v c w = record {
    row = p;
    byte = get_or coins used 0;
    left = drop (suc used) coins;
    kind = sym e;
    coins_are = drop-cons coins used 0 h;
    is = v;
    after = w ∙ resets_by reset value a u ∙ ap (afterwards (following reset) a value) c;
  }
