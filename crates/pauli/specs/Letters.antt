-- The four letters, their two bits, and the sixteen products with the power of i: document 01, "Rows and their products". Assumes nothing.
use Rattle.std.specs.Prelude.{Bool, true, false, not}

pub data Letter : Type 0 where
  I X Y Z : Letter

infixl 33 ◌⊕◌
-- exclusive or
abbrev pub ◌⊕◌ : Bool → Bool → Bool
true ⊕ b = not b
false ⊕ b = b

-- a letter as two bits x and z: I 00, X 10, Y 11, Z 01
abbrev pub x : Letter → Bool
x I = false
x X = true
x Y = true
x Z = false

abbrev pub z : Letter → Bool
z I = false
z X = false
z Y = true
z Z = true

abbrev pub letter : Bool → Bool → Letter
letter false false = I
letter true false = X
letter true true = Y
letter false true = Z

-- the powers of i, 0 to 3: 1, i, -1, -i
pub data Power : Type 0 where
  i0 i1 i2 i3 : Power

abbrev pub next : Power → Power
next i0 = i1
next i1 = i2
next i2 = i3
next i3 = i0

infixl 40 ◌⊞◌
-- powers are summed modulo four
abbrev pub ◌⊞◌ : Power → Power → Power
i0 ⊞ q = q
i1 ⊞ q = next q
i2 ⊞ q = next (next q)
i3 ⊞ q = next (next (next q))

-- a minus sign adds two
abbrev pub sign : Bool → Power
sign false = i0
sign true = i2

-- a total that is not even
abbrev pub odd : Power → Bool
odd i0 = false
odd i1 = true
odd i2 = false
odd i3 = true

-- a letter and the power of i before it
pub record Product : Type 0 where
  pub power : Power
  pub letter : Letter

infix 35 ◌⋆◌
abbrev ◌⋆◌ : Power → Letter → Product
p ⋆ l = record { power = p; letter = l }

-- the sixteen products of two letters
abbrev pub times : Letter → Letter → Product
times I b = i0 ⋆ b
times X I = i0 ⋆ X
times Y I = i0 ⋆ Y
times Z I = i0 ⋆ Z
times X X = i0 ⋆ I
times Y Y = i0 ⋆ I
times Z Z = i0 ⋆ I
times X Y = i1 ⋆ Z
times Y Z = i1 ⋆ X
times Z X = i1 ⋆ Y
times Y X = i3 ⋆ Z
times Z Y = i3 ⋆ X
times X Z = i3 ⋆ Y

infixl 45 ◌·◌
abbrev pub ◌·◌ : Letter → Letter → Letter
a · b = (times a b).letter

abbrev pub power : Letter → Letter → Power
power a b = (times a b).power

-- two different letters, neither being I
abbrev pub differ : Letter → Letter → Bool
differ I b = false
differ X I = false
differ X X = false
differ X Y = true
differ X Z = true
differ Y I = false
differ Y X = true
differ Y Y = false
differ Y Z = true
differ Z I = false
differ Z X = true
differ Z Y = true
differ Z Z = false
