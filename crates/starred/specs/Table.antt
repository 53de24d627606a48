-- The starred examples of document 01, all of them, as one table of what is asked and what is answered, in bytes. Assumes nothing.
use Rattle.std.specs.Prelude.{List, [], ◌∷◌, ◌++◌, ◌≡◌, ℕ}
use Rattle.answers.specs.Verdict.{Verdict, accepted, refused, then}
use Rattle.pauli.specs.Texts.{spelled, row_text}
use Rattle.clifford.specs.declared.One.TheVariants.{H, S}
use Rattle.clifford.specs.declared.Two.TheVariants.{Cx, Cz}
use Rattle.clifford.specs.declared.Gate.{Gate}
use Rattle.clifford.specs.declared.Gate.TheVariants.{One as one, Two as two}
use Rattle.clifford.specs.Gates.{gate}
use Rattle.product.specs.Product.{product_of}
use Rattle.records.specs.Record.{trailer, longest_record}
use Rattle.run.specs.Run.{run_of}

-- two rows are multiplied; a gate is applied to a row; a circuit is run with coins
pub data Asked : Type 0 where
  rows_multiplied : (first second : List ℕ) → Asked
  applied : Gate → (n : ℕ) → List ℕ → Asked
  ran : (circuit coins : List ℕ) → Asked

-- a buffer of the longest record's length is lent
abbrev pub answered : Asked → Verdict (List ℕ)
answered (rows_multiplied first second) = product_of first second
answered (applied g n row) = accepted (row_text n (gate g (spelled row)))
answered (ran circuit coins) = then (run_of circuit coins longest_record) (λ s. accepted s.bytes)

-- an example: what is asked, and what must be answered
pub record Example : Type 0 where
  pub asked : Asked
  pub answer : Verdict (List ℕ)

-- every example of a list holds
abbrev pub AllHold : List Example → Type 0
AllHold [] = Unit {0}
AllHold (e ∷ es) = (answered e.asked ≡ e.answer) × AllHold es

abbrev pub table : List Example
table =
    -- `Q 1`, nothing more: rows +X, +Z; a record of 16 bytes
    record { asked = ran (81 ∷ 32 ∷ 49 ∷ 10 ∷ []) []; answer = accepted (([]) ++ (43 ∷ 88 ∷ 43 ∷ 90 ∷ []) ++ trailer 1 0) }
    -- +XX times +ZZ is -YY: the powers sum to -2
    ∷ record { asked = rows_multiplied (43 ∷ 88 ∷ 88 ∷ []) (43 ∷ 90 ∷ 90 ∷ []); answer = accepted (45 ∷ 89 ∷ 89 ∷ []) }
    -- +ZZ times +XX is -YY: the powers sum to +2
    ∷ record { asked = rows_multiplied (43 ∷ 90 ∷ 90 ∷ []) (43 ∷ 88 ∷ 88 ∷ []); answer = accepted (45 ∷ 89 ∷ 89 ∷ []) }
    -- +X times +Z is refused, 12
    ∷ record { asked = rows_multiplied (43 ∷ 88 ∷ []) (43 ∷ 90 ∷ []); answer = refused 12 0 }
    -- H on +Y gives -Y
    ∷ record { asked = applied (one H 0) 1 (43 ∷ 89 ∷ []); answer = accepted (45 ∷ 89 ∷ []) }
    -- S on +Y gives -X
    ∷ record { asked = applied (one S 0) 1 (43 ∷ 89 ∷ []); answer = accepted (45 ∷ 88 ∷ []) }
    -- CX 0 1 on +XZ gives -YY
    ∷ record { asked = applied (two Cx 0 1) 2 (43 ∷ 88 ∷ 90 ∷ []); answer = accepted (45 ∷ 89 ∷ 89 ∷ []) }
    -- CX 0 1 on +YY gives -XZ
    ∷ record { asked = applied (two Cx 0 1) 2 (43 ∷ 89 ∷ 89 ∷ []); answer = accepted (45 ∷ 88 ∷ 90 ∷ []) }
    -- CZ 0 1 on +XX gives +YY
    ∷ record { asked = applied (two Cz 0 1) 2 (43 ∷ 88 ∷ 88 ∷ []); answer = accepted (43 ∷ 89 ∷ 89 ∷ []) }
    -- CZ 0 1 on +XY gives -YX
    ∷ record { asked = applied (two Cz 0 1) 2 (43 ∷ 88 ∷ 89 ∷ []); answer = accepted (45 ∷ 89 ∷ 88 ∷ []) }
    -- `Q 1`, H 0, S 0, S 0, H 0, M 0: fixed 1; rows +X, -Z
    ∷ record { asked = ran (81 ∷ 32 ∷ 49 ∷ 10 ∷ 72 ∷ 32 ∷ 48 ∷ 10 ∷ 83 ∷ 32 ∷ 48 ∷ 10 ∷ 83 ∷ 32 ∷ 48 ∷ 10 ∷ 72 ∷ 32 ∷ 48 ∷ 10 ∷ 77 ∷ 32 ∷ 48 ∷ 10 ∷ []) []; answer = accepted ((49 ∷ []) ++ (43 ∷ 88 ∷ 45 ∷ 90 ∷ []) ++ trailer 1 1) }
    -- `Q 2`, H 0, CX 0 1, M 1, coin 0: random 0; rows +XX, +XI, +IZ, +ZZ
    ∷ record { asked = ran (81 ∷ 32 ∷ 50 ∷ 10 ∷ 72 ∷ 32 ∷ 48 ∷ 10 ∷ 67 ∷ 88 ∷ 32 ∷ 48 ∷ 32 ∷ 49 ∷ 10 ∷ 77 ∷ 32 ∷ 49 ∷ 10 ∷ []) (0 ∷ []); answer = accepted ((50 ∷ []) ++ (43 ∷ 88 ∷ 88 ∷ 43 ∷ 88 ∷ 73 ∷ 43 ∷ 73 ∷ 90 ∷ 43 ∷ 90 ∷ 90 ∷ []) ++ trailer 2 1) }
    -- `Q 1`, H 0, M 0, H 0, M 0 with one coin: 7 at line 5
    ∷ record { asked = ran (81 ∷ 32 ∷ 49 ∷ 10 ∷ 72 ∷ 32 ∷ 48 ∷ 10 ∷ 77 ∷ 32 ∷ 48 ∷ 10 ∷ 72 ∷ 32 ∷ 48 ∷ 10 ∷ 77 ∷ 32 ∷ 48 ∷ 10 ∷ []) (0 ∷ []); answer = refused 7 5 }
    -- with two coins: accepted
    ∷ record { asked = ran (81 ∷ 32 ∷ 49 ∷ 10 ∷ 72 ∷ 32 ∷ 48 ∷ 10 ∷ 77 ∷ 32 ∷ 48 ∷ 10 ∷ 72 ∷ 32 ∷ 48 ∷ 10 ∷ 77 ∷ 32 ∷ 48 ∷ 10 ∷ []) (0 ∷ 0 ∷ []); answer = accepted ((50 ∷ 50 ∷ []) ++ (43 ∷ 88 ∷ 43 ∷ 90 ∷ []) ++ trailer 1 2) }
    ∷ []
