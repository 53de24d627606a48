-- Two answers that the promises of the exports allow are equal, and so are the lent bytes. Assumes nothing.
use mathlib.Core.Path.{◌≡◌, sym, ◌∙◌}
use mathlib.Core.List.{List}
use Prim.Native.Nat.{ℕ}
use Rattle.answers.specs.Verdict.{Verdict}
use Rattle.senghovai.specs.Exports.{ExportsRun, ExportsWritten}

pub exported_run_one : (circuit coins old : List ℕ) (m n : ℕ) (a b v w : List ℕ) → ExportsRun circuit coins old m a v → ExportsRun circuit coins old n b w → (m ≡ n) × (a ≡ b) × (v ≡ w)
exported_run_one circuit coins old m n a b v w p q = (p.number_is ∙ sym q.number_is, p.answer_is ∙ sym q.answer_is, p.buffer ∙ sym q.buffer)

pub exported_written_one : (u : Verdict (List ℕ)) (old : List ℕ) (m n : ℕ) (a b v w : List ℕ) → ExportsWritten u old m a v → ExportsWritten u old n b w → (m ≡ n) × (a ≡ b) × (v ≡ w)
exported_written_one u old m n a b v w p q = (p.number_is ∙ sym q.number_is, p.answer_is ∙ sym q.answer_is, p.buffer ∙ sym q.buffer)
