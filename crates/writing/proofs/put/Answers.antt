-- `writing::put` meets its contract: the bytes passed stand at the front. Assumes nothing.
use mathlib.Core.Path.{◌≡◌, sym, ◌∙◌, ap}
use Prim.Native.Nat.{ℕ}
use native.Mathlib.Numerals.{add-one}
use native.Mathlib.Omega.{arith}
use lib.ListN.{length, take}
use lib.Seq.{length-take-le, take-suc, take_all}
use borrow.Author.Rules.{rules}
use Rattle.writing.proofs.Placing.{placed, placed_none, placed_front, then_byte}
use Rattle.writing.proofs.put.Goals as goal

pub loop-k-init : goal.loop-k-init
loop-k-init c = placed_none _ 0

pub loop-k-preserved : goal.loop-k-preserved
loop-k-preserved c =
    let l = c.loop-k in
    let m = c.args.text.now in
    let k = length-take-le l.k m (omega arith) in
    then_byte _ _ 0 (take l.k m) l.invariant l.k _ _ (sym (ap (λ (n : ℕ). take n m) (add-one l.k) ∙ take-suc m l.k 0 (search rules))) (omega arith) (omega arith)

pub returns : goal.returns
returns c =
    let m = c.args.text.now in
    let j : c.loop-k.k ≡ length m = omega arith in
    c.loop-k.invariant ∙ ap (placed _ 0) (take_all c.loop-k.k m (omega arith)) ∙ placed_front c.args.out.now m
