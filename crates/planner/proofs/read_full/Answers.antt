-- `planner::read_full` meets its contract: a read puts its bytes behind those that came before.
use Rattle.std.proofs.Common.{◌≡◌, ◌≤◌, ◌+◌, ◌++◌, ℕ, List, length, take, arith, sym, ap, ◌∙◌, length-take-le}
use Rattle.std.proofs.Math.Seq.{take-append-add}
use Rattle.std.proofs.lemmas.List.{take-append-le}
use Rattle.std.proofs.KnownBytes.{Consumes-trans}
use borrow.Rule.Slice.PartMut.{put_mid}
use Rattle.planner.proofs.read_full.Goals as goal

-- what a read put behind the first a bytes stands behind them
take_more : (a k m : ℕ) (xs ys : List ℕ) → a ≤ length xs → m ≤ length ys → take (a + m) (put_mid a k xs ys) ≡ take a xs ++ take m ys
take_more a k m xs ys p q =
    let l = length-take-le a xs p in
    ap (λ j. take (j + m) (put_mid a k xs ys)) (sym l) ∙ (take-append-add (take a xs) _ m ∙ ap (λ z. take a xs ++ z) (take-append-le m ys _ q))

pub loop-n-preserved : goal.loop-n-preserved
loop-n-preserved g c = record {
  within = omega (arith, c.in_ok-more.ensures.bound);
  came = rw (take_more c.loop-n.n _ c.in_ok-more.more c.loop-n.buffer c.read.new.buf (omega arith) (omega (arith, c.in_ok-more.ensures.bound)))
      (Consumes-trans _ _ _ _ _ c.loop-n.invariant.came c.in_ok-more.ensures.bytes.0);
}
