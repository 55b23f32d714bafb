-- By what is known of v: overlap and an order removed, both orders left, or overlap left.
use Rattle.std.specs.Prelude.{◌&&◌, ◌+◌}
use Rattle.prelude.specs.Names.{sym, arith}
use Rattle.domains.specs.Bits.{bit_at}
use Rattle.rules.proofs.Triangles.{Only, only_none, only_shift, reached_known, reached-none, reached-left}
use Rattle.rules.proofs.paths.beyond.Goals as goal
use Rattle.rules.proofs.paths.beyond.Goals.{then-has-4, else-has-4, then-has-5, else-has-5}

pub returns-then-has-2 : goal.returns-then-has-2
returns-then-has-2 c = reached_known c.requires (sym c.if-has.ensures) 2 (omega arith) (sym c.if-has-2.ensures) c.following.ensures

pub returns-then-has-3 : goal.returns-then-has-3
returns-then-has-3 c = reached_known c.requires (sym c.if-has.ensures) 1 (omega arith) (sym c.if-has-3.ensures) c.leading.ensures

pub returns-then-has : goal.returns-then-has
returns-then-has c = reached-none c.requires (sym c.if-has.ensures) (sym c.if-has-3.ensures) (sym c.if-has-2.ensures)

pub returns : goal.returns
returns c =
    let before : Only 1 c.if-has-4.before (bit_at c.args.near (10 + c.args.v)) (λ w. bit_at c.args.far w && bit_at c.args.far (10 + w)) =
    elim c.if-has-4.branch [
      | then-has-4 w ↦ rw w.before-is (only_shift 1 (omega arith) (sym w.if-has-4.ensures) w.leading-then-has-4.ensures)
      | else-has-4 w ↦ rw w.before-is (only_none 1 (sym w.if-has-4.ensures))
    ] in
    let after : Only 2 c.if-has-5.after (bit_at c.args.near (20 + c.args.v)) (λ w. bit_at c.args.far w && bit_at c.args.far (20 + w)) =
    elim c.if-has-5.branch [
      | then-has-5 w ↦ rw w.after-is (only_shift 2 (omega arith) (sym w.if-has-5.ensures) w.following-then-has-5.ensures)
      | else-has-5 w ↦ rw w.after-is (only_none 2 (sym w.if-has-5.ensures))
    ] in
    reached-left c.requires (sym c.if-has.ensures) before after
