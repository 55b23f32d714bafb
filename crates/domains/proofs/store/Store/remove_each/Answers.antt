-- The relations are removed one after another: `Steps n` is reached when those below n are done.
use Rattle.prelude.specs.Names.{arith, or_lt}
use Rattle.domains.proofs.RemoveSet.{nothing_left, steps-none, next_spares, steps_one}
use Rattle.domains.proofs.BitLaws.{gives_first, gives_part}
use Rattle.domains.proofs.store.Store.remove_each.Goals as goal

pub emptied-requires : goal.emptied-requires
emptied-requires c = or_lt 30 _ _ (c.args.self.now.good.laid.mirror.small _) c.requires.0.small

pub returns-then-emptied-ne0 : goal.returns-then-emptied-ne0
returns-then-emptied-ne0 c = nothing_left c.args.self.now.good c.requires.0 c.emptied.ensures c.if-emptied-ne0.true

pub remove_items-requires : goal.remove_items-requires
remove_items-requires c =
    let (ask, left) = c.requires in
    let none = steps-none c.args.self.now.good ask in
    (omega arith, ask.axis, ask.item, next_spares c.args.self.now.good ask none (omega arith) (gives_first _) c.emptied.ensures c.if-emptied-ne0.false left)

pub remove_items-requires-2 : goal.remove_items-requires-2
remove_items-requires-2 c =
    let (ask, left) = c.requires in
    let g = c.args.self.now.good in
    let one = steps_one g ask (steps-none g ask) (omega arith) (gives_first _) c.remove_items.ensures in
    (omega arith, ask.axis, ask.item, next_spares g ask one (omega arith) (gives_part _ 10) c.emptied.ensures c.if-emptied-ne0.false left)

pub remove_items-requires-3 : goal.remove_items-requires-3
remove_items-requires-3 c =
    let (ask, left) = c.requires in
    let g = c.args.self.now.good in
    let one = steps_one g ask (steps-none g ask) (omega arith) (gives_first _) c.remove_items.ensures in
    let two = steps_one g ask one (omega arith) (gives_part _ 10) c.remove_items-2.ensures in
    (omega arith, ask.axis, ask.item, next_spares g ask two (omega arith) (gives_part _ 20) c.emptied.ensures c.if-emptied-ne0.false left)

pub returns : goal.returns
returns c =
    let ask = c.requires.0 in
    let g = c.args.self.now.good in
    let one = steps_one g ask (steps-none g ask) (omega arith) (gives_first _) c.remove_items.ensures in
    let two = steps_one g ask one (omega arith) (gives_part _ 10) c.remove_items-2.ensures in
    (steps_one g ask two (omega arith) (gives_part _ 20) c.remove_items-3.ensures).narrowed
