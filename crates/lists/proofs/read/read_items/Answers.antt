use Rattle.std.proofs.lemmas.Result.{err_from_is_err_and}
use Rattle.sheet.specs.Sheet.{max_items, item_list}
use Rattle.lists.proofs.Counted.{list_run, count-within}
use Rattle.lists.proofs.read.read_items.Goals as goal

pub returns-in_err-n : goal.returns-in_err-n
unfolding item_list
returns-in_err-n c =
    let p = err_from_is_err_and c.from_residual.result c.from_residual.ensures.1 in rw (p.1, p.2, list_run, c.in_err-n.ensures)

pub read_item_row-requires : goal.read_item_row-requires
read_item_row-requires c = count-within max_items c.args.present c.args.rest.at c.args.rest.bytes.now c.in_ok-n.ensures

pub returns : goal.returns
unfolding item_list
returns c = rw (list_run, c.in_ok-n.ensures) c.read_item_row.ensures
