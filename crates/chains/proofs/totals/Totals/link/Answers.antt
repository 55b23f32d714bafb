use Rattle.chains.proofs.Relaxing.{ready_of, stored_ready, link-kept, link_longer, link_bursts}
use Rattle.chains.proofs.totals.Totals.link.Goals as goal

pub returns-then-total-self : goal.returns-then-total-self
returns-then-total-self c = search link_bursts

pub returns-then-total-self-2 : goal.returns-then-total-self-2
returns-then-total-self-2 c = link-kept c.if-total-self-2.true

pub invariant_of-self : goal.invariant_of-self
invariant_of-self c =
    let (table, hv, hz, ne) = c.requires in
    record { tabled = (stored_ready (ready_of c.args.self.now.tabled table) hz _ c.if-total-self.false).tabled }

pub returns : goal.returns
returns c =
    let (table, hv, hz, ne) = c.requires in
    rw c.bit.ensures.0 (link_longer (ready_of c.args.self.now.tabled table) ne
    (record { item_v = hv; item_z = hz; less = c.if-total-self-2.false; fits = c.if-total-self.false }))
