-- More than one relation is left where the domain is neither overlap alone nor separated.
use Rattle.std.specs.Prelude.{◌≡◌}
use Rattle.prelude.specs.Names.{not, refl, sym, ◌∙◌, ap, ne_eqb, arith}
use Rattle.model.specs.Domains.{overlap_bit, before_bit, after_bit}
use Rattle.nodes.proofs.Choosing.{several-is}
use Rattle.nodes.proofs.branching.is_undecided.Goals as goal

pub returns-then-domain-ne1 : goal.returns-then-domain-ne1
returns-then-domain-ne1 c = sym (several-is _ c.requires ∙ rw (ne_eqb _ 1 c.if-domain-ne1.true) (ap not (sym c.is_separated.ensures)))

pub returns-else-domain-ne1 : goal.returns-else-domain-ne1
unfolding overlap_bit before_bit after_bit
returns-else-domain-ne1 c = let e : c.args.domain ≡ 1 = omega arith in rw e refl
