-- To compute with a problem and its search: `unfolding search_computing` opens all that a feasible packing, the rules, propagation and the search go
-- through.
use Rattle.model.specs.Problem.{spacing, ends_ahead, ends_before, gap, inside_test, apart_on_some_axis, apart_test, ordered_test, feasible}
use Rattle.model.specs.Pairs.{pair_number, pair_of}
use Rattle.model.specs.Domains.{domain, overlap_bit, before_bit, after_bit, index, index_of, may_overlap, may_before}
use Rattle.model.specs.Domains.{remove_overlap, remove_before, fixed_before, fixed_overlap, fix_before, fix_overlap}
use Rattle.model.specs.Rules.{joined, ending, starting, greatest_ending, greatest_starting, rule1, rule2, rule3, rule4, rule5, asks_overlap}
use Rattle.model.specs.Rules.{asks_before}
use Rattle.model.specs.Propagate.{slot_at, kept, pass, passes, propagate}
use Rattle.model.specs.Branching.{opening_domains, empty, inconsistent, separated, packed, undecided, choice_number, choice_axis, choice}
use Rattle.model.specs.Branching.{branched, path_domains, starts, plan}
use Rattle.model.specs.Turning.{marks_of, last_choice}
use Rattle.model.specs.Run.{look, tree_count, step_count}

unfoldable pub search_computing : Unit {0}
unfolding spacing ends_ahead ends_before gap inside_test apart_on_some_axis apart_test ordered_test feasible
    pair_number pair_of domain overlap_bit before_bit after_bit index index_of may_overlap may_before
    remove_overlap remove_before fixed_before fixed_overlap fix_before fix_overlap
    joined ending starting greatest_ending greatest_starting rule1 rule2 rule3 rule4 rule5 asks_overlap asks_before
    slot_at kept pass passes propagate
    opening_domains empty inconsistent separated packed undecided choice_number choice_axis choice branched path_domains starts plan
    marks_of last_choice look tree_count step_count
search_computing = tt
