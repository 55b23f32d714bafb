-- What is laid out, fixed and cut is the root; where one of them refuses, the root is a conflict.
use Rattle.prelude.specs.Names.{arith}
use Rattle.std.proofs.lemmas.Result.{err_from_is_err_and}
use Rattle.model.specs.Branching.{opening_domains}
use Rattle.instance.proofs.Arrays.{length_mapped}
use Rattle.instance.proofs.Sheets.{valid-says}
use Rattle.instance.specs.Meaning.{problem_of}
use Rattle.opening.proofs.Sound.{valid-sound, allowed-wide}
use Rattle.opening.proofs.Roots.{large_conflict, unfixed_conflict, uncut_conflict, rooted}
use Rattle.opening.proofs.root_of.Goals as goal

pub returns-in_err-totals : goal.returns-in_err-totals
returns-in_err-totals c =
    let p = err_from_is_err_and c.from_residual.result c.from_residual.ensures.1 in
    rw p.1 (large_conflict (valid-sound c.args.valid.instance c.args.valid.is_valid (search length_mapped)) c.in_err-totals.ensures)

pub shared_ref_as_front-fix_precedences : goal.shared_ref_as_front-fix_precedences
shared_ref_as_front-fix_precedences c = omega (arith, (valid-says c.args.valid.instance c.args.valid.is_valid).precedences-few)

pub fix_precedences-requires : goal.fix_precedences-requires
fix_precedences-requires c =
    let says = valid-says c.args.valid.instance c.args.valid.is_valid in
    allowed-wide _ says.items-few _ _ says.precedences-allowed

pub returns-in_err-fix_precedences : goal.returns-in_err-fix_precedences
unfolding problem_of opening_domains
returns-in_err-fix_precedences c =
    let p = err_from_is_err_and c.from_residual-in_err-fix_precedences.result c.from_residual-in_err-fix_precedences.ensures.1 in
    rw p.1 (unfixed_conflict (valid-sound c.args.valid.instance c.args.valid.is_valid (search length_mapped))
    (rw c.full-store.ensures.domains at c.in_err-fix_precedences.ensures))

pub returns-in_err-cut_pairs : goal.returns-in_err-cut_pairs
unfolding problem_of opening_domains
returns-in_err-cut_pairs c =
    let p = err_from_is_err_and c.from_residual-in_err-cut_pairs.result c.from_residual-in_err-cut_pairs.ensures.1 in
    let (laid, fits) = c.in_ok-totals.ensures in
    rw p.1 (uncut_conflict (valid-sound c.args.valid.instance c.args.valid.is_valid (search (length_mapped, c.well_formed))) laid fits
    (rw c.full-store.ensures.domains at c.in_ok-fix_precedences.ensures.0) c.in_err-cut_pairs.ensures)

pub returns : goal.returns
unfolding problem_of opening_domains
returns c =
    let (laid, fits) = c.in_ok-totals.ensures in
    let (is, grown) = rw (c.full-store.ensures.domains, c.full-store.ensures.queue) at c.in_ok-fix_precedences.ensures in
    let (cut, outside) = c.in_ok-cut_pairs.ensures in
    rooted (valid-sound c.args.valid.instance c.args.valid.is_valid (search (length_mapped, c.well_formed))) laid fits is grown cut outside
