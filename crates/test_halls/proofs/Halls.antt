-- The small halls of document 01, by computation.
use Rattle.std.specs.Prelude.{◌≡◌}
use Rattle.prelude.specs.Names.{true, refl}
use Rattle.model.specs.Below.{all_in}
use Rattle.test_halls.specs.Halls.{case_right, cases}

pub cases-right : all_in case_right cases ≡ true
unfolding case_right cases
cases-right = refl
