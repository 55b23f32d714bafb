-- What answers the needs of the small functions: the needs' own set, and the tests of numbers.
use Rattle.prelude.specs.Names.{rules, lt-ltb, le-ltb, le-leb, lt-leb, eq-eqb, ne_eqb, not-true, not-false}

pub ruleset answers = (rules, lt-ltb, le-ltb, le-leb, lt-leb, eq-eqb, ne_eqb, not-true, not-false)
