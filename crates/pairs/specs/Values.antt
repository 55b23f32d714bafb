-- The model's pair of a pair in code.
use Rattle.model.specs.Pairs as P
use Rattle.pairs.specs.declared.Pair.{Pair}

abbrev pub pair_value : Pair → P.Pair
pair_value c = record { u = c.u; v = c.v }
