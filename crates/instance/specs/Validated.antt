-- What the test of an instance answers: the instance where it is valid, and else refusal 9.
use Rattle.std.specs.Prelude.{◌≡◌, false, Result, Ok, Err}
use Rattle.refusal.specs.declared.Refusal.{Refusal}
use Rattle.refusal.specs.declared.Refusal.TheVariants.{InvalidInstance}
use Rattle.instance.specs.declared.Instance.{Instance}
use Rattle.instance.specs.declared.valid.ValidInstance.{ValidInstance}
use Rattle.instance.specs.Valid.{valid}

abbrev pub Validated : Instance → Result ValidInstance Refusal → Type 0
Validated i (Ok v) = v.instance ≡ i
Validated i (Err e) = (valid i ≡ false) × (e ≡ InvalidInstance)
