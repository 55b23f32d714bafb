-- An instance laid out: all of it, or an item that is too large.
use Rattle.std.specs.Prelude.{◌<◌}
use Rattle.prelude.specs.Names.{true, false, List, [], ℕ, dec_lt, arith}
use Rattle.model.specs.Problem.{Problem}
use Rattle.model.specs.Wide.{wide}
use Rattle.model.proofs.Wide.{wide-size, wide-past}
use Rattle.instance.specs.declared.Instance.{Instance}
use Rattle.instance.specs.Meaning.{problem_of}
use Rattle.instance.specs.Valid.{precedences_of}
use Rattle.opening.specs.Layout.{Measures, LaidOut, LargeIf, LargeItem, Stepped, SteppedOut, with_precedences, LagsLaid}
use Rattle.opening.proofs.Lags.{stepped_out}

-- an item above the container's measure is one of the problem's
pub large_item : (p : Problem) {t : List ℕ} → LaidOut (wide p) t → LargeIf t true → LargeItem p
unfolding wide
large_item p l (a, u, ha, hu, h) =
    let own : u < p.items = elim (dec_lt u p.items) [ yes q ↦ q | no q ↦ absurd (omega (arith, l.size a u ha hu, wide-past p a u (omega arith))) ] in
    (a, u, ha, own, omega (arith, l.size a u ha hu, l.capacity a ha, wide-size p a u own))

-- all is laid out, and each alone fits
pub all-fits : (i : Instance) {t s r : List ℕ} → LaidOut (wide (problem_of i)) t → Measures t → LargeIf t false → Stepped 60 t s
    → LagsLaid (precedences_of i) s r → SteppedOut (wide (problem_of i)) r × LargeIf r false
unfolding problem_of wide
all-fits i l m fits h lags =
    let p = wide (problem_of i) in
    let plain : LaidOut (with_precedences p []) _ =
    record { long = l.long; capacity = l.capacity; size = l.size; alone = l.alone } in
    let out : SteppedOut p _ = lags p (stepped_out h p m plain) in
    (out, λ a u ha hu. omega (arith, fits a u ha hu, l.size a u ha hu, out.laid.size a u ha hu, l.capacity a ha, out.laid.capacity a ha))
