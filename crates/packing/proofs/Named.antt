-- Every precedence of a valid instance names two of its items.
use Rattle.std.specs.Prelude.{◌≡◌, ◌<◌}
use Rattle.prelude.specs.Names.{true, ◌∙◌, List, ℕ, take, dec_lt, arith, length, get_or, length-take, get_or-eq_default, get_or-take}
use Rattle.std.proofs.lemmas.List.{get_or_default}
use Rattle.parts.specs.declared.Precedence.{Precedence}
use Rattle.std.specs.Prelude.{None}
use Rattle.parts.specs.Sizes.{no_precedence}
use Rattle.instance.specs.declared.Instance.{Instance}
use Rattle.instance.specs.Valid.{valid, precedences_of}
use Rattle.instance.proofs.Sheets.{valid-says, allowed_at}
use Rattle.packing.specs.Parts.{Named}

-- both items of an order are below n
abbrev Below : ℕ → Precedence → Type 0
Below n o = (o.predecessor < n) × (o.successor < n)

-- past the end of the array is the blank entry, which names item 0
pub named : (i : Instance) → valid i ≡ true → Named 10 i.precedence_count i.precedences
named i v = record { predecessor = λ k l. (both k l (dec_lt k _)).0; successor = λ k l. (both k l (dec_lt k _)).1 }
  where
    both : (k : ℕ) → k < i.precedence_count → Dec (k < length i.precedences) → Below 10 (get_or i.precedences k no_precedence)
    both k l (yes h) =
        let says = valid-says i v in
        let room : k < length (precedences_of i) = rw length-take (omega arith) in
        let s = rw (get_or-take _ i.precedences k no_precedence l) at (allowed_at _ None (precedences_of i) says.precedences-allowed k room) in
        omega (arith, s, says.items-few)
    both k l (no h) = rw (get_or-eq_default i.precedences no_precedence {n = k} (omega arith)) (omega arith)

-- and so does each that is read from the first m
pub named-taken : (n m : ℕ) (os : List Precedence) → Named n m os → (o : Precedence) (k : ℕ) → k < length (take m os) → o ≡ get_or (take m os) k o → Below n o
named-taken n m os names o k l e =
    let h : k < m = omega (arith, length-take m os) in
    let room : k < length os = omega (arith, length-take m os) in
    let same : o ≡ get_or os k no_precedence = e ∙ (get_or-take m os k o h ∙ get_or_default os k o no_precedence room) in
    rw same (names.predecessor k h, names.successor k h)
