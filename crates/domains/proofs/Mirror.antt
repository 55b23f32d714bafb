-- Rows that say what the domains say: read, and kept so after one removal by two bits marked.
use Rattle.std.specs.Prelude.{◌&&◌, ◌∷◌, ◌≡◌, ◌+◌, ◌*◌, ◌^◌, ◌<◌}
use Rattle.prelude.specs.Names.{true, or-true, or-false, List, [], refl, sym, ◌∙◌, ℕ, zero, suc, ℕ_discrete}
use Rattle.prelude.specs.Names.{arith, bit_or, or_lt, get_or, length, set, length-set, pow-lt, get_or-set_same, get_or-set_other, eq-eqb, ne_eqb}
use mathlib.Core.Logic.Dec
use Rattle.model.specs.Domains.{Domains}
use Rattle.model.specs.Order.{Proper, WellFormed}
use Rattle.model.specs.Relations.{gone, without, converse}
use Rattle.model.specs.Facts.{overlaps, says}
use Rattle.model.proofs.Facts.{gone-converse, gone-self, converse-small}
use Rattle.model.proofs.Without.{Other, without_gone, without_other}
use Rattle.domains.specs.Bits.{bit_at, Gives}
use Rattle.domains.specs.Rows.{row_at, Mirror}
use Rattle.domains.proofs.BitLaws.{bit-or, bit_power, bit-first}

-- a row's number gives back axis and item, a bit's the relation and the item
pub parts_same : {x v y w : ℕ} → v < 10 → w < 10 → y * 10 + w ≡ x * 10 + v → (y ≡ x) × (w ≡ v)
parts_same hv hw e = (omega arith, omega arith)

-- Reading a row is the field `is`; for overlap, whose bits stand lowest, without the relation's number
pub row_first : {k : Domains} {rows : List ℕ} → Mirror k rows → {a u v : ℕ} → a < 3 → u < 10 → v < 10 → bit_at (row_at rows a u) v ≡ gone k 0 a u v
row_first {rows = rows} m {a} {u} {v} ha hu hv = sym (bit-first (row_at rows a u) v) ∙ m.is 0 a u v (omega arith) ha hu hv

-- the set of the items known to overlap, by the row of one
abbrev pub OverlapSet : ℕ → ℕ → Type 0
OverlapSet row s = Gives 10 s (λ v. bit_at row (10 + v) && bit_at row (20 + v))

pub row_overlaps : {k : Domains} {rows : List ℕ} → Mirror k rows → {a u v s : ℕ} → a < 3 → u < 10 → v < 10
    → OverlapSet (row_at rows a u) s → bit_at s v ≡ says overlaps k a u v
unfolding says
row_overlaps m {a} {u} {v} ha hu hv g = cc (g.is v hv, m.is 1 a u v (omega arith) ha hu hv, m.is 2 a u v (omega arith) ha hu hv)

-- the bit b of the row at i is set
abbrev pub mark : List ℕ → ℕ → ℕ → List ℕ
mark rows i b = set rows i (bit_or (get_or rows i 0) (2 ^ b))

mark_set : (rows : List ℕ) (i b : ℕ) → i < length rows → bit_at (get_or (mark rows i b) i 0) b ≡ true
mark_set rows i b h = rw (get_or-set_same rows i (bit_or (get_or rows i 0) (2 ^ b)) 0 h, bit-or, bit_power, eq-eqb b b refl, or-true)

mark_kept : (rows : List ℕ) (i b j c : ℕ) → i < length rows → (j ≡ i → c ≡ b → ⊥) → bit_at (get_or (mark rows i b) j 0) c ≡ bit_at (get_or rows j 0) c
mark_kept rows i b j c h d = elim (ℕ_discrete j i) [
  | yes e ↦ rw (e, get_or-set_same rows i (bit_or (get_or rows i 0) (2 ^ b)) 0 h, bit-or, bit_power, ne_eqb c b (d e), or-false)
  | no n ↦ rw (get_or-set_other rows i j (bit_or (get_or rows i 0) (2 ^ b)) 0 n) refl
]

set-small : (l : List ℕ) (i x n : ℕ) → x < n → ((j : ℕ) → get_or l j 0 < n) → (j : ℕ) → get_or (set l i x) j 0 < n
set-small [] i x n hx h j = h j
set-small (m ∷ l) zero x n hx h zero = hx
set-small (m ∷ l) zero x n hx h (suc j) = h (suc j)
set-small (m ∷ l) (suc i) x n hx h zero = h zero
set-small (m ∷ l) (suc i) x n hx h (suc j) = set-small l i x n hx (λ y. h (suc y)) j

mark_small : (rows : List ℕ) (i b : ℕ) → b < 30 → ((j : ℕ) → get_or rows j 0 < 2 ^ 30) → (j : ℕ) → get_or (mark rows i b) j 0 < 2 ^ 30
mark_small rows i b hb h = set-small rows i _ (2 ^ 30) (or_lt 30 (get_or rows i 0) (2 ^ b) (h i) (pow-lt hb)) h

-- whether one relation of two items on an axis is the other
pub same_relation : (y b s t x a u v : ℕ) → Dec ((y ≡ x) × ((b ≡ a) × ((s ≡ u) × (t ≡ v))))
same_relation y b s t x a u v = Dec.and (ℕ_discrete y x) (Dec.and (ℕ_discrete b a) (Dec.and (ℕ_discrete s u) (ℕ_discrete t v)))

-- both rows of a removed relation
abbrev pub marked : List ℕ → ℕ → ℕ → ℕ → ℕ → List ℕ
marked rows x a u v = mark (mark rows (a * 10 + u) (x * 10 + v)) (a * 10 + v) (converse x * 10 + u)

module _ {k : Domains} {rows : List ℕ} (f : WellFormed k) (m : Mirror k rows) (x a u v : ℕ) (hx : x < 3) (w : Proper 10 a u v) where
  abbrev after : Domains
  after = without k x a u v

  mirrored : (y b s t : ℕ) → y < 3 → b < 3 → s < 10 → t < 10 → bit_at (get_or (marked rows x a u v) (b * 10 + s) 0) (y * 10 + t) ≡ gone after y b s t
  mirrored y b s t hy hb hs ht =
      let near = mark rows (a * 10 + u) (x * 10 + v) in
      let hn : a * 10 + u < length rows = rw m.long (omega arith) in
      let hf : a * 10 + v < length near = rw (length-set, m.long) (omega arith) in
      elim (same_relation y b s t (converse x) a v u) [
        | yes (e0, (e1, (e2, e3))) ↦ rw (e0, e1, e2, e3) (mark_set near (a * 10 + v) (converse x * 10 + u) hf
            ∙ sym (gone-converse after x a u v hx ∙ without_gone k x f w))
        | no far ↦ mark_kept near (a * 10 + v) (converse x * 10 + u) (b * 10 + s) (y * 10 + t) hf (λ p q. far (omega arith))
            ∙ elim (same_relation y b s t x a u v) [
              | yes (e0, (e1, (e2, e3))) ↦ rw (e0, e1, e2, e3) (mark_set rows (a * 10 + u) (x * 10 + v) hn ∙ sym (without_gone k x f w))
              | no d ↦ mark_kept rows (a * 10 + u) (x * 10 + v) (b * 10 + s) (y * 10 + t) hn (λ p q. d (omega arith)) ∙ (m.is y b s t hy hb hs ht
                  ∙ sym (elim (ℕ_discrete t s) [
                    | yes e ↦ rw e (gone-self after y b s ∙ sym (gone-self k y b s))
                    | no n ↦ let o : Other x a u v y b s t = record { near = λ p q r z. d (p, (q, (r, z))); far = λ p q r z. far (p, (q, (r, z))) } in
                        without_other k x y hx hy f w (omega arith) o
                  ]))
            ]
      ]

  pub mirror_one : Mirror after (marked rows x a u v)
  mirror_one = record {
    long = simp length-set m.long;
    small =
        mark_small (mark rows (a * 10 + u) (x * 10 + v)) (a * 10 + v) (converse x * 10 + u) (omega (arith, converse-small x, w.item_u))
        (mark_small rows (a * 10 + u) (x * 10 + v) (omega (arith, w.item_v)) m.small);
    is = mirrored;
  }
