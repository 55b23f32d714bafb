-- Totals raised along links: what one link does, links one after another, all links from an item, and on from every item that grows.
use Rattle.std.specs.Prelude.{◌&&◌, ◌⊎◌, ◌≢◌, ◌≡◌, ◌+◌, ◌-◌, ◌*◌, ◌/◌, ◌%◌, ◌^◌, ◌≤◌, ◌<◌}
use Rattle.prelude.specs.Names.{Bool, true, false, List, inl, inr, ⊎_elim, ⊎_map, refl, sym, ◌∙◌, ℕ}
use Rattle.prelude.specs.Names.{le_refl, ℕ_discrete, arith, bit_or, or_step, or_zero_r, or_lt, get_or, set, length-set, pow-lt, get_or-set_same}
use Rattle.prelude.specs.Names.{get_or-set_other, eq-eqb, eqb-true}
use lib.Arith.{bin_ind}
use Rattle.model.specs.Toward.{Direction}
use Rattle.model.proofs.Toward.{by_direction}
use Rattle.model.proofs.Below.{or_left, or_right, or_case, clash, fails}
use Rattle.domains.specs.Bits.{bit_at, Gives, lowest_bit, Lowest, TakenOut}
use Rattle.domains.specs.Rows.{row_at}
use Rattle.chains.specs.Totals.{table_start, capacity_at, Tabled}
use Rattle.chains.specs.Links.{total_at, onward, LinkSet, Longer, Raised, none, more, Raises, Bursts, Linkable, Only, From, InRows, On, Plain}
use Rattle.domains.proofs.BitLaws.{bit-or, bit-zero, bit_power, bit_below, has-bit, taken-rest, gives_in}
use Rattle.chains.proofs.ChainMeasure.{room, measure_falls}
use Rattle.domains.proofs.Through.{Through, through_none, through_one, through_all}

-- where the table of a direction starts
pub table_start-is : (x : ℕ) → Direction x → table_start x ≡ 60 - 30 * x
table_start-is = by_direction (λ x. table_start x ≡ 60 - 30 * x) refl refl

-- totals, where one of the two tables starts, and an axis
pub record Ready (t : List ℕ) (o a : ℕ) : Type 0 where
  pub tabled : Tabled t
  pub aligned : o % 30 ≡ 0
  pub most : o ≤ 30
  pub axis : a < 3

pub ready_of : {t : List ℕ} {o a : ℕ} → Tabled t → Linkable o a → Ready t o a
ready_of tabled l = record { tabled = tabled; aligned = l.aligned; most = l.most; axis = l.axis }

able : {t : List ℕ} {o a : ℕ} → Ready t o a → Linkable o a
able l = record { aligned = l.aligned; most = l.most; axis = l.axis }

pub total-within : {t : List ℕ} {o a : ℕ} → Ready t o a → (u : ℕ) → u < 10 → total_at t o a u ≤ capacity_at t a
total-within {t} {o} {a} l u h = go (ℕ_discrete o 0)
  where
    go : Dec (o ≡ 0) → total_at t o a u ≤ capacity_at t a
    go (yes z) = rw z (l.tabled.within 2 a u (omega arith) l.axis h)
    go (no z) = let e : o ≡ 30 = omega (arith, l.aligned, l.most) in rw e (l.tabled.within 1 a u (omega arith) l.axis h)

-- the total of z is stored
module _ {s : List ℕ} {o a : ℕ} (l : Ready s o a) {z : ℕ} (hz : z < 10) (y : ℕ) where
  abbrev after : List ℕ
  after = set s (o + a * 10 + z) y

  pub stored_same : get_or after (o + a * 10 + z) 0 ≡ y
  stored_same = get_or-set_same s (o + a * 10 + z) y 0 (omega (arith, l.tabled.long, l.axis, l.most))

  stored : (i : ℕ) → ((i ≡ o + a * 10 + z) × (get_or after i 0 ≡ y)) ⊎ ((i ≢ o + a * 10 + z) × (get_or after i 0 ≡ get_or s i 0))
  stored i = go (ℕ_discrete i (o + a * 10 + z))
    where
      go : Dec (i ≡ o + a * 10 + z) → ((i ≡ o + a * 10 + z) × (get_or after i 0 ≡ y)) ⊎ ((i ≢ o + a * 10 + z) × (get_or after i 0 ≡ get_or s i 0))
      go (yes e) = inl (e, rw e stored_same)
      go (no e) = inr (e, get_or-set_other s (o + a * 10 + z) i y 0 e)

  stored_far : (i : ℕ) → 60 ≤ i → get_or after i 0 ≡ get_or s i 0
  stored_far i h = get_or-set_other s (o + a * 10 + z) i y 0 (λ e. omega (arith, l.axis, l.most))

  pub stored_ready : y ≤ capacity_at s a → Ready after o a
  stored_ready fits = record { tabled = tabled; aligned = l.aligned; most = l.most; axis = l.axis }
    where
      step : ℕ → ℕ → ℕ → ℕ → ℕ
      step x b v w = 96 + (table_start x + b * 10 + v) * 10 + w

      tabled : Tabled after
      tabled = record {
        long = length-set s (o + a * 10 + z) y ∙ l.tabled.long;
        small = λ i. ⊎_elim (λ (e, f). omega (arith, l.tabled.small (90 + a))) (λ (e, f). omega (arith, l.tabled.small i)) (stored i);
        within = λ x b u d hb hu. ⊎_elim
            (λ (e, f). let same : b ≡ a = omega (arith, table_start-is x d, l.aligned, l.axis) in
            let capacity : get_or s (90 + b) 0 ≡ get_or s (90 + a) 0 = rw same refl in
            omega (arith, stored_far (90 + b) (omega arith)))
            (λ (e, f). omega (arith, stored_far (90 + b) (omega arith), l.tabled.within x b u d hb hu)) (stored (table_start x + b * 10 + u));
        least = λ x b v w d hb hv hw.
            omega (arith, stored_far (step x b v w) (omega arith), stored_far (60 + b * 10 + w) (omega arith), l.tabled.least x b v w d hb hv hw);
        plain = λ x b v w d hb hv hw e. stored_far (step x b v w) (omega arith)
            ∙ l.tabled.plain x b v w d hb hv hw (sym (stored_far (93 + b) (omega arith)) ∙ e) ∙ sym (stored_far (60 + b * 10 + w) (omega arith));
      }

-- What raising totals comes to: numbers only grow, those of the set and no others, each by a link
pub record Grows (L : LinkSet) (o a : ℕ) (t s : List ℕ) (g : ℕ) : Type 0 where
  pub ready : Ready s o a
  pub small : g < 2 ^ 10
  pub up : (i : ℕ) → get_or t i 0 ≤ get_or s i 0
  pub kept : (i : ℕ) → (get_or s i 0 ≡ get_or t i 0) ⊎ ((z : ℕ) × (z < 10) × (i ≡ o + a * 10 + z) × (bit_at g z ≡ true))
  pub rises : (z : ℕ) → bit_at g z ≡ true → (total_at t o a z < total_at s o a z) × ((v : ℕ) × L v z)

-- in a union
in_or : (g h w : ℕ) → bit_at (bit_or g h) w ≡ true → (bit_at g w ≡ true) ⊎ (bit_at h w ≡ true)
in_or g h w e = or_case (bit_at g w) (bit_at h w) (sym (bit-or g h w) ∙ e)

or_in : (g h w : ℕ) → (bit_at g w ≡ true) ⊎ (bit_at h w ≡ true) → bit_at (bit_or g h) w ≡ true
or_in g h w e = bit-or g h w ∙ ⊎_elim (or_left (bit_at h w)) (or_right (bit_at g w)) e

pub grows : {L : LinkSet} {o a : ℕ} {t s : List ℕ} {g : ℕ} → Ready t o a → Raised L o a t s g → Grows L o a t s g
grows l none =
    record { ready = l; small = omega arith; up = λ i. le_refl _; kept = λ i. inl refl; rises = λ z e. absurd (clash e (bit-zero z)) }
grows {L} {o} {a} {t} l (more {s} {g} v z r link w) = one_more (grows l r)
  where
    total : ℕ
    total = onward s o a v z

    up : Ready s o a → (i : ℕ) → get_or s i 0 ≤ get_or (set s (o + a * 10 + z) total) i 0
    up lk i = ⊎_elim (λ (e, f). let q : get_or s i 0 ≡ total_at s o a z = rw e refl in omega (arith, w.less)) (λ (e, f). omega arith)
        (stored lk w.item_z total i)

    -- one link more
    one_more : Grows L o a t s g → Grows L o a t (set s (o + a * 10 + z) total) (bit_or g (2 ^ z))
    one_more h = record {
      ready = stored_ready h.ready w.item_z total w.fits;
      small = or_lt 10 g (2 ^ z) h.small (pow-lt w.item_z);
      up = λ i. omega (arith, h.up i, up h.ready i);
      kept = λ i. ⊎_elim (λ (e, f). inr (z, w.item_z, e, or_in g (2 ^ z) z (inr (bit_power z z ∙ eq-eqb z z refl))))
          (λ (e, f). ⊎_map (λ q. f ∙ q) (λ (u, hu, q, b). (u, hu, q, or_in g (2 ^ z) u (inl b))) (h.kept i))
          (stored h.ready w.item_z total i);
      rises = λ u e. ⊎_elim (λ q. (omega (arith, (h.rises u q).0, up h.ready (o + a * 10 + u)), (h.rises u q).1))
          (λ q. rw (eqb-true u z (sym (bit_power z u) ∙ q))
          (omega (arith, w.less, h.up (o + a * 10 + z), stored_same h.ready w.item_z total), (v, link))) (in_or g (2 ^ z) u e);
    }

-- what follows for single numbers
module _ {L : LinkSet} {o a : ℕ} {t s : List ℕ} {g : ℕ} (h : Grows L o a t s g) where
  pub grows_far : (i : ℕ) → 60 ≤ i → get_or s i 0 ≡ get_or t i 0
  grows_far i far = ⊎_elim (λ e. e) (λ (z, hz, e, b). absurd (omega (arith, h.ready.axis, h.ready.most))) (h.kept i)

  -- a link that was followed still is, where its first item has not grown
  pub grows_on : (v z : ℕ) → bit_at g v ≡ false → onward t o a v z ≤ total_at t o a z → onward s o a v z ≤ total_at s o a z
  grows_on v z f e =
      let same : total_at s o a v ≡ total_at t o a v =
      ⊎_elim (λ e. e) (λ (z, hz, e, b). let q : z ≡ v = omega arith in absurd (clash (rw q at b) f)) (h.kept (o + a * 10 + v)) in
      omega (arith, grows_far (96 + (o + a * 10 + v) * 10 + z) (omega arith), h.up (o + a * 10 + z))

or_assoc : (a b c : ℕ) → bit_or (bit_or a b) c ≡ bit_or a (bit_or b c)
or_assoc = bin_ind (λ n. (b c : ℕ) → bit_or (bit_or n b) c ≡ bit_or n (bit_or b c)) (λ b c. refl) (λ n ih b c.
    let f : bit_or n b / 2 ≡ bit_or (n / 2) (b / 2) = omega (arith, or_step n b) in
    let g : bit_or b c / 2 ≡ bit_or (b / 2) (c / 2) = omega (arith, or_step b c) in
    let e : bit_or (bit_or n b / 2) (c / 2) ≡ bit_or (n / 2) (bit_or b c / 2) = rw (f, g) (ih (b / 2) (c / 2)) in
    omega (arith, or_step (bit_or n b) c, or_step n (bit_or b c), or_step n b, or_step b c))

-- One after another, and along links of a greater set
pub raised-then : {L : LinkSet} {o a : ℕ} {t s r : List ℕ} {g h : ℕ} → Raised L o a t s g → Raised L o a s r h → Raised L o a t r (bit_or g h)
raised-then {g = g} p none = rw or_zero_r p
raised-then {g = g} p (more {g = m} v z q link w) = rw (← or_assoc g m (2 ^ z)) (more v z (raised-then p q) link w)

pub raised_as : {L M : LinkSet} {o a : ℕ} {t s : List ℕ} {g : ℕ} → ((v z : ℕ) → L v z → M v z) → Raised L o a t s g → Raised M o a t s g
raised_as f none = none
raised_as f (more v z r link w) = more v z (raised_as f r) (f v z link) w

pub bursts_after : {L M : LinkSet} {o a : ℕ} {t s r : List ℕ} {g : ℕ} → Raised L o a t s g → ((v z : ℕ) → M v z → L v z)
    → Bursts M o a s r → Bursts L o a t r
bursts_after {g = g} p f b = record {
  grown = bit_or g b.grown;
  raised = raised-then p (raised_as f b.raised);
  from = b.from;
  to = b.to;
  item_from = b.item_from;
  item_to = b.item_to;
  link = f b.from b.to b.link;
  over = b.over;
}

-- One link
pub link-kept : {o a v z : ℕ} {t : List ℕ} → onward t o a v z ≤ total_at t o a z → Raises (Only v z) (Only v z) o a t t 0
link-kept h = record { raised = none; on = λ w y (e, f). rw (e, f) h }

pub link_longer : {o a v z : ℕ} {t : List ℕ} → Ready t o a → v ≢ z → Longer t o a v z
    → Raises (Only v z) (Only v z) o a t (set t (o + a * 10 + z) (onward t o a v z)) (2 ^ z)
link_longer {o} {a} {v} {z} {t} l ne w =
    let total = onward t o a v z in
    let apart = get_or-set_other t (o + a * 10 + z) (o + a * 10 + v) total 0 (λ e. ne (omega arith)) in
    let step = stored_far l w.item_z total (96 + (o + a * 10 + v) * 10 + z) (omega arith) in
    record { raised = more v z none (refl, refl) w; on = λ m y (e, f). rw (e, f) (omega (arith, stored_same l w.item_z total, step, apart)) }

pub link_bursts : {o a v z : ℕ} {t : List ℕ} → v < 10 → z < 10 → capacity_at t a < onward t o a v z → Bursts (Only v z) o a t t
link_bursts {v = v} {z = z} hv hz h =
    record { grown = 0; raised = none; from = v; to = z; item_from = hv; item_to = hz; link = (refl, refl); over = h }

-- All links from v to the items of a set; those of `left` are still to be followed
pub record Partway (v items o a : ℕ) (t s : List ℕ) (left grown : ℕ) : Type 0 where
  pub ready : Ready s o a
  pub item : v < 10
  pub self : bit_at items v ≡ false
  pub raised : Raised (From v items) o a t s grown
  pub through : Through 10 items left (λ z. onward s o a v z ≤ total_at s o a z)

module _ {v items o a : ℕ} {t : List ℕ} where
  pub partway_start : Tabled t → Linkable o a × (v < 10) × (items < 2 ^ 10) × (bit_at items v ≡ false) → Partway v items o a t t items 0
  partway_start tabled (l, hv, small, self) = record { ready = ready_of tabled l; item = hv; self = self; raised = none; through = through_none small }

  pub partway_end : {s : List ℕ} {left grown : ℕ} → Partway v items o a t s left grown → left ≡ 0
      → Raises (From v items) (From v items) o a t s grown
  partway_end h z = record { raised = h.raised; on = λ w y (e, b). rw e (through_all h.through z y b) }

  module _ {s : List ℕ} {left grown : ℕ} (h : Partway v items o a t s left grown)
      {z : ℕ} (low : Lowest left z) where
    among : bit_at items z ≡ true
    among = h.through.within z low.2

    apart : v ≢ z
    apart e = clash among (rw (← e) h.self)

    pub partway_given : Linkable o a × (v < 10) × (z < 10) × (v ≢ z)
    partway_given = (able h.ready, h.item, bit_below 10 left z h.through.small low.2, apart)

    only_from : (w y : ℕ) → Only v z w y → From v items w y
    only_from w y (e, f) = (e, rw f among)

    pub partway_bursts : {r : List ℕ} → Bursts (Only v z) o a s r → Bursts (From v items) o a t r
    partway_bursts = bursts_after h.raised only_from

    pub partway_next : {rest : ℕ} {r : List ℕ} {g : ℕ} → TakenOut left z rest → Raises (Only v z) (Only v z) o a s r g
        → Partway v items o a t r rest (bit_or grown g)
    partway_next {rest} {r} {g} w q = let gr = grows h.ready q.raised in record {
      ready = gr.ready;
      item = h.item;
      self = h.self;
      raised = raised-then h.raised (raised_as only_from q.raised);
      through = through_one h.through w
          (λ y e f. grows_on gr v y (fails {c = false} (λ e. absurd (apart (gr.rises v e).1.1.1)) refl) f) (q.on v z (refl, refl));
    }

-- The link from u to v was followed, to t and the items of `first`, and so are those on from every item that grows, but from those of `todo`
pub record Progress (rows : List ℕ) (x o a u v : ℕ) (t : List ℕ) (first : ℕ) (s : List ℕ) (todo grown : ℕ) : Type 0 where
  pub plain : Plain rows
  pub ready : Ready s o a
  pub raised : (r : List ℕ) → Raises (Only u v) (Only u v) o a r t first → Raised (InRows rows x a) o a r s grown
  pub small : todo < 2 ^ 10
  pub on : (w z : ℕ) → On (InRows rows x a) u v grown w z → (onward s o a w z ≤ total_at s o a z) ⊎ (bit_at todo w ≡ true)

pub first_bursts : {L : LinkSet} {o a u v : ℕ} → L u v → {t s : List ℕ} → Bursts (Only u v) o a t s → Bursts L o a t s
first_bursts link = bursts_after none (λ w z (e, f). rw (e, f) link)

module _ {rows : List ℕ} {x o a u v : ℕ} {r t : List ℕ} {first : ℕ} (b : Raises (Only u v) (Only u v) o a r t first) where
  pub progress_start : Tabled r → Plain rows × Linkable o a × Direction x × InRows rows x a u v → Progress rows x o a u v t first t first first
  progress_start tabled (p, l, d, link) = let gr = grows (ready_of tabled l) b.raised in record {
    plain = p;
    ready = gr.ready;
    raised = λ q c. raised_as (λ w z (e, f). rw (e, f) link) c.raised;
    small = gr.small;
    on = λ w z (m, c). ⊎_elim (λ o. inl (b.on w z o)) inr c;
  }

  pub progress_end : {s : List ℕ} {todo grown : ℕ} → Progress rows x o a u v t first s todo grown → todo ≡ 0
      → Raises (InRows rows x a) (On (InRows rows x a) u v grown) o a r s grown
  progress_end h e = record {
    raised = h.raised r b;
    on = λ w z m. ⊎_elim (λ q. q) (λ q. absurd (clash (rw e at q) (bit-zero w))) (h.on w z m);
  }

-- w, the lowest of `todo`, is taken out, the links that its row has are followed, and the items that grow are put in
module _ {rows : List ℕ} {x o a u v : ℕ} {t : List ℕ} {first : ℕ} {s : List ℕ} {todo grown : ℕ} (h : Progress rows x o a u v t first s todo grown)
    {w : ℕ} (low : Lowest todo w) where
  pub progress_item : w < 10
  progress_item = bit_below 10 todo w h.small low.2

  module _ {items : ℕ} (linked : Gives 10 items (λ z. bit_at (row_at rows a w) z && bit_at (row_at rows a w) (x * 10 + z))) where
    pub progress_given : Linkable o a × (w < 10) × (items < 2 ^ 10) × (bit_at items w ≡ false)
    progress_given =
        (able h.ready, progress_item, linked.small, linked.is w progress_item ∙ rw (h.plain.self a w h.ready.axis progress_item) refl)

    from_in_rows : (y z : ℕ) → From w items y z → InRows rows x a y z
    from_in_rows y z (e, b) = let (hz, c) = gives_in linked z b in rw e (record { item_v = progress_item; item_z = hz; bits = c })

    pub progress_bursts : {q : List ℕ} → Raises (Only u v) (Only u v) o a q t first → {r : List ℕ} → Bursts (From w items) o a s r
        → Bursts (InRows rows x a) o a q r
    progress_bursts {q} b = bursts_after (h.raised q b) from_in_rows

    module _ {rest : ℕ} (out : TakenOut todo (lowest_bit todo) rest) {r : List ℕ} {g : ℕ} (q : Raises (From w items) (From w items) o a s r g) where
      gr : Grows (From w items) o a s r g
      gr = grows h.ready q.raised

      next_small : bit_or rest g < 2 ^ 10
      next_small = or_lt 10 rest g (omega (arith, h.small, out.less)) gr.small

      pub progress_next : Progress rows x o a u v t first r (bit_or rest g) (bit_or grown g)
      progress_next = record {
        plain = h.plain;
        ready = gr.ready;
        raised = λ m b. raised-then (h.raised m b) (raised_as from_in_rows q.raised);
        small = next_small;
        on = λ y z (m, c). go y z m c (ℕ_discrete y w) (bit_at g y) refl;
      }
        where
          go : (y z : ℕ) → InRows rows x a y z → Only u v y z ⊎ (bit_at (bit_or grown g) y ≡ true) → Dec (y ≡ w) → (b : Bool) → bit_at g y ≡ b
              → (onward r o a y z ≤ total_at r o a z) ⊎ (bit_at (bit_or rest g) y ≡ true)
          go y z m c (yes e) b f = inl (q.on y z (e, linked.is z m.item_z ∙ (rw e at m).bits))
          go y z m c (no e) true f = inr (or_in rest g y (inr f))
          go y z m c (no e) false f = ⊎_map (grows_on gr y z f) (λ i. or_in rest g y (inl (taken-rest out y (rw low.0 at e) ∙ i)))
              (h.on y z (m, ⊎_map (λ o. o) (λ i. ⊎_elim (λ b. b) (λ b. absurd (clash b f)) (in_or grown g y i)) c))

      pub progress_falls : room 10 o a r * 1024 + bit_or rest g < room 10 o a s * 1024 + todo
      progress_falls =
          measure_falls o a s r (grows_far gr (90 + a) (omega arith)) gr.up 10 todo (bit_or rest g) next_small (go (ℕ_discrete g 0))
        where
          go : Dec (g ≡ 0) → ((y : ℕ) × (y < 10) × (total_at s o a y < total_at r o a y) × (total_at r o a y ≤ capacity_at r a)) ⊎ (bit_or rest g < todo)
          go (yes e) = inr (rw (e, or_zero_r rest) out.less)
          go (no e) =
              let (y, hy, b) = has-bit 10 g (omega arith) gr.small e in
              inl (y, hy, (gr.rises y b).0, total-within gr.ready y hy)
