-- Laws of the sweep: the corners of a block are loaded, those past it are met, and one block more.
use Prim.Native.Nat.{ℕ, ◌+◌, ◌-◌, ◌≤◌, ◌<◌, min}
use mathlib.Core.Path.{◌≡◌, refl, ap, sym, subst, ◌∙◌}
use mathlib.Core.List.{List}
use mathlib.Core.Bool.{Bool, true, false}
use native.Mathlib.Omega.{arith}
use native.Mathlib.Decide.{dec_lt}
use native.Mathlib.Decide.{ℕ_discrete}
use lib.ListN.{length, get_or, set, replicate, length-set, length-replicate}
use lib.Seq.{get_or-set_same, get_or-set_other}
use Rattle.rules.specs.Lists.{first}
use Rattle.rules.proofs.Lists.{get_d_same, first_le}
use Rattle.corners.specs.Steps.{Spot, Turn, begun, step_of, step_at, position_after}
use Rattle.corners.proofs.Steps.{position_step, position_join}
use Rattle.sides.specs.Sides.{key_of, key_at, third_use, Grown, Swept, Enters, Meets, Kept, Stops, GoesOn}
use Rattle.sides.proofs.Ways.{sown_none}
use Rattle.sides.proofs.Thirds.{stops_first, first_stops, stops_none, stops_early, stops_next}

-- an empty table
swept_none : (tree keys twins : List ℕ) (kf : ℕ → ℕ) → tree ≡ replicate 12288 0 → length keys ≡ 2048 → length twins ≡ 2048 → Swept tree keys twins kf 0 0
swept_none tree keys twins kf e hk ht = record {
  met = omega arith;
  tree12288 = rw e (length-replicate {A = ℕ} 12288 0);
  keys2048 = hk;
  twins2048 = ht;
  grown = record { few = omega arith; below = λ at. omega (arith, zeros at); newer = λ at k q. absurd (omega (arith, zeros at)) };
  sown = sown_none tree keys zeros;
  keyed = λ y h. absurd (omega arith);
  leads = λ y h. absurd (omega arith);
  twinned = λ y h. absurd (omega arith);
  clear = λ x a b h. absurd (omega arith);
}
  where
    zeros : (at : ℕ) → get_or tree at 0 ≡ 0
    zeros at = rw e (get_d_same {A = ℕ} 12288 at 0)

-- one value more of a list that holds those of the first i
held_next : (l : List ℕ) (f : ℕ → ℕ) (i v : ℕ) → i < length l → ((j : ℕ) → j < i → get_or l j 0 ≡ f j) → v ≡ f i → (j : ℕ) → j < i + 1
    → get_or (set l i v) j 0 ≡ f j
held_next l f i v h q e j o = go (ℕ_discrete j i)
  where
    go : Dec (j ≡ i) → get_or (set l i v) j 0 ≡ f j
    go (yes z) = rw (z, get_or-set_same l i v 0 h) e
    go (no z) = get_or-set_other l i j v 0 z ∙ q j (omega arith)

-- the corner at a position
module _ (t : List ℕ) (a : Spot) (i : ℕ) {c : Spot} (e : c ≡ position_after t i a) (s : Turn) (es : s ≡ step_of t c) where
  step_is : s ≡ step_at t a i
  unfolding step_at
  step_is = es ∙ ap (step_of t) e

  next_is : s.next ≡ position_after t (i + 1) a
  next_is = ap (λ (x : Turn). x.next) step_is ∙ sym (position_step t i a)

  key_is : (key : ℕ) → key ≡ key_of s.own s.far → key_at t a i ≡ key
  unfolding key_at
  key_is key ek = sym (rw (← step_is) ek)

-- the keys after some corners
keys_after : (t : List ℕ) (a : Spot) (d x : ℕ) → key_at t a (d + x) ≡ key_at t (position_after t d a) x
unfolding key_at step_at
keys_after t a d x = rw (position_join t d x a)

-- i of the corners from a on are in the table, none of them a third use, and c is the next
pub record Loading (t : List ℕ) (a : Spot) (count : ℕ) (tree keys twins owns lefts : List ℕ) (c : Spot) (i : ℕ) : Type 0 where
  pub up_to : i ≤ count
  pub few : count ≤ 2048
  pub position : c ≡ position_after t i a
  pub owns2048 : length owns ≡ 2048
  pub lefts2048 : length lefts ≡ 2048
  pub own : (j : ℕ) → j < i → get_or owns j 0 ≡ (step_at t a j).own
  pub left : (j : ℕ) → j < i → get_or lefts j 0 ≡ (step_at t a j).left
  pub swept : Swept tree keys twins (key_at t a) i i

pub loading_start : (t : List ℕ) (a : Spot) (count : ℕ) (tree keys twins owns lefts : List ℕ) → count ≤ 2048 → tree ≡ replicate 12288 0
    → length keys ≡ 2048 → length twins ≡ 2048 → length owns ≡ 2048 → length lefts ≡ 2048 → Loading t a count tree keys twins owns lefts a 0
unfolding position_after
loading_start t a count tree keys twins owns lefts h e hk ht ho hl = record {
  up_to = omega arith;
  few = h;
  position = refl;
  owns2048 = ho;
  lefts2048 = hl;
  own = λ j l. absurd (omega arith);
  left = λ j l. absurd (omega arith);
  swept = swept_none tree keys twins (key_at t a) e hk ht;
}

module _ {t : List ℕ} {a : Spot} {count : ℕ} {tree keys twins owns lefts : List ℕ} {c : Spot} {i : ℕ}
    (l : Loading t a count tree keys twins owns lefts c i) where
  pub loading_end : count ≤ i → (count ≡ first (third_use (key_at t a)) count) × (count ≡ count → (c ≡ position_after t count a)
      × Kept t a twins owns lefts count × Swept tree keys twins (key_at t a) count count)
  loading_end h =
      let z : i ≡ count = omega (arith, l.up_to) in (
        sym z ∙ first_stops (key_at t a) i count i (record { most = l.up_to; clear = l.swept.clear; third = λ o. absurd (omega arith) }) (omega arith),
        λ e. (
          rw (← z) l.position,
          rw (← z) (record { own = l.own; left = l.left; twin = l.swept.twinned }),
          rw (← z) l.swept,
        ),
      )

  module _ (h : i < count) (s : Turn) (es : s ≡ step_of t c) (key : ℕ) (ek : key ≡ key_of s.own s.far) (tree' keys' twins' : List ℕ) (r : Bool)
      (e : Enters tree keys twins tree' keys' twins' i key r) where
    pub loading_next : r ≡ false → Loading t a count tree' keys' twins' (set owns i s.own) (set lefts i s.left) s.next (i + 1)
    loading_next q = record {
      up_to = omega arith;
      few = l.few;
      position = next_is t a i l.position s es;
      owns2048 = length-set owns i s.own ∙ l.owns2048;
      lefts2048 = length-set lefts i s.left ∙ l.lefts2048;
      own =
          held_next owns (λ j. (step_at t a j).own) i s.own (omega (arith, l.few, l.owns2048)) l.own
          (ap (λ (x : Turn). x.own) (step_is t a i l.position s es));
      left =
          held_next lefts (λ j. (step_at t a j).left) i s.left (omega (arith, l.few, l.lefts2048)) l.left
          (ap (λ (x : Turn). x.left) (step_is t a i l.position s es));
      swept = e.passes (key_at t a) (key_is t a i l.position s es key ek) l.swept q;
    }

    -- a third use
    pub loading_hit : (X : Type 0) → r ≡ true → (i ≡ first (third_use (key_at t a)) count) × (i ≡ count → X)
    loading_hit X q =
        let w = e.thirds (key_at t a) (key_is t a i l.position s es key ek) l.swept q in (
          first_stops (key_at t a) i count i (record { most = l.up_to; clear = l.swept.clear; third = λ o. w }) (omega arith),
          λ z. absurd (omega arith),
        )

-- i of the corners from a on are met, past those that a table is swept for, and c is the next
pub record Meeting (t : List ℕ) (a : Spot) (count : ℕ) (tree keys twins₀ twins : List ℕ) (c : Spot) (i : ℕ) : Type 0 where
  pub up_to : i ≤ count
  pub position : c ≡ position_after t i a
  pub grown : Grown tree 2048
  pub on : (kf : ℕ → ℕ) (m j : ℕ) → ((x : ℕ) → kf (j + x) ≡ key_at t a x) → Swept tree keys twins₀ kf m j → 2048 ≤ j → Swept tree keys twins kf m (j + i)

pub meeting_start : (t : List ℕ) (a : Spot) (count : ℕ) (tree keys twins : List ℕ) → Grown tree 2048
    → Meeting t a count tree keys twins twins a 0
unfolding position_after
meeting_start t a count tree keys twins g = record {
  up_to = omega arith;
  position = refl;
  grown = g;
  on = λ kf m j k w h. let z : j + 0 ≡ j = omega arith in rw z w;
}

module _ {t : List ℕ} {a : Spot} {count : ℕ} {tree keys twins₀ twins : List ℕ} {c : Spot} {i : ℕ}
    (l : Meeting t a count tree keys twins₀ twins c i) where
  pub meeting_end : count ≤ i → GoesOn t a tree keys twins₀ count count
  meeting_end h = record {
    most = omega arith;
    stops = λ kf m j k w o. let z : i ≡ count = omega (arith, l.up_to) in record {
      most = omega arith;
      clear = rw z at (l.on kf m j k w o).clear;
      third = λ q. absurd (omega arith);
    };
  }

  module _ (h : i < count) (s : Turn) (es : s ≡ step_of t c) (key : ℕ) (ek : key ≡ key_of s.own s.far) (twins' : List ℕ) (r : Bool)
      (e : Meets tree keys twins twins' key r) where
    pub meeting_next : r ≡ false → Meeting t a count tree keys twins₀ twins' s.next (i + 1)
    meeting_next q = record {
      up_to = omega arith;
      position = next_is t a i l.position s es;
      grown = l.grown;
      on = λ kf m j k w o. let z : j + (i + 1) ≡ j + i + 1 = omega arith in
          rw z (e.passes kf m (j + i) (k i ∙ key_is t a i l.position s es key ek) (l.on kf m j k w o) (omega arith) q);
    }

    pub meeting_hit : r ≡ true → GoesOn t a tree keys twins₀ count i
    meeting_hit q = record {
      most = l.up_to;
      stops = λ kf m j k w o. record {
        most = omega arith;
        clear = (l.on kf m j k w o).clear;
        third = λ x. e.thirds kf m (j + i) (k i ∙ key_is t a i l.position s es key ek) (l.on kf m j k w o) q;
      };
    }

-- the first block of some corners: all of them
block_all : (t : List ℕ) (a : Spot) (count r : ℕ) → count ≤ 2048 → r ≡ first (third_use (key_at t a)) count → (X : Type 0)
    → Stops (key_at t a) 2048 count r × (2048 < r → X)
block_all t a count r h e X =
    let f = first_le (third_use (key_at t a)) count in
    (stops_first (key_at t a) 2048 count r e (omega arith), λ l. absurd (omega arith))

-- with a third use in it
block_early : (t : List ℕ) (a : Spot) (count r : ℕ) → 2048 < count → r ≡ first (third_use (key_at t a)) 2048 → r < 2048 → (X : Type 0)
    → Stops (key_at t a) 2048 count r × (2048 < r → X)
block_early t a count r h e l X =
    (stops_early (key_at t a) (stops_first (key_at t a) 2048 2048 r e (omega arith)) count (omega arith) l, λ i. absurd (omega arith))

-- which of the two it is, where a block has m of the corners
pub block_short : (t : List ℕ) (a : Spot) (count m r : ℕ) → m ≡ min count 2048 → r ≡ first (third_use (key_at t a)) m
    → r < 2048 → (X : Type 0) → Stops (key_at t a) 2048 count r × (2048 < r → X)
block_short t a count m r em e h X = go (dec_lt 2048 count) (dec_lt m 2048)
  where
    go : Dec (2048 < count) → Dec (m < 2048) → Stops (key_at t a) 2048 count r × (2048 < r → X)
    go (yes l) (yes i) = absurd (omega arith)
    go (yes l) (no i) = let z : m ≡ 2048 = omega arith in block_early t a count r l (rw z at e) h X
    go (no l) (yes i) = let z : m ≡ count = omega arith in block_all t a count r (omega arith) (rw z at e) X
    go (no l) (no i) = let z : m ≡ count = omega arith in block_all t a count r (omega arith) (rw z at e) X

-- with none: it is full, and the corners past it are met; n comes after the m of them, and X is what else is known of them
module _ (t : List ℕ) (a : Spot) (count : ℕ) {n : Spot} {m r : ℕ} {tree keys twins : List ℕ} {X : Type 0} (em : m ≡ min count 2048)
    (e : (r ≡ first (third_use (key_at t a)) m)
    × (r ≡ m → (n ≡ position_after t m a) × X × Swept tree keys twins (key_at t a) m m)) (h : 2048 ≤ r) where
  full : (r ≡ m) × (m ≡ 2048)
  full = let l = first_le (third_use (key_at t a)) m in (omega (arith, e.0), omega (arith, e.0))

  pub block_room : 2048 ≤ count
  block_room = omega (arith, full.1)

  follows : (n ≡ position_after t 2048 a) × Swept tree keys twins (key_at t a) 2048 2048
  follows = let k = e.1 full.0 in (rw full.1 at k.0, rw full.1 at k.2)

  pub block_grown : Grown tree 2048
  block_grown = follows.1.grown

  pub block_on : (g : ℕ) → GoesOn t n tree keys twins (count - 2048) g
      → Stops (key_at t a) 2048 count (2048 + g) × (2048 < 2048 + g → n ≡ position_after t 2048 a)
  block_on g o =
      let z : 2048 + (count - 2048) ≡ count = let l = block_room in omega arith in (
        rw z at (o.stops (key_at t a) 2048 2048 (λ x. keys_after t a 2048 x ∙ ap (λ (p : Spot). key_at t p x) (sym follows.0)) follows.1 (omega arith)),
        λ l. follows.0,
      )

-- the blocks up to done are swept, and c is the next corner
pub record Sweeping (t : List ℕ) (start corners : ℕ) (c : Spot) (done limit : ℕ) : Type 0 where
  pub position : c ≡ position_after t done (begun start)
  pub up_to : done ≤ limit
  pub stops : Stops (key_at t (begun start)) done corners limit

pub sweeping_start : (t : List ℕ) (start corners : ℕ) (c : Spot) → c ≡ begun start → Sweeping t start corners c 0 corners
unfolding position_after begun
sweeping_start t start corners c e = record { position = e; up_to = omega arith; stops = stops_none (key_at t (begun start)) corners }

module _ {t : List ℕ} {start corners : ℕ} {c : Spot} {done limit : ℕ} (l : Sweeping t start corners c done limit) where
  pub sweeping_end : limit ≤ done → limit ≡ first (third_use (key_at t (begun start))) corners
  sweeping_end h = first_stops (key_at t (begun start)) done corners limit l.stops h

  module _ (r : ℕ) (b : Stops (key_at t c) 2048 (limit - done) r) where
    keys_here : key_at t c ≡ (λ x. key_at t (begun start) (done + x))
    keys_here = λ i x. (ap (λ (p : Spot). key_at t p x) l.position ∙ sym (keys_after t (begun start) done x)) i

    swept_on : Stops (key_at t (begun start)) (done + 2048) corners (done + r)
    swept_on = stops_next (key_at t (begun start)) 2048 l.stops l.up_to (subst (λ g. Stops g 2048 (limit - done) r) keys_here b)

    pub sweeping_last : r ≤ 2048 → done + r ≡ first (third_use (key_at t (begun start))) corners
    sweeping_last h = first_stops (key_at t (begun start)) (done + 2048) corners (done + r) swept_on (omega arith)

    pub sweeping_next : (n : Spot) → 2048 < r → n ≡ position_after t 2048 c → Sweeping t start corners n (done + 2048) (done + r)
    sweeping_next n h e = record {
      position = e ∙ (ap (position_after t 2048) l.position ∙ sym (position_join t done 2048 (begun start)));
      up_to = omega arith;
      stops = swept_on;
    }
