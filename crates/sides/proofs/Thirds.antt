-- Laws of third uses: two corners before with the same key, the first corner that has such two, and blocks of corners one after another.
use Prim.Native.Nat.{ℕ, ◌+◌, ◌-◌, ◌≤◌, ◌<◌}
use mathlib.Core.Path.{◌≡◌, sym}
use mathlib.Core.Logic.{◌≢◌}
use mathlib.Core.Bool.{true}
use native.Mathlib.Omega.{arith}
use native.Mathlib.Decide.{ℕ_discrete, dec_lt}
use lib.Dec.{eqb}
use borrow.Author.Tests.{eqb-true, eq-eqb, le-leb, leb-true}
use Rattle.rules.specs.Lists.{count_below, first}
use Rattle.shapes.proofs.Counts.{count_two, two_count}
use Rattle.rules.proofs.Lists.{not_both, first_le, first_passes, first_before}
use Rattle.sides.specs.Sides.{third_use, Third, Stops}

module _ (kf : ℕ → ℕ) where
  -- two before x have its key
  third_uses : (x a b : ℕ) → a ≢ b → a < x → b < x → kf a ≡ kf x → kf b ≡ kf x → third_use kf x ≡ true
  unfolding third_use
  third_uses x a b n h l p q = le-leb 2 (count_below x (λ e. eqb (kf x) (kf e))) (go (dec_lt a b))
    where
      go : Dec (a < b) → 2 ≤ count_below x (λ e. eqb (kf x) (kf e))
      go (yes o) = count_two x (λ e. eqb (kf x) (kf e)) a b o l (eq-eqb (kf x) (kf a) (sym p)) (eq-eqb (kf x) (kf b) (sym q))
      go (no o) = count_two x (λ e. eqb (kf x) (kf e)) b a (omega arith) h (eq-eqb (kf x) (kf b) (sym q)) (eq-eqb (kf x) (kf a) (sym p))

  pub third_use_lem : {m x : ℕ} → Third kf m x → third_use kf x ≡ true
  third_use_lem {x = x} t = third_uses x t.one t.other t.apart t.before.0 t.before.1 t.alike.0 t.alike.1

  use_third : (m x : ℕ) → x ≤ m → third_use kf x ≡ true → Third kf m x
  unfolding third_use
  use_third m x h e =
      let (a, b, l, i, p, q) = two_count x (λ e. eqb (kf x) (kf e)) (leb-true 2 (count_below x (λ e. eqb (kf x) (kf e))) e) in
      record {
        one = a;
        other = b;
        led = omega arith;
        apart = λ z. omega arith;
        before = (omega arith, i);
        alike = (sym (eqb-true (kf x) (kf a) p), sym (eqb-true (kf x) (kf b) q));
      }

  -- the first third use is where the sides of all corners stop
  pub stops_first : (m n r : ℕ) → r ≡ first (third_use kf) n → r ≤ m → Stops kf m n r
  stops_first m n r e h = record {
    most = omega (arith, first_le (third_use kf) n);
    clear = λ x a b l hm ha hb p q. same x a b l ha hb p q (ℕ_discrete a b);
    third = λ l. use_third m r h (rw e (first_passes (third_use kf) n (omega arith)));
  }
    where
      same : (x a b : ℕ) → x < r → a < x → b < x → kf a ≡ kf x → kf b ≡ kf x → Dec (a ≡ b) → a ≡ b
      same x a b l ha hb p q (yes z) = z
      same x a b l ha hb p q (no z) = absurd (not_both (third_use kf x) (third_uses x a b z ha hb p q) (first_before (third_use kf) n x (omega arith)))

  pub first_stops : (m n r : ℕ) → Stops kf m n r → r ≤ m → r ≡ first (third_use kf) n
  first_stops m n r s h = go (dec_lt r f) (dec_lt f r)
    where
      f : ℕ
      f = first (third_use kf) n

      go : Dec (r < f) → Dec (f < r) → r ≡ f
      go (yes l) d = absurd (not_both (third_use kf r) (third_use_lem (s.third (omega (arith, first_le (third_use kf) n)))) (first_before (third_use kf) n r l))
      go (no l) (yes i) =
          let t = use_third f f (omega arith) (first_passes (third_use kf) n (omega (arith, s.most))) in
          absurd (t.apart (s.clear f t.one t.other i (omega (arith, t.before.0)) t.before.0 t.before.1 t.alike.0 t.alike.1))
      go (no l) (no i) = omega arith

  -- before the first block
  pub stops_none : (n : ℕ) → Stops kf 0 n n
  stops_none n = record { most = omega arith; clear = λ x a b l h. absurd (omega arith); third = λ l. absurd (omega arith) }

  -- where it stops early, corners more are no matter
  pub stops_early : {m n r : ℕ} → Stops kf m n r → (k : ℕ) → n ≤ k → r < n → Stops kf m k r
  stops_early s k h l = record { most = omega arith; clear = s.clear; third = λ i. s.third l }

  -- the block of m corners from d on, met up to where the blocks before it stop
  module _ {d n l r : ℕ} (m : ℕ) (s : Stops kf d n l) (h : d ≤ l) (b : Stops (λ x. kf (d + x)) m (l - d) r) where
    within : d + r ≤ l
    within = omega (arith, b.most)

    pub stops_next : Stops kf (d + m) n (d + r)
    stops_next = record {
      most = omega (arith, within, s.most);
      clear = λ x a c i hm ha hc p q. clear x a c i hm ha hc p q (dec_lt a d) (dec_lt c d);
      third = λ i. third (dec_lt r (l - d)) i;
    }
      where
        back : (x : ℕ) → d ≤ x → d + (x - d) ≡ x
        back x i = omega arith

        key : (a x : ℕ) → d ≤ a → d ≤ x → kf a ≡ kf x → kf (d + (a - d)) ≡ kf (d + (x - d))
        key a x i j e = rw (back a i, back x j) e

        clear : (x a c : ℕ) → x < d + r → a < d + m → a < x → c < x → kf a ≡ kf x → kf c ≡ kf x → Dec (a < d) → Dec (c < d) → a ≡ c
        clear x a c i hm ha hc p q (yes o) w = s.clear x a c (omega (arith, within)) o ha hc p q
        clear x a c i hm ha hc p q (no o) (yes w) = sym (s.clear x c a (omega (arith, within)) w hc ha q p)
        clear x a c i hm ha hc p q (no o) (no w) =
            let z = b.clear (x - d) (a - d) (c - d) (omega arith) (omega arith) (omega arith) (omega arith)
            (key a x (omega arith) (omega arith) p) (key c x (omega arith) (omega arith) q) in
            omega arith

        third : Dec (r < l - d) → d + r < n → Third kf (d + m) (d + r)
        third (yes o) i = let t = b.third o in record {
          one = d + t.one;
          other = d + t.other;
          led = omega (arith, t.led);
          apart = λ z. t.apart (omega arith);
          before = (omega (arith, t.before.0), omega (arith, t.before.1));
          alike = t.alike;
        }
        third (no o) i = let z : d + r ≡ l = omega (arith, b.most) in let t = s.third (omega arith) in rw z (record {
          one = t.one;
          other = t.other;
          led = omega (arith, t.led);
          apart = t.apart;
          before = t.before;
          alike = t.alike;
        })
