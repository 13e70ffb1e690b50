-- Laws of a swept table: what a search in it tells, and one corner more, entered or met.
use Prim.Native.Nat.{ℕ, ◌+◌, ◌%◌, ◌≤◌, ◌<◌}
use mathlib.Core.Path.{◌≡◌, refl, ap, sym, ◌∙◌}
use mathlib.Core.Logic.{◌≢◌}
use mathlib.Core.List.{List}
use mathlib.Core.Bool.{Bool, false, not, cond}
use native.Mathlib.Omega.{arith}
use native.Mathlib.Decide.{ℕ_discrete, dec_lt}
use lib.ListN.{get_or, set, length-set}
use lib.Seq.{get_or-set_same, get_or-set_other}
use lib.Dec.{eqb}
use borrow.Author.Tests.{eqb-true, eqb-false, not-true, not-false}
use Rattle.rules.specs.Lists.{first}
use Rattle.rules.proofs.Lists.{first_passes, first_before}
use Rattle.std.specs.Prelude.{Ok, Err}
use Rattle.sides.specs.Sides.{owner_of, Path, Twin, alone, paired, Swept, Third, Enters, Meets}
use Rattle.sides.proofs.Paths.{path_one, found_key, found_low, free_none, free_low, grown_more, path_kept, held, path_new, grown_new}
use Rattle.sides.proofs.Ways.{sown_key, sown_new}

-- what a twin's entry tells
twin_alone : (kf : ℕ → ℕ) (j y v : ℕ) → Twin kf j y v → v ≡ 65535 → (z : ℕ) → z < j → kf z ≡ kf y → z ≡ y
twin_alone kf j y v (alone f) e = f
twin_alone kf j y v (paired z w h i n p q) e = absurd (omega arith)

twin_paired : (kf : ℕ → ℕ) (j y v : ℕ) → Twin kf j y v → v ≢ 65535 → (z : ℕ) × (z < j) × (z ≢ y) × (kf z ≡ kf y)
twin_paired kf j y v (alone f) n = absurd (n refl)
twin_paired kf j y v (paired z w h i a p q) n = (z, i, a, p)

-- a corner with another key is no matter
twin_other : (kf : ℕ → ℕ) (j y v : ℕ) → kf j ≢ kf y → Twin kf j y v → Twin kf (j + 1) y v
twin_other kf j y v n (alone f) = alone (λ z h e. go z h e (ℕ_discrete z j))
  where
    go : (z : ℕ) → z < j + 1 → kf z ≡ kf y → Dec (z ≡ j) → z ≡ y
    go z h e (yes q) = absurd (n (rw q at e))
    go z h e (no q) = f z (omega arith) e
twin_other kf j y v n (paired z w h i a p q) = paired z w h (omega arith) a p q

module _ {tree keys twins : List ℕ} {kf : ℕ → ℕ} {m j : ℕ} (w : Swept tree keys twins kf m j) {key : ℕ} where
  -- the first corner with a key leads
  leads_first : (y : ℕ) → y < m → kf y ≡ key → (k : ℕ) × Path tree keys key key (key % 4093) (Ok k)
  leads_first y h e = go (dec_lt (first f y) y)
    where
      f : ℕ → Bool
      f z = eqb (kf z) (kf y)

      at : (k : ℕ) → kf k ≡ kf y → Path tree keys (kf k) (kf k) (kf k % 4093) (Ok k) → (k : ℕ) × Path tree keys key key (key % 4093) (Ok k)
      at k q p = (k, rw (q ∙ e) at p)

      go : Dec (first f y < y) → (k : ℕ) × Path tree keys key key (key % 4093) (Ok k)
      go (yes l) =
          let q = eqb-true (kf (first f y)) (kf y) (first_passes f y l) in
          at (first f y) q (w.leads (first f y) (omega arith) (λ z i x. eqb-false (kf z) (kf y) (first_before f y z i) (x ∙ q)))
      go (no l) = at y refl (w.leads y h (λ z i x. eqb-false (kf z) (kf y) (first_before f y z (omega arith)) x))

  -- a search that ends at a free place: no corner of the table has the key
  swept_free : {at : ℕ} → Path tree keys key key (key % 4093) (Err at) → (y : ℕ) → y < m → kf y ≢ key
  swept_free {at} p y h e = let (k, q) = leads_first y h e in apart (path_one tree keys key p q)
    where
      apart : {k : ℕ} → Err at ≡ Ok k → ⊥
      apart {k} z = let o : ◌≡◌ {A = ℕ} 0 1 = cc in omega arith

  swept_found : {k : ℕ} → Path tree keys key key (key % 4093) (Ok k) → (k < m) × (kf k ≡ key)
  swept_found {k} p = let h = found_low tree keys key m w.grown p in (h, sym (w.keyed k h) ∙ found_key tree keys key p)

  module _ (ek : kf j ≡ key) where
    -- where no corner of the table has the key of corner j
    module _ (n : (y : ℕ) → y < m → kf y ≢ key) where
      pub clear_other : (x a b : ℕ) → x < j + 1 → a < m → a < x → b < x → kf a ≡ kf x → kf b ≡ kf x → a ≡ b
      clear_other x a b h ha la lb p q = go (ℕ_discrete x j)
        where
          go : Dec (x ≡ j) → a ≡ b
          go (yes e) = absurd (n a ha (p ∙ (ap kf e ∙ ek)))
          go (no e) = w.clear x a b (omega arith) ha la lb p q

      pub twin_free : (y : ℕ) → y < m → Twin kf (j + 1) y (get_or twins y 0)
      twin_free y h = twin_other kf j y (get_or twins y 0) (λ e. n y h (sym e ∙ ek)) (w.twinned y h)

    module _ (k : ℕ) (hk : k < m) (kk : kf k ≡ key) where
      -- where corner k has it and has no twin
      module _ (al : get_or twins k 0 ≡ 65535) where
        only : (z : ℕ) → z < j → kf z ≡ key → z ≡ k
        only z h e = twin_alone kf j k (get_or twins k 0) (w.twinned k hk) al z h (e ∙ sym kk)

        pub clear_only : (x a b : ℕ) → x < j + 1 → a < m → a < x → b < x → kf a ≡ kf x → kf b ≡ kf x → a ≡ b
        clear_only x a b h ha la lb p q = go (ℕ_discrete x j)
          where
            go : Dec (x ≡ j) → a ≡ b
            go (yes e) = let f = ap kf e ∙ ek in only a (omega arith) (p ∙ f) ∙ sym (only b (omega arith) (q ∙ f))
            go (no e) = w.clear x a b (omega arith) ha la lb p q

        pub twin_only : (y : ℕ) → y < m → y ≢ k → Twin kf (j + 1) y (get_or twins y 0)
        twin_only y h d = twin_other kf j y (get_or twins y 0) (λ e. d (only y (omega (arith, w.met)) (sym e ∙ ek))) (w.twinned y h)

      -- where it has a twin already
      pub swept_third : get_or twins k 0 ≢ 65535 → Third kf m j
      swept_third n =
          let (z, h, d, e) = twin_paired kf j k (get_or twins k 0) (w.twinned k hk) n in
          record {
            one = k;
            other = z;
            led = hk;
            apart = λ q. d (sym q);
            before = (omega (arith, w.met), h);
            alike = (kk ∙ sym ek, e ∙ (kk ∙ sym ek));
          }

-- corner i is entered, at a free place or as the twin of corner k
module _ (tree keys twins : List ℕ) (i key : ℕ) (few : i < 2048) where
  module _ (kf : ℕ → ℕ) (ek : kf i ≡ key) (w : Swept tree keys twins kf i i) where
    keyed_next : (y : ℕ) → y < i + 1 → Dec (y ≡ i) → get_or (set keys i key) y 0 ≡ kf y
    keyed_next y h (yes e) = rw e (get_or-set_same keys i key 0 (omega (arith, w.keys2048)) ∙ sym ek)
    keyed_next y h (no e) = get_or-set_other keys i y key 0 e ∙ w.keyed y (omega arith)

    module _ (at : ℕ) (p : Path tree keys key key (key % 4093) (Err at)) where
      enter_free : Swept (set tree at (i + 1)) (set keys i key) (set twins i 65535) kf (i + 1) (i + 1)
      enter_free = record {
        met = omega arith;
        tree12288 = length-set tree at (i + 1) ∙ w.tree12288;
        keys2048 = length-set keys i key ∙ w.keys2048;
        twins2048 = length-set twins i 65535 ∙ w.twins2048;
        grown = grown_new tree keys i key at w.grown few none low.0 low.1 w.tree12288 w.keys2048;
        sown = sown_new tree keys i key at w.grown few low.0 low.1 w.tree12288 w.keys2048 p w.sown;
        keyed = λ y h. keyed_next y h (ℕ_discrete y i);
        leads = λ y h f. leads y h f (ℕ_discrete y i);
        twinned = λ y h. twinned y h (ℕ_discrete y i);
        clear = λ x a b h ha la lb. clear_other w ek lacks x a b h (omega arith) la lb;
      }
        where
          none : get_or tree at 0 ≡ 0
          none = free_none tree keys key p

          low : (at < 12288) × (owner_of at ≤ i)
          low = free_low tree keys key i w.grown p

          lacks : (y : ℕ) → y < i → kf y ≢ key
          lacks y h = swept_free w p y h

          leads : (y : ℕ) → y < i + 1 → ((z : ℕ) → z < y → kf z ≢ kf y) → Dec (y ≡ i)
              → Path (set tree at (i + 1)) (set keys i key) (kf y) (kf y) (kf y % 4093) (Ok y)
          leads y h f (yes e) = rw (e, ek) (path_new tree keys i key at w.grown few none low.0 low.1 w.tree12288 w.keys2048 p)
          leads y h f (no e) =
              path_kept tree keys (set tree at (i + 1)) (set keys i key)
              (held tree keys i key at w.grown few none low.0 low.1 w.tree12288 w.keys2048) (kf y) (w.leads y (omega arith) f)

          twinned : (y : ℕ) → y < i + 1 → Dec (y ≡ i) → Twin kf (i + 1) y (get_or (set twins i 65535) y 0)
          twinned y h (yes e) = rw (e, get_or-set_same twins i 65535 0 (omega (arith, w.twins2048))) (alone (λ z l q. last z l q (ℕ_discrete z i)))
            where
              last : (z : ℕ) → z < i + 1 → kf z ≡ kf i → Dec (z ≡ i) → z ≡ i
              last z l q (yes d) = d
              last z l q (no d) = absurd (lacks z (omega arith) (q ∙ ek))
          twinned y h (no e) = rw (get_or-set_other twins i y 65535 0 e) (twin_free w ek lacks y (omega arith))

    module _ (k : ℕ) (hk : k < i) (kk : kf k ≡ key) (al : get_or twins k 0 ≡ 65535) where
      enter_twin : Swept tree (set keys i key) (set (set twins i k) k i) kf (i + 1) (i + 1)
      enter_twin = record {
        met = omega arith;
        tree12288 = w.tree12288;
        keys2048 = length-set keys i key ∙ w.keys2048;
        twins2048 = length-set (set twins i k) k i ∙ (length-set twins i k ∙ w.twins2048);
        grown = grown_more tree i (i + 1) w.grown (omega arith) (omega arith);
        sown = sown_key tree keys i key w.grown w.sown;
        keyed = λ y h. keyed_next y h (ℕ_discrete y i);
        leads = λ y h f. leads y h f (ℕ_discrete y i);
        twinned = λ y h. twinned y h (ℕ_discrete y i) (ℕ_discrete y k);
        clear = λ x a b h ha la lb. clear_only w ek k hk kk al x a b h (omega arith) la lb;
      }
        where
          leads : (y : ℕ) → y < i + 1 → ((z : ℕ) → z < y → kf z ≢ kf y) → Dec (y ≡ i) → Path tree (set keys i key) (kf y) (kf y) (kf y % 4093) (Ok y)
          leads y h f (yes e) = absurd (f k (omega arith) (kk ∙ (sym ek ∙ ap kf (sym e))))
          leads y h f (no e) =
              path_kept tree keys tree (set keys i key)
              (λ x d q. (q, get_or-set_other keys i d key 0 (λ z. omega (arith, w.grown.below x)))) (kf y) (w.leads y (omega arith) f)

          twinned : (y : ℕ) → y < i + 1 → Dec (y ≡ i) → Dec (y ≡ k) → Twin kf (i + 1) y (get_or (set (set twins i k) k i) y 0)
          twinned y h (yes e) d =
              rw (e, get_or-set_other (set twins i k) k i i 0 (λ z. omega arith), get_or-set_same twins i k 0 (omega (arith, w.twins2048)))
              (paired k k (omega arith) (omega arith) (λ z. omega arith) (kk ∙ sym ek) (λ z. refl))
          twinned y h (no e) (yes d) =
              rw (d, get_or-set_same (set twins i k) k i 0 (omega (arith, length-set twins i k, w.twins2048)))
              (paired i i (omega arith) (omega arith) (λ z. omega arith) (ek ∙ sym kk) (λ z. refl))
          twinned y h (no e) (no d) =
              rw (get_or-set_other (set twins i k) k y i 0 d, get_or-set_other twins i y k 0 e) (twin_only w ek k hk kk al y (omega arith) d)

  pub enters_free : (at : ℕ) → Path tree keys key key (key % 4093) (Err at)
      → Enters tree keys twins (set tree at (i + 1)) (set keys i key) (set twins i 65535) i key false
  enters_free at p = record {
    passes = λ kf ek w e. enter_free kf ek w at p;
    thirds = λ kf ek w e. absurd (let z : ◌≡◌ {A = ℕ} 0 1 = cc in omega arith);
  }

  -- or as the twin of corner k, a third use where that one has a twin already
  pub enters_twin : (k : ℕ) → Path tree keys key key (key % 4093) (Ok k) → (r : Bool) (twins' : List ℕ)
      → r ≡ not (eqb (get_or (set twins i k) k 0) 65535)
      → twins' ≡ cond (eqb (get_or (set twins i k) k 0) 65535) (set (set twins i k) k i) (set twins i k)
      → Enters tree keys twins tree (set keys i key) twins' i key r
  enters_twin k p r twins' er et = record {
    passes = λ kf ek w e. let h = swept_found w p in
        let q = not-false (eqb (get_or (set twins i k) k 0) 65535) (sym er ∙ e) in
        rw (et, q) (enter_twin kf ek w k h.0 h.1 (sym (same h.0) ∙ eqb-true (get_or (set twins i k) k 0) 65535 q));
    thirds = λ kf ek w e. let h = swept_found w p in
        let q = not-true (eqb (get_or (set twins i k) k 0) 65535) (sym er ∙ e) in
        swept_third w ek k h.0 h.1 (λ z. eqb-false (get_or (set twins i k) k 0) 65535 q (same h.0 ∙ z));
  }
    where
      same : k < i → get_or (set twins i k) k 0 ≡ get_or twins k 0
      same h = get_or-set_other twins i k k 0 (λ z. omega arith)

-- a corner past the block is met
module _ (tree keys twins : List ℕ) (key : ℕ) where
  pub meets_free : (at : ℕ) → Path tree keys key key (key % 4093) (Err at) → Meets tree keys twins twins key false
  meets_free at p = record {
    passes = λ kf m j ek w l e. let n = swept_free w p in record {
      met = omega (arith, w.met);
      tree12288 = w.tree12288;
      keys2048 = w.keys2048;
      twins2048 = w.twins2048;
      grown = w.grown;
      sown = w.sown;
      keyed = w.keyed;
      leads = w.leads;
      twinned = twin_free w ek n;
      clear = clear_other w ek n;
    };
    thirds = λ kf m j ek w e. absurd (let z : ◌≡◌ {A = ℕ} 0 1 = cc in omega arith);
  }

  module _ (k : ℕ) (p : Path tree keys key key (key % 4093) (Ok k)) where
    meet_twin : (kf : ℕ → ℕ) (m j : ℕ) → kf j ≡ key → Swept tree keys twins kf m j → 2048 ≤ j → get_or twins k 0 ≡ 65535
        → Swept tree keys (set twins k 2048) kf m (j + 1)
    meet_twin kf m j ek w l al = record {
      met = omega (arith, w.met);
      tree12288 = w.tree12288;
      keys2048 = w.keys2048;
      twins2048 = length-set twins k 2048 ∙ w.twins2048;
      grown = w.grown;
      sown = w.sown;
      keyed = w.keyed;
      leads = w.leads;
      twinned = λ y h. twinned y h (ℕ_discrete y k);
      clear = clear_only w ek k h.0 h.1 al;
    }
      where
        h : (k < m) × (kf k ≡ key)
        h = swept_found w p

        twinned : (y : ℕ) → y < m → Dec (y ≡ k) → Twin kf (j + 1) y (get_or (set twins k 2048) y 0)
        twinned y i (yes e) =
            rw (e, get_or-set_same twins k 2048 0 (omega (arith, w.twins2048, w.grown.few, h.0)))
            (paired j 2048 (omega arith) (omega arith) (λ z. omega (arith, w.grown.few, h.0)) (ek ∙ sym h.1) (λ z. absurd (omega arith)))
        twinned y i (no e) = rw (get_or-set_other twins k y 2048 0 e) (twin_only w ek k h.0 h.1 al y i e)

    pub meets_twin : (r : Bool) (twins' : List ℕ) → r ≡ not (eqb (get_or twins k 0) 65535)
        → twins' ≡ cond (eqb (get_or twins k 0) 65535) (set twins k 2048) twins → Meets tree keys twins twins' key r
    meets_twin r twins' er et = record {
      passes = λ kf m j ek w l e. let q = not-false (eqb (get_or twins k 0) 65535) (sym er ∙ e) in
          rw (et, q) (meet_twin kf m j ek w l (eqb-true (get_or twins k 0) 65535 q));
      thirds = λ kf m j ek w e. let h = swept_found w p in
          let q = not-true (eqb (get_or twins k 0) 65535) (sym er ∙ e) in
          swept_third w ek k h.0 h.1 (eqb-false (get_or twins k 0) 65535 q);
    }
