-- Laws of the two classes: where all darts are marked each has one, by the number of links from its body's root, and if any two classes do, these do:
-- exactly if the links that stay within a class are those that stay in place. Rests on the flood's Floods and the rules' Orbits and Cells.
use Prim.Native.Nat.{ℕ, zero, suc, ◌+◌, ◌*◌, ◌-◌, ◌/◌, ◌%◌, ◌≤◌, ◌<◌}
use mathlib.Core.Path.{◌≡◌, refl, ap, sym, ◌∙◌}
use mathlib.Core.Logic.{◌≢◌}
use mathlib.Core.Bool.{Bool, true, false, not, ◌&&◌, cond}
use mathlib.Core.List.{List}
use native.Mathlib.Omega.{arith}
use lib.ListN.{get_or}
use lib.Dec.{eqb}
use borrow.Author.Tests.{eqb-true, eqb-false, eq-eqb, ne_eqb, not-true}
use Rattle.rules.specs.Lists.{some_below, count_below}
use Rattle.rules.specs.Map.{by_dart, size, link, Reached, all_ranks, Valid}
use Rattle.rules.specs.Report.{free_pairs, orientable}
use Rattle.rules.proofs.Lists.{and_left, and_right, not_both, some_below_lem, below_some}
use Rattle.rules.proofs.Places.{nth_rank, nth_dart, nth_below, rank_nth, dart_nth}
use Rattle.rules.proofs.Orbits.{Closed, valid_closed, reached_below, reached_trans, reached_sym, count_wider}
use Rattle.rules.proofs.Cells.{Orientable, orientable_sound, orientable_complete}
use Rattle.flood.specs.Flood.{Linked}
use Rattle.flood.proofs.Queues.{full_marked}
use Rattle.flood.proofs.Floods.{linked_two, linked_reached}
use Rattle.report.specs.Spans.{Rooted, Spanned}
use Rattle.report.specs.Tests.{alike, is_free}

-- the class that a dart has by the number of links from a dart of class b
turn : ℕ → Bool → Bool
turn zero b = b
turn (suc m) b = not b

turn_next : (m : ℕ) (b : Bool) → m < 2 → turn (1 - m) b ≡ not (turn m b)
unfolding turn
turn_next zero b h = refl
turn_next (suc zero) true h = refl
turn_next (suc zero) false h = refl
turn_next (suc (suc m)) b h = absurd (omega arith)

not_own : (b : Bool) → b ≡ not b → ⊥
not_own true e = let z : ◌≡◌ {A = ℕ} 0 1 = cc in omega arith
not_own false e = let z : ◌≡◌ {A = ℕ} 0 1 = cc in omega arith

other_one : (a b : ℕ) → a < 2 → b < 2 → (a ≡ b → ⊥) → eqb b 1 ≡ not (eqb a 1)
other_one zero zero h k e = absurd (e refl)
other_one zero (suc zero) h k e = refl
other_one (suc zero) zero h k e = refl
other_one (suc zero) (suc zero) h k e = absurd (e refl)
other_one zero (suc (suc b)) h k e = absurd (omega arith)
other_one (suc zero) (suc (suc b)) h k e = absurd (omega arith)
other_one (suc (suc a)) b h k e = absurd (omega arith)

-- any classes that do agree with the numbers of links from a dart of class 0
linked_class : {keep : ℕ → Bool} {N n : ℕ} {t : List ℕ} {s d m : ℕ} (v : Valid by_dart N n t) (O : Orientable by_dart N n t) → s < n
    → Linked keep N n t s 0 d m → O.class d ≡ turn m (O.class s)
unfolding turn
linked_class v O h Linked.here = refl
linked_class {s = s} v O h (Linked.onward {e} {m} i hi k ne r) =
    let below = reached_below (valid_closed v) h (linked_reached r) in
    O.other i e hi below ne ∙ (ap not (linked_class v O h r) ∙ sym (turn_next m (O.class s) (linked_two (omega arith) r)))

-- a body has one root: each is the least dart of it
one_root : {N n next d m e k i : ℕ} {t : List ℕ} → Valid by_dart N n t → next ≤ n → (R : Rooted N n t next d m) (S : Rooted N n t next e k)
    → i ≤ N → e ≡ link by_dart N n t i d → R.root ≡ S.root
one_root {N} {n} {d = d} {e = e} {i = i} {t = t} v h R S hi z = omega (arith, R.least S.root there, S.least R.root (reached_sym C hr there))
  where
    C : Closed by_dart N n t
    C = valid_closed v

    hr : R.root < n
    hr = omega (arith, R.early)

    hs : S.root < n
    hs = omega (arith, S.early)

    across : Reached by_dart all_ranks N n t R.root e
    across = rw z (Reached.onward i hi (unfold all_ranks in refl) (linked_reached R.linked))

    there : Reached by_dart all_ranks N n t R.root S.root
    there = reached_trans across (reached_sym C hs (linked_reached S.linked))

-- every dart has a class
module _ {N n tail count next : ℕ} {t w : List ℕ} (v : Valid by_dart N n t) (h1 : 1 ≤ n) (S : Spanned N n t tail count next w) (full : n ≤ tail) where
  rooted_all : (d : ℕ) → d < n → Rooted N n t next d (get_or w d 0)
  rooted_all d h = S.rooted d h (full_marked S.queue full d h)

  class_two : (d : ℕ) → d < n → get_or w d 0 < 2
  class_two d h = linked_two (omega arith) (rooted_all d h).linked

  -- the k-th link joins two different darts of one class
  joins : ℕ → Bool
  joins k = alike N n t w k && not (is_free N n t k)

  -- a link that stays in place stays within a class
  free_alike : (k : ℕ) → is_free N n t k ≡ true → alike N n t w k ≡ true
  unfolding alike is_free
  free_alike k e = rw (eqb-true (link by_dart N n t (k / n) (k % n)) (k % n) e) (eq-eqb (get_or w (k % n) 0) (get_or w (k % n) 0) refl)

  -- no link joins two darts of one class: links within one stay in place
  alike_free : some_below (size N n) joins ≡ false → (k : ℕ) → k < size N n → alike N n t w k ≡ true → is_free N n t k ≡ true
  unfolding joins
  alike_free q k h a = go (is_free N n t k) refl
    where
      go : (b : Bool) → is_free N n t k ≡ b → is_free N n t k ≡ true
      go true e = e
      go false e = absurd (not_both (some_below (size N n) joins) (below_some (size N n) joins k h (rw (a, e))) q)

  -- and the classes do
  apart_orientable : some_below (size N n) joins ≡ false → Orientable by_dart N n t
  unfolding alike is_free
  apart_orientable q = record { class = λ d. eqb (get_or w d 0) 1; other = other }
    where
      other : (i d : ℕ) → i ≤ N → d < n → link by_dart N n t i d ≢ d → eqb (get_or w (link by_dart N n t i d) 0) 1 ≡ not (eqb (get_or w d 0) 1)
      other i d hi hd ne =
          let x = link by_dart N n t i d in
          let a = alike_free q (i * n + d) (nth_below N n i d hi hd) in
          let b : eqb (get_or w d 0) (get_or w x 0) ≡ true → eqb x d ≡ true = rw (rank_nth n i d hd, dart_nth n i d hd) at a in
          other_one (get_or w d 0) (get_or w x 0) (class_two d hd) (class_two x (v.inside i d hi hd))
          (λ z. ne (eqb-true x d (b (eq-eqb (get_or w d 0) (get_or w x 0) z))))

  -- a link joins two darts of one class: no classes do
  alike_refutes : some_below (size N n) joins ≡ true → Orientable by_dart N n t → ⊥
  unfolding joins alike is_free
  alike_refutes q O = let (k, h, e) = some_below_lem (size N n) joins q in same k h e
    where
      joined : (i d : ℕ) → i ≤ N → d < n → get_or w d 0 ≡ get_or w (link by_dart N n t i d) 0 → link by_dart N n t i d ≢ d → ⊥
      joined i d hi hd e ne =
          let x = link by_dart N n t i d in
          let R = rooted_all d hd in
          let T = rooted_all x (v.inside i d hi hd) in
          let a = linked_class v O (omega (arith, R.early, S.within)) R.linked in
          let b = linked_class v O (omega (arith, T.early, S.within)) T.linked in
          let r = ap (λ (y : ℕ). turn (get_or w x 0) (O.class y)) (one_root v S.within R T hi refl) in
          not_own (O.class d) (a ∙ (ap (λ (y : ℕ). turn y (O.class R.root)) e ∙ (r ∙ (sym b ∙ O.other i d hi hd ne))))

      same : (k : ℕ) → k < size N n → joins k ≡ true → ⊥
      same k h e =
          let x = link by_dart N n t (k / n) (k % n) in
          let a = and_left (eqb (get_or w (k % n) 0) (get_or w x 0)) (not (eqb x (k % n))) e in
          let b = and_right (eqb (get_or w (k % n) 0) (get_or w x 0)) (not (eqb x (k % n))) e in
          joined (k / n) (k % n) (nth_rank N n k h1 h) (nth_dart n k h1) (eqb-true (get_or w (k % n) 0) (get_or w x 0) a)
          (eqb-false x (k % n) (not-true (eqb x (k % n)) b))

  -- as many links stay within a class as pairs are free: the map is orientable
  pub classes_tell : (a f : ℕ) → a ≡ count_below (size N n) (alike N n t w) → f ≡ free_pairs by_dart N n t → eqb a f ≡ orientable by_dart N n t
  unfolding free_pairs is_free joins
  classes_tell a f ea ef = go (some_below (size N n) joins) refl
    where
      -- the links that stay in place are some of those
      more : (b : Bool) → some_below (size N n) joins ≡ b → cond b 1 0 + f ≤ a
      more b e = rw (← e, ea, ef) (count_wider (size N n) (is_free N n t) (alike N n t w) (λ k h. free_alike k))

      no_more : some_below (size N n) joins ≡ false → a ≤ f
      no_more e = rw (ea, ef) (omega (arith, count_wider (size N n) (alike N n t w) (is_free N n t) (alike_free e)))

      never : some_below (size N n) joins ≡ true → (b : Bool) → orientable by_dart N n t ≡ b → false ≡ b
      never h false q = refl
      never h true q = absurd (alike_refutes h (orientable_sound (valid_closed v) h1 q))

      go : (b : Bool) → some_below (size N n) joins ≡ b → eqb a f ≡ orientable by_dart N n t
      go false e = eq-eqb a f (omega (arith, more false e, no_more e)) ∙ sym (orientable_complete (valid_closed v) h1 (apart_orientable e))
      go true e = ne_eqb a f (λ z. omega (arith, more true e)) ∙ never e (orientable by_dart N n t) refl
