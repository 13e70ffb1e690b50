-- Renaming the darts of a map: f takes darts to darts, and every ai of one map to that of the other, each in tables of its own layout. What is reached, valid
-- and connected follows a renaming, both ways; equal links are the renaming that changes no dart, and in one layout they are exactly equal entries. Cells,
-- Names, Follows, Past and Shapes rest on this: together they say that walk, check, stream, report and reading look at a map's links only. Rests on Lists,
-- Places and Orbits.
use Prim.Native.Nat.{ℕ, suc, ◌≤◌, ◌<◌}
use mathlib.Core.Path.{◌≡◌, refl, ap, sym, ◌∙◌}
use mathlib.Core.Logic.{◌≢◌}
use mathlib.Core.Bool.{Bool, cond}
use mathlib.Core.List.{List, map}
use native.Mathlib.Omega.{arith}
use native.Mathlib.Decide.{ℕ_discrete, dec_lt}
use lib.ListN.{get_or-map, length, get_or, take, length-map}
use lib.Seq.{ext_get_or, get_or-take, length-take-le}
use lib.Dec.{eqb}
use borrow.Author.Tests.{eqb-true, eq-eqb, ne_eqb}
use Rattle.rules.specs.Lists.{first}
use Rattle.rules.specs.Map.{Layout, mark, size, link, Reached, Valid, Connected}
use Rattle.rules.proofs.Lists.{not_both, first_passes, first_before, get_d_any, pigeonhole}
use Rattle.rules.specs.Exchange.{rank_at, dart_at}
use Rattle.rules.proofs.Places.{rank_at_lem, dart_at_lem, place_at, link_entry, link_none, Alike, link_alike}
use Rattle.rules.proofs.Orbits.{Closed, valid_closed, reached_below}

-- f carries m of layout Y to m' of layout Z: it takes darts and only darts to darts, different ones to different ones, and every ai of m to that of m'
pub record Carries (Y Z : Layout) (f : ℕ → ℕ) (N n : ℕ) (m m' : List ℕ) : Type 0 where
  pub low : (d : ℕ) → d < n → f d < n
  pub only : (d : ℕ) → f d < n → d < n
  pub once : (d e : ℕ) → d < n → e < n → f d ≡ f e → d ≡ e
  pub links : (i d : ℕ) → i ≤ N → d < n → link Z N n m' i (f d) ≡ f (link Y N n m i d)

-- the entries of a renamed list, whatever stands past its end
pub get_d_mapped : (f : ℕ → ℕ) (l : List ℕ) (p x : ℕ) → p < length l → get_or (map f l) p x ≡ f (get_or l p x)
get_d_mapped f l p x h = get_d_any (map f l) p x (f x) (omega (arith, length-map l f)) ∙ get_or-map f l p x

-- the dart that f takes to y, or n
unfoldable pub back : (ℕ → ℕ) → ℕ → ℕ → ℕ
back f n y = first (λ d. eqb (f d) y) n

pub back_there : (f : ℕ → ℕ) (n y : ℕ) → back f n y < n → f (back f n y) ≡ y
unfolding back
back_there f n y h = eqb-true (f (first (λ d. eqb (f d) y) n)) y (first_passes (λ d. eqb (f d) y) n h)

-- by counting: what takes n numbers to different ones of them takes some number to each
module _ (f : ℕ → ℕ) (n : ℕ) (low : (d : ℕ) → d < n → f d < n) (once : (d e : ℕ) → d < n → e < n → f d ≡ f e → d ≡ e) where
  pub back_low : (y : ℕ) → y < n → back f n y < n
  unfolding back
  back_low y hy = go (dec_lt (first test n) n)
    where
      test : ℕ → Bool
      test d = eqb (f d) y

      missed : n ≤ first test n → (d : ℕ) → d < n → f d ≢ y
      missed h d hd e = not_both (test d) (eq-eqb (f d) y e) (first_before test n d (omega arith))

      -- y in a place of its own
      g : ℕ → ℕ
      g d = cond (eqb d n) y (f d)

      at_end_lem : g n ≡ y
      at_end_lem = rw (eq-eqb n n refl)

      before : (d : ℕ) → d < n → g d ≡ f d
      before d h = rw (ne_eqb d n (omega arith))

      low' : (d : ℕ) → d < suc n → Dec (d ≡ n) → g d < n
      low' d h (yes e) = rw (e, at_end_lem) hy
      low' d h (no e) = rw (before d (omega arith)) (low d (omega arith))

      once' : n ≤ first test n → (d e : ℕ) → d < suc n → e < suc n → Dec (d ≡ n) → Dec (e ≡ n) → g d ≡ g e → d ≡ e
      once' h d e hd he (yes p) (yes q) z = p ∙ sym q
      once' h d e hd he (yes p) (no q) z =
          let l : e < n = omega arith in
          absurd (missed h e l (sym (before e l) ∙ (sym z ∙ (ap g p ∙ at_end_lem))))
      once' h d e hd he (no p) (yes q) z =
          let l : d < n = omega arith in
          absurd (missed h d l (sym (before d l) ∙ (z ∙ (ap g q ∙ at_end_lem))))
      once' h d e hd he (no p) (no q) z =
          let k : d < n = omega arith in
          let l : e < n = omega arith in
          once d e k l (sym (before d k) ∙ (z ∙ before e l))

      go : Dec (first test n < n) → first test n < n
      go (yes h) = h
      go (no h) =
          let l = pigeonhole (suc n) n g (λ d hd. low' d hd (ℕ_discrete d n)) (λ d e hd he. once' (omega arith) d e hd he (ℕ_discrete d n) (ℕ_discrete e n)) in
          absurd (omega arith)

  pub back_here : (d : ℕ) → d < n → back f n (f d) ≡ d
  back_here d h = let l = back_low (f d) (low d h) in once (back f n (f d)) d l h (back_there f n (f d) l)

module _ {Y Z : Layout} {f : ℕ → ℕ} {N n : ℕ} {m m' : List ℕ} (K : Carries Y Z f N n m m') where
  -- each dart of m' is f of the dart that goes to it
  pub onto : (y : ℕ) → y < n → (back f n y < n) × (f (back f n y) ≡ y)
  onto y h = let l = back_low f n K.low K.once y h in (l, back_there f n y l)

  -- a renaming is undone by a renaming
  pub carries_back : ((i d : ℕ) → i ≤ N → d < n → link Y N n m i d < n) → Carries Z Y (back f n) N n m' m
  carries_back inside = record {
    low = λ y h. (onto y h).0;
    only = λ y h. rw (back_there f n y h) at (K.low (back f n y) h);
    once = λ y z h k e. sym (onto y h).1 ∙ (ap f e ∙ (onto z k).1);
    links = λ i y hi h.
        let (l, e) = onto y h in
        let p : link Z N n m' i y ≡ f (link Y N n m i (back f n y)) = rw e at (K.links i (back f n y) hi l) in
        rw p (sym (back_here f n K.low K.once (link Y N n m i (back f n y)) (inside i (back f n y) hi l)));
  }

  -- a second renaming after it
  pub carries_then : {X : Layout} {g : ℕ → ℕ} {m2 : List ℕ} → Carries Z X g N n m' m2 → Carries Y X (λ d. g (f d)) N n m m2
  carries_then {X} {g} {m2} L = record {
    low = λ d h. L.low (f d) (K.low d h);
    only = λ d h. K.only d (L.only (f d) h);
    once = λ d e h k q. K.once d e h k (L.once (f d) (f e) (K.low d h) (K.low e k) q);
    links = λ i d hi h. L.links i (f d) hi (K.low d h) ∙ ap g (K.links i d hi h);
  }

  -- a renaming is what it does to darts
  pub carries_as : {g : ℕ → ℕ} → ((i d : ℕ) → i ≤ N → d < n → link Y N n m i d < n) → ((d : ℕ) → d < n → g d ≡ f d) → ((d : ℕ) → g d < n → d < n)
      → Carries Y Z g N n m m'
  carries_as inside e only = record {
    low = λ d h. rw (e d h) (K.low d h);
    only = only;
    once = λ d c h k q. K.once d c h k (sym (e d h) ∙ (q ∙ e c k));
    links = λ i d hi h. rw (e d h, e (link Y N n m i d) (inside i d hi h)) (K.links i d hi h);
  }

  -- what holds of m' holds of m
  inside_from : ((i d : ℕ) → i ≤ N → d < n → link Z N n m' i d < n) → (i d : ℕ) → i ≤ N → d < n → link Y N n m i d < n
  inside_from c i d hi h = K.only (link Y N n m i d) (rw (K.links i d hi h) at (c i (f d) hi (K.low d h)))

  pub closed_from : Closed Z N n m' → Closed Y N n m
  closed_from C = record {
    inside = inside_from C.inside;
    inverse = λ i d hi h.
        let l = inside_from C.inside i d hi h in
        let l2 = inside_from C.inside i (link Y N n m i d) hi l in
        K.once (link Y N n m i (link Y N n m i d)) d l2 h
        (rw (← K.links i (link Y N n m i d) hi l, ← K.links i d hi h) (C.inverse i (f d) hi (K.low d h)));
  }

  pub valid_from : Valid Z N n m' → Valid Y N n m
  valid_from A = record {
    inside = ins;
    inverse = (closed_from (valid_closed A)).inverse;
    manifold = λ i j d h hj hd.
        let hi : i ≤ N = omega arith in
        let l1 = ins i d hi hd in
        let l2 = ins j _ hj l1 in
        let l3 = ins i _ hi l2 in
        K.once _ d (ins j _ hj l3) hd
        (rw (← K.links j _ hj l3, ← K.links i _ hi l2, ← K.links j _ hj l1, ← K.links i d hi hd) (A.manifold i j (f d) h hj (K.low d hd)));
  }
    where
      ins : (i d : ℕ) → i ≤ N → d < n → link Y N n m i d < n
      ins = inside_from A.inside

  -- what is reached in m is reached in m' by the same ranks
  pub reached_to : {keep : ℕ → Bool} {d e : ℕ} → Closed Y N n m → d < n → Reached Y keep N n m d e → Reached Z keep N n m' (f d) (f e)
  reached_to C h Reached.here = Reached.here
  reached_to C h (Reached.onward {e} i hi k q) = rw (← K.links i e hi (reached_below C h q)) (Reached.onward i hi k (reached_to C h q))

-- what holds of m holds of m', by the renaming that undoes f
module _ {Y Z : Layout} {f : ℕ → ℕ} {N n : ℕ} {m m' : List ℕ} (K : Carries Y Z f N n m m') where
  pub closed_to : Closed Y N n m → Closed Z N n m'
  closed_to C = closed_from (carries_back K C.inside) C

  pub valid_to : Valid Y N n m → Valid Z N n m'
  valid_to A = valid_from (carries_back K A.inside) A

  pub reached_from : {keep : ℕ → Bool} {d e : ℕ} → Closed Y N n m → d < n → e < n → Reached Z keep N n m' (f d) (f e) → Reached Y keep N n m d e
  reached_from {keep} {d} {e} C h k q =
      rw (back_here f n K.low K.once d h, back_here f n K.low K.once e k)
      at (reached_to (carries_back K C.inside) (closed_to C) (K.low d h) q)

  pub connected_to : {root : ℕ} → Closed Y N n m → Connected Y N n m root → Connected Z N n m' (f root)
  connected_to {root} C c = record {
    rooted = K.low root c.rooted;
    reached = λ y h. let (l, e) = onto K y h in rw e at (reached_to K C c.rooted (c.reached (back f n y) l));
  }

  pub connected_from : {root : ℕ} → Closed Y N n m → Connected Z N n m' (f root) → Connected Y N n m root
  connected_from {root} C c =
      let h = K.only root c.rooted in
      record { rooted = h; reached = λ d k. reached_from C h k (c.reached (f d) (K.low d k)) }

-- equal links: no dart is renamed
abbrev pub SameLinks : Layout → Layout → ℕ → ℕ → List ℕ → List ℕ → Type 0
SameLinks Y Z N n t u = Carries Y Z (λ d. d) N n t u

pub same_links : {Y Z : Layout} {N n : ℕ} {t u : List ℕ} → ((i d : ℕ) → i ≤ N → d < n → link Y N n t i d ≡ link Z N n u i d) → SameLinks Y Z N n t u
same_links s = record { low = λ d h. h; only = λ d h. h; once = λ d e h k q. q; links = λ i d hi h. sym (s i d hi h) }

pub same_sym : {Y Z : Layout} {N n : ℕ} {t u : List ℕ} → SameLinks Y Z N n t u → SameLinks Z Y N n u t
same_sym S = same_links S.links

-- where there is no dart there is no link
pub links_same : {Y Z : Layout} {N n : ℕ} {t u : List ℕ} → SameLinks Y Z N n t u → (i d : ℕ) → i ≤ N → link Y N n t i d ≡ link Z N n u i d
links_same {Y} {Z} {N} {n} {t} {u} S i d hi = go (dec_lt d n)
  where
    go : Dec (d < n) → link Y N n t i d ≡ link Z N n u i d
    go (yes h) = sym (S.links i d hi h)
    go (no h) = link_none Y N n t i d (omega arith) ∙ sym (link_none Z N n u i d (omega arith))

-- tables alike in a map's entries have equal links
pub alike_same : {Y : Layout} {N n : ℕ} {t u : List ℕ} → Alike (size N n) t u → SameLinks Y Y N n t u
alike_same {Y} {N} {n} {t} {u} A = same_links (λ i d hi h. link_alike Y N n t u i d hi A)

-- both tables hold a map's entries, and the links are equal: the two are one map
pub record SameMap (Y Z : Layout) (N n : ℕ) (t u : List ℕ) : Type 0 where
  pub links : SameLinks Y Z N n t u
  pub room : size N n ≤ length t
  pub room' : size N n ≤ length u

-- that is, the entries are equal, and what is past them may differ
pub alike_map : {Y : Layout} {N n : ℕ} {t u : List ℕ} → size N n ≤ length t → size N n ≤ length u → Alike (size N n) t u → SameMap Y Y N n t u
alike_map h h' A = record { links = alike_same A; room = h; room' = h' }

pub map_alike : {Y : Layout} {N n : ℕ} {t u : List ℕ} → SameMap Y Y N n t u → Alike (size N n) t u
map_alike {Y} {N} {n} {t} {u} S = ext_get_or mark (take k t) (take k u) (lt ∙ sym lu) (λ p h. one p (omega (arith, lt)))
  where
    k : ℕ
    k = size N n

    lt : length (take k t) ≡ k
    lt = length-take-le k t S.room

    lu : length (take k u) ≡ k
    lu = length-take-le k u S.room'

    one : (p : ℕ) → p < k → get_or (take k t) p mark ≡ get_or (take k u) p mark
    one p h =
        let i = rank_at Y N n p in
        let d = dart_at Y N n p in
        let hd = dart_at_lem Y N n p h in
        let q : get_or t p mark ≡ get_or u p mark = rw (link_entry Y N n t i d hd, link_entry Y N n u i d hd, place_at Y N n p h) at
        (links_same S.links i d (rank_at_lem Y N n p h)) in
        get_or-take k t p mark h ∙ (q ∙ sym (get_or-take k u p mark h))
