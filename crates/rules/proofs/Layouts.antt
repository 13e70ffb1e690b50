-- Laws of `exchanged`: the positions of two layouts go to each other one-to-one, what is past the (N+1)·n entries stays, the exchange and its way back are
-- inverse, the links stay, and storing a link and blanking go along. Rests on Lists and Places.
use Prim.Native.Nat.{ℕ, ◌≤◌, ◌<◌}
use mathlib.Core.Path.{◌≡◌, ap, sym, ◌∙◌}
use mathlib.Core.Logic.{◌≢◌}
use mathlib.Core.List.{List}
use native.Mathlib.Omega.{arith}
use native.Mathlib.Decide.{ℕ_discrete, dec_lt}
use lib.ListN.{length, get_or, set, length-set}
use lib.Seq.{ext_get_or, get_or-set_same, get_or-set_other}
use borrow.Author.Tests.{lt-ltb, le-ltb}
use Rattle.rules.specs.Lists.{list_of}
use Rattle.rules.specs.Map.{Layout, mark, size, place, link, blank}
use Rattle.rules.specs.Exchange.{rank_at, dart_at, moved_place, exchanged}
use Rattle.rules.proofs.Lists.{get_d_list_of, length_list_of}
use Rattle.rules.proofs.Places.{rank_place, dart_place, place_below, rank_at_lem, dart_at_lem, place_at, link_entry, link_none, get_d_blank, get_d_past}
use Rattle.rules.proofs.Places.{blank_long}

-- tables of a layout with given links
unfoldable pub laid : Layout → ℕ → ℕ → (ℕ → ℕ → ℕ) → List ℕ
laid Y N n g = list_of (size N n) (λ p. g (rank_at Y N n p) (dart_at Y N n p))

pub link_laid : (Y : Layout) (N n : ℕ) (g : ℕ → ℕ → ℕ) (i d : ℕ) → i ≤ N → d < n → link Y N n (laid Y N n g) i d ≡ g i d
unfolding laid
link_laid Y N n g i d hi hd =
    link_entry Y N n (laid Y N n g) i d hd
    ∙ (get_d_list_of (size N n) (λ p. g (rank_at Y N n p) (dart_at Y N n p)) (place Y N n i d) mark (place_below Y N n i d hi hd)
    ∙ rw (rank_place Y N n i d hi hd, dart_place Y N n i d hi hd))

module _ (Y Z : Layout) (N n : ℕ) where
  -- within the entries a position goes to the same link's
  pub moved_in : (p : ℕ) → p < size N n → moved_place Y Z N n p ≡ place Z N n (rank_at Y N n p) (dart_at Y N n p)
  unfolding moved_place
  moved_in p h = rw (lt-ltb p (size N n) h)

  -- past them it stays
  pub moved_past : (p : ℕ) → size N n ≤ p → moved_place Y Z N n p ≡ p
  unfolding moved_place
  moved_past p h = rw (le-ltb p (size N n) h)

  pub moved_below : (p : ℕ) → p < size N n → moved_place Y Z N n p < size N n
  moved_below p h = rw (moved_in p h) (place_below Z N n (rank_at Y N n p) (dart_at Y N n p) (rank_at_lem Y N n p h) (dart_at_lem Y N n p h))

  pub moved_place_lem : (i d : ℕ) → i ≤ N → d < n → moved_place Y Z N n (place Y N n i d) ≡ place Z N n i d
  moved_place_lem i d hi hd =
      moved_in (place Y N n i d) (place_below Y N n i d hi hd) ∙ rw (rank_place Y N n i d hi hd, dart_place Y N n i d hi hd)

-- there and back
pub moved_back : (Y Z : Layout) (N n p : ℕ) → moved_place Z Y N n (moved_place Y Z N n p) ≡ p
moved_back Y Z N n p = go (dec_lt p (size N n))
  where
    go : Dec (p < size N n) → moved_place Z Y N n (moved_place Y Z N n p) ≡ p
    go (yes h) =
        ap (moved_place Z Y N n) (moved_in Y Z N n p h)
        ∙ (moved_place_lem Z Y N n (rank_at Y N n p) (dart_at Y N n p) (rank_at_lem Y N n p h) (dart_at_lem Y N n p h) ∙ place_at Y N n p h)
    go (no h) = let l : size N n ≤ p = omega arith in ap (moved_place Z Y N n) (moved_past Y Z N n p l) ∙ moved_past Z Y N n p l

-- in one layout nothing moves
pub moved_same : (Y : Layout) (N n p : ℕ) → moved_place Y Y N n p ≡ p
moved_same Y N n p = go (dec_lt p (size N n))
  where
    go : Dec (p < size N n) → moved_place Y Y N n p ≡ p
    go (yes h) = moved_in Y Y N n p h ∙ place_at Y N n p h
    go (no h) = moved_past Y Y N n p (omega arith)

module _ (Y Z : Layout) (N n : ℕ) (t : List ℕ) where
  pub length_exchanged : length (exchanged Y Z N n t) ≡ length t
  unfolding exchanged
  length_exchanged = length_list_of (length t) _

  pub entry_exchanged : (p : ℕ) → p < length t → get_or (exchanged Y Z N n t) p mark ≡ get_or t (moved_place Z Y N n p) mark
  unfolding exchanged
  entry_exchanged p h = get_d_list_of (length t) _ p mark h

  -- what is past the (N+1)·n entries is as it was
  pub past_exchanged : (p : ℕ) → size N n ≤ p → p < length t → get_or (exchanged Y Z N n t) p mark ≡ get_or t p mark
  past_exchanged p h l = entry_exchanged p l ∙ ap (λ (q : ℕ). get_or t q mark) (moved_past Z Y N n p h)

  module _ (room : size N n ≤ length t) where
    -- a position within the tables goes to one within them
    pub moved_within : (p : ℕ) → p < length t → moved_place Z Y N n p < length t
    moved_within p l = go (dec_lt p (size N n))
      where
        go : Dec (p < size N n) → moved_place Z Y N n p < length t
        go (yes h) = omega (arith, moved_below Z Y N n p h)
        go (no h) = rw (moved_past Z Y N n p (omega arith)) l

    -- each link is what it was
    pub link_exchanged : (i d : ℕ) → i ≤ N → link Z N n (exchanged Y Z N n t) i d ≡ link Y N n t i d
    link_exchanged i d hi = go (dec_lt d n)
      where
        go : Dec (d < n) → link Z N n (exchanged Y Z N n t) i d ≡ link Y N n t i d
        go (yes hd) =
            link_entry Z N n (exchanged Y Z N n t) i d hd
            ∙ (entry_exchanged (place Z N n i d) (omega (arith, place_below Z N n i d hi hd))
            ∙ (ap (λ (q : ℕ). get_or t q mark) (moved_place_lem Z Y N n i d hi hd) ∙ sym (link_entry Y N n t i d hd)))
        go (no hd) = link_none Z N n (exchanged Y Z N n t) i d (omega arith) ∙ sym (link_none Y N n t i d (omega arith))

    -- storing a link goes along
    pub set_exchanged : (i d v : ℕ) → i ≤ N → d < n → exchanged Y Z N n (set t (place Y N n i d) v) ≡ set (exchanged Y Z N n t) (place Z N n i d) v
    set_exchanged i d v hi hd = ext_get_or mark left right (ll ∙ sym lr) (λ p h. entry p (omega (arith, ll)) (ℕ_discrete p (place Z N n i d)))
      where
        q : ℕ
        q = place Y N n i d

        left : List ℕ
        left = exchanged Y Z N n (set t q v)

        right : List ℕ
        right = set (exchanged Y Z N n t) (place Z N n i d) v

        ll : length left ≡ length t
        ll = length_exchanged' ∙ length-set t q v
          where
            length_exchanged' : length left ≡ length (set t q v)
            length_exchanged' = unfold exchanged in length_list_of (length (set t q v)) (λ p. get_or (set t q v) (moved_place Z Y N n p) mark)

        lr : length right ≡ length t
        lr = length-set (exchanged Y Z N n t) (place Z N n i d) v ∙ length_exchanged

        at : (p : ℕ) → p < length t → get_or left p mark ≡ get_or (set t q v) (moved_place Z Y N n p) mark
        at p h = unfold exchanged in get_d_list_of (length (set t q v)) (λ p. get_or (set t q v) (moved_place Z Y N n p) mark) p mark
            (omega (arith, length-set t q v))

        entry : (p : ℕ) → p < length t → Dec (p ≡ place Z N n i d) → get_or left p mark ≡ get_or right p mark
        entry p h (yes e) =
            let m : moved_place Z Y N n p ≡ q = ap (moved_place Z Y N n) e ∙ moved_place_lem Z Y N n i d hi hd in
            let l : q < length t = omega (arith, place_below Y N n i d hi hd) in
            let l' : place Z N n i d < length (exchanged Y Z N n t) = omega (arith, length_exchanged) in
            let a : get_or (set t q v) (moved_place Z Y N n p) mark ≡ v = rw m (get_or-set_same t q v mark l) in
            let b : get_or right p mark ≡ v = rw e (get_or-set_same (exchanged Y Z N n t) (place Z N n i d) v mark l') in
            at p h ∙ (a ∙ sym b)
        entry p h (no e) =
            let m : moved_place Z Y N n p ≢ q = λ z. e (sym (moved_back Z Y N n p) ∙ (ap (moved_place Y Z N n) z ∙ moved_place_lem Y Z N n i d hi hd)) in
            at p h ∙ (get_or-set_other t q (moved_place Z Y N n p) v mark m
            ∙ (sym (entry_exchanged p h) ∙ sym (get_or-set_other (exchanged Y Z N n t) (place Z N n i d) p v mark e)))

-- the exchange and its way back are inverse
pub exchanged_back : (Y Z : Layout) (N n : ℕ) (t : List ℕ) → size N n ≤ length t → exchanged Z Y N n (exchanged Y Z N n t) ≡ t
exchanged_back Y Z N n t room = ext_get_or mark (exchanged Z Y N n u) t (length_exchanged Z Y N n u ∙ lu)
    (λ p h. entry p (omega (arith, length_exchanged Z Y N n u, lu)))
  where
    u : List ℕ
    u = exchanged Y Z N n t

    lu : length u ≡ length t
    lu = length_exchanged Y Z N n t

    entry : (p : ℕ) → p < length t → get_or (exchanged Z Y N n u) p mark ≡ get_or t p mark
    entry p h =
        entry_exchanged Z Y N n u p (omega (arith, lu))
        ∙ (entry_exchanged Y Z N n t (moved_place Y Z N n p) (moved_within Z Y N n t room p h)
        ∙ ap (λ (q : ℕ). get_or t q mark) (moved_back Y Z N n p))

-- blanking goes along
pub blank_exchanged : (Y Z : Layout) (N n : ℕ) (t : List ℕ) → size N n ≤ length t
    → exchanged Y Z N n (blank (size N n) t) ≡ blank (size N n) (exchanged Y Z N n t)
blank_exchanged Y Z N n t room = ext_get_or mark left right (ll ∙ sym lr) (λ p h. entry p (omega (arith, ll)) (dec_lt p k))
  where
    k : ℕ
    k = size N n

    u : List ℕ
    u = exchanged Y Z N n t

    left : List ℕ
    left = exchanged Y Z N n (blank k t)

    right : List ℕ
    right = blank k u

    ll : length left ≡ length t
    ll = length_exchanged Y Z N n (blank k t) ∙ blank_long k t room

    lr : length right ≡ length t
    lr = blank_long k u (omega (arith, length_exchanged Y Z N n t)) ∙ length_exchanged Y Z N n t

    entry : (p : ℕ) → p < length t → Dec (p < k) → get_or left p mark ≡ get_or right p mark
    entry p h (yes b) =
        entry_exchanged Y Z N n (blank k t) p (omega (arith, blank_long k t room))
        ∙ (get_d_blank k t (moved_place Z Y N n p) (moved_below Z Y N n p b) ∙ sym (get_d_blank k u p b))
    entry p h (no b) =
        let l : k ≤ p = omega arith in
        past_exchanged Y Z N n (blank k t) p l (omega (arith, blank_long k t room))
        ∙ (get_d_past k t p l ∙ (sym (past_exchanged Y Z N n t p l h) ∙ sym (get_d_past k u p l)))
