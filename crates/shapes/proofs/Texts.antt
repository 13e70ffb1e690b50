-- Document 02, E5, "26 word or number malformed or missing, tested over the whole text first, place its first byte or the text's length": what a face file is,
-- said by the words of a text with no reader in it. A text is refused by 26 exactly where it has a fault, and else what stands in it is read. Rests on Lists.
use Prim.Native.Nat.{ℕ, zero, suc, ◌+◌, ◌*◌, ◌-◌, ◌≤◌, ◌<◌}
use mathlib.Core.Path.{◌≡◌, refl, ap, sym, ◌∙◌}
use mathlib.Core.Logic.{◌≢◌, ◌⊎◌, inl, inr}
use mathlib.Core.Bool.{Bool, true, false, not, ◌&&◌, ◌||◌}
use mathlib.Core.List.{List, [], ◌∷◌, ◌++◌, append-nil, append_assoc}
use native.Mathlib.Omega.{arith}
use native.Mathlib.Decide.{ℕ_discrete, dec_lt}
use lib.ListN.{length, get_or}
use lib.Dec.{eqb, leb}
use borrow.Author.Tests.{eqb-true, leb-true, eqb-false, eq-eqb, ne_eqb, lt-ltb, le-ltb, le-leb, not-true, not-false}
use Rattle.rules.specs.Lists.{scan, all_below}
use Rattle.rules.specs.Map.{Layout}
use Rattle.shapes.specs.Text.{is_blank, commented, gap, word_from, word_end, line_end, Read, bad, good, next, provided, word, keyword, is_digit, value, number}
use Rattle.shapes.specs.Text.{several, face, File, file}
use Rattle.shapes.specs.Faces.{corners_of, read_verdict, faces_answer, faces_tables, faces_work}
use Rattle.rules.proofs.Lists.{and_left, and_right, or_left, or_right, not_both, all_below_lem, below_all, Scanned, scanned}

-- what is wanted next, with what was read and how many of its sort are left: the word OFF; the counts of vertices, faces and edges; words of vertices; faces;
-- corners of a face, with the faces before it, how many faces are left after it, and its own corners so far; nothing more
pub data Stage : Type 0 where
  off_word : Stage
  vertex_count : Stage
  face_count : (vertices : ℕ) → Stage
  edge_count : (vertices faces : ℕ) → Stage
  vertex_words : (vertices faces left : ℕ) → Stage
  faces : (vertices : ℕ) (before : List (List ℕ)) (left : ℕ) → Stage
  corners : (vertices : ℕ) (before : List (List ℕ)) (after : ℕ) (own : List ℕ) (left : ℕ) → Stage
  nothing : (vertices : ℕ) (all : List (List ℕ)) → Stage

-- what a word may have to be: any word, the word OFF, a number
pub data Kind : Type 0 where
  a_word : Kind
  off : Kind
  a_number : Kind

-- the stage wants a word of this kind, and one that says x leads to the stage `then x`: "the word OFF, counts of vertices, faces and edges", "Each vertex is
-- three blank-separated words, passed over", "faces as a corner count and vertex numbers"; where none of its sort is left a stage wants no word
pub data Wants : Stage → Kind → (ℕ → Stage) → Type 0 where
  at_off : Wants off_word off (λ x. vertex_count)
  at_vertex_count : Wants vertex_count a_number (λ x. face_count x)
  at_face_count : {v : ℕ} → Wants (face_count v) a_number (λ x. edge_count v x)
  at_edge_count : {v f : ℕ} → Wants (edge_count v f) a_number (λ x. vertex_words v f (3 * v))
  at_vertex_word : {v f k : ℕ} → Wants (vertex_words v f (suc k)) a_word (λ x. vertex_words v f k)
  at_face : {v k : ℕ} {fs : List (List ℕ)} → Wants (faces v fs (suc k)) a_number (λ x. corners v fs k [] x)
  at_corner : {v k n : ℕ} {fs : List (List ℕ)} {vs : List ℕ} → Wants (corners v fs k vs (suc n)) a_number (λ x. corners v fs k (vs ++ (x ∷ [])) n)

module _ (t : List ℕ) where
  -- byte k is of a comment: "# starts a comment to the line's end", so a byte after one of a comment is of it unless it is LF
  pub data Comment : ℕ → Type 0 where
    hash : {k : ℕ} → get_or t k 0 ≡ 35 → Comment k
    goes_on : {k : ℕ} → Comment k → get_or t (suc k) 0 ≢ 10 → Comment (suc k)

  -- byte k is of no word: it is of a comment or a blank, "Blanks are space, tab, CR and LF"
  pub data Gap (k : ℕ) : Type 0 where
    comment : Comment k → Gap k
    space : get_or t k 0 ≡ 32 → Gap k
    tab : get_or t k 0 ≡ 9 → Gap k
    cr : get_or t k 0 ≡ 13 → Gap k
    lf : get_or t k 0 ≡ 10 → Gap k

  -- a word, from its first byte w up to e: it is not empty, no gap is in it, and a gap or nothing is before and after it
  pub record Word (w e : ℕ) : Type 0 where
    pub some : w < e
    pub within : e ≤ length t
    pub whole : (i : ℕ) → w ≤ i → i < e → ¬ Gap i
    pub begins : (i : ℕ) → suc i ≡ w → Gap i
    pub ends : e < length t → Gap e

  -- the next word from p on: only gaps are before it
  pub record Ahead (p w e : ℕ) : Type 0 where
    pub from : p ≤ w
    pub gaps : (i : ℕ) → p ≤ i → i < w → Gap i
    pub is : Word w e

  -- no word from p on: only gaps
  abbrev pub Bare : ℕ → Type 0
  Bare p = (i : ℕ) → p ≤ i → i < length t → Gap i

  -- the k bytes from w on are decimal digits and write x: with one digit more it is ten times as much and the digit
  pub data Decimal (w : ℕ) : (k x : ℕ) → Type 0 where
    no_digit : Decimal w 0 0
    one_more : {k x d : ℕ} → Decimal w k x → d ≤ 9 → get_or t (w + k) 0 ≡ 48 + d → Decimal w (suc k) (x * 10 + d)

  -- the word from w up to e is of the kind and says x, a number what its digits write, another word no more than its place: any word; the three bytes OFF;
  -- "Numbers have one to nine decimal digits" (a word has one byte at least)
  pub data Says : Kind → ℕ → ℕ → ℕ → Type 0 where
    is_word : {w e : ℕ} → Says a_word w e w
    is_off : {w e : ℕ} → e ≡ w + 3 → get_or t w 0 ≡ 79 → get_or t (w + 1) 0 ≡ 70 → get_or t (w + 2) 0 ≡ 70 → Says off w e w
    is_number : {w e k x : ℕ} → e ≡ w + k → k ≤ 9 → Decimal w k x → Says a_number w e x

  -- the line from p on ends at q: "lines end at LF", or where the text does
  pub record LineEnd (p q : ℕ) : Type 0 where
    pub from : p ≤ q
    pub within : q ≤ length t
    pub before : (i : ℕ) → p ≤ i → i < q → get_or t i 0 ≢ 10
    pub ends : q < length t → get_or t q 0 ≡ 10

  -- the text is good up to p, and there the stage stands: a good word leads on to its end; after the vertices come the faces; passed over are "the rest of a
  -- line after a face's last corner and text after the last face"
  pub data Stands : Stage → ℕ → Type 0 where
    start : Stands off_word 0
    reads : {s : Stage} {k : Kind} {then : ℕ → Stage} {p w e x : ℕ} → Wants s k then → Stands s p → Ahead p w e → Says k w e x → Stands (then x) e
    last_vertex : {v f p : ℕ} → Stands (vertex_words v f 0) p → Stands (faces v [] f) p
    last_corner : {v k p q : ℕ} {fs : List (List ℕ)} {vs : List ℕ} → Stands (corners v fs k vs 0) p → LineEnd p q → Stands (faces v (fs ++ (vs ∷ [])) k) q
    last_face : {v p : ℕ} {fs : List (List ℕ)} → Stands (faces v fs 0) p → Stands (nothing v fs) p

  -- the stage wants a word from p on, and that is missing, place "the text's length", or malformed, place "its first byte"
  pub data Fault (s : Stage) (p : ℕ) : ℕ → Type 0 where
    missing : {k : Kind} {then : ℕ → Stage} → Wants s k then → Bare p → Fault s p (length t)
    malformed : {k : Kind} {then : ℕ → Stage} {w e : ℕ} → Wants s k then → Ahead p w e → ((x : ℕ) → ¬ Says k w e x) → Fault s p w

  -- gaps are the definition's
  commented_is : (k : ℕ) → commented t k ≡ true → Comment k
  unfolding commented
  commented_is zero q = hash (eqb-true (get_or t 0 0) 35 q)
  commented_is (suc k) q = go (commented_is k) (eqb (get_or t (suc k) 0) 35) (eqb (get_or t (suc k) 0) 10) refl refl q
    where
      go : (commented t k ≡ true → Comment k) → (a b : Bool) → eqb (get_or t (suc k) 0) 35 ≡ a → eqb (get_or t (suc k) 0) 10 ≡ b
          → (a || (not b && commented t k)) ≡ true → Comment (suc k)
      go rec true b x y q = hash (eqb-true (get_or t (suc k) 0) 35 x)
      go rec false true x y q = let z : ◌≡◌ {A = ℕ} 0 1 = cc in absurd (omega arith)
      go rec false false x y q = goes_on (rec q) (eqb-false (get_or t (suc k) 0) 10 y)

  is_commented : (k : ℕ) → Comment k → commented t k ≡ true
  unfolding commented
  is_commented zero (hash q) = eq-eqb (get_or t 0 0) 35 q
  is_commented (suc k) (hash q) = or_left (eqb (get_or t (suc k) 0) 35) _ (eq-eqb (get_or t (suc k) 0) 35 q)
  is_commented (suc k) (goes_on c n) = rw (is_commented k c, ne_eqb (get_or t (suc k) 0) 10 n) (or_right (eqb (get_or t (suc k) 0) 35) true refl)

  gap_is : (k : ℕ) → gap t k ≡ true → Gap k
  unfolding gap is_blank
  gap_is k q = go (commented t k) (eqb (get_or t k 0) 32) (eqb (get_or t k 0) 9) (eqb (get_or t k 0) 13) refl refl refl refl q
    where
      go : (a b c d : Bool) → commented t k ≡ a → eqb (get_or t k 0) 32 ≡ b → eqb (get_or t k 0) 9 ≡ c → eqb (get_or t k 0) 13 ≡ d
          → (a || (b || (c || (d || eqb (get_or t k 0) 10)))) ≡ true → Gap k
      go true b c d x y z u q = comment (commented_is k x)
      go false true c d x y z u q = space (eqb-true (get_or t k 0) 32 y)
      go false false true d x y z u q = tab (eqb-true (get_or t k 0) 9 z)
      go false false false true x y z u q = cr (eqb-true (get_or t k 0) 13 u)
      go false false false false x y z u q = lf (eqb-true (get_or t k 0) 10 q)

  is_gap : (k : ℕ) → Gap k → gap t k ≡ true
  unfolding gap is_blank
  is_gap k (comment c) = rw (is_commented k c)
  is_gap k (space e) = rw e (or_right (commented t k) true refl)
  is_gap k (tab e) = rw e (or_right (commented t k) true refl)
  is_gap k (cr e) = rw e (or_right (commented t k) true refl)
  is_gap k (lf e) = rw e (or_right (commented t k) true refl)

  no_gap : (k : ℕ) → ¬ Gap k → gap t k ≡ false
  no_gap k n = go (gap t k) refl
    where
      go : (b : Bool) → gap t k ≡ b → gap t k ≡ false
      go true q = absurd (n (gap_is k q))
      go false q = q

  -- a search comes to r where all before r fail, and r passes or is the end; so what is read from p on is the word ahead, or that there is none
  scan_is : (f : ℕ → Bool) (a r : ℕ) → a ≤ r → r ≤ length t → ((i : ℕ) → a ≤ i → i < r → f i ≡ false) → (r < length t → f r ≡ true)
      → scan f (length t - a) a ≡ r
  scan_is f a r h l b p = go (scan f (length t - a) a) (scanned f (length t - a) a)
    where
      go : (r' : ℕ) → Scanned f a (length t - a) r' → r' ≡ r
      go r' s = on (dec_lt r' r) (dec_lt r r')
        where
          on : Dec (r' < r) → Dec (r < r') → r' ≡ r
          on (yes x) y = absurd (not_both (f r') (s.passes (omega arith)) (b r' s.from x))
          on (no x) (yes y) = absurd (not_both (f r) (p (omega (arith, s.up_to))) (s.before r h y))
          on (no x) (no y) = omega arith

  word_ahead : {p w e : ℕ} → Ahead p w e → word t p ≡ good w e
  unfolding word word_from word_end provided
  word_ahead {p} {w} {e} a =
      let h = a.is in
      let l : w < length t = omega (arith, h.some, h.within) in
      let n = no_gap w (h.whole w (omega arith) h.some) in
      let x = scan_is (λ k. not (gap t k)) p w a.from (omega arith) (λ i x y. ap not (is_gap i (a.gaps i x y))) (λ l. ap not n) in
      let y = scan_is (gap t) w e (omega (arith, h.some)) h.within (λ i x y. no_gap i (h.whole i x y)) (λ l. is_gap e (h.ends l)) in
      rw (x, y, lt-ltb w (length t) l)

  word_bare : (p : ℕ) → p ≤ length t → Bare p → word t p ≡ bad (length t)
  unfolding word word_from provided
  word_bare p h b =
      let x = scan_is (λ k. not (gap t k)) p (length t) h (omega arith) (λ i x y. ap not (is_gap i (b i x y))) (λ l. absurd (omega arith)) in
      rw (x, le-ltb (length t) (length t) (omega arith))

  line_is : {p q : ℕ} → LineEnd p q → line_end t p ≡ q
  unfolding line_end
  line_is {p} {q} l =
      scan_is (λ k. eqb (get_or t k 0) 10) p q l.from l.within (λ i x y. ne_eqb (get_or t i 0) 10 (l.before i x y))
      (λ h. eq-eqb (get_or t q 0) 10 (l.ends h))

  is_line : (p : ℕ) → p ≤ length t → LineEnd p (line_end t p)
  unfolding line_end
  is_line p h =
      let s = scanned (λ k. eqb (get_or t k 0) 10) (length t - p) p in
      record {
        from = s.from;
        within = omega (arith, s.up_to);
        before = λ i x y. eqb-false (get_or t i 0) 10 (s.before i x y);
        ends = λ l. eqb-true (get_or t (line_end t p) 0) 10 (s.passes (omega arith));
      }

  -- p is within the text, and no word goes on there
  record Clear (p : ℕ) : Type 0 where
    within : p ≤ length t
    fresh : (p ≡ 0) ⊎ (p < length t → Gap p)

  clear : {s : Stage} {p : ℕ} → Stands s p → Clear p
  clear start = record { within = omega arith; fresh = inl refl }
  clear (reads n s a g) = record { within = a.is.within; fresh = inr a.is.ends }
  clear (last_vertex s) = clear s
  clear (last_corner s l) = record { within = l.within; fresh = inr (λ h. lf (l.ends h)) }
  clear (last_face s) = clear s

  -- from there on is no word, or a next one
  look : (p : ℕ) → Clear p → Bare p ⊎ ((w : ℕ) × (e : ℕ) × Ahead p w e)
  look p c = first_byte (word_from t p) (unfold word_from in scanned (λ k. not (gap t k)) (length t - p) p)
    where
      first_byte : (w : ℕ) → Scanned (λ k. not (gap t k)) p (length t - p) w → Bare p ⊎ ((w : ℕ) × (e : ℕ) × Ahead p w e)
      first_byte w s = go (dec_lt w (length t))
        where
          gaps : (i : ℕ) → p ≤ i → i < w → Gap i
          gaps i x y = gap_is i (not-false (gap t i) (s.before i x y))

          go : Dec (w < length t) → Bare p ⊎ ((w : ℕ) × (e : ℕ) × Ahead p w e)
          go (no l) = inl (λ i x y. gaps i x (omega arith))
          go (yes l) =
              let h = ended (word_end t w) (unfold word_end in scanned (gap t) (length t - w) w) in
              inr (w, word_end t w, record { from = s.from; gaps = gaps; is = h })
            where
              letter : gap t w ≡ false
              letter = not-true (gap t w) (s.passes (omega arith))

              begins : (i : ℕ) → suc i ≡ w → Dec (i < p) → (p ≡ 0) ⊎ (p < length t → Gap p) → Gap i
              begins i q (no x) f = gaps i (omega arith) (omega arith)
              begins i q (yes x) (inl f) = absurd (omega (arith, s.from))
              begins i q (yes x) (inr f) = let z : p ≡ w = omega (arith, s.from) in absurd (not_both (gap t w) (rw z at (is_gap p (f (omega arith)))) letter)

              ended : (e : ℕ) → Scanned (gap t) w (length t - w) e → Word w e
              ended e r = record {
                some = some (dec_lt w e);
                within = omega (arith, r.up_to);
                whole = λ i x y g. not_both (gap t i) (is_gap i g) (r.before i x y);
                begins = λ i q. begins i q (dec_lt i p) c.fresh;
                ends = λ x. gap_is e (r.passes (omega arith));
              }
                where
                  some : Dec (w < e) → w < e
                  some (yes x) = x
                  some (no x) = let z : e ≡ w = omega (arith, r.from) in absurd (not_both (gap t w) (rw z at (r.passes (omega arith))) letter)

  -- the tests of a word, and what is read of it
  abbrev off_test : ℕ → ℕ → Bool
  off_test w e = eqb (e - w) 3 && (eqb (get_or t w 0) 79 && (eqb (get_or t (w + 1) 0) 70 && eqb (get_or t (w + 2) 0) 70))

  abbrev number_test : ℕ → ℕ → Bool
  number_test w e = leb (e - w) 9 && all_below (e - w) (λ k. is_digit (get_or t (w + k) 0))

  unfoldable said : Kind → ℕ → ℕ → Read ℕ
  said a_word w e = good w e
  said off w e = provided (off_test w e) w (good w e)
  said a_number w e = provided (number_test w e) w (good (value t w (e - w)) e)

  -- digits, and what they write
  decimal_digit : {w k x : ℕ} → Decimal w k x → (i : ℕ) → i < k → is_digit (get_or t (w + i) 0) ≡ true
  unfolding is_digit
  decimal_digit no_digit i h = absurd (omega arith)
  decimal_digit {w} (one_more {k} {x} {d} r l e) i h = go (ℕ_discrete i k) (λ o. decimal_digit r i o)
    where
      go : Dec (i ≡ k) → (i < k → is_digit (get_or t (w + i) 0) ≡ true) → is_digit (get_or t (w + i) 0) ≡ true
      go (yes q) rec = rw (q, e, le-leb 48 (48 + d) (omega arith), le-leb (48 + d) 57 (omega arith))
      go (no q) rec = rec (omega arith)

  decimal_value : {w k x : ℕ} → Decimal w k x → value t w k ≡ x
  unfolding value
  decimal_value no_digit = refl
  decimal_value {w} (one_more {k} {x} {d} r l e) = let z : 48 + d - 48 ≡ d = omega arith in rw (decimal_value r, e, z)

  value_decimal : (w k : ℕ) → ((i : ℕ) → i < k → is_digit (get_or t (w + i) 0) ≡ true) → Decimal w k (value t w k)
  unfolding value is_digit
  value_decimal w zero h = no_digit
  value_decimal w (suc k) h =
      let d = h k (omega arith) in
      let b = get_or t (w + k) 0 in
      let l = leb-true 48 b (and_left (leb 48 b) (leb b 57) d) in
      let m = leb-true b 57 (and_right (leb 48 b) (leb b 57) d) in
      one_more {d = b - 48} (value_decimal w k (λ i o. h i (omega arith))) (omega arith) (omega arith)

  says_said : {k : Kind} {w e x : ℕ} → Says k w e x → said k w e ≡ good x e
  unfolding said provided
  says_said is_word = refl
  says_said (is_off {w} {e} z a b c) = let y : e - w ≡ 3 = omega arith in rw (y, a, b, c)
  says_said (is_number {w} {e} {k} {x} z h d) =
      let y : e - w ≡ k = omega arith in
      rw (y, le-leb k 9 h, below_all k (λ i. is_digit (get_or t (w + i) 0)) (decimal_digit d), decimal_value d)

  -- a word says something of its kind, or it is malformed
  data Judged (k : Kind) (w e : ℕ) : Read ℕ → Type 0 where
    fit : (x : ℕ) → Says k w e x → Judged k w e (good x e)
    unfit : ((x : ℕ) → ¬ Says k w e x) → Judged k w e (bad w)

  judged : (k : Kind) (w e : ℕ) → w < e → Judged k w e (said k w e)
  unfolding said provided
  judged a_word w e h = fit w is_word
  judged off w e h = go (off_test w e) refl
    where
      go : (b : Bool) → off_test w e ≡ b → Judged off w e (provided b w (good w e))
      go false q = unfit (λ x g. let r = rw q at (says_said g) in let z : ◌≡◌ {A = ℕ} 0 1 = cc in omega arith)
      go true q =
          let r = and_right (eqb (e - w) 3) _ q in
          let u = and_right (eqb (get_or t w 0) 79) _ r in
          let z = eqb-true (e - w) 3 (and_left (eqb (e - w) 3) _ q) in
          let three : e ≡ w + 3 = omega arith in
          let f = eqb (get_or t (w + 1) 0) 70 in
          fit w (is_off three (eqb-true (get_or t w 0) 79 (and_left (eqb (get_or t w 0) 79) _ r)) (eqb-true (get_or t (w + 1) 0) 70 (and_left f _ u))
          (eqb-true (get_or t (w + 2) 0) 70 (and_right f _ u)))
  judged a_number w e h = go (number_test w e) refl
    where
      go : (b : Bool) → number_test w e ≡ b → Judged a_number w e (provided b w (good (value t w (e - w)) e))
      go false q = unfit (λ x g. let r = rw q at (says_said g) in let z : ◌≡◌ {A = ℕ} 0 1 = cc in omega arith)
      go true q =
          let l = leb-true (e - w) 9 (and_left (leb (e - w) 9) _ q) in
          let z : e ≡ w + (e - w) = omega arith in
          let d = all_below_lem (e - w) (λ k. is_digit (get_or t (w + k) 0)) (and_right (leb (e - w) 9) _ q) in
          fit (value t w (e - w)) (is_number z l (value_decimal w (e - w) d))

  -- readings one after another
  next_next : {A B C : Type 0} (r : Read A) (f : A → ℕ → Read B) (g : B → ℕ → Read C) → next (next r f) g ≡ next r (λ a p. next (f a p) g)
  unfolding next
  next_next (bad w) f g = refl
  next_next (good a p) f g = refl

  next_same : {A B : Type 0} (r : Read A) (f g : A → ℕ → Read B) → ((a : A) (p : ℕ) → f a p ≡ g a p) → next r f ≡ next r g
  unfolding next
  next_same (bad w) f g h = refl
  next_same (good a p) f g h = h a p

  next_several : {A B : Type 0} (read : ℕ → Read A) (k p : ℕ) (f : List A → ℕ → Read B)
      → next (several read (suc k) p) f ≡ next (read p) (λ x e. next (several read k e) (λ xs q. f (x ∷ xs) q))
  unfolding several next
  next_several read k p f = next_next (read p) _ f ∙ next_same (read p) _ _ (λ x e. next_next (several read k e) (λ xs q. good (x ∷ xs) q) f)

  -- what is left to read from a stage on
  unfoldable faces_left : ℕ → List (List ℕ) → ℕ → ℕ → Read File
  faces_left v fs k p = next (several (face t) k p) (λ gs x. good (record { vertices = v; faces = fs ++ gs }) x)

  unfoldable words_left : ℕ → ℕ → ℕ → ℕ → Read File
  words_left v f k p = next (several (word t) k p) (λ ws q. faces_left v [] f q)

  unfoldable left : Stage → ℕ → Read File
  left off_word p = next (keyword t p) (λ w p. next (number t p) (λ v q. next (number t q) (λ f r. next (number t r) (λ e s. words_left v f (3 * v) s))))
  left vertex_count p = next (number t p) (λ v q. next (number t q) (λ f r. next (number t r) (λ e s. words_left v f (3 * v) s)))
  left (face_count v) p = next (number t p) (λ f r. next (number t r) (λ e s. words_left v f (3 * v) s))
  left (edge_count v f) p = next (number t p) (λ e s. words_left v f (3 * v) s)
  left (vertex_words v f k) p = words_left v f k p
  left (faces v fs k) p = faces_left v fs k p
  left (corners v fs k vs n) p = next (several (number t) n p) (λ ws q. faces_left v (fs ++ ((vs ++ ws) ∷ [])) k (line_end t q))
  left (nothing v fs) p = good (record { vertices = v; faces = fs }) p

  -- a stage that wants a word reads it
  left_reads : {s : Stage} {k : Kind} {then : ℕ → Stage} → Wants s k then → (p : ℕ)
      → left s p ≡ next (word t p) (λ w e. next (said k w e) (λ x q. left (then x) q))
  unfolding left said faces_left words_left keyword number face next
  left_reads at_off p = next_next (word t p) _ _
  left_reads at_vertex_count p = next_next (word t p) _ _
  left_reads at_face_count p = next_next (word t p) _ _
  left_reads at_edge_count p = next_next (word t p) _ _
  left_reads (at_vertex_word {v} {f} {k}) p = next_several (word t) k p (λ ws q. faces_left v [] f q)
  left_reads (at_face {v} {k} {fs}) p =
      next_several (face t) k p (λ gs x. good (record { vertices = v; faces = fs ++ gs }) x) ∙ next_next (number t p) _ _ ∙ next_same (number t p) _ _ (λ n e.
      next_next (several (number t) n e) _ _ ∙ next_same (several (number t) n e) _ _ (λ vs q. next_same (several (face t) k (line_end t q)) _ _ (λ gs x.
      ap (λ (l : List (List ℕ)). good (record { vertices = v; faces = l }) x) (sym (append_assoc fs (vs ∷ []) gs))))) ∙ next_next (word t p) _ _
  left_reads (at_corner {v} {k} {n} {fs} {vs}) p =
      next_several (number t) n p (λ ws q. faces_left v (fs ++ ((vs ++ ws) ∷ [])) k (line_end t q)) ∙ next_same (number t p) _ _ (λ c e.
      next_same (several (number t) n e) _ _ (λ ws q. ap (λ (l : List ℕ). faces_left v (fs ++ (l ∷ [])) k (line_end t q)) (sym (append_assoc vs (c ∷ []) ws))))
      ∙ next_next (word t p) _ _

  left_corner : (v k p : ℕ) (fs : List (List ℕ)) (vs : List ℕ) → left (corners v fs k vs 0) p ≡ left (faces v (fs ++ (vs ∷ [])) k) (line_end t p)
  unfolding left several next
  left_corner v k p fs vs = ap (λ (l : List ℕ). faces_left v (fs ++ (l ∷ [])) k (line_end t p)) (append-nil vs)

  left_face : (v p : ℕ) (fs : List (List ℕ)) → left (faces v fs 0) p ≡ left (nothing v fs) p
  unfolding left faces_left several next
  left_face v p fs = ap (λ (l : List (List ℕ)). good (record { vertices = v; faces = l }) p) (append-nil fs)

  -- where a stage stands the file is what is left to read
  stands_left : {s : Stage} {p : ℕ} → Stands s p → file t ≡ left s p
  unfolding file left faces_left words_left several next
  stands_left start = refl
  stands_left (reads {p = p} n s a g) = stands_left s ∙ left_reads n p ∙ rw (word_ahead a, says_said g)
  stands_left (last_vertex s) = stands_left s
  stands_left (last_corner {v} {k} {p} {q} {fs} {vs} s l) =
      stands_left s ∙ left_corner v k p fs vs ∙ ap (λ (x : ℕ). left (faces v (fs ++ (vs ∷ [])) k) x) (line_is l)
  stands_left (last_face {v} {p} {fs} s) = stands_left s ∙ left_face v p fs

  -- a text has a fault, or all of it stands
  data Told : Read File → Type 0 where
    faulty : {s : Stage} {p w : ℕ} → Stands s p → Fault s p w → Told (bad w)
    fine : {v p : ℕ} {fs : List (List ℕ)} → Stands (nothing v fs) p → Told (good (record { vertices = v; faces = fs }) p)

  told_reads : {s : Stage} {k : Kind} {then : ℕ → Stage} {p : ℕ} → Wants s k then → ((x e : ℕ) → Stands (then x) e → Told (left (then x) e))
      → Stands s p → Told (left s p)
  unfolding next
  told_reads {k = k} {then = then} {p = p} n f s = rw (left_reads n p) (go (look p (clear s)))
    where
      go : Bare p ⊎ ((w : ℕ) × (e : ℕ) × Ahead p w e) → Told (next (word t p) (λ w e. next (said k w e) (λ x q. left (then x) q)))
      go (inl b) = rw (word_bare p (clear s).within b) (faulty s (missing n b))
      go (inr (w, e, a)) = rw (word_ahead a) (on (said k w e) (judged k w e a.is.some))
        where
          on : (r : Read ℕ) → Judged k w e r → Told (next r (λ x e. left (then x) e))
          on r (fit x g) = f x e (reads n s a g)
          on r (unfit g) = faulty s (malformed n a g)

  told_corners : (v k n : ℕ) (fs : List (List ℕ)) (vs : List ℕ) → ((q : ℕ) (gs : List (List ℕ)) → Stands (faces v gs k) q → Told (left (faces v gs k) q))
      → (p : ℕ) → Stands (corners v fs k vs n) p → Told (left (corners v fs k vs n) p)
  told_corners v k zero fs vs r p s = rw (left_corner v k p fs vs) (r (line_end t p) (fs ++ (vs ∷ [])) (last_corner s (is_line p (clear s).within)))
  told_corners v k (suc n) fs vs r p s = told_reads at_corner (λ c. told_corners v k n fs (vs ++ (c ∷ [])) r) s

  told_faces : (v k p : ℕ) (fs : List (List ℕ)) → Stands (faces v fs k) p → Told (left (faces v fs k) p)
  unfolding left
  told_faces v zero p fs s = rw (left_face v p fs) (fine (last_face s))
  told_faces v (suc k) p fs s = told_reads at_face (λ n. told_corners v k n fs [] (told_faces v k)) s

  told_words : (v f k p : ℕ) → Stands (vertex_words v f k) p → Told (left (vertex_words v f k) p)
  unfolding left words_left several next
  told_words v f zero p s = told_faces v f p [] (last_vertex s)
  told_words v f (suc k) p s = told_reads at_vertex_word (λ x. told_words v f k) s

  told : Told (file t)
  unfolding file left faces_left words_left
  told = told_reads at_off
      (λ x e. told_reads at_vertex_count (λ v e. told_reads at_face_count (λ f e. told_reads at_edge_count (λ x. told_words v f (3 * v))))) start

  -- 26 is a fault of the text, and its place is the fault's
  pub bad_fault : (w : ℕ) → file t ≡ bad w → (s : Stage) × (p : ℕ) × Stands s p × Fault s p w
  bad_fault w q = go (file t) told q
    where
      go : (r : Read File) → Told r → r ≡ bad w → (s : Stage) × (p : ℕ) × Stands s p × Fault s p w
      go r (faulty {s = s} {p = p} {w = x} S F) q = let z : x ≡ w = cc in (s, p, S, rw z at F)
      go r (fine S) q = let z : ◌≡◌ {A = ℕ} 0 1 = cc in absurd (omega arith)

  -- a fault of the text is 26 at its place; so no text has faults at two places
  pub fault_bad : {s : Stage} {p w : ℕ} → Stands s p → Fault s p w → file t ≡ bad w
  unfolding next
  fault_bad {p = p} s (missing n b) = stands_left s ∙ left_reads n p ∙ rw (word_bare p (clear s).within b)
  fault_bad {p = p} s (malformed {k = k} {w = w} {e = e} n a g) =
      stands_left s ∙ left_reads n p ∙ rw (word_ahead a, go (said k w e) (judged k w e a.is.some))
    where
      go : (r : Read ℕ) → Judged k w e r → r ≡ bad w
      go r (fit x y) = absurd (g x y)
      go r (unfit y) = refl

  -- what is read of a text stands in it
  pub good_stands : (m : File) (p : ℕ) → file t ≡ good m p → Stands (nothing m.vertices m.faces) p
  good_stands m p q = go (file t) told q
    where
      go : (r : Read File) → Told r → r ≡ good m p → Stands (nothing m.vertices m.faces) p
      go r (faulty S F) q = let z : ◌≡◌ {A = ℕ} 0 1 = cc in absurd (omega arith)
      go r (fine {v = v} {p = x} {fs = fs} S) q = let z : x ≡ p = cc in let y : m ≡ record { vertices = v; faces = fs } = cc in rw (y, ← z) S

  -- and what stands in it is read
  pub stands_good : (v p : ℕ) (fs : List (List ℕ)) → Stands (nothing v fs) p → file t ≡ good (record { vertices = v; faces = fs }) p
  unfolding left
  stands_good v p fs s = stands_left s

-- a text counts by its vertex count and its faces alone: two texts with the same are answered alike, and leave the tables and the work room alike
pub same_file : (Y : Layout) (t u : List ℕ) (m : File) (p q : ℕ) → file t ≡ good m p → file u ≡ good m q → (tables work : List ℕ)
    → (faces_answer Y t tables work ≡ faces_answer Y u tables work) × (faces_tables Y t tables work ≡ faces_tables Y u tables work)
    × (faces_work Y t tables work ≡ faces_work Y u tables work)
unfolding faces_answer faces_tables faces_work corners_of read_verdict
same_file Y t u m p q a b tables work = (rw (a, b), rw (a, b), rw (a, b))
