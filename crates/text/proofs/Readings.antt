-- Laws of readings: what each tells of where it ended, and one turn of each loop over words, numbers and faces.
use Prim.Native.Nat.{ℕ, zero, suc, ◌+◌, ◌-◌, ◌≤◌, ◌<◌}
use mathlib.Core.Path.{◌≡◌, refl, ap, sym, ◌∙◌}
use mathlib.Core.List.{List, [], ◌∷◌}
use mathlib.Core.Bool.{Bool, true, false, not, ◌&&◌}
use native.Mathlib.Omega.{arith}
use native.Mathlib.Decide.{dec_lt}
use lib.ListN.{length, get_or}
use lib.Dec.{eqb, leb}
use borrow.Author.Tests.{lt-ltb, le-ltb, not-true}
use Rattle.rules.specs.Lists.{all_below}
use Rattle.rules.proofs.Lists.{scanned, not_both}
use Rattle.shapes.proofs.Corners.{or_none}
use Rattle.std.specs.Prelude.{Result, Ok, Err}
use Rattle.std.specs.Result.{IsErrAnd}
use Rattle.std.proofs.lemmas.Result.{err_from_is_err_and}
use Rattle.text.specs.declared.Malformed.{Malformed}
use Rattle.text.specs.declared.Known.{Known}
use Rattle.text.specs.declared.Sizes.{Sizes}
use Rattle.shapes.specs.Text.{is_blank, commented, gap, word_from, word_end, line_end, Read, bad, good, next, provided, word, keyword, number, several, face}
use Rattle.text.specs.Fresh.{Fresh}
use Rattle.text.specs.Leaves.{Inside, numeral, told, told_of, end, counts}
use Rattle.text.proofs.Laws.{fresh_inside, comment_after}

-- what an answer says of the reading
pub told_err : {A B : Type 0} (f : A → ℕ → B) (x : Read A) (e : Malformed) → Err e ≡ told_of f x → x ≡ bad e.0
unfolding told_of
told_err f (bad w) e q = cc
told_err f (good a p) e q = cc

pub record Told {A B : Type 0} (f : A → ℕ → B) (x : Read A) (v : B) : Type 0 where
  pub what : A
  pub after : ℕ
  pub is : x ≡ good what after
  pub says : v ≡ f what after

pub told_ok : {A B : Type 0} (f : A → ℕ → B) (x : Read A) (v : B) → Ok v ≡ told_of f x → Told f x v
unfolding told_of
told_ok f (bad w) v q = cc
told_ok f (good a e) v q = record { what = a; after = e; is = refl; says = cc }

pub told_end : {A : Type 0} (x : Read A) (p : ℕ) → Ok p ≡ told_of end x → (a : A) × (x ≡ good a p)
unfolding told_of
told_end (bad w) p q = cc
told_end (good a e) p q = (a, cc)

-- and what the exit of a `?` says
pub told_exit : {A B : Type 0} (f : A → ℕ → B) (x : Read A) (e : Malformed) (r : Result B Malformed) → IsErrAnd r (λ y. y ≡ e) → x ≡ bad e.0 → r ≡ told_of f x
unfolding told_of
told_exit f x e r h q = let (y, p, z) = err_from_is_err_and r h in rw (p, z, q)

pub exit : {A : Type 0} {x : Read A} {e : Malformed} (r : Result (Known A) Malformed) → IsErrAnd r (λ y. y ≡ e) → bad e.0 ≡ x → told r ≡ x
exit r h q = let (y, p, z) = err_from_is_err_and r h in rw (p, z) q

-- a reading and then another: 26 in the first, or what the second comes to
pub next_err : {A B : Type 0} (x : Read A) (f : A → ℕ → Read B) (w : ℕ) → bad w ≡ x → bad w ≡ next x f
unfolding next
next_err x f w e = rw (← e)

pub next_ok : {A B : Type 0} (x : Read A) (f : A → ℕ → Read B) (a : A) (p : ℕ) (r : Read B) → good a p ≡ x → r ≡ f a p → r ≡ next x f
unfolding next
next_ok x f a p r e q = rw (← e) q

-- a reading and then another that comes to something
pub record Both {A B : Type 0} (r : Read A) (f : A → ℕ → Read B) (b : B) (q : ℕ) : Type 0 where
  pub what : A
  pub after : ℕ
  pub one : r ≡ good what after
  pub two : f what after ≡ good b q

pub next_good : {A B : Type 0} (r : Read A) (f : A → ℕ → Read B) (b : B) (q : ℕ) → next r f ≡ good b q → Both r f b q
unfolding next
next_good (bad w) f b q e = let z : ◌≡◌ {A = ℕ} 0 1 = cc in absurd (omega arith)
next_good (good a p) f b q e = record { what = a; after = p; one = refl; two = e }

good_after : {A : Type 0} (a b : A) (p q : ℕ) → good a p ≡ good b q → p ≡ q
good_after a b p q e = cc

provided_bad : {A : Type 0} (c : Bool) (w : ℕ) (a : A) (e u : ℕ) → provided c w (good a e) ≡ bad u → u ≡ w
unfolding provided
provided_bad true w a e u q = let z : ◌≡◌ {A = ℕ} 0 1 = cc in absurd (omega arith)
provided_bad false w a e u q = cc

module _ (t : List ℕ) where
  -- where a word begins
  pub word_inside : (p w : ℕ) → w ≡ word_from t p → w < length t → Inside t w
  unfolding word_from
  word_inside p w e h =
      let s = scanned (λ k. not (gap t k)) (length t - p) p in
      record { within = h; letter = rw e (not-true (gap t (word_from t p)) (s.passes (omega arith))) }

  -- where it ends no comment goes on
  pub fresh_end : (w : ℕ) → Inside t w → Fresh t (word_end t w)
  unfolding word_end gap
  fresh_end w n = record { plain = λ h. go (word_end t w) refl h }
    where
      go : (e : ℕ) → word_end t w ≡ e → word_end t w < length t → commented t (word_end t w) ≡ eqb (get_or t (word_end t w) 0) 35
      go e q h =
          let s = scanned (gap t) (length t - w) w in
          let a : gap t e ≡ true = rw q at (s.passes (omega arith)) in
          last e q a s.from (λ i x y. s.before i x y) (dec_lt w e)
        where
          last : (e : ℕ) → word_end t w ≡ e → gap t e ≡ true → w ≤ word_end t w → ((i : ℕ) → w ≤ i → i < word_end t w → gap t i ≡ false) → Dec (w < e)
              → commented t (word_end t w) ≡ eqb (get_or t (word_end t w) 0) 35
          last e q a f b (no x) = let z : e ≡ w = omega arith in absurd (not_both (gap t w) (rw z at a) n.letter)
          last zero q a f b (yes x) = absurd (omega arith)
          last (suc e) q a f b (yes x) = rw q (comment_after t e (or_none (commented t e) (is_blank (get_or t e 0)) (b e (omega arith) (omega arith))).0)

  -- numbers
  pub number_none : (p w : ℕ) → w ≡ word_from t p → length t ≤ w → bad w ≡ number t p
  unfolding number word next provided
  number_none p w e h = rw (← e, le-ltb w (length t) h)

  pub number_some : (p w : ℕ) → w ≡ word_from t p → w < length t → numeral t w ≡ number t p
  unfolding number word next provided numeral
  number_some p w e h = rw (← e, lt-ltb w (length t) h)

  numeral_end : (w v e : ℕ) → numeral t w ≡ good v e → e ≡ word_end t w
  unfolding numeral provided
  numeral_end w v e q = go (leb (word_end t w - w) 9 && all_below (word_end t w - w) (λ k. Rattle.shapes.specs.Text.is_digit (get_or t (w + k) 0))) q
    where
      go : (b : Bool) → provided b w (good (Rattle.shapes.specs.Text.value t w (word_end t w - w)) (word_end t w)) ≡ good v e → e ≡ word_end t w
      go true q = cc
      go false q = let z : ◌≡◌ {A = ℕ} 0 1 = cc in absurd (omega arith)

  pub number_fresh : (p v e : ℕ) → number t p ≡ good v e → Fresh t e
  number_fresh p v e q = go (dec_lt (word_from t p) (length t))
    where
      go : Dec (word_from t p < length t) → Fresh t e
      go (yes h) =
          let w = word_from t p in
          rw (numeral_end w v e (number_some p w refl h ∙ q)) (fresh_end w (word_inside p w refl h))
      go (no h) = let x = number_none p (word_from t p) refl (omega arith) in let z : ◌≡◌ {A = ℕ} 0 1 = cc in absurd (omega arith)

  -- where 26 is told of a number no comment goes on
  pub bad_fresh : (p w : ℕ) → bad w ≡ number t p → Fresh t w
  unfolding numeral
  bad_fresh p w e = go (dec_lt (word_from t p) (length t))
    where
      go : Dec (word_from t p < length t) → Fresh t w
      go (yes h) =
          let n = word_inside p (word_from t p) refl h in
          rw (provided_bad _ (word_from t p) _ _ w (number_some p (word_from t p) refl h ∙ sym e)) (fresh_inside t (word_from t p) n.letter)
      go (no h) =
          let x = number_none p (word_from t p) refl (omega arith) in
          let z : w ≡ word_from t p = cc in
          record { plain = λ l. absurd (omega arith) }

  -- words
  pub word_none : (p w : ℕ) → w ≡ word_from t p → length t ≤ w → word t p ≡ bad w
  unfolding word provided
  word_none p w e h = rw (← e, le-ltb w (length t) h)

  pub word_some : (p w e : ℕ) → w ≡ word_from t p → w < length t → e ≡ word_end t w → word t p ≡ good w e
  unfolding word provided
  word_some p w e q h r = rw (← q, lt-ltb w (length t) h, r)

  pub word_fresh : (p w e : ℕ) → word t p ≡ good w e → Fresh t e
  word_fresh p w e q = go (dec_lt (word_from t p) (length t))
    where
      go : Dec (word_from t p < length t) → Fresh t e
      go (yes h) =
          let x = word_some p (word_from t p) (word_end t (word_from t p)) refl h refl in
          let z : e ≡ word_end t (word_from t p) = cc in
          rw z (fresh_end (word_from t p) (word_inside p (word_from t p) refl h))
      go (no h) = let x = word_none p (word_from t p) refl (omega arith) in let z : ◌≡◌ {A = ℕ} 0 1 = cc in absurd (omega arith)

  -- where a word ends
  pub word_end_from : (w : ℕ) → w ≤ word_end t w
  unfolding word_end
  word_end_from w = (scanned (gap t) (length t - w) w).from

  pub word_end_within : (w : ℕ) → w ≤ length t → word_end t w ≤ length t
  unfolding word_end
  word_end_within w h = omega (arith, (scanned (gap t) (length t - w) w).up_to)

  -- the word OFF
  pub keyword_none : (p w : ℕ) → w ≡ word_from t p → length t ≤ w → keyword t p ≡ bad w
  unfolding keyword next
  keyword_none p w e h = rw (word_none p w e h)

  pub keyword_some : (p w e : ℕ) → w ≡ word_from t p → w < length t → e ≡ word_end t w
      → keyword t p ≡ provided (eqb (e - w) 3 && (eqb (get_or t w 0) 79 && (eqb (get_or t (w + 1) 0) 70 && eqb (get_or t (w + 2) 0) 70))) w (good w e)
  unfolding keyword next
  keyword_some p w e q h r = rw (word_some p w e q h r)

  -- a face
  pub face_count_lem : (p w : ℕ) → number t p ≡ bad w → face t p ≡ bad w
  unfolding face next
  face_count_lem p w e = rw e

  pub face_corner : (p k e w : ℕ) → number t p ≡ good k e → several (number t) k e ≡ bad w → face t p ≡ bad w
  unfolding face next
  face_corner p k e w q r = rw (q, r)

  pub face_good : (p k e q : ℕ) (vs : List ℕ) → number t p ≡ good k e → several (number t) k e ≡ good vs q → face t p ≡ good vs (line_end t q)
  unfolding face next
  face_good p k e q vs a b = rw (a, b)

  -- after the counts
  pub counts_fresh : (p s : ℕ) (o : Sizes) → counts t p ≡ good o s → Fresh t s
  unfolding counts
  counts_fresh p s o q =
      let a = next_good (number t p) _ o s q in
      let b = next_good (number t a.after) _ o s a.two in
      let c = next_good (number t b.after) _ o s b.two in
      rw (good_after (record { vertices = a.what; faces = b.what }) o c.after s c.two) at (number_fresh b.after c.what c.after c.one)

-- what holds after each reading holds after several
pub several_keep : {A : Type 0} (read : ℕ → Read A) (P : ℕ → Type 0) → ((p e : ℕ) (x : A) → read p ≡ good x e → P e) → (n a : ℕ) → P a
    → (u : ℕ) (xs : List A) → several read n a ≡ good xs u → P u
unfolding several next
several_keep {A = A} read P f zero a h u xs q = let z : u ≡ a = cc in rw z h
several_keep {A = A} read P f (suc n) a h u xs q = go (several_keep read P f n) (read a) refl q
  where
    go : ((a : ℕ) → P a → (u : ℕ) (xs : List A) → several read n a ≡ good xs u → P u) → (r : Read A) → read a ≡ r
        → next r (λ x e. next (several read n e) (λ xs q. good (x ∷ xs) q)) ≡ good xs u → P u
    go rec (bad w) e q = let z : ◌≡◌ {A = ℕ} 0 1 = cc in absurd (omega arith)
    go rec (good x e) k q = on (several read n e) refl q
      where
        on : (r : Read (List A)) → several read n e ≡ r → next r (λ xs q. good (x ∷ xs) q) ≡ good xs u → P u
        on (bad w) s q = let z : ◌≡◌ {A = ℕ} 0 1 = cc in absurd (omega arith)
        on (good ys b) s q = let z : u ≡ b = cc in rw z (rec e (f a e x k) b ys s)

-- readings one after another: k of n from a on are done, and the next begins at p
module _ {A : Type 0} (read : ℕ → Read A) where
  pub record Reads (a n p k : ℕ) : Type 0 where
    pub up_to : k ≤ n
    pub left : told_of end (several read n a) ≡ told_of end (several read (n - k) p)

  module _ {a n p k : ℕ} (i : Reads a n p k) where
    pub reads_bad : k < n → (w : ℕ) → read p ≡ bad w → Err (record { 0 = w }) ≡ told_of end (several read n a)
    unfolding several next told_of
    reads_bad h w e = let z : n - k ≡ suc (n - (k + 1)) = omega arith in sym (i.left ∙ rw (z, several, e))

    pub reads_next : k < n → (x : A) (e : ℕ) → read p ≡ good x e → Reads a n e (k + 1)
    unfolding several next told_of
    reads_next h x e q =
        let z : n - k ≡ suc (n - (k + 1)) = omega arith in
        record { up_to = omega arith; left = i.left ∙ rw (z, several, q) (onto (several read (n - (k + 1)) e)) }
      where
        onto : (r : Read (List A)) → told_of end (next r (λ xs q. good (x ∷ xs) q)) ≡ told_of end r
        onto (bad w) = refl
        onto (good xs q) = refl

    pub reads_end : n ≤ k → Ok p ≡ told_of end (several read n a)
    unfolding several told_of
    reads_end h = let z : n - k ≡ 0 = omega arith in sym (i.left ∙ rw z)

-- several readings of which there is one more
pub record Split {A : Type 0} (read : ℕ → Read A) (k p : ℕ) (xs : List A) (q : ℕ) : Type 0 where
  pub head : A
  pub rest : List A
  pub after : ℕ
  pub one : read p ≡ good head after
  pub others : several read k after ≡ good rest q
  pub all : xs ≡ head ∷ rest

pub several_split : {A : Type 0} (read : ℕ → Read A) (k p : ℕ) (xs : List A) (q : ℕ) → several read (suc k) p ≡ good xs q → Split read k p xs q
unfolding several
several_split {A = A} read k p xs q e =
    let a = next_good (read p) _ xs q e in
    let b = next_good (several read k a.after) _ xs q a.two in
    record {
      head = a.what;
      rest = b.what;
      after = a.after;
      one = a.one;
      others = b.one ∙ ap (λ (x : ℕ). good b.what x) (ends (a.what ∷ b.what) xs b.after q b.two);
      all = sym (what (a.what ∷ b.what) xs b.after q b.two);
    }
  where
    ends : (x y : List A) (i j : ℕ) → good x i ≡ good y j → i ≡ j
    ends x y i j e = cc

    what : (x y : List A) (i j : ℕ) → good x i ≡ good y j → x ≡ y
    what x y i j e = cc

-- they are as many as were wanted
pub several_length : {A : Type 0} (read : ℕ → Read A) (k p : ℕ) (xs : List A) (q : ℕ) → several read k p ≡ good xs q → length xs ≡ k
unfolding several
several_length read zero p xs q e = let a : xs ≡ [] = cc in rw a
several_length read (suc k) p xs q e =
    let s = several_split read k p xs q e in
    rw s.all (ap suc (several_length read k s.after s.rest q s.others))
