-- Laws of a text: comments, gaps and words from a position on; one turn of each loop over it at a time.
use Prim.Native.Nat.{ℕ, zero, suc, ◌+◌, ◌-◌, ◌≤◌, ◌<◌}
use mathlib.Core.Path.{◌≡◌, refl, sym, ◌∙◌}
use mathlib.Core.Logic.{◌≢◌}
use mathlib.Core.List.{List}
use mathlib.Core.Bool.{Bool, true, false, not, ◌&&◌, ◌||◌}
use native.Mathlib.Omega.{arith}
use native.Mathlib.Numerals.{add-one}
use lib.ListN.{length, get_or}
use lib.Dec.{eqb}
use borrow.Author.Tests.{eq-eqb, ne_eqb, eqb-true, eqb-false}
use Rattle.rules.specs.Lists.{scan}
use Rattle.rules.proofs.Lists.{scan_here, scan_next, scan_end, scanned, not_both}
use Rattle.shapes.proofs.Corners.{or_none}
use Rattle.shapes.specs.Text.{is_blank, commented, gap, word_from, word_end, line_end}
use Rattle.text.specs.Fresh.{Fresh}
use Rattle.text.specs.Leaves.{stop}

-- a search goes on over all up to j at once
scan_over : (f : ℕ → Bool) (k i m : ℕ) → i + m ≤ k → ((d : ℕ) → i ≤ d → d < i + m → f d ≡ false) → scan f (k - i) i ≡ scan f (k - (i + m)) (i + m)
scan_over f k i zero h q = let e : i + 0 ≡ i = omega arith in rw e
scan_over f k i (suc m) h q =
    let e : i + suc m ≡ i + m + 1 = omega arith in
    rw e (scan_over f k i m (omega arith) (λ d a b. q d a (omega arith)) ∙ scan_next f k (i + m) (omega arith) (q (i + m) (omega arith) (omega arith)))

-- a search from a on has come to p
pub record Gone (f : ℕ → Bool) (k a p : ℕ) : Type 0 where
  pub left : scan f (k - a) a ≡ scan f (k - p) p

pub gone_start : (f : ℕ → Bool) (k a : ℕ) → Gone f k a a
gone_start f k a = record { left = refl }

module _ {f : ℕ → Bool} {k a p : ℕ} (g : Gone f k a p) where
  pub gone_next : p < k → f p ≡ false → Gone f k a (p + 1)
  gone_next h q = record { left = g.left ∙ scan_next f k p h q }

  pub gone_here : p < k → f p ≡ true → p ≡ scan f (k - a) a
  gone_here h q = sym (g.left ∙ scan_here f k p h q)

  pub gone_end : k ≤ p → p ≡ scan f (k - a) a
  gone_end h = sym (g.left ∙ scan_end f k p h)

  gone_over : (r : ℕ) → p ≤ r → r ≤ k → ((d : ℕ) → p ≤ d → d < r → f d ≡ false) → Gone f k a r
  gone_over r h l q =
      let e : p + (r - p) ≡ r = omega arith in
      record { left = rw e at (g.left ∙ scan_over f k p (r - p) (omega arith) (λ d x y. q d x (omega arith))) }

-- a byte past the blanks is none
pub no_blank : (b : ℕ) → 32 < b → is_blank b ≡ false
unfolding is_blank
no_blank b h = rw (ne_eqb b 32 (omega arith), ne_eqb b 9 (omega arith), ne_eqb b 13 (omega arith), ne_eqb b 10 (omega arith))

pub no_stop : (b : ℕ) → 35 < b → stop b ≡ false
unfolding stop
no_stop b h = rw (no_blank b (omega arith), ne_eqb b 35 (omega arith))

-- comments
module _ (t : List ℕ) where
  hash_comment : (p : ℕ) → get_or t p 0 ≡ 35 → commented t p ≡ true
  unfolding commented
  hash_comment zero e = eq-eqb (get_or t 0 0) 35 e
  hash_comment (suc p) e = rw (eq-eqb (get_or t (suc p) 0) 35 e)

  no_comment : (p : ℕ) → get_or t p 0 ≡ 10 → commented t p ≡ false
  unfolding commented
  no_comment zero e = ne_eqb (get_or t 0 0) 35 (omega arith)
  no_comment (suc p) e = rw (eq-eqb (get_or t (suc p) 0) 10 e, ne_eqb (get_or t (suc p) 0) 35 (omega arith))

  comment_on : (p : ℕ) → commented t p ≡ true → get_or t (suc p) 0 ≢ 10 → commented t (suc p) ≡ true
  unfolding commented
  comment_on p c h = rw (ne_eqb (get_or t (suc p) 0) 10 h, c) (or_true (eqb (get_or t (suc p) 0) 35))
    where
      or_true : (b : Bool) → (b || true) ≡ true
      or_true true = refl
      or_true false = refl

  pub comment_after : (p : ℕ) → commented t p ≡ false → commented t (suc p) ≡ eqb (get_or t (suc p) 0) 35
  unfolding commented
  comment_after p c = rw c (plain (eqb (get_or t (suc p) 0) 35) (not (eqb (get_or t (suc p) 0) 10)))
    where
      plain : (a b : Bool) → (a || (b && false)) ≡ a
      plain true true = refl
      plain true false = refl
      plain false true = refl
      plain false false = refl

  -- where no comment goes on, a byte tells whether it is of a word
  gap_stop : (p : ℕ) → Fresh t p → p < length t → gap t p ≡ stop (get_or t p 0)
  unfolding gap stop
  gap_stop p f h = rw (f.plain h)

  pub fresh_0 : Fresh t 0
  unfolding commented
  fresh_0 = record { plain = λ h. refl }

  pub fresh_next : (p : ℕ) → Fresh t p → p < length t → get_or t p 0 ≢ 35 → Fresh t (p + 1)
  fresh_next p f h e = record { plain = λ l. rw add-one (comment_after p (f.plain h ∙ ne_eqb (get_or t p 0) 35 e)) }

  pub fresh_feed : (p : ℕ) → get_or t p 0 ≡ 10 → Fresh t p
  fresh_feed p e = record { plain = λ h. no_comment p e ∙ sym (ne_eqb (get_or t p 0) 35 (omega arith)) }

  pub fresh_line : (p : ℕ) → Fresh t (line_end t p)
  unfolding line_end
  fresh_line p =
      let s = scanned (λ k. eqb (get_or t k 0) 10) (length t - p) p in
      record { plain = λ h. (fresh_feed (line_end t p) (eqb-true (get_or t (line_end t p) 0) 10 (s.passes (omega arith)))).plain h }

  pub fresh_inside : (p : ℕ) → gap t p ≡ false → Fresh t p
  unfolding gap
  fresh_inside p g =
      let c = (or_none (commented t p) (is_blank (get_or t p 0)) g).0 in
      record { plain = λ h. c ∙ sym (ne_eqb (get_or t p 0) 35 (λ e. not_both (commented t p) (hash_comment p e) c)) }

  pub line_end_from : (p : ℕ) → p ≤ line_end t p
  unfolding line_end
  line_end_from p = (scanned (λ k. eqb (get_or t k 0) 10) (length t - p) p).from

  line_end_within : (p : ℕ) → p ≤ length t → line_end t p ≤ length t
  unfolding line_end
  line_end_within p h = omega (arith, (scanned (λ k. eqb (get_or t k 0) 10) (length t - p) p).up_to)

  not_line : (p k : ℕ) → p ≤ k → k < line_end t p → get_or t k 0 ≢ 10
  unfolding line_end
  not_line p k l h q = eqb-false (get_or t k 0) 10 ((scanned (λ k. eqb (get_or t k 0) 10) (length t - p) p).before k l h) q

  -- a comment goes on up to its line's end
  comment_line : (p m : ℕ) → get_or t p 0 ≡ 35 → p + m < line_end t (p + 1) → commented t (p + m) ≡ true
  comment_line p zero e h = let z : p + 0 ≡ p = omega arith in rw z (hash_comment p e)
  comment_line p (suc m) e h =
      let z : p + suc m ≡ suc (p + m) = omega arith in
      rw z (comment_on (p + m) (comment_line p m e (omega arith)) (not_line (p + 1) (suc (p + m)) (omega arith) (omega arith)))

  -- the search for a word from a on has come to p
  pub record Coming (a p : ℕ) : Type 0 where
    pub fresh : Fresh t p
    pub gone : Gone (λ k. not (gap t k)) (length t) a p

  module _ {a p : ℕ} (c : Coming a p) (h : p < length t) where
    pub coming_comment : (r : ℕ) → r ≡ line_end t (p + 1) → get_or t p 0 ≡ 35 → Coming a r
    unfolding gap
    coming_comment r er e =
        record {
          fresh = rw er (fresh_line (p + 1));
          gone = gone_over c.gone r (omega (arith, line_end_from (p + 1))) (omega (arith, line_end_within (p + 1) (omega arith)))
              (λ d x y. let z : p + (d - p) ≡ d = omega arith in rw (rw z at (comment_line p (d - p) e (omega arith))));
        }

    pub coming_blank : get_or t p 0 ≢ 35 → is_blank (get_or t p 0) ≡ true → Coming a (p + 1)
    unfolding stop
    coming_blank e b =
        record {
          fresh = fresh_next p c.fresh h e;
          gone = gone_next c.gone h (rw (gap_stop p c.fresh h, ne_eqb (get_or t p 0) 35 e, b));
        }

    pub coming_here : get_or t p 0 ≢ 35 → is_blank (get_or t p 0) ≡ false → p ≡ word_from t a
    unfolding stop word_from
    coming_here e b = gone_here c.gone h (rw (gap_stop p c.fresh h, ne_eqb (get_or t p 0) 35 e, b))

  pub coming_end : {a p : ℕ} → Coming a p → length t ≤ p → p ≡ word_from t a
  unfolding word_from
  coming_end c h = gone_end c.gone h

  -- the search for a word's end from a on has come to p
  pub record Ending (a p : ℕ) : Type 0 where
    pub fresh : Fresh t p
    pub gone : Gone (gap t) (length t) a p

  pub ending_start : (a : ℕ) → Fresh t a → Ending a a
  ending_start a f = record { fresh = f; gone = gone_start (gap t) (length t) a }

  module _ {a p : ℕ} (c : Ending a p) (h : p < length t) where
    pub ending_next : stop (get_or t p 0) ≡ false → Ending a (p + 1)
    unfolding stop
    ending_next b =
        record {
          fresh = fresh_next p c.fresh h (λ e. eqb-false (get_or t p 0) 35 (or_none (eqb (get_or t p 0) 35) (is_blank (get_or t p 0)) b).0 e);
          gone = gone_next c.gone h (gap_stop p c.fresh h ∙ b);
        }

    pub ending_here : stop (get_or t p 0) ≡ true → p ≡ word_end t a
    unfolding word_end
    ending_here b = gone_here c.gone h (gap_stop p c.fresh h ∙ b)

  pub ending_end : {a p : ℕ} → Ending a p → length t ≤ p → p ≡ word_end t a
  unfolding word_end
  ending_end c h = gone_end c.gone h
