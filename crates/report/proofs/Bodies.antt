-- Laws of the least dart that has no mark: where the search for it may begin, whether there is one, and the body that begins there.
-- Rests on Spans, the flood's Queues and the rules' Lists.
use Prim.Native.Nat.{ℕ, ◌≤◌, ◌<◌}
use mathlib.Core.Path.{◌≡◌, ◌∙◌}
use mathlib.Core.Bool.{false}
use mathlib.Core.List.{List}
use native.Mathlib.Omega.{arith}
use native.Mathlib.Decide.{dec_lt}
use lib.ListN.{length, get_or}
use borrow.Author.Tests.{eqb-true, lt-ltb, le-ltb}
use Rattle.rules.specs.declared.Form.{Form}
use Rattle.rules.specs.declared.Form.TheVariants.{One, Several}
use Rattle.rules.specs.Lists.{first}
use Rattle.rules.specs.Map.{mark}
use Rattle.rules.proofs.Lists.{first_le, first_passes, first_before, not_both, get_d_any}
use Rattle.checker.specs.Parts.{numberless}
use Rattle.checker.proofs.Verdicts.{numberless_yes, numberless_no}
use Rattle.flood.specs.Flood.{IsQueue}
use Rattle.flood.proofs.Queues.{full_marked, marked_full}
use Rattle.rules.specs.Check.{fine, refused, refuse_if, bodies_verdict}
use Rattle.report.specs.Spans.{Begun, Unmarked, Spanned}
use Rattle.report.proofs.Spans.{spun_later}

-- the search may begin where all darts before have a mark
pub begun_numbered : {n : ℕ} (w : List ℕ) (next : ℕ) → n ≤ length w → next ≤ n → Begun next w → (d : ℕ) → d < next → numberless w d ≡ false
begun_numbered w next hw h B d l = numberless_no w d (omega arith) (B d l)

-- what the one-body form says of what it has found
module _ {n p : ℕ} {form : Form} (f : form ≡ One) where
  pub one_more_lem : {d : ℕ} → d ≡ p → p < n → refused 9 d ≡ bodies_verdict form n p
  unfolding bodies_verdict refuse_if
  one_more_lem e h = rw (f, e, lt-ltb p n h)

  pub one_all : n ≤ p → fine ≡ bodies_verdict form n p
  unfolding bodies_verdict refuse_if
  one_all h = rw (f, le-ltb p n h)

module _ {n tail : ℕ} {w : List ℕ} (Q : IsQueue n tail w) where
  -- the least dart that has no mark, or n
  abbrev least : ℕ
  least = first (numberless w) n

  -- those before it have one
  pub least_begun : Begun least w
  least_begun i h e = not_both (numberless w i) (numberless_yes w i (omega (arith, first_le (numberless w) n, Q.room)) e) (first_before (numberless w) n i h)

  pub least_unmarked_lem : least < n → Unmarked n w least
  least_unmarked_lem h =
      (h, get_d_any w least 0 mark (omega (arith, Q.room)) ∙ eqb-true (get_or w least mark) mark (first_passes (numberless w) n h))

  -- the queue holds fewer than n darts: there is one
  pub least_below : tail < n → least < n
  least_below h = go (dec_lt least n)
    where
      go : Dec (least < n) → least < n
      go (yes l) = l
      go (no l) = absurd (omega (arith, marked_full Q (λ i k. least_begun i (omega arith))))

  -- it holds n: there is none
  pub least_past : n ≤ tail → n ≤ least
  least_past h = go (dec_lt least n)
    where
      go : Dec (least < n) → n ≤ least
      go (no l) = omega arith
      go (yes l) = absurd (full_marked Q h least l (least_unmarked_lem l).1)

  -- where there is none it holds n
  pub least_all : n ≤ least → n ≤ tail
  least_all h = marked_full Q (λ i k. least_begun i (omega arith))

  -- what the several form says of the queue's length
  module _ {form : Form} (f : form ≡ Several) where
    pub several_more : tail < n → fine ≡ bodies_verdict form n least
    unfolding bodies_verdict refuse_if
    several_more h = rw (f, lt-ltb least n (least_below h))

    pub several_all : n ≤ tail → refused 30 0 ≡ bodies_verdict form n least
    unfolding bodies_verdict refuse_if
    several_all h = rw (f, le-ltb least n (least_past h))

-- r is the least dart that has no mark: the next body begins there
module _ {N n r tail count next : ℕ} {t w : List ℕ} (S : Spanned N n t tail count next w) (e : r ≡ first (numberless w) n)
    (h : first (numberless w) n < n) where
  pub next_unmarked : Unmarked n w r
  next_unmarked = rw e (least_unmarked_lem S.queue h)

  -- the cursor goes forward
  pub next_later : next ≤ r
  next_later = go (dec_lt r next)
    where
      go : Dec (r < next) → next ≤ r
      go (yes l) = absurd (S.begun r l next_unmarked.1)
      go (no l) = omega arith

  pub least_spanned : Spanned N n t tail count r w
  least_spanned = spun_later r S next_later (omega (arith, next_unmarked.0)) (rw e (least_begun S.queue))

-- the same where the queue's length tells that there is one
pub next_spanned : {N n r tail count next : ℕ} {t w : List ℕ} → Spanned N n t tail count next w → tail < n → r ≡ first (numberless w) n
    → Spanned N n t tail count r w
next_spanned S h e = least_spanned S e (least_below S.queue h)
