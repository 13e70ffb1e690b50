-- Laws of the queue: a dart with no mark has room in it, each dart enters it once, and what was there stays. Rests on the rules' Lists and Places.
use Prim.Native.Nat.{ℕ, suc, ◌+◌, ◌*◌, ◌≤◌, ◌<◌}
use mathlib.Core.Path.{◌≡◌, refl, ap, sym, ◌∙◌}
use mathlib.Core.Logic.{◌≢◌}
use mathlib.Core.Bool.{Bool, true, false, cond}
use mathlib.Core.List.{List}
use native.Mathlib.Omega.{arith}
use native.Mathlib.Decide.{ℕ_discrete, dec_lt}
use lib.ListN.{length, get_or, set, replicate, drop, length-replicate, get_or-append, length-set, get_or-replicate, length-append, length-drop}
use lib.Seq.{get_or-set_same, get_or-set_other, drop-set-lt, drop-drop}
use lib.Dec.{eqb}
use borrow.Author.Tests.{eqb-true, eqb-false, eq-eqb, ne_eqb}
use Rattle.rules.specs.Map.{mark, blank}
use Rattle.rules.proofs.Lists.{pigeonhole}
use Rattle.rules.proofs.Places.{drop_blank}
use Rattle.flood.specs.Flood.{Marked, queued, entered_room, entered_tail, IsQueue, Extended}

-- a dart with no mark is not in the queue
fresh_new : {n tail d : ℕ} {w : List ℕ} → IsQueue n tail w → get_or w d 0 ≡ mark → (p : ℕ) → p < tail → queued n w p ≡ d → ⊥
fresh_new {n} {tail} {d} {w} Q u p h e = let c : get_or w d 0 < 2 = rw e at (Q.classes p h) in omega arith

-- so the queue has room for it
pub tail_below : {n tail d : ℕ} {w : List ℕ} → IsQueue n tail w → d < n → get_or w d 0 ≡ mark → tail < n
tail_below {n} {tail} {d} {w} Q hd u =
    pigeonhole (suc tail) n at (λ i h. low i h (ℕ_discrete i tail)) (λ i j h k e. alone i j h k (ℕ_discrete i tail) (ℕ_discrete j tail) e)
  where
    at : ℕ → ℕ
    at i = cond (eqb i tail) d (queued n w i)

    at_last : (i : ℕ) → i ≡ tail → at i ≡ d
    at_last i e = rw (eq-eqb i tail e)

    at_old : (i : ℕ) → i ≢ tail → at i ≡ queued n w i
    at_old i e = rw (ne_eqb i tail e)

    low : (i : ℕ) → i < suc tail → Dec (i ≡ tail) → at i < n
    low i h (yes e) = omega (arith, at_last i e)
    low i h (no e) = omega (arith, at_old i e, Q.darts i (omega arith))

    alone : (i j : ℕ) → i < suc tail → j < suc tail → Dec (i ≡ tail) → Dec (j ≡ tail) → at i ≡ at j → i ≡ j
    alone i j h k (yes e) (yes e') z = omega arith
    alone i j h k (yes e) (no e') z = absurd (fresh_new Q u j (omega arith) (sym (at_old j e') ∙ (sym z ∙ at_last i e)))
    alone i j h k (no e) (yes e') z = absurd (fresh_new Q u i (omega arith) (sym (at_old i e) ∙ (z ∙ at_last j e')))
    alone i j h k (no e) (no e') z = Q.once i j (omega arith) (omega arith) (sym (at_old i e) ∙ (z ∙ at_old j e'))

-- every dart is marked exactly if the queue holds n of them
pub full_marked : {n tail : ℕ} {w : List ℕ} → IsQueue n tail w → n ≤ tail → (d : ℕ) → d < n → Marked w d
full_marked Q h d hd u = omega (arith, tail_below Q hd u)

pub marked_full : {n tail : ℕ} {w : List ℕ} → IsQueue n tail w → ((d : ℕ) → d < n → Marked w d) → n ≤ tail
marked_full {n} {tail} {w} Q m =
    pigeonhole n tail (λ d. at d (dec_lt d n)) (λ d h. (held d h (dec_lt d n)).0)
    (λ d e h k z. sym (held d h (dec_lt d n)).1 ∙ (ap (queued n w) z ∙ (held e k (dec_lt e n)).1))
  where
    at : (d : ℕ) → Dec (d < n) → ℕ
    at d (yes h) = (Q.entered d h (m d h)).0
    at d (no h) = 0

    held : (d : ℕ) → d < n → (s : Dec (d < n)) → (at d s < tail) × (queued n w (at d s) ≡ d)
    held d h (yes k) = let r = Q.entered d k (m d k) in (r.1, r.2)
    held d h (no k) = absurd (k h)

-- the work room where dart d has got class m and entered the queue
abbrev placed : ℕ → ℕ → ℕ → ℕ → List ℕ → List ℕ
placed n tail d m w = set (set w d m) (n + tail) d

module _ (n tail d m : ℕ) (w : List ℕ) (hd : d < n) (ht : tail < n) (room : 2 * n ≤ length w) where
  abbrev after : List ℕ
  after = placed n tail d m w

  class_new : get_or after d 0 ≡ m
  class_new = get_or-set_other (set w d m) (n + tail) d d 0 (omega arith) ∙ get_or-set_same w d m 0 (omega arith)

  class_old : (x : ℕ) → x < n → x ≢ d → get_or after x 0 ≡ get_or w x 0
  class_old x h e = get_or-set_other (set w d m) (n + tail) x d 0 (omega arith) ∙ get_or-set_other w d x m 0 e

  dart_new : queued n after tail ≡ d
  dart_new = get_or-set_same (set w d m) (n + tail) d 0 (simp length-set (omega arith))

  dart_old : (p : ℕ) → p < tail → queued n after p ≡ queued n w p
  dart_old p h = get_or-set_other (set w d m) (n + tail) (n + p) d 0 (omega arith) ∙ get_or-set_other w d (n + p) m 0 (omega arith)

  past_placed : drop (2 * n) after ≡ drop (2 * n) w
  past_placed = drop-set-lt (2 * n) (set w d m) (n + tail) d (omega arith) ∙ drop-set-lt (2 * n) w d m (omega arith)

  module _ (Q : IsQueue n tail w) (u : get_or w d 0 ≡ mark) (hm : m < 2) where
    queue_placed : IsQueue n (tail + 1) after
    queue_placed = record {
      room = simp length-set room;
      short = omega arith;
      darts = λ p h. low p h (ℕ_discrete p tail);
      classes = λ p h. two p h (ℕ_discrete p tail);
      once = λ p q h k. alone p q h k (ℕ_discrete p tail) (ℕ_discrete q tail);
      entered = λ x h y. from x h y (ℕ_discrete x d);
    }
      where
        low : (p : ℕ) → p < tail + 1 → Dec (p ≡ tail) → queued n after p < n
        low p h (yes e) = rw (e, dart_new) hd
        low p h (no e) = rw (dart_old p (omega arith)) (Q.darts p (omega arith))

        two : (p : ℕ) → p < tail + 1 → Dec (p ≡ tail) → get_or after (queued n after p) 0 < 2
        two p h (yes e) = rw (e, dart_new, class_new) hm
        two p h (no e) =
            let o = class_old (queued n w p) (Q.darts p (omega arith)) (fresh_new Q u p (omega arith)) in
            rw (dart_old p (omega arith), o) (Q.classes p (omega arith))

        alone : (p q : ℕ) → p < tail + 1 → q < tail + 1 → Dec (p ≡ tail) → Dec (q ≡ tail) → queued n after p ≡ queued n after q → p ≡ q
        alone p q h k (yes e) (yes e') z = omega arith
        alone p q h k (yes e) (no e') z = absurd (fresh_new Q u q (omega arith) (sym (dart_old q (omega arith)) ∙ (sym z ∙ rw e dart_new)))
        alone p q h k (no e) (yes e') z = absurd (fresh_new Q u p (omega arith) (sym (dart_old p (omega arith)) ∙ (z ∙ rw e' dart_new)))
        alone p q h k (no e) (no e') z = Q.once p q (omega arith) (omega arith) (sym (dart_old p (omega arith)) ∙ (z ∙ dart_old q (omega arith)))

        from : (x : ℕ) → x < n → Marked after x → Dec (x ≡ d) → (p : ℕ) × (p < tail + 1) × (queued n after p ≡ x)
        from x h y (yes e) = (tail, omega arith, dart_new ∙ sym e)
        from x h y (no e) =
            let (p, k, z) = Q.entered x h (λ z. y (class_old x h e ∙ z)) in
            (p, omega arith, dart_old p k ∙ z)

-- what was there stays
pub extended_refl : {n tail : ℕ} {w : List ℕ} → IsQueue n tail w → Extended n tail tail w w
extended_refl Q = record { queue = Q; longer = omega arith; past = refl; classes = λ d h m. refl; places = λ p h. refl }

pub extended_marked : {n tail tail' d : ℕ} {w w' : List ℕ} → Extended n tail tail' w w' → d < n → Marked w d → Marked w' d
extended_marked {d = d} E h m = λ z. m (sym (E.classes d h m) ∙ z)

pub extended_trans : {n a b c : ℕ} {w w' w'' : List ℕ} → Extended n a b w w' → Extended n b c w' w'' → Extended n a c w w''
extended_trans E F = record {
  queue = F.queue;
  longer = omega (arith, E.longer, F.longer);
  past = F.past ∙ E.past;
  classes = λ d h m. F.classes d h (extended_marked E h m) ∙ E.classes d h m;
  places = λ p h. F.places p (omega (arith, E.longer)) ∙ E.places p h;
}

-- so does the class of a dart that has one, and that of the dart at each place of the queue
module _ {n tail tail' : ℕ} {w w' : List ℕ} (E : Extended n tail tail' w w') where
  pub extended_class : {d : ℕ} → d < n → get_or w d 0 < 2 → get_or w' d 0 ≡ get_or w d 0
  extended_class {d} h h2 = E.classes d h (omega arith)

  pub extended_place : (p : ℕ) → IsQueue n tail w → p < tail → get_or w' (queued n w' p) 0 ≡ get_or w (queued n w p) 0
  extended_place p Q h = ap (λ (x : ℕ). get_or w' x 0) (E.places p h) ∙ extended_class (Q.darts p h) (Q.classes p h)

-- what is new of the queue, for any fact of its darts: it holds from the first place on if it holds of the old darts and of the new
pub queue_parts : {a b c : ℕ} (P : ℕ → Type 0) → ((p : ℕ) → a ≤ p → p < b → P p) → ((p : ℕ) → b ≤ p → p < c → P p) → (p : ℕ) → a ≤ p → p < c → P p
queue_parts {b = b} P old new p ha hc = go (dec_lt p b)
  where
    go : Dec (p < b) → P p
    go (yes h) = old p ha h
    go (no h) = new p (omega arith) hc

-- a dart has come up with a class: it is marked, and no other is new
pub record Entered (n d class tail tail' : ℕ) (w w' : List ℕ) : Type 0 where
  pub on : Extended n tail tail' w w'
  pub marked : Marked w' d
  pub only : (p : ℕ) → tail ≤ p → p < tail' → (queued n w' p ≡ d) × (get_or w' (queued n w' p) 0 ≡ class)

module _ {n tail d m : ℕ} {w : List ℕ} (Q : IsQueue n tail w) (hd : d < n) (hm : m < 2) where
  entered_placed : get_or w d 0 ≡ mark → Entered n d m tail (tail + 1) w (placed n tail d m w)
  entered_placed u = record {
    on = record {
      queue = queue_placed n tail d m w hd ht Q.room Q u hm;
      longer = omega arith;
      past = past_placed n tail d m w hd ht Q.room;
      classes = λ x h y. class_old n tail d m w hd ht Q.room x h (λ e. y (rw e u));
      places = λ p h. dart_old n tail d m w hd ht Q.room p h;
    };
    marked = λ z. let q = class_new n tail d m w hd ht Q.room in omega arith;
    only = λ p h k. let e : p ≡ tail = omega arith in rw (e, new, class_new n tail d m w hd ht Q.room) (refl, refl);
  }
    where
      ht : tail < n
      ht = tail_below Q hd u

      new : queued n (placed n tail d m w) tail ≡ d
      new = dart_new n tail d m w hd ht Q.room

  pub entry : Entered n d m tail (entered_tail w tail d) w (entered_room n w tail d m)
  unfolding entered_tail entered_room
  entry = go (eqb (get_or w d 0) mark) refl
    where
      go : (b : Bool) → eqb (get_or w d 0) mark ≡ b → Entered n d m tail (cond b (tail + 1) tail) w (cond b (placed n tail d m w) w)
      go true q = entered_placed (eqb-true (get_or w d 0) mark q)
      go false q = record { on = extended_refl Q; marked = eqb-false (get_or w d 0) mark q; only = λ p h k. absurd (omega arith) }

-- a queue that is the same after one change and after another, by the number of darts and the room's name
pub same_trans : {n n' n'' a a' a'' : ℕ} → (n' ≡ n) × (a' ≡ a) → (n'' ≡ n') × (a'' ≡ a') → (n'' ≡ n) × (a'' ≡ a)
same_trans (e, b) (e', b') = (e' ∙ e, b' ∙ b)

-- after the classes are blanked nothing is marked
class_blank : (n : ℕ) (w : List ℕ) (d : ℕ) → d < n → get_or (blank n w) d 0 ≡ mark
unfolding blank
class_blank n w d h = get_or-append (replicate n mark) (drop n w) 0 d (simp length-replicate (omega arith)) ∙ get_or-replicate n d mark 0 h

blank_length : (n : ℕ) (w : List ℕ) → n ≤ length w → length (blank n w) ≡ length w
unfolding blank
blank_length n w h = simp (length-append, length-replicate, length-drop) (omega arith)

module _ (n : ℕ) (w w' : List ℕ) (hw : 2 * n ≤ length w) (e : w' ≡ blank n w) where
  pub class_blanked : (d : ℕ) → d < n → get_or w' d 0 ≡ mark
  class_blanked d h = rw e (class_blank n w d h)

  pub queue_blanked : IsQueue n 0 w'
  queue_blanked = record {
    room = rw e (omega (arith, blank_length n w (omega arith)));
    short = omega arith;
    darts = λ p h. absurd (omega arith);
    classes = λ p h. absurd (omega arith);
    once = λ p q h k z. absurd (omega arith);
    entered = λ d h m. absurd (m (class_blanked d h));
  }

  pub none_blanked : (d : ℕ) → d < n → Marked w' d → ⊥
  none_blanked d h m = m (class_blanked d h)

  pub past_blanked : drop (2 * n) w' ≡ drop (2 * n) w
  past_blanked =
      let z : 2 * n ≡ n + n = omega arith in
      rw (e, z, ← drop-drop n n (blank n w), ← drop-drop n n w, drop_blank n w)
