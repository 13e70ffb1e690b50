-- What a flood does to the lent work room: the first n entries hold each dart's class, 0 or 1, or the mark;
-- the next n the queue, the darts marked so far, in order.
use Rattle.std.specs.Prelude.{ℕ, ◌+◌, ◌*◌, ◌-◌, ◌≤◌, ◌<◌, ◌≡◌, ◌≢◌, Bool, true, ◌&&◌, ◌||◌, cond, List, length, get_or, set, drop, eqb, ltb, leb}
use mathlib.Core.Path.{sym, ◌∙◌}
use mathlib.Core.HLevel.{is_prop→PathP}
use Rattle.std.specs.Coded.{le_prop}
use native.Mathlib.Nat.{ℕ_set}
use Rattle.rules.specs.Map.{by_dart, mark, link, Reached}
use Rattle.flood.specs.declared.Ranks.{Ranks}

-- a set of ranks: those below `low` and those from `high` on
unfoldable pub kept : Ranks → ℕ → Bool
kept ranks i = ltb i ranks.low || leb ranks.high i

-- the set by where its runs end and begin
abbrev pub runs : ℕ → ℕ → Ranks
runs low high = record { low = low; high = high }

-- all ranks but one
abbrev pub but_one : ℕ → Ranks
but_one skip = record { low = skip; high = skip + 1 }

-- the ranks at least two away from one
abbrev pub two_away : ℕ → Ranks
two_away j = record { low = j - 1; high = j + 2 }

-- the ranks from one up to another
unfoldable pub between : ℕ → ℕ → ℕ → Bool
between from to i = leb from i && ltb i to

-- dart d has a class
abbrev pub Marked : List ℕ → ℕ → Type 0
Marked w d = get_or w d 0 ≢ mark

-- the dart of the queue at place p
abbrev pub queued : ℕ → List ℕ → ℕ → ℕ
queued n w p = get_or w (n + p) 0

-- the work room after a dart has come up: one that has no mark gets its class and enters the queue
unfoldable pub entered_room : ℕ → List ℕ → ℕ → ℕ → ℕ → List ℕ
entered_room n w tail d class = cond (eqb (get_or w d 0) mark) (set (set w d class) (n + tail) d) w

-- the queue's length after it
unfoldable pub entered_tail : List ℕ → ℕ → ℕ → ℕ
entered_tail w tail d = cond (eqb (get_or w d 0) mark) (tail + 1) tail

-- the queue holds each marked dart once and no other dart
pub record IsQueue (n tail : ℕ) (w : List ℕ) : Type 0 where
  pub room : 2 * n ≤ length w
  pub short : tail ≤ n
  pub darts : (p : ℕ) → p < tail → queued n w p < n
  pub classes : (p : ℕ) → p < tail → get_or w (queued n w p) 0 < 2
  pub once : (p q : ℕ) → p < tail → q < tail → queued n w p ≡ queued n w q → p ≡ q
  pub entered : (d : ℕ) → d < n → Marked w d → (p : ℕ) × (p < tail) × (queued n w p ≡ d)

-- a dart stands at one place of it at most
place_prop : (n tail : ℕ) (w : List ℕ) → ((p q : ℕ) → p < tail → q < tail → queued n w p ≡ queued n w q → p ≡ q) → (d : ℕ)
    → IsProp ((p : ℕ) × (p < tail) × (queued n w p ≡ d))
place_prop n tail w once d (p, h, e) (q, k, z) =
    let same = once p q h k (e ∙ sym z) in
    λ i. (same i, is_prop→PathP (λ j. same j < tail) (λ j. le_prop) h k i, is_prop→PathP (λ j. queued n w (same j) ≡ d) (λ j. ℕ_set _ _) e z i)

-- so there is one proof at most that it is a queue, as a struct's ghost field asks
pub queue_prop : (n tail : ℕ) (w : List ℕ) → IsProp (IsQueue n tail w)
queue_prop n tail w Q R =
    let same = λ (d : ℕ). place_prop n tail w Q.once d in λ i. record {
      room = le_prop Q.room R.room i;
      short = le_prop Q.short R.short i;
      darts = λ p h. le_prop (Q.darts p h) (R.darts p h) i;
      classes = λ p h. le_prop (Q.classes p h) (R.classes p h) i;
      once = λ p q h k e. ℕ_set p q (Q.once p q h k e) (R.once p q h k e) i;
      entered = λ d h m. same d (Q.entered d h m) (R.entered d h m) i;
    }

-- one work room has grown into another: what was there stays
pub record Extended (n tail tail' : ℕ) (w w' : List ℕ) : Type 0 where
  pub queue : IsQueue n tail' w'
  pub longer : tail ≤ tail'
  pub past : drop (2 * n) w' ≡ drop (2 * n) w
  pub classes : (d : ℕ) → d < n → Marked w d → get_or w' d 0 ≡ get_or w d 0
  pub places : (p : ℕ) → p < tail → queued n w' p ≡ queued n w p

-- dart e is reached from dart d by links of the ranks kept that join two different darts, and where d has class c it has class m: each link leads to
-- the other class
pub data Linked (keep : ℕ → Bool) (N n : ℕ) (t : List ℕ) (d c : ℕ) : ℕ → ℕ → Type 0 where
  here : Linked keep N n t d c d c
  onward : {e m : ℕ} (i : ℕ) → i ≤ N → keep i ≡ true → link by_dart N n t i e ≢ e → Linked keep N n t d c e m
      → Linked keep N n t d c (link by_dart N n t i e) (1 - m)

-- each dart of the queue from one place up to another is linked so from dart d
abbrev pub Traced : (ℕ → Bool) → ℕ → ℕ → List ℕ → ℕ → ℕ → ℕ → ℕ → List ℕ → Type 0
Traced keep N n t d c from to w = (p : ℕ) → from ≤ p → p < to → Linked keep N n t d c (queued n w p) (get_or w (queued n w p) 0)

-- the links of the ranks kept lead from a dart to marked darts
abbrev pub Around : (ℕ → Bool) → ℕ → ℕ → List ℕ → ℕ → List ℕ → Type 0
Around keep N n t d w = (i : ℕ) → i ≤ N → keep i ≡ true → (link by_dart N n t i d < n) × Marked w (link by_dart N n t i d)

-- they do so from each dart of the queue from one place up to another
abbrev pub Explored : (ℕ → Bool) → ℕ → ℕ → List ℕ → ℕ → ℕ → List ℕ → Type 0
Explored keep N n t from to w = (p : ℕ) → from ≤ p → p < to → Around keep N n t (queued n w p) w

-- the links of the ranks kept lead from a dart to darts
abbrev pub LinksInside : (ℕ → Bool) → ℕ → ℕ → List ℕ → ℕ → Type 0
LinksInside keep N n t d = (i : ℕ) → i ≤ N → keep i ≡ true → link by_dart N n t i d < n

-- all that is reached from a dart by links of the ranks kept is a dart
abbrev pub OrbitInside : (ℕ → Bool) → ℕ → ℕ → List ℕ → ℕ → Type 0
OrbitInside keep N n t d = (e : ℕ) → Reached by_dart keep N n t d e → e < n

-- the links of the ranks kept have been followed from a dart: what is new was reached by them
pub record SpreadFrom (keep : ℕ → Bool) (N n : ℕ) (t : List ℕ) (d tail tail' : ℕ) (w w' : List ℕ) : Type 0 where
  pub on : Extended n tail tail' w w'
  pub traced : Traced keep N n t d (get_or w d 0) tail tail' w'
  pub around : Around keep N n t d w'

-- a flood is on its way: the queue is traced from the start, and explored from the start's place up to the head
pub record Flooding (keep : ℕ → Bool) (N n : ℕ) (t : List ℕ) (start class tail tail' head end : ℕ) (w w' : List ℕ) : Type 0 where
  pub on : Extended n tail' end w w'
  pub begun : tail ≤ head
  pub traced : Traced keep N n t start class tail end w'
  pub explored : Explored keep N n t tail head w'

-- a flood has ended: what is new was reached from the start, and no link of the ranks kept leads from there to a dart with no mark
pub record Flooded (keep : ℕ → Bool) (N n : ℕ) (t : List ℕ) (start class tail tail' : ℕ) (w w' : List ℕ) : Type 0 where
  pub on : Extended n (entered_tail w tail start) tail' (entered_room n w tail start class) w'
  pub traced : Traced keep N n t start class tail tail' w'
  pub explored : Explored keep N n t tail tail' w'

-- the queue from one place up to another is the orbit of a dart: it holds each dart that is reached by links of the ranks kept once, and no other
pub record Orbit (keep : ℕ → Bool) (N n : ℕ) (t : List ℕ) (d from to : ℕ) (w : List ℕ) : Type 0 where
  pub member : (p : ℕ) → from ≤ p → p < to → Reached by_dart keep N n t d (queued n w p)
  pub all : (e : ℕ) → Reached by_dart keep N n t d e → (p : ℕ) × (from ≤ p) × (p < to) × (queued n w p ≡ e)
  pub once : (p q : ℕ) → from ≤ p → p < to → from ≤ q → q < to → queued n w p ≡ queued n w q → p ≡ q
