-- The replay goes along the walk of the rules: each turn writes what the walk writes, and what is left to write falls by just that. Rests on Cases and
-- Finished.
use Prim.Native.Nat.{ℕ, ◌+◌, ◌*◌, ◌≤◌, ◌<◌}
use mathlib.Core.Path.{◌≡◌, refl, ap, sym, ◌∙◌}
use mathlib.Core.Bool.{Bool, true, false}
use mathlib.Core.List.{List, [], ◌∷◌, ◌++◌, append_assoc, append-nil}
use native.Mathlib.Omega.{arith}
use lib.ListN.{length, get_or}
use lib.Dec.{leb}
use borrow.Author.Tests.{leb-false}
use Rattle.rules.specs.declared.Form.{Form}
use Rattle.rules.specs.declared.WalkNo.{WalkNo}
use Rattle.std.specs.Prelude.{Option, Some, None}
use Rattle.rules.specs.declared.Symbol as rules
use Rattle.rules.specs.declared.Symbol.TheVariants.{New, Border, Index}
use Rattle.rules.specs.Map.{by_dart, link, Valid}
use Rattle.rules.specs.Walk.{Walk, Symbol}
use Rattle.rules.specs.Walk.{Walked, prepend, symbols_of}
use Rattle.rules.specs.Inner.{Emptied, Lowest, body_due}
use Rattle.walk.specs.Numbers.{number_in, dart_in, positions_after}
use Rattle.walk.proofs.Rooms.{Agrees}
use Rattle.walk.specs.Standing.{ahead}
use Rattle.walk.proofs.Walking.{Rooted, walking_starts, starts_ahead, due_over, walking_over, walking_begins, kept_turn}
use Rattle.walk.proofs.Walking.{walking_head, walking_heads, walking_own, walking_on}
use Rattle.replay.specs.declared.Replayed.{Replayed}
use Rattle.replay.specs.Replays.{writes_by, writes_in, count_after, replayed_in, told, AtHead, NumberedFrom, Replaying}
use Rattle.replay.proofs.Cases.{Stepping, steps_written}
use Rattle.replay.proofs.Finished.{agrees_now}

-- a walk number that is written is below the count
index_below_by : (k d a u : Bool) (e c : ℕ) (x : WalkNo) → leb c e ≡ u → writes_by k d a u e ≡ Some (Index x) → x.0 < c
unfolding writes_by
index_below_by true d a u e c x q h = let z : ◌≡◌ {A = ℕ} 0 1 = cc in absurd (omega arith)
index_below_by false true a u e c x q h = let z : ◌≡◌ {A = ℕ} 0 1 = cc in absurd (omega arith)
index_below_by false false true u e c x q h = let z : ◌≡◌ {A = ℕ} 0 1 = cc in absurd (omega arith)
index_below_by false false false true e c x q h = let z : ◌≡◌ {A = ℕ} 0 1 = cc in absurd (omega arith)
index_below_by false false false false e c x q h = let z : e ≡ x.0 = cc in omega (arith, leb-false c e q)

pub index_below : (N n : ℕ) (t work : List ℕ) (c j p : ℕ) (x : WalkNo) → writes_in by_dart N n t work c j p ≡ Some (Index x) → x.0 < c
unfolding writes_in
index_below N n t work c j p x h =
    index_below_by _ _ _ (leb c (number_in n work (link by_dart N n t j (dart_in n work p)))) (number_in n work (link by_dart N n t j (dart_in n work p)))
    c x refl h

-- no step takes a number back
count_grows : (s : Option rules.Symbol) (c : ℕ) → c ≤ count_after s c
count_grows None c = omega arith
count_grows (Some New) c = omega arith
count_grows (Some Border) c = omega arith
count_grows (Some (Index x)) c = omega arith

pub count_later : (N n : ℕ) (t work : List ℕ) (c j p : ℕ) (r : Replayed) → r ≡ replayed_in by_dart N n t work c j p → c ≤ r.count
count_later N n t work c j p r e = rw e (count_grows (writes_in by_dart N n t work c j p) c)

stepping_same : {N n : ℕ} {m : List ℕ} {w : Walk} {names : List ℕ} (work : List ℕ) {c : ℕ} (j p : ℕ) → w.layout ≡ by_dart → w.dim ≡ N → w.darts ≡ n
    → c ≡ w.count
    → Stepping m w names (writes_in w.layout w.dim w.darts m work w.count j p) → Stepping m w names (writes_in by_dart N n m work c j p)
stepping_same work j p y d e f x = rw (← y, ← d, ← e, f) x

-- over a finished numbering
module _ {F : Form} {N n : ℕ} {m : List ℕ} {root : ℕ} (P : Rooted N n m root) {work : List ℕ} (Q : NumberedFrom F N n m root work) where
  pub replay_starts : Replaying F N n m root 1 (0 ∷ 0 ∷ 0 ∷ 0 ∷ 0 ∷ 0 ∷ 0 ∷ []) []
  unfolding symbols_of
  replay_starts = record { walking = walking_starts F P; left = ap (λ (x : Walked). x.symbols) (starts_ahead F P) }

  module _ {c : ℕ} {ps : List ℕ} {ss : List Symbol} (R : Replaying F N n m root c ps ss) where
    -- past the last rank, where all queues are empty
    module _ (j : ℕ) (E : Emptied c ps j) (h : N < j) where
      -- the end, where no body is due: these are all symbols
      pub replay_ends : body_due F N n j c ≡ false → ss ≡ symbols_of F by_dart N n m root
      replay_ends r =
          let G = R.walking in
          let q : (ahead G).symbols ≡ [] = ap (λ (x : Walked). x.symbols) (walking_over P G j E h (due_over P G j E h ∙ r)) in
          sym (append-nil ss) ∙ rw q at R.left

      -- where one is due, the next body begins with one dart more and no symbol
      pub replay_begins : body_due F N n j c ≡ true → Replaying F N n m root (c + 1) ps ss
      replay_begins d =
          let B = walking_begins P R.walking (due_over P R.walking j E h ∙ d) in
          record { walking = B.next; left = ap (λ (x : Walked). ss ++ x.symbols) B.same ∙ R.left }

    -- a turn at the lowest queue that isn't empty
    module _ (j : ℕ) (e : Lowest N c ps j) where
      -- all that a step asks
      pub replay_served : 2 * n ≤ length work → AtHead n work c (get_or ps j 0)
      replay_served hw =
          let h = walking_heads P R.walking j e in
          let o = walking_own P R.walking j e work (agrees_now P Q R.walking) in
          record { position = h.1; count = omega (arith, h.2, P.small); room = hw; dart = o.1; own = omega (arith, o.2) }

      -- a step of the rules writes what the numbers tell
      stepping : Stepping m R.walking.walk R.walking.names (writes_in by_dart N n m work c j (get_or ps j 0))
      stepping =
          let K = kept_turn P R.walking j e in
          let A : Valid R.walking.walk.layout R.walking.walk.dim R.walking.walk.darts m = rw (K.layout, K.dim, K.darts) P.valid in
          let G : Agrees R.walking.walk.darts R.walking.names work = rw K.darts (agrees_now P Q R.walking) in
          let h = walking_head P R.walking j e in
          stepping_same work j (get_or ps j 0) K.layout K.dim K.darts R.walking.count
          (steps_written m root R.walking.walk R.walking.names work K.inv K.named A G j (get_or ps j 0) h)

      -- the turn itself
      pub replay_goes : let s = writes_in by_dart N n m work c j (get_or ps j 0) in
          Replaying F N n m root (count_after s c) (positions_after j ps) (ss ++ told s)
      unfolding prepend
      replay_goes =
          let s = writes_in by_dart N n m work c j (get_or ps j 0) in
          let y = stepping in
          let O = walking_on P R.walking j e y.step (count_after s c) (ap (count_after s) R.walking.count ∙ sym y.count) in
          let q : (ahead R.walking).symbols ≡ told s ++ (ahead O.next).symbols = ap (λ (x : Walked). x.symbols) O.first in
          record { walking = O.next; left = rw (append_assoc, ← q) R.left }
