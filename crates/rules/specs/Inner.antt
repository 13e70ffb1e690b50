-- What the inner contracts say of a walk on its way and of classes. No public contract uses these; the laws of `proofs/` tie them to the definitions that do.
use Rattle.std.specs.Prelude.{ℕ, suc, ◌≤◌, ◌<◌, ◌≡◌, ◌≢◌, Bool, true, ◌&&◌, List, [], ◌∷◌, length, get_or, ltb}
use Rattle.rules.specs.declared.Form.{Form}
use Rattle.rules.specs.declared.Form.TheVariants.{One}
use Rattle.rules.specs.Bodies.{several}
use Rattle.rules.specs.Lists.{range}
use Rattle.rules.specs.Map.{mark, size}
use Rattle.rules.specs.Walk.{Walk, Head, head, link_of, Partner, partner}
use Rattle.rules.specs.Session.{begins}

-- how many darts have left Li
unfoldable pub gone : Walk → ℕ → ℕ
gone w i = get_or w.positions i 0

-- how many have entered it
unfoldable pub bound : Walk → ℕ → ℕ
bound w i = get_or (w.count ∷ w.positions) i 0

-- the queues are ranges of walk numbers between positions, which fall by rank, and the tables have room
pub record Shape (w : Walk) : Type 0 where
  pub ranks : w.dim ≤ 6
  pub lanes : length w.queues ≡ suc w.dim
  pub seven : length w.positions ≡ 7
  pub table : size w.dim w.darts ≤ length w.links
  pub some : 1 ≤ w.count
  pub within : w.count ≤ w.darts
  pub small : w.darts ≤ 4096
  pub queue : (i : ℕ) → i ≤ w.dim → get_or w.queues i [] ≡ range (gone w i) (bound w i)
  pub fall : (i : ℕ) → i ≤ w.dim → gone w i ≤ bound w i
  pub past : (i : ℕ) → w.dim < i → gone w i ≡ 0

-- what a fit table holds: entries only of numbered darts, of numbers below count, and none missing behind a position
pub record Links (w : Walk) : Type 0 where
  pub near : (i d : ℕ) → i ≤ w.dim → d < w.darts → link_of w i d ≢ mark → d < w.count
  pub far : (i d : ℕ) → i ≤ w.dim → d < w.darts → link_of w i d ≢ mark → link_of w i d < w.count
  pub behind : (i d : ℕ) → i ≤ w.dim → d < gone w i → link_of w i d ≢ mark

-- how many bodies are begun: at least one, no more than are numbered, and in the one-body form no other
pub record Bodies (w : Walk) : Type 0 where
  pub some : 1 ≤ w.bodies
  pub few : w.bodies ≤ w.count
  pub one : w.form ≡ One → w.bodies ≡ 1

-- what holds of every walk that goes on from a fit session
pub record Inv (w : Walk) : Type 0 where
  pub shape : Shape w
  pub links : Links w
  pub bodies : Bodies w

-- what waits is the start of one symbol that the next step needs
pub record Asks (w : Walk) (bs : List Bool) : Type 0 where
  pub rank : ℕ
  pub dart : ℕ
  pub next : head w ≡ Head.at rank dart
  pub needs : partner w rank dart ≡ Partner.asked
  pub begun : begins bs ≡ true

-- the queues below Lj are empty
pub record Emptied (count : ℕ) (positions : List ℕ) (j : ℕ) : Type 0 where
  pub lower : (i : ℕ) → i < j → count ≤ get_or positions i 0

-- Lj is the lowest queue that isn't empty
pub record Lowest (N count : ℕ) (positions : List ℕ) (j : ℕ) : Type 0 where
  pub ranked : j ≤ N
  pub lower : Emptied count positions j
  pub some : get_or positions j 0 < count

-- with the queues below Lj empty, the next body is due: j is past N, darts remain, and the form is several
unfoldable pub body_due : Form → ℕ → ℕ → ℕ → ℕ → Bool
body_due F N n j count = ltb N j && ltb count n && several F

-- a list that picks one of each class: its entries are in the set, each of the set is in the class of some entry, two places of one class are one place
pub record Picks (Set : ℕ → Type 0) (Same : ℕ → ℕ → Type 0) (l : List ℕ) : Type 0 where
  pub member : (p : ℕ) → p < length l → Set (get_or l p 0)
  pub all : (x : ℕ) → Set x → (p : ℕ) × (p < length l) × Same (get_or l p 0) x
  pub once : (p q : ℕ) → p < length l → q < length l → Same (get_or l p 0) (get_or l q 0) → p ≡ q
