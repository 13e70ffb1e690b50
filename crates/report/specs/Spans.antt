-- What the report marks on its way: body after body, each one N-cell after another.
use Rattle.std.specs.Prelude.{ℕ, ◌*◌, ◌≤◌, ◌<◌, ◌≡◌, List, length, get_or, drop}
use Rattle.rules.specs.Map.{by_dart, mark, link, Reached, all_ranks, all_but}
use Rattle.rules.specs.Report.{Cell}
use Rattle.rules.specs.Inner.{Picks}
use Rattle.flood.specs.declared.Queue.{Queue}
use Rattle.flood.specs.Queues.{Same}
use Rattle.flood.specs.Flood.{Marked, queued, IsQueue, Linked, Explored}
use Rattle.report.specs.declared.Spanning.{Spanning}

-- every dart below `next` has a class
abbrev pub Begun : ℕ → List ℕ → Type 0
Begun next w = (d : ℕ) → d < next → Marked w d

-- d is a dart that has none
abbrev pub Unmarked : ℕ → List ℕ → ℕ → Type 0
Unmarked n w d = (d < n) × (get_or w d 0 ≡ mark)

-- dart d is linked from the least dart of its body, the root, which is below `next`, and class m says by how many links
pub record Rooted (N n : ℕ) (t : List ℕ) (next d m : ℕ) : Type 0 where
  pub root : ℕ
  pub early : root < next
  pub least : (e : ℕ) → Reached by_dart all_ranks N n t root e → root ≤ e
  pub linked : Linked all_ranks N n t root 0 d m

-- of the bodies of the darts below `next` N-cells are marked, as far as aN leads from the darts of the queue below `head`;
-- they are so many, and each class says by how many links from the body's root
pub record Spun (N n : ℕ) (t : List ℕ) (head tail count next : ℕ) (w : List ℕ) : Type 0 where
  pub queue : IsQueue n tail w
  pub explored : Explored (all_but N) N n t 0 tail w
  pub crossed : (p : ℕ) → p < head → Marked w (link by_dart N n t N (queued n w p))
  pub within : next ≤ n
  pub begun : Begun next w
  pub rooted : (d : ℕ) → d < n → Marked w d → Rooted N n t next d (get_or w d 0)
  pub cells : (l : List ℕ) × (length l ≡ count) × Picks (λ d. (d < n) × Marked w d) (Cell by_dart N n t N) l

-- aN has been followed from all of the queue: the bodies of the darts below `next` are marked and nothing else
abbrev pub Spanned : ℕ → ℕ → List ℕ → ℕ → ℕ → ℕ → List ℕ → Type 0
Spanned N n t tail count next w = Spun N n t tail tail count next w

-- of where the marking stands in its queue
abbrev pub stands {ℓ} : {A : Type ℓ} → (ℕ → ℕ → ℕ → List ℕ → A) → Queue → Spanning → A
stands f q s = f q.tail s.cells s.next q.work.now

-- the marking goes on in the same queue, and what stands past the 2n entries stays
abbrev pub Stays : ℕ → Queue → Queue → Type 0
Stays n q r = Same q r × (drop (2 * n) r.work.now ≡ drop (2 * n) q.work.now)
