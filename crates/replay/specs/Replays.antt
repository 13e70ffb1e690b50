-- The replay: what a step writes is told by walk numbers and positions alone, without queues and without a table of known links. The laws of
-- `proofs/` tie this to the walk of the rules.
use Rattle.std.specs.Prelude.{ℕ, ◌+◌, ◌*◌, ◌-◌, ◌≤◌, ◌<◌, ◌≡◌, List, [], ◌∷◌, ◌++◌, Bool, true, false, ◌||◌, length, eqb, ltb, leb, Option, Some, None}
use Rattle.rules.specs.Lists.{first}
use Rattle.rules.specs.declared.Form.{Form}
use Rattle.rules.specs.Bodies.{Wanted}
use Rattle.rules.specs.Map.{Layout, by_dart, link}
use Rattle.rules.specs.Walk as walk
use Rattle.rules.specs.Check.{numbering}
use Rattle.rules.specs.Symbols.{told_symbol}
use Rattle.rules.specs.declared.Symbol as rules
use Rattle.rules.specs.declared.Symbol.TheVariants.{New, Border, Index}
use Rattle.walk.specs.Numbers.{number_in, dart_in}
use Rattle.walk.specs.Standing.{Walking, ahead}
use Rattle.replay.specs.declared.Replayed.{Replayed}

-- aj(d) is known: d's number or its partner's is below position j
unfoldable pub known_in : Layout → ℕ → ℕ → List ℕ → List ℕ → ℕ → ℕ → ℕ → Bool
known_in Y N n t work j p d = ltb (number_in n work d) p || ltb (number_in n work (link Y N n t j d)) p

-- the first rank i <= j-2 across which aj(d) is deduced, or j-1
unfoldable pub deducing_rank : Layout → ℕ → ℕ → List ℕ → List ℕ → ℕ → ℕ → ℕ → ℕ
deducing_rank Y N n t work j p d = first (λ i. known_in Y N n t work j p (link Y N n t i d)) (j - 1)

-- known, deduced, partner is d itself, partner has no number below the count: the first that holds decides; e is the partner's number
unfoldable pub writes_by : Bool → Bool → Bool → Bool → ℕ → Option rules.Symbol
writes_by true d a u e = None
writes_by false true a u e = None
writes_by false false true u e = Some Border
writes_by false false false true e = Some New
writes_by false false false false e = Some (Index (record { 0 = e }))

-- what a step writes at the head of Lj, the dart numbered p, when c darts are numbered
unfoldable pub writes_in : Layout → ℕ → ℕ → List ℕ → List ℕ → ℕ → ℕ → ℕ → Option rules.Symbol
writes_in Y N n t work c j p =
    let d = dart_in n work p in
    let x = link Y N n t j d in
    let e = number_in n work x in
    writes_by (known_in Y N n t work j p d) (ltb (deducing_rank Y N n t work j p d) (j - 1)) (eqb x d) (leb c e) e

-- how many darts are numbered after it
abbrev pub count_after : Option rules.Symbol → ℕ → ℕ
count_after None c = c
count_after (Some New) c = c + 1
count_after (Some Border) c = c
count_after (Some (Index e)) c = c

-- what a step comes to
abbrev pub replayed_in : Layout → ℕ → ℕ → List ℕ → List ℕ → ℕ → ℕ → ℕ → Replayed
replayed_in Y N n t work c j p = let s = writes_in Y N n t work c j p in record { written = s; count = count_after s c }

-- the symbols that it writes, in the rules' words: none or one
abbrev pub told : Option rules.Symbol → List walk.Symbol
told None = []
told (Some s) = told_symbol s ∷ []

-- what a step asks of the head of its queue, the dart numbered p, when c darts are numbered: a dart that has that number
pub record AtHead (n : ℕ) (work : List ℕ) (c p : ℕ) : Type 0 where
  pub position : p < n
  pub count : c ≤ 4096
  pub room : 2 * n ≤ length work
  pub dart : dart_in n work p < n
  pub own : p ≤ number_in n work (dart_in n work p)

-- the work room holds the whole numbering, from a root, of a map with the bodies that the form wants
pub record NumberedFrom (F : Form) (N n : ℕ) (t : List ℕ) (root : ℕ) (work : List ℕ) : Type 0 where
  pub bodies : Wanted F by_dart N n t root
  pub tail : List ℕ
  pub room : work ≡ numbering F by_dart N n root t ++ tail

-- where a replay stands: along the walk, and the symbols so far and those left are all
pub record Replaying (F : Form) (N n : ℕ) (m : List ℕ) (root c : ℕ) (ps : List ℕ) (ss : List walk.Symbol) : Type 0 where
  pub walking : Walking F N n m root c ps
  pub left : ss ++ (ahead walking).symbols ≡ walk.symbols_of F by_dart N n m root
