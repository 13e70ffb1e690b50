-- A step as the code tells it: where it is made, the rules' step with any bits that are left, and what it leaves.
use Rattle.std.specs.Prelude.{ℕ, ◌+◌, ◌≤◌, ◌<◌, ◌≡◌, Bool, List, [], get_or, set, Result, Ok, Err}
use Rattle.rules.specs.Map.{by_dart, Limits, place}
use Rattle.rules.specs.Walk.{Walk, Head, head, unknown, Partner, partner, tie, Symbol, apply}
use Rattle.rules.specs.Naming.{naming}
use Rattle.rules.specs.Refusals.{number_of}
use Rattle.rules.specs.Reading.{Run, Step, permitted, fault, allow}
use Rattle.rules.specs.Session.{walk_at}
use Rattle.rules.specs.Inner.{Emptied, Inv}
use Rattle.rules.specs.declared.Form.{Form}
use Rattle.rules.specs.declared.Form.TheVariants.{One}
use Rattle.rules.specs.declared.Cause.{Cause}
use Rattle.rules.specs.declared.Reason.{Reason}
use Rattle.rules.specs.declared.Stand.{Stand}
use Rattle.steps.specs.declared.Next.{Next}

-- the stand of a form and the bodies begun, a count and positions
abbrev pub stand_in : Form → ℕ → ℕ → List ℕ → Stand
stand_in F B k ps = record { count = k; positions = ps; form = F; bodies = B }

-- the stand of a count and positions: a step looks at neither form nor bodies, so what it requires is said of one body
abbrev pub stand : ℕ → List ℕ → Stand
stand k ps = stand_in One 1 k ps

-- aj(b) = e and its reverse, in the tables
abbrev pub tables_joined : ℕ → ℕ → List ℕ → ℕ → ℕ → ℕ → List ℕ
tables_joined N n t j b e = set (set t (place by_dart N n j b) e) (place by_dart N n j e) b

-- what a w says of the dart e: of the walk only the count and the tables are asked
abbrev pub naming_for : ℕ → ℕ → List ℕ → ℕ → ℕ → ℕ → ℕ → Result (Unit {0}) Cause
naming_for N n t count j b e = naming (walk_at by_dart N n (stand count []) t) j b e

-- aj(b) = e was made known, and b has left Lj
pub record Tied (N n : ℕ) (ps t : List ℕ) (j b e : ℕ) (ps' t' : List ℕ) : Type 0 where
  pub positions : ps' ≡ set ps j (b + 1)
  pub tables : t' ≡ tables_joined N n t j b e

-- b is at the head of Lj, and p is to be done for it
pub record HeadCase (N n k : ℕ) (ps t : List ℕ) (j b : ℕ) (p : Partner) : Type 0 where
  pub inv : Inv (walk_at by_dart N n (stand k ps) t)
  pub heads : head (walk_at by_dart N n (stand k ps) t) ≡ Head.at j b
  pub case : partner (walk_at by_dart N n (stand k ps) t) j b ≡ p
  pub limits : Limits N n t
  pub emptied : Emptied k ps j
  pub ranked : j ≤ N
  pub first : get_or ps j 0 ≡ b
  pub below : b < k
  pub within : k ≤ n

-- the rules' step by a deduced partner e, with the bits that are left
abbrev pub deduced_step : ℕ → ℕ → ℕ → Walk → List Bool → Step
deduced_step j b e w rest = allow (unknown w j e) 14 w (tie w j b e) rest

-- the rules' step by a symbol x
abbrev pub symbol_step : ℕ → ℕ → Symbol → Walk → List Bool → Step
symbol_step j b x w rest = allow (permitted w j b x) (fault w j b x) w (apply w j b x) rest

-- a step that goes on
abbrev pub goes_on : ℕ → ℕ → Result Next Reason
goes_on j k = Ok (record { rank = j; count = k })

-- what a step came to with k darts numbered, as the rules tell it in a form with B bodies, by the positions and tables after it; a reason by its number
unfoldable pub told_step : Form → ℕ → ℕ → ℕ → ℕ → Result Next Reason → List ℕ → List ℕ → List Bool → Step
told_step F B N n k (Ok x) ps t rest = Step.goes (walk_at by_dart N n (stand_in F B x.count ps) t) rest
told_step F B N n k (Err r) ps t rest = Step.stops (Run.refused (number_of r) (walk_at by_dart N n (stand_in F B k ps) t))

-- the queues below the rank where a step goes on are empty, and it is not past N
unfoldable pub Lower : ℕ → Result Next Reason → List ℕ → Type 0
Lower N (Ok x) ps = Emptied x.count ps x.rank × (x.rank ≤ N)
Lower N (Err r) ps = Unit

-- the rules' step f was made, in whatever form, with however many bodies, and whatever bits are left
pub record Steps (N n k : ℕ) (ps t : List ℕ) (f : Walk → List Bool → Step) (r : Result Next Reason) (ps' t' : List ℕ) : Type 0 where
  pub tells : (F : Form) (B : ℕ) (rest : List Bool) → told_step F B N n k r ps' t' rest ≡ f (walk_at by_dart N n (stand_in F B k ps) t) rest
  pub lower : Lower N r ps'
