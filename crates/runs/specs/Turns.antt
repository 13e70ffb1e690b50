-- A turn as the code tells it: a walk that may be stepped with the bits at hand, and what a turn leaves.
use Rattle.std.specs.Prelude.{ℕ, ◌≤◌, ◌≡◌, ◌⊎◌, false, List, Result, Ok, Err}
use Rattle.rules.specs.Map.{by_dart}
use Rattle.rules.specs.Walk.{head, due}
use Rattle.rules.specs.Stream.{bits_of, Taken, take_symbol}
use Rattle.rules.specs.Reading.{Run, Step, step_at}
use Rattle.rules.specs.Session.{walk_at}
use Rattle.rules.specs.Inner.{Emptied, Inv, Asks}
use Rattle.rules.specs.declared.Form.{Form}
use Rattle.rules.specs.declared.Stand.{Stand}
use Rattle.symbols.specs.declared.Cursor.{Cursor}
use Rattle.symbols.specs.declared.bits.Bits.{Bits}
use Rattle.symbols.specs.Cursors.{at_hand}
use Rattle.symbols.specs.Bits.{of}
use Rattle.steps.specs.Steps.{stand_in, stand}
use Rattle.runs.specs.declared.Turned.{Turned}
use Rattle.runs.specs.declared.Stop.{Stop}
use Rattle.runs.specs.declared.Stop.TheVariants.{Waits, Refused}

-- a walk that may be stepped: what holds of it, no body is due, and bits wait only where a symbol is asked that they begin
pub record Ready (N n : ℕ) (s : Stand) (c : Cursor) (t : List ℕ) : Type 0 where
  pub inv : Inv (walk_at by_dart N n s t)
  pub rests : due (walk_at by_dart N n s t) ≡ false
  pub dims : 1 ≤ N
  pub begun : (c.waiting ≡ 0) ⊎ Asks (walk_at by_dart N n s t) (bits_of c.waiting c.value)

-- what a turn came to with k darts numbered and the bits c, as the rules tell it in a form with B bodies, by the positions and tables after it
unfoldable pub told_turn : Form → ℕ → ℕ → ℕ → ℕ → Bits → Result Turned Stop → List ℕ → List ℕ → Step
told_turn F B N n k c (Ok x) ps t = Step.goes (walk_at by_dart N n (stand_in F B x.next.count ps) t) (of at_hand x.bits)
told_turn F B N n k c (Err (Waits m)) ps t = Step.stops (Run.waits (walk_at by_dart N n (stand_in F B k ps) t) (of at_hand c))
told_turn F B N n k c (Err (Refused nr)) ps t = Step.stops (Run.refused nr (walk_at by_dart N n (stand_in F B k ps) t))

-- where a turn goes on, the page is the same, its walk may be stepped, the queues below the rank are empty, and it is not past N; where it waits the
-- bits c run out within a symbol
unfoldable pub Again : ℕ → ℕ → Bits → Result Turned Stop → List ℕ → List ℕ → Type 0
Again N n c (Ok x) ps t =
    (x.bits.page.now ≡ c.page.now) × Ready N n (stand x.next.count ps) x.bits.cursor t × Emptied x.next.count ps x.next.rank × (x.next.rank ≤ N)
Again N n c (Err (Waits m)) ps t = take_symbol (of at_hand c) ≡ Taken.short m
Again N n c (Err (Refused nr)) ps t = Unit

-- what a turn leaves: the rules' step in whatever form, with however many bodies; the body that is due after it is not begun yet
pub record Turns (N n k : ℕ) (ps : List ℕ) (c : Bits) (t : List ℕ) (r : Result Turned Stop) (ps' t' : List ℕ) : Type 0 where
  pub tells : (F : Form) (B : ℕ) →
      let w = walk_at by_dart N n (stand_in F B k ps) t in
      told_turn F B N n k c r ps' t' ≡ step_at w (of at_hand c) (head w)
  pub again : Again N n c r ps' t'
