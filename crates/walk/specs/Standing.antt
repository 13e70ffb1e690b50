-- Where the numbering stands on its way, and what it has come to at its end. Its loops go along the walk of the rules step by step and begin each body on
-- their own account, so between the two the body that is due is not begun yet.
use Rattle.std.specs.Prelude.{ℕ, ◌-◌, ◌≤◌, ◌<◌, ◌≡◌, ◌≢◌, true, List, [], ◌∷◌, length, get_or}
use Rattle.rules.specs.declared.Form.{Form}
use Rattle.rules.specs.declared.Form.TheVariants.{Several}
use Rattle.rules.specs.Lists.{number}
use Rattle.rules.specs.Bodies.{Apart}
use Rattle.rules.specs.Map.{by_dart, mark, Reached, all_ranks}
use Rattle.rules.specs.Walk.{Walk, start, head, due, resume, steps, enough, Symbol, Written, write_at, resume_names, Walked, write, names_of}
use Rattle.walk.specs.Numbers.{room_of}

-- a walk over the map m from the root, with the darts of its numbers, as steps and begun bodies have led to it
pub data Along (F : Form) (N n : ℕ) (m : List ℕ) (root : ℕ) : Walk → List ℕ → Type 0 where
  begin : Along F N n m root (start F by_dart N n []) (root ∷ [])
  step : {w w' : Walk} {names names' : List ℕ} {out : List Symbol} → Along F N n m root w names
      → write_at m w names (head w) ≡ Written.wrote out w' names' → Along F N n m root w' names'
  body : {w : Walk} {names : List ℕ} → Along F N n m root w names → due w ≡ true → Along F N n m root (resume w) (resume_names w names)

-- where it stands, by the count and the positions
pub record Walking (F : Form) (N n : ℕ) (m : List ℕ) (root c : ℕ) (ps : List ℕ) : Type 0 where
  pub walk : Walk
  pub names : List ℕ
  pub along : Along F N n m root walk names
  pub count : c ≡ walk.count
  pub positions : ps ≡ walk.positions

-- what it still does
unfoldable pub ahead : {F : Form} {N n : ℕ} {m : List ℕ} {root c : ℕ} {ps : List ℕ} → Walking F N n m root c ps → Walked
ahead {F} {N} {n} {m} {root} {c} {ps} G = write (enough N n - steps G.walk) m (resume G.walk) (resume_names G.walk G.names)

-- where the numbering stands when b bodies are begun; lent is the room that was lent
pub record Going (F : Form) (N n : ℕ) (m : List ℕ) (root : ℕ) (lent : List ℕ) (b c : ℕ) (ps work : List ℕ) : Type 0 where
  pub dart : root < n
  pub walking : Walking F N n m root c ps
  pub bodies : b ≡ walking.walk.bodies
  pub room : work ≡ room_of n walking.names lent

-- it stands somewhere on its way, of some form and from some root
pub record Underway (N n : ℕ) (m : List ℕ) (c : ℕ) (ps work : List ℕ) : Type 0 where
  pub form : Form
  pub root : ℕ
  pub lent : List ℕ
  pub bodies : ℕ
  pub going : Going form N n m root lent bodies c ps work

-- it has gone on in the same body from wherever it stood: the darts that had a number have one, and none is taken back
pub record WentOn (N n : ℕ) (m : List ℕ) (c : ℕ) (ps work : List ℕ) (c' : ℕ) (ps' work' : List ℕ) : Type 0 where
  pub going : (F : Form) (root : ℕ) (lent : List ℕ) (b : ℕ) → Going F N n m root lent b c ps work → Going F N n m root lent b c' ps' work'
  pub keeps : (d : ℕ) → d < n → get_or work d mark ≢ mark → get_or work' d mark ≢ mark
  pub grows : c ≤ c'

-- what is known once r bodies were begun: the several form numbers all darts; where r is 1 those numbered are reached from the root, else some dart is not
pub record Begun (F : Form) (N n : ℕ) (m : List ℕ) (root r : ℕ) : Type 0 where
  pub some : 1 ≤ r
  pub few : r ≤ n
  pub all : F ≡ Several → (d : ℕ) → d < n → number (names_of F by_dart N n m root) d < length (names_of F by_dart N n m root)
  pub reached : r ≡ 1 → (d : ℕ) → number (names_of F by_dart N n m root) d < length (names_of F by_dart N n m root) → Reached by_dart all_ranks N n m root d
  pub apart : 2 ≤ r → Apart by_dart N n m root
