-- Document 02, E6, of several bodies: no w joins two, and the report says orientable exactly if every body is. That the bodies begun are the map's is in Sound.
-- Rests on Cells, Causes and Runs.
use Prim.Native.Nat.{ℕ, ◌≤◌, ◌<◌}
use mathlib.Core.Path.{◌≡◌, sym, ◌∙◌}
use mathlib.Core.Logic.{◌≢◌}
use mathlib.Core.Bool.{Bool, true, false, not}
use mathlib.Core.List.{List}
use native.Mathlib.Omega.{arith}
use native.Mathlib.Decide.{dec_lt}
use Rattle.rules.specs.Lists.{first}
use Rattle.rules.specs.Map.{Layout, link, Reached, all_ranks, reaches}
use Rattle.rules.specs.Walk.{Walk, Head, head, Partner, partner, resume, Symbol}
use Rattle.rules.specs.Stream.{Taken, take_symbol}
use Rattle.rules.specs.Reading.{step}
use Rattle.rules.specs.Report.{orientable}
use Rattle.rules.specs.Inner.{Inv}
use Rattle.rules.proofs.Lists.{first_same, first_passes, first_before, not_both}
use Rattle.rules.proofs.Orbits.{Closed, reached_below, reached_trans, reached_sym, reaches_reached, reached_reaches}
use Rattle.rules.proofs.Cells.{orientable_sound, orientable_complete, both_ways}
use Rattle.rules.proofs.Positions.{over}
use Rattle.rules.proofs.Walks.{next_of}
use Rattle.rules.proofs.Bodies.{resume_inv}
use Rattle.rules.proofs.Moves.{resume_grows, grows_trans}
use Rattle.rules.proofs.Causes.{refused_by, told_apart}
use Rattle.rules.proofs.Runs.{Moves, moves_inv, moves_grow}
use Rattle.rules.proofs.Names.{all_kept}

-- Where the queues of w have run empty, every dart numbered so far is linked at each rank; so however the walk goes on, a w that names one of them is
-- refused by 23.
pub no_joining : {w w' : Walk} {outs : List Symbol} → Inv w → head w ≡ Head.none → Moves (resume w) outs w' → (bs : List Bool) (j b e : ℕ) (rest : List Bool)
    → head w' ≡ Head.at j b → partner w' j b ≡ Partner.asked → take_symbol bs ≡ Taken.symbol (Symbol.index e) rest → e < w.count
    → step w' bs ≡ refused_by 23 w'
no_joining {w} {w'} v o ms bs j b e rest h a q l =
    let v' = resume_inv w v in
    let u = moves_inv ms v' in
    let g = grows_trans w (resume w) w' (resume_grows w) (moves_grow ms v') in
    let hj : j ≤ w.dim = omega (arith, (next_of w' u h).next.ranked, g.dim) in
    let k = v.links.behind j e hj (omega (arith, over w v.shape o j hj)) in
    let same = g.keeps j e hj (omega (arith, v.shape.within)) k in
    (told_apart w' u bs j b e rest h a q).linked.1 (λ z. k (sym same ∙ z))

-- the body of dart r is orientable by itself: its darts can be put in two classes so that every ai takes each that it does not leave in place to the other
pub record BodyOrientable (Y : Layout) (N n : ℕ) (t : List ℕ) (r : ℕ) : Type 0 where
  pub class : ℕ → Bool
  pub other : (i d : ℕ) → i ≤ N → Reached Y all_ranks N n t r d → link Y N n t i d ≢ d → class (link Y N n t i d) ≡ not (class d)

module _ {Y : Layout} {N n : ℕ} {t : List ℕ} (C : Closed Y N n t) (h1 : 1 ≤ n) where
  -- a dart's body, told by the least dart of it
  lead : ℕ → ℕ
  lead d = first (reaches Y all_ranks N n t d) n

  lead_reached : (d : ℕ) → d < n → (lead d < n) × Reached Y all_ranks N n t (lead d) d
  unfolding lead
  lead_reached d h = go (dec_lt (lead d) n)
    where
      own : reaches Y all_ranks N n t d d ≡ true
      own = reached_reaches Y all_ranks N n t C d d h Reached.here

      go : Dec (lead d < n) → (lead d < n) × Reached Y all_ranks N n t (lead d) d
      go (yes l) = (l, reached_sym C h (reaches_reached Y all_ranks N n t C d (lead d) h l (first_passes (reaches Y all_ranks N n t d) n l)))
      go (no l) = absurd (not_both _ own (first_before (reaches Y all_ranks N n t d) n d (omega arith)))

  lead_linked : (i d : ℕ) → i ≤ N → d < n → lead (link Y N n t i d) ≡ lead d
  unfolding lead
  lead_linked i d hi hd = first_same (reaches Y all_ranks N n t (link Y N n t i d)) (reaches Y all_ranks N n t d) n (λ e he.
      both_ways _ _
      (λ q. reached_reaches Y all_ranks N n t C d e hd (reached_trans step' (reaches_reached Y all_ranks N n t C (link Y N n t i d) e low he q)))
      (λ q. reached_reaches Y all_ranks N n t C (link Y N n t i d) e low
      (reached_trans (reached_sym C hd step') (reaches_reached Y all_ranks N n t C d e hd he q))))
    where
      low : link Y N n t i d < n
      low = C.inside i d hi hd

      step' : Reached Y all_ranks N n t d (link Y N n t i d)
      step' = Reached.onward i hi (all_kept i) Reached.here

  pub every_body : (orientable Y N n t ≡ true → (r : ℕ) → r < n → BodyOrientable Y N n t r)
      × (((r : ℕ) → r < n → BodyOrientable Y N n t r) → orientable Y N n t ≡ true)
  every_body = (apiece, together)
    where
      apiece : orientable Y N n t ≡ true → (r : ℕ) → r < n → BodyOrientable Y N n t r
      apiece e r h =
          let O = orientable_sound C h1 e in
          record { class = O.class; other = λ i d hi q. O.other i d hi (reached_below C h q) }

      together : ((r : ℕ) → r < n → BodyOrientable Y N n t r) → orientable Y N n t ≡ true
      together B = orientable_complete C h1 (record { class = λ d. class (lead d) d; other = other })
        where
          pick : (r x : ℕ) → Dec (r < n) → Bool
          pick r x (yes h) = (B r h).class x
          pick r x (no h) = false

          class : ℕ → ℕ → Bool
          class r x = pick r x (dec_lt r n)

          turns : (r i d : ℕ) (s : Dec (r < n)) → r < n → i ≤ N → Reached Y all_ranks N n t r d → link Y N n t i d ≢ d
              → pick r (link Y N n t i d) s ≡ not (pick r d s)
          turns r i d (yes h) k hi q ne = (B r h).other i d hi q ne
          turns r i d (no h) k hi q ne = absurd (h k)

          other : (i d : ℕ) → i ≤ N → d < n → link Y N n t i d ≢ d → class (lead (link Y N n t i d)) (link Y N n t i d) ≡ not (class (lead d) d)
          other i d hi hd ne =
              let (l, q) = lead_reached d hd in
              rw (lead_linked i d hi hd) (turns (lead d) i d (dec_lt (lead d) n) l hi q ne)
