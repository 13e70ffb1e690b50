-- A walk over a map as the loops of the numbering and of the replay go along it: where it stands by the count and the positions, a step by the names alone,
-- and what is still to do. Rests on the rules' Names, Numbering and Lowest, and on Rooms.
use Prim.Native.Nat.{ℕ, suc, ◌+◌, ◌-◌, ◌*◌, ◌≤◌, ◌<◌}
use mathlib.Core.Path.{◌≡◌, refl, ap, sym, ◌∙◌}
use mathlib.Core.Bool.{Bool, true, false, cond}
use mathlib.Core.List.{List, [], ◌∷◌, ◌++◌}
use native.Mathlib.Omega.{arith}
use lib.ListN.{length, get_or, length-append}
use lib.Dec.{eqb}
use borrow.Author.Tests.{eqb-true, eqb-false, ne_eqb}
use Rattle.rules.specs.declared.Form.{Form}
use Rattle.rules.specs.Lists.{number, sum}
use Rattle.rules.specs.Map.{by_dart, link, Valid}
use Rattle.rules.specs.Walk.{Walk, start, Head, head, link_of, Partner, partner, pass, join, fresh, due, one_more, resume, tie, steps, Symbol, apply, enough}
use Rattle.rules.specs.Walk.{Written, symbol_of, named, write_symbol, write_with, write_at, least_unnumbered, resume_names, resumed, write_step}
use Rattle.rules.specs.Walk.{Walked, prepend, write_on, write, walked, names_of}
use Rattle.rules.specs.Inner.{Inv, Emptied, Lowest, body_due}
use Rattle.rules.proofs.Lists.{number_le}
use Rattle.rules.proofs.Positions.{Next, Turn, fresh_next}
use Rattle.rules.proofs.Lowest.{emptied_passed, head_lowest, head_past}
use Rattle.rules.proofs.Links.{next_below}
use Rattle.rules.proofs.Walks.{start_inv, sum_set, next_of, pass_inv, tie_inv, fresh_inv, deduced_below}
use Rattle.rules.proofs.Bodies.{headed_rests, due_past, rested, begun, resume_inv, resume_steps, resume_rests}
use Rattle.rules.proofs.Moves.{see_known, see_deduced, Grows, resume_grows}
use Rattle.rules.proofs.Runs.{total, steps_total}
use Rattle.rules.proofs.Readings.{start_rests}
use Rattle.rules.proofs.Names.{name, Names, room, deduced_name}
use Rattle.rules.proofs.Numbering.{After, Kept, after_kept}
use Rattle.walk.specs.Numbers.{number_in, dart_in, positions_after}
use Rattle.walk.specs.Standing.{Along, Walking, ahead}
use Rattle.walk.proofs.Rooms.{Agrees, nameless}

-- the names after a step whose partner is x
abbrev pub names_after : List ℕ → ℕ → List ℕ
names_after names x = cond (nameless names x) (names ++ (x ∷ [])) names

-- a step over a map at the head of Lj, whose partner is x: a new one gets the next number, whatever else is known
pub record WalkStep (m : List ℕ) (w : Walk) (names : List ℕ) (j x : ℕ) : Type 0 where
  pub out : List Symbol
  pub walk : Walk
  pub step : write_at m w names (head w) ≡ Written.wrote out walk (names_after names x)
  pub positions : walk.positions ≡ positions_after j w.positions
  pub count : walk.count ≡ cond (nameless names x) (w.count + 1) w.count
  pub bodies : walk.bodies ≡ w.bodies
  pub inv : Inv walk

-- however a step is told, it leads to the same walk
same_walk : {m : List ℕ} {w : Walk} {names : List ℕ} {j x : ℕ} (S : WalkStep m w names j x) {out : List Symbol} {w' : Walk} {names' : List ℕ}
    → write_at m w names (head w) ≡ Written.wrote out w' names' → S.walk ≡ w'
same_walk S e = let f = sym S.step ∙ e in cc f

module _ (m : List ℕ) (root : ℕ) (w : Walk) (names : List ℕ) (v : Inv w) (M : Names m root w names) (A : Valid w.layout w.dim w.darts m)
    (j b : ℕ) (h : head w ≡ Head.at j b) where
  turn : Turn w j b
  turn = next_of w v h

  below : b < w.count
  below = next_below w v.shape v.links j b turn.next

  -- aj of b's dart
  other : ℕ
  other = link w.layout w.dim w.darts m j (name names b)

  -- the dart of a number has that number
  has_number : (e : ℕ) → e < w.count → name names e ≡ other → nameless names other ≡ false
  has_number e l q = ne_eqb (number names other) (length names) (omega (arith, M.len, M.back e l, ap (number names) q))

  stepped : WalkStep m w names j other
  unfolding write_at write_with write_symbol symbol_of named name apply tie pass join fresh other
  stepped = go (partner w j b) refl
    where
      one : get_or w.positions j 0 + 1 ≡ suc (get_or w.positions j 0)
      one = omega arith

      next : Next w j b
      next = turn.next

      asked : partner w j b ≡ Partner.asked → (s u : Bool) → eqb other (name names b) ≡ s → nameless names other ≡ u → WalkStep m w names j other
      asked p true u q r =
          let z = has_number b below (sym (eqb-true other (name names b) q)) in record {
            out = Symbol.border ∷ [];
            walk = apply w j b Symbol.border;
            step = rw (h, p, q, z);
            positions = rw one;
            count = rw z;
            bodies = refl;
            inv = tie_inv w v j b b next below;
          }
      asked p false true q r =
          let nx = eqb-true (number names other) (length names) r in
          let l = room m root w names v M A other nx (A.inside j (name names b) next.ranked (M.low b below)) in
          record {
            out = Symbol.new ∷ [];
            walk = apply w j b Symbol.new;
            step = rw (h, p, q, r);
            positions = rw one;
            count = rw r (omega arith);
            bodies = refl;
            inv = tie_inv (fresh w) (fresh_inv w v l) j b w.count (fresh_next w v.shape j b next) (omega arith);
          }
      asked p false false q r =
          let s = Symbol.index (number names other) in
          let l : number names other < w.count =
          omega (arith, eqb-false (number names other) (length names) r, number_le names other, M.len) in record {
            out = s ∷ [];
            walk = apply w j b s;
            step = rw (h, p, q, r);
            positions = rw one;
            count = rw r;
            bodies = refl;
            inv = tie_inv w v j b (number names other) next l;
          }

      go : (p : Partner) → partner w j b ≡ p → WalkStep m w names j other
      go Partner.known p =
          let k = see_known w j b p in
          let l = v.links.far j b next.ranked (omega (arith, below, v.shape.within)) k in
          let z = has_number (link_of w j b) l (sym (M.maps j b next.ranked below k)) in
          record { out = []; walk = pass w j b; step = rw (h, p, z); positions = rw one; count = rw z; bodies = refl; inv = pass_inv w v j b next k }
      go (Partner.deduced e) p =
          let d = see_deduced w j b e p in
          let l : e < w.count = rw d.value (deduced_below w v d.i j b turn d.gap d.known) in
          let z = has_number e l (deduced_name m root w names v M A j b e turn d) in
          record { out = []; walk = tie w j b e; step = rw (h, p, z); positions = rw one; count = rw z; bodies = refl; inv = tie_inv w v j b e next l }
      go Partner.asked p = asked p (eqb other (name names b)) (nameless names other) refl refl

  stepped_inv : {out : List Symbol} {w' : Walk} {names' : List ℕ} → write_at m w names (head w) ≡ Written.wrote out w' names' → Inv w'
  stepped_inv e = rw (same_walk stepped e) at stepped.inv

-- a valid map within the limits, and a root
pub record Rooted (N n : ℕ) (m : List ℕ) (root : ℕ) : Type 0 where
  pub ranks : N ≤ 6
  pub small : n ≤ 4096
  pub dart : root < n
  pub valid : Valid by_dart N n m

-- where no body is due, none is begun over a map either
rested_names : (w : Walk) (names : List ℕ) → due w ≡ false → resume_names w names ≡ names
unfolding resume_names
rested_names w names e = rw e

begun_names : (w : Walk) (names : List ℕ) → due w ≡ true → resume_names w names ≡ names ++ (least_unnumbered w.darts names ∷ [])
unfolding resume_names
begun_names w names e = rw e

-- the names of a walk before a body is begun are as many as its count
resumed_length : (w : Walk) (names : List ℕ) → length (resume_names w names) ≡ (resume w).count → length names ≡ w.count
unfolding resume_names resume
resumed_length w names = go (due w)
  where
    go : (t : Bool) → length (cond t (names ++ (least_unnumbered w.darts names ∷ [])) names) ≡ (cond t (one_more (fresh w)) w).count
        → length names ≡ w.count
    go false e = e
    go true e = unfold one_more fresh in omega (arith, simp length-append at e)

-- what a walk along the map has come to: in the walk of the definition the body that is due is begun at once
record Came (F : Form) (N n : ℕ) (m : List ℕ) (root : ℕ) (w : Walk) (names : List ℕ) : Type 0 where
  inv : Inv w
  after : After F by_dart N n m root (steps w) (resume w) (resume_names w names)

-- a step is the first of what the walk does, and nothing is done where no queue has a head
write_next : (f : ℕ) (m : List ℕ) (w w' : Walk) (names names' : List ℕ) (out : List Symbol) → write_step m w names ≡ Written.wrote out w' names'
    → write (suc f) m w names ≡ prepend out (write f m w' names')
unfolding write write_on
write_next f m w w' names names' out e = rw e

write_end : (f : ℕ) (m : List ℕ) (w : Walk) (names : List ℕ) → head w ≡ Head.none → write (suc f) m w names ≡ record { symbols = []; names = names }
unfolding write write_on write_step resumed write_at
write_end f m w names o = rw o

-- both as the walk counts its steps
ahead_next : (N n : ℕ) (m : List ℕ) (k : ℕ) (w w' : Walk) (names names' : List ℕ) (out : List Symbol) → k < enough N n
    → write_step m w names ≡ Written.wrote out w' names'
    → write (enough N n - k) m w names ≡ prepend out (write (enough N n - suc k) m w' names')
ahead_next N n m k w w' names names' out l e =
    let f : enough N n - k ≡ suc (enough N n - suc k) = omega arith in
    ap (λ (x : ℕ). write x m w names) f ∙ write_next (enough N n - suc k) m w w' names names' out e

-- a step, with the body begun that is due after it
step_resumed : (m : List ℕ) (w : Walk) (names : List ℕ) {w' : Walk} {names' : List ℕ} {out : List Symbol}
    → write_at m w names (head w) ≡ Written.wrote out w' names'
    → write_step m w names ≡ Written.wrote out (resume w') (resume_names w' names')
unfolding write_step resumed
step_resumed m w names e = rw e

-- the start: all is still to do
module _ (F : Form) {N n : ℕ} {m : List ℕ} {root : ℕ} (P : Rooted N n m root) where
  unfoldable pub walking_starts : Walking F N n m root 1 (0 ∷ 0 ∷ 0 ∷ 0 ∷ 0 ∷ 0 ∷ 0 ∷ [])
  unfolding start
  walking_starts = record { walk = start F by_dart N n []; names = root ∷ []; along = Along.begin; count = refl; positions = refl }

  pub starts_ahead : ahead walking_starts ≡ walked F by_dart N n m root
  unfolding ahead walking_starts walked
  starts_ahead =
      let w = start F by_dart N n [] in
      let r = start_rests F by_dart N n [] in
      let z : steps w ≡ 0 = unfold steps start sum in refl in
      let z' : enough N n - 0 ≡ enough N n = omega arith in
      rw (rested w r, rested_names w (root ∷ []) r, z, z')

module _ {F : Form} {N n : ℕ} {m : List ℕ} {root : ℕ} (P : Rooted N n m root) where
  keeps : {k : ℕ} {w : Walk} {names : List ℕ} → After F by_dart N n m root k w names → Kept F by_dart N n m root k w names
  keeps a = after_kept F by_dart N n m root P.ranks P.small P.dart P.valid a

  -- fewer steps are done than would be enough
  after_less : {k : ℕ} {w : Walk} {names : List ℕ} → After F by_dart N n m root k w names → k < enough N n
  unfolding enough steps
  after_less {k} {w} {names} a =
      let K = keeps a in
      let t : sum w.positions ≤ suc w.dim * w.darts = unfold total in steps_total w K.inv in
      let t' : k ≤ suc N * n = rw (K.done, K.dim, K.darts) at t in
      omega arith

  -- the names at the end are those of the whole walk
  after_names : {k : ℕ} {w : Walk} {names : List ℕ} → After F by_dart N n m root k w names
      → (write (enough N n - k) m w names).names ≡ names_of F by_dart N n m root
  unfolding names_of walked prepend
  after_names After.begin = let z : enough N n - 0 ≡ enough N n = omega arith in rw z
  after_names (After.next {k} {w} {w'} {names} {names'} {out} a e) =
      sym (ap (λ (x : Walked). x.names) (ahead_next N n m k w w' names names' out (after_less a) e)) ∙ after_names a

  -- at a head no body is due, so that the walk is the definition's own
  rests : {w : Walk} {names : List ℕ} → Came F N n m root w names → due w ≡ false → After F by_dart N n m root (steps w) w names
  rests {w} {names} C r = rw (rested w r, rested_names w names r) at C.after

  steps_came : {w w' : Walk} {names names' : List ℕ} {out : List Symbol} → After F by_dart N n m root (steps w) w names
      → write_at m w names (head w) ≡ Written.wrote out w' names' → steps w' ≡ suc (steps w)
  steps_came {w} {w'} {names} {names'} {out} a e =
      sym (resume_steps w') ∙ (keeps (After.next {w' = resume w'} {names' = resume_names w' names'} {out = out} a (step_resumed m w names e))).done

  came : {w : Walk} {names : List ℕ} → Along F N n m root w names → Came F N n m root w names
  came Along.begin =
      let w = start F by_dart N n [] in
      let r = start_rests F by_dart N n [] in
      let z : steps w ≡ 0 = unfold steps start sum in refl in
      record {
        inv = start_inv F by_dart N n [] (omega (arith, P.dart)) P.small P.ranks;
        after = rw (rested w r, rested_names w (root ∷ []) r, z) After.begin;
      }
  came (Along.step {w} {w'} {names} {names'} {out} a e) = go (came a) (head w) refl e
    where
      go : Came F N n m root w names → (h : Head) → head w ≡ h → write_at m w names (head w) ≡ Written.wrote out w' names' → Came F N n m root w' names'
      go C Head.none h e =
          let y : Written.finished ≡ Written.wrote out w' names' = unfold write_at in (rw h at e) in
          let z : ◌≡◌ {A = ℕ} 0 1 = cc y in
          absurd (omega arith)
      go C (Head.at j b) h e =
          let x = rests C (headed_rests w j b h) in
          let K = keeps x in
          record {
            inv = stepped_inv m root w names C.inv K.named (rw (K.layout, K.dim, K.darts) P.valid) j b h e;
            after = rw (steps_came x e) (After.next x (step_resumed m w names e));
          }
  came (Along.body {w} {names} a d) =
      let C = came a in
      let r = resume_rests w C.inv.shape in
      record {
        inv = resume_inv w C.inv;
        after = rw (rested (resume w) r, rested_names (resume w) (resume_names w names) r, resume_steps w) C.after;
      }

  module _ {c : ℕ} {ps : List ℕ} (G : Walking F N n m root c ps) where
    -- what holds of it: always, and where no body is due
    pub inv_now : Inv G.walk
    inv_now = (came G.along).inv

    kept_resumed : Kept F by_dart N n m root (steps G.walk) (resume G.walk) (resume_names G.walk G.names)
    kept_resumed = keeps (came G.along).after

    grows : Grows G.walk (resume G.walk)
    grows = resume_grows G.walk

    dim_now : G.walk.dim ≡ N
    dim_now = sym grows.dim ∙ kept_resumed.dim

    pub darts_now : G.walk.darts ≡ n
    darts_now = sym grows.darts ∙ kept_resumed.darts

    pub form_now : G.walk.form ≡ F
    form_now = sym grows.form ∙ kept_resumed.form

    pub kept : due G.walk ≡ false → Kept F by_dart N n m root (steps G.walk) G.walk G.names
    kept r = keeps (rests (came G.along) r)

    pub count_names : c ≡ length G.names
    count_names = G.count ∙ sym (resumed_length G.walk G.names kept_resumed.named.len)

    pub names_le : length G.names ≤ n
    names_le = omega (arith, count_names, G.count, inv_now.shape.within, darts_now)

    pub ends_named : (ahead G).names ≡ names_of F by_dart N n m root
    unfolding ahead
    ends_named = after_names (came G.along).after

    -- past the last rank all queues are empty
    module _ (j : ℕ) (E : Emptied c ps j) (h : N < j) where
      pub head_over : head G.walk ≡ Head.none
      head_over = head_past G.walk inv_now.shape j (rw (G.count, G.positions) at E) (omega (arith, dim_now))

      -- whether a body is due there is told by the numbers
      pub due_over : due G.walk ≡ body_due F N n j c
      due_over =
          due_past G.walk inv_now.shape j (rw (G.count, G.positions) at E) (omega (arith, dim_now))
          ∙ rw (form_now, dim_now, darts_now, ← G.count)

      -- the end: nothing is left to do
      pub walking_over : due G.walk ≡ false → ahead G ≡ record { symbols = []; names = G.names }
      unfolding ahead
      walking_over r =
          let f : enough N n - steps G.walk ≡ suc (enough N n - suc (steps G.walk)) = omega (arith, after_less (came G.along).after) in
          rw (rested G.walk r, rested_names G.walk G.names r, f) (write_end (enough N n - suc (steps G.walk)) m G.walk G.names head_over)

    -- a body is begun, and the walk still does the same
    pub record Begins : Type 0 where
      pub next : Walking F N n m root (c + 1) ps
      pub named : next.names ≡ G.names ++ (least_unnumbered n G.names ∷ [])
      pub bodies : next.walk.bodies ≡ G.walk.bodies + 1
      pub same : ahead next ≡ ahead G

    pub walking_begins : due G.walk ≡ true → Begins
    unfolding ahead
    walking_begins d =
        let w = G.walk in
        let r = resume_rests w inv_now.shape in record {
          next = record {
            walk = resume w;
            names = resume_names w G.names;
            along = Along.body G.along d;
            count = rw (begun w d) (unfold one_more fresh in omega (arith, G.count));
            positions = rw (begun w d) (unfold one_more fresh in G.positions);
          };
          named = rw (← darts_now) (begun_names w G.names d);
          bodies = rw (begun w d) (unfold one_more fresh in omega arith);
          same = rw (rested (resume w) r, rested_names (resume w) (resume_names w G.names) r, resume_steps w);
        }

    -- a turn at the lowest queue that isn't empty
    module _ (j : ℕ) (e : Lowest N c ps j) where
      -- the partner of the head, by its name
      unfoldable pub partner_named : ℕ
      partner_named = link by_dart N n m j (name G.names (get_or ps j 0))

      pub walking_head : head G.walk ≡ Head.at j (get_or ps j 0)
      walking_head =
          let E : Emptied G.walk.count G.walk.positions j = rw (G.count, G.positions) at e.lower in
          let l : get_or G.walk.positions j 0 < G.walk.count = rw (G.count, G.positions) at e.some in
          rw G.positions (head_lowest G.walk inv_now.shape j E (omega (arith, e.ranked, dim_now)) l)

      walking_rests : due G.walk ≡ false
      walking_rests = headed_rests G.walk j (get_or ps j 0) walking_head

      pub kept_turn : Kept F by_dart N n m root (steps G.walk) G.walk G.names
      kept_turn = kept walking_rests

      pub name_low : (b : ℕ) → b < length G.names → name G.names b < n
      name_low b h = rw darts_now at (kept_turn.named.low b (omega (arith, kept_turn.named.len)))

      -- it is numbered, and at most n are
      pub walking_heads : (get_or ps j 0 < length G.names) × (get_or ps j 0 < n) × (c ≤ n)
      walking_heads = (omega (arith, e.some, count_names), omega (arith, e.some, count_names, names_le), omega (arith, count_names, names_le))

      -- each turn brings the walk nearer to its end
      pub walking_less : {ps' : List ℕ} → ps' ≡ positions_after j ps → enough N n - sum ps' < enough N n - sum ps
      unfolding steps
      walking_less {ps'} ep =
          let d : sum ps ≡ steps G.walk = rw G.positions in
          let l : j < length ps = omega (arith, ap length G.positions, inv_now.shape.seven, inv_now.shape.ranks, dim_now, e.ranked) in
          let q : get_or ps j 0 + 1 ≡ suc (get_or ps j 0) = omega arith in
          let r : sum ps' ≡ suc (sum ps) = rw (ep, q) (sum_set ps j l) in
          omega (arith, after_less (came G.along).after)

      -- the head's dart and its own number, in any room that agrees with the names
      pub walking_own : (room : List ℕ) → Agrees n G.names room
          → (dart_in n room (get_or ps j 0) ≡ name G.names (get_or ps j 0)) × (dart_in n room (get_or ps j 0) < n)
          × (number_in n room (dart_in n room (get_or ps j 0)) ≡ get_or ps j 0)
      walking_own room R =
          let l = walking_heads.0 in
          let d = R.dart (get_or ps j 0) l in
          let q = kept_turn.named.back (get_or ps j 0) (omega (arith, kept_turn.named.len)) in
          (d, rw d (name_low (get_or ps j 0) l), rw d (R.numbered (name G.names (get_or ps j 0)) (omega arith) ∙ q))

      -- the step
      pub walking_stepped : WalkStep m G.walk G.names j partner_named
      unfolding partner_named other
      walking_stepped =
          let K = kept_turn in
          rw (← K.layout, ← K.dim, ← K.darts)
          (stepped m root G.walk G.names K.inv K.named (rw (K.layout, K.dim, K.darts) P.valid) j (get_or ps j 0) walking_head)

      -- where it leads, for any way to tell it, and what it does first
      pub record Onward (c' : ℕ) (out : List Symbol) (names' : List ℕ) : Type 0 where
        pub next : Walking F N n m root c' (positions_after j ps)
        pub named : next.names ≡ names'
        pub bodies : next.walk.bodies ≡ G.walk.bodies
        pub first : ahead G ≡ prepend out (ahead next)

      pub walking_on : {out : List Symbol} {w' : Walk} {names' : List ℕ} → write_at m G.walk G.names (head G.walk) ≡ Written.wrote out w' names'
          → (c' : ℕ) → c' ≡ w'.count → Onward c' out names'
      unfolding ahead
      walking_on {out} {w'} {names'} s c' ec =
          let w = G.walk in
          let S = walking_stepped in
          let q = same_walk S s in
          let x = rests (came G.along) walking_rests in
          record {
            next = record {
              walk = w';
              names = names';
              along = Along.step G.along s;
              count = ec;
              positions = ap (positions_after j) G.positions ∙ (sym S.positions ∙ ap (λ (y : Walk). y.positions) q);
            };
            named = refl;
            bodies = sym (ap (λ (y : Walk). y.bodies) q) ∙ S.bodies;
            first =
                rw (rested w walking_rests, rested_names w G.names walking_rests, steps_came x s)
                (ahead_next N n m (steps w) w (resume w') G.names (resume_names w' names') out (after_less x) (step_resumed m w G.names s));
          }

-- a step at Lj that leaves the count leaves the queues below empty
pub emptied_after : {c c' : ℕ} {ps ps' : List ℕ} (j : ℕ) → Emptied c ps j → ps' ≡ positions_after j ps → c' ≡ c → Emptied c' ps' j
emptied_after {c} {c'} {ps} {ps'} j E q e = rw (e, q) (emptied_passed c ps j (get_or ps j 0 + 1) E)
