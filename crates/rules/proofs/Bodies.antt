-- Document 02, E6: how the next body is begun. It keeps what holds of a walk and is no step, after it none is due, and in the one-body form none ever is.
-- Rests on Lowest and Walks.
use Prim.Native.Nat.{ℕ, ◌<◌}
use mathlib.Core.Path.{◌≡◌, refl, ◌∙◌}
use mathlib.Core.Bool.{Bool, true, false, ◌&&◌, cond}
use native.Mathlib.Omega.{arith}
use lib.ListN.{get_or}
use lib.Dec.{ltb}
use borrow.Author.Tests.{ltb-true, lt-ltb}
use Rattle.rules.specs.declared.Form.{Form}
use Rattle.rules.specs.declared.Form.TheVariants.{One, Several}
use Rattle.rules.specs.Bodies.{several}
use Rattle.rules.specs.Walk.{Walk, Head, head, link_of, fresh, is_none, due, one_more, resume, steps}
use Rattle.rules.specs.Inner.{gone, bound, Shape, Inv, Emptied, body_due}
use Rattle.rules.proofs.Lists.{and_left, and_right}
use Rattle.rules.proofs.Positions.{over, fresh_shape}
use Rattle.rules.proofs.Lowest.{emptied_none, head_lowest, head_past}
use Rattle.rules.proofs.Links.{Mirror, fresh_mirror}
use Rattle.rules.proofs.Walks.{fresh_inv}

-- what it is that a body is due
pub record Due (w : Walk) : Type 0 where
  pub empty : head w ≡ Head.none
  pub left : w.count < w.darts
  pub form : w.form ≡ Several

is_none_lem : (h : Head) → is_none h ≡ true → h ≡ Head.none
unfolding is_none
is_none_lem Head.none e = refl
is_none_lem (Head.at j b) e = let z : ◌≡◌ {A = ℕ} 0 1 = cc in absurd (omega arith)

is_several : (F : Form) → several F ≡ true → F ≡ Several
unfolding several
is_several One e = let z : ◌≡◌ {A = ℕ} 0 1 = cc in absurd (omega arith)
is_several Several e = refl

different : {F : Form} → F ≡ One → F ≡ Several → ⊥
different o e = let z : ◌≡◌ {A = ℕ} 0 1 = cc in omega arith

pub due_says : (w : Walk) → due w ≡ true → Due w
unfolding due
due_says w e =
    let l = and_left (is_none (head w) && ltb w.count w.darts) (several w.form) e in
    record {
      empty = is_none_lem (head w) (and_left (is_none (head w)) (ltb w.count w.darts) l);
      left = ltb-true w.count w.darts (and_right (is_none (head w)) (ltb w.count w.darts) l);
      form = is_several w.form (and_right (is_none (head w) && ltb w.count w.darts) (several w.form) e);
    }

pub says_due : (w : Walk) → Due w → due w ≡ true
unfolding due is_none several
says_due w d = rw (d.empty, lt-ltb w.count w.darts d.left, d.form)

-- where it is not said, it is not so
pub not_due : (w : Walk) → (Due w → ⊥) → due w ≡ false
not_due w f = go (due w) refl
  where
    go : (t : Bool) → due w ≡ t → t ≡ false
    go false e = refl
    go true e = absurd (f (due_says w e))

-- where a queue isn't empty, no body is due
pub headed_rests : (w : Walk) (j b : ℕ) → head w ≡ Head.at j b → due w ≡ false
headed_rests w j b h = not_due w (λ d. let e = d.empty in let z : ◌≡◌ {A = ℕ} 0 1 = cc in omega arith)

-- in the one-body form none is ever due
pub one_rests : (w : Walk) → w.form ≡ One → due w ≡ false
one_rests w e = not_due w (λ d. different e d.form)

-- by the count and the positions: where the queues below a rank past N are empty, what is due is told by the numbers
pub due_past : (w : Walk) → Shape w → (j : ℕ) → Emptied w.count w.positions j → w.dim < j → due w ≡ body_due w.form w.dim w.darts j w.count
unfolding due is_none body_due
due_past w s j E h = rw (head_past w s j E h, lt-ltb w.dim j h)

-- they say so past the last rank only, and while darts remain
pub past_says : (F : Form) (N n j count : ℕ) → body_due F N n j count ≡ true → (N < j) × (count < n)
unfolding body_due
past_says F N n j count e =
    let l = and_left (ltb N j && ltb count n) (several F) e in
    (ltb-true N j (and_left (ltb N j) (ltb count n) l), ltb-true count n (and_right (ltb N j) (ltb count n) l))

-- where none is due, nothing is begun
pub rested : (w : Walk) → due w ≡ false → resume w ≡ w
unfolding resume
rested w e = rw e

pub begun : (w : Walk) → due w ≡ true → resume w ≡ one_more (fresh w)
unfolding resume
begun w e = rw e

-- the head of a body that is begun is the number that it was given
pub begun_head : (w : Walk) → Shape w → Due w → head (one_more (fresh w)) ≡ Head.at 0 w.count
unfolding fresh one_more gone
begun_head w s d =
    let g : get_or w.positions 0 0 ≡ w.count = over w s d.empty 0 (omega arith) in
    let h = head_lowest (fresh w) (fresh_shape w s d.left) 0 (emptied_none _ _) (omega arith) (omega arith) in
    h ∙ rw g

-- beginning a body keeps what holds of a walk
pub resume_inv : (w : Walk) → Inv w → Inv (resume w)
resume_inv w v = go (due w) refl
  where
    go : (t : Bool) → due w ≡ t → Inv (resume w)
    go false e = rw (rested w e) v
    go true e = rw (begun w e) (
        let d = due_says w e in
        let v' = fresh_inv w v d.left in
        let s = v'.shape in
        let l = v'.links in
        unfold one_more gone bound link_of in record {
          shape = record {
            ranks = s.ranks;
            lanes = s.lanes;
            seven = s.seven;
            table = s.table;
            some = s.some;
            within = s.within;
            small = s.small;
            queue = s.queue;
            fall = s.fall;
            past = s.past;
          };
          links = record { near = l.near; far = l.far; behind = l.behind };
          bodies = unfold fresh in record { some = omega arith; few = omega (arith, v.bodies.few); one = λ o. absurd (different o d.form) };
        })

-- it keeps the form
pub resume_form : (w : Walk) → (resume w).form ≡ w.form
unfolding resume
resume_form w = go (due w)
  where
    go : (t : Bool) → (cond t (one_more (fresh w)) w).form ≡ w.form
    go false = refl
    go true = unfold one_more fresh in refl

-- it is no step
pub resume_steps : (w : Walk) → steps (resume w) ≡ steps w
unfolding resume steps
resume_steps w = go (due w)
  where
    go : (t : Bool) → steps (cond t (one_more (fresh w)) w) ≡ steps w
    go false = refl
    go true = unfold one_more fresh in refl

-- after it none is due
pub resume_rests : (w : Walk) → Shape w → due (resume w) ≡ false
resume_rests w s = go (due w) refl
  where
    go : (t : Bool) → due w ≡ t → due (resume w) ≡ false
    go false e = rw (rested w e) e
    go true e = rw (begun w e) (headed_rests (one_more (fresh w)) 0 w.count (begun_head w s (due_says w e)))

pub resume_mirror : (w : Walk) → Mirror w → Mirror (resume w)
unfolding resume
resume_mirror w m = go (due w)
  where
    go : (t : Bool) → Mirror (cond t (one_more (fresh w)) w)
    go false = m
    go true = let x = fresh_mirror w m in unfold one_more link_of gone in record { back = x.back; ahead = x.ahead }
