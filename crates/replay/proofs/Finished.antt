-- A finished numbering agrees with the names of every turn of the walk that made it: names only grow. Rests on the rules' Numbering and the walk's Walking.
use Prim.Native.Nat.{ℕ, zero, suc, ◌+◌, ◌-◌, ◌≤◌, ◌<◌}
use mathlib.Core.Path.{◌≡◌, refl, ap, sym, ◌∙◌}
use mathlib.Core.Bool.{Bool, true, false, cond}
use mathlib.Core.List.{List, [], ◌∷◌, ◌++◌, append_assoc, append-nil}
use native.Mathlib.Omega.{arith}
use native.Mathlib.Decide.{dec_lt}
use lib.ListN.{length, length-append, get_or-append}
use lib.Seq.{get_or-append-add}
use lib.Dec.{eqb}
use borrow.Author.Tests.{lt-ltb, le-ltb}
use Rattle.rules.specs.declared.Form.{Form}
use Rattle.rules.specs.Lists.{list_of, number}
use Rattle.rules.specs.Map.{by_dart, mark, Valid, Limits}
use Rattle.rules.specs.Walk.{Walk, Head, head, Partner, partner, Symbol, enough, Written, symbol_of, named, write_symbol, write_with, write_at, write_step}
use Rattle.rules.specs.Walk.{due, resume, steps, least_unnumbered, resume_names, resumed, prepend, write_on, write, names_of}
use Rattle.rules.specs.Check.{numbering}
use Rattle.rules.proofs.Lists.{length_list_of, get_d_list_of}
use Rattle.rules.proofs.Check.{wanted_rooted}
use Rattle.rules.proofs.Names.{name}
use Rattle.rules.proofs.Numbering.{name_number, name_below, names_all}
use Rattle.walk.specs.Numbers.{number_in, dart_in}
use Rattle.walk.proofs.Rooms.{Agrees}
use Rattle.walk.specs.Standing.{Walking, ahead}
use Rattle.walk.proofs.Walking.{Rooted, ends_named}
use Rattle.walk.proofs.Going.{rooted}
use Rattle.replay.specs.Replays.{NumberedFrom}

-- names and more names
number_front : (names rest : List ℕ) (d : ℕ) → number names d < length names → number (names ++ rest) d ≡ number names d
unfolding number
number_front [] rest d h = absurd (omega arith)
number_front (z ∷ names) rest d h = go (number_front names rest d) (eqb z d) h
  where
    go : (number names d < length names → number (names ++ rest) d ≡ number names d) → (t : Bool) → cond t 0 (suc (number names d)) < suc (length names)
        → cond t 0 (suc (number (names ++ rest) d)) ≡ cond t 0 (suc (number names d))
    go rec true h = refl
    go rec false h = ap suc (rec (omega arith))

number_back : (names rest : List ℕ) (d : ℕ) → length names ≤ number names d → length names ≤ number (names ++ rest) d
unfolding number
number_back [] rest d h = omega arith
number_back (z ∷ names) rest d h = go (number_back names rest d) (eqb z d) h
  where
    go : (length names ≤ number names d → length names ≤ number (names ++ rest) d) → (t : Bool) → suc (length names) ≤ cond t 0 (suc (number names d))
        → suc (length names) ≤ cond t 0 (suc (number (names ++ rest) d))
    go rec true h = absurd (omega arith)
    go rec false h = let r = rec (omega arith) in omega arith

-- the names that a walk comes to begin with those it had
named_more : (s : Symbol) (names : List ℕ) (x : ℕ) → (rest : List ℕ) × (named s names x ≡ names ++ rest)
unfolding named
named_more Symbol.new names x = (x ∷ [], refl)
named_more Symbol.border names x = ([], rw append-nil)
named_more (Symbol.index e) names x = ([], rw append-nil)

at_more : (m : List ℕ) (w w' : Walk) (names names' : List ℕ) (out : List Symbol) (h : Head) → write_at m w names h ≡ Written.wrote out w' names'
    → (rest : List ℕ) × (names' ≡ names ++ rest)
at_more m w w' names names' out h e = at h e
  where
    with' : (j b d x : ℕ) (p : Partner) → write_with w names j b d x p ≡ Written.wrote out w' names' → (rest : List ℕ) × (names' ≡ names ++ rest)
    with' j b d x Partner.known e = unfold write_with in let q : names ≡ names' = cc in ([], sym q ∙ rw append-nil)
    with' j b d x (Partner.deduced y) e = unfold write_with in let q : names ≡ names' = cc in ([], sym q ∙ rw append-nil)
    with' j b d x Partner.asked e = unfold write_with write_symbol in
        let s = symbol_of (eqb x d) (eqb (number names x) (length names)) (number names x) in
        let q : named s names x ≡ names' = cc in
        let (r, f) = named_more s names x in
        (r, sym q ∙ f)

    at : (h : Head) → write_at m w names h ≡ Written.wrote out w' names' → (rest : List ℕ) × (names' ≡ names ++ rest)
    at Head.none e = unfold write_at in let z : ◌≡◌ {A = ℕ} 0 1 = cc in absurd (omega arith)
    at (Head.at j b) e = unfold write_at in with' j b _ _ (partner w j b) e

more_more : (x names names' r q : List ℕ) → x ≡ names' ++ q → names' ≡ names ++ r → x ≡ names ++ (r ++ q)
more_more x names names' r q e f = e ∙ rw (f, append_assoc)

-- and so they do where a body is begun
resume_more : (w : Walk) (names : List ℕ) → (rest : List ℕ) × (resume_names w names ≡ names ++ rest)
unfolding resume_names
resume_more w names = go (due w)
  where
    go : (t : Bool) → (rest : List ℕ) × (cond t (names ++ (least_unnumbered w.darts names ∷ [])) names ≡ names ++ rest)
    go true = (least_unnumbered w.darts names ∷ [], refl)
    go false = ([], rw append-nil)

step_more : (m : List ℕ) (w w' : Walk) (names names' : List ℕ) (out : List Symbol) → write_step m w names ≡ Written.wrote out w' names'
    → (rest : List ℕ) × (names' ≡ names ++ rest)
unfolding write_step
step_more m w w' names names' out e = go (write_at m w names (head w)) refl e
  where
    go : (s : Written) → write_at m w names (head w) ≡ s → resumed s ≡ Written.wrote out w' names' → (rest : List ℕ) × (names' ≡ names ++ rest)
    go Written.finished q e = unfold resumed in let z : ◌≡◌ {A = ℕ} 0 1 = cc e in absurd (omega arith)
    go (Written.wrote out1 w1 names1) q e = unfold resumed in
        let z : resume_names w1 names1 ≡ names' = cc e in
        let (r, f) = at_more m w w1 names names1 out1 (head w) q in
        let (r', f') = resume_more w1 names1 in
        (r ++ r', more_more names' names names1 r r' (sym z ∙ f') f)

write_more : (f : ℕ) (m : List ℕ) (w : Walk) (names : List ℕ) → (rest : List ℕ) × ((write f m w names).names ≡ names ++ rest)
unfolding write
write_more zero m w names = ([], rw append-nil)
write_more (suc f) m w names = go (λ w' names'. write_more f m w' names') (write_step m w names) refl
  where
    go : ((w' : Walk) (names' : List ℕ) → (rest : List ℕ) × ((write f m w' names').names ≡ names' ++ rest)) → (s : Written) → write_step m w names ≡ s
        → (rest : List ℕ) × ((write_on (λ w' names'. write f m w' names') names s).names ≡ names ++ rest)
    go rec Written.finished e = unfold write_on in ([], rw append-nil)
    go rec (Written.wrote out w' names') e = unfold write_on prepend in
        let (r, p) = step_more m w w' names names' out e in
        let (q, u) = rec w' names' in
        (r ++ q, more_more _ names names' r q u p)

-- what the contracts ask makes the map one to walk over
pub rooted_by : {F : Form} {N n : ℕ} {m : List ℕ} {root : ℕ} {work : List ℕ} → Limits N n m → Valid by_dart N n m → NumberedFrom F N n m root work
    → Rooted N n m root
rooted_by {F} {N} {n} {m} {root} L A Q = rooted L A (wanted_rooted F by_dart N n m root Q.bodies)

-- a finished numbering
module _ {F : Form} {N n : ℕ} {m : List ℕ} {root : ℕ} (P : Rooted N n m root) {work : List ℕ} (Q : NumberedFrom F N n m root work) where
  full : List ℕ
  full = names_of F by_dart N n m root

  full_length : length full ≡ n
  unfolding full
  full_length = names_all F by_dart N n m root P.ranks P.small P.dart P.valid Q.bodies

  numbered_entry : (d : ℕ) → d < n → number_in n work d ≡ number full d
  unfolding number_in numbering full
  numbered_entry d h =
      let l : d < length (list_of n (number (names_of F by_dart N n m root)) ++ names_of F by_dart N n m root) =
      simp (length-append, length_list_of) (omega arith) in
      let l' : d < length (list_of n (number (names_of F by_dart N n m root))) = omega (arith, length_list_of n (number (names_of F by_dart N n m root))) in
      rw (lt-ltb d n h, Q.room)
      (get_or-append (list_of n (number (names_of F by_dart N n m root)) ++ names_of F by_dart N n m root) Q.tail mark d l
      ∙ (get_or-append (list_of n (number (names_of F by_dart N n m root))) (names_of F by_dart N n m root) mark d l' ∙ get_d_list_of n
      (number (names_of F by_dart N n m root)) d mark h))

  dart_entry : (b : ℕ) → b < n → dart_in n work b ≡ name full b
  unfolding numbering full name
  dart_entry b h =
      let a = list_of n (number (names_of F by_dart N n m root)) in
      let la = length_list_of n (number (names_of F by_dart N n m root)) in
      let l : n + b < length (a ++ names_of F by_dart N n m root) =
      simp (length-append, length_list_of) (omega (arith, names_all F by_dart N n m root P.ranks P.small P.dart P.valid Q.bodies)) in
      let e : n + b ≡ length a + b = omega arith in
      rw Q.room
      (get_or-append (a ++ names_of F by_dart N n m root) Q.tail mark (n + b) l ∙ rw e (get_or-append-add a (names_of F by_dart N n m root) b mark))

  front_agrees : (names rest : List ℕ) → full ≡ names ++ rest → Agrees n names work
  unfolding full name number_in
  front_agrees names rest e = record {
    numbered = λ d h. let l = below d h in numbered_entry d l ∙ (ap (λ (x : List ℕ). number x d) e ∙ number_front names rest d h);
    unnumbered = λ d h. free d h (dec_lt d n);
    dart = λ b h. dart_entry b (omega (arith, few)) ∙ (ap (λ (x : List ℕ). name x b) e ∙ front b h);
  }
    where
      few : length names ≤ n
      few = omega (arith, simp length-append at (ap length e), full_length)

      front : (b : ℕ) → b < length names → name (names ++ rest) b ≡ name names b
      front b h = get_or-append names rest mark b h

      below : (d : ℕ) → number names d < length names → d < n
      below d h =
          let p : number full d ≡ number names d = ap (λ (x : List ℕ). number x d) e ∙ number_front names rest d h in
          let l : number full d < length full = omega (arith, few, full_length) in
          let q = name_below F by_dart N n m root P.ranks P.small P.dart P.valid (number full d) l in
          let r = name_number F by_dart N n m root P.ranks P.small P.dart P.valid d l in
          rw r at q

      free : (d : ℕ) → length names ≤ number names d → Dec (d < n) → length names ≤ number_in n work d
      free d h (yes l) = let q = number_back names rest d h in rw (numbered_entry d l, e) q
      free d h (no l) = rw (le-ltb d n (omega arith)) (omega (arith, few))

  -- it agrees with the names of every turn
  pub agrees_now : {c : ℕ} {ps : List ℕ} (G : Walking F N n m root c ps) → Agrees n G.names work
  unfolding ahead full
  agrees_now G =
      let w = G.walk in
      let (r, f) = resume_more w G.names in
      let (q, e) = write_more (enough N n - steps w) m (resume w) (resume_names w G.names) in
      front_agrees G.names (r ++ q) (more_more full G.names (resume_names w G.names) r q (sym (ends_named P G) ∙ e) f)
