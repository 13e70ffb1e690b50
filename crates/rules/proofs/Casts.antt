-- Tables held otherwise: in another layout, or with more entries behind. A walk looks at the links alone and its tables go along, so it is the same walk:
-- writer and reader do the same whatever room the reader is lent, and whatever the layout. Rests on Layouts and Names.
use Prim.Native.Nat.{ℕ, zero, suc, ◌+◌, ◌-◌, ◌≤◌, ◌<◌}
use mathlib.Core.Path.{◌≡◌, refl, ap, sym, ◌∙◌}
use mathlib.Core.Bool.{Bool, true, false, ◌&&◌, cond}
use mathlib.Core.List.{List, [], ◌∷◌, ◌++◌, append-nil}
use native.Mathlib.Omega.{arith}
use lib.ListN.{length, get_or, set, replicate, drop, length-set, length-append, drop_of_length-le}
use lib.Seq.{set-append_left}
use lib.Dec.{eqb, ltb}
use borrow.Author.Tests.{ltb-true}
use Rattle.rules.specs.declared.Form.{Form}
use Rattle.rules.specs.Lists.{number}
use Rattle.rules.specs.Bodies.{several}
use Rattle.rules.specs.Map.{Layout, mark, size, place, link, blank, Valid}
use Rattle.rules.specs.Reading.{permitted}
use Rattle.rules.specs.Walk.{Walk, start, Head, head, link_of, unknown, Partner, deduce, partner, pass, join, fresh, is_none, due, one_more, resume, tie}
use Rattle.rules.specs.Walk.{Symbol, apply, enough}
use Rattle.rules.specs.Walk.{Written, symbol_of, named, write_symbol, write_with, write_at, resume_names, resumed, write_step, prepend, Walked, write_on}
use Rattle.rules.specs.Walk.{write, walked, symbols_of}
use Rattle.rules.specs.Stream.{codes, header, filled}
use Rattle.rules.specs.Writing.{stream}
use Rattle.rules.specs.Exchange.{exchanged}
use Rattle.rules.proofs.Places.{place_below, link_past, blank_room, blank_past}
use Rattle.rules.proofs.Layouts.{length_exchanged, link_exchanged, set_exchanged, blank_exchanged}
use Rattle.rules.specs.Inner.{Shape, Inv}
use Rattle.rules.proofs.Positions.{Next}
use Rattle.rules.proofs.Links.{next_below}
use Rattle.rules.proofs.Walks.{start_inv, next_of, fresh_inv, deduced_below}
use Rattle.rules.proofs.Moves.{Grows, Move, named_index, see_deduced, moved}
use Rattle.rules.proofs.Renamed.{SameLinks, links_same, valid_to}
use Rattle.rules.proofs.Names.{Names, write_move, start_names}

-- f takes tables of layout Y to tables of layout Z: the links stay, and storing a link and blanking go along
pub record Casts (Y Z : Layout) (N n : ℕ) (f : List ℕ → List ℕ) : Type 0 where
  pub links : (t : List ℕ) → size N n ≤ length t → (i d : ℕ) → i ≤ N → link Z N n (f t) i d ≡ link Y N n t i d
  pub stores : (t : List ℕ) → size N n ≤ length t → (i d v : ℕ) → i ≤ N → d < n → f (set t (place Y N n i d) v) ≡ set (f t) (place Z N n i d) v
  pub blanks : (t : List ℕ) → size N n ≤ length t → f (blank (size N n) t) ≡ blank (size N n) (f t)
  pub room : (t : List ℕ) → size N n ≤ length t → size N n ≤ length (f t)

-- more entries behind
pub behind_casts : (Y : Layout) (N n : ℕ) (x : List ℕ) → Casts Y Y N n (λ t. t ++ x)
behind_casts Y N n x = record {
  links = λ t h i d hi. link_past Y N n t x i d hi h;
  stores = λ t h i d v hi hd. sym (set-append_left t x (place Y N n i d) v (omega (arith, place_below Y N n i d hi hd)));
  blanks = λ t h. sym (blank_past (size N n) t x h);
  room = λ t h. simp length-append (omega arith);
}

-- places exchanged
pub exchange_casts : (Y Z : Layout) (N n : ℕ) → Casts Y Z N n (exchanged Y Z N n)
exchange_casts Y Z N n = record {
  links = λ t h i d hi. link_exchanged Y Z N n t h i d hi;
  stores = λ t h i d v hi hd. set_exchanged Y Z N n t h i d v hi hd;
  blanks = λ t h. blank_exchanged Y Z N n t h;
  room = λ t h. rw (length_exchanged Y Z N n t) h;
}

-- a walk with its tables held so
unfoldable pub cast : Layout → (List ℕ → List ℕ) → Walk → Walk
cast Z f w = record {
  layout = Z;
  dim = w.dim;
  darts = w.darts;
  queues = w.queues;
  links = f w.links;
  count = w.count;
  positions = w.positions;
  form = w.form;
  bodies = w.bodies;
}

-- the tables of a walk w go by f to layout Z
abbrev pub CastsOf : Walk → Layout → (List ℕ → List ℕ) → Type 0
CastsOf w Z f = Casts w.layout Z w.dim w.darts f

pub casts_on : {Z : Layout} {f : List ℕ → List ℕ} {w w' : Walk} → Grows w w' → CastsOf w Z f → CastsOf w' Z f
casts_on g C = rw (g.layout, g.dim, g.darts) C

module _ {Z : Layout} {f : List ℕ → List ℕ} (w : Walk) (C : CastsOf w Z f) (s : Shape w) where
  pub link_cast : (i d : ℕ) → i ≤ w.dim → link_of (cast Z f w) i d ≡ link_of w i d
  unfolding link_of cast
  link_cast i d hi = C.links w.links s.table i d hi

  deduce_cast : (j b k i : ℕ) → j ≤ w.dim → k + i ≤ j → deduce (cast Z f w) j b k i ≡ deduce w j b k i
  unfolding deduce unknown
  deduce_cast j b zero i hj h = refl
  deduce_cast j b (suc k) i hj h =
      let hi : i ≤ w.dim = omega arith in
      rw (deduce_cast j b k (suc i) hj (omega arith), link_cast i b hi, link_cast j (link_of w i b) hj, link_cast i (link_of w j (link_of w i b)) hi)

  pub partner_cast : (j b : ℕ) → j ≤ w.dim → partner (cast Z f w) j b ≡ partner w j b
  unfolding partner unknown
  partner_cast j b hj = rw (link_cast j b hj, deduce_cast j b (j - 1) 0 hj (omega arith))

  tie_cast : (j b e : ℕ) → j ≤ w.dim → b < w.darts → e < w.darts → tie (cast Z f w) j b e ≡ cast Z f (tie w j b e)
  unfolding tie join pass cast
  tie_cast j b e hj hb he =
      let l : size w.dim w.darts ≤ length (set w.links (place w.layout w.dim w.darts j b) e) = simp length-set s.table in
      rw (← C.stores w.links s.table j b e hj hb, ← C.stores (set w.links (place w.layout w.dim w.darts j b) e) l j e b hj he)

pub apply_cast : {Z : Layout} {f : List ℕ → List ℕ} (w : Walk) → CastsOf w Z f → Inv w → (j b : ℕ) (s : Symbol) → Next w j b → permitted w j b s ≡ true
    → apply (cast Z f w) j b s ≡ cast Z f (apply w j b s)
unfolding apply
apply_cast {Z} {f} w C v j b Symbol.new n p =
    let l : w.count < w.darts = unfold permitted in ltb-true w.count w.darts p in
    let hb = next_below w v.shape v.links j b n in
    unfold cast fresh in
    tie_cast (fresh w) (unfold fresh in C) (fresh_inv w v l).shape j b w.count (unfold fresh in n.ranked) (unfold fresh in omega arith) (unfold fresh in l)
apply_cast w C v j b Symbol.border n p =
    let hb : b < w.darts = omega (arith, next_below w v.shape v.links j b n, v.shape.within) in
    tie_cast w C v.shape j b b n.ranked hb hb
apply_cast w C v j b (Symbol.index e) n p =
    let hb : b < w.darts = omega (arith, next_below w v.shape v.links j b n, v.shape.within) in
    tie_cast w C v.shape j b e n.ranked hb (omega (arith, (named_index w j b e p).below, v.shape.within))

-- a deduced step
pub deduced_cast : {Z : Layout} {f : List ℕ → List ℕ} (w : Walk) → CastsOf w Z f → Inv w → (j b e : ℕ) → head w ≡ Head.at j b
    → partner w j b ≡ Partner.deduced e → tie (cast Z f w) j b e ≡ cast Z f (tie w j b e)
deduced_cast w C v j b e h p =
    let t = next_of w v h in
    let d = see_deduced w j b e p in
    let hb : b < w.darts = omega (arith, next_below w v.shape v.links j b t.next, v.shape.within) in
    let hc : e < w.count = rw d.value (deduced_below w v d.i j b t d.gap d.known) in
    let he : e < w.darts = omega (arith, v.shape.within) in
    tie_cast w C v.shape j b e t.next.ranked hb he

-- a step over a map, its tables held so
unfoldable pub cast_step : Layout → (List ℕ → List ℕ) → Written → Written
cast_step Z f Written.finished = Written.finished
cast_step Z f (Written.wrote out w names) = Written.wrote out (cast Z f w) names

-- a body is begun alike
pub resume_cast : (Z : Layout) (f : List ℕ → List ℕ) (w : Walk) → resume (cast Z f w) ≡ cast Z f (resume w)
unfolding resume due cast
resume_cast Z f w = go (is_none (head w) && ltb w.count w.darts && several w.form)
  where
    go : (t : Bool) → cond t (one_more (fresh (cast Z f w))) (cast Z f w) ≡ cast Z f (cond t (one_more (fresh w)) w)
    go true = unfold one_more fresh in refl
    go false = refl

resumed_cast : (Z : Layout) (f : List ℕ → List ℕ) (s : Written) → resumed (cast_step Z f s) ≡ cast_step Z f (resumed s)
unfolding cast_step resumed
resumed_cast Z f Written.finished = refl
resumed_cast Z f (Written.wrote out w names) =
    ap (λ (x : Walk). Written.wrote out x (resume_names (cast Z f w) names)) (resume_cast Z f w)
    ∙ ap (λ (x : List ℕ). Written.wrote out (cast Z f (resume w)) x) (unfold resume_names due cast in refl)

-- a move that writes s permits s
move_permits : (w w' : Walk) (j b : ℕ) (s : Symbol) (out : List Symbol) → head w ≡ Head.at j b → Move w out w' → out ≡ s ∷ [] → permitted w j b s ≡ true
move_permits w w' j b s out h (Move.passes j' b' h' p) e = let z : ◌≡◌ {A = ℕ} 0 1 = cc in absurd (omega arith)
move_permits w w' j b s out h (Move.deduces j' b' e' h' p f) e = let z : ◌≡◌ {A = ℕ} 0 1 = cc in absurd (omega arith)
move_permits w w' j b s out h (Move.reads j' b' s' h' p f) e =
    let q : Head.at j b ≡ Head.at j' b' = sym h ∙ h' in
    let ej : j ≡ j' = cc in
    let eb : b ≡ b' = cc in
    let es : s ≡ s' = cc in
    rw (ej, eb, es) f

-- m' of layout Z has the links of m, which is laid out as the walk w
abbrev pub LinksOf : Walk → Layout → List ℕ → List ℕ → Type 0
LinksOf w Z m m' = (i d : ℕ) → i ≤ w.dim → link Z w.dim w.darts m' i d ≡ link w.layout w.dim w.darts m i d

module _ {Z : Layout} {f : List ℕ → List ℕ} (m m' : List ℕ) (root : ℕ) (w : Walk) (names : List ℕ) (C : CastsOf w Z f) (E : LinksOf w Z m m') (v : Inv w)
    (M : Names m root w names) (A : Valid w.layout w.dim w.darts m) where
  -- the symbol that is written at the head b of Lj
  writes : ℕ → ℕ → Symbol
  writes j b =
      let y = link w.layout w.dim w.darts m j (get_or names b mark) in
      symbol_of (eqb y (get_or names b mark)) (eqb (number names y) (length names)) (number names y)

  permits : (j b : ℕ) → head w ≡ Head.at j b → partner w j b ≡ Partner.asked → permitted w j b (writes j b) ≡ true
  unfolding writes write_step resumed write_at write_with write_symbol
  permits j b h p =
      let k = write_move m root w names v M A j b h in
      let y = link w.layout w.dim w.darts m j (get_or names b mark) in
      let q : write_step m w names ≡ resumed (Written.wrote (writes j b ∷ []) (apply w j b (writes j b)) (named (writes j b) names y)) = rw (h, p) in
      let o : k.out ≡ writes j b ∷ [] = cc k.eq in
      move_permits w k.walk j b (writes j b) k.out h k.move o

  step_cast_lem : write_step m' (cast Z f w) names ≡ cast_step Z f (write_step m w names)
  unfolding write_step cast writes
  step_cast_lem = ap resumed (go (head w) refl) ∙ resumed_cast Z f (write_at m w names (head w))
    where
      with' : (j b : ℕ) → head w ≡ Head.at j b → (p : Partner) → partner w j b ≡ p
          → write_with (cast Z f w) names j b (get_or names b mark) (link w.layout w.dim w.darts m j (get_or names b mark)) p
          ≡ cast_step Z f (write_with w names j b (get_or names b mark) (link w.layout w.dim w.darts m j (get_or names b mark)) p)
      with' j b h Partner.known p = unfold write_with cast_step pass cast in refl
      with' j b h (Partner.deduced e) p = unfold write_with cast_step in ap (λ (y : Walk). Written.wrote [] y names) (deduced_cast w C v j b e h p)
      with' j b h Partner.asked p = unfold write_with write_symbol cast_step in
          ap (λ (y : Walk). Written.wrote (writes j b ∷ []) y (named (writes j b) names (link w.layout w.dim w.darts m j (get_or names b mark))))
          (apply_cast w C v j b (writes j b) (next_of w v h).next (permits j b h p))

      go : (h : Head) → head w ≡ h → write_at m' (cast Z f w) names h ≡ cast_step Z f (write_at m w names h)
      go Head.none h = unfold write_at cast_step in refl
      go (Head.at j b) h = unfold write_at cast in
          let r = (next_of w v h).next.ranked in
          rw (partner_cast w C v.shape j b r, E j (get_or names b mark) r) (with' j b h (partner w j b) refl)

-- what a walk over a map writes does not depend on how its tables and the map's are held
pub write_cast : {Z : Layout} {f : List ℕ → List ℕ} (k : ℕ) (m m' : List ℕ) (root : ℕ) (w : Walk) (names : List ℕ) → CastsOf w Z f → LinksOf w Z m m' → Inv w
    → Names m root w names → Valid w.layout w.dim w.darts m → write k m' (cast Z f w) names ≡ write k m w names
unfolding write
write_cast zero m m' root w names C E v M A = refl
write_cast {Z} {f} (suc k) m m' root w names C E v M A =
    rw (step_cast_lem m m' root w names C E v M A) (go (λ w' names' C' E' v' M' A'. write_cast k m m' root w' names' C' E' v' M' A') (head w) refl)
  where
    go : ((w' : Walk) (names' : List ℕ) → CastsOf w' Z f → LinksOf w' Z m m' → Inv w' → Names m root w' names' → Valid w'.layout w'.dim w'.darts m
        → write k m' (cast Z f w') names' ≡ write k m w' names')
        → (h : Head) → head w ≡ h
        → write_on (λ w' names'. write k m' w' names') names (cast_step Z f (write_step m w names))
        ≡ write_on (λ w' names'. write k m w' names') names (write_step m w names)
    go rec Head.none h = unfold write_step resumed write_at write_on cast_step in rw h
    go rec (Head.at j b) h =
        let y = write_move m root w names v M A j b h in
        let g = moved w y.walk y.out v y.move in
        let A' : Valid y.walk.layout y.walk.dim y.walk.darts m = rw (g.grows.layout, g.grows.dim, g.grows.darts) A in
        let E' : LinksOf y.walk Z m m' = rw (g.grows.layout, g.grows.dim, g.grows.darts) E in
        rw y.eq (unfold write_on cast_step in ap (prepend y.out) (rec y.walk y.names' (casts_on g.grows C) E' g.inv y.keeps A'))

start_behind : (F : Form) (Y : Layout) (N n : ℕ) (t : List ℕ) → start F Y N n t ≡ cast Y (λ l. l ++ drop (size N n) t) (start F Y N n [])
unfolding start cast blank
start_behind F Y N n t = let none : List ℕ = [] in
    let e : drop (size N n) none ≡ none = drop_of_length-le none {i = size N n} (omega arith) in rw (e, append-nil)

-- from any lent tables the same is written
pub write_start : (F : Form) (Y : Layout) (N n : ℕ) (t m : List ℕ) (root : ℕ) → N ≤ 6 → n ≤ 4096 → root < n → Valid Y N n m
    → write (enough N n) m (start F Y N n t) (root ∷ []) ≡ walked F Y N n m root
unfolding walked
write_start F Y N n t m root h6 hn hr A =
    rw (start_behind F Y N n t)
    (write_cast (enough N n) m m root (start F Y N n []) (root ∷ []) (unfold start in behind_casts Y N n (drop (size N n) t)) (unfold start in λ i d hi. refl)
    (start_inv F Y N n [] (omega arith) hn h6) (start_names F Y N n [] m root hr) (unfold start in A))

start_exchanged : (F : Form) (Y Z : Layout) (N n : ℕ)
    → start F Z N n (exchanged Y Z N n (blank (size N n) [])) ≡ cast Z (exchanged Y Z N n) (start F Y N n (blank (size N n) []))
unfolding start cast
start_exchanged F Y Z N n =
    let l = blank_room (size N n) [] in
    λ i. record {
      layout = Z;
      dim = N;
      darts = n;
      queues = (0 ∷ []) ∷ replicate N [];
      links = sym (blank_exchanged Y Z N n (blank (size N n) []) l) i;
      count = 1;
      positions = replicate 7 0;
      form = F;
      bodies = 1;
    }

-- over equal links it is the same walk, in either layout
pub walk_links : (F : Form) {Y Z : Layout} {N n : ℕ} {m m' : List ℕ} → SameLinks Y Z N n m m' → N ≤ 6 → n ≤ 4096 → {root : ℕ} → root < n → Valid Y N n m
    → walked F Z N n m' root ≡ walked F Y N n m root
walk_links F {Y} {Z} {N} {n} {m} {m'} S h6 hn {root} hr A =
    sym (write_start F Z N n (exchanged Y Z N n t) m' root h6 hn hr (valid_to S A))
    ∙ (rw (start_exchanged F Y Z N n)
    (write_cast (enough N n) m m' root (start F Y N n t) (root ∷ []) (unfold start in exchange_casts Y Z N n)
    (unfold start in λ i d hi. sym (links_same S i d hi)) (start_inv F Y N n t (omega arith) hn h6) (start_names F Y N n t m root hr) (unfold start in A))
    ∙ write_start F Y N n t m root h6 hn hr A)
  where
    t : List ℕ
    t = blank (size N n) []

-- so the stream is the same
pub stream_links : (F : Form) {Y Z : Layout} {N n : ℕ} {m m' : List ℕ} → SameLinks Y Z N n m m' → N ≤ 6 → n ≤ 4096 → {root : ℕ} → root < n → Valid Y N n m
    → stream F Z N n m' root ≡ stream F Y N n m root
unfolding stream symbols_of
stream_links F {N = N} {n} S h6 hn hr A = ap (λ (r : Walked). filled (header F N n ++ codes r.symbols)) (walk_links F S h6 hn hr A)
