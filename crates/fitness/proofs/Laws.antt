-- Laws of the tests of fitness: a loop over all numbers below a bound, then each function's answers, one way through its code at a time. Rests on the
-- rules' Lists, Places and Codes and the entry of `tables`.
use Prim.Native.Nat.{ℕ, zero, suc, ◌+◌, ◌*◌, ◌-◌, ◌/◌, ◌%◌, ◌≤◌, ◌<◌, ◌^◌}
use mathlib.Core.Path.{◌≡◌, refl, ap, sym, ◌∙◌}
use mathlib.Core.Logic.{◌≢◌}
use mathlib.Core.Bool.{Bool, true, false, not, ◌&&◌, ◌||◌}
use mathlib.Core.List.{List, ◌∷◌}
use native.Mathlib.Omega.{arith}
use native.Mathlib.Nat.{zero-add, div-lt_iff_lt-mul, pow-suc, mul-le-mul, mul-zero, div-eq_of_lt-le}
use native.Mathlib.Decide.{ℕ_discrete, dec_lt}
use lib.ListN.{length, get_or, take, drop, length-drop}
use lib.Seq.{get_or-drop}
use Rattle.std.specs.List.{list_all}
use Rattle.std.proofs.lemmas.List.Folds.{list_all_more}
use lib.Dec.{eqb, ltb, leb}
use borrow.Author.Tests.{eq-eqb, ne_eqb, lt-ltb, not-true, leb-true, le-leb, lt-leb, le-ltb, not-false}
use lib.Pow.{pow_pos}
use native.Mathlib.Numerals.{add-one}
use Rattle.rules.specs.declared.Session.{Session}
use Rattle.rules.specs.declared.State.{State}
use Rattle.rules.specs.declared.Stand.{Stand}
use Rattle.rules.specs.declared.State.TheVariants.{Header, Running, Complete, Closed, Refused}
use Rattle.rules.specs.Lists.{all_below}
use Rattle.rules.specs.Map.{by_dart, dim_fits, darts_fit, size, place, link, Limits}
use Rattle.rules.specs.Bodies.{bodies_fit, no_bodies}
use Rattle.rules.specs.Exchange.{rank_at, dart_at}
use Rattle.rules.specs.Walk.{head}
use Rattle.rules.specs.Stream.{bits_of}
use Rattle.rules.specs.Refusals.{among, at_header, of_index, in_step, at_end, wipes, fit_refused}
use Rattle.rules.specs.Session.{walk_at, stand_of, walk_of, waiting_of, value_fits, only_bits, positions_fit, entry_fits, entries_fit, walk_fits, asks, begins}
use Rattle.rules.specs.Session.{fit_as, fit}
use Rattle.rules.proofs.Lists.{and_left, and_right, both, or_left, or_right, all_below_lem, below_all, PassedSoFar, unless}
use Rattle.rules.proofs.Places.{nth_some, nth_rank, nth_dart, nth_below, rank_nth, dart_nth, dart_place, rank_at_lem, place_at, dart_before, before_dart}
use Rattle.rules.proofs.Codes.{length_bits}
use Rattle.tables.proofs.Laws.{entry_link, rows_few}
use Rattle.rules.specs.Inner.{Shape}
use Rattle.rules.proofs.Fitness.{fits_inv}
use Rattle.fitness.specs.Parts.{falls_at, over_at, entry_by, entry_of, entry_at, all_within, known_at, open_at, blank_at, linked_at, passed_at, asks_at}

-- tests whose other side is known
and_no : (a : Bool) → (a && false) ≡ false
and_no true = refl
and_no false = refl

and_yes : (a : Bool) → (a && true) ≡ a
and_yes true = refl
and_yes false = refl

or_no : (a : Bool) → (a || false) ≡ a
or_no true = refl
or_no false = refl

and_swap : (a b : Bool) → (a && b) ≡ (b && a)
and_swap true true = refl
and_swap true false = refl
and_swap false true = refl
and_swap false false = refl

-- positions
module _ (c above : ℕ) (ps : List ℕ) (i : ℕ) (e : above ≡ get_or (c ∷ ps) i 0) where
  pub falls_no : above < get_or ps i 0 → falls_at c ps i ≡ false
  unfolding falls_at
  falls_no h = rw (← e) (lt-leb (get_or ps i 0) above h)

  pub falls_yes : get_or ps i 0 ≤ above → falls_at c ps i ≡ true
  unfolding falls_at
  falls_yes h = rw (← e) (le-leb (get_or ps i 0) above h)

pub next_above : (c : ℕ) (ps : List ℕ) (i : ℕ) → get_or ps i 0 ≡ get_or (c ∷ ps) (i + 1) 0
next_above c ps i = let e : i + 1 ≡ suc i = omega arith in rw e

pub past_start : (N : ℕ) (ps : List ℕ) → N ≤ 6 → PassedSoFar (over_at N ps) 7 (N + 1)
unfolding over_at
past_start N ps h = record { up_to = omega arith; all = λ x l. or_left (leb x N) (eqb (get_or ps x 0) 0) (le-leb x N (omega arith)) }

pub past_no : (N : ℕ) (ps : List ℕ) (i : ℕ) → N < i → get_or ps i 0 ≢ 0 → over_at N ps i ≡ false
unfolding over_at
past_no N ps i h ne = rw (lt-leb i N h) (ne_eqb (get_or ps i 0) 0 ne)

pub past_yes : (N : ℕ) (ps : List ℕ) (i : ℕ) → get_or ps i 0 ≡ 0 → over_at N ps i ≡ true
unfolding over_at
past_yes N ps i e = or_right (leb i N) (eqb (get_or ps i 0) 0) (eq-eqb (get_or ps i 0) 0 e)

-- positions that fall are not above the count, and the last is not above another
module _ (N c : ℕ) (ps : List ℕ) (e : all_below (suc N) (falls_at c ps) ≡ true) where
  falls_on : (i j : ℕ) → i ≤ j → j ≤ suc N → get_or (c ∷ ps) j 0 ≤ get_or (c ∷ ps) i 0
  unfolding falls_at
  falls_on i zero h l = let z : i ≡ 0 = omega arith in rw z (omega arith)
  falls_on i (suc j) h l = go (falls_on i j) (ℕ_discrete i (suc j))
    where
      go : (i ≤ j → j ≤ suc N → get_or (c ∷ ps) j 0 ≤ get_or (c ∷ ps) i 0) → Dec (i ≡ suc j) → get_or ps j 0 ≤ get_or (c ∷ ps) i 0
      go rec (yes q) = rw q (omega arith)
      go rec (no q) =
          let s = leb-true (get_or ps j 0) (get_or (c ∷ ps) j 0) (all_below_lem (suc N) (falls_at c ps) e j (omega arith)) in
          omega (arith, s, rec (omega arith) (omega arith))

  pub falls_below : (i : ℕ) → i ≤ N → get_or ps i 0 ≤ c
  falls_below i h = falls_on 0 (suc i) (omega arith) (omega arith)

  pub falls_last : (i : ℕ) → i ≤ N → get_or ps N 0 ≤ get_or ps i 0
  falls_last i h = falls_on (suc i) (suc N) (omega arith) (omega arith)

-- a loop over the numbers from a up to b that counts those that fail the test: it has come to k
pub record Faulty (f : ℕ → Bool) (a b k bad : ℕ) : Type 0 where
  pub up_to : k ≤ b
  pub few : a + bad ≤ k
  pub told : eqb bad 0 ≡ all_within a k f

pub tallied_start : (f : ℕ → Bool) (a b : ℕ) → a ≤ b → Faulty f a b a 0
unfolding all_within all_below
tallied_start f a b h = let e : a - a ≡ 0 = omega arith in record { up_to = h; few = omega arith; told = rw e }

within_next : (f : ℕ → Bool) (a k : ℕ) → a ≤ k → all_within a (k + 1) f ≡ (f k && all_within a k f)
unfolding all_within all_below
within_next f a k h =
    let e : k + 1 - a ≡ suc (k - a) = omega arith in
    let q : a + (k - a) ≡ k = omega arith in
    rw (e, all_below, q)

module _ {f : ℕ → Bool} {a b k bad : ℕ} (r : Faulty f a b k bad) where
  pub tallied_pass : k < b → f k ≡ true → Faulty f a b (k + 1) bad
  tallied_pass h q = record { up_to = omega arith; few = omega (arith, r.few); told = r.told ∙ sym (rw q at (within_next f a k (omega (arith, r.few)))) }

  pub tallied_fail : k < b → f k ≡ false → Faulty f a b (k + 1) (bad + 1)
  tallied_fail h q = record {
    up_to = omega arith;
    few = omega (arith, r.few);
    told = ne_eqb (bad + 1) 0 (omega arith) ∙ sym (rw q at (within_next f a k (omega (arith, r.few))));
  }

  pub tallied_end : b ≤ k → eqb bad 0 ≡ all_within a b f
  tallied_end h = let e : b ≡ k = omega (arith, r.up_to) in rw e r.told

-- a test of the first entries of a list, and one of a run of entries
pub list_all_below : (f : ℕ → Bool) (l : List ℕ) (k : ℕ) → k ≤ length l → list_all f (take k l) ≡ all_below k (λ i. f (get_or l i 0))
unfolding all_below
list_all_below f l zero h = refl
list_all_below f l (suc k) h =
    rw add-one at (list_all_more f l k 0 h)
    ∙ (and_swap _ (f (get_or l k 0)) ∙ ap (λ (b : Bool). f (get_or l k 0) && b) (list_all_below f l k (omega arith)))

pub start_told : (f : ℕ → Bool) (t : List ℕ) (b : ℕ) (r : Bool) → b ≤ length t → r ≡ list_all f (take b t) → r ≡ all_within 0 b (λ k. f (get_or t k 0))
unfolding all_within
start_told f t b r l e = let z : b - 0 ≡ b = omega arith in e ∙ (list_all_below f t b l ∙ rw z (simp zero-add))

pub run_told : (f : ℕ → Bool) (t : List ℕ) (a b : ℕ) (r : Bool) → a ≤ b → b ≤ length t → r ≡ list_all f (take (b - a) (drop a t))
    → r ≡ all_within a b (λ k. f (get_or t k 0))
unfolding all_within
run_told f t a b r h l e =
    e ∙ (list_all_below f (drop a t) (b - a) (omega (arith, length-drop a t)) ∙ simp (get_or-drop a t))

-- what a rank's loop asks of dart d, whose link stands at k
module _ (N n : ℕ) (t : List ℕ) (i d k : ℕ) (L : Limits N n t) (hi : i ≤ N) (hd : d < n) (e : k ≡ place by_dart N n i d) where
  pub linked_yes : get_or t k 0 ≢ 65535 → linked_at N n t i d ≡ true
  unfolding linked_at
  linked_yes h = rw (← entry_link N n t i d L hi hd, ← e, ne_eqb (get_or t k 0) 65535 h)

  pub linked_no : get_or t k 0 ≡ 65535 → linked_at N n t i d ≡ false
  unfolding linked_at
  linked_no h = rw (← entry_link N n t i d L hi hd, ← e, eq-eqb (get_or t k 0) 65535 h)

-- a test of the numbers from a up to b, and of each
all_within_lem : (f : ℕ → Bool) (a b : ℕ) → all_within a b f ≡ true → (k : ℕ) → a ≤ k → k < b → f k ≡ true
unfolding all_within
all_within_lem f a b e k h l = let q : a + (k - a) ≡ k = omega arith in rw q at (all_below_lem (b - a) (λ x. f (a + x)) e (k - a) (omega arith))

within_all : (f : ℕ → Bool) (a b : ℕ) → ((k : ℕ) → a ≤ k → k < b → f k ≡ true) → all_within a b f ≡ true
unfolding all_within
within_all f a b h = below_all (b - a) (λ x. f (a + x)) (λ x l. h (a + x) (omega arith) (omega arith))

-- the darts before p have the first (N+1)·p positions, so a test of the entries in a run of positions is one of the links of a run of darts, from p up to q
module _ (N n : ℕ) (t : List ℕ) (L : Limits N n t) (g : ℕ → Bool) (p q : ℕ) (hq : q ≤ n) where
  abbrev from : ℕ
  from = (N + 1) * p

  abbrev to : ℕ
  to = (N + 1) * q

  abbrev here : ℕ → Bool
  here k = g (get_or t k 0)

  run_links : all_within from to here ≡ true → (i d : ℕ) → i ≤ N → p ≤ d → d < q → g (link by_dart N n t i d) ≡ true
  run_links e i d hi h l =
      let k = place by_dart N n i d in
      let x : dart_at by_dart N n k ≡ d = dart_place by_dart N n i d hi (omega arith) in
      let b : (k < from → ⊥) = λ z. omega (arith, x, before_dart N n k p z) in
      ap g (sym (entry_link N n t i d L hi (omega arith))) ∙ all_within_lem here from to e k (omega (arith, b)) (dart_before N n k q (omega (arith, x)))

  links_run : ((i d : ℕ) → i ≤ N → p ≤ d → d < q → g (link by_dart N n t i d) ≡ true) → all_within from to here ≡ true
  links_run h = within_all here from to go
    where
      go : (k : ℕ) → from ≤ k → k < to → here k ≡ true
      go k a b =
          let i = rank_at by_dart N n k in
          let d = dart_at by_dart N n k in
          let l : d < q = before_dart N n k q b in
          let s : k < size N n = rw add-one at (dart_before N n k n (omega (arith, l))) in
          let hi = rank_at_lem by_dart N n k s in
          let z : (d < p → ⊥) = λ y. omega (arith, dart_before N n k p y) in
          rw (place_at by_dart N n k s) at (ap g (entry_link N n t i d L hi (omega (arith, l))) ∙ h i d hi (omega (arith, z)) l)

-- a dart's entry: before the count, there before the rank's position and from it on, and past the count
module _ (c p d x : ℕ) where
  entry_numbered : d < c → entry_by c p d x ≡ ((ltb x c || eqb x 65535) && (leb p d || not (eqb x 65535)))
  unfolding entry_by
  entry_numbered h = rw (lt-ltb d c h)

  entry_passed : d < c → d < p → entry_by c p d x ≡ ((ltb x c || eqb x 65535) && not (eqb x 65535))
  entry_passed h l = entry_numbered h ∙ rw (lt-leb p d l)

  entry_known : c ≤ 65535 → d < c → d < p → entry_by c p d x ≡ ltb x c
  entry_known hc h l = entry_passed h l ∙ go (ℕ_discrete x 65535)
    where
      go : Dec (x ≡ 65535) → ((ltb x c || eqb x 65535) && not (eqb x 65535)) ≡ ltb x c
      go (yes e) = rw (eq-eqb x 65535 e, le-ltb x c (omega arith))
      go (no e) = rw (ne_eqb x 65535 e, or_no, and_yes)

  entry_open : d < c → p ≤ d → entry_by c p d x ≡ (ltb x c || eqb x 65535)
  entry_open h l = entry_numbered h ∙ rw (le-leb p d l, and_yes)

  entry_blank : c ≤ d → entry_by c p d x ≡ eqb x 65535
  unfolding entry_by
  entry_blank h = rw (le-ltb d c h)

-- a map has few entries
pub few_entries : (N n : ℕ) → N ≤ 6 → n ≤ 4096 → (N + 1) * n ≤ 28672
few_entries N n h k = rows_few N n (N + 1) h k (omega arith)

-- where three runs of entries end: of the darts before the last position, of those before the count, and of all
pub record Runs (N n c last : ℕ) : Type 0 where
  pub passed : (N + 1) * last ≤ (N + 1) * c
  pub numbered : (N + 1) * c ≤ (N + 1) * n
  pub all : (N + 1) * n ≤ 28672

-- all entries: the run of the darts that all ranks have passed, that of the other numbered ones, that of those without a number, and in the second one what
-- each rank has passed
module _ (N n : ℕ) (t : List ℕ) (c : ℕ) (ps : List ℕ) (L : Limits N n t) (hc : c ≤ n) (hp : (i : ℕ) → i ≤ N → get_or ps i 0 ≤ c)
    (hN : (i : ℕ) → i ≤ N → get_or ps N 0 ≤ get_or ps i 0) where
  abbrev last : ℕ
  last = get_or ps N 0

  abbrev knowns : Bool
  knowns = all_within 0 ((N + 1) * last) (known_at t c)

  abbrev opens : Bool
  opens = all_within ((N + 1) * last) ((N + 1) * c) (open_at t c)

  abbrev blanks : Bool
  blanks = all_within ((N + 1) * c) ((N + 1) * n) (blank_at t)

  abbrev passes : Bool
  passes = all_below N (passed_at N n t ps)

  abbrev fits : Bool
  fits = all_below (size N n) (entry_at N n t c ps)

  last_low : last ≤ c
  last_low = hp N (omega arith)

  pub runs_end : Runs N n c last
  runs_end = record { passed = grow last_low; numbered = grow hc; all = few_entries N n L.dims.1 L.darts.1 }
    where
      grow : {p q : ℕ} → p ≤ q → (N + 1) * p ≤ (N + 1) * q
      grow {p} {q} h = mul-le-mul {n₁ = N + 1} {m₁ = p} {n₂ = N + 1} {m₂ = q} (omega arith) h

  -- where all entries fit, that of rank i at dart d does, and each part passes
  module _ (e : fits ≡ true) where
    entry_fits_lem : (i d : ℕ) → i ≤ N → d < n → entry_by c (get_or ps i 0) d (link by_dart N n t i d) ≡ true
    unfolding entry_at entry_of
    entry_fits_lem i d hi hd =
        rw (rank_nth n i d hd, dart_nth n i d hd) at (all_below_lem (size N n) (entry_at N n t c ps) e (i * n + d) (nth_below N n i d hi hd))

    fits_knowns : knowns ≡ true
    unfolding known_at
    fits_knowns = rw (mul-zero (N + 1)) at (links_run N n t L (λ x. ltb x c) 0 last (omega (arith, last_low)) go)
      where
        go : (i d : ℕ) → i ≤ N → 0 ≤ d → d < last → ltb (link by_dart N n t i d) c ≡ true
        go i d hi h l =
            let m : d < c = omega (arith, last_low) in
            sym (entry_known c (get_or ps i 0) d (link by_dart N n t i d) (omega arith) m (omega (arith, hN i hi))) ∙ entry_fits_lem i d hi (omega arith)

    fits_opens : opens ≡ true
    unfolding open_at
    fits_opens =
        links_run N n t L (λ x. ltb x c || eqb x 65535) last c hc
        (λ i d hi h l. and_left _ _ (sym (entry_numbered c (get_or ps i 0) d (link by_dart N n t i d) l) ∙ entry_fits_lem i d hi (omega arith)))

    fits_blanks : blanks ≡ true
    unfolding blank_at
    fits_blanks =
        links_run N n t L (λ x. eqb x 65535) c n (omega arith)
        (λ i d hi h l. sym (entry_blank c (get_or ps i 0) d (link by_dart N n t i d) h) ∙ entry_fits_lem i d hi l)

    fits_passes : passes ≡ true
    unfolding passed_at linked_at
    fits_passes = below_all N (passed_at N n t ps) (λ i hi. within_all (linked_at N n t i) last (get_or ps i 0) (λ d h l. go i d (omega arith) l))
      where
        go : (i d : ℕ) → i ≤ N → d < get_or ps i 0 → not (eqb (link by_dart N n t i d) 65535) ≡ true
        go i d hi l =
            let x = link by_dart N n t i d in
            let m : d < c = omega (arith, hp i hi) in
            and_right (ltb x c || eqb x 65535) _ (sym (entry_passed c (get_or ps i 0) d x m l) ∙ entry_fits_lem i d hi (omega arith))

  pub entries_known : knowns ≡ false → false ≡ fits
  entries_known = unless fits knowns fits_knowns

  pub entries_open : opens ≡ false → false ≡ fits
  entries_open = unless fits opens fits_opens

  pub entries_blank : blanks ≡ false → false ≡ fits
  entries_blank = unless fits blanks fits_blanks

  -- where each part passes, each entry fits
  module _ (hk : knowns ≡ true) (ho : opens ≡ true) (hb : blanks ≡ true) where
    module _ (i d : ℕ) (hi : i ≤ N) (hd : d < n) where
      abbrev position : ℕ
      position = get_or ps i 0

      abbrev entry : ℕ
      entry = link by_dart N n t i d

      known_fits : d < last → entry_by c position d entry ≡ true
      unfolding known_at
      known_fits l =
          entry_known c position d entry (omega arith) (omega (arith, last_low)) (omega (arith, hN i hi))
          ∙ run_links N n t L (λ x. ltb x c) 0 last (omega (arith, last_low)) (rw (mul-zero (N + 1)) hk) i d hi (omega arith) l

      open_here : last ≤ d → d < c → (ltb entry c || eqb entry 65535) ≡ true
      unfolding open_at
      open_here h l = run_links N n t L (λ x. ltb x c || eqb x 65535) last c hc ho i d hi h l

      -- rank N has passed no dart from the last position on
      passed_fits : passes ≡ true → last ≤ d → d < position → d < c → entry_by c position d entry ≡ true
      unfolding passed_at linked_at
      passed_fits e h l m =
          let q : (i ≡ N → ⊥) = λ z. let y = ap (λ (k : ℕ). get_or ps k 0) z in omega arith in
          entry_passed c position d entry m l
          ∙ both _ _ (open_here h m) (all_within_lem (linked_at N n t i) last position (all_below_lem N (passed_at N n t ps) e i (omega (arith, q))) d h l)

      blank_fits : c ≤ d → entry_by c position d entry ≡ true
      unfolding blank_at
      blank_fits h = entry_blank c position d entry h ∙ run_links N n t L (λ x. eqb x 65535) c n (omega arith) hb i d hi h hd

      all_fit : passes ≡ true → entry_by c position d entry ≡ true
      all_fit e = go (dec_lt d c) (dec_lt d last) (dec_lt d position)
        where
          go : Dec (d < c) → Dec (d < last) → Dec (d < position) → entry_by c position d entry ≡ true
          go (no a) y z = blank_fits (omega arith)
          go (yes a) (yes y) z = known_fits y
          go (yes a) (no y) (no z) = entry_open c position d entry a (omega arith) ∙ open_here (omega arith) a
          go (yes a) (no y) (yes z) = passed_fits e (omega arith) z a

    passes_fits : passes ≡ true → fits ≡ true
    unfolding entry_at entry_of
    passes_fits e = below_all (size N n) (entry_at N n t c ps) go
      where
        go : (k : ℕ) → k < size N n → entry_at N n t c ps k ≡ true
        go k h = let s = nth_some N n k h in all_fit (k / n) (k % n) (nth_rank N n k s h) (nth_dart n k s) e

    pub entries_passed : (r : Bool) → r ≡ passes → r ≡ fits
    entries_passed r q = q ∙ go passes refl
      where
        go : (b : Bool) → passes ≡ b → passes ≡ fits
        go true e = e ∙ sym (passes_fits e)
        go false e = e ∙ unless fits passes fits_passes e

-- bits
pub begins_none : (k x : ℕ) → k ≡ 0 → eqb x 0 ≡ (leb k 13 && ltb x (2 ^ k) && begins (bits_of k x))
unfolding begins bits_of
begins_none k x e = rw e (go (ℕ_discrete x 0))
  where
    go : Dec (x ≡ 0) → eqb x 0 ≡ (ltb x 1 && true)
    go (yes q) = rw q
    go (no q) = rw (ne_eqb x 0 q, le-ltb x 1 (omega arith))

pub begins_one : (k x : ℕ) → k ≡ 1 → eqb x 1 ≡ (leb k 13 && ltb x (2 ^ k) && begins (bits_of k x))
unfolding begins bits_of
begins_one k x e = rw e (go (ℕ_discrete x 0) (ℕ_discrete x 1))
  where
    go : Dec (x ≡ 0) → Dec (x ≡ 1) → eqb x 1 ≡ (ltb x 2 && begins (bits_of 1 x))
    go (yes q) r = rw q
    go (no q) (yes r) = rw r
    go (no q) (no r) = rw (ne_eqb x 1 r, le-ltb x 2 (omega arith))

-- two bits of weight 2h and h, and j bits below them
begins_two : (j x : ℕ) → j ≤ 11 → eqb (x / 2 ^ j) 3 ≡ (ltb x (2 ^ suc (suc j)) && begins (bits_of (suc (suc j)) x))
unfolding begins bits_of
begins_two j x hj = go (dec_lt x (2 ^ suc j)) (dec_lt x (3 * 2 ^ j)) (dec_lt x (4 * 2 ^ j))
  where
    p : 2 ^ suc j ≡ 2 * 2 ^ j
    p = pow-suc 2 j ∙ omega arith

    q : 2 ^ suc (suc j) ≡ 4 * 2 ^ j
    q = pow-suc 2 (suc j) ∙ omega (arith, p)

    z : 1 ≤ 2 ^ j
    z = pow_pos j

    go : Dec (x < 2 ^ suc j) → Dec (x < 3 * 2 ^ j) → Dec (x < 4 * 2 ^ j) → eqb (x / 2 ^ j) 3 ≡ (ltb x (2 ^ suc (suc j)) && begins (bits_of (suc (suc j)) x))
    go (yes a) b c =
        let n : x / 2 ^ j < 2 = (div-lt_iff_lt-mul z).1 (omega (arith, p)) in
        rw (ne_eqb (x / 2 ^ j) 3 (omega arith), lt-leb (2 ^ suc j) x a, and_no)
    go (no a) (yes b) c =
        let n : x / 2 ^ j < 3 = (div-lt_iff_lt-mul z).1 b in
        rw (ne_eqb (x / 2 ^ j) 3 (omega arith), le-leb (2 ^ suc j) x (omega arith), lt-leb (2 ^ j) (x - 2 ^ suc j) (omega (arith, p)), and_no)
    go (no a) (no b) (yes c) =
        let n : x / 2 ^ j ≡ 3 = div-eq_of_lt-le (2 ^ j) (omega arith) (omega arith) in
        rw (n, lt-ltb x (2 ^ suc (suc j)) (omega (arith, q)), le-leb (2 ^ suc j) x (omega arith), le-leb (2 ^ j) (x - 2 ^ suc j) (omega (arith, p)))
        (sym (le-leb (length (bits_of j (x - 2 ^ suc j - 2 ^ j))) 11 (omega (arith, length_bits j (x - 2 ^ suc j - 2 ^ j)))))
    go (no a) (no b) (no c) =
        let n : (x / 2 ^ j < 4 → ⊥) = λ l. c ((div-lt_iff_lt-mul z).0 l) in
        rw (ne_eqb (x / 2 ^ j) 3 (λ e. n (omega arith)), le-ltb x (2 ^ suc (suc j)) (omega (arith, q)))

pub begins_more : (k x : ℕ) → k ≤ 13 → k ≢ 0 → k ≢ 1 → eqb (x / 2 ^ (k - 2)) 3 ≡ (leb k 13 && ltb x (2 ^ k) && begins (bits_of k x))
begins_more k x h h0 h1 =
    let e : k ≡ suc (suc (k - 2)) = omega arith in
    rw (le-leb k 13 h) (begins_two (k - 2) x (omega arith) ∙ ap (λ (n : ℕ). ltb x (2 ^ n) && begins (bits_of n x)) (sym e))

-- a refusal
module _ (nr p : ℕ) where
  pub refusal_first : nr ≡ 1 → eqb p 0 ≡ fit_refused nr p
  unfolding fit_refused at_header wipes of_index in_step at_end among
  refusal_first e = rw (e, or_no)

  pub refusal_third : nr ≡ 3 → eqb p 0 ≡ fit_refused nr p
  unfolding fit_refused at_header wipes of_index in_step at_end among
  refusal_third e = rw (e, or_no)

  pub refusal_other : nr ≢ 1 → nr ≢ 3 → (r : Bool) → r ≡ wipes nr → r ≡ fit_refused nr p
  unfolding fit_refused at_header among
  refusal_other a b r e = rw (ne_eqb nr 1 a, ne_eqb nr 3 b) e

-- the numbers that wipe the tables
pub wiped_read : (nr : ℕ) → 11 ≤ nr → nr ≤ 18 → wipes nr ≡ true
unfolding all_within all_below wipes of_index in_step at_end among
wiped_read nr h l = all_within_lem wipes 11 19 refl nr h (omega arith)

pub wiped_end : (nr : ℕ) → 21 ≤ nr → nr ≤ 23 → wipes nr ≡ true
unfolding all_within all_below wipes of_index in_step at_end among
wiped_end nr h l = all_within_lem wipes 21 24 refl nr h (omega arith)

pub wiped_30 : (nr : ℕ) → nr ≡ 30 → wipes nr ≡ true
unfolding wipes of_index in_step at_end among
wiped_30 nr e = rw e

unwiped : (nr a b : ℕ) → all_within a b (λ k. not (wipes k)) ≡ true → a ≤ nr → nr < b → wipes nr ≡ false
unwiped nr a b e h l = not-true (wipes nr) (all_within_lem (λ k. not (wipes k)) a b e nr h l)

pub unwiped_low : (nr : ℕ) → nr < 11 → wipes nr ≡ false
unfolding all_within all_below wipes of_index in_step at_end among
unwiped_low nr l = unwiped nr 0 11 refl (omega arith) l

pub unwiped_mid : (nr : ℕ) → 18 < nr → nr < 21 → wipes nr ≡ false
unfolding all_within all_below wipes of_index in_step at_end among
unwiped_mid nr h l = unwiped nr 19 21 refl (omega arith) l

pub unwiped_high : (nr : ℕ) → 23 < nr → nr ≢ 30 → wipes nr ≡ false
unfolding wipes of_index in_step at_end among
unwiped_high nr h ne =
    rw (
      ne_eqb nr 11 (λ e. absurd (omega arith)),
      ne_eqb nr 12 (λ e. absurd (omega arith)),
      ne_eqb nr 13 (λ e. absurd (omega arith)),
      ne_eqb nr 14 (λ e. absurd (omega arith)),
      ne_eqb nr 15 (λ e. absurd (omega arith)),
      ne_eqb nr 16 (λ e. absurd (omega arith)),
      ne_eqb nr 17 (λ e. absurd (omega arith)),
      ne_eqb nr 18 (λ e. absurd (omega arith)),
      ne_eqb nr 21 (λ e. absurd (omega arith)),
      ne_eqb nr 22 (λ e. absurd (omega arith)),
      ne_eqb nr 23 (λ e. absurd (omega arith)),
      ne_eqb nr 30 ne,
    )

-- by which `wipes` is proved
pub ruleset wipings = (wiped_read, wiped_end, wiped_30, unwiped_low, unwiped_mid, unwiped_high)

-- N, n, the room and the count pass
pub record Sized (s : Session) (t : List ℕ) : Type 0 where
  pub low : 1 ≤ s.dim
  pub high : s.dim ≤ 6
  pub some : 1 ≤ s.darts
  pub most : s.darts ≤ 4096
  pub room : (s.dim + 1) * s.darts ≤ length t
  pub first : 1 ≤ s.count
  pub within : s.count ≤ s.darts

all_sized : {s : Session} {t : List ℕ} → Sized s t
    → (dim_fits s.dim && darts_fit s.darts && leb (size s.dim s.darts) (length t) && leb 1 s.count && leb s.count s.darts) ≡ true
unfolding dim_fits darts_fit
all_sized {s} {t} k = rw (
  le-leb 1 s.dim k.low,
  le-leb s.dim 6 k.high,
  le-leb 1 s.darts k.some,
  le-leb s.darts 4096 k.most,
  le-leb (size s.dim s.darts) (length t) (omega (arith, k.room)),
  le-leb 1 s.count k.first,
  le-leb s.count s.darts k.within,
)

-- what running and complete share: a test that fails, one after another
module _ (s : Session) (t : List ℕ) where
  pub walk_low : s.dim < 1 → false ≡ walk_fits by_dart s t
  unfolding walk_fits dim_fits
  walk_low h = rw (lt-leb 1 s.dim h)

  pub walk_high : 6 < s.dim → false ≡ walk_fits by_dart s t
  unfolding walk_fits dim_fits
  walk_high h = rw (lt-leb s.dim 6 h, and_no)

  pub walk_none : s.darts < 1 → false ≡ walk_fits by_dart s t
  unfolding walk_fits darts_fit
  walk_none h = rw (lt-leb 1 s.darts h, and_no)

  pub walk_many : 4096 < s.darts → false ≡ walk_fits by_dart s t
  unfolding walk_fits darts_fit
  walk_many h = rw (lt-leb s.darts 4096 h, and_no, and_no)

  pub walk_short : length t < (s.dim + 1) * s.darts → false ≡ walk_fits by_dart s t
  unfolding walk_fits
  walk_short h = rw (lt-leb (size s.dim s.darts) (length t) (omega arith), and_no)

  pub walk_empty : s.count < 1 → false ≡ walk_fits by_dart s t
  unfolding walk_fits
  walk_empty h = rw (lt-leb 1 s.count h, and_no)

  pub walk_over : s.darts < s.count → false ≡ walk_fits by_dart s t
  unfolding walk_fits
  walk_over h = rw (lt-leb s.count s.darts h, and_no)

  pub walk_bodies : (b : Bool) → b ≡ bodies_fit s.form s.bodies s.count → not b ≡ true → false ≡ walk_fits by_dart s t
  unfolding walk_fits
  walk_bodies b e h = rw (← e, not-true b h, and_no)

  module _ (f : Bool) (ef : f ≡ all_below (suc s.dim) (falls_at s.count s.positions)) where
    pub walk_rising : not f ≡ true → false ≡ walk_fits by_dart s t
    unfolding walk_fits positions_fit falls_at
    walk_rising h = rw (← ef, not-true f h, and_no)

    module _ (p : Bool) (ep : p ≡ all_below 7 (over_at s.dim s.positions)) where
      pub walk_past : not p ≡ true → false ≡ walk_fits by_dart s t
      unfolding walk_fits positions_fit over_at
      walk_past h = rw (← ep, not-true p h, and_no, and_no)

      -- every test but that of the entries passes
      pub walk_entries : Sized s t → (b : Bool) → b ≡ bodies_fit s.form s.bodies s.count → not b ≡ false → not f ≡ false → not p ≡ false
          → (r : Bool) → r ≡ all_below (size s.dim s.darts) (entry_at s.dim s.darts t s.count s.positions) → r ≡ walk_fits by_dart s t
      unfolding walk_fits positions_fit entries_fit entry_fits falls_at over_at entry_at entry_of entry_by
      walk_entries k b eb hb hf hp r e = rw (all_sized k, ← eb, not-false b hb, ← ef, not-false f hf, ← ep, not-false p hp) e

  -- what it says of the limits
  fits_limits : walk_fits by_dart s t ≡ true → Limits s.dim s.darts t
  unfolding walk_fits dim_fits darts_fit
  fits_limits e =
      let a = dim_fits s.dim in
      let b = darts_fit s.darts in
      let c = leb (size s.dim s.darts) (length t) in
      let counted = a && b && c && leb 1 s.count in
      let most = counted && leb s.count s.darts in
      let begun = bodies_fit s.form s.bodies s.count in
      let placed = and_left most begun (and_left (most && begun) (positions_fit s) (and_left _ (entries_fit by_dart s t) e)) in
      let all = and_left (a && b && c) (leb 1 s.count) (and_left counted (leb s.count s.darts) placed) in
      let d = and_left a b (and_left (a && b) c all) in
      let n = and_right a b (and_left (a && b) c all) in
      record {
        dims = (leb-true 1 s.dim (and_left (leb 1 s.dim) (leb s.dim 6) d), leb-true s.dim 6 (and_right (leb 1 s.dim) (leb s.dim 6) d));
        darts = (
          leb-true 1 s.darts (and_left (leb 1 s.darts) (leb s.darts 4096) n),
          leb-true s.darts 4096 (and_right (leb 1 s.darts) (leb s.darts 4096) n),
        );
        room = leb-true (size s.dim s.darts) (length t) (and_right (a && b) c all);
      }

  -- running and complete
  pub running_unfit : walk_fits by_dart s t ≡ false → false ≡ fit_as by_dart Running s t
  unfolding fit_as
  running_unfit e = rw e

  module _ (e : walk_fits by_dart s t ≡ true) where
    pub limits_of : Limits s.dim s.darts t
    limits_of = fits_limits e

    module _ (x : Stand) (ex : x ≡ stand_of s) where
      pub shape_of : length s.positions ≡ 7 → Shape (walk_at by_dart s.dim s.darts x t)
      shape_of seven = rw ex (fits_inv by_dart s t seven e).0.shape

      -- a being what `asks` answered
      module _ (a : Bool) (ea : a ≡ asks_at (walk_at by_dart s.dim s.darts x t)) where
        asking : asks (walk_of by_dart s t) (head (walk_of by_dart s t)) ≡ a
        asking = sym (rw ex at ea)

        pub running_still : a ≡ false → false ≡ fit_as by_dart Running s t
        unfolding fit_as
        running_still h = rw (e, asking, h)

        pub running_begun : a ≡ true → (r : Bool)
            → r ≡ (leb s.waiting 13 && ltb s.value (2 ^ s.waiting) && begins (bits_of s.waiting s.value)) → r ≡ fit_as by_dart Running s t
        unfolding fit_as value_fits waiting_of
        running_begun h r q = rw (e, asking, h) q

  -- the state's own case
  fit_as_lem : (st : State) → s.state ≡ st → fit_as by_dart st s t ≡ fit by_dart s t
  unfolding fit
  fit_as_lem st e = ap (λ (x : State). fit_as by_dart x s t) (sym e)

  pub fit_header_lem : s.state ≡ Header → (r : Bool) → r ≡ ((eqb s.waiting 0 || eqb s.waiting 8) && value_fits s && only_bits s) → r ≡ fit by_dart s t
  unfolding fit_as
  fit_header_lem e r q = q ∙ fit_as_lem Header e

  pub fit_running : s.state ≡ Running → (r : Bool) → r ≡ fit_as by_dart Running s t → r ≡ fit by_dart s t
  fit_running e r q = q ∙ fit_as_lem Running e

  pub fit_complete : s.state ≡ Complete → (r : Bool) → r ≡ fit_as by_dart Complete s t → r ≡ fit by_dart s t
  fit_complete e r q = q ∙ fit_as_lem Complete e

  pub fit_closed : s.state ≡ Closed → true ≡ fit by_dart s t
  unfolding fit_as
  fit_closed e = fit_as_lem Closed e

  pub fit_refused_lem : (nr p : ℕ) → s.state ≡ Refused nr p → (r : Bool) → r ≡ (fit_refused nr p && no_bodies s.form s.bodies) → r ≡ fit by_dart s t
  unfolding fit_as
  fit_refused_lem nr p e r q = q ∙ fit_as_lem (Refused nr p) e
