-- What a step writes by the numbers is what the walk of the rules writes by its known links. Rests on the rules' Known and on the walk's Rooms.
use Prim.Native.Nat.{ℕ, zero, suc, ◌+◌, ◌-◌, ◌≤◌, ◌<◌}
use mathlib.Core.Path.{◌≡◌, refl, ap, sym, ◌∙◌}
use mathlib.Core.Bool.{Bool, true, false, cond}
use mathlib.Core.List.{List, [], ◌∷◌, ◌++◌}
use native.Mathlib.Omega.{arith}
use native.Mathlib.Decide.{dec_lt}
use lib.ListN.{length}
use lib.Dec.{eqb, ltb, leb}
use borrow.Author.Tests.{eqb-false, eq-eqb, ne_eqb, lt-ltb, le-leb, lt-leb, le-ltb}
use Rattle.std.specs.Prelude.{Option}
use Rattle.rules.specs.declared.Symbol as rules
use Rattle.rules.specs.Lists.{scan, first, number}
use Rattle.rules.specs.Map.{mark, link, Valid}
use Rattle.rules.specs.Walk.{Walk, Head, head, Partner, partner, pass, join, fresh, tie, Symbol, apply}
use Rattle.rules.specs.Walk.{Written, symbol_of, named, write_symbol, write_with, write_at}
use Rattle.rules.specs.Inner.{gone, Inv}
use Rattle.rules.proofs.Lists.{number_le, get_d_number}
use Rattle.rules.proofs.Positions.{Turn, gone_le_count}
use Rattle.rules.proofs.Links.{next_below}
use Rattle.rules.proofs.Walks.{next_of}
use Rattle.rules.proofs.Names.{name, Names}
use Rattle.rules.proofs.Known.{lean_known, lean_deduce, lean_partner, lower_link, partner_lean}
use Rattle.walk.specs.Numbers.{number_in, dart_in}
use Rattle.walk.proofs.Rooms.{Agrees, nameless}
use Rattle.replay.specs.Replays.{known_in, deducing_rank, writes_by, writes_in, count_after, told}

-- a step of the rules that writes s
pub record Stepping (m : List ℕ) (w : Walk) (names : List ℕ) (s : Option rules.Symbol) : Type 0 where
  pub walk : Walk
  pub after : List ℕ
  pub step : write_at m w names (head w) ≡ Written.wrote (told s) walk after
  pub count : walk.count ≡ count_after s w.count

-- the numbers of the room are those of the names, as far as the tests ask
module _ (n : ℕ) (names work : List ℕ) (G : Agrees n names work) where
  -- below a position that is at most the count the two numbers are the same
  below_same : (d p : ℕ) → p ≤ length names → ltb (number_in n work d) p ≡ ltb (number names d) p
  below_same d p h = go (dec_lt (number names d) (length names))
    where
      go : Dec (number names d < length names) → ltb (number_in n work d) p ≡ ltb (number names d) p
      go (yes l) = rw (G.numbered d l)
      go (no l) = rw (le-ltb (number_in n work d) p (omega (arith, G.unnumbered d (omega arith))), le-ltb (number names d) p (omega arith))

  new_same : (d : ℕ) → leb (length names) (number_in n work d) ≡ nameless names d
  new_same d = go (dec_lt (number names d) (length names))
    where
      go : Dec (number names d < length names) → leb (length names) (number_in n work d) ≡ nameless names d
      go (yes l) = rw (G.numbered d l, lt-leb (length names) (number names d) l, ne_eqb (number names d) (length names) (omega arith))
      go (no l) =
          rw (
            le-leb (length names) (number_in n work d) (G.unnumbered d (omega arith)),
            eq-eqb (number names d) (length names)
                (omega (arith, number_le names d)),
          )

module _ (m : List ℕ) (root : ℕ) (w : Walk) (names work : List ℕ) (v : Inv w) (M : Names m root w names) (A : Valid w.layout w.dim w.darts m)
    (G : Agrees w.darts names work) where
  position_le : (j : ℕ) → j ≤ w.dim → gone w j ≤ length names
  position_le j hj = omega (arith, gone_le_count w v.shape j hj, M.len)

  known_same : (j c : ℕ) → j ≤ w.dim → c < w.count → known_in w.layout w.dim w.darts m work j (gone w j) (name names c) ≡ lean_known m w names j c
  unfolding known_in lean_known
  known_same j c hj hc =
      rw (
        below_same w.darts names work G (name names c) (gone w j) (position_le j hj),
        M.back c hc,
        below_same w.darts names work G
            (link w.layout w.dim w.darts m j (name names c)) (gone w j) (position_le j hj),
      )

  module _ (j b : ℕ) (h : head w ≡ Head.at j b) where
    turn : Turn w j b
    turn = next_of w v h

    below : b < w.count
    below = next_below w v.shape v.links j b turn.next

    -- aj and ai of b's dart
    unfoldable pub across : ℕ → ℕ
    across i = link w.layout w.dim w.darts m i (name names b)

    seen : ℕ → Bool
    seen i = known_in w.layout w.dim w.darts m work j (gone w j) (across i)

    -- what the walk of the rules tests across i
    seen_lean : (i : ℕ) → i < j → lean_known m w names j (number names (across i)) ≡ seen i
    unfolding seen across
    seen_lean i hi =
        let (e, l) = lower_link m root w names v M A j b turn i hi in
        let l' : number names (across i) < w.count = unfold across in omega arith in
        let q : name names (number names (across i)) ≡ across i = unfold name in get_d_number names (across i) mark (omega (arith, M.len)) in
        sym (rw q at (known_same j (number names (across i)) turn.next.ranked l'))

    deduce_scan : (k i : ℕ) → k + i ≡ j - 1
        → lean_deduce m w names j b k i ≡ cond (ltb (scan seen k i) (k + i)) (Partner.deduced (number names (across j))) Partner.asked
    unfolding lean_deduce scan across
    deduce_scan zero i e = rw (le-ltb i (0 + i) (omega arith))
    deduce_scan (suc k) i e = go (deduce_scan k (suc i) (omega arith)) (seen i) refl
      where
        go : lean_deduce m w names j b k (suc i) ≡ cond (ltb (scan seen k (suc i)) (k + suc i)) (Partner.deduced (number names (across j))) Partner.asked
            → (t : Bool) → seen i ≡ t
            → cond (lean_known m w names j (number names (across i))) (Partner.deduced (number names (across j))) (lean_deduce m w names j b k (suc i))
            ≡ cond (ltb (elim t [ true ↦ i | false ↦ scan seen k (suc i) ]) (suc k + i)) (Partner.deduced (number names (across j))) Partner.asked
        go r true q = rw (seen_lean i (omega arith), q, lt-ltb i (suc k + i) (omega arith))
        go r false q = let s : suc k + i ≡ k + suc i = omega arith in rw (seen_lean i (omega arith), q, s) r

    -- the step's case, by numbers and positions alone
    partner_by : partner w j b
        ≡ cond (known_in w.layout w.dim w.darts m work j b (name names b)) Partner.known
        (cond (ltb (deducing_rank w.layout w.dim w.darts m work j b (name names b)) (j - 1)) (Partner.deduced (number names (across j))) Partner.asked)
    unfolding lean_partner deducing_rank first seen across
    partner_by =
        let e : b ≡ gone w j = turn.next.first in
        let z : j - 1 + 0 ≡ j - 1 = omega arith in
        let K : known_in w.layout w.dim w.darts m work j b (name names b) ≡ lean_known m w names j b =
        ap (λ (p : ℕ). known_in w.layout w.dim w.darts m work j p (name names b)) e ∙ known_same j b turn.next.ranked below in
        let D : deducing_rank w.layout w.dim w.darts m work j b (name names b)
        ≡ deducing_rank w.layout w.dim w.darts m work j (gone w j) (name names b) =
        ap (λ (p : ℕ). deducing_rank w.layout w.dim w.darts m work j p (name names b)) e in
        partner_lean m root w names v M A j b turn ∙ rw (K, D, deduce_scan (j - 1) 0 (omega arith), z)

    -- what is written, by numbers
    abbrev pub written : Option rules.Symbol
    written = writes_in w.layout w.dim w.darts m work w.count j b

    -- whether aj(b) is known, and deduced
    knows : Bool
    knows = known_in w.layout w.dim w.darts m work j b (name names b)

    deduces : Bool
    deduces = ltb (deducing_rank w.layout w.dim w.darts m work j b (name names b)) (j - 1)

    written_by : (k d : Bool) → knows ≡ k → deduces ≡ d
        → written ≡ writes_by k d (eqb (across j) (name names b)) (nameless names (across j)) (number_in w.darts work (across j))
    unfolding writes_in across knows deduces
    written_by k d p q =
        let e : dart_in w.darts work b ≡ name names b = G.dart b (omega (arith, below, M.len)) in
        rw (e, p, q, ← M.len, new_same w.darts names work G (link w.layout w.dim w.darts m j (name names b)))

    -- a step of the rules and what is written by numbers are one
    pub steps_written : Stepping m w names written
    unfolding writes_by write_at write_with write_symbol symbol_of named across knows deduces name apply tie pass join fresh
    steps_written = go knows deduces refl refl
      where
        asked : (a c : Bool) → eqb (across j) (name names b) ≡ a → nameless names (across j) ≡ c → partner w j b ≡ Partner.asked
            → Stepping m w names (writes_by false false a c (number_in w.darts work (across j)))
        asked true c p q r = record { walk = apply w j b Symbol.border; after = names; step = rw (h, r, p); count = refl }
        asked false true p q r = record { walk = apply w j b Symbol.new; after = names ++ (across j ∷ []); step = rw (h, r, p, q); count = omega arith }
        asked false false p q r =
            let l : number names (across j) < length names = omega (arith, number_le names (across j), eqb-false (number names (across j)) (length names) q) in
            record {
              walk = apply w j b (Symbol.index (number names (across j)));
              after = names;
              step = rw (h, r, p, q, G.numbered (across j) l);
              count = refl;
            }

        go : (k d : Bool) → knows ≡ k → deduces ≡ d → Stepping m w names written
        go true d p q = rw (written_by true d p q) (record { walk = pass w j b; after = names; step = rw (h, partner_by, p); count = refl })
        go false true p q = rw (written_by false true p q) (record {
          walk = tie w j b (number names (across j));
          after = names;
          step = rw (h, partner_by, p, q);
          count = refl;
        })
        go false false p q = rw (written_by false false p q) (asked _ _ refl refl (rw (p, q) at partner_by))
