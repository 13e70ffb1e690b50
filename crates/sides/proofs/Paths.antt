-- Laws of a search in the tree: where it ends, that it has one end, and what it passes.
use Prim.Native.Nat.{ℕ, suc, ◌+◌, ◌*◌, ◌-◌, ◌/◌, ◌%◌, ◌≤◌, ◌<◌}
use mathlib.Core.Path.{◌≡◌, refl, sym, ◌∙◌}
use mathlib.Core.Logic.{◌≢◌}
use mathlib.Core.List.{List}
use native.Mathlib.Omega.{arith}
use native.Mathlib.Decide.{ℕ_discrete}
use lib.ListN.{length, get_or, set}
use lib.Seq.{get_or-set_same, get_or-set_other}
use borrow.Author.Tests.{lt-ltb, le-ltb}
use Rattle.std.specs.Prelude.{Result, Ok, Err}
use Rattle.sides.specs.Sides.{kid, owner_of, Grown, Path, free, found, onward}

-- the places of a corner's kids
owner_low : (at : ℕ) → at < 4096 → owner_of at ≡ 0
unfolding owner_of
owner_low at h = rw (lt-ltb at 4096 h)

owner_high : (at k : ℕ) → 4096 + 4 * k ≤ at → at < 4096 + 4 * k + 4 → owner_of at ≡ k + 1
unfolding owner_of
owner_high at k h l = rw (le-ltb at 4096 (omega arith)) (omega arith)

owner_kid : (k rest : ℕ) → owner_of (kid k rest) ≡ k + 1
unfolding kid
owner_kid k rest = owner_high (kid k rest) k (omega arith) (omega arith)

kid_low : (k rest : ℕ) → k < 2048 → kid k rest < 12288
unfolding kid
kid_low k rest h = omega arith

-- a place holds no corner, or one
hold : (n : ℕ) → n ≢ 0 → n ≡ suc (n - 1)
hold n h = omega arith

-- a tree of few corners is one of more
pub grown_more : (tree : List ℕ) (m n : ℕ) → Grown tree m → m ≤ n → n ≤ 2048 → Grown tree n
grown_more tree m n g h l = record { few = l; below = λ at. omega (arith, g.below at); newer = g.newer }

-- a search has come to a place: what is found from there on is found
pub record Seeking (tree keys : List ℕ) (key rest at : ℕ) : Type 0 where
  pub grown : Grown tree 2048
  pub low : at < 12288
  pub on : (r : Result ℕ ℕ) → Path tree keys key rest at r → Path tree keys key key (key % 4093) r

module _ (tree keys : List ℕ) (key : ℕ) where
  module _ {rest at : ℕ} (s : Seeking tree keys key rest at) where
    pub seeking_free : get_or tree at 0 ≡ 0 → Path tree keys key key (key % 4093) (Err at)
    seeking_free e = s.on (Err at) (free e)

    module _ (h : get_or tree at 0 ≢ 0) where
      pub seeking_low : get_or tree at 0 - 1 < 2048
      seeking_low = omega (arith, s.grown.below at)

      pub seeking_found : get_or keys (get_or tree at 0 - 1) 0 ≡ key → Path tree keys key key (key % 4093) (Ok (get_or tree at 0 - 1))
      seeking_found e = s.on (Ok (get_or tree at 0 - 1)) (found (get_or tree at 0 - 1) (hold (get_or tree at 0) h) e)

      pub seeking_less : 2048 - owner_of (kid (get_or tree at 0 - 1) rest) < 2048 - owner_of at
      seeking_less =
          let z = owner_kid (get_or tree at 0 - 1) rest in
          let o = s.grown.newer at (get_or tree at 0 - 1) (hold (get_or tree at 0) h) in
          omega (arith, s.grown.below at)

      pub seeking_next : get_or keys (get_or tree at 0 - 1) 0 ≢ key → Seeking tree keys key (rest / 2) (kid (get_or tree at 0 - 1) rest)
      seeking_next n = record {
        grown = s.grown;
        low = kid_low (get_or tree at 0 - 1) rest seeking_low;
        on = λ r p. s.on r (onward (get_or tree at 0 - 1) (hold (get_or tree at 0) h) n p);
      }

  -- a search has one end
  pub path_one : {rest at : ℕ} {r s : Result ℕ ℕ} → Path tree keys key rest at r → Path tree keys key rest at s → r ≡ s
  path_one (free e) (free f) = refl
  path_one (free e) (found k f g) = absurd (omega arith)
  path_one (free e) (onward k f g q) = absurd (omega arith)
  path_one (found k f g) (free e) = absurd (omega arith)
  path_one (found k f g) (found l e h) = let z : k ≡ l = omega arith in rw z
  path_one (found k f g) (onward l e h q) = let z : k ≡ l = omega arith in absurd (h (rw z at g))
  path_one (onward k f g p) (free e) = absurd (omega arith)
  path_one (onward k f g p) (found l e h) = let z : k ≡ l = omega arith in absurd (g (rw (← z) at h))
  path_one (onward k f g p) (onward l e h q) = let z : l ≡ k = omega arith in path_one p (rw z at q)

  -- what it ends at
  pub found_key : {rest at k : ℕ} → Path tree keys key rest at (Ok k) → get_or keys k 0 ≡ key
  found_key (found k f g) = g
  found_key (onward k f g p) = found_key p

  pub found_low : (n : ℕ) → Grown tree n → {rest at k : ℕ} → Path tree keys key rest at (Ok k) → k < n
  found_low n g {at = at} (found k f e) = omega (arith, g.below at)
  found_low n g (onward k f e p) = found_low n g p

  pub free_none : {rest at r : ℕ} → Path tree keys key rest at (Err r) → get_or tree r 0 ≡ 0
  free_none (free e) = e
  free_none (onward k f g p) = free_none p

  free_below : (n : ℕ) → Grown tree n → {rest at r : ℕ} → at < 12288 → owner_of at ≤ n → Path tree keys key rest at (Err r) → (r < 12288) × (owner_of r ≤ n)
  free_below n g h o (free e) = (h, o)
  free_below n g {rest = rest} {at = at} h o (onward k f e p) =
      let b = g.below at in
      let w = g.few in
      free_below n g (kid_low k rest (omega arith)) (omega (arith, owner_kid k rest)) p

  pub free_low : (n : ℕ) → Grown tree n → {r : ℕ} → Path tree keys key key (key % 4093) (Err r) → (r < 12288) × (owner_of r ≤ n)
  free_low n g p = free_below n g (omega arith) (omega (arith, owner_low (key % 4093) (omega arith))) p

-- a found search stays found where every place that holds a corner keeps it, with its key
pub path_kept : (tree keys tree' keys' : List ℕ) → ((x k : ℕ) → get_or tree x 0 ≡ suc k → (get_or tree' x 0 ≡ suc k) × (get_or keys' k 0 ≡ get_or keys k 0))
    → (q : ℕ) {rest x y : ℕ} → Path tree keys q rest x (Ok y) → Path tree' keys' q rest x (Ok y)
path_kept tree keys tree' keys' h q {x = x} (found k f e) = found k (h x k f).0 ((h x k f).1 ∙ e)
path_kept tree keys tree' keys' h q {x = x} (onward k f e p) =
    onward k (h x k f).0 (λ z. e (sym (h x k f).1 ∙ z)) (path_kept tree keys tree' keys' h q p)

-- corner i, new, is put at a place that was free
module _ (tree keys : List ℕ) (i key at : ℕ) (g : Grown tree i) (few : i < 2048) (n : get_or tree at 0 ≡ 0) (low : at < 12288) (own : owner_of at ≤ i)
    (ht : length tree ≡ 12288) (hk : length keys ≡ 2048) where
  pub tree_old : (x : ℕ) → x ≢ at → get_or (set tree at (i + 1)) x 0 ≡ get_or tree x 0
  tree_old x h = get_or-set_other tree at x (i + 1) 0 h

  pub tree_new : get_or (set tree at (i + 1)) at 0 ≡ suc i
  tree_new = get_or-set_same tree at (i + 1) 0 (omega arith) ∙ omega arith

  pub held : (x k : ℕ) → get_or tree x 0 ≡ suc k → (get_or (set tree at (i + 1)) x 0 ≡ suc k) × (get_or (set keys i key) k 0 ≡ get_or keys k 0)
  held x k e = (
    tree_old x (λ q. let z : get_or tree x 0 ≡ 0 = rw q n in omega arith) ∙ e,
    get_or-set_other keys i k key 0 (λ q. omega (arith, g.below x)),
  )

  pub path_new : {rest x : ℕ} → Path tree keys key rest x (Err at) → Path (set tree at (i + 1)) (set keys i key) key rest x (Ok i)
  path_new (free e) = found i tree_new (get_or-set_same keys i key 0 (omega arith))
  path_new {x = x} (onward k f e p) = onward k (held x k f).0 (λ z. e (sym (held x k f).1 ∙ z)) (path_new p)

  pub grown_new : Grown (set tree at (i + 1)) (i + 1)
  grown_new = record { few = omega arith; below = λ x. below x (ℕ_discrete x at); newer = λ x k e. newer x k e (ℕ_discrete x at) }
    where
      below : (x : ℕ) → Dec (x ≡ at) → get_or (set tree at (i + 1)) x 0 ≤ i + 1
      below x (yes q) = rw (q, tree_new) (omega arith)
      below x (no q) = rw (tree_old x q) (omega (arith, g.below x))

      newer : (x k : ℕ) → get_or (set tree at (i + 1)) x 0 ≡ suc k → Dec (x ≡ at) → owner_of x ≤ k
      newer x k e (yes q) = let z = tree_new in let w : suc i ≡ suc k = sym z ∙ (rw q at e) in rw q (omega arith)
      newer x k e (no q) = g.newer x k (sym (tree_old x q) ∙ e)
