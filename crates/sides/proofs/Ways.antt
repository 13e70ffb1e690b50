-- How far a search goes: each corner of the tree is where the search for its own key comes, and two keys that come to one place have the same low bits of both
-- vertices, as many as corners were passed. So a search passes no more corners than a vertex number has bits, whatever the vertex numbers. Rests on Paths.
use Prim.Native.Nat.{ℕ, zero, suc, ◌+◌, ◌*◌, ◌-◌, ◌/◌, ◌%◌, ◌^◌, ◌≤◌, ◌<◌}
use mathlib.Core.Path.{◌≡◌, refl, ap, sym, ◌∙◌}
use mathlib.Core.Logic.{◌≢◌}
use mathlib.Core.List.{List}
use native.Mathlib.Omega.{arith}
use native.Mathlib.Nat.{pow-suc}
use native.Mathlib.Decide.{ℕ_discrete, dec_lt}
use lib.ListN.{length, get_or, set}
use lib.Seq.{get_or-set_same, get_or-set_other}
use borrow.Author.Tests.{lt-ltb, le-ltb}
use Rattle.corners.specs.Steps.{Spot, begun, step_at, position_after}
use Rattle.corners.proofs.Steps.{Small, small_begun, small_step, small_after}
use Rattle.std.specs.Prelude.{Result, Err}
use Rattle.sides.specs.Sides.{key_of, key_at, kid, owner_of, Grown, Path, free, found, onward, Way, begins, goes, Sown, Swept}
use Rattle.sides.proofs.Paths.{held, tree_old, tree_new, free_none}

-- a way stays where every place that holds a corner keeps it
way_kept : (tree tree' : List ℕ) → ((x k : ℕ) → get_or tree x 0 ≡ suc k → get_or tree' x 0 ≡ suc k) → {key j rest at : ℕ} → Way tree key j rest at
    → Way tree' key j rest at
way_kept tree tree' h begins = begins
way_kept tree tree' h (goes {at = at} k w e) = goes k (way_kept tree tree' h w) (h at k e)

-- a search that ends at a free place comes there
path_way : (tree keys : List ℕ) (key : ℕ) {j rest at r : ℕ} → Way tree key j rest at → Path tree keys key rest at (Err r)
    → (i : ℕ) × (left : ℕ) × Way tree key i left r
path_way tree keys key {j} {rest} w (free e) = (j, rest, w)
path_way tree keys key {j = j} {r = r} w (onward {rest = rest} {at = at} k e n p) = path_way tree keys key {j = suc j} (goes k w e) p

-- a tree with no corner
pub sown_none : (tree keys : List ℕ) → ((at : ℕ) → get_or tree at 0 ≡ 0) → Sown tree keys
sown_none tree keys z = record { once = λ a b k e. absurd (omega (arith, z a)); comes = λ a k e. absurd (omega (arith, z a)) }

-- the key of a corner that is not in the tree
pub sown_key : (tree keys : List ℕ) (i key : ℕ) → Grown tree i → Sown tree keys → Sown tree (set keys i key)
sown_key tree keys i key g s = record {
  once = s.once;
  comes = λ a k e. rw (get_or-set_other keys i k key 0 (λ q. omega (arith, g.below a))) (s.comes a k e);
}

-- corner i, new, at the free place to which the search for its key comes
module _ (tree keys : List ℕ) (i key at : ℕ) (g : Grown tree i) (few : i < 2048) (low : at < 12288) (own : owner_of at ≤ i) (ht : length tree ≡ 12288)
    (hk : length keys ≡ 2048) (p : Path tree keys key key (key % 4093) (Err at)) (s : Sown tree keys) where
  none : get_or tree at 0 ≡ 0
  none = free_none tree keys key p

  old : (x : ℕ) → x ≢ at → get_or (set tree at (i + 1)) x 0 ≡ get_or tree x 0
  old = tree_old tree keys i key at g few none low own ht hk

  new : get_or (set tree at (i + 1)) at 0 ≡ suc i
  new = tree_new tree keys i key at g few none low own ht hk

  keeps : (x k : ℕ) → get_or tree x 0 ≡ suc k → (get_or (set tree at (i + 1)) x 0 ≡ suc k) × (get_or (set keys i key) k 0 ≡ get_or keys k 0)
  keeps = held tree keys i key at g few none low own ht hk

  pub sown_new : Sown (set tree at (i + 1)) (set keys i key)
  sown_new = record { once = λ a b k e f. once a b k e f (ℕ_discrete a at) (ℕ_discrete b at); comes = λ a k e. comes a k e (ℕ_discrete a at) }
    where
      once : (a b k : ℕ) → get_or (set tree at (i + 1)) a 0 ≡ suc k → get_or (set tree at (i + 1)) b 0 ≡ suc k → Dec (a ≡ at) → Dec (b ≡ at) → a ≡ b
      once a b k e f (yes x) (yes y) = x ∙ sym y
      once a b k e f (yes x) (no y) = let z = rw x at e in absurd (omega (arith, new, old b y, g.below b))
      once a b k e f (no x) (yes y) = let z = rw y at f in absurd (omega (arith, new, old a x, g.below a))
      once a b k e f (no x) (no y) = s.once a b k (sym (old a x) ∙ e) (sym (old b y) ∙ f)

      comes : (a k : ℕ) → get_or (set tree at (i + 1)) a 0 ≡ suc k → Dec (a ≡ at)
          → (j : ℕ) × (rest : ℕ) × Way (set tree at (i + 1)) (get_or (set keys i key) k 0) j rest a
      comes a k e (yes x) =
          let z : k ≡ i = let y = rw x at e in omega (arith, new) in
          let (j, rest, w) = path_way tree keys key begins p in
          rw (z, x, get_or-set_same keys i key 0 (omega arith)) (j, rest, way_kept tree (set tree at (i + 1)) (λ y l q. (keeps y l q).0) w)
      comes a k e (no x) =
          let q = sym (old a x) ∙ e in
          let (j, rest, w) = s.comes a k q in
          rw (keeps a k q).1 (j, rest, way_kept tree (set tree at (i + 1)) (λ y l q. (keeps y l q).0) w)

-- a number without its j lowest bits
unfoldable halved : ℕ → ℕ → ℕ
halved zero x = x
halved (suc j) x = halved j x / 2

halved_half : (j x : ℕ) → halved j (x / 2) ≡ halved j x / 2
unfolding halved
halved_half zero x = refl
halved_half (suc j) x = ap (λ (y : ℕ). y / 2) (halved_half j x)

-- two keys have the same j low bits of both vertices
abbrev Same : ℕ → ℕ → ℕ → Type 0
Same j x y = (i : ℕ) → i < j → (halved i x % 2 ≡ halved i y % 2) × (halved i x / 4294967296 % 2 ≡ halved i y / 4294967296 % 2)

-- numbers of j bits that are all the same are one number
bits_one : (j x y : ℕ) → ((i : ℕ) → i < j → halved i x % 2 ≡ halved i y % 2) → x < 2 ^ j → y < 2 ^ j → x ≡ y
unfolding halved
bits_one zero x y f h l = omega arith
bits_one (suc j) x y f h l =
    let p : 2 ^ suc j ≡ 2 * 2 ^ j = pow-suc 2 j ∙ omega arith in
    let q = bits_one j (x / 2) (y / 2) (λ i o. rw (halved_half i x, halved_half i y) (f (suc i) (omega arith))) (omega arith) (omega arith) in
    omega (arith, f 0 (omega arith))

-- what is left of a key after so many steps: of the greater vertex, and of the other
high_left : (i key : ℕ) → halved i key / 4294967296 ≡ halved i (key / 4294967296)
unfolding halved
high_left zero key = refl
high_left (suc i) key = omega (arith, high_left i key)

-- a number with n bits 0 after it
unfoldable lifted : ℕ → ℕ → ℕ
lifted zero x = x
lifted (suc n) x = 2 * lifted n x

low_left : (i n key : ℕ) → i + n ≡ 32 → halved i key ≡ halved i (key % 4294967296) + lifted n (key / 4294967296)
unfolding halved lifted
low_left zero n key e = rw (let z : n ≡ 32 = omega arith in z) (omega arith)
low_left (suc i) n key e = omega (arith, low_left i (suc n) key (omega arith))

low_bit : (i key : ℕ) → i < 32 → halved i key % 2 ≡ halved i (key % 4294967296) % 2
unfolding lifted
low_bit i key h = omega (arith, low_left i (suc (31 - i)) key (omega arith))

-- a key of two vertices of 30 bits, which every number of nine digits has
pub record Narrow (key : ℕ) : Type 0 where
  pub low : key % 4294967296 < 2 ^ 30
  pub high : key / 4294967296 < 2 ^ 30

same_one : (x y : ℕ) → Narrow x → Narrow y → Same 30 x y → x ≡ y
same_one x y n m f =
    let a = bits_one 30 (x % 4294967296) (y % 4294967296) (λ i h. sym (low_bit i x (omega arith)) ∙ ((f i h).0 ∙ low_bit i y (omega arith))) n.low m.low in
    let b = bits_one 30 (x / 4294967296) (y / 4294967296) (λ i h. rw (← high_left i x, ← high_left i y) (f i h).1) n.high m.high in
    omega (arith, a, b)

-- what is left of a key on a way
way_left : (tree : List ℕ) (key : ℕ) {j rest at : ℕ} → Way tree key j rest at → rest ≡ halved j key
unfolding halved
way_left tree key begins = refl
way_left tree key (goes k w e) = ap (λ (x : ℕ). x / 2) (way_left tree key w)

-- keys that come to one place have come equally far, and have the same bits so far
ways_same : (tree keys : List ℕ) → Sown tree keys → (key key' : ℕ) {j j' rest rest' at at' : ℕ} → Way tree key j rest at → Way tree key' j' rest' at'
    → at ≡ at' → (j ≡ j') × Same j key key'
unfolding kid
ways_same tree keys s key key' begins begins q = (refl, λ i h. absurd (omega arith))
ways_same tree keys s key key' begins (goes k' w' e') q = absurd (omega arith)
ways_same tree keys s key key' (goes k w e) begins q = absurd (omega arith)
ways_same tree keys s key key' (goes {j = j} {rest = r} {at = a} k w e) (goes {j = j'} {rest = r'} {at = a'} k' w' e') q =
    let z : k ≡ k' = omega arith in
    let p : a ≡ a' = s.once a a' k e (rw z e') in
    let (x, f) = ways_same tree keys s key key' w w' p in
    (ap suc x, λ i h. bits x f i h (ℕ_discrete i j))
  where
    bits : j ≡ j' → Same j key key' → (i : ℕ) → i < suc j → Dec (i ≡ j) → (halved i key % 2 ≡ halved i key' % 2)
        × (halved i key / 4294967296 % 2 ≡ halved i key' / 4294967296 % 2)
    bits x f i h (yes y) =
        let a = way_left tree key w in
        let b = way_left tree key' w' in
        rw (y, ← a) (rw (x, ← b) (omega arith, omega arith))
    bits x f i h (no y) = f i (omega arith)

-- how many corners a search looks at
pub looked : {tree keys : List ℕ} {key rest at : ℕ} {r : Result ℕ ℕ} → Path tree keys key rest at r → ℕ
looked (free e) = 0
looked (found k e f) = 1
looked (onward k e n p) = suc (looked p)

-- a search passes no corner after the thirtieth
module _ (tree keys : List ℕ) (s : Sown tree keys) (key : ℕ) (n : Narrow key) (narrow : (at k : ℕ) → get_or tree at 0 ≡ suc k → Narrow (get_or keys k 0)) where
  passes : {j rest at : ℕ} (k : ℕ) → Way tree key j rest at → get_or tree at 0 ≡ suc k → get_or keys k 0 ≢ key → j < 30
  passes {j} {rest} {at} k w e d = go (dec_lt j 30)
    where
      go : Dec (j < 30) → j < 30
      go (yes h) = h
      go (no h) =
          let (i, left, v) = s.comes at k e in
          let (x, f) = ways_same tree keys s key (get_or keys k 0) w v refl in
          absurd (d (sym (same_one key (get_or keys k 0) n (narrow at k e) (λ i l. f i (omega arith)))))

  left_to_look : {j rest at : ℕ} {r : Result ℕ ℕ} → Way tree key j rest at → j ≤ 30 → (p : Path tree keys key rest at r) → j + looked p ≤ 31
  unfolding looked
  left_to_look w h (free e) = omega arith
  left_to_look w h (found k e f) = omega arith
  left_to_look {j = j} w h (onward {rest = rest} {at = at} {r = r} k e d p) =
      omega (arith, left_to_look {j = suc j} (goes k w e) (omega (arith, passes k w e d)) p)

-- so a search in a swept table looks at 31 corners at most, whatever the keys
pub search_short : (tree keys twins : List ℕ) (kf : ℕ → ℕ) (m j : ℕ) → Swept tree keys twins kf m j → ((y : ℕ) → y < m → Narrow (kf y))
    → (key : ℕ) → Narrow key → (r : Result ℕ ℕ) (p : Path tree keys key key (key % 4093) r) → looked p ≤ 31
search_short tree keys twins kf m j w n key h r p =
    omega (arith, left_to_look tree keys w.sown key h known begins (omega arith) p)
  where
    known : (at k : ℕ) → get_or tree at 0 ≡ suc k → Narrow (get_or keys k 0)
    known at k e = let l : k < m = omega (arith, w.grown.below at) in rw (w.keyed k l) (n k l)

-- the keys of a text's corners are narrow, since a number has nine digits at most
key_narrow : (u v : ℕ) → u < 1000000000 → v < 1000000000 → Narrow (key_of u v)
unfolding key_of
key_narrow u v h l = go (dec_lt v u)
  where
    go : Dec (v < u) → Narrow (key_of u v)
    go (yes o) = rw (lt-ltb v u o) (record { low = omega arith; high = omega arith })
    go (no o) = rw (le-ltb v u (omega arith)) (record { low = omega arith; high = omega arith })

text_narrow : (t : List ℕ) (c : Spot) → Small c → (x : ℕ) → Narrow (key_at t c x)
unfolding key_at step_at
text_narrow t c s x = let (h, l, n) = small_step t (position_after t x c) (small_after t x c s) in key_narrow _ _ h l

-- so it is for the blocks of every text: in a table of corners from the d-th of the text on, the search for the side of each corner from there on is short
pub text_short : (t : List ℕ) (start d : ℕ) → let c = position_after t d (begun start) in (tree keys twins : List ℕ) (m j : ℕ)
    → Swept tree keys twins (key_at t c) m j → (x : ℕ) (r : Result ℕ ℕ)
    → (p : Path tree keys (key_at t c x) (key_at t c x) (key_at t c x % 4093) r) → looked p ≤ 31
text_short t start d tree keys twins m j w x r p = search_short tree keys twins (key_at t c) m j w (λ y h. narrow y) (key_at t c x) (narrow x) r p
  where
    c : Spot
    c = position_after t d (begun start)

    narrow : (y : ℕ) → Narrow (key_at t c y)
    narrow = text_narrow t c (small_after t d (begun start) (small_begun start))
