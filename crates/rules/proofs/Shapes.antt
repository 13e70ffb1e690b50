-- One stream for one shape: two valid connected maps, each with a root, have equal streams exactly if a matching carries links to links and root to root.
-- That matching takes each dart to the one of the same walk number, so there is one at most. Equal streams are read back to the same tables, which are
-- both maps under their walk numbers. Rests on Follows and Complete.
use Prim.Native.Nat.{ℕ, ◌+◌, ◌≤◌, ◌<◌}
use mathlib.Core.Path.{◌≡◌, ap, sym, ◌∙◌}
use mathlib.Core.List.{List}
use native.Mathlib.Omega.{arith}
use native.Mathlib.Decide.{dec_lt}
use lib.ListN.{get_or-eq_default, length, replicate, length-replicate}
use Rattle.rules.specs.declared.ReadAnswer.{ReadAnswer}
use Rattle.rules.specs.declared.Form.TheVariants.{One}
use Rattle.rules.specs.Lists.{number}
use Rattle.rules.specs.Map.{Layout, mark, size, Valid, Connected, Limits}
use Rattle.rules.specs.Reading.{read_answer, read_tables}
use Rattle.rules.specs.Walk.{names_of}
use Rattle.rules.specs.Writing.{stream}
use Rattle.rules.proofs.Renamed.{Carries, back, onto, carries_back, carries_then, carries_as}
use Rattle.rules.proofs.Names.{name, Renumbered}
use Rattle.rules.proofs.Numbering.{name_number, names_all, name_root, number_root, reaches_numbered}
use Rattle.rules.proofs.Follows.{stream_renamed, number_renamed}
use Rattle.rules.proofs.Complete.{complete}

-- a matching of two maps: it carries every ai of the one to the other, and root to root
pub record Matched (Y : Layout) (N n : ℕ) (m : List ℕ) (root N' n' : ℕ) (m' : List ℕ) (root' : ℕ) : Type 0 where
  pub dim : N ≡ N'
  pub darts : n ≡ n'
  pub match : ℕ → ℕ
  pub carries : Carries Y Y match N n m m'
  pub rooted : match root ≡ root'

-- past the last number there is no dart
name_past : (names : List ℕ) (b : ℕ) → length names ≤ b → name names b ≡ mark
unfolding name
name_past names b h = get_or-eq_default names mark h

-- the dart of the second map with the walk number that d has in the first
unfoldable pub same_number : (Y : Layout) (N n : ℕ) (m : List ℕ) (root : ℕ) (m' : List ℕ) (root' : ℕ) → ℕ → ℕ
same_number Y N n m root m' root' d = name (names_of One Y N n m' root') (number (names_of One Y N n m root) d)

module _ {Y : Layout} {N n : ℕ} {m : List ℕ} {root : ℕ} {m' : List ℕ} {root' : ℕ} (h6 : N ≤ 6) (hn : n ≤ 4096)
    (A : Valid Y N n m) (C : Connected Y N n m root) (A' : Valid Y N n m') (C' : Connected Y N n m' root') where
  -- two maps that are read back as one
  carries_number : (t : List ℕ) → Renumbered Y N n m t (names_of One Y N n m root) → Renumbered Y N n m' t (names_of One Y N n m' root')
      → Carries Y Y (same_number Y N n m root m' root') N n m m'
  unfolding same_number
  carries_number t R R' = carries_as (carries_then R.carries (carries_back R'.carries A'.inside)) A.inside same (λ d h. only d h (dec_lt d n))
    where
      names : List ℕ
      names = names_of One Y N n m root

      names' : List ℕ
      names' = names_of One Y N n m' root'

      same : (d : ℕ) → d < n → name names' (number names d) ≡ back (number names') n (number names d)
      same d h =
          let (l, e) = onto R'.carries (number names d) (R.carries.low d h) in
          rw e at (R'.named (back (number names') n (number names d)) l)

      only : (d : ℕ) → name names' (number names d) < n → Dec (d < n) → d < n
      only d h (yes l) = l
      only d h (no l) =
          let past : length names' ≤ number names d = go (dec_lt (number names d) n) in
          let e = name_past names' (number names d) past in
          absurd (omega arith)
        where
          go : Dec (number names d < n) → length names' ≤ number names d
          go (yes k) = absurd (l (R.carries.only d k))
          go (no k) = omega (arith, names_all One Y N n m' root' h6 hn C'.rooted A' C')

  number_rooted : same_number Y N n m root m' root' root ≡ root'
  unfolding same_number
  number_rooted = rw (number_root One Y N n m root h6 hn C.rooted A) (name_root One Y N n m' root' h6 hn C'.rooted A')

  -- a matching takes each dart to the one of its walk number
  pub match_number : {f : ℕ → ℕ} → Carries Y Y f N n m m' → f root ≡ root' → (d : ℕ) → d < n → f d ≡ same_number Y N n m root m' root' d
  unfolding same_number
  match_number {f} K e d h =
      let q : number (names_of One Y N n m' root') (f d) ≡ number (names_of One Y N n m root) d = rw e at (number_renamed K h6 hn C.rooted A d h) in
      let l = reaches_numbered One Y N n m' root' h6 hn C'.rooted A' (C'.reached (f d) (K.low d h)) in
      sym (rw q at (name_number One Y N n m' root' h6 hn C'.rooted A' (f d) l))

-- equal streams are read back to one map, so the darts of equal numbers match
module _ {Y : Layout} {N n : ℕ} {m : List ℕ} {root N' n' : ℕ} {m' : List ℕ} {root' : ℕ} (L : Limits N n m) (A : Valid Y N n m) (C : Connected Y N n m root)
    (L' : Limits N' n' m') (A' : Valid Y N' n' m') (C' : Connected Y N' n' m' root') where
  -- tables with room for both
  lent : List ℕ
  lent = replicate (size N n + size N' n') 0

  room : Limits N n lent
  unfolding lent
  room = record { dims = L.dims; darts = L.darts; room = omega (arith, length-replicate {A = ℕ} (size N n + size N' n') 0) }

  room' : Limits N' n' lent
  unfolding lent
  room' = record { dims = L'.dims; darts = L'.darts; room = omega (arith, length-replicate {A = ℕ} (size N n + size N' n') 0) }

  sizes : stream One Y N n m root ≡ stream One Y N' n' m' root' → (N ≡ N') × (n ≡ n')
  sizes e =
      let a = (complete One Y N n m root lent room A C).answer in
      let a' = (complete One Y N' n' m' root' lent room' A' C').answer in
      let p = sym a ∙ (ap (λ (b : List ℕ). read_answer Y b lent) e ∙ a') in
      (ap (λ (a : ReadAnswer). a.dim) p, ap (λ (a : ReadAnswer). a.darts) p)

  streams_match : stream One Y N n m root ≡ stream One Y N' n' m' root' → Matched Y N n m root N' n' m' root'
  streams_match e =
      let (eN, en) = sizes e in
      let B : Valid Y N n m' = rw (eN, en) A' in
      let D : Connected Y N n m' root' = rw (eN, en) C' in
      let q : stream One Y N n m' root' ≡ stream One Y N' n' m' root' = λ i. stream One Y (eN i) (en i) m' root' in
      let R = (complete One Y N n m root lent room A C).renumbered in
      let R' : Renumbered Y N n m' (read_tables Y (stream One Y N n m root) lent) (names_of One Y N n m' root') =
      rw (e ∙ sym q) (complete One Y N n m' root' lent room B D).renumbered in
      record {
        dim = eN;
        darts = en;
        match = same_number Y N n m root m' root';
        carries = carries_number L.dims.1 L.darts.1 A C B D _ R R';
        rooted = number_rooted L.dims.1 L.darts.1 A C B D;
      }

  match_streams : Matched Y N n m root N' n' m' root' → stream One Y N n m root ≡ stream One Y N' n' m' root'
  match_streams M = sym (rw (← M.dim, ← M.darts, ← M.rooted) (stream_renamed M.carries L.dims.1 L.darts.1 C.rooted A))

  -- two valid connected maps, each with a root, have equal streams exactly if a matching carries links to links and root to root
  pub one_shape : (stream One Y N n m root ≡ stream One Y N' n' m' root' → Matched Y N n m root N' n' m' root')
      × (Matched Y N n m root N' n' m' root' → stream One Y N n m root ≡ stream One Y N' n' m' root')
  one_shape = (streams_match, match_streams)
