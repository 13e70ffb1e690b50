-- The whole answer of a face file: a number is given exactly where its case holds and none before it does; the map that a file makes is never refused by
-- 1 or 5 to 8, and its 2-cells are the file's faces. Rests on Firsts, Pairs, Orbits, Check, Corners, Built and FaceCases.
use Prim.Native.Nat.{ℕ, zero, suc, ◌+◌, ◌*◌, ◌-◌, ◌/◌, ◌≤◌, ◌<◌}
use mathlib.Core.Path.{◌≡◌, refl, ap, sym, ◌∙◌}
use mathlib.Core.Logic.{◌≢◌, ◌⊎◌, inl, inr}
use mathlib.Core.Bool.{true, false, cond}
use mathlib.Core.List.{List, []}
use native.Mathlib.Omega.{arith}
use native.Mathlib.Decide.{ℕ_discrete, dec_lt, dec_le}
use lib.ListN.{length, get_or}
use lib.Dec.{ltb}
use borrow.Author.Tests.{lt-leb, lt-ltb, le-ltb}
use Rattle.rules.specs.declared.Form.TheVariants.{One}
use Rattle.rules.specs.Lists.{list_of}
use Rattle.rules.specs.Map.{Layout, size, link, Reached, all_ranks, all_but, Valid, Limits}
use Rattle.rules.specs.Check.{Verdict, verdict}
use Rattle.rules.specs.Report.{cells}
use Rattle.shapes.specs.Text.{Read, bad, good, File, file}
use Rattle.shapes.specs.Faces.{Corner, all_corners, corner_at, some, poor, faces_verdict, darts_of, vertex_of, corner_before, corner_after, twin}
use Rattle.shapes.specs.Faces.{link_from, map_on, read_verdict}
use Rattle.rules.proofs.Firsts.{Least, first_refuted}
use Rattle.rules.proofs.Pairs.{pair_breaks}
use Rattle.rules.proofs.Orbits.{Closed, valid_closed, reached_trans, reached_below, reached_sym}
use Rattle.rules.proofs.Lists.{length_list_of, get_d_list_of}
use Rattle.rules.proofs.Cells.{Representatives, cells_unique}
use Rattle.rules.proofs.Check.{Case, Passes, refused_case, case_refused, fine_passes, passes_fine}
use Rattle.shapes.proofs.Corners.{start_of, start_next, start_within, Of, of_known, of_some, of_first, of_end, own_at, far_at, far_last, framed}
use Rattle.shapes.proofs.Corners.{some_none, face_three, own_far, after_last, after_other}
use Rattle.shapes.proofs.Corners.{next_first_lem, first_first, after_below, before_below, before_after, after_before, far_next}
use Rattle.shapes.proofs.Built.{Twice, by_ends, vertex_own, vertex_far, zero_own, zero_far, one_own, one_far, free_own, free_far, Joined, joined}
use Rattle.shapes.proofs.Built.{twin_other, twin_alike, twin_only, two_vertex, built_length, built_link, built_valid}
use Rattle.shapes.proofs.FaceCases.{SameTwo, alike_same, same_alike, FaceCase, case_number, Earlier, FacesDecided}
use Rattle.shapes.proofs.FaceCases.{faces_decided, case_faces, Flawless, flawless_faces}

-- of a valid map with room for it only 9 can hold of the check from root 0
pub valid_case : (Y : Layout) (N n : ℕ) (t : List ℕ) (room : ℕ) → Limits N n t → 2 * n ≤ room → Valid Y N n t → {nr p : ℕ}
    → Case One Y N n 0 t room nr p → nr ≡ 9
valid_case Y N n t room L w v (Case.dims h) = absurd (h L.dims)
valid_case Y N n t room L w v (Case.darts h) = absurd (h L.darts)
valid_case Y N n t room L w v (Case.tables h) = absurd (omega (arith, L.room))
valid_case Y N n t room L w v (Case.work h) = absurd (omega arith)
valid_case Y N n t room L w v (Case.rootless h) = absurd (omega (arith, L.darts.0))
valid_case Y N n t room L w v (Case.entry i d F) = absurd (first_refuted F v.inside)
valid_case Y N n t room L w v (Case.inverse i d F) = absurd (first_refuted F v.inverse)
valid_case Y N n t room L w v (Case.manifold k d F) = absurd (pair_breaks Y N n t k d L.dims.1 F v.manifold)
valid_case Y N n t room L w v (Case.unreachable o d M) = refl
valid_case Y N n t room L w v (Case.alone o g) = let z : ◌≡◌ {A = ℕ} 0 1 = cc in absurd (omega arith)

-- so the check answers fine or 9
pub valid_verdict : (Y : Layout) (N n : ℕ) (t : List ℕ) (room : ℕ) → Limits N n t → 2 * n ≤ room → Valid Y N n t
    → (verdict One Y N n 0 t room ≡ Verdict.fine) ⊎ ((d : ℕ) × (verdict One Y N n 0 t room ≡ Verdict.refused 9 d))
valid_verdict Y N n t room L w v = go (verdict One Y N n 0 t room) refl
  where
    go : (r : Verdict) → verdict One Y N n 0 t room ≡ r → (r ≡ Verdict.fine) ⊎ ((d : ℕ) × (r ≡ Verdict.refused 9 d))
    go Verdict.fine e = inl refl
    go (Verdict.refused nr p) e =
        let c = (refused_case One Y N n 0 t room nr p e).0 in
        inr (p, ap (λ (k : ℕ). Verdict.refused k p) (valid_case Y N n t room L w v c))

-- no case holds of what the check lets pass
pub passes_case : (Y : Layout) (N n : ℕ) (t : List ℕ) (room : ℕ) → Passes One Y N n 0 t room → {nr p : ℕ} → Case One Y N n 0 t room nr p → ⊥
passes_case Y N n t room P {nr} {p} c =
    let e = case_refused One Y N n 0 t room nr p c (λ k q l c'. omega (arith, nine c', nine c)) in
    let f = passes_fine One Y N n 0 t room P in
    let z : ◌≡◌ {A = ℕ} 0 1 = cc in
    absurd (omega arith)
  where
    nine : {k q : ℕ} → Case One Y N n 0 t room k q → k ≡ 9
    nine d = valid_case Y N n t room P.limits P.work P.valid d

-- the tables stay as long as they were, whether they hold the map or not
pub on_length : (Y : Layout) (cs : List Corner) (t : List ℕ) → length (map_on Y cs t) ≡ length t
unfolding map_on
on_length Y cs t = go (dec_le (size 2 (darts_of cs)) (length t))
  where
    go : Dec (size 2 (darts_of cs) ≤ length t) → length (map_on Y cs t) ≡ length t
    go (yes l) = built_length Y cs t l
    go (no l) = rw (lt-leb (size 2 (darts_of cs)) (length t) (omega arith))

-- the corners of a file, how many darts they make, and the tables with its map
abbrev pub corners_in : File → List Corner
corners_in m = all_corners 0 m.faces

abbrev pub darts_in : File → ℕ
darts_in m = darts_of (corners_in m)

abbrev pub tables_in : Layout → File → List ℕ → List ℕ
tables_in Y m t = map_on Y (corners_in m) t

-- document 02, E5: when each number's case holds of a text, and its place
pub data PostCase (Y : Layout) (text t : List ℕ) (room : ℕ) : (number place : ℕ) → Type 0 where
  malformed : (w : ℕ) → file text ≡ bad w → PostCase Y text t room 26 w
  flawed : (m : File) (p : ℕ) → file text ≡ good m p → {nr k : ℕ} → FaceCase m.vertices m.faces nr k → PostCase Y text t room nr k
  darts : (m : File) (p : ℕ) → file text ≡ good m p → (darts_in m ≡ 0) ⊎ (4096 < darts_in m) → PostCase Y text t room 2 0
  tables : (m : File) (p : ℕ) → file text ≡ good m p → length t < 3 * darts_in m → PostCase Y text t room 3 0
  work : (m : File) (p : ℕ) → file text ≡ good m p → room < 2 * darts_in m → PostCase Y text t room 4 0
  unreachable : (m : File) (p : ℕ) → file text ≡ good m p → (d : ℕ) → Least (darts_in m) (Reached Y all_ranks 2 (darts_in m) (tables_in Y m t) 0) d
      → PostCase Y text t room 9 d

-- the order of the answers: 26 before all others; then 27 to 29 face by face; then the numbers of the check, the lower before the higher
pub data Prior (nr place nr' place' : ℕ) : Type 0 where
  text_first : nr ≡ 26 → nr' ≢ 26 → Prior nr place nr' place'
  by_face : (27 ≤ nr) × (nr ≤ 29) → (27 ≤ nr') × (nr' ≤ 29) → Earlier nr place nr' place' → Prior nr place nr' place'
  face_first : (27 ≤ nr) × (nr ≤ 29) → nr' ≤ 9 → Prior nr place nr' place'
  by_number : nr < nr' → nr' ≤ 9 → Prior nr place nr' place'

-- what a text comes to that is accepted: it is well formed, no case holds of it, and its map is valid and connected, within the limits and the room
pub record Accepted (Y : Layout) (text t : List ℕ) (room : ℕ) : Type 0 where
  pub made : File
  pub after : ℕ
  pub reads : file text ≡ good made after
  pub spared : (nr p : ℕ) → PostCase Y text t room nr p → ⊥
  pub passes : Passes One Y 2 (darts_in made) 0 (tables_in Y made t) room

module _ (Y : Layout) (text t : List ℕ) (room : ℕ) where
  -- the check's cases of a file's map
  abbrev MapCase : File → ℕ → ℕ → Type 0
  MapCase m nr q = Case One Y 2 (darts_in m) 0 (tables_in Y m t) room nr q

  -- a case of a text that is well formed is one of a face, or one of the check
  data Kind (m : File) (nr q : ℕ) : Type 0 where
    of_face : FaceCase m.vertices m.faces nr q → Kind m nr q
    of_map : MapCase m nr q → nr ≤ 9 → Kind m nr q

  kind_of : (m : File) (p : ℕ) → file text ≡ good m p → {nr q : ℕ} → PostCase Y text t room nr q → Kind m nr q
  kind_of m p e (malformed w f) = let z : ◌≡◌ {A = ℕ} 0 1 = cc in absurd (omega arith)
  kind_of m p e (flawed m' p' f c) = let z : m' ≡ m = cc in of_face (rw z at c)
  kind_of m p e (darts m' p' f h) = let z : m' ≡ m = cc in of_map (Case.darts (out (rw z at h))) (omega arith)
    where
      out : {n : ℕ} → (n ≡ 0) ⊎ (4096 < n) → (1 ≤ n) × (n ≤ 4096) → ⊥
      out (inl a) (l, m) = omega arith
      out (inr a) (l, m) = omega arith
  kind_of m p e (tables m' p' f h) =
      let z : m' ≡ m = cc in
      let l : length t < 3 * darts_in m = rw z at h in
      of_map (Case.tables (omega (arith, on_length Y (corners_in m) t))) (omega arith)
  kind_of m p e (work m' p' f h) = let z : m' ≡ m = cc in of_map (Case.work (rw z at h)) (omega arith)
  kind_of m p e (unreachable m' p' f d L) = let z : m' ≡ m = cc in of_map (Case.unreachable refl d (rw z at L)) (omega arith)

  -- where no case of a face holds nor 3 the faces are flawless and the tables hold the map, which is valid
  holds : (m : File) (p : ℕ) → file text ≡ good m p → ((nr k : ℕ) → FaceCase m.vertices m.faces nr k → ⊥) → (PostCase Y text t room 3 0 → ⊥)
      → Flawless m.vertices m.faces × (3 * darts_in m ≤ length t)
  holds m p e clean short = (flawless_faces m.vertices m.faces clean, go (dec_le (3 * darts_in m) (length t)))
    where
      go : Dec (3 * darts_in m ≤ length t) → 3 * darts_in m ≤ length t
      go (yes l) = l
      go (no l) = absurd (short (tables m p e (omega arith)))

  valid : (m : File) (p : ℕ) → file text ≡ good m p → ((nr k : ℕ) → FaceCase m.vertices m.faces nr k → ⊥) → (PostCase Y text t room 3 0 → ⊥)
      → Valid Y 2 (darts_in m) (tables_in Y m t)
  valid m p e clean short = let (F, l) = holds m p e clean short in built_valid Y m.faces t F.no_poor F.twice l

  -- a case of the check is one of the text where none with a lower number holds, and no face is refused
  as_post : (m : File) (p : ℕ) → file text ≡ good m p → ((nr k : ℕ) → FaceCase m.vertices m.faces nr k → ⊥) → {nr q : ℕ} → MapCase m nr q
      → ((nr' q' : ℕ) → nr' < nr → PostCase Y text t room nr' q' → ⊥) → PostCase Y text t room nr q
  as_post m p e clean (Case.dims h) lower = absurd (h (omega arith, omega arith))
  as_post m p e clean (Case.darts h) lower = darts m p e (out (dec_le 1 (darts_in m)) (dec_le (darts_in m) 4096))
    where
      out : Dec (1 ≤ darts_in m) → Dec (darts_in m ≤ 4096) → (darts_in m ≡ 0) ⊎ (4096 < darts_in m)
      out (no a) b = inl (omega arith)
      out (yes a) (no b) = inr (omega arith)
      out (yes a) (yes b) = absurd (h (a, b))
  as_post m p e clean (Case.tables h) lower = tables m p e (omega (arith, on_length Y (corners_in m) t))
  as_post m p e clean (Case.work h) lower = work m p e h
  as_post m p e clean (Case.rootless h) lower = absurd (lower 2 0 (omega arith) (darts m p e (inl (omega arith))))
  as_post m p e clean (Case.entry i d F) lower = absurd (first_refuted F (valid m p e clean (lower 3 0 (omega arith))).inside)
  as_post m p e clean (Case.inverse i d F) lower = absurd (first_refuted F (valid m p e clean (lower 3 0 (omega arith))).inverse)
  as_post m p e clean (Case.manifold k d F) lower =
      absurd (pair_breaks Y 2 (darts_in m) (tables_in Y m t) k d (omega arith) F (valid m p e clean (lower 3 0 (omega arith))).manifold)
  as_post m p e clean (Case.unreachable o d L) lower = unreachable m p e d L
  as_post m p e clean (Case.alone o g) lower = let z : ◌≡◌ {A = ℕ} 0 1 = cc in absurd (omega arith)

  -- what a text comes to: the first case that holds refuses, or none holds and it is accepted
  data Decided : Type 0 where
    refuses : (nr p : ℕ) → PostCase Y text t room nr p → ((nr' p' : ℕ) → Prior nr' p' nr p → PostCase Y text t room nr' p' → ⊥)
        → read_verdict Y (file text) t room ≡ Verdict.refused nr p → Decided
    accepts : Accepted Y text t room → read_verdict Y (file text) t room ≡ Verdict.fine → Decided

  -- 26
  decided_bad : (w : ℕ) → file text ≡ bad w → Decided
  unfolding read_verdict
  decided_bad w e = refuses 26 w (malformed w e) (λ nr p o c. none o) (rw e)
    where
      none : {nr p : ℕ} → Prior nr p 26 w → ⊥
      none (text_first a b) = b refl
      none (by_face a b c) = omega (arith, b.0)
      none (face_first a b) = omega arith
      none (by_number a b) = omega arith

  -- 27 to 29
  decided_face : (m : File) (p : ℕ) → file text ≡ good m p → (nr k : ℕ) → FaceCase m.vertices m.faces nr k
      → ((nr' k' : ℕ) → Earlier nr' k' nr k → FaceCase m.vertices m.faces nr' k' → ⊥)
      → ((later : Verdict) → faces_verdict m.vertices (corners_in m) 0 0 m.faces later ≡ Verdict.refused nr k) → Decided
  unfolding read_verdict
  decided_face m p e nr k c first q = refuses nr k (flawed m p e c) (λ nr' k' o d. none o (kind_of m p e d)) (rw e (q _))
    where
      number : (27 ≤ nr) × (nr ≤ 29)
      number = case_number m.vertices m.faces c

      none : {nr' k' : ℕ} → Prior nr' k' nr k → Kind m nr' k' → ⊥
      none (text_first a b) (of_face d) = omega (arith, (case_number m.vertices m.faces d).0)
      none (text_first a b) (of_map d l) = omega arith
      none {nr'} {k'} (by_face a b o) (of_face d) = first nr' k' o d
      none (by_face a b o) (of_map d l) = omega (arith, a.0)
      none (face_first a b) d = omega (arith, number.0)
      none (by_number a b) d = omega (arith, number.0)

  -- the rest
  decided_map : (m : File) (p : ℕ) → file text ≡ good m p → ((nr k : ℕ) → FaceCase m.vertices m.faces nr k → ⊥) → (r : Verdict)
      → verdict One Y 2 (darts_in m) 0 (tables_in Y m t) room ≡ r → read_verdict Y (file text) t room ≡ r → Decided
  decided_map m p e clean Verdict.fine f q = accepts (record { made = m; after = p; reads = e; spared = λ nr k c. none (kind_of m p e c); passes = P }) q
    where
      P : Passes One Y 2 (darts_in m) 0 (tables_in Y m t) room
      P = fine_passes One Y 2 (darts_in m) 0 (tables_in Y m t) room f

      none : {nr k : ℕ} → Kind m nr k → ⊥
      none {nr} {k} (of_face c) = clean nr k c
      none (of_map c l) = passes_case Y 2 (darts_in m) (tables_in Y m t) room P c
  decided_map m p e clean (Verdict.refused nr q) f v =
      let (c, lower) = refused_case One Y 2 (darts_in m) 0 (tables_in Y m t) room nr q f in
      let x = as_post m p e clean c (λ nr' q' l d. none l lower (kind_of m p e d)) in
      refuses nr q x (λ nr' q' o d. prior (at_most (kind_of m p e x)) lower o (kind_of m p e d)) v
    where
      at_most : Kind m nr q → nr ≤ 9
      at_most (of_face d) = absurd (clean nr q d)
      at_most (of_map d l) = l

      none : {nr' q' : ℕ} → nr' < nr → ((nr' q' : ℕ) → nr' < nr → MapCase m nr' q' → ⊥) → Kind m nr' q' → ⊥
      none {nr'} {q'} l lower (of_face d) = clean nr' q' d
      none {nr'} {q'} l lower (of_map d h) = lower nr' q' l d

      prior : {nr' q' : ℕ} → nr ≤ 9 → ((nr' q' : ℕ) → nr' < nr → MapCase m nr' q' → ⊥) → Prior nr' q' nr q → Kind m nr' q' → ⊥
      prior {nr'} {q'} top lower o (of_face d) = clean nr' q' d
      prior top lower (text_first a b) (of_map d h) = omega arith
      prior top lower (by_face a b o) (of_map d h) = omega (arith, a.0)
      prior top lower (face_first a b) (of_map d h) = omega (arith, a.0)
      prior {nr'} {q'} top lower (by_number a b) (of_map d h) = lower nr' q' a d

  decided : Decided
  unfolding read_verdict
  decided = go (file text) refl
    where
      go : (r : Read File) → file text ≡ r → Decided
      go (bad w) e = decided_bad w e
      go (good m p) e = rest (faces_decided m.vertices m.faces)
        where
          rest : FacesDecided m.vertices m.faces → Decided
          rest (FacesDecided.found nr k c first q) = decided_face m p e nr k c first q
          rest (FacesDecided.none clean q) =
              decided_map m p e clean (verdict One Y 2 (darts_in m) 0 (tables_in Y m t) room) refl (ap (λ (r : Read File). read_verdict Y r t room) e ∙ q _)

  -- a refusal is given where its case holds and none prior to it
  pub post_case : (nr p : ℕ) → read_verdict Y (file text) t room ≡ Verdict.refused nr p
      → PostCase Y text t room nr p × ((nr' p' : ℕ) → Prior nr' p' nr p → PostCase Y text t room nr' p' → ⊥)
  post_case nr p v = go decided
    where
      go : Decided → PostCase Y text t room nr p × ((nr' p' : ℕ) → Prior nr' p' nr p → PostCase Y text t room nr' p' → ⊥)
      go (refuses k q c first e) =
          let a : k ≡ nr = cc in
          let b : q ≡ p = cc in
          (rw (a, b) at c, rw (a, b) at first)
      go (accepts A e) = let z : ◌≡◌ {A = ℕ} 0 1 = cc in absurd (omega arith)

  -- a text is accepted where no case holds
  pub post_fine : read_verdict Y (file text) t room ≡ Verdict.fine → Accepted Y text t room
  post_fine v = go decided
    where
      go : Decided → Accepted Y text t room
      go (refuses k q c first e) = let z : ◌≡◌ {A = ℕ} 0 1 = cc in absurd (omega arith)
      go (accepts A e) = A

  pub fine_post : ((nr p : ℕ) → PostCase Y text t room nr p → ⊥) → read_verdict Y (file text) t room ≡ Verdict.fine
  fine_post none = go decided
    where
      go : Decided → read_verdict Y (file text) t room ≡ Verdict.fine
      go (refuses nr p c first e) = absurd (none nr p c)
      go (accepts A e) = e

  -- where a case holds and none prior to it, it is given
  case_kind : (m : File) (p : ℕ) → file text ≡ good m p → (nr q : ℕ) → Kind m nr q → ((nr' q' : ℕ) → Prior nr' q' nr q → PostCase Y text t room nr' q' → ⊥)
      → read_verdict Y (good m p) t room ≡ Verdict.refused nr q
  unfolding read_verdict
  case_kind m p e nr q (of_face c) none =
      case_faces m.vertices m.faces nr q c (λ k x o d. none k x (by_face (number d) (number c) o) (flawed m p e d)) _
    where
      number : {k x : ℕ} → FaceCase m.vertices m.faces k x → (27 ≤ k) × (k ≤ 29)
      number d = case_number m.vertices m.faces d
  case_kind m p e nr q (of_map c top) none = go (faces_decided m.vertices m.faces)
    where
      lower : ((k x : ℕ) → FaceCase m.vertices m.faces k x → ⊥) → (k x : ℕ) → k < nr → MapCase m k x → ⊥
      lower clean k x l d = none k x (by_number l top) (as_post m p e clean d (λ i y l'. none i y (by_number (omega arith) top)))

      go : FacesDecided m.vertices m.faces → read_verdict Y (good m p) t room ≡ Verdict.refused nr q
      go (FacesDecided.found k x d first f) = absurd (none k x (face_first (case_number m.vertices m.faces d) top) (flawed m p e d))
      go (FacesDecided.none clean f) = f _ ∙ case_refused One Y 2 (darts_in m) 0 (tables_in Y m t) room nr q c (lower clean)

  pub case_post : (nr p : ℕ) → PostCase Y text t room nr p → ((nr' p' : ℕ) → Prior nr' p' nr p → PostCase Y text t room nr' p' → ⊥)
      → read_verdict Y (file text) t room ≡ Verdict.refused nr p
  unfolding read_verdict
  case_post nr q c none = go (file text) refl
    where
      only : (w : ℕ) → file text ≡ bad w → {k x : ℕ} → PostCase Y text t room k x → Verdict.refused 26 w ≡ Verdict.refused k x
      only w e (malformed x f) = cc
      only w e (flawed m p f d) = let z : ◌≡◌ {A = ℕ} 0 1 = cc in absurd (omega arith)
      only w e (darts m p f h) = let z : ◌≡◌ {A = ℕ} 0 1 = cc in absurd (omega arith)
      only w e (tables m p f h) = let z : ◌≡◌ {A = ℕ} 0 1 = cc in absurd (omega arith)
      only w e (work m p f h) = let z : ◌≡◌ {A = ℕ} 0 1 = cc in absurd (omega arith)
      only w e (unreachable m p f d L) = let z : ◌≡◌ {A = ℕ} 0 1 = cc in absurd (omega arith)

      go : (r : Read File) → file text ≡ r → read_verdict Y r t room ≡ Verdict.refused nr q
      go (bad w) e = only w e c
      go (good m p) e = case_kind m p e nr q (kind_of m p e c) none

  -- the numbers of all cases
  pub post_number : {nr p : ℕ} → PostCase Y text t room nr p → ((26 ≤ nr) × (nr ≤ 29)) ⊎ (((2 ≤ nr) × (nr ≤ 4)) ⊎ (nr ≡ 9))
  post_number (malformed w e) = inl (omega arith, omega arith)
  post_number (flawed m p e c) = let (l, h) = case_number m.vertices m.faces c in inl (omega arith, omega arith)
  post_number (darts m p e h) = inr (inl (omega arith, omega arith))
  post_number (tables m p e h) = inr (inl (omega arith, omega arith))
  post_number (work m p e h) = inr (inl (omega arith, omega arith))
  post_number (unreachable m p e d L) = inr (inr refl)

  -- so 30 is never given
  pub never_alone : (nr p : ℕ) → read_verdict Y (file text) t room ≡ Verdict.refused nr p → nr ≢ 30
  never_alone nr p v z = go (post_number (post_case nr p v).0)
    where
      go : ((26 ≤ nr) × (nr ≤ 29)) ⊎ (((2 ≤ nr) × (nr ≤ 4)) ⊎ (nr ≡ 9)) → ⊥
      go (inl (l, h)) = omega arith
      go (inr (inl (l, h))) = omega arith
      go (inr (inr e)) = omega arith

  -- so the map is never refused as one that was built wrongly
  pub never_misbuilt : (nr p : ℕ) → read_verdict Y (file text) t room ≡ Verdict.refused nr p → (nr ≢ 1) × (nr ≢ 5) × (nr ≢ 6) × (nr ≢ 7) × (nr ≢ 8)
  never_misbuilt nr p v = go (post_number (post_case nr p v).0)
    where
      go : ((26 ≤ nr) × (nr ≤ 29)) ⊎ (((2 ≤ nr) × (nr ≤ 4)) ⊎ (nr ≡ 9)) → (nr ≢ 1) × (nr ≢ 5) × (nr ≢ 6) × (nr ≢ 7) × (nr ≢ 8)
      go (inl (l, h)) = (λ z. omega arith, λ z. omega arith, λ z. omega arith, λ z. omega arith, λ z. omega arith)
      go (inr (inl (l, h))) = (λ z. omega arith, λ z. omega arith, λ z. omega arith, λ z. omega arith, λ z. omega arith)
      go (inr (inr e)) = (λ z. omega arith, λ z. omega arith, λ z. omega arith, λ z. omega arith, λ z. omega arith)

  -- of a text that is accepted or refused by 9 the faces are flawless and the tables hold the map
  pub post_built : (m : File) (p : ℕ) → file text ≡ good m p
      → (read_verdict Y (file text) t room ≡ Verdict.fine) ⊎ ((d : ℕ) × (read_verdict Y (file text) t room ≡ Verdict.refused 9 d))
      → Flawless m.vertices m.faces × (3 * darts_in m ≤ length t)
  post_built m p e (inl v) = let A = post_fine v in holds m p e (λ nr k c. A.spared nr k (flawed m p e c)) (A.spared 3 0)
  post_built m p e (inr (d, v)) =
      let (c, none) = post_case 9 d v in
      holds m p e (λ nr k x. none nr k (face_first (case_number m.vertices m.faces x) (omega arith)) (flawed m p e x))
      (none 3 0 (by_number (omega arith) (omega arith)))

-- the corner of a face after corner j, the first one after the last
unfoldable pub next_in : List ℕ → ℕ → ℕ
next_in f j = cond (ltb (suc j) (length f)) (suc j) 0

-- document 02, E5, "Each corner, in file order, gives two darts, own end first, on the side to its next corner": corner j of face k is corner c of all, which
-- has the darts 2c and 2c + 1
pub record CornerIs (fs : List (List ℕ)) (k j c : ℕ) : Type 0 where
  pub own_end : vertex_of (all_corners 0 fs) (2 * c) ≡ get_or (get_or fs k []) j 0
  pub far_end : vertex_of (all_corners 0 fs) (2 * c + 1) ≡ get_or (get_or fs k []) (next_in (get_or fs k []) j) 0
  pub next : corner_after (all_corners 0 fs) c ≡ start_of fs k + next_in (get_or fs k []) j

pub corner_is : (fs : List (List ℕ)) (k j : ℕ) → k < length fs → j < length (get_or fs k []) → CornerIs fs k j (start_of fs k + j)
unfolding next_in
corner_is fs k j h l = go (dec_lt (suc j) (length f))
  where
    f : List ℕ
    f = get_or fs k []

    cs : List Corner
    cs = all_corners 0 fs

    c : ℕ
    c = start_of fs k + j

    o : Of fs k c
    o = record { from = omega arith; up_to = omega (arith, start_next fs k h) }

    own : vertex_of cs (2 * c) ≡ get_or f j 0
    own = let z : c - start_of fs k ≡ j = omega arith in rw z at (vertex_own cs c ∙ own_at fs k c o)

    go : Dec (suc j < length f) → CornerIs fs k j c
    go (yes m) =
        let e = lt-ltb (suc j) (length f) m in
        let z : suc c - start_of fs k ≡ suc j = omega arith in
        record {
          own_end = own;
          far_end = rw e (rw z at (vertex_far cs c ∙ far_at fs k c o (omega (arith, start_next fs k h))));
          next = rw e (after_other cs c (λ q. omega (arith, of_end fs k c o, start_next fs k h)) ∙ omega arith);
        }
    go (no m) =
        let e = le-ltb (suc j) (length f) (omega arith) in
        record {
          own_end = own;
          far_end = rw e (vertex_far cs c ∙ far_last fs k c o (omega (arith, start_next fs k h)));
          next = rw e (after_last cs c (omega (arith, of_end fs k c o, start_next fs k h)) ∙ (of_first fs k c o ∙ omega arith));
        }

-- a later face starts no earlier
start_le : (fs : List (List ℕ)) (k m : ℕ) → k ≤ m → m < length fs → start_of fs k ≤ start_of fs m
start_le fs k zero h l = let z : k ≡ 0 = omega arith in rw z (omega arith)
start_le fs k (suc m) h l = go (dec_le k m) (λ q. start_le fs k m q (omega arith))
  where
    go : Dec (k ≤ m) → (k ≤ m → start_of fs k ≤ start_of fs m) → start_of fs k ≤ start_of fs (suc m)
    go (yes q) rec = omega (arith, rec q, start_next fs m (omega arith))
    go (no q) rec = let z : k ≡ suc m = omega arith in rw z (omega arith)

-- corners whose faces have one first corner are of one face
pub first_of : (fs : List (List ℕ)) (k c k' c' : ℕ) → Of fs k c → Of fs k' c'
    → (corner_at (all_corners 0 fs) c).first ≡ (corner_at (all_corners 0 fs) c').first → k ≡ k'
first_of fs k c k' c' o o' e = go (dec_lt k k') (dec_lt k' k)
  where
    past : (k c k' c' : ℕ) → Of fs k c → Of fs k' c' → k < k' → start_of fs k < start_of fs k'
    past k c k' c' o o' l = omega (arith, o.from, o.up_to, start_le fs (suc k) k' l (of_known fs k' c' o'))

    same : start_of fs k ≡ start_of fs k'
    same = sym (of_first fs k c o) ∙ (e ∙ of_first fs k' c' o')

    go : Dec (k < k') → Dec (k' < k) → k ≡ k'
    go (yes l) m = absurd (omega (arith, same, past k c k' c' o o' l))
    go (no l) (yes m) = absurd (omega (arith, same, past k' c' k c o' o m))
    go (no l) (no m) = omega arith

-- document 02, E5: the links of the two darts of corner c, in the tables u of the corners cs. 2c is at the corner's own vertex, 2c + 1 at the far one
pub record LinksAre (Y : Layout) (cs : List Corner) (u : List ℕ) (c : ℕ) : Type 0 where
  -- a0 joins the corner's two darts, which are at two vertices
  pub zero_near : link Y 2 (darts_of cs) u 0 (2 * c) ≡ 2 * c + 1
  pub zero_back : link Y 2 (darts_of cs) u 0 (2 * c + 1) ≡ 2 * c
  pub two_ends : vertex_of cs (2 * c) ≢ vertex_of cs (2 * c + 1)
  -- a1 joins the far dart with the near one of the corner after it in the face, which is at the same vertex
  pub one_on : link Y 2 (darts_of cs) u 1 (2 * c + 1) ≡ 2 * corner_after cs c
  pub one_back : link Y 2 (darts_of cs) u 1 (2 * corner_after cs c) ≡ 2 * c + 1
  pub one_vertex : vertex_of cs (2 * corner_after cs c) ≡ vertex_of cs (2 * c + 1)
  -- where no other corner has the same two vertices a2 leaves both darts in place
  pub free : ((e : ℕ) → e < length cs → e ≢ c → SameTwo (corner_at cs c) (corner_at cs e) → ⊥) → (d : ℕ) → d / 2 ≡ c → link Y 2 (darts_of cs) u 2 d ≡ d
  -- where another has them a2 leads to its dart at the same vertex
  pub matched : (e : ℕ) → e < length cs → e ≢ c → SameTwo (corner_at cs c) (corner_at cs e) → (d : ℕ) → d / 2 ≡ c
      → (link Y 2 (darts_of cs) u 2 d / 2 ≡ e) × (vertex_of cs (link Y 2 (darts_of cs) u 2 d) ≡ vertex_of cs d)

-- the map that faces make, where none is poor, no side is used a third time, and the tables hold it
module _ (Y : Layout) (fs : List (List ℕ)) (t : List ℕ) (rich : some poor fs ≡ false) (twice : Twice (all_corners 0 fs))
    (room : size 2 (darts_of (all_corners 0 fs)) ≤ length t) where
  abbrev cs : List Corner
  cs = all_corners 0 fs

  abbrev n : ℕ
  n = darts_of (all_corners 0 fs)

  abbrev u : List ℕ
  u = map_on Y (all_corners 0 fs) t

  closed : Closed Y 2 n u
  closed = valid_closed (built_valid Y fs t rich twice room)

  -- the first corner of a corner's face
  abbrev start : ℕ → ℕ
  start c = (corner_at cs c).first

  -- the corners around a corner are of its face
  after_same : (c : ℕ) → c < length cs → start (corner_after cs c) ≡ start c
  after_same c h = go (ℕ_discrete (corner_at cs c).left 1)
    where
      go : Dec ((corner_at cs c).left ≡ 1) → start (corner_after cs c) ≡ start c
      go (yes e) = ap (λ (x : ℕ). start x) (after_last cs c e) ∙ first_first cs (framed fs) c h
      go (no e) = ap (λ (x : ℕ). start x) (after_other cs c e) ∙ next_first_lem cs (framed fs) c h e

  before_same : (c : ℕ) → c < length cs → start (corner_before cs c) ≡ start c
  before_same c h =
      sym (after_same (corner_before cs c) (before_below cs (framed fs) c h)) ∙ ap (λ (x : ℕ). start x) (after_before cs (framed fs) c h)

  -- a0 and a1 stay within a face
  zero_same : (d : ℕ) → d < 2 * length cs → start (link_from cs 0 d / 2) ≡ start (d / 2)
  zero_same = by_ends (λ d. start (link_from cs 0 d / 2) ≡ start (d / 2)) (length cs)
      (λ c h. ap (λ (x : ℕ). start x) (omega (arith, zero_own cs c))) (λ c h. ap (λ (x : ℕ). start x) (omega (arith, zero_far cs c)))

  one_same : (d : ℕ) → d < 2 * length cs → start (link_from cs 1 d / 2) ≡ start (d / 2)
  one_same = by_ends (λ d. start (link_from cs 1 d / 2) ≡ start (d / 2)) (length cs) own far
    where
      own : (c : ℕ) → c < length cs → start (link_from cs 1 (2 * c) / 2) ≡ start (2 * c / 2)
      own c h =
          let a : link_from cs 1 (2 * c) / 2 ≡ corner_before cs c = omega (arith, one_own cs c) in
          let b : 2 * c / 2 ≡ c = omega arith in
          rw (a, b) (before_same c h)

      far : (c : ℕ) → c < length cs → start (link_from cs 1 (2 * c + 1) / 2) ≡ start ((2 * c + 1) / 2)
      far c h =
          let a : link_from cs 1 (2 * c + 1) / 2 ≡ corner_after cs c = omega (arith, one_far cs c) in
          let b : (2 * c + 1) / 2 ≡ c = omega arith in
          rw (a, b) (after_same c h)

  link_same : (i d : ℕ) → i ≤ 2 → all_but 2 i ≡ true → d < n → start (link Y 2 n u i d / 2) ≡ start (d / 2)
  unfolding darts_of all_but
  link_same zero d h k l = ap (λ (x : ℕ). start (x / 2)) (built_link Y cs t room 0 d h l) ∙ zero_same d l
  link_same (suc zero) d h k l = ap (λ (x : ℕ). start (x / 2)) (built_link Y cs t room 1 d h l) ∙ one_same d l
  link_same (suc (suc zero)) d h k l = let z : ◌≡◌ {A = ℕ} 0 1 = cc in absurd (omega arith)
  link_same (suc (suc (suc i))) d h k l = absurd (omega arith)

  -- darts of one 2-cell are of corners of one face
  pub cell_face : (d e : ℕ) → d < n → Reached Y (all_but 2) 2 n u d e → (corner_at cs (d / 2)).first ≡ (corner_at cs (e / 2)).first
  cell_face d e h Reached.here = refl
  cell_face d e h (Reached.onward {e = c} i hi k q) = cell_face d c h q ∙ sym (link_same i c hi k (reached_below closed h q))

  -- from a dart by a0 and a1
  step : (i d e x : ℕ) → i ≤ 1 → e < n → link_from cs i e ≡ x → Reached Y (all_but 2) 2 n u d e → Reached Y (all_but 2) 2 n u d x
  unfolding all_but
  step i d e x h l q r =
      let z : link Y 2 n u i e ≡ x = built_link Y cs t room i e (omega arith) l ∙ q in
      let s : Reached Y (all_but 2) 2 n u d (link Y 2 n u i e) = Reached.onward i (omega arith) (kept i h) r in
      rw z at s
    where
      kept : (i : ℕ) → i ≤ 1 → all_but 2 i ≡ true
      kept zero h = refl
      kept (suc zero) h = refl
      kept (suc (suc i)) h = absurd (omega arith)

  -- from a face's first corner on to each of its corners, j corners later
  along : (j c : ℕ) → c < length cs → start c + j ≡ c → Reached Y (all_but 2) 2 n u (2 * start c) (2 * c)
  unfolding darts_of
  along zero c h e = let z : start c ≡ c = omega arith in rw z Reached.here
  along (suc j) c h e =
      let F = framed fs c h in
      let a : start (c - 1) ≡ start c = F.same_first (c - 1) (omega arith) (omega arith) in
      let b : c - 1 + (corner_at cs (c - 1)).left ≡ c + (corner_at cs c).left = F.same_end (c - 1) (omega arith) (omega arith) in
      let x : corner_after cs (c - 1) ≡ c = after_other cs (c - 1) (λ q. omega (arith, F.left_some)) ∙ omega arith in
      let r : Reached Y (all_but 2) 2 n u (2 * start c) (2 * (c - 1)) = rw a at (along j (c - 1) (omega arith) (omega arith)) in
      step 1 (2 * start c) (2 * (c - 1) + 1) (2 * c) (omega arith) (omega arith) (one_far cs (c - 1) ∙ ap (λ (y : ℕ). 2 * y) x)
      (step 0 (2 * start c) (2 * (c - 1)) (2 * (c - 1) + 1) (omega arith) (omega arith) (zero_own cs (c - 1)) r)

  -- to each dart of the face
  to_dart : (d : ℕ) → d < n → Reached Y (all_but 2) 2 n u (2 * start (d / 2)) d
  unfolding darts_of
  to_dart = by_ends (λ d. Reached Y (all_but 2) 2 n u (2 * start (d / 2)) d) (length cs) own far
    where
      own : (c : ℕ) → c < length cs → Reached Y (all_but 2) 2 n u (2 * start (2 * c / 2)) (2 * c)
      own c h =
          let b : 2 * c / 2 ≡ c = omega arith in
          rw b (along (c - start c) c h (omega (arith, (framed fs c h).first_le)))

      far : (c : ℕ) → c < length cs → Reached Y (all_but 2) 2 n u (2 * start ((2 * c + 1) / 2)) (2 * c + 1)
      far c h =
          let b : (2 * c + 1) / 2 ≡ 2 * c / 2 = omega arith in
          rw b (step 0 (2 * start (2 * c / 2)) (2 * c) (2 * c + 1) (omega arith) (omega arith) (zero_own cs c) (own c h))

  -- darts of corners of one face are of one 2-cell
  pub face_cell : (d e : ℕ) → d < n → e < n → (corner_at cs (d / 2)).first ≡ (corner_at cs (e / 2)).first → Reached Y (all_but 2) 2 n u d e
  unfolding darts_of
  face_cell d e hd he q =
      let h : 2 * start (d / 2) < n = omega (arith, (framed fs (d / 2) (omega arith)).first_le) in
      reached_trans (reached_sym closed h (to_dart d hd)) (rw q (to_dart e he))

  -- so the 2-cells are the faces: the darts of one 2-cell are those of one face's corners
  pub cell_of : (d e k k' : ℕ) → d < n → Of fs k (d / 2) → Of fs k' (e / 2) → Reached Y (all_but 2) 2 n u d e → k ≡ k'
  cell_of d e k k' h o o' r = first_of fs k (d / 2) k' (e / 2) o o' (cell_face d e h r)

  pub of_cell : (d e k : ℕ) → d < n → e < n → Of fs k (d / 2) → Of fs k (e / 2) → Reached Y (all_but 2) 2 n u d e
  of_cell d e k hd he o o' = face_cell d e hd he (of_first fs k (d / 2) o ∙ sym (of_first fs k (e / 2) o'))

  -- and the report counts as many as there are faces: the own dart of each face's first corner is one of each 2-cell
  first_corner : (k : ℕ) → k < length fs → Of fs k (2 * start_of fs k / 2)
  first_corner k h =
      let l = face_three (get_or fs k []) (some_none poor fs rich k [] h) in
      record { from = omega arith; up_to = omega (arith, start_next fs k h) }

  first_below : (k : ℕ) → k < length fs → 2 * start_of fs k < n
  unfolding darts_of
  first_below k h = omega (arith, (first_corner k h).up_to, start_within fs (suc k))

  abbrev pub first_darts : List ℕ
  first_darts = list_of (length fs) (λ k. 2 * start_of fs k)

  pub faces_picked : Representatives Y 2 n u 2 first_darts
  unfolding darts_of
  faces_picked = record {
    member = λ k h. rw (is k (long h)) (first_below k (long h));
    all = λ d h. let (k, o) = of_some fs (d / 2) (corner d h) in let l = of_known fs k (d / 2) o in
        (k, rw (length_list_of (length fs) (λ k. 2 * start_of fs k)) l, rw (is k l) (of_cell (2 * start_of fs k) d k (first_below k l) h (first_corner k l) o));
    once = λ j k h l r.
        let x = long h in
        let y = long l in
        cell_of (2 * start_of fs j) (2 * start_of fs k) j k (first_below j x) (first_corner j x) (first_corner k y) (rw (is j x, is k y) at r);
  }
    where
      long : {k : ℕ} → k < length first_darts → k < length fs
      long h = omega (arith, length_list_of (length fs) (λ k. 2 * start_of fs k))

      is : (k : ℕ) → k < length fs → get_or first_darts k 0 ≡ 2 * start_of fs k
      is k h = get_d_list_of (length fs) (λ k. 2 * start_of fs k) k 0 h

      corner : (d : ℕ) → d < n → d / 2 < length cs
      corner d h = omega arith

  pub faces_counted : cells Y 2 n u 2 ≡ length fs
  faces_counted = sym (cells_unique closed 2 first_darts faces_picked) ∙ length_list_of (length fs) (λ k. 2 * start_of fs k)

  -- a2 of a corner's darts: without a twin, and with one
  two_free : (c : ℕ) → length cs ≤ twin cs c → (d : ℕ) → d < 2 * length cs → d / 2 ≡ c → link_from cs 2 d ≡ d
  two_free c w =
      by_ends (λ d. d / 2 ≡ c → link_from cs 2 d ≡ d) (length cs) (λ x h q. let z : x ≡ c = omega arith in rw z (free_own cs c w))
      (λ x h q. let z : x ≡ c = omega arith in rw z (free_far cs c w))

  two_twin : (c e : ℕ) → Joined cs c e → (d : ℕ) → d < 2 * length cs → d / 2 ≡ c → link_from cs 2 d / 2 ≡ e
  two_twin c e (Joined.straight p q own far own' far') =
      by_ends (λ d. d / 2 ≡ c → link_from cs 2 d / 2 ≡ e) (length cs) (λ x h q. let z : x ≡ c = omega arith in rw z (omega arith))
      (λ x h q. let z : x ≡ c = omega arith in rw z (omega arith))
  two_twin c e (Joined.crossed p q own far own' far') =
      by_ends (λ d. d / 2 ≡ c → link_from cs 2 d / 2 ≡ e) (length cs) (λ x h q. let z : x ≡ c = omega arith in rw z (omega arith))
      (λ x h q. let z : x ≡ c = omega arith in rw z (omega arith))

  pub links_are : (c : ℕ) → c < length cs → LinksAre Y cs u c
  unfolding darts_of
  links_are c h = record {
    zero_near = is 0 (2 * c) (omega arith) (omega arith) ∙ zero_own cs c;
    zero_back = is 0 (2 * c + 1) (omega arith) (omega arith) ∙ zero_far cs c;
    two_ends = λ q. own_far fs rich c h (sym (vertex_own cs c) ∙ (q ∙ vertex_far cs c));
    one_on = is 1 (2 * c + 1) (omega arith) (omega arith) ∙ one_far cs c;
    one_back = is 1 (2 * x) (omega arith) (omega (arith, after_below cs (framed fs) c h))
        ∙ (one_own cs x ∙ ap (λ (y : ℕ). 2 * y + 1) (before_after cs (framed fs) c h));
    one_vertex = vertex_own cs x ∙ (sym (far_next fs c h) ∙ sym (vertex_far cs c));
    free = λ none d q. is 2 d (omega arith) (omega arith) ∙ two_free c (single none (dec_lt (twin cs c) (length cs))) d (omega arith) q;
    matched = λ e l o s d q.
        let z = is 2 d (omega arith) (omega arith) in
        let w : twin cs c ≡ e = twin_only cs twice c e h l o (same_alike (corner_at cs c) (corner_at cs e) s) in
        let J : Joined cs c e = rw w at (joined cs (own_far fs rich) twice c h (omega arith)) in
        rw z (two_twin c e J d (omega arith) q, two_vertex cs (own_far fs rich) twice d (omega arith));
  }
    where
      x : ℕ
      x = corner_after cs c

      is : (i d : ℕ) → i ≤ 2 → d < 2 * length cs → link Y 2 n u i d ≡ link_from cs i d
      is i d hi hd = built_link Y cs t room i d hi hd

      single : ((e : ℕ) → e < length cs → e ≢ c → SameTwo (corner_at cs c) (corner_at cs e) → ⊥) → Dec (twin cs c < length cs) → length cs ≤ twin cs c
      single none (yes l) = absurd (none (twin cs c) l (twin_other cs c l) (alike_same (corner_at cs c) (corner_at cs (twin cs c)) (twin_alike cs c l)))
      single none (no l) = omega arith
