-- Document 02, E5, "Post from indexed face files", its map: the corners of the faces; 27, 28 and 29 face by face; the links of the darts; the answer, and the
-- rooms after it.
use Rattle.std.specs.Prelude.{ℕ, zero, suc, ◌+◌, ◌*◌, ◌-◌, ◌/◌, ◌%◌, List, [], ◌∷◌, ◌++◌, Bool}
use Rattle.std.specs.Prelude.{false, not, ◌&&◌, ◌||◌, cond, length, get_or, drop, eqb, ltb, leb}
use Rattle.shapes.specs.declared.FacesAnswer.{FacesAnswer}
use Rattle.rules.specs.declared.Form.TheVariants.{One}
use Rattle.rules.specs.Lists.{some_below, count_below, list_of, first}
use Rattle.rules.specs.Map.{Layout, size}
use Rattle.rules.specs.Exchange.{rank_at, dart_at}
use Rattle.rules.specs.Check.{Verdict, refuse_if, verdict, work_after}
use Rattle.shapes.specs.Text.{Read, bad, good, File, file}

-- a corner: its own vertex, the far one of its side, the number of its face's first corner, and how many corners of the face there are from it on
pub record Corner : Type 0 where
  pub own : ℕ
  pub far : ℕ
  pub first : ℕ
  pub left : ℕ

-- the last corners of a face that begins with vertex v at corner c: each side leads to the next corner, the last one's to the first
unfoldable pub corners_to : ℕ → ℕ → List ℕ → List Corner
corners_to v c [] = []
corners_to v c (a ∷ []) = record { own = a; far = v; first = c; left = 1 } ∷ []
corners_to v c (a ∷ b ∷ vs) = record { own = a; far = b; first = c; left = 2 + length vs } ∷ corners_to v c (b ∷ vs)

-- the corners of a face, c the first one's number
unfoldable pub corners : ℕ → List ℕ → List Corner
corners c [] = []
corners c (v ∷ vs) = corners_to v c (v ∷ vs)

-- those of all faces, in file order
unfoldable pub all_corners : ℕ → List (List ℕ) → List Corner
all_corners c [] = []
all_corners c (f ∷ fs) = corners c f ++ all_corners (c + length f) fs

-- the corner of this number
unfoldable pub corner_at : List Corner → ℕ → Corner
corner_at cs c = get_or cs c (record { own = 0; far = 0; first = 0; left = 0 })

-- two sides have the same two vertices
unfoldable pub alike : Corner → Corner → Bool
alike a b = (eqb a.own b.own && eqb a.far b.far) || (eqb a.own b.far && eqb a.far b.own)

-- the test passes for some of a list
unfoldable pub some : {A : Type 0} → (A → Bool) → List A → Bool
some f [] = false
some f (x ∷ xs) = f x || some f xs

-- 27: a vertex number too large
unfoldable pub large : ℕ → List ℕ → Bool
large vertices f = some (λ v. leb vertices v) f

-- 28: fewer than three corners, or two equal neighbours, last and first included
unfoldable pub poor : List ℕ → Bool
poor f = ltb (length f) 3 || some (λ (k : Corner). eqb k.own k.far) (corners 0 f)

-- 29: the side of corner c is used a third time, or more: two corners before have it
unfoldable pub third : List Corner → ℕ → Bool
third cs c = leb 2 (count_below c (λ e. alike (corner_at cs c) (corner_at cs e)))

-- 27, 28, 29 face by face: k is the number of the first of these faces and c that of its first corner, cs are the corners of all
unfoldable pub faces_verdict : ℕ → List Corner → ℕ → ℕ → List (List ℕ) → Verdict → Verdict
faces_verdict vertices cs k c [] later = later
faces_verdict vertices cs k c (f ∷ fs) later =
    refuse_if (large vertices f) 27 k (
    refuse_if (poor f) 28 k (
    refuse_if (some_below (length f) (λ j. third cs (c + j))) 29 k (
    faces_verdict vertices cs (suc k) (c + length f) fs later)))

-- Corner c gives the darts 2c, at its own vertex, and 2c + 1, at the far one.

-- how many darts
unfoldable pub darts_of : List Corner → ℕ
darts_of cs = 2 * length cs

-- the vertex that a dart is at
unfoldable pub vertex_of : List Corner → ℕ → ℕ
vertex_of cs d = let k = corner_at cs (d / 2) in cond (eqb (d % 2) 0) k.own k.far

-- the corner before a corner of its face, and the one after it
unfoldable pub corner_before : List Corner → ℕ → ℕ
corner_before cs c = let k = corner_at cs c in cond (eqb c k.first) (c + k.left - 1) (c - 1)

unfoldable pub corner_after : List Corner → ℕ → ℕ
corner_after cs c = let k = corner_at cs c in cond (eqb k.left 1) k.first (c + 1)

-- the other corner whose side has the same two vertices, or the count of corners
unfoldable pub twin : List Corner → ℕ → ℕ
twin cs c = first (λ e. not (eqb e c) && alike (corner_at cs c) (corner_at cs e)) (length cs)

-- a0 joins a corner's two darts, a1 sides within a face, a2 two sides with the same two vertices, ends matched by vertex; an unmatched side is free
unfoldable pub link_from : List Corner → ℕ → ℕ → ℕ
link_from cs zero d = cond (eqb (d % 2) 0) (d + 1) (d - 1)
link_from cs (suc zero) d = cond (eqb (d % 2) 0) (2 * corner_before cs (d / 2) + 1) (2 * corner_after cs (d / 2))
link_from cs (suc (suc i)) d =
    let e = twin cs (d / 2) in
    cond (ltb e (length cs)) (cond (eqb (vertex_of cs (2 * e)) (vertex_of cs d)) (2 * e) (2 * e + 1)) d

-- the tables with the map in front, where they hold it
unfoldable pub map_on : Layout → List Corner → List ℕ → List ℕ
map_on Y cs t =
    let n = darts_of cs in
    cond (leb (size 2 n) (length t)) (list_of (size 2 n) (λ p. link_from cs (rank_at Y 2 n p) (dart_at Y 2 n p)) ++ drop (size 2 n) t) t

-- the corners of a file's faces, none where it is malformed
unfoldable pub corners_of : Read File → List Corner
corners_of (bad w) = []
corners_of (good m p) = all_corners 0 m.faces

-- 26, then 27 to 29, then the check of the map from root 0
unfoldable pub read_verdict : Layout → Read File → List ℕ → ℕ → Verdict
read_verdict Y (bad w) t room = Verdict.refused 26 w
read_verdict Y (good m p) t room =
    let cs = all_corners 0 m.faces in
    faces_verdict m.vertices cs 0 0 m.faces (verdict One Y 2 (darts_of cs) 0 (map_on Y cs t) room)

-- a refusal's answer
unfoldable pub refusal : ℕ → ℕ → FacesAnswer
refusal nr p = record { number = nr; place = p; darts = 0 }

-- number 0, place 0 and n, or the refusal's number and place
unfoldable pub faces_answer_of : ℕ → Verdict → FacesAnswer
faces_answer_of n Verdict.fine = record { number = 0; place = 0; darts = n }
faces_answer_of n (Verdict.refused nr p) = refusal nr p

-- the tables after a verdict: the map stays after success and after 9, the other refusals change nothing
unfoldable pub tables_after : Layout → List Corner → List ℕ → Verdict → List ℕ
tables_after Y cs t Verdict.fine = map_on Y cs t
tables_after Y cs t (Verdict.refused nr p) = cond (eqb nr 9) (map_on Y cs t) t

-- the answer of a face file
unfoldable pub faces_answer : Layout → List ℕ → List ℕ → List ℕ → FacesAnswer
faces_answer Y text t work = let r = file text in faces_answer_of (darts_of (corners_of r)) (read_verdict Y r t (length work))

-- the tables after it
unfoldable pub faces_tables : Layout → List ℕ → List ℕ → List ℕ → List ℕ
faces_tables Y text t work = let r = file text in tables_after Y (corners_of r) t (read_verdict Y r t (length work))

-- the work room after it
unfoldable pub faces_work : Layout → List ℕ → List ℕ → List ℕ → List ℕ
faces_work Y text t work =
    let r = file text in
    work_after One Y 2 (darts_of (corners_of r)) 0 (map_on Y (corners_of r) t) work (read_verdict Y r t (length work))
