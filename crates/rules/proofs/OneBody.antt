-- Document 02, E6: the one-body form is document 01 unchanged. What each call answered before the request stands here once more, bare of forms and bodies, and
-- each call of the one-body form is that, by equation. Of a reading this is said for first four bits below 8; with others it was refused by 1.
-- Rests on Moves, Names, Check and Fitness.
use Prim.Native.Nat.{ℕ, zero, suc, ◌*◌, ◌/◌, ◌%◌, ◌-◌, ◌≤◌, ◌<◌}
use mathlib.Core.Path.{◌≡◌, refl, ap, sym, ◌∙◌}
use mathlib.Core.Bool.{Bool, true, false, not, ◌&&◌, ◌||◌, cond}
use mathlib.Core.List.{List, [], ◌∷◌, ◌++◌}
use native.Mathlib.Omega.{arith}
use lib.ListN.{length, get_or, take, drop}
use lib.Dec.{eqb, ltb, leb}
use borrow.Author.Tests.{lt-ltb, le-leb, lt-leb, ne_eqb}
use Rattle.rules.specs.declared.Form.{Form}
use Rattle.rules.specs.declared.Form.TheVariants.{One}
use Rattle.rules.specs.declared.Session.{Session}
use Rattle.rules.specs.declared.State.{State}
use Rattle.rules.specs.declared.State.TheVariants.{Header, Running, Complete, Closed, Refused}
use Rattle.rules.specs.Lists.{first, list_of, number, all_below}
use Rattle.rules.specs.Bodies.{several, first_bits, form_of, dim_of, end_number, bodies_fit, no_bodies}
use Rattle.rules.specs.Map.{Layout, dim_fits, darts_fit, size, blank, pairs_of, first_broken}
use Rattle.rules.specs.Refusals.{among, of_bodies, fit_refused}
use Rattle.rules.specs.Walk.{Walk, start, Head, head, Partner, partner, pass, join, tie, Symbol, enough, Written, write_symbol, write_with}
use Rattle.rules.specs.Walk.{Walked, prepend, write_on, write_at, write, walked, names_of, symbols_of}
use Rattle.rules.specs.Stream.{bits_of, value, unpack, codes, header, filled}
use Rattle.rules.specs.Check.{Verdict, refuse_if, spot, outside, twisted, unreached, bodies_verdict, tables_verdict, verdict, numbering, work_after}
use Rattle.rules.specs.Check.{check_answer_of, check_answer, check_work}
use Rattle.rules.specs.Writing.{stream, page_of, start_verdict, write_verdict, page_after, write_answer_of, write_page, write_answer, write_out, write_work}
use Rattle.rules.specs.Reading.{Run, Step, step_at, step, onward, run, run_all, Reading, spoiled, test, bodies_found, manifold, finish, settle, begun}
use Rattle.rules.specs.Reading.{header_form, header_dim, header_darts, read_header, reading_of, closing, tables_of, read_whole}
use Rattle.rules.specs.Session.{store, walk_at, walk_of, waiting_of, value_fits, only_bits, positions_fit}
use Rattle.rules.specs.Session.{entries_fit, walk_fits, asks, begins, all_done, fit_as}
use Rattle.rules.specs.Session.{fit}
use Rattle.rules.specs.Session.{Left, leaves, go_on, after_end, page_as, close_as, if_fit, page, close, record_for, tables_for}
use Rattle.rules.specs.Fetch.{fetch_of, fetching, page_call}
use Rattle.rules.specs.Report.{report_answer_of, report_answer, report_work_after, report_work}
use Rattle.rules.proofs.Check.{refused_case, one_number}
use Rattle.rules.proofs.Moves.{step_move, move_form, apply_form, one_step}
use Rattle.rules.proofs.Runs.{Stopped, stopped}
use Rattle.rules.proofs.Names.{one_writes}

-- The walk over a map, and the stream.

-- at most k steps
unfoldable pub bare_write : ℕ → List ℕ → Walk → List ℕ → Walked
bare_write zero m w names = record { symbols = []; names = names }
bare_write (suc k) m w names = write_on (λ w' names'. bare_write k m w' names') names (write_at m w names (head w))

-- from the root
unfoldable pub bare_walked : Layout → ℕ → ℕ → List ℕ → ℕ → Walked
bare_walked Y N n m root = bare_write (enough N n) m (start One Y N n []) (root ∷ [])

-- 4 bits N, 12 bits n-1, then the symbols
unfoldable pub bare_stream : Layout → ℕ → ℕ → List ℕ → ℕ → List ℕ
bare_stream Y N n m root = filled ((bits_of 4 N ++ bits_of 12 (n - 1)) ++ codes (bare_walked Y N n m root).symbols)

-- a step over a map keeps the form
written_form : (m : List ℕ) (w : Walk) (names : List ℕ) (h : Head) (out : List Symbol) (w' : Walk) (names' : List ℕ)
    → write_at m w names h ≡ Written.wrote out w' names' → w'.form ≡ w.form
written_form m w names Head.none out w' names' e = unfold write_at in let z : ◌≡◌ {A = ℕ} 0 1 = cc in absurd (omega arith)
written_form m w names (Head.at j b) out w' names' e = unfold write_at in go _ _ (partner w j b) e
  where
    walk_of_lem : {o o' : List Symbol} {u u' : Walk} {l l' : List ℕ} → Written.wrote o u l ≡ Written.wrote o' u' l' → u ≡ u'
    walk_of_lem q = cc

    go : (d x : ℕ) (p : Partner) → write_with w names j b d x p ≡ Written.wrote out w' names' → w'.form ≡ w.form
    go d x Partner.known q = unfold write_with in ap (λ (x : Walk). x.form) (sym (walk_of_lem q)) ∙ (unfold pass in refl)
    go d x (Partner.deduced e) q = unfold write_with in ap (λ (y : Walk). y.form) (sym (walk_of_lem q)) ∙ (unfold tie pass join in refl)
    go d x Partner.asked q = unfold write_with write_symbol in ap (λ (y : Walk). y.form) (sym (walk_of_lem q)) ∙ apply_form w j b _

steps_bare : (k : ℕ) (m : List ℕ) (w : Walk) (names : List ℕ) → w.form ≡ One → write k m w names ≡ bare_write k m w names
unfolding write bare_write
steps_bare zero m w names o = refl
steps_bare (suc k) m w names o = rw (one_writes m w names o) (go (λ w' names' o'. steps_bare k m w' names' o') (write_at m w names (head w)) refl)
  where
    go : ((w' : Walk) (names' : List ℕ) → w'.form ≡ One → write k m w' names' ≡ bare_write k m w' names')
        → (s : Written) → write_at m w names (head w) ≡ s
        → write_on (λ w' names'. write k m w' names') names s ≡ write_on (λ w' names'. bare_write k m w' names') names s
    go rec Written.finished e = unfold write_on in refl
    go rec (Written.wrote out w' names') e = unfold write_on in ap (prepend out) (rec w' names' (written_form m w names (head w) out w' names' e ∙ o))

pub walked_bare : (Y : Layout) (N n : ℕ) (m : List ℕ) (root : ℕ) → walked One Y N n m root ≡ bare_walked Y N n m root
unfolding walked bare_walked
walked_bare Y N n m root = steps_bare (enough N n) m (start One Y N n []) (root ∷ []) (unfold start in refl)

pub stream_bare : (Y : Layout) (N n : ℕ) (m : List ℕ) (root : ℕ) → stream One Y N n m root ≡ bare_stream Y N n m root
unfolding stream bare_stream header first_bits symbols_of
stream_bare Y N n m root = ap (λ (r : Walked). filled ((bits_of 4 N ++ bits_of 12 (n - 1)) ++ codes r.symbols)) (walked_bare Y N n m root)

and_true : (b : Bool) → (b && true) ≡ b
and_true true = refl
and_true false = refl

-- The check.

-- 1 to 9 in order
unfoldable pub bare_verdict : Layout → ℕ → ℕ → ℕ → List ℕ → ℕ → Verdict
bare_verdict Y N n root t room =
    let p6 = first (outside Y N n t) (size N n) in
    let p7 = first (twisted Y N n t) (size N n) in
    let p8 = first_broken Y N n t (pairs_of N) in
    let p9 = first (unreached Y N n t root) n in
    refuse_if (not (dim_fits N)) 1 0 (
    refuse_if (not (darts_fit n)) 2 0 (
    refuse_if (ltb (length t) (size N n)) 3 0 (
    refuse_if (ltb room (2 * n)) 4 0 (
    refuse_if (not (ltb root n)) 5 0 (
    refuse_if (ltb p6 (size N n)) 6 (spot Y N n p6) (
    refuse_if (ltb p7 (size N n)) 7 (spot Y N n p7) (
    refuse_if (ltb p8 n) 8 p8 (
    refuse_if (ltb p9 n) 9 p9 Verdict.fine))))))))

-- the work room after it: 1 to 8 change nothing, 9 leaves 65535 in the first 2n, success the numbering
unfoldable pub bare_work_after : Layout → ℕ → ℕ → ℕ → List ℕ → List ℕ → Verdict → List ℕ
bare_work_after Y N n root t work Verdict.fine =
    let names = (bare_walked Y N n t root).names in (list_of n (number names) ++ names) ++ drop (2 * n) work
bare_work_after Y N n root t work (Verdict.refused nr p) = cond (eqb nr 9) (blank (2 * n) work) work

module _ (Y : Layout) (N n root : ℕ) (t : List ℕ) where
  pub verdict_bare : (room : ℕ) → verdict One Y N n root t room ≡ bare_verdict Y N n root t room
  unfolding verdict tables_verdict bodies_verdict bare_verdict
  verdict_bare room = refl

  -- 30 is not given, so of the refusals 9 alone wipes the work room
  nine_alone : (room nr p : ℕ) → verdict One Y N n root t room ≡ Verdict.refused nr p → of_bodies nr ≡ eqb nr 9
  unfolding of_bodies among
  nine_alone room nr p e =
      let l = one_number One Y N n root t room refl (refused_case One Y N n root t room nr p e).0 in
      rw (ne_eqb nr 30 (λ z. omega arith)) (or_none (eqb nr 9))
    where
      or_none : (b : Bool) → (b || (false || false)) ≡ b
      or_none true = refl
      or_none false = refl

  pub check_bare : (work : List ℕ)
      → (check_answer One Y N n root t work ≡ check_answer_of (bare_verdict Y N n root t (length work)))
      × (check_work One Y N n root t work ≡ bare_work_after Y N n root t work (bare_verdict Y N n root t (length work)))
  unfolding check_answer check_work
  check_bare work =
      let e = verdict_bare (length work) in (rw e, go (verdict One Y N n root t (length work)) refl ∙ ap (bare_work_after Y N n root t work) e)
    where
      go : (v : Verdict) → verdict One Y N n root t (length work) ≡ v → work_after One Y N n root t work v ≡ bare_work_after Y N n root t work v
      go Verdict.fine e = unfold work_after bare_work_after numbering names_of in
          ap (λ (r : Walked). (list_of n (number r.names) ++ r.names) ++ drop (2 * n) work) (walked_bare Y N n t root)
      go (Verdict.refused nr p) e = unfold work_after bare_work_after in rw (nine_alone (length work) nr p e)

-- The writer and the report.

-- after the check's refusals, 10
unfoldable pub bare_start : Layout → ℕ → ℕ → ℕ → ℕ → List ℕ → Verdict → Verdict
bare_start Y N n root start t Verdict.fine = let l = length (bare_stream Y N n t root) in refuse_if (ltb l start) 10 l Verdict.fine
bare_start Y N n root start t (Verdict.refused nr p) = Verdict.refused nr p

-- the page that a verdict lets through
unfoldable pub bare_page : Layout → ℕ → ℕ → ℕ → ℕ → List ℕ → ℕ → Verdict → List ℕ
bare_page Y N n root start t room Verdict.fine = page_of (bare_stream Y N n t root) start room
bare_page Y N n root start t room (Verdict.refused nr p) = []

module _ (Y : Layout) (N n root start : ℕ) (t work out : List ℕ) where
  -- what it comes to, and the page
  pub bare_judged : Verdict
  bare_judged = bare_start Y N n root start t (bare_verdict Y N n root t (length work))

  pub bare_bytes : List ℕ
  bare_bytes = bare_page Y N n root start t (length out) bare_judged

  judged_bare : write_verdict One Y N n root start t (length work) ≡ bare_judged
  unfolding write_verdict bare_judged
  judged_bare = go (verdict One Y N n root t (length work)) ∙ ap (bare_start Y N n root start t) (verdict_bare Y N n root t (length work))
    where
      go : (v : Verdict) → start_verdict One Y N n root start t v ≡ bare_start Y N n root start t v
      go Verdict.fine = unfold start_verdict bare_start in rw (stream_bare Y N n t root)
      go (Verdict.refused nr p) = unfold start_verdict bare_start in refl

  bytes_bare : write_page One Y N n root start t work out ≡ bare_bytes
  unfolding write_page bare_bytes
  bytes_bare = ap (page_after One Y N n root start t (length out)) judged_bare ∙ go bare_judged
    where
      go : (v : Verdict) → page_after One Y N n root start t (length out) v ≡ bare_page Y N n root start t (length out) v
      go Verdict.fine = unfold page_after bare_page in rw (stream_bare Y N n t root)
      go (Verdict.refused nr p) = unfold page_after bare_page in refl

  pub write_bare : (write_answer One Y N n root start t work out ≡ write_answer_of (length bare_bytes) (length (bare_stream Y N n t root)) bare_judged)
      × (write_work One Y N n root t work ≡ bare_work_after Y N n root t work (bare_verdict Y N n root t (length work)))
      × (write_out One Y N n root start t work out ≡ bare_bytes ++ drop (length bare_bytes) out)
  unfolding write_answer write_work write_out
  write_bare = (rw (bytes_bare, judged_bare, stream_bare Y N n t root), (check_bare Y N n root t work).1, rw bytes_bare)

-- the work room: 65535 in the first 2n on success and after 9, else unchanged
unfoldable pub bare_report_work : ℕ → List ℕ → Verdict → List ℕ
bare_report_work n work Verdict.fine = blank (2 * n) work
bare_report_work n work (Verdict.refused nr p) = cond (eqb nr 9) (blank (2 * n) work) work

pub report_bare : (Y : Layout) (N n : ℕ) (t work : List ℕ)
    → (report_answer One Y N n t work ≡ report_answer_of Y N n t (bare_verdict Y N n 0 t (length work)))
    × (report_work One Y N n t work ≡ bare_report_work n work (bare_verdict Y N n 0 t (length work)))
unfolding report_answer report_work
report_bare Y N n t work =
    let e = verdict_bare Y N n 0 t (length work) in (rw e, go (verdict One Y N n 0 t (length work)) refl ∙ ap (bare_report_work n work) e)
  where
    go : (v : Verdict) → verdict One Y N n 0 t (length work) ≡ v → report_work_after n work v ≡ bare_report_work n work v
    go Verdict.fine e = unfold report_work_after bare_report_work in refl
    go (Verdict.refused nr p) e = unfold report_work_after bare_report_work in rw (nine_alone Y N n 0 t (length work) nr p e)

-- Reading.

-- at most k steps
unfoldable pub bare_run : ℕ → Walk → List Bool → Run
bare_run zero w bs = Run.waits w bs
bare_run (suc k) w bs = onward (λ w' bs'. bare_run k w' bs') (step_at w bs (head w))

-- the walk's end: 15, 16, 17, 18
unfoldable pub bare_finish : Walk → List Bool → Reading
bare_finish w rest =
    test (eqb w.count w.darts) 15 w (
    test (manifold w) 16 w (
    test (eqb (value (take (length rest % 8) rest)) 0) 17 w (
    test (eqb (length rest / 8) 0) 18 w (
    Reading.complete w))))

-- where a run leaves the reading
unfoldable pub bare_settle : Run → Reading
bare_settle (Run.ended w rest) = bare_finish w rest
bare_settle (Run.waits w rest) = Reading.running w rest
bare_settle (Run.refused nr w) = spoiled nr w

-- the walk on some bits
unfoldable pub bare_on : Walk → List Bool → Reading
bare_on w bits = bare_settle (bare_run (enough w.dim w.darts) w bits)

-- after a header: 1 and 3 come first
unfoldable pub bare_begun : Layout → Bool → Bool → ℕ → ℕ → List Bool → List ℕ → Reading
bare_begun Y false room N n bits t = Reading.refused 1 0 t
bare_begun Y true false N n bits t = Reading.refused 3 0 t
bare_begun Y true true N n bits t = bare_on (start One Y N n t) bits

-- N is what the first four bits write
unfoldable pub bare_header : Layout → Bool → List Bool → List ℕ → Reading
bare_header Y false bits t = Reading.header bits
bare_header Y true bits t =
    let N = value (take 4 bits) in
    let n = header_darts bits in
    bare_begun Y (dim_fits N) (leb (size N n) (length t)) N n (drop 16 bits) t

-- what the bits so far come to
unfoldable pub bare_reading : Layout → List Bool → List ℕ → Reading
bare_reading Y bits t = bare_header Y (leb 16 (length bits)) bits t

finish_bare : (w : Walk) (rest : List Bool) → w.form ≡ One → finish w rest ≡ bare_finish w rest
unfolding finish bare_finish bodies_found several end_number
finish_bare w rest o = rw o

run_bare : (k : ℕ) (w : Walk) (bs : List Bool) → w.form ≡ One → settle (run k w bs) ≡ bare_settle (bare_run k w bs)
unfolding run bare_run
run_bare zero w bs o = unfold settle bare_settle in refl
run_bare (suc k) w bs o =
    go (λ w' bs' o'. run_bare k w' bs' o') (step w bs) refl ∙ ap (λ (s : Step). bare_settle (onward (λ w' bs'. bare_run k w' bs') s)) (one_step w bs o)
  where
    ends : (r : Run) → Stopped w bs r → settle r ≡ bare_settle r
    ends _ (Stopped.ended h) = unfold settle bare_settle in finish_bare w bs o
    ends _ Stopped.waits = unfold settle bare_settle in refl
    ends _ (Stopped.refused nr i) = unfold settle bare_settle in refl

    go : ((w' : Walk) (bs' : List Bool) → w'.form ≡ One → settle (run k w' bs') ≡ bare_settle (bare_run k w' bs'))
        → (s : Step) → step w bs ≡ s → settle (onward (λ w' bs'. run k w' bs') s) ≡ bare_settle (onward (λ w' bs'. bare_run k w' bs') s)
    go rec (Step.goes w' bs') e = unfold onward in let m = step_move w bs w' bs' e in rec w' bs' (move_form w w' m.out m.move ∙ o)
    go rec (Step.stops r) e = unfold onward in ends r (stopped w bs r e)

-- the walk on some bits
pub on_bare : (w : Walk) (bits : List Bool) → w.form ≡ One → settle (run_all w bits) ≡ bare_on w bits
unfolding run_all bare_on
on_bare w bits o = run_bare (enough w.dim w.darts) w bits o

-- what the bits so far come to, where the first four write a number below 8
pub reading_bare : (Y : Layout) (bits : List Bool) (t : List ℕ) → value (take 4 bits) < 8 → reading_of Y bits t ≡ bare_reading Y bits t
unfolding reading_of bare_reading
reading_bare Y bits t h = go (leb 16 (length bits))
  where
    body : (a b : Bool) (N n : ℕ) (bs : List Bool) → begun One Y a b N n bs t ≡ bare_begun Y a b N n bs t
    body false b N n bs = unfold begun bare_begun in refl
    body true false N n bs = unfold begun bare_begun in refl
    body true true N n bs = unfold begun bare_begun in on_bare (start One Y N n t) bs (unfold start in refl)

    go : (b : Bool) → read_header Y b bits t ≡ bare_header Y b bits t
    go false = unfold read_header bare_header in refl
    go true = unfold read_header bare_header header_form header_dim form_of dim_of in
        let e : value (take 4 bits) % 8 ≡ value (take 4 bits) = omega arith in
        rw (lt-ltb (value (take 4 bits)) 8 h, e) (body _ _ _ _ _)

-- and others were refused by 1
pub other_bits_bare : (Y : Layout) (bits : List Bool) (t : List ℕ) → 16 ≤ length bits → 8 ≤ value (take 4 bits) → bare_reading Y bits t ≡ Reading.refused 1 0 t
unfolding bare_reading bare_header dim_fits
other_bits_bare Y bits t l h =
    rw (le-leb 16 (length bits) l, le-leb 1 (value (take 4 bits)) (omega arith), lt-leb (value (take 4 bits)) 6 (omega arith)) (unfold bare_begun in refl)

-- a whole read
pub read_bare : (Y : Layout) (bytes t : List ℕ) → value (take 4 (unpack bytes)) < 8 → read_whole Y bytes t ≡ closing (bare_reading Y (unpack bytes) t) t
unfolding read_whole
read_bare Y bytes t h = ap (λ (r : Reading). closing r t) (reading_bare Y (unpack bytes) t h)

-- A session of the one-body form.

-- its form is one-body, and one body is begun while a walk runs or is complete, else none
unfoldable pub bodies_as : State → ℕ
bodies_as Header = 0
bodies_as Running = 1
bodies_as Complete = 1
bodies_as Closed = 0
bodies_as (Refused nr p) = 0

pub record OneBody (s : Session) : Type 0 where
  pub form : s.form ≡ One
  pub bodies : s.bodies ≡ bodies_as s.state

-- what running and complete share
unfoldable pub bare_walk_fits : Layout → Session → List ℕ → Bool
bare_walk_fits Y s t =
    dim_fits s.dim && darts_fit s.darts && leb (size s.dim s.darts) (length t) &&
    leb 1 s.count && leb s.count s.darts && positions_fit s && entries_fit Y s t

-- fit, by the state
unfoldable pub bare_fit_as : Layout → State → Session → List ℕ → Bool
bare_fit_as Y Header s t =
    (eqb s.waiting 0 || eqb s.waiting 8) && value_fits s &&
    (eqb s.dim 0 && eqb s.darts 0 && eqb s.count 0 && all_below 7 (λ i. eqb (get_or s.positions i 0) 0))
bare_fit_as Y Running s t =
    let w = walk_of Y s t in
    bare_walk_fits Y s t && asks w (head w) && leb s.waiting 13 && value_fits s && begins (waiting_of s)
bare_fit_as Y Complete s t = bare_walk_fits Y s t && all_done s
bare_fit_as Y Closed s t = true
bare_fit_as Y (Refused nr p) s t = fit_refused nr p

-- a page, by the state
unfoldable pub bare_page_as : Layout → State → Session → List Bool → List ℕ → Left
bare_page_as Y Header s ys t = leaves (bare_reading Y (waiting_of s ++ ys) t) t
bare_page_as Y Running s ys t = leaves (bare_on (walk_of Y s t) (waiting_of s ++ ys)) t
bare_page_as Y Complete s ys t = leaves (after_end (walk_of Y s t) ys) t
bare_page_as Y Closed s ys t = page_as Y Closed s ys t
bare_page_as Y (Refused nr p) s ys t = page_as Y (Refused nr p) s ys t

-- the first four bits of a header, where a page may bring them, write a number below 8
unfoldable pub BareBits : State → Session → List Bool → Type 0
BareBits Header s ys = value (take 4 (waiting_of s ++ ys)) < 8
BareBits Running s ys = Unit
BareBits Complete s ys = Unit
BareBits Closed s ys = Unit
BareBits (Refused nr p) s ys = Unit

-- the tests of form and bodies
bodies_bare : (F : Form) (bodies count : ℕ) → F ≡ One → bodies ≡ 1 → bodies_fit F bodies count ≡ leb 1 count
unfolding bodies_fit several
bodies_bare F bodies count o b = rw (o, b) (and_true (leb 1 count))

none_bare : (F : Form) (bodies : ℕ) → F ≡ One → bodies ≡ 0 → no_bodies F bodies ≡ true
unfolding no_bodies several
none_bare F bodies o b = rw (o, b)

module _ (Y : Layout) (s : Session) (t : List ℕ) (o : s.form ≡ One) where
  -- with one body begun the test of bodies passes where count is at least 1
  walk_fits_bare : s.bodies ≡ 1 → walk_fits Y s t ≡ bare_walk_fits Y s t
  unfolding walk_fits bare_walk_fits
  walk_fits_bare b = rw (bodies_bare s.form s.bodies s.count o b)
      (go (dim_fits s.dim && darts_fit s.darts && leb (size s.dim s.darts) (length t)) (leb 1 s.count) (leb s.count s.darts)
      (positions_fit s) (entries_fit Y s t))
    where
      go : (x c d e f : Bool) → (x && c && d && c && e && f) ≡ (x && c && d && e && f)
      go true true true e f = refl
      go true true false e f = refl
      go true false d e f = refl
      go false c d e f = refl

  fit_bare : (st : State) → s.bodies ≡ bodies_as st → fit_as Y st s t ≡ bare_fit_as Y st s t
  unfolding fit_as bare_fit_as bodies_as
  fit_bare Header b = unfold only_bits in rw (none_bare s.form s.bodies o b, and_true)
  fit_bare Running b = rw (walk_fits_bare b)
  fit_bare Complete b = rw (walk_fits_bare b)
  fit_bare Closed b = refl
  fit_bare (Refused nr p) b = rw (none_bare s.form s.bodies o b) (and_true (fit_refused nr p))

  page_as_bare : (st : State) (ys : List Bool) → BareBits st s ys → page_as Y st s ys t ≡ bare_page_as Y st s ys t
  unfolding page_as bare_page_as BareBits go_on
  page_as_bare Header ys h = ap (λ (r : Reading). leaves r t) (reading_bare Y (waiting_of s ++ ys) t h)
  page_as_bare Running ys h = ap (λ (r : Reading). leaves r t) (on_bare (walk_of Y s t) (waiting_of s ++ ys) (unfold walk_at in o))
  page_as_bare Complete ys h = refl
  page_as_bare Closed ys h = refl
  page_as_bare (Refused nr p) ys h = refl

-- its page and its closing: the record, the answer and the tables are those of document 01
module _ (Y : Layout) (s : Session) (t : List ℕ) (O : OneBody s) where
  pub page_bare : (bytes : List ℕ) → BareBits s.state s (unpack bytes)
      → page Y s bytes t ≡ if_fit (bare_fit_as Y s.state s t) s t (bare_page_as Y s.state s (unpack bytes) t)
  unfolding page fit
  page_bare bytes h = rw (fit_bare Y s t O.form s.state O.bodies, page_as_bare Y s t O.form s.state (unpack bytes) h)

  pub close_bare : close Y s t ≡ if_fit (bare_fit_as Y s.state s t) s t (close_as Y s.state s t)
  unfolding close fit
  close_bare = rw (fit_bare Y s t O.form s.state O.bodies)

  -- with the bytes to fetch
  pub call_bare : (bytes : List ℕ) → BareBits s.state s (unpack bytes)
      → let b = bare_fit_as Y s.state s t in
      let l = if_fit b s t (bare_page_as Y s.state s (unpack bytes) t) in
      page_call Y s bytes t ≡ fetching l (cond b (fetch_of l.session) 0)
  unfolding page_call fit
  call_bare bytes h = rw (page_bare bytes h, fit_bare Y s t O.form s.state O.bodies)

-- after any pages from open the record and the tables are those of the bare reading
pub record_bare : (Y : Layout) (bytes t : List ℕ) → value (take 4 (unpack bytes)) < 8
    → (record_for Y bytes t ≡ store (bare_reading Y (unpack bytes) t)) × (tables_for Y bytes t ≡ tables_of (bare_reading Y (unpack bytes) t) t)
unfolding record_for tables_for
record_bare Y bytes t h =
    let e = reading_bare Y (unpack bytes) t h in (ap store e, ap (λ (r : Reading). tables_of r t) e)
