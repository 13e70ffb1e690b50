-- The session's calls, one way through the code at a time: the header's bytes, a fit running session may go on, a complete one takes no byte. Rests on the
-- rules' Fitness and Sessions, and on runs.
use Prim.Native.Nat.{ℕ, ◌+◌, ◌*◌, ◌-◌, ◌/◌, ◌%◌, ◌≤◌, ◌<◌, ◌^◌}
use mathlib.Core.Path.{◌≡◌, refl, ap, sym, ◌∙◌}
use mathlib.Core.Logic.{◌≢◌, ◌⊎◌, inl, inr}
use mathlib.Core.Bool.{Bool, true, false}
use mathlib.Core.List.{List, [], ◌∷◌, ◌++◌, append_assoc, append-nil}
use native.Mathlib.Omega.{arith}
use native.Mathlib.Nat.{mul-le-mul}
use lib.ListN.{length, get_or, replicate, take, drop, length-append, length-drop, take-append-drop}
use lib.Seq.{take_at, drop_at, take-append-le, drop-append-le}
use lib.Dec.{leb}
use borrow.Author.Tests.{le-leb, lt-leb}
use Rattle.rules.specs.declared.Session.{Session}
use Rattle.rules.specs.declared.ReadAnswer.{ReadAnswer}
use Rattle.rules.specs.declared.PageAnswer.{PageAnswer}
use Rattle.rules.specs.declared.State.{State}
use Rattle.symbols.specs.declared.Cursor.{Cursor}
use Rattle.rules.specs.declared.Stand.{Stand}
use Rattle.records.specs.declared.Answered.{Answered}
use Rattle.rules.specs.declared.State.TheVariants.{Header, Running, Complete, Closed, Refused}
use Rattle.rules.specs.declared.Form.{Form}
use Rattle.rules.specs.Bodies.{form_of, dim_of}
use Rattle.rules.specs.Map.{by_dart, dim_fits, size, blank, Limits}
use Rattle.rules.specs.Walk.{Walk, start, steps}
use Rattle.rules.specs.Stream.{bits_of, value, unpack}
use Rattle.rules.specs.Reading.{run_all, Reading, spoiled, settle, begun, header_form, header_dim, header_darts, read_header, reading_of, closing, good_answer}
use Rattle.rules.specs.Reading.{plain_answer}
use Rattle.rules.specs.Reading.{answer_of, tables_of, read_answer, read_tables}
use Rattle.rules.specs.Session.{idle, held, store, opened, walk_at, stand_of, walk_of, waiting_of, fit, Left, unchanged, leaves, go_on, after_end, page_as}
use Rattle.rules.specs.Session.{close_as, if_fit, page, close, record_for, tables_for}
use Rattle.rules.specs.Fetch.{whole_bytes, fetch_as, fetch_of, fetching, page_call}
use Rattle.rules.specs.Inner.{Shape}
use Rattle.rules.proofs.Codes.{value_append, length_bits, value_lt, value_bits}
use Rattle.rules.proofs.Readings.{begins_13, asks_rests, fits_dim}
use Rattle.rules.proofs.Fitness.{walk_held, waiting_held, Fits, FitSession, fit_session, fit_shape}
use Rattle.rules.proofs.Sessions.{record_fit, close_reads}
use Rattle.rules.proofs.Fetch.{fetch_none, wants}
use Rattle.symbols.specs.Cursors.{at_hand, CursorFits}
use Rattle.steps.specs.Steps.{stand_in}
use Rattle.steps.proofs.Steps.{walk_start}
use Rattle.runs.specs.Turns.{Ready}
use Rattle.runs.proofs.Turns.{ready_start}
use Rattle.records.specs.Lefts.{left_by, idle_by, held_by, good_by}
use Rattle.records.specs.Fetches.{read_by, fetched_by, Fetches}
use Rattle.records.proofs.Lefts.{complete_left, settle_same}
use Rattle.records.proofs.Fetches.{left_wants}
use Rattle.reader.specs.Calls.{headed, cursor_of}

-- a header's two bytes: 4 bits N, 12 bits n-1
module _ (x y : ℕ) (hx : x < 256) (hy : y < 256) (rest : List Bool) where
  abbrev bits : List Bool
  bits = bits_of 8 x ++ (bits_of 8 y ++ rest)

  high : List Bool
  high = take 4 (bits_of 8 x)

  low : List Bool
  low = drop 4 (bits_of 8 x)

  low_length : length low ≡ 4
  unfolding low
  low_length = simp length-drop (omega (arith, length_bits 8 x))

  halves : value high * 16 + value low ≡ x
  unfolding high low
  halves =
      let e : value (take 4 (bits_of 8 x) ++ drop 4 (bits_of 8 x))
      ≡ value (take 4 (bits_of 8 x)) * 2 ^ length (drop 4 (bits_of 8 x)) + value (drop 4 (bits_of 8 x)) =
      value_append (take 4 (bits_of 8 x)) (drop 4 (bits_of 8 x)) in
      sym (rw (low_length, take-append-drop, value_bits 8 x hx) at e)

  low_small : value low < 16
  low_small = rw low_length at (value_lt low)

  first_is : value (take 4 bits) ≡ x / 16
  first_is =
      let e : take 4 (bits_of 8 x ++ (bits_of 8 y ++ rest)) ≡ high =
      unfold high in take-append-le 4 (bits_of 8 x) (bits_of 8 y ++ rest) (omega (arith, length_bits 8 x)) in
      rw e (omega (arith, halves, low_small))

  form_is : header_form bits ≡ form_of (x / 16)
  unfolding header_form
  form_is = ap form_of first_is

  dim_is : header_dim bits ≡ dim_of (x / 16)
  unfolding header_dim
  dim_is = ap dim_of first_is

  darts_are : header_darts bits ≡ x % 16 * 256 + y + 1
  unfolding header_darts
  darts_are =
      let e : drop 4 (bits_of 8 x ++ (bits_of 8 y ++ rest)) ≡ low ++ (bits_of 8 y ++ rest) =
      unfold low in drop-append-le 4 (bits_of 8 x) (bits_of 8 y ++ rest) (omega (arith, length_bits 8 x)) in
      let l : length (low ++ bits_of 8 y) ≡ 12 = simp length-append (omega (arith, low_length, length_bits 8 y)) in
      let f : take 12 (low ++ (bits_of 8 y ++ rest)) ≡ low ++ bits_of 8 y =
      rw (← append_assoc low (bits_of 8 y) rest) (take_at (low ++ bits_of 8 y) rest 12 l) in
      let v : value (low ++ bits_of 8 y) ≡ value low * 256 + y = rw (length_bits 8 y, value_bits 8 y hy) at (value_append low (bits_of 8 y)) in
      rw (e, f, v) (omega (arith, halves, low_small))

  rest_is : drop 16 bits ≡ rest
  rest_is =
      let l : length (bits_of 8 x ++ bits_of 8 y) ≡ 16 = simp length-append (omega (arith, length_bits 8 x, length_bits 8 y)) in
      rw (← append_assoc (bits_of 8 x) (bits_of 8 y) rest) (drop_at (bits_of 8 x ++ bits_of 8 y) rest 16 l)

  -- reading from two whole bytes on
  pub reading_begun : (t : List ℕ)
      → reading_of by_dart bits t ≡ headed x y rest t
  unfolding reading_of read_header headed
  reading_begun t =
      let l : leb 16 (length bits) ≡ true = le-leb 16 (length bits) (simp length-append (omega (arith, length_bits 8 x, length_bits 8 y))) in
      rw (l, form_is, dim_is, darts_are, rest_is)

-- refused before a walk: the tables stay
pub refused_left : (r : Answered ReadAnswer) (nr p : ℕ) (t : List ℕ) → r.session ≡ idle_by (Refused nr p) 0 0 → r.answer ≡ plain_answer nr p
    → left_by r t ≡ leaves (Reading.refused nr p t) t
unfolding left_by leaves store idle answer_of tables_of value
refused_left r nr p t e f = λ i. record { session = e i; answer = f i; tables = t }

-- the bits of a header that waits
header_left : (r : Answered ReadAnswer) (bits : List Bool) (t : List ℕ) → r.session ≡ idle_by Header (length bits) (value bits) → r.answer ≡ plain_answer 0 0
    → length bits < 16 → left_by r t ≡ leaves (reading_of by_dart bits t) t
unfolding left_by leaves reading_of read_header
header_left r bits t e f h = rw (lt-leb 16 (length bits) h) (unfold store idle answer_of tables_of in λ i. record { session = e i; answer = f i; tables = t })

-- a header that is in: 1, 3, or the walk
module _ (r : Answered ReadAnswer) (F : Form) (N n : ℕ) (bits : List Bool) (t : List ℕ) where
  pub begin_dim : r.session ≡ idle_by (Refused 1 0) 0 0 → r.answer ≡ plain_answer 1 0 → dim_fits N ≡ false
      → left_by r t ≡ leaves (begun F by_dart (dim_fits N) (leb (size N n) (length t)) N n bits t) t
  unfolding begun
  begin_dim e f h = rw h (refused_left r 1 0 t e f)

  pub begin_room : r.session ≡ idle_by (Refused 3 0) 0 0 → r.answer ≡ plain_answer 3 0 → dim_fits N ≡ true → length t < size N n
      → left_by r t ≡ leaves (begun F by_dart (dim_fits N) (leb (size N n) (length t)) N n bits t) t
  unfolding begun
  begin_room e f h l = rw (h, lt-leb (size N n) (length t) l) (refused_left r 3 0 t e f)

  pub begin_walk : (u : List ℕ) (c : Cursor) (page : List ℕ) (b : List ℕ) → b ≡ blank (size N n) t → (G : Form) → G ≡ F
      → left_by r u ≡ leaves (settle (run_all (walk_at by_dart N n (stand_in G 1 1 (replicate 7 0)) b) (at_hand c page))) b
      → at_hand c page ≡ bits → (1 ≤ N) × (N ≤ 6) → (1 ≤ n) × (n ≤ 4096) → size N n ≤ length t
      → left_by r u ≡ leaves (begun F by_dart (dim_fits N) (leb (size N n) (length t)) N n bits t) t
  unfolding begun
  begin_walk u c page b eb G eg e ea hN hn l =
      let w : walk_at by_dart N n (stand_in G 1 1 (replicate 7 0)) b ≡ start F by_dart N n t = rw (eb, eg) (walk_start F N n t hn.0 hn.1 hN.1) in
      rw (fits_dim N hN.0 hN.1, le-leb (size N n) (length t) l)
      (e ∙ (rw (w, ea) (settle_same (run_all (start F by_dart N n t) bits) b t)))

-- a fresh cursor at a byte has the bits from there on
pub fresh_hand : (at : ℕ) (page : List ℕ) → at_hand (record { waiting = 0; value = 0; at = at; bit = 0 }) page ≡ unpack (drop at page)
unfolding at_hand bits_of
fresh_hand at page = refl

-- a page on a header session, by what waits and how long the page is
waiting_none : (s : Session) → s.waiting ≡ 0 → waiting_of s ≡ []
unfolding waiting_of bits_of
waiting_none s e = rw e

waiting_byte : (s : Session) → s.waiting ≡ 8 → waiting_of s ≡ bits_of 8 s.value
unfolding waiting_of
waiting_byte s e = rw e

-- no bits or eight
pub waits_byte : (k : ℕ) → (k ≡ 0) ⊎ (k ≡ 8) → k ≢ 0 → k ≡ 8
waits_byte k (inl e) h = absurd (h e)
waits_byte k (inr e) h = e

pub header_none : (r : Answered ReadAnswer) (s : Session) (page t : List ℕ) → s.waiting ≡ 0 → length page ≡ 0 → r.session ≡ idle_by Header 0 0
    → r.answer ≡ plain_answer 0 0 → left_by r t ≡ leaves (reading_of by_dart (waiting_of s ++ unpack page) t) t
unfolding unpack value
header_none r s [] t z l e f = rw (waiting_none s z) (header_left r [] t e f (omega arith))
header_none r s (x ∷ page) t z l e f = absurd (omega arith)

pub header_one : (r : Answered ReadAnswer) (s : Session) (page t : List ℕ) → s.waiting ≡ 0 → length page ≡ 1 → get_or page 0 0 < 256
    → r.session ≡ idle_by Header 8 (get_or page 0 0) → r.answer ≡ plain_answer 0 0
    → left_by r t ≡ leaves (reading_of by_dart (waiting_of s ++ unpack page) t) t
unfolding unpack
header_one r s [] t z l b e f = absurd (omega arith)
header_one r s (x ∷ []) t z l b e f =
    rw (waiting_none s z, append-nil) (header_left r (bits_of 8 x) t (e ∙ rw (length_bits 8 x, value_bits 8 x b)) f (omega (arith, length_bits 8 x)))
header_one r s (x ∷ y ∷ page) t z l b e f = absurd (omega arith)

pub header_kept : (r : Answered ReadAnswer) (s : Session) (page t : List ℕ) → s.waiting ≡ 8 → length page ≡ 0 → s.value < 256 → r.session ≡ idle_by Header 8 s.value
    → r.answer ≡ plain_answer 0 0
    → left_by r t ≡ leaves (reading_of by_dart (waiting_of s ++ unpack page) t) t
unfolding unpack
header_kept r s [] t z l b e f =
    rw (waiting_byte s z, append-nil)
    (header_left r (bits_of 8 s.value) t (e ∙ rw (length_bits 8 s.value, value_bits 8 s.value b)) f (omega (arith, length_bits 8 s.value)))
header_kept r s (x ∷ page) t z l b e f = absurd (omega arith)

pub header_two : (r : Answered ReadAnswer) (s : Session) (page t u : List ℕ) → s.waiting ≡ 0 → 2 ≤ length page → get_or page 0 0 < 256 → get_or page 1 0 < 256
    → left_by r u ≡ leaves (headed (get_or page 0 0) (get_or page 1 0) (unpack (drop 2 page)) t) t
    → left_by r u ≡ leaves (reading_of by_dart (waiting_of s ++ unpack page) t) t
unfolding unpack headed
header_two r s [] t u z l a b e = absurd (omega arith)
header_two r s (x ∷ []) t u z l a b e = absurd (omega arith)
header_two r s (x ∷ y ∷ page) t u z l a b e = rw (waiting_none s z, reading_begun x y a b (unpack page) t) e

pub header_last : (r : Answered ReadAnswer) (s : Session) (page t u : List ℕ) → s.waiting ≡ 8 → 1 ≤ length page → s.value < 256 → get_or page 0 0 < 256
    → left_by r u ≡ leaves (headed s.value (get_or page 0 0) (unpack (drop 1 page)) t) t
    → left_by r u ≡ leaves (reading_of by_dart (waiting_of s ++ unpack page) t) t
unfolding unpack headed
header_last r s [] t u z l a b e = absurd (omega arith)
header_last r s (y ∷ page) t u z l a b e = rw (waiting_byte s z, reading_begun s.value y a b (unpack page) t) e

-- N out of 1 to 6
pub unfit_dim : (N : ℕ) → (N < 1) ⊎ ((1 ≤ N) × (6 < N)) → dim_fits N ≡ false
unfolding dim_fits
unfit_dim N (inl h) = rw (lt-leb 1 N h)
unfit_dim N (inr (l, h)) = rw (le-leb 1 N l, lt-leb N 6 h)

-- (N+1)·n fits
pub size_small : (N n : ℕ) → N ≤ 6 → n ≤ 4096 → (N + 1) * n ≤ 28672
size_small N n hN hn = mul-le-mul {n₁ = N + 1} {m₁ = n} {n₂ = 7} {m₂ = 4096} (omega arith) hn

pub size_is : (N n : ℕ) → (N + 1) * n ≡ size N n
size_is N n = ap (λ (x : ℕ). x * n) (omega arith)

pub begin_blank : (N n : ℕ) (t b : List ℕ) → b ≡ blank ((N + 1) * n) t → b ≡ blank (size N n) t
begin_blank N n t b e = e ∙ ap (λ (k : ℕ). blank k t) (size_is N n)

pub begin_fits : (at : ℕ) (page : List ℕ) → at ≤ length page → CursorFits (record { waiting = 0; value = 0; at = at; bit = 0 }) page
begin_fits at page h = record { few = omega arith; holds = omega arith; within = h; in_byte = omega arith }

pub begin_ready : (F : Form) (N n at : ℕ) (t : List ℕ) → (1 ≤ N) × (N ≤ 6) → (1 ≤ n) × (n ≤ 4096) → (b : List ℕ) → b ≡ blank ((N + 1) * n) t
    → Ready N n (stand_in F 1 1 (replicate 7 0)) (record { waiting = 0; value = 0; at = at; bit = 0 }) b
begin_ready F N n at t hN hn b e =
    rw (begin_blank N n t b e) (ready_start F N n (record { waiting = 0; value = 0; at = at; bit = 0 }) t hN hn refl)

-- states are told apart
abbrev state_no : State → ℕ
state_no Header = 0
state_no Running = 1
state_no Complete = 2
state_no Closed = 3
state_no (Refused nr p) = 4

other : {A : Type 0} (x y z : State) → x ≡ y → x ≡ z → state_no y ≢ state_no z → A
other x y z p q h = absurd (h (ap state_no (sym p ∙ q)))

-- by the state that a record has
module _ (s : Session) (t : List ℕ) {st : State} (q : s.state ≡ st) {l : Left} where
  pub page_by : (bits : List Bool) → l ≡ page_as by_dart st s bits t → l ≡ page_as by_dart s.state s bits t
  page_by bits e = e ∙ ap (λ (x : State). page_as by_dart x s bits t) (sym q)

  pub close_by : l ≡ close_as by_dart st s t → l ≡ close_as by_dart s.state s t
  close_by e = e ∙ ap (λ (x : State). close_as by_dart x s t) (sym q)

-- a fit session with a walk
module _ (s : Session) (t : List ℕ) (seven : length s.positions ≡ 7) (e : fit by_dart s t ≡ true) where
  pub header_bits : s.state ≡ Header → ((s.waiting ≡ 0) ⊎ (s.waiting ≡ 8)) × (s.value < 256)
  header_bits q = go (fit_session by_dart s t seven e)
    where
      from : (r : Reading) → Fits by_dart r → s ≡ store r → ((s.waiting ≡ 0) ⊎ (s.waiting ≡ 8)) × (s.value < 256)
      from _ (Fits.header {bs} h) es = unfold store idle in bits h (ap (λ (x : Session). x.waiting) es) (ap (λ (x : Session). x.value) es)
        where
          bits : (length bs ≡ 0) ⊎ (length bs ≡ 8) → s.waiting ≡ length bs → s.value ≡ value bs → ((s.waiting ≡ 0) ⊎ (s.waiting ≡ 8)) × (s.value < 256)
          bits (inl h) ew ev = (inl (ew ∙ h), omega (arith, ev, rw h at (value_lt bs)))
          bits (inr h) ew ev = (inr (ew ∙ h), omega (arith, ev, rw h at (value_lt bs)))
      from _ (Fits.running v d a) es = unfold store held in other s.state Header Running q (ap (λ (x : Session). x.state) es) (omega arith)
      from _ (Fits.complete v d h n) es = unfold store held in other s.state Header Complete q (ap (λ (x : Session). x.state) es) (omega arith)
      from _ (Fits.refused {nr} {p} f) es = unfold store idle in other s.state Header (Refused nr p) q (ap (λ (x : Session). x.state) es) (omega arith)

      go : FitSession by_dart s t → ((s.waiting ≡ 0) ⊎ (s.waiting ≡ 8)) × (s.value < 256)
      go (FitSession.reading r f o es et) = from r f es
      go (FitSession.closed z) = other s.state Header Closed q z (omega arith)
      go (FitSession.refused nr p z f) = other s.state Header (Refused nr p) q z (omega arith)

  waiting_bits : (w : Walk) (bs : List Bool) → s ≡ held Running w bs → bits_of s.waiting s.value ≡ bs
  unfolding waiting_of
  waiting_bits w bs es = ap waiting_of es ∙ waiting_held Running w bs

  -- what a running record keeps of its walk and bits
  dim_held : (w : Walk) (bs : List Bool) → s ≡ held Running w bs → s.dim ≡ w.dim
  unfolding held
  dim_held w bs es = ap (λ (x : Session). x.dim) es

  waiting_length : (w : Walk) (bs : List Bool) → s ≡ held Running w bs → s.waiting ≡ length bs
  unfolding held
  waiting_length w bs es = ap (λ (x : Session). x.waiting) es

  waiting_value : (w : Walk) (bs : List Bool) → s ≡ held Running w bs → s.value ≡ value bs
  unfolding held
  waiting_value w bs es = ap (λ (x : Session). x.value) es

  -- a running one may go on
  pub running_ready : (page : List ℕ) → s.state ≡ Running → CursorFits (cursor_of s) page × Ready s.dim s.darts (stand_of s) (cursor_of s) t
  running_ready page q = go (fit_session by_dart s t seven e)
    where
      from : (r : Reading) → Fits by_dart r → s ≡ store r → t ≡ tables_of r t → CursorFits (cursor_of s) page × Ready s.dim s.darts (stand_of s) (cursor_of s) t
      from _ (Fits.header {bs} h) es et = unfold store idle in other s.state Running Header q (ap (λ (x : Session). x.state) es) (omega arith)
      from _ (Fits.running {w} {bs} v d a) es et = unfold store tables_of in walking es et
        where
          walking : s ≡ held Running w bs → t ≡ w.links → CursorFits (cursor_of s) page × Ready s.dim s.darts (stand_of s) (cursor_of s) t
          walking es et =
              let p : walk_at by_dart s.dim s.darts (stand_of s) t ≡ w = (λ i. walk_of by_dart (es i) (et i))
              ∙ walk_held by_dart Running w bs d.0 v.shape in
              let b : bits_of s.waiting s.value ≡ bs = waiting_bits w bs es in
              let ed : s.dim ≡ w.dim = dim_held w bs es in
              let ew : s.waiting ≡ length bs = waiting_length w bs es in
              let ev : s.value ≡ value bs = waiting_value w bs es in (
                record { few = omega (arith, ew, begins_13 bs a.begun); holds = rw (ew, ev) (value_lt bs); within = omega arith; in_byte = omega arith },
                record { inv = rw p v; rests = rw p (asks_rests w bs a); dims = omega (arith, d.1, ed); begun = inr (rw (p, b) a) },
              )
      from _ (Fits.complete v d h n) es et = unfold store held in other s.state Running Complete q (ap (λ (x : Session). x.state) es) (omega arith)
      from _ (Fits.refused {nr} {p} f) es et = unfold store idle in other s.state Running (Refused nr p) q (ap (λ (x : Session). x.state) es) (omega arith)

      go : FitSession by_dart s t → CursorFits (cursor_of s) page × Ready s.dim s.darts (stand_of s) (cursor_of s) t
      go (FitSession.reading r f o es et) = from r f es et
      go (FitSession.closed z) = other s.state Running Closed q z (omega arith)
      go (FitSession.refused nr p z f) = other s.state Running (Refused nr p) q z (omega arith)

  -- a complete one is within the limits and its room
  pub complete_limits : s.state ≡ Complete → Limits s.dim s.darts t
  complete_limits q = go (fit_session by_dart s t seven e)
    where
      within : 1 ≤ s.dim → Limits s.dim s.darts t
      within d =
          let h : Shape (walk_of by_dart s t) = fit_shape by_dart s t seven (inr q) e in
          unfold walk_at in record { dims = (d, h.ranks); darts = (omega (arith, h.some, h.within), h.small); room = h.table }

      from : (r : Reading) → Fits by_dart r → s ≡ store r → Limits s.dim s.darts t
      from _ (Fits.header {bs} h) es = unfold store idle in other s.state Complete Header q (ap (λ (x : Session). x.state) es) (omega arith)
      from _ (Fits.running v d a) es = unfold store held in other s.state Complete Running q (ap (λ (x : Session). x.state) es) (omega arith)
      from _ (Fits.complete {w} v d h n) es = unfold store held in within (omega (arith, d, ap (λ (x : Session). x.dim) es))
      from _ (Fits.refused {nr} {p} f) es = unfold store idle in other s.state Complete (Refused nr p) q (ap (λ (x : Session). x.state) es) (omega arith)

      go : FitSession by_dart s t → Limits s.dim s.darts t
      go (FitSession.reading r f o es et) = from r f es
      go (FitSession.closed z) = other s.state Complete Closed q z (omega arith)
      go (FitSession.refused nr p z f) = other s.state Complete (Refused nr p) q z (omega arith)

-- bits on a complete session
after_more : (w : Walk) (bits : List Bool) → 1 ≤ length bits → after_end w bits ≡ spoiled 18 w
unfolding after_end
after_more w [] h = absurd (omega arith)
after_more w (b ∷ bits) h = refl

-- a running session may go on from any byte of a page
pub running_may : (s : Session) (k : Stand) → k ≡ stand_of s → (t page : List ℕ)
    → CursorFits (cursor_of s) page × Ready s.dim s.darts (stand_of s) (cursor_of s) t → (at : ℕ) → at ≤ length page →
    let d : Cursor = record { waiting = s.waiting; value = s.value; at = at; bit = 0 } in
    CursorFits d page × Ready s.dim s.darts k d t
running_may s k ek t page (f, y) at h =
    rw ek (
      record { few = f.few; holds = f.holds; within = h; in_byte = f.in_byte },
      record { inv = y.inv; rests = y.rests; dims = y.dims; begun = y.begun },
    )

-- calls on the walk of a record
module _ (r : Answered ReadAnswer) (s : Session) (t : List ℕ) where
  pub running_goes : (k : Stand) → k ≡ stand_of s → (page u : List ℕ)
      → left_by r u ≡ leaves (settle (run_all (walk_at by_dart s.dim s.darts k t) (at_hand (cursor_of s) page))) t
      → left_by r u ≡ leaves (go_on by_dart s (unpack page) t) t
  unfolding go_on at_hand waiting_of
  running_goes k ek page u e =
      let w : walk_at by_dart s.dim s.darts k t ≡ walk_of by_dart s t = ap (λ (x : Stand). walk_at by_dart s.dim s.darts x t) ek in
      rw w at e

  pub closed_left : r.session ≡ held_by Closed s.dim s.darts (stand_of s) 0 0 → r.answer ≡ good_by s.dim s.darts (stand_of s)
      → left_by r t ≡ leaves (closing (Reading.complete (walk_of by_dart s t)) t) t
  unfolding left_by leaves closing store held answer_of good_answer tables_of steps walk_at value
  closed_left e f = λ i. record { session = e i; answer = f i; tables = t }

  pub complete_none : (page : List ℕ) → length page ≡ 0 → r.session ≡ held_by Complete s.dim s.darts (stand_of s) 0 0
      → r.answer ≡ good_by s.dim s.darts (stand_of s) → left_by r t ≡ leaves (after_end (walk_of by_dart s t) (unpack page)) t
  unfolding unpack after_end
  complete_none [] l e f = complete_left s.dim s.darts (stand_of s) t r f e
  complete_none (x ∷ page) l e f = absurd (omega arith)

  pub complete_more : (page u : List ℕ) → length page ≢ 0 → left_by r u ≡ leaves (spoiled 18 (walk_of by_dart s t)) t
      → left_by r u ≡ leaves (after_end (walk_of by_dart s t) (unpack page)) t
  unfolding unpack
  complete_more [] u l e = absurd (l refl)
  complete_more (x ∷ page) u l e =
      let m : after_end (walk_of by_dart s t) (bits_of 8 x ++ unpack page) ≡ spoiled 18 (walk_of by_dart s t) =
      after_more (walk_of by_dart s t) (bits_of 8 x ++ unpack page) (simp length-append (omega (arith, length_bits 8 x))) in
      rw m e

  pub close_running : (u : List ℕ) → left_by r u ≡ leaves (spoiled 11 (walk_of by_dart s t)) t
      → left_by r u ≡ leaves (closing (Reading.running (walk_of by_dart s t) (waiting_of s)) t) t
  unfolding closing
  close_running u e = e

-- calls that leave the tables
module _ (r : Answered ReadAnswer) (s : Session) (t : List ℕ) where
  pub close_header : r.session ≡ idle_by (Refused 11 0) 0 0 → r.answer ≡ plain_answer 11 0 → left_by r t ≡ leaves (closing (Reading.header (waiting_of s)) t) t
  unfolding closing
  close_header e f = refused_left r 11 0 t e f

  pub unchanged_left : (a : ReadAnswer) → r.session ≡ s → r.answer ≡ a → left_by r t ≡ unchanged s t a
  unfolding left_by unchanged
  unchanged_left a e f = λ i. record { session = e i; answer = f i; tables = t }

  -- the same where the answer's number is told by its reason
  pub unchanged_number : (nr k : ℕ) → nr ≡ k → r.session ≡ s → r.answer ≡ plain_answer nr 0 → left_by r t ≡ unchanged s t (plain_answer k 0)
  unchanged_number nr k q e f = unchanged_left (plain_answer k 0) e (f ∙ ap (λ (x : ℕ). plain_answer x 0) q)

-- what is to be fetched: nothing where a refusal, a closed session or a complete one is left, and the rest of a header
pub refused_none : (s : Session) (nr p : ℕ) → s ≡ idle_by (Refused nr p) 0 0 → 0 ≡ fetch_of s
unfolding fetch_of fetch_as
refused_none s nr p e = sym (ap fetch_of e)

pub state_none : (s s' : Session) → s' ≡ s → (s.state ≡ Closed) ⊎ ((nr : ℕ) × (p : ℕ) × (s.state ≡ Refused nr p)) → 0 ≡ fetch_of s'
state_none s s' e h = sym (ap fetch_of e ∙ fetch_none s (inr h))

after_wants : (w : Walk) (bits : List Bool) → wants (after_end w bits) ≡ 0
unfolding after_end spoiled wants
after_wants w [] = refl
after_wants w (b ∷ bits) = refl

pub complete_wants : (p : Answered ReadAnswer) (u : List ℕ) (w : Walk) (bits : List Bool) (t : List ℕ) → left_by p u ≡ leaves (after_end w bits) t → 0 ≡ fetch_of p.session
complete_wants p u w bits t e = sym (after_wants w bits) ∙ left_wants p u (after_end w bits) t e

pub header_fetches : (r : Answered PageAnswer) (k v : ℕ)
    → (read_by r ≡ record { session = idle_by Header k v; answer = plain_answer 0 0 }) × (r.answer.fetch ≡ whole_bytes (16 - k))
    → (t : List ℕ) {l : Left} → (r.session ≡ idle_by Header k v → r.answer.reading ≡ plain_answer 0 0 → left_by (read_by r) t ≡ l) → Fetches r t l
unfolding fetch_of fetch_as
header_fetches r k v (e, f) t h =
    let q : r.session ≡ idle_by Header k v = ap (λ (p : Answered ReadAnswer). p.session) e in
    record { left = h q (ap (λ (p : Answered ReadAnswer). p.answer) e); fetch = f ∙ sym (ap fetch_of q) }

-- the two calls, fit and not
module _ (s : Session) (t : List ℕ) (x : Left) where
  page_as_lem : (bytes : List ℕ) → fit by_dart s t ≡ true → x ≡ page_as by_dart s.state s (unpack bytes) t → x ≡ page by_dart s bytes t
  unfolding page if_fit
  page_as_lem bytes h e = rw h e

  page_unfit : (bytes : List ℕ) → fit by_dart s t ≡ false → x ≡ unchanged s t (plain_answer 19 0) → x ≡ page by_dart s bytes t
  unfolding page if_fit
  page_unfit bytes h e = rw h e

  pub close_as_lem : fit by_dart s t ≡ true → x ≡ close_as by_dart s.state s t → x ≡ close by_dart s t
  unfolding close if_fit
  close_as_lem h e = rw h e

  pub close_unfit : fit by_dart s t ≡ false → x ≡ unchanged s t (plain_answer 19 0) → x ≡ close by_dart s t
  unfolding close if_fit
  close_unfit h e = rw h e

-- the page call: what it leaves, with the bytes to fetch
module _ (s : Session) (t : List ℕ) (r : Answered PageAnswer) (u bytes : List ℕ) where
  called : {l : Left} → left_by (read_by r) u ≡ l → (f : ℕ) → r.answer.fetch ≡ f → fetched_by r u ≡ fetching l f
  unfolding fetching left_by
  called e f q =
      (λ i. record { session = r.session; answer = record { reading = r.answer.reading; fetch = q i }; tables = u })
      ∙ ap (λ (y : Left). fetching y f) e

  pub page_called : fit by_dart s t ≡ true → Fetches r u (page_as by_dart s.state s (unpack bytes) t) → fetched_by r u ≡ page_call by_dart s bytes t
  unfolding page_call left_by
  page_called h e =
      let q = page_as_lem s t (left_by (read_by r) u) bytes h e.left in
      rw h (called q (fetch_of (page by_dart s bytes t).session) (e.fetch ∙ ap (λ (y : Left). fetch_of y.session) q))

  pub page_refused : fit by_dart s t ≡ false → (p : Answered ReadAnswer) → (read_by r ≡ p) × (r.answer.fetch ≡ 0) → left_by p u ≡ unchanged s t (plain_answer 19 0)
      → fetched_by r u ≡ page_call by_dart s bytes t
  unfolding page_call
  page_refused h p (e, f) q = rw h (called (page_unfit s t (left_by (read_by r) u) bytes h (ap (λ (y : Answered ReadAnswer). left_by y u) e ∙ q)) 0 f)

-- nothing waits in a new session
pub opened_bits : (s : Session) → s ≡ opened → ((s.waiting ≡ 0) ⊎ (s.waiting ≡ 8)) × (s.value < 256)
opened_bits s e = (inl (ap (λ (x : Session). x.waiting) e), omega (arith, ap (λ (x : Session). x.value) e))

-- a whole read: the record and the tables for all the bytes, closed
module _ (r : Answered ReadAnswer) (bytes t u : List ℕ) (o : Session) (eo : o ≡ opened)
    (e : left_by r u ≡ leaves (reading_of by_dart (waiting_of o ++ unpack bytes) t) t) where
  all_read : left_by r u ≡ leaves (reading_of by_dart (unpack bytes) t) t
  all_read = e ∙ ap (λ (s : Session). leaves (reading_of by_dart (waiting_of s ++ unpack bytes) t) t) eo ∙ rw (waiting_none opened refl)

  record_read : r.session ≡ record_for by_dart bytes t
  unfolding left_by leaves record_for
  record_read = ap (λ (x : Left). x.session) all_read

  tables_read : u ≡ tables_for by_dart bytes t
  unfolding left_by leaves tables_for
  tables_read = ap (λ (x : Left). x.tables) all_read

  pub read_fit : fit by_dart r.session u ≡ true
  read_fit = (λ i. fit by_dart (record_read i) (tables_read i)) ∙ record_fit by_dart bytes t

  pub read_closed : (q : Answered ReadAnswer) (v : List ℕ) → left_by q v ≡ close_as by_dart r.session.state r.session u
      → (q.answer ≡ read_answer by_dart bytes t) × (v ≡ read_tables by_dart bytes t)
  unfolding left_by
  read_closed q v f =
      let g : record { session = q.session; answer = q.answer; tables = v } ≡ close by_dart (record_for by_dart bytes t) (tables_for by_dart bytes t) =
      close_as_lem r.session u (left_by q v) read_fit f ∙ (λ i. close by_dart (record_read i) (tables_read i)) in
      let c = close_reads by_dart bytes t in
      (ap (λ (x : Left). x.answer) g ∙ c.0, ap (λ (x : Left). x.tables) g ∙ c.1)
