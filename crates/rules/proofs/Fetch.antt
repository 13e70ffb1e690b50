-- How much to fetch (E9): the number is the least that could finish what waits; demand 3 with it; and a client that always asks for so many bytes reads every
-- accepted stream to its end and never asks past it. Rests on Codes, Readings, Sessions and Complete.
use Prim.Native.Nat.{ℕ, zero, suc, ◌+◌, ◌*◌, ◌-◌, ◌/◌, ◌≤◌, ◌<◌}
use mathlib.Core.Path.{◌≡◌, refl, ap, sym, ◌∙◌, subst}
use mathlib.Core.Logic.{◌≢◌, ◌⊎◌, inl, inr}
use mathlib.Core.Bool.{Bool, true, false, cond}
use mathlib.Core.List.{List, [], ◌∷◌, ◌++◌, append_assoc, append-nil}
use native.Mathlib.Omega.{arith}
use native.Mathlib.Decide.{ℕ_discrete, dec_lt}
use lib.ListN.{length, take, drop, replicate, length-append, length-drop, length-replicate, take-append-drop}
use lib.Seq.{length-take-le}
use lib.Dec.{leb, ltb}
use borrow.Author.Tests.{ltb-false, lt-ltb, le-ltb, le-leb, lt-leb, leb-true}
use Rattle.rules.specs.declared.Session.{Session}
use Rattle.rules.specs.declared.ReadAnswer.{ReadAnswer}
use Rattle.rules.specs.declared.State.{State}
use Rattle.rules.specs.declared.State.TheVariants.{Header, Running, Complete, Closed, Refused}
use Rattle.rules.specs.Map.{Layout}
use Rattle.rules.specs.Stream.{bits_of, value, unpack, pack, Taken, take_index, take_symbol}
use Rattle.rules.specs.Walk.{Walk, enough}
use Rattle.rules.specs.Reading.{step_taken, step_with, step_at, resuming, step, onward, run, run_all, Reading, spoiled, settle, read_header, reading_of}
use Rattle.rules.specs.Reading.{closing}
use Rattle.rules.specs.Reading.{good_answer, plain_answer, answer_of, tables_of, read_whole, read_answer, read_tables}
use Rattle.rules.specs.Session.{idle, held, store, opened, waiting_of, begins, fit, unchanged, leaves, after_end, page_as, if_fit, page, close, record_for}
use Rattle.rules.specs.Session.{tables_for}
use Rattle.rules.specs.Fetch.{whole_bytes, more_bits, fetch_as, fetch_of, PageLeft, fetching, page_call, is_whole, finishes_as, finishes}
use Rattle.rules.specs.Inner.{Asks}
use Rattle.rules.proofs.Refusals.{refused_some}
use Rattle.rules.proofs.Codes.{length_bits, Bytes, length_unpack, length_pack, unpack_pack, bytes_pack}
use Rattle.rules.proofs.Readings.{begins_short, begins_13}
use Rattle.rules.proofs.Fitness.{waiting_held, waiting_idle, Fits, FitSession, fit_session}
use Rattle.rules.proofs.Sessions.{feed, feed_fits, page_as_lem, page_store, reading_more, unpack_append, whole_bytes_lem, two_pages, whole, page_fit_lem}
use Rattle.rules.proofs.Sessions.{reading_fits, record_fit, page_reads, close_reads}
use Rattle.rules.proofs.Complete.{complete, Streamed}

-- bits: no fewer than are said finish the symbol, whatever they are, and with so many zeros it is whole
pub fewer_bits : (bs zs : List Bool) → length zs < more_bits (take_symbol bs) → is_whole (take_symbol (bs ++ zs)) ≡ false
unfolding take_symbol more_bits is_whole take_index
fewer_bits [] [] h = refl
fewer_bits [] (z ∷ zs) h = absurd (omega arith)
fewer_bits (false ∷ bs) zs h = absurd (omega arith)
fewer_bits (true ∷ []) [] h = refl
fewer_bits (true ∷ []) (z ∷ zs) h = absurd (omega arith)
fewer_bits (true ∷ false ∷ bs) zs h = absurd (omega arith)
fewer_bits (true ∷ true ∷ bs) zs h = go (ltb (length bs) 12) refl h
  where
    go : (b : Bool) → ltb (length bs) 12 ≡ b → length zs < more_bits (take_index b bs) → is_whole (take_index (ltb (length (bs ++ zs)) 12) (bs ++ zs)) ≡ false
    go true e h = rw (lt-ltb (length (bs ++ zs)) 12 (simp length-append (omega arith)))
    go false e h = absurd (omega arith)

pub enough_bits : (bs : List Bool) (k : ℕ) → more_bits (take_symbol bs) ≤ k → is_whole (take_symbol (bs ++ replicate k false)) ≡ true
unfolding take_symbol more_bits is_whole take_index
enough_bits [] zero h = absurd (omega arith)
enough_bits [] (suc k) h = refl
enough_bits (false ∷ bs) k h = refl
enough_bits (true ∷ []) zero h = absurd (omega arith)
enough_bits (true ∷ []) (suc k) h = refl
enough_bits (true ∷ false ∷ bs) k h = refl
enough_bits (true ∷ true ∷ bs) k h = go (ltb (length bs) 12) refl h
  where
    zs : List Bool
    zs = replicate k false

    long : 12 ≤ length (bs ++ zs) → is_whole (take_index (ltb (length (bs ++ zs)) 12) (bs ++ zs)) ≡ true
    long l = rw (le-ltb (length (bs ++ zs)) 12 l)

    go : (b : Bool) → ltb (length bs) 12 ≡ b → more_bits (take_index b bs) ≤ k → is_whole (take_index (ltb (length (bs ++ zs)) 12) (bs ++ zs)) ≡ true
    go true e h = long (simp length-append (omega (arith, length-replicate k false)))
    go false e h = long (simp length-append (omega (arith, ltb-false (length bs) 12 e)))

-- at most twelve are to come
pub short_few : (bs : List Bool) (k : ℕ) → take_symbol bs ≡ Taken.short k → k ≤ 12
unfolding take_symbol take_index
short_few [] k e = let q : 1 ≡ k = cc in omega arith
short_few (false ∷ bs) k e = let z : ◌≡◌ {A = ℕ} 0 1 = cc in absurd (omega arith)
short_few (true ∷ []) k e = let q : 1 ≡ k = cc in omega arith
short_few (true ∷ false ∷ bs) k e = let z : ◌≡◌ {A = ℕ} 0 1 = cc in absurd (omega arith)
short_few (true ∷ true ∷ bs) k e = go (ltb (length bs) 12) e
  where
    go : (b : Bool) → take_index b bs ≡ Taken.short k → k ≤ 12
    go true e = let q : 12 - length bs ≡ k = cc in omega arith
    go false e = let z : ◌≡◌ {A = ℕ} 0 1 = cc in absurd (omega arith)

-- some f bytes finish what waits in a session, and no fewer do, whatever they are
pub record Least (s : Session) (f : ℕ) : Type 0 where
  pub some : (bytes : List ℕ) × (length bytes ≡ f) × Bytes bytes × (finishes s bytes ≡ true)
  pub fewer : (bytes : List ℕ) → length bytes < f → finishes s bytes ≡ false

module _ (s : Session) where
  long : (bytes : List ℕ) → length (waiting_of s ++ unpack bytes) ≡ s.waiting + 8 * length bytes
  unfolding waiting_of
  long bytes = simp length-append (omega (arith, length_bits s.waiting s.value, length_unpack bytes))

  -- by so many zeros
  finished : (st : State) → finishes_as st (waiting_of s ++ replicate (8 * fetch_as st s) false) ≡ true
  unfolding finishes_as fetch_as whole_bytes waiting_of
  finished Header =
      le-leb 16 (length (bits_of s.waiting s.value ++ replicate (8 * fetch_as Header s) false))
      (simp length-append (omega (arith, length_bits s.waiting s.value, length-replicate (8 * fetch_as Header s) false)))
  finished Running = enough_bits (bits_of s.waiting s.value) (8 * fetch_as Running s) (omega arith)
  finished Complete = refl
  finished Closed = refl
  finished (Refused nr p) = refl

  unfinished : (st : State) (bytes : List ℕ) → length bytes < fetch_as st s → finishes_as st (waiting_of s ++ unpack bytes) ≡ false
  unfolding finishes_as fetch_as whole_bytes
  unfinished Header bytes h = lt-leb 16 (length (waiting_of s ++ unpack bytes)) (omega (arith, long bytes))
  unfinished Running bytes h = fewer_bits (waiting_of s) (unpack bytes) (omega (arith, length_unpack bytes))
  unfinished Complete bytes h = absurd (omega arith)
  unfinished Closed bytes h = absurd (omega arith)
  unfinished (Refused nr p) bytes h = absurd (omega arith)

  -- the number is right, of every session
  pub fetch_least : Least s (fetch_of s)
  unfolding fetch_of finishes
  fetch_least =
      let f = fetch_as s.state s in
      let zs = replicate (8 * f) false in
      let u : unpack (pack f zs) ≡ zs = unpack_pack f zs (length-replicate (8 * f) false) in
      record { some = (pack f zs, length_pack f zs, bytes_pack f zs, rw u (finished s.state)); fewer = λ bytes h. unfinished s.state bytes h }

-- of a page's answer: with 0 where the session was unfit
pub page_least : (Y : Layout) (s : Session) (bytes t : List ℕ) → 1 ≤ (page_call Y s bytes t).answer.fetch
    → Least (page_call Y s bytes t).session (page_call Y s bytes t).answer.fetch
unfolding page_call fetching
page_least Y s bytes t = go (fit Y s t)
  where
    go : (b : Bool) → 1 ≤ cond b (fetch_of (page Y s bytes t).session) 0 → Least (page Y s bytes t).session (cond b (fetch_of (page Y s bytes t).session) 0)
    go true h = fetch_least (page Y s bytes t).session
    go false h = absurd (omega arith)

-- the numbers that document 02 names: 2 on a new session, 1 after one header byte; in a symbol 2 with 11 and up to three bits after it, else 1; 0 when
-- complete, closed or refused
pub fetch_header : (s : Session) → s.state ≡ Header → ((s.waiting ≡ 0 → fetch_of s ≡ 2) × (s.waiting ≡ 8 → fetch_of s ≡ 1))
unfolding fetch_of fetch_as whole_bytes
fetch_header s e = (λ w. rw (e, w), λ w. rw (e, w))

-- bits that begin a symbol: one is to come with no bit or 1 at hand, and with 11 and m bits after it twelve less m
pub to_come : (bs : List Bool) → begins bs ≡ true
    → ((length bs ≤ 1 → more_bits (take_symbol bs) ≡ 1) × (2 ≤ length bs → more_bits (take_symbol bs) + length bs ≡ 14))
unfolding begins take_symbol more_bits take_index
to_come [] g = (λ l. refl, λ l. absurd (omega arith))
to_come (false ∷ bs) g = let z : ◌≡◌ {A = ℕ} 0 1 = cc in absurd (omega arith)
to_come (true ∷ []) g = (λ l. refl, λ l. absurd (omega arith))
to_come (true ∷ false ∷ bs) g = let z : ◌≡◌ {A = ℕ} 0 1 = cc in absurd (omega arith)
to_come (true ∷ true ∷ bs) g =
    let l = leb-true (length bs) 11 g in
    (λ k. absurd (omega arith), λ k. rw (lt-ltb (length bs) 12 (omega arith)) (omega arith))

-- by how many bits wait: none, one, or 11 and those after it
pub fetch_running : (s : Session) → s.state ≡ Running → begins (waiting_of s) ≡ true
    → (((s.waiting ≤ 1) ⊎ (6 ≤ s.waiting)) → fetch_of s ≡ 1) × ((2 ≤ s.waiting) × (s.waiting ≤ 5) → fetch_of s ≡ 2)
unfolding fetch_of fetch_as waiting_of whole_bytes
fetch_running s e g = (one, λ (l, k). rw e (omega (arith, (to_come (bits_of s.waiting s.value) g).1 (omega (arith, n)), n)))
  where
    n : length (bits_of s.waiting s.value) ≡ s.waiting
    n = length_bits s.waiting s.value

    one : (s.waiting ≤ 1) ⊎ (6 ≤ s.waiting) → fetch_as s.state s ≡ 1
    one (inl l) = rw e (omega (arith, (to_come (bits_of s.waiting s.value) g).0 (omega (arith, n))))
    one (inr l) =
        let m = begins_13 (bits_of s.waiting s.value) g in
        rw e (omega (arith, (to_come (bits_of s.waiting s.value) g).1 (omega (arith, n)), n))

pub fetch_none : (s : Session) → (s.state ≡ Complete) ⊎ (s.state ≡ Closed) ⊎ ((nr p : ℕ) × (s.state ≡ Refused nr p)) → fetch_of s ≡ 0
unfolding fetch_of fetch_as
fetch_none s (inl e) = rw e
fetch_none s (inr (inl e)) = rw e
fetch_none s (inr (inr (nr, p, e))) = rw e

-- what a reading wants
unfoldable pub wants : Reading → ℕ
wants (Reading.header bs) = whole_bytes (16 - length bs)
wants (Reading.running w bs) = whole_bytes (more_bits (take_symbol bs))
wants (Reading.complete w) = 0
wants (Reading.closed w) = 0
wants (Reading.refused nr p u) = 0

pub fetch_store : (r : Reading) → fetch_of (store r) ≡ wants r
unfolding fetch_of fetch_as store wants held whole_bytes
fetch_store (Reading.header bs) = unfold idle in refl
fetch_store (Reading.running w bs) = rw (waiting_held Running w bs) (unfold held in refl)
fetch_store (Reading.complete w) = unfold held in refl
fetch_store (Reading.closed w) = unfold held in refl
fetch_store (Reading.refused nr p u) = unfold idle in refl

-- a header and a symbol that wait want something
header_wants : (bs : List Bool) → (length bs ≡ 0) ⊎ (length bs ≡ 8) → 1 ≤ whole_bytes (16 - length bs)
unfolding whole_bytes
header_wants bs (inl e) = omega arith
header_wants bs (inr e) = omega arith

symbol_wants : (bs : List Bool) → begins bs ≡ true → 1 ≤ whole_bytes (more_bits (take_symbol bs))
unfolding whole_bytes
symbol_wants bs g = go (dec_lt (length bs) 2)
  where
    go : Dec (length bs < 2) → 1 ≤ (more_bits (take_symbol bs) + 7) / 8
    go (yes l) = omega (arith, (to_come bs g).0 (omega arith))
    go (no l) = omega (arith, (to_come bs g).1 (omega arith), begins_13 bs g)

-- a reading that goes on wants something exactly if it is neither refused nor complete
reading_wants : {Y : Layout} {r : Reading} → Fits Y r
    → (((answer_of r).number ≢ 0) ⊎ ((store r).state ≡ Complete) → wants r ≡ 0) × ((answer_of r).number ≡ 0 → (store r).state ≢ Complete → 1 ≤ wants r)
unfolding wants answer_of plain_answer good_answer store idle held
reading_wants (Fits.header {bs} h) = (none, λ e c. header_wants bs h)
  where
    none : (◌≢◌ {A = ℕ} 0 0) ⊎ (Header ≡ Complete) → whole_bytes (16 - length bs) ≡ 0
    none (inl z) = absurd (z refl)
    none (inr e) = let z : ◌≡◌ {A = ℕ} 0 1 = cc in absurd (omega arith)
reading_wants (Fits.running {w} {bs} v h a) = (none, λ e c. symbol_wants bs a.begun)
  where
    none : (◌≢◌ {A = ℕ} 0 0) ⊎ (Running ≡ Complete) → whole_bytes (more_bits (take_symbol bs)) ≡ 0
    none (inl z) = absurd (z refl)
    none (inr e) = let z : ◌≡◌ {A = ℕ} 0 1 = cc in absurd (omega arith)
reading_wants (Fits.complete v h o c) = (λ e. refl, λ e c. absurd (c refl))
reading_wants (Fits.refused {nr} {p} h) = (λ e. refl, λ e c. absurd (refused_some nr p h e))

-- an unfit session
unfit_page : (Y : Layout) (s : Session) (bytes t : List ℕ) → fit Y s t ≡ false → page Y s bytes t ≡ unchanged s t (plain_answer 19 0)
unfolding page if_fit
unfit_page Y s bytes t e = rw e

-- every page's answer: nothing is to be fetched exactly if it is a refusal, which is so of closed, refused and unfit sessions too, or complete
pub record Wants (x : PageLeft) : Type 0 where
  pub none : (x.answer.reading.number ≢ 0) ⊎ (x.session.state ≡ Complete) → x.answer.fetch ≡ 0
  pub some : x.answer.reading.number ≡ 0 → x.session.state ≢ Complete → 1 ≤ x.answer.fetch

pub page_wants : (Y : Layout) (s : Session) (bytes t : List ℕ) → length s.positions ≡ 7 → Wants (page_call Y s bytes t)
unfolding page_call
page_wants Y s bytes t seven = go (fit Y s t) refl
  where
    -- an answer that repeats a refusal
    repeats : (nr p f : ℕ) → nr ≢ 0 → f ≡ 0 → Wants (fetching (unchanged s t (plain_answer nr p)) f)
    repeats nr p f n z = unfold fetching unchanged plain_answer in record { none = λ _. z; some = λ e c. absurd (n e) }

    view : FitSession Y s t → fit Y s t ≡ true → Wants (fetching (page Y s bytes t) (fetch_of (page Y s bytes t).session))
    view (FitSession.closed q) e =
        let g : page Y s bytes t ≡ unchanged s t (plain_answer 20 0) = unfold page_as in page_as_lem Y s bytes t Closed e q in
        rw g (repeats 20 0 _ (omega arith) (unfold unchanged in fetch_none s (inr (inl q))))
    view (FitSession.refused nr p q h) e =
        let g : page Y s bytes t ≡ unchanged s t (plain_answer nr p) = unfold page_as in page_as_lem Y s bytes t (Refused nr p) e q in
        rw g (repeats nr p _ (refused_some nr p h) (unfold unchanged in fetch_none s (inr (inr (nr, p, q)))))
    view (FitSession.reading r f o q u) e =
        let x = feed Y r (unpack bytes) t in
        let g : page Y s bytes t ≡ leaves x t = rw q (rw (← u) at (page_store f bytes t)) in
        let (n, m) = reading_wants (feed_fits f (unpack bytes) t (whole_bytes_lem bytes)) in
        rw g (unfold fetching leaves in record { none = λ h. fetch_store x ∙ n h; some = λ h c. rw (fetch_store x) (m h c) })

    go : (b : Bool) → fit Y s t ≡ b → Wants (fetching (page Y s bytes t) (cond b (fetch_of (page Y s bytes t).session) 0))
    go true e = view (fit_session Y s t seven e) e
    go false e = rw (unfit_page Y s bytes t e) (repeats 19 0 0 (omega arith) refl)

-- Demand 3 with the number.

-- one page is the same bytes in two
pub two_calls : (Y : Layout) (s : Session) (xs ys t : List ℕ) → length s.positions ≡ 7
    → page_call Y (page_call Y s xs t).session ys (page_call Y s xs t).tables ≡ page_call Y s (xs ++ ys) t
unfolding page_call fetching
two_calls Y s xs ys t seven = rw (two_pages Y s xs ys t seven) (go (fit Y s t) refl)
  where
    go : (b : Bool) → fit Y s t ≡ b
        → fetching (page Y s (xs ++ ys) t) (cond (fit Y (page Y s xs t).session (page Y s xs t).tables) (fetch_of (page Y s (xs ++ ys) t).session) 0)
        ≡ fetching (page Y s (xs ++ ys) t) (cond b (fetch_of (page Y s (xs ++ ys) t).session) 0)
    go true e = rw (page_fit_lem Y s xs t seven e)
    go false e = rw (unfit_page Y s xs t e, unfit_page Y s (xs ++ ys) t e) (unfold unchanged in rw e)

-- pages one after another, from what a page has left: what the last one leaves
unfoldable pub pages : (Y : Layout) → PageLeft → List (List ℕ) → PageLeft
pages Y x [] = x
pages Y x (p ∷ ps) = pages Y (page_call Y x.session p x.tables) ps

-- one page is the same bytes in any number of pages
pub several_pages : (Y : Layout) (s : Session) (p : List ℕ) (ps : List (List ℕ)) (t : List ℕ) → length s.positions ≡ 7
    → pages Y (page_call Y s p t) ps ≡ page_call Y s (p ++ whole ps) t
unfolding pages whole
several_pages Y s p [] t seven = rw append-nil
several_pages Y s p (q ∷ ps) t seven = rw (two_calls Y s p q t seven, several_pages Y s (p ++ q) ps t seven, append_assoc)

-- what a page leaves from open, by the bytes so far alone
abbrev pub sofar : (Y : Layout) → List ℕ → List ℕ → PageLeft
sofar Y bytes t = record {
  session = record_for Y bytes t;
  answer = record { reading = answer_of (reading_of Y (unpack bytes) t); fetch = fetch_of (record_for Y bytes t) };
  tables = tables_for Y bytes t;
}

-- before any page: a new session, which wants both header bytes
abbrev pub opening : List ℕ → PageLeft
opening t = record { session = opened; answer = record { reading = plain_answer 0 0; fetch = 2 }; tables = t }

opening_sofar : (Y : Layout) (t : List ℕ) → opening t ≡ sofar Y [] t
unfolding record_for tables_for reading_of read_header unpack store idle value answer_of tables_of fetch_of fetch_as whole_bytes
opening_sofar Y t = refl

-- a page on the record and the tables for the bytes so far
pub call_reads : (Y : Layout) (xs ys t : List ℕ) → page_call Y (record_for Y xs t) ys (tables_for Y xs t) ≡ sofar Y (xs ++ ys) t
unfolding page_call fetching
call_reads Y xs ys t = rw (record_fit Y xs t, page_reads Y xs ys t) (unfold leaves record_for tables_for in refl)

-- after any pages from open, empty ones too; the pages up to any of them are such pages, so this holds after each
pub pages_are : (Y : Layout) (ps : List (List ℕ)) (t : List ℕ) → pages Y (opening t) ps ≡ sofar Y (whole ps) t
unfolding pages whole
pages_are Y [] t = opening_sofar Y t
pages_are Y (p ∷ ps) t =
    several_pages Y opened p ps t refl
    ∙ (ap (λ (x : PageLeft). page_call Y x.session (p ++ whole ps) x.tables) (opening_sofar Y t) ∙ call_reads Y [] (p ++ whole ps) t)

-- pages from open, then closing: answer and tables of one whole read
pub pages_read : (Y : Layout) (ps : List (List ℕ)) (t : List ℕ)
    → ((close Y (pages Y (opening t) ps).session (pages Y (opening t) ps).tables).answer ≡ read_answer Y (whole ps) t)
    × ((close Y (pages Y (opening t) ps).session (pages Y (opening t) ps).tables).tables ≡ read_tables Y (whole ps) t)
pages_read Y ps t = rw (pages_are Y ps t) (close_reads Y (whole ps) t)

-- A client.

-- a reading that closing accepts is complete
accepted : {Y : Layout} {r : Reading} → Fits Y r → (t : List ℕ) → (answer_of (closing r t)).number ≡ 0 → (w : Walk) × (r ≡ Reading.complete w)
unfolding closing answer_of spoiled plain_answer
accepted (Fits.header h) t e = absurd (omega arith)
accepted (Fits.running v h a) t e = absurd (omega arith)
accepted (Fits.complete {w} v h o c) t e = (w, refl)
accepted (Fits.refused {nr} {p} h) t e = absurd (refused_some nr p h e)

not_header : {bs : List Bool} {w : Walk} {A : Type 0} → Reading.header bs ≡ Reading.complete w → A
not_header e = let z : ◌≡◌ {A = ℕ} 0 1 = cc in absurd (omega arith)

not_running : {w : Walk} {bs : List Bool} {w' : Walk} {A : Type 0} → Reading.running w bs ≡ Reading.complete w' → A
not_running e = let z : ◌≡◌ {A = ℕ} 0 1 = cc in absurd (omega arith)

not_refused : {nr p : ℕ} {u : List ℕ} {w : Walk} {A : Type 0} → Reading.refused nr p u ≡ Reading.complete w → A
not_refused e = let z : ◌≡◌ {A = ℕ} 0 1 = cc in absurd (omega arith)

-- bits that do not finish the symbol leave a walk that asks for it where it is
stays_running : (w : Walk) (bs ys : List Bool) → Asks w bs → is_whole (take_symbol (bs ++ ys)) ≡ false
    → settle (run_all w (bs ++ ys)) ≡ Reading.running w (bs ++ ys)
stays_running w bs ys a = go (take_symbol (bs ++ ys)) refl
  where
    go : (t : Taken) → take_symbol (bs ++ ys) ≡ t → is_whole t ≡ false → settle (run_all w (bs ++ ys)) ≡ Reading.running w (bs ++ ys)
    go (Taken.short k) q e = unfold run_all run onward enough step resuming step_at step_with step_taken settle in rw (a.next, a.needs, q)
    go (Taken.symbol s rest) q e = unfold is_whole in let z : ◌≡◌ {A = ℕ} 0 1 = cc in absurd (omega arith)

-- a reading that waits on, with more bits
unfoldable pub waits_on : Reading → List Bool → Reading
waits_on (Reading.header bs) ys = Reading.header (bs ++ ys)
waits_on (Reading.running w bs) ys = Reading.running w (bs ++ ys)
waits_on (Reading.complete w) ys = Reading.complete w
waits_on (Reading.closed w) ys = Reading.closed w
waits_on (Reading.refused nr p u) ys = Reading.refused nr p u

-- what finishing is to a page: bytes that do not finish what waits are put to it and no step is done
pub unfinished_waits : {Y : Layout} {r : Reading} → Fits Y r → (bytes t : List ℕ) → finishes (store r) bytes ≡ false
    → feed Y r (unpack bytes) t ≡ waits_on r (unpack bytes)
unfolding finishes finishes_as feed waits_on store idle held reading_of read_header
unfinished_waits (Fits.header {bs} h) bytes t e =
    let q : leb 16 (length (bs ++ unpack bytes)) ≡ false = rw (waiting_idle Header bs) at e in
    rw q
unfinished_waits (Fits.running {w} {bs} v h a) bytes t e = stays_running w bs (unpack bytes) a (rw (waiting_held Running w bs) at e)
unfinished_waits (Fits.complete v h o c) bytes t e = let z : ◌≡◌ {A = ℕ} 0 1 = cc in absurd (omega arith)
unfinished_waits (Fits.refused h) bytes t e = let z : ◌≡◌ {A = ℕ} 0 1 = cc in absurd (omega arith)

-- and bytes that finish it are not
fits_header : {Y : Layout} {bs : List Bool} → Fits Y (Reading.header bs) → length bs ≤ 8
fits_header (Fits.header (inl e)) = omega arith
fits_header (Fits.header (inr e)) = omega arith

fits_running : {Y : Layout} {w : Walk} {bs : List Bool} → Fits Y (Reading.running w bs) → begins bs ≡ true
fits_running (Fits.running v h a) = a.begun

pub finished_goes : {Y : Layout} {r : Reading} → Fits Y r → fetch_of (store r) ≢ 0 → (bytes t : List ℕ) → finishes (store r) bytes ≡ true
    → feed Y r (unpack bytes) t ≢ waits_on r (unpack bytes)
unfolding finishes finishes_as waits_on store idle held is_whole
finished_goes {Y} (Fits.header {bs} h) some bytes t e q =
    let f : Fits Y (Reading.header (bs ++ unpack bytes)) = subst (Fits Y) q (feed_fits (Fits.header {bs = bs} h) (unpack bytes) t (whole_bytes_lem bytes)) in
    let l = leb-true 16 (length (bs ++ unpack bytes)) (rw (waiting_idle Header bs) at e) in
    omega (arith, fits_header f)
finished_goes {Y} (Fits.running {w} {bs} v h a) some bytes t e q =
    let f : Fits Y (Reading.running w (bs ++ unpack bytes)) = subst (Fits Y) q
    (feed_fits (Fits.running {bs = bs} v h a) (unpack bytes) t (whole_bytes_lem bytes)) in
    let g : is_whole (take_symbol (bs ++ unpack bytes)) ≡ false = rw (begins_short (bs ++ unpack bytes) (fits_running f)) in
    let k : is_whole (take_symbol (bs ++ unpack bytes)) ≡ true = rw (waiting_held Running w bs) at e in
    let z : ◌≡◌ {A = ℕ} 0 1 = cc in
    omega arith
finished_goes (Fits.complete {w} v h o c) some bytes t e q = some (fetch_none _ (inl refl))
finished_goes (Fits.refused {nr} {p} h) some bytes t e q = some (fetch_none _ (inr (inr (nr, p, refl))))

-- enough bytes are left where reading them as well comes to complete, and none where nothing waits
enough_left : {Y : Layout} {r : Reading} → Fits Y r → (ys t : List ℕ) (w : Walk) → feed Y r (unpack ys) t ≡ Reading.complete w
    → (wants r ≤ length ys) × (wants r ≡ 0 → ys ≡ [])
unfolding feed wants whole_bytes after_end spoiled
enough_left (Fits.header {bs} h) ys t w e = (bound (leb 16 (length (bs ++ unpack ys))) refl, λ z. absurd (omega (arith, header_wants bs h)))
  where
    bound : (b : Bool) → leb 16 (length (bs ++ unpack ys)) ≡ b → whole_bytes (16 - length bs) ≤ length ys
    bound true q = unfold whole_bytes in omega (arith, leb-true 16 (length (bs ++ unpack ys)) q, length-append bs (unpack ys), length_unpack ys)
    bound false q = not_header {bs = bs ++ unpack ys} {w = w} (unfold reading_of read_header in rw q at e)
enough_left (Fits.running {w = w1} {bs} v h a) ys t w e =
    (bound (dec_lt (length ys) (whole_bytes (more_bits (take_symbol bs)))), λ z. absurd (omega (arith, symbol_wants bs a.begun)))
  where
    bound : Dec (length ys < whole_bytes (more_bits (take_symbol bs))) → whole_bytes (more_bits (take_symbol bs)) ≤ length ys
    bound (no n) = omega arith
    bound (yes l) =
        let f = fewer_bits bs (unpack ys) (unfold whole_bytes in omega (arith, length_unpack ys)) in
        not_running (sym (stays_running w1 bs (unpack ys) a f) ∙ e)
enough_left (Fits.complete v h o c) [] t w e = (omega arith, λ z. refl)
enough_left (Fits.complete {w = w1} v h o c) (y ∷ ys) t w e = unfold unpack bits_of in
    after (bits_of 8 y ++ unpack ys) (simp length-append (omega (arith, length_bits 8 y))) e
  where
    after : (bits : List Bool) → 1 ≤ length bits → after_end w1 bits ≡ Reading.complete w → (0 ≤ length (y ∷ ys)) × (◌≡◌ {A = ℕ} 0 0 → y ∷ ys ≡ [])
    after [] l e = absurd (omega arith)
    after (b ∷ bits) l e = not_refused e
enough_left (Fits.refused h) ys t w e = not_refused e

-- of an accepted stream at least as many bytes are left as are to be fetched, wherever it is cut; and where there are none to fetch, none is left
pub never_past : (Y : Layout) (xs ys t : List ℕ) → (read_answer Y (xs ++ ys) t).number ≡ 0
    → (fetch_of (record_for Y xs t) ≤ length ys) × (fetch_of (record_for Y xs t) ≡ 0 → ys ≡ [])
unfolding read_answer read_whole record_for
never_past Y xs ys t e =
    let r = reading_of Y (unpack xs) t in
    let (w, q) = accepted (reading_fits Y (xs ++ ys) t) t e in
    let m : feed Y r (unpack ys) (tables_of r t) ≡ Reading.complete w =
    reading_more Y (unpack xs) (unpack ys) t (whole_bytes_lem ys) ∙ (ap (λ (bits : List Bool). reading_of Y bits t) (sym (unpack_append xs ys)) ∙ q) in
    rw (fetch_store r) (enough_left (reading_fits Y xs t) ys (tables_of r t) w m)

-- a client that asks each time for as many bytes as the answer before said, from what a page has left and the bytes that are left, up to what its last page
-- leaves: every page has as many bytes as it asked for, and it stops at 0 to fetch, when no byte is left
pub data Client (Y : Layout) : PageLeft → List ℕ → PageLeft → Type 0 where
  stops : {x : PageLeft} → x.answer.fetch ≡ 0 → Client Y x [] x
  asks : {x z : PageLeft} (p rest : List ℕ) → 1 ≤ x.answer.fetch → length p ≡ x.answer.fetch → Client Y (page_call Y x.session p x.tables) rest z
      → Client Y x (p ++ rest) z

-- one page of it, where some bytes are to be fetched
client_asks : (Y : Layout) (xs ys t : List ℕ) → 1 ≤ fetch_of (record_for Y xs t) → fetch_of (record_for Y xs t) ≤ length ys
    → (let f = fetch_of (record_for Y xs t) in Client Y (sofar Y (xs ++ take f ys) t) (drop f ys) (sofar Y ((xs ++ take f ys) ++ drop f ys) t))
    → Client Y (sofar Y xs t) ys (sofar Y (xs ++ ys) t)
client_asks Y xs ys t some l c =
    let f = fetch_of (record_for Y xs t) in
    let j : take f ys ++ drop f ys ≡ ys = take-append-drop f ys in
    let a : (xs ++ take f ys) ++ drop f ys ≡ xs ++ ys = append_assoc xs (take f ys) (drop f ys) ∙ ap (λ (u : List ℕ). xs ++ u) j in
    let d : Client Y (sofar Y (xs ++ take f ys) t) (drop f ys) (sofar Y (xs ++ ys) t) =
    subst (λ (u : List ℕ). Client Y (sofar Y (xs ++ take f ys) t) (drop f ys) (sofar Y u t)) a c in
    let e : Client Y (page_call Y (record_for Y xs t) (take f ys) (tables_for Y xs t)) (drop f ys) (sofar Y (xs ++ ys) t) =
    subst (λ (x : PageLeft). Client Y x (drop f ys) (sofar Y (xs ++ ys) t)) (sym (call_reads Y xs (take f ys) t)) d in
    subst (λ (u : List ℕ). Client Y (sofar Y xs t) u (sofar Y (xs ++ ys) t)) j (Client.asks (take f ys) (drop f ys) some (length-take-le f ys l) e)

-- its end
client_stops : (Y : Layout) (xs ys t : List ℕ) → fetch_of (record_for Y xs t) ≡ 0 → ys ≡ [] → Client Y (sofar Y xs t) ys (sofar Y (xs ++ ys) t)
client_stops Y xs ys t z n = rw (n, append-nil) (Client.stops z)

-- with at most as many pages to come as bytes
client_from : (Y : Layout) (k : ℕ) (xs ys t : List ℕ) → length ys ≤ k → (read_answer Y (xs ++ ys) t).number ≡ 0
    → Client Y (sofar Y xs t) ys (sofar Y (xs ++ ys) t)
client_from Y zero xs ys t h e =
    let (l, n) = never_past Y xs ys t e in
    let z : fetch_of (record_for Y xs t) ≡ 0 = omega arith in
    client_stops Y xs ys t z (n z)
client_from Y (suc k) xs ys t h e =
    go (ℕ_discrete (fetch_of (record_for Y xs t)) 0)
    (λ l q. client_from Y k (xs ++ take (fetch_of (record_for Y xs t)) ys) (drop (fetch_of (record_for Y xs t)) ys) t l q)
  where
    f : ℕ
    f = fetch_of (record_for Y xs t)

    all : (xs ++ take f ys) ++ drop f ys ≡ xs ++ ys
    all = append_assoc xs (take f ys) (drop f ys) ∙ ap (λ (u : List ℕ). xs ++ u) (take-append-drop f ys)

    go : Dec (fetch_of (record_for Y xs t) ≡ 0)
        → (length (drop (fetch_of (record_for Y xs t)) ys) ≤ k
        → (read_answer Y ((xs ++ take (fetch_of (record_for Y xs t)) ys) ++ drop (fetch_of (record_for Y xs t)) ys) t).number ≡ 0
        → Client Y (sofar Y (xs ++ take (fetch_of (record_for Y xs t)) ys) t) (drop (fetch_of (record_for Y xs t)) ys)
        (sofar Y ((xs ++ take (fetch_of (record_for Y xs t)) ys) ++ drop (fetch_of (record_for Y xs t)) ys) t))
        → Client Y (sofar Y xs t) ys (sofar Y (xs ++ ys) t)
    go (yes z) rec = client_stops Y xs ys t z ((never_past Y xs ys t e).1 z)
    go (no z) rec =
        let n = length-drop (fetch_of (record_for Y xs t)) ys in
        client_asks Y xs ys t (omega arith) (never_past Y xs ys t e).0 (rec (omega arith) (ap (λ (u : List ℕ). (read_answer Y u t).number) all ∙ e))

-- from open it reads every accepted stream to its end and never asks past it
pub client_reads : (Y : Layout) (bytes t : List ℕ) → (read_answer Y bytes t).number ≡ 0 → Client Y (opening t) bytes (sofar Y bytes t)
client_reads Y bytes t e = rw (opening_sofar Y t) (client_from Y (length bytes) [] bytes t (omega arith) e)

-- a page of no bytes tells the number of a new session
pub opening_page : (Y : Layout) (t : List ℕ) → page_call Y opened [] t ≡ opening t
opening_page Y t = ap (λ (x : PageLeft). page_call Y x.session [] x.tables) (opening_sofar Y t) ∙ (call_reads Y [] [] t ∙ sym (opening_sofar Y t))

-- of the stream of a valid map within the limits with the bodies of its form, with room for its tables
module _ {Y : Layout} {bytes t : List ℕ} (S : Streamed Y bytes t) where
  streamed_accepted : (read_answer Y bytes t).number ≡ 0
  streamed_accepted =
      rw (← S.has) (ap (λ (a : ReadAnswer). a.number)
      (complete S.form Y S.dim S.darts S.map S.root t S.limits S.valid S.bodies).answer)

  pub map_left : (xs ys : List ℕ) → xs ++ ys ≡ bytes → fetch_of (record_for Y xs t) ≤ length ys
  map_left xs ys e = (never_past Y xs ys t (rw e streamed_accepted)).0

  pub map_client : Client Y (opening t) bytes (sofar Y bytes t)
  map_client = client_reads Y bytes t streamed_accepted
