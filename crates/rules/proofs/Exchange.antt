-- Document 02, E10: "For every N and n, show that the new tables are the old with places exchanged, and that streams, answers and reports agree but for the
-- places of 6 and 7. These keep their test order, rank then dart; the place is the new position." Of any two layouts Y and Z: from Y = by_rank, the old tables,
-- to Z = by_dart, the new ones, and back. Rests on Layouts, Casts, Follows, Past and Fetch.
use Prim.Native.Nat.{ℕ, ◌+◌, ◌-◌, ◌≤◌, ◌<◌}
use mathlib.Core.Path.{◌≡◌, refl, ap, sym, ◌∙◌}
use mathlib.Core.Bool.{Bool, true, false}
use mathlib.Core.List.{List, []}
use native.Mathlib.Omega.{arith}
use native.Mathlib.Decide.{dec_le}
use lib.ListN.{length, get_or, drop, length-drop}
use lib.Seq.{ext_get_or, get_or-drop}
use lib.Dec.{ltb}
use borrow.Author.Tests.{lt-ltb}
use Rattle.rules.specs.declared.Session.{Session}
use Rattle.rules.specs.declared.Form.{Form}
use Rattle.rules.specs.Map.{Layout, mark, dim_fits, darts_fit, size, place, Valid}
use Rattle.rules.specs.Refusals.{among}
use Rattle.rules.specs.Check.{Verdict, refuse_if, verdict, check_answer, check_work}
use Rattle.rules.specs.Writing.{stream, page_of, write_answer, write_out, write_work}
use Rattle.rules.specs.Stream.{unpack}
use Rattle.rules.specs.Reading.{reading_of, answer_of, tables_of, read_answer, read_tables}
use Rattle.rules.specs.Session.{store, fit, Left, leaves, close, record_for, tables_for}
use Rattle.rules.specs.Fetch.{fetch_of, PageLeft, fetching, page_call}
use Rattle.rules.specs.Report.{report_answer, report_work}
use Rattle.rules.specs.Exchange.{refusal_place, exchanged, moved_verdict, moved_check, moved_write, moved_report}
use Rattle.rules.proofs.Places.{place_below}
use Rattle.rules.proofs.Renamed.{SameMap, same_links}
use Rattle.rules.proofs.Layouts.{moved_place_lem, length_exchanged, entry_exchanged, past_exchanged, link_exchanged, exchanged_back}
use Rattle.rules.proofs.Casts.{exchange_casts, stream_links}
use Rattle.rules.proofs.Past.{refused_check, refused_write, refused_report, check_links, write_links, report_links, header_sizes, CastsFor}
use Rattle.rules.proofs.Past.{reading_cast, left_cast, reading_carried, leaves_carried, read_carried, sizes, fit_carried, page_carried, close_carried}
use Rattle.rules.proofs.Sessions.{whole}
use Rattle.rules.proofs.Fetch.{pages, opening, sofar, pages_are, pages_read}

-- The new tables are the old with places exchanged.
module _ (Y Z : Layout) (N n : ℕ) (t : List ℕ) (room : size N n ≤ length t) where
  -- what stood at a link's old place stands at its new place
  pub at_its_place : (i d : ℕ) → i ≤ N → d < n → get_or (exchanged Y Z N n t) (place Z N n i d) mark ≡ get_or t (place Y N n i d) mark
  at_its_place i d hi hd =
      entry_exchanged Y Z N n t (place Z N n i d) (omega (arith, place_below Z N n i d hi hd))
      ∙ ap (λ (q : ℕ). get_or t q mark) (moved_place_lem Z Y N n i d hi hd)

  -- past entries are as they were, and there are as many
  pub past_as_it_was : drop (size N n) (exchanged Y Z N n t) ≡ drop (size N n) t
  past_as_it_was = ext_get_or mark (drop k u) (drop k t) (lu ∙ sym (length-drop k t)) (λ p h. entry p (omega (arith, lu)))
    where
      k : ℕ
      k = size N n

      u : List ℕ
      u = exchanged Y Z N n t

      lu : length (drop k u) ≡ length t - k
      lu = length-drop k u ∙ ap (λ (l : ℕ). l - k) (length_exchanged Y Z N n t)

      entry : (p : ℕ) → p < length t - k → get_or (drop k u) p mark ≡ get_or (drop k t) p mark
      entry p h = get_or-drop k u p mark ∙ (past_exchanged Y Z N n t (k + p) (omega arith) (omega arith) ∙ sym (get_or-drop k t p mark))

  -- the way back undoes it
  pub back_again : exchanged Z Y N n (exchanged Y Z N n t) ≡ t
  back_again = exchanged_back Y Z N n t room

  -- so both hold one map, each in its layout
  pub one_map : SameMap Y Z N n t (exchanged Y Z N n t)
  one_map = record {
    links = same_links (λ i d hi hd. sym (link_exchanged Y Z N n t room i d hi));
    room = room;
    room' = rw (length_exchanged Y Z N n t) room;
  }

-- The check, the writer and the report: equal answers but for the places of 6 and 7, which are the same link's two positions; equal work room and output. Of
-- tables of any length.
module _ (F : Form) (Y Z : Layout) (N n : ℕ) (t work : List ℕ) where
  -- tables that are too short are refused alike
  short : length t < size N n → (root : ℕ)
      → (nr : ℕ) × (p : ℕ) × (verdict F Y N n root t (length work) ≡ Verdict.refused nr p)
      × (verdict F Z N n root (exchanged Y Z N n t) (length work) ≡ moved_verdict Y Z N n (Verdict.refused nr p))
  unfolding verdict refuse_if moved_verdict refusal_place among
  short h root = go (dim_fits N) (darts_fit n) refl refl
    where
      u : List ℕ
      u = exchanged Y Z N n t

      l : ltb (length t) (size N n) ≡ true
      l = lt-ltb (length t) (size N n) h

      l' : ltb (length u) (size N n) ≡ true
      l' = rw (length_exchanged Y Z N n t) l

      go : (a b : Bool) → dim_fits N ≡ a → darts_fit n ≡ b
          → (nr : ℕ) × (p : ℕ) × (verdict F Y N n root t (length work) ≡ Verdict.refused nr p)
          × (verdict F Z N n root u (length work) ≡ moved_verdict Y Z N n (Verdict.refused nr p))
      go false b p q = (1, 0, rw p, rw p)
      go true false p q = (2, 0, rw (p, q), rw (p, q))
      go true true p q = (3, 0, rw (p, q, l), rw (p, q, l'))

  pub check_agrees : (root : ℕ)
      → (check_answer F Z N n root (exchanged Y Z N n t) work ≡ moved_check Y Z N n (check_answer F Y N n root t work))
      × (check_work F Z N n root (exchanged Y Z N n t) work ≡ check_work F Y N n root t work)
  check_agrees root = go (dec_le (size N n) (length t))
    where
      go : Dec (size N n ≤ length t)
          → (check_answer F Z N n root (exchanged Y Z N n t) work ≡ moved_check Y Z N n (check_answer F Y N n root t work))
          × (check_work F Z N n root (exchanged Y Z N n t) work ≡ check_work F Y N n root t work)
      go (yes h) = check_links (one_map Y Z N n t h) F root work
      go (no h) = let (nr, p, e, q) = short (omega arith) root in refused_check F Y Z N n root t (exchanged Y Z N n t) work nr p e q

  pub write_agrees : (root start : ℕ) (out : List ℕ)
      → (write_answer F Z N n root start (exchanged Y Z N n t) work out ≡ moved_write Y Z N n (write_answer F Y N n root start t work out))
      × (write_work F Z N n root (exchanged Y Z N n t) work ≡ write_work F Y N n root t work)
      × (write_out F Z N n root start (exchanged Y Z N n t) work out ≡ write_out F Y N n root start t work out)
  unfolding write_work
  write_agrees root start out = go (dec_le (size N n) (length t))
    where
      go : Dec (size N n ≤ length t)
          → (write_answer F Z N n root start (exchanged Y Z N n t) work out ≡ moved_write Y Z N n (write_answer F Y N n root start t work out))
          × (check_work F Z N n root (exchanged Y Z N n t) work ≡ check_work F Y N n root t work)
          × (write_out F Z N n root start (exchanged Y Z N n t) work out ≡ write_out F Y N n root start t work out)
      go (yes h) = unfold write_work in write_links (one_map Y Z N n t h) F root start work out
      go (no h) =
          let (nr, p, e, q) = short (omega arith) root in
          let (a, o) = refused_write F Y Z N n root t (exchanged Y Z N n t) work nr p e q start out in
          (a, (check_agrees root).1, o)

  pub report_agrees : (report_answer F Z N n (exchanged Y Z N n t) work ≡ moved_report Y Z N n (report_answer F Y N n t work))
      × (report_work F Z N n (exchanged Y Z N n t) work ≡ report_work F Y N n t work)
  report_agrees = go (dec_le (size N n) (length t))
    where
      go : Dec (size N n ≤ length t)
          → (report_answer F Z N n (exchanged Y Z N n t) work ≡ moved_report Y Z N n (report_answer F Y N n t work))
          × (report_work F Z N n (exchanged Y Z N n t) work ≡ report_work F Y N n t work)
      go (yes h) = report_links (one_map Y Z N n t h) F work
      go (no h) = let (nr, p, e, q) = short (omega arith) 0 in refused_report F Y Z N n t (exchanged Y Z N n t) work nr p e q

-- the stream from each root, and every page of it
pub stream_agrees : (F : Form) (Y Z : Layout) (N n : ℕ) (t : List ℕ) → size N n ≤ length t → N ≤ 6 → n ≤ 4096 → Valid Y N n t → (root : ℕ) → root < n
    → (stream F Z N n (exchanged Y Z N n t) root ≡ stream F Y N n t root)
    × ((start room : ℕ) → page_of (stream F Z N n (exchanged Y Z N n t) root) start room ≡ page_of (stream F Y N n t root) start room)
stream_agrees F Y Z N n t h h6 hn A root hr = (same, λ start room. ap (λ (l : List ℕ). page_of l start room) same)
  where
    same : stream F Z N n (exchanged Y Z N n t) root ≡ stream F Y N n t root
    same = stream_links F (one_map Y Z N n t h).links h6 hn hr A

-- Reading: the tables are exchanged for the map whose entries the call may touch; where there is none, no entry is.

for_sizes : (Y Z : Layout) (t : List ℕ) (z : ℕ × ℕ) → CastsFor Y Z (exchanged Y Z z.0 z.1) t z
for_sizes Y Z t z = record {
  casts = exchange_casts Y Z z.0 z.1;
  long = rw (length_exchanged Y Z z.0 z.1 t);
}

module _ (Y Z : Layout) where
  -- a whole read of any bytes: equal answers, the tables left exchanged
  pub read_agrees : (bytes t : List ℕ)
      → let (N, n) = header_sizes (unpack bytes) in
      (read_answer Z bytes (exchanged Y Z N n t) ≡ read_answer Y bytes t)
      × (read_tables Z bytes (exchanged Y Z N n t) ≡ exchanged Y Z N n (read_tables Y bytes t))
  unfolding read_answer read_tables leaves left_cast
  read_agrees bytes t =
      let e = read_carried bytes t (for_sizes Y Z t (header_sizes (unpack bytes))) in
      (ap (λ (l : Left). l.answer) e, ap (λ (l : Left). l.tables) e)

  module _ (s : Session) (seven : length s.positions ≡ 7) where
    -- is it fit?
    pub fit_agrees : (t : List ℕ) → let (N, n) = sizes s [] in fit Z s (exchanged Y Z N n t) ≡ fit Y s t
    fit_agrees t = fit_carried s seven [] t (for_sizes Y Z t (sizes s []))

    -- a page, on any session: equal records and answers, the tables exchanged
    pub page_agrees : (bytes t : List ℕ)
        → let (N, n) = sizes s (unpack bytes) in
        let u = exchanged Y Z N n t in
        ((page_call Z s bytes u).session ≡ (page_call Y s bytes t).session) × ((page_call Z s bytes u).answer ≡ (page_call Y s bytes t).answer)
        × ((page_call Z s bytes u).tables ≡ exchanged Y Z N n (page_call Y s bytes t).tables)
    unfolding page_call fetching left_cast
    page_agrees bytes t =
        let C = for_sizes Y Z t (sizes s (unpack bytes)) in
        let e = page_carried s bytes t seven C in
        let f = fit_carried s seven (unpack bytes) t C in
        (ap (λ (l : Left). l.session) e, rw (f, e), ap (λ (l : Left). l.tables) e)

    -- its closing
    pub close_agrees : (t : List ℕ)
        → let (N, n) = sizes s [] in
        let u = exchanged Y Z N n t in
        ((close Z s u).session ≡ (close Y s t).session) × ((close Z s u).answer ≡ (close Y s t).answer)
        × ((close Z s u).tables ≡ exchanged Y Z N n (close Y s t).tables)
    unfolding left_cast
    close_agrees t =
        let e = close_carried s t seven (for_sizes Y Z t (sizes s [])) in
        (ap (λ (l : Left). l.session) e, ap (λ (l : Left). l.answer) e, ap (λ (l : Left). l.tables) e)

  -- a new session after any pages, and its closing: equal records and answers, the tables exchanged
  pub session_agrees : (ps : List (List ℕ)) (t : List ℕ)
      → let (N, n) = header_sizes (unpack (whole ps)) in
      let a = pages Y (opening t) ps in
      let b = pages Z (opening (exchanged Y Z N n t)) ps in
      (b.session ≡ a.session) × (b.answer ≡ a.answer) × (b.tables ≡ exchanged Y Z N n a.tables)
      × ((close Z b.session b.tables).answer ≡ (close Y a.session a.tables).answer)
      × ((close Z b.session b.tables).tables ≡ exchanged Y Z N n (close Y a.session a.tables).tables)
  unfolding record_for tables_for leaves left_cast
  session_agrees ps t =
      let z = header_sizes (unpack (whole ps)) in
      let u = exchanged Y Z z.0 z.1 t in
      let (r, s) = read_agrees (whole ps) t in
      let (p, q) = pages_read Y ps t in
      let (p', q') = pages_read Z ps u in
      let (a, b, c) = sofar_agrees in
      let y = pages_are Y ps t in
      let y' = pages_are Z ps u in (
        ap (λ (x : PageLeft). x.session) y' ∙ (a ∙ sym (ap (λ (x : PageLeft). x.session) y)),
        ap (λ (x : PageLeft). x.answer) y' ∙ (b ∙ sym (ap (λ (x : PageLeft). x.answer) y)),
        ap (λ (x : PageLeft). x.tables) y' ∙ (c ∙ sym (ap (λ (x : PageLeft). exchanged Y Z z.0 z.1 x.tables) y)),
        p' ∙ (r ∙ sym p),
        q' ∙ (s ∙ sym (ap (exchanged Y Z z.0 z.1) q)),
      )
    where
      bytes : List ℕ
      bytes = whole ps

      N : ℕ
      N = (header_sizes (unpack bytes)).0

      n : ℕ
      n = (header_sizes (unpack bytes)).1

      sofar_agrees : ((sofar Z bytes (exchanged Y Z N n t)).session ≡ (sofar Y bytes t).session)
          × ((sofar Z bytes (exchanged Y Z N n t)).answer ≡ (sofar Y bytes t).answer)
          × ((sofar Z bytes (exchanged Y Z N n t)).tables ≡ exchanged Y Z N n (sofar Y bytes t).tables)
      sofar_agrees =
          let f = exchanged Y Z N n in
          let e = reading_carried (unpack bytes) t (for_sizes Y Z t (header_sizes (unpack bytes))) in
          let g : leaves (reading_cast Z f (reading_of Y (unpack bytes) t)) (f t) ≡ left_cast f (leaves (reading_of Y (unpack bytes) t) t) =
          leaves_carried Z f (reading_of Y (unpack bytes) t) t in
          let st : store (reading_cast Z f (reading_of Y (unpack bytes) t)) ≡ store (reading_of Y (unpack bytes) t) =
          ap (λ (l : Left). l.session) g in
          let an : answer_of (reading_cast Z f (reading_of Y (unpack bytes) t)) ≡ answer_of (reading_of Y (unpack bytes) t) =
          ap (λ (l : Left). l.answer) g in
          let ta : tables_of (reading_cast Z f (reading_of Y (unpack bytes) t)) (f t) ≡ f (tables_of (reading_of Y (unpack bytes) t) t) =
          ap (λ (l : Left). l.tables) g in
          rw e ((st, λ i. record { reading = an i; fetch = fetch_of (st i) }, ta))
