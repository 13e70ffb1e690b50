-- Sessions at the surface: a call on the stored numbers of a session is the call on the session; demand 3 of calls that meet the surface's contracts. Rests on
-- the stored record's Sessions and on the rules' Sessions and Fetch.
use Prim.Native.Nat.{ℕ, ◌≤◌}
use mathlib.Core.Path.{◌≡◌, refl, ap, ◌∙◌}
use mathlib.Core.List.{List, [], ◌∷◌, ◌++◌, append-nil, append_assoc}
use lib.ListN.{length, get_or}
use Rattle.rules.specs.Map.{by_dart}
use Rattle.rules.specs.declared.Session.{Session}
use Rattle.rules.specs.Stream.{value, unpack}
use Rattle.rules.specs.Reading.{reading_of, read_header, answer_of, tables_of, read_whole, read_answer, read_tables}
use Rattle.rules.specs.Session.{idle, store, opened, leaves, close, record_for, tables_for}
use Rattle.rules.specs.Fetch.{fetch_of, page_call}
use Rattle.rules.proofs.Sessions.{whole, close_whole}
use Rattle.rules.proofs.Fetch.{call_reads, never_past}
use Rattle.stored.specs.Answers.{read_numbers, page_numbers}
use Rattle.stored.specs.Layout.{stored_session}
use Rattle.stored.proofs.Sessions.{Narrow, stands_stored, session_back, record_narrow}
use Rattle.exchange.specs.Rooms.{Lent, lent, stored, page_stored, if_standing, called, page_lent, close_lent}

-- a call on the stored numbers of a session is the call on the session
pub called_stored : (s : Session) → Narrow s → (f : Session → Lent) (unfit t : List ℕ) → called f unfit (stored_session s) t ≡ f s
unfolding called if_standing
called_stored s v f unfit t = rw (stands_stored s v, session_back s v) refl

-- the rooms for the bytes so far
unfoldable pub rooms_for : List ℕ → List ℕ → Lent
rooms_for bytes t = lent (stored_session (record_for by_dart bytes t))
    (page_numbers (record { reading = answer_of (reading_of by_dart (unpack bytes) t); fetch = fetch_of (record_for by_dart bytes t) }))
    (tables_for by_dart bytes t)

page_rooms : (xs p t : List ℕ) → page_lent (stored_session (record_for by_dart xs t)) p (tables_for by_dart xs t) ≡ rooms_for (xs ++ p) t
unfolding page_lent rooms_for
page_rooms xs p t =
    called_stored (record_for by_dart xs t) (record_narrow xs t) (λ s. page_stored (page_call by_dart s p (tables_for by_dart xs t))) _
    (tables_for by_dart xs t)
    ∙ (ap page_stored (call_reads by_dart xs p t) ∙ (unfold page_stored in refl))

-- pages given in order, each to the rooms as the call before it has left them, each call meeting the contract of `kz_page`
pub data Given : List (List ℕ) → Lent → Lent → Type 0 where
  none : {x : Lent} → Given [] x x
  more : {p : List ℕ} {ps : List (List ℕ)} {x z : Lent} (y : Lent) → y ≡ page_lent x.numbers p x.tables → Given ps y z → Given (p ∷ ps) x z

-- after pages on the rooms for xs
given_from : (xs t : List ℕ) {ps : List (List ℕ)} {x z : Lent} → x ≡ rooms_for xs t → Given ps x z → z ≡ rooms_for (xs ++ whole ps) t
unfolding whole
given_from xs t e Given.none = rw (append-nil xs) e
given_from xs t e (Given.more {p} {ps} y ey g) =
    let first : y ≡ rooms_for (xs ++ p) t = ey ∙ (ap (λ (u : Lent). page_lent u.numbers p u.tables) e ∙ (unfold rooms_for in page_rooms xs p t)) in
    given_from (xs ++ p) t first g ∙ ap (λ (q : List ℕ). rooms_for q t) (append_assoc xs p (whole ps))

-- a new record is the record for no bytes
opened_record : (t : List ℕ) → record_for by_dart [] t ≡ opened
unfolding record_for reading_of read_header unpack store idle value
opened_record t = refl

opened_tables : (t : List ℕ) → tables_for by_dart [] t ≡ t
unfolding tables_for reading_of read_header unpack tables_of
opened_tables t = refl

opening_page : (p t : List ℕ) → page_lent (stored_session opened) p t ≡ rooms_for p t
opening_page p t = rw (opened_record t, opened_tables t) at (page_rooms [] p t)

-- from a new record, whatever the answer room holds: after each page the rooms are those for the bytes so far
pub given_rooms : (p : List ℕ) (ps : List (List ℕ)) (t a : List ℕ) (z : Lent)
    → Given (p ∷ ps) (lent (stored_session opened) a t) z → z ≡ rooms_for (whole (p ∷ ps)) t
unfolding whole
given_rooms p ps t a z (Given.more y ey g) = given_from p t (ey ∙ opening_page p t) g

-- and of an accepted stream at least as many bytes are left as the answer's sixth number says, and none where it is 0
pub given_left : (p : List ℕ) (ps : List (List ℕ)) (rest t a : List ℕ) (z : Lent)
    → Given (p ∷ ps) (lent (stored_session opened) a t) z → (read_answer by_dart (whole (p ∷ ps) ++ rest) t).number ≡ 0
    → (get_or z.answer 5 0 ≤ length rest) × (get_or z.answer 5 0 ≡ 0 → rest ≡ [])
unfolding rooms_for
given_left p ps rest t a z g e = rw (given_rooms p ps t a z g) (never_past by_dart (whole (p ∷ ps)) rest t e)

-- closing the rooms for some bytes
close_rooms : (bytes t : List ℕ) → close_lent (stored_session (record_for by_dart bytes t)) (tables_for by_dart bytes t)
    ≡ stored (leaves (read_whole by_dart bytes t) t)
unfolding close_lent
close_rooms bytes t =
    called_stored (record_for by_dart bytes t) (record_narrow bytes t) (λ s. stored (close by_dart s (tables_for by_dart bytes t))) _
    (tables_for by_dart bytes t)
    ∙ ap stored (close_whole by_dart bytes t)

read_rooms : (bytes t : List ℕ) (y : Lent) → y ≡ close_lent (stored_session (record_for by_dart bytes t)) (tables_for by_dart bytes t)
    → (y.answer ≡ read_numbers (read_answer by_dart bytes t)) × (y.tables ≡ read_tables by_dart bytes t)
unfolding stored leaves read_answer read_tables
read_rooms bytes t y e = let q = e ∙ close_rooms bytes t in (ap (λ (l : Lent). l.answer) q, ap (λ (l : Lent). l.tables) q)

-- then one call that meets the contract of `kz_close`: answer and tables of one whole read
pub given_read : (ps : List (List ℕ)) (t a : List ℕ) (z y : Lent)
    → Given ps (lent (stored_session opened) a t) z → y ≡ close_lent z.numbers z.tables
    → (y.answer ≡ read_numbers (read_answer by_dart (whole ps) t)) × (y.tables ≡ read_tables by_dart (whole ps) t)
unfolding whole
given_read [] t a z y Given.none e = read_rooms [] t y (rw (opened_record t, opened_tables t) e)
given_read (p ∷ ps) t a z y g e =
    let q = ap (λ (l : Lent). close_lent l.numbers l.tables) (given_rooms p ps t a z g) in
    read_rooms (p ++ whole ps) t y (e ∙ (q ∙ (unfold rooms_for in refl)))
