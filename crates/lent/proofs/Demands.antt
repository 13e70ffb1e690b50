-- Demand 3 over a lent record: what calls leave that meet the contracts of `lent::page` and `lent::close`. Each is such a call by value, so the reader's
-- Demands say it.
use Prim.Native.Nat.{ℕ, ◌≤◌}
use mathlib.Core.Path.{◌≡◌}
use mathlib.Core.List.{List, [], ◌∷◌, ◌++◌}
use lib.ListN.{length}
use Rattle.rules.specs.Map.{by_dart}
use Rattle.rules.specs.declared.Session.{Session}
use Rattle.rules.specs.declared.PageAnswer.{PageAnswer}
use Rattle.rules.specs.declared.ReadAnswer.{ReadAnswer}
use Rattle.rules.specs.Stream.{unpack}
use Rattle.rules.specs.Reading.{reading_of, answer_of, read_answer, read_tables}
use Rattle.rules.specs.Session.{close, record_for, tables_for}
use Rattle.rules.specs.Fetch.{fetch_of, PageLeft, page_call}
use Rattle.rules.proofs.Sessions.{whole}
use Rattle.rules.proofs.Fetch.{opening}
use Rattle.records.specs.Lefts.{left_by}
use Rattle.reader.proofs.Demands.{Fed, fed_record, fed_left, fed_read}
use Rattle.lent.specs.Lent.{lent_by, page_lent_by}

-- pages given in order to one lent record, with the tables as each call has left them, each call meeting the contract of `page`
pub data LentPages : List (List ℕ) → PageLeft → PageLeft → Type 0 where
  none : {x : PageLeft} → LentPages [] x x
  more : {p : List ℕ} {ps : List (List ℕ)} {x z : PageLeft} (s : Session) (a : PageAnswer) (u : List ℕ)
      → page_lent_by s a u ≡ page_call by_dart x.session p x.tables → LentPages ps (page_lent_by s a u) z → LentPages (p ∷ ps) x z

-- they are pages by value
fed : {ps : List (List ℕ)} {x z : PageLeft} → LentPages ps x z → Fed ps x z
fed LentPages.none = Fed.none
fed (LentPages.more s a u e f) = Fed.more (record { session = s; answer = a }) u e (fed f)

-- after each page the lent record is the one for the bytes so far, and so are the answer with the bytes to fetch and the tables
pub lent_record : (ps : List (List ℕ)) (t : List ℕ) (z : PageLeft) → LentPages ps (opening t) z → z ≡ record {
  session = record_for by_dart (whole ps) t;
  answer = record { reading = answer_of (reading_of by_dart (unpack (whole ps)) t); fetch = fetch_of (record_for by_dart (whole ps) t) };
  tables = tables_for by_dart (whole ps) t;
}
lent_record ps t z f = fed_record ps t z (fed f)

-- and of an accepted stream at least as many bytes are left as the last answer says are to be fetched, and none where it says none
pub lent_left : (ps : List (List ℕ)) (rest t : List ℕ) (z : PageLeft) → LentPages ps (opening t) z → (read_answer by_dart (whole ps ++ rest) t).number ≡ 0
    → (z.answer.fetch ≤ length rest) × (z.answer.fetch ≡ 0 → rest ≡ [])
lent_left ps rest t z f e = fed_left ps rest t z (fed f) e

-- pages from open, then one call that meets the contract of `close`: answer and tables of one call that meets the contract of `read`
pub lent_read : (ps : List (List ℕ)) (t : List ℕ) (z : PageLeft) → LentPages ps (opening t) z → (s : Session) (c : ReadAnswer) (v : List ℕ)
    → lent_by s c v ≡ close by_dart z.session z.tables
    → (a : ReadAnswer) (u : List ℕ) → (a ≡ read_answer by_dart (whole ps) t) × (u ≡ read_tables by_dart (whole ps) t) → (c ≡ a) × (v ≡ u)
unfolding left_by
lent_read ps t z f s c v e a u h = fed_read ps t z (fed f) (record { session = s; answer = c }) v e a u h
