-- Demand 3 of the code: what calls leave that meet the contracts of `page`, `close` and `read`. Rests on the rules' Fetch alone.
use Prim.Native.Nat.{ℕ, ◌≤◌}
use mathlib.Core.Path.{◌≡◌, refl, ap, sym, ◌∙◌}
use mathlib.Core.List.{List, [], ◌∷◌, ◌++◌}
use lib.ListN.{length}
use Rattle.rules.specs.Map.{by_dart}
use Rattle.rules.specs.declared.ReadAnswer.{ReadAnswer}
use Rattle.rules.specs.declared.PageAnswer.{PageAnswer}
use Rattle.rules.specs.Stream.{unpack}
use Rattle.rules.specs.Reading.{reading_of, answer_of, read_answer, read_tables}
use Rattle.rules.specs.Session.{Left, close, record_for, tables_for}
use Rattle.rules.specs.Fetch.{fetch_of, PageLeft, page_call}
use Rattle.rules.proofs.Sessions.{whole}
use Rattle.rules.proofs.Fetch.{pages, opening, pages_are, pages_read, never_past}
use Rattle.records.specs.declared.Answered.{Answered}
use Rattle.records.specs.Lefts.{left_by}
use Rattle.records.specs.Fetches.{fetched_by}

-- pages given in order, each to what the call before it has left, each call meeting the contract of `page`
pub data Fed : List (List ℕ) → PageLeft → PageLeft → Type 0 where
  none : {x : PageLeft} → Fed [] x x
  more : {p : List ℕ} {ps : List (List ℕ)} {x z : PageLeft} (r : Answered PageAnswer) (u : List ℕ) → fetched_by r u ≡ page_call by_dart x.session p x.tables
      → Fed ps (fetched_by r u) z → Fed (p ∷ ps) x z

fed_pages : {ps : List (List ℕ)} {x z : PageLeft} → Fed ps x z → z ≡ pages by_dart x ps
unfolding pages
fed_pages Fed.none = refl
fed_pages (Fed.more {p} {ps} r u e f) = fed_pages f ∙ ap (λ (y : PageLeft). pages by_dart y ps) e

-- after each page the session, the answer with the bytes to fetch and the tables are those for the bytes so far; the pages up to any of them are such pages
pub fed_record : (ps : List (List ℕ)) (t : List ℕ) (z : PageLeft) → Fed ps (opening t) z → z ≡ record {
  session = record_for by_dart (whole ps) t;
  answer = record { reading = answer_of (reading_of by_dart (unpack (whole ps)) t); fetch = fetch_of (record_for by_dart (whole ps) t) };
  tables = tables_for by_dart (whole ps) t;
}
fed_record ps t z f = fed_pages f ∙ pages_are by_dart ps t

-- and of an accepted stream at least as many bytes are left as the last answer says are to be fetched, and none where it says none
pub fed_left : (ps : List (List ℕ)) (rest t : List ℕ) (z : PageLeft) → Fed ps (opening t) z → (read_answer by_dart (whole ps ++ rest) t).number ≡ 0
    → (z.answer.fetch ≤ length rest) × (z.answer.fetch ≡ 0 → rest ≡ [])
fed_left ps rest t z f e = rw (fed_record ps t z f) (never_past by_dart (whole ps) rest t e)

-- pages from open, then one call that meets the contract of `close`: answer and tables of one call that meets the contract of `read`
pub fed_read : (ps : List (List ℕ)) (t : List ℕ) (z : PageLeft) → Fed ps (opening t) z → (c : Answered ReadAnswer) (v : List ℕ)
    → left_by c v ≡ close by_dart z.session z.tables
    → (a : ReadAnswer) (u : List ℕ) → (a ≡ read_answer by_dart (whole ps) t) × (u ≡ read_tables by_dart (whole ps) t) → (c.answer ≡ a) × (v ≡ u)
unfolding left_by
fed_read ps t z f c v e a u h =
    let g : record { session = c.session; answer = c.answer; tables = v }
    ≡ close by_dart (pages by_dart (opening t) ps).session (pages by_dart (opening t) ps).tables =
    e ∙ ap (λ (y : PageLeft). close by_dart y.session y.tables) (fed_pages f) in
    let w = pages_read by_dart ps t in
    (ap (λ (y : Left). y.answer) g ∙ (w.0 ∙ sym h.0), ap (λ (y : Left). y.tables) g ∙ (w.1 ∙ sym h.1))
