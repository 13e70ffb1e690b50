-- One answer, for the surface: from two numbers returned and two states of the rooms that meet the contract of a call for C, equality. Rests on the rules'
-- Unique.
use Prim.Native.Nat.{ℕ}
use mathlib.Core.Path.{◌≡◌, ap, sym, ◌∙◌}
use mathlib.Core.List.{List}
use lib.ListN.{get_or}
use Rattle.rules.specs.declared.Form.{Form}
use Rattle.rules.specs.Map.{by_dart}
use Rattle.rules.specs.Check.{check_answer, check_work}
use Rattle.rules.specs.Reading.{read_answer, read_tables}
use Rattle.rules.specs.Report.{report_answer, report_work}
use Rattle.shapes.specs.Faces.{faces_answer, faces_tables, faces_work}
use Rattle.rules.specs.Session.{opened}
use Rattle.rules.specs.Writing.{write_answer, write_out, write_work}
use Rattle.rules.proofs.Unique.{one_value}
use Rattle.stored.specs.Answers.{check_numbers, write_numbers, read_numbers, report_numbers}
use Rattle.stored.specs.Layout.{stored_session}
use Rattle.exchange.specs.Rooms.{Lent, lent, page_lent, close_lent, faces_numbers}

-- of `kz_check` and `kz_check_bodies`, each in its form
pub one_kz_check : (F : Form) (N n root : ℕ) (t work : List ℕ) (r r' : ℕ) (a a' u u' : List ℕ)
    → (r ≡ (check_answer F by_dart N n root t work).number) × (a ≡ check_numbers (check_answer F by_dart N n root t work))
    × (u ≡ check_work F by_dart N n root t work)
    → (r' ≡ (check_answer F by_dart N n root t work).number) × (a' ≡ check_numbers (check_answer F by_dart N n root t work))
    × (u' ≡ check_work F by_dart N n root t work)
    → (r ≡ r') × (a ≡ a') × (u ≡ u')
one_kz_check F N n root t work r r' a a' u u' (p, q, s) (p', q', s') = (one_value _ _ _ p p', one_value _ _ _ q q', one_value _ _ _ s s')

-- of `kz_write` and `kz_write_bodies`
pub one_kz_write : (F : Form) (N n root start : ℕ) (t work out : List ℕ) (r r' : ℕ) (a a' u u' o o' : List ℕ)
    → (r ≡ (write_answer F by_dart N n root start t work out).number) × (a ≡ write_numbers (write_answer F by_dart N n root start t work out))
    × (u ≡ write_work F by_dart N n root t work) × (o ≡ write_out F by_dart N n root start t work out)
    → (r' ≡ (write_answer F by_dart N n root start t work out).number) × (a' ≡ write_numbers (write_answer F by_dart N n root start t work out))
    × (u' ≡ write_work F by_dart N n root t work) × (o' ≡ write_out F by_dart N n root start t work out)
    → (r ≡ r') × (a ≡ a') × (u ≡ u') × (o ≡ o')
one_kz_write F N n root start t work out r r' a a' u u' o o' (p, q, s, z) (p', q', s', z') =
    (one_value _ _ _ p p', one_value _ _ _ q q', one_value _ _ _ s s', one_value _ _ _ z z')

pub one_kz_read : (bytes t : List ℕ) (r r' : ℕ) (a a' u u' : List ℕ)
    → (r ≡ (read_answer by_dart bytes t).number) × (a ≡ read_numbers (read_answer by_dart bytes t)) × (u ≡ read_tables by_dart bytes t)
    → (r' ≡ (read_answer by_dart bytes t).number) × (a' ≡ read_numbers (read_answer by_dart bytes t)) × (u' ≡ read_tables by_dart bytes t)
    → (r ≡ r') × (a ≡ a') × (u ≡ u')
one_kz_read bytes t r r' a a' u u' (p, q, s) (p', q', s') = (one_value _ _ _ p p', one_value _ _ _ q q', one_value _ _ _ s s')

-- of `kz_report` and `kz_report_bodies`
pub one_kz_report : (F : Form) (N n : ℕ) (t work : List ℕ) (r r' : ℕ) (a a' u u' : List ℕ)
    → (r ≡ (report_answer F by_dart N n t work).number) × (a ≡ report_numbers (report_answer F by_dart N n t work)) × (u ≡ report_work F by_dart N n t work)
    → (r' ≡ (report_answer F by_dart N n t work).number) × (a' ≡ report_numbers (report_answer F by_dart N n t work)) × (u' ≡ report_work F by_dart N n t work)
    → (r ≡ r') × (a ≡ a') × (u ≡ u')
one_kz_report F N n t work r r' a a' u u' (p, q, s) (p', q', s') = (one_value _ _ _ p p', one_value _ _ _ q q', one_value _ _ _ s s')

pub one_kz_faces : (text t work : List ℕ) (r r' : ℕ) (a a' u u' w w' : List ℕ)
    → (r ≡ (faces_answer by_dart text t work).number) × (a ≡ faces_numbers (faces_answer by_dart text t work)) × (u ≡ faces_tables by_dart text t work)
    × (w ≡ faces_work by_dart text t work)
    → (r' ≡ (faces_answer by_dart text t work).number) × (a' ≡ faces_numbers (faces_answer by_dart text t work)) × (u' ≡ faces_tables by_dart text t work)
    × (w' ≡ faces_work by_dart text t work)
    → (r ≡ r') × (a ≡ a') × (u ≡ u') × (w ≡ w')
one_kz_faces text t work r r' a a' u u' w w' (p, q, s, z) (p', q', s', z') =
    (one_value _ _ _ p p', one_value _ _ _ q q', one_value _ _ _ s s', one_value _ _ _ z z')

pub one_kz_open : (k k' : List ℕ) → k ≡ stored_session opened → k' ≡ stored_session opened → k ≡ k'
one_kz_open k k' p q = one_value k k' (stored_session opened) p q

-- the rooms of a session's call, whichever it is, and the number that it returns
one_lent : (z : Lent) (r r' : ℕ) (k k' a a' t t' : List ℕ) → (lent k a t ≡ z) × (r ≡ get_or a 0 0) → (lent k' a' t' ≡ z) × (r' ≡ get_or a' 0 0)
    → (r ≡ r') × (k ≡ k') × (a ≡ a') × (t ≡ t')
one_lent z r r' k k' a a' t t' (p, q) (p', q') =
    let e : lent k a t ≡ lent k' a' t' = one_value _ _ z p p' in
    let d : a ≡ a' = ap (λ (x : Lent). x.answer) e in
    (q ∙ (ap (λ (l : List ℕ). get_or l 0 0) d ∙ sym q'), ap (λ (x : Lent). x.numbers) e, d, ap (λ (x : Lent). x.tables) e)

pub one_kz_page : (kept bytes tables : List ℕ) (r r' : ℕ) (k k' a a' t t' : List ℕ) → (lent k a t ≡ page_lent kept bytes tables) × (r ≡ get_or a 0 0)
    → (lent k' a' t' ≡ page_lent kept bytes tables) × (r' ≡ get_or a' 0 0) → (r ≡ r') × (k ≡ k') × (a ≡ a') × (t ≡ t')
one_kz_page kept bytes tables r r' k k' a a' t t' x y = one_lent (page_lent kept bytes tables) r r' k k' a a' t t' x y

pub one_kz_close : (kept tables : List ℕ) (r r' : ℕ) (k k' a a' t t' : List ℕ) → (lent k a t ≡ close_lent kept tables) × (r ≡ get_or a 0 0)
    → (lent k' a' t' ≡ close_lent kept tables) × (r' ≡ get_or a' 0 0) → (r ≡ r') × (k ≡ k') × (a ≡ a') × (t ≡ t')
one_kz_close kept tables r r' k k' a a' t t' x y = one_lent (close_lent kept tables) r r' k k' a a' t t' x y
