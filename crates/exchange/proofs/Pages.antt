-- Demand 3, the writer's half, of the surface: what calls that meet the contract of `kz_write`, or of `kz_write_bodies`, have written, page
-- after page. Rests on the writer's Demands.
use Prim.Native.Nat.{ℕ, ◌+◌}
use mathlib.Core.Path.{◌≡◌, refl, ap}
use mathlib.Core.List.{List, [], ◌++◌}
use lib.ListN.{length, get_or, take}
use Rattle.rules.specs.declared.Form.{Form}
use Rattle.rules.specs.Map.{by_dart}
use Rattle.rules.specs.Check.{Verdict, verdict}
use Rattle.rules.specs.Writing.{stream, write_answer, write_out, write_work}
use Rattle.writer.proofs.Demands.{Writes, Served, served_bytes, served_stream}
use Rattle.stored.specs.Answers.{write_numbers}

-- the contract of `kz_write`, or in the several form of `kz_write_bodies`: r, answer, work' and out' are the number returned, the answer stored, the work
-- room and the output that a call leaves
pub record Stores (F : Form) (N n root : ℕ) (t : List ℕ) (start : ℕ) (work out : List ℕ) (r : ℕ) (answer work' out' : List ℕ) : Type 0 where
  pub number : r ≡ (write_answer F by_dart N n root start t work out).number
  pub stored : answer ≡ write_numbers (write_answer F by_dart N n root start t work out)
  pub room : work' ≡ write_work F by_dart N n root t work
  pub page : out' ≡ write_out F by_dart N n root start t work out

-- pages written in order, each call meeting the contract of `kz_write`: on the work room as the call before it has left it, into an output of any length and
-- with anything in it, the next from where the last ended. The answer's third number says how many bytes a call has written.
pub data Sent (F : Form) (N n root : ℕ) (t : List ℕ) : ℕ → List ℕ → List ℕ → ℕ → Type 0 where
  none : {start : ℕ} {work : List ℕ} → Sent F N n root t start work [] start
  more : {start end : ℕ} {work bytes : List ℕ} (out : List ℕ) (r : ℕ) (answer work' out' : List ℕ) → Stores F N n root t start work out r answer work' out'
      → Sent F N n root t (start + get_or answer 2 0) work' bytes end → Sent F N n root t start work (take (get_or answer 2 0) out' ++ bytes) end

module _ (F : Form) (N n root : ℕ) (t : List ℕ) where
  -- calls of `kz_write` are calls of `write`
  sent_served : {start end : ℕ} {work bytes : List ℕ} → Sent F N n root t start work bytes end → Served F N n root t start work bytes end
  sent_served Sent.none = Served.none
  sent_served (Sent.more {start} {end} {work} {bytes} out r answer work' out' x s) =
      let e : get_or answer 2 0 ≡ (write_answer F by_dart N n root start t work out).written = ap (λ (l : List ℕ). get_or l 2 0) x.stored in
      let w : Writes F N n root t start work out (write_answer F by_dart N n root start t work out) work' out' =
      record { answer = refl; room = x.room; page = x.page } in
      rw e (Served.more out (write_answer F by_dart N n root start t work out) work' out' w (rw e at (sent_served s)))

  -- pages from 0 on: what they join to is the stream up to where the last ended, and the whole stream once that is its length
  pub sent_bytes : {work bytes : List ℕ} {end : ℕ} → verdict F by_dart N n root t (length work) ≡ Verdict.fine
      → Sent F N n root t 0 work bytes end → bytes ≡ take end (stream F by_dart N n t root)
  sent_bytes f s = served_bytes F N n root t f (sent_served s)

  pub sent_stream : {work bytes : List ℕ} → verdict F by_dart N n root t (length work) ≡ Verdict.fine
      → Sent F N n root t 0 work bytes (length (stream F by_dart N n t root)) → bytes ≡ stream F by_dart N n t root
  sent_stream f s = served_stream F N n root t f (sent_served s)
