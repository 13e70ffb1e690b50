-- Demand 3, the writer's half, of the code: what calls that meet the contract of `write` have written, page after page. Rests on the rules' Streams alone.
use Prim.Native.Nat.{ℕ, ◌+◌, ◌≤◌, ◌<◌}
use mathlib.Core.Path.{◌≡◌, ap, sym, ◌∙◌}
use mathlib.Core.List.{List, [], ◌++◌, append-nil, append_assoc}
use native.Mathlib.Omega.{arith}
use lib.ListN.{length, take, length-take, length-drop}
use lib.Seq.{take_all}
use Rattle.rules.specs.declared.Form.{Form}
use Rattle.rules.specs.Map.{by_dart}
use Rattle.rules.specs.declared.WriteAnswer.{WriteAnswer}
use Rattle.rules.specs.Check.{Verdict, verdict}
use Rattle.rules.specs.Writing.{stream, page_of, write_answer, write_out, write_work}
use Rattle.rules.proofs.Streams.{before_page, wrote, work_long}

-- the contract of `write`: a, work' and out' are the answer, the work room and the output that a call leaves
pub record Writes (F : Form) (N n root : ℕ) (t : List ℕ) (start : ℕ) (work out : List ℕ) (a : WriteAnswer) (work' out' : List ℕ) : Type 0 where
  pub answer : a ≡ write_answer F by_dart N n root start t work out
  pub room : work' ≡ write_work F by_dart N n root t work
  pub page : out' ≡ write_out F by_dart N n root start t work out

-- pages written in order, each call meeting the contract of `write`: on the work room as the call before it has left it, into an output of any length and with
-- anything in it, the next from where the last ended. What is joined are the bytes of each output that the call says it has written.
pub data Served (F : Form) (N n root : ℕ) (t : List ℕ) : ℕ → List ℕ → List ℕ → ℕ → Type 0 where
  none : {start : ℕ} {work : List ℕ} → Served F N n root t start work [] start
  more : {start end : ℕ} {work bytes : List ℕ} (out : List ℕ) (a : WriteAnswer) (work' out' : List ℕ) → Writes F N n root t start work out a work' out'
      → Served F N n root t (start + a.written) work' bytes end → Served F N n root t start work (take a.written out' ++ bytes) end

module _ (F : Form) (N n root : ℕ) (t : List ℕ) where
  -- the bytes before the first page, then those of the pages, are the stream's up to where the last page ended
  served_joins : {start end : ℕ} {work bytes : List ℕ} → Served F N n root t start work bytes end
      → verdict F by_dart N n root t (length work) ≡ Verdict.fine → start ≤ length (stream F by_dart N n t root)
      → (take start (stream F by_dart N n t root) ++ bytes ≡ take end (stream F by_dart N n t root)) × (end ≤ length (stream F by_dart N n t root))
  served_joins (Served.none {start}) f h = (append-nil (take start (stream F by_dart N n t root)), h)
  served_joins (Served.more {start} {end} {work} {bytes} out a work' out' x s) f h =
      let S = stream F by_dart N n t root in
      let P = page_of S start (length out) in
      let w = wrote F by_dart N n root t work f start out h in
      let k : a.written ≡ length P = ap (λ (y : WriteAnswer). y.written) x.answer ∙ w.written in
      let p : take a.written out' ≡ P = rw (x.answer, x.page) w.bytes in
      let l : start + a.written ≤ length S = rw k (unfold page_of in simp (length-take, length-drop) (omega arith)) in
      let g : verdict F by_dart N n root t (length work') ≡ Verdict.fine = rw (x.room, work_long F by_dart N n root t work f) f in
      let (q, e) = served_joins s g l in
      let b : take start S ++ P ≡ take (start + a.written) S = rw k (before_page S start (length out) h) in
      (rw p (sym (append_assoc (take start S) P bytes) ∙ (ap (λ (y : List ℕ). y ++ bytes) b ∙ q)), e)

  -- pages from 0 on: what they join to is the stream up to where the last ended, and the whole stream once that is its length
  pub served_bytes : {work bytes : List ℕ} {end : ℕ} → verdict F by_dart N n root t (length work) ≡ Verdict.fine
      → Served F N n root t 0 work bytes end → bytes ≡ take end (stream F by_dart N n t root)
  served_bytes f s = (served_joins s f (omega arith)).0

  pub served_stream : {work bytes : List ℕ} → verdict F by_dart N n root t (length work) ≡ Verdict.fine
      → Served F N n root t 0 work bytes (length (stream F by_dart N n t root)) → bytes ≡ stream F by_dart N n t root
  served_stream f s = served_bytes f s ∙ take_all (length (stream F by_dart N n t root)) (stream F by_dart N n t root) (omega arith)

  -- they get there: each call answers the stream's length, and before that is reached a page with room for a byte has at least one
  pub served_goes : {start : ℕ} {work out work' out' : List ℕ} {a : WriteAnswer} → verdict F by_dart N n root t (length work) ≡ Verdict.fine
      → start < length (stream F by_dart N n t root) → 0 < length out
      → Writes F N n root t start work out a work' out' → (a.length ≡ length (stream F by_dart N n t root)) × (0 < a.written)
  served_goes {start} {work} {out} {work'} {out'} {a} f h o x =
      let w = wrote F by_dart N n root t work f start out (omega arith) in
      let k : a.written ≡ length (page_of (stream F by_dart N n t root) start (length out)) = ap (λ (y : WriteAnswer). y.written) x.answer ∙ w.written in
      (ap (λ (y : WriteAnswer). y.length) x.answer ∙ w.long, rw k (unfold page_of in simp (length-take, length-drop) (omega arith)))
