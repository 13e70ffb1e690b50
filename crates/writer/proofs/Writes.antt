-- The write call taken apart as the code takes it: the check's refusals, then 10, then the page. Rests on the rules' Check and Streams, and on Replays.
use Prim.Native.Nat.{ℕ, ◌+◌, ◌*◌, ◌-◌, ◌≤◌, ◌<◌, ◌^◌, min, ◌/◌, ◌%◌}
use mathlib.Core.Path.{◌≡◌, refl, ap, sym, ◌∙◌}
use mathlib.Core.Logic.{◌≢◌}
use Rattle.rules.specs.declared.CheckAnswer.{CheckAnswer}
use mathlib.Core.Bool.{Bool}
use mathlib.Core.List.{List, [], ◌++◌}
use native.Mathlib.Omega.{arith}
use lib.ListN.{length, take, drop, length-append, length-take, length-drop, drop_of_length-le}
use lib.Seq.{take-nil}
use borrow.Author.Tests.{lt-ltb, le-ltb}
use Rattle.std.specs.Borrow.{MutBor}
use Rattle.std.specs.Prelude.{Result, Ok, Err, MatchResult}
use Rattle.rules.specs.declared.WriteAnswer.{WriteAnswer}
use Rattle.rules.specs.declared.Refusal.{Refusal}
use Rattle.pen.specs.declared.Sheet.{Sheet}
use Rattle.rules.specs.declared.Form.{Form}
use Rattle.rules.specs.declared.Form.TheVariants.{One, Several}
use Rattle.rules.specs.Bodies.{first_bits, Wanted}
use Rattle.rules.specs.Map.{by_dart, Valid, Limits}
use Rattle.rules.specs.Walk.{symbols_of}
use Rattle.rules.specs.Check.{Verdict, fine, refused, refuse_if, verdict, work_after, check_answer_of, check_answer, check_work}
use Rattle.rules.specs.Stream.{bits_of, codes, header, filled}
use Rattle.rules.specs.Writing.{stream, page_of, start_verdict, write_verdict, page_after, write_answer_of, write_page, write_answer, write_out}
use Rattle.rules.proofs.Check.{wanted_rooted, refused_some, fine_passes}
use Rattle.rules.proofs.Codes.{length_bits}
use Rattle.rules.proofs.Streams.{filled_length, symbols_few, stream_longest}
use Rattle.pen.specs.Pens.{blank_sheet, penned, PenFits, Holds, Put}
use Rattle.pen.proofs.Laws.{put_both, holds_start}
use Rattle.replay.specs.Replays.{NumberedFrom}
use Rattle.writer.specs.Written.{answer_by}

-- room for the bits that come after the first of a stream
pub put_fits : {bs : List Bool} {start : ℕ} {lent : MutBor (List ℕ)} {first p : Sheet} → first ≡ blank_sheet start lent → Put bs first p → (k : ℕ)
    → length bs + k < 2 ^ 64 → PenFits k p.pen
put_fits e u k h = u.fits k (rw e (record { room = omega arith; in_byte = omega arith; holds = omega arith }))

-- the header, and the whole stream before its fill
pub put_header : (F : Form) (N n : ℕ) {v : ℕ} {p q r : Sheet} → v ≡ first_bits F N → Put (bits_of 4 v) p q → Put (bits_of 12 (n - 1)) q r
    → Put (header F N n) p r
unfolding header
put_header F N n e a b = put_both (rw e at a) b

-- the first four bits have room for the form and N
pub first_small : (F : Form) (N : ℕ) → N ≤ 6 → first_bits F N < 16
unfolding first_bits
first_small One N h = omega arith
first_small Several N h = omega arith

pub header_length : (F : Form) (N n : ℕ) → length (header F N n) ≡ 16
unfolding header
header_length F N n = omega (arith, length-append (bits_of 4 (first_bits F N)) (bits_of 12 (n - 1)), length_bits 4 (first_bits F N), length_bits 12 (n - 1))

unfoldable pub stream_bits : Form → ℕ → ℕ → List ℕ → ℕ → List Bool
stream_bits F N n t root = header F N n ++ codes (symbols_of F by_dart N n t root)

pub put_stream : (F : Form) (N n : ℕ) (t : List ℕ) (root : ℕ) {p q r : Sheet} → Put (header F N n) p q
    → Put (codes (symbols_of F by_dart N n t root)) q r → Put (stream_bits F N n t root) p r
unfolding stream_bits
put_stream F N n t root a b = put_both a b

pub stream_bits_lem : (F : Form) (N n : ℕ) (t : List ℕ) (root : ℕ) → N ≤ 6 → n ≤ 4096 → root < n → Valid by_dart N n t
    → length (stream_bits F N n t root) ≤ 401424
unfolding stream_bits
stream_bits_lem F N n t root h6 hn hr A =
    omega (arith, length-append (header F N n) (codes (symbols_of F by_dart N n t root)), header_length F N n, symbols_few F by_dart N n t root h6 hn hr A)

-- the length of a stream by the whole bytes and the bits after them
pub bits_length : (bs : List Bool) {at bits : ℕ} → at ≡ length bs / 8 → bits ≡ length bs % 8
    → (0 < bits → at + 1 ≡ length (filled bs)) × (bits ≡ 0 → at ≡ length (filled bs))
bits_length bs a b = let q = filled_length bs in (λ h. omega arith, λ h. omega arith)

-- the page of a whole stream, as the pen leaves it, and its length, as the pen tells it
pub pen_length : {bs : List Bool} {out0 : List ℕ} {sheet : Sheet} → Holds bs out0 sheet
    → (0 < sheet.pen.bits → sheet.pen.at + 1 ≡ length (filled bs)) × (sheet.pen.bits ≡ 0 → sheet.pen.at ≡ length (filled bs))
pen_length {bs} H = bits_length bs H.at H.bits

module _ (F : Form) (N n : ℕ) (t : List ℕ) (root : ℕ) {start : ℕ} {lent : MutBor (List ℕ)} {first p : Sheet} (e : first ≡ blank_sheet start lent)
    (u : Put (stream_bits F N n t root) first p) where
  held : Holds (stream_bits F N n t root) lent.now p
  held = u.holds [] lent.now (rw e (holds_start start lent))

  pub emitted : (out : List ℕ) → ((bs : List Bool) (out0 : List ℕ) → Holds bs out0 p → out ≡ penned (filled bs) p.start out0)
      → out ≡ penned (stream F by_dart N n t root) start lent.now
  unfolding stream stream_bits
  emitted out f = rw (← (u.start ∙ ap (λ (x : Sheet). x.start) e)) (f (stream_bits F N n t root) lent.now held)

  pub emitted_length : (r : ℕ) → ((bs : List Bool) (out0 : List ℕ) → Holds bs out0 p → r ≡ length (filled bs)) → r ≡ length (stream F by_dart N n t root)
  unfolding stream stream_bits
  emitted_length r f = f (stream_bits F N n t root) lent.now held

-- by the answer of the check
module _ (F : Form) (N n root : ℕ) (t work : List ℕ) (c : CheckAnswer) (ec : c ≡ check_answer F by_dart N n root t work) where
  refused_verdict : c.number ≢ 0 → verdict F by_dart N n root t (length work) ≡ refused c.number c.place
  unfolding check_answer check_answer_of
  refused_verdict h = rw ec (go (verdict F by_dart N n root t (length work)) (λ z. h (ap (λ (x : CheckAnswer). x.number) ec ∙ z)))
    where
      go : (v : Verdict) → (check_answer_of v).number ≢ 0 → v ≡ refused (check_answer_of v).number (check_answer_of v).place
      go fine h = absurd (h refl)
      go (refused nr p) h = refl

  fine_verdict : c.number ≡ 0 → verdict F by_dart N n root t (length work) ≡ fine
  unfolding check_answer check_answer_of
  fine_verdict h = go (verdict F by_dart N n root t (length work)) refl (sym (ap (λ (x : CheckAnswer). x.number) ec) ∙ h)
    where
      go : (v : Verdict) → verdict F by_dart N n root t (length work) ≡ v → (check_answer_of v).number ≡ 0
          → verdict F by_dart N n root t (length work) ≡ fine
      go fine e z = e
      go (refused nr p) e z = absurd (refused_some F by_dart N n root t (length work) nr p e z)

  -- the check's refusals
  pub write_refused : (from : ℕ) (out : List ℕ) → c.number ≢ 0
      → (record { number = c.number; place = c.place; written = 0; length = 0 } ≡ write_answer F by_dart N n root from t work out)
      × (out ≡ write_out F by_dart N n root from t work out)
  unfolding write_answer write_out write_page write_verdict start_verdict page_after write_answer_of
  write_refused from out h = rw (refused_verdict h) ((refl, refl))

  module _ (h : c.number ≡ 0) where
    -- what the check has found
    pub write_limits : Limits N n t × Valid by_dart N n t × Wanted F by_dart N n t root × (2 * n ≤ length work)
    write_limits = let P = fine_passes F by_dart N n root t (length work) (fine_verdict h) in (P.limits, P.valid, P.bodies, P.work)

    -- a stream is not long
    pub write_longest : length (stream F by_dart N n t root) ≤ 50178
    write_longest = let (L, A, C, w) = write_limits in stream_longest F by_dart N n t root L.dims.1 L.darts.1 (wanted_rooted F by_dart N n t root C) A

    -- 10: no byte of the stream falls into the page
    pub write_late : (from l : ℕ) (out out' : List ℕ) → l ≡ length (stream F by_dart N n t root) → l < from
        → out' ≡ penned (stream F by_dart N n t root) from out
        → (record { number = 10; place = l; written = 0; length = 0 } ≡ write_answer F by_dart N n root from t work out)
        × (out' ≡ write_out F by_dart N n root from t work out)
    unfolding write_answer write_out write_page write_verdict start_verdict page_after write_answer_of refuse_if penned page_of
    write_late from l out out' e q eo =
        let k : length (stream F by_dart N n t root) ≤ from = omega arith in
        let z : drop from (stream F by_dart N n t root) ≡ [] = drop_of_length-le (stream F by_dart N n t root) k in
        rw (fine_verdict h, ← e, lt-ltb l from q) ((refl, eo ∙ rw (z, take-nil {A = ℕ} (length out))))

    -- the page
    pub write_page_lem : (from l : ℕ) (out out' : List ℕ) (k : ℕ) → l ≡ length (stream F by_dart N n t root) → from ≤ l
        → out' ≡ penned (stream F by_dart N n t root) from out
        → k ≡ min (length out) (l - from)
        → (record { number = 0; place = 0; written = k; length = l } ≡ write_answer F by_dart N n root from t work out)
        × (out' ≡ write_out F by_dart N n root from t work out)
    unfolding write_answer write_out write_page write_verdict start_verdict page_after write_answer_of refuse_if penned page_of
    write_page_lem from l out out' k e q eo ek =
        let w : length (take (length out) (drop from (stream F by_dart N n t root))) ≡ k = simp (length-take, length-drop) (rw (← e) (sym ek)) in
        rw (fine_verdict h, ← e, le-ltb l from q) ((rw w, eo))

    -- the work room after the check holds the whole numbering
    pub write_numbered : (u : List ℕ) → u ≡ check_work F by_dart N n root t work → NumberedFrom F N n t root u
    unfolding check_work work_after
    write_numbered u e = record { bodies = write_limits.2; tail = drop (2 * n) work; room = e ∙ rw (fine_verdict h) }

-- the same by what the check has found, as the code has it
module _ (F : Form) (N n root : ℕ) (t work : List ℕ) where
  -- the check's refusals
  pub written_refused : {nr p : ℕ} → refused nr p ≡ verdict F by_dart N n root t (length work) → (from : ℕ) (out : List ℕ)
      → (record { number = nr; place = p; written = 0; length = 0 } ≡ write_answer F by_dart N n root from t work out)
      × (out ≡ write_out F by_dart N n root from t work out)
  unfolding check_answer check_answer_of
  written_refused {nr} {p} v from out =
      write_refused F N n root t work (check_answer_of (refused nr p)) (ap check_answer_of v) from out
      (refused_some F by_dart N n root t (length work) nr p (sym v))

  module _ (h : verdict F by_dart N n root t (length work) ≡ fine) where
    answer_fine : (check_answer F by_dart N n root t work).number ≡ 0
    unfolding check_answer check_answer_of
    answer_fine = rw h refl

    -- what the check has found
    pub written_limits : Limits N n t × Valid by_dart N n t × Wanted F by_dart N n t root × (2 * n ≤ length work)
    written_limits = write_limits F N n root t work _ refl answer_fine

    -- a stream is not long
    pub written_longest : length (stream F by_dart N n t root) ≤ 50178
    written_longest = write_longest F N n root t work _ refl answer_fine

    -- 10: no byte of the stream falls into the page
    pub written_late : (from l : ℕ) (out out' : List ℕ) → l ≡ length (stream F by_dart N n t root) → l < from
        → out' ≡ penned (stream F by_dart N n t root) from out
        → (record { number = 10; place = l; written = 0; length = 0 } ≡ write_answer F by_dart N n root from t work out)
        × (out' ≡ write_out F by_dart N n root from t work out)
    written_late = write_late F N n root t work _ refl answer_fine

    -- the page
    pub written_page : (from l : ℕ) (out out' : List ℕ) (k : ℕ) → l ≡ length (stream F by_dart N n t root) → from ≤ l
        → out' ≡ penned (stream F by_dart N n t root) from out
        → k ≡ min (length out) (l - from)
        → (record { number = 0; place = 0; written = k; length = l } ≡ write_answer F by_dart N n root from t work out)
        × (out' ≡ write_out F by_dart N n root from t work out)
    written_page = write_page_lem F N n root t work _ refl answer_fine

    -- the work room after the check holds the whole numbering
    pub written_numbered : (u : List ℕ) → u ≡ check_work F by_dart N n root t work → NumberedFrom F N n t root u
    written_numbered = write_numbered F N n root t work _ refl answer_fine

-- what takes a result's answer, or makes that of its refusal, takes the answer that the result makes
pub answer_taken : {a : WriteAnswer} (o : Result WriteAnswer (Refusal ℕ)) → MatchResult o (λ x. a ≡ x) (λ r. a ≡ answer_by (Err r)) → a ≡ answer_by o
answer_taken (Ok x) e = e
answer_taken (Err r) e = e
