-- The writer beside the replay: what is put is the code of the symbols so far, which begin those of the whole walk. Rests on the replay's Replays and the
-- pen's Laws.
use Prim.Native.Nat.{ℕ, ◌+◌, ◌*◌, ◌-◌, ◌≤◌, ◌<◌}
use mathlib.Core.Path.{◌≡◌, ap, sym, ◌∙◌}
use mathlib.Core.Bool.{true, false}
use mathlib.Core.List.{List, [], ◌∷◌, ◌++◌, append-nil}
use native.Mathlib.Omega.{arith}
use lib.ListN.{length, get_or, length-append}
use Rattle.std.specs.Prelude.{Option, Some, None, IfSome}
use Rattle.rules.specs.declared.Form.{Form}
use Rattle.rules.specs.Map.{by_dart, Limits, Valid}
use Rattle.rules.specs.declared.Symbol as rules
use Rattle.rules.specs.declared.Symbol.TheVariants.{New, Border, Index}
use Rattle.rules.specs.Symbols.{told_symbol}
use Rattle.rules.specs.Lists.{sum}
use Rattle.rules.specs.Walk.{enough, symbols_of}
use Rattle.rules.specs.Stream.{code, codes}
use Rattle.rules.specs.Inner.{gone, bound, Emptied, Lowest, body_due}
use Rattle.rules.proofs.Runs.{codes_append}
use Rattle.rules.proofs.Streams.{symbols_few}
use Rattle.walk.specs.Numbers.{positions_after}
use Rattle.walk.specs.Standing.{ahead}
use Rattle.walk.proofs.Walking.{Rooted, inv_now, walking_less}
use Rattle.replay.specs.declared.Replayed.{Replayed}
use Rattle.replay.specs.Replays.{writes_in, replayed_in, told, AtHead, NumberedFrom}
use Rattle.replay.proofs.Finished.{rooted_by}
use Rattle.replay.proofs.Replays.{index_below, count_later, replay_starts, replay_served, replay_ends, replay_begins, replay_goes}
use Rattle.pen.specs.declared.Sheet.{Sheet}
use Rattle.pen.specs.Pens.{PenFits, Put, IndexFits}
use Rattle.pen.proofs.Laws.{put_none, put_both}
use Rattle.writer.specs.Written.{Writing, Underway, WentOn}

-- what a step yields, over what the calls answered
pub put_nothing : {s : Option rules.Symbol} → s ≡ None → (sheet : Sheet) → Put (codes (told s)) sheet sheet
unfolding codes
put_nothing e sheet = rw e (put_none sheet)

pub put_one : {s : Option rules.Symbol} (x : rules.Symbol) → s ≡ Some x → {p r : Sheet} → Put (code (told_symbol x)) p r → Put (codes (told s)) p r
unfolding codes
put_one x e u = rw (e, append-nil) u

pub one_fits : {s : Option rules.Symbol} (x : rules.Symbol) → s ≡ Some x → IfSome s IndexFits → IndexFits x
one_fits x e h = rw e at h

-- a number that is written fits its code
pub yield_fits : (N n : ℕ) (t work : List ℕ) (c j p : ℕ) → c ≤ 4096 → (s : Option rules.Symbol) → s ≡ writes_in by_dart N n t work c j p → IfSome s IndexFits
yield_fits N n t work c j p h None e = tt
yield_fits N n t work c j p h (Some New) e = tt
yield_fits N n t work c j p h (Some Border) e = tt
yield_fits N n t work c j p h (Some (Index x)) e = omega (arith, index_below N n t work c j p x (sym e))

module _ {F : Form} {N n : ℕ} {m : List ℕ} {root : ℕ} (P : Rooted N n m root) {work : List ℕ} (Q : NumberedFrom F N n m root work) {sheet : Sheet} where
  pub writing_starts : Writing F N n m root 1 (0 ∷ 0 ∷ 0 ∷ 0 ∷ 0 ∷ 0 ∷ 0 ∷ []) sheet sheet
  unfolding codes
  writing_starts = record { symbols = []; replaying = replay_starts P Q; put = put_none sheet }

  module _ {c : ℕ} {ps : List ℕ} {r : Sheet} (W : Writing F N n m root c ps sheet r) where
    -- the pen has room for the next code
    pub writing_fits : PenFits 401422 sheet.pen → PenFits 14 r.pen
    writing_fits h =
        let e : length (codes W.symbols) + length (codes (ahead W.replaying.walking).symbols) ≡ length (codes (symbols_of F by_dart N n m root)) =
        sym (length-append (codes W.symbols) _) ∙ ap length (sym (codes_append W.symbols _) ∙ ap codes W.replaying.left) in
        let l : length (codes W.symbols) + 14 ≤ 401422 = omega (arith, symbols_few F by_dart N n m root P.ranks P.small P.dart P.valid) in
        W.put.fits 14 (record { room = omega (arith, h.room); in_byte = h.in_byte; holds = h.holds })

    -- where L0 is empty, all that are numbered have left it
    pub all_left : (j : ℕ) → Emptied c ps j → 0 < j → get_or ps 0 0 ≡ c
    unfolding gone bound
    all_left j E h =
        let G = W.replaying.walking in
        let f : get_or ps 0 0 ≤ c = rw (G.count, G.positions) ((inv_now P G).shape.fall 0 (omega arith)) in
        omega (arith, E.lower 0 h)

    -- the end, where all queues are empty and no body is due: all symbols were put
    pub writing_ends : (j : ℕ) → Emptied c ps j → N < j → body_due F N n j c ≡ false → Put (codes (symbols_of F by_dart N n m root)) sheet r
    writing_ends j E h r = rw (← replay_ends P Q W.replaying j E h r) W.put

    -- where one is due, it begins and nothing is put
    pub writing_begins : (j : ℕ) → Emptied c ps j → N < j → body_due F N n j c ≡ true → Writing F N n m root (c + 1) ps sheet r
    writing_begins j E h d = record { symbols = W.symbols; replaying = replay_begins P Q W.replaying j E h d; put = W.put }

    -- a turn at the lowest queue that isn't empty, over what its calls answered
    pub writing_goes : (j : ℕ) → Lowest N c ps j → (k : Replayed) → k ≡ replayed_in by_dart N n m work c j (get_or ps j 0) → {ps' : List ℕ}
        → ps' ≡ positions_after j ps
        → {q : Sheet} → Put (codes (told k.written)) r q → Writing F N n m root k.count ps' sheet q
    writing_goes j e k ek ep u =
        let s = writes_in by_dart N n m work c j (get_or ps j 0) in
        let x = rw ek at u in
        let put' = rw (← codes_append W.symbols (told s)) at (put_both W.put x) in
        rw (ek, ep) (record { symbols = W.symbols ++ told s; replaying = replay_goes P Q W.replaying j e; put = put' })

-- a body is gone through from wherever the writer stood
pub went_none : (N n : ℕ) (m work : List ℕ) (c : ℕ) (ps : List ℕ) (sheet : Sheet) → WentOn N n m work c ps sheet c ps sheet
went_none N n m work c ps sheet = record { writing = λ F root first Q W. W; grows = omega arith }

module _ {N n : ℕ} {m : List ℕ} (L : Limits N n m) (A : Valid by_dart N n m) {c0 c : ℕ} {work ps0 ps : List ℕ} {sheet0 sheet : Sheet}
    (W : WentOn N n m work c0 ps0 sheet0 c ps sheet) where
  pub went_goes : (j : ℕ) → Lowest N c ps j → (k : Replayed) → k ≡ replayed_in by_dart N n m work c j (get_or ps j 0) → {ps' : List ℕ}
      → ps' ≡ positions_after j ps
      → {q : Sheet} → Put (codes (told k.written)) sheet q → WentOn N n m work c0 ps0 sheet0 k.count ps' q
  went_goes j e k ek ep u = record {
    writing = λ F root first Q Y. writing_goes (rooted_by L A Q) Q (W.writing F root first Q Y) j e k ek ep u;
    grows = omega (arith, W.grows, count_later N n m work c j (get_or ps j 0) k ek);
  }

  -- over a numbering, along which the writer stands where it has come to
  module _ (U : Underway N n m work c0 ps0 sheet0) where
    rooted_on : Rooted N n m U.root
    rooted_on = rooted_by L A U.numbered

    stands : Writing U.form N n m U.root c ps U.first sheet
    stands = W.writing U.form U.root U.first U.numbered U.writing

    pub went_fits : PenFits 14 sheet.pen
    went_fits = writing_fits rooted_on U.numbered stands U.room

    pub went_left : (j : ℕ) → Emptied c ps j → 0 < j → get_or ps 0 0 ≡ c
    went_left = all_left rooted_on U.numbered stands

    module _ (j : ℕ) (e : Lowest N c ps j) where
      pub went_served : 2 * n ≤ length work → AtHead n work c (get_or ps j 0)
      went_served = replay_served rooted_on U.numbered stands.replaying j e

      pub went_less : {ps' : List ℕ} → ps' ≡ positions_after j ps → enough N n - sum ps' < enough N n - sum ps
      went_less = walking_less rooted_on stands.replaying.walking j e
