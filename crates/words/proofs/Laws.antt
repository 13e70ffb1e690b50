-- Laws of a text put into a room: none, a word, one text after another, a row of them. Rests on nothing.
use Prim.Native.Nat.{ℕ, ◌+◌, ◌*◌, ◌-◌, ◌≤◌}
use mathlib.Core.Path.{◌≡◌, refl, ap, sym, ◌∙◌}
use mathlib.Core.List.{List, [], ◌++◌, append_assoc, append-nil}
use native.Mathlib.Omega.{arith}
use native.Mathlib.Nat.{min-eq_left}
use native.Mathlib.Numerals.{add-one}
use lib.ListN.{length, take, drop, length-append, length-take, length-drop, take-append-drop}
use lib.Seq.{drop-drop}
use borrow.Rule.Slice.PartMut.{put_mid, post_of}
use Rattle.std.proofs.lemmas.Slice.{take-put_mid, drop-put_mid}
use Rattle.io.specs.Counts.{IsPrefixLen}
use Rattle.words.specs.Room.{TextPut, begun}
use Rattle.words.specs.Words.{each}

pub wrote_none : (out : List ℕ) (at r : ℕ) → r ≡ at → TextPut out at [] out r
wrote_none out at r e = record { ends = omega arith; room = refl; text = rw e (sym (append-nil (take at out))); past = refl }

-- a word that was copied into the room
pub wrote_word : (out w v : List ℕ) (at : ℕ) → v ≡ w → at + length w ≤ length out
    → TextPut out at w (put_mid at (at + length w - at) out v) (at + length w)
wrote_word out w v at e h =
    let k : length w ≡ at + length w - at = omega arith in
    rw e (record {
      ends = refl;
      room = simp (length-append, post_of, length-take, length-drop) (omega arith);
      text = take-put_mid at _ out w (at + length w) refl (omega arith);
      past = drop-put_mid at _ out w (at + length w) (omega arith) (omega arith) k;
    })

module _ {out : List ℕ} {at : ℕ} {w o : List ℕ} {r : ℕ} (p : TextPut out at w o r) where
  -- past the text, and so past any later place, the room is as it was
  further : (q : ℕ) → r ≤ q → drop q o ≡ drop q out
  further q h =
      let e : q ≡ r + (q - r) = omega arith in
      rw (e, ← drop-drop (q - r) r o, ← drop-drop (q - r) r out) (ap (λ (l : List ℕ). drop (q - r) l) p.past)

  pub wrote_then : {v o' : List ℕ} {q : ℕ} → TextPut o r v o' q → TextPut out at (w ++ v) o' q
  wrote_then {v} {o'} {q} s = record {
    ends = simp length-append (omega (arith, p.ends, s.ends));
    room = s.room ∙ p.room;
    text = s.text ∙ (ap (λ (l : List ℕ). l ++ v) p.text ∙ append_assoc (take at out) w v);
    past = s.past ∙ further q (omega (arith, s.ends));
  }

  -- the text under another name
  pub wrote_same : {v : List ℕ} → w ≡ v → TextPut out at v o r
  wrote_same e = record {
    ends = p.ends ∙ ap (λ (l : List ℕ). at + length l) e;
    room = p.room;
    text = p.text ∙ ap (λ (l : List ℕ). take at out ++ l) e;
    past = p.past;
  }

-- one text more
pub each_more : (k : ℕ) (f : ℕ → List ℕ) → each (k + 1) f ≡ each k f ++ f k
unfolding each
each_more k f = rw add-one refl

-- f 0, .., f (i - 1) are there, each in at most k bytes
pub record Row (out : List ℕ) (at k : ℕ) (f : ℕ → List ℕ) (o : List ℕ) (end i : ℕ) : Type 0 where
  pub wrote : TextPut out at (each i f) o end
  pub short : end ≤ at + k * i

pub row_none : (out : List ℕ) (at k : ℕ) (f : ℕ → List ℕ) → Row out at k f out at 0
unfolding each
row_none out at k f = record { wrote = wrote_none out at at refl; short = omega arith }

module _ {out : List ℕ} {at k : ℕ} {f : ℕ → List ℕ} {o : List ℕ} {end i : ℕ} (p : Row out at k f o end i) where
  pub row_next : {w o' : List ℕ} {r : ℕ} → TextPut o end w o' r → r ≤ end + k → w ≡ f i → Row out at k f o' r (i + 1)
  row_next {w} s h e = record {
    wrote = wrote_same (wrote_then p.wrote s) (ap (λ (l : List ℕ). each i f ++ l) e ∙ sym (each_more i f));
    short = omega (arith, p.short, h);
  }

  pub row_end : (n : ℕ) → i ≡ n → TextPut out at (each n f) o end × (end ≤ at + k * n)
  row_end n e = (wrote_same p.wrote (ap (λ (x : ℕ). each x f) e), rw (sym e) p.short)

-- a text that begins the room is what the room holds up to its end, and the rest is as it was
pub listed : {out w o v : List ℕ} {r k : ℕ} → TextPut out 0 w o r → r ≤ k → k ≤ length out → w ≡ v → ((r ≡ length v) × (o ≡ begun v out)) × IsPrefixLen r o
listed {out} {w} {o} {v} {r} p h l e =
    let b : r ≤ length o = omega (arith, p.room) in
    let n : r ≡ length v = p.ends ∙ rw e (omega arith) in
    ((n, sym (take-append-drop r o) ∙ rw (p.text, p.past, e, n)), (b, sym (length-take r o ∙ min-eq_left b)))
