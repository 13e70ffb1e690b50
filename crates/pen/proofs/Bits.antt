-- Laws of the bytes that bits fill. Rests on the definitions of the stream alone.
use Prim.Native.Nat.{ℕ, zero, suc, ◌+◌, ◌*◌, ◌≤◌}
use mathlib.Core.Path.{◌≡◌, refl, ap, ◌∙◌}
use mathlib.Core.Bool.{Bool}
use mathlib.Core.List.{List, [], ◌∷◌, ◌++◌}
use native.Mathlib.Omega.{arith}
use lib.ListN.{length, take, drop, length-append, length-drop}
use lib.Seq.{take_all, take-append-le, drop-append-le, drop-drop}
use Rattle.rules.specs.Stream.{value, pack}

pub pack_front : (k : ℕ) (bs more : List Bool) → 8 * k ≤ length bs → pack k (bs ++ more) ≡ pack k bs
unfolding pack
pack_front zero bs more h = refl
pack_front (suc k) bs more h =
    rw (take-append-le 8 bs more (omega arith), drop-append-le 8 bs more (omega arith), pack_front k (drop 8 bs) more (simp length-drop (omega arith)))

pack_last : (k : ℕ) (bs : List Bool) → pack (suc k) bs ≡ pack k bs ++ (value (take 8 (drop (8 * k) bs)) ∷ [])
unfolding pack
pack_last zero bs = refl
pack_last (suc k) bs =
    let e : 8 * suc k ≡ 8 + 8 * k = omega arith in
    rw (e, ← drop-drop (8 * k) 8 bs) (ap (λ (l : List ℕ). value (take 8 bs) ∷ l) (pack_last k (drop 8 bs)))

-- the bits that make a byte whole
pub pack_whole : (k : ℕ) (bs more : List Bool) → 8 * k ≤ length bs → length bs + length more ≡ 8 * suc k
    → pack (suc k) (bs ++ more) ≡ pack k bs ++ (value (drop (8 * k) bs ++ more) ∷ [])
pack_whole k bs more h w =
    let e : take 8 (drop (8 * k) bs ++ more) ≡ drop (8 * k) bs ++ more =
    take_all 8 (drop (8 * k) bs ++ more) (simp (length-append, length-drop) (omega arith)) in
    pack_last k (bs ++ more) ∙ rw (pack_front k bs more h, drop-append-le (8 * k) bs more h, e)
