-- The check taken apart as the code takes it: the sizes, the tables, the darts without number and the bodies. The laws of `proofs/` tie this to the verdict of
-- the rules.
use Rattle.std.specs.Prelude.{ℕ, ◌*◌, List, Bool, not, get_or, eqb, ltb}
use Rattle.rules.specs.Lists.{first}
use Rattle.rules.specs.Map.{by_dart, mark, dim_fits, darts_fit, size, pairs_of, first_broken}
use Rattle.rules.specs.Check.{Verdict, fine, refused, refuse_if, spot, outside, twisted}
use Rattle.rules.specs.declared.Form.{Form}
use Rattle.rules.specs.declared.Form.TheVariants.{One, Several}

-- what refuses first, else what comes later
unfoldable pub and_then : Verdict → Verdict → Verdict
and_then fine v = v
and_then (refused nr p) v = refused nr p

-- refusals 1 to 5; t and room are the lengths of the tables and the work room
unfoldable pub misfit_of : ℕ → ℕ → ℕ → ℕ → ℕ → Verdict
misfit_of N n root t room =
    refuse_if (not (dim_fits N)) 1 0 (
    refuse_if (not (darts_fit n)) 2 0 (
    refuse_if (ltb t (size N n)) 3 0 (
    refuse_if (ltb room (2 * n)) 4 0 (
    refuse_if (not (ltb root n)) 5 0 fine))))

-- refusals 6 to 8 with their place
unfoldable pub misbuilt_of : ℕ → ℕ → List ℕ → Verdict
misbuilt_of N n t =
    let p6 = first (outside by_dart N n t) (size N n) in
    let p7 = first (twisted by_dart N n t) (size N n) in
    let p8 = first_broken by_dart N n t (pairs_of N) in
    refuse_if (ltb p6 (size N n)) 6 (spot by_dart N n p6) (
    refuse_if (ltb p7 (size N n)) 7 (spot by_dart N n p7) (
    refuse_if (ltb p8 n) 8 p8 fine))

-- a dart has no walk number in the work room
abbrev pub numberless : List ℕ → ℕ → Bool
numberless work d = eqb (get_or work d mark) mark

-- refusal 9 or 30 with its place, once the darts are numbered and r bodies were begun
unfoldable pub misjoined_of : Form → ℕ → List ℕ → ℕ → Verdict
misjoined_of One n work r = let p = first (numberless work) n in refuse_if (ltb p n) 9 p fine
misjoined_of Several n work r = refuse_if (eqb r 1) 30 0 fine
