-- Sets of refusal numbers that the documents speak of together. Each is said here and nowhere else; what is proved of a set goes by its name.
use Rattle.std.specs.Prelude.{ℕ, Bool, false, ◌&&◌, ◌||◌, List, [], ◌∷◌, eqb}
use Rattle.rules.specs.declared.Reason.{Reason}

-- the number of each refusal that a call can find
unfoldable pub number_of : Reason → ℕ
number_of Reason.Dimension = 1
number_of Reason.Darts = 2
number_of Reason.ShortTables = 3
number_of Reason.ShortWork = 4
number_of Reason.Root = 5
number_of Reason.Entry = 6
number_of Reason.Inverse = 7
number_of Reason.Manifold = 8
number_of Reason.NotReached = 9
number_of Reason.PastEnd = 10
number_of Reason.Cut = 11
number_of Reason.TooMany = 13
number_of Reason.Taken = 14
number_of Reason.TooFew = 15
number_of Reason.Built = 16
number_of Reason.Fill = 17
number_of Reason.ByteAfter = 18
number_of Reason.Unfit = 19
number_of Reason.Closed = 20
number_of Reason.NotNumbered = 21
number_of Reason.Itself = 22
number_of Reason.Linked = 23
number_of Reason.Word = 26
number_of Reason.Vertex = 27
number_of Reason.Face = 28
number_of Reason.Side = 29
number_of Reason.OneBody = 30

-- one of the numbers listed
unfoldable pub among : List ℕ → ℕ → Bool
among [] nr = false
among (x ∷ l) nr = eqb nr x || among l nr

-- found at a header, before any step: nothing changes, and the place is 0
unfoldable pub at_header : ℕ → Bool
at_header nr = among (1 ∷ 3 ∷ []) nr

-- says what is wrong with a w
unfoldable pub of_index : ℕ → Bool
of_index nr = among (21 ∷ 22 ∷ 23 ∷ []) nr

-- found in a step: of a w, of an N, of a deduced partner
unfoldable pub in_step : ℕ → Bool
in_step nr = of_index nr || among (13 ∷ 14 ∷ []) nr

-- found at the walk's end
unfoldable pub at_end : ℕ → Bool
at_end nr = among (15 ∷ 30 ∷ 16 ∷ 17 ∷ 18 ∷ []) nr

-- says that posted tables have too many bodies or too few: the work room is wiped
unfoldable pub of_bodies : ℕ → Bool
of_bodies nr = among (9 ∷ 30 ∷ []) nr

-- wipes the tables, with the steps done as its place: closing too early, in a step, at the end; and 12, which no reading finds any more
unfoldable pub wipes : ℕ → Bool
wipes nr = eqb nr 11 || eqb nr 12 || in_step nr || at_end nr

-- fit when refused, with this place
unfoldable pub fit_refused : ℕ → ℕ → Bool
fit_refused nr p = (at_header nr && eqb p 0) || wipes nr
