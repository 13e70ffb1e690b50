-- Laws of a step: the walk of the count, positions and tables that a step leaves is the walk that the rules' step leaves, one way through the code at a time.
use Prim.Native.Nat.{ℕ, suc, ◌+◌, ◌≤◌, ◌<◌}
use mathlib.Core.Path.{◌≡◌, refl, ap, sym, ◌∙◌}
use mathlib.Core.Logic.{◌≢◌}
use mathlib.Core.Bool.{Bool, true, false}
use mathlib.Core.List.{List, [], ◌∷◌}
use native.Mathlib.Numerals.{add-one}
use native.Mathlib.Omega.{arith}
use lib.ListN.{length, get_or, set, replicate}
use lib.Dec.{ltb}
use borrow.Author.Tests.{eq-eqb, ne_eqb, not-true}
use Rattle.rules.specs.Map.{by_dart, mark, size, place, link, blank, Limits}
use Rattle.rules.specs.Walk.{Walk, start, link_of, unknown, Partner, partner, pass, join, fresh, resume, tie, Symbol, apply}
use Rattle.std.specs.Prelude.{Result, Ok, Err, IsErrAnd}
use Rattle.rules.specs.Naming.{naming, cause_number, naming_number}
use Rattle.rules.specs.Refusals.{among, of_index, number_of}
use Rattle.rules.specs.Reading.{Run, Step, permitted, fault, allow}
use Rattle.rules.specs.Session.{queues_of, walk_at}
use Rattle.rules.specs.Inner.{Shape, Emptied, Lowest, Inv}
use Rattle.rules.specs.declared.Form.{Form}
use Rattle.rules.specs.declared.Form.TheVariants.{One}
use Rattle.rules.specs.declared.Cause.{Cause}
use Rattle.rules.specs.declared.Cause.TheVariants.{Unnumbered, Itself, Linked}
use Rattle.rules.specs.declared.Reason.{Reason}
use Rattle.rules.specs.declared.Stand.{Stand}
use Rattle.rules.proofs.Places.{place_below}
use Rattle.rules.proofs.Lowest.{head_lowest, emptied_none, emptied_passed}
use Rattle.rules.proofs.Walks.{start_inv, next_of, deduced_below}
use Rattle.rules.proofs.Bodies.{one_rests, rested}
use Rattle.rules.proofs.Moves.{Move, Moved, moved, Named, index_named, see_deduced}
use Rattle.rules.proofs.Causes.{Says, naming_says, three_causes}
use Rattle.rules.proofs.Fitness.{queues_of_lem}
use Rattle.steps.specs.declared.Next.{Next}
use Rattle.steps.specs.declared.Case.{Case}
use Rattle.steps.specs.Partners.{partner_for, told_partner}
use Rattle.steps.specs.Steps.{stand_in, stand, naming_for, Tied, HeadCase, deduced_step, symbol_step, goes_on, told_step, Lower, Steps}
use Rattle.steps.proofs.Partners.{partner_looking}

-- a link's place is within the tables
pub place_room : (N n : ℕ) (t : List ℕ) (j b : ℕ) → Limits N n t → j ≤ N → b < n → (p : ℕ) → p ≡ place by_dart N n j b → p < length t
place_room N n t j b l hj hb p e = omega (arith, place_below by_dart N n j b hj hb, l.room)

-- the walk of a stand and tables
pub stands : (N n : ℕ) (s : Stand) (t : List ℕ) (w : Walk) → Shape w → w.layout ≡ by_dart → w.dim ≡ N → w.darts ≡ n → w.count ≡ s.count
    → w.positions ≡ s.positions → w.links ≡ t → w.form ≡ s.form → w.bodies ≡ s.bodies → walk_at by_dart N n s t ≡ w
unfolding walk_at
stands N n s t w h ey ed en ec ep et ef eb = λ i. record {
  layout = sym ey i;
  dim = sym ed i;
  darts = sym en i;
  queues = q i;
  links = sym et i;
  count = sym ec i;
  positions = sym ep i;
  form = sym ef i;
  bodies = sym eb i;
}
  where
    q : queues_of (suc N) s.count s.positions ≡ w.queues
    q = sym (queues_of_lem w h ∙ rw (ed, ec, ep))

-- the walk of the start
pub walk_start : (F : Form) (N n : ℕ) (t : List ℕ) → 1 ≤ n → n ≤ 4096 → N ≤ 6
    → walk_at by_dart N n (stand_in F 1 1 (replicate 7 0)) (blank (size N n) t) ≡ start F by_dart N n t
unfolding start
walk_start F N n t h1 h2 h3 =
    let w = start F by_dart N n t in
    stands N n (stand_in F 1 1 (replicate 7 0)) (blank (size N n) t) w (start_inv F by_dart N n t h1 h2 h3).shape refl refl refl refl refl refl refl refl

-- what is to be done for aj(b), by the tables alone
pub partner_stand : (N n : ℕ) (s : Stand) (t : List ℕ) (j b : ℕ) (p : Case) → told_partner p ≡ partner_for N n t j b
    → partner (walk_at by_dart N n s t) j b ≡ told_partner p
unfolding walk_at
partner_stand N n s t j b p e = partner_looking (walk_at by_dart N n s t) j b ∙ sym e

-- a walk is within the limits
module _ (N n : ℕ) (s : Stand) (t : List ℕ) (dims : 1 ≤ N) (v : Inv (walk_at by_dart N n s t)) where
  pub stand_limits : Limits N n t
  unfolding walk_at
  stand_limits =
      let h = v.shape in
      record { dims = (dims, h.ranks); darts = (omega (arith, h.some, h.within), h.small); room = h.table }

-- the head of its lowest queue that isn't empty is served
module _ (N n k : ℕ) (ps t : List ℕ) (dims : 1 ≤ N) (v : Inv (walk_at by_dart N n (stand k ps) t)) where
  pub serves : (j : ℕ) → Lowest N k ps j → (p : Partner) → partner (walk_at by_dart N n (stand k ps) t) j (get_or ps j 0) ≡ p
      → HeadCase N n k ps t j (get_or ps j 0) p
  unfolding walk_at
  serves j low p e = record {
    inv = v;
    heads = head_lowest (walk_at by_dart N n (stand k ps) t) v.shape j low.lower low.ranked low.some;
    case = e;
    limits = stand_limits N n (stand k ps) t dims v;
    emptied = low.lower;
    ranked = low.ranked;
    first = refl;
    below = low.some;
    within = v.shape.within;
  }

-- a move's walk is that of the stand and tables after it; with one body nothing is begun after it
lands : (N n k k' : ℕ) (ps ps' t t' : List ℕ) (out : List Symbol) (w' : Walk) → Inv (walk_at by_dart N n (stand k ps) t)
    → Move (walk_at by_dart N n (stand k ps) t) out (resume w') → w'.form ≡ One → w'.bodies ≡ 1 → w'.count ≡ k' → w'.positions ≡ ps' → w'.links ≡ t'
    → walk_at by_dart N n (stand k' ps') t' ≡ w'
unfolding walk_at
lands N n k k' ps ps' t t' out w' v m ef eb ec ep et =
    let w = walk_at by_dart N n (stand k ps) t in
    let x : Moved w w' = rw (rested w' (one_rests w' ef)) at (moved w (resume w') out v m) in
    stands N n (stand k' ps') t' w' x.inv.shape x.grows.layout x.grows.dim x.grows.darts ec ep et ef eb

-- the same walk in another form, with another number of bodies
abbrev recast : Form → ℕ → Walk → Walk
recast F B w = record {
  layout = w.layout;
  dim = w.dim;
  darts = w.darts;
  queues = w.queues;
  links = w.links;
  count = w.count;
  positions = w.positions;
  form = F;
  bodies = B;
}

-- a run so recast
recast_run : Form → ℕ → Run → Run
recast_run F B (Run.ended w bs) = Run.ended (recast F B w) bs
recast_run F B (Run.waits w bs) = Run.waits (recast F B w) bs
recast_run F B (Run.refused nr w) = Run.refused nr (recast F B w)

-- a step so recast
recast_step : Form → ℕ → Step → Step
recast_step F B (Step.goes w bs) = Step.goes (recast F B w) bs
recast_step F B (Step.stops r) = Step.stops (recast_run F B r)

-- a step that looks at neither form nor bodies
abbrev Blind : (Walk → List Bool → Step) → Type 0
Blind f = (F : Form) (B : ℕ) (w : Walk) (rest : List Bool) → f (recast F B w) rest ≡ recast_step F B (f w rest)

-- the rules' step where aj(b) is known
abbrev pub known_step : ℕ → ℕ → Walk → List Bool → Step
known_step j b w rest = Step.goes (pass w j b) rest

known_blind : (j b : ℕ) → Blind (known_step j b)
unfolding recast_step pass
known_blind j b F B w rest = refl

allow_blind : (x : Bool) (nr : ℕ) (F : Form) (B : ℕ) (w w' : Walk) (rest : List Bool)
    → allow x nr (recast F B w) (recast F B w') rest ≡ recast_step F B (allow x nr w w' rest)
unfolding recast_step recast_run allow
allow_blind true nr F B w w' rest = refl
allow_blind false nr F B w w' rest = refl

deduced_blind : (j b e : ℕ) → Blind (deduced_step j b e)
unfolding unknown link_of tie pass join
deduced_blind j b e F B w rest = allow_blind (unknown w j e) 14 F B w (tie w j b e) rest

symbol_blind : (j b : ℕ) (x : Symbol) → Blind (symbol_step j b x)
unfolding permitted fault apply naming unknown link_of tie pass join fresh
symbol_blind j b Symbol.new F B w rest = allow_blind (permitted w j b Symbol.new) 13 F B w (apply w j b Symbol.new) rest
symbol_blind j b Symbol.border F B w rest = allow_blind true 0 F B w (apply w j b Symbol.border) rest
symbol_blind j b (Symbol.index e) F B w rest =
    allow_blind (permitted w j b (Symbol.index e)) (fault w j b (Symbol.index e)) F B w (apply w j b (Symbol.index e)) rest

-- what is told with one body is told with any number, in any form
told_in : (F : Form) (B N n k : ℕ) (r : Result Next Reason) (ps t : List ℕ) (rest : List Bool)
    → told_step F B N n k r ps t rest ≡ recast_step F B (told_step One 1 N n k r ps t rest)
unfolding told_step recast_step recast_run walk_at
told_in F B N n k (Ok x) ps t rest = refl
told_in F B N n k (Err r) ps t rest = refl

made : {N n k : ℕ} {ps t : List ℕ} {f : Walk → List Bool → Step} {r : Result Next Reason} {ps' t' : List ℕ} → Blind f
    → ((rest : List Bool) → told_step One 1 N n k r ps' t' rest ≡ f (walk_at by_dart N n (stand k ps) t) rest) → Lower N r ps' → Steps N n k ps t f r ps' t'
unfolding walk_at
made {N} {n} {k} {ps} {t} {f} {r} {ps'} {t'} blind e l = record {
  tells = λ F B rest. told_in F B N n k r ps' t' rest ∙ (ap (recast_step F B) (e rest) ∙ sym (blind F B (walk_at by_dart N n (stand k ps) t) rest));
  lower = l;
}

-- the walk after b has left Lj: with aj(b) as it was, with aj(b) = e made known, and with a new dart
module _ {N n k : ℕ} {ps t : List ℕ} {j b : ℕ} {p : Partner} (v : HeadCase N n k ps t j b p) where
  -- the walk before
  abbrev here : Walk
  here = walk_at by_dart N n (stand k ps) t

  left : set ps j (suc (get_or ps j 0)) ≡ set ps j (b + 1)
  left = rw (v.first, add-one)

  walk_passed : Move here [] (resume (pass here j b)) → (ps' : List ℕ) → ps' ≡ set ps j (b + 1) → walk_at by_dart N n (stand k ps') t ≡ pass here j b
  unfolding pass walk_at
  walk_passed m ps' e = lands N n k k ps ps' t t [] (pass here j b) v.inv m refl refl refl (left ∙ sym e) refl

  walk_tied : (out : List Symbol) (e : ℕ) → Move here out (resume (tie here j b e)) → (ps' t' : List ℕ) → Tied N n ps t j b e ps' t'
      → walk_at by_dart N n (stand k ps') t' ≡ tie here j b e
  unfolding tie pass join walk_at
  walk_tied out e m ps' t' x = lands N n k k ps ps' t t' out (tie here j b e) v.inv m refl refl refl (left ∙ sym x.positions) (sym x.tables)

  walk_new : (out : List Symbol) → Move here out (resume (apply here j b Symbol.new)) → (ps' t' : List ℕ) → Tied N n ps t j b k ps' t'
      → walk_at by_dart N n (stand (k + 1) ps') t' ≡ apply here j b Symbol.new
  unfolding apply tie pass join fresh walk_at
  walk_new out m ps' t' x =
      lands N n k (k + 1) ps ps' t t' out (apply here j b Symbol.new) v.inv m refl refl (omega arith) (left ∙ sym x.positions) (sym x.tables)

  -- the queues below Lj are still empty
  still_empty : (ps' : List ℕ) → ps' ≡ set ps j (b + 1) → Emptied k ps' j × (j ≤ N)
  still_empty ps' e = (rw e (emptied_passed _ _ _ _ v.emptied), v.ranked)

  -- what a step leaves that goes on
  goes : (f : Walk → List Bool → Step) (w' : Walk) → Blind f → ((rest : List Bool) → f here rest ≡ Step.goes w' rest)
      → (rank k' : ℕ) (ps' t' : List ℕ) → walk_at by_dart N n (stand k' ps') t' ≡ w' → Emptied k' ps' rank × (rank ≤ N)
      → Steps N n k ps t f (goes_on rank k') ps' t'
  unfolding told_step Lower
  goes f w' blind g rank k' ps' t' e l = made blind (λ rest. rw e (sym (g rest))) l

  pub known_step_lem : p ≡ Partner.known → (ps' : List ℕ) → ps' ≡ set ps j (b + 1) → Steps N n k ps t (known_step j b) (goes_on j k) ps' t
  known_step_lem q ps' e =
      goes (known_step j b) (pass here j b) (known_blind j b) (λ rest. refl) j k ps' t
      (walk_passed (Move.passes j b v.heads (v.case ∙ q)) ps' e) (still_empty ps' e)

-- the step by a deduction, one way through the code at a time
module _ {N n k : ℕ} {ps t : List ℕ} {j b e : ℕ} (v : HeadCase N n k ps t j b (Partner.deduced e)) where
  -- a deduced partner has a number
  pub deduced_small : e < n
  unfolding walk_at
  deduced_small =
      let d = see_deduced (here v) j b e v.case in
      let l = deduced_below (here v) v.inv d.i j b (next_of (here v) v.inv v.heads) d.gap d.known in
      omega (arith, d.value, l, v.inv.shape.within)

  module _ (x : ℕ) (ex : x ≡ link by_dart N n t j e) where
    pub deduced_tied : x ≡ mark → (ps' t' : List ℕ) → Tied N n ps t j b e ps' t' → Steps N n k ps t (deduced_step j b e) (goes_on j k) ps' t'
    unfolding allow
    deduced_tied q ps' t' z =
        let u : unknown (here v) j e ≡ true = unfold unknown link_of walk_at in eq-eqb (link by_dart N n t j e) mark (sym ex ∙ q) in
        goes v (deduced_step j b e) (tie (here v) j b e) (deduced_blind j b e) (λ rest. rw u) j k ps' t'
        (walk_tied v [] e (Move.deduces j b e v.heads v.case u) ps' t' z) (still_empty v ps' z.positions)

    pub deduced_14 : x ≢ mark → Steps N n k ps t (deduced_step j b e) (Err Reason.Taken) ps t
    unfolding told_step number_of Lower allow
    deduced_14 q =
        let u : unknown (here v) j e ≡ false = unfold unknown link_of walk_at in ne_eqb (link by_dart N n t j e) mark (λ z. q (ex ∙ z)) in
        made (deduced_blind j b e) (λ rest. rw u) tt

-- each cause refuses
cause_refuses : (c : Cause) → of_index (cause_number c) ≡ true
unfolding of_index among cause_number
cause_refuses Unnumbered = refl
cause_refuses Itself = refl
cause_refuses Linked = refl

-- the step by a symbol, one way through the code at a time
module _ {N n k : ℕ} {ps t : List ℕ} {j b : ℕ} (v : HeadCase N n k ps t j b Partner.asked) where
  on : (x : Symbol) → permitted (here v) j b x ≡ true → (rank k' : ℕ) (ps' t' : List ℕ) → walk_at by_dart N n (stand k' ps') t' ≡ apply (here v) j b x
      → Emptied k' ps' rank × (rank ≤ N) → Steps N n k ps t (symbol_step j b x) (goes_on rank k') ps' t'
  unfolding allow
  on x h rank k' ps' t' e l = goes v (symbol_step j b x) (apply (here v) j b x) (symbol_blind j b x) (λ rest. rw h) rank k' ps' t' e l

  off : (x : Symbol) → permitted (here v) j b x ≡ false → (r : Reason) → number_of r ≡ fault (here v) j b x
      → Steps N n k ps t (symbol_step j b x) (Err r) ps t
  unfolding told_step Lower allow
  off x h r e = made (symbol_blind j b x) (λ rest. rw (h, e)) tt

  pub symbol_border : (ps' t' : List ℕ) → Tied N n ps t j b b ps' t' → Steps N n k ps t (symbol_step j b Symbol.border) (goes_on j k) ps' t'
  unfolding permitted apply
  symbol_border ps' t' x =
      on Symbol.border refl j k ps' t'
      (walk_tied v (Symbol.border ∷ []) b (Move.reads j b Symbol.border v.heads v.case refl) ps' t' x) (still_empty v ps' x.positions)

  module _ (e : ℕ) (y : Result (Unit {0}) Cause) (ey : y ≡ naming_for N n t k j b e) where
    named : naming (here v) j b e ≡ y
    unfolding naming unknown link_of walk_at
    named = sym ey

    may_name : y ≡ Ok tt → Named (here v) j b e
    may_name q = unfold Says in rw (named, q) at (naming_says (here v) j b e)

    -- a dart that may be named is numbered
    pub name_below : y ≡ Ok tt → e < k
    unfolding walk_at
    name_below q = (may_name q).below

    pub symbol_index : y ≡ Ok tt → (ps' t' : List ℕ) → Tied N n ps t j b e ps' t' → Steps N n k ps t (symbol_step j b (Symbol.index e)) (goes_on j k) ps' t'
    unfolding apply
    symbol_index q ps' t' x =
        let p = index_named (here v) j b e (may_name q) in
        on (Symbol.index e) p j k ps' t'
        (walk_tied v (Symbol.index e ∷ []) e (Move.reads j b (Symbol.index e) v.heads v.case p) ps' t' x)
        (still_empty v ps' x.positions)

    -- any of the three causes refuses by its number
    pub symbol_cause : (c : Cause) → y ≡ Err c → (r : Result Next Reason) → IsErrAnd r (λ x. number_of x ≡ cause_number c)
        → Steps N n k ps t (symbol_step j b (Symbol.index e)) r ps t
    unfolding naming_number
    symbol_cause c q (Ok x) i = absurd i
    symbol_cause c q (Err x) i =
        let f : fault (here v) j b (Symbol.index e) ≡ cause_number c = unfold fault in rw (named, q) in
        let p = not-true (permitted (here v) j b (Symbol.index e)) (sym (three_causes (here v) j b e) ∙ rw f (cause_refuses c)) in
        off (Symbol.index e) p x (i ∙ sym f)

  module _ (y : Bool) (ey : y ≡ ltb k n) where
    pub symbol_new : y ≡ true → (ps' t' : List ℕ) → Tied N n ps t j b k ps' t' → Steps N n k ps t (symbol_step j b Symbol.new) (goes_on 0 (k + 1)) ps' t'
    unfolding permitted walk_at
    symbol_new q ps' t' x =
        let p : permitted (here v) j b Symbol.new ≡ true = sym ey ∙ q in
        on Symbol.new p 0 (k + 1) ps' t'
        (walk_new v (Symbol.new ∷ []) (Move.reads j b Symbol.new v.heads v.case p) ps' t' x) (emptied_none _ _, omega arith)

    pub symbol_13 : y ≡ false → Steps N n k ps t (symbol_step j b Symbol.new) (Err Reason.TooMany) ps t
    unfolding fault permitted number_of walk_at
    symbol_13 q = off Symbol.new (sym ey ∙ q) Reason.TooMany refl
