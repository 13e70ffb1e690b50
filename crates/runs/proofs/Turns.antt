-- Laws of a turn: the step that is made with the bits at hand is the rules' step, one way through the code at a time. Rests on the laws of a step.
use Prim.Native.Nat.{ℕ, ◌+◌, ◌≤◌}
use mathlib.Core.Path.{◌≡◌, refl, ap, sym, ◌∙◌}
use mathlib.Core.Logic.{◌≢◌, ◌⊎◌, inl, inr}
use mathlib.Core.Bool.{Bool, true}
use mathlib.Core.List.{List}
use native.Mathlib.Omega.{arith}
use lib.ListN.{get_or, set, replicate}
use Rattle.std.specs.Prelude.{Result, Ok, Err, IsErrAnd}
use Rattle.rules.specs.declared.Form.{Form}
use Rattle.rules.specs.declared.Form.TheVariants.{One}
use Rattle.rules.specs.declared.Reason.{Reason}
use Rattle.rules.specs.declared.Stand.{Stand}
use Rattle.rules.specs.Map.{by_dart, size, blank, Limits}
use Rattle.rules.specs.Walk.{Head, head, link_of, Partner, partner}
use Rattle.rules.specs.Stream.{bits_of}
use Rattle.rules.specs.Reading.{step_taken, step_with, step_at}
use Rattle.rules.specs.Session.{begins, walk_at}
use Rattle.rules.specs.Symbols.{told_symbol}
use Rattle.rules.specs.Refusals.{number_of}
use Rattle.rules.specs.Inner.{gone, bound, Lowest, Inv, Asks}
use Rattle.rules.proofs.Walks.{start_inv}
use Rattle.rules.proofs.Bodies.{one_rests}
use Rattle.rules.proofs.Moves.{Moved, moved, step_move, one_step}
use Rattle.rules.proofs.Readings.{start_rests}
use Rattle.symbols.specs.declared.Cursor.{Cursor}
use Rattle.symbols.specs.declared.bits.Bits.{Bits}
use Rattle.symbols.specs.declared.Taken.{Taken}
use Rattle.symbols.specs.declared.Short.{Short}
use Rattle.symbols.specs.Cursors.{at_hand, CursorFits, told, PastSymbol, PastCode, SymbolTaken}
use Rattle.symbols.specs.Bits.{of}
use Rattle.steps.specs.declared.Next.{Next}
use Rattle.steps.specs.declared.Case.{Case}
use Rattle.steps.specs.Partners.{partner_for, told_partner}
use Rattle.steps.specs.Steps.{stand_in, stand, HeadCase, deduced_step, symbol_step, goes_on, told_step, Lower, Steps}
use Rattle.steps.proofs.Partners.{partner_looking}
use Rattle.steps.proofs.Steps.{walk_start, partner_stand, stand_limits, serves, known_step_lem}
use Rattle.runs.specs.declared.Turned.{Turned}
use Rattle.runs.specs.declared.Stop.{Stop}
use Rattle.runs.specs.declared.Stop.TheVariants as stop
use Rattle.runs.specs.Turns.{Ready, told_turn, Again, Turns}

-- the start may be stepped
pub ready_start : (F : Form) (N n : ℕ) (c : Cursor) (t : List ℕ) → (1 ≤ N) × (N ≤ 6) → (1 ≤ n) × (n ≤ 4096) → c.waiting ≡ 0
    → Ready N n (stand_in F 1 1 (replicate 7 0)) c (blank (size N n) t)
ready_start F N n c t hN hn z =
    let e = walk_start F N n t hn.0 hn.1 hN.1 in
    record {
      inv = rw e (start_inv F by_dart N n t hn.0 hn.1 hN.1);
      rests = rw e (start_rests F by_dart N n t);
      dims = hN.0;
      begun = inl z;
    }

module _ {N n : ℕ} {s : Stand} {c : Cursor} {t : List ℕ} (y : Ready N n s c t) where
  pub ready_limits : Limits N n t
  ready_limits = stand_limits N n s t y.dims y.inv

-- one walk in two forms, each with its bodies: only what is said of bodies differs
module _ (F F' : Form) (B B' N n k : ℕ) (ps t : List ℕ) where
  pub inv_in : Inv (walk_at by_dart N n (stand_in F B k ps) t) → 1 ≤ B' → B' ≤ k → (F' ≡ One → B' ≡ 1) → Inv (walk_at by_dart N n (stand_in F' B' k ps) t)
  unfolding walk_at gone bound link_of
  inv_in v some few one =
      let s = v.shape in
      let l = v.links in
      record {
        shape = record {
          ranks = s.ranks;
          lanes = s.lanes;
          seven = s.seven;
          table = s.table;
          some = s.some;
          within = s.within;
          small = s.small;
          queue = s.queue;
          fall = s.fall;
          past = s.past;
        };
        links = record { near = l.near; far = l.far; behind = l.behind };
        bodies = record { some = some; few = few; one = one };
      }

  partner_in_lem : (j b : ℕ) → partner (walk_at by_dart N n (stand_in F' B' k ps) t) j b ≡ partner (walk_at by_dart N n (stand_in F B k ps) t) j b
  unfolding walk_at
  partner_in_lem j b = partner_looking (walk_at by_dart N n (stand_in F' B' k ps) t) j b ∙ sym (partner_looking (walk_at by_dart N n (stand_in F B k ps) t) j b)

  asks_in : (bs : List Bool) → Asks (walk_at by_dart N n (stand_in F B k ps) t) bs → Asks (walk_at by_dart N n (stand_in F' B' k ps) t) bs
  unfolding walk_at
  asks_in bs a = record { rank = a.rank; dart = a.dart; next = a.next; needs = partner_in_lem a.rank a.dart ∙ a.needs; begun = a.begun }

-- where a walk may be stepped it may be with one body, and that is all that a turn wants
pub ready_one : (F : Form) (B N n k : ℕ) (ps : List ℕ) (c : Cursor) (t : List ℕ) → Ready N n (stand_in F B k ps) c t → Ready N n (stand k ps) c t
ready_one F B N n k ps c t y = record {
  inv = inv_in F One B 1 N n k ps t y.inv (omega arith) (unfold walk_at in y.inv.shape.some) (λ o. refl);
  rests = one_rests (walk_at by_dart N n (stand k ps) t) (unfold walk_at in refl);
  dims = y.dims;
  begun = go y.begun;
}
  where
    go : (c.waiting ≡ 0) ⊎ Asks (walk_at by_dart N n (stand_in F B k ps) t) (bits_of c.waiting c.value)
        → (c.waiting ≡ 0) ⊎ Asks (walk_at by_dart N n (stand k ps) t) (bits_of c.waiting c.value)
    go (inl q) = inl q
    go (inr a) = inr (asks_in F One B 1 N n k ps t (bits_of c.waiting c.value) a)

at_rank : {h : Head} {i d j b : ℕ} → h ≡ Head.at i d → h ≡ Head.at j b → i ≡ j
at_rank e f = cc

at_dart : {h : Head} {i d j b : ℕ} → h ≡ Head.at i d → h ≡ Head.at j b → d ≡ b
at_dart e f = cc

known_asked : Partner.known ≢ Partner.asked
known_asked e = let z : ◌≡◌ {A = ℕ} 0 1 = cc in omega arith

deduced_asked : {e : ℕ} → Partner.deduced e ≢ Partner.asked
deduced_asked q = let z : ◌≡◌ {A = ℕ} 0 1 = cc in omega arith

-- the turn of a step that was made with the bits c left
abbrev pub after_step : Result Next Reason → Bits → Result Turned Stop
after_step (Ok x) c = Ok (record { next = x; bits = c })
after_step (Err e) c = Err (stop.Refused (number_of e))

pub after_refused : {e : Reason} {r : Result Next Reason} (c : Bits) → r ≡ Err e → (g : Result Turned Stop) → IsErrAnd g (λ y. y ≡ stop.Refused (number_of e))
    → after_step r c ≡ g
after_refused c q (Ok x) h = absurd h
after_refused c q (Err y) h = rw (q, h)

-- a turn told by its step
told_after : (F : Form) (B N n k : ℕ) (c d : Bits) (r : Result Next Reason) (ps t : List ℕ)
    → told_turn F B N n k c (after_step r d) ps t ≡ told_step F B N n k r ps t (of at_hand d)
unfolding told_turn told_step
told_after F B N n k c d (Ok x) ps t = refl
told_after F B N n k c d (Err e) ps t = refl

-- what a step tells with the bits d left, in whatever form: it is the rules' step with the bits c
abbrev Tells : ℕ → ℕ → ℕ → List ℕ → Bits → List ℕ → Bits → Result Next Reason → List ℕ → List ℕ → Type 0
Tells N n k ps c t d r ps' t' =
    (F : Form) (B : ℕ) →
    let w = walk_at by_dart N n (stand_in F B k ps) t in
    told_step F B N n k r ps' t' (of at_hand d) ≡ step_at w (of at_hand c) (head w)

-- one turn, at a stand that may be stepped
module _ (c : Bits) {N n k : ℕ} {ps t : List ℕ} (y : Ready N n (stand k ps) c.cursor t) where
  -- the head of the lowest queue that isn't empty is served, by what the tables say is to be done for it
  pub served : {j : ℕ} → Lowest N k ps j → (x : Case) → told_partner x ≡ partner_for N n t j (get_or ps j 0) → (x' : Case) → x ≡ x'
      → HeadCase N n k ps t j (get_or ps j 0) (told_partner x')
  served {j} low x ex x' e =
      serves N n k ps t y.dims y.inv j low (told_partner x') (partner_stand N n (stand k ps) t j (get_or ps j 0) x ex ∙ ap told_partner e)

  -- where a step goes on, its walk may be stepped with the bits d
  goes_again : (d : Bits) → d.page.now ≡ c.page.now → d.cursor.waiting ≡ 0 → (r : Result Next Reason) (ps' t' : List ℕ) → Tells N n k ps c t d r ps' t'
      → Lower N r ps' → Again N n c (after_step r d) ps' t'
  unfolding told_step Lower Again
  goes_again d f z (Ok r) ps' t' e l =
      let w = walk_at by_dart N n (stand k ps) t in
      let w' = walk_at by_dart N n (stand r.count ps') t' in
      let x = step_move w (of at_hand c) w' (of at_hand d) (one_step w (of at_hand c) (unfold walk_at in refl) ∙ sym (e One 1)) in
      let m : Moved w w' = moved w w' x.out y.inv x.move in
      (f, record { inv = m.inv; rests = m.rests; dims = y.dims; begun = inl z }, l.0, l.1)
  goes_again d f z (Err r) ps' t' e l = tt

  -- what a turn leaves, from what its step tells with the bits d left
  turns : (d : Bits) → d.page.now ≡ c.page.now → d.cursor.waiting ≡ 0 → (r : Result Next Reason) (ps' t' : List ℕ) → Tells N n k ps c t d r ps' t'
      → Lower N r ps' → Turns N n k ps c t (after_step r d) ps' t'
  turns d f z r ps' t' e l =
      record { tells = λ F B. told_after F B N n k c d r ps' t' ∙ e F B; again = goes_again d f z r ps' t' e l }

  -- at the head b of Lj, by what is to be done for it
  module _ {j b : ℕ} {p : Partner} (v : HeadCase N n k ps t j b p) where
    stepping : (F : Form) (B : ℕ) (bs : List Bool) →
        let w = walk_at by_dart N n (stand_in F B k ps) t in
        step_at w bs (head w) ≡ step_with w bs j b p
    unfolding step_at walk_at
    stepping F B bs = rw (v.heads, partner_in_lem One F 1 B N n k ps t j b ∙ v.case)

    -- bits wait only where a symbol is asked
    still : p ≢ Partner.asked → c.cursor.waiting ≡ 0
    still ne = go y.begun
      where
        go : (c.cursor.waiting ≡ 0) ⊎ Asks (walk_at by_dart N n (stand k ps) t) (bits_of c.cursor.waiting c.cursor.value) → c.cursor.waiting ≡ 0
        go (inl q) = q
        go (inr a) =
            let w = walk_at by_dart N n (stand k ps) t in
            let ej : a.rank ≡ j = at_rank a.next v.heads in
            let eb : a.dart ≡ b = at_dart a.next v.heads in
            absurd (ne (sym v.case ∙ (ap (λ (i : ℕ). partner w i b) (sym ej) ∙ (ap (partner w a.rank) (sym eb) ∙ a.needs))))

    -- the bits that wait begin the symbol that is asked
    begun : begins (bits_of c.cursor.waiting c.cursor.value) ≡ true
    begun = go y.begun
      where
        go : (c.cursor.waiting ≡ 0) ⊎ Asks (walk_at by_dart N n (stand k ps) t) (bits_of c.cursor.waiting c.cursor.value)
            → begins (bits_of c.cursor.waiting c.cursor.value) ≡ true
        go (inl q) = unfold bits_of begins in rw q
        go (inr a) = a.begun

  pub turn_known : {j b : ℕ} → HeadCase N n k ps t j b Partner.known → (ps' : List ℕ) → ps' ≡ set ps j (b + 1)
      → Turns N n k ps c t (Ok (record { next = record { rank = j; count = k }; bits = c })) ps' t
  unfolding step_with
  turn_known {j} v ps' e =
      let x = known_step_lem v refl ps' e in
      turns c refl (still v known_asked) (goes_on j k) ps' t (λ F B. x.tells F B (of at_hand c) ∙ sym (stepping v F B (of at_hand c))) x.lower

  pub turn_deduced : {j b e : ℕ} → HeadCase N n k ps t j b (Partner.deduced e) → (r : Result Next Reason) (ps' t' : List ℕ)
      → Steps N n k ps t (deduced_step j b e) r ps' t' → Turns N n k ps c t (after_step r c) ps' t'
  unfolding step_with
  turn_deduced v r ps' t' x =
      turns c refl (still v deduced_asked) r ps' t' (λ F B. x.tells F B (of at_hand c) ∙ sym (stepping v F B (of at_hand c))) x.lower

  module _ {j b : ℕ} (v : HeadCase N n k ps t j b Partner.asked) (got : Result Taken Short) (x : SymbolTaken got c.cursor c.page.now) where
    taking : (F : Form) (B : ℕ) →
        let w = walk_at by_dart N n (stand_in F B k ps) t in
        step_at w (of at_hand c) (head w) ≡ step_taken w (of at_hand c) j b (told got c.page.now)
    unfolding step_with
    taking F B = stepping v F B (of at_hand c) ∙ rw x.tells

    pub turn_short : (e : Short) → got ≡ Err e → (g : Result Turned Stop) → IsErrAnd g (λ y. y ≡ stop.Waits e.0) → Turns N n k ps c t g ps t
    unfolding told_turn Again step_taken told
    turn_short e q (Ok z) h = absurd h
    turn_short e q (Err z) h = rw h (record { tells = λ F B. sym (taking F B ∙ rw q); again = sym (rw q at x.tells) })

    pub symbol_fits : (s : Taken) → got ≡ Ok s → CursorFits s.cursor c.page.now
    unfolding PastSymbol
    symbol_fits s e =
        let p : PastCode c.cursor s.cursor c.page.now = rw e at x.past in
        p.fits

    -- the step by the symbol, with the bits past it
    symbol_turns : (s : Taken) → got ≡ Ok s → (r : Result Next Reason) (ps' t' : List ℕ) → Steps N n k ps t (symbol_step j b (told_symbol s.symbol)) r ps' t'
        → (d : Bits) → d.cursor ≡ s.cursor → d.page.now ≡ c.page.now → Turns N n k ps c t (after_step r d) ps' t'
    unfolding step_taken told PastSymbol
    symbol_turns s e r ps' t' z d ed ep =
        let p : PastCode c.cursor s.cursor c.page.now = rw e at x.past in
        turns d ep (rw ed (p.used (begun v))) r ps' t'
        (λ F B. rw (ed, ep) (z.tells F B (at_hand s.cursor c.page.now) ∙ sym (taking F B ∙ rw e))) z.lower

    pub turn_symbol : (s : Taken) → got ≡ Ok s → (n' : Next) (r : Result Next Reason) → r ≡ Ok n' → (ps' t' : List ℕ)
        → Steps N n k ps t (symbol_step j b (told_symbol s.symbol)) r ps' t'
        → (d : Bits) → d.cursor ≡ s.cursor → d.page.now ≡ c.page.now → Turns N n k ps c t (Ok (record { next = n'; bits = d })) ps' t'
    turn_symbol s e n' r q ps' t' z d ed ep = rw q at (symbol_turns s e r ps' t' z d ed ep)

    pub turn_refused : (s : Taken) → got ≡ Ok s → (i : Reason) (r : Result Next Reason) → r ≡ Err i → (ps' t' : List ℕ)
        → Steps N n k ps t (symbol_step j b (told_symbol s.symbol)) r ps' t'
        → (g : Result Turned Stop) → IsErrAnd g (λ y. y ≡ stop.Refused (number_of i)) → Turns N n k ps c t g ps' t'
    turn_refused s e i r q ps' t' z g h =
        let d : Bits = record { cursor = s.cursor; page = c.page; fits = symbol_fits s e } in
        rw (after_refused d q g h) at (symbol_turns s e r ps' t' z d refl refl)
