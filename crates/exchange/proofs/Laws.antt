-- What each way through a session's call leaves in the rooms, over plain values. Rests on no other law.
use Prim.Native.Nat.{ℕ}
use mathlib.Core.Path.{◌≡◌, refl, ap, sym}
use mathlib.Core.Bool.{Bool, true, false, cond}
use mathlib.Core.List.{List}
use lib.ListN.{get_or}
use Rattle.rules.specs.declared.Session.{Session}
use Rattle.rules.specs.Session.{Left}
use Rattle.rules.specs.Fetch.{PageLeft}
use Rattle.rules.specs.declared.ReadAnswer.{ReadAnswer}
use Rattle.rules.specs.declared.PageAnswer.{PageAnswer}
use Rattle.std.specs.Prelude.{Some, None}
use Rattle.stored.specs.Answers.{read_numbers, page_numbers}
use Rattle.stored.specs.Layout.{stored_session, session_by, session_in, standing}
use Rattle.exchange.specs.Rooms.{Lent, lent, stored, page_stored, if_standing, called}

-- what `session_in` tells: of a record that no session stands for, and of one that a session stands for
stands_none : (r : List ℕ) → None ≡ session_in r → standing r ≡ false
unfolding session_in
stands_none r e = go (standing r) e
  where
    go : (b : Bool) → None ≡ cond b (Some (session_by r)) None → b ≡ false
    go true q = cc
    go false q = refl

stands_some : (r : List ℕ) (s : Session) → Some s ≡ session_in r → (standing r ≡ true) × (session_by r ≡ s)
unfolding session_in
stands_some r s e = go (standing r) e
  where
    go : (b : Bool) → Some s ≡ cond b (Some (session_by r)) None → (b ≡ true) × (session_by r ≡ s)
    go true q = (refl, cc)
    go false q = cc

-- a session's call on a stored session: what the rooms hold after it, and the number that it returns
module _ (f : Session → Lent) (unfit r t : List ℕ) where
  pub not_standing : None ≡ session_in r → {a : List ℕ} → a ≡ unfit → {k : ℕ} → get_or unfit 0 0 ≡ k
      → (lent r a t ≡ called f unfit r t) × (k ≡ get_or a 0 0)
  unfolding called if_standing
  not_standing q ea n = (rw (stands_none r q, ea) refl, sym (rw ea n))

  pub by_session : {s : Session} → Some s ≡ session_in r → (l : Lent) → l ≡ f s → l ≡ called f unfit r t
  unfolding called if_standing
  by_session {s} q l e = let z = stands_some r s q in rw (z.0, z.1) e

-- what closing and a page leave, as stored
pub close_stored : (s : Session) (x : ReadAnswer) (t : List ℕ) {z : Left} → record { session = s; answer = x; tables = t } ≡ z → {k a : List ℕ}
    → k ≡ stored_session s → a ≡ read_numbers x → lent k a t ≡ stored z
unfolding stored
close_stored s x t e ek ea = rw (ek, ea) (ap stored e)

pub page_stored_lem : (s : Session) (x : PageAnswer) (t : List ℕ) {z : PageLeft} → record { session = s; answer = x; tables = t } ≡ z → {k a : List ℕ}
    → k ≡ stored_session s → a ≡ page_numbers x → lent k a t ≡ page_stored z
unfolding page_stored
page_stored_lem s x t e ek ea = rw (ek, ea) (ap page_stored e)
