-- The tables count by their links alone: on tables that hold the same links every call answers the same and leaves the same links. So "a longer buffer is
-- allowed, and what is past (N+1)·n is neither read nor written": tables with the same (N+1)·n entries have the same links, and what is past them stays.
-- The same holds of tables in another layout, with each link at its own place there. Rests on Follows for the calls that only read the tables, on Sessions and
-- Casts for the others.
use Prim.Native.Nat.{ℕ, zero, suc, ◌/◌, ◌%◌, ◌≤◌, ◌<◌}
use mathlib.Core.Path.{◌≡◌, refl, ap, sym, ◌∙◌}
use mathlib.Core.Logic.{◌⊎◌, inl, inr}
use mathlib.Core.Bool.{Bool, true, false, ◌&&◌, ◌||◌, cond}
use mathlib.Core.List.{List, [], ◌∷◌, ◌++◌, append_assoc, append_cancel_right}
use native.Mathlib.Omega.{arith}
use native.Mathlib.Decide.{dec_le}
use lib.ListN.{length, get_or, take, drop, length-append, length-take, take-append-drop}
use lib.Seq.{take_all, get_or-take, length-take-le, drop-append-le}
use lib.Dec.{eqb, ltb, leb}
use borrow.Author.Tests.{not-false, ltb-true, leb-true, le-ltb, le-leb}
use Rattle.rules.specs.declared.Pair.{Pair}
use Rattle.rules.specs.declared.CheckAnswer.{CheckAnswer}
use Rattle.rules.specs.declared.WriteAnswer.{WriteAnswer}
use Rattle.rules.specs.declared.ReportAnswer.{ReportAnswer}
use Rattle.rules.specs.declared.PageAnswer.{PageAnswer}
use Rattle.rules.specs.declared.Session.{Session}
use Rattle.rules.specs.declared.State.{State}
use Rattle.rules.specs.declared.State.TheVariants.{Header, Running, Complete, Closed, Refused}
use Rattle.rules.specs.Lists.{list_of, some_below, first}
use Rattle.rules.specs.Map.{Layout, dim_fits, darts_fit, size, link, pairs, pairs_for, pairs_of, pair_at, broken, first_broken, all_ranks, spread, within}
use Rattle.rules.specs.Map.{reaches}
use Rattle.rules.specs.declared.Form.{Form}
use Rattle.rules.specs.declared.Form.TheVariants.{One, Several}
use Rattle.rules.specs.Bodies.{end_number, bodies_fit}
use Rattle.rules.specs.Walk.{Walk, start, Head, head, unknown, Partner, partner, pass, tie, steps, Symbol, apply, enough, Walked, names_of}
use Rattle.rules.specs.Stream.{value, unpack, Taken, take_symbol}
use Rattle.rules.specs.Naming.{naming}
use Rattle.rules.specs.Refusals.{among}
use Rattle.rules.specs.Check.{Verdict, refuse_if, spot, outside, twisted, unreached, bodies_verdict, tables_verdict, verdict, numbering, work_after}
use Rattle.rules.specs.Check.{check_answer_of, check_answer, check_work}
use Rattle.rules.specs.Exchange.{moved_place, refusal_place, moved_verdict, moved_check, moved_write, moved_report}
use Rattle.rules.specs.Writing.{stream, start_verdict, write_verdict, page_after, write_answer_of, write_page, write_answer, write_out, write_work}
use Rattle.rules.specs.Reading.{Run, Step, permitted, fault, allow, step_taken, step_with, step_at, resuming, step, onward, run, run_all, Reading}
use Rattle.rules.specs.Reading.{spoiled, test, bodies_found, manifold, finish, settle, begun, header_form, header_dim, header_darts, read_header, reading_of}
use Rattle.rules.specs.Reading.{closing, good_answer}
use Rattle.rules.specs.Reading.{answer_of, tables_of, read_whole, read_answer, read_tables}
use Rattle.rules.specs.Session.{idle, held, store, walk_at, walk_of, waiting_of, value_fits, positions_fit, entry_fits, entries_fit, walk_fits, asks, begins}
use Rattle.rules.specs.Session.{all_done, fit_as}
use Rattle.rules.specs.Fetch.{fetching, page_call}
use Rattle.rules.specs.Session.{fit, Left, unchanged, leaves, go_on, after_end, page_as, close_as, if_fit, page, close}
use Rattle.rules.specs.Report.{report_answer_of, report_answer, report_work_after, report_work}
use Rattle.rules.proofs.Lists.{and_left, below_same, some_same, first_same}
use Rattle.rules.proofs.Places.{nth_some, nth_rank, nth_dart, Alike}
use Rattle.rules.proofs.Pairs.{nth, nth_fits, prefix_within}
use Rattle.rules.proofs.Renamed.{SameLinks, same_links, links_same, alike_same, SameMap, map_alike, alike_map}
use Rattle.rules.proofs.Check.{wanted_rooted, fine_passes}
use Rattle.rules.proofs.Positions.{Next}
use Rattle.rules.specs.Inner.{Inv}
use Rattle.rules.proofs.Walks.{start_inv, next_of}
use Rattle.rules.proofs.Moves.{moved, step_move}
use Rattle.rules.proofs.Runs.{moves_inv, moves_grow, Final, ran}
use Rattle.rules.proofs.Readings.{Settled, Header as Accepted, dim_fits_lem, fits_dim, header_darts_lem, header_inv, Comes, comes}
use Rattle.rules.proofs.Fitness.{Fits, fits_inv, running_part}
use Rattle.rules.proofs.Sessions.{header_size, reach_as, reach, page_past, close_past, read_past, reading_fits}
use Rattle.rules.proofs.Follows.{write_equal, report_follows}
use Rattle.rules.proofs.Layouts.{moved_place_lem, moved_same}
use Rattle.rules.proofs.Casts.{Casts, behind_casts, cast, CastsOf, casts_on, link_cast, partner_cast, deduced_cast, apply_cast, resume_cast, walk_links}
use Rattle.rules.proofs.Casts.{stream_links}

-- tables with the same first k entries are one, or each has k entries or more
alike_cases : (k : ℕ) (t u : List ℕ) → Alike k t u → (t ≡ u) ⊎ ((k ≤ length t) × (k ≤ length u))
alike_cases k t u A = go (ap length A) (dec_le k (length t))
  where
    go : length (take k t) ≡ length (take k u) → Dec (k ≤ length t) → (t ≡ u) ⊎ ((k ≤ length t) × (k ≤ length u))
    go e (yes h) = inr ((h, omega (arith, length-take k t, length-take k u)))
    go e (no h) = inl (sym (take_all k t (omega arith)) ∙ (A ∙ take_all k u (omega (arith, length-take k t, length-take k u))))

-- what does not change with what stands behind k entries or more is the same for both
alike_by {ℓ} : {X : Type ℓ} (k : ℕ) (f : List ℕ → X) → ((m x : List ℕ) → k ≤ length m → f (m ++ x) ≡ f m) → (t u : List ℕ) → Alike k t u → f t ≡ f u
alike_by k f c t u A = go (alike_cases k t u A)
  where
    alone : (l : List ℕ) → k ≤ length (take k u) → take k l ≡ take k u → f l ≡ f (take k u)
    alone l h e = ap f (sym (take-append-drop k l)) ∙ (ap (λ (a : List ℕ). f (a ++ drop k l)) e ∙ c (take k u) (drop k l) h)

    go : (t ≡ u) ⊎ ((k ≤ length t) × (k ≤ length u)) → f t ≡ f u
    go (inl e) = ap f e
    go (inr (h, h')) = let l : k ≤ length (take k u) = omega (arith, length-take-le k u h') in alone t l A ∙ sym (alone u l refl)

-- the ranks of a dimension's pairs are its own
pairs_within : (N : ℕ) → N ≤ 6 → (k : ℕ) → k < length (pairs_of N) → ((nth (pairs_of N) k).low ≤ N) × ((nth (pairs_of N) k).high ≤ N)
unfolding nth pairs_of pair_at
pairs_within N h6 k h =
    let l : k < pairs_for N = omega (arith, length-take-le (pairs_for N) pairs (prefix_within N h6)) in
    let (a, b) = nth_fits N k h6 l in
    rw (get_or-take (pairs_for N) pairs k (record { low = 0; high = 0 }) l) ((omega arith, b))

-- The calls that only read the tables: they look at the links alone, where the tables hold the map's entries.

-- a refusal's place, and what comes later
pub refuse_moved : (Y Z : Layout) (N n : ℕ) (b : Bool) (nr p p' : ℕ) (v v' : Verdict) → (b ≡ true → p' ≡ refusal_place Y Z N n nr p)
    → (b ≡ false → v' ≡ moved_verdict Y Z N n v) → refuse_if b nr p' v' ≡ moved_verdict Y Z N n (refuse_if b nr p v)
unfolding refuse_if moved_verdict
refuse_moved Y Z N n true nr p p' v v' f e = ap (Verdict.refused nr) (f refl)
refuse_moved Y Z N n false nr p p' v v' f e = e refl

-- where one is refused and the other by the same number, at the same link's position, the calls leave the same
module _ (F : Form) (Y Z : Layout) (N n root : ℕ) (t u work : List ℕ) (nr p : ℕ) (e : verdict F Y N n root t (length work) ≡ Verdict.refused nr p)
    (q : verdict F Z N n root u (length work) ≡ moved_verdict Y Z N n (Verdict.refused nr p)) where
  pub refused_check : (check_answer F Z N n root u work ≡ moved_check Y Z N n (check_answer F Y N n root t work))
      × (check_work F Z N n root u work ≡ check_work F Y N n root t work)
  unfolding check_answer check_work check_answer_of work_after moved_verdict moved_check
  refused_check = (rw (q, e), rw (q, e))

  pub refused_write : (start : ℕ) (out : List ℕ)
      → (write_answer F Z N n root start u work out ≡ moved_write Y Z N n (write_answer F Y N n root start t work out))
      × (write_out F Z N n root start u work out ≡ write_out F Y N n root start t work out)
  unfolding write_answer write_out write_page write_verdict start_verdict page_after write_answer_of moved_verdict moved_write
  refused_write start out = (rw (q, e), rw (q, e))

-- the report checks from dart 0
module _ (F : Form) (Y Z : Layout) (N n : ℕ) (t u work : List ℕ) (nr p : ℕ) (e : verdict F Y N n 0 t (length work) ≡ Verdict.refused nr p)
    (q : verdict F Z N n 0 u (length work) ≡ moved_verdict Y Z N n (Verdict.refused nr p)) where
  pub refused_report : (report_answer F Z N n u work ≡ moved_report Y Z N n (report_answer F Y N n t work))
      × (report_work F Z N n u work ≡ report_work F Y N n t work)
  unfolding report_answer report_answer_of report_work report_work_after moved_verdict moved_report
  refused_report = (rw (q, e), rw (q, e))

module _ {Y Z : Layout} {N n : ℕ} {t u : List ℕ} (S : SameMap Y Z N n t u) where
  links : (i d : ℕ) → i ≤ N → link Z N n u i d ≡ link Y N n t i d
  links i d h = sym (links_same S.links i d h)

  -- the links of the k-th link's rank, by rank, then dart
  nth_links : (k : ℕ) → k < size N n → (d : ℕ) → link Z N n u (k / n) d ≡ link Y N n t (k / n) d
  nth_links k h d = links (k / n) d (nth_rank N n k (nth_some N n k h) h)

  -- 6, 7, 8 and 9 are found at the same link, pair and dart
  outside_links : first (outside Z N n u) (size N n) ≡ first (outside Y N n t) (size N n)
  unfolding outside
  outside_links = first_same (outside Z N n u) (outside Y N n t) (size N n) (λ k h. rw (nth_links k h (k % n)))

  twisted_links : first (twisted Z N n u) (size N n) ≡ first (twisted Y N n t) (size N n)
  unfolding twisted
  twisted_links = first_same (twisted Z N n u) (twisted Y N n t) (size N n) (λ k h. rw (nth_links k h (k % n), nth_links k h (link Y N n t (k / n) (k % n))))

  broken_links : (p : Pair) → (p.low ≤ N) × (p.high ≤ N) → (d : ℕ) → broken Z N n u p d ≡ broken Y N n t p d
  unfolding broken
  broken_links p (l, h) d =
      let x = link Y N n t p.low d in
      let y = link Y N n t p.high x in
      let z = link Y N n t p.low y in
      rw (links p.low d l, links p.high x h, links p.low y l, links p.high z h)

  first_broken_links : (ps : List Pair) → ((k : ℕ) → k < length ps → ((nth ps k).low ≤ N) × ((nth ps k).high ≤ N))
      → first_broken Z N n u ps ≡ first_broken Y N n t ps
  unfolding first_broken nth
  first_broken_links [] f = refl
  first_broken_links (p ∷ ps) f =
      let e = first_same (broken Z N n u p) (broken Y N n t p) n (λ d l. broken_links p (f 0 (omega arith)) d) in
      let r = first_broken_links ps (λ k l. f (suc k) (omega arith)) in
      λ j. elim (ltb (e j) n) as (λ _. ℕ) [ true ↦ e j | false ↦ r j ]

  manifold_links : N ≤ 6 → first_broken Z N n u (pairs_of N) ≡ first_broken Y N n t (pairs_of N)
  manifold_links h6 = first_broken_links (pairs_of N) (pairs_within N h6)

  -- what is reached is the same
  spread_links : (keep : ℕ → Bool) (marks : List Bool) → spread Z keep N n u marks ≡ spread Y keep N n t marks
  unfolding spread
  spread_links keep marks = ap (list_of n) (λ j d. one d j)
    where
      near : Layout → List ℕ → ℕ → ℕ → Bool
      near X l d i = keep i && get_or marks (link X N n l i d) false

      one : (d : ℕ) → (get_or marks d false || some_below (suc N) (near Z u d)) ≡ (get_or marks d false || some_below (suc N) (near Y t d))
      one d = ap (λ (b : Bool). get_or marks d false || b) (some_same (suc N) (near Z u d) (near Y t d) (λ i h. rw (links i d (omega arith))))

  within_links : (keep : ℕ → Bool) (d k : ℕ) → within Z keep N n u d k ≡ within Y keep N n t d k
  unfolding within
  within_links keep d zero = refl
  within_links keep d (suc k) = ap (spread Z keep N n u) (within_links keep d k) ∙ spread_links keep (within Y keep N n t d k)

  unreached_links : (root : ℕ) → first (unreached Z N n u root) n ≡ first (unreached Y N n t root) n
  unfolding unreached reaches
  unreached_links root = first_same (unreached Z N n u root) (unreached Y N n t root) n (λ d h. rw (within_links all_ranks root n))

  -- the same link's two positions
  spot_links : (k : ℕ) → k < size N n → spot Z N n k ≡ moved_place Y Z N n (spot Y N n k)
  unfolding spot
  spot_links k h =
      let h1 = nth_some N n k h in
      sym (moved_place_lem Y Z N n (k / n) (k % n) (nth_rank N n k h1 h) (nth_dart n k h1))

  fine_moved : Verdict.fine ≡ moved_verdict Y Z N n Verdict.fine
  unfolding moved_verdict
  fine_moved = refl

  -- 9 and 30 have no position for their place
  bodies_moved : (F : Form) (p : ℕ) → bodies_verdict F n p ≡ moved_verdict Y Z N n (bodies_verdict F n p)
  unfolding bodies_verdict refusal_place among
  bodies_moved One p = refuse_moved Y Z N n _ 9 _ _ _ _ (λ q. refl) (λ _. fine_moved)
  bodies_moved Several p = refuse_moved Y Z N n _ 30 _ _ _ _ (λ q. refl) (λ _. fine_moved)

  -- so the verdict is the same with any numbers, but for the place of 6 and 7
  tables_links : (F : Form) → N ≤ 6 → (root : ℕ) → tables_verdict F Z N n root u ≡ moved_verdict Y Z N n (tables_verdict F Y N n root t)
  unfolding tables_verdict refusal_place among
  tables_links F h6 root =
      rw (outside_links, twisted_links, manifold_links h6, unreached_links root)
      (refuse_moved Y Z N n _ 6 _ _ _ _ (λ q. spot_links _ (ltb-true _ _ q)) (λ _.
      refuse_moved Y Z N n _ 7 _ _ _ _ (λ q. spot_links _ (ltb-true _ _ q)) (λ _.
      refuse_moved Y Z N n _ 8 _ _ _ _ (λ q. refl) (λ _. bodies_moved F _))))

  pub verdict_links : (F : Form) (root room : ℕ) → verdict F Z N n root u room ≡ moved_verdict Y Z N n (verdict F Y N n root t room)
  unfolding verdict refusal_place among
  verdict_links F root room =
      refuse_moved Y Z N n _ 1 0 0 _ _ (λ q. refl) (λ a.
      refuse_moved Y Z N n _ 2 0 0 _ _ (λ q. refl) (λ _.
      rw (le-ltb (length t) (size N n) S.room, le-ltb (length u) (size N n) S.room')
      (refuse_moved Y Z N n false 3 0 0 _ _ (λ q. refl) (λ _.
      refuse_moved Y Z N n _ 4 0 0 _ _ (λ q. refl) (λ _.
      refuse_moved Y Z N n _ 5 0 0 _ _ (λ q. refl) (λ _. tables_links F (dim_fits_lem N (not-false (dim_fits N) a)).1 root))))))

  -- where the check is fine the walk gives the same names
  names_links : (F : Form) (root room : ℕ) → verdict F Y N n root t room ≡ Verdict.fine → names_of F Z N n u root ≡ names_of F Y N n t root
  unfolding names_of
  names_links F root room e =
      let P = fine_passes F Y N n root t room e in
      ap (λ (r : Walked). r.names)
      (walk_links F S.links P.limits.dims.1 P.limits.darts.1 (wanted_rooted F Y N n t root P.bodies) P.valid)

  -- the check gives the same answer, but for the place of 6 and 7, and leaves the same work room
  pub check_links : (F : Form) (root : ℕ) (work : List ℕ)
      → (check_answer F Z N n root u work ≡ moved_check Y Z N n (check_answer F Y N n root t work))
      × (check_work F Z N n root u work ≡ check_work F Y N n root t work)
  check_links F root work = go (verdict F Y N n root t (length work)) refl (verdict_links F root (length work))
    where
      go : (v : Verdict) → verdict F Y N n root t (length work) ≡ v
          → verdict F Z N n root u (length work) ≡ moved_verdict Y Z N n (verdict F Y N n root t (length work))
          → (check_answer F Z N n root u work ≡ moved_check Y Z N n (check_answer F Y N n root t work))
          × (check_work F Z N n root u work ≡ check_work F Y N n root t work)
      go Verdict.fine e q = unfold check_answer check_work check_answer_of work_after moved_verdict moved_check refusal_place among numbering in
          (rw (q, e), rw (q, e, names_links F root (length work) e))
      go (Verdict.refused nr p) e q = refused_check F Y Z N n root t u work nr p e (q ∙ ap (moved_verdict Y Z N n) e)

  -- 10 and success have no position for their place
  write_late : (b : Bool) (written l : ℕ)
      → write_answer_of written l (refuse_if b 10 l Verdict.fine) ≡ moved_write Y Z N n (write_answer_of written l (refuse_if b 10 l Verdict.fine))
  unfolding refuse_if write_answer_of moved_write refusal_place among
  write_late true written l = refl
  write_late false written l = refl

  write_fine : (F : Form) (root start : ℕ) (work out : List ℕ) → verdict F Y N n root t (length work) ≡ Verdict.fine
      → write_answer F Y N n root start t work out ≡ moved_write Y Z N n (write_answer F Y N n root start t work out)
  unfolding write_answer write_verdict start_verdict
  write_fine F root start work out e =
      rw e (write_late (ltb (length (stream F Y N n t root)) start) (length (write_page F Y N n root start t work out)) (length (stream F Y N n t root)))

  -- the writer gives the same answer, but for the place of 6 and 7, and leaves the same work room and output
  pub write_links : (F : Form) (root start : ℕ) (work out : List ℕ)
      → (write_answer F Z N n root start u work out ≡ moved_write Y Z N n (write_answer F Y N n root start t work out))
      × (write_work F Z N n root u work ≡ write_work F Y N n root t work) × (write_out F Z N n root start u work out ≡ write_out F Y N n root start t work out)
  unfolding write_work
  write_links F root start work out = let (a, o) = go (verdict F Y N n root t (length work)) refl in (a, (check_links F root work).1, o)
    where
      q : verdict F Z N n root u (length work) ≡ moved_verdict Y Z N n (verdict F Y N n root t (length work))
      q = verdict_links F root (length work)

      go : (v : Verdict) → verdict F Y N n root t (length work) ≡ v
          → (write_answer F Z N n root start u work out ≡ moved_write Y Z N n (write_answer F Y N n root start t work out))
          × (write_out F Z N n root start u work out ≡ write_out F Y N n root start t work out)
      go Verdict.fine e =
          let P = fine_passes F Y N n root t (length work) e in
          let s = stream_links F S.links P.limits.dims.1 P.limits.darts.1 (wanted_rooted F Y N n t root P.bodies) P.valid in
          let (a, o) = write_equal F Y Z N n t u root root start work out e (q ∙ (unfold moved_verdict in rw e)) s in
          (a ∙ write_fine F root start work out e, o)
      go (Verdict.refused nr p) e = refused_write F Y Z N n root t u work nr p e (q ∙ ap (moved_verdict Y Z N n) e) start out

  -- the report gives the same answer, but for the place of 6 and 7, and leaves the same work room
  pub report_links : (F : Form) (work : List ℕ)
      → (report_answer F Z N n u work ≡ moved_report Y Z N n (report_answer F Y N n t work)) × (report_work F Z N n u work ≡ report_work F Y N n t work)
  unfolding report_work
  report_links F work = (go (verdict F Y N n 0 t (length work)) refl, rw q (left (verdict F Y N n 0 t (length work))))
    where
      q : verdict F Z N n 0 u (length work) ≡ moved_verdict Y Z N n (verdict F Y N n 0 t (length work))
      q = verdict_links F 0 (length work)

      left : (v : Verdict) → report_work_after n work (moved_verdict Y Z N n v) ≡ report_work_after n work v
      left Verdict.fine = unfold moved_verdict in refl
      left (Verdict.refused nr p) = unfold moved_verdict report_work_after in refl

      go : (v : Verdict) → verdict F Y N n 0 t (length work) ≡ v → report_answer F Z N n u work ≡ moved_report Y Z N n (report_answer F Y N n t work)
      go Verdict.fine e = report_follows F S.links work S.room' e ∙ (unfold report_answer report_answer_of moved_report refusal_place among in rw e)
      go (Verdict.refused nr p) e = (refused_report F Y Z N n t u work nr p e (q ∙ ap (moved_verdict Y Z N n) e)).0

-- In one layout no position moves, so the answers are equal.
module _ (Y : Layout) (N n : ℕ) where
  same_place : (nr p : ℕ) → refusal_place Y Y N n nr p ≡ p
  unfolding refusal_place
  same_place nr p = go (among (6 ∷ 7 ∷ []) nr)
    where
      go : (b : Bool) → cond b (moved_place Y Y N n p) p ≡ p
      go true = moved_same Y N n p
      go false = refl

  same_check : (a : CheckAnswer) → moved_check Y Y N n a ≡ a
  unfolding moved_check
  same_check a = λ i. record { number = a.number; place = same_place a.number a.place i }

  same_write : (a : WriteAnswer) → moved_write Y Y N n a ≡ a
  unfolding moved_write
  same_write a = λ i. record { number = a.number; place = same_place a.number a.place i; written = a.written; length = a.length }

  same_report : (a : ReportAnswer) → moved_report Y Y N n a ≡ a
  unfolding moved_report
  same_report a = λ i. record {
    number = a.number;
    place = same_place a.number a.place i;
    cells = a.cells;
    free = a.free;
    orientable = a.orientable;
  }

-- So what is past the entries is no matter: tables alike in the entries are one, or hold equal links.
alike_links : (Y : Layout) (N n : ℕ) (X : List ℕ → List ℕ → Type 0) → ((l : List ℕ) → X l l)
    → ((t u : List ℕ) → SameMap Y Y N n t u → X t u) → (t u : List ℕ) → Alike (size N n) t u → X t u
alike_links Y N n X one two t u A = go (alike_cases (size N n) t u A)
  where
    go : (t ≡ u) ⊎ ((size N n ≤ length t) × (size N n ≤ length u)) → X t u
    go (inl e) = rw e (one u)
    go (inr (h, h')) = two t u (alike_map h h' A)

-- the check
pub check_alike : (F : Form) (Y : Layout) (N n root : ℕ) (t u work : List ℕ) → Alike (size N n) t u
    → (check_answer F Y N n root t work ≡ check_answer F Y N n root u work) × (check_work F Y N n root t work ≡ check_work F Y N n root u work)
check_alike F Y N n root t u work A =
    alike_links Y N n (λ t u. (check_answer F Y N n root t work ≡ check_answer F Y N n root u work)
    × (check_work F Y N n root t work ≡ check_work F Y N n root u work))
    (λ l. (refl, refl)) (λ t u S. let (a, b) = check_links S F root work in (sym (a ∙ same_check Y N n _), sym b)) t u A

-- the writer
pub write_alike : (F : Form) (Y : Layout) (N n root start : ℕ) (t u work out : List ℕ) → Alike (size N n) t u
    → (write_answer F Y N n root start t work out ≡ write_answer F Y N n root start u work out)
    × (write_work F Y N n root t work ≡ write_work F Y N n root u work)
    × (write_out F Y N n root start t work out ≡ write_out F Y N n root start u work out)
write_alike F Y N n root start t u work out A =
    alike_links Y N n (λ t u. (write_answer F Y N n root start t work out ≡ write_answer F Y N n root start u work out)
    × (write_work F Y N n root t work ≡ write_work F Y N n root u work) × (write_out F Y N n root start t work out ≡ write_out F Y N n root start u work out))
    (λ l. (refl, refl, refl)) (λ t u S. let (a, b, c) = write_links S F root start work out in (sym (a ∙ same_write Y N n _), sym b, sym c)) t u A

-- the report
pub report_alike : (F : Form) (Y : Layout) (N n : ℕ) (t u work : List ℕ) → Alike (size N n) t u
    → (report_answer F Y N n t work ≡ report_answer F Y N n u work) × (report_work F Y N n t work ≡ report_work F Y N n u work)
report_alike F Y N n t u work A =
    alike_links Y N n (λ t u. (report_answer F Y N n t work ≡ report_answer F Y N n u work) × (report_work F Y N n t work ≡ report_work F Y N n u work))
    (λ l. (refl, refl)) (λ t u S. let (a, b) = report_links S F work in (sym (a ∙ same_report Y N n _), sym b)) t u A

-- The reader: its tables go along with its walk, so a call on tables that are held otherwise is the call on the tables themselves, held so afterwards. What
-- holds the links so is any f that casts: more entries behind, or places exchanged.

-- a run, its tables held so
unfoldable run_cast : Layout → (List ℕ → List ℕ) → Run → Run
run_cast Z f (Run.ended w bs) = Run.ended (cast Z f w) bs
run_cast Z f (Run.waits w bs) = Run.waits (cast Z f w) bs
run_cast Z f (Run.refused nr w) = Run.refused nr (cast Z f w)

-- a step
unfoldable step_cast : Layout → (List ℕ → List ℕ) → Step → Step
step_cast Z f (Step.goes w bs) = Step.goes (cast Z f w) bs
step_cast Z f (Step.stops r) = Step.stops (run_cast Z f r)

-- a reading
unfoldable pub reading_cast : Layout → (List ℕ → List ℕ) → Reading → Reading
reading_cast Z f (Reading.header bs) = Reading.header bs
reading_cast Z f (Reading.running w bs) = Reading.running (cast Z f w) bs
reading_cast Z f (Reading.complete w) = Reading.complete (cast Z f w)
reading_cast Z f (Reading.closed w) = Reading.closed (cast Z f w)
reading_cast Z f (Reading.refused nr p u) = Reading.refused nr p (f u)

-- what a call leaves
unfoldable pub left_cast : (List ℕ → List ℕ) → Left → Left
left_cast f l = record { session = l.session; answer = l.answer; tables = f l.tables }

module _ {Z : Layout} {f : List ℕ → List ℕ} (w : Walk) (C : CastsOf w Z f) (v : Inv w) (bs : List Bool) where
  allow_cast : (b : Bool) (nr : ℕ) (w1 y : Walk) (rest : List Bool) → (b ≡ true → y ≡ cast Z f w1)
      → allow b nr (cast Z f w) y rest ≡ step_cast Z f (allow b nr w w1 rest)
  unfolding allow step_cast run_cast
  allow_cast true nr w1 y rest g = ap (λ (z : Walk). Step.goes z rest) (g refl)
  allow_cast false nr w1 y rest g = refl

  permitted_cast : (j b : ℕ) (s : Symbol) → j ≤ w.dim → permitted (cast Z f w) j b s ≡ permitted w j b s
  unfolding permitted unknown
  permitted_cast j b Symbol.new hj = unfold cast in refl
  permitted_cast j b Symbol.border hj = refl
  permitted_cast j b (Symbol.index e) hj = rw (link_cast w C v.shape j e hj) (unfold cast in refl)

  fault_cast : (j b : ℕ) (s : Symbol) → j ≤ w.dim → fault (cast Z f w) j b s ≡ fault w j b s
  unfolding fault naming unknown
  fault_cast j b Symbol.new hj = refl
  fault_cast j b Symbol.border hj = refl
  fault_cast j b (Symbol.index e) hj = rw (link_cast w C v.shape j e hj) (unfold cast in refl)

  -- a body is begun alike
  resuming_cast : (s : Step) → resuming (step_cast Z f s) ≡ step_cast Z f (resuming s)
  unfolding resuming step_cast
  resuming_cast (Step.goes w1 bs1) = ap (λ (x : Walk). Step.goes x bs1) (resume_cast Z f w1)
  resuming_cast (Step.stops r) = refl

  -- a step of the reader is the same
  step_carried : step (cast Z f w) bs ≡ step_cast Z f (step w bs)
  unfolding step cast
  step_carried = ap resuming (at (head w) refl) ∙ resuming_cast (step_at w bs (head w))
    where
      taken : (j b : ℕ) → Next w j b → (k : Taken) → step_taken (cast Z f w) bs j b k ≡ step_cast Z f (step_taken w bs j b k)
      taken j b n (Taken.short k) = unfold step_taken step_cast run_cast in refl
      taken j b n (Taken.symbol s rest) = unfold step_taken in
          rw (permitted_cast j b s n.ranked, fault_cast j b s n.ranked)
          (allow_cast (permitted w j b s) (fault w j b s) (apply w j b s) (apply (cast Z f w) j b s) rest (λ p. apply_cast w C v j b s n p))

      with' : (j b : ℕ) → head w ≡ Head.at j b → (p : Partner) → partner w j b ≡ p → step_with (cast Z f w) bs j b p ≡ step_cast Z f (step_with w bs j b p)
      with' j b h Partner.known p = unfold step_with step_cast pass in refl
      with' j b h (Partner.deduced e) p = unfold step_with unknown in
          rw (link_cast w C v.shape j e (next_of w v h).next.ranked)
          (allow_cast (unknown w j e) 14 (tie w j b e) (tie (cast Z f w) j b e) bs (λ q. deduced_cast w C v j b e h p))
      with' j b h Partner.asked p = unfold step_with in taken j b (next_of w v h).next (take_symbol bs)

      at : (h : Head) → head w ≡ h → step_at (cast Z f w) bs h ≡ step_cast Z f (step_at w bs h)
      at Head.none h = unfold step_at step_cast run_cast in refl
      at (Head.at j b) h = unfold step_at in rw (partner_cast w C v.shape j b (next_of w v h).next.ranked) (with' j b h (partner w j b) refl)

-- and so is a run
run_carried : {Z : Layout} {f : List ℕ → List ℕ} (k : ℕ) (w : Walk) (bs : List Bool) → CastsOf w Z f → Inv w
    → run k (cast Z f w) bs ≡ run_cast Z f (run k w bs)
unfolding run
run_carried zero w bs C v = unfold run_cast in refl
run_carried {Z} {f} (suc k) w bs C v = rw (step_carried w C v bs) (go (λ w' bs' C' v'. run_carried k w' bs' C' v') (step w bs) refl)
  where
    go : ((w' : Walk) (bs' : List Bool) → CastsOf w' Z f → Inv w' → run k (cast Z f w') bs' ≡ run_cast Z f (run k w' bs'))
        → (s : Step) → step w bs ≡ s → onward (λ w' bs'. run k w' bs') (step_cast Z f s) ≡ run_cast Z f (onward (λ w' bs'. run k w' bs') s)
    go rec (Step.goes w' bs') e = unfold onward step_cast in
        let y = step_move w bs w' bs' e in
        let m = moved w w' y.out v y.move in
        rec w' bs' (casts_on m.grows C) m.inv
    go rec (Step.stops r) e = unfold onward step_cast in refl

-- tables held so are the same map
cast_same : {Y Z : Layout} {N n : ℕ} {f : List ℕ → List ℕ} → Casts Y Z N n f → (t : List ℕ) → size N n ≤ length t → SameMap Y Z N n t (f t)
cast_same C t h = record { links = same_links (λ i d hi hd. sym (C.links t h i d hi)); room = h; room' = C.room t h }

module _ {Z : Layout} {f : List ℕ → List ℕ} (w : Walk) (C : CastsOf w Z f) (h : size w.dim w.darts ≤ length w.links) where
  -- a refusal blanks them so
  spoiled_cast : (nr : ℕ) → spoiled nr (cast Z f w) ≡ reading_cast Z f (spoiled nr w)
  unfolding spoiled reading_cast cast steps
  spoiled_cast nr = rw (C.blanks w.links h)

  test_cast : (b : Bool) (nr : ℕ) (r r' : Reading) → r' ≡ reading_cast Z f r → test b nr (cast Z f w) r' ≡ reading_cast Z f (test b nr w r)
  unfolding test
  test_cast true nr r r' e = e
  test_cast false nr r r' e = spoiled_cast nr

  -- the tests at the walk's end are the same
  finish_cast : w.dim ≤ 6 → (rest : List Bool) → finish (cast Z f w) rest ≡ reading_cast Z f (finish w rest)
  unfolding finish bodies_found manifold reading_cast cast
  finish_cast h6 rest =
      rw (manifold_links (cast_same C w.links h) h6)
      (test_cast (bodies_found w) (end_number w.form) _ _
      (test_cast (manifold w) 16 _ _
      (test_cast (eqb (value (take (length rest % 8) rest)) 0) 17 _ _
      (test_cast (eqb (length rest / 8) 0) 18 (Reading.complete w) (Reading.complete (cast Z f w)) refl))))

-- where a run leaves the reading is the same
settle_carried : {Z : Layout} {f : List ℕ → List ℕ} (w : Walk) (bs : List Bool) → CastsOf w Z f → Inv w
    → settle (run_all (cast Z f w) bs) ≡ reading_cast Z f (settle (run_all w bs))
unfolding run_all cast
settle_carried {Z} {f} w bs C v = ap settle (run_carried k w bs C v) ∙ go (run k w bs) (ran k w bs)
  where
    k : ℕ
    k = enough w.dim w.darts

    go : (r : Run) → Final w bs r → settle (run_cast Z f r) ≡ reading_cast Z f (settle r)
    go _ (Final.ended {w' = w1} {rest = r1} y o) = unfold settle run_cast in
        let s = (moves_inv y.moves v).shape in finish_cast w1 (casts_on (moves_grow y.moves v) C) s.table s.ranks r1
    go _ (Final.waits y) = unfold settle run_cast reading_cast in refl
    go _ (Final.refused {w' = w1} nr i y _) = unfold settle run_cast in
        spoiled_cast w1 (casts_on (moves_grow y.moves v) C) (moves_inv y.moves v).shape.table nr

-- N and n of the map that a header asks for; of none while it is not in or its N does not fit
unfoldable pub header_sizes : List Bool → ℕ × ℕ
header_sizes bits = cond (leb 16 (length bits) && dim_fits (header_dim bits)) (header_dim bits, header_darts bits) (0, 0)

-- f casts, and tables t are long enough for the map held so exactly if they are as they stand
pub record CastsFor (Y Z : Layout) (f : List ℕ → List ℕ) (t : List ℕ) (z : ℕ × ℕ) : Type 0 where
  pub casts : Casts Y Z z.0 z.1 f
  pub long : leb (size z.0 z.1) (length (f t)) ≡ leb (size z.0 z.1) (length t)

-- what the bits so far come to is the same
pub reading_carried : {Y Z : Layout} {f : List ℕ → List ℕ} (bits : List Bool) (t : List ℕ) → CastsFor Y Z f t (header_sizes bits)
    → reading_of Z bits (f t) ≡ reading_cast Z f (reading_of Y bits t)
unfolding reading_of header_sizes
reading_carried {Y} {Z} {f} bits t C = go (leb 16 (length bits)) refl C
  where
    N : ℕ
    N = header_dim bits

    n : ℕ
    n = header_darts bits

    F : Form
    F = header_form bits

    from : Casts Y Z N n f → size N n ≤ length t → start F Z N n (f t) ≡ cast Z f (start F Y N n t)
    from C h = unfold start cast in rw (C.blanks t h)

    room : 16 ≤ length bits → dim_fits N ≡ true → Casts Y Z N n f → (b : Bool) → leb (size N n) (length t) ≡ b
        → begun F Z true b N n (drop 16 bits) (f t) ≡ reading_cast Z f (begun F Y true b N n (drop 16 bits) t)
    room l q C false e = unfold begun reading_cast in refl
    room l q C true e =
        let (lo, hi) = header_darts_lem bits l in
        let v = start_inv F Y N n t lo hi (dim_fits_lem N q).1 in
        unfold begun in rw (from C (leb-true (size N n) (length t) e)) (settle_carried (start F Y N n t) (drop 16 bits) (unfold start in C) v)

    body : 16 ≤ length bits → (a : Bool) → dim_fits N ≡ a → CastsFor Y Z f t (cond (true && a) (N, n) (0, 0))
        → begun F Z a (leb (size N n) (length (f t))) N n (drop 16 bits) (f t)
        ≡ reading_cast Z f (begun F Y a (leb (size N n) (length t)) N n (drop 16 bits) t)
    body l false q C = unfold begun reading_cast in refl
    body l true q C = rw C.long (room l q C.casts (leb (size N n) (length t)) refl)

    go : (b : Bool) → leb 16 (length bits) ≡ b → CastsFor Y Z f t (cond (b && dim_fits N) (N, n) (0, 0))
        → read_header Z b bits (f t) ≡ reading_cast Z f (read_header Y b bits t)
    go false q C = unfold read_header reading_cast in refl
    go true q C = unfold read_header in body (leb-true 16 (length bits) q) (dim_fits N) refl C

-- f casts the tables of a reading
unfoldable CastsHeld : Layout → (List ℕ → List ℕ) → Reading → Type 0
CastsHeld Z f (Reading.header bs) = Unit
CastsHeld Z f (Reading.running w bs) = CastsOf w Z f
CastsHeld Z f (Reading.complete w) = Unit
CastsHeld Z f (Reading.closed w) = Unit
CastsHeld Z f (Reading.refused nr p u) = Unit

-- closing is the same
closing_carried : {Y : Layout} (Z : Layout) (f : List ℕ → List ℕ) {r : Reading} → Fits Y r → CastsHeld Z f r → (t : List ℕ)
    → closing (reading_cast Z f r) (f t) ≡ reading_cast Z f (closing r t)
unfolding closing reading_cast CastsHeld
closing_carried Z f (Fits.header h) C t = refl
closing_carried Z f (Fits.running {w} v h a) C t = spoiled_cast w C v.shape.table 11
closing_carried Z f (Fits.complete v h o c) C t = refl
closing_carried Z f (Fits.refused h) C t = refl

-- record and answer are the same, the tables held so
pub leaves_carried : (Z : Layout) (f : List ℕ → List ℕ) (r : Reading) (t : List ℕ) → leaves (reading_cast Z f r) (f t) ≡ left_cast f (leaves r t)
unfolding leaves reading_cast left_cast store held idle answer_of good_answer tables_of cast steps
leaves_carried Z f (Reading.header bs) t = refl
leaves_carried Z f (Reading.running w bs) t = refl
leaves_carried Z f (Reading.complete w) t = refl
leaves_carried Z f (Reading.closed w) t = refl
leaves_carried Z f (Reading.refused nr p u) t = refl

-- the walk of a reading has the sizes of its header
casts_reading : {Y Z : Layout} {f : List ℕ → List ℕ} (bits : List Bool) (t : List ℕ) → CastsFor Y Z f t (header_sizes bits)
    → CastsHeld Z f (reading_of Y bits t)
casts_reading {Y} {Z} {f} bits t C = go (reading_of Y bits t) (comes Y bits t)
  where
    settled_casts : (w : Walk) (bs : List Bool) (r : Reading) → Inv w → CastsOf w Z f → Settled w bs r → CastsHeld Z f r
    settled_casts w bs _ v K (Settled.runs x a) = unfold CastsHeld in casts_on (moves_grow x.moves v) K
    settled_casts w bs _ v K (Settled.completes x o c g) = unfold CastsHeld in tt
    settled_casts w bs _ v K (Settled.spoils nr i x s) = unfold CastsHeld spoiled in tt

    sized : (h : Accepted bits t) → header_sizes bits ≡ (header_dim bits, header_darts bits)
    sized h = unfold header_sizes in rw (le-leb 16 (length bits) h.long, fits_dim (header_dim bits) h.dims.0 h.dims.1)

    go : (r : Reading) → Comes Y bits t r → CastsHeld Z f r
    go _ (Comes.short l) = unfold CastsHeld in tt
    go _ (Comes.unsized nr e) = unfold CastsHeld in tt
    go r (Comes.walks x s) =
        let D : CastsFor Y Z f t (header_dim bits, header_darts bits) = rw (sized x) at C in
        settled_casts (start (header_form bits) Y (header_dim bits) (header_darts bits) t) (drop 16 bits) r (header_inv Y bits t x) (unfold start in D.casts) s

-- a whole read is the same
pub read_carried : {Y Z : Layout} {f : List ℕ → List ℕ} (bytes t : List ℕ) → CastsFor Y Z f t (header_sizes (unpack bytes))
    → leaves (read_whole Z bytes (f t)) (f t) ≡ left_cast f (leaves (read_whole Y bytes t) t)
unfolding read_whole
read_carried {Y} {Z} {f} bytes t C =
    rw (reading_carried (unpack bytes) t C, closing_carried Z f (reading_fits Y bytes t) (casts_reading (unpack bytes) t C) t)
    (leaves_carried Z f (closing (reading_of Y (unpack bytes) t) t) t)

-- what running and complete share is tested the same
walk_fits_links : {Y Z : Layout} (s : Session) (t u : List ℕ) → SameMap Y Z s.dim s.darts t u → walk_fits Z s u ≡ walk_fits Y s t
unfolding walk_fits entries_fit
walk_fits_links {Y} {Z} s t u S =
    let k = size s.dim s.darts in
    let e = below_same k (entry Z u) (entry Y t) (λ k h. rw (nth_links S k h (k % s.darts))) in
    rw (le-leb k (length t) S.room, le-leb k (length u) S.room', e)
  where
    entry : Layout → List ℕ → ℕ → Bool
    entry X l k = entry_fits s (k / s.darts) (k % s.darts) (link X s.dim s.darts l (k / s.darts) (k % s.darts))

-- after a test that fails nothing counts
cut_off : (x a b c d e e' : Bool) → (x && false && a && b && c && d && e) ≡ (x && false && a && b && c && d && e')
cut_off true a b c d e e' = refl
cut_off false a b c d e e' = refl

walk_fits_cast : {Y Z : Layout} {f : List ℕ → List ℕ} (s : Session) (t : List ℕ) → CastsFor Y Z f t (s.dim, s.darts) → walk_fits Z s (f t) ≡ walk_fits Y s t
walk_fits_cast {Y} {Z} {f} s t C = go (leb (size s.dim s.darts) (length t)) refl
  where
    go : (b : Bool) → leb (size s.dim s.darts) (length t) ≡ b → walk_fits Z s (f t) ≡ walk_fits Y s t
    go true e = walk_fits_links s t (f t) (cast_same C.casts t (leb-true (size s.dim s.darts) (length t) e))
    go false e = unfold walk_fits in rw (C.long, e)
        (cut_off (dim_fits s.dim && darts_fit s.darts) (leb 1 s.count) (leb s.count s.darts)
        (bodies_fit s.form s.bodies s.count) (positions_fit s) _ _)

-- whether the next step needs a symbol is the same
asks_cast : {Z : Layout} {f : List ℕ → List ℕ} (w : Walk) → CastsOf w Z f → Inv w → asks (cast Z f w) (head w) ≡ asks w (head w)
asks_cast {Z} {f} w C v = go (head w) refl
  where
    go : (h : Head) → head w ≡ h → asks (cast Z f w) h ≡ asks w h
    go Head.none h = unfold asks in refl
    go (Head.at j b) h = unfold asks in rw (partner_cast w C v.shape j b (next_of w v h).next.ranked)

-- N and n of the map whose entries a call with these bits may touch, by the state: the session's or the header's; of a closed or refused session there is none
unfoldable pub sizes_as : State → Session → List Bool → ℕ × ℕ
sizes_as Header s ys = header_sizes (waiting_of s ++ ys)
sizes_as Running s ys = (s.dim, s.darts)
sizes_as Complete s ys = (s.dim, s.darts)
sizes_as Closed s ys = (0, 0)
sizes_as (Refused nr p) s ys = (0, 0)

-- by the session's own state; closing brings no bits
unfoldable pub sizes : Session → List Bool → ℕ × ℕ
sizes s ys = sizes_as s.state s ys

module _ {Y Z : Layout} {f : List ℕ → List ℕ} (s : Session) (seven : length s.positions ≡ 7) (ys : List Bool) (t : List ℕ) where
  -- fitness is the same, by the state and for any session
  fit_as_carried : (st : State) → CastsFor Y Z f t (sizes_as st s ys) → fit_as Z st s (f t) ≡ fit_as Y st s t
  unfolding sizes_as fit_as walk_at cast
  fit_as_carried Header C = refl
  fit_as_carried Running C = rw (walk_fits_cast s t C) (go (walk_fits Y s t) refl)
    where
      tests : Bool → Layout → List ℕ → Bool
      tests b X l = b && asks (walk_of X s l) (head (walk_of Y s t)) && leb s.waiting 13 && value_fits s && begins (waiting_of s)

      go : (b : Bool) → walk_fits Y s t ≡ b → tests b Z (f t) ≡ tests b Y t
      go false q = refl
      go true q = rw (asks_cast (walk_of Y s t) C.casts (fits_inv Y s t seven q).0)
  fit_as_carried Complete C = rw (walk_fits_cast s t C)
  fit_as_carried Closed C = refl
  fit_as_carried (Refused nr p) C = refl

  pub fit_carried : CastsFor Y Z f t (sizes s ys) → fit Z s (f t) ≡ fit Y s t
  unfolding fit sizes
  fit_carried C = fit_as_carried s.state C

  -- a page and closing are the same, by the state
  page_as_carried : (st : State) → fit_as Y st s t ≡ true → CastsFor Y Z f t (sizes_as st s ys) → page_as Z st s ys (f t) ≡ left_cast f (page_as Y st s ys t)
  unfolding sizes_as page_as go_on after_end reading_cast walk_at cast
  page_as_carried Header e C = rw (reading_carried (waiting_of s ++ ys) t C) (leaves_carried Z f (reading_of Y (waiting_of s ++ ys) t) t)
  page_as_carried Running e C =
      let v = (fits_inv Y s t seven (running_part Y s t seven e 0)).0 in
      rw (settle_carried (walk_of Y s t) (waiting_of s ++ ys) C.casts v) (leaves_carried Z f (settle (run_all (walk_of Y s t) (waiting_of s ++ ys))) t)
  page_as_carried Complete e C = go ys
    where
      h : size s.dim s.darts ≤ length t
      h = unfold walk_at in (fits_inv Y s t seven (and_left (walk_fits Y s t) (all_done s) (unfold fit_as in e))).0.shape.table

      go : (zs : List Bool) → leaves (after_end (walk_of Z s (f t)) zs) (f t) ≡ left_cast f (leaves (after_end (walk_of Y s t) zs) t)
      go [] = leaves_carried Z f (Reading.complete (walk_of Y s t)) t
      go (z ∷ zs) = rw (spoiled_cast (walk_of Y s t) C.casts h 18) (leaves_carried Z f (spoiled 18 (walk_of Y s t)) t)
  page_as_carried Closed e C = unfold unchanged left_cast in refl
  page_as_carried (Refused nr p) e C = unfold unchanged left_cast in refl

  close_as_carried : (st : State) → fit_as Y st s t ≡ true → CastsFor Y Z f t (sizes_as st s ys) → close_as Z st s (f t) ≡ left_cast f (close_as Y st s t)
  unfolding sizes_as close_as closing reading_cast walk_at cast
  close_as_carried Header e C = leaves_carried Z f (Reading.refused 11 0 t) t
  close_as_carried Running e C =
      let h = (fits_inv Y s t seven (running_part Y s t seven e 0)).0.shape.table in
      rw (spoiled_cast (walk_of Y s t) C.casts h 11) (leaves_carried Z f (spoiled 11 (walk_of Y s t)) t)
  close_as_carried Complete e C = leaves_carried Z f (Reading.closed (walk_of Y s t)) t
  close_as_carried Closed e C = unfold unchanged left_cast in refl
  close_as_carried (Refused nr p) e C = unfold unchanged left_cast in refl

  -- a fit session does what it does on the tables themselves; an unfit one leaves them
  if_fit_carried : CastsFor Y Z f t (sizes s ys) → (l l' : Left) → (fit Y s t ≡ true → l' ≡ left_cast f l)
      → if_fit (fit Z s (f t)) s (f t) l' ≡ left_cast f (if_fit (fit Y s t) s t l)
  if_fit_carried C l l' g = rw (fit_carried C) (go (fit Y s t) refl)
    where
      go : (b : Bool) → fit Y s t ≡ b → if_fit b s (f t) l' ≡ left_cast f (if_fit b s t l)
      go true e = unfold if_fit in g e
      go false e = unfold if_fit unchanged left_cast in refl

-- a page is the same
pub page_carried : {Y Z : Layout} {f : List ℕ → List ℕ} (s : Session) (bytes t : List ℕ) → length s.positions ≡ 7 → CastsFor Y Z f t (sizes s (unpack bytes))
    → page Z s bytes (f t) ≡ left_cast f (page Y s bytes t)
unfolding page fit sizes
page_carried {Y} {Z} {f} s bytes t seven C = if_fit_carried s seven ys t C (page_as Y s.state s ys t) (page_as Z s.state s ys (f t))
    (λ e. page_as_carried s seven ys t s.state e C)
  where
    ys : List Bool
    ys = unpack bytes

-- the bytes to fetch after it too
pub fetch_carried : {Y Z : Layout} {f : List ℕ → List ℕ} (s : Session) (bytes t : List ℕ) → length s.positions ≡ 7
    → CastsFor Y Z f t (sizes s (unpack bytes)) → (page_call Z s bytes (f t)).answer ≡ (page_call Y s bytes t).answer
unfolding page_call fetching left_cast
fetch_carried s bytes t seven C = rw (fit_carried s seven (unpack bytes) t C, page_carried s bytes t seven C)

-- and so is closing
pub close_carried : {Y Z : Layout} {f : List ℕ → List ℕ} (s : Session) (t : List ℕ) → length s.positions ≡ 7 → CastsFor Y Z f t (sizes s [])
    → close Z s (f t) ≡ left_cast f (close Y s t)
unfolding close fit sizes
close_carried {Y} {Z} {f} s t seven C = if_fit_carried s seven [] t C (close_as Y s.state s t) (close_as Z s.state s (f t))
    (λ e. close_as_carried s seven [] t s.state e C)

-- With more entries behind the map's own.

-- the entries that a call may touch are those of its sizes
header_reach : (bits : List Bool) → size (header_sizes bits).0 (header_sizes bits).1 ≡ header_size bits
unfolding header_sizes header_size
header_reach bits = go (leb 16 (length bits) && dim_fits (header_dim bits)) (header_dim bits, header_darts bits)
  where
    go : (b : Bool) (x : ℕ × ℕ) → size (cond b x (0, 0)).0 (cond b x (0, 0)).1 ≡ cond b (size x.0 x.1) 0
    go true x = refl
    go false x = refl

sizes_reach : (s : Session) (ys : List Bool) → size (sizes s ys).0 (sizes s ys).1 ≡ reach s ys
unfolding sizes reach
sizes_reach s ys = go s.state
  where
    go : (st : State) → size (sizes_as st s ys).0 (sizes_as st s ys).1 ≡ reach_as st s ys
    go Header = unfold sizes_as reach_as in header_reach (waiting_of s ++ ys)
    go Running = unfold sizes_as reach_as in refl
    go Complete = unfold sizes_as reach_as in refl
    go Closed = unfold sizes_as reach_as in refl
    go (Refused nr p) = unfold sizes_as reach_as in refl

behind_for : {Y : Layout} (z : ℕ × ℕ) (k : ℕ) → size z.0 z.1 ≡ k → (m x : List ℕ) → k ≤ length m → CastsFor Y Y (λ t. t ++ x) m z
behind_for {Y} z k e m x h = record {
  casts = behind_casts Y z.0 z.1 x;
  long = rw (e, le-leb k (length m) h, le-leb k (length (m ++ x)) (simp length-append (omega arith)));
}

-- what a call leaves on t and on other tables: record and answer are the same, the first k entries too, and what is past them in t is as it was
pub record SameLeft (k : ℕ) (t : List ℕ) (l l' : Left) : Type 0 where
  pub session : l.session ≡ l'.session
  pub answer : l.answer ≡ l'.answer
  pub entries : Alike k l.tables l'.tables
  pub past : drop k l.tables ≡ drop k t

-- a call that carries along what stands behind k entries or more, and leaves what is past them
module _ (k : ℕ) (call : List ℕ → Left) (carried : (m x : List ℕ) → k ≤ length m → call (m ++ x) ≡ left_cast (λ t. t ++ x) (call m))
    (past : (t : List ℕ) → drop k (call t).tables ≡ drop k t) where
  entries_carried : (m x : List ℕ) → k ≤ length m → take k (call (m ++ x)).tables ≡ take k (call m).tables
  unfolding left_cast
  entries_carried m x h = append_cancel_right (take k a) (take k b) (drop k (m ++ x)) (whole ∙ sym front)
    where
      a : List ℕ
      a = (call (m ++ x)).tables

      b : List ℕ
      b = (call m).tables

      whole : take k a ++ drop k (m ++ x) ≡ b ++ x
      whole = ap (λ (l : List ℕ). take k a ++ l) (sym (past (m ++ x))) ∙ (take-append-drop k a ∙ ap (λ (l : Left). l.tables) (carried m x h))

      front : take k b ++ drop k (m ++ x) ≡ b ++ x
      front = rw (drop-append-le k m x h, ← append_assoc, ← past m, take-append-drop)

  same_left : (t u : List ℕ) → Alike k t u → SameLeft k t (call t) (call u)
  unfolding left_cast
  same_left t u A = record {
    session = alike_by k (λ l. (call l).session) (λ m x h. ap (λ (l : Left). l.session) (carried m x h)) t u A;
    answer = alike_by k (λ l. (call l).answer) (λ m x h. ap (λ (l : Left). l.answer) (carried m x h)) t u A;
    entries = alike_by k (λ l. take k (call l).tables) entries_carried t u A;
    past = past t;
  }

-- a session is fit with both or with neither
pub fit_alike : (Y : Layout) (s : Session) (t u : List ℕ) → length s.positions ≡ 7 → Alike (reach s []) t u → fit Y s t ≡ fit Y s u
fit_alike Y s t u seven A = alike_by (reach s []) (fit Y s) (λ m x h. fit_carried s seven [] m (behind_for _ _ (sizes_reach s []) m x h)) t u A

-- a page, on any session, of the entries of its map or of the header that these bytes complete
pub page_alike : (Y : Layout) (s : Session) (bytes t u : List ℕ) → length s.positions ≡ 7 → Alike (reach s (unpack bytes)) t u
    → SameLeft (reach s (unpack bytes)) t (page Y s bytes t) (page Y s bytes u)
page_alike Y s bytes t u seven A = same_left (reach s (unpack bytes)) (page Y s bytes)
    (λ m x h. page_carried s bytes m seven (behind_for _ _ (sizes_reach s (unpack bytes)) m x h)) (λ l. page_past Y s bytes l seven) t u A

-- and so are the bytes to fetch after it
pub fetch_alike : (Y : Layout) (s : Session) (bytes t u : List ℕ) → length s.positions ≡ 7 → Alike (reach s (unpack bytes)) t u
    → (page_call Y s bytes t).answer.fetch ≡ (page_call Y s bytes u).answer.fetch
fetch_alike Y s bytes t u seven A = alike_by (reach s (unpack bytes)) (λ l. (page_call Y s bytes l).answer.fetch)
    (λ m x h. ap (λ (a : PageAnswer). a.fetch) (fetch_carried s bytes m seven (behind_for _ _ (sizes_reach s (unpack bytes)) m x h))) t u A

-- closing, on any session
pub close_alike : (Y : Layout) (s : Session) (t u : List ℕ) → length s.positions ≡ 7 → Alike (reach s []) t u
    → SameLeft (reach s []) t (close Y s t) (close Y s u)
close_alike Y s t u seven A = same_left (reach s []) (close Y s) (λ m x h. close_carried s m seven (behind_for _ _ (sizes_reach s []) m x h))
    (λ l. close_past Y s l seven) t u A

-- a whole read, of the entries that its header asks for
pub read_alike : (Y : Layout) (bytes t u : List ℕ) → Alike (header_size (unpack bytes)) t u
    → (read_answer Y bytes t ≡ read_answer Y bytes u) × Alike (header_size (unpack bytes)) (read_tables Y bytes t) (read_tables Y bytes u)
    × (drop (header_size (unpack bytes)) (read_tables Y bytes t) ≡ drop (header_size (unpack bytes)) t)
unfolding read_answer read_tables leaves
read_alike Y bytes t u A =
    let k = header_size (unpack bytes) in
    let S = same_left k (λ l. leaves (read_whole Y bytes l) l) (λ m x h. read_carried bytes m (behind_for _ _ (header_reach (unpack bytes)) m x h))
    (read_past Y bytes) t u A in
    (S.answer, S.entries, S.past)

-- The session's calls look at the lent tables' links alone.

-- what a call leaves on them: the same record, the same answer, equal links
pub record LinksLeft (Y : Layout) (N n : ℕ) (l l' : Left) : Type 0 where
  pub session : l.session ≡ l'.session
  pub answer : l.answer ≡ l'.answer
  pub links : SameLinks Y Y N n l.tables l'.tables

sizes_alike : (Y : Layout) (s : Session) (ys : List Bool) (t u : List ℕ) → SameMap Y Y (sizes s ys).0 (sizes s ys).1 t u → Alike (reach s ys) t u
sizes_alike Y s ys t u S = rw (sizes_reach s ys) at (map_alike S)

links_left : (Y : Layout) (s : Session) (ys : List Bool) (t : List ℕ) (l l' : Left) → SameLeft (reach s ys) t l l'
    → LinksLeft Y (sizes s ys).0 (sizes s ys).1 l l'
links_left Y s ys t l l' L = record { session = L.session; answer = L.answer; links = alike_same (rw (sizes_reach s ys) L.entries) }

pub fit_links : (Y : Layout) (s : Session) (t u : List ℕ) → length s.positions ≡ 7 → SameMap Y Y (sizes s []).0 (sizes s []).1 t u → fit Y s t ≡ fit Y s u
fit_links Y s t u seven S = fit_alike Y s t u seven (sizes_alike Y s [] t u S)

pub page_links : (Y : Layout) (s : Session) (bytes t u : List ℕ) → length s.positions ≡ 7
    → SameMap Y Y (sizes s (unpack bytes)).0 (sizes s (unpack bytes)).1 t u
    → LinksLeft Y (sizes s (unpack bytes)).0 (sizes s (unpack bytes)).1 (page Y s bytes t) (page Y s bytes u)
page_links Y s bytes t u seven S = links_left Y s (unpack bytes) t _ _ (page_alike Y s bytes t u seven (sizes_alike Y s (unpack bytes) t u S))

pub fetch_links : (Y : Layout) (s : Session) (bytes t u : List ℕ) → length s.positions ≡ 7
    → SameMap Y Y (sizes s (unpack bytes)).0 (sizes s (unpack bytes)).1 t u
    → (page_call Y s bytes t).answer.fetch ≡ (page_call Y s bytes u).answer.fetch
fetch_links Y s bytes t u seven S = fetch_alike Y s bytes t u seven (sizes_alike Y s (unpack bytes) t u S)

pub close_links : (Y : Layout) (s : Session) (t u : List ℕ) → length s.positions ≡ 7 → SameMap Y Y (sizes s []).0 (sizes s []).1 t u
    → LinksLeft Y (sizes s []).0 (sizes s []).1 (close Y s t) (close Y s u)
close_links Y s t u seven S = links_left Y s [] t _ _ (close_alike Y s t u seven (sizes_alike Y s [] t u S))
