-- In the one-body form the walk over a map follows a renaming of its darts: where f carries m to m', the walk over m' from the root's new name is step for step
-- the walk over m from the root. It writes the same symbols, and its names are the renamed ones. So the stream does not change and the writer answers
-- the same. The check accepts both or neither and the report answers the same, in either form. Rests on Renamed, Cells, Check and Numbering.
use Prim.Native.Nat.{ℕ, zero, suc, ◌≤◌, ◌<◌}
use mathlib.Core.Path.{◌≡◌, refl, ap, sym, ◌∙◌}
use mathlib.Core.Bool.{Bool, true, false, cond}
use mathlib.Core.List.{List, [], ◌∷◌, map, map-append}
use native.Mathlib.Omega.{arith}
use native.Mathlib.Decide.{ℕ_discrete}
use lib.ListN.{length, get_or, length-map}
use lib.Dec.{eqb, leb}
use borrow.Author.Tests.{eq-eqb, ne_eqb}
use Rattle.rules.specs.declared.Form.{Form}
use Rattle.rules.specs.declared.Form.TheVariants.{One, Several}
use Rattle.rules.specs.Lists.{number, list_of}
use Rattle.rules.specs.Bodies.{Apart, Wanted}
use Rattle.rules.specs.Map.{Layout, mark, size, link, all_ranks, reaches, Valid}
use Rattle.rules.specs.Walk.{Walk, start, Head, head, Partner, partner, Symbol, enough, Written, symbol_of, named, write_symbol, write_with}
use Rattle.rules.specs.Walk.{write_at, resumed, write_step}
use Rattle.rules.specs.Walk.{Walked, prepend, write_on, write, walked, names_of, symbols_of}
use Rattle.rules.specs.Writing.{stream, start_verdict, write_verdict, page_after, write_page, write_answer, write_out}
use Rattle.rules.specs.Report.{cells, cell_counts, report_answer_of, report_answer}
use Rattle.rules.specs.Check.{Verdict, verdict}
use Rattle.rules.specs.Inner.{Inv}
use Rattle.rules.proofs.Lists.{not_both}
use Rattle.rules.proofs.Orbits.{Closed, reached_sym, reached_trans, reaches_reached, reached_reaches, valid_closed, connected_any}
use Rattle.rules.proofs.Renamed.{Carries, carries_then, SameLinks, same_links, same_sym, get_d_mapped, valid_to, valid_from, connected_to, connected_from}
use Rattle.rules.proofs.Renamed.{onto, back, reached_to, reached_from}
use Rattle.rules.proofs.Cells.{report_map_alone}
use Rattle.rules.proofs.Check.{Passes, wanted_rooted, fine_passes, passes_fine}
use Rattle.rules.proofs.Links.{next_below}
use Rattle.rules.proofs.Walks.{start_inv, next_of}
use Rattle.rules.proofs.Moves.{moved}
use Rattle.rules.proofs.Names.{name, Names, write_move, start_names, one_writes}
use Rattle.rules.proofs.Numbering.{name_below}
use Rattle.rules.proofs.Layouts.{laid, link_laid}
use Rattle.rules.proofs.Casts.{walk_links}

-- a step's names are renamed; what it writes and where the walk goes are the same
unfoldable pub renamed_step : (ℕ → ℕ) → Written → Written
renamed_step f Written.finished = Written.finished
renamed_step f (Written.wrote out w names) = Written.wrote out w (map f names)

-- a whole walk's names are renamed
unfoldable pub renamed : (ℕ → ℕ) → Walked → Walked
renamed f r = record { symbols = r.symbols; names = map f r.names }

module _ (f : ℕ → ℕ) (n : ℕ) (once : (d e : ℕ) → d < n → e < n → f d ≡ f e → d ≡ e) where
  eqb_renamed : (d e : ℕ) → d < n → e < n → eqb (f d) (f e) ≡ eqb d e
  eqb_renamed d e hd he = go (ℕ_discrete d e)
    where
      go : Dec (d ≡ e) → eqb (f d) (f e) ≡ eqb d e
      go (yes q) = eq-eqb (f d) (f e) (ap f q) ∙ sym (eq-eqb d e q)
      go (no q) = ne_eqb (f d) (f e) (λ z. q (once d e hd he z)) ∙ sym (ne_eqb d e q)

  -- a dart's place among the names stays
  pub number_mapped : (names : List ℕ) (x : ℕ) → ((p : ℕ) → p < length names → get_or names p mark < n) → x < n → number (map f names) (f x) ≡ number names x
  unfolding number
  number_mapped [] x low hx = refl
  number_mapped (y ∷ names) x low hx =
      rw (eqb_renamed y x (low 0 (omega arith)) hx, number_mapped names x (λ p h. low (suc p) (omega arith)) hx)

-- one step: the same symbols, the same walk, the renamed names
pub step_renamed : {f : ℕ → ℕ} {m m' : List ℕ} {root : ℕ} (w : Walk) (names : List ℕ) → Inv w → Names m root w names → Valid w.layout w.dim w.darts m
    → Carries w.layout w.layout f w.dim w.darts m m' → w.form ≡ One → write_step m' w (map f names) ≡ renamed_step f (write_step m w names)
step_renamed {f} {m} {m'} w names v M A K o =
    one_writes m' w (map f names) o ∙ (go (head w) refl ∙ ap (renamed_step f) (sym (one_writes m w names o)))
  where
    written : (j b x : ℕ) (s : Symbol) → write_symbol w (map f names) j b (f x) s ≡ renamed_step f (write_symbol w names j b x s)
    written j b x Symbol.new = unfold write_symbol named renamed_step in rw (map-append f names (x ∷ []))
    written j b x Symbol.border = unfold write_symbol named renamed_step in refl
    written j b x (Symbol.index e) = unfold write_symbol named renamed_step in refl

    with' : (j b d x : ℕ) → d < w.darts → x < w.darts → (p : Partner)
        → write_with w (map f names) j b (f d) (f x) p ≡ renamed_step f (write_with w names j b d x p)
    with' j b d x hd hx Partner.known = unfold write_with renamed_step in refl
    with' j b d x hd hx (Partner.deduced e) = unfold write_with renamed_step in refl
    with' j b d x hd hx Partner.asked = unfold write_with in
        let low : (p : ℕ) → p < length names → get_or names p mark < w.darts = λ p h. unfold name in (M.low p (omega (arith, M.len))) in
        rw (eqb_renamed f w.darts K.once x d hx hd, number_mapped f w.darts K.once names x low hx, length-map names f)
        (written j b x (symbol_of (eqb x d) (eqb (number names x) (length names)) (number names x)))

    go : (h : Head) → head w ≡ h → write_at m' w (map f names) h ≡ renamed_step f (write_at m w names h)
    go Head.none h = unfold write_at renamed_step in refl
    go (Head.at j b) h = unfold write_at name in
        let n = (next_of w v h).next in
        let hb = next_below w v.shape v.links j b n in
        let hd : get_or names b mark < w.darts = M.low b hb in
        let e = get_d_mapped f names b mark (omega (arith, M.len)) in
        let hx = A.inside j (get_or names b mark) n.ranked hd in
        rw (e, K.links j (get_or names b mark) n.ranked hd) (with' j b (get_or names b mark) _ hd hx (partner w j b))

-- and so every walk on its way
pub write_renamed : {f : ℕ → ℕ} {m m' : List ℕ} {root : ℕ} (k : ℕ) (w : Walk) (names : List ℕ) → Inv w → Names m root w names
    → Valid w.layout w.dim w.darts m
    → Carries w.layout w.layout f w.dim w.darts m m' → w.form ≡ One → write k m' w (map f names) ≡ renamed f (write k m w names)
unfolding write
write_renamed zero w names v M A K o = unfold renamed in refl
write_renamed {f} {m} {m'} {root} (suc k) w names v M A K o = rw (step_renamed w names v M A K o)
    (go (λ w' names' v' M' A' K' o'. write_renamed k w' names' v' M' A' K' o') (head w) refl)
  where
    go : ((w' : Walk) (names' : List ℕ) → Inv w' → Names m root w' names' → Valid w'.layout w'.dim w'.darts m
        → Carries w'.layout w'.layout f w'.dim w'.darts m m' → w'.form ≡ One
        → write k m' w' (map f names') ≡ renamed f (write k m w' names'))
        → (h : Head) → head w ≡ h
        → write_on (λ w' names'. write k m' w' names') (map f names) (renamed_step f (write_step m w names))
        ≡ renamed f (write_on (λ w' names'. write k m w' names') names (write_step m w names))
    go rec Head.none h = unfold write_step resumed write_at write_on renamed_step renamed in rw h
    go rec (Head.at j b) h =
        let y = write_move m root w names v M A j b h in
        let g = moved w y.walk y.out v y.move in
        let A' : Valid y.walk.layout y.walk.dim y.walk.darts m = rw (g.grows.layout, g.grows.dim, g.grows.darts) A in
        let K' : Carries y.walk.layout y.walk.layout f y.walk.dim y.walk.darts m m' = rw (g.grows.layout, g.grows.dim, g.grows.darts) K in
        rw y.eq (unfold write_on renamed_step renamed prepend in
        ap (prepend y.out) (rec y.walk y.names' g.inv y.keeps A' K' (g.grows.form ∙ o)))

module _ {Y Z : Layout} {f : ℕ → ℕ} {N n : ℕ} {m m' : List ℕ} (K : Carries Y Z f N n m m')
    (h6 : N ≤ 6) (hn : n ≤ 4096) {root : ℕ} (hr : root < n) (A : Valid Y N n m) where
  -- the whole walk: the same symbols, the renamed names
  pub walk_renamed : walked One Z N n m' (f root) ≡ renamed f (walked One Y N n m root)
  walk_renamed = walk_links One same h6 hn (K.low root hr) (valid_to carried A) ∙ one
    where
      -- m' in tables of the layout of m
      m2 : List ℕ
      m2 = laid Y N n (link Z N n m')

      same : SameLinks Y Z N n m2 m'
      same = same_links (λ i d hi hd. link_laid Y N n (link Z N n m') i d hi hd)

      carried : Carries Y Y f N n m m2
      carried = carries_then K (same_sym same)

      one : walked One Y N n m2 (f root) ≡ renamed f (walked One Y N n m root)
      one = unfold walked in
          write_renamed (enough N n) (start One Y N n []) (root ∷ []) (start_inv One Y N n [] (omega arith) hn h6) (start_names One Y N n [] m root hr)
          (unfold start in A) (unfold start in carried) (unfold start in refl)

  pub symbols_renamed : symbols_of One Z N n m' (f root) ≡ symbols_of One Y N n m root
  unfolding symbols_of renamed
  symbols_renamed = ap (λ (r : Walked). r.symbols) walk_renamed

  pub names_renamed : names_of One Z N n m' (f root) ≡ map f (names_of One Y N n m root)
  unfolding names_of renamed
  names_renamed = ap (λ (r : Walked). r.names) walk_renamed

  -- the stream does not change
  pub stream_renamed : stream One Z N n m' (f root) ≡ stream One Y N n m root
  unfolding stream
  stream_renamed = rw symbols_renamed

  -- a dart's walk number goes with it
  pub number_renamed : (d : ℕ) → d < n → number (names_of One Z N n m' (f root)) (f d) ≡ number (names_of One Y N n m root) d
  number_renamed d h = rw names_renamed
      (number_mapped f n K.once (names_of One Y N n m root) d (λ p l. unfold name in name_below One Y N n m root h6 hn hr A p l) h)

-- the bodies that a form wants go along, and do not depend on the root
module _ {Y Z : Layout} {f : ℕ → ℕ} {N n : ℕ} {m m' : List ℕ} (K : Carries Y Z f N n m m') (C : Closed Y N n m) (root : ℕ) where
  apart_to : Apart Y N n m root → Apart Z N n m' (f root)
  apart_to a = record {
    rooted = K.low root a.rooted;
    other = f a.other;
    dart = K.low a.other a.dart;
    unreached = λ r. a.unreached (reached_from K C a.rooted a.dart r);
  }

  apart_from : Apart Z N n m' (f root) → Apart Y N n m root
  apart_from a =
      let h = K.only root a.rooted in
      let (l, e) = onto K a.other a.dart in
      record { rooted = h; other = back f n a.other; dart = l; unreached = λ r. a.unreached (rw e at (reached_to K C h r)) }

pub wanted_to : (F : Form) {Y Z : Layout} {f : ℕ → ℕ} {N n : ℕ} {m m' : List ℕ} → Carries Y Z f N n m m' → Closed Y N n m → (root : ℕ)
    → Wanted F Y N n m root → Wanted F Z N n m' (f root)
wanted_to One K C root x = connected_to K C x
wanted_to Several K C root x = apart_to K C root x

pub wanted_from : (F : Form) {Y Z : Layout} {f : ℕ → ℕ} {N n : ℕ} {m m' : List ℕ} → Carries Y Z f N n m m' → Closed Y N n m → (root : ℕ)
    → Wanted F Z N n m' (f root) → Wanted F Y N n m root
wanted_from One K C root x = connected_from K C x
wanted_from Several K C root x = apart_from K C root x

pub wanted_any : (F : Form) {Y : Layout} {N n : ℕ} {t : List ℕ} → Closed Y N n t → (root : ℕ) → Wanted F Y N n t root → (d : ℕ) → d < n → Wanted F Y N n t d
wanted_any One C root x d h = connected_any C x d h
wanted_any Several {Y} {N} {n} {t} C root x d h = go (reaches Y all_ranks N n t d root) refl
  where
    go : (b : Bool) → reaches Y all_ranks N n t d root ≡ b → Apart Y N n t d
    go true e =
        let r = reached_sym C h (reaches_reached Y all_ranks N n t C d root h x.rooted e) in
        record { rooted = h; other = x.other; dart = x.dart; unreached = λ q. x.unreached (reached_trans r q) }
    go false e = record { rooted = h; other = root; dart = x.rooted; unreached = λ q. not_both _ (reached_reaches Y all_ranks N n t C d root h q) e }

-- The check accepts the one from a root exactly if it accepts the other from the root's new name, in either form.
module _ (F : Form) {Y Z : Layout} {f : ℕ → ℕ} {N n : ℕ} {m m' : List ℕ} (K : Carries Y Z f N n m m') (root room : ℕ) where
  pub fine_to : size N n ≤ length m' → verdict F Y N n root m room ≡ Verdict.fine → verdict F Z N n (f root) m' room ≡ Verdict.fine
  fine_to h e =
      let P = fine_passes F Y N n root m room e in
      passes_fine F Z N n (f root) m' room (record {
        limits = record { dims = P.limits.dims; darts = P.limits.darts; room = h };
        work = P.work;
        valid = valid_to K P.valid;
        bodies = wanted_to F K (valid_closed P.valid) root P.bodies;
      })

  pub fine_from : size N n ≤ length m → verdict F Z N n (f root) m' room ≡ Verdict.fine → verdict F Y N n root m room ≡ Verdict.fine
  fine_from h e =
      let P = fine_passes F Z N n (f root) m' room e in
      let A = valid_from K P.valid in
      passes_fine F Y N n root m room (record {
        limits = record { dims = P.limits.dims; darts = P.limits.darts; room = h };
        work = P.work;
        valid = A;
        bodies = wanted_from F K (valid_closed A) root P.bodies;
      })

-- where the check is fine of both and the streams are equal the writer gives the same answer and leaves the same output
module _ (F : Form) (Y Z : Layout) (N n : ℕ) (m m' : List ℕ) (root root' start : ℕ) (work out : List ℕ)
    (e : verdict F Y N n root m (length work) ≡ Verdict.fine)
    (e' : verdict F Z N n root' m' (length work) ≡ Verdict.fine) (same : stream F Z N n m' root' ≡ stream F Y N n m root) where
  page_same : (v : Verdict) → page_after F Z N n root' start m' (length out) v ≡ page_after F Y N n root start m (length out) v
  unfolding page_after
  page_same Verdict.fine = rw same
  page_same (Verdict.refused nr p) = refl

  judged_same : write_verdict F Z N n root' start m' (length work) ≡ write_verdict F Y N n root start m (length work)
  unfolding write_verdict start_verdict
  judged_same = rw (e, e', same)

  pub write_equal : (write_answer F Z N n root' start m' work out ≡ write_answer F Y N n root start m work out)
      × (write_out F Z N n root' start m' work out ≡ write_out F Y N n root start m work out)
  unfolding write_answer write_out write_page
  write_equal =
      let p : write_page F Z N n root' start m' work out ≡ write_page F Y N n root start m work out =
      rw judged_same (page_same (write_verdict F Y N n root start m (length work))) in
      (rw (p, same, judged_same), rw p)

-- so it is in the one-body form, where the check is fine
pub write_follows : {Y Z : Layout} {f : ℕ → ℕ} {N n : ℕ} {m m' : List ℕ} → Carries Y Z f N n m m' → (root start : ℕ) (work out : List ℕ) → size N n ≤ length m'
    → verdict One Y N n root m (length work) ≡ Verdict.fine
    → (write_answer One Z N n (f root) start m' work out ≡ write_answer One Y N n root start m work out)
    × (write_out One Z N n (f root) start m' work out ≡ write_out One Y N n root start m work out)
write_follows {Y} {Z} {f} {N} {n} {m} {m'} K root start work out h e =
    let P = fine_passes One Y N n root m (length work) e in
    write_equal One Y Z N n m m' root (f root) start work out e (fine_to One K root (length work) h e)
    (stream_renamed K P.limits.dims.1 P.limits.darts.1 P.bodies.rooted P.valid)

-- where it is fine from dart 0 the report gives the same answer
pub report_follows : (F : Form) {Y Z : Layout} {f : ℕ → ℕ} {N n : ℕ} {m m' : List ℕ} → Carries Y Z f N n m m' → (work : List ℕ) → size N n ≤ length m'
    → verdict F Y N n 0 m (length work) ≡ Verdict.fine → report_answer F Z N n m' work ≡ report_answer F Y N n m work
unfolding report_answer report_answer_of
report_follows F {Y} {Z} {f} {N} {n} {m} {m'} K work h e =
    let (c, p, o) = report_map_alone K (valid_closed P.valid) P.limits.darts.0 in
    rw (e, same, counts c, p, o)
  where
    P : Passes F Y N n 0 m (length work)
    P = fine_passes F Y N n 0 m (length work) e

    same : verdict F Z N n 0 m' (length work) ≡ Verdict.fine
    same =
        let Q = fine_passes F Z N n (f 0) m' (length work) (fine_to F K 0 (length work) h e) in
        let c = wanted_any F (valid_closed Q.valid) (f 0) Q.bodies 0 (wanted_rooted F Y N n m 0 P.bodies) in
        passes_fine F Z N n 0 m' (length work) (record { limits = Q.limits; work = Q.work; valid = Q.valid; bodies = c })

    counts : ((i : ℕ) → cells Z N n m' i ≡ cells Y N n m i) → cell_counts Z N n m' ≡ cell_counts Y N n m
    counts c = unfold cell_counts in λ j. list_of 7 (λ i. cond (leb i N) (c i j) 0)
