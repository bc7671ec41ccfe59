-- Void pages: what steps 1 to 3 say of an image taken apart, and that some of its void pages may go. Assumes nothing.
use mathlib.Core.Path.{◌≡◌, refl, sym, ap, ◌∙◌}
use mathlib.Core.Logic.{⊎_elim}
use mathlib.Core.Bool.{Bool, true, false, cond, ◌&&◌, not}
use mathlib.Core.List.{List, [], ◌∷◌, ◌++◌, append-nil}
use Prim.Native.Nat.{ℕ, zero, suc, ◌≤◌, ◌<◌}
use native.Mathlib.Omega.{arith}
use lib.Dec.{eqb}
use lib.ListN.{length}
use borrow.Author.Tests.{ne_eqb, eqb-true, eqb-false, not-true}
use Rattle.lists.specs.Lists.{filter, all, any, all_below, All, none, more}
use Rattle.lists.proofs.Tests.{cases, and_left, and_right}
use Rattle.lists.proofs.Alls.{All-head, All-map, All-zip, All-append, All-right, All-filter, all_All, false_any}
use Rattle.lists.proofs.Anys.{any_append, any_less, below_not}
use Rattle.lists.proofs.Filters.{filter_append, filter_all, filter_none, filter_is}
use Rattle.lists.proofs.Ends.{End, nil, snoc, end_of}
use Rattle.chip.specs.Geometry.{Geometry}
use Rattle.chip.specs.Page.{Page}
use Rattle.pages.specs.Steps.{Live, commit, count, is_at, full, of_commit, refused, stand, without, split, steps}
use Rattle.pages.proofs.Order.{chain, chain_filter, chain_front, chain_right}
use Rattle.pages.proofs.Pairs.{own, settle_ordered_lem, steps_ordered}
use Rattle.pages.proofs.Settle.{settle_snoc, without_snoc, Whole, stands, top, voids}
use Rattle.pages.proofs.Counts.{own_index, newest_last, lacking}
use Rattle.views.proofs.Meanings.{in_order}

-- a test that fails for a number below n
below_find : (n : ℕ) (p : ℕ → Bool) → all_below n p ≡ false → (i : ℕ) × (i < n) × (p i ≡ false)
below_find zero p e = let z : ◌≡◌ {A = ℕ} 0 1 = cc in absurd (omega arith)
below_find (suc n) p e =
    cases (p n)
    (λ t. let r = below_find n p (rw t at e) in (r.0, omega (arith, r.1), r.2))
    (λ t. (n, omega arith, t))

-- pages in order: s and then z stand, and behind them v is void: of commit c of n pages, which lacks index i
pub record Voided (g : Geometry) (s : List Live) (z : Live) (c n i : ℕ) (v : List Live) : Type 0 where
  pub is : Whole g s z
  pub owns : All (λ (x : Live). own g x ≡ true) v
  pub links : chain ((s ++ (z ∷ [])) ++ v) ≡ true
  pub same : All (λ (x : Live). (commit x ≡ c) × (count x ≡ n)) v
  pub above : commit z < c
  pub below : i < n
  pub lacks : any (is_at c i) v ≡ false

module _ (g : Geometry) (s : List Live) (z : Live) (c n i : ℕ) where
  -- the standing pages are of smaller commits
  pub voided_lower : {v : List Live} → Voided g s z c n i v → All (λ (x : Live). commit x < c) (s ++ (z ∷ []))
  voided_lower h = All-map (λ x k. omega (arith, h.above)) (top g s z h.is)

  not_full_lem : (v : List Live) (y : Live) → Voided g s z c n i (v ++ (y ∷ [])) → full y ((s ++ (z ∷ [])) ++ (v ++ (y ∷ []))) ≡ false
  unfolding full is_at
  not_full_lem v y h =
      let q = All-head (All-right v (y ∷ []) h.same) in
      rw (q.0, q.1)
      (below_not n _ i h.below
      (any_append (is_at c i) (s ++ (z ∷ [])) (v ++ (y ∷ []))
      ∙ rw (false_any (is_at c i) (All-map (λ x k. let d : eqb (commit x) c ≡ false = ne_eqb (commit x) c (λ e. omega arith) in rw d) (voided_lower h)), h.lacks)))

  voided_settle : {v : List Live} → End v → Voided g s z c n i v → settle_ordered_lem g ((s ++ (z ∷ [])) ++ v) ≡ stand v (s ++ (z ∷ []))
  voided_settle nil h = rw append-nil (stands g s z h.is)
  voided_settle (snoc v y) h =
      let q = All-head (All-right v (y ∷ []) h.same) in
      voids g s z h.is v y h.owns h.links (All-map (λ x k. k.0 ∙ sym q.0) h.same) (omega (arith, q.0, h.above)) (not_full_lem v y h)

  -- what steps 1 to 3 say of such an image
  pub voided_steps : (ps : List Page) (v : List Live) → in_order g ps ≡ (s ++ (z ∷ [])) ++ v → Voided g s z c n i v → steps g ps ≡ stand v (s ++ (z ∷ []))
  voided_steps ps v o h = steps_ordered g ps ∙ ap (settle_ordered_lem g) o ∙ voided_settle (end_of v) h

  -- ---- some of the void pages taken away
  pub keep_standing : (k : Live → Bool) (v : List Live) → All (λ (x : Live). k x ≡ true) (s ++ (z ∷ []))
      → filter k ((s ++ (z ∷ [])) ++ v) ≡ (s ++ (z ∷ [])) ++ filter k v
  keep_standing k v a = filter_append k (s ++ (z ∷ [])) v ∙ ap (λ (l : List Live). l ++ filter k v) (filter_all k a)

  pub void_less : (k : Live → Bool) (v : List Live) → All (λ (x : Live). k x ≡ true) (s ++ (z ∷ [])) → Voided g s z c n i v → Voided g s z c n i (filter k v)
  void_less k v a h =
      let f = keep_standing k v a in
      record {
        is = h.is;
        owns = All-filter k h.owns;
        links = rw (← f) (chain_filter k ((s ++ (z ∷ [])) ++ v) h.links);
        same = All-filter k h.same;
        above = h.above;
        below = h.below;
        lacks = any_less (is_at c i) k v h.lacks;
      }

  -- ---- fewer than the commit's pages
  pub void_count : (v : List Live) → Voided g s z c n i v → length v < n
  void_count v h =
      omega (
        arith,
        lacking c n i 0 v (chain_right (s ++ (z ∷ [])) v h.links) (All-map (λ x k. k.0) h.same)
            (All-zip (λ x o k. omega (arith, own_index g x o, k.1)) h.owns h.same) (All-map (λ x k. omega arith) h.owns)
            h.lacks (omega arith) h.below,
      )

-- ---- from what steps 1 to 3 say
-- an image with the void pages v and the standing pages xs, taken apart
pub record Found (g : Geometry) (ps : List Page) (v xs : List Live) : Type 0 where
  pub s : List Live
  pub z : Live
  pub c : ℕ
  pub n : ℕ
  pub i : ℕ
  pub ends : xs ≡ s ++ (z ∷ [])
  pub order : in_order g ps ≡ (s ++ (z ∷ [])) ++ v
  pub voided : Voided g s z c n i v
  pub newest : v ≡ filter (of_commit c) (in_order g ps)

never : {Q : Type 0} {n : ℕ} {v xs : List Live} → refused n ≡ stand v xs → Q
never e = let u : ◌≡◌ {A = ℕ} 0 1 = cc in absurd (omega arith)

-- the greatest commit, that of z, is whole
find_whole : (g : Geometry) (ps : List Page) (v xs s : List Live) (z : Live) → in_order g ps ≡ s ++ (z ∷ []) → Whole g s z
    → stand [] (s ++ (z ∷ [])) ≡ stand v xs → Found g ps v xs
find_whole g ps v xs s z o w e =
    let ev : v ≡ [] = cc in
    let ex : xs ≡ s ++ (z ∷ []) = cc in
    record {
      s = s;
      z = z;
      c = suc (commit z);
      n = 1;
      i = 0;
      ends = ex;
      order = rw ev (o ∙ sym (append-nil (s ++ (z ∷ []))));
      voided = rw ev (record { is = w; owns = none; links = rw append-nil w.links; same = none; above = omega arith; below = omega arith; lacks = refl });
      newest = ev
          ∙ sym (ap (filter (of_commit (suc (commit z)))) o
          ∙ filter_none (of_commit (suc (commit z))) (All-map (λ x h. ne_eqb (commit x) (suc (commit z)) (λ q. omega arith)) (top g s z w)));
    }

-- the greatest commit, that of y, lacks an index
module _ (g : Geometry) (ps : List Page) (t : List Live) (y : Live) (o : in_order g ps ≡ t ++ (y ∷ []))
    (owns : All (λ x. own g x ≡ true) (t ++ (y ∷ []))) (links : chain (t ++ (y ∷ [])) ≡ true) (short : full y (t ++ (y ∷ [])) ≡ false) where
  abbrev new : Live → Bool
  new x = of_commit (commit y) x

  abbrev old : Live → Bool
  old x = not (of_commit (commit y) x)

  tops : All (λ (x : Live). (commit x ≤ commit y) × (commit x ≡ commit y → count x ≡ count y)) (t ++ (y ∷ []))
  tops =
      All-append
      (All-map (λ x h. ⊎_elim {C = (commit x ≤ commit y) × (commit x ≡ commit y → count x ≡ count y)} (λ k. (omega arith, λ e. absurd (omega arith))) (λ k. (omega arith, λ e. k.2)) h)
      (chain_front t y [] links))
      (more (omega arith, λ e. refl) none)

  missing : (i : ℕ) × (i < count y) × (any (is_at (commit y) i) (t ++ (y ∷ [])) ≡ false)
  unfolding full
  missing = below_find (count y) (λ (i : ℕ). any (is_at (commit y) i) (t ++ (y ∷ []))) short

  find_rest : (v xs : List Live) {r : List Live} → End r → r ≡ filter old (t ++ (y ∷ [])) → without (filter new (t ++ (y ∷ []))) r ≡ stand v xs → Found g ps v xs
  find_rest v xs nil q e = never e
  find_rest v xs (snoc s z) q e =
      let R : List Live = s ++ (z ∷ []) in
      let W : List Live = filter new (t ++ (y ∷ [])) in
      let e' : cond (full z R) (stand W R) (refused 8) ≡ stand v xs = sym (without_snoc W s z) ∙ e in
      let fz : full z R ≡ true = cases (full z R) (λ f. f) (λ f. never (rw f at e')) in
      let e'' : stand W R ≡ stand v xs = (rw fz at e') in
      let ev : v ≡ W = cc in
      let ex : xs ≡ R = cc in
      let lo : All (λ (x : Live). (commit x ≤ commit y) × (old x ≡ true)) R =
      rw q (All-zip {R = λ (x : Live). (commit x ≤ commit y) × (old x ≡ true)} (λ x h k. (h.0, k)) (All-filter old tops) (filter_is old (t ++ (y ∷ [])))) in
      let lz = All-head (All-right s (z ∷ []) lo) in
      record {
        s = s;
        z = z;
        c = commit y;
        n = count y;
        i = missing.0;
        ends = ex;
        order = o ∙ newest_last t y links ∙ ap (λ (l : List Live). l ++ W) (sym q) ∙ ap (λ (l : List Live). R ++ l) (sym ev);
        voided = rw ev (record {
          is = record { owns = rw q (All-filter old owns); links = rw q (chain_filter old (t ++ (y ∷ [])) links); is = fz };
          owns = All-filter new owns;
          links = rw (q, ← newest_last t y links) links;
          same = All-zip (λ x h k. let m = eqb-true (commit x) (commit y) k in (m, h.1 m)) (All-filter new tops) (filter_is new (t ++ (y ∷ [])));
          above = let d = eqb-false (commit z) (commit y) (not-true (eqb (commit z) (commit y)) lz.1) in omega (arith, lz.0, d);
          below = missing.1;
          lacks = any_less (is_at (commit y) missing.0) new (t ++ (y ∷ [])) missing.2;
        });
        newest = ev ∙ ap (filter new) (sym o);
      }

find_at_lem : (g : Geometry) (ps : List Page) (v xs : List Live) {ys : List Live} → End ys → in_order g ps ≡ ys → settle_ordered_lem g ys ≡ stand v xs → Found g ps v xs
find_at_lem g ps v xs nil o m = never m
find_at_lem g ps v xs (snoc t y) o m =
    let S : List Live = t ++ (y ∷ []) in
    let e : cond (all (own g) S && chain S) (split y S) (refused 8) ≡ stand v xs = sym (settle_snoc g t y) ∙ m in
    cases (all (own g) S && chain S)
    (λ q.
    let e' : split y S ≡ stand v xs = (rw q at e) in
    let ow = all_All (own g) S (and_left (all (own g) S) (chain S) q) in
    let li = and_right (all (own g) S) (chain S) q in
    cases (full y S)
    (λ f. find_whole g ps v xs t y o (record { owns = ow; links = li; is = f }) (rw f at e'))
    (λ f. find_rest g ps t y o ow li f v xs (end_of (filter (λ (x : Live). not (of_commit (commit y) x)) S)) refl (rw f at e')))
    (λ q. never (rw q at e))

pub found : (g : Geometry) (ps : List Page) (v xs : List Live) → steps g ps ≡ stand v xs → Found g ps v xs
found g ps v xs e = find_at_lem g ps v xs (end_of (in_order g ps)) refl (sym (steps_ordered g ps) ∙ e)
