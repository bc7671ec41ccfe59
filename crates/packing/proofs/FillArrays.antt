-- Filling pages on arrays: a node written anew where a page has room, and what stays of the forms. Assumes nothing.
use mathlib.Core.Path.{◌≡◌, refl, sym, ap, ap₂, ◌∙◌}
use mathlib.Core.Bool.{Bool, true, false}
use mathlib.Core.List.{List, [], ◌∷◌, foldl}
use Prim.Native.Nat.{ℕ, suc, ◌+◌, ◌-◌, ◌≤◌, ◌<◌}
use native.Mathlib.Omega.{arith}
use lib.Dec.{eqb, leb}
use lib.ListN.{get_or, length, length-set, set, take}
use lib.Seq.{get_or-set_other, get_or-set_same, get_or-take, length-take-le}
use borrow.Author.Tests.{eqb-false, eqb-true, ne_eqb, le-leb, lt-ltb}
use Rattle.std.proofs.Common.{Some, None}
use Rattle.lists.specs.Lists.{any, first, modify}
use Rattle.lists.proofs.Tests.{cases}
use Rattle.journal.specs.Plan.{count_from}
use Rattle.journal.specs.Admissible.{in_page}
use Rattle.journal.specs.Packing.{Packing, assign, changed_at, fill_node, widen_node, widened, filled}
use Rattle.journal.specs.PlanCode.{target_in, is_marked, packing_of, sizes_in}
use Rattle.packing.specs.PackingCode.{fills_delta, KeepsForms, Short, Ready, FirstFit, FillsPages}
use Rattle.packing.proofs.PackingArrays.{fold_next, fold_done, assign_arrays, assign_old, changed_set, modify_take, placed_set, target_none, target_some}

-- ---- forms
pub keeps_same : {xs : List ℕ} → KeepsForms xs xs
keeps_same = record { form = λ n d. refl }

keeps_set : (xs : List ℕ) (n : ℕ) → n < length xs → KeepsForms xs (set xs n 1)
keeps_set xs n l =
    record {
      form = λ m d. cases (eqb m n)
          (λ t. let e = eqb-true m n t in absurd (d (ap (λ (i : ℕ). get_or (set xs n 1) i 0) e ∙ get_or-set_same xs n 1 0 l)))
          (λ t. get_or-set_other xs n m 1 0 (eqb-false m n t));
    }

pub keeps_both : {xs ys zs : List ℕ} → KeepsForms xs ys → KeepsForms ys zs → KeepsForms xs zs
keeps_both k l = record { form = λ n d. l.form n d ∙ k.form n (λ e. d (l.form n d ∙ e)) }

pub keeps_short : (limit : ℕ) (wholes parts : List ℕ) {xs ys : List ℕ} → KeepsForms xs ys → Short limit wholes parts xs → Short limit wholes parts ys
keeps_short limit wholes parts k s n l d = s n l (λ e. d (k.form n d ∙ e))

-- ---- some page has room
module _ (p : ℕ → Bool) where
  any_yes : (xs : List ℕ) → first p xs < length xs → any p xs ≡ true
  any_yes [] l = absurd (omega arith)
  any_yes (x ∷ xs) l = cases (p x) (λ t. rw t) (λ t. let m : suc (first p xs) < suc (length xs) = rw t at l in rw t (any_yes xs (omega arith)))

  any_no : (xs : List ℕ) → length xs ≤ first p xs → any p xs ≡ false
  any_no [] l = refl
  any_no (x ∷ xs) l =
      cases (p x) (λ t. let m : suc (length xs) ≤ 0 = rw t at l in absurd (omega arith))
      (λ t. let m : suc (length xs) ≤ suc (first p xs) = rw t at l in rw t (any_no xs (omega arith)))

-- ---- one node
module _ (n count : ℕ) (rooms targets forms : List ℕ) (ready : Ready count rooms targets forms) (on : n < 256) (few : count ≤ 512) where
  inside : n < length targets
  inside = rw ready.nodes on

  marked : changed_at n true (is_marked forms) ≡ is_marked (set forms n 1)
  marked = changed_set (λ (x : ℕ). eqb x 1) forms n 1 0 (rw ready.marks on)

  wide : length (take count rooms) ≡ count
  wide = length-take-le count rooms (rw ready.pages few)

  -- nothing done
  pub fills_same : {S : ℕ → Packing} → ((units : ℕ) → packing_of (take count rooms) targets forms ≡ S units) → FillsPages S count forms rooms targets forms
  fills_same e = record { is = e; ready = ready; keeps = keeps_same }

  -- ---- filled in
  module _ (wholes : List ℕ) where
    pub fills_full : get_or targets n 0 ≡ 65535 → 0 < get_or wholes n 0 → FirstFit (take count rooms) (get_or wholes n 0) None
        → FillsPages (λ (units : ℕ). fill_node (sizes_in units wholes []) (packing_of (take count rooms) targets forms) n) count forms rooms targets forms
    fills_full e z f =
        let no : any (leb (get_or wholes n 0)) (take count rooms) ≡ false = any_no (leb (get_or wholes n 0)) (take count rooms) (omega (arith, f.is)) in
        fills_same (λ units. rw (target_none n targets inside e, lt-ltb 0 (get_or wholes n 0) z, no))

    pub fills_in : get_or targets n 0 ≡ 65535 → 0 < get_or wholes n 0 → (p : ℕ) → FirstFit (take count rooms) (get_or wholes n 0) (Some p)
        → FillsPages (λ (units : ℕ). fill_node (sizes_in units wholes []) (packing_of (take count rooms) targets forms) n) count forms (set rooms p (get_or rooms p 0 - get_or wholes n 0)) (set targets n p) (set forms n 1)
    fills_in e z p f =
        let S = packing_of (take count rooms) targets forms in
        let yes' : any (leb (get_or wholes n 0)) (take count rooms) ≡ true = any_yes (leb (get_or wholes n 0)) (take count rooms) (rw f.is f.room.0) in
        record {
          is = λ units.
              let step : fill_node (sizes_in units wholes []) S n ≡ assign (sizes_in units wholes []) true n S = rw (target_none n targets inside e, lt-ltb 0 (get_or wholes n 0) z, yes') in
              let a = assign_old units n (get_or wholes n 0) count rooms targets p (rw ready.pages few) f in
              ap₂ (λ (rs ts : List ℕ). packing_of rs ts (set forms n 1)) a.free a.target
              ∙ assign_arrays (sizes_in units wholes []) true n (take count rooms) targets forms (set forms n 1) inside (omega (arith, a.page)) marked
              ∙ sym step;
          ready =
              record {
                pages = simp length-set ready.pages;
                nodes = simp length-set ready.nodes;
                marks = simp length-set ready.marks;
                placed = placed_set count count n p targets inside (omega arith) (omega (arith, f.room.0, wide)) ready.placed;
              };
          keeps = keeps_set forms n (rw ready.marks on);
        }

  -- ---- widened
  module _ (wholes parts : List ℕ) where
    module _ (low : get_or targets n 0 < count) (d : get_or forms n 0 ≡ 1 → ⊥) (more : ℕ) (is : more ≡ get_or wholes n 0 - get_or parts n 0) where
      in_page_lem : target_in targets n ≡ in_page (get_or targets n 0)
      in_page_lem = target_some n targets inside (λ e. omega arith)

      pub widens_in : more ≤ get_or rooms (get_or targets n 0) 0 → get_or parts n 0 ≤ get_or wholes n 0
          → FillsPages (λ (units : ℕ). widen_node (sizes_in units wholes parts) (packing_of (take count rooms) targets forms) n)
          count forms (set rooms (get_or targets n 0) (get_or rooms (get_or targets n 0) 0 - more)) targets (set forms n 1)
      widens_in h l =
          let p = get_or targets n 0 in
          let f : ℕ → ℕ = λ r. get_or parts n 0 + r - get_or wholes n 0 in
          let yes' : leb (get_or wholes n 0) (get_or parts n 0 + get_or (take count rooms) p 0) ≡ true =
          le-leb (get_or wholes n 0) (get_or parts n 0 + get_or (take count rooms) p 0) (omega (arith, get_or-take count rooms p 0 low)) in
          let left : get_or rooms p 0 - more ≡ f (get_or rooms p 0) = omega arith in
          let step : (units : ℕ) → widen_node (sizes_in units wholes parts) (packing_of (take count rooms) targets forms) n
          ≡ record { rooms = modify p f (take count rooms); target = target_in targets; is_anew = changed_at n true (is_marked forms) } =
          λ units. rw (ne_eqb (get_or forms n 0) 1 d, in_page_lem, yes') in
          record {
            is = λ units.
                ap₂ (λ (rs : List ℕ) (an : ℕ → Bool). record { rooms = rs; target = target_in targets; is_anew = an })
                (ap (λ (x : ℕ). take count (set rooms p x)) left ∙ sym (modify_take f p count rooms low (rw ready.pages few))) (sym marked)
                ∙ sym (step units);
            ready =
                record { pages = simp length-set ready.pages; nodes = ready.nodes; marks = simp length-set ready.marks; placed = ready.placed };
            keeps = keeps_set forms n (rw ready.marks on);
          }

-- ---- a turn of a loop that fills, and its end
module _ (step : ℕ → Packing → ℕ → Packing) (n limit count : ℕ) (rooms targets : List ℕ) {before forms : List ℕ} {end : ℕ → Packing}
    (keeps : KeepsForms before forms)
    (left : (units : ℕ) → foldl (step units) (packing_of (take count rooms) targets forms) (count_from n (limit - n)) ≡ end units) where
  pub fill_turn : {rooms' targets' forms' : List ℕ} → n < limit
      → FillsPages (λ (units : ℕ). step units (packing_of (take count rooms) targets forms) n) count forms rooms' targets' forms'
      → Ready count rooms' targets' forms' × KeepsForms before forms'
      × ((units : ℕ) → foldl (step units) (packing_of (take count rooms') targets' forms') (count_from (n + 1) (limit - (n + 1))) ≡ end units)
  fill_turn h f =
      (f.ready, keeps_both keeps f.keeps, λ units. fold_next (step units) n limit (packing_of (take count rooms) targets forms) (left units) h (f.is units))

  pub fill_ends : {S : ℕ → Packing} → limit ≤ n → Ready count rooms targets forms → ((units : ℕ) → end units ≡ S units) → FillsPages S count before rooms targets forms
  fill_ends h r e =
      record { is = λ units. fold_done (step units) n limit (packing_of (take count rooms) targets forms) (left units) h ∙ e units; ready = r; keeps = keeps }

-- ---- the four passes, behind the packing
module _ (wholes parts lens olds : List ℕ) (limit : ℕ) {count : ℕ} {forms forms₁ : List ℕ} where
  pub fills_delta_lem : (S : Packing) {rooms₁ rooms₂ rooms₃ rooms₄ targets₁ targets₂ forms₂ forms₃ forms₄ : List ℕ}
      → FillsPages (λ (units : ℕ). widened (sizes_in units wholes parts) (λ (n : ℕ). get_or lens n 0) limit 3 S) count forms rooms₁ targets₁ forms₁
      → FillsPages (λ (units : ℕ). filled (sizes_in units wholes []) (is_marked olds) limit (packing_of (take count rooms₁) targets₁ forms₁)) count forms₁ rooms₂ targets₂ forms₂
      → FillsPages (λ (units : ℕ). widened (sizes_in units wholes parts) (λ (n : ℕ). get_or lens n 0) limit 2 (packing_of (take count rooms₂) targets₂ forms₂)) count forms₂ rooms₃ targets₂ forms₃
      → FillsPages (λ (units : ℕ). widened (sizes_in units wholes parts) (λ (n : ℕ). get_or lens n 0) limit 1 (packing_of (take count rooms₃) targets₂ forms₃)) count forms₃ rooms₄ targets₂ forms₄
      → FillsPages (λ (units : ℕ). fills_delta units wholes parts lens olds limit S) count forms rooms₄ targets₂ forms₄
  fills_delta_lem S a b c d =
      record {
        is = λ units.
            d.is units
            ∙ ap (widened (sizes_in units wholes parts) (λ (n : ℕ). get_or lens n 0) limit 1)
            (c.is units
            ∙ ap (widened (sizes_in units wholes parts) (λ (n : ℕ). get_or lens n 0) limit 2)
            (b.is units ∙ ap (filled (sizes_in units wholes []) (is_marked olds) limit) (a.is units)));
        ready = d.ready;
        keeps = keeps_both a.keeps (keeps_both b.keeps (keeps_both c.keeps d.keeps));
      }
