-- The marks of void pages before a rebuild: after them the same pages are free, so the plan is the same; and runs of two lists. Assumes nothing.
use mathlib.Core.Path.{◌≡◌, refl, sym, ap, ◌∙◌, subst}
use mathlib.Core.Bool.{Bool, true, false}
use mathlib.Core.List.{List, [], ◌∷◌, ◌++◌, append-nil, map}
use Prim.Native.Nat.{ℕ, zero, suc, ◌+◌, ◌-◌, ◌≤◌, ◌<◌}
use native.Mathlib.Omega.{arith}
use lib.Dec.{eqb, leb}
use lib.ListN.{length, length-append, take}
use borrow.Author.Tests.{eqb-false, eqb-true}
use Rattle.lists.specs.Lists.{All, all, flat, modify, more, none}
use Rattle.lists.proofs.Alls.{All-head, All-map, All-right, All-tail}
use Rattle.lists.proofs.Places.{At-is, At-same}
use Rattle.lists.proofs.Sets.{filter_same}
use Rattle.lists.proofs.Sorts.{All-sort}
use Rattle.lists.proofs.Tests.{and_left, cases}
use Rattle.chip.specs.declared.page.Mark.TheVariants.{Obsolete, Valid}
use Rattle.chip.specs.Geometry.{Geometry}
use Rattle.chip.specs.Page.{Page, is_free, is_set, marked}
use Rattle.chip.specs.Chip.{Legal, Machine, Op, run, whole}
use Rattle.chip.proofs.Marks.{marked_other}
use Rattle.chip.proofs.Runs.{DataSized, after, run_parts, with_power}
use Rattle.pages.specs.Steps.{Live, Stood, before, refused, stand, steps}
use Rattle.views.specs.Nodes.{View}
use Rattle.views.proofs.Meanings.{in_order}
use Rattle.views.proofs.ViewLaws.{Apart}
use Rattle.journal.specs.Mount.{lower_place, mount_ops, retire, void_pages}
use Rattle.journal.specs.Plan.{count_from, free_at, ops_of, pages_in, sheets, wholly_free}
use Rattle.journal.specs.Admissible.{all_packs}
use Rattle.journal.specs.Policy.{snapshot_assignment}
use Rattle.journal.specs.Rebuild.{contents_anew, eighth, free_blocks, has_free_blocks, rebuild_ops, rebuild_plan}
use Rattle.journal.proofs.ContentsLaws.{below_all}
use Rattle.journal.proofs.MountLaws.{void_apart}
use Rattle.journal.proofs.PackingLaws.{get_d_modify_other}
use Rattle.journal.proofs.PlanRoom.{LiveAt, live_from_lem, still_live}
use Rattle.journal.proofs.RebuildBlocks.{valid_taken}
use Rattle.journal.proofs.Voids.{found}

-- ---- a list of operations done whole
abbrev pub done_all_lem : Geometry → List Page → List Op → List Page
done_all_lem g ps [] = ps
done_all_lem g ps (o ∷ os) = done_all_lem g (whole g o ps) os

module _ (g : Geometry) (torn : List ℕ) where
  after_past : (n : ℕ) (ps : List Page) (xs ys : List Op) → length xs ≤ n → after g torn n ps (xs ++ ys) ≡ after g torn (n - length xs) (done_all_lem g ps xs) ys
  after_past n ps [] ys l = ap (λ (m : ℕ). after g torn m ps ys) (let z : n ≡ n - 0 = omega arith in z)
  after_past zero ps (x ∷ xs) ys l = absurd (omega arith)
  after_past (suc n) ps (x ∷ xs) ys l =
      after_past n (whole g x ps) xs ys (omega arith)
      ∙ ap (λ (m : ℕ). after g torn m (done_all_lem g (whole g x ps) xs) ys) (let z : n - length xs ≡ suc n - suc (length xs) = omega arith in z)

  after_within : (n : ℕ) (ps : List Page) (xs ys : List Op) → n < length xs → after g torn n ps (xs ++ ys) ≡ after g torn n ps xs
  after_within n ps [] ys l = absurd (omega arith)
  after_within zero ps (x ∷ xs) ys l = refl
  after_within (suc n) ps (x ∷ xs) ys l = after_within n (whole g x ps) xs ys (omega arith)

  -- with power for all of the first list, the second one runs on what it left
  pub run_past : (n : ℕ) (ps : List Page) (xs ys : List Op) → length xs ≤ n
      → (run g torn (with_power n ps) (xs ++ ys)).pages ≡ (run g torn (with_power (n - length xs) (done_all_lem g ps xs)) ys).pages
  run_past n ps xs ys l =
      ap (λ (m : Machine). m.pages) (run_parts g torn n ps (xs ++ ys)) ∙ after_past n ps xs ys l
      ∙ sym (ap (λ (m : Machine). m.pages) (run_parts g torn (n - length xs) (done_all_lem g ps xs) ys))

  -- else it does not begin
  pub run_within : (n : ℕ) (ps : List Page) (xs ys : List Op) → n < length xs → (run g torn (with_power n ps) (xs ++ ys)).pages ≡ (run g torn (with_power n ps) xs).pages
  run_within n ps xs ys l =
      ap (λ (m : Machine). m.pages) (run_parts g torn n ps (xs ++ ys)) ∙ after_within n ps xs ys l ∙ sym (ap (λ (m : Machine). m.pages) (run_parts g torn n ps xs))

  pub run_all : (n : ℕ) (ps : List Page) (xs : List Op) → length xs ≤ n → (run g torn (with_power n ps) xs).pages ≡ done_all_lem g ps xs
  run_all n ps xs l =
      ap (λ (os : List Op). (run g torn (with_power n ps) os).pages) (sym (append-nil xs)) ∙ run_past n ps xs [] l
      ∙ ap (λ (m : Machine). m.pages) (run_parts g torn (n - length xs) (done_all_lem g ps xs) [])

pub legal_append : (g : Geometry) (ps : List Page) (xs ys : List Op) → Legal g ps xs → Legal g (done_all_lem g ps xs) ys → Legal g ps (xs ++ ys)
legal_append g ps [] ys h k = k
legal_append g ps (x ∷ xs) ys h k = (h.0, legal_append g (whole g x ps) xs ys h.1 k)

-- ---- the marks
-- the pages of a chip after all marks of a mount
unfoldable pub unvoided : Geometry → List Page → List Page
unvoided g ps = done_all_lem g ps (mount_ops g ps)

pub marks_sized : (g : Geometry) (v : List Live) → All (DataSized g) (map retire v)
marks_sized g [] = none
marks_sized g (x ∷ v) = more tt (marks_sized g v)

-- every void page is live where it stands, and no two are at one place
voids_live : (g : Geometry) (ps : List Page) (r : Stood) → steps g ps ≡ r → All (LiveAt g ps) (void_pages g ps)
unfolding void_pages
voids_live g ps (refused k) e = rw e none
voids_live g ps (stand v xs) e =
    let f = found g ps v xs e in
    let b : All (LiveAt g ps) (in_order g ps) = All-sort before (live_from_lem g [] ps 0 refl) in
    rw e (All-sort lower_place (All-right (f.s ++ (f.z ∷ [])) v (rw f.order at b)))

voids_apart : (g : Geometry) (ps : List Page) (r : Stood) → steps g ps ≡ r → Apart (void_pages g ps)
unfolding void_pages
voids_apart g ps (refused k) e = rw e tt
voids_apart g ps (stand v xs) e = void_apart g ps v xs e (found g ps v xs e)

pub void_live : (g : Geometry) (ps : List Page) → All (LiveAt g ps) (void_pages g ps)
void_live g ps = voids_live g ps (steps g ps) refl

pub void_differ : (g : Geometry) (ps : List Page) → Apart (void_pages g ps)
void_differ g ps = voids_apart g ps (steps g ps) refl

-- ---- the same pages are free
free_one : (g : Geometry) (x : Live) (ps : List Page) → LiveAt g ps x → (p : ℕ) → free_at (modify x.place (marked g Obsolete 0) ps) p ≡ free_at ps p
free_one g x ps m p =
    cases (eqb x.place p) (λ t. subst (λ (q : ℕ). free_at (modify x.place (marked g Obsolete 0) ps) q ≡ free_at ps q) (eqb-true x.place p t) (here ∙ sym there))
    (λ t. ap is_free (get_d_modify_other x.place p (marked g Obsolete 0) ps (0 ∷ []) (eqb-false x.place p t)))
  where
    set : is_set g Valid m.page ≡ true
    set = and_left (is_set g Valid m.page) _ m.lives

    there : free_at ps x.place ≡ false
    there = ap is_free (At-is x.place m.page ps (0 ∷ []) m.stands) ∙ valid_taken g m.page set

    here : free_at (modify x.place (marked g Obsolete 0) ps) x.place ≡ false
    here =
        ap is_free (At-is x.place (marked g Obsolete 0 m.page) (modify x.place (marked g Obsolete 0) ps) (0 ∷ []) (At-same (marked g Obsolete 0) x.place m.page ps m.stands))
        ∙ valid_taken g (marked g Obsolete 0 m.page) (marked_other g Obsolete Valid 0 m.page (λ e. omega arith) ∙ set)

free_marks : (g : Geometry) (v : List Live) (ps : List Page) → All (LiveAt g ps) v → Apart v → (p : ℕ) → free_at (done_all_lem g ps (map retire v)) p ≡ free_at ps p
free_marks g [] ps m a p = refl
free_marks g (x ∷ v) ps m a p =
    free_marks g v (modify x.place (marked g Obsolete 0) ps) (still_live g x ps a.0 (All-tail m)) a.1 p ∙ free_one g x ps (All-head m) p

tests_same : {A : Type 0} (p q : A → Bool) → ((x : A) → p x ≡ q x) → (xs : List A) → all p xs ≡ all q xs
tests_same p q h [] = refl
tests_same p q h (x ∷ xs) = rw (h x, tests_same p q h xs)

module _ (g : Geometry) (ps : List Page) where
  pub free_same : (p : ℕ) → free_at (unvoided g ps) p ≡ free_at ps p
  unfolding unvoided
  free_same p = free_marks g (void_pages g ps) ps (void_live g ps) (void_differ g ps) p

  -- so the same blocks are wholly free
  pub blocks_same : (B : ℕ) → free_blocks g B (unvoided g ps) ≡ free_blocks g B ps
  blocks_same B =
      filter_same (wholly_free g (unvoided g ps)) (wholly_free g ps) {xs = count_from 0 B}
      (All-map (λ b l. tests_same (free_at (unvoided g ps)) (free_at ps) free_same (pages_in g b)) (below_all B))

  pub has_same : (B : ℕ) → has_free_blocks g B (unvoided g ps) ≡ has_free_blocks g B ps
  unfolding has_free_blocks
  has_same B = ap (λ (bs : List ℕ). leb (eighth B) (length bs)) (blocks_same B)

  -- and the plan is the same
  pub rebuild_same : (limit B : ℕ) (w : ℕ → View) → rebuild_plan g limit B (unvoided g ps) w ≡ rebuild_plan g limit B ps w
  unfolding rebuild_plan
  rebuild_same limit B w =
      ap (λ (bs : List ℕ). record { erased = []; written = sheets (flat (pages_in g) (take (eighth B) bs)) (all_packs (contents_anew w) (snapshot_assignment g limit (contents_anew w)) limit) })
      (blocks_same B)

  -- as many operations as marks and those of the commit
  pub rebuild_length : (limit B G : ℕ) (w : ℕ → View) → length (rebuild_ops g limit B ps G w) ≡ length (mount_ops g ps) + length (ops_of g G (rebuild_plan g limit B ps w))
  rebuild_length limit B G w = length-append (mount_ops g ps) (ops_of g G (rebuild_plan g limit B ps w))
