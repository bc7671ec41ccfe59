-- The arrays of a rebuild hold its plan: the nodes packed as those of a snapshot, on places of the first wholly free blocks. Assumes nothing.
use mathlib.Core.Path.{◌≡◌, refl, sym, ap, ap₂, ◌∙◌, subst}
use mathlib.Core.Logic.{⊎_elim}
use mathlib.Core.Bool.{Bool, true}
use mathlib.Core.List.{List, [], ◌∷◌, ◌++◌, map}
use Prim.Native.Nat.{ℕ, zero, suc, ◌+◌, ◌-◌, ◌*◌, ◌<◌, ◌≤◌}
use native.Mathlib.Omega.{arith}
use lib.Dec.{eqb, leb, ltb}
use lib.ListN.{length, take, drop, get_or, replicate, length-replicate, get_or-append}
use lib.Seq.{get_or-append-add, get_or-drop}
use borrow.Author.Tests.{eq-eqb, le-leb, le-ltb, lt-leb, lt-ltb}
use Rattle.lists.specs.Lists.{All, bit, flat, tab}
use Rattle.lists.proofs.Alls.{All-map, All-take}
use Rattle.lists.proofs.Flats.{All-flat, length_tab, tab_same}
use Rattle.lists.proofs.Places.{get_d_same}
use Rattle.lists.proofs.Sets.{tab_range}
use Rattle.lists.proofs.Tests.{below_or_not}
use Rattle.chip.specs.Geometry.{Geometry, Fits}
use Rattle.chip.specs.Page.{Page}
use Rattle.chip.proofs.Sizes.{block_on}
use Rattle.numbers.specs.NumberSet.{uncounted, words_of}
use Rattle.pages.specs.declared.unit.Update.{Update}
use Rattle.views.specs.Nodes.{Entry, View}
use Rattle.views.specs.NodeCode.{entries_in}
use Rattle.tree.specs.Step6.{Tree}
use Rattle.tree.specs.Tree.{Table, at, next, records, there}
use Rattle.tree.specs.Free.{free_numbers, is_open}
use Rattle.tree.specs.Rebuild.{nodes_for, rebuild}
use Rattle.tree.specs.RecordsCode.{GathersRecords}
use Rattle.tree.proofs.LayerFacts.{beside_many, nodes_beside}
use Rattle.tree.proofs.NodeCount.{records_most}
use Rattle.tree.proofs.RebuildLaws.{rebuild_next, rebuild_tree}
use Rattle.journal.specs.Commit.{Pack, units_of_packs}
use Rattle.journal.specs.Plan.{pages_in, rewrite, sheets}
use Rattle.journal.specs.Admissible.{Assignment, Contents, all_packs, page_packs, written_of}
use Rattle.journal.specs.Packing.{Packing, packed, snapshot_packing}
use Rattle.journal.specs.Policy.{sizes_of, snapshot_assignment}
use Rattle.journal.specs.PlanCode.{KeepsUnits, is_marked, packing_of, sizes_in, target_in}
use Rattle.journal.specs.Rebuild.{contents_anew, eighth, free_blocks, free_places, rebuild_plan}
use Rattle.journal.proofs.ContentsLaws.{SamePacking, page_same}
use Rattle.journal.proofs.RebuildBlocks.{sheets_take}
use Rattle.packing.specs.PackingCode.{Packs}
use Rattle.plan.specs.declared.make.Plan.{Plan}
use Rattle.plan.specs.MakeCode.{HoldsAssignment}
use Rattle.plan.specs.PlacesCode.{Spare}
use Rattle.plan.proofs.ChooseLaws.{holds_snapshot, snapshot_arrays}
use Rattle.execution.specs.WriteCode.{Holds}
use Rattle.execution.specs.ExecutionCode.{named_plan}
use Rattle.renewal.specs.LayersCode.{LaysTree}
use Rattle.renewal.specs.MakeCode.{LaysAnew, LaysPages, MakesRebuild, Rebuildable, anew_of, numbers_from}
use Rattle.renewal.proofs.BlocksLaws.{free_room, free_spare}

-- ---- the tree laid anew
-- the numbers of the nodes above c records, where those that the tree takes are few
nodes_few : (c : ℕ) → suc (nodes_beside 2 c) ≤ 256 → 1 + nodes_for c + nodes_for (nodes_for c) ≤ 256
nodes_few c h =
    ⊎_elim
    (λ (m : 16 < c). ⊎_elim
    (λ (k : 16 < nodes_for c). omega (arith, beside_many 1 c m, beside_many 0 (nodes_for c) k))
    (λ (k : nodes_for c ≤ 16). omega arith)
    (below_or_not 16 (nodes_for c)))
    (λ (m : c ≤ 16). omega arith)
    (below_or_not 16 c)

module _ {B : ℕ} {t : Table} (most : B ≤ 32) (tree : Tree t) (size : length t ≡ 8 * B) {r : ℕ} {ks vs : List ℕ} (ga : GathersRecords t r ks vs) where
  few_records : length (records t) ≤ 4096
  few_records = records_most B t most tree size

  -- as many as a tree can be laid of
  pub records_fit : 1 + nodes_for r + nodes_for (nodes_for r) ≤ 256
  records_fit =
      let e : r ≡ length (records t) = ga.count few_records in
      let k = (rebuild_tree B t most tree size).numbers in
      rw e (nodes_few (length (records t)) (omega (arith, rebuild_next t, k)))

  pub laid_anew : {sizes units : List ℕ} {n : ℕ} → LaysTree (8 * B) t (entries_in r ks vs) sizes units n → LaysAnew (8 * B) t sizes units n
  unfolding rebuild
  laid_anew {sizes} {units} {n} l =
      let k = subst (λ (es : List Entry). LaysTree (8 * B) t es sizes units n) (ga.is few_records) l in
      record { holds = k.holds; numbers = k.numbers; few = k.few }

-- ---- the numbers that no node has
-- n times 1
ones_at : (n m : ℕ) → m < n → get_or {A = ℕ} (replicate n 1) m 0 ≡ 1
ones_at zero m h = absurd (omega arith)
ones_at (suc n) zero h = refl
ones_at (suc n) (suc m) h = ones_at n m (omega arith)

-- a 1 for each of the first n, 0 for the others
first_ones : (n m : ℕ) → get_or (replicate n 1 ++ drop n (replicate 256 0)) m 0 ≡ bit (ltb m n)
first_ones n m =
    let xs : List ℕ = replicate n 1 in
    let ys : List ℕ = drop n (replicate 256 0) in
    let l : length xs ≡ n = length-replicate {A = ℕ} n 1 in
    ⊎_elim
    (λ (h : m < n). get_or-append xs ys 0 m (subst (λ (k : ℕ). m < k) (sym l) h) ∙ ones_at n m h ∙ ap bit (sym (lt-ltb m n h)))
    (λ (h : n ≤ m). let e : m ≡ length xs + (m - n) = omega arith in
    ap (λ (k : ℕ). get_or (xs ++ ys) k 0) e ∙ get_or-append-add xs ys (m - n) 0 ∙ get_or-drop n (replicate 256 0) (m - n) 0 ∙ get_d_same 256 (n + (m - n)) 0
    ∙ ap bit (sym (le-ltb m n h)))
    (below_or_not m n)

-- a number is open where it is not below n
bit_open : (n m : ℕ) → eqb (bit (ltb m n)) 0 ≡ leb n m
bit_open n m =
    ⊎_elim (λ (h : m < n). rw (lt-ltb m n h, lt-leb n m h)) (λ (h : n ≤ m). rw (le-ltb m n h, le-leb n m h)) (below_or_not m n)

pub counted_from : (n limit : ℕ) (counts free : List ℕ) → counts ≡ replicate n 1 ++ drop n (replicate 256 0) → free ≡ words_of (uncounted limit counts)
    → free ≡ words_of (numbers_from n limit)
counted_from n limit counts free e f =
    f
    ∙ ap words_of
    (tab_same (λ (m : ℕ). eqb (get_or counts m 0) 0) (leb n) 0 limit
    (λ m l. ap (λ (xs : List ℕ). eqb (get_or xs m 0) 0) e ∙ ap (λ (k : ℕ). eqb k 0) (first_ones n m) ∙ bit_open n m))

-- the numbers of a table that has its nodes in front
open_from : (u : Table) (f : ℕ → Bool) (k : ℕ) → ((n : ℕ) → is_open (at u n) ≡ f (k + n)) → map is_open u ≡ tab k (length u) f
open_from [] f k h = refl
open_from (w ∷ u) f k h =
    let a : is_open w ≡ f k = h 0 ∙ ap f (let e : k + 0 ≡ k = omega arith in e) in
    ap₂ (λ (x : Bool) (xs : List Bool). x ∷ xs) a
    (open_from u f (suc k) (λ n. h (suc n) ∙ ap f (let e : k + suc n ≡ suc k + n = omega arith in e)))

free_from : (u : Table) (n : ℕ) → ((m : ℕ) → there (at u m) ≡ bit (ltb m n)) → words_of (numbers_from n (length u)) ≡ free_numbers u
unfolding free_numbers
free_from u n d =
    ap words_of (sym (open_from u (leb n) 0
    (λ m. ap (λ (k : ℕ). eqb k 0) (d m) ∙ bit_open n m ∙ ap (leb n) (let e : m ≡ 0 + m = omega arith in e))))

-- ---- the pages
module _ (g : Geometry) (big : 34 ≤ g.units) (limit : ℕ) (most : limit ≤ 256) (w : ℕ → View) (sizes units parts forms rooms targets : List ℕ) (r : ℕ)
    (kept : (n : ℕ) → n < limit → KeepsUnits n (rewrite (w n)) (get_or sizes n 0) units)
    (none : (n : ℕ) → n < limit → get_or parts n 0 ≡ 0) (ones : (n : ℕ) → n < limit → get_or forms n 0 ≡ 1)
    (p : Packs (packed (sizes_in g.units sizes parts) (is_marked forms) limit) (2 * limit) r rooms targets forms) where
  abbrev N : Contents
  N = contents_anew w

  abbrev A : Assignment
  A = snapshot_assignment g limit N

  marked : (n : ℕ) → n < limit → is_marked forms n ≡ true
  marked n l = eq-eqb (get_or forms n 0) 1 (ones n l)

  same : SamePacking (λ n. n < limit) (packing_of (take r rooms) targets forms) (snapshot_packing (sizes_of g N) limit)
  same =
      subst (λ (K : Packing). SamePacking (λ n. n < limit) K (snapshot_packing (sizes_of g N) limit)) (sym p.is)
      (snapshot_arrays g limit N sizes parts forms none marked (λ n l. (kept n l).len))

  long : r ≤ length rooms
  long = go p.ready.pages p.few
    where
      go : length rooms ≡ 512 → r ≤ 2 * limit → r ≤ length rooms
      go e h = omega arith

  held : HoldsAssignment g limit N targets sizes units r A
  held =
      holds_snapshot g big limit N (λ n l. (kept n l).few) rooms targets forms sizes units r long
      (λ n l u. let e : written_of N (is_marked forms) n ≡ rewrite (w n) = rw (marked n l) in
      subst (λ (us : List Update). KeepsUnits n us (get_or sizes n 0) units) (sym e) (kept n l)) same

  written_anew : (n : ℕ) → n < limit → rewrite (w n) ≡ written_of N A.is_anew n
  written_anew n l = let e : A.is_anew n ≡ true = sym (same.is_anew n l) ∙ marked n l in rw e

  page_is : (i : ℕ) → page_packs (λ (n : ℕ). rewrite (w n)) (target_in targets) limit i ≡ page_packs (written_of N A.is_anew) A.target limit i
  page_is i = page_same (λ (n : ℕ). rewrite (w n)) (written_of N A.is_anew) (target_in targets) A.target limit i written_anew held.target

  -- few pages, and the arrays hold what is written on them
  pub pages_few : 2 * r ≤ suc limit
  pages_few = held.few

  pub pages_held : Holds g limit (λ (n : ℕ). rewrite (w n)) targets sizes units r
  pages_held =
      record {
        written = λ n l u. kept n l;
        fits = λ i l. subst (λ (ks : List Pack). length (units_of_packs ks) ≤ g.units) (sym (page_is i)) (held.fits i);
      }

  -- they are those of a snapshot
  pub packs_are : tab 0 r (page_packs (λ (n : ℕ). rewrite (w n)) (target_in targets) limit) ≡ all_packs N A limit
  packs_are =
      tab_same (page_packs (λ (n : ℕ). rewrite (w n)) (target_in targets) limit) (page_packs (written_of N A.is_anew) A.target limit) 0 r (λ i l. page_is i)
      ∙ ap (λ (c : ℕ). tab 0 c (page_packs (written_of N A.is_anew) A.target limit)) (sym held.count)

  -- ---- and so is the plan, on places of the wholly free blocks
  pub plan_is : (B : ℕ) (ps : List Page) (bs : List ℕ) → bs ≡ take (eighth B) (free_blocks g B ps) → (q : Plan) → LaysPages g bs r q
      → named_plan limit (λ (n : ℕ). rewrite (w n)) targets q ≡ rebuild_plan g limit B ps w
  unfolding rebuild_plan
  plan_is B ps bs f q l =
      let pp : List (List Pack) = tab 0 r (page_packs (λ (n : ℕ). rewrite (w n)) (target_in targets) limit) in
      let e : take q.erases q.erased ≡ [] = ap (λ (k : ℕ). take k q.erased) l.none in
      let s : sheets (take q.pages q.places) (tab 0 q.pages (page_packs (λ (n : ℕ). rewrite (w n)) (target_in targets) limit)) ≡ sheets (free_places g B ps) (all_packs N A limit) =
      ap (λ (k : ℕ). sheets (take k q.places) (tab 0 k (page_packs (λ (n : ℕ). rewrite (w n)) (target_in targets) limit))) l.pages
      ∙ ap (λ (ws : List ℕ). sheets ws pp) (l.places ∙ ap (λ (cs : List ℕ). take r (flat (pages_in g) cs)) f)
      ∙ sheets_take r (free_places g B ps) pp (let k = length_tab (page_packs (λ (n : ℕ). rewrite (w n)) (target_in targets) limit) 0 r in omega arith)
      ∙ ap (sheets (free_places g B ps)) packs_are in
      ap₂ (λ xs ts. record { erased = xs; written = ts }) e s

-- ---- the places are on the chip
places_low : (g : Geometry) (B : ℕ) (bs : List ℕ) → Spare B B bs → All (λ (p : ℕ). p < B * g.pages) (flat (pages_in g) bs)
places_low g B bs s =
    All-flat (pages_in g) (All-map (λ b h. All-map (λ p i. omega (arith, i.1, block_on g b B h.0)) (tab_range (b * g.pages) g.pages)) s.range)

-- ---- all of it
module _ {g : Geometry} {B : ℕ} {t : Table} {ps : List Page} {lens slots ring : List ℕ} (f : Fits g) (rb : Rebuildable g B t ps lens slots ring) where
  pub ring_spare : Spare B B (take (eighth B) ring)
  ring_spare = subst (Spare B B) (sym rb.front) (free_spare g B ps)

  limit_most : 8 * B ≤ 256
  limit_most = omega (arith, rb.most)

  -- no node has own units, and each is written anew
  none : (n : ℕ) → n < 8 * B → get_or {A = ℕ} (replicate 256 0) n 0 ≡ 0
  none n l = get_d_same 256 n 0

  ones : (n : ℕ) → n < 8 * B → get_or {A = ℕ} (replicate 256 1) n 0 ≡ 1
  ones n l = ones_at 256 n (omega (arith, limit_most))

  module _ {sizes units : List ℕ} {n : ℕ} (anew : LaysAnew (8 * B) t sizes units n) {rooms targets : List ℕ} {r : ℕ}
      (p : Packs (packed (sizes_in g.units sizes (replicate 256 0)) (is_marked (replicate 256 1)) (8 * B)) (2 * (8 * B)) r rooms targets (replicate 256 1)) where
    few_pages : r ≤ 4 * B
    few_pages = go (pages_few g f.nodes (8 * B) limit_most (at (rebuild t)) sizes units (replicate 256 0) (replicate 256 1) rooms targets r anew.holds.kept none ones p)
      where
        go : 2 * r ≤ suc (8 * B) → r ≤ 4 * B
        go h = omega arith

    pub pages_low : r ≤ 128
    pages_low = omega (arith, few_pages, rb.most)

    pub pages_room : r ≤ eighth B * g.pages
    pages_room = free_room g B ps f rb.enough r few_pages

    pub makes : (free : List ℕ) → free ≡ words_of (numbers_from n (8 * B)) → (q : Plan) → LaysPages g (take (eighth B) ring) r q
        → MakesRebuild g B t ps targets sizes units free q
    makes free e q l =
        let u = rebuild_tree B t rb.most rb.tree rb.size in
        let h = pages_held g f.nodes (8 * B) limit_most (at (rebuild t)) sizes units (replicate 256 0) (replicate 256 1) rooms targets r anew.holds.kept none ones p in
        record {
          plan = plan_is g f.nodes (8 * B) limit_most (at (rebuild t)) sizes units (replicate 256 0) (replicate 256 1) rooms targets r anew.holds.kept none ones p B ps (take (eighth B) ring) rb.front q l;
          holds = subst (Holds g (8 * B) (anew_of t) targets sizes units) (sym l.pages) h;
          few = rw l.pages pages_low;
          on = subst (λ (k : ℕ). All (λ (p : ℕ). p < B * g.pages) (take k q.places)) (sym l.pages)
              (subst (All (λ (p : ℕ). p < B * g.pages)) (sym l.places) (All-take r (places_low g B (take (eighth B) ring) ring_spare)));
          none = l.none;
          numbers = e ∙ ap₂ (λ (a b : ℕ). words_of (numbers_from a b)) anew.numbers (sym u.size) ∙ free_from (rebuild t) (next (rebuild t)) u.dense;
        }
