-- Format: a finished one leaves, of any image of b blocks, one empty leaf with number 1, and every other page blank; b + 3 operations, all legal. Assumes nothing.
use mathlib.Core.Path.{◌≡◌, refl, sym, ap, ap₂, ◌∙◌}
use mathlib.Core.Bool.{true}
use mathlib.Core.List.{List, [], ◌∷◌, ◌++◌, append_assoc, append-nil}
use Prim.Native.Nat.{ℕ, zero, suc, ◌+◌, ◌-◌, ◌*◌, ◌≤◌, ◌<◌}
use native.Mathlib.Nat.{mul-le-mul, suc-mul, zero-mul, add-mul}
use native.Mathlib.Omega.{arith}
use lib.Dec.{ltb}
use lib.ListN.{length, take, drop, replicate, length-append, length-drop, length-replicate, replicate-append-replicate}
use lib.Seq.{take_at, drop_at}
use borrow.Author.Tests.{eq-eqb, ne_eqb}
use Rattle.lists.specs.Lists.{none, more, modify, tab}
use Rattle.lists.proofs.Places.{length_map_from}
use Rattle.lists.proofs.Flats.{length_tab, all_tab}
use Rattle.chip.specs.declared.page.Mark.TheVariants.{Used, Valid}
use Rattle.chip.specs.Geometry.{Geometry, Fits}
use Rattle.chip.specs.Power.{is_gone}
use Rattle.chip.specs.Page.{Page, blank, marked, programmed}
use Rattle.chip.specs.Chip.{Op, erase, filled, whole, Legal, Machine}
use Rattle.chip.proofs.Sizes.{pages_pos}
use Rattle.chip.proofs.ImageLaws.{filled_patch}
use Rattle.chip.proofs.Marks.{blank_quiet, third_live, third_data, marked_data}
use Rattle.chip.proofs.Runs.{after, run_parts, run_gone}
use Rattle.std.proofs.Common.{Some}
use Rattle.pages.specs.declared.header.Head.{Head}
use Rattle.pages.specs.Units.{encode}
use Rattle.pages.specs.Data.{head_of}
use Rattle.pages.specs.Steps.{Live, live_from, commit, index, count, is_at, full}
use Rattle.pages.specs.Write.{writes}
use Rattle.pages.proofs.Settle.{Whole}
use Rattle.pages.proofs.UnitLaws.{length_units, level_value}
use Rattle.pages.proofs.HeaderLaws.{laid_size, laid_head, laid_obeys}
use Rattle.views.specs.Table.{Event, event_at, events, node_of, is_well}
use Rattle.views.proofs.Folds.{events_laid}
use Rattle.views.proofs.Meanings.{in_order, Standing, standing_means, standing_clean, Kept}
use Rattle.journal.specs.Format.{root_reset, format_data, format_ops, formatted_by, formatted, format_node, format_table}

-- ---- how many operations
pub format_count : (g : Geometry) (b : ℕ) → length (format_ops g b) ≡ b + 3
format_count g b = length-append (tab 0 b erase) (writes 0 (format_data g)) ∙ ap (λ (n : ℕ). n + 3) (length_tab erase 0 b)

-- ---- the erases
-- the pages after blocks k, k + 1, .. are erased, m of them
abbrev cleared_from : Geometry → ℕ → ℕ → List Page → List Page
cleared_from g k zero ps = ps
cleared_from g k (suc m) ps = cleared_from g (suc k) m (whole g (erase k) ps)

-- erases with power enough, and what follows them
erases : (g : Geometry) (torn : List ℕ) (os : List Op) (m k n j : ℕ) (ps : List Page) → n ≡ m + j
    → after g torn n ps (tab k m erase ++ os) ≡ after g torn j (cleared_from g k m ps) os
erases g torn os zero k n j ps e = ap (λ (a : ℕ). after g torn a ps os) (let h : n ≡ j = omega arith in h)
erases g torn os (suc m) k zero j ps e = absurd (omega arith)
erases g torn os (suc m) k (suc n) j ps e = erases g torn os m (suc k) n j (whole g (erase k) ps) (omega arith)

module _ (g : Geometry) where
  -- block k erased behind blank pages
  erase_next : (k : ℕ) (rest : List Page) → g.pages ≤ length rest
      → whole g (erase k) (replicate (k * g.pages) (blank g) ++ rest) ≡ replicate (suc k * g.pages) (blank g) ++ drop g.pages rest
  erase_next k rest l =
      let n : ℕ = k * g.pages in
      let p : List Page = replicate n (blank g) in
      let lp : length p ≡ n = length-replicate n (blank g) in
      filled_patch g k (blank g) (p ++ rest) (omega (arith, length-append p rest))
      ∙ ap₂ (λ (a b : List Page). a ++ (replicate g.pages (blank g) ++ drop g.pages b)) (take_at p rest n lp) (drop_at p rest n lp)
      ∙ sym (append_assoc p (replicate g.pages (blank g)) (drop g.pages rest))
      ∙ ap (λ (a : List Page). a ++ drop g.pages rest)
      (replicate-append-replicate n g.pages (blank g) ∙ ap (λ (a : ℕ). replicate a (blank g)) (let e : n + g.pages ≡ suc k * g.pages = omega (arith, suc-mul k g.pages) in e))

  -- all blocks from k on
  all_blank : (m k : ℕ) (rest : List Page) → length rest ≡ m * g.pages
      → cleared_from g k m (replicate (k * g.pages) (blank g) ++ rest) ≡ replicate ((k + m) * g.pages) (blank g)
  all_blank zero k [] l = append-nil (replicate (k * g.pages) (blank g)) ∙ ap (λ (a : ℕ). replicate (a * g.pages) (blank g)) (let e : k ≡ k + 0 = omega arith in e)
  all_blank zero k (x ∷ rest) l = absurd (omega (arith, zero-mul g.pages))
  all_blank (suc m) k rest l =
      let s = suc-mul m g.pages in
      ap (cleared_from g (suc k) m) (erase_next k rest (omega arith))
      ∙ all_blank m (suc k) (drop g.pages rest) (length-drop g.pages rest ∙ omega arith)
      ∙ ap (λ (a : ℕ). replicate (a * g.pages) (blank g)) (let e : suc k + m ≡ k + suc m = omega arith in e)

  cleared_blank : (b : ℕ) (ps : List Page) → length ps ≡ b * g.pages → cleared_from g 0 b ps ≡ replicate (b * g.pages) (blank g)
  cleared_blank b ps l =
      ap (λ (a : ℕ). cleared_from g 0 b (replicate a (blank g) ++ ps)) (sym (zero-mul g.pages))
      ∙ all_blank b 0 ps l ∙ ap (λ (a : ℕ). replicate (a * g.pages) (blank g)) (let e : 0 + b ≡ b = omega arith in e)

-- ---- what a finished format leaves, whatever the image was
written_first : (g : Geometry) (n : ℕ)
    → modify 0 (marked g Valid 0) (modify 0 (programmed g (format_data g)) (modify 0 (marked g Used 0) (replicate n (blank g)))) ≡ formatted g n
written_first g zero = refl
written_first g (suc n) = refl

pub format_pages : (g : Geometry) (torn : List ℕ) (b n : ℕ) (ps : List Page) → length ps ≡ b * g.pages → b + 3 ≤ n
    → (formatted_by g torn b n ps).pages ≡ formatted g (b * g.pages)
format_pages g torn b n ps l h =
    let j : ℕ = n - (b + 3) in
    ap (λ (m : Machine). m.pages) (run_parts g torn n ps (format_ops g b))
    ∙ erases g torn (writes 0 (format_data g)) b 0 n (suc (suc (suc j))) ps (omega arith)
    ∙ ap (λ (qs : List Page). modify 0 (marked g Valid 0) (modify 0 (programmed g (format_data g)) (modify 0 (marked g Used 0) qs))) (cleared_blank g b ps l)
    ∙ written_first g (b * g.pages)

-- power is gone exactly with an allowance below b + 3
pub format_gone : (g : Geometry) (torn : List ℕ) (b n : ℕ) (ps : List Page) → is_gone (formatted_by g torn b n ps).power ≡ ltb n (b + 3)
format_gone g torn b n ps = run_gone g torn n ps (format_ops g b) ∙ ap (ltb n) (format_count g b)

-- ---- what it means
-- a commit of one page is full
one_full : (x : Live) → index x ≡ 0 → count x ≡ 1 → full x (x ∷ []) ≡ true
unfolding full is_at
one_full x i n = rw (n, eq-eqb (commit x) (commit x) refl, eq-eqb (index x) 0 i)

blank_live : (g : Geometry) (i n : ℕ) → live_from g i (replicate n (blank g)) ≡ []
blank_live g i zero = refl
blank_live g i (suc n) = rw (blank_quiet g) (blank_live g (suc i) n)

module _ (g : Geometry) (room : 3 ≤ g.spare) (fits : 8 + 12 * g.units ≤ g.area) (some : 1 ≤ g.units) where
  -- the page of commit 1 as a live page
  abbrev root : Live
  root = record { place = 0; bytes = format_data g }

  root_size : length (format_data g) ≡ g.area
  root_size = laid_size g 1 0 1 1 (encode root_reset ++ []) fits some (length_units (root_reset ∷ []))

  root_head : head_of (format_data g) ≡ record { commit = 1; index = 0; count = 1; units = 1 }
  root_head = laid_head g 1 0 1 1 (encode root_reset ++ []) (omega arith)

  -- it is the one live page of a finished format
  pub format_order : (n : ℕ) → in_order g (formatted g (suc n)) ≡ root ∷ []
  format_order n =
      rw (third_live g 0 (format_data g) root_size 0 room, blank_live g 1 n)
      (ap (λ (d : List ℕ). record { place = 0; bytes = d } ∷ []) (third_data g 0 (format_data g) root_size 0))

  root_commit : commit root ≡ 1
  unfolding commit
  root_commit = ap (λ (h : Head). h.commit) root_head

  root_index : index root ≡ 0
  unfolding index
  root_index = ap (λ (h : Head). h.index) root_head

  root_count : count root ≡ 1
  unfolding count
  root_count = ap (λ (h : Head). h.count) root_head

  root_whole : Whole g [] root
  root_whole =
      record {
        owns = more (laid_obeys g 1 0 1 1 (encode root_reset ++ []) (omega arith) (omega arith) (omega arith) (omega arith) some (length_units (root_reset ∷ []))) none;
        links = refl;
        is = one_full root root_index root_count;
      }

  module _ (limit : ℕ) (nodes : 0 < limit) where
    -- its one unit
    root_events : events limit (root ∷ []) ≡ event_at 0 (Some root_reset) ∷ []
    root_events =
        ap (λ (es : List Event). es ++ [])
        (events_laid g limit 0 1 0 1 (root_reset ∷ []) (omega arith) (more (record { node = nodes; update = level_value 0 (omega arith) }) none))

    root_node : (n : ℕ) → node_of n (event_at 0 (Some root_reset) ∷ []) ≡ format_node n
    unfolding node_of
    root_node zero = refl
    root_node (suc n) = rw (ne_eqb 0 (suc n) (λ e. omega arith))

    root_standing : Standing g limit format_node 1 [] root
    root_standing =
        record {
          is = root_whole;
          sounds = rw root_events (more refl none);
          nodes = λ n l. ap (node_of n) root_events ∙ root_node n;
          last = root_commit;
        }

    leaf_well : (n : ℕ) → is_well (format_node n) ≡ true
    unfolding is_well
    leaf_well zero = refl
    leaf_well (suc n) = refl

    -- what a finished format leaves: one empty leaf, number 1, no void page
    pub formatted_kept : (n : ℕ) → 0 < n → Kept g limit (formatted g n) (format_table limit) 1
    formatted_kept zero h = absurd (omega arith)
    formatted_kept (suc n) h =
        record {
          is = standing_means g limit format_node 1 [] root root_standing (all_tab is_well format_node 0 limit (λ k l. leaf_well k)) (formatted g (suc n)) (format_order n);
          clean = standing_clean g limit format_node 1 [] root root_standing (formatted g (suc n)) (format_order n);
        }

    -- of any image of b blocks, finished
    pub format_kept : (torn : List ℕ) (b n : ℕ) (ps : List Page) → length ps ≡ b * g.pages → 0 < length ps → b + 3 ≤ n
        → Kept g limit (formatted_by g torn b n ps).pages (format_table limit) 1
    format_kept torn b n ps l h e = rw (format_pages g torn b n ps l e) (formatted_kept (b * g.pages) (omega arith))

-- ---- the operations are legal
erase_room : (g : Geometry) (m k : ℕ) → k * g.pages + g.pages ≤ (k + suc m) * g.pages
erase_room g m k = omega (arith, add-mul k (suc m) g.pages, suc-mul m g.pages)

erase_more : (g : Geometry) (m k : ℕ) → (suc k + m) * g.pages ≡ (k + suc m) * g.pages
erase_more g m k = ap (λ (a : ℕ). a * g.pages) (let e : suc k + m ≡ k + suc m = omega arith in e)

erases_legal : (g : Geometry) (os : List Op) (m k : ℕ) (ps : List Page) → (k + m) * g.pages ≤ length ps → Legal g (cleared_from g k m ps) os
    → Legal g ps (tab k m erase ++ os)
erases_legal g os zero k ps l h = h
erases_legal g os (suc m) k ps l h = (
  omega (arith, erase_room g m k),
  erases_legal g os m (suc k) (whole g (erase k) ps) (omega (arith, erase_more g m k, length_map_from 0 (filled g k (blank g)) ps)) h,
)

writes_legal : (g : Geometry) (bytes : List ℕ) → length bytes ≡ g.area → (n : ℕ) → 0 < n → Legal g (replicate n (blank g)) (writes 0 bytes)
unfolding blank
writes_legal g bytes l zero h = absurd (omega arith)
writes_legal g bytes l (suc n) h =
    let p : Page = marked g Used 0 (blank g) in
    let w : take g.area p ≡ replicate g.area 255 =
    marked_data g Used 0 (blank g) ∙ take_at (replicate g.area 255) (replicate g.spare 255) g.area (length-replicate g.area 255) in (
      record { page = blank g; stands = refl },
      (
        record { page = p; stands = refl; erased = w; size = l },
        (record { page = programmed g bytes p; stands = refl }, tt),
      ),
    )

pub format_legal : (g : Geometry) → 8 + 12 * g.units ≤ g.area → 1 ≤ g.units → (b : ℕ) (ps : List Page) → length ps ≡ b * g.pages → 0 < length ps
    → Legal g ps (format_ops g b)
format_legal g fits some b ps l h =
    erases_legal g (writes 0 (format_data g)) b 0 ps
    (let e : 0 + b ≡ b = omega arith in omega (arith, ap (λ (a : ℕ). a * g.pages) e))
    (rw (cleared_blank g b ps l) (writes_legal g (format_data g) (laid_size g 1 0 1 1 (encode root_reset ++ []) fits some (length_units (root_reset ∷ []))) (b * g.pages) (omega arith)))

-- ---- on a chip of b blocks: one empty leaf with number 1, no void page
pub format_begun : (g : Geometry) → Fits g → (torn : List ℕ) (b n : ℕ) (ps : List Page) → 0 < b → length ps ≡ b * g.pages → b + 3 ≤ n
    → Kept g (8 * b) (formatted_by g torn b n ps).pages (format_table (8 * b)) 1
format_begun g f torn b n ps h l e =
    format_kept g f.marks f.holds (omega (arith, f.nodes)) (8 * b) (omega arith) torn b n ps l
    (omega (arith, l, mul-le-mul h (pages_pos g f))) e
