-- What a commit asks, from an image of bytes and a buffer; and the numbers of a chip. Assumes nothing.
use mathlib.Core.Path.{◌≡◌, refl, sym, ap, ◌∙◌}
use mathlib.Core.Bool.{true}
use mathlib.Core.List.{List}
use Prim.Native.Nat.{ℕ, suc, ◌+◌, ◌*◌, ◌/◌, ◌^◌, ◌≤◌, ◌<◌}
use native.Mathlib.Nat.{div-mul-le_self, le-div_iff_mul-le, mul-le-mul_left}
use native.Mathlib.Omega.{arith}
use lib.ListN.{length}
use Rattle.lists.specs.Lists.{All}
use Rattle.chip.specs.Geometry.{Geometry, Fits, small, large, page_size}
use Rattle.chip.proofs.Sizes.{pages_pos}
use Rattle.chip.specs.Page.{Page}
use Rattle.chip.proofs.Runs.{Sized}
use Rattle.pages.specs.declared.unit.Unit as U
use Rattle.pages.specs.Units.{Valid}
use Rattle.views.specs.Table.{fresh, Node, is_whole}
use Rattle.views.specs.Groups.{present}
use Rattle.views.proofs.Meanings.{Kept, node_in, kept_node}
use Rattle.journal.specs.Plan.{most_ops, spare_blocks, node_at}
use Rattle.journal.proofs.AssignedChoice.{Chip, Committable}
use Rattle.journal.proofs.PlanFair.{Bytes, fair_kept}
use Rattle.journal.proofs.PlanNodes.{fair_present}

-- the buffer: units that obey the layout, and no view after it broken
pub record Buffer (limit : ℕ) (tb : List Node) (us : List U.Unit) : Type 0 where
  pub pending : 0 < length us
  pub valid : All (Valid limit) us
  pub whole : (n : ℕ) → n < limit → is_whole (present n (node_at tb n).now us) ≡ true

-- ---- what a commit asks, from an image of bytes and a buffer; without room
pub ready : (g : Geometry) (limit B : ℕ) (ps : List Page) (tb : List Node) (G : ℕ) (us : List U.Unit) → Kept g limit ps tb G → suc G < 2 ^ 32 → All Bytes ps
    → All (Sized g) ps → length ps ≡ B * g.pages → Buffer limit tb us → Committable g limit B ps tb G us
ready g limit B ps tb G us k number b sizes long bu =
    record {
      kept = k;
      number = number;
      sizes = sizes;
      length_is = long;
      valid = bu.valid;
      fair = λ n l.
          let e : node_at tb n ≡ node_in g limit ps n = kept_node g limit ps tb G k n fresh l in
          fair_present limit n (node_in g limit ps n).now us bu.valid (fair_kept g limit ps tb G k b n l)
          (ap (λ (s : Node). is_whole (present n s.now us)) (sym e) ∙ bu.whole n l);
    }

-- ---- a chip of 3 to 32 blocks of a part that fits
module _ (g : Geometry) (f : Fits g) where
  pub chip_of : (B : ℕ) (torn : List ℕ) → length torn ≡ page_size g → Chip g (8 * B) B torn
  chip_of B torn e = record { part = f; torn_size = e; lim = refl }

  -- one spare block, and one more for every 8
  pub spare_few : (B : ℕ) → spare_blocks g B ≤ B / 8 + 1
  spare_few B =
      let n : ℕ = 4 * B / g.pages in
      let m : n * 32 ≤ n * g.pages = mul-le-mul_left n f.many in
      omega (arith, m, div-mul-le_self (4 * B) g.pages)

  pub wide : (B : ℕ) → 3 ≤ B → 2 * spare_blocks g B + 1 ≤ B
  wide B h = omega (arith, spare_few B)

  -- no more operations than on the most blocks
  pub few_ops : (B n : ℕ) → B ≤ 32 → n ≤ 12 * B + spare_blocks g B → n ≤ most_ops g
  few_ops B n h k =
      let m : ℕ = 4 * B / g.pages in
      let l : m * g.pages ≤ 4 * 32 = omega (arith, div-mul-le_self (4 * B) g.pages) in
      let d : m ≤ 4 * 32 / g.pages = (le-div_iff_mul-le (pages_pos g f)).1 l in
      omega (arith, d)

-- these are 389 on the small part and 387 on the large one
most_examples : (most_ops small ≡ 389) × (most_ops large ≡ 387)
most_examples = (refl, refl)
