-- The tests of a rebuild on an image that means a tree: whether a number is left, and whether enough blocks are wholly free. Assumes nothing.
use mathlib.Core.Path.{sym, ap, subst, ◌∙◌}
use mathlib.Core.Bool.{Bool, cond}
use mathlib.Core.List.{List}
use Prim.Native.Nat.{ℕ, ◌<◌, ◌≤◌}
use native.Mathlib.Omega.{arith}
use lib.ListN.{length, take}
use lib.Seq.{take-take}
use borrow.Author.Tests.{le-leb, lt-leb}
use Rattle.std.specs.Prelude.{Option}
use Rattle.chip.specs.Geometry.{Geometry, blocks_of}
use Rattle.chip.specs.Chip.{pages_of}
use Rattle.journal.specs.Rebuild as Log
use Rattle.journal.specs.Rebuild.{eighth, free_blocks}
use Rattle.promise.specs.Plain.{last_number}
use Rattle.promise.specs.Calls.{invalid, means}
use Rattle.promise.specs.Image.{views_of, by_six, image_meaning}
use Rattle.renewal.specs.MakeCode.{FindsFree}
use Rattle.store.specs.AdmitCode.{ChipOf}
use Rattle.store.specs.CheckCode.{Read}
use Rattle.store.specs.PrepareCode.{MeansTree, IsLast, IsFull, IsReady}
use Rattle.store.specs.Rebuild.{has_free_blocks}

module _ (g : Geometry) (image lens slots free : List ℕ) (G : ℕ) (v : Option ℕ) (w : Bool) (rd : Read g image lens slots free G v w) where
  meant : MeansTree g image G
  unfolding image_meaning
  meant =
      record {
        tree = views_of rd.nodes;
        is = ap by_six rd.means ∙ ap (λ (t : Bool). cond t (means (views_of rd.nodes) G) (invalid 9)) rd.tree;
      }

  pub is_last : last_number ≤ G → IsLast g image
  is_last l = record { number = G; meant = meant; last = l }

  module _ (left : G < last_number) (b : ℕ) (chip : ChipOf g b (length image)) (ring : List ℕ) (r : ℕ) (found : FindsFree g b (pages_of g image) ring r) where
    -- the blocks found are those of the chip
    found_chip : FindsFree g (blocks_of g (length image)) (pages_of g image) ring r
    found_chip = subst (λ (c : ℕ). FindsFree g c (pages_of g image) ring r) chip.blocks found

    pub is_full : r < eighth b → IsFull g image
    unfolding has_free_blocks Log.has_free_blocks
    is_full l =
        record {
          number = G;
          meant = meant;
          left = left;
          blocks = lt-leb (eighth (blocks_of g (length image))) (length (free_blocks g (blocks_of g (length image)) (pages_of g image))) (omega (arith, found_chip.count, chip.blocks));
        }

    pub is_ready : eighth b ≤ r → IsReady g image lens slots ring G v
    unfolding has_free_blocks Log.has_free_blocks
    is_ready l =
        let e = eighth (blocks_of g (length image)) in
        let h : e ≤ r = omega (arith, chip.blocks) in
        record {
          free = free;
          thin = w;
          read = rd;
          left = left;
          blocks = le-leb e (length (free_blocks g (blocks_of g (length image)) (pages_of g image))) (omega (arith, found_chip.count));
          front = sym (take-take e r ring h) ∙ ap (take e) found_chip.list;
        }
