-- A node is at most 17 units anew, whatever image and arrays hold. Assumes nothing.
use mathlib.Core.List.{List}
use Prim.Native.Nat.{ℕ, ◌≤◌}
use native.Mathlib.Omega.{arith}
use lib.ListN.{length, length-map}
use Rattle.chip.specs.Geometry.{Geometry}
use Rattle.chip.specs.Page.{Page}
use Rattle.pages.specs.declared.unit.Update.TheVariants.{Delete, Insert}
use Rattle.views.specs.Nodes.{View, broken, freed, inserted, untouched, view}
use Rattle.views.specs.Stored.{node_view}
use Rattle.views.proofs.Entries.{FewView, apply_few}
use Rattle.views.proofs.NodeViews.{view_keeps}
use Rattle.journal.specs.Plan.{rewrite}

rewrite_few : (w : View) → FewView w → length (rewrite w) ≤ 17
rewrite_few untouched h = omega arith
rewrite_few freed h = omega arith
rewrite_few broken h = omega arith
rewrite_few (view l es) h = omega (arith, length-map es inserted)

pub node_few : (g : Geometry) (limit : ℕ) (pages : List Page) (lens slots : List ℕ) (count : ℕ) (bytes : List ℕ) (n : ℕ)
    → length (rewrite (node_view g limit pages lens slots count bytes n)) ≤ 17
node_few g limit pages lens slots count bytes n =
    rewrite_few (node_view g limit pages lens slots count bytes n)
    (view_keeps limit n FewView tt tt (λ w k v l h. apply_few w (Insert k v) h) (λ w k l h. apply_few w (Delete k) h) (λ l q a. omega arith) (λ q a. tt)
    g pages lens slots count bytes)
