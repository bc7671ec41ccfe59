-- The tree that steps 1 to 6 read from an image, whatever wrote it, is a tree: so every finished mount gives one. Assumes nothing.
use mathlib.Core.Path.{◌≡◌, refl, ap, subst}
use mathlib.Core.Bool.{Bool, true, false, cond, ◌&&◌}
use mathlib.Core.List.{List, [], ◌∷◌}
use Prim.Native.Nat.{ℕ, zero, suc, ◌*◌}
use native.Mathlib.Omega.{arith}
use lib.ListN.{length}
use Rattle.lists.specs.Lists.{all, tab}
use Rattle.chip.specs.Geometry.{Geometry, blocks_of}
use Rattle.chip.specs.Chip.{pages_of}
use Rattle.pages.specs.Steps.{Stood, refused, stand, steps, commit, last_from}
use Rattle.views.specs.Nodes.{View, untouched, freed, broken, view}
use Rattle.views.specs.Table as Views
use Rattle.views.proofs.Entries.{RisingView, FewView}
use Rattle.views.proofs.Folds.{node_rising, node_few}
use Rattle.tree.specs.Tree.{Table, entries_of, entries_at}
use Rattle.tree.specs.Step6.{step6, NodeFits, Tree}
use Rattle.promise.specs.Calls.{invalid, means}
use Rattle.promise.specs.Image.{views_of, by_six, image_meaning}

fits_view : (w : View) → RisingView w → FewView w → NodeFits (entries_of w)
fits_view untouched r f = record { rising = tt; few = omega arith }
fits_view freed r f = record { rising = tt; few = omega arith }
fits_view broken r f = record { rising = tt; few = omega arith }
fits_view (view l es) r f = record { rising = r; few = f }

fits_at : (f : ℕ → Views.Node) → ((n : ℕ) → NodeFits (entries_of (f n).now)) → (k m n : ℕ) → NodeFits (entries_at (views_of (tab k m f)) n)
fits_at f h k zero n = record { rising = tt; few = omega arith }
fits_at f h k (suc m) zero = h k
fits_at f h k (suc m) (suc n) = fits_at f h (suc k) m n

views_size : (f : ℕ → Views.Node) (k m : ℕ) → length (views_of (tab k m f)) ≡ m
views_size f k zero = refl
views_size f k (suc m) = ap suc (views_size f (suc k) m)

invalid_not : {Q : Type 0} (n : ℕ) (t : Table) (G : ℕ) → invalid n ≡ means t G → Q
invalid_not n t G e = let u : ◌≡◌ {A = ℕ} 0 1 = cc in absurd (omega arith)

checked_is : (b : Bool) (u t : Table) (c G : ℕ) → cond b (means u c) (invalid 9) ≡ means t G → (u ≡ t) × (b ≡ true)
checked_is true u t c G e = (cc, refl)
checked_is false u t c G e = invalid_not 9 t G e

-- a table of `limit` views that passes
pub record ReadTree (limit : ℕ) (t : Table) : Type 0 where
  pub tree : Tree t
  pub size : length t ≡ limit

read_tree : (limit : ℕ) (es : List Views.Event) (b : Bool) (c : ℕ) (t : Table) (G : ℕ)
    → by_six (cond b (Views.means (Views.table limit es) c) (Views.refusal 8)) ≡ means t G → ReadTree limit t
read_tree limit es false c t G e = invalid_not 8 t G e
read_tree limit es true c t G e =
    let u = views_of (Views.table limit es) in
    let r = checked_is (step6 u) u t c G e in
    subst (λ (w : Table). ReadTree limit w) r.0
    (record {
      tree = record {
        views = λ n. fits_at (λ m. Views.node_of m es) (λ m. fits_view (Views.node_of m es).now (node_rising m es) (node_few m es)) 0 limit n;
        passes = r.1;
      };
      size = views_size (λ m. Views.node_of m es) 0 limit;
    })

stood_tree : (limit : ℕ) (x : Stood) (t : Table) (G : ℕ) → by_six (Views.read_stood limit x) ≡ means t G → ReadTree limit t
stood_tree limit (refused n) t G e = invalid_not n t G e
stood_tree limit (stand v []) t G e = invalid_not 7 t G e
stood_tree limit (stand v (x ∷ xs)) t G e =
    read_tree limit (Views.events limit (x ∷ xs)) (all Views.is_sound (Views.events limit (x ∷ xs)) && all Views.is_well (Views.table limit (Views.events limit (x ∷ xs)))) (commit (last_from x xs)) t G e

pub image_tree : (g : Geometry) (image : List ℕ) (t : Table) (G : ℕ) → image_meaning g image ≡ means t G → ReadTree (8 * blocks_of g (length image)) t
unfolding image_meaning Views.meaning
image_tree g image t G e = stood_tree (8 * blocks_of g (length image)) (steps g (pages_of g image)) t G e
