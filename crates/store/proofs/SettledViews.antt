-- The views of the nodes of an image, number by number; its bytes; fair views. Assumes nothing.
use mathlib.Core.Path.{◌≡◌, refl, ap}
use mathlib.Core.Bool.{Bool, true}
use mathlib.Core.List.{List, [], ◌∷◌, map}
use Prim.Native.Nat.{ℕ, zero, suc, ◌+◌, ◌/◌, ◌≤◌, ◌<◌}
use native.Mathlib.Omega.{arith}
use lib.ListN.{length, get_or}
use Rattle.lists.specs.Lists.{All, none, more, all, tab, cut}
use Rattle.lists.proofs.Alls.{All-take, All-drop}
use Rattle.chip.specs.Geometry.{Geometry, page_size}
use Rattle.chip.specs.Chip.{pages_of}
use Rattle.views.specs.Nodes.{View, untouched}
use Rattle.views.specs.Table.{Node}
use Rattle.tree.specs.Tree.{at, entries_of, level_of}
use Rattle.journal.proofs.PlanFair.{Bytes}
use Rattle.journal.proofs.PlanNodes.{Fair, nothing, released, some, Small}
use Rattle.promise.specs.Image.{views_of}

-- ---- lists and tables
pub map_tab : {A B : Type 0} (h : A → B) (f : ℕ → A) (k m : ℕ) → map h (tab k m f) ≡ tab k m (λ n. h (f n))
map_tab h f k zero = refl
map_tab h f k (suc m) = ap (λ l. h (f k) ∷ l) (map_tab h f (suc k) m)

-- what holds of each view, and of an untouched one, holds at every number
pub views_at : (P : View → Type 0) → P untouched → (f : ℕ → Node) (k m : ℕ) → ((j : ℕ) → j < k + m → P (f j).now) → (n : ℕ) → P (at (views_of (tab k m f)) n)
views_at P u f k zero h n = u
views_at P u f k (suc m) h zero = h k (omega arith)
views_at P u f k (suc m) h (suc n) = views_at P u f (suc k) m (λ j l. h j (omega arith)) n

pub views_all : (p : View → Bool) (f : ℕ → Node) (k m : ℕ) → ((j : ℕ) → j < k + m → p (f j).now ≡ true) → all p (views_of (tab k m f)) ≡ true
views_all p f k zero h = refl
views_all p f k (suc m) h = rw (h k (omega arith)) (views_all p f (suc k) m (λ j l. h j (omega arith)))

-- ---- the bytes of an image are those of its pages
image_all : (i : List ℕ) → ((j : ℕ) → get_or i j 0 < 256) → Bytes i
image_all [] h = none
image_all (x ∷ i) h = more (h 0) (image_all i (λ j. h (suc j)))

cut_all : (k n : ℕ) {xs : List ℕ} → Bytes xs → All Bytes (cut k n xs)
cut_all k zero h = none
cut_all k (suc n) h = more (All-take k h) (cut_all k n (All-drop k h))

pub image_bytes : (g : Geometry) (i : List ℕ) → ((j : ℕ) → get_or i j 0 < 256) → All Bytes (pages_of g i)
unfolding pages_of
image_bytes g i h = cut_all (page_size g) (length i / page_size g) (image_all i h)

-- ---- fair views
pub fair_entries : {v : View} → Fair v → All Small (entries_of v)
fair_entries nothing = none
fair_entries (released a) = none
fair_entries (some a b c d) = d

pub fair_level : {v : View} → Fair v → level_of v ≤ 3
fair_level nothing = omega arith
fair_level (released a) = omega arith
fair_level (some a b c d) = a
