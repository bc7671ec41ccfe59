-- The numbers that no node has: what a node that is written, new or freed changes, the least one, and how many there are. Assumes nothing.
use mathlib.Core.Path.{◌≡◌, refl, sym, ap, ◌∙◌}
use mathlib.Core.Bool.{Bool, true, false}
use mathlib.Core.List.{List, [], ◌∷◌, map}
use Prim.Native.Nat.{ℕ, zero, suc, ◌+◌, ◌<◌, ◌≤◌}
use native.Mathlib.Omega.{arith}
use lib.ListN.{length, get_or, set}
use Rattle.lists.specs.Lists.{count, first}
use Rattle.lists.proofs.Flats.{length_tab}
use Rattle.chip.specs.Geometry.{Geometry}
use Rattle.chip.specs.Chip.{pages_of}
use Rattle.views.specs.Nodes.{Entry, View, untouched, freed, broken, view}
use Rattle.views.specs.Stored.{node_view}
use Rattle.numbers.specs.NumberSet.{is_in, words_of, Changes}
use Rattle.tree.specs.Tree.{there, Table, at, put, least, nodes}
use Rattle.tree.specs.Free.{is_open, free_numbers}
use Rattle.tree.specs.Shown.{shown, table_in}

-- there is one boolean for each number
pub open_length : (t : Table) → length (map is_open t) ≡ length t
open_length [] = refl
open_length (w ∷ t) = ap suc (open_length t)

-- that of number n, inside the table
pub open_at : (t : Table) (n : ℕ) → n < length t → get_or (map is_open t) n false ≡ is_open (at t n)
open_at [] n h = absurd (omega arith)
open_at (w ∷ t) zero h = refl
open_at (w ∷ t) (suc n) h = open_at t n (omega arith)

-- ---- a view that is put
pub open_put : (n : ℕ) (w : View) (t : Table) → n < length t → map is_open (put n w t) ≡ set (map is_open t) n (is_open w)
open_put n w [] h = absurd (omega arith)
open_put zero w (x ∷ t) h = refl
open_put (suc n) w (x ∷ t) h = ap (λ (bs : List Bool). is_open x ∷ bs) (open_put n w t (omega arith))

-- a node that is written again takes no number
pub open_kept : (n l : ℕ) (es : List Entry) (t : Table) → there (at t n) ≡ 1 → map is_open (put n (view l es) t) ≡ map is_open t
open_kept n l es [] h = absurd (omega arith)
open_kept zero l es (untouched ∷ t) h = absurd (omega arith)
open_kept zero l es (freed ∷ t) h = absurd (omega arith)
open_kept zero l es (broken ∷ t) h = absurd (omega arith)
open_kept zero l es (view m ds ∷ t) h = refl
open_kept (suc n) l es (x ∷ t) h = ap (λ (bs : List Bool). is_open x ∷ bs) (open_kept n l es t h)

-- ---- how many there are, and the least one
-- a number has a node or it has none
pub open_count : (t : Table) → nodes t + count is_in (map is_open t) ≡ length t
open_count [] = refl
open_count (untouched ∷ t) = omega (arith, open_count t)
open_count (freed ∷ t) = omega (arith, open_count t)
open_count (broken ∷ t) = omega (arith, open_count t)
open_count (view l es ∷ t) = omega (arith, open_count t)

pub least_first : (t : Table) → 0 < count is_in (map is_open t) → (least t ≡ first is_in (map is_open t)) × (least t < length t)
least_first [] h = absurd (omega arith)
least_first (untouched ∷ t) h = (refl, omega arith)
least_first (freed ∷ t) h = (refl, omega arith)
least_first (broken ∷ t) h = (refl, omega arith)
least_first (view l es ∷ t) h = let r = least_first t (omega arith) in (ap suc r.0, omega (arith, r.1))

-- ---- the words
-- number n is taken out: a node has it
pub free_taken : (n l : ℕ) (es : List Entry) (t : Table) {free after : List ℕ} → free ≡ free_numbers t → length t ≤ 256 → n < length t
    → Changes false n free after → after ≡ free_numbers (put n (view l es) t)
unfolding free_numbers
free_taken n l es t e few h c =
    c (map is_open t) (omega (arith, open_length t)) (omega (arith, open_length t)) e ∙ ap words_of (sym (open_put n (view l es) t h))

-- number n is put in: its node is freed
pub free_given : (n : ℕ) (t : Table) {free after : List ℕ} → free ≡ free_numbers t → length t ≤ 256 → n < length t
    → Changes true n free after → after ≡ free_numbers (put n freed t)
unfolding free_numbers
free_given n t e few h c =
    c (map is_open t) (omega (arith, open_length t)) (omega (arith, open_length t)) e ∙ ap words_of (sym (open_put n freed t h))

-- a node that is written again changes no word
pub free_kept : (n l : ℕ) (es : List Entry) (t : Table) → there (at t n) ≡ 1 → free_numbers (put n (view l es) t) ≡ free_numbers t
unfolding free_numbers
free_kept n l es t h = ap words_of (open_kept n l es t h)

-- ---- the table of an image has a view for each number below the limit
pub shown_length : (g : Geometry) (image lens slots : List ℕ) (limit count : ℕ) (bytes : List ℕ) → length (table_in g image lens slots limit count bytes) ≡ limit
unfolding shown
shown_length g image lens slots limit count bytes = length_tab (node_view g limit (pages_of g image) lens slots count bytes) 0 limit
