-- What the nodes of a rebuilt tree hold: 8 entries or more, leaves too, but for node 0; their levels; keys and values of 32 bits. Assumes nothing.
use mathlib.Core.Path.{◌≡◌, sym, ap, ◌∙◌, subst}
use mathlib.Core.Logic.{⊎_elim}
use mathlib.Core.List.{List, [], ◌∷◌}
use Prim.Native.Nat.{ℕ, suc, ◌+◌, ◌<◌, ◌≤◌}
use native.Mathlib.Omega.{arith}
use lib.ListN.{length, take, drop, length-take, length-drop}
use Rattle.lists.specs.Lists.{none, more}
use Rattle.lists.proofs.Alls.{All-head, All-take, All-drop}
use Rattle.lists.proofs.Tests.{same_or_not}
use Rattle.views.specs.Nodes.{Entry, View, view}
use Rattle.tree.specs.Tree.{level_of, entries_of, Table, at, put, first_key}
use Rattle.tree.specs.Step6.{top}
use Rattle.tree.specs.Thick.{least_of, Filled, Thick}
use Rattle.tree.specs.Rebuild.{nodes_for, put_nodes, entries_above, layers}
use Rattle.tree.proofs.Tables.{at_same, at_other}
use Rattle.tree.proofs.Validity.{Small, Smalls, small_put}
use Rattle.tree.proofs.Full.{least_8}
use Rattle.tree.proofs.EvenParts.{PartsOf, even_eights, even_length, nodes_for_two}
use Rattle.tree.proofs.LayerFacts.{parts_for, layers_by, above_length, nodes_beside, beside_above}

-- ---- 8 entries or more
view_eight : (l i : ℕ) (es ds : List Entry) → view l es ≡ view i ds → 8 ≤ length es → least_of 8 i ≤ length ds
view_eight l i es ds e h = let a : es ≡ ds = cc in omega (arith, least_8 i, ap length a)

filled_put : (x l : ℕ) (es : List Entry) (t : Table) → 8 ≤ length es → Filled 8 t → Filled 8 (put x (view l es) t)
filled_put x l es t h f n i ds p e =
    ⊎_elim
    (λ (q : x ≡ n). view_eight l i es ds (sym (at_same x (view l es) t) ∙ ap (at (put x (view l es) t)) q ∙ e) h)
    (λ (q : x ≡ n → ⊥). f n i ds p (sym (at_other x n (view l es) t q) ∙ e))
    (same_or_not x n)

filled_nodes : (l x : ℕ) (qs : List ℕ) (es : List Entry) (t : Table) → PartsOf 8 16 qs (length es) → Filled 8 t → Filled 8 (put_nodes l x qs es t)
filled_nodes l x [] es t c f = f
filled_nodes l x (q ∷ qs) es t c f =
    let a : 8 ≤ length (take q es) = rw length-take (omega (arith, c.0.low, c.0.most)) in
    filled_nodes l (suc x) qs (drop q es) (put x (view l (take q es)) t) (rw (length-drop q es) c.1) (filled_put x l (take q es) t a f)

root_thick : (l : ℕ) (es : List Entry) (t : Table) → (0 < l → 2 ≤ length es) → Filled 8 t → Thick 8 (put 0 (view l es) t)
root_thick l es t g f =
    let e = at_same 0 (view l es) t in
    record {
      nodes = λ n i ds p q. f n i ds p (sym (at_other 0 n (view l es) t (λ z. omega arith)) ∙ q);
      root = λ p. subst (λ (w : View). 2 ≤ length (entries_of w)) (sym e) (g (subst (λ (w : View). 0 < level_of w) e p));
    }

pub layers_thick : (f l x : ℕ) (es : List Entry) (t : Table) → (0 < l → 2 ≤ length es) → Filled 8 t → Thick 8 (layers f l x es t)
layers_thick =
    layers_by (λ f l x es t u. (0 < l → 2 ≤ length es) → Filled 8 t → Thick 8 u)
    (λ l x es t g h. root_thick l es t g h)
    (λ f l x es t few g h. root_thick l es t g h)
    (λ f l x es t u many r g h.
    r (λ p. omega (arith, above_length x es, nodes_for_two (length es) many)) (filled_nodes l x (parts_for es) es t (even_eights (length es) many) h))

-- ---- no node is above level m
abbrev pub Levels : ℕ → Table → Type 0
Levels m t = (n : ℕ) → level_of (at t n) ≤ m

levels_put : (m x l : ℕ) (es : List Entry) (t : Table) → l ≤ m → Levels m t → Levels m (put x (view l es) t)
levels_put m x l es t h f j =
    ⊎_elim
    (λ (q : x ≡ j). rw (← q, at_same x (view l es) t) h)
    (λ (q : x ≡ j → ⊥). rw (at_other x j (view l es) t q) (f j))
    (same_or_not x j)

levels_nodes : (m l x : ℕ) (qs : List ℕ) (es : List Entry) (t : Table) → l ≤ m → Levels m t → Levels m (put_nodes l x qs es t)
levels_nodes m l x [] es t h f = f
levels_nodes m l x (q ∷ qs) es t h f = levels_nodes m l (suc x) qs (drop q es) (put x (view l (take q es)) t) h (levels_put m x l (take q es) t h f)

pub layers_levels : (m f l x : ℕ) (es : List Entry) (t : Table) → l + f ≤ m → Levels m t → Levels m (layers f l x es t)
layers_levels m =
    layers_by (λ f l x es t u. l + f ≤ m → Levels m t → Levels m u)
    (λ l x es t h g. levels_put m 0 l es t (omega arith) g)
    (λ f l x es t few h g. levels_put m 0 l es t (omega arith) g)
    (λ f l x es t u many r h g. r (omega arith) (levels_nodes m l x (parts_for es) es t (omega arith) g))

-- ---- keys and values of 32 bits
small_nodes : (l x : ℕ) (qs : List ℕ) (es : List Entry) (t : Table) → Small es → Smalls t → Smalls (put_nodes l x qs es t)
small_nodes l x [] es t h s = s
small_nodes l x (q ∷ qs) es t h s =
    small_nodes l (suc x) qs (drop q es) (put x (view l (take q es)) t) (All-drop q h) (small_put x (view l (take q es)) t (All-take q h) s)

small_start : (es : List Entry) → 1 ≤ length es → Small es → first_key top es < top
small_start [] h s = absurd (omega arith)
small_start (e ∷ es) h s = (All-head s).0

small_above : (lo x : ℕ) (qs : List ℕ) (es : List Entry) → lo < top → x + length qs ≤ top → PartsOf 8 16 qs (length es) → Small es → Small (entries_above lo x qs es)
small_above lo x [] es g h c s = none
small_above lo x (q ∷ []) es g h c s = let b : x < top = omega arith in more (g, b) none
small_above lo x (q ∷ p ∷ qs) es g h c s =
    let d : 1 ≤ length (drop q es) = rw length-drop (omega (arith, c.1.0.low, c.1.0.most)) in
    let b : x < top = omega arith in
    more (g, b)
    (small_above (first_key top (drop q es)) (suc x) (p ∷ qs) (drop q es) (small_start (drop q es) d (All-drop q s)) (omega arith) (rw (length-drop q es) c.1) (All-drop q s))

pub layers_small : (f l x : ℕ) (es : List Entry) (t : Table) → x + nodes_beside f (length es) ≤ top → Small es → Smalls t → Smalls (layers f l x es t)
layers_small =
    layers_by (λ f l x es t u. x + nodes_beside f (length es) ≤ top → Small es → Smalls t → Smalls u)
    (λ l x es t h s ts. small_put 0 (view l es) t s ts)
    (λ f l x es t few h s ts. small_put 0 (view l es) t s ts)
    (λ f l x es t u many r h s ts.
    let b = beside_above f x es many in
    r (omega arith)
    (small_above 0 x (parts_for es) es (omega arith) (omega (arith, even_length (nodes_for (length es)) (length es))) (even_eights (length es) many) s)
    (small_nodes l x (parts_for es) es t s ts))
