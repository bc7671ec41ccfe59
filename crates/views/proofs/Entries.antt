-- Entries in key order: insert and delete keep the order, a lookup after them, a reset, and a node written anew. Assumes nothing.
use mathlib.Core.Path.{◌≡◌, refl, ap, ◌∙◌, subst}
use mathlib.Core.Bool.{true}
use mathlib.Core.List.{List, [], ◌∷◌, ◌++◌, map, foldl, append_assoc, append-nil}
use Prim.Native.Nat.{ℕ, suc, ◌≤◌, ◌<◌}
use native.Mathlib.Omega.{arith}
use lib.Dec.{ltb, leb, eqb}
use lib.ListN.{length, length-append}
use borrow.Author.Tests.{ltb-true, ltb-false, leb-true, eqb-true, eqb-false, lt-ltb, le-leb, ne_eqb}
use Rattle.lists.proofs.Tests.{cases}
use Rattle.pages.specs.declared.unit.Update.{Update}
use Rattle.pages.specs.declared.unit.Update.TheVariants.{Insert, Delete, Reset}
use Rattle.pages.specs.Units.{is_reset_value}
use Rattle.pages.proofs.UnitLaws.{value_level}
use Rattle.views.specs.Nodes.{Entry, Above, Rising, insert_entry, delete_entry, View, untouched, freed, broken, view, within, apply, inserted, anew}

-- ---- the order
pub above_less : (j k : ℕ) (es : List Entry) → j ≤ k → Above k es → Above j es
above_less j k [] l h = tt
above_less j k (e ∷ es) l h = (omega (arith, h.0), h.1)

pub above_rising : (k : ℕ) (es : List Entry) → Above k es → Rising es
above_rising k [] h = tt
above_rising k (e ∷ es) h = h.1

-- a later entry's key is above
pub above_at : (k : ℕ) (ps : List Entry) (e : Entry) (es : List Entry) → Above k (ps ++ e ∷ es) → k < e.key
above_at k [] e es h = h.0
above_at k (p ∷ ps) e es h = omega (arith, above_at p.key ps e es h.1, h.0)

-- ---- insert and delete keep the order
pub insert_above : (j k v : ℕ) (es : List Entry) → j < k → Above j es → Above j (insert_entry k v es)
insert_above j k v [] l h = (l, tt)
insert_above j k v (e ∷ es) l h =
    cases (ltb e.key k)
    (λ t. rw t (h.0, insert_above e.key k v es (ltb-true e.key k t) h.1))
    (λ t. cases (eqb e.key k)
    (λ q. rw (t, q) (l, above_less k e.key es (omega (arith, eqb-true e.key k q)) h.1))
    (λ q. let d = eqb-false e.key k q in rw (t, q) (l, (omega (arith, ltb-false e.key k t, d), h.1))))

pub insert_rising : (k v : ℕ) (es : List Entry) → Rising es → Rising (insert_entry k v es)
insert_rising k v [] h = tt
insert_rising k v (e ∷ es) h =
    cases (ltb e.key k)
    (λ t. rw t (insert_above e.key k v es (ltb-true e.key k t) h))
    (λ t. cases (eqb e.key k)
    (λ q. rw (t, q) (above_less k e.key es (omega (arith, eqb-true e.key k q)) h))
    (λ q. let d = eqb-false e.key k q in rw (t, q) (omega (arith, ltb-false e.key k t, d), h)))

pub delete_above : (j k : ℕ) (es : List Entry) → Above j es → Above j (delete_entry k es)
delete_above j k [] h = tt
delete_above j k (e ∷ es) h =
    cases (ltb e.key k)
    (λ t. rw t (h.0, delete_above e.key k es h.1))
    (λ t. cases (eqb e.key k) (λ q. rw (t, q) (above_less j e.key es (omega (arith, h.0)) h.1)) (λ q. rw (t, q) h))

pub delete_rising : (k : ℕ) (es : List Entry) → Rising es → Rising (delete_entry k es)
delete_rising k [] h = tt
delete_rising k (e ∷ es) h =
    cases (ltb e.key k)
    (λ t. rw t (delete_above e.key k es h))
    (λ t. cases (eqb e.key k) (λ q. rw (t, q) (above_rising e.key es h)) (λ q. rw (t, q) h))

-- ---- lengths: an insert adds one entry or none, a delete takes one or none
pub insert_most : (k v : ℕ) (es : List Entry) → length (insert_entry k v es) ≤ suc (length es)
insert_most k v [] = omega arith
insert_most k v (e ∷ es) =
    cases (ltb e.key k)
    (λ t. rw t (omega (arith, insert_most k v es)))
    (λ t. cases (eqb e.key k) (λ q. rw (t, q) (omega arith)) (λ q. rw (t, q) (omega arith)))

pub delete_most : (k : ℕ) (es : List Entry) → length (delete_entry k es) ≤ length es
delete_most k [] = omega arith
delete_most k (e ∷ es) =
    cases (ltb e.key k)
    (λ t. rw t (omega (arith, delete_most k es)))
    (λ t. cases (eqb e.key k) (λ q. rw (t, q) (omega arith)) (λ q. rw (t, q) (omega arith)))

-- ---- a reset, whatever was there: it frees the node, or gives it a level
pub by_reset : (P : View → Type 0) (w : View) (l : ℕ) → (l ≡ 255 → P freed) → ((l ≡ 255 → ⊥) → P (view l [])) → P (apply w (Reset l))
by_reset P w l f h = cases (eqb l 255) (λ t. rw t (f (eqb-true l 255 t))) (λ t. rw t (h (eqb-false l 255 t)))

pub reset_level : (w : View) (l : ℕ) → (l ≡ 255 → ⊥) → apply w (Reset l) ≡ view l []
reset_level w l d = rw (ne_eqb l 255 d)

-- a reset that the layout allows
pub by_valid : (P : View → Type 0) (w : View) (l : ℕ) → is_reset_value l ≡ true → (is_reset_value 255 ≡ true → P freed) → (l ≤ 3 → P (view l []))
    → P (apply w (Reset l))
by_valid P w l v f h = by_reset P w l (λ e. f (subst (λ (m : ℕ). is_reset_value m ≡ true) e v)) (λ d. h (value_level l v d))

-- ---- a node written anew
-- an entry above all others goes to the end
pub insert_end : (ps : List Entry) (e : Entry) (es : List Entry) → Rising (ps ++ e ∷ es) → insert_entry e.key e.value ps ≡ ps ++ (e ∷ [])
insert_end [] e es h = refl
insert_end (p ∷ ps) e es h =
    rw (lt-ltb p.key e.key (above_at p.key ps e es h), insert_end ps e es (above_rising p.key (ps ++ e ∷ es) h))

-- the inserts of a rising list, behind entries that are there
pub inserts : (l : ℕ) (es ps : List Entry) → Rising (ps ++ es) → length (ps ++ es) ≤ 16
    → foldl apply (view l ps) (map inserted es) ≡ view l (ps ++ es)
inserts l [] ps h g = rw append-nil
inserts l (e ∷ es) ps h g =
    let a : ps ++ (e ∷ []) ++ es ≡ ps ++ e ∷ es = append_assoc ps (e ∷ []) es in
    let n : length (ps ++ (e ∷ [])) ≤ 16 = omega (arith, simp length-append at g, length-append ps (e ∷ [])) in
    let one : apply (view l ps) (inserted e) ≡ view l (ps ++ (e ∷ [])) = rw (insert_end ps e es h, le-leb (length (ps ++ (e ∷ []))) 16 n) in
    ap (λ (s : View). foldl apply s (map inserted es)) one ∙ inserts l es (ps ++ (e ∷ [])) (rw a h) (rw a g) ∙ rw a

-- from any view, a reset with a level and the inserts of a rising list of at most 16 entries give that list
pub rebuilt : (w : View) (l : ℕ) (es : List Entry) → (l ≡ 255 → ⊥) → Rising es → length es ≤ 16 → foldl apply w (anew l es) ≡ view l es
rebuilt w l es d h g = ap (λ (s : View). foldl apply s (map inserted es)) (reset_level w l d) ∙ inserts l es [] h g

-- ---- views whose level is no value that frees, whose entries rise, and whose entries are at most 16
abbrev pub LevelView : View → Type 0
LevelView untouched = Unit {0}
LevelView freed = Unit {0}
LevelView broken = Unit {0}
LevelView (view l es) = l ≡ 255 → ⊥

abbrev pub RisingView : View → Type 0
RisingView untouched = Unit {0}
RisingView freed = Unit {0}
RisingView broken = Unit {0}
RisingView (view l es) = Rising es

abbrev pub FewView : View → Type 0
FewView untouched = Unit {0}
FewView freed = Unit {0}
FewView broken = Unit {0}
FewView (view l es) = length es ≤ 16

within_level : (l : ℕ) (es : List Entry) → (l ≡ 255 → ⊥) → LevelView (within l es)
within_level l es h = cases (leb (length es) 16) (λ t. rw t h) (λ t. rw t tt)

within_rising : (l : ℕ) (es : List Entry) → Rising es → RisingView (within l es)
within_rising l es h = cases (leb (length es) 16) (λ t. rw t h) (λ t. rw t tt)

within_few : (l : ℕ) (es : List Entry) → FewView (within l es)
within_few l es = cases (leb (length es) 16) (λ t. rw t (leb-true (length es) 16 t)) (λ t. rw t tt)

-- an update keeps each
pub apply_level : (w : View) (u : Update) → LevelView w → LevelView (apply w u)
apply_level w (Reset l) h = by_reset LevelView w l (λ e. tt) (λ d. d)
apply_level untouched (Insert k v) h = tt
apply_level untouched (Delete k) h = tt
apply_level freed (Insert k v) h = tt
apply_level freed (Delete k) h = tt
apply_level broken (Insert k v) h = tt
apply_level broken (Delete k) h = tt
apply_level (view l es) (Insert k v) h = within_level l (insert_entry k v es) h
apply_level (view l es) (Delete k) h = h

pub apply_rising : (w : View) (u : Update) → RisingView w → RisingView (apply w u)
apply_rising w (Reset l) h = by_reset RisingView w l (λ e. tt) (λ d. tt)
apply_rising untouched (Insert k v) h = tt
apply_rising untouched (Delete k) h = tt
apply_rising freed (Insert k v) h = tt
apply_rising freed (Delete k) h = tt
apply_rising broken (Insert k v) h = tt
apply_rising broken (Delete k) h = tt
apply_rising (view l es) (Insert k v) h = within_rising l (insert_entry k v es) (insert_rising k v es h)
apply_rising (view l es) (Delete k) h = delete_rising k es h

pub apply_few : (w : View) (u : Update) → FewView w → FewView (apply w u)
apply_few w (Reset l) h = by_reset FewView w l (λ e. tt) (λ d. omega arith)
apply_few untouched (Insert k v) h = tt
apply_few untouched (Delete k) h = tt
apply_few freed (Insert k v) h = tt
apply_few freed (Delete k) h = tt
apply_few broken (Insert k v) h = tt
apply_few broken (Delete k) h = tt
apply_few (view l es) (Insert k v) h = within_few l (insert_entry k v es)
apply_few (view l es) (Delete k) h = omega (arith, delete_most k es)

-- and so do updates one after the other
updates_keep : (P : View → Type 0) → ((w : View) (u : Update) → P w → P (apply w u)) → (w : View) (us : List Update) → P w → P (foldl apply w us)
updates_keep P f w [] h = h
updates_keep P f w (u ∷ us) h = updates_keep P f (apply w u) us (f w u h)

pub updates_level : (w : View) (us : List Update) → LevelView w → LevelView (foldl apply w us)
updates_level = updates_keep LevelView apply_level

pub updates_rising : (w : View) (us : List Update) → RisingView w → RisingView (foldl apply w us)
updates_rising = updates_keep RisingView apply_rising

pub updates_few : (w : View) (us : List Update) → FewView w → FewView (foldl apply w us)
updates_few = updates_keep FewView apply_few
