-- Step 6 as it computes is a tree with a shape. Assumes nothing.
use mathlib.Core.Path.{◌≡◌, refl, sym, ap, ◌∙◌, subst}
use mathlib.Core.Logic.{⊎_elim}
use mathlib.Core.Bool.{Bool, true, false, ◌&&◌}
use mathlib.Core.List.{List, [], ◌∷◌, map}
use Prim.Native.Nat.{ℕ, zero, suc, ◌+◌, ◌<◌, ◌≤◌}
use native.Mathlib.Nat.{add-zero}
use native.Mathlib.Omega.{arith}
use lib.Dec.{eqb, leb, ltb}
use lib.ListN.{length}
use borrow.Author.Tests.{eq-eqb, le-leb, lt-ltb, leb-true, ltb-true, eqb-true}
use Rattle.lists.specs.Lists.{flat}
use Rattle.lists.proofs.Tests.{and_left, and_right}
use Rattle.views.specs.Nodes.{Entry, View, untouched, freed, broken, view, Above, Rising}
use Rattle.tree.specs.Tree.{there, Table, at, entries_of, entries_at, first_key, root_level, records_at}
use Rattle.tree.specs.Step6.{top, times, is_level, keys_in, are_subtrees, is_subtree, reached, once_from, step6, NodeFits, Tree}
use Rattle.lists.proofs.Tests.{below_or_not, same_or_not}
use Rattle.tree.proofs.Entries.{Between, between_le, between_down, rising_between}
use Rattle.tree.proofs.Shape.{Kid, Shape, number, entry_of, tops, rest, nums, recs, nums_of, start_of, Starts, Kids, Held, Inner, Sub, times_append, hit_other, start_first, sub_out}
use Rattle.tree.proofs.Shaped.{Shaped, top_at, level_at}

-- the lists that the table reads along are the shape's
module _ {B : Type 0} (t : Table) (l : ℕ) (f : ℕ → List B) (g : Shape l → List B) where
  flat_kids : ((lo hi : ℕ) (x : Shape l) → Sub 16 t l lo hi x → f (number l x) ≡ g x) → (hi : ℕ) (xs : List (Kid (Shape l)))
      → Kids (Sub 16 t l) hi xs → flat (λ (e : Entry). f e.value) (map (entry_of l) xs) ≡ flat (λ (x : Kid (Shape l)). g x.sub) xs
  flat_kids ih hi [] h = refl
  flat_kids ih hi (x ∷ xs) h = rw (ih x.key (start_of hi xs) x.sub h.0, flat_kids ih hi xs h.1)

pub records_is : (c : ℕ) (t : Table) (l lo hi : ℕ) (s : Shape l) → Sub c t l lo hi s → records_at l t (number l s) ≡ recs l s
records_is c t zero lo hi s h = rw h.0.is
records_is c t (suc l) lo hi s h = rw h.0.is (flat_kids t l (records_at l t) (recs l) (λ a b x. records_is 16 t l a b x) hi s.kids h.1.1)

pub reached_is : (c : ℕ) (t : Table) (l lo hi : ℕ) (s : Shape l) → Sub c t l lo hi s → reached l t (number l s) ≡ nums l s
reached_is c t zero lo hi s h = refl
reached_is c t (suc l) lo hi s h =
    rw h.0.is (ap (λ (r : List ℕ). s.number ∷ r) (flat_kids t l (reached l t) (nums l) (λ a b x. reached_is 16 t l a b x) hi s.kids h.1.1))

-- a shape passes the tests
keys_in_lem : (lo hi : ℕ) (es : List Entry) → Between lo hi es → keys_in lo hi es ≡ true
keys_in_lem lo hi [] h = refl
keys_in_lem lo hi (e ∷ es) h =
    rw (le-leb lo e.key h.0, lt-ltb e.key hi (between_le (suc e.key) hi es h.1))
    (keys_in_lem lo hi es (between_down lo (suc e.key) hi es (omega (arith, h.0)) h.1))

kids_ok : (t : Table) (l : ℕ) → ((lo hi : ℕ) (x : Shape l) → Sub 16 t l lo hi x → is_subtree l t (number l x) lo hi ≡ true)
    → (hi : ℕ) (xs : List (Kid (Shape l))) → Kids (Sub 16 t l) hi xs → are_subtrees (is_subtree l t) hi (map (entry_of l) xs) ≡ true
kids_ok t l f hi [] h = refl
kids_ok t l f hi (x ∷ xs) h = rw (start_first l hi xs, f x.key (start_of hi xs) x.sub h.0) (kids_ok t l f hi xs h.1)

starts_length : (l lo : ℕ) (xs : List (Kid (Shape l))) → Starts lo xs → (1 ≤ length (map (entry_of l) xs)) × (first_key 0 (map (entry_of l) xs) ≡ lo)
starts_length l lo [] h = absurd h
starts_length l lo (x ∷ xs) h = (omega arith, h)

sub_ok : (t : Table) (l lo hi : ℕ) (s : Shape l) → Sub 16 t l lo hi s → is_subtree l t (number l s) lo hi ≡ true
sub_ok t zero lo hi s h = rw h.0.is (keys_in_lem lo hi s.entries h.0.keys)
sub_ok t (suc l) lo hi s h =
    let es = map (entry_of l) s.kids in
    let a = starts_length l lo s.kids h.1.0 in
    rw (h.0.is, eq-eqb (suc l) (suc l) refl, le-leb 1 (length es) a.0, le-leb (length es) 16 h.0.size, eq-eqb (first_key 0 es) lo a.1, keys_in_lem lo hi es h.0.keys)
    (kids_ok t l (λ a b x. sub_ok t l a b x) hi s.kids h.1.1)

once_from_lem : (ns : List ℕ) (n : ℕ) (t : Table) → ((j : ℕ) → times (n + j) ns ≡ there (at t j)) → once_from n t ns ≡ true
once_from_lem ns n [] h = refl
once_from_lem ns n (x ∷ t) h =
    rw (eq-eqb (times n ns) (there x) (ap (λ (i : ℕ). times i ns) (omega arith) ∙ h 0))
    (once_from_lem ns (suc n) t (λ j. ap (λ (i : ℕ). times i ns) (omega arith) ∙ h (suc j)))

pub tree_step6 : (t : Table) → Shaped t → step6 t ≡ true
unfolding step6
tree_step6 t T =
    let l = T.level in
    let a : is_subtree l t 0 0 top ≡ true = rw T.root at (sub_ok t l 0 top T.shape T.sub) in
    let r : reached l t 0 ≡ nums l T.shape = ap (reached l t) (sym T.root) ∙ reached_is 16 t l 0 top T.shape T.sub in
    let o : once_from 0 t (nums l T.shape) ≡ true = once_from_lem (nums l T.shape) 0 t (λ j. ap (λ (i : ℕ). times i (nums l T.shape)) (omega arith) ∙ T.once j) in
    let i : is_level l (at t 0) ≡ true = rw (top_at t T) (eq-eqb l l refl) in
    rw (level_at t T, i, a, r, o)

-- the other way
in_keys : (i lo hi : ℕ) (es : List Entry) → Above i es → i < hi → keys_in lo hi es ≡ true → Between (suc i) hi es
in_keys i lo hi [] r g h = g
in_keys i lo hi (e ∷ es) r g h =
    let h' = and_right (leb lo e.key) (ltb e.key hi && keys_in lo hi es) h in
    (r.0, in_keys e.key lo hi es r.1 (ltb-true e.key hi (and_left (ltb e.key hi) (keys_in lo hi es) h')) (and_right (ltb e.key hi) (keys_in lo hi es) h'))

rises_within : (lo hi : ℕ) (es : List Entry) → Rising es → lo ≤ hi → keys_in lo hi es ≡ true → Between lo hi es
rises_within lo hi [] r g h = g
rises_within lo hi (e ∷ es) r g h =
    let h' = and_right (leb lo e.key) (ltb e.key hi && keys_in lo hi es) h in (
      leb-true lo e.key (and_left (leb lo e.key) (ltb e.key hi && keys_in lo hi es) h),
      in_keys e.key lo hi es r (ltb-true e.key hi (and_left (ltb e.key hi) (keys_in lo hi es) h')) (and_right (ltb e.key hi) (keys_in lo hi es) h'),
    )

pub is_node : (l : ℕ) (s : View) → is_level l s ≡ true → s ≡ view l (entries_of s)
is_node l untouched h = let z : ◌≡◌ {A = Bool} false true = h in cc
is_node l broken h = let z : ◌≡◌ {A = Bool} false true = h in cc
is_node l freed h = let z : ◌≡◌ {A = Bool} false true = h in cc
is_node l (view m es) h = rw (eqb-true m l h)

abbrev read : (l : ℕ) → Table → ℕ → Shape l
read zero t n = record { number = n; entries = entries_at t n }
read (suc l) t n = record { number = n; kids = map (λ (e : Entry). record { key = e.key; sub = read l t e.value }) (entries_at t n) }

abbrev read_kid : (l : ℕ) → Table → Entry → Kid (Shape l)
read_kid l t e = record { key = e.key; sub = read l t e.value }

read_number : (l : ℕ) (t : Table) (n : ℕ) → number l (read l t n) ≡ n
read_number zero t n = refl
read_number (suc l) t n = refl

read_kids : (l : ℕ) (t : Table) (es : List Entry) → map (entry_of l) (map (read_kid l t) es) ≡ es
read_kids l t [] = refl
read_kids l t (e ∷ es) = rw (read_number l t e.value, read_kids l t es)

read_tops : (l : ℕ) (t : Table) (n : ℕ) → tops l (read l t n) ≡ entries_at t n
read_tops zero t n = refl
read_tops (suc l) t n = read_kids l t (entries_at t n)

read_start : (l : ℕ) (t : Table) (hi : ℕ) (es : List Entry) → start_of hi (map (read_kid l t) es) ≡ first_key hi es
read_start l t hi [] = refl
read_start l t hi (e ∷ es) = refl

first_after : (i hi : ℕ) (e : Entry) (es : List Entry) → Between i hi (e ∷ es) → e.key ≤ first_key hi es
first_after i hi e [] h = omega (arith, h.1)
first_after i hi e (y ∷ es) h = omega (arith, h.1.0)

read_starts : (l : ℕ) (t : Table) (lo : ℕ) (es : List Entry) → 1 ≤ length es → first_key 0 es ≡ lo → Starts lo (map (read_kid l t) es)
read_starts l t lo [] g h = absurd (omega arith)
read_starts l t lo (e ∷ es) g h = h

ok_kids : (t : Table) (l : ℕ) → ((n lo hi : ℕ) → lo ≤ hi → is_subtree l t n lo hi ≡ true → Sub 16 t l lo hi (read l t n))
    → (i hi : ℕ) (es : List Entry) → Between i hi es → are_subtrees (is_subtree l t) hi es ≡ true → Kids (Sub 16 t l) hi (map (read_kid l t) es)
ok_kids t l f i hi [] b h = tt
ok_kids t l f i hi (e ∷ es) b h =
    let x = is_subtree l t e.value e.key (first_key hi es) in (
      subst (λ (j : ℕ). Sub 16 t l e.key j (read l t e.value)) (sym (read_start l t hi es))
          (f e.value e.key (first_key hi es) (first_after i hi e es b) (and_left x (are_subtrees (is_subtree l t) hi es) h)),
      ok_kids t l f (suc e.key) hi es b.1 (and_right x (are_subtrees (is_subtree l t) hi es) h),
    )

-- what a tree of level l + 1 asks of its top, rule by rule
pub record BranchRules (l : ℕ) (t : Table) (n lo hi : ℕ) : Type 0 where
  pub level : is_level (suc l) (at t n) ≡ true
  pub some : leb 1 (length (entries_at t n)) ≡ true
  pub few : leb (length (entries_at t n)) 16 ≡ true
  pub start : eqb (first_key 0 (entries_at t n)) lo ≡ true
  pub keys : keys_in lo hi (entries_at t n) ≡ true
  pub kids : are_subtrees (is_subtree l t) hi (entries_at t n) ≡ true

pub branch_rules : (l : ℕ) (t : Table) (n lo hi : ℕ) → is_subtree (suc l) t n lo hi ≡ true → BranchRules l t n lo hi
branch_rules l t n lo hi h =
    let es = entries_at t n in
    let a₆ = are_subtrees (is_subtree l t) hi es in
    let a₅ = keys_in lo hi es in
    let a₄ = eqb (first_key 0 es) lo in
    let a₃ = leb (length es) 16 in
    let a₂ = leb 1 (length es) in
    let a₁ = is_level (suc l) (at t n) in
    let h₂ = and_right a₁ (a₂ && (a₃ && (a₄ && (a₅ && a₆)))) h in
    let h₃ = and_right a₂ (a₃ && (a₄ && (a₅ && a₆))) h₂ in
    let h₄ = and_right a₃ (a₄ && (a₅ && a₆)) h₃ in
    let h₅ = and_right a₄ (a₅ && a₆) h₄ in
    record {
      level = and_left a₁ (a₂ && (a₃ && (a₄ && (a₅ && a₆)))) h;
      some = and_left a₂ (a₃ && (a₄ && (a₅ && a₆))) h₂;
      few = and_left a₃ (a₄ && (a₅ && a₆)) h₃;
      start = and_left a₄ (a₅ && a₆) h₄;
      keys = and_left a₅ a₆ h₅;
      kids = and_right a₅ a₆ h₅;
    }

module _ (t : Table) (vs : (n : ℕ) → NodeFits (entries_at t n)) where
  held_read : (l n lo hi : ℕ) → is_level l (at t n) ≡ true → lo ≤ hi → keys_in lo hi (entries_at t n) ≡ true → Held 16 t l lo hi (read l t n)
  held_read l n lo hi i g h = record {
    is = rw (read_number, read_tops) (is_node l (at t n) i);
    keys = rw read_tops (rises_within lo hi (entries_at t n) (vs n).rising g h);
    size = rw read_tops (vs n).few;
  }

  ok_sub : (l n lo hi : ℕ) → lo ≤ hi → is_subtree l t n lo hi ≡ true → Sub 16 t l lo hi (read l t n)
  ok_sub zero n lo hi g h =
      let a = is_level 0 (at t n) in
      let b = keys_in lo hi (entries_at t n) in
      (held_read 0 n lo hi (and_left a b h) g (and_right a b h), tt)
  ok_sub (suc l) n lo hi g h =
      let es = entries_at t n in
      let b = branch_rules l t n lo hi h in (
        held_read (suc l) n lo hi b.level g b.keys,
        (
          read_starts l t lo es (leb-true 1 (length es) b.some) (eqb-true (first_key 0 es) lo b.start),
          ok_kids t l (λ m a c. ok_sub l m a c) lo hi es (rises_within lo hi es (vs n).rising g b.keys) b.kids,
        ),
      )

pub at_length : (t : Table) (j : ℕ) → length t ≤ j → at t j ≡ untouched
at_length [] j h = refl
at_length (x ∷ t) zero h = absurd (omega arith)
at_length (x ∷ t) (suc j) h = at_length t j (omega arith)

pub once_at : (ns : List ℕ) (n : ℕ) (t : Table) → once_from n t ns ≡ true → (j : ℕ) → j < length t → times (n + j) ns ≡ there (at t j)
once_at ns n [] h j g = absurd (omega arith)
once_at ns n (x ∷ t) h zero g =
    ap (λ (i : ℕ). times i ns) (add-zero n) ∙ eqb-true (times n ns) (there x) (and_left (eqb (times n ns) (there x)) (once_from (suc n) t ns) h)
once_at ns n (x ∷ t) h (suc j) g =
    ap (λ (i : ℕ). times i ns) (omega arith)
    ∙ once_at ns (suc n) t (and_right (eqb (times n ns) (there x)) (once_from (suc n) t ns) h) j (omega arith)

pub step6_tree : (t : Table) → ((n : ℕ) → NodeFits (entries_at t n)) → step6 t ≡ true → Shaped t
unfolding step6
step6_tree t vs h =
    let l = root_level t in
    let s = read l t 0 in
    let a₁ = is_level l (at t 0) in
    let a₂ = is_subtree l t 0 0 top in
    let a₃ = once_from 0 t (reached l t 0) in
    let h₂ = and_right a₁ (a₂ && a₃) h in
    let sub : Sub 16 t l 0 top s = ok_sub t vs l 0 0 top (omega arith) (and_left a₂ a₃ h₂) in
    let r : reached l t 0 ≡ nums l s = ap (reached l t) (sym (read_number l t 0)) ∙ reached_is 16 t l 0 top s sub in
    record {
      level = l;
      shape = s;
      root = read_number l t 0;
      sub = sub;
      once = λ j. ⊎_elim
          (λ (q : j < length t). ap (times j) (sym r) ∙ ap (λ (i : ℕ). times i (reached l t 0)) (omega arith) ∙ once_at (reached l t 0) 0 t (and_right a₂ a₃ h₂) j q)
          (λ (q : length t ≤ j). let e : there (at t j) ≡ 0 = rw (at_length t j q) in sub_out 16 t l 0 top j s sub e ∙ sym e)
          (below_or_not j (length t));
    }

-- every node of a tree fits
held_view : (t : Table) (l lo hi : ℕ) (s : Shape l) → Held 16 t l lo hi s → (m : ℕ) → number l s ≡ m → NodeFits (entries_at t m)
held_view t l lo hi s h m e =
    let a : entries_at t m ≡ tops l s = ap (entries_at t) (sym e) ∙ rw h.is in
    record { rising = rw a (rising_between lo hi (tops l s) h.keys); few = rw a h.size }

kids_view : (t : Table) (l m : ℕ) → ((lo hi : ℕ) (x : Shape l) → Sub 16 t l lo hi x → 0 < times m (nums l x) → NodeFits (entries_at t m))
    → (hi : ℕ) (xs : List (Kid (Shape l))) → Kids (Sub 16 t l) hi xs → 0 < times m (nums_of l xs) → NodeFits (entries_at t m)
kids_view t l m f hi [] h g = absurd (omega arith)
kids_view t l m f hi (x ∷ xs) h g =
    ⊎_elim
    (λ (q : 0 < times m (nums l x.sub)). f x.key (start_of hi xs) x.sub h.0 q)
    (λ (q : times m (nums l x.sub) ≤ 0). kids_view t l m f hi xs h.1 (omega (arith, times_append m (nums l x.sub) (nums_of l xs))))
    (below_or_not 0 (times m (nums l x.sub)))

top_or_below : (t : Table) (l lo hi m : ℕ) (s : Shape l) → Held 16 t l lo hi s → (0 < times m (rest l s) → NodeFits (entries_at t m)) → 0 < times m (nums l s) → NodeFits (entries_at t m)
top_or_below t l lo hi m s h f g =
    ⊎_elim
    (λ (e : number l s ≡ m). held_view t l lo hi s h m e)
    (λ (e : number l s ≡ m → ⊥). f (omega (arith, hit_other (number l s) m e)))
    (same_or_not (number l s) m)

inner_view : (t : Table) (l lo hi m : ℕ) (s : Shape l) → Inner t l lo hi s → 0 < times m (rest l s) → NodeFits (entries_at t m)
inner_view t zero lo hi m s h g = absurd (omega arith)
inner_view t (suc l) lo hi m s h g =
    kids_view t l m (λ a b x p. top_or_below t l a b m x p.0 (inner_view t l a b m x p.1)) hi s.kids h.1 g

empty_view : (s : View) → there s ≤ 0 → NodeFits (entries_of s)
empty_view untouched h = record { rising = tt; few = omega arith }
empty_view broken h = record { rising = tt; few = omega arith }
empty_view freed h = record { rising = tt; few = omega arith }
empty_view (view l es) h = absurd (omega arith)

pub tree_views : (t : Table) → Shaped t → (n : ℕ) → NodeFits (entries_at t n)
tree_views t T m =
    let l = T.level in
    let s = T.shape in
    ⊎_elim
    (λ (q : 0 < there (at t m)). top_or_below t l 0 top m s T.sub.0 (inner_view t l 0 top m s T.sub.1) (omega (arith, T.once m)))
    (λ (q : there (at t m) ≤ 0). empty_view (at t m) q)
    (below_or_not 0 (there (at t m)))

pub tree_of : (t : Table) → Shaped t → Tree t
tree_of t T = record { views = tree_views t T; passes = tree_step6 t T }

pub shape_of : (t : Table) → Tree t → Shaped t
shape_of t g = step6_tree t g.views g.passes
