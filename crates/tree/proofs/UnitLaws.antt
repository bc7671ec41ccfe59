-- What units do to a table, and what the units of two neighbours and their parent do to their entries. Assumes nothing.
use mathlib.Core.Path.{◌≡◌, refl, sym, ap, ◌∙◌, subst}
use mathlib.Core.List.{List, [], ◌∷◌, ◌++◌, map, foldl, foldl-append, append-nil, append_assoc}
use Prim.Native.Nat.{ℕ, zero, suc, ◌-◌, ◌<◌, ◌≤◌}
use native.Mathlib.Omega.{arith}
use lib.ListN.{length, take, drop, length-append, take-append-drop, length-take, length-drop}
use lib.Seq.{take_at, drop_at}
use borrow.Author.Tests.{eq-eqb, le-ltb}
use Rattle.pages.specs.declared.unit.Update.{Update}
use Rattle.pages.specs.declared.unit.Unit as U
use Rattle.views.specs.Nodes.{Entry, entry, View, view, apply, inserted, anew, insert_entry, delete_entry}
use Rattle.views.specs.Groups.{unit_for}
use Rattle.views.proofs.Entries.{inserts, rebuilt, insert_end}
use Rattle.tree.specs.Tree.{there, Table, at, put, first_key}
use Rattle.tree.specs.Units.{touch_view, after_units}
use Rattle.tree.specs.DeleteUnits.{first_of, three_units}
use Rattle.tree.proofs.Entries.{Between, between_left, between_right, between_append, between_down, insert_local, delete_step, rising_between}
use Rattle.tree.proofs.Tables.{at_same, at_other, put_put}
use Rattle.tree.proofs.Children.{insert_after}

-- ---- the units of one node
touch_put : (n : ℕ) (u : Update) (w : View) (t : Table) → touch_view (put n w t) (unit_for n u) ≡ put n (apply w u) t
touch_put n u w t = rw (at_same n w t) (put_put n (apply w u) w t)

pub touch_all : (n : ℕ) (us : List Update) (w : View) (t : Table) → foldl touch_view (put n w t) (map (unit_for n) us) ≡ put n (foldl apply w us) t
touch_all n [] w t = refl
touch_all n (u ∷ us) w t = ap (λ (s : Table). foldl touch_view s (map (unit_for n) us)) (touch_put n u w t) ∙ touch_all n us (apply w u) t

put_self : (n : ℕ) (t : Table) → there (at t n) ≡ 1 → put n (at t n) t ≡ t
put_self n [] h = absurd (omega arith)
put_self zero (x ∷ t) h = refl
put_self (suc n) (x ∷ t) h = ap (λ (s : Table). x ∷ s) (put_self n t h)

pub touches : (n : ℕ) (us : List Update) (t : Table) → there (at t n) ≡ 1 → after_units (map (unit_for n) us) t ≡ put n (foldl apply (at t n) us) t
unfolding after_units
touches n us t h = ap (λ (s : Table). foldl touch_view s (map (unit_for n) us)) (sym (put_self n t h)) ∙ touch_all n us (at t n) t

pub after_none : (t : Table) → after_units [] t ≡ t
unfolding after_units
after_none t = refl

pub after_append : (xs ys : List U.Unit) (t : Table) → after_units (xs ++ ys) t ≡ after_units ys (after_units xs t)
unfolding after_units
after_append xs ys t = foldl-append touch_view t xs ys

pub then : (xs ys : List U.Unit) (t u w : Table) → after_units xs t ≡ u → after_units ys u ≡ w → after_units (xs ++ ys) t ≡ w
then xs ys t u w p q = after_append xs ys t ∙ ap (after_units ys) p ∙ q

-- ---- of three nodes
pub three : (a b n : ℕ) (us vs ws : List Update) (t : Table) → there (at t a) ≡ 1 → there (at t b) ≡ 1 → there (at t n) ≡ 1 → (a ≡ b → ⊥) → (a ≡ n → ⊥) → (b ≡ n → ⊥)
    → after_units (three_units a b n us vs ws) t
    ≡ put n (foldl apply (at t n) ws) (put b (foldl apply (at t b) vs) (put a (foldl apply (at t a) us) t))
three a b n us vs ws t pa pb pn ab an bn =
    let A = foldl apply (at t a) us in
    let B = foldl apply (at t b) vs in
    let u = put a A t in
    let w = put b B u in
    let eb : at u b ≡ at t b = at_other a b A t ab in
    let en : at w n ≡ at t n = at_other b n B u bn ∙ at_other a n A t an in
    then (map (unit_for a) us) (map (unit_for b) vs ++ map (unit_for n) ws) t u (put n (foldl apply (at t n) ws) w) (touches a us t pa)
    (then (map (unit_for b) vs) (map (unit_for n) ws) u w (put n (foldl apply (at t n) ws) w)
    (touches b vs u (ap there eb ∙ pb) ∙ ap (λ (x : View). put b (foldl apply x vs) u) eb)
    (touches n ws w (ap there en ∙ pn) ∙ ap (λ (x : View). put n (foldl apply x ws) w) en))

-- ---- on the entries
-- inserts behind what is there
pub inserts_behind : (l : ℕ) (es ps : List Entry) (w : View) → w ≡ view l ps → (lo hi : ℕ) → Between lo hi (ps ++ es) → length (ps ++ es) ≤ 16
    → foldl apply w (map inserted es) ≡ view l (ps ++ es)
inserts_behind l es ps w e lo hi b le =
    ap (λ (x : View). foldl apply x (map inserted es)) e ∙ inserts l es ps (rising_between lo hi (ps ++ es) b) le

-- a node written anew
pub anew_view : (l lo hi : ℕ) (es : List Entry) (w : View) → (l ≡ 255 → ⊥) → Between lo hi es → length es ≤ 16 → foldl apply w (anew l es) ≡ view l es
anew_view l lo hi es w h b le = rebuilt w l es h (rising_between lo hi es b) le

-- the parent loses the right one's entry
pub delete_second : (lo hi : ℕ) (bs : List Entry) (a b : Entry) (ds : List Entry) → Between lo hi (bs ++ (a ∷ b ∷ ds)) → delete_entry b.key (bs ++ (a ∷ b ∷ ds)) ≡ bs ++ (a ∷ ds)
delete_second lo hi bs a b ds h =
    let r = between_right lo hi bs (a ∷ b ∷ ds) h in
    let left : Between lo b.key (bs ++ (a ∷ [])) = between_append lo a.key b.key bs (a ∷ []) (between_left lo hi bs (a ∷ b ∷ ds) h) (omega arith, r.1.0) in
    let e = (delete_step b.key).local lo hi (bs ++ (a ∷ [])) (b ∷ []) ds left r.1.1 in
    let s : (bs ++ (a ∷ [])) ++ (b ∷ ds) ≡ bs ++ (a ∷ b ∷ ds) = append_assoc bs (a ∷ []) (b ∷ ds) in
    let z : (bs ++ (a ∷ [])) ++ ds ≡ bs ++ (a ∷ ds) = append_assoc bs (a ∷ []) ds in
    let q : delete_entry b.key (b ∷ []) ≡ [] = rw (le-ltb b.key b.key (omega arith), eq-eqb b.key b.key refl) in
    ap (delete_entry b.key) (sym s) ∙ e ∙ ap (λ (x : List Entry). (bs ++ (a ∷ [])) ++ (x ++ ds)) q ∙ z

-- and its key is renewed
pub renew_second : (lo hi k : ℕ) (bs : List Entry) (a b : Entry) (ds : List Entry) → Between lo hi (bs ++ (a ∷ b ∷ ds)) → a.key < k → k < first_key hi ds
    → insert_entry k b.value (delete_entry b.key (bs ++ (a ∷ b ∷ ds))) ≡ bs ++ (a ∷ entry k b.value ∷ ds)
renew_second lo hi k bs a b ds h p q =
    let r = between_right lo hi bs (a ∷ b ∷ ds) h in
    let c : Between lo hi (bs ++ (a ∷ ds)) = between_append lo a.key hi bs (a ∷ ds) (between_left lo hi bs (a ∷ b ∷ ds) h)
    (omega arith, between_down (suc a.key) (suc b.key) hi ds (omega (arith, r.1.0)) r.1.1) in
    ap (insert_entry k b.value) (delete_second lo hi bs a b ds h) ∙ insert_after lo hi k b.value bs a ds c p q

-- the first of ys behind xs
pub first_over : (lo hi : ℕ) (xs ys : List Entry) → 0 < length ys → Between lo hi (xs ++ ys)
    → (insert_entry (first_of ys).key (first_of ys).value xs ≡ take (suc (length xs)) (xs ++ ys)) × (delete_entry (first_of ys).key ys ≡ drop (suc (length xs)) (xs ++ ys))
    × (first_key 0 (drop 1 ys) ≡ first_key 0 (drop (suc (length xs)) (xs ++ ys)))
first_over lo hi xs [] p b = absurd (omega arith)
first_over lo hi xs (e ∷ ys) p b =
    let s : (xs ++ (e ∷ [])) ++ ys ≡ xs ++ (e ∷ ys) = append_assoc xs (e ∷ []) ys in
    let n : length (xs ++ (e ∷ [])) ≡ suc (length xs) = length-append xs (e ∷ []) ∙ omega arith in
    let tk : take (suc (length xs)) (xs ++ (e ∷ ys)) ≡ xs ++ (e ∷ []) = ap (take (suc (length xs))) (sym s) ∙ take_at (xs ++ (e ∷ [])) ys (suc (length xs)) n in
    let dr : drop (suc (length xs)) (xs ++ (e ∷ ys)) ≡ ys = ap (drop (suc (length xs))) (sym s) ∙ drop_at (xs ++ (e ∷ [])) ys (suc (length xs)) n in
    (insert_end xs e ys (rising_between lo hi (xs ++ (e ∷ ys)) b) ∙ sym tk, rw (le-ltb e.key e.key (omega arith), eq-eqb e.key e.key refl) (sym dr), ap (first_key 0) (sym dr))

-- the last of xs before ys
one_is : (zs : List Entry) → length zs ≡ 1 → zs ≡ first_of zs ∷ []
one_is [] h = absurd (omega arith)
one_is (e ∷ []) h = refl
one_is (e ∷ f ∷ zs) h = absurd (omega arith)

last_in_lem : (lo hi : ℕ) (ps : List Entry) (e : Entry) (ys : List Entry) → Between lo hi (ps ++ (e ∷ ys)) → (delete_entry e.key (ps ++ (e ∷ [])) ≡ ps) × (insert_entry e.key e.value ys ≡ e ∷ ys)
last_in_lem lo hi ps e ys b =
    let q : delete_entry e.key (e ∷ []) ≡ [] = rw (le-ltb e.key e.key (omega arith), eq-eqb e.key e.key refl) in (
      (delete_step e.key).local lo (suc e.key) ps (e ∷ []) [] (between_left lo hi ps (e ∷ ys) b) (omega arith) ∙ ap (λ (x : List Entry). ps ++ (x ++ [])) q ∙ append-nil ps,
      insert_local e.key e.value 0 hi [] [] ys (omega arith) (between_right lo hi ps (e ∷ ys) b).1,
    )

module _ (lo hi : ℕ) (xs ys : List Entry) (p : 0 < length xs) (b : Between lo hi (xs ++ ys)) where
  abbrev m : ℕ
  m = length xs - 1

  abbrev e : Entry
  e = first_of (drop (length xs - 1) xs)

  split : take m xs ++ (e ∷ []) ≡ xs
  split = ap (λ (x : List Entry). take m xs ++ x) (sym (one_is (drop m xs) (length-drop m xs ∙ omega arith))) ∙ take-append-drop m xs

  both : xs ++ ys ≡ take m xs ++ (e ∷ ys)
  both = ap (λ (x : List Entry). x ++ ys) (sym split) ∙ append_assoc (take m xs) (e ∷ []) ys

  front : length (take m xs) ≡ m
  front = length-take m xs ∙ omega arith

  pub last_over : (delete_entry (first_of (drop (length xs - 1) xs)).key xs ≡ take (length xs - 1) (xs ++ ys))
      × (insert_entry (first_of (drop (length xs - 1) xs)).key (first_of (drop (length xs - 1) xs)).value ys ≡ drop (length xs - 1) (xs ++ ys))
      × ((first_of (drop (length xs - 1) xs)).key ≡ first_key 0 (drop (length xs - 1) (xs ++ ys)))
  last_over =
      let r = last_in_lem lo hi (take m xs) e ys (subst (λ (x : List Entry). Between lo hi x) both b) in
      let tk : take m (xs ++ ys) ≡ take m xs = ap (take m) both ∙ take_at (take m xs) (e ∷ ys) m front in
      let dr : drop m (xs ++ ys) ≡ e ∷ ys = ap (drop m) both ∙ drop_at (take m xs) (e ∷ ys) m front in
      (ap (delete_entry e.key) (sym split) ∙ r.0 ∙ sym tk, r.1 ∙ sym dr, ap (first_key 0) (sym dr))
