-- The units of a join and of a move give its table. Assumes nothing.
use mathlib.Core.Path.{◌≡◌, refl, sym, ap, ap₂, ◌∙◌}
use mathlib.Core.Logic.{◌⊎◌, ⊎_elim}
use mathlib.Core.List.{List, [], ◌∷◌, ◌++◌, map, foldl}
use Prim.Native.Nat.{ℕ, suc, ◌+◌, ◌-◌, ◌<◌, ◌≤◌}
use native.Mathlib.Omega.{arith}
use lib.ListN.{length, take, drop, length-append, length-map, length-take, length-drop}
use borrow.Author.Tests.{le-leb, lt-ltb, le-ltb}
use lib.Dec.{ltb}
use Rattle.lists.proofs.Tests.{cases}
use Rattle.lists.proofs.Flats.{map_append}
use Rattle.pages.specs.declared.unit.Update.{Update}
use Rattle.pages.specs.declared.unit.Update.TheVariants.{Insert, Delete, Reset}
use Rattle.views.specs.Nodes.{Entry, entry, View, freed, view, apply, within, inserted, insert_entry, delete_entry}
use Rattle.views.specs.Groups.{unit_for}
use Rattle.tree.specs.Tree.{Table, at, put, first_key}
use Rattle.tree.specs.Step6.{times}
use Rattle.tree.specs.Delete.{join, share, moved}
use Rattle.tree.specs.Units.{after_units}
use Rattle.tree.specs.DeleteUnits.{first_of, three_units, join_units, to_left, to_right, share_units, is_free, frees}
use Rattle.tree.proofs.Entries.{Between}
use Rattle.tree.proofs.Shape.{Kid, Shape, number, entry_of, tops, nums, start_of, Sub, start_first}
use Rattle.lists.proofs.Filters.{count_append}
use Rattle.pages.specs.declared.unit.Unit as U
use Rattle.tree.proofs.Parts.{join_tops}
use Rattle.tree.proofs.Settle.{sub_a, sub_b, there_a, there_b, there_n, apart_n_a, apart_n_b, apart_a_b, joined_keys, old_size, is_cut_lem}
use Rattle.tree.proofs.UnitLaws.{three, inserts_behind, delete_second, renew_second, first_over, last_over}

module _ (t : Table) (l lo hi n : ℕ) (bs : List (Kid (Shape l))) (a b : Kid (Shape l)) (ds : List (Kid (Shape l)))
    (h : Sub 16 t (suc l) lo hi (record { number = n; kids = bs ++ (a ∷ b ∷ ds) }))
    (once : (j : ℕ) → times j (nums (suc l) (record { number = n; kids = bs ++ (a ∷ b ∷ ds) })) ≤ 1) where
  abbrev A : ℕ
  A = number l a.sub

  abbrev B : ℕ
  B = number l b.sub

  abbrev xs : List Entry
  xs = tops l a.sub

  abbrev ys : List Entry
  ys = tops l b.sub

  abbrev mb : List Entry
  mb = map (entry_of l) bs

  abbrev md : List Entry
  md = map (entry_of l) ds

  is_a : at t A ≡ view l xs
  is_a = (sub_a t l lo hi n bs a b ds h once).0.is

  is_b : at t B ≡ view l ys
  is_b = (sub_b t l lo hi n bs a b ds h once).0.is

  is_n : at t n ≡ view (suc l) (mb ++ (entry_of l a ∷ entry_of l b ∷ md))
  is_n = h.0.is ∙ ap (view (suc l)) (map_append (entry_of l) bs (a ∷ b ∷ ds))

  keys_n : Between lo hi (mb ++ (entry_of l a ∷ entry_of l b ∷ md))
  keys_n = rw map_append at h.0.keys

  keys_ab : Between a.key (start_of hi ds) (xs ++ ys)
  keys_ab = rw join_tops at (joined_keys t l lo hi n bs a b ds h once)

  by_three : (us vs ws : List Update) → after_units (three_units A B n us vs ws) t
      ≡ put n (foldl apply (at t n) ws) (put B (foldl apply (at t B) vs) (put A (foldl apply (at t A) us) t))
  by_three us vs ws =
      three A B n us vs ws t (there_a t l lo hi n bs a b ds h once) (there_b t l lo hi n bs a b ds h once) (there_n t l lo hi n bs a b ds h once)
      (apart_a_b t l lo hi n bs a b ds h once) (λ e. apart_n_a t l lo hi n bs a b ds h once (sym e)) (λ e. apart_n_b t l lo hi n bs a b ds h once (sym e))

  put_three : (w w' x x' y y' : View) → w ≡ w' → x ≡ x' → y ≡ y' → put n w (put B x (put A y t)) ≡ put n w' (put B x' (put A y' t))
  put_three w w' x x' y y' p q r = rw (p, q, r)

  pub join_units_lem : length (tops l a.sub) + length (tops l b.sub) ≤ 16
      → after_units (join_units n (entry_of l a) (entry_of l b) (tops l b.sub)) t
      ≡ join l n (map (entry_of l) bs) (entry_of l a) (entry_of l b) (map (entry_of l) ds) (tops l a.sub ++ tops l b.sub) t
  unfolding join_units join
  join_units_lem le =
      by_three (map inserted ys) (Reset 255 ∷ []) (Delete b.key ∷ [])
      ∙ put_three (apply (at t n) (Delete b.key)) (view (suc l) (mb ++ (entry_of l a ∷ md))) freed freed
      (foldl apply (at t A) (map inserted ys)) (view l (xs ++ ys))
      (ap (λ (w : View). apply w (Delete b.key)) is_n ∙ ap (view (suc l)) (delete_second lo hi mb (entry_of l a) (entry_of l b) md keys_n))
      refl
      (inserts_behind l ys xs (at t A) is_a a.key (start_of hi ds) keys_ab (omega (arith, length-append xs ys)))

  -- one entry moves, and the parent's key is renewed
  move : (m k : ℕ) (p q : Update) → 0 < m → m < length xs + length ys → m ≤ 16 → length xs + length ys ≤ 16 + m
      → k ≡ first_key 0 (drop m (xs ++ ys)) → apply (at t A) p ≡ view l (take m (xs ++ ys)) → apply (at t B) q ≡ view l (drop m (xs ++ ys))
      → after_units (three_units A B n (p ∷ []) (q ∷ []) (Delete b.key ∷ Insert k B ∷ [])) t ≡ share l n m mb (entry_of l a) (entry_of l b) md (xs ++ ys) t
  unfolding share
  move m k p q pos lt few size ek ea eb =
      let el = length-append xs ys in
      let C = is_cut_lem t l lo hi n bs a b ds h once (xs ++ ys) (sym (join_tops l a.sub b.sub)) m pos (omega arith) few (omega arith) in
      let key = first_key 0 (drop m (xs ++ ys)) in
      let new = mb ++ (entry_of l a ∷ entry key B ∷ md) in
      let r : insert_entry key B (delete_entry b.key (mb ++ (entry_of l a ∷ entry_of l b ∷ md))) ≡ new
      = renew_second lo hi key mb (entry_of l a) (entry_of l b) md keys_n C.over (rw start_first C.under) in
      let sz : length new ≤ 16 = omega (arith, length-append mb (entry_of l a ∷ entry key B ∷ md), length-map bs (entry_of l), length-map ds (entry_of l), old_size t l lo hi n bs a b ds h once) in
      by_three (p ∷ []) (q ∷ []) (Delete b.key ∷ Insert k B ∷ [])
      ∙ put_three (apply (apply (at t n) (Delete b.key)) (Insert k B)) (view (suc l) new) (apply (at t B) q) (view l (drop m (xs ++ ys))) (apply (at t A) p) (view l (take m (xs ++ ys)))
      (ap₂ (λ (w : View) (i : ℕ). apply (apply w (Delete b.key)) (Insert i B)) is_n ek ∙ ap (within (suc l)) r ∙ rw (le-leb (length new) 16 sz))
      eb ea

  left_units : length xs < length ys → length xs < 8 → 16 < length xs + length ys
      → after_units (to_left n (entry_of l a) (entry_of l b) (first_of ys) (first_key 0 (drop 1 ys))) t
      ≡ share l n (suc (length xs)) mb (entry_of l a) (entry_of l b) md (xs ++ ys) t
  unfolding to_left
  left_units lt few big =
      let F = first_over a.key (start_of hi ds) xs ys (omega arith) keys_ab in
      let m = suc (length xs) in
      let el = length-append xs ys in
      let tk : length (take m (xs ++ ys)) ≤ 16 = rw length-take (omega arith) in
      move m (first_key 0 (drop 1 ys)) (inserted (first_of ys)) (Delete (first_of ys).key) (omega arith) (omega arith) (omega arith)
      (omega (arith, (sub_b t l lo hi n bs a b ds h once).0.size))
      F.2
      (ap (λ (w : View). apply w (inserted (first_of ys))) is_a ∙ ap (within l) F.0 ∙ rw (le-leb (length (take m (xs ++ ys))) 16 tk))
      (ap (λ (w : View). apply w (Delete (first_of ys).key)) is_b ∙ ap (view l) F.1)

  right_units : length ys ≤ length xs → length ys < 8 → 16 < length xs + length ys
      → after_units (to_right n (entry_of l a) (entry_of l b) (first_of (drop (length xs - 1) xs)) (first_of (drop (length xs - 1) xs)).key) t
      ≡ share l n (length xs - 1) mb (entry_of l a) (entry_of l b) md (xs ++ ys) t
  unfolding to_right
  right_units lt few big =
      let F = last_over a.key (start_of hi ds) xs ys (omega arith) keys_ab in
      let m = length xs - 1 in
      let e = first_of (drop (length xs - 1) xs) in
      let el = length-append xs ys in
      let dr : length (drop m (xs ++ ys)) ≤ 16 = rw length-drop (omega arith) in
      move m e.key (Delete e.key) (inserted e) (omega arith) (omega arith) (omega (arith, (sub_a t l lo hi n bs a b ds h once).0.size)) (omega arith)
      F.2
      (ap (λ (w : View). apply w (Delete e.key)) is_a ∙ ap (view l) F.0)
      (ap (λ (w : View). apply w (inserted e)) is_b ∙ ap (within l) F.1 ∙ rw (le-leb (length (drop m (xs ++ ys))) 16 dr))

  pub share_units_lem : (length (tops l a.sub) < 8) ⊎ (length (tops l b.sub) < 8) → 16 < length (tops l a.sub) + length (tops l b.sub)
      → after_units (share_units n (entry_of l a) (entry_of l b) (tops l a.sub) (tops l b.sub)) t
      ≡ share l n (moved (length (tops l a.sub)) (length (tops l b.sub))) (map (entry_of l) bs) (entry_of l a) (entry_of l b) (map (entry_of l) ds) (tops l a.sub ++ tops l b.sub) t
  unfolding share_units
  share_units_lem small big =
      ⊎_elim
      (λ (p : length xs < 8). rw (lt-ltb (length xs) (length ys) (omega arith)) (left_units (omega arith) p big))
      (λ (p : length ys < 8). rw (le-ltb (length xs) (length ys) (omega arith)) (right_units (omega arith) p big))
      small

-- how many
pub join_length : (n : ℕ) (a b : Entry) (ys : List Entry) → length (join_units n a b ys) ≡ length ys + 2
unfolding join_units
join_length n a b ys = length-append (map (unit_for a.value) (map inserted ys)) (unit_for b.value (Reset 255) ∷ unit_for n (Delete b.key) ∷ []) ∙ omega (arith, length-map (map inserted ys) (unit_for a.value), length-map ys inserted)

cond_length : (n : ℕ) (a b e f : Entry) (k j : ℕ) → (length (to_left n a b e k) ≡ 4) × (length (to_right n a b f j) ≡ 4)
unfolding to_left to_right
cond_length n a b e f k j = (refl, refl)

pub share_length : (n : ℕ) (a b : Entry) (xs ys : List Entry) → length (share_units n a b xs ys) ≡ 4
unfolding share_units
share_length n a b xs ys =
    let c = cond_length n a b (first_of ys) (first_of (drop (length xs - 1) xs)) (first_key 0 (drop 1 ys)) (first_of (drop (length xs - 1) xs)).key in
    cases (ltb (length xs) (length ys)) (λ q. rw q c.0) (λ q. rw q c.1)

-- ---- how many are freed
pub frees_append : (us vs : List U.Unit) → frees (us ++ vs) ≡ frees us + frees vs
frees_append us vs = count_append (λ (x : U.Unit). is_free x.update) us vs

pub frees_inserts : (n : ℕ) (ys : List Entry) → frees (map (unit_for n) (map inserted ys)) ≡ 0
frees_inserts n [] = refl
frees_inserts n (y ∷ ys) = omega (arith, frees_inserts n ys)

pub join_frees : (n : ℕ) (a b : Entry) (ys : List Entry) → frees (join_units n a b ys) ≡ 1
unfolding join_units
join_frees n a b ys =
    frees_append (map (unit_for a.value) (map inserted ys)) (unit_for b.value (Reset 255) ∷ unit_for n (Delete b.key) ∷ []) ∙ omega (arith, frees_inserts a.value ys)

move_frees : (n : ℕ) (a b e f : Entry) (k j : ℕ) → (frees (to_left n a b e k) ≡ 0) × (frees (to_right n a b f j) ≡ 0)
unfolding to_left to_right
move_frees n a b e f k j = (refl, refl)

pub share_frees : (n : ℕ) (a b : Entry) (xs ys : List Entry) → frees (share_units n a b xs ys) ≡ 0
unfolding share_units
share_frees n a b xs ys =
    let c = move_frees n a b (first_of ys) (first_of (drop (length xs - 1) xs)) (first_key 0 (drop 1 ys)) (first_of (drop (length xs - 1) xs)).key in
    cases (ltb (length xs) (length ys)) (λ q. rw q c.0) (λ q. rw q c.1)
