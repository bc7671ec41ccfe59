-- On a tree the entry that a child gives up is new to its parent. Assumes nothing.
use mathlib.Core.Path.{◌≡◌, ap, sym, ◌∙◌, subst}
use mathlib.Core.List.{List, ◌∷◌, ◌++◌, map}
use Prim.Native.Nat.{ℕ, zero, suc, ◌<◌, ◌≤◌}
use native.Mathlib.Omega.{arith}
use lib.ListN.{length, length-append}
use Rattle.lists.proofs.Flats.{map_append}
use Rattle.views.specs.Nodes.{Entry, entry, insert_entry}
use Rattle.tree.specs.Tree.{Table, at, entries_of, entries_at, root_level}
use Rattle.tree.specs.Step6.{top, times, Tree}
use Rattle.tree.specs.Insert.{Up, gains, insert_at}
use Rattle.tree.specs.InsertCode.{Fresh}
use Rattle.tree.proofs.Shape.{Kid, Shape, number, entry_of, rest, nums, start_of, Sub, start_first, there_le, hit_same}
use Rattle.tree.proofs.Children.{Grown, insert_after, Under, under, under_sub, under_count}
use Rattle.tree.proofs.InsertAt.{inserts}
use Rattle.tree.proofs.Shaped.{level_at}
use Rattle.tree.proofs.Step6.{shape_of}

-- an entry in the place behind e
one_more : (a : List Entry) (e x : Entry) (d : List Entry) → length (a ++ (e ∷ x ∷ d)) ≡ suc (length (a ++ (e ∷ d)))
one_more a e x d = omega (arith, length-append a (e ∷ x ∷ d), length-append a (e ∷ d))

module _ (k : ℕ) (f : List Entry → List Entry) (t : Table) (l lo hi n : ℕ) (ks : List (Kid (Shape l))) (w : Under t l lo hi n k ks) where
  tops_are : entries_at t n ≡ map (entry_of l) w.before ++ (entry_of l w.kid ∷ map (entry_of l) w.after)
  tops_are = ap entries_of w.whole.0.is ∙ map_append (entry_of l) w.before (w.kid ∷ w.after)

  -- the node has one entry more with what its kid gives up
  gains_one : (j m : ℕ) (u : Table) → Grown f t (gains j m u) l w.kid.key (start_of hi w.after) w.kid.sub
      → length (insert_entry j m (entries_at t n)) ≡ suc (length (entries_at t n))
  gains_one j m u g =
      let a = map (entry_of l) w.before in
      let e = entry_of l w.kid in
      let d = map (entry_of l) w.after in
      ap (λ (es : List Entry). length (insert_entry j m es)) tops_are
      ∙ ap length (insert_after lo hi j m a e d (rw map_append at w.whole.0.keys) g.order.1.0 (rw start_first g.order.1.1))
      ∙ one_more a e (entry j m) d ∙ ap (λ (es : List Entry). suc (length es)) (sym tops_are)

module _ (k v : ℕ) (t : Table) where
  fresh_sub : (l lo hi : ℕ) (s : Shape l) → Sub 16 t l lo hi s → ((j : ℕ) → times j (nums l s) ≤ 1) → times 0 (rest l s) ≡ 0 → lo ≤ k → k < hi
      → Fresh l (number l s) k v t
  fresh_sub zero lo hi s h once z low high = tt
  fresh_sub (suc l) lo hi s h once z low high =
      step (under t l lo hi s.number k s.kids h low high) (λ a b x. fresh_sub l a b x)
    where
      step : (w : Under t l lo hi s.number k s.kids)
          → ((a b : ℕ) (x : Shape l) → Sub 16 t l a b x → ((j : ℕ) → times j (nums l x) ≤ 1) → times 0 (rest l x) ≡ 0 → a ≤ k → k < b → Fresh l (number l x) k v t)
          → Fresh (suc l) s.number k v t
      step w ih =
          let uc = under_count t l lo hi s.number k s.kids w in
          let sub = under_sub t l lo hi s.number k s.kids w in
          let one : (j : ℕ) → times j (nums l w.kid.sub) ≤ 1 = λ j. omega (arith, once j, uc j) in
          let none : times 0 (nums l w.kid.sub) ≡ 0 = omega (arith, uc 0) in
          let G = (inserts k v t l w.kid.key (start_of hi w.after) w.kid.sub sub one none w.low w.high).grown in (
            λ j m u e. gains_one k (insert_entry k v) t l lo hi s.number s.kids w j m u
                (subst (λ (q : Up). Grown (insert_entry k v) t q l w.kid.key (start_of hi w.after) w.kid.sub) (ap (λ (i : ℕ). insert_at l i k v t) (sym w.child) ∙ e) G),
            rw w.child (ih w.kid.key (start_of hi w.after) w.kid.sub sub one (omega arith) w.low w.high),
          )

pub fresh : (k v : ℕ) (t : Table) → Tree t → k < top → Fresh (root_level t) 0 k v t
fresh k v t g h =
    let T = shape_of t g in
    let once : (j : ℕ) → times j (nums T.level T.shape) ≤ 1 = λ j. omega (arith, T.once j, there_le (at t j)) in
    rw (level_at t T)
    (subst (λ (n : ℕ). Fresh T.level n k v t) T.root
    (fresh_sub k v t T.level 0 top T.shape T.sub once (omega (arith, once 0, hit_same (number T.level T.shape) 0 T.root)) (omega arith) h))
