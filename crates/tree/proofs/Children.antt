-- What a node is after its child: the child that a key is under, the kids that it became, and the entry that the node gains. Assumes nothing.
use mathlib.Core.Path.{◌≡◌, refl, sym, ap, ◌∙◌, subst}
use mathlib.Core.Logic.{⊎_elim}
use mathlib.Core.List.{List, [], ◌∷◌, ◌++◌, map, append_assoc, append-nil}
use Prim.Native.Nat.{ℕ, suc, ◌+◌, ◌<◌, ◌≤◌}
use native.Mathlib.Omega.{arith}
use lib.ListN.{length}
use Rattle.lists.proofs.Flats.{flat_append, map_append}
use Rattle.views.specs.Nodes.{Entry, entry, view, insert_entry}
use Rattle.tree.specs.Tree.{there, Table, at, put, entries_at, child, first_key}
use Rattle.tree.specs.Step6.{times}
use Rattle.tree.specs.Insert.{Up, stop, gains, table_of}
use Rattle.lists.proofs.Tests.{below_or_not}
use Rattle.tree.proofs.Entries.{Between, between_le, between_down, between_up, between_append, between_left, between_right, LeafStep, insert_local}
use Rattle.views.proofs.Entries.{insert_most}
use Rattle.tree.proofs.Tables.{hit, at_same, at_other}
use Rattle.tree.proofs.Shape.{Leaf, Kid, Shape, number, entry_of, tops, rest, nums, recs, nums_of, recs_of, start_of, Starts, Kids, Inner, Sub, times_append, hit_same, kids_left, kids_right, kids_join, start_first, locate, kids_frame, inner_frame, sub_frame, there_le, sub_out, kids_between, sub_between}

pub nums_of_three : (l j : ℕ) (a b d : List (Kid (Shape l))) → times j (nums_of l (a ++ (b ++ d))) ≡ times j (nums_of l a) + (times j (nums_of l b) + times j (nums_of l d))
nums_of_three l j a b d =
    let f : Kid (Shape l) → List ℕ = λ x. nums l x.sub in
    rw (flat_append f a (b ++ d), flat_append f b d, times_append j (nums_of l a) (nums_of l b ++ nums_of l d), times_append j (nums_of l b) (nums_of l d))

pub recs_of_three : (l : ℕ) (a b d : List (Kid (Shape l))) → recs_of l (a ++ (b ++ d)) ≡ recs_of l a ++ (recs_of l b ++ recs_of l d)
recs_of_three l a b d = let f : Kid (Shape l) → List Entry = λ x. recs l x.sub in rw (flat_append f a (b ++ d), flat_append f b d)

pub starts_before : {A : Type 0} (lo : ℕ) (x : Kid A) (a b : List (Kid A)) → Starts lo (a ++ (x ∷ b)) → lo ≡ start_of x.key a
starts_before lo x [] b h = sym h
starts_before lo x (y ∷ a) b h = sym h

starts_again : {A : Type 0} (lo : ℕ) (x : Kid A) (a b d : List (Kid A)) → Starts x.key d → Starts lo (a ++ (x ∷ b)) → Starts lo (a ++ (d ++ b))
starts_again lo x [] b [] g h = absurd g
starts_again lo x [] b (y ∷ d) g h = g ∙ h
starts_again lo x (y ∷ a) b d g h = h

pub starts_start : {A : Type 0} (k hi : ℕ) (a b : List (Kid A)) → Starts k a → start_of hi (a ++ b) ≡ k
starts_start k hi [] b h = absurd h
starts_start k hi (x ∷ a) b h = h

-- a kid's bounds are within its parent's
pub kid_range : (l lo hi : ℕ) (before : List (Kid (Shape l))) (kid : Kid (Shape l)) (after : List (Kid (Shape l)))
    → Between lo hi (map (entry_of l) (before ++ (kid ∷ after))) → (lo ≤ kid.key) × (start_of hi after ≤ hi)
kid_range l lo hi before kid after h =
    let mb = map (entry_of l) before in
    let ma = map (entry_of l) after in
    let b : Between lo hi (mb ++ (entry_of l kid ∷ ma)) = rw map_append at h in (
      between_le lo kid.key mb (between_left lo hi mb (entry_of l kid ∷ ma) b),
      rw (← start_first l hi after) (between_le (first_key hi ma) hi ma (between_right (suc kid.key) hi [] ma (between_right lo hi mb (entry_of l kid ∷ ma) b).1)),
    )

-- the entries that a parent then has for a kid that had (lo, n)
abbrev pub ups : ℕ → ℕ → Up → List Entry
ups lo n (stop t) = entry lo n ∷ []
ups lo n (gains k m t) = entry lo n ∷ entry k m ∷ []

-- shape s of table t became the kids `mids`, all records as f says
pub record Grown (f : List Entry → List Entry) (t : Table) (r : Up) (l lo hi : ℕ) (s : Shape l) : Type 0 where
  pub mids : List (Kid (Shape l))
  pub tops : map (entry_of l) mids ≡ ups lo (number l s) r
  pub starts : Starts lo mids
  pub order : Between lo hi (ups lo (number l s) r)
  pub kids : Kids (Sub 16 (table_of r) l) hi mids
  pub records : recs_of l mids ≡ f (recs l s)
  pub counts : (j : ℕ) → times j (nums_of l mids) + there (at t j) ≡ times j (nums l s) + there (at (table_of r) j)
  pub frame : (j : ℕ) → times j (nums_of l mids) ≡ 0 → at (table_of r) j ≡ at t j

abbrev pub same : List Entry → List Entry
same es = es

-- a shape that node n is to hold
pub record Over (t : Table) (l lo hi : ℕ) (s : Shape l) : Type 0 where
  pub stands : there (at t (number l s)) ≡ 1
  pub out : times (number l s) (rest l s) ≡ 0
  pub inner : Inner t l lo hi s
  pub keys : Between lo hi (tops l s)
  pub proper : lo < hi

module _ (t : Table) (l lo hi : ℕ) (s : Shape l) (o : Over t l lo hi s) where
  pub holds_sub : length (tops l s) ≤ 16 → Sub 16 (put (number l s) (view l (tops l s)) t) l lo hi s
  holds_sub le =
      let n = number l s in
      let es = tops l s in (
        record { is = at_same n (view l es) t; keys = o.keys; size = le },
        inner_frame t (put n (view l es) t) l lo hi s (λ j q. at_other n j (view l es) t (λ e. omega (arith, o.out, ap (λ (i : ℕ). times i (rest l s)) e))) o.inner,
      )

-- the kid's entry and a new one stand in the place of the kid's
pub insert_after : (lo hi k m : ℕ) (a : List Entry) (e : Entry) (d : List Entry) → Between lo hi (a ++ (e ∷ d)) → e.key < k → k < first_key hi d
    → insert_entry k m (a ++ (e ∷ d)) ≡ a ++ (e ∷ entry k m ∷ d)
insert_after lo hi k m a e d h g₁ g₂ =
    simp append_assoc at
    (insert_local k m lo hi (a ++ (e ∷ [])) [] d
    (between_append lo e.key k a (e ∷ []) (between_left lo hi a (e ∷ d) h) (omega arith, g₁))
    (between_down (suc k) (first_key hi d) hi d g₂ (between_right (suc e.key) hi [] d (between_right lo hi a (e ∷ d) h).1)))

map_three : {A B : Type 0} (f : A → B) (a b d : List A) → map f (a ++ (b ++ d)) ≡ map f a ++ (map f b ++ map f d)
map_three f a b d = rw (map_append f a (b ++ d), map_append f b d)

module _ (k : ℕ) (f : List Entry → List Entry) (st : LeafStep k f) (t : Table) (l lo hi n : ℕ) (before : List (Kid (Shape l))) (kid : Kid (Shape l))
    (after : List (Kid (Shape l))) (h : Sub 16 t (suc l) lo hi (record { number = n; kids = before ++ (kid ∷ after) }))
    (once : (j : ℕ) → times j (nums (suc l) (record { number = n; kids = before ++ (kid ∷ after) })) ≤ 1) (low : kid.key ≤ k) (high : k < start_of hi after)
    (r : Up) (g : Grown f t r l kid.key (start_of hi after) kid.sub) where
  was : (j : ℕ) → times j (nums_of l (before ++ (kid ∷ after))) ≡ times j (nums_of l before) + (times j (nums l kid.sub) + times j (nums_of l after))
  was j = omega (arith, nums_of_three l j before (kid ∷ []) after, times_append j (nums l kid.sub) [])

  now : (j : ℕ) → times j (nums_of l (before ++ (g.mids ++ after))) ≡ times j (nums_of l before) + (times j (nums_of l g.mids) + times j (nums_of l after))
  now j = nums_of_three l j before g.mids after

  -- whatever is not under the kid is as it was
  others : (j : ℕ) → 0 < hit n j + (times j (nums_of l before) + times j (nums_of l after)) → (times j (nums_of l g.mids) ≡ 0) × (at (table_of r) j ≡ at t j)
  others j p =
      let z : times j (nums_of l g.mids) ≡ 0 = ⊎_elim
      (λ (q : 0 < there (at t j)). omega (arith, g.counts j, once j, was j, there_le (at (table_of r) j)))
      (λ (q : there (at t j) ≤ 0).
      absurd (omega (arith, sub_out 16 t (suc l) lo hi j (record { number = n; kids = before ++ (kid ∷ after) }) h (omega arith), was j)))
      (below_or_not 0 (there (at t j))) in
      (z, g.frame j z)

  kept : at (table_of r) n ≡ view (suc l) (map (entry_of l) (before ++ (kid ∷ after)))
  kept = (others n (omega (arith, hit_same n n refl))).1 ∙ h.0.is

  out_top : times n (nums_of l (before ++ (g.mids ++ after))) ≡ 0
  out_top = omega (arith, (others n (omega (arith, hit_same n n refl))).0, now n, was n, once n, hit_same n n refl)

  joined_inner : Inner (table_of r) (suc l) lo hi (record { number = n; kids = before ++ (g.mids ++ after) })
  joined_inner =
      let P : ℕ → ℕ → Shape l → Type 0 = Sub 16 t l in
      let Q : ℕ → ℕ → Shape l → Type 0 = Sub 16 (table_of r) l in
      let u = table_of r in
      let nl : Kids Q kid.key before
      = kids_frame t u l (sub_frame 16 t u l) kid.key before (λ j p. (others j (omega arith)).1) (kids_left P hi before (kid ∷ after) h.1.1) in
      let nr : Kids Q hi after = kids_frame t u l (sub_frame 16 t u l) hi after (λ j p. (others j (omega arith)).1) (kids_right P hi before (kid ∷ after) h.1.1).1 in (
        starts_again lo kid before after g.mids g.starts h.1.0,
        kids_join Q hi before (g.mids ++ after) (rw (starts_start kid.key hi g.mids after g.starts) nl) (kids_join Q hi g.mids after g.kids nr),
      )

  pub joined_records : recs_of l (before ++ (g.mids ++ after)) ≡ f (recs_of l (before ++ (kid ∷ after)))
  joined_records =
      recs_of_three l before g.mids after
      ∙ rw g.records
      (sym (rw (recs_of_three l before (kid ∷ []) after, append-nil)
      (st.local lo hi (recs_of l before) (recs l kid.sub) (recs_of l after)
      (between_up lo kid.key k (recs_of l before) low
      (kids_between t l (sub_between 16 t l) lo kid.key before (omega (arith, starts_before lo kid before after h.1.0)) (kids_left (Sub 16 t l) hi before (kid ∷ after) h.1.1)))
      (kids_between t l (sub_between 16 t l) (suc k) hi after high (kids_right (Sub 16 t l) hi before (kid ∷ after) h.1.1).1))))

  old_tops : Between lo hi (map (entry_of l) before ++ (entry_of l kid ∷ map (entry_of l) after))
  old_tops = rw map_append at h.0.keys

  joined_keys : Between lo hi (map (entry_of l) (before ++ (g.mids ++ after)))
  joined_keys =
      let mb = map (entry_of l) before in
      let ma = map (entry_of l) after in
      let o = old_tops in
      rw (map_three (entry_of l) before g.mids after, g.tops)
      (between_append lo kid.key hi mb (ups kid.key (number l kid.sub) r ++ ma) (between_left lo hi mb (entry_of l kid ∷ ma) o)
      (between_append kid.key (start_of hi after) hi (ups kid.key (number l kid.sub) r) ma g.order
      (rw (start_first l hi after) at (between_right (suc kid.key) hi [] ma (between_right lo hi mb (entry_of l kid ∷ ma) o).1))))

  pub joined_over : Over (table_of r) (suc l) lo hi (record { number = n; kids = before ++ (g.mids ++ after) })
  joined_over = record {
    stands = rw kept;
    out = out_top;
    inner = joined_inner;
    keys = joined_keys;
    proper = omega (arith, low, high, kid_range l lo hi before kid after h.0.keys);
  }

  pub joined_counts : (j : ℕ) → times j (nums (suc l) (record { number = n; kids = before ++ (g.mids ++ after) })) + there (at t j)
      ≡ times j (nums (suc l) (record { number = n; kids = before ++ (kid ∷ after) })) + there (at (table_of r) j)
  joined_counts j = omega (arith, g.counts j, was j, now j)

  pub stopped_sub : map (entry_of l) g.mids ≡ entry_of l kid ∷ [] → Sub 16 (table_of r) (suc l) lo hi (record { number = n; kids = before ++ (g.mids ++ after) })
  stopped_sub e =
      let e' : map (entry_of l) (before ++ (g.mids ++ after)) ≡ map (entry_of l) (before ++ (kid ∷ after))
      = rw (map_three (entry_of l) before g.mids after, e, map_append (entry_of l) before (kid ∷ after)) in
      (record { is = kept ∙ rw e'; keys = joined_keys; size = rw e' h.0.size }, joined_inner)

  module _ (k' m : ℕ) (e : map (entry_of l) g.mids ≡ entry_of l kid ∷ entry k' m ∷ []) (g₁ : kid.key < k') (g₂ : k' < start_of hi after) where
    new_tops : map (entry_of l) (before ++ (g.mids ++ after)) ≡ insert_entry k' m (map (entry_of l) (before ++ (kid ∷ after)))
    new_tops =
        rw (map_three (entry_of l) before g.mids after, e, map_append (entry_of l) before (kid ∷ after))
        (sym (insert_after lo hi k' m (map (entry_of l) before) (entry_of l kid) (map (entry_of l) after) old_tops g₁ (rw start_first g₂)))

    pub gained_tops : insert_entry k' m (entries_at (table_of r) n) ≡ map (entry_of l) (before ++ (g.mids ++ after))
    gained_tops = rw kept (sym new_tops)

    pub gained_size : length (map (entry_of l) (before ++ (g.mids ++ after))) ≤ 17
    gained_size = rw new_tops (omega (arith, insert_most k' m (map (entry_of l) (before ++ (kid ∷ after))), h.0.size))

pub record Gaining (t : Table) (l n k m lo hi : ℕ) : Type 0 where
  pub entries : List Entry
  pub is : at t n ≡ view l entries
  pub keys : Between lo hi (insert_entry k m entries)
  pub size : length (insert_entry k m entries) ≤ 17

-- the kid that k is under, and what it is in the table
pub record Under (t : Table) (l lo hi n k : ℕ) (kids : List (Kid (Shape l))) : Type 0 where
  pub before : List (Kid (Shape l))
  pub kid : Kid (Shape l)
  pub after : List (Kid (Shape l))
  pub is : kids ≡ before ++ (kid ∷ after)
  pub whole : Sub 16 t (suc l) lo hi (record { number = n; kids = before ++ (kid ∷ after) })
  pub child : child t n k ≡ number l kid.sub
  pub low : kid.key ≤ k
  pub high : k < start_of hi after

pub under : (t : Table) (l lo hi n k : ℕ) (ks : List (Kid (Shape l))) → Sub 16 t (suc l) lo hi (record { number = n; kids = ks }) → lo ≤ k → k < hi → Under t l lo hi n k ks
under t l lo hi n k [] h low high = absurd h.1.0
under t l lo hi n k (x ∷ xs) h low high =
    let w = locate l k hi 0 x xs (omega (arith, h.1.0)) high in
    record {
      before = w.before;
      kid = w.kid;
      after = w.after;
      is = w.is;
      whole = subst (λ (ks : List (Kid (Shape l))). Sub 16 t (suc l) lo hi (record { number = n; kids = ks })) w.is h;
      child = rw h.0.is w.child;
      low = w.low;
      high = w.high;
    }

pub under_sub : (t : Table) (l lo hi n k : ℕ) (ks : List (Kid (Shape l))) (w : Under t l lo hi n k ks) → Sub 16 t l w.kid.key (start_of hi w.after) w.kid.sub
under_sub t l lo hi n k ks w = (kids_right (Sub 16 t l) hi w.before (w.kid ∷ w.after) w.whole.1.1).0

pub under_count : (t : Table) (l lo hi n k : ℕ) (ks : List (Kid (Shape l))) (w : Under t l lo hi n k ks) (j : ℕ) → times j (nums l w.kid.sub) ≤ times j (nums_of l ks)
under_count t l lo hi n k ks w j =
    omega (arith, ap (λ (ks : List (Kid (Shape l))). times j (nums_of l ks)) w.is, nums_of_three l j w.before (w.kid ∷ []) w.after, times_append j (nums l w.kid.sub) [])

-- no number is met twice among them
pub under_once : (t : Table) (l lo hi n k : ℕ) (ks : List (Kid (Shape l))) (w : Under t l lo hi n k ks) → ((j : ℕ) → times j (nums (suc l) (record { number = n; kids = ks })) ≤ 1)
    → (j : ℕ) → times j (nums (suc l) (record { number = n; kids = w.before ++ (w.kid ∷ w.after) })) ≤ 1
under_once t l lo hi n k ks w once = subst (λ (xs : List (Kid (Shape l))). (j : ℕ) → times j (nums (suc l) (record { number = n; kids = xs })) ≤ 1) w.is once

module _ (k : ℕ) (f : List Entry → List Entry) (st : LeafStep k f) (t : Table) (l lo hi n : ℕ) (ks : List (Kid (Shape l))) (w : Under t l lo hi n k ks)
    (once : (j : ℕ) → times j (nums (suc l) (record { number = n; kids = ks })) ≤ 1) where
  abbrev once_whole : (j : ℕ) → times j (nums (suc l) (record { number = n; kids = w.before ++ (w.kid ∷ w.after) })) ≤ 1
  once_whole = under_once t l lo hi n k ks w once

  -- what the node is when its kid has split
  pub gaining : (k' m : ℕ) (u : Table) → Grown f t (gains k' m u) l w.kid.key (start_of hi w.after) w.kid.sub → Gaining u (suc l) n k' m lo hi
  gaining k' m u g = record {
    entries = map (entry_of l) (w.before ++ (w.kid ∷ w.after));
    is = kept k f st t l lo hi n w.before w.kid w.after w.whole once_whole w.low w.high (gains k' m u) g;
    keys =
        rw (← new_tops k f st t l lo hi n w.before w.kid w.after w.whole once_whole w.low w.high (gains k' m u) g k' m g.tops g.order.1.0 g.order.1.1)
        (joined_keys k f st t l lo hi n w.before w.kid w.after w.whole once_whole w.low w.high (gains k' m u) g);
    size = omega (arith, insert_most k' m (map (entry_of l) (w.before ++ (w.kid ∷ w.after))), w.whole.0.size);
  }

-- a leaf that is to hold other entries
pub leaf_over : (t : Table) (lo hi : ℕ) (s : Leaf) (es : List Entry) → Sub 16 t 0 lo hi s → Between lo hi es → lo < hi → Over t 0 lo hi (record { number = s.number; entries = es })
leaf_over t lo hi s es h b p = record { stands = rw h.0.is; out = refl; inner = tt; keys = b; proper = p }
