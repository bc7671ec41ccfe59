-- A delete under a node, with the joins on the way up. Assumes nothing.
use mathlib.Core.Path.{◌≡◌, refl, sym, ap, ◌∙◌, subst}
use mathlib.Core.Logic.{inl, inr, ⊎_elim}
use mathlib.Core.List.{List, [], ◌∷◌, ◌++◌, map, append-nil}
use Prim.Native.Nat.{ℕ, zero, suc, ◌+◌, ◌*◌, ◌<◌, ◌≤◌}
use native.Mathlib.Omega.{arith}
use lib.ListN.{length, length-append, length-map}
use borrow.Author.Tests.{lt-ltb, le-ltb}
use Rattle.lists.specs.Lists.{All, none, more}
use Rattle.lists.proofs.Alls.{All-map, All-append, All-left, All-right, All-head, All-tail}
use Rattle.lists.proofs.Flats.{map_append}
use Rattle.lists.proofs.Tests.{below_or_not}
use Rattle.pages.specs.declared.unit.Update.TheVariants.{Delete}
use Rattle.pages.specs.declared.unit.Unit as U
use Rattle.views.specs.Groups.{unit_for}
use Rattle.views.specs.Nodes.{Entry, View, view, apply, delete_entry}
use Rattle.views.proofs.Entries.{delete_most}
use Rattle.tree.specs.Tree.{entries_of, there, Table, at, put, entries_at, child, nodes}
use Rattle.tree.specs.Step6.{top, times}
use Rattle.tree.specs.Delete.{Down, kept, lost, leaves, neighbours, settle, mend, delete_at}
use Rattle.tree.specs.Thick.{least_of}
use Rattle.tree.specs.Units.{after_units}
use Rattle.tree.specs.DeleteUnits.{settle_units, mend_units, delete_units_at, frees}
use Rattle.tree.proofs.Validity.{Smalls, ValidUpdates, after_small}
use Rattle.tree.proofs.Entries.{between_up, delete_step, delete_least}
use Rattle.tree.proofs.Tables.{at_same, at_other, there_old}
use Rattle.tree.proofs.Shape.{Leaf, Kid, Shape, number, entry_of, tops, nums, recs, recs_of, start_of, Sub, times_append, hit_same, hit_zero, kids_left, kids_right, there_le, sub_out, kids_between, sub_between}
use Rattle.tree.proofs.Children.{nums_of_three, recs_of_three, starts_before, Under, under, under_sub, under_count, under_once}
use Rattle.tree.proofs.PairUnits.{frees_append}
use Rattle.tree.proofs.Least.{nodes_old}
use Rattle.tree.proofs.UnitLaws.{touches, then}
use Rattle.tree.proofs.Becomes.{Becomes, becomes_then, replaced}
use Rattle.tree.proofs.Full.{Full, Strong, Wide, Nearly, wide_strong, least_8, least_most}
use Rattle.tree.proofs.Pairs.{loss, length_of, slack, gap, gap_least, Known}
use Rattle.tree.proofs.Neighbours.{Repaired, repaired}

-- no number is met twice afterwards
pub becomes_once : (f : List Entry → List Entry) (t u : Table) (l lo hi : ℕ) (s s' : Shape l) → Becomes f t u l lo hi s s' → Sub 16 t l lo hi s
    → ((j : ℕ) → times j (nums l s) ≤ 1) → (j : ℕ) → times j (nums l s') ≤ 1
becomes_once f t u l lo hi s s' g h once j =
    ⊎_elim
    (λ (q : 0 < there (at t j)). omega (arith, g.counts j, once j, there_le (at u j)))
    (λ (q : there (at t j) ≤ 0). omega (arith, g.counts j, sub_out 16 t l lo hi j s h (omega arith), there_le (at u j)))
    (below_or_not 0 (there (at t j)))

-- units down to the leaf from a node of level l
abbrev pub room_at : ℕ → ℕ
room_at zero = 1
room_at (suc l) = 19 + 17 * l

room_more : (l : ℕ) → room_at l + gap l ≤ room_at (suc l)
room_more zero = omega arith
room_more (suc l) = omega arith

-- an only kid that a join left has two entries or more
abbrev pub Heirs : (l : ℕ) → Shape l → Type 0
Heirs zero s = Unit {0}
Heirs (suc l) s = length s.kids ≡ 1 → All (λ (x : Kid (Shape l)). Wide l x.sub) s.kids

-- what is there afterwards was there before
pub becomes_there : (f : List Entry → List Entry) (t u : Table) (l lo hi : ℕ) (s s' : Shape l) → Becomes f t u l lo hi s s' → Sub 16 t l lo hi s
    → (j : ℕ) → there (at u j) ≡ 1 → there (at t j) ≡ 1
becomes_there f t u l lo hi s s' g h j p =
    ⊎_elim
    (λ (q : 0 < there (at t j)). omega (arith, there_le (at t j)))
    (λ (q : there (at t j) ≤ 0). let z = sub_out 16 t l lo hi j s h (omega arith) in ap there (sym (g.frame j z)) ∙ p)
    (below_or_not 0 (there (at t j)))

-- shape s became another by a delete under it
pub record Thinned (k : ℕ) (t : Table) (r : Down) (us : List U.Unit) (l lo hi : ℕ) (s : Shape l) : Type 0 where
  pub shape : Shape l
  pub becomes : Becomes (delete_entry k) t (leaves r) l lo hi s shape
  pub less : length (tops l s) ≤ loss r + length (tops l shape)
  pub full : (c : ℕ) → c ≤ 8 → Wide l s → Full c l s → Full c l shape
  pub nearly : (c : ℕ) → c ≤ 8 → Full c l s → Nearly c l shape
  pub units : after_units us t ≡ leaves r
  pub known : Known t us
  pub valid : k < top → Smalls t → ValidUpdates us
  pub count : nodes (leaves r) + frees us ≡ nodes t
  pub few : length us + slack r ≤ room_at l
  pub thick : Wide l s → Full 8 l s → length us ≤ 1 + 11 * l
  pub heir : loss r ≡ 1 → Heirs l shape

module _ (k : ℕ) (t : Table) (l lo hi n : ℕ) (before : List (Kid (Shape l))) (kid : Kid (Shape l)) (after : List (Kid (Shape l)))
    (h : Sub 16 t (suc l) lo hi (record { number = n; kids = before ++ (kid ∷ after) }))
    (once : (j : ℕ) → times j (nums (suc l) (record { number = n; kids = before ++ (kid ∷ after) })) ≤ 1) (low : kid.key ≤ k) (high : k < start_of hi after) where
  -- the kid became another, and the node is as it was
  module _ (u : Table) (s : Shape l) (g : Becomes (delete_entry k) t u l kid.key (start_of hi after) kid.sub s) where
    abbrev new : Kid (Shape l)
    new = record { key = kid.key; sub = s }

    map_same : map (entry_of l) (before ++ (new ∷ after)) ≡ map (entry_of l) (before ++ (kid ∷ after))
    map_same = rw (map_append (entry_of l) before (new ∷ after), map_append (entry_of l) before (kid ∷ after), g.same)

    pub node_kept : at u n ≡ view (suc l) (map (entry_of l) (before ++ (new ∷ after)))
    node_kept =
        g.frame n (omega (arith, once n, hit_same n n refl, nums_of_three l n before (kid ∷ []) after, times_append n (nums l kid.sub) []))
        ∙ h.0.is ∙ ap (view (suc l)) (sym map_same)

    swap_records : recs_of l (before ++ (new ∷ after)) ≡ delete_entry k (recs_of l (before ++ (kid ∷ after)))
    swap_records =
        recs_of_three l before (new ∷ []) after
        ∙ rw (append-nil (recs l s), g.records)
        (sym (rw (recs_of_three l before (kid ∷ []) after, append-nil)
        ((delete_step k).local lo hi (recs_of l before) (recs l kid.sub) (recs_of l after)
        (between_up lo kid.key k (recs_of l before) low
        (kids_between t l (sub_between 16 t l) lo kid.key before (omega (arith, starts_before lo kid before after h.1.0)) (kids_left (Sub 16 t l) hi before (kid ∷ after) h.1.1)))
        (kids_between t l (sub_between 16 t l) (suc k) hi after high (kids_right (Sub 16 t l) hi before (kid ∷ after) h.1.1).1))))

    pub swapped : Becomes (delete_entry k) t u (suc l) lo hi (record { number = n; kids = before ++ (kid ∷ after) }) (record { number = n; kids = before ++ (new ∷ after) })
    swapped =
        replaced (delete_entry k) t u l lo hi n kid.key before (kid ∷ []) (new ∷ []) after h once refl refl node_kept
        (rw map_same h.0.size) (omega arith, omega arith) (g.sub, tt)
        (λ j. omega (arith, g.counts j, times_append j (nums l kid.sub) [], times_append j (nums l s) []))
        (λ j p z. g.frame j (omega (arith, times_append j (nums l kid.sub) [])))
        swap_records

  old_length : length (map (entry_of l) (before ++ (kid ∷ after))) ≡ length before + suc (length after)
  old_length = length-map (before ++ (kid ∷ after)) (entry_of l) ∙ length-append before (kid ∷ after)

  module _ (r : Down) (us : List U.Unit) (g : Thinned k t r us l kid.key (start_of hi after) kid.sub) where
    abbrev kid' : Kid (Shape l)
    kid' = record { key = kid.key; sub = g.shape }

    strong_before : (c : ℕ) → All (Strong c l) (before ++ (kid ∷ after)) → All (Strong c l) before
    strong_before c f = All-left before (kid ∷ after) f

    strong_after : (c : ℕ) → All (Strong c l) (before ++ (kid ∷ after)) → All (Strong c l) after
    strong_after c f = All-tail (All-right before (kid ∷ after) f)

    strong_kid : (c : ℕ) → All (Strong c l) (before ++ (kid ∷ after)) → Strong c l kid
    strong_kid c f = All-head (All-right before (kid ∷ after) f)

    kid_full : (c : ℕ) → c ≤ 8 → All (Strong c l) (before ++ (kid ∷ after)) → Full c l g.shape
    kid_full c c8 f = let s = strong_kid c f in g.full c c8 (wide_strong c l kid.sub s.0) s.1

    -- the kid is thick enough
    stays : (u : Table) → leaves r ≡ u → ((c : ℕ) → c ≤ 8 → least_of c l ≤ length_of l kid → least_of c l ≤ length_of l kid')
        → Thinned k t (kept u) us (suc l) lo hi (record { number = n; kids = before ++ (kid ∷ after) })
    stays u e ok = record {
      shape = record { number = n; kids = before ++ (kid' ∷ after) };
      becomes = swapped u g.shape (subst (λ (w : Table). Becomes (delete_entry k) t w l kid.key (start_of hi after) kid.sub g.shape) e g.becomes);
      less = omega (arith, old_length, length-map (before ++ (kid' ∷ after)) (entry_of l), length-append before (kid' ∷ after));
      full = λ c c8 w f. All-append (strong_before c f) (more (ok c c8 (strong_kid c f).0, kid_full c c8 f) (strong_after c f));
      nearly = λ c c8 f. inl (All-append (strong_before c f) (more (ok c c8 (strong_kid c f).0, kid_full c c8 f) (strong_after c f)));
      units = g.units ∙ e;
      known = g.known;
      valid = g.valid;
      count = ap (λ (w : Table). nodes w + frees us) (sym e) ∙ g.count;
      few = omega (arith, g.few, room_more l, gap_least l);
      thick = λ w f. let s = strong_kid 8 f in omega (arith, g.thick (wide_strong 8 l kid.sub s.0) s.1);
      heir = λ z. absurd (omega arith);
    }

    -- or it looks at its neighbour
    looks : (u : Table) → r ≡ lost u → length_of l kid' < 8
        → Thinned k t (settle l n (neighbours k (map (entry_of l) (before ++ (kid' ∷ after)))) u) (us ++ settle_units n (neighbours k (map (entry_of l) (before ++ (kid' ∷ after)))) u) (suc l) lo hi (record { number = n; kids = before ++ (kid ∷ after) })
    looks u e thin =
        let G : Becomes (delete_entry k) t u l kid.key (start_of hi after) kid.sub g.shape
        = subst (λ (w : Down). Becomes (delete_entry k) t (leaves w) l kid.key (start_of hi after) kid.sub g.shape) e g.becomes in
        let S = swapped u g.shape G in
        let P : Shape (suc l) = record { number = n; kids = before ++ (kid ∷ after) } in
        let P' : Shape (suc l) = record { number = n; kids = before ++ (kid' ∷ after) } in
        let vs = settle_units n (neighbours k (map (entry_of l) (before ++ (kid' ∷ after)))) u in
        let R : Repaired u (settle l n (neighbours k (map (entry_of l) (before ++ (kid' ∷ after)))) u) vs l lo hi n before kid' after
        = repaired u l lo hi n k kid' thin before after low high S.sub (becomes_once (delete_entry k) t u (suc l) lo hi P P' S h once) in
        let le : length_of l kid ≤ 1 + length_of l kid' = subst (λ (w : Down). length_of l kid ≤ loss w + length_of l kid') e g.less in
        let eu : after_units us t ≡ u = subst (λ (w : Down). after_units us t ≡ leaves w) e g.units in
        let cu : nodes u + frees us ≡ nodes t = subst (λ (w : Down). nodes (leaves w) + frees us ≡ nodes t) e g.count in
        let fw : length us + 0 ≤ room_at l = subst (λ (w : Down). length us + slack w ≤ room_at l) e g.few in
        record {
          shape = record { number = n; kids = R.kids };
          becomes = becomes_then S R.becomes;
          less = omega (arith, old_length, length-append before (kid' ∷ after), R.less, length-map R.kids (entry_of l));
          full = λ c c8 w f. R.full c c8 (omega (arith, length-append before (kid' ∷ after), length-append before (kid ∷ after)))
              (strong_before c f) (strong_after c f) (kid_full c c8 f) (omega (arith, (strong_kid c f).0));
          nearly = λ c c8 f. ⊎_elim
              (λ (q : 1 < length (before ++ (kid' ∷ after))). inl
              (R.full c c8 q (strong_before c f) (strong_after c f) (kid_full c c8 f) (omega (arith, (strong_kid c f).0))))
              (λ (q : length (before ++ (kid' ∷ after)) ≤ 1).
              let e₁ = R.alone (omega (arith, length-append before (kid' ∷ after))) in
              inr (ap length e₁, subst (λ (ks : List (Kid (Shape l))). All (λ (x : Kid (Shape l)). Full c l x.sub) ks) (sym e₁) (more (kid_full c c8 f) none)))
              (below_or_not 1 (length (before ++ (kid' ∷ after))));
          units = then us vs t u (leaves (settle l n (neighbours k (map (entry_of l) (before ++ (kid' ∷ after)))) u)) eu R.units;
          known = All-append g.known (All-map (λ x p. becomes_there (delete_entry k) t u (suc l) lo hi P P' S h x.node p) R.known);
          count = rw (frees_append us vs) (omega (arith, R.count, cu));
          valid = λ hk ts. let v = g.valid hk ts in All-append v (R.valid (after_small us t u eu v ts));
          few = rw length-append (omega (arith, fw, R.few, room_more l));
          thick = λ w f.
              let s = strong_kid 8 f in
              let i = g.thick (wide_strong 8 l kid.sub s.0) s.1 in
              rw length-append (omega (arith, R.thick (omega (arith, s.0, least_8 l)) (strong_before 8 f)));
          heir = R.heir;
        }

  pub mended : (r : Down) (us : List U.Unit) → Thinned k t r us l kid.key (start_of hi after) kid.sub
      → Thinned k t (mend l n (number l kid.sub) k r) (us ++ mend_units n (number l kid.sub) k r) (suc l) lo hi (record { number = n; kids = before ++ (kid ∷ after) })
  mended (kept u) us g = rw append-nil (stays (kept u) us g u refl (λ c c8 q. omega (arith, g.less)))
  mended (lost u) us g =
      let x : Kid (Shape l) = record { key = kid.key; sub = g.shape } in
      let e : entries_at u (number l kid.sub) ≡ tops l g.shape = ap (entries_at u) (sym g.becomes.same) ∙ ap entries_of g.becomes.sub.0.is in
      let e' : entries_at u n ≡ map (entry_of l) (before ++ (x ∷ after)) = ap entries_of (node_kept u g.shape g.becomes) in
      rw (e, e')
      (⊎_elim
      (λ (q : length_of l x < 8). rw (lt-ltb (length_of l x) 8 q) (looks (lost u) us g u refl q))
      (λ (q : 8 ≤ length_of l x). rw (le-ltb (length_of l x) 8 q, append-nil) (stays (lost u) us g u refl (λ c c8 p. omega (arith, least_most c l c8))))
      (below_or_not (length_of l x) 8))

-- ---- the leaf
leaf_deletes : (k : ℕ) (t : Table) (lo hi : ℕ) (s : Leaf) → Sub 16 t 0 lo hi s → lo ≤ k → k < hi
    → Thinned k t (lost (put s.number (view 0 (delete_entry k (entries_at t s.number))) t)) (unit_for s.number (Delete k) ∷ []) 0 lo hi s
leaf_deletes k t lo hi s h low high =
    let n = s.number in
    let es = delete_entry k s.entries in
    let e : entries_at t n ≡ s.entries = ap entries_of h.0.is in
    rw e
    (record {
      shape = record { number = n; entries = es };
      becomes = record {
        same = refl;
        sub = (record { is = at_same n (view 0 es) t; keys = (delete_step k).keeps lo hi s.entries low high h.0.keys; size = omega (arith, delete_most k s.entries, h.0.size) }, tt);
        records = refl;
        counts = λ j. omega (arith, there_old n j 0 es t (ap there h.0.is));
        frame = λ j z. at_other n j (view 0 es) t (hit_zero n j (omega arith));
      };
      less = omega (arith, delete_least k s.entries);
      full = λ c c8 w f. tt;
      nearly = λ c c8 f. tt;
      units = touches n (Delete k ∷ []) t (ap there h.0.is) ∙ ap (λ (w : View). put n (apply w (Delete k)) t) h.0.is;
      known = more (ap there h.0.is) none;
      valid = λ hk ts. more hk none;
      count = omega (arith, nodes_old n 0 es t (ap there h.0.is));
      few = omega arith;
      thick = λ _ _. omega arith;
      heir = λ _. tt;
    })

branch_deletes : (k : ℕ) (t : Table) (l lo hi n : ℕ) (ks : List (Kid (Shape l))) (w : Under t l lo hi n k ks)
    → ((j : ℕ) → times j (nums (suc l) (record { number = n; kids = ks })) ≤ 1)
    → Thinned k t (delete_at l (number l w.kid.sub) k t) (delete_units_at l (number l w.kid.sub) k t) l w.kid.key (start_of hi w.after) w.kid.sub
    → Thinned k t (mend l n (child t n k) k (delete_at l (child t n k) k t)) (delete_units_at l (child t n k) k t ++ mend_units n (child t n k) k (delete_at l (child t n k) k t)) (suc l) lo hi (record { number = n; kids = ks })
branch_deletes k t l lo hi n ks w once g =
    rw w.child
    (subst (λ (xs : List (Kid (Shape l))). Thinned k t (mend l n (number l w.kid.sub) k (delete_at l (number l w.kid.sub) k t)) (delete_units_at l (number l w.kid.sub) k t ++ mend_units n (number l w.kid.sub) k (delete_at l (number l w.kid.sub) k t)) (suc l) lo hi (record { number = n; kids = xs })) (sym w.is)
    (mended k t l lo hi n w.before w.kid w.after w.whole
    (under_once t l lo hi n k ks w once)
    w.low w.high (delete_at l (number l w.kid.sub) k t) (delete_units_at l (number l w.kid.sub) k t) g))

module _ (k : ℕ) (t : Table) where
  pub deletes : (l lo hi : ℕ) (s : Shape l) → Sub 16 t l lo hi s → ((j : ℕ) → times j (nums l s) ≤ 1) → lo ≤ k → k < hi
      → Thinned k t (delete_at l (number l s) k t) (delete_units_at l (number l s) k t) l lo hi s
  unfolding delete_at delete_units_at
  deletes zero lo hi s h once low high = leaf_deletes k t lo hi s h low high
  deletes (suc l) lo hi s h once low high =
      step (under t l lo hi s.number k s.kids h low high) (λ a b x. deletes l a b x)
    where
      step : (w : Under t l lo hi s.number k s.kids)
          → ((a b : ℕ) (x : Shape l) → Sub 16 t l a b x → ((j : ℕ) → times j (nums l x) ≤ 1) → a ≤ k → k < b → Thinned k t (delete_at l (number l x) k t) (delete_units_at l (number l x) k t) l a b x)
          → Thinned k t (mend l s.number (child t s.number k) k (delete_at l (child t s.number k) k t)) (delete_units_at l (child t s.number k) k t ++ mend_units s.number (child t s.number k) k (delete_at l (child t s.number k) k t)) (suc l) lo hi s
      step w ih =
          branch_deletes k t l lo hi s.number s.kids w once
          (ih w.kid.key (start_of hi w.after) w.kid.sub (under_sub t l lo hi s.number k s.kids w)
          (λ j. omega (arith, once j, under_count t l lo hi s.number k s.kids w j)) w.low w.high)
