-- The neighbour of the kid on the way. Assumes nothing.
use mathlib.Core.Path.{◌≡◌, refl, sym, ap, ◌∙◌, subst}
use mathlib.Core.Logic.{inl, inr}
use mathlib.Core.List.{List, [], ◌∷◌, ◌++◌, map, append_assoc}
use Prim.Native.Nat.{ℕ, suc, ◌+◌, ◌<◌, ◌≤◌}
use native.Mathlib.Omega.{arith}
use lib.ListN.{length, length-append, length-map}
use borrow.Author.Tests.{lt-ltb, le-ltb}
use Rattle.lists.specs.Lists.{All, none}
use Rattle.lists.proofs.Alls.{All-left, All-right, All-head, All-tail}
use Rattle.lists.proofs.Flats.{map_append}
use Rattle.views.specs.Nodes.{Entry}
use Rattle.tree.specs.Tree.{Table, nodes}
use Rattle.tree.specs.Step6.{times}
use Rattle.tree.specs.Delete.{Down, kept, leaves, Two, alone, two, behind, neighbours, settle}
use Rattle.tree.specs.Thick.{least_of}
use Rattle.tree.specs.Units.{after_units}
use Rattle.tree.specs.DeleteUnits.{settle_units, frees}
use Rattle.tree.proofs.Entries.{Between, between_le, between_left}
use Rattle.tree.proofs.Shape.{Kid, Shape, entry_of, nums, start_of, Sub}
use Rattle.pages.specs.declared.unit.Unit as U
use Rattle.tree.proofs.Validity.{Smalls, ValidUpdates}
use Rattle.tree.proofs.Becomes.{Becomes}
use Rattle.tree.proofs.Full.{Full, Strong, Wide, least_8}
use Rattle.tree.proofs.Pairs.{loss, length_of, slack, gap, gap_least, Known, Settled, settled}
use Rattle.tree.proofs.UnitLaws.{after_none}

skip : (k : ℕ) (a b : Entry) (es : List Entry) → b.key ≤ k → 0 < length es → neighbours k (a ∷ b ∷ es) ≡ behind a (neighbours k (b ∷ es))
skip k a b [] h g = absurd (omega arith)
skip k a b (e ∷ es) h g = rw (le-ltb k b.key h)

-- the kid with its right neighbour, or the left one if it is last
pub data Pick (l k : ℕ) (before : List (Kid (Shape l))) (kid : Kid (Shape l)) (after : List (Kid (Shape l))) : Type 0 where
  single : before ≡ [] → after ≡ [] → neighbours k (map (entry_of l) (before ++ (kid ∷ after))) ≡ alone → Pick l k before kid after
  right : (y : Kid (Shape l)) (ys : List (Kid (Shape l))) → after ≡ y ∷ ys
      → neighbours k (map (entry_of l) (before ++ (kid ∷ after))) ≡ two (map (entry_of l) before) (entry_of l kid) (entry_of l y) (map (entry_of l) ys) → Pick l k before kid after
  left : (bs : List (Kid (Shape l))) (x : Kid (Shape l)) → before ≡ bs ++ (x ∷ []) → after ≡ []
      → neighbours k (map (entry_of l) (before ++ (kid ∷ after))) ≡ two (map (entry_of l) bs) (entry_of l x) (entry_of l kid) [] → Pick l k before kid after

module _ (l k : ℕ) (kid : Kid (Shape l)) (after : List (Kid (Shape l))) where
  push : (x : Kid (Shape l)) (before : List (Kid (Shape l)))
      → neighbours k (map (entry_of l) (x ∷ (before ++ (kid ∷ after)))) ≡ behind (entry_of l x) (neighbours k (map (entry_of l) (before ++ (kid ∷ after))))
      → 2 ≤ length (before ++ (kid ∷ after)) → Pick l k before kid after → Pick l k (x ∷ before) kid after
  push x before e w (single p q n) = let z : 2 ≤ length (kid ∷ []) = (rw (p, q) at w) in absurd (omega arith)
  push x before e w (right y ys p n) = right y ys p (e ∙ ap (behind (entry_of l x)) n)
  push x before e w (left bs z p q n) = left (x ∷ bs) z (ap (λ (zs : List (Kid (Shape l))). x ∷ zs) p) q (e ∙ ap (behind (entry_of l x)) n)

pub pick : (l k lo hi : ℕ) (before : List (Kid (Shape l))) (kid : Kid (Shape l)) (after : List (Kid (Shape l)))
    → Between lo kid.key (map (entry_of l) before) → kid.key ≤ k → k < start_of hi after → Pick l k before kid after
pick l k lo hi [] kid [] b g h = single refl refl refl
pick l k lo hi [] kid (y ∷ []) b g h = right y [] refl refl
pick l k lo hi [] kid (y ∷ z ∷ zs) b g h = right y (z ∷ zs) refl (rw (lt-ltb k y.key h))
pick l k lo hi (x ∷ []) kid [] b g h = left [] x refl refl refl
pick l k lo hi (x ∷ []) kid (y ∷ ys) b g h =
    push l k kid (y ∷ ys) x [] (skip k (entry_of l x) (entry_of l kid) (entry_of l y ∷ map (entry_of l) ys) g (omega arith)) (omega arith)
    (pick l k 0 hi [] kid (y ∷ ys) (omega arith) g h)
pick l k lo hi (x ∷ y ∷ bs) kid after b g h =
    let e = length-append bs (kid ∷ after) in
    push l k kid after x (y ∷ bs)
    (skip k (entry_of l x) (entry_of l y) (map (entry_of l) (bs ++ (kid ∷ after))) (omega (arith, between_le (suc y.key) kid.key (map (entry_of l) bs) b.1.1))
    (omega (arith, length-map (bs ++ (kid ∷ after)) (entry_of l))))
    (omega arith) (pick l k (suc x.key) hi (y ∷ bs) kid after b.1 g h)

-- what a thin kid's node becomes
pub record Repaired (u : Table) (r : Down) (us : List U.Unit) (l lo hi n : ℕ) (before : List (Kid (Shape l))) (kid : Kid (Shape l)) (after : List (Kid (Shape l))) : Type 0 where
  pub kids : List (Kid (Shape l))
  pub becomes : Becomes (λ xs. xs) u (leaves r) (suc l) lo hi (record { number = n; kids = before ++ (kid ∷ after) }) (record { number = n; kids = kids })
  pub less : length (before ++ (kid ∷ after)) ≤ loss r + length kids
  pub full : (c : ℕ) → c ≤ 8 → 2 ≤ length (before ++ (kid ∷ after)) → All (Strong c l) before → All (Strong c l) after → Full c l kid.sub
      → least_of c l ≤ suc (length_of l kid) → All (Strong c l) kids
  pub alone : length (before ++ (kid ∷ after)) ≡ 1 → kids ≡ kid ∷ []
  pub units : after_units us u ≡ leaves r
  pub known : Known u us
  pub valid : Smalls u → ValidUpdates us
  pub count : nodes (leaves r) + frees us ≡ nodes u
  pub few : length us + slack r ≤ gap l
  pub thick : 7 ≤ length_of l kid → All (Strong 8 l) before → length us ≤ 11
  pub heir : loss r ≡ 1 → length kids ≡ 1 → All (λ (x : Kid (Shape l)). Wide l x.sub) kids

module _ (u : Table) (l lo hi n k : ℕ) (kid : Kid (Shape l)) (thin : length_of l kid < 8) where
  unchanged : Sub 16 u (suc l) lo hi (record { number = n; kids = kid ∷ [] }) → Repaired u (kept u) [] l lo hi n [] kid []
  unchanged h = record {
    kids = kid ∷ [];
    becomes = record { same = refl; sub = h; records = refl; counts = λ j. refl; frame = λ j z. refl };
    less = omega arith;
    full = λ c c8 w fb fd fk near. absurd (omega arith);
    alone = λ _. refl;
    units = after_none u;
    known = none;
    valid = λ _. none;
    count = omega arith;
    few = omega (arith, gap_least l);
    thick = λ _ _. omega arith;
    heir = λ z _. absurd (omega arith);
  }

  to_right_lem : (before : List (Kid (Shape l))) (y : Kid (Shape l)) (ys : List (Kid (Shape l))) (r : Down) (us : List U.Unit) → Settled u r us l lo hi n before kid y ys → Repaired u r us l lo hi n before kid (y ∷ ys)
  to_right_lem before y ys r us S = record {
    kids = S.kids;
    becomes = S.becomes;
    less = S.less;
    full = λ c c8 w fb fd fk near.
        let hd = All-head fd in
        let nr : (length_of l kid < 8) × (least_of c l ≤ suc (length_of l kid)) × (least_of c l ≤ length_of l y) = (thin, near, hd.0) in
        S.full c c8 fb (All-tail fd) fk hd.1 (inl nr);
    alone = λ q. absurd (omega (arith, length-append before (kid ∷ y ∷ ys)));
    units = S.units;
    known = S.known;
    valid = S.valid;
    count = S.count;
    few = S.few;
    thick = λ q _. S.thick q;
    heir = S.heir;
  }

  to_left_lem : (bs : List (Kid (Shape l))) (x : Kid (Shape l)) (r : Down) (us : List U.Unit) → Settled u r us l lo hi n bs x kid [] → Repaired u r us l lo hi n (bs ++ (x ∷ [])) kid []
  to_left_lem bs x r us S =
      let e : (bs ++ (x ∷ [])) ++ (kid ∷ []) ≡ bs ++ (x ∷ kid ∷ []) = append_assoc bs (x ∷ []) (kid ∷ []) in
      record {
        kids = S.kids;
        becomes = subst (λ (ks : List (Kid (Shape l))). Becomes (λ xs. xs) u (leaves r) (suc l) lo hi (record { number = n; kids = ks }) (record { number = n; kids = S.kids })) (sym e) S.becomes;
        less = omega (arith, S.less, ap length e);
        full = λ c c8 w fb fd fk near.
            let hx = All-head (All-right bs (x ∷ []) fb) in
            let nr : (length_of l kid < 8) × (least_of c l ≤ length_of l x) × (least_of c l ≤ suc (length_of l kid)) = (thin, hx.0, near) in
            S.full c c8 (All-left bs (x ∷ []) fb) none hx.1 fk (inr nr);
        alone = λ q. absurd (omega (arith, length-append (bs ++ (x ∷ [])) (kid ∷ []), length-append bs (x ∷ [])));
        units = S.units;
        known = S.known;
        valid = S.valid;
        count = S.count;
        few = S.few;
        thick = λ _ fb. S.thick (omega (arith, (All-head (All-right bs (x ∷ []) fb)).0, least_8 l));
        heir = S.heir;
      }

  abbrev Case : List (Kid (Shape l)) → List (Kid (Shape l)) → Type 0
  Case before after =
      Sub 16 u (suc l) lo hi (record { number = n; kids = before ++ (kid ∷ after) })
      → ((j : ℕ) → times j (nums (suc l) (record { number = n; kids = before ++ (kid ∷ after) })) ≤ 1)
      → Repaired u (settle l n (neighbours k (map (entry_of l) (before ++ (kid ∷ after)))) u) (settle_units n (neighbours k (map (entry_of l) (before ++ (kid ∷ after)))) u) l lo hi n before kid after

  by_pick : (before after : List (Kid (Shape l))) → Pick l k before kid after → Case before after
  unfolding settle settle_units
  by_pick before after (single p q e) h once =
      subst (λ (w : Two). Repaired u (settle l n w u) (settle_units n w u) l lo hi n before kid after) (sym e)
      (subst (λ (xs : List (Kid (Shape l))). Repaired u (kept u) [] l lo hi n xs kid after) (sym p)
      (subst (λ (xs : List (Kid (Shape l))). Repaired u (kept u) [] l lo hi n [] kid xs) (sym q)
      (unchanged (rw (p, q) at h))))
  by_pick before after (right y ys p e) h once =
      subst (λ (w : Two). Repaired u (settle l n w u) (settle_units n w u) l lo hi n before kid after) (sym e)
      (subst (λ (xs : List (Kid (Shape l))). Repaired u (settle l n (two (map (entry_of l) before) (entry_of l kid) (entry_of l y) (map (entry_of l) ys)) u) (settle_units n (two (map (entry_of l) before) (entry_of l kid) (entry_of l y) (map (entry_of l) ys)) u) l lo hi n before kid xs) (sym p)
      (to_right_lem before y ys (settle l n (two (map (entry_of l) before) (entry_of l kid) (entry_of l y) (map (entry_of l) ys)) u) (settle_units n (two (map (entry_of l) before) (entry_of l kid) (entry_of l y) (map (entry_of l) ys)) u)
      (settled u l lo hi n before kid y ys (rw p at h) (rw p at once) (inl thin))))
  by_pick before after (left bs x p q e) h once =
      let R = settle l n (two (map (entry_of l) bs) (entry_of l x) (entry_of l kid) []) u in
      let Q = settle_units n (two (map (entry_of l) bs) (entry_of l x) (entry_of l kid) []) u in
      let s : before ++ (kid ∷ after) ≡ bs ++ (x ∷ kid ∷ []) = rw (p, q) (append_assoc bs (x ∷ []) (kid ∷ [])) in
      subst (λ (w : Two). Repaired u (settle l n w u) (settle_units n w u) l lo hi n before kid after) (sym e)
      (subst (λ (xs : List (Kid (Shape l))). Repaired u R Q l lo hi n xs kid after) (sym p)
      (subst (λ (xs : List (Kid (Shape l))). Repaired u R Q l lo hi n (bs ++ (x ∷ [])) kid xs) (sym q)
      (to_left_lem bs x R Q
      (settled u l lo hi n bs x kid []
      (subst (λ (ks : List (Kid (Shape l))). Sub 16 u (suc l) lo hi (record { number = n; kids = ks })) s h)
      (subst (λ (ks : List (Kid (Shape l))). (j : ℕ) → times j (nums (suc l) (record { number = n; kids = ks })) ≤ 1) s once)
      (inr thin)))))

  pub repaired : (before after : List (Kid (Shape l))) → kid.key ≤ k → k < start_of hi after → Case before after
  repaired before after low high h once =
      let b : Between lo hi (map (entry_of l) before ++ (entry_of l kid ∷ map (entry_of l) after)) = rw map_append at h.0.keys in
      by_pick before after (pick l k lo hi before kid after (between_left lo hi (map (entry_of l) before) (entry_of l kid ∷ map (entry_of l) after) b) low high) h once
