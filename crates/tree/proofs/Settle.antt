-- Two neighbours that join or share their entries. Assumes nothing.
use mathlib.Core.Path.{◌≡◌, refl, sym, ap, ◌∙◌, subst}
use mathlib.Core.Logic.{⊎_elim}
use mathlib.Core.List.{List, [], ◌∷◌, ◌++◌, map, append-nil}
use Prim.Native.Nat.{ℕ, suc, ◌+◌, ◌<◌, ◌≤◌}
use native.Mathlib.Omega.{arith}
use lib.ListN.{length, take, drop, length-append, length-map}
use borrow.Author.Tests.{eq-eqb, ne_eqb}
use Rattle.lists.proofs.Flats.{map_append}
use Rattle.lists.proofs.Tests.{same_or_not}
use Rattle.views.specs.Nodes.{Entry, entry, View, freed, view}
use Rattle.tree.specs.Tree.{there, Table, at, put, first_key, nodes}
use Rattle.tree.specs.Step6.{times}
use Rattle.tree.specs.Delete.{join, share}
use Rattle.tree.proofs.Entries.{Between, between_le, between_append, between_right}
use Rattle.tree.proofs.Tables.{hit, at_same, at_other, there_old}
use Rattle.tree.proofs.Shape.{Kid, Shape, number, entry_of, tops, rest, nums, recs, nums_of, recs_of, start_of, Inner, Sub, times_append, hit_same, hit_zero, kids_right, inner_frame}
use Rattle.tree.proofs.Children.{nums_of_three, recs_of_three}
use Rattle.tree.proofs.Least.{nodes_old, nodes_gone}
use Rattle.tree.proofs.Parts.{join_s, join_number, join_tops, join_recs, join_rest, join_inner, lower_s, upper_s, lower_number, upper_number, cut_recs, cut_rest, Cut, cut}
use Rattle.tree.proofs.Becomes.{Becomes, replaced}

-- a number is freed
pub there_gone : (n j : ℕ) (t : Table) → there (at t n) ≡ 1 → there (at (put n freed t) j) + hit n j ≡ there (at t j)
there_gone n j t h =
    ⊎_elim
    (λ (e : n ≡ j). rw (← e, at_same, eq-eqb n n refl) (sym h))
    (λ (e : n ≡ j → ⊥). rw (at_other n j freed t e, ne_eqb n j e) (omega arith))
    (same_or_not n j)

recs_swap : (l : ℕ) (bs olds mids ds : List (Kid (Shape l))) → recs_of l mids ≡ recs_of l olds → recs_of l (bs ++ (mids ++ ds)) ≡ recs_of l (bs ++ (olds ++ ds))
recs_swap l bs olds mids ds e =
    recs_of_three l bs mids ds ∙ ap (λ (rs : List Entry). recs_of l bs ++ (rs ++ recs_of l ds)) e ∙ sym (recs_of_three l bs olds ds)

module _ (t : Table) (l lo hi n : ℕ) (bs : List (Kid (Shape l))) (a b : Kid (Shape l)) (ds : List (Kid (Shape l)))
    (h : Sub 16 t (suc l) lo hi (record { number = n; kids = bs ++ (a ∷ b ∷ ds) }))
    (once : (j : ℕ) → times j (nums (suc l) (record { number = n; kids = bs ++ (a ∷ b ∷ ds) })) ≤ 1) where
  abbrev x : Shape l
  x = a.sub

  abbrev y : Shape l
  y = b.sub

  abbrev J : Shape l
  J = join_s l a.sub b.sub

  abbrev A : ℕ
  A = number l a.sub

  abbrev B : ℕ
  B = number l b.sub

  two_nums : (j : ℕ) → times j (nums_of l (a ∷ b ∷ [])) ≡ times j (nums l x) + times j (nums l y)
  two_nums j = omega (arith, times_append j (nums l x) (nums l y ++ []), times_append j (nums l y) [])

  -- no number is met twice
  tally : (j : ℕ) → hit n j + ((hit A j + times j (rest l x)) + (hit B j + times j (rest l y))) ≤ 1
  tally j = omega (arith, once j, nums_of_three l j bs (a ∷ b ∷ []) ds, two_nums j)

  pub apart_n_a : n ≡ A → ⊥
  apart_n_a e = omega (arith, tally A, hit_same n A e, hit_same A A refl)

  pub apart_n_b : n ≡ B → ⊥
  apart_n_b e = omega (arith, tally B, hit_same n B e, hit_same B B refl)

  pub apart_a_b : A ≡ B → ⊥
  apart_a_b e = omega (arith, tally B, hit_same A B e, hit_same B B refl)

  rest_n : (j : ℕ) → 0 < times j (rest l J) → n ≡ j → ⊥
  rest_n j p e = omega (arith, tally j, join_rest l j x y, hit_same n j e)

  rest_a : (j : ℕ) → 0 < times j (rest l J) → A ≡ j → ⊥
  rest_a j p e = omega (arith, tally j, join_rest l j x y, hit_same A j e)

  rest_b : (j : ℕ) → 0 < times j (rest l J) → B ≡ j → ⊥
  rest_b j p e = omega (arith, tally j, join_rest l j x y, hit_same B j e)

  pub sub_a : Sub 16 t l a.key b.key x
  sub_a = (kids_right (Sub 16 t l) hi bs (a ∷ b ∷ ds) h.1.1).0

  pub sub_b : Sub 16 t l b.key (start_of hi ds) y
  sub_b = (kids_right (Sub 16 t l) hi bs (a ∷ b ∷ ds) h.1.1).1.0

  pub there_a : there (at t A) ≡ 1
  there_a = ap there sub_a.0.is

  pub there_b : there (at t B) ≡ 1
  there_b = ap there sub_b.0.is

  pub there_n : there (at t n) ≡ 1
  there_n = ap there h.0.is

  pub joined_keys : Between a.key (start_of hi ds) (tops l J)
  joined_keys = rw join_tops (between_append a.key b.key (start_of hi ds) (tops l x) (tops l y) sub_a.0.keys sub_b.0.keys)

  joined_inner : Inner t l a.key (start_of hi ds) J
  joined_inner = join_inner t l a.key b.key (start_of hi ds) x y sub_a.1 sub_b.1

  proper : a.key < start_of hi ds
  proper =
      let k : Between lo hi (map (entry_of l) bs ++ (entry_of l a ∷ entry_of l b ∷ map (entry_of l) ds)) = rw map_append at h.0.keys in
      let r = between_right lo hi (map (entry_of l) bs) (entry_of l a ∷ entry_of l b ∷ map (entry_of l) ds) k in
      omega (arith, r.1.0, between_le b.key (start_of hi ds) (tops l y) sub_b.0.keys)

  pub old_size : length bs + suc (suc (length ds)) ≤ 16
  old_size = omega (arith, h.0.size, length-map (bs ++ (a ∷ b ∷ ds)) (entry_of l), length-append bs (a ∷ b ∷ ds))

  -- ---- together 16 or fewer
  module _ (es : List Entry) (e : es ≡ tops l J) (few : length es ≤ 16) where
    abbrev join_t : Table
    join_t = join l n (map (entry_of l) bs) (entry_of l a) (entry_of l b) (map (entry_of l) ds) es t

    joined_is : at join_t n ≡ view (suc l) (map (entry_of l) (bs ++ (record { key = a.key; sub = J } ∷ ds)))
    unfolding join
    joined_is =
        at_same n (view (suc l) (map (entry_of l) bs ++ (entry_of l a ∷ map (entry_of l) ds))) (put B freed (put A (view l es) t))
        ∙ rw (map_append (entry_of l) bs (record { key = a.key; sub = J } ∷ ds), join_number)

    joined_far : (j : ℕ) → (n ≡ j → ⊥) → (A ≡ j → ⊥) → (B ≡ j → ⊥) → at join_t j ≡ at t j
    unfolding join
    joined_far j p q r =
        at_other n j (view (suc l) (map (entry_of l) bs ++ (entry_of l a ∷ map (entry_of l) ds))) (put B freed (put A (view l es) t)) p
        ∙ at_other B j freed (put A (view l es) t) r ∙ at_other A j (view l es) t q

    joined_a : at join_t A ≡ view l es
    unfolding join
    joined_a =
        at_other n A (view (suc l) (map (entry_of l) bs ++ (entry_of l a ∷ map (entry_of l) ds))) (put B freed (put A (view l es) t)) apart_n_a
        ∙ at_other B A freed (put A (view l es) t) (λ e. apart_a_b (sym e)) ∙ at_same A (view l es) t

    joined_there : (j : ℕ) → there (at join_t j) + hit B j ≡ there (at t j)
    unfolding join
    joined_there j =
        let u₁ = put A (view l es) t in
        let u₂ = put B freed u₁ in
        let p₁ : (i : ℕ) → there (at u₁ i) ≡ there (at t i) = λ i. there_old A i l es t there_a in
        let p₂ : (i : ℕ) → there (at u₂ i) + hit B i ≡ there (at u₁ i) = λ i. there_gone B i u₁ (p₁ B ∙ there_b) in
        let z : hit B n ≡ 0 = omega (arith, tally n, hit_same n n refl) in
        omega (
          arith,
          p₁ j,
          p₂ j,
          p₁ n,
          p₂ n,
          there_n,
          there_old n j (suc l) (map (entry_of l) bs ++ (entry_of l a ∷ map (entry_of l) ds)) u₂ (omega (arith, p₁ n, p₂ n, there_n)),
        )

    pub join_nodes : nodes join_t + 1 ≡ nodes t
    unfolding join
    join_nodes =
        let u₁ = put A (view l es) t in
        let u₂ = put B freed u₁ in
        let p₁ : (i : ℕ) → there (at u₁ i) ≡ there (at t i) = λ i. there_old A i l es t there_a in
        let p₂ : (i : ℕ) → there (at u₂ i) + hit B i ≡ there (at u₁ i) = λ i. there_gone B i u₁ (p₁ B ∙ there_b) in
        let z : hit B n ≡ 0 = omega (arith, tally n, hit_same n n refl) in
        omega (
          arith,
          nodes_old A l es t there_a,
          nodes_gone B u₁ (p₁ B ∙ there_b),
          nodes_old n (suc l) (map (entry_of l) bs ++ (entry_of l a ∷ map (entry_of l) ds)) u₂ (omega (arith, p₁ n, p₂ n, there_n)),
        )

    pub joins : Becomes (λ xs. xs) t join_t (suc l) lo hi (record { number = n; kids = bs ++ (a ∷ b ∷ ds) })
        (record { number = n; kids = bs ++ (record { key = a.key; sub = J } ∷ ds) })
    joins =
        let mid : Kid (Shape l) = record { key = a.key; sub = J } in
        let u = join_t in
        let c : (j : ℕ) → times j (nums_of l (mid ∷ [])) ≡ hit A j + (times j (rest l x) + times j (rest l y))
        = λ j. omega (arith, times_append j (nums l J) [], join_rest l j x y, ap (λ (i : ℕ). hit i j) (join_number l x y)) in
        replaced (λ xs. xs) t u l lo hi n a.key bs (a ∷ b ∷ []) (mid ∷ []) ds h once refl refl joined_is
        (omega (arith, old_size, length-map (bs ++ (mid ∷ ds)) (entry_of l), length-append bs (mid ∷ ds)))
        (omega arith, proper) (
          (
            record { is = rw join_number (joined_a ∙ ap (view l) e); keys = joined_keys; size = subst (λ (ys : List Entry). length ys ≤ 16) e few },
            inner_frame t u l a.key (start_of hi ds) J (λ j p. joined_far j (rest_n j p) (rest_a j p) (rest_b j p)) joined_inner,
          ),
          tt,
        )
        (λ j. omega (arith, c j, two_nums j, joined_there j))
        (λ j p z. joined_far j p (hit_zero A j (omega (arith, two_nums j))) (hit_zero B j (omega (arith, two_nums j))))
        (recs_swap l bs (a ∷ b ∷ []) (mid ∷ []) ds (append-nil (recs l J) ∙ join_recs l x y ∙ ap (λ (rs : List Entry). recs l x ++ rs) (sym (append-nil (recs l y)))))

  -- ---- the first m stay in the left one
  module _ (es : List Entry) (e : es ≡ tops l J) (m : ℕ) (pos : 0 < m) (lt : m < length es) (few : m ≤ 16) (size : length es ≤ 16 + m) where
    abbrev mid : ℕ
    mid = first_key 0 (drop m es)

    abbrev share_t : Table
    share_t = share l n m (map (entry_of l) bs) (entry_of l a) (entry_of l b) (map (entry_of l) ds) es t

    abbrev top : View
    top = view (suc l) (map (entry_of l) bs ++ (entry_of l a ∷ entry (first_key 0 (drop m es)) B ∷ map (entry_of l) ds))

    abbrev low : Kid (Shape l)
    low = record { key = a.key; sub = lower_s l m A J }

    abbrev high : Kid (Shape l)
    high = record { key = first_key 0 (drop m es); sub = upper_s l m B J }

    shared_is : at share_t n ≡ view (suc l) (map (entry_of l) (bs ++ (low ∷ high ∷ ds)))
    unfolding share
    shared_is =
        at_same n top (put B (view l (drop m es)) (put A (view l (take m es)) t))
        ∙ rw (map_append (entry_of l) bs (low ∷ high ∷ ds), lower_number, upper_number)

    shared_far : (j : ℕ) → (n ≡ j → ⊥) → (A ≡ j → ⊥) → (B ≡ j → ⊥) → at share_t j ≡ at t j
    unfolding share
    shared_far j p q r =
        at_other n j top (put B (view l (drop m es)) (put A (view l (take m es)) t)) p
        ∙ at_other B j (view l (drop m es)) (put A (view l (take m es)) t) r ∙ at_other A j (view l (take m es)) t q

    shared_a : at share_t A ≡ view l (take m es)
    unfolding share
    shared_a =
        at_other n A top (put B (view l (drop m es)) (put A (view l (take m es)) t)) apart_n_a
        ∙ at_other B A (view l (drop m es)) (put A (view l (take m es)) t) (λ e. apart_a_b (sym e)) ∙ at_same A (view l (take m es)) t

    shared_b : at share_t B ≡ view l (drop m es)
    unfolding share
    shared_b =
        at_other n B top (put B (view l (drop m es)) (put A (view l (take m es)) t)) apart_n_b
        ∙ at_same B (view l (drop m es)) (put A (view l (take m es)) t)

    shared_there : (j : ℕ) → there (at share_t j) ≡ there (at t j)
    unfolding share
    shared_there j =
        let u₁ = put A (view l (take m es)) t in
        let u₂ = put B (view l (drop m es)) u₁ in
        let p₁ : (i : ℕ) → there (at u₁ i) ≡ there (at t i) = λ i. there_old A i l (take m es) t there_a in
        let p₂ : (i : ℕ) → there (at u₂ i) ≡ there (at t i) = λ i. there_old B i l (drop m es) u₁ (p₁ B ∙ there_b) ∙ p₁ i in
        there_old n j (suc l) (map (entry_of l) bs ++ (entry_of l a ∷ entry (first_key 0 (drop m es)) B ∷ map (entry_of l) ds)) u₂ (p₂ n ∙ there_n) ∙ p₂ j

    pub share_nodes : nodes share_t ≡ nodes t
    unfolding share
    share_nodes =
        let u₁ = put A (view l (take m es)) t in
        let u₂ = put B (view l (drop m es)) u₁ in
        let p₁ : (i : ℕ) → there (at u₁ i) ≡ there (at t i) = λ i. there_old A i l (take m es) t there_a in
        let p₂ : (i : ℕ) → there (at u₂ i) ≡ there (at t i) = λ i. there_old B i l (drop m es) u₁ (p₁ B ∙ there_b) ∙ p₁ i in
        nodes_old n (suc l) (map (entry_of l) bs ++ (entry_of l a ∷ entry (first_key 0 (drop m es)) B ∷ map (entry_of l) ds)) u₂ (p₂ n ∙ there_n)
        ∙ nodes_old B l (drop m es) u₁ (p₁ B ∙ there_b) ∙ nodes_old A l (take m es) t there_a

    pub is_cut_lem : Cut share_t l a.key (start_of hi ds) m A B mid J
    is_cut_lem =
        subst (λ (ys : List Entry). Cut share_t l a.key (start_of hi ds) m A B (first_key 0 (drop m ys)) J) (sym e)
        (cut t share_t l a.key (start_of hi ds) m A B J pos (subst (λ (ys : List Entry). m < length ys) e lt) few (subst (λ (ys : List Entry). length ys ≤ 16 + m) e size)
        joined_keys joined_inner (shared_a ∙ ap (λ (ys : List Entry). view l (take m ys)) e) (shared_b ∙ ap (λ (ys : List Entry). view l (drop m ys)) e)
        (λ j p. shared_far j (rest_n j p) (rest_a j p) (rest_b j p)))

    pub shares : Becomes (λ xs. xs) t share_t (suc l) lo hi (record { number = n; kids = bs ++ (a ∷ b ∷ ds) })
        (record { number = n; kids = bs ++ (low ∷ high ∷ ds) })
    shares =
        let C = is_cut_lem in
        let c : (j : ℕ) → times j (nums_of l (low ∷ high ∷ [])) ≡ times j (nums l x) + times j (nums l y)
        = λ j. omega (
          arith,
          times_append j (nums l (lower_s l m A J)) (nums l (upper_s l m B J) ++ []),
          times_append j (nums l (upper_s l m B J)) [],
          cut_rest l m A B j J,
          join_rest l j x y,
          ap (λ (i : ℕ). hit i j) (lower_number l m A J),
          ap (λ (i : ℕ). hit i j) (upper_number l m B J),
        ) in
        replaced (λ xs. xs) t share_t l lo hi n a.key bs (a ∷ b ∷ []) (low ∷ high ∷ []) ds h once refl refl shared_is
        (omega (arith, old_size, length-map (bs ++ (low ∷ high ∷ ds)) (entry_of l), length-append bs (low ∷ high ∷ ds)))
        (omega arith, (C.over, C.under))
        (C.left, (C.right, tt))
        (λ j. omega (arith, c j, two_nums j, shared_there j))
        (λ j p z. shared_far j p (hit_zero A j (omega (arith, two_nums j))) (hit_zero B j (omega (arith, two_nums j))))
        (recs_swap l bs (a ∷ b ∷ []) (low ∷ high ∷ []) ds
        (ap (λ (rs : List Entry). recs l (lower_s l m A J) ++ rs) (append-nil (recs l (upper_s l m B J)))
        ∙ cut_recs l m A B J ∙ join_recs l x y ∙ ap (λ (rs : List Entry). recs l x ++ rs) (sym (append-nil (recs l y)))))
