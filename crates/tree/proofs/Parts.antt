-- Two shapes joined, and a shape cut in two at m. Assumes nothing.
use mathlib.Core.Path.{◌≡◌, refl, sym, ap, ◌∙◌}
use mathlib.Core.List.{List, [], ◌∷◌, ◌++◌, map}
use Prim.Native.Nat.{ℕ, zero, suc, ◌+◌, ◌-◌, ◌<◌, ◌≤◌}
use native.Mathlib.Omega.{arith}
use lib.ListN.{length, take, drop, take-append-drop, length-take, length-drop, length-map}
use Rattle.lists.proofs.Flats.{flat_append, map_append, map_take, map_drop}
use Rattle.views.specs.Nodes.{view}
use Rattle.tree.specs.Tree.{Table, at, first_key}
use Rattle.tree.specs.Step6.{times}
use Rattle.tree.proofs.Entries.{Between, between_lt, first_key_lem, between_left, between_right}
use Rattle.tree.proofs.Shape.{Kid, Shape, number, entry_of, tops, rest, nums, recs, nums_of, recs_of, start_of, Starts, Kids, Inner, Sub, times_append, kids_left, kids_right, kids_join, start_first, Agree, inner_frame}

-- ---- joined under the first one's number
abbrev pub join_s : (l : ℕ) → Shape l → Shape l → Shape l
join_s zero x y = record { number = x.number; entries = x.entries ++ y.entries }
join_s (suc l) x y = record { number = x.number; kids = x.kids ++ y.kids }

pub join_number : (l : ℕ) (x y : Shape l) → number l (join_s l x y) ≡ number l x
join_number zero x y = refl
join_number (suc l) x y = refl

pub join_tops : (l : ℕ) (x y : Shape l) → tops l (join_s l x y) ≡ tops l x ++ tops l y
join_tops zero x y = refl
join_tops (suc l) x y = map_append (entry_of l) x.kids y.kids

pub join_recs : (l : ℕ) (x y : Shape l) → recs l (join_s l x y) ≡ recs l x ++ recs l y
join_recs zero x y = refl
join_recs (suc l) x y = flat_append (λ (z : Kid (Shape l)). recs l z.sub) x.kids y.kids

pub join_rest : (l j : ℕ) (x y : Shape l) → times j (rest l (join_s l x y)) ≡ times j (rest l x) + times j (rest l y)
join_rest zero j x y = refl
join_rest (suc l) j x y =
    ap (times j) (flat_append (λ (z : Kid (Shape l)). nums l z.sub) x.kids y.kids) ∙ times_append j (nums_of l x.kids) (nums_of l y.kids)

starts_append : {A : Type 0} (lo : ℕ) (a b : List (Kid A)) → Starts lo a → Starts lo (a ++ b)
starts_append lo [] b h = absurd h
starts_append lo (x ∷ a) b h = h

starts_is : {A : Type 0} (k hi : ℕ) (a : List (Kid A)) → Starts k a → start_of hi a ≡ k
starts_is k hi [] h = absurd h
starts_is k hi (x ∷ a) h = h

pub starts_some : {A : Type 0} (y : ℕ) (xs : List (Kid A)) → Starts y xs → 1 ≤ length xs
starts_some y [] h = absurd h
starts_some y (x ∷ xs) h = omega arith

pub join_inner : (u : Table) (l lo mid hi : ℕ) (x y : Shape l) → Inner u l lo mid x → Inner u l mid hi y → Inner u l lo hi (join_s l x y)
join_inner u zero lo mid hi x y g h = tt
join_inner u (suc l) lo mid hi x y g h = (
  starts_append lo x.kids y.kids g.0,
  kids_join (Sub 16 u l) hi x.kids y.kids (rw (starts_is mid hi y.kids h.0) g.1) h.1,
)

-- ---- cut at m, under numbers n and o
abbrev pub lower_s : (l m : ℕ) → ℕ → Shape l → Shape l
lower_s zero m n s = record { number = n; entries = take m s.entries }
lower_s (suc l) m n s = record { number = n; kids = take m s.kids }

abbrev pub upper_s : (l m : ℕ) → ℕ → Shape l → Shape l
upper_s zero m o s = record { number = o; entries = drop m s.entries }
upper_s (suc l) m o s = record { number = o; kids = drop m s.kids }

pub lower_number : (l m n : ℕ) (s : Shape l) → number l (lower_s l m n s) ≡ n
lower_number zero m n s = refl
lower_number (suc l) m n s = refl

pub upper_number : (l m o : ℕ) (s : Shape l) → number l (upper_s l m o s) ≡ o
upper_number zero m o s = refl
upper_number (suc l) m o s = refl

pub lower_tops : (l m n : ℕ) (s : Shape l) → tops l (lower_s l m n s) ≡ take m (tops l s)
lower_tops zero m n s = refl
lower_tops (suc l) m n s = map_take (entry_of l) m s.kids

pub upper_tops : (l m o : ℕ) (s : Shape l) → tops l (upper_s l m o s) ≡ drop m (tops l s)
upper_tops zero m o s = refl
upper_tops (suc l) m o s = map_drop (entry_of l) m s.kids

pub cut_recs : (l m n o : ℕ) (s : Shape l) → recs l (lower_s l m n s) ++ recs l (upper_s l m o s) ≡ recs l s
cut_recs zero m n o s = take-append-drop m s.entries
cut_recs (suc l) m n o s =
    sym (flat_append (λ (x : Kid (Shape l)). recs l x.sub) (take m s.kids) (drop m s.kids)) ∙ ap (recs_of l) (take-append-drop m s.kids)

pub cut_rest : (l m n o j : ℕ) (s : Shape l) → times j (rest l (lower_s l m n s)) + times j (rest l (upper_s l m o s)) ≡ times j (rest l s)
cut_rest zero m n o j s = refl
cut_rest (suc l) m n o j s =
    sym (times_append j (nums_of l (take m s.kids)) (nums_of l (drop m s.kids)))
    ∙ ap (times j) (sym (flat_append (λ (x : Kid (Shape l)). nums l x.sub) (take m s.kids) (drop m s.kids)) ∙ ap (nums_of l) (take-append-drop m s.kids))

starts_take : {A : Type 0} (lo m : ℕ) (xs : List (Kid A)) → 0 < m → Starts lo xs → Starts lo (take m xs)
starts_take lo zero xs g h = absurd (omega arith)
starts_take lo (suc m) [] g h = h
starts_take lo (suc m) (x ∷ xs) g h = h

starts_at_lem : {A : Type 0} (d : ℕ) (xs : List (Kid A)) → 0 < length xs → Starts (start_of d xs) xs
starts_at_lem d [] h = absurd (omega arith)
starts_at_lem d (x ∷ xs) h = refl

inner_cut : (u : Table) (l lo hi m n o : ℕ) (s : Shape l) → 0 < m → m < length (tops l s) → Inner u l lo hi s
    → Inner u l lo (first_key hi (drop m (tops l s))) (lower_s l m n s) × Inner u l (first_key hi (drop m (tops l s))) hi (upper_s l m o s)
inner_cut u zero lo hi m n o s p g h = (tt, tt)
inner_cut u (suc l) lo hi m n o s p g h =
    let ks = s.kids in
    let a : Kids (Sub 16 u l) hi (take m ks ++ drop m ks) = rw (take-append-drop m ks) h.1 in
    let pos : 0 < length (drop m ks) = rw (length-drop) (omega (arith, length-map ks (entry_of l))) in
    let d : first_key hi (drop m (map (entry_of l) ks)) ≡ start_of hi (drop m ks) = rw (← map_drop, start_first) in
    rw d (
      (starts_take lo m ks p h.0, kids_left (Sub 16 u l) hi (take m ks) (drop m ks) a),
      (starts_at_lem hi (drop m ks) pos, kids_right (Sub 16 u l) hi (take m ks) (drop m ks) a),
    )

pub record Cut (u : Table) (l lo hi m n o mid : ℕ) (s : Shape l) : Type 0 where
  pub left : Sub 16 u l lo mid (lower_s l m n s)
  pub right : Sub 16 u l mid hi (upper_s l m o s)
  pub over : lo < mid
  pub under : mid < hi

pub cut : (t u : Table) (l lo hi m n o : ℕ) (s : Shape l) → 0 < m → m < length (tops l s) → m ≤ 16 → length (tops l s) ≤ 16 + m → Between lo hi (tops l s) → Inner t l lo hi s
    → at u n ≡ view l (take m (tops l s)) → at u o ≡ view l (drop m (tops l s)) → Agree t u (rest l s)
    → Cut u l lo hi m n o (first_key 0 (drop m (tops l s))) s
cut t u l lo hi m n o s pos g few size keys inner p q r =
    let es = tops l s in
    let ld : length (drop m es) ≡ length es - m = length-drop m es in
    let lt : length (take m es) ≤ 16 = rw length-take (omega arith) in
    let lt' : 0 < length (take m es) = rw length-take (omega arith) in
    let ld' : 0 < length (drop m es) = omega arith in
    let e : first_key hi (drop m es) ≡ first_key 0 (drop m es) = first_key_lem hi 0 (drop m es) ld' in
    let b : Between lo hi (take m es ++ drop m es) = rw take-append-drop keys in
    let bl : Between lo (first_key 0 (drop m es)) (take m es) = rw e at (between_left lo hi (take m es) (drop m es) b) in
    let br : Between (first_key 0 (drop m es)) hi (drop m es) = rw e at (between_right lo hi (take m es) (drop m es) b) in
    let i = rw e at (inner_cut u l lo hi m n o s pos g (inner_frame t u l lo hi s r inner)) in
    record {
      left = (record { is = rw (lower_number, lower_tops) p; keys = rw lower_tops bl; size = rw lower_tops lt }, i.0);
      right = (record { is = rw (upper_number, upper_tops) q; keys = rw upper_tops br; size = rw upper_tops (omega arith) }, i.1);
      over = between_lt lo (first_key 0 (drop m es)) (take m es) lt' bl;
      under = between_lt (first_key 0 (drop m es)) hi (drop m es) ld' br;
    }
