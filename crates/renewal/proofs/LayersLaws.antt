-- Levels of nodes put one after the other, and the tree that they make. Assumes nothing.
use mathlib.Core.Path.{◌≡◌, refl, sym, ap, ap₂, ◌∙◌, subst}
use mathlib.Core.Bool.{cond}
use mathlib.Core.List.{List, [], ◌∷◌, ◌++◌, append-nil, append_assoc}
use Prim.Native.Nat.{ℕ, zero, suc, ◌+◌, ◌-◌, ◌^◌, ◌/◌, ◌<◌, ◌≤◌}
use native.Mathlib.Numerals.{add-one}
use native.Mathlib.Omega.{arith}
use lib.Dec.{eqb}
use lib.ListN.{drop, get_or, length, length-set, set, take}
use lib.Seq.{drop-drop}
use borrow.Author.Tests.{ne_eqb}
use Rattle.views.specs.Nodes.{Entry, entry, view}
use Rattle.views.specs.NodeCode.{entries_in}
use Rattle.tree.specs.Tree.{Table, first_key, next, put}
use Rattle.tree.specs.Step6.{top}
use Rattle.tree.specs.Rebuild.{entries_above, even_parts, layers, nodes_for, put_nodes, vacated}
use Rattle.tree.proofs.Tables.{next_put}
use Rattle.tree.proofs.EvenParts.{PartsOf, even_sixteens}
use Rattle.tree.proofs.LayerFacts.{layers_few, layers_many, layers_zero, level_next, parts_for}
use Rattle.tree.proofs.RecordsLaws.{entries_set}
use Rattle.tree.proofs.Vacated.{vacated_next}
use Rattle.renewal.specs.LayersCode.{nodes_above, HoldsAnew, HoldsVacant, LaysTree, Listed, PutsLevel, PutsLevels, PutsView}
use Rattle.renewal.proofs.NodesLaws.{holds_put, vacant_holds}

-- ---- entries in two arrays: those of a part, and the key of the first
pub part_entries : (f q n : ℕ) (ks vs : List ℕ) → f + q ≤ n → n ≤ length ks → n ≤ length vs → entries_in q (drop f ks) (drop f vs) ≡ take q (drop f (entries_in n ks vs))
part_entries zero zero n ks vs h a b = refl
part_entries zero (suc q) zero ks vs h a b = absurd (omega arith)
part_entries zero (suc q) (suc n) [] vs h a b = refl
part_entries zero (suc q) (suc n) (k ∷ ks) [] h a b = refl
part_entries zero (suc q) (suc n) (k ∷ ks) (v ∷ vs) h a b =
    ap (λ (es : List Entry). entry k v ∷ es) (part_entries zero q n ks vs (omega arith) (omega arith) (omega arith))
part_entries (suc f) q zero ks vs h a b = absurd (omega arith)
part_entries (suc f) q (suc n) [] vs h a b = absurd (omega arith)
part_entries (suc f) q (suc n) (k ∷ ks) [] h a b = absurd (omega arith)
part_entries (suc f) q (suc n) (k ∷ ks) (v ∷ vs) h a b = part_entries f q n ks vs (omega arith) (omega arith) (omega arith)

first_entry : (f n : ℕ) (ks vs : List ℕ) → f < n → n ≤ length ks → n ≤ length vs → get_or ks f 0 ≡ first_key top (drop f (entries_in n ks vs))
first_entry zero zero ks vs h a b = absurd (omega arith)
first_entry zero (suc n) [] vs h a b = absurd (omega arith)
first_entry zero (suc n) (k ∷ ks) [] h a b = absurd (omega arith)
first_entry zero (suc n) (k ∷ ks) (v ∷ vs) h a b = refl
first_entry (suc f) zero ks vs h a b = absurd (omega arith)
first_entry (suc f) (suc n) [] vs h a b = absurd (omega arith)
first_entry (suc f) (suc n) (k ∷ ks) [] h a b = absurd (omega arith)
first_entry (suc f) (suc n) (k ∷ ks) (v ∷ vs) h a b = first_entry f n ks vs (omega arith) (omega arith) (omega arith)

-- the least key under a node whose entries begin at f: 0 for the first one
abbrev pub low_at : ℕ → List Entry → ℕ
low_at f es = cond (eqb f 0) 0 (first_key top (drop f es))

pub low_is : (f n : ℕ) (ks vs : List ℕ) → f < n → n ≤ length ks → n ≤ length vs → cond (eqb f 0) 0 (get_or ks f 0) ≡ low_at f (entries_in n ks vs)
low_is f n ks vs h a b = ap (cond (eqb f 0) 0) (first_entry f n ks vs h a b)

low_next : (f q : ℕ) (es : List Entry) → 1 ≤ q → low_at (f + q) es ≡ first_key top (drop q (drop f es))
low_next f q es h = rw (ne_eqb (f + q) 0 (λ e. omega arith), drop-drop q f es)

-- ---- the loop of put_level
parts_next : (c i m : ℕ) → i < c → even_parts (c - i) m ≡ m / (c - i) ∷ even_parts (c - (i + 1)) (m - m / (c - i))
parts_next c i m h = let e : c - i ≡ suc (c - (i + 1)) = omega arith in rw e

module _ (l x n : ℕ) (es : List Entry) (sizes units : List ℕ) where
  abbrev c : ℕ
  c = nodes_for n

  -- the sizes of the parts that are left
  abbrev left : ℕ → ℕ → List ℕ
  left i f = even_parts (c - i) (n - f)

  -- the first i nodes put, of the first f entries
  pub record Putting (i f : ℕ) (counts bytes ks vs : List ℕ) : Type 0 where
    pub some : i ≤ nodes_for n
    pub within : f ≤ n
    pub parts : PartsOf 1 16 (even_parts (nodes_for n - i) (n - f)) (n - f)
    pub turned : (limit : ℕ) (t : Table) → HoldsAnew limit t sizes units
        → (u : Table) × HoldsAnew limit u counts bytes × (put_nodes l (x + i) (even_parts (nodes_for n - i) (n - f)) (drop f es) u ≡ put_nodes l x (even_parts (nodes_for n) n) es t)
    pub above : entries_in i ks vs ++ entries_above (low_at f es) (x + i) (even_parts (nodes_for n - i) (n - f)) (drop f es) ≡ entries_above 0 x (even_parts (nodes_for n) n) es
    pub numbers : length counts ≡ 256
    pub size : length bytes ≡ 52224
    pub keys : length ks ≡ 256
    pub values : length vs ≡ 256

  left_start : left 0 0 ≡ even_parts c n
  left_start = ap₂ even_parts (let e : c - 0 ≡ c = omega arith in e) (let e : n - 0 ≡ n = omega arith in e)

  pub putting_start : (ks vs : List ℕ) → 16 < n → length sizes ≡ 256 → length units ≡ 52224 → length ks ≡ 256 → length vs ≡ 256 → Putting 0 0 sizes units ks vs
  putting_start ks vs h ls lu lk lv =
      let e : n - 0 ≡ n = omega arith in
      let z : x + 0 ≡ x = omega arith in
      record {
        some = omega arith;
        within = omega arith;
        parts = rw (left_start, e) (even_sixteens n h);
        turned = λ limit t k. (t, k, ap₂ (λ (y : ℕ) (qs : List ℕ). put_nodes l y qs es t) z left_start);
        above = ap₂ (λ (y : ℕ) (qs : List ℕ). entries_above 0 y qs es) z left_start;
        numbers = ls;
        size = lu;
        keys = lk;
        values = lv;
      }

  module _ (i f q : ℕ) (counts bytes ks vs : List ℕ) (p : Putting i f counts bytes ks vs) (h : i < c) (is : q ≡ (n - f) / (c - i)) where
    left_next : left i f ≡ q ∷ left (i + 1) (f + q)
    left_next =
        parts_next c i (n - f) h
        ∙ ap (λ (k : ℕ). k ∷ even_parts (c - (i + 1)) (n - f - k)) (sym is)
        ∙ ap (λ (k : ℕ). q ∷ even_parts (c - (i + 1)) k) (let e : n - f - q ≡ n - (f + q) = omega arith in e)

    all_parts : PartsOf 1 16 (q ∷ left (i + 1) (f + q)) (n - f)
    all_parts = subst (λ (qs : List ℕ). PartsOf 1 16 qs (n - f)) left_next p.parts

    part_some : 1 ≤ q
    part_some = all_parts.0.low

    part_few : q ≤ 16
    part_few = all_parts.0.high

    pub part_within : f + q ≤ n
    part_within = omega (arith, all_parts.0.most, p.within)

    -- what the calls of the loop require
    pub node_fits : (keys values : List ℕ) → n ≤ length keys → n ≤ length values → n ≤ 4096 → x + c ≤ 256
        → (f + q ≤ length keys) × (f + q ≤ length values) × (f + q ≤ 4096) × (q ≤ 16) × (x + i < 256) × (length counts ≡ 256) × (length bytes ≡ 52224)
    node_fits keys values a b e g =
        let w = part_within in
        (omega arith, omega arith, omega arith, part_few, omega arith, p.numbers, p.size)

    pub above_fits : (keys : List ℕ) → n ≤ length keys → x + c ≤ 256 → (f < length keys) × (x + i < 256) × (i < length ks) × (i < length vs)
    above_fits keys a g = (omega (arith, part_within, part_some), omega arith, omega (arith, p.keys), omega (arith, p.values))

    abbrev rest : List ℕ
    rest = left (i + 1) (f + q)

    abbrev part : List Entry
    part = take q (drop f es)

    abbrev low : ℕ
    low = low_at f es

    y : x + (i + 1) ≡ suc (x + i)
    y = omega arith

    nodes_next : (u w : Table) → put_nodes l (x + i) (left i f) (drop f es) u ≡ w
        → put_nodes l (x + (i + 1)) rest (drop (f + q) es) (put (x + i) (view l part) u) ≡ w
    nodes_next u w e =
        ap₂ (λ (k : ℕ) (ds : List Entry). put_nodes l k rest ds (put (x + i) (view l part) u)) y (sym (drop-drop q f es))
        ∙ ap (λ (qs : List ℕ). put_nodes l (x + i) qs (drop f es) u) (sym left_next) ∙ e

    above_next : i < length ks → i < length vs
        → entries_in (i + 1) (set ks i low) (set vs i (x + i)) ++ entries_above (low_at (f + q) es) (x + (i + 1)) rest (drop (f + q) es) ≡ entries_above 0 x (even_parts c n) es
    above_next a b =
        let ds = drop q (drop f es) in
        let more : entries_in (i + 1) (set ks i low) (set vs i (x + i)) ≡ entries_in i ks vs ++ (entry low (x + i) ∷ []) = rw add-one (entries_set i low (x + i) ks vs a b) in
        let behind : entries_above (low_at (f + q) es) (x + (i + 1)) rest (drop (f + q) es) ≡ entries_above (first_key top ds) (suc (x + i)) rest ds =
        ap₂ (λ (k : ℕ) (xs : List Entry). entries_above k (x + (i + 1)) rest xs) (low_next f q es part_some) (sym (drop-drop q f es))
        ∙ ap (λ (k : ℕ). entries_above (first_key top ds) k rest ds) y in
        ap₂ (λ (xs ys : List Entry). xs ++ ys) more behind
        ∙ append_assoc (entries_in i ks vs) (entry low (x + i) ∷ []) (entries_above (first_key top ds) (suc (x + i)) rest ds)
        ∙ ap (λ (qs : List ℕ). entries_in i ks vs ++ entries_above low (x + i) qs (drop f es)) (sym left_next)
        ∙ p.above

    pub putting_next : (counts' bytes' ks' vs' : List ℕ) → c ≤ 256 → PutsView (x + i) (view l part) counts bytes counts' bytes' → ks' ≡ set ks i low → vs' ≡ set vs i (x + i)
        → Putting (i + 1) (f + q) counts' bytes' ks' vs'
    putting_next counts' bytes' ks' vs' g o ek ev =
        rw (ek, ev)
        (record {
          some = omega arith;
          within = part_within;
          parts = subst (PartsOf 1 16 rest) (let e : n - f - q ≡ n - (f + q) = omega arith in e) all_parts.1;
          turned = λ limit t k.
              let u = p.turned limit t k in
              (put (x + i) (view l part) u.0, holds_put limit (x + i) (view l part) u.0 counts bytes counts' bytes' o u.1, nodes_next u.0 _ u.2);
          above = above_next (omega (arith, p.keys)) (omega (arith, p.values));
          numbers = o.numbers;
          size = o.size;
          keys = length-set ks i low ∙ p.keys;
          values = length-set vs i (x + i) ∙ p.values;
        })

  -- with the entries in two arrays
  module _ (keys values : List ℕ) (lk : n ≤ length keys) (lv : n ≤ length values) (are : es ≡ entries_in n keys values) where
    pub putting_step : (i f : ℕ) (counts bytes ks vs counts' bytes' ks' vs' : List ℕ) → x + c ≤ 256 → i < c → Putting i f counts bytes ks vs
        → PutsView (x + i) (view l (entries_in ((n - f) / (c - i)) (drop f keys) (drop f values))) counts bytes counts' bytes'
        → ks' ≡ set ks i (cond (eqb f 0) 0 (get_or keys f 0)) → vs' ≡ set vs i (x + i) → Putting (i + 1) (f + (n - f) / (c - i)) counts' bytes' ks' vs'
    putting_step i f counts bytes ks vs counts' bytes' ks' vs' g h p o ek ev =
        let q = (n - f) / (c - i) in
        let w = part_within i f q counts bytes ks vs p h refl in
        let s = part_some i f q counts bytes ks vs p h refl in
        let e : entries_in q (drop f keys) (drop f values) ≡ take q (drop f es) = part_entries f q n keys values w lk lv ∙ ap (λ (xs : List Entry). take q (drop f xs)) (sym are) in
        let m : cond (eqb f 0) 0 (get_or keys f 0) ≡ low_at f es = low_is f n keys values (omega arith) lk lv ∙ ap (low_at f) (sym are) in
        putting_next i f q counts bytes ks vs p h refl counts' bytes' ks' vs' (omega arith)
        (subst (λ (xs : List Entry). PutsView (x + i) (view l xs) counts bytes counts' bytes') e o) (ek ∙ ap (set ks i) m) ev

  pub putting_done : (i f r : ℕ) (counts bytes ks vs : List ℕ) → c ≤ i → r ≡ c → Putting i f counts bytes ks vs → PutsLevel l x n es sizes units counts bytes ks vs r
  putting_done i f r counts bytes ks vs h e p =
      let z : c - i ≡ 0 = omega arith in
      let m : i ≡ r = omega (arith, p.some) in
      let none : left i f ≡ [] = ap (λ (k : ℕ). even_parts k (n - f)) z in
      record {
        turns = record {
          holds = λ limit t k.
              let u = p.turned limit t k in
              subst (λ (w : Table). HoldsAnew limit w counts bytes) (ap (λ (qs : List ℕ). put_nodes l (x + i) qs (drop f es) u.0) (sym none) ∙ u.2) u.1;
          numbers = p.numbers;
          size = p.size;
        };
        above = ap (λ (k : ℕ). entries_in k ks vs) (sym m) ∙ sym (append-nil (entries_in i ks vs))
            ∙ ap (λ (qs : List ℕ). entries_in i ks vs ++ entries_above (low_at f es) (x + i) qs (drop f es)) (sym none) ∙ p.above;
        count = e;
        keys = p.keys;
        values = p.values;
      }

-- ---- levels
root_alone : (more l x : ℕ) (es : List Entry) (t : Table) → length es ≤ 16 → layers more l x es t ≡ put 0 (view l es) t
root_alone zero l x es t h = layers_zero l x es t
root_alone (suc more) l x es t h = layers_few more l x es t h

-- node 0 alone
pub levels_few : (more l x : ℕ) (es : List Entry) (sizes units counts bytes : List ℕ) → length es ≤ 16 → 1 ≤ x → x ≤ 256
    → PutsView 0 (view l es) sizes units counts bytes → PutsLevels more l x es sizes units counts bytes x
levels_few more l x es sizes units counts bytes h a b p = record {
  turns = record {
    holds = λ limit t k. rw (root_alone more l x es t h) (holds_put limit 0 (view l es) t sizes units counts bytes p k);
    numbers = p.numbers;
    size = p.size;
  };
  numbers = λ t e. rw (root_alone more l x es t h) (omega (arith, next_put 0 l es t, e));
  few = b;
}

-- a level, and what is above it
pub levels_many : (more l x n r y : ℕ) (es : List Entry) (sizes units mids parts counts bytes ks vs : List ℕ) → length es ≡ n → 16 < n
    → PutsLevel l x n es sizes units mids parts ks vs r → PutsLevels more (suc l) (x + r) (entries_in r ks vs) mids parts counts bytes y
    → PutsLevels (suc more) l x es sizes units counts bytes y
levels_many more l x n r y es sizes units mids parts counts bytes ks vs len h w q =
    let g : 16 < length es = omega arith in
    let p : PutsLevel l x (length es) es sizes units mids parts ks vs r = subst (λ (m : ℕ). PutsLevel l x m es sizes units mids parts ks vs r) (sym len) w in
    let o : PutsLevels more (suc l) (x + nodes_for (length es)) (entries_above 0 x (parts_for es) es) mids parts counts bytes y =
    subst (λ (xs : List Entry). PutsLevels more (suc l) (x + nodes_for (length es)) xs mids parts counts bytes y) p.above
    (subst (λ (m : ℕ). PutsLevels more (suc l) (x + m) (entries_in r ks vs) mids parts counts bytes y) p.count q) in
    record {
      turns = record {
        holds = λ limit t k. rw (layers_many more l x es t g) (o.turns.holds limit (put_nodes l x (parts_for es) es t) (p.turns.holds limit t k));
        numbers = q.turns.numbers;
        size = q.turns.size;
      };
      numbers = λ t e. o.numbers (put_nodes l x (parts_for es) es t) (level_next l x es t e) ∙ ap next (sym (layers_many more l x es t g));
      few = q.few;
    }

-- more than 16 entries of a level below the root, and the level above them
pub level_step : (l n x r : ℕ) → l ≤ 2 → 16 < n → n ≤ 16 ^ (3 - l) → x + nodes_above (2 - l) n ≤ 256 → r ≡ nodes_for n
    → (l < 2) × (r ≤ 16 ^ (3 - (l + 1))) × (x + r + nodes_above (2 - (l + 1)) r ≤ 256) × (n ≤ 4096) × (x + nodes_for n ≤ 256)
level_step zero n x r h g b k e = rw e (omega arith, omega arith, omega arith, omega arith, omega arith)
level_step (suc zero) n x r h g b k e = rw e (omega arith, omega arith, omega arith, omega arith, omega arith)
level_step (suc (suc zero)) n x r h g b k e = absurd (omega arith)
level_step (suc (suc (suc l))) n x r h g b k e = absurd (omega arith)

pub levels_up : (l x n r y : ℕ) (es : List Entry) (sizes units mids parts counts bytes ks vs : List ℕ) → l < 2 → length es ≡ n → 16 < n
    → PutsLevel l x n es sizes units mids parts ks vs r → PutsLevels (2 - (l + 1)) (l + 1) (x + r) (entries_in r ks vs) mids parts counts bytes y
    → PutsLevels (2 - l) l x es sizes units counts bytes y
levels_up zero x n r y es sizes units mids parts counts bytes ks vs low = levels_many 1 0 x n r y es sizes units mids parts counts bytes ks vs
levels_up (suc zero) x n r y es sizes units mids parts counts bytes ks vs low = levels_many 0 1 x n r y es sizes units mids parts counts bytes ks vs
levels_up (suc (suc l)) x n r y es sizes units mids parts counts bytes ks vs low = absurd (omega arith)

-- ---- the tree
pub lays_tree : (limit : ℕ) (t : Table) (es : List Entry) (lens slots sizes units counts bytes : List ℕ) (r : ℕ) → HoldsVacant limit lens slots sizes units
    → PutsLevels 2 0 1 es sizes units counts bytes r → Listed limit t lens slots → LaysTree limit t es counts bytes r
lays_tree limit t es lens slots sizes units counts bytes r v p h = record {
  holds = p.turns.holds limit (vacated t) (vacant_holds limit t lens slots sizes units h v);
  numbers = p.numbers (vacated t) (vacated_next t);
  few = p.few;
}
