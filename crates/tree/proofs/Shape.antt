-- A tree with a shape: what a table holds under a node, by the level. Assumes nothing.
use mathlib.Core.Path.{◌≡◌, refl, ◌∙◌}
use mathlib.Core.Logic.{⊎_elim}
use mathlib.Core.List.{List, [], ◌∷◌, ◌++◌, map}
use Prim.Native.Nat.{ℕ, zero, suc, ◌+◌, ◌<◌, ◌≤◌}
use native.Mathlib.Omega.{arith}
use lib.Dec.{eqb}
use lib.ListN.{length}
use borrow.Author.Tests.{eq-eqb, ne_eqb, le-leb, lt-leb}
use Rattle.lists.specs.Lists.{flat}
use Rattle.views.specs.Nodes.{Entry, entry, View, untouched, freed, broken, view}
use Rattle.tree.specs.Tree.{there, Table, at, below, first_key}
use Rattle.tree.specs.Step6.{times}
use Rattle.lists.proofs.Tests.{below_or_not, same_or_not}
use Rattle.lists.proofs.Filters.{count_append}
use Rattle.tree.proofs.Entries.{Between, between_down, between_append}
use Rattle.tree.proofs.Tables.{hit}

pub record Leaf : Type 0 where
  pub number : ℕ
  pub entries : List Entry

pub record Kid (A : Type 0) : Type 0 where
  pub key : ℕ
  pub sub : A

pub record Branch (A : Type 0) : Type 0 where
  pub number : ℕ
  pub kids : List (Kid A)

abbrev pub Shape : ℕ → Type 0
Shape zero = Leaf
Shape (suc l) = Branch (Shape l)

abbrev pub number : (l : ℕ) → Shape l → ℕ
number zero s = s.number
number (suc l) s = s.number

abbrev pub entry_of : (l : ℕ) → Kid (Shape l) → Entry
entry_of l x = entry x.key (number l x.sub)

-- the entries of the top node
abbrev pub tops : (l : ℕ) → Shape l → List Entry
tops zero s = s.entries
tops (suc l) s = map (entry_of l) s.kids

-- all node numbers, and all records from left to right
abbrev pub rest : (l : ℕ) → Shape l → List ℕ
rest zero s = []
rest (suc l) s = flat (λ (x : Kid (Shape l)). number l x.sub ∷ rest l x.sub) s.kids

abbrev pub nums : (l : ℕ) → Shape l → List ℕ
nums l s = number l s ∷ rest l s

abbrev pub recs : (l : ℕ) → Shape l → List Entry
recs zero s = s.entries
recs (suc l) s = flat (λ (x : Kid (Shape l)). recs l x.sub) s.kids

abbrev pub nums_of : (l : ℕ) → List (Kid (Shape l)) → List ℕ
nums_of l = flat (λ (x : Kid (Shape l)). nums l x.sub)

abbrev pub recs_of : (l : ℕ) → List (Kid (Shape l)) → List Entry
recs_of l = flat (λ (x : Kid (Shape l)). recs l x.sub)

abbrev pub start_of : {A : Type 0} → ℕ → List (Kid A) → ℕ
start_of hi [] = hi
start_of hi (x ∷ xs) = x.key

abbrev pub Starts : {A : Type 0} → ℕ → List (Kid A) → Type 0
Starts lo [] = ⊥
Starts lo (x ∷ xs) = x.key ≡ lo

abbrev pub Kids : {A : Type 0} → (ℕ → ℕ → A → Type 0) → ℕ → List (Kid A) → Type 0
Kids P hi [] = Unit {0}
Kids P hi (x ∷ xs) = P x.key (start_of hi xs) x.sub × Kids P hi xs

-- the table has the top node; its keys rise from lo to below hi, and are at most c
pub record Held (c : ℕ) (t : Table) (l lo hi : ℕ) (s : Shape l) : Type 0 where
  pub is : at t (number l s) ≡ view l (tops l s)
  pub keys : Between lo hi (tops l s)
  pub size : length (tops l s) ≤ c

-- and what is below
abbrev pub Inner : Table → (l lo hi : ℕ) → Shape l → Type 0
Inner t zero lo hi s = Unit {0}
Inner t (suc l) lo hi s = Starts lo s.kids × Kids (λ (a b : ℕ) (x : Shape l). Held 16 t l a b x × Inner t l a b x) hi s.kids

abbrev pub Sub : ℕ → Table → (l lo hi : ℕ) → Shape l → Type 0
Sub c t l lo hi s = Held c t l lo hi s × Inner t l lo hi s

-- how often a number stands among others
pub times_append : (m : ℕ) (a b : List ℕ) → times m (a ++ b) ≡ times m a + times m b
times_append m a b = count_append (λ (n : ℕ). eqb n m) a b

pub hit_same : (n m : ℕ) → n ≡ m → hit n m ≡ 1
hit_same n m e = rw (eq-eqb n m e)

pub hit_other : (n m : ℕ) → (n ≡ m → ⊥) → hit n m ≡ 0
hit_other n m h = rw (ne_eqb n m h)

pub hit_zero : (n m : ℕ) → hit n m ≡ 0 → n ≡ m → ⊥
hit_zero n m h e = omega (arith, hit_same n m e)

module _ {A : Type 0} (P : ℕ → ℕ → A → Type 0) where
  pub kids_left : (hi : ℕ) (a b : List (Kid A)) → Kids P hi (a ++ b) → Kids P (start_of hi b) a
  kids_left hi [] b h = tt
  kids_left hi (x ∷ []) b h = (h.0, tt)
  kids_left hi (x ∷ y ∷ a) b h = (h.0, kids_left hi (y ∷ a) b h.1)

  pub kids_right : (hi : ℕ) (a b : List (Kid A)) → Kids P hi (a ++ b) → Kids P hi b
  kids_right hi [] b h = h
  kids_right hi (x ∷ a) b h = kids_right hi a b h.1

  pub kids_join : (hi : ℕ) (a b : List (Kid A)) → Kids P (start_of hi b) a → Kids P hi b → Kids P hi (a ++ b)
  kids_join hi [] b g h = h
  kids_join hi (x ∷ []) b g h = (g.0, h)
  kids_join hi (x ∷ y ∷ a) b g h = (g.0, kids_join hi (y ∷ a) b g.1 h)

pub start_first : (l hi : ℕ) (b : List (Kid (Shape l))) → first_key hi (map (entry_of l) b) ≡ start_of hi b
start_first l hi [] = refl
start_first l hi (x ∷ b) = refl

-- the kid under which k stands
pub record Located (l k hi d : ℕ) (kids : List (Kid (Shape l))) : Type 0 where
  pub before : List (Kid (Shape l))
  pub kid : Kid (Shape l)
  pub after : List (Kid (Shape l))
  pub is : kids ≡ before ++ (kid ∷ after)
  pub child : below k d (map (entry_of l) kids) ≡ number l kid.sub
  pub low : kid.key ≤ k
  pub high : k < start_of hi after

pub locate : (l k hi d : ℕ) (x : Kid (Shape l)) (xs : List (Kid (Shape l))) → x.key ≤ k → k < hi → Located l k hi d (x ∷ xs)
locate l k hi d x [] g h = record { before = []; kid = x; after = []; is = refl; child = rw (le-leb x.key k g); low = g; high = h }
locate l k hi d x (y ∷ ys) g h =
    ⊎_elim
    (λ (q : k < y.key).
    record { before = []; kid = x; after = y ∷ ys; is = refl; child = rw (le-leb x.key k g, lt-leb y.key k q); low = g; high = q })
    (λ (q : y.key ≤ k).
    let r = locate l k hi (number l x.sub) y ys q h in
    record {
      before = x ∷ r.before;
      kid = r.kid;
      after = r.after;
      is = rw r.is;
      child = rw (le-leb x.key k g) r.child;
      low = r.low;
      high = r.high;
    })
    (below_or_not k y.key)

-- a table that agrees on a shape's numbers holds the shape
abbrev pub Agree : Table → Table → List ℕ → Type 0
Agree t u ns = (m : ℕ) → 0 < times m ns → at u m ≡ at t m

pub kids_frame : (t u : Table) (l : ℕ)
    → ((lo hi : ℕ) (x : Shape l) → Agree t u (nums l x) → Sub 16 t l lo hi x → Sub 16 u l lo hi x)
    → (hi : ℕ) (xs : List (Kid (Shape l))) → Agree t u (nums_of l xs) → Kids (Sub 16 t l) hi xs → Kids (Sub 16 u l) hi xs
kids_frame t u l f hi [] g h = tt
kids_frame t u l f hi (x ∷ xs) g h = (
  f x.key (start_of hi xs) x.sub (λ m p. g m (omega (arith, times_append m (nums l x.sub) (nums_of l xs)))) h.0,
  kids_frame t u l f hi xs (λ m p. g m (omega (arith, times_append m (nums l x.sub) (nums_of l xs)))) h.1,
)

pub inner_frame : (t u : Table) (l lo hi : ℕ) (s : Shape l) → Agree t u (rest l s) → Inner t l lo hi s → Inner u l lo hi s
inner_frame t u zero lo hi s g h = tt
inner_frame t u (suc l) lo hi s g h = (
  h.0,
  kids_frame t u l
      (λ a b x e p. (
        record { is = e (number l x) (omega (arith, hit_same (number l x) (number l x) refl)) ∙ p.0.is; keys = p.0.keys; size = p.0.size },
        inner_frame t u l a b x (λ m q. e m (omega arith)) p.1,
      ))
      hi s.kids g h.1,
)

pub sub_frame : (c : ℕ) (t u : Table) (l lo hi : ℕ) (s : Shape l) → Agree t u (nums l s) → Sub c t l lo hi s → Sub c u l lo hi s
sub_frame c t u l lo hi s g h = (
  record { is = g (number l s) (omega (arith, hit_same (number l s) (number l s) refl)) ∙ h.0.is; keys = h.0.keys; size = h.0.size },
  inner_frame t u l lo hi s (λ m q. g m (omega arith)) h.1,
)

-- a number without a node is none of the shape's
pub there_le : (s : View) → there s ≤ 1
there_le untouched = omega arith
there_le broken = omega arith
there_le freed = omega arith
there_le (view l es) = omega arith

top_out : (t : Table) (n l m : ℕ) (es : List Entry) → at t n ≡ view l es → there (at t m) ≡ 0 → hit n m ≡ 0
top_out t n l m es h g =
    ⊎_elim
    (λ (e : n ≡ m). let z : there (at t n) ≡ 1 = rw h in absurd (omega (arith, (rw (← e) at g))))
    (λ (e : n ≡ m → ⊥). hit_other n m e)
    (same_or_not n m)

kids_out : (t : Table) (l m : ℕ) → ((lo hi : ℕ) (x : Shape l) → Sub 16 t l lo hi x → times m (nums l x) ≡ 0)
    → (hi : ℕ) (xs : List (Kid (Shape l))) → Kids (Sub 16 t l) hi xs → times m (nums_of l xs) ≡ 0
kids_out t l m f hi [] h = refl
kids_out t l m f hi (x ∷ xs) h =
    omega (arith, times_append m (nums l x.sub) (nums_of l xs), f x.key (start_of hi xs) x.sub h.0, kids_out t l m f hi xs h.1)

pub inner_out : (t : Table) (l lo hi m : ℕ) (s : Shape l) → Inner t l lo hi s → there (at t m) ≡ 0 → times m (rest l s) ≡ 0
inner_out t zero lo hi m s h g = refl
inner_out t (suc l) lo hi m s h g =
    kids_out t l m
    (λ a b x p. omega (arith, top_out t (number l x) l m (tops l x) p.0.is g, inner_out t l a b m x p.1 g))
    hi s.kids h.1

pub sub_out : (c : ℕ) (t : Table) (l lo hi m : ℕ) (s : Shape l) → Sub c t l lo hi s → there (at t m) ≡ 0 → times m (nums l s) ≡ 0
sub_out c t l lo hi m s h g = omega (arith, top_out t (number l s) l m (tops l s) h.0.is g, inner_out t l lo hi m s h.1 g)

-- the records' keys
pub kids_between : (t : Table) (l : ℕ) → ((lo hi : ℕ) (x : Shape l) → Sub 16 t l lo hi x → Between lo hi (recs l x))
    → (lo hi : ℕ) (xs : List (Kid (Shape l))) → lo ≤ start_of hi xs → Kids (Sub 16 t l) hi xs → Between lo hi (recs_of l xs)
kids_between t l f lo hi [] g h = g
kids_between t l f lo hi (x ∷ xs) g h =
    between_append lo (start_of hi xs) hi (recs l x.sub) (recs_of l xs)
    (between_down lo x.key (start_of hi xs) (recs l x.sub) g (f x.key (start_of hi xs) x.sub h.0))
    (kids_between t l f (start_of hi xs) hi xs (omega arith) h.1)

starts_le : {A : Type 0} (lo hi : ℕ) (xs : List (Kid A)) → Starts lo xs → lo ≤ start_of hi xs
starts_le lo hi [] h = absurd h
starts_le lo hi (x ∷ xs) h = omega arith

pub sub_between : (c : ℕ) (t : Table) (l lo hi : ℕ) (s : Shape l) → Sub c t l lo hi s → Between lo hi (recs l s)
sub_between c t zero lo hi s h = h.0.keys
sub_between c t (suc l) lo hi s h =
    kids_between t l (λ a b x p. sub_between 16 t l a b x p) lo hi s.kids (starts_le lo hi s.kids h.1.0) h.1.1
