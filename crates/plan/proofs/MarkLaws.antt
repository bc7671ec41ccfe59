-- Marks of blocks: what pages of lists and of a commit leave unmarked. Assumes nothing.
use mathlib.Core.Path.{◌≡◌, refl, sym, ap, ap₂, ◌∙◌}
use mathlib.Core.Bool.{Bool, true, false, cond, ◌||◌}
use mathlib.Core.List.{List, [], ◌∷◌, ◌++◌, foldl, foldl-append, append_assoc, append-nil}
use Prim.Native.Nat.{ℕ, suc, ◌+◌, ◌-◌, ◌*◌, ◌/◌, ◌<◌, ◌≤◌, min}
use native.Mathlib.Nat.{div-mul-le_self, lt-div-mul-add}
use native.Mathlib.Numerals.{add-one}
use native.Mathlib.Omega.{arith}
use lib.Dec.{eqb}
use lib.ListN.{length, take, drop, get_or, set, replicate, length-set, length-take, length-drop, drop_of_length-le, length-replicate}
use lib.Seq.{get_or-set_same, get_or-set_other, take_all, take-suc-set, take-take, drop-cons, get_or-take, get_or-drop}
use borrow.Author.Tests.{eqb-true, eqb-false, ltb-true, ltb-false}
use lib.Dec.{ltb}
use Rattle.lists.specs.Lists.{filter, any, flat}
use Rattle.lists.proofs.Places.{get_d_same}
use Rattle.lists.proofs.Tests.{cases}
use Rattle.lists.proofs.Anys.{any_append}
use Rattle.chip.specs.Geometry.{Geometry}
use Rattle.chip.specs.Chip.{in_block}
use Rattle.chip.specs.Page.{Page}
use Rattle.pages.specs.Steps.{Live, commit, live_from}
use Rattle.views.specs.Stored.{stored_list}
use Rattle.journal.specs.Plan.{holds_commit, count_from}
use Rattle.journal.proofs.PlanPlaces.{in_block_lem, out_block}
use Rattle.plan.specs.SurveyCode.{listed_in, used_in, mark, mark_held, Marked, Pushes}

module _ (g : Geometry) (pos : 0 < g.pages) where
  own_block : (p : ℕ) → in_block g (p / g.pages) p ≡ true
  own_block p = in_block_lem g (p / g.pages) p (div-mul-le_self p g.pages, lt-div-mul-add pos)

  other_block : (b p : ℕ) → (b ≡ p / g.pages → ⊥) → in_block g b p ≡ false
  other_block b p d = out_block g (p / g.pages) b p (div-mul-le_self p g.pages, lt-div-mul-add pos) (λ e. d (sym e))

  -- the mark of block b after one page
  mark_at : (m : List Bool) (b p : ℕ) → b < length m → get_or (mark g m p) b false ≡ (in_block g b p || get_or m b false)
  mark_at m b p h =
      cases (eqb b (p / g.pages))
      (λ t. let e = eqb-true b (p / g.pages) t in
      rw (ap (λ (i : ℕ). in_block g i p) e ∙ own_block p) (ap (λ (i : ℕ). get_or (mark g m p) i false) e ∙ get_or-set_same m (p / g.pages) true false (rw (← e) h)))
      (λ t. let d = eqb-false b (p / g.pages) t in rw (other_block b p d) (get_or-set_other m (p / g.pages) b true false d))

  or_both : (x y v : Bool) → (y || (x || v)) ≡ ((x || y) || v)
  or_both true true v = refl
  or_both true false v = refl
  or_both false y v = refl

  -- after the pages of a list
  pub marks_at : (ps : List ℕ) (m : List Bool) (b : ℕ) → b < length m → get_or (foldl (mark g) m ps) b false ≡ (any (in_block g b) ps || get_or m b false)
  marks_at [] m b h = refl
  marks_at (p ∷ ps) m b h =
      marks_at ps (mark g m p) b (rw length-set h)
      ∙ ap (λ (v : Bool). any (in_block g b) ps || v) (mark_at m b p h)
      ∙ or_both (in_block g b p) (any (in_block g b) ps) (get_or m b false)

  pub length_marks : (ps : List ℕ) (m : List Bool) → length (foldl (mark g) m ps) ≡ length m
  length_marks [] m = refl
  length_marks (p ∷ ps) m = length_marks ps (mark g m p) ∙ simp length-set

  length_held : (c : ℕ) (xs : List Live) (m : List Bool) → length (mark_held g c xs m) ≡ length m
  length_held c [] m = refl
  length_held c (x ∷ xs) m =
      cases (eqb (commit x) c) (λ t. rw t (simp length-set (length_held c xs m))) (λ t. rw t (length_held c xs m))

  -- after the pages of commit c
  pub held_at : (c : ℕ) (xs : List Live) (m : List Bool) (b : ℕ) → b < length m → get_or (mark_held g c xs m) b false ≡ (holds_commit g c xs b || get_or m b false)
  held_at c [] m b h = refl
  held_at c (x ∷ xs) m b h =
      let l : b < length (mark_held g c xs m) = rw (length_held c xs m) h in
      cases (eqb (commit x) c)
      (λ t. rw (t, mark_at (mark_held g c xs m) b x.place l, held_at c xs m b h)
      (cases (in_block g b x.place) (λ q. rw q) (λ q. rw q)))
      (λ t. rw t (held_at c xs m b h))

any_flat : {A B : Type 0} (p : B → Bool) (f : A → List B) (xs : List A) → any p (flat f xs) ≡ any (λ (x : A). any p (f x)) xs
any_flat p f [] = refl
any_flat p f (x ∷ xs) = any_append p (f x) (flat f xs) ∙ ap (λ (t : Bool). any p (f x) || t) (any_flat p f xs)

-- what both passes mark is used
pub marked_all : (g : Geometry) → 0 < g.pages → (limit : ℕ) (lens slots : List ℕ) (c : ℕ) (ps : List Page) (m : List Bool)
    → m ≡ mark_held g c (live_from g 0 ps) (foldl (mark g) (replicate 32 false) (flat (stored_list lens slots) (count_from 0 limit)))
    → Marked g limit lens slots c ps m
unfolding used_in
marked_all g pos limit lens slots c ps m e =
    record {
      are = λ b h.
          let xs : List Live = live_from g 0 ps in
          let z : List Bool = replicate 32 false in
          let f : List ℕ = flat (stored_list lens slots) (count_from 0 limit) in
          let lz : length z ≡ 32 = length-replicate {A = Bool} 32 false in
          ap (λ (w : List Bool). get_or w b false) e
          ∙ held_at g pos c xs (foldl (mark g) z f) b (rw (length_marks g pos f z, lz) h)
          ∙ ap (λ (v : Bool). holds_commit g c xs b || v)
          (marks_at g pos f z b (rw lz h)
          ∙ ap₂ ◌||◌ (any_flat (in_block g b) (stored_list lens slots) (count_from 0 limit)) (get_d_same 32 b false))
          ∙ ends (holds_commit g c xs b) (listed_in g limit lens slots b);
    }
  where
    ends : (x y : Bool) → (x || (y || false)) ≡ (y || x)
    ends true true = refl
    ends true false = refl
    ends false true = refl
    ends false false = refl

-- ---- the pages of one node's list
list_is : (lens slots : List ℕ) (n used : ℕ) → used ≡ min (get_or lens n 0) 4 → stored_list lens slots n ≡ take used (drop (4 * n) slots)
list_is lens slots n used e =
    let k : ℕ = get_or lens n 0 in
    let d : List ℕ = drop (4 * n) slots in
    cases (ltb used 4)
    (λ t. let l = ltb-true used 4 t in let q : k ≡ used = omega arith in rw q (take-take used 4 d (omega arith)))
    (λ t. let l = ltb-false used 4 t in let q : used ≡ 4 = omega arith in rw q (take_all k (take 4 d) (rw length-take (omega arith))))

module _ (g : Geometry) (lens slots : List ℕ) (n used : ℕ) (list_length : length (stored_list lens slots n) ≡ used) (size : length slots ≡ 1024) (on : n < 256) (i : ℕ) (m : List Bool) where
  e : used ≡ min (get_or lens n 0) 4
  e = sym list_length ∙ (let q : length (stored_list lens slots n) ≡ min (get_or lens n 0) 4 = simp (length-take, length-drop) (omega arith) in q)

  pub slot_next : (target : List Bool) → i < used → foldl (mark g) m (drop i (stored_list lens slots n)) ≡ target
      → foldl (mark g) (mark g m (get_or slots (4 * n + i) 0)) (drop (i + 1) (stored_list lens slots n)) ≡ target
  slot_next target h left =
      let l : List ℕ = stored_list lens slots n in
      let d : List ℕ = drop (4 * n) slots in
      let p : ℕ = get_or slots (4 * n + i) 0 in
      let at : get_or l i 0 ≡ p = ap (λ (k : List ℕ). get_or k i 0) (list_is lens slots n used e) ∙ get_or-take used d i 0 h ∙ get_or-drop (4 * n) slots i 0 in
      let next : drop i l ≡ p ∷ drop (suc i) l = drop-cons l i 0 (rw list_length h) ∙ ap (λ (k : ℕ). k ∷ drop (suc i) l) at in
      ap (λ (k : ℕ). foldl (mark g) (mark g m p) (drop k l)) (add-one i) ∙ ap (foldl (mark g) m) (sym next) ∙ left

  pub slots_done : (target : List Bool) → used ≤ i → foldl (mark g) m (drop i (stored_list lens slots n)) ≡ target → m ≡ target
  slots_done target h left = ap (foldl (mark g) m) (sym (drop_of_length-le (stored_list lens slots n) {i = i} (omega (arith, list_length)))) ∙ left

-- ---- the lists of all nodes
-- the next number of a range
pub from_next : (i e : ℕ) → i < e → count_from i (e - i) ≡ i ∷ count_from (i + 1) (e - (i + 1))
from_next i e h =
    let q : e - i ≡ suc (e - (i + 1)) = omega arith in
    ap (count_from i) q ∙ ap (λ (k : ℕ). i ∷ count_from k (e - (i + 1))) (sym (add-one i))

pub from_done : (i e : ℕ) → e ≤ i → count_from i (e - i) ≡ []
from_done i e h = let q : e - i ≡ 0 = omega arith in ap (count_from i) q

module _ (g : Geometry) (lens slots : List ℕ) (limit n : ℕ) (m : List Bool) (target : List Bool) (left : foldl (mark g) m (flat (stored_list lens slots) (count_from n (limit - n))) ≡ target) where
  pub node_next : n < limit → (m' : List Bool) → m' ≡ foldl (mark g) m (stored_list lens slots n)
      → foldl (mark g) m' (flat (stored_list lens slots) (count_from (n + 1) (limit - (n + 1)))) ≡ target
  node_next h m' e =
      let rest : List ℕ = flat (stored_list lens slots) (count_from (n + 1) (limit - (n + 1))) in
      ap (λ (w : List Bool). foldl (mark g) w rest) e
      ∙ sym (foldl-append (mark g) m (stored_list lens slots n) rest)
      ∙ ap (λ (k : List ℕ). foldl (mark g) m (flat (stored_list lens slots) k)) (sym (from_next n limit h))
      ∙ left

  pub nodes_done : limit ≤ n → m ≡ target
  nodes_done h = ap (λ (k : List ℕ). foldl (mark g) m (flat (stored_list lens slots) k)) (sym (from_done n limit h)) ∙ left

-- ---- numbers kept by a test
pub pushes_then : {keep : Bool} {x n r : ℕ} {before after : List ℕ} → n < length before → keep ≡ true → after ≡ set before n x → r ≡ n + 1 → Pushes keep x before after n r
pushes_then {keep} {x} {n} {r} {before} {after} h t e k =
    record { list = rw (k, e, t, add-one n) (take-suc-set before n x h); low = omega arith; high = omega arith }

pub pushes_else : {keep : Bool} {x n r : ℕ} {before after : List ℕ} → keep ≡ false → after ≡ before → r ≡ n → Pushes keep x before after n r
pushes_else {keep} {x} {n} {r} {before} {after} t e k =
    record { list = rw (k, e, t) (sym (append-nil (take n before))); low = omega arith; high = omega arith }

pub push_next : (q : ℕ → Bool) (i e n r : ℕ) (list after target : List ℕ) → i < e → take n list ++ filter q (count_from i (e - i)) ≡ target
    → take r after ≡ take n list ++ cond (q i) (i ∷ []) [] → take r after ++ filter q (count_from (i + 1) (e - (i + 1))) ≡ target
push_next q i e n r list after target h left is =
    let rest : List ℕ = filter q (count_from (i + 1) (e - (i + 1))) in
    ap (λ (l : List ℕ). l ++ rest) is ∙ append_assoc (take n list) (cond (q i) (i ∷ []) []) rest
    ∙ ap (λ (l : List ℕ). take n list ++ l) (one (q i) rest)
    ∙ ap (λ (l : List ℕ). take n list ++ filter q l) (sym (from_next i e h)) ∙ left
  where
    one : (b : Bool) (rest : List ℕ) → cond b (i ∷ []) [] ++ rest ≡ cond b (i ∷ rest) rest
    one true rest = refl
    one false rest = refl

pub push_done : (q : ℕ → Bool) (i e : ℕ) (list target : List ℕ) → e ≤ i → list ++ filter q (count_from i (e - i)) ≡ target → list ≡ target
push_done q i e list target h left = sym (append-nil list) ∙ ap (λ (l : List ℕ). list ++ filter q l) (sym (from_done i e h)) ∙ left
