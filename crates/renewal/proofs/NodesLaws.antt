-- The entries of a node in two arrays, a view put for a number, and numbers vacated. Assumes nothing.
use mathlib.Core.Path.{◌≡◌, refl, sym, ap, ap₂, ◌∙◌}
use mathlib.Core.List.{List, [], ◌∷◌, ◌++◌}
use Prim.Native.Nat.{ℕ, zero, suc, ◌+◌, ◌-◌, ◌<◌, ◌≤◌}
use native.Mathlib.Nat.{add-sub_cancel_left}
use native.Mathlib.Omega.{arith}
use lib.Dec.{eqb}
use lib.ListN.{drop, get_or, length, length-append, length-drop, length-set, set, take}
use lib.Seq.{length-take-le, take_at, get_or-set_other, get_or-set_same}
use borrow.Author.Tests.{eqb-false, eqb-true}
use Rattle.lists.proofs.Tests.{cases}
use Rattle.views.specs.declared.node.Node as N
use Rattle.views.specs.Nodes.{View, untouched, freed, broken, view}
use Rattle.views.specs.NodeCode.{entries_in, pairs, Shows}
use Rattle.views.specs.FoldCode.{Stands}
use Rattle.views.specs.declared.fold.Stage.TheVariants.{Freed, Full, Untouched}
use Rattle.views.specs.Stored.{stored_list}
use Rattle.tree.specs.Tree.{Table, at, put}
use Rattle.tree.specs.Rebuild.{freed_from, vacated}
use Rattle.tree.proofs.Tables.{at_other, at_same}
use Rattle.tree.proofs.Vacated.{vacated_other, vacated_root}
use Rattle.journal.specs.Plan.{rewrite}
use Rattle.contents.specs.ContentsCode.{Keeps}
use Rattle.contents.proofs.UnitsLaws.{keeps_other, keeps_this}
use Rattle.renewal.specs.LayersCode.{HoldsAnew, HoldsVacant, Listed, PutsView, vacant_view}

-- ---- q numbers from `from` on, copied in front of others
pub copied : (q from : ℕ) (xs ys zs : List ℕ) → from + q ≤ length xs → ys ≡ take (from + q - from) (drop from xs) → q ≤ length zs
    → (take q (ys ++ drop q zs) ≡ take q (drop from xs)) × (length (ys ++ drop q zs) ≡ length zs)
copied q from xs ys zs h e l =
    let is : ys ≡ take q (drop from xs) = e ∙ ap (λ (n : ℕ). take n (drop from xs)) (add-sub_cancel_left from q) in
    let size : length ys ≡ q = ap length is ∙ length-take-le q (drop from xs) (omega (arith, length-drop from xs)) in
    (take_at ys (drop q zs) q size ∙ is, length-append ys (drop q zs) ∙ omega (arith, size, length-drop q zs))

-- ---- entries
pub length_entries_in : (n : ℕ) (ks vs : List ℕ) → n ≤ length ks → n ≤ length vs → length (entries_in n ks vs) ≡ n
length_entries_in zero ks vs h g = refl
length_entries_in (suc n) [] vs h g = absurd (omega arith)
length_entries_in (suc n) (k ∷ ks) [] h g = absurd (omega arith)
length_entries_in (suc n) (k ∷ ks) (v ∷ vs) h g = ap suc (length_entries_in n ks vs (omega arith) (omega arith))

-- a node made of q entries
pub shows_entries : (r : N.Node) (l q : ℕ) (ks vs : List ℕ) → r.level ≡ l → r.len ≡ q → q ≤ 16 → length r.keys ≡ 17 → length r.values ≡ 17
    → take q r.keys ≡ take q ks → take q r.values ≡ take q vs → Shows r l (entries_in q ks vs)
shows_entries r l q ks vs a b h lk lv e f =
    let is : entries_in r.len r.keys r.values ≡ entries_in q ks vs =
    ap (λ (m : ℕ). entries_in m r.keys r.values) b ∙ ap₂ pairs e f in
    record {
      same = a;
      is = is;
      len = ap length (sym is) ∙ length_entries_in r.len r.keys r.values (omega arith) (omega arith);
      room = omega arith;
    }

-- ---- a view put for a number
pub puts_view : (n : ℕ) (w : View) (sizes units counts bytes : List ℕ) (r : ℕ) → n < 256 → length sizes ≡ 256 → length units ≡ 52224
    → Keeps n (rewrite w) units bytes r → counts ≡ set sizes n r → PutsView n w sizes units counts bytes
puts_view n w sizes units counts bytes r on ls lu k q =
    rw q
    (record {
      own = rw (get_or-set_same sizes n r 0 (omega arith)) (keeps_this n (rewrite w) units bytes r k on lu);
      others = λ m us d c. rw (get_or-set_other sizes n m r 0 d) (keeps_other n (rewrite w) units bytes r k on lu m us (get_or sizes m 0) d c);
      numbers = length-set sizes n r ∙ ls;
      size = k.size ∙ lu;
    })

pub puts_as : (n : ℕ) (v w : View) (sizes units counts bytes : List ℕ) → v ≡ w → PutsView n v sizes units counts bytes → PutsView n w sizes units counts bytes
puts_as n v w sizes units counts bytes e p = rw e at p

pub holds_put : (limit n : ℕ) (w : View) (t : Table) (sizes units counts bytes : List ℕ) → PutsView n w sizes units counts bytes → HoldsAnew limit t sizes units
    → HoldsAnew limit (put n w t) counts bytes
holds_put limit n w t sizes units counts bytes p h = record {
  kept = λ m l. cases (eqb m n)
      (λ q. let e = eqb-true m n q in rw (e, at_same) p.own)
      (λ q. let d = eqb-false m n q in rw (at_other n m w t (λ e. d (sym e))) (p.others m (rewrite (at t m)) d (h.kept m l)));
  numbers = p.numbers;
  bytes = p.size;
}

-- ---- numbers vacated
pub vacant_start : (lens slots sizes units : List ℕ) → length sizes ≡ 256 → length units ≡ 52224 → HoldsVacant 0 lens slots sizes units
vacant_start lens slots sizes units a b = record { kept = λ n h. absurd (omega arith); numbers = a; bytes = b }

pub vacant_next : (k : ℕ) (lens slots sizes units counts bytes : List ℕ) → HoldsVacant k lens slots sizes units
    → PutsView k (vacant_view k (stored_list lens slots k)) sizes units counts bytes → HoldsVacant (k + 1) lens slots counts bytes
vacant_next k lens slots sizes units counts bytes h p = record {
  kept = λ m l. cases (eqb m k)
      (λ q. let e = eqb-true m k q in rw e p.own)
      (λ q. let d = eqb-false m k q in p.others m (rewrite (vacant_view m (stored_list lens slots m))) d (h.kept m (omega (arith, d))));
  numbers = p.numbers;
  bytes = p.size;
}

pub vacant_done : (k limit : ℕ) (lens slots sizes units : List ℕ) → k ≤ limit → limit ≤ k → HoldsVacant k lens slots sizes units → HoldsVacant limit lens slots sizes units
vacant_done k limit lens slots sizes units h g v = let m : k ≡ limit = omega arith in rw m at v

-- the views: of node 0, of a number that has pages, of one that has none
vacant_none : (n : ℕ) (ps : List ℕ) → (n ≡ 0 → ⊥) → length ps ≡ 0 → untouched ≡ vacant_view n ps
vacant_none zero ps h g = absurd (h refl)
vacant_none (suc n) [] h g = refl
vacant_none (suc n) (p ∷ ps) h g = absurd (omega arith)

vacant_some : (n : ℕ) (ps : List ℕ) → (n ≡ 0 → ⊥) → 0 < length ps → freed ≡ vacant_view n ps
vacant_some zero ps h g = absurd (h refl)
vacant_some (suc n) [] h g = absurd (omega arith)
vacant_some (suc n) (p ∷ ps) h g = refl

module _ (x : N.Node) (n : ℕ) (ps : List ℕ) (none : x.len ≡ 0) where
  pub stands_root : n ≡ 0 → Shows x 0 [] → Stands (record { stage = Full; node = x }) (vacant_view n ps)
  stands_root e s = rw e (record { is = ap₂ view s.same s.is; room = omega arith })

  module _ (r : ℕ) (e : r ≡ length ps) (d : n ≡ 0 → ⊥) where
    pub stands_freed : 0 < r → Stands (record { stage = Freed; node = x }) (vacant_view n ps)
    stands_freed h = record { is = vacant_some n ps d (omega arith); room = omega arith }

    pub stands_untouched : r ≤ 0 → Stands (record { stage = Untouched; node = x }) (vacant_view n ps)
    stands_untouched h = record { is = vacant_none n ps d (omega arith); room = omega arith }

-- they are those of a table whose numbers with a view are listed
freed_some : (w : View) (ps : List ℕ) → (ps ≡ [] → w ≡ untouched) → (w ≡ untouched → ps ≡ []) → (n : ℕ) → vacant_view (suc n) ps ≡ freed_from w
freed_some w [] f g n = rw (f refl)
freed_some untouched (p ∷ ps) f g n = let e = ap length (g refl) in absurd (omega (arith, e))
freed_some freed (p ∷ ps) f g n = refl
freed_some broken (p ∷ ps) f g n = refl
freed_some (view l es) (p ∷ ps) f g n = refl

vacant_at : (limit : ℕ) (t : Table) (lens slots : List ℕ) → Listed limit t lens slots → (n : ℕ) → n < limit → vacant_view n (stored_list lens slots n) ≡ at (vacated t) n
vacant_at limit t lens slots h zero l = sym (vacated_root t)
vacant_at limit t lens slots h (suc n) l =
    freed_some (at t (suc n)) (stored_list lens slots (suc n)) (h.none (suc n) l) (h.some (suc n) l) n ∙ sym (vacated_other t (suc n) (omega arith))

pub vacant_holds : (limit : ℕ) (t : Table) (lens slots sizes units : List ℕ) → Listed limit t lens slots → HoldsVacant limit lens slots sizes units
    → HoldsAnew limit (vacated t) sizes units
vacant_holds limit t lens slots sizes units h v = record {
  kept = λ n l. rw (← vacant_at limit t lens slots h n l) (v.kept n l);
  numbers = v.numbers;
  bytes = v.bytes;
}
