-- Node 0 takes over its only child, as long as it has one. Assumes nothing.
use mathlib.Core.Path.{◌≡◌, refl, sym, ap, ◌∙◌, subst}
use mathlib.Core.Logic.{◌⊎◌, inl, inr, ⊎_elim}
use mathlib.Core.List.{List, [], ◌∷◌, map, append-nil}
use Prim.Native.Nat.{ℕ, zero, suc, ◌+◌, ◌*◌, ◌<◌, ◌≤◌}
use native.Mathlib.Omega.{arith}
use lib.ListN.{length, length-append, length-map}
use borrow.Author.Tests.{le-leb, ne_eqb}
use Rattle.lists.specs.Lists.{All, none, more}
use Rattle.lists.proofs.Alls.{All-head, All-append, All-map}
use Rattle.pages.specs.declared.unit.Update.TheVariants.{Reset}
use Rattle.pages.specs.declared.unit.Unit as U
use Rattle.views.specs.Groups.{unit_for}
use Rattle.views.specs.Nodes.{Entry, View, freed, view, inserted, anew}
use Rattle.tree.specs.Tree.{entries_of, there, Table, at, put, entries_at, child, nodes}
use Rattle.tree.specs.Step6.{top, times}
use Rattle.tree.specs.Delete.{take_over, collapsed}
use Rattle.tree.specs.Units.{after_units}
use Rattle.tree.specs.DeleteUnits.{over_units, collapse_units, frees}
use Rattle.tree.proofs.Entries.{Between}
use Rattle.tree.proofs.Tables.{hit, at_same, at_other, there_old}
use Rattle.tree.proofs.Shape.{Kid, Shape, number, entry_of, tops, rest, nums, recs, Starts, Inner, Sub, times_append, hit_same, there_le, inner_frame}
use Rattle.tree.proofs.Shaped.{Shaped}
use Rattle.tree.proofs.Full.{Full, Wide, Nearly}
use Rattle.tree.proofs.PairUnits.{frees_append, frees_inserts}
use Rattle.tree.proofs.Least.{nodes_old, nodes_gone}
use mathlib.Core.Bool.{false}
use lib.Dec.{eqb}
use Rattle.tree.proofs.Settle.{there_gone}
use Rattle.tree.proofs.UnitLaws.{touches, then, anew_view, after_none}
use Rattle.tree.proofs.Validity.{Smalls, ValidUpdates, after_small, valid_over}
use Rattle.tree.proofs.Pairs.{Known, known_map}
use Rattle.tree.proofs.DeleteAt.{Heirs}

-- a shape under another number
abbrev pub renumber : (l : ℕ) → ℕ → Shape l → Shape l
renumber zero n s = record { number = n; entries = s.entries }
renumber (suc l) n s = record { number = n; kids = s.kids }

pub renumber_number : (l n : ℕ) (s : Shape l) → number l (renumber l n s) ≡ n
renumber_number zero n s = refl
renumber_number (suc l) n s = refl

pub renumber_tops : (l n : ℕ) (s : Shape l) → tops l (renumber l n s) ≡ tops l s
renumber_tops zero n s = refl
renumber_tops (suc l) n s = refl

pub renumber_rest : (l n : ℕ) (s : Shape l) → rest l (renumber l n s) ≡ rest l s
renumber_rest zero n s = refl
renumber_rest (suc l) n s = refl

pub renumber_recs : (l n : ℕ) (s : Shape l) → recs l (renumber l n s) ≡ recs l s
renumber_recs zero n s = refl
renumber_recs (suc l) n s = refl

renumber_inner : (t : Table) (l lo hi n : ℕ) (s : Shape l) → Inner t l lo hi s → Inner t l lo hi (renumber l n s)
renumber_inner t zero lo hi n s h = h
renumber_inner t (suc l) lo hi n s h = h

renumber_full : (c l n : ℕ) (s : Shape l) → Full c l s → Full c l (renumber l n s)
renumber_full c zero n s h = h
renumber_full c (suc l) n s h = h

pub record Rooting (t : Table) (l : ℕ) (s : Shape l) : Type 0 where
  pub root : number l s ≡ 0
  pub sub : Sub 16 t l 0 top s
  pub once : (j : ℕ) → times j (nums l s) ≡ there (at t j)

-- an only kid of which a join left only one kid
abbrev pub Deep : (l : ℕ) → Shape l → Type 0
Deep zero s = Unit {0}
Deep (suc l) s = length s.kids ≡ 1 → All (λ (x : Kid (Shape l)). Heirs l x.sub) s.kids

-- what is left at the end
pub record Ends (t u : Table) (us : List U.Unit) (l : ℕ) (s : Shape l) : Type 0 where
  pub tree : Shaped u
  pub is : recs tree.level tree.shape ≡ recs l s
  pub wide : Wide tree.level tree.shape
  pub full : (c : ℕ) → Nearly c l s → Full c tree.level tree.shape
  pub fewer : (j : ℕ) → there (at u j) ≡ 1 → there (at t j) ≡ 1
  pub units : l ≤ 255 → after_units us t ≡ u
  pub known : Known t us
  pub valid : l ≤ 4 → Smalls t → ValidUpdates us
  pub count : l ≤ 255 → nodes u + frees us ≡ nodes t
  pub few : length us ≤ 3 * l + 15
  pub quiet : Wide l s → length us ≡ 0
  pub lone : Heirs l s → length us ≤ 18
  pub deep : Deep l s → length us ≤ 21

renumber_wide : (l n : ℕ) (s : Shape l) → Wide l s → Wide l (renumber l n s)
renumber_wide zero n s h = h
renumber_wide (suc l) n s h = h

renumber_heirs : (l n : ℕ) (s : Shape l) → Heirs l s → Heirs l (renumber l n s)
renumber_heirs zero n s h = h
renumber_heirs (suc l) n s h = h

-- two entries or more, or one
wide_or : (t : Table) (l lo hi : ℕ) (s : Shape l) → Inner t l lo hi s → Wide l s ⊎ (length (tops l s) ≡ 1)
wide_or t zero lo hi s h = inl tt
wide_or t (suc l) lo hi s h = go s.kids h.0
  where
    go : (ks : List (Kid (Shape l))) → Starts lo ks → (2 ≤ length ks) ⊎ (length (map (entry_of l) ks) ≡ 1)
    go [] p = absurd p
    go (x ∷ []) p = inr refl
    go (x ∷ y ∷ ks) p = inl (omega arith)

module _ (t : Table) (l m : ℕ) (x : Kid (Shape l)) (g : Rooting t (suc l) (record { number = m; kids = x ∷ [] })) where
  abbrev c : ℕ
  c = number l x.sub

  abbrev es : List Entry
  es = tops l x.sub

  pub child_is : at t c ≡ view l es
  child_is = g.sub.1.1.0.0.is

  tally : (j : ℕ) → hit 0 j + (hit c j + times j (rest l x.sub)) ≡ there (at t j)
  tally j = omega (arith, g.once j, times_append j (nums l x.sub) [], ap (λ (i : ℕ). hit i j) g.root)

  child_not : c ≡ 0 → ⊥
  child_not e = omega (arith, tally 0, hit_same 0 0 refl, hit_same c 0 e, there_le (at t 0))

  abbrev pub w : Table
  w = put c freed (put 0 (view l es) t)

  pub over_is : take_over c t ≡ w
  unfolding take_over
  over_is = rw child_is

  over_there : (j : ℕ) → there (at w j) + hit c j ≡ there (at t j)
  over_there j =
      let u = put 0 (view l es) t in
      let p : (i : ℕ) → there (at u i) ≡ there (at t i) = λ i. there_old 0 i l es t (omega (arith, tally 0, hit_same 0 0 refl, there_le (at t 0))) in
      there_gone c j u (p c ∙ ap there child_is) ∙ p j

  pub over_root : Rooting w l (renumber l 0 x.sub)
  over_root =
      let u = put 0 (view l es) t in
      let s = renumber l 0 x.sub in
      let k0 : x.key ≡ 0 = g.sub.1.0 in
      let bt : Between 0 top es = subst (λ (i : ℕ). Between i top es) k0 g.sub.1.1.0.0.keys in
      let it : Inner t l 0 top x.sub = subst (λ (i : ℕ). Inner t l i top x.sub) k0 g.sub.1.1.0.1 in
      let far : (j : ℕ) → 0 < times j (rest l x.sub) → at w j ≡ at t j
      = λ j p. at_other c j freed u (λ e. omega (arith, tally j, hit_same c j e, there_le (at t j)))
      ∙ at_other 0 j (view l es) t (λ e. omega (arith, tally j, hit_same 0 j e, there_le (at t j))) in
      record {
        root = renumber_number l 0 x.sub;
        sub = (
          record {
            is = rw (renumber_number l 0 x.sub, renumber_tops l 0 x.sub) (at_other c 0 freed u child_not ∙ at_same 0 (view l es) t);
            keys = rw (renumber_tops l 0 x.sub) bt;
            size = rw (renumber_tops l 0 x.sub) g.sub.1.1.0.0.size;
          },
          renumber_inner w l 0 top 0 x.sub (inner_frame t w l 0 top x.sub far it),
        );
        once = λ j. omega (arith, tally j, over_there j, ap (λ (i : ℕ). hit i j) (renumber_number l 0 x.sub), ap (times j) (renumber_rest l 0 x.sub));
      }

  pub on_root : there (at t 0) ≡ 1
  on_root = omega (arith, tally 0, hit_same 0 0 refl, there_le (at t 0))

  pub over_units_lem : l < 255 → after_units (over_units l c t) t ≡ w
  unfolding over_units
  over_units_lem small =
      let u = put 0 (view l es) t in
      let ec : entries_at t c ≡ es = ap entries_of child_is in
      let ne : (l ≡ 255 → ⊥) = λ e. omega arith in
      let cu : at u c ≡ view l es = at_other 0 c (view l es) t (λ e. child_not (sym e)) ∙ child_is in
      let first : after_units (map (unit_for 0) (anew l es)) t ≡ u
      = touches 0 (anew l es) t on_root
      ∙ ap (λ (v : View). put 0 v t) (anew_view l x.key top es (at t 0) ne g.sub.1.1.0.0.keys g.sub.1.1.0.0.size) in
      let second : after_units (unit_for c (Reset 255) ∷ []) u ≡ w = touches c (Reset 255 ∷ []) u (ap there cu) in
      rw ec (then (map (unit_for 0) (anew l es)) (unit_for c (Reset 255) ∷ []) t u w first second)

  over_nodes : nodes w + 1 ≡ nodes t
  over_nodes =
      let u = put 0 (view l es) t in
      let cu : at u c ≡ view l es = at_other 0 c (view l es) t (λ e. child_not (sym e)) ∙ child_is in
      omega (arith, nodes_gone c u (ap there cu), nodes_old 0 l es t on_root)

  over_frees : l < 255 → frees (over_units l c t) ≡ 1
  unfolding over_units
  over_frees q =
      let d : eqb l 255 ≡ false = ne_eqb l 255 (λ e. omega arith) in
      frees_append (map (unit_for 0) (anew l (entries_at t c))) (unit_for c (Reset 255) ∷ []) ∙ rw d (omega (arith, frees_inserts 0 (entries_at t c)))

  pub over_known : Known t (over_units l c t)
  unfolding over_units
  over_known = All-append (known_map t 0 (anew l (entries_at t c)) on_root) (more (ap there child_is) none)

  over_length : length (over_units l c t) ≡ length es + 2
  unfolding over_units
  over_length =
      let ec : entries_at t c ≡ es = ap entries_of child_is in
      rw ec (length-append (map (unit_for 0) (anew l es)) (unit_for c (Reset 255) ∷ []) ∙ omega (arith, length-map (anew l es) (unit_for 0), length-map es inserted))

  over_fewer : (j : ℕ) → there (at w j) ≡ 1 → there (at t j) ≡ 1
  over_fewer j p = omega (arith, over_there j, there_le (at t j))

  pub over_child : child t 0 0 ≡ c
  over_child =
      let k0 : x.key ≡ 0 = g.sub.1.0 in
      let e : entries_at t 0 ≡ entry_of l x ∷ [] = ap (entries_at t) (sym g.root) ∙ ap entries_of g.sub.0.is in
      rw (e, le-leb x.key 0 (omega arith))

-- node 0 with one entry takes over
pub collapsed_one : (t : Table) (l m : ℕ) (x : Kid (Shape l)) (g : Rooting t (suc l) (record { number = m; kids = x ∷ [] })) → collapsed (suc l) t ≡ collapsed l (w t l m x g)
collapsed_one t l m x g =
    let e : entries_at t 0 ≡ entry_of l x ∷ [] = ap (entries_at t) (sym g.root) ∙ ap entries_of g.sub.0.is in
    rw (over_child t l m x g, over_is t l m x g, e)

nearly_wide : (c l : ℕ) (s : Shape l) → Nearly c l s → Wide l s → Full c l s
nearly_wide c zero s f w = tt
nearly_wide c (suc l) s f w = ⊎_elim (λ p. p) (λ p. absurd (omega (arith, p.0))) f

nearly_only : (c l m : ℕ) (x : Kid (Shape l)) → Nearly c (suc l) (record { number = m; kids = x ∷ [] }) → Full c l x.sub
nearly_only c l m x (inl f) = (All-head f).1
nearly_only c l m x (inr p) = All-head p.1

full_nearly : (c l : ℕ) (s : Shape l) → Full c l s → Nearly c l s
full_nearly c zero s f = tt
full_nearly c (suc l) s f = inl f

-- nothing is taken over
stays : (t : Table) (l : ℕ) (s : Shape l) → Rooting t l s → Wide l s → Ends t t [] l s
stays t l s g h = record {
  tree = record { level = l; shape = s; root = g.root; sub = g.sub; once = g.once };
  is = refl;
  wide = h;
  full = λ c f. nearly_wide c l s f h;
  fewer = λ j p. p;
  units = λ _. after_none t;
  known = none;
  valid = λ _ _. none;
  count = λ _. omega arith;
  few = omega arith;
  quiet = λ _. refl;
  lone = λ _. omega arith;
  deep = λ _. omega arith;
}

pub collapses : (t : Table) (l : ℕ) (s : Shape l) → Rooting t l s → Ends t (collapsed l t) (collapse_units l t) l s
collapses t zero s g = stays t zero s g tt
collapses t (suc l) s g = step s.number s.kids g (λ u x. collapses u l x)
  where
    step : (m : ℕ) (ks : List (Kid (Shape l))) → Rooting t (suc l) (record { number = m; kids = ks }) → ((u : Table) (x : Shape l) → Rooting u l x → Ends u (collapsed l u) (collapse_units l u) l x)
        → Ends t (collapsed (suc l) t) (collapse_units (suc l) t) (suc l) (record { number = m; kids = ks })
    step m [] g ih = absurd g.sub.1.0
    step m (x ∷ []) g ih =
        let e : entries_at t 0 ≡ entry_of l x ∷ [] = ap (entries_at t) (sym g.root) ∙ ap entries_of g.sub.0.is in
        let xs = over_units l (number l x.sub) t in
        let ys = collapse_units l (w t l m x g) in
        let sz : length (tops l x.sub) ≤ 16 = g.sub.1.1.0.0.size in
        let ol = over_length t l m x g in
        let i = ih (w t l m x g) (renumber l 0 x.sub) (over_root t l m x g) in
        rw (over_child t l m x g, over_is t l m x g, e)
        (record {
          tree = i.tree;
          is = i.is ∙ renumber_recs l 0 x.sub ∙ sym (append-nil (recs l x.sub));
          wide = i.wide;
          full = λ c f. i.full c (full_nearly c l (renumber l 0 x.sub) (renumber_full c l 0 x.sub (nearly_only c l m x f)));
          fewer = λ j p. over_fewer t l m x g j (i.fewer j p);
          units = λ q. then xs ys t (w t l m x g) (collapsed l (w t l m x g)) (over_units_lem t l m x g (omega arith)) (i.units (omega arith));
          known = All-append (over_known t l m x g) (All-map (λ z p. over_fewer t l m x g z.node p) i.known);
          count = λ q. rw (frees_append xs ys) (omega (arith, i.count (omega arith), over_nodes t l m x g, over_frees t l m x g (omega arith)));
          valid = λ q ts. let v = valid_over l (number l x.sub) t (omega arith) ts in
              All-append v (i.valid (omega arith) (after_small xs t (w t l m x g) (over_units_lem t l m x g (omega arith)) v ts));
          few = rw length-append
              (⊎_elim
              (λ (q : Wide l x.sub). let z = i.quiet (renumber_wide l 0 x.sub q) in omega arith)
              (λ (q : length (tops l x.sub) ≡ 1). omega (arith, i.few))
              (wide_or t l x.key top x.sub g.sub.1.1.0.1));
          quiet = λ q. absurd (omega arith);
          deep = λ q. rw length-append
              (⊎_elim
              (λ (p : Wide l x.sub). let z = i.quiet (renumber_wide l 0 x.sub p) in omega arith)
              (λ (p : length (tops l x.sub) ≡ 1). omega (arith, i.lone (renumber_heirs l 0 x.sub (All-head (q refl)))))
              (wide_or t l x.key top x.sub g.sub.1.1.0.1));
          lone = λ q. rw length-append (let z = i.quiet (renumber_wide l 0 x.sub (All-head (q refl))) in omega arith);
        })
    step m (x ∷ y ∷ ks) g ih =
        let e : entries_at t 0 ≡ entry_of l x ∷ entry_of l y ∷ map (entry_of l) ks = ap (entries_at t) (sym g.root) ∙ ap entries_of g.sub.0.is in
        rw (e, ne_eqb (length (entry_of l x ∷ entry_of l y ∷ map (entry_of l) ks)) 1 (λ q. omega arith)) (stays t (suc l) (record { number = m; kids = x ∷ y ∷ ks }) g (omega arith))

-- node 0 with more takes over nothing
pub collapsed_wide : (t : Table) (l : ℕ) (s : Shape l) → Rooting t l s → Wide l s → l ≤ 255 → collapsed l t ≡ t
collapsed_wide t l s g q h =
    let E = collapses t l s g in
    let z : collapse_units l t ≡ [] = empty (collapse_units l t) (E.quiet q) in
    sym (E.units h) ∙ ap (λ (us : List U.Unit). after_units us t) z ∙ after_none t
  where
    empty : (us : List U.Unit) → length us ≡ 0 → us ≡ []
    empty [] h = refl
    empty (u ∷ us) h = absurd (omega arith)

pub renumber_wide_of : (l n : ℕ) (s : Shape l) → Wide l s → Wide l (renumber l n s)
renumber_wide_of l n s h = renumber_wide l n s h
