-- Node 0 takes over both its children at once. Assumes nothing.
use mathlib.Core.Path.{◌≡◌, refl, sym, ap, ap₂, ◌∙◌, subst}
use mathlib.Core.Logic.{⊎_elim}
use mathlib.Core.Bool.{false}
use mathlib.Core.List.{List, [], ◌∷◌, ◌++◌, map}
use Prim.Native.Nat.{ℕ, suc, ◌+◌, ◌<◌, ◌≤◌}
use native.Mathlib.Omega.{arith}
use lib.Dec.{eqb}
use lib.ListN.{length, length-append, length-map}
use borrow.Author.Tests.{le-leb, ne_eqb}
use Rattle.lists.specs.Lists.{none, more}
use Rattle.lists.proofs.Alls.{All-append}
use Rattle.lists.proofs.Tests.{same_or_not}
use Rattle.pages.specs.declared.unit.Update.TheVariants.{Reset}
use Rattle.pages.specs.declared.unit.Unit as U
use Rattle.pages.proofs.UnitLaws.{level_value, freed_value}
use Rattle.views.specs.Nodes.{Entry, View, freed, view, anew, inserted}
use Rattle.views.specs.Groups.{unit_for}
use Rattle.tree.specs.Tree.{entries_of, there, Table, at, put, entries_at, nodes}
use Rattle.tree.specs.Step6.{top, times}
use Rattle.tree.specs.Delete.{leaves, two, join, settle, collapsed}
use Rattle.tree.specs.Units.{after_units}
use Rattle.tree.specs.DeleteUnits.{merge_units, frees}
use Rattle.tree.proofs.Tables.{at_same, at_other}
use Rattle.tree.proofs.Shape.{Kid, Shape, number, entry_of, tops, nums, Sub, there_le}
use Rattle.tree.proofs.Parts.{join_s, join_number, join_tops}
use Rattle.tree.proofs.Full.{Wide, wide_join}
use Rattle.tree.proofs.Settle.{sub_a, sub_b, there_a, there_b, there_n, apart_n_a, apart_n_b, apart_a_b, joined_keys, joins}
use Rattle.tree.proofs.PairUnits.{frees_append, frees_inserts}
use Rattle.tree.proofs.UnitLaws.{touches, then, anew_view}
use Rattle.tree.proofs.Validity.{Small, Smalls, ValidUpdates, valid_map, valid_inserted}
use Rattle.tree.proofs.Pairs.{Known, known_map}
use Rattle.tree.proofs.Least.{nodes_old, nodes_gone, there_length, put_length}
use Rattle.tree.proofs.TakeOver.{Rooting, renumber, renumber_wide_of, w, over_root, collapsed_one, collapsed_wide}

-- tables are equal by their views
pub table_ext : (t u : Table) → length t ≡ length u → ((j : ℕ) → at t j ≡ at u j) → t ≡ u
table_ext [] [] e f = refl
table_ext [] (y ∷ u) e f = absurd (omega arith)
table_ext (x ∷ t) [] e f = absurd (omega arith)
table_ext (x ∷ t) (y ∷ u) e f = ap₂ (λ (v : View) (s : Table). v ∷ s) (f 0) (table_ext t u (omega arith) (λ j. f (suc j)))

-- by the number: a, b, 0 or another
by_three : {C : Type 0} (a b j : ℕ) → (a ≡ j → C) → (b ≡ j → C) → (0 ≡ j → C) → ((a ≡ j → ⊥) → (b ≡ j → ⊥) → (0 ≡ j → ⊥) → C) → C
by_three a b j f g h i =
    ⊎_elim f (λ (p : a ≡ j → ⊥). ⊎_elim g (λ (q : b ≡ j → ⊥). ⊎_elim h (λ (r : 0 ≡ j → ⊥). i p q r) (same_or_not 0 j)) (same_or_not b j)) (same_or_not a j)

-- the two ways to write node 0 and to free a and b
same_three : (a b : ℕ) (v x y : View) (t : Table) → a < length t → b < length t → 0 < length t → (a ≡ b → ⊥) → (0 ≡ a → ⊥) → (0 ≡ b → ⊥)
    → put b freed (put a freed (put 0 v t)) ≡ put a freed (put 0 v (put 0 x (put b freed (put a y t))))
same_three a b v x y t la lb l0 ab za zb =
    let t₁ = put 0 v t in
    let t₂ = put a freed t₁ in
    let t₃ = put b freed t₂ in
    let u₁ = put a y t in
    let u₂ = put b freed u₁ in
    let u₃ = put 0 x u₂ in
    let u₄ = put 0 v u₃ in
    let u₅ = put a freed u₄ in
    let n₁ : length t₁ ≡ length t = put_length 0 v t l0 in
    let n₂ : length t₂ ≡ length t = put_length a freed t₁ (omega arith) ∙ n₁ in
    let n₃ : length t₃ ≡ length t = put_length b freed t₂ (omega arith) ∙ n₂ in
    let m₁ : length u₁ ≡ length t = put_length a y t la in
    let m₂ : length u₂ ≡ length t = put_length b freed u₁ (omega arith) ∙ m₁ in
    let m₃ : length u₃ ≡ length t = put_length 0 x u₂ (omega arith) ∙ m₂ in
    let m₄ : length u₄ ≡ length t = put_length 0 v u₃ (omega arith) ∙ m₃ in
    let m₅ : length u₅ ≡ length t = put_length a freed u₄ (omega arith) ∙ m₄ in
    table_ext t₃ u₅ (n₃ ∙ sym m₅)
    (λ j. by_three a b j
    (λ e. subst (λ (i : ℕ). at t₃ i ≡ at u₅ i) e (at_other b a freed t₂ (λ q. ab (sym q)) ∙ at_same a freed t₁ ∙ sym (at_same a freed u₄)))
    (λ e. subst (λ (i : ℕ). at t₃ i ≡ at u₅ i) e
    (at_same b freed t₂ ∙ sym (at_other a b freed u₄ ab ∙ at_other 0 b v u₃ zb ∙ at_other 0 b x u₂ zb ∙ at_same b freed u₁)))
    (λ e. subst (λ (i : ℕ). at t₃ i ≡ at u₅ i) e
    (at_other b 0 freed t₂ (λ q. zb (sym q)) ∙ at_other a 0 freed t₁ (λ q. za (sym q)) ∙ at_same 0 v t ∙ sym (at_other a 0 freed u₄ (λ q. za (sym q)) ∙ at_same 0 v u₃)))
    (λ p q r. at_other b j freed t₂ q ∙ at_other a j freed t₁ p ∙ at_other 0 j v t r
    ∙ sym (at_other a j freed u₄ p ∙ at_other 0 j v u₃ r ∙ at_other 0 j x u₂ r ∙ at_other b j freed u₁ q ∙ at_other a j y t p)))

pub record Merged (u z : Table) (us : List U.Unit) (l : ℕ) : Type 0 where
  pub is : l < 255 → after_units us u ≡ z
  pub few : length us ≤ 19
  pub known : Known u us
  pub valid : l ≤ 3 → Smalls u → ValidUpdates us
  pub count : l < 255 → nodes z + frees us ≡ nodes u

module _ (u : Table) (l : ℕ) (a b : Kid (Shape l)) (g : Rooting u (suc l) (record { number = 0; kids = a ∷ b ∷ [] })) where
  h : Sub 16 u (suc l) 0 top (record { number = 0; kids = a ∷ b ∷ [] })
  h = g.sub

  once : (j : ℕ) → times j (nums (suc l) (record { number = 0; kids = a ∷ b ∷ [] })) ≤ 1
  once j = omega (arith, g.once j, there_le (at u j))

  abbrev A : ℕ
  A = number l a.sub

  abbrev B : ℕ
  B = number l b.sub

  abbrev es : List Entry
  es = tops l a.sub ++ tops l b.sub

  abbrev J : Kid (Shape l)
  J = record { key = a.key; sub = join_s l a.sub b.sub }

  abbrev j_table : Table
  j_table = join l 0 [] (entry_of l a) (entry_of l b) [] (tops l a.sub ++ tops l b.sub) u

  module _ (few : length (tops l a.sub) + length (tops l b.sub) ≤ 16) where
    j_few : length es ≤ 16
    j_few = omega (arith, length-append (tops l a.sub) (tops l b.sub))

    j_rooting : Rooting j_table (suc l) (record { number = 0; kids = J ∷ [] })
    j_rooting =
        let C = joins u l 0 top 0 [] a b [] h once es (sym (join_tops l a.sub b.sub)) j_few in
        record { root = refl; sub = C.sub; once = λ j. omega (arith, C.counts j, g.once j) }

    j_wide : Wide l J.sub
    j_wide = wide_join u l a.key b.key top a.sub b.sub (sub_a u l 0 top 0 [] a b [] h once).1 (sub_b u l 0 top 0 [] a b [] h once).1

    -- what the delete leaves
    left_is : l < 255 → collapsed (suc l) j_table ≡ put A freed (put 0 (view l es) j_table)
    left_is q =
        collapsed_one j_table l 0 J j_rooting
        ∙ collapsed_wide (w j_table l 0 J j_rooting) l (renumber l 0 J.sub) (over_root j_table l 0 J j_rooting) (renumber_wide_of l 0 J.sub j_wide) (omega arith)
        ∙ rw (join_number l a.sub b.sub, join_tops l a.sub b.sub)

    units_are : l < 255 → after_units (map (unit_for 0) (anew l es) ++ (unit_for A (Reset 255) ∷ unit_for B (Reset 255) ∷ [])) u
        ≡ put B freed (put A freed (put 0 (view l es) u))
    units_are q =
        let on0 = there_n u l 0 top 0 [] a b [] h once in
        let onA = there_a u l 0 top 0 [] a b [] h once in
        let onB = there_b u l 0 top 0 [] a b [] h once in
        let nA = apart_n_a u l 0 top 0 [] a b [] h once in
        let nB = apart_n_b u l 0 top 0 [] a b [] h once in
        let AB = apart_a_b u l 0 top 0 [] a b [] h once in
        let u₁ = put 0 (view l es) u in
        let u₂ = put A freed u₁ in
        let keys = rw join_tops at (joined_keys u l 0 top 0 [] a b [] h once) in
        let eA : at u₁ A ≡ at u A = at_other 0 A (view l es) u nA in
        let eB : at u₂ B ≡ at u B = at_other A B freed u₁ AB ∙ at_other 0 B (view l es) u nB in
        then (map (unit_for 0) (anew l es)) (unit_for A (Reset 255) ∷ unit_for B (Reset 255) ∷ []) u u₁ (put B freed u₂)
        (touches 0 (anew l es) u on0 ∙ ap (λ (v : View). put 0 v u) (anew_view l a.key top es (at u 0) (λ e. omega arith) keys j_few))
        (then (unit_for A (Reset 255) ∷ []) (unit_for B (Reset 255) ∷ []) u₁ u₂ (put B freed u₂)
        (touches A (Reset 255 ∷ []) u₁ (ap there eA ∙ onA)) (touches B (Reset 255 ∷ []) u₂ (ap there eB ∙ onB)))

    merged_is : l < 255 → after_units (map (unit_for 0) (anew l es) ++ (unit_for A (Reset 255) ∷ unit_for B (Reset 255) ∷ [])) u ≡ collapsed (suc l) j_table
    unfolding join
    merged_is q =
        let on0 = there_n u l 0 top 0 [] a b [] h once in
        units_are q
        ∙ same_three A B (view l es) (view (suc l) (entry_of l a ∷ [])) (view l es) u
        (there_length u A (there_a u l 0 top 0 [] a b [] h once)) (there_length u B (there_b u l 0 top 0 [] a b [] h once)) (there_length u 0 on0)
        (apart_a_b u l 0 top 0 [] a b [] h once) (apart_n_a u l 0 top 0 [] a b [] h once) (apart_n_b u l 0 top 0 [] a b [] h once)
        ∙ sym (left_is q)

    -- two nodes fewer
    merged_count : l < 255 → nodes (collapsed (suc l) j_table) + 2 ≡ nodes u
    merged_count q =
        let on0 = there_n u l 0 top 0 [] a b [] h once in
        let u₁ = put 0 (view l es) u in
        let u₂ = put A freed u₁ in
        let eA : at u₁ A ≡ at u A = at_other 0 A (view l es) u (apart_n_a u l 0 top 0 [] a b [] h once) in
        let eB : at u₂ B ≡ at u B = at_other A B freed u₁ (apart_a_b u l 0 top 0 [] a b [] h once) ∙ at_other 0 B (view l es) u (apart_n_b u l 0 top 0 [] a b [] h once) in
        omega (
          arith,
          ap nodes (sym (merged_is q) ∙ units_are q),
          nodes_gone B u₂ (ap there eB ∙ there_b u l 0 top 0 [] a b [] h once),
          nodes_gone A u₁ (ap there eA ∙ there_a u l 0 top 0 [] a b [] h once),
          nodes_old 0 l es u on0,
        )

    merged_frees : l < 255 → frees (map (unit_for 0) (anew l es) ++ (unit_for A (Reset 255) ∷ unit_for B (Reset 255) ∷ [])) ≡ 2
    merged_frees q =
        let d : eqb l 255 ≡ false = ne_eqb l 255 (λ e. omega arith) in
        frees_append (map (unit_for 0) (anew l es)) (unit_for A (Reset 255) ∷ unit_for B (Reset 255) ∷ []) ∙ rw d (omega (arith, frees_inserts 0 es))

    pub merged : Merged u (collapsed (suc l) (leaves (settle l 0 (two [] (entry_of l a) (entry_of l b) []) u))) (merge_units l (two [] (entry_of l a) (entry_of l b) []) u) l
    unfolding settle
    merged =
        let ia = (sub_a u l 0 top 0 [] a b [] h once).0.is in
        let ib = (sub_b u l 0 top 0 [] a b [] h once).0.is in
        let ea : entries_at u (number l a.sub) ≡ tops l a.sub = ap entries_of ia in
        let eb : entries_at u (number l b.sub) ≡ tops l b.sub = ap entries_of ib in
        rw (ea, eb, le-leb (length (tops l a.sub) + length (tops l b.sub)) 16 few)
        (record {
          is = merged_is;
          few = omega (arith, length-append (map (unit_for 0) (map inserted es)) (unit_for A (Reset 255) ∷ unit_for B (Reset 255) ∷ []), length-map (map inserted es) (unit_for 0), length-map es inserted, j_few);
          known =
              All-append (known_map u 0 (anew l es) (there_n u l 0 top 0 [] a b [] h once))
              (more (there_a u l 0 top 0 [] a b [] h once) (more (there_b u l 0 top 0 [] a b [] h once) none));
          valid = λ q ts.
              let sa = subst (λ (v : View). Small (entries_of v)) ia (ts A) in
              let sb = subst (λ (v : View). Small (entries_of v)) ib (ts B) in
              All-append (valid_map 0 {us = anew l es} (more (level_value l q) (valid_inserted (All-append sa sb)))) (more freed_value (more freed_value none));
          count = λ q. omega (arith, merged_count q, merged_frees q);
        })
