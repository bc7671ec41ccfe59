-- The figures of the blocks after operations, one by one and as a list. Assumes nothing.
use Rattle.std.proofs.Common.{◌≡◌, ℕ, suc, ◌+◌, ◌%◌, ◌^◌, ◌<◌, ◌≤◌, eqb, ltb, List, [], ◌∷◌, ◌++◌, length, get_or, set, refl, ap, ◌∙◌, arith, ltb-false, ltb-true, eq-eqb, ne_eqb}
use lib.ListN.{get_or-eq_default}
use Rattle.lists.specs.Lists.{bit, map_from}
use Rattle.lists.proofs.Tests.{cases}
use Rattle.lists.proofs.Filters.{count_append}
use Rattle.lists.proofs.Places.{get_d_map_from, length_map_from, map_from_same, map_from_set}
use Rattle.chip.specs.Chip.{Op, erase}
use Rattle.chip.specs.Erases.{is_erase_of, erases_in, figures_after}

-- ---- the erases among operations
pub erases_append : (b : ℕ) (os ps : List Op) → erases_in b (os ++ ps) ≡ erases_in b os + erases_in b ps
erases_append b os ps = count_append (is_erase_of b) os ps

-- ---- the figures
pub length_figures : (os : List Op) (figures : List ℕ) → length (figures_after os figures) ≡ length figures
length_figures os figures = length_map_from 0 (λ b n. (n + erases_in b os) % 2 ^ 64) figures

-- the figure of a block grows by its erases
pub figure_at : (os : List Op) (figures : List ℕ) (b : ℕ) → b < length figures → get_or (figures_after os figures) b 0 ≡ (get_or figures b 0 + erases_in b os) % 2 ^ 64
figure_at os figures b l =
    let z : 0 + b ≡ b = omega arith in
    get_d_map_from 0 (λ b n. (n + erases_in b os) % 2 ^ 64) figures b 0 l ∙ ap (λ (c : ℕ). (get_or figures b 0 + erases_in c os) % 2 ^ 64) z

-- by exactly these, where 64 bits hold it and the block has a figure or no erase
pub figure_grows : (os : List Op) (figures : List ℕ) (b : ℕ) → (length figures ≤ b → erases_in b os ≡ 0) → get_or figures b 0 + erases_in b os < 2 ^ 64
    → get_or (figures_after os figures) b 0 ≡ get_or figures b 0 + erases_in b os
figure_grows os figures b none few =
    cases (ltb b (length figures))
    (λ t. figure_at os figures b (ltb-true b (length figures) t) ∙ omega arith)
    (λ t. let h = ltb-false b (length figures) t in
    let z = get_or-eq_default (figures_after os figures) 0 {n = b} (omega (arith, length_figures os figures)) in
    omega (arith, get_or-eq_default figures 0 {n = b} h, none h))

-- they are the same after operations with the same erases
pub figures_same : (os ps : List Op) (figures : List ℕ) → ((b : ℕ) → erases_in b os ≡ erases_in b ps) → figures_after os figures ≡ figures_after ps figures
figures_same os ps figures e =
    map_from_same 0 (λ b n. (n + erases_in b os) % 2 ^ 64) (λ b n. (n + erases_in b ps) % 2 ^ 64) figures (λ c n l. ap (λ (k : ℕ). (n + k) % 2 ^ 64) (e c))

-- no operation: each is as it was
none_from : (i : ℕ) (xs : List ℕ) → ((j : ℕ) → get_or xs j 0 < 2 ^ 64) → map_from i (λ b n. (n + 0) % 2 ^ 64) xs ≡ xs
none_from i [] h = refl
none_from i (x ∷ xs) h =
    let l : x < 2 ^ 64 = h 0 in
    let e : (x + 0) % 2 ^ 64 ≡ x = omega arith in
    rw (e, none_from (suc i) xs (λ j. h (suc j)))

pub figures_none : (figures : List ℕ) → ((j : ℕ) → get_or figures j 0 < 2 ^ 64) → figures_after [] figures ≡ figures
figures_none figures h = none_from 0 figures h

-- one more erase: the figure of its block is one more
one_more : (b c : ℕ) (os : List Op) → erases_in c (os ++ (erase b ∷ [])) ≡ erases_in c os + bit (eqb c b)
one_more b c os = erases_append c os (erase b ∷ []) ∙ omega arith

pub figures_more : (os : List Op) (b : ℕ) (figures : List ℕ) → b < length figures
    → set (figures_after os figures) b ((get_or (figures_after os figures) b 0 + 1) % 2 ^ 64) ≡ figures_after (os ++ (erase b ∷ [])) figures
figures_more os b figures l =
    let z : b ≡ 0 + b = omega arith in
    let e : erases_in b (os ++ (erase b ∷ [])) ≡ erases_in b os + 1 = one_more b b os ∙ rw (eq-eqb b b refl) in
    let v : (get_or (figures_after os figures) b 0 + 1) % 2 ^ 64 ≡ (get_or figures b 0 + erases_in b (os ++ (erase b ∷ []))) % 2 ^ 64 = rw (e, figure_at os figures b l) (omega arith) in
    map_from_set 0 (λ c n. (n + erases_in c os) % 2 ^ 64) (λ c n. (n + erases_in c (os ++ (erase b ∷ []))) % 2 ^ 64) figures b _ 0 l
    (v ∙ ap (λ (c : ℕ). (get_or figures b 0 + erases_in c (os ++ (erase b ∷ []))) % 2 ^ 64) z)
    (λ c n d. let f : erases_in c (os ++ (erase b ∷ [])) ≡ erases_in c os = one_more b c os ∙ rw (ne_eqb c b (λ q. d (q ∙ z))) (omega arith) in rw f)
