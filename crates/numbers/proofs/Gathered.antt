-- The set of the numbers whose count is 0, number by number. Assumes nothing.
use mathlib.Core.Path.{◌≡◌, refl, sym, ap, ◌∙◌}
use mathlib.Core.Bool.{Bool, true, false}
use mathlib.Core.Logic.{⊎_elim}
use mathlib.Core.List.{List, [], ◌∷◌, ◌++◌}
use Prim.Native.Nat.{ℕ, zero, suc, ◌+◌, ◌*◌, ◌-◌, ◌<◌, ◌≤◌}
use native.Mathlib.Nat.{zero-add}
use native.Mathlib.Numerals.{add-one}
use native.Mathlib.Omega.{arith}
use lib.Dec.{eqb}
use lib.ListN.{length, take, drop, get_or, length-drop, length-append}
use lib.Seq.{take-nil, drop-nil, take-append-le, drop-append-le, set_at}
use borrow.Author.Tests.{eq-eqb, ne_eqb}
use Rattle.lists.specs.Lists.{bit, part, tab}
use Rattle.lists.proofs.Flats.{tab_same, tab_last, length_tab}
use Rattle.lists.proofs.Tests.{below_or_not}
use Rattle.chip.specs.SetCode.{set_of}
use Rattle.numbers.specs.NumberSet.{is_in, words_of, Changes, uncounted}

-- ---- what the words do not show: a number at the end that is not in, and numbers past 255
take_pad : (k : ℕ) (bs : List Bool) → set_of is_in (take k (bs ++ (false ∷ []))) ≡ set_of is_in (take k bs)
unfolding set_of
take_pad zero bs = refl
take_pad (suc k) [] = ap (λ (l : List Bool). set_of is_in l * 2 + 0) (take-nil k)
take_pad (suc k) (b ∷ bs) = ap (λ (s : ℕ). s * 2 + bit b) (take_pad k bs)

part_pad : (a k : ℕ) (bs : List Bool) → set_of is_in (part a k (bs ++ (false ∷ []))) ≡ set_of is_in (part a k bs)
part_pad zero k bs = take_pad k bs
part_pad (suc a) k [] = ap (λ (l : List Bool). set_of is_in (take k l)) (drop-nil a)
part_pad (suc a) k (b ∷ bs) = part_pad a k bs

pub words_pad : (bs : List Bool) → words_of (bs ++ (false ∷ [])) ≡ words_of bs
unfolding words_of
words_pad bs =
    tab_same
    (λ (w : ℕ). set_of is_in (part (64 * w) 64 (bs ++ (false ∷ []))))
    (λ (w : ℕ). set_of is_in (part (64 * w) 64 bs))
    0
    4
    (λ w l. part_pad (64 * w) 64 bs)

pub words_past : (bs cs : List Bool) → 256 ≤ length bs → words_of (bs ++ cs) ≡ words_of bs
unfolding words_of
words_past bs cs h =
    tab_same
    (λ (w : ℕ). set_of is_in (part (64 * w) 64 (bs ++ cs)))
    (λ (w : ℕ). set_of is_in (part (64 * w) 64 bs))
    0
    4
    (λ w l.
    ap (set_of is_in)
    (ap (take 64) (drop-append-le (64 * w) bs cs (omega arith)) ∙ take-append-le 64 (drop (64 * w) bs) cs (simp length-drop (omega arith))))

-- the first a of them, and b more
tab_parts : {A : Type 0} (f : ℕ → A) (k a b : ℕ) → tab k (a + b) f ≡ tab k a f ++ tab (k + a) b f
tab_parts f k zero b = let m : 0 + b ≡ b = omega arith in let z : k + 0 ≡ k = omega arith in rw (m, z)
tab_parts f k (suc a) b =
    let m : suc a + b ≡ suc (a + b) = omega arith in
    let z : suc k + a ≡ k + suc a = omega arith in
    rw m (ap (λ l. f k ∷ l) (tab_parts f (suc k) a b ∙ ap (λ (n : ℕ). tab (suc k) a f ++ tab n b f) z))

-- ---- a turn of gather's loop at number n, and its end
module _ (counts words : List ℕ) (n : ℕ) (e : words ≡ words_of (uncounted n counts)) where
  -- one number more
  uncounted_more : (b : Bool) → eqb (get_or counts n 0) 0 ≡ b → uncounted (n + 1) counts ≡ uncounted n counts ++ (b ∷ [])
  uncounted_more b q =
      ap (λ (m : ℕ). uncounted m counts) (add-one n)
      ∙ tab_last (λ (m : ℕ). eqb (get_or counts m 0) 0) 0 n
      ∙ ap (λ (x : Bool). uncounted n counts ++ (x ∷ [])) (ap (λ (m : ℕ). eqb (get_or counts m 0) 0) (zero-add n) ∙ q)

  -- number n is put in
  pub gather_put : (last : List ℕ) → n < 256 → get_or counts n 0 ≡ 0 → Changes true n words last → last ≡ words_of (uncounted (n + 1) counts)
  gather_put last h z c =
      let bs = uncounted n counts in
      let l : length bs ≡ n = length_tab (λ (m : ℕ). eqb (get_or counts m 0) 0) 0 n in
      let k : length (bs ++ (false ∷ [])) ≡ n + 1 = length-append bs (false ∷ []) ∙ ap (λ (m : ℕ). m + 1) l in
      c (bs ++ (false ∷ [])) (omega arith) (omega arith) (e ∙ sym (words_pad bs))
      ∙ ap words_of (set_at bs false [] true n l ∙ sym (uncounted_more true (eq-eqb (get_or counts n 0) 0 z)))

  -- number n is not put in
  pub gather_skip : (get_or counts n 0 ≡ 0 → ⊥) → words ≡ words_of (uncounted (n + 1) counts)
  gather_skip z =
      e ∙ sym (words_pad (uncounted n counts)) ∙ ap words_of (sym (uncounted_more false (ne_eqb (get_or counts n 0) 0 z)))

  -- all numbers below limit were looked at, or all below 256
  pub gather_end : (limit : ℕ) → n ≤ limit → (n < 256 → limit ≤ n) → words ≡ words_of (uncounted limit counts)
  gather_end limit h k =
      let f : ℕ → Bool = (λ (m : ℕ). eqb (get_or counts m 0) 0) in
      let q : n + (limit - n) ≡ limit = omega arith in
      e
      ∙ sym (⊎_elim (λ (l : n < 256). ap (λ (m : ℕ). words_of (uncounted m counts)) (let z : limit ≡ n = omega (arith, k l) in z))
      (λ (l : 256 ≤ n). ap (λ (m : ℕ). words_of (uncounted m counts)) (sym q) ∙ ap words_of (tab_parts f 0 n (limit - n)) ∙ words_past (uncounted n counts) (tab (0 + n) (limit - n) f) (omega (arith, length_tab f 0 n)))
      (below_or_not n 256))
