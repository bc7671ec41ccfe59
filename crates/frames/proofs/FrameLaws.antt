-- The numbers of a line by its length, and its frame. Assumes nothing.
use mathlib.Core.Path.{◌≡◌, refl, sym, ap, ◌∙◌}
use mathlib.Core.Bool.{true, false}
use mathlib.Core.List.{List, [], ◌∷◌}
use Prim.Native.Nat.{ℕ, zero, suc, ◌+◌, ◌≤◌, ◌<◌}
use native.Mathlib.Omega.{arith}
use lib.Dec.{eqb}
use lib.ListN.{length, take, drop}
use lib.Seq.{take_all}
use Rattle.std.proofs.Common.{length-drop}
use Rattle.std.proofs.lemmas.List.{drop-drop}
use borrow.Author.Tests.{eq-eqb, ne_eqb, eqb-true}
use Rattle.std.specs.Prelude.{Option, Some, None, option_and_then}
use Rattle.lists.proofs.Tests.{cases, clash, and_left, and_right, and_intro}
use Rattle.store.specs.declared.step.Call.{Call}
use Rattle.frames.specs.declared.line.Line.{Line}
use Rattle.frames.specs.declared.frame.Fields.TheVariants.{Bare, Named, Single, Marked, Double}
use Rattle.frames.specs.Frames.{is_digit, all_digits, value, number_in, framed, frame_of, fields_of}
use Rattle.frames.specs.LineCode.{Frames}
use Rattle.frames.proofs.LineLaws.{full}

-- ---- digits in parts of a line
take_digits : (k : ℕ) (s : List ℕ) → all_digits s ≡ true → all_digits (take k s) ≡ true
take_digits zero s h = refl
take_digits (suc k) [] h = refl
take_digits (suc k) (b ∷ s) h =
    and_intro (is_digit b) (all_digits (take k s)) (and_left (is_digit b) (all_digits s) h) (take_digits k s (and_right (is_digit b) (all_digits s) h))

drop_digits : (a : ℕ) (s : List ℕ) → all_digits s ≡ true → all_digits (drop a s) ≡ true
drop_digits zero s h = h
drop_digits (suc a) [] h = refl
drop_digits (suc a) (b ∷ s) h = drop_digits a s (and_right (is_digit b) (all_digits s) h)

joined : (k : ℕ) (s : List ℕ) → all_digits (take k s) ≡ true → all_digits (drop k s) ≡ true → all_digits s ≡ true
joined zero s p q = q
joined (suc k) [] p q = refl
joined (suc k) (b ∷ s) p q =
    and_intro (is_digit b) (all_digits s) (and_left (is_digit b) (all_digits (take k s)) p) (joined k s (and_right (is_digit b) (all_digits (take k s)) p) q)

-- what is left behind a bytes is the part of k
rest : (s : List ℕ) (a k : ℕ) → length s ≡ a + k → take k (drop a s) ≡ drop a s
rest s a k h = take_all k (drop a s) (omega (arith, length-drop a s))

rest_digits : (s : List ℕ) (a k : ℕ) → length s ≡ a + k → all_digits (take k (drop a s)) ≡ true → all_digits (drop a s) ≡ true
rest_digits s a k h q = sym (ap all_digits (rest s a k h)) ∙ q

-- ---- the number of a part
number : (bs : List ℕ) (v : ℕ) → Some v ≡ number_in bs → (all_digits bs ≡ true) × (v ≡ value bs)
number bs v e =
    cases (all_digits bs)
    (λ t. (t, let f : Some v ≡ Some (value bs) = rw t at e in cc))
    (λ t. let f : ◌≡◌ {A = Option ℕ} (Some v) None = rw t at e in cc)

no_number : (bs : List ℕ) → None ≡ number_in bs → all_digits bs ≡ false
no_number bs e = cases (all_digits bs) (λ t. let f : ◌≡◌ {A = Option ℕ} None (Some (value bs)) = rw t at e in cc) (λ t. t)

-- ---- the numbers of the line s
module _ (s : List ℕ) where
  pub no_digits : (a k : ℕ) → None ≡ number_in (take k (drop a s)) → None ≡ fields_of s
  unfolding fields_of
  no_digits a k e =
      cases (all_digits s) (λ t. clash (take_digits k (drop a s) (drop_digits a s t)) (no_number (take k (drop a s)) e)) (λ t. simp t)

  pub other : (length s ≡ 2 → ⊥) → (length s ≡ 4 → ⊥) → (length s ≡ 10 → ⊥) → (length s ≡ 12 → ⊥) → (length s ≡ 18 → ⊥) → None ≡ fields_of s
  unfolding fields_of
  other h f i j k =
      cases (all_digits s)
      (λ d. simp (d, ne_eqb (length s) 2 h, ne_eqb (length s) 4 f, ne_eqb (length s) 10 i, ne_eqb (length s) 12 j, ne_eqb (length s) 18 k))
      (λ d. simp d)

  module _ (k : ℕ) (e : Some k ≡ number_in (take 2 s)) where
    pub of_two : length s ≡ 2 → Some (Bare k) ≡ fields_of s
    unfolding fields_of
    of_two h =
        let n = number (take 2 s) k e in
        let d : all_digits s ≡ true = sym (ap all_digits (take_all 2 s (omega arith))) ∙ n.0 in
        simp (d, eq-eqb (length s) 2 h, ← n.1)

    pub of_four : (b : ℕ) → length s ≡ 4 → Some b ≡ number_in (take 2 (drop 2 s)) → Some (Named k b) ≡ fields_of s
    unfolding fields_of
    of_four b h f =
        let n = number (take 2 s) k e in
        let m = number (take 2 (drop 2 s)) b f in
        let d = joined 2 s n.0 (rest_digits s 2 2 h m.0) in
        simp (d, ne_eqb (length s) 2 (λ z. omega arith), eq-eqb (length s) 4 h, ← n.1, ← m.1)

    pub of_ten : (v : ℕ) → length s ≡ 10 → Some v ≡ number_in (take 8 (drop 2 s)) → Some (Single k v) ≡ fields_of s
    unfolding fields_of
    of_ten v h f =
        let n = number (take 2 s) k e in
        let m = number (take 8 (drop 2 s)) v f in
        let d = joined 2 s n.0 (rest_digits s 2 8 h m.0) in
        simp (d, ne_eqb (length s) 2 (λ z. omega arith), ne_eqb (length s) 4 (λ z. omega arith), eq-eqb (length s) 10 h, ← n.1, ← m.1)

    -- a number at index 2, and j more bytes
    three_digits : (v w j : ℕ) → length s ≡ 10 + j → Some v ≡ number_in (take 8 (drop 2 s)) → Some w ≡ number_in (take j (drop 10 s)) → all_digits s ≡ true
    three_digits v w j h f g =
        let p = rest_digits s 10 j h (number (take j (drop 10 s)) w g).0 in
        let q : all_digits (drop 8 (drop 2 s)) ≡ true = ap all_digits (drop-drop 8 2 s) ∙ p in
        joined 2 s (number (take 2 s) k e).0 (joined 8 (drop 2 s) (number (take 8 (drop 2 s)) v f).0 q)

    pub of_twelve : (v b : ℕ) → length s ≡ 12 → Some v ≡ number_in (take 8 (drop 2 s)) → Some b ≡ number_in (take 2 (drop 10 s))
        → Some (Marked k v b) ≡ fields_of s
    unfolding fields_of
    of_twelve v b h f g =
        let d = three_digits v b 2 h f g in
        simp (
          d,
          ne_eqb (length s) 2 (λ z. omega arith),
          ne_eqb (length s) 4 (λ z. omega arith),
          ne_eqb (length s) 10 (λ z. omega arith),
          eq-eqb (length s) 12 h,
          ← (number (take 2 s) k e).1,
          ← (number (take 8 (drop 2 s)) v f).1,
          ← (number (take 2 (drop 10 s)) b g).1,
        )

    pub of_eighteen : (v w : ℕ) → length s ≡ 18 → Some v ≡ number_in (take 8 (drop 2 s)) → Some w ≡ number_in (take 8 (drop 10 s))
        → Some (Double k v w) ≡ fields_of s
    unfolding fields_of
    of_eighteen v w h f g =
        let d = three_digits v w 8 h f g in
        simp (
          d,
          ne_eqb (length s) 2 (λ z. omega arith),
          ne_eqb (length s) 4 (λ z. omega arith),
          ne_eqb (length s) 10 (λ z. omega arith),
          ne_eqb (length s) 12 (λ z. omega arith),
          eq-eqb (length s) 18 h,
          ← (number (take 2 s) k e).1,
          ← (number (take 8 (drop 2 s)) v f).1,
          ← (number (take 8 (drop 10 s)) w g).1,
        )

-- ---- the frame of a line
frame_by_fields : (bs : List ℕ) → frame_of bs ≡ option_and_then framed (fields_of bs)
unfolding frame_of fields_of
frame_by_fields bs =
    cases (all_digits bs)
    (λ d. cases (eqb (length bs) 2) (λ e. simp (d, e))
    (λ a. cases (eqb (length bs) 4)
    (λ e. let q : length bs ≡ 4 = eqb-true (length bs) 4 e in simp (d, a, e, ne_eqb (length bs) 10 (λ z. omega arith), ne_eqb (length bs) 18 (λ z. omega arith)))
    (λ b. cases (eqb (length bs) 10) (λ e. simp (d, a, b, e))
    (λ g. cases (eqb (length bs) 12)
    (λ e. let q : length bs ≡ 12 = eqb-true (length bs) 12 e in simp (d, a, b, g, e, ne_eqb (length bs) 18 (λ z. omega arith)))
    (λ h. cases (eqb (length bs) 18) (λ e. simp (d, a, b, g, h, e)) (λ i. simp (d, a, b, g, h, i)))))))
    (λ d. simp d)

-- a line that is longer than any frame
pub long : (bs : List ℕ) → 18 < length bs → None ≡ fields_of bs
long bs h = other bs (λ z. omega arith) (λ z. omega arith) (λ z. omega arith) (λ z. omega arith) (λ z. omega arith)

pub too_long : (l : Line) → 18 < l.len → Frames l None
unfolding Frames
too_long l h bs k = ap (option_and_then framed) (long bs (omega (arith, k.len))) ∙ sym (frame_by_fields bs)

pub in_full : (l : Line) (s : List ℕ) (r : Option Call) → (l.len ≤ 18) × (s ≡ take l.len l.bytes) → r ≡ option_and_then framed (fields_of s) → Frames l r
unfolding Frames
in_full l s r h e bs k =
    e ∙ ap (λ (x : List ℕ). option_and_then framed (fields_of x)) (full l s h.0 h.1 bs k) ∙ sym (frame_by_fields bs)
