-- Units pushed behind those of a buffer: one after the other, and what the buffer keeps. Assumes nothing.
use mathlib.Core.Path.{◌≡◌, refl, sym, ap, ap₂, ◌∙◌}
use mathlib.Core.List.{List, [], ◌∷◌, ◌++◌}
use Prim.Native.Nat.{ℕ, ◌+◌, ◌*◌, ◌<◌, ◌≤◌}
use native.Mathlib.Omega.{arith}
use lib.ListN.{length, take, drop, length-append, length-take, length-drop}
use lib.Seq.{take-take}
use Rattle.lists.specs.Lists.{flat, patch}
use Rattle.pages.specs.declared.unit.Unit as U
use Rattle.pages.specs.Units.{encode}
use Rattle.pages.proofs.UnitLaws.{length_units}
use Rattle.views.specs.PassCode.{pushed}
use Rattle.views.proofs.BufferLaws.{length_pushed, pushed_none, pushed_one, pushed_append, take_pushed}
use Rattle.tree.specs.UpdateCode.{UnitsPushed, FrontKept}

-- ---- units pushed one after the other
-- one unit
pub written_one : (u : U.Unit) (count : ℕ) (old new : List ℕ) → new ≡ patch old (12 * count) 12 (encode u) → length old ≡ 11520
    → UnitsPushed (u ∷ []) count old new (count + 1)
written_one u count old new e l = record { bytes = pushed_one old new count u e; size = refl; long = l }

-- two lists of units
pub written_two : (us vs : List U.Unit) (count i j : ℕ) (old mid new : List ℕ) → UnitsPushed us count old mid i → UnitsPushed vs i mid new j → i ≤ 960
    → UnitsPushed (us ++ vs) count old new j
written_two us vs count i j old mid new a b h = record {
  bytes =
      b.bytes ∙ ap₂ (λ (x : List ℕ) (m : ℕ). pushed x m vs) a.bytes a.size
      ∙ pushed_append old count us vs (omega (arith, a.size, a.long));
  size = b.size ∙ rw length-append (omega (arith, a.size));
  long = a.long;
}

-- a list of units and two more
pub written_more : (us : List U.Unit) (u v : U.Unit) (count i j used : ℕ) (old mid next new : List ℕ) → UnitsPushed us count old mid i
    → next ≡ patch mid (12 * i) 12 (encode u) → length mid ≡ 11520 → new ≡ patch next (12 * j) 12 (encode v) → length next ≡ 11520
    → j ≡ i + 1 → used ≡ j + 1 → j < 960 → UnitsPushed (us ++ (u ∷ v ∷ [])) count old new used
written_more us u v count i j used old mid next new a e l f m p q h =
    written_two us (u ∷ v ∷ []) count i used old mid new a
    (written_two (u ∷ []) (v ∷ []) i j used mid next new (rw p (written_one u i mid next e l)) (rw q (written_one v j next new f m)) (omega arith))
    (omega arith)

-- four units
module _ (a b c d : U.Unit) (count : ℕ) (b₀ b₁ b₂ b₃ b₄ : List ℕ) where
  pub written_four : b₁ ≡ patch b₀ (12 * count) 12 (encode a) → length b₀ ≡ 11520 → b₂ ≡ patch b₁ (12 * (count + 1)) 12 (encode b) → length b₁ ≡ 11520
      → b₃ ≡ patch b₂ (12 * (count + 2)) 12 (encode c) → length b₂ ≡ 11520 → b₄ ≡ patch b₃ (12 * (count + 3)) 12 (encode d) → length b₃ ≡ 11520
      → count + 4 ≤ 960 → UnitsPushed (a ∷ b ∷ c ∷ d ∷ []) count b₀ b₄ (count + 4)
  written_four e₁ l₀ e₂ l₁ e₃ l₂ e₄ l₃ h =
      let none : UnitsPushed [] count b₀ b₀ count = record { bytes = sym (pushed_none b₀ count); size = omega arith; long = l₀ } in
      written_more (a ∷ b ∷ []) c d count (count + 2) (count + 3) (count + 4) b₀ b₂ b₃ b₄
      (written_more [] a b count count (count + 1) (count + 2) b₀ b₀ b₁ b₂ none e₁ l₀ e₂ l₁ refl (omega arith) (omega arith))
      e₃ l₂ e₄ l₃ (omega arith) (omega arith) (omega arith)

-- ---- the buffer's length
-- it is that before units that do not reach to the end
pub length_before : (b : List ℕ) (c : ℕ) (us : List U.Unit) (n : ℕ) → length (pushed b c us) ≡ n → 12 * (c + length us) < n → length b ≡ n
length_before b c us n e h =
    let a : ℕ = 12 * c in
    let k : ℕ = 12 * length us in
    let rest : List ℕ = drop k (drop a b) in
    omega (
      arith,
      length-append (take a b) (flat encode us ++ rest),
      length-append (flat encode us) rest,
      length-take a b,
      length_units us,
      length-drop k (drop a b),
      length-drop a b,
    )

-- ---- what the buffer keeps
-- where units are pushed
pub front_pushed : (us : List U.Unit) (count used : ℕ) (old new : List ℕ) → UnitsPushed us count old new used → used ≤ 960 → FrontKept count old used new
front_pushed us count used old new w h = record {
  same = ap length w.bytes ∙ length_pushed old count us (omega (arith, w.size, w.long));
  front = ap (take (12 * count)) w.bytes ∙ take_pushed old count us (omega (arith, w.size, w.long));
  more = omega (arith, w.size);
  room = h;
}

-- where none are
pub front_same : (count used : ℕ) (b : List ℕ) → used ≡ count → count ≤ 960 → FrontKept count b used b
front_same count used b e h = record { same = refl; front = refl; more = omega arith; room = omega arith }

-- first some, then others
pub front_then : (count i j : ℕ) (old mid new : List ℕ) → FrontKept count old i mid → FrontKept i mid j new → FrontKept count old j new
front_then count i j old mid new a b = record {
  same = b.same ∙ a.same;
  front =
      sym (take-take (12 * count) (12 * i) new (omega (arith, a.more))) ∙ ap (take (12 * count)) b.front
      ∙ take-take (12 * count) (12 * i) mid (omega (arith, a.more)) ∙ a.front;
  more = omega (arith, a.more, b.more);
  room = b.room;
}
