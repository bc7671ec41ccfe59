-- What a line holds as it grows. Assumes nothing.
use mathlib.Core.Path.{◌≡◌, sym, ap, ◌∙◌}
use mathlib.Core.List.{List, [], ◌∷◌, ◌++◌}
use Prim.Native.Nat.{ℕ, ◌+◌, ◌≤◌, ◌<◌, min}
use native.Mathlib.Omega.{arith}
use native.Mathlib.Numerals.{add-one}
use lib.Dec.{eqb}
use lib.ListN.{length, take, set, length-append}
use lib.Seq.{take_all, take-append-le, take-suc-set}
use borrow.Author.Tests.{ne_eqb}
use Rattle.frames.specs.declared.line.Line.{Line}
use Rattle.frames.specs.LineCode.{LineHolds, Longer, Empties}

-- a length below 19 is that of the bytes
pub min_back : (n k : ℕ) → k ≡ min 19 n → k < 19 → n ≡ k
min_back n k e h = omega arith

snoc_length : (bs : List ℕ) (b : ℕ) → length (bs ++ (b ∷ [])) ≡ length bs + 1
snoc_length bs b = length-append bs (b ∷ [])

-- a byte behind fewer than 18
pub pushed : (l : Line) (b : ℕ) → length l.bytes ≡ 18 → l.len < 18
    → Longer l b (record { len = l.len + 1; bytes = set l.bytes l.len b })
unfolding Longer
pushed l b s h bs k =
    let n : length bs ≡ l.len = min_back (length bs) l.len k.len (omega arith) in
    let m = snoc_length bs b in
    record {
      len = omega arith;
      bytes =
          ap (λ (x : ℕ). take x (set l.bytes l.len b)) (add-one l.len)
          ∙ take-suc-set l.bytes l.len b (omega arith)
          ∙ ap (λ (xs : List ℕ). xs ++ (b ∷ [])) (k.bytes ∙ take_all 18 bs (omega arith))
          ∙ sym (take_all 18 (bs ++ (b ∷ [])) (omega arith));
    }

-- a byte behind 18 or more
pub passed : (l : Line) (b : ℕ) → length l.bytes ≡ 18 → 18 ≤ l.len → Longer l b (record { len = 19; bytes = l.bytes })
unfolding Longer
passed l b s h bs k =
    let n : 18 ≤ length bs = omega (arith, k.len) in
    let m = snoc_length bs b in
    record {
      len = omega arith;
      bytes =
          take_all 19 l.bytes (omega arith)
          ∙ sym (take_all l.len l.bytes (omega arith))
          ∙ k.bytes
          ∙ sym (take-append-le 18 bs (b ∷ []) n);
    }

-- a line is empty where its length is 0
pub empties : (l : Line) → Empties l (eqb l.len 0)
unfolding Empties
empties l [] k = simp k.len
empties l (b ∷ bs) k =
    ne_eqb l.len 0 (λ z. let e : length (b ∷ bs) ≡ l.len = min_back (length (b ∷ bs)) l.len k.len (omega arith) in omega arith)

-- the bytes of a line that is not too long are all that it holds
pub full : (l : Line) (s : List ℕ) → l.len ≤ 18 → s ≡ take l.len l.bytes → (bs : List ℕ) → LineHolds l bs → s ≡ bs
full l s h e bs k =
    let n : length bs ≡ l.len = min_back (length bs) l.len k.len (omega arith) in e ∙ k.bytes ∙ take_all 18 bs (omega arith)
