-- The lines of bytes behind bytes, and of the bytes from an index on. Assumes nothing.
use mathlib.Core.Path.{◌≡◌, refl, sym, ap, ◌∙◌}
use mathlib.Core.Bool.{Bool, cond}
use mathlib.Core.List.{List, [], ◌∷◌, ◌++◌}
use Prim.Native.Nat.{ℕ, suc, ◌+◌, ◌<◌}
use native.Mathlib.Numerals.{add-one}
use lib.Dec.{eqb}
use lib.ListN.{length, get_or, drop}
use lib.Seq.{drop-cons}
use borrow.Author.Tests.{eq-eqb, ne_eqb}
use Rattle.lists.proofs.Tests.{cases}
use Rattle.frames.specs.Lines.{lines_in, line_after}

-- ---- bytes behind bytes
pub after_append : (bs cs begun : List ℕ) → line_after begun (bs ++ cs) ≡ line_after (line_after begun bs) cs
after_append [] cs begun = refl
after_append (b ∷ bs) cs begun =
    cases (eqb b 10) (λ e. rw e (after_append bs cs [])) (λ e. rw e (after_append bs cs (begun ++ (b ∷ []))))

pub lines_append : (bs cs begun : List ℕ) → lines_in begun (bs ++ cs) ≡ lines_in begun bs ++ lines_in (line_after begun bs) cs
lines_append [] cs begun = refl
lines_append (b ∷ bs) cs begun =
    cases (eqb b 10) (λ e. rw e (ap (λ (ls : List (List ℕ)). begun ∷ ls) (lines_append bs cs []))) (λ e. rw e (lines_append bs cs (begun ++ (b ∷ []))))

-- ---- the bytes from index k on, where b is the byte at k
module _ (bytes : List ℕ) (k b : ℕ) (e : b ≡ get_or bytes k 0) (m : k < length bytes) (begun : List ℕ) where
  front : drop k bytes ≡ b ∷ drop (k + 1) bytes
  front = drop-cons bytes k 0 m ∙ ap (λ (x : ℕ). x ∷ drop (suc k) bytes) (sym e) ∙ ap (λ (n : ℕ). b ∷ drop n bytes) (sym (add-one k))

  abbrev line_by : Bool → List ℕ
  line_by x = cond x (line_after [] (drop (k + 1) bytes)) (line_after (begun ++ (b ∷ [])) (drop (k + 1) bytes))

  abbrev lines_by : Bool → List (List ℕ)
  lines_by x = cond x (begun ∷ lines_in [] (drop (k + 1) bytes)) (lines_in (begun ++ (b ∷ [])) (drop (k + 1) bytes))

  -- a line feed
  pub after_feed : b ≡ 10 → line_after begun (drop k bytes) ≡ line_after [] (drop (k + 1) bytes)
  after_feed q = ap (line_after begun) front ∙ ap line_by (eq-eqb b 10 q)

  pub lines_feed : b ≡ 10 → lines_in begun (drop k bytes) ≡ begun ∷ lines_in [] (drop (k + 1) bytes)
  lines_feed q = ap (lines_in begun) front ∙ ap lines_by (eq-eqb b 10 q)

  -- another byte
  pub after_byte : (b ≡ 10 → ⊥) → line_after begun (drop k bytes) ≡ line_after (begun ++ (b ∷ [])) (drop (k + 1) bytes)
  after_byte q = ap (line_after begun) front ∙ ap line_by (ne_eqb b 10 q)

  pub lines_byte : (b ≡ 10 → ⊥) → lines_in begun (drop k bytes) ≡ lines_in (begun ++ (b ∷ [])) (drop (k + 1) bytes)
  lines_byte q = ap (lines_in begun) front ∙ ap lines_by (ne_eqb b 10 q)
