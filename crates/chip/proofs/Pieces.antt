-- A walk over the pieces of k elements of a list, from the first on. Assumes nothing.
use Rattle.std.proofs.Common.{◌≡◌, ℕ, suc, ◌+◌, ◌-◌, ◌*◌, ◌<◌, ◌≤◌, leb, List, [], ◌++◌, length, get_or, take, drop, sym, ap, ◌∙◌, mul-le-mul_right, suc-mul, arith, length-append, length-drop, drop-drop, drop_at, take_at, leb-false, leb-true}
use Rattle.lists.specs.Lists.{cut}
use Rattle.lists.proofs.Tests.{cases}
use Rattle.lists.proofs.Parts.{cut_at}

-- piece i of n, and what is left behind it
pub record Piece (k n i : ℕ) (xs piece more : List ℕ) : Type 0 where
  pub below : i < n
  pub stands : get_or (cut k n xs) i [] ≡ piece
  pub rest : more ≡ drop ((i + 1) * k) xs

module _ (k n i : ℕ) (xs : List ℕ) (pos : 0 < k) (len : length xs ≡ n * k) where
  left : length (drop (i * k) xs) ≡ n * k - i * k
  left = length-drop (i * k) xs ∙ ap (λ (m : ℕ). m - i * k) len

  pub next_piece : (piece more : List ℕ) → drop (i * k) xs ≡ piece ++ more → length piece ≡ k → Piece k n i xs piece more
  next_piece piece more e l =
      let low : i < n =
      cases (leb n i)
      (λ t.
      let m : n * k ≤ i * k = mul-le-mul_right k (leb-true n i t) in
      absurd (omega (arith, left, ap length e ∙ length-append piece more)))
      (λ t. leb-false n i t) in
      record {
        below = low;
        stands = cut_at k n i xs [] low ∙ ap (take k) e ∙ take_at piece more k l;
        rest =
            sym (drop_at piece more k l) ∙ ap (drop k) (sym e) ∙ drop-drop k (i * k) xs
            ∙ ap (λ (m : ℕ). drop m xs) (let q : i * k + k ≡ (i + 1) * k = omega (arith, suc-mul i k) in q);
      }

  -- no piece is left
  pub last_piece : length (drop (i * k) xs) < k → i ≤ n → i ≡ n
  last_piece h b =
      cases (leb n i)
      (λ t. let m = leb-true n i t in omega arith)
      (λ t.
      let m : suc i * k ≤ n * k = mul-le-mul_right k (leb-false n i t) in
      absurd (omega (arith, left, m, suc-mul i k)))
