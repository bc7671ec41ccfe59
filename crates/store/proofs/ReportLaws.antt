-- The pages of a block, as the pages of its part of the image; and what a block report tells. Assumes nothing.
use mathlib.Core.Path.{◌≡◌, refl, sym, ap, ◌∙◌}
use mathlib.Core.List.{List, ◌++◌}
use Prim.Native.Nat.{ℕ, zero, suc, ◌+◌, ◌*◌, ◌-◌, ◌/◌, ◌<◌, ◌≤◌}
use lib.Dec.{leb}
use native.Mathlib.Nat.{mul_assoc}
use native.Mathlib.Omega.{arith}
use lib.ListN.{length, get_or, take, drop, length-drop, take-append-drop}
use lib.Seq.{take_at, drop_at, length-take-le}
use borrow.Author.Tests.{le-leb, lt-leb}
use Rattle.lists.specs.Lists.{part, cut, count, first}
use Rattle.lists.proofs.Parts.{length_part, length_cut, cut_append}
use Rattle.chip.specs.Geometry.{Geometry, Fits, page_size, block_size}
use Rattle.chip.specs.Page.{is_free}
use Rattle.chip.specs.Chip.{pages_of}
use Rattle.chip.proofs.ImageLaws.{block_cut}
use Rattle.chip.proofs.Sizes.{block_on, block_end, blocks_pages, nand_fits}
use Rattle.promise.specs.Plain.{admission, or_else, when}
use Rattle.std.specs.Prelude.{Result, Ok, Err}
use Rattle.store.specs.declared.answer.Report.{Report}
use Rattle.store.specs.declared.answer.Refusal.TheVariants.{Absent}
use Rattle.store.specs.declared.answer.Refusal.{Refusal}
use Rattle.store.specs.declared.state.State.{State}
use Rattle.store.specs.State.{geometry_in}
use Rattle.store.specs.Answers.{report_refusal}
use Rattle.store.specs.Ensured.{report_number, block_pages, Reports}

-- m pieces of k elements behind the first a
pub cut_part : (k a m r n : ℕ) (xs : List ℕ) → n ≡ a + (m + r) → length (take (a * k) xs) ≡ a * k → length (take (m * k) (drop (a * k) xs)) ≡ m * k
    → part a m (cut k n xs) ≡ cut k m (part (a * k) (m * k) xs)
cut_part k a m r n xs e la lm =
    let ys : List ℕ = drop (a * k) xs in
    let w : cut k n xs ≡ cut k a (take (a * k) xs) ++ cut k (m + r) ys = ap (cut k n) (sym (take-append-drop (a * k) xs)) ∙ cut_append k a (m + r) n (take (a * k) xs) ys e la in
    ap (part a m) w
    ∙ ap (take m) (drop_at (cut k a (take (a * k) xs)) (cut k (m + r) ys) a (length_cut k a (take (a * k) xs)))
    ∙ ap (λ (zs : List ℕ). take m (cut k (m + r) zs)) (sym (take-append-drop (m * k) ys))
    ∙ ap (take m) (cut_append k m r (m + r) (take (m * k) ys) (drop (m * k) ys) refl lm)
    ∙ take_at (cut k m (take (m * k) ys)) (cut k r (drop (m * k) ys)) m (length_cut k m (take (m * k) ys))

-- block b of a chip of so many blocks
pub block_pages_lem : (g : Geometry) → Fits g → (b blocks : ℕ) (xs : List ℕ) → length xs ≡ blocks * block_size g → b < blocks
    → pages_of g (part (b * block_size g) (block_size g) xs) ≡ block_pages g b xs
unfolding pages_of
block_pages_lem g f b blocks xs l h =
    let k : ℕ = page_size g in
    let m : ℕ = g.pages in
    let in_bytes : b * block_size g + block_size g ≤ length xs = omega (arith, l, block_end g b blocks h) in
    let in-pages : length xs / k ≡ b * m + (m + (length xs / k - (b * m + m))) = omega (arith, blocks_pages g f (length xs) blocks l, block_on g b blocks h) in
    let start : b * m * k ≡ b * block_size g = mul_assoc b m k in
    block_cut g (part (b * block_size g) (block_size g) xs) f (length_part xs (b * block_size g) (block_size g) in_bytes)
    ∙ ap (λ (n : ℕ). cut k m (part n (block_size g) xs)) (sym start)
    ∙ sym (cut_part k (b * m) m (length xs / k - (b * m + m)) (length xs / k) xs in-pages
    (length-take-le (b * m * k) xs (omega (arith, start, in_bytes)))
    (length-take-le (m * k) (drop (b * m * k) xs) (simp length-drop (omega (arith, start, in_bytes)))))

first_or_lem : (n m : ℕ) → 0 < n → n ≡ or_else n m
first_or_lem zero m h = absurd (omega arith)
first_or_lem (suc n) m h = refl

module _ (b : ℕ) (s : State) (i : List ℕ) where
  abbrev g : Geometry
  g = geometry_in s

  -- refused with 2 or 1
  pub report_first : (r : Result Report Refusal) → 0 < report_refusal r → report_refusal r ≡ admission g s.on s.blocks (length i) → Reports b s i r
  report_first r h e =
      record {
        refusal = first_or_lem (report_refusal r) (when 4 (leb s.blocks b)) h ∙ ap (λ (m : ℕ). or_else m (when 4 (leb s.blocks b))) e;
        free = λ z. absurd (omega arith);
        first = λ z. absurd (omega arith);
        erases = λ z. absurd (omega arith);
      }

  module _ (e : 0 ≡ admission g s.on s.blocks (length i)) where
    number_is : (n : ℕ) → n ≡ when 4 (leb s.blocks b) → n ≡ report_number s (length i) b
    number_is n q = q ∙ ap (λ (m : ℕ). or_else m (when 4 (leb s.blocks b))) e

    -- and with 4
    pub report_absent : s.blocks ≤ b → Reports b s i (Err Absent)
    report_absent h =
        record {
          refusal = number_is 4 (rw (le-leb s.blocks b h));
          free = λ z. absurd (omega arith);
          first = λ z. absurd (omega arith);
          erases = λ z. absurd (omega arith);
        }

    -- the free pages of the block's part of the image
    pub report_free : b < s.blocks → length i ≡ s.blocks * block_size g → (n f e size : ℕ) → size ≡ block_size g
        → n ≡ count is_free (pages_of g (part (b * block_size g) size i)) → f ≡ first is_free (pages_of g (part (b * block_size g) size i))
        → e ≡ get_or s.erases b 0 → Reports b s i (Ok (record { free = n; first = f; erases = e }))
    report_free h l n f e size z c d k =
        let w : pages_of g (part (b * block_size g) size i) ≡ block_pages g b i = ap (λ (m : ℕ). pages_of g (part (b * block_size g) m i)) z ∙ block_pages_lem g (nand_fits s.nand) b s.blocks i l h in
        record {
          refusal = number_is 0 (rw (lt-leb s.blocks b h));
          free = λ _. c ∙ ap (count is_free) w;
          first = λ _. d ∙ ap (first is_free) w;
          erases = λ _. k;
        }
