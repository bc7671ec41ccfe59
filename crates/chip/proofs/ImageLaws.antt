-- From a part of the image to the whole: what was done to a page or to a block is a step of the chip. Assumes nothing.
use Rattle.std.proofs.Common.{◌≡◌, ℕ, zero, suc, ◌+◌, ◌-◌, ◌*◌, ◌/◌, ◌<◌, ◌≤◌, cond, eqb, List, [], ◌∷◌, ◌++◌, length, get_or, drop, replicate, sym, refl, ap, ◌∙◌, ap₂, mul_assoc, add-mul, arith, le-ltb, lt-ltb, le-leb}
use borrow.Author.Tests.{lt-leb}
use Rattle.lists.specs.Lists.{all, modify, map_from, part, patch, cut, repeat, flat}
use Rattle.lists.proofs.Tests.{cases}
use Rattle.lists.proofs.Flats.{all_joined}
use Rattle.lists.proofs.Places.{modify_id}
use Rattle.lists.proofs.Parts.{length_part, length_patch, patch_same, lent, length_cut, cut_at, cut_modify, cut_patch, cut_repeat, flat_cut, length_repeat}
use Rattle.chip.specs.declared.power.Power.{Power}
use Rattle.chip.specs.declared.power.Outcome.{Outcome}
use Rattle.chip.specs.declared.power.Outcome.TheVariants.{Whole, Torn, Nothing}
use Rattle.chip.specs.declared.operation.Kind.TheVariants as K
use Rattle.chip.specs.declared.operation.Operation.{Operation}
use Rattle.chip.specs.declared.progress.Progress.{Progress}
use Rattle.chip.specs.Geometry.{Geometry, Fits, page_size, block_size}
use Rattle.chip.specs.Power.{outcome, choose, effect}
use Rattle.chip.specs.Page.{Page, is_free, blank, torn_page}
use Rattle.chip.specs.Chip.{pages_of, in_block, filled, Op, erase, kind_of, whole, tear, whole_block, torn_block, step}
use Rattle.chip.specs.RunCode.{progressed, Operated, Stepped}
use Rattle.chip.proofs.CountLaws.{progressed_told}
use Rattle.chip.proofs.PageLaws.{length_blank, length_torn}
use Rattle.chip.proofs.Sizes.{blocks_pages}

-- what an operation leaves, by its outcome: where something holds of all three results, it holds of the one
pub effect_has : {A : Type 0} (P : A → Type 0) (o : Outcome) (w t s : A) → P w → P t → P s → P (choose o w t s)
effect_has P Whole w t s a b c = a
effect_has P Torn w t s a b c = b
effect_has P Nothing w t s a b c = c

pub effect_modify : {A : Type 0} (o : Outcome) (n : ℕ) (w t : A → A) (xs : List A)
    → modify n (λ (x : A). choose o (w x) (t x) x) xs ≡ choose o (modify n w xs) (modify n t xs) xs
effect_modify Whole n w t xs = refl
effect_modify Torn n w t xs = refl
effect_modify Nothing n w t xs = modify_id n xs

effect_map : {A B : Type 0} (f : A → B) (o : Outcome) (w t s : A) → f (choose o w t s) ≡ choose o (f w) (f t) (f s)
effect_map f Whole w t s = refl
effect_map f Torn w t s = refl
effect_map f Nothing w t s = refl

-- ---- y in place of each page of a block, as a patch of the list of pages
module _ (g : Geometry) (b : ℕ) (y : Page) where
  past : (i : ℕ) (ps : List Page) → b * g.pages + g.pages ≤ i → map_from i (filled g b y) ps ≡ ps
  unfolding in_block
  past i [] h = refl
  past i (x ∷ xs) h = rw (le-leb (b * g.pages) i (omega arith), le-ltb i (b * g.pages + g.pages) h, past (suc i) xs (omega arith))

  within : (m i : ℕ) (ps : List Page) → b * g.pages ≤ i → i + m ≡ b * g.pages + g.pages → m ≤ length ps
      → map_from i (filled g b y) ps ≡ replicate m y ++ drop m ps
  unfolding in_block
  within zero i ps h e l = past i ps (omega arith)
  within (suc m) i [] h e l = absurd (omega arith)
  within (suc m) i (x ∷ xs) h e l =
      rw (le-leb (b * g.pages) i h, lt-ltb i (b * g.pages + g.pages) (omega arith), within m (suc i) xs (omega arith) (omega arith) (omega arith))

  ahead : (k i : ℕ) (ps : List Page) → i + k ≡ b * g.pages → k + g.pages ≤ length ps
      → map_from i (filled g b y) ps ≡ patch ps k g.pages (replicate g.pages y)
  unfolding in_block
  ahead zero i ps e l = within g.pages i ps (omega arith) (omega arith) (omega arith)
  ahead (suc k) i [] e l = absurd (omega arith)
  ahead (suc k) i (x ∷ xs) e l = rw (lt-leb (b * g.pages) i (omega arith), ahead k (suc i) xs (omega arith) (omega arith))

  pub filled_patch : (ps : List Page) → b * g.pages + g.pages ≤ length ps
      → map_from 0 (filled g b y) ps ≡ patch ps (b * g.pages) g.pages (replicate g.pages y)
  filled_patch ps l = ahead (b * g.pages) 0 ps (omega arith) l

-- ---- an image of a whole number of pages
module _ (g : Geometry) (xs : List ℕ) where
  pub length_pages : length (pages_of g xs) ≡ length xs / page_size g
  unfolding pages_of
  length_pages = length_cut (page_size g) (length xs / page_size g) xs

  -- page p as a part of the image
  pub page_at_lem : (p : ℕ) → p < length xs / page_size g → get_or (pages_of g xs) p [] ≡ part (p * page_size g) (page_size g) xs
  unfolding pages_of
  page_at_lem p h = cut_at (page_size g) (length xs / page_size g) p xs [] h

  -- the pages of one block
  pub block_cut : Fits g → length xs ≡ block_size g → pages_of g xs ≡ cut (page_size g) g.pages xs
  unfolding pages_of
  block_cut f h = ap (λ (n : ℕ). cut (page_size g) n xs) (blocks_pages g f (length xs) 1 (omega (arith, h)) ∙ (let e : 1 * g.pages ≡ g.pages = omega arith in e))

  pub block_length : Fits g → length xs ≡ block_size g → length (pages_of g xs) ≡ g.pages
  block_length f h = ap length (block_cut f h) ∙ length_cut (page_size g) g.pages xs

  module _ (n : ℕ) (en : length xs / page_size g ≡ n) (lx : length xs ≡ n * page_size g) where
    -- the pages say every byte
    pub pages_bytes : flat (λ (x : Page). x) (pages_of g xs) ≡ xs
    unfolding pages_of
    pages_bytes = rw en (flat_cut (page_size g) n xs lx)

    -- all bytes are 255 where all pages are free
    pub pages_free : is_free xs ≡ all is_free (pages_of g xs)
    unfolding is_free
    pages_free = ap (all (λ (b : ℕ). eqb b 255)) (sym pages_bytes) ∙ all_joined (λ (b : ℕ). eqb b 255) (pages_of g xs)

    same_cut : (ys : List ℕ) → length ys ≡ length xs → pages_of g ys ≡ cut (page_size g) n ys
    unfolding pages_of
    same_cut ys h = rw (h, en)

    -- two images of this length with the same pages are the same
    pub same_image_lem : (ys : List ℕ) → length ys ≡ length xs → pages_of g ys ≡ pages_of g xs → ys ≡ xs
    same_image_lem ys h e =
        let each : List Page → List ℕ = flat (λ (x : Page). x) in
        sym (ap each (same_cut ys h) ∙ flat_cut (page_size g) n ys (h ∙ lx)) ∙ ap each e ∙ pages_bytes

    page_fits : (p : ℕ) → p < n → p * page_size g + page_size g ≤ length xs
    page_fits p h =
        let d : ℕ = n - (p + 1) in
        let q : n ≡ p + (1 + d) = omega arith in
        omega (arith, lx, ap (λ (i : ℕ). i * page_size g) q, add-mul p (1 + d) (page_size g), add-mul 1 d (page_size g))

    -- page p lent and put back as f makes it
    pub page_lent : (p : ℕ) (f : Page → Page) → p < n → length (f (part (p * page_size g) (page_size g) xs)) ≡ page_size g → (last : List ℕ)
        → last ≡ f (part (p * page_size g) (p * page_size g + page_size g - p * page_size g) xs)
        → (pages_of g (patch xs (p * page_size g) (p * page_size g + page_size g - p * page_size g) last) ≡ modify p f (pages_of g xs))
        × (length (patch xs (p * page_size g) (p * page_size g + page_size g - p * page_size g) last) ≡ length xs)
    page_lent p f h size last e =
        let k : ℕ = page_size g in
        let x : Page = part (p * k) k xs in
        let is : patch xs (p * k) (p * k + k - p * k) last ≡ patch xs (p * k) k (f x) = lent f xs (p * k) k last e in
        let same : length (patch xs (p * k) k (f x)) ≡ length xs = length_patch xs (p * k) k (f x) (page_fits p h) size in (
          ap (pages_of g) is
              ∙ same_cut (patch xs (p * k) k (f x)) same
              ∙ cut_modify k p n f xs h lx size
              ∙ ap (modify p f) (sym (same_cut xs refl)),
          ap length is ∙ same,
        )

    -- an operation on page p, done on its part: w and t say what it makes of the page, whole and torn
    pub page_stepped : (torn : List ℕ) (o : Op) (p : ℕ) (w t : Page → Page)
        → ((ps : List Page) → whole g o ps ≡ modify p w ps) → ((ps : List Page) → tear g torn o ps ≡ modify p t ps)
        → p < n
        → length (w (part (p * page_size g) (page_size g) xs)) ≡ page_size g
        → length (t (part (p * page_size g) (page_size g) xs)) ≡ page_size g
        → (pr q : Progress) (r : Operation) (last : List ℕ)
        → q ≡ progressed pr.done r
        → Operated (kind_of o) pr.left r last (w (part (p * page_size g) (p * page_size g + page_size g - p * page_size g) xs))
        (t (part (p * page_size g) (p * page_size g + page_size g - p * page_size g) xs)) (part (p * page_size g) (p * page_size g + page_size g - p * page_size g) xs)
        → Stepped g torn o pr q xs (patch xs (p * page_size g) (p * page_size g + page_size g - p * page_size g) last)
    page_stepped torn o p w t ew et h lw lt pr q r last e op =
        let k : ℕ = page_size g in
        let pw : Power = pr.left in
        let f : Page → Page = λ (x : Page). effect pw (w x) (t x) x in
        let x : Page = part (p * k) k xs in
        let size : length (f x) ≡ k = effect_has (λ (z : Page). length z ≡ k) (outcome pw) (w x) (t x) x lw lt (length_part xs (p * k) k (page_fits p h)) in
        let put = page_lent p f h size last op.left in
        record {
          is =
              ap₂ (λ (q : Power) (ps : List Page). record { power = q; pages = ps })
              (ap (λ (x : Progress). x.left) e ∙ ap (λ (x : Operation). x.left) op.told)
              (put.0
              ∙ effect_modify (outcome pw) p w t (pages_of g xs)
              ∙ ap₂ (λ (u v : List Page). effect pw u v (pages_of g xs)) (sym (ew (pages_of g xs))) (sym (et (pages_of g xs))));
          size = put.1;
          told = ap (λ (x : Progress). x.done) e ∙ progressed_told pr.done pw (kind_of o) r op.told;
        }

    -- an erase of block b, done on its part
    module _ (b r : ℕ) (eb : n ≡ b * g.pages + (g.pages + r)) (torn : List ℕ) (lt : length torn ≡ page_size g) where
      start : b * block_size g ≡ b * g.pages * page_size g
      start = sym (mul_assoc b g.pages (page_size g))

      fits : b * block_size g + block_size g ≤ length xs
      fits =
          omega (
            arith,
            start,
            lx,
            ap (λ (i : ℕ). i * page_size g) eb,
            add-mul (b * g.pages) (g.pages + r) (page_size g),
            add-mul g.pages r (page_size g),
          )

      whole_pages : (y : Page) → length y ≡ page_size g
          → cut (page_size g) n (patch xs (b * block_size g) (block_size g) (repeat g.pages y)) ≡ map_from 0 (filled g b y) (cut (page_size g) n xs)
      whole_pages y e =
          let k : ℕ = page_size g in
          ap (λ (a : ℕ). cut k n (patch xs a (block_size g) (repeat g.pages y))) start
          ∙ cut_patch k (b * g.pages) g.pages r n xs eb lx (repeat g.pages y) (length_repeat g.pages y ∙ ap (λ (m : ℕ). g.pages * m) e)
          ∙ ap (patch (cut k n xs) (b * g.pages) g.pages) (cut_repeat g.pages y k e)
          ∙ sym (filled_patch g b y (cut k n xs) (rw length_cut (omega arith)))

      block_size_lem : (y : Page) → length y ≡ page_size g → length (repeat g.pages y) ≡ block_size g
      block_size_lem y e = length_repeat g.pages y ∙ ap (λ (m : ℕ). g.pages * m) e

      part_size : length (part (b * block_size g) (block_size g) xs) ≡ block_size g
      part_size = length_part xs (b * block_size g) (block_size g) fits

      same_pages : cut (page_size g) n (patch xs (b * block_size g) (block_size g) (part (b * block_size g) (block_size g) xs)) ≡ cut (page_size g) n xs
      same_pages = ap (cut (page_size g) n) (patch_same xs (b * block_size g) (block_size g))

      torn_pages : cut (page_size g) n (patch xs (b * block_size g) (block_size g) (torn_block g torn (part (b * block_size g) (block_size g) xs)))
          ≡ cond (eqb (get_or torn 0 0) 0) (cut (page_size g) n xs) (map_from 0 (filled g b (torn_page g torn)) (cut (page_size g) n xs))
      torn_pages =
          cases (eqb (get_or torn 0 0) 0) (λ t. rw t same_pages) (λ t. rw t (whole_pages (torn_page g torn) (length_torn g torn lt)))

      torn_size : length (torn_block g torn (part (b * block_size g) (block_size g) xs)) ≡ block_size g
      torn_size = cases (eqb (get_or torn 0 0) 0) (λ t. rw t part_size) (λ t. rw t (block_size_lem (torn_page g torn) (length_torn g torn lt)))

      pub block_stepped : (pr q : Progress) (o : Operation) (last : List ℕ)
          → q ≡ progressed pr.done o
          → Operated K.Erase pr.left o last (whole_block g) (torn_block g torn (part (b * block_size g) (b * block_size g + block_size g - b * block_size g) xs))
          (part (b * block_size g) (b * block_size g + block_size g - b * block_size g) xs)
          → Stepped g torn (erase b) pr q xs (patch xs (b * block_size g) (b * block_size g + block_size g - b * block_size g) last)
      block_stepped pr q o last e h =
          let p : Power = pr.left in
          let k : ℕ = page_size g in
          let a : ℕ = b * block_size g in
          let s : ℕ = block_size g in
          let f : List ℕ → List ℕ = λ (x : List ℕ). effect p (whole_block g) (torn_block g torn x) x in
          let x : List ℕ = part a s xs in
          let is : patch xs a (a + s - a) last ≡ patch xs a s (f x) = lent f xs a s last h.left in
          let size : length (f x) ≡ s = effect_has (λ (z : List ℕ). length z ≡ s) (outcome p) (whole_block g) (torn_block g torn x) x (block_size_lem (blank g) (length_blank g)) torn_size part_size in
          let same : length (patch xs a s (f x)) ≡ length xs = length_patch xs a s (f x) fits size in
          record {
            is =
                ap₂ (λ (r : Power) (ps : List Page). record { power = r; pages = ps })
                (ap (λ (x : Progress). x.left) e ∙ ap (λ (x : Operation). x.left) h.told)
                (ap (pages_of g) is
                ∙ same_cut (patch xs a s (f x)) same
                ∙ effect_map (λ (z : List ℕ). cut k n (patch xs a s z)) (outcome p) (whole_block g) (torn_block g torn x) x
                ∙ ap₂ (λ (u : List Page) (v : List Page). choose (outcome p) u v (cut k n (patch xs a s x))) (whole_pages (blank g) (length_blank g)) torn_pages
                ∙ ap (λ (v : List Page). choose (outcome p) (map_from 0 (filled g b (blank g)) (cut k n xs)) (cond (eqb (get_or torn 0 0) 0) (cut k n xs) (map_from 0 (filled g b (torn_page g torn)) (cut k n xs))) v) same_pages
                ∙ ap (λ (ps : List Page). (step g torn (record { power = p; pages = ps }) (erase b)).pages) (sym (same_cut xs refl)));
            size = ap length is ∙ same;
            told = ap (λ (x : Progress). x.done) e ∙ progressed_told pr.done p K.Erase o h.told;
          }
