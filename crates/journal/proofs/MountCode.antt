-- The loop of a mount's marks over the pages. Assumes nothing.
use mathlib.Core.Path.{◌≡◌, refl, sym, ap, ◌∙◌}
use mathlib.Core.Bool.{true, false, cond}
use mathlib.Core.List.{List, [], ◌∷◌, ◌++◌, map}
use Prim.Native.Nat.{ℕ, suc, ◌+◌, ◌*◌, ◌-◌, ◌/◌, ◌≤◌, ◌<◌}
use native.Mathlib.Nat.{add-sub_cancel_left}
use native.Mathlib.Numerals.{add-one}
use native.Mathlib.Omega.{arith}
use lib.Dec.{eqb}
use lib.ListN.{length, take, get_or}
use lib.Seq.{take-suc, take_all, length-take-le, get_or-take}
use borrow.Author.Tests.{ne_eqb}
use Rattle.lists.specs.Lists.{filter, All, none, more, At, part}
use Rattle.lists.proofs.Tests.{cases}
use Rattle.lists.proofs.Alls.{All-map, All-filter}
use Rattle.lists.proofs.Filters.{filter_append}
use Rattle.lists.proofs.Flats.{map_append}
use Rattle.lists.proofs.Places.{At-get_or, At-is}
use Rattle.chip.specs.declared.page.Mark.TheVariants.{Obsolete}
use Rattle.chip.specs.declared.progress.Progress.{Progress}
use Rattle.chip.specs.Geometry.{Geometry, page_size}
use Rattle.chip.specs.Page.{Page, is_live}
use Rattle.chip.specs.Chip.{Op, mark, Machine, run, pages_of, touches}
use Rattle.chip.specs.RunCode.{machine, Stepped, Ran}
use Rattle.chip.proofs.ImageLaws.{page_at_lem}
use Rattle.chip.proofs.Runs.{ran_none, ran_one, ran_append, run_other}
use Rattle.pages.specs.Units.{word}
use Rattle.pages.specs.Data.{head_of}
use Rattle.pages.specs.Steps.{Live, live, live_from, commit, of_commit}
use Rattle.pages.proofs.LivePages.{places_below}
use Rattle.journal.specs.Mount.{retire}
use Rattle.journal.specs.MountCode.{is_of, retire_one, retire_ops}

-- the commit number stands in the data area
pub word_front : (n : ℕ) (x : Page) → 4 ≤ n → (head_of (take n x)).commit ≡ word x 0
word_front n x h =
    rw (
      get_or-take n x 0 0 (omega arith),
      get_or-take n x 1 0 (omega arith),
      get_or-take n x 2 0 (omega arith),
      get_or-take n x 3 0 (omega arith),
    )

-- one page more at the end
live_last : (g : Geometry) (i : ℕ) (ps : List Page) (x : Page)
    → live_from g i (ps ++ (x ∷ [])) ≡ live_from g i ps ++ cond (is_live g x) (live g (i + length ps) x ∷ []) []
live_last g i [] x = let e : i + 0 ≡ i = omega arith in rw e
live_last g i (y ∷ ps) x =
    let e : suc i + length ps ≡ i + suc (length ps) = omega arith in
    let r : live_from g (suc i) (ps ++ (x ∷ [])) ≡ live_from g (suc i) ps ++ cond (is_live g x) (live g (i + suc (length ps)) x ∷ []) [] = live_last g (suc i) ps x ∙ rw e in
    cases (is_live g y) (λ t. rw (t, r)) (λ t. rw (t, r))

one_op : (g : Geometry) (c p : ℕ) (x : Page) → map retire (filter (of_commit c) (cond (is_live g x) (live g p x ∷ []) [])) ≡ retire_one g c p x
unfolding commit
one_op g c p x =
    cases (is_live g x)
    (λ t. cases (eqb (head_of (take g.area x)).commit c) (λ q. rw (t, q)) (λ q. rw (t, q)))
    (λ t. rw t)

-- the marks of one page more
pub ops_more : (g : Geometry) (c n : ℕ) (ps : List Page) → n < length ps
    → retire_ops g c (take (n + 1) ps) ≡ retire_ops g c (take n ps) ++ retire_one g c n (get_or ps n [])
ops_more g c n ps h =
    let x : Page = get_or ps n [] in
    let l : length (take n ps) ≡ n = length-take-le n ps (omega arith) in
    let z : 0 + length (take n ps) ≡ n = omega (arith, l) in
    ap (λ (m : ℕ). retire_ops g c (take m ps)) (add-one n)
    ∙ ap (retire_ops g c) (take-suc ps n [] h)
    ∙ ap (λ (xs : List Live). map retire (filter (of_commit c) xs)) (live_last g 0 (take n ps) x)
    ∙ ap (map retire) (filter_append (of_commit c) (live_from g 0 (take n ps)) (cond (is_live g x) (live g (0 + length (take n ps)) x ∷ []) []))
    ∙ map_append retire (filter (of_commit c) (live_from g 0 (take n ps))) (filter (of_commit c) (cond (is_live g x) (live g (0 + length (take n ps)) x ∷ []) []))
    ∙ ap (λ (os : List Op). retire_ops g c (take n ps) ++ os) (ap (λ (m : ℕ). map retire (filter (of_commit c) (cond (is_live g x) (live g m x ∷ []) []))) z ∙ one_op g c n x)

-- they touch no page from n on
low_marks : (g : Geometry) (c n k : ℕ) → n ≤ k → {xs : List Live} → All (λ (x : Live). x.place < n) xs → All (λ (o : Op). touches g o k ≡ false) (map retire xs)
low_marks g c n k h none = none
low_marks g c n k h (more {x = x} l ls) = more (ne_eqb x.place k (λ e. omega arith)) (low_marks g c n k h ls)

pub untouched_page : (g : Geometry) (torn : List ℕ) (c n : ℕ) (m : Machine) (ps : List Page) → m.pages ≡ ps → n < length ps
    → At n (get_or ps n []) (run g torn m (retire_ops g c (take n ps))).pages
untouched_page g torn c n m ps e h =
    let l : length (take n ps) ≡ n = length-take-le n ps (omega arith) in
    let b : All (λ (x : Live). x.place < n) (live_from g 0 (take n ps)) = All-map (λ x q. omega (arith, l)) (places_below g 0 (take n ps)) in
    run_other g torn m (retire_ops g c (take n ps)) n (get_or ps n []) (low_marks g c n n (omega arith) (All-filter (of_commit c) b)) (rw e (At-get_or n ps [] h))

-- a turn of the loop
pub retire_more : (g : Geometry) (torn : List ℕ) (c n : ℕ) (p q r : Progress) (xs ys zs : List ℕ) → n < length (pages_of g xs)
    → Ran g torn (retire_ops g c (take n (pages_of g xs))) p q xs ys → Ran g torn (retire_one g c n (get_or (pages_of g ys) n [])) q r ys zs
    → Ran g torn (retire_ops g c (take (n + 1) (pages_of g xs))) p r xs zs
retire_more g torn c n p q r xs ys zs h a b =
    let e : get_or (pages_of g ys) n [] ≡ get_or (pages_of g xs) n [] =
    At-is n (get_or (pages_of g xs) n []) (pages_of g ys) []
    (let u = untouched_page g torn c n (machine g p.left xs) (pages_of g xs) refl h in
    let s : pages_of g ys ≡ (run g torn (machine g p.left xs) (retire_ops g c (take n (pages_of g xs)))).pages = ap (λ (m : Machine). m.pages) a.is in
    rw s u) in
    let b' : Ran g torn (retire_one g c n (get_or (pages_of g xs) n [])) q r ys zs = (rw e at b) in
    rw (ops_more g c n (pages_of g xs) h) (ran_append g torn (retire_ops g c (take n (pages_of g xs))) (retire_one g c n (get_or (pages_of g xs) n [])) p q r xs ys zs a b')

-- all pages
pub retire_done : (g : Geometry) (torn : List ℕ) (c n : ℕ) (p r : Progress) (xs zs : List ℕ) → length (pages_of g xs) ≤ n
    → Ran g torn (retire_ops g c (take n (pages_of g xs))) p r xs zs → Ran g torn (retire_ops g c (pages_of g xs)) p r xs zs
retire_done g torn c n p r xs zs h a = let e = take_all n (pages_of g xs) h in rw e at a

-- the page that is read is the one at place n
pub page_read : (g : Geometry) (c n : ℕ) (xs : List ℕ) → n < length xs / page_size g
    → is_of g c (get_or (pages_of g xs) n []) ≡ is_of g c (part (n * page_size g) (n * page_size g + page_size g - n * page_size g) xs)
page_read g c n xs h =
    ap (is_of g c) (page_at_lem g xs n h ∙ ap (λ (m : ℕ). part (n * page_size g) m xs) (sym (add-sub_cancel_left (n * page_size g) (page_size g))))

-- one page: not of the commit, or marked
pub retire_none : (g : Geometry) (torn : List ℕ) (c n : ℕ) (x : Page) (p : Progress) (xs : List ℕ) → is_of g c x ≡ false → Ran g torn (retire_one g c n x) p p xs xs
retire_none g torn c n x p xs e = rw e (ran_none g torn p xs)

pub retire_one_lem : (g : Geometry) (torn : List ℕ) (c n : ℕ) (x : Page) (p r : Progress) (xs zs : List ℕ) → is_of g c x ≡ true
    → Stepped g torn (mark n Obsolete) p r xs zs → Ran g torn (retire_one g c n x) p r xs zs
retire_one_lem g torn c n x p r xs zs e s = rw e (ran_one g torn (mark n Obsolete) p r xs zs s)
