-- Runs of operations, over any geometry: power, lengths, and which pages stay as they were. Assumes nothing.
use Rattle.std.proofs.Common.{◌≡◌, ℕ, zero, suc, ◌+◌, ◌^◌, ◌<◌, min, false, eqb, ltb, List, [], ◌∷◌, ◌++◌, length, get_or, take, sym, refl, ap, ◌∙◌, arith, length-take-le, le-ltb, lt-ltb}
use mathlib.Core.List.{foldl, foldl-append}
use lib.Dec.{leb-suc-suc}
use lib.ListN.{length-map}
use borrow.Author.Tests.{eqb-false}
use Rattle.lists.specs.Lists.{All, none, more, At, map_from}
use Rattle.lists.proofs.Tests.{cases}
use Rattle.lists.proofs.Alls.{All-head, All-tail, All-modify, All-map_from}
use Rattle.lists.proofs.Flats.{map_append}
use Rattle.lists.proofs.Places.{length_modify, length_map_from, At-other, At-map_from}
use Rattle.chip.specs.declared.power.Power.{Power}
use Rattle.chip.specs.declared.power.Power.TheVariants.{Left, Gone}
use Rattle.chip.specs.declared.operation.Kind.{Kind}
use Rattle.chip.specs.declared.progress.Counts.{Counts}
use Rattle.chip.specs.declared.progress.Progress.{Progress}
use Rattle.chip.specs.Geometry.{Geometry, page_size}
use Rattle.chip.specs.Power.{outcome, is_gone}
use Rattle.chip.specs.Counts.{counts_of, total}
use Rattle.chip.specs.Page.{Page, blank, torn_page, marked, programmed}
use Rattle.chip.specs.Chip.{Op, program, mark, erase, kind_of, kinds_of, whole, tear, filled, in_block, touches, Machine, step, run}
use Rattle.chip.specs.RunCode.{at_start, wholes, counted, counted_all, machine, Stepped, Ran}
use Rattle.chip.proofs.CountLaws.{told_first, told_sum, wholes_none}
use Rattle.chip.proofs.PageLaws.{length_blank, length_torn, length_marked, length_programmed}
use Rattle.chip.proofs.ImageLaws.{effect_has}

-- the machine with n operations left
abbrev pub with_power : ℕ → List Page → Machine
with_power n ps = record { power = Left n; pages = ps }

module _ (g : Geometry) (torn : List ℕ) where
  -- a run of xs and then ys
  pub run_append : (m : Machine) (xs ys : List Op) → run g torn m (xs ++ ys) ≡ run g torn (run g torn m xs) ys
  unfolding run
  run_append m xs ys = foldl-append (step g torn) m xs ys

  pub run_one : (m : Machine) (o : Op) → run g torn m (o ∷ []) ≡ step g torn m o
  unfolding run
  run_one m o = refl

  -- ---- power and pages, each by itself
  abbrev pub left : ℕ → List Op → Power
  left n [] = Left n
  left zero (o ∷ os) = Gone
  left (suc n) (o ∷ os) = left n os

  abbrev pub after : ℕ → List Page → List Op → List Page
  after n ps [] = ps
  after zero ps (o ∷ os) = tear g torn o ps
  after (suc n) ps (o ∷ os) = after n (whole g o ps) os

  gone_stays : (ps : List Page) (os : List Op) → foldl (step g torn) (record { power = Gone; pages = ps }) os ≡ record { power = Gone; pages = ps }
  gone_stays ps [] = refl
  gone_stays ps (o ∷ os) = gone_stays ps os

  parts : (n : ℕ) (ps : List Page) (os : List Op)
      → foldl (step g torn) (with_power n ps) os ≡ record { power = left n os; pages = after n ps os }
  parts n ps [] = refl
  parts zero ps (o ∷ os) = gone_stays (tear g torn o ps) os
  parts (suc n) ps (o ∷ os) = parts n (whole g o ps) os

  pub run_parts : (n : ℕ) (ps : List Page) (os : List Op)
      → run g torn (with_power n ps) os ≡ record { power = left n os; pages = after n ps os }
  unfolding run
  run_parts n ps os = parts n ps os

  -- power is gone exactly when the allowance is smaller than the list
  left_gone : (n : ℕ) (os : List Op) → is_gone (left n os) ≡ ltb n (length os)
  left_gone n [] = sym (le-ltb n 0 (omega arith))
  left_gone zero (o ∷ os) = sym (lt-ltb 0 (suc (length os)) (omega arith))
  left_gone (suc n) (o ∷ os) = left_gone n os ∙ sym (leb-suc-suc (suc n) (length os))

  pub run_gone : (n : ℕ) (ps : List Page) (os : List Op) → is_gone (run g torn (with_power n ps) os).power ≡ ltb n (length os)
  run_gone n ps os = ap (λ (m : Machine). is_gone m.power) (run_parts n ps os) ∙ left_gone n os

  -- ---- lengths are kept
  pub length_whole : (o : Op) (ps : List Page) → length (whole g o ps) ≡ length ps
  length_whole (program p bytes) ps = length_modify p (programmed g bytes) ps
  length_whole (mark p m) ps = length_modify p (marked g m 0) ps
  length_whole (erase b) ps = length_map_from 0 (filled g b (blank g)) ps

  pub length_tear : (o : Op) (ps : List Page) → length (tear g torn o ps) ≡ length ps
  length_tear (program p bytes) ps = length_modify p (programmed g (take g.area torn)) ps
  length_tear (mark p m) ps = length_modify p (marked g m (get_or torn 0 0)) ps
  length_tear (erase b) ps =
      cases (eqb (get_or torn 0 0) 0) (λ t. rw t) (λ t. rw t (length_map_from 0 (filled g b (torn_page g torn)) ps))

  -- what every step keeps, a run keeps
  pub run_keeps : (P : List Page → Type 0) (os : List Op)
      → All (λ (o : Op). (ps : List Page) → P ps → P (whole g o ps) × P (tear g torn o ps)) os
      → (m : Machine) → P m.pages → P (run g torn m os).pages
  unfolding run
  run_keeps P [] h m p = p
  run_keeps P (o ∷ os) h m p =
      let k = All-head h m.pages p in
      run_keeps P os (All-tail h) (step g torn m o) (effect_has P (outcome m.power) (whole g o m.pages) (tear g torn o m.pages) m.pages k.0 k.1 p)

  all_of : {A : Type 0} {P : A → Type 0} → ((x : A) → P x) → (xs : List A) → All P xs
  all_of f [] = none
  all_of f (x ∷ xs) = more (f x) (all_of f xs)

  -- a run keeps the number of pages
  pub run_length : (m : Machine) (os : List Op) → length (run g torn m os).pages ≡ length m.pages
  run_length m os =
      run_keeps (λ (ps : List Page). length ps ≡ length m.pages) os
      (all_of (λ o ps e. (length_whole o ps ∙ e, length_tear o ps ∙ e)) os) m refl

  -- ---- an operation on a page leaves every other page
  fill_other : (b n : ℕ) (y x : Page) (ps : List Page) → in_block g b n ≡ false → At n x ps → At n x (map_from 0 (filled g b y) ps)
  fill_other b n y x ps h a =
      let r = At-map_from (filled g b y) 0 n x ps a in
      let e : 0 + n ≡ n = omega arith in
      let q : At n (filled g b y n x) (map_from 0 (filled g b y) ps) = (rw e at r) in
      rw h at q

  pub whole_other : (o : Op) (n : ℕ) (x : Page) (ps : List Page) → touches g o n ≡ false → At n x ps → At n x (whole g o ps)
  whole_other (program p bytes) n x ps h a = At-other (programmed g bytes) p n x ps (eqb-false p n h) a
  whole_other (mark p m) n x ps h a = At-other (marked g m 0) p n x ps (eqb-false p n h) a
  whole_other (erase b) n x ps h a = fill_other b n (blank g) x ps h a

  pub tear_other : (o : Op) (n : ℕ) (x : Page) (ps : List Page) → touches g o n ≡ false → At n x ps → At n x (tear g torn o ps)
  tear_other (program p bytes) n x ps h a = At-other (programmed g (take g.area torn)) p n x ps (eqb-false p n h) a
  tear_other (mark p m) n x ps h a = At-other (marked g m (get_or torn 0 0)) p n x ps (eqb-false p n h) a
  tear_other (erase b) n x ps h a = cases (eqb (get_or torn 0 0) 0) (λ t. rw t a) (λ t. rw t (fill_other b n (torn_page g torn) x ps h a))

  pub run_other : (m : Machine) (os : List Op) (n : ℕ) (x : Page) → All (λ (o : Op). touches g o n ≡ false) os
      → At n x m.pages → At n x (run g torn m os).pages
  run_other m os n x h a =
      run_keeps (λ (ps : List Page). At n x ps) os (map_all h) m a
    where
      map_all : {os : List Op} → All (λ (o : Op). touches g o n ≡ false) os
          → All (λ (o : Op). (ps : List Page) → At n x ps → At n x (whole g o ps) × At n x (tear g torn o ps)) os
      map_all none = none
      map_all (more {x = o} t ts) = more (λ ps b. (whole_other o n x ps t b, tear_other o n x ps t b)) (map_all ts)

-- ---- the kinds of the operations done whole
module _ (g : Geometry) (torn : List ℕ) where
  gone_wholes : {A : Type 0} (ps : List Page) (os : List Op) (ys : List A) → wholes (foldl (step g torn) (record { power = Gone; pages = ps }) os).power ys ≡ []
  gone_wholes ps [] ys = refl
  gone_wholes ps (o ∷ os) ys = gone_wholes ps os ys

  -- of two lists of operations, one after the other
  wholes_after : (p : Power) (ps : List Page) (os : List Op) (ks : List Kind)
      → wholes p (kinds_of os ++ ks) ≡ wholes p (kinds_of os) ++ wholes (foldl (step g torn) (record { power = p; pages = ps }) os).power ks
  wholes_after (Left n) ps [] ks = ap (λ (l : List Kind). l ++ take n ks) (sym (wholes_none (Left n)))
  wholes_after Gone ps [] ks = refl
  wholes_after (Left zero) ps (o ∷ os) ks = sym (gone_wholes (tear g torn o ps) os ks)
  wholes_after (Left (suc n)) ps (o ∷ os) ks = ap (λ (l : List Kind). kind_of o ∷ l) (wholes_after (Left n) (whole g o ps) os ks)
  wholes_after Gone ps (o ∷ os) ks = sym (gone_wholes ps os ks)

  pub run_wholes : (m : Machine) (os : List Op) (ks : List Kind)
      → wholes m.power (kinds_of os ++ ks) ≡ wholes m.power (kinds_of os) ++ wholes (run g torn m os).power ks
  unfolding run
  run_wholes m os ks = wholes_after m.power m.pages os ks

-- ---- runs on a whole image, one after the other
module _ (g : Geometry) (torn : List ℕ) where
  pub ran_none : (p : Progress) (xs : List ℕ) → Ran g torn [] p p xs xs
  unfolding run
  ran_none p xs = record { is = refl; size = refl; told = ap (counted_all p.done) (sym (wholes_none p.left)) }

  pub ran_append : (os qs : List Op) (p q r : Progress) (xs ys zs : List ℕ) → Ran g torn os p q xs ys → Ran g torn qs q r ys zs → Ran g torn (os ++ qs) p r xs zs
  ran_append os qs p q r xs ys zs a b =
      let between : q.left ≡ (run g torn (machine g p.left xs) os).power = ap (λ (m : Machine). m.power) a.is in
      let kinds : wholes p.left (kinds_of (os ++ qs)) ≡ wholes p.left (kinds_of os) ++ wholes q.left (kinds_of qs) =
      ap (wholes p.left) (map_append kind_of os qs) ∙ run_wholes g torn (machine g p.left xs) os (kinds_of qs)
      ∙ ap (λ (l : Power). wholes p.left (kinds_of os) ++ wholes l (kinds_of qs)) (sym between) in
      record {
        is = b.is ∙ ap (λ (m : Machine). run g torn m qs) a.is ∙ sym (run_append g torn (machine g p.left xs) os qs);
        size = b.size ∙ a.size;
        told =
            b.told
            ∙ ap (λ (c : Counts). counted_all c (wholes q.left (kinds_of qs))) a.told
            ∙ sym (foldl-append (λ (c : Counts) (k : Kind). counted k c) p.done (wholes p.left (kinds_of os)) (wholes q.left (kinds_of qs)))
            ∙ ap (counted_all p.done) (sym kinds);
      }

  pub ran_one : (o : Op) (p q : Progress) (xs ys : List ℕ) → Stepped g torn o p q xs ys → Ran g torn (o ∷ []) p q xs ys
  ran_one o p q xs ys s = record { is = s.is ∙ sym (run_one g torn (machine g p.left xs) o); size = s.size; told = s.told }

  -- from the start: the counts are those of the first n operations, and their sum is the smaller of the allowance and the list's length
  pub ran_told : (n : ℕ) (os : List Op) (r : Progress) (xs ys : List ℕ) → n < 2 ^ 32 → Ran g torn os (at_start n) r xs ys → r.done ≡ counts_of (take n (kinds_of os))
  ran_told n os r xs ys h x = x.told ∙ told_first n (kinds_of os) h

  pub ran_total : (n : ℕ) (os : List Op) (r : Progress) (xs ys : List ℕ) → n < 2 ^ 32 → Ran g torn os (at_start n) r xs ys → total r.done ≡ min n (length os)
  ran_total n os r xs ys h x = ap total (ran_told n os r xs ys h x) ∙ told_sum n (kinds_of os) ∙ ap (min n) (length-map os kind_of)

-- ---- every page keeps its size
abbrev pub Sized : Geometry → Page → Type 0
Sized g x = length x ≡ page_size g

-- what is programmed is as long as a data area
abbrev pub DataSized : Geometry → Op → Type 0
DataSized g (program p bytes) = length bytes ≡ g.area
DataSized g (mark p m) = Unit {0}
DataSized g (erase b) = Unit {0}

module _ (g : Geometry) (torn : List ℕ) (lt : length torn ≡ page_size g) where
  filled_sized : (b : ℕ) (y : Page) → Sized g y → (i : ℕ) (x : Page) → Sized g x → Sized g (filled g b y i x)
  filled_sized b y k i x h = cases (in_block g b i) (λ t. rw t k) (λ t. rw t h)

  programmed_sized : (bytes : List ℕ) → length bytes ≡ g.area → (x : Page) → Sized g x → Sized g (programmed g bytes x)
  programmed_sized bytes e x h = length_programmed g bytes x e (omega arith) ∙ h

  pub whole_sized : (o : Op) (ps : List Page) → DataSized g o → All (Sized g) ps → All (Sized g) (whole g o ps)
  whole_sized (program p bytes) ps f h = All-modify p (programmed g bytes) (programmed_sized bytes f) ps h
  whole_sized (mark p m) ps f h = All-modify p (marked g m 0) (λ x e. length_marked g m 0 x ∙ e) ps h
  whole_sized (erase b) ps f h = All-map_from 0 (filled g b (blank g)) (filled_sized b (blank g) (length_blank g)) ps h

  pub tear_sized : (o : Op) (ps : List Page) → All (Sized g) ps → All (Sized g) (tear g torn o ps)
  tear_sized (program p bytes) ps h =
      All-modify p (programmed g (take g.area torn)) (programmed_sized (take g.area torn) (length-take-le g.area torn (omega arith))) ps h
  tear_sized (mark p m) ps h = All-modify p (marked g m (get_or torn 0 0)) (λ x e. length_marked g m (get_or torn 0 0) x ∙ e) ps h
  tear_sized (erase b) ps h =
      cases (eqb (get_or torn 0 0) 0) (λ t. rw t h)
      (λ t. rw t (All-map_from 0 (filled g b (torn_page g torn)) (filled_sized b (torn_page g torn) (length_torn g torn lt)) ps h))

  pub run_sized : (m : Machine) (os : List Op) → All (DataSized g) os → All (Sized g) m.pages → All (Sized g) (run g torn m os).pages
  run_sized m os f h = run_keeps g torn (All (Sized g)) os (keeps f) m h
    where
      keeps : {os : List Op} → All (DataSized g) os
          → All (λ (o : Op). (ps : List Page) → All (Sized g) ps → All (Sized g) (whole g o ps) × All (Sized g) (tear g torn o ps)) os
      keeps none = none
      keeps (more {x = o} t ts) = more (λ ps b. (whole_sized o ps t b, tear_sized o ps b)) (keeps ts)
