-- After a commit, cut anywhere: each live page is one that was live before or one of the new ones. Assumes nothing.
use mathlib.Core.Path.{◌≡◌, refl, sym, ap}
use mathlib.Core.Bool.{Bool, true, false, cond}
use mathlib.Core.List.{List, [], ◌∷◌}
use Prim.Native.Nat.{ℕ, zero, suc, ◌+◌, ◌≤◌}
use native.Mathlib.Omega.{arith}
use lib.Dec.{eqb}
use lib.ListN.{get_or, length, take}
use lib.Seq.{length-take-le}
use Rattle.lists.specs.Lists.{All, At, flat, map_from, modify, more}
use Rattle.lists.proofs.Alls.{All-filter, All-head, All-tail, All-zip}
use Rattle.lists.proofs.Places.{At-other, At-same}
use Rattle.lists.proofs.Tests.{cases, clash}
use Rattle.lists.proofs.Sets.{Mem, here, there}
use Rattle.chip.specs.declared.page.Mark.TheVariants.{Used, Valid}
use Rattle.chip.specs.Geometry.{Geometry}
use Rattle.chip.specs.Page.{Page, blank, is_live, marked, programmed, torn_page}
use Rattle.chip.specs.Chip.{erase, filled, run, whole}
use Rattle.chip.proofs.Marks.{blank_quiet, first, first_quiet, second, second_quiet, third_data, torn_quiet}
use Rattle.chip.proofs.Runs.{after, run_parts, with_power}
use Rattle.pages.specs.Steps.{Live, live, live_from}
use Rattle.pages.proofs.LivePages.{gone, outside}
use Rattle.views.proofs.ViewLaws.{Apart}
use Rattle.journal.specs.Commit.{cleared, commit_ops, writes_of}
use Rattle.journal.proofs.CommitCut.{put, used, wrote}

pub wrote_other : (g : Geometry) (x : Live) (p : ℕ) (y : Page) (ps : List Page) → (x.place ≡ p → ⊥) → At p y ps → At p y (wrote g x 0 ps)
wrote_other g x p y ps d a =
    At-other (marked g Valid 0) x.place p y (put g x ps) d
    (At-other (programmed g x.bytes) x.place p y (used g x ps) d (At-other (marked g Used 0) x.place p y ps d a))

-- a page that stands and is live is among the live pages
pub live_mem : (g : Geometry) (i p q : ℕ) (y : Page) (ps : List Page) → q ≡ i + p → At p y ps → is_live g y ≡ true → Mem (live g q y) (live_from g i ps)
live_mem g i p q y [] e a h = absurd a
live_mem g i zero q y (x ∷ ps) e a h = let w : q ≡ i = omega arith in rw (← a, h, w) here
live_mem g i (suc p) q y (x ∷ ps) e a h =
    let r = live_mem g (suc i) p q y ps (omega arith) a h in
    cases (is_live g x) (λ t. rw t (there r)) (λ t. rw t r)

module _ (g : Geometry) (P : Live → Type 0) where
  rest_of : (b : Bool) (z : Live) (r : List Live) → All P (cond b (z ∷ r) r) → All P r
  rest_of true z r h = All-tail h
  rest_of false z r h = h

  more_of : (b : Bool) (z : Live) (r : List Live) → (b ≡ true → P z) → All P r → All P (cond b (z ∷ r) r)
  more_of true z r f h = more (f refl) h
  more_of false z r f h = h

  head_of : (b : Bool) (z : Live) (r : List Live) → All P (cond b (z ∷ r) r) → b ≡ true → P z
  head_of true z r h e = All-head h
  head_of false z r h e = clash e refl

  pub live_modify : (f : Page → Page) (p i q : ℕ) (x : Page) (ps : List Page) → q ≡ i + p → At p x ps → (is_live g (f x) ≡ true → P (live g q (f x)))
      → All P (live_from g i ps) → All P (live_from g i (modify p f ps))
  live_modify f p i q x [] e a k h = h
  live_modify f zero i q x (y ∷ ps) e a k h =
      let w : q ≡ i = omega arith in
      more_of (is_live g (f y)) (live g i (f y)) (live_from g (suc i) ps) (rw (← a, ← w) k) (rest_of (is_live g y) (live g i y) (live_from g (suc i) ps) h)
  live_modify f (suc p) i q x (y ∷ ps) e a k h =
      more_of (is_live g y) (live g i y) (live_from g (suc i) (modify p f ps)) (head_of (is_live g y) (live g i y) (live_from g (suc i) ps) h)
      (live_modify f p (suc i) q x ps (omega arith) a k (rest_of (is_live g y) (live g i y) (live_from g (suc i) ps) h))

  module _ (ps : List Page) (x : Live) (size : length x.bytes ≡ g.area) (free : At x.place (blank g) ps) (px : P x) (h : All P (live_from g 0 ps)) where
    one : (v : ℕ) → All P (live_from g 0 (modify x.place (marked g Used v) ps))
    one v = live_modify (marked g Used v) x.place 0 x.place (blank g) ps (omega arith) free (λ t. clash t (first_quiet g v)) h

    two : (d : List ℕ) → length d ≡ g.area → All P (live_from g 0 (modify x.place (programmed g d) (used g x ps)))
    two d l =
        live_modify (programmed g d) x.place 0 x.place (first g 0) (used g x ps) (omega arith) (At-same (marked g Used 0) x.place (blank g) ps free)
        (λ t. clash t (second_quiet g 0 d l)) (one 0)

    three : (v : ℕ) → All P (live_from g 0 (wrote g x v ps))
    three v =
        let y : Live = live g x.place (marked g Valid v (second g 0 x.bytes)) in
        let same : y ≡ x = ap (λ (b : List ℕ). record { place = x.place; bytes = b }) (third_data g 0 x.bytes size v) in
        live_modify (marked g Valid v) x.place 0 x.place (second g 0 x.bytes) (put g x ps) (omega arith)
        (At-same (programmed g x.bytes) x.place (first g 0) (used g x ps) (At-same (marked g Used 0) x.place (blank g) ps free))
        (λ t. rw same px) (two x.bytes size)

  still_free : (x : Live) (w : List Live) (ps : List Page) → All (λ y. At y.place (blank g) ps) w → All (λ (y : Live). y.place ≡ x.place → ⊥) w
      → All (λ y. At y.place (blank g) (wrote g x 0 ps)) w
  still_free x w ps f a = All-zip (λ y b d. wrote_other g x y.place (blank g) ps (λ e. d (sym e)) b) f a

  module _ (torn : List ℕ) (lt : g.area ≤ length torn) where
    writes_left : (w : List Live) (n : ℕ) (ps : List Page) → All (λ x. length x.bytes ≡ g.area) w
        → All (λ x. At x.place (blank g) ps) w → Apart w → All P w
        → All P (live_from g 0 ps) → All P (live_from g 0 (after g torn n ps (flat writes_of w)))
    writes_left [] n ps s f a pw h = h
    writes_left (x ∷ w) zero ps s f a pw h = one ps x (All-head s) (All-head f) (All-head pw) h (get_or torn 0 0)
    writes_left (x ∷ w) (suc zero) ps s f a pw h = two ps x (All-head s) (All-head f) (All-head pw) h (take g.area torn) (length-take-le g.area torn lt)
    writes_left (x ∷ w) (suc (suc zero)) ps s f a pw h = three ps x (All-head s) (All-head f) (All-head pw) h (get_or torn 0 0)
    writes_left (x ∷ w) (suc (suc (suc n))) ps s f a pw h =
        writes_left w n (wrote g x 0 ps) (All-tail s) (still_free x w ps (All-tail f) a.0) a.1 (All-tail pw) (three ps x (All-head s) (All-head f) (All-head pw) h 0)

    erase_left : (b : ℕ) (y : Page) (ps : List Page) → is_live g y ≡ false → All P (live_from g 0 ps) → All P (live_from g 0 (map_from 0 (filled g b y) ps))
    erase_left b y ps q h = rw (gone g b y 0 ps q) (All-filter (outside g b) h)

    after_left : (bs : List ℕ) (news : List Live) (n : ℕ) (ps : List Page) → All (λ x. length x.bytes ≡ g.area) news
        → All (λ x. At x.place (blank g) (cleared g bs ps)) news
        → Apart news → All P news → All P (live_from g 0 ps) → All P (live_from g 0 (after g torn n ps (commit_ops bs news)))
    after_left [] news n ps s f a pw h = writes_left news n ps s f a pw h
    after_left (b ∷ bs) news zero ps s f a pw h = cases (eqb (get_or torn 0 0) 0) (λ t. rw t h) (λ t. rw t (erase_left b (torn_page g torn) ps (torn_quiet g torn) h))
    after_left (b ∷ bs) news (suc n) ps s f a pw h = after_left bs news n (whole g (erase b) ps) s f a pw (erase_left b (blank g) ps (blank_quiet g) h)

    -- for every allowance and torn bytes: what holds of the live pages before and of the new pages holds of the live pages after
    pub run_lives : (bs : List ℕ) (news : List Live) (n : ℕ) (ps : List Page) → All (λ x. length x.bytes ≡ g.area) news
        → All (λ x. At x.place (blank g) (cleared g bs ps)) news
        → Apart news → All P news → All P (live_from g 0 ps) → All P (live_from g 0 (run g torn (with_power n ps) (commit_ops bs news)).pages)
    run_lives bs news n ps s f a pw h = rw (run_parts g torn n ps (commit_ops bs news)) (after_left bs news n ps s f a pw h)
