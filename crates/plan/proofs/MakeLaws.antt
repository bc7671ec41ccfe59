-- The plan that is made from a survey, a choice and its places holds the decision of the policy. Assumes nothing.
use mathlib.Core.Path.{◌≡◌, refl, sym, ap, ap₂, ◌∙◌, subst}
use mathlib.Core.Logic.{⊎_elim}
use mathlib.Core.List.{List, [], ◌∷◌}
use Prim.Native.Nat.{ℕ, suc, ◌+◌, ◌-◌, ◌*◌, ◌<◌, ◌≤◌}
use native.Mathlib.Nat.{mul-le-mul_right}
use native.Mathlib.Omega.{arith}
use lib.Dec.{leb}
use lib.ListN.{length, take}
use lib.Seq.{length-take-le, take_all}
use borrow.Author.Tests.{leb-true}
use Rattle.std.specs.Prelude.{Option, Some, None}
use Rattle.std.proofs.lemmas.Option.{none-some, same_Some}
use Rattle.lists.proofs.Tests.{below_or_not, cases}
use Rattle.chip.specs.Geometry.{Geometry}
use Rattle.chip.specs.Page.{Page}
use Rattle.pages.specs.Steps.{live_from}
use Rattle.journal.specs.Plan.{head_block, places, spare_blocks}
use Rattle.journal.specs.Admissible.{Assignment, Contents}
use Rattle.journal.specs.Policy.{delta_assignment, follow, in_first, nothing, snapshot_assignment}
use Rattle.contents.specs.ContentsCode.{contents_in, in_oldest}
use Rattle.plan.specs.declared.make.Plan.{Plan}
use Rattle.plan.specs.declared.survey.Surveyed.{Surveyed}
use Rattle.plan.specs.SurveyCode.{Surveys, first_of, unused_in, used_around}
use Rattle.plan.specs.PlacesCode.{free_pages}
use Rattle.plan.specs.MakeCode.{Chooses, HoldsAssignment, HoldsDecision, HoldsFollowed, LaysPlan, Makes, MakesPlan, chosen, decision_of, unused_of, used_of}
use Rattle.plan.proofs.PlaceLaws.{places_size}

-- a page of the oldest block is one of the first of the used blocks
first_is : (g : Geometry) (us : List ℕ) (N : Contents) (n : ℕ) → in_first g N us n ≡ in_oldest g (first_of us) (N.listed n)
first_is g [] N n = refl
first_is g (b ∷ us) N n = refl

follow_is : {A C : Assignment} → follow A ≡ follow C → A ≡ C
follow_is {A} {C} e = cc

not_both : (A : Assignment) → nothing ≡ follow A → ⊥
not_both A e = let y : ◌≡◌ {A = ℕ} 0 1 = cc in omega arith

-- ---- an assignment that is followed has places for its pages and one more
pub chosen_within : (g : Geometry) (limit wide narrow w : ℕ) (us : List ℕ) (N : Contents) → wide ≤ w → narrow ≤ w
    → (A : Assignment) → chosen g limit wide narrow us N ≡ follow A → suc A.count ≤ w
chosen_within g limit wide narrow w us N hw hn A e =
    let d = delta_assignment g limit us N in
    let s = snapshot_assignment g limit N in
    cases (leb (suc d.count) wide)
    (λ t. let q : follow d ≡ follow A = (rw t at e) in below d wide (follow_is q) (leb-true (suc d.count) wide t) hw)
    (λ t. cases (leb (suc s.count) narrow)
    (λ v. let q : follow s ≡ follow A = (rw (t, v) at e) in below s narrow (follow_is q) (leb-true (suc s.count) narrow v) hn)
    (λ v. let q : nothing ≡ follow A = (rw (t, v) at e) in absurd (not_both A q)))
  where
    below : (C : Assignment) (k : ℕ) → C ≡ A → suc C.count ≤ k → k ≤ w → suc A.count ≤ w
    below C k q a b = let c : C.count ≡ A.count = ap (λ (X : Assignment). X.count) q in omega arith

-- the first n, where there are fewer than n
take_least : (n : ℕ) (xs : List ℕ) → take (length xs - (length xs - n)) xs ≡ take n xs
take_least n xs =
    ⊎_elim
    (λ (l : length xs < n). let e : length xs - (length xs - n) ≡ length xs = omega arith in
    ap (λ (k : ℕ). take k xs) e ∙ take_all (length xs) xs (omega arith) ∙ sym (take_all n xs (omega arith)))
    (λ (l : n ≤ length xs). let e : length xs - (length xs - n) ≡ n = omega arith in ap (λ (k : ℕ). take k xs) e)
    (below_or_not (length xs) n)

-- ---- a survey
module _ {g : Geometry} {limit B : ℕ} {lens slots : List ℕ} {G : ℕ} {ps : List Page} {ring : List ℕ} {s : Surveyed} (sv : Surveys g B limit lens slots G ps ring s) where
  abbrev un : List ℕ
  un = unused_of g limit B lens slots G ps

  un_is : un ≡ unused_in g B limit lens slots G (live_from g 0 ps) s.head
  un_is = ap (unused_in g B limit lens slots G (live_from g 0 ps)) (sym sv.head)

  un_many : length un ≡ s.unused
  un_many = ap length un_is ∙ sv.size

  abbrev free : ℕ
  free = length (free_pages g ps s.head)

  -- how many places there are on the head and the first n unused blocks
  room_on : (n : ℕ) → n ≤ length un → length (places g ps (head_block g ps) (take n un)) ≡ free + n * g.pages
  room_on n h =
      places_size g ps (head_block g ps) (take n un)
      ∙ ap₂ (λ (b k : ℕ). length (free_pages g ps b) + k * g.pages) (sym sv.head) (length-take-le n un h)

  room_delta : (spare : ℕ) → length (places g ps (head_block g ps) (take (length un - spare) un)) ≡ free + (s.unused - spare) * g.pages
  room_delta spare = room_on (length un - spare) (omega arith) ∙ ap (λ (k : ℕ). free + (k - spare) * g.pages) un_many

  room_snapshot : (spare : ℕ) → length (places g ps (head_block g ps) (take spare un)) ≡ free + (s.unused - (s.unused - spare)) * g.pages
  room_snapshot spare =
      ap (λ (xs : List ℕ). length (places g ps (head_block g ps) xs)) (sym (take_least spare un))
      ∙ room_on (length un - (length un - spare)) (omega arith) ∙ ap (λ (k : ℕ). free + (k - (k - spare)) * g.pages) un_many

  -- ---- a choice on it
  module _ (wide narrow : ℕ) (w : wide ≡ free + (s.unused - spare_blocks g B) * g.pages) (v : narrow ≡ free + (s.unused - (s.unused - spare_blocks g B)) * g.pages)
      (count : ℕ) (bytes targets sizes units : List ℕ) (o : Option ℕ)
      (ch : Chooses g limit s.oldest wide narrow (contents_in g limit ps lens slots count bytes) targets sizes units o) where
    abbrev N : Contents
    N = contents_in g limit ps lens slots count bytes

    abbrev us : List ℕ
    us = used_of g limit B lens slots G ps

    oldest_is : s.oldest ≡ first_of us
    oldest_is = sv.oldest ∙ ap (λ (h : ℕ). first_of (used_around g B limit lens slots G (live_from g 0 ps) h)) sv.head

    decision_is : chosen g limit wide narrow us N ≡ decision_of g limit B lens slots count bytes G ps
    decision_is =
        ap₂ (λ (x y : ℕ). chosen g limit x y us N) (w ∙ sym (room_delta (spare_blocks g B))) (v ∙ sym (room_snapshot (spare_blocks g B)))

    held : HoldsDecision g limit N targets sizes units o (chosen g limit wide narrow us N)
    held = ch us (λ m l. first_is g us N m ∙ ap (λ (o : Option ℕ). in_oldest g o (N.listed m)) (sym oldest_is))

    -- nothing
    pub made_nothing : o ≡ None → Makes g limit B lens slots count bytes G ps targets sizes units None
    made_nothing e =
        record {
          none = λ z A q. absurd (not_both A (sym (sym decision_is ∙ held.none e) ∙ q));
          made = λ p z. absurd (none-some p z);
        }

    -- an assignment of n pages
    module _ {n : ℕ} (e : o ≡ Some n) where
      pub pages_few : limit ≤ 256 → n < 160
      pages_few m = go (held.some n e).2.few
        where
          go : 2 * n ≤ suc limit → n < 160
          go h = omega arith

      pub pages_fit : n + 1 ≤ free + s.unused * g.pages
      pages_fit =
          let a = held.some n e in
          go a.0.count (free + s.unused * g.pages) a.2.count
          (chosen_within g limit wide narrow (free + s.unused * g.pages) us N (low wide (spare_blocks g B) w) (low narrow (s.unused - spare_blocks g B) v) a.0 a.1)
        where
          low : (x k : ℕ) → x ≡ free + (s.unused - k) * g.pages → x ≤ free + s.unused * g.pages
          low x k e =
              let l : s.unused - k ≤ s.unused = omega arith in
              over free ((s.unused - k) * g.pages) (s.unused * g.pages) e (mul-le-mul_right g.pages l)
            where
              over : (f a b : ℕ) → x ≡ f + a → a ≤ b → x ≤ f + b
              over f a b e l = omega arith

          go : (c m : ℕ) → c ≡ n → suc c ≤ m → n + 1 ≤ m
          go c m e h = omega arith

      -- no page
      pub made_empty : n ≡ 0 → Makes g limit B lens slots count bytes G ps targets sizes units None
      made_empty z =
          let a = held.some n e in
          record {
            none = λ y A q. subst (λ (C : Assignment). HoldsAssignment g limit N targets sizes units 0 C) (follow_is (sym a.1 ∙ (decision_is ∙ q)))
                (subst (λ (k : ℕ). HoldsAssignment g limit N targets sizes units k a.0) z a.2);
            made = λ p y. absurd (none-some p y);
          }

      -- a page, and its plan
      pub made_plan : 0 < n → (r : Plan) → LaysPlan g B s.head (take s.unused ring) n ps r → Makes g limit B lens slots count bytes G ps targets sizes units (Some r)
      made_plan some r l =
          let a = held.some n e in
          let d : HoldsFollowed g limit N targets sizes units (decision_of g limit B lens slots count bytes G ps) n = (a.0, sym decision_is ∙ a.1, a.2) in
          let laid : LaysPlan g B (head_block g ps) un n ps r =
          subst (λ (b : ℕ). LaysPlan g B b un n ps r) sv.head (subst (λ (bs : List ℕ). LaysPlan g B s.head bs n ps r) (sv.list ∙ sym un_is) l) in
          let m : MakesPlan g limit B lens slots count bytes G ps targets sizes units r =
          record {
            some = subst (λ (k : ℕ). 0 < k) (sym l.pages) some;
            decision = subst (HoldsFollowed g limit N targets sizes units (decision_of g limit B lens slots count bytes G ps)) (sym l.pages) d;
            laid = subst (λ (k : ℕ). LaysPlan g B (head_block g ps) un k ps r) (sym l.pages) laid;
          } in
          record {
            none = λ y. absurd (none-some r (sym y));
            made = λ p y. subst (MakesPlan g limit B lens slots count bytes G ps targets sizes units) (same_Some r p y) m;
          }
