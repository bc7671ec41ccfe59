-- A rebuild of the sample store, and that it meets its contract. Assumes nothing.
use mathlib.Core.Path.{◌≡◌, refl, sym, ap, ◌∙◌}
use mathlib.Core.Bool.{Bool, true, false, cond, not, ◌&&◌}
use mathlib.Core.List.{List, [], ◌∷◌, ◌++◌}
use Prim.Native.Nat.{ℕ, suc, ◌≤◌}
use native.Mathlib.Omega.{arith}
use lib.Dec.{ltb, leb, eqb}
use lib.ListN.{length, get_or}
use borrow.Author.Tests.{le-leb, lt-leb, lt-ltb, le-ltb}
use Rattle.lists.proofs.Tests.{cases}
use Rattle.chip.specs.Geometry.{Nand, geometry_of, blocks_of}
use Rattle.chip.specs.declared.page.Mark.TheVariants.{Valid, Obsolete}
use Rattle.chip.specs.Chip.{program, mark}
use Rattle.chip.specs.Power.{takes_effect}
use Rattle.chip.specs.Erases.{erases_in}
use Rattle.tree.specs.Tree.{Table}
use Rattle.tree.specs.Thick.{thin}
use Rattle.tree.specs.Rebuild.{rebuild}
use Rattle.tree.proofs.Laws.{thick_thin, thick_zero}
use Rattle.tree.proofs.RebuildLaws.{rebuild_eights}
use Rattle.promise.specs.Plain.{refuses, accepted, start_refusal, is_chip_size, is_torn_size, last_number, resting}
use Rattle.promise.specs.Calls.{means, accepts_or, state_of, Rebuilding, Rebuild}
use Rattle.promise.proofs.Promise.{accepted_not}
use Rattle.promise.proofs.Sample.{SampleState, SampleImage, meaning_of, rebuild_ops_of, sample, Outcome, out, sieve, down, voided, opened, sieve_case, same, only_one, cond_case, few_ops, holds_by, invalid_by}

-- the image after it: the new tree and number, no void page, room
abbrev pub renewed : SampleImage → SampleImage
renewed i = record { tree = rebuild i.tree; number = suc i.number; whole = true; void = false; roomy = true; spare = i.spare; size = i.size }

-- after a cut: the new tree where only the last mark was torn, to 0; else the old one, and a void page
abbrev pub cut_renewed : ℕ → List ℕ → SampleImage → SampleImage
cut_renewed n torn i = cond (eqb (suc n) (length (rebuild_ops_of i)) && eqb (get_or torn 0 0) 0) (renewed i) (voided true i)

-- one that is not refused, by its allowance
abbrev pub rebuild_work : Nand → ℕ → List ℕ → SampleState → SampleImage → Outcome
rebuild_work nand n torn s i =
    cond (leb (length (rebuild_ops_of i)) n) (out accepted (length (rebuild_ops_of i)) (opened nand (renewed i)) (renewed i)) (out (refuses 10) n (down s) (cut_renewed n torn i))

-- 7; 6 no number is left; 5 too few blocks are wholly free
abbrev pub rebuild_done : Nand → ℕ → List ℕ → SampleState → SampleImage → Outcome
rebuild_done nand n torn s i =
    cond i.whole
    (cond (ltb i.number last_number) (cond i.spare (rebuild_work nand n torn s i) (out (refuses 5) 0 s i)) (out (refuses 6) 0 s i))
    (out (refuses 7) 0 (down s) i)

abbrev pub rebuilding : Nand → ℕ → List ℕ → SampleState → SampleImage → Outcome
rebuilding nand n torn s i = sieve (start_refusal (geometry_of nand) i.size (length torn)) 0 s i (rebuild_done nand n torn s i)

-- ---- a fact of all its outcomes
rebuild_cases : (P : Outcome → Type 0) (nand : Nand) (n : ℕ) (torn : List ℕ) (s : SampleState) (i : SampleImage)
    → P (out accepted (length (rebuild_ops_of i)) (opened nand (renewed i)) (renewed i)) → P (out (refuses 10) n (down s) (cut_renewed n torn i)) → P (out (refuses 5) 0 s i)
    → P (out (refuses 6) 0 s i) → P (out (refuses 7) 0 (down s) i) → P (rebuild_done nand n torn s i)
rebuild_cases P nand n torn s i a b c d e =
    let x = out accepted (length (rebuild_ops_of i)) (opened nand (renewed i)) (renewed i) in
    let y = out (refuses 10) n (down s) (cut_renewed n torn i) in
    let five = out (refuses 5) 0 s i in
    let six = out (refuses 6) 0 s i in
    let w = cond (leb (length (rebuild_ops_of i)) n) x y in
    let z = cond i.spare w five in
    cond_case P i.whole (cond (ltb i.number last_number) z six) (out (refuses 7) 0 (down s) i)
    (cond_case P (ltb i.number last_number) z six (cond_case P i.spare w five (cond_case P (leb (length (rebuild_ops_of i)) n) x y a b) c) d) e

cut_size : (b : Bool) (i : SampleImage) → (cond b (renewed i) (voided true i)).size ≡ i.size
cut_size true i = refl
cut_size false i = refl

cut_room : (b : Bool) (i : SampleImage) → i.roomy ≡ true → (cond b (renewed i) (voided true i)).roomy ≡ true
cut_room true i h = refl
cut_room false i h = h

cut_means : (b : Bool) (i : SampleImage) → meaning_of (cond b (renewed i) (voided true i)) ≡ cond b (means (rebuild i.tree) (suc i.number)) (meaning_of i)
cut_means true i = refl
cut_means false i = refl

rebuild_few : (b : Bool) → length (cond b (mark 0 Obsolete ∷ []) [] ++ (program 0 (7 ∷ []) ∷ mark 0 Valid ∷ [])) ≤ 4
rebuild_few true = omega arith
rebuild_few false = omega arith

rebuild_none : (b : ℕ) (c : Bool) → erases_in b (cond c (mark 0 Obsolete ∷ []) [] ++ (program 0 (7 ∷ []) ∷ mark 0 Valid ∷ [])) ≡ 0
rebuild_none b true = refl
rebuild_none b false = refl

-- ---- where nothing but want of power refuses it
rebuild_is : (nand : Nand) (n : ℕ) (torn : List ℕ) (s : SampleState) (i : SampleImage) (K : Table) (G : ℕ) → Rebuilding sample nand torn i K G
    → rebuilding nand n torn s i ≡ rebuild_work nand n torn s i
rebuild_is nand n torn s i K G r =
    let t = r.sizes in
    let l = r.number in
    let y = r.blocks in
    let b = holds_by i.whole i.tree i.number K G r.image in
    let e = b.2 in
    rw (t, b.0, lt-ltb i.number last_number (omega arith), y)

rebuild_finished : (nand : Nand) (n : ℕ) (torn : List ℕ) (s : SampleState) (i : SampleImage) (K : Table) (G : ℕ) → Rebuilding sample nand torn i K G → length (rebuild_ops_of i) ≤ n
    → rebuilding nand n torn s i ≡ out accepted (length (rebuild_ops_of i)) (opened nand (renewed i)) (renewed i)
rebuild_finished nand n torn s i K G r h = rebuild_is nand n torn s i K G r ∙ rw (le-leb (length (rebuild_ops_of i)) n h)

work_means : (nand : Nand) (n : ℕ) (torn : List ℕ) (s : SampleState) (i : SampleImage)
    → meaning_of (rebuild_work nand n torn s i).image ≡ cond (takes_effect (get_or torn 0 0) n (length (rebuild_ops_of i))) (means (rebuild i.tree) (suc i.number)) (meaning_of i)
work_means nand n torn s i =
    cases (leb (length (rebuild_ops_of i)) n) (λ u. rw u) (λ u. rw u (cut_means (eqb (suc n) (length (rebuild_ops_of i)) && eqb (get_or torn 0 0) 0) i))

-- ---- what is rebuilt is not thin, whatever it was
not_thin : (t : Table) → thin (rebuild t) ≡ false
not_thin t = thick_thin (rebuild t) (thick_zero 8 (rebuild t) (rebuild_eights t))

pub rebuild_ok : (nand : Nand) (n : ℕ) (torn : List ℕ) (s : SampleState) (i : SampleImage)
    → Rebuild sample nand n torn s i (rebuilding nand n torn s i).answer (rebuilding nand n torn s i).ops (rebuilding nand n torn s i).state (rebuilding nand n torn s i).image
unfolding state_of resting
rebuild_ok nand n torn s i =
    let o = rebuild_done nand n torn s i in
    let f = start_refusal (geometry_of nand) i.size (length torn) in
    let k = length (rebuild_ops_of i) in
    record {
      range = sieve_case (λ x. accepts_or (1 ∷ 7 ∷ 8 ∷ 9 ∷ 6 ∷ 5 ∷ 10 ∷ []) x.answer ≡ true) f 0 s i o
          (only_one (not (is_chip_size (geometry_of nand) i.size && is_torn_size (geometry_of nand) (length torn))) (7 ∷ 8 ∷ 9 ∷ 6 ∷ 5 ∷ 10 ∷ [])) (λ m z e. absurd (omega arith))
          (λ z e. rebuild_cases (λ x. accepts_or (1 ∷ 7 ∷ 8 ∷ 9 ∷ 6 ∷ 5 ∷ 10 ∷ []) x.answer ≡ true) nand n torn s i refl refl refl refl refl);
      same_size = sieve_case (λ x. x.image.size ≡ i.size) f 0 s i o (λ m e. refl) (λ m z e. refl)
          (λ z e. rebuild_cases (λ x. x.image.size ≡ i.size) nand n torn s i refl (cut_size (eqb (suc n) k && eqb (get_or torn 0 0) 0) i) refl refl refl);
      size = λ m e. rw e (refl, refl, same);
      refused = λ t m e. let b = invalid_by i.whole i.tree i.number m e in rw (t, b.0) (ap refuses b.1, refl, refl, refl);
      last = λ t K G e h.
          let b = holds_by i.whole i.tree i.number K G e in
          let q = b.2 in
          rw (t, b.0, le-ltb i.number last_number (omega arith)) (refl, refl, same);
      full = λ t K G e h y.
          let b = holds_by i.whole i.tree i.number K G e in
          let q = b.2 in
          rw (t, b.0, lt-ltb i.number last_number (omega arith), y) (refl, refl, same);
      few = λ K G r. let a = rebuild_few i.void in let b = few_ops nand in omega arith;
      power = λ K G r. rw (rebuild_is nand n torn s i K G r) (record { enough = λ h. rw (le-leb k n h) (refl, refl); short = λ h. rw (lt-leb k n h) (refl, refl) });
      choice = λ K G r.
          let b = holds_by i.whole i.tree i.number K G r.image in
          ap (λ (x : Outcome). meaning_of x.image) (rebuild_is nand n torn s i K G r) ∙ work_means nand n torn s i
          ∙ ap (λ m. cond (takes_effect (get_or torn 0 0) n k) (means (rebuild i.tree) (suc i.number)) m) r.image
          ∙ ap (λ t. cond (takes_effect (get_or torn 0 0) n k) (means (rebuild t) (suc i.number)) (means K G)) b.1
          ∙ ap (λ m. cond (takes_effect (get_or torn 0 0) n k) (means (rebuild K) (suc m)) (means K G)) b.2;
      done = λ K G r h.
          let b = holds_by i.whole i.tree i.number K G r.image in
          let d = rebuild_finished nand n torn s i K G r h in
          let B = blocks_of (geometry_of nand) i.size in (
            ap (λ (x : Outcome). state_of sample x.state x.image) d
                ∙ ap (λ t. resting nand (rebuild t) (suc i.number) B) b.1 ∙ ap (λ m. resting nand (rebuild K) (suc m) B) b.2,
            not_thin K,
            rw d (refl, refl, not_thin i.tree),
            rw d,
          );
      cut = λ K G r h. rw (rebuild_is nand n torn s i K G r, lt-leb k n h);
      room = λ K G r h. rw (rebuild_is nand n torn s i K G r) (cases (leb k n) (λ u. rw u) (λ u. rw u (cut_room (eqb (suc n) k && eqb (get_or torn 0 0) 0) i h)));
      zeros = sieve_case (λ x. x.answer ≡ accepted → (b : ℕ) → x.state.erases b ≡ 0) f 0 s i o (λ m e q. absurd (accepted_not (suc m) (sym q))) (λ m z e. absurd (omega arith))
          (λ z e. rebuild_cases (λ x. x.answer ≡ accepted → (b : ℕ) → x.state.erases b ≡ 0) nand n torn s i (λ q b. refl)
          (λ q. absurd (accepted_not 10 (sym q))) (λ q. absurd (accepted_not 5 (sym q))) (λ q. absurd (accepted_not 6 (sym q))) (λ q. absurd (accepted_not 7 (sym q))));
      no_erase = λ b. rebuild_none b i.void;
    }
