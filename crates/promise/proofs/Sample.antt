-- A sample store that meets every contract: the image holds a tree, the state the updates that are pending. So the contracts can be met. Assumes nothing.
use mathlib.Core.Path.{◌≡◌, refl, sym, ap, ◌∙◌, subst}
use mathlib.Core.Bool.{Bool, true, false, cond, not, ◌&&◌}
use mathlib.Core.List.{List, [], ◌∷◌, ◌++◌}
use Prim.Native.Nat.{ℕ, zero, suc, ◌+◌, ◌%◌, ◌<◌, ◌≤◌}
use native.Mathlib.Omega.{arith}
use lib.Dec.{ltb, leb, eqb}
use lib.ListN.{length, get_or}
use borrow.Author.Tests.{eqb-true, ne_eqb, le-leb, lt-leb, lt-ltb, le-ltb}
use Rattle.lists.proofs.Filters.{bit_most}
use Rattle.lists.proofs.Tests.{cases, clash, or_right}
use Rattle.chip.specs.Geometry.{Nand, geometry_of, blocks_of}
use Rattle.chip.specs.declared.geometry.Nand.TheVariants.{Small, Large}
use Rattle.chip.specs.declared.page.Mark.TheVariants.{Valid, Obsolete}
use Rattle.chip.specs.Chip.{Op, program, mark, erase}
use Rattle.chip.specs.Erases.{erases_in}
use Rattle.tree.specs.Tree.{Table}
use Rattle.tree.specs.Thick.{thin}
use Rattle.promise.specs.Plain.{Answer, refuses, accepted, tells, Plain, or_else, when, ReadCall, UpdateCall, Call, reads, updates, forecasts, formats, commits, mounts, is_chip_size, is_torn_size, has_blocks, first_refusal, tree_refusal, later_refusal, no_number_left, leaf, resting, fresh, updated, committed, enough_writes}
use Rattle.promise.specs.Calls.{Meaning, invalid, means, tree_in, Store, is_one_of, tells_or, accepts_or, ProperRead, ProperUpdate, state_of, Same, FirstTests, Reads, Updates, Format, Proceeding, Commit, Forecast, Mount}
use Rattle.promise.specs.Steps.{Act, read, update, forecast, format, commit, mount, boots, Step, one, Hands, Allowed, Runs}
use Rattle.promise.proofs.Promise.{accepted_not, when_is, leaf_not_thin}
use Rattle.promise.proofs.Proper.{apart_from}

-- the state, with the newest update first and a figure for each block; the image: the tree and number of its last whole commit, whether it has a void page, whether it has room,
-- whether it has as many wholly free blocks as a rebuild needs
pub record SampleState : Type 0 where
  pub on : Bool
  pub nand : Nand
  pub blocks : ℕ
  pub number : ℕ
  pub pending : ℕ
  pub buffer : List UpdateCall
  pub erases : ℕ → ℕ

pub record SampleImage : Type 0 where
  pub tree : Table
  pub number : ℕ
  pub whole : Bool
  pub void : Bool
  pub roomy : Bool
  pub spare : Bool
  pub size : ℕ

abbrev pub grown : ℕ → List UpdateCall → Table → Table
grown B [] t = t
grown B (u ∷ us) t = u.step B (grown B us t)

abbrev pub meaning_of : SampleImage → Meaning
meaning_of i = cond i.whole (means i.tree i.number) (invalid 7)

abbrev pub present_of : SampleState → SampleImage → Table
present_of s i = grown s.blocks s.buffer (tree_in (meaning_of i))

-- the operations of a commit with updates pending, by its number: it erases one of three blocks in turn
abbrev pub work_of : ℕ → List Op
work_of n = erase (n % 3) ∷ program 0 (7 ∷ []) ∷ mark 0 Valid ∷ []

abbrev pub commit_ops_of : SampleState → List Op
commit_ops_of s = cond (ltb 0 s.pending) (work_of s.number) []

abbrev pub mount_ops_of : SampleImage → List Op
mount_ops_of i = cond i.void (mark 0 Obsolete ∷ []) []

-- the void page's mark, then a page
abbrev pub rebuild_ops_of : SampleImage → List Op
rebuild_ops_of i = mount_ops_of i ++ (program 0 (7 ∷ []) ∷ mark 0 Valid ∷ [])

-- an image with room has one to three free pages, by its number
abbrev pub free_of : SampleImage → ℕ
free_of i = cond i.roomy (suc (i.number % 3)) 0

-- calls leave no void page, a state with the image's number, and a tree that is not thin
abbrev pub Tied : SampleState → SampleImage → Type 0
Tied s i = (i.void ≡ false) × (s.number ≡ i.number) × (thin (present_of s i) ≡ false)

abbrev pub sample : Store
sample =
    record {
      State = SampleState;
      Image = SampleImage;
      size = λ i. i.size;
      on = λ s. s.on;
      nand = λ s. s.nand;
      blocks = λ s. s.blocks;
      pending = λ s. s.pending;
      number = λ s. s.number;
      erases = λ s. s.erases;
      present = present_of;
      meaning = λ n. meaning_of;
      free = λ n. free_of;
      has_free_blocks = λ n i. i.spare;
      mount_ops = λ n. mount_ops_of;
      rebuild_ops = λ n. rebuild_ops_of;
      commit_ops = λ s i. commit_ops_of s;
      format_ops = λ n B. erase 0 ∷ erase 1 ∷ erase 2 ∷ program 0 (7 ∷ []) ∷ [];
      most = λ n. 3;
      Good = Tied;
      Room = λ n i. i.roomy ≡ true;
      able = λ s i. i.roomy;
    }

-- ---- the calls
pub record Outcome : Type 0 where
  pub answer : Answer
  pub ops : ℕ
  pub state : SampleState
  pub image : SampleImage

abbrev pub out : Answer → ℕ → SampleState → SampleImage → Outcome
out a n s i = record { answer = a; ops = n; state = s; image = i }

-- by the first tests, then the later ones
abbrev pub sieve : ℕ → ℕ → SampleState → SampleImage → Outcome → Outcome
sieve (suc n) m s i o = out (refuses (suc n)) 0 s i
sieve zero (suc m) s i o = out (refuses (suc m)) 0 s i
sieve zero zero s i o = o

abbrev pub call : Call → SampleState → SampleImage → Outcome → Outcome
call c s i o = sieve (first_refusal s.nand s.on s.blocks c) (later_refusal (state_of sample s i) c) s i o

abbrev pub push : UpdateCall → SampleState → SampleState
push u s = record { on = s.on; nand = s.nand; blocks = s.blocks; number = s.number; pending = suc s.pending; buffer = u ∷ s.buffer; erases = s.erases }

abbrev pub down : SampleState → SampleState
down s = record { on = false; nand = s.nand; blocks = s.blocks; number = s.number; pending = s.pending; buffer = s.buffer; erases = s.erases }

abbrev pub written : SampleState → SampleImage → SampleImage
written s i = record { tree = present_of s i; number = suc s.number; whole = true; void = false; roomy = i.roomy; spare = i.spare; size = i.size }

abbrev pub voided : Bool → SampleImage → SampleImage
voided b i = record { tree = i.tree; number = i.number; whole = i.whole; void = b; roomy = i.roomy; spare = i.spare; size = i.size }

abbrev pub emptied : SampleState → SampleState
emptied s =
    record { on = s.on; nand = s.nand; blocks = s.blocks; number = suc s.number; pending = 0; buffer = []; erases = λ b. s.erases b + erases_in b (commit_ops_of s) }

abbrev pub cut_image : ℕ → List ℕ → SampleState → SampleImage → SampleImage
cut_image n torn s i = cond (eqb (suc n) 3 && eqb (get_or torn 0 0) 0) (written s i) (voided true i)

-- a commit or a forecast: with nothing pending nothing is done, without room it is refused with 6, else it comes out as o
abbrev pub planned : SampleState → SampleImage → Outcome → Outcome
planned s i o = cond (ltb 0 s.pending) (cond i.roomy o (out (refuses 6) 0 s i)) (out accepted 0 s i)

-- a commit with updates pending and room, by its allowance
abbrev pub commit_work : ℕ → List ℕ → SampleState → SampleImage → Outcome
commit_work n torn s i = cond (leb 3 n) (out accepted 3 (emptied s) (written s i)) (out (refuses 10) n (down s) (cut_image n torn s i))

abbrev pub commit_done_lem : ℕ → List ℕ → SampleState → SampleImage → Outcome
commit_done_lem n torn s i = planned s i (commit_work n torn s i)

-- a forecast tells the number of the commit's operations
abbrev pub forecast_done_lem : SampleState → SampleImage → Outcome
forecast_done_lem s i = planned s i (out accepted (length (commit_ops_of s)) s i)

abbrev pub opened : Nand → SampleImage → SampleState
opened nand i = record { on = true; nand = nand; blocks = blocks_of (geometry_of nand) i.size; number = i.number; pending = 0; buffer = []; erases = λ b. 0 }

-- a mount of an image that it accepts, by its allowance
abbrev pub mount_work : Nand → ℕ → SampleState → SampleImage → Outcome
mount_work nand n s i = cond (leb (length (mount_ops_of i)) n) (out accepted (length (mount_ops_of i)) (opened nand i) (voided false i)) (out (refuses 10) n (down s) i)

abbrev pub mount_done_lem : Nand → ℕ → SampleState → SampleImage → Outcome
mount_done_lem nand n s i =
    cond i.whole (cond (thin i.tree) (out (refuses 12) 0 (down s) i) (mount_work nand n s i)) (out (refuses 7) 0 (down s) i)

abbrev pub format_done : Nand → ℕ → SampleState → SampleImage → Outcome
format_done nand n s i =
    cond (leb 4 n)
    (out accepted 4 (record { on = true; nand = nand; blocks = blocks_of (geometry_of nand) i.size; number = 1; pending = 0; buffer = []; erases = λ b. 0 })
    (record { tree = leaf (blocks_of (geometry_of nand) i.size); number = 1; whole = true; void = false; roomy = true; spare = true; size = i.size }))
    (out (refuses 10) n (down s) (record { tree = []; number = 0; whole = false; void = false; roomy = false; spare = false; size = i.size }))

abbrev pub act : Act → SampleState → SampleImage → Outcome
act (read r) s i = call (reads r i.size) s i (out (r.answer (state_of sample s i)) 0 s i)
act (update u) s i = call (updates u i.size) s i (out accepted 0 (push u s) i)
act forecast s i = call (forecasts i.size) s i (forecast_done_lem s i)
act (format nand n torn) s i = call (formats nand n i.size (length torn)) s i (format_done nand n s i)
act (commit n torn) s i = call (commits n i.size (length torn)) s i (commit_done_lem n torn s i)
act (mount nand n torn) s i = call (mounts nand n i.size (length torn)) s i (mount_done_lem nand n s i)

-- ---- a fact of all outcomes of a call
pub sieve_case : (P : Outcome → Type 0) (n m : ℕ) (s : SampleState) (i : SampleImage) (o : Outcome)
    → ((k : ℕ) → n ≡ suc k → P (out (refuses (suc k)) 0 s i)) → ((k : ℕ) → n ≡ 0 → m ≡ suc k → P (out (refuses (suc k)) 0 s i)) → (n ≡ 0 → m ≡ 0 → P o) → P (sieve n m s i o)
sieve_case P (suc n) m s i o f h p = f n refl
sieve_case P zero (suc m) s i o f h p = h m refl refl
sieve_case P zero zero s i o f h p = p refl refl

pub same : {s : SampleState} {i : SampleImage} → Same sample s i s i
same = record { state = refl; image = refl }

-- a refusal that is neither 1 nor 2
abbrev NotFirst : ℕ → Type 0
NotFirst m = (m ≡ 1 → ⊥) × (m ≡ 2 → ⊥)

later_when : (n m : ℕ) (b : Bool) → NotFirst (suc n) → when (suc n) b ≡ suc m → NotFirst (suc m)
later_when n m b h e = let q = when_is (suc n) m b e in (λ z. h.0 (sym q ∙ z), λ z. h.1 (sym q ∙ z))

-- what every contract says first
first_ok : (c : Call) (s : SampleState) (i : SampleImage) (o : Outcome) → ((m : ℕ) → later_refusal (state_of sample s i) c ≡ suc m → NotFirst (suc m)) → ((m : ℕ) → o.answer ≡ refuses m → NotFirst m)
    → o.image.size ≡ i.size → FirstTests sample c s i (call c s i o).answer (call c s i o).state (call c s i o).image
first_ok c s i o l a z =
    record {
      refused = λ n e. rw e (refl, same);
      not1 = λ t. sieve_case (λ x. x.answer ≡ refuses 1 → ⊥) (first_refusal s.nand s.on s.blocks c) (later_refusal (state_of sample s i) c) s i o
          (λ k e. absurd (omega arith)) (λ k f e r. (l k e).0 (let q : suc k ≡ 1 = cc in q)) (λ f e r. (a 1 r).0 refl);
      not2 = λ t. sieve_case (λ x. x.answer ≡ refuses 2 → ⊥) (first_refusal s.nand s.on s.blocks c) (later_refusal (state_of sample s i) c) s i o
          (λ k e. absurd (omega arith)) (λ k f e r. (l k e).1 (let q : suc k ≡ 2 = cc in q)) (λ f e r. (a 2 r).1 refl);
      same_size = sieve_case (λ x. x.image.size ≡ i.size) (first_refusal s.nand s.on s.blocks c) (later_refusal (state_of sample s i) c) s i o
          (λ k e. refl) (λ k f e. refl) (λ f e. z);
    }

-- ---- the answers that a call can give
two_one : (a b : Bool) (ns : List ℕ) (k : ℕ) → or_else (when 2 a) (when 1 b) ≡ suc k → is_one_of (suc k) (2 ∷ 1 ∷ ns) ≡ true
two_one true b ns k e = subst (λ m. is_one_of m (2 ∷ 1 ∷ ns) ≡ true) e refl
two_one false true ns k e = subst (λ m. is_one_of m (2 ∷ 1 ∷ ns) ≡ true) e refl
two_one false false ns k e = absurd (omega arith)

pub only_one : (b : Bool) (ns : List ℕ) (k : ℕ) → when 1 b ≡ suc k → is_one_of (suc k) (1 ∷ ns) ≡ true
only_one b ns k e = subst (λ m. is_one_of m (1 ∷ ns) ≡ true) (sym (when_is 1 k b e)) refl

pub more : (n m : ℕ) (ns : List ℕ) → is_one_of n ns ≡ true → is_one_of n (m ∷ ns) ≡ true
more n m ns e = or_right (eqb n m) (is_one_of n ns) e

tells_more : (a : Answer) (m : ℕ) (ns : List ℕ) → tells_or ns a ≡ true → tells_or (m ∷ ns) a ≡ true
tells_more (refuses n) m ns e = more n m ns e
tells_more accepted m ns e = e
tells_more (tells vs) m ns e = e

-- ---- reads
own_read : (r : ReadCall) → ProperRead r → (p : Plain) (m : ℕ) → r.answer p ≡ refuses m → NotFirst m
own_read r w p m e =
    let t : is_one_of m r.numbers ≡ true = subst (λ (a : Answer). tells_or r.numbers a ≡ true) e (w.range p) in
    (λ z. apart_from m 1 r.numbers t (w.own 1 refl) z, λ z. apart_from m 2 r.numbers t (w.own 2 refl) z)

read_ok : (r : ReadCall) → ProperRead r → (s : SampleState) (i : SampleImage) → Reads sample r s i (act (read r) s i).answer (act (read r) s i).state (act (read r) s i).image
read_ok r w s i =
    let o = out (r.answer (state_of sample s i)) 0 s i in
    let c = reads r i.size in
    let f = first_refusal s.nand s.on s.blocks c in
    record {
      first = first_ok c s i o (λ m e. absurd (omega arith)) (own_read r w (state_of sample s i)) refl;
      range = sieve_case (λ x. tells_or (2 ∷ 1 ∷ r.numbers) x.answer ≡ true) f 0 s i o
          (two_one (not s.on) (not (is_chip_size (geometry_of s.nand) i.size && has_blocks (geometry_of s.nand) s.blocks i.size)) r.numbers) (λ k z e. absurd (omega arith))
          (λ z e. tells_more (r.answer (state_of sample s i)) 2 (1 ∷ r.numbers) (tells_more (r.answer (state_of sample s i)) 1 r.numbers (w.range (state_of sample s i))));
      same = sieve_case (λ x. Same sample s i x.state x.image) f 0 s i o (λ k e. same) (λ k z e. same) (λ z e. same);
      done = λ good t. rw t;
    }

-- ---- updates
pub or_is : (a b k : ℕ) (P : ℕ → Type 0) → ((n : ℕ) → a ≡ suc n → P (suc n)) → ((n : ℕ) → b ≡ suc n → P (suc n)) → or_else a b ≡ suc k → P (suc k)
or_is zero b k P f h e = h k e
or_is (suc a) b k P f h e = f k e

own_update : (u : UpdateCall) → ProperUpdate u → (B : ℕ) (t : Table) (m : ℕ) → u.refusal B t ≡ suc m → NotFirst (suc m)
own_update u w B t m e =
    let q = w.range B t m e in
    (λ z. apart_from (suc m) 1 u.numbers q (w.own 1 refl) z, λ z. apart_from (suc m) 2 u.numbers q (w.own 2 refl) z)

three_later : (u : UpdateCall) → ProperUpdate u → (B : ℕ) (t : Table) (k x : ℕ) → x < 16 → or_else (when 3 (leb 16 x)) (u.refusal B t) ≡ suc k → suc k ≡ 3 → ⊥
three_later u w B t k x h e q = let f : u.refusal B t ≡ suc k = (rw (lt-leb 16 x h) at e) in apart_from (suc k) 3 u.numbers (w.range B t k f) (w.own 3 refl) q

update_ok : (u : UpdateCall) → ProperUpdate u → (s : SampleState) (i : SampleImage) → thin (u.step s.blocks (present_of s i)) ≡ false
    → Updates sample u s i (act (update u) s i).answer (act (update u) s i).state (act (update u) s i).image
unfolding state_of updated
update_ok u w s i thick =
    let o = out accepted 0 (push u s) i in
    let c = updates u i.size in
    let f = first_refusal s.nand s.on s.blocks c in
    let b = u.refusal s.blocks (present_of s i) in
    let l = or_else (when 3 (leb 16 s.pending)) b in
    record {
      first = first_ok c s i o
          (λ m e. or_is (when 3 (leb 16 s.pending)) b m NotFirst
          (λ n q. later_when 2 n (leb 16 s.pending) ((λ z. omega arith), (λ z. omega arith)) q) (own_update u w s.blocks (present_of s i)) e)
          (λ m e. absurd (accepted_not m e)) refl;
      range = sieve_case (λ x. accepts_or (2 ∷ 1 ∷ 3 ∷ u.numbers) x.answer ≡ true) f l s i o
          (two_one (not s.on) (not (is_chip_size (geometry_of s.nand) i.size && has_blocks (geometry_of s.nand) s.blocks i.size)) (3 ∷ u.numbers))
          (λ k z e. or_is (when 3 (leb 16 s.pending)) b k (λ n. is_one_of n (2 ∷ 1 ∷ 3 ∷ u.numbers) ≡ true)
          (λ n q. subst (λ m. is_one_of m (2 ∷ 1 ∷ 3 ∷ u.numbers) ≡ true) (sym (when_is 3 n (leb 16 s.pending) q)) refl)
          (λ n q. more (suc n) 2 (1 ∷ 3 ∷ u.numbers) (more (suc n) 1 (3 ∷ u.numbers) (more (suc n) 3 u.numbers (w.range s.blocks (present_of s i) n q)))) e)
          (λ z e. refl);
      image = sieve_case (λ x. x.image ≡ i) f l s i o (λ k e. refl) (λ k z e. refl) (λ z e. refl);
      still = λ n. sieve_case (λ x. x.answer ≡ refuses n → x.state ≡ s) f l s i o (λ k e q. refl) (λ k z e q. refl) (λ z e q. absurd (accepted_not n q));
      figures = λ b. sieve_case (λ x. x.state.erases b ≡ s.erases b) f l s i o (λ k e. refl) (λ k z e. refl) (λ z e. refl);
      full = λ t h. rw (t, le-leb 16 s.pending h);
      not_full = λ t h. sieve_case (λ x. x.answer ≡ refuses 3 → ⊥) f l s i o
          (λ k e. absurd (omega arith))
          (λ k z e r. three_later u w s.blocks (present_of s i) k s.pending h e (let q : suc k ≡ 3 = cc in q))
          (λ z e r. accepted_not 3 r);
      then = λ good t n e. rw (t, e);
      done = λ good t e. rw (t, e) (refl, refl, (good.0, good.1, thick));
    }

-- ---- commit
not_later : (m : ℕ) → accepted ≡ refuses m → NotFirst m
not_later m e = absurd (accepted_not m e)

far : (n m : ℕ) → 2 < n → refuses n ≡ refuses m → NotFirst m
far n m h e = let q : n ≡ m = cc in (λ z. omega arith, λ z. omega arith)

pub cond_case : {A : Type 0} (P : A → Type 0) (b : Bool) (x y : A) → P x → P y → P (cond b x y)
cond_case P true x y h k = h
cond_case P false x y h k = k

-- a fact of all outcomes of a commit or a forecast
planned_cases : (P : Outcome → Type 0) (s : SampleState) (i : SampleImage) (o : Outcome) → P o → P (out (refuses 6) 0 s i) → P (out accepted 0 s i) → P (planned s i o)
planned_cases P s i o a d c =
    let z = out (refuses 6) 0 s i in
    cond_case P (ltb 0 s.pending) (cond i.roomy o z) (out accepted 0 s i) (cond_case P i.roomy o z a d) c

-- a fact of all four outcomes of a commit
commit_cases : (P : Outcome → Type 0) (n : ℕ) (torn : List ℕ) (s : SampleState) (i : SampleImage)
    → P (out accepted 3 (emptied s) (written s i)) → P (out (refuses 10) n (down s) (cut_image n torn s i)) → P (out (refuses 6) 0 s i) → P (out accepted 0 s i) → P (commit_done_lem n torn s i)
commit_cases P n torn s i a b d c =
    let x = out accepted 3 (emptied s) (written s i) in
    let y = out (refuses 10) n (down s) (cut_image n torn s i) in
    planned_cases P s i (cond (leb 3 n) x y) (cond_case P (leb 3 n) x y a b) d c

cut_size : (b : Bool) (s : SampleState) (i : SampleImage) → (cond b (written s i) (voided true i)).size ≡ i.size
cut_size true s i = refl
cut_size false s i = refl

cut_room : (b : Bool) (s : SampleState) (i : SampleImage) → i.roomy ≡ true → (cond b (written s i) (voided true i)).roomy ≡ true
cut_room true s i h = h
cut_room false s i h = h

cut_means : (b : Bool) (s : SampleState) (i : SampleImage)
    → meaning_of (cond b (written s i) (voided true i)) ≡ cond b (means (present_of s i) (suc s.number)) (meaning_of i)
cut_means true s i = refl
cut_means false s i = refl

-- its operations are few on either part
pub few_ops : (nand : Nand) → 4 ≤ enough_writes nand
few_ops Small = omega arith
few_ops Large = omega arith

-- no block is erased twice
commit_once : (b n : ℕ) (c : Bool) → erases_in b (cond c (work_of n) []) ≤ 1
commit_once b n true = let m = bit_most (eqb b (n % 3)) in omega arith
commit_once b n false = omega arith

-- nor by two commits in a row
commit_rests : (b n m : ℕ) (c d : Bool) → m ≡ suc n → 0 < erases_in b (cond c (work_of n) []) → erases_in b (cond d (work_of m) []) ≡ 0
commit_rests b n m false d e h = absurd (omega arith)
commit_rests b n m true false e h = refl
commit_rests b n m true true e h =
    cases (eqb b (n % 3))
    (λ t. let q = eqb-true b (n % 3) t in rw (ne_eqb b (m % 3) (λ z. omega arith)))
    (λ t. let z : ◌<◌ 0 0 = (rw t at h) in absurd (omega arith))

quiet_ten : (n k : ℕ) (s s' : SampleState) (i i' : SampleImage) → refuses 10 ≡ refuses k → (k ≡ 10 → ⊥) → (n ≡ 0) × Same sample s i s' i'
quiet_ten n k s s' i i' e f = let q : ◌≡◌ {A = ℕ} 10 k = cc in absurd (f (sym q))

-- the refusal for want of a number
six_later : (b : Bool) (m : ℕ) → or_else (when 6 b) 0 ≡ suc m → NotFirst (suc m)
six_later b m e = or_is (when 6 b) 0 m NotFirst (λ k q. later_when 5 k b ((λ z. omega arith), (λ z. omega arith)) q) (λ k q. absurd (omega arith)) e

six_range : (b : Bool) (ns : List ℕ) (k : ℕ) → or_else (when 6 b) 0 ≡ suc k → is_one_of (suc k) (2 ∷ 1 ∷ 6 ∷ ns) ≡ true
six_range b ns k e =
    or_is (when 6 b) 0 k (λ m. is_one_of m (2 ∷ 1 ∷ 6 ∷ ns) ≡ true)
    (λ m q. subst (λ y. is_one_of y (2 ∷ 1 ∷ 6 ∷ ns) ≡ true) (sym (when_is 6 m b q)) refl) (λ m q. absurd (omega arith)) e

-- the outcome of a commit or a forecast that has something to do
planned_is : (c : Call) (s : SampleState) (i : SampleImage) (o : Outcome) → tree_refusal (state_of sample s i) c ≡ 0 → Proceeding sample c s
    → call c s i (planned s i o) ≡ cond i.roomy o (out (refuses 6) 0 s i)
unfolding state_of
planned_is c s i o l q =
    let t = q.passes in
    let e = q.numbers in
    let z = q.pending in
    rw (t, e, l, lt-ltb 0 s.pending z)

-- the operations of a commit with updates pending
three_ops : (s : SampleState) → 0 < s.pending → length (commit_ops_of s) ≡ 3
three_ops s z = rw (lt-ltb 0 s.pending z)

-- the outcome of a commit that has something to do, with room; and with an allowance enough
commit_able : (n : ℕ) (torn : List ℕ) (s : SampleState) (i : SampleImage) → Proceeding sample (commits n i.size (length torn)) s → i.roomy ≡ true
    → act (commit n torn) s i ≡ commit_work n torn s i
commit_able n torn s i q b = planned_is (commits n i.size (length torn)) s i (commit_work n torn s i) refl q ∙ rw b

commit_finished : (n : ℕ) (torn : List ℕ) (s : SampleState) (i : SampleImage) → Proceeding sample (commits n i.size (length torn)) s → i.roomy ≡ true → length (commit_ops_of s) ≤ n
    → act (commit n torn) s i ≡ out accepted 3 (emptied s) (written s i)
commit_finished n torn s i q b h =
    let j : 3 ≤ n = (rw (three_ops s q.pending) at h) in
    commit_able n torn s i q b ∙ rw (le-leb 3 n j)

commit_ok : (n : ℕ) (torn : List ℕ) (s : SampleState) (i : SampleImage)
    → Commit sample n torn s i (act (commit n torn) s i).answer (act (commit n torn) s i).ops (act (commit n torn) s i).state (act (commit n torn) s i).image
unfolding state_of committed
commit_ok n torn s i =
    let o = commit_done_lem n torn s i in
    let c = commits n i.size (length torn) in
    let six = no_number_left s.pending s.number in
    let f = first_refusal s.nand s.on s.blocks c in
    let l = or_else (when 6 six) 0 in
    record {
      first = first_ok c s i o (six_later six)
          (commit_cases (λ x. (m : ℕ) → x.answer ≡ refuses m → NotFirst m) n torn s i not_later (λ m. far 10 m (omega arith)) (λ m. far 6 m (omega arith)) not_later)
          (commit_cases (λ x. x.image.size ≡ i.size) n torn s i refl (cut_size (eqb (suc n) 3 && eqb (get_or torn 0 0) 0) s i) refl refl);
      range = sieve_case (λ x. accepts_or (2 ∷ 1 ∷ 6 ∷ 10 ∷ []) x.answer ≡ true) f l s i o
          (two_one (not s.on) (not (is_chip_size (geometry_of s.nand) i.size && (is_torn_size (geometry_of s.nand) (length torn) && has_blocks (geometry_of s.nand) s.blocks i.size))) (6 ∷ 10 ∷ []))
          (λ k z. six_range six (10 ∷ []) k)
          (λ z e. commit_cases (λ x. accepts_or (2 ∷ 1 ∷ 6 ∷ 10 ∷ []) x.answer ≡ true) n torn s i refl refl refl refl);
      quiet = sieve_case (λ x. (k : ℕ) → x.answer ≡ refuses k → (k ≡ 10 → ⊥) → (x.ops ≡ 0) × Same sample s i x.state x.image) f l s i o
          (λ k e m q d. (refl, same)) (λ k z e m q d. (refl, same))
          (λ z e. commit_cases (λ x. (k : ℕ) → x.answer ≡ refuses k → (k ≡ 10 → ⊥) → (x.ops ≡ 0) × Same sample s i x.state x.image) n torn s i
          (λ k q d. absurd (accepted_not k q)) (λ k. quiet_ten n k s (down s) i (cut_image n torn s i)) (λ k q d. (refl, same)) (λ k q d. absurd (accepted_not k q)));
      last = λ t k e. rw (t, e);
      idle = λ t z. rw (t, le-ltb 0 s.pending (omega arith)) (refl, refl, same);
      none = λ z. rw (le-ltb 0 s.pending (omega arith));
      bound = let k = few_ops s.nand in omega arith;
      stuck = λ q b. ap (λ x. x.answer) (planned_is c s i (commit_work n torn s i) refl q) ∙ rw b;
      able = λ q r. r;
      few = λ q b. let e = three_ops s q.proceeds.pending in omega arith;
      power = λ q b. rw (commit_able n torn s i q b, three_ops s q.pending)
          (record { enough = λ h. rw (le-leb 3 n h) (refl, refl); short = λ h. rw (lt-leb 3 n h) (refl, refl) });
      choice = λ q b. rw (commit_able n torn s i q.proceeds b, three_ops s q.proceeds.pending)
          (cases (leb 3 n) (λ u. rw u) (λ u. rw u (cut_means (eqb (suc n) 3 && eqb (get_or torn 0 0) 0) s i)));
      thick = λ q. q.good.2;
      room = λ q b r. rw (commit_able n torn s i q.proceeds b) (cases (leb 3 n) (λ u. rw u r) (λ u. rw u (cut_room (eqb (suc n) 3 && eqb (get_or torn 0 0) 0) s i r)));
      done = λ q b h. rw (commit_finished n torn s i q.proceeds b h) (refl, (refl, refl, q.good.2));
      once = λ q b x. commit_once x s.number (ltb 0 s.pending);
      adds = λ q b h x k. rw (commit_finished n torn s i q.proceeds b h);
      leaves_free = λ q b h. rw (commit_finished n torn s i q.proceeds b h, b) (omega arith);
      rests = λ q b h x z t good own.
          commit_rests x s.number t.number (ltb 0 s.pending) (ltb 0 t.pending) (good.1 ∙ ap (λ y. y.image.number) (commit_finished n torn s i q.proceeds b h)) z;
      cut = λ q b h. let j : n < 3 = (rw (three_ops s q.proceeds.pending) at h) in rw (commit_able n torn s i q.proceeds b, lt-leb 3 n j);
    }

-- ---- forecast
forecast_ok : (s : SampleState) (i : SampleImage) → Forecast sample s i (act forecast s i).answer (act forecast s i).ops (act forecast s i).state (act forecast s i).image
unfolding state_of
forecast_ok s i =
    let w = out accepted (length (commit_ops_of s)) s i in
    let o = forecast_done_lem s i in
    let c = forecasts i.size in
    let six = no_number_left s.pending s.number in
    let f = first_refusal s.nand s.on s.blocks c in
    let l = or_else (when 6 six) 0 in
    record {
      first = first_ok c s i o (six_later six)
          (planned_cases (λ x. (m : ℕ) → x.answer ≡ refuses m → NotFirst m) s i w not_later (λ m. far 6 m (omega arith)) not_later)
          (planned_cases (λ x. x.image.size ≡ i.size) s i w refl refl refl);
      range = sieve_case (λ x. accepts_or (2 ∷ 1 ∷ 6 ∷ []) x.answer ≡ true) f l s i o
          (two_one (not s.on) (not (is_chip_size (geometry_of s.nand) i.size && has_blocks (geometry_of s.nand) s.blocks i.size)) (6 ∷ [])) (λ k z. six_range six [] k)
          (λ z e. planned_cases (λ x. accepts_or (2 ∷ 1 ∷ 6 ∷ []) x.answer ≡ true) s i w refl refl refl);
      same = sieve_case (λ x. Same sample s i x.state x.image) f l s i o (λ k e. same) (λ k z e. same)
          (λ z e. planned_cases (λ x. Same sample s i x.state x.image) s i w same same same);
      quiet = sieve_case (λ x. (k : ℕ) → x.answer ≡ refuses k → x.ops ≡ 0) f l s i o (λ k e m q. refl) (λ k z e m q. refl)
          (λ z e. planned_cases (λ x. (k : ℕ) → x.answer ≡ refuses k → x.ops ≡ 0) s i w (λ k q. absurd (accepted_not k q)) (λ k q. refl) (λ k q. refl));
      last = λ t k e. rw (t, e);
      idle = λ t z. rw (t, le-ltb 0 s.pending (omega arith)) (refl, refl);
      stuck = λ q b. ap (λ x. x.answer) (planned_is c s i w refl q) ∙ rw b;
      able = λ good q r. r;
      done = λ q b. rw (planned_is c s i w refl q, b) (refl, refl);
    }

-- ---- mount
mount_cases : (P : Outcome → Type 0) (nand : Nand) (n : ℕ) (s : SampleState) (i : SampleImage) → P (out accepted (length (mount_ops_of i)) (opened nand i) (voided false i)) → P (out (refuses 10) n (down s) i)
    → P (out (refuses 7) 0 (down s) i) → P (out (refuses 12) 0 (down s) i) → P (mount_done_lem nand n s i)
mount_cases P nand n s i a b c d =
    let x = out accepted (length (mount_ops_of i)) (opened nand i) (voided false i) in
    let y = out (refuses 10) n (down s) i in
    let z = out (refuses 12) 0 (down s) i in
    let w = cond (leb (length (mount_ops_of i)) n) x y in
    cond_case P i.whole (cond (thin i.tree) z w) (out (refuses 7) 0 (down s) i)
    (cond_case P (thin i.tree) z w d (cond_case P (leb (length (mount_ops_of i)) n) x y a b)) c

void_few : (b : Bool) → length (cond b (mark 0 Obsolete ∷ []) []) ≤ 255
void_few true = omega arith
void_few false = omega arith

-- what an image that means (K, G) is
pub holds_by : (b : Bool) (t : Table) (n : ℕ) (K : Table) (G : ℕ) → cond b (means t n) (invalid 7) ≡ means K G → (b ≡ true) × (t ≡ K) × (n ≡ G)
holds_by true t n K G e = (refl, cc, cc)
holds_by false t n K G e = let u : ◌≡◌ {A = ℕ} 0 1 = cc in absurd (omega arith)

mount_whole : (nand : Nand) (n : ℕ) (s : SampleState) (i : SampleImage) → i.whole ≡ true → thin i.tree ≡ false → mount_done_lem nand n s i ≡ mount_work nand n s i
mount_whole nand n s i e h = rw (e, h)

pub invalid_by : (b : Bool) (t : Table) (n m : ℕ) → cond b (means t n) (invalid 7) ≡ invalid m → (b ≡ false) × (7 ≡ m)
invalid_by true t n m e = let u : ◌≡◌ {A = ℕ} 0 1 = cc in absurd (omega arith)
invalid_by false t n m e = (refl, cc)

ten_loud : (n k : ℕ) → refuses 10 ≡ refuses k → (k ≡ 10 → ⊥) → n ≡ 0
ten_loud n k e f = let q : ◌≡◌ {A = ℕ} 10 k = cc in absurd (f (sym q))

-- the outcome of a mount that passed its test of size
mount_is : (nand : Nand) (n : ℕ) (torn : List ℕ) (s : SampleState) (i : SampleImage) → first_refusal s.nand s.on s.blocks (mounts nand n i.size (length torn)) ≡ 0 → act (mount nand n torn) s i ≡ mount_done_lem nand n s i
mount_is nand n torn s i t = rw t

mount_finished : (nand : Nand) (n : ℕ) (torn : List ℕ) (s : SampleState) (i : SampleImage) → first_refusal s.nand s.on s.blocks (mounts nand n i.size (length torn)) ≡ 0 → i.whole ≡ true
    → thin i.tree ≡ false → length (mount_ops_of i) ≤ n → act (mount nand n torn) s i ≡ out accepted (length (mount_ops_of i)) (opened nand i) (voided false i)
mount_finished nand n torn s i t e k h = mount_is nand n torn s i t ∙ mount_whole nand n s i e k ∙ rw (le-leb (length (mount_ops_of i)) n h)

-- it sets a mark or does nothing
mount_none : (b : ℕ) (c : Bool) → erases_in b (cond c (mark 0 Obsolete ∷ []) []) ≡ 0
mount_none b true = refl
mount_none b false = refl

mount_ok : (nand : Nand) (n : ℕ) (torn : List ℕ) (s : SampleState) (i : SampleImage)
    → Mount sample nand n torn s i (act (mount nand n torn) s i).answer (act (mount nand n torn) s i).ops (act (mount nand n torn) s i).state (act (mount nand n torn) s i).image
unfolding state_of resting
mount_ok nand n torn s i =
    let o = mount_done_lem nand n s i in
    let c = mounts nand n i.size (length torn) in
    let f = first_refusal s.nand s.on s.blocks c in
    record {
      first = first_ok c s i o (λ m e. absurd (omega arith))
          (mount_cases (λ x. (m : ℕ) → x.answer ≡ refuses m → NotFirst m) nand n s i not_later (λ m. far 10 m (omega arith)) (λ m. far 7 m (omega arith)) (λ m. far 12 m (omega arith)))
          (mount_cases (λ x. x.image.size ≡ i.size) nand n s i refl refl refl refl);
      range = sieve_case (λ x. accepts_or (1 ∷ 7 ∷ 8 ∷ 9 ∷ 12 ∷ 10 ∷ []) x.answer ≡ true) f 0 s i o
          (only_one (not (is_chip_size (geometry_of nand) i.size && is_torn_size (geometry_of nand) (length torn))) (7 ∷ 8 ∷ 9 ∷ 12 ∷ 10 ∷ [])) (λ k z e. absurd (omega arith))
          (λ z e. mount_cases (λ x. accepts_or (1 ∷ 7 ∷ 8 ∷ 9 ∷ 12 ∷ 10 ∷ []) x.answer ≡ true) nand n s i refl refl refl refl);
      quiet = sieve_case (λ x. (k : ℕ) → x.answer ≡ refuses k → (k ≡ 10 → ⊥) → x.ops ≡ 0) f 0 s i o (λ k e m q d. refl) (λ k z e m q d. refl)
          (λ z e. mount_cases (λ x. (k : ℕ) → x.answer ≡ refuses k → (k ≡ 10 → ⊥) → x.ops ≡ 0) nand n s i (λ k e f. absurd (accepted_not k e)) (ten_loud n) (λ k e f. refl) (λ k e f. refl));
      few = λ K G e. void_few i.void;
      refused = λ t m e.
          let b = invalid_by i.whole i.tree i.number m e in
          rw (mount_is nand n torn s i t, b.0) (ap refuses b.1, refl, refl, refl);
      refused_thin = λ t K G e h.
          let b = holds_by i.whole i.tree i.number K G e in
          rw (mount_is nand n torn s i t, b.0, ap thin b.1 ∙ h) (refl, refl, refl, refl);
      power = λ t K G e k.
          let b = holds_by i.whole i.tree i.number K G e in
          rw (mount_is nand n torn s i t, mount_whole nand n s i b.0 (ap thin b.1 ∙ k))
          (record { enough = λ h. rw (le-leb (length (mount_ops_of i)) n h) (refl, refl); short = λ h. rw (lt-leb (length (mount_ops_of i)) n h) (refl, refl) });
      stays = λ t K G e.
          let b = holds_by i.whole i.tree i.number K G e in
          let d = mount_is nand n torn s i t in
          let k = mount_cases (λ x. (meaning_of x.image ≡ meaning_of i) × (x.image.roomy ≡ i.roomy)) nand n s i (refl, refl) (refl, refl) (refl, refl) (refl, refl) in
          (ap (λ x. meaning_of x.image) d ∙ k.0 ∙ e, λ r. ap (λ x. x.image.roomy) d ∙ k.1 ∙ r);
      done = λ t K G e k h.
          let b = holds_by i.whole i.tree i.number K G e in
          let d = mount_finished nand n torn s i t b.0 (ap thin b.1 ∙ k) h in (
            ap (λ x. state_of sample x.state x.image) d
                ∙ ap (λ m. record { kept = tree_in m; present = tree_in m; pending = 0; number = i.number; on = true; nand = nand; blocks = blocks_of (geometry_of nand) i.size }) e
                ∙ ap (λ m. record { kept = K; present = K; pending = 0; number = m; on = true; nand = nand; blocks = blocks_of (geometry_of nand) i.size }) b.2,
            subst (λ x. Tied x.state x.image) (sym d) (refl, refl, ap (λ m. thin (tree_in m)) e ∙ k),
          );
      cut = λ t K G e k h.
          let b = holds_by i.whole i.tree i.number K G e in
          rw (mount_is nand n torn s i t, mount_whole nand n s i b.0 (ap thin b.1 ∙ k), lt-leb (length (mount_ops_of i)) n h);
      zeros = sieve_case (λ x. x.answer ≡ accepted → (b : ℕ) → x.state.erases b ≡ 0) f 0 s i o (λ k e q. absurd (accepted_not (suc k) (sym q)))
          (λ k z e. absurd (omega arith))
          (λ z e. mount_cases (λ x. x.answer ≡ accepted → (b : ℕ) → x.state.erases b ≡ 0) nand n s i (λ q b. refl) (λ q. absurd (accepted_not 10 (sym q))) (λ q. absurd (accepted_not 7 (sym q))) (λ q. absurd (accepted_not 12 (sym q))));
      no_erase = λ b. mount_none b i.void;
      still = λ t good own. (
        rw good.0,
        sieve_case (λ x. x.image ≡ i) f 0 s i o (λ k e. refl) (λ k z e. refl) (λ z e. mount_cases (λ x. x.image ≡ i) nand n s i (ap (λ b. voided b i) (sym good.0)) refl refl refl),
      );
    }

-- ---- format
format_cases : (P : Outcome → Type 0) (nand : Nand) (n : ℕ) (s : SampleState) (i : SampleImage)
    → P (cond true (format_done nand 4 s i) (format_done nand 4 s i)) → P (out (refuses 10) n (down s) (record { tree = []; number = 0; whole = false; void = false; roomy = false; spare = false; size = i.size })) → P (format_done nand n s i)
format_cases P nand n s i a b = cases (leb 4 n) (λ u. rw u a) (λ u. rw u b)

format_ok : (nand : Nand) (n : ℕ) (torn : List ℕ) (s : SampleState) (i : SampleImage)
    → Format sample nand n torn s i (act (format nand n torn) s i).answer (act (format nand n torn) s i).ops (act (format nand n torn) s i).state (act (format nand n torn) s i).image
unfolding state_of resting
format_ok nand n torn s i =
    let o = format_done nand n s i in
    let c = formats nand n i.size (length torn) in
    let f = first_refusal s.nand s.on s.blocks c in
    record {
      first = first_ok c s i o (λ m e. absurd (omega arith))
          (format_cases (λ x. (m : ℕ) → x.answer ≡ refuses m → NotFirst m) nand n s i not_later (λ m. far 10 m (omega arith)))
          (format_cases (λ x. x.image.size ≡ i.size) nand n s i refl refl);
      range = sieve_case (λ x. accepts_or (1 ∷ 10 ∷ []) x.answer ≡ true) f 0 s i o
          (only_one (not (is_chip_size (geometry_of nand) i.size && is_torn_size (geometry_of nand) (length torn))) (10 ∷ [])) (λ k z e. absurd (omega arith))
          (λ z e. format_cases (λ x. accepts_or (1 ∷ 10 ∷ []) x.answer ≡ true) nand n s i refl refl);
      quiet = sieve_case (λ x. (k : ℕ) → x.answer ≡ refuses k → (k ≡ 10 → ⊥) → x.ops ≡ 0) f 0 s i o (λ k e m q d. refl) (λ k z e m q d. refl)
          (λ z e. format_cases (λ x. (k : ℕ) → x.answer ≡ refuses k → (k ≡ 10 → ⊥) → x.ops ≡ 0) nand n s i (λ k e f. absurd (accepted_not k e)) (ten_loud n));
      few = λ t. let k = few_ops nand in omega arith;
      power = λ t. rw t (record { enough = λ h. rw (le-leb 4 n h) (refl, refl); short = λ h. rw (lt-leb 4 n h) (refl, refl) });
      done = λ t h. rw (t, le-leb 4 n h) (refl {a = fresh nand (blocks_of (geometry_of nand) i.size)}, refl, (refl, refl, leaf_not_thin (blocks_of (geometry_of nand) i.size)), refl);
      zeros = sieve_case (λ x. x.answer ≡ accepted → (b : ℕ) → x.state.erases b ≡ 0) f 0 s i o (λ k e q. absurd (accepted_not (suc k) (sym q)))
          (λ k z e. absurd (omega arith))
          (λ z e. format_cases (λ x. x.answer ≡ accepted → (b : ℕ) → x.state.erases b ≡ 0) nand n s i (λ q b. refl) (λ q. absurd (accepted_not 10 (sym q))));
      cut = λ t h. rw (t, lt-leb 4 n h);
    }

-- ---- any proper call of the sample store is allowed by its contract, where an update makes no thin tree
abbrev pub Proper : Act → SampleState → SampleImage → Type 0
Proper (read r) s i = ProperRead r
Proper (update u) s i = ProperUpdate u × (thin (u.step s.blocks (present_of s i)) ≡ false)
Proper forecast s i = Unit {0}
Proper (format nand n torn) s i = Unit {0}
Proper (commit n torn) s i = Unit {0}
Proper (mount nand n torn) s i = Unit {0}

pub allowed : (x : Act) (s : SampleState) (i : SampleImage) → Proper x s i → Allowed sample x s i (act x s i).answer (act x s i).ops (act x s i).state (act x s i).image
allowed (read r) s i w = read_ok r w s i
allowed (update u) s i w = update_ok u w.0 s i w.1
allowed forecast s i w = forecast_ok s i
allowed (format nand n torn) s i w = format_ok nand n torn s i
allowed (commit n torn) s i w = commit_ok n torn s i
allowed (mount nand n torn) s i w = mount_ok nand n torn s i

-- ---- and so any list of calls on it is one that the promise is about, also where the box was without power before a mount or a format
pub data Order : Type 0 where
  next : Act → Order
  reboot : SampleState → Act → Order

abbrev pub act_of : Order → Act
act_of (next x) = x
act_of (reboot t x) = x

abbrev pub given_of : Order → SampleState → SampleState
given_of (next x) s = s
given_of (reboot t x) s = t

abbrev pub step_of : Order → SampleState → SampleImage → Step sample
step_of o s i =
    let r = act (act_of o) (given_of o s) i in
    record { act = act_of o; given = given_of o s; lent = i; left = r.image; answer = r.answer; ops = r.ops; state = r.state; image = r.image }

abbrev pub steps_of : List Order → SampleState → SampleImage → List (Step sample)
steps_of [] s i = []
steps_of (x ∷ xs) s i = step_of x s i ∷ steps_of xs (step_of x s i).state (step_of x s i).image

-- proper calls; after a reboot a mount or a format that is not refused with 1
abbrev pub Fine : List Order → SampleState → SampleImage → Type 0
Fine [] s i = Unit {0}
Fine (next x ∷ xs) s i = Proper x s i × Fine xs (step_of (next x) s i).state (step_of (next x) s i).image
Fine (reboot t x ∷ xs) s i =
    (Proper x t i × (boots x ≡ true) × ((act x t i).answer ≡ refuses 1 → ⊥)) × Fine xs (step_of (reboot t x) s i).state (step_of (reboot t x) s i).image

pub runs : (xs : List Order) (H : SampleState → Type 0) (s : SampleState) (i : SampleImage) → H s → Fine xs s i → Runs sample H i (steps_of xs s i)
runs [] H s i h f = tt
runs (next x ∷ xs) H s i h f = (
  record { allowed = allowed x s i f.0; lends = one refl refl; handed = λ b. h },
  runs xs (Hands sample H (step_of (next x) s i)) (act x s i).state (act x s i).image (record { returned = refl; known = λ e. h }) f.1,
)
runs (reboot t x ∷ xs) H s i h f = (
  record { allowed = allowed x t i f.0.0; lends = one refl refl; handed = λ b. clash f.0.1 b },
  runs xs (Hands sample H (step_of (reboot t x) s i)) (act x t i).state (act x t i).image (record { returned = refl; known = λ e. absurd (f.0.2 e) }) f.1,
)
