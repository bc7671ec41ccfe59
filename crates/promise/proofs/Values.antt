-- What is kept and present of a key, by the history: the newest update that speaks of it says it. So what a commit kept is found. Assumes nothing.
use mathlib.Core.Path.{◌≡◌, refl, sym, ap, ◌∙◌}
use mathlib.Core.Bool.{Bool, true, false, not, ◌&&◌}
use mathlib.Core.List.{List, [], ◌∷◌, ◌++◌}
use Prim.Native.Nat.{ℕ, zero, suc, ◌<◌}
use native.Mathlib.Omega.{arith}
use lib.Dec.{ltb}
use lib.ListN.{length}
use borrow.Author.Tests.{ltb-true, ltb-false}
use Rattle.lists.proofs.Tests.{cases, clash}
use Rattle.chip.specs.Geometry.{Geometry, Nand, geometry_of, blocks_of}
use Rattle.tree.specs.Tree.{Table, find}
use Rattle.tree.specs.Step6.{top}
use Rattle.promise.specs.Plain.{Plain, or_else, when, UpdateCall, Call, reads, updates, forecasts, formats, commits, mounts, is_chip_size, is_torn_size, start_refusal, first_refusal, numbers_refusal, later_refusal, refusal_of, may_cut, cut, passed, judge, verdict, leaf, resting, updated, committed, finished, off, cut_off, after, after_by}
use Rattle.promise.specs.Calls.{Store}
use Rattle.promise.specs.Steps.{Act, read, update, forecast, format, commit, mount, fed, is_ten, Step, counts, starts, next, last_plain}
use Rattle.promise.specs.History.{TreeOf, after_said, Lawful, LawfulAct, value_of, Silent, History, begun, flushed, dropped, history_after, next_history, last_history, AllLawful}
use Rattle.promise.proofs.Promise.{on_of}
use Rattle.promise.proofs.Trees.{blocks_most, leaf_tree}

pub or_zero : (a b : ℕ) → or_else a b ≡ 0 → (a ≡ 0) × (b ≡ 0)
or_zero zero b e = (refl, e)
or_zero (suc a) b e = absurd (omega arith)

empty_of : (us : List UpdateCall) → length us ≡ 0 → us ≡ []
empty_of [] e = refl
empty_of (u ∷ us) e = absurd (omega arith)

chip_of : (c t : Bool) → when 1 (not (c && t)) ≡ 0 → c ≡ true
chip_of true t e = refl
chip_of false t e = absurd (omega arith)

-- what a format is not refused with 1 for has blocks
pub chip_blocks : (g : Geometry) (image torn : ℕ) → start_refusal g image torn ≡ 0 → 0 < blocks_of g image
unfolding is_chip_size
chip_blocks g image torn e = ltb-true 0 (blocks_of g image) (chip_of (ltb 0 (blocks_of g image)) (is_torn_size g torn) e)

-- the plain store p is what its history l says: trees, with the values of the newest updates
pub record Tells (p : Plain) (l : History) : Type 0 where
  pub kept : TreeOf 0 p.blocks p.kept
  pub present : TreeOf 0 p.blocks p.present
  pub kept_value : (k : ℕ) → k < top → find k p.kept ≡ value_of k l.base l.kept
  pub present_value : p.on ≡ true → (k : ℕ) → k < top → find k p.present ≡ value_of k l.base (l.pending ++ l.kept)
  pub count : p.on ≡ true → length l.pending ≡ p.pending
  pub rests : p.on ≡ true → p.pending ≡ 0 → p.present ≡ p.kept

abbrev LawfulCall : Call → Type 0
LawfulCall (reads r image) = Unit {0}
LawfulCall (updates u image) = Lawful u
LawfulCall (forecasts image) = Unit {0}
LawfulCall (formats nand a image torn) = Unit {0}
LawfulCall (commits a image torn) = Unit {0}
LawfulCall (mounts nand a image torn) = Unit {0}

pub tells_resting : (nand : Nand) (K : Table) (G B : ℕ) → TreeOf 0 B K → Tells (resting nand K G B) (begun K)
unfolding resting
tells_resting nand K G B t =
    record { kept = t; present = t; kept_value = λ k b. refl; present_value = λ o k b. refl; count = λ o. refl; rests = λ o z. refl }

tells_off : (p : Plain) (l : History) → Tells p l → Tells (off p) (dropped l)
unfolding off
tells_off p l h =
    record {
      kept = h.kept;
      present = h.present;
      kept_value = h.kept_value;
      present_value = λ o. clash o refl;
      count = λ o. clash o refl;
      rests = λ o. clash o refl;
    }

tells_committed : (p : Plain) (l : History) → p.on ≡ true → Tells p l → Tells (committed p) (flushed l)
unfolding committed
tells_committed p l o h =
    record { kept = h.present; present = h.present; kept_value = h.present_value o; present_value = λ q. h.present_value o; count = λ q. refl; rests = λ q z. refl }

tells_idle : (p : Plain) (l : History) → p.on ≡ true → p.pending ≡ 0 → Tells p l → Tells p (flushed l)
tells_idle p l o z h =
    let e = empty_of l.pending (h.count o ∙ z) in
    rw e
    (record {
      kept = h.kept;
      present = h.present;
      kept_value = h.kept_value;
      present_value = λ q k b. h.present_value o k b ∙ ap (λ us. value_of k l.base (us ++ l.kept)) e;
      count = λ q. sym z;
      rests = h.rests;
    })

tells_updated : (u : UpdateCall) (p : Plain) (l : History) → Lawful u → u.refusal p.blocks p.present ≡ 0 → Tells p l
    → Tells (updated (u.step p.blocks p.present) p) (record { base = l.base; kept = l.kept; pending = u ∷ l.pending })
unfolding updated
tells_updated u p l w r h =
    record {
      kept = h.kept;
      present = w.tree p.blocks p.present h.present r;
      kept_value = h.kept_value;
      present_value = λ o k b. w.value p.blocks p.present k h.present r b ∙ ap (after_said (u.says k)) (h.present_value o k b);
      count = λ o. ap suc (h.count o);
      rests = λ o z. absurd (omega arith);
    }

tells_mounted : (nand : Nand) (p : Plain) (l : History) → Tells p l → Tells (resting nand p.kept p.number p.blocks) (dropped l)
unfolding resting
tells_mounted nand p l h =
    record { kept = h.kept; present = h.kept; kept_value = h.kept_value; present_value = λ o. h.kept_value; count = λ o. refl; rests = λ o z. refl }

tells_finished : (w : Bool) (p : Plain) (c : Call) (l : History) → refusal_of p c ≡ 0 → LawfulCall c → Tells p l → Tells (finished p c) (history_after passed w c l)
unfolding finished
tells_finished w p (reads r image) l e k h = h
tells_finished w p (updates u image) l e k h =
    let b = or_zero (first_refusal p.nand p.on p.blocks (updates u image)) (later_refusal p (updates u image)) e in
    tells_updated u p l k (or_zero (numbers_refusal p.pending p.number (updates u image)) (u.refusal p.blocks p.present) b.1).1 h
tells_finished w p (forecasts image) l e k h = h
tells_finished w p (formats nand a image torn) l e k h =
    let b = or_zero (first_refusal p.nand p.on p.blocks (formats nand a image torn)) 0 e in
    let B = blocks_of (geometry_of nand) image in
    tells_resting nand (leaf B) 1 B (leaf_tree 0 B (chip_blocks (geometry_of nand) image torn b.0) (blocks_most nand image))
tells_finished w p (commits a image torn) l e k h =
    let b = or_zero (first_refusal p.nand p.on p.blocks (commits a image torn)) (later_refusal p (commits a image torn)) e in
    let o = on_of p.on _ b.0 in
    cases (ltb 0 p.pending)
    (λ t. rw t (tells_committed p l o h))
    (λ t. let z = ltb-false 0 p.pending t in rw t (tells_idle p l o (omega arith) h))
tells_finished w p (mounts nand a image torn) l e k h = tells_mounted nand p l h

tells_cut : (w : Bool) (p : Plain) (c : Call) (l : History) → refusal_of p c ≡ 0 → Tells p l → Tells (cut_off w p c) (history_after cut w c l)
unfolding cut_off
tells_cut w p (reads r image) l e h = h
tells_cut w p (updates u image) l e h = h
tells_cut w p (forecasts image) l e h = h
tells_cut w p (formats nand a image torn) l e h = tells_off p l h
tells_cut true p (commits a image torn) l e h =
    let b = or_zero (first_refusal p.nand p.on p.blocks (commits a image torn)) (later_refusal p (commits a image torn)) e in
    tells_off (committed p) (flushed l) (tells_committed p l (on_of p.on _ b.0) h)
tells_cut false p (commits a image torn) l e h = tells_off p l h
tells_cut w p (mounts nand a image torn) l e h = tells_off p l h

tells_by : (w b : Bool) (p : Plain) (c : Call) (l : History) (n : ℕ) → refusal_of p c ≡ n → LawfulCall c → Tells p l
    → Tells (after_by (judge n b) w p c) (history_after (judge n b) w c l)
tells_by w b p c l (suc n) e k h = h
tells_by w true p c l zero e k h = tells_cut w p c l e h
tells_by w false p c l zero e k h = tells_finished w p c l e k h

tells_after : (w : Bool) (p : Plain) (c : Call) (l : History) (ten : Bool) → LawfulCall c → Tells p l
    → Tells (after w p c ten) (history_after (verdict p c ten) w c l)
unfolding verdict
tells_after w p c l ten k h = tells_by w (may_cut p c && ten) p c l (refusal_of p c) refl k h

lawful_fed : (x : Act) (image : ℕ) → LawfulAct x → LawfulCall (fed x image)
lawful_fed (read r) image h = tt
lawful_fed (update u) image h = h
lawful_fed forecast image h = tt
lawful_fed (format nand n torn) image h = tt
lawful_fed (commit n torn) image h = tt
lawful_fed (mount nand n torn) image h = tt

-- ---- updates that do not speak of a key leave its value
pub value_stays : (k : ℕ) (t : Table) (more us : List UpdateCall) → Silent k more → value_of k t (more ++ us) ≡ value_of k t us
value_stays k t [] us h = refl
value_stays k t (u ∷ more) us h = ap (λ s. after_said s (value_of k t (more ++ us))) h.0 ∙ value_stays k t more us h.1

module _ (S : Store) where
  pub tells_last : (xs : List (Step S)) (p : Plain) (i : S.Image) (l : History) → AllLawful S xs → Tells p l → Tells (last_plain S p i xs) (last_history S p i xs l)
  tells_last [] p i l k h = h
  tells_last (x ∷ xs) p i l k h =
      tells_last xs (next S p i x) x.image (next_history S p i x l) k.1
      (tells_after (counts S i x) p (fed x.act (S.size x.lent)) l (is_ten x.answer) (lawful_fed x.act (S.size x.lent) k.0) h)

  -- at each place of a list K and P are trees, and the values are those of the history
  pub tells_at : (nand : Nand) (K : Table) (G : ℕ) (i : S.Image) (xs : List (Step S)) → TreeOf 0 (blocks_of (geometry_of nand) (S.size i)) K → AllLawful S xs
      → Tells (last_plain S (starts S nand K G i) i xs) (last_history S (starts S nand K G i) i xs (begun K))
  tells_at nand K G i xs t k = tells_last xs (starts S nand K G i) i (begun K) k (tells_resting nand K G (blocks_of (geometry_of nand) (S.size i)) t)
