-- Versions of a store that fall, whatever its insides are; and the choice of a cut commit, which the contract knows. Assumes nothing.
use mathlib.Core.Path.{◌≡◌, refl, sym, ap, ◌∙◌}
use mathlib.Core.Bool.{Bool, true, false, cond, ◌&&◌, ◌||◌}
use mathlib.Core.List.{List}
use Prim.Native.Nat.{ℕ, zero, suc, ◌+◌, ◌*◌, ◌<◌, ◌≤◌}
use native.Mathlib.Omega.{arith}
use lib.Dec.{ltb, leb, eqb}
use lib.ListN.{length, get_or}
use borrow.Author.Tests.{le-leb, lt-leb, leb-true, leb-false, ltb-true, ltb-false}
use Rattle.lists.proofs.Tests.{cases, clash}
use Rattle.chip.specs.Geometry.{Nand, geometry_of, blocks_of}
use Rattle.chip.specs.Power.{takes_effect}
use Rattle.chip.specs.Erases.{erases_in}
use Rattle.tree.specs.Tree.{Table, nodes, root_level, find, found}
use Rattle.tree.specs.Step6.{top}
use Rattle.tree.specs.Insert.{done, inserted, insert, needs}
use Rattle.tree.specs.Thick.{thin}
use Rattle.tree.specs.Rebuild.{rebuild}
use Rattle.promise.specs.Plain.{Answer, refuses, accepted, finds, looked_up, Plain, UpdateCall, updates, reads, forecasts, commits, mounts, looking_up, insertion, numbers_refusal, later_refusal, no_number_left, resting, updated, enough_writes}
use Rattle.promise.specs.Calls.{means, tree_in, number_in, Store, state_of, PassesFirst, Updates, Insert, LookUp, OpsTold, Format, Proceeding, Committing, Commit, Forecast, Mount}
use Rattle.promise.specs.Steps.{commit, Step, counts, Rebuilt}
use Rattle.promise.specs.Height.{Low}
use Rattle.promise.proofs.Promise.{apart, accepted_not, counts_not, counts_so, step_is, mount_mounts, rebuild_starts, when_is}

module _ (S : Store) (s : S.State) (i : S.Image) (good : S.Good s i) where
  -- a commit that is accepted with updates pending and leaves the image with the meaning it had
  pub lazy_commit : (n : ℕ) (torn : List ℕ) (ops : ℕ) (s' : S.State) (i' : S.Image) (K : Table) → Committing S n torn s i → S.able s i ≡ true
      → S.meaning (S.nand s) i ≡ means K (S.number s) → S.meaning (S.nand s) i' ≡ S.meaning (S.nand s) i → Commit S n torn s i accepted ops s' i' → ⊥
  lazy_commit n torn ops s' i' K q b m e c =
      cases (leb (length (S.commit_ops s i)) n)
      (λ l. let r : S.meaning (S.nand s) i' ≡ means (S.present s i) (suc (S.number s))
      = c.choice q b ∙ ap (λ o. cond (o || (eqb (suc n) (length (S.commit_ops s i)) && eqb (get_or torn 0 0) 0)) (means (S.present s i) (suc (S.number s))) (S.meaning (S.nand s) i)) l in
      let z : suc (S.number s) ≡ S.number s = ap number_in (sym r ∙ e ∙ m) in
      omega arith)
      (λ l. accepted_not 10 ((c.power q.proceeds b).short (leb-false (length (S.commit_ops s i)) n l)).0)

  -- a commit that is accepted with updates pending has done all its operations
  all_done : (n : ℕ) (torn : List ℕ) (ops : ℕ) (s' : S.State) (i' : S.Image) → Committing S n torn s i → S.able s i ≡ true → Commit S n torn s i accepted ops s' i'
      → length (S.commit_ops s i) ≤ n
  all_done n torn ops s' i' q b c =
      cases (leb (length (S.commit_ops s i)) n)
      (λ l. leb-true (length (S.commit_ops s i)) n l) (λ l. absurd (accepted_not 10 ((c.power q.proceeds b).short (leb-false (length (S.commit_ops s i)) n l)).0))

  -- one that erases a block which the next one, from a state of its part that calls gave for the image it left, would erase too
  pub same_block : (n : ℕ) (torn : List ℕ) (ops : ℕ) (s' : S.State) (i' : S.Image) (b : ℕ) (t : S.State) → Committing S n torn s i → S.able s i ≡ true
      → 0 < erases_in b (S.commit_ops s i) → S.Good t i' → S.nand t ≡ S.nand s → 0 < erases_in b (S.commit_ops t i') → Commit S n torn s i accepted ops s' i' → ⊥
  same_block n torn ops s' i' b t q y h d o k c = let z = c.rests q y (all_done n torn ops s' i' q y c) b h t d o in omega arith

  -- one that leaves no page free
  pub none_free : (n : ℕ) (torn : List ℕ) (ops : ℕ) (s' : S.State) (i' : S.Image) → Committing S n torn s i → S.able s i ≡ true → S.free (S.nand s) i' ≡ 0
      → Commit S n torn s i accepted ops s' i' → ⊥
  none_free n torn ops s' i' q y e c = let z = c.leaves_free q y (all_done n torn ops s' i' q y c) in omega arith

  -- a mount that names the state's part, given any state, and writes to an image that calls gave the state for
  pub writing_mount : (n : ℕ) (torn : List ℕ) (t : S.State) (a : Answer) (ops : ℕ) (s' : S.State) (i' : S.Image) → (i' ≡ i → ⊥) → Mount S (S.nand s) n torn t i a ops s' i' → ⊥
  writing_mount n torn t a ops s' i' h c = h (c.still s good refl).1

  -- an update that is accepted and changes nothing
  lazy_by : (u : UpdateCall) (k : ℕ) → later_refusal (state_of S s i) (updates u (S.size i)) ≡ k → PassesFirst S (updates u (S.size i)) s → Updates S u s i accepted s i → ⊥
  unfolding updated state_of
  lazy_by u zero e t c =
      let q : S.pending s ≡ suc (S.pending s) = ap (λ (p : Plain). p.pending) (c.done good t e).1 in
      omega arith
  lazy_by u (suc k) e t c = accepted_not (suc k) (c.then good t k e)

  pub lazy_update : (u : UpdateCall) → PassesFirst S (updates u (S.size i)) s → Updates S u s i accepted s i → ⊥
  lazy_update u t c = lazy_by u (later_refusal (state_of S s i) (updates u (S.size i))) refl t c

  -- an update that gives 3 with fewer than 16 pending
  pub early_three : (u : UpdateCall) (s' : S.State) (i' : S.Image) → S.pending s < 16 → PassesFirst S (updates u (S.size i)) s
      → Updates S u s i (refuses 3) s' i' → ⊥
  early_three u s' i' l t c = c.not_full t l refl

  -- an insert that gives 5, for the height or for anything else, though as many numbers are left as the nodes that split need
  pub early_five : (k v : ℕ) (s' : S.State) (i' : S.Image) → Low (S.blocks s) (S.present s i) → k < top → nodes (S.present s i) + needs (root_level (S.present s i)) 0 k v (S.present s i) ≤ 8 * S.blocks s
      → S.pending s < 16 → PassesFirst S (updates (insertion k v) (S.size i)) s → Insert S k v s i (refuses 5) s' i' → ⊥
  unfolding insertion state_of
  early_five k v s' i' low h few l t c =
      let P = S.present s i in
      let B = S.blocks s in
      let e : insert (8 * B) k v P ≡ done (inserted k v P) = low.five k v h ∙ rw (le-leb (nodes P + needs (root_level P) 0 k v P) (8 * B) few) in
      accepted_not 5 (sym (c.done good t (rw (lt-leb 16 (S.pending s) l, e))).0)

  -- a commit that gives 10 with an allowance of 2,000, on the large part of 4,000
  ten_by : (n k : ℕ) (torn : List ℕ) (ops : ℕ) (s' : S.State) (i' : S.Image) → numbers_refusal (S.pending s) (S.number s) (commits n (S.size i) (length torn)) ≡ k → enough_writes (S.nand s) ≤ n
      → PassesFirst S (commits n (S.size i) (length torn)) s → Commit S n torn s i (refuses 10) ops s' i' → ⊥
  ten_by n (suc k) torn ops s' i' e l t c =
      let h = when_is 6 k (no_number_left (S.pending s) (S.number s)) e in
      apart 10 (suc k) (λ z. omega arith) (c.last t k e)
  ten_by n zero torn ops s' i' e l t c =
      cases (ltb 0 (S.pending s))
      (λ z. let q : Committing S n torn s i = record { good = good; proceeds = record { passes = t; numbers = e; pending = ltb-true 0 (S.pending s) z } } in
      let bound = c.bound in
      cases (S.able s i) (λ b. let few = c.few q b in accepted_not 10 (sym ((c.power q.proceeds b).enough (omega arith)).0)) (λ b. apart 10 6 (λ z. omega arith) (c.stuck q.proceeds b)))
      (λ z. let y = ltb-false 0 (S.pending s) z in accepted_not 10 (sym (c.idle t (omega arith)).0))

  pub early_ten : (n : ℕ) (torn : List ℕ) (ops : ℕ) (s' : S.State) (i' : S.Image) → enough_writes (S.nand s) ≤ n → PassesFirst S (commits n (S.size i) (length torn)) s
      → Commit S n torn s i (refuses 10) ops s' i' → ⊥
  early_ten n torn ops s' i' l t c = ten_by n (numbers_refusal (S.pending s) (S.number s) (commits n (S.size i) (length torn))) torn ops s' i' refl l t c

  -- a look up that knows one value falls where two keys of P have different ones
  pub one_value : (j k a b n : ℕ) → find j (S.present s i) ≡ found a → find k (S.present s i) ≡ found b → (a ≡ b → ⊥)
      → PassesFirst S (reads (looking_up j) (S.size i)) s → PassesFirst S (reads (looking_up k) (S.size i)) s
      → LookUp S j s i (finds n) s i → LookUp S k s i (finds n) s i → ⊥
  unfolding looking_up state_of
  one_value j k a b n e f h q r c d =
      let x : finds n ≡ finds a = c.done good q ∙ ap looked_up e in
      let y : finds n ≡ finds b = d.done good r ∙ ap looked_up f in
      h cc

module _ (S : Store) (s : S.State) (i : S.Image) (ops : ℕ) (s' : S.State) (i' : S.Image) where
  -- a forecast that is accepted with updates pending and foretells one operation less than the commit has
  pub short_forecast : Proceeding S (forecasts (S.size i)) s → suc ops ≡ length (S.commit_ops s i) → Forecast S s i accepted ops s' i' → ⊥
  short_forecast q e c = cases (S.able s i) (λ b. let d = (c.done q b).1 in omega arith) (λ b. accepted_not 6 (c.stuck q b))

  -- one that gives 6 with nothing pending
  pub idle_six : PassesFirst S (forecasts (S.size i)) s → S.pending s ≡ 0 → Forecast S s i (refuses 6) ops s' i' → ⊥
  idle_six t z c = accepted_not 6 (sym (c.idle t z).0)

  -- one that gives 10
  pub cut_forecast : Forecast S s i (refuses 10) ops s' i' → ⊥
  cut_forecast c = clash c.range refl

-- a mount that says 7, 8, 9 or 12 of an image that means a tree which is not thin
pub false_refusal : (S : Store) (nand : Nand) (n m : ℕ) (torn : List ℕ) (s : S.State) (i : S.Image) (ops : ℕ) (s' : S.State) (i' : S.Image) (K : Table) (G : ℕ)
    → PassesFirst S (mounts nand n (S.size i) (length torn)) s → S.meaning nand i ≡ means K G → thin K ≡ false → (m ≡ 10 → ⊥) → Mount S nand n torn s i (refuses m) ops s' i' → ⊥
false_refusal S nand n m torn s i ops s' i' K G t e k h c =
    cases (leb (length (S.mount_ops nand i)) n)
    (λ l. accepted_not m (sym ((c.power t K G e k).enough (leb-true (length (S.mount_ops nand i)) n l)).0))
    (λ l. apart m 10 h ((c.power t K G e k).short (leb-false (length (S.mount_ops nand i)) n l)).0)

-- an invented operation count: with so many operations to do and that allowance, answer and count are these
pub count_is : (need n ops ops' : ℕ) (a a' : Answer) → OpsTold need n a ops → OpsTold need n a' ops' → (a ≡ a') × (ops ≡ ops')
count_is need n ops ops' a a' c d =
    cases (leb need n)
    (λ l. let h = leb-true need n l in ((c.enough h).0 ∙ sym (d.enough h).0, (c.enough h).1 ∙ sym (d.enough h).1))
    (λ l. let h = leb-false need n l in ((c.short h).0 ∙ sym (d.short h).0, (c.short h).1 ∙ sym (d.short h).1))

-- the choice read off the image is the one that the contract computes of allowance and torn byte
choice_by : (S : Store) (i : S.Image) (x : Step S) (K P : Table) (G : ℕ) (w : Bool) → S.meaning (S.nand x.given) i ≡ means K G
    → S.meaning (S.nand x.given) x.image ≡ cond w (means P (suc G)) (S.meaning (S.nand x.given) i) → counts S i x ≡ w
choice_by S i x K P G true e f = counts_so S i x K P G e f
choice_by S i x K P G false e f = counts_not S i x f

pub choice_is : (S : Store) (n : ℕ) (torn : List ℕ) (s : S.State) (i : S.Image) (a : Answer) (ops : ℕ) (s' : S.State) (i' : S.Image) (K : Table)
    → Committing S n torn s i → S.able s i ≡ true → S.meaning (S.nand s) i ≡ means K (S.number s) → Commit S n torn s i a ops s' i'
    → counts S i (step_is S (commit n torn) s i a ops s' i') ≡ takes_effect (get_or torn 0 0) n (length (S.commit_ops s i))
choice_is S n torn s i a ops s' i' K q b m c =
    choice_by S i (step_is S (commit n torn) s i a ops s' i') K (S.present s i) (S.number s) (takes_effect (get_or torn 0 0) n (length (S.commit_ops s i))) m (c.choice q b)

-- a mount that leaves a state of another part than it names
pub other_part : (S : Store) (nand : Nand) (n : ℕ) (torn : List ℕ) (s : S.State) (i : S.Image) (ops : ℕ) (s' : S.State) (i' : S.Image) (K : Table) (G : ℕ)
    → S.meaning nand i ≡ means K G → (S.nand s' ≡ nand → ⊥) → Mount S nand n torn s i accepted ops s' i' → ⊥
unfolding state_of resting
other_part S nand n torn s i ops s' i' K G e h c = h (ap (λ (p : Plain). p.nand) (mount_mounts S nand n torn s i ops s' i' K G e c).0.is)

-- a mount that keeps a figure above 0
pub kept_figure : (S : Store) (nand : Nand) (n : ℕ) (torn : List ℕ) (s : S.State) (i : S.Image) (ops : ℕ) (s' : S.State) (i' : S.Image) (b : ℕ)
    → 0 < S.erases s b → S.erases s' b ≡ S.erases s b → Mount S nand n torn s i accepted ops s' i' → ⊥
kept_figure S nand n torn s i ops s' i' b h e c = let z = c.zeros refl b in omega arith

-- a format that counts its own erases
pub own_erases : (S : Store) (nand : Nand) (n : ℕ) (torn : List ℕ) (s : S.State) (i : S.Image) (ops : ℕ) (s' : S.State) (i' : S.Image) (b : ℕ)
    → 0 < erases_in b (S.format_ops nand (blocks_of (geometry_of nand) (S.size i))) → S.erases s' b ≡ erases_in b (S.format_ops nand (blocks_of (geometry_of nand) (S.size i))) → Format S nand n torn s i accepted ops s' i' → ⊥
own_erases S nand n torn s i ops s' i' b h e c = let z = c.zeros refl b in omega arith

-- a mount that lets a thin tree through
pub thin_through : (S : Store) (nand : Nand) (n : ℕ) (torn : List ℕ) (s : S.State) (i : S.Image) (ops : ℕ) (s' : S.State) (i' : S.Image) (K : Table) (G : ℕ)
    → S.meaning nand i ≡ means K G → thin K ≡ true → Mount S nand n torn s i accepted ops s' i' → ⊥
thin_through S nand n torn s i ops s' i' K G e h c = clash h (mount_mounts S nand n torn s i ops s' i' K G e c).0.thick

-- a rebuild that keeps the number G, or the tree that it found where that is another than the rebuilt one
pub kept_number : (S : Store) (nand : Nand) (K U : Table) (G : ℕ) (s : S.State) (i : S.Image) → S.meaning nand i ≡ means U G → Rebuilt S nand K G s i → ⊥
kept_number S nand K U G s i e f =
    let z : suc G ≡ G = ap number_in (sym (rebuild_starts S nand K G s i f).mounted.image ∙ e) in
    omega arith

pub kept_tree : (S : Store) (nand : Nand) (K : Table) (G m : ℕ) (s : S.State) (i : S.Image) → S.meaning nand i ≡ means K m → (rebuild K ≡ K → ⊥) → Rebuilt S nand K G s i → ⊥
kept_tree S nand K G m s i e h f = h (ap tree_in (sym (rebuild_starts S nand K G s i f).mounted.image ∙ e))
