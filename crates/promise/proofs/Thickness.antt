-- Thick trees stay thick: K, P and what the image means, at any place of a list. Assumes nothing.
use mathlib.Core.Path.{◌≡◌, refl, subst}
use mathlib.Core.Bool.{Bool, true, false, ◌&&◌}
use mathlib.Core.List.{List, [], ◌∷◌, ◌++◌}
use Prim.Native.Nat.{ℕ, zero, suc, ◌<◌}
use lib.Dec.{ltb}
use lib.ListN.{length}
use Rattle.lists.proofs.Tests.{cases}
use Rattle.chip.specs.Geometry.{Nand, geometry_of, blocks_of}
use Rattle.tree.specs.Tree.{Table}
use Rattle.tree.specs.Rebuild.{rebuild}
use Rattle.promise.specs.Plain.{Answer, accepted, Plain, UpdateCall, updates, first_refusal, start_refusal, numbers_refusal, later_refusal, refusal_of, may_cut, judge, verdict, leaf, resting, updated, committed, finished, off, cut_off, after, after_by}
use Rattle.promise.specs.Calls.{Store, Format}
use Rattle.promise.specs.Steps.{Act, read, update, forecast, format, commit, mount, fed, is_ten, is_accepted, Step, Lends, Only, Hands, last_image, counts, strays, is_cut_format, Mode, promised, unpromised, begun_by, Allowed, Takes, Runs, Mounted, Formatted, starts, next, last_plain, Agrees, mode_for, next_mode, MeaningIs, AgreesAny}
use Rattle.promise.specs.History.{TreeOf, KeepsThick, OfUpdate, AllUpdates}
use Rattle.promise.specs.Thickness.{ThickPlain, ThickAt, ThickIn, last_mode, StaysThick, FormattedThick, RebuiltThick, AnyThick, ForeignThick}
use Rattle.promise.proofs.Promise.{accepted_not, accepted_is, format_starts, format_again, rebuild_starts}
use Rattle.promise.proofs.Claims.{promise, promise_any, promise_foreign}
use Rattle.promise.proofs.Values.{or_zero, chip_blocks}
use Rattle.promise.proofs.Trees.{blocks_most, leaf_tree, rebuild_thick}

-- ---- one call of the plain store
module _ (c : ℕ) where
  thick_resting : (nand : Nand) (K : Table) (G B : ℕ) → TreeOf c B K → ThickPlain c (resting nand K G B)
  unfolding resting
  thick_resting nand K G B t = record { kept = t; present = t }

  thick_updated : (u : UpdateCall) (p : Plain) → KeepsThick c u → u.refusal p.blocks p.present ≡ 0 → ThickPlain c p
      → ThickPlain c (updated (u.step p.blocks p.present) p)
  unfolding updated
  thick_updated u p k r h = record { kept = h.kept; present = k p.blocks p.present h.present r }

  thick_committed : (p : Plain) → ThickPlain c p → ThickPlain c (committed p)
  unfolding committed
  thick_committed p h = record { kept = h.present; present = h.present }

  thick_off : (p : Plain) → ThickPlain c p → ThickPlain c (off p)
  unfolding off
  thick_off p h = record { kept = h.kept; present = h.present }

  thick_finished : (p : Plain) (x : Act) (image : ℕ) → refusal_of p (fed x image) ≡ 0 → OfUpdate (KeepsThick c) x → ThickPlain c p → ThickPlain c (finished p (fed x image))
  unfolding finished
  thick_finished p (read r) image e k h = h
  thick_finished p (update u) image e k h =
      let b = or_zero (first_refusal p.nand p.on p.blocks (updates u image)) (later_refusal p (updates u image)) e in
      thick_updated u p k (or_zero (numbers_refusal p.pending p.number (updates u image)) (u.refusal p.blocks p.present) b.1).1 h
  thick_finished p forecast image e k h = h
  thick_finished p (format nand n torn) image e k h =
      let g = geometry_of nand in
      let B = blocks_of g image in
      thick_resting nand (leaf B) 1 B (leaf_tree c B (chip_blocks g image (length torn) (or_zero (start_refusal g image (length torn)) 0 e).0) (blocks_most nand image))
  thick_finished p (commit n torn) image e k h = cases (ltb 0 p.pending) (λ t. rw t (thick_committed p h)) (λ t. rw t h)
  thick_finished p (mount nand n torn) image e k h = thick_resting nand p.kept p.number p.blocks h.kept

  -- a cut commit keeps K or takes P
  thick_cut : (w : Bool) (p : Plain) (x : Act) (image : ℕ) → ThickPlain c p → ThickPlain c (cut_off w p (fed x image))
  unfolding cut_off
  thick_cut w p (read r) image h = h
  thick_cut w p (update u) image h = h
  thick_cut w p forecast image h = h
  thick_cut w p (format nand n torn) image h = thick_off p h
  thick_cut true p (commit n torn) image h = thick_off (committed p) (thick_committed p h)
  thick_cut false p (commit n torn) image h = thick_off p h
  thick_cut w p (mount nand n torn) image h = thick_off p h

  thick_by : (w b : Bool) (p : Plain) (x : Act) (image n : ℕ) → refusal_of p (fed x image) ≡ n → OfUpdate (KeepsThick c) x → ThickPlain c p
      → ThickPlain c (after_by (judge n b) w p (fed x image))
  thick_by w b p x image (suc n) e k h = h
  thick_by w true p x image zero e k h = thick_cut w p x image h
  thick_by w false p x image zero e k h = thick_finished p x image e k h

  thick_after : (w : Bool) (p : Plain) (x : Act) (image : ℕ) (ten : Bool) → OfUpdate (KeepsThick c) x → ThickPlain c p → ThickPlain c (after w p (fed x image) ten)
  unfolding verdict
  thick_after w p x image ten k h = thick_by w (may_cut p (fed x image) && ten) p x image (refusal_of p (fed x image)) refl k h

module _ (S : Store) where
  -- ---- where a list starts
  thick_start : (c : ℕ) (nand : Nand) (K : Table) (G : ℕ) (s : S.State) (i : S.Image) → Mounted S nand K G s i → TreeOf c (blocks_of (geometry_of nand) (S.size i)) K
      → ThickAt S c (starts S nand K G i) i
  unfolding resting
  thick_start c nand K G s i m t = record { plain = thick_resting c nand K G (blocks_of (geometry_of nand) (S.size i)) t; image = m.image }

  blocks_by : (nand : Nand) (n : ℕ) (torn : List ℕ) (s : S.State) (i : S.Image) (ops : ℕ) (s' : S.State) (i' : S.Image) (m : ℕ)
      → start_refusal (geometry_of nand) (S.size i) (length torn) ≡ m → Format S nand n torn s i accepted ops s' i' → 0 < blocks_of (geometry_of nand) (S.size i')
  blocks_by nand n torn s i ops s' i' (suc m) e f = absurd (accepted_not (suc m) (f.first.refused m e).0)
  blocks_by nand n torn s i ops s' i' zero e f = rw f.first.same_size (chip_blocks (geometry_of nand) (S.size i) (length torn) e)

  -- a finished format leaves a thick tree, whatever c is
  pub formatted_tree : (c : ℕ) (nand : Nand) (s : S.State) (i : S.Image) → Formatted S nand s i
      → TreeOf c (blocks_of (geometry_of nand) (S.size i)) (leaf (blocks_of (geometry_of nand) (S.size i)))
  formatted_tree c nand s i f =
      leaf_tree c (blocks_of (geometry_of nand) (S.size i))
      (blocks_by nand f.allowance f.torn f.before f.was f.ops s i (start_refusal (geometry_of nand) (S.size f.was) (length f.torn)) refl f.says)
      (blocks_most nand (S.size i))

  -- ---- a list that agrees with the plain store
  thick_next : (c : ℕ) (p : Plain) (i : S.Image) (x : Step S) → OfUpdate (KeepsThick c) x.act → ThickPlain c p → ThickPlain c (next S p i x)
  thick_next c p i x k h = thick_after c (counts S i x) p x.act (S.size x.lent) (is_ten x.answer) k h

  thick_last : (c : ℕ) (xs ys : List (Step S)) (p : Plain) (i : S.Image) → Agrees S p i (xs ++ ys) → AllUpdates S (KeepsThick c) (xs ++ ys) → ThickAt S c p i
      → ThickAt S c (last_plain S p i xs) (last_image S i xs)
  thick_last c [] ys p i a k h = h
  thick_last c (x ∷ xs) ys p i a k h =
      thick_last c xs ys (next S p i x) x.image a.2 k.1 (record { plain = thick_next c p i x k.0 h.plain; image = a.1 })

  -- ---- any list: a call where nothing is promised, and one of a plain store
  thick_begun : (c : ℕ) (y : Act) (i : S.Image) (x : Step S) → x.answer ≡ accepted → Allowed S y x.given x.lent accepted x.ops x.state x.left → Lends S i x
      → ThickIn S c (begun_by y (S.size x.image)) x.image
  thick_begun c (read r) i x a f l = tt
  thick_begun c (update u) i x a f l = tt
  thick_begun c forecast i x a f l = tt
  thick_begun c (format nand n torn) i x a f l =
      let w = format_again S nand n torn i x a f l in
      let B = blocks_of (geometry_of nand) (S.size x.image) in
      thick_start c nand (leaf B) 1 x.state x.image (format_starts S nand x.state x.image w).mounted (formatted_tree c nand x.state x.image w)
  thick_begun c (commit n torn) i x a f l = tt
  thick_begun c (mount nand n torn) i x a f l = tt

  thick_free : (c : ℕ) (H : S.State → Type 0) (i : S.Image) (x : Step S) → Takes S H i x → ThickIn S c (next_mode S unpromised i x) x.image
  thick_free c H i x r =
      cases (is_accepted x.answer)
      (λ t. let a = accepted_is x.answer t in
      rw t (thick_begun c x.act i x a (subst (λ (y : Answer). Allowed S x.act x.given x.lent y x.ops x.state x.left) a r.allowed) r.lends))
      (λ t. rw t tt)

  thick_held : (c : ℕ) (p : Plain) (i : S.Image) (x : Step S) → OfUpdate (KeepsThick c) x.act → ThickPlain c p → MeaningIs S (next_mode S (promised p) i x) x.image
      → ThickIn S c (next_mode S (promised p) i x) x.image
  thick_held c p i x k h = cases (is_cut_format S x) (λ t. rw t (λ e. tt)) (λ t. rw t (λ e. record { plain = thick_next c p i x k h; image = e }))

  thick_mode : (c : ℕ) (m : Mode) (H : S.State → Type 0) (i : S.Image) (x : Step S) → Takes S H i x → OfUpdate (KeepsThick c) x.act → ThickIn S c m i
      → MeaningIs S (next_mode S (mode_for S m x) i x) x.image → ThickIn S c (next_mode S (mode_for S m x) i x) x.image
  thick_mode c (promised p) H i x r k h = cases (strays S p.nand x) (λ t. rw t (λ e. thick_free c H i x r)) (λ t. rw t (thick_held c p i x k h.plain))
  thick_mode c unpromised H i x r k h = λ e. thick_free c H i x r

  thick_any : (c : ℕ) (xs ys : List (Step S)) (m : Mode) (H : S.State → Type 0) (i : S.Image) → Runs S H i (xs ++ ys) → AgreesAny S m i (xs ++ ys) → AllUpdates S (KeepsThick c) (xs ++ ys)
      → ThickIn S c m i → ThickIn S c (last_mode S m i xs) (last_image S i xs)
  thick_any c [] ys m H i r a k h = h
  thick_any c (x ∷ xs) ys m H i r a k h =
      thick_any c xs ys (next_mode S (mode_for S m x) i x) (Hands S H x) x.image r.1 a.2 k.1 (thick_mode c m H i x r.0 k.0 h a.1)

  -- ---- the statements
  pub stays_thick : StaysThick S
  stays_thick c nand K G s i xs ys r t k =
      thick_last c xs ys (starts S nand K G i) i (promise S nand K G s i (xs ++ ys) r) k (thick_start c nand K G s i r.started.mounted t)

  pub formatted_thick : FormattedThick S
  formatted_thick nand s i xs ys f r d u k =
      let B = blocks_of (geometry_of nand) (S.size i) in
      stays_thick 8 nand (leaf B) 1 s i xs ys (record { started = format_starts S nand s i f; runs = r; named = d; uncut = u }) (formatted_tree 8 nand s i f) k

  pub rebuilt_thick : RebuiltThick S
  rebuilt_thick nand K G s i xs ys f t l r d u k =
      stays_thick 8 nand (rebuild K) (suc G) s i xs ys (record { started = rebuild_starts S nand K G s i f; runs = r; named = d; uncut = u }) (rebuild_thick nand (S.size i) K t l) k

  pub any_thick : AnyThick S
  any_thick c nand K G s i xs ys f r t k =
      thick_any c xs ys (promised (starts S nand K G i)) (Only S s) i r (promise_any S nand K G s i (xs ++ ys) f r) k (thick_start c nand K G s i f.mounted t)

  pub foreign_thick : ForeignThick S
  foreign_thick c nand K G s i xs ys m r d u y t k =
      thick_last c xs ys (starts S nand K G i) i (promise_foreign S nand K G s i (xs ++ ys) m r d u y) k (thick_start c nand K G s i m t)
