-- A rebuild: refused for its sizes, for what the image means, for want of a number or of blocks, cut, or finished. Assumes nothing.
use mathlib.Core.Path.{◌≡◌, refl, sym, ap, subst, ◌∙◌}
use mathlib.Core.Bool.{Bool, true, false, cond}
use mathlib.Core.Logic.{◌⊎◌, ⊎_elim}
use mathlib.Core.List.{List, [], ◌∷◌, ◌++◌}
use Prim.Native.Nat.{ℕ, suc, ◌+◌, ◌*◌, ◌^◌, ◌≤◌, ◌<◌, min}
use native.Mathlib.Omega.{arith}
use lib.Dec.{ltb}
use lib.ListN.{length, get_or}
use borrow.Author.Tests.{le-leb, ltb-true, ltb-false}
use Rattle.lists.specs.Lists.{tab, none}
use Rattle.lists.proofs.Flats.{tab_same, get_d_tab}
use Rattle.lists.proofs.Places.{get_d_same}
use Rattle.lists.proofs.Tests.{cases}
use Rattle.chip.specs.declared.progress.Progress.{Progress}
use Rattle.chip.specs.declared.geometry.Nand.TheVariants.{Small, Large}
use Rattle.chip.specs.Geometry.{Geometry, Fits, Nand, geometry_of, blocks_of, page_size}
use Rattle.chip.specs.Power.{is_gone, takes_effect}
use Rattle.chip.specs.Counts.{nothing, total}
use Rattle.chip.specs.Page.{Page}
use Rattle.chip.specs.Chip.{Op, Legal, Machine, run, pages_of}
use Rattle.chip.specs.Erases.{erases_in}
use Rattle.chip.specs.RunCode.{at_start, Ran}
use Rattle.chip.proofs.EraseLaws.{erases_append}
use Rattle.chip.proofs.Runs.{ran_told, ran_total, run_gone, with_power}
use Rattle.chip.proofs.Sizes.{nand_fits}
use Rattle.pages.specs.Steps.{live_from, ordered, stand, steps}
use Rattle.views.specs.Nodes.{View}
use Rattle.views.specs.Table as Views
use Rattle.views.specs.Table.{Node, fresh}
use Rattle.views.specs.Groups.{Distinct}
use Rattle.views.specs.Stored.{Stores}
use Rattle.tree.specs.Tree.{Table, at}
use Rattle.tree.specs.Free.{free_numbers}
use Rattle.tree.specs.Rebuild.{rebuild}
use Rattle.tree.specs.Thick.{thin}
use Rattle.tree.specs.Step6.{step6}
use Rattle.tree.specs.CheckCode.{pages_table}
use Rattle.tree.proofs.RebuildLaws.{TreeAnew}
use Rattle.journal.specs.Mount.{mount_ops}
use Rattle.journal.specs.Plan.{news_of, node_at, ops_of, spare_blocks}
use Rattle.journal.specs.Commit.{groups_of}
use Rattle.journal.specs.Rebuild as L
use Rattle.journal.proofs.EraseLaws.{commit_erases, erased_none}
use Rattle.journal.proofs.MountLaws.{mount_erases, mount_few}
use Rattle.journal.proofs.PlanBlocks as Log
use Rattle.journal.proofs.RebuildSafe.{RebuildSafe, image_rebuilt, node_rebuilt, rebuild_few}
use Rattle.promise.specs.Plain.{Plain, refuses, resting, start_refusal, last_number, enough_writes}
use Rattle.promise.specs.Calls as P
use Rattle.promise.specs.Calls.{Meaning, invalid, is_one_of, accepts_or}
use Rattle.promise.specs.Image.{views_of, by_six, image_meaning}
use Rattle.promise.proofs.Promise.{accepted_not}
use Rattle.renewal.specs.RenewCode.{plan_for, CarriesRebuild}
use Rattle.std.specs.Prelude.{Option, None, Err}
use Rattle.store.specs.declared.answer.Refusal.{Refusal}
use Rattle.store.specs.declared.answer.Refusal.TheVariants.{Size, Cut, Last, Nodes}
use Rattle.store.specs.declared.state.State.{State}
use Rattle.store.specs.declared.state.Wrote.{Wrote}
use Rattle.store.specs.Answers.{answer_of, number_of}
use Rattle.store.specs.AdmitCode.{ChipOf, Sized}
use Rattle.store.specs.State.{Good, Room, turned_off}
use Rattle.store.specs.FreshCode.{mounted_state}
use Rattle.store.specs.EndingCode.{refused_with, accepted_with, ended_with}
use Rattle.store.specs.CheckCode.{Unread, blank, layout, shape}
use Rattle.store.specs.PrepareCode.{IsLast, IsFull, IsReady, Unready, unread, no_number, no_blocks}
use Rattle.store.specs.Rebuild.{has_free_blocks, ops_for, rebuild_ops, rebuild_plan}
use Rattle.store.specs.Ensured.{index, told_of, Rebuilds}
use Rattle.store.proofs.CommitGood.{room_by, room_of}
use Rattle.store.proofs.EndingLaws.{either_end}
use Rattle.store.proofs.SizeLaws.{admitted, chip_pages, not_admitted}
use Rattle.store.proofs.Settled.{Settled, settled_good, settled_state}
use Rattle.store.proofs.SettledViews.{map_tab}
use Rattle.store.proofs.RebuildReady as R

-- ---- a table by its views
table_views : (t : Table) (k : ℕ) (f : ℕ → View) → ((n : ℕ) → f (k + n) ≡ at t n) → tab k (length t) f ≡ t
table_views [] k f h = refl
table_views (w ∷ t) k f h =
    ap (λ (x : View). x ∷ tab (suc k) (length t) f) (ap f (let e : k ≡ k + 0 = omega arith in e) ∙ h 0)
    ∙ ap (λ (u : Table). w ∷ u) (table_views t (suc k) f (λ n. ap f (let e : suc k + n ≡ k + suc n = omega arith in e) ∙ h (suc n)))

-- 2,000 operations are enough on either part
always_enough : (m : Nand) (n : ℕ) → n ≤ 2000 → n ≤ enough_writes m
always_enough Small n h = h
always_enough Large n h = omega arith

module _ (nand : Nand) (allowance : ℕ) (torn : List ℕ) (s : State) (i : List ℕ) (bytes : (j : ℕ) → get_or i j 0 < 256) where
  abbrev g : Geometry
  g = geometry_of nand

  fit : Fits g
  fit = nand_fits nand

  abbrev first : ℕ
  first = start_refusal g (length i) (length torn)

  -- a rebuild that nothing but want of power refuses
  abbrev Rebuilding : Table → ℕ → Type 0
  Rebuilding K G = P.Rebuilding index nand torn i K G

  -- no block is erased, whatever the image means
  erases_none : (b : ℕ) (m : Meaning) → erases_in b (ops_for g i m) ≡ 0
  unfolding L.rebuild_plan
  erases_none b (invalid n) = refl
  erases_none b (P.means K G) =
      let q = rebuild_plan g i K in
      let z : erases_in b (ops_of g G q) ≡ 0 = commit_erases b [] (news_of g G q) ∙ erased_none b [] none in
      erases_append b (mount_ops g (pages_of g i)) (ops_of g G q) ∙ omega (arith, mount_erases g (pages_of g i) b, z)

  no_erase : (b : ℕ) → erases_in b (rebuild_ops g i) ≡ 0
  unfolding rebuild_ops
  no_erase b = erases_none b (image_meaning g i)

  -- ---- refused before any operation
  module _ (a : Refusal) (n : ℕ) (t : State) (is : answer_of (Err a) ≡ refuses n) (kind : is_one_of n (1 ∷ 7 ∷ 8 ∷ 9 ∷ 6 ∷ 5 ∷ 10 ∷ []) ≡ true) (low : n < 10)
      (never : (K : Table) (G : ℕ) → Rebuilding K G → ⊥) where
    abbrev w : Wrote
    w = record { answer = Err a; ops = nothing; state = t }

    stopped : ((k : ℕ) → first ≡ suc k → (answer_of (Err a) ≡ refuses (suc k)) × (◌≡◌ {A = ℕ} 0 0) × P.Same index s i t i)
        → (first ≡ 0 → (k : ℕ) → image_meaning g i ≡ invalid k → (answer_of (Err a) ≡ refuses k) × (t ≡ turned_off s))
        → (first ≡ 0 → (K : Table) (G : ℕ) → image_meaning g i ≡ P.means K G → last_number ≤ G → (answer_of (Err a) ≡ refuses 6) × (t ≡ s))
        → (first ≡ 0 → (K : Table) (G : ℕ) → image_meaning g i ≡ P.means K G → G < last_number → has_free_blocks g i ≡ false → (answer_of (Err a) ≡ refuses 5) × (t ≡ s))
        → Rebuilds nand allowance torn s i w i
    stopped size bad last full =
        record {
          says = record {
            range = subst (λ (x : _). accepts_or (1 ∷ 7 ∷ 8 ∷ 9 ∷ 6 ∷ 5 ∷ 10 ∷ []) x ≡ true) (sym is) kind;
            same_size = refl;
            size = size;
            refused = λ e k m. let r = bad e k m in (r.0, refl, ap (λ (x : State). x.on) r.1, refl);
            last = λ e K G m l. let r = last e K G m l in (r.0, refl, record { state = r.1; image = refl });
            full = λ e K G m l h. let r = full e K G m l h in (r.0, refl, record { state = r.1; image = refl });
            few = λ K G b. absurd (never K G b);
            power = λ K G b. absurd (never K G b);
            choice = λ K G b. absurd (never K G b);
            done = λ K G b l. absurd (never K G b);
            cut = λ K G b l. absurd (never K G b);
            room = λ K G b h. absurd (never K G b);
            zeros = λ e. absurd (accepted_not n (sym e ∙ is));
            no_erase = no_erase;
          };
          kinds = λ K G b. absurd (never K G b);
          bytes = λ K G b. absurd (never K G b);
          legal = λ K G b. absurd (never K G b);
          once = λ K G b. absurd (never K G b);
          zeros = λ e. absurd (accepted_not n (sym e ∙ is));
          off = λ e k m. (bad e k m).1;
          cut = λ e. let u : refuses n ≡ refuses 10 = sym is ∙ e in let q : n ≡ 10 = cc in absurd (omega arith);
        }

  -- 1
  pub size_rebuilds : Sized g (length i) (length torn) None → Rebuilds nand allowance torn s i (record { answer = Err Size; ops = nothing; state = s }) i
  size_rebuilds z =
      let one : first ≡ 1 = not_admitted g (length i) (length torn) z in
      stopped Size 1 s refl refl (omega arith) (λ K G b. omega (arith, one, b.sizes))
      (λ k e. let q : suc k ≡ 1 = omega arith in (ap refuses (sym q), refl, record { state = refl; image = refl }))
      (λ e k m. absurd (omega arith)) (λ e K G m l. absurd (omega arith)) (λ e K G m l h. absurd (omega arith))

  -- ---- an image and a torn slice of the right sizes
  module _ (b : ℕ) (chip : ChipOf g b (length i)) (long : length torn ≡ page_size g) where
    passes : first ≡ 0
    passes = admitted g b (length i) (length torn) chip long

    -- 7, 8 and 9
    pub invalid_rebuilds : (a : Refusal) (n : ℕ) → answer_of (Err a) ≡ refuses n → n < 10 → is_one_of n (1 ∷ 7 ∷ 8 ∷ 9 ∷ 6 ∷ 5 ∷ 10 ∷ []) ≡ true → image_meaning g i ≡ invalid n
        → Rebuilds nand allowance torn s i (refused_with a nothing s) i
    invalid_rebuilds a n is low kind m =
        let no : (K : Table) (G : ℕ) → image_meaning g i ≡ P.means K G → ⊥ = λ K G e. let u : ◌≡◌ {A = ℕ} 0 1 = cc in omega arith in
        stopped a n (turned_off s) is kind low (λ K G r. no K G r.image)
        (λ k e. absurd (omega (arith, passes)))
        (λ e k q. let u : invalid n ≡ invalid k = sym m ∙ q in let r : n ≡ k = cc in (is ∙ ap refuses r, refl))
        (λ e K G q l. absurd (no K G q)) (λ e K G q l h. absurd (no K G q))

    pub unread_rebuilds : (a : Refusal) → Unread g i a → Rebuilds nand allowance torn s i (refused_with a nothing s) i
    unread_rebuilds a (blank m) = invalid_rebuilds a 7 refl (omega arith) refl m
    unread_rebuilds a (layout m) = invalid_rebuilds a 8 refl (omega arith) refl m
    unread_rebuilds a (shape m) = invalid_rebuilds a 9 refl (omega arith) refl m

    -- 6
    pub last_rebuilds : IsLast g i → Rebuilds nand allowance torn s i (record { answer = Err Last; ops = nothing; state = s }) i
    last_rebuilds h =
        let same : (K : Table) (G : ℕ) → image_meaning g i ≡ P.means K G → h.number ≡ G = λ K G e. let u = h.meant.is in cc in
        stopped Last 6 s refl refl (omega arith) (λ K G r. omega (arith, same K G r.image, r.number, h.last))
        (λ k e. absurd (omega (arith, passes)))
        (λ e k q. let u = h.meant.is in let z : ◌≡◌ {A = ℕ} 0 1 = cc in absurd (omega arith))
        (λ e K G q l. (refl, refl))
        (λ e K G q l k. absurd (omega (arith, same K G q, h.last)))

    -- 5
    pub full_rebuilds : IsFull g i → Rebuilds nand allowance torn s i (record { answer = Err Nodes; ops = nothing; state = s }) i
    full_rebuilds h =
        let same : (K : Table) (G : ℕ) → image_meaning g i ≡ P.means K G → h.number ≡ G = λ K G e. let u = h.meant.is in cc in
        stopped Nodes 5 s refl refl (omega arith) (λ K G r. let x = r.blocks in let y = h.blocks in let z : ◌≡◌ {A = Bool} true false = sym x ∙ y in let q : ◌≡◌ {A = ℕ} 0 1 = cc in omega arith)
        (λ k e. absurd (omega (arith, passes)))
        (λ e k q. let u = h.meant.is in let z : ◌≡◌ {A = ℕ} 0 1 = cc in absurd (omega arith))
        (λ e K G q l. absurd (omega (arith, same K G q, h.left)))
        (λ e K G q l k. (refl, refl))

    -- 6 and 5 leave the state on, the others turn it off
    read_last : {Q : Type 0} (e : Refusal) → Unread g i e → e ≡ Last → Q
    read_last e (blank m) h = let z : ◌≡◌ {A = ℕ} 7 6 = ap number_of h in absurd (omega arith)
    read_last e (layout m) h = let z : ◌≡◌ {A = ℕ} 8 6 = ap number_of h in absurd (omega arith)
    read_last e (shape m) h = let z : ◌≡◌ {A = ℕ} 9 6 = ap number_of h in absurd (omega arith)

    read_nodes : {Q : Type 0} (e : Refusal) → Unread g i e → e ≡ Nodes → Q
    read_nodes e (blank m) h = let z : ◌≡◌ {A = ℕ} 7 5 = ap number_of h in absurd (omega arith)
    read_nodes e (layout m) h = let z : ◌≡◌ {A = ℕ} 8 5 = ap number_of h in absurd (omega arith)
    read_nodes e (shape m) h = let z : ◌≡◌ {A = ℕ} 9 5 = ap number_of h in absurd (omega arith)

    last_quiet : (e : Refusal) → Unready g i e → e ≡ Last → Rebuilds nand allowance torn s i (record { answer = Err e; ops = nothing; state = s }) i
    last_quiet e (unread f u) h = read_last f u h
    last_quiet e (no_number l) h = last_rebuilds l
    last_quiet e (no_blocks l) h = full_rebuilds l

    nodes_quiet : (e : Refusal) → Unready g i e → e ≡ Nodes → Rebuilds nand allowance torn s i (record { answer = Err e; ops = nothing; state = s }) i
    nodes_quiet e (unread f u) h = read_nodes f u h
    nodes_quiet e (no_number l) h = last_rebuilds l
    nodes_quiet e (no_blocks l) h = full_rebuilds l

    pub quiet_rebuilds : (e : Refusal) → Unready g i e → (e ≡ Last) ⊎ (e ≡ Nodes) → Rebuilds nand allowance torn s i (record { answer = Err e; ops = nothing; state = s }) i
    quiet_rebuilds e u h = ⊎_elim (last_quiet e u) (nodes_quiet e u) h

    pub off_rebuilds : (e : Refusal) → Unready g i e → (e ≡ Last → ⊥) → (e ≡ Nodes → ⊥) → Rebuilds nand allowance torn s i (refused_with e nothing s) i
    off_rebuilds e (unread f u) p q = unread_rebuilds f u
    off_rebuilds e (no_number h) p q = absurd (p refl)
    off_rebuilds e (no_blocks h) p q = absurd (q refl)

    -- ---- all tests pass
    module _ (lens slots ring : List ℕ) (G : ℕ) (v : Option ℕ) (rd : IsReady g i lens slots ring G v) (i' : List ℕ) (low : allowance < 2 ^ 32) (p reached : Progress)
        (from : p ≡ at_start allowance) (lens' slots' free : List ℕ)
        (rn : CarriesRebuild g b (pages_table g i lens slots (8 * b)) G v torn p reached i i' lens slots lens' slots' free) where
      abbrev ps : List Page
      ps = pages_of g i

      abbrev B : ℕ
      B = blocks_of g (length i)

      abbrev K : Table
      K = R.K g fit i torn bytes b chip long lens slots ring G v rd

      abbrev nodes : List Node
      nodes = R.nodes g fit i torn bytes b chip long lens slots ring G v rd

      abbrev u : Table
      u = rebuild K

      means_is : image_meaning g i ≡ P.means K G
      means_is = R.means_is g fit i torn bytes b chip long lens slots ring G v rd

      anew : TreeAnew B K u
      anew = R.anew g fit i torn bytes b chip long lens slots ring G v rd

      law : RebuildSafe g (8 * B) B torn ps nodes G (at u)
      law = R.law g fit i torn bytes b chip long lens slots ring G v rd

      few_blocks : B ≤ 32
      few_blocks = R.blocks_few g fit i torn bytes b chip long lens slots ring G v rd

      -- what was carried out, of the tree of the image and its blocks
      carried : CarriesRebuild g B K G v torn (at_start allowance) reached i i' lens slots lens' slots' free
      carried =
          subst (λ (q : Progress). CarriesRebuild g B K G v torn q reached i i' lens slots lens' slots' free) from
          (subst (λ (t : Table). CarriesRebuild g B t G v torn p reached i i' lens slots lens' slots' free) rd.read.views
          (subst (λ (c : ℕ). CarriesRebuild g c (pages_table g i lens slots (8 * c)) G v torn p reached i i' lens slots lens' slots' free) chip.blocks rn))

      -- the operations
      abbrev ops : List Op
      ops = rebuild_ops g i

      ops_are : ops ≡ L.rebuild_ops g (8 * B) B ps G (at u)
      unfolding rebuild_ops
      ops_are = ap (ops_for g i) means_is

      ran : Ran g torn ops (at_start allowance) reached i i'
      ran =
          subst (λ (os : List Op). Ran g torn os (at_start allowance) reached i i')
          (ap (λ (os : List Op). os ++ ops_of g G (plan_for g B K ps)) (sym rd.read.marks) ∙ sym ops_are) carried.ran

      pages_are : pages_of g i' ≡ (run g torn (with_power allowance ps) ops).pages
      pages_are = ap (λ (m : Machine). m.pages) ran.is

      after_is : pages_of g i' ≡ image_rebuilt g (8 * B) B torn ps G (at u) allowance
      after_is = pages_are ∙ ap (λ (os : List Op). (run g torn (with_power allowance ps) os).pages) ops_are

      gone_is : is_gone reached.left ≡ ltb allowance (length ops)
      gone_is = ap (λ (m : Machine). is_gone m.power) ran.is ∙ run_gone g torn allowance ps ops

      told_is : total reached.done ≡ min allowance (length ops)
      told_is = ran_total g torn allowance ops reached i i' low ran

      kinds_are : reached.done ≡ told_of allowance ops
      kinds_are = ran_told g torn allowance ops reached i i' low ran

      same_blocks : B ≡ blocks_of g (length i')
      same_blocks = ap (blocks_of g) (sym ran.size)

      -- ---- the nodes of the new commit, whose views are the tree rebuilt
      abbrev next : List Node
      next = tab 0 (8 * B) (node_rebuilt g (8 * B) B ps G (at u))

      next_views : views_of next ≡ u
      next_views =
          map_tab (λ (x : Node). x.now) (node_rebuilt g (8 * B) B ps G (at u)) 0 (8 * B)
          ∙ tab_same (λ n. (node_rebuilt g (8 * B) B ps G (at u) n).now) (at u) 0 (8 * B) (λ n l. law.renewed.views n (omega arith))
          ∙ ap (λ (n : ℕ). tab 0 n (at u)) (sym anew.size) ∙ table_views u 0 (at u) (λ n. ap (at u) (let z : 0 + n ≡ n = omega arith in z))

      next_tree : step6 (views_of next) ≡ true
      next_tree = ap step6 next_views ∙ anew.tree.passes

      next_stores : (n : ℕ) → n < 8 * B → Stores lens' slots' n (node_at next n).pages
      next_stores n l =
          let e : node_at next n ≡ node_rebuilt g (8 * B) B ps G (at u) n =
          get_d_tab (node_rebuilt g (8 * B) B ps G (at u)) 0 (8 * B) n fresh l ∙ ap (node_rebuilt g (8 * B) B ps G (at u)) (let z : 0 + n ≡ n = omega arith in z) in
          subst (λ (x : Node). Stores lens' slots' n x.pages) (sym (e ∙ law.node n l))
          (carried.turned law.renewed.pages_hold n (omega (arith, few_blocks)) (node_at nodes n) (rd.read.lists n l))

      -- ---- old or new
      abbrev takes : Bool
      takes = takes_effect (get_or torn 0 0) allowance (length ops)

      after_read : Views.meaning g (8 * B) (pages_of g i') ≡ cond takes (Views.means next (suc G)) (Views.means nodes G)
      after_read =
          ap (Views.meaning g (8 * B)) after_is ∙ law.cut allowance
          ∙ ap (λ (n : ℕ). cond (takes_effect (get_or torn 0 0) allowance n) (Views.means next (suc G)) (Views.means nodes G)) (ap length (sym ops_are))

      after_meaning : image_meaning g i' ≡ cond takes (P.means u (suc G)) (P.means K G)
      unfolding image_meaning
      after_meaning =
          ap (λ (c : ℕ). by_six (Views.meaning g (8 * c) (pages_of g i'))) (sym same_blocks) ∙ ap by_six after_read ∙ go takes
        where
          go : (c : Bool) → by_six (cond c (Views.means next (suc G)) (Views.means nodes G)) ≡ cond c (P.means u (suc G)) (P.means K G)
          go true = rw next_tree (ap (λ (t : Table). P.means t (suc G)) next_views)
          go false = ap (λ (t : Bool). cond t (P.means K G) (invalid 9)) rd.read.tree

      -- ---- room
      new_room : takes ≡ true → Room g i'
      new_room t =
          room_by g i' B next (suc G) same_blocks (after_read ∙ ap (λ (c : Bool). cond c (Views.means next (suc G)) (Views.means nodes G)) t)
          (subst (λ (l : List Page). Log.Room g B (spare_blocks g B) next (suc G) (live_from g 0 l)) (sym after_is)
          (law.room_done allowance (subst (λ (n : ℕ). takes_effect (get_or torn 0 0) allowance n ≡ true) (ap length ops_are) t)))

      any_room : Room g i → Room g i'
      any_room h =
          cases takes new_room
          (λ t. room_by g i' B nodes G same_blocks (after_read ∙ ap (λ (c : Bool). cond c (Views.means next (suc G)) (Views.means nodes G)) t)
          (subst (λ (l : List Page). Log.Room g B (spare_blocks g B) nodes G (live_from g 0 l)) (sym after_is)
          (law.room_cut (room_of g i B nodes G refl rd.read.means h) allowance)))

      -- ---- few operations
      ops_few : length ops ≤ enough_writes nand
      ops_few = always_enough nand (length ops) (rw ops_are (rebuild_few law (mount_few g i bytes (chip_pages g fit b (length i) chip)) few_blocks))

      -- enough blocks are wholly free
      full_never : has_free_blocks g i ≡ false → ⊥
      full_never h = let x = rd.blocks in let z : ◌≡◌ {A = Bool} true false = sym x ∙ h in let q : ◌≡◌ {A = ℕ} 0 1 = cc in omega arith

      -- what holds of the tree and the number of the image holds of those that it means
      for_any : (Q : Table → ℕ → Type 0) → Q K G → (K' : Table) (G' : ℕ) → Rebuilding K' G' → Q K' G'
      for_any Q h K' G' r =
          let e : P.means K G ≡ P.means K' G' = sym means_is ∙ r.image in
          let k : K ≡ K' = cc in
          let n : G ≡ G' = cc in
          subst (λ (m : ℕ). Q K' m) n (subst (λ (t : Table). Q t G) k h)

      -- the fields that do not depend on the end
      never_invalid : (n : ℕ) → image_meaning g i ≡ invalid n → ⊥
      never_invalid n e = let m = means_is in let z : ◌≡◌ {A = ℕ} 0 1 = cc in omega arith

      number_is : (K' : Table) (G' : ℕ) → image_meaning g i ≡ P.means K' G' → G ≡ G'
      number_is K' G' e = let m = means_is in cc

      -- ---- cut
      cut_rebuilds : is_gone reached.left ≡ true → Rebuilds nand allowance torn s i (refused_with Cut reached.done s) i'
      cut_rebuilds t =
          let short : allowance < length ops = ltb-true allowance (length ops) (sym gone_is ∙ t) in
          let told : total reached.done ≡ allowance = omega (arith, told_is) in
          record {
            says = record {
              range = refl;
              same_size = ran.size;
              size = λ n e. absurd (omega (arith, passes));
              refused = λ e n m. absurd (never_invalid n m);
              last = λ e K' G' m l. absurd (omega (arith, number_is K' G' m, rd.left));
              full = λ e K' G' m l h. absurd (full_never h);
              few = λ K' G' r. ops_few;
              power = λ K' G' r. record { enough = λ l. absurd (omega arith); short = λ l. (refl, told) };
              choice = for_any (λ (t : Table) (n : ℕ). image_meaning g i' ≡ cond takes (P.means (rebuild t) (suc n)) (P.means t n)) after_meaning;
              done = λ K' G' r l. absurd (omega arith);
              cut = λ K' G' r l. refl;
              room = λ K' G' r h. any_room h;
              zeros = λ e. absurd (accepted_not 10 (sym e));
              no_erase = no_erase;
            };
            kinds = λ K' G' r. kinds_are;
            bytes = λ K' G' r. pages_are;
            legal = λ K' G' r. subst (λ (os : List Op). Legal g ps os) (sym ops_are) law.legal;
            once = for_any (λ (t : Table) (n : ℕ). Distinct (groups_of (rebuild_plan g i t).written)) law.renewed.once;
            zeros = λ e. absurd (accepted_not 10 (sym e));
            off = λ e n m. refl;
            cut = λ e. refl;
          }

      -- ---- finished
      module _ (bytes' : (j : ℕ) → get_or i' j 0 < 256) (buffer : List ℕ) (t : is_gone reached.left ≡ false) where
        enough : length ops ≤ allowance
        enough = ltb-false allowance (length ops) (sym gone_is ∙ t)

        counts : takes ≡ true
        counts = rw (le-leb (length ops) allowance enough)

        abbrev st : State
        st = mounted_state nand b (G + 1) free buffer lens' slots'

        settled : Settled g st i' next
        settled =
            let k = law.kept allowance (rw (← ops_are) enough) in
            record {
              chip = record { blocks = chip.blocks ∙ same_blocks; least = chip.least; most = chip.most; size = ran.size ∙ chip.size };
              bytes = bytes';
              means =
                  ap (λ (c : ℕ). Views.meaning g (8 * c) (pages_of g i')) chip.blocks
                  ∙ ap (Views.meaning g (8 * B)) after_is ∙ k.is ∙ ap (Views.means next) (let z : suc G ≡ G + 1 = omega arith in z);
              clean = subst (λ (l : List Page). steps g l ≡ stand [] (ordered (live_from g 0 l))) (sym after_is) k.clean;
              tree = next_tree;
              thick = ap thin next_views ∙ anew.thick;
              lists = λ n l. next_stores n (omega (arith, chip.blocks));
              free = carried.numbers ∙ ap free_numbers (sym next_views);
              pending = refl;
              count = refl;
              past = λ k l. get_d_same 32 k 0;
            }

        plain_same : (T U : Table) (m n c d : ℕ) → T ≡ U → m ≡ n → c ≡ d
            → ◌≡◌ {A = Plain} (record { kept = T; present = T; pending = 0; number = m; on = true; nand = nand; blocks = c })
            (record { kept = U; present = U; pending = 0; number = n; on = true; nand = nand; blocks = d })
        plain_same T U m n c d p q r = rw (p, q, r)

        is_done : P.state_of index st i' ≡ resting nand u (suc G) B
        unfolding resting
        is_done = settled_state st i' next settled ∙ plain_same (views_of next) u (G + 1) (suc G) b B next_views (omega arith) chip.blocks

        done_rebuilds : Rebuilds nand allowance torn s i (accepted_with reached.done st) i'
        done_rebuilds =
            let told : total reached.done ≡ length ops = omega (arith, told_is, enough) in
            let fits = enough in
            record {
              says = record {
                range = refl;
                same_size = ran.size;
                size = λ n e. absurd (omega (arith, passes));
                refused = λ e n m. absurd (never_invalid n m);
                last = λ e K' G' m l. absurd (omega (arith, number_is K' G' m, rd.left));
                full = λ e K' G' m l h. absurd (full_never h);
                few = λ K' G' r. ops_few;
                power = λ K' G' r. record { enough = λ l. (refl, told); short = λ l. absurd (omega arith) };
                choice = for_any (λ (t : Table) (n : ℕ). image_meaning g i' ≡ cond takes (P.means (rebuild t) (suc n)) (P.means t n)) after_meaning;
                done = λ K' G' r l.
                    for_any (λ (t : Table) (n : ℕ). (P.state_of index st i' ≡ resting nand (rebuild t) (suc n) B) × (thin (rebuild t) ≡ false) × Good g st i' × Room g i')
                    (is_done, anew.thick, settled_good g st i' next settled, new_room counts) K' G' r;
                cut = λ K' G' r l. absurd (omega arith);
                room = λ K' G' r h. any_room h;
                zeros = λ e b. get_d_same 32 b 0;
                no_erase = no_erase;
              };
              kinds = λ K' G' r. kinds_are;
              bytes = λ K' G' r. pages_are;
              legal = λ K' G' r. subst (λ (os : List Op). Legal g ps os) (sym ops_are) law.legal;
              once = for_any (λ (t : Table) (n : ℕ). Distinct (groups_of (rebuild_plan g i t).written)) law.renewed.once;
              zeros = λ e. refl;
              off = λ e n m. absurd (never_invalid n m);
              cut = λ e. absurd (accepted_not 10 e);
            }

    -- an image that all tests pass, rebuilt as far as the power goes
    pub ready_rebuilds : (lens slots ring : List ℕ) (G : ℕ) (v : Option ℕ) → IsReady g i lens slots ring G v → (i' : List ℕ) → allowance < 2 ^ 32 → (p reached : Progress) → p ≡ at_start allowance
        → (lens' slots' free : List ℕ) → CarriesRebuild g b (pages_table g i lens slots (8 * b)) G v torn p reached i i' lens slots lens' slots' free → ((j : ℕ) → get_or i' j 0 < 256)
        → (buffer : List ℕ) (r : Wrote) → r ≡ ended_with reached s (mounted_state nand b (G + 1) free buffer lens' slots') → Rebuilds nand allowance torn s i r i'
    ready_rebuilds lens slots ring G v rd i' low p reached from lens' slots' free rn bytes' buffer =
        either_end reached s (mounted_state nand b (G + 1) free buffer lens' slots') (λ (r : Wrote). Rebuilds nand allowance torn s i r i')
        (λ t. cut_rebuilds lens slots ring G v rd i' low p reached from lens' slots' free rn t)
        (λ t. done_rebuilds lens slots ring G v rd i' low p reached from lens' slots' free rn bytes' buffer t)
