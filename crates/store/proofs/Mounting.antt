-- A mount: refused for its sizes, for what the image means or for a thin tree, cut, or finished. Assumes nothing.
use mathlib.Core.Path.{◌≡◌, refl, sym, ap, subst, ◌∙◌}
use mathlib.Core.Bool.{Bool, true, false, cond}
use mathlib.Core.List.{List, [], ◌∷◌}
use Prim.Native.Nat.{ℕ, suc, ◌*◌, ◌^◌, ◌≤◌, ◌<◌, min}
use native.Mathlib.Nat.{mul_assoc}
use native.Mathlib.Omega.{arith}
use lib.Dec.{ltb}
use lib.ListN.{length, get_or}
use borrow.Author.Tests.{ltb-true, ltb-false}
use Rattle.lists.specs.Lists.{All, none, filter}
use Rattle.lists.proofs.Tests.{clash}
use Rattle.lists.proofs.Alls.{All-filter}
use Rattle.lists.proofs.Places.{get_d_same}
use Rattle.chip.specs.declared.progress.Progress.{Progress}
use Rattle.chip.specs.declared.power.Power.TheVariants.{Left}
use Rattle.chip.specs.Geometry.{Geometry, Fits, blocks_of, page_size, Nand, geometry_of}
use Rattle.chip.proofs.Sizes.{blocks_pages, nand_fits}
use Rattle.chip.specs.Power.{is_gone}
use Rattle.chip.specs.Counts.{nothing, total}
use Rattle.chip.specs.Page.{Page}
use Rattle.chip.specs.Chip.{Op, Machine, run, pages_of}
use Rattle.chip.specs.RunCode.{at_start, machine, Ran}
use Rattle.chip.proofs.ImageLaws.{same_image_lem}
use Rattle.chip.proofs.Runs as R
use Rattle.chip.proofs.Runs.{ran_told, ran_total, with_power}
use Rattle.pages.specs.Steps.{Live, live_from, of_commit, ordered, stand, steps}
use Rattle.views.specs.Table as Views
use Rattle.views.specs.Table.{Node}
use Rattle.views.proofs.ViewLaws.{Apart, apart_filter, apart_live}
use Rattle.tree.specs.Tree.{Table}
use Rattle.tree.specs.Thick.{thin}
use Rattle.journal.specs.Mount.{mount_ops, mounted_by}
use Rattle.journal.specs.Plan.{has_room, spare_blocks}
use Rattle.journal.proofs.MountLaws.{clean_none, clean_stays, mount_erases, mount_legal, mount_keeps, mount_clean, mount_gone, image_sized}
use Rattle.journal.proofs.PlanBlocks.{has_room_lem, room_has}
use Rattle.journal.proofs.PlanRoom.{LiveAt, live_from_lem, obsoletes, room_marks}
use Rattle.journal.specs.MountCode.{marks_of}
use Rattle.promise.specs.Plain.{Plain, refuses, resting, start_refusal}
use Rattle.promise.specs.Plain as Plain
use Rattle.promise.specs.Calls as P
use Rattle.promise.specs.Calls.{invalid, is_one_of, accepts_or}
use Rattle.promise.specs.Image.{views_of, by_six, image_meaning}
use Rattle.std.specs.Prelude.{Option, Some, None, Err}
use Rattle.store.specs.declared.answer.Refusal.{Refusal}
use Rattle.store.specs.declared.answer.Refusal.TheVariants.{Size, Cut, Thin}
use Rattle.store.specs.declared.state.State.{State}
use Rattle.store.specs.declared.state.Wrote.{Wrote}
use Rattle.store.specs.Answers.{answer_of}
use Rattle.store.specs.AdmitCode.{ChipOf, Sized}
use Rattle.store.specs.State.{Good, RoomIn, Room, geometry_in}
use Rattle.store.specs.FreshCode.{mounted_state}
use Rattle.store.specs.CheckCode.{Read, Unread, blank, layout, shape}
use Rattle.store.specs.EndingCode.{refused_with, accepted_with, ended_with}
use Rattle.store.specs.Ensured.{index, told_of, Mounts}
use Rattle.promise.proofs.Promise.{accepted_not}
use Rattle.store.proofs.EndingLaws.{either_end}
use Rattle.store.proofs.SizeLaws.{admitted, not_admitted}
use Rattle.store.proofs.MarkCount.{marks_few}
use Rattle.store.proofs.Settled.{Settled, settled_good, settled_state}

-- ---- room, with the meaning known
module _ (g : Geometry) (i : List ℕ) (nodes : List Node) (G : ℕ)
    (m : Views.meaning g (8 * blocks_of g (length i)) (pages_of g i) ≡ Views.means nodes G) where
  abbrev Spare : Type 0
  Spare = has_room g (blocks_of g (length i)) (spare_blocks g (blocks_of g (length i))) nodes G (live_from g 0 (pages_of g i)) ≡ true

  room_open : Room g i → Spare
  unfolding Room
  room_open h = subst (λ (x : Views.NodesRead). RoomIn g i x) m h

  room_shut : Spare → Room g i
  unfolding Room
  room_shut h = subst (λ (x : Views.NodesRead). RoomIn g i x) (sym m) h

-- ---- what was read is what the image means
read_means : (g : Geometry) (i lens slots free : List ℕ) (G : ℕ) (v : Option ℕ) (w : Bool) (rd : Read g i lens slots free G v w) → image_meaning g i ≡ P.means (views_of rd.nodes) G
unfolding image_meaning
read_means g i lens slots free G v w rd = ap by_six rd.means ∙ ap (λ (t : Bool). cond t (P.means (views_of rd.nodes) G) (invalid 9)) rd.tree

-- ---- an image that calls gave a state for has no void page
good_none : (g : Geometry) (t : State) (i : List ℕ) → Good g t i → mount_ops g (pages_of g i) ≡ []
good_none g t i h = clean_none g (pages_of g i) (ordered (live_from g 0 (pages_of g i))) h.clean

-- ---- a mount refused by its sizes
module _ (nand : Nand) (allowance : ℕ) (torn : List ℕ) (s : State) (i : List ℕ) (bytes : (j : ℕ) → get_or i j 0 < 256) where
  abbrev g : Geometry
  g = geometry_of nand

  fit : Fits g
  fit = nand_fits nand

  abbrev first : ℕ
  first = start_refusal g (length i) (length torn)

  -- a state of this part that calls gave for the image
  of_part : (t : State) → Good (geometry_in t) t i → t.nand ≡ nand → Good g t i
  of_part t h e = subst (λ (m : Nand). Good (geometry_of m) t i) e h

  pub size_mounts : Sized g (length i) (length torn) None → Mounts nand allowance torn s i (record { answer = Err Size; ops = nothing; state = s }) i
  size_mounts z =
      let one : first ≡ 1 = not_admitted g (length i) (length torn) z in
      let never : first ≡ 0 → ⊥ = λ e. omega arith in
      record {
        says = record {
          first = record {
            refused = λ n e. let q : suc n ≡ 1 = omega arith in (ap refuses (sym q), record { state = refl; image = refl });
            not1 = λ e q. never e;
            not2 = λ e q. never e;
            same_size = refl;
          };
          range = refl;
          quiet = λ n e d. refl;
          few = marks_few g fit i bytes;
          refused = λ e n m. absurd (never e);
          refused_thin = λ e K G m. absurd (never e);
          power = λ e K G m. absurd (never e);
          stays = λ e K G m. absurd (never e);
          done = λ e K G m l. absurd (never e);
          cut = λ e K G m l. absurd (never e);
          zeros = λ e. absurd (accepted_not 1 (sym e));
          no_erase = mount_erases g (pages_of g i);
          still = λ t h e. (good_none g t i (of_part t h e), refl);
        };
        kinds = λ e K G m. absurd (never e);
        bytes = λ e K G m. absurd (never e);
        legal = mount_legal g (pages_of g i);
        zeros = λ e. absurd (accepted_not 1 (sym e));
        off = λ e n q. absurd (never e);
      }

  -- ---- an image and a torn slice of the right sizes
  module _ (b : ℕ) (chip : ChipOf g b (length i)) (long : length torn ≡ page_size g) where
    passes : first ≡ 0
    passes = admitted g b (length i) (length torn) chip long

    -- refused for what the image means
    pub invalid_mounts : (a : Refusal) (n : ℕ) → answer_of (Err a) ≡ refuses n → 2 < n → is_one_of n (1 ∷ 7 ∷ 8 ∷ 9 ∷ 12 ∷ 10 ∷ []) ≡ true → image_meaning g i ≡ invalid n → Mounts nand allowance torn s i (refused_with a nothing s) i
    invalid_mounts a n is low kind m =
        let zero : first ≡ 0 = passes in
        let no : (K : Table) (G : ℕ) → image_meaning g i ≡ P.means K G → ⊥ = λ K G e. let u : ◌≡◌ {A = ℕ} 0 1 = cc in omega arith in
        record {
          says = record {
            first = record {
              refused = λ k e. absurd (omega arith);
              not1 = λ e q. let u : n ≡ 1 = cc in omega arith;
              not2 = λ e q. let u : n ≡ 2 = cc in omega arith;
              same_size = refl;
            };
            range = subst (λ (x : Plain.Answer). accepts_or (1 ∷ 7 ∷ 8 ∷ 9 ∷ 12 ∷ 10 ∷ []) x ≡ true) (sym is) kind;
            quiet = λ k e d. refl;
            few = marks_few g fit i bytes;
            refused = λ e k q. (cc, refl, refl, refl);
            refused_thin = λ e K G q. absurd (no K G q);
            power = λ e K G q. absurd (no K G q);
            stays = λ e K G q. absurd (no K G q);
            done = λ e K G q l. absurd (no K G q);
            cut = λ e K G q l. absurd (no K G q);
            zeros = λ e. absurd (accepted_not n (sym e ∙ is));
            no_erase = mount_erases g (pages_of g i);
            still = λ t h e. (good_none g t i (of_part t h e), refl);
          };
          kinds = λ e K G q. absurd (no K G q);
          bytes = λ e K G q. absurd (no K G q);
          legal = mount_legal g (pages_of g i);
          zeros = λ e. absurd (accepted_not n (sym e ∙ is));
          off = λ e k q. refl;
        }

    pub unread_mounts : (a : Refusal) → Unread g i a → Mounts nand allowance torn s i (refused_with a nothing s) i
    unread_mounts a (blank m) = invalid_mounts a 7 refl (omega arith) refl m
    unread_mounts a (layout m) = invalid_mounts a 8 refl (omega arith) refl m
    unread_mounts a (shape m) = invalid_mounts a 9 refl (omega arith) refl m

    -- refused for a thin tree
    pub thin_mounts : (lens slots free : List ℕ) (G : ℕ) (v : Option ℕ) → Read g i lens slots free G v true → Mounts nand allowance torn s i (refused_with Thin nothing s) i
    thin_mounts lens slots free G v rd =
        let zero : first ≡ 0 = passes in
        let is = read_means g i lens slots free G v true rd in
        let no : (K : Table) (H : ℕ) → image_meaning g i ≡ P.means K H → thin K ≡ false → ⊥ = λ K H m h.
        let e : views_of rd.nodes ≡ K = cc in
        clash (sym rd.thin) (ap thin e ∙ h) in
        record {
          says = record {
            first = record {
              refused = λ k e. absurd (omega arith);
              not1 = λ e q. let u : ◌≡◌ {A = ℕ} 12 1 = cc in omega arith;
              not2 = λ e q. let u : ◌≡◌ {A = ℕ} 12 2 = cc in omega arith;
              same_size = refl;
            };
            range = refl;
            quiet = λ k e d. refl;
            few = marks_few g fit i bytes;
            refused = λ e k q. let u : ◌≡◌ {A = ℕ} 0 1 = cc in absurd (omega arith);
            refused_thin = λ e K H m h. (refl, refl, refl, refl);
            power = λ e K H m h. absurd (no K H m h);
            stays = λ e K H m. (m, λ r. r);
            done = λ e K H m h. absurd (no K H m h);
            cut = λ e K H m h. absurd (no K H m h);
            zeros = λ e. absurd (accepted_not 12 (sym e));
            no_erase = mount_erases g (pages_of g i);
            still = λ t h e. (good_none g t i (of_part t h e), refl);
          };
          kinds = λ e K H m h. absurd (no K H m h);
          bytes = λ e K H m h. absurd (no K H m h);
          legal = mount_legal g (pages_of g i);
          zeros = λ e. absurd (accepted_not 12 (sym e));
          off = λ e k q. refl;
        }

    -- ---- an image that means nodes and G, and they are not thin
    module _ (lens slots free : List ℕ) (G : ℕ) (v : Option ℕ) (rd : Read g i lens slots free G v false) (i' : List ℕ) (low : allowance < 2 ^ 32) (p reached : Progress)
        (from : p ≡ at_start allowance) (begins : Ran g torn (marks_of g v (pages_of g i)) p reached i i') where
      ran : Ran g torn (marks_of g v (pages_of g i)) (at_start allowance) reached i i'
      ran = subst (λ (q : Progress). Ran g torn (marks_of g v (pages_of g i)) q reached i i') from begins

      abbrev ps : List Page
      ps = pages_of g i

      abbrev limit : ℕ
      limit = 8 * blocks_of g (length i)

      is_mounted : machine g reached.left i' ≡ mounted_by g torn allowance ps
      is_mounted = ran.is ∙ ap (run g torn (machine g (Left allowance) i)) (sym rd.marks)

      pages_are : pages_of g i' ≡ (mounted_by g torn allowance ps).pages
      pages_are = ap (λ (m : Machine). m.pages) is_mounted

      gone_is : is_gone reached.left ≡ ltb allowance (length (mount_ops g ps))
      gone_is = ap (λ (m : Machine). is_gone m.power) is_mounted ∙ mount_gone g torn allowance ps

      told_is : total reached.done ≡ min allowance (length (mount_ops g ps))
      told_is = ran_total g torn allowance (marks_of g v ps) reached i i' low ran ∙ ap (λ (os : List Op). min allowance (length os)) (sym rd.marks)

      kinds_are : reached.done ≡ told_of allowance (mount_ops g ps)
      kinds_are = ran_told g torn allowance (marks_of g v ps) reached i i' low ran ∙ ap (told_of allowance) (sym rd.marks)

      sizes : All (R.Sized g) ps
      sizes = image_sized g i b chip.size

      -- without a void page the image stays as it is
      still : (t : State) → Good (geometry_in t) t i → t.nand ≡ nand → (mount_ops g ps ≡ []) × (i' ≡ i)
      still t w e =
          let h = of_part t w e in
          let z = chip.size in (
            good_none g t i h,
            same_image_lem g i (b * g.pages) (blocks_pages g fit (length i) b z) (z ∙ sym (mul_assoc b g.pages (page_size g))) i' ran.size
                (pages_are ∙ clean_stays g torn allowance ps (ordered (live_from g 0 ps)) h.clean),
          )

      keeps : Views.meaning g limit (pages_of g i') ≡ Views.meaning g limit ps
      keeps = ap (Views.meaning g limit) pages_are ∙ mount_keeps g limit torn (omega (arith, fit.marks)) ps sizes allowance

      same_size_lem : 8 * blocks_of g (length i') ≡ limit
      same_size_lem = ap (λ (n : ℕ). 8 * blocks_of g n) ran.size

      means_is : image_meaning g i ≡ P.means (views_of rd.nodes) G
      means_is = read_means g i lens slots free G v false rd

      means_same : image_meaning g i' ≡ image_meaning g i
      unfolding image_meaning
      means_same = ap (λ (n : ℕ). by_six (Views.meaning g n (pages_of g i'))) same_size_lem ∙ ap by_six keeps

      -- room stays
      room_ran : (w : List Live) → marks_of g v ps ≡ obsoletes w → All (LiveAt g ps) w → Apart w → Room g i → Room g i'
      room_ran w e lives apart h =
          let B : ℕ = blocks_of g (length i) in
          let q : pages_of g i' ≡ (run g torn (with_power allowance ps) (obsoletes w)).pages
          = ap (λ (m : Machine). m.pages) (ran.is ∙ ap (run g torn (with_power allowance ps)) e) in
          let r = room_marks g B (spare_blocks g B) torn ps rd.nodes G w lives apart allowance
          (room_has g B (spare_blocks g B) rd.nodes G (live_from g 0 ps) (room_open g i rd.nodes G rd.means h)) in
          let k : has_room g B (spare_blocks g B) rd.nodes G (live_from g 0 (pages_of g i')) ≡ true
          = ap (λ (l : List Page). has_room g B (spare_blocks g B) rd.nodes G (live_from g 0 l)) q
          ∙ has_room_lem g B (spare_blocks g B) rd.nodes G (live_from g 0 (run g torn (with_power allowance ps) (obsoletes w)).pages) r in
          room_shut g i' rd.nodes G
          (ap (λ (n : ℕ). Views.meaning g n (pages_of g i')) same_size_lem ∙ keeps ∙ rd.means)
          (ap (λ (n : ℕ). has_room g (blocks_of g n) (spare_blocks g (blocks_of g n)) rd.nodes G (live_from g 0 (pages_of g i'))) ran.size ∙ k)

      room_marked : (o : Option ℕ) → marks_of g v ps ≡ marks_of g o ps → Room g i → Room g i'
      room_marked None e = room_ran [] e none tt
      room_marked (Some c) e =
          room_ran (filter (of_commit c) (live_from g 0 ps)) e
          (All-filter (of_commit c) (live_from_lem g [] ps 0 refl)) (apart_filter (of_commit c) (live_from g 0 ps) (apart_live g 0 ps))

      room_stays : Room g i → Room g i'
      room_stays = room_marked v refl

      -- the image after the marks
      stays : (K : Table) (H : ℕ) → image_meaning g i ≡ P.means K H → (image_meaning g i' ≡ P.means K H) × (Room g i → Room g i')
      stays K H m = (means_same ∙ m, room_stays)

      never_thin : {Q : Type 0} (K : Table) (H : ℕ) → image_meaning g i ≡ P.means K H → thin K ≡ true → Q
      never_thin K H m h =
          let e = means_is in
          let p : views_of rd.nodes ≡ K = cc in
          clash (ap thin p ∙ h) (sym rd.thin)

      never_invalid : (n : ℕ) → image_meaning g i ≡ invalid n → ⊥
      never_invalid n e = let m = means_is in let u : ◌≡◌ {A = ℕ} 0 1 = cc in omega arith

      -- ---- cut
      cut_mounts : is_gone reached.left ≡ true → Mounts nand allowance torn s i (refused_with Cut reached.done s) i'
      cut_mounts ok =
          let zero : first ≡ 0 = passes in
          let short : allowance < length (mount_ops g ps) = ltb-true allowance (length (mount_ops g ps)) (sym gone_is ∙ ok) in
          let told : total reached.done ≡ allowance = omega (arith, told_is) in
          record {
            says = record {
              first = record {
                refused = λ k q. absurd (omega arith);
                not1 = λ q r. let u : ◌≡◌ {A = ℕ} 10 1 = cc in omega arith;
                not2 = λ q r. let u : ◌≡◌ {A = ℕ} 10 2 = cc in omega arith;
                same_size = ran.size;
              };
              range = refl;
              quiet = λ k q d. let u : 10 ≡ k = cc in absurd (d (sym u));
              few = marks_few g fit i bytes;
              refused = λ q k m. absurd (never_invalid k m);
              refused_thin = λ q K H m h. never_thin K H m h;
              power = λ q K H m h. record { enough = λ l. absurd (omega arith); short = λ l. (refl, told) };
              stays = λ q K H m. stays K H m;
              done = λ q K H m h l. absurd (omega arith);
              cut = λ q K H m h l. refl;
              zeros = λ e. absurd (accepted_not 10 (sym e));
              no_erase = mount_erases g (pages_of g i);
              still = still;
            };
            kinds = λ q K H m h. kinds_are;
            bytes = λ q K H m h. pages_are;
            legal = mount_legal g (pages_of g i);
            zeros = λ e. absurd (accepted_not 10 (sym e));
            off = λ q k r. refl;
          }

      -- ---- finished
      module _ (bytes' : (j : ℕ) → get_or i' j 0 < 256) (buffer : List ℕ) (ok : is_gone reached.left ≡ false) where
        enough : length (mount_ops g ps) ≤ allowance
        enough = ltb-false allowance (length (mount_ops g ps)) (sym gone_is ∙ ok)

        abbrev st : State
        st = mounted_state nand b G free buffer lens slots

        settled : Settled g st i' rd.nodes
        settled =
            let z = ran.size in
            let k = (mount_clean g limit torn (omega (arith, fit.marks)) ps sizes allowance rd.nodes G rd.means enough).clean in
            record {
              chip = rw z chip;
              bytes = bytes';
              means = ap (λ (n : ℕ). Views.meaning g (8 * n) (pages_of g i')) chip.blocks ∙ keeps ∙ rd.means;
              clean = subst (λ (l : List Page). steps g l ≡ stand [] (ordered (live_from g 0 l))) (sym pages_are) k;
              tree = rd.tree;
              thick = sym rd.thin;
              lists = λ n l. rd.lists n (omega (arith, chip.blocks));
              free = rd.numbers;
              pending = refl;
              count = refl;
              past = λ k l. get_d_same 32 k 0;
            }

        plain_same : (K K' : Table) (H H' a a' : ℕ) → K ≡ K' → H ≡ H' → a ≡ a'
            → ◌≡◌ {A = Plain} (record { kept = K; present = K; pending = 0; number = H; on = true; nand = nand; blocks = a })
            (record { kept = K'; present = K'; pending = 0; number = H'; on = true; nand = nand; blocks = a' })
        plain_same K K' H H' a a' p q r = rw (p, q, r)

        is_done : (K : Table) (H : ℕ) → image_meaning g i ≡ P.means K H → P.state_of index st i' ≡ resting nand K H (blocks_of g (length i))
        unfolding resting
        is_done K H m =
            let e = means_is in
            let p : views_of rd.nodes ≡ K = cc in
            let q : G ≡ H = cc in
            settled_state st i' rd.nodes settled ∙ plain_same (views_of rd.nodes) K G H b (blocks_of g (length i)) p q chip.blocks

        done_mounts : Mounts nand allowance torn s i (accepted_with reached.done st) i'
        done_mounts =
            let zero : first ≡ 0 = passes in
            let fits = enough in
            let told : total reached.done ≡ length (mount_ops g ps) = omega (arith, told_is) in
            record {
              says = record {
                first = record {
                  refused = λ k q. absurd (omega arith);
                  not1 = λ q r. let u : ◌≡◌ {A = ℕ} 0 1 = cc in omega arith;
                  not2 = λ q r. let u : ◌≡◌ {A = ℕ} 0 1 = cc in omega arith;
                  same_size = ran.size;
                };
                range = refl;
                quiet = λ k q d. let u : ◌≡◌ {A = ℕ} 0 1 = cc in absurd (omega arith);
                few = marks_few g fit i bytes;
                refused = λ q k m. absurd (never_invalid k m);
                refused_thin = λ q K H m h. never_thin K H m h;
                power = λ q K H m h. record { enough = λ l. (refl, told); short = λ l. absurd (omega arith) };
                stays = λ q K H m. stays K H m;
                done = λ q K H m h l. (is_done K H m, settled_good g st i' rd.nodes settled);
                cut = λ q K H m h l. absurd (omega arith);
                zeros = λ e b. get_d_same 32 b 0;
                no_erase = mount_erases g (pages_of g i);
                still = still;
              };
              kinds = λ q K H m h. kinds_are;
              bytes = λ q K H m h. pages_are;
              legal = mount_legal g (pages_of g i);
              zeros = λ e. refl;
              off = λ q k r. let u : ◌≡◌ {A = ℕ} 0 1 = cc in absurd (omega arith);
            }

    -- an image that means nodes and G that are not thin, marked: the state is made of what was read
    pub marked_mounts : (lens slots free : List ℕ) (G : ℕ) (v : Option ℕ) → Read g i lens slots free G v false → (i' : List ℕ) → allowance < 2 ^ 32 → (p reached : Progress) → p ≡ at_start allowance
        → Ran g torn (marks_of g v (pages_of g i)) p reached i i' → ((j : ℕ) → get_or i' j 0 < 256)
        → (buffer : List ℕ) (r : Wrote)
        → r ≡ ended_with reached s (mounted_state nand b G free buffer lens slots) → Mounts nand allowance torn s i r i'
    marked_mounts lens slots free G v rd i' low p reached from ran bytes' buffer =
        either_end reached s (mounted_state nand b G free buffer lens slots) (λ (r : Wrote). Mounts nand allowance torn s i r i')
        (λ t. cut_mounts lens slots free G v rd i' low p reached from ran t)
        (λ t. done_mounts lens slots free G v rd i' low p reached from ran bytes' buffer t)
