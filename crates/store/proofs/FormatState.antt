-- The state and the image after a format, cut or finished, and where it is refused. Assumes nothing.
use mathlib.Core.Path.{◌≡◌, refl, sym, ap, ap₂, subst, ◌∙◌}
use mathlib.Core.Bool.{Bool, true, false}
use mathlib.Core.List.{List, [], ◌∷◌, map}
use Prim.Native.Nat.{ℕ, zero, suc, ◌+◌, ◌-◌, ◌*◌, ◌^◌, ◌≤◌, ◌<◌, min}
use native.Mathlib.Omega.{arith}
use lib.Dec.{eqb, ltb}
use lib.ListN.{length, get_or, replicate}
use borrow.Author.Tests.{eq-eqb, ltb-true, ltb-false}
use Rattle.lists.specs.Lists.{tab}
use Rattle.lists.proofs.Places.{get_d_same}
use Rattle.lists.proofs.Flats.{get_d_tab}
use Rattle.chip.specs.declared.progress.Progress.{Progress}
use Rattle.chip.specs.Geometry.{Geometry, Fits, blocks_of, Nand, geometry_of}
use Rattle.chip.proofs.Sizes.{block_on, blocks_pages, pages_pos, nand_fits}
use Rattle.chip.specs.Power.{is_gone}
use Rattle.chip.specs.Counts.{nothing, total}
use Rattle.chip.specs.Chip.{Legal, pages_of, Machine}
use Rattle.chip.specs.RunCode.{at_start, Ran}
use Rattle.chip.proofs.ImageLaws.{length_pages}
use Rattle.chip.proofs.Runs.{ran_told, ran_total}
use Rattle.pages.specs.Steps.{live_from}
use Rattle.views.specs.Nodes.{View, untouched, view}
use Rattle.views.specs.Table as Views
use Rattle.views.specs.Table.{Node}
use Rattle.views.specs.Stored.{Stores}
use Rattle.views.proofs.Meanings.{in_order, Kept}
use Rattle.numbers.specs.NumberSet.{words_of, uncounted}
use Rattle.tree.specs.Free.{is_open, free_numbers}
use Rattle.journal.specs.Format.{format_data, format_ops, formatted_by, formatted, format_table, format_node}
use Rattle.journal.specs.Plan.{node_at, has_room, spare_blocks}
use Rattle.journal.proofs.FormatLaws.{format_legal, format_count, format_pages, format_gone, format_begun, format_order}
use Rattle.journal.proofs.PlanBlocks.{has_room_lem}
use Rattle.journal.proofs.PlanRoom.{room_first}
use Rattle.journal.proofs.PlanKept.{wide}
use Rattle.std.specs.Prelude.{Some, None, Ok, Err}
use Rattle.promise.specs.Plain.{Answer, refuses, accepted, formats, leaf, resting, fresh, start_refusal, enough_writes}
use Rattle.promise.specs.Calls as P
use Rattle.promise.specs.Calls.{FirstTests}
use Rattle.promise.specs.Image.{views_of, image_meaning}
use Rattle.promise.proofs.Trees.{leaf_tree}
use Rattle.store.specs.declared.answer.Refusal.TheVariants.{Size, Cut}
use Rattle.store.specs.declared.state.State.{State}
use Rattle.store.specs.declared.state.Wrote.{Wrote}
use Rattle.store.specs.AdmitCode.{Sized}
use Rattle.store.specs.EndingCode.{ended_with}
use Rattle.store.specs.FreshCode.{fresh_state}
use Rattle.store.specs.State.{turned_off, RoomIn, Room}
use Rattle.store.specs.Ensured.{index, told_of, Formats}
use Rattle.promise.proofs.Promise.{accepted_not, leaf_not_thin}
use Rattle.store.proofs.EndingLaws.{either_end}
use Rattle.store.proofs.SizeLaws.{first_some, first_none, enough_most}
use Rattle.store.proofs.Settled.{Settled, settled_meaning, settled_good, settled_state}

-- ---- the node table of a finished format
-- no other node has a view
leaf_rest : (k m : ℕ) → views_of (tab (suc k) m format_node) ≡ replicate m untouched
leaf_rest k zero = refl
leaf_rest k (suc m) = ap (λ (l : List View). untouched ∷ l) (leaf_rest (suc k) m)

leaf_views : (m : ℕ) → views_of (format_table (suc m)) ≡ view 0 [] ∷ replicate m untouched
leaf_views m = ap (λ (l : List View). view 0 [] ∷ l) (leaf_rest 0 m)

pub format_views : (B : ℕ) → 0 < B → views_of (format_table (8 * B)) ≡ leaf B
unfolding leaf
format_views B h =
    ap (λ (n : ℕ). views_of (format_table n)) (let e : 8 * B ≡ suc (8 * B - 1) = omega arith in e) ∙ leaf_views (8 * B - 1)

-- the arrays that hold it
leaf_stores : (k m n : ℕ) → Stores (1 ∷ replicate k 0) (replicate (suc m) 0) n (format_node n).pages
leaf_stores k m zero = record { size = refl; pages = λ l. refl }
leaf_stores k m (suc n) = record { size = get_d_same k n 0; pages = λ l. rw (get_d_same {A = ℕ} k n 0) }

pub format_stores : (limit n : ℕ) → n < limit → Stores (1 ∷ replicate 255 0) (replicate 1024 0) n (node_at (format_table limit) n).pages
format_stores limit n l =
    let z : 0 + n ≡ n = omega arith in
    subst (λ (x : Node). Stores (1 ∷ replicate 255 0) (replicate 1024 0) n x.pages)
    (sym (get_d_tab format_node 0 limit n Views.fresh l ∙ ap format_node z)) (leaf_stores 255 1023 n)

-- every number but 0 is free
open_rest : (c : List ℕ) (k m : ℕ) → ((n : ℕ) → eqb (get_or c (suc n) 0) 0 ≡ true) → map is_open (views_of (tab (suc k) m format_node)) ≡ tab (suc k) m (λ (n : ℕ). eqb (get_or c n 0) 0)
open_rest c k zero h = refl
open_rest c k (suc m) h = ap₂ ◌∷◌ (sym (h k)) (open_rest c (suc k) m h)

open_leaf : (m : ℕ) → map is_open (views_of (format_table (suc m))) ≡ uncounted (suc m) (1 ∷ replicate 255 0)
open_leaf m = ap (λ (l : List Bool). false ∷ l) (open_rest (1 ∷ replicate 255 0) 0 m (λ n. eq-eqb (get_or (replicate 255 0) n 0) 0 (get_d_same 255 n 0)))

format_free : (limit : ℕ) → 0 < limit → words_of (uncounted limit (1 ∷ replicate 255 0)) ≡ free_numbers (views_of (format_table limit))
unfolding free_numbers
format_free zero h = absurd (omega arith)
format_free (suc m) h = ap words_of (sym (open_leaf m))

-- ---- the one live page of a finished format
pub one_live : (g : Geometry) (fit : Fits g) (n : ℕ) → 0 < n → in_order g (formatted g n) ≡ record { place = 0; bytes = format_data g } ∷ []
one_live g fit zero h = absurd (omega arith)
one_live g fit (suc n) h = format_order g (omega arith) (omega arith) (omega arith) n

-- ---- refused: nothing is done
one_not : {Q : Type 0} (m : ℕ) → m ≡ 1 → m ≡ 0 → Q
one_not m e h = absurd (omega arith)

pub format_size : (nand : Nand) (n : ℕ) (torn : List ℕ) (s : State) (i : List ℕ) → Sized (geometry_of nand) (length i) (length torn) None
    → Formats nand n torn s i (record { answer = Err Size; ops = nothing; state = s }) i
format_size nand n torn s i z =
    let f : start_refusal (geometry_of nand) (length i) (length torn) ≡ 1 = first_none (geometry_of nand) (length i) (length torn) z in
    record {
      says = record {
        first = record {
          refused = λ k e. (ap refuses (sym f ∙ e), record { state = refl; image = refl });
          not1 = λ p. one_not _ f p;
          not2 = λ p. one_not _ f p;
          same_size = refl;
        };
        range = refl;
        quiet = λ k e d. refl;
        few = λ p. one_not _ f p;
        power = λ p. one_not _ f p;
        done = λ p. one_not _ f p;
        zeros = λ e. absurd (accepted_not 1 (sym e));
        cut = λ p. one_not _ f p;
      };
      kinds = λ p. one_not _ f p;
      bytes = λ p. one_not _ f p;
      legal = λ p. one_not _ f p;
      zeros = λ e. absurd (accepted_not 1 (sym e));
      off = λ e. let u : ◌≡◌ {A = ℕ} 1 10 = cc in absurd (omega arith);
    }

-- ---- the sizes are right: its operations were done as far as the power went
module _ (nand : Nand) (n : ℕ) (torn : List ℕ) (s : State) (i i' : List ℕ) (b : ℕ) (z : Sized (geometry_of nand) (length i) (length torn) (Some b)) (low : n < 2 ^ 32) (p reached : Progress)
    (from : p ≡ at_start n) (first : Ran (geometry_of nand) torn (format_ops (geometry_of nand) b) p reached i i') where
  abbrev g : Geometry
  g = geometry_of nand

  fit : Fits g
  fit = nand_fits nand

  ran : Ran g torn (format_ops g b) (at_start n) reached i i'
  ran = subst (λ (q : Progress). Ran g torn (format_ops g b) q reached i i') from first

  pos : 0 < b
  pos = omega (arith, (z.chip b refl).least)

  passes : start_refusal g (length i) (length torn) ≡ 0
  passes = first_some g (length i) (length torn) b z

  blocks_are : blocks_of g (length i) ≡ b
  blocks_are = sym (z.chip b refl).blocks

  need_is : length (format_ops g (blocks_of g (length i))) ≡ b + 3
  need_is = ap (λ (B : ℕ). length (format_ops g B)) blocks_are ∙ format_count g b

  pages_are : pages_of g i' ≡ (formatted_by g torn b n (pages_of g i)).pages
  pages_are = ap (λ (m : Machine). m.pages) ran.is

  gone_is : is_gone reached.left ≡ ltb n (b + 3)
  gone_is = ap (λ (m : Machine). is_gone m.power) ran.is ∙ format_gone g torn b n (pages_of g i)

  told_is : total reached.done ≡ min n (b + 3)
  told_is = ran_total g torn n (format_ops g b) reached i i' low ran ∙ ap (min n) (format_count g b)

  kinds_are : reached.done ≡ told_of n (format_ops g (blocks_of g (length i)))
  kinds_are = ran_told g torn n (format_ops g b) reached i i' low ran ∙ ap (λ (B : ℕ). told_of n (format_ops g B)) (sym blocks_are)

  -- the bytes
  format_bytes : pages_of g i' ≡ (formatted_by g torn (blocks_of g (length i)) n (pages_of g i)).pages
  format_bytes = pages_are ∙ ap (λ (B : ℕ). (formatted_by g torn B n (pages_of g i)).pages) (sym blocks_are)

  few_ops : length (format_ops g (blocks_of g (length i))) ≤ enough_writes nand
  few_ops = omega (arith, need_is, (z.chip b refl).most, enough_most nand)

  long : length (pages_of g i) ≡ b * g.pages
  long = length_pages g i ∙ blocks_pages g fit (length i) b (z.chip b refl).size

  some : 0 < b * g.pages
  some = omega (arith, block_on g 0 b pos, fit.many)

  format_allowed : Legal g (pages_of g i) (format_ops g (blocks_of g (length i)))
  format_allowed =
      subst (λ (B : ℕ). Legal g (pages_of g i) (format_ops g B)) (sym blocks_are)
      (format_legal g fit.holds (omega (arith, fit.nodes)) b (pages_of g i) long (omega (arith, long, some)))

  -- neither 1 nor 2
  tests : (a : Answer) (s' : State) → (a ≡ refuses 1 → ⊥) → (a ≡ refuses 2 → ⊥) → FirstTests index (formats nand n (length i) (length torn)) s i a s' i'
  tests a s' h k =
      record { refused = λ m e. absurd (omega (arith, passes, e)); not1 = λ p. h; not2 = λ p. k; same_size = ran.size }

  -- cut
  format_cut : is_gone reached.left ≡ true → (off : State) → off ≡ turned_off s
      → Formats nand n torn s i (record { answer = Err Cut; ops = reached.done; state = off }) i'
  format_cut ok off f =
      let l : n < b + 3 = ltb-true n (b + 3) (sym gone_is ∙ ok) in
      subst (λ (x : State). Formats nand n torn s i (record { answer = Err Cut; ops = reached.done; state = x }) i') (sym f)
      (record {
        says = record {
          first = tests (refuses 10) (turned_off s) (λ e. let u : ◌≡◌ {A = ℕ} 10 1 = cc in omega arith) (λ e. let u : ◌≡◌ {A = ℕ} 10 2 = cc in omega arith);
          range = refl;
          quiet = λ k e d. absurd (d (let u : k ≡ 10 = cc in u));
          few = λ p. few_ops;
          power = λ p. record { enough = λ m. absurd (omega (arith, need_is)); short = λ m. (refl, omega (arith, told_is)) };
          done = λ p m. absurd (omega (arith, need_is));
          zeros = λ e. absurd (accepted_not 10 (sym e));
          cut = λ p m. refl;
        };
        kinds = λ p. kinds_are;
        bytes = λ p. format_bytes;
        legal = λ p. format_allowed;
        zeros = λ e. absurd (accepted_not 10 (sym e));
        off = λ e. refl;
      })

  -- ---- finished
  module _ (ok : is_gone reached.left ≡ false) (bytes : (j : ℕ) → get_or i' j 0 < 256) (free : List ℕ) (set : free ≡ words_of (uncounted (8 * b) (1 ∷ replicate 255 0))) (buffer : List ℕ) where
    enough : b + 3 ≤ n
    enough = ltb-false n (b + 3) (sym gone_is ∙ ok)

    kept : Kept g (8 * b) (pages_of g i') (format_table (8 * b)) 1
    kept = rw pages_are (format_begun g fit torn b n (pages_of g i) pos long enough)

    settled : Settled g (fresh_state nand b free buffer) i' (format_table (8 * b))
    settled =
        record {
          chip = rw ran.size (z.chip b refl);
          bytes = bytes;
          means = kept.is;
          clean = kept.clean;
          tree = rw (format_views b pos) (leaf_tree 0 b pos (z.chip b refl).most).tree.passes;
          lists = λ k l. format_stores (8 * b) k l;
          thick = rw (format_views b pos) (leaf_not_thin b);
          free = set ∙ format_free (8 * b) (omega (arith, pos));
          pending = refl;
          count = refl;
          past = λ k l. get_d_same 32 k 0;
        }

    -- one page is live, so all blocks but the first are unused
    order : in_order g (pages_of g i') ≡ record { place = 0; bytes = format_data g } ∷ []
    order = rw (pages_are, format_pages g torn b n (pages_of g i) long enough) (one_live g fit (b * g.pages) some)

    room_at : (B : ℕ) → suc (b - 1) ≡ B → has_room g B (spare_blocks g B) (format_table (8 * b)) 1 (live_from g 0 (pages_of g i')) ≡ true
    room_at B e =
        subst (λ (m : ℕ). has_room g m (spare_blocks g m) (format_table (8 * b)) 1 (live_from g 0 (pages_of g i')) ≡ true) e
        (has_room_lem g (suc (b - 1)) (spare_blocks g (suc (b - 1))) (format_table (8 * b)) 1 (live_from g 0 (pages_of g i'))
        (room_first g (8 * b) (b - 1) (spare_blocks g (suc (b - 1))) (pages_of g i') (format_table (8 * b)) 1
        (record { place = 0; bytes = format_data g }) (pages_pos g fit) (omega (arith, wide g fit (suc (b - 1)) (omega (arith, (z.chip b refl).least)))) kept order refl))

    blocks_after : blocks_of g (length i') ≡ b
    blocks_after = ap (blocks_of g) ran.size ∙ blocks_are

    format_room : Room g i'
    unfolding Room
    format_room =
        subst (RoomIn g i')
        (sym (ap (λ (B : ℕ). Views.meaning g (8 * B) (pages_of g i')) blocks_after ∙ kept.is))
        (room_at (blocks_of g (length i')) ((let e : suc (b - 1) ≡ b = omega (arith, pos) in e) ∙ sym blocks_after))

    state_is : P.state_of index (fresh_state nand b free buffer) i' ≡ fresh nand (blocks_of g (length i))
    unfolding resting
    state_is = settled_state (fresh_state nand b free buffer) i' (format_table (8 * b)) settled ∙ rw (blocks_are, format_views b pos)

    meaning_is : image_meaning g i' ≡ P.means (leaf (blocks_of g (length i))) 1
    meaning_is = settled_meaning g (fresh_state nand b free buffer) i' (format_table (8 * b)) settled ∙ rw (blocks_are, format_views b pos)

    format_finished : (new : State) → new ≡ fresh_state nand b free buffer
        → Formats nand n torn s i (record { answer = Ok tt; ops = reached.done; state = new }) i'
    format_finished new f =
        subst (λ (x : State). Formats nand n torn s i (record { answer = Ok tt; ops = reached.done; state = x }) i') (sym f)
        (record {
          says = record {
            first = tests accepted (fresh_state nand b free buffer) (λ e. let u : ◌≡◌ {A = ℕ} 0 1 = cc in omega arith) (λ e. let u : ◌≡◌ {A = ℕ} 0 1 = cc in omega arith);
            range = refl;
            quiet = λ k e d. let u : ◌≡◌ {A = ℕ} 0 1 = cc in absurd (omega arith);
            few = λ p. few_ops;
            power = λ p. record { enough = λ m. (refl, omega (arith, told_is, enough, need_is)); short = λ m. absurd (omega (arith, need_is, enough)) };
            done = λ p m. (state_is, meaning_is, settled_good g (fresh_state nand b free buffer) i' (format_table (8 * b)) settled, format_room);
            zeros = λ e b. get_d_same 32 b 0;
            cut = λ p m. absurd (omega (arith, need_is, enough));
          };
          kinds = λ p. kinds_are;
          bytes = λ p. format_bytes;
          legal = λ p. format_allowed;
          zeros = λ e. refl;
          off = λ e. let u : ◌≡◌ {A = ℕ} 0 1 = cc in absurd (omega arith);
        })

  -- either
  pub format_ended : ((j : ℕ) → get_or i' j 0 < 256) → (free : List ℕ) → free ≡ words_of (uncounted (8 * b) (1 ∷ replicate 255 0)) → (buffer : List ℕ) (r : Wrote)
      → r ≡ ended_with reached s (fresh_state nand b free buffer) → Formats nand n torn s i r i'
  format_ended bytes free set buffer =
      either_end reached s (fresh_state nand b free buffer) (λ (r : Wrote). Formats nand n torn s i r i')
      (λ t. format_cut t (turned_off s) refl)
      (λ t. format_finished t bytes free set buffer (fresh_state nand b free buffer) refl)
