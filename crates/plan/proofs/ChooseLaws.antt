-- The packing of the arrays is that of the policy, for the nodes below limit. Assumes nothing.
use mathlib.Core.Path.{◌≡◌, refl, sym, ap, ◌∙◌, subst}
use mathlib.Core.Logic.{◌⊎◌, inl, inr, ⊎_elim}
use mathlib.Core.Bool.{Bool, true, false, ◌||◌}
use mathlib.Core.List.{List}
use Prim.Native.Nat.{ℕ, suc, ◌+◌, ◌*◌, ◌<◌, ◌≤◌}
use native.Mathlib.Omega.{arith}
use lib.Dec.{eqb, leb, ltb}
use lib.ListN.{get_or, length, take}
use lib.Seq.{length-take-le, take_all}
use borrow.Author.Tests.{eq-eqb, eqb-false, le-leb, lt-leb, lt-ltb, ltb-true, ne_eqb}
use Rattle.std.specs.Prelude.{Option, Some, None}
use Rattle.std.proofs.lemmas.Option.{none-some, same_Some}
use Rattle.lists.specs.Lists.{part}
use Rattle.lists.proofs.Parts.{length_part}
use Rattle.lists.proofs.Tests.{and_left, below_or_not}
use Rattle.chip.specs.Geometry.{Geometry}
use Rattle.chip.specs.Page.{Page}
use Rattle.views.specs.Stored.{stored_list}
use Rattle.journal.specs.Plan.{places, rewrite}
use Rattle.journal.specs.Admissible.{Contents, written_of}
use Rattle.journal.specs.Packing.{Packing, delta_packing, is_unwritten, packed, snapshot_packing}
use Rattle.journal.specs.Policy.{Decision, delta_assignment, in_first, is_forced, sizes_of, snapshot_assignment}
use Rattle.journal.specs.PlanCode.{KeepsWritten, is_marked, packing_of, sizes_in, target_in}
use Rattle.contents.specs.ContentsCode.{AllRead, Measured, Readies, Tallied, WritesForms, contents_in, in_oldest, is_read}
use Rattle.contents.proofs.WrittenLaws.{ready_delta, ready_snapshot}
use Rattle.packing.specs.PackingCode.{Packs, PacksDelta}
use Rattle.plan.specs.PlacesCode.{free_pages}
use Rattle.plan.specs.MakeCode.{HoldsAssignment, HoldsDecision, HoldsFollowed, chosen}
use Rattle.journal.proofs.ContentsLaws.{SamePacking, delta_same, delta_seen, packed_same, written_same}
use Rattle.plan.proofs.PlaceLaws.{places_size}
use Rattle.plan.proofs.FewLaws.{node_few}
use Rattle.journal.proofs.PolicyLaws.{delta_few, packing_fits, snapshot_few}

-- ---- the arrays tell the sizes of the nodes, which are forced, which are old, and the lengths of their lists
module _ (g : Geometry) (limit : ℕ) (us : List ℕ) (N : Contents) (wholes parts forms lens olds : List ℕ)
    (part : (n : ℕ) → n < limit → get_or parts n 0 ≡ length (N.buffered n))
    (forced : (n : ℕ) → n < limit → is_marked forms n ≡ is_forced N n)
    (aged : (n : ℕ) → n < limit → is_marked olds n ≡ in_first g N us n)
    (whole : (n : ℕ) → n < limit → (0 < get_or parts n 0) ⊎ (is_marked olds n ≡ true) → get_or wholes n 0 ≡ length (rewrite (N.after n)))
    (depth : (n : ℕ) → n < limit → (d : ℕ) → d < 4 → eqb (get_or lens n 0) d ≡ eqb (length (N.listed n)) d) where
  -- a delta of the arrays is the policy's
  pub delta_arrays : SamePacking (λ n. n < limit) (delta_packing (sizes_in g.units wholes parts) (is_marked forms) (λ (n : ℕ). get_or lens n 0) (is_marked olds) limit)
      (delta_packing (sizes_of g N) (is_forced N) (λ (n : ℕ). length (N.listed n)) (in_first g N us) limit)
  delta_arrays =
      delta_same (λ n. n < limit) (λ n. (0 < get_or parts n 0) ⊎ (is_marked olds n ≡ true)) limit (sizes_in g.units wholes parts) (sizes_of g N) refl (λ n l. l)
      part whole (λ n l p. inl p)
      (is_marked forms) (is_forced N) forced
      (λ n l f. inl (let b = ltb-true 0 (length (N.buffered n)) (and_left (ltb 0 (length (N.buffered n))) _ (sym (forced n l) ∙ f)) in omega (arith, b, part n l)))
      (λ (n : ℕ). get_or lens n 0) (λ (n : ℕ). length (N.listed n)) depth
      (is_marked olds) (in_first g N us) aged (λ n l o. inr o)

-- ---- every node is to be written anew, and its size is known
pub snapshot_arrays : (g : Geometry) (limit : ℕ) (N : Contents) (wholes parts forms : List ℕ)
    → ((n : ℕ) → n < limit → get_or parts n 0 ≡ length (N.buffered n)) → ((n : ℕ) → n < limit → is_marked forms n ≡ true)
    → ((n : ℕ) → n < limit → get_or wholes n 0 ≡ length (rewrite (N.after n)))
    → SamePacking (λ n. n < limit) (packed (sizes_in g.units wholes parts) (is_marked forms) limit) (snapshot_packing (sizes_of g N) limit)
snapshot_arrays g limit N wholes parts forms part forced whole =
    packed_same (λ n. n < limit) (λ n. Unit {0}) limit (sizes_in g.units wholes parts) (sizes_of g N) refl (λ n l. l) part (λ n l s. whole n l) (λ n l p. tt)
    (is_marked forms) (λ (n : ℕ). true) forced (λ n l f. tt)

-- ---- forms that are the same below limit give the same updates
pub keeps_same : (limit : ℕ) (N : Contents) (a b : ℕ → Bool) (targets sizes units : List ℕ) → ((n : ℕ) → n < limit → a n ≡ b n)
    → KeepsWritten limit (written_of N a) targets sizes units → KeepsWritten limit (written_of N b) targets sizes units
keeps_same limit N a b targets sizes units e k n l w =
    let s : written_of N a n ≡ written_of N b n = written_same N N a b n refl refl (e n l) in
    rw (← s) (k n l w)

module _ (g : Geometry) (big : 34 ≤ g.units) (limit : ℕ) (N : Contents) (few-units : (n : ℕ) → n < limit → length (rewrite (N.after n)) ≤ 17)
    (rooms targets forms sizes units : List ℕ) (r : ℕ) (long : r ≤ length rooms)
    (kept : KeepsWritten limit (written_of N (is_marked forms)) targets sizes units) where
  pages : length (take r rooms) ≡ r
  pages = length-take-le r rooms long

  pub holds_delta : (us : List ℕ) → SamePacking (λ n. n < limit) (packing_of (take r rooms) targets forms)
      (delta_packing (sizes_of g N) (is_forced N) (λ (n : ℕ). length (N.listed n)) (in_first g N us) limit)
      → HoldsAssignment g limit N targets sizes units r (delta_assignment g limit us N)
  holds_delta us h =
      let S : Packing = delta_packing (sizes_of g N) (is_forced N) (λ (n : ℕ). length (N.listed n)) (in_first g N us) limit in
      let f = delta_few g N limit few-units big (λ (n : ℕ). length (N.listed n)) (in_first g N us) in
      let c : length S.rooms ≡ r = sym (ap length h.rooms) ∙ pages in
      record {
        count = c;
        target = h.target;
        written = keeps_same limit N (is_marked forms) S.is_anew targets sizes units h.is_anew kept;
        fits = λ p. packing_fits g N limit few-units big (is_forced N) S f p;
        few = omega (arith, f.few, c);
      }

  pub holds_snapshot : SamePacking (λ n. n < limit) (packing_of (take r rooms) targets forms) (snapshot_packing (sizes_of g N) limit)
      → HoldsAssignment g limit N targets sizes units r (snapshot_assignment g limit N)
  holds_snapshot h =
      let S : Packing = snapshot_packing (sizes_of g N) limit in
      let f = snapshot_few g N limit few-units big in
      let c : length S.rooms ≡ r = sym (ap length h.rooms) ∙ pages in
      record {
        count = c;
        target = h.target;
        written = keeps_same limit N (is_marked forms) S.is_anew targets sizes units h.is_anew kept;
        fits = λ p. packing_fits g N limit few-units big (λ (n : ℕ). true) S f p;
        few = omega (arith, f.few, c);
      }

-- ---- n pages and one more have places on the head and on u blocks
pub enough_places : (g : Geometry) (ps : List Page) (head : ℕ) (bs : List ℕ) (n u : ℕ) → length bs ≡ u → n + 1 ≤ length (free_pages g ps head) + u * g.pages
    → n + 1 ≤ length (places g ps head bs)
enough_places g ps head bs n u b l =
    subst (λ (k : ℕ). n + 1 ≤ k) (sym (places_size g ps head bs ∙ ap (λ (k : ℕ). length (free_pages g ps head) + k * g.pages) b)) l

-- ---- the lists of the nodes are as long as their lengths say, up to 4
pub depth_is : (lens slots : List ℕ) → length slots ≡ 1024 → (n : ℕ) → n < 256 → (d : ℕ) → d < 4 → eqb (get_or lens n 0) d ≡ eqb (length (stored_list lens slots n)) d
depth_is lens slots e n l d b =
    let p : length (part (4 * n) 4 slots) ≡ 4 = length_part slots (4 * n) 4 (omega arith) in
    go (get_or lens n 0) (part (4 * n) 4 slots) p
  where
    short : (k : ℕ) (xs : List ℕ) → k ≤ length xs → eqb k d ≡ eqb (length (take k xs)) d
    short k xs h = ap (λ (m : ℕ). eqb m d) (sym (length-take-le k xs h))

    long : (k : ℕ) (xs : List ℕ) → length xs ≡ 4 → 4 < k → eqb k d ≡ eqb (length (take k xs)) d
    long k xs f h =
        ne_eqb k d (λ z. omega arith)
        ∙ sym (ap (λ (ys : List ℕ). eqb (length ys) d) (take_all k xs (omega arith)) ∙ ne_eqb (length xs) d (λ z. omega arith))

    go : (k : ℕ) (xs : List ℕ) → length xs ≡ 4 → eqb k d ≡ eqb (length (take k xs)) d
    go k xs f = ⊎_elim (λ (h : 4 < k). long k xs f h) (λ (h : k ≤ 4). short k xs (omega arith)) (below_or_not 4 k)

-- a node that was read, by its units in the buffer or its block
read_by : (parts olds : List ℕ) (n : ℕ) → (0 < get_or parts n 0) ⊎ (is_marked olds n ≡ true) → is_read parts olds n ≡ true
read_by parts olds n (inl h) = rw (lt-ltb 0 (get_or parts n 0) h)
read_by parts olds n (inr t) = either (ltb 0 (get_or parts n 0)) (is_marked olds n) t
  where
    either : (a b : Bool) → b ≡ true → (a || b) ≡ true
    either true b e = refl
    either false b e = e

-- ---- a choice
module _ (g : Geometry) (big : 34 ≤ g.units) (limit : ℕ) (oldest : Option ℕ) (ps : List Page) (lens slots : List ℕ) (count : ℕ) (bytes parts resets forms₀ wholes olds units₀ : List ℕ) (most : limit ≤ 256)
    (long-slots : length slots ≡ 1024) (tallied : Tallied limit count bytes parts resets)
    (measured : Measured g limit oldest (contents_in g limit ps lens slots count bytes) parts resets forms₀ wholes olds units₀) where
  abbrev N : Contents
  N = contents_in g limit ps lens slots count bytes

  few_nodes : (n : ℕ) → n < limit → length (rewrite (N.after n)) ≤ 17
  few_nodes n l = node_few g limit ps lens slots count bytes n

  part_of : (n : ℕ) → n < limit → get_or parts n 0 ≡ length (N.buffered n)
  part_of n l = tallied.part n (omega arith)

  pub delta_short : (n : ℕ) → n < limit → (get_or forms₀ n 0 ≡ 1 → ⊥) → get_or parts n 0 ≤ get_or wholes n 0
  delta_short n l d = measured.less n l (ne_eqb (get_or forms₀ n 0) 1 d)

  abbrev S : Packing
  S = delta_packing (sizes_in g.units wholes parts) (is_marked forms₀) (λ (n : ℕ). get_or lens n 0) (is_marked olds) limit

  forced_some : (n : ℕ) → n < limit → is_marked forms₀ n ≡ true → 0 < get_or parts n 0
  forced_some n l f =
      let b = ltb-true 0 (length (N.buffered n)) (and_left (ltb 0 (length (N.buffered n))) _ (sym (measured.form n l) ∙ f)) in
      subst (λ (k : ℕ). 0 < k) (sym (part_of n l)) b

  module _ (us : List ℕ) (first : (n : ℕ) → n < limit → in_first g N us n ≡ in_oldest g oldest (N.listed n)) where
    same_delta : SamePacking (λ n. n < limit) S (delta_packing (sizes_of g N) (is_forced N) (λ (n : ℕ). length (N.listed n)) (in_first g N us) limit)
    same_delta =
        delta_arrays g limit us N wholes parts forms₀ lens olds part_of measured.form (λ n l. measured.old n l ∙ sym (first n l))
        (λ n l s. (measured.kept n l (read_by parts olds n s)).len) (λ n l d b. depth_is lens slots long-slots n (omega arith) d b)

    -- the arrays that hold the packing of the delta
    module _ (rooms targets forms : List ℕ) (r : ℕ) (p : PacksDelta S (2 * limit) r forms₀ rooms targets forms) where
      packing_is : packing_of (take r rooms) targets forms ≡ S
      packing_is = p.packs.is

      long : r ≤ length rooms
      long = room_long p.packs.ready.pages p.packs.few
        where
          room_long : length rooms ≡ 512 → r ≤ 2 * limit → r ≤ length rooms
          room_long e h = omega arith

      pub count_delta : (delta_assignment g limit us N).count ≡ r
      count_delta = sym (ap length same_delta.rooms) ∙ sym (ap (λ (K : Packing). length K.rooms) packing_is) ∙ length-take-le r rooms long

      seen : (n : ℕ) → n < limit → is_unwritten (target_in targets n) ≡ false → is_read parts olds n ≡ true
      seen n l e =
          read_by parts olds n
          (delta_seen (sizes_in g.units wholes parts) (is_marked forms₀) (λ (n : ℕ). get_or lens n 0) (is_marked olds) limit forced_some n l
          (inl (subst (λ (K : Packing). is_unwritten (K.target n) ≡ false) packing_is e)))

      readies : Readies 0 limit (λ (n : ℕ). rewrite (N.after n)) N.buffered targets forms wholes parts units₀
      readies =
          ready_delta limit N targets parts forms wholes units₀ g oldest resets forms₀ olds measured part_of seen
          (λ n l f. ap (λ (x : ℕ). eqb x 1) (sym (p.keeps.form n (eqb-false (get_or forms n 0) 1 f))) ∙ f)

      pub held_delta : (sizes units : List ℕ) → WritesForms limit N.buffered targets forms wholes parts sizes units₀ units
          → HoldsAssignment g limit N targets sizes units r (delta_assignment g limit us N)
      held_delta sizes units w =
          holds_delta g big limit N few_nodes rooms targets forms sizes units r long (w (λ (n : ℕ). rewrite (N.after n)) readies) us
          (subst (λ (K : Packing). SamePacking (λ n. n < limit) K (delta_packing (sizes_of g N) (is_forced N) (λ (n : ℕ). length (N.listed n)) (in_first g N us) limit))
          (sym packing_is) same_delta)

-- a snapshot
module _ (g : Geometry) (big : 34 ≤ g.units) (limit : ℕ) (ps : List Page) (lens slots : List ℕ) (count : ℕ) (bytes parts resets forms wholes units₀ : List ℕ) (most : limit ≤ 256)
    (tallied : Tallied limit count bytes parts resets) (read : AllRead limit (contents_in g limit ps lens slots count bytes) forms wholes units₀)
    (rooms targets : List ℕ) (r : ℕ) (p : Packs (packed (sizes_in g.units wholes parts) (is_marked forms) limit) (2 * limit) r rooms targets forms) where
  abbrev M : Contents
  M = contents_in g limit ps lens slots count bytes

  marked : (n : ℕ) → n < limit → is_marked forms n ≡ true
  marked n l = eq-eqb (get_or forms n 0) 1 (read.form n l)

  same_snapshot : SamePacking (λ n. n < limit) (packing_of (take r rooms) targets forms) (snapshot_packing (sizes_of g M) limit)
  same_snapshot =
      subst (λ (K : Packing). SamePacking (λ n. n < limit) K (snapshot_packing (sizes_of g M) limit)) (sym p.is)
      (snapshot_arrays g limit M wholes parts forms (λ n l. tallied.part n (omega arith)) marked (λ n l. (read.kept n l).len))

  long_rooms : r ≤ length rooms
  long_rooms = go p.ready.pages p.few
    where
      go : length rooms ≡ 512 → r ≤ 2 * limit → r ≤ length rooms
      go e h = omega arith

  pub count_snapshot : (snapshot_assignment g limit M).count ≡ r
  count_snapshot = sym (ap length same_snapshot.rooms) ∙ length-take-le r rooms long_rooms

  pub held_snapshot : (sizes units : List ℕ) → WritesForms limit M.buffered targets forms wholes parts sizes units₀ units
      → HoldsAssignment g limit M targets sizes units r (snapshot_assignment g limit M)
  held_snapshot sizes units w =
      holds_snapshot g big limit M (λ n l. node_few g limit ps lens slots count bytes n) rooms targets forms sizes units r long_rooms
      (w (λ (n : ℕ). rewrite (M.after n)) (ready_snapshot limit M targets parts forms wholes units₀ read)) same_snapshot

-- ---- the decision
module _ {g : Geometry} {limit : ℕ} {N : Contents} {targets sizes units : List ℕ} {D : Decision} where
  decision_some : (d : ℕ) → HoldsFollowed g limit N targets sizes units D d → HoldsDecision g limit N targets sizes units (Some d) D
  decision_some d h =
      record { none = λ e. absurd (none-some d (sym e)); some = λ n e. subst (HoldsFollowed g limit N targets sizes units D) (same_Some d n e) h }

module _ (g : Geometry) (limit wide narrow : ℕ) (us : List ℕ) (N : Contents) where
  -- a delta that has places
  pub chose_delta : (targets sizes units : List ℕ) (d : ℕ) → HoldsAssignment g limit N targets sizes units d (delta_assignment g limit us N) → d + 1 ≤ wide
      → HoldsDecision g limit N targets sizes units (Some d) (chosen g limit wide narrow us N)
  chose_delta targets sizes units d h l =
      let t : leb (suc (delta_assignment g limit us N).count) wide ≡ true = le-leb (suc (delta_assignment g limit us N).count) wide (fits (delta_assignment g limit us N).count h.count) in
      decision_some d (delta_assignment g limit us N, rw t, h)
    where
      fits : (c : ℕ) → c ≡ d → suc c ≤ wide
      fits c e = omega arith

  module _ (d : ℕ) (dc : (delta_assignment g limit us N).count ≡ d) (dl : wide < d + 1) where
    no_delta : leb (suc (delta_assignment g limit us N).count) wide ≡ false
    no_delta = lt-leb (suc (delta_assignment g limit us N).count) wide (over (delta_assignment g limit us N).count dc)
      where
        over : (c : ℕ) → c ≡ d → wide < suc c
        over c e = omega arith

    -- none, and a snapshot that has places
    pub chose_snapshot : (targets sizes units : List ℕ) (s : ℕ) → HoldsAssignment g limit N targets sizes units s (snapshot_assignment g limit N) → s + 1 ≤ narrow
        → HoldsDecision g limit N targets sizes units (Some s) (chosen g limit wide narrow us N)
    chose_snapshot targets sizes units s h l =
        let t : leb (suc (snapshot_assignment g limit N).count) narrow ≡ true = le-leb (suc (snapshot_assignment g limit N).count) narrow (fits (snapshot_assignment g limit N).count h.count) in
        decision_some s (snapshot_assignment g limit N, rw (no_delta, t), h)
      where
        fits : (c : ℕ) → c ≡ s → suc c ≤ narrow
        fits c e = omega arith

    -- neither
    pub chose_nothing : (targets sizes units : List ℕ) (s : ℕ) → (snapshot_assignment g limit N).count ≡ s → narrow < s + 1
        → HoldsDecision g limit N targets sizes units None (chosen g limit wide narrow us N)
    chose_nothing targets sizes units s sc l =
        let t : leb (suc (snapshot_assignment g limit N).count) narrow ≡ false = lt-leb (suc (snapshot_assignment g limit N).count) narrow (over (snapshot_assignment g limit N).count sc) in
        record { none = λ e. rw (no_delta, t); some = λ n e. absurd (none-some n e) }
      where
        over : (c : ℕ) → c ≡ s → narrow < suc c
        over c e = omega arith
