-- The plan of a commit as the definitions have it is the one that the code reads, on any state and any image; on a good state it is the plan of the policy. Assumes nothing.
use mathlib.Core.Path.{◌≡◌, refl, sym, ap, ◌∙◌}
use mathlib.Core.Logic.{◌⊎◌, ⊎_elim}
use mathlib.Core.Bool.{true, false}
use mathlib.Core.List.{List, [], ◌∷◌, reverse, reverse-reverse}
use Prim.Native.Nat.{ℕ, ◌+◌, ◌≤◌, ◌<◌}
use native.Mathlib.Omega.{arith}
use lib.Dec.{eqb}
use lib.ListN.{length, get_or, length-reverse}
use borrow.Author.Tests.{le-leb, lt-leb}
use Rattle.lists.specs.Lists.{any}
use Rattle.lists.proofs.Flats.{get_d_tab, length_tab}
use Rattle.lists.proofs.Tests.{cases}
use Rattle.chip.specs.Geometry.{Geometry}
use Rattle.chip.specs.Chip.{in_block, pages_of}
use Rattle.std.proofs.Common.{Option, Some, None}
use Rattle.pages.specs.declared.unit.Unit.{Unit}
use Rattle.pages.specs.Units.{decodes}
use Rattle.views.specs.Nodes.{untouched}
use Rattle.views.specs.Groups.{own}
use Rattle.views.specs.Table.{Node, fresh}
use Rattle.views.specs.Stored.{node_view, stored_list}
use Rattle.tree.specs.Shown.{shown}
use Rattle.journal.specs.Plan.{Plan, is_empty, node_at, stuck}
use Rattle.journal.proofs.ContentsLaws.{SameContents}
use Rattle.contents.specs.ContentsCode.{contents_in, own_of}
use Rattle.plan.proofs.SurveyLaws.{any_reverse}
use Rattle.commits.specs.ExecuteCode.{plan_read}
use Rattle.commits.proofs.ReadLaws.{read_plan}
use Rattle.store.specs.declared.state.State.{State}
use Rattle.store.specs.State.{contents_at, goods, limit_of, node_from, nodes_of, paged, plan_at, present_of, units_of}

-- ---- a plan without a page does nothing
pub paged_some : (q : Plan) → is_empty q.written ≡ false → paged q ≡ q
paged_some q e = rw e

pub paged_none : (q : Plan) → is_empty q.written ≡ true → paged q ≡ stuck
paged_none q e = rw e

pub paged_empty : (q : Plan) → is_empty (paged q).written ≡ is_empty q.written
paged_empty q = cases (is_empty q.written) (λ t. rw t) (λ t. ap (λ (p : Plan). is_empty p.written) (paged_some q t))

pub paged_is : (q : Plan) → (q ≡ stuck) ⊎ (is_empty q.written ≡ false) → paged q ≡ q
paged_is q h = ⊎_elim (λ e. ap paged e ∙ sym e) (λ e. paged_some q e) h

-- ---- the updates of a node among the units that are decoded
own_goods : (n : ℕ) (ds : List (Option Unit)) → own_of n ds ≡ own n (goods ds)
own_goods n [] = refl
own_goods n (Some u ∷ ds) = cases (eqb u.node n) (λ t. rw (t, own_goods n ds)) (λ t. rw (t, own_goods n ds))
own_goods n (None ∷ ds) = own_goods n ds

module _ (g : Geometry) (s : State) (i : List ℕ) where
  -- what the definitions have of the nodes
  nodes_size : length (nodes_of g s i) ≡ limit_of s
  unfolding nodes_of
  nodes_size = length_tab (node_from g s i) 0 (limit_of s)

  node_is : (n : ℕ) → n < limit_of s → node_at (nodes_of g s i) n ≡ node_from g s i n
  unfolding nodes_of
  node_is n l = get_d_tab (node_from g s i) 0 (limit_of s) n fresh l ∙ ap (node_from g s i) (let e : 0 + n ≡ n = omega arith in e)

  list_is : (n : ℕ) → n < limit_of s → (node_at (nodes_of g s i) n).pages ≡ reverse (stored_list s.lens s.slots n)
  list_is n l = ap (λ (x : Node). x.pages) (node_is n l)

  view_is : (n : ℕ) → n < limit_of s
      → node_view g (limit_of s) (pages_of g i) s.lens s.slots s.count s.buffer n ≡ get_or (present_of g s i) n untouched
  unfolding present_of shown
  view_is n l =
      let f = node_view g (limit_of s) (pages_of g i) s.lens s.slots s.count s.buffer in
      sym (get_d_tab f 0 (limit_of s) n untouched l ∙ ap f (let e : 0 + n ≡ n = omega arith in e))

  -- are what the code reads
  contents_are : SameContents (limit_of s) (contents_in g (limit_of s) (pages_of g i) s.lens s.slots s.count s.buffer) (contents_at g s i)
  unfolding units_of
  contents_are =
      record {
        after = view_is;
        buffered = λ n l. own_goods n (decodes (limit_of s) s.count s.buffer);
        listed = λ n l.
            let xs = stored_list s.lens s.slots n in
            record {
              size = sym (ap length (list_is n l) ∙ length-reverse xs);
              blocks = λ ok b. sym (ap (any (in_block ok b)) (list_is n l) ∙ any_reverse (in_block ok b) xs);
            };
      }

  -- the plan that the code reads
  abbrev pub read : Plan
  read = plan_read g (limit_of s) s.blocks s.lens s.slots s.count s.buffer s.commit (pages_of g i)

  pub plan_is : s.count ≤ 960 → plan_at g s i ≡ paged read
  unfolding plan_at
  plan_is h =
      rw (le-leb s.count 960 h)
      (ap paged (sym (read_plan g (limit_of s) s.blocks s.lens s.slots s.count s.buffer s.commit (pages_of g i) (nodes_of g s i) nodes_size
      (λ n l. sym (ap reverse (list_is n l) ∙ reverse-reverse (stored_list s.lens s.slots n))) (contents_at g s i) contents_are)))

  -- and nothing where the buffer claims too many units
  pub plan_none : 960 < s.count → plan_at g s i ≡ stuck
  unfolding plan_at
  plan_none h = rw (lt-leb s.count 960 h)
