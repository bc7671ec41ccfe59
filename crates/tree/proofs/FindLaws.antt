-- The table that a state shows, node by node, and the turns of the loops that find a key. Assumes nothing.
use mathlib.Core.Path.{◌≡◌, refl, sym, ap, ap₂, ◌∙◌}
use mathlib.Core.Logic.{⊎_elim}
use mathlib.Core.List.{List}
use Prim.Native.Nat.{ℕ, zero, suc, ◌+◌, ◌<◌, ◌≤◌}
use native.Mathlib.Numerals.{add-one}
use native.Mathlib.Omega.{arith}
use lib.Dec.{leb}
use lib.ListN.{length, get_or}
use lib.Seq.{slice-cons, slice_empty}
use borrow.Author.Tests.{eq-eqb, ne_eqb, le-leb, lt-leb}
use Rattle.lists.specs.Lists.{tab}
use Rattle.lists.proofs.Tests.{cases, below_or_not}
use Rattle.lists.proofs.Flats.{length_tab}
use Rattle.chip.specs.Geometry.{Geometry}
use Rattle.chip.specs.Page.{Page}
use Rattle.pages.specs.declared.unit.Update.TheVariants.{Insert, Delete}
use Rattle.views.specs.Nodes.{Entry, View, untouched, freed, broken, view, insert_entry, within, apply}
use Rattle.views.specs.declared.node.Node.{Node}
use Rattle.views.specs.NodeCode as C
use Rattle.views.specs.declared.view.Reading.{Reading}
use Rattle.views.specs.FoldCode.{view_of}
use Rattle.views.specs.ReadCode.{ReadNode}
use Rattle.views.specs.Stored.{length_of, node_view}
use Rattle.views.proofs.NodeViews.{view_keeps}
use Rattle.tree.proofs.Step6.{at_length}
use Rattle.tree.specs.Tree.{level_of, entries_of, Table, at, entries_at, root_level, Found, lookup, below, child, path_at, path, find_at, find}
use Rattle.tree.specs.Shown.{shown, pages_read}
use Rattle.tree.specs.FindCode.{entries_from, hit_of, ShowsView, ShowsRead, Finds, Answers}
use Rattle.tree.specs.declared.find.NodeRead.{NodeRead}
use Rattle.std.specs.Prelude.{Option}
use Rattle.tree.specs.declared.find.Looked.{Looked}

-- ---- a table made node by node
pub at_tab : (f : ℕ → View) (k m n : ℕ) → n < m → at (tab k m f) n ≡ f (k + n)
at_tab f k zero n h = absurd (omega arith)
at_tab f k (suc m) zero h = ap f (let e : k ≡ k + 0 = omega arith in e)
at_tab f k (suc m) (suc n) h = at_tab f (suc k) m n (omega arith) ∙ ap f (let e : suc k + n ≡ k + suc n = omega arith in e)

-- ---- what every update keeps of a view
-- untouched or broken
abbrev Blank : View → Type 0
Blank untouched = Unit {0}
Blank freed = ⊥
Blank broken = Unit {0}
Blank (view l es) = ⊥

-- past limit there is no node, whatever the pages and the buffer hold
past_limit : (g : Geometry) (limit : ℕ) (pages : List Page) (lens slots : List ℕ) (count : ℕ) (bytes : List ℕ) (n : ℕ) → limit ≤ n
    → Blank (node_view g limit pages lens slots count bytes n)
past_limit g limit pages lens slots count bytes n h =
    view_keeps limit n Blank tt tt (λ w k v q e. absurd (omega arith)) (λ w k q e. absurd (omega arith))
    (λ l q e. absurd (omega arith)) (λ q e. absurd (omega arith)) g pages lens slots count bytes

-- ---- a level is at most 3
within_low : (l : ℕ) (es : List Entry) → l ≤ 3 → level_of (within l es) ≤ 3
within_low l es h = cases (leb (length es) 16) (λ e. rw e h) (λ e. rw e (omega arith))

insert_low : (k v : ℕ) (w : View) → level_of w ≤ 3 → level_of (apply w (Insert k v)) ≤ 3
insert_low k v untouched h = omega arith
insert_low k v broken h = omega arith
insert_low k v freed h = omega arith
insert_low k v (view l es) h = within_low l (insert_entry k v es) h

delete_low : (k : ℕ) (w : View) → level_of w ≤ 3 → level_of (apply w (Delete k)) ≤ 3
delete_low k untouched h = omega arith
delete_low k broken h = omega arith
delete_low k freed h = omega arith
delete_low k (view l es) h = h

-- ---- the table that a state shows
blank_none : {X : Type 0} (f : View → X) → f untouched ≡ f broken → (w : View) → Blank w → f untouched ≡ f w
blank_none f e untouched h = refl
blank_none f e freed h = absurd h
blank_none f e broken h = e
blank_none f e (view l es) h = absurd h

module _ (g : Geometry) (limit : ℕ) (pages : List Page) (lens slots : List ℕ) (count : ℕ) (bytes : List ℕ) where
  pub level_low : (n : ℕ) → level_of (node_view g limit pages lens slots count bytes n) ≤ 3
  level_low n =
      view_keeps limit n (λ w. level_of w ≤ 3) (omega arith) (omega arith) (λ w k v q h. insert_low k v w h) (λ w k q h. delete_low k w h)
      (λ l q h. h) (λ q e. omega arith) g pages lens slots count bytes

  -- what does not tell a broken view from an untouched one is the same of the table and of the views, for every number
  pub shown_same : {X : Type 0} (f : View → X) → f untouched ≡ f broken → (n : ℕ)
      → f (at (shown g limit pages lens slots count bytes) n) ≡ f (node_view g limit pages lens slots count bytes n)
  unfolding shown
  shown_same f e n =
      let v = node_view g limit pages lens slots count bytes in
      ⊎_elim
      (λ (h : n < limit). ap f (at_tab v 0 limit n h ∙ ap v (let z : 0 + n ≡ n = omega arith in z)))
      (λ (h : limit ≤ n).
      ap f (at_length (tab 0 limit v) n (omega (arith, length_tab v 0 limit)))
      ∙ blank_none f e (v n) (past_limit g limit pages lens slots count bytes n h))
      (below_or_not n limit)

  pub entries_shown : (n : ℕ) → entries_at (shown g limit pages lens slots count bytes) n ≡ entries_of (node_view g limit pages lens slots count bytes n)
  entries_shown n = shown_same entries_of refl n

  pub level_shown : (n : ℕ) → level_of (at (shown g limit pages lens slots count bytes) n) ≡ level_of (node_view g limit pages lens slots count bytes n)
  level_shown n = shown_same level_of refl n

  pub root_low : root_level (shown g limit pages lens slots count bytes) ≤ 3
  root_low = rw (level_shown 0) (level_low 0)

-- ---- the loops over a node's entries
module _ (k f n i : ℕ) (ks vs : List ℕ) (h : i < n) (lk : n ≤ length ks) (lv : n ≤ length vs) where
  pub below_pass : get_or ks i 0 ≤ k → below k (get_or vs i 0) (entries_from n (i + 1) ks vs) ≡ below k f (entries_from n i ks vs)
  below_pass q = rw (slice-cons i n ks 0 h lk, slice-cons i n vs 0 h lv, le-leb (get_or ks i 0) k q, add-one)

  pub below_stop : k < get_or ks i 0 → below k f (entries_from n i ks vs) ≡ f
  below_stop q = rw (slice-cons i n ks 0 h lk, slice-cons i n vs 0 h lv, lt-leb (get_or ks i 0) k q)

pub below_end : (k f n : ℕ) (ks vs : List ℕ) → below k f (entries_from n n ks vs) ≡ f
below_end k f n ks vs = rw (slice_empty n ks)

module _ (k n i : ℕ) (ks vs : List ℕ) (h : i < n) (lk : n ≤ length ks) (lv : n ≤ length vs) where
  pub lookup_pass : (get_or ks i 0 ≡ k → ⊥) → lookup k (entries_from n (i + 1) ks vs) ≡ lookup k (entries_from n i ks vs)
  lookup_pass q = rw (slice-cons i n ks 0 h lk, slice-cons i n vs 0 h lv, ne_eqb (get_or ks i 0) k q, add-one)

  pub lookup_hit : get_or ks i 0 ≡ k → lookup k (entries_from n i ks vs) ≡ Found.found (get_or vs i 0)
  lookup_hit q = rw (slice-cons i n ks 0 h lk, slice-cons i n vs 0 h lv, eq-eqb (get_or ks i 0) k q)

pub lookup_end : (k n : ℕ) (ks vs : List ℕ) → lookup k (entries_from n n ks vs) ≡ Found.absent
lookup_end k n ks vs = rw (slice_empty n ks)

-- ---- a node that is read shows what the table holds
pub holds_shown : (g : Geometry) (limit : ℕ) (pages : List Page) (lens slots : List ℕ) (count : ℕ) (bytes : List ℕ) (n : ℕ) (w : View) (r : Node)
    → w ≡ node_view g limit pages lens slots count bytes n → ShowsView w r → ShowsView (at (shown g limit pages lens slots count bytes) n) r
holds_shown g limit pages lens slots count bytes n w r e h =
    record {
      level = h.level ∙ ap level_of e ∙ sym (level_shown g limit pages lens slots count bytes n);
      entries = h.entries ∙ ap entries_of e ∙ sym (entries_shown g limit pages lens slots count bytes n);
      len = h.len;
      room = h.room;
    }

-- the same with its length on flash
pub reads_shown : (g : Geometry) (limit : ℕ) (pages : List Page) (lens slots : List ℕ) (count : ℕ) (bytes : List ℕ) (n : ℕ) (w : View) (q : Reading) (r : Node)
    → ReadNode g limit pages lens slots count bytes n q → view_of q.folded ≡ w → ShowsView w r
    → ShowsRead (at (shown g limit pages lens slots count bytes) n) (length_of g limit pages lens slots n) (record { node = r; pages = q.pages })
reads_shown g limit pages lens slots count bytes n w q r h e s =
    record { node = holds_shown g limit pages lens slots count bytes n w r (sym e ∙ h.view.is) s; length = h.length; few = h.few }

-- ---- the way down, at node n of the table, which x shows; f are the lengths of the nodes on flash
module _ (f : ℕ → ℕ) (n k : ℕ) (t : Table) (x : NodeRead) (hx : ShowsRead (at t n) (f n) x) where
  -- at the leaf
  pub at_leaf : (l : ℕ) (h : Option ℕ) → l ≡ 0 → hit_of h ≡ lookup k (C.entries_of x.node) → Finds f l n k t (record { hit = h; pages = x.pages })
  at_leaf l h z e =
      rw z
      (record {
        found = e ∙ ap (lookup k) hx.node.entries;
        pages = hx.length ∙ (let s : f n ≡ f n + 0 = omega arith in s);
        few = omega (arith, hx.few);
      })

  -- above it
  pub at_branch : (l m c : ℕ) (r : Looked) → l ≡ suc m → c ≡ below k 0 (C.entries_of x.node) → Finds f m c k t r
      → Finds f l n k t (record { hit = r.hit; pages = x.pages + r.pages })
  at_branch l m c r z e g =
      let d : c ≡ child t n k = e ∙ ap (below k 0) hx.node.entries in
      rw z
      (record {
        found = g.found ∙ ap (λ (j : ℕ). find_at m j k t) d;
        pages = ap₂ ◌+◌ hx.length (g.pages ∙ ap (λ (j : ℕ). pages_read f (path_at m j k t)) d);
        few = omega (arith, g.few, hx.few);
      })

-- from the root
pub from_root : (f : ℕ → ℕ) (k : ℕ) (t : Table) (l : ℕ) (r : Looked) → l ≡ root_level t → root_level t ≤ 3 → Finds f l 0 k t r → Answers f k t r
unfolding find path
from_root f k t l r e h g =
    record {
      found = g.found ∙ ap (λ (j : ℕ). find_at j 0 k t) e;
      pages = g.pages ∙ ap (λ (j : ℕ). pages_read f (path_at j 0 k t)) e;
      few = omega (arith, g.few);
    }
