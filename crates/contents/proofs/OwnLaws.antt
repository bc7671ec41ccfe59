-- The units of a node among those of the buffer: one unit, and the units from one on. Assumes nothing.
use mathlib.Core.Path.{◌≡◌, refl, sym, ap, ◌∙◌}
use mathlib.Core.List.{List, [], ◌∷◌, ◌++◌, append_assoc, map}
use Prim.Native.Nat.{ℕ, suc, ◌+◌, ◌*◌, ◌-◌, ◌<◌, ◌≤◌}
use native.Mathlib.Omega.{arith}
use lib.Dec.{eqb}
use lib.ListN.{drop, get_or, get_or-append, length, length-append, length-drop, take, take-append-drop}
use lib.Seq.{drop_at, drop-append-le, drop-drop, length-take-le}
use borrow.Author.Tests.{eq-eqb, ne_eqb, eqb-true}
use Rattle.std.proofs.lemmas.Option.{none-some, same_Some}
use Rattle.lists.proofs.Tests.{cases}
use Rattle.chip.specs.Geometry.{Geometry}
use Rattle.chip.specs.Page.{Page}
use Rattle.pages.specs.declared.unit.Update.{Update}
use Rattle.pages.specs.declared.unit.Unit as U
use Rattle.std.proofs.Common.{Option, Some, None}
use Rattle.pages.specs.Units.{decode, decodes, half}
use Rattle.pages.proofs.UnitLaws.{told}
use Rattle.views.specs.Nodes.{View}
use Rattle.views.specs.Groups.{own, present}
use Rattle.views.specs.Stored.{list_view, node_view, stored_list}
use Rattle.views.proofs.NodeViews.{buffer_good}
use Rattle.contents.specs.ContentsCode.{own_in, own_of, picked, with_update}

-- ---- one unit
picked_same : (n : ℕ) (d : Option U.Unit) → ((u : U.Unit) → d ≡ Some u → u.node ≡ n) → d ≡ picked n d
picked_same n (Some u) h = rw (eq-eqb u.node n (h u refl))
picked_same n None h = refl

picked_none : (n : ℕ) (d : Option U.Unit) → ((u : U.Unit) → d ≡ Some u → u.node ≡ n → ⊥) → None ≡ picked n d
picked_none n (Some u) h = rw (ne_eqb u.node n (h u refl))
picked_none n None h = refl

-- a unit of the node, and of another
pub own_here : (limit n h : ℕ) (b : List ℕ) (r : Option U.Unit) → h ≡ half b 2 → h ≡ n → r ≡ decode limit b → r ≡ picked n (decode limit b)
own_here limit n h b r q e d = d ∙ picked_same n (decode limit b) (λ u z. (told limit b u z).node ∙ sym q ∙ e)

pub own_other : (limit n h : ℕ) (b : List ℕ) → h ≡ half b 2 → (h ≡ n → ⊥) → None ≡ picked n (decode limit b)
own_other limit n h b q k = picked_none n (decode limit b) (λ u z e. k (q ∙ sym (told limit b u z).node ∙ e))

-- a picked unit is one of the node
pub picked_node : (n : ℕ) (d : Option U.Unit) (u : U.Unit) → Some u ≡ picked n d → u.node ≡ n
picked_node n None u e = absurd (none-some u (sym e))
picked_node n (Some w) u e =
    cases (eqb w.node n)
    (λ t. let k : Some u ≡ Some w = (rw t at e) in ap (λ (x : U.Unit). x.node) (same_Some u w k) ∙ eqb-true w.node n t)
    (λ t. let k : ◌≡◌ {A = Option U.Unit} (Some u) None = (rw t at e) in absurd (none-some u (sym k)))

-- ---- the first count units, 12 bytes after 12 bytes
-- 12 bytes are read whatever stands behind them
decode_own : (limit : ℕ) (x y : List ℕ) → length x ≡ 12 → decode limit x ≡ decode limit (x ++ y)
unfolding decode
decode_own limit x y h =
    let at : (i : ℕ) → i < 12 → get_or (x ++ y) i 0 ≡ get_or x i 0 = λ i k. get_or-append x y 0 i (omega arith) in
    rw (
      at 0 (omega arith),
      at 1 (omega arith),
      at 2 (omega arith),
      at 3 (omega arith),
      at 4 (omega arith),
      at 5 (omega arith),
      at 6 (omega arith),
      at 7 (omega arith),
      at 8 (omega arith),
      at 9 (omega arith),
      at 10 (omega arith),
      at 11 (omega arith),
    )

-- unit i of p, and the bytes behind it
pub record NextUnit (limit count : ℕ) (p : List ℕ) (i : ℕ) (unit behind : List ℕ) : Type 0 where
  pub below : i < count
  pub same : decode limit unit ≡ decode limit (drop (12 * i) p)
  pub rest : behind ≡ drop (12 * (i + 1)) (take (12 * count) p)

module _ (limit count : ℕ) (p : List ℕ) (fits : 12 * count ≤ length p) (i : ℕ) where
  abbrev units : List ℕ
  units = take (12 * count) p

  long : length (drop (12 * i) units) ≡ 12 * count - 12 * i
  long = length-drop (12 * i) units ∙ ap (λ (n : ℕ). n - 12 * i) (length-take-le (12 * count) p fits)

  pub next_unit : (unit rest : List ℕ) → drop (12 * i) units ≡ unit ++ rest → length unit ≡ 12 → NextUnit limit count p i unit rest
  next_unit unit rest e l =
      let b : i < count = omega (arith, long, ap length e ∙ length-append unit rest) in
      let a : 12 * (i + 1) ≡ 12 * i + 12 = omega arith in
      let more : List ℕ = drop (12 * count) p in
      let w : drop (12 * i) p ≡ unit ++ (rest ++ more) =
      ap (drop (12 * i)) (sym (take-append-drop (12 * count) p))
      ∙ drop-append-le (12 * i) units more (omega (arith, length-take-le (12 * count) p fits))
      ∙ ap (λ (xs : List ℕ). xs ++ more) e ∙ append_assoc unit rest more in
      record {
        below = b;
        same = decode_own limit unit (rest ++ more) l ∙ ap (decode limit) (sym w);
        rest = sym (ap (λ (m : ℕ). drop m units) a ∙ sym (drop-drop 12 (12 * i) units) ∙ ap (drop 12) e ∙ drop_at unit rest 12 l);
      }

  -- no unit is left
  pub last_unit : length (drop (12 * i) units) < 12 → count ≤ i
  last_unit h = omega (arith, long)

-- ---- the updates of node n among the units from unit i on
module _ (limit n count : ℕ) (p : List ℕ) where
  abbrev pub own_from_lem : ℕ → List Update
  own_from_lem i = own_of n (decodes limit (count - i) (drop (12 * i) p))

  pub own_start : own_from_lem 0 ≡ own_in limit n count p
  own_start = let e : count - 0 ≡ count = omega arith in rw e

  pub own_next : (i : ℕ) → i < count → own_from_lem i ≡ with_update (picked n (decode limit (drop (12 * i) p))) (own_from_lem (i + 1))
  own_next i h =
      let k : count - i ≡ suc (count - (i + 1)) = omega arith in
      let a : 12 * (i + 1) ≡ 12 * i + 12 = omega arith in
      ap (λ (m : ℕ). own_of n (decodes limit m (drop (12 * i) p))) k
      ∙ ap (λ (c : List ℕ). with_update (picked n (decode limit (drop (12 * i) p))) (own_of n (decodes limit (count - (i + 1)) c)))
      (drop-drop 12 (12 * i) p ∙ ap (λ (m : ℕ). drop m p) (sym a))

  pub own_end : (i : ℕ) → count ≤ i → own_from_lem i ≡ []
  own_end i h = let e : count - i ≡ 0 = omega arith in rw e

-- ---- a buffer of units
own_good : (n : ℕ) (us : List U.Unit) → own_of n (map Some us) ≡ own n us
own_good n [] = refl
own_good n (u ∷ us) = cases (eqb u.node n) (λ t. rw t (ap (λ (os : List Update). u.update ∷ os) (own_good n us))) (λ t. rw t (own_good n us))

module _ (limit n count : ℕ) (bytes : List ℕ) (us : List U.Unit) (units : decodes limit count bytes ≡ map Some us) where
  -- the updates of a node are its own units
  pub own_is : own_in limit n count bytes ≡ own n us
  own_is = ap (own_of n) units ∙ own_good n us

  -- the view after the buffer
  pub after_is : (g : Geometry) (ps : List Page) (lens slots : List ℕ) (w : View) → count ≤ 960 → list_view g limit ps n (stored_list lens slots n) ≡ w
      → node_view g limit ps lens slots count bytes n ≡ present n w us
  after_is g ps lens slots w fits e =
      buffer_good limit n count bytes (list_view g limit ps n (stored_list lens slots n)) us fits units ∙ ap (λ (v : View). present n v us) e
