-- The state after updates are pushed into the buffer: good again, and it means the tree that they make. Assumes nothing.
use mathlib.Core.Path.{◌≡◌, refl, sym, ap, ap₂, subst, ◌∙◌}
use mathlib.Core.Bool.{false}
use mathlib.Core.List.{List, [], ◌∷◌, ◌++◌, map}
use Prim.Native.Nat.{ℕ, ◌<◌}
use native.Mathlib.Numerals.{add-one}
use native.Mathlib.Omega.{arith}
use lib.ListN.{length, length-append, length-map}
use Rattle.lists.specs.Lists.{All}
use Rattle.lists.proofs.Alls.{All-append}
use Rattle.chip.specs.Geometry.{Geometry}
use Rattle.pages.specs.declared.unit.Unit as U
use Rattle.std.proofs.Common.{Some}
use Rattle.pages.specs.Units.{decodes, Valid}
use Rattle.views.specs.Nodes.{Entry}
use Rattle.views.proofs.TableLaws.{length_decodes}
use Rattle.tree.specs.Tree.{Table, entries_at}
use Rattle.tree.specs.Step6.{top, Tree}
use Rattle.tree.specs.Thick.{thin}
use Rattle.tree.specs.Free.{free_numbers}
use Rattle.tree.specs.UpdateCode.{Stepped}
use Rattle.promise.specs.Plain.{updated}
use Rattle.promise.specs.Calls.{tree_in, state_of}
use Rattle.promise.specs.Image.{image_meaning}
use Rattle.store.specs.declared.state.State.{State}
use Rattle.store.specs.State.{limit_of, nodes_of, goods, units_of, present_of, Good, geometry_in}
use Rattle.store.specs.Ensured.{index}
use Rattle.store.specs.UpdateCode.{Stays, with_units}
use Rattle.store.proofs.Wholes.{Whole}

-- keys and values of 32 bits
abbrev Words : Table → Type 0
Words t = (n : ℕ) → All (λ (e : Entry). (e.key < top) × (e.value < top)) (entries_at t n)

-- ---- the units of a buffer
goods_good : (us : List U.Unit) → goods (map Some us) ≡ us
goods_good [] = refl
goods_good (u ∷ us) = rw (goods_good us)

pub units_many : (limit n : ℕ) (b : List ℕ) (us : List U.Unit) → decodes limit n b ≡ map Some us → n ≡ length us
units_many limit n b us e = sym (length_decodes limit n b) ∙ ap length e ∙ length-map us Some

-- ---- the state after an update
-- us behind the units of the buffer make the table t
pub record Pushed (g : Geometry) (s : State) (i new : List ℕ) (used : ℕ) (free : List ℕ) (us : List U.Unit) (t : Table) : Type 0 where
  pub stepped : Stepped g i s.lens s.slots (limit_of s) s.count (units_of s) us t new free used
  pub valid : All (Valid (limit_of s)) us
  pub some : 0 < length us
  pub tree : Tree t
  pub words : Words t
  pub whole : Whole t
  pub thick : thin t ≡ false

module _ (s : State) (i : List ℕ) (G : Good (geometry_in s) s i) (low : s.pending < 16) where
  abbrev g : Geometry
  g = geometry_in s

  module _ (new : List ℕ) (used : ℕ) (free : List ℕ) (us : List U.Unit) (t : Table) (p : Pushed g s i new used free us t) where
    table_after_lem : present_of g (with_units s new used free) i ≡ t
    unfolding present_of
    table_after_lem = p.stepped.table

    units_after : units_of (with_units s new used free) ≡ units_of s ++ us
    unfolding units_of
    units_after = ap goods p.stepped.units ∙ goods_good (goods (decodes (limit_of s) s.count s.buffer) ++ us)

    good_after : Good g (with_units s new used free) i
    unfolding nodes_of
    good_after =
        record {
          blocks = G.blocks;
          chip = G.chip;
          short = G.short;
          means = G.means;
          clean = G.clean;
          kept = G.kept;
          units = p.stepped.units ∙ ap (map Some) (sym units_after);
          valid = subst (All (Valid (limit_of s))) (sym units_after) (All-append G.valid p.valid);
          few = omega (arith, G.few, p.stepped.few);
          some = λ _. omega (arith, units_many (limit_of s) used new (units_of s ++ us) p.stepped.units, length-append (units_of s) us, p.some);
          pending = omega (arith, low);
          tree = subst Tree (sym table_after_lem) p.tree;
          words = subst Words (sym table_after_lem) p.words;
          whole = subst Whole (sym table_after_lem) p.whole;
          thick = ap thin table_after_lem ∙ p.thick;
          free = p.stepped.numbers ∙ ap free_numbers (sym table_after_lem);
          past = G.past;
        }

    means_after : state_of index (with_units s new used free) i ≡ updated t (state_of index s i)
    unfolding state_of updated
    means_after =
        ap₂ (λ (q : Table) (n : ℕ). record {
          kept = tree_in (image_meaning g i);
          present = q;
          pending = n;
          number = s.commit;
          on = s.on;
          nand = s.nand;
          blocks = s.blocks;
        })
        table_after_lem (add-one s.pending)

    pub stays : Stays (with_units s new used free) i (updated t (state_of index s i))
    stays = record { is = means_after; good = good_after }
