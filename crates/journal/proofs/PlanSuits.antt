-- What a commit writes of each node, anew or in its own units: valid updates that show the view after the buffer. Assumes nothing.
use mathlib.Core.Path.{◌≡◌, refl, sym, ap, ◌∙◌}
use mathlib.Core.Bool.{false, ◌||◌}
use mathlib.Core.List.{List, [], ◌∷◌, map, foldl}
use Prim.Native.Nat.{ℕ, ◌≤◌, ◌<◌}
use native.Mathlib.Omega.{arith}
use lib.Dec.{leb}
use lib.ListN.{length}
use borrow.Author.Tests.{leb-false}
use Rattle.lists.specs.Lists.{All, any, none}
use Rattle.lists.proofs.Alls.{any_false}
use Rattle.lists.proofs.Tests.{neither_left, neither_right}
use Rattle.pages.specs.declared.unit.Unit as U
use Rattle.pages.specs.declared.unit.Update.{Update}
use Rattle.pages.specs.declared.unit.Update.TheVariants.{Reset}
use Rattle.pages.specs.Units.{Valid, ValidUpdate}
use Rattle.views.specs.Nodes.{View, apply, inserted}
use Rattle.views.specs.Table.{Node}
use Rattle.views.specs.Groups.{is_reset, own, present}
use Rattle.views.proofs.Entries.{rebuilt}
use Rattle.views.proofs.Groups.{Short, alone, joined}
use Rattle.journal.specs.Plan.{rewrite}
use Rattle.journal.proofs.PlanNodes.{Fair, nothing, released, some, cons_some, untouched_own, own_valid, valid_rewrite}

-- ---- what is owed for node n where f n is written of it
pub record Suits (T : ℕ → Node) (us : List U.Unit) (f : ℕ → List Update) (n : ℕ) : Type 0 where
  pub now : foldl apply (T n).now (f n) ≡ present n (T n).now us
  pub covers : f n ≡ [] → own n us ≡ []
  pub valid : All ValidUpdate (f n)
  pub short : (p : ℕ) → 0 < length (f n) → Short (T n) (record { place = p; node = n; updates = f n })

module _ (T : ℕ → Node) (us : List U.Unit) (n : ℕ) (f : ℕ → List Update) where
  -- a reset first, and the view after the buffer
  suits_reset : (l : ℕ) (vs : List Update) → f n ≡ Reset l ∷ vs → foldl apply (T n).now (Reset l ∷ vs) ≡ present n (T n).now us → All ValidUpdate (Reset l ∷ vs)
      → Suits T us f n
  suits_reset l vs q i w = record {
    now = ap (foldl apply (T n).now) q ∙ i;
    covers = λ z. cons_some (Reset l) vs (sym q ∙ z);
    valid = rw q w;
    short = λ p m. alone (rw q);
  }

  suits_view : (v : View) → v ≡ present n (T n).now us → Fair v → f n ≡ rewrite v → Suits T us f n
  suits_view v i nothing q =
      let o : own n us ≡ [] = untouched_own (own n us) (T n).now (sym i) in
      record {
        now = ap (foldl apply (T n).now) (q ∙ sym o);
        covers = λ z. o;
        valid = rw q none;
        short = λ p l. absurd (omega (arith, ap length q));
      }
  suits_view v i (released a) q = suits_reset 255 [] q i (valid_rewrite (released a))
  suits_view v i (some {l = l} {es = es} a b c d) q =
      suits_reset l (map inserted es) q (rebuilt (T n).now l es (λ e. omega arith) b c ∙ i) (valid_rewrite (some a b c d))

  -- the node anew
  pub suits_anew : Fair (present n (T n).now us) → f n ≡ rewrite (present n (T n).now us) → Suits T us f n
  suits_anew fair e = suits_view (present n (T n).now us) refl fair e

  short_own : (os : List Update) → f n ≡ os → any is_reset os ≡ false → length (T n).pages ≤ 3
      → (p : ℕ) → 0 < length (f n) → Short (T n) (record { place = p; node = n; updates = f n })
  short_own [] e r k p l = absurd (omega (arith, ap length e))
  short_own (u ∷ os) e r k p l = joined u os e (any_false is_reset (u ∷ os) r) k

  -- its own units, without a reset and on a list that is not full
  pub suits_own : {limit : ℕ} → All (Valid limit) us → f n ≡ own n us → (0 < length (own n us) → (any is_reset (own n us) || leb 4 (length (T n).pages)) ≡ false) → Suits T us f n
  suits_own {limit} valids e r =
      record {
        now = ap (foldl apply (T n).now) e;
        covers = λ z. sym e ∙ z;
        valid = rw e (own_valid limit n valids);
        short = λ p l.
            let d = r (rw e at l) in
            let k : length (T n).pages ≤ 3 = omega (arith, leb-false 4 (length (T n).pages) (neither_right (any is_reset (own n us)) (leb 4 (length (T n).pages)) d)) in
            short_own (own n us) e (neither_left (any is_reset (own n us)) (leb 4 (length (T n).pages)) d) k p l;
      }
