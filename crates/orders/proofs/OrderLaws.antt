-- The order of a line by its numbers. Assumes nothing.
use mathlib.Core.Path.{◌≡◌, sym, ap, ◌∙◌}
use mathlib.Core.List.{List}
use Prim.Native.Nat.{ℕ, ◌≤◌, ◌<◌}
use native.Mathlib.Omega.{arith}
use lib.Dec.{eqb}
use lib.ListN.{length, take}
use Rattle.std.specs.Prelude.{Option, None, option_and_then}
use Rattle.lists.proofs.Tests.{cases}
use Rattle.frames.specs.declared.line.Line.{Line}
use Rattle.frames.specs.Frames.{all_digits, fields_of}
use Rattle.frames.proofs.FrameLaws.{long}
use Rattle.frames.proofs.LineLaws.{full}
use Rattle.orders.specs.declared.order.Order.{Order}
use Rattle.orders.specs.Orders.{ordered, order_of}
use Rattle.orders.specs.OrderCode.{Orders}

order_by_fields : (bs : List ℕ) → order_of bs ≡ option_and_then ordered (fields_of bs)
unfolding order_of fields_of
order_by_fields bs =
    cases (all_digits bs)
    (λ d. cases (eqb (length bs) 2) (λ e. simp (d, e))
    (λ a. cases (eqb (length bs) 4) (λ e. simp (d, a, e))
    (λ b. cases (eqb (length bs) 10) (λ e. simp (d, a, b, e))
    (λ g. cases (eqb (length bs) 12) (λ e. simp (d, a, b, g, e))
    (λ h. cases (eqb (length bs) 18) (λ e. simp (d, a, b, g, h, e)) (λ i. simp (d, a, b, g, h, i)))))))
    (λ d. simp d)

pub too_long : (l : Line) → 18 < l.len → Orders l None
unfolding Orders
too_long l h bs k = ap (option_and_then ordered) (long bs (omega (arith, k.len))) ∙ sym (order_by_fields bs)

pub in_full : (l : Line) (s : List ℕ) (r : Option Order) → (l.len ≤ 18) × (s ≡ take l.len l.bytes) → r ≡ option_and_then ordered (fields_of s) → Orders l r
unfolding Orders
in_full l s r h e bs k =
    e ∙ ap (λ (x : List ℕ). option_and_then ordered (fields_of x)) (full l s h.0 h.1 bs k) ∙ sym (order_by_fields bs)
