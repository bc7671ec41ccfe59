-- What a line read orders.
use Rattle.std.specs.Prelude.{◌≡◌, Option, List, ℕ}
use Rattle.frames.specs.declared.line.Line.{Line}
use Rattle.frames.specs.LineCode.{LineHolds}
use Rattle.orders.specs.declared.order.Order.{Order}
use Rattle.orders.specs.Orders.{order_of}

-- r is the order of whatever the line holds
unfoldable pub Orders : Line → Option Order → Type 0
Orders l r = (bs : List ℕ) → LineHolds l bs → r ≡ order_of bs
