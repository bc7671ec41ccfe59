-- Examples of orders, sums and noise, by computation. Assumes nothing.
use mathlib.Core.Path.{◌≡◌, refl}
use mathlib.Core.List.{List, [], ◌∷◌, ◌++◌}
use Prim.Native.Nat.{ℕ}
use lib.ListN.{replicate}
use Rattle.std.specs.Prelude.{Some, None}
use Rattle.chip.specs.declared.geometry.Nand.TheVariants.{Small, Large}
use Rattle.orders.specs.declared.order.Call.TheVariants.{Format, Insert, Show, Forecast}
use Rattle.orders.specs.declared.order.Setting.TheVariants.{Lend, SetImage, Sum, Noise, Name}
use Rattle.orders.specs.declared.order.Order.TheVariants.{Calls, Sets}
use Rattle.orders.specs.Orders.{order_of}
use Rattle.orders.specs.Sums.{byte_step, sum_of}
use Rattle.orders.specs.Noises.{noise_of}

-- n zeros
abbrev zeros : ℕ → List ℕ
zeros n = replicate n 48

-- 0000000001, 010000000700000063, 0700000005, 09, 1000000005, 12000000079A, 15, 1600000001, 1700, 1701
orders :
    (order_of (48 ∷ 48 ∷ zeros 7 ++ (49 ∷ [])) ≡ Some (Calls (Format 1)))
    × (order_of (48 ∷ 49 ∷ zeros 7 ++ (55 ∷ zeros 6 ++ (54 ∷ 51 ∷ []))) ≡ Some (Calls (Insert 7 99)))
    × (order_of (48 ∷ 55 ∷ zeros 7 ++ (53 ∷ [])) ≡ Some (Calls (Show 5)))
    × (order_of (48 ∷ 57 ∷ []) ≡ Some (Calls Forecast))
    × (order_of (49 ∷ 48 ∷ zeros 7 ++ (53 ∷ [])) ≡ Some (Sets (Lend 5)))
    × (order_of (49 ∷ 50 ∷ zeros 7 ++ (55 ∷ 57 ∷ 65 ∷ [])) ≡ Some (Sets (SetImage 7 154)))
    × (order_of (49 ∷ 53 ∷ []) ≡ Some (Sets Sum))
    × (order_of (49 ∷ 54 ∷ zeros 7 ++ (49 ∷ [])) ≡ Some (Sets (Noise 1)))
    × (order_of (49 ∷ 55 ∷ 48 ∷ 48 ∷ []) ≡ Some (Sets (Name Small)))
    × (order_of (49 ∷ 55 ∷ 48 ∷ 49 ∷ []) ≡ Some (Sets (Name Large)))
unfolding order_of
orders = (refl, refl, refl, refl, refl, refl, refl, refl, refl, refl)

-- an empty line; 00; 08 with a number; 09 with a number; 09 with a digit, with a byte, with two numbers; 17 with a number; 12 with a number and no byte; 15 with a number;
-- 1702, 17FF; 17 alone; 16 with a byte
no_orders :
    (order_of [] ≡ None)
    × (order_of (48 ∷ 48 ∷ []) ≡ None)
    × (order_of (48 ∷ 56 ∷ zeros 8) ≡ None)
    × (order_of (48 ∷ 57 ∷ zeros 8) ≡ None)
    × (order_of (48 ∷ 57 ∷ 48 ∷ []) ≡ None)
    × (order_of (48 ∷ 57 ∷ zeros 10) ≡ None)
    × (order_of (48 ∷ 57 ∷ zeros 16) ≡ None)
    × (order_of (49 ∷ 55 ∷ zeros 8) ≡ None)
    × (order_of (49 ∷ 50 ∷ zeros 8) ≡ None)
    × (order_of (49 ∷ 53 ∷ zeros 8) ≡ None)
    × (order_of (49 ∷ 55 ∷ 48 ∷ 50 ∷ []) ≡ None)
    × (order_of (49 ∷ 55 ∷ 70 ∷ 70 ∷ []) ≡ None)
    × (order_of (49 ∷ 55 ∷ []) ≡ None)
    × (order_of (49 ∷ 54 ∷ 48 ∷ 48 ∷ []) ≡ None)
unfolding order_of
no_orders = (refl, refl, refl, refl, refl, refl, refl, refl, refl, refl, refl, refl, refl, refl)

-- the sum of the digits 1 to 9 is CBF43926, and that of no bytes is 0
sums : (sum_of (49 ∷ 50 ∷ 51 ∷ 52 ∷ 53 ∷ 54 ∷ 55 ∷ 56 ∷ 57 ∷ []) ≡ 3421780262) × (sum_of [] ≡ 0)
unfolding byte_step
sums = (refl, refl)

-- the first bytes of noise from the seed 1, of 3C88596C, 5E8885DB, 8116017E and B4733AC5
noises : noise_of 1 4 ≡ 136 ∷ 136 ∷ 22 ∷ 115 ∷ []
noises = refl
