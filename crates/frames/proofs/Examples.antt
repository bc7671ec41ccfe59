-- Examples of frames and answers, by computation. Assumes nothing.
use mathlib.Core.Path.{◌≡◌, refl}
use mathlib.Core.List.{List, [], ◌∷◌, ◌++◌}
use Prim.Native.Nat.{ℕ}
use lib.ListN.{replicate}
use Rattle.chip.specs.declared.geometry.Nand.TheVariants.{Small}
use Rattle.store.specs.declared.step.Call.TheVariants.{Format, Insert, Delete, LookUp, Commit, Mount}
use Rattle.std.specs.Prelude.{Some, None, Ok, Err}
use Rattle.store.specs.declared.answer.Refusal.TheVariants.{Off, Cut}
use Rattle.frames.specs.Frames.{frame_of, answer_text, bad_text}

-- n zeros
abbrev zeros : ℕ → List ℕ
zeros n = replicate n 48

-- 00, 010000000700000063, 0200000007, 0300000007, 0400000000, 05000000FF
frames :
    (frame_of (48 ∷ 48 ∷ []) ≡ Some (Format Small 4294967295))
    × (frame_of (48 ∷ 49 ∷ zeros 7 ++ (55 ∷ zeros 6 ++ (54 ∷ 51 ∷ []))) ≡ Some (Insert 7 99))
    × (frame_of (48 ∷ 50 ∷ zeros 7 ++ (55 ∷ [])) ≡ Some (Delete 7))
    × (frame_of (48 ∷ 51 ∷ zeros 7 ++ (55 ∷ [])) ≡ Some (LookUp 7))
    × (frame_of (48 ∷ 52 ∷ zeros 8) ≡ Some (Commit 0))
    × (frame_of (48 ∷ 53 ∷ zeros 6 ++ (70 ∷ 70 ∷ [])) ≡ Some (Mount Small 255))
unfolding frame_of
frames = (refl, refl, refl, refl, refl, refl)

-- the greatest numbers: 01FFFFFFFFFFFFFFFF
greatest : frame_of (48 ∷ 49 ∷ replicate 16 70) ≡ Some (Insert 4294967295 4294967295)
unfolding frame_of
greatest = refl

-- an empty line; one digit; 05000000Ff; look up with 7 and with 9 digits; insert with 15 and with 17; 06 with a number; 01 with one
-- number; 00 with a number; a blank behind 00; a carriage return behind 00
no_frames :
    (frame_of [] ≡ None)
    × (frame_of (48 ∷ []) ≡ None)
    × (frame_of (48 ∷ 53 ∷ zeros 6 ++ (70 ∷ 102 ∷ [])) ≡ None)
    × (frame_of (48 ∷ 51 ∷ zeros 7) ≡ None)
    × (frame_of (48 ∷ 51 ∷ zeros 9) ≡ None)
    × (frame_of (48 ∷ 49 ∷ zeros 15) ≡ None)
    × (frame_of (48 ∷ 49 ∷ zeros 17) ≡ None)
    × (frame_of (48 ∷ 54 ∷ zeros 8) ≡ None)
    × (frame_of (48 ∷ 49 ∷ zeros 8) ≡ None)
    × (frame_of (48 ∷ 48 ∷ zeros 8) ≡ None)
    × (frame_of (48 ∷ 48 ∷ 32 ∷ []) ≡ None)
    × (frame_of (48 ∷ 48 ∷ 13 ∷ []) ≡ None)
unfolding frame_of
no_frames = (refl, refl, refl, refl, refl, refl, refl, refl, refl, refl, refl, refl)

-- 00, 0000000063, 00FFFFFFFF, 02, 0A, FF
answers :
    (answer_text (Ok None) ≡ 48 ∷ 48 ∷ [])
    × (answer_text (Ok (Some 99)) ≡ zeros 8 ++ (54 ∷ 51 ∷ []))
    × (answer_text (Ok (Some 4294967295)) ≡ 48 ∷ 48 ∷ replicate 8 70)
    × (answer_text (Err Off) ≡ 48 ∷ 50 ∷ [])
    × (answer_text (Err Cut) ≡ 48 ∷ 65 ∷ [])
    × (bad_text ≡ 70 ∷ 70 ∷ [])
unfolding answer_text
answers = (refl, refl, refl, refl, refl, refl)
