-- Units pushed to the buffer: one after the other, and what is read from it then. Assumes nothing.
use mathlib.Core.Path.{◌≡◌, refl, sym, ap, ap₂, ◌∙◌}
use mathlib.Core.List.{List, [], ◌∷◌, ◌++◌, map, append_assoc, append-nil}
use Prim.Native.Nat.{ℕ, zero, suc, ◌+◌, ◌*◌, ◌<◌, ◌≤◌}
use native.Mathlib.Numerals.{add-one}
use native.Mathlib.Omega.{arith}
use lib.ListN.{length, take, drop, get_or, length-append, length-drop, take-append-drop, drop_of_length-le, get_or-append}
use lib.Seq.{take_at, drop_at, drop-cons, drop-drop, drop-append-le, get_or-take, length-take-le}
use Rattle.lists.specs.Lists.{All, flat, patch}
use Rattle.lists.proofs.Flats.{map_append}
use Rattle.lists.proofs.Parts.{length_patch}
use Rattle.pages.specs.declared.unit.Unit as U
use Rattle.pages.specs.declared.unit.Update.TheVariants.{Insert, Reset}
use Rattle.std.proofs.Common.{Some}
use Rattle.pages.specs.Units.{decode, decodes, encode, Valid}
use Rattle.pages.proofs.UnitLaws.{length_encode, length_units, decodes_units}
use Rattle.views.specs.declared.node.Node as N
use Rattle.views.specs.Nodes.{Entry}
use Rattle.views.specs.NodeCode.{pairs, entries_of}
use Rattle.views.specs.Groups.{unit_for}
use Rattle.views.specs.PassCode.{pushed, entry_units, node_units}

-- ---- pushes one after the other
-- no unit
pub pushed_none : (b : List ℕ) (c : ℕ) → pushed b c [] ≡ b
pushed_none b c = take-append-drop (12 * c) b

-- one unit
pub pushed_one : (b last : List ℕ) (c : ℕ) (u : U.Unit) → last ≡ patch b (12 * c) 12 (encode u) → last ≡ pushed b c (u ∷ [])
pushed_one b last c u e = e ∙ ap (patch b (12 * c) 12) (sym (append-nil (encode u)))

-- one unit, and the others behind it
pub pushed_more : (b : List ℕ) (c : ℕ) (u : U.Unit) (us : List U.Unit) → 12 * c + 12 ≤ length b
    → pushed (patch b (12 * c) 12 (encode u)) (c + 1) us ≡ pushed b c (u ∷ us)
pushed_more b c u us h =
    let a : ℕ = 12 * c in
    let n : ℕ = 12 * (c + 1) in
    let k : ℕ = 12 * length us in
    let front : List ℕ = take a b ++ encode u in
    let rest : List ℕ = drop 12 (drop a b) in
    let lt : length (take a b) ≡ a = length-take-le a b (omega arith) in
    let lf : length front ≡ n = length-append (take a b) (encode u) ∙ omega (arith, lt, length_encode u) in
    let e : 12 + k ≡ 12 * suc (length us) = omega arith in
    ap (λ (x : List ℕ). pushed x (c + 1) us) (sym (append_assoc (take a b) (encode u) rest))
    ∙ ap₂ (λ (p q : List ℕ). p ++ (flat encode us ++ drop k q)) (take_at front rest n lf) (drop_at front rest n lf)
    ∙ append_assoc (take a b) (encode u) (flat encode us ++ drop k rest)
    ∙ ap (λ (x : List ℕ). take a b ++ x)
    (sym (append_assoc (encode u) (flat encode us) (drop k rest))
    ∙ ap (λ (x : List ℕ). (encode u ++ flat encode us) ++ x) (drop-drop k 12 (drop a b) ∙ ap (λ (m : ℕ). drop m (drop a b)) e))

-- a list of units, and others behind them
pub pushed_append : (b : List ℕ) (c : ℕ) (us vs : List U.Unit) → 12 * (c + length us) ≤ length b
    → pushed (pushed b c us) (c + length us) vs ≡ pushed b c (us ++ vs)
pushed_append b c [] vs h = ap₂ (λ (x : List ℕ) (m : ℕ). pushed x m vs) (pushed_none b c) (let e : c + 0 ≡ c = omega arith in e)
pushed_append b c (u ∷ us) vs h =
    let x : List ℕ = patch b (12 * c) 12 (encode u) in
    let l : length x ≡ length b = length_patch b (12 * c) 12 (encode u) (omega arith) (length_encode u) in
    let e : c + suc (length us) ≡ c + 1 + length us = omega arith in
    ap₂ (λ (y : List ℕ) (m : ℕ). pushed y m vs) (sym (pushed_more b c u us (omega arith))) e
    ∙ pushed_append x (c + 1) us vs (omega arith)
    ∙ pushed_more b c u (us ++ vs) (omega arith)

-- a unit written over 12 bytes
pub length_put : (xs ys : List ℕ) (at : ℕ) (u : U.Unit) → at + 12 ≤ length xs → ys ≡ patch xs at 12 (encode u) → length ys ≡ length xs
length_put xs ys at u h e = ap length e ∙ length_patch xs at 12 (encode u) h (length_encode u)

-- the buffer keeps its length, and what stands before the units
pub length_pushed : (b : List ℕ) (c : ℕ) (us : List U.Unit) → 12 * (c + length us) ≤ length b → length (pushed b c us) ≡ length b
length_pushed b c us h = length_patch b (12 * c) (12 * length us) (flat encode us) (omega arith) (length_units us)

pub take_pushed : (b : List ℕ) (c : ℕ) (us : List U.Unit) → 12 * c ≤ length b → take (12 * c) (pushed b c us) ≡ take (12 * c) b
take_pushed b c us h =
    take_at (take (12 * c) b) (flat encode us ++ drop (12 * length us) (drop (12 * c) b)) (12 * c) (length-take-le (12 * c) b h)

-- ---- the loop over the entries of node x: what is still to be pushed to b is what all entries push to b₀
module _ (n c : ℕ) (b₀ : List ℕ) (x : N.Node) where
  abbrev left : ℕ → List Entry
  left i = pairs (drop i (take x.len x.keys)) (drop i (take x.len x.values))

  abbrev pub Pushing : ℕ → List ℕ → Type 0
  Pushing i b = pushed b (c + i) (entry_units n (left i)) ≡ pushed b₀ c (entry_units n (entries_of x))

  -- the first of the keys that are left, and of the values
  first : (i : ℕ) (xs : List ℕ) → i < x.len → x.len ≤ length xs → drop i (take x.len xs) ≡ get_or xs i 0 ∷ drop (i + 1) (take x.len xs)
  first i xs h l = rw (add-one, ← get_or-take x.len xs i 0 h) (drop-cons (take x.len xs) i 0 (rw (length-take-le x.len xs l) h))

  pub pushing_next : (i : ℕ) (b last : List ℕ) → Pushing i b → i < x.len → x.len ≤ length x.keys → x.len ≤ length x.values
      → 12 * (c + i) + 12 ≤ length b → last ≡ patch b (12 * (c + i)) 12 (encode (unit_for n (Insert (get_or x.keys i 0) (get_or x.values i 0))))
      → Pushing (i + 1) last
  pushing_next i b last p h lk lv hb e =
      let u : U.Unit = unit_for n (Insert (get_or x.keys i 0) (get_or x.values i 0)) in
      let a : c + (i + 1) ≡ c + i + 1 = omega arith in
      ap₂ (λ (z : List ℕ) (m : ℕ). pushed z m (entry_units n (left (i + 1)))) e a
      ∙ pushed_more b (c + i) u (entry_units n (left (i + 1))) hb
      ∙ ap₂ (λ (ks vs : List ℕ). pushed b (c + i) (entry_units n (pairs ks vs))) (sym (first i x.keys h lk)) (sym (first i x.values h lv))
      ∙ p

  pub pushing_done : (i : ℕ) (b : List ℕ) → Pushing i b → x.len ≤ i → x.len ≤ length x.keys → b ≡ pushed b₀ c (entry_units n (entries_of x))
  pushing_done i b p h lk =
      let vs : List ℕ = drop i (take x.len x.values) in
      let l : length (take x.len x.keys) ≤ i = rw (length-take-le x.len x.keys lk) h in
      sym (pushed_none b (c + i))
      ∙ ap (λ (ks : List ℕ). pushed b (c + i) (entry_units n (pairs ks vs))) (sym (drop_of_length-le (take x.len x.keys) l))
      ∙ p

  -- a reset, and then the entries
  pub pushed_node : (b last : List ℕ) → 12 * c + 12 ≤ length b₀ → b ≡ patch b₀ (12 * c) 12 (encode (unit_for n (Reset x.level)))
      → last ≡ pushed b (c + 1) (entry_units n (entries_of x)) → last ≡ pushed b₀ c (node_units n x)
  pushed_node b last h e q =
      q ∙ ap (λ (z : List ℕ). pushed z (c + 1) (entry_units n (entries_of x))) e
      ∙ pushed_more b₀ c (unit_for n (Reset x.level)) (entry_units n (entries_of x)) h

-- ---- reading the buffer
-- 12 bytes are read whatever stands behind them
decode_own : (limit : ℕ) (x y z : List ℕ) → 12 ≤ length x → decode limit (x ++ y) ≡ decode limit (x ++ z)
unfolding decode
decode_own limit x y z h =
    let at : (i : ℕ) → i < 12 → get_or (x ++ y) i 0 ≡ get_or (x ++ z) i 0 = λ i k.
    get_or-append x y 0 i (omega arith) ∙ sym (get_or-append x z 0 i (omega arith)) in
    rw (
      at 0 (omega arith),
      at 1 (omega arith),
      at 2 (omega arith),
      at 3 (omega arith),
      at 4 (omega arith),
      at 5 (omega arith),
      at 6 (omega arith),
      at 7 (omega arith),
      at 8 (omega arith),
      at 9 (omega arith),
      at 10 (omega arith),
      at 11 (omega arith),
    )

-- units of two joined lists; the first are read whatever stands behind them
decodes_append : (limit a b n : ℕ) (x y z : List ℕ) → n ≡ a + b → length x ≡ 12 * a
    → decodes limit n (x ++ y) ≡ decodes limit a (x ++ z) ++ decodes limit b y
decodes_append limit zero b n [] y z e h = ap (λ (m : ℕ). decodes limit m y) (let q : n ≡ b = omega arith in q)
decodes_append limit zero b n (k ∷ x) y z e h = absurd (omega arith)
decodes_append limit (suc a) b zero x y z e h = absurd (omega arith)
decodes_append limit (suc a) b (suc n) x y z e h =
    let l : 12 ≤ length x = omega arith in
    ap₂ ◌∷◌ (decode_own limit x y z l)
    (ap (decodes limit n) (drop-append-le 12 x y l)
    ∙ decodes_append limit a b n (drop 12 x) y z (omega arith) (length-drop 12 x ∙ omega arith)
    ∙ ap (λ (w : List ℕ). decodes limit a w ++ decodes limit b y) (sym (drop-append-le 12 x z l)))

module _ (limit c : ℕ) (bytes : List ℕ) (us : List U.Unit) (h : 12 * c ≤ length bytes) (e : decodes limit c bytes ≡ map Some us) where
  -- pushed units are read behind those that were there
  pub pushed_read : (vs : List U.Unit) → All (Valid limit) vs → decodes limit (c + length vs) (pushed bytes c vs) ≡ map Some (us ++ vs)
  pushed_read vs v =
      let x : List ℕ = take (12 * c) bytes in
      let rest : List ℕ = drop (12 * length vs) (drop (12 * c) bytes) in
      decodes_append limit c (length vs) (c + length vs) x (flat encode vs ++ rest) (drop (12 * c) bytes) refl (length-take-le (12 * c) bytes h)
      ∙ ap₂ ◌++◌ (ap (decodes limit c) (take-append-drop (12 * c) bytes) ∙ e) (decodes_units rest v)
      ∙ sym (map_append Some us vs)
