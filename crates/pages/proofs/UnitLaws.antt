-- Units and their 12 bytes: the values of a reset, the answers of the decoder, and that each unit has one form. Assumes nothing.
use mathlib.Core.Path.{◌≡◌, refl, sym, ap, ap₂, ◌∙◌, subst}
use mathlib.Core.Bool.{true}
use mathlib.Core.Logic.{⊎_elim}
use mathlib.Core.List.{List, [], ◌∷◌, ◌++◌, map, append_assoc, append-nil}
use Prim.Native.Nat.{ℕ, zero, suc, ◌+◌, ◌*◌, ◌/◌, ◌%◌, ◌^◌, ◌<◌, ◌≤◌}
use native.Mathlib.Omega.{arith}
use lib.Dec.{ltb, leb, eqb}
use lib.ListN.{length, drop, get_or, length-append, drop_of_length-le}
use lib.Seq.{drop-cons, drop_at}
use borrow.Author.Tests.{eq-eqb, lt-ltb, le-ltb, le-leb, eqb-true, ltb-true, leb-true}
use Rattle.lists.specs.Lists.{All, none, more, flat, tab}
use Rattle.lists.proofs.Tests.{cases, same_or_not}
use Rattle.pages.specs.declared.unit.Update.{Update}
use Rattle.pages.specs.declared.unit.Update.TheVariants.{Insert, Delete, Reset}
use Rattle.pages.specs.declared.unit.Unit.{Unit}
use Rattle.std.proofs.Common.{Option, Some, None}
use Rattle.pages.specs.Units.{half, word, good, is_reset_value, decode_kind, decode, bytes_of, encode_update, encode, ValidUpdate, Valid, decodes}

-- ---- the value of a reset: a level, or the value that frees the node
pub level_value : (l : ℕ) → l ≤ 3 → is_reset_value l ≡ true
unfolding is_reset_value
level_value l h = rw (le-leb l 3 h)

pub freed_value : is_reset_value 255 ≡ true
unfolding is_reset_value
freed_value = refl

pub value_level : (l : ℕ) → is_reset_value l ≡ true → (l ≡ 255 → ⊥) → l ≤ 3
unfolding is_reset_value
value_level l h k = cases (leb l 3) (λ t. leb-true l 3 t) (λ t. absurd (k (eqb-true l 255 (rw t at h))))

-- it fits its field
value_below : (l : ℕ) → is_reset_value l ≡ true → l < 2 ^ 32
value_below l h = ⊎_elim (λ (e : l ≡ 255). omega arith) (λ (k : l ≡ 255 → ⊥). omega (arith, value_level l h k)) (same_or_not l 255)

-- ---- the answers of decode_unit
module _ (limit : ℕ) (b : List ℕ) (n : ℕ) (z : get_or b 1 0 ≡ 0) (en : n ≡ half b 2) where
  -- a node number below limit: the kind decides
  pub decoded : (k v : ℕ) (r : Option Unit) → n < limit → k ≡ word b 4 → v ≡ word b 8 → r ≡ decode_kind n (get_or b 0 0) k v → r ≡ decode limit b
  unfolding decode
  decoded k v r h ek ev er = er ∙ rw (ek, ev, eq-eqb (get_or b 1 0) 0 z, ← en, lt-ltb n limit h)

  -- a node number not below limit
  pub above : limit ≤ n → None ≡ decode limit b
  unfolding decode
  above h = rw (eq-eqb (get_or b 1 0) 0 z, ← en, le-ltb n limit h)

-- ---- what is encoded is decoded
-- the four bytes of a number, and the two of a smaller one, give the number back
pub word_back : (x : ℕ) → x < 2 ^ 32 → x % 256 + 256 * (x / 256 % 256) + 65536 * (x / 65536 % 256) + 16777216 * (x / 16777216) ≡ x
word_back x h = omega arith

pub half_back : (x : ℕ) → x % 256 + 256 * (x / 256) ≡ x
half_back x = omega arith

-- the bytes of a kind, a node, a key and a value, whatever stands behind them
back : (limit kind n k v : ℕ) (r : List ℕ) → n < limit → k < 2 ^ 32 → v < 2 ^ 32
    → decode limit (bytes_of kind n k v ++ r) ≡ decode_kind n kind k v
unfolding decode
back limit kind n k v r hn hk hv = rw (half_back n, lt-ltb n limit hn, word_back k hk, word_back v hv)

-- the bytes of an update
update_back : (limit n : ℕ) (u : Update) (r : List ℕ) → n < limit → ValidUpdate u → decode limit (encode_update n u ++ r) ≡ good n u
update_back limit n (Insert k v) r h w = back limit 1 n k v r h w.0 w.1
update_back limit n (Delete k) r h w = back limit 2 n k 0 r h w (omega arith)
update_back limit n (Reset l) r h w = back limit 3 n 0 l r h (omega arith) (value_below l w) ∙ rw w

-- the bytes of a unit, whatever stands behind them, and alone
pub decode_front : (limit : ℕ) (u : Unit) (r : List ℕ) → Valid limit u → decode limit (encode u ++ r) ≡ Some u
unfolding encode
decode_front limit u r h = update_back limit u.node u.update r h.node h.update

pub decode_encode : {limit : ℕ} {u : Unit} → Valid limit u → decode limit (encode u) ≡ Some u
decode_encode {limit} {u} h = ap (decode limit) (sym (append-nil (encode u))) ∙ decode_front limit u [] h

-- ---- a unit has one form
-- a list from index k on, element by element
listed : (b : List ℕ) (n k : ℕ) → length b ≡ k + n → tab k n (λ (i : ℕ). get_or b i 0) ≡ drop k b
listed b zero k h = let e : length b ≤ k = omega arith in sym (drop_of_length-le b e)
listed b (suc n) k h = rw (listed b n (suc k) (omega arith), drop-cons b k 0 (omega arith))

-- a byte is below 256; a number of two bytes, and of four, is below its bound
pub byte_below : (i : ℕ) {b : List ℕ} → All (λ (x : ℕ). x < 256) b → get_or b i 0 < 256
byte_below i none = omega arith
byte_below zero (more h hs) = h
byte_below (suc i) (more h hs) = byte_below i hs

pub half_below : (i : ℕ) {b : List ℕ} → All (λ (x : ℕ). x < 256) b → half b i < 65536
half_below i h = omega (arith, byte_below i h, byte_below (i + 1) h)

pub word_below : (i : ℕ) {b : List ℕ} → All (λ (x : ℕ). x < 256) b → word b i < 2 ^ 32
word_below i h = omega (arith, byte_below i h, byte_below (i + 1) h, byte_below (i + 2) h, byte_below (i + 3) h)

-- two bytes, and four, come back from the number that they are
half_parts : (a b : ℕ) (r : List ℕ) → a < 256 → (a + 256 * b) % 256 ∷ (a + 256 * b) / 256 ∷ r ≡ a ∷ b ∷ r
half_parts a b r h =
    let x : (a + 256 * b) % 256 ≡ a = omega arith in
    let y : (a + 256 * b) / 256 ≡ b = omega arith in
    cc

word_parts : (x a b c d : ℕ) (r : List ℕ) → x ≡ a + 256 * b + 65536 * c + 16777216 * d → a < 256 → b < 256 → c < 256
    → x % 256 ∷ x / 256 % 256 ∷ x / 65536 % 256 ∷ x / 16777216 ∷ r ≡ a ∷ b ∷ c ∷ d ∷ r
word_parts x a b c d r e ha hb hc =
    let p : x % 256 ≡ a = omega arith in
    let y : x / 256 ≡ b + 256 * (c + 256 * d) = omega arith in
    let z : x / 65536 ≡ c + 256 * d = omega arith in
    let q : x / 256 % 256 ≡ b = rw y (omega arith) in
    let s : x / 65536 % 256 ≡ c = rw z (omega arith) in
    let t : x / 16777216 ≡ d = omega arith in
    cc

-- 12 bytes come back from the numbers that are read from them
bytes_back : (b : List ℕ) → length b ≡ 12 → All (λ (x : ℕ). x < 256) b → get_or b 1 0 ≡ 0
    → bytes_of (get_or b 0 0) (half b 2) (word b 4) (word b 8) ≡ b
bytes_back b l h z =
    let at : ℕ → ℕ = λ i. get_or b i 0 in
    let below : (i : ℕ) → at i < 256 = λ i. byte_below i h in
    let v = word_parts (word b 8) (at 8) (at 9) (at 10) (at 11) [] refl (below 8) (below 9) (below 10) in
    let k = word_parts (word b 4) (at 4) (at 5) (at 6) (at 7) (at 8 ∷ at 9 ∷ at 10 ∷ at 11 ∷ []) refl (below 4) (below 5) (below 6) in
    let n = half_parts (at 2) (at 3) (at 4 ∷ at 5 ∷ at 6 ∷ at 7 ∷ at 8 ∷ at 9 ∷ at 10 ∷ at 11 ∷ []) (below 2) in
    rw (v, k, n) (rw z at (listed b 12 0 l))

-- the value of an update that is a reset
abbrev pub ValidReset : Update → Type 0
ValidReset (Insert k v) = Prim.Unit {0}
ValidReset (Delete k) = Prim.Unit {0}
ValidReset (Reset l) = is_reset_value l ≡ true

-- how a unit goes with the kind, node, key and value that it was read from
record Of (n kind k v : ℕ) (u : Unit) : Type 0 where
  node : u.node ≡ n
  bytes : encode u ≡ bytes_of kind n k v
  reset : ValidReset u.update
  update : k < 2 ^ 32 → v < 2 ^ 32 → ValidUpdate u.update

-- a unit that was read is the one that stands there
this : {n kind k v : ℕ} {u w : Unit} → Some w ≡ Some u → Of n kind k v w → Of n kind k v u
this {n} {kind} {k} {v} {u} {w} e h = let s : w ≡ u = cc in subst (Of n kind k v) s h

-- bytes that are no unit are not read as one
never : {Q : Type 0} {u : Unit} → None ≡ Some u → Q
never e = let z : ◌≡◌ {A = ℕ} 0 1 = cc in absurd (omega arith)

-- every answer of decode_kind that is a unit
kind_of_lem : (n kind k v : ℕ) (u : Unit) → decode_kind n kind k v ≡ Some u → Of n kind k v u
unfolding encode
kind_of_lem n kind k v u e =
    cases (eqb kind 1)
    (λ t. this (rw t at e) (record { node = refl; bytes = rw (eqb-true kind 1 t); reset = tt; update = λ a b. (a, b) }))
    (λ f. let e2 = (rw f at e) in cases (eqb kind 2)
    (λ t. let e3 = (rw t at e2) in cases (eqb v 0)
    (λ s. this (rw s at e3) (record { node = refl; bytes = rw (eqb-true kind 2 t, eqb-true v 0 s); reset = tt; update = λ a b. a }))
    (λ s. never (rw s at e3)))
    (λ t. let e3 = (rw t at e2) in cases (eqb kind 3)
    (λ s. let e4 = (rw s at e3) in cases (eqb k 0)
    (λ y. let e5 = (rw y at e4) in cases (is_reset_value v)
    (λ x. this (rw x at e5) (record { node = refl; bytes = rw (eqb-true kind 3 s, eqb-true k 0 y); reset = x; update = λ a b. x }))
    (λ x. never (rw x at e5)))
    (λ y. never (rw y at e4)))
    (λ s. never (rw s at e3))))

-- what the bytes of a unit that was read say of it
pub record Told (limit : ℕ) (b : List ℕ) (u : Unit) : Type 0 where
  pub zero : get_or b 1 0 ≡ 0
  pub node : u.node ≡ half b 2
  pub below : u.node < limit
  pub bytes : encode u ≡ bytes_of (get_or b 0 0) (half b 2) (word b 4) (word b 8)
  pub reset : ValidReset u.update
  pub update : word b 4 < 2 ^ 32 → word b 8 < 2 ^ 32 → ValidUpdate u.update

pub told : (limit : ℕ) (b : List ℕ) (u : Unit) → decode limit b ≡ Some u → Told limit b u
unfolding decode
told limit b u e =
    cases (eqb (get_or b 1 0) 0)
    (λ z. let e2 = (rw z at e) in cases (ltb (half b 2) limit)
    (λ t. let o = kind_of_lem (half b 2) (get_or b 0 0) (word b 4) (word b 8) u (rw t at e2) in
    record {
      zero = eqb-true (get_or b 1 0) 0 z;
      node = o.node;
      below = rw o.node (ltb-true (half b 2) limit t);
      bytes = o.bytes;
      reset = o.reset;
      update = o.update;
    })
    (λ t. never (rw t at e2)))
    (λ z. never (rw z at e))

pub told_valid : {limit : ℕ} {b : List ℕ} {u : Unit} → All (λ (x : ℕ). x < 256) b → Told limit b u → Valid limit u
told_valid h t = record { node = t.below; update = t.update (word_below 4 h) (word_below 8 h) }

-- the bytes b are the form of the unit u
pub record Coded (limit : ℕ) (b : List ℕ) (u : Unit) : Type 0 where
  pub bytes : encode u ≡ b
  pub valid : Valid limit u

-- 12 bytes that are a unit are its bytes, and the unit is valid
pub encode_decode : (limit : ℕ) (b : List ℕ) (u : Unit) → length b ≡ 12 → All (λ (x : ℕ). x < 256) b → decode limit b ≡ Some u → Coded limit b u
encode_decode limit b u l h e =
    let t = told limit b u e in
    record { bytes = t.bytes ∙ bytes_back b l h t.zero; valid = told_valid h t }

-- ---- units one after the other
-- the bytes of an update, of a unit and of units
length_update : (n : ℕ) (u : Update) → length (encode_update n u) ≡ 12
length_update n (Insert k v) = refl
length_update n (Delete k) = refl
length_update n (Reset l) = refl

pub length_encode : (u : Unit) → length (encode u) ≡ 12
unfolding encode
length_encode u = length_update u.node u.update

pub length_units : (us : List Unit) → length (flat encode us) ≡ 12 * length us
length_units [] = refl
length_units (u ∷ us) = length-append (encode u) (flat encode us) ∙ omega (arith, length_encode u, length_units us)

-- units written one after the other are read, whatever stands behind them
pub decodes_units : {limit : ℕ} {us : List Unit} (rest : List ℕ) → All (Valid limit) us → decodes limit (length us) (flat encode us ++ rest) ≡ map Some us
decodes_units rest none = refl
decodes_units {limit} rest (more {x = u} {xs = us} h hs) =
    let r : List ℕ = flat encode us ++ rest in
    ap (λ (b : List ℕ). decode limit b ∷ decodes limit (length us) (drop 12 b)) (append_assoc (encode u) (flat encode us) rest)
    ∙ ap₂ ◌∷◌ (decode_front limit u r h) (ap (decodes limit (length us)) (drop_at (encode u) r 12 (length_encode u)) ∙ decodes_units rest hs)
