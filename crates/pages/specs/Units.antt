-- A unit: 12 bytes. Byte 0 kind, byte 1 zero, 2-3 node, 4-7 key, 8-11 value; little-endian.
use Rattle.std.specs.Prelude.{◌≡◌, Bool, true, cond, ◌||◌, List, [], ◌∷◌, ℕ, zero, suc, ◌+◌, ◌*◌, ◌/◌, ◌%◌, ◌^◌, ◌<◌, ltb, leb, eqb, get_or, drop, Option, Some, None}
use Rattle.pages.specs.declared.unit.Update.{Update}
use Rattle.pages.specs.declared.unit.Update.TheVariants.{Insert, Delete, Reset}
use Rattle.pages.specs.declared.unit.Unit.{Unit}

-- the little-endian numbers of two and of four bytes that start at i
abbrev pub half : List ℕ → ℕ → ℕ
half b i = get_or b i 0 + 256 * get_or b (i + 1) 0

abbrev pub word : List ℕ → ℕ → ℕ
word b i = get_or b i 0 + 256 * get_or b (i + 1) 0 + 65536 * get_or b (i + 2) 0 + 16777216 * get_or b (i + 3) 0

abbrev pub good : ℕ → Update → Option Unit
good n u = Some (record { node = n; update = u })

-- the value of a reset: the level, 0 to 3, or 255, which frees the node
unfoldable pub is_reset_value : ℕ → Bool
is_reset_value v = leb v 3 || eqb v 255

-- kind 1 inserts (key, value); kind 2 deletes the key, value 0; kind 3 resets the node, key 0, value its level or 255
abbrev pub decode_kind : ℕ → ℕ → ℕ → ℕ → Option Unit
decode_kind n kind k v =
    cond (eqb kind 1) (good n (Insert k v))
    (cond (eqb kind 2) (cond (eqb v 0) (good n (Delete k)) None)
    (cond (eqb kind 3) (cond (eqb k 0) (cond (is_reset_value v) (good n (Reset v)) None) None) None))

-- the unit that 12 bytes are, where they obey the layout; node numbers are below limit
unfoldable pub decode : ℕ → List ℕ → Option Unit
decode limit b =
    cond (eqb (get_or b 1 0) 0)
    (cond (ltb (half b 2) limit) (decode_kind (half b 2) (get_or b 0 0) (word b 4) (word b 8)) None)
    None

abbrev pub bytes_of : ℕ → ℕ → ℕ → ℕ → List ℕ
bytes_of kind n k v =
    kind ∷ 0 ∷ n % 256 ∷ n / 256
    ∷ k % 256 ∷ k / 256 % 256 ∷ k / 65536 % 256 ∷ k / 16777216
    ∷ v % 256 ∷ v / 256 % 256 ∷ v / 65536 % 256 ∷ v / 16777216 ∷ []

abbrev pub encode_update : ℕ → Update → List ℕ
encode_update n (Insert k v) = bytes_of 1 n k v
encode_update n (Delete k) = bytes_of 2 n k 0
encode_update n (Reset l) = bytes_of 3 n 0 l

-- the 12 bytes of a unit
unfoldable pub encode : Unit → List ℕ
encode u = encode_update u.node u.update

abbrev pub ValidUpdate : Update → Type 0
ValidUpdate (Insert k v) = (k < 2 ^ 32) × (v < 2 ^ 32)
ValidUpdate (Delete k) = k < 2 ^ 32
ValidUpdate (Reset l) = is_reset_value l ≡ true

-- a unit that the layout allows on a chip whose node numbers are below limit
pub record Valid (limit : ℕ) (u : Unit) : Type 0 where
  pub node : u.node < limit
  pub update : ValidUpdate u.update

-- n units of 12 bytes each, one after the other
abbrev pub decodes : ℕ → ℕ → List ℕ → List (Option Unit)
decodes limit zero b = []
decodes limit (suc n) b = decode limit b ∷ decodes limit n (drop 12 b)
