-- A node's view: its level and its entries in key order, as its units give them one after the other (step 4).
use Rattle.std.specs.Prelude.{cond, List, [], ◌∷◌, map, ℕ, ◌<◌, ltb, leb, eqb, length}
use Rattle.pages.specs.declared.unit.Update.{Update}
use Rattle.pages.specs.declared.unit.Update.TheVariants.{Insert, Delete, Reset}

pub record Entry : Type 0 where
  pub key : ℕ
  pub value : ℕ

abbrev pub entry : ℕ → ℕ → Entry
entry k v = record { key = k; value = v }

-- the keys rise, and all are above k
abbrev pub Above : ℕ → List Entry → Type 0
Above k [] = Unit {0}
Above k (e ∷ es) = (k < e.key) × Above e.key es

abbrev pub Rising : List Entry → Type 0
Rising [] = Unit {0}
Rising (e ∷ es) = Above e.key es

-- in front of the first key that is not below k, or in the place of an equal one
abbrev pub insert_entry : ℕ → ℕ → List Entry → List Entry
insert_entry k v [] = entry k v ∷ []
insert_entry k v (e ∷ es) =
    cond (ltb e.key k) (e ∷ insert_entry k v es) (cond (eqb e.key k) (entry k v ∷ es) (entry k v ∷ e ∷ es))

-- without the entry of key k; an absent key changes nothing
abbrev pub delete_entry : ℕ → List Entry → List Entry
delete_entry k [] = []
delete_entry k (e ∷ es) = cond (ltb e.key k) (e ∷ delete_entry k es) (cond (eqb e.key k) es (e ∷ es))

-- no unit yet; freed by its last reset; units without a reset or after one that frees, or above 16 entries since the last one; a level and entries
pub data View : Type 0 where
  untouched : View
  freed : View
  broken : View
  view : ℕ → List Entry → View

-- a view holds at most 16 entries
abbrev pub within : ℕ → List Entry → View
within l es = cond (leb (length es) 16) (view l es) broken

-- what one update makes of a view; a reset gives an empty view whatever was there, or frees the node
abbrev pub apply : View → Update → View
apply w (Reset l) = cond (eqb l 255) freed (view l [])
apply untouched (Insert k v) = broken
apply untouched (Delete k) = broken
apply freed (Insert k v) = broken
apply freed (Delete k) = broken
apply broken (Insert k v) = broken
apply broken (Delete k) = broken
apply (view l es) (Insert k v) = within l (insert_entry k v es)
apply (view l es) (Delete k) = view l (delete_entry k es)

-- a node written anew: a reset and an insert for each entry
abbrev pub inserted : Entry → Update
inserted e = Insert e.key e.value

abbrev pub anew : ℕ → List Entry → List Update
anew l es = Reset l ∷ map inserted es
