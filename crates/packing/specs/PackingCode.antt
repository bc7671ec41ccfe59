-- How the code packs nodes into pages of `units` units: free units of 512 pages, for each of 256 nodes its page (65,535 for none) and its form (1 for anew).
use Rattle.std.specs.Prelude.{◌≡◌, Bool, cond, ◌||◌, IfSome, List, [], ℕ, ◌+◌, ◌<◌, ◌≤◌, Option, eqb, leb, get_or, length, set, take, unwrap_or}
use Rattle.lists.specs.Lists.{first}
use Rattle.journal.specs.Packing.{Packing, fit, pack_node, fill_node, widen_node, filled, widened}
use Rattle.journal.specs.PlanCode.{is_marked, packing_of, sizes_in}

-- pack a node if its form is 1, or in any case
abbrev pub pack_if : ℕ → Bool → List ℕ → List ℕ → List ℕ → Packing → ℕ → Packing
pack_if units always wholes parts forms S n = cond (always || is_marked forms n) (pack_node (sizes_in units wholes parts) S n) S

-- fill in a node of those that are marked; a node's own units are of no account to it
abbrev pub fill_if : ℕ → List ℕ → List ℕ → Packing → ℕ → Packing
fill_if units olds wholes S n = cond (is_marked olds n) (fill_node (sizes_in units wholes []) S n) S

-- widen a node whose list has d pages
abbrev pub widen_if : ℕ → List ℕ → ℕ → List ℕ → List ℕ → Packing → ℕ → Packing
widen_if units lens d wholes parts S n = cond (eqb (get_or lens n 0) d) (widen_node (sizes_in units wholes parts) S n) S

-- pages filled: lists of 3 pages, then the marked nodes, then lists of 2 and of 1
abbrev pub fills_delta : ℕ → List ℕ → List ℕ → List ℕ → List ℕ → ℕ → Packing → Packing
fills_delta units wholes parts lens olds limit S =
    widened (sizes_in units wholes parts) (λ (n : ℕ). get_or lens n 0) limit 1
    (widened (sizes_in units wholes parts) (λ (n : ℕ). get_or lens n 0) limit 2
    (filled (sizes_in units wholes parts) (is_marked olds) limit (widened (sizes_in units wholes parts) (λ (n : ℕ). get_or lens n 0) limit 3 S)))

-- a node that has a page has one of the first count
abbrev pub Placed : ℕ → List ℕ → Type 0
Placed count targets = (n : ℕ) → (get_or targets n 65535 ≡ 65535 → ⊥) → get_or targets n 65535 < count

-- a form that is not 1 is as it was before
pub record KeepsForms (before after : List ℕ) : Type 0 where
  pub form : (n : ℕ) → (get_or after n 0 ≡ 1 → ⊥) → get_or after n 0 ≡ get_or before n 0

-- a node below limit that is not written anew has no more units of its own than anew
abbrev pub Short : ℕ → List ℕ → List ℕ → List ℕ → Type 0
Short limit wholes parts forms = (n : ℕ) → n < limit → (get_or forms n 0 ≡ 1 → ⊥) → get_or parts n 0 ≤ get_or wholes n 0

-- the arrays of a packing of count pages
pub record Ready (count : ℕ) (rooms targets forms : List ℕ) : Type 0 where
  pub pages : length rooms ≡ 512
  pub nodes : length targets ≡ 256
  pub marks : length forms ≡ 256
  pub placed : Placed count targets

-- ---- what the functions answer
-- the first page that has room for size units
pub record FirstFit (rooms : List ℕ) (size : ℕ) (r : Option ℕ) : Type 0 where
  pub is : first (leb size) rooms ≡ unwrap_or r (length rooms)
  pub room : IfSome r (λ p. (p < length rooms) × (size ≤ get_or rooms p 0))

-- size units of node n put into that page, else into a new one of `units` units
pub record Assigns (units n size count : ℕ) (rooms targets : List ℕ) (r : ℕ) (rooms' targets' : List ℕ) : Type 0 where
  pub free : take r rooms' ≡ fit units size (take count rooms)
  pub target : targets' ≡ set targets n (first (leb size) (take count rooms))
  pub page : first (leb size) (take count rooms) < r
  pub low : count ≤ r
  pub high : r ≤ count + 1

-- the arrays hold the packing S, of at most `most` pages
pub record Packs (S : Packing) (most r : ℕ) (rooms targets forms : List ℕ) : Type 0 where
  pub is : packing_of (take r rooms) targets forms ≡ S
  pub ready : Ready r rooms targets forms
  pub few : r ≤ most

-- the arrays hold the packing S, of the same pages, with some forms turned to 1; there is no new page, and so S is the same for any units of a page
pub record FillsPages (S : ℕ → Packing) (count : ℕ) (before rooms targets forms : List ℕ) : Type 0 where
  pub is : (units : ℕ) → packing_of (take count rooms) targets forms ≡ S units
  pub ready : Ready count rooms targets forms
  pub keeps : KeepsForms before forms

-- the arrays hold the packing S of a delta; forms that were 0 or 1 are so still
pub record PacksDelta (S : Packing) (most r : ℕ) (before rooms targets forms : List ℕ) : Type 0 where
  pub packs : Packs S most r rooms targets forms
  pub keeps : KeepsForms before forms
  pub bits : (n : ℕ) → get_or before n 0 ≤ 1 → get_or forms n 0 ≤ 1
