-- Packs, and their pages with places: the groups of the sheets are the packs of the pages, in their order. Assumes nothing.
use mathlib.Core.Path.{◌≡◌, refl, ap, ap₂, ◌∙◌}
use mathlib.Core.List.{List, [], ◌∷◌, ◌++◌, map}
use Prim.Native.Nat.{ℕ, suc, ◌+◌, ◌≤◌, ◌<◌}
use native.Mathlib.Omega.{arith}
use lib.ListN.{length, length-append, length-map}
use Rattle.lists.specs.Lists.{All, flat, more, none}
use Rattle.lists.proofs.Alls.{All-head, All-tail}
use Rattle.lists.proofs.Flats.{map_append}
use Rattle.lists.proofs.Sets.{All-pull}
use Rattle.pages.specs.declared.unit.Update.{Update}
use Rattle.views.specs.Groups.{Group, unit_for, Distinct}
use Rattle.journal.specs.Commit.{Pack, group_at, groups_of, units_of_packs}
use Rattle.journal.specs.Plan.{keep, sheets}

-- ---- packs
abbrev pub size : Pack → ℕ
size k = length k.updates

-- a pack of f: its node below n, its updates not none
pub record Of (f : ℕ → List Update) (n : ℕ) (k : Pack) : Type 0 where
  pub below : k.node < n
  pub is : k.updates ≡ f k.node
  pub some : 0 < size k

-- no pack is of node n
abbrev pub Lacks : ℕ → List Pack → Type 0
Lacks n ks = All (λ k. k.node ≡ n → ⊥) ks

-- no node has two packs
abbrev pub ApartPacks : List Pack → Type 0
ApartPacks [] = Unit {0}
ApartPacks (k ∷ ks) = Lacks k.node ks × ApartPacks ks

pub keep_apart : (n : ℕ) (us : List Update) → ApartPacks (keep n us [])
keep_apart n [] = tt
keep_apart n (u ∷ us) = (none, tt)

pub keep_none : (n : ℕ) (us : List Update) → Lacks n (keep n us []) → us ≡ []
keep_none n [] h = refl
keep_none n (u ∷ us) h = absurd (All-head h refl)

pub size_units : (k : Pack) (ks : List Pack) → length (units_of_packs (k ∷ ks)) ≡ size k + length (units_of_packs ks)
size_units k ks = length-append (map (unit_for k.node) k.updates) (units_of_packs ks) ∙ ap (λ n. n + length (units_of_packs ks)) (length-map k.updates (unit_for k.node))

-- a page of 1 to `room` units
abbrev pub Full : ℕ → List Pack → Type 0
Full room p = (0 < length (units_of_packs p)) × (length (units_of_packs p) ≤ room)

-- ---- the sheets: pages with their places
abbrev pub ungroup : Group → Pack
ungroup q = record { node = q.node; updates = q.updates }

map_ungroup : (p : ℕ) (ks : List Pack) → map ungroup (map (group_at p) ks) ≡ ks
map_ungroup p [] = refl
map_ungroup p (k ∷ ks) = ap (λ l. k ∷ l) (map_ungroup p ks)

pub sheets_groups : (ws : List ℕ) (ks : List (List Pack)) → length ks ≤ length ws → map ungroup (groups_of (sheets ws ks)) ≡ flat (λ p. p) ks
sheets_groups [] [] l = refl
sheets_groups [] (k ∷ ks) l = absurd (omega arith)
sheets_groups (p ∷ ws) [] l = refl
sheets_groups (p ∷ ws) (k ∷ ks) l =
    map_append ungroup (map (group_at p) k) (groups_of (sheets ws ks)) ∙ ap₂ ◌++◌ (map_ungroup p k) (sheets_groups ws ks (omega arith))

pub length_sheets : (ws : List ℕ) (ks : List (List Pack)) → length ks ≤ length ws → length (sheets ws ks) ≡ length ks
length_sheets [] [] l = refl
length_sheets [] (k ∷ ks) l = absurd (omega arith)
length_sheets (p ∷ ws) [] l = refl
length_sheets (p ∷ ws) (k ∷ ks) l = ap suc (length_sheets ws ks (omega arith))

pub distinct_groups : (qs : List Group) → ApartPacks (map ungroup qs) → Distinct qs
distinct_groups [] h = tt
distinct_groups (q ∷ qs) h = (All-pull ungroup qs h.0, distinct_groups qs h.1)

pub sheets_packs : {P : List Pack → Type 0} (ws : List ℕ) (ks : List (List Pack)) → All P ks → All (λ t. P t.packs) (sheets ws ks)
sheets_packs [] ks h = none
sheets_packs (p ∷ ws) [] h = none
sheets_packs (p ∷ ws) (k ∷ ks) h = more (All-head h) (sheets_packs ws ks (All-tail h))
