-- The units of the reservation buffer, and the pages of a commit as groups of units, each node in one group.
use Rattle.std.specs.Prelude.{◌≡◌, Bool, true, false, cond, ℕ, eqb, Some}
use mathlib.Core.List.{List, [], ◌∷◌, map, foldl}
use Rattle.lists.specs.Lists.{All, flat}
use Rattle.pages.specs.declared.unit.Update.{Update}
use Rattle.pages.specs.declared.unit.Update.TheVariants.{Insert, Delete, Reset}
use Rattle.pages.specs.declared.unit.Unit as U
use Rattle.views.specs.Nodes.{View, apply}
use Rattle.views.specs.Table.{Event, event_at}

-- the updates of node n among these units, in order
abbrev pub own : ℕ → List U.Unit → List Update
own n [] = []
own n (u ∷ us) = cond (eqb u.node n) (u.update ∷ own n us) (own n us)

-- a view after the buffer: the node's own units, in order
abbrev pub present : ℕ → View → List U.Unit → View
present n w us = foldl apply w (own n us)

-- the updates of one node, all on one page
pub record Group : Type 0 where
  pub place : ℕ
  pub node : ℕ
  pub updates : List Update

abbrev pub unit_for : ℕ → Update → U.Unit
unit_for n u = record { node = n; update = u }

abbrev pub event_in : Group → Update → Event
event_in q u = event_at q.place (Some (unit_for q.node u))

-- the units of the groups in order
abbrev pub events_in : List Group → List Event
events_in qs = flat (λ (q : Group). map (event_in q) q.updates) qs

abbrev pub is_reset : Update → Bool
is_reset (Insert k v) = false
is_reset (Delete k) = false
is_reset (Reset l) = true

-- no group of node n
abbrev pub Without : ℕ → List Group → Type 0
Without n qs = All (λ (q : Group). q.node ≡ n → ⊥) qs

-- each node is in one group at most
abbrev pub Distinct : List Group → Type 0
Distinct [] = Unit {0}
Distinct (q ∷ qs) = Without q.node qs × Distinct qs
