-- How the code of write.rt writes the pages that the arrays of a plan name: each built, written, and noted in the node table.
use Rattle.std.specs.Prelude.{◌≡◌, ℕ, ◌<◌, ◌≤◌, true, List, length, slice_index}
use Rattle.lists.specs.Lists.{All, all, flat, tab}
use Rattle.chip.specs.declared.progress.Progress.{Progress}
use Rattle.chip.specs.Geometry.{Geometry}
use Rattle.chip.specs.RunCode.{Ran}
use Rattle.pages.specs.declared.unit.Update.{Update}
use Rattle.pages.specs.Units.{Valid, half}
use Rattle.pages.specs.Data.{data_of}
use Rattle.pages.specs.Steps.{Live}
use Rattle.views.specs.Table.{events, events_of, is_sound}
use Rattle.views.specs.PassCode.{Turned}
use Rattle.journal.specs.Commit.{writes_of}
use Rattle.journal.specs.PlanCode.{KeepsWritten, target_in}
use Rattle.execution.specs.declared.write.Pages.{Pages}
use Rattle.execution.specs.GatherCode.{page_units}

-- page i of the pages of a commit, as it is when it is live
abbrev pub live_in : Pages → (ℕ → List Update) → List ℕ → List ℕ → ℕ → Live
live_in pages f targets places i =
    record { place = slice_index places i; bytes = data_of pages.geometry pages.commit i pages.total (page_units f (target_in targets) pages.limit i) }

-- the arrays hold f, what is written of each node, and the units of each of n pages fit a page
pub record Holds (g : Geometry) (limit : ℕ) (f : ℕ → List Update) (targets sizes units : List ℕ) (n : ℕ) : Type 0 where
  pub written : KeepsWritten limit f targets sizes units
  pub fits : (p : ℕ) → p < n → length (page_units f (target_in targets) limit p) ≤ g.units

-- they obey the layout
abbrev pub ValidPages : ℕ → (ℕ → List Update) → List ℕ → ℕ → Type 0
ValidPages limit f targets n = (p : ℕ) → p < n → All (Valid limit) (page_units f (target_in targets) limit p)

-- the units of a page at this place are noted where it has no more than a page holds and they obey the layout
abbrev pub NotesPage : Geometry → ℕ → ℕ → List ℕ → List ℕ → List ℕ → List ℕ → List ℕ → Type 0
NotesPage g limit place page l s u v =
    half page 6 ≤ g.units → all is_sound (events_of limit (record { place = place; bytes = page })) ≡ true
    → Turned (events_of limit (record { place = place; bytes = page })) l s u v

-- pages k, k + 1, .., m of them, written and noted, for every f that the arrays hold
pub record Writes (pages : Pages) (targets sizes units places torn : List ℕ) (k m : ℕ) (p reached : Progress) (before after l s u v : List ℕ) : Type 0 where
  pub size : length after ≡ length before
  pub ran : (f : ℕ → List Update) → Holds pages.geometry pages.limit f targets sizes units pages.total
      → Ran pages.geometry torn (flat writes_of (tab k m (live_in pages f targets places))) p reached before after
  pub turned : (f : ℕ → List Update) → Holds pages.geometry pages.limit f targets sizes units pages.total → ValidPages pages.limit f targets pages.total
      → Turned (events pages.limit (tab k m (live_in pages f targets places))) l s u v
