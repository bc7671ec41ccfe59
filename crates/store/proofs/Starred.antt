-- Every line of the table holds, by computation. Assumes nothing.
use mathlib.Core.Path.{◌≡◌, refl}
use mathlib.Core.List.{map}
use Rattle.chip.specs.Page.{is_set, blank}
use Rattle.pages.specs.Units.{is_reset_value, decode, encode}
use Rattle.pages.specs.Data.{obeys, laid}
use Rattle.pages.specs.Steps.{commit, index, count, before, is_at, full, steps}
use Rattle.views.specs.Table as Views
use Rattle.tree.specs.Insert.{fit_or_split, gain, halve, raise, insert_at, inserted}
use Rattle.tree.specs.Delete.{join, share, settle, delete_at, take_over, delete}
use Rattle.tree.specs.Step6.{step6}
use Rattle.store.specs.Starred.{Line, starred, up_to, from, row, rows}

pub starred_hold : map (λ (l : Line). l.got) starred ≡ map (λ (l : Line). l.is) starred
unfolding up_to from row rows delete delete_at take_over settle join share inserted insert_at gain fit_or_split halve raise step6 is_reset_value encode decode laid obeys is_set blank steps commit index count before full is_at Views.events_of Views.node_of Views.is_well Views.meaning
starred_hold = refl
