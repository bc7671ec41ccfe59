-- How the code of mount.rt finds the void pages, whose commit it is told: page by page, in the order of their places.
use Rattle.std.specs.Prelude.{Bool, cond, ◌&&◌, List, [], ◌∷◌, map, ℕ, eqb, take, Option, Some, None}
use Rattle.lists.specs.Lists.{filter}
use Rattle.chip.specs.declared.page.Mark.TheVariants.{Obsolete}
use Rattle.chip.specs.Geometry.{Geometry}
use Rattle.chip.specs.Page.{Page, is_live}
use Rattle.chip.specs.Chip.{Op, mark}
use Rattle.pages.specs.Data.{head_of}
use Rattle.pages.specs.Steps.{live_from, of_commit}
use Rattle.journal.specs.Mount.{retire}

-- a live page of commit c
abbrev pub is_of : Geometry → ℕ → Page → Bool
is_of g c x = is_live g x && eqb (head_of (take g.area x)).commit c

-- the mark of page p, where it is of commit c
abbrev pub retire_one : Geometry → ℕ → ℕ → Page → List Op
retire_one g c p x = cond (is_of g c x) (mark p Obsolete ∷ []) []

-- the marks of all live pages of commit c, lowest place first
abbrev pub retire_ops : Geometry → ℕ → List Page → List Op
retire_ops g c ps = map retire (filter (of_commit c) (live_from g 0 ps))

-- the marks of a mount where the void pages are those of a commit, or there are none
abbrev pub marks_of : Geometry → Option ℕ → List Page → List Op
marks_of g (Some c) ps = retire_ops g c ps
marks_of g None ps = []
