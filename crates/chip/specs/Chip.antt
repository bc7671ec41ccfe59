-- The chip as a list of pages: operations on it, done whole or torn, and a run of them under an allowance.
use Rattle.std.specs.Prelude.{◌≡◌, ℕ, ◌+◌, ◌*◌, ◌/◌, ◌≤◌, Bool, cond, ◌&&◌, List, [], ◌∷◌, map, length, take, replicate, ◌==◌, nat_le, nat_lt, slice_index}
use mathlib.Core.List.{foldl}
use Rattle.lists.specs.Lists.{At, modify, map_from, cut, repeat}
use Rattle.chip.specs.declared.power.Power.{Power}
use Rattle.chip.specs.declared.page.Mark.{Mark}
use Rattle.chip.specs.declared.operation.Kind.{Kind}
use Rattle.chip.specs.declared.operation.Kind.TheVariants as K
use Rattle.chip.specs.Geometry.{Geometry, page_size}
use Rattle.chip.specs.Power.{spend, effect}
use Rattle.chip.specs.Page.{Page, blank, marked, programmed, torn_page}

-- the pages of an image, block after block
unfoldable pub pages_of : Geometry → List ℕ → List Page
pages_of g image = cut (page_size g) (length image / page_size g) image

-- a flash operation; pages count from 0 through the whole chip
pub data Op : Type 0 where
  program : (page : ℕ) (bytes : List ℕ) → Op
  mark : (page : ℕ) (which : Mark) → Op
  erase : (block : ℕ) → Op

-- which kind it is
abbrev pub kind_of : Op → Kind
kind_of (program p bytes) = K.Program
kind_of (mark p m) = K.Mark
kind_of (erase b) = K.Erase

abbrev pub kinds_of : List Op → List Kind
kinds_of os = map kind_of os

-- page i is in block b
unfoldable pub in_block : Geometry → ℕ → ℕ → Bool
in_block g b i = nat_le (b * g.pages) i && nat_lt i (b * g.pages + g.pages)

-- y in place of each page of block b
abbrev pub filled : Geometry → ℕ → Page → ℕ → Page → Page
filled g b y i x = cond (in_block g b i) y x

-- an operation done whole
abbrev pub whole : Geometry → Op → List Page → List Page
whole g (program p bytes) ps = modify p (programmed g bytes) ps
whole g (mark p m) ps = modify p (marked g m 0) ps
whole g (erase b) ps = map_from 0 (filled g b (blank g)) ps

-- an operation torn: the first torn bytes as data; torn byte 0 as mark; a block untouched if torn byte 0 is 0, else full of torn pages
abbrev pub tear : Geometry → List ℕ → Op → List Page → List Page
tear g torn (program p bytes) ps = modify p (programmed g (take g.area torn)) ps
tear g torn (mark p m) ps = modify p (marked g m (slice_index torn 0)) ps
tear g torn (erase b) ps = cond (slice_index torn 0 == 0) ps (map_from 0 (filled g b (torn_page g torn)) ps)

-- a block's bytes after an erase, whole and torn
abbrev pub whole_block : Geometry → List ℕ
whole_block g = repeat g.pages (blank g)

abbrev pub torn_block : Geometry → List ℕ → List ℕ → List ℕ
torn_block g torn block = cond (slice_index torn 0 == 0) block (repeat g.pages (torn_page g torn))

-- the power and the pages
pub record Machine : Type 0 where
  pub power : Power
  pub pages : List Page

abbrev pub step : Geometry → List ℕ → Machine → Op → Machine
step g torn m o =
    record {
      power = spend m.power;
      pages = effect m.power (whole g o m.pages) (tear g torn o m.pages) m.pages;
    }

-- a list of operations, one after the other
unfoldable pub run : Geometry → List ℕ → Machine → List Op → Machine
run g torn m os = foldl (step g torn) m os

-- the pages that an operation may alter
abbrev pub touches : Geometry → Op → ℕ → Bool
touches g (program p bytes) n = p == n
touches g (mark p m) n = p == n
touches g (erase b) n = in_block g b n

-- ---- legal operations: a program only where the data is all 255; every page and block on the chip
pub record Programs (g : Geometry) (p : ℕ) (bytes : List ℕ) (ps : List Page) : Type 0 where
  pub page : Page
  pub stands : At p page ps
  pub erased : take g.area page ≡ replicate g.area 255
  pub size : length bytes ≡ g.area

pub record Marks (p : ℕ) (ps : List Page) : Type 0 where
  pub page : Page
  pub stands : At p page ps

abbrev pub Allowed : Geometry → Op → List Page → Type 0
Allowed g (program p bytes) ps = Programs g p bytes ps
Allowed g (mark p m) ps = Marks p ps
Allowed g (erase b) ps = b * g.pages + g.pages ≤ length ps

-- each operation of a list is allowed where it is done
abbrev pub Legal : Geometry → List Page → List Op → Type 0
Legal g ps [] = Unit {0}
Legal g ps (o ∷ os) = Allowed g o ps × Legal g (whole g o ps) os
