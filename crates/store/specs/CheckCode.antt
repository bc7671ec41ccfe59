-- What the code that checks an image answers.
use Rattle.std.specs.Prelude.{Option, Some, None, Result, Ok, Err, ◌≡◌, Bool, true, false, cond, ◌&&◌, List, map, ℕ, ◌*◌, ◌-◌, ◌/◌, ◌<◌, eqb, length, get_or}
use Rattle.lists.specs.Lists.{all}
use Rattle.chip.specs.Geometry.{Geometry, blocks_of, most_pages}
use Rattle.chip.specs.Chip.{pages_of}
use Rattle.pages.specs.declared.standing.Unsettled.{Unsettled}
use Rattle.pages.specs.declared.standing.Unsettled.TheVariants as U
use Rattle.pages.specs.Steps.{Live, stand, steps}
use Rattle.pages.specs.KeyCode.{key_of}
use Rattle.views.specs.Table as Views
use Rattle.views.specs.Table.{Node, events, table, node_of, is_sound, is_well}
use Rattle.views.specs.Stored.{Stores}
use Rattle.journal.specs.Mount.{mount_ops}
use Rattle.journal.specs.Plan.{node_at}
use Rattle.promise.specs.Calls.{invalid}
use Rattle.promise.specs.Image.{views_of, image_meaning}
use Rattle.tree.specs.CheckCode.{pages_table}
use Rattle.tree.specs.Step6.{step6}
use Rattle.tree.specs.Free.{free_numbers}
use Rattle.tree.specs.Thick.{thin}
use Rattle.journal.specs.MountCode.{marks_of}
use Rattle.store.specs.declared.answer.Refusal.{Refusal}
use Rattle.store.specs.declared.answer.Refusal.TheVariants.{Blank, Layout, Shape}
use Rattle.store.specs.declared.check.Meaning.{Meaning}

-- ---- steps 4 to 6 on the standing pages xs
-- steps 4 and 5 pass
abbrev pub is_read : ℕ → List Live → Bool
is_read limit xs = all is_sound (events limit xs) && all is_well (table limit (events limit xs))

-- step 6 passes
abbrev pub is_tree : ℕ → List Live → Bool
is_tree limit xs = step6 (views_of (table limit (events limit xs)))

-- all pass, and the arrays hold the list of every node and the numbers that no node has; w tells whether the tree is thin
pub record Passed (limit : ℕ) (xs : List Live) (lens slots free : List ℕ) (w : Bool) : Type 0 where
  pub read : is_read limit xs ≡ true
  pub tree : is_tree limit xs ≡ true
  pub lists : (n : ℕ) → n < 256 → Stores lens slots n (node_of n (events limit xs)).pages
  pub numbers : free ≡ free_numbers (views_of (table limit (events limit xs)))
  pub thin : w ≡ thin (views_of (table limit (events limit xs)))

-- they refuse with 8 or 9
pub data Condemns (limit : ℕ) (xs : List Live) : Refusal → Type 0 where
  unread : is_read limit xs ≡ false → Condemns limit xs Layout
  no_tree : is_read limit xs ≡ true → is_tree limit xs ≡ false → Condemns limit xs Shape

-- the answer says what they say
abbrev pub Judges : ℕ → List Live → List ℕ → List ℕ → List ℕ → Result Bool Refusal → Type 0
Judges limit xs lens slots free (Err e) = Condemns limit xs e
Judges limit xs lens slots free (Ok w) = Passed limit xs lens slots free w

-- for keys that are those of the standing pages of the image
abbrev pub JudgesKeys : Geometry → List ℕ → List ℕ → ℕ → List ℕ → List ℕ → List ℕ → Result Bool Refusal → Type 0
JudgesKeys g image keys limit lens slots free r =
    (v xs : List Live) → steps g (pages_of g image) ≡ stand v xs → keys ≡ map key_of xs → Judges limit xs lens slots free r

-- ---- the commit numbers of keys in order, of which the last `voids` are those of the void pages
-- the commit number of the key at index j
abbrev pub commit_at : List ℕ → ℕ → ℕ
commit_at order j = get_or order j 0 / (256 * (256 * most_pages))

-- of the last standing page and of the last void page, where there is one
abbrev pub means_by : List ℕ → ℕ → Bool → Meaning
means_by order voids w = record { commit = commit_at order (most_pages - 1 - voids); void = cond (eqb voids 0) None (Some (commit_at order (most_pages - 1))); thin = w }

-- a page stands, and both are commit numbers of 32 bits
pub record Numbered (order : List ℕ) (voids : ℕ) : Type 0 where
  pub few : voids < most_pages
  pub last : commit_at order (most_pages - 1 - voids) < 4294967296
  pub end : commit_at order (most_pages - 1) < 4294967296

-- ---- steps 1 to 6
-- what steps 1 to 3 refuse
abbrev pub refused_by : Unsettled → Refusal
refused_by U.Blank = Blank
refused_by U.Layout = Layout

-- the image means these nodes and this number; the arrays hold their lists, which give their views, and the numbers that none of them has; v is the commit of the void pages, if there are any;
-- w tells whether the tree is thin
pub record Read (g : Geometry) (image lens slots free : List ℕ) (G : ℕ) (v : Option ℕ) (w : Bool) : Type 0 where
  pub nodes : List Node
  pub means : Views.meaning g (8 * blocks_of g (length image)) (pages_of g image) ≡ Views.means nodes G
  pub tree : step6 (views_of nodes) ≡ true
  pub lists : (n : ℕ) → n < 8 * blocks_of g (length image) → Stores lens slots n (node_at nodes n).pages
  pub views : pages_table g image lens slots (8 * blocks_of g (length image)) ≡ views_of nodes
  pub numbers : free ≡ free_numbers (views_of nodes)
  pub marks : mount_ops g (pages_of g image) ≡ marks_of g v (pages_of g image)
  pub thin : w ≡ thin (views_of nodes)

-- an image that means nothing is refused with 7, 8 or 9
pub data Unread (g : Geometry) (image : List ℕ) : Refusal → Type 0 where
  blank : image_meaning g image ≡ invalid 7 → Unread g image Blank
  layout : image_meaning g image ≡ invalid 8 → Unread g image Layout
  shape : image_meaning g image ≡ invalid 9 → Unread g image Shape

-- the answer says what the image means
abbrev pub Checks : Geometry → List ℕ → List ℕ → List ℕ → List ℕ → Result Meaning Refusal → Type 0
Checks g image lens slots free (Err e) = Unread g image e
Checks g image lens slots free (Ok m) = Read g image lens slots free m.commit m.void m.thin
