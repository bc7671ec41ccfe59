-- The operations of a commit are legal: a program only where the data is all 255, every place on the chip. Assumes nothing.
use mathlib.Core.Path.{◌≡◌, sym, ◌∙◌}
use mathlib.Core.List.{List, [], ◌∷◌}
use Prim.Native.Nat.{ℕ, ◌+◌, ◌*◌, ◌≤◌}
use native.Mathlib.Omega.{arith}
use lib.ListN.{length, length-replicate, replicate, take}
use lib.Seq.{take_at}
use Rattle.lists.specs.Lists.{All, At, flat}
use Rattle.lists.proofs.Alls.{All-head, All-map, All-tail, All-zip}
use Rattle.lists.proofs.Places.{At-same, length_map_from}
use Rattle.chip.specs.declared.page.Mark.TheVariants.{Used}
use Rattle.chip.specs.Geometry.{Geometry}
use Rattle.chip.specs.Page.{Page, blank, marked, programmed}
use Rattle.chip.specs.Chip.{Legal, erase, filled, whole}
use Rattle.chip.proofs.Marks.{first, marked_data, second}
use Rattle.pages.specs.Steps.{Live}
use Rattle.views.proofs.ViewLaws.{Apart}
use Rattle.journal.specs.Commit.{cleared, commit_ops, writes_of}
use Rattle.journal.proofs.CommitCut.{put, used, wrote}
use Rattle.journal.proofs.PlanLive.{wrote_other}

module _ (g : Geometry) where
  first_data : take g.area (first g 0) ≡ replicate g.area 255
  unfolding blank
  first_data =
      marked_data g Used 0 (blank g) ∙ take_at (replicate g.area 255) (replicate g.spare 255) g.area (length-replicate g.area 255)

  writes_legal : (w : List Live) (ps : List Page) → All (λ x. length x.bytes ≡ g.area) w → All (λ x. At x.place (blank g) ps) w
      → Apart w → Legal g ps (flat writes_of w)
  writes_legal [] ps s f a = tt
  writes_legal (x ∷ w) ps s f a =
      let one : At x.place (first g 0) (used g x ps) = At-same (marked g Used 0) x.place (blank g) ps (All-head f) in
      let two : At x.place (second g 0 x.bytes) (put g x ps) = At-same (programmed g x.bytes) x.place (first g 0) (used g x ps) one in (
        record { page = blank g; stands = All-head f },
        (
          record { page = first g 0; stands = one; erased = first_data; size = All-head s },
          (
            record { page = second g 0 x.bytes; stands = two },
            writes_legal w (wrote g x 0 ps) (All-tail s) (All-zip (λ y b d. wrote_other g x y.place (blank g) ps (λ e. d (sym e)) b) (All-tail f) a.0) a.1,
          ),
        ),
      )

  pub commit_legal : (es : List ℕ) (news : List Live) (ps : List Page) → All (λ b. b * g.pages + g.pages ≤ length ps) es
      → All (λ x. length x.bytes ≡ g.area) news → All (λ x. At x.place (blank g) (cleared g es ps)) news → Apart news → Legal g ps (commit_ops es news)
  commit_legal [] news ps b s f a = writes_legal news ps s f a
  commit_legal (e ∷ es) news ps b s f a =
      (All-head b, commit_legal es news (whole g (erase e) ps) (All-map (λ c h. omega (arith, length_map_from 0 (filled g e (blank g)) ps)) (All-tail b)) s f a)
