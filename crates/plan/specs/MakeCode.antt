-- How the code of choose.rt and make.rt holds the decision of the policy and its places, whatever image and arrays hold.
use Rattle.std.specs.Prelude.{◌≡◌, Option, cond, List, ℕ, suc, ◌+◌, ◌*◌, ◌<◌, ◌≤◌, leb, length, take}
use Rattle.std.specs.Option.{ForNone, ForSome}
use Rattle.lists.specs.Lists.{All}
use Rattle.chip.specs.Geometry.{Geometry}
use Rattle.chip.specs.Page.{Page}
use Rattle.pages.specs.Steps.{live_from}
use Rattle.journal.specs.Commit.{units_of_packs}
use Rattle.journal.specs.Plan.{head_block, places, spare_blocks}
use Rattle.journal.specs.Admissible.{Assignment, Contents, page_packs, written_of}
use Rattle.journal.specs.Policy.{Decision, decide_on, delta_assignment, follow, in_first, nothing, snapshot_assignment}
use Rattle.journal.specs.PlanCode.{KeepsWritten, target_in}
use Rattle.contents.specs.ContentsCode.{contents_in, in_oldest}
use Rattle.plan.specs.SurveyCode.{unused_in, used_around}
use Rattle.plan.specs.PlacesCode.{first_erases, first_places}
use Rattle.plan.specs.declared.make.Plan.{Plan}

-- ---- the pages
-- the arrays hold the assignment A of r pages: the page of each node below limit, and what is written of it
pub record HoldsAssignment (g : Geometry) (limit : ℕ) (N : Contents) (targets sizes units : List ℕ) (r : ℕ) (A : Assignment) : Type 0 where
  pub count : A.count ≡ r
  pub target : (n : ℕ) → n < limit → target_in targets n ≡ A.target n
  pub written : KeepsWritten limit (written_of N A.is_anew) targets sizes units
  pub fits : (p : ℕ) → length (units_of_packs (page_packs (written_of N A.is_anew) A.target limit p)) ≤ g.units
  pub few : 2 * r ≤ suc limit

-- a delta where `wide` places are enough for its pages and one more, else a snapshot where `narrow` places are, else nothing; us are the used blocks
abbrev pub chosen : Geometry → ℕ → ℕ → ℕ → List ℕ → Contents → Decision
chosen g limit wide narrow us N =
    cond (leb (suc (delta_assignment g limit us N).count) wide) (follow (delta_assignment g limit us N))
    (cond (leb (suc (snapshot_assignment g limit N).count) narrow) (follow (snapshot_assignment g limit N)) nothing)

-- the decision D is to follow an assignment of r pages, and the arrays hold it
abbrev pub HoldsFollowed : Geometry → ℕ → Contents → List ℕ → List ℕ → List ℕ → Decision → ℕ → Type 0
HoldsFollowed g limit N targets sizes units D r = (A : Assignment) × (D ≡ follow A) × HoldsAssignment g limit N targets sizes units r A

-- the arrays hold the decision D, of r pages; none where it is nothing
pub record HoldsDecision (g : Geometry) (limit : ℕ) (N : Contents) (targets sizes units : List ℕ) (r : Option ℕ) (D : Decision) : Type 0 where
  pub none : ForNone r (D ≡ nothing)
  pub some : ForSome r (HoldsFollowed g limit N targets sizes units D)

-- the same where `oldest` is the first of the used blocks, if there is one
abbrev pub Chooses : Geometry → ℕ → Option ℕ → ℕ → ℕ → Contents → List ℕ → List ℕ → List ℕ → Option ℕ → Type 0
Chooses g limit oldest wide narrow N targets sizes units r =
    (us : List ℕ) → ((n : ℕ) → n < limit → in_first g N us n ≡ in_oldest g oldest (N.listed n))
    → HoldsDecision g limit N targets sizes units r (chosen g limit wide narrow us N)

-- ---- the places of n pages and one more on the head and the blocks bs, and the blocks to erase before these are written
pub record LaysPlan (g : Geometry) (B head : ℕ) (bs : List ℕ) (n : ℕ) (ps : List Page) (r : Plan) : Type 0 where
  pub pages : r.pages ≡ n
  pub enough : n + 1 ≤ length (places g ps head bs)
  pub places : take (n + 1) r.places ≡ first_places g ps head bs (n + 1)
  pub on : All (λ (p : ℕ). p < B * g.pages) (take (n + 1) r.places)
  pub most : r.erases ≤ 32
  pub many : length (take r.erases r.erased) ≡ r.erases
  pub erased : take r.erases r.erased ≡ first_erases g ps head bs (n + 1)
  pub within : All (λ (b : ℕ). b < B) (take r.erases r.erased)

-- ---- the plan of commit G + 1
-- the blocks of B that are unused, and those that are used, in circular order after the head
abbrev pub unused_of : Geometry → ℕ → ℕ → List ℕ → List ℕ → ℕ → List Page → List ℕ
unused_of g limit B lens slots G ps = unused_in g B limit lens slots G (live_from g 0 ps) (head_block g ps)

abbrev pub used_of : Geometry → ℕ → ℕ → List ℕ → List ℕ → ℕ → List Page → List ℕ
used_of g limit B lens slots G ps = used_around g B limit lens slots G (live_from g 0 ps) (head_block g ps)

-- the decision of the policy, over the contents that image and arrays give
abbrev pub decision_of : Geometry → ℕ → ℕ → List ℕ → List ℕ → ℕ → List ℕ → ℕ → List Page → Decision
decision_of g limit B lens slots count bytes G ps =
    decide_on g limit (spare_blocks g B) ps (head_block g ps) (unused_of g limit B lens slots G ps) (used_of g limit B lens slots G ps) (contents_in g limit ps lens slots count bytes)

-- a plan of the decision: it has a page, the arrays hold it, and its places and erases are laid
pub record MakesPlan (g : Geometry) (limit B : ℕ) (lens slots : List ℕ) (count : ℕ) (bytes : List ℕ) (G : ℕ) (ps : List Page) (targets sizes units : List ℕ) (r : Plan) : Type 0 where
  pub some : 0 < r.pages
  pub decision : HoldsFollowed g limit (contents_in g limit ps lens slots count bytes) targets sizes units (decision_of g limit B lens slots count bytes G ps) r.pages
  pub laid : LaysPlan g B (head_block g ps) (unused_of g limit B lens slots G ps) r.pages ps r

-- a plan of the decision, none where it is nothing or to follow an assignment of no page, which the arrays hold then
pub record Makes (g : Geometry) (limit B : ℕ) (lens slots : List ℕ) (count : ℕ) (bytes : List ℕ) (G : ℕ) (ps : List Page) (targets sizes units : List ℕ) (r : Option Plan) : Type 0 where
  pub none : ForNone r ((A : Assignment) → decision_of g limit B lens slots count bytes G ps ≡ follow A
      → HoldsAssignment g limit (contents_in g limit ps lens slots count bytes) targets sizes units 0 A)
  pub made : ForSome r (MakesPlan g limit B lens slots count bytes G ps targets sizes units)
