-- A plan that is made and carried out is the plan of the policy, on arrays that hold a table. Assumes nothing.
use mathlib.Core.Path.{◌≡◌, refl, sym, ap, ap₂, ◌∙◌, subst}
use mathlib.Core.Logic.{⊎_elim}
use mathlib.Core.Bool.{true, false}
use mathlib.Core.List.{List, [], ◌∷◌, foldl, map}
use Prim.Native.Nat.{ℕ, zero, suc, ◌+◌, ◌*◌, ◌<◌, ◌≤◌}
use native.Mathlib.Numerals.{add-one}
use native.Mathlib.Omega.{arith}
use lib.ListN.{length, take}
use lib.Seq.{length-take-le, take-take}
use Rattle.std.proofs.Common.{None, Option, Some}
use Rattle.std.proofs.lemmas.Option.{none-some, same_Some}
use Rattle.lists.specs.Lists.{All, none, tab}
use Rattle.lists.proofs.Flats.{length_tab, tab_same}
use Rattle.lists.proofs.Alls.{All-take}
use Rattle.lists.proofs.Tests.{clash}
use Rattle.chip.specs.declared.progress.Progress.{Progress}
use Rattle.chip.specs.Geometry.{Geometry, Fits, page_size}
use Rattle.chip.specs.Page.{Page}
use Rattle.chip.specs.Chip.{erase, pages_of}
use Rattle.chip.specs.Erases.{figures_after}
use Rattle.chip.specs.RunCode.{Ran}
use Rattle.pages.specs.declared.unit.Unit as U
use Rattle.pages.specs.declared.unit.Update.{Update}
use Rattle.pages.specs.Steps.{Live}
use Rattle.views.specs.Table.{Node, events, turn}
use Rattle.views.specs.PassCode.{Turned}
use Rattle.views.specs.Stored.{Stores}
use Rattle.journal.specs.Commit.{Pack, Sheet, ValidSheet, units_of_packs}
use Rattle.journal.specs.Plan.{Plan, erases, head_block, is_empty, news_of, node_at, ops_of, places, sheets, spare_blocks, stuck}
use Rattle.journal.specs.Admissible.{Assignment, Contents, all_packs, contents_of, page_packs, written_of}
use Rattle.journal.specs.Policy.{Decision, plan_of, follow, nothing}
use Rattle.journal.specs.PlanCode.{target_in}
use Rattle.journal.proofs.EraseLaws.{commit_figures}
use Rattle.journal.proofs.ContentsLaws.{page_same}
use Rattle.journal.proofs.AssignedChoice.{Chip, Committable}
use Rattle.journal.proofs.PlanKept.{chip_of, wide, ready}
use Rattle.journal.proofs.AdmissibleLaws.{Safe}
use Rattle.journal.proofs.PolicyCommits.{foreign}
use Rattle.contents.specs.ContentsCode.{contents_in}
use Rattle.plan.specs.declared.make.Plan as M
use Rattle.plan.specs.MakeCode.{HoldsAssignment, Makes, MakesPlan, decision_of, unused_of}
use Rattle.plan.proofs.PlaceLaws.{first_erases_is, first_places_is}
use Rattle.execution.specs.ExecutionCode.{CarriesOut, named_plan}
use Rattle.execution.specs.WriteCode.{Holds}
use Rattle.commits.specs.ExecuteCode.{Executes, Plannable, plan_over, plan_read}
use Rattle.commits.proofs.HeldLaws.{held_contents, held_list, held_size}
use Rattle.commits.proofs.ReadLaws.{read_plan}

-- ---- places beyond the pages are of no account
sheets_take : (n : ℕ) (ws : List ℕ) (ks : List (List Pack)) → length ks ≤ n → sheets (take n ws) ks ≡ sheets ws ks
sheets_take zero ws [] l = none_left ws
  where
    none_left : (ws : List ℕ) → sheets (take 0 ws) [] ≡ sheets ws []
    none_left [] = refl
    none_left (w ∷ ws) = refl
sheets_take zero ws (k ∷ ks) l = absurd (omega arith)
sheets_take (suc n) [] ks l = refl
sheets_take (suc n) (w ∷ ws) [] l = refl
sheets_take (suc n) (w ∷ ws) (k ∷ ks) l = ap (λ (ts : List Sheet). record { place = w; packs = k } ∷ ts) (sheets_take n ws ks (omega arith))

-- a page and a place: the plan has a page; no page: it has none
sheets_some : (ws : List ℕ) (ks : List (List Pack)) → 0 < length ks → 0 < length ws → is_empty (sheets ws ks) ≡ false
sheets_some ws [] h l = absurd (omega arith)
sheets_some [] (k ∷ ks) h l = absurd (omega arith)
sheets_some (w ∷ ws) (k ∷ ks) h l = refl

sheets_none : (ws : List ℕ) (ks : List (List Pack)) → length ks ≡ 0 → is_empty (sheets ws ks) ≡ true
sheets_none [] ks h = refl
sheets_none (w ∷ ws) [] h = refl
sheets_none (w ∷ ws) (k ∷ ks) h = absurd (omega arith)

-- as many as pages, where there are places
sheets_many : (ws : List ℕ) (ks : List (List Pack)) → length ks ≤ length ws → length (sheets ws ks) ≡ length ks
sheets_many [] [] h = refl
sheets_many [] (k ∷ ks) h = absurd (omega arith)
sheets_many (w ∷ ws) [] h = refl
sheets_many (w ∷ ws) (k ∷ ks) h = ap suc (sheets_many ws ks (omega arith))

first_some : (n : ℕ) (ws : List ℕ) → n + 1 ≤ length ws → 0 < length (take (suc n) ws)
first_some n [] h = absurd (omega arith)
first_some n (w ∷ ws) h = omega arith

-- ---- the lists after a commit
stores_after : (limit : ℕ) (T : ℕ → Node) (news : List Live) (l s u v : List ℕ) → limit ≤ 256 → ((m : ℕ) → m < limit → Stores l s m (T m).pages)
    → Turned (events limit news) l s u v → (m : ℕ) → m < limit → Stores u v m (foldl (turn m) (T m) (events limit news)).pages
stores_after limit T news l s u v b h k m i = k m (omega arith) (T m) (h m i)

-- ---- the plan that is read from arrays that hold a table
plan_read_lem : {g : Geometry} {limit B : ℕ} {lens slots : List ℕ} {count : ℕ} {bytes : List ℕ} {G : ℕ} {ps : List Page} {tb : List Node} {us : List U.Unit}
    → Plannable g limit B lens slots count bytes ps tb G us → plan_read g limit B lens slots count bytes G ps ≡ plan_of g limit B ps tb G us
plan_read_lem {g} {limit} {B} {lens} {slots} {count} {bytes} {G} {ps} {tb} {us} pl =
    read_plan g limit B lens slots count bytes G ps tb (held_size pl.held) (held_list pl.held) (contents_of (node_at tb) us) (held_contents pl.held)

-- ---- the plan that is read is the one of its decision
read_is : (g : Geometry) (limit B : ℕ) (lens slots : List ℕ) (count : ℕ) (bytes : List ℕ) (G : ℕ) (ps : List Page) (D : Decision)
    → decision_of g limit B lens slots count bytes G ps ≡ D
    → plan_read g limit B lens slots count bytes G ps ≡ plan_over g limit ps (unused_of g limit B lens slots G ps) (contents_in g limit ps lens slots count bytes) D
unfolding plan_read
read_is g limit B lens slots count bytes G ps D e =
    ap (plan_over g limit ps (unused_of g limit B lens slots G ps) (contents_in g limit ps lens slots count bytes)) e

-- ---- no plan is made: the one that is read has no page
module _ {g : Geometry} {limit B : ℕ} {lens slots : List ℕ} {count : ℕ} {bytes : List ℕ} {G : ℕ} {ps : List Page} {targets sizes units : List ℕ} {o : Option M.Plan}
    (m : Makes g limit B lens slots count bytes G ps targets sizes units o) (none-made : o ≡ None) where
  abbrev L : Contents
  L = contents_in g limit ps lens slots count bytes

  abbrev unused : List ℕ
  unused = unused_of g limit B lens slots G ps

  none_by : (D : Decision) → decision_of g limit B lens slots count bytes G ps ≡ D → is_empty (plan_over g limit ps unused L D).written ≡ true
  none_by nothing e = refl
  none_by (follow A) e =
      sheets_none (take (suc (length (all_packs L A limit))) (places g ps (head_block g ps) unused)) (all_packs L A limit)
      (length_tab (page_packs (written_of L A.is_anew) A.target limit) 0 A.count ∙ (m.none none-made A e).count)

  pub read_none : is_empty (plan_read g limit B lens slots count bytes G ps).written ≡ true
  read_none =
      let D = decision_of g limit B lens slots count bytes G ps in
      ap (λ (p : Plan). is_empty p.written) (read_is g limit B lens slots count bytes G ps D refl) ∙ none_by D refl

-- ---- a plan is made: it is the one that is read
module _ {g : Geometry} {limit B : ℕ} {lens slots : List ℕ} {count : ℕ} {bytes : List ℕ} {G : ℕ} {ps : List Page} {targets sizes units : List ℕ} {r : M.Plan}
    (m : MakesPlan g limit B lens slots count bytes G ps targets sizes units r) where
  abbrev N : Contents
  N = contents_in g limit ps lens slots count bytes

  abbrev un : List ℕ
  un = unused_of g limit B lens slots G ps

  abbrev q : Plan
  q = plan_read g limit B lens slots count bytes G ps

  -- its assignment
  abbrev A : Assignment
  A = m.decision.0

  is_read : q ≡ plan_over g limit ps un N (follow A)
  is_read = read_is g limit B lens slots count bytes G ps (follow A) m.decision.1

  held : HoldsAssignment g limit N targets sizes units r.pages A
  held = m.decision.2

  abbrev f : ℕ → List Update
  f = written_of N A.is_anew

  abbrev ks : List (List Pack)
  ks = all_packs N A limit

  page_is : (p : ℕ) → page_packs f (target_in targets) limit p ≡ page_packs f A.target limit p
  page_is p = page_same f f (target_in targets) A.target limit p (λ n l. refl) held.target

  ks_is : tab 0 r.pages (page_packs f (target_in targets) limit) ≡ ks
  ks_is =
      tab_same (page_packs f (target_in targets) limit) (page_packs f A.target limit) 0 r.pages (λ p l. page_is p)
      ∙ ap (λ (c : ℕ). tab 0 c (page_packs f A.target limit)) (sym held.count)

  ks_many : length ks ≡ r.pages
  ks_many = length_tab (page_packs f A.target limit) 0 A.count ∙ held.count

  abbrev ws : List ℕ
  ws = places g ps (head_block g ps) un

  first_is : take (suc r.pages) r.places ≡ take (suc r.pages) ws
  first_is =
      subst (λ (n : ℕ). take n r.places ≡ take n ws) (add-one r.pages)
      (m.laid.places ∙ first_places_is g ps (head_block g ps) un (r.pages + 1))

  sheets_is : sheets (take r.pages r.places) ks ≡ sheets (take (suc (length ks)) ws) ks
  sheets_is =
      sheets_take r.pages r.places ks (omega (arith, ks_many)) ∙ sym (sheets_take (suc r.pages) r.places ks (omega (arith, ks_many)))
      ∙ ap (λ (xs : List ℕ). sheets xs ks) first_is ∙ ap (λ (n : ℕ). sheets (take (suc n) ws) ks) (sym ks_many)

  erased_is : take r.erases r.erased ≡ erases g ps (take (suc (length ks)) ws) un
  erased_is =
      m.laid.erased ∙ first_erases_is g ps (head_block g ps) un (r.pages + 1)
      ∙ ap (λ (n : ℕ). erases g ps (take n ws) un) (add-one r.pages ∙ ap suc (sym ks_many))

  pub named_is : named_plan limit f targets r ≡ q
  named_is =
      ap₂ (λ (xs : List ℕ) (ts : List Sheet). record { erased = xs; written = ts }) erased_is
      (ap (sheets (take r.pages r.places)) ks_is ∙ sheets_is) ∙ sym is_read

  pub read_some : is_empty q.written ≡ false
  read_some =
      ap (λ (p : Plan). is_empty p.written) is_read
      ∙ sheets_some (take (suc (length ks)) ws) ks (subst (λ (n : ℕ). 0 < n) (sym ks_many) m.some)
      (subst (λ (n : ℕ). 0 < length (take (suc n) ws)) (sym ks_many) (first_some r.pages ws m.laid.enough))

  -- as many pages
  pub read_pages : length q.written ≡ r.pages
  read_pages =
      ap (λ (p : Plan). length p.written) is_read
      ∙ sheets_many (take (suc (length ks)) ws) ks (within (length ks) r.pages (length ws) (length (take (suc (length ks)) ws)) ks_many m.laid.enough (length-take-le (suc (length ks)) ws))
      ∙ ks_many
    where
      within : (k n w t : ℕ) → k ≡ n → n + 1 ≤ w → (suc k ≤ w → t ≡ suc k) → k ≤ t
      within k n w t e h f = omega (arith, f (omega arith))

  pub named_holds : Holds g limit f targets sizes units r.pages
  named_holds =
      record {
        written = held.written;
        fits = λ p l. let z : length (units_of_packs (page_packs f A.target limit p)) ≤ g.units = held.fits p in rw (page_is p) z;
      }

  -- as many erases as the code's plan says
  pub read_erases : length q.erased ≡ r.erases
  read_erases = ap (λ (p : Plan). length p.erased) (sym named_is) ∙ m.laid.many

  -- ---- arrays that hold a table
  module _ {tb : List Node} {us : List U.Unit} (pl : Plannable g limit B lens slots count bytes ps tb G us) where
    plan_ready : Committable g limit B ps tb G us
    plan_ready =
        ready g limit B ps tb G us (record { is = pl.held.is; clean = pl.held.clean }) pl.number pl.bytes pl.sizes pl.long
        (record { pending = pl.some; valid = pl.valid; whole = pl.whole })

    -- each page of the plan has units that fit it and obey the layout
    plan_holds : Fits g → (torn : List ℕ) → length torn ≡ page_size g → 3 ≤ B → All (ValidSheet g limit) (plan_of g limit B ps tb G us).written
    plan_holds f torn size many =
        ⊎_elim
        (λ (e : plan_of g limit B ps tb G us ≡ stuck). subst (λ (p : Plan). All (ValidSheet g limit) p.written) (sym e) none)
        (λ (sf : Safe g limit B (spare_blocks g B) torn ps tb G us (plan_of g limit B ps tb G us)). sf.pages_hold)
        (foreign g limit B torn (subst (λ (n : ℕ). Chip g n B torn) (sym pl.limits) (chip_of g f B torn size)) ps tb G us plan_ready pl.some (wide g f B many))

    -- its pages noted
    pub listed : Fits g → (torn : List ℕ) → length torn ≡ page_size g → 3 ≤ B → B ≤ 32 → {p reached : Progress} {before after u v : List ℕ}
        → CarriesOut g limit G r targets sizes units torn p reached before after lens slots u v
        → (n : ℕ) → n < limit → Stores u v n (foldl (turn n) (node_at tb n) (events limit (news_of g G q))).pages
    listed part torn size many most {p} {reached} {before} {after} {u} {v} c =
        let valid : All (ValidSheet g limit) q.written = subst (λ (p : Plan). All (ValidSheet g limit) p.written) (sym (plan_read_lem pl)) (plan_holds part torn size many) in
        let turned : Turned (events limit (news_of g G q)) lens slots u v =
        subst (λ (p : Plan). Turned (events limit (news_of g G p)) lens slots u v) named_is
        (c.turned f named_holds (subst (λ (p : Plan). All (ValidSheet g limit) p.written) (sym named_is) valid)) in
        stores_after limit (node_at tb) (news_of g G q) lens slots u v (omega (arith, pl.limits)) pl.held.lists turned

  -- ---- carried out, on any arrays
  pub carried : {torn : List ℕ} {p reached : Progress} {before after l s u v : List ℕ} → CarriesOut g limit G r targets sizes units torn p reached before after l s u v
      → Ran g torn (ops_of g G q) p reached before after
  carried {torn} {p} {reached} {before} {after} c =
      subst (λ (x : Plan). Ran g torn (ops_of g G x) p reached before after) named_is (c.ran f named_holds)

  worn_by : (w x : List ℕ) → x ≡ figures_after (map erase (take r.erases r.erased)) w → x ≡ figures_after (ops_of g G q) w
  worn_by w x k =
      k ∙ ap (λ (p : Plan). figures_after (map erase p.erased) w) named_is ∙ commit_figures q.erased (news_of g G q) w

-- ---- the call
module _ {g : Geometry} {limit B : ℕ} {lens slots : List ℕ} {count : ℕ} {bytes : List ℕ} {G : ℕ} (before : List ℕ) {targets sizes units : List ℕ} {o : Option M.Plan}
    (m : Makes g limit B lens slots count bytes G (pages_of g before) targets sizes units o) where
  -- no plan: nothing is done
  pub executes_none : o ≡ None → (torn : List ℕ) (p : Progress) (l s u v w x : List ℕ)
      → Executes g limit B lens slots count bytes G torn p before before l s u v w x None
  executes_none z torn p l s u v w x =
      record {
        size = refl;
        stuck = sym (read_none m z);
        still = λ e. refl;
        ran = λ q e. absurd (none-some q e);
        figures = λ e. clash e refl;
        lists = λ tb us pl a b e. clash e refl;
      }

module _ {g : Geometry} {limit B : ℕ} {lens slots : List ℕ} {count : ℕ} {bytes : List ℕ} {G : ℕ} (before : List ℕ) {targets sizes units : List ℕ} {r : M.Plan}
    (m : MakesPlan g limit B lens slots count bytes G (pages_of g before) targets sizes units r) where
  -- a plan: it is carried out
  pub executes_some : Fits g → (torn : List ℕ) → length torn ≡ page_size g → 3 ≤ B → B ≤ 32 → {p reached : Progress} {after l s u v : List ℕ}
      → CarriesOut g limit G r targets sizes units torn p reached before after l s u v
      → {w x : List ℕ} → x ≡ figures_after (map erase (take r.erases r.erased)) w
      → Executes g limit B lens slots count bytes G torn p before after l s u v w x (Some reached)
  executes_some part torn size many most {p} {reached} {after} {l} {s} {u} {v} c {w} {x} k =
      record {
        size = c.size;
        stuck = sym (read_some m);
        still = λ e. absurd (none-some reached (sym e));
        ran = λ q e. subst (λ (y : Progress). Ran g torn (ops_of g G (plan_read g limit B lens slots count bytes G (pages_of g before))) p y before after)
            (same_Some reached q e) (carried m c);
        figures = λ e. worn_by m w x k;
        lists = λ tb us pl a b e. listed m pl part torn size many most
            (subst (λ (y : List ℕ). CarriesOut g limit G r targets sizes units torn p reached before after y slots u v) a
            (subst (λ (y : List ℕ). CarriesOut g limit G r targets sizes units torn p reached before after l y u v) b c));
      }

  -- what the execution asks of the plan
  pub pages_most_lem : limit ≤ 256 → r.pages ≤ 128
  pages_most_lem h = go m.decision.2.few
    where
      go : 2 * r.pages ≤ suc limit → r.pages ≤ 128
      go k = omega arith

  pub places_on : All (λ (x : ℕ). x < B * g.pages) (take r.pages r.places)
  places_on =
      subst (All (λ (x : ℕ). x < B * g.pages)) (take-take r.pages (r.pages + 1) r.places (omega arith))
      (All-take r.pages m.laid.on)
