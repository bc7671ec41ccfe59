-- A plan carried out: its erases, then its pages. Assumes nothing.
use Rattle.std.proofs.Common.{◌≡◌, ℕ, zero, suc, ◌+◌, ◌<◌, ◌≤◌, List, [], ◌∷◌, ◌++◌, map, length, get_or, take, drop, sym, refl, ap, ◌∙◌, subst, add-one, arith, length-take-le, drop-cons}
use Rattle.lists.specs.Lists.{All, flat, tab}
use Rattle.lists.proofs.Alls.{All-head, All-tail}
use Rattle.lists.proofs.Flats.{length_tab}
use Rattle.chip.specs.declared.progress.Progress.{Progress}
use Rattle.chip.specs.Geometry.{Geometry}
use Rattle.chip.specs.Chip.{erase}
use Rattle.chip.specs.RunCode.{Ran}
use Rattle.chip.proofs.Runs.{ran_append}
use Rattle.pages.specs.declared.unit.Update.{Update}
use Rattle.pages.specs.Units.{Valid}
use Rattle.pages.specs.Data.{data_of}
use Rattle.pages.specs.Steps.{Live}
use Rattle.views.specs.Table.{events}
use Rattle.views.specs.PassCode.{Turned}
use Rattle.journal.specs.Admissible.{page_packs}
use Rattle.journal.specs.Commit.{Pack, ValidSheet, new_pages, pages_from, units_of_packs, writes_of}
use Rattle.journal.specs.Plan as P
use Rattle.journal.specs.PlanCode.{target_in}
use Rattle.journal.proofs.PlanPacks.{length_sheets}
use Rattle.plan.specs.declared.make.Plan.{Plan}
use Rattle.execution.specs.declared.write.Pages.{Pages}
use Rattle.execution.specs.WriteCode.{ValidPages, Writes, live_in}
use Rattle.execution.specs.ExecutionCode.{CarriesOut, named_plan}

-- ---- the pages of the plan are those that the arrays name
-- pages k, k + 1, .., m of them, of n of commit c
module _ (g : Geometry) (c n : ℕ) (places : List ℕ) (F : ℕ → List Pack) where
  abbrev sheets_at : ℕ → ℕ → List Live
  sheets_at k m = pages_from g c n k (P.sheets (take m (drop k places)) (tab k m F))

  abbrev live_at : ℕ → Live
  live_at i = record { place = get_or places i 0; bytes = data_of g c i n (units_of_packs (F i)) }

  pages_at_lem : (m k : ℕ) → k + m ≤ length places → sheets_at k m ≡ tab k m live_at
  pages_at_lem zero k h = refl
  pages_at_lem (suc m) k h =
      ap (λ (ws : List ℕ). pages_from g c n k (P.sheets (take (suc m) ws) (tab k (suc m) F))) (drop-cons places k 0 (omega arith))
      ∙ ap (λ (xs : List Live). live_at k ∷ xs) (pages_at_lem m (suc k) (omega arith))

-- what holds of each page of the plan
sheets_all : (g : Geometry) (limit : ℕ) (F : ℕ → List Pack) (ws : List ℕ) (m k : ℕ) → m ≤ length ws → All (ValidSheet g limit) (P.sheets ws (tab k m F))
    → (i : ℕ) → i < m → All (Valid limit) (units_of_packs (F (k + i)))
sheets_all g limit F ws zero k l h i b = absurd (omega arith)
sheets_all g limit F [] (suc m) k l h i b = absurd (omega arith)
sheets_all g limit F (w ∷ ws) (suc m) k l h zero b = let e : k ≡ k + 0 = omega arith in subst (λ (j : ℕ). All (Valid limit) (units_of_packs (F j))) e (All-head h).valid
sheets_all g limit F (w ∷ ws) (suc m) k l h (suc i) b =
    let e : suc k + i ≡ k + suc i = omega arith in
    subst (λ (j : ℕ). All (Valid limit) (units_of_packs (F j))) e (sheets_all g limit F ws m (suc k) (omega arith) (All-tail h) i (omega arith))

module _ (g : Geometry) (limit : ℕ) (f : ℕ → List Update) (targets places : List ℕ) (n : ℕ) (on : n ≤ length places) where
  abbrev packs : ℕ → List Pack
  packs = page_packs f (target_in targets) limit

  many : length (take n places) ≡ n
  many = length-take-le n places on

  pub news_in : (c : ℕ) → new_pages g c (P.sheets (take n places) (tab 0 n packs)) ≡ tab 0 n (live_in (record { geometry = g; limit = limit; commit = c; total = n }) f targets places)
  news_in c =
      let size : length (P.sheets (take n places) (tab 0 n packs)) ≡ n =
      length_sheets (take n places) (tab 0 n packs) (omega (arith, many, length_tab packs 0 n)) ∙ length_tab packs 0 n in
      ap (λ (m : ℕ). pages_from g c m 0 (P.sheets (take n places) (tab 0 n packs))) size
      ∙ pages_at_lem g c n places packs n 0 (omega arith)

  pub valid_in : All (ValidSheet g limit) (P.sheets (take n places) (tab 0 n packs)) → ValidPages limit f targets n
  valid_in h p l =
      let e : 0 + p ≡ p = omega arith in
      subst (λ (j : ℕ). All (Valid limit) (units_of_packs (packs j))) e (sheets_all g limit packs (take n places) n 0 (omega (arith, many)) h p l)

-- ---- erases, then pages
module _ (g : Geometry) (limit G : ℕ) (plan : Plan) (targets sizes units torn : List ℕ) (p p' p'' : Progress) (xs ys zs l s u v : List ℕ) (few : plan.pages ≤ length plan.places) where
  abbrev its : ℕ → Pages
  its c = record { geometry = g; limit = limit; commit = c; total = plan.pages }

  abbrev news : (ℕ → List Update) → List Live
  news f = tab 0 plan.pages (live_in (its (suc G)) f targets plan.places)

  news_is : (f : ℕ → List Update) → news f ≡ P.news_of g G (named_plan limit f targets plan)
  news_is f = sym (news_in g limit f targets plan.places plan.pages few (suc G))

  executed : Ran g torn (map erase (take plan.erases plan.erased)) p p' xs ys
      → Writes (its (suc G)) targets sizes units plan.places torn 0 plan.pages p' p'' ys zs l s u v
      → CarriesOut g limit G plan targets sizes units torn p p'' xs zs l s u v
  executed e w =
      record {
        size = w.size ∙ e.size;
        ran = λ f h.
            subst (λ (ns : List Live). Ran g torn (map erase (take plan.erases plan.erased) ++ flat writes_of ns) p p'' xs zs) (news_is f)
            (ran_append g torn (map erase (take plan.erases plan.erased)) (flat writes_of (news f)) p p' p'' xs ys zs e (w.ran f h));
        turned = λ f h valid.
            subst (λ (ns : List Live). Turned (events limit ns) l s u v) (news_is f)
            (w.turned f h (valid_in g limit f targets plan.places plan.pages few valid));
      }

  pub executes : Ran g torn (map erase (take plan.erases plan.erased)) p p' xs ys
      → Writes (its (G + 1)) targets sizes units plan.places torn 0 plan.pages p' p'' ys zs l s u v
      → CarriesOut g limit G plan targets sizes units torn p p'' xs zs l s u v
  executes e w =
      executed e (subst (λ (c : ℕ). Writes (its c) targets sizes units plan.places torn 0 plan.pages p' p'' ys zs l s u v) (add-one G) w)
