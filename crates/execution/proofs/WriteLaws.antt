-- The pages of a commit written and noted, one after the other. Assumes nothing.
use Rattle.std.proofs.Common.{◌≡◌, ℕ, ◌+◌, ◌-◌, ◌^◌, ◌<◌, ◌≤◌, Bool, true, List, [], ◌++◌, length, get_or, take, sym, refl, ap, ◌∙◌, subst, append-nil, add-one, arith, length-append, take_at}
use mathlib.Core.List.{foldl, foldl-append}
use Rattle.lists.specs.Lists.{All, all, flat, tab}
use Rattle.lists.proofs.Flats.{flat_append, tab_last}
use Rattle.chip.specs.declared.progress.Progress.{Progress}
use Rattle.chip.specs.Geometry.{Geometry}
use Rattle.chip.specs.Chip.{Op}
use Rattle.chip.specs.RunCode.{Ran}
use Rattle.chip.proofs.Runs.{ran_append, ran_none}
use Rattle.pages.specs.declared.header.Head.{Head}
use Rattle.pages.specs.declared.unit.Unit as U
use Rattle.pages.specs.declared.unit.Update.{Update}
use Rattle.pages.specs.Units.{Valid, encode, half}
use Rattle.pages.specs.Data.{data_of}
use Rattle.pages.specs.Steps.{Live}
use Rattle.pages.specs.Write.{writes}
use Rattle.pages.proofs.HeaderLaws.{laid_head}
use Rattle.views.specs.Table.{Event, Node, events, events_of, is_sound, turn}
use Rattle.views.specs.PassCode.{Notes, Turned}
use Rattle.views.specs.Stored.{Stores}
use Rattle.views.proofs.Folds.{events_laid, good_sound}
use Rattle.journal.specs.Commit.{writes_of}
use Rattle.journal.specs.PlanCode.{target_in}
use Rattle.execution.specs.declared.write.Pages.{Pages}
use Rattle.execution.specs.GatherCode.{Built, page_units}
use Rattle.execution.specs.WriteCode.{Holds, NotesPage, Writes, live_in}

-- ---- no units, and units behind others
turned_none : (l s : List ℕ) → Turned [] l s l s
turned_none l s m h x k = k

turned_append : (es fs : List Event) (l s r t u v : List ℕ) → Turned es l s r t → Turned fs r t u v → Turned (es ++ fs) l s u v
turned_append es fs l s r t u v a b m h x k =
    subst (λ (y : Node). Stores u v m y.pages) (sym (foldl-append (turn m) x es fs)) (b m h (foldl (turn m) x es) (a m h x k))

-- units that obey the layout are noted
pub notes_turned : (es : List Event) (l s r t : List ℕ) (answer : Bool) → all is_sound es ≡ true → Notes (all is_sound es) es l s r t answer → Turned es l s r t
notes_turned es l s r t answer e n = n.is (n.good ∙ e)

-- ---- a page of a commit
module _ (g : Geometry) (limit p c i n : ℕ) (us : List U.Unit) (hc : c < 2 ^ 32) where
  page_sound : All (Valid limit) us → all is_sound (events_of limit (record { place = p; bytes = data_of g c i n us })) ≡ true
  page_sound v = ap (all is_sound) (events_laid g limit p c i n us hc v) ∙ good_sound p us

  page_half : half (data_of g c i n us) 6 ≡ length us
  page_half = ap (λ (h : Head). h.units) (laid_head g c i n (length us) (flat encode us) hc)

  -- noted, where its units fit a page and obey the layout
  page_turned : (l s u v : List ℕ) → length us ≤ g.units → All (Valid limit) us → NotesPage g limit p (data_of g c i n us) l s u v
      → Turned (events_of limit (record { place = p; bytes = data_of g c i n us })) l s u v
  page_turned l s u v few valid t = t (omega (arith, page_half)) (page_sound valid)

-- ---- pages written
-- a page lent as the front of an array: it is within it, and read again it is the same
pub front_in : (n : ℕ) (page rest : List ℕ) → length page ≡ n → n ≤ length (page ++ rest)
front_in n page rest e = omega (arith, length-append page rest)

pub lent_front : (n : ℕ) (page rest : List ℕ) → length page ≡ n → take (n - 0) (page ++ rest) ≡ page
lent_front n page rest e = take_at page rest (n - 0) (omega arith)

-- page i
module _ (pages : Pages) (targets sizes units torn places : List ℕ) (i : ℕ) (hc : pages.commit < 2 ^ 32) (on : i < pages.total) (p p' : Progress)
    (xs ys l s u v page lent : List ℕ) (b : Built pages.geometry pages.limit targets sizes units pages.commit i pages.total page) (same : lent ≡ page) where
  abbrev live : (ℕ → List Update) → Live
  live f = live_in pages f targets places i

  page_is : (f : ℕ → List Update) → Holds pages.geometry pages.limit f targets sizes units pages.total → lent ≡ (live f).bytes
  page_is f h = same ∙ b f h.written (h.fits i on)

  pub writes_page : Ran pages.geometry torn (writes (get_or places i 0) lent) p p' xs ys → NotesPage pages.geometry pages.limit (get_or places i 0) lent l s u v
      → Writes pages targets sizes units places torn i 1 p p' xs ys l s u v
  writes_page w t =
      record {
        size = w.size;
        ran = λ f h. subst (λ (x : List ℕ). Ran pages.geometry torn (writes (get_or places i 0) x) p p' xs ys) (page_is f h) w;
        turned = λ f h valid.
            subst (λ (es : List Event). Turned es l s u v) (sym (append-nil (events_of pages.limit (live f))))
            (page_turned pages.geometry pages.limit (get_or places i 0) pages.commit i pages.total (page_units f (target_in targets) pages.limit i) hc l s u v (h.fits i on) (valid i on)
            (subst (λ (x : List ℕ). NotesPage pages.geometry pages.limit (get_or places i 0) x l s u v) (page_is f h) t));
      }

module _ {pages : Pages} {targets sizes units places torn : List ℕ} where
  -- none
  pub writes_none : (p : Progress) (xs l s : List ℕ) → Writes pages targets sizes units places torn 0 0 p p xs xs l s l s
  writes_none p xs l s = record { size = refl; ran = λ f h. ran_none pages.geometry torn p xs; turned = λ f h v. turned_none l s }

-- the pages so far, and one more
module _ (pages : Pages) (targets sizes units places torn : List ℕ) (i : ℕ) where
  abbrev done : (ℕ → List Update) → List Live
  done f = tab 0 i (live_in pages f targets places)

  abbrev next : (ℕ → List Update) → List Live
  next f = tab i 1 (live_in pages f targets places)

  done_more : (f : ℕ → List Update) → tab 0 (i + 1) (live_in pages f targets places) ≡ done f ++ next f
  done_more f =
      let e : 0 + i ≡ i = omega arith in
      ap (λ (m : ℕ). tab 0 m (live_in pages f targets places)) (add-one i) ∙ tab_last (live_in pages f targets places) 0 i
      ∙ ap (λ (j : ℕ). done f ++ tab j 1 (live_in pages f targets places)) e

  pub writes_more : {p p' p'' : Progress} {xs ys zs l s u v l' s' : List ℕ} → Writes pages targets sizes units places torn 0 i p p' xs ys l s u v
      → Writes pages targets sizes units places torn i 1 p' p'' ys zs u v l' s' → Writes pages targets sizes units places torn 0 (i + 1) p p'' xs zs l s l' s'
  writes_more {p} {p'} {p''} {xs} {ys} {zs} {l} {s} {u} {v} {l'} {s'} a b =
      record {
        size = b.size ∙ a.size;
        ran = λ f h.
            subst (λ (os : List Op). Ran pages.geometry torn os p p'' xs zs) (sym (ap (flat writes_of) (done_more f) ∙ flat_append writes_of (done f) (next f)))
            (ran_append pages.geometry torn (flat writes_of (done f)) (flat writes_of (next f)) p p' p'' xs ys zs (a.ran f h) (b.ran f h));
        turned = λ f h valid.
            subst (λ (es : List Event). Turned es l s l' s')
            (sym (ap (events pages.limit) (done_more f) ∙ flat_append (events_of pages.limit) (done f) (next f)))
            (turned_append (events pages.limit (done f)) (events pages.limit (next f)) l s u v l' s' (a.turned f h valid) (b.turned f h valid));
      }
