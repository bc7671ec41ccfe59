-- The pages of a commit, laid out from their sheets, read back: headers, rules, units; and the new table. Assumes nothing.
use mathlib.Core.Path.{◌≡◌, refl, sym, ap, ap₂, ◌∙◌}
use mathlib.Core.Bool.{true}
use mathlib.Core.List.{List, [], ◌∷◌, ◌++◌, map, foldl}
use Prim.Native.Nat.{ℕ, suc, ◌+◌, ◌*◌, ◌^◌, ◌≤◌, ◌<◌}
use native.Mathlib.Omega.{arith}
use lib.ListN.{length}
use Rattle.lists.specs.Lists.{flat, all, All, none, more, tab}
use Rattle.lists.proofs.Alls.{All-append, all_All}
use Rattle.lists.proofs.Flats.{flat_append, map_append}
use Rattle.chip.specs.Geometry.{Geometry}
use Rattle.pages.specs.declared.header.Head.{Head}
use Rattle.std.proofs.Common.{Some}
use Rattle.pages.specs.declared.unit.Unit as U
use Rattle.pages.specs.declared.unit.Update.{Update}
use Rattle.pages.specs.Units.{encode}
use Rattle.pages.specs.Data.{data_of}
use Rattle.pages.specs.Steps.{Live, commit, index, count}
use Rattle.pages.proofs.HeaderLaws.{laid_head, laid_size, laid_obeys}
use Rattle.pages.proofs.Pairs.{own}
use Rattle.pages.proofs.Settle.{Run, start, page}
use Rattle.pages.proofs.UnitLaws.{length_units}
use Rattle.views.specs.Nodes.{apply}
use Rattle.views.specs.Table.{Event, event_at, events_of, events, is_sound, Node, turn, is_well}
use Rattle.views.specs.Groups.{own as ownUpdates, present, Group, unit_for, event_in, events_in, Distinct, Without}
use Rattle.views.proofs.Folds.{events_laid, good_sound}
use Rattle.views.proofs.Groups.{present_groups}
use Rattle.journal.specs.Commit.{Pack, Sheet, units_of_packs, group_at, groups_of, pages_from, new_pages, ValidSheet}

-- what the new pages of commit c + 1, in order of their index, owe for nodes T
pub record NextCommit (g : Geometry) (limit : ℕ) (T : ℕ → Node) (c : ℕ) (news : List Live) : Type 0 where
  pub run : Run (suc c) (length news) 0 news
  pub owns : All (λ (x : Live). own g x ≡ true) news
  pub sounds : All (λ (e : Event). is_sound e ≡ true) (events limit news)
  pub sizes : All (λ (x : Live). length x.bytes ≡ g.area) news
  pub some : 0 < length news
  pub well : all is_well (tab 0 limit (λ (n : ℕ). foldl (turn n) (T n) (events limit news))) ≡ true

-- as many pages as sheets
pub length_new : (g : Geometry) (c n k : ℕ) (ts : List Sheet) → length (pages_from g c n k ts) ≡ length ts
length_new g c n k [] = refl
length_new g c n k (t ∷ ts) = ap suc (length_new g c n (suc k) ts)

-- ---- one page: page i of n of commit c, at place p
module _ (g : Geometry) (limit p c i n : ℕ) (us : List U.Unit) (hc : c < 2 ^ 32) (fits : 8 + 12 * g.units ≤ g.area) (few : length us ≤ g.units) where
  abbrev built : Live
  built = record { place = p; bytes = data_of g c i n us }

  pub commit_built : commit built ≡ c
  unfolding commit
  commit_built = ap (λ (h : Head). h.commit) (laid_head g c i n (length us) (flat encode us) hc)

  pub index_built : index built ≡ i
  unfolding index
  index_built = ap (λ (h : Head). h.index) (laid_head g c i n (length us) (flat encode us) hc)

  pub count_built : count built ≡ n
  unfolding count
  count_built = ap (λ (h : Head). h.count) (laid_head g c i n (length us) (flat encode us) hc)

  pub size_built : length (data_of g c i n us) ≡ g.area
  size_built = laid_size g c i n (length us) (flat encode us) fits few (length_units us)

  pub own_built : 0 < c → i < n → 0 < length us → own g built ≡ true
  own_built a b d = laid_obeys g c i n (length us) (flat encode us) a hc b d few (length_units us)

-- what a page with those packs reads as
packs_events : (p : ℕ) (ks : List Pack) → map (event_at p) (map Some (units_of_packs ks)) ≡ events_in (map (group_at p) ks)
packs_events p [] = refl
packs_events p (k ∷ ks) =
    let us : List U.Unit = map (unit_for k.node) k.updates in
    ap (map (event_at p)) (map_append Some us (units_of_packs ks)) ∙ map_append (event_at p) (map Some us) (map Some (units_of_packs ks))
    ∙ ap₂ ◌++◌ (one k.updates) (packs_events p ks)
  where
    one : (us : List Update) → map (event_at p) (map Some (map (unit_for k.node) us)) ≡ map (event_in (group_at p k)) us
    one [] = refl
    one (u ∷ us) = ap₂ ◌∷◌ refl (one us)

module _ (g : Geometry) (limit c : ℕ) (hc : suc c < 2 ^ 32) (fits : 8 + 12 * g.units ≤ g.area) where
  -- the new pages read as their groups
  pub events_new : (n k : ℕ) {ts : List Sheet} → All (ValidSheet g limit) ts → events limit (pages_from g (suc c) n k ts) ≡ events_in (groups_of ts)
  events_new n k none = refl
  events_new n k (more {x = t} {xs = ts} h hs) =
      ap₂ ◌++◌
      (events_laid g limit t.place (suc c) k n (units_of_packs t.packs) hc h.valid ∙ packs_events t.place t.packs)
      (events_new n (suc k) hs)
      ∙ sym (flat_append (λ (q : Group). map (event_in q) q.updates) (map (group_at t.place) t.packs) (groups_of ts))

  run_new : (n k : ℕ) {ts : List Sheet} → All (ValidSheet g limit) ts → Run (suc c) n k (pages_from g (suc c) n k ts)
  run_new n k none = start
  run_new n k (more {x = t} h hs) =
      page (commit_built g limit t.place (suc c) k n (units_of_packs t.packs) hc fits h.few)
      (index_built g limit t.place (suc c) k n (units_of_packs t.packs) hc fits h.few)
      (count_built g limit t.place (suc c) k n (units_of_packs t.packs) hc fits h.few) (run_new n (suc k) hs)

  owns_new : (n k : ℕ) {ts : List Sheet} → All (ValidSheet g limit) ts → k + length ts ≤ n → All (λ (x : Live). own g x ≡ true) (pages_from g (suc c) n k ts)
  owns_new n k none l = none
  owns_new n k (more {x = t} h hs) l =
      more (own_built g limit t.place (suc c) k n (units_of_packs t.packs) hc fits h.few (omega arith) (omega arith) h.some)
      (owns_new n (suc k) hs (omega arith))

  sizes_new : (n k : ℕ) {ts : List Sheet} → All (ValidSheet g limit) ts → All (λ (x : Live). length x.bytes ≡ g.area) (pages_from g (suc c) n k ts)
  sizes_new n k none = none
  sizes_new n k (more {x = t} h hs) = more (size_built g limit t.place (suc c) k n (units_of_packs t.packs) hc fits h.few) (sizes_new n (suc k) hs)

  sounds_new : (n k : ℕ) {ts : List Sheet} → All (ValidSheet g limit) ts → All (λ (e : Event). is_sound e ≡ true) (events limit (pages_from g (suc c) n k ts))
  sounds_new n k none = none
  sounds_new n k (more {x = t} h hs) =
      let x : Live = record { place = t.place; bytes = data_of g (suc c) k n (units_of_packs t.packs) } in
      let a : All (λ (e : Event). is_sound e ≡ true) (events_of limit x) =
      rw (events_laid g limit t.place (suc c) k n (units_of_packs t.packs) hc h.valid)
      (all_All is_sound (map (event_at t.place) (map Some (units_of_packs t.packs))) (good_sound t.place (units_of_packs t.packs))) in
      All-append a (sounds_new n (suc k) hs)

  -- pages laid out from sheets that fit meet the plan
  pub planned : (T : ℕ → Node) (ts : List Sheet) → All (ValidSheet g limit) ts → 0 < length ts
      → all is_well (tab 0 limit (λ (m : ℕ). foldl (turn m) (T m) (events_in (groups_of ts)))) ≡ true → NextCommit g limit T c (new_pages g (suc c) ts)
  planned T ts h l w =
      let n = length ts in
      record {
        run = rw (length_new g (suc c) n 0 ts) (run_new n 0 h);
        owns = owns_new n 0 h (omega arith);
        sounds = sounds_new n 0 h;
        sizes = sizes_new n 0 h;
        some = rw (length_new g (suc c) n 0 ts) l;
        well = rw (events_new n 0 h) w;
      }

  -- the new table shows each view after the buffer us
  pub shows : (T : ℕ → Node) (ts : List Sheet) (us : List U.Unit) (m : ℕ) → All (ValidSheet g limit) ts → Distinct (groups_of ts)
      → All (λ (q : Group). q.node ≡ m → foldl apply (T m).now q.updates ≡ present m (T m).now us) (groups_of ts)
      → (Without m (groups_of ts) → ownUpdates m us ≡ [])
      → (foldl (turn m) (T m) (events limit (new_pages g (suc c) ts))).now ≡ present m (T m).now us
  shows T ts us m h d a b = rw (events_new (length ts) 0 h) (present_groups m (groups_of ts) (T m) us d a b)
