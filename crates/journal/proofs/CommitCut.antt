-- A commit that is cut at any operation leaves the old meaning or the new one, by its pages in order. Assumes nothing.
use mathlib.Core.Path.{◌≡◌, refl, sym, ap, ap₂, ◌∙◌}
use mathlib.Core.Bool.{true, false, cond}
use mathlib.Core.List.{List, [], ◌∷◌, ◌++◌, foldl, append_assoc, append-nil}
use Prim.Native.Nat.{ℕ, zero, suc, ◌+◌, ◌≤◌, ◌<◌}
use native.Mathlib.Omega.{arith}
use lib.Dec.{eqb, leb-suc-suc, eqb-suc-suc}
use lib.ListN.{length, take, get_or, length-append}
use lib.Seq.{length-take-le}
use borrow.Author.Tests.{le-leb, lt-leb, eq-eqb, ne_eqb}
use Rattle.lists.specs.Lists.{filter, all, All, At, modify, map_from, tab, flat}
use Rattle.lists.proofs.Alls.{All-head, All-tail, All-map, All-zip, All-append, All-left, All-right, All-filter}
use Rattle.lists.proofs.Ends.{End, nil, snoc, end_of}
use Rattle.lists.proofs.Places.{At-same, At-other}
use Rattle.lists.proofs.Sorts.{sort_All}
use Rattle.lists.proofs.Tests.{cases}
use Rattle.chip.specs.declared.page.Mark.TheVariants.{Used, Valid}
use Rattle.chip.specs.Geometry.{Geometry}
use Rattle.chip.specs.Page.{Page, blank, torn_page, marked, programmed}
use Rattle.chip.specs.Chip.{erase, filled, whole}
use Rattle.chip.proofs.Marks.{blank_quiet, torn_quiet, first, second, first_quiet, second_quiet, third_live, third_data}
use Rattle.chip.proofs.Runs.{after}
use Rattle.chip.specs.Power.{takes_effect}
use Rattle.pages.specs.Steps.{Live, live, live_from, commit, before, ordered, stand, steps}
use Rattle.pages.proofs.LivePages.{outside, quiet, becomes_live}
use Rattle.pages.proofs.Order.{Next, is_before, next_before, chain_front}
use Rattle.pages.proofs.Pairs.{own}
use Rattle.pages.proofs.Settle.{top, voids, Run, run_full, run_short, run_left, run_last, run_same, run_behind}
use Rattle.views.specs.Table.{events, Node, turn, is_well, NodesRead, means, meaning}
use Rattle.views.proofs.Folds.{events_append, node_append}
use Rattle.views.proofs.Meanings.{in_order, meaning_ordered, Standing, standing_read, standing_means, standing_clean, erased, erased_ordered}
use Rattle.views.proofs.Rooms.{Unlisted, Outside}
use Rattle.views.proofs.ViewLaws.{Apart}
use Rattle.journal.specs.Commit.{writes_of, commit_ops, cleared}
use Rattle.journal.proofs.CommitBuilt.{NextCommit}

-- ---- the last operation decides
pub takes_next : (t n m : ℕ) → takes_effect t (suc n) (suc m) ≡ takes_effect t n m
takes_next t n m = rw (leb-suc-suc m n, eqb-suc-suc (suc n) m)

pub takes_none : (t n : ℕ) → takes_effect t n 0 ≡ true
takes_none t n = rw (le-leb 0 n (omega arith))

pub takes_far : (t n m : ℕ) → suc n < m → takes_effect t n m ≡ false
takes_far t n m h = rw (lt-leb m n (omega arith), ne_eqb (suc n) m (λ e. omega arith))

pub takes_last : (t n : ℕ) → takes_effect t n (suc n) ≡ eqb t 0
takes_last t n = rw (lt-leb (suc n) n (omega arith), eq-eqb (suc n) (suc n) refl)

module _ (g : Geometry) (limit : ℕ) (T : ℕ → Node) (c : ℕ) (s : List Live) (z : Live) (h : Standing g limit T c s z) (well : all is_well (tab 0 limit T) ≡ true) where
  under : All (λ (x : Live). commit x < suc c) (s ++ (z ∷ []))
  under = All-map (λ x k. omega (arith, h.last)) (top g s z h.is)

  -- some pages of the next commit, not all
  part_means : (n : ℕ) (ps : List Page) {v : List Live} → End v → Run (suc c) n 0 v → length v < n → All (λ (x : Live). own g x ≡ true) v
      → in_order g ps ≡ (s ++ (z ∷ [])) ++ v → meaning g limit ps ≡ means (tab 0 limit T) c
  part_means n ps nil r l o e = standing_means g limit T c s z h well ps (e ∙ append-nil (s ++ (z ∷ [])))
  part_means n ps (snoc v y) r l o e =
      let r' = run_last v y [] r in
      meaning_ordered g limit ps
      ∙ rw (
        e,
        voids g s z h.is v y o (run_behind (s ++ (z ∷ [])) (v ++ (y ∷ [])) h.is.links under r)
            (All-map (λ x k. k ∙ sym r'.0) (run_same r)) (omega (arith, r'.0, h.last)) (run_short (s ++ (z ∷ [])) v y r under l),
      )
      (standing_read g limit T c s z h well (v ++ (y ∷ [])))

  -- all of them
  full_good : (v : List Live) (y : Live) → NextCommit g limit T c (v ++ (y ∷ []))
      → Standing g limit (λ n. foldl (turn n) (T n) (events limit (v ++ (y ∷ [])))) (suc c) ((s ++ (z ∷ [])) ++ v) y
  full_good v y p =
      let a : ((s ++ (z ∷ [])) ++ v) ++ (y ∷ []) ≡ (s ++ (z ∷ [])) ++ (v ++ (y ∷ [])) = append_assoc (s ++ (z ∷ [])) v (y ∷ []) in
      let f : events limit ((s ++ (z ∷ [])) ++ (v ++ (y ∷ []))) ≡ events limit (s ++ (z ∷ [])) ++ events limit (v ++ (y ∷ [])) = events_append limit (s ++ (z ∷ [])) (v ++ (y ∷ [])) in
      record {
        is = record {
          owns = rw a (All-append h.is.owns p.owns);
          links = rw a (run_behind (s ++ (z ∷ [])) (v ++ (y ∷ [])) h.is.links under p.run);
          is = rw a (run_full (s ++ (z ∷ [])) v y p.run refl);
        };
        sounds = rw (a, f) (All-append h.sounds p.sounds);
        nodes = λ n l. rw (a, f, node_append n (events limit (s ++ (z ∷ []))) (events limit (v ++ (y ∷ []))), h.nodes n l);
        last = (run_last v y [] p.run).0;
      }

  full_means : (ps : List Page) {news : List Live} → End news → NextCommit g limit T c news → in_order g ps ≡ (s ++ (z ∷ [])) ++ news
      → meaning g limit ps ≡ means (tab 0 limit (λ n. foldl (turn n) (T n) (events limit news))) (suc c)
  full_means ps nil p e = absurd (omega (arith, p.some))
  full_means ps (snoc v y) p e =
      standing_means g limit (λ n. foldl (turn n) (T n) (events limit (v ++ (y ∷ [])))) (suc c) ((s ++ (z ∷ [])) ++ v) y (full_good v y p) p.well ps
      (e ∙ sym (append_assoc (s ++ (z ∷ [])) v (y ∷ [])))

  full_clean : (ps : List Page) {news : List Live} → End news → NextCommit g limit T c news → in_order g ps ≡ (s ++ (z ∷ [])) ++ news
      → steps g ps ≡ stand [] (in_order g ps)
  full_clean ps nil p e = absurd (omega (arith, p.some))
  full_clean ps (snoc v y) p e =
      standing_clean g limit (λ n. foldl (turn n) (T n) (events limit (v ++ (y ∷ [])))) (suc c) ((s ++ (z ∷ [])) ++ v) y (full_good v y p) ps
      (e ∙ sym (append_assoc (s ++ (z ∷ [])) v (y ∷ [])))

-- ---- one page written into a free one
abbrev pub used : Geometry → Live → List Page → List Page
used g x ps = modify x.place (marked g Used 0) ps

abbrev pub put : Geometry → Live → List Page → List Page
put g x ps = modify x.place (programmed g x.bytes) (used g x ps)

-- v is what the valid mark became
abbrev pub wrote : Geometry → Live → ℕ → List Page → List Page
wrote g x v ps = modify x.place (marked g Valid v) (put g x ps)

module _ (g : Geometry) (room : 3 ≤ g.spare) (ps : List Page) (x : Live) (size : length x.bytes ≡ g.area) (free : At x.place (blank g) ps) where
  at_one : At x.place (first g 0) (used g x ps)
  at_one = At-same (marked g Used 0) x.place (blank g) ps free

  at_two : At x.place (second g 0 x.bytes) (put g x ps)
  at_two = At-same (programmed g x.bytes) x.place (first g 0) (used g x ps) at_one

  torn_one : (u : ℕ) → in_order g (modify x.place (marked g Used u) ps) ≡ in_order g ps
  torn_one u = ap ordered (quiet g (marked g Used u) x.place 0 (blank g) ps free (blank_quiet g) (first_quiet g u))

  torn_two : (d : List ℕ) → length d ≡ g.area → in_order g (modify x.place (programmed g d) (used g x ps)) ≡ in_order g ps
  torn_two d l =
      ap ordered (quiet g (programmed g d) x.place 0 (first g 0) (used g x ps) at_one (first_quiet g 0) (second_quiet g 0 d l))
      ∙ torn_one 0

  torn_three : (v : ℕ) → eqb v 0 ≡ false → in_order g (wrote g x v ps) ≡ in_order g ps
  torn_three v e =
      ap ordered (quiet g (marked g Valid v) x.place 0 (second g 0 x.bytes) (put g x ps) at_two (second_quiet g 0 x.bytes size) (third_live g 0 x.bytes size v room ∙ e))
      ∙ torn_two x.bytes size

  -- the valid mark set: one more live page, behind all others
  pub valid : (v : ℕ) → eqb v 0 ≡ true → All (λ (y : Live). Next y x) (in_order g ps) → in_order g (wrote g x v ps) ≡ in_order g ps ++ (x ∷ [])
  valid v e n =
      let y : Live = live g x.place (marked g Valid v (second g 0 x.bytes)) in
      let same : y ≡ x = ap (λ (b : List ℕ). record { place = x.place; bytes = b }) (third_data g 0 x.bytes size v) in
      let o : in_order g (put g x ps) ≡ in_order g ps = torn_two x.bytes size in
      let b : All (λ (w : Live). before w x ≡ true) (in_order g (put g x ps)) = rw o (All-map (λ w k. is_before w x (next_before w x k)) n) in
      becomes_live g (marked g Valid v) x.place 0 x.place (second g 0 x.bytes) (put g x ps) (omega arith) at_two (second_quiet g 0 x.bytes size)
      (third_live g 0 x.bytes size v room ∙ e) (rw same (sort_All before (live_from g 0 (put g x ps)) b))
      ∙ ap₂ (λ (l : List Live) (w : Live). l ++ (w ∷ [])) o same

-- ---- the writes_of

module _ (g : Geometry) (limit : ℕ) (torn : List ℕ) (room : 3 ≤ g.spare) (lt : g.area ≤ length torn)
    (T : ℕ → Node) (c : ℕ) (s : List Live) (z : Live) (h : Standing g limit T c s z) (well : all is_well (tab 0 limit T) ≡ true)
    (news : List Live) (plan : NextCommit g limit T c news) where
  abbrev old : NodesRead
  old = means (tab 0 limit T) c

  abbrev new : NodesRead
  new = means (tab 0 limit (λ n. foldl (turn n) (T n) (events limit news))) (suc c)

  -- v is written, w is left
  some_left : (ps : List Page) (v : List Live) (x : Live) (w : List Live) → v ++ (x ∷ w) ≡ news → in_order g ps ≡ (s ++ (z ∷ [])) ++ v → meaning g limit ps ≡ old
  some_left ps v x w e o =
      let l : length news ≡ length v + suc (length w) = ap length (sym e) ∙ length-append v (x ∷ w) in
      part_means g limit T c s z h well (length news) ps (end_of v)
      (run_left v (x ∷ w) (rw e plan.run)) (omega arith) (All-left v (x ∷ w) (rw e plan.owns)) o

  none_left : (ps : List Page) (v : List Live) → v ≡ news → in_order g ps ≡ (s ++ (z ∷ [])) ++ v → meaning g limit ps ≡ new
  none_left ps v e o = full_means g limit T c s z h well ps (end_of news) plan (rw (← e) o)

  nexts : (v : List Live) (x : Live) (w : List Live) → v ++ (x ∷ w) ≡ news → All (λ (y : Live). Next y x) ((s ++ (z ∷ [])) ++ v)
  nexts v x w e =
      chain_front ((s ++ (z ∷ [])) ++ v) x w
      (rw (append_assoc (s ++ (z ∷ [])) v (x ∷ w), e) (run_behind (s ++ (z ∷ [])) news h.is.links (under g limit T c s z h well) plan.run))

  sized : (v : List Live) (x : Live) (w : List Live) → v ++ (x ∷ w) ≡ news → length x.bytes ≡ g.area
  sized v x w e = All-head {P = λ y. length y.bytes ≡ g.area} (All-right v (x ∷ w) (rw e plan.sizes))

  landed : (t : ℕ) (ps : List Page) (v : List Live) (x : Live) (w : List Live) → v ++ (x ∷ w) ≡ news → in_order g ps ≡ (s ++ (z ∷ [])) ++ v
      → At x.place (blank g) ps → eqb t 0 ≡ true → in_order g (wrote g x t ps) ≡ (s ++ (z ∷ [])) ++ (v ++ (x ∷ []))
  landed t ps v x w e o f q =
      valid g room ps x (sized v x w e) f t q (rw o (nexts v x w e))
      ∙ ap (λ (l : List Live). l ++ (x ∷ [])) o ∙ append_assoc (s ++ (z ∷ [])) v (x ∷ [])

  more_done : (v : List Live) (x : Live) (w : List Live) → v ++ (x ∷ w) ≡ news → (v ++ (x ∷ [])) ++ w ≡ news
  more_done v x w e = append_assoc v (x ∷ []) w ∙ e

  -- the valid mark torn
  cut_valid : (w v : List Live) (x : Live) (ps : List Page) → v ++ (x ∷ w) ≡ news → in_order g ps ≡ (s ++ (z ∷ [])) ++ v → At x.place (blank g) ps
      → meaning g limit (wrote g x (get_or torn 0 0) ps) ≡ cond (takes_effect (get_or torn 0 0) 2 (length (flat writes_of (x ∷ w)))) new old
  cut_valid [] v x ps e o f =
      let t = get_or torn 0 0 in
      cases (eqb t 0)
      (λ q. rw (takes_last t 2, q) (none_left (wrote g x t ps) (v ++ (x ∷ [])) e (landed t ps v x [] e o f q)))
      (λ q. rw (takes_last t 2, q) (some_left (wrote g x t ps) v x [] e (torn_three g room ps x (sized v x [] e) f t q ∙ o)))
  cut_valid (y ∷ w) v x ps e o f =
      let t = get_or torn 0 0 in
      cases (eqb t 0)
      (λ q. rw (takes_far t 2 (length (flat writes_of (x ∷ y ∷ w))) (omega arith))
      (some_left (wrote g x t ps) (v ++ (x ∷ [])) y w (more_done v x (y ∷ w) e) (landed t ps v x (y ∷ w) e o f q)))
      (λ q. rw (takes_far t 2 (length (flat writes_of (x ∷ y ∷ w))) (omega arith))
      (some_left (wrote g x t ps) v x (y ∷ w) e (torn_three g room ps x (sized v x (y ∷ w) e) f t q ∙ o)))

  still_free : (x : Live) (w : List Live) (ps : List Page) → All (λ (y : Live). At y.place (blank g) ps) w → All (λ (y : Live). y.place ≡ x.place → ⊥) w
      → All (λ (y : Live). At y.place (blank g) (wrote g x 0 ps)) w
  still_free x w ps f a =
      All-zip
      (λ y b d.
      At-other (marked g Valid 0) x.place y.place (blank g) (put g x ps) (λ e. d (sym e))
      (At-other (programmed g x.bytes) x.place y.place (blank g) (used g x ps) (λ e. d (sym e))
      (At-other (marked g Used 0) x.place y.place (blank g) ps (λ e. d (sym e)) b))) f a

  written : (w v : List Live) (n : ℕ) (ps : List Page) → v ++ w ≡ news → in_order g ps ≡ (s ++ (z ∷ [])) ++ v
      → All (λ (x : Live). At x.place (blank g) ps) w → Apart w
      → meaning g limit (after g torn n ps (flat writes_of w)) ≡ cond (takes_effect (get_or torn 0 0) n (length (flat writes_of w))) new old
  written [] v n ps e o f a = rw (takes_none (get_or torn 0 0) n) (none_left ps v (sym (append-nil v) ∙ e) o)
  written (x ∷ w) v zero ps e o f a =
      let t = get_or torn 0 0 in
      rw (takes_far t 0 (length (flat writes_of (x ∷ w))) (omega arith))
      (some_left (modify x.place (marked g Used t) ps) v x w e (torn_one g room ps x (sized v x w e) (All-head f) t ∙ o))
  written (x ∷ w) v (suc zero) ps e o f a =
      rw (takes_far (get_or torn 0 0) 1 (length (flat writes_of (x ∷ w))) (omega arith))
      (some_left (modify x.place (programmed g (take g.area torn)) (used g x ps)) v x w e
      (torn_two g room ps x (sized v x w e) (All-head f) (take g.area torn) (length-take-le g.area torn lt) ∙ o))
  written (x ∷ w) v (suc (suc zero)) ps e o f a = cut_valid w v x ps e o (All-head f)
  written (x ∷ w) v (suc (suc (suc n))) ps e o f a =
      let t = get_or torn 0 0 in let m = length (flat writes_of w) in
      rw (takes_next t (suc (suc n)) (suc (suc m)) ∙ takes_next t (suc n) (suc m) ∙ takes_next t n m)
      (written w (v ++ (x ∷ [])) n (wrote g x 0 ps) (more_done v x w e) (landed 0 ps v x w e o (All-head f) refl)
      (still_free x w ps (All-tail f) a.0) a.1)

  -- with enough power no page is void
  clean : (w v : List Live) (n : ℕ) (ps : List Page) → length (flat writes_of w) ≤ n → v ++ w ≡ news → in_order g ps ≡ (s ++ (z ∷ [])) ++ v
      → All (λ (x : Live). At x.place (blank g) ps) w → Apart w
      → steps g (after g torn n ps (flat writes_of w)) ≡ stand [] (in_order g (after g torn n ps (flat writes_of w)))
  clean [] v n ps l e o f a = full_clean g limit T c s z h well ps (end_of news) plan (rw (← (sym (append-nil v) ∙ e)) o)
  clean (x ∷ w) v zero ps l e o f a = absurd (omega arith)
  clean (x ∷ w) v (suc zero) ps l e o f a = absurd (omega arith)
  clean (x ∷ w) v (suc (suc zero)) ps l e o f a = absurd (omega arith)
  clean (x ∷ w) v (suc (suc (suc n))) ps l e o f a =
      clean w (v ++ (x ∷ [])) n (wrote g x 0 ps) (omega arith) (more_done v x w e) (landed 0 ps v x w e o (All-head f) refl)
      (still_free x w ps (All-tail f) a.0) a.1

-- ---- the erases, then the writes_of
some_ops : (bs : List ℕ) (news : List Live) → 0 < length news → 0 < length (commit_ops bs news)
some_ops [] [] h = h
some_ops [] (x ∷ news) h = omega arith
some_ops (b ∷ bs) news h = omega arith

module _ (g : Geometry) (limit : ℕ) (torn : List ℕ) (room : 3 ≤ g.spare) (lt : g.area ≤ length torn)
    (T : ℕ → Node) (c : ℕ) (z : Live) (well : all is_well (tab 0 limit T) ≡ true)
    (news : List Live) (plan : NextCommit g limit T c news) (apart : Apart news) where
  -- a block outside the greatest commit stays outside after the erase of another
  still_out : (s : List Live) (b d : ℕ) → Outside g c (s ++ (z ∷ [])) d → Outside g c (filter (outside g b) s ++ (z ∷ [])) d
  still_out s b d o =
      All-append (All-filter (outside g b) (All-left s (z ∷ []) o)) (All-right s (z ∷ []) o)

  pub cut : (bs : List ℕ) (s : List Live) (n : ℕ) (ps : List Page) → Standing g limit T c s z → in_order g ps ≡ s ++ (z ∷ [])
      → All (Unlisted g limit T) bs → All (Outside g c (s ++ (z ∷ []))) bs → All (λ (x : Live). At x.place (blank g) (cleared g bs ps)) news
      → meaning g limit (after g torn n ps (commit_ops bs news))
      ≡ cond (takes_effect (get_or torn 0 0) n (length (commit_ops bs news))) (means (tab 0 limit (λ m. foldl (turn m) (T m) (events limit news))) (suc c)) (means (tab 0 limit T) c)
  cut [] s n ps h o un out f = written g limit torn room lt T c s z h well news plan news [] n ps refl (o ∙ sym (append-nil (s ++ (z ∷ [])))) f apart
  cut (b ∷ bs) s zero ps h o un out f =
      let t = get_or torn 0 0 in
      let far = takes_far t 0 (suc (length (commit_ops bs news))) (omega (arith, some_ops bs news plan.some)) in
      cases (eqb t 0)
      (λ q. rw (far, q) (standing_means g limit T c s z h well ps o))
      (λ q. rw (far, q)
      (standing_means g limit T c (filter (outside g b) s) z (erased g limit T c s z h b (All-head un) (All-head out)) well
      (map_from 0 (filled g b (torn_page g torn)) ps) (erased_ordered g limit T c s z h b (All-head un) (All-head out) (torn_page g torn) ps (torn_quiet g torn) o)))
  cut (b ∷ bs) s (suc n) ps h o un out f =
      rw (takes_next (get_or torn 0 0) n (length (commit_ops bs news)))
      (cut bs (filter (outside g b) s) n (whole g (erase b) ps) (erased g limit T c s z h b (All-head un) (All-head out))
      (erased_ordered g limit T c s z h b (All-head un) (All-head out) (blank g) ps (blank_quiet g) o) (All-tail un)
      (All-map (λ d k. still_out s b d k) (All-tail out)) f)

  pub cut_clean : (bs : List ℕ) (s : List Live) (n : ℕ) (ps : List Page) → length (commit_ops bs news) ≤ n → Standing g limit T c s z
      → in_order g ps ≡ s ++ (z ∷ [])
      → All (Unlisted g limit T) bs → All (Outside g c (s ++ (z ∷ []))) bs → All (λ (x : Live). At x.place (blank g) (cleared g bs ps)) news
      → steps g (after g torn n ps (commit_ops bs news)) ≡ stand [] (in_order g (after g torn n ps (commit_ops bs news)))
  cut_clean [] s n ps l h o un out f = clean g limit torn room lt T c s z h well news plan news [] n ps l refl (o ∙ sym (append-nil (s ++ (z ∷ [])))) f apart
  cut_clean (b ∷ bs) s zero ps l h o un out f = absurd (omega arith)
  cut_clean (b ∷ bs) s (suc n) ps l h o un out f =
      cut_clean bs (filter (outside g b) s) n (whole g (erase b) ps) (omega arith) (erased g limit T c s z h b (All-head un) (All-head out))
      (erased_ordered g limit T c s z h b (All-head un) (All-head out) (blank g) ps (blank_quiet g) o) (All-tail un)
      (All-map (λ d k. still_out s b d k) (All-tail out)) f
