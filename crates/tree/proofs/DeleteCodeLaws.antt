-- What the functions of a delete answer, from the answers of those that they call. Assumes nothing.
use mathlib.Core.Path.{◌≡◌, refl, sym, ap, ap₂, ◌∙◌, subst}
use Rattle.std.specs.Prelude.{Option, Some, None}
use mathlib.Core.Bool.{Bool, true, false, ◌&&◌}
use mathlib.Core.List.{List, [], ◌∷◌, ◌++◌, append-nil, append_assoc}
use Prim.Native.Nat.{ℕ, suc, ◌+◌, ◌-◌, ◌<◌, ◌≤◌}
use native.Mathlib.Omega.{arith}
use lib.Dec.{leb, ltb}
use lib.ListN.{length, take, drop, get_or, length-append, length-map, length-drop}
use lib.Seq.{length-take-le}
use borrow.Author.Tests.{ltb-true}
use Rattle.lists.proofs.Tests.{cases, clash}
use Rattle.chip.specs.Geometry.{Geometry}
use Rattle.chip.specs.Chip.{pages_of}
use Rattle.pages.specs.declared.unit.Unit as U
use Rattle.std.proofs.Common.{Some}
use Rattle.pages.specs.declared.unit.Update.TheVariants.{Delete}
use Rattle.pages.specs.Units.{decodes}
use Rattle.numbers.specs.NumberSet.{Changes}
use Rattle.views.specs.Groups.{unit_for}
use Rattle.views.specs.Nodes.{Entry, entry, View, freed, view, delete_entry}
use Rattle.views.proofs.TableLaws.{length_decodes}
use Rattle.tree.specs.declared.balance.Fall.{Fall}
use Rattle.tree.specs.declared.balance.Pair.{Pair}
use Rattle.tree.specs.Tree.{level_of, entries_of, there, Table, at, put, entries_at, first_key, below, child, lookup, is_absent, find_at}
use Rattle.tree.specs.Delete.{Down, kept, lost, leaves, Two, alone, two, neighbours, join, share, moved, settle, mend, delete_at}
use Rattle.tree.specs.Units.{after_units}
use Rattle.tree.specs.DeleteUnits.{join_units, to_left, to_right, share_units, settle_units, mend_units, delete_units_at}
use Rattle.tree.specs.Free.{free_numbers}
use Rattle.tree.specs.Shown.{table_in}
use Rattle.tree.specs.UpdateCode.{UnitsPushed}
use Rattle.tree.specs.BalanceCode.{left_of, right_of, NumbersFit, Keeps, pair_units, Balances, Loses, IsLeft}
use Rattle.tree.specs.DeleteCode.{TableHeld, UnitsMake, is_lost, Fell, IsPair, Settles, Mends, DeleteWay, Falls}
use Rattle.tree.proofs.Tables.{at_same, at_other, there_old, put_there}
use Rattle.tree.proofs.Least.{there_length}
use Rattle.tree.proofs.ShownLaws.{shown_pushed, pushed_good}
use Rattle.tree.proofs.FreeLaws.{free_given, free_kept, shown_length}
use Rattle.tree.proofs.PushLaws.{front_same, front_then}

-- ---- the numbers
-- nodes of different levels are different nodes
pub levels_apart : (t : Table) (m n : ℕ) (es ds : List Entry) (l : ℕ) → at t m ≡ view l es → at t n ≡ view (suc l) ds → m ≡ n → ⊥
levels_apart t m n es ds l p q e =
    let z : l ≡ suc l = ap level_of (sym p ∙ ap (at t) e ∙ q) in
    omega arith

-- the right one is freed, and the two others are written
join_numbers : (l n : ℕ) (bs : List Entry) (a b : Entry) (ds es xs ys zs : List Entry) (t : Table) (free after : List ℕ) → length t ≤ 256 → free ≡ free_numbers t
    → at t n ≡ view (suc l) zs → at t a.value ≡ view l xs → at t b.value ≡ view l ys → Changes true b.value free after → after ≡ free_numbers (join l n bs a b ds es t)
unfolding join
join_numbers l n bs a b ds es xs ys zs t free after few e pn pa pb c =
    let u = put a.value (view l es) t in
    let on : (j : ℕ) → there (at u j) ≡ there (at t j) = λ j. there_old a.value j l es t (ap there pa) in
    let d = levels_apart t b.value n ys zs l pb pn in
    let ub : there (at u b.value) ≡ 1 = on b.value ∙ ap there pb in
    let un : there (at (put b.value freed u) n) ≡ 1 = ap there (at_other b.value n freed u d) ∙ on n ∙ ap there pn in
    let eu : free ≡ free_numbers u = e ∙ sym (free_kept a.value l es t (ap there pa)) in
    let lu : length u ≡ length t = put_there a.value (view l es) t (ap there pa) in
    free_given b.value u eu (omega arith) (there_length u b.value ub) c
    ∙ sym (free_kept n (suc l) (bs ++ (a ∷ ds)) (put b.value freed u) un)

-- three nodes are written
pub share_numbers : (l n m : ℕ) (bs : List Entry) (a b : Entry) (ds es : List Entry) (t : Table) → there (at t n) ≡ 1 → there (at t a.value) ≡ 1 → there (at t b.value) ≡ 1
    → free_numbers (share l n m bs a b ds es t) ≡ free_numbers t
unfolding share
share_numbers l n m bs a b ds es t pn pa pb =
    let u = put a.value (view l (take m es)) t in
    let w = put b.value (view l (drop m es)) u in
    let eu : (j : ℕ) → there (at u j) ≡ there (at t j) = λ j. there_old a.value j l (take m es) t pa in
    let ew : (j : ℕ) → there (at w j) ≡ there (at t j) = λ j. there_old b.value j l (drop m es) u (eu b.value ∙ pb) ∙ eu j in
    free_kept n (suc l) (bs ++ (a ∷ entry (first_key 0 (drop m es)) b.value ∷ ds)) w (ew n ∙ pn)
    ∙ free_kept b.value l (drop m es) u (eu b.value ∙ pb) ∙ free_kept a.value l (take m es) t pa

-- ---- what settle leaves
settle_joins : (l n : ℕ) (bs : List Entry) (a b : Entry) (ds : List Entry) (t : Table) → leb (length (entries_at t a.value) + length (entries_at t b.value)) 16 ≡ true
    → settle l n (two bs a b ds) t ≡ lost (join l n bs a b ds (entries_at t a.value ++ entries_at t b.value) t)
unfolding settle
settle_joins l n bs a b ds t e = rw e refl

pub settle_shares : (l n : ℕ) (bs : List Entry) (a b : Entry) (ds : List Entry) (t : Table) → leb (length (entries_at t a.value) + length (entries_at t b.value)) 16 ≡ false
    → settle l n (two bs a b ds) t
    ≡ kept (share l n (moved (length (entries_at t a.value)) (length (entries_at t b.value))) bs a b ds (entries_at t a.value ++ entries_at t b.value) t)
unfolding settle
settle_shares l n bs a b ds t e = rw e refl

join_at : (l n : ℕ) (bs : List Entry) (a b : Entry) (ds es : List Entry) (t : Table) → length (entries_at (join l n bs a b ds es t) n) ≡ length (bs ++ (a ∷ ds))
unfolding join
join_at l n bs a b ds es t = ap (λ (v : View). length (entries_of v)) (at_same n (view (suc l) (bs ++ (a ∷ ds))) (put b.value freed (put a.value (view l es) t)))

pub share_at : (l n m : ℕ) (bs : List Entry) (a b : Entry) (ds es : List Entry) (t : Table) → length (entries_at (share l n m bs a b ds es t) n) ≡ suc (length (bs ++ (a ∷ ds)))
unfolding share
share_at l n m bs a b ds es t =
    let e = entry (first_key 0 (drop m es)) b.value in
    ap (λ (v : View). length (entries_of v)) (at_same n (view (suc l) (bs ++ (a ∷ e ∷ ds))) (put b.value (view l (drop m es)) (put a.value (view l (take m es)) t)))
    ∙ omega (arith, length-append bs (a ∷ e ∷ ds), length-append bs (a ∷ ds))

-- ---- the units of a pair are those of settle
join_left : (n : ℕ) (a d b : Entry) (ys : List Entry) → a.value ≡ d.value → join_units n a b ys ≡ join_units n d b ys
unfolding join_units
join_left n a d b ys e = rw e refl

share_left : (n : ℕ) (a d b : Entry) (xs ys : List Entry) → a.value ≡ d.value → share_units n a b xs ys ≡ share_units n d b xs ys
unfolding share_units to_left to_right
share_left n a d b xs ys e = rw e refl

pub pair_units_lem : (n : ℕ) (bs : List Entry) (a b : Entry) (ds xs ys : List Entry) (p : Pair) (t : Table) → p.parent ≡ n → p.left ≡ a.value → right_of p ≡ b
    → xs ≡ entries_at t a.value → ys ≡ entries_at t b.value → pair_units p xs ys ≡ settle_units n (two bs a b ds) t
unfolding settle_units
pair_units_lem n bs a b ds xs ys p t en ea eb ex ey =
    rw (← ex, ← ey, ← en, ← eb, join_left p.parent (left_of p) a (right_of p) ys ea, share_left p.parent (left_of p) a (right_of p) xs ys ea) refl

alone_below : (k : ℕ) (es : List Entry) → length es < 2 → neighbours k es ≡ alone
alone_below k [] h = refl
alone_below k (a ∷ []) h = refl
alone_below k (a ∷ b ∷ es) h = absurd (omega arith)

-- ---- whether a child is thin: it lost an entry and has fewer than 8
pub mend_kept : (l n c k : ℕ) (d : Down) (r : Fall) → r.lost ≡ is_lost d → r.len ≡ length (entries_at (leaves d) c) → (r.lost && ltb r.len 8) ≡ false
    → (mend l n c k d ≡ kept (leaves d)) × (mend_units n c k d ≡ [])
mend_kept l n c k (kept t) r p e z = (refl, refl)
mend_kept l n c k (lost t) r p e z =
    let q : ltb (length (entries_at t c)) 8 ≡ false = (rw (p, e) at z) in
    (rw q refl, rw q refl)

pub record Thin (l n c k : ℕ) (d : Down) : Type 0 where
  pub few : length (entries_at (leaves d) c) < 8
  pub down : d ≡ lost (leaves d)
  pub is : mend l n c k d ≡ settle l n (neighbours k (entries_at (leaves d) n)) (leaves d)
  pub units : mend_units n c k d ≡ settle_units n (neighbours k (entries_at (leaves d) n)) (leaves d)

pub mend_thin : (l n c k : ℕ) (d : Down) (r : Fall) → r.lost ≡ is_lost d → r.len ≡ length (entries_at (leaves d) c) → (r.lost && ltb r.len 8) ≡ true → Thin l n c k d
mend_thin l n c k (kept t) r p e z = clash z (rw p refl)
mend_thin l n c k (lost t) r p e z =
    let q : ltb (length (entries_at t c)) 8 ≡ true = (rw (p, e) at z) in
    record { few = ltb-true (length (entries_at t c)) 8 q; down = refl; is = rw q refl; units = rw q refl }

-- ---- the arrays
module _ (g : Geometry) (image lens slots : List ℕ) (limit : ℕ) (hl : limit ≤ 256) where
  abbrev show : ℕ → List ℕ → Table
  show = table_in g image lens slots limit

  -- the length of a table that is shown
  pub holds_long : {count : ℕ} {bytes free : List ℕ} {us : List U.Unit} {t : Table} → TableHeld show limit count bytes free us t → length t ≡ limit
  holds_long {count} {bytes} H = ap length (sym H.table) ∙ shown_length g image lens slots limit count bytes

  -- a node that is there has a number that fits its field
  pub holds_small : {count : ℕ} {bytes free : List ℕ} {us : List U.Unit} {t : Table} → TableHeld show limit count bytes free us t → (n : ℕ) → there (at t n) ≡ 1 → n < 65536
  holds_small {t = t} H n p = omega (arith, there_length t n p, holds_long H)

  -- the count is that of the units
  pub holds_count : {count : ℕ} {bytes free : List ℕ} {us : List U.Unit} {t : Table} → TableHeld show limit count bytes free us t → count ≡ length us
  holds_count {count} {bytes} {us = us} H = sym (length_decodes limit count bytes) ∙ ap length H.units ∙ length-map us Some

  -- units that are pushed
  pub holds_pushed : {count used : ℕ} {old new free after : List ℕ} {us vs : List U.Unit} {t u : Table} → TableHeld show limit count old free us t → UnitsPushed vs count old new used
      → count + length vs ≤ 960 → UnitsMake limit t vs u → after ≡ free_numbers u → TableHeld show limit used new after (us ++ vs) u
  holds_pushed {count} {used} {old} {new} {us = us} {vs = vs} {t = t} H p room m e = record {
    table =
        ap₂ (λ (c : ℕ) (b : List ℕ). show c b) p.size p.bytes
        ∙ shown_pushed g limit (pages_of g image) lens slots count old us vs H.units m.valid room p.long ∙ ap (after_units vs) H.table ∙ m.after;
    numbers = e;
    units =
        ap₂ (λ (c : ℕ) (b : List ℕ). decodes limit c b) p.size p.bytes
        ∙ pushed_good g limit (pages_of g image) lens slots count old us vs H.units m.valid room p.long;
  }

  -- ---- the leaf
  pub falls_leaf : (l n k count : ℕ) (es : List Entry) (old free new : List ℕ) (r : Option Fall) → l ≡ 0 → es ≡ entries_at (show count old) n
      → Loses n k es (lookup k es) count old new (unit_for n (Delete k) ∷ []) (length (delete_entry k es)) r → Falls show limit l n k count old free new free r
  unfolding delete_at delete_units_at
  falls_leaf l n k count es old free new None z e L =
      rw z
      (record { keeps = tt; absent = L.absent ∙ ap (λ (xs : List Entry). is_absent (lookup k xs)) e; stays = (L.stays, refl); is = tt })
  falls_leaf l n k count es old free new (Some f) z e L =
      rw z
      (record {
        keeps = L.keeps;
        absent = L.absent ∙ ap (λ (xs : List Entry). is_absent (lookup k xs)) e;
        stays = tt;
        is = λ us t H w room.
            let m : es ≡ entries_at t n = e ∙ ap (λ (s : Table). entries_at s n) H.table in
            let s = L.gone (holds_small H n w.0) (omega arith) in
            let ds = delete_entry k (entries_at t n) in
            record {
              holds = holds_pushed H s.0 (omega arith) w.1 (H.numbers ∙ sym (free_kept n 0 ds t w.0));
              lost = s.1;
              len = s.2 ∙ ap (λ (xs : List Entry). length (delete_entry k xs)) m ∙ ap (λ (v : View). length (entries_of v)) (sym (at_same n (view 0 ds) t));
            };
      })

  -- ---- two neighbours
  module _ (n k count : ℕ) (es : List Entry) (old free : List ℕ) where
    -- without a neighbour nothing happens
    pub settles_alone : (len : ℕ) (r : Fall) → count ≤ 960 → length es ≡ len → len < 2 → Keeps len count r → Settles show limit n k es count old free old free r
    unfolding settle settle_units
    settles_alone len r h el lt K = record {
      keeps = front_same count r.count old K.count h;
      is = λ l us t H e S room.
          let G : TableHeld show limit r.count old free (us ++ []) t
          = subst (λ (c : ℕ). TableHeld show limit c old free (us ++ []) t) (sym K.count) (subst (λ (vs : List U.Unit). TableHeld show limit count old free vs t) (sym (append-nil us)) H) in
          let R : Fell show limit n (us ++ []) (kept t) old free r = record { holds = G; lost = K.lost; len = K.len ∙ sym el ∙ ap length e } in
          subst (λ (w : Two). Fell show limit n (us ++ settle_units n w t) (settle l n w t) old free r) (sym (alone_below k es (omega arith))) R;
    }

    -- with one: they join, or an entry moves over
    module _ (l len : ℕ) (bs : List Entry) (a b : Entry) (ds xs ys zs : List Entry) (p : Pair) (new after : List ℕ) (r : Fall) (us : List U.Unit) (t : Table)
        (H : TableHeld show limit count old free us t) (B : Balances p len xs ys count old free new after r)
        (en : p.parent ≡ n) (ea : p.left ≡ a.value) (eb : right_of p ≡ b) (ex : xs ≡ entries_at t a.value) (ey : ys ≡ entries_at t b.value)
        (pn : at t n ≡ view (suc l) zs) (pa : at t a.value ≡ view l xs) (pb : at t b.value ≡ view l ys) (el : len ≡ suc (length (bs ++ (a ∷ ds))))
        (m : UnitsMake limit t (settle_units n (two bs a b ds) t) (leaves (settle l n (two bs a b ds) t)))
        (room : count + length (settle_units n (two bs a b ds) t) ≤ 960) where
      named : NumbersFit p
      named = record {
        parent = subst (λ (i : ℕ). i < 65536) (sym en) (holds_small H n (ap there pn));
        left = subst (λ (i : ℕ). i < 65536) (sym ea) (holds_small H a.value (ap there pa));
        right = subst (λ (e : Entry). e.value < 65536) (sym eb) (holds_small H b.value (ap there pb));
      }

      same_units : pair_units p xs ys ≡ settle_units n (two bs a b ds) t
      same_units = pair_units_lem n bs a b ds xs ys p t en ea eb ex ey

      fits : count + length (pair_units p xs ys) ≤ 960
      fits = subst (λ (vs : List U.Unit). count + length vs ≤ 960) (sym same_units) room

      pushes : UnitsPushed (settle_units n (two bs a b ds) t) count old new r.count
      pushes = subst (λ (vs : List U.Unit). UnitsPushed vs count old new r.count) same_units (B.pushed named fits)

      abbrev es_both : List Entry
      es_both = entries_at t a.value ++ entries_at t b.value

      abbrev both : ℕ
      both = moved (length (entries_at t a.value)) (length (entries_at t b.value))

      -- what is left of a result d
      result : (d : Down) → settle l n (two bs a b ds) t ≡ d → after ≡ free_numbers (leaves d) → r.lost ≡ is_lost d → r.len ≡ length (entries_at (leaves d) n)
          → Fell show limit n (us ++ settle_units n (two bs a b ds) t) (settle l n (two bs a b ds) t) new after r
      result d q ef eo el = record {
        holds = holds_pushed H pushes room m (ef ∙ ap (λ (x : Down). free_numbers (leaves x)) (sym q));
        lost = eo ∙ ap is_lost (sym q);
        len = el ∙ ap (λ (x : Down). length (entries_at (leaves x) n)) (sym q);
      }

      same_test : (c : Bool) → leb (length xs + length ys) 16 ≡ c → leb (length (entries_at t a.value) + length (entries_at t b.value)) 16 ≡ c
      same_test c q = subst (λ (v : List Entry). leb (length v + length (entries_at t b.value)) 16 ≡ c) ex (subst (λ (v : List Entry). leb (length xs + length v) 16 ≡ c) ey q)

      joins : leb (length xs + length ys) 16 ≡ true → Fell show limit n (us ++ settle_units n (two bs a b ds) t) (settle l n (two bs a b ds) t) new after r
      joins q =
          let j = B.joins q named fits in
          let c : Changes true b.value free after = subst (λ (e : Entry). Changes true e.value free after) eb j.2 in
          result (lost (join l n bs a b ds es_both t)) (settle_joins l n bs a b ds t (same_test true q)) (join_numbers l n bs a b ds es_both xs ys zs t free after (omega (arith, holds_long H)) H.numbers pn pa pb c) j.0
          (j.1 ∙ (let z : len - 1 ≡ length (bs ++ (a ∷ ds)) = omega arith in z) ∙ sym (join_at l n bs a b ds es_both t))

      shares : leb (length xs + length ys) 16 ≡ false → Fell show limit n (us ++ settle_units n (two bs a b ds) t) (settle l n (two bs a b ds) t) new after r
      shares q =
          let j = B.shares q in
          result (kept (share l n both bs a b ds es_both t)) (settle_shares l n bs a b ds t (same_test false q))
          (j.2 ∙ H.numbers ∙ sym (share_numbers l n both bs a b ds es_both t (ap there pn) (ap there pa) (ap there pb))) j.0
          (j.1 ∙ el ∙ sym (share_at l n both bs a b ds es_both t))

      balanced : Fell show limit n (us ++ settle_units n (two bs a b ds) t) (settle l n (two bs a b ds) t) new after r
      balanced = cases (leb (length xs + length ys) 16) joins shares

    -- the neighbours that the code names
    pub settles_pair : (i len : ℕ) (xs ys : List Entry) (p : Pair) (new after : List ℕ) (r : Fall) → length es ≡ len → IsLeft k es i → IsPair n es i p
        → xs ≡ entries_at (show count old) p.left → ys ≡ entries_at (show count old) p.right → Balances p len xs ys count old free new after r
        → Settles show limit n k es count old free new after r
    settles_pair i len xs ys p new after r el L P ex ey B = record {
      keeps = B.keeps;
      is = λ l us t H e S room.
          let bs = take i es in
          let a = get_or es i (entry 0 0) in
          let b = get_or es (i + 1) (entry 0 0) in
          let ds = drop (i + 2) es in
          let fa : xs ≡ entries_at t a.value = ex ∙ ap₂ (λ (s : Table) (j : ℕ). entries_at s j) H.table P.left in
          let fb : ys ≡ entries_at t b.value = ey ∙ ap₂ (λ (s : Table) (j : Entry). entries_at s j.value) H.table P.right in
          let nb : neighbours k (entries_at t n) ≡ two bs a b ds = ap (neighbours k) (sym e) ∙ L.is in
          let el' : len ≡ suc (length (bs ++ (a ∷ ds))) = omega (arith, L.low, length-append bs (a ∷ ds), length-take-le i es (omega (arith, L.low)), length-drop (i + 2) es) in
          let m : UnitsMake limit t (settle_units n (two bs a b ds) t) (leaves (settle l n (two bs a b ds) t))
          = subst (λ (w : Two). UnitsMake limit t (settle_units n w t) (leaves (settle l n w t))) nb S.makes in
          subst (λ (w : Two). Fell show limit n (us ++ settle_units n w t) (settle l n w t) new after r) (sym L.is)
          (balanced l len bs a b ds xs ys (entries_at t n) p new after r us t H B P.parent P.left P.right fa fb S.node
          (S.left bs a b ds nb ∙ ap (view l) (sym fa)) (S.right bs a b ds nb ∙ ap (view l) (sym fb)) el' m
          (subst (λ (w : Two). count + length (settle_units n w t) ≤ 960) L.is room));
    }

  -- ---- a node after its child's answer r
  module _ (n k : ℕ) (es : List Entry) (r : Fall) (old free : List ℕ) where
    pub mends_kept : (b : Bool) (len : ℕ) (f : Fall) → r.count ≤ 960 → length es ≡ len → b ≡ (r.lost && ltb r.len 8) → b ≡ false → Keeps len r.count f
        → Mends show limit n k es r old free old free f
    mends_kept b len f h el z zb K = record {
      keeps = front_same r.count f.count old K.count h;
      is = λ l c us d F e S room.
          let q = mend_kept l n c k d r F.lost F.len (sym z ∙ zb) in
          let H : TableHeld show limit f.count old free (us ++ []) (leaves d)
          = subst (λ (x : ℕ). TableHeld show limit x old free (us ++ []) (leaves d)) (sym K.count) (subst (λ (vs : List U.Unit). TableHeld show limit r.count old free vs (leaves d)) (sym (append-nil us)) F.holds) in
          let R : Fell show limit n (us ++ []) (kept (leaves d)) old free f = record { holds = H; lost = K.lost; len = K.len ∙ sym el ∙ ap length e } in
          subst (λ (x : Down). Fell show limit n (us ++ mend_units n c k d) x old free f) (sym q.0)
          (subst (λ (vs : List U.Unit). Fell show limit n (us ++ vs) (kept (leaves d)) old free f) (sym q.1) R);
    }

    pub mends_thin : (b : Bool) (new after : List ℕ) (f : Fall) → b ≡ (r.lost && ltb r.len 8) → b ≡ true → Settles show limit n k es r.count old free new after f
        → Mends show limit n k es r old free new after f
    mends_thin b new after f z zb S = record {
      keeps = S.keeps;
      is = λ l c us d F e N room.
          let q = mend_thin l n c k d r F.lost F.len (sym z ∙ zb) in
          let w : neighbours k (entries_at (leaves d) n) ≡ neighbours k es = ap (neighbours k) (sym e) in
          let eu : mend_units n c k d ≡ settle_units n (neighbours k es) (leaves d) = q.units ∙ ap (λ (x : Two). settle_units n x (leaves d)) w in
          let ed : mend l n c k d ≡ settle l n (neighbours k es) (leaves d) = q.is ∙ ap (λ (x : Two). settle l n x (leaves d)) w in
          subst (λ (x : Down). Fell show limit n (us ++ mend_units n c k d) x new after f) (sym ed)
          (subst (λ (vs : List U.Unit). Fell show limit n (us ++ vs) (settle l n (neighbours k es) (leaves d)) new after f) (sym eu)
          (S.is l us (leaves d) F.holds e (N q.few) (subst (λ (vs : List U.Unit). r.count + length vs ≤ 960) eu room)));
    }

  -- ---- above the leaf: node n of level l = m + 1 with the entries es, and its child c
  module _ (l m n c k count : ℕ) (es : List Entry) (old free mid freed : List ℕ) (z : l ≡ suc m) (ec : c ≡ below k 0 es) (e : es ≡ entries_at (show count old) n) where
    same_find : is_absent (find_at m c k (show count old)) ≡ is_absent (find_at m (child (show count old) n k) k (show count old))
    same_find = ap (λ (i : ℕ). is_absent (find_at m i k (show count old))) (ec ∙ ap (below k 0) e)

    pub falls_absent : Falls show limit m c k count old free mid freed None → Falls show limit l n k count old free mid freed None
    falls_absent F = rw z (record { keeps = tt; absent = F.absent ∙ same_find; stays = F.stays; is = tt })

    module _ (r : Fall) (F : Falls show limit m c k count old free mid freed (Some r)) (new after : List ℕ) (f : Fall) (M : Mends show limit n k es r mid freed new after f) where
      up_is : (us : List U.Unit) (t : Table) → TableHeld show limit count old free us t → DeleteWay limit (suc m) n k t → count + length (delete_units_at (suc m) n k t) ≤ 960
          → Fell show limit n (us ++ delete_units_at (suc m) n k t) (delete_at (suc m) n k t) new after f
      unfolding delete_at delete_units_at
      up_is us t H w room =
          let et : es ≡ entries_at t n = e ∙ ap (λ (s : Table). entries_at s n) H.table in
          let i = child t n k in
          let F' : Falls show limit m (child t n k) k count old free mid freed (Some r) = subst (λ (j : ℕ). Falls show limit m j k count old free mid freed (Some r)) (ec ∙ ap (below k 0) et) F in
          let xs = delete_units_at m (child t n k) k t in
          let d = delete_at m (child t n k) k t in
          let ys = mend_units n (child t n k) k (delete_at m (child t n k) k t) in
          let all : count + length (xs ++ ys) ≤ 960 = room in
          let G : Fell show limit i (us ++ xs) d mid freed r = F'.is us t H w.1 (omega (arith, length-append xs ys)) in
          let R : Fell show limit n ((us ++ xs) ++ ys) (mend m n i k d) new after f
          = M.is m i (us ++ xs) d G (et ∙ sym w.0.same) w.0.settling
          (omega (arith, length-append xs ys, length-append us xs, holds_count G.holds, holds_count H)) in
          subst (λ (vs : List U.Unit). Fell show limit n vs (mend m n i k d) new after f) (append_assoc us xs ys) R

      pub falls_up : Falls show limit l n k count old free new after (Some f)
      falls_up = rw z (record {
        keeps = front_then count r.count f.count old mid new F.keeps M.keeps;
        absent = F.absent ∙ same_find;
        stays = tt;
        is = up_is;
      })
