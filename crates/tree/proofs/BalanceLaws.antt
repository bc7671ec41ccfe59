-- Entries of a node by index, the neighbours on the way to a key, and the units of two neighbours. Assumes nothing.
use mathlib.Core.Path.{◌≡◌, refl, sym, ap, ap₂, ◌∙◌, subst}
use mathlib.Core.Bool.{true, false}
use mathlib.Core.List.{List, [], ◌∷◌, ◌++◌, map}
use Prim.Native.Nat.{ℕ, zero, suc, ◌+◌, ◌-◌, ◌*◌, ◌<◌, ◌≤◌}
use native.Mathlib.Numerals.{add-one}
use native.Mathlib.Omega.{arith}
use lib.Dec.{leb}
use lib.ListN.{length, take, drop, get_or, length-map, drop_of_length-le}
use lib.Seq.{length-take-le, get_or-take, take-suc, drop-cons}
use borrow.Author.Tests.{lt-ltb, le-ltb, lt-leb, le-leb}
use Rattle.lists.specs.Lists.{patch}
use Rattle.lists.proofs.Tests.{clash}
use Rattle.lists.proofs.Flats.{map_append}
use Rattle.pages.specs.declared.unit.Unit as U
use Rattle.pages.specs.declared.unit.Update.TheVariants.{Insert, Delete, Reset}
use Rattle.pages.specs.Units.{encode}
use Rattle.views.specs.declared.node.Node as N
use Rattle.views.specs.Nodes.{Entry, entry, anew, inserted}
use Rattle.views.specs.Groups.{unit_for}
use Rattle.views.specs.NodeCode.{pairs, entries_of}
use Rattle.views.specs.PassCode.{pushed, entry_units, node_units}
use Rattle.views.proofs.NodeLaws.{length_entries}
use Rattle.numbers.specs.NumberSet.{Changes}
use Rattle.tree.specs.declared.balance.Fall.{Fall}
use Rattle.tree.specs.declared.balance.Pair.{Pair}
use Rattle.tree.specs.Tree.{first_key}
use Rattle.tree.specs.Delete.{Two, two, behind, neighbours}
use Rattle.tree.specs.DeleteUnits.{first_of, join_units, to_left, to_right, share_units}
use Rattle.tree.specs.UpdateCode.{UnitsPushed}
use Rattle.tree.specs.BalanceCode.{left_of, right_of, last_of, NumbersFit, Keeps, Shares, Balances, IsLeft, take_over_units}
use Rattle.tree.proofs.PairUnits.{join_length, share_length}
use Rattle.tree.proofs.PushLaws.{written_one, written_two, written_more, length_before, front_pushed, front_same}

-- ---- the entries of a node, by index
pairs_at : (i : ℕ) (ks vs : List ℕ) → i < length ks → i < length vs → get_or (pairs ks vs) i (entry 0 0) ≡ entry (get_or ks i 0) (get_or vs i 0)
pairs_at i [] vs h g = absurd (omega arith)
pairs_at i (k ∷ ks) [] h g = absurd (omega arith)
pairs_at zero (k ∷ ks) (v ∷ vs) h g = refl
pairs_at (suc i) (k ∷ ks) (v ∷ vs) h g = pairs_at i ks vs (omega arith) (omega arith)

module _ (n : N.Node) (lk : length n.keys ≡ 17) (lv : length n.values ≡ 17) (le : n.len ≤ 17) where
  pub entry_at : (i : ℕ) → i < n.len → get_or (entries_of n) i (entry 0 0) ≡ entry (get_or n.keys i 0) (get_or n.values i 0)
  entry_at i h =
      pairs_at i (take n.len n.keys) (take n.len n.values)
      (omega (arith, length-take-le n.len n.keys (omega arith))) (omega (arith, length-take-le n.len n.values (omega arith)))
      ∙ ap₂ entry (get_or-take n.len n.keys i 0 h) (get_or-take n.len n.values i 0 h)

-- the first entry from i on
first_of_lem : (i : ℕ) (es : List Entry) → first_of (drop i es) ≡ get_or es i (entry 0 0)
first_of_lem zero [] = refl
first_of_lem zero (e ∷ es) = refl
first_of_lem (suc i) [] = refl
first_of_lem (suc i) (e ∷ es) = first_of_lem i es

-- its key
first_key_lem : (es : List Entry) → first_key 0 es ≡ (first_of es).key
first_key_lem [] = refl
first_key_lem (e ∷ es) = refl

-- ---- the neighbours on the way to k, where i entries are passed
-- with the entries es in front
abbrev past : List Entry → Two → Two
past [] w = w
past (e ∷ es) w = behind e (past es w)

-- one more in front, and no more than those
past_more : (es : List Entry) (e : Entry) (w : Two) → past (es ++ (e ∷ [])) w ≡ past es (behind e w)
past_more [] e w = refl
past_more (x ∷ es) e w = ap (behind x) (past_more es e w)

past_two : (es : List Entry) (a b : Entry) (ds : List Entry) → past es (two [] a b ds) ≡ two es a b ds
past_two [] a b ds = refl
past_two (x ∷ es) a b ds = ap (behind x) (past_two es a b ds)

-- what is to be found from i on is what is to be found
abbrev pub Passed : ℕ → List Entry → ℕ → Type 0
Passed k es i = past (take i es) (neighbours k (drop i es)) ≡ neighbours k es

module _ (k : ℕ) (es : List Entry) (i : ℕ) where
  abbrev at : ℕ → Entry
  at j = get_or es j (entry 0 0)

  -- two entries stand at i
  from_two : i + 1 < length es → drop i es ≡ at i ∷ at (i + 1) ∷ drop (i + 2) es
  from_two h =
      let one : i + 1 ≡ suc i = add-one i in
      let next : i + 2 ≡ suc (i + 1) = omega arith in
      drop-cons es i (entry 0 0) (omega arith)
      ∙ ap (λ (r : List Entry). at i ∷ r)
      (ap (λ (m : ℕ). drop m es) (sym one) ∙ drop-cons es (i + 1) (entry 0 0) h ∙ ap (λ (m : ℕ). at (i + 1) ∷ drop m es) (sym next))

  -- the two at i are those
  stop_two : i + 1 < length es → neighbours k (drop i es) ≡ two [] (at i) (at (i + 1)) (drop (i + 2) es) → Passed k es i → IsLeft k es i
  stop_two h e p = record {
    low = omega arith;
    is = sym p ∙ ap (past (take i es)) e ∙ past_two (take i es) (at i) (at (i + 1)) (drop (i + 2) es);
  }

  -- k is below the right one's key; they are the last two; it is not below that key
  pub left_hit : i + 2 < length es → k < (at (i + 1)).key → Passed k es i → IsLeft k es i
  left_hit h b p =
      let more : drop (i + 2) es ≡ at (i + 2) ∷ drop (suc (i + 2)) es = drop-cons es (i + 2) (entry 0 0) h in
      stop_two (omega arith) (rw (from_two (omega arith), more, lt-ltb k (at (i + 1)).key b)) p

  pub left_last : i + 2 ≡ length es → Passed k es i → IsLeft k es i
  left_last h p =
      let none : drop (i + 2) es ≡ [] = drop_of_length-le es {i = i + 2} (omega arith) in
      stop_two (omega arith) (rw (from_two (omega arith), none)) p

  pub left_pass : i + 2 < length es → (at (i + 1)).key ≤ k → Passed k es i → Passed k es (i + 1)
  left_pass h b p =
      let more : drop (i + 2) es ≡ at (i + 2) ∷ drop (suc (i + 2)) es = drop-cons es (i + 2) (entry 0 0) h in
      let rest : drop (i + 1) es ≡ at (i + 1) ∷ at (i + 2) ∷ drop (suc (i + 2)) es =
      drop-cons es (i + 1) (entry 0 0) (omega arith) ∙ ap (λ (r : List Entry). at (i + 1) ∷ r) (let s : suc (i + 1) ≡ i + 2 = omega arith in ap (λ (m : ℕ). drop m es) s ∙ more) in
      let turn : neighbours k (drop i es) ≡ behind (at i) (neighbours k (drop (i + 1) es)) = rw (from_two (omega arith), more, rest, le-ltb k (at (i + 1)).key b) in
      ap (λ (xs : List Entry). past xs (neighbours k (drop (i + 1) es)))
      (ap (λ (m : ℕ). take m es) (add-one i) ∙ take-suc es i (entry 0 0) (omega arith))
      ∙ past_more (take i es) (at i) (neighbours k (drop (i + 1) es))
      ∙ ap (past (take i es)) (sym turn) ∙ p

-- the same on a node
module _ (k : ℕ) (n : N.Node) (lk : length n.keys ≡ 17) (lv : length n.values ≡ 17) (le : n.len ≤ 16) (i : ℕ) (p : Passed k (entries_of n) i) where
  size : length (entries_of n) ≡ n.len
  size = length_entries n lk lv (omega arith)

  next_key_lem : i + 1 < n.len → (get_or (entries_of n) (i + 1) (entry 0 0)).key ≡ get_or n.keys (i + 1) 0
  next_key_lem h = ap (λ (e : Entry). e.key) (entry_at n lk lv (omega arith) (i + 1) h)

  pub index_hit : i + 2 < n.len → k < get_or n.keys (i + 1) 0 → IsLeft k (entries_of n) i × (i + 2 ≤ n.len)
  index_hit h b = (left_hit k (entries_of n) i (omega (arith, size)) (omega (arith, next_key_lem (omega arith))) p, omega arith)

  pub index_last : i + 2 ≡ n.len → IsLeft k (entries_of n) i × (i + 2 ≤ n.len)
  index_last h = (left_last k (entries_of n) i (h ∙ sym size) p, omega arith)

  pub index_pass : i + 2 < n.len → get_or n.keys (i + 1) 0 ≤ k → Passed k (entries_of n) (i + 1)
  index_pass h b = left_pass k (entries_of n) i (omega (arith, size)) (omega (arith, next_key_lem (omega arith))) p

-- ---- the units of a move
module _ (p : Pair) (n : N.Node) (lk : length n.keys ≡ 17) (lv : length n.values ≡ 17) (le : n.len ≤ 16) (count used : ℕ) (old new : List ℕ) where
  abbrev key : ℕ → ℕ
  key i = get_or n.keys i 0

  abbrev value : ℕ → ℕ
  value i = get_or n.values i 0

  -- the first entry of n to the left
  pub left_moves : 2 ≤ n.len
      → UnitsPushed (unit_for p.left (Insert (key 0) (value 0)) ∷ unit_for p.right (Delete (key 0)) ∷ unit_for p.parent (Delete p.key) ∷ unit_for p.parent (Insert (key 1) p.right) ∷ [])
      count old new used
      → UnitsPushed (to_left p.parent (left_of p) (right_of p) (first_of (entries_of n)) (first_key 0 (drop 1 (entries_of n)))) count old new used
  unfolding to_left
  left_moves h w =
      let e : first_of (entries_of n) ≡ entry (key 0) (value 0) = first_of_lem 0 (entries_of n) ∙ entry_at n lk lv (omega arith) 0 (omega arith) in
      let f : first_key 0 (drop 1 (entries_of n)) ≡ key 1 =
      first_key_lem (drop 1 (entries_of n)) ∙ ap (λ (x : Entry). x.key) (first_of_lem 1 (entries_of n) ∙ entry_at n lk lv (omega arith) 1 (omega arith)) in
      rw (e, f) w

  -- the last one to the right
  pub right_moves : (i : ℕ) → i ≡ n.len - 1 → 1 ≤ n.len
      → UnitsPushed (unit_for p.left (Delete (key i)) ∷ unit_for p.right (Insert (key i) (value i)) ∷ unit_for p.parent (Delete p.key) ∷ unit_for p.parent (Insert (key i) p.right) ∷ [])
      count old new used
      → UnitsPushed (to_right p.parent (left_of p) (right_of p) (last_of (entries_of n)) (last_of (entries_of n)).key) count old new used
  unfolding to_right
  right_moves i q h w =
      let s : length (entries_of n) - 1 ≡ i = omega (arith, length_entries n lk lv (omega arith)) in
      let e : last_of (entries_of n) ≡ entry (key i) (value i) =
      first_of_lem (length (entries_of n) - 1) (entries_of n) ∙ ap (λ (m : ℕ). get_or (entries_of n) m (entry 0 0)) s ∙ entry_at n lk lv (omega arith) i (omega arith) in
      rw e w

-- how many units the entries of a node are
length_entry_units : (n : ℕ) (es : List Entry) → length (entry_units n es) ≡ length es
length_entry_units n es = length-map (map inserted es) (unit_for n) ∙ length-map es inserted

-- ---- whole nodes
-- the entries of a node, pushed for node n
written_entries : (n : ℕ) (y : N.Node) → length (entries_of y) ≡ y.len → (count : ℕ) (old new : List ℕ)
    → new ≡ pushed old count (entry_units n (entries_of y)) → length old ≡ 11520 → UnitsPushed (entry_units n (entries_of y)) count old new (count + y.len)
written_entries n y d count old new e l = record {
  bytes = e;
  size = ap (λ (m : ℕ). count + m) (sym (length_entry_units n (entries_of y) ∙ d));
  long = l;
}

-- the right one's entries, its reset and the parent's delete
pub join_pushes : (p : Pair) (y : N.Node) → length (entries_of y) ≡ y.len → (count : ℕ) (old mid next new : List ℕ)
    → mid ≡ pushed old count (entry_units p.left (entries_of y))
    → next ≡ patch mid (12 * (count + y.len)) 12 (encode (unit_for p.right (Reset 255))) → length mid ≡ 11520
    → new ≡ patch next (12 * (count + y.len + 1)) 12 (encode (unit_for p.parent (Delete p.key))) → length next ≡ 11520 → count + y.len + 2 ≤ 960
    → UnitsPushed (join_units p.parent (left_of p) (right_of p) (entries_of y)) count old new (count + y.len + 2)
unfolding join_units
join_pushes p y d count old mid next new e f l g m h =
    let size : length (entry_units p.left (entries_of y)) ≡ y.len = length_entry_units p.left (entries_of y) ∙ d in
    written_more (entry_units p.left (entries_of y)) (unit_for p.right (Reset 255)) (unit_for p.parent (Delete p.key))
    count (count + y.len) (count + y.len + 1) (count + y.len + 2) old mid next new
    (written_entries p.left y d count old mid e
    (length_before old count (entry_units p.left (entries_of y)) 11520 (ap length (sym e) ∙ l) (omega arith)))
    f l g m refl (omega arith) (omega arith)

-- a node written anew as node 0
written_root : (x : N.Node) → length (entries_of x) ≡ x.len → (count used : ℕ) (old new : List ℕ)
    → new ≡ pushed old count (node_units 0 x) → used ≡ count + 1 + x.len → length old ≡ 11520 → UnitsPushed (node_units 0 x) count old new used
written_root x d count used old new e q l = record {
  bytes = e;
  size = omega (arith, length_entry_units 0 (entries_of x), d);
  long = l;
}

-- the child's entries in node 0, and its reset
pub over_pushes : (c : ℕ) (x : N.Node) → length (entries_of x) ≡ x.len → (count used : ℕ) (old mid new : List ℕ)
    → mid ≡ pushed old count (node_units 0 x) → used ≡ count + 1 + x.len → length old ≡ 11520
    → new ≡ patch mid (12 * used) 12 (encode (unit_for c (Reset 255))) → length mid ≡ 11520 → count + x.len + 2 ≤ 960
    → UnitsPushed (take_over_units x.level c (entries_of x)) count old new (used + 1)
over_pushes c x d count used old mid new e q l f m h =
    written_two (node_units 0 x) (unit_for c (Reset 255) ∷ []) count used (used + 1) old mid new
    (written_root x d count used old mid e q l) (written_one (unit_for c (Reset 255)) used mid new f m) (omega arith)

-- the entries of both children in node 0, and their resets
pub merge_pushes : (p : Pair) (x y : N.Node) → length (entries_of x) ≡ x.len
    → length (entries_of y) ≡ y.len → (count used : ℕ) (b₀ b₁ b₂ b₃ b₄ : List ℕ)
    → b₁ ≡ pushed b₀ count (node_units 0 x) → used ≡ count + 1 + x.len → length b₀ ≡ 11520 → b₂ ≡ pushed b₁ used (entry_units 0 (entries_of y))
    → b₃ ≡ patch b₂ (12 * (used + y.len)) 12 (encode (unit_for p.left (Reset 255))) → length b₂ ≡ 11520
    → b₄ ≡ patch b₃ (12 * (used + y.len + 1)) 12 (encode (unit_for p.right (Reset 255))) → length b₃ ≡ 11520 → count + x.len + y.len + 3 ≤ 960
    → UnitsPushed (map (unit_for 0) (anew x.level (entries_of x ++ entries_of y)) ++ (unit_for p.left (Reset 255) ∷ unit_for p.right (Reset 255) ∷ []))
    count b₀ b₄ (used + y.len + 2)
merge_pushes p x y d g count used b₀ b₁ b₂ b₃ b₄ e₁ q l₀ e₂ e₃ l₂ e₄ l₃ h =
    let first : UnitsPushed (node_units 0 x) count b₀ b₁ used = written_root x d count used b₀ b₁ e₁ q l₀ in
    let l₁ : length b₁ ≡ 11520 = (front_pushed (node_units 0 x) count used b₀ b₁ first (omega arith)).same ∙ l₀ in
    let both : map (unit_for 0) (anew x.level (entries_of x ++ entries_of y)) ≡ node_units 0 x ++ entry_units 0 (entries_of y) =
    ap (λ (us : List U.Unit). unit_for 0 (Reset x.level) ∷ us)
    (ap (map (unit_for 0)) (map_append inserted (entries_of x) (entries_of y)) ∙ map_append (unit_for 0) (map inserted (entries_of x)) (map inserted (entries_of y))) in
    subst (λ (us : List U.Unit). UnitsPushed (us ++ (unit_for p.left (Reset 255) ∷ unit_for p.right (Reset 255) ∷ [])) count b₀ b₄ (used + y.len + 2)) (sym both)
    (written_more (node_units 0 x ++ entry_units 0 (entries_of y)) (unit_for p.left (Reset 255)) (unit_for p.right (Reset 255))
    count (used + y.len) (used + y.len + 1) (used + y.len + 2) b₀ b₂ b₃ b₄
    (written_two (node_units 0 x) (entry_units 0 (entries_of y)) count used (used + y.len) b₀ b₁ b₂ first
    (written_entries 0 y g used b₁ b₂ e₂ l₁) (omega arith))
    e₃ l₂ e₄ l₃ refl (omega arith) (omega arith))

-- ---- two neighbours that x and y show
module _ (p : Pair) (len : ℕ) (x y : N.Node) (lx : length (entries_of x) ≡ x.len) (ly : length (entries_of y) ≡ y.len) (count : ℕ) where
  abbrev share_is : List U.Unit
  share_is = share_units p.parent (left_of p) (right_of p) (entries_of x) (entries_of y)

  -- the units of a move are pushed
  module _ (old new : List ℕ) (used : ℕ) (r : Fall) (h : count + 4 ≤ 960) (k : Keeps len used r) where
    share_pushes : UnitsPushed share_is count old new used → Shares p len (entries_of x) (entries_of y) count old new r
    share_pushes w = record {
      keeps = front_pushed share_is count r.count old new (rw k.count w) (omega (arith, k.count, w.size, share_length p.parent (left_of p) (right_of p) (entries_of x) (entries_of y)));
      stays = (k.lost, k.len);
      pushed = λ _ _. rw k.count w;
    }

    pub share_left : x.len < y.len
        → UnitsPushed (to_left p.parent (left_of p) (right_of p) (first_of (entries_of y)) (first_key 0 (drop 1 (entries_of y)))) count old new used
        → Shares p len (entries_of x) (entries_of y) count old new r
    unfolding share_units
    share_left b w = share_pushes (rw (lt-ltb (length (entries_of x)) (length (entries_of y)) (omega arith)) w)

    pub share_right : y.len ≤ x.len
        → UnitsPushed (to_right p.parent (left_of p) (right_of p) (last_of (entries_of x)) (last_of (entries_of x)).key) count old new used
        → Shares p len (entries_of x) (entries_of y) count old new r
    unfolding share_units
    share_right b w = share_pushes (rw (le-ltb (length (entries_of x)) (length (entries_of y)) (omega arith)) w)

  -- they do not fit
  pub share_full : (old : List ℕ) (r : Fall) → count ≤ 960 → Keeps len count r → (count + 4 ≤ 960 → NumbersFit p → ⊥)
      → Shares p len (entries_of x) (entries_of y) count old old r
  share_full old r h k f = record {
    keeps = front_same count r.count old k.count h;
    stays = (k.lost, k.len);
    pushed = λ a b. absurd (f b a);
  }

  -- more than 16 together
  pub balance_share : (old free new : List ℕ) (r : Fall) → 16 < x.len + y.len → Shares p len (entries_of x) (entries_of y) count old new r
      → Balances p len (entries_of x) (entries_of y) count old free new free r
  balance_share old free new r h s =
      let no : leb (length (entries_of x) + length (entries_of y)) 16 ≡ false = lt-leb (length (entries_of x) + length (entries_of y)) 16 (omega arith) in
      record {
        keeps = s.keeps;
        pushed = rw no (λ a b. s.pushed a (omega (arith, share_length p.parent (left_of p) (right_of p) (entries_of x) (entries_of y))));
        joins = λ e. clash e no;
        shares = λ _. (s.stays.0, s.stays.1, refl);
      }

  module _ (together : x.len + y.len ≤ 16) where
    few : leb (length (entries_of x) + length (entries_of y)) 16 ≡ true
    few = le-leb (length (entries_of x) + length (entries_of y)) 16 (omega arith)

    abbrev join_is : List U.Unit
    join_is = join_units p.parent (left_of p) (right_of p) (entries_of y)

    size_join : length join_is ≡ y.len + 2
    size_join = join_length p.parent (left_of p) (right_of p) (entries_of y) ∙ ap (λ (m : ℕ). m + 2) ly

    -- 16 or fewer, but their units do not fit
    pub balance_full : (old free : List ℕ) (r : Fall) → count ≤ 960 → Keeps len count r → (count + (y.len + 2) ≤ 960 → NumbersFit p → ⊥)
        → Balances p len (entries_of x) (entries_of y) count old free old free r
    balance_full old free r h k f = record {
      keeps = front_same count r.count old k.count h;
      pushed = rw few (λ a b. absurd (f (omega (arith, size_join)) a));
      joins = rw few (λ _ a b. absurd (f (omega (arith, size_join)) a));
      shares = λ e. clash few e;
    }

    -- they join
    pub balance_join : (old free new after : List ℕ) (used : ℕ) (r : Fall) → UnitsPushed join_is count old new used → Changes true p.right free after
        → count + (y.len + 2) ≤ 960 → r.lost ≡ true → r.len ≡ len - 1 → r.count ≡ used
        → Balances p len (entries_of x) (entries_of y) count old free new after r
    balance_join old free new after used r w ch h e₂ e₃ e₄ = record {
      keeps = front_pushed join_is count r.count old new (rw e₄ w) (omega (arith, e₄, w.size, size_join));
      pushed = rw few (λ _ _. rw e₄ w);
      joins = λ _ _ _. (e₂, e₃, ch);
      shares = λ e. clash few e;
    }
