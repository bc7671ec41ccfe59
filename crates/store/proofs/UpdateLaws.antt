-- A good state after an insert or a delete. Assumes nothing.
use mathlib.Core.Path.{◌≡◌, refl, sym, ap, subst, ◌∙◌}
use mathlib.Core.Bool.{Bool, true, false}
use mathlib.Core.List.{List}
use Prim.Native.Nat.{ℕ, suc, ◌*◌, ◌<◌, ◌≤◌}
use native.Mathlib.Omega.{arith}
use Rattle.std.specs.Prelude.{Ok, Err}
use Rattle.lists.specs.Lists.{All}
use Rattle.lists.proofs.Tests.{clash}
use Rattle.lists.proofs.Alls.{All-zip}
use Rattle.chip.specs.Geometry.{Geometry}
use Rattle.pages.specs.declared.unit.Unit as U
use Rattle.pages.specs.Units.{ValidUpdate, Valid}
use Rattle.std.specs.Prelude.{Option, Some, None, is_none}
use Rattle.tree.specs.Tree.{Table, next, find, is_absent}
use Rattle.tree.specs.Insert.{inserted, TreeStep, refusal, done, insert}
use Rattle.tree.specs.Delete.{delete}
use Rattle.tree.specs.Step6.{top}
use Rattle.tree.specs.InsertUnits.{insert_units}
use Rattle.tree.specs.DeleteUnits.{delete_units}
use Rattle.tree.specs.UpdateCode.{Ready, Stepped, Inserts, Deletes}
use Rattle.tree.proofs.Laws.{thin_thick, thick_thin, inserted_keeps, inserted_thick, insert_done, insert_units_lem, delete_keeps, delete_thick, delete_units_lem}
use Rattle.promise.specs.Plain as P
use Rattle.promise.specs.Plain.{refuses, accepted, when, is_refused, table_after, insertion, deletion, updated}
use Rattle.promise.specs.Calls.{state_of}
use Rattle.store.specs.declared.answer.Refusal.TheVariants.{Absent, Nodes}
use Rattle.store.specs.declared.state.State.{State}
use Rattle.store.specs.declared.state.Updated.{Updated}
use Rattle.store.specs.Answers.{Answer, answer_of}
use Rattle.store.specs.State.{limit_of, units_of, present_of, Good, geometry_in}
use Rattle.store.specs.Ensured.{index, KeepsBounds}
use Rattle.store.specs.UpdateCode.{Stays, with_units, InsertsIn, DeletesIn}
use Rattle.store.proofs.StartTree.{present_next, good_low}
use Rattle.store.proofs.Wholes.{whole_inserted, whole_deleted, some_inserted, some_deleted}
use Rattle.store.proofs.PushedState.{Pushed, stays}

-- units of nodes below the limit, whose updates the layout allows
valid_units : (limit m : ℕ) → m ≤ limit → {us : List U.Unit} → All (λ (x : U.Unit). x.node < m) us → All (λ (x : U.Unit). ValidUpdate x.update) us → All (Valid limit) us
valid_units limit m h a b = All-zip (λ x p q. record { node = omega arith; update = q }) a b

-- ---- a good state is ready for an update
module _ (s : State) (i : List ℕ) (G : Good (geometry_in s) s i) (low : s.pending < 16) where
  abbrev g : Geometry
  g = geometry_in s

  pub ready : Ready (limit_of s) s.count s.free s.buffer (units_of s) (present_of g s i)
  ready =
      record {
        tree = G.tree;
        words = G.words;
        numbers = G.free;
        thick = thin_thick (present_of g s i) G.thick;
        units = G.units;
        room = omega (arith, G.few);
      }

-- ---- an insert and a delete of the tree, pushed
module _ (g : Geometry) (k : ℕ) (s : State) (i new : List ℕ) (used : ℕ) (free : List ℕ) (G : Good g s i) (hk : k < top) where
  abbrev P₀ : Table
  P₀ = present_of g s i

  inserted_pushed : (v : ℕ) → v < top → limit_of s ≤ 256 → insert (limit_of s) k v P₀ ≡ done (inserted k v P₀)
      → Stepped g i s.lens s.slots (limit_of s) s.count (units_of s) (insert_units k v P₀) (inserted k v P₀) new free used
      → Pushed g s i new used free (insert_units k v P₀) (inserted k v P₀)
  inserted_pushed v hv hl e p =
      let d = insert_done (limit_of s) k v P₀ (inserted k v P₀) e in
      let l = good_low g s i G in
      let w = insert_units_lem k v P₀ G.tree hk l.level in
      record {
        stepped = p;
        valid = valid_units (limit_of s) (next (inserted k v P₀)) d.1 w.known (w.valid hv G.words (omega (arith, d.1)) (l.inserts k v hk));
        some = some_inserted k v P₀;
        tree = (inserted_keeps k v P₀ G.tree hk).tree;
        words = w.small hv G.words (omega (arith, d.1)) (l.inserts k v hk);
        whole = whole_inserted k v P₀ G.whole;
        thick = thick_thin (inserted k v P₀) (inserted_thick 0 k v P₀ G.tree hk (omega arith) (thin_thick P₀ G.thick));
      }

  deleted_pushed : Stepped g i s.lens s.slots (limit_of s) s.count (units_of s) (delete_units k P₀) (delete k P₀) new free used
      → Pushed g s i new used free (delete_units k P₀) (delete k P₀)
  deleted_pushed p =
      let w = delete_units_lem k P₀ G.tree hk (good_low g s i G).level in
      record {
        stepped = p;
        valid = valid_units (limit_of s) (next P₀) (present_next g s i) w.known (w.valid G.words);
        some = some_deleted k P₀;
        tree = (delete_keeps k P₀ G.tree hk).tree;
        words = w.small G.words;
        whole = whole_deleted k P₀ G.whole;
        thick = thick_thin (delete k P₀) (delete_thick 0 k P₀ G.tree hk (omega arith) (thin_thick P₀ G.thick).nodes);
      }

-- ---- what the code of an insert answers
abbrev pub answered : Answer → State → Updated
answered a s = record { answer = a; state = s }

-- the answer to a test that gives the number suc n
test_number : (n m : ℕ) (b : Bool) (a : P.Answer) → (b ≡ true → a ≡ refuses n) → when n b ≡ suc m → a ≡ refuses (suc m)
test_number n m true a h e = h refl ∙ ap refuses e
test_number n m false a h e = absurd (omega arith)

test_none : (n : ℕ) (b : Bool) → when (suc n) b ≡ 0 → b ≡ false
test_none n true e = absurd (omega arith)
test_none n false e = refl

not_refused : {Q : Type 0} (n : ℕ) → answer_of (Ok tt) ≡ refuses n → Q
not_refused n d = let z : ◌≡◌ {A = ℕ} 0 1 = cc in absurd (omega arith)

-- the tree step of an insert into P
abbrev step_of : Geometry → ℕ → ℕ → State → List ℕ → TreeStep
step_of g k v s i = insert (8 * s.blocks) k v (present_of g s i)

module _ (s : State) (i : List ℕ) (low : s.pending < 16) where
  stay : KeepsBounds s s
  stay = record { nand = refl; blocks = refl; units = omega arith }

  -- more units than a good state has
  module _ (many : 900 < s.count) where
    never_many : Good (geometry_in s) s i → ⊥
    never_many G = omega (arith, G.few)

    pub insert_many : (k v : ℕ) → InsertsIn k v s i (answered (Err Nodes) s)
    unfolding insertion
    insert_many k v = record { range = refl; still = λ _ _. refl; bounds = stay; figures = refl; refused = λ G. absurd (never_many G); done = λ G. absurd (never_many G) }

    pub delete_many : (k : ℕ) → DeletesIn k s i (answered (Err Absent) s)
    unfolding deletion
    delete_many k = record { range = refl; still = λ _ _. refl; bounds = stay; figures = refl; refused = λ G. absurd (never_many G); done = λ G. absurd (never_many G) }

  module _ (k v : ℕ) (hk : k < top) (hv : v < top) (hl : limit_of s ≤ 256) (new free : List ℕ) where
    abbrev Answers : Option ℕ → Type 0
    Answers r = Inserts (geometry_in s) i s.lens s.slots (8 * s.blocks) k v s.count s.buffer s.free new free r

    step_refused : Answers None → Good (geometry_in s) s i → step_of (geometry_in s) k v s i ≡ refusal 5
    unfolding present_of
    step_refused a G = a.refused (units_of s) (ready s i G low)

    step_done : (used : ℕ) → Answers (Some used) → (G : Good (geometry_in s) s i) → (let t = present_of (geometry_in s) s i in
        (step_of (geometry_in s) k v s i ≡ done (inserted k v t))
        × Stepped (geometry_in s) i s.lens s.slots (limit_of s) s.count (units_of s) (insert_units k v t) (inserted k v t) new free used)
    unfolding present_of
    step_done used a G = a.done (units_of s) (ready s i G low)

    pub insert_five : Answers None → InsertsIn k v s i (answered (Err Nodes) s)
    unfolding insertion
    insert_five a =
        record {
          range = refl;
          still = λ _ _. refl;
          bounds = stay;
          figures = refl;
          refused = λ G m h. test_number 5 m (is_refused (step_of (geometry_in s) k v s i)) (refuses 5) (λ _. refl) h;
          done = λ G h. clash (ap is_refused (step_refused a G)) (test_none 4 (is_refused (step_of (geometry_in s) k v s i)) h);
        }

    pub insert_accepted : (used : ℕ) → Answers (Some used) → InsertsIn k v s i (answered (Ok tt) (with_units s new used free))
    unfolding insertion
    insert_accepted used a =
        record {
          bounds = record { nand = refl; blocks = refl; units = omega (arith, a.keeps.room) };
          figures = refl;
          range = refl;
          still = λ n d. not_refused n d;
          refused = λ G m h. test_number 5 m (is_refused (step_of (geometry_in s) k v s i)) accepted (λ t. clash t (ap is_refused (step_done used a G).0)) h;
          done = λ G h.
              let p = present_of (geometry_in s) s i in
              let d = step_done used a G in
              let q = stays s i G low new used free (insert_units k v p) (inserted k v p) (inserted_pushed (geometry_in s) k s i new used free G hk v hv hl d.0 d.1) in
              (refl, subst (λ (u : TreeStep). Stays (with_units s new used free) i (updated (table_after p u) (state_of index s i))) (sym d.0) q);
        }

  -- ---- and of a delete
  module _ (k : ℕ) (hk : k < top) (new free : List ℕ) where
    abbrev Removes : Option ℕ → Type 0
    Removes r = Deletes (geometry_in s) i s.lens s.slots (8 * s.blocks) k s.count s.buffer s.free new free r

    -- whether the key is absent from P
    absent_is : (r : Option ℕ) → Removes r → is_none r ≡ is_absent (find k (present_of (geometry_in s) s i))
    unfolding present_of
    absent_is r a = a.found

    pub delete_four : Removes None → DeletesIn k s i (answered (Err Absent) s)
    unfolding deletion
    delete_four a =
        record {
          range = refl;
          still = λ _ _. refl;
          bounds = stay;
          figures = refl;
          refused = λ G m h. test_number 4 m (is_absent (find k (present_of (geometry_in s) s i))) (refuses 4) (λ _. refl) h;
          done = λ G h. clash (sym (absent_is None a)) (test_none 3 (is_absent (find k (present_of (geometry_in s) s i))) h);
        }

    gone_done : (used : ℕ) → Removes (Some used) → (G : Good (geometry_in s) s i) → (let t = present_of (geometry_in s) s i in
        Stepped (geometry_in s) i s.lens s.slots (limit_of s) s.count (units_of s) (delete_units k t) (delete k t) new free used)
    unfolding present_of
    gone_done used a G = a.is (units_of s) (ready s i G low)

    pub delete_accepted : (used : ℕ) → Removes (Some used) → DeletesIn k s i (answered (Ok tt) (with_units s new used free))
    unfolding deletion
    delete_accepted used a =
        record {
          range = refl;
          still = λ n d. not_refused n d;
          refused = λ G m h. test_number 4 m (is_absent (find k (present_of (geometry_in s) s i))) accepted (λ t. clash t (sym (absent_is (Some used) a))) h;
          bounds = record { nand = refl; blocks = refl; units = omega (arith, a.keeps.room) };
          figures = refl;
          done = λ G h.
              let p = present_of (geometry_in s) s i in
              (refl, stays s i G low new used free (delete_units k p) (delete k p) (deleted_pushed (geometry_in s) k s i new used free G hk (gone_done used a G)));
        }
