-- From what the code of a look up answers to the records of the promise. Assumes nothing.
use mathlib.Core.Path.{◌≡◌, refl, sym, ap, ap₂, subst, ◌∙◌}
use mathlib.Core.Bool.{true, cond}
use mathlib.Core.List.{List, [], ◌∷◌}
use Prim.Native.Nat.{ℕ, zero, suc, ◌+◌, ◌*◌, ◌<◌, ◌≤◌}
use native.Mathlib.Omega.{arith}
use lib.ListN.{length, length-reverse}
use Rattle.std.specs.Prelude.{Option, Some, None, Result, Ok, Err}
use Rattle.std.specs.Result.{is_ok}
use Rattle.lists.specs.Lists.{All, more}
use Rattle.lists.proofs.Flats.{get_d_tab}
use Rattle.chip.specs.Geometry.{Geometry}
use Rattle.chip.specs.Chip.{pages_of}
use Rattle.views.specs.Table as Views
use Rattle.views.specs.Table.{Node, fresh}
use Rattle.views.specs.Stored.{stored_list, is_freed, length_of}
use Rattle.tree.specs.declared.find.Looked.{Looked}
use Rattle.tree.specs.Tree.{Table, Found, absent, found, there, at, find, path}
use Rattle.tree.specs.Step6.{top}
use Rattle.tree.specs.Shown.{shown, pages_read}
use Rattle.tree.specs.FindCode.{hit_of, Answers}
use Rattle.tree.proofs.Laws.{path_there}
use Rattle.journal.specs.Plan.{node_at}
use Rattle.promise.specs.Plain.{looks_up, refuses, admission, looking_up, looked_up}
use Rattle.promise.specs.Calls.{state_of, tells_or}
use Rattle.store.specs.declared.answer.Look.{Look}
use Rattle.store.specs.declared.answer.Refusal.{Refusal}
use Rattle.store.specs.declared.state.State.{State}
use Rattle.store.specs.Answers.{look_of, number_of, pages_told, value_of}
use Rattle.store.specs.State.{limit_of, node_from, nodes_of, present_of, Good, geometry_in}
use Rattle.store.specs.Ensured.{flash_length, list_lengths, Looks}
use Rattle.store.proofs.AdmitLaws.{first_refused, first_passed, not_one, admission_low, number_some}
use Rattle.store.proofs.StartTree.{present_size}

-- ---- the lists on a path, from the arrays and as the image gives them
there_below : (t : Table) (m : ℕ) → there (at t m) ≡ 1 → m < length t
there_below [] m e = absurd (omega arith)
there_below (w ∷ t) zero e = omega arith
there_below (w ∷ t) (suc m) e = omega (arith, there_below t m e)

abbrev nodes_in : Views.NodesRead → List Node
nodes_in (Views.refusal n) = []
nodes_in (Views.means nodes G) = nodes

module _ (g : Geometry) (s : State) (i : List ℕ) where
  list_length : (n : ℕ) → n < limit_of s → flash_length (node_at (nodes_of g s i) n) ≡ length_of g (limit_of s) (pages_of g i) s.lens s.slots n
  unfolding nodes_of length_of
  list_length n h =
      ap flash_length (get_d_tab (node_from g s i) 0 (limit_of s) n fresh h ∙ ap (node_from g s i) (let z : 0 + n ≡ n = omega arith in z))
      ∙ ap (λ (m : ℕ). cond (is_freed (node_from g s i n).now) 0 m) (length-reverse (stored_list s.lens s.slots n))

  lists_read : (ns : List ℕ) → All (λ (m : ℕ). there (at (present_of g s i) m) ≡ 1) ns → list_lengths (nodes_of g s i) ns ≡ pages_read (length_of g (limit_of s) (pages_of g i) s.lens s.slots) ns
  lists_read [] a = refl
  lists_read (n ∷ ns) (more h a) =
      ap₂ ◌+◌ (list_length n (omega (arith, there_below (present_of g s i) n h, present_size g s i))) (lists_read ns a)

  pub list_lengths_lem : (k : ℕ) → k < top → Good g s i → (nodes : List Node) (G : ℕ) → Views.meaning g (limit_of s) (pages_of g i) ≡ Views.means nodes G
      → list_lengths nodes (path k (present_of g s i)) ≡ pages_read (length_of g (limit_of s) (pages_of g i) s.lens s.slots) (path k (present_of g s i))
  list_lengths_lem k h ok nodes G e =
      ap (λ (xs : List Node). list_lengths xs (path k (present_of g s i))) (ap nodes_in (sym e ∙ ok.means))
      ∙ lists_read (path k (present_of g s i)) (path_there k (present_of g s i) ok.tree h)

-- ---- look up
abbrev pub look_from : Found → ℕ → Result Look Refusal
look_from absent n = Ok (record { value = None; pages = n })
look_from (found v) n = Ok (record { value = Some v; pages = n })

look_told : (h : Option ℕ) (n : ℕ) → look_from (hit_of h) n ≡ Ok (record { value = h; pages = n })
look_told (Some v) n = refl
look_told None n = refl

value_is : (h : Option ℕ) → value_of h ≡ looked_up (hit_of h)
value_is (Some v) = refl
value_is None = refl

given_from : (f : Found) (n : ℕ) → is_ok (look_from f n) ≡ true
given_from absent n = refl
given_from (found v) n = refl

look_is : (f : Found) (n : ℕ) → (look_of (look_from f n) ≡ looked_up f) × (pages_told (look_from f n) ≡ n) × (look_of (look_from f n) ≡ refuses 1 → ⊥) × (look_of (look_from f n) ≡ refuses 2 → ⊥) × (tells_or (2 ∷ 1 ∷ 4 ∷ []) (look_of (look_from f n)) ≡ true)
look_is absent n = (refl, refl, λ e. not_one e (λ z. omega arith), λ e. not_one e (λ z. omega arith), refl)
look_is (found v) n = (refl, refl, λ e. (let z : ◌≡◌ {A = ℕ} 0 1 = cc in absurd (omega arith)), λ e. (let z : ◌≡◌ {A = ℕ} 0 1 = cc in absurd (omega arith)), refl)

module _ (k : ℕ) (s : State) (i : List ℕ) where
  abbrev g : Geometry
  g = geometry_in s

  -- refused with 2 or 1
  look_first : (r : Result Look Refusal) (n : ℕ) → look_of r ≡ refuses (suc n) → tells_or (2 ∷ 1 ∷ 4 ∷ []) (look_of r) ≡ true → pages_told r ≡ 0 → suc n ≡ admission g s.on s.blocks (length i) → Looks k s i r
  unfolding looking_up
  look_first r n q kind p e =
      record {
        says =
            record {
              first = first_refused (looks_up k (length i)) s i (look_of r) n e q;
              range = kind;
              same = record { state = refl; image = refl };
              done = λ _ h. let z : suc n ≡ 0 = e ∙ h in absurd (omega arith);
            };
        any = λ h. let z : suc n ≡ 0 = e ∙ h in absurd (omega arith);
        pages = λ h. let z : suc n ≡ 0 = e ∙ h in absurd (omega arith);
        lists = λ _ h. let z : suc n ≡ 0 = e ∙ h in absurd (omega arith);
        few = omega arith;
        given = λ h. let z : suc n ≡ 0 = e ∙ h in absurd (omega arith);
      }

  pub look_refused : (e : Refusal) → number_of e ≡ admission g s.on s.blocks (length i) → Looks k s i (Err e)
  look_refused e q = by (number_of e) refl (let l = admission_low g s.on s.blocks (length i) in omega (arith, q, l)) (number_some e)
    where
      by : (n : ℕ) → number_of e ≡ n → n ≤ 2 → 0 < n → Looks k s i (Err e)
      by zero p l h = absurd (omega arith)
      by (suc zero) p l h = look_first (Err e) 0 (ap refuses p) (rw p) refl (sym p ∙ q)
      by (suc (suc zero)) p l h = look_first (Err e) 1 (ap refuses p) (rw p) refl (sym p ∙ q)
      by (suc (suc (suc n))) p l h = absurd (omega arith)

  module _ (e : 0 ≡ admission g s.on s.blocks (length i)) where
    -- an answer that says what P says of the key, and gives the pages read
    look_given : (r : Result Look Refusal) (f : Found) (n : ℕ) → k < top → f ≡ find k (present_of g s i) → n ≡ pages_read (length_of g (limit_of s) (pages_of g i) s.lens s.slots) (path k (present_of g s i)) → n ≤ 16
        → look_of r ≡ looked_up f → pages_told r ≡ n → is_ok r ≡ true → Looks k s i r
    unfolding looking_up state_of
    look_given r f n h q p l a b o =
        let w = look_is f 0 in
        let u : look_of r ≡ looked_up (find k (present_of g s i)) = a ∙ ap looked_up q in
        record {
          says =
              record {
                first = first_passed (looks_up k (length i)) s i (look_of r) s e (λ z. w.2 (w.0 ∙ sym a ∙ z)) (λ z. w.3 (w.0 ∙ sym a ∙ z));
                range = ap (tells_or (2 ∷ 1 ∷ 4 ∷ [])) (a ∙ sym w.0) ∙ w.4;
                same = record { state = refl; image = refl };
                done = λ _ _. u;
              };
          any = λ _. u;
          pages = λ _. b ∙ p;
          lists = λ ok _ nodes G m. b ∙ p ∙ sym (list_lengths_lem g s i k h ok nodes G m);
          few = omega (arith, b);
          given = λ _. o;
        }

    look_done : (f : Found) (n : ℕ) → k < top → f ≡ find k (present_of g s i) → n ≡ pages_read (length_of g (limit_of s) (pages_of g i) s.lens s.slots) (path k (present_of g s i)) → n ≤ 16
        → Looks k s i (look_from f n)
    look_done f n h q p l = let w = look_is f n in look_given (look_from f n) f n h q p l w.0 w.1 (given_from f n)

    pub looked : (t : Looked) → Answers (length_of g (8 * s.blocks) (pages_of g i) s.lens s.slots) k (shown g (8 * s.blocks) (pages_of g i) s.lens s.slots s.count s.buffer) t
        → k < top → (f : Found) → hit_of t.hit ≡ f → Looks k s i (look_from f t.pages)
    unfolding present_of
    looked t a h f q = look_done f t.pages h (sym q ∙ a.found) a.pages a.few

    -- an answer that says what a look up in the tree found, and gives the pages read
    pub looks_by : (r : Result Look Refusal) (t : Looked) → Answers (length_of g (8 * s.blocks) (pages_of g i) s.lens s.slots) k (shown g (8 * s.blocks) (pages_of g i) s.lens s.slots s.count s.buffer) t
        → k < top → look_of r ≡ value_of t.hit → pages_told r ≡ t.pages → is_ok r ≡ true → Looks k s i r
    unfolding present_of
    looks_by r t a h e = look_given r (hit_of t.hit) t.pages h a.found a.pages a.few (e ∙ value_is t.hit)

    pub look_answer : (t : Looked) → Answers (length_of g (8 * s.blocks) (pages_of g i) s.lens s.slots) k (shown g (8 * s.blocks) (pages_of g i) s.lens s.slots s.count s.buffer) t
        → k < top → Looks k s i (Ok (record { value = t.hit; pages = t.pages }))
    look_answer t a h = subst (Looks k s i) (look_told t.hit t.pages) (looked t a h (hit_of t.hit) refl)
