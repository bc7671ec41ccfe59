-- Operations counted one after the other as they tell their kind, and as a list: the same counts, and their sum is the list's length. Assumes nothing.
use Rattle.std.proofs.Common.{◌≡◌, ℕ, zero, suc, ◌+◌, ◌^◌, ◌<◌, min, List, [], ◌∷◌, length, take, sym, refl, ap, ◌∙◌, arith, length-take}
use Rattle.chip.specs.declared.power.Power.{Power}
use Rattle.chip.specs.declared.power.Power.TheVariants.{Left, Gone}
use Rattle.chip.specs.declared.operation.Kind as T
use Rattle.chip.specs.declared.operation.Kind.TheVariants.{Program, Mark, Erase}
use Rattle.chip.specs.declared.operation.Operation.{Operation}
use Rattle.chip.specs.declared.progress.Counts.{Counts}
use Rattle.chip.specs.Counts.{counts_of, total, nothing}
use Rattle.chip.specs.RunCode.{wholes, tell_of, counted, counted_all, progressed}

-- of no operations none is done
pub wholes_none : {A : Type 0} (p : Power) → wholes {A = A} p [] ≡ []
wholes_none (Left zero) = refl
wholes_none (Left (suc n)) = refl
wholes_none Gone = refl

-- ---- an operation is counted if it was done whole
progress_told : (c : Counts) (p : Power) (k : T.Kind) → (progressed c (tell_of k p)).done ≡ counted_all c (wholes p (k ∷ []))
progress_told c (Left zero) k = refl
progress_told c (Left (suc n)) k = ap (λ (ks : List T.Kind). counted_all (counted k c) ks) (sym (wholes_none (Left n)))
progress_told c Gone k = refl

pub progressed_told : (c : Counts) (p : Power) (k : T.Kind) (o : Operation) → o ≡ tell_of k p → (progressed c o).done ≡ counted_all c (wholes p (k ∷ []))
progressed_told c p k o e = ap (λ (q : Operation). (progressed c q).done) e ∙ progress_told c p k

-- ---- every operation is of one kind
pub total_counts : (ks : List T.Kind) → total (counts_of ks) ≡ length ks
total_counts [] = refl
total_counts (Program ∷ ks) = omega (arith, total_counts ks)
total_counts (Mark ∷ ks) = omega (arith, total_counts ks)
total_counts (Erase ∷ ks) = omega (arith, total_counts ks)

-- equal in each kind
pub counts_same : (c d : Counts) → c.programs ≡ d.programs → c.marks ≡ d.marks → c.erases ≡ d.erases → c ≡ d
counts_same c d p m e = ap₃ p m e
  where
    ap₃ : {a b x y u v : ℕ} → a ≡ b → x ≡ y → u ≡ v → ◌≡◌ {A = Counts} (record { programs = a; marks = x; erases = u }) (record { programs = b; marks = y; erases = v })
    ap₃ f g h = rw (f, g, h)

-- counts whose sum is 0
pub total_nothing : (c : Counts) → total c ≡ 0 → c ≡ nothing
total_nothing c e = counts_same c nothing (omega arith) (omega arith) (omega arith)

-- ---- counted one after the other: below 2^32 nothing wraps
abbrev plus : Counts → Counts → Counts
plus c d = record { programs = c.programs + d.programs; marks = c.marks + d.marks; erases = c.erases + d.erases }

counted_more : (k : T.Kind) (c : Counts) → total c + 1 < 2 ^ 32 → counted k c ≡ plus c (counts_of (k ∷ []))
counted_more Program c h = counts_same _ _ (omega arith) (omega arith) (omega arith)
counted_more Mark c h = counts_same _ _ (omega arith) (omega arith) (omega arith)
counted_more Erase c h = counts_same _ _ (omega arith) (omega arith) (omega arith)

plus_more : (k : T.Kind) (c : Counts) (ks : List T.Kind) → plus (plus c (counts_of (k ∷ []))) (counts_of ks) ≡ plus c (counts_of (k ∷ ks))
plus_more k c ks = counts_same _ _ (omega arith) (omega arith) (omega arith)

total_plus : (c d : Counts) → total (plus c d) ≡ total c + total d
total_plus c d = omega arith

counted_on : (c : Counts) (ks : List T.Kind) → total c + length ks < 2 ^ 32 → counted_all c ks ≡ plus c (counts_of ks)
counted_on c [] h = counts_same _ _ (omega arith) (omega arith) (omega arith)
counted_on c (k ∷ ks) h =
    let e : counted k c ≡ plus c (counts_of (k ∷ [])) = counted_more k c (omega arith) in
    let t : total (counted k c) ≡ total c + 1 = ap total e ∙ total_plus c (counts_of (k ∷ [])) ∙ ap (λ (n : ℕ). total c + n) (total_counts (k ∷ [])) in
    counted_on (counted k c) ks (omega (arith, t)) ∙ ap (λ (d : Counts). plus d (counts_of ks)) e ∙ plus_more k c ks

pub counted_all_lem : (ks : List T.Kind) → length ks < 2 ^ 32 → counted_all nothing ks ≡ counts_of ks
counted_all_lem ks h = counted_on nothing ks (omega arith) ∙ counts_same _ _ (omega arith) (omega arith) (omega arith)

-- with an allowance of n: the kinds of the first n, and their sum is the smaller of n and the number of all
pub told_first : (n : ℕ) (ks : List T.Kind) → n < 2 ^ 32 → counted_all nothing (take n ks) ≡ counts_of (take n ks)
told_first n ks h = counted_all_lem (take n ks) (omega (arith, length-take n ks))

pub told_sum : (n : ℕ) (ks : List T.Kind) → total (counts_of (take n ks)) ≡ min n (length ks)
told_sum n ks = total_counts (take n ks) ∙ length-take n ks
