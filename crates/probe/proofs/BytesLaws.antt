-- The bytes of the input one by one, and the lines that end in them. Assumes nothing.
use mathlib.Core.Path.{◌≡◌, refl, sym, ap, subst, ◌∙◌}
use mathlib.Core.List.{List, [], ◌∷◌, ◌++◌}
use Prim.Native.Nat.{ℕ, ◌+◌, ◌<◌}
use native.Mathlib.Numerals.{add-one}
use lib.ListN.{length, get_or, take}
use lib.Seq.{take-suc}
use borrow.Author.Tests.{ne_eqb}
use Rattle.std.specs.Prelude.{Result, Ok, Err, OnErr}
use Rattle.frames.specs.declared.line.Line.{Line}
use Rattle.frames.specs.LineCode.{LineHolds, Longer}
use Rattle.frames.specs.Lines.{lines_in, line_after}
use Rattle.frames.proofs.LinesLaws.{after_append, lines_append}
use Rattle.probe.specs.Makes.{Rig, CarriesLine, CarriesLines, CarriesIn, CarriesSome, LinesIn, CarriesFirst, CarriesPart}

-- ---- bytes behind bytes
lines_then : (ls ms : List (List ℕ)) (h k j : Rig) → CarriesLines ls h k → CarriesLines ms k j → CarriesLines (ls ++ ms) h j
lines_then [] ms h k j a b = subst (λ (x : Rig). CarriesLines ms x j) a b
lines_then (l ∷ ls) ms h k j a b = record { mid = a.mid; first = a.first; rest = lines_then ls ms a.mid k j a.rest b }

pub carry_none : (l : Line) (h : Rig) → CarriesIn [] l h l h
unfolding CarriesIn
carry_none l h begun y = record { line = y; lines = refl }

pub carry_some_none : (l : Line) (h : Rig) → CarriesSome l h l h
carry_some_none l h = record { bytes = []; carries = carry_none l h }

carry_then : (bs cs : List ℕ) (l : Line) (h : Rig) (m : Line) (k : Rig) (n : Line) (j : Rig) → CarriesIn bs l h m k → CarriesIn cs m k n j
    → CarriesIn (bs ++ cs) l h n j
unfolding CarriesIn
carry_then bs cs l h m k n j a b begun y =
    let v = a begun y in
    let w = b (line_after begun bs) v.line in
    record {
      line = subst (LineHolds n) (sym (after_append bs cs begun)) w.line;
      lines =
          subst (λ (ls : List (List ℕ)). CarriesLines ls h j) (sym (lines_append bs cs begun))
          (lines_then (lines_in begun bs) (lines_in (line_after begun bs) cs) h k j v.lines w.lines);
    }

pub carry_some_then : (l : Line) (h : Rig) (m : Line) (k : Rig) (n : Line) (j : Rig) → CarriesSome l h m k → CarriesSome m k n j → CarriesSome l h n j
carry_some_then l h m k n j a b = record { bytes = a.bytes ++ b.bytes; carries = carry_then a.bytes b.bytes l h m k n j a.carries b.carries }

-- ---- one byte: a line feed, and another byte
carry_feed : (l : Line) (h : Rig) (l' : Line) (h' : Rig) (b : ℕ) → b ≡ 10 → LineHolds l' [] → CarriesLine l h h' → CarriesIn (b ∷ []) l h l' h'
unfolding CarriesIn CarriesLine
carry_feed l h l' h' b q y d begun y₀ = record { line = rw q y; lines = rw q (record { mid = h'; first = d begun y₀; rest = refl }) }

carry_byte : (l : Line) (h : Rig) (l' : Line) (b : ℕ) → (b ≡ 10 → ⊥) → Longer l b l' → CarriesIn (b ∷ []) l h l' h
unfolding CarriesIn Longer
carry_byte l h l' b q y begun y₀ = let e = ne_eqb b 10 q in record { line = rw e (y begun y₀); lines = rw e refl }

-- the bytes before index k, and the byte at k
module _ (bytes : List ℕ) (l₀ : Line) (h₀ : Rig) (k : ℕ) (l : Line) (h : Rig) (m : k < length bytes) (a : CarriesIn (take k bytes) l₀ h₀ l h) where
  carry_next : (l' : Line) (h' : Rig) → CarriesIn (get_or bytes k 0 ∷ []) l h l' h' → CarriesIn (take (k + 1) bytes) l₀ h₀ l' h'
  carry_next l' h' b =
      subst (λ (cs : List ℕ). CarriesIn cs l₀ h₀ l' h') (sym (ap (λ (n : ℕ). take n bytes) (add-one k) ∙ take-suc bytes k 0 m))
      (carry_then (take k bytes) (get_or bytes k 0 ∷ []) l₀ h₀ l h l' h' a b)

  pub carry_next_feed : (l' : Line) (h' : Rig) → get_or bytes k 0 ≡ 10 → LineHolds l' [] → CarriesLine l h h' → CarriesIn (take (k + 1) bytes) l₀ h₀ l' h'
  carry_next_feed l' h' q y d = carry_next l' h' (carry_feed l h l' h' (get_or bytes k 0) q y d)

  pub carry_next_byte : (l' : Line) → (get_or bytes k 0 ≡ 10 → ⊥) → Longer l (get_or bytes k 0) l' → CarriesIn (take (k + 1) bytes) l₀ h₀ l' h
  carry_next_byte l' q y = carry_next l' h (carry_byte l h l' (get_or bytes k 0) q y)

-- ---- where a read or a write fails
lines_of : (bytes : List ℕ) (l : Line) (h : Rig) (m : Line) (k : Rig) → CarriesIn bytes l h m k → LinesIn bytes l h k.torn k.image
unfolding CarriesIn LinesIn
lines_of bytes l h m k a begun y = record { left = k; carries = (a begun y).lines; same_torn = refl; same_image = refl }

lines_behind : (bs cs : List ℕ) (l : Line) (h : Rig) (m : Line) (k : Rig) (torn image : List ℕ) → CarriesIn bs l h m k → LinesIn cs m k torn image
    → LinesIn (bs ++ cs) l h torn image
unfolding CarriesIn LinesIn
lines_behind bs cs l h m k torn image a b begun y =
    let v = a begun y in
    let w = b (line_after begun bs) v.line in
    record {
      left = w.left;
      carries =
          subst (λ (ls : List (List ℕ)). CarriesLines ls h w.left) (sym (lines_append bs cs begun))
          (lines_then (lines_in begun bs) (lines_in (line_after begun bs) cs) h k w.left v.lines w.carries);
      same_torn = w.same_torn;
      same_image = w.same_image;
    }

-- a line that is not begun, behind the bytes before index k
pub first_before : (bytes : List ℕ) (l₀ : Line) (h₀ : Rig) (k : ℕ) (l : Line) (h : Rig) (torn image : List ℕ) → k < length bytes → get_or bytes k 0 ≡ 10
    → CarriesIn (take k bytes) l₀ h₀ l h → torn ≡ h.torn → image ≡ h.image → CarriesFirst bytes l₀ h₀ torn image
first_before bytes l₀ h₀ k l h torn image m q a e f =
    record { feed = k; within = m; is = q; lines = rw (e, f) (lines_of (take k bytes) l₀ h₀ l h a) }

pub part_none : (l : Line) (h : Rig) → CarriesPart l h h.torn h.image
part_none l h = record { bytes = []; lines = lines_of [] l h l h (carry_none l h) }

pub part_then : (l : Line) (h : Rig) (m : Line) (k : Rig) (torn image : List ℕ) → CarriesSome l h m k → CarriesPart m k torn image → CarriesPart l h torn image
part_then l h m k torn image a b = record { bytes = a.bytes ++ b.bytes; lines = lines_behind a.bytes b.bytes l h m k torn image a.carries b.lines }

-- what holds, holds where there is an error
pub on_err : {T E P : Type 0} (r : Result T E) → P → OnErr r P
on_err (Ok x) p = tt
on_err (Err e) p = p
