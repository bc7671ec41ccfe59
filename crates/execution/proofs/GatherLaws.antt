-- The units of a page gathered from the arrays that hold a plan, node after node. Assumes nothing.
use Rattle.std.proofs.Common.{◌≡◌, ℕ, zero, suc, ◌+◌, ◌-◌, ◌*◌, ◌<◌, ◌≤◌, Bool, true, false, cond, eqb, List, [], ◌∷◌, ◌++◌, map, length, get_or, take, drop, sym, refl, ap, ◌∙◌, ap₂, append_assoc, append-nil, arith, length-append, length-take-le, take_at, eq-eqb, ne_eqb}
use lib.ListN.{length-map}
use Rattle.lists.specs.Lists.{flat, part, patch}
use Rattle.lists.proofs.Flats.{flat_append}
use Rattle.lists.proofs.Parts.{copied_part, length_part}
use Rattle.lists.proofs.Tests.{cases}
use Rattle.chip.specs.Geometry.{Geometry}
use Rattle.pages.specs.declared.unit.Update.{Update}
use Rattle.pages.specs.declared.unit.Unit as U
use Rattle.pages.specs.Units.{encode}
use Rattle.pages.specs.Data.{data_of, laid}
use Rattle.pages.proofs.UnitLaws.{length_units}
use Rattle.views.specs.Groups.{unit_for}
use Rattle.journal.specs.Admissible.{Target, goes_to}
use Rattle.journal.specs.Commit.{Pack, units_of_packs}
use Rattle.journal.specs.Plan.{count_from, keep}
use Rattle.journal.specs.Packing.{is_unwritten}
use Rattle.journal.specs.PlanCode.{KeepsUnits, KeepsWritten, target_in, target_of}
use Rattle.execution.specs.GatherCode.{Begins, Gathers, PushesNode, Puts, units_on, page_units}

-- ---- the units of a page are those of its nodes in the order of their numbers
units_keep : (n : ℕ) (us : List Update) → units_of_packs (keep n us []) ≡ map (unit_for n) us
units_keep n [] = refl
units_keep n (u ∷ us) = append-nil (map (unit_for n) (u ∷ us))

units_cond : (b : Bool) (n : ℕ) (us : List Update) → units_of_packs (cond b (keep n us []) []) ≡ cond b (map (unit_for n) us) []
units_cond true n us = units_keep n us
units_cond false n us = refl

-- the units of the nodes from n on, m of them
abbrev pub units_from : (ℕ → List Update) → (ℕ → Target) → ℕ → ℕ → ℕ → List U.Unit
units_from f target p n m = flat (units_on f target p) (count_from n m)

module _ (f : ℕ → List Update) (target : ℕ → Target) (p : ℕ) where
  abbrev packs_at : ℕ → List Pack
  packs_at n = cond (goes_to p (target n)) (keep n (f n) []) []

  packs_units : (n m : ℕ) → units_of_packs (flat packs_at (count_from n m)) ≡ units_from f target p n m
  packs_units n zero = refl
  packs_units n (suc m) =
      flat_append (λ (k : Pack). map (unit_for k.node) k.updates) (packs_at n) (flat packs_at (count_from (suc n) m))
      ∙ ap₂ (λ (a b : List U.Unit). a ++ b) (units_cond (goes_to p (target n)) n (f n)) (packs_units (suc n) m)

  pub page_units_lem : (limit : ℕ) → page_units f target limit p ≡ units_from f target p 0 limit
  page_units_lem limit = packs_units 0 limit

  -- the first of them, and the others
  from_more : (n limit : ℕ) → n < limit → units_from f target p n (limit - n) ≡ units_on f target p n ++ units_from f target p (n + 1) (limit - (n + 1))
  from_more n limit h =
      let e : limit - n ≡ suc (limit - (n + 1)) = omega arith in
      let s : suc n ≡ n + 1 = omega arith in
      ap (units_from f target p n) e ∙ ap (λ (i : ℕ). units_on f target p n ++ units_from f target p i (limit - (n + 1))) s

  from_none : (n limit : ℕ) → limit ≤ n → units_from f target p n (limit - n) ≡ []
  from_none n limit h = let e : limit - n ≡ 0 = omega arith in ap (units_from f target p n) e

-- ---- which nodes a page has
goes_else : (x p : ℕ) → (x ≡ p → ⊥) → goes_to p (target_of x) ≡ false
goes_else x p h = cases (eqb x 65535) (λ t. rw t) (λ t. rw t (ne_eqb x p h))

has_page : (x p : ℕ) → x ≡ p → p < 256 → is_unwritten (target_of x) ≡ false
has_page x p e h = let z : eqb x 65535 ≡ false = ne_eqb x 65535 (λ q. omega arith) in rw z

goes_there : (x p : ℕ) → x ≡ p → p < 256 → goes_to p (target_of x) ≡ true
goes_there x p e h = let z : eqb x 65535 ≡ false = ne_eqb x 65535 (λ q. omega arith) in rw z (eq-eqb x p e)

-- ---- a copy of m bytes from index i on to index a on
pub copied : (units b : List ℕ) (i m a : ℕ) (last : List ℕ) → i + m ≤ length units → a + m ≤ length b
    → last ≡ take (length (part i (i + m - i) units)) (part i (i + m - i) units) ++ drop (length (part i (i + m - i) units)) (part a (a + m - a) b)
    → patch b a (a + m - a) last ≡ patch b a m (part i m units)
copied units b i m a last h l e =
    let x : i + m - i ≡ m = omega arith in
    let size : length (part i (i + m - i) units) ≡ m = ap (λ (n : ℕ). length (part i n units)) x ∙ length_part units i m h in
    copied_part b a m (part i (i + m - i) units) last l size e ∙ ap (λ (n : ℕ). patch b a m (part i n units)) x

-- ---- units put behind others
pub puts_none : (k : ℕ) (b : List ℕ) → Puts k [] b b k
puts_none k b = record { is = sym (append-nil (take (12 * k) b)); count = omega arith }

pub puts_patch : (k size : ℕ) (us : List U.Unit) (b ys : List ℕ) → 12 * k ≤ length b → size ≡ length us → ys ≡ flat encode us
    → Puts k us b (patch b (12 * k) (12 * size) ys) (k + size)
puts_patch k size us b ys h e q =
    let front : List ℕ = take (12 * k) b ++ ys in
    let rest : List ℕ = drop (12 * size) (drop (12 * k) b) in
    let l : length front ≡ 12 * (k + size) = length-append (take (12 * k) b) ys ∙ omega (arith, length-take-le (12 * k) b h, ap length q, length_units us) in
    record {
      is = ap (take (12 * (k + size))) (sym (append_assoc (take (12 * k) b) ys rest)) ∙ take_at front rest (12 * (k + size)) l
          ∙ ap (λ (zs : List ℕ). take (12 * k) b ++ zs) q;
      count = omega arith;
    }

-- what stands on a list, whatever stands for what does not
other_default : (xs : List ℕ) (i a b : ℕ) → i < length xs → get_or xs i a ≡ get_or xs i b
other_default [] i a b h = absurd (omega arith)
other_default (x ∷ xs) zero a b h = refl
other_default (x ∷ xs) (suc i) a b h = other_default xs i a b (omega arith)

-- ---- one node
module _ (room : ℕ) (targets sizes units : List ℕ) (p n k : ℕ) (b : List ℕ) (on : n < length targets) where
  read : get_or targets n 65535 ≡ get_or targets n 0
  read = other_default targets n 65535 0 on

  -- it has another page
  pub push_other : k ≤ room → (get_or targets n 0 ≡ p → ⊥) → PushesNode room targets sizes units p n k b b k
  push_other l h =
      let z = goes_else (get_or targets n 65535) p (λ e. h (sym read ∙ e)) in
      record { few = l; is = λ f keeps fits. rw z (puts_none k b) }

  module _ (e : get_or targets n 0 ≡ p) (small-page : p < 256) where
    there : goes_to p (target_in targets n) ≡ true
    there = goes_there (get_or targets n 65535) p (read ∙ e) small-page

    its_units : (f : ℕ → List Update) → units_on f (target_in targets) p n ≡ map (unit_for n) (f n)
    its_units f = ap (λ (t : Bool). cond t (map (unit_for n) (f n)) []) there

    its_size : (f : ℕ → List Update) → length (units_on f (target_in targets) p n) ≡ length (f n)
    its_size f = ap length (its_units f) ∙ length-map (f n) (unit_for n)

    kept : (f : ℕ → List Update) → (is_unwritten (target_in targets n) ≡ false → KeepsUnits n (f n) (get_or sizes n 0) units) → KeepsUnits n (f n) (get_or sizes n 0) units
    kept f keeps = keeps (has_page (get_or targets n 65535) p (read ∙ e) small-page)

    -- more units than a node has
    pub push_large : k ≤ room → 17 < get_or sizes n 0 → PushesNode room targets sizes units p n k b b k
    push_large l h = record { few = l; is = λ f keeps fits. (let s = kept f keeps in absurd (omega (arith, s.len, s.few))) }

    -- no room
    pub push_full : k ≤ room → room < k + get_or sizes n 0 → PushesNode room targets sizes units p n k b b k
    push_full l h = record { few = l; is = λ f keeps fits. (let s = kept f keeps in absurd (omega (arith, s.len, its_size f))) }

    -- room
    pub push_units : (c : List ℕ) → 12 * room ≤ length b → k + get_or sizes n 0 ≤ room
        → c ≡ patch b (12 * k) (12 * get_or sizes n 0) (part (204 * n) (12 * get_or sizes n 0) units)
        → PushesNode room targets sizes units p n k b c (k + get_or sizes n 0)
    push_units c lb fits q =
        record {
          few = fits;
          is = λ f keeps _.
              (let s = kept f keeps in
              rw (q, its_units f)
              (puts_patch k (get_or sizes n 0) (map (unit_for n) (f n)) b (part (204 * n) (12 * get_or sizes n 0) units) (omega arith)
              (s.len ∙ sym (length-map (f n) (unit_for n)))
              (ap (λ (i : ℕ). take (12 * i) (drop (204 * n) units)) s.len ∙ s.is)));
        }

-- ---- the loop: with the units of the nodes that are left, those of the page
pub record Left (us : List U.Unit) (k : ℕ) (vs : List U.Unit) (c : List ℕ) : Type 0 where
  pub is : take (12 * k) c ++ flat encode vs ≡ flat encode us
  pub count : k + length vs ≡ length us

left_next : (us : List U.Unit) (k r : ℕ) (ws vs xs : List U.Unit) (c d : List ℕ) → xs ≡ ws ++ vs → Left us k xs c → Puts k ws c d r → Left us r vs d
left_next us k r ws vs xs c d e l p =
    record {
      is = ap (λ (x : List ℕ). x ++ flat encode vs) p.is
          ∙ append_assoc (take (12 * k) c) (flat encode ws) (flat encode vs)
          ∙ ap (λ (x : List ℕ). take (12 * k) c ++ x) (sym (ap (flat encode) e ∙ flat_append encode ws vs))
          ∙ l.is;
      count = omega (arith, p.count, l.count, ap length e ∙ length-append ws vs);
    }

left_done : (us : List U.Unit) (k : ℕ) (vs : List U.Unit) (c : List ℕ) → vs ≡ [] → Left us k vs c → Begins us c k
left_done us k vs c e l =
    record {
      is = sym (append-nil (take (12 * k) c)) ∙ ap (λ (ws : List U.Unit). take (12 * k) c ++ flat encode ws) (sym e) ∙ l.is;
      count = omega (arith, l.count, ap length e);
    }

module _ (room limit : ℕ) (targets sizes units : List ℕ) (p : ℕ) where
  pub record Gathering (n k : ℕ) (c : List ℕ) : Type 0 where
    pub few : k ≤ room
    pub is : (f : ℕ → List Update) → KeepsWritten limit f targets sizes units → length (page_units f (target_in targets) limit p) ≤ room
        → Left (page_units f (target_in targets) limit p) k (units_from f (target_in targets) p n (limit - n)) c

  pub gathering_start : (b : List ℕ) → Gathering 0 0 b
  gathering_start b =
      record {
        few = omega arith;
        is = λ f keeps fits.
            (let e = page_units_lem f (target_in targets) p limit in
            let z : limit - 0 ≡ limit = omega arith in
            rw (z, ← e) (record { is = refl; count = omega arith }));
      }

  pub gathering_next : (n k r : ℕ) (c d : List ℕ) → n < limit → Gathering n k c → PushesNode room targets sizes units p n k c d r → Gathering (n + 1) r d
  gathering_next n k r c d h g q =
      record {
        few = q.few;
        is = λ f keeps fits.
            (let e = from_more f (target_in targets) p n limit h in
            let l = g.is f keeps fits in
            left_next (page_units f (target_in targets) limit p) k r (units_on f (target_in targets) p n)
            (units_from f (target_in targets) p (n + 1) (limit - (n + 1))) (units_from f (target_in targets) p n (limit - n)) c d e l
            (q.is f (keeps n h)
            (omega (
              arith,
              l.count,
              ap length e
                  ∙ length-append (units_on f (target_in targets) p n) (units_from f (target_in targets) p (n + 1) (limit - (n + 1))),
            ))));
      }

  pub gathering_done : (n k : ℕ) (c : List ℕ) → limit ≤ n → Gathering n k c → Gathers room limit targets sizes units p c k
  gathering_done n k c h g =
      record {
        few = g.few;
        is = λ f keeps fits.
            left_done (page_units f (target_in targets) limit p) k (units_from f (target_in targets) p n (limit - n)) c (from_none f (target_in targets) p n limit h)
            (g.is f keeps fits);
      }

-- ---- the data of a page
pub laid_front : (g : Geometry) (commit p total k : ℕ) (units page : List ℕ) → page ≡ laid g commit p total k (part 0 (12 * k - 0) units)
    → page ≡ laid g commit p total k (take (12 * k) units)
laid_front g commit p total k units page e =
    let z : 12 * k - 0 ≡ 12 * k = omega arith in
    e ∙ ap (λ (m : ℕ). laid g commit p total k (take m units)) z

pub data_built : (g : Geometry) (limit : ℕ) (targets sizes units : List ℕ) (commit p total k : ℕ) (c page : List ℕ) → Gathers g.units limit targets sizes units p c k
    → page ≡ laid g commit p total k (take (12 * k) c)
    → (f : ℕ → List Update) → KeepsWritten limit f targets sizes units → length (page_units f (target_in targets) limit p) ≤ g.units
    → page ≡ data_of g commit p total (page_units f (target_in targets) limit p)
data_built g limit targets sizes units commit p total k c page s e f keeps fits =
    let b = s.is f keeps fits in
    e ∙ ap₂ (laid g commit p total) b.count b.is
