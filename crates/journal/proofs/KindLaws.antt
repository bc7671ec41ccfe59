-- The kinds of the operations of a format, a mount and a commit. Assumes nothing.
use mathlib.Core.Path.{◌≡◌, refl, sym, ap, ◌∙◌}
use mathlib.Core.List.{List, [], ◌∷◌, ◌++◌, map}
use Prim.Native.Nat.{ℕ, zero, suc, ◌+◌, ◌*◌, min}
use native.Mathlib.Omega.{arith}
use lib.ListN.{length, take, length-map}
use Rattle.lists.specs.Lists.{flat, tab}
use Rattle.chip.specs.declared.progress.Counts.{Counts}
use Rattle.chip.specs.Geometry.{Geometry}
use Rattle.chip.specs.Page.{Page}
use Rattle.chip.specs.Counts.{counts_of, total}
use Rattle.chip.specs.Chip.{Op, erase, kind_of, kinds_of}
use Rattle.chip.proofs.CountLaws.{counts_same, total_counts}
use Rattle.pages.specs.Steps.{Live}
use Rattle.pages.specs.Write.{writes}
use Rattle.journal.specs.Commit.{commit_ops, writes_of}
use Rattle.journal.specs.Format.{format_data, format_ops}
use Rattle.journal.specs.Mount.{mount_ops, retire, void_pages}
use Rattle.journal.specs.Plan.{Plan, ops_of, news_of}
use Rattle.journal.proofs.CommitBuilt.{length_new}

abbrev programs : Counts → ℕ
programs c = c.programs

abbrev marks : Counts → ℕ
marks c = c.marks

abbrev erases : Counts → ℕ
erases c = c.erases

-- ---- a format: 1, 2, B
erases_first : (k b : ℕ) (os : List Op) → counts_of (kinds_of (tab k b erase ++ os)) ≡ record { programs = (counts_of (kinds_of os)).programs; marks = (counts_of (kinds_of os)).marks; erases = b + (counts_of (kinds_of os)).erases }
erases_first k zero os = counts_same _ _ refl refl (omega arith)
erases_first k (suc b) os =
    let e = erases_first (suc k) b os in
    counts_same _ _ (omega (arith, ap programs e)) (omega (arith, ap marks e)) (omega (arith, ap erases e))

pub format_kinds : (g : Geometry) (b : ℕ) → counts_of (kinds_of (format_ops g b)) ≡ record { programs = 1; marks = 2; erases = b }
format_kinds g b = erases_first 0 b (writes 0 (format_data g)) ∙ counts_same _ _ refl refl (omega arith)

-- ---- a mount, as far as it goes: marks alone
marks_alone : (n : ℕ) (v : List Live) → counts_of (take n (kinds_of (map retire v))) ≡ record { programs = 0; marks = min n (length (map retire v)); erases = 0 }
marks_alone zero v = counts_same _ _ refl (omega arith) refl
marks_alone (suc n) [] = counts_same _ _ refl (omega arith) refl
marks_alone (suc n) (x ∷ v) =
    let e = marks_alone n v in
    counts_same _ _ (omega (arith, ap programs e)) (omega (arith, ap marks e)) (omega (arith, ap erases e))

pub mount_kinds : (g : Geometry) (n : ℕ) (ps : List Page) → counts_of (take n (kinds_of (mount_ops g ps))) ≡ record { programs = 0; marks = min n (length (mount_ops g ps)); erases = 0 }
mount_kinds g n ps = marks_alone n (void_pages g ps)

-- ---- a commit: a data program and two marks a page, and its erases
page_kinds : (news : List Live) → counts_of (kinds_of (flat writes_of news)) ≡ record { programs = length news; marks = 2 * length news; erases = 0 }
page_kinds [] = refl
page_kinds (x ∷ news) =
    let e = page_kinds news in
    counts_same _ _ (omega (arith, ap programs e)) (omega (arith, ap marks e)) (omega (arith, ap erases e))

commit_ops_kinds : (bs : List ℕ) (news : List Live) → counts_of (kinds_of (commit_ops bs news)) ≡ record { programs = length news; marks = 2 * length news; erases = length bs }
commit_ops_kinds [] news = page_kinds news
commit_ops_kinds (b ∷ bs) news =
    let e = commit_ops_kinds bs news in
    counts_same _ _ (omega (arith, ap programs e)) (omega (arith, ap marks e)) (omega (arith, ap erases e))

-- so an operation for each erase and three for each page
pub length_ops : (bs : List ℕ) (news : List Live) → length (commit_ops bs news) ≡ length bs + 3 * length news
length_ops bs news =
    sym (length-map (commit_ops bs news) kind_of) ∙ sym (total_counts (kinds_of (commit_ops bs news))) ∙ ap total (commit_ops_kinds bs news) ∙ omega arith

pub commit_kinds : (g : Geometry) (c : ℕ) (q : Plan)
    → counts_of (kinds_of (ops_of g c q)) ≡ record { programs = length q.written; marks = 2 * length q.written; erases = length q.erased }
commit_kinds g c q =
    commit_ops_kinds q.erased (news_of g c q)
    ∙ ap (λ (n : ℕ). record { programs = n; marks = 2 * n; erases = length q.erased }) (length_new g (suc c) (length q.written) 0 q.written)
