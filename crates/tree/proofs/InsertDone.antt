-- An insert that is not refused, on a table of `limit` views. Assumes nothing.
use mathlib.Core.Path.{◌≡◌, refl, sym, ap, ◌∙◌, subst}
use mathlib.Core.Bool.{Bool, true, false, cond}
use mathlib.Core.List.{[], ◌∷◌}
use Prim.Native.Nat.{ℕ, zero, suc, ◌<◌, ◌≤◌}
use native.Mathlib.Omega.{arith}
use lib.Dec.{eqb, leb}
use lib.ListN.{length, take, drop}
use borrow.Author.Tests.{leb-true}
use Rattle.views.specs.Nodes.{entry, view, insert_entry}
use Rattle.tree.specs.Tree.{Table, put, entries_at, next, root_level, first_key, child, records, least, least2}
use Rattle.tree.specs.Step6.{top, Tree}
use Rattle.tree.specs.Insert.{Up, stop, gains, table_of, halve, refusal, done, allowed, raise, fit_or_split, gain, pass, insert_at, inserted, insert}
use Rattle.tree.proofs.Tables.{Ext, ext_put, ext_same}
use Rattle.tree.proofs.InsertLaws.{inserted_keeps}

cond_ext : (b : Bool) (t : Table) (x y : Up) → Ext t (table_of x) → Ext t (table_of y) → Ext t (table_of (cond b x y))
cond_ext true t x y p q = p
cond_ext false t x y p q = q

gain_ext : (l n k v : ℕ) (t u : Table) → Ext t u → Ext t (table_of (gain l n k v u))
unfolding gain fit_or_split halve raise
gain_ext l n k v t u e =
    let es = insert_entry k v (entries_at u n) in
    let m = least u in
    let o = least2 u in
    let two = entry 0 m ∷ entry (first_key 0 (drop 9 es)) o ∷ [] in
    let w = put o (view l (drop 9 es)) (put m (view l (take 9 es)) u) in
    cond_ext (leb (length es) 16) t (stop (put n (view l es) u))
    (cond (eqb n 0) (stop (raise l m o es u)) (gains (first_key 0 (drop 9 es)) m (halve l n m es u)))
    (ext_put n l es t u e)
    (cond_ext (eqb n 0) t (stop (raise l m o es u)) (gains (first_key 0 (drop 9 es)) m (halve l n m es u))
    (ext_put 0 (suc l) two t w (ext_put o l (drop 9 es) t (put m (view l (take 9 es)) u) (ext_put m l (take 9 es) t u e)))
    (ext_put m l (drop 9 es) t (put n (view l (take 9 es)) u) (ext_put n l (take 9 es) t u e)))

pass_ext : (l n : ℕ) (t : Table) (r : Up) → Ext t (table_of r) → Ext t (table_of (pass l n r))
pass_ext l n t (stop u) e = e
pass_ext l n t (gains k m u) e = gain_ext l n k m t u e

insert_ext : (l n k v : ℕ) (t : Table) → Ext t (table_of (insert_at l n k v t))
unfolding insert_at
insert_ext zero n k v t = gain_ext 0 n k v t t (ext_same t)
insert_ext (suc l) n k v t = pass_ext (suc l) n t (insert_at l (child t n k) k v t) (insert_ext l (child t n k) k v t)

done_cases : (limit : ℕ) (u w : Table) (b : Bool) → leb (next u) limit ≡ b → cond b (done u) (refusal 5) ≡ done w → (u ≡ w) × (next u ≤ limit)
done_cases limit u w true e h = (cc, leb-true (next u) limit e)
done_cases limit u w false e h = let z : ◌≡◌ {A = ℕ} 0 1 = cc in absurd (omega arith)

pub insert_done : (limit k v : ℕ) (t w : Table) → insert limit k v t ≡ done w → (inserted k v t ≡ w) × (next (inserted k v t) ≤ limit)
unfolding insert allowed
insert_done limit k v t w h = done_cases limit (inserted k v t) w (leb (next (inserted k v t)) limit) refl h

insert_length : (limit k v : ℕ) (t u : Table) → length t ≡ limit → insert limit k v t ≡ done u → length u ≡ limit
unfolding inserted
insert_length limit k v t u e h =
    let d = insert_done limit k v t u h in
    let x : Ext t (inserted k v t) = insert_ext (root_level t) 0 k v t in
    ap length (sym d.0) ∙ omega (arith, d.1, x.long, x.short)

pub record Inserted (limit k v : ℕ) (t u : Table) : Type 0 where
  pub is : u ≡ inserted k v t
  pub tree : Tree u
  pub records : records u ≡ insert_entry k v (records t)
  pub long : length u ≡ limit
  pub numbers : next u ≤ limit

pub insert_keeps : (limit k v : ℕ) (t u : Table) → Tree t → k < top → length t ≡ limit → insert limit k v t ≡ done u → Inserted limit k v t u
insert_keeps limit k v t u g h e q =
    let d = insert_done limit k v t u q in
    let K = inserted_keeps k v t g h in
    record {
      is = sym d.0;
      tree = subst (λ (w : Table). Tree w) d.0 K.tree;
      records = ap records (sym d.0) ∙ K.records;
      long = insert_length limit k v t u e q;
      numbers = subst (λ (w : Table). next w ≤ limit) d.0 d.1;
    }
