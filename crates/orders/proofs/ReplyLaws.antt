-- Bytes gathered one after the other. Assumes nothing.
use mathlib.Core.Path.{◌≡◌, refl, sym, ap, ap₂, ◌∙◌}
use mathlib.Core.List.{List, [], ◌∷◌, ◌++◌, append_assoc, append-nil}
use Prim.Native.Nat.{ℕ, zero, suc, ◌+◌, ◌-◌, ◌*◌, ◌/◌, ◌%◌, ◌^◌, ◌≤◌, ◌<◌}
use native.Mathlib.Omega.{arith}
use native.Mathlib.Numerals.{add-one}
use lib.Pow.{field, mod-mod-pow, shr-shr}
use lib.ListN.{length, take, drop, get_or, set, length-append, drop_of_length-le}
use lib.Seq.{drop-cons, take-suc-set}
use Rattle.frames.specs.Frames.{digit_text, hex_text}
use Rattle.frames.proofs.TextLaws.{powers, length_hex}
use Rattle.orders.specs.Replies.{bytes_text}
use Rattle.orders.specs.ReplyCode.{Adds}

-- ---- what is added in turn
pub both : {b m a xs ys : List ℕ} {at i r : ℕ} → Adds b at xs m i → Adds m i ys a r → Adds b at (xs ++ ys) a r
both {b} {m} {a} {xs} {ys} {at} {i} {r} p q =
    let n = length-append xs ys in
    record {
      end = omega (arith, p.end, q.end, n);
      bytes = q.bytes ∙ ap (λ (t : List ℕ). t ++ ys) p.bytes ∙ append_assoc (take at b) xs ys;
    }

-- one byte put at an index
pub one : (b : List ℕ) (at x : ℕ) → at < length b → Adds b at (x ∷ []) (set b at x) (at + 1)
one b at x h = record { end = refl; bytes = ap (λ (j : ℕ). take j (set b at x)) (add-one at) ∙ take-suc-set b at x h }

-- ---- 16 digits are those of the two halves
digit_high : (n k : ℕ) → n / 16 ^ (k + 8) % 16 ≡ n / 2 ^ 32 / 16 ^ k % 16
digit_high n k =
    let e : 4 * (k + 8) ≡ 32 + 4 * k = omega arith in
    ap (λ (p : ℕ). n / p % 16) (sym (powers (k + 8)) ∙ ap (λ (j : ℕ). 2 ^ j) e) ∙ ap (λ (m : ℕ). m % 16) (sym (shr-shr n 32 (4 * k)))
    ∙ ap (λ (p : ℕ). n / 2 ^ 32 / p % 16) (powers k)

digit_low : (n k : ℕ) → k < 8 → n / 16 ^ k % 16 ≡ n % 2 ^ 32 / 16 ^ k % 16
digit_low n k h =
    let e : 32 ≡ (28 - 4 * k) + 4 + 4 * k = omega arith in
    sym (ap (λ (p : ℕ). n % 2 ^ 32 / p % 16) (sym (powers k)) ∙ ap (λ (j : ℕ). n % 2 ^ j / 2 ^ (4 * k) % 16) e
    ∙ ap (λ (m : ℕ). m % 16) (field n ((28 - 4 * k) + 4) (4 * k)) ∙ mod-mod-pow (n / 2 ^ (4 * k)) (28 - 4 * k) 4
    ∙ ap (λ (p : ℕ). n / p % 16) (powers k))

high_half : (n k : ℕ) → hex_text n (k + 8) ≡ hex_text (n / 2 ^ 32) k ++ hex_text n 8
high_half n zero = refl
high_half n (suc k) =
    let e : suc k + 8 ≡ suc (k + 8) = omega arith in
    ap (hex_text n) e ∙ ap₂ (λ (d : ℕ) (ds : List ℕ). digit_text d ∷ ds) (digit_high n k) (high_half n k)

low_half : (n k : ℕ) → k ≤ 8 → hex_text n k ≡ hex_text (n % 2 ^ 32) k
low_half n zero h = refl
low_half n (suc k) h = ap₂ (λ (d : ℕ) (ds : List ℕ). digit_text d ∷ ds) (digit_low n k (omega arith)) (low_half n k (omega arith))

pub halves : (n : ℕ) → hex_text n 16 ≡ hex_text (n / 4294967296) 8 ++ hex_text (n % 4294967296) 8
halves n = high_half n 8 ∙ ap (λ (ds : List ℕ). hex_text (n / 2 ^ 32) 8 ++ ds) (low_half n 8 (omega arith))

-- ---- bytes: the first i of them are written, up to index `end`
pub record Bytes (before : List ℕ) (at : ℕ) (bs : List ℕ) (out : List ℕ) (end i : ℕ) : Type 0 where
  pub size : length out ≡ length before
  pub few : i ≤ length bs
  pub place : end ≡ at + 2 * i
  pub same : take end out ++ bytes_text (drop i bs) ≡ take at before ++ bytes_text bs

pub puts : (b : List ℕ) (at : ℕ) (bs out : List ℕ) (end i x : ℕ) (after : List ℕ) (r : ℕ) → Bytes b at bs out end i → i < length bs
    → x ≡ get_or bs i 0 → Adds out end (hex_text x 2) after r → length after ≡ length out → Bytes b at bs after r (i + 1)
puts b at bs out end i x after r w h e p n =
    let step : bytes_text (drop i bs) ≡ hex_text (get_or bs i 0) 2 ++ bytes_text (drop (i + 1) bs) = rw (add-one, drop-cons bs i 0) in
    let rest = bytes_text (drop (i + 1) bs) in
    record {
      size = n ∙ w.size;
      few = omega arith;
      place = omega (arith, w.place, p.end, length_hex x 2);
      same =
          ap (λ (t : List ℕ). t ++ rest) p.bytes
          ∙ append_assoc (take end out) (hex_text x 2) rest
          ∙ ap (λ (y : ℕ). take end out ++ (hex_text y 2 ++ rest)) e
          ∙ ap (λ (t : List ℕ). take end out ++ t) (sym step)
          ∙ w.same;
    }

-- two digits for each byte
pub length_bytes : (bs : List ℕ) → length (bytes_text bs) ≡ 2 * length bs
length_bytes [] = refl
length_bytes (b ∷ bs) = omega (arith, length-append (hex_text b 2) (bytes_text bs), length_hex b 2, length_bytes bs)

pub put_all : (b : List ℕ) (at : ℕ) (bs out : List ℕ) (end i : ℕ) → Bytes b at bs out end i → length bs ≤ i → Adds b at (bytes_text bs) out end
put_all b at bs out end i w h =
    record {
      end = omega (arith, w.place, w.few, length_bytes bs);
      bytes = sym (append-nil (take end out)) ∙ ap (λ (t : List ℕ). take end out ++ bytes_text t) (sym (drop_of_length-le bs h)) ∙ w.same;
    }
