-- One count after the other, and their sum.
use mathlib.Core.Path.{◌≡◌, refl, ap, ap₂, sym, ◌∙◌}
use mathlib.Core.List.{List, ◌∷◌, ◌++◌, sum}
use Prim.Native.Nat.{ℕ, zero, suc, ◌+◌, ◌-◌, ◌*◌, ◌≤◌, ◌<◌}
use native.Mathlib.Numerals.{add-one}
use native.Mathlib.Omega.{arith}
use lib.ListN.{length, get_or, set, drop, length-set}
use lib.Seq.{sets}
use Rattle.memory.proofs.Lists.{front, taken_short}
use Rattle.memory.specs.Lists.{total}
use Rattle.hamming.specs.Counts.{first_digest, second_digest, flipped_bits, counts_from, pair_count, flipped_counts}
use Rattle.hamming.proofs.Metric.{distance_le}

pub counts_length : (s : List ℕ) (k n : ℕ) → length (counts_from s k n) ≡ n
counts_length s k zero = refl
counts_length s k (suc n) = ap suc (counts_length s (suc k) n)

-- count j of those from record k on
pub counts_get : (s : List ℕ) (k n j : ℕ) → j < n → get_or (counts_from s k n) j 0 ≡ flipped_bits s (k + j)
counts_get s k zero j h = absurd (omega arith)
counts_get s k (suc n) zero h = let e : k ≡ k + 0 = omega arith in ap (flipped_bits s) e
counts_get s k (suc n) (suc j) h =
    let e : suc k + j ≡ k + suc j = omega arith in
    counts_get s (suc k) n j (omega arith) ∙ ap (flipped_bits s) e

-- a digest has no more than 32 bytes
pub flipped_le : (s : List ℕ) (k : ℕ) → flipped_bits s k ≤ 256
flipped_le s k = omega (arith, distance_le (first_digest s k) (second_digest s k), taken_short 32 (drop (64 * k) s))

pub total_le : (s : List ℕ) (k n : ℕ) → total (counts_from s k n) ≤ 256 * n
unfolding sum
total_le s k zero = omega arith
total_le s k (suc n) = omega (arith, flipped_le s k, total_le s (suc k) n)

-- the counts of k records stand in the list l, which was l₀ at first, and m is their sum
pub record Counting (s l₀ : List ℕ) (k : ℕ) (l : List ℕ) (m : ℕ) : Type 0 where
  pub within : k ≤ pair_count (length s)
  pub same : length l ≡ length l₀
  pub stored : sets l k (counts_from s k (pair_count (length s) - k)) ≡ sets l₀ 0 (flipped_counts s)
  pub added : m + total (counts_from s k (pair_count (length s) - k)) ≡ total (flipped_counts s)
  pub small : m ≤ 256 * k

module _ (s l₀ : List ℕ) where
  abbrev n : ℕ
  n = pair_count (length s)

  pub begin : Counting s l₀ 0 l₀ 0
  begin =
      let z : n - 0 ≡ n = omega arith in
      let e : counts_from s 0 (n - 0) ≡ flipped_counts s = ap (counts_from s 0) z in
      record { within = omega arith; same = refl; stored = ap (sets l₀ 0) e; added = ap (λ (l : List ℕ). 0 + total l) e ∙ omega arith; small = omega arith }

  one_more : (k : ℕ) → k < n → counts_from s k (n - k) ≡ flipped_bits s k ∷ counts_from s (k + 1) (n - (k + 1))
  one_more k h =
      let e : n - k ≡ suc (n - (k + 1)) = omega arith in
      ap (counts_from s k) e ∙ ap (λ (j : ℕ). flipped_bits s k ∷ counts_from s j (n - (k + 1))) (sym (add-one k))

  pub next : (k : ℕ) (l : List ℕ) (m : ℕ) {c : ℕ} → k < n → c ≡ flipped_bits s k → Counting s l₀ k l m → Counting s l₀ (k + 1) (set l k c) (m + c)
  unfolding sum
  next k l m {c} h e p =
      let d = flipped_le s k in
      let r = counts_from s (k + 1) (n - (k + 1)) in
      let a : total (counts_from s k (n - k)) ≡ flipped_bits s k + total r = ap total (one_more k h) in
      record {
        within = omega arith;
        same = length-set l k c ∙ p.same;
        stored = ap₂ {C = List ℕ} (λ x j. sets (set l k x) j r) e (add-one k) ∙ ap (sets l k) (sym (one_more k h)) ∙ p.stored;
        added = omega (arith, p.added, a, e);
        small = omega (arith, p.small, d, e);
      }

  pub end : (k : ℕ) (l : List ℕ) (m : ℕ) → n ≤ k → n ≤ length l₀ → Counting s l₀ k l m → (m ≡ total (flipped_counts s)) × (l ≡ flipped_counts s ++ drop n l₀)
  unfolding sum
  end k l m h g p =
      let z : n - k ≡ 0 = omega arith in
      let c = counts_length s 0 n in
      let a : total (counts_from s k (n - k)) ≡ 0 = ap (λ (j : ℕ). total (counts_from s k j)) z in
      let b : sets l k (counts_from s k (n - k)) ≡ l = ap (λ (j : ℕ). sets l k (counts_from s k j)) z in
      (omega (arith, p.added, a), sym b ∙ p.stored ∙ front l₀ (flipped_counts s) (omega arith) ∙ ap (λ (j : ℕ). flipped_counts s ++ drop j l₀) c)
