-- The two tests of the call, and its answer once they have come out.
use Rattle.std.specs.Prelude.{Ok}
use mathlib.Core.Path.{◌≡◌, refl}
use mathlib.Core.Bool.{true, false, and-false}
use mathlib.Core.List.{List}
use Prim.Native.Nat.{ℕ, ◌%◌, ◌≤◌, ◌<◌}
use borrow.Author.Tests.{eqb-true, leb-true, eq-eqb, ne_eqb, le-leb, lt-leb}
use lib.Dec.{eqb, leb}
use lib.ListN.{length}
use Rattle.answer.specs.Answer.{refused_at}
use Rattle.answer.specs.declared.Refusal.TheVariants.{Pairs, Output}
use Rattle.answer.proofs.Tests.{both_true}
use Rattle.memory.specs.Lists.{total}
use Rattle.hamming.specs.Counts.{pair_count, flipped_counts, whole_pairs, flipped_answer}

pub whole : (m : ℕ) → whole_pairs m ≡ true → (m % 64 ≡ 0) × (m ≤ 65536)
whole m e =
    let t = both_true (eqb (m % 64) 0) (leb m 65536) e in
    (eqb-true (m % 64) 0 t.0, leb-true m 65536 t.1)

pub is_whole : (m : ℕ) → m % 64 ≡ 0 → m ≤ 65536 → whole_pairs m ≡ true
is_whole m h g = rw (eq-eqb (m % 64) 0 h, le-leb m 65536 g) refl

pub is_partial : (m : ℕ) → (m % 64 ≡ 0 → ⊥) → whole_pairs m ≡ false
is_partial m h = rw (ne_eqb (m % 64) 0 h) refl

pub is_long : (m : ℕ) → 65536 < m → whole_pairs m ≡ false
is_long m h = rw (lt-leb m 65536 h) (and-false (eqb (m % 64) 0))

module _ (s : List ℕ) (n : ℕ) where
  pub not_whole : whole_pairs (length s) ≡ false → flipped_answer s n ≡ refused_at Pairs 0
  not_whole e = rw e refl

  pub no_room : whole_pairs (length s) ≡ true → leb (pair_count (length s)) n ≡ false → flipped_answer s n ≡ refused_at Output 0
  no_room e h = rw (e, h) refl

  pub accepted : whole_pairs (length s) ≡ true → leb (pair_count (length s)) n ≡ true → flipped_answer s n ≡ Ok (total (flipped_counts s))
  accepted e h = rw (e, h) refl
