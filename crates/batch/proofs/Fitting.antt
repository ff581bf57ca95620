-- 1,024 digests of 64 bytes each take 65,536.
use Prim.Native.Nat.{ℕ, ◌/◌, ◌^◌, ◌≤◌}
use native.Mathlib.Nat.{mul-le-mul}
use native.Mathlib.Omega.{arith}
use borrow.Author.Tests.{leb-true}
use lib.Dec.{eqb, leb}
use lib.ListN.{length}
use Rattle.answer.specs.declared.Refusal.TheVariants.{Size, MessageCount, JoinedLength, Output}
use Rattle.answer.proofs.Injective.{fits_unless}
use Rattle.memory.specs.Lists.{total}
use Rattle.digest.specs.Kind.{known_size, kind_for, Known}
use Rattle.digest.proofs.Answers.{known_bound}
use Rattle.batch.specs.Batch.{digests_length}
use Rattle.batch.specs.Fitting.{BatchFits}

pub digests_bound : (n c : ℕ) → Known n → c ≤ 1024 → digests_length n c ≤ 65536
digests_bound n c k h = let b : n / 8 ≤ 64 = omega (arith, known_bound n k) in mul-le-mul h b

pub batch_fits : BatchFits
batch_fits n joined ns room =
    fits_unless (2 ^ 32) (known_size (kind_for n) n) Size _ λ k.
    fits_unless (2 ^ 32) (leb (length ns) 1024) MessageCount _ λ f.
    fits_unless (2 ^ 32) (eqb (total ns) joined) JoinedLength _ λ _.
    fits_unless (2 ^ 32) (leb (digests_length n (length ns)) room) Output _ λ _.
    omega (arith, digests_bound n (length ns) k (leb-true (length ns) 1024 f))
