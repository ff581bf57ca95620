-- The lengths are added one by one, if there are no more than 1,024.
use mathlib.Core.Path.{◌≡◌, refl, ap, sym, ◌∙◌}
use mathlib.Core.Bool.{Bool, true, cond}
use mathlib.Core.List.{List, sum}
use Prim.Native.Nat.{ℕ, ◌+◌, ◌*◌, ◌^◌, ◌≤◌, ◌<◌}
use native.Mathlib.Numerals.{add-one}
use native.Mathlib.Omega.{arith}
use borrow.Author.Tests.{le-leb, lt-leb}
use lib.Dec.{leb}
use lib.ListN.{length, get_or, take}
use lib.Seq.{take_all}
use Rattle.memory.specs.Lists.{total}
use Rattle.memory.proofs.Totals.{total_take}

-- of no more than 1,024 lengths i are added, and m is what that comes to: at most 2^32 for each
pub record Added (ns : List ℕ) (i m : ℕ) : Type 0 where
  pub few : length ns ≤ 1024
  pub bound : i ≤ length ns
  pub sums : m ≡ total (take i ns)
  pub small : m ≤ 4294967296 * i

-- the sum that is asked for
abbrev pub Sum : List ℕ → ℕ → Type 0
Sum ns m = m ≡ cond (leb (length ns) 1024) (total ns) 0

pub none_added : (ns : List ℕ) → length ns ≤ 1024 → Added ns 0 0
unfolding sum
none_added ns h = record { few = h; bound = omega arith; sums = refl; small = omega arith }

module _ {ns : List ℕ} {i m : ℕ} (p : Added ns i m) where
  pub one_added : i < length ns → get_or ns i 0 < 2 ^ 32 → Added ns (i + 1) (m + get_or ns i 0)
  one_added h g =
      rw (add-one i) record { few = p.few; bound = h; sums = omega (arith, p.sums, total_take ns i h); small = omega (arith, p.small, g) }

  pub all_added : length ns ≤ i → Sum ns m
  all_added h = p.sums ∙ ap total (take_all i ns h) ∙ ap (λ (b : Bool). cond b (total ns) 0) (sym (le-leb (length ns) 1024 p.few))

-- more of them are not added
pub not_added : (ns : List ℕ) → 1024 < length ns → Sum ns 0
not_added ns h = ap (λ (b : Bool). cond b (total ns) 0) (sym (lt-leb (length ns) 1024 h))

-- where there are no more, the sum is that of all
pub of_all : (ns : List ℕ) {m : ℕ} → Sum ns m → leb (length ns) 1024 ≡ true → m ≡ total ns
of_all ns e h = e ∙ ap (λ (b : Bool). cond b (total ns) 0) h
