-- What an operation's function over words of k bytes leaves in the output: the result of the loaded words is stored.
use mathlib.Core.Path.{◌≡◌, ap, ap₂, sym, ◌∙◌}
use mathlib.Core.List.{List, ◌++◌}
use Prim.Native.Nat.{ℕ, ◌*◌, ◌/◌}
use native.Mathlib.Omega.{arith}
use lib.ListN.{drop}
use Rattle.memory.specs.Bytes.{words_at, bytes_of}
use Rattle.quasigroup.specs.Tables.{Width, width_of}
use Rattle.operands.specs.Operation.{on_bytes}

module _ (op : Width → List ℕ → List ℕ → List ℕ) (s : Width) (w k : ℕ) (by_number : s ≡ width_of w) (bits : w ≡ 8 * k) (x y out : List ℕ) where
  bytes : w / 8 ≡ k
  bytes = omega arith

  at_width : on_bytes op w x y ≡ bytes_of k (op s (words_at k 8 x 0) (words_at k 8 y 0))
  unfolding on_bytes
  at_width =
      ap (λ (n : ℕ). bytes_of n (op (width_of w) (words_at n 8 x 0) (words_at n 8 y 0))) bytes
      ∙ ap (λ (t : Width). bytes_of k (op t (words_at k 8 x 0) (words_at k 8 y 0))) (sym by_number)

  pub stored : {u v z last : List ℕ} → u ≡ words_at k 8 x 0 → v ≡ words_at k 8 y 0 → z ≡ op s u v → last ≡ bytes_of k z ++ drop (8 * k) out
      → last ≡ on_bytes op w x y ++ drop w out
  stored a b r e =
      e ∙ ap₂ {C = List ℕ} (λ (l : List ℕ) (n : ℕ). bytes_of k l ++ drop n out) (r ∙ ap₂ (op s) a b) (sym bits) ∙ ap (λ (l : List ℕ). l ++ drop w out) (sym at_width)
