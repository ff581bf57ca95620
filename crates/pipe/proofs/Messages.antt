-- Two different pipes never arrive at the same pipe by the whole blocks of the same bytes.
use mathlib.Core.Path.{◌≡◌, sym, ap, ◌∙◌}
use mathlib.Core.List.{List}
use Prim.Native.Nat.{ℕ, zero, suc, ◌*◌, ◌/◌}
use lib.ListN.{length, drop}
use Rattle.memory.specs.Bytes.{Bytes}
use Rattle.memory.proofs.Bytes.{take_bytes, drop_bytes}
use Rattle.quasigroup.specs.Tables.{Width, width32, width64}
use Rattle.quasigroup.specs.Theorem.{Admissible}
use Rattle.quasigroup.proofs.Quasigroup.{admissible_32, admissible_64}
use Rattle.quasigroup.proofs.Widths.{Bytewise, bytewise_32, bytewise_64}
use Rattle.digest.specs.Pipe.{Pipe}
use Rattle.digest.specs.Blocks.{block, iterated}
use Rattle.digest.specs.Step.{block_x, block_y, step}
use Rattle.pipe.specs.Backward.{backward}
use Rattle.pipe.specs.Reversible.{PipeOf, MessagesInjective}
use Rattle.pipe.proofs.Reversible.{forward_of, back_again}
use Rattle.pipe.proofs.InBytes.{x_vector, y_vector}

module _ (s : Width) (h : Admissible s) (k : Bytewise s.bits) where
  abbrev w : ℕ
  w = s.bits

  step_of : (m : List ℕ) → Bytes m → (p : Pipe) → PipeOf w p → PipeOf w (step s p m)
  unfolding step
  step_of m hm p hp = forward_of s h (block_x s m) (block_y s m) (x_vector s k m hm) (y_vector s k m hm) p hp

  step_undone : (m : List ℕ) → Bytes m → (p : Pipe) → PipeOf w p → backward s (step s p m) (block_x s m) (block_y s m) ≡ p
  unfolding step
  step_undone m hm p hp = back_again s h (block_x s m) (block_y s m) (x_vector s k m hm) (y_vector s k m hm) p hp

  module _ (B : ℕ) (m : List ℕ) (hm : Bytes m) where
    block_bytes : (i : ℕ) → Bytes (block B m i)
    block_bytes i = take_bytes B (drop (i * B) m) (drop_bytes (i * B) m hm)

    iterated_of : (n : ℕ) (p : Pipe) → PipeOf w p → PipeOf w (iterated B (step s) n p m)
    iterated_of zero p hp = hp
    iterated_of (suc n) p hp = step_of (block B m n) (block_bytes n) (iterated B (step s) n p m) (iterated_of n p hp)

    iterated_one : (n : ℕ) (p q : Pipe) → PipeOf w p → PipeOf w q → iterated B (step s) n p m ≡ iterated B (step s) n q m → p ≡ q
    iterated_one zero p q hp hq e = e
    iterated_one (suc n) p q hp hq e =
        let c = block B m n in
        iterated_one n p q hp hq
        (sym (step_undone c (block_bytes n) (iterated B (step s) n p m) (iterated_of n p hp))
        ∙ ap (λ (r : Pipe). backward s r (block_x s c) (block_y s c)) e
        ∙ step_undone c (block_bytes n) (iterated B (step s) n q m) (iterated_of n q hq))

pub messages_injective : MessagesInjective
messages_injective =
    record {
      narrow = λ m hm p q hp hq n e. n (iterated_one width32 admissible_32 bytewise_32 64 m hm (length m / 64) p q hp hq e);
      wide = λ m hm p q hp hq n e. n (iterated_one width64 admissible_64 bytewise_64 128 m hm (length m / 128) p q hp hq e);
    }
