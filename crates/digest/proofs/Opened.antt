-- A hash that was opened and fed one message: its state, and what closes it.
use Rattle.std.specs.Prelude.{Ok}
use mathlib.Core.Path.{◌≡◌, ap, ◌∙◌}
use mathlib.Core.Bool.{Bool, true}
use mathlib.Core.List.{List, ◌++◌}
use Prim.Native.Nat.{ℕ, ◌+◌, ◌*◌, ◌<◌}
use native.Mathlib.Nat.{zero-add, zero-mod}
use lib.ListN.{length}
use Rattle.answer.specs.declared.Refusal.TheVariants.{Size}
use Rattle.answer.specs.Refuse.{unless, outcome}
use Rattle.digest.specs.Padding.{ending}
use Rattle.digest.specs.Blocks.{compressed, rest}
use Rattle.digest.specs.Kind.{Kind, known_size}
use Rattle.digest.specs.State.{formed, pending, opened, zeros, open_state, advanced, closed, cut, finished}
use Rattle.digest.specs.OneCall.{digest_of}
use Rattle.digest.proofs.Blocks.{compressed_twice}
use Rattle.digest.proofs.Feeding.{held_opened, pending_advanced}

module _ (k : Kind) (pos : 0 < k.block) (n : ℕ) where
  pub open_done : known_size k n ≡ true → open_state k n ≡ opened k n
  open_done kn = ap (λ (b : Bool). outcome (unless b Size (Ok 0)) (opened k n) (zeros k)) kn

  pub formed_opened : known_size k n ≡ true → formed k (opened k n) ≡ true
  formed_opened kn = rw kn

  -- closed, it is all blocks of m and its ending, from the starting pipe
  pub closed_is : (m : List ℕ) (mark bits : ℕ) → let h = advanced k (opened k n) m in
      closed k h.pipe (pending k h) h.total mark bits ≡ compressed k.block k.step (k.start n) (m ++ ending k.block (length m) mark bits)
  unfolding advanced closed
  closed_is m mark bits =
      let z : pending k (opened k n) ++ m ≡ m = rw zero-mod in
      let w : pending k (advanced k (opened k n) m) ≡ rest k.block m =
      pending_advanced k pos (opened k n) m (held_opened k pos n) ∙ ap (rest k.block) z in
      rw (w, zero-add (length m), z) (compressed_twice k.block pos k.step (k.start n) m (ending k.block (length m) mark bits))

  pub finished_is : (m : List ℕ) → finished k (advanced k (opened k n) m) ≡ digest_of k n m
  unfolding advanced digest_of
  finished_is m =
      ap (cut k n)
      (closed_is m 0x80 (8 * (0 + length m))
      ∙ ap (λ (t : ℕ). compressed k.block k.step (k.start n) (m ++ ending k.block (length m) 0x80 (8 * t))) (zero-add (length m)))
