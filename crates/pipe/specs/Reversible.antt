-- Document 02, Paper 11, over a general width: a block's step can be taken back. The statements; proofs/Reversible.antt shows them.
use Rattle.std.specs.Prelude.{◌≡◌, List, ℕ}
use Rattle.invertible.specs.Invertible.{stepped, Each}
use Rattle.invertible.specs.RoundTrip.{Direction, other, Returns}
use Rattle.memory.specs.Bytes.{Bytes}
use Rattle.quasigroup.specs.Tables.{Width}
use Rattle.quasigroup.specs.Vector.{Vector}
use Rattle.quasigroup.specs.Theorem.{OnlySolution, Admissible}
use Rattle.digest.specs.Pipe.{Pipe}
use Rattle.digest.specs.Blocks.{compressed}
use Rattle.digest.specs.Step.{forward}
use Rattle.digest.specs.Kind.{Kind, narrow_kind, wide_kind}
use Rattle.pipe.specs.Backward.{backward, moved}

-- a pipe of words below 2^w
pub record PipeOf (w : ℕ) (p : Pipe) : Type 0 where
  pub first : Vector w p.first
  pub second : Vector w p.second

-- a step on a pipe is its direction and the block's two halves
pub record BlockStep : Type 0 where
  pub direction : Direction
  pub x : List ℕ
  pub y : List ℕ

-- .. of words below 2^w
pub record BlockStepOf (w : ℕ) (b : BlockStep) : Type 0 where
  pub x : Vector w b.x
  pub y : Vector w b.y

-- a step with its own block and the other direction
abbrev pub exchanged : BlockStep → BlockStep
exchanged b = record { direction = other b.direction; x = b.x; y = b.y }

-- the pipe after a step
abbrev pub after : Width → BlockStep → Pipe → Pipe
after s b p = moved s b.direction p b.x b.y

pub record Reversible (s : Width) : Type 0 where
  -- a step forward leaves words below 2^w
  pub closed : (p : Pipe) (X Y : List ℕ) → PipeOf s.bits p → Vector s.bits X → Vector s.bits Y → PipeOf s.bits (forward s p X Y)
  -- there is exactly one pipe before q: the step back returns it, and the step forward from it finds q
  pub unique_before : (q : Pipe) (X Y : List ℕ) → PipeOf s.bits q → Vector s.bits X → Vector s.bits Y
      → OnlySolution (PipeOf s.bits) (λ p. forward s p X Y) q (backward s q X Y)
  -- two different pipes never arrive at the same pipe by the same steps, however many: by the same blocks where all steps are forward
  pub injective : (l : List BlockStep) → Each (BlockStepOf s.bits) l → (p q : Pipe) → PipeOf s.bits p → PipeOf s.bits q
      → (p ≡ q → ⊥) → stepped (after s) l p ≡ stepped (after s) l q → ⊥
  -- the list from its last step to its first with directions exchanged finds the starting pipe
  pub returns : (l : List BlockStep) → Each (BlockStepOf s.bits) l → (p : Pipe) → PipeOf s.bits p → Returns exchanged (after s) l p

-- the theorem, for a general width; 32 and 64 are two instances
abbrev pub BlocksReversible : Type 0
BlocksReversible = (s : Width) → Admissible s → Reversible s

-- .. and of messages: of a kind of hash with words of w bits, two different pipes never arrive at the same pipe by the whole blocks of the same bytes;
-- `compressed` is how feeding and finishing take them
abbrev pub MessageInjective : ℕ → Kind → Type 0
MessageInjective w k = (m : List ℕ) → Bytes m → (p q : Pipe) → PipeOf w p → PipeOf w q
    → (p ≡ q → ⊥) → compressed k.block k.step p m ≡ compressed k.block k.step q m → ⊥

pub record MessagesInjective : Type 0 where
  pub narrow : MessageInjective 32 narrow_kind
  pub wide : MessageInjective 64 wide_kind
