-- C tells a slice's answers by their numbers, and takes a success apart. The statements; proofs/Injective.antt shows them.
use Rattle.std.specs.Prelude.{◌≡◌, Bool, true, false, List, ℕ, ◌/◌, ◌%◌, ◌^◌, ◌≤◌, ◌<◌, ltb, Ok, Err}
use Rattle.slice.specs.SliceAnswer.{SliceAnswer, reaching}
use Rattle.answer.specs.Answer.{refused_at}
use Rattle.slice.specs.Slice.{slice_answer}
use Rattle.slice.specs.Number.{slice_number}

abbrev pub is_reached : SliceAnswer → Bool
is_reached (Ok p) = true
is_reached (Err err) = false

-- the answers that there are: an offset is at most 4,096, and the units of a sheet are at most 1,365
abbrev pub SliceFits : SliceAnswer → Type 0
SliceFits (Ok p) = (p.offset ≤ 4096) × (p.units ≤ 1365)
SliceFits (Err err) = err.offset < 2 ^ 32

-- every answer of a slice is one of these
abbrev pub EverySliceFits : Type 0
EverySliceFits = (k w : ℕ) (s : List ℕ) (i : ℕ) (b : List ℕ) → SliceFits (slice_answer k w s i b)

-- no two answers share a number; a comparison with 2^32 finds a refusal; and a success's number has its units above the 16 bits of its offset
pub record SliceNumbersInjective : Type 0 where
  pub answer : (a b : SliceAnswer) → SliceFits a → SliceFits b → slice_number a ≡ slice_number b → a ≡ b
  pub refusal : (a : SliceAnswer) → SliceFits a → is_reached a ≡ ltb (slice_number a) (2 ^ 32)
  pub units : (offset units : ℕ) → SliceFits (Ok (reaching offset units)) → slice_number (Ok (reaching offset units)) / 2 ^ 16 ≡ units
  pub offset : (offset units : ℕ) → SliceFits (Ok (reaching offset units)) → slice_number (Ok (reaching offset units)) % 2 ^ 16 ≡ offset
