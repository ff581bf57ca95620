-- The quasigroup theorem on bytes: of the operations, and of what their calls write.
use Rattle.std.specs.Prelude.{◌≡◌, false, List, ℕ, ◌≤◌, length, take, drop, Ok}
use Rattle.answer.specs.Refuse.{is_done}
use Rattle.quasigroup.specs.Tables.{Width}
use Rattle.quasigroup.specs.Product.{product}
use Rattle.quasigroup.specs.Division.{left_division, right_division}
use Rattle.memory.specs.Bytes.{Bytes}
use Rattle.quasigroup.specs.Theorem.{OnlySolution}
use Rattle.operands.specs.Operation.{answer_for, on_bytes, output_after}

-- a vector of eight words of w bits, in bytes
pub record InBytes (w : ℕ) (s : List ℕ) : Type 0 where
  pub size : length s ≡ w
  pub small : Bytes s

pub record QuasigroupOnBytes (w : ℕ) : Type 0 where
  pub closed : (x y : List ℕ) → InBytes w x → InBytes w y → InBytes w (on_bytes product w x y)
  pub left : (a b : List ℕ) → InBytes w a → InBytes w b → OnlySolution (InBytes w) (λ x. on_bytes product w a x) b (on_bytes left_division w a b)
  pub right : (a b : List ℕ) → InBytes w a → InBytes w b → OnlySolution (InBytes w) (λ y. on_bytes product w y a) b (on_bytes right_division w b a)

-- ---- what the calls write

-- the first w bytes of the output after a call
abbrev pub first_bytes : (Width → List ℕ → List ℕ → List ℕ) → ℕ → List ℕ → List ℕ → List ℕ → List ℕ
first_bytes op w x y out = take w (output_after op w x y out)

-- the bytes behind them are as they were, for all arguments
abbrev pub BehindStays : (Width → List ℕ → List ℕ → List ℕ) → ℕ → Type 0
BehindStays op w = (x y out : List ℕ) → drop w (output_after op w x y out) ≡ drop w out

-- For operands of w bytes, and outputs with room that hold anything: the call of a division writes the only solution, where the product is
-- what the call of the product writes, to an output of its own.
pub record CallsSolve (w : ℕ) : Type 0 where
  -- such a call succeeds
  pub done : (x y out : List ℕ) → InBytes w x → InBytes w y → w ≤ length out → answer_for w x y out ≡ Ok w
  pub closed : (x y out : List ℕ) → InBytes w x → InBytes w y → w ≤ length out → InBytes w (first_bytes product w x y out)
  pub left : (a b out out' : List ℕ) → InBytes w a → InBytes w b → w ≤ length out → w ≤ length out'
      → OnlySolution (InBytes w) (λ x. first_bytes product w a x out') b (first_bytes left_division w a b out)
  pub right : (a b out out' : List ℕ) → InBytes w a → InBytes w b → w ≤ length out → w ≤ length out'
      → OnlySolution (InBytes w) (λ y. first_bytes product w y a out') b (first_bytes right_division w b a out)
  pub behind : BehindStays product w × BehindStays left_division w × BehindStays right_division w

-- after a refusal, at any width that is asked for, all of the output is as it was
abbrev pub RefusalWritesNothing : Type 0
RefusalWritesNothing = (op : Width → List ℕ → List ℕ → List ℕ) (w : ℕ) (x y out : List ℕ)
    → is_done (answer_for w x y out) ≡ false → output_after op w x y out ≡ out
