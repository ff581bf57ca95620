-- The round trip of a list of calls over a lent pipe.
use Rattle.std.specs.Prelude.{Ok}
use mathlib.Core.Path.{◌≡◌, sym, ap, ◌∙◌}
use mathlib.Core.Bool.{true, ◌&&◌}
use mathlib.Core.List.{List}
use Prim.Native.Nat.{ℕ, ◌*◌}
use borrow.Author.Tests.{eqb-true}
use lib.Dec.{eqb}
use lib.ListN.{length}
use Rattle.answer.specs.Answer.{Answer, refused_at}
use Rattle.answer.specs.declared.Refusal.{Refusal}
use Rattle.answer.specs.declared.Refusal.TheVariants.{Width, Operand}
use Rattle.answer.specs.Refuse.{unless}
use Rattle.answer.proofs.Refuse.{unless_cases}
use Rattle.answer.proofs.Outcome.{outcome_holds, outcome_answer, outcome_back}
use Rattle.answer.proofs.Tests.{both_true}
use Rattle.invertible.specs.Invertible.{Invertible}
use Rattle.invertible.specs.RoundTrip.{Direction, other}
use Rattle.invertible.proofs.RoundTrip.{round_trip}
use Rattle.memory.specs.Bytes.{Bytes}
use Rattle.quasigroup.specs.Tables.{Width as Parameters, width_of, known_width}
use Rattle.quasigroup.proofs.Widths.{Bytewise, bytewise, of_known, bytewise_32, bytewise_64}
use Rattle.digest.specs.Pipe.{Pipe, written}
use Rattle.digest.specs.Step.{word_bytes, block_x, block_y}
use Rattle.pipe.specs.Backward.{moved}
use Rattle.pipe.specs.Reversible.{PipeOf}
use Rattle.pipe.specs.Call.{step_answer, pipe_in, moved_bytes, step_bytes}
use Rattle.pipe.specs.RoundTrip.{BlockCall, answer_to, after, exchanged, BlockRoundTrips}
use Rattle.pipe.proofs.Reversible.{moved_of, moved_back}
use Rattle.pipe.proofs.InBytes.{x_vector, y_vector, pipe_in_lem, written_length, written_bytes, pipe_written, written_pipe}

-- ---- one call

module _ (g : Direction) (w : ℕ) (m : List ℕ) (hm : Bytes m) (b : List ℕ) (hb : Bytes b) where
  -- what is known behind the tests
  record Passed : Type 0 where
    known : known_width w ≡ true
    size : length b ≡ 2 * w

  abbrev answer_by : ℕ → Answer
  answer_by n = unless (known_width w) Width (unless (eqb n (2 * w) && eqb (length m) (2 * w)) Operand (Ok (2 * w)))

  step_cases : (P : Answer → Type 0) → ((r : Refusal) (i : ℕ) → P (refused_at r i)) → (Passed → (n : ℕ) → P (Ok n)) → P (step_answer w m b)
  step_cases P refused pass =
      unless_cases P (known_width w) Width _ (λ _. refused Width 0) λ k.
      unless_cases P (eqb (length b) (2 * w) && eqb (length m) (2 * w)) Operand (Ok (2 * w)) (λ _. refused Operand 0) λ e.
      let l = both_true (eqb (length b) (2 * w)) (eqb (length m) (2 * w)) e in
      pass (record { known = k; size = eqb-true (length b) (2 * w) l.0 }) (2 * w)

  abbrev s : Parameters
  s = width_of w

  abbrev new : Direction → List ℕ → List ℕ
  new g b = moved_bytes s g m b

  module _ (passed : Passed) where
    whole : Bytewise s.bits
    whole = of_known (λ w. Bytewise (width_of w).bits) bytewise_32 bytewise_64 w passed.known

    abbrev p : Pipe
    p = pipe_in s b

    abbrev q : Pipe
    q = moved s g p (block_x s m) (block_y s m)

    pipe_of : PipeOf s.bits q
    pipe_of = moved_of s (bytewise w passed.known).admissible (block_x s m) (block_y s m) (x_vector s whole m hm) (y_vector s whole m hm) g p (pipe_in_lem s whole b hb)

    new_length : length (new g b) ≡ length b
    unfolding moved_bytes
    new_length = written_length s whole q pipe_of ∙ ap (λ (w : ℕ). 2 * w) (bytewise w passed.known).bits ∙ sym passed.size

    new_bytes : Bytes (new g b)
    unfolding moved_bytes
    new_bytes = written_bytes s whole q pipe_of

    new_back : new (other g) (new g b) ≡ b
    unfolding moved_bytes
    new_back =
        ap (λ (p : Pipe). written (word_bytes s) (moved s (other g) p (block_x s m) (block_y s m))) (pipe_written s whole q pipe_of)
        ∙ ap (written (word_bytes s))
        (moved_back s (bytewise w passed.known).admissible (block_x s m) (block_y s m) (x_vector s whole m hm) (y_vector s whole m hm) g p (pipe_in_lem s whole b hb))
        ∙ written_pipe s whole b hb (passed.size ∙ sym (ap (λ (w : ℕ). 2 * w) (bytewise w passed.known).bits))

  step_bytes_lem : Bytes (step_bytes g w m b)
  step_bytes_lem = outcome_holds Bytes length answer_by (new g) (new (other g)) b step_cases hb new_bytes

  -- the same call in the other direction
  same_answer : step_answer w m (step_bytes g w m b) ≡ step_answer w m b
  same_answer = outcome_answer Bytes length answer_by (new g) (new (other g)) b step_cases new_length

  there_and_back : step_bytes (other g) w m (step_bytes g w m b) ≡ b
  there_and_back = outcome_back Bytes length answer_by (new g) (new (other g)) b step_cases new_length new_back

-- ---- a list of calls

invertible : Invertible (λ (c : BlockCall). Bytes c.block) Bytes after (λ c. after (exchanged c))
invertible =
    record {
      keeps = λ c b hc hb. step_bytes_lem c.direction c.width c.block hc b hb;
      back = λ c b hc hb. there_and_back c.direction c.width c.block hc b hb;
    }

same_answers : (c : BlockCall) (b : List ℕ) → Bytes c.block → Bytes b → answer_to (exchanged c) (after c b) ≡ answer_to c b
same_answers c b hc hb = same_answer c.direction c.width c.block hc b hb

pub block_round_trips : BlockRoundTrips
block_round_trips l hl b hb = round_trip exchanged after invertible answer_to same_answers hl b hb
