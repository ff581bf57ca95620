-- What a success writes and answers.
use Rattle.std.specs.Prelude.{Ok}
use mathlib.Core.Path.{◌≡◌, ap, sym, ◌∙◌}
use mathlib.Core.List.{List, ◌++◌}
use Prim.Native.Nat.{ℕ, ◌*◌, ◌/◌, ◌<◌}
use native.Mathlib.Omega.{arith}
use lib.ListN.{length, drop, length-append, length-drop}
use lib.Seq.{drop_at}
use Rattle.answer.specs.Answer.{Answer}
use Rattle.answer.specs.Refuse.{outcome}
use Rattle.memory.specs.Lists.{bytes_at}
use Rattle.digest.specs.OneCall.{digest_for}
use Rattle.batch.specs.Batch.{messages, digests, digests_length, batch_answer, batch_out}
use Rattle.batch.specs.Messages.{message}
use Rattle.batch.specs.Written.{SuccessWrites}
use Rattle.batch.proofs.Messages.{messages_count, message_own}
use Rattle.batch.proofs.Tests.{Accepted, accepted, answered}
use Rattle.batch.proofs.Digests.{digests_length_lem, digest_at}

module _ (n : ℕ) (s ns out : List ℕ) (a : Accepted n (length s) ns (length out)) where
  abbrev all : List ℕ
  all = digests n (messages s ns)

  abbrev e : ℕ
  e = digests_length n (length ns)

  all_length : length all ≡ e
  all_length = digests_length_lem n a.known (messages s ns) ∙ ap (digests_length n) (messages_count s ns)

  pub out_after : batch_out n s ns out ≡ all ++ drop e out
  out_after = ap (λ (r : Answer). outcome r (all ++ drop e out) out) (answered n (length s) ns (length out) a)

  size : length (batch_out n s ns out) ≡ length out
  size = ap length out_after ∙ length-append all (drop e out) ∙ omega (arith, all_length, length-drop e out, a.fits)

  own : (k : ℕ) → k < length ns → bytes_at (n / 8) (batch_out n s ns out) (k * (n / 8)) ≡ digest_for n (message s ns k)
  own k h =
      ap (λ (l : List ℕ). bytes_at (n / 8) l (k * (n / 8))) out_after
      ∙ digest_at n a.known (messages s ns) k (drop e out) (omega (arith, h, messages_count s ns))
      ∙ ap (digest_for n) (message_own s ns k h)

  behind : drop e (batch_out n s ns out) ≡ drop e out
  behind = ap (drop e) out_after ∙ drop_at all (drop e out) e all_length

  count : batch_answer n (length s) ns (length out) ≡ Ok (length all)
  count = answered n (length s) ns (length out) a ∙ ap Ok (sym all_length)

pub success_writes : SuccessWrites
success_writes n s ns out d =
    let a = accepted n (length s) ns (length out) d in
    record { size = size n s ns out a; own = own n s ns out a; behind = behind n s ns out a; count = count n s ns out a }
