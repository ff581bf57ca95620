-- Bytes behind the waiting ones never matter, and opening and each accepted feeding leave them zero.
use mathlib.Core.Path.{◌≡◌}
use mathlib.Core.List.{List, ◌++◌}
use Prim.Native.Nat.{ℕ, ◌+◌, ◌*◌, ◌/◌, ◌<◌}
use native.Mathlib.Omega.{arith}
use lib.ListN.{length, drop}
use Rattle.digest.specs.Padding.{marked}
use Rattle.digest.specs.Blocks.{compressed, rest, filled}
use Rattle.answer.specs.Refuse.{outcome}
use Rattle.digest.specs.Refusals.{feeding, finishing, finishing_bits}
use Rattle.digest.specs.Kind.{Kind, narrow_kind, wide_kind}
use Rattle.digest.specs.State.{Hash, advanced, feed_answer, closed, cut, finish_answer, finish_out, finish_bits_answer, finish_bits_out}
use Rattle.digest.specs.Waiting.{Alike, Waiting}
use Rattle.digest.proofs.Feeding.{held, clean, held_opened, clean_opened}

module _ (k : Kind) (g h : Hash) (e : Alike k g h) where
  fed_alike_lem : (s : List ℕ) → (feed_answer k g s ≡ feed_answer k h s) × (advanced k g s ≡ advanced k h s)
  unfolding advanced
  fed_alike_lem s = (
    λ i. feeding k.small k.large (e.size i) (e.total i) (length s),
    λ i. record {
      size = e.size i;
      pipe = compressed k.block k.step (e.pipe i) (e.pending i ++ s);
      waiting = filled k.block (rest k.block (e.pending i ++ s));
      total = e.total i + length s;
    },
  )

  finished_alike_lem : (out : List ℕ) → (finish_answer k g out ≡ finish_answer k h out) × (finish_out k g out ≡ finish_out k h out)
  finished_alike_lem out = (
    λ i. finishing k.small k.large (e.size i) (e.total i) (length out),
    λ i. outcome (finishing k.small k.large (e.size i) (e.total i) (length out))
        (cut k (e.size i) (closed k (e.pipe i) (e.pending i) (e.total i) 0x80 (8 * e.total i)) ++ drop (e.size i / 8) out)
        out,
  )

  bits_alike_lem : (last count : ℕ) (out : List ℕ)
      → (finish_bits_answer k g count out ≡ finish_bits_answer k h count out) × (finish_bits_out k g last count out ≡ finish_bits_out k h last count out)
  bits_alike_lem last count out = (
    λ i. finishing_bits k.small k.large (e.size i) (e.total i) count (length out),
    λ i. outcome (finishing_bits k.small k.large (e.size i) (e.total i) count (length out))
        (cut k (e.size i) (closed k (e.pipe i) (e.pending i) (e.total i) (marked last count) (8 * e.total i + count)) ++ drop (e.size i / 8) out)
        out,
  )

pub waiting : (k : Kind) → 0 < k.block → Waiting k
waiting k pos =
    record {
      opened_clean = λ n. (held_opened k pos n, clean_opened k pos n);
      fed_clean = λ h s e. (held k pos h s e, clean k pos h s e);
      fed_alike = fed_alike_lem k;
      finished_alike = finished_alike_lem k;
      bits_alike = bits_alike_lem k;
    }

pub narrow_waiting : Waiting narrow_kind
narrow_waiting = waiting narrow_kind (omega arith)

pub wide_waiting : Waiting wide_kind
wide_waiting = waiting wide_kind (omega arith)
