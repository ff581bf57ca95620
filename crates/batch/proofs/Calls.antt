-- One call for each message leaves the digests one behind the other.
use Rattle.std.specs.Prelude.{Ok}
use mathlib.Core.Path.{◌≡◌, refl, ap, ap₂, sym, ◌∙◌}
use mathlib.Core.Bool.{true, false}
use mathlib.Core.List.{List, [], ◌∷◌, ◌++◌}
use Prim.Native.Nat.{ℕ, suc, ◌+◌, ◌*◌, ◌/◌, ◌^◌, ◌≤◌, ◌<◌}
use native.Mathlib.Nat.{zero-mul, suc-mul}
use native.Mathlib.Omega.{arith}
use lib.ListN.{length, take, drop, replicate, length-drop, take-append-drop}
use lib.Seq.{drop-drop}
use Rattle.answer.specs.Answer.{Answer, refused_at}
use Rattle.answer.specs.declared.Refusal.TheVariants.{Size}
use Rattle.answer.specs.Refuse.{is_done, outcome}
use Rattle.invertible.specs.Invertible.{stepped, outputs, Each, none, more}
use Rattle.quasigroup.specs.Vector.{Below, more as below}
use Rattle.digest.specs.Refusals.{limit}
use Rattle.digest.specs.Kind.{known_size, kind_for, Known}
use Rattle.digest.specs.OneCall.{digest_for, one_call_answer, one_call_out}
use Rattle.digest.proofs.Length.{digest_length}
use Rattle.digest.proofs.OneCall.{one_call_writes}
use Rattle.batch.specs.Batch.{messages, digests, digests_length, batch_answer}
use Rattle.batch.specs.Calls.{after, answer_to, calls_from, AsCalls, RefusedAlike, BatchIsCalls}
use Rattle.batch.proofs.Messages.{messages_count}
use Rattle.batch.proofs.Tests.{accepted, answered, unknown_size}
use Rattle.memory.proofs.Lists.{taken_short}
use Rattle.memory.proofs.Placed.{placed, placed_length, one_more}
use Rattle.batch.proofs.Written.{out_after}

-- a message that the one call does not refuse with 3
abbrev pub Short : List ℕ → Type 0
Short m = length m ≤ limit

-- one of a 32-bit length
pub is_short : (n : ℕ) (s : List ℕ) → n < 2 ^ 32 → Short (take n s)
is_short n s h = omega (arith, taken_short n s)

all_short : (s ns : List ℕ) → Below (2 ^ 32) ns → Each Short (messages s ns)
all_short s [] h = none
all_short s (n ∷ ns) (below h b) = more (is_short n s h) (all_short (drop n s) ns b)

module _ (n : ℕ) (known : Known n) where
  abbrev w : ℕ
  w = n / 8

  -- one call, lent the part from i on
  pub call_writes : (m o : List ℕ) (i : ℕ) → Short m → i + w ≤ length o
      → (one_call_answer n m (drop i o) ≡ Ok w) × (take i o ++ one_call_out n m (drop i o) ≡ placed o i w (digest_for n m))
  call_writes m o i h g =
      let c = one_call_writes n m (drop i o) known h (omega (arith, length-drop i o)) in
      (c.0, ap (λ (x : List ℕ). take i o ++ x) (c.1 ∙ ap (λ (x : List ℕ). digest_for n m ++ x) (drop-drop w i o)))

  calls_write : (ms : List (List ℕ)) (k : ℕ) (o : List ℕ) (e : ℕ) → Each Short ms → e ≡ k * w + length ms * w → e ≤ length o
      → (stepped (after n) (calls_from n k ms) o ≡ take (k * w) o ++ (digests n ms ++ drop e o))
      × (outputs (after n) (answer_to n) (calls_from n k ms) o ≡ replicate (length ms) (Ok w))
  calls_write [] k o e h f g =
      let z : k * w ≡ e = omega (arith, zero-mul w) in
      (sym (take-append-drop (k * w) o) ∙ ap (λ (x : ℕ). take (k * w) o ++ drop x o) z, refl)
  calls_write (m ∷ ms) k o e (more h t) f g =
      let i = k * w in
      let d = digest_for n m in
      let last : i + w ≤ e = omega (arith, suc-mul (length ms) w) in
      let fits : i + w ≤ length o = omega arith in
      let c = call_writes m o i h fits in
      let next : suc k * w ≡ i + w = suc-mul k w in
      let r = calls_write ms (suc k) (placed o i w d) e t (omega (arith, suc-mul (length ms) w))
      (omega (arith, placed_length o i w d (digest_length n m known) fits)) in (
        ap (stepped (after n) (calls_from n (suc k) ms)) c.1 ∙ r.0
            ∙ ap (λ (x : ℕ). take x (placed o i w d) ++ (digests n ms ++ drop e (placed o i w d))) next
            ∙ one_more o i w d (digest_length n m known) fits (digests n ms) e last,
        ap₂ {C = List Answer} (λ x l. x ∷ l) c.0 (ap (outputs (after n) (answer_to n) (calls_from n (suc k) ms)) c.1 ∙ r.1),
      )

as_calls : (n : ℕ) (s ns out : List ℕ) → Below (2 ^ 32) ns → is_done (batch_answer n (length s) ns (length out)) ≡ true → AsCalls n s ns out
as_calls n s ns out b d =
    let a = accepted n (length s) ns (length out) d in
    let e = digests_length n (length ns) in
    let f : e ≡ 0 * (n / 8) + length (messages s ns) * (n / 8) =
    ap (λ (j : ℕ). j * (n / 8)) (sym (messages_count s ns)) ∙ omega (arith, zero-mul (n / 8)) in
    let c = calls_write n a.known (messages s ns) 0 out e (all_short s ns b) f a.fits in
    record {
      written =
          c.0 ∙ ap (λ (x : ℕ). take x out ++ (digests n (messages s ns) ++ drop e out)) (zero-mul (n / 8))
          ∙ sym (out_after n s ns out a);
      answers = c.1 ∙ ap (λ (j : ℕ). replicate j (Ok (n / 8))) (messages_count s ns);
      sum = answered n (length s) ns (length out) a;
    }

-- of a size that is none of the four
module _ (n : ℕ) (e : known_size (kind_for n) n ≡ false) where
  one_refused : (m out : List ℕ) → one_call_answer n m out ≡ refused_at Size 0
  one_refused m out = rw e refl

  part_stays : (m : List ℕ) (i : ℕ) (o : List ℕ) → take i o ++ one_call_out n m (drop i o) ≡ o
  part_stays m i o =
      ap (λ (a : Answer). take i o ++ outcome a (digest_for n m ++ drop (n / 8) (drop i o)) (drop i o)) (one_refused m (drop i o))
      ∙ take-append-drop i o

  calls_refused : (ms : List (List ℕ)) (k : ℕ) (o : List ℕ)
      → (stepped (after n) (calls_from n k ms) o ≡ o) × (outputs (after n) (answer_to n) (calls_from n k ms) o ≡ replicate (length ms) (refused_at Size 0))
  calls_refused [] k o = (refl, refl)
  calls_refused (m ∷ ms) k o =
      let i = k * (n / 8) in
      let p = part_stays m i o in
      let r = calls_refused ms (suc k) o in (
        ap (stepped (after n) (calls_from n (suc k) ms)) p ∙ r.0,
        ap₂ {C = List Answer} (λ x l. x ∷ l) (one_refused m (drop i o)) (ap (outputs (after n) (answer_to n) (calls_from n (suc k) ms)) p ∙ r.1),
      )

refused_alike : (n : ℕ) (s ns out : List ℕ) → known_size (kind_for n) n ≡ false → RefusedAlike n s ns out
refused_alike n s ns out e =
    let c = calls_refused n e (messages s ns) 0 out in
    record {
      unchanged = c.0;
      answers = c.1 ∙ ap (λ (j : ℕ). replicate j (refused_at Size 0)) (messages_count s ns);
      batch = unknown_size n (length s) ns (length out) e;
    }

pub batch_is_calls : BatchIsCalls
batch_is_calls = record { accepted = as_calls; unknown = refused_alike }
