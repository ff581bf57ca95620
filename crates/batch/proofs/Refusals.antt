-- What the call refuses.
use Rattle.std.specs.Prelude.{Ok}
use mathlib.Core.Path.{◌≡◌, refl, sym, ap, ◌∙◌}
use mathlib.Core.List.{List, [], ◌++◌, sum}
use Prim.Native.Nat.{ℕ, ◌*◌, ◌/◌}
use native.Mathlib.Nat.{zero-mul}
use native.Mathlib.Omega.{arith}
use borrow.Author.Tests.{eq-eqb, ne_eqb, le-leb, lt-leb}
use lib.Dec.{eqb, leb}
use lib.ListN.{length, drop}
use Rattle.answer.specs.Answer.{Answer, refused_at}
use Rattle.answer.specs.declared.Refusal.{Refusal}
use Rattle.answer.proofs.Results.{same_refusal}
use Rattle.answer.specs.declared.Refusal.TheVariants.{Size, Length, MessageCount, JoinedLength, Output}
use Rattle.answer.specs.Refuse.{outcome}
use Rattle.answer.proofs.Refuse.{refused_outcome, unless_cases}
use Rattle.memory.specs.Lists.{total}
use Rattle.digest.specs.Kind.{known_size, kind_for, Known}
use Rattle.batch.specs.Batch.{messages, digests, digests_length, batch_answer, batch_out}
use Rattle.batch.specs.Refusals.{BatchRefuses}
use Rattle.batch.proofs.Tests.{Accepted, unknown_size, too_many, other_sum, no_room, answered}

-- none of its answers is that of a message that is too long
never : (n joined : ℕ) (ns : List ℕ) (room i : ℕ) → batch_answer n joined ns room ≡ refused_at Length i → ⊥
never n joined ns room i =
    unless_cases Other (known_size (kind_for n) n) Size _ (λ _ e. let r : ◌≡◌ {A = Refusal} Size Length = same_refusal e in let z : ◌≡◌ {A = ℕ} 0 1 = cc in omega arith) λ _.
    unless_cases Other (leb (length ns) 1024) MessageCount _ (λ _ e. let r : ◌≡◌ {A = Refusal} MessageCount Length = same_refusal e in let z : ◌≡◌ {A = ℕ} 0 1 = cc in omega arith) λ _.
    unless_cases Other (eqb (total ns) joined) JoinedLength _ (λ _ e. let r : ◌≡◌ {A = Refusal} JoinedLength Length = same_refusal e in let z : ◌≡◌ {A = ℕ} 0 1 = cc in omega arith) λ _.
    unless_cases Other (leb (digests_length n (length ns)) room) Output _ (λ _ e. let r : ◌≡◌ {A = Refusal} Output Length = same_refusal e in let z : ◌≡◌ {A = ℕ} 0 1 = cc in omega arith)
    (λ _ e. let z : ◌≡◌ {A = ℕ} 0 1 = cc in omega arith)
  where
    Other : Answer → Type 0
    Other a = a ≡ refused_at Length i → ⊥

-- an empty list with no bytes
nothing : (n room : ℕ) → Known n → Accepted n 0 [] room
unfolding sum
nothing n room k = record { known = k; few = omega arith; sums = refl; fits = omega (arith, zero-mul (n / 8)) }

nothing_written : (n : ℕ) (out : List ℕ) → batch_answer n 0 [] (length out) ≡ Ok (digests_length n 0) → batch_out n [] [] out ≡ out
nothing_written n out e = ap (λ (a : Answer). outcome a (drop (0 * (n / 8)) out) out) e ∙ ap (λ (i : ℕ). drop i out) (zero-mul (n / 8))

pub batch_refuses : BatchRefuses
unfolding sum
batch_refuses n s ns out =
    let j = length s in
    let r = length out in
    let l = digests_length n (length ns) in
    record {
      size = unknown_size n j ns r;
      many = λ k h. too_many n j ns r k (lt-leb (length ns) 1024 h);
      unequal = λ k f h. other_sum n j ns r k (le-leb (length ns) 1024 f) (ne_eqb (total ns) j h);
      short = λ k f e h. no_room n j ns r k (le-leb (length ns) 1024 f) (eq-eqb (total ns) j e) (lt-leb l r h);
      others = λ k f e h. answered n j ns r (record { known = k; few = f; sums = e; fits = h });
      none = λ k. let a = answered n 0 [] r (nothing n r k) in (a ∙ ap Ok (zero-mul (n / 8)), nothing_written n out a);
      bytes_without_lengths = λ k h. other_sum n j [] r k refl (ne_eqb 0 j (λ e. omega arith));
      never_long = never n j ns r;
      unchanged = λ d. sym (refused_outcome (batch_answer n j ns r) (digests n (messages s ns) ++ drop l out) out d);
    }
