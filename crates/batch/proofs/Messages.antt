-- The messages in the joined bytes, by number and together.
use mathlib.Core.Path.{◌≡◌, refl, ap, ◌∙◌}
use mathlib.Core.List.{List, [], ◌∷◌, ◌++◌, sum}
use Prim.Native.Nat.{ℕ, zero, suc, ◌+◌, ◌≤◌, ◌<◌}
use native.Mathlib.Omega.{arith}
use lib.ListN.{length, get_or, take, drop, length-drop, take-append-drop}
use lib.Seq.{drop-drop, length-take-le}
use Rattle.memory.specs.Lists.{total}
use Rattle.memory.proofs.Totals.{total_parts, total_next}
use Rattle.digest.specs.Cutting.{concatenated}
use Rattle.batch.specs.Batch.{messages}
use Rattle.batch.specs.Messages.{message, MessagesJoined}

pub messages_count : (s ns : List ℕ) → length (messages s ns) ≡ length ns
messages_count s [] = refl
messages_count s (n ∷ ns) = ap suc (messages_count (drop n s) ns)

pub message_own : (s ns : List ℕ) (k : ℕ) → k < length ns → get_or (messages s ns) k [] ≡ message s ns k
unfolding sum
message_own s [] k h = absurd (omega arith)
message_own s (n ∷ ns) zero h = refl
message_own s (n ∷ ns) (suc k) h =
    message_own (drop n s) ns k (omega arith) ∙ ap (take (get_or ns k 0)) (drop-drop (total (take k ns)) n s)

-- a message lies inside the joined bytes
inside : (s ns : List ℕ) (k : ℕ) → total ns ≡ length s → k < length ns → total (take k ns) + get_or ns k 0 ≤ length s
inside s ns k e h = omega (arith, total_parts ns k, total_next ns k h)

message_size : (s ns : List ℕ) → total ns ≡ length s → (k : ℕ) → k < length ns → length (message s ns k) ≡ get_or ns k 0
message_size s ns e k h =
    let i = total (take k ns) in
    length-take-le (get_or ns k 0) (drop i s) (omega (arith, length-drop i s, inside s ns k e h))

no_bytes : (s : List ℕ) → 0 ≡ length s → [] ≡ s
no_bytes [] e = refl
no_bytes (b ∷ s) e = absurd (omega arith)

messages_whole : (s ns : List ℕ) → total ns ≡ length s → concatenated (messages s ns) ≡ s
unfolding sum
messages_whole s [] e = no_bytes s e
messages_whole s (n ∷ ns) e =
    ap (λ (l : List ℕ). take n s ++ l) (messages_whole (drop n s) ns (omega (arith, length-drop n s))) ∙ take-append-drop n s

pub messages_joined : MessagesJoined
messages_joined s ns = record {
  count = messages_count s ns;
  own = message_own s ns;
  size = message_size s ns;
  whole = messages_whole s ns;
}
