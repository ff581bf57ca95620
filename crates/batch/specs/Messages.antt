-- Document 02, Paper 2: message k, from 0 on, in the joined bytes. The statement; proofs/Messages.antt shows it.
use Rattle.std.specs.Prelude.{◌≡◌, List, [], ℕ, ◌<◌, length, get_or, take}
use Rattle.memory.specs.Lists.{bytes_at, total}
use Rattle.digest.specs.Cutting.{concatenated}
use Rattle.batch.specs.Batch.{messages}

-- message k: as many bytes as length k says, from where the messages before it end
abbrev pub message : List ℕ → List ℕ → ℕ → List ℕ
message s ns k = bytes_at (get_or ns k 0) s (total (take k ns))

-- Message k is the one that the list has there. Where the lengths sum to the joined length, each message has its own length, 0 too, and one behind the other
-- they are the joined bytes, all of them
pub record Joined (s ns : List ℕ) : Type 0 where
  pub count : length (messages s ns) ≡ length ns
  pub own : (k : ℕ) → k < length ns → get_or (messages s ns) k [] ≡ message s ns k
  pub size : total ns ≡ length s → (k : ℕ) → k < length ns → length (message s ns k) ≡ get_or ns k 0
  pub whole : total ns ≡ length s → concatenated (messages s ns) ≡ s

abbrev pub MessagesJoined : Type 0
MessagesJoined = (s ns : List ℕ) → Joined s ns
