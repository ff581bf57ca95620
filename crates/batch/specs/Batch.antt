-- Document 02, Paper 2: the digests of many messages in one call. The messages are joined together, and come with a list of their lengths.
use Rattle.std.specs.Prelude.{List, [], ◌∷◌, ◌++◌, ℕ, ◌*◌, ◌/◌, eqb, leb, length, take, drop, Ok}
use Rattle.answer.specs.Answer.{Answer}
use Rattle.answer.specs.declared.Refusal.TheVariants.{Size, MessageCount, JoinedLength, Output}
use Rattle.answer.specs.Refuse.{unless, outcome}
use Rattle.memory.specs.Lists.{total}
use Rattle.digest.specs.Kind.{known_size, kind_for}
use Rattle.digest.specs.OneCall.{digest_for}

-- the messages of the lengths ns in the joined bytes s: each is the part of its length behind the messages before it
abbrev pub messages : List ℕ → List ℕ → List (List ℕ)
messages s [] = []
messages s (n ∷ ns) = take n s ∷ messages (drop n s) ns

-- their digests of size n, one behind the other, each by the definition of the one call
abbrev pub digests : ℕ → List (List ℕ) → List ℕ
digests n [] = []
digests n (m ∷ ms) = digest_for n m ++ digests n ms

-- how many bytes c digests of size n take
abbrev pub digests_length : ℕ → ℕ → ℕ
digests_length n c = c * (n / 8)

-- What the call answers for a joined length and an output of `room` bytes: 1, the size is none of the four; 12, there are more than 1,024 lengths; 13, they do
-- not sum to the joined length; 4, the output is too short for all digests; or the number of bytes written
abbrev pub batch_answer : ℕ → ℕ → List ℕ → ℕ → Answer
batch_answer n joined ns room =
    unless (known_size (kind_for n) n) Size
    (unless (leb (length ns) 1024) MessageCount
    (unless (eqb (total ns) joined) JoinedLength
    (unless (leb (digests_length n (length ns)) room) Output
    (Ok (digests_length n (length ns))))))

-- the output after the call: the digests, and the bytes behind the last of them as they were; or, after a refusal, all as it was
abbrev pub batch_out : ℕ → List ℕ → List ℕ → List ℕ → List ℕ
batch_out n s ns out =
    outcome (batch_answer n (length s) ns (length out)) (digests n (messages s ns) ++ drop (digests_length n (length ns)) out) out
