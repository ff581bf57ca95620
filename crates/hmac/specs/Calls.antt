-- Document 02, Paper 6: the call that makes a tag and the call that compares one, what they answer and leave. The paper's word for a tag is "mark".
use Rattle.std.specs.Prelude.{Bool, true, false, ◌&&◌, cond, List, [], ◌∷◌, ◌++◌, ℕ, ◌-◌, ◌/◌, eqb, leb, length, drop, Ok}
use Rattle.answer.specs.Answer.{Answer}
use Rattle.answer.specs.declared.Refusal.TheVariants.{Size, Length}
use Rattle.answer.specs.Refuse.{unless, outcome}
use Rattle.digest.specs.Refusals.{limit, delivering}
use Rattle.digest.specs.Kind.{known_size, kind_for}
use Rattle.hmac.specs.Hmac.{block_for, hmac_for}

-- whether a key and a message of so many bytes fit: a digest of the key, and one of a block and then the message
abbrev pub fitting : ℕ → ℕ → ℕ → Bool
fitting n key text = leb key limit && leb text (limit - block_for n)

-- what both calls refuse: 1, the size is none of the four; 3, the key is over 2^61 - 1 bytes, or the message over that less one block
abbrev pub keying : ℕ → ℕ → ℕ → Answer → Answer
keying n key text next = unless (known_size (kind_for n) n) Size (unless (fitting n key text) Length next)

-- making a tag, with an output of `room` bytes; then 4, the output is too short, or the tag's length n/8
abbrev pub hmac_answer : ℕ → ℕ → ℕ → ℕ → Answer
hmac_answer n key text room = keying n key text (delivering n room)

-- the output afterwards: the tag, and then what stood behind it; or, after a refusal, all as it was
abbrev pub hmac_out : ℕ → List ℕ → List ℕ → List ℕ → List ℕ
hmac_out n key text out = outcome (hmac_answer n (length key) (length text) (length out)) (hmac_for n key text ++ drop (n / 8) out) out

-- whether two lists are the same: of one length, and the same in every place
unfoldable pub same : List ℕ → List ℕ → Bool
same [] [] = true
same [] (b ∷ t) = false
same (a ∷ s) [] = false
same (a ∷ s) (b ∷ t) = eqb a b && same s t

-- comparing a given tag: 1, which is yes, if it is the true one, and else 0. `YesExactly` says when
abbrev pub verify_answer : ℕ → List ℕ → List ℕ → List ℕ → Answer
verify_answer n key text tag = keying n (length key) (length text) (Ok (cond (same tag (hmac_for n key text)) 1 0))
