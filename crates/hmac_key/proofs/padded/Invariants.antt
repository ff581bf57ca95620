use Rattle.hmac.proofs.Padded.{Padded}
use Rattle.hmac_key.proofs.padded.Given as goal

abbrev pub invariant-loop-byte : goal.invariant-loop-byte
invariant-loop-byte l = Padded l.pad l.fn.k l.byte-index l.byte-items
