-- What a success says: no refusal's condition held.
use mathlib.Core.Path.{◌≡◌}
use mathlib.Core.Bool.{Bool, true, false, cond}
use Prim.Native.Nat.{ℕ, ◌+◌, ◌*◌, ◌/◌, ◌^◌, ◌≤◌, ◌<◌}
use native.Mathlib.Omega.{arith}
use borrow.Author.Tests.{eqb-true, leb-true}
use lib.Dec.{eqb, leb, lit≤}
use Rattle.answer.specs.declared.Refusal.TheVariants.{Size, State, Length, Output, BitCount}
use Rattle.answer.specs.Refuse.{is_done}
use Rattle.answer.proofs.Tests.{either, both_true}
use Rattle.answer.proofs.Refuse.{unless_done}
use Rattle.digest.specs.Refusals.{limit, is_size, in_form, feeding, delivering, finishing_bits, digesting}
use Rattle.digest.specs.Kind.{Kind, known_size, narrow_kind, wide_kind, Known}

-- a size is at most the larger of the two
pub size_bound : (small large n most : ℕ) → small ≤ most → large ≤ most → is_size small large n ≡ true → n ≤ most
size_bound small large n most p q e =
    either (eqb n small) (eqb n large) (n ≤ most) e (λ h. rw (eqb-true n small h) p) (λ h. rw (eqb-true n large h) q)

-- the four sizes are at most 512
pub known_bound : (n : ℕ) → Known n → n ≤ 512
known_bound n = by (known_size wide_kind n)
  where
    by : (b : Bool) → known_size (cond b wide_kind narrow_kind) n ≡ true → n ≤ 512
    by true = size_bound 384 512 n 512 (lit≤ tt) (lit≤ tt)
    by false = size_bound 224 256 n 512 (lit≤ tt) (lit≤ tt)

pub form_total : (small large n total : ℕ) → in_form small large n total ≡ true → total ≤ limit
form_total small large n total e = leb-true _ _ (both_true (is_size small large n) (leb total limit) e).1

-- a kind whose digests stand in one vector of its pipe: no size has more bits than half a block
pub record Sized (k : Kind) : Type 0 where
  pub pos : 0 < k.block
  pub small : k.small ≤ 4 * k.block
  pub large : k.large ≤ 4 * k.block

pub narrow_sized : Sized narrow_kind
narrow_sized = record { pos = lit≤ tt; small = lit≤ tt; large = lit≤ tt }

pub wide_sized : Sized wide_kind
wide_sized = record { pos = lit≤ tt; small = lit≤ tt; large = lit≤ tt }

-- where a digest of n bits, of a message of l bits, is written: l fits in 64 bits, and the digest in a vector and in `room` bytes
pub record Writable (k : Kind) (n l room : ℕ) : Type 0 where
  pub bits : l < 2 ^ 64
  pub vector : n / 8 ≤ k.block / 2
  pub out : n / 8 ≤ room

module _ {k : Kind} (is : Sized k) (n : ℕ) where
  delivered : (l room : ℕ) → known_size k n ≡ true → l < 2 ^ 64 → is_done (delivering n room) ≡ true → Writable k n l room
  delivered l room e b d =
      let m = size_bound k.small k.large n (4 * k.block) is.small is.large e in
      record { bits = b; vector = omega arith; out = leb-true _ _ (unless_done (leb (n / 8) room) Output _ d).0 }

  pub feeding_done : (total len : ℕ) → is_done (feeding k.small k.large n total len) ≡ true → total + len ≤ limit
  feeding_done total len d =
      let x = unless_done (in_form k.small k.large n total) State _ d in
      leb-true _ _ (unless_done (leb (total + len) limit) Length _ x.1).0

  pub finishing_done : (total count room : ℕ) → is_done (finishing_bits k.small k.large n total count room) ≡ true
      → (count ≤ 7) × Writable k n (8 * total + count) room
  finishing_done total count room d =
      let x = unless_done (in_form k.small k.large n total) State _ d in
      let y = unless_done (leb count 7) BitCount _ x.1 in
      let c : count ≤ 7 = leb-true _ _ y.0 in
      let b = both_true (known_size k n) (leb total limit) x.0 in
      let t : total ≤ limit = leb-true _ _ b.1 in
      (c, delivered (8 * total + count) room b.0 (omega arith) y.1)

  pub digesting_done : (len room : ℕ) → is_done (digesting k.small k.large n len room) ≡ true → Writable k n (8 * len) room
  digesting_done len room d =
      let x = unless_done (known_size k n) Size _ d in
      let y = unless_done (leb len limit) Length _ x.1 in
      let l : len ≤ limit = leb-true _ _ y.0 in
      delivered (8 * len) room x.0 (omega arith) y.1
