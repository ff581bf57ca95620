-- Each way an operation returns, from what the code's parts give: its answer and what it leaves are the definition's. For any kind.
-- Code asks for its answer a and whether that is a success, t; it returns where `!t` holds. Where it goes on, what it then knows is a record.
use mathlib.Core.Path.{◌≡◌, ap, ap₂, sym, ◌∙◌}
use mathlib.Core.Bool.{Bool, true, false, not}
use mathlib.Core.List.{List, ◌++◌}
use Prim.Native.Nat.{ℕ, ◌+◌, ◌-◌, ◌*◌, ◌/◌, ◌%◌, ◌^◌, ◌≤◌, ◌<◌}
use native.Mathlib.Nat.{div-mul-le_self, mod-lt, le_of_lt}
use native.Mathlib.Omega.{arith}
use lib.ListN.{length, take, drop}
use Rattle.answer.specs.Answer.{Answer}
use Rattle.answer.specs.Refuse.{is_done}
use Rattle.answer.proofs.Tests.{goes_on, stops}
use Rattle.answer.proofs.Refuse.{refused_outcome, done_outcome}
use Rattle.digest.specs.Padding.{padding, ending, marked}
use Rattle.digest.specs.Blocks.{compressed, rest, filled}
use Rattle.digest.specs.Pipe.{Pipe}
use Rattle.digest.specs.Kind.{Kind}
use Rattle.digest.specs.State.{Hash, pending, opened, zeros, open_answer, open_state, advanced, feed_answer, feed_state}
use Rattle.digest.specs.State.{closed, cut, finished_bits, finish_bits_answer, finish_bits_out}
use Rattle.digest.specs.OneCall.{digest_of, digest_answer, digest_out}
use Rattle.digest.specs.Waiting.{Held}
use Rattle.digest.proofs.Blocks.{length_rest, compressed_twice}
use Rattle.memory.proofs.Lists.{to_end}
use Rattle.digest.proofs.Buffer.{length_pending}
use Rattle.digest.proofs.Padding.{ending_waiting}
use Rattle.digest.proofs.Answers.{Sized, Writable, feeding_done, finishing_done, digesting_done}

-- the pending bytes as code takes them, the first of `waiting`
pub record Pending (k : Kind) (h : Hash) : Type 0 where
  pub stands : h.total % k.block ≤ length h.waiting
  pub count : h.total % k.block ≡ length (pending k h)
  pub short : length (pending k h) < k.block

-- what is known where a feeding goes on; where a finishing does; where a digest in one call does
pub record Feeding (k : Kind) (h : Hash) (s : List ℕ) : Type 0 where
  pub waits : Pending k h
  pub total : h.total + length s < 2 ^ 64
  pub fed : {q : Pipe} {w : List ℕ}
      → (q ≡ compressed k.block k.step h.pipe (pending k h ++ s)) × (w ≡ filled k.block (rest k.block (pending k h ++ s)))
      → record { size = h.size; pipe = q; waiting = w; total = h.total + length s } ≡ feed_state k h s

pub record Finishing (k : Kind) (h : Hash) (last count : ℕ) (out : List ℕ) : Type 0 where
  pub waits : Pending k h
  pub few : count ≤ 7
  pub fits : Writable k h.size (8 * h.total + count) (length out)
  pub written : {mark bits : ℕ} {r : Pipe} {left : List ℕ} → mark ≡ marked last count → bits ≡ 8 * h.total + count
      → r ≡ closed k h.pipe (pending k h) (length (pending k h)) mark bits → left ≡ cut k h.size r ++ drop (h.size / 8) out
      → left ≡ finish_bits_out k h last count out

-- p is the starting pipe, q that behind all whole blocks of m, r that closed with what is left of m
pub record Digesting (k : Kind) (n : ℕ) (m out : List ℕ) : Type 0 where
  pub fits : Writable k n (8 * length m) (length out)
  pub written : {p q r : Pipe} {last : List ℕ} → p ≡ k.start n → q ≡ compressed k.block k.step p m
      → (let w = take (length m - length m / k.block * k.block) (drop (length m / k.block * k.block) m) in
      r ≡ closed k q w (length w) 0x80 (8 * length m))
      → last ≡ cut k n r ++ drop (n / 8) out
      → last ≡ digest_out k n m out

-- code's answer is b, and code found it to be a success or a refusal
module _ {a b : Answer} {t : Bool} (e : a ≡ b) (d : t ≡ is_done a) where
  refused : not t ≡ true → is_done b ≡ false
  refused n = ap is_done (sym e) ∙ stops d n

  accepted : not t ≡ false → is_done b ≡ true
  accepted n = ap is_done (sym e) ∙ goes_on d n

-- the last blocks: all of l, which is the end of a padded message
pub closed_by : (k : Kind) (p : Pipe) (w : List ℕ) (mark bits : ℕ) {l : List ℕ} {q : Pipe}
    → q ≡ compressed k.block k.step p l → l ≡ w ++ ending k.block (length w) mark bits → q ≡ closed k p w (length w) mark bits
unfolding closed
closed_by k p w mark bits eq el = eq ∙ ap (compressed k.block k.step p) el

module _ {k : Kind} (is : Sized k) where
  -- of the total only what waits matters to the zeros, so code goes by the number of pending bytes
  closed_waiting : (p : Pipe) (w : List ℕ) (t mark bits : ℕ) → length w ≡ t % k.block → closed k p w (length w) mark bits ≡ closed k p w t mark bits
  unfolding closed
  closed_waiting p w t mark bits e = ap (λ (l : List ℕ). compressed k.block k.step p (w ++ l)) (ending_waiting k.block t mark bits w e)

  pending_length : (h : Hash) → Held k h → length (pending k h) ≡ h.total % k.block
  pending_length h held = length_pending k.block is.pos h.waiting held h.total

  waiting : (h : Hash) → Held k h → Pending k h
  waiting h held =
      let l = mod-lt h.total is.pos in
      record { stands = rw held (le_of_lt l); count = sym (pending_length h held); short = rw (pending_length h held) l }

  -- ---- opening
  module _ (n : ℕ) {a : Answer} {t : Bool} (e : a ≡ open_answer k n) (d : t ≡ is_done a) where
    pub open_refused : not t ≡ true → (a ≡ open_answer k n) × (zeros k ≡ open_state k n)
    open_refused f = (e, refused_outcome (open_answer k n) (opened k n) (zeros k) (refused e d f))

    pub open_accepted : {q : Pipe} → not t ≡ false → q ≡ k.start n
        → (a ≡ open_answer k n) × (record { size = n; pipe = q; waiting = (opened k n).waiting; total = 0 } ≡ open_state k n)
    open_accepted f eq = (
      e,
      (λ i. record { size = n; pipe = eq i; waiting = (opened k n).waiting; total = 0 })
          ∙ done_outcome (open_answer k n) (opened k n) (zeros k) (accepted e d f),
    )

  -- ---- feeding
  module _ (h : Hash) (s : List ℕ) {a : Answer} {t : Bool} (e : a ≡ feed_answer k h s) (d : t ≡ is_done a) where
    pub feed_refused : not t ≡ true → (a ≡ feed_answer k h s) × (h ≡ feed_state k h s)
    feed_refused f = (e, refused_outcome (feed_answer k h s) (advanced k h s) h (refused e d f))

    pub feed_goes : Held k h → not t ≡ false → Feeding k h s
    unfolding advanced
    feed_goes held f =
        let l = feeding_done is h.size h.total (length s) (accepted e d f) in
        record {
          waits = waiting h held;
          total = omega arith;
          fed = λ x. (λ i. record { size = h.size; pipe = x.0 i; waiting = x.1 i; total = h.total + length s })
              ∙ done_outcome (feed_answer k h s) (advanced k h s) h (accepted e d f);
        }

  -- ---- finishing
  module _ (h : Hash) (last count : ℕ) (out : List ℕ) {a : Answer} {t : Bool} (e : a ≡ finish_bits_answer k h count out) (d : t ≡ is_done a) where
    pub finish_refused : not t ≡ true → (a ≡ finish_bits_answer k h count out) × (out ≡ finish_bits_out k h last count out)
    finish_refused f =
        (e, refused_outcome (finish_bits_answer k h count out) (finished_bits k h last count ++ drop (h.size / 8) out) out (refused e d f))

    pub finish_goes : Held k h → not t ≡ false → Finishing k h last count out
    finish_goes held f =
        let x = finishing_done is h.size h.total count (length out) (accepted e d f) in
        record {
          waits = waiting h held;
          few = x.0;
          fits = x.1;
          written = λ {mark} {bits} em eb er el. el
              ∙ ap (λ (x : Pipe). cut k h.size x ++ drop (h.size / 8) out)
              (er ∙ closed_waiting h.pipe (pending k h) h.total mark bits (pending_length h held)
              ∙ ap₂ {C = Pipe} (λ m b. closed k h.pipe (pending k h) h.total m b) em eb)
              ∙ done_outcome (finish_bits_answer k h count out) (finished_bits k h last count ++ drop (h.size / 8) out) out (accepted e d f);
        }

  -- ---- the digest in one call
  module _ (n : ℕ) (m out : List ℕ) {a : Answer} {t : Bool} (e : a ≡ digest_answer k n m out) (d : t ≡ is_done a) where
    pub digest_refused : not t ≡ true → (a ≡ digest_answer k n m out) × (out ≡ digest_out k n m out)
    digest_refused f = (e, refused_outcome (digest_answer k n m out) (digest_of k n m ++ drop (n / 8) out) out (refused e d f))

    -- q all whole blocks of m, w what is left, r that closed
    digest_written : {q r : Pipe} {w last : List ℕ} → not t ≡ false
        → q ≡ compressed k.block k.step (k.start n) m → w ≡ rest k.block m → r ≡ closed k q w (length w) 0x80 (8 * length m)
        → last ≡ cut k n r ++ drop (n / 8) out
        → last ≡ digest_out k n m out
    unfolding digest_of closed
    digest_written {q} {r} {w} f eq ew er el =
        let B = k.block in
        let lw : length w ≡ length m % B = ap length ew ∙ length_rest B is.pos m in
        let c : r ≡ closed k q w (length m) 0x80 (8 * length m) = er ∙ closed_waiting q w (length m) 0x80 (8 * length m) lw in
        let g : r ≡ compressed B k.step (k.start n) (m ++ padding B (length m)) =
        c ∙ rw (eq, ew) (compressed_twice B is.pos k.step (k.start n) m (padding B (length m))) in
        el ∙ ap (λ (x : Pipe). cut k n x ++ drop (n / 8) out) g
        ∙ done_outcome (digest_answer k n m out) (digest_of k n m ++ drop (n / 8) out) out (accepted e d f)

    pub digest_goes : not t ≡ false → Digesting k n m out
    digest_goes f =
        record {
          fits = digesting_done is n (length m) (length out) (accepted e d f);
          written = λ ep eq. digest_written f
              (eq ∙ ap (λ (p : Pipe). compressed k.block k.step p m) ep) (to_end m _ (div-mul-le_self (length m) k.block));
        }
