-- Feeding: two feedings are one of the joined bytes, and what is refused leaves the state. For every kind, and every state that code can hold.
use Rattle.std.specs.Prelude.{Ok}
use mathlib.Core.Path.{◌≡◌, refl, ap, sym, ◌∙◌}
use mathlib.Core.Bool.{true, false}
use mathlib.Core.List.{List, [], ◌++◌, append-nil, append_assoc}
use Prim.Native.Nat.{ℕ, ◌+◌, ◌-◌, ◌%◌, ◌≤◌, ◌<◌}
use native.Mathlib.Nat.{sub-zero, mod-lt, mod-add-mod, zero-mod}
use native.Mathlib.Omega.{arith}
use borrow.Author.Tests.{le-leb, lt-leb, leb-true}
use lib.Dec.{leb}
use lib.ListN.{length, replicate, length-append, length-replicate, take-append-drop}
use lib.Seq.{take_at, drop_at}
use Rattle.answer.specs.Answer.{Answer, refused_at}
use Rattle.answer.specs.declared.Refusal.TheVariants.{State, Length}
use Rattle.answer.proofs.Tests.{both_true}
use Rattle.digest.specs.Blocks.{compressed, rest, filled}
use Rattle.digest.specs.Pipe.{Pipe}
use Rattle.answer.specs.Refuse.{outcome}
use Rattle.digest.specs.Refusals.{limit}
use Rattle.digest.specs.Kind.{Kind, known_size}
use Rattle.digest.specs.State.{Hash, formed, pending, opened, advanced, feed_answer, feed_state}
use Rattle.digest.specs.Waiting.{Held, Clean}
use Rattle.digest.proofs.Buffer.{length_pending}
use Rattle.digest.proofs.Blocks.{length_rest, rest_rest, compressed_twice, rest_short, compressed_short}

same : {n : ℕ} {p p' : Pipe} {w w' : List ℕ} {t t' : ℕ} → p ≡ p' → w ≡ w' → t ≡ t'
    → ◌≡◌ {A = Hash} (record { size = n; pipe = p; waiting = w; total = t }) (record { size = n; pipe = p'; waiting = w'; total = t' })
same {n = n} a b c = λ i. record { size = n; pipe = a i; waiting = b i; total = c i }

module _ (k : Kind) (pos : 0 < k.block) where
  length_left : (h : Hash) (s : List ℕ) → Held k h → length (rest k.block (pending k h ++ s)) ≡ (h.total + length s) % k.block
  length_left h s e =
      length_rest k.block pos (pending k h ++ s)
      ∙ ap (λ (n : ℕ). n % k.block) (length-append (pending k h) s ∙ ap (λ (n : ℕ). n + length s) (length_pending k.block pos h.waiting e h.total))
      ∙ mod-add-mod h.total k.block (length s)

  -- ---- what an accepted feeding leaves

  pub held : (h : Hash) (s : List ℕ) → Held k h → Held k (advanced k h s)
  unfolding advanced
  held h s e =
      let l = rest k.block (pending k h ++ s) in
      let b : length l < k.block = rw (length_left h s e) (mod-lt _ pos) in
      simp (length-append l, length-replicate) (omega arith)

  pub pending_advanced : (h : Hash) (s : List ℕ) → Held k h → pending k (advanced k h s) ≡ rest k.block (pending k h ++ s)
  unfolding advanced
  pending_advanced h s e = take_at _ _ _ (length_left h s e)

  pub clean : (h : Hash) (s : List ℕ) → Held k h → Clean k (advanced k h s)
  unfolding advanced
  clean h s e =
      drop_at (rest k.block (pending k h ++ s)) _ _ (length_left h s e) ∙ ap (λ (n : ℕ). replicate (k.block - n) 0) (length_left h s e)

  pub held_opened : (n : ℕ) → Held k (opened k n)
  held_opened n = length-replicate k.block 0

  pub clean_opened : (n : ℕ) → Clean k (opened k n)
  clean_opened n = rw (zero-mod, sub-zero)

  pub advanced_size : (h : Hash) (s : List ℕ) → (advanced k h s).size ≡ h.size
  unfolding advanced
  advanced_size h s = refl

  pub advanced_total : (h : Hash) (s : List ℕ) → (advanced k h s).total ≡ h.total + length s
  unfolding advanced
  advanced_total h s = refl

  pub advanced_twice : (h : Hash) (s t : List ℕ) → Held k h → advanced k (advanced k h s) t ≡ advanced k h (s ++ t)
  unfolding advanced
  advanced_twice h s t e =
      let w = pending k h in
      let j : rest k.block (w ++ s) ++ t ≡ pending k (advanced k h s) ++ t = ap (λ (l : List ℕ). l ++ t) (sym (pending_advanced h s e)) in
      let a : (w ++ s) ++ t ≡ w ++ (s ++ t) = append_assoc w s t in
      same
      (ap (compressed k.block k.step _) (sym j) ∙ compressed_twice k.block pos k.step h.pipe (w ++ s) t
      ∙ ap (compressed k.block k.step h.pipe) a)
      (ap (λ (l : List ℕ). filled k.block (rest k.block l)) (sym j)
      ∙ ap (filled k.block) (rest_rest k.block pos (w ++ s) t ∙ ap (rest k.block) a))
      (simp length-append (omega arith))

  -- feeding nothing leaves a state that has zeros behind its waiting bytes
  pub advanced_nothing : (h : Hash) → Held k h → Clean k h → advanced k h [] ≡ h
  unfolding advanced
  advanced_nothing h e c =
      let l = length_pending k.block pos h.waiting e h.total in
      let b : length (pending k h) < k.block = rw l (mod-lt _ pos) in
      let w : filled k.block (pending k h) ≡ h.waiting =
      ap (λ (n : ℕ). pending k h ++ replicate (k.block - n) 0) l ∙ ap (λ (z : List ℕ). pending k h ++ z) (sym c)
      ∙ take-append-drop (h.total % k.block) h.waiting in
      same
      (ap (compressed k.block k.step h.pipe) (append-nil (pending k h)) ∙ compressed_short k.block pos k.step h.pipe (pending k h) b)
      (ap (λ (x : List ℕ). filled k.block (rest k.block x)) (append-nil (pending k h))
      ∙ ap (filled k.block) (rest_short k.block pos (pending k h) b) ∙ w)
      (omega arith)

  -- ---- what a feeding answers, by its tests

  pub feed_done : (h : Hash) (s : List ℕ) → formed k h ≡ true → h.total + length s ≤ limit → feed_answer k h s ≡ Ok (h.total + length s)
  feed_done h s e l = rw (e, le-leb _ _ l)

  pub feed_state_lem : (h : Hash) (s : List ℕ) → formed k h ≡ false → feed_answer k h s ≡ refused_at State 0
  feed_state_lem h s e = rw e

  pub feed_length : (h : Hash) (s : List ℕ) → formed k h ≡ true → limit < h.total + length s → feed_answer k h s ≡ refused_at Length 0
  feed_length h s e l = rw (e, lt-leb _ _ l)

  -- what it leaves
  pub left_done : (h : Hash) (s : List ℕ) {n : ℕ} → feed_answer k h s ≡ Ok n → feed_state k h s ≡ advanced k h s
  left_done h s e = ap (λ (a : Answer). outcome a (advanced k h s) h) e

  pub formed_total : (h : Hash) → formed k h ≡ true → h.total ≤ limit
  formed_total h e = leb-true _ _ (both_true (known_size k h.size) (leb h.total limit) e).1

  pub formed_advanced : (h : Hash) (s : List ℕ) → formed k h ≡ true → h.total + length s ≤ limit → formed k (advanced k h s) ≡ true
  unfolding advanced
  formed_advanced h s e l = rw ((both_true (known_size k h.size) _ e).0, le-leb _ _ l)
