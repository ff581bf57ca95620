-- Pipes in bytes: sixteen words and their bytes are the same pipe, written in two ways.
use mathlib.Core.Path.{◌≡◌, refl, sym, ap, ap₂, ◌∙◌}
use mathlib.Core.List.{List, [], ◌++◌, append-nil}
use Prim.Native.Nat.{ℕ, ◌*◌, ◌≤◌}
use native.Mathlib.Omega.{arith}
use lib.ListN.{length, take, drop, take-append-drop, length-append, length-drop}
use lib.Seq.{take_all}
use Rattle.memory.specs.Bytes.{Bytes, bytes_of}
use Rattle.memory.proofs.Bytes.{bytes_of-append, bytes_of-are}
use Rattle.quasigroup.specs.Tables.{Width}
use Rattle.quasigroup.specs.Vector.{Vector}
use Rattle.quasigroup.proofs.Widths.{Bytewise}
use Rattle.quasigroup.proofs.InBytes.{vector_at_lem, vector_length, words_back, bytes_back}
use Rattle.digest.specs.Pipe.{Pipe, written}
use Rattle.digest.specs.Step.{word_bytes, block_x, block_y}
use Rattle.pipe.specs.Reversible.{PipeOf}
use Rattle.pipe.specs.Call.{pipe_in}

module _ (s : Width) (h : Bytewise s.bits) where
  abbrev w : ℕ
  w = s.bits

  abbrev k : ℕ
  k = word_bytes s

  -- the halves of a block in bytes
  pub x_vector : (m : List ℕ) → Bytes m → Vector w (block_x s m)
  x_vector m hm = vector_at_lem w h m hm 0

  pub y_vector : (m : List ℕ) → Bytes m → Vector w (block_y s m)
  y_vector m hm = vector_at_lem w h m hm (8 * k)

  pub pipe_in_lem : (b : List ℕ) → Bytes b → PipeOf w (pipe_in s b)
  pipe_in_lem b hb = record { first = x_vector b hb; second = y_vector b hb }

  module _ (p : Pipe) (hp : PipeOf w p) where
    written_apart : written k p ≡ bytes_of k p.first ++ bytes_of k p.second
    written_apart = bytes_of-append k p.first p.second

    pub written_length : length (written k p) ≡ 2 * w
    written_length =
        ap length written_apart ∙ length-append (bytes_of k p.first) (bytes_of k p.second)
        ∙ omega (arith, vector_length w h p.first hp.first.size, vector_length w h p.second hp.second.size)

    pub written_bytes : Bytes (written k p)
    written_bytes = bytes_of-are k (p.first ++ p.second)

    -- what is written is found again
    pub pipe_written : pipe_in s (written k p) ≡ p
    pipe_written =
        let u = bytes_of k p.first in
        let v = bytes_of k p.second in
        let e : length u ≡ 8 * k = vector_length w h p.first hp.first.size ∙ sym h.eight in
        let x : block_x s (written k p) ≡ p.first =
        ap (block_x s) written_apart ∙ words_back w h p.first hp.first [] v 0 refl in
        let y : block_y s (written k p) ≡ p.second =
        ap (block_y s) (written_apart ∙ ap (λ (l : List ℕ). u ++ l) (sym (append-nil v))) ∙ words_back w h p.second hp.second u [] (8 * k) e in
        ap₂ {C = Pipe} (λ a b. record { first = a; second = b }) x y

  -- and what is found is written again
  pub written_pipe : (b : List ℕ) → Bytes b → length b ≡ 2 * w → written k (pipe_in s b) ≡ b
  written_pipe b hb e =
      let f : 8 * k ≡ w = h.eight in
      let l : length (drop w b) ≤ w = omega (arith, length-drop w b) in
      bytes_of-append k (block_x s b) (block_y s b)
      ∙ ap₂ {C = List ℕ} (λ u v. u ++ v) (bytes_back w h b hb 0 (omega arith)) (bytes_back w h b hb (8 * k) (omega arith))
      ∙ ap (λ (i : ℕ). take w b ++ take w (drop i b)) f
      ∙ ap (λ (v : List ℕ). take w b ++ v) (take_all w (drop w b) l)
      ∙ take-append-drop w b
