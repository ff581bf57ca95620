-- Where each byte of each record stands.
use mathlib.Core.Path.{◌≡◌, ap, ◌∙◌}
use mathlib.Core.Bool.{true}
use mathlib.Core.List.{List}
use Prim.Native.Nat.{ℕ, ◌+◌, ◌*◌, ◌/◌, ◌<◌}
use native.Mathlib.Nat.{mul-le-mul_right, suc-mul}
use native.Mathlib.Omega.{arith}
use lib.ListN.{length, get_or, take, drop, get_or-append}
use lib.Seq.{get_or-take, get_or-drop}
use Rattle.quasigroup.specs.Tables.{known_width}
use Rattle.shuffle.specs.Shuffle.{record_length, shuffled_record, unshuffled_record, all_records, records_out}
use Rattle.shuffle.specs.Places.{RecordsAreWords, EveryByteByPlace}
use Rattle.shuffle.proofs.Transposed.{transposed_at}
use Rattle.shuffle.proofs.Records.{Keeps, each_at}
use Rattle.shuffle.proofs.Widths.{sized, records_whole, shuffled_keeps, unshuffled_keeps}
use Rattle.shuffle.proofs.RoundTrip.{Accepted, success, new_length, after}

pub records_are_words : RecordsAreWords
records_are_words w known = (sized w known).words

-- place b of row a of a matrix of c rows of n bytes is one of it
inside : (a b c n : ℕ) → a < c → b < n → a * n + b < c * n
inside a b c n h g = omega (arith, mul-le-mul_right {m = 1 + a} {n = c} n (omega arith), suc-mul a n)

-- byte p of record r of what f writes
module _ (f : ℕ → List ℕ → List ℕ) (keeps : (w : ℕ) → known_width w ≡ true → Keeps (f w) (record_length w))
    (w : ℕ) (s out : List ℕ) (a : Accepted w (length s) (length out)) (r p q : ℕ) (h : r < length s / record_length w)
    (in_new : p < record_length w) (in_old : q < record_length w) where
  abbrev m : ℕ
  m = record_length w

  abbrev given : List ℕ
  given = take m (drop (r * m) s)

  by_place : get_or (f w given) p 0 ≡ get_or given q 0 → get_or (records_out f w s out) (r * m + p) 0 ≡ get_or s (r * m + q) 0
  by_place e =
      let n = inside r p (length s / m) m h in_new in
      let l : r * m + p < length (all_records f w s) = omega (arith, n, records_whole m s a.whole, new_length f keeps w s out a) in
      ap (λ (t : List ℕ). get_or t (r * m + p) 0) (after f keeps w s out a)
      ∙ get_or-append (all_records f w s) (drop (length s) out) 0 (r * m + p) l
      ∙ each_at (f w) m (keeps w a.known) (length s / m) s r p h in_new ∙ e ∙ get_or-take m (drop (r * m) s) q 0 in_old ∙ get_or-drop (r * m) s q 0

pub every_byte_by_place : EveryByteByPlace
every_byte_by_place w s out d =
    let a = success w (length s) (length out) d in
    let k = w / 8 in
    let words = (sized w a.known).words in
    record {
      shuffle = λ r i j g h b.
          by_place shuffled_record shuffled_keeps w s out a r (j * 64 + i) (i * k + j) g (omega (arith, words)) (omega (arith, inside i j 64 k h b, words))
          (transposed_at 64 k _ j i b h);
      unshuffle = λ r i j g h b.
          by_place unshuffled_record unshuffled_keeps w s out a r (i * k + j) (j * 64 + i) g (omega (arith, inside i j 64 k h b, words)) (omega (arith, words))
          (transposed_at k 64 _ i j h b);
    }
