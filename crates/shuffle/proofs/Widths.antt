-- The length of a record at a known width, and of whole records.
use mathlib.Core.Path.{◌≡◌, refl, sym, ◌∙◌}
use mathlib.Core.Bool.{true}
use mathlib.Core.List.{List}
use Prim.Native.Nat.{ℕ, ◌*◌, ◌/◌, ◌%◌, ◌≤◌, ◌<◌}
use native.Mathlib.Nat.{div-add-mod', mul_comm}
use native.Mathlib.Omega.{arith}
use lib.Dec.{lit≤}
use lib.ListN.{length}
use Rattle.quasigroup.specs.Tables.{known_width}
use Rattle.quasigroup.proofs.Widths.{of_known}
use Rattle.shuffle.specs.Shuffle.{record_length, record_words, shuffled_record, unshuffled_record}
use Rattle.shuffle.proofs.Transposed.{transposed_length, transposed_twice}
use Rattle.shuffle.proofs.Records.{Keeps}

pub record Sized (w : ℕ) : Type 0 where
  pub words : record_words * (w / 8) ≡ record_length w
  pub bytes : 0 < w / 8
  pub some : 0 < record_length w

pub sized : (w : ℕ) → known_width w ≡ true → Sized w
sized = of_known Sized (record { words = refl; bytes = lit≤ tt; some = lit≤ tt }) (record { words = refl; bytes = lit≤ tt; some = lit≤ tt })

-- the records of s take no more than s, and all of s if none is broken
pub records_within : (m : ℕ) (s : List ℕ) → length s / m * m ≤ length s
records_within m s = omega (arith, div-add-mod' (length s) m)

pub records_whole : (m : ℕ) (s : List ℕ) → length s % m ≡ 0 → length s / m * m ≡ length s
records_whole m s h = omega (arith, div-add-mod' (length s) m)

module _ (w : ℕ) (known : known_width w ≡ true) where
  bytes_first : (w / 8) * 64 ≡ record_length w
  bytes_first = mul_comm (w / 8) 64 ∙ (sized w known).words

  pub shuffled_keeps : Keeps (shuffled_record w) (record_length w)
  shuffled_keeps r = transposed_length 64 (w / 8) r ∙ bytes_first

  pub unshuffled_keeps : Keeps (unshuffled_record w) (record_length w)
  unshuffled_keeps r = transposed_length (w / 8) 64 r ∙ (sized w known).words

  pub unshuffled_back : (r : List ℕ) → length r ≡ record_length w → unshuffled_record w (shuffled_record w r) ≡ r
  unshuffled_back r e = transposed_twice 64 (w / 8) r (sized w known).bytes (e ∙ sym (sized w known).words)

  pub shuffled_back : (r : List ℕ) → length r ≡ record_length w → shuffled_record w (unshuffled_record w r) ≡ r
  shuffled_back r e = transposed_twice (w / 8) 64 r (lit≤ tt) (e ∙ sym bytes_first)
