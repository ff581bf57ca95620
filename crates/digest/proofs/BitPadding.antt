-- Padding over bits: whole blocks, with the fewest zeros; and packed into bytes it is the padding of bytes, whose first byte holds the bits that are left.
use mathlib.Core.Path.{◌≡◌, refl, ap, ap₂, sym, subst, ◌∙◌}
use mathlib.Core.Bool.{Bool, true, false}
use mathlib.Core.List.{List, [], ◌∷◌, ◌++◌, append_assoc, append-nil}
use Prim.Native.Nat.{ℕ, zero, suc, ◌+◌, ◌-◌, ◌*◌, ◌/◌, ◌%◌, ◌^◌, ◌≤◌, ◌<◌}
use native.Mathlib.Nat.{one-mul, mul_left_comm, mod-lt, mod-eq_of_lt, mod_self, mod-add-mod, add-mod_right, add-mul-mod_self_right, div-add-mod'}
use native.Mathlib.Nat.{div-mul-le_self}
use native.Mathlib.Decide.{dec_le}
use native.Mathlib.Omega.{arith}
use lib.ListN.{length, replicate, length-append, length-replicate, replicate-append-replicate}
use lib.Bits.{bit_or, or_shifted}
use lib.Pow.{pow-lt, pow_mono, shr_lt}
use Rattle.memory.specs.Bytes.{Bytes, bytes, word_at}
use Rattle.memory.proofs.Bytes.{length_bytes, bytes_are, word_bytes}
use Rattle.digest.specs.Bits.{value_of, bit_string, packed, highest}
use Rattle.digest.specs.Padding.{gap, ending, marked}
use Rattle.digest.specs.BitPadding.{padded_bits, BitPadding, LengthFits}
use Rattle.digest.specs.Kind.{narrow_kind, wide_kind}
use Rattle.digest.proofs.Bits.{value_lt, value_bits, value_append, highest_is, length_highest, length-bit_string, packed_byte, packed_bytes, packed_zeros}
use Rattle.digest.proofs.Padding.{gap_near, gap_far, fewest}

-- ---- the byte with the one bit, as a number

value_zeros : (n : ℕ) → value_of (replicate n false) ≡ 0
value_zeros zero = refl
value_zeros (suc n) = omega (arith, value_zeros n)

pub marked_is : (last count : ℕ) → last < 256 → count ≤ 7 → marked last count ≡ last / 2 ^ (8 - count) * 2 ^ (8 - count) + 2 ^ (7 - count)
unfolding marked
marked_is last count small few =
    let d = 8 - count in
    let h = last / 2 ^ d in
    let n : length (true ∷ replicate (7 - count) false) ≡ d = omega (arith, length-replicate {A = Bool} (7 - count) false) in
    let e : 8 ≡ count + d = omega arith in
    let l : last < 2 ^ (count + d) = subst (λ (j : ℕ). last < 2 ^ j) e small in
    let v : value_of (highest count last) ≡ h = ap value_of (highest_is count last (omega arith)) ∙ value_bits count h ∙ mod-eq_of_lt (shr_lt count d l) in
    let o : value_of (true ∷ replicate (7 - count) false) ≡ 2 ^ (7 - count) =
    ap₂ {C = ℕ} (λ a b. 2 ^ a + b) (length-replicate {A = Bool} (7 - count) false) (value_zeros (7 - count)) ∙ omega arith in
    value_append (highest count last) (true ∷ replicate (7 - count) false) ∙ ap₂ ◌+◌ (ap₂ {C = ℕ} (λ a b. a * 2 ^ b) v n) o

-- as code makes it, by shifts of 32 bits
pub marked_shifts : (last count : ℕ) → last < 256 → count ≤ 7
    → let r = bit_or (last / 2 ^ (8 - count) * 2 ^ (8 - count) % 2 ^ 32) (1 * 2 ^ (7 - count) % 2 ^ 32) in (r ≡ marked last count) × (r < 256)
unfolding marked
marked_shifts last count small few =
    let d = 8 - count in
    let e = 7 - count in
    let kept : last / 2 ^ d * 2 ^ d % 2 ^ 32 ≡ last / 2 ^ d * 2 ^ d = mod-eq_of_lt (omega (arith, div-mul-le_self last (2 ^ d))) in
    let above : 2 ^ e < 2 ^ d = pow-lt (omega arith) in
    let most : 2 ^ e ≤ 2 ^ 8 = pow_mono {i = e} {j = 8} (omega arith) in
    let one : 1 * 2 ^ e % 2 ^ 32 ≡ 2 ^ e = ap (λ (n : ℕ). n % 2 ^ 32) (one-mul (2 ^ e)) ∙ mod-eq_of_lt (omega arith) in
    let r = ap₂ bit_or kept one ∙ or_shifted (last / 2 ^ d) d (2 ^ e) above ∙ sym (marked_is last count small few) in
    let s = highest count last ++ true ∷ replicate e false in
    let n : length s ≡ 8 =
    length-append (highest count last) (true ∷ replicate e false)
    ∙ omega (arith, length_highest count last (omega arith), length-replicate {A = Bool} e false) in
    (r, rw r (subst (λ (j : ℕ). value_of s < 2 ^ j) n (value_lt s)))

module _ (B : ℕ) (big : 8 < B) where
  -- ---- the zeros: those to the end of the byte, and eight for each zero byte
  module _ (t count : ℕ) (few : count ≤ 7) where
    waiting_bits : (8 * t + count) % (8 * B) ≡ 8 * (t % B) + count
    waiting_bits =
        let r = mod-lt t {m = B} (omega arith) in
        let d : t / B * B + t % B ≡ t = div-add-mod' t B in
        let c : t / B * (8 * B) ≡ 8 * (t / B * B) = mul_left_comm (t / B) 8 B in
        let e : 8 * t + count ≡ 8 * (t % B) + count + t / B * (8 * B) = omega arith in
        ap (λ (n : ℕ). n % (8 * B)) e ∙ add-mul-mod_self_right (8 * (t % B) + count) (t / B) (8 * B) ∙ mod-eq_of_lt (omega arith)

    gap_bits : gap (8 * B) 64 (8 * t + count) ≡ 7 - count + 8 * gap B 8 t
    gap_bits = decided (dec_le (t % B + 1 + 8) B)
      where
        decided : Dec (t % B + 1 + 8 ≤ B) → gap (8 * B) 64 (8 * t + count) ≡ 7 - count + 8 * gap B 8 t
        decided (yes h) =
            let w = waiting_bits in
            let a = gap_near B 8 big t h in
            let b = gap_near (8 * B) 64 (omega arith) (8 * t + count) (omega arith) in
            omega arith
        decided (no h) =
            let w = waiting_bits in
            let a = gap_far B 8 big t (omega arith) in
            let b = gap_far (8 * B) 64 (omega arith) (8 * t + count) (omega arith) in
            omega arith

  -- ---- 64 bits before the end of a block, as 001 has it, and its end

  sixty_four_behind : (x : ℕ) → x % (8 * B) ≡ 8 * B - 64 → (x + 64) % (8 * B) ≡ 0
  sixty_four_behind x e =
      let n : 8 * B - 64 + 64 ≡ 8 * B = omega arith in
      sym (mod-add-mod x (8 * B) 64) ∙ ap (λ (j : ℕ). (j + 64) % (8 * B)) e ∙ ap (λ (j : ℕ). j % (8 * B)) n ∙ mod_self (8 * B)

  sixty_four_before : (x : ℕ) → (x + 64) % (8 * B) ≡ 0 → x % (8 * B) ≡ 8 * B - 64
  sixty_four_before x e = decided (dec_le (8 * B) (x % (8 * B) + 64))
    where
      f : (x % (8 * B) + 64) % (8 * B) ≡ 0
      f = mod-add-mod x (8 * B) 64 ∙ e

      decided : Dec (8 * B ≤ x % (8 * B) + 64) → x % (8 * B) ≡ 8 * B - 64
      decided (no h) =
          let l : x % (8 * B) + 64 < 8 * B = omega arith in
          let g : x % (8 * B) + 64 ≡ 0 = sym (mod-eq_of_lt l) ∙ f in
          omega arith
      decided (yes h) =
          let r = mod-lt x {m = 8 * B} (omega arith) in
          let n : ℕ = x % (8 * B) + 64 - 8 * B in
          let l : n < 8 * B = omega arith in
          let s : x % (8 * B) + 64 ≡ n + 8 * B = omega arith in
          let g : n ≡ 0 = sym (mod-eq_of_lt l) ∙ sym (add-mod_right n (8 * B)) ∙ ap (λ (j : ℕ). j % (8 * B)) (sym s) ∙ f in
          omega arith

  -- ---- the padded string

  pub bit_padding : BitPadding B
  unfolding padded_bits
  bit_padding =
      record {
        blocks = blocks;
        fewest = fewest (8 * B) 64 (omega arith);
        solves = λ l. sixty_four_before (l + 1 + gap (8 * B) 64 l) (fewest (8 * B) 64 (omega arith) l).ends;
        smallest = λ l k e. (fewest (8 * B) 64 (omega arith) l).fewest k (sixty_four_behind (l + 1 + k) e);
        zeros = gap_bits;
      }
    where
      blocks : (s : List Bool) → length (padded_bits (8 * B) s) % (8 * B) ≡ 0
      blocks s =
          let l = length s in
          let g = gap (8 * B) 64 l in
          let z = replicate {A = Bool} g false in
          let b = bit_string (bytes 8 l) in
          let n : length b ≡ 64 = length-bit_string (bytes 8 l) ∙ omega (arith, length_bytes 8 l) in
          let e : length (s ++ true ∷ (z ++ b)) ≡ l + 1 + g + 64 =
          length-append s (true ∷ (z ++ b)) ∙ omega (arith, length-append z b, length-replicate {A = Bool} g false) in
          ap (λ (j : ℕ). j % (8 * B)) e ∙ (fewest (8 * B) 64 (omega arith) l).ends

  -- packed: the bytes of the message, the byte with the bits u that are left and the one bit, and the ending of bytes
  module _ (m : List ℕ) (are : Bytes m) (u : List Bool) (few : length u ≤ 7) where
    abbrev l : ℕ
    l = length (bit_string m ++ u)

    total_bits : l ≡ 8 * length m + length u
    total_bits = length-append (bit_string m) u ∙ omega (arith, length-bit_string m)

    pub packed_padded : packed (padded_bits (8 * B) (bit_string m ++ u))
        ≡ m ++ ending B (length m) (value_of (u ++ true ∷ replicate (7 - length u) false)) (8 * length m + length u)
    unfolding padded_bits
    packed_padded =
        let c = length u in
        let g = gap B 8 (length m) in
        let f = replicate {A = Bool} (7 - c) false in
        let z = replicate {A = Bool} (8 * g) false in
        let b = bit_string (bytes 8 l) in
        let first = u ++ true ∷ f in
        let zs : replicate {A = Bool} (gap (8 * B) 64 l) false ≡ f ++ z =
        ap (λ (j : ℕ). replicate (gap (8 * B) 64 j) false) total_bits ∙ ap (λ (j : ℕ). replicate j false) (gap_bits (length m) c few)
        ∙ sym (replicate-append-replicate (7 - c) (8 * g) false) in
        let parts : (bit_string m ++ u) ++ true ∷ (replicate (gap (8 * B) 64 l) false ++ b) ≡ bit_string m ++ (first ++ (z ++ b)) =
        ap (λ (x : List Bool). (bit_string m ++ u) ++ true ∷ (x ++ b)) zs
        ∙ ap (λ (x : List Bool). (bit_string m ++ u) ++ true ∷ x) (append_assoc f z b)
        ∙ append_assoc (bit_string m) u (true ∷ (f ++ (z ++ b)))
        ∙ ap (λ (x : List Bool). bit_string m ++ x) (sym (append_assoc u (true ∷ f) (z ++ b))) in
        let eight : length first ≡ 8 = length-append u (true ∷ f) ∙ omega (arith, length-replicate {A = Bool} (7 - c) false) in
        let number : packed b ≡ bytes 8 l =
        ap packed (sym (append-nil b)) ∙ packed_bytes (bytes 8 l) [] (bytes_are 8 l) ∙ append-nil (bytes 8 l) in
        ap packed parts ∙ packed_bytes m (first ++ (z ++ b)) are
        ∙ ap (λ (x : List ℕ). m ++ x)
        (packed_byte first (z ++ b) eight
        ∙ ap (λ (x : List ℕ). value_of first ∷ x) (packed_zeros g b ∙ ap (λ (x : List ℕ). replicate g 0 ++ x) (number ∙ ap (bytes 8) total_bits)))

pub narrow_bit_padding : BitPadding narrow_kind.block
narrow_bit_padding = bit_padding narrow_kind.block (omega arith)

pub wide_bit_padding : BitPadding wide_kind.block
wide_bit_padding = bit_padding wide_kind.block (omega arith)

pub length_fits : LengthFits
length_fits l h =
    ap (λ (s : List ℕ). word_at 8 s 0) (sym (append-nil (bytes 8 l))) ∙ word_bytes 8 l [] [] 0 refl ∙ mod-eq_of_lt (omega arith)
