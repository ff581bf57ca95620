-- XOR of words: the laws that `lib.Bits` lacks, and squares of single bits.
use mathlib.Core.Path.{◌≡◌, refl, sym, ap, ap₂, ◌∙◌}
use Prim.Native.Nat.{ℕ, zero, suc, ◌+◌, ◌*◌, ◌/◌, ◌%◌, ◌<◌}
use native.Mathlib.Nat.{mod-lt, zero-lt-suc, le_refl, le_of_suc-le-suc, not-suc-le-zero}
use mathlib.Core.List.{List, [], ◌∷◌, map}
use lib.ListN.{length}
use native.Mathlib.Omega.{arith}
use lib.Arith.{bin_ind, digits_mod}
use lib.Bits.{bit_xor, differ, xor_step, xor_shr, xor_comm, xor_self, xor_zero_l}
use Rattle.quasigroup.specs.Square.{repeat, apply, act, mul, row, ident}
use Rattle.quasigroup.proofs.Linear.{gathers, act_act, act_ident, gathers_act}

two_pos : zero < 2
two_pos = zero-lt-suc 1

-- what holds of 0 and of 1 holds of a digit
bit {ℓ} : (P : ℕ → Type ℓ) → P 0 → P 1 → (x : ℕ) → x < 2 → P x
bit P p q zero h = p
bit P p q (suc zero) h = q
bit P p q (suc (suc x)) h = absurd (not-suc-le-zero (le_of_suc-le-suc (le_of_suc-le-suc h)))

differ_lt : (x y : ℕ) → x < 2 → y < 2 → differ x y < 2
differ_lt x y hx hy = bit (λ a. differ a y < 2) hy (bit (λ b. differ 1 b < 2) (le_refl 2) two_pos y hy) x hx

differ_assoc : (x y z : ℕ) → x < 2 → y < 2 → z < 2 → differ (differ x y) z ≡ differ x (differ y z)
differ_assoc x y z hx hy hz =
    bit (λ a. differ (differ a y) z ≡ differ a (differ y z)) refl
    (bit (λ b. differ (differ 1 b) z ≡ differ 1 (differ b z)) refl (bit (λ c. differ 0 c ≡ differ 1 (differ 1 c)) refl refl z hz) y hy) x hx

xor_odd : (a b : ℕ) → bit_xor a b % 2 ≡ differ (a % 2) (b % 2)
xor_odd a b = ap (λ x. x % 2) (xor_step a b) ∙ digits_mod (bit_xor (a / 2) (b / 2)) (differ_lt (a % 2) (b % 2) (mod-lt a two_pos) (mod-lt b two_pos))

xor_half : (a b : ℕ) → bit_xor a b / 2 ≡ bit_xor (a / 2) (b / 2)
xor_half a b = xor_shr a b 1

pub xor_assoc : (a b c : ℕ) → bit_xor (bit_xor a b) c ≡ bit_xor a (bit_xor b c)
xor_assoc a b c =
    bin_ind (λ n. (b c : ℕ) → bit_xor (bit_xor n b) c ≡ bit_xor n (bit_xor b c)) (λ b c. refl)
    (λ n ih b c.
    xor_step (bit_xor n b) c
    ∙ ap₂ (λ x y. x * 2 + y)
    (ap (λ x. bit_xor x (c / 2)) (xor_half n b) ∙ ih (b / 2) (c / 2) ∙ ap (bit_xor (n / 2)) (sym (xor_half b c)))
    (ap (λ x. differ x (c % 2)) (xor_odd n b)
    ∙ differ_assoc (n % 2) (b % 2) (c % 2) (mod-lt n two_pos) (mod-lt b two_pos) (mod-lt c two_pos)
    ∙ ap (differ (n % 2)) (sym (xor_odd b c)))
    ∙ sym (xor_step n (bit_xor b c))) a b c

-- ---- squares over single bits

-- only whether an entry is odd counts
repeat_odd : (a x : ℕ) → repeat bit_xor a x ≡ repeat bit_xor (a % 2) x
repeat_odd zero x = refl
repeat_odd (suc zero) x = refl
repeat_odd (suc (suc a)) x =
    let e : a % 2 ≡ suc (suc a) % 2 = omega arith in
    sym (xor_assoc x x (repeat bit_xor a x)) ∙ ap (λ y. bit_xor y (repeat bit_xor a x)) (xor_self x) ∙ repeat_odd a x
    ∙ ap (λ n. repeat bit_xor n x) e

abbrev pub odds : List (List ℕ) → List (List ℕ)
odds A = map (map (λ x. x % 2)) A

apply_odd : (r v : List ℕ) → apply bit_xor r v ≡ apply bit_xor (map (λ x. x % 2) r) v
apply_odd [] v = refl
apply_odd (a ∷ r) [] = refl
apply_odd (a ∷ r) (x ∷ v) = ap₂ bit_xor (repeat_odd a x) (apply_odd r v)

act_odd : (A : List (List ℕ)) (v : List ℕ) → act bit_xor A v ≡ act bit_xor (odds A) v
act_odd [] v = refl
act_odd (r ∷ A) v = ap₂ {B = List ℕ} (λ x l. x ∷ l) (apply_odd r v) (act_odd A v)

-- two squares whose product is the identity over single bits undo each other
pub xors_undo : (P Q : List (List ℕ)) (v : List ℕ) → odds (mul (map row Q) (map row P)) ≡ ident (length v)
    → gathers bit_xor Q (gathers bit_xor P v) ≡ v
xors_undo P Q v e =
    gathers_act bit_xor xor_assoc xor_comm xor_zero_l Q (gathers bit_xor P v)
    ∙ ap (act bit_xor (map row Q)) (gathers_act bit_xor xor_assoc xor_comm xor_zero_l P v)
    ∙ act_act bit_xor xor_assoc xor_comm xor_zero_l (map row Q) (map row P) v
    ∙ act_odd (mul (map row Q) (map row P)) v
    ∙ ap (λ A. act bit_xor A v) e
    ∙ act_ident bit_xor xor_assoc xor_comm xor_zero_l v
