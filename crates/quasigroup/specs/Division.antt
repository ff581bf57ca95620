-- The two divisions (000, section 2.1): a half of the product is undone step by step, last step first.
use Rattle.std.specs.Prelude.{List, [], ◌∷◌, map, ℕ, ◌+◌, ◌-◌, ◌*◌, ◌%◌, ◌^◌, get_or}
use Rattle.word.specs.Word.{minus, inverse}
use Rattle.quasigroup.specs.Tables.{Width, right_sums}
use Rattle.quasigroup.specs.Product.{pick, both, fold, first, xor, rotations, left_half, right_half}

-- the inverse of the XOR step over single bits: rotated sum i is the XOR of the combinations whose numbers list i has
abbrev pub left_unxors : List (List ℕ)
left_unxors =
    (3 ∷ 4 ∷ 7 ∷ [])
    ∷ (0 ∷ 1 ∷ 4 ∷ 6 ∷ 7 ∷ [])
    ∷ (0 ∷ 2 ∷ 3 ∷ 4 ∷ 5 ∷ [])
    ∷ (1 ∷ 2 ∷ 3 ∷ 4 ∷ 5 ∷ [])
    ∷ (0 ∷ 1 ∷ 6 ∷ [])
    ∷ (0 ∷ 1 ∷ 2 ∷ [])
    ∷ (3 ∷ 4 ∷ 5 ∷ [])
    ∷ (0 ∷ 1 ∷ 3 ∷ 6 ∷ 7 ∷ [])
    ∷ []

-- The right half's XOR step is J - A, where A is its square of sums and J is all ones. A A = I + 3 J and J A = 5 J over the whole numbers, so
-- (J - A) A = 2 J - I, which is I over single bits: the square of sums itself is the inverse.
abbrev pub right_unxors : List (List ℕ)
right_unxors = right_sums

-- The inverse of a square of sums A modulo 2^w is K + t J, where J is all ones, K is one of these two squares and A K = I + 8 J over the
-- whole numbers. A J = 5 J, so t is the number with 5 t + 8 = 0 modulo 2^w.
abbrev pub left_inverse : List (List ℕ)
left_inverse =
    (1 ∷ 1 ∷ 3 ∷ 2 ∷ 2 ∷ 3 ∷ 1 ∷ 0 ∷ [])
    ∷ (2 ∷ 2 ∷ 1 ∷ 1 ∷ 2 ∷ 1 ∷ 2 ∷ 2 ∷ [])
    ∷ (2 ∷ 1 ∷ 2 ∷ 2 ∷ 2 ∷ 2 ∷ 1 ∷ 1 ∷ [])
    ∷ (1 ∷ 2 ∷ 2 ∷ 2 ∷ 2 ∷ 2 ∷ 1 ∷ 1 ∷ [])
    ∷ (2 ∷ 2 ∷ 1 ∷ 1 ∷ 1 ∷ 1 ∷ 2 ∷ 3 ∷ [])
    ∷ (2 ∷ 2 ∷ 0 ∷ 1 ∷ 1 ∷ 1 ∷ 3 ∷ 3 ∷ [])
    ∷ (1 ∷ 1 ∷ 3 ∷ 2 ∷ 2 ∷ 2 ∷ 1 ∷ 1 ∷ [])
    ∷ (2 ∷ 2 ∷ 1 ∷ 2 ∷ 1 ∷ 1 ∷ 2 ∷ 2 ∷ [])
    ∷ []

-- entry for entry one more than the right square of sums, since A (A + J) = I + 3 J + 5 J
abbrev pub right_inverse : List (List ℕ)
right_inverse =
    (2 ∷ 2 ∷ 2 ∷ 1 ∷ 1 ∷ 2 ∷ 1 ∷ 2 ∷ [])
    ∷ (2 ∷ 2 ∷ 1 ∷ 2 ∷ 2 ∷ 1 ∷ 2 ∷ 1 ∷ [])
    ∷ (2 ∷ 2 ∷ 2 ∷ 2 ∷ 1 ∷ 2 ∷ 1 ∷ 1 ∷ [])
    ∷ (1 ∷ 1 ∷ 2 ∷ 2 ∷ 2 ∷ 1 ∷ 2 ∷ 2 ∷ [])
    ∷ (2 ∷ 2 ∷ 1 ∷ 2 ∷ 2 ∷ 2 ∷ 1 ∷ 1 ∷ [])
    ∷ (1 ∷ 1 ∷ 2 ∷ 1 ∷ 2 ∷ 2 ∷ 2 ∷ 2 ∷ [])
    ∷ (1 ∷ 2 ∷ 2 ∷ 1 ∷ 1 ∷ 2 ∷ 2 ∷ 2 ∷ [])
    ∷ (2 ∷ 1 ∷ 1 ∷ 2 ∷ 2 ∷ 1 ∷ 2 ∷ 2 ∷ [])
    ∷ []

-- t = 2/5 - 2 modulo 2^w
abbrev pub fifths : ℕ → ℕ
fifths w = 2 * inverse w 5 + 2 * (2 ^ w - 1)

-- a row of a square times a vector: `apply ◌+◌` of Square.antt, with products for repeated sums (`dot_is`, proofs/Half.antt)
abbrev pub dot : List ℕ → List ℕ → ℕ
dot [] v = 0
dot (a ∷ r) [] = 0
dot (a ∷ r) (x ∷ v) = a * x + dot r v

-- the sums undone
abbrev pub unsums : ℕ → List (List ℕ) → List ℕ → List ℕ
unsums w K t = map (λ k. (fifths w * fold ◌+◌ t + dot k t) % 2 ^ w) K

-- the XORs undone, then the rotations, and the constant taken from the first sum
abbrev pub unrotated_sums : ℕ → ℕ → List ℕ → List (List ℕ) → List ℕ → List ℕ
unrotated_sums w c rs U z = both (minus w) (rotations w (map (λ r. w - r) rs) (map (λ p. xor (pick p z)) U)) (first c)

-- a half undone
abbrev pub unhalf : ℕ → ℕ → List ℕ → List (List ℕ) → List (List ℕ) → List ℕ → List ℕ
unhalf w c rs U K z = unsums w K (unrotated_sums w c rs U z)

-- the result's words in the order of the combinations, less the half that is known
abbrev pub separated : ℕ → List ℕ → List ℕ → List ℕ
separated w b h = map (λ i. minus w (get_or b ((i + 5) % 8) 0) (get_or h i 0)) (0 ∷ 1 ∷ 2 ∷ 3 ∷ 4 ∷ 5 ∷ 6 ∷ 7 ∷ [])

module _ (s : Width) where
  unfoldable pub unleft : List ℕ → List ℕ
  unleft z = unhalf s.bits s.left_constant s.left_amounts left_unxors left_inverse z

  unfoldable pub unright : List ℕ → List ℕ
  unright z = unhalf s.bits s.right_constant s.right_amounts right_unxors right_inverse z

  -- a\b, the x with a*x = b
  unfoldable pub left_division : List ℕ → List ℕ → List ℕ
  left_division a b = unright (separated s.bits b (left_half s a))

  -- b/a, the y with y*a = b
  unfoldable pub right_division : List ℕ → List ℕ → List ℕ
  right_division b a = unleft (separated s.bits b (right_half s a))
