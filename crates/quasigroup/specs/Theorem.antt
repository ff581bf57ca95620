-- 000, section 2.1: in a quasigroup a*x = b has exactly one solution x, a\b, and y*a = b exactly one solution y, b/a.
use Rattle.std.specs.Prelude.{◌≡◌, List, ℕ, suc, ◌<◌, length}
use Rattle.quasigroup.specs.Tables.{Width}
use Rattle.quasigroup.specs.Product.{product}
use Rattle.quasigroup.specs.Division.{left_division, right_division}
use Rattle.quasigroup.specs.Vector.{Below, Vector}

-- of those for which P holds, x is the one that f takes to b
pub record OnlySolution {A : Type 0} (P : A → Type 0) (f : A → A) (b x : A) : Type 0 where
  pub holds : P x
  pub solves : f x ≡ b
  pub unique : (z : A) → P z → f z ≡ b → z ≡ x

pub record Quasigroup (s : Width) : Type 0 where
  pub closed : (x y : List ℕ) → Vector s.bits x → Vector s.bits y → Vector s.bits (product s x y)
  pub left : (a b : List ℕ) → Vector s.bits a → Vector s.bits b → OnlySolution (Vector s.bits) (λ x. product s a x) b (left_division s a b)
  pub right : (a b : List ℕ) → Vector s.bits a → Vector s.bits b → OnlySolution (Vector s.bits) (λ y. product s y a) b (right_division s b a)

-- what the theorem asks of a width: at least one bit, and eight rotation amounts a half, none above the width
pub record Admissible (s : Width) : Type 0 where
  pub some : 0 < s.bits
  pub left_eight : length s.left_amounts ≡ 8
  pub right_eight : length s.right_amounts ≡ 8
  pub left_within : Below (suc s.bits) s.left_amounts
  pub right_within : Below (suc s.bits) s.right_amounts

-- The theorem, for a general width. Of the two constants nothing is asked; 32 and 64 are two instances.
abbrev pub EveryWidth : Type 0
EveryWidth = (s : Width) → Admissible s → Quasigroup s
