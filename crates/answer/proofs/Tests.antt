-- Tests: what is known once they have come out.
use mathlib.Core.Path.{◌≡◌, refl, sym, ◌∙◌}
use mathlib.Core.Bool.{Bool, true, false, not, cond, ◌||◌, ◌&&◌, true≢false, false≢true}
use borrow.Author.Tests.{not-true, not-false}

-- a test comes out true or false
pub decide : {C : Type 0} (t : Bool) → (t ≡ true → C) → (t ≡ false → C) → C
decide true f g = f refl
decide false f g = g refl

-- what holds of both sides of a choice, each where it is chosen, holds of the choice
pub split : {A : Type 0} (P : A → Type 0) (t : Bool) (a b : A) → (t ≡ true → P a) → (t ≡ false → P b) → P (cond t a b)
split P true a b f g = f refl
split P false a b f g = g refl

-- one of two tests holds
pub either : (a b : Bool) (P : Type 0) → a || b ≡ true → (a ≡ true → P) → (b ≡ true → P) → P
either true b P e f g = f refl
either false b P e f g = g e

pub or_left : (a b : Bool) → a ≡ true → a || b ≡ true
or_left true b e = refl
or_left false b e = absurd (false≢true e)

pub or_right : (a b : Bool) → b ≡ true → a || b ≡ true
or_right true b e = refl
or_right false b e = e

-- neither does
pub neither : (a b : Bool) → a || b ≡ false → (a ≡ false) × (b ≡ false)
neither true b e = absurd (true≢false e)
neither false b e = (refl, e)

-- both do
pub both_true : (a b : Bool) → a && b ≡ true → (a ≡ true) × (b ≡ true)
both_true true b e = (refl, e)
both_true false b e = absurd (false≢true e)

-- `if !t { return .. }` where code found t to be what a definition says: behind it the definition says true, within it false
pub goes_on : {t u : Bool} → t ≡ u → not t ≡ false → u ≡ true
goes_on {t} e n = sym e ∙ not-false t n

pub stops : {t u : Bool} → t ≡ u → not t ≡ true → u ≡ false
stops {t} e n = sym e ∙ not-true t n
