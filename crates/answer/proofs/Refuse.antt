-- What is known of an answer once it is told whether it is a success.
use Rattle.std.specs.Prelude.{Ok, Err}
use mathlib.Core.Path.{◌≡◌, refl}
use mathlib.Core.Bool.{Bool, true, false, true≢false, false≢true}
use Rattle.answer.specs.Answer.{Answer, refused_at}
use Rattle.answer.specs.declared.Refusal.{Refusal}
use Rattle.answer.specs.Refuse.{unless, is_done, outcome}

-- a refusal leaves the old
pub refused_outcome : {A : Type 0} (a : Answer) (new old : A) → is_done a ≡ false → old ≡ outcome a new old
refused_outcome (Ok n) new old e = absurd (true≢false e)
refused_outcome (Err err) new old e = refl

-- a success leaves the new
pub done_outcome : {A : Type 0} (a : Answer) (new old : A) → is_done a ≡ true → new ≡ outcome a new old
done_outcome (Ok n) new old e = refl
done_outcome (Err err) new old e = absurd (false≢true e)

-- what holds of the refusal where a test does not, and of what comes next where it does, holds of the answer
pub unless_cases : (P : Answer → Type 0) (t : Bool) (r : Refusal) (next : Answer) → (t ≡ false → P (refused_at r 0)) → (t ≡ true → P next) → P (unless t r next)
unless_cases P true r next f g = g refl
unless_cases P false r next f g = f refl

-- a success passed the test, and is that of what comes next
pub unless_done : (t : Bool) (r : Refusal) (next : Answer) → is_done (unless t r next) ≡ true → (t ≡ true) × (is_done next ≡ true)
unless_done t r next = unless_cases (λ a. is_done a ≡ true → (t ≡ true) × (is_done next ≡ true)) t r next (λ _ e. absurd (false≢true e)) (λ h e. (h, e))

-- what an answer leaves of what it left already
pub outcome_again : {A B : Type 0} (a : Answer) (of : A → B) (new none : A) (old : B) → outcome a (of (outcome a new none)) old ≡ outcome a (of new) old
outcome_again (Ok n) of new none old = refl
outcome_again (Err err) of new none old = refl
