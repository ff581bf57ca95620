-- What code asks by a kind's two sizes as numbers is what the definitions ask.
use Rattle.std.proofs.Common.{◌≡◌, ℕ, ap₂, sym, ◌∙◌}
use Rattle.answer.specs.Answer.{Answer}
use Rattle.digest.specs.Kind.{Kind}

module _ (k : Kind) {small large m n : ℕ} (es : k.small ≡ small) (el : k.large ≡ large) (em : m ≡ small) (en : n ≡ large) where
  pub by_sizes : (f : ℕ → ℕ → Answer) {a : Answer} → a ≡ f m n → a ≡ f k.small k.large
  by_sizes f e = e ∙ ap₂ {C = Answer} f (em ∙ sym es) (en ∙ sym el)
