-- A message in two parts: a hash is opened, fed the one and then the other, and finished, by a caller who stops at the first refusal. It answers and writes
-- what the one call does for both together, which is the theorem on every way of cutting (Cutting.antt).
use mathlib.Core.Path.{◌≡◌, ap, sym, ◌∙◌}
use mathlib.Core.Bool.{Bool, true, false, not}
use mathlib.Core.List.{List, [], ◌∷◌, ◌++◌, append-nil}
use Prim.Native.Nat.{ℕ}
use Rattle.answer.specs.Answer.{Answer}
use Rattle.answer.specs.Refuse.{is_done}
use Rattle.answer.proofs.Refuse.{refused_outcome, done_outcome}
use Rattle.answer.proofs.Tests.{goes_on, stops}
use Rattle.digest.specs.Kind.{Kind}
use Rattle.digest.specs.State.{Hash, open_answer, open_state, feed_answer, feed_state, finish_bits_answer, finish_bits_out}
use Rattle.digest.specs.OneCall.{digest_answer, digest_out}
use Rattle.digest.specs.Cutting.{Written, finishes, fed_and, in_pieces}
use Rattle.digest.proofs.Answers.{Sized}
use Rattle.digest.proofs.BitFinishing.{no_bits}
use Rattle.digest.proofs.Cutting.{whole}

abbrev result : Answer → List ℕ → Written
result r last = record { answer = r; out = last }

-- a the opening's answer and h the state, b and g those of the first feeding, c and f of the second; t, u and v say whether they succeeded
module _ {k : Kind} (is : Sized k) (n : ℕ) (first second out : List ℕ) where
  -- what a call answers and leaves
  abbrev Ended : Answer → List ℕ → Type 0
  Ended r last = (r ≡ digest_answer k n (first ++ second) out) × (last ≡ digest_out k n (first ++ second) out)

  ended : {r : Answer} {last : List ℕ} → result r last ≡ in_pieces k n (first ∷ second ∷ []) out → Ended r last
  ended {r} {last} e =
      let f : result r last ≡ result (digest_answer k n (first ++ second) out) (digest_out k n (first ++ second) out) =
      e ∙ whole k is.pos n (first ∷ second ∷ []) out
      ∙ ap (λ (m : List ℕ). result (digest_answer k n (first ++ m) out) (digest_out k n (first ++ m) out)) (append-nil second) in
      (ap (λ (w : Written). w.answer) f, ap (λ (w : Written). w.out) f)

  -- the states and answers of the definition
  abbrev h₀ : Hash
  h₀ = open_state k n

  abbrev h₁ : Hash
  h₁ = feed_state k h₀ first

  abbrev h₂ : Hash
  h₂ = feed_state k h₁ second

  abbrev rest : Hash → List (List ℕ) → Written
  rest h ss = fed_and k (finishes k out) h ss out

  opened_on : is_done (open_answer k n) ≡ true → rest h₀ (first ∷ second ∷ []) ≡ in_pieces k n (first ∷ second ∷ []) out
  opened_on d = done_outcome (open_answer k n) (rest h₀ (first ∷ second ∷ [])) (result (open_answer k n) out) d

  first_on : is_done (feed_answer k h₀ first) ≡ true → rest h₁ (second ∷ []) ≡ rest h₀ (first ∷ second ∷ [])
  first_on d = done_outcome (feed_answer k h₀ first) (rest h₁ (second ∷ [])) (result (feed_answer k h₀ first) out) d

  second_on : is_done (feed_answer k h₁ second) ≡ true → finishes k out h₂ ≡ rest h₁ (second ∷ [])
  second_on d = done_outcome (feed_answer k h₁ second) (finishes k out h₂) (result (feed_answer k h₁ second) out) d

  module _ {a : Answer} {h : Hash} (o : (a ≡ open_answer k n) × (h ≡ h₀)) {t : Bool} (dt : t ≡ is_done a) where
    pub opening_refused : not t ≡ true → Ended a out
    opening_refused s =
        let d : is_done (open_answer k n) ≡ false = ap is_done (sym o.0) ∙ stops dt s in
        ended (ap (λ (r : Answer). result r out) o.0
        ∙ refused_outcome (open_answer k n) (rest h₀ (first ∷ second ∷ [])) (result (open_answer k n) out) d)

    module _ (st : not t ≡ false) {b : Answer} {g : Hash} (p : (b ≡ feed_answer k h first) × (g ≡ feed_state k h first)) {u : Bool} (du : u ≡ is_done b) where
      opened_goes : is_done (open_answer k n) ≡ true
      opened_goes = ap is_done (sym o.0) ∙ goes_on dt st

      first_is : b ≡ feed_answer k h₀ first
      first_is = p.0 ∙ ap (λ (x : Hash). feed_answer k x first) o.1

      state_is : g ≡ h₁
      state_is = p.1 ∙ ap (λ (x : Hash). feed_state k x first) o.1

      pub first_refused : not u ≡ true → Ended b out
      first_refused s =
          let d : is_done (feed_answer k h₀ first) ≡ false = ap is_done (sym first_is) ∙ stops du s in
          ended (ap (λ (r : Answer). result r out) first_is
          ∙ refused_outcome (feed_answer k h₀ first) (rest h₁ (second ∷ [])) (result (feed_answer k h₀ first) out) d
          ∙ opened_on opened_goes)

      module _ (su : not u ≡ false) {c : Answer} {f : Hash} (q : (c ≡ feed_answer k g second) × (f ≡ feed_state k g second)) {v : Bool} (dv : v ≡ is_done c) where
        first_goes : is_done (feed_answer k h₀ first) ≡ true
        first_goes = ap is_done (sym first_is) ∙ goes_on du su

        second_is : c ≡ feed_answer k h₁ second
        second_is = q.0 ∙ ap (λ (x : Hash). feed_answer k x second) state_is

        pub second_refused : not v ≡ true → Ended c out
        second_refused s =
            let d : is_done (feed_answer k h₁ second) ≡ false = ap is_done (sym second_is) ∙ stops dv s in
            ended (ap (λ (r : Answer). result r out) second_is
            ∙ refused_outcome (feed_answer k h₁ second) (finishes k out h₂) (result (feed_answer k h₁ second) out) d
            ∙ first_on first_goes ∙ opened_on opened_goes)

        -- finished with no bits of a last byte
        pub both_fed : not v ≡ false → (byte : ℕ) {r : Answer} {last : List ℕ}
            → (r ≡ finish_bits_answer k f 0 out) × (last ≡ finish_bits_out k f byte 0 out) → Ended r last
        both_fed s byte {r} {last} e =
            let d : is_done (feed_answer k h₁ second) ≡ true = ap is_done (sym second_is) ∙ goes_on dv s in
            let f_is : f ≡ h₂ = q.1 ∙ ap (λ (x : Hash). feed_state k x second) state_is in
            let z = no_bits k f byte out in
            let w : result r last ≡ finishes k out f = λ i. result ((e.0 ∙ z.0) i) ((e.1 ∙ z.1) i) in
            ended (w ∙ ap (finishes k out) f_is ∙ second_on d ∙ first_on first_goes ∙ opened_on opened_goes)
