-- Digests one behind the other: how long they are, and where each stands.
use mathlib.Core.Path.{◌≡◌, ap, ap₂, sym, ◌∙◌}
use mathlib.Core.List.{List, [], ◌∷◌, ◌++◌, append_assoc}
use Prim.Native.Nat.{ℕ, zero, suc, ◌+◌, ◌*◌, ◌/◌, ◌<◌}
use native.Mathlib.Nat.{zero-mul, suc-mul}
use native.Mathlib.Omega.{arith}
use lib.ListN.{length, get_or, take, length-append}
use lib.Seq.{take_at, drop-append-add}
use Rattle.memory.specs.Lists.{bytes_at}
use Rattle.digest.specs.Kind.{Known}
use Rattle.digest.specs.OneCall.{digest_for}
use Rattle.digest.proofs.Length.{digest_length}
use Rattle.batch.specs.Batch.{digests, digests_length}

module _ (n : ℕ) (known : Known n) where
  abbrev w : ℕ
  w = n / 8

  abbrev digest : List ℕ → List ℕ
  digest m = digest_for n m

  pub digests_length_lem : (ms : List (List ℕ)) → length (digests n ms) ≡ digests_length n (length ms)
  digests_length_lem [] = sym (zero-mul w)
  digests_length_lem (m ∷ ms) =
      length-append (digest m) (digests n ms) ∙ omega (arith, digest_length n m known, digests_length_lem ms, suc-mul (length ms) w)

  -- digest k, with any bytes behind all of them
  pub digest_at : (ms : List (List ℕ)) (k : ℕ) (l : List ℕ) → k < length ms → bytes_at w (digests n ms ++ l) (k * w) ≡ digest (get_or ms k [])
  digest_at [] k l h = absurd (omega arith)
  digest_at (m ∷ ms) zero l h =
      ap₂ {C = List ℕ} (λ i x. bytes_at w x i) (zero-mul w) (append_assoc (digest m) (digests n ms) l)
      ∙ take_at (digest m) (digests n ms ++ l) w (digest_length n m known)
  digest_at (m ∷ ms) (suc k) l h =
      let e : suc k * w ≡ length (digest m) + k * w = omega (arith, suc-mul k w, digest_length n m known) in
      ap₂ {C = List ℕ} (λ i x. bytes_at w x i) e (append_assoc (digest m) (digests n ms) l)
      ∙ ap (take w) (drop-append-add (digest m) (digests n ms ++ l) (k * w)) ∙ digest_at ms k l (omega arith)
