-- What stands at an offset of a sheet before its end, by the tests in their order.
use Rattle.std.specs.Prelude.{Err}
use mathlib.Core.Path.{◌≡◌}
use mathlib.Core.List.{List}
use mathlib.Core.Logic.{◌⊎◌, inl, inr}
use Prim.Native.Nat.{ℕ, ◌+◌, ◌-◌, ◌≤◌, ◌<◌}
use native.Mathlib.Omega.{arith}
use borrow.Author.Tests.{ne_eqb, eq-eqb, lt-leb, lt-ltb, le-ltb}
use lib.ListN.{length, get_or}
use Rattle.answer.specs.declared.Refusal.TheVariants.{Opcode, Truncated}
use Rattle.sheet.specs.declared.Places.{Places}
use Rattle.sheet.specs.Read.{size_of, two_places, one_place, read_among, read_at}

module _ (w : ℕ) (s : List ℕ) (i : ℕ) where
  pub no_opcode : i < length s → (get_or s i 0 ≡ 0) ⊎ ((get_or s i 0 ≡ 0 → ⊥) × (8 < get_or s i 0)) → Err Opcode ≡ read_at w s i
  unfolding read_among
  no_opcode m (inl h) = rw (lt-leb _ _ m, eq-eqb _ _ h)
  no_opcode m (inr h) = rw (lt-leb _ _ m, ne_eqb _ _ h.0, lt-ltb _ _ h.1)

  module _ (m : i < length s) (n : get_or s i 0 ≡ 0 → ⊥) (l : get_or s i 0 ≤ 8) (z : ℕ) (ez : z ≡ size_of w (get_or s i 0)) where
    pub truncated : length s - i < z → Err Truncated ≡ read_at w s i
    unfolding read_among
    truncated h =
        let k : length s < i + size_of w (get_or s i 0) = omega arith in
        rw (lt-leb _ _ m, ne_eqb _ _ n, le-ltb _ _ l, lt-ltb (length s) (i + size_of w (get_or s i 0)) k)

    module _ (h : z ≤ length s - i) where
      pub of_two : get_or s i 0 < 6 → (p : Places) → p.d ≡ get_or s (i + 1) 0 → p.s ≡ get_or s (i + 2) 0 → two_places (get_or s i 0) p (i + z) ≡ read_at w s i
      unfolding read_among
      of_two t p ed es =
          let k : i + size_of w (get_or s i 0) ≤ length s = omega arith in
          rw (ez, ed, es, lt-leb _ _ m, ne_eqb _ _ n, le-ltb _ _ l, le-ltb (length s) (i + size_of w (get_or s i 0)) k, lt-ltb _ _ t)

      pub of_one : 6 ≤ get_or s i 0 → (d : ℕ) → d ≡ get_or s (i + 1) 0 → one_place (get_or s i 0) d (i + 2) (i + z) ≡ read_at w s i
      unfolding read_among
      of_one t d ed =
          let k : i + size_of w (get_or s i 0) ≤ length s = omega arith in
          rw (ez, ed, lt-leb _ _ m, ne_eqb _ _ n, le-ltb _ _ l, le-ltb (length s) (i + size_of w (get_or s i 0)) k, le-ltb _ _ t)
