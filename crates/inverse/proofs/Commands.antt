-- What a run does and counts, by its sheet's commands.
use Rattle.std.specs.Prelude.{Ok, Err, Some, None}
use mathlib.Core.Path.{◌≡◌, refl, sym, ap, ap₂, ◌∙◌}
use mathlib.Core.List.{List, [], ◌∷◌, ◌++◌, map, map-append, reverse, sum, sum-append}
use Prim.Native.Nat.{ℕ, ◌+◌}
use native.Mathlib.Nat.{zero-add, add_assoc}
use native.Mathlib.Omega.{arith}
use Rattle.invertible.specs.Invertible.{stepped}
use Rattle.invertible.specs.RoundTrip.{Direction, Forward, Backward}
use Rattle.sheet.specs.declared.Command.{Command}
use Rattle.sheet.specs.Read.{Read, place_count, read_at}
use Rattle.sheet.specs.Units.{units}
use Rattle.sheet.specs.Sheet.{plan_of}
use Rattle.sheet.specs.Effect.{effect}
use Rattle.sheet.specs.Work.{units_in, total_units}
use Rattle.sheet.specs.Run.{turned, step_with, step, steps, run_vectors}
use Rattle.sheet.proofs.Work.{units_none, units_more}
use Rattle.sheet.proofs.Counting.{reading_tells}
use Rattle.inverse.specs.Encoding.{command_in, commands_at, commands_of}
use Rattle.inverse.proofs.Lists.{flat_none, flat_more, flat_reverse}

module _ (w : ℕ) (s : List ℕ) where
  at_none : commands_at w s [] ≡ []
  at_none = flat_none (λ i. command_in (read_at w s i))

  at_more : (i : ℕ) (l : List ℕ) → commands_at w s (i ∷ l) ≡ command_in (read_at w s i) ++ commands_at w s l
  at_more = flat_more (λ i. command_in (read_at w s i))

  -- ---- effects

  abbrev doing : Direction → Command → List (List ℕ) → List (List ℕ)
  doing g c v = effect w s (turned g c) v

  step_command : (g : Direction) (r : Read) (l : List Command) (v : List (List ℕ)) → stepped (doing g) (command_in r ++ l) v ≡ stepped (doing g) l (step_with g w s r v)
  step_command g (Ok (Some d)) l v = refl
  step_command g (Err r) l v = refl
  step_command g (Ok None) l v = refl

  steps_commands : (g : Direction) (l : List ℕ) (v : List (List ℕ)) → steps g w s l v ≡ stepped (doing g) (commands_at w s l) v
  steps_commands g [] v = ap (λ (m : List Command). stepped (doing g) m v) (sym at_none)
  steps_commands g (i ∷ l) v =
      steps_commands g l (step g w s i v)
      ∙ sym (step_command g (read_at w s i) (commands_at w s l) v)
      ∙ ap (λ (m : List Command). stepped (doing g) m v) (sym (at_more i l))

  one_way : (r : Read) → reverse (command_in r) ≡ command_in r
  one_way (Ok (Some d)) = refl
  one_way (Err r) = refl
  one_way (Ok None) = refl

  pub run_forward : (v : List (List ℕ)) → run_vectors Forward w s v ≡ stepped (doing Forward) (commands_of w s) v
  run_forward v = steps_commands Forward (plan_of w s).offsets v

  pub run_backward : (v : List (List ℕ)) → run_vectors Backward w s v ≡ stepped (doing Backward) (reverse (commands_of w s)) v
  run_backward v =
      let l = (plan_of w s).offsets in
      steps_commands Backward (reverse l) v
      ∙ ap (λ (m : List Command). stepped (doing Backward) m v) (flat_reverse (λ i. command_in (read_at w s i)) (λ i. one_way (read_at w s i)) l)

  -- ---- units

  abbrev counted : List Command → ℕ
  counted l = sum ◌+◌ 0 (map units l)

  counted_none : 0 ≡ counted []
  unfolding sum
  counted_none = refl

  counted_read : (i : ℕ) (r : Read) → read_at w s i ≡ r → units_in r ≡ counted (command_in r)
  unfolding sum
  counted_read i (Ok (Some d)) e = omega (arith, (reading_tells w s i d e).of_command)
  counted_read i (Err r) e = refl
  counted_read i (Ok None) e = refl

  units_commands : (l : List ℕ) → total_units w s l ≡ counted (commands_at w s l)
  units_commands [] = units_none place_count w s ∙ counted_none ∙ ap counted (sym at_none)
  units_commands (i ∷ l) =
      units_more place_count w s i l
      ∙ ap₂ ◌+◌ (counted_read i (read_at w s i) refl) (units_commands l)
      ∙ sym (sum-append ◌+◌ 0 zero-add add_assoc (map units (command_in (read_at w s i))) (map units (commands_at w s l)))
      ∙ ap (sum ◌+◌ 0) (sym (map-append units (command_in (read_at w s i)) (commands_at w s l)))
      ∙ ap counted (sym (at_more i l))

  pub run_units_lem : total_units w s (plan_of w s).offsets ≡ counted (commands_of w s)
  run_units_lem = units_commands (plan_of w s).offsets
