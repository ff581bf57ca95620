-- The effect of a command is undone by the effect of the command that undoes it, and so is a run's.
use Rattle.std.specs.Prelude.{Ok, Err, Some, None}
use mathlib.Core.Path.{◌≡◌, refl, sym, ap, ◌∙◌}
use mathlib.Core.List.{List, [], reverse, reverse-reverse}
use Prim.Native.Nat.{ℕ, ◌<◌}
use lib.ListN.{length, set, length-set}
use lib.Seq.{get_or-set_same, get_or-set_other, set-get_or, set-set, set_comm}
use Rattle.invertible.specs.Invertible.{Invertible}
use Rattle.invertible.proofs.Invertible.{each, kept, reversal_undoes}
use Rattle.memory.specs.Bytes.{Bytes}
use Rattle.quasigroup.specs.Tables.{width_of}
use Rattle.quasigroup.specs.Product.{product}
use Rattle.quasigroup.specs.Division.{left_division, right_division}
use Rattle.quasigroup.specs.Vector.{Vector, reversed}
use Rattle.quasigroup.proofs.Vectors.{Undo, turn, reversed_undo}
use Rattle.quasigroup.proofs.Widths.{Bytewise, left_division_undoes, right_division_undoes}
use Rattle.quasigroup.proofs.InBytes.{vector_at_lem}
use Rattle.sheet.specs.declared.Places.{Places}
use Rattle.sheet.specs.declared.Command.{Command}
use Rattle.sheet.specs.declared.Command.TheVariants.{Lmul, Rmul, Ldiv, Rdiv, Swap, Flip, Kmul, Kdiv}
use Rattle.sheet.specs.Read.{Read, read_among}
use Rattle.sheet.specs.Sheet.{plan_among}
use Rattle.sheet.specs.Effect.{at, vector_at, effect, undone}
use Rattle.invertible.specs.RoundTrip.{Direction, Forward, Backward, other}
use Rattle.sheet.specs.Run.{order, step_with, step_among, steps_among, run_vectors_among}
use Rattle.sheet.specs.Sound.{SoundPlaces, SoundCommandAmong, SoundRead}
use Rattle.sheet.proofs.Sound.{read_sound}
use Rattle.sheet.proofs.Lent.{State, in_range, set_state}

-- ---- one vector changed

module _ {n w : ℕ} {v : List (List ℕ)} (st : State n w v) where
  -- f at place d, and then g there
  back : (f g : List ℕ → List ℕ) → Undo w f g → (d : ℕ) → d < n → set (set v d (f (at v d))) d (g (at (set v d (f (at v d))) d)) ≡ v
  back f g u d h =
      rw (get_or-set_same v d (f (at v d)) [] (in_range st h), u.left (at v d) (st.each d h), set-set v d (f (at v d)) (at v d)) (set-get_or v d [])

  -- the same where the step takes another place's vector
  back_by : (f g : List ℕ → List ℕ → List ℕ) → ((a : List ℕ) → Vector w a → Undo w (f a) (g a)) → (p : Places) → SoundPlaces n p
      → set (set v p.d (f (at v p.s) (at v p.d))) p.d
      (g (at (set v p.d (f (at v p.s) (at v p.d))) p.s) (at (set v p.d (f (at v p.s) (at v p.d))) p.d))
      ≡ v
  back_by f g u p h =
      rw (get_or-set_other v p.d p.s (f (at v p.s) (at v p.d)) [] h.apart)
      (back (f (at v p.s)) (g (at v p.s)) (u (at v p.s) (st.each p.s h.second)) p.d h.first)

  state_at : (f g : List ℕ → List ℕ) → Undo w f g → (d : ℕ) → d < n → State n w (set v d (f (at v d)))
  state_at f g u d h = set_state st d (f (at v d)) h (u.there (at v d) (st.each d h))

  state_by_lem : (f g : List ℕ → List ℕ → List ℕ) → ((a : List ℕ) → Vector w a → Undo w (f a) (g a)) → (p : Places) → SoundPlaces n p
      → State n w (set v p.d (f (at v p.s) (at v p.d)))
  state_by_lem f g u p h = state_at (f (at v p.s)) (g (at v p.s)) (u (at v p.s) (st.each p.s h.second)) p.d h.first

  swap_back : (p : Places) → SoundPlaces n p
      → set (set (set (set v p.d (at v p.s)) p.s (at v p.d)) p.d (at (set (set v p.d (at v p.s)) p.s (at v p.d)) p.s))
      p.s (at (set (set v p.d (at v p.s)) p.s (at v p.d)) p.d)
      ≡ v
  swap_back p h =
      let d = p.d in
      let s = p.s in
      let a = set v d (at v s) in
      let la : s < length a = rw (length-set v d (at v s)) (in_range st h.second) in
      rw (
        get_or-set_same a s (at v d) [] la,
        get_or-set_other a s d (at v d) [] (λ e. h.apart (sym e)),
        get_or-set_same v d (at v s) [] (in_range st h.first),
        set_comm a s d (at v d) (at v d) h.apart,
        set-set (set a d (at v d)) s (at v d) (at v s),
        set-set v d (at v s) (at v d),
        set-get_or v d [],
      )
      (set-get_or v s [])

-- ---- one command

pub sound_undone : (n w m : ℕ) (c : Command) → SoundCommandAmong n w m c → SoundCommandAmong n w m (undone c)
sound_undone n w m (Lmul p) h = h
sound_undone n w m (Rmul p) h = h
sound_undone n w m (Ldiv p) h = h
sound_undone n w m (Rdiv p) h = h
sound_undone n w m (Swap p) h = h
sound_undone n w m (Flip d) h = h
sound_undone n w m (Kmul d k) h = h
sound_undone n w m (Kdiv d k) h = h

pub undone_undone : (c : Command) → undone (undone c) ≡ c
undone_undone (Lmul p) = refl
undone_undone (Rmul p) = refl
undone_undone (Ldiv p) = refl
undone_undone (Rdiv p) = refl
undone_undone (Swap p) = refl
undone_undone (Flip d) = refl
undone_undone (Kmul d k) = refl
undone_undone (Kdiv d k) = refl

module _ (w : ℕ) (hw : Bytewise w) (s : List ℕ) (hs : Bytes s) where
  left_by : (k : ℕ) → Undo w (product (width_of w) (vector_at w s k)) (left_division (width_of w) (vector_at w s k))
  left_by k = left_division_undoes w hw (vector_at w s k) (vector_at_lem w hw s hs k)

  effect_state : {n : ℕ} {v : List (List ℕ)} → State n w v → (c : Command) → SoundCommandAmong n w (length s) c → State n w (effect w s c v)
  effect_state st (Lmul p) h = state_by_lem st (product (width_of w)) (left_division (width_of w)) (left_division_undoes w hw) p h
  effect_state st (Rmul p) h = state_by_lem st (λ a y. product (width_of w) y a) (λ a y. right_division (width_of w) y a) (right_division_undoes w hw) p h
  effect_state st (Ldiv p) h = state_by_lem st (left_division (width_of w)) (product (width_of w)) (λ a k. turn (left_division_undoes w hw a k)) p h
  effect_state st (Rdiv p) h = state_by_lem st (λ a y. right_division (width_of w) y a) (λ a y. product (width_of w) y a) (λ a k. turn (right_division_undoes w hw a k)) p h
  effect_state {v = v} st (Swap p) h =
      set_state (set_state st p.d (at v p.s) h.first (st.each p.s h.second)) p.s (at v p.d) h.second (st.each p.d h.first)
  effect_state st (Flip d) h = state_at st reversed reversed (reversed_undo w) d h
  effect_state st (Kmul d k) h = state_at st (product (width_of w) (vector_at w s k)) (left_division (width_of w) (vector_at w s k)) (left_by k) d h.place
  effect_state st (Kdiv d k) h = state_at st (left_division (width_of w) (vector_at w s k)) (product (width_of w) (vector_at w s k)) (turn (left_by k)) d h.place

  effect_back : {n : ℕ} {v : List (List ℕ)} → State n w v → (c : Command) → SoundCommandAmong n w (length s) c → effect w s (undone c) (effect w s c v) ≡ v
  effect_back st (Lmul p) h = back_by st (product (width_of w)) (left_division (width_of w)) (left_division_undoes w hw) p h
  effect_back st (Rmul p) h = back_by st (λ a y. product (width_of w) y a) (λ a y. right_division (width_of w) y a) (right_division_undoes w hw) p h
  effect_back st (Ldiv p) h = back_by st (left_division (width_of w)) (product (width_of w)) (λ a k. turn (left_division_undoes w hw a k)) p h
  effect_back st (Rdiv p) h = back_by st (λ a y. right_division (width_of w) y a) (λ a y. product (width_of w) y a) (λ a k. turn (right_division_undoes w hw a k)) p h
  effect_back st (Swap p) h = swap_back st p h
  effect_back st (Flip d) h = back st reversed reversed (reversed_undo w) d h
  effect_back st (Kmul d k) h = back st (product (width_of w) (vector_at w s k)) (left_division (width_of w) (vector_at w s k)) (left_by k) d h.place
  effect_back st (Kdiv d k) h = back st (left_division (width_of w) (vector_at w s k)) (product (width_of w) (vector_at w s k)) (turn (left_by k)) d h.place

  -- ---- commands as they are done in a direction

  with_state : {n : ℕ} {v : List (List ℕ)} → State n w v → (g : Direction) (i : ℕ) (r : Read) → SoundRead n w (length s) i r
      → State n w (step_with g w s r v)
  with_state st Forward i (Ok (Some d)) h = effect_state st d.command h.sound
  with_state {n} st Backward i (Ok (Some d)) h = effect_state st (undone d.command) (sound_undone n w (length s) d.command h.sound)
  with_state st g i (Err r) h = st
  with_state st g i (Ok None) h = st

  with_back : {n : ℕ} {v : List (List ℕ)} → State n w v → (g : Direction) (i : ℕ) (r : Read) → SoundRead n w (length s) i r
      → step_with (other g) w s r (step_with g w s r v) ≡ v
  with_back st Forward i (Ok (Some d)) h = effect_back st d.command h.sound
  with_back {n} st Backward i (Ok (Some d)) h =
      let c = d.command in
      rw (undone_undone c) at (effect_back st (undone c) (sound_undone n w (length s) c h.sound))
  with_back st g i (Err r) h = refl
  with_back st g i (Ok None) h = refl

  -- the step at an offset can be taken back
  pub invertible : (n : ℕ) (g : Direction) → Invertible (λ (i : ℕ). Unit {0}) (State n w) (step_among n g w s) (step_among n (other g) w s)
  invertible n g =
      record {
        keeps = λ i v _ st. with_state st g i (read_among n w s i) (read_sound n w s i);
        back = λ i v _ st. with_back st g i (read_among n w s i) (read_sound n w s i);
      }

  module _ {n : ℕ} {v : List (List ℕ)} (st : State n w v) where
    steps_back : (g : Direction) (l : List ℕ) → steps_among n (other g) w s (reverse l) (steps_among n g w s l v) ≡ v
    steps_back g l = reversal_undoes (invertible n g) (each (λ _. tt) l) v st

    -- a sheet's commands in one direction, and then in the other
    there_and_back : (g : Direction) (l : List ℕ) → steps_among n (other g) w s (order (other g) l) (steps_among n g w s (order g l) v) ≡ v
    there_and_back Forward l = steps_back Forward l
    there_and_back Backward l =
        ap (λ (m : List ℕ). steps_among n Forward w s m (steps_among n Backward w s (reverse l) v)) (sym (reverse-reverse l)) ∙ steps_back Backward (reverse l)

    -- a whole sheet
    pub run_state_lem : (g : Direction) → State n w (run_vectors_among n g w s v)
    run_state_lem g = kept (invertible n g) (each (λ _. tt) (order g (plan_among n w s).offsets)) v st

    pub run_back : (g : Direction) → run_vectors_among n (other g) w s (run_vectors_among n g w s v) ≡ v
    run_back g = there_and_back g (plan_among n w s).offsets
