-- A sheet that is accepted among p places means the same among n, where n is not less than p: it is read alike, and a run of it leaves the vectors behind
-- the first p.
use Rattle.std.specs.Prelude.{Ok, Err, Some, None}
use mathlib.Core.Path.{◌≡◌, refl, sym, ap, ap₂, ◌∙◌}
use mathlib.Core.Bool.{Bool, true, false, cond, ◌||◌}
use mathlib.Core.List.{List, [], ◌∷◌, ◌++◌, append_assoc, sum}
use Prim.Native.Nat.{ℕ, zero, suc, ◌+◌, ◌*◌, ◌/◌, ◌≤◌, ◌<◌}
use native.Mathlib.Nat.{zero-add, zero-mul, suc-mul, add-mul}
use native.Mathlib.Omega.{arith}
use borrow.Author.Tests.{leb-false, lt-leb, eq-eqb}
use lib.Dec.{eqb, leb, ltb}
use lib.ListN.{length, get_or, set, take, drop, length-set, length-drop, get_or-append}
use lib.Seq.{set-append_left, take_all, take_at, drop_at}
use Rattle.answer.specs.declared.Refusal.{Refusal}
use Rattle.answer.specs.declared.Refusal.TheVariants.{Sheet, Place, SamePlace}
use Rattle.answer.specs.Refuse.{is_done}
use Rattle.answer.proofs.Tests.{neither}
use Rattle.answer.proofs.Refuse.{done_outcome}
use Rattle.invertible.specs.Invertible.{Each, none, more, stepped}
use Rattle.invertible.proofs.Invertible.{each_map, each_reverse, map_same, stepped_same}
use Rattle.memory.specs.Bytes.{bytes_of, Bytes}
use Rattle.quasigroup.specs.Tables.{width_of}
use Rattle.quasigroup.specs.Product.{product}
use Rattle.quasigroup.specs.Division.{left_division, right_division}
use Rattle.quasigroup.specs.Vector.{reversed}
use Rattle.quasigroup.proofs.Widths.{Bytewise, bytewise}
use Rattle.sheet.specs.declared.Places.{Places}
use Rattle.sheet.specs.declared.Command.{Command}
use Rattle.sheet.specs.declared.Command.TheVariants.{Lmul, Rmul, Ldiv, Rdiv, Swap, Flip, Kmul, Kdiv}
use Rattle.sheet.specs.Read.{Read, size_of, got, two_place_command, two_places_among, one_place_command, one_place_among, read_among}
use Rattle.sheet.specs.Sheet.{Sound, Plan, refused, behind, continue, scan_among, plan_among}
use Rattle.sheet.specs.Effect.{at, vector_at, effect, undone}
use Rattle.sheet.specs.Work.{units_in, total_units_among}
use Rattle.invertible.specs.RoundTrip.{Direction, Forward, Backward}
use Rattle.sheet.specs.Run.{order, step_with, step_among, steps_among, vectors_from, vector_bytes}
use Rattle.sheet.specs.Run.{run_vectors_among, run_answer_among, run_bytes_among}
use Rattle.sheet.specs.Sound.{SoundPlaces, SoundCommandAmong, SoundRead}
use Rattle.sheet.specs.Compatible.{Compatible}
use Rattle.sheet.proofs.Sound.{read_sound}
use Rattle.sheet.proofs.SheetAnswer.{Passed, passes, done_passed}
use Rattle.sheet.proofs.Lent.{State, in_range, vectors_bytes, state_length, bytes_vectors_at, lent_state}
use Rattle.sheet.proofs.Undoing.{sound_undone, invertible, run_state_lem}

-- ---- reading

-- what is read among fewer places is read among more, but for a fault
abbrev Kept : Read → Read → Type 0
Kept (Ok (Some d)) r = r ≡ Ok (Some d)
Kept (Err f) r = Unit {0}
Kept (Ok None) r = r ≡ Ok None

kept_same : (r : Read) → Kept r r
kept_same (Ok (Some d)) = refl
kept_same (Err f) = tt
kept_same (Ok None) = refl

kept_by : (t : Bool) (a b c d : Read) → Kept a c → Kept b d → Kept (cond t a b) (cond t c d)
kept_by true a b c d h k = h
kept_by false a b c d h k = k

-- a test that refuses among more places refuses among fewer
kept_behind : (t u : Bool) (f : Refusal) (r : Read) → (t ≡ false → u ≡ false) → Kept (cond t (Err f) r) (cond u (Err f) r)
kept_behind true u f r h = tt
kept_behind false u f r h = rw (h refl) (kept_same r)

module _ (p n : ℕ) (few : p ≤ n) where
  below : (d : ℕ) → leb p d ≡ false → leb n d ≡ false
  below d e = lt-leb n d (omega (arith, leb-false p d e))

  both_below : (q : Places) → leb p q.d || leb p q.s ≡ false → leb n q.d || leb n q.s ≡ false
  both_below q e = let h = neither (leb p q.d) (leb p q.s) e in rw (below q.d h.0) (below q.s h.1)

  two_kept : (b : ℕ) (q : Places) (next : ℕ) → Kept (two_places_among p b q next) (two_places_among n b q next)
  two_kept b q next =
      let read = cond (eqb q.d q.s) (Err SamePlace) (got (two_place_command b q) next) in
      kept_behind (leb p q.d || leb p q.s) (leb n q.d || leb n q.s) Place read (both_below q)

  one_kept : (b d k next : ℕ) → Kept (one_place_among p b d k next) (one_place_among n b d k next)
  one_kept b d k next = kept_behind (leb p d) (leb n d) Place (got (one_place_command b d k) next) (below d)

  module _ (w : ℕ) (s : List ℕ) where
    read_kept : (i : ℕ) → Kept (read_among p w s i) (read_among n w s i)
    unfolding read_among
    read_kept i =
        let b = get_or s i 0 in
        kept_by (leb (length s) i) _ _ _ _ refl
        (kept_by (eqb b 0 || ltb 8 b) _ _ _ _ tt
        (kept_by (ltb (length s) (i + size_of w b)) _ _ _ _ tt
        (kept_by (ltb b 6) _ _ _ _ (two_kept b _ _) (one_kept b _ _ _))))

    -- the same is read at the offset i
    abbrev Alike : ℕ → Type 0
    Alike i = read_among n w s i ≡ read_among p w s i

    -- a plan among more places is the one among fewer, and the same is read at its offsets
    abbrev PlanAlike : Plan → Plan → Type 0
    PlanAlike now former = (now ≡ former) × Each Alike former.offsets

    scan_with : (f i : ℕ) (r q : Read) → read_among p w s i ≡ r → read_among n w s i ≡ q → Kept r q
        → ((j : ℕ) → (scan_among p f w s j).outcome ≡ Sound → PlanAlike (scan_among n f w s j) (scan_among p f w s j))
        → (continue r i (scan_among p f w s)).outcome ≡ Sound → PlanAlike (continue q i (scan_among n f w s)) (continue r i (scan_among p f w s))
    scan_with f i (Ok (Some d)) q er eq k rest e =
        let h = rest d.next e in
        (ap (λ (r : Read). continue r i (scan_among n f w s)) k ∙ ap (behind i) h.0, more (eq ∙ k ∙ sym er) h.1)
    scan_with f i (Err r) q er eq k rest e = let z : ◌≡◌ {A = ℕ} 0 1 = cc in absurd (omega arith)
    scan_with f i (Ok None) q er eq k rest e = (ap (λ (r : Read). continue r i (scan_among n f w s)) k, none)

    scan_alike : (f i : ℕ) → (scan_among p f w s i).outcome ≡ Sound → PlanAlike (scan_among n f w s i) (scan_among p f w s i)
    scan_alike zero i e = (refl, none)
    scan_alike (suc f) i e = scan_with f i (read_among p w s i) (read_among n w s i) refl refl (read_kept i) (scan_alike f) e

    plan_by : (t : Bool) (now former : Plan) → (former.outcome ≡ Sound → PlanAlike now former) → (cond t (refused Sheet 0) former).outcome ≡ Sound
        → PlanAlike (cond t (refused Sheet 0) now) (cond t (refused Sheet 0) former)
    plan_by true now former h e = (refl, none)
    plan_by false now former h e = h e

    plan_alike : (plan_among p w s).outcome ≡ Sound → PlanAlike (plan_among n w s) (plan_among p w s)
    unfolding plan_among
    plan_alike = plan_by (ltb 4096 (length s)) _ _ (scan_alike (length s) 0)

    -- ---- what is done at offsets where the same is read

    units_alike : {l : List ℕ} → Each Alike l → total_units_among n w s l ≡ total_units_among p w s l
    units_alike h = ap (sum ◌+◌ 0) (map_same (each_map (λ i e. ap units_in e) h))

    in_order : (g : Direction) {l : List ℕ} → Each Alike l → Each Alike (order g l)
    in_order Forward h = h
    in_order Backward h = each_reverse h

    steps_alike : (g : Direction) {l : List ℕ} → Each Alike l → (v : List (List ℕ)) → steps_among n g w s l v ≡ steps_among p g w s l v
    steps_alike g h v = stepped_same (each_map (λ i e v. ap (λ (r : Read). step_with g w s r v) e) h) v

-- ---- vectors behind those that a sheet works on

module _ {p w : ℕ} {u : List (List ℕ)} (st : State p w u) (t : List (List ℕ)) where
  one_front : (f : List ℕ → List ℕ) (d : ℕ) → d < p → set (u ++ t) d (f (at (u ++ t) d)) ≡ set u d (f (at u d)) ++ t
  one_front f d h = rw (get_or-append u t [] d (in_range st h)) (set-append_left u t d (f (at u d)) (in_range st h))

  two_front : (f : List ℕ → List ℕ → List ℕ) (q : Places) → SoundPlaces p q
      → set (u ++ t) q.d (f (at (u ++ t) q.s) (at (u ++ t) q.d)) ≡ set u q.d (f (at u q.s) (at u q.d)) ++ t
  two_front f q h = rw (get_or-append u t [] q.s (in_range st h.second)) (one_front (f (at u q.s)) q.d h.first)

  swap_front : (q : Places) → SoundPlaces p q
      → set (set (u ++ t) q.d (at (u ++ t) q.s)) q.s (at (u ++ t) q.d) ≡ set (set u q.d (at u q.s)) q.s (at u q.d) ++ t
  swap_front q h =
      let l : q.s < length (set u q.d (at u q.s)) = rw (length-set u q.d (at u q.s)) (in_range st h.second) in
      rw (
        get_or-append u t [] q.s (in_range st h.second),
        get_or-append u t [] q.d (in_range st h.first),
        set-append_left u t q.d (at u q.s) (in_range st h.first),
      )
      (set-append_left (set u q.d (at u q.s)) t q.s (at u q.d) l)

  effect_front : (s : List ℕ) (c : Command) → SoundCommandAmong p w (length s) c → effect w s c (u ++ t) ≡ effect w s c u ++ t
  effect_front s (Lmul q) h = two_front (product (width_of w)) q h
  effect_front s (Rmul q) h = two_front (λ a y. product (width_of w) y a) q h
  effect_front s (Ldiv q) h = two_front (left_division (width_of w)) q h
  effect_front s (Rdiv q) h = two_front (λ a y. right_division (width_of w) y a) q h
  effect_front s (Swap q) h = swap_front q h
  effect_front s (Flip d) h = one_front reversed d h
  effect_front s (Kmul d k) h = one_front (product (width_of w) (vector_at w s k)) d h.place
  effect_front s (Kdiv d k) h = one_front (left_division (width_of w) (vector_at w s k)) d h.place

  with_front : (s : List ℕ) (g : Direction) (i : ℕ) (r : Read) → SoundRead p w (length s) i r → step_with g w s r (u ++ t) ≡ step_with g w s r u ++ t
  with_front s Forward i (Ok (Some d)) h = effect_front s d.command h.sound
  with_front s Backward i (Ok (Some d)) h = effect_front s (undone d.command) (sound_undone p w (length s) d.command h.sound)
  with_front s g i (Err r) h = refl
  with_front s g i (Ok None) h = refl

module _ (w : ℕ) (hw : Bytewise w) (s : List ℕ) (hs : Bytes s) (p : ℕ) (t : List (List ℕ)) where
  steps_front : (g : Direction) (l : List ℕ) {u : List (List ℕ)} → State p w u → steps_among p g w s l (u ++ t) ≡ steps_among p g w s l u ++ t
  steps_front g [] st = refl
  steps_front g (i ∷ l) {u} st =
      ap (stepped (step_among p g w s) l) (with_front st t s g i (read_among p w s i) (read_sound p w s i))
      ∙ steps_front g l ((invertible w hw s hs p g).keeps i u tt st)

-- ---- the lent bytes

vectors_split : (w p r : ℕ) (b : List ℕ) (i : ℕ) → vectors_from w (p + r) b i ≡ vectors_from w p b i ++ vectors_from w r b (i + p * w)
unfolding vectors_from
vectors_split w zero r b i =
    let e : i ≡ i + 0 * w = omega (arith, zero-mul w) in
    ap (λ (n : ℕ). vectors_from w n b i) (zero-add r) ∙ ap (vectors_from w r b) e
vectors_split w (suc p) r b i =
    let n : suc p + r ≡ suc (p + r) = omega arith in
    let e : i + w + p * w ≡ i + suc p * w = omega (arith, suc-mul p w) in
    ap (λ (n : ℕ). vectors_from w n b i) n
    ∙ ap (λ (v : List (List ℕ)). vector_at w b i ∷ v)
    (vectors_split w p r b (i + w) ∙ ap (λ (j : ℕ). vectors_from w p b (i + w) ++ vectors_from w r b j) e)

bytes_append : (w : ℕ) (u t : List (List ℕ)) → vector_bytes w (u ++ t) ≡ vector_bytes w u ++ vector_bytes w t
bytes_append w [] t = refl
bytes_append w (x ∷ u) t =
    ap (λ (l : List ℕ). bytes_of (w / 8) x ++ l) (bytes_append w u t) ∙ sym (append_assoc (bytes_of (w / 8) x) (vector_bytes w u) (vector_bytes w t))

module _ (p r w : ℕ) (hw : Bytewise w) (b : List ℕ) (hb : Bytes b) (size : length b ≡ (p + r) * w) where
  room : p * w + r * w ≡ length b
  room = sym (size ∙ add-mul p r w)

  front_bytes : vector_bytes w (vectors_from w p b 0) ≡ take (p * w) b
  front_bytes = bytes_vectors_at w hw b hb p 0 (omega (arith, room))

  -- the vectors in the first bytes are the first vectors
  front_vectors : vectors_from w p (take (p * w) b) 0 ≡ vectors_from w p b 0
  front_vectors =
      ap (λ (l : List ℕ). vectors_from w p l 0) (sym front_bytes) ∙ vectors_bytes w hw (vectors_from w p b 0) (lent_state w hw b hb p)

  other_bytes_lem : vector_bytes w (vectors_from w r b (0 + p * w)) ≡ drop (p * w) b
  other_bytes_lem =
      let z : 0 + p * w ≡ p * w = omega arith in
      let l : length (drop (p * w) b) ≤ r * w = omega (arith, length-drop (p * w) b, room) in
      ap (λ (i : ℕ). vector_bytes w (vectors_from w r b i)) z
      ∙ bytes_vectors_at w hw b hb r (p * w) (omega (arith, room))
      ∙ take_all (r * w) (drop (p * w) b) l

  -- ---- a run

  module _ (g : Direction) (s : List ℕ) (hs : Bytes s) (sound : (plan_among p w s).outcome ≡ Sound) where
    alike : PlanAlike p (p + r) (omega arith) w s (plan_among (p + r) w s) (plan_among p w s)
    alike = plan_alike p (p + r) (omega arith) w s sound

    state : State p w (vectors_from w p b 0)
    state = lent_state w hw b hb p

    run_front : run_vectors_among (p + r) g w s (vectors_from w (p + r) b 0)
        ≡ run_vectors_among p g w s (vectors_from w p b 0) ++ vectors_from w r b (0 + p * w)
    run_front =
        let l = (plan_among p w s).offsets in
        let t = vectors_from w r b (0 + p * w) in
        ap₂ {C = List (List ℕ)} (λ (q : Plan) v. steps_among (p + r) g w s (order g q.offsets) v) alike.0 (vectors_split w p r b 0)
        ∙ steps_alike p (p + r) (omega arith) w s g (in_order p (p + r) (omega arith) w s g alike.1) (vectors_from w p b 0 ++ t)
        ∙ steps_front w hw s hs p t g (order g l) state

    -- the bytes of the first vectors afterwards, and of the others
    bytes_after : vector_bytes w (run_vectors_among (p + r) g w s (vectors_from w (p + r) b 0))
        ≡ vector_bytes w (run_vectors_among p g w s (vectors_from w p (take (p * w) b) 0)) ++ drop (p * w) b
    bytes_after =
        ap (vector_bytes w) run_front
        ∙ bytes_append w (run_vectors_among p g w s (vectors_from w p b 0)) (vectors_from w r b (0 + p * w))
        ∙ ap₂ {C = List ℕ} (λ (v : List (List ℕ)) (o : List ℕ). vector_bytes w (run_vectors_among p g w s v) ++ o) (sym front_vectors) other_bytes_lem

    length_after : length (vector_bytes w (run_vectors_among p g w s (vectors_from w p (take (p * w) b) 0))) ≡ p * w
    length_after =
        ap (λ (v : List (List ℕ)). length (vector_bytes w (run_vectors_among p g w s v))) front_vectors
        ∙ state_length w hw (run_vectors_among p g w s (vectors_from w p b 0)) (run_state_lem w hw s hs state g)

module _ (p r : ℕ) (g : Direction) (w : ℕ) (s b : List ℕ) (hs : Bytes s) (hb : Bytes b) (size : length b ≡ (p + r) * w)
    (done : is_done (run_answer_among p w s (take (p * w) b)) ≡ true) where
  passed : Passed p w (eqb (length (take (p * w) b)) (p * w)) s
  passed = done_passed p w _ s _ done

  width : Bytewise w
  width = bytewise w passed.width

  -- the run among all places is done too, and answers the same
  same_answer : run_answer_among (p + r) w s b ≡ run_answer_among p w s (take (p * w) b)
  same_answer =
      let h = plan_alike p (p + r) (omega arith) w s passed.sheet in
      let whole : Passed (p + r) w (eqb (length b) ((p + r) * w)) s =
      record { width = passed.width; operands = eq-eqb (length b) ((p + r) * w) size; sheet = ap (λ (q : Plan). q.outcome) h.0 ∙ passed.sheet } in
      sym (passes (p + r) w _ s _ whole)
      ∙ ap (λ (q : Plan). Ok (total_units_among (p + r) w s q.offsets)) h.0
      ∙ ap Ok (units_alike p (p + r) (omega arith) w s h.1)
      ∙ passes p w _ s _ passed

  -- the bytes afterwards: those that the run among p places leaves of the first, and the others as they were
  after : run_bytes_among (p + r) g w s b ≡ run_bytes_among p g w s (take (p * w) b) ++ drop (p * w) b
  after =
      let f = take (p * w) b in
      let new = vector_bytes w (run_vectors_among p g w s (vectors_from w p f 0)) in
      sym (done_outcome (run_answer_among (p + r) w s b) _ b (ap is_done same_answer ∙ done))
      ∙ bytes_after p r w width b hb size g s hs passed.sheet
      ∙ ap (λ (l : List ℕ). l ++ drop (p * w) b) (done_outcome (run_answer_among p w s f) new f done)

  first_length : length (run_bytes_among p g w s (take (p * w) b)) ≡ p * w
  first_length =
      let f = take (p * w) b in
      let new = vector_bytes w (run_vectors_among p g w s (vectors_from w p f 0)) in
      ap length (sym (done_outcome (run_answer_among p w s f) new f done)) ∙ length_after p r w width b hb size g s hs passed.sheet

  first_bytes_lem : take (p * w) (run_bytes_among (p + r) g w s b) ≡ run_bytes_among p g w s (take (p * w) b)
  first_bytes_lem = ap (take (p * w)) after ∙ take_at (run_bytes_among p g w s (take (p * w) b)) (drop (p * w) b) (p * w) first_length

  others_stay : drop (p * w) (run_bytes_among (p + r) g w s b) ≡ drop (p * w) b
  others_stay = ap (drop (p * w)) after ∙ drop_at (run_bytes_among p g w s (take (p * w) b)) (drop (p * w) b) (p * w) first_length

pub compatible : Compatible
compatible =
    record {
      reading = λ w s e. let h = plan_alike 4 8 (omega arith) w s e in record { plan = h.0; commands = rw h.0 h.1 };
      running = λ g w s b hs hb size done.
          record {
            answer = same_answer 4 4 g w s b hs hb size done;
            first = first_bytes_lem 4 4 g w s b hs hb size done;
            others = others_stay 4 4 g w s b hs hb size done;
          };
    }
