-- The inverse of an accepted sheet.
use Rattle.std.specs.Prelude.{Ok}
use mathlib.Core.Path.{◌≡◌, refl, sym, ap, ap₂, ◌∙◌}
use mathlib.Core.Bool.{Bool, true}
use mathlib.Core.List.{List, [], ◌∷◌, map, map-map, reverse, reverse-reverse, sum, sum-reverse, flat_map, Forall₂}
use Prim.Native.Nat.{ℕ, ◌+◌, ◌*◌, ◌≤◌, ◌<◌}
use native.Mathlib.Nat.{zero-add, add_assoc, add_comm}
use native.Mathlib.Omega.{arith}
use borrow.Author.Tests.{eq-eqb}
use lib.Dec.{leb}
use lib.ListN.{length, take, drop}
use lib.Seq.{take_at, drop_at}
use Rattle.answer.specs.Answer.{Answer}
use Rattle.answer.specs.declared.Refusal.TheVariants.{Output}
use Rattle.answer.specs.Refuse.{unless, is_done, outcome}
use Rattle.answer.proofs.Refuse.{done_outcome, unless_done}
use Rattle.invertible.specs.Invertible.{stepped, Each, none, more}
use Rattle.invertible.specs.RoundTrip.{Direction, Forward, Backward, other}
use Rattle.invertible.proofs.Invertible.{each, each_mapped, each_reverse, map_reverse, map_same, stepped_map, stepped_same}
use Rattle.memory.specs.Bytes.{Bytes}
use Rattle.memory.proofs.Bytes.{no_bytes, cons_bytes, append_bytes, take_bytes, drop_bytes}
use Rattle.sheet.specs.declared.Places.{Places}
use Rattle.sheet.specs.declared.Command.{Command}
use Rattle.sheet.specs.declared.Command.TheVariants.{Lmul, Rmul, Ldiv, Rdiv, Swap, Flip, Kmul, Kdiv}
use Rattle.sheet.specs.Units.{units}
use Rattle.sheet.specs.Read.{place_count}
use Rattle.sheet.specs.Sheet.{Sound, Plan, plan_of}
use Rattle.sheet.specs.Effect.{effect, undone}
use Rattle.sheet.specs.Work.{total_units}
use Rattle.sheet.specs.SheetAnswer.{sheet_answer_among}
use Rattle.sheet.specs.Run.{vectors_in, vector_bytes, run_vectors, run_answer, run_bytes}
use Rattle.sheet.specs.Sound.{SoundPlaces, SoundCommand}
use Rattle.sheet.proofs.Scan.{plan_scanned}
use Rattle.sheet.proofs.Enough.{steps_enough}
use Rattle.sheet.proofs.SheetAnswer.{passes, done_passed, refused_alike}
use Rattle.sheet.proofs.Checked.{sound_short}
use Rattle.sheet.proofs.Counting.{undone_alike}
use Rattle.sheet.proofs.Undoing.{sound_undone, undone_undone}
use Rattle.inverse.specs.Encoding.{Accepted, immediate, encoded, all_encoded, commands_of}
use Rattle.inverse.specs.Inverse.{inverse_sheet, inverse_written, room_answer, inverse_answer}
use Rattle.inverse.specs.Inverts.{UndoingBytes, SheetsInvert, RefusesAsRuns, SuccessWrites}
use Rattle.inverse.proofs.Lists.{flat_none, flat_more, flat_over, flat_length_reverse, flat_length_map, map_back}
use Rattle.inverse.proofs.Lists.{pairs_reverse, pairs_map, pairs_stepped, pairs_flat}
use Rattle.inverse.proofs.Encoding.{faithful}
use Rattle.inverse.proofs.Reading.{Alike, ReadAs, read_as}
use Rattle.inverse.proofs.Commands.{run_forward, run_backward, run_units_lem}

-- ---- the bytes of a command

-- an undoing command differs in the opcode alone
undoing : (w : ℕ) (s : List ℕ) (c : Command) → (drop 1 (encoded w s (undone c)) ≡ drop 1 (encoded w s c)) × (length (encoded w s (undone c)) ≡ length (encoded w s c))
undoing w s (Lmul p) = (refl, refl)
undoing w s (Rmul p) = (refl, refl)
undoing w s (Ldiv p) = (refl, refl)
undoing w s (Rdiv p) = (refl, refl)
undoing w s (Swap p) = (refl, refl)
undoing w s (Flip d) = (refl, refl)
undoing w s (Kmul d k) = (refl, refl)
undoing w s (Kdiv d k) = (refl, refl)

pub undoing_bytes : UndoingBytes
undoing_bytes w s c = (undoing w s c).0

pub undoing_length : (w : ℕ) (s : List ℕ) (c : Command) → length (encoded w s (undone c)) ≡ length (encoded w s c)
undoing_length w s c = (undoing w s c).1

-- what undoes commands is as long as they are
pub inverse_length : (w : ℕ) (s : List ℕ) (l : List Command) → length (all_encoded w s (reverse (map undone l))) ≡ length (all_encoded w s l)
inverse_length w s l = flat_length_reverse (encoded w s) (map undone l) ∙ flat_length_map (encoded w s) undone (undoing_length w s) l

module _ (w : ℕ) (s : List ℕ) (hs : Bytes s) where
  immediate_bytes : (k : ℕ) → Bytes (immediate w s k)
  immediate_bytes k = take_bytes w (drop k s) (drop_bytes k s hs)

  -- opcode, place and rest
  front_bytes : (b d : ℕ) (l : List ℕ) → b ≤ 8 → d < place_count → Bytes l → Bytes (b ∷ d ∷ l)
  front_bytes b d l e h k = cons_bytes b (d ∷ l) (omega arith) (cons_bytes d l (omega arith) k)

  two_bytes : (b : ℕ) (p : Places) → b ≤ 8 → SoundPlaces place_count p → Bytes (b ∷ p.d ∷ p.s ∷ [])
  two_bytes b p e h = front_bytes b p.d (p.s ∷ []) e h.first (cons_bytes p.s [] (omega (arith, h.second)) no_bytes)

  encoded_bytes : (c : Command) → SoundCommand w (length s) c → Bytes (encoded w s c)
  encoded_bytes (Lmul p) h = two_bytes 1 p (omega arith) h
  encoded_bytes (Rmul p) h = two_bytes 2 p (omega arith) h
  encoded_bytes (Ldiv p) h = two_bytes 3 p (omega arith) h
  encoded_bytes (Rdiv p) h = two_bytes 4 p (omega arith) h
  encoded_bytes (Swap p) h = two_bytes 5 p (omega arith) h
  encoded_bytes (Flip d) h = front_bytes 6 d [] (omega arith) h no_bytes
  encoded_bytes (Kmul d k) h = front_bytes 7 d (immediate w s k) (omega arith) h.place (immediate_bytes k)
  encoded_bytes (Kdiv d k) h = front_bytes 8 d (immediate w s k) (omega arith) h.place (immediate_bytes k)

  all_bytes : {l : List Command} → Each (SoundCommand w (length s)) l → Bytes (all_encoded w s l)
  all_bytes none = rw (flat_none (encoded w s)) no_bytes
  all_bytes (more {a = c} {l} h k) = rw (flat_more (encoded w s) c l) (append_bytes (encoded w s c) (all_encoded w s l) (encoded_bytes c h) (all_bytes k))

-- ---- an accepted sheet s, and its inverse t

module _ (w : ℕ) (s : List ℕ) (h : Accepted w s) where
  abbrev commands : List Command
  commands = commands_of w s

  abbrev back : List Command
  back = reverse (map undone commands)

  abbrev t : List ℕ
  t = inverse_sheet w s

  back_sound : Each (SoundCommand w (length s)) back
  back_sound = each_reverse (each_mapped undone (λ c k. sound_undone place_count w (length s) c k) (faithful w s h).sound)

  size : length t ≡ length s
  size = inverse_length w s commands ∙ ap length (faithful w s h).bytes

  read : ReadAs w s t 0 back
  read = read_as w s back_sound []

  plan : plan_of w t ≡ record { offsets = read.offsets; outcome = Sound }
  plan =
      let short : length t ≤ 4096 = rw size (sound_short w s h) in
      sym (plan_scanned place_count w t short) ∙ sym ((steps_enough place_count w t 0).only _ read.plan)

  accepted : Accepted w t
  accepted = ap (λ (p : Plan). p.outcome) plan

  alike : Forall₂ (Alike w s t) (commands_of w t) back
  alike = rw plan read.commands

  -- turned twice
  back_undone : reverse (map undone back) ≡ commands
  back_undone =
      ap reverse (map_reverse undone (map undone commands))
      ∙ reverse-reverse (map undone (map undone commands))
      ∙ map_back undone undone_undone commands

  inverse_bytes : (l : List Command) (u : List ℕ) → all_encoded w u (reverse (map undone l)) ≡ flat_map (λ c. encoded w u (undone c)) (reverse l)
  inverse_bytes l u = ap (all_encoded w u) (sym (map_reverse undone l)) ∙ flat_over (encoded w u) undone (reverse l)

  twice : inverse_sheet w t ≡ s
  twice =
      inverse_bytes (commands_of w t) t
      ∙ pairs_flat (λ a c k. k.bytes) (pairs_reverse alike)
      ∙ sym (inverse_bytes back s)
      ∙ ap (all_encoded w s) back_undone
      ∙ (faithful w s h).bytes

  -- what a run does
  vectors : (g : Direction) (v : List (List ℕ)) → run_vectors g w t v ≡ run_vectors (other g) w s v
  vectors Forward v =
      run_forward w t v
      ∙ pairs_stepped (λ a c k. k.effects Forward) alike v
      ∙ ap (λ (l : List Command). stepped (effect w s) l v) (sym (map_reverse undone commands))
      ∙ stepped_map (effect w s) undone (reverse commands) v
      ∙ sym (run_backward w s v)
  vectors Backward v =
      run_backward w t v
      ∙ pairs_stepped (λ a c k. k.effects Backward) (pairs_reverse alike) v
      ∙ ap (λ (l : List Command). stepped (λ c. effect w s (undone c)) l v) (reverse-reverse (map undone commands))
      ∙ stepped_map (λ c. effect w s (undone c)) undone commands v
      ∙ stepped_same (each (λ c v. ap (λ (a : Command). effect w s a v) (undone_undone c)) commands) v
      ∙ sym (run_forward w s v)

  -- .. and counts
  total : total_units w t (plan_of w t).offsets ≡ total_units w s (plan_of w s).offsets
  total =
      run_units_lem w t
      ∙ ap (sum ◌+◌ 0) (pairs_map (λ a c k. k.counted) alike ∙ map_reverse units (map undone commands))
      ∙ sum-reverse ◌+◌ 0 zero-add add_assoc add_comm (map units (map undone commands))
      ∙ ap (sum ◌+◌ 0) (map-map units undone commands ∙ map_same (each undone_alike commands))
      ∙ sym (run_units_lem w s)

  answer : (b : List ℕ) → run_answer w t b ≡ run_answer w s b
  unfolding sheet_answer_among
  answer b = rw (accepted, h, total)

  run : (g : Direction) (b : List ℕ) → run_bytes g w t b ≡ run_bytes (other g) w s b
  run g b = ap₂ {C = List ℕ} (λ (a : Answer) v. outcome a (vector_bytes w v) b) (answer b) (vectors g (vectors_in w b))

pub sheets_invert : SheetsInvert
sheets_invert w s h =
    record {
      size = size w s h;
      bytes = λ hs. all_bytes w s hs (back_sound w s h);
      accepted = accepted w s h;
      twice = twice w s h;
      answer = answer w s h;
      run = run w s h;
    }

-- ---- refusals

pub refuses_as_runs : RefusesAsRuns
refuses_as_runs w s b out size =
    let fit = eq-eqb (length b) (place_count * w) size in
    let done = Ok (total_units w s (plan_of w s).offsets) in
    let next = room_answer (length s) (length out) in
    record {
      refused = λ r i e. let f = rw fit at e in sym (refused_alike place_count w true s done next refl (ap is_done f)) ∙ f;
      done = λ n e. let f = rw fit at e in sym (passes place_count w true s next (done_passed place_count w true s done (ap is_done f)));
    }

-- ---- a success

pub success_writes : SuccessWrites
success_writes w s out d =
    let m = length s in
    let next = room_answer m (length out) in
    let p = done_passed place_count w true s next d in
    let room = sym (passes place_count w true s next p) in
    let fits = (unless_done (leb m (length out)) Output (Ok m) (sym (ap is_done room) ∙ d)).0 in
    let answered = room ∙ ap (λ (t : Bool). unless t Output (Ok m)) fits in
    let left = sym (done_outcome (inverse_answer w s out) (inverse_written w s out) out d) in
    let inv = inverse_sheet w s in
    record {
      accepted = p.sheet;
      answer = answered;
      first = ap (take m) left ∙ take_at inv (drop m out) m (size w s p.sheet);
      behind = ap (drop m) left ∙ drop_at inv (drop m out) m (size w s p.sheet);
    }
