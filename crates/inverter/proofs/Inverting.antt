-- The loop that writes an inverse sheet: what is still to be written, and where.
use Rattle.std.specs.Prelude.{Ok, Err, Some, None}
use mathlib.Core.Path.{◌≡◌, refl, sym, ap, ap₂, ◌∙◌}
use mathlib.Core.List.{List, [], ◌∷◌, ◌++◌, append_assoc, map, reverse, reverse-cons}
use Prim.Native.Nat.{ℕ, ◌+◌, ◌-◌, ◌≤◌}
use native.Mathlib.Omega.{arith}
use lib.ListN.{length, take, drop, length-append, length-drop}
use lib.Seq.{sets, sets-eq, length-sets, length-take-le, drop_at}
use Rattle.answer.specs.declared.Refusal.{Refusal}
use Rattle.memory.proofs.Lists.{front}
use Rattle.sheet.specs.declared.Command.{Command}
use Rattle.sheet.specs.declared.Decoded.{Decoded}
use Rattle.sheet.specs.Read.{Read, place_count, read_at}
use Rattle.sheet.specs.Sheet.{Sound, Plan, scan_from}
use Rattle.sheet.specs.Effect.{undone}
use Rattle.sheet.proofs.Scan.{plan_scanned}
use Rattle.sheet.proofs.Rest.{rest_got, rest_fault, rest_end}
use Rattle.sheet.proofs.Checked.{sound_short}
use Rattle.inverse.specs.Encoding.{Accepted, encoded, all_encoded, command_in, commands_at}
use Rattle.inverse.specs.Inverse.{inverse_sheet, inverse_written}
use Rattle.inverse.proofs.Lists.{flat_none, flat_more, flat_last}
use Rattle.inverse.proofs.Encoding.{reading_decodes, faithful_rest}
use Rattle.inverse.proofs.Inverts.{inverse_length, undoing_length}

-- b stored behind the place where a will end, and then a from the start: the two, one behind the other
stored_last : (l a b : List ℕ) (i : ℕ) → length a ≡ i → i + length b ≤ length l → sets (sets l i b) 0 a ≡ sets l 0 (a ++ b)
stored_last l a b i e h =
    let m = sets l i b in
    let lm : length m ≡ length l = length-sets l i b in
    let lab : length (a ++ b) ≡ i + length b = length-append a b ∙ ap (λ (n : ℕ). n + length b) e in
    let at : length (take i l) ≡ i = length-take-le i l (omega arith) in
    let behind : drop (length a) m ≡ b ++ drop (i + length b) l =
    ap₂ {C = List ℕ} drop e (sets-eq b l i h ∙ append_assoc (take i l) b (drop (i + length b) l)) ∙ drop_at (take i l) (b ++ drop (i + length b) l) i at in
    front m a (omega arith)
    ∙ ap (λ (r : List ℕ). a ++ r) behind
    ∙ sym (append_assoc a b (drop (i + length b) l))
    ∙ ap (λ (n : ℕ). (a ++ b) ++ drop n l) (sym lab)
    ∙ sym (front l (a ++ b) (omega arith))

module _ (w : ℕ) (s : List ℕ) where
  -- the commands from offset i on, and what undoes them
  abbrev rest : ℕ → List Command
  rest i = commands_at w s (scan_from (length s) w s i).offsets

  abbrev pub inverse_from : ℕ → List ℕ
  inverse_from i = all_encoded w s (reverse (map undone (rest i)))

  -- the rest of the sheet is sound
  abbrev pub SoundFrom : ℕ → Type 0
  SoundFrom i = (scan_from (length s) w s i).outcome ≡ Sound

  inverse_size : (i : ℕ) → SoundFrom i → length (inverse_from i) ≡ length s - i
  inverse_size i h = inverse_length w s (rest i) ∙ ap length (faithful_rest w s i h).bytes ∙ length-drop i s

  pub sound_start : Accepted w s → SoundFrom 0
  sound_start h = ap (λ (p : Plan). p.outcome) (plan_scanned place_count w s (sound_short w s h)) ∙ h

  -- out₀ is the output at the start, out as it is now, with what undoes the commands before i at the sheet's end
  pub record Inverting (out₀ out : List ℕ) (i : ℕ) : Type 0 where
    pub within : i ≤ length s
    pub sound : SoundFrom i
    pub room : length s ≤ length out
    pub same : length out ≡ length out₀
    pub stored : sets out 0 (inverse_from i) ≡ sets out₀ 0 (inverse_from 0)

  pub started : (out : List ℕ) → Accepted w s → length s ≤ length out → Inverting out out 0
  started out h r = record { within = omega arith; sound = sound_start h; room = r; same = refl; stored = refl }

  module _ (i : ℕ) (d : Decoded) (e : read_at w s i ≡ Ok (Some d)) where
    -- the bytes that undo the command at offset i
    abbrev here : List ℕ
    here = encoded w s (undone d.command)

    inverse_more : inverse_from i ≡ inverse_from d.next ++ here
    inverse_more =
        let l = (scan_from (length s) w s d.next).offsets in
        let f : rest i ≡ d.command ∷ rest d.next =
        ap (λ (p : Plan). commands_at w s p.offsets) (rest_got place_count w s i d e)
        ∙ flat_more (λ i. command_in (read_at w s i)) i l
        ∙ ap (λ (r : Read). command_in r ++ rest d.next) e in
        ap (λ (l : List Command). all_encoded w s (reverse (map undone l))) f
        ∙ ap (all_encoded w s) (reverse-cons (undone d.command) (map undone (rest d.next)))
        ∙ flat_last (encoded w s) (reverse (map undone (rest d.next))) (undone d.command)

    -- they are as many as the command's
    pub here_size : d.next ≤ length s → i ≤ d.next → length here ≡ d.next - i
    here_size within on =
        let c = encoded w s d.command in
        let whole : length (c ++ drop d.next s) ≡ length (drop i s) = ap length (reading_decodes w s i d e) in
        omega (arith, undoing_length w s d.command, length-append c (drop d.next s), length-drop d.next s, length-drop i s)

    -- the command that undoes it was written
    pub more : {out₀ out last : List ℕ} → Inverting out₀ out i → d.next ≤ length s → i ≤ d.next → {back : Command} → back ≡ undone d.command
        → last ≡ sets out (length s - d.next) (encoded w s back) → Inverting out₀ last d.next
    more {out = out} {last} now within on eb eo =
        let step = rest_got place_count w s i d e in
        let sound : SoundFrom d.next = sym (ap (λ (p : Plan). p.outcome) step) ∙ now.sound in
        let n = length s - d.next in
        let el : last ≡ sets out n here = eo ∙ ap (λ (c : Command). sets out n (encoded w s c)) eb in
        let size = ap length el ∙ length-sets out n here in
        let room = now.room in
        let fits : n + length here ≤ length out = omega (arith, here_size within on) in
        record {
          within = within;
          sound = sound;
          room = omega arith;
          same = size ∙ now.same;
          stored =
              ap (λ (l : List ℕ). sets l 0 (inverse_from d.next)) el
              ∙ stored_last out (inverse_from d.next) here n (inverse_size d.next sound) fits
              ∙ ap (sets out 0) (sym inverse_more)
              ∙ now.stored;
        }

  module _ {out₀ out : List ℕ} {i : ℕ} (now : Inverting out₀ out i) (h : Accepted w s) where
    pub ended : read_at w s i ≡ Ok None → out ≡ inverse_written w s out₀
    ended e =
        let none : inverse_from i ≡ [] =
        ap (λ (l : List ℕ). all_encoded w s (reverse (map undone (commands_at w s l)))) (rest_end place_count w s i e)
        ∙ ap (λ (l : List Command). all_encoded w s (reverse (map undone l))) (flat_none (λ i. command_in (read_at w s i)))
        ∙ flat_none (encoded w s) in
        let whole : inverse_from 0 ≡ inverse_sheet w s =
        ap (λ (p : Plan). all_encoded w s (reverse (map undone (commands_at w s p.offsets)))) (plan_scanned place_count w s (sound_short w s h)) in
        let start = inverse_size 0 (sound_start h) in
        let size : length (inverse_from 0) ≡ length s = omega arith in
        let room = now.room in
        let same = now.same in
        (rw none at now.stored) ∙ front out₀ (inverse_from 0) (omega arith) ∙ ap₂ {C = List ℕ} (λ (t : List ℕ) (n : ℕ). t ++ drop n out₀) whole size

    pub faulty : (r : Refusal) → read_at w s i ≡ Err r → out ≡ inverse_written w s out₀
    faulty r e =
        let o = sym (ap (λ (p : Plan). p.outcome) (rest_fault place_count w s i r e)) ∙ now.sound in
        let z : ◌≡◌ {A = ℕ} 0 1 = cc in
        absurd (omega arith)
