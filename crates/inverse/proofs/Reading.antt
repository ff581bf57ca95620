-- A command's bytes, wherever they stand, are read as that command; only its K stands elsewhere.
use mathlib.Core.Path.{◌≡◌, refl, sym, ap, subst, ◌∙◌}
use mathlib.Core.List.{List, [], ◌∷◌, ◌++◌, append_assoc, append-nil, Forall₂}
use Prim.Native.Nat.{ℕ, ◌+◌, ◌*◌, ◌/◌, ◌≤◌, ◌<◌}
use native.Mathlib.Omega.{arith}
use borrow.Author.Tests.{lt-leb, lt-ltb, le-ltb, ne_eqb}
use lib.ListN.{length, set, take, drop, length-append}
use lib.Seq.{get_or-append_seam, get_or-append-add, drop-append-add, take_at}
use Rattle.invertible.specs.Invertible.{Each, none, more}
use Rattle.invertible.specs.RoundTrip.{Direction, Forward, Backward}
use Rattle.memory.proofs.Bytes.{words_take, words_drop}
use Rattle.quasigroup.specs.Tables.{width_of}
use Rattle.quasigroup.specs.Product.{product}
use Rattle.quasigroup.specs.Division.{left_division}
use Rattle.sheet.specs.declared.Places.{Places}
use Rattle.sheet.specs.declared.Command.{Command}
use Rattle.sheet.specs.declared.Command.TheVariants.{Lmul, Rmul, Ldiv, Rdiv, Swap, Flip, Kmul, Kdiv}
use Rattle.sheet.specs.Read.{Read, place_count, size_of, got, two_place_command, one_place_command, two_places, one_place, read_among, read_at}
use Rattle.sheet.specs.Units.{units}
use Rattle.sheet.specs.Sheet.{Sound}
use Rattle.sheet.specs.Enough.{PlanFrom, at_command, at_end}
use Rattle.sheet.specs.Effect.{at, vector_at, effect, undone}
use Rattle.sheet.specs.Run.{turned}
use Rattle.sheet.specs.Sound.{SoundPlaces, SoundCommand}
use Rattle.sheet.proofs.Sound.{size_three}
use Rattle.sheet.proofs.Scan.{read_end}
use Rattle.inverse.specs.Encoding.{immediate, encoded, all_encoded, command_in, commands_at}
use Rattle.inverse.proofs.Lists.{flat_none, flat_more}
use Rattle.inverse.proofs.Encoding.{immediate_length}

-- ---- reading behind the bytes p

module _ (w : ℕ) (p : List ℕ) where
  read_two : (b : ℕ) → 1 ≤ b → b < 6 → (x : Places) (q : List ℕ)
      → read_at w (p ++ (b ∷ x.d ∷ x.s ∷ q)) (length p) ≡ two_places b x (length p + size_of w b)
  unfolding read_among
  read_two b z l x q =
      let r = b ∷ x.d ∷ x.s ∷ q in
      let size : size_of w b ≡ 3 = size_three w b l in
      let long : length (p ++ r) ≡ length p + length r = length-append p r in
      rw (
        get_or-append_seam p b (x.d ∷ x.s ∷ q) 0,
        lt-leb (length (p ++ r)) (length p) (omega arith),
        ne_eqb b 0 (λ e. omega arith),
        le-ltb 8 b (omega arith),
        le-ltb (length (p ++ r)) (length p + size_of w b) (omega arith),
        lt-ltb b 6 l,
        get_or-append-add p r 1 0,
        get_or-append-add p r 2 0,
      )

  read_one : (b : ℕ) → 6 ≤ b → b ≤ 8 → (d : ℕ) (q : List ℕ) → size_of w b ≤ 2 + length q
      → read_at w (p ++ (b ∷ d ∷ q)) (length p) ≡ one_place b d (length p + 2) (length p + size_of w b)
  unfolding read_among
  read_one b z l d q fits =
      let r = b ∷ d ∷ q in
      let long : length (p ++ r) ≡ length p + length r = length-append p r in
      rw (
        get_or-append_seam p b (d ∷ q) 0,
        lt-leb (length (p ++ r)) (length p) (omega arith),
        ne_eqb b 0 (λ e. omega arith),
        le-ltb 8 b l,
        le-ltb (length (p ++ r)) (length p + size_of w b) (omega arith),
        le-ltb b 6 z,
        get_or-append-add p r 1 0,
      )

two_sound : (b : ℕ) (x : Places) (next : ℕ) → SoundPlaces place_count x → two_places b x next ≡ got (two_place_command b x) next
two_sound b x next h = rw (lt-leb place_count x.d h.first, lt-leb place_count x.s h.second, ne_eqb x.d x.s (λ e. h.apart (sym e)))

one_sound : (b d k next : ℕ) → d < place_count → one_place b d k next ≡ got (one_place_command b d k) next
one_sound b d k next h = rw (lt-leb place_count d h)

-- ---- a command of the sheet s in another sheet t

-- the command, with its K at offset k
abbrev pub relocated : ℕ → Command → Command
relocated k (Lmul p) = Lmul p
relocated k (Rmul p) = Rmul p
relocated k (Ldiv p) = Ldiv p
relocated k (Rdiv p) = Rdiv p
relocated k (Swap p) = Swap p
relocated k (Flip d) = Flip d
relocated k (Kmul d j) = Kmul d k
relocated k (Kdiv d j) = Kdiv d k

-- K's words are those of its bytes
immediate_words : (w : ℕ) (s : List ℕ) (k : ℕ) → vector_at w (immediate w s k) 0 ≡ vector_at w s k
immediate_words w s k =
    let z : k + 0 ≡ k = omega arith in
    let eight : 0 + 8 * (w / 8) ≤ w = omega arith in
    words_take (w / 8) 8 w (drop k s) 0 eight ∙ words_drop (w / 8) 8 k s 0 ∙ ap (vector_at w s) z

module _ (w : ℕ) (s t : List ℕ) where
  -- K, if the command has one, stands at offset k of t
  abbrev ImmediateAt : ℕ → Command → Type 0
  ImmediateAt k (Lmul p) = Unit {0}
  ImmediateAt k (Rmul p) = Unit {0}
  ImmediateAt k (Ldiv p) = Unit {0}
  ImmediateAt k (Rdiv p) = Unit {0}
  ImmediateAt k (Swap p) = Unit {0}
  ImmediateAt k (Flip d) = Unit {0}
  ImmediateAt k (Kmul d j) = immediate w t k ≡ immediate w s j
  ImmediateAt k (Kdiv d j) = immediate w t k ≡ immediate w s j

  same_words_lem : (k j : ℕ) → immediate w t k ≡ immediate w s j → vector_at w t k ≡ vector_at w s j
  same_words_lem k j h = sym (immediate_words w t k) ∙ ap (λ (l : List ℕ). vector_at w l 0) h ∙ immediate_words w s j

  multiplied : (d k j : ℕ) → immediate w t k ≡ immediate w s j → (v : List (List ℕ)) → effect w t (Kmul d k) v ≡ effect w s (Kmul d j) v
  multiplied d k j h v = ap (λ (x : List ℕ). set v d (product (width_of w) x (at v d))) (same_words_lem k j h)

  divided : (d k j : ℕ) → immediate w t k ≡ immediate w s j → (v : List (List ℕ)) → effect w t (Kdiv d k) v ≡ effect w s (Kdiv d j) v
  divided d k j h v = ap (λ (x : List ℕ). set v d (left_division (width_of w) x (at v d))) (same_words_lem k j h)

  -- the command a of t does what the command c of s does, forward and backward; the command that undoes it has the same bytes; and it has the same units
  pub record Alike (a c : Command) : Type 0 where
    pub effects : (g : Direction) (v : List (List ℕ)) → effect w t (turned g a) v ≡ effect w s (turned g c) v
    pub bytes : encoded w t (undone a) ≡ encoded w s (undone c)
    pub counted : units a ≡ units c

  either_way : (a c : Command) → ((v : List (List ℕ)) → effect w t a v ≡ effect w s c v) → ((v : List (List ℕ)) → effect w t (undone a) v ≡ effect w s (undone c) v)
      → (g : Direction) (v : List (List ℕ)) → effect w t (turned g a) v ≡ effect w s (turned g c) v
  either_way a c f b Forward v = f v
  either_way a c f b Backward v = b v

  relocated_alike : (k : ℕ) (c : Command) → ImmediateAt k c → Alike (relocated k c) c
  relocated_alike k (Lmul p) h = record { effects = either_way (Lmul p) (Lmul p) (λ v. refl) (λ v. refl); bytes = refl; counted = refl }
  relocated_alike k (Rmul p) h = record { effects = either_way (Rmul p) (Rmul p) (λ v. refl) (λ v. refl); bytes = refl; counted = refl }
  relocated_alike k (Ldiv p) h = record { effects = either_way (Ldiv p) (Ldiv p) (λ v. refl) (λ v. refl); bytes = refl; counted = refl }
  relocated_alike k (Rdiv p) h = record { effects = either_way (Rdiv p) (Rdiv p) (λ v. refl) (λ v. refl); bytes = refl; counted = refl }
  relocated_alike k (Swap p) h = record { effects = either_way (Swap p) (Swap p) (λ v. refl) (λ v. refl); bytes = refl; counted = refl }
  relocated_alike k (Flip d) h = record { effects = either_way (Flip d) (Flip d) (λ v. refl) (λ v. refl); bytes = refl; counted = refl }
  relocated_alike k (Kmul d j) h =
      record {
        effects = either_way (Kmul d k) (Kmul d j) (multiplied d k j h) (divided d k j h);
        bytes = ap (λ (l : List ℕ). 8 ∷ d ∷ l) h;
        counted = refl;
      }
  relocated_alike k (Kdiv d j) h =
      record {
        effects = either_way (Kdiv d k) (Kdiv d j) (divided d k j h) (multiplied d k j h);
        bytes = ap (λ (l : List ℕ). 7 ∷ d ∷ l) h;
        counted = refl;
      }

-- ---- the bytes of a command of s, between p and q

module _ (w : ℕ) (s p q : List ℕ) where
  -- K, behind an opcode and a place
  immediate_stands : (b d k : ℕ) → k + w ≤ length s → immediate w (p ++ (b ∷ d ∷ (immediate w s k ++ q))) (length p + 2) ≡ immediate w s k
  immediate_stands b d k h =
      ap (take w) (drop-append-add p (b ∷ d ∷ (immediate w s k ++ q)) 2) ∙ take_at (immediate w s k) q w (immediate_length w s k h)

  immediate_fits : (k : ℕ) → k + w ≤ length s → w + 2 ≤ 2 + length (immediate w s k ++ q)
  immediate_fits k h = omega (arith, length-append (immediate w s k) q, immediate_length w s k h)

  abbrev ReadBack : Command → Type 0
  ReadBack c = read_at w (p ++ (encoded w s c ++ q)) (length p) ≡ got (relocated (length p + 2) c) (length p + length (encoded w s c))

  read_back : (c : Command) → SoundCommand w (length s) c → ReadBack c
  read_back (Lmul x) h = read_two w p 1 (omega arith) (omega arith) x q ∙ two_sound 1 x (length p + 3) h
  read_back (Rmul x) h = read_two w p 2 (omega arith) (omega arith) x q ∙ two_sound 2 x (length p + 3) h
  read_back (Ldiv x) h = read_two w p 3 (omega arith) (omega arith) x q ∙ two_sound 3 x (length p + 3) h
  read_back (Rdiv x) h = read_two w p 4 (omega arith) (omega arith) x q ∙ two_sound 4 x (length p + 3) h
  read_back (Swap x) h = read_two w p 5 (omega arith) (omega arith) x q ∙ two_sound 5 x (length p + 3) h
  read_back (Flip d) h = read_one w p 6 (omega arith) (omega arith) d q (omega arith) ∙ one_sound 6 d (length p + 2) (length p + 2) h
  read_back (Kmul d k) h =
      let e : length p + (w + 2) ≡ length p + length (encoded w s (Kmul d k)) = omega (arith, immediate_length w s k h.within) in
      read_one w p 7 (omega arith) (omega arith) d (immediate w s k ++ q) (immediate_fits k h.within)
      ∙ one_sound 7 d (length p + 2) (length p + (w + 2)) h.place
      ∙ ap (got (Kmul d (length p + 2))) e
  read_back (Kdiv d k) h =
      let e : length p + (w + 2) ≡ length p + length (encoded w s (Kdiv d k)) = omega (arith, immediate_length w s k h.within) in
      read_one w p 8 (omega arith) (omega arith) d (immediate w s k ++ q) (immediate_fits k h.within)
      ∙ one_sound 8 d (length p + 2) (length p + (w + 2)) h.place
      ∙ ap (got (Kdiv d (length p + 2))) e

  immediate_at : (c : Command) → SoundCommand w (length s) c → ImmediateAt w s (p ++ (encoded w s c ++ q)) (length p + 2) c
  immediate_at (Lmul x) h = tt
  immediate_at (Rmul x) h = tt
  immediate_at (Ldiv x) h = tt
  immediate_at (Rdiv x) h = tt
  immediate_at (Swap x) h = tt
  immediate_at (Flip d) h = tt
  immediate_at (Kmul d k) h = immediate_stands 7 d k h.within
  immediate_at (Kdiv d k) h = immediate_stands 8 d k h.within

-- ---- the bytes of commands of s, behind p

module _ (w : ℕ) (s : List ℕ) where
  -- the sheet t is read from offset i on as the commands l
  pub record ReadAs (t : List ℕ) (i : ℕ) (l : List Command) : Type 0 where
    pub offsets : List ℕ
    pub plan : PlanFrom place_count w t i (record { offsets = offsets; outcome = Sound })
    pub commands : Forall₂ (Alike w s t) (commands_at w t offsets) l

  read_more : (p : List ℕ) (c : Command) (q : List ℕ) (l : List Command) → SoundCommand w (length s) c
      → ReadAs (p ++ (encoded w s c ++ q)) (length (p ++ encoded w s c)) l → ReadAs (p ++ (encoded w s c ++ q)) (length p) (c ∷ l)
  read_more p c q l h rest =
      let e = encoded w s c in
      let t = p ++ (e ++ q) in
      let read = read_back w s p q c h in
      let on = rw (length-append p e) at rest.plan in
      let f : commands_at w t (length p ∷ rest.offsets) ≡ relocated (length p + 2) c ∷ commands_at w t rest.offsets =
      flat_more (λ i. command_in (read_at w t i)) (length p) rest.offsets ∙ ap (λ (r : Read). command_in r ++ commands_at w t rest.offsets) read in
      record {
        offsets = length p ∷ rest.offsets;
        plan = at_command read on;
        commands = rw f (Forall₂.cons (relocated_alike w s t (length p + 2) c (immediate_at w s p q c h)) rest.commands);
      }

  pub read_as : {l : List Command} → Each (SoundCommand w (length s)) l → (p : List ℕ) → ReadAs (p ++ all_encoded w s l) (length p) l
  read_as none p =
      let e : p ++ all_encoded w s [] ≡ p = ap (λ (r : List ℕ). p ++ r) (flat_none (encoded w s)) ∙ append-nil p in
      record {
        offsets = [];
        plan = at_end (read_end place_count w (p ++ all_encoded w s []) (length p) (omega (arith, ap length e)));
        commands = rw (flat_none (λ i. command_in (read_at w (p ++ all_encoded w s []) i))) Forall₂.nil;
      }
  read_as (more {a = c} {l} h k) p =
      let e = encoded w s c in
      let q = all_encoded w s l in
      let rest = subst (λ (t : List ℕ). ReadAs t (length (p ++ e)) l) (append_assoc p e q) (read_as k (p ++ e)) in
      subst (λ (r : List ℕ). ReadAs (p ++ r) (length p) (c ∷ l)) (sym (flat_more (encoded w s) c l)) (read_more p c q l h rest)
