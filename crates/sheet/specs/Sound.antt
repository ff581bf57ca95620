-- What holds of a command that was read: its places are places, its K lies in the sheet, and it has bytes enough for its units. Of contracts, only
-- those of functions inside the kit cite this. n is the number of places; `SoundCommand` and `SoundDecoded` are at eight.
use Rattle.std.specs.Prelude.{◌≡◌, ℕ, ◌+◌, ◌*◌, ◌≤◌, ◌<◌, Ok, Err, Some, None}
use Rattle.sheet.specs.Read.{place_count, Read}
use Rattle.sheet.specs.declared.Places.{Places}
use Rattle.sheet.specs.declared.Command.{Command}
use Rattle.sheet.specs.declared.Command.TheVariants.{Lmul, Rmul, Ldiv, Rdiv, Swap, Flip, Kmul, Kdiv}
use Rattle.sheet.specs.declared.Decoded.{Decoded}

pub record SoundPlaces (n : ℕ) (p : Places) : Type 0 where
  pub first : p.d < n
  pub second : p.s < n
  pub apart : p.s ≡ p.d → ⊥

pub record SoundVector (n w m d k : ℕ) : Type 0 where
  pub place : d < n
  pub within : k + w ≤ m

-- of a command in a sheet of m bytes, at width w
abbrev pub SoundCommandAmong : ℕ → ℕ → ℕ → Command → Type 0
SoundCommandAmong n w m (Lmul p) = SoundPlaces n p
SoundCommandAmong n w m (Rmul p) = SoundPlaces n p
SoundCommandAmong n w m (Ldiv p) = SoundPlaces n p
SoundCommandAmong n w m (Rdiv p) = SoundPlaces n p
SoundCommandAmong n w m (Swap p) = SoundPlaces n p
SoundCommandAmong n w m (Flip d) = d < n
SoundCommandAmong n w m (Kmul d k) = SoundVector n w m d k
SoundCommandAmong n w m (Kdiv d k) = SoundVector n w m d k

abbrev pub SoundCommand : ℕ → ℕ → Command → Type 0
SoundCommand w m c = SoundCommandAmong place_count w m c

-- .. read at offset i: the offset behind it is further on, and in the sheet; it counts one unit at most, and where a K takes a byte or more, one that
-- counts takes three bytes or more
pub record SoundDecodedAmong (n w m i : ℕ) (d : Decoded) : Type 0 where
  pub sound : SoundCommandAmong n w m d.command
  pub on : i + 2 ≤ d.next
  pub within : d.next ≤ m
  pub few : d.units ≤ 1
  pub taken : 1 ≤ w → i + 3 * d.units ≤ d.next

abbrev pub SoundDecoded : ℕ → ℕ → ℕ → Decoded → Type 0
SoundDecoded w m i d = SoundDecodedAmong place_count w m i d

-- of what was read at offset i
abbrev pub SoundRead : ℕ → ℕ → ℕ → ℕ → Read → Type 0
SoundRead n w m i (Ok (Some d)) = SoundDecodedAmong n w m i d
SoundRead n w m i (Err r) = i < m
SoundRead n w m i (Ok None) = m ≤ i
