-- 001, section 1.4.2 and Table 2.6: a message in blocks of B bytes, and the iteration of a compression function f over them.
use Rattle.std.specs.Prelude.{List, ◌++◌, ℕ, zero, suc, ◌-◌, ◌*◌, ◌/◌, length, take, drop, replicate}

-- block i of s, counted from 0
abbrev pub block : ℕ → List ℕ → ℕ → List ℕ
block B s i = take B (drop (i * B) s)

-- the first n blocks of s, one after the other, from p on
abbrev pub iterated : {P : Type 0} → ℕ → (P → List ℕ → P) → ℕ → P → List ℕ → P
iterated B f zero p s = p
iterated B f (suc n) p s = f (iterated B f n p s) (block B s n)

-- all whole blocks of s
abbrev pub compressed : {P : Type 0} → ℕ → (P → List ℕ → P) → P → List ℕ → P
compressed B f p s = iterated B f (length s / B) p s

-- what is left of s behind them
abbrev pub rest : ℕ → List ℕ → List ℕ
rest B s = drop (length s / B * B) s

-- s with zeros behind it, to n bytes
abbrev pub filled : ℕ → List ℕ → List ℕ
filled n s = s ++ replicate (n - length s) 0

-- the last n bytes of s
abbrev pub last_bytes : ℕ → List ℕ → List ℕ
last_bytes n s = drop (length s - n) s
