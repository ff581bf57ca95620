-- A record that goes by tiles.
use Rattle.std.specs.Prelude.{◌≡◌, ℕ, ◌*◌}

-- q words of k bytes each are a tile of 128 bytes, and a record of 64 words is so many whole tiles
pub record Tiled (k q : ℕ) : Type 0 where
  pub size : k * q ≡ 128
  pub count : ℕ
  pub whole : count * q ≡ 64
