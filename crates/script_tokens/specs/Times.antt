-- Times of day.
use Rattle.std.specs.Prelude.{ℕ, ◌+◌, ◌*◌, ◌/◌}

-- the first frame of the day that begins at this second or after it: a frame takes 24 ms, so three seconds have 125
abbrev pub frame_at : ℕ → ℕ
frame_at second = (125 * second + 2) / 3
