-- The time of day.
use Rattle.std.specs.Prelude.{◌≡◌, ℕ, ◌+◌, ◌*◌, ◌/◌, ◌%◌, ◌<◌, List, ◌++◌, Some, None, codes, Option}
use Rattle.readable.specs.declared.time.TimeOfDay.{TimeOfDay}
use Rattle.readable.specs.Figures.{figures}

abbrev pub time_of_day : ℕ → TimeOfDay
time_of_day s = record { hours = s / 3600; minutes = s % 3600 / 60; seconds = s % 60 }

-- the time is that second of the day
pub record Tells (s : ℕ) (t : TimeOfDay) : Type 0 where
  pub sum : 3600 * t.hours + 60 * t.minutes + t.seconds ≡ s
  pub minutes : t.minutes < 60
  pub seconds : t.seconds < 60

-- hh:mm:ss
abbrev pub clock_text : TimeOfDay → List ℕ
clock_text t = figures 2 t.hours ++ (codes ":" ++ (figures 2 t.minutes ++ (codes ":" ++ figures 2 t.seconds)))

abbrev pub second_text : Option ℕ → List ℕ
second_text None = codes "--:--:--"
second_text (Some s) = clock_text (time_of_day s)

-- hh:mm:ss.nnnnnnnnn
abbrev pub moment_text : Option ℕ → ℕ → List ℕ
moment_text s nanos = second_text s ++ (codes "." ++ figures 9 nanos)

-- the same of a whole time, in nanoseconds past midnight
abbrev pub time_text : ℕ → List ℕ
time_text time = moment_text (Some (time / 1000000000)) (time % 1000000000)
