-- The gaps in what arrives of a flow and in what it hands up.
use Rattle.std.specs.Prelude.{ℕ, ◌+◌, false, ◌||◌, ◌==◌, nat_le, nat_lt, max, if◌then◌else◌, List}
use Rattle.std.specs.Prelude.{[], ◌∷◌}
use Rattle.um_losses.specs.declared.gaps.Gaps.{Gaps}
use Rattle.um_losses.specs.Tags.{last_tag}

-- `width` is UM_Window_Size (TS 36.322 7.2), and `counts` how many sequence numbers PDCP has (TS
-- 36.323 6.2.3). `top` is one above the highest number that arrived in this life, and `next` one
-- above the last COUNT that was handed up in it.
abbrev pub no_gaps : ℕ → ℕ → Gaps
no_gaps width counts = record { width = width; counts = counts; top = 0; next = 0; long = false }

-- a PDU arrives: its gap is long where the number can't be told by its last bits
abbrev pub numbered : ℕ → Gaps → Gaps
numbered number g = record g {
  top = max g.top (number + 1);
  long = g.long || nat_le (g.top + g.width) number;
}

-- an SDU is handed up, with its tag: its gap is long where so many COUNTs are left out as there are
-- sequence numbers
abbrev pub counted : ℕ → Gaps → Gaps
counted tag g = if tag == 0 then g else record g {
  next = tag;
  long = g.long || nat_lt (g.next + g.counts) tag;
}

abbrev pub all_counted : List (List ℕ) → Gaps → Gaps
all_counted [] g = g
all_counted (sdu ∷ sdus) g = all_counted sdus (counted (last_tag sdu) g)

-- another life begins: a long gap isn't forgotten
abbrev pub restarted : Gaps → Gaps
restarted g = record g { top = 0; next = 0 }
