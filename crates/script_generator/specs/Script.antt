-- The script of a number (docs/formats/SCRIPT.md): 2000 steps, each with an SDU or none and a TTI,
-- and a handover before every 500th but the first. x is everywhere the number from which the next
-- draw is made.
use Rattle.std.specs.Prelude.{ℕ, zero, suc, ◌+◌, ◌*◌, ◌/◌, ◌%◌, ◌==◌, ◌&&◌, nat_lt, List, [], ◌++◌}
use Rattle.std.specs.Prelude.{replicate, codes, Option, None, Some, if◌then◌else◌}
use Rattle.std.specs.Int.{w128, to_be_bytes}
use Rattle.hex.specs.Hex.{encode_lower}
use Rattle.script_generator.specs.Draws.{seeded, next, drawn}

-- a number as a key: 32 hexadecimal digits
abbrev pub key : ℕ → List ℕ
key number = encode_lower (to_be_bytes w128 number)

-- the three keys behind so many
abbrev pub keys : ℕ → List ℕ
keys before = key (before + 1) ++ codes " " ++ key (before + 2) ++ codes " " ++ key (before + 3)

abbrev pub opening : List ℕ
opening = codes "harq 4\nkeys 2 " ++ keys 0 ++ codes "\nbearer 3 am maxretx=32\nbearer 4 um\n"

-- the handover before step i, with keys of its own
abbrev pub handover : ℕ → List ℕ
handover i = if nat_lt 0 i && i % 500 == 0 then codes "handover " ++ keys (3 * i / 500)
    ++ codes "\n" else []

-- how the line of a step's SDU begins, by a draw among 8: the bearer with acknowledgement each way,
-- or the other one down
abbrev pub sdu_front : ℕ → Option (List ℕ)
sdu_front kind =
    if nat_lt kind 2 then Some (codes "submit nb 3 ")
    else if kind == 2 then Some (codes "submit ue 3 ")
    else if kind == 3 then Some (codes "submit nb 4 ")
    else None

-- the SDU of step i: 1 to 1400 octets of one value
abbrev pub sdu : Option (List ℕ) → ℕ → ℕ → List ℕ
sdu None i x = []
sdu (Some front) i x = front ++ encode_lower (replicate (1 + drawn 1400 (next x)) (i % 256))
    ++ codes "\n"

-- only where there is an SDU, its size is drawn
abbrev pub after_sdu : Option (List ℕ) → ℕ → ℕ
after_sdu None x = x
after_sdu (Some front) x = next x

-- how a block comes over the air, by a draw among 10
abbrev pub outcome : ℕ → List ℕ
outcome kind = if kind == 0 then codes "bad" else if kind == 1 then codes "ok~" else codes "ok"

-- a TTI with 1500 octets each way, the uplink first
abbrev pub tti : ℕ → List ℕ
tti x = codes "tti 1500 " ++ outcome (drawn 10 (next x)) ++ codes " 1500 "
    ++ outcome (drawn 10 (next (next x))) ++ codes "\n"

-- the number before a step's TTI, from that before the step
abbrev pub at_tti : ℕ → ℕ
at_tti x = after_sdu (sdu_front (drawn 8 (next x))) (next x)

-- step i
unfoldable pub step : ℕ → ℕ → List ℕ
step i x = handover i ++ sdu (sdu_front (drawn 8 (next x))) i (next x) ++ tti (at_tti x)

unfoldable pub after_step : ℕ → ℕ
after_step x = next (next (at_tti x))

-- so many steps, the first of them step i
unfoldable pub steps : ℕ → ℕ → ℕ → List ℕ
steps zero i x = []
steps (suc n) i x = step i x ++ steps n (i + 1) (after_step x)

abbrev pub ending : List ℕ
ending = codes "drain 1500\nend\n"

-- the octets of the script of a number
unfoldable pub script : ℕ → List ℕ
script number = opening ++ steps 2000 0 (seeded number) ++ ending
