-- COUNT: the HFN above the bits of the SN (TS 36.323 6.3.5).
use Rattle.std.specs.Prelude.{ℕ, ◌+◌, ◌*◌, ◌^◌}
use Rattle.l2_num.specs.declared.count.Count.{Count}

-- a COUNT as one number
abbrev pub whole_of : Count → ℕ
whole_of c = c.hfn * 2 ^ c.bits + c.sn
