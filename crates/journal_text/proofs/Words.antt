-- The words that name something: read back from their text, in which no space stands.
use Rattle.std.proofs.Common.{◌≡◌, ◌<◌, ℕ, zero, suc, Bool, true, false, Option, Some, None, Ok, refl, arith}
use Rattle.std.specs.Fmt.{decimal}
use Rattle.l2_types.specs.declared.side.Side.{Side}
use Rattle.l2_types.specs.declared.side.Side.TheVariants as sides
use Rattle.l2_types.specs.declared.event.Clock.{Clock}
use Rattle.l2_types.specs.declared.event.Clock.TheVariants as clocks
use Rattle.l2_types.specs.declared.event.How.{How}
use Rattle.l2_types.specs.declared.event.How.TheVariants as hows
use Rattle.l2_types.specs.declared.event.Waits.{Waits}
use Rattle.l2_types.specs.declared.event.Waits.TheVariants as waits
use Rattle.l2_types.specs.declared.event.Lost.{Lost}
use Rattle.l2_types.specs.declared.event.Lost.TheVariants as losts
use Rattle.mac_pdu.specs.declared.item.Direction.{Direction}
use Rattle.mac_pdu.specs.declared.item.Direction.TheVariants as directions
use Rattle.air_record.specs.declared.record.Arrived.{Arrived}
use Rattle.air_record.specs.declared.record.Arrived.TheVariants as arriveds
use Rattle.air_record.specs.declared.record.NoPlace.{NoPlace}
use Rattle.air_record.specs.declared.record.NoPlace.TheVariants as places
use Rattle.air_record.specs.declared.record.State.{State}
use Rattle.air_record.specs.declared.record.State.TheVariants as states
use Rattle.mac_pdu.specs.declared.fault.MacWhy.{MacWhy}
use Rattle.mac_pdu.specs.declared.fault.MacWhy.TheVariants as macs
use Rattle.rlc_pdu.specs.declared.fault.RlcWhy.{RlcWhy}
use Rattle.rlc_pdu.specs.declared.fault.RlcWhy.TheVariants as rlcs
use Rattle.pdcp_pdu.specs.declared.pdu.PdcpWhy.{PdcpWhy}
use Rattle.pdcp_pdu.specs.declared.pdu.PdcpWhy.TheVariants as pdcps
use Rattle.air_record.specs.Text.{side_text, clock_text, how_text, waits_text, lost_text, direction_text}
use Rattle.air_record.specs.Text.{arrived_text, place_text, state_text, fresh_text, heard_text, bit_text}
use Rattle.air_record.specs.Text.{framing_text, mac_number, rlc_number, pdcp_number}
use Rattle.journal_text.specs.Names.{side_of, clock_of, how_of, waits_of, lost_of, direction_of, arrived_of}
use Rattle.journal_text.specs.Names.{place_of, state_of, fresh_of, heard_of, bit_of, framing_of, mac_why_of}
use Rattle.journal_text.specs.Names.{rlc_why_of, pdcp_why_of}
use Rattle.journal_text.proofs.Cuts.{is_free}
use Rattle.journal_text.proofs.Numbers.{number-back, free-number}

pub side-back : (c : Side) → side_of (side_text c) ≡ Ok c
unfolding side_of
side-back sides.Ue = refl
side-back sides.Nb = refl

pub side-free : (c : Side) → is_free 32 (side_text c) ≡ true
side-free sides.Ue = refl
side-free sides.Nb = refl

pub clock-back : (c : Clock) → clock_of (clock_text c) ≡ Ok c
unfolding clock_of
clock-back clocks.Poll = refl
clock-back clocks.Reorder = refl
clock-back clocks.Prohibit = refl

pub clock-free : (c : Clock) → is_free 32 (clock_text c) ≡ true
clock-free clocks.Poll = refl
clock-free clocks.Reorder = refl
clock-free clocks.Prohibit = refl

pub how-back : (c : How) → how_of (how_text c) ≡ Ok c
unfolding how_of
how-back hows.Tm = refl
how-back hows.New = refl
how-back hows.Re = refl
how-back hows.Status = refl

pub how-free : (c : How) → is_free 32 (how_text c) ≡ true
how-free hows.Tm = refl
how-free hows.New = refl
how-free hows.Re = refl
how-free hows.Status = refl

pub waits-back : (c : Waits) → waits_of (waits_text c) ≡ Ok c
unfolding waits_of
waits-back waits.Stopped = refl
waits-back waits.Shut = refl
waits-back waits.Held = refl
waits-back waits.Small = refl

pub waits-free : (c : Waits) → is_free 32 (waits_text c) ≡ true
waits-free waits.Stopped = refl
waits-free waits.Shut = refl
waits-free waits.Held = refl
waits-free waits.Small = refl

pub lost-back : (c : Lost) → lost_of (lost_text c) ≡ Ok c
unfolding lost_of
lost-back losts.NoBearer = refl
lost-back losts.Repeat = refl
lost-back losts.Outside = refl
lost-back losts.Clash = refl
lost-back losts.Old = refl
lost-back losts.Range = refl
lost-back losts.Ignored = refl
lost-back losts.Handover = refl
lost-back losts.Loop = refl
lost-back losts.Report = refl

pub lost-free : (c : Lost) → is_free 32 (lost_text c) ≡ true
lost-free losts.NoBearer = refl
lost-free losts.Repeat = refl
lost-free losts.Outside = refl
lost-free losts.Clash = refl
lost-free losts.Old = refl
lost-free losts.Range = refl
lost-free losts.Ignored = refl
lost-free losts.Handover = refl
lost-free losts.Loop = refl
lost-free losts.Report = refl

pub direction-back : (c : Direction) → direction_of (direction_text c) ≡ Ok c
unfolding direction_of
direction-back directions.Down = refl
direction-back directions.Up = refl

pub direction-free : (c : Direction) → is_free 32 (direction_text c) ≡ true
direction-free directions.Down = refl
direction-free directions.Up = refl

pub arrived-back : (c : Arrived) → arrived_of (arrived_text c) ≡ Ok c
unfolding arrived_of
arrived-back arriveds.Got = refl
arrived-back arriveds.Dup = refl
arrived-back arriveds.Bad = refl
arrived-back arriveds.Nothing = refl

pub arrived-free : (c : Arrived) → is_free 32 (arrived_text c) ≡ true
arrived-free arriveds.Got = refl
arrived-free arriveds.Dup = refl
arrived-free arriveds.Bad = refl
arrived-free arriveds.Nothing = refl

pub place-back : (c : NoPlace) → place_of (place_text c) ≡ Ok c
unfolding place_of
place-back places.Full = refl
place-back places.Count = refl

pub place-free : (c : NoPlace) → is_free 32 (place_text c) ≡ true
place-free places.Full = refl
place-free places.Count = refl

pub state-back : (c : State) → state_of (state_text c) ≡ Ok c
unfolding state_of
state-back states.Ok = refl
state-back states.Failed = refl
state-back states.Short = refl
state-back states.Long = refl

pub state-free : (c : State) → is_free 32 (state_text c) ≡ true
state-free states.Ok = refl
state-free states.Failed = refl
state-free states.Short = refl
state-free states.Long = refl

pub fresh-back : (c : Bool) → fresh_of (fresh_text c) ≡ Ok c
unfolding fresh_of
fresh-back true = refl
fresh-back false = refl

pub fresh-free : (c : Bool) → is_free 32 (fresh_text c) ≡ true
fresh-free true = refl
fresh-free false = refl

pub bit-back : (c : Bool) → bit_of (bit_text c) ≡ Ok c
unfolding bit_of
bit-back true = refl
bit-back false = refl

pub bit-free : (c : Bool) → is_free 32 (bit_text c) ≡ true
bit-free true = refl
bit-free false = refl

pub heard-back : (c : Option Bool) → heard_of (heard_text c) ≡ Ok c
unfolding heard_of
heard-back None = refl
heard-back (Some true) = refl
heard-back (Some false) = refl

pub heard-free : (c : Option Bool) → is_free 32 (heard_text c) ≡ true
heard-free None = refl
heard-free (Some true) = refl
heard-free (Some false) = refl

pub framing-back : (fi : ℕ) → fi < 4 → framing_of (framing_text fi) ≡ Ok fi
unfolding framing_of
framing-back zero h = refl
framing-back (suc zero) h = refl
framing-back (suc (suc zero)) h = refl
framing-back (suc (suc (suc zero))) h = refl
framing-back (suc (suc (suc (suc n)))) h = absurd (omega (arith, h))

pub framing-free : (fi : ℕ) → fi < 4 → is_free 32 (framing_text fi) ≡ true
framing-free zero h = refl
framing-free (suc zero) h = refl
framing-free (suc (suc zero)) h = refl
framing-free (suc (suc (suc zero))) h = refl
framing-free (suc (suc (suc (suc n)))) h = absurd (omega (arith, h))

pub mac-why-back : (c : MacWhy) → mac_why_of (decimal (mac_number c)) ≡ Ok c
unfolding mac_why_of
mac-why-back macs.Short = rw (number-back 1 (omega arith)) refl
mac-why-back macs.ReservedLcid = rw (number-back 2 (omega arith)) refl
mac-why-back macs.LengthPast = rw (number-back 3 (omega arith)) refl
mac-why-back macs.ControlAfterSdu = rw (number-back 4 (omega arith)) refl
mac-why-back macs.PaddingPlace = rw (number-back 5 (omega arith)) refl

pub mac-why-free : (c : MacWhy) → is_free 32 (decimal (mac_number c)) ≡ true
mac-why-free macs.Short = free-number 32 1 refl (omega arith)
mac-why-free macs.ReservedLcid = free-number 32 2 refl (omega arith)
mac-why-free macs.LengthPast = free-number 32 3 refl (omega arith)
mac-why-free macs.ControlAfterSdu = free-number 32 4 refl (omega arith)
mac-why-free macs.PaddingPlace = free-number 32 5 refl (omega arith)

pub rlc-why-back : (c : RlcWhy) → rlc_why_of (decimal (rlc_number c)) ≡ Ok c
unfolding rlc_why_of
rlc-why-back rlcs.Short = rw (number-back 1 (omega arith)) refl
rlc-why-back rlcs.ZeroLi = rw (number-back 2 (omega arith)) refl
rlc-why-back rlcs.LiPast = rw (number-back 3 (omega arith)) refl
rlc-why-back rlcs.EmptyData = rw (number-back 4 (omega arith)) refl
rlc-why-back rlcs.ReservedCpt = rw (number-back 5 (omega arith)) refl
rlc-why-back rlcs.SoBackwards = rw (number-back 6 (omega arith)) refl
rlc-why-back rlcs.Trailing = rw (number-back 7 (omega arith)) refl

pub rlc-why-free : (c : RlcWhy) → is_free 32 (decimal (rlc_number c)) ≡ true
rlc-why-free rlcs.Short = free-number 32 1 refl (omega arith)
rlc-why-free rlcs.ZeroLi = free-number 32 2 refl (omega arith)
rlc-why-free rlcs.LiPast = free-number 32 3 refl (omega arith)
rlc-why-free rlcs.EmptyData = free-number 32 4 refl (omega arith)
rlc-why-free rlcs.ReservedCpt = free-number 32 5 refl (omega arith)
rlc-why-free rlcs.SoBackwards = free-number 32 6 refl (omega arith)
rlc-why-free rlcs.Trailing = free-number 32 7 refl (omega arith)

pub pdcp-why-back : (c : PdcpWhy) → pdcp_why_of (decimal (pdcp_number c)) ≡ Ok c
unfolding pdcp_why_of
pdcp-why-back pdcps.Short = rw (number-back 1 (omega arith)) refl
pdcp-why-back pdcps.ReservedType = rw (number-back 2 (omega arith)) refl
pdcp-why-back pdcps.EmptyData = rw (number-back 3 (omega arith)) refl

pub pdcp-why-free : (c : PdcpWhy) → is_free 32 (decimal (pdcp_number c)) ≡ true
pdcp-why-free pdcps.Short = free-number 32 1 refl (omega arith)
pdcp-why-free pdcps.ReservedType = free-number 32 2 refl (omega arith)
pdcp-why-free pdcps.EmptyData = free-number 32 3 refl (omega arith)
