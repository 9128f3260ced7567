use Rattle.std.proofs.Common.{◌≡◌, ◌<◌, ◌^◌, ℕ, List, [], ◌∷◌, ap, arith, refl, rules, true, Option, Some, None, false}
use Rattle.std.proofs.Common.{◌&&◌, ◌==◌, Bool, codes}
use Rattle.std.specs.Fmt.{decimal}
use Rattle.std.specs.Str.{all_ascii_digits, bytes_eq}
use Rattle.std.proofs.lemmas.Fmt.{digits_value-decimal, digits_decimal}
use Rattle.std.proofs.lemmas.Str.Parse.{IsNumeralModel, numerals_by_fold}
use Rattle.hex.specs.Hex.{encode_lower, encode_with, IsBytes}
use Rattle.hex.proofs.HexLemmas.{decode_of-encode_lower}
use Rattle.l2_types.specs.declared.event.Clock.{Clock}
use Rattle.l2_types.specs.declared.event.Clock.TheVariants as clocks
use Rattle.l2_types.specs.declared.event.How.{How}
use Rattle.l2_types.specs.declared.event.How.TheVariants as hows
use Rattle.l2_types.specs.declared.event.Waits.{Waits}
use Rattle.l2_types.specs.declared.event.Waits.TheVariants as waits
use Rattle.l2_types.specs.declared.event.Lost.{Lost}
use Rattle.l2_types.specs.declared.event.Lost.TheVariants as losts
use Rattle.mac_pdu.specs.declared.fault.MacWhy.{MacWhy}
use Rattle.mac_pdu.specs.declared.fault.MacWhy.TheVariants as macs
use Rattle.rlc_pdu.specs.declared.fault.RlcWhy.{RlcWhy}
use Rattle.rlc_pdu.specs.declared.fault.RlcWhy.TheVariants as rlcs
use Rattle.pdcp_pdu.specs.declared.pdu.PdcpWhy.{PdcpWhy}
use Rattle.pdcp_pdu.specs.declared.pdu.PdcpWhy.TheVariants as pdcps
use Rattle.air_record.specs.Text.{mac_number, rlc_number, pdcp_number, lost_text, clock_text, how_text, waits_text}
use Rattle.air_record.specs.Text.{bitmap_text, count_text}
use Rattle.law_text.specs.Back.{digits_on, number_back, octets_in, octets_back, bitmap_back, count_back, clock_back}
use Rattle.law_text.specs.Back.{how_back, waits_back, lost_back, mac_back, rlc_back, pdcp_back, IsCount}

pub own : IsNumeralModel (λ ds. all_ascii_digits ds ≡ true) (digits_on 0)
own = numerals_by_fold _ (search rules) digits_on (search rules)

pub back-number : (n : ℕ) → n < 2 ^ 64 → number_back (decimal n) ≡ n
unfolding number_back
back-number n h = digits_value-decimal own n h

pub back-octets : (xs : List ℕ) → IsBytes xs → octets_back (encode_lower xs) ≡ xs
unfolding octets_back
back-octets xs h = ap octets_in (decode_of-encode_lower xs h)

pub back-clock : (c : Clock) → clock_back (clock_text c) ≡ c
back-clock clocks.Poll = refl
back-clock clocks.Reorder = refl
back-clock clocks.Prohibit = refl

pub back-how : (c : How) → how_back (how_text c) ≡ c
back-how hows.Tm = refl
back-how hows.New = refl
back-how hows.Re = refl
back-how hows.Status = refl

pub back-waits : (c : Waits) → waits_back (waits_text c) ≡ c
back-waits waits.Stopped = refl
back-waits waits.Shut = refl
back-waits waits.Held = refl
back-waits waits.Small = refl

pub back-lost : (c : Lost) → lost_back (lost_text c) ≡ c
back-lost losts.NoBearer = refl
back-lost losts.Repeat = refl
back-lost losts.Outside = refl
back-lost losts.Clash = refl
back-lost losts.Old = refl
back-lost losts.Range = refl
back-lost losts.Ignored = refl
back-lost losts.Handover = refl
back-lost losts.Loop = refl
back-lost losts.Report = refl

-- digits are no -
pub no-dash : (w : List ℕ) → all_ascii_digits w ≡ true → bytes_eq w (codes "-") ≡ false
no-dash [] h = refl
no-dash (x ∷ xs) h = search (rules, h)

pub back-count : (c : Option ℕ) → IsCount c → count_back (count_text c) ≡ c
unfolding count_back
back-count None h = refl
back-count (Some n) h = rw (no-dash (decimal n) (digits_decimal own n h), back-number n h) refl

and-false : (b : Bool) → (b && false) ≡ false
and-false true = refl
and-false false = refl

pub two-dash : (a b : ℕ) (r : List ℕ) → bytes_eq (a ∷ b ∷ r) (codes "-") ≡ false
two-dash a b r = search (rules, and-false (a == 45))

pub back-bitmap : (xs : List ℕ) → IsBytes xs → bitmap_back (bitmap_text xs) ≡ xs
unfolding bitmap_back encode_with
back-bitmap [] h = refl
back-bitmap (x ∷ xs) h = rw (two-dash _ _ (encode_lower xs)) (back-octets (x ∷ xs) h)

pub back-mac : (c : MacWhy) → mac_back (mac_number c) ≡ c
back-mac macs.Short = refl
back-mac macs.ReservedLcid = refl
back-mac macs.LengthPast = refl
back-mac macs.ControlAfterSdu = refl
back-mac macs.PaddingPlace = refl

pub small-mac : (c : MacWhy) → mac_number c < 2 ^ 64
small-mac macs.Short = omega arith
small-mac macs.ReservedLcid = omega arith
small-mac macs.LengthPast = omega arith
small-mac macs.ControlAfterSdu = omega arith
small-mac macs.PaddingPlace = omega arith

pub back-rlc : (c : RlcWhy) → rlc_back (rlc_number c) ≡ c
back-rlc rlcs.Short = refl
back-rlc rlcs.ZeroLi = refl
back-rlc rlcs.LiPast = refl
back-rlc rlcs.EmptyData = refl
back-rlc rlcs.ReservedCpt = refl
back-rlc rlcs.SoBackwards = refl
back-rlc rlcs.Trailing = refl

pub small-rlc : (c : RlcWhy) → rlc_number c < 2 ^ 64
small-rlc rlcs.Short = omega arith
small-rlc rlcs.ZeroLi = omega arith
small-rlc rlcs.LiPast = omega arith
small-rlc rlcs.EmptyData = omega arith
small-rlc rlcs.ReservedCpt = omega arith
small-rlc rlcs.SoBackwards = omega arith
small-rlc rlcs.Trailing = omega arith

pub back-pdcp : (c : PdcpWhy) → pdcp_back (pdcp_number c) ≡ c
back-pdcp pdcps.Short = refl
back-pdcp pdcps.ReservedType = refl
back-pdcp pdcps.EmptyData = refl

pub small-pdcp : (c : PdcpWhy) → pdcp_number c < 2 ^ 64
small-pdcp pdcps.Short = omega arith
small-pdcp pdcps.ReservedType = omega arith
small-pdcp pdcps.EmptyData = omega arith
