-- Records read back from the words of their texts (docs/formats/JOURNAL.md).
use Rattle.std.specs.Prelude.{ℕ, ◌+◌, ◌*◌, ◌-◌, ◌<◌, ◌^◌, ◌==◌, if◌then◌else◌, List, [], ◌∷◌, ◌++◌}
use Rattle.std.specs.Prelude.{codes, Option, None, Some, Result, Ok, Err}
use Rattle.std.specs.Str.{bytes_eq}
use Rattle.hex.specs.Hex.{decode_of, IsBytes}
use Rattle.hex.specs.declared.error.FromHexError.{FromHexError}
use Rattle.l2_types.specs.declared.event.Clock.{Clock}
use Rattle.l2_types.specs.declared.event.Clock.TheVariants as clocks
use Rattle.l2_types.specs.declared.event.How.{How}
use Rattle.l2_types.specs.declared.event.How.TheVariants as hows
use Rattle.l2_types.specs.declared.event.Waits.{Waits}
use Rattle.l2_types.specs.declared.event.Waits.TheVariants as waits
use Rattle.l2_types.specs.declared.event.Lost.{Lost}
use Rattle.l2_types.specs.declared.event.Lost.TheVariants as losts
use Rattle.mac_pdu.specs.declared.fault.MacWhy.{MacWhy}
use Rattle.mac_pdu.specs.declared.fault.MacWhy.TheVariants as macs
use Rattle.rlc_pdu.specs.declared.fault.RlcWhy.{RlcWhy}
use Rattle.rlc_pdu.specs.declared.fault.RlcWhy.TheVariants as rlcs
use Rattle.pdcp_pdu.specs.declared.pdu.PdcpWhy.{PdcpWhy}
use Rattle.pdcp_pdu.specs.declared.pdu.PdcpWhy.TheVariants as pdcps
use Rattle.bearer_types.specs.declared.event.Event.{Event}
use Rattle.bearer_types.specs.declared.event.Event.TheVariants.{Take, Report, Send, Wait, Start}
use Rattle.bearer_types.specs.declared.event.Event.TheVariants.{Stop, Expired, Up, Fail, Discard}
use Rattle.bearer_types.specs.declared.event.Event.TheVariants.{Drop, Integrity, BadMac, BadRlc}
use Rattle.bearer_types.specs.declared.event.Event.TheVariants.{BadPdcp}

-- a text cut at its spaces, up to its line feed, behind a word that was begun
unfoldable pub cut : List ℕ → List ℕ → List (List ℕ)
cut word [] = word ∷ []
cut word (x ∷ xs) = if x == 10 then word ∷ [] else if x == 32 then word ∷ cut [] xs
    else cut (word ++ x ∷ []) xs

-- the number that digits say
abbrev pub digits_on : ℕ → List ℕ → ℕ
digits_on n [] = n
digits_on n (x ∷ xs) = digits_on (10 * n + (x - 48)) xs

unfoldable pub number_back : List ℕ → ℕ
number_back word = digits_on 0 word

abbrev pub octets_in : Result (List ℕ) FromHexError → List ℕ
octets_in (Ok octets) = octets
octets_in (Err e) = []

unfoldable pub octets_back : List ℕ → List ℕ
octets_back word = octets_in (decode_of word)

unfoldable pub bitmap_back : List ℕ → List ℕ
bitmap_back word = if bytes_eq word (codes "-") then [] else octets_back word

unfoldable pub count_back : List ℕ → Option ℕ
count_back word = if bytes_eq word (codes "-") then None else Some (number_back word)

abbrev pub clock_back : List ℕ → Clock
clock_back word = if bytes_eq word (codes "poll") then clocks.Poll
    else if bytes_eq word (codes "reorder") then clocks.Reorder else clocks.Prohibit

abbrev pub how_back : List ℕ → How
how_back word = if bytes_eq word (codes "tm") then hows.Tm else if bytes_eq word (codes "new") then hows.New else if bytes_eq word (codes "re") then hows.Re else hows.Status

abbrev pub waits_back : List ℕ → Waits
waits_back word = if bytes_eq word (codes "stopped") then waits.Stopped
    else if bytes_eq word (codes "shut") then waits.Shut else if bytes_eq word (codes "held")
    then waits.Held else waits.Small

abbrev pub lost_back : List ℕ → Lost
lost_back word =
    if bytes_eq word (codes "nobearer") then losts.NoBearer
    else if bytes_eq word (codes "repeat") then losts.Repeat
    else if bytes_eq word (codes "outside") then losts.Outside
    else if bytes_eq word (codes "clash") then losts.Clash
    else if bytes_eq word (codes "old") then losts.Old
    else if bytes_eq word (codes "range") then losts.Range
    else if bytes_eq word (codes "ignored") then losts.Ignored
    else if bytes_eq word (codes "handover") then losts.Handover
    else if bytes_eq word (codes "loop") then losts.Loop
    else losts.Report

abbrev pub mac_back : ℕ → MacWhy
mac_back n = if n == 1 then macs.Short else if n == 2 then macs.ReservedLcid else if n == 3
    then macs.LengthPast else if n == 4 then macs.ControlAfterSdu else macs.PaddingPlace

abbrev pub rlc_back : ℕ → RlcWhy
rlc_back n =
    if n == 1 then rlcs.Short else if n == 2 then rlcs.ZeroLi else if n == 3 then rlcs.LiPast
    else if n == 4 then rlcs.EmptyData
    else if n == 5 then rlcs.ReservedCpt else if n == 6 then rlcs.SoBackwards else rlcs.Trailing

abbrev pub pdcp_back : ℕ → PdcpWhy
pdcp_back n = if n == 1 then pdcps.Short else if n == 2 then pdcps.ReservedType else pdcps.EmptyData

-- any event, where words are none's
abbrev none : Event
none = Fail 0 0

-- an event of four words
abbrev pub four : List ℕ → List ℕ → List ℕ → Event
four name lcid last =
    if bytes_eq name (codes "wait") then Wait (number_back lcid) (waits_back last)
    else if bytes_eq name (codes "start") then Start (number_back lcid) (clock_back last)
    else if bytes_eq name (codes "stop") then Stop (number_back lcid) (clock_back last)
    else if bytes_eq name (codes "expired") then Expired (number_back lcid) (clock_back last)
    else if bytes_eq name (codes "drop") then Drop (number_back lcid) (lost_back last)
    else if bytes_eq name (codes "up") then Up (number_back lcid) (octets_back last)
    else if bytes_eq name (codes "discard") then Discard (number_back lcid) (number_back last)
    else Fail (number_back lcid) (number_back last)

-- an event of five words
abbrev pub five : List ℕ → List ℕ → List ℕ → List ℕ → Event
five name lcid third last =
    if bytes_eq name (codes "take")
    then Take (number_back lcid) (count_back third) (number_back last)
    else if bytes_eq name (codes "report")
    then Report (number_back lcid) (number_back third) (bitmap_back last)
    else if bytes_eq name (codes "integrity")
    then Integrity (number_back lcid) (octets_back third) (octets_back last)
    else if bytes_eq name (codes "bad")
    then BadMac (record { at = number_back third; why = mac_back (number_back last) })
    else Send (number_back lcid) (how_back third) (number_back last)

-- an event of six words
abbrev pub six : List ℕ → List ℕ → List ℕ → List ℕ → Event
six layer lcid fourth last =
    if bytes_eq layer (codes "rlc")
    then BadRlc (number_back lcid)
    (record { at = number_back fourth; why = rlc_back (number_back last) })
    else BadPdcp (number_back lcid)
    (record { at = number_back fourth; why = pdcp_back (number_back last) })

abbrev pub event_back : List (List ℕ) → Event
event_back (name ∷ node ∷ lcid ∷ last ∷ []) = four name lcid last
event_back (name ∷ node ∷ lcid ∷ third ∷ last ∷ []) = five name lcid third last
event_back (name ∷ node ∷ layer ∷ lcid ∷ fourth ∷ last ∷ []) = six layer lcid fourth last
event_back words = none

abbrev pub IsCount : Option ℕ → Type 0
IsCount None = Unit {0}
IsCount (Some n) = n < 2 ^ 64

-- the numbers of an event that integers hold, of those that are read back here
abbrev pub IsGoodEvent : Event → Type 0
IsGoodEvent (Take lcid count len) = (lcid < 2 ^ 64) × IsCount count × (len < 2 ^ 64)
IsGoodEvent (Report lcid fms bitmap) = (lcid < 2 ^ 64) × (fms < 2 ^ 64) × IsBytes bitmap
IsGoodEvent (Send lcid how sn) = (lcid < 2 ^ 64) × (sn < 2 ^ 64)
IsGoodEvent (Wait lcid why) = lcid < 2 ^ 64
IsGoodEvent (Start lcid clock) = lcid < 2 ^ 64
IsGoodEvent (Stop lcid clock) = lcid < 2 ^ 64
IsGoodEvent (Expired lcid clock) = lcid < 2 ^ 64
IsGoodEvent (Up lcid octets) = (lcid < 2 ^ 64) × IsBytes octets
IsGoodEvent (Fail lcid sn) = (lcid < 2 ^ 64) × (sn < 2 ^ 64)
IsGoodEvent (Discard lcid len) = (lcid < 2 ^ 64) × (len < 2 ^ 64)
IsGoodEvent (Integrity lcid found wanted) = (lcid < 2 ^ 64) × IsBytes found × IsBytes wanted
IsGoodEvent (Drop lcid why) = lcid < 2 ^ 64
IsGoodEvent (BadMac fault) = fault.at < 2 ^ 64
IsGoodEvent (BadRlc lcid fault) = (lcid < 2 ^ 64) × (fault.at < 2 ^ 64)
IsGoodEvent (BadPdcp lcid fault) = (lcid < 2 ^ 64) × (fault.at < 2 ^ 64)
