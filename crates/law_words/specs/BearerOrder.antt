-- In which order a bearer tells, and one channel of an end (TS 36.321 5.4.3.1, TS 36.322 5.1 to
-- 5.4, 7.3, TS 36.323 5).
use Rattle.std.specs.Prelude.{ℕ, List, Option, Bool, true, false, ◌==◌, ◌||◌}
use Rattle.bearer_types.specs.declared.Event.{Event}
use Rattle.law_words.specs.Sequences.{SequencesOf, just, ◌then◌, maybe, any, ◌or◌, many}
use Rattle.bearer_types.specs.declared.Event.TheVariants.{Send, Start, Report, Take, Wait, Up, Drop}
use Rattle.bearer_types.specs.declared.Event.TheVariants.{Integrity, BadPdcp, Stop, Fail, BadRlc}
use Rattle.bearer_types.specs.declared.Event.TheVariants.{Expired, Discard}
use Rattle.l2_types.specs.declared.Clock.TheVariants.{Prohibit, Poll, Reorder}
use Rattle.l2_types.specs.declared.How.TheVariants.{Status, Tm, New, Re}
use Rattle.l2_types.specs.declared.Waits.{Waits}
use Rattle.pdcp_pdu.specs.declared.PdcpRefusal.{PdcpRefusal}
use Rattle.rlc_pdu.specs.declared.RlcRefusal.{RlcRefusal}
use Rattle.l2_types.specs.declared.Clock.{Clock}
use Rattle.l2_types.specs.declared.event.Lost.TheVariants.{NoBearer}
use Rattle.l2_types.specs.declared.Lost.TheVariants as lost

abbrev pub OfEvents : Type 1
OfEvents = SequencesOf Event

-- ---- a new block: a STATUS, and the start of prohibit; a status report and SDUs that RLC takes; a
-- data PDU and the start of poll, or why there is none

abbrev pub a_status : ℕ → OfEvents
a_status lcid =
    any (λ (ack : ℕ). just (Send lcid Status ack)) then maybe (just (Start lcid Prohibit))

abbrev pub a_report : ℕ → OfEvents
a_report lcid = any (λ (fms : ℕ). any (λ (bitmap : List ℕ). just (Report lcid fms bitmap)))

abbrev pub a_take : ℕ → OfEvents
a_take lcid = any (λ (count : Option ℕ). any (λ (len : ℕ). just (Take lcid count len)))

abbrev pub a_data_pdu : ℕ → OfEvents
a_data_pdu lcid =
    just (Send lcid Tm 0) or any (λ (sn : ℕ). just (Send lcid New sn)
    or just (Send lcid Re sn)) then maybe (just (Start lcid Poll))

abbrev pub a_wait : ℕ → OfEvents
a_wait lcid = any (λ (why : Waits). just (Wait lcid why))

abbrev pub in_a_block : ℕ → OfEvents
in_a_block lcid =
    maybe (a_status lcid) then maybe (a_report lcid) then many (a_take lcid)
    then maybe (a_data_pdu lcid or a_wait lcid)

-- ---- an SDU that RLC hands up: it goes up, maybe with others that PDCP held, or is held; or it is
-- dropped

abbrev pub an_up : ℕ → OfEvents
an_up lcid = any (λ (sdu : List ℕ). just (Up lcid sdu))

abbrev pub of_an_sdu : ℕ → OfEvents
of_an_sdu lcid =
    many (an_up lcid)
    or just (Drop lcid lost.Old) or just (Drop lcid lost.Range) or just (Drop lcid lost.Report)
    or any (λ (found : List ℕ). any (λ (wanted : List ℕ). just (Integrity lcid found wanted)))
    or any (λ (fault : PdcpRefusal). just (BadPdcp lcid fault))

-- it may be a report of the other end that is applied, at which poll may start
abbrev pub of_an_arrived_sdu : ℕ → OfEvents
of_an_arrived_sdu lcid = of_an_sdu lcid or just (Start lcid Poll)

-- ---- a PDU that arrives

abbrev pub of_a_data_pdu : ℕ → OfEvents
of_a_data_pdu lcid =
    just (Drop lcid lost.Repeat) or just (Drop lcid lost.Outside) or just (Drop lcid lost.Clash)
    or maybe (just (Stop lcid Reorder)) then maybe (just (Start lcid Reorder))
    then many (of_an_arrived_sdu lcid)

-- at the retransmission limit nothing else is told
abbrev pub of_a_status : ℕ → OfEvents
of_a_status lcid =
    just (Drop lcid lost.Ignored) or any (λ (sn : ℕ). just (Fail lcid sn))
    or maybe (just (Stop lcid Poll)) then maybe (just (Start lcid Poll))

abbrev pub of_a_pdu : ℕ → OfEvents
of_a_pdu lcid =
    any (λ (fault : RlcRefusal). just (BadRlc lcid fault)) or of_a_data_pdu lcid or of_a_status lcid

-- ---- a timer expires

abbrev pub of_an_expiry : ℕ → Clock → OfEvents
of_an_expiry lcid Poll = just (Expired lcid Poll) then maybe (any (λ (sn : ℕ). just (Fail lcid sn)))
of_an_expiry lcid Reorder =
    just (Expired lcid Reorder) then maybe (just (Start lcid Reorder)) then many (of_an_sdu lcid)
of_an_expiry lcid Prohibit = just (Expired lcid Prohibit)

-- ---- a TTI begins: poll, reorder, prohibit; SDUs whose discard timers end, at which poll may
-- start

abbrev pub a_discard : ℕ → OfEvents
a_discard lcid = any (λ (len : ℕ). just (Discard lcid len))

abbrev pub of_discards : ℕ → OfEvents
of_discards lcid = a_discard lcid then many (a_discard lcid) then maybe (just (Start lcid Poll))

abbrev pub in_a_tti : ℕ → OfEvents
in_a_tti lcid =
    maybe (of_an_expiry lcid Poll) then maybe (of_an_expiry lcid Reorder)
    then maybe (of_an_expiry lcid Prohibit) then maybe (of_discards lcid)

-- ---- a life ends: what RLC can put together goes up; of signalling each SDU is dropped

abbrev pub at_the_end : Bool → ℕ → OfEvents
at_the_end true lcid = many (just (Drop lcid lost.Handover))
at_the_end false lcid = many (of_an_sdu lcid)

-- a block that comes, where it can be read: the PDUs in it, in turn
abbrev pub of_a_channel : Bool → ℕ → OfEvents
of_a_channel true lcid = of_a_pdu lcid
of_a_channel false lcid = just (Drop lcid NoBearer)

-- the end leaves its cell: likewise; SRB1 and SRB2 have LCIDs 1 and 2 (TS 36.331 9.1.2)
abbrev pub is_srb : ℕ → Bool
is_srb lcid = lcid == 1 || lcid == 2
