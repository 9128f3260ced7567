-- Which SDUs of acknowledged data have gone up on a channel, told by the blocks that were built and
-- that came, and by what the ends tell as they build them (TS 36.322 5.1.3.2, 5.4, TS 36.323
-- 5.1.2.1.2, 5.2).
use Rattle.std.specs.Prelude.{ℕ, List, [], ◌∷◌, ◌++◌, map}
use Rattle.std.specs.List.{flat_map}
use Rattle.bearer_types.specs.declared.config.BearerConfig.{BearerConfig}
use Rattle.eps_sec.specs.declared.Keys.{Keys}
use Rattle.l2_node.specs.Building.{visit, visited}
use Rattle.l2_node.specs.End.{End}
use Rattle.bearer_types.specs.Sides.{heard_by, sent_by}
use Rattle.l2_types.specs.declared.side.Side.{Side}
use Rattle.law_node.specs.Calls.{Call, Visits, Receive, Move, after}
use Rattle.law_node.specs.Telling.{told_of}
use Rattle.law_words.specs.Arrivals.{AccountEntry, Renews, Account, no_account, account}
use Rattle.bearer_types.specs.Sides.{other}
use Rattle.law_deliver.specs.AmFlow.Air.{Block, Air, built_at, outset}
use Rattle.promises.specs.Pdus.{carried}
use Rattle.promises.specs.Events.{told_on}
use Rattle.law_deliver.specs.AmDelivery.Arrival.{IsWhatCame}
use Rattle.promises.specs.Given.{entries_given, entries_written, entries_come}
use Rattle.law_deliver.specs.AmChannel.Lives.{AirStep, AreLiving, lives_on, end_at, calls_at}
use Rattle.law_deliver.specs.AmChannel.Delivery.{AmEndsBeginAlike, DiscardsNoneAt, ups_at, taken_at}
use Rattle.law_deliver.specs.AmChannel.Delivery.{submitted_at}

-- ---- what the calls of an end tell of what it sends on a channel: the PDUs that PDCP gives, and
-- those in a new block; its move begins a life

abbrev pub built_in : End → Call → List (List ℕ)
built_in e (Visits t) =
    map (λ (b : Block). b.octets) (built_at (visit t.tti t.order e) t (visited t.tti t.order e))
built_in e c = []

abbrev pub said_in : ℕ → ℕ → End → Call → List AccountEntry
said_in bits l e (Visits t) = entries_given bits (told_on l (told_of e (Visits t)))
    ++ entries_written (flat_map (carried l (sent_by e.side)) (built_in e (Visits t)))
said_in bits l e (Move keys) = Renews ∷ []
said_in bits l e c = []

-- and of what it hears there: the PDUs in a block that comes
abbrev pub heard_in : ℕ → End → Call → List AccountEntry
heard_in l e (Receive block) = entries_come (carried l (heard_by e.side) block)
heard_in l e c = []

abbrev pub said_over : ℕ → ℕ → List Call → End → List AccountEntry
said_over bits l [] e = []
said_over bits l (c ∷ cs) e = said_in bits l e c ++ said_over bits l cs (after e c)

abbrev pub heard_over : ℕ → List Call → End → List AccountEntry
heard_over l [] e = []
heard_over l (c ∷ cs) e = heard_in l e c ++ heard_over l cs (after e c)

-- ---- in steps of both ends, from one to the other; numbers of PDCP have so many bits

abbrev pub happens_in : ℕ → ℕ → Side → Air → AirStep → List AccountEntry
happens_in bits l from a x = said_over bits l (calls_at from a x) (end_at from a)
    ++ heard_over l (calls_at (other from) a x) (end_at (other from) a)

abbrev pub happened : ℕ → ℕ → Side → List AirStep → Air → List AccountEntry
happened bits l from [] a = []
happened bits l from (x ∷ xs) a =
    happens_in bits l from a x ++ happened bits l from xs (lives_on a x)

-- ---- the laws

abbrev pub told_from : BearerConfig → ℕ → Side → List AirStep → Air → Account
told_from c l from steps a = account (happened c.pdcp_bits l from steps a) no_account

-- what went up at the other end are the SDUs that the bearer of the one took first, up to the first
-- whose COUNT hasn't come
abbrev pub ChannelsDeliverWhatCame : Type 0
ChannelsDeliverWhatCame =
    (l : ℕ) (c : BearerConfig) (keys : Keys) (nb ue : End) (from : Side) (steps : List AirStep)
    → AmEndsBeginAlike l c keys nb ue → AreLiving l (outset nb ue) steps
    → IsWhatCame c.first (told_from c l from steps (outset nb ue))
    (taken_at l from steps (outset nb ue)) (ups_at l (other from) steps (outset nb ue))

-- where none is discarded, of those that were submitted
abbrev pub ChannelsDeliverWhatCameUndiscarded : Type 0
ChannelsDeliverWhatCameUndiscarded =
    (l : ℕ) (c : BearerConfig) (keys : Keys) (nb ue : End) (from : Side) (steps : List AirStep)
    → AmEndsBeginAlike l c keys nb ue → AreLiving l (outset nb ue) steps
    → DiscardsNoneAt l from steps (outset nb ue)
    → IsWhatCame c.first (told_from c l from steps (outset nb ue))
    (submitted_at l from steps (outset nb ue)) (ups_at l (other from) steps (outset nb ue))
