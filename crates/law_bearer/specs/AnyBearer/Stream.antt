-- What PDCP hands to RLC (TS 36.323 5.1.1, 5.3.1).
use Rattle.std.specs.Prelude.{◌≡◌, ℕ, ◌+◌, ◌-◌, ◌≤◌, List, [], ◌∷◌, ◌++◌, map, length, take, Option}
use Rattle.std.specs.Prelude.{Some, None}
use Rattle.bearer_types.specs.declared.BearerConfig.{BearerConfig}
use Rattle.eps_sec.specs.declared.Keys.{Keys}
use Rattle.l2_types.specs.declared.Side.{Side}
use Rattle.l2_num.specs.Ascending.{IsAscending}
use Rattle.pdcp_tx.specs.State.{State as Sending, Offer, offers, written}
use Rattle.pdcp_tx.specs.Runs.{counts_in}
use Rattle.rlc_um.specs.Sender.{Sender as UmSender, offered as offered_um}
use Rattle.rlc_am_tx.specs.Machine.{State as AmSender, offered as offered_am}
use Rattle.bearer_pdcp.specs.Ends.{Ends}
use Rattle.bearer.specs.Unacknowledged.Taking.{feeding as um_feeding}
use Rattle.bearer.specs.Acknowledged.Taking.{feeding as am_feeding}
use Rattle.bearer.specs.declared.flow.Flow.{Flow}
use Rattle.bearer.specs.declared.flow.Flow.TheVariants.{Tm, Um, Am}
use Rattle.law_bearer.specs.AnyBearer.Calls.{Call, Submit, Take, Arrive, Expire, Tick, SetDiscard}
use Rattle.law_bearer.specs.AnyBearer.Calls.{after, Step, Calls, Restart, goes, reached, ends}

-- ---- what RLC takes

-- what it may take
abbrev pub offers_of : Option Ends → List Offer
offers_of None = []
offers_of (Some e) = offers e.tx

-- what it takes in a call: the first that it may take, without those that it may take afterwards
abbrev pub takes : Flow → Call → List Offer
takes f (Submit sdu) = []
takes f (Take share held) =
    take (length (offers_of (ends f)) - length (offers_of (ends (after f (Take share held)))))
    (offers_of (ends f))
takes f (Arrive pdu) = []
takes f (Expire clock) = []
takes f Tick = []
takes f (SetDiscard ttis) = []

-- in a life
abbrev pub taken : Flow → List Call → List Offer
taken f [] = []
taken f (c ∷ cs) = takes f c ++ taken (after f c) cs

-- through lives
abbrev pub takes_in : Flow → Step → List Offer
takes_in f (Calls c) = takes f c
takes_in f (Restart keys) = []

abbrev pub all_taken : Flow → List Step → List Offer
all_taken f [] = []
all_taken f (x ∷ xs) = takes_in f x ++ all_taken (goes f x) xs

-- ---- as PDUs, by PDCP's definitions: a report as it is, an SDU with its header, ciphered under
-- the life's key by its COUNT

abbrev pub pdu_of : Sending → Offer → List ℕ
pdu_of s o = (written s.kind s.protection o.count o.text).octets

abbrev pub pdus_of : Option Ends → List Offer → List (List ℕ)
pdus_of None os = []
pdus_of (Some e) os = map (pdu_of e.tx) os

-- the stream of a life
abbrev pub stream : Flow → List Call → List (List ℕ)
stream f [] = []
stream f (c ∷ cs) = pdus_of (ends f) (takes f c) ++ stream (after f c) cs

-- ---- RLC's sender is offered just these, one after the other, before it builds a PDU

abbrev pub um_offered : List (List ℕ) → UmSender → UmSender
um_offered [] tx = tx
um_offered (pdu ∷ pdus) tx = um_offered pdus (offered_um pdu tx)

abbrev pub am_offered : List (List ℕ) → AmSender → AmSender
am_offered [] tx = tx
am_offered (pdu ∷ pdus) tx = am_offered pdus (offered_am tx pdu)

abbrev pub IsOffered : Flow → ℕ → Option ℕ → Type 0
IsOffered (Tm b) share held = Unit {0}
IsOffered (Um b) share held = (um_feeding b share held).tx
    ≡ um_offered (map (pdu_of b.pdcp.tx) (takes (Um b) (Take share held))) b.tx
IsOffered (Am b) share held = (am_feeding b share held).tx
    ≡ am_offered (map (pdu_of b.pdcp.tx) (takes (Am b) (Take share held))) b.tx

-- ---- the order of a life

pub record IsSdu (low : ℕ) (o : Offer) : Type 0 where
  pub count : ℕ
  pub is : o.count ≡ Some count
  pub from : low ≤ count

-- SDUs by ascending COUNTs, so that none is taken twice
abbrev pub AreSdus : ℕ → List Offer → Type 0
AreSdus low [] = Unit {0}
AreSdus low (o ∷ os) = (first : IsSdu low o) × AreSdus (first.count + 1) os

-- the status report first, where one is owed
abbrev pub AreInOrder : Option (List ℕ) → List Offer → Type 0
AreInOrder None os = AreSdus 0 os
AreInOrder (Some report) [] = Unit {0}
AreInOrder (Some report) (o ∷ os) = (o ≡ record { count = None; text = report }) × AreSdus 0 os

abbrev pub owed : Option Ends → Option (List ℕ)
owed None = None
owed (Some e) = e.tx.owed

-- from any moment of a life on
pub record IsStream (f : Flow) (calls : List Call) : Type 0 where
  pub offered : (share : ℕ) (held : Option ℕ) → IsOffered f share held
  pub pdus : stream f calls ≡ pdus_of (ends f) (taken f calls)
  pub order : AreInOrder (owed (ends f)) (taken f calls)

-- ---- the laws

abbrev pub OffersInOrder : Type 0
OffersInOrder =
    (c : BearerConfig) (keys : Keys) (side : Side) (steps : List Step) (calls : List Call)
    → IsStream (reached c keys side steps) calls

-- the COUNTs of what is taken; a report has none
abbrev pub counts : List Offer → List ℕ
counts [] = []
counts (o ∷ os) = counts_in o.count ++ counts os

abbrev pub TakesOnce : Type 0
TakesOnce = (c : BearerConfig) (keys : Keys) (side : Side) (steps : List Step) (calls : List Call)
    → IsAscending 0 (counts (taken (reached c keys side steps) calls))
