-- Why a bearer with data writes no data PDU into a block (TS 36.321 5.4.3.1, TS 36.322 5.1).
use Rattle.std.specs.Prelude.{◌≡◌, ℕ, ◌+◌, ◌-◌, Bool, ◌||◌, ◌&&◌, if◌then◌else◌, Option, Some, None}
use Rattle.std.specs.Prelude.{is_none, List, [], ◌∷◌, ◌++◌, length, nat_le, nat_lt}
use Rattle.bearer.specs.declared.flow.Flow.{Flow}
use Rattle.bearer.specs.declared.flow.Flow.TheVariants.{Tm, Um, Am}
use Rattle.bearer.specs.Taking.{told}
use Rattle.bearer.specs.Acknowledged.State.{has_more as am_has_more}
use Rattle.bearer.specs.Acknowledged.Taking.{answer as am_answer, data_size}
use Rattle.bearer_pdcp.specs.Telling.{pdus_of}
use Rattle.bearer_types.specs.declared.event.Event.{Event}
use Rattle.bearer_types.specs.declared.event.Event.TheVariants.{Wait}
use Rattle.bearer.specs.Unacknowledged.Taking.{answer as um_answer, has_more as um_has_more}
use Rattle.bearer.specs.Unacknowledged.Taking.{size_in}
use Rattle.harq.specs.declared.sender.Order.{Order}
use Rattle.harq.specs.declared.sender.Visit.TheVariants.{New}
use Rattle.l2_types.specs.declared.channel.Channel.{Channel}
use Rattle.l2_types.specs.declared.side.Side.{Side}
use Rattle.l2_types.specs.declared.event.Waits.{Waits}
use Rattle.l2_types.specs.declared.event.Waits.TheVariants.{Stopped, Shut, Held, Small}
use Rattle.rlc_am_tx_window.specs.Sent.{all_wait, whole_size}
use Rattle.rlc_am_tx_window.specs.Window.{next}
use Rattle.rlc_am_tx.specs.Machine.{State as AmSender, waits, is_shut, is_held as am_is_held, again}
use Rattle.rlc_pdu.specs.declared.outcome.Taken.{Taken}
use Rattle.rlc_queue.specs.Waiting.{first}
use Rattle.rlc_um.specs.Sender.{Sender as UmSender, head_of, is_held as um_is_held}
use Rattle.rlc_um.specs.Transparent.{taken as tm_taken}
use Rattle.l2_node.specs.Building.{visited, visit, building}
use Rattle.l2_node.specs.End.{End}
use Rattle.l2_node.specs.Finding.{has}
use Rattle.l2_node.specs.Hearing.{bearer_of}
use Rattle.law_node.specs.Calls.{Call, AreGiven, reached}
use Rattle.law_node.specs.Sharing.{share, held}

-- ---- what is told, and what is written

abbrev pub reasons_in : Event → List Waits
reasons_in (Wait lcid why) = why ∷ []
reasons_in _ = []

abbrev pub reasons : List Event → List Waits
reasons [] = []
reasons (e ∷ es) = reasons_in e ++ reasons es

-- what RLC's sender answers within a share
abbrev pub answer : Flow → ℕ → Option ℕ → Taken
answer (Tm b) share held = tm_taken b (share - 3)
answer (Um b) share held = um_answer b share held
answer (Am b) share held = am_answer b share held

abbrev pub data_pdus : Flow → ℕ → Option ℕ → List (List ℕ)
data_pdus f share held = pdus_of (answer f share held)

-- ---- data waits, in RLC or in PDCP

abbrev pub has_some : List (List ℕ) → Bool
has_some sdus = nat_lt 0 (length sdus)

abbrev pub has_data : Flow → Bool
has_data (Tm b) = has_some b.waiting
has_data (Um b) = has_some b.tx.waiting.sdus || um_has_more b.pdcp
has_data (Am b) = waits b.tx || (has_some b.tx.queue.sdus || am_has_more b.pdcp)

-- ---- the first reason against a data PDU that is true

abbrev pub tm_reason : List (List ℕ) → ℕ → Option Waits
tm_reason sdus size = if nat_lt size (length (first sdus)) then Some Small else None

-- a number that HARQ holds is too far back, or not an octet fits
abbrev pub um_reason : UmSender → ℕ → Option ℕ → Option Waits
um_reason s size held =
    if um_is_held held s then Some Held
    else if nat_lt size (head_of s.bits + 1) then Some Small
    else None

-- what waits to be sent again fits, whole or with an octet of it behind 4 of a header
abbrev pub fits_again : AmSender → ℕ → Bool
fits_again s size = (all_wait (again s) && nat_le (whole_size (again s)) size) || nat_le 5 size

-- the retransmission limit was reached; what is sent again comes before what is new, which the
-- window and HARQ may forbid
abbrev pub am_reason : AmSender → ℕ → Option ℕ → Option Waits
am_reason s size held =
    if s.failed then Some Stopped
    else if waits s then (if fits_again s size then None else Some Small)
    else if is_shut s then Some Shut
    else if am_is_held held (next s.window) then Some Held
    else if nat_lt size 3 then Some Small
    else None

abbrev pub reason : Flow → ℕ → Option ℕ → Option Waits
reason (Tm b) share held = tm_reason b.waiting (share - 3)
reason (Um b) share held = um_reason b.tx (size_in share) held
reason (Am b) share held = am_reason b.tx (data_size b share) held

-- ---- the law

abbrev pub if_some : Option Waits → List Waits
if_some None = []
if_some (Some why) = why ∷ []

-- a bearer with data writes one data PDU, or else tells the first reason, once; one without writes
-- none and tells none
pub record Tells (has : Bool) (why : Option Waits) (told : List Waits) (written : List (List ℕ)) :
    Type 0 where
  pub told_is : told ≡ (if has then if_some why else [])
  pub written_is : length written ≡ (if has && is_none why then 1 else 0)

abbrev pub TellsWhyItWaits : Type 0
TellsWhyItWaits = (lcid : ℕ) (f : Flow) (share : ℕ) (held : Option ℕ)
    → Tells (has_data f) (reason f share held) (reasons (told lcid f share held))
    (data_pdus f share held)

-- ---- a block

-- what the bearer of a channel tells, and all of them, in the order of the channels
abbrev pub told_on_channel : End → ℕ → Channel → List Event
told_on_channel e grant c = if has c.lcid e.bearers
    then told c.lcid (bearer_of c.lcid e).state.flow (share e grant c) (held e c) else []

abbrev pub all_told : End → ℕ → List Channel → List Event
all_told e grant [] = []
all_told e grant (c ∷ cs) = told_on_channel e grant c ++ all_told e grant cs

-- what is told of a new block, at any end
abbrev pub TellsInOrder : Type 0
TellsInOrder = (side : Side) (maximum : ℕ) (reports : Bool) (calls : List Call) → AreGiven calls
    → (tti grant : ℕ) (order : Order)
    → visit tti order (reached side maximum reports calls) ≡ New
    → building tti grant order (reached side maximum reports calls)
    ≡ all_told (visited tti order (reached side maximum reports calls)) grant
    (visited tti order (reached side maximum reports calls)).buckets.channels
