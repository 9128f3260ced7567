-- What an end of a channel can have still to send at most (TS 36.322 5.2.1, 7.2, TS 36.323 7.1): so
-- little that no sum of 64 bits is cut.
use Rattle.std.specs.Prelude.{ℕ, ◌^◌, ◌<◌, ◌≤◌, List, length}
use Rattle.std.specs.List.{AllByRecursion}
use Rattle.l2_types.specs.declared.limits.TheConstants.{GREATEST_SDU, MOST_WAITING}
use Rattle.pdcp_tx.specs.State.{State as PdcpState}
use Rattle.rlc_queue.specs.Waiting.{total}
use Rattle.rlc_am_tx_window.specs.Sent.{Sent}
use Rattle.bearer.specs.declared.flow.Flow.{Flow}
use Rattle.bearer.specs.declared.flow.Flow.TheVariants.{Tm, Um, Am}
use Rattle.law_drain.specs.Left.{AllSent, AllWaiting, StandsIn, end_measure}
use Rattle.law_drain.specs.Unsent.{report_octets}

abbrev pub IsShortSdu : List ℕ → Type 0
IsShortSdu sdu = length sdu ≤ GREATEST_SDU

-- at most as many SDUs are given again as there are COUNTs, and at most 1024 wait
pub record HasFewSdus (s : PdcpState) : Type 0 where
  pub again : length s.again ≤ 2 ^ 32
  pub waiting : length s.waiting ≤ MOST_WAITING
  pub short_again : AllSent IsShortSdu s.again
  pub short_waiting : AllWaiting IsShortSdu s.waiting
  pub report : report_octets s.owed ≤ 2051

-- a segment's place has 15 bits (TS 36.322 6.2.2.7)
abbrev pub IsShortField : Sent → Type 0
IsShortField h = length h.field < 2 ^ 15

abbrev pub HasFew : Flow → Type 0
HasFew (Tm b) = (length b.waiting ≤ MOST_WAITING) × AllByRecursion IsShortSdu b.waiting
HasFew (Um b) = HasFewSdus b.pdcp.tx × (total b.tx.waiting.sdus ≤ 8193)
HasFew (Am b) = HasFewSdus b.pdcp.tx × ((total b.tx.queue.sdus ≤ 8193)
    × (AllByRecursion IsShortField b.tx.window.slots × (b.tx_config.max_retx ≤ 32)))

-- an acknowledged sender having at most 512 PDUs in its window
abbrev pub EndMeasuresAreFew : Type 0
EndMeasuresAreFew = (f : Flow) (h : StandsIn f) → HasFew f → end_measure f h ≤ 2 ^ 53
