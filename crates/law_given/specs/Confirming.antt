-- What RLC confirms of the SDUs that it was given, and what it hands up of them, by the history of
-- their flow: SDUs by their numbers, in the order in which RLC was given them in this life (TS
-- 36.322 5.1.3.1.1, 5.1.3.2.3, 5.2.1).
use Rattle.std.specs.Prelude.{◌≡◌, ℕ, zero, suc, ◌+◌, Bool, true, not, ◌&&◌, if◌then◌else◌, nat_lt}
use Rattle.std.specs.Prelude.{List, [], ◌∷◌, ◌++◌, length, map, Option}
use Rattle.std.specs.List.{AllByRecursion}
use Rattle.l2_types.specs.declared.config.AmTxConfig.{AmTxConfig}
use Rattle.l2_types.specs.declared.AmRxConfig.{AmRxConfig}
use Rattle.rlc_pdu.specs.Pdus.{StatusPdu}
use Rattle.journal_account.specs.FlowEvents.{FlowEvent, field_sizes}
use Rattle.journal_account.specs.Stream.{sdu_sizes, is_in_sequence, is_whole_sdu}
use Rattle.journal_account.specs.Confirmed.{is_confirmed_sdu}
use Rattle.law_rlc.specs.AmSender.Run.{Call, Status, after}
use Rattle.law_rlc.specs.AmSender.Confirmed.{times}
use Rattle.law_rlc.specs.AmSender.Octets.{HasOctets}
use Rattle.law_rlc.specs.AmPair.Arrives.{Always, arrives}
use Rattle.law_rlc.specs.AmPair.Confirmed.{confirmed}
use Rattle.law_rlc.specs.AmPair.Flow.{Flow, Step, sender, receiver, goes, am_rlc_outset}
use Rattle.law_rlc.specs.AmPair.Given.{AreGiven}
use Rattle.law_rlc.specs.AmPair.Sdus.{offered, handed_up, ready}
use Rattle.law_account.specs.EndsTold.{AreEndsOf}
use Rattle.law_account.specs.FlowHistory.{with_steps}
use Rattle.law_account.specs.History.{IsTold, with_told, Follows}
use Rattle.law_account.specs.HistoryRuns.{Deed, Calls, Hears, IsTrue, AreTrue, with_deed}
use Rattle.law_account.specs.HistoryRuns.{with_deeds}

-- ---- a flow whose sizes a history tells

-- each SDU that RLC was given has an octet; how many it has is what the history says, and so is how
-- many the data field of each number has
pub record AreSizesTold (f : Flow) (es : List FlowEvent) : Type 0 where
  pub octets : AllByRecursion HasOctets f.sent
  pub sdus : sdu_sizes es ≡ map length (offered f)
  pub fields : field_sizes es ≡ map length (sender f).past.sent

abbrev pub SizesBeginTold : Type 0
SizesBeginTold = (sending : AmTxConfig) (receiving : AmRxConfig)
    → AreSizesTold (am_rlc_outset sending receiving) []

-- with more calls of the sender, and what happens at the receiver between them
abbrev pub calls_in : List Deed → List Call
calls_in [] = []
calls_in (Calls c o ∷ ds) = c ∷ calls_in ds
calls_in (Hears e ∷ ds) = calls_in ds

abbrev pub calls_more : List Deed → Flow → Flow
calls_more ds f = record f { sent = f.sent ++ calls_in ds }

abbrev pub SizesGoOnTold : Type 0
SizesGoOnTold =
    (f : Flow) (es : List FlowEvent) (ds : List Deed) → AreTrue ds es (sender f).state
    → AreSizesTold f es → AreSizesTold (calls_more ds f) (with_deeds ds es)

-- so the history of a flow's steps tells its sizes
abbrev pub FlowsHaveSizesTold : Type 0
FlowsHaveSizesTold = (sending : AmTxConfig) (receiving : AmRxConfig) (steps : List Step)
    → AreGiven (am_rlc_outset sending receiving) steps
    → AreSizesTold (goes steps (am_rlc_outset sending receiving))
    (with_steps steps (am_rlc_outset sending receiving) [])

-- ---- what the sender confirms

-- each SDU that is confirmed by the history was handed over by `Confirm`, or will be next: once,
-- and no other
abbrev pub ConfirmsAsTold : Type 0
ConfirmsAsTold = (most : ℕ) (f : Flow) (es : List FlowEvent) → AreSizesTold f es
    → Follows most es (sender f).state → (k : ℕ)
    → times k (confirmed f) ≡ (if is_confirmed_sdu es k then 1 else 0)

-- those that some are, of so many numbers from one on, ascending
abbrev pub those_from : (ℕ → Bool) → ℕ → ℕ → List ℕ
those_from p k zero = []
those_from p k (suc many) = if p k then k ∷ those_from p (k + 1) many
    else those_from p (k + 1) many

-- the SDUs that are confirmed by one history and weren't by one before it
abbrev pub newly_confirmed : List FlowEvent → List FlowEvent → List ℕ
newly_confirmed es now =
    those_from (λ k. is_confirmed_sdu now k && not (is_confirmed_sdu es k)) 0
    (length (sdu_sizes now))

-- a STATUS comes: what it newly confirms stands behind what wasn't handed over yet, of which a
-- bearer leaves none
abbrev pub StatusesConfirmAsTold : Type 0
StatusesConfirmAsTold = (most : ℕ) (f : Flow) (es : List FlowEvent) (status : StatusPdu)
    (o : Option FlowEvent) → AreSizesTold f es → Follows most es (sender f).state
    → IsTold (sender f).state (Status status) o
    → (after (sender f).state (Status status)).accounts.news
    ≡ (sender f).state.accounts.news ++ newly_confirmed es (with_told o es)

-- whatever else happens, nothing is newly confirmed
abbrev pub IsNoStatus : Deed → Type 0
IsNoStatus (Calls (Status status) o) = ⊥
IsNoStatus d = Unit {0}

abbrev pub OnlyStatusesConfirm : Type 0
OnlyStatusesConfirm =
    (most : ℕ) (f : Flow) (es : List FlowEvent) (d : Deed) → AreSizesTold f es
    → Follows most es (sender f).state → IsTrue es (sender f).state d → IsNoStatus d → (k : ℕ)
    → is_confirmed_sdu (with_deed d es) k ≡ is_confirmed_sdu es k

-- and what is confirmed stays so
abbrev pub ConfirmedStays : Type 0
ConfirmedStays =
    (most : ℕ) (f : Flow) (es : List FlowEvent) (d : Deed) → AreSizesTold f es
    → Follows most es (sender f).state → IsTrue es (sender f).state d → (k : ℕ)
    → is_confirmed_sdu es k ≡ true → is_confirmed_sdu (with_deed d es) k ≡ true

-- ---- what the receiver hands up

-- SDUs are in sequence by the history exactly as far as the receiver handed them up or has them
-- ready, and one is whole where all its octets have arrived
pub record HandsUpAsTold (f : Flow) (es : List FlowEvent) : Type 0 where
  pub in_sequence : (k : ℕ) → is_in_sequence es k
      ≡ nat_lt k (length (handed_up f) + length (ready f))
  pub whole : (k : ℕ) → is_whole_sdu es k ≡ arrives f k

abbrev pub FlowsHandUpAsTold : Type 0
FlowsHandUpAsTold = Always (λ f. (most : ℕ) (es : List FlowEvent) → AreSizesTold f es
    → AreEndsOf most es (sender f).state (receiver f).state → HandsUpAsTold f es)
