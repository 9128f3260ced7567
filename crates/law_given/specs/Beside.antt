-- What a checker gathers of what PDCP gives RLC of acknowledged data stays beside both ends, in a
-- step of either (docs/laws/ACCOUNT.md; TS 36.322 5.1.3.1.1, 5.1.3.2.3, TS 36.323 5.1.1, 5.2.1.1,
-- 5.3, 5.4).
use Rattle.std.specs.Prelude.{◌≡◌, ℕ, ◌+◌, Bool, false, nat_lt, List, [], ◌++◌, length}
use Rattle.std.specs.Prelude.{option_to_list}
use Rattle.std.specs.List.{AllByRecursion}
use Rattle.bearer.specs.Acknowledged.State.{State}
use Rattle.bearer.specs.Bearer.{flow_of}
use Rattle.bearer.specs.declared.flow.Flow.TheVariants.{Am}
use Rattle.bearer_types.specs.Sides.{other}
use Rattle.bearer_types.specs.declared.config.BearerConfig.{BearerConfig}
use Rattle.eps_sec.specs.declared.Keys.{Keys}
use Rattle.l2_num.specs.Ascending.{IsAscending}
use Rattle.l2_types.specs.declared.Kind.TheVariants as kinds
use Rattle.l2_types.specs.declared.side.Side.{Side}
use Rattle.l2_types.specs.declared.side.Side.TheVariants.{Nb, Ue}
use Rattle.pdcp_pdu.specs.Kinds.{IsKind}
use Rattle.pdcp_pdu.specs.declared.PdcpKind.TheVariants.{Am as AmKind}
use Rattle.pdcp_rx.specs.State.{report}
use Rattle.rlc_am_tx.specs.Machine.{after_status}
use Rattle.rlc_pdu.specs.Pdus.{StatusPdu}
use Rattle.rlc_pdu.specs.Reading.{am_at}
use Rattle.journal_account.specs.Confirmed.{is_confirmed_sdu}
use Rattle.journal_account.specs.FlowEvents.{FlowEvent}
use Rattle.journal_account.specs.Stream.{sdu_sizes}
use Rattle.journal_lives.specs.CountsCome.{CountsCome}
use Rattle.journal_given.specs.Giving.{side_of}
use Rattle.journal_given.specs.Supplies.{Supply, Bearer, History, histories, begun, life_ended}
use Rattle.law_bearer.specs.AmBearer.Calls.{tells, IsOfData, IsIdle}
use Rattle.law_bearer.specs.AmBearer.Lives.{closed}
use Rattle.law_bearer.specs.AnyBearer.Calls.{Call, Restart, after, after_all, goes}
use Rattle.law_bearer.specs.AnyBearer.Rounds.{arrivals}
use Rattle.law_rlc.specs.AmPair.Confirmed.{confirmed}
use Rattle.law_rlc.specs.AmPair.Flow.{sender}
use Rattle.law_rlc.specs.AmPair.Sdus.{offered, handed_up}
use Rattle.law_rlc.specs.AmSender.Confirmed.{times}
use Rattle.law_account.specs.History.{Follows}
use Rattle.law_given.specs.BearerRecords.{landed_by}
use Rattle.law_given.specs.Confirming.{AreSizesTold}
use Rattle.law_given.specs.Joined.{Direction, rlc}
use Rattle.law_given.specs.Landing.{Block, pdus_of, BringsNoData, BringsNoStatus, news_of, ready_of}
use Rattle.law_given.specs.Supplied.{Progress, IsSupplied, IsReadAs}
use Rattle.law_given.specs.SupplyLaws.{IsOwn, submitted_by, gathered, offered_in, AreRight}
use Rattle.law_given.specs.SupplyLaws.{ConfirmsAnew, IsInWindow}

-- ---- a direction goes on in a step of a life

-- by what its sender's bearer gives RLC, what RLC hands up at the other end, and what it confirms
pub record GoesOnAs (d e : Direction) (offers ups : List (List ℕ)) (news : List ℕ) : Type 0 where
  pub offered_is : offered (rlc e) ≡ offered (rlc d) ++ offers
  pub handed_is : handed_up (rlc e) ≡ handed_up (rlc d) ++ ups
  pub confirmed_is : (k : ℕ)
      → times k (confirmed (rlc e)) ≡ times k (confirmed (rlc d)) + times k news

-- ---- what it confirms, by the history of its flow

-- nothing is newly confirmed by a history where the sender confirms nothing
abbrev pub NoneConfirmedAnew : Type 0
NoneConfirmedAnew =
    (most most' : ℕ) (d e : Direction) (es es' : List FlowEvent) (offers ups : List (List ℕ))
    → GoesOnAs d e offers ups [] → AreSizesTold (rlc d) es → AreSizesTold (rlc e) es'
    → Follows most es (sender (rlc d)).state → Follows most' es' (sender (rlc e)).state → (k : ℕ)
    → is_confirmed_sdu es' k ≡ is_confirmed_sdu es k

-- and as it confirms, just those are
abbrev pub ThoseConfirmedAnew : Type 0
ThoseConfirmedAnew =
    (most most' : ℕ) (d e : Direction) (es es' : List FlowEvent) (offers ups : List (List ℕ))
    (news : List ℕ)
    → GoesOnAs d e offers ups news → AreSizesTold (rlc d) es → AreSizesTold (rlc e) es'
    → Follows most es (sender (rlc d)).state → Follows most' es' (sender (rlc e)).state
    → IsAscending 0 news
    → ConfirmsAnew (is_confirmed_sdu es) (is_confirmed_sdu es') (length (sdu_sizes es')) news

-- what one STATUS newly confirms ascends, where nothing waits to be handed over
abbrev pub NewsAscend : Type 0
NewsAscend =
    (d : Direction) (b : State) (status : StatusPdu) → (sender (rlc d)).state ≡ b.tx
    → b.tx.accounts.news ≡ [] → IsAscending 0 (after_status b.tx status).accounts.news

-- ---- what is gathered of a side stands beside its bearer, beside the direction that goes from it,
-- and beside the history of RLC's flow in the life that runs

abbrev pub progress : Direction → List FlowEvent → Progress
progress d es = record {
  offered = offered (rlc d);
  is_confirmed = is_confirmed_sdu es;
  came = nat_lt 0 (length (handed_up (rlc d)));
}

pub record IsGivenBy (c : BearerConfig) (d : Direction) (from to : State) (es : List FlowEvent)
    (s : Supply History) : Type 0 where
  pub bits : s.bits ≡ c.pdcp_bits
  pub sizes : AreSizesTold (rlc d) es
  pub supplied : IsSupplied (progress d es) from.pdcp.tx s
  -- its status report is read as what it says, once it comes to the other end
  pub window : IsInWindow c.pdcp_bits to.pdcp.tx s.said

-- of both sides
pub record AreGivenBy (c : BearerConfig) (there back : Direction) (one two : State)
    (es xs : List FlowEvent) (own far : Supply History) : Type 0 where
  pub own_is : IsGivenBy c there one two es own
  pub far_is : IsGivenBy c back two one xs far

-- ---- an end's own call

pub record StayByCall (c : BearerConfig) (there back : Direction) (one d two : State)
    (es xs : List FlowEvent) (call : Call) (own far : Supply History) : Type 0 where
  pub given : AreGivenBy c there back d two es xs (gathered one call own) far
  pub right : AreRight (tells one call) (submitted_by call own)

-- what each history says of the sizes of its flow and of what is confirmed is as it was
abbrev pub OwnCallsStayBeside : Type 0
OwnCallsStayBeside =
    (c : BearerConfig) (there back there' back' : Direction) (one two d : State)
    (es es' xs xs' : List FlowEvent) (call : Call) (own far : Supply History) → IsOwn call
    → IsKind (AmKind c.pdcp_bits) → IsOfData c.pdcp_bits one → IsIdle one
    → after (Am one) call ≡ Am d
    → GoesOnAs there there' (offered_in one call) [] [] → GoesOnAs back back' [] [] []
    → AreSizesTold (rlc there') es' → AreSizesTold (rlc back') xs'
    → ((k : ℕ) → is_confirmed_sdu es' k ≡ is_confirmed_sdu es k)
    → ((k : ℕ) → is_confirmed_sdu xs' k ≡ is_confirmed_sdu xs k)
    → AreGivenBy c there back one two es xs own far
    → StayByCall c there' back' one d two es' xs' call own far

-- and where no bearer of the channel is called
abbrev pub OtherStepsStayBeside : Type 0
OtherStepsStayBeside =
    (c : BearerConfig) (there back there' back' : Direction) (one two : State)
    (es es' xs xs' : List FlowEvent) (own far : Supply History)
    → GoesOnAs there there' [] [] [] → GoesOnAs back back' [] [] []
    → AreSizesTold (rlc there') es' → AreSizesTold (rlc back') xs'
    → ((k : ℕ) → is_confirmed_sdu es' k ≡ is_confirmed_sdu es k)
    → ((k : ℕ) → is_confirmed_sdu xs' k ≡ is_confirmed_sdu xs k)
    → AreGivenBy c there back one two es xs own far
    → AreGivenBy c there' back' one two es' xs' own far

-- ---- a block of one end comes to the other

-- RLC has handed up the PDUs that it was given first
abbrev pub HandsUpFirst : Direction → Type 0
HandsUpFirst d = (rest : List (List ℕ)) × (offered (rlc d) ≡ handed_up (rlc d) ++ rest)

abbrev pub BlocksStayBeside : Type 0
BlocksStayBeside =
    (c : BearerConfig) (there back there' back' : Direction) (one two d : State)
    (es es' xs xs' : List FlowEvent) (from : Side) (k : Block) (status : Bool)
    (sequenced is_confirmed : ℕ → Bool) (b : Bearer History)
    → IsKind (AmKind c.pdcp_bits) → IsOfData c.pdcp_bits two → IsIdle two
    → AllByRecursion (λ (pdu : List ℕ). BringsNoData (am_at pdu)) k.statuses
    → AllByRecursion (λ (pdu : List ℕ). BringsNoStatus (am_at pdu)) (option_to_list k.last)
    → after_all (Am two) (arrivals (pdus_of k)) ≡ Am d
    → GoesOnAs there there' [] (ready_of k.last two.rx) []
    → GoesOnAs back back' [] [] (news_of k.statuses two)
    → HandsUpFirst there'
    -- by what the checker gathers of both histories as the block comes
    → ((number : ℕ) → sequenced number ≡ nat_lt number (length (handed_up (rlc there'))))
    → ((number : ℕ) → is_confirmed number ≡ is_confirmed_sdu xs' number)
    → ConfirmsAnew (is_confirmed_sdu xs) is_confirmed (side_of (other from) b).given
    (news_of k.statuses two)
    → (status ≡ false → news_of k.statuses two ≡ [])
    → ((number : ℕ) → is_confirmed_sdu es' number ≡ is_confirmed_sdu es number)
    → AreSizesTold (rlc there') es' → AreSizesTold (rlc back') xs'
    → AreGivenBy c there back one two es xs (side_of from b) (side_of (other from) b)
    → AreGivenBy c there' back' one d es' xs'
    (side_of from (landed_by histories from status sequenced is_confirmed b))
    (side_of (other from) (landed_by histories from status sequenced is_confirmed b))

-- ---- lives

-- RLC was given nothing yet
pub record HasJustBegun (d : Direction) : Type 0 where
  pub offered_none : offered (rlc d) ≡ []
  pub handed_none : handed_up (rlc d) ≡ []
  pub sizes : AreSizesTold (rlc d) []

abbrev pub FirstLivesBeginBeside : Type 0
FirstLivesBeginBeside =
    (c : BearerConfig) (keys : Keys) (there back : Direction) (one two : State) → c.kind ≡ kinds.Am
    → flow_of c.kind c keys Nb ≡ Am one → flow_of c.kind c keys Ue ≡ Am two
    → HasJustBegun there → HasJustBegun back
    → AreGivenBy c there back one two [] [] (begun histories c.first c.pdcp_bits)
    (begun histories c.first c.pdcp_bits)

-- each end's report of what had come from the other is read as what is said, in the window of the
-- other's sender
abbrev pub NextLivesBeginBeside : Type 0
NextLivesBeginBeside =
    (c : BearerConfig) (there back there' back' : Direction) (one two one' two' : State)
    (es xs : List FlowEvent) (keys : Keys) (own_said far_said : CountsCome)
    (own far : Supply History)
    → IsOfData c.pdcp_bits one → IsIdle one → IsOfData c.pdcp_bits two → IsIdle two
    → goes (Am one) (Restart keys) ≡ Am one' → goes (Am two) (Restart keys) ≡ Am two'
    → IsReadAs c.pdcp_bits (report (closed one)) own_said
    → IsReadAs c.pdcp_bits (report (closed two)) far_said
    → IsInWindow c.pdcp_bits two'.pdcp.tx own_said → IsInWindow c.pdcp_bits one'.pdcp.tx far_said
    → HasJustBegun there' → HasJustBegun back'
    → AreGivenBy c there back one two es xs own far
    → AreGivenBy c there' back' one' two' [] [] (life_ended histories own_said own)
    (life_ended histories far_said far)
